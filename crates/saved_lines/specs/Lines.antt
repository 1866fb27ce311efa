-- What the calls of this crate answer, in the requests' numbers.
use Rattle.std.specs.Prelude.{ℕ, ◌≤◌, ◌≡◌, Bool, true, false, not, List, ◌++◌, leb, length, drop}
use Rattle.theory.specs.Lists.{first_where, none}
use Rattle.theory.specs.Tests.{◌and◌, unless}
use Rattle.format.specs.Given.{Given, gives, refused, refused_at, ◌then◌}
use Rattle.binary32.specs.Patterns.{finite, not_finite, pattern_value, pattern_values}
use Rattle.saved_lines.specs.Offsets.{nearest, nearest_first, is_within, descends, repeats}
use Rattle.saved_lines.specs.Positions.{positions_where}

-- an examination passes or is refused
abbrev pub Examination : Type 0
Examination = Given (Unit {0})

abbrev pub passed : Examination
passed = gives tt

-- ---- the checks
-- 9 for the first pattern that is not finite, with its index; else what comes after
unfoldable pub patterns_checked : (l : List ℕ) → Examination → Examination
patterns_checked l go_on = unless (none not_finite l) (refused_at 9 (first_where not_finite l)) go_on

-- 13 for a list that descends somewhere, then 15 for two equal neighbours
unfoldable pub ascent_checked : List ℕ → Examination
ascent_checked l = unless (not (descends (pattern_values l))) (refused 13) (unless (not (repeats (pattern_values l))) (refused 15) passed)

-- 12 for a list that is empty or longer than 4,096, 9 for its patterns, 9 for the numbers beside it, 13, 15
unfoldable pub lines_checked : (l : List ℕ) (finite : Bool) → Examination
lines_checked l finite =
    unless (leb 1 (length l) and leb (length l) 4096) (refused 12)
    (patterns_checked l (unless finite (refused 9) (ascent_checked l)))

-- a list that passed them
pub record Checked (l : List ℕ) : Type 0 where
  pub some : 1 ≤ length l
  pub most : length l ≤ 4096
  pub finite : none not_finite l ≡ true
  pub order : descends (pattern_values l) ≡ false
  pub strict : repeats (pattern_values l) ≡ false

-- ---- the calls
-- the answer of nearest_line
unfoldable pub nearest_line : (l : List ℕ) (query : ℕ) → Given ℕ
nearest_line l query = lines_checked l (finite query) then λ _. gives (nearest (pattern_values l) (pattern_value query))

-- the positions of all lines within the distance of the query
abbrev pub lines_found : (l : List ℕ) (query distance : ℕ) → List ℕ
lines_found l query distance = positions_where (is_within (pattern_value query) (pattern_value distance)) (pattern_values l)

-- the same, the nearest first
abbrev pub lines_in_order : (l : List ℕ) (query distance : ℕ) → List ℕ
lines_in_order l query distance = nearest_first (pattern_values l) (pattern_value query) (lines_found l query distance)

-- the answer of lines_within, where `room` is the length of the slice that is lent: 14 where more are found, else how many
unfoldable pub lines_within : (l : List ℕ) (query distance room : ℕ) → Given ℕ
lines_within l query distance room =
    lines_checked l (finite query and finite distance)
    then λ _. unless (leb (length (lines_found l query distance)) room) (refused 14) (gives (length (lines_found l query distance)))

-- what the lent slice holds after the answer, where it held `old` and the positions `listed` were found: they stand first, and the rest
-- is unchanged; a refusal changes nothing
abbrev pub within_written : Given ℕ → (listed old : List ℕ) → List ℕ
within_written (gives n) listed old = listed ++ drop n old
within_written (refused number) listed old = old
within_written (refused_at number index) listed old = old
