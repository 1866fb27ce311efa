-- A whole row of queries: the lines looked at, the positions found, and what the call answers.
use Rattle.std.specs.Prelude.{ℕ, suc, ◌+◌, ◌≡◌, true, false, not, cond, List, [], ◌∷◌, map, leb, eqb, ℤ, length, drop}
use Rattle.theory.specs.Lists.{none}
use Rattle.theory.specs.Tests.{◌and◌, unless}
use Rattle.format.specs.Given.{Given, gives, refused, refused_at, ◌then◌}
use Rattle.binary32.specs.Patterns.{not_finite, pattern_values}
use Rattle.saved_lines.specs.Offsets.{nearer, nearest, descends}
use Rattle.saved_lines.specs.Lines.{Examination, passed, patterns_checked, lines_checked}

-- ---- on exact values
-- the lines looked at for q in a list that is handed on: the line it starts from, then each next line up to and including the first that
-- is not closer, or to the end
unfoldable pub looked : (q : ℤ) → List ℤ → ℕ
looked q [] = 0
looked q (v ∷ []) = 1
looked q (v ∷ w ∷ vs) = suc (cond (nearer q w v) (looked q (w ∷ vs)) 1)

-- those of a row of queries, the first of which starts at the position `from`: the search goes on in the rest of the list, from the
-- line just found
unfoldable pub row_looked : (vs : List ℤ) (from : ℕ) → List ℤ → ℕ
row_looked vs from [] = 0
row_looked vs from (q ∷ qs) = looked q (drop from vs) + row_looked vs (nearest vs q) qs

-- each query's position
abbrev pub row_found : (vs qs : List ℤ) → List ℕ
row_found vs qs = map (nearest vs) qs

-- ---- the checks of the queries: 9 with its index, then 16
unfoldable pub queries_checked : List ℕ → Examination
queries_checked qs = patterns_checked qs (unless (not (descends (pattern_values qs))) (refused 16) passed)

-- queries that passed them
pub record Queried (qs : List ℕ) : Type 0 where
  pub finite : none not_finite qs ≡ true
  pub order : descends (pattern_values qs) ≡ false

-- ---- the answer of nearest_lines: 11, the list, the queries, and then the count of lines looked at; `room` is the length of the slice
-- that is lent
unfoldable pub nearest_lines : (l qs : List ℕ) (room : ℕ) → Given ℕ
nearest_lines l qs room =
    unless (eqb (length qs) room and leb (length qs) 4096) (refused 11)
    (lines_checked l true then λ _. queries_checked qs then λ _. gives (row_looked (pattern_values l) 0 (pattern_values qs)))

-- the slice that is lent afterwards: each query's position; a refusal changes nothing
abbrev pub row_written : Given ℕ → (l qs old : List ℕ) → List ℕ
row_written (gives n) l qs old = row_found (pattern_values l) (pattern_values qs)
row_written (refused number) l qs old = old
row_written (refused_at number index) l qs old = old
