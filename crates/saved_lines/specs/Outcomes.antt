-- What the calls of this crate give, in the words of requests 2, 5, 7 and 12: each refusal with its condition, exactly where no earlier one
-- holds; the nearest line; the lines within reach.
use Rattle.std.specs.Prelude.{ℕ, suc, ◌≤◌, ◌<◌, ◌≡◌, Bool, true, false, List, ◌⊎◌, ◌≢◌, ℤ, pos, length, get_or, ◌<ℤ◌, ◌≤ℤ◌}
use Rattle.theory.specs.Tests.{◌and◌}
use Rattle.format.specs.Given.{Given, gives, refused, refused_at}
use Rattle.binary32.specs.Patterns.{finite, pattern_value, pattern_values}
use Rattle.saved_lines.specs.Offsets.{distance}
use Rattle.saved_lines.specs.Lines.{Checked, lines_found}
use Rattle.saved_lines.specs.Rows.{row_looked, Queried}

-- ---- the list
-- the offset at a position of a list of patterns
abbrev pub offset : List ℕ → ℕ → ℤ
offset l k = pattern_value (get_or l k 0)

-- an allowed length
pub record Allowed (l : List ℕ) : Type 0 where
  pub some : 1 ≤ length l
  pub most : length l ≤ 4096

-- the patterns before n are finite
abbrev pub AllFinite : List ℕ → (n : ℕ) → Type 0
AllFinite l n = (k : ℕ) → k < n → finite (get_or l k 0) ≡ true

-- some offset is above the next
pub record Descent (l : List ℕ) : Type 0 where
  pub place : ℕ
  pub inside : suc place < length l
  pub falls : offset l (suc place) <ℤ offset l place

-- none is
abbrev pub Ascends : List ℕ → Type 0
Ascends l = (k : ℕ) → suc k < length l → offset l k ≤ℤ offset l (suc k)

-- two neighbours are equal
pub record Repetition (l : List ℕ) : Type 0 where
  pub place : ℕ
  pub inside : suc place < length l
  pub equal : offset l place ≡ offset l (suc place)

-- the list is refused with this answer; t: the numbers beside it are finite
pub data ListRefused {A : Type 0} (l : List ℕ) (t : Bool) : Given A → Type 0 where
  wrong_length : (length l ≡ 0) ⊎ (4096 < length l) → ListRefused l t (refused 12)
  bad_pattern : {n : ℕ} → Allowed l → n < length l → finite (get_or l n 0) ≡ false → AllFinite l n → ListRefused l t (refused_at 9 n)
  bad_number : Allowed l → AllFinite l (length l) → t ≡ false → ListRefused l t (refused 9)
  descending : Allowed l → AllFinite l (length l) → t ≡ true → Descent l → ListRefused l t (refused 13)
  repeating : Allowed l → AllFinite l (length l) → t ≡ true → Ascends l → Repetition l → ListRefused l t (refused 15)

-- ---- the nearest line
-- how far it is from the query
abbrev pub away : List ℕ → (q k : ℕ) → ℕ
away l q k = distance (offset l k) (pattern_value q)

-- n is the line nearest to the query q
pub record Nearest (l : List ℕ) (q n : ℕ) : Type 0 where
  pub position : n < length l
  pub none_nearer : (k : ℕ) → k < length l → away l q n ≤ away l q k
  pub smaller_wins : (k : ℕ) → k < length l → k ≢ n → away l q k ≡ away l q n → offset l n <ℤ offset l k
  pub one_tie : (j k : ℕ) → j < k → k < length l → j ≢ n → k ≢ n → away l q j ≡ away l q n → away l q k ≡ away l q n → ⊥

-- what nearest_line gives
pub data NearestEnds (l : List ℕ) (q : ℕ) : Given ℕ → Type 0 where
  list_refused : {x : Given ℕ} → ListRefused l (finite q) x → NearestEnds l q x
  found : {n : ℕ} → Checked l → finite q ≡ true → Nearest l q n → NearestEnds l q (gives n)

-- ---- the lines within reach
-- line n is at most the distance away
pub record Within (l : List ℕ) (q d n : ℕ) : Type 0 where
  pub position : n < length l
  pub near : pos (distance (offset l n) (pattern_value q)) ≤ℤ pattern_value d

-- what lines_within gives
pub data ReachEnds (l : List ℕ) (q d room : ℕ) : Given ℕ → Type 0 where
  reach_refused : {x : Given ℕ} → ListRefused l (finite q and finite d) x → ReachEnds l q d room x
  too_short : Checked l → finite q and finite d ≡ true → room < length (lines_found l q d) → ReachEnds l q d room (refused 14)
  reached : Checked l → finite q and finite d ≡ true → length (lines_found l q d) ≤ room → ReachEnds l q d room (gives (length (lines_found l q d)))

-- ---- a row of queries
-- as many queries as places in `out`, and not too many
abbrev pub Fitting : (qs : List ℕ) (room : ℕ) → Type 0
Fitting qs room = (length qs ≡ room) × (length qs ≤ 4096)

-- what nearest_lines gives
pub data RowEnds (l qs : List ℕ) (room : ℕ) : Given ℕ → Type 0 where
  lengths_differ : ¬ Fitting qs room → RowEnds l qs room (refused 11)
  row_list_refused : {x : Given ℕ} → Fitting qs room → ListRefused l true x → RowEnds l qs room x
  bad_query : {n : ℕ} → Fitting qs room → Checked l → n < length qs → finite (get_or qs n 0) ≡ false → AllFinite qs n → RowEnds l qs room (refused_at 9 n)
  queries_descend : Fitting qs room → Checked l → AllFinite qs (length qs) → Descent qs → RowEnds l qs room (refused 16)
  looked : Fitting qs room → Checked l → Queried qs → RowEnds l qs room (gives (row_looked (pattern_values l) 0 (pattern_values qs)))
