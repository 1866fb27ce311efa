-- The walk outward from the query, of which the code's inner functions speak.
use Rattle.std.specs.Prelude.{ℕ, suc, ◌-◌, ◌≤◌, ◌<◌, ◌≡◌, List, ◌++◌, length}
use Rattle.theory.specs.Lists.{first_where}
use Rattle.binary32.specs.Patterns.{pattern_value, pattern_values}
use Rattle.saved_lines.specs.Offsets.{nearest_place}
use Rattle.saved_lines.specs.Positions.{range}
use Rattle.saved_lines.specs.Searches.{at_least}
use Rattle.saved_lines.specs.Lines.{lines_found}

-- the positions from `first` up to `left`, all below the query, and from `right` up to `end`, all from the query on
pub record Walk (l : List ℕ) (query first left right end : ℕ) : Type 0 where
  pub low : first ≤ left
  pub below : left ≤ first_where (at_least query) l
  pub above : first_where (at_least query) l ≤ right
  pub high : right ≤ end
  pub most : end ≤ length l

abbrev pub outside : (first left right end : ℕ) → List ℕ
outside first left right end = range first (left - first) ++ range right (end - right)

-- r is the nearest of them: the one before `left`, or the one at `right`
pub data Next (l : List ℕ) (query first left right end : ℕ) : ℕ → Type 0 where
  before : {r : ℕ} → suc r ≡ left → first ≤ r → nearest_place (pattern_values l) (pattern_value query) (outside first left right end) ≡ r - first
      → Next l query first left right end r
  after : {r : ℕ} → r ≡ right → r < end → nearest_place (pattern_values l) (pattern_value query) (outside first left right end) ≡ left - first
      → Next l query first left right end r

-- the lines within reach stand from `first` up to `end`, and the walk starts at `split`
pub record Around (l : List ℕ) (query distance first split end : ℕ) : Type 0 where
  pub found : range first (end - first) ≡ lines_found l query distance
  pub walk : Walk l query first split split end
