-- The sum of two slices of patterns, entry by entry, and how many of the sums are not exact.
use Rattle.std.specs.Prelude.{ℕ, suc, ◌+◌, ◌≤◌, ◌<◌, ◌≡◌, Bool, true, false, List, [], ◌∷◌, map, eqb, length, get_or, ◌+ℤ◌}
use Rattle.theory.specs.Tests.{◌and◌, unless}
use Rattle.theory.specs.Lists.{first_where}
use Rattle.theory.specs.declared.Direction.{Direction}
use Rattle.theory.specs.declared.Mark.TheVariants.{Exact}
use Rattle.theory.specs.Marks.{inexact}
use Rattle.format.specs.Directions.{is_direction, direction}
use Rattle.format.specs.Given.{Given, gives, refused, refused_at, ◌then◌}
use Rattle.binary32.specs.Patterns.{pattern_value}
use Rattle.binary32_arithmetic.specs.Calls.{Sum, on_patterns, pattern_alone}
use Rattle.binary32_arithmetic.specs.declared.MarkedPattern.{MarkedPattern}

-- ---- an entry by itself
-- the sum of two patterns, without its mark
abbrev pub entry_sum : Direction → (x y : ℕ) → Given ℕ
entry_sum d x y = pattern_alone (on_patterns Sum d x y)

-- without its pattern
abbrev pub passes : Given ℕ → Given Unit
passes (gives n) = gives tt
passes (refused number) = refused number
passes (refused_at number index) = refused_at number index

abbrev pub is_refused : Given ℕ → Bool
is_refused (gives n) = false
is_refused (refused number) = true
is_refused (refused_at number index) = true

-- the refusal of an entry with its index
abbrev pub answer_at : Given ℕ → (index : ℕ) → Given Unit
answer_at (gives n) index = gives tt
answer_at (refused number) index = refused_at number index
answer_at (refused_at number other) index = refused_at number index

-- the pattern that is written, where there is one
abbrev pub written : Given ℕ → ℕ
written (gives n) = n
written (refused number) = 0
written (refused_at number index) = 0

-- ---- all entries
unfoldable pub entries : Direction → (a b : List ℕ) → List (Given ℕ)
entries d [] b = []
entries d (x ∷ a) [] = []
entries d (x ∷ a) (y ∷ b) = entry_sum d x y ∷ entries d a b

-- the refusal of the first entry that is refused, with its index
unfoldable pub first_refused : List (Given ℕ) → Given Unit
first_refused sums = answer_at (get_or sums (first_where is_refused sums) (gives 0)) (first_where is_refused sums)

-- what is written, entry by entry
unfoldable pub sums : Direction → (a b : List ℕ) → List ℕ
sums d a b = map written (entries d a b)

-- ---- marks
-- 1 for a sum that is not exact
abbrev pub inexact_in : Given MarkedPattern → ℕ
inexact_in (gives x) = inexact x.mark
inexact_in (refused number) = 0
inexact_in (refused_at number index) = 0

-- how many entries are not exact
unfoldable pub inexact_entries : Direction → (a b : List ℕ) → ℕ
inexact_entries d [] b = 0
inexact_entries d (x ∷ a) [] = 0
inexact_entries d (x ∷ a) (y ∷ b) = inexact_in (on_patterns Sum d x y) + inexact_entries d a b

-- ---- the call
-- the answer of sum_slices: the lengths (11), the direction (2), 9 and 5 entry by entry, then how many entries are not exact
unfoldable pub slices_answer : (d : ℕ) (a b out : List ℕ) → Given ℕ
slices_answer d a b out =
    unless (eqb (length a) (length b) and eqb (length a) (length out)) (refused 11)
    (unless (is_direction d) (refused 2)
    (first_refused (entries (direction d) a b) then (λ done. gives (inexact_entries (direction d) a b))))

-- what the third slice holds afterwards: the sums, or at a refusal what it held before
abbrev pub slices_written : Given ℕ → (new old : List ℕ) → List ℕ
slices_written (gives inexact) new old = new
slices_written (refused number) new old = old
slices_written (refused_at number index) new old = old

-- ---- in the words of document 01
-- the sum of the two entries with index i
abbrev pub entry_of : Direction → (a b : List ℕ) (i : ℕ) → Given ℕ
entry_of d a b i = entry_sum d (get_or a i 0) (get_or b i 0)

-- the entries below n are not refused, and `sums` holds the sum of each
abbrev pub Sums : Direction → (a b : List ℕ) (n : ℕ) → Type 0
Sums d a b n = (i : ℕ) → i < n → entry_of d a b i ≡ gives (get_or (sums d a b) i 0)

-- entry i is refused by the number k, and none before it
pub record FirstRefused (d : Direction) (a b : List ℕ) (k i : ℕ) : Type 0 where
  pub within : i < length a
  pub refused : entry_of d a b i ≡ refused k
  pub earlier : Sums d a b i

abbrev pub SameLengths : (a b out : List ℕ) → Type 0
SameLengths a b out = (length a ≡ length b) × (length a ≡ length out)

-- the value of the sum that is written at i is the exact sum of the two entries
abbrev pub ExactAt : Direction → (a b : List ℕ) (i : ℕ) → Type 0
ExactAt d a b i = pattern_value (get_or (sums d a b) i 0) ≡ pattern_value (get_or a i 0) +ℤ pattern_value (get_or b i 0)

-- c of the first n sums are not exact
pub data Inexact (d : Direction) (a b : List ℕ) : (n c : ℕ) → Type 0 where
  none : Inexact d a b 0 0
  exact : {n c : ℕ} → Inexact d a b n c → ExactAt d a b n → Inexact d a b (suc n) c
  more : {n c : ℕ} → Inexact d a b n c → ¬ ExactAt d a b n → Inexact d a b (suc n) (suc c)

-- the four ends of a call
pub data Ends (d : ℕ) (a b out : List ℕ) (r : Given ℕ) : Type 0 where
  lengths_differ : ¬ SameLengths a b out → r ≡ refused 11 → Ends d a b out r
  no_direction : SameLengths a b out → 4 < d → r ≡ refused 2 → Ends d a b out r
  refused_entry : SameLengths a b out → d ≤ 4 → {k i : ℕ} → FirstRefused (direction d) a b k i → r ≡ refused_at k i → Ends d a b out r
  all_written : SameLengths a b out → d ≤ 4 → Sums (direction d) a b (length a) → {c : ℕ} → Inexact (direction d) a b (length a) c → r ≡ gives c
      → Ends d a b out r

-- ---- for inner functions: an entry as it is written
abbrev pub entry_written : Given MarkedPattern → MarkedPattern
entry_written (gives x) = x
entry_written (refused number) = record { pattern = 0; mark = Exact }
entry_written (refused_at number index) = record { pattern = 0; mark = Exact }
