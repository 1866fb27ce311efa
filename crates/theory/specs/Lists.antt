-- A list and a test: whether every entry passes, the first that does, and whether some entry passes with the one after it; the numbers of
-- a range as a list, for tests that are computed.
use Rattle.std.specs.Prelude.{ℕ, zero, suc, Bool, true, false, cond, List, [], ◌∷◌, leb, length}
use Rattle.theory.specs.Tests.{◌and◌, ◌or◌}

-- every entry passes
unfoldable pub all : {A : Type 0} → (A → Bool) → List A → Bool
all test [] = true
all test (x ∷ xs) = test x and all test xs

-- the position of the first entry that passes, or the length where none does
unfoldable pub first_where : {A : Type 0} → (A → Bool) → List A → ℕ
first_where test [] = 0
first_where test (x ∷ xs) = cond (test x) 0 (suc (first_where test xs))

-- no entry passes
unfoldable pub none : {A : Type 0} → (A → Bool) → List A → Bool
none test xs = leb (length xs) (first_where test xs)

-- some entry passes with the next
unfoldable pub some_neighbours : {A : Type 0} → (A → A → Bool) → List A → Bool
some_neighbours test [] = false
some_neighbours test (x ∷ []) = false
some_neighbours test (x ∷ y ∷ xs) = test x y or some_neighbours test (y ∷ xs)

-- i and the n - 1 numbers after it
abbrev pub numbers : (i n : ℕ) → List ℕ
numbers i zero = []
numbers i (suc n) = i ∷ numbers (suc i) n
