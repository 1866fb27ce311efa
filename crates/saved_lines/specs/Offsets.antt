-- The offsets of saved lines as exact values, whole multiples of 2 ^ -149: their order, the one nearest to a
-- query, the order from the nearest on, and those within reach.
use Rattle.std.specs.Prelude.{ℕ, zero, suc, Bool, not, List, [], ◌∷◌, map, ltb, ℤ, pos, nat_abs, ◌-ℤ◌, length, get_or}
use Rattle.std.specs.Int.Signed.{le_z, lt_z}
use Rattle.theory.specs.Tests.{◌and◌}
use Rattle.theory.specs.Lists.{first_where, none, some_neighbours}
use Rattle.saved_lines.specs.Positions.{without}

-- |v - q|
unfoldable pub distance : (v q : ℤ) → ℕ
distance v q = nat_abs (v -ℤ q)

-- is v nearer to q than w?
unfoldable pub nearer : (q v w : ℤ) → Bool
nearer q v w = ltb (distance v q) (distance w q)

-- is no offset of the list nearer to q than v?
unfoldable pub is_nearest : (vs : List ℤ) (q v : ℤ) → Bool
is_nearest vs q v = none (λ (w : ℤ). nearer q w v) vs

-- the first position of the least distance from q
unfoldable pub nearest : (vs : List ℤ) (q : ℤ) → ℕ
nearest vs q = first_where (is_nearest vs q) vs

-- ---- nearest first
-- the offset at a position
abbrev pub at : List ℤ → ℕ → ℤ
at vs k = get_or vs k (pos 0)

-- where the one nearest to q stands among the positions ps of the list vs
abbrev pub nearest_place : (vs : List ℤ) (q : ℤ) (ps : List ℕ) → ℕ
nearest_place vs q ps = nearest (map (at vs) ps) q

-- the nearest of the positions ps, then the nearest of those that are left, and so on: n of them
unfoldable pub nearest_ones : (vs : List ℤ) (q : ℤ) (n : ℕ) (ps : List ℕ) → List ℕ
nearest_ones vs q zero ps = []
nearest_ones vs q (suc n) ps = get_or ps (nearest_place vs q ps) 0 ∷ nearest_ones vs q n (without (nearest_place vs q ps) ps)

-- all of them
abbrev pub nearest_first : (vs : List ℤ) (q : ℤ) (ps : List ℕ) → List ℕ
nearest_first vs q ps = nearest_ones vs q (length ps) ps

-- ---- reach and order
-- is v at most r away from q? Where r is below zero, nothing is
unfoldable pub is_within : (q r v : ℤ) → Bool
is_within q r v = le_z (pos (distance v q)) r

-- is v above w?
unfoldable pub falls : (v w : ℤ) → Bool
falls v w = lt_z w v

-- is some offset above the next?
unfoldable pub descends : List ℤ → Bool
descends vs = some_neighbours falls vs

-- are v and w equal? Neither is below the other
unfoldable pub equals : (v w : ℤ) → Bool
equals v w = not (lt_z v w) and not (lt_z w v)

-- is some offset equal to the next?
unfoldable pub repeats : List ℤ → Bool
repeats vs = some_neighbours equals vs
