-- Exact distances from a query: on natural numbers, and by the sum of two numbers against twice the query.
use Rattle.theory.proofs.Prelude.{◌≤◌, ◌<◌, ◌+◌, true, false, Bool, not, ◌≡◌, sym, arith, ℤ, ◌+ℤ◌, ◌-ℤ◌, lt_z, le_z, le-ltb, lt-ltb, ltb-true, ltb-false}
use Rattle.theory.proofs.Integers.{above, below, sum_parts, diff_parts, size_by}
use Rattle.theory.proofs.Multiples.{dist}
use Rattle.theory.proofs.Tests.{denied}
use Rattle.format.proofs.Signed.{le_true, le_false, lt_true, lt_false}
use Rattle.saved_lines.specs.Offsets.{distance, nearer}

-- the distance on natural numbers
pub distance_is : (v q : ℤ) → distance v q ≡ dist (above v + below q) (below v + above q)
unfolding distance
distance_is v q = size_by (v -ℤ q) (above v + below q) (below v + above q) (omega (arith, diff_parts v q))

module _ (q v w : ℤ) where
  pub nearer_true : nearer q v w ≡ true → distance v q < distance w q
  unfolding nearer
  nearer_true h = ltb-true _ _ h

  pub nearer_false : nearer q v w ≡ false → distance w q ≤ distance v q
  unfolding nearer
  nearer_false h = ltb-false _ _ h

  pub nearer_made : distance v q < distance w q → nearer q v w ≡ true
  unfolding nearer
  nearer_made h = lt-ltb _ _ h

  pub nearer_fails : distance w q ≤ distance v q → nearer q v w ≡ false
  unfolding nearer
  nearer_fails h = le-ltb _ _ h

  -- ---- the greater of two numbers
  module _ (h : lt_z w v ≡ true) where
    -- it is nearer where it is not above the query, and the other is where it is from the query on
    pub greater_below : {t : Bool} → t ≡ lt_z q v → not t ≡ true → true ≡ nearer q v w
    greater_below e g = sym (nearer_made (omega (arith, distance_is v q, distance_is w q, lt_true w v h, lt_false q v (denied e g))))

    pub greater_above : {t : Bool} → t ≡ lt_z w q → not t ≡ true → false ≡ nearer q v w
    greater_above e g = sym (nearer_fails (omega (arith, distance_is v q, distance_is w q, lt_true w v h, lt_false w q (denied e g))))

    -- and it is nearer exactly where v + w is below 2 q
    pub greater_nearer : {t : Bool} → t ≡ le_z (q +ℤ q) (v +ℤ w) → not t ≡ nearer q v w
    greater_nearer {t} f = by t f
      where
        by : (t : Bool) → t ≡ le_z (q +ℤ q) (v +ℤ w) → not t ≡ nearer q v w
        by true f =
            sym (nearer_fails (omega (arith, distance_is v q, distance_is w q, lt_true w v h, le_true (q +ℤ q) (v +ℤ w) (sym f), sum_parts q q, sum_parts v w)))
        by false f =
            sym (nearer_made (omega (arith, distance_is v q, distance_is w q, lt_true w v h, le_false (q +ℤ q) (v +ℤ w) (sym f), sum_parts q q, sum_parts v w)))
