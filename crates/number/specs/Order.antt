-- Comparison by exact value.
use Rattle.std.specs.Prelude.{ℕ, Bool, cond, [], ◌∷◌, ltb, ℤ}
use Rattle.std.specs.Int.Signed.{lt_z}
use Rattle.format.specs.declared.Format.{Format}
use Rattle.format.specs.Given.{Given, gives}
use Rattle.number.specs.declared.Number.{Number}
use Rattle.std.specs.declared.cmp.Ordering.{Ordering}
use Rattle.std.specs.declared.cmp.Ordering.TheVariants.{Less, Equal, Greater}
use Rattle.number.specs.Numbers.{value}
use Rattle.number.specs.Checks.{checked}

abbrev pub ordered : (below above : Bool) → Ordering
ordered below above = cond below Less (cond above Greater Equal)

unfoldable pub order_n : ℕ → ℕ → Ordering
order_n m n = ordered (ltb m n) (ltb n m)

unfoldable pub order_z : ℤ → ℤ → Ordering
order_z v w = ordered (lt_z v w) (lt_z w v)

-- the answer of compare
unfoldable pub compared : Format → Number → Number → Given Ordering
compared f a b = checked f [] (a ∷ b ∷ []) (gives (order_z (value f a) (value f b)))
