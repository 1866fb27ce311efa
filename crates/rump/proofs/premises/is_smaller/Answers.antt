-- `rump::premises::is_smaller` meets its contract.
use Rattle.theory.proofs.Prelude.{ℕ, ◌∙◌, ◌≡◌, sym, le-ltb, lt-ltb, ltb}
use native.Mathlib.Nat.{le_of_lt}
use Rattle.std.specs.Bool.{◌==◌}
use Rattle.std.specs.Ordering.{ordering_index}
use Rattle.std.specs.declared.cmp.Ordering.{Ordering}
use Rattle.std.specs.declared.cmp.Ordering.TheVariants.{Less, Equal, Greater}
use Rattle.number.specs.Order.{order_n}
use Rattle.number.proofs.Comparison.{size_less_says, size_equal_says, size_greater_says}
use Rattle.rump.proofs.premises.is_smaller.Goals as goal

-- m is less than n where their order says so
by_order : (m n : ℕ) (o : Ordering) → order_n m n ≡ o → (ordering_index o == 0) ≡ ltb m n
by_order m n Less h = sym (lt-ltb _ _ (size_less_says h))
by_order m n Equal h = sym (le-ltb _ _ (size_equal_says h))
by_order m n Greater h = sym (le-ltb _ _ (le_of_lt (size_greater_says h)))

pub returns : goal.returns
returns c = c.eq.ensures ∙ by_order _ _ c.compare_magnitudes.result (sym c.compare_magnitudes.ensures)
