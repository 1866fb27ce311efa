-- `number::order::same_value` meets its contract.
use Rattle.theory.proofs.Prelude.{◌∙◌, ap, ◌≡◌, sym, arith, ℤ}
use Rattle.std.specs.Bool.{◌==◌}
use Rattle.std.specs.Ordering.{ordering_index}
use Rattle.std.specs.declared.cmp.Ordering.{Ordering}
use Rattle.std.specs.declared.cmp.Ordering.TheVariants.{Less, Equal, Greater}
use Rattle.theory.proofs.Tests.{refuted}
use Rattle.theory.proofs.Integers.{above, below, lt_parts}
use Rattle.number.specs.Numbers.{equal_z}
use Rattle.number.proofs.Membership.{equal_true, equal_made}
use Rattle.number.specs.Order.{order_z}
use Rattle.number.proofs.Comparison.{less_says, equal_says, greater_says}
use Rattle.number.proofs.order.same_value.Goals as goal

-- two values are equal where their order says so
by_order : (v w : ℤ) (o : Ordering) → order_z v w ≡ o → (ordering_index o == 1) ≡ equal_z v w
by_order v w Less h = let l = less_says h in refuted (λ e. omega (arith, lt_parts l, ap above (equal_true _ _ e), ap below (equal_true _ _ e)))
by_order v w Equal h = sym (equal_made (equal_says h))
by_order v w Greater h = let l = greater_says h in refuted (λ e. omega (arith, lt_parts l, ap above (equal_true _ _ e), ap below (equal_true _ _ e)))

pub returns : goal.returns
returns c = c.eq.ensures ∙ by_order _ _ c.compare_values.result (sym c.compare_values.ensures)
