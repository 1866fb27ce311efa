-- `fast_two_sum::entry::check_order` meets its contract.
use Rattle.theory.proofs.Prelude.{ℕ, ◌≤◌, true, false, ◌∙◌, ◌≡◌, sym, refl, arith}
use Rattle.std.specs.Bool.{◌==◌}
use Rattle.std.specs.Ordering.{ordering_index}
use Rattle.std.specs.declared.cmp.Ordering.{Ordering}
use Rattle.std.specs.declared.cmp.Ordering.TheVariants.{Less, Equal, Greater}
use Rattle.number.specs.Order.{order_n}
use native.Mathlib.Nat.{le_of_lt}
use Rattle.theory.proofs.Tests.{never, refuted}
use Rattle.number.proofs.Comparison.{size_less_says, size_equal_says, size_greater_says}
use Rattle.fast_two_sum.specs.Calls.{is_binary}
use Rattle.fast_two_sum.proofs.Order.{binary_made, is_binary_law, order_binary, order_smaller, order_passed}
use Rattle.fast_two_sum.proofs.entry.check_order.Goals as goal

pub returns-then-format-lt2 : goal.returns-then-format-lt2
returns-then-format-lt2 c = sym (order_binary _ _ _ _ (sym (refuted (λ h. omega (arith, c.if-format-lt2.true, (is_binary_law c.args.format h).1)))))

-- an order is less, or it is not
less : (o : Ordering) → (ordering_index o == 0) ≡ true → o ≡ Less
less Less h = refl
less Equal h = absurd (never (sym h))
less Greater h = absurd (never (sym h))

not_less : (m n : ℕ) (o : Ordering) → order_n m n ≡ o → (ordering_index o == 0) ≡ false → n ≤ m
not_less m n Less e h = absurd (never h)
not_less m n Equal e h = size_equal_says e
not_less m n Greater e h = le_of_lt (size_greater_says e)

pub returns-then-eq : goal.returns-then-eq
returns-then-eq c =
    let binary : is_binary c.args.format ≡ true = binary_made c.args.format c.if-format-ne2.false c.if-format-lt2.false in
    sym (order_smaller _ _ _ _ binary (size_less_says (sym c.compare_magnitudes.ensures ∙ less c.compare_magnitudes.result (sym c.eq.ensures ∙ c.if-eq.true))))

pub returns : goal.returns
returns c =
    let binary : is_binary c.args.format ≡ true = binary_made c.args.format c.if-format-ne2.false c.if-format-lt2.false in
    sym (order_passed _ _ _ _ binary (not_less _ _ c.compare_magnitudes.result (sym c.compare_magnitudes.ensures) (sym c.eq.ensures ∙ c.if-eq.false)))

pub returns-then-format-ne2 : goal.returns-then-format-ne2
returns-then-format-ne2 c = sym (order_binary _ _ _ _ (sym (refuted (λ h. c.if-format-ne2.true (is_binary_law _ h).0))))
