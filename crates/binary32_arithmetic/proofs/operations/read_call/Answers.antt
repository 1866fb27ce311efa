-- `binary32_arithmetic::operations::read_call` meets its contract: the checks in their order.
use Rattle.std.specs.Prelude.{Ok, Err}
use Rattle.theory.proofs.Prelude.{ℕ, true, false, ◌≡◌, sym, ◌∙◌}
use Rattle.theory.specs.Tests.{◌and◌}
use Rattle.theory.specs.declared.Direction.{Direction}
use Rattle.theory.specs.Directions.{direction_read}
use Rattle.theory.proofs.Directions.{direction_taken, no_direction_taken}
use Rattle.theory.proofs.Tests.{and_left, and_right, unless_passed, unless_failed}
use Rattle.format.specs.declared.Refusal.TheVariants.{NotFinite}
use Rattle.number.specs.declared.Number.{Number}
use Rattle.binary32.specs.Patterns.{finite, number_read}
use Rattle.binary32_arithmetic.specs.Calls.{call_read}
use Rattle.binary32_arithmetic.proofs.operations.read_call.Goals as goal

module _ (d a b : ℕ) {t : Direction} (h : direction_read d ≡ Ok t) where
  not_finite : finite a and finite b ≡ false → Err NotFinite ≡ call_read d a b
  unfolding call_read
  not_finite k = sym (unless_passed _ _ (direction_taken d h).0 ∙ unless_failed _ _ k)

  made : finite a and finite b ≡ true → {x y : Number} → x ≡ number_read a → y ≡ number_read b → Ok (t, x, y) ≡ call_read d a b
  unfolding call_read
  made k f g = let e = (direction_taken d h).1 in rw (e, f, g) (sym (unless_passed _ _ (direction_taken d h).0 ∙ unless_passed _ _ k))

pub returns-in_default : goal.returns-in_default
unfolding call_read
returns-in_default c = sym (unless_failed _ _ (no_direction_taken _ (sym c.try_from.ensures ∙ c.in_default.is)))

pub returns-then-not-are_finite : goal.returns-then-not-are_finite
returns-then-not-are_finite c =
    not_finite _ _ _ (sym c.try_from.ensures ∙ c.in-Ok.is) (sym c.are_finite.ensures ∙ c.if-not-are_finite.true)

pub returns : goal.returns
returns c =
    made _ _ _ (sym c.try_from.ensures ∙ c.in-Ok.is) (sym c.are_finite.ensures ∙ c.if-not-are_finite.false) c.read_finite.ensures c.read_finite-2.ensures

pub read_finite-requires : goal.read_finite-requires
read_finite-requires c = and_left _ _ (sym c.are_finite.ensures ∙ c.if-not-are_finite.false)

pub read_finite-requires-2 : goal.read_finite-requires-2
read_finite-requires-2 c = and_right _ _ (sym c.are_finite.ensures ∙ c.if-not-are_finite.false)
