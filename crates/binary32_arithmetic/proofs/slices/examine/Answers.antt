-- `binary32_arithmetic::slices::examine` meets its contract.
use Rattle.std.specs.Prelude.{Result}
use Rattle.theory.proofs.Prelude.{ℕ, true, ◌∙◌, ap, ap₂, ◌≡◌, sym, ltb-true}
use Rattle.theory.specs.Tests.{◌and◌}
use Rattle.theory.specs.declared.Direction.{Direction}
use Rattle.theory.proofs.Results.{err_returned}
use Rattle.theory.proofs.Tests.{and_left, and_right, unless_passed, unless_failed}
use Rattle.format.specs.declared.Format.{Format}
use Rattle.format.specs.declared.Prepared.{Prepared}
use Rattle.format.specs.declared.Refusal.{Refusal}
use Rattle.format.specs.Formats.{prepared_of}
use Rattle.format.specs.Given.{given}
use Rattle.format.specs.Published.{binary32}
use Rattle.number.specs.declared.Number.{Number}
use Rattle.number.proofs.Membership.{prepared_format}
use Rattle.arithmetic.specs.Operations.{rounded_sum}
use Rattle.binary32.specs.Patterns.{finite, number_read, answer_written}
use Rattle.binary32_arithmetic.specs.Calls.{Sum}
use Rattle.binary32_arithmetic.specs.Slices.{entry_sum, passes}
use Rattle.binary32_arithmetic.proofs.CallLaws.{alone, numbers_read, constant_operands}
use Rattle.binary32_arithmetic.proofs.Halves.{halves_pass}
use Rattle.binary32_arithmetic.proofs.slices.examine.Goals as goal

-- the sum of two finite entries, as it is found and as it is meant
summed : (d : Direction) (a b : ℕ) {q : Prepared} {x y : Number} {r s : Result Number Refusal} → finite a and finite b ≡ true → q ≡ prepared_of binary32 → x ≡ number_read a → y ≡ number_read b
    → given r ≡ rounded_sum q.format d x y → r ≡ s → passes (answer_written (given s)) ≡ passes (entry_sum d a b)
summed d a b {q} {x} {y} {r} {s} h e f g k w =
    let is : answer_written (given r) ≡ entry_sum d a b =
    ap answer_written (k ∙ ap (λ (f : Format). rounded_sum f d x y) (prepared_format e) ∙ ap₂ (rounded_sum binary32 d) f g)
    ∙ sym (alone Sum d a b ∙ unless_passed _ _ h) in
    ap passes (ap (λ (r : Result Number Refusal). answer_written (given r)) (sym w) ∙ is)

pub returns : goal.returns
returns c =
    summed _ _ _ (sym c.are_finite.ensures ∙ c.if-not-are_finite.false) c.prepared_binary32.ensures c.read_finite.ensures c.read_finite-2.ensures c.add.ensures c.in_ok-add.was

pub returns-in_err-add : goal.returns-in_err-add
returns-in_err-add c =
    ap given (err_returned _ c.from_residual.ensures.1)
    ∙ summed _ _ _ (sym c.are_finite.ensures ∙ c.if-not-are_finite.false) c.prepared_binary32.ensures c.read_finite.ensures c.read_finite-2.ensures c.add.ensures c.in_err-add.was

pub returns-then-are_halves : goal.returns-then-are_halves
returns-then-are_halves c =
    let h = sym c.are_halves.ensures ∙ c.if-are_halves.true in
    halves_pass _ _ _ (ltb-true _ _ (and_left _ _ h)) (ltb-true _ _ (and_right _ _ h))

pub returns-then-not-are_finite : goal.returns-then-not-are_finite
returns-then-not-are_finite c = sym (ap passes (alone Sum _ _ _ ∙ unless_failed _ _ (sym c.are_finite.ensures ∙ c.if-not-are_finite.true)))

pub add-requires : goal.add-requires
add-requires c =
    constant_operands (numbers_read (sym c.are_finite.ensures ∙ c.if-not-are_finite.false) c.read_finite.ensures c.read_finite-2.ensures) c.prepared_binary32.ensures

pub read_finite-requires : goal.read_finite-requires
read_finite-requires c = and_left _ _ (sym c.are_finite.ensures ∙ c.if-not-are_finite.false)

pub read_finite-requires-2 : goal.read_finite-requires-2
read_finite-requires-2 c = and_right _ _ (sym c.are_finite.ensures ∙ c.if-not-are_finite.false)
