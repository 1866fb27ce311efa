-- `vectors::calls::answer_of` meets its contract.
use Rattle.theory.proofs.Prelude.{ℕ, ◌≤◌, ◌∙◌, ap, ◌≡◌, sym, arith, ℤ, w32, SFits, rules}
use Rattle.format.proofs.Signed.{back}
use lib.ListN.{get_or-eq_default}
use Rattle.format.specs.declared.Format.{Format}
use Rattle.format.specs.Given.{Given}
use Rattle.number.specs.declared.Number.{Number}
use Rattle.arithmetic.specs.Marked.{without_mark, fraction_answer}
use Rattle.arithmetic.specs.Quotients.{without_digits}
use Rattle.fast_two_sum.specs.Calls.{fast_two_sum}
use Rattle.binary32_arithmetic.specs.Calls.{pattern_alone}
use Rattle.vectors.specs.Calls.{calls, whole_order, pattern_number, mark_whole, digits_whole, first_of_steps, low_word, answer_of}
use Rattle.vectors.proofs.calls.answer_of.Goals as goal

known : {operation k : ℕ} → operation ≡ k → (f : Format) (d : ℕ) (a b : Number) {r : Given Number} → r ≡ answer_of k f d a b → r ≡ answer_of operation f d a b
known h f d a b e = rw h e

past : (operation : ℕ) → 23 ≤ operation → (f : Format) (d : ℕ) (a b : Number) → first_of_steps (fast_two_sum f d d d a b) ≡ answer_of operation f d a b
unfolding answer_of
past operation h f d a b = sym (get_or-eq_default (calls f d a b) (first_of_steps (fast_two_sum f d d d a b)) {n = operation} h)

pub returns-in-4 : goal.returns-in-4
unfolding answer_of
returns-in-4 c =
    let numerator_fits : SFits w32 c.args.a.exponent = search rules in
    known c.in-4.is _ _ _ _
    (c.unmarked-in-4.ensures
    ∙ ap without_mark (c.fraction.ensures ∙ ap (λ (z : ℤ). fraction_answer c.args.format c.args.d z (low_word c.args.b.significand)) (back numerator_fits)))

pub returns-in-0 : goal.returns-in-0
unfolding answer_of
returns-in-0 c = known c.in-0.is _ _ _ _ (c.unmarked.ensures ∙ ap without_mark c.sum.ensures)

pub returns-in-1 : goal.returns-in-1
unfolding answer_of
returns-in-1 c = known c.in-1.is _ _ _ _ (c.unmarked-in-1.ensures ∙ ap without_mark c.difference.ensures)

pub returns-in-2 : goal.returns-in-2
unfolding answer_of
returns-in-2 c = known c.in-2.is _ _ _ _ (c.unmarked-in-2.ensures ∙ ap without_mark c.product.ensures)

pub returns-in-3 : goal.returns-in-3
unfolding answer_of
returns-in-3 c =
    known c.in-3.is _ _ _ _
    (c.unmarked-in-3.ensures ∙ ap without_mark (c.without_digits.ensures ∙ ap without_digits c.quotient.ensures))

pub returns-in-5 : goal.returns-in-5
unfolding answer_of
returns-in-5 c = known c.in-5.is _ _ _ _ (c.order_number.ensures ∙ ap whole_order c.compare.ensures)

pub returns-in-6 : goal.returns-in-6
unfolding answer_of
returns-in-6 c = known c.in-6.is _ _ _ _ c.magnitude.ensures

pub returns-in-7 : goal.returns-in-7
unfolding answer_of
returns-in-7 c = known c.in-7.is _ _ _ _ c.negate.ensures

pub returns-in-8 : goal.returns-in-8
unfolding answer_of
returns-in-8 c = known c.in-8.is _ _ _ _ c.predecessor.ensures

pub returns-in-9 : goal.returns-in-9
unfolding answer_of
returns-in-9 c = known c.in-9.is _ _ _ _ c.successor.ensures

pub returns-in-10 : goal.returns-in-10
unfolding answer_of
returns-in-10 c = known c.in-10.is _ _ _ _ c.ufp.ensures

pub returns-in-11 : goal.returns-in-11
unfolding answer_of
returns-in-11 c =
    known c.in-11.is _ _ _ _
    (c.pattern_number.ensures ∙ ap pattern_number (c.without_mark.ensures ∙ ap pattern_alone c.pattern_sum.ensures))

pub returns-in-12 : goal.returns-in-12
unfolding answer_of
returns-in-12 c =
    known c.in-12.is _ _ _ _
    (c.pattern_number-in-12.ensures ∙ ap pattern_number (c.without_mark-in-12.ensures ∙ ap pattern_alone c.pattern_difference.ensures))

pub returns-in-13 : goal.returns-in-13
unfolding answer_of
returns-in-13 c =
    known c.in-13.is _ _ _ _
    (c.pattern_number-in-13.ensures ∙ ap pattern_number (c.without_mark-in-13.ensures ∙ ap pattern_alone c.pattern_product.ensures))

pub returns-in-14 : goal.returns-in-14
unfolding answer_of
returns-in-14 c =
    known c.in-14.is _ _ _ _
    (c.pattern_number-in-14.ensures ∙ ap pattern_number (c.without_mark-in-14.ensures ∙ ap pattern_alone c.pattern_quotient.ensures))

pub returns-in-15 : goal.returns-in-15
unfolding answer_of
returns-in-15 c = known c.in-15.is _ _ _ _ (c.mark_whole.ensures ∙ ap mark_whole c.sum-in-15.ensures)

pub returns-in-16 : goal.returns-in-16
unfolding answer_of
returns-in-16 c = known c.in-16.is _ _ _ _ (c.mark_whole-in-16.ensures ∙ ap mark_whole c.difference-in-16.ensures)

pub returns-in-17 : goal.returns-in-17
unfolding answer_of
returns-in-17 c = known c.in-17.is _ _ _ _ (c.mark_whole-in-17.ensures ∙ ap mark_whole c.product-in-17.ensures)

pub returns-in-18 : goal.returns-in-18
unfolding answer_of
returns-in-18 c =
    known c.in-18.is _ _ _ _
    (c.mark_whole-in-18.ensures ∙ ap mark_whole (c.without_digits-in-18.ensures ∙ ap without_digits c.quotient-in-18.ensures))

pub returns-in-19 : goal.returns-in-19
unfolding answer_of
returns-in-19 c = known c.in-19.is _ _ _ _ c.read_decimal32.ensures

pub returns-in-20 : goal.returns-in-20
unfolding answer_of
returns-in-20 c = known c.in-20.is _ _ _ _ (c.pattern_number-in-20.ensures ∙ ap pattern_number c.write_decimal32.ensures)

pub returns-in-21 : goal.returns-in-21
unfolding answer_of
returns-in-21 c = known c.in-21.is _ _ _ _ (c.digits_number.ensures ∙ ap digits_whole c.quotient-in-21.ensures)

pub returns-in-22 : goal.returns-in-22
unfolding answer_of
returns-in-22 c = known c.in-22.is _ _ _ _ (c.unmarked-in-22.ensures ∙ ap without_mark c.convert.ensures)

pub returns-in_default : goal.returns-in_default
unfolding answer_of
returns-in_default c = c.first_step.ensures ∙ ap first_of_steps c.fast_two_sum.ensures ∙ past c.args.operation (omega arith) _ _ _ _
