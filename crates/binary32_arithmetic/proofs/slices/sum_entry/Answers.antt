-- `binary32_arithmetic::slices::sum_entry` meets its contract.
use Rattle.std.specs.Prelude.{Result, Ok, Err}
use Rattle.std.specs.Result.{result_unwrap_or}
use Rattle.theory.proofs.Prelude.{◌∙◌, ap, ◌≡◌, sym}
use Rattle.theory.specs.declared.Mark.TheVariants.{Exact}
use Rattle.theory.proofs.Tests.{and_left, and_right, unless_failed}
use Rattle.format.specs.declared.Refusal.{Refusal}
use Rattle.format.specs.Given.{Given, given}
use Rattle.binary32_arithmetic.specs.declared.MarkedPattern.{MarkedPattern}
use Rattle.binary32_arithmetic.specs.Calls.{Sum, on_patterns}
use Rattle.binary32_arithmetic.specs.Slices.{entry_written}
use Rattle.binary32_arithmetic.proofs.CallLaws.{numbers_read, constant_operands, constant_member, constant_written}
use Rattle.binary32_arithmetic.proofs.slices.sum_entry.Goals as goal

entry_of : (r : Result MarkedPattern Refusal) {g : Given MarkedPattern} → given r ≡ g → result_unwrap_or r (record { pattern = 0; mark = Exact }) ≡ entry_written g
entry_of (Ok x) e = ap entry_written e
entry_of (Err why) e = ap entry_written e

pub returns : goal.returns
returns c =
    let numbers = numbers_read (sym c.are_finite.ensures ∙ c.if-not-are_finite.false) c.read_finite.ensures c.read_finite-2.ensures in
    c.unwrap_or.ensures ∙ entry_of c.write_rounded.result (c.write_rounded.ensures ∙ constant_written numbers c.prepared_binary32.ensures Sum _ _ c.marked_sum.ensures)

pub returns-then-not-are_finite : goal.returns-then-not-are_finite
unfolding on_patterns
returns-then-not-are_finite c = ap entry_written (sym (unless_failed _ _ (sym c.are_finite.ensures ∙ c.if-not-are_finite.true)))

pub read_finite-requires : goal.read_finite-requires
read_finite-requires c = and_left _ _ (sym c.are_finite.ensures ∙ c.if-not-are_finite.false)

pub read_finite-requires-2 : goal.read_finite-requires-2
read_finite-requires-2 c = and_right _ _ (sym c.are_finite.ensures ∙ c.if-not-are_finite.false)

pub marked_sum-requires : goal.marked_sum-requires
marked_sum-requires c =
    constant_operands (numbers_read (sym c.are_finite.ensures ∙ c.if-not-are_finite.false) c.read_finite.ensures c.read_finite-2.ensures) c.prepared_binary32.ensures

pub write_rounded-requires : goal.write_rounded-requires
write_rounded-requires c =
    let numbers = numbers_read (sym c.are_finite.ensures ∙ c.if-not-are_finite.false) c.read_finite.ensures c.read_finite-2.ensures in
    constant_member numbers c.prepared_binary32.ensures Sum _ _ c.marked_sum.ensures
