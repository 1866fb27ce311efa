-- `saved_lines::checks::Lines::checked` meets its contract.
use Rattle.theory.proofs.Prelude.{◌∙◌, sym, arith, eqb-true, eqb-false}
use Rattle.saved_lines.proofs.Checking.{no_lines, many_lines, bad_pattern, bad_number, bad_order, bad_neighbours, all_passed, patterns_passed}
use Rattle.saved_lines.proofs.checks.Lines.checked.Goals as goal
use Rattle.saved_lines.proofs.checks.Lines.checked.Goals.{then-is_empty-via-then-is_empty, then-is_empty-via-else-is_empty+then-offsets-gt4096}

pub returns-then-is_empty-clause-answer : goal.returns-then-is_empty-clause-answer
returns-then-is_empty-clause-answer c =
    let l = c.args.offsets.now in
    elim c.then-is_empty.branch [
      | then-is_empty-via-then-is_empty w ↦ no_lines l _ (eqb-true _ _ (sym c.is_empty.ensures ∙ w.if-is_empty.true))
      | then-is_empty-via-else-is_empty+then-offsets-gt4096 w ↦ many_lines l _ w.if-offsets-gt4096.true
    ]

pub returns-then-bad-offsets-clause-answer : goal.returns-then-bad-offsets-clause-answer
returns-then-bad-offsets-clause-answer c = bad_pattern _ _ (omega (arith, eqb-false _ _ (sym c.is_empty.ensures ∙ c.if-is_empty.false))) c.if-offsets-gt4096.false c.first_not_finite-bad.ensures c.if-bad-offsets.true

pub returns-then-not-finite-clause-answer : goal.returns-then-not-finite-clause-answer
returns-then-not-finite-clause-answer c = bad_number _ _ (omega (arith, eqb-false _ _ (sym c.is_empty.ensures ∙ c.if-is_empty.false))) c.if-offsets-gt4096.false c.first_not_finite-bad.ensures c.if-bad-offsets.false c.if-not-finite.true

pub returns-then-is_descending-clause-answer : goal.returns-then-is_descending-clause-answer
returns-then-is_descending-clause-answer c =
    bad_order _ _ (omega (arith, eqb-false _ _ (sym c.is_empty.ensures ∙ c.if-is_empty.false))) c.if-offsets-gt4096.false c.first_not_finite-bad.ensures c.if-bad-offsets.false
    c.if-not-finite.false (sym c.is_descending.ensures ∙ c.if-is_descending.true)

pub returns-then-is_repeating-clause-answer : goal.returns-then-is_repeating-clause-answer
returns-then-is_repeating-clause-answer c =
    bad_neighbours _ _ (omega (arith, eqb-false _ _ (sym c.is_empty.ensures ∙ c.if-is_empty.false))) c.if-offsets-gt4096.false c.first_not_finite-bad.ensures c.if-bad-offsets.false
    c.if-not-finite.false (sym c.is_descending.ensures ∙ c.if-is_descending.false) (sym c.is_repeating.ensures ∙ c.if-is_repeating.true)

pub returns-clause-answer : goal.returns-clause-answer
returns-clause-answer c =
    all_passed _ _ (omega (arith, eqb-false _ _ (sym c.is_empty.ensures ∙ c.if-is_empty.false))) c.if-offsets-gt4096.false c.first_not_finite-bad.ensures c.if-bad-offsets.false
    c.if-not-finite.false (sym c.is_descending.ensures ∙ c.if-is_descending.false) (sym c.is_repeating.ensures ∙ c.if-is_repeating.false)

pub invariant_of-result : goal.invariant_of-result
invariant_of-result c =
    record {
      checked = record {
        some = omega (arith, eqb-false _ _ (sym c.is_empty.ensures ∙ c.if-is_empty.false));
        most = c.if-offsets-gt4096.false;
        finite = patterns_passed c.args.offsets.now c.args.finite (omega (arith, eqb-false _ _ (sym c.is_empty.ensures ∙ c.if-is_empty.false))) c.if-offsets-gt4096.false c.first_not_finite-bad.ensures c.if-bad-offsets.false;
        order = sym c.is_descending.ensures ∙ c.if-is_descending.false;
        strict = sym c.is_repeating.ensures ∙ c.if-is_repeating.false;
      };
    }
