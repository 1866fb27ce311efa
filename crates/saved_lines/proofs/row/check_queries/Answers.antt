-- `saved_lines::row::check_queries` meets its contract.
use Rattle.theory.proofs.Prelude.{◌∙◌, sym}
use Rattle.saved_lines.proofs.RowChecks.{queries_bad, queries_finite, queries_descend, queries_passed}
use Rattle.saved_lines.proofs.row.check_queries.Goals as goal

pub returns-then-bad-queries-clause-answer : goal.returns-then-bad-queries-clause-answer
returns-then-bad-queries-clause-answer c = queries_bad c.args.queries.now c.first_not_finite-bad.ensures c.if-bad-queries.true

pub returns-then-is_descending-clause-answer : goal.returns-then-is_descending-clause-answer
returns-then-is_descending-clause-answer c = queries_descend c.args.queries.now c.first_not_finite-bad.ensures c.if-bad-queries.false (sym c.is_descending.ensures ∙ c.if-is_descending.true)

pub returns : goal.returns
returns c =
    let order = sym c.is_descending.ensures ∙ c.if-is_descending.false in
    record {
      answer = queries_passed c.args.queries.now c.first_not_finite-bad.ensures c.if-bad-queries.false order;
      passed = record { finite = queries_finite c.args.queries.now c.first_not_finite-bad.ensures c.if-bad-queries.false; order = order };
    }
