-- `saved_lines::row::nearest_lines` meets its contract.
use Rattle.theory.proofs.Prelude.{ℕ, List, ◌∙◌, ap, refl, length, arith}
use Rattle.format.specs.Given.{gives}
use Rattle.binary32.specs.Patterns.{pattern_values}
use Rattle.saved_lines.specs.Rows.{row_looked, row_found}
use Rattle.saved_lines.proofs.RowChecks.{row_lengths, row_many, row_refused, queries_refused, row_gives, row_kept}
use Rattle.saved_lines.proofs.RowPatterns.{count_most}
use Rattle.saved_lines.proofs.row.nearest_lines.Goals as goal
use Rattle.saved_lines.proofs.row.nearest_lines.Goals.{then-queries-out-via-then-queries-out, then-queries-out-via-else-queries-out+then-queries-gt4096}

pub returns-then-queries-out : goal.returns-then-queries-out
returns-then-queries-out c =
    let l = c.args.offsets.now in
    let qs = c.args.queries.now in
    record {
      answer = elim c.then-queries-out.branch [
        | then-queries-out-via-then-queries-out w ↦ row_lengths l qs (length c.args.out.now) w.if-queries-out.true
        | then-queries-out-via-else-queries-out+then-queries-gt4096 w ↦ row_many l qs (length c.args.out.now) w.if-queries-out.false w.if-queries-gt4096.true
      ];
      written = refl;
    }

pub returns-in_err-lines : goal.returns-in_err-lines
returns-in_err-lines c =
    record {
      answer = row_refused c.args.offsets.now c.args.queries.now (length c.args.out.now) c.if-queries-out.false c.if-queries-gt4096.false _ _ c.in_err-lines.was c.from_residual.ensures.1 c.checked.ensures.answer;
      written = row_kept _ c.from_residual.ensures.0 _ _ _;
    }

pub returns-in_err-check_queries-clause-answer : goal.returns-in_err-check_queries-clause-answer
returns-in_err-check_queries-clause-answer c =
    queries_refused c.args.offsets.now c.args.queries.now (length c.args.out.now) c.if-queries-out.false c.if-queries-gt4096.false c.in_ok-lines.ensures.answer _ _ c.in_err-check_queries.was c.from_residual-in_err-check_queries.ensures.1 c.check_queries.ensures.answer

pub overflow_cast-result : goal.overflow_cast-result
overflow_cast-result c =
    let s = c.in_ok-lines.lines in
    omega (arith, c.walk_row.ensures.count, count_most s.offsets.now c.args.queries.now s.checked c.in_ok-check_queries.ensures.passed, s.checked.most, c.if-queries-gt4096.false)

pub returns : goal.returns
returns c =
    let lines = c.in_ok-lines.ensures in
    record {
      answer = ap gives (c.walk_row.ensures.count ∙ ap (λ (l : List ℕ). row_looked (pattern_values l) 0 (pattern_values c.args.queries.now)) lines.list)
          ∙ row_gives c.args.offsets.now c.args.queries.now (length c.args.out.now) c.if-queries-out.false c.if-queries-gt4096.false lines.answer c.in_ok-check_queries.ensures.answer;
      written = c.walk_row.ensures.written ∙ ap (λ (l : List ℕ). row_found (pattern_values l) (pattern_values c.args.queries.now)) lines.list;
    }
