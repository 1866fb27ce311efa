-- `saved_lines::nearest::nearest_line` meets its contract.
use Rattle.theory.proofs.Prelude.{ℕ, List, ◌∙◌, ap, rules}
use Rattle.format.specs.Given.{gives}
use Rattle.binary32.specs.Patterns.{pattern_value, pattern_values}
use Rattle.saved_lines.specs.Offsets.{nearest}
use Rattle.saved_lines.proofs.Checking.{nearest_refused, nearest_found}
use Rattle.saved_lines.proofs.NearestAnswers.{nearest_small}
use Rattle.saved_lines.proofs.nearest.nearest_line.Goals as goal

pub returns-in_err-lines : goal.returns-in_err-lines
returns-in_err-lines c =
    nearest_refused c.args.offsets.now c.args.query c.is_finite.ensures _ _ c.in_err-lines.was c.from_residual.ensures.1 c.checked.ensures.answer

pub overflow_cast-result : goal.overflow_cast-result
overflow_cast-result c =
    let s = nearest_small c.in_ok-lines.lines.offsets.now c.args.query c.in_ok-lines.lines.checked c.nearest.ensures in
    search rules

pub returns : goal.returns
returns c =
    let lines = c.in_ok-lines.ensures in
    ap gives (c.nearest.ensures ∙ ap (λ (l : List ℕ). nearest (pattern_values l) (pattern_value c.args.query)) lines.list)
    ∙ nearest_found c.args.offsets.now c.args.query c.is_finite.ensures lines.answer
