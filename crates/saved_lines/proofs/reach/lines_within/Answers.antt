-- `saved_lines::reach::lines_within` meets its contract.
use Rattle.theory.proofs.Prelude.{ℕ, ◌-◌, List, ◌++◌, ◌∙◌, ap, ◌≡◌, length, drop, ap₂}
use Rattle.binary32.specs.Patterns.{pattern_value, pattern_values}
use Rattle.saved_lines.specs.Offsets.{nearest_first}
use Rattle.saved_lines.specs.Positions.{range}
use Rattle.saved_lines.specs.Lines.{lines_found}
use Rattle.saved_lines.proofs.Reaches.{within_refused, within_short, within_found, within_kept}
use Rattle.saved_lines.proofs.reach.lines_within.Goals as goal
use Rattle.saved_lines.proofs.reach.lines_within.Goals.{After-within-found}

pub returns-in_err-lines : goal.returns-in_err-lines
returns-in_err-lines c =
    record {
      answer = within_refused c.args.offsets.now c.args.query c.args.distance (length c.args.out.now) c.are_finite.ensures _ _ c.in_err-lines.was c.from_residual.ensures.1 c.checked.ensures.answer;
      written = within_kept _ c.from_residual.ensures.0 _ _;
    }

-- the lines within reach of the list that was lent
module _ (c : After-within-found) where
  found_is : range c.within-found.result.first (c.within-found.result.end - c.within-found.result.first) ≡ lines_found c.args.offsets.now c.args.query c.args.distance
  found_is = c.within-found.ensures.found.0.found ∙ ap (λ (l : List ℕ). lines_found l c.args.query c.args.distance) c.in_ok-lines.ensures.list

pub returns-then-out-count-clause-answer : goal.returns-then-out-count-clause-answer
returns-then-out-count-clause-answer c =
    let f = found_is (goal.at.returns-then-out-count-clause-answer c).After-within-found in
    within_short c.args.offsets.now c.args.query c.args.distance (length c.args.out.now) c.are_finite.ensures c.in_ok-lines.ensures.answer _ _ f c.if-out-count.true

pub returns : goal.returns
returns c =
    let f = found_is (goal.at.returns c).After-within-found in
    let n = c.within-found.result.end - c.within-found.result.first in
    let lent = c.within-found.ensures.lent in
    record {
      answer = within_found c.args.offsets.now c.args.query c.args.distance (length c.args.out.now) c.are_finite.ensures c.in_ok-lines.ensures.answer _ _ f c.if-out-count.false;
      written = c.write.ensures
          ∙ ap (λ (ps : List ℕ). nearest_first (pattern_values c.within-found.result.lines.offsets.now) (pattern_value c.within-found.result.query) ps ++ drop n c.args.out.now) f
          ∙ ap₂ (λ (l : List ℕ) (q : ℕ). nearest_first (pattern_values l) (pattern_value q) (lines_found c.args.offsets.now c.args.query c.args.distance) ++ drop n c.args.out.now) (lent.0 ∙ c.in_ok-lines.ensures.list) lent.1;
    }
