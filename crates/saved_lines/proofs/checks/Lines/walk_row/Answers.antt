-- `saved_lines::checks::Lines::walk_row` meets its contract: the rest of the list answers what is left of the row.
use Rattle.theory.proofs.Prelude.{◌<◌, ◌≤◌, ◌+◌, ◌≡◌, sym, arith, length}
use Rattle.saved_lines.proofs.RowPatterns.{gone_more, gone_count, gone_written, checked_tail, step_place, step_looked}
use Rattle.saved_lines.proofs.checks.Lines.walk_row.Goals as goal
use Rattle.saved_lines.proofs.checks.Lines.walk_row.Goals.{After-walk-steps}

pub invariant_of-rest : goal.invariant_of-rest
invariant_of-rest c = record { checked = checked_tail c.args.self.now.offsets.now c.loop-i.at c.loop-i.invariant.inside c.args.self.now.checked }

-- where the walk ends, and how many lines it looked at
module _ (c : After-walk-steps) where
  place : c.loop-i.at + c.walk-steps.result.ahead < length c.args.self.now.offsets.now
  place = step_place c.args.self.now.offsets.now c.args.self.now.checked c.args.queries.now c.requires.0 c.loop-i.invariant (omega arith) c.walk-steps.ensures.0 c.walk-steps.ensures.1

  few : c.walk-steps.result.looked ≤ c.walk-steps.result.ahead + 2
  few = step_looked c.args.self.now.offsets.now c.args.self.now.checked c.args.queries.now c.requires.0 c.loop-i.invariant (omega arith) c.walk-steps.ensures.0 c.walk-steps.ensures.1

pub overflow_add-at : goal.overflow_add-at
overflow_add-at c = omega (arith, place (goal.at.overflow_add-at c).After-walk-steps, c.args.self.now.checked.most)

pub overflow_add-count : goal.overflow_add-count
overflow_add-count c =
    let p = (goal.at.overflow_add-count c).After-walk-steps in
    omega (arith, place p, few p, c.loop-i.invariant.few, c.args.self.now.checked.most, c.requires.2)

pub overflow_cast-out : goal.overflow_cast-out
overflow_cast-out c = omega (arith, place (goal.at.overflow_cast-out c).After-walk-steps, c.args.self.now.checked.most)

pub loop-i-preserved : goal.loop-i-preserved
loop-i-preserved c =
    gone_more c.args.self.now.offsets.now c.args.self.now.checked c.args.queries.now c.requires.0 c.loop-i.invariant (omega arith) c.walk-steps.ensures.0 c.walk-steps.ensures.1 (sym c.requires.1)

pub returns : goal.returns
returns c =
    let end : c.loop-i.i ≡ length c.args.queries.now = omega arith in
    record { count = gone_count c.loop-i.invariant end; written = gone_written c.loop-i.invariant end (sym c.requires.1) }
