-- `saved_lines::checks::Lines::walk` meets its contract: each line that was passed is followed by a closer one.
use Rattle.saved_lines.proofs.RowPatterns.{Nearing}
use Rattle.saved_lines.proofs.checks.Lines.walk.Given as goal

abbrev pub invariant-loop-i : goal.invariant-loop-i
invariant-loop-i l = Nearing l.offsets l.query l.i
