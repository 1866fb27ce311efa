-- `saved_lines::checks::Lines::walk_row` meets its contract: the rest of the list answers what is left of the row.
use Rattle.saved_lines.proofs.RowPatterns.{Gone}
use Rattle.saved_lines.proofs.checks.Lines.walk_row.Given as goal

abbrev pub invariant-loop-i : goal.invariant-loop-i
invariant-loop-i l = Gone l.self.offsets.now l.queries l.initial.out l.at l.count l.i l.out
