-- `saved_lines::checks::Lines::walk` meets its contract: each line that was passed is followed by a closer one.
use Rattle.theory.proofs.Prelude.{◌-◌, ◌∙◌, ◌≡◌, sym, arith, length}
use Rattle.saved_lines.proofs.Offsets.{rising_strictly}
use Rattle.saved_lines.proofs.RowPatterns.{stopped_at, ended_at}
use Rattle.saved_lines.proofs.checks.Lines.walk.Goals as goal

pub is_greater_nearer-requires : goal.is_greater_nearer-requires
is_greater_nearer-requires c =
    rising_strictly c.args.self.now.offsets.now c.args.self.now.checked (c.loop-i.i - 1) c.loop-i.i (omega arith) (omega arith)

pub returns-then-not-is_greater_nearer : goal.returns-then-not-is_greater_nearer
returns-then-not-is_greater_nearer c =
    stopped_at c.args.self.now.offsets.now c.args.self.now.checked c.args.query c.loop-i.i (omega arith) c.loop-i.invariant (omega arith)
    (sym c.is_greater_nearer.ensures ∙ c.if-not-is_greater_nearer.true)

pub returns : goal.returns
returns c =
    let end : c.loop-i.i ≡ length c.args.self.now.offsets.now = omega (arith, c.args.self.now.checked.some) in
    ended_at c.args.self.now.offsets.now c.args.self.now.checked c.args.query (rw end at c.loop-i.invariant)
