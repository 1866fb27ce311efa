-- `saved_lines::reach::Outward::nearest` meets its contract.
use Rattle.theory.proofs.Prelude.{◌-◌, ◌∙◌, sym, arith}
use Rattle.saved_lines.proofs.Offsets.{rising_strictly}
use Rattle.saved_lines.proofs.Walks.{left_next, right_next}
use Rattle.saved_lines.proofs.reach.Outward.nearest.Goals as goal
use Rattle.saved_lines.proofs.reach.Outward.nearest.Goals.{else-right-self-via-then-right-self+else-is_greater_nearer, else-right-self-via-else-right-self}

pub returns-then-left-self : goal.returns-then-left-self
returns-then-left-self c =
    let s = c.args.self.now in
    let w = c.requires.0 in
    right_next c.args.self.now.lines.offsets.now c.args.self.now.lines.checked c.args.self.now.query s.first s.left s.right s.end w (omega (arith, c.requires.1)) (λ p. absurd (omega arith))

pub is_greater_nearer-requires : goal.is_greater_nearer-requires
is_greater_nearer-requires c =
    let w = c.requires.0 in
    rising_strictly c.args.self.now.lines.offsets.now c.args.self.now.lines.checked (c.args.self.now.left - 1) c.args.self.now.right (omega (arith, w.low, w.below, w.above)) (omega (arith, w.high, w.most))

pub returns-then-is_greater_nearer : goal.returns-then-is_greater_nearer
returns-then-is_greater_nearer c =
    let s = c.args.self.now in
    right_next c.args.self.now.lines.offsets.now c.args.self.now.lines.checked c.args.self.now.query s.first s.left s.right s.end c.requires.0 c.if-right-self.true (λ p. sym c.is_greater_nearer.ensures ∙ c.if-is_greater_nearer.true)

pub returns : goal.returns
returns c =
    let s = c.args.self.now in
    let w = c.requires.0 in
    left_next c.args.self.now.lines.offsets.now c.args.self.now.lines.checked c.args.self.now.query s.first s.left s.right s.end w (omega (arith, w.low))
    (λ p. elim c.else-right-self.branch [
      | else-right-self-via-then-right-self+else-is_greater_nearer v ↦ sym v.is_greater_nearer.ensures ∙ v.if-is_greater_nearer.false
      | else-right-self-via-else-right-self v ↦ absurd (omega (arith, p, v.if-right-self.false))
    ])
