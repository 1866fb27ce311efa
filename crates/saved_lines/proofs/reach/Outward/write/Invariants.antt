-- `saved_lines::reach::Outward::write` meets its contract: what is written, then what is left in its order, is the whole in its order.
use Rattle.theory.proofs.Prelude.{◌≡◌}
use Rattle.saved_lines.proofs.Walks.{Written}
use Rattle.saved_lines.proofs.reach.Outward.write.Given as goal

abbrev pub invariant-loop-place : goal.invariant-loop-place
invariant-loop-place l =
    (l.self ≡ record l.fn.self { left = l.self.left; right = l.self.right })
    × Written l.fn.self.lines.offsets.now l.fn.self.query l.fn.self.first l.fn.self.end l.place-items l.self.left l.self.right l.place-index
