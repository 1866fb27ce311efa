-- `wide::sum::sum` meets its contract: the sum does not depend on the order.
use Rattle.theory.proofs.Prelude.{◌≤◌, ◌+◌, ◌-◌, ap, ◌∙◌, ◌≡◌, subst, arith, ℤ, ◌+ℤ◌, +ℤ_comm}
use Rattle.rounding.proofs.Prelude.{Scale, Direction}
use Rattle.rounding.specs.declared.Rounding.{Rounding}
use Rattle.rounding.specs.declared.Wide.{Wide}
use Rattle.wide.specs.Operand.{value_of, wide}
use Rattle.wide.specs.Sum.{RoundsZ}
use Rattle.wide.proofs.sum.sum.Goals as goal
use Rattle.wide.proofs.sum.sum.Goals.{then-high-low, else-high-low}

-- the higher one, from the lower one's place and the distance
raised : (h l : Wide) → l.place ≤ h.place → wide h.negative h.significand (l.place + (h.place - l.place)) ≡ h
raised h l e = ap (wide h.negative h.significand) (omega (arith, e))

ordered : (s : Scale) (d : Direction) {h l : Wide} (high low : Wide) {r : Rounding} → h ≡ high → l ≡ low → low.place ≤ high.place
    → RoundsZ s.base s.digits d (value_of s.base (wide h.negative h.significand (l.place + (h.place - l.place))) +ℤ value_of s.base (wide l.negative l.significand l.place)) r
    → RoundsZ s.base s.digits d (value_of s.base high +ℤ value_of s.base low) r
ordered s d high low {r} e f g t =
    subst (λ (x : Wide). RoundsZ s.base s.digits d (value_of s.base x +ℤ value_of s.base low) r) (raised high low g) (rw (e, f) at t)

pub returns : goal.returns
returns c =
    let a = c.args in
    let value = value_of a.scale.base in
    elim c.if-high-low.branch [
      | then-high-low w ↦
          subst (λ (z : ℤ). RoundsZ a.scale.base a.scale.digits a.direction z c.aligned_sum.result) (+ℤ_comm (value a.y) (value a.x))
          (ordered a.scale a.direction a.y a.x (w.high-is ∙ w.swap.ensures.x_after) (w.low-is ∙ w.swap.ensures.y_after) (omega (arith, w.if-high-low.true)) c.aligned_sum.ensures)
      | else-high-low w ↦ ordered a.scale a.direction a.x a.y w.high-is w.low-is w.if-high-low.false c.aligned_sum.ensures
    ]
