-- `saved_lines::reach::Outward::write` meets its contract: what is written, then what is left in its order, is the whole in its order.
use Rattle.theory.proofs.Prelude.{ℕ, ◌<◌, ◌-◌, List, ◌++◌, ap, refl, arith, length, drop}
use lib.Seq.{length-take-le}
use Rattle.saved_lines.specs.Walks.{Next}
use Rattle.saved_lines.proofs.Walks.{none_written, all_written, went_left, went_right, next_inside}
use Rattle.saved_lines.proofs.reach.Outward.write.Goals as goal
use Rattle.saved_lines.proofs.reach.Outward.write.Goals.{After-nearest-next, then-next-self, else-next-self}

pub loop-place-init : goal.loop-place-init
loop-place-init c =
    let s = c.args.self in
    (refl, none_written s.lines.offsets.now s.query s.first s.end s.left s.right c.requires.1 c.requires.0)

pub nearest-next-requires : goal.nearest-next-requires
nearest-next-requires c =
    let w = c.loop-place.invariant.1 in
    rw c.loop-place.invariant.0 (w.walk, omega (arith, w.count, w.walk.low, w.walk.high, length-take-le (c.args.self.end - c.args.self.first) c.args.out.now c.requires.2))

-- the next line is one of the list
module _ (c : After-nearest-next) where
  next_is : Next c.args.self.lines.offsets.now c.args.self.query c.args.self.first c.loop-place.self.left c.loop-place.self.right c.args.self.end c.nearest-next.result
  next_is = rw c.loop-place.invariant.0 at c.nearest-next.ensures

  inside : c.nearest-next.result < 4096
  inside =
      let s = c.args.self in
      omega (arith, next_inside s.lines.offsets.now s.lines.checked s.query s.first c.loop-place.self.left c.loop-place.self.right s.end c.loop-place.invariant.1.walk next_is, c.requires.0.most, s.lines.checked.most)

pub overflow_cast-place : goal.overflow_cast-place
overflow_cast-place c = omega (arith, inside (goal.at.overflow_cast-place c).After-nearest-next)

pub loop-place-preserved : goal.loop-place-preserved
loop-place-preserved c =
    let s = c.args.self in
    let w = c.loop-place.invariant.1 in
    let room : c.loop-place.place-index < length c.loop-place.place-items = omega arith in
    let n = next_is (goal.at.loop-place-preserved c).After-nearest-next in
    elim c.if-next-self.branch [
      | then-next-self v ↦ rw (v.self-is, c.loop-place.invariant.0) (refl, went_left s.lines.offsets.now s.query s.first s.end w room c.nearest-next.result n v.if-next-self.true)
      | else-next-self v ↦ rw (v.self-is, c.loop-place.invariant.0) (refl, went_right s.lines.offsets.now s.query s.first s.end w room c.nearest-next.result n v.if-next-self.false)
    ]

pub returns : goal.returns
returns c =
    let s = c.args.self in
    let w = c.loop-place.invariant.1 in
    let all = length-take-le (s.end - s.first) c.args.out.now c.requires.2 in
    ap (λ (xs : List ℕ). xs ++ drop (s.end - s.first) c.args.out.now)
    (all_written s.lines.offsets.now s.query s.first s.end w (omega (arith, w.count)) (omega arith))
