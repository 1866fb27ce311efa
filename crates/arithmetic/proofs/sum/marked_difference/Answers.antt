-- `arithmetic::sum::marked_difference` meets its contract: the sum with the second number negated.
use Rattle.theory.proofs.Prelude.{Bool, ◌∙◌, ap, ap₂, ℤ, ◌+ℤ◌}
use Rattle.arithmetic.proofs.Prelude.{Number, value, known, rounded_z}
use Rattle.arithmetic.specs.Operations.{zero_sign}
use Rattle.arithmetic.specs.Marked.{marked}
use Rattle.arithmetic.proofs.Prepared.{turned_member, turned_value}
use Rattle.arithmetic.proofs.sum.marked_difference.Goals as goal

pub marked_sum-requires : goal.marked_sum-requires
marked_sum-requires c =
    let p = c.requires in
    record { usable = p.usable; first = p.first; second = turned_member (known p.usable).admits c.args.b p.second c.with_sign.ensures }

pub returns : goal.returns
returns c =
    let f = c.args.prepared.format in
    c.marked_sum.ensures
    ∙ ap₂ (λ (t : Bool) (v : ℤ). marked f (value f c.args.a +ℤ v) 1 (rounded_z f c.args.direction (zero_sign c.args.direction c.args.a.negative t) (value f c.args.a +ℤ v)))
    (ap (λ (x : Number). x.negative) c.with_sign.ensures)
    (turned_value (known c.requires.usable).admits c.args.b c.requires.second c.with_sign.ensures)
