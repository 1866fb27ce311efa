-- `fast_two_sum::check::is_faithful_difference` meets its contract.
use Rattle.theory.proofs.Prelude.{◌∙◌, ap, ℤ, ◌+ℤ◌}
use Rattle.number.proofs.Prelude.{value, known}
use Rattle.arithmetic.proofs.Prepared.{turned_member, turned_value}
use Rattle.fast_two_sum.specs.Checks.{is_faithful}
use Rattle.fast_two_sum.proofs.check.is_faithful_difference.Goals as goal

pub is_faithful_sum-requires : goal.is_faithful_sum-requires
is_faithful_sum-requires c =
    let p = c.requires in (
      record { usable = p.0.usable; first = p.0.first; second = turned_member (known p.0.usable).admits c.args.b p.0.second c.with_sign.ensures },
      p.1,
    )

pub returns : goal.returns
returns c =
    let f = c.args.prepared.format in
    c.is_faithful_sum.ensures
    ∙ ap (λ (v : ℤ). is_faithful f (value f c.args.a +ℤ v) (value f c.args.x))
    (turned_value (known c.requires.0.usable).admits c.args.b c.requires.0.second c.with_sign.ensures)
