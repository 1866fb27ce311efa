-- A shift in base 2, else squaring.
use Rattle.theory.proofs.Prelude.{ℕ, ◌<◌, ◌^◌, ◌∙◌, ap, sym, arith}
use Rattle.format.proofs.Limits.{exponent_most}
use Rattle.format.proofs.Squaring.{one_shl}
use Rattle.format.proofs.powers.power.Goals as goal

pub returns-then-base-eq2 : goal.returns-then-base-eq2
returns-then-base-eq2 c =
    let exponent : c.args.k < 64 = omega (arith, exponent_most 63 c.args.base c.args.k c.requires.0 c.requires.2) in
    one_shl 64 c.args.k exponent ∙ ap (λ (b : ℕ). b ^ c.args.k) (sym c.if-base-eq2.true)

pub overflow_shl-result : goal.overflow_shl-result
overflow_shl-result c =
    let exponent : c.args.k < 64 = omega (arith, exponent_most 63 c.args.base c.args.k c.requires.0 c.requires.2) in
    exponent
