-- The byte of the exponent, and one more.
use Rattle.theory.proofs.Prelude.{ℕ, ◌+◌, ◌*◌, ◌/◌, ◌%◌, ◌^◌, ◌∙◌, ap, arith}
use Rattle.format.proofs.Limits.{unpacked_is}
use Rattle.format.proofs.powers.limit.Goals as goal

pub returns : goal.returns
returns c =
    let k = c.args.k in
    ap (λ (n : ℕ). n / 2 ^ (8 * (k % 8)) % 256 + 1) c.packed.ensures ∙ unpacked_is k (omega (arith, c.requires))
