-- In base 2 every exponent is small enough; else the limit decides.
use Rattle.theory.proofs.Prelude.{ℕ, ◌^◌, ◌∙◌, ap, sym, arith, leb, le-leb}
use native.Mathlib.Nat.{pow-le-pow_right}
use Rattle.format.specs.Formats.{greatest_power}
use Rattle.format.proofs.Limits.{limit_test}
use Rattle.format.proofs.powers.fits.Goals as goal

pub returns-then-base-eq2 : goal.returns-then-base-eq2
returns-then-base-eq2 c = sym (ap (λ (b : ℕ). leb (b ^ c.args.k) greatest_power) c.if-base-eq2.true ∙ le-leb _ _ (pow-le-pow_right {n = 2} (omega arith) c.requires.1))

pub returns : goal.returns
returns c = ap (λ (l : ℕ). leb c.args.base l) c.limit.ensures ∙ limit_test c.args.base c.args.k (omega (arith, c.requires.1)) c.requires.0
