-- `rounding::digits::decimal_power` meets its contract: the factors of each exponent, by one computed test.
use Rattle.theory.proofs.Prelude.{◌*◌, ◌∙◌, ap₂}
use Rattle.rounding.proofs.Decimals.{decimal}
use Rattle.rounding.proofs.digits.decimal_power.Goals as goal

pub returns : goal.returns
returns c =
    ap₂ ◌*◌ (ap₂ ◌*◌ (ap₂ ◌*◌ c.factor.ensures c.factor-2.ensures) c.factor-3.ensures) (ap₂ ◌*◌ c.factor-4.ensures c.factor-5.ensures) ∙ (decimal c.args.k c.requires).is
