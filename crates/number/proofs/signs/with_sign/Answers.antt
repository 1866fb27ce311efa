-- `number::signs::with_sign` meets its contract.
use Rattle.theory.proofs.Prelude.{w32, SFits, rules}
use Rattle.format.proofs.Signed.{back}
use Rattle.number.proofs.signs.with_sign.Goals as goal

pub returns : goal.returns
returns c =
    let e_fits : SFits w32 c.args.x.exponent = search rules in
    rw (back e_fits)
