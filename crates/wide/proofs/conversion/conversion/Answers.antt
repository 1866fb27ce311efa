-- `wide::conversion::conversion` meets its contract: zero, or the cut, finished.
use Rattle.theory.proofs.Prelude.{◌<◌, ◌^◌, ⊎_elim, arith}
use Rattle.rounding.proofs.Prelude.{pow_pos, positional}
use Rattle.wide.proofs.Finishes.{rounds_zero}
use Rattle.wide.proofs.Conversions.{conversion_finishes}
use Rattle.wide.proofs.conversion.conversion.Goals as goal

pub returns-then-n-eq0 : goal.returns-then-n-eq0
returns-then-n-eq0 c = rw c.zero.ensures (rounds_zero (positional c.requires.0) c.args.direction c.args.negative _ (pow_pos c.requires.0.base_least c.args.down) (rw c.if-n-eq0.true (omega arith)))

pub finish-requires : goal.finish-requires
finish-requires c =
    let few : c.args.up < 2 ^ 28 = ⊎_elim (λ z. absurd (omega (arith, z, c.if-n-eq0.false))) (λ l. l) c.requires.1 in
    conversion_finishes c.requires.0 _ _ _ few (omega arith) c.conversion_cut-exact.ensures

pub returns : goal.returns
returns c = c.finish.ensures _ _ (pow_pos c.requires.0.base_least c.args.down) c.conversion_cut-exact.ensures
