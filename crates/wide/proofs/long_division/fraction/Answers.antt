-- `wide::long_division::fraction` meets its contract: the cut of the fraction, delivered.
use Rattle.theory.proofs.Prelude.{◌≤◌, ◌+◌, ◌^◌, ◌*◌, mul-pos, arith}
use Rattle.rounding.proofs.Prelude.{pow_pos, positional}
use Rattle.wide.proofs.Sizes.{bits_size}
use Rattle.wide.proofs.Finishes.{finishes}
use Rattle.wide.proofs.long_division.fraction.Goals as goal

pub finish-requires : goal.finish-requires
finish-requires c =
    let size : 1 ≤ c.args.d * c.args.scale.base ^ c.args.down = mul-pos c.requires.1 (pow_pos c.requires.0.base_least c.args.down) in
    finishes c.requires.0 _ _ size c.cut_fraction.ensures (32 + c.args.up) (omega (arith, c.requires.2))
    (bits_size (positional c.requires.0) 32 c.args.n c.args.up (omega arith))

pub returns : goal.returns
returns c =
    let size : 1 ≤ c.args.d * c.args.scale.base ^ c.args.down = mul-pos c.requires.1 (pow_pos c.requires.0.base_least c.args.down) in
    c.finish.ensures _ _ size c.cut_fraction.ensures
