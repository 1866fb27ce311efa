-- `format::admission::distance` meets its contract: the difference is from 0 to 2400.
use Rattle.theory.proofs.Prelude.{arith, ◌-ℤ◌, Fits-nat_abs, w32, SFits}
use Rattle.format.proofs.Signed.{fits, not_negative, back}
use Rattle.format.proofs.Formats.{Distance, exponents, distances}
use Rattle.format.proofs.admission.distance.Goals as goal

pub overflow_cast-result : goal.overflow_cast-result
overflow_cast-result c =
    let range : Distance c.args.from c.args.to = distances (exponents _ _ c.requires) in
    let fit : SFits w32 (c.args.to -ℤ c.args.from) = let d = range in fits (c.args.to -ℤ c.args.from) (omega arith) (omega arith) in
    rw (back c.ranges.to, back c.ranges.from, back fit)
    (not_negative (c.args.to -ℤ c.args.from) range.forward, Fits-nat_abs tt fit)

pub overflow_sub-result : goal.overflow_sub-result
overflow_sub-result c =
    let range : Distance c.args.from c.args.to = distances (exponents _ _ c.requires) in
    let fit : SFits w32 (c.args.to -ℤ c.args.from) = let d = range in fits (c.args.to -ℤ c.args.from) (omega arith) (omega arith) in
    rw (back c.ranges.to, back c.ranges.from) fit

pub returns : goal.returns
returns c =
    let range : Distance c.args.from c.args.to = distances (exponents _ _ c.requires) in
    let fit : SFits w32 (c.args.to -ℤ c.args.from) = let d = range in fits (c.args.to -ℤ c.args.from) (omega arith) (omega arith) in
    rw (back c.ranges.to, back c.ranges.from, back fit)
