-- `wide::long_division::align` meets its contract: the divisor is d times the power `place`; before a turn it is at most n.
use Rattle.theory.proofs.Prelude.{ℕ, ◌≤◌, ◌<◌, ◌^◌, ◌*◌, mul-le-mul_left, mul-lt-mul_of_pos_right, arith}
use Rattle.wide.proofs.Digits.{align_next, align_few}
use Rattle.wide.proofs.long_division.align.Goals as goal

pub loop-divisor-preserved : goal.loop-divisor-preserved
loop-divisor-preserved c =
    let divisor : ℕ = c.loop-divisor.divisor in
    let base : ℕ = c.args.base in
    let doubled : 2 * divisor ≤ divisor * base = omega (arith, mul-le-mul_left divisor c.requires.0) in
    let bounded : divisor * base < 2 ^ 32 * base = mul-lt-mul_of_pos_right (omega arith) (omega arith) in
    (align_next base c.args.d c.loop-divisor.place c.loop-divisor.invariant.0, omega (arith, doubled), bounded)

pub overflow_add-place : goal.overflow_add-place
overflow_add-place c =
    let few : c.loop-divisor.place < 40 = let i = c.loop-divisor.invariant in
    align_few c.args.base c.args.d c.loop-divisor.place c.requires.0 c.requires.2 i.0 (omega arith) in
    omega (arith, few)

pub returns : goal.returns
returns c =
    let few : c.loop-divisor.place < 40 = let i = c.loop-divisor.invariant in
    align_few c.args.base c.args.d c.loop-divisor.place c.requires.0 c.requires.2 i.0 (omega arith) in
    let i = c.loop-divisor.invariant in record { power = i.0; above = omega arith; most = i.2; few = few }
