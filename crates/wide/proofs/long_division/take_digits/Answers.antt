-- `wide::long_division::take_digits` meets its contract. The invariant: the digits down to the place have been taken, no place before was
-- an end, and the quotient has at most the digits of the format. What the loop yields at each of its three ends is the invariant with
-- the test that ended it.
use Rattle.theory.proofs.Prelude.{ℕ, ◌≤◌, ◌<◌, ◌-◌, ◌*◌, ◌^◌, mul-le-mul_right, mul-lt-mul_of_pos_right, arith}
use Rattle.format.specs.declared.Scale.{Scale}
use Rattle.rounding.proofs.Prelude.{Scaled, bound_pos}
use Rattle.wide.specs.declared.long_division.Division.{Division}
use Rattle.wide.specs.Division.{Taken, NoEnd, Ended, Divided, all_digits, lowest_place, no_rest}
use Rattle.wide.proofs.Digits.{taken_exact, taken_none, taken_next, not_ended, no_end_next, fits_next, few_digits}
use Rattle.wide.proofs.long_division.take_digits.Goals as goal

yields : {s : Scale} {n w places : ℕ} {v : Division} → Scaled s → (1 ≤ n) → (n < w) → (w < 2 ^ 32 * s.base)
    → Taken s.base n w places v.quotient v.remainder v.place × NoEnd s n w places (places - v.place) × (v.quotient < s.bound) → Ended s v → Divided s n w places v
yields {s} h some below most i e =
    record {
      taken = i.0;
      ended = e;
      first = i.1;
      fits = i.2;
      count = few_digits 32 s.digits h.base_least some below most (omega (arith, h.bound_power, i.2)) i.0;
    }

pub loop-taken-init : goal.loop-taken-init
loop-taken-init c = (taken_none c.args.scale.base c.requires.2 c.args.places, λ i l. absurd (omega arith), bound_pos c.requires.0)

pub loop-taken-preserved : goal.loop-taken-preserved
loop-taken-preserved c =
    let v = c.loop-taken.taken in
    let i = c.loop-taken.invariant in
    let below = (taken_exact c.args.scale.base c.requires.2 i.0).1 in
    let next = fits_next {q = v.quotient} c.requires.0 below (omega (arith, c.if-scale-taken.false)) in (
      rw (c.next_digit-next.ensures.0, c.next_digit-next.ensures.1) (taken_next c.args.scale.base c.requires.2 i.0 (omega arith)),
      no_end_next v i.0 (not_ended (omega (arith, c.if-scale-taken.false)) (omega (arith, c.if-taken-eq0.false)) c.if-taken-eq0-2.false) i.1,
      omega (arith, c.next_digit-next.ensures.0, next),
    )

-- one word holds what remains, lowered by a place
pub overflow_mul-taken : goal.overflow_mul-taken
overflow_mul-taken c =
    let below = (taken_exact c.args.scale.base c.requires.2 c.loop-taken.invariant.0).1 in
    let most : c.loop-taken.taken.remainder ≤ 2 ^ 40 = omega (arith, below, c.requires.3, c.requires.0.base_most) in
    omega (arith, mul-le-mul_right c.args.scale.base most, c.requires.0.base_most)

pub next_digit-next-requires : goal.next_digit-next-requires
next_digit-next-requires c =
    let below = (taken_exact c.args.scale.base c.requires.2 c.loop-taken.invariant.0).1 in
    (omega (arith, below), mul-lt-mul_of_pos_right {k = c.args.scale.base} below (omega (arith, c.requires.0.base_least)))

pub overflow_add-taken : goal.overflow_add-taken
overflow_add-taken c =
    let below = (taken_exact c.args.scale.base c.requires.2 c.loop-taken.invariant.0).1 in
    let next = fits_next {q = c.loop-taken.taken.quotient} c.requires.0 below (omega (arith, c.if-scale-taken.false)) in
    omega (arith, c.next_digit-next.ensures.0, next, c.requires.0.bound_most)

pub returns-then-scale-taken : goal.returns-then-scale-taken
returns-then-scale-taken c = let p = c.requires in yields p.0 p.1 p.2 p.3 c.loop-taken.invariant (all_digits c.if-scale-taken.true)

pub returns-then-taken-eq0 : goal.returns-then-taken-eq0
returns-then-taken-eq0 c = let p = c.requires in yields p.0 p.1 p.2 p.3 c.loop-taken.invariant (lowest_place c.if-taken-eq0.true)

pub returns-then-taken-eq0-2 : goal.returns-then-taken-eq0-2
returns-then-taken-eq0-2 c = let p = c.requires in yields p.0 p.1 p.2 p.3 c.loop-taken.invariant (no_rest c.if-taken-eq0-2.true)
