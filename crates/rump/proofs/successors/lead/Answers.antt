-- `rump::successors::lead` meets its contract.
use Rattle.theory.proofs.Prelude.{ℕ, ◌+◌, ◌-◌, ◌^◌, false, ◌∙◌, ap, ◌≡◌, arith, rules}
use Rattle.number.proofs.Prelude.{Prepared, above_zero, below_zero, number, known}
use Rattle.number.proofs.Membership.{Known}
use Rattle.arithmetic.proofs.Prepared.{below_most}
use Rattle.rump.specs.Figures.{lead_place}
use Rattle.rump.proofs.Reach.{led, above_read, below_read, emin_read}
use Rattle.rump.proofs.successors.lead.Goals as goal

-- the place that the code works out
place_is : {q : Prepared} → Known q → {b a : ℕ} → b ≡ below_zero q.format.emin → a ≡ above_zero q.format.emin → q.scale.digits - 1 + b - a ≡ lead_place q.format
place_is k h l = omega (arith, k.digits, h, l)

pub returns : goal.returns
returns c =
    let f = c.args.prepared.format in
    let low = below_read f.emin c.below_zero.ensures (search rules) in
    let high = above_read f.emin c.above_zero.ensures (search rules) in
    let place = place_is (known c.requires.0) low high in
    c.power_number.ensures ∙ ap (λ (i : ℕ). number f false (f.base ^ i)) place

pub overflow_sub-place : goal.overflow_sub-place
overflow_sub-place c =
    let k = known c.requires.0 in
    omega (arith, k.digits, k.admits.digits_low)

pub below_zero-requires : goal.below_zero-requires
below_zero-requires c = emin_read (known c.requires.0).admits (search rules)

pub overflow_add-place : goal.overflow_add-place
overflow_add-place c =
    let k = known c.requires.0 in
    omega (arith, below_read c.args.prepared.format.emin c.below_zero.ensures (search rules), below_most k.admits, k.digits, k.admits.digits_high)

pub overflow_sub-place-2 : goal.overflow_sub-place-2
overflow_sub-place-2 c =
    let k = known c.requires.0 in
    omega (
      arith,
      below_read c.args.prepared.format.emin c.below_zero.ensures (search rules),
      above_read c.args.prepared.format.emin c.above_zero.ensures (search rules),
      k.digits,
      (led k.admits c.requires.1).low,
    )

pub power_number-requires : goal.power_number-requires
power_number-requires c =
    let f = c.args.prepared.format in
    let k = known c.requires.0 in
    let low = below_read f.emin c.below_zero.ensures (search rules) in
    let high = above_read f.emin c.above_zero.ensures (search rules) in
    let place = place_is k low high in
    (c.requires.0, omega (arith, place, k.digits, k.admits.digits_low, k.highest, (led k.admits c.requires.1).high))
