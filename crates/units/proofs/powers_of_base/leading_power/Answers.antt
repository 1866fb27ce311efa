-- `units::powers_of_base::leading_power` meets its contract: the loop climbs through the powers of the base that are at most m.
use Rattle.theory.proofs.Prelude.{ℕ, ◌≤◌, ◌<◌, ◌^◌, ◌*◌, ◌-◌, suc, ◌/◌, ◌∙◌, ap, ◌≡◌, sym, subst, mul-le-mul_left, pow-zero, div-lt_iff_lt-mul, pow-suc, le-div_iff_mul-le, mul_comm, arith}
use Rattle.theory.specs.Units.{ufp}
use Rattle.theory.proofs.Powers.{pow_pos, pow_pred}
use Rattle.theory.proofs.Units.{ufp_unique}
use Rattle.units.proofs.powers_of_base.leading_power.Goals as goal

within : {β m power : ℕ} → 2 ≤ β → power ≤ m / β → power * β ≤ m
within {β} {m} {power} h l = (le-div_iff_mul-le {k = β} {x = power} {y = m} (omega arith)).0 l

beyond : {β m power : ℕ} → 2 ≤ β → m / β < power → m < β * power
beyond {β} {m} {power} h l = rw (mul_comm β power) ((div-lt_iff_lt-mul {k = β} {x = m} {y = power} (omega arith)).0 l)

pub returns-then-scale-m : goal.returns-then-scale-m
returns-then-scale-m c =
    let h = c.requires.0 in
    let f : c.args.scale.least ≡ c.args.scale.base ^ (c.args.scale.digits - 1) = h.least_power in
    f
    ∙ sym
    (ufp_unique h.base_least (c.args.scale.digits - 1) (omega (arith, c.if-scale-m.true))
    (omega (arith, c.requires.1, h.bound_power, pow_pred c.args.scale.base h.digits_least)))

pub returns-then-m-eq0 : goal.returns-then-m-eq0
unfolding ufp
returns-then-m-eq0 c = sym (ap (ufp c.args.scale.base) c.if-m-eq0.true)

pub nonzero_div-bound : goal.nonzero_div-bound
nonzero_div-bound c = let h = c.requires.0 in omega (arith, h.base_least)

pub loop-power-init : goal.loop-power-init
loop-power-init c = record { exponent = 0; is = sym (pow-zero c.args.scale.base); most = omega (arith, c.if-m-eq0.false) }

grows : (β : ℕ) {p : ℕ} → 2 ≤ β → 1 ≤ p → p < p * β
grows β {p} h k = omega (arith, mul-le-mul_left p h)

pub loop-power-smaller : goal.loop-power-smaller
loop-power-smaller c =
    let next : c.loop-power.power * c.args.scale.base ≤ c.args.m = within c.requires.0.base_least c.loop-power-test.true in
    let positive : 1 ≤ c.loop-power.power = let i = c.loop-power.invariant in omega (arith, i.is, pow_pos c.requires.0.base_least i.exponent) in
    omega (arith, next, grows c.args.scale.base c.requires.0.base_least positive)

pub loop-power-preserved : goal.loop-power-preserved
loop-power-preserved c =
    let next : c.loop-power.power * c.args.scale.base ≤ c.args.m = within c.requires.0.base_least c.loop-power-test.true in
    let i = c.loop-power.invariant in
    let β = c.args.scale.base in
    record { exponent = suc i.exponent; is = ap (λ (v : ℕ). v * β) i.is ∙ sym (pow-suc β i.exponent); most = next }

pub returns : goal.returns
returns c =
    let i = c.loop-power.invariant in
    let over = beyond c.requires.0.base_least c.loop-power-test.false in
    i.is
    ∙ sym
    (ufp_unique c.requires.0.base_least i.exponent (omega (arith, i.is, i.most)) (subst (λ (v : ℕ). c.args.m < c.args.scale.base * v) i.is over))

pub overflow_mul-power : goal.overflow_mul-power
overflow_mul-power c =
    let next : c.loop-power.power * c.args.scale.base ≤ c.args.m = within c.requires.0.base_least c.loop-power-test.true in
    omega (arith, next, c.ranges.m.fits)
