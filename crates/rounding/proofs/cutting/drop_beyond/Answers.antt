-- `rounding::cutting::drop_beyond` meets its contract: the upper part is divided.
use Rattle.theory.proofs.Prelude.{ℕ, ◌≤◌, ◌+◌, ◌^◌, ◌*◌, ◌-◌, ◌/◌, ◌%◌, ◌∙◌, ap, ap₂, ◌≡◌, mod-lt, arith}
use Rattle.two_words.specs.Amount.{amount}
use Rattle.rounding.proofs.Prelude.{Scale, Scaled, pow_pos, pow_half, dropped, dropped_made, dropped_under, located, square, power_most, power_beyond, bound_pos, digits_most, twice_steps, twice_rest}
use Rattle.rounding.proofs.cutting.drop_beyond.Goals as goal

power_some : {s : Scale} → Scaled s → (k : ℕ) {w : ℕ} → w ≡ s.base ^ k → 1 ≤ w
power_some h k e = omega (arith, e, pow_pos h.base_least k)

-- n has at most twice the digits of the format
pub returns-then-scale-j : goal.returns-then-scale-j
returns-then-scale-j c =
    let h = c.requires.0 in
    dropped_under (amount c.args.n) (c.args.scale.base ^ c.args.j) 0 c.requires.1 (omega (arith, c.requires.2, square h, pow_half h.base_least c.if-scale-j.true))

pub locate_twice-location-requires : goal.locate_twice-location-requires
locate_twice-location-requires c =
    let some = power_some c.requires.0 _ c.power-divisor.ensures in
    let h = c.requires.0 in
    let few : c.args.j - c.args.scale.digits ≤ c.args.scale.digits = omega (arith, c.if-scale-j.false) in (
      mod-lt c.divide-parts.result.quotient some,
      omega (arith, c.power-divisor.ensures, power_most h few),
      omega (arith, c.divide-parts.ensures.1, mod-lt (amount c.args.n) (bound_pos h)),
      h.bound_most,
    )

pub returns : goal.returns
returns c =
    let some = power_some c.requires.0 _ c.power-divisor.ensures in
    let d = c.divide-parts.ensures in
    let n = amount c.args.n in
    let P = c.args.scale.bound in
    let w = c.power-divisor.result in
    let hP = bound_pos c.requires.0 in
    dropped_made n (P * w)
    (ap (λ (q : ℕ). q / w) d.0 ∙ twice_steps n hP some)
    (c.locate_twice-location.ensures
    ∙ ap (λ (r : ℕ). located r (P * w)) (ap₂ (λ (q r : ℕ). q % w * P + r) d.0 d.1 ∙ twice_rest n hP some))
    ∙ ap (λ (m : ℕ). dropped n m 0) (power_beyond c.requires.0 c.requires.3 c.power-divisor.ensures)

pub overflow_mul-scale : goal.overflow_mul-scale
overflow_mul-scale c = omega (arith, digits_most c.requires.0)

pub nonzero_div-steps : goal.nonzero_div-steps
nonzero_div-steps c = power_some c.requires.0 _ c.power-divisor.ensures

pub nonzero_rem-upper : goal.nonzero_rem-upper
nonzero_rem-upper c = power_some c.requires.0 _ c.power-divisor.ensures
