-- `wide::sum::near_cut` meets its contract: the steps have all their digits, or one more, which is dropped.
use Rattle.theory.proofs.Prelude.{ℕ, ◌≤◌, ◌<◌, ◌+◌, ◌^◌, ◌*◌, ◌∙◌, ap, ap₂, ◌≡◌, sym, div-add-mod', mod-lt, div-lt_iff_lt-mul, le-div_iff_mul-le, mul-le-mul_right, arith}
use native.Mathlib.Nat.{add_assoc}
use Rattle.rounding.proofs.Prelude.{Scale, Scaled, Location, Unit, cut_of, power_one, unit_next, unit_most, unit_pos, least_bound, digits_most}
use Rattle.wide.proofs.Sums.{unit_cut}
use Rattle.wide.proofs.sum.near_cut.Goals as goal

-- the base itself, by which the digit too many is divided off
base_unit : {s : Scale} → Scaled s → Unit s s.base 1
base_unit {s} h = record { is = sym (power_one s.base); most = h.digits_least }

pub returns-then-steps-scale : goal.returns-then-steps-scale
returns-then-steps-scale c =
    let a = c.args in
    let p = c.requires in
    ap (λ (l : Location). record { steps = a.steps; place = a.place + a.gap; location = l }) c.locate-location.ensures
    ∙ sym (unit_cut p.0 a.gap a.place p.1.is p.2 c.if-steps-scale.true p.4)

pub locate_twice-location-requires : goal.locate_twice-location-requires
locate_twice-location-requires c =
    let unit_word : (1 ≤ c.args.unit) × (c.args.unit ≤ 2 ^ 63) = let p = c.requires in (unit_pos p.0 p.1, omega (arith, unit_most p.0 p.1, p.0.bound_most)) in
    let rest : c.split-parts.result.remainder < c.args.scale.base = omega (arith, c.split-parts.ensures.1, mod-lt c.args.steps (unit_pos c.requires.0 (base_unit c.requires.0))) in
    (rest, omega (arith, unit_most c.requires.0 (base_unit c.requires.0), c.requires.0.bound_most), c.requires.4, unit_word.1)

pub returns : goal.returns
returns c =
    let rest : c.split-parts.result.remainder < c.args.scale.base = omega (arith, c.split-parts.ensures.1, mod-lt c.args.steps (unit_pos c.requires.0 (base_unit c.requires.0))) in
    let a = c.args in
    let p = c.requires in
    let β = a.scale.base in
    let some : 1 ≤ β = unit_pos p.0 (base_unit p.0) in
    let q = c.split-parts.result.quotient in
    let r = c.split-parts.result.remainder in
    let whole : q * β + r ≡ a.steps = ap₂ (λ (x y : ℕ). x * β + y) c.split-parts.ensures.0 c.split-parts.ensures.1 ∙ div-add-mod' a.steps β in
    let least : a.scale.least ≤ q = omega (arith, c.split-parts.ensures.0, (le-div_iff_mul-le {x = a.scale.least} {y = a.steps} some).1 (omega (arith, least_bound p.0, c.if-steps-scale.false))) in
    let most : q < a.scale.bound = omega (arith, c.split-parts.ensures.0, (div-lt_iff_lt-mul {x = a.steps} {y = a.scale.bound} some).1 (omega (arith, p.3, mul-le-mul_right a.scale.bound p.0.base_least))) in
    let value : q * (a.unit * β) + (r * a.unit + a.rest) ≡ a.steps * a.unit + a.rest = omega (arith, ap (λ (v : ℕ). v * a.unit) whole) in
    let below : r * a.unit + a.rest < a.unit * β = omega (arith, p.4, mul-le-mul_right a.unit rest) in
    ap₂ (λ (k : ℕ) (l : Location). record { steps = q; place = k; location = l }) (add_assoc a.place a.gap 1) c.locate_twice-location.ensures
    ∙ sym (unit_cut p.0 (a.gap + 1) a.place (unit_next p.1) least most below)
    ∙ ap (λ (n : ℕ). cut_of β a.scale.digits (n * β ^ a.place) (β ^ 0)) value

pub locate-location-requires : goal.locate-location-requires
locate-location-requires c =
    let unit_word : (1 ≤ c.args.unit) × (c.args.unit ≤ 2 ^ 63) = let p = c.requires in (unit_pos p.0 p.1, omega (arith, unit_most p.0 p.1, p.0.bound_most)) in
    (omega (arith, unit_word.1, c.requires.4), unit_word.0)

pub overflow_add-result : goal.overflow_add-result
overflow_add-result c = let p = c.requires in omega (arith, p.1.most, digits_most p.0, p.5)

pub split-parts-requires : goal.split-parts-requires
split-parts-requires c =
    (c.requires.0, base_unit c.requires.0)

pub overflow_add-result-2 : goal.overflow_add-result-2
overflow_add-result-2 c = let p = c.requires in omega (arith, p.1.most, digits_most p.0, p.5)

pub overflow_add-result-3 : goal.overflow_add-result-3
overflow_add-result-3 c = let p = c.requires in omega (arith, p.1.most, digits_most p.0, p.5)
