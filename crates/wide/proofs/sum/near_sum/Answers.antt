-- `wide::sum::near_sum` meets its contract: the lower number in units of the higher place, added.
use Rattle.theory.proofs.Prelude.{ℕ, ◌≤◌, ◌<◌, ◌+◌, ◌*◌, ◌/◌, ◌%◌, ◌^◌, Bool, ◌∙◌, ap₂, ◌≡◌, refl, subst, div-add-mod', mod-lt, arith}
use native.Mathlib.Nat.{div-le_self}
use Rattle.rounding.proofs.Prelude.{Scale, Unit, unit_pos}
use Rattle.wide.specs.Sum.{InUnits, above}
use Rattle.wide.proofs.Sums.{near_sum_cut, units_sum, units_short, units_most}
use Rattle.wide.proofs.sum.near_sum.Goals as goal

unit : {s : Scale} {w gap : ℕ} → w ≡ s.base ^ gap → gap ≤ s.digits → Unit s w gap
unit e l = record { is = e; most = l }

-- of a number n that was divided, by the whole number
added : {m n q r w given taken rest : ℕ} {t : Bool} → (q ≡ n / w) × (r ≡ n % w) → InUnits m (q * w + r) w t given taken rest → InUnits m n w t given taken rest
added {m} {n} {w = w} {given} {taken} {rest} {t} e =
    subst (λ (v : ℕ). InUnits m v w t given taken rest) (ap₂ (λ (x y : ℕ). x * w + y) e.0 e.1 ∙ div-add-mod' n w)

pub add_part-sum-requires : goal.add_part-sum-requires
add_part-sum-requires c =
    let p = c.requires in
    let few = div-le_self c.args.n c.power-unit.result in (
      omega (arith, p.1.canonical.small, p.0.bound_power, p.0.bound_most),
      omega (arith, c.split-part.ensures.0, few, p.2.canonical.small, p.0.bound_power, p.0.bound_most),
      omega (arith, c.split-part.ensures.1, mod-lt c.args.n (unit_pos p.0 (unit c.power-unit.ensures p.3))),
    )

pub short_cut-requires : goal.short_cut-requires
short_cut-requires c =
    let p = c.requires in
    let u = unit c.power-unit.ensures p.3 in
    (p.0, u, units_short p.0 u p.1 p.2 refl (added c.split-part.ensures c.add_part-sum.ensures) c.if-sum-scale.true, p.2.place_most)

pub near_cut-requires : goal.near_cut-requires
near_cut-requires c =
    let p = c.requires in
    let sum = added c.split-part.ensures c.add_part-sum.ensures in
    let first : c.args.m < c.args.scale.bound = omega (arith, p.1.canonical.small, p.0.bound_power) in
    let second : c.args.n < c.args.scale.bound = omega (arith, p.2.canonical.small, p.0.bound_power) in (
      p.0,
      unit c.power-unit.ensures p.3,
      omega (arith, c.if-sum-scale.false),
      omega (arith, units_most sum first second),
      sum.small,
      p.2.place_most,
    )

pub returns-then-sum-scale : goal.returns-then-sum-scale
returns-then-sum-scale c =
    let p = c.requires in
    let k = c.short_cut.ensures in
    near_sum_cut p.0 p.1 p.2 c.args.gap refl c.power-unit.ensures (units_sum (added c.split-part.ensures c.add_part-sum.ensures) c.args.a c.args.b refl k.sized) k.is

pub returns : goal.returns
returns c =
    let p = c.requires in
    let sum = added c.split-part.ensures c.add_part-sum.ensures in
    near_sum_cut p.0 p.1 p.2 c.args.gap refl c.power-unit.ensures (units_sum sum c.args.a c.args.b refl (above (omega (arith, c.if-sum-scale.false)) refl refl)) c.near_cut.ensures
