-- `wide::quotient::quotient_cut` meets its contract: by how far the digits reach.
use Rattle.theory.proofs.Prelude.{ℕ, ◌≤◌, ◌<◌, ◌^◌, ◌*◌, ◌-◌, ⊎_elim, inl, inr, ◌⊎◌, ◌∙◌, ap, ◌≡◌, sym, subst, mul-le-mul_left, lt-ltb, arith}
use Rattle.std.specs.Prelude.{min}
use Rattle.std.proofs.lemmas.Bool.{cases_lt}
use Rattle.rounding.proofs.Prelude.{pow_mono, Location, digits_most, power_at}
use Rattle.wide.proofs.Quotients.{Kept, kept_less, kept_more, kept_reach, quotient_drop, quotient_under, digits_are}
use Rattle.wide.proofs.quotient.quotient_cut.Goals as goal
use Rattle.wide.proofs.quotient.quotient_cut.Goals.{Joined-b-a, Joined-after-most, then-b-a, else-b-a, then-after-most, else-after-most}

digits_kept : (c : Joined-b-a) → c.if-b-a.most ≤ c.args.scale.digits
digits_kept c = elim c.if-b-a.branch [ then-b-a w ↦ omega arith | else-b-a w ↦ omega arith ]

kept : (c : Joined-b-a) → Kept c.requires.0 c.args.a c.args.b c.if-b-a.most
kept c =
    let p = c.requires in
    let K : ℕ → Type 0 = λ i. Kept p.0 c.args.a c.args.b i in
    elim c.if-b-a.branch [
      | then-b-a w ↦ subst K (sym w.most-is) (kept_less p.0 p.1 p.2 w.if-b-a.true)
      | else-b-a w ↦ subst K (sym w.most-is) (kept_more p.0 p.1 p.2 w.if-b-a.false)
    ]

-- the unit is the power of those digits
unit_power : (c : Joined-b-a) → c.if-b-a.unit ≡ c.args.scale.base ^ c.if-b-a.most
unit_power c =
    let h = c.requires.0 in
    let β = c.args.scale.base in
    elim c.if-b-a.branch [
      | then-b-a w ↦ w.unit-is ∙ h.least_power ∙ power_at β (sym w.most-is)
      | else-b-a w ↦ w.unit-is ∙ h.bound_power ∙ power_at β (sym w.most-is)
    ]

-- and that of the digits that are brought before the point: all of them, or as many as there are above the lowest place
after_power : (c : Joined-after-most) → c.if-after-most.unit ≡ c.args.scale.base ^ c.min-after.result
after_power c =
    let first = c.before.before in
    let β = c.args.scale.base in
    let e = c.min-after.ensures in
    elim c.if-after-most.branch [
      | then-after-most w ↦ w.unit-is ∙ w.power-unit.ensures
      | else-after-most w ↦ w.unit-is ∙ unit_power first ∙ power_at β (omega (arith, e, w.if-after-most.false))
    ]

lesser : (most reach : ℕ) → (min most reach ≡ reach) ⊎ (min most reach ≡ most)
lesser most reach = ⊎_elim (λ (l : most < reach). inr (omega (arith, l))) (λ (l : reach ≤ most). inl (omega (arith, l))) (cases_lt most reach)

pub returns-then-high-low : goal.returns-then-high-low
returns-then-high-low c =
    let p = c.requires in
    let a = c.args in
    let under = λ (i : ℕ) (k : Kept p.0 a.a a.b i). quotient_under p.0 p.1 p.2 i k a.high a.low (a.low - a.high) (omega arith) (omega arith) in (
      ap (λ (l : Location). record { steps = 0; place = 0; location = l }) c.locate_under.ensures
          ∙ sym (⊎_elim (λ l. under _ (kept_more p.0 p.1 p.2 l)) (λ l. under _ (kept_less p.0 p.1 p.2 l)) (cases_lt a.a a.b)),
      rw (lt-ltb a.high a.low c.if-high-low.true),
    )

pub divide_shifted-requires : goal.divide_shifted-requires
divide_shifted-requires c =
    let p = c.requires in
    let a = c.args in
    let first = c.before.before in
    let after : ℕ = c.min-after.result in
    let most : after ≤ c.if-b-a.most = omega (arith, c.min-after.ensures) in
    let below : a.a * a.scale.base ^ after < a.b * a.scale.bound =
    omega (arith, (kept first).below, mul-le-mul_left a.a (pow_mono p.0.base_least most)) in
    let power = after_power c in
    (p.0, p.1, p.2, omega (arith, below, ap (λ (v : ℕ). a.a * v) power), power, omega (arith, most, digits_kept first, digits_most p.0))

pub returns : goal.returns
returns c =
    let p = c.requires in
    let a = c.args in
    let after : ℕ = c.min-after.result in
    let reach : ℕ = a.high - a.low in
    let most : ℕ = c.if-b-a.most in
    let e : after ≡ min most reach = c.min-after.ensures in
    let stop : (after ≡ reach) ⊎ (after ≡ most) = rw e (lesser most reach) in
    let k = kept c.before.before.before in
    let d = c.divide_shifted.ensures in (
      d.is ∙ sym (quotient_drop p.0 p.1 p.2 most k a.high a.low after (reach - after) (omega (arith, e)) (omega (arith, e, c.if-high-low.false))),
      d.count
          ∙ digits_are p.0 p.1 p.2 a.high a.low after (omega (arith, c.if-high-low.false))
          (kept_reach p.0 p.1 p.2 k (omega (arith, e)) stop (omega (arith, e))),
    )
