-- `units::powers_of_base::power_number` meets its contract.
use Rattle.theory.proofs.Prelude.{ℕ, ◌≤◌, ◌<◌, ◌+◌, ◌^◌, ◌*◌, ◌-◌, false, ◌∙◌, ap, ◌≡◌, sym, ap₂, subst, pow-zero, mul-one, arith}
use Rattle.theory.specs.Wide.{Canonical}
use Rattle.theory.proofs.Powers.{pow_mono}
use Rattle.format.specs.declared.Scale.{Scale}
use Rattle.format.specs.Formats.{greatest_power, Scaled}
use Rattle.number.proofs.Prelude.{positional, number, highest_most}
use Rattle.number.proofs.Membership.{known, usable_scaled}
use Rattle.units.proofs.Forms.{power_low, power_high, power_split}
use Rattle.units.proofs.powers_of_base.power_number.Goals as goal

within : (s : Scale) → Scaled s → (k : ℕ) → k < s.digits → s.base ^ k ≤ greatest_power
within s h k l = omega (arith, pow_mono h.base_least {i = k} {j = s.digits} (omega arith), h.bound_power, h.bound_most)

pub power-significand-requires : goal.power-significand-requires
power-significand-requires c =
    let h = usable_scaled c.requires.0 in
    (h.base_least, h.base_most, within c.args.prepared.scale h _ (omega (arith, c.if-k-digits.true)))

pub number_at-requires : goal.number_at-requires
number_at-requires c =
    let low : c.power-significand.result ≡ c.args.prepared.format.base ^ c.args.k = c.power-significand.ensures ∙ ap (λ (b : ℕ). b ^ c.args.k) (known c.requires.0).base in
    let k = known c.requires.0 in (
      c.requires.0,
      subst (λ (m : ℕ). Canonical c.args.prepared.format.base c.args.prepared.format.digits m 0) (sym low) (power_low (positional k.admits) (omega (arith, k.digits, c.if-k-digits.true))),
      omega arith,
    )

pub returns-then-k-digits : goal.returns-then-k-digits
returns-then-k-digits c =
    let low : c.power-significand.result ≡ c.args.prepared.format.base ^ c.args.k = c.power-significand.ensures ∙ ap (λ (b : ℕ). b ^ c.args.k) (known c.requires.0).base in
    c.number_at.ensures
    ∙ ap (number c.args.prepared.format false) (ap₂ (λ (m q : ℕ). m * q) low (pow-zero c.args.prepared.format.base) ∙ mul-one _)

pub overflow_add-k : goal.overflow_add-k
overflow_add-k c =
    let k = known c.requires.0 in
    omega (arith, c.requires.1, k.admits.digits_high, k.highest, highest_most k.admits)

pub number_at-requires-2 : goal.number_at-requires-2
number_at-requires-2 c =
    let k = known c.requires.0 in (
      c.requires.0,
      subst (λ (m : ℕ). Canonical c.args.prepared.format.base c.args.prepared.format.digits m (c.args.k + 1 - c.args.prepared.scale.digits)) (sym k.least) (power_high (positional k.admits) _),
      omega (arith, c.requires.1, k.digits, c.if-k-digits.false),
    )

pub returns : goal.returns
returns c =
    let k = known c.requires.0 in
    c.number_at-2.ensures
    ∙ ap (number c.args.prepared.format false)
    (ap₂ (λ (m d : ℕ). m * c.args.prepared.format.base ^ (c.args.k + 1 - d)) k.least k.digits
    ∙ power_split (positional k.admits) c.args.k (omega (arith, k.digits, c.if-k-digits.false)))
