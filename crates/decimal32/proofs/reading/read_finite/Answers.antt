-- `decimal32::reading::read_finite` meets its contract.
use Rattle.theory.proofs.Prelude.{ℕ, ◌≤◌, ◌^◌, ◌*◌, true, Bool, ◌∙◌, ap, ◌≡◌, refl, ap₂, arith}
use Rattle.theory.specs.Wide.{Canonical}
use Rattle.format.specs.declared.Prepared.{Prepared}
use Rattle.format.specs.Formats.{prepared_of}
use Rattle.format.specs.Published.{decimal32}
use Rattle.number.specs.declared.Number.{Number}
use Rattle.number.specs.Checks.{Usable}
use Rattle.number.specs.Numbers.{number}
use Rattle.number.proofs.Membership.{usable}
use Rattle.decimal32.specs.declared.Placed.{Placed}
use Rattle.decimal32.specs.Placed.{AllDigits}
use Rattle.decimal32.specs.Patterns.{finite, biased_of, coefficient_of, magnitude_read, number_read}
use Rattle.decimal32.proofs.Fields.{decimal32_admitted, coefficient_small, biased_most}
use Rattle.decimal32.proofs.reading.read_finite.Goals as goal

-- what the calls give
module _ (n : ℕ) {q : Prepared} {m k : ℕ} {d : Placed} (qe : q ≡ prepared_of decimal32) (me : m ≡ coefficient_of n) (ke : k ≡ biased_of n) (a : AllDigits m k d) where
  ready : finite n ≡ true → Usable q × Canonical q.format.base q.format.digits d.significand d.place × (d.place ≤ q.highest)
  ready h = rw qe (usable decimal32_admitted refl, a.canonical, omega (arith, a.lower, ke, biased_most n h))

  same_value : d.significand * 10 ^ d.place ≡ magnitude_read n
  unfolding magnitude_read
  same_value = a.same ∙ ap₂ (λ (c e : ℕ). c * 10 ^ e) me ke

  gives : (s : Bool) {x : Number} → x ≡ number q.format s (d.significand * q.format.base ^ d.place) → x ≡ number decimal32 s (magnitude_read n)
  gives s e = e ∙ rw qe (ap (number decimal32 s) same_value)

pub with_all_digits-digits-requires : goal.with_all_digits-digits-requires
with_all_digits-digits-requires c = rw c.coefficient_of-coefficient.ensures (coefficient_small _)

pub number_at-requires : goal.number_at-requires
number_at-requires c = ready c.args.pattern c.prepared_decimal32.ensures c.coefficient_of-coefficient.ensures c.biased_of.ensures c.with_all_digits-digits.ensures c.requires

pub returns : goal.returns
unfolding number_read
returns c = gives c.args.pattern c.prepared_decimal32.ensures c.coefficient_of-coefficient.ensures c.biased_of.ensures c.with_all_digits-digits.ensures _ c.number_at.ensures
