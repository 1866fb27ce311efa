-- What the steps of reading a finite pattern give at any widths: the field, the significand and the place make the number.
use Rattle.theory.proofs.Prelude.{ℕ, ◌≤◌, ◌^◌, ◌*◌, ◌-◌, true, ◌∙◌, ap, ◌≡◌, sym, refl, arith}
use Rattle.theory.specs.Wide.{Canonical}
use Rattle.format.specs.declared.Prepared.{Prepared}
use Rattle.format.specs.Formats.{prepared_of}
use Rattle.number.specs.declared.Number.{Number}
use Rattle.number.specs.Checks.{Usable}
use Rattle.number.specs.Numbers.{number}
use Rattle.number.proofs.Membership.{usable}
use Rattle.binary_patterns.specs.Patterns.{format_of, sign_of, field_of, fraction_of, finite, number_read}
use Rattle.binary_patterns.proofs.Fields.{Widths, highest, significand_of, pattern_canonical, magnitude_is, finite_field}

module _ {w t : ℕ} (l : Widths w t) (n : ℕ) {q : Prepared} {field m k : ℕ} (qe : q ≡ prepared_of (format_of w t)) (fe : field ≡ field_of w t n)
    (me : m ≡ significand_of t field (fraction_of w t n)) (ke : k ≡ field - 1) where
  place_is : k ≡ field_of w t n - 1
  place_is = ke ∙ ap (λ (e : ℕ). e - 1) fe

  significand_is : m ≡ significand_of t (field_of w t n) (fraction_of w t n)
  significand_is = me ∙ ap (λ (e : ℕ). significand_of t e (fraction_of w t n)) fe

  -- they are what `number_at` asks for
  pub steps_ready : finite w t n ≡ true → Usable q × Canonical q.format.base q.format.digits m k × (k ≤ q.highest)
  steps_ready h =
      rw (qe, place_is, significand_is) (usable l.format refl, pattern_canonical w t n, omega (arith, finite_field w t n h, highest l))

  -- and it gives the number that is read
  pub steps_number : {x : Number} → x ≡ number q.format (sign_of w t n) (m * q.format.base ^ k) → x ≡ number_read w t n
  unfolding number_read
  steps_number e = e ∙ rw (qe, place_is, significand_is) (ap (number (format_of w t) (sign_of w t n)) (sym (magnitude_is w t n)))
