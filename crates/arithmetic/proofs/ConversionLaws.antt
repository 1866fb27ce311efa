-- Numbers of any form, taken into a format: 1 and 2 first, then the exact value, rounded once, with a mark that is true of it, or 5 where
-- that is too large. A number of the format comes out unchanged and exact, and a zero as the zero with its sign.
use Rattle.theory.proofs.Prelude.{ℕ, ◌≤◌, ◌+◌, ◌^◌, ◌*◌, false, true, Bool, [], ◌∷◌, ◌∙◌, ap, ◌≡◌, sym, refl, ap₂, zero-mul, pow-zero, mul-one, arith, ℤ, nat_abs, ◌-ℤ◌}
use Rattle.theory.proofs.Wide.{wide_zero}
use Rattle.number.specs.Checks as checks
use Rattle.number.proofs.Values.{number_magnitude}
use Rattle.arithmetic.specs.Operations.{rounded_record}
use Rattle.arithmetic.specs.Marked.{marked_record, conversion_answer}
use Rattle.arithmetic.specs.Outcomes.{MarkedOutcome}
use Rattle.arithmetic.proofs.Prelude.{all, signed, pow-add, pow_pos, Format, admitted, Given, gives, refused, is_direction, direction, apart, Admitted, admits, admitted_made, positional, Number, above_zero, below_zero, magnitude, value, number, Checks, checked_passed, checks_end, Member, Rounded, never, and_left, and_made, diff_parts, size_parts, scale_signed, number_member}
use Rattle.arithmetic.proofs.Prepared.{parts_above, parts_below}
use Rattle.arithmetic.proofs.Outcome.{marked_outcome, rounded_outcome, rounded_exact}
use Rattle.arithmetic.proofs.Algebra.{exactly, exactly_marked}
use Rattle.arithmetic.proofs.FractionLaws.{only, marked_same, checked_same}

-- ---- N and D
abbrev pub over : Format → Number → ℕ
over f x = x.significand * f.base ^ above_zero (x.exponent -ℤ f.emin)

abbrev pub under : Format → Number → ℕ
under f x = f.base ^ below_zero (x.exponent -ℤ f.emin)

-- N / D units make m × β ^ e: N × β ^ Emin = m × β ^ e × D, with each power on the side where its exponent is not negative
pub record_value : (f : Format) (x : Number)
    → over f x * (f.base ^ above_zero f.emin * f.base ^ below_zero x.exponent) ≡ x.significand * f.base ^ above_zero x.exponent * (f.base ^ below_zero f.emin * under f x)
record_value f x =
    let β : ℕ = f.base in
    let e : ℤ = x.exponent in
    let z : ℤ = e -ℤ f.emin in
    let exponents : above_zero z + (above_zero f.emin + below_zero e) ≡ above_zero e + (below_zero f.emin + below_zero z) =
    omega (arith, diff_parts e f.emin, parts_above z, parts_below z, parts_above e, parts_below e, parts_above f.emin, parts_below f.emin) in
    let powers : β ^ above_zero z * (β ^ above_zero f.emin * β ^ below_zero e) ≡ β ^ above_zero e * (β ^ below_zero f.emin * β ^ below_zero z) =
    ap (λ (v : ℕ). β ^ above_zero z * v) (sym (pow-add β (above_zero f.emin) (below_zero e))) ∙ sym (pow-add β (above_zero z) (above_zero f.emin + below_zero e))
    ∙ ap (λ (i : ℕ). β ^ i) exponents ∙ pow-add β (above_zero e) (below_zero f.emin + below_zero z) ∙ ap (λ (v : ℕ). β ^ above_zero e * v) (pow-add β (below_zero f.emin) (below_zero z)) in
    omega (arith, ap (λ (v : ℕ). x.significand * v) powers)

-- ---- which answer comes where
pub data ConversionEnds (f : Format) (d : ℕ) (x : Number) : Given Rounded → Type 0 where
  not_admitted : admitted f ≡ false → ConversionEnds f d x (refused 1)
  no_direction : Admitted f → is_direction d ≡ false → ConversionEnds f d x (refused 2)
  rounds : {r : Given Rounded} → Admitted f → is_direction d ≡ true → MarkedOutcome f (direction d) (signed x.negative (over f x)) (under f x) r → ConversionEnds f d x r

module _ (f : Format) (d : ℕ) (x : Number) where
  pub conversion_ends : ConversionEnds f d x (conversion_answer f d x)
  unfolding conversion_answer rounded_record all
  conversion_ends = by (checks_end f (d ∷ []) [] (marked_record f (direction d) x))
    where
      by : {g : Given Rounded} → Checks f (d ∷ []) [] (marked_record f (direction d) x) g → ConversionEnds f d x g
      by (checks.not_admitted h) = not_admitted h
      by (checks.no_direction h k) = no_direction (admits f h) (only _ k)
      by (checks.not_member h k l) = absurd (never l)
      by (checks.all_passed h k l) =
          let ok = admits f h in
          rounds ok (and_left _ _ k)
          (marked_outcome (rounded_outcome ok (direction d) x.negative (over f x) (pow_pos ok.base_low (below_zero (x.exponent -ℤ f.emin)))))

  -- ---- one value in two forms gives one number, as a number of another format to the same base or with zeros at its end
  pub one_value_one_number : (y : Number) → x.negative ≡ y.negative → over f x * under f y ≡ over f y * under f x → conversion_answer f d x ≡ conversion_answer f d y
  unfolding conversion_answer rounded_record
  one_value_one_number y s e =
      checked_same f d
      (λ ok. marked_same ok (direction d) s (record { divisor = some ok x; divisor' = some ok y; cross = e }))
    where
      some : Admitted f → (x : Number) → 1 ≤ under f x
      some ok x = pow_pos ok.base_low (below_zero (x.exponent -ℤ f.emin))

  -- ---- an exact value that is that of a number y of the format, with the sign of x
  module _ (ok : Admitted f) (k : is_direction d ≡ true) where
    comes_out : {y : Number} → Member f y → over f x ≡ magnitude f y * under f x → x.negative ≡ y.negative → conversion_answer f d x ≡ gives (exactly y)
    unfolding conversion_answer rounded_record all value
    comes_out {y} i e s =
        checked_passed f (d ∷ []) [] _ (admitted_made ok) (and_made k refl) refl
        ∙ exactly_marked f y _ (under f x) (scale_signed y.negative (magnitude f y) (under f x) ∙ ap₂ signed (sym s) (sym e))
        (rounded_exact ok (direction d) i x.negative (over f x) (pow_pos ok.base_low (below_zero (x.exponent -ℤ f.emin))) e (ap (λ (t : Bool). signed t (magnitude f y)) s) (λ z. s))

    -- a number of the format
    pub member_unchanged : Member f x → conversion_answer f d x ≡ gives (exactly x)
    unfolding magnitude
    member_unchanged i =
        let z : ℤ = x.exponent -ℤ f.emin in
        let parts = diff_parts x.exponent f.emin in
        let up : above_zero z ≡ nat_abs z = omega (arith, parts, i.exponent_low, parts_above z, size_parts z, apart z) in
        let down : below_zero z ≡ 0 = omega (arith, parts, i.exponent_low, parts_below z, apart z) in
        comes_out i
        (ap (λ (j : ℕ). x.significand * f.base ^ j) up
        ∙ sym (ap (λ (v : ℕ). x.significand * f.base ^ nat_abs z * v) (ap (λ (j : ℕ). f.base ^ j) down ∙ pow-zero f.base) ∙ mul-one (x.significand * f.base ^ nat_abs z)))
        refl

    -- a zero
    pub zero_unchanged : x.significand ≡ 0 → conversion_answer f d x ≡ gives (exactly (number f x.negative 0))
    unfolding number
    zero_unchanged e =
        let none = wide_zero (positional ok) in
        comes_out (number_member ok none x.negative (omega arith))
        (ap (λ (v : ℕ). v * f.base ^ above_zero (x.exponent -ℤ f.emin)) e ∙ zero-mul _ ∙ sym (ap (λ (v : ℕ). v * under f x) (number_magnitude ok none x.negative) ∙ zero-mul (under f x))) refl
