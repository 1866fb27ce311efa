-- What an admitted format has, as facts on natural numbers that `omega` reads, and how it is made.
use Rattle.theory.proofs.Prelude.{◌≤◌, ◌+◌, ◌^◌, ◌*◌, ◌-◌, true, ◌∙◌, ◌≡◌, refl, mul_comm, arith, ℤ, pos, ◌-ℤ◌, negsuc, le_z, le-leb, leb-true}
use Rattle.theory.proofs.Words.{◌and◌, Positional}
use Rattle.theory.proofs.Tests.{and_left, and_right, and_made}
use Rattle.theory.proofs.Integers.{above, below, diff_parts}
use Rattle.theory.proofs.Powers.{pow_mono, pow_pred}
use Rattle.format.specs.declared.Format.{Format}
use Rattle.format.specs.Formats.{greatest_power, exponents_admitted, admitted, scale_of, Scaled}
use Rattle.format.proofs.Signed.{Upto, apart, le_true, make_le}

-- -1200 ≤ emin ≤ emax ≤ 1200
pub record Exponents (emin emax : ℤ) : Type 0 where
  pub emin_low : below emin ≤ above emin + 1200
  pub emin_emax : Upto emin emax
  pub emax_high : above emax ≤ 1200 + below emax

pub exponents : (emin emax : ℤ) → exponents_admitted emin emax ≡ true → Exponents emin emax
unfolding exponents_admitted
exponents emin emax h =
    let rest : le_z emin emax and le_z emax (pos 1200) ≡ true = and_right _ _ h in
    record {
      emin_low = omega (arith, le_true (negsuc 1199) emin (and_left _ _ h));
      emin_emax = le_true emin emax (and_left _ _ rest);
      emax_high = omega (arith, le_true emax (pos 1200) (and_right _ _ rest));
    }

pub exponents_made : {emin emax : ℤ} → Exponents emin emax → exponents_admitted emin emax ≡ true
unfolding exponents_admitted
exponents_made {emin} {emax} e =
    and_made (make_le (negsuc 1199) emin (omega arith)) (and_made (make_le emin emax e.emin_emax) (make_le emax (pos 1200) (omega arith)))

pub record Admitted (f : Format) : Type 0 where
  pub base_low : 2 ≤ f.base
  pub base_high : f.base ≤ 256
  pub digits_low : 1 ≤ f.digits
  pub digits_high : f.digits ≤ 63
  pub power_high : f.base ^ f.digits ≤ greatest_power
  pub range : Exponents f.emin f.emax

pub admits : (f : Format) → admitted f ≡ true → Admitted f
unfolding admitted
admits f h₁ =
    let h₂ = and_right _ _ h₁ in
    let h₃ = and_right _ _ h₂ in
    let h₄ = and_right _ _ h₃ in
    let h₅ = and_right _ _ h₄ in
    record {
      base_low = leb-true _ _ (and_left _ _ h₁);
      base_high = leb-true _ _ (and_left _ _ h₂);
      digits_low = leb-true _ _ (and_left _ _ h₃);
      digits_high = leb-true _ _ (and_left _ _ h₄);
      power_high = leb-true _ _ (and_left _ _ h₅);
      range = exponents _ _ (and_right _ _ h₅);
    }

pub admitted_made : {f : Format} → Admitted f → admitted f ≡ true
unfolding admitted
admitted_made a =
    and_made (le-leb _ _ a.base_low)
    (and_made (le-leb _ _ a.base_high)
    (and_made (le-leb _ _ a.digits_low)
    (and_made (le-leb _ _ a.digits_high)
    (and_made (le-leb _ _ a.power_high) (exponents_made a.range)))))

module _ {f : Format} (a : Admitted f) where
  -- what the theory asks of a format
  pub positional : Positional f.base f.digits
  positional = record { base = a.base_low; digits = a.digits_low }

  -- one power by the other
  pub bound_least : f.base ^ f.digits ≡ f.base ^ (f.digits - 1) * f.base
  bound_least = pow_pred f.base a.digits_low ∙ mul_comm f.base (f.base ^ (f.digits - 1))

  pub least_bound : f.base ^ (f.digits - 1) ≤ f.base ^ f.digits
  least_bound = pow_mono a.base_low (omega arith)

  pub scaled : Scaled (scale_of f)
  scaled =
      record {
        base_least = a.base_low;
        base_most = a.base_high;
        digits_least = a.digits_low;
        least_power = refl;
        bound_power = refl;
        bound_most = a.power_high;
      }

-- the difference of two exponents in their order is from 0 to 2400
pub record Distance (emin emax : ℤ) : Type 0 where
  pub forward : below (emax -ℤ emin) ≡ 0
  pub is : above (emax -ℤ emin) + (below emax + above emin) ≡ above emax + below emin
  pub most : above (emax -ℤ emin) ≤ 2400

pub distances : {emin emax : ℤ} → Exponents emin emax → Distance emin emax
distances {emin} {emax} e =
    let parts = diff_parts emax emin in
    let one = apart (emax -ℤ emin) in
    record { forward = omega arith; is = omega arith; most = omega arith }
