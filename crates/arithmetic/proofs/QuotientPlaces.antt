-- The place of a quotient's first digit, from exponents to the places of the wide format, and the digits counted from there.
use Rattle.theory.proofs.Prelude.{ℕ, ◌+◌, ◌-◌, true, false, Bool, cond, ◌∙◌, ap, ◌≡◌, refl, lt-ltb, le-ltb, eqb, ltb, lt_z, pos, nat_abs, ◌-ℤ◌, arith}
use Rattle.theory.specs.QuotientDigits.{digits_taken, lacking}
use Rattle.theory.proofs.Words.{◌or◌}
use Rattle.format.proofs.Signed.{Upto, apart, lt_true, lt_false}
use Rattle.wide.specs.Quotient.{digits_of}
use Rattle.arithmetic.specs.declared.operands.Powers.{Powers}
use Rattle.arithmetic.specs.Operands.{quotient_powers}
use Rattle.arithmetic.specs.Quotients.{full_significand, full_exponent, first_digit_place, quotient_digits}
use Rattle.arithmetic.proofs.Prelude.{Format, Prepared, Number, Operands, known, members, above_zero, below_zero, place_of, Member, above, below, size_parts, diff_parts}
use Rattle.arithmetic.proofs.Prepared.{parts_above, parts_below, scale_is}

-- the places above Emin of both sides: the first digit stands as many places above Emin as the first has more than the second
abbrev pub high_place : Format → (a b : Number) → ℕ
high_place f a b = place_of f a + below_zero f.emin + lacking f.base f.digits b.significand

abbrev pub low_place : Format → (a b : Number) → ℕ
low_place f a b = place_of f b + above_zero f.emin + lacking f.base f.digits a.significand

place_parts : {f : Format} (x : Number) → Member f x → place_of f x + (below x.exponent + above f.emin) ≡ above x.exponent + below f.emin
place_parts {f} x m =
    omega (arith, size_parts (x.exponent -ℤ f.emin), diff_parts x.exponent f.emin, apart (x.exponent -ℤ f.emin), m.exponent_low)

module _ {f : Format} {a b : Number} (i : Member f a) (j : Member f b) where
  first_parts : above (first_digit_place f a b) + below f.emin + low_place f a b ≡ below (first_digit_place f a b) + above f.emin + high_place f a b
  first_parts =
      omega (
        arith,
        diff_parts (full_exponent f a) (full_exponent f b),
        diff_parts a.exponent (pos (lacking f.base f.digits a.significand)),
        diff_parts b.exponent (pos (lacking f.base f.digits b.significand)),
        place_parts a i,
        place_parts b j,
        parts_above f.emin,
        parts_below f.emin,
      )

  pub places_apart : Upto f.emin (first_digit_place f a b) → low_place f a b + nat_abs (first_digit_place f a b -ℤ f.emin) ≡ high_place f a b
  places_apart l =
      omega (
        arith,
        first_parts,
        size_parts (first_digit_place f a b -ℤ f.emin),
        diff_parts (first_digit_place f a b) f.emin,
        apart (first_digit_place f a b -ℤ f.emin),
      )

  pub digits_places : digits_of f.base f.digits a.significand b.significand (place_of f a + below_zero f.emin) (place_of f b + above_zero f.emin) ≡ quotient_digits f a b
  unfolding quotient_digits ◌or◌
  digits_places = by (eqb a.significand 0) (lt_z (first_digit_place f a b) f.emin) refl
    where
      taken : ℕ → ℕ
      taken = digits_taken f.base f.digits (full_significand f b) (full_significand f a) 0

      by : (s t : Bool) → lt_z (first_digit_place f a b) f.emin ≡ t
          → cond s 0 (cond (ltb (high_place f a b) (low_place f a b)) 0 (taken (high_place f a b - low_place f a b)))
          ≡ cond (s or t) 0 (taken (nat_abs (first_digit_place f a b -ℤ f.emin)))
      by true t h = refl
      by false true h = rw (lt-ltb (high_place f a b) (low_place f a b) (omega (arith, first_parts, lt_true (first_digit_place f a b) f.emin h)))
      by false false h =
          let e = places_apart (lt_false (first_digit_place f a b) f.emin h) in
          rw (le-ltb (high_place f a b) (low_place f a b) (omega arith)) (ap taken (omega arith))

-- as the code has them: from the powers beside the quotient
pub counted_digits : {q : Prepared} {a b : Number} → Operands q a b → {w : Powers} {n : ℕ} → w ≡ quotient_powers q.format a b
    → n ≡ digits_of q.scale.base q.scale.digits a.significand b.significand w.up w.down → n ≡ quotient_digits q.format a b
counted_digits {q} {a} {b} o e h =
    let ok = (known o.usable).admits in
    (rw (e, scale_is o.usable) at h) ∙ digits_places (members a ok o.first) (members b ok o.second)
