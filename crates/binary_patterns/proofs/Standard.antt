-- Reading is that of lib.Ieee, the kit's own account of IEEE 754, and so is writing: what a finite pattern stands for there and here is one
-- number, what is not finite by the one is not by the other, and a float has one pattern. An infinity there is refusal 5 here.
use Rattle.theory.proofs.Prelude.{ℕ, ◌<◌, ◌+◌, ◌^◌, ◌*◌, ◌-◌, suc, zero, ◌%◌, ◌/◌, true, false, Bool, cond, ◌∙◌, ap, ◌≡◌, sym, refl, ap₂, subst, mul-div_cancel, arith, eqb, leb, T, ne_eqb, eq-eqb}
use lib.Arith.{digits_div}
use lib.Ieee as ieee
use lib.Ieee.{Float, nan, inf, fin, up, down, odd, low, prec, hid, ones, top, fits, of_bits, of_fields, to_bits}
use lib.Ieee.Bits.{of_bits-to_bits, to_bits-lt}
use lib.Ieee.Exact.{HasValue, odd_sign}
use lib.Ieee.Fits.{down_pos}
use lib.Ieee.Scale as scale
use Rattle.format.specs.Given.{Given, gives, refused, ◌then◌}
use Rattle.number.specs.declared.Number.{Number}
use Rattle.number.specs.Numbers.{number}
use Rattle.binary_patterns.specs.Patterns.{format_of, sign_of, field_of, fraction_of, finite, magnitude_read, number_read, pattern_read, pattern_of}
use Rattle.binary_patterns.proofs.Fields.{Widths, digit_weight, significand_of, magnitude_is, fraction_less, unsigned_parts, finite_field, endless_field}
use Rattle.binary_patterns.proofs.RoundTrips.{read_made, pattern_back}

-- ---- floats of lib.Ieee in our terms; an infinity is a result too large
-- the number that a float stands for
module _ (g : ieee.Format) (w t : ℕ) where
  unfoldable pub answered : Float → Given Number
  answered nan = refused 9
  answered (inf s) = refused 5
  answered (fin s m e) = gives (number (format_of w t) s (m * up e * 2 ^ low g / down e))

  -- by the float's value
  pub answered_value : (x : Float) (s : Bool) (n : ℕ) → HasValue x s n (2 ^ low g) → answered x ≡ gives (number (format_of w t) s n)
  unfolding answered
  answered_value nan s n h = absurd h
  answered_value (inf r) s n h = absurd h
  answered_value (fin r m e) s n h = rw (h.0, h.1, mul-div_cancel n (down_pos e))

-- the pattern that lib.Ieee writes
unfoldable pub patterned : ieee.Format → Float → Given ℕ
patterned g nan = refused 9
patterned g (inf s) = refused 5
patterned g (fin s m e) = gives (to_bits g (fin s m e))

-- ---- lib.Ieee's format g has these widths: the unit, the weights of the leading digit and of the sign, the field that is all ones
pub record Standard (g : ieee.Format) (w t : ℕ) : Type 0 where
  pub unit : low g ≡ 2 ^ (w - 1) - 2 + t
  pub leading : hid g ≡ 2 ^ t
  pub sign : top g ≡ 2 ^ (w + t)
  pub endless : ones g ≡ 2 ^ w - 1

-- what `odd` makes is finite
odd_finite : (d : ℕ) (s : Bool) (q k l : ℕ) → scale.finite (odd d s q k l) ≡ true
unfolding odd
odd_finite d s zero k l = refl
odd_finite d s (suc q) k l = refl

module _ {g : ieee.Format} {w t : ℕ} (i : Standard g w t) where
  module _ (n : ℕ) where
    abbrev s : Bool
    s = sign_of w t n

    abbrev E : ℕ
    E = field_of w t n

    abbrev F : ℕ
    F = fraction_of w t n

    -- lib.Ieee takes a pattern apart as we do
    parts_standard : of_bits g n ≡ of_fields g s E F
    unfolding of_bits
    parts_standard =
        ap₂ (λ (a h : ℕ). of_fields g (leb a n) (n % a / h) (n % h)) i.sign i.leading
        ∙ ap (λ (e : ℕ). of_fields g s e F) (ap (λ (m : ℕ). m / 2 ^ t) (unsigned_parts w t n) ∙ digits_div E (fraction_less w t n))

    -- and makes a float of a field that is not all ones
    bits_standard : finite w t n ≡ true → of_bits g n ≡ odd (prec g) s (significand_of t E F) (E - 1) (low g)
    unfolding of_fields
    bits_standard h = parts_standard ∙ by E (finite_field w t n h)
      where
        by : (e : ℕ) → suc e < 2 ^ w → of_fields g s e F ≡ odd (prec g) s (significand_of t e F) (e - 1) (low g)
        by zero l = refl
        by (suc e) l =
            let place : suc e - 1 ≡ e = omega arith in
            rw (ne_eqb (suc e) (ones g) (λ z. omega (arith, i.endless)), ne_eqb (suc e) 0 (λ z. omega arith), place, i.leading)

    -- a finite pattern's float has the value that we read
    pub value_standard : finite w t n ≡ true → HasValue (of_bits g n) s (magnitude_read w t n) (2 ^ low g)
    value_standard h =
        subst (λ (x : Float). HasValue x s (magnitude_read w t n) (2 ^ low g)) (sym (bits_standard h))
        (subst (λ (v : ℕ). HasValue (odd (prec g) s (significand_of t E F) (E - 1) (low g)) s v (2 ^ low g)) (sym (magnitude_is w t n))
        (odd_sign (prec g) s (significand_of t E F) (E - 1) (low g)))

    -- every other pattern is an infinity or NaN there too
    pub finite_standard : scale.finite (of_bits g n) ≡ finite w t n
    unfolding of_fields
    finite_standard = by (finite w t n) refl
      where
        ends : (zero : Bool) → scale.finite (cond zero (inf s) nan) ≡ false
        ends true = refl
        ends false = refl

        last : (e : ℕ) → e ≡ ones g → scale.finite (of_fields g s e F) ≡ false
        last zero z = absurd (omega arith)
        last (suc e) z = rw (eq-eqb (suc e) (ones g) z) (ends (eqb F 0))

        by : (b : Bool) → finite w t n ≡ b → scale.finite (of_bits g n) ≡ b
        by true h = ap scale.finite (bits_standard h) ∙ odd_finite (prec g) s (significand_of t E F) (E - 1) (low g)
        by false h = ap scale.finite parts_standard ∙ last E (endless_field w t n h ∙ sym i.endless)

  -- ---- a finite pattern's float stands for what we read
  pub answered_read : (n : ℕ) → finite w t n ≡ true → answered g w t (of_bits g n) ≡ pattern_read w t n
  unfolding number_read
  answered_read n h = answered_value g w t (of_bits g n) (sign_of w t n) (magnitude_read w t n) (value_standard n h) ∙ sym (read_made w t n h)

  -- ---- a float that the format holds is written as the number that it stands for
  module _ (l : Widths w t) where
    abbrev written : Given Number → Given ℕ
    written r = r then λ x. gives (pattern_of w t x)

    finite_written : (x : Float) → T (fits g x) → scale.finite x ≡ true → gives (to_bits g x) ≡ written (answered g w t x)
    finite_written x h f =
        let n = to_bits g x in
        let back : of_bits g n ≡ x = of_bits-to_bits g x h in
        let ends : finite w t n ≡ true = sym (finite_standard n) ∙ ap scale.finite back ∙ f in
        let small : n < 2 ^ suc (w + t) = omega (arith, to_bits-lt g x h, i.sign, digit_weight (w + t)) in
        ap gives (sym (pattern_back l n small))
        ∙ ap written (sym (read_made w t n ends) ∙ sym (answered_read n ends) ∙ ap (answered g w t) back)

    pub patterned_written : (x : Float) → T (fits g x) → patterned g x ≡ written (answered g w t x)
    unfolding patterned answered
    patterned_written nan h = refl
    patterned_written (inf s) h = refl
    patterned_written (fin s m e) h = finite_written (fin s m e) h refl
