-- What is read is in format 3 and has the pattern's sign and value; every number of format 3 comes back when it is written and read; and a
-- finite pattern, read and written, keeps its sign and its value.
use Rattle.theory.proofs.Prelude.{ℕ, ◌≤◌, ◌<◌, ◌+◌, ◌^◌, ◌*◌, ◌-◌, ◌/◌, ◌%◌, true, false, Bool, cond, [], ◌∷◌, ◌∙◌, ap, ◌≡◌, sym, refl, ap₂, mul-le-mul, arith, ltb, le-leb, lt-leb, lt-ltb, ltb-true, ltb-false}
use Rattle.theory.specs.Lists.{all}
use Rattle.theory.specs.Tests.{◌and◌, unless}
use Rattle.theory.specs.Wide.{Wide}
use Rattle.theory.specs.Signed.{signed}
use Rattle.theory.proofs.Tests.{and_made, unless_passed, unless_failed}
use Rattle.theory.proofs.Powers.{pow_mono}
use Rattle.format.specs.Given.{gives, refused}
use Rattle.format.specs.Published.{decimal32}
use Rattle.format.proofs.GivenLaws.{unless_gives}
use Rattle.number.specs.declared.Number.{Number}
use Rattle.number.specs.Numbers.{member, magnitude, value, number, greatest}
use Rattle.number.specs.Checks.{checked}
use Rattle.number.proofs.Membership.{members, member_made}
use Rattle.number.proofs.Values.{member_highest, number_of, number_magnitude, number_value, number_member}
use Rattle.number.proofs.CheckLaws.{checked_passed}
use Rattle.number.proofs.PatternLaws.{sign_most}
use Rattle.decimal32.specs.Declets.{declet_for}
use Rattle.decimal32.specs.Patterns.{sign_of, sign_weight, five_of, six_of, first_declet, second_declet, leading_digit, high_bits, finite, biased_of, coefficient_of, magnitude_read, number_read, decimal32_read, five_for, pattern_at, pattern_of, decimal32_written}
use Rattle.decimal32.proofs.DecletLaws.{declet_fits, declet_back}
use Rattle.decimal32.proofs.Fields.{decimal32_admitted, decimal32_limits, five_fits, biased_most, coefficient_small}

-- ---- what is read
-- the pattern n is finite, and x is its number
pub record Reads (n : ℕ) (x : Number) : Type 0 where
  pub finite : finite n ≡ true
  pub is : x ≡ number_read n

pub reads : (n : ℕ) {x : Number} → decimal32_read n ≡ gives x → Reads n x
unfolding decimal32_read
reads n h = let g = unless_gives (finite n) 9 h in record { finite = g.0; is = g.1 }

pub read_made : (n : ℕ) → finite n ≡ true → decimal32_read n ≡ gives (number_read n)
unfolding decimal32_read
read_made n h = unless_passed _ _ h

-- an infinity or NaN is refused by 9, and nothing else is refused
pub read_refused : (n : ℕ) → finite n ≡ false → decimal32_read n ≡ refused 9
unfolding decimal32_read
read_refused n h = unless_failed _ _ h

-- the magnitude is one of the wide format, and that of a finite pattern is at most the greatest
read_wide : (n : ℕ) → Wide 10 7 (magnitude_read n)
unfolding magnitude_read
read_wide n = record { significand = coefficient_of n; exponent = biased_of n; small = coefficient_small n; is = refl }

read_within : (n : ℕ) → finite n ≡ true → magnitude_read n ≤ greatest decimal32
unfolding magnitude_read greatest
read_within n h =
    let low : coefficient_of n ≤ 10 ^ 7 - 1 = omega (arith, coefficient_small n) in
    mul-le-mul low (pow_mono decimal32_limits.base_low (biased_most n h))

-- what is read is in format 3
pub read_member : (n : ℕ) {x : Number} → decimal32_read n ≡ gives x → member decimal32 x ≡ true
unfolding number_read
read_member n {x} h =
    let r = reads n h in
    member_made x decimal32_limits (rw r.is (number_member decimal32_limits (read_wide n) (sign_of n) (read_within n r.finite)))

-- and has the value that its parts say
pub read_value : (n : ℕ) {x : Number} → decimal32_read n ≡ gives x → value decimal32 x ≡ signed (sign_of n) (magnitude_read n)
unfolding number_read
read_value n h = ap (value decimal32) (reads n h).is ∙ number_value decimal32_limits (read_wide n) (sign_of n)

pub read_magnitude : (n : ℕ) {x : Number} → decimal32_read n ≡ gives x → magnitude decimal32 x ≡ magnitude_read n
unfolding number_read
read_magnitude n h = ap (magnitude decimal32) (reads n h).is ∙ number_magnitude decimal32_limits (read_wide n) (sign_of n)

pub read_sign : (n : ℕ) {x : Number} → decimal32_read n ≡ gives x → x.negative ≡ sign_of n
unfolding number_read number
read_sign n h = ap (λ (y : Number). y.negative) (reads n h).is

-- two finite patterns with one sign and one magnitude are read as one number
pub same_read : (m n : ℕ) → finite m ≡ true → finite n ≡ true → sign_of m ≡ sign_of n → magnitude_read m ≡ magnitude_read n → decimal32_read m ≡ decimal32_read n
unfolding number_read
same_read m n h k s e = read_made m h ∙ ap gives (ap₂ (number decimal32) s e) ∙ sym (read_made n k)

-- ---- what is written
pub written_made : (x : Number) → member decimal32 x ≡ true → decimal32_written x ≡ gives (pattern_of x)
unfolding decimal32_written all
written_made x h = checked_passed decimal32 [] (x ∷ []) _ decimal32_admitted refl (and_made h refl)

-- a number that is not in format 3 is refused by 3
pub written_refused : (x : Number) → member decimal32 x ≡ false → decimal32_written x ≡ refused 3
unfolding decimal32_written checked all unless ◌and◌
written_refused x h = rw (decimal32_admitted, h, ◌and◌)

-- ---- written and read
-- the parts of a pattern that is put together
pub record Parts (s : Bool) (f e a b n : ℕ) : Type 0 where
  pub sign : sign_of n ≡ s
  pub five : five_of n ≡ f
  pub six : six_of n ≡ e
  pub first : first_declet n ≡ a
  pub second : second_declet n ≡ b

parts : (s : Bool) {f e a b : ℕ} → f < 30 → e < 2 ^ 6 → a < 2 ^ 10 → b < 2 ^ 10
    → Parts s f e a b (sign_weight s + f * 2 ^ 26 + e * 2 ^ 20 + a * 2 ^ 10 + b)
parts true {f} {e} {a} {b} hf he ha hb =
    record {
      sign = le-leb (2 ^ 31) (2 ^ 31 + f * 2 ^ 26 + e * 2 ^ 20 + a * 2 ^ 10 + b) (omega arith);
      five = omega arith;
      six = omega arith;
      first = omega arith;
      second = omega arith;
    }
parts false {f} {e} {a} {b} hf he ha hb =
    record {
      sign = lt-leb (2 ^ 31) (0 + f * 2 ^ 26 + e * 2 ^ 20 + a * 2 ^ 10 + b) (omega arith);
      five = omega arith;
      six = omega arith;
      first = omega arith;
      second = omega arith;
    }

-- the five bits say their digit and their two bits
module _ {high digit : ℕ} (h : high < 3) (k : digit < 10) where
  pub digit_back : leading_digit (five_for high digit) ≡ digit
  digit_back = by (ltb digit 8) refl
    where
      by : (t : Bool) → ltb digit 8 ≡ t → leading_digit (cond t (high * 8 + digit) (24 + high * 2 + (digit - 8))) ≡ digit
      by true e = rw (lt-leb 24 (high * 8 + digit) (omega (arith, ltb-true digit 8 e))) (omega (arith, ltb-true digit 8 e))
      by false e = rw (le-leb 24 (24 + high * 2 + (digit - 8)) (omega arith)) (omega (arith, ltb-false digit 8 e))

  pub high_back : high_bits (five_for high digit) ≡ high
  high_back = by (ltb digit 8) refl
    where
      by : (t : Bool) → ltb digit 8 ≡ t → high_bits (cond t (high * 8 + digit) (24 + high * 2 + (digit - 8))) ≡ high
      by true e = rw (lt-leb 24 (high * 8 + digit) (omega (arith, ltb-true digit 8 e))) (omega (arith, ltb-true digit 8 e))
      by false e = rw (le-leb 24 (24 + high * 2 + (digit - 8)) (omega arith)) (omega (arith, ltb-false digit 8 e))

-- a coefficient and a biased exponent come back
module _ (s : Bool) {m k : ℕ} (hm : m < 10 ^ 7) (hk : k ≤ 191) where
  abbrev pub made : ℕ
  made = pattern_at s m k

  pub made_parts : Parts s (five_for (k / 2 ^ 6) (m / 10 ^ 6)) (k % 2 ^ 6) (declet_for (m / 10 ^ 3 % 10 ^ 3)) (declet_for (m % 10 ^ 3)) made
  made_parts =
      parts s (five_fits {high = k / 2 ^ 6} {digit = m / 10 ^ 6} (omega arith) (omega arith)) (omega arith) (declet_fits {n = m / 10 ^ 3 % 10 ^ 3} (omega arith))
      (declet_fits {n = m % 10 ^ 3} (omega arith))

  pub made_finite : finite made ≡ true
  unfolding finite
  made_finite =
      rw made_parts.five
      (lt-ltb (five_for (k / 2 ^ 6) (m / 10 ^ 6)) 30 (five_fits {high = k / 2 ^ 6} {digit = m / 10 ^ 6} (omega arith) (omega arith)))

  pub made_biased : biased_of made ≡ k
  unfolding biased_of
  made_biased =
      rw (made_parts.five, made_parts.six, high_back {high = k / 2 ^ 6} {digit = m / 10 ^ 6} (omega arith) (omega arith)) (omega arith)

  pub made_coefficient : coefficient_of made ≡ m
  unfolding coefficient_of
  made_coefficient =
      rw (
        made_parts.five,
        made_parts.first,
        made_parts.second,
        digit_back {high = k / 2 ^ 6} {digit = m / 10 ^ 6} (omega arith) (omega arith),
        declet_back {n = m / 10 ^ 3 % 10 ^ 3} (omega arith),
        declet_back {n = m % 10 ^ 3} (omega arith),
      )
      (omega arith)

  pub made_read : decimal32_read made ≡ gives (number decimal32 s (m * 10 ^ k))
  unfolding number_read magnitude_read
  made_read = read_made made made_finite ∙ ap gives (ap₂ (number decimal32) made_parts.sign (ap₂ (λ (c e : ℕ). c * 10 ^ e) made_coefficient made_biased))

  -- of 32 bits
  made_fits : made < 2 ^ 32
  made_fits =
      omega (
        arith,
        sign_most 31 s,
        five_fits {high = k / 2 ^ 6} {digit = m / 10 ^ 6} (omega arith) (omega arith),
        declet_fits {n = m / 10 ^ 3 % 10 ^ 3} (omega arith),
        declet_fits {n = m % 10 ^ 3} (omega arith),
      )

-- every number of format 3 comes back
pub written_read : (x : Number) → member decimal32 x ≡ true → decimal32_read (pattern_of x) ≡ gives x
unfolding pattern_of magnitude
written_read x h =
    let i = members x decimal32_limits h in
    made_read x.negative i.significand_high (member_highest decimal32_limits i)
    ∙ ap gives (number_of decimal32_limits i x.negative)

-- so that reading is onto: every number of format 3 is read from a pattern of 32 bits
pub record ReadFrom (x : Number) : Type 0 where
  pub pattern : ℕ
  pub fits : pattern < 2 ^ 32
  pub read : decimal32_read pattern ≡ gives x

pub read_onto : (x : Number) → member decimal32 x ≡ true → ReadFrom x
unfolding pattern_of
read_onto x h =
    let i = members x decimal32_limits h in
    record { pattern = pattern_of x; fits = made_fits x.negative i.significand_high (member_highest decimal32_limits i); read = written_read x h }

-- ---- read and written: a pattern with the same sign and the same value, perhaps another one
pub record Kept (n : ℕ) (x : Number) : Type 0 where
  pub written : decimal32_written x ≡ gives (pattern_of x)
  pub read : decimal32_read (pattern_of x) ≡ gives x
  pub sign : sign_of (pattern_of x) ≡ sign_of n
  pub magnitude : magnitude_read (pattern_of x) ≡ magnitude_read n

pub read_written : (n : ℕ) {x : Number} → decimal32_read n ≡ gives x → Kept n x
read_written n {x} r =
    let h = read_member n r in
    let back = written_read x h in
    record {
      written = written_made x h;
      read = back;
      sign = sym (read_sign (pattern_of x) back) ∙ read_sign n r;
      magnitude = sym (read_magnitude (pattern_of x) back) ∙ read_magnitude n r;
    }
