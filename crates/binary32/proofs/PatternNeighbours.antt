-- The neighbours of the number that a finite pattern stands for, as patterns: values are in the order of keys, so that a key that is one
-- more is the successor's.
use Rattle.theory.proofs.Prelude.{ℕ, ◌≤◌, ◌<◌, ◌+◌, ◌^◌, ◌-◌, ◌%◌, true, false, Bool, cond, ⊎_elim, ◌≢◌, ◌∙◌, ap, ◌≡◌, sym, refl, ap₂, ℕ_discrete, dec_le, arith, ltb, lt_z, ◌<ℤ◌, ◌≤ℤ◌, ne_eqb, le-leb, lt-leb, le-ltb, lt-ltb, ltb-true}
use native.Mathlib.Numerals.{lt_of_le_of_ne}
use Rattle.theory.proofs.Integers.{lt_parts, parts_lt, parts_le}
use Rattle.format.specs.Published.{binary32}
use Rattle.format.specs.Given.{Given, gives, refused}
use Rattle.format.proofs.Signed.{lt_true, lt_false, make_lt}
use Rattle.number.specs.declared.Number.{Number}
use Rattle.number.specs.Numbers.{member, magnitude, value}
use Rattle.number.proofs.Membership.{Member}
use Rattle.units.specs.Neighbours.{predecessor_of, successor_of}
use Rattle.units.proofs.NeighbourLaws.{predecessor_cases, successor_cases, predecessor_is, successor_is}
use Rattle.binary32.specs.Patterns.{sign_of, field_of, finite, magnitude_read, pattern_value, number_read, pattern_read, pattern_of, answer_written, key_of, pattern_of_key}
use Rattle.binary32.proofs.Fields.{binary32_limits, finite_field}
use Rattle.binary32.proofs.RoundTrips.{reads, read_made, read_inside, read_member, read_value, read_sign, read_magnitude, written_read, pattern_back}
use Rattle.binary32.proofs.PatternOrder.{magnitude_less}
use Rattle.binary32.proofs.PatternValues.{key_order}

-- ---- keys
-- those of finite patterns
pub key_bounds : (n : ℕ) → finite n ≡ true → (8388609 ≤ key_of n) × (key_of n ≤ 4286578687)
key_bounds n h = by (sign_of n)
  where
    by : (s : Bool) → let k = cond s (2 ^ 31 - n % 2 ^ 31) (2 ^ 31 + n % 2 ^ 31) in (8388609 ≤ k) × (k ≤ 4286578687)
    by false = omega (arith, finite_field n h)
    by true = omega (arith, finite_field n h)

-- the sign by the key, and the key of a zero
low_key : (n : ℕ) → key_of n < 2 ^ 31 → sign_of n ≡ true
low_key n = by (sign_of n)
  where
    by : (s : Bool) → cond s (2 ^ 31 - n % 2 ^ 31) (2 ^ 31 + n % 2 ^ 31) < 2 ^ 31 → s ≡ true
    by true l = refl
    by false l = absurd (omega arith)

high_key : (n : ℕ) → 2 ^ 31 < key_of n → sign_of n ≡ false
high_key n = by (sign_of n)
  where
    by : (s : Bool) → 2 ^ 31 < cond s (2 ^ 31 - n % 2 ^ 31) (2 ^ 31 + n % 2 ^ 31) → s ≡ false
    by true l = absurd (omega arith)
    by false l = refl

zero_key : (n : ℕ) → magnitude_read n ≡ 0 → key_of n ≡ 2 ^ 31
zero_key n z = by (sign_of n) (ℕ_discrete (n % 2 ^ 31) 0)
  where
    by : (s : Bool) → Dec (n % 2 ^ 31 ≡ 0) → cond s (2 ^ 31 - n % 2 ^ 31) (2 ^ 31 + n % 2 ^ 31) ≡ 2 ^ 31
    by true (yes e) = omega arith
    by false (yes e) = omega arith
    by s (no e) = absurd (omega (arith, z, magnitude_less 0 n (omega arith)))

-- n is a finite pattern with the key k
abbrev Keyed : (k n : ℕ) → Type 0
Keyed k n = (key_of n ≡ k) × (finite n ≡ true) × (n < 2 ^ 32)

keyed : (k : ℕ) → 8388609 ≤ k → k ≤ 4286578687 → Keyed k (pattern_of_key k)
unfolding finite
keyed k low high = by (dec_le (2 ^ 31) k)
  where
    by : Dec (2 ^ 31 ≤ k) → Keyed k (pattern_of_key k)
    by (yes h) =
        let n : ℕ = k - 2 ^ 31 in
        rw (le-leb (2 ^ 31) k h) (rw (lt-leb (2 ^ 31) n (omega arith)) (omega arith), rw (ne_eqb (field_of n) 255 (λ e. omega arith)), omega arith)
    by (no h) =
        let n : ℕ = 2 ^ 32 - k in
        rw (lt-leb (2 ^ 31) k (omega arith)) (rw (le-leb (2 ^ 31) n (omega arith)) (omega arith), rw (ne_eqb (field_of n) 255 (λ e. omega arith)), omega arith)

-- ---- values
module _ (n k : ℕ) {x y : Number} (r : pattern_read n ≡ gives x) (q : pattern_read k ≡ gives y) where
  order : lt_z (value binary32 x) (value binary32 y) ≡ ltb (key_of n) (key_of k)
  unfolding pattern_value magnitude_read
  order = ap₂ lt_z (read_value n r) (read_value k q) ∙ sym (key_order n k refl refl)

  under : value binary32 x <ℤ value binary32 y → key_of n < key_of k
  under h = ltb-true (key_of n) (key_of k) (sym order ∙ make_lt (value binary32 x) (value binary32 y) (lt_parts h))

  under_made : key_of n < key_of k → value binary32 x <ℤ value binary32 y
  under_made h = parts_lt _ _ (lt_true (value binary32 x) (value binary32 y) (order ∙ lt-ltb (key_of n) (key_of k) h))

  upto_made : key_of k ≤ key_of n → value binary32 y ≤ℤ value binary32 x
  upto_made h = parts_le _ _ (lt_false (value binary32 x) (value binary32 y) (order ∙ le-ltb (key_of n) (key_of k) h))

-- the pattern of a number of the format reads as it
own : (z : Number) → member binary32 z ≡ true → pattern_read (pattern_of z) ≡ gives z
own z j = written_read z j

finite_own : (z : Number) → member binary32 z ≡ true → finite (pattern_of z) ≡ true
finite_own z j = (reads (pattern_of z) (own z j)).finite

module _ (n : ℕ) (h : finite n ≡ true) where
  r : pattern_read n ≡ gives (number_read n)
  r = read_made n h

  i : Member binary32 (number_read n)
  i = read_inside (reads n r)

  -- ---- a key that is one more or one less
  module _ (m k : ℕ) (there : Keyed k m) (zero : magnitude_read m ≡ 0 → sign_of m ≡ sign_of n) where
    q : pattern_read m ≡ gives (number_read m)
    q = read_made m there.1

    signs : magnitude binary32 (number_read m) ≡ 0 → (number_read m).negative ≡ (number_read n).negative
    signs z = read_sign m q ∙ zero (sym (read_magnitude m q) ∙ z) ∙ sym (read_sign n r)

    written : {answer : Given Number} → answer ≡ gives (number_read m) → gives m ≡ answer_written answer
    written e = sym (ap answer_written e ∙ ap gives (pattern_back m there.2))

    next_successor : k ≡ key_of n + 1 → gives m ≡ answer_written (successor_of binary32 (number_read n))
    next_successor e =
        written
        (successor_is binary32_limits i
        (record {
          number = read_member m q;
          above = under_made n m r q (omega (arith, there.0));
          least = λ z j l. upto_made (pattern_of z) m (own z j) q (omega (arith, there.0, under n (pattern_of z) r (own z j) l));
        })
        signs)

    next_predecessor : key_of n ≡ k + 1 → gives m ≡ answer_written (predecessor_of binary32 (number_read n))
    next_predecessor e =
        written
        (predecessor_is binary32_limits i
        (record {
          number = read_member m q;
          below = under_made m n q r (omega (arith, there.0));
          greatest = λ z j l. upto_made m (pattern_of z) q (own z j) (omega (arith, there.0, under (pattern_of z) n (own z j) r l));
        })
        signs)

  pub key_successor : key_of n ≢ 4286578687 → key_of n ≢ 2147483647 → gives (pattern_of_key (key_of n + 1)) ≡ answer_written (successor_of binary32 (number_read n))
  key_successor ne nz =
      let less : key_of n < 4286578687 = lt_of_le_of_ne (key_bounds n h).1 ne in
      let there : Keyed (key_of n + 1) (pattern_of_key (key_of n + 1)) = keyed (key_of n + 1) (omega (arith, key_bounds n h)) (omega arith) in
      next_successor (pattern_of_key (key_of n + 1)) (key_of n + 1) there (λ z. absurd (nz (omega (arith, there.0, zero_key (pattern_of_key (key_of n + 1)) z)))) refl

  -- the successor of the negative number nearest zero is minus zero
  pub minus_zero_next : key_of n ≡ 2147483647 → gives (2 ^ 31) ≡ answer_written (successor_of binary32 (number_read n))
  unfolding finite
  minus_zero_next e = next_successor (2 ^ 31) (2 ^ 31) (refl, refl, omega arith) (λ z. sym (low_key n (omega arith))) (omega arith)

  pub key_predecessor : key_of n ≢ 8388609 → gives (pattern_of_key (key_of n - 1)) ≡ answer_written (predecessor_of binary32 (number_read n))
  key_predecessor ne =
      let more : 8388609 < key_of n = lt_of_le_of_ne (key_bounds n h).0 (λ e. ne (sym e)) in
      let there : Keyed (key_of n - 1) (pattern_of_key (key_of n - 1)) = keyed (key_of n - 1) (omega arith) (omega (arith, key_bounds n h)) in
      let zero : magnitude_read (pattern_of_key (key_of n - 1)) ≡ 0 → sign_of (pattern_of_key (key_of n - 1)) ≡ sign_of n =
      λ z.
      let k : key_of n - 1 ≡ 2 ^ 31 = sym there.0 ∙ zero_key (pattern_of_key (key_of n - 1)) z in
      ap (λ (j : ℕ). sign_of (pattern_of_key j)) k ∙ sym (high_key n (omega arith)) in
      next_predecessor (pattern_of_key (key_of n - 1)) (key_of n - 1) there zero (omega arith)

  -- ---- no key beyond the last
  pub no_successor : key_of n ≡ 4286578687 → refused 5 ≡ answer_written (successor_of binary32 (number_read n))
  no_successor e =
      ⊎_elim
      (λ c. absurd (omega (arith, key_bounds (pattern_of c.0) (finite_own c.0 c.2.number), under n (pattern_of c.0) r (own c.0 c.2.number) c.2.above)))
      (λ c. sym (ap answer_written c.0))
      (successor_cases binary32_limits i)

  pub no_predecessor : key_of n ≡ 8388609 → refused 5 ≡ answer_written (predecessor_of binary32 (number_read n))
  no_predecessor e =
      ⊎_elim
      (λ c. absurd (omega (arith, key_bounds (pattern_of c.0) (finite_own c.0 c.2.number), under (pattern_of c.0) n (own c.0 c.2.number) r c.2.below)))
      (λ c. sym (ap answer_written c.0))
      (predecessor_cases binary32_limits i)
