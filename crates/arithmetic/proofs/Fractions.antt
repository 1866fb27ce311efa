-- The fractions of product and quotient in significands and exponents, without the unit: of m × β ^ e and m' × β ^ e' the
-- product is m × m' × β ^ (e + e'), and the quotient m / m' × β ^ (e - e').
use Rattle.theory.proofs.Prelude.{ℕ, ◌+◌, ◌^◌, ◌*◌, ◌∙◌, ap, ◌≡◌, sym, arith, ℤ, pos, ◌+ℤ◌, ◌-ℤ◌}
use Rattle.arithmetic.proofs.Prelude.{pow-add, Format, apart, Number, above_zero, below_zero, place_of, magnitude, Member, above, below, sum_parts, diff_parts, size_parts}
use Rattle.arithmetic.proofs.Prepared.{parts_above, parts_below}

pow_three : (β i j k : ℕ) → β ^ i * β ^ j * β ^ k ≡ β ^ (i + j + k)
pow_three β i j k = sym (pow-add β (i + j) k ∙ rw (pow-add β i j))

-- a number's exponent is Emin and its place
pub at_place : {f : Format} {x : Number} → Member f x → above x.exponent + below f.emin ≡ above f.emin + below x.exponent + place_of f x
at_place {f} {x} i =
    let z : ℤ = x.exponent -ℤ f.emin in
    omega (arith, size_parts z, diff_parts x.exponent f.emin, apart z, i.exponent_low)

module _ {f : Format} {a b : Number} (first : Member f a) (second : Member f b) (i j : ℕ) where
  -- i - j is e + e' - Emin
  pub product_plain : a.exponent +ℤ b.exponent +ℤ pos j ≡ f.emin +ℤ pos i
      → magnitude f a * magnitude f b * f.base ^ above_zero f.emin * f.base ^ j ≡ a.significand * b.significand * f.base ^ i * f.base ^ below_zero f.emin
  unfolding magnitude
  product_plain e =
      let left : ℤ = a.exponent +ℤ b.exponent in
      let s = sum_parts a.exponent b.exponent in
      let t = sum_parts left (pos j) in
      let u = sum_parts f.emin (pos i) in
      let exponents : place_of f a + place_of f b + above_zero f.emin + j ≡ i + below_zero f.emin =
      omega (arith, at_place first, at_place second, ap above e, ap below e, parts_above f.emin, parts_below f.emin) in
      let B : ℕ = f.base in
      let powers : B ^ place_of f a * B ^ place_of f b * B ^ above_zero f.emin * B ^ j ≡ B ^ i * B ^ below_zero f.emin =
      ap (λ (v : ℕ). v * B ^ j) (pow_three B (place_of f a) (place_of f b) (above_zero f.emin))
      ∙ sym (pow-add B (place_of f a + place_of f b + above_zero f.emin) j) ∙ ap (λ (h : ℕ). B ^ h) exponents ∙ pow-add B i (below_zero f.emin) in
      omega (arith, ap (λ (v : ℕ). a.significand * b.significand * v) powers)

  -- i - j is e - e' - Emin
  pub quotient_plain : a.exponent +ℤ pos j ≡ b.exponent +ℤ f.emin +ℤ pos i
      → magnitude f a * f.base ^ below_zero f.emin * b.significand * f.base ^ j ≡ a.significand * f.base ^ i * (magnitude f b * f.base ^ above_zero f.emin)
  unfolding magnitude
  quotient_plain e =
      let right : ℤ = b.exponent +ℤ f.emin in
      let s = sum_parts b.exponent f.emin in
      let t = sum_parts right (pos i) in
      let u = sum_parts a.exponent (pos j) in
      let exponents : place_of f a + below_zero f.emin + j ≡ i + place_of f b + above_zero f.emin =
      omega (arith, at_place first, at_place second, ap above e, ap below e, parts_above f.emin, parts_below f.emin) in
      let B : ℕ = f.base in
      let powers : B ^ place_of f a * B ^ below_zero f.emin * B ^ j ≡ B ^ i * B ^ place_of f b * B ^ above_zero f.emin =
      pow_three B (place_of f a) (below_zero f.emin) j ∙ ap (λ (h : ℕ). B ^ h) exponents ∙ sym (pow_three B i (place_of f b) (above_zero f.emin)) in
      omega (arith, ap (λ (v : ℕ). a.significand * b.significand * v) powers)
