-- What a scale says of its base and digits, with any limit on its powers; and numbers of two words of any width.
use Rattle.theory.proofs.Prelude.{ℕ, ◌≤◌, ◌<◌, ◌+◌, ◌^◌, ◌*◌, ◌-◌, suc, ◌/◌, ◌%◌, true, false, Bool, ltb, ltb-true, ltb-false, ◌∙◌, ap, ◌≡◌, sym, ap₂, div-add-mod', mod-lt, mul-le-mul_right, mul-le-mul_left, pow-zero, pow-succ', le_of_suc-le-suc, lt_of_not-le, div-lt_iff_lt-mul, mul-pos, pow-suc, pow-le-pow_left, add-one, arith}
use lib.Arith.{digits_div, digits_mod}
use Rattle.theory.specs.Place.{Positional}
use Rattle.theory.proofs.Powers.{pow-add, pow_pos, pow_pred, pow_mono, pow_le_cancel}
use Rattle.format.specs.declared.Scale.{Scale}
use Rattle.format.specs.Formats.{ScaledWithin}
use Rattle.two_words.specs.declared.TwoWords.{TwoWords}
use Rattle.two_words.specs.Amount.{amount_of}
use Rattle.rounding.specs.Digits.{Unit}

pub positional : {limit : ℕ} {s : Scale} → ScaledWithin limit s → Positional s.base s.digits
positional h = record { base = h.base_least; digits = h.digits_least }

pub power_at : (β : ℕ) {i j : ℕ} → i ≡ j → β ^ i ≡ β ^ j
power_at β = ap (λ (i : ℕ). β ^ i)

pub power_next : (β k : ℕ) → β ^ k * β ≡ β ^ (k + 1)
power_next β k = rw (add-one, pow-suc)

pub power_one : (β : ℕ) → β ^ 1 ≡ β
power_one β = pow-suc β 0 ∙ rw pow-zero (omega arith)

pub unit_next : {s : Scale} {unit shift : ℕ} → Unit s unit shift → unit * s.base ≡ s.base ^ (shift + 1)
unit_next {s} {shift = shift} u = ap (λ (v : ℕ). v * s.base) u.is ∙ power_next s.base shift

-- a number below β ^ q has at most q digits
pub count_le : {β n : ℕ} → 2 ≤ β → (c q : ℕ) → β ^ c ≤ β * n → n < β ^ q → c ≤ q
count_le {β} {n} hβ c q l m =
    le_of_suc-le-suc (lt_of_not-le (λ (k : suc q ≤ c). omega (arith, pow_mono hβ k, pow-succ' β q, mul-le-mul_left β m)))

module _ {limit : ℕ} {s : Scale} (h : ScaledWithin limit s) where
  pub square : s.bound * s.bound ≡ s.base ^ (2 * s.digits)
  square = rw h.bound_power (sym (pow-add s.base s.digits s.digits) ∙ power_at s.base (omega arith))

  -- every power up to the digits is within the limit
  pub power_most : {k : ℕ} → k ≤ s.digits → s.base ^ k ≤ limit
  power_most l = omega (arith, h.bound_power, h.bound_most, pow_mono h.base_least l)

  -- a power above the digits
  pub power_beyond : {k w : ℕ} → s.digits ≤ k → w ≡ s.base ^ (k - s.digits) → s.bound * w ≡ s.base ^ k
  power_beyond {k} l e =
      ap₂ ◌*◌ h.bound_power e ∙ sym (pow-add s.base s.digits (k - s.digits)) ∙ power_at s.base (omega arith)

  pub bound_pos : 1 ≤ s.bound
  bound_pos = omega (arith, h.bound_power, pow_pos h.base_least s.digits)

  pub least_bound : s.bound ≡ s.base * s.least
  least_bound = h.bound_power ∙ pow_pred s.base h.digits_least ∙ ap (λ (n : ℕ). s.base * n) (sym h.least_power)

  pub unit_bound : {unit shift : ℕ} → Unit s unit shift → unit * s.bound ≡ s.base ^ (s.digits + shift)
  unit_bound {unit} {shift} u = rw (u.is, h.bound_power, pow-add s.base s.digits shift) (omega arith)

  pub unit_most : {unit shift : ℕ} → Unit s unit shift → unit ≤ s.bound
  unit_most u = omega (arith, u.is, h.bound_power, pow_mono h.base_least u.most)

  pub unit_pos : {unit shift : ℕ} → Unit s unit shift → 1 ≤ unit
  unit_pos {shift = j} u = omega (arith, u.is, pow_pos h.base_least j)

  -- in base 2 it is a power of two
  pub unit_two : {unit shift : ℕ} → Unit s unit shift → s.base ≡ 2 → unit ≡ 2 ^ shift
  unit_two {shift = j} u e = u.is ∙ ap (λ (b : ℕ). b ^ j) e

  pub least_unit : Unit s s.least (s.digits - 1)
  least_unit = record { is = h.least_power; most = omega arith }

  pub bound_unit : Unit s s.bound s.digits
  bound_unit = record { is = h.bound_power; most = omega arith }

  -- one digit more, where the power is at most a significand
  pub count_room : {n : ℕ} (c : ℕ) → s.base ^ c ≤ n → n < s.bound → c + 1 ≤ s.digits
  count_room {n} c l m =
      count_le {n = n} h.base_least (c + 1) s.digits (omega (arith, power_next s.base c, mul-le-mul_right s.base l)) (omega (arith, h.bound_power))

  -- a limit of b bits leaves b digits
  pub digits_within : (b : ℕ) → limit ≤ 2 ^ b → s.digits ≤ b
  digits_within b l = pow_le_cancel {β = 2} (omega arith) s.digits b (omega (arith, h.bound_power, h.bound_most, pow-le-pow_left h.base_least s.digits))

-- ---- numbers of two words of w bits
module _ (w : ℕ) where
  -- a product of two powers is small enough to be compared with
  pub product_within : (r : TwoWords) {a b : ℕ} → 1 ≤ w → amount_of w r ≡ a * b → a ≤ 2 ^ (w - 1) → b ≤ 2 ^ (w - 1) → r.high < 2 ^ (w - 1)
  product_within r {b = b} some e l m =
      let half : ℕ = 2 ^ (w - 1) in
      let whole : 2 ^ w ≡ 2 * half = pow_pred 2 some in
      let square : 1 ≤ half * half = mul-pos (pow_pos {β = 2} (omega arith) (w - 1)) (pow_pos {β = 2} (omega arith) (w - 1)) in
      lt_of_not-le
      (λ (k : half ≤ r.high).
      omega (arith, mul-le-mul_right b l, mul-le-mul_left half m, square, ap (λ (n : ℕ). half * n) whole, mul-le-mul_right (2 ^ w) k))

  -- what `two_words` asks of a division: the quotient is a word
  pub high_within : (n : TwoWords) {b d : ℕ} → b ≤ 2 ^ w → amount_of w n < b * d → n.high < d
  high_within n {b} {d} m l = lt_of_not-le (λ (k : d ≤ n.high). omega (arith, mul-le-mul_right d m, mul-le-mul_right (2 ^ w) k))

  -- and where the high word is below the divisor, it is one
  pub quotient_within : (n : TwoWords) {d : ℕ} → n.low < 2 ^ w → n.high < d → amount_of w n / d < 2 ^ w
  quotient_within n {d} l m = (div-lt_iff_lt-mul {k = d} {x = amount_of w n} {y = 2 ^ w} (omega arith)).1 (omega (arith, mul-le-mul_right (2 ^ w) m))

  -- a quotient and a rest by a power of two: the high word has a whole share of the quotient
  module _ (n : TwoWords) {d j : ℕ} (few : j ≤ w) (is : d ≡ 2 ^ j) where
    positive : 1 ≤ d
    positive = omega (arith, is, pow_pos {β = 2} (omega arith) j)

    abbrev share : ℕ
    share = n.high * 2 ^ (w - j)

    shared : n.high * 2 ^ w ≡ share * d
    shared =
        let sum : w ≡ w - j + j = omega arith in
        let whole : 2 ^ w ≡ 2 ^ (w - j) * d = power_at 2 sum ∙ pow-add 2 (w - j) j ∙ ap (λ (v : ℕ). 2 ^ (w - j) * v) (sym is) in
        omega (arith, ap (λ (v : ℕ). n.high * v) whole)

    shares : amount_of w n ≡ (share + n.low / d) * d + n.low % d
    shares = omega (arith, shared, div-add-mod' n.low d)

    pub share_steps : share + n.low / d ≡ amount_of w n / d
    share_steps = sym (ap (λ (v : ℕ). v / d) shares ∙ digits_div (share + n.low / d) (mod-lt n.low positive))

    pub share_rest : n.low % d ≡ amount_of w n % d
    share_rest = sym (ap (λ (v : ℕ). v % d) shares ∙ digits_mod (share + n.low / d) (mod-lt n.low positive))

-- a test against a product
module _ {t : Bool} {a p q : ℕ} (test : t ≡ ltb a p) (is : p ≡ q) where
  pub less_taken : t ≡ true → a < q
  less_taken e = omega (arith, is, ltb-true a p (sym test ∙ e))

  pub less_left : t ≡ false → q ≤ a
  less_left e = omega (arith, is, ltb-false a p (sym test ∙ e))
