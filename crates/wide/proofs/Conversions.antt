-- Digits dropped one by one, until none stands below place 0 and the others are a significand.
use Rattle.theory.proofs.Prelude.{ℕ, ◌≤◌, ◌<◌, ◌+◌, ◌^◌, ◌*◌, ◌-◌, ◌%◌, ◌/◌, suc, true, false, Bool, ◌&&◌, ⊎_elim, inl, inr, ◌⊎◌, ◌∙◌, ap, ap₂, ◌≡◌, ◌≢◌, sym, refl, ℕ_discrete, pow-zero, pow-succ', mul-one, mul-pos, mul-lt-mul_of_pos_right, mul-le-mul_right, mul-le-mul_left, pow-le-pow_left, div-add-mod', div-mul-le_self, div-lt_iff_lt-mul, mod-lt, arith}
use native.Mathlib.Nat.{div-one, mod-one, div-le_self}
use denote.Enum.Bare.{sameb}
use Rattle.theory.specs.contracts.Location.{the_type}
use Rattle.theory.proofs.Tests.{never}
use Rattle.rounding.proofs.Prelude.{pow-add, pow_pos, pow_mono, pow_le_cancel, Scale, ScaledWithin, Digits, Location, Exact, Below, located, located_exact, located_below, located_half, located_above, cut_of, cut_is, positional, power_at, power_next, power_one, count_le, bound_pos, twice_steps, twice_rest}
use Rattle.rounding.proofs.Locations.{Rest, below, half, above, rest}
use Rattle.rounding.proofs.Places.{Placed}
use Rattle.rounding.specs.declared.Cut.{Cut}
use Rattle.wide.specs.Conversion.{Dropping}
use Rattle.wide.proofs.Sizes.{bits_size}
use Rattle.wide.proofs.Finishes.{finishes}

-- ---- what a location says of its rest
pub no_rest : (r m : ℕ) {l : Location} → l ≡ located r m → true ≡ sameb the_type l Exact → r ≡ 0
no_rest r m {l} e h = by (ℕ_discrete r 0)
  where
    some : r ≢ 0 → sameb the_type l Exact ≡ false
    some n = by (rest r m)
      where
        by : Rest r m → sameb the_type l Exact ≡ false
        by (below k) = rw (e, located_below r m n k) refl
        by (half k) = rw (e, located_half r m n k) refl
        by (above k) = rw (e, located_above r m k) refl

    by : Dec (r ≡ 0) → r ≡ 0
    by (yes z) = z
    by (no n) = absurd (never (h ∙ some n))

pub some_rest : (r m : ℕ) {l : Location} → l ≡ located r m → false ≡ sameb the_type l Exact → r ≢ 0
some_rest r m {l} e h z = never (sym (h ∙ ap (λ (t : Location). sameb the_type t Exact) (e ∙ located_exact r m z)))

-- a word has at most 64 bits
pub bits_most : {n bits : ℕ} → Digits 2 n bits → n < 2 ^ 64 → bits ≤ 64
bits_most {n} {bits} d l = count_le {n = n} (omega arith) bits 64 d.above l

-- two tests of the code
pub both_passed : (t u : Bool) → t && u ≡ true → (t ≡ true) × (u ≡ true)
both_passed true u h = (refl, h)
both_passed false u h = absurd (never (sym h))

pub one_failed : (t u : Bool) → t ≡ true → t && u ≡ false → u ≡ false
one_failed true u e h = h
one_failed false u e h = absurd (never (sym e))

module _ {limit : ℕ} {s : Scale} (h : ScaledWithin limit s) where
  abbrev β : ℕ
  β = s.base

  pub dropping_none : (n down : ℕ) → Dropping β s.bound n down n Exact 0
  dropping_none n down =
      record {
        left = sym (ap (λ (v : ℕ). n / v) (pow-zero β) ∙ div-one n);
        rest = sym (located_exact (n % β ^ 0) (β ^ 0) (ap (λ (v : ℕ). n % v) (pow-zero β) ∙ mod-one n));
        needed = inl (omega arith);
        few = omega arith;
      }

  -- in base 2: shifted by count bits, which are all but one that have to go
  pub dropping_bits : {n down bits below count steps rest divisor : ℕ} → β ≡ 2 → Digits 2 n bits → bits ≤ 64 → down ≤ 64 → below ≡ suc count
      → (below ≡ down) ⊎ ((below + s.digits ≡ bits) × (s.digits + down < bits)) → divisor ≡ 2 ^ count → steps ≡ n / 2 ^ count → rest ≡ n % 2 ^ count
      → {at : Location} → at ≡ located rest divisor → Dropping β s.bound n down steps at count
  dropping_bits {n} {down} {bits} {below} {count} two g few some last which power left part {at} e =
      record {
        left = left ∙ ap (λ (b : ℕ). n / b ^ count) (sym two);
        rest = e ∙ ap₂ located part power ∙ ap (λ (b : ℕ). located (n % b ^ count) (b ^ count)) (sym two);
        needed = ⊎_elim (λ t. inl (omega (arith, t, last))) (λ t. inr (many t.0)) which;
        few = ⊎_elim (λ t. omega (arith, t, last, some)) (λ t. omega (arith, t.0, last, few)) which;
      }
    where
      many : below + s.digits ≡ bits → s.bound * β ^ count ≤ β * n
      many t =
          let all : 2 ^ s.digits * 2 ^ suc count ≤ 2 * n = omega (arith, g.above, pow-add 2 s.digits (suc count), power_at 2 {i = bits} {j = s.digits + suc count} (omega (arith, t, last))) in
          omega (
            arith,
            all,
            pow-succ' 2 count,
            ap (λ (v : ℕ). v * β ^ count) h.bound_power,
            ap (λ (b : ℕ). b ^ s.digits * b ^ count) two,
            ap (λ (b : ℕ). b * n) two,
            mul-pos (pow_pos {β = 2} (omega arith) s.digits) (pow_pos {β = 2} (omega arith) count),
            ap (λ (v : ℕ). 2 ^ s.digits * v) (pow-succ' 2 count),
          )

  module _ {n down steps count : ℕ} {at : Location} (d : Dropping β s.bound n down steps at count) where
    -- too many steps are left: there are few places yet
    left_many : s.bound ≤ steps → s.bound * β ^ count ≤ n
    left_many l = omega (arith, mul-le-mul_right (β ^ count) l, ap (λ (v : ℕ). v * β ^ count) d.left, div-mul-le_self n (β ^ count))

    pub dropping_next : n < 2 ^ 64 → down ≤ 64 → (count < down) ⊎ (s.bound ≤ steps) → {after : Location} → after ≡ located (steps % β * β ^ count + n % β ^ count) (β ^ count * β)
        → Dropping β s.bound n down (steps / β) after (count + 1)
    dropping_next word some more {after} e =
        let P : ℕ = β ^ count in
        let one : 1 ≤ P = pow_pos h.base_least count in
        let base : 1 ≤ β = omega (arith, h.base_least) in
        let next : P * β ≡ β ^ (count + 1) = power_next β count in
        record {
          left = ap (λ (v : ℕ). v / β) d.left ∙ twice_steps n one base ∙ ap (λ (v : ℕ). n / v) next;
          rest =
              e ∙ ap (λ (v : ℕ). located (v % β * P + n % P) (P * β)) d.left ∙ ap (λ (v : ℕ). located v (P * β)) (twice_rest n one base)
              ∙ ap (λ (v : ℕ). located (n % v) v) next;
          needed = ⊎_elim (λ l. inl (omega (arith, l))) (λ l. inr (omega (arith, ap (λ (v : ℕ). s.bound * v) next, mul-le-mul_left β (left_many l)))) more;
          few = ⊎_elim (λ l. omega (arith, l, some)) (λ l. omega (arith, count_few l)) more;
        }
      where
        count_few : s.bound ≤ steps → count ≤ 63
        count_few l =
            let two : 2 ≤ s.bound = omega (arith, h.bound_power, h.base_least, power_one β, pow_mono h.base_least h.digits_least) in
            pow_le_cancel {β = 2} (omega arith) count 63 (omega (arith, pow-le-pow_left h.base_least count, left_many l, mul-le-mul_right (β ^ count) two))

    -- a digit less
    pub dropping_less : (count < down) ⊎ (s.bound ≤ steps) → down - (count + 1) + steps / β < down - count + steps
    dropping_less (inl l) = omega (arith, l, div-le_self steps β)
    dropping_less (inr l) =
        let some : 1 ≤ steps = omega (arith, l, bound_pos h) in
        let under : steps < steps * β = omega (arith, mul-le-mul_left steps h.base_least) in
        let base : 1 ≤ β = omega (arith, h.base_least) in
        omega (arith, (div-lt_iff_lt-mul base).1 under)

    pub dropping_cut : {up place : ℕ} → up + count ≡ down + place → steps < s.bound → (up ≡ 0) ⊎ ((down ≡ 0) × (s.bound ≤ n))
        → record { steps = steps; place = place; location = at } ≡ cut_of β s.digits (n * β ^ up) (β ^ down)
    dropping_cut {up} {place} e small one =
        ap (λ (l : Location). record { steps = steps; place = place; location = l }) d.rest
        ∙ sym
        (cut_is (positional h) (pow_pos h.base_least down) steps (n % P) P 1 (β ^ up) placed (omega arith) (pow_pos h.base_least up)
        (omega (arith, ap (λ (v : ℕ). v * β ^ up) whole)) (omega (arith, split)) (mod-lt n (pow_pos h.base_least count)))
      where
        P : ℕ
        P = β ^ count

        whole : n ≡ steps * P + n % P
        whole = omega (arith, div-add-mod' n P, ap (λ (v : ℕ). v * P) d.left)

        split : P * β ^ up ≡ β ^ down * β ^ place
        split = sym (pow-add β count up) ∙ power_at β (omega (arith, e)) ∙ pow-add β down place

        power : β ^ (s.digits + place) * β ^ down ≡ s.bound * P * β ^ up
        power =
            omega (
              arith,
              ap (λ (v : ℕ). v * β ^ down) (pow-add β s.digits place),
              ap (λ (v : ℕ). v * (P * β ^ up)) h.bound_power,
              ap (λ (v : ℕ). β ^ s.digits * v) split,
            )

        top : n < s.bound * P
        top = omega (arith, whole, mod-lt n (pow_pos h.base_least count), mul-le-mul_right P small)

        normal : (place ≡ 0) ⊎ (β ^ (s.digits + place) * β ^ down ≤ β * (n * β ^ up))
        normal =
            ⊎_elim
            (λ l. ⊎_elim (λ z. inl (omega (arith, l, z, e)))
            (λ z. absurd (omega (arith, small, z.1, d.left, ap (λ (i : ℕ). n / β ^ i) (none l z.0), ap (λ (v : ℕ). n / v) (pow-zero β), div-one n))) one)
            (λ l. inr (omega (arith, power, mul-le-mul_right (β ^ up) l))) d.needed
          where
            none : count ≤ down → down ≡ 0 → count ≡ 0
            none l z = omega (arith, l, z)

        placed : Placed β s.digits (n * β ^ up) (β ^ down) place
        placed = record { below = omega (arith, power, mul-lt-mul_of_pos_right top (pow_pos h.base_least up)); normal = normal }

  -- far below place 0
  pub cut_far : {n up down : ℕ} → 1 ≤ n → n < 2 ^ 64 → 64 < down → up ≡ 0 → record { steps = 0; place = 0; location = Below } ≡ cut_of β s.digits (n * β ^ up) (β ^ down)
  cut_far {n} {up} {down} some word far e =
      let whole : n * β ^ up ≡ n = ap (λ (i : ℕ). n * β ^ i) e ∙ ap (λ (v : ℕ). n * v) (pow-zero β) ∙ mul-one n in
      let under : 2 * n < β ^ down = omega (arith, word, pow_mono {β = 2} (omega arith) {i = 65} {j = down} far, pow-le-pow_left h.base_least down) in
      sym
      (cut_is (positional h) (pow_pos h.base_least down) 0 (n * β ^ up) (β ^ down) 1 1
      (record { below = omega (arith, whole, under, mul-le-mul_right (β ^ down) (pow_pos h.base_least (s.digits + 0))); normal = inl refl }) (omega arith) (omega arith)
      (omega arith) (rw pow-zero (omega arith)) (omega (arith, whole, under))
      ∙ ap (λ (l : Location). record { steps = 0; place = 0; location = l }) (located_below (n * β ^ up) (β ^ down) (λ z. omega (arith, z, whole, some)) (omega (arith, whole, under))))

  -- what `finish` asks: n has at most 64 digits
  pub conversion_finishes : (n up down : ℕ) → up < 2 ^ 28 → n < 2 ^ 64 → {c : Cut} → c ≡ cut_of β s.digits (n * β ^ up) (β ^ down)
      → ScaledWithin limit s × (c.steps < s.bound) × (c.place ≤ 2 ^ 30)
  conversion_finishes n up down l word e =
      finishes h (n * β ^ up) (β ^ down) (pow_pos h.base_least down) e (64 + up) (omega (arith, l)) (bits_size (positional h) 64 n up word)
