-- The digits of a quotient that are worked out: what they are of the exact quotient, how many, and where they end.
use Rattle.theory.proofs.Prelude.{ℕ, ◌≤◌, ◌<◌, ◌+◌, ◌^◌, ◌*◌, ◌-◌, suc, zero, ◌%◌, ◌/◌, true, false, Bool, ⊎_elim, inl, inr, ◌⊎◌, ◌≢◌, ◌∙◌, ap, ◌≡◌, sym, refl, mul-le-mul_right, mul-le-mul_left, pow-zero, mul-pos, pow-suc, pow-succ', mul-lt-mul_of_pos_right, le_antisymm, le_of_suc-le-suc, lt_of_not-le, lt_of_mul-lt-mul_right, div-add-mod', div-lt_iff_lt-mul, le-div_iff_mul-le, mod-lt, eq_of_mul-eq-mul_right, le_of_mul-le-mul_right, mul-one, arith, eqb, leb, leb-true, leb-false, eqb-true, eqb-false}
use native.Mathlib.Nat.{div-eq_of_lt}
use lib.Arith.{digits_div, digits_mod}
use Rattle.theory.proofs.Words.{Positional, Wide, place, zeros, ◌or◌}
use Rattle.theory.specs.QuotientDigits.{standing, digits_taken, lacking, brought}
use Rattle.theory.proofs.Tests.{or_cases, or_neither}
use Rattle.theory.proofs.Powers.{pow-add, pow_pos, pow_mono, pow_pred}
use Rattle.theory.proofs.Multiples.{Multiple, multiple_mod, mod_multiple, multiple_of, multiple_gap, multiple_one, multiple_pow}
use Rattle.theory.proofs.Place.{place_fits, place_le, above_power}
use Rattle.theory.proofs.Wide.{wide_normal}
use Rattle.theory.proofs.LeastPlace.{Ends, zeros_found}

-- why no further digit is taken after j behind the first: p stand, the one at place 0 was taken, or nothing remains
pub data Stopped (β p A B place j : ℕ) : Type 0 where
  all_stand : β ^ (p - 1) ≤ A * β ^ j / B → Stopped β p A B place j
  lowest_place : j ≡ place → Stopped β p A B place j
  no_rest : A * β ^ j % B ≡ 0 → Stopped β p A B place j

-- the digits of A / B are taken to j behind the first and no further
pub record Worked (β p A B place j : ℕ) : Type 0 where
  pub within : j ≤ place
  pub ended : Stopped β p A B place j
  pub few : (i : ℕ) → i < j → A * β ^ i / B < β ^ (p - 1)
  pub rest : (i : ℕ) → i < j → A * β ^ i % B ≢ 0

-- j digits behind the first are p significant ones, or reach down to place 0
pub record Reach (β p A B place j : ℕ) : Type 0 where
  pub within : j ≤ place
  pub below : A * β ^ j < B * β ^ p
  pub stop : (j ≡ place) ⊎ (β ^ (p - 1) ≤ A * β ^ j / B)

-- A / B, with its first digit at the place, is a whole number of units, and in the wide format
pub record Whole (β p A B place : ℕ) : Type 0 where
  pub units : ℕ
  pub wide : Wide β p units
  pub is : units * B ≡ A * β ^ place

-- ---- the significant digits that stand are those of a number
record Stands (β q n : ℕ) : Type 0 where
  below : q < β ^ n
  above : 1 ≤ n → β ^ (n - 1) ≤ q

stands_next : (β q n d : ℕ) → d < β → Stands β q n → Stands β (q * β + d) (standing n d)
stands_next β q zero zero l s =
    let none : q ≡ 0 = omega (arith, s.below, pow-zero β) in
    rw none (record { above = λ h. absurd (omega arith); below = omega (arith, pow-zero β) })
stands_next β q zero (suc d) l s =
    let none : q ≡ 0 = omega (arith, s.below, pow-zero β) in
    rw none (record { above = λ h. rw pow-zero (omega arith); below = rw (pow-suc, pow-zero) (omega arith) })
stands_next β q (suc n) d l s =
    let least : β ^ n ≤ q = omega (arith, s.above (omega arith), ap (λ (i : ℕ). β ^ i) {x = suc n - 1} {y = n} (omega arith)) in
    let now : β ^ (standing (suc n) d - 1) ≡ β ^ n * β = ap (λ (i : ℕ). β ^ i) (omega arith) ∙ pow-suc β n in
    record {
      below = rw pow-suc (omega (arith, mul-le-mul_right β s.below));
      above = λ h. omega (arith, now, mul-le-mul_right β least);
    }

-- ---- each digit that the definition takes is one of the exact quotient's
-- n digits are taken: the first, and those behind it
pub record Counted (β p A B place n : ℕ) : Type 0 where
  pub behind : ℕ
  pub is : n ≡ suc behind
  pub worked : Worked β p A B place behind

module _ {β p B : ℕ} (ok : Positional β p) (hB : 1 ≤ B) where
  -- q stands before the point of M / B, and R is left
  module _ (M q R : ℕ) (e : M ≡ q * β * B + R) where
    digit_parts : M * β ^ 0 ≡ (q * β + R / B) * B + R % B
    digit_parts = rw pow-zero (omega (arith, div-add-mod' R B))

    digit_div : M * β ^ 0 / B ≡ q * β + R / B
    digit_div = ap (λ (x : ℕ). x / B) digit_parts ∙ digits_div (q * β + R / B) (mod-lt R hB)

    digit_mod : M * β ^ 0 % B ≡ R % B
    digit_mod = ap (λ (x : ℕ). x % B) digit_parts ∙ digits_mod (q * β + R / B) (mod-lt R hB)

  -- a place below
  lowered : (M i : ℕ) → M * β * β ^ i ≡ M * β ^ suc i
  lowered M i = rw pow-succ' (omega arith)

  ended_next : {M place j : ℕ} → Stopped β p (M * β) B place j → Stopped β p M B (suc place) (suc j)
  ended_next {M} {place} {j} (all_stand h) = all_stand (rw (← lowered M j) h)
  ended_next (lowest_place e) = lowest_place (ap suc e)
  ended_next {M} {place} {j} (no_rest e) = no_rest (rw (← lowered M j) e)

  worked_next : {M place j : ℕ} → M * β ^ 0 / B < β ^ (p - 1) → M * β ^ 0 % B ≢ 0 → Worked β p (M * β) B place j → Worked β p M B (suc place) (suc j)
  worked_next {M} {place} {j} l r w = record { within = omega (arith, w.within); ended = ended_next w.ended; few = few; rest = rest }
    where
      few : (i : ℕ) → i < suc j → M * β ^ i / B < β ^ (p - 1)
      few zero h = l
      few (suc i) h = rw (← lowered M i) (w.few i (omega arith))

      rest : (i : ℕ) → i < suc j → M * β ^ i % B ≢ 0
      rest zero h = r
      rest (suc i) h = rw (← lowered M i) (w.rest i (omega arith))

  counted_from : (place M q R n : ℕ) → M ≡ q * β * B + R → R < β * B → Stands β q n → Counted β p M B place (digits_taken β p B R n place)
  unfolding digits_taken
  counted_from zero M q R n e l s =
      record { behind = 0; is = refl; worked = record { within = omega arith; ended = lowest_place refl; few = λ i h. absurd (omega arith); rest = λ i h. absurd (omega arith) } }
  counted_from (suc place) M q R n e l s =
      by (leb p now or eqb (R % B) 0) refl
      (counted_from place (M * β) (q * β + R / B) (R % B * β) now (omega (arith, ap (λ (x : ℕ). x * β) e, ap (λ (x : ℕ). x * β) (div-add-mod' R B)))
      (omega (arith, mul-lt-mul_of_pos_right {k = β} (mod-lt R hB) (omega (arith, ok.base)))) next)
    where
      now : ℕ
      now = standing n (R / B)

      next : Stands β (q * β + R / B) now
      next = stands_next β q n (R / B) ((div-lt_iff_lt-mul {k = B} {x = R} {y = β} hB).1 l) s

      ends : (leb p now ≡ true) ⊎ (eqb (R % B) 0 ≡ true) → Stopped β p M B (suc place) 0
      ends (inl h) =
          let most = leb-true p now h in
          all_stand (rw (digit_div M q R e) (omega (arith, next.above (omega (arith, ok.digits)), pow_mono ok.base {i = p - 1} {j = now - 1} (omega arith))))
      ends (inr h) = no_rest (digit_mod M q R e ∙ eqb-true (R % B) 0 h)

      by : (t : Bool) → leb p now or eqb (R % B) 0 ≡ t → Counted β p (M * β) B place (digits_taken β p B (R % B * β) now place)
          → Counted β p M B (suc place) (elim t [ true ↦ 1 | false ↦ suc (digits_taken β p B (R % B * β) now place) ])
      by true h c =
          record { behind = 0; is = refl; worked = record { within = omega arith; ended = ends (or_cases _ _ h); few = λ i k. absurd (omega arith); rest = λ i k. absurd (omega arith) } }
      by false h c =
          let few : now < p = leb-false p now (or_neither _ _ h).0 in
          record {
            behind = suc c.behind;
            is = ap suc c.is;
            worked = worked_next (rw (digit_div M q R e) (omega (arith, next.below, pow_mono ok.base {i = now} {j = p - 1} (omega arith))))
                (rw (digit_mod M q R e) (eqb-false (R % B) 0 (or_neither _ _ h).1)) c.worked;
          }

  -- ---- a quotient and its last digits
  powers : {i j : ℕ} → i ≤ j → β ^ j ≡ β ^ i * β ^ (j - i)
  powers {i} {j} l = ap (λ (k : ℕ). β ^ k) {x = j} {y = i + (j - i)} (omega arith) ∙ pow-add β i (j - i)

  -- what B divides it still divides further down
  later : (A : ℕ) {i j : ℕ} → i ≤ j → (m : Multiple B (A * β ^ i)) → A * β ^ j ≡ m.times * β ^ (j - i) * B
  later A {i} {j} l m = ap (λ (x : ℕ). A * x) (powers l) ∙ omega (arith, ap (λ (x : ℕ). x * β ^ (j - i)) m.is)

  module _ (A j : ℕ) where
    whole : A * β ^ j % B ≡ 0 → A * β ^ j ≡ A * β ^ j / B * B
    whole r = omega (arith, div-add-mod' (A * β ^ j) B)

    pub quotient_some : 1 ≤ A → A * β ^ j % B ≡ 0 → 1 ≤ A * β ^ j / B
    quotient_some some r = lt_of_mul-lt-mul_right B (omega (arith, whole r, mul-pos some (pow_pos ok.base j)))

    quotient_zeros : 1 ≤ A → A * β ^ j % B ≡ 0 → Ends β (A * β ^ j / B) (zeros β (A * β ^ j / B))
    quotient_zeros some r = zeros_found ok.base (A * β ^ j / B) (quotient_some some r)

  -- a quotient of j + 1 digits ends in at most j zeros
  pub zeros_within : {A : ℕ} (j : ℕ) → A < β * B → 1 ≤ A → A * β ^ j % B ≡ 0 → zeros β (A * β ^ j / B) ≤ j
  zeros_within {A} j lA some r =
      let z = zeros β (A * β ^ j / B) in
      let most : A * β ^ j / B < β ^ suc j =
      lt_of_mul-lt-mul_right B (rw pow-succ' (omega (arith, whole A j r, mul-lt-mul_of_pos_right {k = β ^ j} lA (pow_pos ok.base j)))) in
      let least : β ^ z ≤ A * β ^ j / B = omega (arith, multiple_gap (multiple_of 0) (quotient_zeros A j some r).multiple (omega (arith, quotient_some A j some r))) in
      le_of_suc-le-suc (lt_of_not-le (λ (h : suc j ≤ z). omega (arith, pow_mono ok.base h)))

  -- ---- for A / B below the base: the digits counted are those, and no other number of digits is
  module _ {A : ℕ} (lA : A < β * B) (place : ℕ) where
    pub taken_counted : Counted β p A B place (digits_taken β p B A 0 place)
    taken_counted = counted_from place A 0 A 0 (omega arith) lA (record { below = rw pow-zero (omega arith); above = λ h. absurd (omega arith) })

    worked_le : {i j : ℕ} → Worked β p A B place i → Worked β p A B place j → i ≤ j
    worked_le {i} {j} v w = le_of_suc-le-suc (lt_of_not-le (λ (h : suc j ≤ i). by h w.ended))
      where
        by : j < i → Stopped β p A B place j → ⊥
        by h (all_stand l) = omega (arith, v.few j h)
        by h (lowest_place e) = omega (arith, v.within)
        by h (no_rest e) = v.rest j h e

    pub taken_is : {j : ℕ} → Worked β p A B place j → digits_taken β p B A 0 place ≡ suc j
    taken_is w =
        let c = taken_counted in
        c.is ∙ ap suc (le_antisymm (worked_le c.worked w) (worked_le w c.worked))

    -- ---- from one division: j digits behind the first, as many as make p significant ones, or all down to place 0
    module _ {j : ℕ} (reach : Reach β p A B place j) where
      reach_few : (i : ℕ) → i < j → A * β ^ i / B < β ^ (p - 1)
      reach_few i l =
          let next : A * β ^ i * β ≤ A * β ^ j = omega (arith, lowered A i, mul-le-mul_left A (pow_mono ok.base {i = suc i} {j = j} l)) in
          let bound : B * β ^ p ≡ β ^ (p - 1) * B * β = ap (λ (x : ℕ). B * x) (pow_pred β ok.digits) ∙ omega arith in
          (div-lt_iff_lt-mul {k = B} {x = A * β ^ i} {y = β ^ (p - 1)} hB).1 (lt_of_mul-lt-mul_right β (omega (arith, reach.below)))

      pub reach_rest : A * β ^ j % B ≢ 0 → Worked β p A B place j
      reach_rest r =
          record {
            within = reach.within;
            ended = ⊎_elim lowest_place all_stand reach.stop;
            few = reach_few;
            rest = λ i l e. let m = mod_multiple (A * β ^ i) e in r (multiple_mod (record { times = m.times * β ^ (j - i); is = later A (omega arith) m }));
          }

      -- where nothing remains, the zeros that the quotient ends in were not taken
      pub reach_exact : 1 ≤ A → A * β ^ j % B ≡ 0 → Worked β p A B place (j - zeros β (A * β ^ j / B))
      reach_exact some r =
          record {
            within = omega (arith, reach.within);
            ended = no_rest (multiple_mod (record { times = m.times; is = eq_of_mul-eq-mul_right (β ^ z) (pow_pos ok.base z) (A * β ^ (j - z)) (m.times * B) shorter }));
            few = λ i l. reach_few i (omega arith);
            rest = λ i l e. more i l (mod_multiple (A * β ^ i) e);
          }
        where
          z : ℕ
          z = zeros β (A * β ^ j / B)

          m : Multiple (β ^ z) (A * β ^ j / B)
          m = (quotient_zeros A j some r).multiple

          back : j - (j - z) ≡ z
          back = omega (arith, zeros_within j lA some r)

          shorter : A * β ^ (j - z) * β ^ z ≡ m.times * B * β ^ z
          shorter =
              let split : β ^ j ≡ β ^ (j - z) * β ^ z = powers {i = j - z} {j = j} (omega arith) ∙ rw back in
              omega (arith, ap (λ (x : ℕ). A * x) split, whole A j r, ap (λ (x : ℕ). x * B) m.is)

          more : (i : ℕ) → i < j - z → Multiple B (A * β ^ i) → ⊥
          more i l n =
              (quotient_zeros A j some r).no_more
              (multiple_pow β {i = suc z} {j = j - i} (omega arith)
              (record { times = n.times; is = eq_of_mul-eq-mul_right B hB (A * β ^ j / B) (n.times * β ^ (j - i)) (omega (arith, whole A j r, later A {i = i} {j = j} (omega arith) n)) }))

    -- ---- how many there are
    -- at most p + 1 where A and B have equally many digits
    pub taken_most : B ≤ β * A → digits_taken β p B A 0 place ≤ p + 1
    taken_most l =
        let c = taken_counted in
        let stand : β ^ (p - 1) ≤ A * β ^ p / B =
        (le-div_iff_mul-le hB).1 (omega (arith, ap (λ (x : ℕ). A * x) (pow_pred β ok.digits), mul-le-mul_right (β ^ (p - 1)) l)) in
        let few : c.behind ≤ p = le_of_suc-le-suc (lt_of_not-le (λ (h : suc p ≤ c.behind). omega (arith, c.worked.few p h))) in
        omega (arith, c.is)

    -- p + 1 only where the first digit is 0
    pub taken_leading_zero : p < digits_taken β p B A 0 place → A / B ≡ 0
    taken_leading_zero l =
        let c = taken_counted in
        let below : A < B = lt_of_not-le (λ (h : B ≤ A). omega (arith, c.worked.few (p - 1) (omega (arith, ok.digits, c.is)), (le-div_iff_mul-le {k = B} {x = β ^ (p - 1)} {y = A * β ^ (p - 1)} hB).1 (omega (arith, mul-le-mul_right (β ^ (p - 1)) h)))) in
        div-eq_of_lt below

    -- one where B goes into A
    pub taken_whole : A % B ≡ 0 → digits_taken β p B A 0 place ≡ 1
    taken_whole e =
        taken_is (record { within = omega arith; ended = no_rest (rw (pow-zero, mul-one) e); few = λ i l. absurd (omega arith); rest = λ i l. absurd (omega arith) })

    -- ---- what remains
    -- the digits behind the first
    last_digit : digits_taken β p B A 0 place - 1 ≡ taken_counted.behind
    last_digit = let e = taken_counted.is in omega arith

    place_power : β ^ place ≡ β ^ taken_counted.behind * β ^ (place - taken_counted.behind)
    place_power = powers taken_counted.worked.within

    -- a quotient of the wide format is worked out to its end
    pub taken_exact : {w : ℕ} → Wide β p w → w * B ≡ A * β ^ place → A * β ^ (digits_taken β p B A 0 place - 1) % B ≡ 0
    taken_exact {w} h e = rw last_digit (by taken_counted.worked.ended)
      where
        j : ℕ
        j = taken_counted.behind

        divides : Multiple (β ^ (place - j)) w → Multiple B (A * β ^ j)
        divides m =
            record {
              times = m.times;
              is = eq_of_mul-eq-mul_right (β ^ (place - j)) (pow_pos ok.base (place - j)) (A * β ^ j) (m.times * B)
                  (omega (arith, ap (λ (x : ℕ). x * B) m.is, ap (λ (x : ℕ). A * x) place_power));
            }

        by : Stopped β p A B place j → A * β ^ j % B ≡ 0
        by (no_rest k) = k
        by (lowest_place k) = multiple_mod (divides (multiple_pow β {i = place - j} {j = 0} (omega arith) (multiple_one β w)))
        by (all_stand l) =
            multiple_mod
            (divides
            (wide_normal ok (place - j) h
            (le_of_mul-le-mul_right {k = B} (omega (arith, ap (λ (x : ℕ). A * x) place_power, mul-le-mul_right (β ^ (place - j)) ((le-div_iff_mul-le hB).0 l))) hB)))

    -- and where nothing remains, the quotient is in the wide format
    pub taken_ends : A * β ^ (digits_taken β p B A 0 place - 1) % B ≡ 0 → Whole β p A B place
    taken_ends r =
        let j = taken_counted.behind in
        let q = A * β ^ j / B in
        let e : A * β ^ j ≡ q * B = whole A j (rw last_digit at r) in
        record {
          units = q * β ^ (place - j);
          wide = record { significand = q; exponent = place - j; small = small j refl; is = refl };
          is = omega (arith, ap (λ (x : ℕ). A * x) place_power, ap (λ (x : ℕ). x * β ^ (place - j)) e);
        }
      where
        small : (j : ℕ) → taken_counted.behind ≡ j → A * β ^ taken_counted.behind / B < β ^ p
        small zero e =
            let most : β ≤ β ^ p = omega (arith, pow_pred β ok.digits, mul-le-mul_left β (pow_pos ok.base (p - 1))) in
            rw (e, pow-zero, mul-one) ((div-lt_iff_lt-mul {k = B} {x = A} {y = β ^ p} hB).1 (omega (arith, mul-le-mul_right B most)))
        small (suc i) e =
            let before : A * β ^ i < β ^ (p - 1) * B = (div-lt_iff_lt-mul {k = B} {x = A * β ^ i} {y = β ^ (p - 1)} hB).0 (taken_counted.worked.few i (omega arith)) in
            rw e ((div-lt_iff_lt-mul {k = B} {x = A * β ^ suc i} {y = β ^ p} hB).1 (omega (arith, lowered A i, ap (λ (x : ℕ). x * B) (pow_pred β ok.digits), mul-lt-mul_of_pos_right {k = β} before (omega (arith, ok.base)))))

-- ---- a significand brought to p digits
-- it has p digits
pub record Leads (β p a : ℕ) : Type 0 where
  pub least : β ^ (p - 1) ≤ a
  pub most : a < β ^ p

module _ {β p : ℕ} (ok : Positional β p) {m : ℕ} (some : 1 ≤ m) where
  one_digit : Positional β 1
  one_digit = record { base = ok.base; digits = omega arith }

  first_most : m < β ^ suc (place β 1 m)
  first_most = omega (arith, place_fits one_digit m, ap (λ (i : ℕ). β ^ i) {x = 1 + place β 1 m} {y = suc (place β 1 m)} (omega arith))

  first_least : β ^ place β 1 m ≤ m
  first_least = by (place β 1 m) refl
    where
      by : (k : ℕ) → place β 1 m ≡ k → β ^ place β 1 m ≤ m
      by zero e = rw (e, pow-zero) some
      by (suc k) e = omega (arith, above_power one_digit {n = m} {k = k} (omega arith), ap (λ (i : ℕ). β ^ i) {x = place β 1 m} {y = 1 + k} (omega arith))

  pub brought_leads : m < β ^ p → Leads β p (brought β p m)
  unfolding brought lacking
  brought_leads l =
      let k = place β 1 m in
      let s = p - 1 - k in
      let within : k ≤ p - 1 = place_le one_digit (omega (arith, ap (λ (i : ℕ). β ^ i) {x = p} {y = 1 + (p - 1)} (omega (arith, ok.digits)))) in
      let least : β ^ (p - 1) ≡ β ^ k * β ^ s = ap (λ (i : ℕ). β ^ i) {x = p - 1} {y = k + s} (omega arith) ∙ pow-add β k s in
      let most : β ^ p ≡ β ^ suc k * β ^ s = ap (λ (i : ℕ). β ^ i) {x = p} {y = suc k + s} (omega (arith, ok.digits)) ∙ pow-add β (suc k) s in
      record {
        least = omega (arith, least, mul-le-mul_right (β ^ s) first_least);
        most = omega (arith, most, mul-lt-mul_of_pos_right {k = β ^ s} first_most (pow_pos ok.base s));
      }

  -- and no other number of digits brings it there
  pub lacking_is : (s : ℕ) → s < p → Leads β p (m * β ^ s) → s ≡ lacking β p m
  unfolding lacking
  lacking_is s l h =
      let k = p - 1 - s in
      let least : β ^ k * β ^ s ≡ β ^ (p - 1) = sym (pow-add β k s) ∙ ap (λ (i : ℕ). β ^ i) {x = k + s} {y = p - 1} (omega arith) in
      let most : β ^ suc k * β ^ s ≡ β ^ p = sym (pow-add β (suc k) s) ∙ ap (λ (i : ℕ). β ^ i) {x = suc k + s} {y = p} (omega arith) in
      let low : β ^ k ≤ m = le_of_mul-le-mul_right {k = β ^ s} (omega (arith, h.least)) (pow_pos ok.base s) in
      let high : m < β ^ suc k = lt_of_mul-lt-mul_right (β ^ s) (omega (arith, h.most)) in
      let up : place β 1 m ≤ k = place_le one_digit (omega (arith, ap (λ (i : ℕ). β ^ i) {x = suc k} {y = 1 + k} (omega arith))) in
      let down : k ≤ place β 1 m = le_of_suc-le-suc (lt_of_not-le (λ (g : suc (place β 1 m) ≤ k). omega (arith, first_most, pow_mono ok.base g))) in
      omega arith

-- two significands of p digits: the first digit of their quotient is one digit, and at most one 0 comes before the significant ones
pub leads_below : {β p a b : ℕ} → Positional β p → Leads β p a → Leads β p b → a < β * b
leads_below {β} {p} ok la lb = omega (arith, la.most, pow_pred β ok.digits, mul-le-mul_left β lb.least)
