-- The rounding of lib.Ieee, the kit's own account of IEEE 754, is the theory's to nearest with ties to even in format 2: an infinity
-- where the rounded magnitude exceeds the greatest number, and otherwise the float that has its value.
use Rattle.theory.proofs.Prelude.{ℕ, ◌≤◌, ◌<◌, ◌+◌, ◌^◌, ◌*◌, ◌-◌, suc, ◌%◌, ◌/◌, true, false, Bool, cond, not, ◌≢◌, ◌∙◌, ap, ◌≡◌, sym, refl, subst, ℕ_discrete, mul-pos, le_antisymm, le_of_suc-le-suc, lt_of_not-le, arith, eqb, leb, T, ne_eqb, eq-eqb, leb-true, leb-false, le-ltb, ltb-true}
use Prim.Native.Nat.{compare, Ordering}
use native.Mathlib.Nat.{lt_of_le_of_lt, not-le_of_lt}
use lib.Dec.{is_le, compare_is_eq, leb→le, nleb→lt, eqb→eq}
use mir.Facts.{eqb_no}
use lib.Ieee as ieee
use lib.Ieee.{Float, inf, size, nearest, odd, units}
use lib.Ieee.Digits.{size-lt, size-le}
use lib.Ieee.Exact.{HasValue, units_val}
use lib.Ieee.Fits.{round_is}
use lib.Ieee.Nearest.{closest, closest_same, div_same}
use Rattle.theory.specs.Place.{place, step}
use Rattle.theory.specs.Wide.{Wide}
use Rattle.theory.specs.Round.{chosen, takes_upper, round}
use Rattle.theory.specs.declared.Direction.TheVariants.{NearestEven}
use Rattle.theory.specs.declared.Location.{Location}
use Rattle.theory.proofs.Tests.{unless_passed, unless_failed}
use Rattle.theory.proofs.Powers.{pow_pos, pow_mono}
use Rattle.theory.proofs.Place.{step_pos, place_le, place_fits}
use Rattle.theory.proofs.Canonical.{canonical_of, canonical_value}
use Rattle.theory.proofs.Round.{Located, at_lower, under, middle, over, location_found, round_wide}
use Rattle.theory.proofs.Division.{divided, round_divided}
use Rattle.format.specs.Published.{binary32}
use Rattle.number.specs.declared.Number.{Number}
use Rattle.format.specs.Given.{Given, gives, refused}
use Rattle.number.specs.Numbers.{number, greatest, delivered}
use Rattle.number.proofs.Values.{canonical_within}
use Rattle.binary_patterns.proofs.Standard as general
use Rattle.binary32.proofs.Fields.{binary32_limits, binary_24}

-- the answer that a float of lib.Ieee stands for; an infinity is a result too large
unfoldable pub answered : Float → Given Number
unfolding general.answered
answered x = general.answered ieee.binary32 8 23 x

-- ± N / D units of 2 ^ -149, rounded to nearest with ties to even, and the answer that it makes
abbrev pub nearest_round : (negative : Bool) (N D : ℕ) → ℕ
nearest_round negative N D = round 2 24 NearestEven negative N D

abbrev pub nearest_of : (negative : Bool) (N D : ℕ) → Given Number
nearest_of negative N D = delivered binary32 negative (nearest_round negative N D)

-- a finite float's answer, by its value
pub answered_value : (x : Float) (s : Bool) (n : ℕ) → HasValue x s n (2 ^ 149) → answered x ≡ gives (number binary32 s n)
unfolding answered
answered_value x s n h = general.answered_value ieee.binary32 8 23 x s n h

-- ---- the place by the number of binary digits
size_place : (n : ℕ) → size n - 24 ≡ place 2 24 n
size_place n =
    le_antisymm (omega (arith, size-le n (24 + place 2 24 n) (place_fits binary_24 n)))
    (place_le binary_24 (omega (arith, size-lt n, pow_mono {β = 2} (omega arith) {i = size n} {j = 24 + (size n - 24)} (omega arith))))

-- ---- a fraction to the nearest whole number, a tie to the even one
data Compared (a b : ℕ) : Ordering → Type 0 where
  less : a < b → Compared a b Ordering.lt
  same : a ≡ b → Compared a b Ordering.eq
  more : b < a → Compared a b Ordering.gt

compared : (a b : ℕ) → Compared a b (compare a b)
compared a b = by (compare a b) (leb→le a b) (nleb→lt a b) (eqb→eq a b) (λ t. eqb_no t)
  where
    by : (o : Ordering) → (T (is_le o) → a ≤ b) → (T (not (is_le o)) → b < a) → (T (compare_is_eq o) → a ≡ b) → (T (not (compare_is_eq o)) → a ≢ b) → Compared a b o
    by Ordering.lt l g e n = less (omega (arith, l tt, n tt))
    by Ordering.eq l g e n = same (e tt)
    by Ordering.gt l g e n = more (g tt)

-- n steps and a remainder r of a step of u
module _ (negative : Bool) (n r u s : ℕ) (pos : 1 ≤ u) where
  abbrev choice : Location → ℕ
  choice c = cond (takes_upper NearestEven negative (eqb (n % 2) 1) c) (suc n * s) (n * s)

  tie : (n + n % 2) * s ≡ cond (eqb (n % 2) 1) (suc n * s) (n * s)
  tie = by (ℕ_discrete (n % 2) 1)
    where
      by : Dec (n % 2 ≡ 1) → (n + n % 2) * s ≡ cond (eqb (n % 2) 1) (suc n * s) (n * s)
      by (yes e) = rw (eq-eqb (n % 2) 1 e, e) (omega arith)
      by (no h) = let e : n % 2 ≡ 0 = omega arith in rw (ne_eqb (n % 2) 1 h, e) (omega arith)

  steps_nearest : {o : Ordering} {c : Location} → Compared (r * 2) u o → Located r u 0 1 c → nearest n o * s ≡ choice c
  unfolding takes_upper chosen
  steps_nearest (less h) (at_lower e) = refl
  steps_nearest (less h) (under e m) = refl
  steps_nearest (less h) (middle e m) = absurd (omega arith)
  steps_nearest (less h) (over e m) = absurd (omega arith)
  steps_nearest (same h) (at_lower e) = absurd (omega arith)
  steps_nearest (same h) (under e m) = absurd (omega arith)
  steps_nearest (same h) (middle e m) = tie
  steps_nearest (same h) (over e m) = absurd (omega arith)
  steps_nearest (more h) (at_lower e) = absurd (omega arith)
  steps_nearest (more h) (under e m) = absurd (omega arith)
  steps_nearest (more h) (middle e m) = absurd (omega arith)
  steps_nearest (more h) (over e m) = refl

-- lib.Ieee's nearest multiple of the step is the theory's rounding
closest_round : (negative : Bool) (N : ℕ) {D : ℕ} → 1 ≤ D
    → closest N (D * step 2 24 (N / D)) * step 2 24 (N / D) ≡ nearest_round negative N D
closest_round negative N {D} h_d =
    let w = step 2 24 (N / D) in
    let u : ℕ = D * w in
    steps_nearest negative (N / u) (N % u) u w (mul-pos h_d (step_pos binary_24 (N / D))) (compared (N % u * 2) u) (location_found (N % u) u 0 1)
    ∙ sym (round_divided binary_24 (divided binary_24 N h_d) NearestEven negative)

-- ---- the greatest number is the greatest of the wide format below 2 ^ 128, which is 2 ^ 277 units
greatest_under : {n : ℕ} → n ≤ greatest binary32 → n < 2 ^ 277
unfolding greatest
greatest_under h = lt_of_le_of_lt h (ltb-true (greatest binary32) (2 ^ 277) refl)

greatest_least : {n : ℕ} → Wide 2 24 n → greatest binary32 < n → 2 ^ 277 ≤ n
unfolding step
greatest_least {n} w h = le_of_suc-le-suc (lt_of_not-le (λ (l : n < 2 ^ 277). not-le_of_lt h (within l)))
  where
    within : n < 2 ^ 277 → n ≤ greatest binary32
    within l = subst (λ (v : ℕ). v ≤ greatest binary32) (canonical_value binary_24 w) (canonical_within binary32_limits (canonical_of binary_24 n) (place_le binary_24 l))

-- ---- num / den is N / D units of 2 ^ -149
pub record Exact (num den N D : ℕ) : Type 0 where
  pub divisor : 1 ≤ den
  pub divisor' : 1 ≤ D
  pub cross : num * 2 ^ 149 * D ≡ N * den

-- m / u is A units of 1 / w
pub record Counts (w m u A : ℕ) : Type 0 where
  pub divisor : 1 ≤ u
  pub is : m * w ≡ A * u

-- a common factor
scaled : (n den N D w : ℕ) → n * D ≡ N * den → n * (D * w) ≡ N * (den * w)
scaled n den N D w e = omega (arith, ap (λ (v : ℕ). v * w) e)

module _ (s : Bool) {num den N D : ℕ} (e : Exact num den N D) where
  abbrev k : ℕ
  k = place 2 24 (N / D)

  abbrev q : ℕ
  q = closest N (D * 2 ^ k)

  round_units : ieee.round ieee.binary32 s num den ≡ units ieee.binary32 s q k
  round_units =
      round_is ieee.binary32 s num den
      ∙ ap (λ (j : ℕ). units ieee.binary32 s (closest (num * 2 ^ 149) (den * 2 ^ j)) j)
      (ap (λ (n : ℕ). size n - 24) (div_same (num * 2 ^ 149) den N D e.divisor e.divisor' e.cross) ∙ size_place (N / D))
      ∙ ap (λ (n : ℕ). units ieee.binary32 s n k)
      (closest_same (num * 2 ^ 149) (den * 2 ^ k) N (D * 2 ^ k) (mul-pos e.divisor (pow_pos (omega arith) k)) (mul-pos e.divisor' (pow_pos (omega arith) k))
      (scaled (num * 2 ^ 149) den N D (2 ^ k) e.cross))

  rounded : q * 2 ^ k ≡ nearest_round s N D
  unfolding step
  rounded = closest_round s N e.divisor'

  -- up to the greatest number, the float with that value
  pub round_value : nearest_round s N D ≤ greatest binary32 → HasValue (ieee.round ieee.binary32 s num den) s (nearest_round s N D) (2 ^ 149)
  round_value h =
      subst (λ (x : Float). HasValue x s (nearest_round s N D) (2 ^ 149)) (sym round_units)
      (subst (λ (n : ℕ). HasValue (units ieee.binary32 s q k) s n (2 ^ 149)) rounded
      (units_val ieee.binary32 s q k (subst (λ (n : ℕ). n < 2 ^ 277) (sym rounded) (greatest_under h))))

  -- beyond it, an infinity
  pub round_infinite : greatest binary32 < nearest_round s N D → ieee.round ieee.binary32 s num den ≡ inf s
  unfolding units
  round_infinite h =
      round_units
      ∙ ap (λ (t : Bool). cond t (odd 25 s q k 149) (inf s))
      (le-ltb (q * 2 ^ k) (2 ^ 277) (subst (λ (n : ℕ). 2 ^ 277 ≤ n) (sym rounded) (greatest_least (round_wide binary_24 N e.divisor' NearestEven s) h)))

  pub round_standard : answered (ieee.round ieee.binary32 s num den) ≡ nearest_of s N D
  unfolding delivered answered
  round_standard = by (leb (nearest_round s N D) (greatest binary32)) refl
    where
      by : (t : Bool) → leb (nearest_round s N D) (greatest binary32) ≡ t → answered (ieee.round ieee.binary32 s num den) ≡ nearest_of s N D
      by true l =
          answered_value (ieee.round ieee.binary32 s num den) s (nearest_round s N D) (round_value (leb-true (nearest_round s N D) (greatest binary32) l))
          ∙ sym (unless_passed (refused 5) (gives (number binary32 s (nearest_round s N D))) l)
      by false l =
          ap answered (round_infinite (leb-false (nearest_round s N D) (greatest binary32) l))
          ∙ sym (unless_failed (refused 5) (gives (number binary32 s (nearest_round s N D))) l)
