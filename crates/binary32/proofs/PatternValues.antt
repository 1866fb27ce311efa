-- The values of patterns as whole multiples of 2 ^ -149: that of a finite pattern is the value of the number read, keys are in the
-- order of the values, and what a list of patterns says of the list of its values.
use Rattle.theory.proofs.Prelude.{ℕ, ◌≤◌, ◌<◌, ◌+◌, ◌-◌, ◌^◌, ◌%◌, take, drop, true, false, Bool, not, List, map, ◌∙◌, ap, ◌≡◌, sym, refl, ap₂, dec_le, arith, eqb, ltb, pos, nat_abs, length, get_or, length-map, lt_z, ne_eqb, eq-eqb, le-ltb, lt-ltb, not-true, not-false}
use lib.ListN.{get_or-map, length-take}
use lib.Seq.{get_or-take, get_or-drop}
use Rattle.theory.specs.Lists.{none}
use Rattle.theory.specs.Tests.{◌and◌}
use Rattle.theory.proofs.Integers.{size_signed}
use Rattle.theory.proofs.Order as order
use Rattle.theory.proofs.Lists.{none_at}
use Rattle.theory.proofs.Tests.{and_made}
use Rattle.format.specs.Published.{binary32}
use Rattle.number.specs.Numbers.{value}
use Rattle.binary32.specs.Patterns.{sign_of, finite, not_finite, magnitude_read, pattern_value, pattern_values, number_read, key_of}
use Rattle.binary32.proofs.PatternOrder.{values_order}
use Rattle.binary32.proofs.RoundTrips.{read_made, read_value}

-- the number that is read has the value
pub read_is_value : (n : ℕ) → finite n ≡ true → value binary32 (number_read n) ≡ pattern_value n
unfolding pattern_value magnitude_read
read_is_value n h = read_value n (read_made n h)

pub value_size : (n : ℕ) → nat_abs (pattern_value n) ≡ magnitude_read n
unfolding pattern_value magnitude_read
value_size n = size_signed (sign_of n) (magnitude_read n)

-- ---- finite or not
pub finite_made : (n : ℕ) → not_finite n ≡ false → finite n ≡ true
unfolding not_finite
finite_made n h = not-false (finite n) h

pub finite_fails : (n : ℕ) → not_finite n ≡ true → finite n ≡ false
unfolding not_finite
finite_fails n h = not-true (finite n) h

-- no pattern of the list fails to be finite
pub all_finite : (l : List ℕ) → none not_finite l ≡ true → (k : ℕ) → k < length l → finite (get_or l k 0) ≡ true
all_finite l h k m = finite_made (get_or l k 0) (none_at not_finite 0 l h k m)

-- ---- keys
-- the order of the keys is that of the values
pub key_order : (a b : ℕ) {x y : ℕ} → x ≡ key_of a → y ≡ key_of b → ltb x y ≡ lt_z (pattern_value a) (pattern_value b)
key_order a b e f =
    ap₂ ltb e f ∙ order.key_order (2 ^ 31) (sign_of a) (sign_of b) (low a) (low b) ∙ sym (values_order a b)
  where
    low : (n : ℕ) → n % 2 ^ 31 ≤ 2 ^ 31
    low n = omega arith

-- equal keys are those of equal values
pub key_equal : (a b : ℕ) {x y : ℕ} → x ≡ key_of a → y ≡ key_of b
    → eqb x y ≡ not (lt_z (pattern_value a) (pattern_value b)) and not (lt_z (pattern_value b) (pattern_value a))
unfolding ◌and◌
key_equal a b {x} {y} e f = by (dec_le x y) (dec_le y x) ∙ ap₂ (λ (s t : Bool). not s and not t) (key_order a b e f) (key_order b a f e)
  where
    by : Dec (x ≤ y) → Dec (y ≤ x) → eqb x y ≡ not (ltb x y) and not (ltb y x)
    by (yes h) (yes g) = eq-eqb x y (omega arith) ∙ sym (and_made (ap not (le-ltb x y g)) (ap not (le-ltb y x h)))
    by (yes h) (no g) = ne_eqb x y (λ e. omega arith) ∙ sym (rw (lt-ltb x y (omega arith), ◌and◌))
    by (no h) g = ne_eqb x y (λ e. omega arith) ∙ sym (rw (le-ltb x y (omega arith), lt-ltb y x (omega arith), ◌and◌))

-- ---- lists
-- an entry of `l[1..]` in the whole list
pub later_entry : (l : List ℕ) (i : ℕ) → i < length (take (length l - 1) (drop 1 l)) → (i + 1 < length l) × (get_or (take (length l - 1) (drop 1 l)) i 0 ≡ get_or l (i + 1) 0)
later_entry l i h =
    let most : i < length l - 1 = omega (arith, length-take (length l - 1) (drop 1 l)) in
    let next : 1 + i ≡ i + 1 = omega arith in
    (omega arith, get_or-take (length l - 1) (drop 1 l) i 0 most ∙ get_or-drop 1 l i 0 ∙ ap (λ (k : ℕ). get_or l k 0) next)

pub zero_value : pattern_value 0 ≡ pos 0
unfolding pattern_value magnitude_read
zero_value = refl

module _ (l : List ℕ) where
  pub value_at : (k : ℕ) → get_or (pattern_values l) k (pos 0) ≡ pattern_value (get_or l k 0)
  value_at k = ap (get_or (map pattern_value l) k) (sym zero_value) ∙ get_or-map pattern_value l k 0

  pub values_length : length (pattern_values l) ≡ length l
  values_length = length-map l pattern_value
