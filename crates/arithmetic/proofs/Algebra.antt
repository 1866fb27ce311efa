-- Sum and product commute, the difference is the sum with the second number negated, and x + 0, x × 1 and x ÷ 1 are x.
use Rattle.theory.proofs.Prelude.{ℕ, ◌≤◌, ◌+◌, ◌*◌, ◌^◌, suc, zero, true, false, Bool, not, xor, [], ◌∷◌, List, ◌∙◌, ap, ◌≡◌, sym, refl, ap₂, pow-zero, mul_comm, arith, ℤ, pos, ◌+ℤ◌, nat_abs, ◌-ℤ◌, ◌*ℤ◌, neg_ℤ, +ℤ_comm}
use Rattle.arithmetic.proofs.Prelude.{Direction, all, ◌and◌, signed, pow_pos, Format, highest_place, Given, gives, direction, gives_same, gives_not_refused, Number, above_zero, below_zero, member, magnitude, value, number, members, member_made, checks_end, rounded, rounded_sum, rounded_z, rounded_product, Rounded, and_left, scale_signed, Admitted, admits, distances, checked, Checks, not_admitted, no_direction, not_member, all_passed, signed_member, negated_value}
use Rattle.theory.proofs.Integers.{size_parts, size_signed, plus_sign, times_one}
use Rattle.number.specs.Signs.{negated}
use Rattle.theory.specs.declared.Mark.{Mark}
use Rattle.theory.specs.declared.Mark.TheVariants.{Exact}
use Rattle.theory.proofs.Marks.{mark_equal}
use Rattle.arithmetic.specs.Operations.{zero_sign}
use Rattle.arithmetic.specs.Marked.{marked, sum_answer, difference_answer, product_answer}
use Rattle.arithmetic.specs.Quotients.{without_digits, quotient_answer}
use Rattle.wide.proofs.Signs.{sum_none}
use Rattle.arithmetic.proofs.Prepared.{product_signed, no_magnitude, parts_above, parts_below, divisor_positive, divisor_some}
use Rattle.arithmetic.proofs.Pairs.{zero_swap}
use Rattle.arithmetic.proofs.Outcome.{rounded_exact, rounded_z_exact}
use Rattle.arithmetic.proofs.Calls.{Checked, call_passed, quotient_call}

-- the checks depend on what the numbers' tests say together
checked_same : {A : Type 0} (f : Format) (d : ℕ) (xs ys : List Number) → all (member f) xs ≡ all (member f) ys → {g h : Given A} → g ≡ h → checked f (d ∷ []) xs g ≡ checked f (d ∷ []) ys h
unfolding checked
checked_same f d xs ys e k = rw (e, k)

-- ---- sum and product commute, refused or not
and_swap : (s t : Bool) → s and t and true ≡ t and s and true
unfolding ◌and◌
and_swap true true = refl
and_swap true false = refl
and_swap false true = refl
and_swap false false = refl

pub xor_swap : (s t : Bool) → xor s t ≡ xor t s
unfolding xor
xor_swap true true = refl
xor_swap true false = refl
xor_swap false true = refl
xor_swap false false = refl

pub sum_swap : (f : Format) (d : Direction) (a b : Number) → rounded_sum f d a b ≡ rounded_sum f d b a
sum_swap f d a b = ap₂ (rounded_z f d) (zero_swap d a.negative b.negative) (+ℤ_comm (value f a) (value f b))

module _ (f : Format) (d : ℕ) (a b : Number) where
  checked_swap : {A : Type 0} {g h : Given A} → g ≡ h → checked f (d ∷ []) (a ∷ b ∷ []) g ≡ checked f (d ∷ []) (b ∷ a ∷ []) h
  unfolding all
  checked_swap = checked_same f d (a ∷ b ∷ []) (b ∷ a ∷ []) (and_swap (member f a) (member f b))

  pub sum_commutes : sum_answer f d a b ≡ sum_answer f d b a
  unfolding sum_answer
  sum_commutes = checked_swap (ap₂ (λ (z : ℤ) (g : Given Number). marked f z 1 g) (+ℤ_comm (value f a) (value f b)) (sum_swap f (direction d) a b))

  product_swap : signed (xor a.negative b.negative) (magnitude f a * magnitude f b * f.base ^ above_zero f.emin)
      ≡ signed (xor b.negative a.negative) (magnitude f b * magnitude f a * f.base ^ above_zero f.emin)
  product_swap = rw (xor_swap a.negative b.negative, mul_comm (magnitude f a) (magnitude f b))

  pub product_commutes : product_answer f d a b ≡ product_answer f d b a
  unfolding product_answer rounded_product
  product_commutes =
      checked_swap
      (ap₂ (λ (z : ℤ) (g : Given Number). marked f z (f.base ^ below_zero f.emin) g) (sym (product_signed f a b) ∙ product_swap ∙ product_signed f b a)
      (rw (xor_swap a.negative b.negative, mul_comm (magnitude f a) (magnitude f b))))

  -- ---- the difference is the sum with the second number negated
  pub difference_negated : {c : Number} → negated f b ≡ gives c → difference_answer f d a b ≡ sum_answer f d a c
  unfolding difference_answer sum_answer all number
  difference_negated {c} h = go (checks_end f [] (b ∷ []) (gives (number f (not b.negative) (magnitude f b)))) h
    where
      go : {g : Given Number} → Checks f [] (b ∷ []) (gives (number f (not b.negative) (magnitude f b))) g → g ≡ gives c → difference_answer f d a b ≡ sum_answer f d a c
      go (not_admitted n) e = absurd (gives_not_refused (sym e))
      go (no_direction n m) e = absurd (gives_not_refused (sym e))
      go (not_member n m l) e = absurd (gives_not_refused (sym e))
      go (all_passed n m l) e =
          let ok = admits f n in
          let in_b : member f b ≡ true = and_left _ _ l in
          let i = members b ok in_b in
          let same : number f (not b.negative) (magnitude f b) ≡ c = gives_same e in
          let in_format : member f c ≡ true = rw (← same) (member_made _ ok (signed_member ok i (not b.negative))) in
          let turned_sign : c.negative ≡ not b.negative = ap (λ (n : Number). n.negative) (sym same) in
          let turned_value : value f c ≡ neg_ℤ (value f b) = rw (← same) (negated_value ok i) in
          checked_same f d (a ∷ b ∷ []) (a ∷ c ∷ []) (rw (in_b, in_format))
          (ap₂ (λ (s : Bool) (z : ℤ). marked f (value f a +ℤ z) 1 (rounded_z f (direction d) (zero_sign (direction d) a.negative s) (value f a +ℤ z)))
          (sym turned_sign) (sym turned_value))

-- ---- zero and one
-- u is 1, which is β ^ -Emin units: no format with Emin above 0 has it
pub record One (f : Format) (u : Number) : Type 0 where
  pub low : above_zero f.emin ≡ 0
  pub value : value f u ≡ pos (f.base ^ below_zero f.emin)

pub xor_plus : (s t : Bool) → t ≡ false → xor s t ≡ s
unfolding xor
xor_plus true t e = rw e
xor_plus false t e = rw e

module _ {f : Format} (ok : Admitted f) {u : Number} (o : One f u) where
  one_size : magnitude f u ≡ f.base ^ below_zero f.emin
  unfolding value
  one_size = sym (size_signed u.negative (magnitude f u)) ∙ ap nat_abs o.value

  one_plus : u.negative ≡ false
  unfolding value
  one_plus = plus_sign u.negative (magnitude f u) (f.base ^ below_zero f.emin) o.value (pow_pos ok.base_low (below_zero f.emin))

  one_unit : f.base ^ above_zero f.emin ≡ 1
  one_unit = rw o.low (pow-zero f.base)

  one_some : 1 ≤ u.significand
  one_some = by u.significand refl
    where
      by : (m : ℕ) → u.significand ≡ m → 1 ≤ m
      by zero e = absurd (omega (arith, one_size, no_magnitude f u e, pow_pos ok.base_low (below_zero f.emin)))
      by (suc m) e = omega arith

-- x itself, exact
abbrev pub exactly : Number → Rounded
exactly x = record { number = x; mark = Exact }

pub exactly_marked : (f : Format) (x : Number) (N : ℤ) (D : ℕ) → value f x *ℤ pos D ≡ N → {g : Given Number} → g ≡ gives x → marked f N D g ≡ gives (exactly x)
unfolding marked
exactly_marked f x N D e h = rw h (ap (λ (t : Mark). gives (record { number = x; mark = t })) (mark_equal (value f x) N D e))

module _ {f : Format} {d : ℕ} {x u : Number} (c : Checked f d x u) where
  -- but for a zero of another sign
  pub sum_zero : u.significand ≡ 0 → (magnitude f x ≡ 0 → zero_sign (direction d) x.negative u.negative ≡ x.negative) → sum_answer f d x u ≡ gives (exactly x)
  unfolding sum_answer value
  sum_zero z n =
      let same : value f x +ℤ value f u ≡ value f x =
      rw (no_magnitude f u z) (sum_none x.negative u.negative (magnitude f x)) in
      call_passed f d x u c _
      ∙ exactly_marked f x (value f x +ℤ value f u) 1 (times_one (value f x) ∙ sym same)
      (rounded_z_exact c.admits (direction d) c.first _ (value f x +ℤ value f u) same n)

  -- the exact result has the sign and the magnitude of x
  module _ (o : One f u) where
    same : xor x.negative u.negative ≡ x.negative
    same = xor_plus x.negative u.negative (one_plus c.admits o)

    own : signed (xor x.negative u.negative) (magnitude f x) ≡ value f x
    unfolding value
    own = rw same

    -- N / D units that are ± |x| × D / D
    itself : (n : ℕ) {D : ℕ} → 1 ≤ D → n ≡ magnitude f x * D
        → marked f (signed (xor x.negative u.negative) n) D (rounded f (direction d) (xor x.negative u.negative) n D) ≡ gives (exactly x)
    itself n {D} h e =
        exactly_marked f x _ D (ap (λ (z : ℤ). z *ℤ pos D) (sym own) ∙ scale_signed (xor x.negative u.negative) (magnitude f x) D ∙ ap (signed (xor x.negative u.negative)) (sym e))
        (rounded_exact c.admits (direction d) c.first _ _ h e own (λ _. same))

    pub product_one : product_answer f d x u ≡ gives (exactly x)
    unfolding product_answer rounded_product
    product_one =
        call_passed f d x u c _
        ∙ ap (λ (z : ℤ). marked f z (f.base ^ below_zero f.emin) (rounded_product f (direction d) x u)) (sym (product_signed f x u))
        ∙ itself _ (pow_pos c.admits.base_low (below_zero f.emin)) (rw (one_unit c.admits o, one_size c.admits o) (omega arith))

    pub quotient_one : without_digits (quotient_answer f d x u) ≡ gives (exactly x)
    quotient_one =
        let some = one_some c.admits o in
        quotient_call f d x u ∙ call_passed f d x u c _
        ∙ ap (marked f _ _) (divisor_some c.admits (direction d) x u some)
        ∙ itself _ (divisor_positive c.admits u some) (rw (one_unit c.admits o, one_size c.admits o) (omega arith))

module _ {f : Format} (ok : Admitted f) where
  -- Emax - Emin, for Emin at most 0
  pub reach : above_zero f.emin ≡ 0 → highest_place f + below_zero f.emax ≡ above_zero f.emax + below_zero f.emin
  reach low =
      let d = distances ok.range in
      omega (arith, size_parts (f.emax -ℤ f.emin), parts_above f.emin, parts_below f.emin, parts_above f.emax, parts_below f.emax)
