-- The signs of results, zeros among them (IEEE 754, clause 6.3): a product or quotient has the signs' exclusive or; a sum has the sign
-- of the exact sum, where that is zero plus, in direction 4 minus, unless both summands have one sign; a fraction has that of its
-- numerator, and a converted number its own.
use Rattle.theory.proofs.Prelude.{ℕ, true, false, Bool, not, xor, cond, [], ◌∷◌, ◌∙◌, ap, ◌≡◌, sym, refl, leb, arith, ℤ, pos, ◌+ℤ◌, ◌-ℤ◌, neg_ℤ}
use Rattle.arithmetic.proofs.Prelude.{Direction, unless, signed, is_negative, Format, Given, gives, refused, direction, positional, gives_same, gives_not_refused, Number, magnitude, value, greatest, number, delivered, Checks, checks_end, not_admitted, no_direction, not_member, all_passed, rounded, rounded_z, rounded_product, rounded_quotient, rounded_fraction, checked, Rounded}
use lib.Dec.{eqb}
use Rattle.theory.specs.Signed.{sign_or}
use Rattle.theory.proofs.Wide.{wide_zero}
use Rattle.theory.proofs.Integers.{times_one, no_sign, parts_eq, sum_parts, neg_above, neg_below}
use Rattle.number.proofs.Values.{number_member, number_value}
use Rattle.arithmetic.specs.Operations.{is_downward, zero_sign, rounded_record}
use Rattle.arithmetic.specs.Marked.{without_mark, marked, sum_answer, difference_answer, product_answer, fraction_answer, conversion_answer}
use Rattle.arithmetic.specs.Quotients.{without_digits, quotient_answer}
use Rattle.arithmetic.proofs.Prepared.{no_significand_law, marked_number}
use Rattle.arithmetic.proofs.Outcome.{rounded_z_exact}
use Rattle.arithmetic.proofs.Calls.{Checked, call, call_given, call_passed, quotient_call}
use Rattle.arithmetic.proofs.Algebra.{exactly, exactly_marked, sum_zero}

-- ---- the sign of a number that is given
delivered_sign : (f : Format) (s : Bool) (n : ℕ) {x : Number} → delivered f s n ≡ gives x → x.negative ≡ s
unfolding delivered unless number
delivered_sign f s n {x} = by (leb n (greatest f))
  where
    by : (t : Bool) → unless t (refused 5) (gives (number f s n)) ≡ gives x → x.negative ≡ s
    by true e = ap (λ (y : Number). y.negative) (sym (gives_same e))
    by false e = absurd (gives_not_refused (sym e))

-- what comes after a refusal by 4
otherwise : (t : Bool) {g : Given Number} {x : Number} → cond t (refused 4) g ≡ gives x → g ≡ gives x
otherwise true e = absurd (gives_not_refused (sym e))
otherwise false e = e

-- what is given with a mark is given without it
unmarked : (f : Format) (N : ℤ) (D : ℕ) {g : Given Number} {r : Rounded} → marked f N D g ≡ gives r → g ≡ gives r.number
unmarked f N D e = sym (marked_number f N D _) ∙ ap without_mark e

module _ (f : Format) (d : ℕ) (a b : Number) {r : Rounded} where
  pub sum_sign : sum_answer f d a b ≡ gives r → r.number.negative ≡ sign_or (zero_sign (direction d) a.negative b.negative) (value f a +ℤ value f b)
  unfolding sum_answer rounded_z rounded
  sum_sign e = delivered_sign f _ _ (unmarked f _ _ (call_given (call f d a b _) e).1)

  pub difference_sign : difference_answer f d a b ≡ gives r
      → r.number.negative ≡ sign_or (zero_sign (direction d) a.negative (not b.negative)) (value f a -ℤ value f b)
  unfolding difference_answer rounded_z rounded
  difference_sign e = delivered_sign f _ _ (unmarked f _ _ (call_given (call f d a b _) e).1)

  pub product_sign : product_answer f d a b ≡ gives r → r.number.negative ≡ xor a.negative b.negative
  unfolding product_answer rounded_product rounded
  product_sign e = delivered_sign f _ _ (unmarked f _ _ (call_given (call f d a b _) e).1)

  pub quotient_sign : without_digits (quotient_answer f d a b) ≡ gives r → r.number.negative ≡ xor a.negative b.negative
  unfolding rounded_quotient rounded
  quotient_sign e =
      delivered_sign f _ _ (otherwise (eqb (magnitude f b) 0) (unmarked f _ _ (call_given (call f d a b _) (sym (quotient_call f d a b) ∙ e)).1))

-- of a call that takes no number of the format
module _ (f : Format) (d : ℕ) {r : Rounded} where
  after_checks : (N : ℤ) (D : ℕ) (g : Given Number) → checked f (d ∷ []) [] (marked f N D g) ≡ gives r → g ≡ gives r.number
  after_checks N D g e = by (checks_end f (d ∷ []) [] (marked f N D g)) e
    where
      by : {h : Given Rounded} → Checks f (d ∷ []) [] (marked f N D g) h → h ≡ gives r → g ≡ gives r.number
      by (not_admitted h) k = absurd (gives_not_refused (sym k))
      by (no_direction h i) k = absurd (gives_not_refused (sym k))
      by (not_member h i l) k = absurd (gives_not_refused (sym k))
      by (all_passed h i l) k = unmarked f N D k

  -- so 0 over m is plus zero, and a negative fraction that rounds to zero is minus zero
  pub fraction_sign : (n : ℤ) (m : ℕ) → fraction_answer f d n m ≡ gives r → r.number.negative ≡ is_negative n
  unfolding fraction_answer rounded_fraction rounded
  fraction_sign n m e = delivered_sign f _ _ (otherwise (eqb m 0) (after_checks _ _ _ e))

  -- so what rounds to zero is the zero with the sign that was handed over
  pub conversion_sign : (x : Number) → conversion_answer f d x ≡ gives r → r.number.negative ≡ x.negative
  unfolding conversion_answer rounded_record rounded
  conversion_sign x e = delivered_sign f _ _ (after_checks _ _ _ e)

-- ---- exact zero sums
opposite : (s : Bool) (n : ℕ) → signed (not s) n +ℤ signed s n ≡ pos 0
opposite true n = parts_eq (pos n +ℤ neg_ℤ (pos n)) (pos 0) (omega (arith, sum_parts (pos n) (neg_ℤ (pos n)), neg_above (pos n), neg_below (pos n)))
opposite false n = parts_eq (neg_ℤ (pos n) +ℤ pos n) (pos 0) (omega (arith, sum_parts (neg_ℤ (pos n)) (pos n), neg_above (pos n), neg_below (pos n)))

opposite_signs : (d : Direction) (s t : Bool) → s ≡ not t → zero_sign d s t ≡ is_downward d
opposite_signs d s true e = rw e
opposite_signs d s false e = rw e

one_sign : (d : Direction) (s t : Bool) → s ≡ t → zero_sign d s t ≡ s
one_sign d s true e = rw e
one_sign d s false e = rw e

module _ {f : Format} {d : ℕ} {a b : Number} (c : Checked f d a b) where
  -- opposite equal numbers, +0 and -0 among them: plus zero, in direction 4 minus zero
  pub opposite_sum : magnitude f a ≡ magnitude f b → a.negative ≡ not b.negative → sum_answer f d a b ≡ gives (exactly (number f (is_downward (direction d)) 0))
  unfolding sum_answer value number
  opposite_sum e s =
      let ok = c.admits in
      let w = wide_zero (positional ok) in
      let same : value f a +ℤ value f b ≡ pos 0 = rw (e, s) (opposite b.negative (magnitude f b)) in
      let none : value f (number f (is_downward (direction d)) 0) ≡ pos 0 = number_value ok w (is_downward (direction d)) ∙ no_sign (is_downward (direction d)) false in
      call_passed f d a b c _
      ∙ exactly_marked f (number f (is_downward (direction d)) 0) (value f a +ℤ value f b) 1 (times_one _ ∙ none ∙ sym same)
      (rw (opposite_signs (direction d) a.negative b.negative s)
      (rounded_z_exact ok (direction d) (number_member ok w (is_downward (direction d)) (omega arith)) _ (value f a +ℤ value f b) (same ∙ sym none) (λ _. refl)))

  -- two zeros of one sign keep it
  pub zeros_sum : magnitude f a ≡ 0 → magnitude f b ≡ 0 → a.negative ≡ b.negative → sum_answer f d a b ≡ gives (exactly a)
  zeros_sum z w s = sum_zero c (no_significand_law c.admits b w) (λ _. one_sign (direction d) a.negative b.negative s)
