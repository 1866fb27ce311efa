-- The neighbours of a number by its sign: away from zero on one side, toward zero on the other.
use Rattle.theory.proofs.Prelude.{ℕ, ◌≤◌, ◌-◌, suc, zero, true, false, Bool, [], ◌∷◌, inl, inr, ◌⊎◌, ◌∙◌, ap, ◌≡◌, sym, ap₂, mul-pos, arith, ℤ, pos, negsuc, neg_ℤ}
use Rattle.theory.proofs.Words.{Positional, lower, upper, signed, predecessor, successor}
use Rattle.theory.proofs.Powers.{pow_pos}
use Rattle.theory.proofs.Neighbours.{le_upper}
use Rattle.theory.proofs.Integers.{size_signed, no_sign, sign_or_law}
use Rattle.theory.proofs.Faithful.{predecessor_pos, predecessor_neg, successor_pos, successor_neg}
use Rattle.std.specs.Prelude.{Ok}
use Rattle.number.specs.declared.Number.{Number}
use Rattle.number.proofs.Prelude.{Format, Prepared, Given, Admitted, positional, place_of, magnitude, value, delivered, entered, Member, members, known, passed, operand, answered}
use Rattle.number.proofs.Comparison.{no_size}
use Rattle.units.specs.Neighbours.{delivered_z, predecessor_of, successor_of}

-- a sign and a magnitude, or their value
pub delivered_signed : (f : Format) (none s : Bool) (n : ℕ) → (n ≡ 0 → s ≡ none) → delivered f s n ≡ delivered_z f none (signed s n)
delivered_signed f none s n h = sym (ap₂ (delivered f) (sign_or_law none s n h) (size_signed s n))

-- the next greater magnitude is not zero
some_upper : {β p : ℕ} → Positional β p → (n : ℕ) → 1 ≤ upper β p (suc n)
some_upper ok n = omega (arith, le_upper ok (suc n))

below_zero_law : (n : ℕ) → 1 ≤ n → neg_ℤ (pos n) ≡ negsuc (n - 1)
below_zero_law zero h = absurd (omega arith)
below_zero_law (suc n) h = ap negsuc (omega arith)

-- what the calls answer after the check, by what away and toward answer
module _ (f : Format) (x : Number) {q : Prepared} (h : entered f [] (x ∷ []) ≡ Ok q) where
  admits : Admitted q.format
  admits = (known (operand (passed f [] (x ∷ []) h)).usable).admits

  inner : Member q.format x
  inner = members x admits (operand (passed f [] (x ∷ []) h)).number

  -- zero and the numbers below it
  not_above : (x.negative ≡ true) ⊎ (x.significand ≡ 0) → value q.format x ≡ neg_ℤ (pos (magnitude q.format x))
  unfolding value magnitude
  not_above (inl e) = ap (λ (s : Bool). signed s (magnitude q.format x)) e
  not_above (inr e) =
      let none = no_size q.format x e in
      ap (signed x.negative) none ∙ no_sign x.negative true ∙ sym (ap (signed true) none)

  -- zero and the numbers above it
  not_below : (x.negative ≡ false) ⊎ (x.significand ≡ 0) → value q.format x ≡ pos (magnitude q.format x)
  unfolding value
  not_below (inl e) = ap (λ (s : Bool). signed s (magnitude q.format x)) e
  not_below (inr e) =
      let none = no_size q.format x e in
      ap (signed x.negative) none ∙ no_sign x.negative false ∙ sym (ap (signed false) none)

  some_size : 1 ≤ x.significand → 1 ≤ magnitude q.format x
  unfolding magnitude
  some_size k = mul-pos k (pow_pos admits.base_low (place_of q.format x))

  module _ {r : Given Number} where
    predecessor_is : {v w : ℤ} → value q.format x ≡ v → predecessor q.format.base q.format.digits v ≡ w → r ≡ delivered_z q.format x.negative w → r ≡ predecessor_of f x
    unfolding predecessor_of
    predecessor_is e k l =
        l ∙ ap (delivered_z q.format x.negative) (sym (ap (predecessor q.format.base q.format.digits) e ∙ k))
        ∙ answered f [] (x ∷ []) (λ (g : Format). delivered_z g x.negative (predecessor g.base g.digits (value g x))) h

    pub away_below : (x.negative ≡ true) ⊎ (x.significand ≡ 0)
        → r ≡ delivered q.format true (upper q.format.base q.format.digits (suc (magnitude q.format x))) → r ≡ predecessor_of f x
    away_below c e = predecessor_is (not_above c) (predecessor_neg (positional admits) _)
        (e ∙ delivered_signed q.format x.negative true _ (λ z. absurd (omega (arith, some_upper (positional admits) (magnitude q.format x)))))

    pub toward_below : x.negative ≡ false → 1 ≤ x.significand
        → r ≡ delivered q.format false (lower q.format.base q.format.digits (magnitude q.format x - 1)) → r ≡ predecessor_of f x
    toward_below n some e =
        predecessor_is (not_below (inl n) ∙ ap pos (omega (arith, some_size some))) (predecessor_pos (positional admits) (magnitude q.format x - 1))
        (e ∙ delivered_signed q.format x.negative false _ (λ z. sym n))

    successor_is : {v w : ℤ} → value q.format x ≡ v → successor q.format.base q.format.digits v ≡ w → r ≡ delivered_z q.format x.negative w → r ≡ successor_of f x
    unfolding successor_of
    successor_is e k l =
        l ∙ ap (delivered_z q.format x.negative) (sym (ap (successor q.format.base q.format.digits) e ∙ k))
        ∙ answered f [] (x ∷ []) (λ (g : Format). delivered_z g x.negative (successor g.base g.digits (value g x))) h

    pub away_above : (x.negative ≡ false) ⊎ (x.significand ≡ 0)
        → r ≡ delivered q.format false (upper q.format.base q.format.digits (suc (magnitude q.format x))) → r ≡ successor_of f x
    away_above n e =
        successor_is (not_below n) (successor_pos (positional admits) _)
        (e ∙ delivered_signed q.format x.negative false _ (λ z. absurd (omega (arith, some_upper (positional admits) (magnitude q.format x)))))

    pub toward_above : x.negative ≡ true → 1 ≤ x.significand
        → r ≡ delivered q.format true (lower q.format.base q.format.digits (magnitude q.format x - 1)) → r ≡ successor_of f x
    toward_above n some e =
        successor_is (not_above (inl n) ∙ below_zero_law _ (some_size some)) (successor_neg (positional admits) _)
        (e ∙ delivered_signed q.format x.negative true _ (λ z. sym n))
