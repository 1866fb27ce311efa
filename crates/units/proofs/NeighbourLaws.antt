-- The predecessor is the greatest number of the format below x, the successor the least above; refusal 5 exactly where there is
-- none. They undo each other, and the one is minus the other of minus x.
use Rattle.theory.proofs.Prelude.{ℕ, ◌≤◌, ◌<◌, ◌+◌, suc, zero, true, false, Bool, not, ⊎_elim, inl, inr, ◌⊎◌, ◌∙◌, ap, ◌≡◌, sym, refl, subst, le_of_suc-le-suc, lt_of_not-le, arith, leb, ℤ, pos, negsuc, nat_abs, ◌<ℤ◌, ◌≤ℤ◌, leb-true, leb-false}
use Rattle.theory.proofs.Words.{Wide, WideZ, predecessor, successor}
use Rattle.theory.specs.Signed.{sign_or}
use Rattle.theory.specs.Faithful.{GreatestBelow, LeastAbove}
use Rattle.theory.proofs.Wide.{wide_zero}
use Rattle.theory.proofs.Tests.{unless_passed, unless_failed}
use Rattle.theory.proofs.Integers.{above, below, size_parts, lt_parts, parts_lt, le_parts, parts_le, parts_eq, size_signed, no_sign, plus_sign, minus_sign, either_sign, neg_above, neg_below}
use Rattle.theory.proofs.Faithful.{predecessor_below, successor_above}
use Rattle.number.proofs.Prelude.{Format, Given, gives, refused, apart, Admitted, positional, magnitude, value, greatest, number, delivered, Member, members, member_made, one_checked}
use Rattle.number.specs.declared.Number.{Number}
use Rattle.number.proofs.Values as values
use Rattle.number.proofs.Negation.{signed_member, negated_value}
use Rattle.units.specs.Neighbours.{delivered_z, predecessor_of, successor_of, GreatestNumberBelow, LeastNumberAbove}

zero_sign_law : (none : Bool) (v : ℤ) → nat_abs v ≡ 0 → sign_or none v ≡ none
zero_sign_law none (pos zero) e = refl
zero_sign_law none (pos (suc n)) e = absurd (omega arith)
zero_sign_law none (negsuc n) e = absurd (omega arith)

pub less : {v w : ℤ} → v <ℤ w → v ≤ℤ w
less l = parts_le _ _ (omega (arith, lt_parts l))

pub not_less : {v w : ℤ} → (v <ℤ w → ⊥) → w ≤ℤ v
not_less {v} {w} h = parts_le w v (le_of_suc-le-suc (lt_of_not-le (λ (l : suc (above v + below w) ≤ above w + below v). h (parts_lt v w l))))

module _ {f : Format} (a : Admitted f) where
  -- ---- a value of the wide format, delivered
  size_greatest : {x : Number} → Member f x → nat_abs (value f x) ≤ greatest f
  unfolding value
  size_greatest {x} i = subst (λ (n : ℕ). n ≤ greatest f) (sym (size_signed x.negative (magnitude f x))) (values.member_greatest a i)

  pub wide_value : {x : Number} → Member f x → WideZ f.base f.digits (value f x)
  unfolding value
  wide_value {x} i = subst (Wide f.base f.digits) (sym (size_signed x.negative (magnitude f x))) (values.member_wide a i)

  record Delivered (none : Bool) (v : ℤ) (y : Number) : Type 0 where
    is : delivered_z f none v ≡ gives y
    number : Member f y
    same : value f y ≡ v
    zero : magnitude f y ≡ 0 → y.negative ≡ none

  delivered_cases : (none : Bool) (v : ℤ) → WideZ f.base f.digits v → ((y : Number) × Delivered none v y) ⊎ ((delivered_z f none v ≡ refused 5) × (greatest f < nat_abs v))
  unfolding delivered number
  delivered_cases none v w = by (leb (nat_abs v) (greatest f)) refl
    where
      by : (t : Bool) → leb (nat_abs v) (greatest f) ≡ t → ((y : Number) × Delivered none v y) ⊎ ((delivered_z f none v ≡ refused 5) × (greatest f < nat_abs v))
      by true e =
          inl (
            number f (sign_or none v) (nat_abs v),
            record {
              is = unless_passed _ _ e;
              number = values.number_member a w (sign_or none v) (leb-true _ _ e);
              same = values.number_value a w (sign_or none v) ∙ either_sign none v;
              zero = λ z. zero_sign_law none v (sym (values.number_magnitude a w (sign_or none v)) ∙ z);
            },
          )
      by false e = inr (unless_failed _ _ e, leb-false _ _ e)

  -- ---- what a call answers by the value v that is sought
  answer_cases : {answer : Given Number} (none : Bool) (v : ℤ) (Sought : ℤ → Type 0) (None : Type 0) → answer ≡ delivered_z f none v → WideZ f.base f.digits v → Sought v → (greatest f < nat_abs v → None)
      → ((y : Number) × (answer ≡ gives y) × Member f y × Sought (value f y) × (magnitude f y ≡ 0 → y.negative ≡ none)) ⊎ ((answer ≡ refused 5) × None)
  answer_cases none v Sought None e w s n =
      ⊎_elim (λ g. inl (g.0, e ∙ g.1.is, g.1.number, subst Sought (sym g.1.same) s, g.1.zero)) (λ r. inr (e ∙ r.0, n r.1)) (delivered_cases none v w)

  -- a value between two numbers of the format
  pub between : {y z : Number} (v : ℤ) → Member f y → Member f z → value f y ≤ℤ v → v ≤ℤ value f z → nat_abs v ≤ greatest f
  between {y} {z} v i j l m =
      omega (arith, le_parts l, le_parts m, size_parts v, size_parts (value f y), size_parts (value f z), size_greatest i, size_greatest j, apart v, apart (value f y), apart (value f z))

  -- ---- the call on a number of the format
  module _ {x : Number} (i : Member f x) where
    pub predecessor_cases : ((y : Number) × (predecessor_of f x ≡ gives y) × GreatestNumberBelow f x y × (magnitude f y ≡ 0 → y.negative ≡ x.negative))
        ⊎ ((predecessor_of f x ≡ refused 5) × ((z : Number) → Member f z → value f x ≤ℤ value f z))
    unfolding predecessor_of
    predecessor_cases =
        let v : ℤ = predecessor f.base f.digits (value f x) in
        let b = predecessor_below (positional a) (value f x) in
        ⊎_elim
        (λ g. inl (g.0, g.1, record { number = member_made g.0 a g.2; below = g.3.below; greatest = λ z j l. g.3.greatest (value f z) (wide_value (members z a j)) l }, g.4)) inr
        (answer_cases x.negative v (GreatestBelow f.base f.digits (value f x)) ((z : Number) → Member f z → value f x ≤ℤ value f z) (one_checked a i) b.number b
        (λ h z j. not_less (λ l. omega (arith, between v j i (b.greatest (value f z) (wide_value j) l) (less b.below)))))

    pub successor_cases : ((y : Number) × (successor_of f x ≡ gives y) × LeastNumberAbove f x y × (magnitude f y ≡ 0 → y.negative ≡ x.negative))
        ⊎ ((successor_of f x ≡ refused 5) × ((z : Number) → Member f z → value f z ≤ℤ value f x))
    unfolding successor_of
    successor_cases =
        let v : ℤ = successor f.base f.digits (value f x) in
        let b = successor_above (positional a) (value f x) in
        ⊎_elim
        (λ g. inl (g.0, g.1, record { number = member_made g.0 a g.2; above = g.3.above; least = λ z j l. g.3.least (value f z) (wide_value (members z a j)) l }, g.4)) inr
        (answer_cases x.negative v (LeastAbove f.base f.digits (value f x)) ((z : Number) → Member f z → value f z ≤ℤ value f x) (one_checked a i) b.number b
        (λ h z j. not_less (λ l. omega (arith, between v i j (less b.above) (b.least (value f z) (wide_value j) l)))))

  -- ---- there is one such number, with the sign of its neighbour if it is zero
  no_other : (y z : Number) → value f y ≡ value f z → magnitude f y ≡ 0 → magnitude f z ≡ 0
  unfolding value
  no_other y z e n = sym (size_signed z.negative (magnitude f z)) ∙ ap nat_abs (sym e) ∙ size_signed y.negative (magnitude f y) ∙ n

  below_unique : {x y z : Number} → GreatestNumberBelow f x y → GreatestNumberBelow f x z → (magnitude f y ≡ 0 → y.negative ≡ x.negative) → (magnitude f z ≡ 0 → z.negative ≡ x.negative)
      → y ≡ z
  below_unique {x} {y} {z} g h ny nz =
      values.member_unique a (members y a g.number) (members z a h.number)
      same (λ n. ny n ∙ sym (nz (no_other y z same n)))
    where
      same : value f y ≡ value f z
      same = parts_eq (value f y) (value f z) (omega (arith, le_parts (h.greatest y g.number g.below), le_parts (g.greatest z h.number h.below)))

  above_unique : {x y z : Number} → LeastNumberAbove f x y → LeastNumberAbove f x z → (magnitude f y ≡ 0 → y.negative ≡ x.negative) → (magnitude f z ≡ 0 → z.negative ≡ x.negative)
      → y ≡ z
  above_unique {x} {y} {z} g h ny nz =
      values.member_unique a (members y a g.number) (members z a h.number)
      same (λ n. ny n ∙ sym (nz (no_other y z same n)))
    where
      same : value f y ≡ value f z
      same = parts_eq (value f y) (value f z) (omega (arith, le_parts (h.least y g.number g.above), le_parts (g.least z h.number h.above)))

  -- the call answers the number that is the greatest below
  pub predecessor_is : {x y : Number} → Member f x → GreatestNumberBelow f x y → (magnitude f y ≡ 0 → y.negative ≡ x.negative) → predecessor_of f x ≡ gives y
  predecessor_is {x} {y} i g n =
      ⊎_elim (λ c. c.1 ∙ ap gives (below_unique c.2 g c.3 n))
      (λ c. absurd (omega (arith, lt_parts g.below, le_parts (c.1 y (members y a g.number)))))
      (predecessor_cases i)

  pub successor_is : {x y : Number} → Member f x → LeastNumberAbove f x y → (magnitude f y ≡ 0 → y.negative ≡ x.negative) → successor_of f x ≡ gives y
  successor_is {x} {y} i g n =
      ⊎_elim (λ c. c.1 ∙ ap gives (above_unique c.2 g c.3 n))
      (λ c. absurd (omega (arith, lt_parts g.above, le_parts (c.1 y (members y a g.number)))))
      (successor_cases i)

  -- ---- next to zero: it has the sign of its neighbour, and its own neighbours are those of its value
  zero_member : (s : Bool) → Member f (number f s 0)
  zero_member s = values.number_member a (wide_zero (positional a)) s (omega arith)

  zero_value : (s : Bool) → value f (number f s 0) ≡ pos 0
  zero_value s = values.number_value a (wide_zero (positional a)) s ∙ no_sign s false

  pub predecessor_of_least : {x : Number} → Member f x → value f x ≡ pos 1 → predecessor_of f x ≡ gives (number f false 0)
  unfolding value number
  predecessor_of_least {x} i e =
      let z = zero_value false in
      predecessor_is i
      (record {
        number = member_made _ a (zero_member false);
        below = parts_lt _ _ (omega (arith, ap above z, ap below z, ap above e, ap below e));
        greatest = λ w j l. parts_le _ _ (omega (arith, ap above z, ap below z, ap above e, ap below e, lt_parts l));
      })
      (λ _. sym (plus_sign x.negative (magnitude f x) 1 e (omega arith)))

  pub successor_of_least : {x : Number} → Member f x → value f x ≡ negsuc 0 → successor_of f x ≡ gives (number f true 0)
  unfolding value number
  successor_of_least {x} i e =
      let z = zero_value true in
      successor_is i
      (record {
        number = member_made _ a (zero_member true);
        above = parts_lt _ _ (omega (arith, ap above z, ap below z, ap above e, ap below e));
        least = λ w j l. parts_le _ _ (omega (arith, ap above z, ap below z, ap above e, ap below e, lt_parts l));
      })
      (λ _. sym (minus_sign x.negative (magnitude f x) 0 e))

  -- ---- they undo each other, but for a zero of the other sign
  pub predecessor_of_successor : {x y : Number} → Member f x → LeastNumberAbove f x y → (magnitude f x ≡ 0 → x.negative ≡ y.negative) → predecessor_of f y ≡ gives x
  predecessor_of_successor {x} {y} i g n =
      predecessor_is (members y a g.number)
      (record {
        number = member_made x a i;
        below = g.above;
        greatest = λ z j l. not_less (λ (h : value f x <ℤ value f z). omega (arith, le_parts (g.least z j h), lt_parts l));
      })
      n

  pub successor_of_predecessor : {x y : Number} → Member f x → GreatestNumberBelow f x y → (magnitude f x ≡ 0 → x.negative ≡ y.negative) → successor_of f y ≡ gives x
  successor_of_predecessor {x} {y} i g n =
      successor_is (members y a g.number)
      (record {
        number = member_made x a i;
        above = g.below;
        least = λ z j l. not_less (λ (h : value f z <ℤ value f x). omega (arith, le_parts (g.greatest z j h), lt_parts l));
      })
      n

  -- ---- the successor of minus x is minus the predecessor of x
  pub successor_of_negation : {x y : Number} (i : Member f x) (g : GreatestNumberBelow f x y) → (magnitude f y ≡ 0 → y.negative ≡ x.negative)
      → successor_of f (number f (not x.negative) (magnitude f x)) ≡ gives (number f (not y.negative) (magnitude f y))
  unfolding number
  successor_of_negation {x} {y} i g n =
      successor_is (signed_member a i (not x.negative))
      (record {
        number = member_made _ a (signed_member a own (not y.negative));
        above = parts_lt _ _ (omega (arith, lt_parts g.below, turned i, turned own));
        least = λ z m l.
            let j = members z a m in
            let k = member_made _ a (signed_member a j (not z.negative)) in
            parts_le _ _
            (omega
            (arith, turned i, turned own, turned j, le_parts (g.greatest (number f (not z.negative) (magnitude f z)) k (parts_lt _ _ (omega (arith, lt_parts l, turned i, turned j))))));
      })
      (λ z. signs (n (sym (values.number_magnitude a (values.member_wide a own) (not y.negative)) ∙ z)))
    where
      signs : y.negative ≡ x.negative → (number f (not y.negative) (magnitude f y)).negative ≡ (number f (not x.negative) (magnitude f x)).negative
      signs e = ap not e

      own : Member f y
      own = members y a g.number

      turned : {z : Number} → Member f z → let w = value f (number f (not z.negative) (magnitude f z)) in (above w ≡ below (value f z)) × (below w ≡ above (value f z))
      turned {z} j = (ap above (negated_value a j) ∙ neg_above (value f z), ap below (negated_value a j) ∙ neg_below (value f z))
