-- `number::order::compare_values` meets its contract.
use Rattle.theory.proofs.Prelude.{◌≤◌, ◌+◌, true, false, Bool, ◌&&◌, ⊎_elim, inl, inr, ◌⊎◌, ◌∙◌, ◌≡◌, sym, refl, arith, eqb, eqb-true, eqb-false}
use Rattle.theory.proofs.Tests.{never}
use Rattle.theory.specs.Signed.{signed}
use Rattle.number.proofs.Prelude.{Format, admits, magnitude, value}
use Rattle.number.specs.declared.Number.{Number}
use Rattle.number.specs.Order.{order_z}
use Rattle.number.proofs.Comparison.{both_negative, both_positive, negative_less, positive_greater, both_zero, no_size, some_size}
use Rattle.number.proofs.order.compare_values.Goals as goal

-- the values by their signs
by_signs : (f : Format) (a b : Number) {s t : Bool} → a.negative ≡ s → b.negative ≡ t
    → order_z (signed s (magnitude f a)) (signed t (magnitude f b)) ≡ order_z (value f a) (value f b)
unfolding value
by_signs f a b h k = rw (h, k)

-- both are zero, or not both
both_true : (s t : Bool) → s && t ≡ true → (s ≡ true) × (t ≡ true)
both_true true t h = (refl, h)
both_true false t h = absurd (never (sym h))

not_both : (s t : Bool) → s && t ≡ false → (s ≡ false) ⊎ (t ≡ false)
not_both true t h = inr h
not_both false t h = inl refl

pub returns-then-zeros : goal.returns-then-zeros
unfolding value
returns-then-zeros c =
    let s = c.args in
    let z = both_true (eqb s.a.significand 0) (eqb s.b.significand 0) c.if-zeros.true in
    both_zero s.a.negative s.b.negative _ _ (no_size s.format s.a (eqb-true _ _ z.0)) (no_size s.format s.b (eqb-true _ _ z.1))

pub returns-then-b : goal.returns-then-b
returns-then-b c =
    let s = c.args in
    c.compare_magnitudes.ensures ∙ both_negative _ _ ∙ by_signs s.format s.a s.b c.if-a.true c.if-b.true

pub returns-then-a : goal.returns-then-a
returns-then-a c =
    let some : let s = c.args in 1 ≤ magnitude s.format s.a + magnitude s.format s.b = let ok = admits _ c.requires.0 in
    ⊎_elim (λ h. omega (arith, some_size ok c.args.a (eqb-false _ _ h))) (λ h. omega (arith, some_size ok c.args.b (eqb-false _ _ h)))
    (not_both (eqb c.args.a.significand 0) (eqb c.args.b.significand 0) c.if-zeros.false) in
    let s = c.args in
    negative_less _ _ some ∙ by_signs s.format s.a s.b c.if-a.true c.if-b.false

pub returns-then-b-2 : goal.returns-then-b-2
returns-then-b-2 c =
    let some : let s = c.args in 1 ≤ magnitude s.format s.a + magnitude s.format s.b = let ok = admits _ c.requires.0 in
    ⊎_elim (λ h. omega (arith, some_size ok c.args.a (eqb-false _ _ h))) (λ h. omega (arith, some_size ok c.args.b (eqb-false _ _ h)))
    (not_both (eqb c.args.a.significand 0) (eqb c.args.b.significand 0) c.if-zeros.false) in
    let s = c.args in
    positive_greater _ _ some ∙ by_signs s.format s.a s.b c.if-a.false c.if-b-2.true

pub returns : goal.returns
returns c =
    let s = c.args in
    c.compare_magnitudes-2.ensures ∙ both_positive _ _ ∙ by_signs s.format s.a s.b c.if-a.false c.if-b-2.false
