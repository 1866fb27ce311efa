-- Refusals 6 and 7, which the sum and its check share, and the order of all refusals before them.
use Rattle.theory.proofs.Prelude.{ℕ, ◌≤◌, ◌<◌, true, false, Bool, ◌∷◌, List, inl, inr, ◌⊎◌, ◌∙◌, ap, ◌≡◌, sym, refl, eqb, leb, eq-eqb, le-leb, leb-true, lt-leb, leb-false, eqb-true, eqb-false}
use Rattle.theory.proofs.Words.{◌and◌, unless, all}
use Rattle.theory.proofs.Tests.{and_left, and_right, and_made, unless_passed, unless_failed}
use Rattle.number.proofs.Prelude.{Format, magnitude}
use Rattle.number.specs.declared.Number.{Number}
use Rattle.std.specs.Prelude.{Result}
use Rattle.format.specs.declared.Refusal.{Refusal}
use Rattle.format.specs.Given.{Given, gives, refused, ◌then◌, given}
use Rattle.number.specs.Checks.{checked, Checks}
use Rattle.number.specs.Checks as checks
use Rattle.number.proofs.CheckLaws.{checks_end}
use Rattle.fast_two_sum.specs.Triples.{Summands}
use Rattle.fast_two_sum.specs.Calls.{is_binary, order_checked}
use Rattle.fast_two_sum.specs.Outcomes.{Accepted, Refusals, not_admitted, no_direction, not_member, not_binary, smaller_first, none_of_these}

pub binary_made : (f : Format) → f.base ≡ 2 → 2 ≤ f.digits → is_binary f ≡ true
unfolding is_binary
binary_made f e h = and_made (eq-eqb _ _ e) (le-leb _ _ h)

pub is_binary_law : (f : Format) → is_binary f ≡ true → (f.base ≡ 2) × (2 ≤ f.digits)
unfolding is_binary
is_binary_law f h = (eqb-true _ _ (and_left _ _ h), leb-true _ _ (and_right _ _ h))

module _ (f : Format) (a b : Number) {A : Type 0} (g : Given A) where
  pub order_binary : is_binary f ≡ false → order_checked f a b g ≡ refused 6
  unfolding order_checked
  order_binary h = unless_failed _ _ h

  module _ (h : is_binary f ≡ true) where
    pub order_smaller : magnitude f a < magnitude f b → order_checked f a b g ≡ refused 7
    unfolding order_checked
    order_smaller l = unless_passed _ _ h ∙ unless_failed _ _ (lt-leb _ _ l)

    pub order_passed : magnitude f b ≤ magnitude f a → order_checked f a b g ≡ g
    unfolding order_checked
    order_passed l = unless_passed _ _ h ∙ unless_passed _ _ (le-leb _ _ l)

  -- a verdict is handed on: its refusal, or what comes after it
  pub order_answered : {v w : Result Unit Refusal} → given v ≡ order_checked f a b (gives tt) → v ≡ w → (given w then (λ (u : Unit). g)) ≡ order_checked f a b g
  unfolding order_checked unless
  order_answered k e =
      ap (λ (v : Result Unit Refusal). given v then (λ (u : Unit). g)) (sym e)
      ∙ ap (λ (h : Given Unit). h then (λ (u : Unit). g)) k
      ∙ on (is_binary f) (leb (magnitude f b) (magnitude f a))
    where
      on : (s t : Bool) → (unless {A = Given Unit} s (refused 6) (unless t (refused 7) (gives tt)) then (λ (u : Unit). g)) ≡ unless s (refused 6) (unless t (refused 7) g)
      on true true = refl
      on true false = refl
      on false t = refl

-- ---- the order of the refusals
-- base and digits, where the format is not binary
not_two : (f : Format) → is_binary f ≡ false → (¬ f.base ≡ 2) ⊎ (f.digits < 2)
unfolding is_binary ◌and◌
not_two f = by (eqb f.base 2) refl
  where
    by : (t : Bool) → eqb f.base 2 ≡ t → t and leb 2 f.digits ≡ false → (¬ f.base ≡ 2) ⊎ (f.digits < 2)
    by true e h = inr (leb-false _ _ h)
    by false e h = inl (eqb-false _ _ e)

module _ (f : Format) (directions : List ℕ) (a b : Number) (others : List Number) {A : Type 0} (g : Given A) {After : Given A → Type 0}
    (after : Accepted f directions (a ∷ b ∷ others) → Summands f a b → After g) where
  pub refusals : Refusals f directions a b others After (checked f directions (a ∷ b ∷ others) (order_checked f a b g))
  unfolding order_checked unless all
  refusals = by (checks_end f directions (a ∷ b ∷ others) (order_checked f a b g))
    where
      ordered : Accepted f directions (a ∷ b ∷ others) → Refusals f directions a b others After (order_checked f a b g)
      ordered k = on (is_binary f) refl (leb (magnitude f b) (magnitude f a)) refl
        where
          on : (s : Bool) → is_binary f ≡ s → (t : Bool) → leb (magnitude f b) (magnitude f a) ≡ t
              → Refusals f directions a b others After (unless s (refused 6) (unless t (refused 7) g))
          on true h true l =
              let s : Summands f a b =
              record {
                base = (is_binary_law f h).0;
                digits = (is_binary_law f h).1;
                a_number = and_left _ _ k.members;
                b_number = and_left _ _ (and_right _ _ k.members);
                order = leb-true _ _ l;
              }
              in
              none_of_these k s (after k s)
          on true h false l = smaller_first k (is_binary_law f h).0 (is_binary_law f h).1 (leb-false _ _ l)
          on false h t l = not_binary k (not_two f h)

      by : {r : Given A} → Checks f directions (a ∷ b ∷ others) (order_checked f a b g) r → Refusals f directions a b others After r
      by (checks.not_admitted h) = not_admitted h
      by (checks.no_direction h k) = no_direction h k
      by (checks.not_member h k l) = not_member h k l
      by (checks.all_passed h k l) = ordered (record { format = h; directed = k; members = l })
