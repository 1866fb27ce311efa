-- Demand 3 of our own sum and our own check: the sum hands out a triple, each step rounded in its own direction, unless a + b
-- rounded in the first direction is too large; then, and only then, it refuses. The check says yes exactly to a triple. And the order
-- of the refusals of both, for every input.
use Rattle.theory.proofs.Prelude.{ℕ, true, false, Bool, [], ◌∷◌, ◌∙◌, ap, ◌≡◌, sym, refl, subst, arith, ℤ, ◌+ℤ◌, nat_abs, ◌-ℤ◌}
use Rattle.theory.proofs.Words.{all, Positional, WideZ, round_z}
use Rattle.theory.specs.declared.Direction.{Direction}
use Rattle.theory.proofs.Tests.{never, and_left, and_right, and_made, unless_failed}
use Rattle.theory.proofs.Round.{Nearest}
use Rattle.theory.proofs.Faithful.{round_z_faithful}
use Rattle.theory.proofs.FastTwoSum.{WideTriple, rounded_triple, z_at_most, y_at_most, nearest_exact}
use Rattle.number.proofs.Prelude.{Format, Given, gives, refused, admitted, member, value, checked, members, member_greatest}
use Rattle.number.specs.declared.Number.{Number}
use Rattle.format.specs.Directions.{is_direction, direction}
use Rattle.format.proofs.Formats.{Admitted, admits, admitted_made, positional}
use Rattle.format.proofs.GivenLaws.{gives_same, gives_not_refused}
use Rattle.number.proofs.CheckLaws.{checked_passed, pair_made}
use Rattle.arithmetic.specs.Operations.{rounded_sum, rounded_difference}
use Rattle.arithmetic.specs.Outcomes.{RoundedNumber, Outcome, given, too_large as beyond}
use Rattle.arithmetic.proofs.Outcome.{rounded_z_outcome}
use Rattle.fast_two_sum.specs.declared.Steps.{Steps}
use Rattle.fast_two_sum.specs.Triples.{Summands, Triple, distance}
use Rattle.fast_two_sum.specs.Calls.{three_steps, fast_two_sum}
use Rattle.fast_two_sum.specs.Checks.{is_triple, checked_triple}
use Rattle.fast_two_sum.specs.Outcomes.{Refusals, not_admitted, no_direction, not_member, not_binary, smaller_first, none_of_these, RoundedSteps, SumOutcome, triple, too_large, CheckOutcome, says_yes, says_no}
use Rattle.fast_two_sum.proofs.Bounds.{none, value_size, value_wide}
use Rattle.fast_two_sum.proofs.Order.{binary_made, order_passed, refusals}
use Rattle.fast_two_sum.proofs.Chain.{first_ends, three_given}
use Rattle.fast_two_sum.proofs.Faithfulness.{test_triple, triple_test}

refused_same : {A : Type 0} {m n : ℕ} → ◌≡◌ {A = Given A} (refused m) (refused n) → m ≡ n
refused_same h = cc

-- three steps so rounded are a triple
pub rounded_is_triple : {f : Format} {d₁ d₂ d₃ : Direction} {a b : Number} {t : Steps} → Admitted f → RoundedSteps f d₁ d₂ d₃ a b t → Triple f a b t.x t.z t.y
rounded_is_triple {d₁ = d₁} {d₂ = d₂} {d₃ = d₃} ok r =
    record {
      x_number = r.x_is.member;
      z_number = r.z_is.member;
      y_number = r.y_is.member;
      x_step = rw r.x_is.value (round_z_faithful (positional ok) d₁ _);
      z_step = rw r.z_is.value (round_z_faithful (positional ok) d₂ _);
      y_step = rw r.y_is.value (round_z_faithful (positional ok) d₃ _);
    }

module _ {f : Format} (ok : Admitted f) {a b : Number} (s : Summands f a b) where
  binary : Positional 2 f.digits
  binary = record { base = omega arith; digits = ok.digits_low }

  wide : (x : Number) → member f x ≡ true → WideZ 2 f.digits (value f x)
  wide x h = subst (λ (β : ℕ). WideZ β f.digits (value f x)) s.base (value_wide f ok.base_low x h)

  in_base : (d : Direction) (v : ℤ) {w : ℤ} → w ≡ round_z f.base f.digits d v 1 → w ≡ round_z 2 f.digits d v 1
  in_base d v e = e ∙ ap (λ (β : ℕ). round_z β f.digits d v 1) s.base

  -- ---- the sum
  module _ (d₁ d₂ d₃ : Direction) where
    -- the theory's triple, on rounded values
    on_values : {vx vz vy : ℤ} → vx ≡ round_z f.base f.digits d₁ (value f a +ℤ value f b) 1 → vz ≡ round_z f.base f.digits d₂ (vx -ℤ value f a) 1
        → vy ≡ round_z f.base f.digits d₃ (value f b -ℤ vz) 1 → WideTriple f.digits (value f a) (value f b) vx vz vy
    on_values {vx} {vz} {vy} ex ez ey =
        rounded_triple binary d₁ d₂ d₃ (value f a) (value f b) (wide a s.a_number) (wide b s.b_number) (omega (arith, value_size f a, value_size f b, s.order))
        (in_base d₁ (value f a +ℤ value f b) ex)
        (in_base d₂ (vx -ℤ value f a) ez)
        (in_base d₃ (value f b -ℤ vz) ey)

    -- only the first step can refuse: the second result is not above a, the third not above x
    module _ {x : Number} (ex : rounded_sum f d₁ a b ≡ gives x) (rx : RoundedNumber f d₁ (value f a +ℤ value f b) 1 x) where
      third_given : {z : Number} → rounded_difference f d₂ x a ≡ gives z → RoundedNumber f d₂ (value f x -ℤ value f a) 1 z
          → (g : Given Number) → rounded_difference f d₃ b z ≡ g → Outcome f d₃ (value f b -ℤ value f z) 1 g → SumOutcome f d₁ d₂ d₃ a b (three_steps f d₁ d₂ d₃ a b)
      third_given {z} ez rz g ey (given {x = y} ry) =
          let r : RoundedSteps f d₁ d₂ d₃ a b (record { x = x; z = z; y = y }) = record { x_is = rx; z_is = rz; y_is = ry } in
          rw (three_given f d₁ d₂ d₃ a b ex ez ey) (triple (rounded_is_triple ok r) r ex)
      third_given ez rz g ey (beyond l) = absurd (omega (arith, l, rx.within, ap nat_abs rx.value, y_at_most binary (on_values rx.value rz.value refl)))

      second_given : (g : Given Number) → rounded_difference f d₂ x a ≡ g → Outcome f d₂ (value f x -ℤ value f a) 1 g → SumOutcome f d₁ d₂ d₃ a b (three_steps f d₁ d₂ d₃ a b)
      second_given g ez (given {x = z} rz) = third_given ez rz (rounded_difference f d₃ b z) refl (rounded_z_outcome ok d₃ _ (value f b -ℤ value f z))
      second_given g ez (beyond l) =
          absurd (omega (arith, l, z_at_most binary (on_values rx.value refl refl), value_size f a, member_greatest ok (members a ok s.a_number)))

    pub steps_outcome_law : SumOutcome f d₁ d₂ d₃ a b (three_steps f d₁ d₂ d₃ a b)
    steps_outcome_law = by (rounded_sum f d₁ a b) refl (rounded_z_outcome ok d₁ _ (value f a +ℤ value f b))
      where
        by : (g : Given Number) → rounded_sum f d₁ a b ≡ g → Outcome f d₁ (value f a +ℤ value f b) 1 g → SumOutcome f d₁ d₂ d₃ a b (three_steps f d₁ d₂ d₃ a b)
        by g ex (given {x} rx) = second_given ex rx (rounded_difference f d₂ x a) refl (rounded_z_outcome ok d₂ _ (value f x -ℤ value f a))
        by g ex (beyond l) = rw (first_ends f d₁ d₂ d₃ a b ex) (too_large l ex)

    -- with the first step to nearest nothing is off
    pub nearest_sum_exact : Nearest d₁ → {t : Steps} → RoundedSteps f d₁ d₂ d₃ a b t → distance f a b t.x t.y ≡ 0
    nearest_sum_exact near r =
        none _ _
        (nearest_exact binary (on_values r.x_is.value r.z_is.value r.y_is.value) near (in_base d₁ (value f a +ℤ value f b) r.x_is.value))

  module _ (d₁ d₂ d₃ : ℕ) (h : all is_direction (d₁ ∷ d₂ ∷ d₃ ∷ []) ≡ true) where
    -- the checks pass
    pub passes : fast_two_sum f d₁ d₂ d₃ a b ≡ three_steps f (direction d₁) (direction d₂) (direction d₃) a b
    unfolding fast_two_sum
    passes =
        checked_passed f (d₁ ∷ d₂ ∷ d₃ ∷ []) (a ∷ b ∷ []) _ (admitted_made ok) h (pair_made f a b s.a_number s.b_number)
        ∙ order_passed f a b _ (binary_made f s.base s.digits) s.order

    pub sum_cases : SumOutcome f (direction d₁) (direction d₂) (direction d₃) a b (fast_two_sum f d₁ d₂ d₃ a b)
    sum_cases = rw passes (steps_outcome_law (direction d₁) (direction d₂) (direction d₃))

  -- ---- the check says yes to every triple
  pub check_complete : {x z y : Number} → Triple f a b x z y → checked_triple f a b x z y ≡ gives true
  unfolding checked_triple all
  check_complete {x} {z} {y} t =
      checked_passed f [] (a ∷ b ∷ x ∷ z ∷ y ∷ []) _ (admitted_made ok) refl
      (and_made s.a_number (and_made s.b_number (and_made t.x_number (and_made t.z_number (and_made t.y_number refl)))))
      ∙ order_passed f a b _ (binary_made f s.base s.digits) s.order
      ∙ ap gives (triple_test ok a b x z y t)

-- ---- for every input: 1, 2, 3, 6, 7, then 5 or a triple
pub sum_refusals : (f : Format) (d₁ d₂ d₃ : ℕ) (a b : Number)
    → Refusals f (d₁ ∷ d₂ ∷ d₃ ∷ []) a b [] (SumOutcome f (direction d₁) (direction d₂) (direction d₃) a b) (fast_two_sum f d₁ d₂ d₃ a b)
unfolding fast_two_sum
sum_refusals f d₁ d₂ d₃ a b =
    refusals f (d₁ ∷ d₂ ∷ d₃ ∷ []) a b [] _ (λ k s. steps_outcome_law (admits f k.format) s (direction d₁) (direction d₂) (direction d₃))

pub sum_not_admitted : (f : Format) (d₁ d₂ d₃ : ℕ) (a b : Number) → admitted f ≡ false → fast_two_sum f d₁ d₂ d₃ a b ≡ refused 1
unfolding fast_two_sum checked
sum_not_admitted f d₁ d₂ d₃ a b h = unless_failed _ _ h

module _ (f : Format) (a b x z y : Number) where
  -- 1, 3, 6, 7, then yes or no
  pub check_refusals : Refusals f [] a b (x ∷ z ∷ y ∷ []) (CheckOutcome f a b x z y) (checked_triple f a b x z y)
  unfolding checked_triple all
  check_refusals =
      refusals f [] a b (x ∷ z ∷ y ∷ []) _
      (λ k s.
      let r₁ = and_right _ _ (and_right _ _ k.members) in
      let r₂ = and_right _ _ r₁ in
      decided (admits f k.format) (and_left _ _ r₁) (and_left _ _ r₂) (and_left _ _ (and_right _ _ r₂)) (is_triple f a b x z y) refl)
    where
      decided : Admitted f → member f x ≡ true → member f z ≡ true → member f y ≡ true → (t : Bool) → is_triple f a b x z y ≡ t → CheckOutcome f a b x z y (gives t)
      decided ok hx hz hy true h = says_yes (test_triple ok a b x z y hx hz hy h)
      decided ok hx hz hy false h = says_no (λ t. never (sym (triple_test ok a b x z y t) ∙ h))

  pub check_not_admitted : admitted f ≡ false → checked_triple f a b x z y ≡ refused 1
  unfolding checked_triple checked
  check_not_admitted h = unless_failed _ _ h

  -- yes to nothing but a triple
  pub check_sound : checked_triple f a b x z y ≡ gives true → Triple f a b x z y
  check_sound = by check_refusals
    where
      by : {g : Given Bool} → Refusals f [] a b (x ∷ z ∷ y ∷ []) (CheckOutcome f a b x z y) g → g ≡ gives true → Triple f a b x z y
      by (not_admitted h) e = absurd (gives_not_refused (sym e))
      by (no_direction h k) e = absurd (gives_not_refused (sym e))
      by (not_member h k l) e = absurd (gives_not_refused (sym e))
      by (not_binary k h) e = absurd (gives_not_refused (sym e))
      by (smaller_first k h l m) e = absurd (gives_not_refused (sym e))
      by (none_of_these k s (says_yes t)) e = t
      by (none_of_these k s (says_no t)) e = absurd (never (sym (gives_same e)))

  -- it gives no refusal 5
  pub check_not_too_large : checked_triple f a b x z y ≡ refused 5 → ⊥
  check_not_too_large = by check_refusals
    where
      by : {g : Given Bool} → Refusals f [] a b (x ∷ z ∷ y ∷ []) (CheckOutcome f a b x z y) g → g ≡ refused 5 → ⊥
      by (not_admitted h) e = omega (arith, refused_same e)
      by (no_direction h k) e = omega (arith, refused_same e)
      by (not_member h k l) e = omega (arith, refused_same e)
      by (not_binary k h) e = omega (arith, refused_same e)
      by (smaller_first k h l m) e = omega (arith, refused_same e)
      by (none_of_these k s (says_yes t)) e = gives_not_refused e
      by (none_of_these k s (says_no t)) e = gives_not_refused e
