-- The check's test is the paper's faithfulness: what is computed from two roundings, and what a passed check says.
use Rattle.theory.proofs.Prelude.{true, false, Bool, ⊎_elim, inl, inr, ◌∙◌, ap, ◌≡◌, sym, arith, ℤ, nat_abs}
use Rattle.theory.proofs.Words.{◌or◌, round_z, Faithful}
use Rattle.theory.specs.declared.Direction.{Direction}
use Rattle.theory.specs.declared.Direction.TheVariants.{Upward, Downward}
use Rattle.theory.proofs.Tests.{and_left, and_right, and_made, or_cases, or_left, or_right, refuted}
use Rattle.theory.proofs.Faithful.{faithful_cases, cases_faithful}
use Rattle.number.proofs.Prelude.{Format, Given, Admitted, positional, equal_z, member, value, Member, equal_true, equal_made, member_greatest}
use Rattle.number.specs.declared.Number.{Number}
use Rattle.arithmetic.specs.Operations.{rounded_z}
use Rattle.arithmetic.specs.Outcomes.{Outcome, given, too_large}
use Rattle.arithmetic.proofs.Outcome.{rounded_z_outcome}
use Rattle.fast_two_sum.specs.Triples.{Triple}
use Rattle.fast_two_sum.proofs.Bounds.{value_size}
use Rattle.fast_two_sum.specs.Checks.{is_result, is_faithful, is_triple}

module _ {f : Format} {x : Number} (a : Admitted f) (i : Member f x) where
  -- the number that a step gives has the value that a number of the format is compared with
  result_is : (d : Direction) (none : Bool) (v : ℤ) {s : Given Number} → s ≡ rounded_z f d none v → is_result f s x ≡ equal_z (value f x) (round_z f.base f.digits d v 1)
  unfolding is_result
  result_is d none v e = ap (λ (s : Given Number). is_result f s x) e ∙ by (rounded_z_outcome a d none v)
    where
      by : {s : Given Number} → Outcome f d v 1 s → is_result f s x ≡ equal_z (value f x) (round_z f.base f.digits d v 1)
      by (given r) = ap (equal_z (value f x)) r.value
      by (too_large l) = refuted (λ h. omega (arith, l, ap nat_abs (equal_true _ _ h), value_size f x, member_greatest a i))

  -- one of the two roundings is x
  module _ (v : ℤ) (none : Bool) {s : Given Number} (e : s ≡ rounded_z f Downward none v) where
    pub down_decides : is_result f s x ≡ true → true ≡ is_faithful f v (value f x)
    unfolding is_faithful
    down_decides h = sym (or_left _ (sym (result_is Downward none v e) ∙ h))

    pub up_decides : is_result f s x ≡ false → (zero : Bool) {t : Given Number} → t ≡ rounded_z f Upward zero v → is_result f t x ≡ is_faithful f v (value f x)
    unfolding is_faithful ◌or◌
    up_decides h zero g = result_is Upward zero v g ∙ sym (left_false _ (sym (result_is Downward none v e) ∙ h))
      where
        left_false : {s : Bool} (t : Bool) → s ≡ false → s or t ≡ t
        left_false {s} t e = ap (λ (b : Bool). b or t) e

-- ---- faithful, by the test and in the paper's words
module _ {f : Format} (a : Admitted f) (v r : ℤ) where
  test_faithful : is_faithful f v r ≡ true → Faithful f.base f.digits v r
  unfolding is_faithful
  test_faithful h = cases_faithful (positional a) (⊎_elim (λ e. inl (equal_true _ _ e)) (λ e. inr (equal_true _ _ e)) (or_cases _ _ h))

  faithful_test : Faithful f.base f.digits v r → is_faithful f v r ≡ true
  unfolding is_faithful
  faithful_test h = ⊎_elim (λ e. or_left _ (equal_made e)) (λ e. or_right _ (equal_made e)) (faithful_cases (positional a) h)

-- ---- the check says yes exactly when the three are a triple
module _ {f : Format} (ok : Admitted f) (a b x z y : Number) where
  pub test_triple : member f x ≡ true → member f z ≡ true → member f y ≡ true → is_triple f a b x z y ≡ true → Triple f a b x z y
  unfolding is_triple
  test_triple hx hz hy h =
      record {
        x_number = hx;
        z_number = hz;
        y_number = hy;
        x_step = test_faithful ok _ _ (and_left _ _ h);
        z_step = test_faithful ok _ _ (and_left _ _ (and_right _ _ h));
        y_step = test_faithful ok _ _ (and_right _ _ (and_right _ _ h));
      }

  pub triple_test : Triple f a b x z y → is_triple f a b x z y ≡ true
  unfolding is_triple
  triple_test t = and_made (faithful_test ok _ _ t.x_step) (and_made (faithful_test ok _ _ t.z_step) (faithful_test ok _ _ t.y_step))

-- the check reads values, so that either zero is faithful to zero
pub triple_by_value : (f : Format) (a b x z y x' z' y' : Number) → value f x ≡ value f x' → value f z ≡ value f z' → value f y ≡ value f y'
    → is_triple f a b x z y ≡ is_triple f a b x' z' y'
unfolding is_triple
triple_by_value f a b x z y x' z' y' ex ez ey = rw (ex, ez, ey)
