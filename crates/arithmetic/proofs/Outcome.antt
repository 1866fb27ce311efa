-- What an answer says of the exact result N / D units: a number that is given is in the format and has the rounded value, and
-- refusal 5 is given exactly where the rounded magnitude is above the greatest number. An exact result that is a number of the
-- format is given as it is, in every direction.
use Rattle.theory.proofs.Prelude.{ℕ, ◌≤◌, ◌<◌, ◌*◌, true, false, Bool, ⊎_elim, ◌∙◌, ap, ◌≡◌, sym, refl, subst, pow-zero, lt_of_mul-lt-mul_right, arith, leb, ℤ, nat_abs, le-leb, leb-true, leb-false}
use Rattle.arithmetic.proofs.Prelude.{unless, Direction, signed, is_negative, round_z, Format, Given, gives, refused, Admitted, positional, gives_same, gives_not_refused, Number, magnitude, value, greatest, number, delivered, Member, member_made, rounded, rounded_z, unless_passed, wide_pow, size_signed}
use Rattle.theory.specs.Signed.{sign_or}
use Rattle.theory.proofs.Integers.{either_sign, sign_or_law}
use Rattle.theory.specs.Round.{round}
use Rattle.theory.specs.declared.Direction.TheVariants.{TowardZero}
use Rattle.theory.specs.Neighbours.{lower_q, upper_q}
use Rattle.theory.proofs.Neighbours.{lower_q_le, upper_q_least}
use Rattle.theory.proofs.Round.{round_wide, round_exact, round_cases}
use Rattle.theory.proofs.Marks.{mark_multiplied}
use Rattle.theory.proofs.Signed.{round_z_size, round_z_signed, toward_zero_size}
use Rattle.number.proofs.Values.{member_wide, member_greatest, number_same, number_of, number_member, number_value}
use Rattle.arithmetic.specs.Marked.{marked}
use Rattle.arithmetic.specs.Outcomes.{RoundedNumber, OutcomeOf, Outcome, MarkedOutcome, given, too_large}

module _ {A : Type 0} {f : Format} {d : Direction} {N : ℤ} {D : ℕ} {Right : A → Type 0} where
  pub outcome_given : {r : Given A} {x : A} → OutcomeOf f d N D Right r → r ≡ gives x → Right x
  outcome_given (given g) e = subst Right (gives_same e) g
  outcome_given (too_large h) e = absurd (gives_not_refused (sym e))

  pub outcome_refused : {r : Given A} → OutcomeOf f d N D Right r → r ≡ refused 5 → greatest f < nat_abs (round_z f.base f.digits d N D)
  outcome_refused (given g) e = absurd (gives_not_refused e)
  outcome_refused (too_large h) e = h

  -- no other refusal is given
  pub outcome_only : {r : Given A} {n : ℕ} → OutcomeOf f d N D Right r → r ≡ refused n → n ≡ 5
  outcome_only (given g) e = absurd (gives_not_refused e)
  outcome_only (too_large h) e = cc

-- with the mark, which is true of the exact result
pub marked_outcome : {f : Format} {d : Direction} {N : ℤ} {D : ℕ} {g : Given Number} → Outcome f d N D g → MarkedOutcome f d N D (marked f N D g)
unfolding marked
marked_outcome {f} {N = N} {D = D} (given {x = x} r) = given (record { rounded = r; marked = refl; multiplied = mark_multiplied (value f x) N D })
marked_outcome (too_large h) = too_large h

module _ {f : Format} (a : Admitted f) (d : Direction) where
  pub rounded_outcome : (negative : Bool) (n : ℕ) {D : ℕ} → 1 ≤ D → Outcome f d (signed negative n) D (rounded f d negative n D)
  unfolding rounded delivered unless
  rounded_outcome negative n {D} h_d = by (leb v (greatest f)) refl
    where
      v : ℕ
      v = round f.base f.digits d negative n D

      signs : round_z f.base f.digits d (signed negative n) D ≡ signed negative v
      signs = round_z_signed (positional a) h_d d negative n

      size : nat_abs (round_z f.base f.digits d (signed negative n) D) ≡ v
      size = ap nat_abs signs ∙ size_signed negative v

      by : (t : Bool) → leb v (greatest f) ≡ t → Outcome f d (signed negative n) D (unless t (refused 5) (gives (number f negative v)))
      by true h =
          let l : v ≤ greatest f = leb-true _ _ h in
          let w = round_wide (positional a) n h_d d negative in
          given
          (record {
            divisor = h_d;
            member = member_made _ a (number_member a w negative l);
            value = number_value a w negative ∙ sym signs;
            within = omega (arith, size);
          })
      by false h = let l : greatest f < v = leb-false _ _ h in too_large (omega (arith, size))

  pub rounded_z_outcome : (none : Bool) (z : ℤ) → Outcome f d z 1 (rounded_z f d none z)
  unfolding rounded_z
  rounded_z_outcome none z = rw (either_sign none z) at (rounded_outcome (sign_or none z) (nat_abs z) {D = 1} (omega arith))

  -- an exact result that is the number x, with x's sign
  pub rounded_exact : {x : Number} → Member f x → (negative : Bool) (n : ℕ) {D : ℕ} → 1 ≤ D → n ≡ magnitude f x * D → signed negative (magnitude f x) ≡ value f x
      → (magnitude f x ≡ 0 → negative ≡ x.negative) → rounded f d negative n D ≡ gives x
  unfolding rounded delivered value
  rounded_exact {x} i negative n h_d e s z =
      let size = round_exact (positional a) n h_d d negative (magnitude f x) (member_wide a i) e in
      let same : number f negative (magnitude f x) ≡ x =
      number_same f negative x.negative (magnitude f x) (magnitude f x) s z ∙ number_of a i x.negative in
      rw size (unless_passed _ _ (le-leb _ _ (member_greatest a i)) ∙ ap gives same)

  pub rounded_z_exact : {x : Number} → Member f x → (none : Bool) (z : ℤ) → z ≡ value f x → (magnitude f x ≡ 0 → none ≡ x.negative) → rounded_z f d none z ≡ gives x
  unfolding rounded_z value
  rounded_z_exact {x} i none z e n =
      let size : nat_abs z ≡ magnitude f x = ap nat_abs e ∙ size_signed x.negative (magnitude f x) in
      rounded_exact i (sign_or none z) (nat_abs z) (omega arith) (omega arith) (ap (signed (sign_or none z)) (sym size) ∙ either_sign none z ∙ e)
      (λ m. ap (sign_or none) e ∙ sign_or_law none x.negative (magnitude f x) (λ _. sym (n m)))

-- ---- a result below the smallest number, which is one unit: zero or the smallest number, as the direction says; toward zero it is zero
lower_zero : {f : Format} → Admitted f → (n : ℕ) {D : ℕ} → 1 ≤ D → n < D → lower_q f.base f.digits n D < 1
lower_zero a n {D} h_d h = lt_of_mul-lt-mul_right D (omega (arith, lower_q_le (positional a) n h_d))

module _ {f : Format} (a : Admitted f) {N : ℤ} {D : ℕ} {x : Number} where
  size : {d : Direction} → RoundedNumber f d N D x → magnitude f x ≡ nat_abs (round_z f.base f.digits d N D)
  unfolding value
  size r = sym (size_signed x.negative (magnitude f x)) ∙ ap nat_abs r.value

  pub below_smallest : {d : Direction} → RoundedNumber f d N D x → nat_abs N < D → magnitude f x ≤ 1
  below_smallest {d} r h =
      let ok = positional a in
      let h_d = r.divisor in
      let high : upper_q f.base f.digits (nat_abs N) D ≤ 1 = upper_q_least ok (nat_abs N) h_d (rw (← pow-zero f.base) (wide_pow ok 0)) (omega arith) in
      rw (size r, round_z_size f.base f.digits d N D)
      (⊎_elim (λ e. omega (arith, e, lower_zero a (nat_abs N) h_d h)) (λ e. omega (arith, e, high)) (round_cases ok (nat_abs N) h_d d (is_negative N)))

  pub toward_zero_vanishes : RoundedNumber f TowardZero N D x → nat_abs N < D → magnitude f x ≡ 0
  toward_zero_vanishes r h = omega (arith, size r, toward_zero_size (positional a) r.divisor N, lower_zero a (nat_abs N) r.divisor h)
