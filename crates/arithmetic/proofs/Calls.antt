-- What the answers of the four public calls say: each is the exact result N / D units, rounded, with a mark that is true of it. In units of β ^ Emin the sum of
-- the numbers a and b is a + b, their product a × b × β ^ Emin, and their quotient q has q × b × β ^ Emin = a.
use Rattle.theory.proofs.Prelude.{ℕ, ◌≤◌, ◌<◌, ◌^◌, ◌*◌, suc, zero, true, false, Bool, xor, [], ◌∷◌, ◌∙◌, ap, ◌≡◌, sym, refl, arith, ℤ, pos, ◌+ℤ◌, nat_abs, ◌-ℤ◌, ◌*ℤ◌}
use Rattle.arithmetic.proofs.Prelude.{all, ◌and◌, signed, round_z, pow_pos, Format, Given, gives, refused, is_direction, direction, Admitted, admits, admitted_made, gives_not_refused, Number, above_zero, below_zero, magnitude, value, greatest, Member, members, member_made, Rounded, rounded_product, rounded_quotient, and_left, and_right, scale_signed, checked, Checks, not_admitted, no_direction, not_member, all_passed}
use Rattle.number.proofs.CheckLaws.{checked_passed, checks_end, then_checked, pair_made}
use Rattle.wide.proofs.Signs.{signed_times}
use Rattle.arithmetic.specs.declared.CountedQuotient.{CountedQuotient}
use Rattle.arithmetic.specs.Marked.{without_mark, marked, marked_quotient, sum_answer, difference_answer, product_answer}
use Rattle.arithmetic.specs.Quotients.{without_digits, with_digits, quotient_digits, counted_quotient, quotient_answer}
use Rattle.arithmetic.specs.Outcomes.{Outcome, MarkedOutcome, MarkedNumber}
use Rattle.arithmetic.proofs.Prepared.{product_signed, divisor_positive, divisor_some, divisor_none, marked_number, digits_left}
use Rattle.arithmetic.proofs.Outcome.{outcome_given, outcome_refused, outcome_only, marked_outcome, rounded_outcome, rounded_z_outcome}

-- what the checks ask: an admitted format, a direction and two numbers of the format
pub record Checked (f : Format) (d : ℕ) (a b : Number) : Type 0 where
  pub admits : Admitted f
  pub directed : is_direction d ≡ true
  pub first : Member f a
  pub second : Member f b

-- a call ends with refusal 1, 2 or 3, or gives what comes after the checks
pub data Call {A : Type 0} (f : Format) (d : ℕ) (a b : Number) (rest : Given A) : Given A → Type 0 where
  ends : {n : ℕ} → n ≤ 3 → Call f d a b rest (refused n)
  goes_on : Checked f d a b → Call f d a b rest rest

module _ (f : Format) (d : ℕ) (a b : Number) where
  pub call : {A : Type 0} (rest : Given A) → Call f d a b rest (checked f (d ∷ []) (a ∷ b ∷ []) rest)
  unfolding all
  call {A} rest = by (checks_end f (d ∷ []) (a ∷ b ∷ []) rest)
    where
      by : {g : Given A} → Checks f (d ∷ []) (a ∷ b ∷ []) rest g → Call f d a b rest g
      by (not_admitted h) = ends {n = 1} (omega arith)
      by (no_direction h k) = ends {n = 2} (omega arith)
      by (not_member h k l) = ends {n = 3} (omega arith)
      by (all_passed h k l) =
          let ok = admits f h in
          goes_on (record { admits = ok; directed = and_left _ _ k; first = members a ok (and_left _ _ l); second = members b ok (and_left _ _ (and_right _ _ l)) })

  pub call_passed : {A : Type 0} → Checked f d a b → (rest : Given A) → checked f (d ∷ []) (a ∷ b ∷ []) rest ≡ rest
  unfolding all ◌and◌
  call_passed c rest =
      checked_passed f (d ∷ []) (a ∷ b ∷ []) rest (admitted_made c.admits) (rw (c.directed, ◌and◌))
      (pair_made f a b (member_made a c.admits c.first) (member_made b c.admits c.second))

module _ {A : Type 0} {f : Format} {d : ℕ} {a b : Number} {rest : Given A} where
  pub call_given : {r : Given A} {x : A} → Call f d a b rest r → r ≡ gives x → Checked f d a b × (rest ≡ gives x)
  call_given (ends h) e = absurd (gives_not_refused (sym e))
  call_given (goes_on c) e = (c, e)

  pub call_refused : {r : Given A} (n : ℕ) → 3 < n → Call f d a b rest r → r ≡ refused n → Checked f d a b × (rest ≡ refused n)
  call_refused n l (ends {n = m} h) e = absurd (let same : m ≡ n = cc in omega arith)
  call_refused n l (goes_on c) e = (c, e)

-- ---- exact results with their signs
twice : (s t : Bool) → xor (xor s t) t ≡ s
unfolding xor
twice true true = refl
twice true false = refl
twice false true = refl
twice false false = refl

times_back : (s t : Bool) (m n u w : ℕ) → signed (xor s t) (m * u) *ℤ signed t n *ℤ pos w ≡ signed s m *ℤ pos u *ℤ pos (n * w)
times_back s t m n u w =
    let left : signed (xor s t) (m * u) *ℤ signed t n *ℤ pos w ≡ signed s (m * u * n * w) =
    rw (signed_times (xor s t) t (m * u) n, twice s t) (scale_signed s (m * u * n) w) in
    let right : signed s m *ℤ pos u *ℤ pos (n * w) ≡ signed s (m * u * (n * w)) = rw (scale_signed s m u) (scale_signed s (m * u) (n * w)) in
    left ∙ ap (signed s) (omega arith) ∙ sym right

-- r is the answer of a call whose exact result is N / D units
pub record CallRounds (f : Format) (d : ℕ) (a b : Number) (N : ℤ) (D : ℕ) (r : Given Rounded) : Type 0 where
  -- where the checks are passed: the rounded value with its mark, or refusal 5 where its magnitude is above the greatest number
  pub outcome : Checked f d a b → MarkedOutcome f (direction d) N D r
  -- a number is given where the checks are passed, and is the rounded value, with a mark that is true of the exact one
  pub passed : {x : Rounded} → r ≡ gives x → Checked f d a b
  pub given : {x : Rounded} → r ≡ gives x → MarkedNumber f (direction d) N D x
  -- refusal 5 is given above the greatest number only
  pub refused : r ≡ refused 5 → greatest f < nat_abs (round_z f.base f.digits (direction d) N D)

-- what is given with mark and digits, without them
bare : (f : Format) (N : ℤ) (D n : ℕ) (g : Given Number) {r : Given CountedQuotient} → with_digits n (marked f N D g) ≡ r → g ≡ without_mark (without_digits r)
bare f N D n g e =
    sym (marked_number f N D g) ∙ ap without_mark (sym (digits_left n (marked f N D g))) ∙ ap (λ (q : Given CountedQuotient). without_mark (without_digits q)) e

bare_refused : (f : Format) (N : ℤ) (D n : ℕ) (g : Given Number) {k : ℕ} → g ≡ refused k → with_digits n (marked f N D g) ≡ refused k
unfolding marked
bare_refused f N D n g e = ap (λ (g : Given Number). with_digits n (marked f N D g)) e

module _ (f : Format) (d : ℕ) (a b : Number) where
  rounds : {N : ℤ} {D : ℕ} {rest : Given Number} → (Checked f d a b → Outcome f (direction d) N D rest)
      → CallRounds f d a b N D (checked f (d ∷ []) (a ∷ b ∷ []) (marked f N D rest))
  rounds {N} {D} {rest} h =
      let end = call f d a b (marked f N D rest) in
      record {
        outcome = λ c. rw (call_passed f d a b c (marked f N D rest)) (marked_outcome (h c));
        passed = λ e. (call_given end e).0;
        given = λ e. let k = call_given end e in outcome_given (marked_outcome (h k.0)) k.1;
        refused = λ e. let k = call_refused 5 (omega arith) end e in outcome_refused (marked_outcome (h k.0)) k.1;
      }

  pub sum_rounds : CallRounds f d a b (value f a +ℤ value f b) 1 (sum_answer f d a b)
  unfolding sum_answer
  sum_rounds = rounds (λ c. rounded_z_outcome c.admits (direction d) _ (value f a +ℤ value f b))

  pub difference_rounds : CallRounds f d a b (value f a -ℤ value f b) 1 (difference_answer f d a b)
  unfolding difference_answer
  difference_rounds = rounds (λ c. rounded_z_outcome c.admits (direction d) _ (value f a -ℤ value f b))

  pub product_rounds : CallRounds f d a b (value f a *ℤ value f b *ℤ pos (f.base ^ above_zero f.emin)) (f.base ^ below_zero f.emin) (product_answer f d a b)
  unfolding product_answer rounded_product
  product_rounds = rounds (λ c. rw (← product_signed f a b) (rounded_outcome c.admits (direction d) _ _ (pow_pos c.admits.base_low (below_zero f.emin))))

  -- ---- the quotient: without its digits, the marked quotient after the checks
  pub quotient_call : without_digits (quotient_answer f d a b) ≡ checked f (d ∷ []) (a ∷ b ∷ []) (marked_quotient f (direction d) a b)
  unfolding quotient_answer
  quotient_call = then_checked f (d ∷ []) (a ∷ b ∷ []) _ _ ∙ ap (checked f (d ∷ []) (a ∷ b ∷ [])) (digits_left (quotient_digits f a b) _)

  -- by a divisor that is not zero
  pub quotient_rounds : 1 ≤ b.significand
      → CallRounds f d a b (signed (xor a.negative b.negative) (magnitude f a * f.base ^ below_zero f.emin)) (magnitude f b * f.base ^ above_zero f.emin)
      (without_digits (quotient_answer f d a b))
  quotient_rounds h =
      rw quotient_call
      (rounds (λ c. rw (divisor_some c.admits (direction d) a b h) (rounded_outcome c.admits (direction d) _ _ (divisor_positive c.admits b h))))

  -- q × b × β ^ Emin = a
  pub quotient_times_divisor :
      signed (xor a.negative b.negative) (magnitude f a * f.base ^ below_zero f.emin) *ℤ value f b *ℤ pos (f.base ^ above_zero f.emin)
      ≡ value f a *ℤ pos (f.base ^ below_zero f.emin) *ℤ pos (magnitude f b * f.base ^ above_zero f.emin)
  unfolding value
  quotient_times_divisor = times_back a.negative b.negative (magnitude f a) (magnitude f b) (f.base ^ below_zero f.emin) (f.base ^ above_zero f.emin)

  -- ---- refusal 4
  pub quotient_some : {q : CountedQuotient} → quotient_answer f d a b ≡ gives q → 1 ≤ b.significand
  unfolding quotient_answer
  quotient_some {q} e = by b.significand refl (bare f _ _ _ _ (call_given (call f d a b (counted_quotient f (direction d) a b)) e).1)
    where
      by : (m : ℕ) → b.significand ≡ m → rounded_quotient f (direction d) a b ≡ gives q.number → 1 ≤ b.significand
      by zero h r = absurd (gives_not_refused (sym r ∙ divisor_none f (direction d) a b h))
      by (suc m) h r = omega arith

  -- exactly where the divisor is zero
  pub quotient_by_zero : Checked f d a b → b.significand ≡ 0 → quotient_answer f d a b ≡ refused 4
  unfolding quotient_answer
  quotient_by_zero c h = call_passed f d a b c (counted_quotient f (direction d) a b) ∙ bare_refused f _ _ _ _ (divisor_none f (direction d) a b h)

  pub quotient_refused : quotient_answer f d a b ≡ refused 4 → b.significand ≡ 0
  unfolding quotient_answer
  quotient_refused e =
      let k = call_refused 4 (omega arith) (call f d a b (counted_quotient f (direction d) a b)) e in
      by b.significand refl k.0 (bare f _ _ _ _ k.1)
    where
      by : (m : ℕ) → b.significand ≡ m → Checked f d a b → rounded_quotient f (direction d) a b ≡ refused 4 → b.significand ≡ 0
      by zero h c r = h
      by (suc m) h c r =
          let some : 1 ≤ b.significand = omega arith in
          let other = outcome_only (rounded_outcome c.admits (direction d) _ _ (divisor_positive c.admits b some)) (sym (divisor_some c.admits (direction d) a b some) ∙ r) in
          absurd (omega (arith, other))
