-- What the code finds of a stretch, in the terms of the definitions: the refusals in their order, what passed, and the log that is named.
use Rattle.theory.proofs.Prelude.{ℕ, ◌≤◌, ◌<◌, ◌+◌, ◌-◌, true, false, Bool, cond, not, List, ◌∙◌, ap, ◌≡◌, sym, refl, ap₂, arith, eqb, leb, length, drop, take, length-drop, ne_eqb, eq-eqb, le-leb, leb-true, lt-leb, eqb-true}
use lib.Seq.{length-take-le}
use Rattle.theory.specs.Tests.{unless}
use Rattle.theory.specs.Lists.{first_where, none}
use Rattle.theory.proofs.Tests.{and_left, and_right, and_made, refuted, unless_passed, unless_failed, denied, granted}
use Rattle.format.specs.Given.{Given, gives, refused, refused_at, given_at, ◌then◌}
use Rattle.binary32.specs.Patterns.{not_finite}
use Rattle.receivers.specs.Stretches.{calm_as, stretch, not_refused, ends_within, finite_within, calmer_refusal, calmer_log, stretch_of, calmer_stretch}
use Rattle.std.specs.Prelude.{Result, Err}
use Rattle.format.specs.declared.ListRefusal.{ListRefusal}
use Rattle.format.specs.declared.ListRefusal.TheVariants.{Whole, Entry}
use Rattle.receivers.specs.declared.Log.{Log}
use Rattle.receivers.specs.Answers.{calmer_given}
use Rattle.receivers.specs.Spreads.{Logged}

-- ---- a stretch
pub part_is : (log : List ℕ) (start n : ℕ) → take (start + n - start) (drop start log) ≡ stretch log start n
part_is log start n = let back : start + n - start ≡ n = omega arith in ap (λ (k : ℕ). take k (drop start log)) back

pub stretch_length : (log : List ℕ) (start n : ℕ) → start + n ≤ length log → length (stretch log start n) ≡ n
stretch_length log start n h = length-take-le n (drop start log) (omega (arith, length-drop start log))

pub ends : (log : List ℕ) (start n : ℕ) → ends_within log start n ≡ true → (1 ≤ n) × (start + n ≤ length log)
unfolding ends_within
ends log start n h = (leb-true 1 n (and_left _ _ h), leb-true _ _ (and_right (leb 1 n) _ h))

pub ends_made : (log : List ℕ) (start n : ℕ) → 1 ≤ n → start + n ≤ length log → true ≡ ends_within log start n
unfolding ends_within
ends_made log start n h m = sym (and_made (le-leb 1 n h) (le-leb (start + n) (length log) m))

pub ends_not : (log : List ℕ) (start n : ℕ) → (1 ≤ n → start + n ≤ length log → ⊥) → false ≡ ends_within log start n
ends_not log start n h = refuted (λ e. h (ends log start n e).0 (ends log start n e).1)

-- ---- 9 in the stretch of a log
module _ (log : List ℕ) (start n : ℕ) (m : start + n ≤ length log) {k : ℕ} (f : k ≡ first_where not_finite (take (start + n - start) (drop start log))) where
  found : k ≡ first_where not_finite (stretch log start n)
  found = f ∙ ap (first_where not_finite) (part_is log start n)

  pub not_finite_at : k < n → refused_at 9 (start + k) ≡ finite_within log start n
  unfolding finite_within none
  not_finite_at l =
      ap (λ (i : ℕ). refused_at 9 (start + i)) found
      ∙ sym (unless_failed _ _ (lt-leb (length (stretch log start n)) (first_where not_finite (stretch log start n)) (omega (arith, found, stretch_length log start n m))))

  pub all_are_finite : n ≤ k → not_refused ≡ finite_within log start n
  unfolding finite_within none
  all_are_finite l =
      sym (unless_passed _ _ (le-leb (length (stretch log start n)) (first_where not_finite (stretch log start n)) (omega (arith, found, stretch_length log start n m))))

-- ---- the refusals in their order
module _ (first second : List ℕ) (start n : ℕ) where
  pub unequal : (length first ≡ length second → ⊥) → refused 11 ≡ calmer_refusal first second start n
  unfolding calmer_refusal
  unequal h = sym (unless_failed _ _ (ne_eqb _ _ h))

  module _ (e : length first ≡ length second) {t : Bool} (f : t ≡ ends_within first start n) where
    pub outside : not t ≡ true → refused 17 ≡ calmer_refusal first second start n
    unfolding calmer_refusal
    outside h = sym (unless_passed _ _ (eq-eqb _ _ e) ∙ unless_failed _ _ (denied f h))

    module _ (h : not t ≡ false) where
      pub first_most : start + n ≤ length first
      first_most = (ends first start n (granted f h)).1

      pub second_most : start + n ≤ length second
      second_most = omega (arith, e, first_most)

      -- the first log's check, and the second's where the first passed
      pub after_first : {k : Given Unit} → k ≡ finite_within first start n → (k then λ _. finite_within second start n) ≡ calmer_refusal first second start n
      unfolding calmer_refusal
      after_first g =
          ap (λ (k : Given Unit). k then λ _. finite_within second start n) g
          ∙ sym (unless_passed _ _ (eq-eqb _ _ e) ∙ unless_passed _ _ (granted f h))

-- ---- what a stretch has that passed
pub record Inside (first second : List ℕ) (start n : ℕ) : Type 0 where
  pub first_most : start + n ≤ length first
  pub second_most : start + n ≤ length second
  pub first_logged : Logged (stretch first start n)
  pub second_logged : Logged (stretch second start n)

pub not_refused_law : {A : Type 0} {x : A} {k : ℕ} → gives x ≡ refused k → ⊥
not_refused_law e = let z : ◌≡◌ {A = ℕ} 0 1 = cc in omega arith

pub not_refused_at : {A : Type 0} {x : A} {k i : ℕ} → gives x ≡ refused_at k i → ⊥
not_refused_at e = let z : ◌≡◌ {A = ℕ} 0 1 = cc in omega arith

record Four (a b c d : Bool) : Type 0 where
  pub one : a ≡ true
  pub two : b ≡ true
  pub three : c ≡ true
  pub four : d ≡ true

all_four : (i j : ℕ) (a b c d : Bool)
    → not_refused ≡ unless a (refused 11) (unless b (refused 17) (unless c (refused_at 9 i) not_refused then λ _. unless d (refused_at 9 j) not_refused))
    → Four a b c d
unfolding unless
all_four i j true true true true h = record { one = refl; two = refl; three = refl; four = refl }
all_four i j false b c d h = absurd (not_refused_law h)
all_four i j true false c d h = absurd (not_refused_law h)
all_four i j true true false d h = absurd (not_refused_at h)
all_four i j true true true false h = absurd (not_refused_at h)

module _ (first second : List ℕ) (start n : ℕ) where
  pub inside : not_refused ≡ calmer_refusal first second start n → Inside first second start n
  unfolding calmer_refusal finite_within
  inside h =
      let r = all_four (start + first_where not_finite (stretch first start n)) (start + first_where not_finite (stretch second start n)) (eqb (length first) (length second)) (ends_within first start n) (none not_finite (stretch first start n)) (none not_finite (stretch second start n)) h in
      let same : length first ≡ length second = eqb-true _ _ r.one in
      let some : 1 ≤ n = (ends first start n r.two).0 in
      let most : start + n ≤ length first = (ends first start n r.two).1 in
      let most_second : start + n ≤ length second = omega arith in
      record {
        first_most = most;
        second_most = most_second;
        first_logged = record { some = omega (arith, stretch_length first start n most); finite = r.three };
        second_logged = record { some = omega (arith, stretch_length second start n most_second); finite = r.four };
      }

  pub logged_parts : Inside first second start n → Logged (take (start + n - start) (drop start first)) × Logged (take (start + n - start) (drop start second))
  logged_parts p = (rw (part_is first start n) p.first_logged, rw (part_is second start n) p.second_logged)

  -- ---- which log
  abbrev named : ℕ
  named = cond (calm_as (stretch first start n) (stretch second start n)) 1 2

  pub log_refused : {k : Given Unit} → k ≡ calmer_refusal first second start n → (k then λ _. gives named) ≡ calmer_log first second start n
  unfolding calmer_log
  log_refused e = ap (λ (k : Given Unit). k then λ _. gives named) e

  pub log_told : not_refused ≡ calmer_refusal first second start n → {t : Bool}
      → t ≡ calm_as (take (start + n - start) (drop start first)) (take (start + n - start) (drop start second))
      → gives (cond t 1 2) ≡ calmer_log first second start n
  log_told e f = ap (λ (t : Bool). gives (cond t 1 2)) (f ∙ ap₂ calm_as (part_is first start n) (part_is second start n)) ∙ log_refused e

  -- a log was named, so nothing was refused
  before : (k : Given Unit) {log : ℕ} → gives log ≡ (k then λ _. gives named) → not_refused ≡ k
  before (gives x) e = refl
  before (refused number) e = absurd (not_refused_law e)
  before (refused_at number index) e = absurd (not_refused_at e)

  pub log_inside : {log : ℕ} → gives log ≡ calmer_log first second start n → Inside first second start n
  unfolding calmer_log
  log_inside e = inside (before (calmer_refusal first second start n) e)

  pub stretch_told : {k : Given ℕ} → k ≡ calmer_log first second start n
      → stretch_of k (stretch first start n) (stretch second start n) ≡ calmer_stretch first second start n
  unfolding calmer_stretch
  stretch_told e = ap (λ (k : Given ℕ). stretch_of k (stretch first start n) (stretch second start n)) e

  -- the parts that the code hands back
  pub first_told : gives 1 ≡ calmer_log first second start n → take (start + n - start) (drop start first) ≡ calmer_stretch first second start n
  first_told e = part_is first start n ∙ stretch_told e

  pub second_told : gives 2 ≡ calmer_log first second start n → take (start + n - start) (drop start second) ≡ calmer_stretch first second start n
  second_told e = part_is second start n ∙ stretch_told e

-- ---- what the code answers
-- a refusal goes through what comes after it
pub refused_on : {A B : Type 0} (e : ListRefusal) (next : A → Given B) → given_at {A = B} (Err e) ≡ (given_at {A = A} (Err e) then next)
refused_on (Whole why) next = refl
refused_on (Entry why index) next = refl

-- what calmer_log gives in one of its cases
pub log_case : {r named : Result Log ListRefusal} {k : Given ℕ} → r ≡ named → calmer_given r ≡ k → calmer_given named ≡ k
log_case e f = ap calmer_given (sym e) ∙ f
