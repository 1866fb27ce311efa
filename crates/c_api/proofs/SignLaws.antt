-- The sign of a number that C hands over: 0 and 1 make the number that they say, and any other one that is in no format; a conversion, which
-- takes numbers of any form, refuses it by 3 too. And the number of a refused answer, which is in no format either.
use Rattle.theory.proofs.Prelude.{ℕ, ◌≤◌, true, false, Bool, cond, [], ◌∷◌, List, ◌++◌, ◌≡◌, refl, sym, ◌∙◌, ap, arith, ℤ, le-leb, lt-leb}
use Rattle.theory.proofs.Words.{◌and◌, all}
use Rattle.theory.proofs.Tests.{never, and_right, and_made, and_failed, refuted, unless_passed, unless_failed}
use Rattle.format.specs.Directions.{is_direction, direction}
use Rattle.format.specs.Given.{Given, refused}
use Rattle.number.proofs.Prelude.{Format, admitted, admits, member, members, checked}
use Rattle.number.proofs.CheckLaws.{checked_passed}
use Rattle.number.specs.declared.Number.{Number}
use Rattle.arithmetic.specs.declared.Rounded.{Rounded}
use Rattle.arithmetic.specs.Marked.{marked_record, conversion_answer}
use Rattle.c_api.specs.declared.answers.CNumber.{CNumber}
use Rattle.c_api.specs.Answers.{no_significand, number_in, number_for, no_number, no_format, converted_in}

-- a number with the significand that none has is in no admitted format
no_member : (f : Format) (x : Number) → admitted f ≡ true → x.significand ≡ no_significand → member f x ≡ false
no_member f x admits-f e =
    sym
    (refuted
    (λ h.
    let a = admits f admits-f in
    let m = members x a h in
    omega (arith, m.significand_high, a.power_high, e)))

-- a sign from 2 on: refused by 3 wherever the format is admitted and the directions exist
pub other_signs : (f : Format) (x : CNumber) → admitted f ≡ true → 2 ≤ x.negative → member f (number_in x) ≡ false
other_signs f x admits-f above =
    no_member f (number_in x) admits-f (ap (λ (b : Bool). cond b x.significand no_significand) (lt-leb x.negative 1 above))

-- ---- what a refused call gives
-- its number is in no admitted format
pub no_number_law : (f : Format) → admitted f ≡ true → member f (number_in no_number) ≡ false
no_number_law f admits-f = no_member f (number_in no_number) admits-f refl

-- a test that fails of one entry fails of the list
one_fails : {A : Type 0} (test : A → Bool) (before after : List A) {x : A} → test x ≡ false → all test (before ++ (x ∷ after)) ≡ false
unfolding all
one_fails test [] after h = and_failed _ h
one_fails test (y ∷ before) after h = sym (refuted (λ k. never (sym (and_right _ _ k) ∙ one_fails test before after h)))

-- so that a call which is handed it among its numbers refuses it by 3, after 1 and 2
pub no_number_refused : (f : Format) (directions : List ℕ) (before after : List Number) {A : Type 0} (g : Given A) → admitted f ≡ true → all is_direction directions ≡ true
    → checked f directions (before ++ (number_in no_number ∷ after)) g ≡ refused 3
unfolding checked
no_number_refused f directions before after g a d =
    unless_passed _ _ a ∙ unless_passed _ _ d ∙ unless_failed _ _ (one_fails (member f) before after (no_number_law f a))

-- and its format is not admitted
pub no_format_law : admitted no_format ≡ false
unfolding admitted ◌and◌
no_format_law = refl

-- what a call hands out comes back as it was
back : (negative : Bool) (significand : ℕ) (exponent : ℤ) →
    let x : Number = record { negative = negative; significand = significand; exponent = exponent } in number_in (number_for x) ≡ x
back true significand exponent = refl
back false significand exponent = refl

pub number_back : (x : Number) → number_in (number_for x) ≡ x
number_back x = back x.negative x.significand x.exponent

-- ---- numbers of any form
module _ (f : Format) (d : ℕ) (x : CNumber) where
  abbrev by_sign : (known : Bool) → Given Rounded
  by_sign known = checked f (d ∷ []) [] (cond known (marked_record f (direction d) (number_in x)) (refused 3))

  -- 0 and 1: the answer of convert
  pub known_sign : x.negative ≤ 1 → conversion_answer f d (number_in x) ≡ converted_in f d x
  unfolding conversion_answer
  known_sign h = sym (ap by_sign (le-leb x.negative 1 h))

  -- from 2 on: 1 and 2 first, and then 3, whatever the significand and the exponent are
  pub other_sign : 2 ≤ x.negative → checked f (d ∷ []) [] (refused 3) ≡ converted_in f d x
  other_sign h = sym (ap by_sign (lt-leb x.negative 1 h))

  pub other_sign_refused : admitted f ≡ true → is_direction d ≡ true → 2 ≤ x.negative → converted_in f d x ≡ refused 3
  unfolding all
  other_sign_refused a k h = sym (other_sign h) ∙ checked_passed f (d ∷ []) [] (refused 3) a (and_made k refl) refl
