-- The checks that every call begins with: what a passed check gives, what a failed one refuses, and how one more direction or
-- number changes it.
use Rattle.theory.proofs.Prelude.{ℕ, true, false, Bool, [], ◌∷◌, List, ◌∙◌, ap, ◌≡◌, sym, refl, arith}
use Rattle.theory.proofs.Words.{◌and◌, unless, all}
use Rattle.theory.proofs.Tests.{and_left, and_right, and_made, unless_passed, unless_failed}
use Rattle.format.specs.declared.Format.{Format}
use Rattle.format.specs.declared.Prepared.{Prepared}
use Rattle.std.specs.Prelude.{Result, Ok, Err, IsErrAnd}
use Rattle.theory.proofs.Results.{err_returned}
use Rattle.theory.specs.declared.Direction.{Direction}
use Rattle.theory.specs.declared.NoDirection.{NoDirection}
use Rattle.theory.specs.Directions.{direction_read}
use Rattle.theory.proofs.Directions.{direction_taken, no_direction_taken}
use Rattle.format.specs.declared.Refusal.{Refusal}
use Rattle.format.specs.declared.Refusal.TheVariants.{FormatNotAdmitted, NoSuchDirection, NumberNotInFormat}
use Rattle.format.specs.Given.{Given, gives, refused, ◌then◌, given}
use Rattle.format.specs.Refusals.{refusal_number}
use Rattle.format.specs.Formats.{admitted, prepared_of, preparation, format_checked}
use Rattle.format.specs.Directions.{is_direction, direction}
use Rattle.format.proofs.Formats.{Admitted, admits, admitted_made}
use Rattle.number.specs.declared.Number.{Number}
use Rattle.number.specs.Numbers.{member}
use Rattle.number.specs.Checks.{checked, Usable, Operand, Operands, Checks, not_admitted, no_direction, not_member, all_passed, further, member_of, entered, beside, directed}
use Rattle.number.proofs.Membership.{Member, member_made, member_prepared, usable, prepared_format, prepared_member}

pub record Passed (f : Format) (directions : List ℕ) (numbers : List Number) (q : Prepared) : Type 0 where
  pub format : admitted f ≡ true
  pub directed : all is_direction directions ≡ true
  pub members : all (member f) numbers ≡ true
  pub is : q ≡ prepared_of f
  -- for the inner functions
  pub usable : Usable q
  pub same : q.format ≡ f

-- what comes after a call comes after its checks: a refusal goes through
pub then_checked : {A B : Type 0} (f : Format) (directions : List ℕ) (numbers : List Number) (g : Given A) (next : A → Given B)
    → checked f directions numbers g then next ≡ checked f directions numbers (g then next)
unfolding checked unless
then_checked f directions numbers g next = by (admitted f) (all is_direction directions) (all (member f) numbers)
  where
    by : (a d m : Bool) → unless a (refused 1) (unless d (refused 2) (unless m (refused 3) g)) then next
        ≡ unless a (refused 1) (unless d (refused 2) (unless m (refused 3) (g then next)))
    by true true true = refl
    by true true false = refl
    by true false m = refl
    by false d m = refl

-- ---- three tests, the first that fails
abbrev outcome : Prepared → (a b c : Bool) → Result Prepared Refusal
outcome q a b c = unless a (Err FormatNotAdmitted) (unless b (Err NoSuchDirection) (unless c (Err NumberNotInFormat) (Ok q)))

record Tests (p q : Prepared) (a b c : Bool) : Type 0 where
  first : a ≡ true
  second : b ≡ true
  third : c ≡ true
  same : q ≡ p

tests : (p q : Prepared) (a b c : Bool) → outcome p a b c ≡ Ok q → Tests p q a b c
unfolding unless
tests p q true true true h = record { first = refl; second = refl; third = refl; same = cc }
tests p q true true false h = absurd (let z : ◌≡◌ {A = ℕ} 0 1 = cc in omega arith)
tests p q true false c h = absurd (let z : ◌≡◌ {A = ℕ} 0 1 = cc in omega arith)
tests p q false b c h = absurd (let z : ◌≡◌ {A = ℕ} 0 1 = cc in omega arith)

module _ {A : Type 0} (g : Given A) where
  failed : (p : Prepared) (why : Refusal) (a b c : Bool) → outcome p a b c ≡ Err why
      → refused (refusal_number why) ≡ unless a (refused 1) (unless b (refused 2) (unless c (refused 3) g))
  unfolding unless
  failed p why true true true h = absurd (let z : ◌≡◌ {A = ℕ} 0 1 = cc in omega arith)
  failed p why true true false h = cc
  failed p why true false c h = cc
  failed p why false b c h = cc

module _ (f : Format) (directions : List ℕ) (numbers : List Number) where
  -- a passed check gives everything that later proofs need
  pub passed : {q : Prepared} → entered f directions numbers ≡ Ok q → Passed f directions numbers q
  unfolding entered
  passed {q} h =
      let t = tests (prepared_of f) q (admitted f) (all is_direction directions) (all (member f) numbers) h in
      record {
        format = t.first;
        directed = t.second;
        members = t.third;
        is = t.same;
        usable = usable t.first t.same;
        same = prepared_format t.same;
      }

  module _ {A : Type 0} (g : Given A) where
    -- after passed checks a call gives what comes after them
    pub checked_passed : admitted f ≡ true → all is_direction directions ≡ true → all (member f) numbers ≡ true → checked f directions numbers g ≡ g
    unfolding checked
    checked_passed a h k = unless_passed _ _ a ∙ unless_passed _ _ h ∙ unless_passed _ _ k

    pub goes_on : {q : Prepared} → entered f directions numbers ≡ Ok q → g ≡ checked f directions numbers g
    goes_on h = let p = passed h in sym (checked_passed p.format p.directed p.members)

    -- and ends with the refusal of a failed one
    pub ends : {why : Refusal} → entered f directions numbers ≡ Err why → refused (refusal_number why) ≡ checked f directions numbers g
    unfolding entered checked
    ends {why} h = failed g (prepared_of f) why (admitted f) (all is_direction directions) (all (member f) numbers) h

    -- which is what the exit of a `?` returns
    pub stops : {why : Refusal} (r : Result A Refusal) → entered f directions numbers ≡ Err why → IsErrAnd r (λ x. x ≡ why) → given r ≡ checked f directions numbers g
    stops r h e = ap given (err_returned r e) ∙ ends h

    -- each refusal exactly where its condition holds and no earlier one does
    pub checks_end : Checks f directions numbers g (checked f directions numbers g)
    unfolding checked unless
    checks_end = by (admitted f) refl (all is_direction directions) refl (all (member f) numbers) refl
      where
        by : (a : Bool) → admitted f ≡ a → (b : Bool) → all is_direction directions ≡ b → (c : Bool) → all (member f) numbers ≡ c
            → Checks f directions numbers g (unless a (refused 1) (unless b (refused 2) (unless c (refused 3) g)))
        by true h true k true l = all_passed h k l
        by true h true k false l = not_member h k l
        by true h false k c l = no_direction h k
        by false h b k c l = not_admitted h

-- what an inner function gives for the prepared format, the call gives
pub answered : (f : Format) (directions : List ℕ) (numbers : List Number) {A : Type 0} (inner : Format → Given A) {q : Prepared} → entered f directions numbers ≡ Ok q
    → inner q.format ≡ checked f directions numbers (inner f)
answered f directions numbers inner h = ap inner (passed f directions numbers h).same ∙ goes_on f directions numbers (inner f) h

-- the directions and the numbers of a passed check, one after the other
pub first_direction : {f : Format} {d : ℕ} {directions : List ℕ} {numbers : List Number} {q : Prepared}
    → Passed f (d ∷ directions) numbers q → is_direction d ≡ true
unfolding all
first_direction p = and_left _ _ p.directed

pub later_directions : {f : Format} {d : ℕ} {directions : List ℕ} {numbers : List Number} {q : Prepared}
    → Passed f (d ∷ directions) numbers q → Passed f directions numbers q
unfolding all
later_directions p = record { format = p.format; directed = and_right _ _ p.directed; members = p.members; is = p.is; usable = p.usable; same = p.same }

pub later_numbers : {f : Format} {directions : List ℕ} {x : Number} {numbers : List Number} {q : Prepared}
    → Passed f directions (x ∷ numbers) q → Passed f directions numbers q
unfolding all
later_numbers p = record { format = p.format; directed = p.directed; members = and_right _ _ p.members; is = p.is; usable = p.usable; same = p.same }

pub one_member : {f : Format} {directions : List ℕ} {x : Number} {numbers : List Number} {q : Prepared}
    → Passed f directions (x ∷ numbers) q → member f x ≡ true
unfolding all
one_member p = and_left _ _ p.members

pub two_members : {f : Format} {directions : List ℕ} {x y : Number} {numbers : List Number} {q : Prepared}
    → Passed f directions (x ∷ y ∷ numbers) q → (member f x ≡ true) × (member f y ≡ true)
two_members p = (one_member p, one_member (later_numbers p))

pub operand : {f : Format} {directions : List ℕ} {x : Number} {numbers : List Number} {q : Prepared} → Passed f directions (x ∷ numbers) q → Operand q x
operand {x = x} p = record { usable = p.usable; number = prepared_member p.is x (one_member p) }

pub operands : {f : Format} {directions : List ℕ} {a b : Number} {numbers : List Number} {q : Prepared} → Passed f directions (a ∷ b ∷ numbers) q → Operands q a b
operands p = record { usable = p.usable; first = (operand p).number; second = (operand (later_numbers p)).number }

pub pair_made : (f : Format) (x y : Number) → member f x ≡ true → member f y ≡ true → all (member f) (x ∷ y ∷ []) ≡ true
unfolding all
pair_made f x y h k = and_made h (and_made k refl)

-- a number of the format passes
pub one_checked : {f : Format} {x : Number} → Admitted f → Member f x → {A : Type 0} {g : Given A} → checked f [] (x ∷ []) g ≡ g
unfolding all
one_checked {f} {x} a i {A} {g} = checked_passed f [] (x ∷ []) g (admitted_made a) refl (and_made (member_made x a i) refl)

-- ---- one check more, after what is known of those before
module _ (refusal : Refusal) (test : Prepared → Bool) where
  pub further_stands : {before : Result Prepared Refusal} {why : Refusal} → before ≡ Err why → Err why ≡ further refusal test before
  further_stands h = sym (ap (further refusal test) h)

  pub further_fails : {before : Result Prepared Refusal} {q : Prepared} → before ≡ Ok q → test q ≡ false → Err refusal ≡ further refusal test before
  further_fails h e = sym (ap (further refusal test) h ∙ unless_failed _ _ e)

  pub further_passes : {before : Result Prepared Refusal} {q : Prepared} → before ≡ Ok q → test q ≡ true → Ok q ≡ further refusal test before
  further_passes h e = sym (ap (further refusal test) h ∙ unless_passed _ _ e)

-- what the checks before refuse is refused, what they let on is examined
module _ (p : Prepared) where
  next_third : {q : Prepared} (a b c u : Bool) → outcome p a b c ≡ Ok q → unless u (Err NumberNotInFormat) (Ok q) ≡ outcome p a b (u and c)
  unfolding unless ◌and◌
  next_third true true true true h = sym h
  next_third true true true false h = refl
  next_third true true false u h = absurd (let z : ◌≡◌ {A = ℕ} 0 1 = cc in omega arith)
  next_third true false c u h = absurd (let z : ◌≡◌ {A = ℕ} 0 1 = cc in omega arith)
  next_third false b c u h = absurd (let z : ◌≡◌ {A = ℕ} 0 1 = cc in omega arith)

  third_stands : {why : Refusal} (a b c u : Bool) → outcome p a b c ≡ Err why → Err why ≡ outcome p a b (u and c)
  unfolding unless ◌and◌
  third_stands true true true u h = absurd (let z : ◌≡◌ {A = ℕ} 0 1 = cc in omega arith)
  third_stands true true false true h = sym h
  third_stands true true false false h = sym h
  third_stands true false c u h = sym h
  third_stands false b c u h = sym h

module _ (f : Format) (directions : List ℕ) (numbers : List Number) (x : Number) where
  pub number_stands : {why : Refusal} → entered f directions numbers ≡ Err why → Err why ≡ entered f directions (x ∷ numbers)
  unfolding entered all
  number_stands h = third_stands (prepared_of f) (admitted f) (all is_direction directions) (all (member f) numbers) (member f x) h

  pub number_goes : {q : Prepared} → entered f directions numbers ≡ Ok q → unless (member_of q x) (Err NumberNotInFormat) (Ok q) ≡ entered f directions (x ∷ numbers)
  unfolding entered all
  number_goes {q} h =
      let p = passed f directions numbers h in
      let same : member_of q x ≡ member f x = ap (λ (k : Prepared). member_of k x) p.is ∙ member_prepared x (admits f p.format) in
      ap (λ (t : Bool). unless t (Err NumberNotInFormat) (Ok q)) same
      ∙ next_third (prepared_of f) (admitted f) (all is_direction directions) (all (member f) numbers) (member f x) h

  -- in place of the checks before, what is known of them
  pub number_after : {before : Result Prepared Refusal} → before ≡ entered f directions numbers
      → further NumberNotInFormat (λ (q : Prepared). member_of q x) before ≡ entered f directions (x ∷ numbers)
  number_after {before = Ok q} h = number_goes (sym h)
  number_after {before = Err why} h = number_stands (sym h)

-- the format by itself
pub prepared_entered : (f : Format) → preparation f ≡ entered f [] []
unfolding preparation entered all unless
prepared_entered f = go (admitted f)
  where
    go : (a : Bool) → unless a (Err FormatNotAdmitted) (Ok (prepared_of f)) ≡ outcome (prepared_of f) a true true
    go true = refl
    go false = refl

-- and a prepared one that is known to be admitted
pub ready_entered : {f : Format} {q : Prepared} → admitted f ≡ true → q ≡ prepared_of f → Ok q ≡ entered f [] []
unfolding preparation
ready_entered {f} h e = ap Ok e ∙ sym (unless_passed _ _ h) ∙ prepared_entered f

-- check_format is the check with no direction and no number
pub format_checked_law : (f : Format) → format_checked f ≡ checked f [] [] (gives tt)
unfolding format_checked checked all unless
format_checked_law f = refl

-- ---- one direction more
second_stands : (p : Prepared) (a b u : Bool) {why : Refusal} → outcome p a b true ≡ Err why → Err why ≡ outcome p a (u and b) true
unfolding unless ◌and◌
second_stands p true true u h = absurd (let z : ◌≡◌ {A = ℕ} 0 1 = cc in omega arith)
second_stands p true false true h = sym h
second_stands p true false false h = sym h
second_stands p false b u h = sym h

module _ (f : Format) (directions : List ℕ) (d : ℕ) where
  pub direction_stands : {why : Refusal} → entered f directions [] ≡ Err why → Err why ≡ entered f (d ∷ directions) []
  unfolding entered all
  direction_stands h = second_stands (prepared_of f) (admitted f) (all is_direction directions) (is_direction d) h

  pub direction_fails : {q : Prepared} {e : NoDirection} → entered f directions [] ≡ Ok q → direction_read d ≡ Err e → Err NoSuchDirection ≡ entered f (d ∷ directions) []
  unfolding entered all unless ◌and◌
  direction_fails h k = rw ((passed f directions [] h).format, no_direction_taken d k) refl

  pub direction_goes : {q : Prepared} {r : Direction} → entered f directions [] ≡ Ok q → direction_read d ≡ Ok r → Ok q ≡ entered f (d ∷ directions) []
  unfolding entered all unless ◌and◌
  direction_goes h k = let p = passed f directions [] h in rw (p.format, (direction_taken d k).0, p.directed, p.is) refl

-- ---- the checks of a call one by one
module _ (f : Format) (directions : List ℕ) (numbers : List Number) where
  pub no_format : {p : Result Prepared Refusal} {why : Refusal} → p ≡ preparation f → p ≡ Err why → entered f directions numbers ≡ Err why
  unfolding preparation entered unless
  no_format h e = by (admitted f) (unless (all is_direction directions) (Err NoSuchDirection) (unless (all (member f) numbers) (Err NumberNotInFormat) (Ok (prepared_of f)))) (sym h ∙ e)
    where
      by : (a : Bool) (r : Result Prepared Refusal) {why : Refusal} → unless a (Err FormatNotAdmitted) (Ok (prepared_of f)) ≡ Err why → unless a (Err FormatNotAdmitted) r ≡ Err why
      by true r h = absurd (let z : ◌≡◌ {A = ℕ} 0 1 = cc in omega arith)
      by false r h = h

  pub not_a_direction : (d : ℕ) {p : Result Prepared Refusal} {q : Prepared} {r : Result Direction NoDirection} {e : NoDirection} → p ≡ preparation f → p ≡ Ok q → r ≡ direction_read d → r ≡ Err e
      → entered f (d ∷ directions) numbers ≡ Err NoSuchDirection
  unfolding entered all unless ◌and◌
  not_a_direction d h k l m = rw ((passed f [] [] (sym (prepared_entered f) ∙ sym h ∙ k)).format, no_direction_taken d (sym l ∙ m)) refl

pub one_direction : (f : Format) (d : ℕ) {p : Result Prepared Refusal} {q : Prepared} {r : Result Direction NoDirection} {k : Direction}
    → p ≡ preparation f → p ≡ Ok q → r ≡ direction_read d → r ≡ Ok k → entered f (d ∷ []) [] ≡ Ok q
one_direction f d h k l m = sym (direction_goes f [] d (sym (prepared_entered f) ∙ sym h ∙ k) (sym l ∙ m))

pub both_read : (f : Format) (directions : List ℕ) (a b : Number) {q : Prepared} {r s : Result Prepared Refusal} → entered f directions [] ≡ Ok q
    → r ≡ further NumberNotInFormat (λ (p : Prepared). member_of p b) (Ok q) → s ≡ further NumberNotInFormat (λ (p : Prepared). member_of p a) r
    → entered f directions (a ∷ b ∷ []) ≡ s
both_read f directions a b h e k = sym (k ∙ number_after f directions (b ∷ []) a (e ∙ number_after f directions [] b (sym h)))

-- what an operation gives in a format and a direction that passed, the call gives
pub operation_answers : (f : Format) (d : ℕ) (numbers : List Number) {A : Type 0} (operation : Format → Direction → Given A) {q : Prepared} {r : Result Direction NoDirection} {k : Direction}
    → entered f (d ∷ []) numbers ≡ Ok q → r ≡ direction_read d → r ≡ Ok k → operation q.format k ≡ checked f (d ∷ []) numbers (operation f (direction d))
operation_answers f d numbers operation {q} h l m =
    ap (operation q.format) (direction_taken d (sym l ∙ m)).1 ∙ answered f (d ∷ []) numbers (λ (g : Format). operation g (direction d)) h

-- ---- with the direction beside the format
pub directed_passed : (f : Format) (d : ℕ) (numbers : List Number) {t : Prepared × Direction} → directed f d numbers ≡ Ok t → (entered f (d ∷ []) numbers ≡ Ok t.0) × (t.1 ≡ direction d)
unfolding directed
directed_passed f d numbers h = by (entered f (d ∷ []) numbers) h
  where
    by : (before : Result Prepared Refusal) {u : Prepared × Direction} → beside (direction d) before ≡ Ok u → (before ≡ Ok u.0) × (u.1 ≡ direction d)
    by (Ok q) {u} h = let same : (q, direction d) ≡ u = cc in (ap (λ (p : Prepared × Direction). Ok p.0) same, sym (ap (λ (p : Prepared × Direction). p.1) same))
    by (Err why) h = absurd (let z : ◌≡◌ {A = ℕ} 0 1 = cc in omega arith)

pub directed_failed : (f : Format) (d : ℕ) (numbers : List Number) {why : Refusal} → directed f d numbers ≡ Err why → entered f (d ∷ []) numbers ≡ Err why
unfolding directed
directed_failed f d numbers h = by (entered f (d ∷ []) numbers) h
  where
    by : (before : Result Prepared Refusal) {why : Refusal} → beside (direction d) before ≡ Err why → before ≡ Err why
    by (Ok q) h = absurd (let z : ◌≡◌ {A = ℕ} 0 1 = cc in omega arith)
    by (Err why) h = cc

-- and one number more
pub directed_stands : (f : Format) (d : ℕ) (numbers : List Number) (x : Number) {why : Refusal} → directed f d numbers ≡ Err why → Err why ≡ directed f d (x ∷ numbers)
unfolding directed
directed_stands f d numbers x h = ap (beside (direction d)) (number_stands f (d ∷ []) numbers x (directed_failed f d numbers h))

pub directed_goes : (f : Format) (d : ℕ) (numbers : List Number) (x : Number) {q : Prepared} {k : Direction} (r : Result Prepared Refusal)
    → directed f d numbers ≡ Ok (q, k) → r ≡ unless (member_of q x) (Err NumberNotInFormat) (Ok q) → beside k r ≡ directed f d (x ∷ numbers)
unfolding directed
directed_goes f d numbers x {q} {k} r h e =
    let p = directed_passed f d numbers h in
    ap (λ (j : Direction). beside j r) p.1 ∙ ap (beside (direction d)) (e ∙ number_goes f (d ∷ []) numbers x p.0)

-- what a call with a direction answers by its checks: a refusal of theirs, or what the operation gives
module _ (f : Format) (d : ℕ) (numbers : List Number) where
  pub directed_enters : {q : Prepared} {k : Direction} → directed f d numbers ≡ Ok (q, k) → Passed f (d ∷ []) numbers q
  directed_enters h = passed f (d ∷ []) numbers (directed_passed f d numbers h).0

  pub directed_stops : {A : Type 0} (g : Given A) {why : Refusal} (r : Result A Refusal) → directed f d numbers ≡ Err why → IsErrAnd r (λ x. x ≡ why)
      → given r ≡ checked f (d ∷ []) numbers g
  directed_stops g r h e = stops f (d ∷ []) numbers g r (directed_failed f d numbers h) e

  pub directed_answers : {A : Type 0} {q : Prepared} {k : Direction} → directed f d numbers ≡ Ok (q, k) → (operation : Format → Direction → Given A)
      → operation q.format k ≡ checked f (d ∷ []) numbers (operation f (direction d))
  directed_answers {q = q} h operation =
      let p = directed_passed f d numbers h in
      ap (operation q.format) p.1 ∙ answered f (d ∷ []) numbers (λ (g : Format). operation g (direction d)) p.0
