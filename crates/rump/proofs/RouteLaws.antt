-- Demand 2 of Rump's routes: for every admitted format and every number that keeps the premise the figure, with no line refused, gives
-- the place, so that the route answers what units::ufp or units::ulp answers; where the premise fails, a number of the format is
-- refused by 8, after 1, 2 and 3. In binary16 the premise of figures 1, 3, 4 and 5 always fails, as Emax is less than p; with the
-- successor it does not ask for that.
use Rattle.theory.proofs.Prelude.{ℕ, ◌≤◌, ◌-◌, suc, sym, subst, mul-pos, zero, true, false, Bool, [], ◌∷◌, ◌∙◌, ap, ◌≡◌, refl, pos}
use Rattle.theory.proofs.Words.{◌and◌, unless, all, place, ufp, ulp}
use Rattle.theory.proofs.Powers.{pow_pos}
use Rattle.theory.proofs.Units.{ufp_power, ulp_pos}
use Rattle.theory.proofs.Tests.{and_left, unless_passed, unless_failed}
use Rattle.number.proofs.Prelude.{Format, Prepared, Operand, Given, gives, refused, admitted, member, magnitude, number, number_of, known, checked, one_checked}
use Rattle.number.specs.Signs.{with_sign}
use Rattle.number.specs.declared.Number.{Number}
use Rattle.theory.specs.declared.Direction.{Direction}
use Rattle.format.specs.Directions.{is_direction, direction}
use Rattle.format.specs.Published.{binary16, published_format}
use Rattle.format.proofs.Formats.{Admitted, admits, admitted_made, positional}
use Rattle.format.proofs.PublishedFormats.{published_admitted}
use Rattle.number.proofs.Membership.{Member, members, member_made, usable}
use Rattle.number.proofs.Values.{member_wide, member_greatest, number_magnitude}
use Rattle.number.proofs.Negation.{signed_member, unsigned_value}
use Rattle.units.specs.Places.{first_place, last_place}
use Rattle.rump.specs.declared.Figure.{Figure}
use Rattle.rump.specs.declared.Figure.TheVariants.{First, Third, Fourth, Fifth}
use Rattle.rump.specs.Premises.{premise, first_premise, last_premise, next_premise, lead_premise, scaled_premise, premise_of}
use Rattle.rump.specs.Figures.{figure1, figure3, figure4, figure5, gap_above, figure6}
use Rattle.rump.specs.Routes.{figured, route, RouteChecks, DirectedChecks, ufp_toward_zero, ulp_upward, ulp_toward_zero, ulp_unbranched, ulp_by_successor, ufp_by_successor}
use Rattle.rump.proofs.Reach.{first, last, led, next_some, next_less, scaled_lead, scaled_some, scaled_less}
use Rattle.rump.proofs.Lines.{Has, Line, has_number}
use Rattle.rump.proofs.FirstFigure.{figure1_line, figure1_zero}
use Rattle.rump.proofs.SuccessorFigures.{ulp_scaled, gap_above_line, figure6_line}
use Rattle.rump.proofs.LastFigures.{figure3_line, figure4_line, figure5_line}

-- ---- the figures
module _ {f : Format} (a : Admitted f) {x : Number} (i : Member f x) where
  -- |x|
  abbrev size : Number
  size = number f false (magnitude f x)

  size_has : Has f size (pos (magnitude f x))
  size_has = record { number = member_made _ a (signed_member a i false); is = unsigned_value a i }

  given : {r : Given Number} {n : ℕ} → 1 ≤ n → Line f r (pos n) → r ≡ gives (number f false n)
  given h l = l.is ∙ ap gives (has_number a l.has h)

  pub figure1_is : first_premise f x ≡ true → figure1 f size ≡ gives (number f false (ufp f.base (magnitude f x)))
  unfolding ufp number
  figure1_is h = by (magnitude f x) refl
    where
      by : (n : ℕ) → magnitude f x ≡ n → figure1 f size ≡ gives (number f false (ufp f.base (magnitude f x)))
      by zero e = figure1_zero (first (usable (admitted_made a) refl) x h) (signed_member a i false) (number_magnitude a (member_wide a i) false ∙ e) refl ∙ ap (λ (m : ℕ). gives (number f false m)) (e ∙ rw e)
      by (suc n) e = given (rw (e, ufp_power a.base_low n) (pow_pos a.base_low (place f.base 1 (suc n)))) (figure1_line (first (usable (admitted_made a) refl) x h) size_has)

  module _ (d : Direction) where
    pub gap_above_is : next_premise f x ≡ true → gap_above f d size ≡ gives (number f false (ulp f.base f.digits (magnitude f x)))
    gap_above_is h =
        let n = next_some f x h in
        given (ulp_pos (positional a) n) (gap_above_line a size_has n (next_less f x (member_greatest a i) h) d)

    pub figure6_is : scaled_premise f x ≡ true → figure6 f d size ≡ gives (number f false (ufp f.base (magnitude f x)))
    figure6_is h =
        let n = scaled_some f x h in
        given (subst (λ (u : ℕ). 1 ≤ u) (ulp_scaled (positional a) n) (ulp_pos (positional a) (mul-pos n (pow_pos a.base_low (f.digits - 1)))))
        (figure6_line a (led a (scaled_lead f x h)) d size_has n (scaled_less f x h))

  module _ (h : last_premise f x ≡ true) where
    some : 1 ≤ ulp f.base f.digits (magnitude f x)
    some = ulp_pos (positional a) (last (usable (admitted_made a) refl) x (member_made x a i) h).some

    pub figure3_is : figure3 f size ≡ gives (number f false (ulp f.base f.digits (magnitude f x)))
    figure3_is = given some (figure3_line (last (usable (admitted_made a) refl) x (member_made x a i) h) size_has)

    pub figure4_is : figure4 f size ≡ gives (number f false (ulp f.base f.digits (magnitude f x)))
    figure4_is = given some (figure4_line (last (usable (admitted_made a) refl) x (member_made x a i) h) size_has)

    pub figure5_is : figure5 f size ≡ gives (number f false (ulp f.base f.digits (magnitude f x)))
    figure5_is = given some (figure5_line (last (usable (admitted_made a) refl) x (member_made x a i) h) size_has)

-- ---- |x| as the code makes it after the checks
module _ {q : Prepared} {x y : Number} (i : Operand q x) (e : y ≡ with_sign x false) where
  pub size_of : number q.format false (magnitude q.format x) ≡ y
  size_of = let a = (known i.usable).admits in number_of a (members x a i.number) false ∙ sym e

  pub size_member : member q.format y ≡ true
  size_member =
      let a = (known i.usable).admits in
      ap (member q.format) (sym size_of) ∙ member_made _ a (signed_member a (members x a i.number) false)

-- ---- the routes, refused numbers too
-- the premises with the successor are those of |x|
module _ {f : Format} (a : Admitted f) {x : Number} (i : Member f x) (d : Direction) {y : Number} (e : number f false (magnitude f x) ≡ y) where
  same_size : magnitude f y ≡ magnitude f x
  same_size = ap (magnitude f) (sym e) ∙ number_magnitude a (member_wide a i) false

  pub last_of_size : unless (next_premise f y) (refused 8) (gap_above f d y) ≡ unless (next_premise f x) (refused 8) (gap_above f d (number f false (magnitude f x)))
  unfolding next_premise
  last_of_size = rw (same_size, e)

  pub first_of_size : unless (scaled_premise f y) (refused 8) (figure6 f d y) ≡ unless (scaled_premise f x) (refused 8) (figure6 f d (number f false (magnitude f x)))
  unfolding scaled_premise
  first_of_size = rw (same_size, e)

-- what comes after a test may lean on it
unless_same : {A : Type 0} {t : Bool} (z : A) {r s : A} → (t ≡ true → r ≡ s) → unless t z r ≡ unless t z s
unfolding unless
unless_same {t = true} z e = e refl
unless_same {t = false} z e = refl

module _ (f : Format) (x : Number) where
  -- each refusal exactly where its condition holds and no earlier one does
  pub route_checks : (figure : Figure) → RouteChecks figure f x (route figure f x)
  unfolding route checked all unless ◌and◌
  route_checks figure = by (admitted f) refl (member f x) refl (premise_of figure f x) refl
    where
      by : (a : Bool) → admitted f ≡ a → (m : Bool) → member f x ≡ m → (p : Bool) → premise_of figure f x ≡ p
          → RouteChecks figure f x (unless a (refused 1) (unless (m and true) (refused 3) (unless p (refused 8) (figured figure f x))))
      by true h true i true k = RouteChecks.runs h i k
      by true h true i false k = RouteChecks.premise_fails h i k
      by true h false i p k = RouteChecks.not_member h i
      by false h m i p k = RouteChecks.not_admitted h

  -- two answers that are the same for a number of an admitted format
  same_after : {r s : Given Number} → (Admitted f → Member f x → r ≡ s) → checked f [] (x ∷ []) r ≡ checked f [] (x ∷ []) s
  unfolding checked all
  same_after e = unless_same _ (λ h. unless_same _ (λ d. unless_same _ (λ m. let a = admits f h in e a (members x a (and_left _ _ m)))))

  pub ufp_toward_zero_is : first_premise f x ≡ true → ufp_toward_zero f x ≡ first_place f x
  unfolding route first_place
  ufp_toward_zero_is h = same_after (λ a i. unless_passed _ _ h ∙ figure1_is a i h)

  module _ (h : last_premise f x ≡ true) where
    pub ulp_upward_is : ulp_upward f x ≡ last_place f x
    unfolding route last_place
    ulp_upward_is = same_after (λ a i. unless_passed _ _ h ∙ figure3_is a i h)

    pub ulp_toward_zero_is : ulp_toward_zero f x ≡ last_place f x
    unfolding route last_place
    ulp_toward_zero_is = same_after (λ a i. unless_passed _ _ h ∙ figure4_is a i h)

    pub ulp_unbranched_is : ulp_unbranched f x ≡ last_place f x
    unfolding route last_place
    ulp_unbranched_is = same_after (λ a i. unless_passed _ _ h ∙ figure5_is a i h)

  -- ---- with the successor, in each direction
  module _ (d : ℕ) where
    directed_same : (r : Given Number) → is_direction d ≡ true → checked f (d ∷ []) (x ∷ []) r ≡ checked f [] (x ∷ []) r
    unfolding checked all ◌and◌ unless
    directed_same r h = rw (h, ◌and◌, unless)

    pub ulp_by_successor_is : is_direction d ≡ true → next_premise f x ≡ true → ulp_by_successor f d x ≡ last_place f x
    unfolding ulp_by_successor last_place
    ulp_by_successor_is t h = directed_same _ t ∙ same_after (λ a i. unless_passed _ _ h ∙ gap_above_is a i (direction d) h)

    pub ufp_by_successor_is : is_direction d ≡ true → scaled_premise f x ≡ true → ufp_by_successor f d x ≡ first_place f x
    unfolding ufp_by_successor first_place
    ufp_by_successor_is t h = directed_same _ t ∙ same_after (λ a i. unless_passed _ _ h ∙ figure6_is a i (direction d) h)

    -- each refusal exactly where its condition holds and no earlier one does
    directed_checks : (premise : Bool) (go_on : Given Number) → DirectedChecks premise f d x go_on (checked f (d ∷ []) (x ∷ []) (unless premise (refused 8) go_on))
    unfolding checked all unless ◌and◌
    directed_checks premise go_on = by (admitted f) refl (is_direction d) refl (member f x) refl premise refl
      where
        by : (a : Bool) → admitted f ≡ a → (t : Bool) → is_direction d ≡ t → (m : Bool) → member f x ≡ m → (p : Bool) → premise ≡ p
            → DirectedChecks premise f d x go_on (unless a (refused 1) (unless (t and true) (refused 2) (unless (m and true) (refused 3) (unless p (refused 8) go_on))))
        by true h true k true i true l = DirectedChecks.runs h k i l
        by true h true k true i false l = DirectedChecks.premise_fails h k i l
        by true h true k false i p l = DirectedChecks.not_member h k i
        by true h false k m i p l = DirectedChecks.no_direction h k
        by false h t k m i p l = DirectedChecks.not_admitted h

    pub ulp_by_successor_checks : DirectedChecks (next_premise f x) f d x (gap_above f (direction d) (number f false (magnitude f x))) (ulp_by_successor f d x)
    unfolding ulp_by_successor
    ulp_by_successor_checks = directed_checks _ _

    pub ufp_by_successor_checks : DirectedChecks (scaled_premise f x) f d x (figure6 f (direction d) (number f false (magnitude f x))) (ufp_by_successor f d x)
    unfolding ufp_by_successor
    ufp_by_successor_checks = directed_checks _ _

-- a route whose premise fails
pub premise_refused : {f : Format} {x : Number} → Admitted f → Member f x → (figure : Figure) → premise_of figure f x ≡ false → route figure f x ≡ refused 8
unfolding route
premise_refused a i figure h = one_checked a i ∙ unless_failed _ _ h

-- ---- binary16, published format 1
binary16_fails : {f : Format} (figure : Figure) (x : Number) → published_format 1 ≡ gives f → premise_of figure f x ≡ false
unfolding published_format premise first_premise last_premise ◌and◌
binary16_fails {f} figure x h = let same : binary16 ≡ f = cc in rw (← same) (by figure)
  where
    by : (g : Figure) → premise_of g binary16 x ≡ false
    by First = refl
    by Third = refl
    by Fourth = refl
    by Fifth = refl

pub binary16_refused : {f : Format} (figure : Figure) (x : Number) → published_format 1 ≡ gives f → member f x ≡ true → route figure f x ≡ refused 8
binary16_refused {f} figure x h m = let a = admits f (published_admitted 1 h) in premise_refused a (members x a m) figure (binary16_fails figure x h)

-- with the successor binary16 is let in
pub binary16_lead : {f : Format} → published_format 1 ≡ gives f → lead_premise f ≡ true
unfolding published_format lead_premise ◌and◌
binary16_lead {f} h = let same : binary16 ≡ f = cc in rw (← same) refl
