-- The premises of the routes, as facts on natural numbers that `omega` reads: the constants of the figures are within the format.
use Rattle.theory.proofs.Prelude.{ℕ, ◌≤◌, ◌<◌, ◌+◌, ◌^◌, ◌*◌, ◌-◌, true, false, Bool, not, ◌∙◌, ◌≡◌, sym, refl, subst, ap, le_trans, mul-le-mul_right, pow-zero, mul-one, arith, eqb, leb, ltb, ℤ, pos, le_z, ◌-ℤ◌, neg_ℤ, w32, SFits, to_z, of_z, ne_eqb, leb-true, leb-false, eqb-true, le-ltb, lt-ltb, ltb-true, eqb-false}
use Rattle.theory.proofs.Words.{◌and◌, Wide}
use Rattle.theory.proofs.Tests.{and_left, and_right, and_made, and_passed, not-true, refuted}
use Rattle.theory.proofs.Integers.{neg_above, neg_below, size_parts}
use Rattle.theory.proofs.Powers.{pow-add, pow_pos, pow_pred, pow_mono, pow_lt}
use Rattle.number.proofs.Prelude.{Format, Prepared, highest_place, above_zero, below_zero, member, magnitude, greatest, Usable, members, known}
use Rattle.number.specs.declared.Number.{Number}
use Rattle.format.specs.Formats.{exponents_admitted}
use Rattle.format.proofs.Signed.{apart, back, le_true, make_le}
use Rattle.format.proofs.Formats.{Admitted, distances}
use Rattle.number.proofs.Values.{emin_admitted, member_wide, member_greatest}
use Rattle.arithmetic.proofs.Prepared.{parts_above, parts_below}
use Rattle.rump.specs.declared.Figure.{Figure}
use Rattle.rump.specs.declared.Figure.TheVariants as figure
use Rattle.rump.specs.Figures.{one, lead_place}
use Rattle.rump.specs.Premises.{premise, first_premise, last_premise, next_premise, lead_premise, scaled_premise, premise_of}

pub first_power : (β : ℕ) → β ^ 1 ≡ β
first_power β = pow_pred β {k = 1} (omega arith) ∙ rw (pow-zero β) (mul-one β)

-- ---- the parts of an exponent as the code reads them
module _ (e : ℤ) {n : ℕ} where
  pub below_read : n ≡ below_zero (to_z w32 (of_z w32 e)) → SFits w32 e → n ≡ below_zero e
  below_read h fits = h ∙ ap below_zero (back fits)

  pub above_read : n ≡ above_zero (to_z w32 (of_z w32 e)) → SFits w32 e → n ≡ above_zero e
  above_read h fits = h ∙ ap above_zero (back fits)

pub emin_read : {f : Format} → Admitted f → SFits w32 f.emin → exponents_admitted (to_z w32 (of_z w32 f.emin)) (to_z w32 (of_z w32 f.emin)) ≡ true
emin_read a fits = rw (back fits) (emin_admitted a)

-- Emin ≤ -p and p ≤ Emax
pub record Reach (f : Format) : Type 0 where
  pub low : f.digits ≤ below_zero f.emin
  pub high : f.digits ≤ above_zero f.emax
  pub not_above : above_zero f.emin ≡ 0
  -- Emax - Emin
  pub span : highest_place f ≡ above_zero f.emax + below_zero f.emin

module _ {f : Format} (a : Admitted f) where
  pub reach : premise f ≡ true → Reach f
  unfolding premise
  reach h =
      let l = le_true f.emin (neg_ℤ (pos f.digits)) (and_left _ _ h) in
      let u = le_true (pos f.digits) f.emax (and_right _ _ h) in
      let d = distances a.range in
      let n = a.digits_low in
      let na = neg_above (pos f.digits) in
      let nb = neg_below (pos f.digits) in
      let ea = apart f.emin in
      let eb = apart f.emax in
      let pa = parts_above f.emin in
      let pb = parts_below f.emin in
      let qa = parts_above f.emax in
      record {
        low = omega arith;
        high = omega arith;
        not_above = omega arith;
        span = omega (arith, size_parts (f.emax -ℤ f.emin));
      }

  premise_made : f.digits ≤ below_zero f.emin → f.digits ≤ above_zero f.emax → premise f ≡ true
  unfolding premise
  premise_made l h =
      and_made
      (make_le f.emin (neg_ℤ (pos f.digits)) (omega (arith, neg_above (pos f.digits), neg_below (pos f.digits), apart f.emin, parts_below f.emin)))
      (make_le (pos f.digits) f.emax (omega (arith, apart f.emax, parts_above f.emax)))

  -- the second test decides where the first is passed
  pub premise_by : f.digits ≤ below_zero f.emin → leb f.digits (above_zero f.emax) ≡ premise f
  premise_by l = go (leb f.digits (above_zero f.emax)) refl
    where
      go : (t : Bool) → leb f.digits (above_zero f.emax) ≡ t → t ≡ premise f
      go true e = sym (premise_made l (leb-true _ _ e))
      go false e =
          let l : above_zero f.emax < f.digits = leb-false _ _ e in
          refuted (λ h. omega (arith, (reach h).high))

  -- ---- powers of the base within the format
  pub one_positive : 1 ≤ one f
  one_positive = pow_pos a.base_low (below_zero f.emin)

  pub power_most : (k : ℕ) → k ≤ highest_place f → f.base ^ k ≤ greatest f
  unfolding greatest
  power_most k h =
      let lead : 1 ≤ f.base ^ f.digits - 1 = omega (arith, pow-zero f.base, pow_lt a.base_low {i = 0} {j = f.digits} a.digits_low) in
      omega (arith, pow_mono a.base_low h, mul-le-mul_right (f.base ^ highest_place f) lead)

  pub constant_most : Reach f → (k : ℕ) → k ≤ f.digits → f.base ^ k * one f ≤ greatest f
  constant_most r k h =
      subst (λ (n : ℕ). n ≤ greatest f) (pow-add f.base k (below_zero f.emin)) (power_most (k + below_zero f.emin) (omega (arith, r.high, r.span)))

-- ---- the magnitude n that a route is run on
-- figure 1
pub record First (f : Format) (n : ℕ) : Type 0 where
  pub admits : Admitted f
  pub reach : Reach f
  pub bound : n < f.base ^ (highest_place f + 1 - f.digits)

-- figures 3, 4 and 5
pub record Last (f : Format) (n : ℕ) : Type 0 where
  pub admits : Admitted f
  pub reach : Reach f
  pub wide : Wide f.base f.digits n
  pub some : 1 ≤ n
  pub less : n < greatest f

module _ {q : Prepared} (u : Usable q) (x : Number) where
  pub first : first_premise q.format x ≡ true → First q.format (magnitude q.format x)
  unfolding first_premise
  first h =
      let a = (known u).admits in
      record { admits = a; reach = reach a (and_left _ _ h); bound = ltb-true _ _ (and_right _ _ h) }

  pub last : member q.format x ≡ true → last_premise q.format x ≡ true → Last q.format (magnitude q.format x)
  unfolding last_premise
  last m h =
      let a = (known u).admits in
      let i = members x a m in
      let rest = and_right _ _ h in
      let not_zero : (magnitude q.format x ≡ 0 → ⊥) = eqb-false _ _ (not-true (and_left _ _ rest)) in
      let not_greatest : (magnitude q.format x ≡ greatest q.format → ⊥) = eqb-false _ _ (not-true (and_right _ _ rest)) in
      record {
        admits = a;
        reach = reach a (and_left _ _ h);
        wide = member_wide a i;
        some = omega arith;
        less = omega (arith, member_greatest a i);
      }

-- ---- how they are decided
-- the premise of each figure is one of the format too
pub of_format : (figure : Figure) (f : Format) (x : Number) → premise_of figure f x ≡ true → premise f ≡ true
unfolding first_premise last_premise
of_format figure.First f x h = and_left _ _ h
of_format figure.Third f x h = and_left _ _ h
of_format figure.Fourth f x h = and_left _ _ h
of_format figure.Fifth f x h = and_left _ _ h

pub first_by : (f : Format) (x : Number) → premise f ≡ true → ltb (magnitude f x) (f.base ^ (highest_place f + 1 - f.digits)) ≡ first_premise f x
unfolding first_premise ◌and◌
first_by f x h = rw (h, ◌and◌)

-- the last premise besides that of the format
pub last_of : (f : Format) (x : Number) → premise f ≡ true → next_premise f x ≡ last_premise f x
unfolding next_premise last_premise
last_of f x h = sym (and_passed _ h)

-- ---- with the successor
module _ (f : Format) (x : Number) where
  pub next_some : next_premise f x ≡ true → 1 ≤ magnitude f x
  unfolding next_premise
  next_some h = let n : (magnitude f x ≡ 0 → ⊥) = eqb-false _ _ (not-true (and_left _ _ h)) in omega arith

  pub next_less : magnitude f x ≤ greatest f → next_premise f x ≡ true → magnitude f x < greatest f
  unfolding next_premise
  next_less l h = let n : (magnitude f x ≡ greatest f → ⊥) = eqb-false _ _ (not-true (and_right _ _ h)) in omega arith

  pub next_by : 1 ≤ magnitude f x → magnitude f x ≤ greatest f → ltb (magnitude f x) (greatest f) ≡ next_premise f x
  unfolding next_premise ◌and◌
  next_by some most = rw (ne_eqb (magnitude f x) 0 (λ e. omega arith), ◌and◌) (go (eqb (magnitude f x) (greatest f)) refl)
    where
      go : (t : Bool) → eqb (magnitude f x) (greatest f) ≡ t → ltb (magnitude f x) (greatest f) ≡ not t
      go true e = let n : magnitude f x ≡ greatest f = eqb-true _ _ e in le-ltb (magnitude f x) (greatest f) (omega arith)
      go false e = let n : (magnitude f x ≡ greatest f → ⊥) = eqb-false _ _ e in lt-ltb (magnitude f x) (greatest f) (omega arith)

  pub scaled_lead : scaled_premise f x ≡ true → lead_premise f ≡ true
  unfolding scaled_premise
  scaled_lead h = and_left _ _ h

  pub scaled_some : scaled_premise f x ≡ true → 1 ≤ magnitude f x
  unfolding scaled_premise
  scaled_some h = let n : (magnitude f x ≡ 0 → ⊥) = eqb-false _ _ (not-true (and_left _ _ (and_right _ _ h))) in omega arith

  pub scaled_less : scaled_premise f x ≡ true → magnitude f x * f.base ^ (f.digits - 1) < greatest f
  unfolding scaled_premise
  scaled_less h = ltb-true _ _ (and_right _ _ (and_right _ _ h))

  pub scaled_made : lead_premise f ≡ true → 1 ≤ magnitude f x → magnitude f x * f.base ^ (f.digits - 1) < greatest f → scaled_premise f x ≡ true
  unfolding scaled_premise
  scaled_made o some less = and_made o (and_made (ap not (ne_eqb (magnitude f x) 0 (λ e. omega arith))) (lt-ltb _ _ less))

-- Emin ≤ p - 1 and 0 ≤ Emax
pub record Lead (f : Format) : Type 0 where
  pub low : above_zero f.emin ≤ f.digits - 1
  pub high : below_zero f.emin ≤ highest_place f

module _ {f : Format} (a : Admitted f) where
  pub led : lead_premise f ≡ true → Lead f
  unfolding lead_premise
  led h =
      let l = le_true f.emin (pos (f.digits - 1)) (and_left _ _ h) in
      let u = le_true (pos 0) f.emax (and_right _ _ h) in
      let d = distances a.range in
      let ea = apart f.emin in
      let eb = apart f.emax in
      let pa = parts_above f.emin in
      let pb = parts_below f.emin in
      record { low = omega arith; high = omega (arith, size_parts (f.emax -ℤ f.emin)) }

  -- the second test decides where the first is passed
  pub lead_by : above_zero f.emin ≤ f.digits - 1 → le_z (pos 0) f.emax ≡ lead_premise f
  unfolding lead_premise
  lead_by l = sym (and_passed _ (make_le f.emin (pos (f.digits - 1)) (omega (arith, apart f.emin, parts_above f.emin))))

  -- at the place that the greatest number has, or below it
  pub lead_most : Lead f → f.base ^ lead_place f ≤ greatest f
  unfolding greatest
  lead_most o =
      let most : lead_place f ≤ f.digits - 1 + highest_place f = omega (arith, o.high) in
      let digit : f.base ^ (f.digits - 1) ≤ f.base ^ f.digits - 1 = omega (arith, pow_lt a.base_low {i = f.digits - 1} {j = f.digits} (omega (arith, a.digits_low))) in
      le_trans (pow_mono a.base_low most)
      (subst (λ (n : ℕ). n ≤ (f.base ^ f.digits - 1) * f.base ^ highest_place f) (sym (pow-add f.base (f.digits - 1) (highest_place f)))
      (mul-le-mul_right (f.base ^ highest_place f) digit))

  -- times β ^ Emin it is β ^ (p - 1)
  pub lead_unit : Lead f → f.base ^ lead_place f * f.base ^ above_zero f.emin ≡ f.base ^ (f.digits - 1) * one f
  lead_unit o =
      let same : lead_place f + above_zero f.emin ≡ f.digits - 1 + below_zero f.emin = omega (arith, o.low) in
      sym (pow-add f.base (lead_place f) (above_zero f.emin)) ∙ ap (λ (k : ℕ). f.base ^ k) same ∙ pow-add f.base (f.digits - 1) (below_zero f.emin)
