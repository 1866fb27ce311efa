-- The numbers of a format: what membership says, as facts that `omega` reads, and how it is made.
use Rattle.theory.proofs.Prelude.{◌≤◌, ◌<◌, ◌^◌, ◌-◌, true, false, Bool, ⊎_elim, ◌∙◌, ap, ◌≡◌, sym, refl, subst, arith, eqb, leb, ltb, ℤ, le_z, eq-eqb, le-leb, leb-true, leb-false, eqb-true, lt-ltb, ltb-true, eqb-false}
use Rattle.theory.specs.Tests.{◌and◌, ◌or◌}
use Rattle.theory.proofs.Tests.{never, and_left, and_right, and_made, or_cases, or_left, or_right, refuted}
use Rattle.theory.proofs.Integers.{above, below, parts_eq}
use Rattle.theory.proofs.Powers.{pow_pos}
use Rattle.format.specs.declared.Format.{Format}
use Rattle.format.specs.declared.Prepared.{Prepared}
use Rattle.format.specs.Formats.{admitted, prepared_of, highest_place, Scaled}
use Rattle.format.proofs.Signed.{Upto, le_true, make_le}
use Rattle.format.proofs.Formats.{Admitted, admits, least_bound, scaled}
use Rattle.number.specs.declared.Number.{Number}
use Rattle.number.specs.Checks.{Usable, member_of}
use Rattle.number.specs.Numbers.{equal_z, normal, small, is_zero, member}

pub equal_true : (a b : ℤ) → equal_z a b ≡ true → a ≡ b
unfolding equal_z
equal_true a b h = parts_eq a b (omega (arith, le_true a b (and_left _ _ h), le_true b a (and_right _ _ h)))

make_equal : (a b : ℤ) → Upto a b → Upto b a → equal_z a b ≡ true
unfolding equal_z
make_equal a b h k = and_made (make_le a b h) (make_le b a k)

pub equal_made : {a b : ℤ} → a ≡ b → equal_z a b ≡ true
equal_made {a} {b} e = make_equal a b (omega (arith, ap above e, ap below e)) (omega (arith, ap above e, ap below e))

pub record Member (f : Format) (x : Number) : Type 0 where
  pub significand_high : x.significand < f.base ^ f.digits
  pub exponent_low : Upto f.emin x.exponent
  pub exponent_high : Upto x.exponent f.emax
  -- a small number stands at emin
  pub small_place : x.significand < f.base ^ (f.digits - 1) → Upto x.exponent f.emin

pub least_positive : {f : Format} → Admitted f → 1 ≤ f.base ^ (f.digits - 1)
least_positive {f} a = pow_pos a.base_low (f.digits - 1)

module _ {f : Format} (x : Number) (a : Admitted f) where
  at_emin : x.exponent ≡ f.emin → x.significand < f.base ^ f.digits → Member f x
  at_emin e h =
      let p : above x.exponent ≡ above f.emin = ap above e in
      let m : below x.exponent ≡ below f.emin = ap below e in
      let r = a.range in
      record {
        significand_high = h;
        exponent_low = omega arith;
        exponent_high = omega arith;
        small_place = λ s. omega arith;
      }

  of_normal : normal f x ≡ true → Member f x
  unfolding normal
  of_normal h₁ =
      let l : f.base ^ (f.digits - 1) ≤ x.significand = leb-true _ _ (and_left _ _ h₁) in
      let h₂ = and_right _ _ h₁ in
      let h₃ = and_right _ _ h₂ in
      let u : x.significand ≤ f.base ^ f.digits - 1 = leb-true _ _ (and_left _ _ h₂) in
      record {
        significand_high = omega (arith, least_positive a, least_bound a);
        exponent_low = le_true f.emin x.exponent (and_left _ _ h₃);
        exponent_high = le_true x.exponent f.emax (and_right _ _ h₃);
        small_place = λ s. absurd (omega arith);
      }

  of_small : small f x ≡ true → Member f x
  unfolding small
  of_small h₁ =
      let p : 1 ≤ x.significand = leb-true _ _ (and_left _ _ h₁) in
      let h₂ = and_right _ _ h₁ in
      let u : x.significand < f.base ^ (f.digits - 1) = ltb-true _ _ (and_left _ _ h₂) in
      at_emin (equal_true _ _ (and_right _ _ h₂)) (omega (arith, least_bound a))

  of_zero : is_zero f x ≡ true → Member f x
  unfolding is_zero
  of_zero h₁ =
      let z : x.significand ≡ 0 = eqb-true _ _ (and_left _ _ h₁) in
      at_emin (equal_true _ _ (and_right _ _ h₁)) (omega (arith, least_bound a, least_positive a))

  pub members : member f x ≡ true → Member f x
  unfolding member
  members h = ⊎_elim of_normal (λ k. ⊎_elim of_small of_zero (or_cases _ _ k)) (or_cases _ _ h)

  pub member_made : Member f x → member f x ≡ true
  unfolding member normal small is_zero
  member_made i = by_least (leb (f.base ^ (f.digits - 1)) x.significand) refl
    where
      as_zero : x.significand ≡ 0 → Upto x.exponent f.emin → is_zero f x ≡ true
      as_zero z e = and_made (eq-eqb _ _ z) (make_equal x.exponent f.emin e i.exponent_low)

      as_small : (x.significand ≡ 0 → ⊥) → x.significand < f.base ^ (f.digits - 1) → small f x ≡ true
      as_small z s = and_made (le-leb 1 x.significand (omega arith)) (and_made (lt-ltb _ _ s) (make_equal x.exponent f.emin (i.small_place s) i.exponent_low))

      as_normal : f.base ^ (f.digits - 1) ≤ x.significand → normal f x ≡ true
      as_normal l =
          and_made (le-leb _ _ l)
          (and_made (le-leb x.significand (f.base ^ f.digits - 1) (omega (arith, i.significand_high)))
          (and_made (make_le f.emin x.exponent i.exponent_low)
          (make_le x.exponent f.emax i.exponent_high)))

      by_zero : (t : Bool) → eqb x.significand 0 ≡ t → x.significand < f.base ^ (f.digits - 1) → normal f x or small f x or is_zero f x ≡ true
      by_zero true z s = or_right (normal f x) (or_right (small f x) (as_zero (eqb-true _ _ z) (i.small_place s)))
      by_zero false z s = or_right (normal f x) (or_left (is_zero f x) (as_small (eqb-false _ _ z) s))

      by_least : (t : Bool) → leb (f.base ^ (f.digits - 1)) x.significand ≡ t → normal f x or small f x or is_zero f x ≡ true
      by_least true l = or_left (small f x or is_zero f x) (as_normal (leb-true _ _ l))
      by_least false l = by_zero (eqb x.significand 0) refl (leb-false _ _ l)

  -- the test of a prepared format is membership
  pub member_prepared : member_of (prepared_of f) x ≡ member f x
  unfolding member_of
  member_prepared = by (member_of (prepared_of f) x) refl
    where
      made : member_of (prepared_of f) x ≡ true → Member f x
      made h = ⊎_elim least few (or_cases _ _ h)
        where
          least : leb (f.base ^ (f.digits - 1)) x.significand and ltb x.significand (f.base ^ f.digits) and le_z f.emin x.exponent and le_z x.exponent f.emax ≡ true → Member f x
          least h₁ =
              let l : f.base ^ (f.digits - 1) ≤ x.significand = leb-true _ _ (and_left _ _ h₁) in
              let h₂ = and_right _ _ h₁ in
              let h₃ = and_right _ _ h₂ in
              record {
                significand_high = ltb-true _ _ (and_left _ _ h₂);
                exponent_low = le_true f.emin x.exponent (and_left _ _ h₃);
                exponent_high = le_true x.exponent f.emax (and_right _ _ h₃);
                small_place = λ s. absurd (omega arith);
              }

          few : equal_z x.exponent f.emin and ltb x.significand (f.base ^ (f.digits - 1)) ≡ true → Member f x
          few h₁ = at_emin (equal_true _ _ (and_left _ _ h₁)) (omega (arith, least_bound a, ltb-true x.significand (f.base ^ (f.digits - 1)) (and_right _ _ h₁)))

      holds : Member f x → member_of (prepared_of f) x ≡ true
      holds i = go (leb (f.base ^ (f.digits - 1)) x.significand) refl
        where
          go : (l : Bool) → leb (f.base ^ (f.digits - 1)) x.significand ≡ l
              → l and ltb x.significand (f.base ^ f.digits) and le_z f.emin x.exponent and le_z x.exponent f.emax
              or equal_z x.exponent f.emin and ltb x.significand (f.base ^ (f.digits - 1)) ≡ true
          go true e =
              or_left _ (and_made refl (and_made (lt-ltb _ _ i.significand_high) (and_made (make_le f.emin x.exponent i.exponent_low) (make_le x.exponent f.emax i.exponent_high))))
          go false e =
              let s = leb-false _ _ e in
              or_right _ (and_made (make_equal x.exponent f.emin (i.small_place s) i.exponent_low) (lt-ltb _ _ s))

      by : (t : Bool) → member_of (prepared_of f) x ≡ t → t ≡ member f x
      by true h = sym (member_made (made h))
      by false h = refuted (λ m. never (sym (holds (members m)) ∙ h))

-- ---- a prepared format in place of the format
pub record Known (q : Prepared) : Type 0 where
  pub admits : Admitted q.format
  pub base : q.scale.base ≡ q.format.base
  pub digits : q.scale.digits ≡ q.format.digits
  pub least : q.scale.least ≡ q.format.base ^ (q.format.digits - 1)
  pub bound : q.scale.bound ≡ q.format.base ^ q.format.digits
  pub highest : q.highest ≡ highest_place q.format

pub known : {q : Prepared} → Usable q → Known q
known {q} u =
    record {
      admits = admits q.format u.format;
      base = ap (λ (r : Prepared). r.scale.base) u.is;
      digits = ap (λ (r : Prepared). r.scale.digits) u.is;
      least = ap (λ (r : Prepared). r.scale.least) u.is;
      bound = ap (λ (r : Prepared). r.scale.bound) u.is;
      highest = ap (λ (r : Prepared). r.highest) u.is;
    }

pub usable_scaled : {q : Prepared} → Usable q → Scaled q.scale
usable_scaled {q} u = subst Scaled (sym (ap (λ (r : Prepared). r.scale) u.is)) (scaled (admits q.format u.format))

-- ---- a format and the same format prepared
module _ {q : Prepared} {f : Format} (e : q ≡ prepared_of f) where
  pub prepared_format : q.format ≡ f
  prepared_format = ap (λ (r : Prepared). r.format) e

  -- a number of the one is a number of the other
  pub prepared_member : (x : Number) → member f x ≡ true → member q.format x ≡ true
  prepared_member x h = ap (λ (g : Format). member g x) prepared_format ∙ h

pub usable : {q : Prepared} {f : Format} → admitted f ≡ true → q ≡ prepared_of f → Usable q
usable h e = record { format = ap admitted (prepared_format e) ∙ h; is = e ∙ ap prepared_of (sym (prepared_format e)) }
