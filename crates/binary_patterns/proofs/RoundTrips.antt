-- What is read is in the format of the widths, every finite pattern comes back when it is read and written, and every number of that
-- format when it is written and read.
use Rattle.theory.proofs.Prelude.{ℕ, ◌≤◌, ◌<◌, ◌+◌, ◌^◌, ◌*◌, ◌-◌, suc, true, false, Bool, not, [], ◌∷◌, ⊎_elim, ◌∙◌, ap, ◌≡◌, sym, refl, ap₂, subst, dec_le, mul-le-mul_right, arith, ne_eqb, eq-eqb}
use native.Mathlib.Nat.{suc-mul}
use Rattle.theory.specs.Lists.{all}
use Rattle.theory.specs.Tests.{◌and◌, unless}
use Rattle.theory.specs.Wide.{Wide}
use Rattle.theory.specs.Signed.{signed}
use Rattle.theory.proofs.Tests.{and_made, unless_passed, unless_failed}
use Rattle.theory.proofs.Canonical.{canonical_wide}
use Rattle.format.specs.declared.Format.{Format}
use Rattle.format.specs.Given.{gives, refused}
use Rattle.format.proofs.GivenLaws.{gives_not_refused, refused_same, unless_gives}
use Rattle.number.specs.declared.Number.{Number}
use Rattle.number.specs.Numbers.{member, place_of, magnitude, value, number, greatest}
use Rattle.number.specs.Patterns.{weight_above}
use Rattle.number.specs.Checks.{checked}
use Rattle.number.proofs.Membership.{Member, members, member_made}
use Rattle.number.proofs.Values.{written, place_there, canonical_within, member_canonical, member_highest, number_of, number_magnitude, number_value, number_member}
use Rattle.number.proofs.CheckLaws.{checked_passed}
use Rattle.number.proofs.PatternLaws.{sign_most}
use Rattle.binary_patterns.specs.Patterns.{format_of, sign_of, field_of, fraction_of, finite, magnitude_read, number_read, pattern_read, pattern_of, pattern_written}
use Rattle.binary_patterns.proofs.Fields.{Widths, limits, digits, highest, sign_weight_law, digit_weight, Parts, parts, parts_joined, significand_of, pattern_canonical, joined, magnitude_is, finite_field, finite_made, endless_field, number_read_law}

-- the pattern n is finite, and x is its number
pub record Reads (w t n : ℕ) (x : Number) : Type 0 where
  pub finite : finite w t n ≡ true
  pub is : x ≡ number_read w t n

module _ (w t n : ℕ) where
  pub reads : {x : Number} → pattern_read w t n ≡ gives x → Reads w t n x
  unfolding pattern_read
  reads h = let g = unless_gives (finite w t n) 9 h in record { finite = g.0; is = g.1 }

  pub read_made : finite w t n ≡ true → pattern_read w t n ≡ gives (number_read w t n)
  unfolding pattern_read
  read_made h = unless_passed _ _ h

  -- reading refuses exactly the patterns whose field is all ones, by 9
  pub read_refused : field_of w t n ≡ 2 ^ w - 1 → pattern_read w t n ≡ refused 9
  unfolding pattern_read finite
  read_refused e = unless_failed _ _ (ap not (eq-eqb (field_of w t n) (2 ^ w - 1) e))

  pub refused_endless : {k : ℕ} → pattern_read w t n ≡ refused k → (k ≡ 9) × (field_of w t n ≡ 2 ^ w - 1)
  refused_endless {k} h = by (finite w t n) refl
    where
      by : (b : Bool) → finite w t n ≡ b → (k ≡ 9) × (field_of w t n ≡ 2 ^ w - 1)
      by true e = absurd (gives_not_refused (sym (read_made e) ∙ h))
      by false e = let field = endless_field w t n e in (refused_same (sym h ∙ read_refused field), field)

module _ {w t : ℕ} (l : Widths w t) where
  abbrev f : Format
  f = format_of w t

  -- ---- what is read
  module _ (n : ℕ) where
    -- the magnitude of a pattern is one of the wide format, and that of a finite one is at most the greatest
    read_wide : Wide 2 (suc t) (magnitude_read w t n)
    read_wide = rw (magnitude_is w t n) (canonical_wide (digits l) (pattern_canonical w t n))

    read_within : finite w t n ≡ true → magnitude_read w t n ≤ greatest f
    read_within h =
        rw (magnitude_is w t n) (canonical_within (limits l) (pattern_canonical w t n) (omega (arith, finite_field w t n h, highest l)))

    pub read_inside : {x : Number} → Reads w t n x → Member f x
    unfolding number_read
    read_inside r = rw r.is (number_member (limits l) read_wide (sign_of w t n) (read_within r.finite))

    -- what is read is in the format
    pub read_member : {x : Number} → pattern_read w t n ≡ gives x → member f x ≡ true
    read_member {x} h = member_made x (limits l) (read_inside (reads w t n h))

    -- and has the value that its parts say
    pub read_value : {x : Number} → pattern_read w t n ≡ gives x → value f x ≡ signed (sign_of w t n) (magnitude_read w t n)
    unfolding number_read
    read_value h = ap (value f) (reads w t n h).is ∙ number_value (limits l) read_wide (sign_of w t n)

    pub read_magnitude : {x : Number} → pattern_read w t n ≡ gives x → magnitude f x ≡ magnitude_read w t n
    unfolding number_read
    read_magnitude h = ap (magnitude f) (reads w t n h).is ∙ number_magnitude (limits l) read_wide (sign_of w t n)

    pub read_sign : {x : Number} → pattern_read w t n ≡ gives x → x.negative ≡ sign_of w t n
    unfolding number_read number
    read_sign h = ap (λ (y : Number). y.negative) (reads w t n h).is

  -- ---- what is written
  pub written_made : (x : Number) → member f x ≡ true → pattern_written w t x ≡ gives (pattern_of w t x)
  unfolding pattern_written all
  written_made x h = checked_passed f [] (x ∷ []) _ l.format refl (and_made h refl)

  -- writing refuses exactly the numbers that are not in the format, by 3
  pub written_refused : (x : Number) → member f x ≡ false → pattern_written w t x ≡ refused 3
  unfolding pattern_written checked all unless ◌and◌
  written_refused x h = rw (l.format, h, ◌and◌)

  pub refused_outside : (x : Number) {k : ℕ} → pattern_written w t x ≡ refused k → (k ≡ 3) × (member f x ≡ false)
  refused_outside x {k} h = by (member f x) refl
    where
      by : (b : Bool) → member f x ≡ b → (k ≡ 3) × (b ≡ false)
      by true e = absurd (gives_not_refused (sym (written_made x e) ∙ h))
      by false e = (refused_same (sym h ∙ written_refused x e), refl)

  -- the pattern of a significand at a place
  pattern_at_law : (s : Bool) (m k : ℕ) → pattern_of w t (written f s m k) ≡ weight_above (w + t) s + k * 2 ^ t + m
  unfolding pattern_of
  pattern_at_law s m k = rw (place_there _ k)

  -- ---- read and written
  module _ (n : ℕ) (h : n < 2 ^ suc (w + t)) where
    pub pattern_back : pattern_of w t (number_read w t n) ≡ n
    pattern_back =
        ap (pattern_of w t) (number_read_law l n)
        ∙ pattern_at_law (sign_of w t n) _ _
        ∙ omega (arith, parts_joined w t n h, joined t (field_of w t n) (fraction_of w t n))

    -- every finite pattern comes back
    pub read_written : {x : Number} → pattern_read w t n ≡ gives x → pattern_written w t x ≡ gives n
    read_written {x} r = written_made x (read_member n r) ∙ ap gives (ap (pattern_of w t) (reads w t n r).is ∙ pattern_back)

  -- ---- written and read
  -- a number with these parts has this magnitude
  module _ {s : Bool} {E F n : ℕ} (p : Parts w t s E F n) where
    parts_number : number_read w t n ≡ number f s (significand_of t E F * 2 ^ (E - 1))
    unfolding number_read
    parts_number = ap₂ (number f) p.sign (magnitude_is w t n ∙ rw (p.field, p.fraction))

    parts_read : suc E < 2 ^ w → pattern_read w t n ≡ gives (number f s (significand_of t E F * 2 ^ (E - 1)))
    parts_read h = read_made w t n (finite_made w t n (omega (arith, p.field))) ∙ ap gives parts_number

  module _ (x : Number) (i : Member f x) where
    -- a small number is at place 0
    flat : x.significand < 2 ^ t → place_of f x ≡ 0
    flat h = ⊎_elim (λ e. e) (λ m. absurd (omega (arith, digit_weight t))) (member_canonical (limits l) i).normal

    small_parts : x.significand < 2 ^ t → Parts w t x.negative 0 x.significand (pattern_of w t x)
    unfolding pattern_of
    small_parts h = subst (Parts w t x.negative 0 x.significand) (rw (flat h) (omega arith)) (parts w t x.negative {E = 0} (omega (arith, highest l)) h)

    normal_parts : 2 ^ t ≤ x.significand → Parts w t x.negative (suc (place_of f x)) (x.significand - 2 ^ t) (pattern_of w t x)
    unfolding pattern_of
    normal_parts h =
        subst (Parts w t x.negative (suc (place_of f x)) (x.significand - 2 ^ t)) (omega (arith, suc-mul (place_of f x) (2 ^ t)))
        (parts w t x.negative {E = suc (place_of f x)} {F = x.significand - 2 ^ t}
        (omega (arith, member_highest (limits l) i, highest l)) (omega (arith, i.significand_high, digit_weight t)))

    parts_back : {E F : ℕ} → Parts w t x.negative E F (pattern_of w t x) → suc E < 2 ^ w → significand_of t E F * 2 ^ (E - 1) ≡ magnitude f x
        → pattern_read w t (pattern_of w t x) ≡ gives x
    parts_back p h e =
        parts_read p h
        ∙ ap gives (ap (number f x.negative) e ∙ number_of (limits l) i x.negative)

    back : pattern_read w t (pattern_of w t x) ≡ gives x
    unfolding magnitude
    back = by (dec_le (2 ^ t) x.significand)
      where
        by : Dec (2 ^ t ≤ x.significand) → pattern_read w t (pattern_of w t x) ≡ gives x
        by (yes h) =
            let whole : 2 ^ t + (x.significand - 2 ^ t) ≡ x.significand = omega arith in
            let place : suc (place_of f x) - 1 ≡ place_of f x = omega arith in
            parts_back (normal_parts h) (omega (arith, member_highest (limits l) i, highest l))
            (rw (ne_eqb (suc (place_of f x)) 0 (λ e. omega arith), whole, place))
        by (no h) = parts_back (small_parts (omega arith)) (omega (arith, highest l)) (rw (flat (omega arith)))

  -- every number of the format comes back
  pub written_read : (x : Number) → member f x ≡ true → pattern_read w t (pattern_of w t x) ≡ gives x
  written_read x h = back x (members x (limits l) h)

  -- what is written has 1 + w + t bits
  pub pattern_less : (x : Number) → Member f x → pattern_of w t x < 2 ^ suc (w + t)
  unfolding pattern_of
  pattern_less x i =
      let place : (place_of f x + 3) * 2 ^ t ≤ 2 ^ w * 2 ^ t = mul-le-mul_right (2 ^ t) (omega (arith, member_highest (limits l) i, highest l)) in
      omega (arith, sign_most (w + t) x.negative, i.significand_high, digit_weight t, digit_weight (w + t), sign_weight_law w t)
