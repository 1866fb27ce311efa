-- Laws of tests: what a test that passed or failed says, and how it is made.
use Rattle.theory.proofs.Prelude.{ℕ, true, false, Bool, not, inl, inr, ◌⊎◌, ◌≡◌, sym, refl, arith}
use mathlib.Core.Bool.{◌||◌}
use Rattle.theory.specs.Tests.{◌and◌, ◌or◌, unless}

-- true is not false
pub never : true ≡ false → ⊥
never e = let z : ◌≡◌ {A = ℕ} 0 1 = cc in omega arith

pub and_left : (a b : Bool) → a and b ≡ true → a ≡ true
unfolding ◌and◌
and_left true b h = refl
and_left false b h = h

pub and_right : (a b : Bool) → a and b ≡ true → b ≡ true
unfolding ◌and◌
and_right true b h = h
and_right false b h = absurd (never (sym h))

pub and_made : {a b : Bool} → a ≡ true → b ≡ true → a and b ≡ true
unfolding ◌and◌
and_made {a} {b} h k = rw (h, k, ◌and◌)

-- by the first of the two
pub and_failed : {a : Bool} (b : Bool) → a ≡ false → a and b ≡ false
unfolding ◌and◌
and_failed b h = rw (h, ◌and◌)

pub and_passed : {a : Bool} (b : Bool) → a ≡ true → a and b ≡ b
unfolding ◌and◌
and_passed b h = rw (h, ◌and◌)

pub or_cases : (a b : Bool) → a or b ≡ true → (a ≡ true) ⊎ (b ≡ true)
unfolding ◌or◌
or_cases true b h = inl refl
or_cases false b h = inr h

pub or_left : {a : Bool} (b : Bool) → a ≡ true → a or b ≡ true
unfolding ◌or◌
or_left b h = rw (h, ◌or◌)

pub or_right : (a : Bool) {b : Bool} → b ≡ true → a or b ≡ true
unfolding ◌or◌
or_right true h = refl
or_right false h = h

pub or_neither : (a b : Bool) → a or b ≡ false → (a ≡ false) × (b ≡ false)
unfolding ◌or◌
or_neither true b h = absurd (never h)
or_neither false b h = (refl, h)

-- the same of the code's `|`
pub either : (a b : Bool) → a || b ≡ true → (a ≡ true) ⊎ (b ≡ true)
either true b h = inl refl
either false b h = inr h

pub neither : (a b : Bool) → a || b ≡ false → (a ≡ false) × (b ≡ false)
neither true b h = absurd (never h)
neither false b h = (refl, h)

pub not-true : {t : Bool} → not t ≡ true → t ≡ false
not-true {t = true} h = sym h
not-true {t = false} h = refl

-- a test is false where it cannot be true
pub refuted : {t : Bool} → (t ≡ true → ⊥) → false ≡ t
refuted {t = true} h = absurd (h refl)
refuted {t = false} h = refl

-- what a call's answer r, known to be t, says where the code tests `!r`
pub denied : {r t : Bool} → r ≡ t → not r ≡ true → t ≡ false
denied {r = true} {t = true} e h = sym h
denied {r = true} {t = false} e h = refl
denied {r = false} {t = true} e h = sym e
denied {r = false} {t = false} e h = refl

pub granted : {r t : Bool} → r ≡ t → not r ≡ false → t ≡ true
granted {r = true} {t = true} e h = refl
granted {r = true} {t = false} e h = sym e
granted {r = false} {t = true} e h = refl
granted {r = false} {t = false} e h = sym h

-- a choice by a test that is known
pub unless_passed : {A : Type 0} {t : Bool} (refused go_on : A) → t ≡ true → unless t refused go_on ≡ go_on
unfolding unless
unless_passed refused go_on h = rw (h, unless)

pub unless_failed : {A : Type 0} {t : Bool} (refused go_on : A) → t ≡ false → unless t refused go_on ≡ refused
unfolding unless
unless_failed refused go_on h = rw (h, unless)
