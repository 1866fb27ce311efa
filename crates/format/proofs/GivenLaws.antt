-- What a call gives is one thing: values are no refusal.
use Rattle.theory.proofs.Prelude.{ℕ, true, false, Bool, ◌≡◌, refl, arith}
use Rattle.theory.specs.Tests.{unless}
use Rattle.std.specs.Prelude.{Result, Ok, Err}
use Rattle.format.specs.declared.Refusal.{Refusal}
use Rattle.format.specs.Given.{Given, gives, refused, refused_at, given}

pub gives_same : {A : Type 0} {x y : A} → gives x ≡ gives y → x ≡ y
gives_same h = cc

pub refused_same : {A : Type 0} {m n : ℕ} → ◌≡◌ {A = Given A} (refused m) (refused n) → m ≡ n
refused_same h = cc

pub gives_not_refused : {A : Type 0} {x : A} {n : ℕ} → gives x ≡ refused n → ⊥
gives_not_refused h = let z : ◌≡◌ {A = ℕ} 0 1 = cc in omega arith

pub gives_not_refused_at : {A : Type 0} {x : A} {n i : ℕ} → gives x ≡ refused_at n i → ⊥
gives_not_refused_at h = let z : ◌≡◌ {A = ℕ} 0 1 = cc in omega arith

-- what is given after a test that may refuse
pub unless_gives : {A : Type 0} (t : Bool) (n : ℕ) {x y : A} → unless t (refused n) (gives x) ≡ gives y → (t ≡ true) × (y ≡ x)
unfolding unless
unless_gives true n h = (refl, cc)
unless_gives false n h = absurd (let z : ◌≡◌ {A = ℕ} 0 1 = cc in omega arith)

-- from what a call gives its answer follows
pub given_value : {A : Type 0} (r : Result A Refusal) {x : A} → given r ≡ gives x → r ≡ Ok x
given_value (Ok y) h = cc
given_value (Err why) h = absurd (let z : ◌≡◌ {A = ℕ} 0 1 = cc in omega arith)
