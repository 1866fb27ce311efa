-- What it says of a number that it was read as a direction, or as none.
use Rattle.theory.proofs.Prelude.{ℕ, true, false, Bool, ◌≡◌, refl, arith}
use Rattle.std.specs.Prelude.{Ok, Err}
use Rattle.theory.specs.Tests.{unless}
use Rattle.theory.specs.declared.Direction.{Direction}
use Rattle.theory.specs.declared.NoDirection.{NoDirection}
use Rattle.theory.specs.Directions.{is_direction, direction, direction_read}

taken : {k r : Direction} {e : NoDirection} (t : Bool) → unless t (Err e) (Ok k) ≡ Ok r → (t ≡ true) × (r ≡ k)
unfolding unless
taken true h = (refl, cc)
taken false h = absurd (let z : ◌≡◌ {A = ℕ} 0 1 = cc in omega arith)

not_taken : (k : Direction) (e : NoDirection) {d : NoDirection} (t : Bool) → unless t (Err e) (Ok k) ≡ Err d → t ≡ false
unfolding unless
not_taken k e true h = absurd (let z : ◌≡◌ {A = ℕ} 0 1 = cc in omega arith)
not_taken k e false h = refl

pub direction_taken : (d : ℕ) {r : Direction} → direction_read d ≡ Ok r → (is_direction d ≡ true) × (r ≡ direction d)
unfolding direction_read
direction_taken d h = taken (is_direction d) h

pub no_direction_taken : (d : ℕ) {e : NoDirection} → direction_read d ≡ Err e → is_direction d ≡ false
unfolding direction_read
no_direction_taken d h = not_taken _ _ (is_direction d) h
