-- When a number is nearest to an exact value v, whichever way ties are broken.
use Rattle.std.specs.Prelude.{ℕ, ◌≤◌, ℤ, nat_abs, ◌-ℤ◌}
use Rattle.theory.specs.Signed.{WideZ}

-- r is a number of the wide format, and none is nearer to v
pub record NearestNumber (β p : ℕ) (v r : ℤ) : Type 0 where
  pub number : WideZ β p r
  pub nearest : (w : ℤ) → WideZ β p w → nat_abs (v -ℤ r) ≤ nat_abs (v -ℤ w)
