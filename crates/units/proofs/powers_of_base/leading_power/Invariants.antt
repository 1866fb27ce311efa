-- `units::powers_of_base::leading_power` meets its contract: the loop climbs through the powers of the base that are at most m.
use Rattle.theory.proofs.Prelude.{ℕ, ◌≤◌, ◌^◌, ◌-◌, ◌≡◌}
use Rattle.units.proofs.powers_of_base.leading_power.Given as goal

-- a power of the base, at most m
pub record Climbed (base m power : ℕ) : Type 0 where
  pub exponent : ℕ
  pub is : power ≡ base ^ exponent
  pub most : power ≤ m

abbrev pub invariant-loop-power : goal.invariant-loop-power
invariant-loop-power l = Climbed l.base l.m l.power

abbrev pub decreases-loop-power : goal.decreases-loop-power
decreases-loop-power l = l.m - l.power
