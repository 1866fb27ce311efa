-- `binary32_arithmetic::slices::first_refused` meets its contract: no entry that was passed is refused.
use Rattle.theory.proofs.Prelude.{ℕ, ◌<◌, false, ◌≡◌, length, get_or}
use Rattle.format.specs.Given.{gives}
use Rattle.binary32_arithmetic.specs.Slices.{is_refused, entries}
use Rattle.binary32_arithmetic.proofs.slices.first_refused.Given as goal

abbrev pub invariant-loop-index : goal.invariant-loop-index
invariant-loop-index l =
    (k : ℕ) → k < length l.yielded → is_refused (get_or (entries l.direction l.a l.b) k (gives 0)) ≡ false
