-- `binary32_arithmetic::slices::write_sums` meets its contract: what is written and the sums of the rest are all sums, and so are the
-- counts of those that are not exact.
use Rattle.theory.proofs.Prelude.{◌≤◌, ◌+◌, ◌++◌, ◌≡◌, length, drop, take}
use Rattle.binary32_arithmetic.specs.Slices.{sums, inexact_entries}
use Rattle.binary32_arithmetic.proofs.slices.write_sums.Given as goal

abbrev pub invariant-loop-i : goal.invariant-loop-i
invariant-loop-i l =
    let done = length l.yielded in
    (length l.out ≡ length l.initial.out) × (l.inexact ≤ done)
    × (l.inexact + inexact_entries l.direction (drop done l.a) (drop done l.b) ≡ inexact_entries l.direction l.a l.b)
    × (take done l.out ++ sums l.direction (drop done l.a) (drop done l.b) ≡ sums l.direction l.a l.b)
