-- `two_words::quotient::digit` meets its contract: the guess is right, or one or two too large.
use Rattle.std.proofs.Common.{ℕ, ◌^◌, ◌<◌, ◌≤◌, arith}
use Rattle.two_words.proofs.Digits.{Premises, right, one_less, two_less}
use Rattle.two_words.proofs.quotient.digit.Goals as goal
use Rattle.two_words.proofs.quotient.digit.Goals.{then-d-lack, else-d-lack}

given : {h l d : ℕ} → (2 ^ 63 ≤ d) × (h < d) × (l < 2 ^ 32) → d < 2 ^ 64 → Premises 32 h l d
given p fits = record { some = omega arith; top = p.0; word = fits; below = p.1; half = p.2 }

pub returns-then-lack-gt0 : goal.returns-then-lack-gt0
returns-then-lack-gt0 c =
    let p = given c.requires c.ranges.d.fits in
    elim c.if-d-lack.branch [
      | then-d-lack w ↦ rw w.short-is (two_less 32 _ _ _ p _ c.saturating_sub-lack.ensures w.if-d-lack.true)
      | else-d-lack w ↦ rw w.short-is (one_less 32 _ _ _ p _ c.saturating_sub-lack.ensures c.if-lack-gt0.true w.if-d-lack.false)
    ]

pub returns-else-lack-gt0 : goal.returns-else-lack-gt0
returns-else-lack-gt0 c =
    right 32 _ _ _ (given c.requires c.ranges.d.fits) _ c.saturating_sub-lack.ensures _ c.saturating_sub-spare.ensures c.if-lack-gt0.false
