-- `lines::printing::hexadecimal` meets its contract: the digits before i are written.
use Rattle.theory.proofs.Prelude.{ℕ, ◌<◌, ◌*◌, ◌-◌, ◌/◌, ◌%◌, ◌^◌, ◌≡◌, length, get_or}
use Rattle.lines.specs.Digits.{glyph}
use Rattle.lines.proofs.printing.hexadecimal.Given as goal

-- digit i of n, the highest first
abbrev pub digit_at : (n i : ℕ) → ℕ
digit_at n i = glyph (n / 2 ^ (28 - 4 * i) % 16)

abbrev pub invariant-loop-i : goal.invariant-loop-i
invariant-loop-i l = (length l.text ≡ 8) × ((k : ℕ) → k < l.i → get_or l.text k 0 ≡ digit_at l.n k)
