-- `lines::printing::hexadecimal` meets its contract: the digits before i are written.
use Rattle.theory.proofs.Prelude.{ℕ, ◌<◌, ◌+◌, ◌*◌, ◌-◌, ◌/◌, ◌%◌, ◌^◌, List, length, get_or, set, ◌≡◌, arith, rules}
use lib.ListN.{length-set}
use Rattle.std.proofs.lemmas.List.Edits.{fill_by_more}
use Rattle.std.proofs.lemmas.List.FromFn.{fill_by_all}
use Rattle.lines.proofs.DigitLaws.{letters, letter_is}
use Rattle.lines.proofs.printing.hexadecimal.Goals as goal
use Rattle.lines.proofs.printing.hexadecimal.Invariants.{digit_at}

one_more : (n i : ℕ) (text : List ℕ) → i < length text → ((k : ℕ) → k < i → get_or text k 0 ≡ digit_at n k)
    → (k : ℕ) → k < i + 1 → get_or (set text i (get_or letters (n / 2 ^ (28 - 4 * i) % 16) 0)) k 0 ≡ digit_at n k
one_more n i text h before = rw (letter_is (n / 2 ^ (28 - 4 * i) % 16) (omega arith)) (fill_by_more (digit_at n) text i 0 h before)

pub loop-i-preserved : goal.loop-i-preserved
loop-i-preserved c =
    let l = c.loop-i in
    (simp length-set l.invariant.0, one_more c.args.n l.i l.text (omega arith) l.invariant.1)

pub returns : goal.returns
returns c = fill_by_all (digit_at c.args.n) c.loop-i.text 8 0 c.loop-i.invariant.0 (search rules)
