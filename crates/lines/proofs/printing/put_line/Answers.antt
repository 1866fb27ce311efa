-- `lines::printing::put_line` meets its contract.
use Rattle.theory.proofs.Prelude.{ℕ, List, ◌++◌, ◌≡◌, ap, arith, ne_eqb, eq-eqb}
use Rattle.lines.specs.declared.reading.Line.{Line}
use Rattle.lines.specs.declared.reading.Line.TheVariants.{Digits, Bad}
use Rattle.lines.specs.Printing.{pattern_text, text_of, bad_line, line_feed}
use Rattle.lines.proofs.Stores.{put_as, put_upto}
use Rattle.lines.proofs.printing.put_line.Goals as goal
use Rattle.lines.proofs.printing.put_line.Goals.{in_default-via-in-Digits+else-count-eq8, in_default-via-in_default}

-- eight digits, and any other line
eight : {line : Line} {count value : ℕ} → line ≡ Digits count value → count ≡ 8 → pattern_text value ≡ text_of line
unfolding text_of
eight {count = count} h e = rw (h, eq-eqb count 8 e)

other : {line : Line} {count value : ℕ} → line ≡ Digits count value → (count ≡ 8 → ⊥) → bad_line ≡ text_of line
unfolding text_of
other {count = count} h n = rw (h, ne_eqb count 8 n)

bad : {line : Line} → line ≡ Bad → bad_line ≡ text_of line
unfolding text_of
bad h = rw h

pub returns-in-Digits : goal.returns-in-Digits
returns-in-Digits c =
    put_as (ap (λ (t : List ℕ). t ++ line_feed) (eight c.in-Digits.is c.if-count-eq8.true)) c.put_pattern.ensures

pub returns-in_default : goal.returns-in_default
returns-in_default c =
    let is : bad_line ≡ text_of c.args.line =
    elim c.in_default.branch [
      | in_default-via-in-Digits+else-count-eq8 w ↦ other w.in-Digits.is w.if-count-eq8.false
      | in_default-via-in_default w ↦ bad w.in_default.is
    ] in
    put_as (ap (λ (t : List ℕ). t ++ line_feed) is) (put_upto (omega arith) c.put_text.ensures)
