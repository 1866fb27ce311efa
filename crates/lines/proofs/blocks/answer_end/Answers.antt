-- `lines::blocks::answer_end` meets its contract.
use Rattle.theory.proofs.Prelude.{ℕ, [], ◌++◌, ◌≡◌, ◌∙◌, sym, refl, arith, ne_eqb, eq-eqb}
use Rattle.lines.specs.declared.reading.Line.{Line}
use Rattle.lines.specs.declared.reading.Line.TheVariants.{Digits, Bad}
use Rattle.lines.specs.Printing.{text_of, line_feed}
use Rattle.lines.specs.Blocks.{end_text}
use Rattle.lines.proofs.Stores.{put_as}
use Rattle.lines.proofs.blocks.answer_end.Goals as goal
use Rattle.lines.proofs.blocks.answer_end.Goals.{in_default-via-in-Digits+else-count-eq0, in_default-via-in_default}

-- a line that has not begun, and any other
none : {line : Line} {count value : ℕ} → line ≡ Digits count value → count ≡ 0 → end_text line ≡ []
unfolding end_text
none {count = count} h e = rw (h, eq-eqb count 0 e)

some : {line : Line} {count value : ℕ} → line ≡ Digits count value → (count ≡ 0 → ⊥) → end_text line ≡ text_of line ++ line_feed
unfolding end_text
some {count = count} h n = rw (h, ne_eqb count 0 n)

bad : {line : Line} → line ≡ Bad → end_text line ≡ text_of line ++ line_feed
unfolding end_text
bad h = rw h

pub returns-in-Digits : goal.returns-in-Digits
returns-in-Digits c =
    put_as (sym (none c.in-Digits.is c.if-count-eq0.true)) (record { ends = omega arith; fits = omega arith; holds = refl })

pub returns-in_default : goal.returns-in_default
returns-in_default c =
    let ends : end_text c.args.line ≡ text_of c.in_default.line ++ line_feed =
    elim c.in_default.branch [
      | in_default-via-in-Digits+else-count-eq0 w ↦ rw (w.line-is ∙ sym w.in-Digits.is) (some w.in-Digits.is w.if-count-eq0.false)
      | in_default-via-in_default w ↦ rw w.line-is (bad w.in_default.is)
    ] in
    put_as (sym ends) c.put_line.ensures
