-- `lines::reading::Line::push` meets its contract.
use Rattle.theory.proofs.Prelude.{ℕ, ◌≤◌, ◌<◌, ◌+◌, ◌^◌, ◌*◌, ◌%◌, Bool, true, false, cond, ◌≡◌, ◌∙◌, sym, refl, arith, ltb-true, le-ltb, lt-ltb}
use Rattle.std.specs.Prelude.{Some, None}
use Rattle.std.proofs.lemmas.Option.{cond_some}
use Rattle.theory.specs.Tests.{◌and◌}
use Rattle.lines.specs.declared.reading.Line.{Line}
use Rattle.lines.specs.declared.reading.Line.TheVariants.{Digits, Bad}
use Rattle.lines.specs.Digits.{digit_of, is_digit, digit_in}
use Rattle.lines.specs.Reading.{pushed}
use Rattle.lines.proofs.DigitLaws.{some_digit, small_digit, no_digit}
use Rattle.lines.proofs.LineLaws.{and_false}
use Rattle.lines.proofs.reading.Line.push.Goals as goal

module _ (b : ℕ) where
  digit_pushed : {l : Line} {count value d : ℕ} → l ≡ Digits count value → digit_in b ≡ Some d → count < 8 → Digits (count + 1) (value % 2 ^ 28 * 16 + d) ≡ pushed l b
  unfolding pushed ◌and◌
  digit_pushed {count = count} h e s = let f = some_digit b e in rw (h, lt-ltb count 8 s, f.0, f.1)

  ninth : {l : Line} {count value : ℕ} → l ≡ Digits count value → 8 ≤ count → Bad ≡ pushed l b
  unfolding pushed ◌and◌
  ninth {count = count} h s = rw (h, le-ltb count 8 s)

  other : {l : Line} {count value : ℕ} → l ≡ Digits count value → digit_in b ≡ None → Bad ≡ pushed l b
  unfolding pushed
  other {count = count} h e = rw (h, no_digit b e, and_false)

  after_bad : {l : Line} → l ≡ Bad → Bad ≡ pushed l b
  unfolding pushed
  after_bad h = rw h

pub overflow_add-result-in-Digits-Some : goal.overflow_add-result-in-Digits-Some
overflow_add-result-in-Digits-Some c = let h = small_digit _ (sym c.digit_of.ensures ∙ c.in-Digits-Some.is-1) in omega arith

pub returns-in-Digits-Some : goal.returns-in-Digits-Some
returns-in-Digits-Some c = digit_pushed _ c.in-Digits-Some.is-0 (sym c.digit_of.ensures ∙ c.in-Digits-Some.is-1) c.if-count-lt8.true

pub returns-in_default : goal.returns-in_default
returns-in_default c = ninth _ c.in-Digits-Some.is-0 c.if-count-lt8.false

pub returns-in_default-2 : goal.returns-in_default-2
returns-in_default-2 c = other _ c.in_default.is-0 (sym c.digit_of.ensures ∙ c.in_default.is-1)

pub returns-in_default-3 : goal.returns-in_default-3
returns-in_default-3 c = after_bad _ c.in_default.is-0
