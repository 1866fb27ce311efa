-- `arithmetic::sum::select` meets its contract: each field is that of the number that the test selects.
use Rattle.theory.proofs.Prelude.{ℕ, true, false, Bool, cond, ◌∙◌, ◌≡◌, sym, ℤ, w32, SFits, rules}
use Rattle.arithmetic.proofs.Prelude.{back, Number, never}
use Rattle.arithmetic.proofs.sum.select.Goals as goal
use Rattle.arithmetic.proofs.sum.select.Goals.{then-test-2, then-test, else-test-2, else-test}

made : {n n' : Bool} {m m' : ℕ} {e e' : ℤ} → n ≡ n' → m ≡ m' → e ≡ e'
    → ◌≡◌ {A = Number} (record { negative = n; significand = m; exponent = e }) (record { negative = n'; significand = m'; exponent = e' })
made h k l = rw (h, k, l)

selected : {t s : Bool} (x y : Number) → t ≡ s → cond s x y ≡ cond t x y
selected x y e = rw e

pub returns-then-test-3 : goal.returns-then-test-3
returns-then-test-3 c =
    let yes_fits : SFits w32 c.args.yes.exponent = search rules in
    let both_yes : let a = c.args in a.test ≡ true → (c.if-test.negative ≡ a.yes.negative) × (c.if-test-2.significand ≡ a.yes.significand) = λ e. (elim c.if-test.branch [ then-test w ↦ w.negative-is | else-test w ↦ absurd (never (sym e ∙ w.if-test.false)) ], elim c.if-test-2.branch [ then-test-2 w ↦ w.significand-is | else-test-2 w ↦ absurd (never (sym e ∙ w.if-test-2.false)) ]) in
    let a = c.args in
    let e = c.if-test-3.true in
    let b = both_yes e in
    made b.0 b.1 (back yes_fits) ∙ selected a.yes a.no e

pub returns-else-test-3 : goal.returns-else-test-3
returns-else-test-3 c =
    let no_fits : SFits w32 c.args.no.exponent = search rules in
    let both_no : let a = c.args in a.test ≡ false → (c.if-test.negative ≡ a.no.negative) × (c.if-test-2.significand ≡ a.no.significand) = λ e. (elim c.if-test.branch [ then-test w ↦ absurd (never (sym w.if-test.true ∙ e)) | else-test w ↦ w.negative-is ], elim c.if-test-2.branch [ then-test-2 w ↦ absurd (never (sym w.if-test-2.true ∙ e)) | else-test-2 w ↦ w.significand-is ]) in
    let a = c.args in
    let e = c.if-test-3.false in
    let b = both_no e in
    made b.0 b.1 (back no_fits) ∙ selected a.yes a.no e
