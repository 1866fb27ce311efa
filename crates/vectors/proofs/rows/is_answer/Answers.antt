-- `vectors::rows::is_answer` meets its contract: exponents are equal where their bits are.
use Rattle.theory.proofs.Prelude.{ℕ, Bool, true, false, ◌&&◌, List, ℤ, w32, SFits, to_z, of_z, eqb, eqb-true, eq-eqb, ne_eqb, ◌≡◌, ◌∙◌, sym, ap, refl, rules}
use Rattle.std.specs.Bool.{beq}
use Rattle.std.specs.Ordering.{int_eq}
use Rattle.std.proofs.lemmas.Bool.Decides.{same_from_decides, Decides-int_eq}
use Rattle.format.proofs.Signed.{back}
use Rattle.number.specs.declared.Number.{Number}
use Rattle.vectors.specs.Columns.{word_at}
use Rattle.vectors.specs.Rows.{number_at, is_answer}
use Rattle.vectors.proofs.rows.is_answer.Goals as goal

same_bits : {a b : ℤ} → SFits w32 a → SFits w32 b → int_eq a b ≡ eqb (of_z w32 a) (of_z w32 b)
same_bits {a} {b} f g =
    same_from_decides _ _ (Decides-int_eq a b) (λ h. sym (back f) ∙ ap (to_z w32) (eqb-true _ _ h) ∙ back g, λ e. eq-eqb _ _ (ap (of_z w32) e))

joined : (t n s e : Bool) → t ≡ true → n && (s && e) ≡ t && n && s && e
joined true true s e h = refl
joined true false s e h = refl
joined false n s e h = cc

module _ (row : List ℕ) (refusal : ℕ) (x : Number) {w : ℕ} (is : w ≡ word_at row 12) where
  number_compared : {y : Number} {r : Bool} → y ≡ number_at row 13 → SFits w32 x.exponent → SFits w32 y.exponent → w ≡ refusal
      → r ≡ beq x.negative y.negative && (eqb x.significand y.significand && int_eq x.exponent y.exponent) → r ≡ is_answer row refusal x
  unfolding is_answer
  number_compared {y} n f g e q =
      q
      ∙ ap (λ (t : Bool). beq x.negative y.negative && (eqb x.significand y.significand && t)) (same_bits f g)
      ∙ joined (eqb w refusal) (beq x.negative y.negative) (eqb x.significand y.significand) (eqb (of_z w32 x.exponent) (of_z w32 y.exponent)) (eq-eqb w refusal e)
      ∙ rw (is, n)

  other_refusal : (w ≡ refusal → ⊥) → eqb w refusal ≡ is_answer row refusal x
  unfolding is_answer
  other_refusal e = rw (← is, ne_eqb w refusal e)

pub returns-then-word-refusal : goal.returns-then-word-refusal
returns-then-word-refusal c =
    let given_fits : SFits w32 c.args.x.exponent = search rules in
    let read_fits : SFits w32 c.number_at.result.exponent = search rules in
    number_compared c.args.row.now c.args.refusal c.args.x c.word.ensures c.number_at.ensures given_fits read_fits c.if-word-refusal.true c.eq.ensures

pub returns-else-word-refusal : goal.returns-else-word-refusal
returns-else-word-refusal c = other_refusal c.args.row.now c.args.refusal c.args.x c.word.ensures c.if-word-refusal.false
