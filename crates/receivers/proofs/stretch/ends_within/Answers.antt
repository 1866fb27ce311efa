-- `receivers::stretch::ends_within` meets its contract: the last test by subtraction, the first two where one of them fails.
use Rattle.theory.proofs.Prelude.{ℕ, ◌≤◌, ◌<◌, ◌-◌, List, not, ◌∙◌, ap, ◌≡◌, arith, dec_le, eqb, leb, length, eq-eqb, le-leb, lt-leb}
use Rattle.receivers.specs.Stretches.{ends_within}
use Rattle.receivers.proofs.Refusals.{ends_made, ends_not}
use Rattle.receivers.proofs.stretch.ends_within.Goals.{then-length-ne0, else-length-ne0}
use Rattle.receivers.proofs.stretch.ends_within.Goals as goal

module _ (log : List ℕ) (start n : ℕ) where
  rest_is : (n ≡ 0 → ⊥) → start ≤ length log → leb n (length log - start) ≡ ends_within log start n
  rest_is some m = by (dec_le n (length log - start))
    where
      by : Dec (n ≤ length log - start) → leb n (length log - start) ≡ ends_within log start n
      by (yes h) = le-leb n (length log - start) h ∙ ends_made log start n (omega (arith, some)) (omega arith)
      by (no h) = lt-leb n (length log - start) (omega arith) ∙ ends_not log start n (λ k l. omega arith)

  past : length log < start → leb start (length log) ≡ ends_within log start n
  past h = lt-leb start (length log) h ∙ ends_not log start n (λ k l. omega arith)

  empty : n ≡ 0 → not (eqb n 0) ≡ ends_within log start n
  empty h = ap not (eq-eqb n 0 h) ∙ ends_not log start n (λ k l. omega arith)

pub returns-then-start-log : goal.returns-then-start-log
returns-then-start-log c = rest_is _ _ _ c.if-start-log.true.0 c.if-start-log.true.1

pub returns-else-start-log : goal.returns-else-start-log
returns-else-start-log c =
    elim c.if-length-ne0.branch [
      | then-length-ne0 w ↦ let e = past c.args.log.now c.args.start c.args.length (omega (arith, c.if-start-log.either, w.if-length-ne0.true)) in cc
      | else-length-ne0 w ↦ let e = empty c.args.log.now c.args.start c.args.length w.if-length-ne0.false in cc
    ]
