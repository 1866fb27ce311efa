-- `rounding::cutting::cut_long` meets its contract: the divisor has the digits beyond the format's.
use Rattle.theory.proofs.Prelude.{ℕ, ◌≤◌, ◌+◌, ◌-◌, ◌∙◌, ap, sym, arith}
use Rattle.two_words.specs.Amount.{amount}
use Rattle.rounding.proofs.Prelude.{located, dropped, dropped_made, positional, digits_most, least_unit, bound_unit, less_taken, less_left}
use Rattle.rounding.proofs.Places.{Beyond, beyond_at, beyond_unit, cut_drop}
use Rattle.rounding.proofs.cutting.cut_long.Goals as goal
use Rattle.rounding.proofs.cutting.cut_long.Goals.{Joined-not-within, then-not-within, else-not-within}

found : (c : Joined-not-within) → Beyond c.args.scale (amount c.args.n) c.if-not-within.divisor c.if-not-within.beyond
found c =
    let p = c.requires in
    let h = p.0 in
    elim c.if-not-within.branch [
      | then-not-within w ↦ beyond_at w.divisor-is w.beyond-is (beyond_unit h (bound_unit h) (omega (arith, less_left c.less-within.ensures c.product.ensures.value w.if-not-within.true)) p.2)
      | else-not-within w ↦ beyond_at w.divisor-is w.beyond-is (beyond_unit h (least_unit h) p.1 (less_taken c.less-within.ensures c.product.ensures.value w.if-not-within.false))
    ]

least : (c : Joined-not-within) → c.args.scale.digits ≤ c.if-not-within.beyond + 1
least c = elim c.if-not-within.branch [ then-not-within w ↦ omega (arith, w.beyond-is) | else-not-within w ↦ omega (arith, w.beyond-is) ]

pub returns : goal.returns
returns c =
    let f = found c.before.before.before in
    let a = c.args in
    let n = amount a.n in
    let w = c.if-not-within.divisor in
    let place = (a.up + c.if-not-within.beyond) - a.down in
    dropped_made n w c.split_words-parts.ensures.0 (c.locate-location.ensures ∙ ap (λ (r : ℕ). located r w) c.split_words-parts.ensures.1)
    ∙ ap (λ (m : ℕ). dropped n m place) f.power
    ∙ sym (cut_drop (positional c.requires.0) f.digits a.up a.down c.if-not-within.beyond place (omega arith) (omega (arith, least c.before.before.before, c.requires.4)))

pub overflow_add-place : goal.overflow_add-place
overflow_add-place c = let p = c.requires in omega (arith, (found c.before.before).most, digits_most p.0, p.3)
