-- `rounding::choice::finish` meets its contract: the lower steps and a step that is taken are the chosen ones.
use Rattle.theory.proofs.Prelude.{Bool, ◌∙◌, ◌≡◌, ap₂, arith}
use Rattle.theory.specs.declared.Mark.{Mark}
use Rattle.two_words.proofs.Words.{bit_most}
use Rattle.rounding.proofs.Prelude.{mark_of, positional}
use Rattle.rounding.proofs.Choices.{cut_off_test}
use Rattle.rounding.proofs.Cuts.{chosen_sum, finish_below, finish_bound}
use Rattle.rounding.proofs.choice.finish.Goals as goal

-- the mark
told : (negative : Bool) {i t m n : Bool} {r : Mark} → r ≡ mark_of i t negative → i ≡ m → t ≡ n → r ≡ mark_of m n negative
told negative e f g = e ∙ ap₂ (λ (i t : Bool). mark_of i t negative) f g

pub returns-then-steps-scale : goal.returns-then-steps-scale
returns-then-steps-scale c N D h e =
    let s = c.requires.0 in
    finish_bound (positional s) N D h _ _ _ e (chosen_sum c.args.direction c.args.negative c.args.cut c.takes_next-taken.ensures) (told _ c.mark_of-mark.ensures (c.ne.ensures ∙ cut_off_test c.args.cut.location) c.takes_next-taken.ensures) (c.if-steps-scale.true ∙ s.bound_power) s.least_power

pub returns-else-steps-scale : goal.returns-else-steps-scale
returns-else-steps-scale c N D h e =
    let p = c.requires in
    finish_below (positional p.0) N D h _ _ _ e (chosen_sum c.args.direction c.args.negative c.args.cut c.takes_next-taken.ensures) (told _ c.mark_of-mark.ensures (c.ne.ensures ∙ cut_off_test c.args.cut.location) c.takes_next-taken.ensures)
    (omega (arith, p.1, p.0.bound_power, bit_most c.takes_next-taken.result, c.if-steps-scale.false))
