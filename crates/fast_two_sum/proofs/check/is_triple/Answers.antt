-- `fast_two_sum::check::is_triple` meets its contract.
use Rattle.theory.proofs.Prelude.{◌∙◌, sym, rules}
use Rattle.theory.specs.Tests.{◌and◌}
use Rattle.theory.proofs.Tests.{never, and_left, and_right, refuted}
use Rattle.fast_two_sum.specs.Checks.{is_triple}
use Rattle.fast_two_sum.proofs.check.is_triple.Goals as goal

pub returns-then-not-is_faithful_sum : goal.returns-then-not-is_faithful_sum
unfolding is_triple
returns-then-not-is_faithful_sum c = refuted (λ h. never (sym (and_left _ _ h) ∙ sym c.is_faithful_sum.ensures ∙ c.if-not-is_faithful_sum.true))

pub returns-then-not-is_faithful_difference : goal.returns-then-not-is_faithful_difference
unfolding is_triple
returns-then-not-is_faithful_difference c = refuted (λ h. never (sym (and_left _ _ (and_right _ _ h)) ∙ sym c.is_faithful_difference.ensures ∙ c.if-not-is_faithful_difference.true))

pub is_faithful_difference-requires-2 : goal.is_faithful_difference-requires-2
is_faithful_difference-requires-2 c = let p = c.requires in search rules

pub returns : goal.returns
unfolding is_triple ◌and◌
returns c =
    c.is_faithful_difference-2.ensures
    ∙ rw
    (sym c.is_faithful_sum.ensures ∙ c.if-not-is_faithful_sum.false, sym c.is_faithful_difference.ensures ∙ c.if-not-is_faithful_difference.false, ◌and◌)

pub is_faithful_difference-requires : goal.is_faithful_difference-requires
is_faithful_difference-requires c = let p = c.requires in search rules
