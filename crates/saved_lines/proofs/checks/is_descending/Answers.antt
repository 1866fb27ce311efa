-- `saved_lines::checks::is_descending` meets its contract.
use Rattle.theory.proofs.Prelude.{rules, not}
use Rattle.std.proofs.lemmas.Fn.{always_returns_same}
use Rattle.binary32.specs.Patterns.{pattern_value}
use Rattle.saved_lines.specs.Offsets.{falls}
use Rattle.saved_lines.proofs.Offsets.{told_descends}
use Rattle.saved_lines.proofs.checks.is_descending.Goals as goal

pub returns : goal.returns
unfolding falls
returns c =
    told_descends c.args.offsets.now _ (c.is_sorted_by.ensures.cases (λ v w. not (falls (pattern_value v) (pattern_value w))) (always_returns_same _ _ _ (λ a r f k. search rules)))
