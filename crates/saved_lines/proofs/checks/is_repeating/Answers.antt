-- `saved_lines::checks::is_repeating` meets its contract.
use Rattle.theory.proofs.Prelude.{rules, not}
use Rattle.std.proofs.lemmas.Fn.{always_returns_same}
use Rattle.binary32.specs.Patterns.{pattern_value}
use Rattle.saved_lines.specs.Offsets.{equals}
use Rattle.saved_lines.proofs.Offsets.{told_repeats}
use Rattle.saved_lines.proofs.checks.is_repeating.Goals as goal

pub returns : goal.returns
unfolding equals
returns c =
    told_repeats c.args.offsets.now _ (c.is_sorted_by.ensures.cases (λ v w. not (equals (pattern_value v) (pattern_value w))) (always_returns_same _ _ _ (λ a r f k. search rules)))
