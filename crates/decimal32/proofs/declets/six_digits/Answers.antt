-- `decimal32::declets::six_digits` meets its contract: antt computes that the table passes the test.
use Rattle.theory.proofs.Prelude.{refl, arith}
use Rattle.theory.specs.Lists.{all}
use Rattle.theory.specs.Tests.{◌and◌}
use Rattle.decimal32.specs.Declets.{declet_value, holds_declets}
use Rattle.decimal32.proofs.DecletLaws.{value_small}
use Rattle.decimal32.proofs.declets.six_digits.Goals as goal

pub entry-requires : goal.entry-requires
unfolding holds_declets all declet_value ◌and◌
entry-requires c = (refl, c.requires.0)

pub overflow_mul-result : goal.overflow_mul-result
overflow_mul-result c = record { fits = omega (arith, c.entry.ensures, value_small c.requires.0) }

pub entry-requires-2 : goal.entry-requires-2
unfolding holds_declets all declet_value ◌and◌
entry-requires-2 c = (refl, c.requires.1)

pub overflow_add-result : goal.overflow_add-result
overflow_add-result c = record { fits = omega (arith, c.entry.ensures, value_small c.requires.0, c.entry-2.ensures, value_small c.requires.1) }
