-- `exact_sums::numbers::read_wide` meets its contract.
use Rattle.exact_sums.proofs.Ranks.{pattern_holds}
use Rattle.exact_sums.proofs.numbers.read_wide.Goals as goal

pub returns : goal.returns
returns c = pattern_holds c.args.pattern c.field_of-field.ensures c.significand_of.ensures c.place_of.ensures
