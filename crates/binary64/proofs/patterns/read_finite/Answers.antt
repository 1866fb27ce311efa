-- `binary64::patterns::read_finite` meets its contract.
use Rattle.binary_patterns.proofs.Reading.{steps_ready, steps_number}
use Rattle.binary64.proofs.Laws.{widths}
use Rattle.binary64.proofs.patterns.read_finite.Goals as goal

pub number_at-requires : goal.number_at-requires
number_at-requires c = steps_ready widths c.args.pattern c.prepared_binary64.ensures c.field_of-field.ensures c.significand_of-significand.ensures c.saturating_sub-place.ensures c.requires

pub returns : goal.returns
returns c = steps_number widths c.args.pattern c.prepared_binary64.ensures c.field_of-field.ensures c.significand_of-significand.ensures c.saturating_sub-place.ensures c.number_at.ensures
