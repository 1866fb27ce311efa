-- `format::published::published` meets its contract.
use Rattle.format.proofs.PublishedFormats.{published_below, published_above, published_entry}
use Rattle.format.proofs.published.published.Goals as goal

pub returns-then-number-lt1 : goal.returns-then-number-lt1
returns-then-number-lt1 c = published_below _ c.if-number-lt1.true

pub returns-then-number-gt5 : goal.returns-then-number-gt5
returns-then-number-gt5 c = published_above _ c.if-number-gt5.true

pub returns : goal.returns
returns c = published_entry _ _ c.if-number-lt1.false c.if-number-gt5.false
