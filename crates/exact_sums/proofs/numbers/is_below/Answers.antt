-- `exact_sums::numbers::is_below` meets its contract.
use Rattle.exact_sums.proofs.Ranks.{rank_order}
use Rattle.exact_sums.proofs.numbers.is_below.Goals as goal

pub returns : goal.returns
returns c = rank_order c.requires.0 c.requires.1 c.rank.ensures c.rank-2.ensures
