-- `wide::sum::aligned_sum` meets its contract.
use Rattle.wide.proofs.Sums.{sum_finishes}
use Rattle.wide.proofs.sum.aligned_sum.Goals as goal

pub finish-requires : goal.finish-requires
finish-requires c = let p = c.requires in sum_finishes p.0 p.1 p.2 c.near_sum-near.ensures

pub finish-requires-2 : goal.finish-requires-2
finish-requires-2 c = let p = c.requires in sum_finishes p.0 p.1 p.2 c.far_cut-cut.ensures
