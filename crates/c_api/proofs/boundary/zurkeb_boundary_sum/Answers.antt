-- `c_api::boundary::zurkeb_boundary_sum` meets its contract: the index of a strip is below 4,096.
use Rattle.theory.proofs.Prelude.{◌∙◌, sym, arith}
use Rattle.boundaries.proofs.Ends.{index_below}
use Rattle.c_api.proofs.boundary.zurkeb_boundary_sum.Goals as goal

pub count_out-requires : goal.count_out-requires
count_out-requires c number index e =
    let s = c.args in
    omega (arith, index_below s.direction s.strips.now s.rests.now (sym c.boundary_sum-answer.ensures.answer ∙ e))
