-- `c_api::lines::zurkeb_nearest_lines` meets its contract: the index of an offset, or of a query, is below 4,096.
use Rattle.theory.proofs.Prelude.{◌∙◌, sym, arith}
use Rattle.c_api.proofs.IndexLaws.{nearest_lines_below}
use Rattle.c_api.proofs.lines.zurkeb_nearest_lines.Goals as goal

pub count_out-requires : goal.count_out-requires
count_out-requires c number index e =
    omega (arith, nearest_lines_below c.args.offsets.now c.args.queries.now _ number index (sym c.nearest_lines-answer.ensures.answer ∙ e))
