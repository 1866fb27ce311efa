-- `c_api::lines::zurkeb_nearest_line` meets its contract: the index of an offset is below 4,096.
use Rattle.theory.proofs.Prelude.{◌∙◌, sym, arith}
use Rattle.c_api.proofs.IndexLaws.{nearest_line_below}
use Rattle.c_api.proofs.lines.zurkeb_nearest_line.Goals as goal

pub count_out-requires : goal.count_out-requires
count_out-requires c number index e = omega (arith, nearest_line_below c.args.offsets.now c.args.query number index (sym c.nearest_line.ensures ∙ e))
