-- `c_api::lines::zurkeb_lines_within` meets its contract: the index of an offset is below 4,096.
use Rattle.theory.proofs.Prelude.{◌∙◌, sym, arith}
use Rattle.c_api.proofs.IndexLaws.{lines_within_below}
use Rattle.c_api.proofs.lines.zurkeb_lines_within.Goals as goal

pub count_out-requires : goal.count_out-requires
count_out-requires c number index e =
    omega (arith, lines_within_below c.args.offsets.now c.args.query c.args.distance _ number index (sym c.lines_within-found.ensures.answer ∙ e))
