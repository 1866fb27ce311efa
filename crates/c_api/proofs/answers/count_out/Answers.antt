-- `c_api::answers::count_out` meets its contract: the index of a refusal has 32 bits.
use Rattle.theory.proofs.Prelude.{◌≡◌, rules}
use Rattle.format.specs.Given.{refused_at, given_at}
use Rattle.format.specs.Refusals.{refusal_number}
use Rattle.c_api.proofs.answers.count_out.Goals as goal

pub overflow_cast-result : goal.overflow_cast-result
overflow_cast-result c =
    let refusal : given_at c.args.answer ≡ refused_at (refusal_number c.in-Err-Entry.why) c.in-Err-Entry.index = search rules in
    record { fits = c.requires _ _ refusal }
