-- `number::order::compare_magnitudes` meets its contract.
use Rattle.theory.proofs.Prelude.{arith, w32, SFits, rules}
use Rattle.format.proofs.Signed.{Upto, lt_taken, lt_left}
use Rattle.number.proofs.Prelude.{Admitted, admits, Member, members}
use Rattle.number.proofs.Comparison.{lower_exponent, less_significand, same_significand, is_less, is_greater, is_equal}
use Rattle.number.proofs.order.compare_magnitudes.Goals as goal

pub returns-then-ea-eb : goal.returns-then-ea-eb
returns-then-ea-eb c =
    let a_fits : SFits w32 c.args.a.exponent = search rules in
    let b_fits : SFits w32 c.args.b.exponent = search rules in
    let format : Admitted c.args.format = admits _ c.requires.0 in
    let first : Member c.args.format c.args.a = members _ format c.requires.1 in
    let second : Member c.args.format c.args.b = members _ format c.requires.2 in
    is_less
    (lower_exponent format first second (lt_taken c.args.a.exponent c.args.b.exponent a_fits b_fits c.if-ea-eb.true))

pub returns-then-eb-ea : goal.returns-then-eb-ea
returns-then-eb-ea c =
    let a_fits : SFits w32 c.args.a.exponent = search rules in
    let b_fits : SFits w32 c.args.b.exponent = search rules in
    let format : Admitted c.args.format = admits _ c.requires.0 in
    let first : Member c.args.format c.args.a = members _ format c.requires.1 in
    let second : Member c.args.format c.args.b = members _ format c.requires.2 in
    is_greater
    (lower_exponent format second first (lt_taken c.args.b.exponent c.args.a.exponent b_fits a_fits c.if-eb-ea.true))

pub returns-then-ma-mb : goal.returns-then-ma-mb
returns-then-ma-mb c =
    let a_fits : SFits w32 c.args.a.exponent = search rules in
    let b_fits : SFits w32 c.args.b.exponent = search rules in
    let format : Admitted c.args.format = admits _ c.requires.0 in
    let first : Member c.args.format c.args.a = members _ format c.requires.1 in
    let second : Member c.args.format c.args.b = members _ format c.requires.2 in
    let upward : Upto c.args.a.exponent c.args.b.exponent = lt_left c.args.b.exponent c.args.a.exponent b_fits a_fits c.if-eb-ea.false in
    let downward : Upto c.args.b.exponent c.args.a.exponent = lt_left c.args.a.exponent c.args.b.exponent a_fits b_fits c.if-ea-eb.false in
    is_less (less_significand format first second upward downward c.if-ma-mb.true)

pub returns-then-mb-ma : goal.returns-then-mb-ma
returns-then-mb-ma c =
    let a_fits : SFits w32 c.args.a.exponent = search rules in
    let b_fits : SFits w32 c.args.b.exponent = search rules in
    let format : Admitted c.args.format = admits _ c.requires.0 in
    let first : Member c.args.format c.args.a = members _ format c.requires.1 in
    let second : Member c.args.format c.args.b = members _ format c.requires.2 in
    let upward : Upto c.args.a.exponent c.args.b.exponent = lt_left c.args.b.exponent c.args.a.exponent b_fits a_fits c.if-eb-ea.false in
    let downward : Upto c.args.b.exponent c.args.a.exponent = lt_left c.args.a.exponent c.args.b.exponent a_fits b_fits c.if-ea-eb.false in
    is_greater (less_significand format second first downward upward c.if-mb-ma.true)

pub returns : goal.returns
returns c =
    let a_fits : SFits w32 c.args.a.exponent = search rules in
    let b_fits : SFits w32 c.args.b.exponent = search rules in
    let format : Admitted c.args.format = admits _ c.requires.0 in
    let first : Member c.args.format c.args.a = members _ format c.requires.1 in
    let second : Member c.args.format c.args.b = members _ format c.requires.2 in
    let upward : Upto c.args.a.exponent c.args.b.exponent = lt_left c.args.b.exponent c.args.a.exponent b_fits a_fits c.if-eb-ea.false in
    let downward : Upto c.args.b.exponent c.args.a.exponent = lt_left c.args.a.exponent c.args.b.exponent a_fits b_fits c.if-ea-eb.false in
    is_equal (same_significand format first second upward downward (omega (arith, c.if-mb-ma.false, c.if-ma-mb.false)))
