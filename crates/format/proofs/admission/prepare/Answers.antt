-- `format::admission::prepare` meets its contract.
use Rattle.theory.proofs.Prelude.{ℕ, ◌^◌, ◌*◌, ◌-◌, ◌∙◌, ap, ◌≡◌, sym, le_trans, arith, w32, SFits, rules}
use Rattle.theory.proofs.Tests.{unless_passed, unless_failed}
use Rattle.format.specs.declared.Format.{Format}
use Rattle.std.specs.Prelude.{Ok}
use Rattle.format.specs.Formats.{preparation, highest_place, prepared_of}
use Rattle.format.proofs.Signed.{back}
use Rattle.format.proofs.Formats.{Admitted, admits, exponents_made, bound_least, least_bound}
use Rattle.format.proofs.admission.prepare.Goals as goal

-- what was worked out is what is to be prepared
worked_out : (f : Format) → Admitted f → (least highest : ℕ) → least ≡ f.base ^ (f.digits - 1) → highest ≡ highest_place f
    → record { format = f; scale = record { base = f.base; digits = f.digits; least = least; bound = least * f.base }; highest = highest } ≡ prepared_of f
worked_out f a least highest e h = rw (e, h, bound_least a)

pub returns-then-not-is_admitted : goal.returns-then-not-is_admitted
unfolding preparation
returns-then-not-is_admitted c = sym (unless_failed _ _ (sym c.is_admitted.ensures ∙ c.if-not-is_admitted.true))

pub power-least-requires : goal.power-least-requires
power-least-requires c =
    let passed : Admitted c.args.format = admits _ (sym c.is_admitted.ensures ∙ c.if-not-is_admitted.false) in
    let a = passed in (a.base_low, a.base_high, le_trans (least_bound a) a.power_high)

pub overflow_mul-bound : goal.overflow_mul-bound
overflow_mul-bound c =
    let passed : Admitted c.args.format = admits _ (sym c.is_admitted.ensures ∙ c.if-not-is_admitted.false) in
    let a = passed in rw (c.power-least.ensures, ← bound_least a) (omega arith)

pub distance-requires : goal.distance-requires
distance-requires c =
    let emin_fits : SFits w32 c.args.format.emin = search rules in
    let emax_fits : SFits w32 c.args.format.emax = search rules in
    let passed : Admitted c.args.format = admits _ (sym c.is_admitted.ensures ∙ c.if-not-is_admitted.false) in
    rw (back emin_fits, back emax_fits) (exponents_made passed.range)

pub returns : goal.returns
unfolding preparation
returns c =
    let emin_fits : SFits w32 c.args.format.emin = search rules in
    let emax_fits : SFits w32 c.args.format.emax = search rules in
    let passed : Admitted c.args.format = admits _ (sym c.is_admitted.ensures ∙ c.if-not-is_admitted.false) in
    ap Ok
    (worked_out c.args.format passed _ _ c.power-least.ensures
    (c.distance.ensures ∙ rw (back emin_fits, back emax_fits)))
    ∙ sym (unless_passed _ _ (sym c.is_admitted.ensures ∙ c.if-not-is_admitted.false))

pub overflow_sub-digits : goal.overflow_sub-digits
overflow_sub-digits c =
    let passed : Admitted c.args.format = admits _ (sym c.is_admitted.ensures ∙ c.if-not-is_admitted.false) in
    passed.digits_low
