-- `receivers::stretch::calmer_log` meets its contract.
use Rattle.theory.proofs.Prelude.{◌∙◌, ap, ◌≡◌, sym, rules}
use Rattle.theory.proofs.Results.{err_returned}
use Rattle.format.specs.Given.{given_at}
use Rattle.receivers.specs.Stretches.{not_refused, calmer_refusal}
use Rattle.receivers.specs.Answers.{calmer_given}
use Rattle.receivers.proofs.Refusals.{Inside, inside, logged_parts, log_refused, log_told, refused_on}
use Rattle.receivers.proofs.stretch.calmer_log.Goals.{In_ok-calmer_refusal}
use Rattle.receivers.proofs.stretch.calmer_log.Goals as goal

-- after a check that passed
passed : (c : In_ok-calmer_refusal) → not_refused ≡ calmer_refusal c.args.first.now c.args.second.now c.args.start c.args.length
passed c = ap given_at (sym c.in_ok-calmer_refusal.was) ∙ c.calmer_refusal.ensures

within : (c : In_ok-calmer_refusal) → Inside c.args.first.now c.args.second.now c.args.start c.args.length
within c = inside _ _ _ _ (passed c)

pub returns-then-is_calm_as : goal.returns-then-is_calm_as
returns-then-is_calm_as c =
    log_told c.args.first.now c.args.second.now c.args.start c.args.length (passed (goal.at.returns-then-is_calm_as c).In_ok-calmer_refusal) (sym c.if-is_calm_as.true ∙ c.is_calm_as.ensures)

pub returns-else-is_calm_as : goal.returns-else-is_calm_as
returns-else-is_calm_as c =
    log_told c.args.first.now c.args.second.now c.args.start c.args.length (passed (goal.at.returns-else-is_calm_as c).In_ok-calmer_refusal) (sym c.if-is_calm_as.false ∙ c.is_calm_as.ensures)

pub returns-in_err-calmer_refusal : goal.returns-in_err-calmer_refusal
returns-in_err-calmer_refusal c =
    ap calmer_given (err_returned c.from_residual.result c.from_residual.ensures.1)
    ∙ sym (refused_on _ _)
    ∙ refused_on _ _
    ∙ log_refused c.args.first.now c.args.second.now c.args.start c.args.length (ap given_at (sym c.in_err-calmer_refusal.was) ∙ c.calmer_refusal.ensures)

-- the stretches lie within the logs, and are finite
pub overflow_add-end : goal.overflow_add-end
overflow_add-end c = let p = within (goal.at.overflow_add-end c).In_ok-calmer_refusal in search (rules, p.first_most)

pub offset_bounds-first-start : goal.offset_bounds-first-start
offset_bounds-first-start c = let p = within (goal.at.offset_bounds-first-start c).In_ok-calmer_refusal in search (rules, p.first_most)

pub slice_bounds-is_calm_as-end : goal.slice_bounds-is_calm_as-end
slice_bounds-is_calm_as-end c = let p = within (goal.at.slice_bounds-is_calm_as-end c).In_ok-calmer_refusal in search (rules, p.first_most)

pub offset_bounds-second-start : goal.offset_bounds-second-start
offset_bounds-second-start c = let p = within (goal.at.offset_bounds-second-start c).In_ok-calmer_refusal in search (rules, p.second_most)

pub slice_bounds-is_calm_as-end-2 : goal.slice_bounds-is_calm_as-end-2
slice_bounds-is_calm_as-end-2 c = let p = within (goal.at.slice_bounds-is_calm_as-end-2 c).In_ok-calmer_refusal in search (rules, p.second_most)

pub is_calm_as-requires : goal.is_calm_as-requires
is_calm_as-requires c = logged_parts _ _ _ _ (within (goal.at.is_calm_as-requires c).In_ok-calmer_refusal)
