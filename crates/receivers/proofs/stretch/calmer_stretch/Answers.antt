-- `receivers::stretch::calmer_stretch` meets its contract.
use Rattle.std.specs.Prelude.{Ok, Err}
use Rattle.theory.proofs.Prelude.{ℕ, List, [], ◌∙◌, ap, ◌≡◌, refl, rules}
use Rattle.format.specs.declared.ListRefusal.{ListRefusal}
use Rattle.format.specs.declared.ListRefusal.TheVariants.{Whole, Entry}
use Rattle.format.specs.Given.{gives}
use Rattle.receivers.specs.Answers.{calmer_given}
use Rattle.receivers.specs.Stretches.{calmer_log, stretch_of, StandsIn}
use Rattle.receivers.proofs.Refusals.{log_case, log_inside, stretch_told, first_told, second_told}
use Rattle.receivers.proofs.stretch.calmer_stretch.Goals.{In-Ok-First, In-Ok-Second}
use Rattle.receivers.proofs.stretch.calmer_stretch.Goals as goal

first_named : (c : In-Ok-First) → gives 1 ≡ calmer_log c.args.first.now c.args.second.now c.args.start c.args.length
first_named c = log_case (c.in-Ok-First.is ∙ ap Ok c.in-Ok-First.field-0-is) c.calmer_log.ensures

second_named : (c : In-Ok-Second) → gives 2 ≡ calmer_log c.args.first.now c.args.second.now c.args.start c.args.length
second_named c = log_case (c.in-Ok-Second.is ∙ ap Ok c.in-Ok-Second.field-0-is) c.calmer_log.ensures

-- where the part stands, and what it holds
pub returns-in-Ok-First : goal.returns-in-Ok-First
returns-in-Ok-First c =
    let g = first_named (goal.at.returns-in-Ok-First c).In-Ok-First in
    record { memory = rw (← g) refl; contents = first_told _ _ _ _ g }

pub returns-in-Ok-Second : goal.returns-in-Ok-Second
returns-in-Ok-Second c =
    let g = second_named (goal.at.returns-in-Ok-Second c).In-Ok-Second in
    record { memory = rw (← g) refl; contents = second_told _ _ _ _ g }

-- no log was named, so nothing is handed back
refused_part : (why : ListRefusal) (first second : List ℕ) → [] ≡ stretch_of (calmer_given (Err why)) first second
refused_part (Whole why) first second = refl
refused_part (Entry why index) first second = refl

refused_place : (why : ListRefusal) (first second : ℕ × ℕ) (start : ℕ) (part : ℕ × ℕ) → StandsIn (calmer_given (Err why)) first second start part
refused_place (Whole why) first second start part = tt
refused_place (Entry why index) first second start part = tt

pub returns-in-Err : goal.returns-in-Err
returns-in-Err c =
    let g = log_case c.in-Err.is c.calmer_log.ensures in
    record { memory = rw (← g) (refused_place _ _ _ _ _); contents = refused_part _ _ _ ∙ stretch_told _ _ _ _ g }

-- a log was named, so its stretch lies within it
pub overflow_add-result : goal.overflow_add-result
overflow_add-result c = let p = log_inside _ _ _ _ (first_named (goal.at.overflow_add-result c).In-Ok-First) in search (rules, p.first_most)

pub offset_bounds-first-start : goal.offset_bounds-first-start
offset_bounds-first-start c = let p = log_inside _ _ _ _ (first_named (goal.at.offset_bounds-first-start c).In-Ok-First) in search (rules, p.first_most)

pub slice_bounds-result-end : goal.slice_bounds-result-end
slice_bounds-result-end c = let p = log_inside _ _ _ _ (first_named (goal.at.slice_bounds-result-end c).In-Ok-First) in search (rules, p.first_most)

pub overflow_add-result-in-Ok-Second : goal.overflow_add-result-in-Ok-Second
overflow_add-result-in-Ok-Second c = let p = log_inside _ _ _ _ (second_named (goal.at.overflow_add-result-in-Ok-Second c).In-Ok-Second) in search (rules, p.second_most)

pub offset_bounds-second-start : goal.offset_bounds-second-start
offset_bounds-second-start c = let p = log_inside _ _ _ _ (second_named (goal.at.offset_bounds-second-start c).In-Ok-Second) in search (rules, p.second_most)

pub slice_bounds-result-end-in-Ok-Second : goal.slice_bounds-result-end-in-Ok-Second
slice_bounds-result-end-in-Ok-Second c = let p = log_inside _ _ _ _ (second_named (goal.at.slice_bounds-result-end-in-Ok-Second c).In-Ok-Second) in search (rules, p.second_most)
