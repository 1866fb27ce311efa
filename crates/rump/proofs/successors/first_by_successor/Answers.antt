-- `rump::successors::first_by_successor` meets its contract.
use Rattle.theory.proofs.Prelude.{ℕ, ◌∙◌, ap, ◌≡◌, sym, refl, arith}
use Rattle.std.specs.Prelude.{Result, Ok, Err}
use Rattle.std.specs.Result.{result_or}
use Rattle.theory.specs.declared.Direction.{Direction}
use Rattle.format.specs.declared.Refusal.{Refusal}
use Rattle.format.specs.declared.Refusal.TheVariants.{PremiseFails}
use Rattle.format.specs.Refusals.{refusal_number}
use Rattle.theory.proofs.Tests.{and_failed, unless_failed}
use Rattle.number.proofs.Prelude.{Format, refused, member, known}
use Rattle.number.specs.declared.Number.{Number}
use Rattle.arithmetic.specs.Marked.{marked_product}
use Rattle.rump.specs.Figures.{lead}
use Rattle.rump.specs.Premises.{scaled_premise}
use Rattle.rump.proofs.Reach.{led}
use Rattle.rump.proofs.Steps.{ended, product_gave, product_refuses, product_in}
use Rattle.rump.proofs.SuccessorFigures.{lead_has, scaled_refused, scaled_answers}
use Rattle.rump.proofs.successors.first_by_successor.Goals as goal

-- the refusal that takes the place of another, and what is given
record Replaced {A : Type 0} (r : Result A Refusal) (why e : Refusal) : Type 0 where
  from : Refusal
  was : r ≡ Err from
  is : why ≡ e

or_refused : {A : Type 0} (r : Result A Refusal) (e : Refusal) {why : Refusal} → result_or r (Err e) ≡ Err why → Replaced r why e
or_refused (Ok x) e h = absurd (let z : ◌≡◌ {A = ℕ} 0 1 = cc in omega arith)
or_refused (Err was) e h = record { from = was; was = refl; is = cc }

or_gave : {A : Type 0} (r : Result A Refusal) (e : Refusal) {x : A} → result_or r (Err e) ≡ Ok x → r ≡ Ok x
or_gave (Ok x) e h = h
or_gave (Err was) e h = absurd (let z : ◌≡◌ {A = ℕ} 0 1 = cc in omega arith)

by_lead : (f : Format) (d : Direction) (x : Number) {l : Number} → l ≡ lead f → marked_product f d x l ≡ marked_product f d x (lead f)
by_lead f d x e = ap (marked_product f d x) e

pub returns-then-not-has_lead : goal.returns-then-not-has_lead
unfolding scaled_premise
returns-then-not-has_lead c = sym (unless_failed _ _ (and_failed _ (sym c.has_lead.ensures ∙ c.if-not-has_lead.true)))

pub multiply-requires : goal.multiply-requires
multiply-requires c =
    let f = c.args.prepared.format in
    let a = (known c.requires.0.usable).admits in
    record {
      usable = c.requires.0.usable;
      first = c.requires.0.number;
      second = ap (member f) c.lead.ensures ∙ (lead_has a (led a (sym c.has_lead.ensures ∙ c.if-not-has_lead.false))).number;
    }

pub returns-in_err-y : goal.returns-in_err-y
returns-in_err-y c =
    let k = or_refused c.multiply.result PremiseFails (sym c.or.ensures ∙ c.in_err-y.was) in
    let a = (known c.requires.0.usable).admits in
    let n = product_refuses _ _ _ _ (c.multiply.ensures ∙ by_lead _ _ _ c.lead.ensures) k.was in
    ended _ _ c.from_residual.ensures.1 ∙ ap (λ (why : Refusal). refused (refusal_number why)) k.is
    ∙ scaled_refused a c.args.x c.requires.0.number c.requires.1 (sym c.has_lead.ensures ∙ c.if-not-has_lead.false) c.args.direction n _

pub last_by_successor-requires : goal.last_by_successor-requires
last_by_successor-requires c =
    let a = (known c.requires.0.usable).admits in
    record {
      usable = c.requires.0.usable;
      number = product_in _ _ _ _ a c.multiply.ensures (or_gave c.multiply.result PremiseFails (sym c.or.ensures ∙ c.in_ok-y.was));
    }

pub returns : goal.returns
returns c =
    let a = (known c.requires.0.usable).admits in
    let was = or_gave c.multiply.result PremiseFails (sym c.or.ensures ∙ c.in_ok-y.was) in
    let y = product_gave _ _ _ _ (c.multiply.ensures ∙ by_lead _ _ _ c.lead.ensures) was in
    scaled_answers a c.args.x c.requires.0.number c.requires.1 (sym c.has_lead.ensures ∙ c.if-not-has_lead.false) c.args.direction y c.last_by_successor.ensures
