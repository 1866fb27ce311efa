-- `boundaries::steps::three_sum` meets its contract.
use Rattle.std.specs.declared.cmp.Ordering.{Ordering}
use Rattle.std.specs.declared.cmp.Ordering.TheVariants.{Less, Equal, Greater}
use Rattle.std.proofs.Common.{is_lt}
use Rattle.theory.proofs.Prelude.{true, false, ◌∙◌, ap, ◌≡◌, sym, refl, subst}
use Rattle.theory.proofs.Tests.{never}
use Rattle.theory.specs.declared.Direction.{Direction}
use Rattle.format.specs.declared.Format.{Format}
use Rattle.format.specs.declared.Prepared.{Prepared}
use Rattle.format.specs.Formats.{prepared_of}
use Rattle.format.specs.Published.{binary32}
use Rattle.number.specs.declared.Number.{Number}
use Rattle.number.specs.Checks.{Operands}
use Rattle.number.specs.Numbers.{member}
use Rattle.number.proofs.Membership.{prepared_format, prepared_member, usable}
use Rattle.fast_two_sum.specs.Calls.{three_steps}
use Rattle.binary32.proofs.Fields.{binary32_admitted}
use Rattle.boundaries.proofs.StepLaws.{less_turned, others_kept}
use Rattle.boundaries.proofs.steps.three_sum.Goals.{then-is_lt, else-is_lt}
use Rattle.boundaries.proofs.steps.three_sum.Goals as goal

-- two numbers of binary32, as the calls ask for them
operands : {q : Prepared} (a b : Number) → q ≡ prepared_of binary32 → member binary32 a ≡ true → member binary32 b ≡ true → Operands q a b
operands a b e h k = record { usable = usable binary32_admitted e; first = prepared_member e _ h; second = prepared_member e _ k }

-- and of the pair that they were put into
module _ (a b : Number) (pair : Number × Number) (e : pair ≡ (a, b)) where
  pair_operands : {q : Prepared} → Operands q a b → Operands q pair.0 pair.1
  pair_operands {q} h = subst (λ (p : Number × Number). Operands q p.0 p.1) (sym e) h

  pair_steps : (f : Format) (d : Direction) → three_steps f d d d pair.0 pair.1 ≡ three_steps f d d d a b
  pair_steps f d = ap (λ (p : Number × Number). three_steps f d d d p.0 p.1) e

is_less : (o : Ordering) → is_lt o ≡ true → o ≡ Less
is_less Less h = refl
is_less Equal h = absurd (never (sym h))
is_less Greater h = absurd (never (sym h))

is_not_less : (o : Ordering) → is_lt o ≡ false → o ≡ Less → ⊥
is_not_less o h e = never (sym (ap is_lt e) ∙ h)

pub returns : goal.returns
returns c =
    let s = c.args in
    let e = prepared_format c.prepared_binary32-prepared.ensures in
    elim c.if-is_lt.branch [
      | then-is_lt w ↦ c.three_steps.ensures ∙ pair_steps s.s s.x _ (cc) _ _ ∙ less_turned s.direction s.x s.s e (sym c.compare_magnitudes.ensures ∙ is_less _ (sym c.is_lt.ensures ∙ w.if-is_lt.true))
      | else-is_lt w ↦ c.three_steps.ensures ∙ pair_steps s.x s.s _ (cc) _ _ ∙ others_kept s.direction s.x s.s e (λ h. is_not_less _ (sym c.is_lt.ensures ∙ w.if-is_lt.false) (c.compare_magnitudes.ensures ∙ h))
    ]

pub compare_magnitudes-requires : goal.compare_magnitudes-requires
compare_magnitudes-requires c = let h = operands c.args.x c.args.s c.prepared_binary32-prepared.ensures c.requires.0 c.requires.1 in (h.usable.format, h.first, h.second)

pub three_steps-requires : goal.three_steps-requires
three_steps-requires c =
    let s = c.args in
    let e = c.prepared_binary32-prepared.ensures in
    elim c.if-is_lt.branch [
      | then-is_lt w ↦ pair_operands s.s s.x _ (cc) (operands s.s s.x e c.requires.1 c.requires.0)
      | else-is_lt w ↦ pair_operands s.x s.s _ (cc) (operands s.x s.s e c.requires.0 c.requires.1)
    ]
