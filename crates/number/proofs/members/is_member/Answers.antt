-- `number::members::is_member` meets its contract: the tests are those of the definition, in its order.
use Rattle.theory.proofs.Prelude.{true, false, Bool, ◌&&◌, ◌∙◌, ap, ◌≡◌, sym, refl, leb, ltb, ℤ, le_z, w32, SFits, to_z, of_z, rules}
use Rattle.theory.specs.Tests.{◌and◌, ◌or◌}
use Rattle.theory.proofs.Tests.{never, or_left, refuted, and_left}
use Rattle.number.proofs.Prelude.{back, equal_z, equal_true, equal_made}
use Rattle.number.specs.Checks.{member_of}
use Rattle.number.proofs.members.is_member.Goals as goal

four : (a b c d : Bool) {t : Bool} → (((a && b) && c) && d) ≡ t → a and b and c and d ≡ t
unfolding ◌and◌
four true true true d h = h
four true true false d h = h
four true false c d h = h
four false b c d h = h

-- where the first alternative fails, the second decides
otherwise : {a b t : Bool} → a ≡ false → t ≡ b → t ≡ a or b
unfolding ◌or◌
otherwise {a = false} e h = h
otherwise {a = true} e h = absurd (never e)

at_emin : {e emin : ℤ} {b t : Bool} → e ≡ emin → t ≡ b → t ≡ equal_z e emin and b
unfolding ◌and◌
at_emin e h = rw (equal_made e, ◌and◌) h

pub returns-then-prepared-m : goal.returns-then-prepared-m
unfolding member_of
returns-then-prepared-m c =
    let emin_fits : SFits w32 c.args.prepared.format.emin = search rules in
    let emax_fits : SFits w32 c.args.prepared.format.emax = search rules in
    let e_fits : SFits w32 c.args.x.exponent = search rules in
    let least : Bool = let q = c.args.prepared in
    let x = c.args.x in
    leb q.scale.least x.significand and ltb x.significand q.scale.bound and le_z q.format.emin x.exponent and le_z x.exponent q.format.emax in
    let tested : least ≡ true = four _ _ _ _ (rw (back emin_fits, back e_fits, back emax_fits) at c.if-prepared-m.true) in
    sym (or_left _ tested)

pub returns-then-e-emin : goal.returns-then-e-emin
unfolding member_of
returns-then-e-emin c =
    let emin_fits : SFits w32 c.args.prepared.format.emin = search rules in
    let emax_fits : SFits w32 c.args.prepared.format.emax = search rules in
    let e_fits : SFits w32 c.args.x.exponent = search rules in
    let least : Bool = let q = c.args.prepared in
    let x = c.args.x in
    leb q.scale.least x.significand and ltb x.significand q.scale.bound and le_z q.format.emin x.exponent and le_z x.exponent q.format.emax in
    let failed : least ≡ false = four _ _ _ _ (rw (back emin_fits, back e_fits, back emax_fits) at c.if-prepared-m.false) in
    otherwise failed
    (refuted (λ h. c.if-e-emin.true (ap (of_z w32) (equal_true _ _ (and_left _ _ h)))))

pub returns : goal.returns
unfolding member_of
returns c =
    let emin_fits : SFits w32 c.args.prepared.format.emin = search rules in
    let emax_fits : SFits w32 c.args.prepared.format.emax = search rules in
    let e_fits : SFits w32 c.args.x.exponent = search rules in
    let least : Bool = let q = c.args.prepared in
    let x = c.args.x in
    leb q.scale.least x.significand and ltb x.significand q.scale.bound and le_z q.format.emin x.exponent and le_z x.exponent q.format.emax in
    let failed : least ≡ false = four _ _ _ _ (rw (back emin_fits, back e_fits, back emax_fits) at c.if-prepared-m.false) in
    let same : let s = c.args in s.x.exponent ≡ s.prepared.format.emin = sym (back e_fits) ∙ ap (to_z w32) c.if-e-emin.false ∙ back emin_fits in
    otherwise failed (at_emin same refl)
