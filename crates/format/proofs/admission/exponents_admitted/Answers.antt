-- `format::admission::exponents_admitted` meets its contract.
use Rattle.theory.proofs.Prelude.{◌∙◌, ◌≡◌, arith, ℤ, pos, negsuc, le_z, sfits_lit}
use Rattle.theory.specs.Tests.{◌and◌}
use Rattle.theory.proofs.Tests.{refuted}
use Rattle.format.specs.Formats.{exponents_admitted}
use Rattle.format.proofs.Signed.{Upto, lt_taken, lt_left, le_read, make_le}
use Rattle.format.proofs.Formats.{exponents}
use Rattle.format.proofs.admission.exponents_admitted.Goals as goal

-- the last test decides
last : (emin emax : ℤ) → Upto (negsuc 1199) emin → Upto emin emax → le_z emax (pos 1200) ≡ exponents_admitted emin emax
unfolding exponents_admitted ◌and◌
last emin emax low order = rw (make_le (negsuc 1199) emin low, make_le emin emax order, ◌and◌)

pub returns-then-emin-ltminus1200 : goal.returns-then-emin-ltminus1200
returns-then-emin-ltminus1200 c =
    let t = lt_taken c.args.emin (negsuc 1199) c.ranges.emin (sfits_lit tt) c.if-emin-ltminus1200.true in
    refuted (λ h. let e = exponents _ _ h in omega arith)

pub returns-then-emax-emin : goal.returns-then-emax-emin
returns-then-emax-emin c =
    let t = lt_taken c.args.emax c.args.emin c.ranges.emax c.ranges.emin c.if-emax-emin.true in
    refuted (λ h. let e = exponents _ _ h in omega arith)

pub returns : goal.returns
returns c =
    let low = lt_left c.args.emin (negsuc 1199) c.ranges.emin (sfits_lit tt) c.if-emin-ltminus1200.false in
    let order = lt_left c.args.emax c.args.emin c.ranges.emax c.ranges.emin c.if-emax-emin.false in
    le_read c.args.emax (pos 1200) c.ranges.emax (sfits_lit tt) ∙ last c.args.emin c.args.emax low order
