-- `format::admission::is_admitted` meets its contract: a test that fails refutes what an admitted format has, and the last one decides.
use Rattle.theory.proofs.Prelude.{◌≤◌, ◌^◌, true, ◌∙◌, ◌≡◌, sym, arith, leb, w32, SFits, rules, le-leb}
use Rattle.theory.specs.Tests.{◌and◌}
use Rattle.theory.proofs.Tests.{never, refuted}
use Rattle.format.specs.declared.Format.{Format}
use Rattle.format.specs.Formats.{greatest_power, exponents_admitted, admitted}
use Rattle.format.proofs.Signed.{back}
use Rattle.format.proofs.Formats.{admits}
use Rattle.format.proofs.admission.is_admitted.Goals as goal

-- the exponents decide where the base and the digits pass
last : (f : Format) → 2 ≤ f.base → f.base ≤ 256 → 1 ≤ f.digits → f.digits ≤ 63 → leb (f.base ^ f.digits) greatest_power ≡ true
    → exponents_admitted f.emin f.emax ≡ admitted f
unfolding admitted ◌and◌
last f b₁ b₂ d₁ d₂ p = rw (le-leb _ _ b₁, le-leb _ _ b₂, le-leb _ _ d₁, le-leb _ _ d₂, p, ◌and◌)

pub returns-then-not-fits : goal.returns-then-not-fits
returns-then-not-fits c = refuted (λ h. never (sym (le-leb _ _ (admits _ h).power_high) ∙ sym c.fits.ensures ∙ c.if-not-fits.true))

pub returns : goal.returns
returns c =
    let emin_fits : SFits w32 c.args.format.emin = search rules in
    let emax_fits : SFits w32 c.args.format.emax = search rules in
    (c.exponents_admitted.ensures ∙ rw (back emin_fits, back emax_fits))
    ∙ last c.args.format c.if-base-lt2.false c.if-base-gt256.false c.if-digits-lt1.false c.if-digits-gt63.false (sym c.fits.ensures ∙ c.if-not-fits.false)

pub returns-then-base-lt2 : goal.returns-then-base-lt2
returns-then-base-lt2 c = refuted (λ h. let a = admits _ h in omega arith)

pub returns-then-base-gt256 : goal.returns-then-base-gt256
returns-then-base-gt256 c = refuted (λ h. let a = admits _ h in omega arith)

pub returns-then-digits-lt1 : goal.returns-then-digits-lt1
returns-then-digits-lt1 c = refuted (λ h. let a = admits _ h in omega arith)

pub returns-then-digits-gt63 : goal.returns-then-digits-gt63
returns-then-digits-gt63 c = refuted (λ h. let a = admits _ h in omega arith)
