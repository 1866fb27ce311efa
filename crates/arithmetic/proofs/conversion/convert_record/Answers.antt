-- `arithmetic::conversion::convert_record` meets its contract: the record in the wide format, delivered.
use Rattle.theory.proofs.Prelude.{ℕ, ◌<◌, ◌^◌, not, ⊎_elim, inl, inr, ◌⊎◌, ◌∙◌, ◌&&◌, false, ap, ◌≡◌, ℕ_discrete, arith, eqb, ltb, ltb-true, ltb-false, eqb-false, ne_eqb, ◌-ℤ◌, w32, SFits, rules}
use Rattle.theory.proofs.Tests.{not-true}
use Rattle.wide.proofs.Conversions.{both_passed, one_failed}
use Rattle.arithmetic.specs.declared.operands.Powers.{Powers}
use Rattle.arithmetic.specs.Operands.{record_powers}
use Rattle.arithmetic.specs.Marked.{marked_record}
use Rattle.arithmetic.proofs.Prelude.{back, known}
use Rattle.arithmetic.proofs.Prepared.{Delivers, scale_scaled, record_delivers}
use Rattle.arithmetic.proofs.Conversions.{one_power, far_above}
use Rattle.arithmetic.proofs.conversion.convert_record.Goals as goal

-- or it is 0, or not far
near_or_zero : (m up : ℕ) → (not (eqb m 0) && ltb 4000 up) ≡ false → (m ≡ 0) ⊎ (up < 2 ^ 28)
near_or_zero m up f = by (ℕ_discrete m 0)
  where
    by : Dec (m ≡ 0) → (m ≡ 0) ⊎ (up < 2 ^ 28)
    by (yes e) = inl e
    by (no n) = inr (omega (arith, ltb-false 4000 up (one_failed (not (eqb m 0)) (ltb 4000 up) (ap not (ne_eqb m 0 n)) f)))

-- m is not 0, and the exponent is far above
pub returns-then-m-w : goal.returns-then-m-w
returns-then-m-w c =
    let fit : SFits w32 c.args.x.exponent = search rules in
    let are : c.record_powers-w.result ≡ record_powers c.args.prepared.format c.args.x.exponent = c.record_powers-w.ensures ∙ rw (back fit) in
    let t = both_passed (not (eqb c.args.x.significand 0)) (ltb 4000 c.record_powers-w.result.up) c.if-m-w.true in
    let some = eqb-false c.args.x.significand 0 (not-true t.0) in
    far_above (known c.requires).admits c.args.direction c.args.x (omega (arith, some))
    (omega (arith, ltb-true 4000 c.record_powers-w.result.up t.1, ap (λ (p : Powers). p.up) are))

pub conversion-rounding-requires : goal.conversion-rounding-requires
conversion-rounding-requires c =
    let fit : SFits w32 c.args.x.exponent = search rules in
    let are : c.record_powers-w.result ≡ record_powers c.args.prepared.format c.args.x.exponent = c.record_powers-w.ensures ∙ rw (back fit) in
    let near = near_or_zero c.args.x.significand c.record_powers-w.result.up c.if-m-w.false in
    (scale_scaled c.requires, near, ⊎_elim (λ z. inl (ap (λ (p : Powers). p.up) are ∙ z)) (λ z. inr (ap (λ (p : Powers). p.down) are ∙ z)) (one_power (c.args.x.exponent -ℤ c.args.prepared.format.emin)))

pub record_powers-w-requires : goal.record_powers-w-requires
record_powers-w-requires c = c.requires

pub deliver_wide-requires : goal.deliver_wide-requires
deliver_wide-requires c =
    let fit : SFits w32 c.args.x.exponent = search rules in
    let are : c.record_powers-w.result ≡ record_powers c.args.prepared.format c.args.x.exponent = c.record_powers-w.ensures ∙ rw (back fit) in
    let result : let s = c.args in Delivers s.prepared.format c.conversion-rounding.result (marked_record s.prepared.format s.direction s.x) = record_delivers c.requires c.args.direction c.args.x are c.conversion-rounding.ensures in
    (c.requires, result.canonical)

pub returns : goal.returns
returns c =
    let fit : SFits w32 c.args.x.exponent = search rules in
    let are : c.record_powers-w.result ≡ record_powers c.args.prepared.format c.args.x.exponent = c.record_powers-w.ensures ∙ rw (back fit) in
    let result : let s = c.args in Delivers s.prepared.format c.conversion-rounding.result (marked_record s.prepared.format s.direction s.x) = record_delivers c.requires c.args.direction c.args.x are c.conversion-rounding.ensures in
    c.deliver_wide.ensures ∙ result.is
