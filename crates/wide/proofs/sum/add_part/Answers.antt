-- `wide::sum::add_part` meets its contract: where the signs differ, a rest is taken from one more unit.
use Rattle.theory.proofs.Prelude.{ℕ, ◌≤◌, ◌<◌, ◌+◌, ◌*◌, ◌-◌, true, false, Bool, not, inl, inr, ◌⊎◌, ◌≢◌, ◌∙◌, ap, ◌≡◌, sym, refl, mul-le-mul_left, eqb, eq-eqb, ne_eqb, bool_byte, arith}
use Rattle.theory.proofs.Tests.{never}
use Rattle.wide.specs.Sum.{InUnits}
use Rattle.wide.proofs.sum.add_part.Goals as goal
use Rattle.wide.proofs.sum.add_part.Goals.{then-remainder-eq0, then-differ-2, then-differ, else-remainder-eq0, else-differ-2, else-differ}

module _ (m q : ℕ) {r unit given taken rest : ℕ} {t : Bool} (l : r < unit) where
  more : t ≡ false → given ≡ m + q → taken ≡ 0 → rest ≡ r → InUnits m (q * unit + r) unit t given taken rest
  more e f g h =
      record {
        more = λ x. (omega (arith, ap (λ (v : ℕ). v * unit) f), g);
        less = λ x. absurd (never (sym x ∙ e));
        small = omega arith;
        taken_most = omega arith;
      }

  less : t ≡ true → given ≡ m → taken ≡ q + bool_byte (not (eqb r 0)) → ((r ≡ 0) × (rest ≡ 0)) ⊎ ((r ≢ 0) × (rest ≡ unit - r))
      → InUnits m (q * unit + r) unit t given taken rest
  less e f g (inl z) =
      let one : 1 ≤ unit = omega arith in
      let whole : taken ≡ q = g ∙ rw (eq-eqb r 0 z.0) (omega arith) in
      record {
        more = λ x. absurd (never (sym e ∙ x));
        less = λ x. (omega (arith, ap (λ (v : ℕ). v * unit) whole, z.0, z.1), f);
        small = omega (arith, z.1);
        taken_most = omega (arith, whole, mul-le-mul_left q one);
      }
  less e f g (inr z) =
      let one : 1 ≤ unit = omega arith in
      let whole : taken ≡ q + 1 = g ∙ rw (ne_eqb r 0 z.0) (omega arith) in
      let some : 1 ≤ r = omega (arith, z.0) in
      record {
        more = λ x. absurd (never (sym e ∙ x));
        less = λ x. (omega (arith, ap (λ (v : ℕ). v * unit) whole, z.1), f);
        small = omega (arith, z.1);
        taken_most = omega (arith, whole, mul-le-mul_left q one);
      }

pub returns-then-differ-3 : goal.returns-then-differ-3
returns-then-differ-3 c =
    let d = c.if-differ-3.true in
    less c.args.m c.args.part.quotient c.requires.2 d
    (elim c.if-differ.branch [ then-differ w ↦ w.given-is | else-differ w ↦ absurd (never (sym d ∙ w.if-differ.false)) ])
    (elim c.if-differ-2.branch [ then-differ-2 w ↦ w.taken-is | else-differ-2 w ↦ absurd (never (sym d ∙ w.if-differ-2.false)) ])
    (elim c.if-remainder-eq0.branch [ then-remainder-eq0 w ↦ inl (w.if-remainder-eq0.true, w.missing-is) | else-remainder-eq0 w ↦ inr (w.if-remainder-eq0.false, w.missing-is) ])

pub returns-else-differ-3 : goal.returns-else-differ-3
returns-else-differ-3 c =
    let d = c.if-differ-3.false in
    more c.args.m c.args.part.quotient c.requires.2 d
    (elim c.if-differ.branch [ then-differ w ↦ absurd (never (sym w.if-differ.true ∙ d)) | else-differ w ↦ w.given-is ])
    (elim c.if-differ-2.branch [ then-differ-2 w ↦ absurd (never (sym w.if-differ-2.true ∙ d)) | else-differ-2 w ↦ w.taken-is ]) refl
