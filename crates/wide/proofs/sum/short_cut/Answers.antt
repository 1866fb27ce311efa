-- `wide::sum::short_cut` meets its contract: one word, or all digits in units of the place below.
use Rattle.theory.proofs.Prelude.{ℕ, ◌≤◌, ◌<◌, ◌+◌, ◌*◌, ◌-◌, ◌^◌, ◌/◌, ◌%◌, Bool, true, false, not, Bool·beq, ◌∙◌, ap, ◌≡◌, sym, refl, leb, le-leb, lt-leb, mod-lt, arith}
use native.Mathlib.Nat.{div-le_self}
use Rattle.rounding.proofs.Prelude.{Location, cut_of, unit_most, digits_most}
use Rattle.wide.specs.Sum.{Sized, above, below}
use Rattle.wide.proofs.Sums.{unit_cut, above_most, sized_most, lower_power, lower_some, lower_value, steps_least, steps_most}
use Rattle.wide.proofs.sum.short_cut.Goals as goal
use Rattle.wide.proofs.sum.short_cut.Goals.{Joined-more, then-more, else-more}

-- the sign, by a test that is known
kept : (a : Bool) → Bool·beq a true ≡ a
kept true = refl
kept false = refl

turned : (a : Bool) → Bool·beq a false ≡ not a
turned true = refl
turned false = refl

sized : (c : Joined-more) → let a = c.args in let u = a.sum in
    Sized a.negative u.given u.taken u.rest a.unit (Bool·beq a.negative (leb u.taken u.given)) c.if-more.size
sized c =
    let a = c.args in
    let u = a.sum in
    elim c.if-more.branch [
      | then-more w ↦ above w.if-more.true (ap (Bool·beq a.negative) (le-leb u.taken u.given w.if-more.true) ∙ kept a.negative) w.size-is
      | else-more w ↦ below w.if-more.false (ap (Bool·beq a.negative) (lt-leb u.taken u.given w.if-more.false) ∙ turned a.negative) w.size-is
    ]

pub exact_cut-requires : goal.exact_cut-requires
exact_cut-requires c =
    let p = c.requires in
    (p.0, sized_most p.0 p.1 p.2 c.if-gap-le1.true (sized c))

pub overflow_mul-size : goal.overflow_mul-size
overflow_mul-size c =
    let p = c.requires in
    omega (arith, above_most p.0 p.1 p.2 c.if-gap-le1.true c.if-more.true, p.0.bound_most)

pub overflow_add-size : goal.overflow_add-size
overflow_add-size c =
    let p = c.requires in
    omega (arith, above_most p.0 p.1 p.2 c.if-gap-le1.true c.if-more.true, p.0.bound_most)

-- ---- where the gap is more than 1
pub nonzero_rem-sum : goal.nonzero_rem-sum
nonzero_rem-sum c = let p = c.requires in omega (arith, lower_some p.0 p.1 (omega (arith, c.if-gap-le1.false)))

pub nonzero_div-result : goal.nonzero_div-result
nonzero_div-result c = let p = c.requires in omega (arith, lower_some p.0 p.1 (omega (arith, c.if-gap-le1.false)))

pub locate-location-requires : goal.locate-location-requires
locate-location-requires c =
    let a = c.args in
    let p = c.requires in
    let some : 2 ≤ a.unit / a.scale.base = lower_some p.0 p.1 (omega (arith, c.if-gap-le1.false)) in
    let rest : a.sum.rest % (a.unit / a.scale.base) < a.unit / a.scale.base = mod-lt a.sum.rest (omega (arith, some)) in
    (omega (arith, rest, div-le_self a.unit a.scale.base, unit_most p.0 p.1, p.0.bound_most), omega (arith, some))

pub overflow_add-result-2 : goal.overflow_add-result-2
overflow_add-result-2 c = let p = c.requires in omega (arith, p.1.most, digits_most p.0, p.3)

pub returns : goal.returns
returns c =
    let a = c.args in
    let p = c.requires in
    let apart : 2 ≤ a.gap = omega (arith, c.if-gap-le1.false) in
    let some : 2 ≤ a.unit / a.scale.base = lower_some p.0 p.1 apart in
    let steps : ℕ = (a.sum.given - a.sum.taken) * a.scale.base + a.sum.rest / (a.unit / a.scale.base) in
    record {
      size = _;
      sized = above (p.2.enough apart).0 refl refl;
      is = ap (λ (i : Location). record { steps = steps; place = a.place + (a.gap - 1); location = i }) c.locate-location.ensures
          ∙ sym (unit_cut p.0 (a.gap - 1) a.place (lower_power p.0 p.1 apart) (steps_least p.0 p.1 p.2 apart) (steps_most p.0 p.1 p.2 apart) (mod-lt a.sum.rest (omega (arith, some))))
          ∙ ap (λ (n : ℕ). cut_of a.scale.base a.scale.digits (n * a.scale.base ^ a.place) (a.scale.base ^ 0)) (lower_value p.0 p.1 p.2 apart);
    }
