-- `rump::premises::is_inner` meets its contract.
use Rattle.theory.proofs.Prelude.{ℕ, ◌≤◌, ◌^◌, ◌*◌, ◌-◌, false, inr, ◌∙◌, ap, ◌≡◌, ap₂, mul-le-mul_right, pow-zero, mul-pos, le_refl, arith, ltb, pos}
use Rattle.theory.specs.Wide.{Canonical}
use Rattle.theory.proofs.Tests.{refuted}
use Rattle.theory.proofs.Powers.{pow_pos, pow_half}
use Rattle.number.proofs.Prelude.{Format, Prepared, place_of, magnitude, greatest, number, Usable, members, known}
use Rattle.number.specs.declared.Number.{Number}
use Rattle.number.proofs.Values.{member_greatest, greatest_wide}
use Rattle.arithmetic.proofs.Prepared.{no_magnitude}
use Rattle.rump.proofs.Reach.{next_some, next_by}
use Rattle.rump.proofs.Lines.{Has, number_has, has_size}
use Rattle.rump.proofs.premises.is_inner.Goals as goal

-- zero
pub returns-then-x-eq0 : goal.returns-then-x-eq0
returns-then-x-eq0 c = refuted (λ h. omega (arith, next_some c.args.prepared.format c.args.x h, no_magnitude c.args.prepared.format c.args.x c.if-x-eq0.true))

-- ---- the greatest number
two_least : {q : Prepared} → Usable q → 2 ≤ q.format.base ^ q.format.digits
two_least {q} u = let a = (known u).admits in omega (arith, pow-zero q.format.base, pow_half a.base_low {i = 0} {j = q.format.digits} a.digits_low)

pub overflow_sub-bound : goal.overflow_sub-bound
overflow_sub-bound c =
    let u = c.requires.usable in
    omega (arith, (known u).bound, two_least u)

digits_least : {β p t : ℕ} → 2 ≤ β → 2 ≤ β ^ p → t ≡ β ^ p → (k : ℕ) → Canonical β p (t - 1) k
digits_least {β} {p} {t} b two e k = record { small = omega arith; normal = inr (omega (arith, mul-le-mul_right (t - 1) b)) }

pub number_at-greatest-requires : goal.number_at-greatest-requires
number_at-greatest-requires c =
    let u = c.requires.usable in
    (u, digits_least (known u).admits.base_low (two_least u) (known u).bound _, le_refl _)

-- the bound that the code makes
bound_has : {q : Prepared} → Usable q → {b : Number} → b ≡ number q.format false ((q.scale.bound - 1) * q.format.base ^ q.highest) → Has q.format b (pos (greatest q.format))
unfolding greatest
bound_has {q} u e =
    let k = known u in
    number_has k.admits (greatest_wide k.admits) (le_refl _)
    (e ∙ ap (number q.format false) (ap₂ (λ (t h : ℕ). (t - 1) * q.format.base ^ h) k.bound k.highest))

pub is_smaller-requires : goal.is_smaller-requires
is_smaller-requires c = (c.requires.usable.format, c.requires.number, (bound_has c.requires.usable c.number_at-greatest.ensures).number)

some : (f : Format) (x : Number) → 2 ≤ f.base → (x.significand ≡ 0 → ⊥) → 1 ≤ magnitude f x
unfolding magnitude
some f x b h = mul-pos (omega arith) (pow_pos b (place_of f x))

pub returns : goal.returns
returns c =
    let f = c.args.prepared.format in
    let x = c.args.x in
    let a = (known c.requires.usable).admits in
    c.is_smaller.ensures ∙ ap (ltb (magnitude f x)) (has_size (bound_has c.requires.usable c.number_at-greatest.ensures))
    ∙ next_by f x (some f x a.base_low c.if-x-eq0.false) (member_greatest a (members x a c.requires.number))
