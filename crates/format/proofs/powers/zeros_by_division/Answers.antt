-- `format::powers::zeros_by_division` meets its contract: the loop takes the zeros off one by one.
use Rattle.theory.proofs.Prelude.{ℕ, ◌≤◌, ◌<◌, ◌+◌, ◌^◌, ◌*◌, suc, zero, ◌%◌, ◌/◌, ◌∙◌, ap, ◌≡◌, sym, refl, subst, mul-le-mul_right, mul-le-mul_left, pow-zero, div-add-mod', pow-suc, mul-one, add-one, lt_of_not-le, pow-le-pow_left, arith, rules}
use Rattle.theory.proofs.Powers.{pow_pos, pow_mono}
use Rattle.theory.proofs.Multiples.{Multiple, multiple_mod, multiple_cancel}
use Rattle.theory.proofs.LeastPlace.{Ends, ends_zeros}
use Rattle.format.proofs.powers.zeros_by_division.Goals as goal

-- the count stays below the bits of a word
room : (w : ℕ) {β m rest count : ℕ} → 2 ≤ β → m ≡ rest * β ^ count → 1 ≤ rest → m < 2 ^ w → count < w
room w {β} {m} {rest} {count} h e l f =
    let two : 2 ≤ 2 = omega arith in
    lt_of_not-le (λ (k : w ≤ count). omega (arith, pow_mono two k, pow-le-pow_left h count, mul-le-mul_right (β ^ count) l))

-- a digit 0 is taken off
shorter : (β rest : ℕ) → 2 ≤ β → 1 ≤ rest → rest % β ≡ 0 → (rest / β < rest) × (1 ≤ rest / β) × (rest ≡ rest / β * β)
shorter β rest h l e =
    let d = div-add-mod' rest β in
    let some : 1 ≤ rest / β = go (rest / β) refl in
    (omega (arith, mul-le-mul_left (rest / β) h), some, omega arith)
  where
    go : (q : ℕ) → rest / β ≡ q → 1 ≤ q
    go zero k = absurd (omega (arith, div-add-mod' rest β, ap (λ (v : ℕ). v * β) k))
    go (suc q) k = omega arith

pub overflow_add-count : goal.overflow_add-count
overflow_add-count c =
    let i = c.loop-rest.invariant in
    omega (arith, room 64 {rest = c.loop-rest.rest} {count = c.loop-rest.count} c.requires.0 i.0 i.1 (search rules))

moved : (β : ℕ) {m rest : ℕ} (count : ℕ) → m ≡ rest * β ^ count → rest ≡ rest / β * β → m ≡ rest / β * β ^ (count + 1)
moved β {m} {rest} count e r = e ∙ ap (λ (v : ℕ). v * β ^ count) r ∙ rw (add-one, pow-suc) (omega arith)

pub loop-rest-preserved : goal.loop-rest-preserved
loop-rest-preserved c =
    let turn : let β = c.args.base in let rest = c.loop-rest.rest in (rest / β < rest) × (1 ≤ rest / β) × (rest ≡ rest / β * β) = shorter c.args.base c.loop-rest.rest c.requires.0 c.loop-rest.invariant.1 c.loop-rest-test.true in
    let t = turn in (moved c.args.base c.loop-rest.count c.loop-rest.invariant.0 t.2, t.1)

-- no zero is left
ended : (β m rest count : ℕ) → 2 ≤ β → m ≡ rest * β ^ count → (rest % β ≡ 0 → ⊥) → Ends β m count
ended β m rest count h e n =
    record {
      multiple = record { times = rest; is = e };
      no_more = λ k. n (multiple_mod (multiple_cancel (pow_pos h count) (subst (Multiple (β ^ count * β)) e (subst (λ (q : ℕ). Multiple q m) (pow-suc β count) k))));
    }

pub returns : goal.returns
returns c =
    let i = c.loop-rest.invariant in
    sym (ends_zeros c.requires.0 c.requires.1 (ended c.args.base c.args.m c.loop-rest.rest c.loop-rest.count c.requires.0 i.0 c.loop-rest-test.false))

pub loop-rest-init : goal.loop-rest-init
loop-rest-init c = (rw (pow-zero, mul-one), c.requires.1)

pub nonzero_rem-rest : goal.nonzero_rem-rest
nonzero_rem-rest c = omega (arith, c.requires.0)

pub nonzero_div-rest : goal.nonzero_div-rest
nonzero_div-rest c = omega (arith, c.requires.0)

pub loop-rest-smaller : goal.loop-rest-smaller
loop-rest-smaller c =
    let turn : let β = c.args.base in let rest = c.loop-rest.rest in (rest / β < rest) × (1 ≤ rest / β) × (rest ≡ rest / β * β) = shorter c.args.base c.loop-rest.rest c.requires.0 c.loop-rest.invariant.1 c.loop-rest-test.true in
    turn.0
