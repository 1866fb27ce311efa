-- `vectors::columns::digits_at` meets its contract: the digits so far, with those that are left, are the number.
use Rattle.theory.proofs.Prelude.{arith, ℕ, suc, ◌+◌, ◌*◌, ◌-◌, ◌^◌, ◌<◌, ◌≡◌, sym, ap, ◌∙◌, cond, List}
use Rattle.theory.proofs.Prelude.{add-zero, pow-suc, add-one, get_or, take, drop}
use Rattle.std.specs.Prelude.{Option, Some, None, unwrap_or}
use Rattle.std.proofs.lemmas.List.Edits.{get_or-between}
use native.Mathlib.Nat.{pow-le-pow_right}
use Rattle.lines.specs.Digits.{digit_of, is_digit, digit_in}
use Rattle.lines.proofs.DigitLaws.{some_digit, small_digit, no_digit}
use Rattle.vectors.specs.Columns.{digits_from, column_at}
use Rattle.vectors.proofs.columns.digits_at.Goals as goal
use Rattle.vectors.proofs.columns.digits_at.Invariants.{Reading}

module _ {row : List ℕ} {s v i : ℕ} (g : Reading row s v i) (h : i < 16) where
  abbrev byte : ℕ
  byte = get_or row (s + i) 0

  room : v < 2 ^ 60
  room = omega (arith, g.small, pow-le-pow_right {n = 16} (omega arith) {i = i} {j = 15} (omega arith))

  next : digits_from row v (s + i) (16 - i) ≡ cond (is_digit byte) (digits_from row (v * 16 + digit_of byte) (s + (i + 1)) (16 - (i + 1))) (2 ^ 63)
  unfolding digits_from is_digit
  next =
      let n : 16 - i ≡ suc (16 - (i + 1)) = omega arith in
      let p : s + (i + 1) ≡ suc (s + i) = omega arith in
      rw (n, p)

  damaged : digit_in byte ≡ None → 2 ^ 63 ≡ digits_from row 0 s 16
  damaged e = sym (next ∙ rw (no_digit byte e)) ∙ g.holds

  one_more : {d : ℕ} → digit_in byte ≡ Some d → Reading row s (v * 16 + d) (i + 1)
  one_more e =
      let k = some_digit byte e in
      record {
        small = rw (add-one, pow-suc) (omega (arith, g.small, small_digit byte e));
        holds = rw (← k.1) (sym (next ∙ rw k.0) ∙ g.holds);
      }

-- the byte that is read is one of the column
read : (row : List ℕ) (s i : ℕ) {r x : Option ℕ} → i < 16 → r ≡ digit_in (get_or (take (s + 16 - s) (drop s row)) i 0) → r ≡ x → digit_in (get_or row (s + i) 0) ≡ x
read row s i h e f = ap digit_in (sym (get_or-between row s (s + 16) i 0 (omega arith))) ∙ sym e ∙ f

pub loop-b-init : goal.loop-b-init
loop-b-init c = record { small = omega arith; holds = rw add-zero }

pub loop-b-preserved : goal.loop-b-preserved
loop-b-preserved c =
    rw c.from.ensures (one_more c.loop-b.invariant (omega arith) (read c.args.row.now (17 * c.args.c) c.loop-b.b-index (omega arith) c.digit_of.ensures c.in_ok-digit_of.was))

pub returns-in_err-digit_of : goal.returns-in_err-digit_of
unfolding column_at
returns-in_err-digit_of c =
    ap (λ (r : Option ℕ). unwrap_or r (2 ^ 63)) c.from_residual.ensures
    ∙ damaged c.loop-b.invariant (omega arith) (read c.args.row.now (17 * c.args.c) c.loop-b.b-index (omega arith) c.digit_of.ensures c.in_err-digit_of.was)

pub returns : goal.returns
unfolding column_at digits_from
returns c =
    let l = c.loop-b in
    let e : 16 - l.b-index ≡ 0 = omega arith in
    sym (ap (digits_from _ l.value _) e) ∙ l.invariant.holds

pub overflow_mul-value : goal.overflow_mul-value
overflow_mul-value c = omega (arith, room c.loop-b.invariant (omega arith))

pub overflow_add-value : goal.overflow_add-value
overflow_add-value c =
    let small = small_digit _ (read c.args.row.now (17 * c.args.c) c.loop-b.b-index (omega arith) c.digit_of.ensures c.in_ok-digit_of.was) in
    omega (arith, room c.loop-b.invariant (omega arith))
