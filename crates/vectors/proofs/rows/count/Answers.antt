-- `vectors::rows::count` meets its contract: the rows so far and those that are left are those of the input.
use Rattle.theory.proofs.Prelude.{arith, ℕ, suc, zero, ◌+◌, ◌*◌, ◌%◌, ◌^◌, ◌≤◌, ◌<◌, ◌≡◌, refl, sym, ap, ◌∙◌, Bool, true, false, cond, List, length, take, drop, get_or, length-drop, bool_byte, leb, le-leb, lt-leb, dec_le, take_all, [], ◌++◌, append-nil}
use Rattle.std.proofs.lemmas.List.{get_or-take, take-append-le, drop-append-le, drop_all, nil_from_length, length-append}
use Prim.Native.Nat.{min}
use lib.ListN.{length-take}
use Rattle.lines.specs.Digits.{digit_of}
use Rattle.format.specs.Given.{Given, gives, refused, refused_at}
use Rattle.number.specs.declared.Number.{Number}
use Rattle.vectors.specs.declared.rows.Tally.{Tally}
use Rattle.vectors.specs.Columns.{columns, row_length, digits_from, column_at, is_column, are_columns}
use Rattle.vectors.specs.Rows.{number_at, row_answer, is_answer, says, agrees, rows_in, with_row, counted}
use Rattle.vectors.proofs.rows.count.Goals as goal

-- ---- a row is judged by its own bytes
module _ (row : List ℕ) where
  abbrev first : List ℕ
  first = take row_length row

  digits_same : (v at n : ℕ) → at + n ≤ row_length → digits_from first v at n ≡ digits_from row v at n
  unfolding digits_from
  digits_same v at zero h = refl
  digits_same v at (suc n) h =
      rw (get_or-take row_length row at 0 (omega arith), digits_same (v * 16 + digit_of (get_or row at 0)) (suc at) n (omega arith))

  column_same : (c : ℕ) → c < columns → column_at first c ≡ column_at row c
  unfolding column_at
  column_same c h = digits_same 0 (17 * c) 16 (omega arith)

  is_column_same : (c : ℕ) → c < columns → is_column first c ≡ is_column row c
  unfolding is_column
  is_column_same c h = rw (column_same c h, get_or-take row_length row (17 * c + 16) 0 (omega arith))

  columns_same : (c n : ℕ) → c + n ≤ columns → are_columns first c n ≡ are_columns row c n
  unfolding are_columns
  columns_same c zero h = refl
  columns_same c (suc n) h = rw (is_column_same c (omega arith), columns_same (suc c) n (omega arith))

  number_same : (c : ℕ) → c + 2 < columns → number_at first c ≡ number_at row c
  unfolding number_at
  number_same c h = rw (column_same c (omega arith), column_same (c + 1) (omega arith), column_same (c + 2) (omega arith))

  answer_same : row_answer first ≡ row_answer row
  unfolding row_answer
  answer_same =
      rw (column_same 0 (omega arith), column_same 1 (omega arith), column_same 2 (omega arith), column_same 3 (omega arith), column_same 4 (omega arith), column_same 5 (omega arith), number_same 6 (omega arith), number_same 9 (omega arith))

  says_same : (g : Given Number) → says first g ≡ says row g
  unfolding says is_answer
  says_same (gives x) = rw (column_same 12 (omega arith), number_same 13 (omega arith))
  says_same (refused k) = rw (column_same 12 (omega arith), number_same 13 (omega arith))
  says_same (refused_at k i) = rw (column_same 12 (omega arith), number_same 13 (omega arith))

  long_same : leb row_length (length first) ≡ leb row_length (length row)
  long_same = by (dec_le row_length (length row))
    where
      by : Dec (row_length ≤ length row) → leb row_length (length first) ≡ leb row_length (length row)
      by (yes h) = rw (le-leb row_length (length row) h, le-leb row_length (length first) (omega (arith, length-take row_length row)))
      by (no h) = rw (lt-leb row_length (length row) (omega arith), lt-leb row_length (length first) (omega (arith, length-take row_length row)))

  agrees_same : agrees first ≡ agrees row
  unfolding agrees
  agrees_same = rw (long_same, columns_same 0 columns (omega arith), answer_same, says_same (row_answer row))

-- ---- the rows that are left
byte : (b : Bool) → bool_byte b ≡ cond b 1 0
byte true = refl
byte false = refl

-- a chunk is what stands before the rest, and has a row's bytes, or all that are left
record Cut (rest row after : List ℕ) : Type 0 where
  parts : rest ≡ row ++ after
  long : length row ≡ min row_length (length rest)

module _ {rest row after : List ℕ} (k : Cut rest row after) where
  front : (take row_length rest ≡ row) × (drop row_length rest ≡ after)
  front = rw k.parts (by (dec_le row_length (length row)))
    where
      by : Dec (row_length ≤ length row) → (take row_length (row ++ after) ≡ row) × (drop row_length (row ++ after) ≡ after)
      by (yes h) = (
        take-append-le row_length row after h ∙ take_all row_length row (omega (arith, k.long)),
        drop-append-le row_length row after h ∙ ap (λ (l : List ℕ). l ++ after) (drop_all row_length row (omega (arith, k.long))),
      )
      by (no h) =
          let none : after ≡ [] = nil_from_length after (omega (arith, k.long, ap length k.parts, length-append row after)) in
          rw (none, append-nil) (take_all row_length row (omega arith), drop_all row_length row (omega arith))

  turn : (t : Tally) {agree all : ℕ} {g : Bool} {whole : Tally} → 0 < length rest → g ≡ agrees row → agree ≡ (t.agree + bool_byte g) % 2 ^ 64 → all ≡ (t.all + 1) % 2 ^ 64
      → counted t rest (rows_in (length rest)) ≡ whole → counted (record { agree = agree; all = all }) after (rows_in (length after)) ≡ whole
  unfolding counted with_row
  turn t some g a n e =
      let more : rows_in (length rest) ≡ suc (rows_in (length (drop row_length rest))) = omega (arith, length-drop row_length rest) in
      let same : agrees row ≡ agrees rest = ap agrees (sym front.0) ∙ agrees_same rest in
      rw (a, n, g, same, byte (agrees rest), ← front.1) (rw more at e)

none_left : (t : Tally) (rest : List ℕ) {whole : Tally} → length rest ≡ 0 → counted t rest (rows_in (length rest)) ≡ whole → t ≡ whole
unfolding counted
none_left t rest e h = rw e at h

pub loop-row-init : goal.loop-row-init
loop-row-init c = let e = c.into_iter-row-iterator.ensures.into_iter_gives in rw e (c.chunks-row-items.ensures.size, rw c.chunks-row-items.ensures.rest refl)

pub loop-row-preserved : goal.loop-row-preserved
loop-row-preserved c =
    let size : c.loop-row.row-iterator.size ≡ row_length = c.loop-row.invariant.0 in
    let k : Cut c.loop-row.row-iterator.rest.now c.in-Some.row.now c.next.new.self.rest.now = record { parts = c.in-Some.ensures.steps.1.0; long = rw size at c.in-Some.ensures.steps.1.1 } in
    (c.in-Some.ensures.steps.0 ∙ size, turn k c.loop-row.tally c.in-Some.ensures.steps.1.2 c.agrees.ensures (rw c.from.ensures refl) refl c.loop-row.invariant.1)

pub returns : goal.returns
returns c = none_left c.loop-row.tally c.loop-row.row-iterator.rest.now c.in-None.ensures.steps.1.0 c.loop-row.invariant.1
