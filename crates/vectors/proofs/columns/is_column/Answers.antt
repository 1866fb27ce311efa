-- `vectors::columns::is_column` meets its contract.
use Rattle.theory.proofs.Prelude.{ℕ, ◌+◌, ◌*◌, ◌%◌, ◌^◌, ◌≤◌, ◌<◌, ◌≡◌, ◌∙◌, refl, arith, true, [], ◌∷◌, List, get_or, eqb, ltb, eqb-true, lt-ltb, le-ltb}
use Rattle.std.proofs.lemmas.Bool.{agree_below_at}
use Rattle.vectors.specs.declared.columns.Kind.{Kind}
use Rattle.vectors.specs.Columns.{column_at, ends, column_limits, shifts, is_column}
use Rattle.vectors.proofs.columns.is_column.Goals as goal
use Rattle.vectors.proofs.columns.is_column.Goals.{then-c-lt-COLUMNS, else-c-lt-COLUMNS}

module _ (row : List ℕ) (c : ℕ) {x shift limit : ℕ} (e : x ≡ column_at row c) (s : shift ≡ get_or shifts c 0) (l : limit ≡ get_or column_limits c 0) where
  within : {end : ℕ} → (x + shift) % 2 ^ 64 < limit → end ≡ get_or ends c 0 → eqb (get_or row (17 * c + 16) 0) end ≡ is_column row c
  unfolding is_column
  within t d = rw (← e, ← s, ← l, d, lt-ltb ((x + shift) % 2 ^ 64) limit t)

  beyond : limit ≤ (x + shift) % 2 ^ 64 → ltb ((x + shift) % 2 ^ 64) limit ≡ is_column row c
  unfolding is_column
  beyond t = rw (← e, ← s, ← l, le-ltb ((x + shift) % 2 ^ 64) limit t)

-- the bytes after the columns
space : (c : ℕ) → c + 1 < 16 → 32 ≡ get_or ends c 0
space c h = eqb-true _ _ (agree_below_at (λ c. eqb 32 (get_or ends c 0)) (λ c. true) 15 c refl (omega arith))

last : (c : ℕ) → c ≡ 15 → 10 ≡ get_or ends c 0
last c e = rw e

-- the kinds of the columns, with what is read past them
abbrev kind : (shift limit : ℕ) → Kind
kind shift limit = record { shift = shift; limit = limit }

abbrev unsigned : Kind
unsigned = kind 0 (2 ^ 32)

abbrev signed : Kind
signed = kind (2 ^ 31) (2 ^ 32)

abbrev sign : Kind
sign = kind 0 2

abbrev significand : Kind
significand = kind 0 (2 ^ 63)

abbrev kind_at : ℕ → Kind
kind_at c =
    get_or (kind 0 24 ∷ unsigned ∷ unsigned ∷ signed ∷ signed ∷ unsigned ∷ sign ∷ significand ∷ signed ∷ sign ∷ significand ∷ signed ∷ unsigned ∷ sign ∷ significand ∷ signed ∷ []) c (kind 0 0)

shift_is : (c : ℕ) → c < 16 → (kind_at c).shift ≡ get_or shifts c 0
shift_is c h = eqb-true _ _ (agree_below_at (λ k. eqb (kind_at k).shift (get_or shifts k 0)) (λ k. true) 16 c refl h)

limit_is : (c : ℕ) → c < 16 → (kind_at c).limit ≡ get_or column_limits c 0
limit_is c h = eqb-true _ _ (agree_below_at (λ k. eqb (kind_at k).limit (get_or column_limits k 0)) (λ k. true) 16 c refl h)

pub returns-then-column_at-kind : goal.returns-then-column_at-kind
returns-then-column_at-kind c =
    let end : c.if-c-lt-COLUMNS.end ≡ get_or ends c.args.c 0 =
    elim c.if-c-lt-COLUMNS.branch [
      | then-c-lt-COLUMNS w ↦ w.end-is ∙ space c.args.c w.if-c-lt-COLUMNS.true
      | else-c-lt-COLUMNS w ↦ w.end-is ∙ last c.args.c (omega (arith, w.if-c-lt-COLUMNS.false))
    ] in
    within c.args.row.now c.args.c c.column_at.ensures (shift_is c.args.c c.requires.1) (limit_is c.args.c c.requires.1) c.if-column_at-kind.true end

pub returns-else-column_at-kind : goal.returns-else-column_at-kind
returns-else-column_at-kind c =
    beyond c.args.row.now c.args.c c.column_at.ensures (shift_is c.args.c c.requires.1) (limit_is c.args.c c.requires.1) c.if-column_at-kind.false
