-- `vectors::columns::digits_at` meets its contract: the digits so far, with those that are left, are the number.
use Rattle.theory.proofs.Prelude.{ℕ, ◌+◌, ◌-◌, ◌^◌, ◌<◌, ◌≡◌, List}
use Rattle.vectors.specs.Columns.{digits_from}
use Rattle.vectors.proofs.columns.digits_at.Given as goal

-- v is the number of the first i digits from s on
pub record Reading (row : List ℕ) (s v i : ℕ) : Type 0 where
  pub small : v < 16 ^ i
  pub holds : digits_from row v (s + i) (16 - i) ≡ digits_from row 0 s 16

abbrev pub invariant-loop-b : goal.invariant-loop-b
invariant-loop-b l = Reading l.row l.start l.value l.b-index
