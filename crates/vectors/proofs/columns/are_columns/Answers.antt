-- `vectors::columns::are_columns` meets its contract.
use Rattle.theory.proofs.Prelude.{ℕ, suc, zero, ◌&&◌, Bool, true, false, List, ◌≡◌, ◌∙◌, refl, rules, add-one}
use borrow.Author.Tests.{tests}
use Rattle.theory.specs.Tests.{◌and◌}
use Rattle.std.specs.List.{list_all, range_with_len}
use Rattle.std.proofs.lemmas.Iterator.{YieldsList-from_range}
use Rattle.std.proofs.lemmas.Iterator.Search.{all_from_yields_List}
use Rattle.vectors.specs.Columns.{is_column, are_columns}
use Rattle.vectors.proofs.columns.are_columns.Goals as goal

both : (a b : Bool) → a && b ≡ a and b
unfolding ◌and◌
both true b = refl
both false b = refl

all_are : (row : List ℕ) (c n : ℕ) → list_all (is_column row) (range_with_len c n) ≡ are_columns row c n
unfolding are_columns
all_are row c zero = refl
all_are row c (suc n) = rw (add-one, all_are row (suc c) n) (both (is_column row c) (are_columns row (suc c) n))

pub returns : goal.returns
returns c =
    all_from_yields_List {v = λ (x : ℕ). x} (is_column c.args.row.now) _ _ _ c.all.ensures.ran (YieldsList-from_range 0 16 16 refl refl) (λ x b q k. search (rules, tests))
    ∙ all_are c.args.row.now 0 16
