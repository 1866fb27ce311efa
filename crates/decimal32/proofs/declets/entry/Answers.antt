-- `decimal32::declets::entry` meets its contract: a table that passes the test holds the rule's value at each entry.
use Rattle.theory.proofs.Prelude.{ℕ, ◌<◌, true, List, ◌∙◌, ◌≡◌, get_or, eqb, eqb-true}
use Rattle.theory.proofs.Lists.{at_number}
use Rattle.decimal32.specs.Declets.{declet_value, holds_declets}
use Rattle.decimal32.proofs.declets.entry.Goals as goal

entry_is : (table : List ℕ) → holds_declets table ≡ true → (n : ℕ) → n < 1024 → get_or table n 0 ≡ declet_value n
unfolding holds_declets
entry_is table h n l = eqb-true (get_or table n 0) (declet_value n) (at_number (λ (i : ℕ). eqb (get_or table i 0) (declet_value i)) 1024 h n l)

pub returns : goal.returns
returns c = c.from.ensures ∙ entry_is c.args.table.now c.requires.0 c.args.declet c.requires.1
