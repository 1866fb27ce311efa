-- What a call gives in the papers' terms: values, or a refusal by its number, with an index where the paper has one; and what an answer
-- of the code is in these terms. The promises of the public calls go by that.
use Rattle.std.specs.Prelude.{ℕ, Result, Ok, Err}
use Rattle.format.specs.declared.Refusal.{Refusal}
use Rattle.format.specs.declared.ListRefusal.{ListRefusal}
use Rattle.format.specs.declared.ListRefusal.TheVariants.{Whole, Entry}
use Rattle.format.specs.Refusals.{refusal_number}

pub data Given (A : Type 0) : Type 0 where
  gives : A → Given A
  refused : (number : ℕ) → Given A
  refused_at : (number index : ℕ) → Given A

-- what comes after a step that may be refused
infixl 20 ◌then◌
abbrev pub ◌then◌ : {A B : Type 0} → Given A → (A → Given B) → Given B
gives x then next = next x
refused number then next = refused number
refused_at number index then next = refused_at number index

-- ---- the answers of the code
abbrev pub given : {A : Type 0} → Result A Refusal → Given A
given (Ok x) = gives x
given (Err why) = refused (refusal_number why)

-- of a call on lists
abbrev pub given_at : {A : Type 0} → Result A ListRefusal → Given A
given_at (Ok x) = gives x
given_at (Err (Whole why)) = refused (refusal_number why)
given_at (Err (Entry why index)) = refused_at (refusal_number why) index
