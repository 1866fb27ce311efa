-- Every published format is admitted, and what the table holds is what is published.
use Rattle.theory.proofs.Prelude.{ℕ, ◌≤◌, ◌<◌, ◌-◌, suc, zero, true, Bool, [], ◌∷◌, ◌∙◌, ap, ◌≡◌, sym, refl, arith, get_or}
use Rattle.theory.specs.Tests.{◌and◌}
use Rattle.format.specs.declared.Format.{Format}
use Rattle.format.specs.Given.{Given, gives, refused, refused_at}
use Rattle.format.specs.Formats.{exponents_admitted, admitted}
use Rattle.format.specs.Published.{binary16, binary32, decimal32, binary64, decimal64, published_format}

-- every published format is admitted
found_admitted : Given Format → Bool
found_admitted (gives f) = admitted f
found_admitted (refused number) = true
found_admitted (refused_at number index) = true

all_admitted : (n : ℕ) → found_admitted (published_format n) ≡ true
unfolding found_admitted published_format admitted exponents_admitted ◌and◌
all_admitted zero = refl
all_admitted (suc zero) = refl
all_admitted (suc (suc zero)) = refl
all_admitted (suc (suc (suc zero))) = refl
all_admitted (suc (suc (suc (suc zero)))) = refl
all_admitted (suc (suc (suc (suc (suc zero))))) = refl
all_admitted (suc (suc (suc (suc (suc (suc n)))))) = refl

pub published_admitted : (n : ℕ) {f : Format} → published_format n ≡ gives f → admitted f ≡ true
unfolding found_admitted
published_admitted n e = sym (ap found_admitted e) ∙ all_admitted n

-- outside 1 to 5 nothing is published
pub published_below : (n : ℕ) → n < 1 → refused 10 ≡ published_format n
unfolding published_format
published_below zero h = refl
published_below (suc n) h = absurd (omega arith)

pub published_above : (n : ℕ) → 5 < n → refused 10 ≡ published_format n
unfolding published_format
published_above zero h = absurd (omega arith)
published_above (suc zero) h = absurd (omega arith)
published_above (suc (suc zero)) h = absurd (omega arith)
published_above (suc (suc (suc zero))) h = absurd (omega arith)
published_above (suc (suc (suc (suc zero)))) h = absurd (omega arith)
published_above (suc (suc (suc (suc (suc zero))))) h = absurd (omega arith)
published_above (suc (suc (suc (suc (suc (suc n)))))) h = refl

-- from 1 to 5 it is the table's entry
pub published_entry : (n : ℕ) (other : Format) → 1 ≤ n → n ≤ 5 → gives (get_or (binary16 ∷ binary32 ∷ decimal32 ∷ binary64 ∷ decimal64 ∷ []) (n - 1) other) ≡ published_format n
unfolding published_format
published_entry zero other l h = absurd (omega arith)
published_entry (suc zero) other l h = refl
published_entry (suc (suc zero)) other l h = refl
published_entry (suc (suc (suc zero))) other l h = refl
published_entry (suc (suc (suc (suc zero)))) other l h = refl
published_entry (suc (suc (suc (suc (suc zero))))) other l h = refl
published_entry (suc (suc (suc (suc (suc (suc n)))))) other l h = absurd (omega arith)
