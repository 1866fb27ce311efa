-- The lines of a figure as the code runs them: what a line gave stands for it in the definition, and is a number of the format; a line
-- that is refused ends the figure.
use Rattle.theory.proofs.Prelude.{ℕ, ◌≤◌, true, ◌∙◌, ap, ◌≡◌, sym, arith}
use Rattle.std.specs.Prelude.{Result, Ok, Err, IsErrAnd}
use Rattle.theory.specs.declared.Direction.{Direction}
use Rattle.theory.specs.declared.Direction.TheVariants.{TowardZero}
use Rattle.theory.proofs.Results.{err_returned}
use Rattle.format.specs.declared.Refusal.{Refusal}
use Rattle.format.specs.Given.{refused_at}
use Rattle.format.specs.Refusals.{refusal_number}
use Rattle.number.proofs.Prelude.{Format, Given, gives, refused, ◌then◌, given, Admitted, member}
use Rattle.number.specs.declared.Number.{Number}
use Rattle.arithmetic.specs.declared.Rounded.{Rounded}
use Rattle.arithmetic.specs.Operations.{rounded_sum, rounded_difference, rounded_product}
use Rattle.arithmetic.specs.Marked.{without_mark, marked_product}
use Rattle.arithmetic.proofs.Prepared.{marked_number}
use Rattle.arithmetic.proofs.Results.{sum_member, difference_member, product_member}
use Rattle.rump.specs.Figures.{power, subrealmin, gap, defect}
use Rattle.rump.specs.Premises.{premise}
use Rattle.rump.proofs.Reach.{reach}
use Rattle.rump.proofs.Lines.{subrealmin_has, power_has}

-- ---- what a line gave
module _ {A : Type 0} {g : Given A} {r : Result A Refusal} (h : given r ≡ g) where
  pub gave : {x : A} → r ≡ Ok x → g ≡ gives x
  gave e = sym h ∙ ap given e

  pub refuses : {why : Refusal} → r ≡ Err why → g ≡ refused (refusal_number why)
  refuses e = sym h ∙ ap given e

-- what the exit of a `?` returns
pub ended : {A : Type 0} (r : Result A Refusal) (why : Refusal) → IsErrAnd r (λ x. x ≡ why) → given r ≡ refused (refusal_number why)
ended r why e = ap given (err_returned r e)

-- ---- by the operation
module _ (f : Format) (d : Direction) (a b : Number) where
  pub product_gave : {r : Result Rounded Refusal} {p : Rounded} → given r ≡ marked_product f d a b → r ≡ Ok p → rounded_product f d a b ≡ gives p.number
  product_gave h e = sym (marked_number _ _ _ _) ∙ ap without_mark (gave h e)

  pub product_refuses : {r : Result Rounded Refusal} {why : Refusal} → given r ≡ marked_product f d a b → r ≡ Err why
      → rounded_product f d a b ≡ refused (refusal_number why)
  product_refuses h e = sym (marked_number _ _ _ _) ∙ ap without_mark (refuses h e)

  module _ (ok : Admitted f) where
    pub sum_in : {r : Result Number Refusal} {x : Number} → given r ≡ rounded_sum f d a b → r ≡ Ok x → member f x ≡ true
    sum_in h e = sum_member ok d a b (gave h e)

    pub difference_in : {r : Result Number Refusal} {x : Number} → given r ≡ rounded_difference f d a b → r ≡ Ok x → member f x ≡ true
    difference_in h e = difference_member ok d a b (gave h e)

    pub product_in : {r : Result Rounded Refusal} {p : Rounded} → given r ≡ marked_product f d a b → r ≡ Ok p → member f p.number ≡ true
    product_in h e = product_member ok d a b (product_gave h e)

-- ---- the constants are numbers of the format
module _ {f : Format} (ok : Admitted f) {x : Number} where
  pub subrealmin_in : x ≡ subrealmin f → member f x ≡ true
  subrealmin_in e = ap (member f) e ∙ (subrealmin_has ok).number

  pub power_in : premise f ≡ true → (k : ℕ) → x ≡ power f k → k ≤ f.digits → member f x ≡ true
  power_in h k e l = ap (member f) e ∙ (power_has ok (reach ok h) k l).number

-- ---- of the parts of figures 4 and 5
-- a chain that gives y gives it in its last line
record LastLine {A B : Type 0} (next : A → Given B) (y : B) : Type 0 where
  value : A
  is : next value ≡ gives y

last_line : {A B : Type 0} (g : Given A) (next : A → Given B) {y : B} → g then next ≡ gives y → LastLine next y
last_line (gives x) next h = record { value = x; is = h }
last_line (refused n) next h = absurd (let z : ◌≡◌ {A = ℕ} 0 1 = cc in omega arith)
last_line (refused_at n i) next h = absurd (let z : ◌≡◌ {A = ℕ} 0 1 = cc in omega arith)

module _ {f : Format} (ok : Admitted f) (x : Number) where
  pub gap_in : {r : Result Number Refusal} {s : Number} → given r ≡ gap f x → r ≡ Ok s → member f s ≡ true
  unfolding gap
  gap_in h e =
      let p = last_line (rounded_difference f TowardZero x (subrealmin f)) (rounded_difference f TowardZero x) (gave h e) in
      difference_member ok TowardZero x p.value p.is

  pub defect_in : (s : Number) {r : Result Number Refusal} {d : Number} → given r ≡ defect f x s → r ≡ Ok d → member f d ≡ true
  unfolding defect
  defect_in s h e =
      let last : Number → Given Number = λ back. rounded_difference f TowardZero back s in
      let raised = last_line (rounded_sum f TowardZero x s) (λ (sum : Number). rounded_difference f TowardZero sum x then last) (gave h e) in
      let back = last_line (rounded_difference f TowardZero raised.value x) last raised.is in
      difference_member ok TowardZero back.value s back.is
