-- A call on patterns is the call of format 2 on the numbers that the patterns stand for: its pattern, read, is the number that the
-- call on numbers gives, its mark and its refusal are that call's, in every direction. An infinity or NaN is refused by 9, after 2.
use Rattle.theory.proofs.Prelude.{ℕ, true, false, Bool, [], ◌∷◌, ◌∙◌, ap, ◌≡◌, sym, refl, ap₂}
use Rattle.theory.specs.Lists.{all}
use Rattle.theory.specs.Tests.{◌and◌, unless}
use Rattle.theory.specs.declared.Direction.{Direction}
use Rattle.theory.proofs.Tests.{and_left, and_right, and_made, unless_passed, unless_failed}
use Rattle.format.specs.declared.Format.{Format}
use Rattle.format.specs.declared.Prepared.{Prepared}
use Rattle.format.specs.declared.Refusal.{Refusal}
use Rattle.format.specs.declared.Refusal.TheVariants.{NoSuchDirection, NotFinite}
use Rattle.format.specs.Formats.{prepared_of}
use Rattle.format.specs.Refusals.{refusal_number}
use Rattle.format.specs.Given.{Given, gives, refused, refused_at, given, ◌then◌}
use Rattle.format.specs.Directions.{is_direction, direction}
use Rattle.format.specs.Published.{binary32}
use Rattle.number.specs.declared.Number.{Number}
use Rattle.number.specs.Numbers.{member}
use Rattle.number.specs.Checks as checks
use Rattle.number.specs.Checks.{Operands}
use Rattle.number.proofs.Membership.{prepared_format, prepared_member, usable}
use Rattle.arithmetic.specs.declared.Rounded.{Rounded}
use Rattle.arithmetic.specs.Operations.{rounded_sum, rounded_difference, rounded_product, rounded_quotient}
use Rattle.arithmetic.specs.Marked.{without_mark, sum_answer, difference_answer, product_answer}
use Rattle.arithmetic.specs.Quotients.{without_digits, quotient_answer}
use Rattle.arithmetic.proofs.Prepared.{marked_number}
use Rattle.arithmetic.proofs.Calls.{quotient_call}
use Rattle.arithmetic.proofs.Results.{sum_member, difference_member, product_member, quotient_member}
use Rattle.binary32.specs.Patterns.{finite, number_read, pattern_read, answer_written}
use Rattle.binary32.proofs.Fields.{binary32_admitted, binary32_limits}
use Rattle.binary32.proofs.RoundTrips.{Reads, reads, read_member, pattern_member, written_read}
use Rattle.binary32_arithmetic.specs.Calls.{Operation, Sum, Difference, Product, Quotient, marked_by, rounded_written, pattern_alone, on_patterns, pattern_call, call_read}
use Rattle.binary32_arithmetic.specs.declared.MarkedPattern.{MarkedPattern}
use Rattle.std.specs.Prelude.{Result, Ok, Err}

-- the call on numbers of format 2; of the quotient, without its digits
abbrev pub number_call : Operation → (d : ℕ) (x y : Number) → Given Rounded
number_call Sum d x y = sum_answer binary32 d x y
number_call Difference d x y = difference_answer binary32 d x y
number_call Product d x y = product_answer binary32 d x y
number_call Quotient d x y = without_digits (quotient_answer binary32 d x y)

-- an answer's pattern, read
abbrev pub read_back : Given MarkedPattern → Given Rounded
read_back g = g then (λ (m : MarkedPattern). pattern_read m.pattern then (λ (x : Number). gives (record { number = x; mark = m.mark })))

-- the checks of a call on numbers come first
checked : (operation : Operation) (d : ℕ) (x y : Number)
    → number_call operation d x y ≡ checks.checked binary32 (d ∷ []) (x ∷ y ∷ []) (marked_by operation binary32 (direction d) x y)
unfolding sum_answer difference_answer product_answer
checked Sum d x y = refl
checked Difference d x y = refl
checked Product d x y = refl
checked Quotient d x y = quotient_call binary32 d x y

-- ---- without marks
abbrev pub rounded_by : Operation → Format → Direction → (a b : Number) → Given Number
rounded_by Sum f d a b = rounded_sum f d a b
rounded_by Difference f d a b = rounded_difference f d a b
rounded_by Product f d a b = rounded_product f d a b
rounded_by Quotient f d a b = rounded_quotient f d a b

unmarked_by : (operation : Operation) (d : Direction) (a b : Number) → without_mark (marked_by operation binary32 d a b) ≡ rounded_by operation binary32 d a b
unmarked_by Sum d a b = marked_number binary32 _ _ _
unmarked_by Difference d a b = marked_number binary32 _ _ _
unmarked_by Product d a b = marked_number binary32 _ _ _
unmarked_by Quotient d a b = marked_number binary32 _ _ _

alone_written : (g : Given Rounded) → pattern_alone (rounded_written g) ≡ answer_written (without_mark g)
alone_written (gives r) = refl
alone_written (refused k) = refl
alone_written (refused_at k i) = refl

-- the pattern alone is that of the rounded number
pub alone : (operation : Operation) (d : Direction) (a b : ℕ)
    → pattern_alone (on_patterns operation d a b) ≡ unless (finite a and finite b) (refused 9) (answer_written (rounded_by operation binary32 d (number_read a) (number_read b)))
unfolding on_patterns unless
alone operation d a b = by (finite a and finite b)
  where
    by : (t : Bool) → pattern_alone (unless t (refused 9) (rounded_written (marked_by operation binary32 d (number_read a) (number_read b))))
        ≡ unless t (refused 9) (answer_written (rounded_by operation binary32 d (number_read a) (number_read b)))
    by true = alone_written (marked_by operation binary32 d (number_read a) (number_read b)) ∙ ap answer_written (unmarked_by operation d (number_read a) (number_read b))
    by false = refl

-- what the operations give is in the format
rounded_member : (operation : Operation) (d : Direction) (a b : Number) {x : Number} → rounded_by operation binary32 d a b ≡ gives x → member binary32 x ≡ true
rounded_member Sum d a b e = sum_member binary32_limits d a b e
rounded_member Difference d a b e = difference_member binary32_limits d a b e
rounded_member Product d a b e = product_member binary32_limits d a b e
rounded_member Quotient d a b e = quotient_member binary32_limits d a b e

pub result_member : (operation : Operation) (d : Direction) (a b : Number) {r : Rounded} → marked_by operation binary32 d a b ≡ gives r → member binary32 r.number ≡ true
result_member operation d a b e = rounded_member operation d a b (sym (unmarked_by operation d a b) ∙ ap without_mark e)

-- ---- the numbers of two finite patterns: they are of format 2, and an operation on them is the one on the patterns
pub record Numbers (a b : ℕ) (x y : Number) : Type 0 where
  pub first : member binary32 x ≡ true
  pub second : member binary32 y ≡ true
  pub is : (operation : Operation) (d : Direction) → rounded_written (marked_by operation binary32 d x y) ≡ on_patterns operation d a b

pub numbers_read : {a b : ℕ} {x y : Number} → finite a and finite b ≡ true → x ≡ number_read a → y ≡ number_read b → Numbers a b x y
unfolding on_patterns
numbers_read {a} {b} h f g =
    record {
      first = pattern_member a (and_left _ _ h) f;
      second = pattern_member b (and_right _ _ h) g;
      is = λ o d. ap rounded_written (ap₂ (marked_by o binary32 d) f g) ∙ sym (unless_passed _ _ h);
    }

-- in the format of the constants
module _ {a b : ℕ} {x y : Number} (n : Numbers a b x y) {q : Prepared} (e : q ≡ prepared_of binary32) where
  constant_format : (operation : Operation) (d : Direction) → marked_by operation q.format d x y ≡ marked_by operation binary32 d x y
  constant_format o d = ap (λ (f : Format). marked_by o f d x y) (prepared_format e)

  pub constant_operands : Operands q x y
  constant_operands = record { usable = usable binary32_admitted e; first = prepared_member e _ n.first; second = prepared_member e _ n.second }

  module _ (operation : Operation) (d : Direction) (r : Result Rounded Refusal) (k : given r ≡ marked_by operation q.format d x y) where
    pub constant_member : (z : Rounded) → r ≡ Ok z → member binary32 z.number ≡ true
    constant_member z h = result_member operation d x y (sym (k ∙ constant_format operation d) ∙ ap given h)

    pub constant_written : rounded_written (given r) ≡ on_patterns operation d a b
    constant_written = ap rounded_written (k ∙ constant_format operation d) ∙ n.is operation d

-- ---- what a call is given: a direction, and the numbers of the patterns
pub record Read (d a b : ℕ) (t : Direction) (x y : Number) : Type 0 where
  pub numbers : Numbers a b x y
  pub is : (operation : Operation) → on_patterns operation t a b ≡ pattern_call operation d a b

module _ (d a b : ℕ) where
  pub call_ready : {t : Direction} {x y : Number} → call_read d a b ≡ Ok (t, x, y) → Read d a b t x y
  unfolding call_read pattern_call unless
  call_ready {t} {x} {y} e = by (is_direction d) refl (finite a and finite b) refl e
    where
      by : (p : Bool) → is_direction d ≡ p → (q : Bool) → finite a and finite b ≡ q
          → unless {A = Result (Direction × Number × Number) Refusal} p (Err NoSuchDirection) (unless q (Err NotFinite) (Ok (direction d, number_read a, number_read b))) ≡ Ok (t, x, y)
          → Read d a b t x y
      by true f true g k =
          let same : ◌≡◌ {A = Direction × Number × Number} (t, x, y) (direction d, number_read a, number_read b) = cc in
          record {
            numbers = numbers_read g (ap (λ (p : Direction × Number × Number). p.1) same) (ap (λ (p : Direction × Number × Number). p.2) same);
            is = λ o. ap (λ (k : Direction). on_patterns o k a b) (ap (λ (p : Direction × Number × Number). p.0) same) ∙ sym (unless_passed _ _ f);
          }
      by true f false g k = cc
      by false f q g k = cc

  pub call_refused : {why : Refusal} → call_read d a b ≡ Err why → (operation : Operation) → refused (refusal_number why) ≡ pattern_call operation d a b
  unfolding call_read pattern_call on_patterns unless
  call_refused {why} e o = by (is_direction d) refl (finite a and finite b) refl e
    where
      by : (p : Bool) → is_direction d ≡ p → (q : Bool) → finite a and finite b ≡ q
          → unless {A = Result (Direction × Number × Number) Refusal} p (Err NoSuchDirection) (unless q (Err NotFinite) (Ok (direction d, number_read a, number_read b))) ≡ Err why
          → refused (refusal_number why) ≡ pattern_call o d a b
      by true f true g k = cc
      by true f false g k = let e : why ≡ NotFinite = cc in rw e (sym (unless_passed _ _ f ∙ unless_failed _ _ g))
      by false f q g k = let e : why ≡ NoSuchDirection = cc in rw e (sym (unless_failed _ _ f))

-- a result, written and read
back : (operation : Operation) (t : Direction) (x y : Number) {r : Given Rounded} → marked_by operation binary32 t x y ≡ r → read_back (rounded_written r) ≡ r
back operation t x y {r = gives z} e =
    ap (λ (g : Given Number). g then (λ (x : Number). gives (record { number = x; mark = z.mark }))) (written_read z.number (result_member operation t x y e))
back operation t x y {r = refused k} e = refl
back operation t x y {r = refused_at k i} e = refl

-- of the checks of two numbers of the format, that of the direction is left
directed : (d : ℕ) (x y : Number) → member binary32 x ≡ true → member binary32 y ≡ true → (rest : Given Rounded)
    → checks.checked binary32 (d ∷ []) (x ∷ y ∷ []) rest ≡ unless (is_direction d) (refused 2) rest
unfolding checks.checked all ◌and◌ unless
directed d x y h k rest = rw (binary32_admitted, h, k) (by (is_direction d))
  where
    by : (t : Bool) → unless (t and true) (refused 2) rest ≡ unless t (refused 2) rest
    by true = refl
    by false = refl

module _ (operation : Operation) (d a b : ℕ) where
  -- the pattern, read, with its mark, or the refusal
  pub call_read_law : {x y : Number} → pattern_read a ≡ gives x → pattern_read b ≡ gives y
      → read_back (pattern_call operation d a b) ≡ number_call operation d x y
  unfolding pattern_call on_patterns unless
  call_read_law {x} {y} h k =
      by (is_direction d) ∙ sym (directed d x y (read_member a h) (read_member b k) (marked_by operation binary32 (direction d) x y)) ∙ sym (checked operation d x y)
    where
      i : Reads a x
      i = reads a h

      j : Reads b y
      j = reads b k

      result : read_back (on_patterns operation (direction d) a b) ≡ marked_by operation binary32 (direction d) x y
      result =
          ap read_back (unless_passed _ _ (and_made i.finite j.finite) ∙ ap rounded_written (ap₂ (marked_by operation binary32 (direction d)) (sym i.is) (sym j.is)))
          ∙ back operation (direction d) x y refl

      by : (t : Bool) → read_back (unless t (refused 2) (on_patterns operation (direction d) a b))
          ≡ unless t (refused 2) (marked_by operation binary32 (direction d) x y)
      by true = result
      by false = refl

  -- 2, then 9
  pub call_not_finite : finite a and finite b ≡ false → pattern_call operation d a b ≡ unless (is_direction d) (refused 2) (refused 9)
  unfolding pattern_call on_patterns
  call_not_finite h = ap (unless (is_direction d) (refused 2)) (unless_failed _ _ h)
