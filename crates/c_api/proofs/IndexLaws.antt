-- The index of a refusal in a list of at most 4,096 entries is below 4,096: those that the calls on saved lines give.
use Rattle.theory.proofs.Prelude.{ℕ, ◌≤◌, ◌<◌, true, false, Bool, List, length, ◌≡◌, refl, arith, leb-true, leb-false}
use Rattle.theory.specs.Tests.{unless}
use Rattle.theory.specs.Lists.{first_where, none}
use Rattle.theory.proofs.Tests.{and_right}
use Rattle.format.specs.Given.{Given, gives, refused, refused_at, ◌then◌}
use Rattle.format.proofs.GivenLaws.{gives_not_refused_at}
use Rattle.binary32.specs.Patterns.{not_finite}
use Rattle.saved_lines.specs.Lines.{Examination, patterns_checked, ascent_checked, lines_checked, nearest_line, lines_within}
use Rattle.saved_lines.specs.Rows.{queries_checked, nearest_lines}

-- where what is given is refused with an index, the index is below n
abbrev pub Below : (n : ℕ) {A : Type 0} → Given A → Type 0
Below n g = (number index : ℕ) → g ≡ refused_at number index → index < n

module _ (n : ℕ) {A : Type 0} where
  value_below : (x : A) → Below n (gives x)
  value_below x number index e = absurd (gives_not_refused_at e)

  whole_below : (why : ℕ) → Below n {A = A} (refused why)
  whole_below why number index e = absurd (let z : ◌≡◌ {A = ℕ} 0 1 = cc in omega arith)

  entry_below : (why i : ℕ) → i < n → Below n {A = A} (refused_at why i)
  entry_below why i h number index e = let same : i ≡ index = cc in omega (arith, h, same)

  unless_below : (t : Bool) {f g : Given A} → (t ≡ false → Below n f) → (t ≡ true → Below n g) → Below n (unless t f g)
  unfolding unless
  unless_below true h k = k refl
  unless_below false h k = h refl

  then_below : {B : Type 0} (g : Given B) {next : B → Given A} → Below n g → ((x : B) → Below n (next x)) → Below n (g then next)
  then_below (gives x) h k = k x
  then_below (refused why) h k = whole_below why
  then_below (refused_at why i) h k = entry_below why i (h why i refl)

-- ---- the checks
patterns_below : (n : ℕ) (l : List ℕ) (g : Examination) → length l ≤ n → Below n g → Below n (patterns_checked l g)
unfolding patterns_checked none
patterns_below n l g h k =
    unless_below n _ (λ e. entry_below n 9 (first_where not_finite l) (omega (arith, leb-false (length l) (first_where not_finite l) e, h))) (λ e. k)

ascent_below : (n : ℕ) (l : List ℕ) → Below n (ascent_checked l)
unfolding ascent_checked
ascent_below n l = unless_below n _ (λ e. whole_below n 13) (λ e. unless_below n _ (λ d. whole_below n 15) (λ d. value_below n tt))

lines_below : (l : List ℕ) (finite : Bool) → Below 4096 (lines_checked l finite)
unfolding lines_checked
lines_below l finite =
    unless_below 4096 _ (λ e. whole_below 4096 12)
    (λ e. patterns_below 4096 l _ (leb-true (length l) 4096 (and_right _ _ e)) (unless_below 4096 finite (λ d. whole_below 4096 9) (λ d. ascent_below 4096 l)))

queries_below : (qs : List ℕ) → length qs ≤ 4096 → Below 4096 (queries_checked qs)
unfolding queries_checked
queries_below qs h = patterns_below 4096 qs _ h (unless_below 4096 _ (λ e. whole_below 4096 16) (λ e. value_below 4096 tt))

-- ---- the calls
pub nearest_line_below : (l : List ℕ) (query : ℕ) → Below 4096 (nearest_line l query)
unfolding nearest_line
nearest_line_below l query = then_below 4096 (lines_checked l _) (lines_below l _) (λ x. value_below 4096 _)

pub lines_within_below : (l : List ℕ) (query distance room : ℕ) → Below 4096 (lines_within l query distance room)
unfolding lines_within
lines_within_below l query distance room =
    then_below 4096 (lines_checked l _) (lines_below l _) (λ x. unless_below 4096 _ (λ e. whole_below 4096 14) (λ e. value_below 4096 _))

pub nearest_lines_below : (l qs : List ℕ) (room : ℕ) → Below 4096 (nearest_lines l qs room)
unfolding nearest_lines
nearest_lines_below l qs room =
    unless_below 4096 _ (λ e. whole_below 4096 11)
    (λ e. then_below 4096 (lines_checked l true) (lines_below l true)
    (λ x. then_below 4096 (queries_checked qs) (queries_below qs (leb-true (length qs) 4096 (and_right _ _ e))) (λ y. value_below 4096 _)))
