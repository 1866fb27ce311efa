-- What the passes over two slices compute: the first refused entry, and one sum more.
use Rattle.theory.proofs.Prelude.{ℕ, ◌≤◌, ◌<◌, ◌+◌, suc, zero, false, [], ◌∷◌, List, ◌++◌, append_assoc, ap, ◌≡◌, ◌∙◌, sym, refl, add-one, arith, length, get_or, drop, take, set, drop-cons, drop-length}
use lib.ListN.{get_or-eq_default}
use Rattle.std.proofs.Common.{Iter}
use Rattle.std.specs.declared.iter.Zip.{Zip}
use Rattle.std.specs.declared.iter.Enumerate.{Enumerate}
use Rattle.std.specs.Iterator.Adapters.{enumerate_source, enumerate_count, enumerate_steps, zip_first, zip_second}
use Rattle.std.specs.List.{zip, enumerate_from}
use Rattle.std.specs.Slice.Iter.{iter_rest}
use Rattle.std.proofs.iter.Yields.{fronts}
use Rattle.std.proofs.lemmas.Iterator.{YieldsList, YieldsList-from_slice, YieldsList-from_zip, zips}
use Rattle.std.proofs.lemmas.Iterator.Consumers.{YieldsList-from_enumerate}
use Rattle.std.proofs.lemmas.List.{get_or_default}
use Rattle.std.proofs.lemmas.List.FromFn.{length-enumerate_from, get_or-enumerate_from}
use Rattle.std.proofs.lemmas.Slice.Zip.{length-zip, get_or-zip}
use lib.Seq.{take-suc-set}
use Rattle.theory.specs.declared.Direction.{Direction}
use Rattle.theory.proofs.Lists.{first_is, first_none}
use Rattle.format.specs.Given.{Given, gives, refused, refused_at}
use Rattle.format.proofs.GivenLaws.{gives_not_refused, gives_not_refused_at}
use Rattle.binary32_arithmetic.specs.Calls.{Sum, on_patterns, pattern_alone}
use Rattle.theory.specs.declared.Mark.{Mark}
use Rattle.theory.specs.declared.Mark.TheVariants.{Exact, Low, High}
use Rattle.theory.specs.Marks.{inexact}
use Rattle.binary32_arithmetic.specs.declared.MarkedPattern.{MarkedPattern}
use Rattle.binary32_arithmetic.specs.Slices.{entry_sum, entry_written, passes, is_refused, entries, first_refused, written, sums, inexact_in, inexact_entries}

-- ---- an entry, passed or refused
pub passed_entry : (g : Given ℕ) → passes g ≡ gives tt → is_refused g ≡ false
passed_entry (gives n) h = refl
passed_entry (refused k) h = absurd (gives_not_refused (sym h))
passed_entry (refused_at k i) h = absurd (gives_not_refused_at (sym h))

pub refused_entry : (g : Given ℕ) {k : ℕ} → passes g ≡ refused k → g ≡ refused k
refused_entry (gives n) h = absurd (gives_not_refused h)
refused_entry (refused k) h = cc
refused_entry (refused_at k i) h = absurd (let z : ◌≡◌ {A = ℕ} 0 1 = cc in omega arith)

-- ---- the entries of two lists
pub entries_length : (d : Direction) (a b : List ℕ) → length a ≡ length b → length (entries d a b) ≡ length a
unfolding entries
entries_length d [] b e = refl
entries_length d (x ∷ a) [] e = absurd (omega (arith, e))
entries_length d (x ∷ a) (y ∷ b) e = ap suc (entries_length d a b (omega (arith, e)))

pub entry_at : (d : Direction) (a b : List ℕ) → length a ≡ length b → (i : ℕ) → i < length a
    → get_or (entries d a b) i (gives 0) ≡ entry_sum d (get_or a i 0) (get_or b i 0)
unfolding entries
entry_at d [] b e i h = absurd (omega arith)
entry_at d (x ∷ a) [] e i h = absurd (omega (arith, e))
entry_at d (x ∷ a) (y ∷ b) e zero h = refl
entry_at d (x ∷ a) (y ∷ b) e (suc i) h = entry_at d a b (omega (arith, e)) i (omega arith)

-- ---- a pass over the pairs of two slices of one length, with their index
pub pairs : (a b : List ℕ) {s : Enumerate (Zip (Iter ℕ) (Iter ℕ))} → iter_rest (zip_first (enumerate_source s)) ≡ a → iter_rest (zip_second (enumerate_source s)) ≡ b → enumerate_count s ≡ 0
    → YieldsList {B = ℕ × (ℕ × ℕ)} (enumerate_steps (zips fronts fronts)) (λ p. (p.0, (p.1.0.now, p.1.1.now))) s (enumerate_from 0 (zip a b))
pairs a b f g n = YieldsList-from_enumerate (YieldsList-from_zip (YieldsList-from_slice a f) (YieldsList-from_slice b g)) n

-- the pair with index n
pub record Pair (a b : List ℕ) (n i x y : ℕ) : Type 0 where
  pub within : n < length a
  pub index : i ≡ n
  pub first : x ≡ get_or a n 0
  pub second : y ≡ get_or b n 0

pub pair : (a b : List ℕ) {n i x y : ℕ} → length a ≡ length b
    → (n < length (enumerate_from 0 (zip a b))) × ((i, (x, y)) ≡ get_or (enumerate_from 0 (zip a b)) n (i, (x, y))) → Pair a b n i x y
pair a b {n} {i} {x} {y} e h =
    let ha : n < length a = omega (arith, h.0, length-enumerate_from 0 (zip a b), length-zip a b) in
    let hb : n < length b = omega arith in
    let is : ◌≡◌ {A = ℕ × (ℕ × ℕ)} (i, (x, y)) (0 + n, (get_or a n x, get_or b n y)) =
    h.1 ∙ get_or-enumerate_from 0 (zip a b) n (i, (x, y)) (omega (arith, length-zip a b)) ∙ ap (λ (p : ℕ × ℕ). (0 + n, p)) (get_or-zip a b n (x, y) ha hb) in
    record {
      within = ha;
      index = omega (arith, ap (λ (p : ℕ × (ℕ × ℕ)). p.0) is);
      first = ap (λ (p : ℕ × (ℕ × ℕ)). p.1.0) is ∙ get_or_default a n x 0 ha;
      second = ap (λ (p : ℕ × (ℕ × ℕ)). p.1.1) is ∙ get_or_default b n y 0 hb;
    }

pub pairs_end : (a b : List ℕ) {n : ℕ} → length a ≡ length b → n ≡ length (enumerate_from 0 (zip a b)) → n ≡ length a
pairs_end a b e h = omega (arith, h, length-enumerate_from 0 (zip a b), length-zip a b)

-- ---- the first pass
pub refused_first : (es : List (Given ℕ)) (i : ℕ) {k : ℕ} → i < length es → get_or es i (gives 0) ≡ refused k
    → ((k : ℕ) → k < i → is_refused (get_or es k (gives 0)) ≡ false) → first_refused es ≡ refused_at k i
unfolding first_refused
refused_first es i h e b = rw (first_is is_refused (gives 0) es i h (ap is_refused e) b, e)

pub refused_nowhere : (es : List (Given ℕ)) → ((k : ℕ) → k < length es → is_refused (get_or es k (gives 0)) ≡ false) → first_refused es ≡ gives tt
unfolding first_refused
refused_nowhere es b = rw (first_none is_refused (gives 0) es b, get_or-eq_default es (gives 0) {n = length es} (omega arith))

-- ---- the second pass
module _ (d : Direction) (i : ℕ) (a b : List ℕ) (h : i < length a) (e : length a ≡ length b) where
  pub sums_step : sums d (drop i a) (drop i b) ≡ written (entry_sum d (get_or a i 0) (get_or b i 0)) ∷ sums d (drop (i + 1) a) (drop (i + 1) b)
  unfolding sums entries
  sums_step = let k : i < length b = omega arith in rw (add-one, drop-cons a i 0, drop-cons b i 0)

drop_end : (i : ℕ) (a : List ℕ) → i ≡ length a → drop i a ≡ []
drop_end i a e = rw e (drop-length a)

pub sums_end : (d : Direction) (i : ℕ) (a b : List ℕ) → i ≡ length a → sums d (drop i a) (drop i b) ≡ []
unfolding sums entries
sums_end d i a b e = rw (drop_end i a e)

-- the entries written so far, and then the sums of the rest
pub written_step : (d : Direction) (i v : ℕ) (a b out : List ℕ) → i < length a → length a ≡ length b → length a ≡ length out →
    v ≡ written (entry_sum d (get_or a i 0) (get_or b i 0)) →
    take (i + 1) (set out i v) ++ sums d (drop (i + 1) a) (drop (i + 1) b) ≡ take i out ++ sums d (drop i a) (drop i b)
written_step d i v a b out h e g q =
    rw (sums_step d i a b h e, add-one, take-suc-set out i v (omega arith), append_assoc, q)

-- the entries that are not exact so far, and then those of the rest
module _ (d : Direction) (i : ℕ) (a b : List ℕ) where
  pub inexact_step : i < length a → length a ≡ length b → inexact_entries d (drop i a) (drop i b)
      ≡ inexact_in (on_patterns Sum d (get_or a i 0) (get_or b i 0)) + inexact_entries d (drop (i + 1) a) (drop (i + 1) b)
  unfolding inexact_entries
  inexact_step h e = let k : i < length b = omega arith in rw (add-one, drop-cons a i 0, drop-cons b i 0)

  pub inexact_end : i ≡ length a → inexact_entries d (drop i a) (drop i b) ≡ 0
  unfolding inexact_entries
  inexact_end e = rw (drop_end i a e)

pub inexact_most : (g : Given MarkedPattern) → inexact_in g ≤ 1
inexact_most (gives x) = by x.mark
  where
    by : (t : Mark) → inexact t ≤ 1
    by Exact = omega arith
    by Low = omega arith
    by High = omega arith
inexact_most (refused n) = omega arith
inexact_most (refused_at n i) = omega arith

-- an entry as it is written: its pattern, and 1 where it is not exact
pub written_pattern : (g : Given MarkedPattern) → (entry_written g).pattern ≡ written (pattern_alone g)
written_pattern (gives x) = refl
written_pattern (refused n) = refl
written_pattern (refused_at n i) = refl

pub written_count : (g : Given MarkedPattern) → inexact (entry_written g).mark ≡ inexact_in g
written_count (gives x) = refl
written_count (refused n) = refl
written_count (refused_at n i) = refl
