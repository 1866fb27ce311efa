-- The passes over the strips, one strip more: what was done and what is left are the whole.
use Rattle.std.specs.Prelude.{Option, Some, None}
use Rattle.theory.proofs.Prelude.{ℕ, ◌≤◌, ◌<◌, ◌+◌, suc, [], ◌∷◌, List, ◌++◌, append-nil, append_assoc, ◌∙◌, ap, ◌≡◌, sym, refl, add-one, arith, length, get_or, drop, take, set, drop-cons, drop-length, take_all}
use native.Mathlib.Numerals.{one-add}
use lib.ListN.{length-take}
use lib.Seq.{take-suc-set}
use Rattle.theory.specs.declared.Direction.{Direction}
use Rattle.boundaries.specs.declared.Step.{Step}
use Rattle.boundaries.specs.Sums.{strip_added, and_on, steps_from, boundary_steps, last_x, rests_of, first_of}

drop_end : (i : ℕ) (strips : List ℕ) → i ≡ length strips → drop i strips ≡ []
drop_end i strips e = rw e (drop-length strips)

-- ---- the steps
module _ (d : Direction) (x i : ℕ) (strips : List ℕ) (h : i < length strips) where
  steps_here : steps_from d x (drop i strips) ≡ and_on (strip_added d x (get_or strips i 0)) (λ t. t ∷ steps_from d t.x (drop (i + 1) strips))
  unfolding steps_from
  steps_here = rw (add-one, drop-cons strips i 0)

  steps_added : {t : Step} → strip_added d x (get_or strips i 0) ≡ Some t → steps_from d x (drop i strips) ≡ t ∷ steps_from d t.x (drop (i + 1) strips)
  steps_added e = steps_here ∙ ap (λ (p : Option Step). and_on p (λ t. t ∷ steps_from d t.x (drop (i + 1) strips))) e

  steps_large : strip_added d x (get_or strips i 0) ≡ None → steps_from d x (drop i strips) ≡ []
  steps_large e = steps_here ∙ ap (λ (p : Option Step). and_on p (λ t. t ∷ steps_from d t.x (drop (i + 1) strips))) e

steps_end : (d : Direction) (x i : ℕ) (strips : List ℕ) → i ≡ length strips → steps_from d x (drop i strips) ≡ []
unfolding steps_from
steps_end d x i strips e = rw (drop_end i strips e)

steps_begin : (d : Direction) (strips : List ℕ) → 1 ≤ length strips → steps_from d (get_or strips 0 0) (drop 1 strips) ≡ boundary_steps d strips
unfolding boundary_steps
steps_begin d [] h = absurd (omega arith)
steps_begin d (s ∷ strips) h = refl

-- ---- the second pass: i strips were added, and the steps that are left
pub count_begin : (d : Direction) (strips : List ℕ) → 1 ≤ length strips → 1 + length (steps_from d (get_or strips 0 0) (drop 1 strips)) ≡ suc (length (boundary_steps d strips))
count_begin d strips h = rw (steps_begin d strips h, one-add)

module _ (d : Direction) (x i : ℕ) (strips : List ℕ) (h : i < length strips) where
  pub count_goes_on : {t : Step} {n : ℕ} → strip_added d x (get_or strips i 0) ≡ Some t → t.x ≡ n
      → i + length (steps_from d x (drop i strips)) ≡ i + 1 + length (steps_from d n (drop (i + 1) strips))
  count_goes_on e k =
      ap (λ (ts : List Step). i + length ts) (steps_added d x i strips h e)
      ∙ ap (λ (m : ℕ). i + suc (length (steps_from d m (drop (i + 1) strips)))) k
      ∙ omega arith

  pub count_stops : strip_added d x (get_or strips i 0) ≡ None → i + length (steps_from d x (drop i strips)) ≡ i
  count_stops e = ap (λ (ts : List Step). i + length ts) (steps_large d x i strips h e) ∙ omega arith

pub count_ends : (d : Direction) (x i : ℕ) (strips : List ℕ) → i ≡ length strips → i + length (steps_from d x (drop i strips)) ≡ i
count_ends d x i strips e = ap (λ (ts : List Step). i + length ts) (steps_end d x i strips e) ∙ omega arith

-- the third pass: the last x
pub last_begin : (d : Direction) (strips : List ℕ) → 1 ≤ length strips
    → last_x (get_or strips 0 0) (steps_from d (get_or strips 0 0) (drop 1 strips)) ≡ last_x (first_of strips) (boundary_steps d strips)
unfolding first_of boundary_steps
last_begin d [] h = absurd (omega arith)
last_begin d (s ∷ strips) h = refl

pub last_goes_on : (d : Direction) (x i : ℕ) (strips : List ℕ) → i < length strips → {t : Step} → strip_added d x (get_or strips i 0) ≡ Some t
    → last_x t.x (steps_from d t.x (drop (i + 1) strips)) ≡ last_x x (steps_from d x (drop i strips))
unfolding last_x
last_goes_on d x i strips h e = sym (ap (last_x x) (steps_added d x i strips h e))

pub last_ends : (d : Direction) (x i : ℕ) (strips : List ℕ) → i ≡ length strips → last_x x (steps_from d x (drop i strips)) ≡ x
unfolding last_x
last_ends d x i strips e = ap (last_x x) (steps_end d x i strips e)

-- ---- the third pass: the rests written so far, and then those of the steps that are left
pub rests_length : (ts : List Step) → length (rests_of ts) ≡ length ts
unfolding rests_of
rests_length [] = refl
rests_length (t ∷ ts) = ap suc (rests_length ts)

abbrev pub rests_left : (d : Direction) (x done : ℕ) (strips rests : List ℕ) → List ℕ
rests_left d x done strips rests = take done rests ++ rests_of (steps_from d x (drop (done + 1) strips))

pub rests_begin : (d : Direction) (strips rests : List ℕ) → 1 ≤ length strips → rests_left d (get_or strips 0 0) 0 strips rests ≡ rests_of (boundary_steps d strips)
rests_begin d strips rests h = ap rests_of (steps_begin d strips h)

take_written : (i v : ℕ) (rests : List ℕ) → i < length rests → take (i + 1) (set rests i v) ≡ take i rests ++ (v ∷ [])
take_written i v rests h = rw (add-one, take-suc-set rests i v h)

module _ (d : Direction) (x i : ℕ) (strips rests : List ℕ) (h : i < length rests) (e : suc (length rests) ≡ length strips) where
  inside : i + 1 < length strips
  inside = omega arith

  pub rest_written : {t : Step} → strip_added d x (get_or strips (i + 1) 0) ≡ Some t
      → rests_left d t.x (i + 1) strips (set rests i t.y) ≡ rests_left d x i strips rests
  unfolding rests_of
  rest_written {t} k =
      ap (λ (l : List ℕ). l ++ rests_of (steps_from d t.x (drop (i + 1 + 1) strips))) (take_written i t.y rests h)
      ∙ append_assoc (take i rests) (t.y ∷ []) (rests_of (steps_from d t.x (drop (i + 1 + 1) strips)))
      ∙ sym (ap (λ (ts : List Step). take i rests ++ rests_of ts) (steps_added d x (i + 1) strips inside k))

  -- a step that is too large leaves too few
  pub rest_missing : strip_added d x (get_or strips (i + 1) 0) ≡ None → length (rests_left d x i strips rests) < length rests
  unfolding rests_of
  rest_missing k = rw (steps_large d x (i + 1) strips inside k, append-nil) (omega (arith, length-take i rests))

pub rests_end : (d : Direction) (x i : ℕ) (strips rests : List ℕ) → i ≡ length rests → suc (length rests) ≡ length strips → rests_left d x i strips rests ≡ rests
unfolding rests_of
rests_end d x i strips rests e k =
    ap (λ (ts : List Step). take i rests ++ rests_of ts) (steps_end d x (i + 1) strips (omega arith)) ∙ append-nil (take i rests) ∙ take_all i rests (omega arith)
