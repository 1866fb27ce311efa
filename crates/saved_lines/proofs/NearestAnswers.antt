-- What nearest_line answers, in the words of requests 2 and 7.
use Rattle.theory.proofs.Prelude.{ℕ, ◌≤◌, ◌<◌, ◌^◌, List, ◌≡◌, arith, ℤ, length}
use Rattle.format.specs.Given.{gives}
use Rattle.binary32.specs.Patterns.{finite, pattern_value, pattern_values}
use Rattle.binary32.proofs.PatternValues.{value_at, values_length}
use Rattle.saved_lines.specs.Offsets.{nearest}
use Rattle.saved_lines.specs.Lines.{Checked, nearest_line}
use Rattle.saved_lines.specs.Outcomes.{Nearest, NearestEnds, list_refused, found}
use Rattle.saved_lines.proofs.NearestLaws.{nearest_position, nearest_least, smaller_wins, one_tie}
use Rattle.saved_lines.proofs.Offsets.{offsets_rise}
use Rattle.saved_lines.proofs.Refusals.{checks_end}

pub nearest_is_nearest : (l : List ℕ) (q : ℕ) → Checked l → Nearest l q (nearest (pattern_values l) (pattern_value q))
nearest_is_nearest l q c =
    record {
      position = omega (arith, nearest_position vs v some, values_length l);
      none_nearer = λ k h. rw (← value_at l n, ← value_at l k) (nearest_least vs v some k (omega (arith, values_length l)));
      smaller_wins = λ k h u e.
          rw (← value_at l n, ← value_at l k)
          (smaller_wins vs v (offsets_rise l c) k (omega (arith, values_length l)) u (rw (← value_at l n, ← value_at l k) at e));
      one_tie = λ j k h m u w e f.
          one_tie vs v (offsets_rise l c) j k h (omega (arith, values_length l)) u w
          (rw (← value_at l n, ← value_at l j) at e) (rw (← value_at l n, ← value_at l k) at f);
    }
  where
    vs : List ℤ
    vs = pattern_values l

    v : ℤ
    v = pattern_value q

    n : ℕ
    n = nearest (pattern_values l) (pattern_value q)

    some : 1 ≤ length (pattern_values l)
    some = omega (arith, values_length l, c.some)

-- it fits 32 bits
pub nearest_small : (l : List ℕ) (q : ℕ) → Checked l → {n : ℕ} → n ≡ nearest (pattern_values l) (pattern_value q) → n < 2 ^ 32
nearest_small l q c e = omega (arith, (nearest_is_nearest l q c).position, c.most)

pub nearest_ends : (l : List ℕ) (q : ℕ) → NearestEnds l q (nearest_line l q)
unfolding nearest_line
nearest_ends l q =
    checks_end l (finite q) (λ _. gives (nearest (pattern_values l) (pattern_value q))) (NearestEnds l q) (λ x a. list_refused a)
    (λ c g. found c g (nearest_is_nearest l q c))
