-- The position that the code of the nearest line finds.
use Rattle.theory.proofs.Prelude.{ℕ, ◌≤◌, ◌<◌, ◌-◌, true, false, Bool, List, ◌∙◌, ◌≡◌, sym, arith, length, get_or}
use Rattle.theory.specs.Lists.{first_where}
use Rattle.theory.proofs.Lists.{first_before, first_most}
use Rattle.format.proofs.Signed.{Upto, Under}
use Rattle.binary32.specs.Patterns.{pattern_value, pattern_values}
use Rattle.binary32.proofs.PatternValues.{value_at, values_length}
use Rattle.saved_lines.specs.Offsets.{at, nearer, nearest}
use Rattle.saved_lines.specs.Searches.{at_least}
use Rattle.saved_lines.specs.Lines.{Checked}
use Rattle.saved_lines.proofs.DistanceLaws.{nearer_true, nearer_false}
use Rattle.saved_lines.proofs.NearestLaws.{left_nearest, right_nearest}
use Rattle.saved_lines.proofs.Offsets.{offsets_rise, rising}
use Rattle.saved_lines.proofs.Searches.{below_number, from_number, from_first, later_at_least}

-- `next` is the first position whose offset is not below the query
module _ (l : List ℕ) (c : Checked l) (q : ℕ) {next : ℕ} (e : next ≡ first_where (at_least q) l) where
  pub below_query : (k : ℕ) → k < next → Under (at (pattern_values l) k) (pattern_value q)
  below_query k h = rw (value_at l k) (below_number q (get_or l k 0) (first_before (at_least q) 0 l k (omega arith)))

  pub from_query : (k : ℕ) → next ≤ k → k < length (pattern_values l) → Upto (pattern_value q) (at (pattern_values l) k)
  from_query k h m = rw (value_at l k) (from_number q (get_or l k 0) (from_first l (rising l c) (later_at_least q) k (omega arith) (omega (arith, values_length l))))

  pub next_most : next ≤ length l
  next_most = omega (arith, first_most (at_least q) 0 l)

  abbrev test : Bool
  test = nearer (pattern_value q) (pattern_value (get_or l next 0)) (pattern_value (get_or l (next - 1) 0))

  -- no offset is below the query
  pub found_first : next ≡ 0 → 0 ≡ nearest (pattern_values l) (pattern_value q)
  found_first z =
      sym z
      ∙ sym (right_nearest (pattern_values l) (pattern_value q) (offsets_rise l c) next below_query from_query (omega (arith, values_length l, c.some)) (λ p. absurd (omega arith)))

  -- the offset from the query on is nearer than the one before it
  pub found_right : next < length l → test ≡ true → next ≡ nearest (pattern_values l) (pattern_value q)
  found_right h t =
      sym (right_nearest (pattern_values l) (pattern_value q) (offsets_rise l c) next below_query from_query (omega (arith, values_length l))
      (λ p. rw (value_at l (next - 1), value_at l next) (nearer_true (pattern_value q) (pattern_value (get_or l next 0)) (pattern_value (get_or l (next - 1) 0)) t)))

  -- it is not
  pub found_left : 0 < next → (next < length l → test ≡ false) → next - 1 ≡ nearest (pattern_values l) (pattern_value q)
  found_left p t =
      sym (left_nearest (pattern_values l) (pattern_value q) (offsets_rise l c) next below_query from_query p (omega (arith, next_most, values_length l))
      (λ h. rw (value_at l (next - 1), value_at l next) (nearer_false (pattern_value q) (pattern_value (get_or l next 0)) (pattern_value (get_or l (next - 1) 0)) (t (omega (arith, values_length l))))))
