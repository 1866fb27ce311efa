-- Texts stored one after the other.
use Rattle.theory.proofs.Prelude.{ℕ, ◌≤◌, ◌+◌, suc, [], ◌∷◌, List, ◌++◌, ◌∙◌, ap, ◌≡◌, sym, add-zero, arith, length, set}
use lib.ListN.{length-append}
use lib.Seq.{sets, length-sets}
use Rattle.lines.specs.Printing.{Put}

sets_append : (l : List ℕ) (at : ℕ) (s t : List ℕ) → sets l at (s ++ t) ≡ sets (sets l at s) (at + length s) t
sets_append l at [] t = rw add-zero
sets_append l at (a ∷ s) t =
    let e : suc at + length s ≡ at + suc (length s) = omega arith in
    sets_append (set l at a) (suc at) s t ∙ ap (λ (k : ℕ). sets (sets (set l at a) (suc at) s) k t) e

-- one text after another
pub put_after : {at m middle k end : ℕ} {s t before between after : List ℕ} → Put at m s before middle between → Put middle k t between end after → Put at (m + k) (s ++ t) before end after
put_after {at} {s = s} {t = t} {before = before} p q =
    record {
      ends = omega (arith, p.ends, q.ends, length-append s t);
      fits = omega (arith, p.fits, q.fits, length-append s t);
      holds = q.holds ∙ rw (p.ends, p.holds) (sym (sets_append before at s t));
    }

pub put_length : {at most next : ℕ} {text before after : List ℕ} → Put at most text before next after → length after ≡ length before
put_length {at} {text = text} {before = before} p = ap length p.holds ∙ length-sets before at text

-- the same text, written otherwise
pub put_as : {at most next : ℕ} {s t before after : List ℕ} → s ≡ t → Put at most s before next after → Put at most t before next after
put_as e p = rw (sym e) p

-- with more room
pub put_upto : {at most more next : ℕ} {text before after : List ℕ} → most ≤ more → Put at most text before next after → Put at more text before next after
put_upto h p = record { ends = p.ends; fits = omega (arith, p.fits); holds = p.holds }
