-- How a kept value stands to the exact one: MPFR's ternary value. It compares values, with their signs, and knows nothing of how the
-- kept one was found.
use Rattle.std.specs.Prelude.{ℕ, ◌≡◌, cond, ℤ, pos, ◌*ℤ◌, ◌<ℤ◌}
use Rattle.std.specs.Int.Signed.{lt_z}
pub use Rattle.theory.specs.declared.Mark.{Mark}
pub use Rattle.theory.specs.declared.Mark.TheVariants.{Exact, Low, High}

-- the kept value v against the exact value N / D
unfoldable pub mark : (v N : ℤ) (D : ℕ) → Mark
mark v N D = cond (lt_z (v *ℤ pos D) N) Low (cond (lt_z N (v *ℤ pos D)) High Exact)

-- the mark multiplied out: v × D is N, below N, above N
pub data MultipliedOut (v N : ℤ) (D : ℕ) : Mark → Type 0 where
  equal : v *ℤ pos D ≡ N → MultipliedOut v N D Exact
  below : (v *ℤ pos D) <ℤ N → MultipliedOut v N D Low
  above : N <ℤ (v *ℤ pos D) → MultipliedOut v N D High

-- the mark on the other side
abbrev pub other_mark : Mark → Mark
other_mark Exact = Exact
other_mark Low = High
other_mark High = Low

-- 1 where the kept value is not the exact one
abbrev pub inexact : Mark → ℕ
inexact Exact = 0
inexact Low = 1
inexact High = 1
