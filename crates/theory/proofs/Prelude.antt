-- The names of the toolchain's libraries that most proofs use, under one module.
pub use Prim.Native.Nat.{ℕ, ◌≤◌, ◌<◌, ◌+◌, ◌^◌, ◌*◌, ◌-◌, suc, zero, ◌%◌, ◌/◌}
pub use mathlib.Core.Bool.{true, false, Bool, cond, not, ◌&&◌, beq as Bool·beq}
unfoldable pub use mathlib.Core.Bool.{xor}
pub use mathlib.Core.List.{[], ◌∷◌, List, ◌++◌, append-nil, map, append_assoc}
pub use mathlib.Core.Logic.{⊎_elim, inl, inr, ◌⊎◌, ◌≢◌}
pub use mathlib.Core.Path.{◌∙◌, ap, ◌≡◌, sym, refl, ap₂, subst}
pub use native.Mathlib.Decide.{dec_le, ℕ_discrete}
pub use native.Mathlib.Nat.{mul-le-mul_right, mul-le-mul_left, pow-zero, mul-pos, mul-lt-mul_of_pos_right, pow-succ', le_trans, eq-or-lt_of_le, le_antisymm, mul-le-mul, zero-mul, add-zero, le_of_suc-le-suc, lt_of_mul-lt-mul_right, lt_of_not-le, div-add-mod', div-lt_iff_lt-mul, pow-suc, eq_of_mul-eq-mul_right, le-div_iff_mul-le, le_of_mul-le-mul_right, mod-lt, mul-div_cancel, mul-one, mul_comm, add-suc, div-mul-le_self, le_of_eq, le_of_mul-le-mul_left, le_refl, mul-sub, pow-le-pow_left}
pub use native.Mathlib.Numerals.{add-one}
pub use native.Mathlib.Omega.{arith}
pub use lib.Dec.{eqb, leb, ltb, T}
pub use lib.IntN.{ℤ, pos, ◌+ℤ◌, nat_abs, ◌-ℤ◌, negsuc, neg_ℤ, ◌*ℤ◌, +ℤ_comm}
pub use lib.ListN.{length, get_or, drop, take, set, length-drop, length-map}
pub use lib.Seq.{drop-cons, drop-length, take_all}
pub use lib.Signed.{lt_z, le_z, ◌<ℤ◌, ◌≤ℤ◌}
pub use mir.Facts.{Fits-nat_abs, sfits_lit}
pub use mir.Syntax.{w32}
pub use mir.Val.{SFits, bool_byte, to_z, of_z}
pub use borrow.Author.Rules.{rules}
pub use borrow.Author.Tests.{ne_eqb, eq-eqb, le-leb, leb-true, lt-leb, leb-false, eqb-true, le-ltb, lt-ltb, ltb-true, not-true, eqb-false, not-false, ltb-false}
