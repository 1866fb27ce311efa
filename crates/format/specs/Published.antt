-- The published formats, by number.
use Rattle.std.specs.Prelude.{ℕ, zero, suc, pos, negsuc}
use Rattle.format.specs.declared.Format.{Format}
use Rattle.format.specs.Given.{Given, gives, refused}

abbrev pub binary16 : Format
binary16 = record { base = 2; digits = 11; emin = negsuc 23; emax = pos 5 }

abbrev pub binary32 : Format
binary32 = record { base = 2; digits = 24; emin = negsuc 148; emax = pos 104 }

abbrev pub decimal32 : Format
decimal32 = record { base = 10; digits = 7; emin = negsuc 100; emax = pos 90 }

abbrev pub binary64 : Format
binary64 = record { base = 2; digits = 53; emin = negsuc 1073; emax = pos 971 }

abbrev pub decimal64 : Format
decimal64 = record { base = 10; digits = 16; emin = negsuc 397; emax = pos 369 }

-- the format that is published under a number, or refusal 10
unfoldable pub published_format : ℕ → Given Format
published_format zero = refused 10
published_format (suc zero) = gives binary16
published_format (suc (suc zero)) = gives binary32
published_format (suc (suc (suc zero))) = gives decimal32
published_format (suc (suc (suc (suc zero)))) = gives binary64
published_format (suc (suc (suc (suc (suc zero))))) = gives decimal64
published_format (suc (suc (suc (suc (suc (suc n)))))) = refused 10
