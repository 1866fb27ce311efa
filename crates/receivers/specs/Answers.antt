-- What the answers of this crate say in the papers' numbers.
use Rattle.std.specs.Prelude.{ℕ, Result}
use Rattle.format.specs.declared.ListRefusal.{ListRefusal}
use Rattle.format.specs.Given.{Given, gives, given_at, ◌then◌}
use Rattle.receivers.specs.declared.Log.{Log}
use Rattle.receivers.specs.declared.Log.TheVariants.{First, Second}

-- the logs are numbered 1 and 2
abbrev pub log_number : Log → ℕ
log_number First = 1
log_number Second = 2

abbrev pub calmer_given : Result Log ListRefusal → Given ℕ
calmer_given answer = given_at answer then λ log. gives (log_number log)
