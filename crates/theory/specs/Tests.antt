-- Tests put together, and a choice by a test. They stay shut, so that laws about them need no arguments.
use Rattle.std.specs.Prelude.{Bool, true, false}

infixr 35 ◌and◌
infixr 30 ◌or◌
unfoldable pub ◌and◌ : Bool → Bool → Bool
true and b = b
false and b = false

unfoldable pub ◌or◌ : Bool → Bool → Bool
true or b = true
false or b = b

-- what is refused, unless the test passes
unfoldable pub unless : {A : Type 0} → Bool → A → A → A
unless true refused go_on = go_on
unless false refused go_on = refused
