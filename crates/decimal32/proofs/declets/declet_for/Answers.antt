-- `decimal32::declets::declet_for` meets its contract: each case of the rule is an arm.
use Rattle.theory.proofs.Prelude.{ℕ, ◌/◌, ◌%◌, true, false, Bool, ◌≡◌, ltb, lt-ltb, le-ltb}
use Rattle.decimal32.specs.Declets.{write_digits, declet_for}
use Rattle.decimal32.proofs.declets.declet_for.Goals as goal

-- the case, by which digits are below 8
picked : (n : ℕ) (a b c : Bool) → ltb (n / 100) 8 ≡ a → ltb (n / 10 % 10) 8 ≡ b → ltb (n % 10) 8 ≡ c
    → {r : ℕ} → r ≡ write_digits (n / 100) (n / 10 % 10) (n % 10) a b c → r ≡ declet_for n
unfolding declet_for
picked n a b c p q s e = rw (p, q, s) e

pub returns-in-true-true-true : goal.returns-in-true-true-true
returns-in-true-true-true c = picked _ true true true (lt-ltb _ _ c.in-true-true-true.is-0) (lt-ltb _ _ c.in-true-true-true.is-1) (lt-ltb _ _ c.in-true-true-true.is-2) c.bits.ensures

pub returns-in-true-true-false : goal.returns-in-true-true-false
returns-in-true-true-false c = picked _ true true false (lt-ltb _ _ c.in-true-true-false.is-0) (lt-ltb _ _ c.in-true-true-false.is-1) (le-ltb _ _ c.in-true-true-false.is-2) c.bits-in-true-true-false.ensures

pub returns-in-true-false-true : goal.returns-in-true-false-true
returns-in-true-false-true c = picked _ true false true (lt-ltb _ _ c.in-true-false-true.is-0) (le-ltb _ _ c.in-true-false-true.is-1) (lt-ltb _ _ c.in-true-false-true.is-2) c.bits-in-true-false-true.ensures

pub returns-in-true-false-false : goal.returns-in-true-false-false
returns-in-true-false-false c = picked _ true false false (lt-ltb _ _ c.in-true-false-false.is-0) (le-ltb _ _ c.in-true-false-false.is-1) (le-ltb _ _ c.in-true-false-false.is-2) c.bits-in-true-false-false.ensures

pub returns-in-false-true-true : goal.returns-in-false-true-true
returns-in-false-true-true c = picked _ false true true (le-ltb _ _ c.in-false-true-true.is-0) (lt-ltb _ _ c.in-false-true-true.is-1) (lt-ltb _ _ c.in-false-true-true.is-2) c.bits-in-false-true-true.ensures

pub returns-in-false-true-false : goal.returns-in-false-true-false
returns-in-false-true-false c = picked _ false true false (le-ltb _ _ c.in-false-true-false.is-0) (lt-ltb _ _ c.in-false-true-false.is-1) (le-ltb _ _ c.in-false-true-false.is-2) c.bits-in-false-true-false.ensures

pub returns-in-false-false-true : goal.returns-in-false-false-true
returns-in-false-false-true c = picked _ false false true (le-ltb _ _ c.in-false-false-true.is-0) (le-ltb _ _ c.in-false-false-true.is-1) (lt-ltb _ _ c.in-false-false-true.is-2) c.bits-in-false-false-true.ensures

pub returns-in-false-false-false : goal.returns-in-false-false-false
returns-in-false-false-false c = picked _ false false false (le-ltb _ _ c.in-false-false-false.is-0) (le-ltb _ _ c.in-false-false-false.is-1) (le-ltb _ _ c.in-false-false-false.is-2) c.bits-in-false-false-false.ensures
