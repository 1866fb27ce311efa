-- `format::powers::trailing_zeros` meets its contract: in base 2 the zeros below the lowest bit that is set.
use Rattle.theory.proofs.Prelude.{ℕ, ◌≤◌, ◌<◌, ◌^◌, ◌*◌, suc, zero, ◌%◌, ◌/◌, ◌∙◌, ap, ◌≡◌, sym, refl, pow-zero, pow-suc, arith, rules}
use lib.Count.{count_trailing_zeros, under}
use Rattle.theory.specs.Units.{zeros}
use Rattle.theory.proofs.Multiples.{multiple_mod, multiple_one}
use Rattle.theory.proofs.LeastPlace.{Ends, ends_zeros}
use Rattle.format.proofs.powers.trailing_zeros.Goals as goal

-- one more zero than half of n
doubled : {n h z : ℕ} → n ≡ h * 2 → Ends 2 h z → Ends 2 n (suc z)
doubled {n} {h} {z} e d =
    let t = d.multiple.times in
    record {
      multiple = record { times = t; is = rw pow-suc (omega (arith, e, d.multiple.is)) };
      no_more = λ m. d.no_more (record { times = m.times; is = omega (arith, e, m.is, ap (λ (x : ℕ). m.times * x) (pow-suc 2 (suc z))) });
    }

bit_zeros : (k n : ℕ) → 1 ≤ n → n < 2 ^ k → Ends 2 n (count_trailing_zeros k n)
unfolding count_trailing_zeros
bit_zeros zero n some l = absurd (omega (arith, pow-zero 2))
bit_zeros (suc k) n some l = by (n % 2) refl (bit_zeros k (n / 2))
  where
    by : (d : ℕ) → n % 2 ≡ d → (1 ≤ n / 2 → n / 2 < 2 ^ k → Ends 2 (n / 2) (count_trailing_zeros k (n / 2))) → Ends 2 n (under d (count_trailing_zeros k (n / 2)))
    by zero e next = doubled (omega arith) (next (omega arith) (omega (arith, pow-suc 2 k)))
    by (suc d) e next = record { multiple = multiple_one 2 n; no_more = λ m. omega (arith, multiple_mod m) }

pub returns-then-base-eq2 : goal.returns-then-base-eq2
returns-then-base-eq2 c =
    let two : 2 ≤ 2 = omega arith in
    sym (ends_zeros two c.requires.1 (bit_zeros 64 c.args.m c.requires.1 (search rules))) ∙ ap (λ (b : ℕ). zeros b c.args.m) (sym c.if-base-eq2.true)
