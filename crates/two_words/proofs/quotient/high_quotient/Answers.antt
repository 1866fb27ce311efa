-- `two_words::quotient::high_quotient` meets its contract: no bit is lost.
use Rattle.std.proofs.Common.{◌≡◌, ℕ, suc, ◌-◌, ◌*◌, ◌%◌, ◌^◌, ◌<◌, ap, ◌∙◌, arith, shl_exact}
use native.Mathlib.Nat.{pow-succ'}
use Rattle.two_words.proofs.quotient.high_quotient.Goals as goal

-- twice h is a word of w bits
doubled : (w h j : ℕ) → j < w → h < 2 ^ j → (h * 2) % 2 ^ w ≡ h * 2
doubled w h j l m = shl_exact {a = h} j 1 w m (omega arith)

next : (w j : ℕ) → j < w → 2 ^ (w - j) ≡ 2 * 2 ^ (w - 1 - j)
next w j l =
    let one : w - j ≡ suc (w - 1 - j) = omega arith in
    ap (λ (k : ℕ). 2 ^ k) one ∙ pow-succ' 2 (w - 1 - j)

shifted : (w h j : ℕ) → j < w → h < 2 ^ j → ((h * 2) % 2 ^ w * 2 ^ (w - 1 - j)) % 2 ^ w ≡ h * 2 ^ (w - j)
shifted w h j l m =
    ap (λ (v : ℕ). (v * 2 ^ (w - 1 - j)) % 2 ^ w) (doubled w h j l m)
    ∙ ap (λ (v : ℕ). v % 2 ^ w) (omega (arith, ap (λ (v : ℕ). h * v) (next w j l)))
    ∙ shl_exact {a = h} j (w - j) w m (omega arith)

pub returns : goal.returns
returns c = shifted 64 c.args.high c.args.j (omega (arith, c.requires.0)) c.requires.1
