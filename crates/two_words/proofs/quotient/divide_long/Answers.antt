-- `two_words::quotient::divide_long` meets its contract: the shift keeps the quotient.
use Rattle.std.proofs.Common.{ℕ, ◌<◌, ◌^◌, arith}
use lib.Count.{count_leading_zeros}
use Rattle.two_words.proofs.Shifts.{Normal, normal, top_fits, ready, unshifted}
use Rattle.two_words.proofs.quotient.divide_long.Goals as goal

set : {h d : ℕ} → h < d → d < 2 ^ 64 → Normal 64 d (count_leading_zeros 64 d)
set {d = d} l fits = normal 64 d (omega (arith, l)) fits

pub overflow_add-top : goal.overflow_add-top
overflow_add-top c =
    let r = c.ranges in
    record { fits = top_fits 64 _ _ _ _ c.requires r.l.fits (set c.requires r.d.fits) }

pub divide_normal-r-requires : goal.divide_normal-r-requires
divide_normal-r-requires c =
    let r = c.ranges in
    ready 64 _ _ _ _ c.requires r.l.fits (set c.requires r.d.fits)

pub returns : goal.returns
returns c =
    let r = c.ranges in
    let told = c.divide_normal-r.ensures in
    unshifted 64 _ _ _ _ c.requires r.l.fits (set c.requires r.d.fits) _ _ told.0 told.1
