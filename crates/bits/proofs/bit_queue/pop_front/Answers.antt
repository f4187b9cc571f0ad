use Rattle.std.proofs.Common.{◌≡◌, ◌-◌, ◌^◌, ◌<◌, rules}
use lib.Bits.{bit_and}
use lib.Count.{count_trailing_zeros}
use Rattle.bits.specs.Bit.{Lost}
use Rattle.bits.proofs.Low.{low_one, low_lt, low_lowest, low_gone, low_rest}
use Rattle.bits.proofs.Listed.{places_lost, places_zero}
use Rattle.bits.proofs.bit_queue.pop_front.Goals as goal

pub returns-then-word-eq0 : goal.returns-then-word-eq0
returns-then-word-eq0 c =
    let e : c.args.word.now ≡ 0 = search rules in
    record { bits = (e, e); list = rw e (places_zero, places_zero) }

pub returns : goal.returns
returns c =
    let w = c.args.word.now in
    let p : 0 < w = search rules in
    let q : w < 2 ^ 64 = search rules in
    let h : Lost w (count_trailing_zeros 64 w) (bit_and w (w - 1)) = record { within = low_lt 64 w p q; one = low_one 64 w p q; lowest = low_lowest 64 w; gone = low_gone 64 w p q; rest = low_rest 64 w p q } in
    record { bits = h; list = places_lost w (count_trailing_zeros 64 w) (bit_and w (w - 1)) h }
