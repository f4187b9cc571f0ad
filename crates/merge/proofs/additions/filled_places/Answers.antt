use Rattle.std.proofs.Common.{◌≡◌, ℕ, ◌-◌, ◌<◌, min, sym, ap, ◌∙◌, arith}
use Rattle.bits.specs.Bit.{bit}
use Rattle.bits.specs.Sums.{some}
use Rattle.bits.proofs.Laws.{bit_lt, bit_of_zero, bit_and_not}
use Rattle.merge.proofs.additions.filled_places.Goals as goal

-- a mask bit that is 1 wherever the word is above 0
covered : (b w x : ℕ) → b < 2 → (0 < w → b ≡ 1) → min (b - x) (some w) ≡ min (some w) (1 - x)
covered b w x l up = grind arith

-- and only there
told : (b w x : ℕ) → b < 2 → (0 < w → b ≡ 1) → (b ≡ 1 → 0 < w) → b - x ≡ min (some w) (1 - x)
told b w x l up down = grind arith

pub returns-then-is_trusted : goal.returns-then-is_trusted
returns-then-is_trusted g c j l =
    let r = c.rules.ensures in
    let i = c.args.i in
    let e : bit c.init_level1_block_data-mask.result.0 j ≡ bit (g.X.LevelMasks.middle c.args.x.now c.args.i) j = ap (λ z. bit z j) c.init_level1_block_data-mask.ensures.mask in
    omega (arith, bit_and_not 64 c.init_level1_block_data-mask.result.0 c.args.but j (omega (arith, c.ranges.but)) l, e, told _ _ (bit c.args.but j) (bit_lt _ j) (r.covers_middle i j) (r.trusts_middle (sym c.if-is_trusted.ensures) i j))

pub returns : goal.returns
returns g c j l =
    let e : bit c.init_level1_block_data-mask.result.0 j ≡ bit (g.X.LevelMasks.middle c.args.x.now c.args.i) j = ap (λ z. bit z j) c.init_level1_block_data-mask.ensures.mask in
    let z : bit c.loop-j.j-iterator.word j ≡ 0 = ap (λ z. bit z j) c.in-None.ensures.steps.0.0 ∙ bit_of_zero j in
    omega (arith, (c.loop-j.invariant j l).1, z, bit_and_not 64 c.init_level1_block_data-mask.result.0 c.args.but j (omega (arith, c.ranges.but)) l, e, covered _ _ (bit c.args.but j) (bit_lt _ j) (c.rules.ensures.covers_middle c.args.i j))
