-- The laws of Nor, and the rules of a band.
use Rattle.std.specs.Prelude.{◌≡◌, ℕ, ◌-◌, ◌^◌, ◌<◌, false, cond}
use Rattle.std.proofs.Common.{ap, ◌∙◌, arith}
use Rattle.std.specs.Int.Bits.{bit_or}
use Rattle.std.proofs.lemmas.Nat.{or_lt}
use Rattle.std.proofs.lemmas.Bool.{lt-ltb, false≢true}
use Rattle.std.proofs.lemmas.Bool.Decides.{nat_tests}
use Rattle.bits.specs.Bit.{bit}
use Rattle.bits.proofs.Laws.{bit_of_or, bit_not, bit_ones}
use Rattle.ops.specs.Laws.{Word, Bitwise, Covering}
use Rattle.operands.specs.Ruled.{Ruled}
use Rattle.custom.specs.Bands.{announced, banded}

pub nor_bitwise : Bitwise (λ a b. 2 ^ 64 - 1 - bit_or a b)
nor_bitwise a b c d k wa wb wc wd l e f =
    omega (arith, bit_not 64 (bit_or a b) k (or_lt 64 a b wa wb) l, bit_not 64 (bit_or c d) k (or_lt 64 c d wc wd) l, bit_of_or a b k, bit_of_or c d k)

pub nor_covering : Covering (λ _ _. 2 ^ 64 - 1) (λ a b. 2 ^ 64 - 1 - bit_or a b)
nor_covering a b p q j wa wb wp wq l h k n = bit_ones 64 j l

-- where a band has a cell
band_at : (g w i j : ℕ) → 0 < banded g w i j → (i < 64) × (j < 64)
band_at g w i j p = (grind (arith, nat_tests), grind (arith, nat_tests))

pub band_ruled : (g w : ℕ) → Word w → Ruled false (2 ^ 64 - 1) announced (banded g w)
band_ruled g w f = record {
  top_fits = omega arith;
  middle_fits = λ i. grind (arith, nat_tests);
  word_fits = λ i j. grind (arith, nat_tests);
  middle_past = λ i l. grind (arith, nat_tests);
  word_past_i = λ i j l. grind (arith, nat_tests);
  word_past_j = λ i j l. grind (arith, nat_tests);
  covers_top = λ i j p. bit_ones 64 i (band_at g w i j p).0;
  covers_middle = λ i j p.
      (let at = band_at g w i j p in
      let e : announced i ≡ 2 ^ 64 - 1 = ap (λ b. cond b (2 ^ 64 - 1) 0) (lt-ltb i 64 at.0) in
      ap (λ x. bit x j) e ∙ bit_ones 64 j at.1);
  trusts_top = λ e. absurd (false≢true e);
  trusts_middle = λ e. absurd (false≢true e);
}
