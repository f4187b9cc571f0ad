-- The rules of a combination, from the laws of its operation and the rules of its operands.
use Rattle.std.proofs.Common.{◌≡◌, ℕ, ◌<◌, Bool, true, ◌&&◌, arith}
use Rattle.std.proofs.lemmas.Bool.{and_parts}
use Rattle.std.proofs.lemmas.Bool.Decides.{nat_tests}
use Rattle.bits.specs.Bit.{bit}
use Rattle.bits.proofs.Laws.{bit_of_zero, bit_past}
use Rattle.bits.proofs.Low.{low_one}
use Rattle.ops.specs.Laws.{Word, Tells, Closed, Covering, Exact}
use Rattle.operands.specs.Ruled.{Ruled}
use Rattle.operands.specs.Combined.{within}
use lib.Count.{count_trailing_zeros}

pub within_in : (i x : ℕ) → i < 64 → within i x ≡ x
within_in i x h = grind (arith, nat_tests)

pub within_word : (i x : ℕ) → Word x → Word (within i x)
within_word i x h = grind (arith, nat_tests)

pub within_pos : (i x : ℕ) → 0 < within i x → (i < 64) × (0 < x)
within_pos i x h = grind (arith, nat_tests)

pub within_bit : (i x j : ℕ) → bit (within i x) j ≡ 1 → (i < 64) × (bit x j ≡ 1)
within_bit i x j h = grind (arith, nat_tests, bit_of_zero)

-- a one bit of a word stands below 64
pub bit_place : (w k : ℕ) → Word w → bit w k ≡ 1 → k < 64
bit_place w k h e = grind (arith, bit_past 64 w k h)

-- one operand: its masks tell exactly, where it is trusted

module _ (t : Bool) (top : ℕ) (middle : ℕ → ℕ) (word : ℕ → ℕ → ℕ) (r : Ruled t top middle word) (e : t ≡ true) where
  pub tells_middle : (i j : ℕ) → Tells (middle i) j (word i j)
  tells_middle i j = (r.covers_middle i j, r.trusts_middle e i j)

  pub tells_top : (i : ℕ) → Tells top i (middle i)
  tells_top i = (
    λ p. let j = count_trailing_zeros 64 (middle i) in
        r.covers_top i j (r.trusts_middle e i j (low_one 64 (middle i) p (r.middle_fits i))),
    r.trusts_top e i,
  )

-- two operands under an operation

pub applied :
    (t : Bool) (m f : ℕ → ℕ → ℕ) → Closed m → Closed f → Covering m f → Exact t m f →
    (t1 : Bool) (top1 : ℕ) (mid1 : ℕ → ℕ) (word1 : ℕ → ℕ → ℕ) → Ruled t1 top1 mid1 word1 →
    (t2 : Bool) (top2 : ℕ) (mid2 : ℕ → ℕ) (word2 : ℕ → ℕ → ℕ) → Ruled t2 top2 mid2 word2 →
    Ruled (t && (t1 && t2)) (m top1 top2) (λ i. within i (m (mid1 i) (mid2 i))) (λ i j. within i (within j (f (word1 i j) (word2 i j))))
applied t m f cm cf covering exact t1 top1 mid1 word1 r1 t2 top2 mid2 word2 r2 = record {
  top_fits = cm top1 top2 r1.top_fits r2.top_fits;
  middle_fits = λ i. within_word i _ (cm (mid1 i) (mid2 i) (r1.middle_fits i) (r2.middle_fits i));
  word_fits = λ i j. within_word i _ (within_word j _ (cf (word1 i j) (word2 i j) (r1.word_fits i j) (r2.word_fits i j)));
  middle_past = λ i h. grind (arith, nat_tests);
  word_past_i = λ i j h. grind (arith, nat_tests);
  word_past_j = λ i j h. grind (arith, nat_tests);
  covers_top = λ i j h.
      let p = within_pos i _ h in let q = within_pos j _ p.1 in
      covering (word1 i j) (word2 i j) top1 top2 i (r1.word_fits i j) (r2.word_fits i j) r1.top_fits r2.top_fits p.0
      (r1.covers_top i j) (r2.covers_top i j) q.1;
  covers_middle = λ i j h.
      let p = within_pos i _ h in let q = within_pos j _ p.1 in
      rw (within_in i (m (mid1 i) (mid2 i)) p.0)
      (covering (word1 i j) (word2 i j) (mid1 i) (mid2 i) j (r1.word_fits i j) (r2.word_fits i j) (r1.middle_fits i) (r2.middle_fits i) q.0
      (r1.covers_middle i j) (r2.covers_middle i j) q.1);
  trusts_top = λ e i h.
      let a = and_parts t (t1 && t2) e in let b = and_parts t1 t2 a.1 in
      let l = bit_place (m top1 top2) i (cm top1 top2 r1.top_fits r2.top_fits) h in
      rw (within_in i (m (mid1 i) (mid2 i)) l)
      (exact a.0 (mid1 i) (mid2 i) top1 top2 i (r1.middle_fits i) (r2.middle_fits i) r1.top_fits r2.top_fits l
      (tells_top t1 top1 mid1 word1 r1 b.0 i) (tells_top t2 top2 mid2 word2 r2 b.1 i) h).1;
  trusts_middle = λ e i j h.
      let a = and_parts t (t1 && t2) e in let b = and_parts t1 t2 a.1 in
      let p = within_bit i (m (mid1 i) (mid2 i)) j h in
      let l = bit_place (m (mid1 i) (mid2 i)) j (cm (mid1 i) (mid2 i) (r1.middle_fits i) (r2.middle_fits i)) p.1 in
      rw (within_in i (within j (f (word1 i j) (word2 i j))) p.0, within_in j (f (word1 i j) (word2 i j)) l)
      (exact a.0 (word1 i j) (word2 i j) (mid1 i) (mid2 i) j (r1.word_fits i j) (r2.word_fits i j) (r1.middle_fits i) (r2.middle_fits i) l
      (tells_middle t1 top1 mid1 word1 r1 b.0 i j) (tells_middle t2 top2 mid2 word2 r2 b.1 i j) p.1).0;
}
