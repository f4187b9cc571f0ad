-- Members kept as words, whose groups and blocks are quickly counted.
use Rattle.std.proofs.Common.{◌≡◌, ℕ, ◌-◌, ◌*◌, ◌/◌, ◌%◌, ◌^◌, ◌<◌, Bool, false, cond, not, ◌&&◌, ◌||◌, eqb, leb, sym, refl, ap, arith}
use mathlib.Core.Path.{fun_ext}
use Rattle.std.proofs.lemmas.Bool.Decides.{nat_tests}
use lib.Bits.{bit_and, bit_or, or_lt, and_le_l}
use Rattle.bits.specs.Bit.{bit}
use Rattle.bits.specs.Sums.{same}
use Rattle.bits.proofs.Marks.{mark}
use Rattle.bits.proofs.Laws.{bit_not}
use Rattle.roll.specs.Members.{members}
use Rattle.roll.specs.Roll.{Answer, Done, Refused, fitting}
use Rattle.roll.proofs.Counts.{groups_words, blocks_words}
use Rattle.merge.specs.Merged.{groups_in, blocks_in}
use Rattle.bitset.proofs.Over.{over}
use Rattle.bitset.proofs.Digits.{joined, cut_to, index_in, index_not, index_out, no_bit}

-- the members of words
pub record Held (M : ℕ → Bool) (w : ℕ → ℕ → ℕ) : Type 0 where
  pub has : (m : ℕ) → M m ≡ members w m
  pub fits : (i j : ℕ) → w i j < 2 ^ 64

-- the word with the bit of index n alone, the words with that bit and without it
abbrev pub bit_of : ℕ → ℕ
bit_of n = 1 * 2 ^ (n % 64) % 2 ^ 64

abbrev pub with_index : (ℕ → ℕ → ℕ) → ℕ → ℕ → ℕ → ℕ
with_index w n = over w (n / 4096) (n % 4096 / 64) (bit_or (w (n / 4096) (n % 4096 / 64)) (bit_of n))

abbrev pub without_index : (ℕ → ℕ → ℕ) → ℕ → ℕ → ℕ → ℕ
without_index w n = over w (n / 4096) (n % 4096 / 64) (bit_and (w (n / 4096) (n % 4096 / 64)) (2 ^ 64 - 1 - bit_of n))

over_fits : (w : ℕ → ℕ → ℕ) (i j v : ℕ) → ((a b : ℕ) → w a b < 2 ^ 64) → v < 2 ^ 64 → (a b : ℕ) → over w i j v a b < 2 ^ 64
over_fits w i j v f fv a b = grind (arith, nat_tests, f a b)

pub empty : Held (λ _. false) (λ _ _. 0)
empty = record { has = λ m. sym (no_bit m 0 refl); fits = λ i j. omega arith }

pub put : (M : ℕ → Bool) (w : ℕ → ℕ → ℕ) (n : ℕ) → n < 262144 → Held M w → Held (λ m. M m || eqb m n) (with_index w n)
put M w n l h =
    let v = bit_of n in
    let bits : (a : ℕ) → bit v a ≡ same a (n % 64) = λ a. mark (n % 64) a (omega arith) in
    record {
      has = λ m. rw (h.has m) (joined w (n / 4096) (n % 4096 / 64) v (λ k. eqb k n) (omega arith) (index_in n v bits) (index_out n) m);
      fits = over_fits w _ _ _ h.fits (or_lt 64 _ v (h.fits _ _) (omega arith));
    }

pub gone : (M : ℕ → Bool) (w : ℕ → ℕ → ℕ) (n : ℕ) → n < 262144 → Held M w → Held (λ m. M m && not (eqb m n)) (without_index w n)
gone M w n l h =
    let v = 2 ^ 64 - 1 - bit_of n in
    let bits : (a : ℕ) → a < 64 → bit v a ≡ 1 - same a (n % 64) = λ a la. omega (arith, bit_not 64 (bit_of n) a (omega arith) la, mark (n % 64) a (omega arith)) in
    record {
      has = λ m. rw (h.has m) (cut_to w (n / 4096) (n % 4096 / 64) v (λ k. not (eqb k n)) (omega arith) (index_not n v bits) (λ k ne. ap not (index_out n k ne)) m);
      fits = over_fits w _ _ _ h.fits (omega (arith, and_le_l (w (n / 4096) (n % 4096 / 64)) v, h.fits (n / 4096) (n % 4096 / 64)));
    }

-- whether members fit, by their words
pub counted : (M : ℕ → Bool) (w : ℕ → ℕ → ℕ) (p q : ℕ) (a : Answer) → Held M w →
    cond (leb (groups_in w) p) (cond (leb (blocks_in w) q) Done (Refused 4)) (Refused 3) ≡ a → fitting p q M ≡ a
counted M w p q a h e = rw (fun_ext h.has, groups_words w h.fits, blocks_words w h.fits) e
