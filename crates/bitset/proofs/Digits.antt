-- The members once one word is replaced, index by index.
use Rattle.std.proofs.Common.{◌≡◌, ℕ, ◌-◌, ◌/◌, ◌%◌, ◌<◌, Bool, true, false, not, ◌&&◌, ◌||◌, eqb, ltb, arith}
use lib.Bits.{bit_and, bit_or}
use Rattle.std.proofs.lemmas.Bool.Decides.{nat_tests}
use Rattle.bits.specs.Bit.{bit}
use Rattle.bits.specs.Sums.{same}
use Rattle.bits.proofs.Laws.{bit_lt, bit_of_or, bit_of_and, bit_of_zero}
use Rattle.roll.specs.Members.{members}
use Rattle.roll.specs.Roll.{in_block}
use Rattle.bitset.proofs.Over.{over}

-- whether index m lies in block (i, j)
abbrev pub In : ℕ → ℕ → ℕ → Type 0
In i j m = (m / 4096 ≡ i) × (m % 4096 / 64 ≡ j)

-- indices of block (i, j) are added by the bits of w
joined_at : (word : ℕ → ℕ → ℕ) (i j w m : ℕ) (x : Bool) → i < 64 → (In i j m → x ≡ eqb (bit w (m % 64)) 1) → ((In i j m → ⊥) → x ≡ false) → (members word m || x) ≡ members (over word i j (bit_or (word i j) w)) m
joined_at word i j w m x li inn out = grind (arith, nat_tests, bit_of_or (word i j) w (m % 64), bit_lt (word i j) (m % 64), bit_lt w (m % 64))

pub joined : (word : ℕ → ℕ → ℕ) (i j w : ℕ) (X : ℕ → Bool) → i < 64 → ((m : ℕ) → In i j m → X m ≡ eqb (bit w (m % 64)) 1) → ((m : ℕ) → (In i j m → ⊥) → X m ≡ false) → (m : ℕ) → (members word m || X m) ≡ members (over word i j (bit_or (word i j) w)) m
joined word i j w X li inn out m = joined_at word i j w m (X m) li (inn m) (out m)

-- indices of block (i, j) are kept by the bits of w
cut_at : (word : ℕ → ℕ → ℕ) (i j w m : ℕ) (x : Bool) → i < 64 → (In i j m → x ≡ eqb (bit w (m % 64)) 1) → ((In i j m → ⊥) → x ≡ true) → (members word m && x) ≡ members (over word i j (bit_and (word i j) w)) m
cut_at word i j w m x li inn out = grind (arith, nat_tests, bit_of_and (word i j) w (m % 64), bit_lt (word i j) (m % 64), bit_lt w (m % 64))

pub cut_to : (word : ℕ → ℕ → ℕ) (i j w : ℕ) (X : ℕ → Bool) → i < 64 → ((m : ℕ) → In i j m → X m ≡ eqb (bit w (m % 64)) 1) → ((m : ℕ) → (In i j m → ⊥) → X m ≡ true) → (m : ℕ) → (members word m && X m) ≡ members (over word i j (bit_and (word i j) w)) m
cut_to word i j w X li inn out m = cut_at word i j w m (X m) li (inn m) (out m)

-- one index, by the word with its bit alone
pub index_in : (n w : ℕ) → ((a : ℕ) → bit w a ≡ same a (n % 64)) → (m : ℕ) → In (n / 4096) (n % 4096 / 64) m → eqb m n ≡ eqb (bit w (m % 64)) 1
index_in n w e m p = grind (arith, nat_tests, e (m % 64))

pub index_not : (n w : ℕ) → ((a : ℕ) → a < 64 → bit w a ≡ 1 - same a (n % 64)) → (m : ℕ) → In (n / 4096) (n % 4096 / 64) m → not (eqb m n) ≡ eqb (bit w (m % 64)) 1
index_not n w e m p = grind (arith, nat_tests, e (m % 64))

pub index_out : (n m : ℕ) → (In (n / 4096) (n % 4096 / 64) m → ⊥) → eqb m n ≡ false
index_out n m ne = grind (arith, nat_tests)

pub index_was : (word : ℕ → ℕ → ℕ) (n i j k : ℕ) → n < 262144 → i ≡ n / 4096 → j ≡ n % 4096 / 64 → k ≡ n % 64 → eqb (bit (word i j) k) 1 ≡ members word n
index_was word n i j k l x y z = grind (arith, nat_tests)

-- the block that starts at n is added by its word
pub block_added : (word : ℕ → ℕ → ℕ) (n i j w : ℕ) → n < 262144 → n % 64 ≡ 0 → i ≡ n / 4096 → j ≡ n % 4096 / 64 → (m : ℕ) → (members word m || in_block n w m) ≡ members (over word i j (bit_or (word i j) w)) m
block_added word n i j w l z x y m = grind (arith, nat_tests, bit_of_or (word i j) w (m % 64), bit_lt (word i j) (m % 64), bit_lt w (m % 64))

-- the zero word adds nothing
pub block_none : (s m : ℕ) → in_block s 0 m ≡ false
block_none s m = grind (arith, nat_tests, bit_of_zero (m - s))

-- the zero word has no member
pub no_bit : (m w : ℕ) → w ≡ 0 → (ltb m 262144 && eqb (bit w (m % 64)) 1) ≡ false
no_bit m w z = grind (arith, nat_tests, bit_of_zero (m % 64))
