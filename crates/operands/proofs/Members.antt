-- The members of a combination, from law 1 of its operation.
use Rattle.std.proofs.Common.{◌≡◌, ℕ, ◌*◌, ◌/◌, ◌%◌, ◌^◌, ◌<◌, sym, ◌∙◌, add-zero, arith}
use lib.Pow.{pow-lt}
use Rattle.std.proofs.lemmas.Bool.Decides.{nat_tests}
use Rattle.bits.specs.Bit.{bit}
use Rattle.bits.proofs.Laws.{bit_lt, bit_zero, bit_shl_high}
use Rattle.roll.specs.Members.{one, members}
use Rattle.ops.specs.Laws.{Word, Bitwise}
use Rattle.operands.specs.Combined.{within, joined}

one_of : (w : ℕ → ℕ → ℕ) (n : ℕ) → n < 262144 → one (members w n) ≡ bit (w (n / 4096) (n % 4096 / 64)) (n % 64)
one_of w n h = grind (arith, nat_tests, bit_lt (w (n / 4096) (n % 4096 / 64)) (n % 64))

-- a digit moved up to place k
bit_digit : (x k : ℕ) → x < 2 → bit (x * 2 ^ k) k ≡ x
bit_digit x k l =
    let e : bit (x * 2 ^ k) k ≡ bit x 0 = rw add-zero at (bit_shl_high k x 0) in
    e ∙ bit_zero x ∙ omega arith

digit_word : (x k : ℕ) → x < 2 → k < 64 → Word (x * 2 ^ k)
digit_word x k l lk = grind (arith, pow-lt {i = k} {j = 64} lk)

pub members_joined :
    (f : ℕ → ℕ → ℕ) → Bitwise f → (v w : ℕ → ℕ → ℕ) → ((i j : ℕ) → Word (v i j)) → ((i j : ℕ) → Word (w i j)) →
    (n : ℕ) → members (λ i j. within i (within j (f (v i j) (w i j)))) n ≡ joined f n (members v n) (members w n)
unfolding joined
members_joined f b v w hv hw n =
    let i = n / 4096 in
    let j = n % 4096 / 64 in
    let k = n % 64 in
    let p = one (members v n) in
    let q = one (members w n) in
    let same : n < 262144 → bit (f (v i j) (w i j)) k ≡ bit (f (p * 2 ^ k) (q * 2 ^ k)) k = λ l.
    let x = one_of v n l in
    let y = one_of w n l in
    let c = bit_lt (v i j) k in
    let d = bit_lt (w i j) k in
    b (v i j) (w i j) _ _ k (hv i j) (hw i j) (digit_word p k (omega arith) (omega arith)) (digit_word q k (omega arith) (omega arith)) (omega arith)
    (sym (bit_digit p k (omega arith) ∙ x)) (sym (bit_digit q k (omega arith) ∙ y)) in
    grind (arith, nat_tests, same)
