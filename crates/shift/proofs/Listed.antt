-- A text lists one list of numbers, or goes wrong in one way.
use Rattle.std.proofs.Common.{◌≡◌, ℕ, zero, suc, List, [], ◌∷◌, ◌++◌, length, sym, refl, ◌∙◌, arith}
use Rattle.std.proofs.ByRecursion.{All-weaker}
use Rattle.shift.specs.Fields.{space, Bare, Cut, Lists, Spaced, Amiss}
use Rattle.shift.specs.Numbers.{Digit, Writes, Unfit}
use Rattle.shift.specs.declared.Expected.{Expected}
use Rattle.shift.proofs.Cuts.{one_cut}

-- digits are no spaces
bare_digits : (ds : List ℕ) (n : ℕ) → Writes ds n → Bare ds
bare_digits ds n w = All-weaker Digit (λ c. c ≡ space → ⊥) (λ c d e. omega arith) ds w.0.digits

pub cut_lists : (ns text : List ℕ) → Lists ns text → Cut text
cut_lists [] text l = rw l tt
cut_lists (n ∷ ns) text l = rw l.2 refl

-- the first number's field
front : (n : ℕ) (ns text : List ℕ) (l : Lists (n ∷ ns) text) → Spaced text l.0 l.1
front n ns text l =
    (l.0 ++ l.1, l.2, record { whole = refl; bare = bare_digits l.0 n l.3; ends = cut_lists ns l.1 l.4 })

unfit_none : (field : List ℕ) (e : Expected) (n : ℕ) → Unfit field e → Writes field n → ⊥
unfit_none field e n u w = grind arith

unfit_one : (field : List ℕ) (e f : Expected) → Unfit field e → Unfit field f → e ≡ f
unfit_one field e f u v = grind arith

-- a text lists one list of numbers
pub one_list : (ns ms text : List ℕ) → length ns ≡ length ms → Lists ns text → Lists ms text → ns ≡ ms
one_list [] [] text e l k = refl
one_list [] (m ∷ ms) text e l k = absurd (omega arith)
one_list (n ∷ ns) [] text e l k = absurd (omega arith)
one_list (n ∷ ns) (m ∷ ms) text e l k =
    grind (arith, front n ns text l, front m ms text k, one_cut, one_list ns ms)

-- one that goes wrong lists none
pub amiss_none : (ns text : List ℕ) (e : Expected) → Amiss (length ns) text e → Lists ns text → ⊥
amiss_none [] text e a l = a.0 l
amiss_none (n ∷ ns) text e a l = grind (arith, front n ns text l, one_cut, unfit_none, amiss_none ns)

-- and goes wrong in one way
pub amiss_one : (k : ℕ) (text : List ℕ) (e f : Expected) → Amiss k text e → Amiss k text f → e ≡ f
amiss_one zero text e f a b = a.1 ∙ sym b.1
amiss_one (suc k) text e f a b = grind (arith, one_cut, unfit_none, unfit_one, amiss_one k)
