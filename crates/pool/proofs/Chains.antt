-- The free chain: taking from it, adding to it, and what both leave.
use Rattle.std.proofs.Common.{◌≡◌, ℕ, zero, suc, ◌+◌, ◌-◌, ◌<◌, ◌≤◌, Bool, true, false, ◌≢◌, List, [], ◌∷◌, length, get_or, set, refl, ap, ◌∙◌, subst, arith, length-set, get_or-set_other, get_or-set_same}
use Rattle.std.proofs.lemmas.Bool.Decides.{nat_tests}
use Rattle.pool.specs.Kinds.{Kind}
use Rattle.pool.specs.Pool.{times, tally, only, without, Linked, Chained, Sound, Got, Full, Gave}

tally_below : (held held' : ℕ → Bool) (n : ℕ) → ((k : ℕ) → k < n → held' k ≡ held k) → tally held' n ≡ tally held n
tally_below held held' zero e = refl
tally_below held held' (suc n) e = rw (e n (omega arith), tally_below held held' n (λ k l. e k (omega arith)))

pub tally_only : (i : ℕ) (held : ℕ → Bool) (n : ℕ) → held i ≡ false → i < n → tally (only i held) n ≡ tally held n + 1
tally_only i held zero f lt = absurd (omega arith)
tally_only i held (suc n) f lt = grind (arith, nat_tests, λ (x : n ≡ i). tally_below held (only i held) n (λ k l. grind (arith, nat_tests)), tally_only i held n)

pub linked_set : {B : Type 0} (kind : Kind B) (bs : List B) (i : ℕ) (v : B) (root : ℕ) (chain : List ℕ) → times i chain ≡ 0 → Linked kind bs root chain → Linked kind (set bs i v) root chain
linked_set kind bs i v root [] z h = h
linked_set kind bs i v root (j ∷ js) z h =
    let ne : j ≢ i = λ e. grind (arith, nat_tests) in
    let e : get_or (set bs i v) j kind.blank ≡ get_or bs j kind.blank = get_or-set_other bs i j v kind.blank ne in
    (h.0, rw e h.1, rw e (linked_set kind bs i v _ js (omega arith) h.2))

-- the slot popped becomes held
pub take_pop : {B : Type 0} (kind : Kind B) (bs bs' : List B) (root count fresh : ℕ) (held : ℕ → Bool) (l : ℕ) → Sound kind bs root count fresh held → root ≢ 18446744073709551615 → bs' ≡ set bs root (kind.relink (get_or bs root kind.blank) 0) → l ≡ kind.link (get_or bs root kind.blank) → Got kind bs fresh bs' l (count - 1) fresh held root
take_pop kind bs bs' root count fresh held l ([], s) ne ew el = absurd (ne s.links)
take_pop kind bs bs' root count fresh held l (i ∷ is, s) ne ew el =
    let e : root ≡ i = s.links.0 in
    let on : (0 < i) × (i < fresh) = grind (arith, nat_tests, s.at_nought, s.never i) in
    let here = s.once i on.0 on.1 in
    let off : (times i is ≡ 0) × (held i ≡ false) = grind (arith, nat_tests) in
    let free = off.1 in
    let more = tally_only i held (length bs) free (omega (arith, on.1, s.room)) in
    let w : bs' ≡ set bs i kind.blank = (rw e at ew) ∙ ap (set bs i) s.links.1 in
    rw e (record {
      above = on.0;
      reach = omega arith;
      within = omega (arith, on.1, s.room);
      was_free = free;
      had_room = omega (arith, s.tallied, s.room);
      written = w;
      sound = (
        is,
        rw (w, el, e) (record {
          nought = get_or-set_other bs i 0 kind.blank kind.blank (omega (arith, on.0)) ∙ s.nought;
          begun = s.begun;
          room = omega (arith, s.room, length-set bs i kind.blank);
          counted = omega (arith, s.counted);
          links = linked_set kind bs i kind.blank _ is off.0 s.links.2;
          at_nought = grind (arith, nat_tests, s.at_nought);
          once = λ k a b. grind (arith, nat_tests, s.once k a b);
          never = λ k a. grind (arith, nat_tests, s.never k a);
          tallied = rw length-set (omega (arith, s.tallied));
        }),
      );
    })

-- a chain whose root is the end mark is empty
pub take_fresh : {B : Type 0} (kind : Kind B) (bs bs' : List B) (root count fresh : ℕ) (held : ℕ → Bool) → Sound kind bs root count fresh held → root ≡ 18446744073709551615 → fresh ≤ 18446744073709551615 → fresh < length bs → bs' ≡ set bs fresh kind.blank → Got kind bs fresh bs' root count (fresh + 1) held fresh
take_fresh kind bs bs' root count fresh held (i ∷ is, s) er ef lt w = absurd (grind (arith, nat_tests, s.links.0, s.never i))
take_fresh kind bs bs' root count fresh held ([], s) er ef lt w =
    let out = s.never fresh (omega arith) in
    let free : held fresh ≡ false = grind (arith, nat_tests) in
    let long = length-set bs fresh kind.blank in
    let more = tally_only fresh held (length bs) free lt in
    let s' : Chained kind (set bs fresh kind.blank) root count (fresh + 1) (only fresh held) [] = record {
      nought = get_or-set_other bs fresh 0 kind.blank kind.blank (omega (arith, s.begun)) ∙ s.nought;
      begun = omega (arith, s.begun);
      room = omega arith;
      counted = s.counted;
      links = er;
      at_nought = grind (arith, nat_tests, s.begun, s.at_nought);
      once = λ i a b. grind (arith, nat_tests, out, s.once i a);
      never = λ i a. grind (arith, nat_tests, s.never i);
      tallied = rw long (omega (arith, s.tallied));
    } in
    record { above = s.begun; reach = omega (arith, s.tallied); within = lt; was_free = free; had_room = omega (arith, s.tallied); written = w; sound = ([], rw w s') }

pub take_none : {B : Type 0} (kind : Kind B) (bs : List B) (root count fresh : ℕ) (held : ℕ → Bool) → Sound kind bs root count fresh held → root ≡ 18446744073709551615 → fresh ≤ 18446744073709551615 → length bs ≤ fresh → Full bs root count fresh bs root count fresh held
take_none kind bs root count fresh held (i ∷ is, s) e f full = absurd (grind (arith, nat_tests, s.links.0, s.never i))
take_none kind bs root count fresh held ([], s) e f full =
    record {
      same_blocks = refl;
      same_root = refl;
      same_count = refl;
      same_fresh = refl;
      all_held = λ i a b. grind (arith, nat_tests, s.once i a);
      tally_full = omega (arith, s.tallied, s.room);
    }

pub tally_without : (i : ℕ) (held : ℕ → Bool) (n : ℕ) → held i ≡ true → i < n → tally (without i held) n + 1 ≡ tally held n
tally_without i held zero f lt = absurd (omega arith)
tally_without i held (suc n) f lt = grind (arith, nat_tests, λ (x : n ≡ i). tally_below held (without i held) n (λ k l. grind (arith, nat_tests)), tally_without i held n)

-- a held slot lies in [1, fresh) and not on the chain
pub held_inside : {B : Type 0} (kind : Kind B) (bs : List B) (root count fresh : ℕ) (held : ℕ → Bool) (chain : List ℕ) → Chained kind bs root count fresh held chain → (i : ℕ) → held i ≡ true → (0 < i) × (i < fresh) × (times i chain ≡ 0)
held_inside kind bs root count fresh held chain s i h = grind (arith, nat_tests, s.at_nought, s.never i, s.once i)

pub push : {B : Type 0} (kind : Kind B) → ((b : B) (n : ℕ) → kind.relink b 0 ≡ kind.blank → kind.relink (kind.relink b n) 0 ≡ kind.blank) → ((b : B) (n : ℕ) → kind.link (kind.relink b n) ≡ n) → (bs bs' : List B) (root count fresh : ℕ) (held : ℕ → Bool) (i : ℕ) → Sound kind bs root count fresh held → held i ≡ true → kind.relink (get_or bs i kind.blank) 0 ≡ kind.blank → bs' ≡ set bs i (kind.relink (get_or bs i kind.blank) root) → Gave kind bs root count fresh bs' i (count + 1) fresh held i
push kind again linked bs bs' root count fresh held i t h clean w =
    let chain = t.0 in
    let s = t.1 in
    let on = held_inside kind bs root count fresh held chain s i h in
    let low : 0 < i = on.0 in
    let inside : i < length bs = omega (arith, on.1, s.room) in
    let b = get_or bs i kind.blank in
    let r = kind.relink b root in
    let at : get_or (set bs i r) i kind.blank ≡ r = get_or-set_same bs i r kind.blank inside in
    let long = length-set bs i r in
    let less = tally_without i held (length bs) h inside in
    let s' : Chained kind (set bs i r) i (count + 1) fresh (without i held) (i ∷ chain) = record {
      nought = get_or-set_other bs i 0 r kind.blank (omega arith) ∙ s.nought;
      begun = s.begun;
      room = omega (arith, s.room);
      counted = omega (arith, s.counted);
      links = (refl, rw at (again b root clean), rw (at, linked b root) (linked_set kind bs i r root chain on.2 s.links));
      at_nought = grind (arith, nat_tests, s.at_nought);
      once = λ k p q. grind (arith, nat_tests, s.once k p q);
      never = λ k p. grind (arith, nat_tests, s.never k p);
      tallied = rw long (omega (arith, s.tallied));
    } in
    record { written = w; same_fresh = refl; sound = (i ∷ chain, rw w s') }

pub fresh_tally : (n : ℕ) → tally (λ _. false) n ≡ 0
fresh_tally zero = refl
fresh_tally (suc n) = rw (fresh_tally n)

pub started : {B : Type 0} (kind : Kind B) (bs bs' : List B) → 0 < length bs → bs' ≡ set bs 0 kind.blank → Sound kind bs' 18446744073709551615 0 1 (λ _. false)
started kind bs bs' some w =
    let long : length bs' ≡ length bs = rw (w, length-set) in
    let none = fresh_tally (length bs') in (
      [],
      record {
        nought = rw w (get_or-set_same bs 0 kind.blank kind.blank some);
        begun = omega arith;
        room = omega arith;
        counted = refl;
        links = refl;
        at_nought = refl;
        once = λ i a b. absurd (omega arith);
        never = λ i a. refl;
        tallied = omega arith;
      },
    )

-- a held slot may be written
pub sound_write : {B : Type 0} (kind : Kind B) (bs : List B) (root count fresh : ℕ) (held : ℕ → Bool) (i : ℕ) (v : B) → held i ≡ true → Sound kind bs root count fresh held → Sound kind (set bs i v) root count fresh held
sound_write kind bs root count fresh held i v h t =
    let s = t.1 in
    let on = held_inside kind bs root count fresh held t.0 s i h in
    let low : 0 < i = on.0 in
    let long = length-set bs i v in (
      t.0,
      record {
        nought = get_or-set_other bs i 0 v kind.blank (omega arith) ∙ s.nought;
        begun = s.begun;
        room = omega (arith, s.room);
        counted = s.counted;
        links = linked_set kind bs i v root t.0 on.2 s.links;
        at_nought = s.at_nought;
        once = s.once;
        never = s.never;
        tallied = rw long s.tallied;
      },
    )

pub tally_same : (held held' : ℕ → Bool) → ((k : ℕ) → held k ≡ held' k) → (n : ℕ) → tally held n ≡ tally held' n
tally_same held held' e n = ap (λ h. tally h n) (λ i k. e k i)

-- held sets with the same slots are the same
pub sound_same : {B : Type 0} (kind : Kind B) (bs : List B) (root count fresh : ℕ) (held held' : ℕ → Bool) → ((k : ℕ) → held k ≡ held' k) → Sound kind bs root count fresh held → Sound kind bs root count fresh held'
sound_same kind bs root count fresh held held' e t = subst (Sound kind bs root count fresh) (λ i k. e k i) t
