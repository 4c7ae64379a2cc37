-- Question 61 as the code asks it. Assumes nothing.
use Rattle.std.specs.List.{list_all, range_with_len}
use mathlib.Core.Path.{◌≡◌, refl, sym, ap, ◌∙◌}
use mathlib.Core.Bool.{Bool, true, false, ◌&&◌, ◌||◌}
use mathlib.Core.List.{List}
use Prim.Native.Nat.{ℕ, zero, suc, ◌+◌, ◌-◌, ◌*◌, ◌/◌, ◌<◌, ◌≤◌, max}
use native.Mathlib.Nat.{zero-add}
use native.Mathlib.Omega.{arith}
use lib.ListN.{length, get_or}
use lib.IntN.{ℤ, pos, negsuc, nat_abs}
use lib.Signed.{le_z}
use lib.Dec.{eqb, leb, ltb}
use borrow.Author.Tests.{le-leb, lt-ltb, leb-true, ltb-true, ltb-false, eqb-true, eqb-false}
use mir.Syntax.{w64}
use mir.Val.{SFits}
use Rattle.laws.specs.Lists.{every}
use Rattle.laws.proofs.Choice.{pick_false, true_false}
use Rattle.laws.proofs.Truths.{both_left, both_right, both_true}
use Rattle.laws.proofs.Members.{every_at}
use Rattle.contract.specs.Limits.{top}
use Rattle.contract.specs.Tree.{Contract}
use Rattle.contract.specs.Table.{word_at}
use Rattle.contract.specs.Decode.{each_from, contract_of}
use Rattle.contract_laws.proofs.Inversions.{by_test}
use Rattle.contract_laws.proofs.Members.{length_each, get_or_each}
use Rattle.contract_laws.proofs.Sound.{counts}
use Rattle.pages.specs.Entries.{no_entry, is_payout, entry_at, entries_of}
use Rattle.pages.proofs.Widths.{says}
use Rattle.pages.proofs.Given.{entry_whole, entries_whole}

-- ---- of one entry

-- an amount of 64 bits is at most top
amount_asked : (z : ℤ) → SFits w64 z → le_z (pos 0) z ≡ (le_z (pos 0) z && leb (nat_abs z) top)
amount_asked (pos n) f =
    let l : n ≤ top = omega (arith, f.sfits) in
    let t : le_z (pos 0) (pos n) ≡ true = le-leb 0 n (omega arith) in
    t ∙ sym (both_true (le_z (pos 0) (pos n)) (leb n top) t (le-leb n top l))
amount_asked (negsuc n) f = refl

-- x is the value as its bits give it
pub payout_asked : (w : List ℕ) (kind party rule clock group : ℕ) {x z : ℤ} {q : Bool} {n : ℕ} → x ≡ z → SFits w64 z → q ≡ (eqb rule 1 || eqb rule 2) → n ≡ word_at w 0
    → (eqb kind 3 && (q && (ltb party n && (leb clock top && le_z (pos 0) x))))
    ≡ is_payout (contract_of w) (record { kind = kind; party = party; rule = rule; clock = clock; value = z; group = group })
unfolding is_payout
payout_asked w kind party rule clock group {x} {z} {q} {n} e f r p =
    let parties : n ≡ length (contract_of w).parties = p ∙ sym (counts w).parties in
    let amount : le_z (pos 0) x ≡ (le_z (pos 0) z && leb (nat_abs z) top) = ap (le_z (pos 0)) e ∙ amount_asked z f in
    λ i. eqb kind 3 && (r i && (ltb party (parties i) && (leb clock top && amount i)))

-- ---- of all entries

none_pays : (c : Contract) → is_payout c no_entry ≡ false
unfolding is_payout
none_pays c = refl

-- an entry that does not stand there whole
entry_broken : (ns : List ℕ) (zs : List ℤ) (i : ℕ) → (5 * i + 5 ≤ length ns → i < length zs → ⊥) → entry_at ns zs i ≡ no_entry
unfolding entry_at
entry_broken ns zs i h =
    let t = leb (5 * i + 5) (length ns) && ltb i (length zs) in
    pick_false _ _ _
    (by_test t
    (λ e. absurd (h (leb-true (5 * i + 5) (length ns) (both_left (leb (5 * i + 5) (length ns)) (ltb i (length zs)) e)) (ltb-true i (length zs) (both_right (leb (5 * i + 5) (length ns)) (ltb i (length zs)) e))))
    λ e. e)

-- the last one does not where numbers or values are missing
pub not_whole : (c : Contract) (ns : List ℕ) (zs : List ℤ) → (length ns ≡ 5 * length zs → ⊥) → false ≡ every (is_payout c) (entries_of ns zs)
unfolding entries_of
not_whole c ns zs h =
    let m = max ((length ns + 4) / 5) (length zs) in
    let i = m - 1 in
    let some : i < m = by_test (ltb i m) (ltb-true i m) λ t. absurd (h (omega (arith, ltb-false i m t))) in
    by_test (every (is_payout c) (each_from 0 m (entry_at ns zs)))
    (λ e.
    let p : is_payout c (get_or (each_from 0 m (entry_at ns zs)) i no_entry) ≡ true =
    every_at (is_payout c) (each_from 0 m (entry_at ns zs)) e i (omega (arith, length_each 0 m (entry_at ns zs))) no_entry in
    let q : get_or (each_from 0 m (entry_at ns zs)) i no_entry ≡ no_entry =
    get_or_each 0 m (entry_at ns zs) i no_entry some
    ∙ ap (entry_at ns zs) (zero-add i)
    ∙ entry_broken ns zs i (λ k l. h (omega arith)) in
    true_false (sym p ∙ ap (is_payout c) q ∙ none_pays c))
    λ e. sym e

-- one that does not stand there whole does not pass
pub broken_fails : (c : Contract) (ns : List ℕ) (zs : List ℤ) (i : ℕ) → (i < length ns / 5 → i < length zs → ⊥) → false ≡ is_payout c (entry_at ns zs i)
broken_fails c ns zs i h = sym (ap (is_payout c) (entry_broken ns zs i (λ k l. h (omega arith) l)) ∙ none_pays c)

-- a test of n entries, as `all` asks it
all_each : {A : Type 0} (p : A → Bool) (f : ℕ → A) (n i : ℕ) → list_all (λ j. p (f j)) (range_with_len i n) ≡ every p (each_from i n f)
unfolding each_from every
all_each p f zero i = refl
all_each p f (suc n) i =
    let e : i + 1 ≡ suc i = omega arith in
    ap (λ (b : Bool). p (f i) && b) (all_each p f n (i + 1) ∙ ap (λ (j : ℕ). every p (each_from j n f)) e)

pub all_asked : (c : Contract) (ns : List ℕ) (zs : List ℤ) {n : ℕ} → n ≡ max ((length ns + 4) / 5) (length zs)
    → list_all (λ j. is_payout c (entry_at ns zs j)) (range_with_len 0 n) ≡ every (is_payout c) (entries_of ns zs)
unfolding entries_of
all_asked c ns zs {n} e = all_each (is_payout c) (entry_at ns zs) n 0 ∙ ap (λ (k : ℕ). every (is_payout c) (each_from 0 k (entry_at ns zs))) e

-- ---- what is passed

-- a payout stands there whole
pub pays_whole : (c : Contract) (ns : List ℕ) (zs : List ℤ) (i : ℕ) → is_payout c (entry_at ns zs i) ≡ true → (5 * i + 5 ≤ length ns) × (i < length zs)
pays_whole c ns zs i p =
    let a = leb (5 * i + 5) (length ns) in
    let b = ltb i (length zs) in
    by_test (a && b)
    (λ e. (leb-true (5 * i + 5) (length ns) (both_left a b e), ltb-true i (length zs) (both_right a b e)))
    λ e.
    let q = entry_broken ns zs i (λ k l. true_false (sym (both_true a b (le-leb (5 * i + 5) (length ns) k) (lt-ltb i (length zs) l)) ∙ e)) in
    true_false (sym p ∙ ap (is_payout c) q ∙ none_pays c)

-- its numbers say so
pub pays_says : (c : Contract) (ns : List ℕ) (zs : List ℤ) (i : ℕ) → is_payout c (entry_at ns zs i) ≡ true
    → ((eqb (get_or ns (5 * i + 2) 0) 1 || eqb (get_or ns (5 * i + 2) 0) 2) ≡ true) × (get_or ns (5 * i + 1) 0 < length c.parties)
pays_says c ns zs i p =
    let w = pays_whole c ns zs i p in
    let s = says c _ (ap (is_payout c) (sym (entry_whole ns zs i w.0 w.1)) ∙ p) in
    (s.rule, s.party)

-- all entries are whole, and each is a payout
pub all_whole : (c : Contract) (ns : List ℕ) (zs : List ℤ) → every (is_payout c) (entries_of ns zs) ≡ true → length ns ≡ 5 * length zs
all_whole c ns zs p =
    by_test (eqb (length ns) (5 * length zs)) (eqb-true (length ns) (5 * length zs)) λ e. true_false (sym p ∙ sym (not_whole c ns zs (eqb-false (length ns) (5 * length zs) e)))

pub pays_at : (c : Contract) (ns : List ℕ) (zs : List ℤ) → every (is_payout c) (entries_of ns zs) ≡ true → (i : ℕ) → i < length zs → is_payout c (entry_at ns zs i) ≡ true
pays_at c ns zs p i l =
    let n = length zs in
    let a : every (is_payout c) (each_from 0 n (entry_at ns zs)) ≡ true = sym (ap (every (is_payout c)) (entries_whole ns zs (all_whole c ns zs p))) ∙ p in
    sym (ap (is_payout c) (get_or_each 0 n (entry_at ns zs) i no_entry l ∙ ap (entry_at ns zs) (zero-add i)))
    ∙ every_at (is_payout c) (each_from 0 n (entry_at ns zs)) a i (omega (arith, length_each 0 n (entry_at ns zs))) no_entry
