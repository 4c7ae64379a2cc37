-- The agreement's rules by masks are the rules. Assumes nothing.
use mathlib.Core.Path.{◌≡◌, refl, sym, ap, ◌∙◌, subst}
use mathlib.Core.Bool.{Bool, true, false, ◌&&◌, ◌||◌, not}
use mathlib.Core.List.{List, [], ◌∷◌, ◌++◌, append-nil}
use Prim.Native.Nat.{ℕ, zero, suc, ◌+◌, ◌-◌, ◌*◌, ◌/◌, ◌^◌, ◌≤◌, ◌<◌, min}
use native.Mathlib.Omega.{arith}
use lib.ListN.{length, get_or}
use lib.Bits.{bit_and, bit_or, and_mask}
use lib.Dec.{eqb, leb}
use borrow.Author.Tests.{eqb-true, eqb-false, eq-eqb, ne_eqb, leb-true, le-leb}
use Rattle.laws.specs.Choice.{pick}
use Rattle.laws.proofs.Choice.{pick_true, pick_false, true_false}
use Rattle.contract.specs.Tree.{Verb, set, ok, Clause}
use Rattle.contract.specs.Limits.{max_fields, max_clauses}
use Rattle.contract.specs.Table.{clause_word, clause_words, clauses_start}
use Rattle.laws.proofs.Members.{every_head, every_tail}
use Rattle.laws.proofs.Truths.{both_right, both_true}
use Rattle.laws.specs.Lists.{every, all_below}
use Rattle.contract.specs.Encode.{zeros, padded, joined, verb_word, clause_row}
use Rattle.contract.specs.Decode.{each_from}
use Rattle.contract.proofs.Tests.{or_pick}
use Rattle.contract_laws.proofs.Stands.{Stands, first_part, second_part}
use Rattle.contract_laws.proofs.Lengths.{length_clause_row}
use Rattle.contract_laws.proofs.Sections.{joined_row, each_is}
use Rattle.reading.specs.Grammar.{is_one_of}
use Rattle.reading.specs.Rules.{distinct, is_set, parties_of, fields_set, agrees_well, keeps_rules}
use Rattle.reading_laws.specs.Masks.{row_of, rows_of, holds, with, with_all, field_mask, party_mask, part_of, agrees_by_mask, kept_by_masks}
use Rattle.laws.proofs.Bits.{bit_at, bit_or_lem, bit_and_lem, bit_zero, bit_one, all_in}

holds_at : (m n : ℕ) → n ≤ 63 → holds m n ≡ bit_at m n
unfolding holds bit_at
holds_at m n h =
    let place : min n 63 ≡ n = omega arith in
    ap (λ (k : ℕ). eqb (bit_and (m / 2 ^ k) 1) 1) place ∙ ap (λ (b : ℕ). eqb b 1) (and_mask (m / 2 ^ n) 1)

-- ---- truth values

same_truth : (a b : Bool) → (a ≡ true → b ≡ true) → (b ≡ true → a ≡ true) → a ≡ b
same_truth true b f g = sym (f refl)
same_truth false true f g = g refl
same_truth false false f g = refl

not_not : (b : Bool) → not (not b) ≡ b
not_not true = refl
not_not false = refl

pub or_false : (b : Bool) → (b || false) ≡ b
or_false true = refl
or_false false = refl

or_swap : (a b : Bool) → (a || b) ≡ (b || a)
or_swap true b = go b
  where
    go : (b : Bool) → true ≡ (b || true)
    go true = refl
    go false = refl
or_swap false b = sym (or_false b)

-- ---- members

member_every : (p : ℕ → Bool) (l : List ℕ) (n : ℕ) → every p l ≡ true → is_one_of l n ≡ true → p n ≡ true
unfolding is_one_of every
member_every p [] n e h = true_false (sym h)
member_every p (x ∷ l) n e h = go (member_every p l n (every_tail p x l e)) (eqb n x) refl
  where
    go : (is_one_of l n ≡ true → p n ≡ true) → (b : Bool) → eqb n x ≡ b → p n ≡ true
    go later true q = ap p (eqb-true n x q) ∙ every_head p x l e
    go later false q = later (sym (pick_false _ _ _ q) ∙ h)

every_member : (p : ℕ → Bool) (l : List ℕ) → ((n : ℕ) → is_one_of l n ≡ true → p n ≡ true) → every p l ≡ true
unfolding is_one_of every
every_member p [] h = refl
every_member p (x ∷ l) h = both_true _ _ (h x (pick_true _ _ _ (eq-eqb x x refl))) (every_member p l (λ n e. h n (later n e)))
  where
    later : (n : ℕ) → is_one_of l n ≡ true → pick (eqb n x) true (is_one_of l n) ≡ true
    later n e = sym (or_pick (eqb n x) (is_one_of l n)) ∙ ap (λ (b : Bool). eqb n x || b) e ∙ or_swap (eqb n x) true

-- ---- a mask

-- m has the bits of the numbers of l, and the last bit where one of them is there twice
pub record Mask (m : ℕ) (l : List ℕ) : Type 0 where
  pub bits : (n : ℕ) → (n ≡ 63 → ⊥) → bit_at m n ≡ is_one_of l n
  pub last : bit_at m 63 ≡ not (distinct l)

empty : Mask 0 []
unfolding is_one_of distinct
empty = record { bits = λ n h. bit_zero n; last = bit_zero 63 }

module _ (m : ℕ) (l : List ℕ) (k : Mask m l) (x : ℕ) (low : x < 63) where
  again : is_one_of l x ≡ true → Mask (bit_or m (2 ^ 63)) (x ∷ l)
  unfolding is_one_of distinct
  again e = record { bits = bits'; last = last' }
    where
      bits' : (n : ℕ) → (n ≡ 63 → ⊥) → bit_at (bit_or m (2 ^ 63)) n ≡ pick (eqb n x) true (is_one_of l n)
      bits' n h =
          bit_or_lem m (2 ^ 63) n ∙ (λ t. (k.bits n h) t || (bit_one 63 n ∙ ne_eqb n 63 h) t) ∙ or_false (is_one_of l n)
          ∙ go (eqb n x) refl
        where
          go : (b : Bool) → eqb n x ≡ b → is_one_of l n ≡ pick (eqb n x) true (is_one_of l n)
          go true q = ap (is_one_of l) (eqb-true n x q) ∙ e ∙ sym (pick_true _ _ _ q)
          go false q = sym (pick_false _ _ _ q)

      last' : bit_at (bit_or m (2 ^ 63)) 63 ≡ not (not (is_one_of l x) && distinct l)
      last' =
          bit_or_lem m (2 ^ 63) 63 ∙ ap (λ (b : Bool). bit_at m 63 || b) (bit_one 63 63) ∙ or_swap (bit_at m 63) true
          ∙ ap (λ (b : Bool). not (not b && distinct l)) (sym e)

  new : is_one_of l x ≡ false → Mask (bit_or m (2 ^ x)) (x ∷ l)
  unfolding is_one_of distinct
  new e = record { bits = bits'; last = last' }
    where
      bits' : (n : ℕ) → (n ≡ 63 → ⊥) → bit_at (bit_or m (2 ^ x)) n ≡ pick (eqb n x) true (is_one_of l n)
      bits' n h =
          bit_or_lem m (2 ^ x) n ∙ (λ t. (k.bits n h) t || bit_one x n t) ∙ or_swap (is_one_of l n) (eqb n x)
          ∙ or_pick (eqb n x) (is_one_of l n)

      last' : bit_at (bit_or m (2 ^ x)) 63 ≡ not (not (is_one_of l x) && distinct l)
      last' =
          bit_or_lem m (2 ^ x) 63 ∙ (λ t. k.last t || (bit_one x 63 ∙ ne_eqb 63 x (λ q. absurd (omega arith))) t)
          ∙ or_false (not (distinct l))
          ∙ ap (λ (b : Bool). not (not b && distinct l)) (sym e)

  pub one_more : Mask (with m x) (x ∷ l)
  unfolding with
  one_more = go (is_one_of l x) refl
    where
      there : holds m x ≡ is_one_of l x
      there = holds_at m x (omega arith) ∙ k.bits x (λ q. absurd (omega arith))

      place : min x 63 ≡ x
      place = omega arith

      go : (b : Bool) → is_one_of l x ≡ b → Mask (pick (holds m x) (bit_or m (2 ^ 63)) (bit_or m (2 ^ min x 63))) (x ∷ l)
      go true e = subst (λ (y : ℕ). Mask y (x ∷ l)) (sym (pick_true _ _ _ (there ∙ e))) (again e)
      go false e =
          subst (λ (y : ℕ). Mask y (x ∷ l)) (sym (pick_false _ _ _ (there ∙ e) ∙ ap (λ (y : ℕ). bit_or m (2 ^ y)) place)) (new e)

abbrev fields_low : List ℕ → Bool
fields_low l = every (λ f. leb f 32) l

all_more : (m : ℕ) (l : List ℕ) → Mask m l → (xs : List ℕ) → fields_low xs ≡ true → Mask (with_all m xs) (xs ++ l)
unfolding with_all
all_more m l k [] e = k
all_more m l k (x ∷ xs) e =
    let low : x ≤ 32 = leb-true x 32 (every_head (λ f. leb f 32) x xs e) in
    one_more (with_all m xs) (xs ++ l) (all_more m l k xs (every_tail (λ f. leb f 32) x xs e)) x (omega arith)

twice_is : (m : ℕ) (l : List ℕ) → Mask m l → not (holds m 63) ≡ distinct l
twice_is m l k = ap not (holds_at m 63 (omega arith) ∙ k.last) ∙ not_not (distinct l)

-- ---- a part of a mask

module _ (m o : ℕ) (fs os : List ℕ) (k : Mask m fs) (j : Mask o os) (low : fields_low fs ≡ true) where
  all_set : distinct fs ≡ true → every (is_one_of os) fs ≡ true → bit_and m o ≡ m
  all_set d e = all_in m o λ n h. at_bit n h (eqb n 63) refl
    where
      at_bit : (n : ℕ) → bit_at m n ≡ true → (b : Bool) → eqb n 63 ≡ b → bit_at o n ≡ true
      at_bit n h true q = true_false (sym h ∙ ap (bit_at m) (eqb-true n 63 q) ∙ k.last ∙ ap not d)
      at_bit n h false q =
          j.bits n (eqb-false n 63 q) ∙ member_every (is_one_of os) fs n e (sym (k.bits n (eqb-false n 63 q)) ∙ h)

  set_all : bit_and m o ≡ m → every (is_one_of os) fs ≡ true
  set_all e =
      every_member (is_one_of os) fs λ n h.
      let few : n ≤ 32 = leb-true n 32 (member_every (λ f. leb f 32) fs n low h) in
      let other : n ≡ 63 → ⊥ = λ q. absurd (omega arith) in
      sym (j.bits n other)
      ∙ both_right (bit_at m n) (bit_at o n) (sym (bit_and_lem m o n) ∙ ap (λ (x : ℕ). bit_at x n) e ∙ k.bits n other ∙ h)

  part_is : part_of m o ≡ (distinct fs && every (is_one_of os) fs)
  unfolding part_of
  part_is = ap (λ (b : Bool). b && eqb (bit_and m o) m) (twice_is m fs k) ∙ go (distinct fs) refl
    where
      go : (d : Bool) → distinct fs ≡ d → (distinct fs && eqb (bit_and m o) m) ≡ (distinct fs && every (is_one_of os) fs)
      go true d =
          ap (λ (b : Bool). distinct fs && b)
          (same_truth _ _ (λ e. set_all (eqb-true (bit_and m o) m e)) (λ e. eq-eqb (bit_and m o) m (all_set d e)))
      go false d = ap (λ (b : Bool). b && eqb (bit_and m o) m) d ∙ sym (ap (λ (b : Bool). b && every (is_one_of os) fs) d)

-- ---- the masks of clauses

-- clauses that a table has room for; an unknown name has the number of how many are known
pub record Small (ks : List Clause) : Type 0 where
  pub few : length ks ≤ 16
  pub parties : every (λ k. leb k.party 8) ks ≡ true
  pub fields : every (λ k. every (λ f. leb f 32) k.fields) ks ≡ true
  pub short : every (λ k. leb (length k.fields) 32) ks ≡ true

abbrev low_fields : Clause → Bool
low_fields k = fields_low k.fields

abbrev low_party : Clause → Bool
low_party k = leb k.party 8

either_mask : (b : Bool) (m o : ℕ) (l r : List ℕ) → Mask m l → Mask o r → Mask (pick b m o) (pick b l r)
unfolding pick
either_mask true m o l r j k = j
either_mask false m o l r j k = k

-- as SET, and not by the party q
set_mask : (s q : Bool) (m o : ℕ) (l r : List ℕ) → Mask m l → Mask o r → Mask (pick s (pick q m o) m) (pick (s && not q) r l)
unfolding pick
set_mask true true m o l r j k = j
set_mask true false m o l r j k = k
set_mask false q m o l r j k = j

field_mask_lem : (a : ℕ) (ks : List Clause) → every low_fields ks ≡ true → Mask (field_mask a ks) (fields_set (λ b. not (eqb b a)) ks)
unfolding field_mask fields_set
field_mask_lem a [] e = empty
field_mask_lem a (k ∷ ks) e =
    let rest : Mask (field_mask a ks) (fields_set (λ b. not (eqb b a)) ks) = field_mask_lem a ks (every_tail low_fields k ks e) in
    set_mask (is_set k.verb) (eqb k.party a) _ _ _ _ rest (all_more _ _ rest k.fields (every_head low_fields k ks e))

party_mask_lem : (v : Bool) (ks : List Clause) → every low_party ks ≡ true → Mask (party_mask v ks) (parties_of v ks)
unfolding party_mask parties_of
party_mask_lem true [] e = empty
party_mask_lem false [] e = empty
party_mask_lem true (k ∷ ks) e =
    let low : k.party ≤ 8 = leb-true k.party 8 (every_head low_party k ks e) in
    let rest : Mask (party_mask true ks) (parties_of true ks) = party_mask_lem true ks (every_tail low_party k ks e) in
    either_mask (is_set k.verb) _ _ _ _ (one_more _ _ rest k.party (omega arith)) rest
party_mask_lem false (k ∷ ks) e =
    let low : k.party ≤ 8 = leb-true k.party 8 (every_head low_party k ks e) in
    let rest : Mask (party_mask false ks) (parties_of false ks) = party_mask_lem false ks (every_tail low_party k ks e) in
    either_mask (is_set k.verb) _ _ _ _ rest (one_more _ _ rest k.party (omega arith))

-- no party has the number 63
set_by_all : (ks : List Clause) → every low_party ks ≡ true → fields_set (λ b. not (eqb b 63)) ks ≡ fields_set (λ b. true) ks
unfolding fields_set
set_by_all [] e = refl
set_by_all (k ∷ ks) e =
    let low : k.party ≤ 8 = leb-true k.party 8 (every_head low_party k ks e) in
    let other : eqb k.party 63 ≡ false = ne_eqb k.party 63 (λ q. absurd (omega arith)) in
    let rest : fields_set (λ b. not (eqb b 63)) ks ≡ fields_set (λ b. true) ks = set_by_all ks (every_tail low_party k ks e) in
    λ t. pick (is_set k.verb && not (other t)) (k.fields ++ rest t) (rest t)

-- ---- the rules

agrees_is : (ks : List Clause) (k : Clause) → every low_fields ks ≡ true → low_fields k ≡ true → agrees_by_mask ks k ≡ agrees_well ks k
unfolding agrees_by_mask agrees_well
agrees_is ks k e h =
    sym (or_pick (is_set k.verb) _)
    ∙ ap (λ (b : Bool). is_set k.verb || b)
    (part_is (with_all 0 k.fields) (field_mask k.party ks) k.fields (fields_set (λ a. not (eqb a k.party)) ks)
    (subst (Mask (with_all 0 k.fields)) (append-nil k.fields) (all_more 0 [] empty k.fields h)) (field_mask_lem k.party ks e) h)

every_same : {A : Type 0} (p q r : A → Bool) → ((x : A) → r x ≡ true → p x ≡ q x) → (l : List A) → every r l ≡ true → every p l ≡ every q l
unfolding every
every_same p q r h [] e = refl
every_same p q r h (x ∷ l) e =
    let here : p x ≡ q x = h x (every_head r x l e) in
    let rest : every p l ≡ every q l = every_same p q r h l (every_tail r x l e) in
    λ t. here t && rest t

all_same : (p q : ℕ → Bool) (n : ℕ) → ((a : ℕ) → a < n → p a ≡ q a) → all_below n p ≡ all_below n q
unfolding all_below
all_same p q zero h = refl
all_same p q (suc n) h =
    let here : p n ≡ q n = h n (omega arith) in
    let rest : all_below n p ≡ all_below n q = all_same p q n (λ a l. h a (omega arith)) in
    λ t. rest t && here t

-- over clauses alone
pub masks_are_rules : (n : ℕ) (ks : List Clause) → n ≤ 8 → Small ks → kept_by_masks n ks ≡ keeps_rules n ks
unfolding kept_by_masks keeps_rules
masks_are_rules n ks h s =
    let set-once : not (holds (field_mask 63 ks) 63) ≡ distinct (fields_set (λ a. true) ks) =
    twice_is _ _ (field_mask_lem 63 ks s.fields) ∙ ap distinct (set_by_all ks s.parties) in
    let agree : every (agrees_by_mask ks) ks ≡ every (agrees_well ks) ks =
    every_same (agrees_by_mask ks) (agrees_well ks) low_fields (λ k e. agrees_is ks k s.fields e) ks s.fields in
    let present : all_below n (holds (bit_or (party_mask true ks) (party_mask false ks)))
    ≡ all_below n (λ a. is_one_of (parties_of true ks) a || is_one_of (parties_of false ks) a) =
    all_same _ _ n (λ a l. has_clause a (omega arith)) in
    let sets : not (holds (party_mask true ks) 63) ≡ distinct (parties_of true ks) = twice_is _ _ (party_mask_lem true ks s.parties) in
    let oks : not (holds (party_mask false ks) 63) ≡ distinct (parties_of false ks) = twice_is _ _ (party_mask_lem false ks s.parties) in
    let room : true ≡ (leb (length ks) max_clauses && every (λ k. leb (length k.fields) max_fields) ks) =
    sym (both_true _ _ (le-leb (length ks) 16 s.few) s.short) in
    λ t. room t && (set-once t && (agree t && (present t && (sets t && oks t))))
  where
    has_clause : (a : ℕ) → a < 63
        → holds (bit_or (party_mask true ks) (party_mask false ks)) a ≡ (is_one_of (parties_of true ks) a || is_one_of (parties_of false ks) a)
    has_clause a l =
        let other : a ≡ 63 → ⊥ = λ q. absurd (omega arith) in
        holds_at _ a (omega arith)
        ∙ bit_or_lem (party_mask true ks) (party_mask false ks) a
        ∙ λ t. (party_mask_lem true ks s.parties).bits a other t || (party_mask_lem false ks s.parties).bits a other t

-- ---- the rows of a table

verb_read : (v : Verb) → pick (eqb (verb_word v) 0) set ok ≡ v
unfolding pick
verb_read set = refl
verb_read ok = refl

any_default : (l : List ℕ) (j d e : ℕ) → j < length l → get_or l j d ≡ get_or l j e
any_default [] j d e h = absurd (omega arith)
any_default (x ∷ l) zero d e h = refl
any_default (x ∷ l) (suc j) d e h = any_default l j d e (omega arith)

pub row_read : (w : List ℕ) (i : ℕ) (k : Clause) → Stands w (clauses_start + i * clause_words) (clause_row k) → row_of w i ≡ k
unfolding row_of clause_row padded
row_read w i k s =
    let party : clause_word w i 0 ≡ k.party = s.word 0 (omega arith) in
    let verb : clause_word w i 1 ≡ verb_word k.verb = s.word 1 (omega arith) in
    let count : clause_word w i 2 ≡ length k.fields = s.word 2 (omega arith) in
    let fields : each_from 0 (clause_word w i 2) (λ j. clause_word w i (3 + j)) ≡ k.fields =
    ap (λ (n : ℕ). each_from 0 n (λ j. clause_word w i (3 + j))) count ∙ each_is k.fields 0 (λ j. clause_word w i (3 + j)) field in
    λ t.
    record {
      party = party t;
      verb = (ap (λ (n : ℕ). pick (eqb n 0) set ok) verb ∙ verb_read k.verb) t;
      fields = fields t;
    }
  where
    own : Stands w (clauses_start + i * clause_words + 3) k.fields
    own =
        first_part k.fields (zeros (max_fields - length k.fields))
        (second_part (k.party ∷ verb_word k.verb ∷ length k.fields ∷ []) (padded max_fields k.fields) s)

    field : (j : ℕ) → j < length k.fields → (d : ℕ) → clause_word w i (3 + (0 + j)) ≡ get_or k.fields j d
    field j h d =
        let place : clauses_start + i * clause_words + (3 + (0 + j)) ≡ clauses_start + i * clause_words + 3 + j = omega arith in
        ap (λ (o : ℕ). get_or w o 0) place ∙ own.word j h ∙ any_default k.fields j 0 d h

abbrev short_fields : Clause → Bool
short_fields k = leb (length k.fields) 32

row_long : (k : Clause) → short_fields k ≡ true → length (clause_row k) ≡ clause_words
row_long k e = length_clause_row k (leb-true (length k.fields) 32 e)

pub rows_read : (w : List ℕ) (ks : List Clause) → every (λ k. leb (length k.fields) 32) ks ≡ true
    → Stands w clauses_start (joined clause_row ks) → rows_of w (length ks) ≡ ks
rows_read w ks e s =
    each_is ks 0 (row_of w) λ j h d.
    let here : 0 + j ≡ j = omega arith in
    ap (row_of w) here
    ∙ row_read w j (get_or ks j d) (joined_row clause_row short_fields clause_words row_long ks e s j h d)

-- where the rows of clauses stand in a table, the rules by masks over these rows are the rules
pub kept_where_rows_stand : (n : ℕ) (ks : List Clause) (w : List ℕ) → n ≤ 8 → Small ks
    → Stands w 5027 (joined clause_row ks) → kept_by_masks n (rows_of w (length ks)) ≡ keeps_rules n ks
kept_where_rows_stand n ks w h s r = ap (kept_by_masks n) (rows_read w ks s.short r) ∙ masks_are_rules n ks h s
