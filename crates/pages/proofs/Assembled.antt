-- Lines of a page put together from their pieces. Assumes nothing.
use mathlib.Core.Path.{◌≡◌, refl, sym, ap, subst, ◌∙◌}
use mathlib.Core.Bool.{true, ◌||◌}
use mathlib.Core.List.{List, [], ◌∷◌, ◌++◌, append_assoc}
use Prim.Native.Nat.{ℕ, ◌+◌, ◌-◌, ◌/◌, ◌%◌, ◌≤◌}
use native.Mathlib.Omega.{arith}
use lib.ListN.{length, get_or, length-append}
use lib.IntN.{nat_abs}
use lib.Dec.{eqb}
use borrow.Author.Tests.{eqb-true, ne_eqb}
use Rattle.laws.specs.Bytes.{bytes}
use Rattle.laws.specs.Choice.{pick}
use Rattle.laws.proofs.Truths.{or_right}
use Rattle.words.specs.Words.{spelled, function, event_match, line_end}
use Rattle.contract.specs.Tree.{Contract}
use Rattle.printing.specs.Decimal.{decimal}
use Rattle.printing.specs.Pieces.{spaces}
use Rattle.printing.specs.Pieces.{Put}
use Rattle.printing.proofs.Puts.{Puts, kept, puts_same, put_of, same, then, part, piece}
use Rattle.results.specs.Lines.{rule_name}
use Rattle.pages.specs.Entries.{Entry}
use Rattle.pages.specs.Page.{right, left, line_of, blank_line, foot}
use Rattle.pages.specs.Private.{step_text, payee_text}

-- ---- room for a whole is room for its parts

pub room_first : (old : List ℕ) (at : ℕ) (u v : List ℕ) → at + length (u ++ v) ≤ length old → at + length u ≤ length old
room_first old at u v h = omega (arith, length-append u v)

pub room_next : {old mid : List ℕ} {at m : ℕ} (u v : List ℕ) → at + length (u ++ v) ≤ length old → Put old at u m mid → m + length v ≤ length mid
room_next u v h p = omega (arith, length-append u v, p.place, kept p)

-- ---- columns

-- a word has room in its column
pub left_room : {s : Type 0} {old mid : List ℕ} {at m : ℕ} (n : ℕ) (word : List ℕ) → at + length (left n word) ≤ length old → Puts old at word m mid s → Put old at word m mid
unfolding left
left_room n word h p = put_of word p (room_first _ _ word (spaces (n - length word)) h)

module _ {old mid new : List ℕ} {at m end : ℕ} {s1 s2 : Type 0} where
  -- so many spaces before a number
  pub right_piece : (k : ℕ) {d g : ℕ} → at + length (right 19 (decimal k)) ≤ length old → d ≡ length (decimal k) → g ≡ 19 - d → Puts old at (spaces g) m mid s1
      → Puts mid m (decimal k) end new s2 → Put old at (right 19 (decimal k)) end new
  unfolding right
  right_piece k {d} {g} h e f p q =
      let s : g ≡ 19 - length (decimal k) = f ∙ ap (λ (x : ℕ). 19 - x) e in
      piece (spaces (19 - length (decimal k))) h (puts_same _ _ (ap spaces s) p) λ h. put_of (decimal k) q h

  -- a word, and so many spaces after it
  pub left_piece : (n : ℕ) (word : List ℕ) {g : ℕ} → at + length (left n word) ≤ length old → Puts old at word m mid s1 → g ≡ n - (m - at) → Puts mid m (spaces g) end new s2
      → Put old at (left n word) end new
  unfolding left
  left_piece n word {g} h p f q =
      let one = left_room n word h p in
      let s : g ≡ n - length word = omega (arith, f, one.place) in
      part h one λ h. put_of (spaces (n - length word)) (puts_same _ _ (ap spaces s) q) h

  -- the same by the word's length
  pub word_piece : (n : ℕ) (word : List ℕ) {d g : ℕ} → at + length (left n word) ≤ length old → Puts old at word m mid s1 → d ≡ length word → g ≡ n - d
      → Puts mid m (spaces g) end new s2 → Put old at (left n word) end new
  unfolding left
  word_piece n word {d} {g} h p e f q =
      let s : g ≡ n - length word = f ∙ ap (λ (x : ℕ). n - x) e in
      part h (left_room n word h p) λ h. put_of (spaces (n - length word)) (puts_same _ _ (ap spaces s) q) h

-- ---- the name of a call's rule, and of a firing's

pub call_name : {rule : ℕ} → rule ≡ 1 → spelled function ≡ rule_name rule
unfolding rule_name pick
call_name e = ap rule_name (sym e)

pub firing_name : {rule : ℕ} → (eqb rule 1 || eqb rule 2) ≡ true → (rule ≡ 1 → ⊥) → spelled event_match ≡ rule_name rule
unfolding rule_name pick
firing_name {rule} r d =
    let e : rule ≡ 2 = eqb-true rule 2 (or_right (eqb rule 1) (eqb rule 2) (ne_eqb rule 1 d) r) in
    ap rule_name (sym e)

-- ---- the two halves of a line

module _ {s2 : Type 0} {old l1 l2 : List ℕ} {at a1 a2 : ℕ} (a b c d : List ℕ) (h : at + length (a ++ (b ++ (c ++ d))) ≤ length old) (p : Put old at a a1 l1) (q : Puts l1 a1 b a2 l2 s2) where
  -- room for the third of four pieces
  pub third_room : a2 + length c ≤ length l2
  third_room =
      let r = room_next a (b ++ (c ++ d)) h p in
      room_first _ _ c d (room_next b (c ++ d) r (put_of b q (room_first _ _ b (c ++ d) r)))

  -- all four
  pub four_pieces : {s1 : Type 0} {l3 new : List ℕ} {a3 end : ℕ} → Put l2 a2 c a3 l3 → Puts l3 a3 d end new s1 → Put old at (a ++ (b ++ (c ++ d))) end new
  four_pieces r s = part h p λ h. piece b h q λ h. part h r λ h. put_of d s h

-- both halves are the line
halves : (a b c d e f g h : List ℕ) → (a ++ (b ++ (c ++ d))) ++ (e ++ (f ++ (g ++ h))) ≡ a ++ (b ++ (c ++ (d ++ (e ++ (f ++ (g ++ h))))))
halves a b c d e f g h = simp append_assoc

module _ (c : Contract) (e : Entry) where
  line_halves : {amount : ℕ} → amount ≡ nat_abs e.value → step_text e.clock e.rule ++ payee_text c e.party amount ≡ line_of c e
  unfolding line_of
  line_halves {amount} d =
      ap (λ (k : ℕ). step_text e.clock e.rule ++ payee_text c e.party k) d
      ∙ halves (right 19 (decimal e.clock)) (bytes " ") (left 11 (rule_name e.rule)) (bytes " ") (left 32 (get_or c.parties e.party [])) (bytes " ") (right 19 (decimal (nat_abs e.value)))
      (spelled line_end)

  pub step_room : (old : List ℕ) (at : ℕ) → at + length (line_of c e) ≤ length old → at + length (step_text e.clock e.rule) ≤ length old
  step_room old at r =
      room_first _ _ (step_text e.clock e.rule) (payee_text c e.party (nat_abs e.value)) (subst (λ (k : List ℕ). at + length k ≤ length old) (sym (line_halves refl)) r)

  module _ {old mid : List ℕ} {at m : ℕ} {amount : ℕ} (d : amount ≡ nat_abs e.value) where
    pub payee_room : at + length (line_of c e) ≤ length old → Put old at (step_text e.clock e.rule) m mid → m + length (payee_text c e.party amount) ≤ length mid
    payee_room r p = room_next (step_text e.clock e.rule) (payee_text c e.party amount) (subst (λ (k : List ℕ). at + length k ≤ length old) (sym (line_halves d)) r) p

    pub whole_line : {new : List ℕ} {end : ℕ} → Put old at (step_text e.clock e.rule) m mid → Put mid m (payee_text c e.party amount) end new → Put old at (line_of c e) end new
    whole_line p q = same (line_halves d) (then p q)

-- ---- lines without a payout

module _ {old mid new : List ℕ} {at m end : ℕ} where
  pub blank_line_lem : {s1 s2 : Type 0} → at + 85 ≤ length old → Puts old at (spaces 84) m mid s1 → Puts mid m (bytes "\n") end new s2 → Put old at blank_line end new
  unfolding spelled
  blank_line_lem h p q = piece (spaces 84) h p λ h. put_of (bytes "\n") q h

  pub foot_line : {s1 s2 s3 s4 : Type 0} (k : ℕ) {l2 l3 : List ℕ} {a2 a3 : ℕ} → at + 85 ≤ length old → Puts old at (spaces 82) m mid s1 → Puts mid m ((48 + k / 10) ∷ []) a2 l2 s2 → Puts l2 a2 ((48 + k % 10) ∷ []) a3 l3 s3
      → Puts l3 a3 (bytes "\n") end new s4 → Put old at (foot k) end new
  unfolding foot spelled
  foot_line k {l2} {l3} h p q r s =
      piece (spaces 82) h p λ h. piece ((48 + k / 10) ∷ []) h q λ h. piece ((48 + k % 10) ∷ []) h r λ h. put_of (bytes "\n") s h
