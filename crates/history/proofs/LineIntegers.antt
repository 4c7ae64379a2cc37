-- The integers that a session line says are within 64 bits, so that the steps of a session have 64-bit arguments; a line that is refused
-- has a number that question 53 lets pass. Assumes nothing.
use mathlib.Core.Path.{◌≡◌, refl}
use mathlib.Core.Bool.{Bool, true}
use mathlib.Core.List.{List, [], ◌∷◌}
use Prim.Native.Nat.{ℕ, zero, suc}
use lib.ListN.{length}
use lib.IntN.{ℤ, neg_ℤ}
use Rattle.laws.specs.Bytes.{bytes}
use Rattle.laws.proofs.Choice.{by_cases}
use Rattle.numbers.specs.Numbers.{within}
use Rattle.contract.specs.Check.{ranges}
use Rattle.laws.proofs.Truths.{both_left, both_right, both_true}
use Rattle.laws.specs.Lists.{every}
use Rattle.words.specs.Words.{tick as tickWord}
use Rattle.lines.specs.Lines.{Field, Part, Lists, Asked, refused, tick, jump, call, agreement, Parsed, done, no, Parser, and_then, otherwise, is_next, mark, end, name, digits, integer, word, items, list, closed, jump_end, tick_line, names, lists, call_line, verb, field, part, parts, agreement_line, or_refused, asked}
use Rattle.lines.specs.Answers.{values_of}
use Rattle.results.specs.Lines.{refusal}
use Rattle.tokens.specs.Tokens.{between}
use Rattle.contract.specs.Tree.{Contract}
use Rattle.state.specs.declared.State.{State}
use Rattle.std.specs.Prelude.{Option, Some, None}
use Rattle.state.specs.States.{due_in}
use Rattle.agreements.specs.Agreement as machine
use Rattle.machine.specs.Sessions.{parts_said, Said, asks, unread, said_by, end_of_line, Turn, takes, wait, turn_by_due, turn_at}
use Rattle.history.specs.Histories.{within64}
use Rattle.questions.specs.Numbers.{number_of}

-- what a parser reads, if it does, has this
abbrev Reads : {A : Type 0} → (A → Type 0) → Parsed A → Type 0
Reads P (done a n) = P a
Reads P no = Unit {0}

reads_then : {A B : Type 0} (P : A → Type 0) (Q : B → Type 0) (r : Parsed A) (f : A → Parser B) → Reads P r → ((a : A) (n : ℕ) → P a → Reads Q (f a n)) → Reads Q (and_then r f)
reads_then P Q (done a n) f g h = h a n g
reads_then P Q no f g h = tt

reads_after : {A B : Type 0} (Q : B → Type 0) (r : Parsed A) (f : A → Parser B) → ((a : A) (n : ℕ) → Reads Q (f a n)) → Reads Q (and_then r f)
reads_after Q (done a n) f h = h a n
reads_after Q no f h = tt

reads_otherwise : {A : Type 0} (P : A → Type 0) (r q : Parsed A) → Reads P r → Reads P q → Reads P (otherwise r q)
reads_otherwise P (done a n) q g h = g
reads_otherwise P no q g h = h

-- ---- lines

abbrev ListsIn : Lists → Type 0
ListsIn l = (every within l.values ≡ true) × (every within l.assets ≡ true)

abbrev part_in : Part → Bool
part_in p = every within (values_of p.fields)

abbrev LineIn : Asked → Type 0
LineIn (refused q) = refusal (number_of q) ≡ true
LineIn tick = Unit {0}
LineIn (jump T) = within T ≡ true
LineIn (call k) = ListsIn k.lists
LineIn (agreement ps) = every part_in ps ≡ true

fields_in : (fs : List Field) → every (λ f. within f.value) fs ≡ true → every within (values_of fs) ≡ true
unfolding every values_of
fields_in [] e = refl
fields_in (f ∷ fs) e =
    both_true (within f.value) (every within (values_of fs)) (both_left (within f.value) (every (λ f. within f.value) fs) e)
    (fields_in fs (both_right (within f.value) (every (λ f. within f.value) fs) e))

-- the same of the parts in the machine's terms
parts_in : (line : List ℕ) (ps : List Part) → every part_in ps ≡ true → every (λ (p : machine.Part). every within p.values) (parts_said line ps) ≡ true
unfolding every parts_said
parts_in line [] e = refl
parts_in line (p ∷ ps) e =
    both_true (part_in p) (every (λ (p : machine.Part). every within p.values) (parts_said line ps)) (both_left (part_in p) (every part_in ps) e)
    (parts_in line ps (both_right (part_in p) (every part_in ps) e))

module _ (s : List ℕ) where
  abbrev Whole : ℤ → Type 0
  Whole z = within z ≡ true

  digits_in : (sign : ℤ → ℤ) (i : ℕ) → Reads Whole (digits s sign i)
  unfolding digits
  digits_in sign i = by_cases (Reads Whole) _ _ _ (λ _. by_cases (Reads Whole) _ _ _ (λ h. h) (λ _. tt)) (λ _. tt)

  integer_in : (at : ℕ) → Reads Whole (integer s at)
  unfolding integer
  integer_in at = by_cases (Reads Whole) _ _ _ (λ _. digits_in neg_ℤ _) (λ _. digits_in (λ z. z) _)

  -- a list of items that pass a test
  module _ {A : Type 0} (p : A → Bool) (item : Parser A) (each : (at : ℕ) → Reads (λ x. p x ≡ true) (item at)) where
    abbrev Each : List A → Type 0
    Each xs = every p xs ≡ true

    items_in : (separator : List ℕ) (close : Parser Unit) (f at : ℕ) → Reads Each (items s item separator close f at)
    unfolding items every
    items_in separator close zero at = tt
    items_in separator close (suc f) at =
        reads_then (λ x. p x ≡ true) Each (item at) _ (each at) λ x k h.
        by_cases (Reads Each) (is_next s separator k) _ _
        (λ _. reads_after Each (mark s separator k) _ λ u m.
        reads_then Each Each (items s item separator close f m) _ (items_in separator close f m) λ xs n q. both_true (p x) (every p xs) h q)
        (λ _. reads_after Each (close k) _ λ u n. both_true (p x) true h refl)

    list_in : (opening closing : List ℕ) (at : ℕ) → Reads Each (list s opening item closing at)
    unfolding list every
    list_in opening closing at =
        reads_after Each (mark s opening at) _ λ u i.
        by_cases (Reads Each) (is_next s closing i) _ _ (λ _. reads_after Each (mark s closing i) _ λ v n. refl) (λ _. items_in (bytes ",") (mark s closing) (length s) i)

  closed_in : (a : Asked) → LineIn a → (at : ℕ) → Reads LineIn (closed s a at)
  unfolding closed
  closed_in a h at =
      reads_after LineIn (mark s (bytes "]") at) _ λ c k.
      reads_after LineIn (end s k) _ λ d l. h

  tick_in : (at : ℕ) → Reads LineIn (tick_line s at)
  unfolding tick_line jump_end
  tick_in at =
      reads_after LineIn (mark s (bytes "[") at) _ λ a i.
      reads_after LineIn (word s tickWord i) _ λ b j.
      by_cases (Reads LineIn) (is_next s (bytes "]") j) _ _ (λ _. closed_in tick tt j)
      (λ _. reads_then Whole LineIn (integer s j) _ (integer_in j) λ z k h. closed_in (jump z) h k)

  lists_in : (at : ℕ) → Reads ListsIn (lists s at)
  unfolding lists
  lists_in at =
      reads_then (λ zs. every within zs ≡ true) ListsIn (list s (bytes "(") (integer s) (bytes ")") at) _ (list_in within (integer s) integer_in (bytes "(") (bytes ")") at) λ vs i v.
      reads_then (λ zs. every within zs ≡ true) ListsIn (list s (bytes "[") (integer s) (bytes "]") i) _ (list_in within (integer s) integer_in (bytes "[") (bytes "]") i) λ hs j h.
      reads_after ListsIn (end s j) _ λ u n. (v, h)

  call_in : (at : ℕ) → Reads LineIn (call_line s at)
  unfolding call_line
  call_in at =
      reads_after LineIn (names s at) _ λ n i.
      reads_then ListsIn LineIn (lists s i) _ (lists_in i) λ l j h. h

  field_in : (at : ℕ) → Reads (λ (f : Field). within f.value ≡ true) (field s at)
  unfolding field
  field_in at =
      let P : Field → Type 0 = λ f. within f.value ≡ true in
      reads_after P (name s at) _ λ n i.
      reads_after P (mark s (bytes "|->") i) _ λ u j.
      reads_then Whole P (integer s j) _ (integer_in j) λ z k h. h

  part_in_lem : (at : ℕ) → Reads (λ (p : Part). part_in p ≡ true) (part s at)
  unfolding part
  part_in_lem at =
      let P : Part → Type 0 = λ p. part_in p ≡ true in
      reads_after P (name s at) _ λ n i.
      reads_after P (verb s i) _ λ v j.
      reads_then (λ fs. every (λ (f : Field). within f.value) fs ≡ true) P (list s (bytes "[") (field s) (bytes "]") j) _
      (list_in (λ (f : Field). within f.value) (field s) field_in (bytes "[") (bytes "]") j) λ fs k h. fields_in fs h

  agreement_in : (at : ℕ) → Reads LineIn (agreement_line s at)
  unfolding agreement_line parts
  agreement_in at =
      reads_then (λ ps. every part_in ps ≡ true) LineIn (parts s at) _ (items_in part_in (part s) part_in_lem (bytes "||") (end s) (length s) at) λ ps n h. h

or_refused_lem : (r : Parsed Asked) → Reads LineIn r → LineIn (or_refused r)
unfolding refusal ranges
or_refused_lem (done a n) h = h
or_refused_lem no h = refl

asked_in : (line : List ℕ) → LineIn (asked line)
unfolding asked refusal ranges
asked_in line =
    let rest : Parsed Asked = otherwise (call_line line 0) (agreement_line line 0) in
    by_cases LineIn _ _ _
    (λ _. or_refused_lem (otherwise (tick_line line 0) rest)
    (reads_otherwise LineIn (tick_line line 0) rest (tick_in line 0) (reads_otherwise LineIn (call_line line 0) (agreement_line line 0) (call_in line 0) (agreement_in line 0))))
    (λ _. refl)

-- ---- what is said

-- a request with 64-bit arguments, or a refusal
abbrev pub SaidIn : Said → Type 0
SaidIn (asks q) = within64 q ≡ true
SaidIn (unread q) = refusal (number_of q) ≡ true

said_by_in : (line : List ℕ) (a : Asked) → LineIn a → SaidIn (said_by line a)
unfolding within64
said_by_in line (refused q) h = h
said_by_in line tick h = refl
said_by_in line (jump T) h = h
said_by_in line (call k) h = both_true _ _ h.0 h.1
said_by_in line (agreement ps) h = parts_in line ps h

-- whatever a turn takes up
abbrev pub TurnIn : Turn → Type 0
TurnIn wait = Unit {0}
TurnIn (takes x at) = SaidIn x

pub due_in_lem : (bytes : List ℕ) (at : ℕ) (d : Option ℕ) → TurnIn (turn_by_due bytes at d)
unfolding within64
due_in_lem bytes at (Some k) = refl
due_in_lem bytes at None =
    let line = between bytes at (end_of_line bytes at) in
    by_cases TurnIn _ _ _ (λ _. said_by_in line (asked line) (asked_in line)) (λ _. tt)

pub turn_in : (c : Contract) (bytes : List ℕ) (s : State) (at : ℕ) → TurnIn (turn_at c bytes s at)
unfolding turn_at
turn_in c bytes s at = due_in_lem bytes at (due_in c s)
