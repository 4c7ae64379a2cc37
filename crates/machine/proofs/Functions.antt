-- Functions of a table that passes: where they stand, and which is called. Assumes nothing.
use mathlib.Core.Path.{◌≡◌, refl, sym, ap, ◌∙◌}
use mathlib.Core.Bool.{true, false, ◌&&◌}
use mathlib.Core.List.{List, [], ◌∷◌}
use Prim.Native.Nat.{ℕ, zero, suc, ◌+◌, ◌-◌, ◌*◌, ◌<◌, ◌≤◌}
use native.Mathlib.Omega.{arith}
use lib.ListN.{length, get_or}
use borrow.Author.Tests.{eq-eqb, ne_eqb}
use Rattle.laws.specs.Choice.{pick}
use Rattle.laws.specs.Bytes.{same_bytes}
use Rattle.contract.specs.Tree.{Contract, Function}
use Rattle.contract.specs.Table.{word_at, function_word, functions_start, function_words, parties_start, name_words}
use Rattle.contract.specs.Rows.{function_row_of}
use Rattle.contract.specs.declared.Function as rows
use Rattle.contract.specs.Decode.{each_from, word_of, precondition_at, block_between, event_at, function_at, contract_of}
use Rattle.contract.specs.Check.{passes}
use Rattle.contract.proofs.Passed.{function_passed}
use Rattle.contract_laws.proofs.Sound.{passed, values_count, parameters_count}
use Rattle.state.specs.declared.State.{State}
use Rattle.state.specs.States.{no_event}
use Rattle.state.proofs.Decoded.{each_length, each_at}
use Rattle.agreements.proofs.Clauses.{party_name}
use Rattle.std.specs.Prelude.{Some, None, Option}
use Rattle.std.specs.Option.{MatchOption}
use Rattle.machine.specs.Steps.{Invocation, Chosen, chosen, unknown, choose, answers_to}
use Rattle.machine.specs.Private.{naming, in_state, FoundIn}

-- ---- what passing says of function i
pub record Placed (w : List ℕ) (i : ℕ) : Type 0 where
  pub number : i < 64
  pub party : function_word w i 1 < word_at w 0
  pub parties : word_at w 0 ≤ 8
  pub nodes : function_word w i 5 + function_word w i 6 + function_word w i 7 ≤ 4096
  pub events : function_word w i 9 ≤ 64

pub placed : (w : List ℕ) → passes w ≡ true → (i : ℕ) → i < word_at w 6 → Placed w i
placed w e i h =
    let p = passed w e in
    let f = function_passed w i (p.functions i h) in
    record {
      number = omega (arith, p.head.functions);
      party = f.party;
      parties = p.head.parties;
      nodes = omega (arith, f.nodes.room, p.head.nodes);
      events = f.nodes.few;
    }

-- ---- whether a function is called
module _ (w : List ℕ) (i q : ℕ) (a b : List ℕ) where
  pub other_state : (function_word w i 0 ≡ q → ⊥) → false ≡ answers_to (contract_of w) (in_state q) (naming a b) (function_at w i)
  unfolding answers_to function_at
  other_state n = sym (rw (ne_eqb (function_word w i 0) q n))

  module _ (h : function_word w i 1 < word_at w 0) (e : function_word w i 0 ≡ q) where
    named : answers_to (contract_of w) (in_state q) (naming a b) (function_at w i) ≡ (same_bytes a (word_of w (parties_start + function_word w i 1 * name_words)) && same_bytes b (word_of w (functions_start + i * function_words + 10)))
    unfolding answers_to function_at
    named =
        rw (eq-eqb (function_word w i 0) q e)
        (λ j. same_bytes a (party_name w (function_word w i 1) h j) && same_bytes b (word_of w (functions_start + i * function_words + 10)))

    pub other_party : same_bytes a (word_of w (parties_start + function_word w i 1 * name_words)) ≡ false → false ≡ answers_to (contract_of w) (in_state q) (naming a b) (function_at w i)
    other_party n = sym (named ∙ rw n)

    pub same_party : same_bytes a (word_of w (parties_start + function_word w i 1 * name_words)) ≡ true → same_bytes b (word_of w (functions_start + i * function_words + 10)) ≡ answers_to (contract_of w) (in_state q) (naming a b) (function_at w i)
    same_party n = sym (named ∙ rw n)

-- ---- the first function that is called, turn by turn
module _ (c : Contract) (q : State) (m : Invocation) (f : ℕ → Function) (n i : ℕ) where
  choose_at : i < n → choose c q m i (each_from i (n - i) f) ≡ pick (answers_to c q m (f i)) (chosen i (f i)) (choose c q m (i + 1) (each_from (i + 1) (n - (i + 1)) f))
  unfolding choose each_from
  choose_at h =
      let e : n - i ≡ suc (n - (i + 1)) = omega arith in
      let d : suc i ≡ i + 1 = omega arith in
      ap (λ (k : ℕ). choose c q m i (each_from i k f)) e
      ∙ ap (λ (k : ℕ). pick (answers_to c q m (f i)) (chosen i (f i)) (choose c q m k (each_from k (n - (i + 1)) f))) d

  choose_hit : i < n → answers_to c q m (f i) ≡ true → choose c q m i (each_from i (n - i) f) ≡ chosen i (f i)
  unfolding pick
  choose_hit h e = choose_at h ∙ rw e

  choose_miss : i < n → answers_to c q m (f i) ≡ false → choose c q m i (each_from i (n - i) f) ≡ choose c q m (i + 1) (each_from (i + 1) (n - (i + 1)) f)
  unfolding pick
  choose_miss h e = choose_at h ∙ rw e

  choose_end : n ≤ i → choose c q m i (each_from i (n - i) f) ≡ unknown
  unfolding choose each_from
  choose_end h =
      let e : n - i ≡ 0 = omega arith in
      ap (λ (k : ℕ). choose c q m i (each_from i k f)) e

-- from number i on
abbrev onward : List ℕ → ℕ → Invocation → ℕ → Chosen
onward w q m i = choose (contract_of w) (in_state q) m i (each_from i (word_at w 6 - i) (function_at w))

onward_first : (w : List ℕ) (q : ℕ) (m : Invocation) → choose (contract_of w) (in_state q) m 0 (contract_of w).functions ≡ onward w q m 0
unfolding contract_of
onward_first w q m =
    let e : word_at w 6 ≡ word_at w 6 - 0 = omega arith in
    ap (λ (k : ℕ). choose (contract_of w) (in_state q) m 0 (each_from 0 k (function_at w))) e

module _ (w : List ℕ) (q : ℕ) (m : Invocation) (i : ℕ) (e : choose (contract_of w) (in_state q) m 0 (contract_of w).functions ≡ onward w q m i) where
  found_here : i < word_at w 6 → answers_to (contract_of w) (in_state q) m (function_at w i) ≡ true → FoundIn w q m (Some i)
  found_here h t =
      record {
        same = e ∙ choose_hit (contract_of w) (in_state q) m (function_at w) (word_at w 6) i h t;
        within = λ n r. let d : i ≡ n = cc in omega arith;
      }

  found_none : word_at w 6 ≤ i → FoundIn w q m None
  found_none h =
      record {
        same = e ∙ choose_end (contract_of w) (in_state q) m (function_at w) (word_at w 6) i h;
        within = λ n r. let z : ◌≡◌ {A = ℕ} 0 1 = cc in absurd (omega arith);
      }

-- none of the first i functions is called
none_before : (w : List ℕ) (q : ℕ) (m : Invocation) (i : ℕ) → i ≤ word_at w 6 → ((k : ℕ) → 0 ≤ k → k < i → answers_to (contract_of w) (in_state q) m (function_at w k) ≡ false)
    → choose (contract_of w) (in_state q) m 0 (contract_of w).functions ≡ onward w q m i
none_before w q m zero h n = onward_first w q m
none_before w q m (suc i) h n =
    let d : i + 1 ≡ suc i = omega arith in
    none_before w q m i (omega arith) (λ k a b. n k a (omega arith))
    ∙ choose_miss (contract_of w) (in_state q) m (function_at w) (word_at w 6) i (omega arith) (n i (omega arith) (omega arith))
    ∙ ap (onward w q m) d

pub found_first : (w : List ℕ) (q : ℕ) (m : Invocation) (n : ℕ) (r : Option ℕ) → n ≡ word_at w 6
    → MatchOption r ((k : ℕ) → 0 ≤ k → k < n → answers_to (contract_of w) (in_state q) m (function_at w k) ≡ false) (λ i. (0 ≤ i) × (i < n) × (answers_to (contract_of w) (in_state q) m (function_at w i) ≡ true) × ((k : ℕ) → 0 ≤ k → k < i → answers_to (contract_of w) (in_state q) m (function_at w k) ≡ false))
    → FoundIn w q m r
found_first w q m n None e h = found_none w q m n (none_before w q m n (omega arith) h) (omega arith)
found_first w q m n (Some i) e h = found_here w q m i (none_before w q m i (omega (arith, h.1)) h.3) (omega (arith, h.1)) h.2

-- the arguments of a call, and all of a state but its state, do not matter for which function is called
pub choose_named : (c : Contract) (s : State) (m : Invocation) (n : ℕ) (fs : List Function) → choose c s m n fs ≡ choose c (in_state s.state) (naming m.caller m.function) n fs
unfolding choose answers_to
choose_named c s m n [] = refl
choose_named c s m n (f ∷ fs) = ap (pick (answers_to c s m f) (chosen n f)) (choose_named c s m (suc n) fs)

-- ---- a function's row, and what stands there
module _ (w : List ℕ) (n : ℕ) (row : rows.Function) (r : row ≡ function_row_of w n) where
  pub row_values : row.values ≡ length (function_at w n).values
  row_values = ap (λ (x : rows.Function). x.values) r ∙ sym (values_count w n)

  pub row_parameters : row.parameters ≡ length (function_at w n).parameters
  row_parameters = ap (λ (x : rows.Function). x.parameters) r ∙ sym (parameters_count w n)

  pub row_last : row.last ≡ (function_at w n).last
  unfolding function_at
  row_last = ap (λ (x : rows.Function). x.last) r

  pub row_precondition : precondition_at w row.first row.precondition ≡ (function_at w n).precondition
  unfolding function_at
  row_precondition = ap (λ (x : rows.Function). precondition_at w x.first x.precondition) r

  pub row_body : block_between w (row.first + row.precondition) (row.first + row.precondition + row.body) ≡ (function_at w n).body
  unfolding function_at
  row_body = ap (λ (x : rows.Function). block_between w (x.first + x.precondition) (x.first + x.precondition + x.body)) r

  pub row_nodes : Placed w n → row.first + row.precondition + row.body ≤ 4096
  row_nodes p = omega (arith, p.nodes, ap (λ (x : rows.Function). x.first) r, ap (λ (x : rows.Function). x.precondition) r, ap (λ (x : rows.Function). x.body) r)

  pub row_events : Placed w n → row.events ≤ 64
  row_events p = omega (arith, p.events, ap (λ (x : rows.Function). x.events) r)

  pub events_count : length (function_at w n).events ≡ row.events
  unfolding function_at
  events_count = each_length (function_word w n 8) (function_word w n 9) (event_at w) ∙ sym (ap (λ (x : rows.Function). x.events) r)

  pub event_here : (j : ℕ) → j < row.events → get_or (function_at w n).events j no_event ≡ event_at w (row.event + j)
  unfolding function_at
  event_here j h =
      let k : j < function_word w n 9 = omega (arith, ap (λ (x : rows.Function). x.events) r) in
      each_at (function_word w n 8) (function_word w n 9) (event_at w) j no_event k ∙ ap (λ (x : rows.Function). event_at w (x.event + j)) (sym r)
