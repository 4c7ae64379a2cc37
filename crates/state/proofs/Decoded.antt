-- What a table's contract has of each: as many as the head says, and at each number what the row there says. Assumes nothing.
use mathlib.Core.Path.{◌≡◌, refl, ap, ◌∙◌}
use mathlib.Core.List.{List}
use Prim.Native.Nat.{ℕ, zero, suc, ◌+◌, ◌*◌, ◌<◌, ◌≤◌}
use native.Mathlib.Omega.{arith}
use lib.ListN.{length, get_or, get_or-eq_default}
use Rattle.contract.specs.Table.{word_at, function_word, event_word}
use Rattle.contract.specs.Tree.{Function, Event}
use Rattle.contract.specs.Decode.{each_from, event_at, function_at, contract_of}
use Rattle.state.specs.States.{no_function, no_event, event_of}
use Rattle.state.specs.declared.Pending.{Pending}

-- ---- f i, f (i + 1), .. n of them
module _ {A : Type 0} where
  pub each_length : (i n : ℕ) (f : ℕ → A) → length (each_from i n f) ≡ n
  unfolding each_from
  each_length i zero f = refl
  each_length i (suc n) f = ap suc (each_length (suc i) n f)

  pub each_at : (i n : ℕ) (f : ℕ → A) (j : ℕ) (d : A) → j < n → get_or (each_from i n f) j d ≡ f (i + j)
  unfolding each_from
  each_at i zero f j d h = absurd (omega arith)
  each_at i (suc n) f zero d h = let e : i ≡ i + 0 = omega arith in ap f e
  each_at i (suc n) f (suc j) d h =
      let e : suc i + j ≡ i + suc j = omega arith in
      each_at (suc i) n f j d (omega arith) ∙ ap f e

  pub each_past : (i n : ℕ) (f : ℕ → A) (j : ℕ) (d : A) → n ≤ j → get_or (each_from i n f) j d ≡ d
  each_past i n f j d h =
      let l : length (each_from i n f) ≤ j = omega (arith, each_length i n f) in
      get_or-eq_default (each_from i n f) d l

-- ---- the contract of a table
module _ (w : List ℕ) where
  pub assets_count : length (contract_of w).assets ≡ word_at w 1
  unfolding contract_of
  assets_count = each_length 0 (word_at w 1) _

  pub fields_count : length (contract_of w).fields ≡ word_at w 2
  unfolding contract_of
  fields_count = each_length 0 (word_at w 2) _

  pub states_count : length (contract_of w).states ≡ word_at w 3
  unfolding contract_of
  states_count = each_length 0 (word_at w 3) _

  pub strings_count : length (contract_of w).strings ≡ word_at w 4
  unfolding contract_of
  strings_count = each_length 0 (word_at w 4) _

  pub clauses_count : length (contract_of w).clauses ≡ word_at w 5
  unfolding contract_of
  clauses_count = each_length 0 (word_at w 5) _

  pub functions_count : length (contract_of w).functions ≡ word_at w 6
  unfolding contract_of
  functions_count = each_length 0 (word_at w 6) _

  pub function_of : (f : ℕ) → f < word_at w 6 → get_or (contract_of w).functions f no_function ≡ function_at w f
  unfolding contract_of
  function_of f h = let e : 0 + f ≡ f = omega arith in each_at 0 (word_at w 6) (function_at w) f no_function h ∙ ap (function_at w) e

  pub function_past : (f : ℕ) → word_at w 6 ≤ f → get_or (contract_of w).functions f no_function ≡ no_function
  unfolding contract_of
  function_past f h = each_past 0 (word_at w 6) (function_at w) f no_function h

  pub events_of : (f : ℕ) → f < word_at w 6 → (get_or (contract_of w).functions f no_function).events ≡ each_from (function_word w f 8) (function_word w f 9) (event_at w)
  unfolding function_at
  events_of f h = ap (λ (g : Function). g.events) (function_of f h)

  pub events_count : (f : ℕ) → f < word_at w 6 → length (get_or (contract_of w).functions f no_function).events ≡ function_word w f 9
  events_count f h = ap length (events_of f h) ∙ each_length (function_word w f 8) (function_word w f 9) (event_at w)

  -- ---- a pending event
  pub event_of_lem : (p : Pending) → p.function < word_at w 6 → p.event < function_word w p.function 9 → event_of (contract_of w) p ≡ event_at w (function_word w p.function 8 + p.event)
  unfolding event_of
  event_of_lem p h k =
      ap (λ (l : List Event). get_or l p.event no_event) (events_of p.function h)
      ∙ each_at (function_word w p.function 8) (function_word w p.function 9) (event_at w) p.event no_event k

  -- of no function
  pub event_unfounded : (p : Pending) → word_at w 6 ≤ p.function → event_of (contract_of w) p ≡ no_event
  unfolding event_of
  event_unfounded p h = ap (λ (g : Function). get_or g.events p.event no_event) (function_past p.function h)

  -- of a function that has fewer
  pub event_past : (p : Pending) → p.function < word_at w 6 → function_word w p.function 9 ≤ p.event → event_of (contract_of w) p ≡ no_event
  unfolding event_of
  event_past p h k =
      ap (λ (l : List Event). get_or l p.event no_event) (events_of p.function h)
      ∙ each_past (function_word w p.function 8) (function_word w p.function 9) (event_at w) p.event no_event k

  pub event_state_of : (p : Pending) → p.function < word_at w 6 → p.event < function_word w p.function 9 → (event_of (contract_of w) p).state ≡ event_word w (function_word w p.function 8 + p.event) 0
  unfolding event_at
  event_state_of p h k = ap (λ (e : Event). e.state) (event_of_lem p h k)

  -- a row past the table's end holds zeros
  pub event_word_past : (i j : ℕ) → length w ≤ i → event_word w i j ≡ 0
  event_word_past i j h =
      let l : length w ≤ 8339 + i * 3 + j = omega arith in
      get_or-eq_default w 0 l
