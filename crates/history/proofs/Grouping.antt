-- Weights by group: a unit counts one where it is of a group, and every block of a contract that fits respects them; each payout that it sends
-- is of a group. Assumes nothing.
use mathlib.Core.Path.{◌≡◌, refl, sym, ap, subst, ◌∙◌}
use mathlib.Core.Bool.{Bool, true, false, ◌&&◌, ◌||◌}
use mathlib.Core.List.{List, [], ◌∷◌, ◌++◌}
use Prim.Native.Nat.{ℕ, zero, suc, ◌+◌, ◌-◌, ◌*◌, ◌<◌, ◌≤◌, min}
use native.Mathlib.Omega.{arith}
use lib.ListN.{length, get_or}
use lib.Dec.{eqb, leb, ltb}
use lib.IntN.{ℤ}
use borrow.Author.Tests.{eqb-true, eq-eqb, ltb-true, ltb-false, lt-ltb, le-ltb, le-leb}
use Rattle.laws.specs.Choice.{pick}
use Rattle.laws.specs.Lists.{every}
use Rattle.laws.proofs.Choice.{pick_true, pick_false, true_false}
use Rattle.laws.proofs.Truths.{both_left, both_right, both_true, first_true, second_true}
use Rattle.laws.proofs.Members.{every_first, every_second}
use Rattle.contract.specs.Tree.{Holder, asset, asset_parameter, Action, assign, send, move, pay, move_all, pay_all, Block, none, perform, conditional, broken_block, Event, Function, Contract}
use Rattle.contract.specs.Fits.{Scope, scope_of, scope_in, expression_in, holder_in, condition_in, action_in, block_in, fits}
use Rattle.contract.proofs.Fitting.{fits_contract}
use Rattle.contract_laws.proofs.Members.{get_or_each}
use Rattle.contract_laws.proofs.Inversions.{by_test}
use Rattle.state.proofs.Decoded.{each_past}
use Rattle.state.specs.States.{no_function, no_event}
use Rattle.statements.specs.declared.Label.{Label}
use Rattle.statements.specs.Running.{place, receiver}
use Rattle.groups.specs.Groups.{Move, max_names, first_parameter, name_of, one_move, action_moves, block_moves, handler_moves, function_moves, moves, numbers_name, group_of, groups}
use Rattle.groups.specs.Chains.{joins, group_count, is_group}
use Rattle.groups.proofs.NamesAlone.{Named, holder_named, name_few}
use Rattle.groups.proofs.NameOrder.{names_in_order}
use Rattle.groups.proofs.Grouped.{grouped}
use Rattle.machine.specs.Steps.{place_groups}
use Rattle.history.specs.Histories.{deposits_to}
use Rattle.history.proofs.StatementsConserve.{PaysAlike, Keeps, Respects}

-- ---- moves, by what both ends have

-- both ends have the same
abbrev pub level : (ℕ → ℕ) → Move → Bool
level h m = eqb (h m.source) (h m.target)

pub every_level : (h : ℕ → ℕ) (ms : List Move) → ((a b : ℕ) → joins ms a b ≡ true → h a ≡ h b) → every (level h) ms ≡ true
unfolding every joins
every_level h [] f = refl
every_level h (m ∷ ms) f =
    both_true (level h m) (every (level h) ms)
    (eq-eqb _ _ (f m.source m.target (first_true (joins ms m.source m.target) (first_true _ (both_true _ _ (eq-eqb m.source m.source refl) (eq-eqb m.target m.target refl))))))
    (every_level h ms (λ a b j. f a b (second_true ((eqb m.source a && eqb m.target b) || (eqb m.source b && eqb m.target a)) j)))

-- of the functions from number i on, those of the n-th, and of its j-th handler
module _ (h : ℕ → ℕ) where
  handler_level : (first : ℕ) (es : List Event) → every (level h) (handler_moves first es) ≡ true → (j : ℕ) → every (level h) (block_moves first (get_or es j no_event).handler) ≡ true
  unfolding handler_moves block_moves every
  handler_level first [] e j = refl
  handler_level first (x ∷ es) e zero = every_first (level h) (block_moves first x.handler) (handler_moves first es) e
  handler_level first (x ∷ es) e (suc j) = handler_level first es (every_second (level h) (block_moves first x.handler) (handler_moves first es) e) j

  function_level : (i : ℕ) (fs : List Function) → every (level h) (function_moves i fs) ≡ true → (n : ℕ)
      → every (level h) (block_moves (first_parameter (i + n)) (get_or fs n no_function).body ++ handler_moves (first_parameter (i + n)) (get_or fs n no_function).events) ≡ true
  unfolding function_moves handler_moves block_moves every
  function_level i [] e n = refl
  function_level i (f ∷ fs) e zero =
      let z : i ≡ i + 0 = omega arith in
      subst (λ (m : ℕ). every (level h) (block_moves (first_parameter m) f.body ++ handler_moves (first_parameter m) f.events) ≡ true) z
      (every_first (level h) (block_moves (first_parameter i) f.body ++ handler_moves (first_parameter i) f.events) (function_moves (suc i) fs) e)
  function_level i (f ∷ fs) e (suc n) =
      let z : suc i + n ≡ i + suc n = omega arith in
      let g : Function = get_or fs n no_function in
      subst (λ (m : ℕ). every (level h) (block_moves (first_parameter m) g.body ++ handler_moves (first_parameter m) g.events) ≡ true) z
      (function_level (suc i) fs (every_second (level h) (block_moves (first_parameter i) f.body ++ handler_moves (first_parameter i) f.events) (function_moves (suc i) fs) e) n)

-- ---- the groups of a contract that fits

module _ (c : Contract) (t : fits c ≡ true) where
  no_name : (k : ℕ) → max_names ≤ k → numbers_name c k ≡ false
  no_name k h = by_test (numbers_name c k) (λ q. absurd (omega (arith, name_few c (fits_contract c t) k q))) (λ q. q)

  -- what the list of groups has for any number
  pub groups_are : (k : ℕ) → get_or (groups c) k 0 ≡ group_of c k
  groups_are k =
      by_test (ltb k max_names)
      (λ q. let z : 0 + k ≡ k = omega arith in get_or_each 0 max_names (group_of c) k 0 (ltb-true k max_names q) ∙ ap (group_of c) z)
      (λ q.
      let h : max_names ≤ k = ltb-false k max_names q in
      each_past 0 max_names (group_of c) k 0 h ∙ sym ((grouped c t).nameless k (no_name k h)))

  pub group_within : (k : ℕ) → numbers_name c k ≡ true → is_group c (group_of c k) ≡ true
  group_within k e =
      both_true (leb 1 (group_of c k)) (leb (group_of c k) (group_count c)) (le-leb 1 (group_of c k) ((grouped c t).from_one k e)) (le-leb (group_of c k) (group_count c) ((grouped c t).to_count k e))

  all_level : every (level (group_of c)) (moves c) ≡ true
  all_level = every_level (group_of c) (moves c) (grouped c t).both_ends

  pub body_level : (n : ℕ) → every (level (group_of c)) (block_moves (first_parameter n) (get_or c.functions n no_function).body) ≡ true
  body_level n =
      let z : 0 + n ≡ n = omega arith in
      let f : Function = get_or c.functions n no_function in
      every_first (level (group_of c)) (block_moves (first_parameter n) f.body) (handler_moves (first_parameter n) f.events)
      (subst (λ (m : ℕ). every (level (group_of c)) (block_moves (first_parameter m) f.body ++ handler_moves (first_parameter m) f.events) ≡ true) z (function_level (group_of c) 0 c.functions all_level n))

  pub handler_level_of : (n j : ℕ) → every (level (group_of c)) (block_moves (first_parameter n) (get_or (get_or c.functions n no_function).events j no_event).handler) ≡ true
  handler_level_of n j =
      let z : 0 + n ≡ n = omega arith in
      let f : Function = get_or c.functions n no_function in
      handler_level (group_of c) (first_parameter n) f.events
      (every_second (level (group_of c)) (block_moves (first_parameter n) f.body) (handler_moves (first_parameter n) f.events)
      (subst (λ (m : ℕ). every (level (group_of c)) (block_moves (first_parameter m) f.body ++ handler_moves (first_parameter m) f.events) ≡ true) z (function_level (group_of c) 0 c.functions all_level n))) j

-- ---- what clauses may name

module _ (c : Contract) (t : fits c ≡ true) (n : ℕ) where
  asset_named : (i : ℕ) → i < length c.assets → numbers_name c i ≡ true
  asset_named i h = (names_in_order c).assets i (omega (arith, (fits_contract c t).assets_few)) ∙ lt-ltb i (length c.assets) h

  module _ (h : length (get_or c.functions n no_function).parameters ≤ 4) where
    parameter_named : (j : ℕ) → j < length (get_or c.functions n no_function).parameters → numbers_name c (first_parameter n + j) ≡ true
    parameter_named j l = (names_in_order c).parameters n j (omega arith) ∙ lt-ltb j (length (get_or c.functions n no_function).parameters) l

    pub body_names : Named (numbers_name c) (scope_in c (get_or c.functions n no_function)) (first_parameter n)
    unfolding scope_of
    body_names = record { assets = asset_named; parameters = parameter_named }

    -- deposits go to names
    pub deposits_grouped : (j : ℕ) (zs : List ℤ) → j + length zs ≤ length (get_or c.functions n no_function).parameters
        → every (λ d. is_group c d.group) (deposits_to c n j zs) ≡ true
    unfolding every deposits_to
    deposits_grouped j [] l = refl
    deposits_grouped j (z ∷ zs) l =
        both_true (is_group c (group_of c (first_parameter n + j))) _ (group_within c t (first_parameter n + j) (parameter_named j (omega arith))) (deposits_grouped (suc j) zs (omega arith))

  pub handler_names : Named (numbers_name c) (scope_of c 0 0) (first_parameter n)
  unfolding scope_of
  handler_names = record { assets = asset_named; parameters = λ j l. absurd (omega arith) }

-- ---- weights

-- a unit of this group counts one, others none
abbrev pub of_group : ℕ → ℕ → ℕ
of_group k g = pick (eqb g k) 1 0

-- a label of a group
abbrev pub of_a_group : Contract → Label → Bool
of_a_group c l = is_group c l.group

abbrev pub by_label : ℕ → Label → ℕ
by_label k l = of_group k l.group

module _ (c : Contract) (k n : ℕ) where
  -- of places in function n
  abbrev pub by_place : ℕ → ℕ
  by_place i = of_group k (place_groups c n i)

  -- a holder's place has the group of its name
  module _ (t : fits c ≡ true) (s : Scope) (a : s.assets ≤ 16) (p : s.parameters ≤ 4) (m : Named (numbers_name c) s (first_parameter n)) where
    holder_group : (h : Holder) → holder_in s h ≡ true → place_groups c n (place h) ≡ group_of c (name_of (first_parameter n) h)
    unfolding holder_in
    holder_group (asset i) e =
        let l : i < s.assets = ltb-true _ _ e in
        let m : min i 20 ≡ i = omega arith in
        ap (λ (j : ℕ). place_groups c n j) m ∙ ap (λ (j : ℕ). get_or (groups c) j 0) (pick_true _ _ _ (lt-ltb i 16 (omega arith))) ∙ groups_are c t i
    holder_group (asset_parameter j) e =
        let l : j < s.parameters = ltb-true _ _ e in
        let m : min (16 + j) 20 ≡ 16 + j = omega arith in
        let d : first_parameter n + (16 + j - 16) ≡ first_parameter n + j = omega arith in
        ap (λ (i : ℕ). place_groups c n i) m
        ∙ ap (λ (i : ℕ). get_or (groups c) i 0) (pick_false _ _ _ (le-ltb (16 + j) 16 (omega arith)) ∙ d)
        ∙ groups_are c t (first_parameter n + j)

    pays_alike : (h : Holder) → holder_in s h ≡ true → (x : ℕ) → PaysAlike by_place (by_label k) (of_a_group c) (place_groups c n) (place h) x
    pays_alike h e x z =
        (refl, ap (is_group c) (holder_group h e) ∙ group_within c t (name_of (first_parameter n) h) (holder_named (numbers_name c) s (first_parameter n) m h e))

    moved_keeps : (h x : Holder) → holder_in s h && holder_in s x ≡ true → every (level (group_of c)) (one_move (first_parameter n) h x) ≡ true → by_place (place h) ≡ by_place (place x)
    unfolding every
    moved_keeps h x e q =
        let v : Move = record { source = name_of (first_parameter n) h; target = name_of (first_parameter n) x } in
        ap (of_group k)
        (holder_group h (both_left (holder_in s h) (holder_in s x) e)
        ∙ eqb-true _ _ (both_left (level (group_of c) v) true q)
        ∙ sym (holder_group x (both_right (holder_in s h) (holder_in s x) e)))

    action_keeps : (x : Action) → action_in s x ≡ true → every (level (group_of c)) (action_moves (first_parameter n) x) ≡ true → Keeps by_place (by_label k) (of_a_group c) (place_groups c n) x
    unfolding action_in action_moves every
    action_keeps (assign e x) i q = tt
    action_keeps (send e x) i q = tt
    action_keeps (move e h x) i q = moved_keeps h x (both_right (expression_in s e) (holder_in s h && holder_in s x) i) q
    action_keeps (pay e h x) i q =
        pays_alike h (both_left (holder_in s h) (ltb x s.parties) (both_right (expression_in s e) (holder_in s h && ltb x s.parties) i)) (receiver x)
    action_keeps (move_all h x) i q = moved_keeps h x i q
    action_keeps (pay_all h x) i q = pays_alike h (both_left (holder_in s h) (ltb x s.parties) i) (receiver x)

    pub block_respects : (b : Block) → block_in s b ≡ true → every (level (group_of c)) (block_moves (first_parameter n) b) ≡ true → Respects by_place (by_label k) (of_a_group c) (place_groups c n) b
    unfolding Respects block_in block_moves every
    block_respects none i q = tt
    block_respects (perform b x) i q =
        let g = level (group_of c) in (
          block_respects b (both_left (block_in s b) (action_in s x) i) (every_first g (block_moves (first_parameter n) b) (action_moves (first_parameter n) x) q),
          action_keeps x (both_right (block_in s b) (action_in s x) i) (every_second g (block_moves (first_parameter n) b) (action_moves (first_parameter n) x) q),
        )
    block_respects (conditional b u x) i q =
        let g = level (group_of c) in (
          block_respects b (both_left (block_in s b) (condition_in s u && block_in s x) i) (every_first g (block_moves (first_parameter n) b) (block_moves (first_parameter n) x) q),
          block_respects x (both_right (condition_in s u) (block_in s x) (both_right (block_in s b) (condition_in s u && block_in s x) i)) (every_second g (block_moves (first_parameter n) b) (block_moves (first_parameter n) x) q),
        )
    block_respects broken_block i q = true_false (sym i)
