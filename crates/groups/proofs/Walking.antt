-- What the code joins at each node, in each function, and in the whole. Assumes nothing.
use mathlib.Core.Path.{◌≡◌, refl, sym, ap, ◌∙◌}
use mathlib.Core.Bool.{true, false}
use mathlib.Core.List.{List, [], ◌∷◌, ◌++◌}
use mathlib.Core.Logic.{◌≢◌}
use Prim.Native.Nat.{ℕ, zero, suc, ◌+◌, ◌-◌, ◌<◌, ◌≤◌, min}
use native.Mathlib.Omega.{arith}
use lib.ListN.{length, get_or}
use lib.Dec.{eqb}
use borrow.Author.Tests.{eq-eqb, ne_eqb, le-leb}
use Rattle.laws.proofs.Choice.{pick_true, pick_false, by_cases}
use Rattle.contract.specs.Tree.{Action, Block, none, broken_block, Event, Function}
use Rattle.contract.specs.Table.{word_at, kind_at, argument_at, function_word}
use Rattle.contract.specs.Rows.{node_of, event_row_of, function_row_of}
use Rattle.contract.specs.declared.Node.{Node}
use Rattle.contract.specs.declared.Event as rows
use Rattle.contract.specs.declared.Function as functions
use Rattle.contract.specs.Decode.{each_from, holder_of, holder_at, expression_at, value_move_at, asset_move_at, whole_move_at, block_between, event_at, function_at, contract_of}
use Rattle.contract.specs.Check.{passes}
use Rattle.contract.proofs.Passed.{function_passed}
use Rattle.contract_laws.proofs.Levels.{block_step}
use Rattle.contract_laws.proofs.Sound.{passed}
use Rattle.state.proofs.Rows.{row_at_most}
use Rattle.statements.specs.Blocks.{statement_at, end_before, action_at}
use Rattle.statements.proofs.Blocks.{broken, action_last, conditional_last, from_first, to_last, not_within}
use Rattle.groups.specs.Groups.{Move, one_move, name_of, first_parameter, action_moves, block_moves, handler_moves, moves_in, function_moves, moves, apart, merged, with_move, with_moves}

all_append : (firsts : List ℕ) (a b : List Move) → with_moves firsts (a ++ b) ≡ with_moves (with_moves firsts a) b
unfolding with_moves
all_append firsts [] b = refl
all_append firsts (m ∷ a) b = all_append (with_move firsts m) a b

-- ---- the statement at node k, not a conditional

module _ (w : List ℕ) (start k : ℕ) where
  value_quiet : kind_at w k ≡ 24 → action_moves start (action_at w k) ≡ []
  unfolding action_at value_move_at action_moves
  value_quiet e =
      ap (action_moves start) (pick_true _ _ _ (eq-eqb (kind_at w k) 24 e))
      ∙ by_cases (λ (a : Action). action_moves start a ≡ []) (eqb (kind_at w (k - 1)) 23) _ _ (λ _. refl) (λ _. refl)

  party_quiet : kind_at w k ≢ 24 → kind_at w (k - 1) ≡ 23 → action_moves start (action_at w k) ≡ []
  unfolding action_at asset_move_at whole_move_at action_moves
  party_quiet n e =
      ap (action_moves start) (pick_false _ _ _ (ne_eqb (kind_at w k) 24 n))
      ∙ by_cases (λ (a : Action). action_moves start a ≡ []) (eqb (kind_at w k) 25) _ _
      (λ _. ap (action_moves start) (pick_true _ _ _ (eq-eqb (kind_at w (k - 1)) 23 e)))
      (λ _. ap (action_moves start) (pick_true _ _ _ (eq-eqb (kind_at w (k - 1)) 23 e)))

  holders_move : kind_at w k ≢ 24 → kind_at w (k - 1) ≢ 23 → action_moves start (action_at w k) ≡ one_move start (holder_at w (k - 2)) (holder_at w (k - 1))
  unfolding action_at asset_move_at whole_move_at action_moves
  holders_move n e =
      ap (action_moves start) (pick_false _ _ _ (ne_eqb (kind_at w k) 24 n))
      ∙ by_cases (λ (a : Action). action_moves start a ≡ one_move start (holder_at w (k - 2)) (holder_at w (k - 1))) (eqb (kind_at w k) 25) _ _
      (λ _. ap (action_moves start) (pick_false _ _ _ (ne_eqb (kind_at w (k - 1)) 23 e)))
      (λ _. ap (action_moves start) (pick_false _ _ _ (ne_eqb (kind_at w (k - 1)) 23 e)))

module _ (firsts w : List ℕ) (start k : ℕ) (node : Node) (en : node ≡ node_of w k) where
  pub act_value : node.kind ≡ 24 → firsts ≡ with_moves firsts (action_moves start (action_at w k))
  unfolding with_moves
  act_value e = sym (ap (with_moves firsts) (value_quiet w start k (sym (ap (λ (x : Node). x.kind) en) ∙ e)))

  module _ (ne : node.kind ≢ 24) (i : ℕ) (ei : i ≡ k - 1) (target : Node) (et : target ≡ node_of w i) where
    other : kind_at w k ≢ 24
    other q = ne (ap (λ (x : Node). x.kind) en ∙ q)

    target_is : target ≡ node_of w (k - 1)
    target_is = et ∙ ap (node_of w) ei

    pub act_party : target.kind ≡ 23 → firsts ≡ with_moves firsts (action_moves start (action_at w k))
    unfolding with_moves
    act_party e = sym (ap (with_moves firsts) (party_quiet w start k other (sym (ap (λ (x : Node). x.kind) target_is) ∙ e)))

    pub act_holders : target.kind ≢ 23 → (j : ℕ) → j ≡ k - 2 → (source : Node) → source ≡ node_of w j → (a b : ℕ)
        → a ≡ get_or firsts (name_of start (holder_of source.kind source.argument)) 0
        → b ≡ get_or firsts (name_of start (holder_of target.kind target.argument)) 0
        → {after : List ℕ} → after ≡ merged firsts a b → after ≡ with_moves firsts (action_moves start (action_at w k))
    unfolding with_moves
    act_holders nt j ej source es a b ea eb m =
        let named : Node → ℕ = λ x. get_or firsts (name_of start (holder_of x.kind x.argument)) 0 in
        let p : a ≡ named (node_of w (k - 2)) = ea ∙ ap named (es ∙ ap (node_of w) ej) in
        let q : b ≡ named (node_of w (k - 1)) = eb ∙ ap named target_is in
        m ∙ (λ t. merged firsts (p t) (q t))
        ∙ sym (ap (with_moves firsts) (holders_move w start k other (λ e. nt (ap (λ (x : Node). x.kind) target_is ∙ e))))

-- ---- a block

module _ (firsts w : List ℕ) (start from end : ℕ) where
  abbrev all : List ℕ → Block → List ℕ
  all f b = with_moves f (block_moves start b)

  pub walk_none : end ≤ from → firsts ≡ all firsts (block_between w from end)
  unfolding with_moves block_moves
  walk_none h =
      sym (ap (all firsts) (block_step w from end ∙ pick_true _ _ _ (le-leb end from h))
      ∙ by_cases (λ (b : Block). all firsts b ≡ firsts) (eqb end from) none broken_block (λ _. refl) (λ _. refl))

  module _ (h : from < end) where
    pub walk_broken : statement_at w (end - 1) ≡ false → firsts ≡ all firsts (block_between w from end)
    unfolding with_moves block_moves
    walk_broken e =
        sym (ap (all firsts)
        (broken w from end h
        (not_within w (end - 1) 24 e (omega arith) (omega arith))
        (not_within w (end - 1) 25 e (omega arith) (omega arith))
        (not_within w (end - 1) 26 e (omega arith) (omega arith))
        (not_within w (end - 1) 27 e (omega arith) (omega arith))))

    module _ (s : statement_at w (end - 1) ≡ true) (j : ℕ) (ej : j ≡ end_before w (end - 1)) {before : List ℕ} (eb : before ≡ all firsts (block_between w from j))
        (node : Node) (en : node ≡ node_of w (end - 1)) where
      kind_is : node.kind ≡ kind_at w (end - 1)
      kind_is = ap (λ (x : Node). x.kind) en

      before_is : before ≡ all firsts (block_between w from (end_before w (end - 1)))
      before_is = eb ∙ ap (λ (n : ℕ). all firsts (block_between w from n)) ej

      pub walk_conditional : node.kind ≡ 27 → (i : ℕ) → i ≡ end - 1 - node.argument → {after : List ℕ} → after ≡ all before (block_between w i (end - 1))
          → after ≡ all firsts (block_between w from end)
      unfolding block_moves
      walk_conditional e i ei p =
          let inner : i ≡ end - 1 - argument_at w (end - 1) = ei ∙ ap (λ (x : Node). end - 1 - x.argument) en in
          p ∙ (λ t. all (before_is t) (block_between w (inner t) (end - 1)))
          ∙ sym (all_append firsts (block_moves start (block_between w from (end_before w (end - 1)))) (block_moves start (block_between w (end - 1 - argument_at w (end - 1)) (end - 1))))
          ∙ sym (ap (all firsts) (conditional_last w from end h (sym kind_is ∙ e)))

      pub walk_action : node.kind ≢ 27 → {after : List ℕ} → after ≡ with_moves before (action_moves start (action_at w (end - 1)))
          → after ≡ all firsts (block_between w from end)
      unfolding block_moves
      walk_action n p =
          let l : 24 ≤ kind_at w (end - 1) = from_first w (end - 1) s in
          let u : kind_at w (end - 1) ≤ 27 = to_last w (end - 1) s in
          let ne : kind_at w (end - 1) ≢ 27 = λ q. n (kind_is ∙ q) in
          p ∙ ap (λ (f : List ℕ). with_moves f (action_moves start (action_at w (end - 1)))) before_is
          ∙ sym (all_append firsts (block_moves start (block_between w from (end_before w (end - 1)))) (action_moves start (action_at w (end - 1))))
          ∙ sym (ap (all firsts) (action_last w from end h l (omega arith)))

-- ---- handlers

-- an event by its row
abbrev of_row : List ℕ → rows.Event → Event
of_row w r =
    record {
      guard = expression_at w (r.node - argument_at w r.node - 1);
      state = r.state;
      handler = block_between w (r.node - argument_at w r.node) r.node;
      last = r.last;
    }

row_event : (w : List ℕ) (i : ℕ) → event_at w i ≡ of_row w (event_row_of w i)
unfolding event_at
row_event w i = refl

event_at_most : (w : List ℕ) (i : ℕ) → length w ≤ 18446744073709551615 → event_at w (min i 18446744073709551615) ≡ event_at w i
event_at_most w i h = row_event w (min i 18446744073709551615) ∙ ap (of_row w) (row_at_most w i h) ∙ sym (row_event w i)

module _ {A : Type 0} (f : ℕ → A) where
  each_next : (i n : ℕ) → 0 < n → each_from i n f ≡ f i ∷ each_from (i + 1) (n - 1) f
  unfolding each_from
  each_next i zero h = absurd (omega arith)
  each_next i (suc n) h =
      let a : suc i ≡ i + 1 = omega arith in
      let b : n ≡ suc n - 1 = omega arith in
      (λ t. f i ∷ each_from (a t) (b t) f)

  each_left : (i n k : ℕ) → k < n → each_from (i + k) (n - k) f ≡ f (i + k) ∷ each_from (i + (k + 1)) (n - (k + 1)) f
  each_left i n k h =
      let a : i + k + 1 ≡ i + (k + 1) = omega arith in
      let b : n - k - 1 ≡ n - (k + 1) = omega arith in
      each_next (i + k) (n - k) (omega arith) ∙ (λ t. f (i + k) ∷ each_from (a t) (b t) f)

  each_none : (i n k : ℕ) → n ≤ k → each_from (i + k) (n - k) f ≡ []
  unfolding each_from
  each_none i n k h = let z : n - k ≡ 0 = omega arith in ap (λ (m : ℕ). each_from (i + k) m f) z

  each_all : (i n : ℕ) → each_from (i + 0) (n - 0) f ≡ each_from i n f
  each_all i n = let a : i + 0 ≡ i = omega arith in let b : n - 0 ≡ n = omega arith in (λ t. each_from (a t) (b t) f)

module _ (w : List ℕ) (start event count : ℕ) where
  -- with the handlers from number i on
  abbrev pub handlers_left : List ℕ → ℕ → List ℕ
  handlers_left firsts i = with_moves firsts (handler_moves start (each_from (event + i) (count - i) (event_at w)))

  pub handlers_first : (firsts : List ℕ) → handlers_left firsts 0 ≡ with_moves firsts (handler_moves start (each_from event count (event_at w)))
  handlers_first firsts = ap (λ (es : List Event). with_moves firsts (handler_moves start es)) (each_all (event_at w) event count)

  pub handlers_more : (firsts : List ℕ) (i : ℕ) → i < count → (j : ℕ) → j ≡ min (event + i) 18446744073709551615 → length w ≤ 18446744073709551615 → {after : List ℕ}
      → after ≡ with_moves firsts (block_moves start (event_at w j).handler) → handlers_left after (i + 1) ≡ handlers_left firsts i
  unfolding handler_moves
  handlers_more firsts i h j ej l p =
      let rest = handler_moves start (each_from (event + (i + 1)) (count - (i + 1)) (event_at w)) in
      let e : event_at w j ≡ event_at w (event + i) = ap (event_at w) ej ∙ event_at_most w (event + i) l in
      ap (λ (f : List ℕ). with_moves f rest) (p ∙ ap (λ (x : Event). with_moves firsts (block_moves start x.handler)) e)
      ∙ sym (all_append firsts (block_moves start (event_at w (event + i)).handler) rest)
      ∙ sym (ap (λ (es : List Event). with_moves firsts (handler_moves start es)) (each_left (event_at w) event count i h))

  pub handlers_done : (firsts : List ℕ) (i : ℕ) → count ≤ i → firsts ≡ handlers_left firsts i
  unfolding handler_moves with_moves
  handlers_done firsts i h = sym (ap (λ (es : List Event). with_moves firsts (handler_moves start es)) (each_none (event_at w) event count i h))

-- ---- a function

module _ (w : List ℕ) (n : ℕ) (row : functions.Function) (er : row ≡ function_row_of w n) where
  -- its body and its events, by its row
  abbrev body_in : functions.Function → Block
  body_in r = block_between w (r.first + r.precondition) (r.first + r.precondition + r.body)

  abbrev events_in : functions.Function → List Event
  events_in r = each_from r.event r.events (event_at w)

  body_is : body_in row ≡ (function_at w n).body
  unfolding function_at
  body_is = ap body_in er

  events_are : events_in row ≡ (function_at w n).events
  unfolding function_at
  events_are = ap events_in er

  pub walk_both : (firsts : List ℕ) → {f : List ℕ} → f ≡ with_moves firsts (block_moves (first_parameter n) (body_in row)) → {g : List ℕ} → g ≡ with_moves f (handler_moves (first_parameter n) (events_in row))
      → g ≡ with_moves firsts (moves_in n (function_at w n))
  walk_both firsts p q =
      q ∙ (λ t. with_moves (p t) (handler_moves (first_parameter n) (events_in row)))
      ∙ sym (all_append firsts (block_moves (first_parameter n) (body_in row)) (handler_moves (first_parameter n) (events_in row)))
      ∙ (λ t. with_moves firsts (block_moves (first_parameter n) (body_is t) ++ handler_moves (first_parameter n) (events_are t)))

-- ---- all functions

module _ (w : List ℕ) where
  -- with the functions from number n on
  abbrev pub functions_left : List ℕ → ℕ → List ℕ
  functions_left firsts n = with_moves firsts (function_moves n (each_from (0 + n) (word_at w 6 - n) (function_at w)))

  pub functions_first : functions_left apart 0 ≡ with_moves apart (moves (contract_of w))
  unfolding contract_of
  functions_first = ap (λ (fs : List Function). with_moves apart (function_moves 0 fs)) (each_all (function_at w) 0 (word_at w 6))

  pub functions_more : (firsts : List ℕ) (n : ℕ) → n < word_at w 6 → {after : List ℕ} → after ≡ with_moves firsts (moves_in n (function_at w n)) → functions_left after (n + 1) ≡ functions_left firsts n
  unfolding function_moves
  functions_more firsts n h p =
      let rest = each_from (0 + (n + 1)) (word_at w 6 - (n + 1)) (function_at w) in
      let z : 0 + n ≡ n = omega arith in
      let s : n + 1 ≡ suc n = omega arith in
      (λ t. with_moves (p t) (function_moves (s t) rest))
      ∙ sym (all_append firsts (moves_in n (function_at w n)) (function_moves (suc n) rest))
      ∙ sym (ap (λ (fs : List Function). with_moves firsts (function_moves n fs)) (each_left (function_at w) 0 (word_at w 6) n h ∙ ap (λ (m : ℕ). function_at w m ∷ rest) z))

  pub functions_done : (firsts : List ℕ) (n : ℕ) → word_at w 6 ≤ n → firsts ≡ functions_left firsts n
  unfolding function_moves with_moves
  functions_done firsts n h = sym (ap (λ (fs : List Function). with_moves firsts (function_moves n fs)) (each_none (function_at w) 0 (word_at w 6) n h))

-- ---- what passing says of function n

pub record Placed (w : List ℕ) (n : ℕ) : Type 0 where
  pub number : n < 64
  pub nodes : function_word w n 5 + function_word w n 6 + function_word w n 7 ≤ 4096

pub placed : (w : List ℕ) → passes w ≡ true → (n : ℕ) → n < word_at w 6 → Placed w n
placed w e n h =
    let p = passed w e in
    let f = function_passed w n (p.functions n h) in
    record { number = omega (arith, p.head.functions); nodes = omega (arith, f.nodes.room, p.head.nodes) }

pub row_nodes : (w : List ℕ) (n : ℕ) (row : functions.Function) → row ≡ function_row_of w n → Placed w n → row.first + row.precondition + row.body ≤ 4096
row_nodes w n row e p = let q : row.first + row.precondition + row.body ≡ function_word w n 5 + function_word w n 6 + function_word w n 7 = ap (λ (r : functions.Function). r.first + r.precondition + r.body) e in omega (arith, p.nodes)
