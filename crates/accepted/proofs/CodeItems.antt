-- The items of well sorted code: right words, no declared name, as many nodes, statements and events as the resolved code has.
-- Assumes nothing.
use mathlib.Core.Path.{◌≡◌, refl, sym, ap, ◌∙◌}
use mathlib.Core.Bool.{Bool, true, false, ◌&&◌}
use mathlib.Core.List.{List, [], ◌∷◌, ◌++◌}
use Prim.Native.Nat.{ℕ, suc, ◌+◌}
use native.Mathlib.Omega.{arith}
use lib.ListN.{length}
use lib.Dec.{eqb, ltb}
use Rattle.laws.specs.Choice.{pick}
use Rattle.laws.proofs.Choice.{by_cases, true_false, pick_false}
use Rattle.words.specs.Words.{and_mark, or_mark}
use Rattle.contract.specs.Tree as tree
use Rattle.contract.specs.Tree.{Word}
use Rattle.contract.specs.Sizes.{expression_size, condition_size, action_size, block_size, precondition_size, event_size, events_size, function_size, statements}
use Rattle.contract.specs.Fits.{is_string, total}
use Rattle.laws.proofs.Members.{every_append}
use Rattle.laws.proofs.Truths.{both_left, both_right, both_true}
use Rattle.laws.specs.Lists.{every}
use Rattle.reading.specs.Syntax.{Span, Term, named, numeral, quoted, fixed, negated, operated, Action, sends, moves, moves_all, Block, none, perform, conditional, Event, Precondition, omitted, given, Function}
use Rattle.reading.specs.Grammar.{is_one_of, comparisons}
use Rattle.reading.specs.Items.{Item, declares, mentions, uses, counts, opens, heads, closes, Site, in_function, in_handler, of_each, declared, state_item, value_kinds, asset_kinds, name_items, term_items, action_items, block_items, event_items, precondition_items, function_items}
use Rattle.reading.specs.Items as kind
use Rattle.reading.specs.Rules.{word, is_among}
use Rattle.reading.specs.Resolve.{Names, within, each_of, comparison_of, holder_of, name_of, send_of, move_of, move_all_of, expression_of, condition_of, action_of, block_of, precondition_of, event_of, function_of}
use Rattle.accepted.proofs.Known.{plain, right_item}
use Rattle.accepted.proofs.Counts.{tally, heads_in, goes_on, tally_append, heads_append}
use Rattle.reading.proofs.TokenKinds.{Each}
use Rattle.reading.proofs.Mapped.{length_each}
use Rattle.accepted.proofs.Sorted.{arithmetic, is_expression, is_condition, is_action, is_block, is_named, is_event, is_precondition, FunctionSorted}

value_kinds_lem : (c : Site) → every (λ k. ltb k 7) (value_kinds c) ≡ true
unfolding every
value_kinds_lem in_function = refl
value_kinds_lem in_handler = refl

asset_kinds_lem : (c : Site) → every (λ k. ltb k 7) (asset_kinds c) ≡ true
unfolding every
asset_kinds_lem in_function = refl
asset_kinds_lem in_handler = refl

party_asset_kinds : (c : Site) → every (λ k. ltb k 7) (kind.party ∷ asset_kinds c) ≡ true
unfolding every
party_asset_kinds in_function = refl
party_asset_kinds in_handler = refl

party_field_kinds : every (λ k. ltb k 7) (kind.party ∷ kind.field ∷ []) ≡ true
unfolding every
party_field_kinds = refl

pub name_size : (n : Names) (w : Word) → expression_size (name_of n w) ≡ 1
unfolding expression_size
name_size n w =
    by_cases (λ e. expression_size e ≡ 1) (is_among w n.fields) _ _ (λ _. refl)
    (λ _. by_cases (λ e. expression_size e ≡ 1) (is_among w n.values) _ _ (λ _. refl) (λ _. refl))

pub plain_heads : (is : List Item) → every plain is ≡ true → heads_in is ≡ 0
unfolding every heads_in
plain_heads [] e = refl
plain_heads (declares j x ∷ is) e = true_false (sym e)
plain_heads (mentions j x p ∷ is) e = plain_heads is (both_right (ltb 4 j && ltb j 7) (every plain is) e)
plain_heads (uses ks x ∷ is) e = plain_heads is (both_right (every (λ k. ltb k 7) ks) (every plain is) e)
plain_heads (counts j p ∷ is) e = plain_heads is e
plain_heads (opens ∷ is) e = plain_heads is e
plain_heads (heads p q a f ∷ is) e = true_false (sym e)
plain_heads (closes p cs ∷ is) e = true_false (sym e)

pub declared_tally : (j k : ℕ) (xs : List Span) → tally j (declared k xs) ≡ 0
unfolding of_each tally
declared_tally j k [] = refl
declared_tally j k (x ∷ xs) = declared_tally j k xs

pub declared_heads : (k : ℕ) (xs : List Span) → heads_in (declared k xs) ≡ 0
unfolding of_each heads_in
declared_heads k [] = refl
declared_heads k (x ∷ xs) = declared_heads k xs

-- the items of a function after its parameters
abbrev pub code_items : Function → List Item
code_items f =
    precondition_items f.precondition
    ++ (opens
    ∷ (block_items in_function f.body.statements
    ++ (of_each event_items f.body.events ++ (state_item f.last ∷ []))))

function_tally : (j : ℕ) (f : Function) → tally j (function_items f) ≡ tally j (code_items f)
unfolding function_items tally
function_tally j f =
    let zs = declared kind.value f.values in
    let ys = declared kind.parameter f.parameters in
    let a : tally j (zs ++ (ys ++ code_items f)) ≡ tally j zs + tally j (ys ++ code_items f) = tally_append j zs (ys ++ code_items f) in
    let b : tally j (ys ++ code_items f) ≡ tally j ys + tally j (code_items f) = tally_append j ys (code_items f) in
    let c : tally j zs ≡ 0 = declared_tally j kind.value f.values in
    let d : tally j ys ≡ 0 = declared_tally j kind.parameter f.parameters in
    let e : tally j (zs ++ (ys ++ code_items f)) ≡ tally j (code_items f) = omega arith in
    e

module _ (s : List ℕ) where
  -- items of code with n nodes, t statements and no event
  pub record Of (is : List Item) (n t : ℕ) : Type 0 where
    pub right : every (right_item s) is ≡ true
    pub plains : every plain is ≡ true
    pub steady : every (goes_on kind.statement) is ≡ true
    pub nodes : tally kind.node is ≡ n
    pub statement : tally kind.statement is ≡ t
    pub events : tally kind.event is ≡ 0

  of_append : {xs ys : List Item} {n m t u : ℕ} → Of xs n t → Of ys m u → Of (xs ++ ys) (n + m) (t + u)
  of_append {xs} {ys} {n} {m} {t} {u} a b =
      let x = a.nodes in let y = b.nodes in let v = a.statement in let w = b.statement in let i = a.events in let j = b.events in
      record {
        right = every_append (right_item s) xs ys a.right b.right;
        plains = every_append plain xs ys a.plains b.plains;
        steady = every_append (goes_on kind.statement) xs ys a.steady b.steady;
        nodes = tally_append kind.node xs ys ∙ (let e : tally kind.node xs + tally kind.node ys ≡ n + m = omega arith in e);
        statement = tally_append kind.statement xs ys ∙ (let e : tally kind.statement xs + tally kind.statement ys ≡ t + u = omega arith in e);
        events = tally_append kind.event xs ys ∙ (let e : tally kind.event xs + tally kind.event ys ≡ 0 = omega arith in e);
      }

  of_is : {is : List Item} {n m t u : ℕ} → Of is n t → n ≡ m → t ≡ u → Of is m u
  of_is a p q = record { right = a.right; plains = a.plains; steady = a.steady; nodes = a.nodes ∙ p; statement = a.statement ∙ q; events = a.events }

  of_none : Of [] 0 0
  unfolding every tally
  of_none = record { right = refl; plains = refl; steady = refl; nodes = refl; statement = refl; events = refl }

  of_node : (p : ℕ) → Of (counts kind.node p ∷ []) 1 0
  unfolding every tally pick
  of_node p = record { right = refl; plains = refl; steady = refl; nodes = refl; statement = refl; events = refl }

  of_statement : (p : ℕ) → Of (counts kind.statement p ∷ []) 0 1
  unfolding every tally pick
  of_statement p = record { right = refl; plains = refl; steady = refl; nodes = refl; statement = refl; events = refl }

  of_use : (ks : List ℕ) (x : Span) → every (λ k. ltb k 7) ks ≡ true → Of (uses ks x ∷ []) 0 0
  unfolding every tally pick
  of_use ks x e = record { right = refl; plains = both_true _ _ e refl; steady = refl; nodes = refl; statement = refl; events = refl }

  of_string : (x : Span) (p : ℕ) → is_string (word s x) ≡ true → Of (mentions kind.string x p ∷ []) 0 0
  unfolding every tally pick
  of_string x p e = record { right = both_true _ _ e refl; plains = refl; steady = refl; nodes = refl; statement = refl; events = refl }

  of_state : (x : Span) → is_named s x ≡ true → Of (state_item x ∷ []) 0 0
  unfolding every tally pick
  of_state x e = record { right = both_true _ _ e refl; plains = refl; steady = refl; nodes = refl; statement = refl; events = refl }

  of_name : (ks : List ℕ) (x : Span) → every (λ k. ltb k 7) ks ≡ true → Of (name_items ks x) 1 0
  of_name ks x e = of_append (of_node x.start) (of_use ks x e)

  pub expression_of_lem : (c : Site) (n : Names) (t : Term) → is_expression s t ≡ true → Of (term_items c t) (expression_size (expression_of s n t)) 0
  unfolding is_expression term_items expression_of expression_size
  expression_of_lem c n (named x) e = of_is (of_name (value_kinds c) x (value_kinds_lem c)) (sym (name_size n (word s x))) refl
  expression_of_lem c n (numeral v p) e = of_node p
  expression_of_lem c n (quoted x p) e = of_append (of_node p) (of_string x p e)
  expression_of_lem c n (fixed k p) e = of_is (of_node p) (by_cases (λ a. 1 ≡ expression_size a) (eqb k 4) tree.clock tree.broken_expression (λ _. refl) (λ _. refl)) refl
  expression_of_lem c n (negated p t) e = true_false (sym e)
  expression_of_lem c n (operated k p t u) e =
      let f = both_right (is_one_of arithmetic k) (is_expression s t && is_expression s u) e in
      of_is
      (of_append (expression_of_lem c n t (both_left (is_expression s t) (is_expression s u) f))
      (of_append (of_node p) (expression_of_lem c n u (both_right (is_expression s t) (is_expression s u) f))))
      (omega arith) refl

  pub condition_of_lem : (c : Site) (n : Names) (t : Term) → is_condition s t ≡ true → Of (term_items c t) (condition_size (condition_of s n t)) 0
  unfolding is_condition term_items condition_of condition_size pick
  condition_of_lem c n (named x) e = true_false (sym e)
  condition_of_lem c n (numeral v p) e = true_false (sym e)
  condition_of_lem c n (quoted x p) e = true_false (sym e)
  condition_of_lem c n (fixed k p) e = of_node p
  condition_of_lem c n (negated p t) e = of_is (of_append (of_node p) (condition_of_lem c n t e)) (omega arith) refl
  condition_of_lem c n (operated k p t u) e = go (eqb k or_mark) (eqb k and_mark) e (condition_of_lem c n t) (condition_of_lem c n u)
    where
      join : {a b : ℕ} → Of (term_items c t) a 0 → Of (term_items c u) b 0 → Of (term_items c t ++ (counts kind.node p ∷ term_items c u)) (a + b + 1) 0
      join x y = of_is (of_append x (of_append (of_node p) y)) (omega arith) refl

      go :
          (x y : Bool) → pick x (is_condition s t && is_condition s u) (pick y (is_condition s t && is_condition s u) (is_one_of comparisons k && (is_expression s t && is_expression s u))) ≡ true
          → (is_condition s t ≡ true → Of (term_items c t) (condition_size (condition_of s n t)) 0) → (is_condition s u ≡ true → Of (term_items c u) (condition_size (condition_of s n u)) 0)
          → Of (term_items c t ++ (counts kind.node p ∷ term_items c u))
          (condition_size (pick x (tree.either (condition_of s n t) (condition_of s n u)) (pick y (tree.both (condition_of s n t) (condition_of s n u)) (tree.compare (comparison_of k) (expression_of s n t) (expression_of s n u))))) 0
      go true y h f g = join (f (both_left (is_condition s t) (is_condition s u) h)) (g (both_right (is_condition s t) (is_condition s u) h))
      go false true h f g = join (f (both_left (is_condition s t) (is_condition s u) h)) (g (both_right (is_condition s t) (is_condition s u) h))
      go false false h f g =
          let q = both_right (is_one_of comparisons k) (is_expression s t && is_expression s u) h in
          join (expression_of_lem c n t (both_left (is_expression s t) (is_expression s u) q)) (expression_of_lem c n u (both_right (is_expression s t) (is_expression s u) q))

  pub action_of_lem : (c : Site) (n : Names) (p : ℕ) (a : Action) → is_action s a ≡ true → Of (action_items c p a) (action_size (action_of s n a)) 1
  unfolding is_action action_items action_of action_size is_expression expression_of
  action_of_lem c n p (sends e t) h =
      let k : action_size (send_of n (expression_of s n e) (word s t)) ≡ expression_size (expression_of s n e) + 2 =
      by_cases (λ a. action_size a ≡ expression_size (expression_of s n e) + 2) (is_among (word s t) n.parties) _ _ (λ _. refl) (λ _. refl) in
      of_is (of_append (of_node p) (of_append (expression_of_lem c n e h) (of_append (of_statement p) (of_name (kind.party ∷ kind.field ∷ []) t party_field_kinds)))) (omega arith) refl
  action_of_lem c n p (moves e x t) h =
      let k : action_size (move_of n (expression_of s n e) (holder_of n (word s x)) (word s t)) ≡ expression_size (expression_of s n e) + 3 =
      by_cases (λ a. action_size a ≡ expression_size (expression_of s n e) + 3) (is_among (word s t) n.parties) _ _ (λ _. refl) (λ _. refl) in
      of_is (of_append (of_node p) (of_append (expression_of_lem c n e h) (of_append (of_statement p)
      (of_append (of_name (asset_kinds c) x (asset_kinds_lem c)) (of_name (kind.party ∷ asset_kinds c) t (party_asset_kinds c)))))) (omega arith) refl
  action_of_lem c n p (moves_all x t) h =
      let k : action_size (move_all_of n (holder_of n (word s x)) (word s t)) ≡ 3 =
      by_cases (λ a. action_size a ≡ 3) (is_among (word s t) n.parties) _ _ (λ _. refl) (λ _. refl) in
      of_is (of_append (of_node p) (of_append (expression_of_lem c n (named x) refl) (of_append (of_statement p)
      (of_append (of_node t.start) (of_append (of_use (asset_kinds c) x (asset_kinds_lem c)) (of_use (kind.party ∷ asset_kinds c) t (party_asset_kinds c)))))))
      (let j : expression_size (expression_of s n (named x)) ≡ 1 = name_size n (word s x) in omega arith) refl

  pub block_of_lem : (c : Site) (n : Names) (b : Block) → is_block s b ≡ true → Of (block_items c b) (block_size (block_of s n b)) (statements (block_of s n b))
  unfolding is_block block_items block_of block_size statements
  block_of_lem c n none e = of_none
  block_of_lem c n (perform b p a) e =
      of_is (of_append (block_of_lem c n b (both_left (is_block s b) (is_action s a) e)) (action_of_lem c n p a (both_right (is_block s b) (is_action s a) e))) refl (omega arith)
  block_of_lem c n (conditional b p t i) e =
      let r = both_right (is_block s b) (is_condition s t && is_block s i) e in
      of_is
      (of_append (block_of_lem c n b (both_left (is_block s b) (is_condition s t && is_block s i) e))
      (of_append (of_node p) (of_append (of_statement p)
      (of_append (condition_of_lem c n t (both_left (is_condition s t) (is_block s i) r)) (block_of_lem c n i (both_right (is_condition s t) (is_block s i) r))))))
      (omega arith) (omega arith)

  -- ---- events

  -- items with n nodes and e events
  pub record Wide (is : List Item) (n e : ℕ) : Type 0 where
    pub right : every (right_item s) is ≡ true
    pub plains : every plain is ≡ true
    pub nodes : tally kind.node is ≡ n
    pub events : tally kind.event is ≡ e

  wide : {is : List Item} {n t : ℕ} → Of is n t → Wide is n 0
  wide a = record { right = a.right; plains = a.plains; nodes = a.nodes; events = a.events }

  wide_append : {xs ys : List Item} {n m d e : ℕ} → Wide xs n d → Wide ys m e → Wide (xs ++ ys) (n + m) (d + e)
  wide_append {xs} {ys} {n} {m} {d} {e} a b =
      let x = a.nodes in let y = b.nodes in let i = a.events in let j = b.events in
      record {
        right = every_append (right_item s) xs ys a.right b.right;
        plains = every_append plain xs ys a.plains b.plains;
        nodes = tally_append kind.node xs ys ∙ (let q : tally kind.node xs + tally kind.node ys ≡ n + m = omega arith in q);
        events = tally_append kind.event xs ys ∙ (let q : tally kind.event xs + tally kind.event ys ≡ d + e = omega arith in q);
      }

  wide_is : {is : List Item} {n m d e : ℕ} → Wide is n d → n ≡ m → d ≡ e → Wide is m e
  wide_is a p q = record { right = a.right; plains = a.plains; nodes = a.nodes ∙ p; events = a.events ∙ q }

  wide_opens : Wide (opens ∷ []) 0 0
  unfolding every tally
  wide_opens = record { right = refl; plains = refl; nodes = refl; events = refl }

  wide_event : (p : ℕ) → Wide (counts kind.event p ∷ []) 0 1
  unfolding every tally pick
  wide_event p = record { right = refl; plains = refl; nodes = refl; events = refl }

  pub event_of_lem : (n : Names) (w : Event) → is_event s w ≡ true → Wide (event_items w) (event_size (event_of s n w)) 1
  unfolding is_event event_items event_of event_size
  event_of_lem n w e =
      let a = both_right (is_expression s w.guard) (is_named s w.state && (is_block s w.handler && is_named s w.last)) e in
      let b = both_right (is_named s w.state) (is_block s w.handler && is_named s w.last) a in
      wide_is
      (wide_append (wide (of_node w.place))
      (wide_append (wide (expression_of_lem in_function n w.guard (both_left (is_expression s w.guard) (is_named s w.state && (is_block s w.handler && is_named s w.last)) e)))
      (wide_append (wide_event w.place)
      (wide_append (wide (of_state w.state (both_left (is_named s w.state) (is_block s w.handler && is_named s w.last) a)))
      (wide_append wide_opens
      (wide_append (wide (block_of_lem in_handler (within n [] []) w.handler (both_left (is_block s w.handler) (is_named s w.last) b)))
      (wide (of_state w.last (both_right (is_block s w.handler) (is_named s w.last) b)))))))))
      (omega arith) refl

  pub events_of : (n : Names) (ws : List Event) → every (is_event s) ws ≡ true → Wide (of_each event_items ws) (events_size (each_of (event_of s n) ws)) (length ws)
  unfolding of_each each_of events_size every
  events_of n [] e = wide of_none
  events_of n (w ∷ ws) e =
      wide_is (wide_append (event_of_lem n w (both_left (is_event s w) (every (is_event s) ws) e)) (events_of n ws (both_right (is_event s w) (every (is_event s) ws) e))) refl (omega arith)

  pub precondition_of_lem : (n : Names) (p : Precondition) → is_precondition s p ≡ true → Of (precondition_items p) (precondition_size (precondition_of s n p)) 0
  unfolding is_precondition precondition_items precondition_of precondition_size
  precondition_of_lem n omitted e = of_none
  precondition_of_lem n (given t) e = condition_of_lem in_function n t e

  -- ---- functions

  pub code_of : (n : Names) (f : Function) → FunctionSorted s f → Wide (code_items f) (function_size (function_of s n f)) (length f.body.events)
  unfolding function_of function_size
  code_of n f h =
      let m = within n (each_of (word s) f.values) (each_of (word s) f.parameters) in
      let b = f.body.statements in
      let ws = f.body.events in
      wide_is
      (wide_append (wide (precondition_of_lem m f.precondition h.precondition))
      (wide_append wide_opens
      (wide_append (wide (block_of_lem in_function m b (both_left (is_block s b) (every (is_event s) ws) h.body)))
      (wide_append (events_of m ws (both_right (is_block s b) (every (is_event s) ws) h.body)) (wide (of_state f.last h.last))))))
      (omega arith) (omega arith)

  pub declared_right : (k : ℕ) → eqb k kind.string ≡ false → (xs : List Span) → every (is_named s) xs ≡ true → every (right_item s) (declared k xs) ≡ true
  unfolding of_each every
  declared_right k q [] e = refl
  declared_right k q (x ∷ xs) e =
      both_true _ _ (pick_false _ _ _ q ∙ both_left (is_named s x) (every (is_named s) xs) e) (declared_right k q xs (both_right (is_named s x) (every (is_named s) xs) e))

  pub function_right : (n : Names) (f : Function) → FunctionSorted s f → every (right_item s) (function_items f) ≡ true
  unfolding function_items every
  function_right n f h =
      both_true _ _ (pick_false _ _ _ refl ∙ h.state)
      (every_append (right_item s) (declared kind.value f.values) _ (declared_right kind.value refl f.values h.values)
      (every_append (right_item s) (declared kind.parameter f.parameters) _ (declared_right kind.parameter refl f.parameters h.parameters) (code_of n f h).right))

  function_heads : (n : Names) (f : Function) → FunctionSorted s f → heads_in (function_items f) ≡ 1
  unfolding function_items heads_in
  function_heads n f h =
      let zs = declared kind.value f.values in
      let ys = declared kind.parameter f.parameters in
      let a : heads_in (zs ++ (ys ++ code_items f)) ≡ heads_in zs + heads_in (ys ++ code_items f) = heads_append zs (ys ++ code_items f) in
      let b : heads_in (ys ++ code_items f) ≡ heads_in ys + heads_in (code_items f) = heads_append ys (code_items f) in
      let c : heads_in zs ≡ 0 = declared_heads kind.value f.values in
      let d : heads_in ys ≡ 0 = declared_heads kind.parameter f.parameters in
      let g : heads_in (code_items f) ≡ 0 = plain_heads (code_items f) (code_of n f h).plains in
      let e : heads_in (zs ++ (ys ++ code_items f)) ≡ 0 = omega arith in
      ap suc e

  pub functions_right : (n : Names) (fs : List Function) → Each (FunctionSorted s) fs → every (right_item s) (of_each function_items fs) ≡ true
  unfolding of_each every
  functions_right n [] h = refl
  functions_right n (f ∷ fs) h = every_append (right_item s) (function_items f) (of_each function_items fs) (function_right n f h.0) (functions_right n fs h.1)

  pub functions_nodes : (n : Names) (fs : List Function) → Each (FunctionSorted s) fs → tally kind.node (of_each function_items fs) ≡ total function_size (each_of (function_of s n) fs)
  unfolding of_each each_of total tally
  functions_nodes n [] h = refl
  functions_nodes n (f ∷ fs) h =
      let a : tally kind.node (function_items f) ≡ function_size (function_of s n f) = function_tally kind.node f ∙ (code_of n f h.0).nodes in
      let b : tally kind.node (of_each function_items fs) ≡ total function_size (each_of (function_of s n) fs) = functions_nodes n fs h.1 in
      tally_append kind.node (function_items f) (of_each function_items fs) ∙ (λ i. a i + b i)

  pub functions_events : (n : Names) (fs : List Function) → Each (FunctionSorted s) fs → tally kind.event (of_each function_items fs) ≡ total (λ f. length f.events) (each_of (function_of s n) fs)
  unfolding of_each each_of total tally function_of
  functions_events n [] h = refl
  functions_events n (f ∷ fs) h =
      let a : tally kind.event (function_items f) ≡ length (function_of s n f).events = function_tally kind.event f ∙ (code_of n f h.0).events ∙ sym (length_each _ f.body.events) in
      let b : tally kind.event (of_each function_items fs) ≡ total (λ f. length f.events) (each_of (function_of s n) fs) = functions_events n fs h.1 in
      tally_append kind.event (function_items f) (of_each function_items fs) ∙ (λ i. a i + b i)

  pub functions_heads : (n : Names) (fs : List Function) → Each (FunctionSorted s) fs → heads_in (of_each function_items fs) ≡ length fs
  unfolding of_each heads_in
  functions_heads n [] h = refl
  functions_heads n (f ∷ fs) h =
      let a = function_heads n f h.0 in
      let b = functions_heads n fs h.1 in
      heads_append (function_items f) (of_each function_items fs) ∙ (let e : heads_in (function_items f) + heads_in (of_each function_items fs) ≡ suc (length fs) = omega arith in e)
