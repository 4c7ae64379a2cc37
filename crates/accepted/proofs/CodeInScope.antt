-- Well sorted code whose uses of names are met resolves to code that is in scope. Assumes nothing.
use mathlib.Core.Path.{◌≡◌, refl, sym, ap, ◌∙◌}
use mathlib.Core.Bool.{Bool, true, false, ◌&&◌}
use mathlib.Core.List.{List, [], ◌∷◌, ◌++◌}
use Prim.Native.Nat.{ℕ, ◌+◌, ◌≤◌}
use native.Mathlib.Omega.{arith}
use lib.ListN.{length}
use lib.Dec.{eqb, ltb}
use borrow.Author.Tests.{le-leb}
use Rattle.laws.specs.Choice.{pick}
use Rattle.laws.proofs.Choice.{by_cases, true_false}
use Rattle.words.specs.Words.{now_word, and_mark, or_mark}
use Rattle.contract.specs.Tree as tree
use Rattle.contract.specs.Tree.{Word}
use Rattle.contract.specs.Limits.{max_statements}
use Rattle.contract.specs.Fits.{Scope, holder_in, expression_in, condition_in, action_in, block_in, precondition_in, scope_of, event_in}
use Rattle.laws.proofs.Members.{every_first, every_second}
use Rattle.laws.proofs.Truths.{both_left, both_right, both_true, or_right, or_last}
use Rattle.laws.specs.Lists.{every}
use Rattle.reading.specs.Syntax.{Term, named, numeral, quoted, fixed, negated, operated, Action, sends, moves, moves_all, Block, none, perform, conditional, Event, Precondition, omitted, given}
use Rattle.reading.specs.Grammar.{is_one_of, comparisons}
use Rattle.reading.specs.Items.{Item, counts, uses, opens, Site, in_function, in_handler, of_each, state_item, value_kinds, asset_kinds, name_items, term_items, action_items, block_items, event_items, precondition_items}
use Rattle.reading.specs.Items as kind
use Rattle.reading.specs.Rules.{word, is_among, number_of, count}
use Rattle.reading.specs.Resolve.{Names, within, each_of, latest_first, comparison_of, holder_of, name_of, expression_of, condition_of, action_of, block_of, precondition_of, event_of}
use Rattle.accepted.proofs.Judged.{Clean, clean_first, clean_second}
use Rattle.accepted.proofs.Known.{is_known_in, met}
use Rattle.accepted.proofs.Counts.{tally, count_latest, count_few}
use Rattle.accepted.proofs.Sorted.{arithmetic, is_expression, is_condition, is_action, is_block, is_named, is_event, is_precondition}
use Rattle.accepted.proofs.CodeItems.{Of, block_of_lem}

-- ---- names

-- a handler names no parameter
abbrev pub at_site : Site → List Word → List Word
at_site in_function ws = ws
at_site in_handler ws = []

abbrev pub names_at : Site → Names → Names
names_at c n = within n (at_site c n.values) (at_site c n.parameters)

abbrev pub scope_in : Names → Scope
scope_in n =
    record {
      parties = length n.parties;
      assets = length n.assets;
      fields = length n.fields;
      strings = length n.strings;
      values = length n.values;
      parameters = length n.parameters;
    }

holder_in_lem : (c : Site) (n : Names) (w : Word) → is_known_in n (asset_kinds c) w ≡ true → holder_in (scope_in (names_at c n)) (holder_of (names_at c n) w) ≡ true
unfolding is_known_in holder_in
holder_in_lem in_function n w e =
    by_cases (λ h. holder_in (scope_in n) h ≡ true) (is_among w n.assets) _ _ (λ q. q) (λ q. or_last _ (or_right (is_among w n.assets) _ q e))
holder_in_lem in_handler n w e =
    by_cases (λ h. holder_in (scope_in (within n [] [])) h ≡ true) (is_among w n.assets) _ _ (λ q. q) (λ q. true_false (sym (or_right (is_among w n.assets) false q e)))

name_in : (c : Site) (n : Names) (w : Word) → is_known_in n (value_kinds c) w ≡ true → expression_in (scope_in (names_at c n)) (name_of (names_at c n) w) ≡ true
unfolding is_known_in holder_in expression_in
name_in in_function n w e =
    by_cases (λ x. expression_in (scope_in n) x ≡ true) (is_among w n.fields) _ _ (λ q. q)
    (λ f. by_cases (λ x. expression_in (scope_in n) x ≡ true) (is_among w n.values) _ _ (λ q. q)
    (λ v. by_cases (λ h. holder_in (scope_in n) h ≡ true) (is_among w n.assets) _ _ (λ q. q)
    (λ a. or_last _ (or_right (is_among w n.values) _ v (or_right (is_among w n.fields) _ f (or_right (is_among w n.assets) _ a e))))))
name_in in_handler n w e =
    by_cases (λ x. expression_in (scope_in (within n [] [])) x ≡ true) (is_among w n.fields) _ _ (λ q. q)
    (λ f. by_cases (λ x. expression_in (scope_in (within n [] [])) x ≡ true) (is_among w []) _ _ (λ q. q)
    (λ v. by_cases (λ h. holder_in (scope_in (within n [] [])) h ≡ true) (is_among w n.assets) _ _ (λ q. q)
    (λ a. true_false (sym (or_right (is_among w n.fields) false f (or_right (is_among w n.assets) _ a e))))))

module _ (s : List ℕ) where
  -- ---- code

  pub expression_in_lem : (c : Site) (n : Names) (t : Term) → is_expression s t ≡ true → every (met s n) (term_items c t) ≡ true → expression_in (scope_in (names_at c n)) (expression_of s (names_at c n) t) ≡ true
  unfolding is_expression term_items expression_of expression_in every
  expression_in_lem c n (named x) h e = name_in c n (word s x) (both_left (is_known_in n (value_kinds c) (word s x)) true e)
  expression_in_lem c n (numeral v p) h e = h
  expression_in_lem c n (quoted x p) h e = both_left (is_among (word s x) n.strings) true e
  expression_in_lem c n (fixed k p) h e =
      by_cases (λ a. expression_in (scope_in (names_at c n)) a ≡ true) (eqb k now_word) _ _ (λ _. refl) (λ q. true_false (sym h ∙ q))
  expression_in_lem c n (negated p t) h e = true_false (sym h)
  expression_in_lem c n (operated k p t u) g e =
      let h = both_right (is_one_of arithmetic k) (is_expression s t && is_expression s u) g in
      both_true _ _ (expression_in_lem c n t (both_left (is_expression s t) (is_expression s u) h) (every_first (met s n) (term_items c t) _ e))
      (expression_in_lem c n u (both_right (is_expression s t) (is_expression s u) h) (every_second (met s n) (term_items c t) (counts kind.node p ∷ term_items c u) e))

  pub condition_in_lem : (c : Site) (n : Names) (t : Term) → is_condition s t ≡ true → every (met s n) (term_items c t) ≡ true → condition_in (scope_in (names_at c n)) (condition_of s (names_at c n) t) ≡ true
  unfolding is_condition term_items condition_of condition_in every pick
  condition_in_lem c n (named x) h e = true_false (sym h)
  condition_in_lem c n (numeral v p) h e = true_false (sym h)
  condition_in_lem c n (quoted x p) h e = true_false (sym h)
  condition_in_lem c n (fixed k p) h e = refl
  condition_in_lem c n (negated p t) h e = condition_in_lem c n t h e
  condition_in_lem c n (operated k p t u) h e = go (eqb k or_mark) (eqb k and_mark) h (λ q. condition_in_lem c n t q left) (λ q. condition_in_lem c n u q right)
    where
      left : every (met s n) (term_items c t) ≡ true
      left = every_first (met s n) (term_items c t) _ e

      right : every (met s n) (term_items c u) ≡ true
      right = every_second (met s n) (term_items c t) (counts kind.node p ∷ term_items c u) e

      go :
          (x y : Bool) → pick x (is_condition s t && is_condition s u) (pick y (is_condition s t && is_condition s u) (is_one_of comparisons k && (is_expression s t && is_expression s u))) ≡ true
          → (is_condition s t ≡ true → condition_in (scope_in (names_at c n)) (condition_of s (names_at c n) t) ≡ true)
          → (is_condition s u ≡ true → condition_in (scope_in (names_at c n)) (condition_of s (names_at c n) u) ≡ true)
          → condition_in (scope_in (names_at c n))
          (pick x (tree.either (condition_of s (names_at c n) t) (condition_of s (names_at c n) u))
          (pick y (tree.both (condition_of s (names_at c n) t) (condition_of s (names_at c n) u))
          (tree.compare (comparison_of k) (expression_of s (names_at c n) t) (expression_of s (names_at c n) u)))) ≡ true
      go true y q f g = both_true _ _ (f (both_left (is_condition s t) (is_condition s u) q)) (g (both_right (is_condition s t) (is_condition s u) q))
      go false true q f g = both_true _ _ (f (both_left (is_condition s t) (is_condition s u) q)) (g (both_right (is_condition s t) (is_condition s u) q))
      go false false h f g =
          let q = both_right (is_one_of comparisons k) (is_expression s t && is_expression s u) h in
          both_true _ _ (expression_in_lem c n t (both_left (is_expression s t) (is_expression s u) q) left)
          (expression_in_lem c n u (both_right (is_expression s t) (is_expression s u) q) right)

  pub action_in_lem : (c : Site) (n : Names) (p : ℕ) (a : Action) → is_action s a ≡ true → every (met s n) (action_items c p a) ≡ true → action_in (scope_in (names_at c n)) (action_of s (names_at c n) a) ≡ true
  unfolding is_action action_items action_of action_in every is_known_in
  action_in_lem c n p (sends e t) h q =
      let x = expression_in_lem c n e h (every_first (met s n) (term_items c e) _ q) in
      let r = known_target (every_second (met s n) (term_items c e) (counts kind.statement p ∷ name_items (kind.party ∷ kind.field ∷ []) t) q) in
      by_cases (λ a. action_in (scope_in (names_at c n)) a ≡ true) (is_among (word s t) n.parties) _ _ (λ y. both_true _ _ x y)
      (λ y. both_true _ _ x (or_last _ (or_right (is_among (word s t) n.parties) _ y r)))
    where
      known_target : (is_known_in n (kind.party ∷ kind.field ∷ []) (word s t) && true) ≡ true → is_known_in n (kind.party ∷ kind.field ∷ []) (word s t) ≡ true
      known_target g = both_left (is_known_in n (kind.party ∷ kind.field ∷ []) (word s t)) true g
  action_in_lem c n p (moves e y t) h q =
      let x = expression_in_lem c n e h (every_first (met s n) (term_items c e) _ q) in
      let r = every_second (met s n) (term_items c e) (counts kind.statement p ∷ (name_items (asset_kinds c) y ++ name_items (kind.party ∷ asset_kinds c) t)) q in
      let a = is_known_in n (asset_kinds c) (word s y) in
      let b = is_known_in n (kind.party ∷ asset_kinds c) (word s t) in
      let o = holder_in_lem c n (word s y) (both_left a (b && true) r) in
      let g = both_left b true (both_right a (b && true) r) in
      by_cases (λ a. action_in (scope_in (names_at c n)) a ≡ true) (is_among (word s t) n.parties) _ _ (λ z. both_true _ _ x (both_true _ _ o z))
      (λ z. both_true _ _ x (both_true _ _ o (holder_in_lem c n (word s t) (or_right (is_among (word s t) n.parties) _ z g))))
  action_in_lem c n p (moves_all y t) h q =
      let r = every_second (met s n) (term_items c (named y)) (counts kind.statement p ∷ counts kind.node t.start ∷ uses (asset_kinds c) y ∷ uses (kind.party ∷ asset_kinds c) t ∷ []) q in
      let a = is_known_in n (asset_kinds c) (word s y) in
      let b = is_known_in n (kind.party ∷ asset_kinds c) (word s t) in
      let o = holder_in_lem c n (word s y) (both_left a (b && true) r) in
      let g = both_left b true (both_right a (b && true) r) in
      by_cases (λ a. action_in (scope_in (names_at c n)) a ≡ true) (is_among (word s t) n.parties) _ _ (λ z. both_true _ _ o z)
      (λ z. both_true _ _ o (holder_in_lem c n (word s t) (or_right (is_among (word s t) n.parties) _ z g)))

  pub block_in_lem : (c : Site) (n : Names) (b : Block) → is_block s b ≡ true → every (met s n) (block_items c b) ≡ true → block_in (scope_in (names_at c n)) (block_of s (names_at c n) b) ≡ true
  unfolding is_block block_items block_of block_in every
  block_in_lem c n none h e = refl
  block_in_lem c n (perform b p a) h e =
      both_true _ _ (block_in_lem c n b (both_left (is_block s b) (is_action s a) h) (every_first (met s n) (block_items c b) _ e))
      (action_in_lem c n p a (both_right (is_block s b) (is_action s a) h) (every_second (met s n) (block_items c b) (action_items c p a) e))
  block_in_lem c n (conditional b p t i) h e =
      let r = both_right (is_block s b) (is_condition s t && is_block s i) h in
      let f = every_second (met s n) (block_items c b) (counts kind.node p ∷ counts kind.statement p ∷ (term_items c t ++ block_items c i)) e in
      both_true _ _ (block_in_lem c n b (both_left (is_block s b) (is_condition s t && is_block s i) h) (every_first (met s n) (block_items c b) _ e))
      (both_true _ _ (condition_in_lem c n t (both_left (is_condition s t) (is_block s i) r) (every_first (met s n) (term_items c t) _ f))
      (block_in_lem c n i (both_right (is_condition s t) (is_block s i) r) (every_second (met s n) (term_items c t) (block_items c i) f)))

  pub precondition_in_lem : (n : Names) (p : Precondition) → is_precondition s p ≡ true → every (met s n) (precondition_items p) ≡ true → precondition_in (scope_in (names_at in_function n)) (precondition_of s (names_at in_function n) p) ≡ true
  unfolding is_precondition precondition_items precondition_of precondition_in
  precondition_in_lem n omitted h e = refl
  precondition_in_lem n (given t) h e = condition_in_lem in_function n t h e

  -- ---- statements and events

  -- a body or a handler has not too many statements
  pub block_few : (b : List Item) (is : List Item) (n t : ℕ) → Clean s (opens ∷ b) is → Of s is n t → t ≤ max_statements
  unfolding count pick
  block_few b is n t c o =
      let f : count kind.statement (latest_first (opens ∷ b) is) ≤ max_statements = count_few s kind.statement is (opens ∷ b) c (omega arith) in
      let l : count kind.statement (latest_first (opens ∷ b) is) ≡ 0 + tally kind.statement is = count_latest kind.statement is (opens ∷ b) o.steady in
      let x = o.statement in
      omega arith

  module _ (C : tree.Contract) (F : tree.Function) (n : Names) (whole : scope_of C (length F.values) (length F.parameters) ≡ scope_in (names_at in_function n)) (bare : scope_of C 0 0 ≡ scope_in (names_at in_handler n)) (states : C.states ≡ n.states) where
    pub event_in_lem : (b : List Item) (w : Event) → is_event s w ≡ true → Clean s b (event_items w) → every (met s n) (event_items w) ≡ true → event_in C F (event_of s (names_at in_function n) w) ≡ true
    unfolding is_event event_items event_of event_in every latest_first
    event_in_lem b w h c e =
        let h1 = both_right (is_expression s w.guard) (is_named s w.state && (is_block s w.handler && is_named s w.last)) h in
        let h2 = both_right (is_named s w.state) (is_block s w.handler && is_named s w.last) h1 in
        let hb = both_left (is_block s w.handler) (is_named s w.last) h2 in
        let rest = counts kind.event w.place ∷ state_item w.state ∷ opens ∷ (block_items in_handler w.handler ++ (state_item w.last ∷ [])) in
        let inner = block_items in_handler w.handler ++ (state_item w.last ∷ []) in
        let e1 = every_second (met s n) (term_items in_function w.guard) rest e in
        let e2 = both_right (is_among (word s w.state) n.states) (every (met s n) inner) e1 in
        let c1 = clean_second s (counts kind.node w.place ∷ b) (term_items in_function w.guard) rest c.1 in
        let cb = clean_first s _ (block_items in_handler w.handler) (state_item w.last ∷ []) c1.1.1.1 in
        both_true _ _ (ap (λ (x : Scope). expression_in x (expression_of s (names_at in_function n) w.guard)) whole
        ∙ expression_in_lem in_function n w.guard (both_left (is_expression s w.guard) (is_named s w.state && (is_block s w.handler && is_named s w.last)) h) (every_first (met s n) (term_items in_function w.guard) rest e))
        (both_true _ _ (ap (λ (x : List Word). ltb (number_of (word s w.state) n.states) (length x)) states ∙ both_left (is_among (word s w.state) n.states) (every (met s n) inner) e1)
        (both_true _ _ (ap (λ (x : Scope). block_in x (block_of s (names_at in_handler n) w.handler)) bare
        ∙ block_in_lem in_handler n w.handler hb (every_first (met s n) (block_items in_handler w.handler) (state_item w.last ∷ []) e2))
        (both_true _ _ (le-leb _ max_statements (block_few _ (block_items in_handler w.handler) _ _ cb (block_of_lem s in_handler (names_at in_handler n) w.handler hb)))
        (ap (λ (x : List Word). ltb (number_of (word s w.last) n.states) (length x)) states
        ∙ both_left (is_among (word s w.last) n.states) true (every_second (met s n) (block_items in_handler w.handler) (state_item w.last ∷ []) e2)))))

    pub events_in : (b : List Item) (ws : List Event) → every (is_event s) ws ≡ true → Clean s b (of_each event_items ws) → every (met s n) (of_each event_items ws) ≡ true → every (event_in C F) (each_of (event_of s (names_at in_function n)) ws) ≡ true
    unfolding of_each each_of every
    events_in b [] h c e = refl
    events_in b (w ∷ ws) h c e =
        both_true _ _
        (event_in_lem b w (both_left (is_event s w) (every (is_event s) ws) h) (clean_first s b (event_items w) _ c) (every_first (met s n) (event_items w) _ e))
        (events_in (latest_first b (event_items w)) ws (both_right (is_event s w) (every (is_event s) ws) h) (clean_second s b (event_items w) (of_each event_items ws) c) (every_second (met s n) (event_items w) (of_each event_items ws) e))
