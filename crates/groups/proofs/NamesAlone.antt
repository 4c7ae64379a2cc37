-- In a contract that fits, both ends of every move are names. Assumes nothing.
use mathlib.Core.Path.{◌≡◌, refl, sym, ap, ◌∙◌}
use mathlib.Core.Bool.{Bool, true, ◌&&◌, ◌||◌}
use mathlib.Core.List.{List, [], ◌∷◌, ◌++◌}
use Prim.Native.Nat.{ℕ, suc, ◌+◌, ◌-◌, ◌*◌, ◌<◌, ◌≤◌}
use native.Mathlib.Omega.{arith}
use lib.ListN.{length}
use lib.Dec.{eqb, ltb}
use borrow.Author.Tests.{ltb-true, ltb-false, lt-ltb, le-ltb, eqb-true}
use Rattle.laws.specs.Lists.{every}
use Rattle.laws.proofs.Choice.{pick_true, pick_false, true_false}
use Rattle.laws.proofs.Truths.{both_left, both_right, both_true, either_true}
use Rattle.laws.proofs.Members.{every_head, every_tail, every_append, every_so}
use Rattle.contract.specs.Tree.{Holder, asset, asset_parameter, Action, assign, send, move, pay, move_all, pay_all, Block, none, perform, conditional, broken_block, Event, Function, Contract}
use Rattle.contract.specs.Fits.{Scope, expression_in, holder_in, condition_in, action_in, block_in, scope_of, scope_in, event_in, function_in}
use Rattle.contract.proofs.Fitting.{FitsContract, fits_event, fits_function}
use Rattle.contract_laws.proofs.Inversions.{by_test}
use Rattle.groups.specs.Groups.{Move, max_names, first_parameter, name_of, one_move, numbers_parameter, numbers_name, action_moves, block_moves, handler_moves, function_moves, moves}
use Rattle.groups.specs.Chains.{joins, Chain, here, by_move}
use Rattle.groups.proofs.Joining.{within, joins_swap}
use Rattle.groups.proofs.NameOrder.{names_in_order}

-- both ends pass a test
abbrev pub ends : (ℕ → Bool) → Move → Bool
ends p m = p m.source && p m.target

-- what a clause may name passes a test
pub record Named (p : ℕ → Bool) (s : Scope) (start : ℕ) : Type 0 where
  pub assets : (i : ℕ) → i < s.assets → p i ≡ true
  pub parameters : (j : ℕ) → j < s.parameters → p (start + j) ≡ true

module _ (p : ℕ → Bool) (s : Scope) (start : ℕ) (n : Named p s start) where
  pub holder_named : (h : Holder) → holder_in s h ≡ true → p (name_of start h) ≡ true
  unfolding holder_in
  holder_named (asset i) e = n.assets i (ltb-true _ _ e)
  holder_named (asset_parameter j) e = n.parameters j (ltb-true _ _ e)

  one_named : (h t : Holder) → holder_in s h && holder_in s t ≡ true → every (ends p) (one_move start h t) ≡ true
  unfolding every
  one_named h t e =
      both_true (p (name_of start h) && p (name_of start t)) true
      (both_true _ _ (holder_named h (both_left (holder_in s h) (holder_in s t) e)) (holder_named t (both_right (holder_in s h) (holder_in s t) e))) refl

  action_named : (a : Action) → action_in s a ≡ true → every (ends p) (action_moves start a) ≡ true
  unfolding action_in action_moves every
  action_named (assign e x) q = refl
  action_named (send e a) q = refl
  action_named (move e h t) q = one_named h t (both_right (expression_in s e) (holder_in s h && holder_in s t) q)
  action_named (pay e h a) q = refl
  action_named (move_all h t) q = one_named h t q
  action_named (pay_all h a) q = refl

  block_named : (b : Block) → block_in s b ≡ true → every (ends p) (block_moves start b) ≡ true
  unfolding block_in block_moves every
  block_named none q = refl
  block_named (perform b a) q =
      every_append (ends p) (block_moves start b) (action_moves start a) (block_named b (both_left (block_in s b) (action_in s a) q)) (action_named a (both_right (block_in s b) (action_in s a) q))
  block_named (conditional b t x) q =
      every_append (ends p) (block_moves start b) (block_moves start x)
      (block_named b (both_left (block_in s b) (condition_in s t && block_in s x) q))
      (block_named x (both_right (condition_in s t) (block_in s x) (both_right (block_in s b) (condition_in s t && block_in s x) q)))
  block_named broken_block q = true_false (sym q)

-- ---- a contract

names_few : (fs : List Function) (k : ℕ) → numbers_parameter fs k ≡ true → k < length fs * 4
unfolding numbers_parameter
names_few [] k e = true_false (sym e)
names_few (f ∷ fs) k e =
    by_test (ltb k 4) (λ t. let h : k < 4 = ltb-true k 4 t in omega arith)
    (λ t.
    let h : 4 ≤ k = ltb-false k 4 t in
    let r : k - 4 < length fs * 4 = names_few fs (k - 4) (sym (pick_false _ _ _ t) ∙ e) in
    omega arith)

module _ (c : Contract) (t : FitsContract c) where
  pub asset_named : (i : ℕ) → i < length c.assets → numbers_name c i ≡ true
  asset_named i h = (names_in_order c).assets i (omega (arith, h, t.assets_few)) ∙ lt-ltb i (length c.assets) h

  pub name_few : (k : ℕ) → numbers_name c k ≡ true → k < max_names
  unfolding numbers_name
  name_few k e =
      by_test (ltb k 16) (λ q. let h : k < 16 = ltb-true k 16 q in omega arith)
      (λ q.
      let h : 16 ≤ k = ltb-false k 16 q in
      let r : k - 16 < length c.functions * 4 = names_few c.functions (k - 16) (sym (pick_false _ _ _ q) ∙ e) in
      let l : length c.functions ≤ 64 = t.functions_few in
      omega arith)

  handlers_named : (f : Function) (start : ℕ) (es : List Event) → every (event_in c f) es ≡ true → every (ends (numbers_name c)) (handler_moves start es) ≡ true
  unfolding handler_moves every scope_of
  handlers_named f start [] e = refl
  handlers_named f start (x ∷ es) e =
      every_append (ends (numbers_name c)) (block_moves start x.handler) (handler_moves start es)
      (block_named (numbers_name c) (scope_of c 0 0) start (record { assets = asset_named; parameters = λ j h. absurd (omega arith) }) x.handler
      (fits_event c f x (every_head (event_in c f) x es e)).handler)
      (handlers_named f start es (every_tail (event_in c f) x es e))

  functions_named : (n : ℕ) (fs : List Function) → every (function_in c) fs ≡ true → ((k : ℕ) → numbers_parameter fs k ≡ true → numbers_name c (first_parameter n + k) ≡ true)
      → every (ends (numbers_name c)) (function_moves n fs) ≡ true
  unfolding function_moves numbers_parameter every scope_of
  functions_named n [] e g = refl
  functions_named n (f ∷ fs) e g =
      let p = numbers_name c in
      let k = fits_function c f (every_head (function_in c) f fs e) in
      let few : length f.parameters ≤ 4 = k.parameters_few in
      let named : Named p (scope_in c f) (first_parameter n) =
      record {
        assets = asset_named;
        parameters = λ j h. g j (pick_true (ltb j 4) _ _ (lt-ltb j 4 (omega arith)) ∙ lt-ltb j (length f.parameters) h);
      } in
      let next : (j : ℕ) → numbers_parameter fs j ≡ true → p (first_parameter (suc n) + j) ≡ true =
      λ j q.
      let a : j + 4 - 4 ≡ j = omega arith in
      let b : first_parameter n + (j + 4) ≡ first_parameter (suc n) + j = omega arith in
      sym (ap p b) ∙ g (j + 4) (pick_false (ltb (j + 4) 4) _ _ (le-ltb (j + 4) 4 (omega arith)) ∙ ap (numbers_parameter fs) a ∙ q) in
      every_append (ends p) (block_moves (first_parameter n) f.body ++ handler_moves (first_parameter n) f.events) (function_moves (suc n) fs)
      (every_append (ends p) (block_moves (first_parameter n) f.body) (handler_moves (first_parameter n) f.events)
      (block_named p (scope_in c f) (first_parameter n) named f.body k.body)
      (handlers_named f (first_parameter n) f.events k.events))
      (functions_named (suc n) fs (every_tail (function_in c) f fs e) next)

  first_numbers : (k : ℕ) → numbers_parameter c.functions k ≡ true → numbers_name c (first_parameter 0 + k) ≡ true
  unfolding numbers_name
  first_numbers k q =
      let a : first_parameter 0 + k - 16 ≡ k = omega arith in
      pick_false _ _ _ (le-ltb (first_parameter 0 + k) 16 (omega arith)) ∙ ap (numbers_parameter c.functions) a ∙ q

  pub all_named : every (ends (numbers_name c)) (moves c) ≡ true
  all_named = functions_named 0 c.functions t.functions first_numbers

  pub all_within : every within (moves c) ≡ true
  all_within =
      every_so (ends (numbers_name c)) within
      (λ m e.
      both_true (ltb m.source max_names) (ltb m.target max_names)
      (lt-ltb _ _ (name_few m.source (both_left (numbers_name c m.source) (numbers_name c m.target) e)))
      (lt-ltb _ _ (name_few m.target (both_right (numbers_name c m.source) (numbers_name c m.target) e))))
      (moves c) all_named

-- ---- moves and chains

pub joins_named : (p : ℕ → Bool) (ms : List Move) → every (ends p) ms ≡ true → (a b : ℕ) → joins ms a b ≡ true → p a ≡ true
unfolding joins
joins_named p [] e a b j = true_false (sym j)
joins_named p (m ∷ ms) e a b j =
    let w : p m.source && p m.target ≡ true = every_head (ends p) m ms e in
    either_true ((eqb m.source a && eqb m.target b) || (eqb m.source b && eqb m.target a)) (joins ms a b) j
    (λ q.
    either_true (eqb m.source a && eqb m.target b) (eqb m.source b && eqb m.target a) q
    (λ r. ap p (sym (eqb-true _ _ (both_left (eqb m.source a) (eqb m.target b) r))) ∙ both_left (p m.source) (p m.target) w)
    (λ r. ap p (sym (eqb-true _ _ (both_right (eqb m.source b) (eqb m.target a) r))) ∙ both_right (p m.source) (p m.target) w))
    (joins_named p ms (every_tail (ends p) m ms e) a b)

pub chain_named : (p : ℕ → Bool) (ms : List Move) → every (ends p) ms ≡ true → {k l : ℕ} → p k ≡ true → Chain ms k l → p l ≡ true
chain_named p ms e h here = h
chain_named p ms e h (by_move {a = a} {b = b} j x) = chain_named p ms e (joins_named p ms e b a (joins_swap ms b a ∙ j)) x
