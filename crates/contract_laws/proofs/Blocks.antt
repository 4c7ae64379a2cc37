-- Nodes that the check accepts hold blocks that name what there is, and count their nodes and statements. Assumes nothing.
use mathlib.Core.Path.{◌≡◌, refl, sym, ap, subst, ◌∙◌}
use mathlib.Core.Bool.{Bool, true, false, ◌&&◌, ◌||◌}
use mathlib.Core.List.{List, [], ◌∷◌}
use Prim.Native.Nat.{ℕ, zero, suc, ◌+◌, ◌-◌, ◌<◌, ◌≤◌}
use native.Mathlib.Omega.{arith}
use lib.Dec.{eqb, leb, ltb}
use borrow.Author.Tests.{leb-true, eqb-true, eq-eqb, lt-leb, le-leb}
use Rattle.laws.specs.Choice.{pick}
use Rattle.laws.proofs.Choice.{pick_true, pick_false}
use Rattle.contract.specs.Tree.{Action, Block, perform, conditional, broken_block}
use Rattle.contract.specs.Sizes.{expression_size, condition_size, action_size, block_size, statements}
use Rattle.contract.specs.Fits.{Scope, holder_in, expression_in, condition_in, action_in, block_in}
use Rattle.laws.proofs.Truths.{both_left, both_right, both_true}
use Rattle.contract.specs.Table.{kind_at, argument_at, size_at, field_kind, asset_kind, parameter_kind, party_kind, value_move_kind, asset_move_kind, whole_move_kind, conditional_kind}
use Rattle.contract.specs.Decode.{expression_at, condition_at, holder_at, value_move_at, asset_move_at, whole_move_at, block_between}
use Rattle.contract.specs.Check.{ranges, Sort, expression, condition, statement, holder, asset_target, value_target, is_sort, at, parts_start, statement_from, block_ok, conditional_start, leaf_ok, is_leaf, whole_ok, node_ok, statements_in}
use Rattle.contract_laws.proofs.Lengths.{expression_some, condition_some, action_some}
use Rattle.contract_laws.proofs.Regions.{statements_append}
use Rattle.contract_laws.proofs.Levels.{block_step}
use Rattle.contract_laws.proofs.Inversions.{by_test, of_either, ranges_of, each_of, Before, nowhere_at, part_before, parts_before, no_parts, Follows, statement_of, leaf_of_lem, kind_of, Closed, empty, closed, block_of_lem, block_before}
use Rattle.contract_laws.proofs.Held.{Accepted, expression_held, condition_held}

-- ---- sources and targets

leaf_kinds : (is_leaf field_kind ≡ true) × (is_leaf asset_kind ≡ true) × (is_leaf parameter_kind ≡ true) × (is_leaf party_kind ≡ true)
unfolding is_leaf ranges
leaf_kinds = (refl, refl, refl, refl)

module _ (w : List ℕ) (s : Scope) (from k : ℕ) (ok : node_ok w s from k ≡ true) where
  -- a node without parts of this kind
  leaf_at : (kind : ℕ) → is_leaf kind ≡ true → kind_at w k ≡ kind → (leaf_ok s kind (argument_at w k) ≡ true) × (size_at w k ≡ 1)
  leaf_at kind l d =
      let t = leaf_of_lem w s from k ok (ap is_leaf d ∙ l) in
      (ap (λ (z : ℕ). leaf_ok s z (argument_at w k)) (sym d) ∙ t.0, t.1)

  party_at : kind_at w k ≡ party_kind → (ltb (argument_at w k) s.parties ≡ true) × (size_at w k ≡ 1)
  unfolding leaf_ok pick
  party_at d = leaf_at party_kind leaf_kinds.3 d

  field_at : kind_at w k ≡ field_kind → (ltb (argument_at w k) s.fields ≡ true) × (size_at w k ≡ 1)
  unfolding leaf_ok pick
  field_at d = leaf_at field_kind leaf_kinds.0 d

  asset_at : kind_at w k ≡ asset_kind → (ltb (argument_at w k) s.assets ≡ true) × (size_at w k ≡ 1)
  unfolding leaf_ok pick
  asset_at d = leaf_at asset_kind leaf_kinds.1 d

  parameter_at : kind_at w k ≡ parameter_kind → (ltb (argument_at w k) s.parameters ≡ true) × (size_at w k ≡ 1)
  unfolding leaf_ok pick
  parameter_at d = leaf_at parameter_kind leaf_kinds.2 d

  holder_at_lem : (eqb (kind_at w k) asset_kind || eqb (kind_at w k) parameter_kind) ≡ true → (holder_in s (holder_at w k) ≡ true) × (size_at w k ≡ 1)
  unfolding holder_in
  holder_at_lem e =
      by_test (eqb (kind_at w k) asset_kind)
      (λ t.
      let l = asset_at (eqb-true (kind_at w k) asset_kind t) in
      (ap (holder_in s) (pick_true _ _ _ t) ∙ l.0, l.1))
      λ t.
      of_either (eqb (kind_at w k) asset_kind) (eqb (kind_at w k) parameter_kind) e
      (λ u.
      let l = asset_at (eqb-true (kind_at w k) asset_kind u) in
      (ap (holder_in s) (pick_true _ _ _ u) ∙ l.0, l.1))
      λ u.
      let l = parameter_at (eqb-true (kind_at w k) parameter_kind u) in
      (ap (holder_in s) (pick_false _ _ _ t) ∙ l.0, l.1)

  source_held : is_sort holder (kind_at w k) ≡ true → (holder_in s (holder_at w k) ≡ true) × (size_at w k ≡ 1)
  unfolding is_sort
  source_held e = holder_at_lem e

-- a target is a party, or something else that is named as it should be
data Target (w : List ℕ) (s : Scope) (k : ℕ) (right : Bool) : Type 0 where
  party : eqb (kind_at w k) party_kind ≡ true → ltb (argument_at w k) s.parties ≡ true → Target w s k right
  other : eqb (kind_at w k) party_kind ≡ false → right ≡ true → Target w s k right

module _ (w : List ℕ) (s : Scope) (from k : ℕ) (ok : node_ok w s from k ≡ true) where
  target : (a b : Bool) → (eqb (kind_at w k) party_kind || a) ≡ true → (a ≡ true → (b ≡ true) × (size_at w k ≡ 1)) → Target w s k b × (size_at w k ≡ 1)
  target a b e f =
      let here : eqb (kind_at w k) party_kind ≡ true → Target w s k b × (size_at w k ≡ 1) =
      λ t. let l = party_at w s from k ok (eqb-true (kind_at w k) party_kind t) in (party t l.0, l.1) in
      by_test (eqb (kind_at w k) party_kind) here λ t.
      of_either (eqb (kind_at w k) party_kind) a e here λ u. (other t (f u).0, (f u).1)

  value_target_lem : is_sort value_target (kind_at w k) ≡ true → Target w s k (ltb (argument_at w k) s.fields) × (size_at w k ≡ 1)
  unfolding is_sort
  value_target_lem e = target _ _ e λ t. field_at w s from k ok (eqb-true (kind_at w k) field_kind t)

  asset_target_lem : is_sort asset_target (kind_at w k) ≡ true → Target w s k (holder_in s (holder_at w k)) × (size_at w k ≡ 1)
  unfolding is_sort
  asset_target_lem e = target _ _ e (holder_at_lem w s from k ok)

-- ---- actions

-- an action whose nodes start at q and end at k
record ActionHeld (s : Scope) (from k q : ℕ) (a : Action) : Type 0 where
  inside : action_in s a ≡ true
  size : action_size a + q ≡ k + 1
  room : from ≤ q

-- an expression at node j, whose nodes start at q and end before m
record Moved (w : List ℕ) (s : Scope) (from m j q : ℕ) : Type 0 where
  inside : expression_in s (expression_at w j) ≡ true
  size : expression_size (expression_at w j) + q ≡ m
  starts : q + size_at w j ≡ m
  room : from ≤ q

-- a part of one node
single : {w : List ℕ} {from m end : ℕ} {sort : Sort} → Before w from sort end m → size_at w (end - 1) ≡ 1 → m ≡ end - 1
single {w} {from} {m} {end} b e =
    let l : from < end = b.some in
    let z : m + size_at w (end - 1) ≡ end = b.starts in
    omega arith

module _ {w : List ℕ} {s : Scope} {from k q : ℕ} (h : 2 ≤ k) where
  value_action : Moved w s from (k - 1) (k - 2) q → Target w s (k - 1) (ltb (argument_at w (k - 1)) s.fields) → ActionHeld s from k q (value_move_at w k)
  unfolding value_move_at action_in action_size
  value_action x (party i l) =
      subst (ActionHeld s from k q) (sym (pick_true _ _ _ i)) (record { inside = both_true _ _ x.inside l; size = omega (arith, x.size); room = x.room })
  value_action x (other i l) =
      subst (ActionHeld s from k q) (sym (pick_false _ _ _ i)) (record { inside = both_true _ _ x.inside l; size = omega (arith, x.size); room = x.room })

  asset_action : Moved w s from (k - 2) (k - 3) q → holder_in s (holder_at w (k - 2)) ≡ true → Target w s (k - 1) (holder_in s (holder_at w (k - 1)))
      → ActionHeld s from k q (asset_move_at w k)
  unfolding asset_move_at action_in action_size
  asset_action x g (party i l) =
      subst (ActionHeld s from k q) (sym (pick_true _ _ _ i))
      (record { inside = both_true _ _ x.inside (both_true _ _ g l); size = omega (arith, x.size); room = x.room })
  asset_action x g (other i l) =
      subst (ActionHeld s from k q) (sym (pick_false _ _ _ i))
      (record { inside = both_true _ _ x.inside (both_true _ _ g l); size = omega (arith, x.size); room = x.room })

  whole_action : q ≡ k - 2 → from ≤ q → holder_in s (holder_at w (k - 2)) ≡ true → Target w s (k - 1) (holder_in s (holder_at w (k - 1)))
      → ActionHeld s from k q (whole_move_at w k)
  unfolding whole_move_at action_in action_size
  whole_action e r g (party i l) =
      subst (ActionHeld s from k q) (sym (pick_true _ _ _ i)) (record { inside = both_true _ _ g l; size = omega arith; room = r })
  whole_action e r g (other i l) =
      subst (ActionHeld s from k q) (sym (pick_false _ _ _ i)) (record { inside = both_true _ _ g l; size = omega arith; room = r })

module _ {w : List ℕ} {s : Scope} {from end : ℕ} (ok : Accepted w s from end) where
  -- the expression before node m
  moved : (m j q : ℕ) → m ≤ end → m - 1 ≡ j → parts_start w from (expression ∷ []) m ≡ at q → Moved w s from m j q
  moved m j q h e f =
      let u = parts_before w from expression [] m q f in
      let z : u.start ≡ q = no_parts w from u.start q u.rest in
      let b : Before w from expression m q = subst (Before w from expression m) z u.last in
      let l : from < m = b.some in
      let y : q + size_at w (m - 1) ≡ m = b.starts in
      let x = expression_held ok (m - 1) (omega arith) (omega arith) b.sorted in
      subst (λ (i : ℕ). Moved w s from m i q) e
      (record { inside = x.inside; size = omega (arith, x.size); starts = y; room = b.room })

  -- E -> t
  value_move : (k q : ℕ) → k < end → parts_start w from (value_target ∷ expression ∷ []) k ≡ at q → ActionHeld s from k q (value_move_at w k) × (k - 1 - size_at w (k - 2) ≡ q)
  value_move k q h e =
      let t = parts_before w from value_target (expression ∷ []) k q e in
      let a : from < k = t.last.some in
      let v = value_target_lem w s from (k - 1) (ok.node (k - 1) (omega arith) (omega arith)) t.last.sorted in
      let m : t.start ≡ k - 1 = single t.last v.1 in
      let x : Moved w s from (k - 1) (k - 2) q = moved (k - 1) (k - 2) q (omega arith) (omega arith) (ap (parts_start w from (expression ∷ [])) (sym m) ∙ t.rest) in
      let b = x.size in
      let c = x.starts in
      let d = expression_some (expression_at w (k - 2)) in
      (value_action (omega arith) x v.0, omega arith)

  -- E -o h, t
  asset_move : (k q : ℕ) → k < end → parts_start w from (asset_target ∷ holder ∷ expression ∷ []) k ≡ at q → ActionHeld s from k q (asset_move_at w k) × (k - 2 - size_at w (k - 3) ≡ q)
  asset_move k q h e =
      let t = parts_before w from asset_target (holder ∷ expression ∷ []) k q e in
      let a : from < k = t.last.some in
      let v = asset_target_lem w s from (k - 1) (ok.node (k - 1) (omega arith) (omega arith)) t.last.sorted in
      let m : t.start ≡ k - 1 = single t.last v.1 in
      let u = parts_before w from holder (expression ∷ []) (k - 1) q (ap (parts_start w from (holder ∷ expression ∷ [])) (sym m) ∙ t.rest) in
      let c : from < k - 1 = u.last.some in
      let y = source_held w s from (k - 1 - 1) (ok.node (k - 1 - 1) (omega arith) (omega arith)) u.last.sorted in
      let n : u.start ≡ k - 1 - 1 = single u.last y.1 in
      let i : k - 1 - 1 ≡ k - 2 = omega arith in
      let g : holder_in s (holder_at w (k - 2)) ≡ true = subst (λ (j : ℕ). holder_in s (holder_at w j) ≡ true) i y.0 in
      let x : Moved w s from (k - 2) (k - 3) q = moved (k - 2) (k - 3) q (omega arith) (omega arith) (ap (parts_start w from (expression ∷ [])) (sym i ∙ sym n) ∙ u.rest) in
      let b = x.starts in
      (asset_action (omega arith) x g v.0, omega arith)

  -- h -o t
  whole_move : (k q : ℕ) → k < end → parts_start w from (asset_target ∷ holder ∷ []) k ≡ at q → ActionHeld s from k q (whole_move_at w k) × (k - 2 ≡ q)
  whole_move k q h e =
      let t = parts_before w from asset_target (holder ∷ []) k q e in
      let a : from < k = t.last.some in
      let v = asset_target_lem w s from (k - 1) (ok.node (k - 1) (omega arith) (omega arith)) t.last.sorted in
      let m : t.start ≡ k - 1 = single t.last v.1 in
      let u = parts_before w from holder [] (k - 1) q (ap (parts_start w from (holder ∷ [])) (sym m) ∙ t.rest) in
      let c : from < k - 1 = u.last.some in
      let y = source_held w s from (k - 1 - 1) (ok.node (k - 1 - 1) (omega arith) (omega arith)) u.last.sorted in
      let n : u.start ≡ k - 1 - 1 = single u.last y.1 in
      let z : u.start ≡ q = no_parts w from u.start q u.rest in
      let i : k - 1 - 1 ≡ k - 2 = omega arith in
      let g : holder_in s (holder_at w (k - 2)) ≡ true = subst (λ (j : ℕ). holder_in s (holder_at w j) ≡ true) i y.0 in
      let r : from ≤ u.start = u.last.room in
      (whole_action (omega arith) (omega arith) (omega arith) g v.0, omega arith)

-- ---- blocks

-- the block in the nodes from p up to, not including, `end`
pub record BlockHeld (w : List ℕ) (s : Scope) (p end : ℕ) : Type 0 where
  pub inside : block_in s (block_between w p end) ≡ true
  pub size : block_size (block_between w p end) + p ≡ end
  pub few : statements (block_between w p end) ≤ statements_in w p (end - p)

none_held : (w : List ℕ) (s : Scope) (p end : ℕ) → p ≡ end → BlockHeld w s p end
unfolding block_in block_size statements
none_held w s p end e =
    let q = block_step w p end ∙ pick_true _ _ _ (le-leb end p (omega arith)) ∙ pick_true _ _ _ (eq-eqb end p (sym e)) in
    record {
      inside = ap (block_in s) q;
      size = omega (arith, ap block_size q);
      few = omega (arith, ap statements q);
    }

-- a block whose last statement is at node k
abbrev ending : List ℕ → ℕ → ℕ → Block
ending w p k =
    pick (eqb (kind_at w k) value_move_kind)
    (perform (block_between w p (k - 1 - size_at w (k - 2))) (value_move_at w k))
    (pick (eqb (kind_at w k) asset_move_kind)
    (perform (block_between w p (k - 2 - size_at w (k - 3))) (asset_move_at w k))
    (pick (eqb (kind_at w k) whole_move_kind)
    (perform (block_between w p (k - 2)) (whole_move_at w k))
    (pick (eqb (kind_at w k) conditional_kind)
    (conditional
    (block_between w p (k - argument_at w k - size_at w (k - argument_at w k - 1)))
    (condition_at w (k - argument_at w k - 1))
    (block_between w (k - argument_at w k) k))
    broken_block)))

ends : (w : List ℕ) (p k end : ℕ) → p < end → end - 1 ≡ k → block_between w p end ≡ ending w p k
ends w p k end h e = block_step w p end ∙ pick_false _ _ _ (lt-leb end p h) ∙ ap (ending w p) e

-- statements before node q, from q up to k, and at k
counted_last : (w : List ℕ) (p q k : ℕ) → p ≤ q → q ≤ k → is_sort statement (kind_at w k) ≡ true
    → suc (statements_in w p (q - p) + statements_in w q (k - q)) ≡ statements_in w p (k + 1 - p)
unfolding statements_in
counted_last w p q k h g e =
    let a : k + 1 - p ≡ suc (k - p) = omega arith in
    let b : p + (k - p) ≡ k = omega arith in
    let c : k - p ≡ (q - p) + (k - q) = omega arith in
    let d : p + (q - p) ≡ q = omega arith in
    let x : statements_in w p (k - p) ≡ statements_in w p (q - p) + statements_in w q (k - q) =
    ap (statements_in w p) c ∙ statements_append w p (q - p) (k - q) ∙ ap (λ (i : ℕ). statements_in w p (q - p) + statements_in w i (k - q)) d in
    ap suc (sym x)
    ∙ sym (pick_true _ _ _ (ap (λ (i : ℕ). is_sort statement (kind_at w i)) b ∙ e))
    ∙ ap (statements_in w p) (sym a)

module _ {w : List ℕ} {s : Scope} {k p q : ℕ} (h : p ≤ q) (e : is_sort statement (kind_at w k) ≡ true) where
  perform_held : {from : ℕ} (a : Action) → block_between w p (k + 1) ≡ perform (block_between w p q) a → BlockHeld w s p q → ActionHeld s from k q a → BlockHeld w s p (k + 1)
  unfolding block_in block_size statements
  perform_held a d b x =
      let l : 1 ≤ action_size a = action_some a in
      let z : action_size a + q ≡ k + 1 = x.size in
      let c = counted_last w p q k h (omega arith) e in
      record {
        inside = ap (block_in s) d ∙ both_true _ _ b.inside x.inside;
        size = omega (arith, ap block_size d, b.size);
        few = omega (arith, ap statements d, b.few);
      }

  conditional_held : (m : ℕ) → block_between w p (k + 1) ≡ conditional (block_between w p q) (condition_at w (m - 1)) (block_between w m k) → q < m → m ≤ k
      → BlockHeld w s p q → condition_in s (condition_at w (m - 1)) ≡ true → condition_size (condition_at w (m - 1)) + q ≡ m → BlockHeld w s m k → BlockHeld w s p (k + 1)
  unfolding block_in block_size statements
  conditional_held m d l g b x y c =
      let a = counted_last w p q k h (omega arith) e in
      let i : k - q ≡ (m - q) + (k - m) = omega arith in
      let j : q + (m - q) ≡ m = omega arith in
      let t : statements_in w q (k - q) ≡ statements_in w q (m - q) + statements_in w m (k - m) =
      ap (statements_in w q) i ∙ statements_append w q (m - q) (k - m) ∙ ap (λ (i : ℕ). statements_in w q (m - q) + statements_in w i (k - m)) j in
      record {
        inside = ap (block_in s) d ∙ both_true _ _ b.inside (both_true _ _ x c.inside);
        size = omega (arith, ap block_size d, b.size, c.size);
        few = omega (arith, ap statements d, b.few, c.few);
      }

-- the condition and the block of conditional k
record Conditional (w : List ℕ) (from k q : ℕ) : Type 0 where
  part : Before w from condition (k - argument_at w k) q
  room : argument_at w k ≤ k - from
  block : Closed w (k - argument_at w k) k

conditional_parts : (w : List ℕ) (from k q : ℕ) → from ≤ k → conditional_start w from k ≡ at q → Conditional w from k q
unfolding conditional_start
conditional_parts w from k q h e =
    let a = leb (argument_at w k) (k - from) in
    let b = block_ok w k (argument_at w k) in
    by_test (a && b) (λ t.
    let l : argument_at w k ≤ k - from = leb-true (argument_at w k) (k - from) (both_left a b t) in
    record {
      part = part_before w from condition (k - argument_at w k) q (sym (pick_true _ _ _ t) ∙ e);
      room = l;
      block = block_of_lem w (k - argument_at w k) k (argument_at w k) (omega arith) (both_right a b t);
    })
    λ t. nowhere_at (sym (pick_false _ _ _ t) ∙ e)

module _ (w : List ℕ) (from k : ℕ) where
  value_kind : (is_leaf value_move_kind ≡ false) × (whole_ok w from k value_move_kind ≡ statement_from w from k (parts_start w from (value_target ∷ expression ∷ []) k))
  unfolding is_leaf whole_ok ranges pick
  value_kind = (refl, refl)

  asset_kind_lem : (is_leaf asset_move_kind ≡ false) × (whole_ok w from k asset_move_kind ≡ statement_from w from k (parts_start w from (asset_target ∷ holder ∷ expression ∷ []) k))
  unfolding is_leaf whole_ok ranges pick
  asset_kind_lem = (refl, refl)

  whole_kind : (is_leaf whole_move_kind ≡ false) × (whole_ok w from k whole_move_kind ≡ statement_from w from k (parts_start w from (asset_target ∷ holder ∷ []) k))
  unfolding is_leaf whole_ok ranges pick
  whole_kind = (refl, refl)

  conditional_kind_lem : (is_leaf conditional_kind ≡ false) × (whole_ok w from k conditional_kind ≡ statement_from w from k (conditional_start w from k))
  unfolding is_leaf whole_ok ranges pick
  conditional_kind_lem = (refl, refl)

-- statement k, which counts the nodes of its block from p on, by the blocks before it
module _ {w : List ℕ} {s : Scope} {from end : ℕ} (ok : Accepted w s from end) (k p : ℕ) (h : k < end) (l : from ≤ p) (e : is_sort statement (kind_at w k) ≡ true)
    (n : size_at w k + p ≡ k + 1) (g : p ≤ k) (lower : (a b : ℕ) → from ≤ a → b ≤ k → Closed w a b → BlockHeld w s a b) where
  -- an action whose nodes start at q
  action_held : (q : ℕ) (a : Action) → Follows w from k q → ending w p k ≡ perform (block_between w p q) a → ActionHeld s from k q a → BlockHeld w s p (k + 1)
  action_held q a f d x =
      let b = block_before w from k p q n f in
      let i : 1 ≤ action_size a = action_some a in
      let z : action_size a + q ≡ k + 1 = x.size in
      perform_held b.0 e a (ends w p k (k + 1) (omega arith) (omega arith) ∙ d) (lower p q l (omega arith) b.1) x

  node_here : node_ok w s from k ≡ true
  node_here = ok.node k (omega arith) h

  value_held : kind_at w k ≡ value_move_kind → BlockHeld w s p (k + 1)
  value_held d =
      let y = statement_of w from k _ (kind_of w s from k node_here value_move_kind (value_kind w from k) d) in
      let x = value_move ok k y.start h y.starts in
      action_held y.start (value_move_at w k) y.follows
      (pick_true _ _ _ (ap (λ (z : ℕ). eqb z value_move_kind) d) ∙ ap (λ (j : ℕ). perform (block_between w p j) (value_move_at w k)) x.1) x.0

  asset_held : kind_at w k ≡ asset_move_kind → BlockHeld w s p (k + 1)
  asset_held d =
      let y = statement_of w from k _ (kind_of w s from k node_here asset_move_kind (asset_kind_lem w from k) d) in
      let x = asset_move ok k y.start h y.starts in
      action_held y.start (asset_move_at w k) y.follows
      (pick_false _ _ _ (ap (λ (z : ℕ). eqb z value_move_kind) d)
      ∙ pick_true _ _ _ (ap (λ (z : ℕ). eqb z asset_move_kind) d)
      ∙ ap (λ (j : ℕ). perform (block_between w p j) (asset_move_at w k)) x.1) x.0

  whole_held : kind_at w k ≡ whole_move_kind → BlockHeld w s p (k + 1)
  whole_held d =
      let y = statement_of w from k _ (kind_of w s from k node_here whole_move_kind (whole_kind w from k) d) in
      let x = whole_move ok k y.start h y.starts in
      action_held y.start (whole_move_at w k) y.follows
      (pick_false _ _ _ (ap (λ (z : ℕ). eqb z value_move_kind) d)
      ∙ pick_false _ _ _ (ap (λ (z : ℕ). eqb z asset_move_kind) d)
      ∙ pick_true _ _ _ (ap (λ (z : ℕ). eqb z whole_move_kind) d)
      ∙ ap (λ (j : ℕ). perform (block_between w p j) (whole_move_at w k)) x.1) x.0

  nested_held : kind_at w k ≡ conditional_kind → BlockHeld w s p (k + 1)
  nested_held d =
      let y = statement_of w from k (conditional_start w from k) (kind_of w s from k node_here conditional_kind (conditional_kind_lem w from k) d) in
      let q = y.start in
      let m = k - argument_at w k in
      let x = conditional_parts w from k q (omega arith) y.starts in
      let o : argument_at w k ≤ k - from = x.room in
      let a : from < m = x.part.some in
      let c : q + size_at w (m - 1) ≡ m = x.part.starts in
      let t = condition_held ok (m - 1) (omega arith) (omega arith) x.part.sorted in
      let u : condition_size (condition_at w (m - 1)) ≡ size_at w (m - 1) = t.size in
      let v = condition_some (condition_at w (m - 1)) in
      let i : m - size_at w (m - 1) ≡ q = omega arith in
      let b = block_before w from k p q n y.follows in
      conditional_held b.0 e m
      (ends w p k (k + 1) (omega arith) (omega arith)
      ∙ pick_false _ _ _ (ap (λ (z : ℕ). eqb z value_move_kind) d)
      ∙ pick_false _ _ _ (ap (λ (z : ℕ). eqb z asset_move_kind) d)
      ∙ pick_false _ _ _ (ap (λ (z : ℕ). eqb z whole_move_kind) d)
      ∙ pick_true _ _ _ (ap (λ (z : ℕ). eqb z conditional_kind) d)
      ∙ ap (λ (j : ℕ). conditional (block_between w p j) (condition_at w (m - 1)) (block_between w m k)) i)
      (omega arith) (omega arith) (lower p q l (omega arith) b.1) t.inside (omega arith) (lower m k (omega arith) (omega arith) x.block)

  statement_held : BlockHeld w s p (k + 1)
  unfolding is_sort
  statement_held =
      let r = ranges_of value_move_kind (kind_at w k) conditional_kind e in
      each_of (λ z. kind_at w k ≡ z → BlockHeld w s p (k + 1)) 24 4 (value_held, (asset_held, (whole_held, (nested_held, tt))))
      (kind_at w k) r.0 (omega (arith, r.1)) refl

module _ {w : List ℕ} {s : Scope} {from end : ℕ} (ok : Accepted w s from end) where
  block_within_lem : (f p e : ℕ) → e ≤ f → from ≤ p → e ≤ end → Closed w p e → BlockHeld w s p e
  block_within_lem zero p e l h g (empty q) = none_held w s p e q
  block_within_lem zero p e l h g (closed a b c) = absurd (omega arith)
  block_within_lem (suc f) p e l h g (empty q) = none_held w s p e q
  block_within_lem (suc f) p e l h g (closed a b c) =
      let q : e - 1 + 1 ≡ e = omega arith in
      subst (BlockHeld w s p) q
      (statement_held ok (e - 1) p (omega arith) h b (omega arith) (omega arith) λ x y i j z. block_within_lem f x y (omega arith) i (omega arith) z)

  pub block_held : (p e : ℕ) → from ≤ p → e ≤ end → Closed w p e → BlockHeld w s p e
  block_held p e h g c = block_within_lem e p e (omega arith) h g c
