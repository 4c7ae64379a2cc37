-- The check accepts the nodes of an expression, a condition, a statement or a block wherever they stand in a table. Assumes nothing.
use mathlib.Core.Path.{◌≡◌, refl, sym, ap, subst, ◌∙◌}
use mathlib.Core.Bool.{true, false, ◌&&◌}
use mathlib.Core.List.{List, [], ◌∷◌, ◌++◌}
use Prim.Native.Nat.{ℕ, ◌+◌, ◌-◌, ◌*◌, ◌≤◌}
use native.Mathlib.Omega.{arith}
use lib.ListN.{length}
use lib.Dec.{ltb}
use borrow.Author.Tests.{le-leb}
use Rattle.numbers.specs.declared.Operator.{Operator}
use Rattle.numbers.specs.declared.Operator.TheVariants.{Plus, Minus, Times, Over}
use Rattle.numbers.specs.declared.Comparison.{Comparison}
use Rattle.numbers.specs.declared.Comparison.TheVariants.{Equal, Unequal, Less, AtMost, Greater, AtLeast}
use Rattle.laws.specs.Choice.{pick}
use Rattle.laws.proofs.Choice.{true_false, pick_true}
use Rattle.contract.specs.Tree.{Holder, asset, asset_parameter, Expression, constant, string, clock, field, value_parameter, held, apply, broken_expression, Condition, truth, compare, negation, both, either, broken_condition, Action, assign, send, move, pay, move_all, pay_all, Block, none, perform, conditional, broken_block}
use Rattle.contract.specs.Sizes.{expression_size, condition_size, action_size, block_size, statements}
use Rattle.contract.specs.Fits.{Scope, holder_in, expression_in, condition_in, action_in, block_in}
use Rattle.laws.proofs.Truths.{both_true, both_of}
use Rattle.contract.specs.Table.{argument_at, party_kind, field_kind, not_kind, and_kind, or_kind, value_move_kind, asset_move_kind, whole_move_kind, conditional_kind}
use Rattle.contract.specs.Encode.{node, holder_node, operator_kind, comparison_kind, expression_nodes, condition_nodes, action_parts, action_kind, block_nodes}
use Rattle.contract.specs.Check.{Sort, expression, condition, statement, holder, asset_target, value_target, is_sort, ranges, at, part_start, parts_start, statement_from, conditional_start, block_ok, leaf_ok, is_leaf, whole_ok}
use Rattle.contract_laws.proofs.Stands.{first_part}
use Rattle.contract_laws.proofs.Sections.{Nodes, nodes_after, NodeIs, node_is}
use Rattle.contract_laws.proofs.Lengths.{length_holder, length_expression, length_condition, length_parts, length_block}
use Rattle.contract_laws.proofs.Regions.{same_region, empty, join, parts_start_lem, parts_end, part_start_lem, leaf_formed, Formed, Whole, whole_formed, two_start, two_formed, rows, nothing, ended_ok, Blocked, same_block, Parts, statement_formed}

holder_formed : {w : List ℕ} {s : Scope} (from k : ℕ) (h : Holder) (sort : Sort) → Nodes w k (holder_node h) → holder_in s h ≡ true
    → is_sort sort 5 ≡ true → is_sort sort 7 ≡ true → Formed w s from k 1 sort
unfolding holder_in leaf_ok is_leaf is_sort ranges pick
holder_formed {w} {s} from k (asset i) sort d e f g = leaf_formed s from sort (node_is k _ _ _ d) refl refl f e
holder_formed {w} {s} from k (asset_parameter i) sort d e f g = leaf_formed s from sort (node_is k _ _ _ d) refl refl g e

-- ---- expressions

operator_whole : (w : List ℕ) (from k : ℕ) (o : Operator) → Whole w from k (operator_kind o) expression (expression ∷ expression ∷ [])
unfolding is_leaf is_sort whole_ok ranges pick
operator_whole w from k Plus = record { no_leaf = refl; no_statement = refl; of_sort = refl; of_parts = refl }
operator_whole w from k Minus = record { no_leaf = refl; no_statement = refl; of_sort = refl; of_parts = refl }
operator_whole w from k Times = record { no_leaf = refl; no_statement = refl; of_sort = refl; of_parts = refl }
operator_whole w from k Over = record { no_leaf = refl; no_statement = refl; of_sort = refl; of_parts = refl }

pub expression_formed : {w : List ℕ} {s : Scope} {from : ℕ} (k : ℕ) (e : Expression) → from ≤ k → Nodes w k (expression_nodes e) → expression_in s e ≡ true
    → Formed w s from k (expression_size e) expression
unfolding expression_nodes expression_size expression_in leaf_ok is_leaf is_sort ranges pick
expression_formed {w} {s} {from} k (constant n) h d i = leaf_formed s from expression (node_is k _ _ _ d) refl refl refl i
expression_formed {w} {s} {from} k (string n) h d i = leaf_formed s from expression (node_is k _ _ _ d) refl refl refl i
expression_formed {w} {s} {from} k clock h d i = leaf_formed s from expression (node_is k _ _ _ d) refl refl refl refl
expression_formed {w} {s} {from} k (field n) h d i = leaf_formed s from expression (node_is k _ _ _ d) refl refl refl i
expression_formed {w} {s} {from} k (value_parameter n) h d i = leaf_formed s from expression (node_is k _ _ _ d) refl refl refl i
expression_formed {w} {s} {from} k (held g) h d i = holder_formed from k g expression d i refl refl
expression_formed {w} {s} {from} k (apply o a b) h d i =
    let p = both_of (expression_in s a) (expression_in s b) i in
    let m = expression_size a in
    let n = expression_size b in
    let r = rows k m n (expression_nodes a) (expression_nodes b) (node (operator_kind o) 0 (m + n + 1)) (length_expression a) (length_expression b) d in
    two_formed h (expression_formed k a h r.first p.0) (expression_formed (k + m) b (omega arith) r.second p.1)
    (node_is (k + (m + n)) _ _ _ r.rest) (operator_whole w from (k + (m + n)) o)
expression_formed k broken_expression h d i = true_false (sym i)

-- ---- conditions

comparison_whole : (w : List ℕ) (from k : ℕ) (o : Comparison) → Whole w from k (comparison_kind o) condition (expression ∷ expression ∷ [])
unfolding is_leaf is_sort whole_ok ranges pick
comparison_whole w from k Equal = record { no_leaf = refl; no_statement = refl; of_sort = refl; of_parts = refl }
comparison_whole w from k Unequal = record { no_leaf = refl; no_statement = refl; of_sort = refl; of_parts = refl }
comparison_whole w from k Less = record { no_leaf = refl; no_statement = refl; of_sort = refl; of_parts = refl }
comparison_whole w from k AtMost = record { no_leaf = refl; no_statement = refl; of_sort = refl; of_parts = refl }
comparison_whole w from k Greater = record { no_leaf = refl; no_statement = refl; of_sort = refl; of_parts = refl }
comparison_whole w from k AtLeast = record { no_leaf = refl; no_statement = refl; of_sort = refl; of_parts = refl }

not_whole : (w : List ℕ) (from k : ℕ) → Whole w from k not_kind condition (condition ∷ [])
unfolding is_leaf is_sort whole_ok ranges pick
not_whole w from k = record { no_leaf = refl; no_statement = refl; of_sort = refl; of_parts = refl }

and_whole : (w : List ℕ) (from k : ℕ) → Whole w from k and_kind condition (condition ∷ condition ∷ [])
unfolding is_leaf is_sort whole_ok ranges pick
and_whole w from k = record { no_leaf = refl; no_statement = refl; of_sort = refl; of_parts = refl }

or_whole : (w : List ℕ) (from k : ℕ) → Whole w from k or_kind condition (condition ∷ condition ∷ [])
unfolding is_leaf is_sort whole_ok ranges pick
or_whole w from k = record { no_leaf = refl; no_statement = refl; of_sort = refl; of_parts = refl }

pub condition_formed : {w : List ℕ} {s : Scope} {from : ℕ} (k : ℕ) (t : Condition) → from ≤ k → Nodes w k (condition_nodes t) → condition_in s t ≡ true
    → Formed w s from k (condition_size t) condition
unfolding condition_nodes condition_size condition_in leaf_ok is_leaf is_sort ranges pick
condition_formed {w} {s} {from} k (truth true) h d i = leaf_formed s from condition (node_is k _ _ _ d) refl refl refl refl
condition_formed {w} {s} {from} k (truth false) h d i = leaf_formed s from condition (node_is k _ _ _ d) refl refl refl refl
condition_formed {w} {s} {from} k (compare o a b) h d i =
    let p = both_of (expression_in s a) (expression_in s b) i in
    let m = expression_size a in
    let n = expression_size b in
    let r = rows k m n (expression_nodes a) (expression_nodes b) (node (comparison_kind o) 0 (m + n + 1)) (length_expression a) (length_expression b) d in
    two_formed h (expression_formed k a h r.first p.0) (expression_formed (k + m) b (omega arith) r.second p.1)
    (node_is (k + (m + n)) _ _ _ r.rest) (comparison_whole w from (k + (m + n)) o)
condition_formed {w} {s} {from} k (negation a) h d i =
    let n = condition_size a in
    let x = condition_nodes a in
    let f = condition_formed k a h (first_part x (node not_kind 0 (n + 1)) d) i in
    whole_formed f.region (node_is (k + n) _ _ _ (nodes_after k x (node not_kind 0 (n + 1)) n (length_condition a) d)) (not_whole w from (k + n))
    (parts_start_lem from h f.part [] ∙ parts_end w from k)
condition_formed {w} {s} {from} k (both a b) h d i =
    let p = both_of (condition_in s a) (condition_in s b) i in
    let m = condition_size a in
    let n = condition_size b in
    let r = rows k m n (condition_nodes a) (condition_nodes b) (node and_kind 0 (m + n + 1)) (length_condition a) (length_condition b) d in
    two_formed h (condition_formed k a h r.first p.0) (condition_formed (k + m) b (omega arith) r.second p.1)
    (node_is (k + (m + n)) _ _ _ r.rest) (and_whole w from (k + (m + n)))
condition_formed {w} {s} {from} k (either a b) h d i =
    let p = both_of (condition_in s a) (condition_in s b) i in
    let m = condition_size a in
    let n = condition_size b in
    let r = rows k m n (condition_nodes a) (condition_nodes b) (node or_kind 0 (m + n + 1)) (length_condition a) (length_condition b) d in
    two_formed h (condition_formed k a h r.first p.0) (condition_formed (k + m) b (omega arith) r.second p.1)
    (node_is (k + (m + n)) _ _ _ r.rest) (or_whole w from (k + (m + n)))
condition_formed k broken_condition h d i = true_false (sym i)

-- ---- statements

-- the nodes of a statement's parts
abbrev parts_size : Action → ℕ
parts_size (assign e x) = expression_size e + 1
parts_size (send e a) = expression_size e + 1
parts_size (move e h t) = expression_size e + (1 + 1)
parts_size (pay e h a) = expression_size e + (1 + 1)
parts_size (move_all h t) = 1 + 1
parts_size (pay_all h a) = 1 + 1

parts_size_lem : (a : Action) → action_size a ≡ parts_size a + 1
unfolding action_size
parts_size_lem (assign e x) = omega arith
parts_size_lem (send e a) = omega arith
parts_size_lem (move e h t) = omega arith
parts_size_lem (pay e h a) = omega arith
parts_size_lem (move_all h t) = refl
parts_size_lem (pay_all h a) = refl

-- E -> t
value_parts : {w : List ℕ} {s : Scope} {from k m : ℕ} → from ≤ k → Formed w s from k m expression → Formed w s from (k + m) 1 value_target
    → Parts w s from k (m + 1) 0 value_move_kind
unfolding whole_ok ranges pick
value_parts {w} {s} {from} {k} {m} h a b =
    record {
      region = join a.region b.region;
      of_parts = ap (statement_from w from (k + (m + 1))) (two_start h a.part b.part);
    }

-- E -o h, t
asset_parts : {w : List ℕ} {s : Scope} {from k m : ℕ} → from ≤ k → Formed w s from k m expression → Formed w s from (k + m) 1 holder
    → Formed w s from (k + m + 1) 1 asset_target → Parts w s from k (m + (1 + 1)) 0 asset_move_kind
unfolding whole_ok ranges pick
asset_parts {w} {s} {from} {k} {m} h a b c =
    let q : k + (m + 2) ≡ k + m + 1 + 1 = omega arith in
    let l : from ≤ k + m = omega arith in
    let g : from ≤ k + m + 1 = omega arith in
    record {
      region = join a.region (join b.region c.region);
      of_parts = ap (statement_from w from (k + (m + 2)))
          (ap (parts_start w from (asset_target ∷ holder ∷ expression ∷ [])) q
          ∙ parts_start_lem from g c.part (holder ∷ expression ∷ [])
          ∙ parts_start_lem from l b.part (expression ∷ [])
          ∙ parts_start_lem from h a.part []
          ∙ parts_end w from k);
    }

-- h -o t
whole_parts : {w : List ℕ} {s : Scope} {from k : ℕ} → from ≤ k → Formed w s from k 1 holder → Formed w s from (k + 1) 1 asset_target
    → Parts w s from k (1 + 1) 0 whole_move_kind
unfolding whole_ok ranges pick
whole_parts {w} {s} {from} {k} h a b =
    record {
      region = join a.region b.region;
      of_parts = ap (statement_from w from (k + 2)) (two_start h a.part b.part);
    }

pub action_formed : {w : List ℕ} {s : Scope} {from : ℕ} (k : ℕ) (a : Action) → from ≤ k → Nodes w k (action_parts a) → action_in s a ≡ true
    → Parts w s from k (parts_size a) 0 (action_kind a)
unfolding action_parts action_in leaf_ok is_leaf is_sort ranges pick
action_formed {w} {s} {from} k (assign e x) h d i =
    let p = both_of (expression_in s e) (ltb x s.fields) i in
    let m = expression_size e in
    value_parts h (expression_formed k e h (first_part (expression_nodes e) (node field_kind x 1) d) p.0)
    (leaf_formed s from value_target (node_is (k + m) _ _ _ (nodes_after k (expression_nodes e) (node field_kind x 1) m (length_expression e) d)) refl refl refl p.1)
action_formed {w} {s} {from} k (send e a) h d i =
    let p = both_of (expression_in s e) (ltb a s.parties) i in
    let m = expression_size e in
    value_parts h (expression_formed k e h (first_part (expression_nodes e) (node party_kind a 1) d) p.0)
    (leaf_formed s from value_target (node_is (k + m) _ _ _ (nodes_after k (expression_nodes e) (node party_kind a 1) m (length_expression e) d)) refl refl refl p.1)
action_formed {w} {s} {from} k (move e g t) h d i =
    let p = both_of (expression_in s e) (holder_in s g && holder_in s t) i in
    let o = both_of (holder_in s g) (holder_in s t) p.1 in
    let m = expression_size e in
    let r = nodes_after k (expression_nodes e) (holder_node g ++ holder_node t) m (length_expression e) d in
    asset_parts h (expression_formed k e h (first_part (expression_nodes e) (holder_node g ++ holder_node t) d) p.0)
    (holder_formed from (k + m) g holder (first_part (holder_node g) (holder_node t) r) o.0 refl refl)
    (holder_formed from (k + m + 1) t asset_target (nodes_after (k + m) (holder_node g) (holder_node t) 1 (length_holder g) r) o.1 refl refl)
action_formed {w} {s} {from} k (pay e g a) h d i =
    let p = both_of (expression_in s e) (holder_in s g && ltb a s.parties) i in
    let o = both_of (holder_in s g) (ltb a s.parties) p.1 in
    let m = expression_size e in
    let z = node party_kind a 1 in
    let r = nodes_after k (expression_nodes e) (holder_node g ++ z) m (length_expression e) d in
    asset_parts h (expression_formed k e h (first_part (expression_nodes e) (holder_node g ++ z) d) p.0)
    (holder_formed from (k + m) g holder (first_part (holder_node g) z r) o.0 refl refl)
    (leaf_formed s from asset_target (node_is (k + m + 1) _ _ _ (nodes_after (k + m) (holder_node g) z 1 (length_holder g) r)) refl refl refl o.1)
action_formed {w} {s} {from} k (move_all g t) h d i =
    let o = both_of (holder_in s g) (holder_in s t) i in
    whole_parts h (holder_formed from k g holder (first_part (holder_node g) (holder_node t) d) o.0 refl refl)
    (holder_formed from (k + 1) t asset_target (nodes_after k (holder_node g) (holder_node t) 1 (length_holder g) d) o.1 refl refl)
action_formed {w} {s} {from} k (pay_all g a) h d i =
    let o = both_of (holder_in s g) (ltb a s.parties) i in
    let z = node party_kind a 1 in
    whole_parts h (holder_formed from k g holder (first_part (holder_node g) z d) o.0 refl refl)
    (leaf_formed s from asset_target (node_is (k + 1) _ _ _ (nodes_after k (holder_node g) z 1 (length_holder g) d)) refl refl refl o.1)

-- (B) { S }
conditional_parts : {w : List ℕ} {s : Scope} {from k m n u : ℕ} → from ≤ k → Formed w s from k m condition → Blocked w s from (k + m) n u
    → argument_at w (k + (m + n)) ≡ n → Parts w s from k (m + n) u conditional_kind
unfolding whole_ok conditional_start ranges pick
conditional_parts {w} {s} {from} {k} {m} {n} {u} h a b e =
    let q : k + m + n ≡ k + (m + n) = omega arith in
    let l : k + (m + n) - argument_at w (k + (m + n)) ≡ k + m = omega arith in
    let o : block_ok w (k + (m + n)) (argument_at w (k + (m + n))) ≡ true = (λ i. block_ok w (sym q i) (e i)) ∙ ended_ok b.ended in
    let c : conditional_start w from (k + (m + n)) ≡ at k =
    pick_true _ _ _ (both_true _ _ (le-leb (argument_at w (k + (m + n))) (k + (m + n) - from) (omega arith)) o)
    ∙ ap (part_start w from condition) l ∙ part_start_lem from h a.part in
    record {
      region = same_region refl (omega arith) (join a.region b.region);
      of_parts = ap (statement_from w from (k + (m + n))) c;
    }

action_kind_lem : (a : Action) → (is_leaf (action_kind a) ≡ false) × (is_sort statement (action_kind a) ≡ true)
unfolding is_leaf is_sort ranges
action_kind_lem (assign e x) = (refl, refl)
action_kind_lem (send e a) = (refl, refl)
action_kind_lem (move e h t) = (refl, refl)
action_kind_lem (pay e h a) = (refl, refl)
action_kind_lem (move_all h t) = (refl, refl)
action_kind_lem (pay_all h a) = (refl, refl)

conditional_kind_lem : (is_leaf conditional_kind ≡ false) × (is_sort statement conditional_kind ≡ true)
unfolding is_leaf is_sort ranges
conditional_kind_lem = (refl, refl)

-- the statements' sizes count from the block's own first node, wherever the nodes begin
pub block_formed : {w : List ℕ} {s : Scope} {from : ℕ} (k : ℕ) (b : Block) → from ≤ k → Nodes w k (block_nodes b) → block_in s b ≡ true
    → Blocked w s from k (block_size b) (statements b)
unfolding block_nodes block_size block_in statements
block_formed k none h d i = record { region = empty; ended = nothing refl }
block_formed {w} {s} {from} k (perform b a) h d i =
    let p = both_of (block_in s b) (action_in s a) i in
    let m = block_size b in
    let n = parts_size a in
    let v : m + action_size a ≡ m + (n + 1) = omega (arith, parts_size_lem a) in
    let l : length (action_parts a) ≡ n * 3 = omega (arith, length_parts a, parts_size_lem a) in
    let r = rows k m n (block_nodes b) (action_parts a) (node (action_kind a) 0 (m + action_size a)) (length_block b) l d in
    let g : NodeIs w (k + (m + n)) (action_kind a) 0 (m + (n + 1)) = subst (λ (z : ℕ). NodeIs w (k + (m + n)) (action_kind a) 0 z) v (node_is (k + (m + n)) _ _ _ r.rest) in
    same_block (sym v) (omega arith)
    (statement_formed h (block_formed k b h r.first p.0) (action_formed (k + m) a (omega arith) r.second p.1) g (action_kind_lem a).0 (action_kind_lem a).1)
block_formed {w} {s} {from} k (conditional b t c) h d i =
    let p = both_of (block_in s b) (condition_in s t && block_in s c) i in
    let o = both_of (condition_in s t) (block_in s c) p.1 in
    let m = block_size b in
    let n = condition_size t in
    let v = block_size c in
    let z = node conditional_kind v (m + (n + v + 1)) in
    let x : Nodes w k (block_nodes b) = first_part (block_nodes b) (condition_nodes t ++ (block_nodes c ++ z)) d in
    let r = rows (k + m) n v (condition_nodes t) (block_nodes c) z (length_condition t) (length_block c) (nodes_after k (block_nodes b) (condition_nodes t ++ (block_nodes c ++ z)) m (length_block b) d) in
    let g : NodeIs w (k + m + (n + v)) conditional_kind v (m + (n + v + 1)) = node_is (k + m + (n + v)) _ _ _ r.rest in
    let q : k + m + (n + v) ≡ k + (m + (n + v)) = omega arith in
    let l : from ≤ k + m = omega arith in
    let y = conditional_parts l (condition_formed (k + m) t l r.first o.0) (block_formed (k + m + n) c (omega arith) r.second o.1) g.argument in
    same_block refl (omega arith)
    (statement_formed h (block_formed k b h x p.0) y (subst (λ (j : ℕ). NodeIs w j conditional_kind v (m + (n + v + 1))) q g) conditional_kind_lem.0 conditional_kind_lem.1)
block_formed k broken_block h d i = true_false (sym i)
