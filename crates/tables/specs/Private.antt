-- What the code works with: what a part may be and where it starts, an event of a function.
use Rattle.std.specs.Prelude.{Option, Some, None, ℕ, ◌+◌, ◌-◌, ◌≤◌, Bool, false, ◌&&◌, List, [], ◌∷◌, eqb, leb, ltb}
use Rattle.laws.specs.Choice.{pick}
use Rattle.contract.specs.Limits.{max_nodes, max_events, max_values, max_parameters}
use Rattle.contract.specs.Table.{word_at, kind_at, size_at, function_word, value_move_kind, asset_move_kind, whole_move_kind, conditional_kind}
use Rattle.contract.specs.Fits.{Scope}
use Rattle.contract.specs.declared.Function.{Function}
use Rattle.contract.specs.Check as check
use Rattle.tables.specs.declared.nodes.Sort.{Sort}
use Rattle.tables.specs.declared.nodes.Sort.TheVariants.{Expression, Condition, Statement, Holder, AssetTarget, ValueTarget}

abbrev pub sort_of : Sort → check.Sort
sort_of Expression = check.expression
sort_of Condition = check.condition
sort_of Statement = check.statement
sort_of Holder = check.holder
sort_of AssetTarget = check.asset_target
sort_of ValueTarget = check.value_target

abbrev pub start_of : Option ℕ → check.Start
start_of (Some p) = check.at p
start_of None = check.nowhere

-- it starts at k or before
abbrev pub StartsBy : check.Start → ℕ → Type 0
StartsBy (check.at p) k = p ≤ k
StartsBy check.nowhere k = Unit

-- the node before `end` is of this sort and counts n nodes
abbrev pub ends_whole : List ℕ → check.Sort → ℕ → ℕ → Bool
ends_whole w s end n = check.is_sort s (kind_at w (end - 1)) && eqb (size_at w (end - 1)) n

-- the statements of a block that end before node p count n nodes
abbrev pub statements_before : List ℕ → ℕ → ℕ → ℕ → Bool
statements_before w from p n = ltb from p && ends_whole w check.statement p n

-- a statement whose parts are of these sorts, the last part first
abbrev pub statement_by : List ℕ → ℕ → ℕ → List check.Sort → Bool
statement_by w from k ss = check.statement_from w from k (check.parts_start w from ss k)

-- where the own parts of a statement of this kind start
abbrev pub statement_start : List ℕ → ℕ → ℕ → ℕ → check.Start
statement_start w from k kind =
    pick (eqb kind value_move_kind) (check.parts_start w from (check.value_target ∷ check.expression ∷ []) k)
    (pick (eqb kind asset_move_kind) (check.parts_start w from (check.asset_target ∷ check.holder ∷ check.expression ∷ []) k)
    (pick (eqb kind whole_move_kind) (check.parts_start w from (check.asset_target ∷ check.holder ∷ []) k)
    (pick (eqb kind conditional_kind) (check.conditional_start w from k) check.nowhere)))

-- a statement's part of whole_ok
abbrev pub statement_ok : List ℕ → ℕ → ℕ → ℕ → Bool
statement_ok w from k kind =
    pick (eqb kind value_move_kind) (statement_by w from k (check.value_target ∷ check.expression ∷ []))
    (pick (eqb kind asset_move_kind) (statement_by w from k (check.asset_target ∷ check.holder ∷ check.expression ∷ []))
    (pick (eqb kind whole_move_kind) (statement_by w from k (check.asset_target ∷ check.holder ∷ []))
    (pick (eqb kind conditional_kind) (check.statement_from w from k (check.conditional_start w from k)) false)))

-- a guard in the nodes from `first` up to `start`, and a handler of h nodes after it
unfoldable pub guarded_ok : List ℕ → Scope → ℕ → ℕ → ℕ → Bool
guarded_ok w c first start h =
    check.is_sort check.expression (kind_at w (start - 1))
    && (eqb (size_at w (start - 1) + first) start
    && (check.nodes_ok w c first (start - first)
    && check.body_ok w (check.scope_at w 0 0) start h))

-- a function's counts of nodes and events
abbrev pub sizes_ok : Function → Bool
sizes_ok f = leb f.precondition max_nodes && (leb f.body max_nodes && leb f.events max_events)

-- a function's states, party and counts of parameters
abbrev pub row_ok : List ℕ → Function → Bool
row_ok w f =
    ltb f.state (word_at w 3)
    && (ltb f.party (word_at w 0)
    && (ltb f.last (word_at w 3)
    && (leb f.values max_values && leb f.parameters max_parameters)))

-- event j of function i passes
abbrev pub event_passes : List ℕ → ℕ → ℕ → Bool
event_passes w i j =
    check.event_ok w (check.scope_at w (function_word w i 3) (function_word w i 4)) (check.event_first w i j) (function_word w i 8 + j)
