-- `tables::functions::functions_ok` meets its contract. Assumes nothing.
use mathlib.Core.Path.{◌≡◌, refl, sym, ap, ◌∙◌}
use Prim.Native.Nat.{◌<◌}
use native.Mathlib.Omega.{arith}
use Rattle.contract.specs.Rows.{function_row_of}
use Rattle.contract.specs.declared.TableHead.{TableHead}
use Rattle.contract.specs.Check.{function_ok, event_first, first_node, first_event}
use Rattle.laws.specs.Lists.{all_below}
use Rattle.contract.specs.Table.{word_at}
use Rattle.laws.proofs.Members.{all_more}
use Rattle.contract.proofs.Tests.{all_stop}
use Rattle.tables.proofs.Events.{ended, function_next, function_next_event}
use Rattle.tables.proofs.functions.functions_ok.Goals as goal

pub loop-i-init : goal.loop-i-init
unfolding all_below first_node first_event
loop-i-init c = (refl, refl, omega arith, omega arith, refl)

pub end-node-requires : goal.end-node-requires
end-node-requires c =
    let e = c.of-function.ensures in
    let w = c.args.table.now in
    let f = c.of-function.result.row in
    let read : f ≡ function_row_of w c.loop-i.i = c.of-function.result.read ∙ λ t. function_row_of (e.same_table t) (e.same_i t) in
    let ok : c.is_ok.result ≡ function_ok w c.loop-i.i = c.is_ok.ensures ∙ λ t. function_ok (e.same_table t) (e.same_i t) in
    let d = ended w c.loop-i.i f read (sym ok ∙ c.if-not-is_ok.false) in
    let last : event_first c.of-function.result.table.now c.of-function.result.i f.events ≡ event_first w c.loop-i.i f.events = λ t. event_first (e.same_table t) (e.same_i t) f.events in
    (omega (arith, d.room, c.requires.1), omega (arith, d.event, c.loop-i.invariant.1, c.loop-i.invariant.3, ap (λ (h : TableHead). h.functions) c.head-h.ensures, c.requires.0), d.few, omega (arith, last, d.end, c.requires.1))

pub overflow_add-event : goal.overflow_add-event
overflow_add-event c =
    let e = c.of-function.ensures in
    let w = c.args.table.now in
    let f = c.of-function.result.row in
    let read : f ≡ function_row_of w c.loop-i.i = c.of-function.result.read ∙ λ t. function_row_of (e.same_table t) (e.same_i t) in
    let ok : c.is_ok.result ≡ function_ok w c.loop-i.i = c.is_ok.ensures ∙ λ t. function_ok (e.same_table t) (e.same_i t) in
    let d = ended w c.loop-i.i f read (sym ok ∙ c.if-not-is_ok.false) in
    omega (arith, d.event, d.few, c.loop-i.invariant.1, c.loop-i.invariant.3, ap (λ (h : TableHead). h.functions) c.head-h.ensures, c.requires.0)

pub loop-i-preserved : goal.loop-i-preserved
loop-i-preserved c =
    let e = c.of-function.ensures in
    let w = c.args.table.now in
    let f = c.of-function.result.row in
    let read : f ≡ function_row_of w c.loop-i.i = c.of-function.result.read ∙ λ t. function_row_of (e.same_table t) (e.same_i t) in
    let ok : c.is_ok.result ≡ function_ok w c.loop-i.i = c.is_ok.ensures ∙ λ t. function_ok (e.same_table t) (e.same_i t) in
    let d = ended w c.loop-i.i f read (sym ok ∙ c.if-not-is_ok.false) in
    let last : event_first c.of-function.result.table.now c.of-function.result.i f.events ≡ event_first w c.loop-i.i f.events = λ t. event_first (e.same_table t) (e.same_i t) f.events in (
      c.end-node.ensures ∙ last ∙ function_next w c.loop-i.i f read,
      function_next_event w c.loop-i.i f read,
      omega (arith, c.end-node.ensures, last, d.end, c.requires.1),
      omega (arith, d.event, d.few, c.loop-i.invariant.1, c.loop-i.invariant.3),
      all_more _ _ c.loop-i.invariant.4 (sym ok ∙ c.if-not-is_ok.false),
    )

pub returns-then-not-is_ok : goal.returns-then-not-is_ok
returns-then-not-is_ok c =
    let e = c.of-function.ensures in
    let w = c.args.table.now in
    let h : c.loop-i.i < word_at w 6 = omega (arith, ap (λ (h : TableHead). h.functions) c.head-h.ensures) in
    let ok : c.is_ok.result ≡ function_ok w c.loop-i.i = c.is_ok.ensures ∙ λ t. function_ok (e.same_table t) (e.same_i t) in
    simp (sym (all_stop (function_ok w) c.loop-i.i (word_at w 6) h (sym ok ∙ c.if-not-is_ok.true)))
