-- `machine::Called::schedule` meets its contract. Assumes nothing.
use borrow.Author.Rules.{rules}
use mathlib.Core.Path.{◌≡◌, sym, ap, ◌∙◌}
use native.Mathlib.Omega.{arith}
use mir.Val.{to_z, of_z}
use mir.Syntax.{w64}
use Rattle.std.specs.Prelude.{Ok}
use Rattle.contract.specs.Decode.{function_at}
use Rattle.evaluation.specs.Memory.{memory_of}
use Rattle.state.specs.declared.State.{State}
use lib.ListN.{length}
use Rattle.machine.specs.Private.{scheduled_state}
use Rattle.machine.proofs.Functions.{placed, row_events, events_count, event_here}
use Rattle.machine.proofs.Tests.{too_early, in_time}
use Rattle.machine.proofs.Schedules.{joined_all, joined_none, joined_more, joined_same, all_scheduled, guard_refused, guard_text}
use Rattle.machine.proofs.Concluded.{over_full, all_join}
use Rattle.machine.proofs.Called.schedule.Goals.{in-Some, in_default-not_before}
use Rattle.machine.proofs.Called.schedule.Goals as goal

pub loop-j-init : goal.loop-j-init
loop-j-init c =
    joined_none _ _ _ _ _

pub returns-in_default : goal.returns-in_default
returns-in_default c =
    let table = c.args.self.now.whole.terms.table.now in
    let l = c.loop-j in
    let s = c.args.s.now in
    let m = memory_of c.args.memory.now.kinds.now c.args.memory.now.numbers.now c.args.memory.now.texts.now c.args.memory.now.holdings.now c.args.memory.now.values.now s.clock in
    let f = function_at table c.args.self.now.n in
    sym (ap (scheduled_state s) (guard_refused m s.clock c.args.self.now.n c.clear_rest.new.self f.events l.s l.joined l.j l.invariant (omega (arith, events_count table c.args.self.now.n _ c.args.self.now.read, c.loop-j-test.true)) _ (event_here table c.args.self.now.n _ c.args.self.now.read l.j c.loop-j-test.true) _ c.guard-answer.ensures _ c.unwrap_err.ensures))

pub returns-in_default-value : goal.returns-in_default-value
returns-in_default-value c =
    let table = c.args.self.now.whole.terms.table.now in
    let l = c.loop-j in
    let s = c.args.s.now in
    let m = memory_of c.args.memory.now.kinds.now c.args.memory.now.numbers.now c.args.memory.now.texts.now c.args.memory.now.holdings.now c.args.memory.now.values.now s.clock in
    let f = function_at table c.args.self.now.n in
    sym (ap (scheduled_state s) (guard_text m s.clock c.args.self.now.n c.clear_rest.new.self f.events l.s l.joined l.j l.invariant (omega (arith, events_count table c.args.self.now.n _ c.args.self.now.read, c.loop-j-test.true)) _ (event_here table c.args.self.now.n _ c.args.self.now.read l.j c.loop-j-test.true) _ c.guard-answer.ensures _ (c.in-Ok.is ∙ ap Ok c.in_default-value.is)))

pub returns-then-full : goal.returns-then-full
returns-then-full c =
    let table = c.args.self.now.whole.terms.table.now in
    let l = c.loop-j in
    let s = c.args.s.now in
    let m = memory_of c.args.memory.now.kinds.now c.args.memory.now.numbers.now c.args.memory.now.texts.now c.args.memory.now.holdings.now c.args.memory.now.values.now s.clock in
    let f = function_at table c.args.self.now.n in
    over_full s _ l.invariant.ps (all_scheduled m s.clock c.args.self.now.n c.clear_rest.new.self f.events l.s l.joined l.j l.invariant (omega (arith, events_count table c.args.self.now.n _ c.args.self.now.read, c.loop-j-test.false))) (omega (arith, c.if-full.true, l.invariant.many, ap length c.live.ensures.value, c.live.ensures.at_most))

pub returns : goal.returns
returns c =
    let table = c.args.self.now.whole.terms.table.now in
    let l = c.loop-j in
    let s = c.args.s.now in
    let m = memory_of c.args.memory.now.kinds.now c.args.memory.now.numbers.now c.args.memory.now.texts.now c.args.memory.now.holdings.now c.args.memory.now.values.now s.clock in
    let f = function_at table c.args.self.now.n in
    all_join s _ l.invariant.ps (all_scheduled m s.clock c.args.self.now.n c.clear_rest.new.self f.events l.s l.joined l.j l.invariant (omega (arith, events_count table c.args.self.now.n _ c.args.self.now.read, c.loop-j-test.false))) (omega (arith, c.if-full.false, l.invariant.many, ap length c.live.ensures.value, c.live.ensures.at_most)) l.s (l.invariant.state ∙ ap (λ (x : State). joined_all x l.invariant.ps) c.clear_rest.ensures.value)

pub overflow_cast-self : goal.overflow_cast-self
overflow_cast-self c =
    omega (arith, (placed c.args.self.now.whole.terms.table.now c.args.self.now.whole.terms.whole c.args.self.now.n c.args.self.now.inside).number)

pub overflow_cast-j : goal.overflow_cast-j
overflow_cast-j c =
    let p = placed c.args.self.now.whole.terms.table.now c.args.self.now.whole.terms.whole c.args.self.now.n c.args.self.now.inside in
    omega (arith, row_events c.args.self.now.whole.terms.table.now c.args.self.now.n _ c.args.self.now.read p, c.loop-j-test.true)

pub loop-j-preserved : goal.loop-j-preserved
loop-j-preserved c =
    let table = c.args.self.now.whole.terms.table.now in
    let l = c.loop-j in
    let s = c.args.s.now in
    let m = memory_of c.args.memory.now.kinds.now c.args.memory.now.numbers.now c.args.memory.now.texts.now c.args.memory.now.holdings.now c.args.memory.now.values.now s.clock in
    let f = function_at table c.args.self.now.n in
    let e : to_z w64 (of_z w64 c.in-Integer.z) ≡ c.in-Integer.z = search rules in
    elim c.match-not_before.branch [
      | in-Some w ↦
          let n = in_time _ c.not_before.ensures e w.in-Some.is in
          joined_more m s.clock c.args.self.now.n c.clear_rest.new.self f.events l.s l.joined l.j l.invariant (omega (arith, events_count table c.args.self.now.n _ c.args.self.now.read, c.loop-j-test.true)) _ (event_here table c.args.self.now.n _ c.args.self.now.read l.j c.loop-j-test.true) _ c.guard-answer.ensures c.in-Integer.z (c.in-Ok.is ∙ ap Ok c.in-Integer.is) n.0 _ n.1 _ (w.s-is ∙ w.join.ensures) _ w.joined-is
      | in_default-not_before w ↦
          joined_same m s.clock c.args.self.now.n c.clear_rest.new.self f.events l.s l.joined l.j l.invariant (omega (arith, events_count table c.args.self.now.n _ c.args.self.now.read, c.loop-j-test.true)) _ (event_here table c.args.self.now.n _ c.args.self.now.read l.j c.loop-j-test.true) _ c.guard-answer.ensures c.in-Integer.z (c.in-Ok.is ∙ ap Ok c.in-Integer.is) (too_early _ c.not_before.ensures e w.in_default-not_before.is) _ w.s-is _ w.joined-is
    ]
