-- `machine::Whole::take_call` meets its contract. Assumes nothing.
use Prim.Native.Nat.{ℕ, ◌+◌, ◌-◌}
use mathlib.Core.List.{List}
use mathlib.Core.Path.{◌≡◌, ◌∙◌}
use native.Mathlib.Omega.{arith}
use lib.ListN.{length, take, drop}
use Rattle.std.proofs.Common.{rules}
use Rattle.lines.specs.Lines.{asked}
use Rattle.contract.specs.Decode.{contract_of}
use Rattle.questions.specs.declared.Question.{Question}
use Rattle.outcomes.specs.declared.Stepped.{Stepped}
use Rattle.machine.specs.Private.{called_by, taken}
use Rattle.machine.proofs.Replies.{in_reply}
use Rattle.machine.proofs.Taken.{does_call}
use Rattle.machine.proofs.Whole.take_call.Goals as goal

pub returns : goal.returns
returns c =
    let r = c.args.call in
    let zs = c.args.numbers.now in
    let l : length zs ≡ 256 = search rules in
    let k = does_call (contract_of c.args.self.now.terms.table.now) c.args.s.now c.args.line.now (asked c.args.line.now) r zs c.requires.call c.requires.numbers in
    let w = contract_of c.args.self.now.terms.table.now in
    let does : List ℕ → List ℕ → ℕ → Stepped Question =
    λ x y n. called_by w c.args.s.now x y (take r.values zs) (take n (drop r.values zs)) in
    let q : r.values + r.assets - r.values ≡ r.assets = omega arith in
    let e : does c.between-caller.result.now c.between-function.result.now (r.values + r.assets - r.values) ≡ taken w c.args.s.now c.args.line.now =
    (λ i. does (c.between-caller.ensures i) (c.between-function.ensures i) (q i)) ∙ k.does in
    in_reply _ c.call_reply.ensures (c.call_on.ensures ∙ e)

pub overflow_add-end : goal.overflow_add-end
overflow_add-end c =
    let r = c.args.call in
    let zs = c.args.numbers.now in
    let l : length zs ≡ 256 = search rules in
    let k = does_call (contract_of c.args.self.now.terms.table.now) c.args.s.now c.args.line.now (asked c.args.line.now) r zs c.requires.call c.requires.numbers in
    omega (arith, k.room, l)

pub shared_ref_as_front-values : goal.shared_ref_as_front-values
shared_ref_as_front-values c =
    let r = c.args.call in
    let zs = c.args.numbers.now in
    let l : length zs ≡ 256 = search rules in
    let k = does_call (contract_of c.args.self.now.terms.table.now) c.args.s.now c.args.line.now (asked c.args.line.now) r zs c.requires.call c.requires.numbers in
    omega (arith, k.room, l)

pub slice_bounds-assets-end : goal.slice_bounds-assets-end
slice_bounds-assets-end c =
    let r = c.args.call in
    let zs = c.args.numbers.now in
    let l : length zs ≡ 256 = search rules in
    let k = does_call (contract_of c.args.self.now.terms.table.now) c.args.s.now c.args.line.now (asked c.args.line.now) r zs c.requires.call c.requires.numbers in
    omega (arith, k.room, l)
