-- `groups::groups_of` meets its contract. Assumes nothing.
use mathlib.Core.Path.{◌≡◌, sym, ap, ◌∙◌}
use mathlib.Core.List.{List}
use Prim.Native.Nat.{ℕ, ◌<◌}
use native.Mathlib.Omega.{arith}
use lib.ListN.{get_or}
use Rattle.contract.specs.Decode.{contract_of}
use Rattle.contract_laws.proofs.Sound.{sound}
use Rattle.groups.specs.Groups.{max_names, first_of}
use Rattle.groups.proofs.Counting.{made_none, made_so, count_few, made_nameless, made_first, made_other, made_all}
use Rattle.groups.proofs.groups_of.Goals.{then-numbers_name+then-first-k, then-numbers_name+else-first-k, else-numbers_name}
use Rattle.groups.proofs.groups_of.Goals as goal

pub loop-k-init : goal.loop-k-init
loop-k-init c = made_none (contract_of c.args.terms.now.table.now)

pub overflow_add-count : goal.overflow_add-count
overflow_add-count c =
    let l = c.loop-k in
    omega (arith, count_few (contract_of c.args.terms.now.table.now) l.numbers l.count l.k l.invariant, c.loop-k-test.true, c.end_of-end.ensures.few)

pub loop-k-preserved : goal.loop-k-preserved
loop-k-preserved c =
    let a = c.args.terms.now in
    let k = contract_of a.table.now in
    let l = c.loop-k in
    let f = sound a.table.now a.whole in
    let h : l.k < max_names = omega (arith, c.loop-k-test.true, c.end_of-end.ensures.few) in
    let first : get_or c.firsts_of-firsts.result l.k 0 ≡ first_of k l.k = ap (λ (x : List ℕ). get_or x l.k 0) c.firsts_of-firsts.ensures in
    let named = sym c.numbers_name.ensures in
    elim c.if-numbers_name.branch [
      | then-numbers_name+then-first-k w ↦
          made_so k (made_first k l.numbers l.count l.k l.invariant f h (named ∙ w.if-numbers_name.true) (sym first ∙ w.if-first-k.true)) w.numbers-is w.count-is
      | then-numbers_name+else-first-k w ↦
          made_so k
          (made_other k l.numbers l.count l.k l.invariant f h (named ∙ w.if-numbers_name.true) (λ e. w.if-first-k.false (first ∙ e)) w.get_or.result
          (w.get_or.ensures ∙ ap (λ (i : ℕ). get_or l.numbers i 0) first)) w.numbers-is w.count-is
      | else-numbers_name w ↦ made_so k (made_nameless k l.numbers l.count l.k l.invariant (named ∙ w.if-numbers_name.false)) w.numbers-is w.count-is
    ]

pub returns : goal.returns
returns c =
    let l = c.loop-k in
    made_all (contract_of c.args.terms.now.table.now) l.numbers l.count l.k l.invariant (λ j h m. c.end_of-end.ensures.none j (omega (arith, h, c.loop-k-test.false)) m)
