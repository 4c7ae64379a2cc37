-- `state::first_due` meets its contract. Assumes nothing.
use Rattle.std.proofs.Common.{◌≡◌, sym, ap, ◌∙◌, length, arith, rules, Bool, Option, Some, None, option_map, MatchOption, IsSomeAnd, get_or, ℕ, ◌&&◌, ◌+◌, ◌<◌, List, drop, length}
use Rattle.std.proofs.lemmas.List.{get_or_default}
use Rattle.laws.specs.Choice.{pick}
use Rattle.laws.proofs.Choice.{pick_true, pick_false}
use Rattle.laws.proofs.Truths.{both_true, and_false}
use Rattle.contract.specs.Decode.{contract_of}
use Rattle.state.specs.declared.Pending.{Pending}
use Rattle.state.specs.States.{blank, is_due}
use Rattle.state.specs.Private.{due_at, takes_over}
use Rattle.state.proofs.First.{searched, one_turn, turns_end}
use Rattle.state.proofs.Dues.{search_finds}
use Rattle.state.proofs.State.first_due.Goals.{then-due_at+then-takes_over, else-due_at, else-due_at-via-then-due_at+else-takes_over, else-due_at-via-else-due_at}
use Rattle.state.proofs.State.first_due.Goals as goal

-- what is found after one more look
looked : (test : Pending → Bool) (l : List Pending) (d e : Option (ℕ × Pending)) (i : ℕ) (p : Pending) → i < length l → p ≡ get_or l i p
    → e ≡ pick (test p && takes_over d p) (Some (i, p)) d → searched test d i (drop i l) ≡ searched test e (i + 1) (drop (i + 1) l)
looked test l d e i p h q r = one_turn test l d i p h q ∙ ap (λ (x : Option (ℕ × Pending)). searched test x (i + 1) (drop (i + 1) l)) (sym r)

pub loop-i-preserved : goal.loop-i-preserved
loop-i-preserved c =
    let l = c.live-live.result.now in
    let i = c.loop-i.i in
    let p : Pending = get_or l i blank in
    let in_list : i < length l = omega arith in
    c.loop-i.invariant
    ∙ looked (due_at (contract_of c.args.table.now) c.args.self.now.clock c.args.self.now.state) l c.loop-i.found c.if-due_at.found i p in_list (get_or_default l i blank p in_list)
    (elim c.if-due_at.branch [
      | then-due_at+then-takes_over w ↦
          w.found-is ∙ sym (pick_true _ _ _ (both_true _ _ (sym c.due_at.ensures ∙ w.if-due_at.true) (sym w.takes_over.ensures ∙ w.if-takes_over.true)))
      | else-due_at w ↦
          w.found-is
          ∙ sym (pick_false _ _ _
          (elim w.else-due_at.branch [
            | else-due_at-via-then-due_at+else-takes_over w' ↦
                ap (λ (b : Bool). due_at (contract_of c.args.table.now) c.args.self.now.clock c.args.self.now.state p && b) (sym w'.takes_over.ensures ∙ w'.if-takes_over.false) ∙ and_false _
            | else-due_at-via-else-due_at w' ↦
                ap (λ (b : Bool). b && takes_over c.loop-i.found p) (sym c.due_at.ensures ∙ w'.if-due_at.false)
          ]))
    ])

-- the place of what was found
placed : {A : Type 0} (d : Option (ℕ × A)) (r : Option ℕ) (Q : (ℕ × A) → ℕ → Type 0) → ((x : ℕ × A) (k : ℕ) → Q x k → k ≡ x.0)
    → MatchOption d (r ≡ None) (λ x. IsSomeAnd r (Q x)) → r ≡ option_map (λ x. x.0) d
placed None r Q f h = h
placed (Some x) None Q f h = absurd h
placed (Some x) (Some k) Q f h = ap Some (f x k h)

pub returns : goal.returns
unfolding is_due due_at
returns c =
    let l = c.live-live.result.now in
    let e = c.loop-i.invariant ∙ turns_end (is_due (contract_of c.args.table.now) c.args.self.now) l c.loop-i.found c.loop-i.i c.loop-i-test.false in
    placed c.loop-i.found c.map.result _ (λ x k q. search rules) c.map.ensures.cases
    ∙ ap (option_map (λ x. x.0)) (sym e)
    ∙ ap (λ (ps : List Pending). option_map (λ x. x.0) (searched (is_due (contract_of c.args.table.now) c.args.self.now) None 0 ps)) c.live-live.ensures.value
    ∙ search_finds (contract_of c.args.table.now) c.args.self.now
