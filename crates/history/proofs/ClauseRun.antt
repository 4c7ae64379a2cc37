-- The clause that a step runs is one of the contract's. Assumes nothing.
use mathlib.Core.Path.{◌≡◌, refl, sym, subst}
use mathlib.Core.Bool.{true, false}
use mathlib.Core.List.{List}
use Prim.Native.Nat.{ℕ, ◌<◌}
use lib.ListN.{length, get_or}
use lib.Dec.{ltb}
use borrow.Author.Tests.{ltb-true}
use Rattle.laws.proofs.Choice.{true_false}
use Rattle.laws.proofs.Truths.{both_left, both_right}
use Rattle.contract.specs.Tree.{Contract}
use Rattle.contract.specs.Decode.{contract_of}
use Rattle.state.specs.declared.State.{State}
use Rattle.std.specs.Prelude.{Option, Some}
use Rattle.state.specs.States.{blank, no_function, live, pending_ok, state_ok, due_in, pending_at}
use Rattle.state.proofs.Dues.{first_to_fire}
use Rattle.state.proofs.Each.{each_get_or}
use Rattle.state.proofs.Within.{within, live_ok}
use Rattle.questions.specs.declared.Question.{Question}
use Rattle.outcomes.specs.declared.Stepped.{Stepped}
use Rattle.machine.specs.Steps.{Chosen, Request, agreement, call, firing, tick, jump, Runs, function, event, neither, clause_chosen, clause_due, clause_run}
use Rattle.history.specs.Histories.{Step, answer_to, is_refused}
use Rattle.history.proofs.Cases.{ComesOut, refusal, agrees, calls, fires, fails, ticks, jumps, Answers, first_refusal, by_rule_lem, answered_so}

-- a function of the contract, or an event of one
abbrev pub ClauseOf : Contract → Runs → Type 0
ClauseOf c (function n) = n < length c.functions
ClauseOf c (event n j) = (n < length c.functions) × (j < length (get_or c.functions n no_function).events)
ClauseOf c neither = ⊥

-- a call and a firing run a clause, an agreement, a tick and a jump none
abbrev pub RunsAsAsked : Contract → Request → Runs → Type 0
RunsAsAsked c (agreement ps) r = r ≡ neither
RunsAsAsked c (call i) r = ClauseOf c r
RunsAsAsked c firing r = ClauseOf c r
RunsAsAsked c tick r = r ≡ neither
RunsAsAsked c (jump T) r = r ≡ neither

-- a pending event, in a state within question 4
pub pending_clause : (c : Contract) (s : State) (k : ℕ) → state_ok c s ≡ true → k < length (live s) → ClauseOf c (event (pending_at s k).function (pending_at s k).event)
unfolding pending_ok
pending_clause c s k o h =
    let p = pending_at s k in
    let e = each_get_or (live_ok c s (within c s o)) k blank h in (
      ltb-true p.function (length c.functions) (both_left _ _ e),
      ltb-true p.event (length (get_or c.functions p.function no_function).events) (both_left _ _ (both_right (ltb p.function (length c.functions)) _ e)),
    )

due_clause : (c : Contract) (s : State) (k : ℕ) → state_ok c s ≡ true → due_in c s ≡ Some k → ClauseOf c (clause_due s (due_in c s))
due_clause c s k o d = subst (λ (z : Option ℕ). ClauseOf c (clause_due s z)) (sym d) (pending_clause c s k o (first_to_fire c s k d).is_pending)

came_clause : {q : Request} (c : Contract) (s : State) {r : Stepped Question} → state_ok c s ≡ true → ComesOut c s q r → is_refused r.outcome ≡ false → RunsAsAsked c q (clause_run c s q)
came_clause c s o (refusal n) e = true_false e
came_clause c s o (agrees ps a) e = refl
came_clause c s o (calls i n f ps k) e = subst (λ (z : Chosen). ClauseOf c (clause_chosen z)) (sym k.runs) k.known
came_clause c s o (fires k a d h) e = due_clause c s k o d
came_clause c s o (fails k n a d h) e = due_clause c s k o d
came_clause c s o (ticks a d l) e = refl
came_clause c s o (jumps T a d l) e = refl

answer_clause : {w : List ℕ} {s : State} {a : Step} {r : Stepped Question} → Answers w s a r → is_refused r.outcome ≡ false → RunsAsAsked (contract_of w) a.request (clause_run (contract_of w) s a.request)
answer_clause (first_refusal n) e = true_false e
answer_clause {w} {s} (by_rule_lem p o h c) e = came_clause (contract_of w) s o c e

-- of every step that is not refused, a failed firing too
pub clause_run_lem : (w : List ℕ) (s : State) (a : Step) → is_refused (answer_to w s a).outcome ≡ false → RunsAsAsked (contract_of w) a.request (clause_run (contract_of w) s a.request)
clause_run_lem w s a e = answer_clause (answered_so w s a) e
