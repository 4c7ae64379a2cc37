-- The starred cases come out as they must. Assumes nothing.
use mathlib.Core.Path.{◌≡◌, refl, sym, ap, subst, ◌∙◌}
use mathlib.Core.Bool.{Bool, true, ◌&&◌}
use mathlib.Core.List.{List, [], ◌∷◌}
use Rattle.laws.specs.Choice.{pick}
use Rattle.laws.proofs.Choice.{pick_true}
use Rattle.laws.specs.Bytes.{same_bytes}
use Rattle.laws.proofs.Members.{every_head, every_tail}
use Rattle.laws.proofs.Truths.{both_left, both_right}
use Rattle.numbers.specs.Numbers.{in_range, divided}
use Rattle.laws.specs.Lists.{every, repeated, all_below}
use Rattle.tokens.specs.Classes.{within, is_letter, is_name_byte, is_string_byte}
use Rattle.contract.specs.Tree.{Contract}
use Rattle.contract.specs.Sizes.{statements, expression_size, condition_size, precondition_size, action_size, block_size, event_size, events_size, function_size}
use Rattle.contract.specs.Fits.{total, is_name, is_string, holder_in, expression_in, condition_in, action_in, block_in, precondition_in, scope_of, event_in, function_in, clause_in, words_in, has_clause, fits}
use Rattle.contract.specs.Encode.{encode}
use Rattle.contract_laws.proofs.Passing.{passing}
use Rattle.contract_laws.proofs.RoundTrip.{decode_encode}
use Rattle.evaluation.specs.Meaning.{field_value, value_of, truth_of}
use Rattle.state.specs.declared.State.{State}
use Rattle.state.specs.States.{fresh_at, event_of, with_pending, is_due, stands_before, is_foremost, first_due, due_in, field_ok, field_slot_ok, asset_slot_ok, pending_ok, is_blank, pending_slot_ok, state_ok}
use Rattle.statements.specs.Running.{onward, labelled, moved, paid, performed, ran}
use Rattle.outcomes.specs.Outcomes.{no_labels}
use Rattle.holdings.specs.Holdings.{amounts}
use Rattle.machine.specs.Steps.{answers_to, choose, precondition_holds, schedule, finished, invoked, called, ticked, Request, requested, step}
use Rattle.history.specs.Histories.{answer_to}
use Rattle.history.specs.Cases.{Case, works_out, moves, steps, Result, after_step, cases, expected, result, results}

-- ---- questions 3, 4 and 20

-- a case that they let pass
abbrev passed : Case → Bool
passed (works_out e) = true
passed (moves a b m) = true
passed (steps c s q) = fits c && state_ok c s

-- its result without them
abbrev direct : Case → Result
direct (works_out e) = result (works_out e)
direct (moves a b m) = result (moves a b m)
direct (steps c s q) = after_step (requested s q c)

unfoldable directs : List Case → List Result
directs [] = []
directs (c ∷ cs) = direct c ∷ directs cs

-- the table of a contract that fits passes, and is the contract's
step_direct : (c : Contract) (s : State) (q : Request) → fits c ≡ true → state_ok c s ≡ true
    → answer_to (encode c) s (record { request = q; slice = no_labels }) ≡ requested s q c
unfolding answer_to step repeated
step_direct c s q f o =
    pick_true _ _ _ (passing c f) ∙ pick_true _ _ _ (subst (λ (d : Contract). state_ok d s ≡ true) (sym (decode_encode c f)) o) ∙ pick_true _ _ _ refl
    ∙ ap (requested s q) (decode_encode c f)

case_direct : (c : Case) → passed c ≡ true → result c ≡ direct c
case_direct (works_out e) h = refl
case_direct (moves a b m) h = refl
case_direct (steps c s q) h = ap after_step (step_direct c s q (both_left (fits c) (state_ok c s) h) (both_right (fits c) (state_ok c s) h))

all_direct : (cs : List Case) → every passed cs ≡ true → results cs ≡ directs cs
unfolding results directs
all_direct [] h = refl
all_direct (c ∷ cs) h = (λ i. case_direct c (every_head passed c cs h) i ∷ all_direct cs (every_tail passed c cs h) i)

-- ---- by computation

all_passed : every passed cases ≡ true
unfolding is_letter is_name_byte is_string_byte within statements expression_size condition_size precondition_size action_size block_size event_size events_size function_size
    total is_name is_string holder_in expression_in condition_in action_in block_in precondition_in scope_of event_in function_in clause_in words_in has_clause fits
    pick every all_below repeated fresh_at with_pending field_ok field_slot_ok asset_slot_ok pending_ok is_blank pending_slot_ok state_ok
all_passed = refl

all_worked : directs cases ≡ expected
unfolding pick same_bytes in_range divided every field_value value_of truth_of repeated fresh_at event_of with_pending is_due stands_before is_foremost first_due due_in onward labelled moved paid performed ran amounts answers_to choose precondition_holds schedule finished invoked called ticked directs
all_worked = refl

pub worked : results cases ≡ expected
worked = all_direct cases all_passed ∙ all_worked
