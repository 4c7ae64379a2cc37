-- The cases of a call. Assumes nothing.
use mathlib.Core.Path.{◌≡◌, refl, sym, ap, ◌∙◌}
use mathlib.Core.Bool.{true, false}
use mathlib.Core.List.{List}
use Prim.Native.Nat.{ℕ, ◌+◌, ◌-◌}
use lib.ListN.{length, drop}
use lib.IntN.{ℤ, pos}
use lib.Signed.{le_z}
use lib.Dec.{eqb}
use borrow.Author.Tests.{eq-eqb, ne_eqb}
use Rattle.laws.specs.Choice.{pick}
use Rattle.laws.proofs.Choice.{pick_true, pick_false}
use Rattle.contract.specs.Tree.{Contract, Function}
use Rattle.contract.specs.Decode.{condition_at, precondition_at, function_at, contract_of}
use Rattle.laws.specs.Lists.{every}
use Rattle.evaluation.specs.Memory.{Memory}
use Rattle.evaluation.specs.Meaning.{truth_of}
use Rattle.state.specs.declared.State.{State}
use Rattle.state.specs.States.{due_in}
use Rattle.std.specs.Prelude.{Option, Some, None, Ok, Err}
use Rattle.statements.specs.Running.{Work, memory_in}
use Rattle.outcomes.specs.declared.Stepped.{Stepped}
use Rattle.outcomes.specs.Outcomes.{refused}
use Rattle.holdings.specs.Holdings.{amounts}
use Rattle.machine.specs.Steps.{place_groups, begun, unless_refused, Invocation, precondition_holds, schedule, with_scheduled, finished, by_precondition, invoked, by_chosen, call_by_due, called}
use Rattle.machine.specs.Private.{naming, arguments, chosen_in, FoundIn, at_rest}
use Rattle.machine.proofs.Gates.{away}
use Rattle.machine.proofs.Functions.{choose_named}
use Rattle.numbers.specs.Numbers.{Truth}
use Rattle.questions.specs.declared.Question.{Question}
use Rattle.questions.specs.declared.Question.TheVariants as ask

module _ (w : List ℕ) (m : Memory) (first n : ℕ) where
  pub precondition_omitted : n ≡ 0 → Ok true ≡ precondition_holds m (precondition_at w first n)
  unfolding precondition_at precondition_holds
  precondition_omitted e = sym (ap (precondition_holds m) (pick_true _ _ _ (eq-eqb n 0 e)))

  pub precondition_given : (n ≡ 0 → ⊥) → truth_of m (condition_at w (first + n - 1)) ≡ precondition_holds m (precondition_at w first n)
  unfolding precondition_at precondition_holds
  precondition_given e = sym (ap (precondition_holds m) (pick_false _ _ _ (ne_eqb n 0 e)))

-- ---- the body has run
module _ (s : State) (n : ℕ) (f : Function) (v : List ℤ) (w : Work) where
  -- the body's end, where no question refused
  abbrev at_end : Stepped Question
  at_end = pick (every (λ a. eqb a 0) (drop 16 w.holdings)) (with_scheduled s w f.last (schedule (memory_in v s.clock w) s.clock n 0 f.events)) (refused s ask.ParametersEmpty)

  pub body_refused : (q : Question) → w.refusal ≡ Some q → refused s q ≡ finished s n f v w
  unfolding finished
  body_refused q e = sym (ap (λ (r : Option Question). unless_refused r (refused s) at_end) e)

  module _ (e : w.refusal ≡ None) where
    goes_on : finished s n f v w ≡ at_end
    unfolding finished
    goes_on = ap (λ (r : Option Question). unless_refused r (refused s) at_end) e

    pub parameters_left : every (λ a. eqb a 0) (drop 16 w.holdings) ≡ false → refused s ask.ParametersEmpty ≡ finished s n f v w
    parameters_left h = sym (goes_on ∙ pick_false _ _ _ h)

    pub parameters_none : every (λ a. eqb a 0) (drop 16 w.holdings) ≡ true → with_scheduled s w f.last (schedule (memory_in v s.clock w) s.clock n 0 f.events) ≡ finished s n f v w
    parameters_none h = sym (goes_on ∙ pick_true _ _ _ h)

-- ---- the arguments
module _ (g : ℕ → ℕ) (s : State) (v a : List ℤ) (n : ℕ) (f : Function) where
  pub wrong_values : (length v ≡ length f.values → ⊥) → refused s ask.ArgumentCount ≡ invoked g s (arguments v a) n f
  unfolding invoked
  wrong_values h = sym (pick_false _ _ _ (rw (ne_eqb (length v) (length f.values) h)))

  module _ (l : length v ≡ length f.values) where
    pub wrong_assets : (length a ≡ length f.parameters → ⊥) → refused s ask.ArgumentCount ≡ invoked g s (arguments v a) n f
    unfolding invoked
    wrong_assets h = sym (pick_false _ _ _ (rw (eq-eqb (length v) (length f.values) l) (ne_eqb (length a) (length f.parameters) h)))

    module _ (k : length a ≡ length f.parameters) where
      counted : invoked g s (arguments v a) n f ≡ pick (every (le_z (pos 0)) a) (by_precondition g s n f v (begun s (amounts a)) (precondition_holds (memory_in v s.clock (begun s (amounts a))) f.precondition)) (refused s ask.AssetArguments)
      unfolding invoked
      counted = pick_true _ _ _ (rw (eq-eqb (length v) (length f.values) l) (eq-eqb (length a) (length f.parameters) k))

      pub negative_asset : every (le_z (pos 0)) a ≡ false → refused s ask.AssetArguments ≡ invoked g s (arguments v a) n f
      negative_asset h = sym (counted ∙ pick_false _ _ _ h)

      module _ (h : every (le_z (pos 0)) a ≡ true) (w : Work) (b : w ≡ begun s (amounts a)) (t : Truth) (et : t ≡ precondition_holds (memory_in v s.clock w) f.precondition) where
        by_truth_lem : invoked g s (arguments v a) n f ≡ by_precondition g s n f v w t
        by_truth_lem =
            counted ∙ pick_true _ _ _ h
            ∙ (λ i. by_precondition g s n f v (sym b i) (precondition_holds (memory_in v s.clock (sym b i)) f.precondition))
            ∙ ap (by_precondition g s n f v w) (sym et)

        pub precondition_refused : (q : Question) → t ≡ Err q → refused s q ≡ invoked g s (arguments v a) n f
        precondition_refused q e = sym (by_truth_lem ∙ ap (by_precondition g s n f v w) e)

        pub precondition_false : t ≡ Ok false → refused s ask.Precondition ≡ invoked g s (arguments v a) n f
        precondition_false e = sym (by_truth_lem ∙ ap (by_precondition g s n f v w) e)

        pub precondition_true : t ≡ Ok true → by_precondition g s n f v w (Ok true) ≡ invoked g s (arguments v a) n f
        precondition_true e = sym (by_truth_lem ∙ ap (by_precondition g s n f v w) e)

-- ---- who calls
module _ (c : Contract) (s : State) (i : Invocation) (due : Option ℕ) (so : due ≡ due_in c s) where
  by_its_due : pick s.agreed (call_by_due c s i due) (refused s ask.Agreed) ≡ called c s i
  unfolding called
  by_its_due = ap (λ (d : Option ℕ). pick s.agreed (call_by_due c s i d) (refused s ask.Agreed)) so

  pub call_away : {q : Question} → Err q ≡ at_rest s due → refused s q ≡ called c s i
  call_away e = away s due (call_by_due c s i) (λ k. refl) e ∙ by_its_due

module _ (w : List ℕ) (s : State) (i : Invocation) (due : Option ℕ) (so : due ≡ due_in (contract_of w) s) (e : s.agreed ≡ true) where
  by_due : called (contract_of w) s i ≡ call_by_due (contract_of w) s i due
  by_due = sym (by_its_due (contract_of w) s i due so) ∙ pick_true s.agreed _ _ e

  module _ (d : due ≡ None) (r : Option ℕ) (f : FoundIn w s.state (naming i.caller i.function) r) where
    by_found : called (contract_of w) s i ≡ by_chosen (contract_of w) s i (chosen_in w r)
    by_found =
        by_due ∙ ap (call_by_due (contract_of w) s i) d
        ∙ ap (by_chosen (contract_of w) s i) (choose_named (contract_of w) s i 0 (contract_of w).functions ∙ f.same)

    pub call_unknown : r ≡ None → refused s ask.FunctionKnown ≡ called (contract_of w) s i
    call_unknown q = sym (by_found ∙ ap (λ (x : Option ℕ). by_chosen (contract_of w) s i (chosen_in w x)) q)

    pub call_found : (n : ℕ) → r ≡ Some n → invoked (place_groups (contract_of w) n) s (arguments i.values i.assets) n (function_at w n) ≡ called (contract_of w) s i
    unfolding invoked
    call_found n q = sym (by_found ∙ ap (λ (x : Option ℕ). by_chosen (contract_of w) s i (chosen_in w x)) q)
