-- The questions that every step asks first. Assumes nothing.
use mathlib.Core.Path.{◌≡◌, refl, sym, ap, ◌∙◌}
use mathlib.Core.Bool.{Bool, true, false}
use mathlib.Core.List.{List}
use Prim.Native.Nat.{ℕ}
use native.Mathlib.Omega.{arith}
use lib.Dec.{leb}
use Rattle.laws.specs.Choice.{pick}
use Rattle.contract.specs.Tree.{Contract}
use Rattle.contract.specs.Decode.{contract_of}
use Rattle.contract.specs.Check.{passes}
use Rattle.state.specs.declared.State.{State}
use Rattle.state.specs.States.{state_ok, due_in}
use Rattle.outcomes.specs.declared.Stepped.{Stepped}
use Rattle.outcomes.specs.Outcomes.{refused}
use Rattle.std.specs.Prelude.{Option, Some, None, Result, Ok, Err}
use Rattle.tables.specs.declared.Passed.{Passed}
use Rattle.questions.specs.declared.Question.{Question}
use Rattle.questions.specs.declared.Question.TheVariants as ask
use Rattle.machine.specs.Steps.{ticked, step}
use Rattle.machine.specs.Private.{admission, admitted, rest_by, at_rest, ticked_with}

-- the table, or the first of the three tests that fails
abbrev pub first_of : List ℕ → Bool → Bool → Bool → Result (List ℕ) Question
first_of w a b c = pick a (pick b (pick c (Ok w) (Err ask.LabelRoom)) (Err ask.StateRanges)) (Err ask.TableCheck)

pub same_question : (p q : Question) → Some p ≡ Some q → p ≡ q
same_question p q e = cc

pub none_some : {A : Type 0} (q : Question) → Some q ≡ None → A
none_some q e = let z : ◌≡◌ {A = ℕ} 0 1 = cc in absurd (omega arith)

-- the three tests, and what they lead to
module _ {A : Type 0} (no : Question → A) (x : A) where
  pub stops : (w : List ℕ) (a b c : Bool) (q : Question) → Err q ≡ first_of w a b c → no q ≡ pick a (pick b (pick c x (no ask.LabelRoom)) (no ask.StateRanges)) (no ask.TableCheck)
  unfolding pick
  stops w false b c q e = let p : q ≡ ask.TableCheck = cc in ap no p
  stops w true false c q e = let p : q ≡ ask.StateRanges = cc in ap no p
  stops w true true false q e = let p : q ≡ ask.LabelRoom = cc in ap no p
  stops w true true true q e = cc

  pub goes : (w v : List ℕ) (a b c : Bool) → Ok v ≡ first_of w a b c → (v ≡ w) × (a ≡ true) × (x ≡ pick a (pick b (pick c x (no ask.LabelRoom)) (no ask.StateRanges)) (no ask.TableCheck))
  unfolding pick
  goes w v false b c e = cc
  goes w v true false c e = cc
  goes w v true true false e = cc
  goes w v true true true e = (cc, refl, refl)

module _ (w : List ℕ) (room : ℕ) (s : State) (r : Result Passed Question) (e : admitted r ≡ admission w room s) where
  pub refused_first : (f : Contract → Stepped Question) (q : Question) → r ≡ Err q → refused s q ≡ step w room s f
  unfolding admission step
  refused_first f q h = stops (refused s) (f (contract_of w)) w (passes w) (state_ok (contract_of w) s) (leb 64 room) q (sym (ap admitted h) ∙ e)

  module _ (x : Passed) (h : r ≡ Ok x) where
    pub same_table : x.table.now ≡ w
    unfolding admission
    same_table = (goes (refused s) (refused s ask.TableCheck) w _ (passes w) (state_ok (contract_of w) s) (leb 64 room) (sym (ap admitted h) ∙ e)).0

    pub asked : passes w ≡ true
    unfolding admission
    asked = (goes (refused s) (refused s ask.TableCheck) w _ (passes w) (state_ok (contract_of w) s) (leb 64 room) (sym (ap admitted h) ∙ e)).1

    pub stepped : (f : Contract → Stepped Question) → f (contract_of w) ≡ step w room s f
    unfolding admission step
    stepped f = (goes (refused s) (f (contract_of w)) w _ (passes w) (state_ok (contract_of w) s) (leb 64 room) (sym (ap admitted h) ∙ e)).2

-- ---- the questions of a tick, a jump and a call

module _ (s : State) (due : Option ℕ) where
  pub rests : {u : Unit} → Ok u ≡ at_rest s due → (s.agreed ≡ true) × (due ≡ None)
  unfolding at_rest pick
  rests {u} e = go s.agreed due refl refl e
    where
      go : (b : Bool) (d : Option ℕ) → s.agreed ≡ b → due ≡ d → Ok u ≡ pick b (rest_by d) (Err ask.Agreed) → (s.agreed ≡ true) × (due ≡ None)
      go true None p q r = (p, q)
      go true (Some k) p q r = cc
      go false d p q r = cc

  pub away : (g : Option ℕ → Stepped Question) → ((k : ℕ) → g (Some k) ≡ refused s ask.NothingDue) → {q : Question} → Err q ≡ at_rest s due → refused s q ≡ pick s.agreed (g due) (refused s ask.Agreed)
  unfolding at_rest pick
  away g h {q} e = go s.agreed due e
    where
      go : (b : Bool) (d : Option ℕ) → Err q ≡ pick b (rest_by d) (Err ask.Agreed) → refused s q ≡ pick b (g d) (refused s ask.Agreed)
      go true None r = cc
      go true (Some k) r = let p : q ≡ ask.NothingDue = cc in ap (refused s) p ∙ sym (h k)
      go false d r = let p : q ≡ ask.Agreed = cc in ap (refused s) p

-- ---- a tick by the event that is due
module _ (c : Contract) (s : State) {due : Option ℕ} (e : due ≡ due_in c s) where
  pub ticks_so : ticked_with s due ≡ ticked c s
  unfolding ticked
  ticks_so = ap (ticked_with s) e
