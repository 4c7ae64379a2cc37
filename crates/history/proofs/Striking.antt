-- Refused steps can be struck out of a list: all others are answered as before, and the last state, the deposits and the payouts are
-- the same. Assumes nothing.
use mathlib.Core.Path.{◌≡◌, refl, sym, ap, ◌∙◌}
use mathlib.Core.Bool.{Bool, true, false, not}
use mathlib.Core.List.{List, [], ◌∷◌, ◌++◌}
use Prim.Native.Nat.{ℕ}
use Rattle.laws.specs.Choice.{pick}
use Rattle.laws.proofs.Choice.{true_false}
use Rattle.laws.specs.Lists.{keep}
use Rattle.contract.specs.Tree.{Contract}
use Rattle.contract.specs.Decode.{contract_of}
use Rattle.state.specs.declared.State.{State}
use Rattle.questions.specs.declared.Question.{Question}
use Rattle.outcomes.specs.declared.Outcome.{Outcome}
use Rattle.outcomes.specs.declared.Outcome.TheVariants.{Accepted, Failed, Refused}
use Rattle.machine.specs.Steps.{Request, agreement, call, firing, tick, jump}
use Rattle.history.specs.Histories.{Step, answer_to, Returned, returned, deposit, payouts_of, History, history, is_refused, Struck, end, stays, strikes, unrefused, stayed}
use Rattle.history.specs.Demand.{Same}
use Rattle.history.proofs.Untouched.{step_idle}

-- ---- a refused step

refused_same : (w : List ℕ) (s : State) (a : Step) → is_refused (answer_to w s a).outcome ≡ true → (answer_to w s a).state ≡ s
refused_same w s a = (step_idle w s a).state_same

no_deposit : (c : Contract) (s : State) (q : Request) (o : Outcome Question) → is_refused o ≡ true → deposit c s q o ≡ []
no_deposit c s (call i) (Accepted r) e = true_false (sym e)
no_deposit c s (call i) (Failed n) e = refl
no_deposit c s (call i) (Refused n) e = refl
no_deposit c s (agreement ps) o e = refl
no_deposit c s firing o e = refl
no_deposit c s tick o e = refl
no_deposit c s (jump T) o e = refl

no_payout : (r : Returned) (o : Outcome Question) → is_refused o ≡ true → payouts_of r o ≡ []
no_payout r (Accepted q) e = true_false (sym e)
no_payout r (Failed n) e = true_false (sym e)
no_payout r (Refused n) e = refl

-- ---- some refused steps struck out

-- one step before both
stays_same : {w : List ℕ} {s : State} {a : Step} {xs ys : List Step} {rs : List Returned} → Same w (answer_to w s a).state xs ys rs → Same w s (a ∷ xs) (a ∷ ys) (returned w s a ∷ rs)
unfolding history
stays_same {w} {s} {a} t =
    record {
      state = t.state;
      answer = ap (λ rs. returned w s a ∷ rs) t.answer;
      deposit = ap (λ ds. deposit (contract_of w) s a.request (answer_to w s a).outcome ++ ds) t.deposit;
      payout = ap (λ ls. payouts_of (returned w s a) (answer_to w s a).outcome ++ ls) t.payout;
    }

-- a refused one before the first
strikes_same : {w : List ℕ} {s : State} {a : Step} {xs ys : List Step} {rs : List Returned} → is_refused (answer_to w s a).outcome ≡ true
    → Same w (answer_to w s a).state xs ys rs → Same w s (a ∷ xs) ys rs
unfolding history
strikes_same {w} {s} {a} {xs} {ys} e t =
    let back : history w s ys ≡ history w (answer_to w s a).state ys = ap (λ (u : State). history w u ys) (sym (refused_same w s a e)) in
    record {
      state = ap (λ (h : History). h.state) back ∙ t.state;
      answer = ap (λ (h : History). h.answers) back ∙ t.answer;
      deposit =
          ap (λ (h : History). h.deposits) back ∙ t.deposit
          ∙ ap (λ ds. ds ++ (history w (answer_to w s a).state xs).deposits) (sym (no_deposit (contract_of w) s a.request (answer_to w s a).outcome e));
      payout =
          ap (λ (h : History). h.payouts) back ∙ t.payout
          ∙ ap (λ ls. ls ++ (history w (answer_to w s a).state xs).payouts) (sym (no_payout (returned w s a) (answer_to w s a).outcome e));
    }

pub struck_same : {w : List ℕ} {s : State} {xs ys : List Step} {rs : List Returned} → Struck w s xs ys rs → Same w s xs ys rs
unfolding history
struck_same end = record { state = refl; answer = refl; deposit = refl; payout = refl }
struck_same (stays r) = stays_same (struck_same r)
struck_same (strikes e r) = strikes_same e (struck_same r)

-- ---- all refused steps struck out

pub all_struck : (w : List ℕ) (s : State) (xs : List Step) → Struck w s xs (unrefused w s xs) (stayed (history w s xs).answers)
unfolding unrefused history keep pick
all_struck w s [] = end
all_struck w s (a ∷ xs) =
    let t = (answer_to w s a).state in
    let ys = unrefused w t xs in
    let rs = stayed (history w t xs).answers in
    go ys rs (is_refused (answer_to w s a).outcome) refl (all_struck w t xs)
  where
    go : (ys : List Step) (rs : List Returned) (b : Bool) → is_refused (answer_to w s a).outcome ≡ b → Struck w (answer_to w s a).state xs ys rs
        → Struck w s (a ∷ xs) (pick b ys (a ∷ ys)) (pick (not b) (returned w s a ∷ rs) rs)
    go ys rs true e r = strikes e r
    go ys rs false e r = stays r
