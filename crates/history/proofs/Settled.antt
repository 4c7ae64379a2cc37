-- The entries of settlement pages among the result lines of a history are its asset payouts, each with its step's rule and the clock after
-- it, at which its label was sent; question 61 passes each; their pages are the desk's file, and are accepted. Assumes nothing.
use mathlib.Core.Path.{◌≡◌, refl, sym, ap, ◌∙◌}
use mathlib.Core.Bool.{Bool, true, false, ◌&&◌, ◌||◌}
use mathlib.Core.List.{List, [], ◌∷◌, ◌++◌, map, map-append}
use Prim.Native.Nat.{ℕ, ◌/◌, ◌≤◌}
use lib.ListN.{length, take}
use lib.Dec.{eqb, leb, ltb}
use lib.IntN.{ℤ}
use borrow.Author.Tests.{eqb-true, le-leb}
use Rattle.laws.specs.Choice.{pick}
use Rattle.laws.specs.Lists.{every}
use Rattle.laws.proofs.Choice.{pick_true, true_false}
use Rattle.laws.proofs.Members.{every_head, every_tail, every_append}
use Rattle.laws.proofs.Truths.{both_left, both_right, both_true}
use Rattle.contract.specs.Limits.{top}
use Rattle.contract.specs.Tree.{Contract}
use Rattle.contract.specs.Decode.{contract_of}
use Rattle.contract.specs.Check.{passes, ranges}
use Rattle.state.specs.declared.State.{State}
use Rattle.state.specs.States.{with_pending}
use Rattle.statements.specs.declared.Label.{Label}
use Rattle.statements.specs.Running.{asset_label}
use Rattle.results.specs.declared.Report.{Report}
use Rattle.results.specs.Lines.{value_ok, report_ok}
use Rattle.pages.specs.Entries.{Entry, is_payout}
use Rattle.pages.specs.Page.{sixty}
use Rattle.pages.specs.Answers.{page_bytes, paged}
use Rattle.pages.specs.Gathering.{payouts}
use Rattle.pages.specs.Promises.{entries_in, taken, sheets_after, no_sheets, file_of, closed}
use Rattle.std.specs.Prelude.{Ok}
use Rattle.pages.proofs.Cuts.{every_sixty}
use Rattle.pages.proofs.Filling.{page_accepts}
use Rattle.pages.proofs.Gathers.{session_pages, waiting_all}
use Rattle.outcomes.specs.declared.Rule.{Rule}
use Rattle.outcomes.specs.declared.Rule.TheVariants.{Call, EventMatch}
use Rattle.questions.specs.declared.Question.{Question}
use Rattle.outcomes.specs.declared.Outcome.{Outcome}
use Rattle.outcomes.specs.declared.Outcome.TheVariants.{Accepted, Failed, Refused}
use Rattle.outcomes.specs.declared.Stepped.{Stepped}
use Rattle.step_reports.specs.Reports.{rule_number, report_of, report_by, label_report, label_reports}
use Rattle.machine.specs.Steps.{Request}
use Rattle.machine.specs.Sessions.{Said, asks, unread}
use Rattle.history.specs.Histories.{Step, answer_to, Returned, returned, payouts_in, payouts_of, history, within64}
use Rattle.history.specs.Untouched.{by_rule}
use Rattle.history.specs.Settled.{entry_by, entries_by, settled_by, settled, labels_in}
use Rattle.history.specs.Sessions.{steps_of, lines_of, told_by}
use Rattle.history.proofs.Cases.{body_ran, handler_ran, ComesOut, refusal, agrees, calls, fires, fails, ticks, jumps, Answers, first_refusal, by_rule_lem, answered_so}
use Rattle.history.proofs.Untouched.{step_idle}
use Rattle.history.proofs.GoodState.{Good}
use Rattle.history.proofs.StepsKeepGood.{step_good}
use Rattle.history.proofs.Count.{paid_by, payouts_left}
use Rattle.history.proofs.LabelsOk.{payout_ok, label_ok}
use Rattle.history.proofs.Reported.{Fine, step_fine}

-- ---- entries among result lines

-- labels after a step's line have its rule and clock
labels_settled : (r : Rule) (clock : ℕ) (ls : List Label) (rs : List Report)
    → payouts (rule_number r) clock (label_reports ls ++ rs) ≡ map (entry_by r clock) (payouts_in ls) ++ payouts (rule_number r) clock rs
unfolding payouts label_reports payouts_in pick
labels_settled r clock [] rs = refl
labels_settled r clock (l ∷ ls) rs = go (eqb l.kind 3) refl (labels_settled r clock ls rs)
  where
    go : (t : Bool) → eqb l.kind 3 ≡ t
        → payouts (rule_number r) clock (label_reports ls ++ rs) ≡ map (entry_by r clock) (payouts_in ls) ++ payouts (rule_number r) clock rs
        → pick t (record { kind = 3; party = l.party; rule = rule_number r; clock = clock; value = l.value; group = l.group } ∷ payouts (rule_number r) clock (label_reports ls ++ rs)) (payouts (rule_number r) clock (label_reports ls ++ rs))
        ≡ map (entry_by r clock) (pick t (l ∷ payouts_in ls) (payouts_in ls)) ++ payouts (rule_number r) clock rs
    go true e h =
        let k : l.kind ≡ 3 = eqb-true l.kind 3 e in
        λ i. record { kind = sym k i; party = l.party; rule = rule_number r; clock = clock; value = l.value; group = l.group } ∷ h i
    go false e h = h

-- a step's result lines, whatever rule and clock came before them; what follows them gives es
lines_settled : (r : Returned) → (by_rule r.left.outcome ≡ false → r.left.count ≡ 0) → (rs : List Report) (es : List Entry)
    → ((rule clock : ℕ) → payouts rule clock rs ≡ es) → (rule clock : ℕ)
    → payouts rule clock (lines_of r ++ rs) ≡ settled_by r ++ es
unfolding payouts report_by label_reports
lines_settled r none rs es h rule clock = go r.left.outcome none
  where
    go : (o : Outcome Question) → (by_rule o ≡ false → r.left.count ≡ 0)
        → payouts rule clock (report_of o r.left.state.state r.left.state.clock ∷ (label_reports (take r.left.count r.slice) ++ rs))
        ≡ entries_by o r.left.state.clock (payouts_of r o) ++ es
    go (Accepted a) n =
        let t = r.left.state.clock in
        labels_settled a t (take r.left.count r.slice) rs
        ∙ ap (λ (l : List Entry). map (entry_by a t) (payouts_in (take r.left.count r.slice)) ++ l) (h (rule_number a) t)
    go (Failed q) n = ap (λ (k : ℕ). payouts rule clock (label_reports (take k r.slice) ++ rs)) (n refl) ∙ h rule clock
    go (Refused q) n = ap (λ (k : ℕ). payouts rule clock (label_reports (take k r.slice) ++ rs)) (n refl) ∙ h rule clock

-- what is taken up, from any state and on any table
pub told_settled : (w : List ℕ) (slice : List Label) (s : State) (xs : List Said) (rule clock : ℕ)
    → let rs = (history w s (steps_of slice xs)).answers in
    payouts rule clock (told_by xs rs) ≡ settled rs
unfolding payouts steps_of told_by history settled
told_settled w slice s [] rule clock = refl
told_settled w slice s (unread n ∷ xs) rule clock = told_settled w slice s xs rule clock
told_settled w slice s (asks q ∷ xs) rule clock =
    let a : Step = record { request = q; slice = slice } in
    let t = (answer_to w s a).state in
    let rs = (history w t (steps_of slice xs)).answers in
    lines_settled (returned w s a) (step_idle w s a).no_labels (told_by xs rs) (settled rs) (told_settled w slice t xs) rule clock

-- ---- entries as labels

-- without rule and clock an entry is the label again
labels_back : (r : Rule) (clock : ℕ) (ls : List Label) → labels_in (map (entry_by r clock) ls) ≡ ls
labels_back r clock [] = refl
labels_back r clock (l ∷ ls) = ap (λ (k : List Label). l ∷ k) (labels_back r clock ls)

step_paid : (w : List ℕ) (s : State) (a : Step) → labels_in (settled_by (returned w s a)) ≡ payouts_of (returned w s a) (answer_to w s a).outcome
unfolding payouts_in
step_paid w s a = go (answer_to w s a).outcome (step_idle w s a).no_labels
  where
    go : (o : Outcome Question) → (by_rule o ≡ false → (answer_to w s a).count ≡ 0)
        → labels_in (entries_by o (answer_to w s a).state.clock (payouts_of (returned w s a) o)) ≡ payouts_of (returned w s a) o
    go (Accepted r) n = labels_back r (answer_to w s a).state.clock _
    go (Failed q) n = ap (λ (k : ℕ). payouts_in (take k (returned w s a).slice)) (sym (n refl))
    go (Refused q) n = refl

-- any list of steps, from any state and on any table
pub settled_paid : (w : List ℕ) (s : State) (xs : List Step) → labels_in (settled (history w s xs).answers) ≡ (history w s xs).payouts
unfolding history settled
settled_paid w s [] = refl
settled_paid w s (a ∷ xs) =
    map-append _ (settled_by (returned w s a)) (settled (history w (answer_to w s a).state xs).answers)
    ∙ (λ i. step_paid w s a i ++ settled_paid w (answer_to w s a).state xs i)

-- ---- question 61

-- one of the two rules, of calls and of firings
abbrev pub sends : Rule → Bool
sends r = eqb (rule_number r) 1 || eqb (rule_number r) 2

module _ (c : Contract) where
  -- a label of a call or a firing that is a payout
  entry_payable : (r : Rule) → sends r ≡ true → (clock : ℕ) → clock ≤ top
      → (l : Label) → label_ok c l ≡ true → eqb l.kind asset_label ≡ true → is_payout c (entry_by r clock l) ≡ true
  unfolding is_payout report_ok payout_ok
  entry_payable r e clock h l o k =
      let rest = ltb l.party (length c.parties) && value_ok c l.kind l.value in
      let said = both_left (report_ok c (label_report l)) (payout_ok l.kind l.value) o in
      let known = both_left (ltb l.party (length c.parties)) (value_ok c l.kind l.value) (both_right (ranges 1 l.kind 3) rest said) in
      let amount = sym (pick_true _ _ _ k) ∙ both_right (report_ok c (label_report l)) (payout_ok l.kind l.value) o in
      both_true (eqb l.kind 3) _ k (both_true (sends r) _ e (both_true (ltb l.party (length c.parties)) _ known (both_true (leb clock top) _ (le-leb clock top h) amount)))

  labels_payable : (r : Rule) → sends r ≡ true → (clock : ℕ) → clock ≤ top
      → (ls : List Label) → every (label_ok c) ls ≡ true → every (is_payout c) (map (entry_by r clock) (payouts_in ls)) ≡ true
  unfolding payouts_in every pick
  labels_payable r e clock h [] o = refl
  labels_payable r e clock h (l ∷ ls) o = go (eqb l.kind asset_label) refl (labels_payable r e clock h ls (every_tail (label_ok c) l ls o))
    where
      go : (t : Bool) → eqb l.kind asset_label ≡ t → every (is_payout c) (map (entry_by r clock) (payouts_in ls)) ≡ true
          → every (is_payout c) (map (entry_by r clock) (pick t (l ∷ payouts_in ls) (payouts_in ls))) ≡ true
      go true k q = both_true (is_payout c (entry_by r clock l)) _ (entry_payable r e clock h l (every_head (label_ok c) l ls o) k) q
      go false k q = q

  -- only calls and firings send
  came_payable : {s : State} {q : Request} {r : Stepped Question} → ComesOut c s q r → Fine c r → r.state.clock ≤ top
      → every (is_payout c) (entries_by r.outcome r.state.clock (paid_by r)) ≡ true
  unfolding payouts_in every
  came_payable (refusal n) f h = refl
  came_payable (agrees ps a) f h = refl
  came_payable {s} (calls i n g ps o) f h = labels_payable Call refl _ h (take (body_ran c s i n g).count (body_ran c s i n g).labels) f.labels
  came_payable {s} (fires k a d e) f h = labels_payable EventMatch refl _ h (take (handler_ran c s k).count (handler_ran c s k).labels) f.labels
  came_payable (fails k n a d e) f h = refl
  came_payable (ticks a d l) f h = refl
  came_payable (jumps T a d l) f h = refl

answer_payable : {w : List ℕ} {s : State} {a : Step} {r : Stepped Question} → Answers w s a r → Fine (contract_of w) r → r.state.clock ≤ top
    → every (is_payout (contract_of w)) (entries_by r.outcome r.state.clock (paid_by r)) ≡ true
unfolding every
answer_payable (first_refusal n) f h = refl
answer_payable {w} (by_rule_lem p o l k) f h = came_payable (contract_of w) k f h

-- any list of steps with 64-bit arguments, from a good state
pub settled_payable : (w : List ℕ) → passes w ≡ true → (s : State) → Good (contract_of w) s → (xs : List Step) → every (λ a. within64 a.request) xs ≡ true
    → every (is_payout (contract_of w)) (settled (history w s xs).answers) ≡ true
unfolding history settled every
settled_payable w p s g [] e = refl
settled_payable w p s g (a ∷ xs) e =
    let r = answer_to w s a in
    let in64 = every_head (λ a. within64 a.request) a xs e in
    let next : Good (contract_of w) r.state = step_good w p g a in64 in
    every_append (is_payout (contract_of w)) (settled_by (returned w s a)) (settled (history w r.state xs).answers)
    (ap (λ (ls : List Label). every (is_payout (contract_of w)) (entries_by r.outcome r.state.clock ls)) (payouts_left s g.assets.assets_length w a)
    ∙ answer_payable (answered_so w s a) (step_fine w p g a in64) next.clock)
    (settled_payable w p r.state next xs (every_tail (λ a. within64 a.request) a xs e))

-- ---- the clock of an entry

-- accepted by one of the two rules
abbrev sends_in : Outcome Question → Bool
sends_in (Accepted r) = sends r
sends_in (Failed n) = false
sends_in (Refused n) = false

came_left : {s : State} {q : Request} (c : Contract) {r : Stepped Question} → ComesOut c s q r → sends_in r.outcome ≡ true → r.state.clock ≡ s.clock
unfolding with_pending
came_left c (refusal n) h = refl
came_left c (agrees ps a) h = true_false (sym h)
came_left c (calls i n g ps o) h = refl
came_left c (fires k a d e) h = refl
came_left c (fails k n a d e) h = true_false (sym h)
came_left c (ticks a d l) h = true_false (sym h)
came_left c (jumps T a d l) h = true_false (sym h)

answer_left : {w : List ℕ} {s : State} {a : Step} {r : Stepped Question} → Answers w s a r → sends_in r.outcome ≡ true → r.state.clock ≡ s.clock
answer_left (first_refusal n) h = refl
answer_left {w} (by_rule_lem p o l k) h = came_left (contract_of w) k h

-- a call and a firing leave the clock, whatever the table and the state
pub clock_left : (w : List ℕ) (s : State) (a : Step) (r : Rule) → (answer_to w s a).outcome ≡ Accepted r → sends r ≡ true → (answer_to w s a).state.clock ≡ s.clock
clock_left w s a r e h = answer_left (answered_so w s a) (ap sends_in e ∙ h)

-- ---- the desk's file

-- a session's result lines, whose payouts are es, each within question 61
module _ (w : List ℕ) (p : passes w ≡ true) (rs : List Report) (es : List Entry) (e : payouts 0 0 rs ≡ es) (o : every (is_payout (contract_of w)) es ≡ true) where
  -- each page of es, by its own entries
  pub sixty_accepted : (n size : ℕ) → page_bytes ≤ size → paged w (sixty n es) size ≡ Ok tt
  sixty_accepted n size h = page_accepts w _ size p (every_sixty (is_payout (contract_of w)) n es o) h

  module _ (ns : List ℕ) (zs : List ℤ) (n : 300 ≤ length ns) (z : 60 ≤ length zs) where
    pub file_settled : closed (contract_of w) (sheets_after (contract_of w) (no_sheets ns zs) rs) ≡ file_of (contract_of w) es
    file_settled = (session_pages (contract_of w) ns zs rs n z).file ∙ ap (file_of (contract_of w)) e

    -- whatever waits after line r
    pub waiting_accepted : (size : ℕ) → page_bytes ≤ size → (before more : List Report) (r : Report) → rs ≡ before ++ (r ∷ more)
        → paged w (entries_in (taken (sheets_after (contract_of w) (no_sheets ns zs) before) r)) size ≡ Ok tt
    waiting_accepted size h before more r d =
        page_accepts w _ size p
        (waiting_all (is_payout (contract_of w)) (contract_of w) ns zs before more r n z (ap (every (is_payout (contract_of w))) (ap (payouts 0 0) (sym d) ∙ e) ∙ o)) h

    pub last_accepted : (size : ℕ) → page_bytes ≤ size → paged w (entries_in (sheets_after (contract_of w) (no_sheets ns zs) rs)) size ≡ Ok tt
    last_accepted size h =
        let q = length (payouts 0 0 rs) / 60 in
        ap (λ (l : List Entry). paged w l size) ((session_pages (contract_of w) ns zs rs n z).waiting ∙ ap (sixty q) e) ∙ sixty_accepted q size h
