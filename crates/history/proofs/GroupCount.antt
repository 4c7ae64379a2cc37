-- The count of each group by itself: what calls have brought into it is what the state holds of it and what has been paid out of it; and each
-- payout is of a group. Assumes nothing.
use mathlib.Core.Path.{◌≡◌, refl, sym, ap, subst, ◌∙◌}
use mathlib.Core.Bool.{Bool, true, false}
use mathlib.Core.List.{List, [], ◌∷◌, ◌++◌}
use Prim.Native.Nat.{ℕ, suc, ◌+◌, ◌-◌, ◌*◌, ◌<◌}
use native.Mathlib.Omega.{arith}
use lib.ListN.{length, get_or}
use lib.Seq.{take_all}
use lib.Dec.{eqb, ltb}
use lib.IntN.{ℤ, pos, nat_abs, ◌+ℤ◌}
use lib.Signed.{le_z}
use borrow.Author.Tests.{lt-ltb, le-ltb}
use Rattle.laws.specs.Choice.{pick}
use Rattle.laws.specs.Lists.{every, repeated, keep}
use Rattle.laws.proofs.Choice.{pick_true, pick_false, by_cases}
use Rattle.laws.proofs.Truths.{both_true}
use Rattle.laws.proofs.Members.{every_head, every_tail, every_append, every_at, repeated_length}
use Rattle.contract.specs.Limits.{max_assets}
use Rattle.contract.specs.Tree.{Function, Contract}
use Rattle.contract.specs.Decode.{contract_of}
use Rattle.contract.specs.Fits.{block_in, scope_of, scope_in, function_in, fits}
use Rattle.contract.proofs.Fitting.{fits_function, fits_contract}
use Rattle.contract.specs.Check.{passes}
use Rattle.contract_laws.proofs.Inversions.{by_test}
use Rattle.contract_laws.proofs.Sound.{sound}
use Rattle.state.specs.declared.State.{State}
use Rattle.state.specs.declared.Pending.{Pending}
use Rattle.state.specs.States.{blank, no_function, fresh_at, live, with_pending, removed, lapsed, times_until_due, event_of}
use Rattle.state.proofs.Passing.{passed_assets}
use Rattle.statements.specs.declared.Label.{Label}
use Rattle.outcomes.specs.declared.Outcome.{Outcome}
use Rattle.outcomes.specs.declared.Rule.TheVariants.{Call}
use Rattle.outcomes.specs.declared.Outcome.TheVariants.{Accepted, Refused}
use Rattle.outcomes.specs.declared.Stepped.{Stepped}
use Rattle.holdings.specs.Holdings.{amounts}
use Rattle.groups.specs.Groups.{first_parameter, block_moves, numbers_name, group_of, groups}
use Rattle.groups.specs.Chains.{is_group}
use Rattle.groups.proofs.NamesAlone.{Named}
use Rattle.machine.specs.Steps.{choose, Request, agreement, call, firing, tick, jump}
use Rattle.history.specs.Histories.{Step, answer_to, returned, Deposit, deposits_to, deposits_by, deposit, payouts_in, payouts_of, History, history, total, amounts_of, values_of, weighed, group_deposits, group_payouts, in_group, group_holdings}
use Rattle.history.proofs.AmountSums.{paid_out, evenly, is_amount, brings, brought, weighed_zeros, alike_anywhere, paid_append, brought_append, total_brought, total_paid}
use Rattle.history.proofs.ContractBounds.{BoundedFunction, BoundedEvent, bounded}
use Rattle.history.proofs.Cases.{event_at, ComesOut, refusal, agrees, calls, fires, fails, ticks, jumps, Answers, first_refusal, by_rule_lem, answered_so}
use Rattle.history.proofs.Grouping.{level, groups_are, deposits_grouped, of_group, of_a_group, by_label, by_place, block_respects, body_names, handler_names, body_level, handler_level_of}
use Rattle.history.proofs.Count.{paid_by, refused_brings, call_weighs, firing_weighs, set_clauses_assets, payouts_left, step_counted, counts}
use Rattle.questions.specs.declared.Question.{Question}

-- ---- sums

-- weights that are the same at these places
weighed_same : (f g : ℕ → ℕ) (j : ℕ) (l : List ℕ) → ((i : ℕ) → i < j + length l → f i ≡ g i) → weighed f j l ≡ weighed g j l
unfolding weighed
weighed_same f g j [] h = refl
weighed_same f g j (x ∷ l) h = (λ i. h j (omega arith) i * x + weighed_same f g (suc j) l (λ m r. h m (omega arith)) i)

module _ (c : Contract) (t : fits c ≡ true) (k n : ℕ) where
  -- assets weigh the same in each function
  assets_alike : (l : List ℕ) → length l ≡ max_assets → weighed (by_place c k n) 0 l ≡ weighed (in_group c k) 0 l
  assets_alike l e =
      weighed_same _ _ 0 l
      (λ i h. ap (of_group k) (ap (λ (m : ℕ). get_or (groups c) m 0) (pick_true (ltb i 16) i (first_parameter n + (i - 16)) (lt-ltb i 16 (omega (arith, e)))) ∙ groups_are c t i))

  -- what goes to the parameters of a group
  parameters_brought : (j m : ℕ) (zs : List ℤ) → m ≡ 16 + j → weighed (by_place c k n) m (amounts zs) ≡ brought (group_deposits k (deposits_to c n j zs))
  unfolding weighed amounts amounts_of deposits_to keep
  parameters_brought j m [] e = refl
  parameters_brought j m (z ∷ zs) e =
      let name = first_parameter n + j in
      let x : Deposit = record { group = group_of c name; amount = z } in
      let ds : List Deposit = group_deposits k (deposits_to c n (suc j) zs) in
      let d : first_parameter n + (m - 16) ≡ name = omega arith in
      let g : by_place c k n m ≡ of_group k (group_of c name) =
      ap (of_group k) (ap (λ (i : ℕ). get_or (groups c) i 0) (pick_false (ltb m 16) m (first_parameter n + (m - 16)) (le-ltb m 16 (omega arith)) ∙ d) ∙ groups_are c t name) in
      let r : weighed (by_place c k n) (suc m) (amounts zs) ≡ brought ds = parameters_brought (suc j) (suc m) zs (omega arith) in
      by_test (eqb (group_of c name) k)
      (λ q.
      let one : by_place c k n m ≡ 1 = g ∙ pick_true _ _ _ q in
      omega (arith, ap (λ (i : ℕ). i * nat_abs z) one, r, alike_anywhere 1 0 (amounts (amounts_of ds)), ap brought (pick_true (eqb (group_of c name) k) (x ∷ ds) ds q)))
      (λ q.
      let none : by_place c k n m ≡ 0 = g ∙ pick_false _ _ _ q in
      omega (arith, ap (λ (i : ℕ). i * nat_abs z) none, r, ap brought (pick_false (eqb (group_of c name) k) (x ∷ ds) ds q)))

-- payouts of a group
paid_group : (k : ℕ) (ls : List Label) → paid_out (by_label k) ls ≡ paid_out evenly (group_payouts k ls)
unfolding paid_out keep
paid_group k [] = refl
paid_group k (l ∷ ls) =
    let r : paid_out (by_label k) ls ≡ paid_out evenly (group_payouts k ls) = paid_group k ls in
    by_test (eqb l.group k)
    (λ t.
    let one : by_label k l ≡ 1 = pick_true _ _ _ t in
    omega (arith, r, ap (λ (i : ℕ). i * nat_abs l.value) one, ap (paid_out evenly) (pick_true (eqb l.group k) (l ∷ group_payouts k ls) (group_payouts k ls) t)))
    (λ t.
    let none : by_label k l ≡ 0 = pick_false _ _ _ t in
    omega (arith, r, ap (λ (i : ℕ). i * nat_abs l.value) none, ap (paid_out evenly) (pick_false (eqb l.group k) (l ∷ group_payouts k ls) (group_payouts k ls) t)))

-- what holds of all of a list holds of those that are kept
every_kept : {A : Type 0} (p q : A → Bool) (l : List A) → every p l ≡ true → every p (keep q l) ≡ true
unfolding every keep
every_kept p q [] e = refl
every_kept p q (x ∷ l) e =
    by_cases (λ m. every p m ≡ true) _ _ _ (λ _. both_true (p x) _ (every_head p x l e) (every_kept p q l (every_tail p x l e))) (λ _. every_kept p q l (every_tail p x l e))

keep_append : {A : Type 0} (q : A → Bool) (a b : List A) → keep q (a ++ b) ≡ keep q a ++ keep q b
unfolding keep pick
keep_append q [] b = refl
keep_append q (x ∷ a) b = go (q x) (keep_append q a b)
  where
    go : (t : Bool) → keep q (a ++ b) ≡ keep q a ++ keep q b → pick t (x ∷ keep q (a ++ b)) (keep q (a ++ b)) ≡ pick t (x ∷ keep q a) (keep q a) ++ keep q b
    go true e = ap (λ l. x ∷ l) e
    go false e = e

group_brought : (k : ℕ) (a b : List Deposit) → brought (group_deposits k (a ++ b)) ≡ brought (group_deposits k a) + brought (group_deposits k b)
group_brought k a b = ap brought (keep_append (λ d. eqb d.group k) a b) ∙ brought_append (group_deposits k a) (group_deposits k b)

-- ---- a step

-- what comes into the group is what the state then holds more and what is paid out; each deposit and each payout is of a group
pub record Grows (c : Contract) (k : ℕ) (q : Request) (s : State) (r : Stepped Question) : Type 0 where
  pub weight : brought (group_deposits k (deposit c s q r.outcome)) + group_holdings c k s ≡ group_holdings c k r.state + paid_out (by_label k) (paid_by r)
  pub deposits : every (λ d. is_group c d.group) (deposit c s q r.outcome) ≡ true
  pub payouts : every (of_a_group c) (paid_by r) ≡ true

module _ (c : Contract) (t : fits c ≡ true) (k : ℕ) {s : State} (l : length s.assets ≡ max_assets) where
  quiet_grows : (q : Request) (o : Outcome Question) (x : State) (ls : List Label) → x.assets ≡ s.assets → deposit c s q o ≡ []
      → Grows c k q s (record { outcome = o; state = x; labels = ls; count = 0 })
  unfolding payouts_in every paid_out weighed amounts amounts_of keep
  quiet_grows q o x ls e d =
      record {
        weight = omega (arith, ap (λ (ds : List Deposit). brought (group_deposits k ds)) d, ap (weighed (in_group c k) 0) e);
        deposits = ap (every (λ d. is_group c d.group)) d;
        payouts = refl;
      }

  came_grows : {q : Request} {r : Stepped Question} → ComesOut c s q r → Grows c k q s r
  unfolding with_pending removed lapsed every amounts amounts_of keep weighed event_of scope_of
  came_grows (refusal {q = q} n) = quiet_grows q (Refused n) s _ refl (refused_brings c s q n)
  came_grows (agrees ps a) = quiet_grows (agreement ps) _ _ _ (set_clauses_assets s c.clauses ps) refl
  came_grows (calls i n f ps o) =
      let b = bounded c t in
      let q : BoundedFunction c f = subst (BoundedFunction c) o.function_is (b.functions n) in
      let few = (b.functions n).parameters_few in
      let z = fits_function c (get_or c.functions n no_function) (every_at (function_in c) c.functions (fits_contract c t).functions n o.known no_function) in
      let w = call_weighs (by_place c k n) (by_label k) (of_a_group c) l b i n f ps o
      (block_respects c k n t (scope_in c f) b.assets_few q.parameters_few
      (subst (λ (g : Function). Named (numbers_name c) (scope_in c g) (first_parameter n)) o.function_is (body_names c t n few)) f.body
      (subst (λ (g : Function). block_in (scope_in c g) g.body ≡ true) o.function_is z.body)
      (subst (λ (g : Function). every (level (group_of c)) (block_moves (first_parameter n) g.body) ≡ true) o.function_is (body_level c t n))) in
      let d : deposit c s (call i) (Accepted Call) ≡ deposits_to c n 0 i.assets = ap (deposits_by c i.assets) o.runs in
      let m : length (get_or c.functions n no_function).parameters ≡ length f.parameters = ap (λ (g : Function). length g.parameters) o.function_is in
      record {
        weight =
            omega (arith, w.weight, ap (λ (ds : List Deposit). brought (group_deposits k ds)) d, parameters_brought c t k n 0 16 i.assets refl, assets_alike c t k n s.assets l, assets_alike c t k n _ w.assets_length);
        deposits = ap (every (λ d. is_group c d.group)) d ∙ deposits_grouped c t n few 0 i.assets (omega (arith, o.assets, m));
        payouts = w.payouts;
      }
  came_grows (fires m a d h) =
      let b = bounded c t in
      let p : Pending = get_or (live s) m blank in
      let n = p.function in
      let e : BoundedEvent c (event_at c s m) = (b.functions n).events p.event in
      let w = firing_weighs (by_place c k n) (by_label k) (of_a_group c) {s = s} l b m (live (removed s m)) (event_at c s m).last
      (block_respects c k n t (scope_of c 0 0) b.assets_few (omega arith) (handler_names c t n) (event_at c s m).handler e.handler_in (handler_level_of c t n p.event)) in
      record { weight = omega (arith, w.weight, assets_alike c t k n s.assets l, assets_alike c t k n _ w.assets_length); deposits = refl; payouts = w.payouts }
  came_grows (fails m n a d h) = quiet_grows firing _ _ _ refl refl
  came_grows (ticks a d h) = quiet_grows tick _ _ _ refl refl
  came_grows (jumps T a d h) = quiet_grows (jump T) _ _ _ (passed_assets (times_until_due c (nat_abs T - s.clock) s) s) refl

  answer_grows : {w : List ℕ} {a : Step} {r : Stepped Question} → contract_of w ≡ c → Answers w s a r → Grows c k a.request s r
  answer_grows {a = a} e (first_refusal n) = quiet_grows a.request (Refused n) s _ refl (refused_brings c s a.request n)
  answer_grows {w = w} {a = a} {r = r} e (by_rule_lem p o h x) = came_grows (subst (λ (d : Contract). ComesOut d s a.request r) e x)

-- ---- lists of steps

pub record GroupCounts (c : Contract) (k : ℕ) (s : State) (h : History) : Type 0 where
  pub count : brought (group_deposits k h.deposits) + group_holdings c k s ≡ group_holdings c k h.state + paid_out (by_label k) h.payouts
  pub deposits : every (λ d. is_group c d.group) h.deposits ≡ true
  pub payouts : every (of_a_group c) h.payouts ≡ true

grows_from : (w : List ℕ) → fits (contract_of w) ≡ true → (k : ℕ) (s : State) (xs : List Step) → length s.assets ≡ max_assets → GroupCounts (contract_of w) k s (history w s xs)
unfolding history weighed amounts amounts_of keep every paid_out
grows_from w t k s [] l = record { count = omega arith; deposits = refl; payouts = refl }
grows_from w t k s (a ∷ xs) l =
    let c = contract_of w in
    let r = answer_to w s a in
    let h = history w r.state xs in
    let p = payouts_of (returned w s a) r.outcome in
    let d = deposit c s a.request r.outcome in
    let g : Grows c k a.request s r = answer_grows c t k l refl (answered_so w s a) in
    let x : GroupCounts c k r.state h = grows_from w t k r.state xs (step_counted l w a).weighs.assets_length in
    let q : p ≡ paid_by r = payouts_left s l w a in
    record {
      count = omega (arith, x.count, g.weight, group_brought k d h.deposits, paid_append (by_label k) p h.payouts, ap (paid_out (by_label k)) q);
      deposits = every_append (λ d. is_group c d.group) d h.deposits g.deposits x.deposits;
      payouts = every_append (of_a_group c) p h.payouts (ap (every (of_a_group c)) q ∙ g.payouts) x.payouts;
    }

-- from the fresh state
module _ (w : List ℕ) (e : passes w ≡ true) (clock : ℕ) (xs : List Step) where
  group_counts : (k : ℕ) → GroupCounts (contract_of w) k (fresh_at clock) (history w (fresh_at clock) xs)
  unfolding fresh_at
  group_counts k = grows_from w (sound w e) k (fresh_at clock) xs (repeated_length {A = ℕ} max_assets 0)

  pub all_deposits_grouped : every (λ d. is_group (contract_of w) d.group) (history w (fresh_at clock) xs).deposits ≡ true
  all_deposits_grouped = (group_counts 0).deposits

  pub all_payouts_grouped : every (of_a_group (contract_of w)) (history w (fresh_at clock) xs).payouts ≡ true
  all_payouts_grouped = (group_counts 0).payouts

  pub count_of_group : (k : ℕ)
      → let h = history w (fresh_at clock) xs in
      total (amounts_of (group_deposits k h.deposits)) ≡ pos (group_holdings (contract_of w) k h.state) +ℤ total (values_of (group_payouts k h.payouts))
  unfolding fresh_at
  count_of_group k =
      let c = contract_of w in
      let h = history w (fresh_at clock) xs in
      let g = group_counts k in
      let z : group_holdings c k (fresh_at clock) ≡ 0 =
      ap (weighed (in_group c k) 0) (sym (take_all max_assets (repeated max_assets 0) (omega (arith, repeated_length {A = ℕ} max_assets 0)))) ∙ weighed_zeros (in_group c k) 0 max_assets max_assets in
      let b : every brings (group_deposits k h.deposits) ≡ true = every_kept brings (λ d. eqb d.group k) h.deposits (counts w clock xs).deposits in
      let p : every is_amount (group_payouts k h.payouts) ≡ true = every_kept is_amount (λ l. eqb l.group k) h.payouts (counts w clock xs).payouts in
      let n : brought (group_deposits k h.deposits) ≡ group_holdings c k h.state + paid_out evenly (group_payouts k h.payouts) = omega (arith, g.count, z, paid_group k h.payouts) in
      total_brought (group_deposits k h.deposits) b ∙ ap pos n ∙ ap (λ z. pos (group_holdings c k h.state) +ℤ z) (sym (total_paid (group_payouts k h.payouts) p))
