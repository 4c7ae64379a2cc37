-- The count: what calls have brought in is what the state holds and what has been paid out. Assumes nothing.
use mathlib.Core.Path.{◌≡◌, refl, sym, ap, subst, ◌∙◌}
use mathlib.Core.Bool.{Bool, true, false, cond}
use mathlib.Core.List.{List, [], ◌∷◌, ◌++◌}
use Prim.Native.Nat.{ℕ, suc, ◌+◌, ◌-◌, ◌≤◌, min}
use native.Mathlib.Omega.{arith}
use lib.ListN.{length, get_or, take, drop, length-append, length-take, take-append-drop}
use lib.Seq.{take_all, take_at, drop_at}
use lib.IntN.{ℤ, pos, nat_abs, ◌+ℤ◌}
use lib.Signed.{le_z}
use borrow.Author.Tests.{le-ltb}
use Rattle.contract.specs.Limits.{max_assets, max_parameters}
use Rattle.contract.specs.Tree.{Function, Verb, Clause, Contract}
use Rattle.contract.specs.Tree as tree
use Rattle.contract.specs.Sizes.{statements}
use Rattle.contract.specs.Decode.{contract_of}
use Rattle.contract.specs.Fits.{scope_of}
use Rattle.laws.proofs.Members.{every_head, every_tail, every_append, repeated_length}
use Rattle.laws.proofs.Truths.{both_true}
use Rattle.laws.specs.Lists.{every, repeated}
use Rattle.contract_laws.proofs.Sound.{sound}
use Rattle.state.specs.declared.State.{State}
use Rattle.state.specs.declared.Pending.{Pending}
use Rattle.state.specs.States.{blank, fresh_at, live, with_pending, removed, lapsed, times_until_due, event_of}
use Rattle.state.proofs.Passing.{passed_assets}
use Rattle.statements.specs.declared.Label.{Label}
use Rattle.statements.specs.Running.{max_labels}
use Rattle.outcomes.specs.declared.Rule.TheVariants.{Call, EventMatch}
use Rattle.outcomes.specs.declared.Outcome.{Outcome}
use Rattle.outcomes.specs.declared.Outcome.TheVariants.{Accepted, Failed, Refused}
use Rattle.outcomes.specs.declared.Stepped.{Stepped}
use Rattle.outcomes.specs.Outcomes.{no_label, no_labels}
use Rattle.holdings.specs.Holdings.{amounts}
use Rattle.machine.specs.Steps.{place_groups, Invocation, accepted, begun, ended, Request, agreement, call, firing, tick, jump}
use Rattle.steps.specs.Left.{count_of, copied_of}
use Rattle.agreements.specs.Agreement.{Part, set_fields, set_clause, set_clauses}
use Rattle.history.specs.Histories.{Step, answer_to, returned, deposits_to, deposits_by, deposit, payouts_in, payouts_of, History, history, total, amounts_of, values_of, weighed, alike, holdings}
use Rattle.history.specs.Untouched.{by_rule}
use Rattle.history.proofs.AmountSums.{paid_out, evenly, is_amount, brings, brought, weighed_append, weighed_zeros, weighed_padded, weighed_nothing, alike_anywhere, paid_append, brought_append, total_brought, total_paid}
use Rattle.history.proofs.StatementsConserve.{Respects, respects_alike, Worth, ran_worth}
use Rattle.history.proofs.Parameters.{Parameters, ran_same}
use Rattle.history.proofs.ContractBounds.{Bounded, BoundedFunction, BoundedEvent, bounded}
use Rattle.history.proofs.Cases.{body_ran, event_at, handler_ran, CallOk, ComesOut, refusal, agrees, calls, fires, fails, ticks, jumps, Answers, first_refusal, by_rule_lem, answered_so}
use Rattle.history.proofs.Untouched.{step_idle}
use Rattle.questions.specs.declared.Question.{Question}

-- ---- the work that statements begin with, and the amounts that they leave

module _ (f : ℕ → ℕ) where
  -- amounts from place n on weigh by their places
  weighed_split : (n : ℕ) (l : List ℕ) → n ≤ length l → weighed f 0 (take n l) + weighed f n (drop n l) ≡ weighed f 0 l
  weighed_split n l h =
      let e : 0 + length (take n l) ≡ n = omega (arith, length-take n l) in
      omega (arith, weighed_append f 0 (take n l) (drop n l), ap (λ (k : ℕ). weighed f k (drop n l)) e, ap (weighed f 0) (take-append-drop n l))

  module _ (g : Label → ℕ) (p : Label → Bool) (s : State) (ps : List ℕ) (l : length s.assets ≡ max_assets) where
    begun_worth : length ps ≤ max_parameters → Worth f g p (weighed f 0 s.assets + weighed f max_assets ps) 0 (begun s ps)
    unfolding payouts_in every paid_out
    begun_worth h =
        let a = take max_assets s.assets in
        let b = take max_parameters (ps ++ repeated max_parameters 0) in
        let whole : a ≡ s.assets = take_all max_assets s.assets (omega arith) in
        let after : 0 + length a ≡ max_assets = omega (arith, length-take max_assets s.assets) in
        record {
          holdings_length = omega (arith, length-append a b, length-take max_assets s.assets, length-take max_parameters (ps ++ repeated max_parameters 0), length-append ps (repeated max_parameters 0), repeated_length {A = ℕ} max_parameters 0);
          labels_length = repeated_length max_labels no_label;
          labels_few = omega arith;
          payouts = refl;
          total_is =
              omega (arith, weighed_append f 0 a b, ap (weighed f 0) whole, ap (λ (k : ℕ). weighed f k b) after, weighed_padded f max_assets ps max_parameters max_parameters h);
        }

-- the parameters' amounts
begun_parameters : (s : State) (ps : List ℕ) → length s.assets ≡ max_assets → Parameters (take max_parameters (ps ++ repeated max_parameters 0)) (begun s ps)
begun_parameters s ps l = record { amounts = drop_at (take max_assets s.assets) _ max_assets (length-take max_assets s.assets ∙ omega arith) }

pub length_amounts : (l : List ℤ) → length (amounts l) ≡ length l
unfolding amounts
length_amounts [] = refl
length_amounts (z ∷ l) = ap suc (length_amounts l)

-- ---- an agreement changes no asset

set_fields_assets : (s : State) (xs : List ℕ) (zs : List ℤ) → (set_fields s xs zs).assets ≡ s.assets
unfolding set_fields
set_fields_assets s [] zs = refl
set_fields_assets s (x ∷ xs) [] = refl
set_fields_assets s (x ∷ xs) (z ∷ zs) = set_fields_assets _ xs zs

set_clause_assets : (s : State) (k : Clause) (p : Part) (v : Verb) → (set_clause s k p v).assets ≡ s.assets
set_clause_assets s k p tree.set = set_fields_assets s k.fields p.values
set_clause_assets s k p tree.ok = refl

pub set_clauses_assets : (s : State) (ks : List Clause) (ps : List Part) → (set_clauses s ks ps).assets ≡ s.assets
unfolding set_clauses
set_clauses_assets s [] ps = refl
set_clauses_assets s (k ∷ ks) [] = refl
set_clauses_assets s (k ∷ ks) (p ∷ ps) = set_clauses_assets (set_clause s k p k.verb) ks ps ∙ set_clause_assets s k p k.verb

-- ---- a step, by any weights and any test of payouts that the block run respects

-- the payouts among an answer's labels
abbrev pub paid_by : Stepped Question → List Label
paid_by r = payouts_in (take r.count r.labels)

-- what the parameters bring in is what the state then holds more and what is paid out, and the payouts pass the test
pub record Weighs (f : ℕ → ℕ) (g : Label → ℕ) (p : Label → Bool) (s : State) (ps : List ℕ) (r : Stepped Question) : Type 0 where
  pub assets_length : length r.state.assets ≡ max_assets
  pub weight : weighed f max_assets ps + weighed f 0 s.assets ≡ weighed f 0 r.state.assets + paid_out g (paid_by r)
  pub payouts : every p (paid_by r) ≡ true
  pub labels_few : r.count ≤ max_labels
  pub labels_length : length r.labels ≡ max_labels

module _ (f : ℕ → ℕ) (g : Label → ℕ) (p : Label → Bool) {s : State} (l : length s.assets ≡ max_assets) where
  -- nothing comes in or goes out
  quiet_weighs : (o : Outcome Question) (t : State) → t.assets ≡ s.assets → Weighs f g p s [] (record { outcome = o; state = t; labels = no_labels; count = 0 })
  unfolding payouts_in every paid_out weighed
  quiet_weighs o t e =
      record { assets_length = ap length e ∙ l; weight = omega (arith, ap (weighed f 0) e); payouts = refl; labels_few = omega arith; labels_length = repeated_length max_labels no_label }

  module _ {c : Contract} (b : Bounded c) where
    pub call_weighs : (i : Invocation) (n : ℕ) (h : Function) (ps : List Pending) → CallOk c s i n h ps → Respects f g p (place_groups c n) h.body
        → Weighs f g p s (amounts i.assets) (accepted Call (ended s (body_ran c s i n h) h.last (live s ++ ps)) (body_ran c s i n h))
    unfolding with_pending
    call_weighs i n h ps o r =
        let q : BoundedFunction c h = subst (BoundedFunction c) o.function_is (b.functions n) in
        let w = body_ran c s i n h in
        let few : length (amounts i.assets) ≤ max_parameters = omega (arith, length_amounts i.assets, o.assets, q.parameters_few) in
        let k : Worth f g p (weighed f 0 s.assets + weighed f max_assets (amounts i.assets)) (0 + statements h.body) w =
        ran_worth (place_groups c n) i.values s.clock h.body r (omega (arith, q.body_few)) (begun_worth f g p s (amounts i.assets) l few) in
        record {
          assets_length = length-take max_assets w.holdings ∙ omega (arith, k.holdings_length);
          weight =
              omega (arith, k.total_is, weighed_split f max_assets w.holdings (omega (arith, k.holdings_length)), weighed_nothing f max_assets (drop max_assets w.holdings) o.spent);
          payouts = k.payouts;
          labels_few = omega (arith, k.labels_few, q.body_few);
          labels_length = k.labels_length;
        }

    pub firing_weighs : (k : ℕ) (ps : List Pending) (q : ℕ) → Respects f g p (place_groups c (get_or (live s) k blank).function) (event_at c s k).handler
        → Weighs f g p s [] (accepted EventMatch (ended s (handler_ran c s k) q ps) (handler_ran c s k))
    unfolding with_pending event_of scope_of weighed
    firing_weighs k ps q r =
        let at = get_or (live s) k blank in
        let e : BoundedEvent c (event_at c s k) = (b.functions at.function).events at.event in
        let w = handler_ran c s k in
        let v : Worth f g p (weighed f 0 s.assets + 0) (0 + statements (event_at c s k).handler) w =
        ran_worth (place_groups c at.function) [] s.clock (event_at c s k).handler r (omega (arith, e.handler_few)) (begun_worth f g p s [] l (omega arith)) in
        let z : Parameters (take max_parameters (repeated max_parameters 0)) w =
        ran_same (scope_of c 0 0) b.assets_few refl (place_groups c at.function) [] s.clock (event_at c s k).handler e.handler_in (begun_parameters s [] l) in
        record {
          assets_length = length-take max_assets w.holdings ∙ omega (arith, v.holdings_length);
          weight =
              omega (arith, v.total_is, weighed_split f max_assets w.holdings (omega (arith, v.holdings_length)), ap (weighed f max_assets) z.amounts, weighed_zeros f max_assets max_parameters max_parameters);
          payouts = v.payouts;
          labels_few = omega (arith, v.labels_few, e.handler_few);
          labels_length = v.labels_length;
        }

-- ---- a step, where all weigh alike

pub record Counted (c : Contract) (q : Request) (s : State) (r : Stepped Question) : Type 0 where
  pub weighs : Weighs alike evenly is_amount s (amounts (amounts_of (deposit c s q r.outcome))) r
  pub deposits : every brings (deposit c s q r.outcome) ≡ true

pub refused_brings : (c : Contract) (s : State) (q : Request) (n : Question) → deposit c s q (Refused n) ≡ []
refused_brings c s (agreement ps) n = refl
refused_brings c s (call i) n = refl
refused_brings c s firing n = refl
refused_brings c s tick n = refl
refused_brings c s (jump T) n = refl

-- deposits are the asset arguments, in order
all_deposited : (c : Contract) (n j : ℕ) (zs : List ℤ) → amounts_of (deposits_to c n j zs) ≡ zs
unfolding amounts_of deposits_to
all_deposited c n j [] = refl
all_deposited c n j (z ∷ zs) = ap (λ xs. z ∷ xs) (all_deposited c n (suc j) zs)

deposits_bring : (c : Contract) (n j : ℕ) (zs : List ℤ) → every (le_z (pos 0)) zs ≡ true → every brings (deposits_to c n j zs) ≡ true
unfolding every deposits_to
deposits_bring c n j [] e = refl
deposits_bring c n j (z ∷ zs) e = both_true (le_z (pos 0) z) _ (every_head (le_z (pos 0)) z zs e) (deposits_bring c n (suc j) zs (every_tail (le_z (pos 0)) z zs e))

module _ {s : State} (l : length s.assets ≡ max_assets) where
  quiet_counted : (c : Contract) (q : Request) (o : Outcome Question) (t : State) → t.assets ≡ s.assets → deposit c s q o ≡ []
      → Counted c q s (record { outcome = o; state = t; labels = no_labels; count = 0 })
  unfolding every amounts amounts_of
  quiet_counted c q o t e d =
      record {
        weighs =
            subst (λ ds. Weighs alike evenly is_amount s (amounts (amounts_of ds)) (record { outcome = o; state = t; labels = no_labels; count = 0 })) (sym d) (quiet_weighs alike evenly is_amount l o t e);
        deposits = ap (every brings) d;
      }

  came_counted : (c : Contract) → Bounded c → {q : Request} {r : Stepped Question} → ComesOut c s q r → Counted c q s r
  unfolding with_pending removed lapsed every amounts amounts_of
  came_counted c b (refusal {q = q} n) = quiet_counted c q (Refused n) s refl (refused_brings c s q n)
  came_counted c b (agrees ps a) = quiet_counted c (agreement ps) _ _ (set_clauses_assets s c.clauses ps) refl
  came_counted c b (calls i n f ps o) =
      let d : deposit c s (call i) (Accepted Call) ≡ deposits_to c n 0 i.assets = ap (deposits_by c i.assets) o.runs in
      let w = body_ran c s i n f in
      record {
        weighs =
            subst (λ zs. Weighs alike evenly is_amount s (amounts zs) (accepted Call (ended s w f.last (live s ++ ps)) w)) (sym (ap amounts_of d ∙ all_deposited c n 0 i.assets))
            (call_weighs alike evenly is_amount l b i n f ps o (respects_alike _ f.body));
        deposits = ap (every brings) d ∙ deposits_bring c n 0 i.assets o.deposits;
      }
  came_counted c b (fires k a d h) =
      record { weighs = firing_weighs alike evenly is_amount l b k (live (removed s k)) (event_at c s k).last (respects_alike _ (event_at c s k).handler); deposits = refl }
  came_counted c b (fails k n a d h) = quiet_counted c firing _ _ refl refl
  came_counted c b (ticks a d h) = quiet_counted c tick _ _ refl refl
  came_counted c b (jumps T a d h) = quiet_counted c (jump T) _ _ (passed_assets (times_until_due c (nat_abs T - s.clock) s) s) refl

  answer_counted : {w : List ℕ} {a : Step} {r : Stepped Question} → Answers w s a r → Counted (contract_of w) a.request s r
  answer_counted {w = w} {a = a} (first_refusal n) = quiet_counted (contract_of w) a.request (Refused n) s refl (refused_brings (contract_of w) s a.request n)
  answer_counted {w = w} (by_rule_lem p o h k) = came_counted (contract_of w) (bounded (contract_of w) (sound w p)) k

  pub step_counted : (w : List ℕ) (a : Step) → Counted (contract_of w) a.request s (answer_to w s a)
  step_counted w a = answer_counted (answered_so w s a)

-- ---- labels are read off the slice

count_is : (n m : ℕ) → max_labels ≤ n → m ≤ max_labels → count_of n m ≡ m
count_is n m h l = ap (λ (t : Bool). cond t 0 (min 64 m)) (le-ltb n 64 h) ∙ omega arith

-- the first n of a list, and other entries after them
front : (n : ℕ) (l k : List Label) → n ≤ length l → take n (take n l ++ k) ≡ take n l
front n l k h = take_at (take n l) k n (length-take n l ∙ omega arith)

copied_front : (old : List Label) (r : Stepped Question) → max_labels ≤ length old → r.count ≤ max_labels → length r.labels ≡ max_labels
    → take r.count (copied_of old r.labels r.count) ≡ take r.count r.labels
unfolding copied_of
copied_front old r h few l =
    ap (λ (c : ℕ). take r.count (take c r.labels ++ drop c old)) (count_is (length old) r.count h few)
    ∙ front r.count r.labels (drop r.count old) (omega arith)

module _ (s : State) (l : length s.assets ≡ max_assets) where
  answer_left : {w : List ℕ} {a : Step} {r : Stepped Question} → Answers w s a r
      → take r.count (copied_of a.slice r.labels r.count) ≡ take r.count r.labels
  answer_left (first_refusal n) = refl
  answer_left {w} {a} {r} (by_rule_lem p o h k) =
      let g = (came_counted l (contract_of w) (bounded (contract_of w) (sound w p)) k).weighs in
      copied_front a.slice r h g.labels_few g.labels_length

  -- whatever the slice's length: where it is short, there are none
  pub labels_left : (w : List ℕ) (a : Step) → take (answer_to w s a).count (returned w s a).slice ≡ take (answer_to w s a).count (answer_to w s a).labels
  labels_left w a = answer_left (answered_so w s a)

  pub payouts_left : (w : List ℕ) (a : Step) → payouts_of (returned w s a) (answer_to w s a).outcome ≡ paid_by (answer_to w s a)
  unfolding payouts_in
  payouts_left w a = go (answer_to w s a).outcome (step_idle w s a).no_labels
    where
      go : (o : Outcome Question) → (by_rule o ≡ false → (answer_to w s a).count ≡ 0) → payouts_of (returned w s a) o ≡ paid_by (answer_to w s a)
      go (Accepted r) h = ap payouts_in (labels_left w a)
      go (Failed n) h = ap payouts_in (labels_left w a)
      go (Refused n) h = ap (λ (k : ℕ). payouts_in (take k (answer_to w s a).labels)) (sym (h refl))

-- ---- lists of steps

pub record Counts (s : State) (h : History) : Type 0 where
  pub count : brought h.deposits + holdings s ≡ holdings h.state + paid_out evenly h.payouts
  pub deposits : every brings h.deposits ≡ true
  pub payouts : every is_amount h.payouts ≡ true

-- from any state
pub counts_from : (w : List ℕ) (s : State) (xs : List Step) → length s.assets ≡ max_assets → Counts s (history w s xs)
unfolding history weighed amounts amounts_of every paid_out
counts_from w s [] l = record { count = omega arith; deposits = refl; payouts = refl }
counts_from w s (a ∷ xs) l =
    let r = answer_to w s a in
    let h = history w r.state xs in
    let d = deposit (contract_of w) s a.request r.outcome in
    let p = payouts_of (returned w s a) r.outcome in
    let g = step_counted l w a in
    let q : p ≡ paid_by r = payouts_left s l w a in
    let k : Counts r.state h = counts_from w r.state xs g.weighs.assets_length in
    record {
      count =
          omega (arith, k.count, g.weighs.weight, brought_append d h.deposits, alike_anywhere max_assets 0 (amounts (amounts_of d)), paid_append evenly p h.payouts, ap (paid_out evenly) q);
      deposits = every_append brings d h.deposits g.deposits k.deposits;
      payouts = every_append is_amount p h.payouts (ap (every is_amount) q ∙ g.weighs.payouts) k.payouts;
    }

-- from the fresh state
pub counts : (w : List ℕ) (clock : ℕ) (xs : List Step) → Counts (fresh_at clock) (history w (fresh_at clock) xs)
unfolding fresh_at
counts w clock xs = counts_from w (fresh_at clock) xs (repeated_length {A = ℕ} max_assets 0)

pub count : (w : List ℕ) (clock : ℕ) (xs : List Step)
    → let h = history w (fresh_at clock) xs in
    total (amounts_of h.deposits) ≡ pos (holdings h.state) +ℤ total (values_of h.payouts)
unfolding fresh_at
count w clock xs =
    let h = history w (fresh_at clock) xs in
    let k = counts w clock xs in
    let none : holdings (fresh_at clock) ≡ 0 =
    ap (weighed alike 0) (sym (take_all max_assets (repeated max_assets 0) (omega (arith, repeated_length {A = ℕ} max_assets 0)))) ∙ weighed_zeros alike 0 max_assets max_assets in
    let e : brought h.deposits ≡ holdings h.state + paid_out evenly h.payouts = omega (arith, k.count, none) in
    total_brought h.deposits k.deposits ∙ ap pos e ∙ ap (λ z. pos (holdings h.state) +ℤ z) (sym (total_paid h.payouts k.payouts))
