-- What statements keep: the amounts held and paid out so far weigh the same, whatever refusal comes, by any weight of places and of
-- labels that the statements respect, and the payouts so far pass any test that each of them passes. Assumes nothing.
use mathlib.Core.Path.{◌≡◌, refl, ap, ◌∙◌}
use mathlib.Core.Bool.{Bool, true, false}
use mathlib.Core.List.{List, [], ◌∷◌, ◌++◌}
use Prim.Native.Nat.{ℕ, suc, ◌+◌, ◌-◌, ◌*◌, ◌<◌, ◌≤◌}
use native.Mathlib.Omega.{arith}
use lib.ListN.{length, get_or, take, set, length-set}
use lib.Seq.{take-suc-set}
use lib.IntN.{ℤ, pos, negsuc}
use lib.Signed.{le_z}
use borrow.Author.Tests.{le-leb, ltb-false, leb-false, eqb-false}
use lib.Dec.{leb}
use Rattle.laws.specs.Choice.{pick}
use Rattle.laws.proofs.Members.{every_append}
use Rattle.laws.proofs.Truths.{both_true}
use Rattle.laws.specs.Lists.{every}
use Rattle.laws.proofs.Choice.{by_cases}
use Rattle.numbers.specs.declared.Value.{Value}
use Rattle.numbers.specs.declared.Value.TheVariants.{Integer, Text}
use Rattle.contract.specs.Tree.{held, Action, assign, send, move, pay, move_all, pay_all, Block, none, perform, conditional, broken_block}
use Rattle.contract.specs.Sizes.{statements}
use Rattle.evaluation.specs.Meaning.{value_of, truth_of}
use Rattle.statements.specs.declared.Label.{Label}
use Rattle.statements.specs.Running.{Work, integer_label, string_label, asset_label, max_labels, max_holdings, memory_in, stopped, onward, stored, with_holdings, labelled, sent, receiver, place, moved, paid, with_value, with_amount, performed, by_truth, ran}
use Rattle.history.specs.Histories.{payouts_in, weighed, alike}
use Rattle.history.proofs.AmountSums.{paid_out, evenly, is_amount, weighed_less, weighed_moved, paid_append, payouts_append}
use Rattle.numbers.specs.Numbers.{Answer, Truth}
use Rattle.std.specs.Prelude.{Ok, Err}
use Rattle.questions.specs.declared.Question.TheVariants as ask
use Rattle.questions.specs.declared.Question.{Question}

abbrev label_of : ℕ → ℕ → ℤ → ℕ → Label
label_of kind party value group = record { kind = kind; party = party; value = value; group = group }

-- ---- weights that statements respect

-- a payout of any amount from place i, whose group u gives, to party a weighs what its place does, and passes the test
abbrev pub PaysAlike : (ℕ → ℕ) → (Label → ℕ) → (Label → Bool) → (ℕ → ℕ) → ℕ → ℕ → Type 0
PaysAlike f g p u i a = (n : ℕ) → (g (label_of asset_label a (pos n) (u i)) ≡ f i) × (p (label_of asset_label a (pos n) (u i)) ≡ true)

-- a move joins places of the same weight
abbrev pub Keeps : (ℕ → ℕ) → (Label → ℕ) → (Label → Bool) → (ℕ → ℕ) → Action → Type 0
Keeps f g p u (assign e x) = Unit {0}
Keeps f g p u (send e a) = Unit {0}
Keeps f g p u (move e h k) = f (place h) ≡ f (place k)
Keeps f g p u (pay e h a) = PaysAlike f g p u (place h) (receiver a)
Keeps f g p u (move_all h k) = f (place h) ≡ f (place k)
Keeps f g p u (pay_all h a) = PaysAlike f g p u (place h) (receiver a)

unfoldable pub Respects : (ℕ → ℕ) → (Label → ℕ) → (Label → Bool) → (ℕ → ℕ) → Block → Type 0
Respects f g p u none = Unit {0}
Respects f g p u (perform b a) = Respects f g p u b × Keeps f g p u a
Respects f g p u (conditional b c s) = Respects f g p u b × Respects f g p u s
Respects f g p u broken_block = Unit {0}

-- where all weigh alike, every block does
keeps_alike : (u : ℕ → ℕ) (a : Action) → Keeps alike evenly is_amount u a
keeps_alike u (assign e x) = tt
keeps_alike u (send e a) = tt
keeps_alike u (move e h k) = refl
keeps_alike u (pay e h a) = λ n. (refl, le-leb 0 n (omega arith))
keeps_alike u (move_all h k) = refl
keeps_alike u (pay_all h a) = λ n. (refl, le-leb 0 n (omega arith))

pub respects_alike : (u : ℕ → ℕ) (b : Block) → Respects alike evenly is_amount u b
unfolding Respects
respects_alike u none = tt
respects_alike u (perform b a) = (respects_alike u b, keeps_alike u a)
respects_alike u (conditional b c s) = (respects_alike u b, respects_alike u s)
respects_alike u broken_block = tt

-- ---- work

-- the payouts so far
abbrev pub paid_so_far : Work → List Label
paid_so_far w = payouts_in (take w.count w.labels)

-- work whose holdings and payouts weigh this much, with at most so many labels, and whose payouts pass the test
pub record Worth (f : ℕ → ℕ) (g : Label → ℕ) (p : Label → Bool) (total most : ℕ) (w : Work) : Type 0 where
  pub holdings_length : length w.holdings ≡ max_holdings
  pub labels_length : length w.labels ≡ max_labels
  pub labels_few : w.count ≤ most
  pub payouts : every p (paid_so_far w) ≡ true
  pub total_is : weighed f 0 w.holdings + paid_out g (paid_so_far w) ≡ total

-- one more label: its payout, if it is one, comes last
one_more : (l : List Label) (n : ℕ) (x : Label) → n < length l → payouts_in (take (suc n) (set l n x)) ≡ payouts_in (take n l) ++ payouts_in (x ∷ [])
one_more l n x h = ap payouts_in (take-suc-set l n x h) ∙ payouts_append (take n l) (x ∷ [])

module _ {f : ℕ → ℕ} {g : Label → ℕ} {p : Label → Bool} where
  -- there may be more labels
  more_room : {total m : ℕ} {w : Work} (n : ℕ) → m ≤ n → Worth f g p total m w → Worth f g p total n w
  more_room n h o =
      record {
        holdings_length = o.holdings_length;
        labels_length = o.labels_length;
        labels_few = omega (arith, o.labels_few);
        payouts = o.payouts;
        total_is = o.total_is;
      }

  -- the labels, holdings and count decide
  stopped_worth : {total m : ℕ} {w : Work} (n : Question) → Worth f g p total m w → Worth f g p total m (stopped w n)
  stopped_worth n o =
      record { holdings_length = o.holdings_length; labels_length = o.labels_length; labels_few = o.labels_few; payouts = o.payouts; total_is = o.total_is }

  stored_worth : {total m : ℕ} {w : Work} (x : ℕ) (v : Value) → Worth f g p total m w → Worth f g p total m (stored w x v)
  stored_worth x (Integer z) o =
      record { holdings_length = o.holdings_length; labels_length = o.labels_length; labels_few = o.labels_few; payouts = o.payouts; total_is = o.total_is }
  stored_worth x (Text n) o =
      record { holdings_length = o.holdings_length; labels_length = o.labels_length; labels_few = o.labels_few; payouts = o.payouts; total_is = o.total_is }

  -- ---- labels

  labelled_worth : {total m : ℕ} {w : Work} (most kind party : ℕ) (value : ℤ) (group : ℕ) → m < max_labels → total + paid_out g (payouts_in (label_of kind party value group ∷ [])) ≡ most
      → every p (payouts_in (label_of kind party value group ∷ [])) ≡ true → Worth f g p total m w → Worth f g p most (suc m) (labelled w kind party value group)
  unfolding labelled
  labelled_worth {m = m} {w = w} most kind party value group room e t o =
      let x = label_of kind party value group in
      let q = one_more w.labels w.count x (omega (arith, o.labels_few, o.labels_length)) in
      by_cases (Worth f g p most (suc m)) _ _ _
      (λ l. record {
        holdings_length = o.holdings_length;
        labels_length = length-set w.labels w.count x ∙ o.labels_length;
        labels_few = omega (arith, o.labels_few);
        payouts = ap (every p) q ∙ every_append p (paid_so_far w) (payouts_in (x ∷ [])) o.payouts t;
        total_is = omega (arith, o.total_is, ap (paid_out g) q, paid_append g (paid_so_far w) (payouts_in (x ∷ [])));
      })
      (λ l. absurd (omega (arith, ltb-false w.count max_labels l, o.labels_few)))

  sent_worth : {total m : ℕ} {w : Work} (a : ℕ) (v : Value) → m < max_labels → Worth f g p total m w → Worth f g p total (suc m) (sent w a v)
  unfolding pick payouts_in paid_out every
  sent_worth {total} a (Integer z) room o = labelled_worth total integer_label a z 0 room (omega arith) refl o
  sent_worth {total} a (Text n) room o = labelled_worth total string_label a (pos n) 0 room (omega arith) refl o

  pay_worth : {total m : ℕ} {w : Work} (most a n group : ℕ) → m < max_labels → total + g (label_of asset_label a (pos n) group) * n ≡ most
      → p (label_of asset_label a (pos n) group) ≡ true → Worth f g p total m w → Worth f g p most (suc m) (labelled w asset_label a (pos n) group)
  unfolding pick payouts_in paid_out every
  pay_worth most a n group room e t o = labelled_worth most asset_label a (pos n) group room (omega arith) (both_true (p (label_of asset_label a (pos n) group)) true t refl) o

  -- ---- amounts

  -- other holdings, which weigh n less
  holdings_worth : {total m : ℕ} {w : Work} (n less : ℕ) (hs : List ℕ) → length hs ≡ length w.holdings → weighed f 0 hs + n ≡ weighed f 0 w.holdings
      → less + n ≡ total → Worth f g p total m w → Worth f g p less m (with_holdings w hs)
  holdings_worth n less hs l e q o =
      record {
        holdings_length = l ∙ o.holdings_length;
        labels_length = o.labels_length;
        labels_few = o.labels_few;
        payouts = o.payouts;
        total_is = omega (arith, o.total_is);
      }

  module _ {total m : ℕ} {w : Work} (room : m < max_labels) (o : Worth f g p total m w) where
    moved_worth : (i j : ℕ) → f i ≡ f j → (n : ℕ) → Worth f g p total (suc m) (moved w i j n)
    unfolding moved
    moved_worth i j e n =
        let hs = w.holdings in
        more_room (suc m) (omega arith)
        (by_cases (Worth f g p total m) _ _ _ (λ _. stopped_worth ask.AmountHeld o) λ h.
        by_cases (Worth f g p total m) _ _ _ (λ _. stopped_worth ask.TableCheck o) λ k.
        by_cases (Worth f g p total m) _ _ _ (λ _. o) λ ne.
        by_cases (Worth f g p total m) _ _ _ (λ _. stopped_worth ask.SumFits o) λ _.
        let b = set hs i (get_or hs i 0 - n) in
        holdings_worth 0 total (set b j (get_or hs j 0 + n)) (length-set b j _ ∙ length-set hs i _)
        (omega (arith, weighed_moved f hs i j n e (ltb-false (get_or hs i 0) n h) (omega (arith, leb-false max_holdings j k, o.holdings_length)) (eqb-false i j ne)))
        (omega arith) o)

    paid_worth : (u : ℕ → ℕ) (i a : ℕ) → PaysAlike f g p u i a → (n : ℕ) → Worth f g p total (suc m) (paid u w i a n)
    unfolding paid
    paid_worth u i a k n =
        by_cases (Worth f g p total (suc m)) _ _ _ (λ _. more_room (suc m) (omega arith) (stopped_worth ask.AmountHeld o)) λ h.
        let hs = w.holdings in
        let z : 0 + i ≡ i = omega arith in
        let e : weighed f 0 (set hs i (get_or hs i 0 - n)) + f i * n ≡ weighed f 0 hs =
        omega (arith, weighed_less f 0 hs i n (ltb-false (get_or hs i 0) n h), ap (λ (j : ℕ). f j * n) z) in
        let q : total - f i * n + f i * n ≡ total = omega (arith, o.total_is) in
        pay_worth total a n (u i) room (omega (arith, q, ap (λ (m : ℕ). m * n) (k n).0)) (k n).1
        (holdings_worth (f i * n) (total - f i * n) (set hs i (get_or hs i 0 - n)) (length-set hs i _) e q o)

    amount_worth : (x : Answer) (k : ℕ → Work) → ((n : ℕ) → Worth f g p total (suc m) (k n)) → Worth f g p total (suc m) (with_amount w x k)
    amount_worth (Err n) k t = more_room (suc m) (omega arith) (stopped_worth n o)
    amount_worth (Ok (Text s)) k t = more_room (suc m) (omega arith) (stopped_worth ask.OperandKind o)
    amount_worth (Ok (Integer (pos n))) k t = t n
    amount_worth (Ok (Integer (negsuc n))) k t = more_room (suc m) (omega arith) (stopped_worth ask.AmountSign o)

    value_worth : (x : Answer) (k : Value → Work) → ((v : Value) → Worth f g p total (suc m) (k v)) → Worth f g p total (suc m) (with_value w x k)
    value_worth (Err n) k t = more_room (suc m) (omega arith) (stopped_worth n o)
    value_worth (Ok v) k t = t v

    performed_worth : (u : ℕ → ℕ) (v : List ℤ) (t : ℕ) (a : Action) → Keeps f g p u a → Worth f g p total (suc m) (performed u v t w a)
    unfolding performed
    performed_worth u v t (assign e x) r = value_worth (value_of (memory_in v t w) e) _ (λ z. more_room (suc m) (omega arith) (stored_worth x z o))
    performed_worth u v t (send e a) r = value_worth (value_of (memory_in v t w) e) _ (λ z. sent_worth (receiver a) z room o)
    performed_worth u v t (move e h k) r = amount_worth (value_of (memory_in v t w) e) _ (moved_worth (place h) (place k) r)
    performed_worth u v t (pay e h a) r = amount_worth (value_of (memory_in v t w) e) _ (paid_worth u (place h) (receiver a) r)
    performed_worth u v t (move_all h k) r = amount_worth (value_of (memory_in v t w) (held h)) _ (moved_worth (place h) (place k) r)
    performed_worth u v t (pay_all h a) r = amount_worth (value_of (memory_in v t w) (held h)) _ (paid_worth u (place h) (receiver a) r)

  -- ---- blocks

  onward_worth : {total m n : ℕ} {w : Work} (k : Work → Work) → m ≤ n → Worth f g p total m w → (Worth f g p total m w → Worth f g p total n (k w)) → Worth f g p total n (onward w k)
  unfolding onward
  onward_worth {total} {m} {n} k h o t = by_cases (Worth f g p total n) _ _ _ (λ _. t o) (λ _. more_room n h o)

  truth_worth : {total m n : ℕ} {w x : Work} (t : Truth) → m ≤ n → Worth f g p total m w → Worth f g p total n x → Worth f g p total n (by_truth w t x)
  truth_worth {n = n} (Err q) h o k = more_room n h (stopped_worth q o)
  truth_worth (Ok true) h o k = k
  truth_worth {n = n} (Ok false) h o k = more_room n h o

  -- each statement sends at most one label
  pub ran_worth : {total m : ℕ} {w : Work} (u : ℕ → ℕ) (v : List ℤ) (t : ℕ) (b : Block) → Respects f g p u b → m + statements b ≤ max_labels → Worth f g p total m w
      → Worth f g p total (m + statements b) (ran u v t w b)
  unfolding ran statements Respects
  ran_worth {m = m} u v t none r h o = more_room (m + 0) (omega arith) o
  ran_worth {m = m} u v t (perform b a) r h o =
      onward_worth _ (omega arith) (ran_worth u v t b r.0 (omega arith) o)
      (λ k. more_room (m + suc (statements b)) (omega arith) (performed_worth (omega arith) k u v t a r.1))
  ran_worth {m = m} {w = w} u v t (conditional b c s) r h o =
      onward_worth _ (omega arith) (ran_worth u v t b r.0 (omega arith) o)
      (λ k. truth_worth (truth_of (memory_in v t (ran u v t w b)) c) (omega arith) k
      (more_room (m + suc (statements b + statements s)) (omega arith) (ran_worth {m = m + statements b} {w = ran u v t w b} u v t s r.1 (omega arith) k)))
  ran_worth {m = m} u v t broken_block r h o = more_room (m + 1) (omega arith) (stopped_worth ask.TableCheck o)
