-- Statements in scope send labels that question 53 lets pass, with payouts up to top, and are refused by questions 30 to 36 alone. Assumes
-- nothing.
use mathlib.Core.Path.{◌≡◌, refl, sym, ap, subst, ◌∙◌}
use mathlib.Core.Bool.{Bool, true, false, ◌&&◌}
use mathlib.Core.List.{List, [], ◌∷◌}
use Prim.Native.Nat.{ℕ, ◌<◌, ◌≤◌}
use native.Mathlib.Omega.{arith}
use lib.ListN.{length, get_or, take, length-set}
use lib.Seq.{take-suc-set}
use lib.Dec.{eqb, leb, ltb}
use lib.IntN.{ℤ, pos, negsuc, nat_abs}
use lib.Signed.{le_z}
use borrow.Author.Tests.{ltb-true, lt-ltb, le-ltb, leb-true, le-leb, ltb-false}
use Rattle.laws.specs.Choice.{pick}
use Rattle.laws.proofs.Choice.{by_cases, pick_true, pick_false, true_false}
use Rattle.numbers.specs.Numbers.{within, Answer, Truth}
use Rattle.numbers.specs.declared.Value.{Value}
use Rattle.numbers.specs.declared.Value.TheVariants.{Integer, Text}
use Rattle.contract.specs.Limits.{top, max_assets, max_fields, max_parameters}
use Rattle.contract.specs.Tree.{Holder, asset, asset_parameter, held, Action, assign, send, move, pay, move_all, pay_all, Block, none, perform, conditional, broken_block, Contract}
use Rattle.contract.specs.Check.{ranges}
use Rattle.laws.proofs.Members.{every_append}
use Rattle.laws.proofs.Truths.{both_left, both_right, both_true}
use Rattle.laws.specs.Lists.{every}
use Rattle.contract.specs.Fits.{Scope, holder_in, expression_in, condition_in, action_in, block_in}
use Rattle.evaluation.specs.Meaning.{value_of, truth_of}
use Rattle.statements.specs.declared.Label.{Label}
use Rattle.statements.specs.Running.{Work, max_holdings, max_labels, integer_label, string_label, asset_label, memory_in, stopped, onward, stored, with_holdings, labelled, sent, receiver, place, amount_at, moved, paid, with_value, with_amount, performed, by_truth, ran}
use Rattle.results.specs.Lines.{value_ok, report_ok}
use Rattle.step_reports.specs.Reports.{label_report}
use Rattle.history.proofs.ValuesInRange.{ValueIn, AnswerIn, value_in}
use Rattle.history.proofs.Ranges.{Right, memory_in_lem, ran_right}
use Rattle.machine.proofs.Gates.{same_question}
use Rattle.history.proofs.RefusalNumbers.{Stops, AnswerStops, TruthStops, value_stops, truth_stops}
use Rattle.std.specs.Prelude.{Ok, Err, Some}
use Rattle.questions.specs.declared.Question.TheVariants as ask
use Rattle.questions.specs.declared.Question.{Question}

-- a payout is an amount of 0 to top, as question 61 asks
unfoldable pub payout_ok : ℕ → ℤ → Bool
payout_ok kind value = pick (eqb kind asset_label) (le_z (pos 0) value && leb (nat_abs value) top) true

-- and question 53 lets the label pass
abbrev pub label_ok : Contract → Label → Bool
label_ok k l = report_ok k (label_report l) && payout_ok l.kind l.value

pub record Fair (k : Contract) (w : Work) : Type 0 where
  pub labels_length : length w.labels ≡ max_labels
  pub labels : every (label_ok k) (take w.count w.labels) ≡ true
  pub stop : (q : Question) → w.refusal ≡ Some q → Stops q

-- ---- labels

value_fits : (kind : ℕ) (z : ℤ) → eqb kind asset_label ≡ false → payout_ok kind z ≡ true
unfolding payout_ok
value_fits kind z e = pick_false _ _ _ e

amount_fits : (n : ℕ) → n ≤ top → payout_ok asset_label (pos n) ≡ true
unfolding payout_ok
amount_fits n h = pick_true _ _ _ refl ∙ both_true (leb 0 n) (leb n top) (le-leb 0 n (omega arith)) (le-leb n top h)

module _ (k : Contract) where
  string_ok_lem : (n : ℕ) → n < length k.strings → value_ok k 2 (pos n) ≡ true
  unfolding value_ok
  string_ok_lem n h = pick_false _ _ _ refl ∙ pick_false _ _ _ (le-ltb n 0 (omega arith)) ∙ pick_true _ _ _ refl ∙ lt-ltb n (length k.strings) h

  amount_ok : (n : ℕ) → value_ok k 3 (pos n) ≡ true
  unfolding value_ok
  amount_ok n = pick_false _ _ _ refl ∙ pick_false _ _ _ (le-ltb n 0 (omega arith)) ∙ pick_false _ _ _ refl

  integer_ok : (z : ℤ) → value_ok k 1 z ≡ true
  unfolding value_ok
  integer_ok z = pick_true _ _ _ refl

  label_ok_lem : (group kind a : ℕ) (z : ℤ) → ranges 1 kind 3 ≡ true → a < length k.parties → value_ok k kind z ≡ true → payout_ok kind z ≡ true
      → label_ok k (record { kind = kind; party = a; value = z; group = group }) ≡ true
  unfolding report_ok
  label_ok_lem group kind a z r h v q =
      both_true (report_ok k (label_report (record { kind = kind; party = a; value = z; group = group }))) (payout_ok kind z)
      (both_true (ranges 1 kind 3) (ltb a (length k.parties) && value_ok k kind z) r
      (both_true (ltb a (length k.parties)) (value_ok k kind z) (lt-ltb a (length k.parties) h) v))
      q

-- ---- one change

module _ {k : Contract} {w : Work} (o : Fair k w) where
  stopped_fair : (q : Question) → Stops q → Fair k (stopped w q)
  stopped_fair q h = record { labels_length = o.labels_length; labels = o.labels; stop = λ p e. subst Stops (same_question q p e) h }

  stored_fair : (x : ℕ) (v : Value) → Fair k (stored w x v)
  stored_fair x (Integer z) = record { labels_length = o.labels_length; labels = o.labels; stop = o.stop }
  stored_fair x (Text n) = record { labels_length = o.labels_length; labels = o.labels; stop = o.stop }

  holdings_fair : (hs : List ℕ) → Fair k (with_holdings w hs)
  holdings_fair hs = record { labels_length = o.labels_length; labels = o.labels; stop = o.stop }

  labelled_fair : (kind a : ℕ) (z : ℤ) (group : ℕ) → label_ok k (record { kind = kind; party = a; value = z; group = group }) ≡ true → Fair k (labelled w kind a z group)
  unfolding labelled every
  labelled_fair kind a z group h =
      let x : Label = record { kind = kind; party = a; value = z; group = group } in
      by_cases (Fair k) _ _ _
      (λ l. record {
        labels_length = length-set w.labels w.count x ∙ o.labels_length;
        labels =
            ap (every (label_ok k)) (take-suc-set w.labels w.count x (omega (arith, ltb-true w.count max_labels l, o.labels_length)))
            ∙ every_append (label_ok k) (take w.count w.labels) (x ∷ []) o.labels (both_true (label_ok k x) true h refl);
        stop = o.stop;
      })
      (λ _. o)

  sent_fair : (a : ℕ) (v : Value) → a < length k.parties → ValueIn (length k.strings) v → Fair k (sent w a v)
  unfolding ranges
  sent_fair a (Integer z) h i = labelled_fair integer_label a z 0 (label_ok_lem k _ integer_label a z refl h (integer_ok k z) (value_fits integer_label z refl))
  sent_fair a (Text n) h i = labelled_fair string_label a (pos n) 0 (label_ok_lem k _ string_label a (pos n) refl h (string_ok_lem k n i) (value_fits string_label (pos n) refl))

  moved_fair : (i j n : ℕ) → j < max_holdings → Fair k (moved w i j n)
  unfolding moved ranges
  moved_fair i j n h =
      by_cases (Fair k) _ _ _ (λ _. stopped_fair ask.AmountHeld refl) λ _.
      by_cases (Fair k) _ _ _ (λ e. absurd (omega (arith, leb-true max_holdings j e))) λ _.
      by_cases (Fair k) _ _ _ (λ _. o) λ _.
      by_cases (Fair k) _ _ _ (λ _. stopped_fair ask.SumFits refl) λ _. holdings_fair _

  value_fair : (strings : ℕ) (x : Answer) (f : Value → Work) → AnswerStops x → AnswerIn strings x → ((v : Value) → ValueIn strings v → Fair k (f v)) → Fair k (with_value w x f)
  value_fair strings (Err n) f s i g = stopped_fair n s
  value_fair strings (Ok v) f s i g = g v i

  amount_fair : (x : Answer) (f : ℕ → Work) → AnswerStops x → ((n : ℕ) → Fair k (f n)) → Fair k (with_amount w x f)
  unfolding ranges
  amount_fair (Err n) f s g = stopped_fair n s
  amount_fair (Ok (Text t)) f s g = stopped_fair ask.OperandKind refl
  amount_fair (Ok (Integer (pos n))) f s g = g n
  amount_fair (Ok (Integer (negsuc n))) f s g = stopped_fair ask.AmountSign refl

paid_fair : {k : Contract} {w : Work} (u : ℕ → ℕ) → Fair k w → (i a n : ℕ) → a < length k.parties → amount_at w i ≤ top → Fair k (paid u w i a n)
unfolding paid ranges
paid_fair {k} {w} u o i a n h m =
    by_cases (Fair k) _ _ _ (λ _. stopped_fair o ask.AmountHeld refl) λ e.
    labelled_fair (holdings_fair o _) asset_label a (pos n) _
    (label_ok_lem k _ asset_label a (pos n) refl h (amount_ok k n) (amount_fits n (omega (arith, ltb-false (amount_at w i) n e))))

onward_fair : {k : Contract} {w : Work} (f : Work → Work) → Fair k w → Fair k (f w) → Fair k (onward w f)
unfolding onward
onward_fair {k} f o g = by_cases (Fair k) _ _ _ (λ _. g) (λ _. o)

truth_fair : {k : Contract} {w x : Work} (t : Truth) → TruthStops t → Fair k w → Fair k x → Fair k (by_truth w t x)
truth_fair (Err q) s o g = stopped_fair o q s
truth_fair (Ok true) s o g = g
truth_fair (Ok false) s o g = o

-- ---- statements

place_few : (c : Scope) → c.assets ≤ max_assets → c.parameters ≤ max_parameters → (h : Holder) → holder_in c h ≡ true → place h < max_holdings
unfolding holder_in
place_few c a p (asset i) e = omega (arith, ltb-true i c.assets e)
place_few c a p (asset_parameter i) e = omega (arith, ltb-true i c.parameters e)

-- the contract has the scope's parties and strings
pub record Inside (k : Contract) (c : Scope) : Type 0 where
  pub parties : c.parties ≤ length k.parties
  pub strings : c.strings ≡ length k.strings
  pub fields_few : c.fields ≤ max_fields
  pub assets_few : c.assets ≤ max_assets
  pub parameters_few : c.parameters ≤ max_parameters

module _ (k : Contract) (c : Scope) (q : Inside k c) (v : List ℤ) (values : (i : ℕ) → within (get_or v i (pos 0)) ≡ true) (t : ℕ) where
  party_few : (a : ℕ) → ltb a c.parties ≡ true → receiver a < length k.parties
  party_few a e = omega (arith, ltb-true a c.parties e, q.parties)

  text_few : (z : Value) → ValueIn c.strings z → ValueIn (length k.strings) z
  text_few (Integer z) h = h
  text_few (Text n) h = omega (arith, q.strings)

  holder_few : (h : Holder) → holder_in c h ≡ true → place h < max_holdings
  holder_few = place_few c q.assets_few q.parameters_few

  performed_fair : {w : Work} (u : ℕ → ℕ) (a : Action) → action_in c a ≡ true → Right c w → Fair k w → Fair k (performed u v t w a)
  unfolding performed action_in expression_in
  performed_fair {w} u (assign e x) i r o =
      let ei = both_left (expression_in c e) (ltb x c.fields) i in
      value_fair o c.strings (value_of (memory_in v t w) e) _ (value_stops c (memory_in v t w) e ei)
      (value_in c (memory_in v t w) (memory_in_lem c q.fields_few v values t r) e ei) (λ z _. stored_fair o x z)
  performed_fair {w} u (send e a) i r o =
      let ei = both_left (expression_in c e) (ltb a c.parties) i in
      value_fair o c.strings (value_of (memory_in v t w) e) _ (value_stops c (memory_in v t w) e ei)
      (value_in c (memory_in v t w) (memory_in_lem c q.fields_few v values t r) e ei)
      (λ z h. sent_fair o (receiver a) z (party_few a (both_right (expression_in c e) (ltb a c.parties) i)) (text_few z h))
  performed_fair {w} u (move e h j) i r o =
      let both = both_right (expression_in c e) (holder_in c h && holder_in c j) i in
      amount_fair o (value_of (memory_in v t w) e) _ (value_stops c (memory_in v t w) e (both_left (expression_in c e) (holder_in c h && holder_in c j) i))
      (λ n. moved_fair o (place h) (place j) n (holder_few j (both_right (holder_in c h) (holder_in c j) both)))
  performed_fair {w} u (pay e h a) i r o =
      let both = both_right (expression_in c e) (holder_in c h && ltb a c.parties) i in
      amount_fair o (value_of (memory_in v t w) e) _ (value_stops c (memory_in v t w) e (both_left (expression_in c e) (holder_in c h && ltb a c.parties) i))
      (λ n. paid_fair u o (place h) (receiver a) n (party_few a (both_right (holder_in c h) (ltb a c.parties) both)) (r.amounts.most (place h)))
  performed_fair {w} u (move_all h j) i r o =
      amount_fair o (value_of (memory_in v t w) (held h)) _ (value_stops c (memory_in v t w) (held h) (both_left (holder_in c h) (holder_in c j) i))
      (λ n. moved_fair o (place h) (place j) n (holder_few j (both_right (holder_in c h) (holder_in c j) i)))
  performed_fair {w} u (pay_all h a) i r o =
      amount_fair o (value_of (memory_in v t w) (held h)) _ (value_stops c (memory_in v t w) (held h) (both_left (holder_in c h) (ltb a c.parties) i))
      (λ n. paid_fair u o (place h) (receiver a) n (party_few a (both_right (holder_in c h) (ltb a c.parties) i)) (r.amounts.most (place h)))

  pub ran_fair : {w : Work} (x : ℕ → ℕ) (b : Block) → block_in c b ≡ true → Right c w → Fair k w → Fair k (ran x v t w b)
  unfolding ran block_in
  ran_fair x none i r o = o
  ran_fair {w} x (perform b a) i r o =
      let bi = both_left (block_in c b) (action_in c a) i in
      let g = ran_fair x b bi r o in
      onward_fair _ g (performed_fair x a (both_right (block_in c b) (action_in c a) i) (ran_right c q.fields_few v values t x b bi r) g)
  ran_fair {w} x (conditional b u s) i r o =
      let bi = both_left (block_in c b) (condition_in c u && block_in c s) i in
      let us = both_right (block_in c b) (condition_in c u && block_in c s) i in
      let g = ran_fair x b bi r o in
      onward_fair _ g
      (truth_fair (truth_of (memory_in v t (ran x v t w b)) u) (truth_stops c (memory_in v t (ran x v t w b)) u (both_left (condition_in c u) (block_in c s) us)) g
      (ran_fair {w = ran x v t w b} x s (both_right (condition_in c u) (block_in c s) us) (ran_right c q.fields_few v values t x b bi r) g))
  ran_fair x broken_block i r o = true_false (sym i)
