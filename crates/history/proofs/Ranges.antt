-- Statements in scope keep the work within its ranges: fields of the contract, its strings, 64-bit integers, and amounts up to the
-- greatest one, of the contract's assets and of parameters. Assumes nothing.
use mathlib.Core.Path.{◌≡◌, refl, ap, ◌∙◌}
use mathlib.Core.Bool.{true, false, ◌&&◌}
use mathlib.Core.List.{List, [], ◌∷◌}
use Prim.Native.Nat.{ℕ, zero, suc, ◌+◌, ◌-◌, ◌<◌, ◌≤◌}
use native.Mathlib.Omega.{arith}
use lib.ListN.{length, get_or, set, length-set}
use lib.Dec.{ltb}
use lib.IntN.{ℤ, pos, negsuc}
use borrow.Author.Tests.{ltb-true, lt-ltb, ltb-false}
use Rattle.laws.specs.Choice.{pick}
use Rattle.laws.proofs.Choice.{by_cases}
use Rattle.numbers.specs.Numbers.{within, Answer, Truth}
use Rattle.numbers.specs.declared.Value.{Value}
use Rattle.numbers.specs.declared.Value.TheVariants.{Integer, Text}
use Rattle.contract.specs.Limits.{top, max_assets, max_fields}
use Rattle.contract.specs.Tree.{Holder, asset, asset_parameter, held, Action, assign, send, move, pay, move_all, pay_all, Block, none, perform, conditional, broken_block}
use Rattle.contract.specs.Fits.{Scope, holder_in, expression_in, condition_in, action_in, block_in}
use Rattle.laws.proofs.Truths.{both_left, both_right}
use Rattle.evaluation.specs.Meaning.{value_of, truth_of}
use Rattle.state.specs.States.{field_ok}
use Rattle.statements.specs.Running.{Work, max_holdings, integer_label, string_label, asset_label, memory_in, stopped, onward, stored, with_holdings, labelled, sent, receiver, place, amount_at, moved, paid, with_value, with_amount, performed, by_truth, ran}
use Rattle.history.proofs.ValuesInRange.{ValueIn, AnswerIn, Fields, fields_set, MemoryIn, value_in}
use Rattle.std.specs.Prelude.{Ok, Err}
use Rattle.questions.specs.declared.Question.TheVariants as ask
use Rattle.questions.specs.declared.Question.{Question}

-- the amounts of the assets, of which a contract has so many, and of the parameters
pub record Amounts (assets : ℕ) (hs : List ℕ) : Type 0 where
  pub holdings_length : length hs ≡ max_holdings
  pub most : (i : ℕ) → get_or hs i 0 ≤ top
  pub unused : (i : ℕ) → assets ≤ i → i < max_assets → get_or hs i 0 ≡ 0

pub record Right (c : Scope) (w : Work) : Type 0 where
  pub fields : Fields c.strings c.fields w.kinds w.numbers w.texts
  pub amounts : Amounts c.assets w.holdings

-- what holds of what is set and of each element before holds of each element after
set_each : {A : Type 0} (P : A → Type 0) (l : List A) (i k : ℕ) (v d : A) → (k ≡ i → P v) → P (get_or l k d) → P (get_or (set l i v) k d)
set_each P [] i k v d f p = p
set_each P (x ∷ l) zero zero v d f p = f refl
set_each P (x ∷ l) zero (suc k) v d f p = p
set_each P (x ∷ l) (suc i) zero v d f p = p
set_each P (x ∷ l) (suc i) (suc k) v d f p = set_each P l i k v d (λ e. f (ap suc e)) p

-- ---- one change

-- an amount of an asset of the contract, or of a parameter
abbrev Held : ℕ → ℕ → Type 0
Held assets i = assets ≤ i → i < max_assets → ⊥

amounts_set : {assets : ℕ} {hs : List ℕ} (i n : ℕ) → Held assets i → n ≤ top → Amounts assets hs → Amounts assets (set hs i n)
amounts_set {assets} {hs} i n u h o =
    record {
      holdings_length = length-set hs i n ∙ o.holdings_length;
      most = λ k. set_each (λ (a : ℕ). a ≤ top) hs i k n 0 (λ _. h) (o.most k);
      unused = λ k a b. set_each (λ (z : ℕ). z ≡ 0) hs i k n 0 (λ e. absurd (u (omega arith) (omega arith))) (o.unused k a b);
    }

module _ {c : Scope} {w : Work} (o : Right c w) where
  stopped_right : (n : Question) → Right c (stopped w n)
  stopped_right n = record { fields = o.fields; amounts = o.amounts }

  labelled_right : (kind party : ℕ) (value : ℤ) (group : ℕ) → Right c (labelled w kind party value group)
  unfolding labelled
  labelled_right kind party value group = by_cases (Right c) _ _ _ (λ _. record { fields = o.fields; amounts = o.amounts }) (λ _. o)

  sent_right : (a : ℕ) (v : Value) → Right c (sent w a v)
  sent_right a (Integer z) = labelled_right integer_label a z 0
  sent_right a (Text n) = labelled_right string_label a (pos n) 0

  stored_right : c.fields ≤ max_fields → (x : ℕ) (v : Value) → x < c.fields → ValueIn c.strings v → Right c (stored w x v)
  unfolding field_ok pick
  stored_right few x (Integer z) h v = record { fields = fields_set x 1 z 0 o.fields h few refl v; amounts = o.amounts }
  stored_right few x (Text n) h v = record { fields = fields_set x 2 (pos 0) n o.fields h few (lt-ltb n c.strings v) refl; amounts = o.amounts }

  holdings_right : (hs : List ℕ) → Amounts c.assets hs → Right c (with_holdings w hs)
  holdings_right hs a = record { fields = o.fields; amounts = a }

  module _ (i : ℕ) (from : Held c.assets i) where
    less : (n : ℕ) → Amounts c.assets (set w.holdings i (amount_at w i - n))
    less n = amounts_set i (amount_at w i - n) from (omega (arith, o.amounts.most i)) o.amounts

    moved_right : (j : ℕ) → Held c.assets j → (n : ℕ) → Right c (moved w i j n)
    unfolding moved
    moved_right j to n =
        by_cases (Right c) _ _ _ (λ _. stopped_right ask.AmountHeld) λ _.
        by_cases (Right c) _ _ _ (λ _. stopped_right ask.TableCheck) λ _.
        by_cases (Right c) _ _ _ (λ _. o) λ _.
        by_cases (Right c) _ _ _ (λ _. stopped_right ask.SumFits) λ h.
        holdings_right _ (amounts_set j (amount_at w j + n) to (ltb-false top (amount_at w j + n) h) (less n))

  value_right : (x : Answer) (f : Value → Work) → AnswerIn c.strings x → ((v : Value) → ValueIn c.strings v → Right c (f v)) → Right c (with_value w x f)
  value_right (Err n) f i g = stopped_right n
  value_right (Ok v) f i g = g v i

  amount_right : (x : Answer) (f : ℕ → Work) → ((n : ℕ) → Right c (f n)) → Right c (with_amount w x f)
  amount_right (Err n) f g = stopped_right n
  amount_right (Ok (Text t)) f g = stopped_right ask.OperandKind
  amount_right (Ok (Integer (pos n))) f g = g n
  amount_right (Ok (Integer (negsuc n))) f g = stopped_right ask.AmountSign

paid_right : {c : Scope} {w : Work} (u : ℕ → ℕ) (o : Right c w) (i : ℕ) → Held c.assets i → (a n : ℕ) → Right c (paid u w i a n)
unfolding paid
paid_right {c} u o i from a n =
    by_cases (Right c) _ _ _ (λ _. stopped_right o ask.AmountHeld) λ _.
    labelled_right (holdings_right o _ (less o i from n)) asset_label a (pos n) _

onward_right : {c : Scope} {w : Work} (f : Work → Work) → Right c w → (Right c w → Right c (f w)) → Right c (onward w f)
unfolding onward
onward_right {c} f o g = by_cases (Right c) _ _ _ (λ _. g o) (λ _. o)

truth_right : {c : Scope} {w x : Work} (t : Truth) → Right c w → Right c x → Right c (by_truth w t x)
truth_right (Err q) o g = stopped_right o q
truth_right (Ok true) o g = g
truth_right (Ok false) o g = o

-- ---- statements

place_held : (c : Scope) (h : Holder) → holder_in c h ≡ true → Held c.assets (place h)
unfolding holder_in
place_held c (asset i) e a b = omega (arith, ltb-true i c.assets e)
place_held c (asset_parameter i) e a b = omega arith

-- with these value parameters, at this clock
module _ (c : Scope) (few : c.fields ≤ max_fields) (v : List ℤ) (values : (i : ℕ) → within (get_or v i (pos 0)) ≡ true) (t : ℕ) where
  pub memory_in_lem : {w : Work} → Right c w → MemoryIn c (memory_in v t w)
  memory_in_lem o = record { fields = o.fields; fields_few = few; values = values }

  performed_right : {w : Work} (u : ℕ → ℕ) (a : Action) → action_in c a ≡ true → Right c w → Right c (performed u v t w a)
  unfolding performed action_in
  performed_right {w} u (assign e x) i o =
      value_right o (value_of (memory_in v t w) e) _ (value_in c (memory_in v t w) (memory_in_lem o) e (both_left (expression_in c e) (ltb x c.fields) i))
      (λ z h. stored_right o few x z (ltb-true x c.fields (both_right (expression_in c e) (ltb x c.fields) i)) h)
  performed_right {w} u (send e a) i o =
      value_right o (value_of (memory_in v t w) e) _ (value_in c (memory_in v t w) (memory_in_lem o) e (both_left (expression_in c e) (ltb a c.parties) i))
      (λ z _. sent_right o (receiver a) z)
  performed_right {w} u (move e h k) i o =
      let both = both_right (expression_in c e) (holder_in c h && holder_in c k) i in
      amount_right o (value_of (memory_in v t w) e) _
      (moved_right o (place h) (place_held c h (both_left (holder_in c h) (holder_in c k) both)) (place k) (place_held c k (both_right (holder_in c h) (holder_in c k) both)))
  performed_right {w} u (pay e h a) i o =
      amount_right o (value_of (memory_in v t w) e) _
      (paid_right u o (place h) (place_held c h (both_left (holder_in c h) (ltb a c.parties) (both_right (expression_in c e) (holder_in c h && ltb a c.parties) i))) (receiver a))
  performed_right {w} u (move_all h k) i o =
      amount_right o (value_of (memory_in v t w) (held h)) _
      (moved_right o (place h) (place_held c h (both_left (holder_in c h) (holder_in c k) i)) (place k) (place_held c k (both_right (holder_in c h) (holder_in c k) i)))
  performed_right {w} u (pay_all h a) i o =
      amount_right o (value_of (memory_in v t w) (held h)) _ (paid_right u o (place h) (place_held c h (both_left (holder_in c h) (ltb a c.parties) i)) (receiver a))

  pub ran_right : {w : Work} (g : ℕ → ℕ) (b : Block) → block_in c b ≡ true → Right c w → Right c (ran g v t w b)
  unfolding ran block_in
  ran_right g none i o = o
  ran_right g (perform b a) i o =
      onward_right _ (ran_right g b (both_left (block_in c b) (action_in c a) i) o) (performed_right g a (both_right (block_in c b) (action_in c a) i))
  ran_right {w} g (conditional b u s) i o =
      onward_right _ (ran_right g b (both_left (block_in c b) (condition_in c u && block_in c s) i) o)
      (λ k. truth_right (truth_of (memory_in v t (ran g v t w b)) u) k
      (ran_right {w = ran g v t w b} g s (both_right (condition_in c u) (block_in c s) (both_right (block_in c b) (condition_in c u && block_in c s) i)) k))
  ran_right g broken_block i o = stopped_right o ask.TableCheck
