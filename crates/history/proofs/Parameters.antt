-- Statements that name no asset parameter leave the parameters' amounts as they are. Assumes nothing.
use mathlib.Core.Path.{◌≡◌, ◌∙◌}
use mathlib.Core.Bool.{true, false, ◌&&◌}
use mathlib.Core.List.{List}
use Prim.Native.Nat.{ℕ, ◌+◌, ◌-◌, ◌<◌, ◌≤◌}
use native.Mathlib.Omega.{arith}
use lib.ListN.{drop, set}
use lib.Seq.{drop-set-lt}
use lib.IntN.{ℤ, pos, negsuc}
use borrow.Author.Tests.{ltb-true}
use Rattle.laws.proofs.Choice.{by_cases}
use Rattle.numbers.specs.declared.Value.{Value}
use Rattle.numbers.specs.declared.Value.TheVariants.{Integer, Text}
use Rattle.contract.specs.Limits.{max_assets}
use Rattle.contract.specs.Tree.{Holder, asset, asset_parameter, held, Action, assign, send, move, pay, move_all, pay_all, Block, none, perform, conditional, broken_block}
use Rattle.contract.specs.Fits.{Scope, holder_in, expression_in, condition_in, action_in, block_in}
use Rattle.laws.proofs.Truths.{both_left, both_right}
use Rattle.evaluation.specs.Meaning.{value_of, truth_of}
use Rattle.statements.specs.Running.{Work, integer_label, string_label, asset_label, memory_in, stopped, onward, stored, labelled, sent, receiver, place, amount_at, moved, paid, with_value, with_amount, performed, by_truth, ran}
use Rattle.numbers.specs.Numbers.{Answer, Truth}
use Rattle.std.specs.Prelude.{Ok, Err}
use Rattle.questions.specs.declared.Question.TheVariants as ask
use Rattle.questions.specs.declared.Question.{Question}

-- work with these amounts of the asset parameters
pub record Parameters (hs : List ℕ) (w : Work) : Type 0 where
  pub amounts : drop max_assets w.holdings ≡ hs

stopped_same : {hs : List ℕ} {w : Work} (n : Question) → Parameters hs w → Parameters hs (stopped w n)
stopped_same n o = record { amounts = o.amounts }

stored_same : {hs : List ℕ} {w : Work} (x : ℕ) (v : Value) → Parameters hs w → Parameters hs (stored w x v)
stored_same x (Integer z) o = record { amounts = o.amounts }
stored_same x (Text n) o = record { amounts = o.amounts }

labelled_same : {hs : List ℕ} {w : Work} (kind party : ℕ) (value : ℤ) (group : ℕ) → Parameters hs w → Parameters hs (labelled w kind party value group)
unfolding labelled
labelled_same {hs} kind party value group o = by_cases (Parameters hs) _ _ _ (λ _. record { amounts = o.amounts }) (λ _. o)

sent_same : {hs : List ℕ} {w : Work} (a : ℕ) (v : Value) → Parameters hs w → Parameters hs (sent w a v)
sent_same a (Integer z) o = labelled_same integer_label a z 0 o
sent_same a (Text n) o = labelled_same string_label a (pos n) 0 o

module _ {hs : List ℕ} {w : Work} (o : Parameters hs w) where
  moved_same : (i j n : ℕ) → i < max_assets → j < max_assets → Parameters hs (moved w i j n)
  unfolding moved
  moved_same i j n h k =
      by_cases (Parameters hs) _ _ _ (λ _. stopped_same ask.AmountHeld o) λ _.
      by_cases (Parameters hs) _ _ _ (λ _. stopped_same ask.TableCheck o) λ _.
      by_cases (Parameters hs) _ _ _ (λ _. o) λ _.
      by_cases (Parameters hs) _ _ _ (λ _. stopped_same ask.SumFits o) λ _.
      let a = amount_at w i - n in
      record { amounts = drop-set-lt max_assets (set w.holdings i a) j (amount_at w j + n) k ∙ drop-set-lt max_assets w.holdings i a h ∙ o.amounts }

  paid_same : (u : ℕ → ℕ) (i a n : ℕ) → i < max_assets → Parameters hs (paid u w i a n)
  unfolding paid
  paid_same u i a n h =
      by_cases (Parameters hs) _ _ _ (λ _. stopped_same ask.AmountHeld o) λ _.
      labelled_same asset_label a (pos n) _ (record { amounts = drop-set-lt max_assets w.holdings i (amount_at w i - n) h ∙ o.amounts })

  amount_same : (x : Answer) (f : ℕ → Work) → ((n : ℕ) → Parameters hs (f n)) → Parameters hs (with_amount w x f)
  amount_same (Err n) f g = stopped_same n o
  amount_same (Ok (Text t)) f g = stopped_same ask.OperandKind o
  amount_same (Ok (Integer (pos n))) f g = g n
  amount_same (Ok (Integer (negsuc n))) f g = stopped_same ask.AmountSign o

  value_same : (x : Answer) (f : Value → Work) → ((v : Value) → Parameters hs (f v)) → Parameters hs (with_value w x f)
  value_same (Err n) f g = stopped_same n o
  value_same (Ok v) f g = g v

onward_same : {hs : List ℕ} {w : Work} (f : Work → Work) → Parameters hs w → (Parameters hs w → Parameters hs (f w)) → Parameters hs (onward w f)
unfolding onward
onward_same {hs} f o g = by_cases (Parameters hs) _ _ _ (λ _. g o) (λ _. o)

truth_same : {hs : List ℕ} {w x : Work} (t : Truth) → Parameters hs w → Parameters hs x → Parameters hs (by_truth w t x)
truth_same (Err q) o g = stopped_same q o
truth_same (Ok true) o g = g
truth_same (Ok false) o g = o

module _ (c : Scope) (few : c.assets ≤ max_assets) (nothing : c.parameters ≡ 0) where
  place_in : (h : Holder) → holder_in c h ≡ true → place h < max_assets
  unfolding holder_in
  place_in (asset i) e = omega (arith, ltb-true i c.assets e)
  place_in (asset_parameter i) e = absurd (omega (arith, ltb-true i c.parameters e))

  performed_same : {hs : List ℕ} {w : Work} (g : ℕ → ℕ) (v : List ℤ) (t : ℕ) (a : Action) → action_in c a ≡ true → Parameters hs w → Parameters hs (performed g v t w a)
  unfolding performed action_in
  performed_same {w = w} g v t (assign e x) i o = value_same o (value_of (memory_in v t w) e) _ (λ z. stored_same x z o)
  performed_same {w = w} g v t (send e a) i o = value_same o (value_of (memory_in v t w) e) _ (λ z. sent_same (receiver a) z o)
  performed_same {w = w} g v t (move e h k) i o =
      let both = both_right (expression_in c e) (holder_in c h && holder_in c k) i in
      amount_same o (value_of (memory_in v t w) e) _
      (λ n. moved_same o (place h) (place k) n (place_in h (both_left (holder_in c h) (holder_in c k) both)) (place_in k (both_right (holder_in c h) (holder_in c k) both)))
  performed_same {w = w} g v t (pay e h a) i o =
      amount_same o (value_of (memory_in v t w) e) _
      (λ n. paid_same o g (place h) (receiver a) n (place_in h (both_left (holder_in c h) _ (both_right (expression_in c e) _ i))))
  performed_same {w = w} g v t (move_all h k) i o =
      amount_same o (value_of (memory_in v t w) (held h)) _
      (λ n. moved_same o (place h) (place k) n (place_in h (both_left (holder_in c h) (holder_in c k) i)) (place_in k (both_right (holder_in c h) (holder_in c k) i)))
  performed_same {w = w} g v t (pay_all h a) i o =
      amount_same o (value_of (memory_in v t w) (held h)) _ (λ n. paid_same o g (place h) (receiver a) n (place_in h (both_left (holder_in c h) _ i)))

  pub ran_same : {hs : List ℕ} {w : Work} (g : ℕ → ℕ) (v : List ℤ) (t : ℕ) (b : Block) → block_in c b ≡ true → Parameters hs w → Parameters hs (ran g v t w b)
  unfolding ran block_in
  ran_same g v t none i o = o
  ran_same g v t (perform b a) i o =
      onward_same _ (ran_same g v t b (both_left (block_in c b) (action_in c a) i) o)
      (λ k. performed_same g v t a (both_right (block_in c b) (action_in c a) i) k)
  ran_same {w = w} g v t (conditional b u s) i o =
      onward_same _ (ran_same g v t b (both_left (block_in c b) (condition_in c u && block_in c s) i) o)
      (λ k. truth_same (truth_of (memory_in v t (ran g v t w b)) u) k
      (ran_same {w = ran g v t w b} g v t s (both_right (condition_in c u) (block_in c s) (both_right (block_in c b) (condition_in c u && block_in c s) i)) k))
  ran_same g v t broken_block i o = stopped_same ask.TableCheck o
