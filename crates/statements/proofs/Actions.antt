-- What a statement does by its nodes and by what working out its expression gave. Assumes nothing.
use mathlib.Core.Path.{◌≡◌, refl, sym, ap, ◌∙◌}
use mathlib.Core.Bool.{Bool, true, false}
use mathlib.Core.List.{List}
use Prim.Native.Nat.{ℕ, ◌-◌}
use lib.Dec.{eqb}
use lib.IntN.{ℤ, pos, negsuc}
use borrow.Author.Tests.{eq-eqb, ne_eqb}
use Rattle.std.specs.Prelude.{Ok, Err}
use Rattle.laws.specs.Choice.{pick}
use Rattle.questions.specs.declared.Question.{Question}
use Rattle.questions.specs.declared.Question.TheVariants as ask
use Rattle.laws.proofs.Choice.{pick_true, pick_false}
use Rattle.numbers.specs.declared.Value.{Value}
use Rattle.numbers.specs.declared.Value.TheVariants.{Integer, Text}
use Rattle.numbers.specs.Numbers.{Answer}
use Rattle.contract.specs.Table.{kind_at, argument_at}
use Rattle.contract.specs.Rows.{node_of}
use Rattle.contract.specs.declared.Node.{Node}
use Rattle.contract.specs.Tree.{Action, assign, send, move, pay, move_all, pay_all, held}
use Rattle.contract.specs.Decode.{holder_of, holder_at, expression_at, value_move_at, asset_move_at, whole_move_at}
use Rattle.evaluation.specs.Meaning.{value_of}
use Rattle.statements.specs.Running.{Work, memory_in, stopped, stored, sent, receiver, place, moved, paid, with_amount, performed}
use Rattle.statements.specs.Blocks.{action_at}
use Rattle.statements.specs.Private.{amount_in, value_given, amount_given, answer_at}

-- ---- the amount

module _ (w : Work) (f : ℕ → Work) where
  amount_goes : (v : Value) (n : ℕ) (r : Work) → amount_in v ≡ Ok n → r ≡ f n → r ≡ with_amount w (Ok v) f
  amount_goes (Text t) n r e h = absurd (cc)
  amount_goes (Integer (pos m)) n r e h = let q : n ≡ m = cc in h ∙ ap f q
  amount_goes (Integer (negsuc m)) n r e h = absurd (cc)

  amount_stops : (v : Value) (q : Question) → amount_in v ≡ Err q → stopped w q ≡ with_amount w (Ok v) f
  amount_stops (Text t) q e = let p : q ≡ ask.OperandKind = cc in ap (stopped w) p
  amount_stops (Integer (pos m)) q e = absurd (cc)
  amount_stops (Integer (negsuc m)) q e = let p : q ≡ ask.AmountSign = cc in ap (stopped w) p

-- ---- where a value and an amount go, by the nodes

module _ (g : ℕ → ℕ) (w : Work) (t : List ℕ) (k : ℕ) (a : Answer) where
  pub value_refused : (q : Question) → a ≡ Err q → stopped w q ≡ value_given w t k a
  unfolding value_given pick
  value_refused q e = go (eqb (kind_at t (k - 1)) 23) ∙ sym (ap (value_given w t k) e)
    where
      go : (b : Bool) → stopped w q ≡ pick b (stopped w q) (stopped w q)
      go true = refl
      go false = refl

  pub amount_refused : (q : Question) → a ≡ Err q → stopped w q ≡ amount_given g w t k a
  unfolding amount_given pick
  amount_refused q e = go (eqb (kind_at t (k - 1)) 23) ∙ sym (ap (amount_given g w t k) e)
    where
      go : (b : Bool) → stopped w q ≡ pick b (stopped w q) (stopped w q)
      go true = refl
      go false = refl

  pub amount_unfit : (x : Value) → a ≡ Ok x → (q : Question) → amount_in x ≡ Err q → stopped w q ≡ amount_given g w t k a
  unfolding amount_given pick
  amount_unfit x e q s = go (eqb (kind_at t (k - 1)) 23) ∙ sym (ap (amount_given g w t k) e)
    where
      i : ℕ
      i = place (holder_at t (k - 2))

      go : (b : Bool)
          → stopped w q
          ≡ pick b (with_amount w (Ok x) (paid g w i (receiver (argument_at t (k - 1))))) (with_amount w (Ok x) (moved w i (place (holder_at t (k - 1)))))
      go true = amount_stops w (paid g w i (receiver (argument_at t (k - 1)))) x q s
      go false = amount_stops w (moved w i (place (holder_at t (k - 1)))) x q s

  module _ (r : Work) (x : Value) (e : a ≡ Ok x) (target : Node) (et : target ≡ node_of t (k - 1)) where
    pub value_sent : (p : ℕ) → p ≡ receiver target.argument → target.kind ≡ 23 → r ≡ sent w p x → r ≡ value_given w t k a
    unfolding value_given
    value_sent p ep q h =
        h
        ∙ ap (λ (y : ℕ). sent w y x) (ep ∙ (λ i. receiver (et i).argument))
        ∙ sym (pick_true _ _ _ (eq-eqb (kind_at t (k - 1)) 23 (sym (λ i. (et i).kind) ∙ q)))
        ∙ sym (ap (value_given w t k) e)

    pub value_stored : (target.kind ≡ 23 → ⊥) → r ≡ stored w target.argument x → r ≡ value_given w t k a
    unfolding value_given
    value_stored q h =
        h
        ∙ (λ i. stored w (et i).argument x)
        ∙ sym (pick_false _ _ _ (ne_eqb (kind_at t (k - 1)) 23 (λ p. q ((λ i. (et i).kind) ∙ p))))
        ∙ sym (ap (value_given w t k) e)

    module _ (source : Node) (es : source ≡ node_of t (k - 2)) (i : ℕ) (ei : i ≡ place (holder_of source.kind source.argument)) where
      from : i ≡ place (holder_at t (k - 2))
      from = ei ∙ (λ y. place (holder_of (es y).kind (es y).argument))

      pub amount_paid : (n p : ℕ) → amount_in x ≡ Ok n → p ≡ receiver target.argument → target.kind ≡ 23 → r ≡ paid g w i p n
          → r ≡ amount_given g w t k a
      unfolding amount_given
      amount_paid n p en ep q h =
          amount_goes w (paid g w i p) x n r en h
          ∙ (λ y. with_amount w (Ok x) (paid g w (from y) ((ep ∙ (λ z. receiver (et z).argument)) y)))
          ∙ sym (pick_true _ _ _ (eq-eqb (kind_at t (k - 1)) 23 (sym (λ y. (et y).kind) ∙ q)))
          ∙ sym (ap (amount_given g w t k) e)

      pub amount_moved : (n j : ℕ) → amount_in x ≡ Ok n → (target.kind ≡ 23 → ⊥) → j ≡ place (holder_of target.kind target.argument)
          → r ≡ moved w i j n → r ≡ amount_given g w t k a
      unfolding amount_given
      amount_moved n j en q ej h =
          amount_goes w (moved w i j) x n r en h
          ∙ (λ y. with_amount w (Ok x) (moved w (from y) ((ej ∙ (λ z. place (holder_of (et z).kind (et z).argument))) y)))
          ∙ sym (pick_false _ _ _ (ne_eqb (kind_at t (k - 1)) 23 (λ p. q ((λ y. (et y).kind) ∙ p))))
          ∙ sym (ap (amount_given g w t k) e)

-- ---- statements

module _ (g : ℕ → ℕ) (v : List ℤ) (c : ℕ) (w : Work) (t : List ℕ) (k : ℕ) where
  value_moved : performed g v c w (value_move_at t k) ≡ value_given w t k (value_of (memory_in v c w) (expression_at t (k - 2)))
  unfolding value_move_at value_given performed pick
  value_moved = go (eqb (kind_at t (k - 1)) 23)
    where
      go : (b : Bool)
          → performed g v c w (pick b (send (expression_at t (k - 2)) (argument_at t (k - 1))) (assign (expression_at t (k - 2)) (argument_at t (k - 1))))
          ≡ pick b (performed g v c w (send (expression_at t (k - 2)) (argument_at t (k - 1))))
          (performed g v c w (assign (expression_at t (k - 2)) (argument_at t (k - 1))))
      go true = refl
      go false = refl

  asset_moved : performed g v c w (asset_move_at t k) ≡ amount_given g w t k (value_of (memory_in v c w) (expression_at t (k - 3)))
  unfolding asset_move_at amount_given performed pick
  asset_moved = go (eqb (kind_at t (k - 1)) 23)
    where
      paying : Action
      paying = pay (expression_at t (k - 3)) (holder_at t (k - 2)) (argument_at t (k - 1))

      moving : Action
      moving = move (expression_at t (k - 3)) (holder_at t (k - 2)) (holder_at t (k - 1))

      go : (b : Bool) → performed g v c w (pick b paying moving) ≡ pick b (performed g v c w paying) (performed g v c w moving)
      go true = refl
      go false = refl

  whole_moved : performed g v c w (whole_move_at t k) ≡ amount_given g w t k (value_of (memory_in v c w) (held (holder_at t (k - 2))))
  unfolding whole_move_at amount_given performed pick
  whole_moved = go (eqb (kind_at t (k - 1)) 23)
    where
      paying : Action
      paying = pay_all (holder_at t (k - 2)) (argument_at t (k - 1))

      moving : Action
      moving = move_all (holder_at t (k - 2)) (holder_at t (k - 1))

      go : (b : Bool) → performed g v c w (pick b paying moving) ≡ pick b (performed g v c w paying) (performed g v c w moving)
      go true = refl
      go false = refl

  module _ (node : Node) (en : node ≡ node_of t k) (a : Answer) (ea : a ≡ answer_at (memory_in v c w) t k node.kind) (r : Work) where
    pub acts_value : node.kind ≡ 24 → r ≡ value_given w t k a → r ≡ performed g v c w (action_at t k)
    unfolding answer_at action_at
    acts_value e h =
        h
        ∙ ap (value_given w t k) (ea ∙ pick_true _ _ _ (eq-eqb node.kind 24 e))
        ∙ sym value_moved
        ∙ ap (performed g v c w) (sym (pick_true _ _ _ (eq-eqb (kind_at t k) 24 (sym (λ i. (en i).kind) ∙ e))))

    pub acts_amount : (node.kind ≡ 24 → ⊥) → r ≡ amount_given g w t k a → r ≡ performed g v c w (action_at t k)
    unfolding answer_at action_at pick
    acts_amount n h =
        h
        ∙ ap (amount_given g w t k) (ea ∙ pick_false _ _ _ (ne_eqb node.kind 24 n) ∙ (λ i. pick (eqb (en i).kind 25) (value_of (memory_in v c w) (expression_at t (k - 3))) (value_of (memory_in v c w) (held (holder_at t (k - 2))))))
        ∙ go (eqb (kind_at t k) 25)
        ∙ ap (performed g v c w) (sym (pick_false _ _ _ (ne_eqb (kind_at t k) 24 (λ p. n ((λ i. (en i).kind) ∙ p)))))
      where
        go : (b : Bool)
            → amount_given g w t k (pick b (value_of (memory_in v c w) (expression_at t (k - 3))) (value_of (memory_in v c w) (held (holder_at t (k - 2)))))
            ≡ performed g v c w (pick b (asset_move_at t k) (whole_move_at t k))
        go true = sym asset_moved
        go false = sym whole_moved
