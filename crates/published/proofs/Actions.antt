-- An action of the machine is carried out by a rule of Table 3, or meets the no that the machine met, one of questions 30 to 36. Assumes
-- nothing.
use mathlib.Core.Path.{◌≡◌, refl, sym, ap, subst, ◌∙◌}
use mathlib.Core.Bool.{true, ◌&&◌}
use mathlib.Core.List.{List, [], ◌∷◌, ◌++◌, map, map-append, append-nil}
use Prim.Native.Nat.{ℕ, suc, ◌+◌, ◌<◌, ◌≤◌}
use native.Mathlib.Omega.{arith}
use lib.ListN.{length, take, length-set}
use lib.Seq.{take-suc-set}
use lib.IntN.{ℤ, pos, negsuc}
use lib.Dec.{ltb}
use borrow.Author.Tests.{ltb-true, ltb-false, leb-true, eqb-true, eqb-false}
use Rattle.laws.proofs.Choice.{by_cases}
use Rattle.numbers.specs.declared.Value.{Value}
use Rattle.numbers.specs.declared.Value.TheVariants.{Integer, Text}
use Rattle.std.specs.Prelude.{None, Some, Ok, Err}
use Rattle.questions.specs.declared.Question.{Question}
use Rattle.questions.specs.declared.Question.TheVariants as ask
use Rattle.numbers.specs.Numbers.{Answer}
use Rattle.contract.specs.Limits.{top, max_parties, max_assets, max_parameters}
use Rattle.contract.specs.Check.{ranges}
use Rattle.contract.specs.Fits.{Scope, holder_in, expression_in, action_in}
use Rattle.laws.proofs.Truths.{both_left, both_right}
use Rattle.contract.specs.Tree.{Holder, asset, asset_parameter, Expression, held, Action, assign, send, move, pay, move_all, pay_all}
use Rattle.evaluation.specs.Memory.{place_of}
use Rattle.evaluation.specs.Meaning.{value_of}
use Rattle.statements.specs.declared.Label.{Label}
use Rattle.statements.specs.Running.{Work, integer_label, string_label, asset_label, max_labels, max_holdings, memory_in, stored, labelled, sent, receiver, place, amount_at, moved, paid, performed}
use Rattle.statements.specs.Running as running
use Rattle.history.proofs.RefusalNumbers.{Stops, AnswerStops, value_stops}
use Rattle.published.specs.Published.{as_published, Statement, act, spelled, Table3, value_send, asset_send, field_update, asset_update, asset_update_self, NoAmount, refuses, string, negative, uncovered, Meets, send_meets, assign_meets, pay_meets, move_meets, move_full}

-- the labels sent so far, as published
abbrev pub labels_of : Work → List Label
labels_of w = map as_published (take w.count w.labels)

-- at most so many, and there is room for 64
pub record Room (most : ℕ) (w : Work) : Type 0 where
  pub labels_length : length w.labels ≡ max_labels
  pub few : w.count ≤ most

-- a scope within the contract's limits
pub record Limited (c : Scope) : Type 0 where
  pub parties : c.parties ≤ max_parties
  pub assets : c.assets ≤ max_assets
  pub parameters : c.parameters ≤ max_parameters

-- every asset and every parameter has its place, and every party its number
module _ (c : Scope) (l : Limited c) where
  place_in : (h : Holder) → holder_in c h ≡ true → place_of h < max_holdings
  unfolding holder_in
  place_in (asset i) e = omega (arith, ltb-true i c.assets e, l.assets)
  place_in (asset_parameter i) e = omega (arith, ltb-true i c.parameters e, l.parameters)

  same_place : (h : Holder) → holder_in c h ≡ true → place_of h ≡ place h
  same_place h e = let l = place_in h e in omega arith

  same_receiver : (a : ℕ) → ltb a c.parties ≡ true → a ≡ receiver a
  same_receiver a e = omega (arith, ltb-true a c.parties e, l.parties)

module _ (v : List ℤ) (t : ℕ) where
  -- statement s on work w gives this work
  pub data Acted (w : Work) (s : Statement) (most : ℕ) (w' : Work) : Type 0 where
    goes : (ls : List Label) → w'.refusal ≡ None → Room most w' → labels_of w' ≡ labels_of w ++ ls
        → ((rest : List Statement) → Table3 (memory_in v t w) (s ∷ rest) ls (memory_in v t w') rest) → Acted w s most w'
    sticks : {q : Question} → w'.refusal ≡ Some q → Meets (memory_in v t w) s q → Stops q → Acted w s most w'

  module _ {m : ℕ} {w : Work} (o : Room m w) (z : w.refusal ≡ None) (few : m < max_labels) where
    more : {w' : Work} → w'.labels ≡ w.labels → w'.count ≡ w.count → Room (suc m) w'
    more e c = record { labels_length = ap length e ∙ o.labels_length; few = omega (arith, o.few) }

    same_labels : labels_of w ≡ labels_of w ++ []
    same_labels = sym (append-nil (labels_of w))

    -- one label more, on the memory of x
    labelled_goes : (s : Statement) (x : Work) (kind party : ℕ) (value : ℤ) (group : ℕ) → x.labels ≡ w.labels → x.count ≡ w.count → x.refusal ≡ None
        → ((rest : List Statement) → Table3 (memory_in v t w) (s ∷ rest) (record { kind = kind; party = party; value = value; group = 0 } ∷ []) (memory_in v t x) rest)
        → Acted w s (suc m) (labelled x kind party value group)
    unfolding labelled
    labelled_goes s x kind party value group le ce re r =
        let l : Label = record { kind = kind; party = party; value = value; group = group } in
        by_cases (Acted w s (suc m)) _ _ _
        (λ _. goes (as_published l ∷ []) re
        (record { labels_length = length-set x.labels x.count l ∙ ap length le ∙ o.labels_length; few = omega (arith, o.few) })
        (ap (map as_published) (take-suc-set x.labels x.count l (omega (arith, ap length le, o.few, o.labels_length)))
        ∙ map-append as_published (take x.count x.labels) (l ∷ [])
        ∙ (λ i. map as_published (take (ce i) (le i)) ++ (as_published l ∷ []))) r)
        (λ h. absurd (omega (arith, ltb-false x.count max_labels h, o.few)))

    sent_goes : (e : Expression) (a : ℕ) (x : Value) → value_of (memory_in v t w) e ≡ Ok x → Acted w (act (send e a)) (suc m) (sent w a x)
    sent_goes e a (Integer y) h = labelled_goes (act (send e a)) w integer_label a y 0 refl refl z (λ rest. value_send h)
    sent_goes e a (Text n) h = labelled_goes (act (send e a)) w string_label a (pos n) 0 refl refl z (λ rest. value_send h)

    stored_goes : (e : Expression) (x : ℕ) (y : Value) → value_of (memory_in v t w) e ≡ Ok y → Acted w (act (assign e x)) (suc m) (stored w x y)
    stored_goes e x (Integer y) h = goes [] z (more refl refl) same_labels (λ rest. field_update h)
    stored_goes e x (Text n) h = goes [] z (more refl refl) same_labels (λ rest. field_update h)

    -- ---- amounts

    module _ (e : Expression) (h : Holder) where
      paid_acts : (u : ℕ → ℕ) (a n : ℕ) → value_of (memory_in v t w) e ≡ Ok (Integer (pos n)) → Acted w (act (pay e h a)) (suc m) (paid u w (place_of h) a n)
      unfolding paid ranges
      paid_acts u a n g =
          by_cases (Acted w (act (pay e h a)) (suc m)) _ _ _
          (λ l. sticks refl (pay_meets (uncovered g (ltb-true (amount_at w (place_of h)) n l))) refl)
          (λ l. labelled_goes (act (pay e h a)) _ asset_label a (pos n) (u (place_of h)) refl refl z (λ rest. asset_send g (ltb-false (amount_at w (place_of h)) n l)))

      moved_acts : (k : Holder) → place_of k < max_holdings → (n : ℕ) → value_of (memory_in v t w) e ≡ Ok (Integer (pos n)) → Acted w (act (move e h k)) (suc m) (moved w (place_of h) (place_of k) n)
      unfolding moved ranges
      moved_acts k p n g =
          by_cases (Acted w (act (move e h k)) (suc m)) _ _ _
          (λ l. sticks refl (move_meets (uncovered g (ltb-true (amount_at w (place_of h)) n l))) refl) λ l.
          by_cases (Acted w (act (move e h k)) (suc m)) _ _ _
          (λ x. absurd (omega (arith, leb-true max_holdings (place_of k) x))) λ _.
          by_cases (Acted w (act (move e h k)) (suc m)) _ _ _
          (λ d. goes [] z (more refl refl) same_labels
          (λ rest. asset_update_self g (ltb-false (amount_at w (place_of h)) n l) (eqb-true (place_of h) (place_of k) d))) λ d.
          by_cases (Acted w (act (move e h k)) (suc m)) _ _ _
          (λ f. sticks refl
          (move_full g (ltb-false (amount_at w (place_of h)) n l) (eqb-false (place_of h) (place_of k) d) (ltb-true top (amount_at w (place_of k) + n) f)) refl) λ f.
          goes [] z (more refl refl) same_labels
          (λ rest. asset_update g (ltb-false (amount_at w (place_of h)) n l) (eqb-false (place_of h) (place_of k) d)
          (ltb-false top (amount_at w (place_of k) + n) f))

      -- with an amount, of a statement that asks for one
      amount_acts : (s : Statement) (f : ℕ → Work) → ((q : Question) → NoAmount (memory_in v t w) e h q → Meets (memory_in v t w) s q)
          → ((n : ℕ) → value_of (memory_in v t w) e ≡ Ok (Integer (pos n)) → Acted w s (suc m) (f n))
          → (x : Answer) → AnswerStops x → value_of (memory_in v t w) e ≡ x → Acted w s (suc m) (running.with_amount w x f)
      unfolding ranges
      amount_acts s f i g (Err n) k q = sticks refl (i n (refuses q)) k
      amount_acts s f i g (Ok (Text n)) k q = sticks refl (i ask.OperandKind (string q)) refl
      amount_acts s f i g (Ok (Integer (pos n))) k q = g n q
      amount_acts s f i g (Ok (Integer (negsuc n))) k q = sticks refl (i ask.AmountSign (negative q)) refl

    value_acts : (e : Expression) (s : Statement) (f : Value → Work) → ((q : Question) → value_of (memory_in v t w) e ≡ Err q → Meets (memory_in v t w) s q)
        → ((y : Value) → value_of (memory_in v t w) e ≡ Ok y → Acted w s (suc m) (f y))
        → (x : Answer) → AnswerStops x → value_of (memory_in v t w) e ≡ x → Acted w s (suc m) (running.with_value w x f)
    value_acts e s f i g (Err n) k q = sticks refl (i n q) k
    value_acts e s f i g (Ok y) k q = g y q

    -- in scope, at the machine's places
    module _ (c : Scope) (l : Limited c) (e : Expression) (j : expression_in c e ≡ true) (h : Holder) (i : holder_in c h ≡ true) where
      move_acts : (k : Holder) → holder_in c k ≡ true → Acted w (act (move e h k)) (suc m) (running.with_amount w (value_of (memory_in v t w) e) (moved w (place h) (place k)))
      move_acts k i' =
          amount_acts e h _ _ (λ n x. move_meets x)
          (λ n q. subst (λ (x : ℕ). Acted w (act (move e h k)) (suc m) (moved w x (place k) n)) (same_place c l h i)
          (subst (λ (x : ℕ). Acted w (act (move e h k)) (suc m) (moved w (place_of h) x n)) (same_place c l k i')
          (moved_acts e h k (place_in c l k i') n q)))
          (value_of (memory_in v t w) e) (value_stops c (memory_in v t w) e j) refl

      pay_acts : (u : ℕ → ℕ) (a : ℕ) → ltb a c.parties ≡ true → Acted w (act (pay e h a)) (suc m) (running.with_amount w (value_of (memory_in v t w) e) (paid u w (place h) (receiver a)))
      pay_acts u a i' =
          amount_acts e h _ _ (λ n x. pay_meets x)
          (λ n q. subst (λ (x : ℕ). Acted w (act (pay e h a)) (suc m) (paid u w x (receiver a) n)) (same_place c l h i)
          (subst (λ (x : ℕ). Acted w (act (pay e h a)) (suc m) (paid u w (place_of h) x n)) (same_receiver c l a i') (paid_acts e h u a n q)))
          (value_of (memory_in v t w) e) (value_stops c (memory_in v t w) e j) refl

    pub performed_acts : (u : ℕ → ℕ) (c : Scope) → Limited c → (a : Action) → action_in c a ≡ true → Acted w (act (spelled a)) (suc m) (performed u v t w a)
    unfolding performed action_in expression_in
    performed_acts u c l (assign e x) i =
        value_acts e _ _ (λ n q. assign_meets q) (stored_goes e x) (value_of (memory_in v t w) e) (value_stops c (memory_in v t w) e (both_left (expression_in c e) _ i)) refl
    performed_acts u c l (send e a) i =
        value_acts e _ _ (λ n q. send_meets q)
        (λ y q. subst (λ (x : ℕ). Acted w (act (send e a)) (suc m) (sent w x y)) (same_receiver c l a (both_right (expression_in c e) (ltb a c.parties) i)) (sent_goes e a y q))
        (value_of (memory_in v t w) e) (value_stops c (memory_in v t w) e (both_left (expression_in c e) _ i)) refl
    performed_acts u c l (move e h k) i =
        let j = both_right (expression_in c e) (holder_in c h && holder_in c k) i in
        move_acts c l e (both_left (expression_in c e) _ i) h (both_left (holder_in c h) (holder_in c k) j) k (both_right (holder_in c h) (holder_in c k) j)
    performed_acts u c l (pay e h a) i =
        let j = both_right (expression_in c e) (holder_in c h && ltb a c.parties) i in
        pay_acts c l e (both_left (expression_in c e) _ i) h (both_left (holder_in c h) (ltb a c.parties) j) u a (both_right (holder_in c h) (ltb a c.parties) j)
    performed_acts u c l (move_all h k) i =
        let j = both_left (holder_in c h) (holder_in c k) i in
        move_acts c l (held h) j h j k (both_right (holder_in c h) (holder_in c k) i)
    performed_acts u c l (pay_all h a) i =
        let j = both_left (holder_in c h) (ltb a c.parties) i in
        pay_acts c l (held h) j h j u a (both_right (holder_in c h) (ltb a c.parties) i)
