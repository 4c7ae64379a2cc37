-- Statements and blocks: the pass is the grammar, then the run of the block. Assumes nothing.
use mathlib.Core.Path.{◌≡◌, refl, sym, ap, subst, ◌∙◌}
use mathlib.Core.Bool.{Bool, true, false}
use mathlib.Core.List.{List, [], ◌∷◌}
use Prim.Native.Nat.{ℕ, zero, suc}
use lib.ListN.{length}
use lib.Dec.{eqb}
use Rattle.laws.specs.Choice.{pick}
use Rattle.laws.proofs.Choice.{pick_true, pick_false}
use Rattle.words.specs.Words.{value_arrow, asset_arrow, open_paren, close_paren, open_brace, close_brace, comma}
use Rattle.entries.specs.Draft.{Draft}
use Rattle.reading_laws.specs.Walk.{Cursor}
use Rattle.reading.specs.Syntax.{Term, Action, sends, moves, moves_all, Block, none, perform, conditional}
use Rattle.reading.specs.Grammar.{Parsed, done, no, Parser, and_then, give, is_one_of, item_starts, next_in, token_in, place, repeated, whole_move, conditional_after, misfit}
use Rattle.reading.specs.Grammar as grammar
use Rattle.reading_laws.specs.Walk.{Walk, on, cursor_at, nodes, counting, is_alone}
use Rattle.reading_laws.specs.Walk as walk
use Rattle.reading_laws.proofs.Run.{walked, run_term, run_action, run_test, end_conditional, run_block}
use Rattle.reading_laws.proofs.WalksTokens.{Plain, plain_one, one_kind, span_of, assoc, place_in, unfit_run, one_in_run, pick_run, one_next_run, after_token, pick_name_run, follow_run, give_run, done_run, loop_run}
use Rattle.reading_laws.proofs.WalksTerms.{expression_run, condition_run}
use Rattle.reading_laws.proofs.WalksAlone.{Alone, alone, among, expression_alone}

pub starts_plain : Plain item_starts
unfolding is_one_of pick
starts_plain = record { refused = refl; ended = refl }

then_same : {A B : Type 0} (r : Parsed A) (f g : A → Parser B) → ((a : A) (n : ℕ) → f a n ≡ g a n) → and_then r f ≡ and_then r g
then_same (done a n) f g h = h a n
then_same (no q o) f g h = refl

-- a conditional's place, test and block
pub record Tested : Type 0 where
  pub place : ℕ
  pub test : Term
  pub inner : Block

module _ (s : List ℕ) where
  unfoldable pub tested_at : ℕ → Parser Tested
  tested_at zero at = and_then (place s at) (λ p n. no 10 p)
  tested_at (suc n) at =
      and_then (token_in s (open_paren ∷ []) at) (λ o m.
      and_then (grammar.condition s n m) (λ t k.
      and_then (token_in s (close_paren ∷ []) k) (λ _ l.
      and_then (grammar.braces s n (conditional_after s n) l) (λ i.
      give (record { place = o.start; test = t; inner = i })))))

  pub tested_same : (n : ℕ) (b : Block) (at : ℕ) → conditional_after s n b at ≡ and_then (tested_at n at) (λ x. give (conditional b x.place x.test x.inner))
  unfolding tested_at conditional_after
  tested_same zero b at = sym (assoc (place s at) _ _)
  tested_same (suc n) b at =
      then_same (token_in s (open_paren ∷ []) at) _ _
      (λ o m. then_same (grammar.condition s n m) _ _
      (λ t k. then_same (token_in s (close_paren ∷ []) k) _ _ (λ _ l. sym (assoc (grammar.braces s n (conditional_after s n) l) _ _))
      ∙ sym (assoc (token_in s (close_paren ∷ []) k) _ _))
      ∙ sym (assoc (grammar.condition s n m) _ _))
      ∙ sym (assoc (token_in s (open_paren ∷ []) at) _ _)

  module _ (h : Bool) where
    -- ---- a statement's rest

    module _ (at : ℕ) (outside : eqb (cursor_at s at).kind open_paren ≡ false) (from : ℕ) (p : Draft) where
      abbrev first : Cursor
      first = cursor_at s at

      abbrev run_this : Action → Draft → Draft
      run_this = run_action s h from (cursor_at s at).start

      abbrev valued : Term → Draft
      valued e = run_term s h e (counting 9 (cursor_at s at).start p)

      whole_run : (e : Term) (m n : ℕ) → Alone s at outside e m
          → pick (is_alone s first (cursor_at s m)) (on (cursor_at s (cursor_at s n).end) (walk.moves_all s h first from (cursor_at s n) (valued e)))
          (walk.misfit s (cursor_at s (cursor_at s n).end))
          ≡ walked s run_this (whole_move s e (span_of (cursor_at s n)) (cursor_at s n).end) p
      unfolding whole_move walk.moves_all run_action
      whole_run e m n (alone f g) =
          pick_true _ _ _ f
          ∙ subst (λ e. on (cursor_at s (cursor_at s n).end) (walk.moves_all s h first from (cursor_at s n) (valued e)) ≡ walked s run_this (whole_move s e (span_of (cursor_at s n)) (cursor_at s n).end) p)
          (sym g) (done_run s run_this p (moves_all (span_of first) (span_of (cursor_at s n))) (cursor_at s n).end _ refl)
      whole_run e m n (among f g) =
          pick_false _ _ _ f
          ∙ unfit_run s run_this p (cursor_at s n).end
          ∙ sym (ap (λ r. walked s run_this r p) (g (span_of (cursor_at s n)) (cursor_at s n).end))

      asset_run : (e : Term) (m n : ℕ) → Alone s at outside e m
          → walk.asset_move s h first from (is_alone s first (cursor_at s m)) (cursor_at s n) (valued e)
          ≡ walked s run_this
          (and_then (grammar.name s n) (λ x k.
          pick (next_in s (comma ∷ []) k) (and_then (token_in s (comma ∷ []) k) (λ _ l. and_then (grammar.name s l) (λ t. give (moves e x t)))) (whole_move s e x k))) p
      unfolding walk.asset_move walk.moves run_action
      asset_run e m n a =
          pick_name_run s run_this p n _ _
          (λ _. one_next_run s run_this p comma (cursor_at s n).end _ _ _ _ (plain_one comma refl refl)
          (λ c. one_in_run s run_this p comma (cursor_at s n).end _ _ (plain_one comma refl refl) c
          (pick_name_run s run_this p (cursor_at s (cursor_at s n).end).end _ _
          (λ _. done_run s run_this p (moves e (span_of (cursor_at s n)) (span_of (cursor_at s (cursor_at s (cursor_at s n).end).end))) (cursor_at s (cursor_at s (cursor_at s n).end).end).end _ refl)))
          (λ c. whole_run e m n a))

      pub action_run : (e : Term) (m : ℕ) → Alone s at outside e m
          → walk.action s h (cursor_at s at) from (cursor_at s m) (run_term s h e (counting 9 (cursor_at s at).start p))
          ≡ walked s (run_action s h from (cursor_at s at).start) (grammar.action s e m) p
      unfolding walk.action grammar.action walk.sends grammar.asset_move run_action
      action_run e m a =
          one_next_run s run_this p value_arrow m _ _ _ _ (plain_one value_arrow refl refl)
          (λ v. one_in_run s run_this p value_arrow m _ _ (plain_one value_arrow refl refl) v
          (pick_name_run s run_this p (cursor_at s m).end _ _
          (λ _. done_run s run_this p (sends e (span_of (cursor_at s (cursor_at s m).end))) (cursor_at s (cursor_at s m).end).end _ refl)))
          (λ v. pick_run s run_this p asset_arrow m _ _ (plain_one asset_arrow refl refl) (λ _. asset_run e m (cursor_at s m).end a))

    -- ---- statements

    pub record Test (here : ℕ → Cursor → Draft → Walk) (there : Block → Parser Block) : Type 0 where
      pub agrees : (from : ℕ) (b : Block) (at : ℕ) (p : Draft) → eqb (cursor_at s at).kind open_paren ≡ true
          → here from (cursor_at s at) (run_block s h from b p) ≡ walked s (run_block s h from) (there b at) p

    statement_run : (n : ℕ) (here : ℕ → Cursor → Draft → Walk) (there : Block → Parser Block) → Test here there → (from : ℕ) (p : Draft) (b : Block) (at : ℕ)
        → is_one_of item_starts (cursor_at s at).kind ≡ true
        → walk.statement s h n here from (cursor_at s at) (run_block s h from b p) ≡ walked s (run_block s h from) (grammar.statement s n there b at) p
    unfolding walk.statement grammar.statement run_block
    statement_run n here there i from p b at start =
        one_next_run s (run_block s h from) p open_paren at _ _ _ _ (plain_one open_paren refl refl)
        (i.agrees from b at p)
        (λ out.
        follow_run s (run_block s h from) p (run_term s h) (grammar.expression s n at) _ (counting 9 (cursor_at s at).start (run_block s h from b p)) _ _
        ((expression_run s h n).agrees at _)
        (λ e m f. give_run s (run_block s h from) p (run_action s h from (cursor_at s at).start) (grammar.action s e m) _ (run_block s h from b p) _
        (action_run at out from (run_block s h from b p) e m (expression_alone s at out n e m f)) (λ a k _. refl))
        ∙ sym (ap (λ r. walked s (run_block s h from) (and_then r (λ o k. and_then (grammar.expression s n k) (λ e m. and_then (grammar.action s e m) (λ a. give (perform b o a))))) p)
        (place_in s item_starts at starts_plain start)))

    statements_run : (n : ℕ) (here : ℕ → Cursor → Draft → Walk) (there : Block → Parser Block) → Test here there → (from : ℕ) (p : Draft) (f : ℕ) (b : Block) (at : ℕ)
        → walk.statements s h n here from f (cursor_at s at) (run_block s h from b p) ≡ walked s (run_block s h from) (repeated s item_starts (grammar.statement s n there) f b at) p
    unfolding walk.statements
    statements_run n here there i from p =
        loop_run s (run_block s h from) p (walk.statements s h n here from) (walk.statement s h n here from) item_starts (grammar.statement s n there) starts_plain
        (λ c q. refl) (λ f c q. refl) (statement_run n here there i from p)

    braces_run : (n : ℕ) (here : ℕ → Cursor → Draft → Walk) (there : Block → Parser Block) → Test here there → (at : ℕ) (p : Draft)
        → walk.braces s h n here (cursor_at s at) p ≡ walked s (run_block s h (nodes p)) (grammar.braces s n there at) p
    unfolding walk.braces grammar.braces run_block
    braces_run n here there i at p =
        after_token s (run_block s h (nodes p)) p open_brace at _ _ (plain_one open_brace refl refl)
        (λ _. follow_run s (run_block s h (nodes p)) p (run_block s h (nodes p)) (repeated s item_starts (grammar.statement s n there) (length s) none (cursor_at s at).end) _ p _ _
        (statements_run n here there i (nodes p) p (length s) none (cursor_at s at).end)
        (λ b m _. after_token s (run_block s h (nodes p)) p close_brace m _ _ (plain_one close_brace refl refl)
        (λ _. done_run s (run_block s h (nodes p)) p b (cursor_at s m).end _ refl)))

    -- ---- conditionals

    abbrev pub run_tested : ℕ → Tested → Draft → Draft
    run_tested from x p =
        end_conditional s from
        (nodes (run_test s h x.place x.test p))
        (run_block s h (nodes (run_test s h x.place x.test p)) x.inner (run_test s h x.place x.test p))

    record Conditional (n : ℕ) : Type 0 where
      agrees : (from at : ℕ) (p : Draft) → eqb (cursor_at s at).kind open_paren ≡ true
          → walk.conditional s h n from (cursor_at s at) p ≡ walked s (run_tested from) (tested_at n at) p

    test_of : (n : ℕ) → Conditional n → Test (walk.conditional s h n) (conditional_after s n)
    unfolding run_block
    test_of n i = record {
      agrees = λ from b at p e.
          give_run s (run_block s h from) p (run_tested from) (tested_at n at) _ (run_block s h from b p) _ (i.agrees from at (run_block s h from b p) e) (λ x k _. refl)
          ∙ sym (ap (λ r. walked s (run_block s h from) r p) (tested_same n b at));
    }

    conditionals_run : (n : ℕ) → Conditional n
    unfolding walk.conditional tested_at walked
    conditionals_run zero = record {
      agrees = λ from at p e.
          ap (λ r. walked s (run_tested from) (and_then r (λ o m. no 10 o)) p)
          (sym (place_in s (open_paren ∷ []) at (plain_one open_paren refl refl) (one_kind open_paren (cursor_at s at).kind ∙ e)));
    }
    conditionals_run (suc n) = record {
      agrees = λ from at p _.
          after_token s (run_tested from) p open_paren at _ _ (plain_one open_paren refl refl)
          (λ _. follow_run s (run_tested from) p (run_term s h) (grammar.condition s n (cursor_at s at).end) _ (counting 8 (cursor_at s at).start (counting 9 (cursor_at s at).start p)) _ _
          ((condition_run s h n).agrees (cursor_at s at).end _)
          (λ t m _. after_token s (run_tested from) p close_paren m _ _ (plain_one close_paren refl refl)
          (λ _.
          let q = run_test s h (cursor_at s at).start t p in
          follow_run s (run_tested from) p (run_block s h (nodes q)) (grammar.braces s n (conditional_after s n) (cursor_at s m).end) _ q _ _
          (braces_run n (walk.conditional s h n) (conditional_after s n) (test_of n (conditionals_run n)) (cursor_at s m).end q)
          (λ b k _. done_run s (run_tested from) p (record { place = (cursor_at s at).start; test = t; inner = b }) k _ refl))));
    }

    pub conditional_run : (n from at : ℕ) (p : Draft) → eqb (cursor_at s at).kind open_paren ≡ true
        → walk.conditional s h n from (cursor_at s at) p ≡ walked s (run_tested from) (tested_at n at) p
    conditional_run n from at p e = (conditionals_run n).agrees from at p e

    pub block_run : (n from at : ℕ) (p : Draft) → nodes p ≡ from
        → walk.braces s h n (walk.conditional s h n) (cursor_at s at) p ≡ walked s (run_block s h from) (grammar.braces s n (conditional_after s n) at) p
    block_run n from at p e =
        braces_run n (walk.conditional s h n) (conditional_after s n) (test_of n (conditionals_run n)) at p
        ∙ ap (λ m. walked s (run_block s h m) (grammar.braces s n (conditional_after s n) at) p) e
