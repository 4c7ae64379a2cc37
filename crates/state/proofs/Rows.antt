-- The tests of question 4 and the state of an event, by the rows that the code reads. Assumes nothing.
use mathlib.Core.Path.{◌≡◌, refl, sym, ap, subst, ◌∙◌}
use mathlib.Core.Bool.{Bool, true, false, ◌&&◌}
use mathlib.Core.List.{List}
use Prim.Native.Nat.{ℕ, ◌+◌, ◌<◌, ◌≤◌, min}
use native.Mathlib.Omega.{arith}
use lib.ListN.{length}
use lib.Dec.{eqb, leb, ltb}
use borrow.Author.Tests.{ltb-true, ltb-false, lt-ltb, le-leb, leb-true, leb-false}
use Rattle.std.specs.Prelude.{Option, Some, None}
use Rattle.std.specs.Option.{is_some}
use Rattle.laws.specs.Choice.{pick}
use Rattle.laws.proofs.Truths.{and_false}
use Rattle.laws.proofs.Choice.{by_cases}
use Rattle.contract.specs.Tree as tree
use Rattle.contract.specs.Limits.{top, max_fields, max_assets}
use Rattle.contract.specs.Table.{word_at, function_word}
use Rattle.contract.specs.Rows.{head_of, event_row_of}
use Rattle.laws.specs.Lists.{all_below}
use Rattle.contract.specs.Decode.{contract_of}
use Rattle.contract.specs.declared.TableHead as head
use Rattle.contract.specs.declared.Event.{Event as Row}
use Rattle.state.specs.States.{no_event, event_of, row_of, max_pending, field_slot_ok, asset_slot_ok, pending_ok, pending_slot_ok, state_ok}
use Rattle.state.specs.declared.State.{State}
use Rattle.state.specs.declared.Pending.{Pending}
use Rattle.state.proofs.Decoded.{assets_count, fields_count, states_count, strings_count, functions_count, events_count, event_unfounded, event_past, event_state_of, event_word_past}

-- a row past the table's end holds zeros
pub zero_row : (w : List ℕ) (i : ℕ) → length w ≤ i → record { state = 0; last = 0; node = 0 } ≡ event_row_of w i
zero_row w i h =
    λ k. record { state = sym (event_word_past w i 0 h) k; last = sym (event_word_past w i 1 h) k; node = sym (event_word_past w i 2 h) k }

-- and so does one at a place that saturates
pub row_at_most : (w : List ℕ) (i : ℕ) → length w ≤ 18446744073709551615 → event_row_of w (min i 18446744073709551615) ≡ event_row_of w i
row_at_most w i h = go (leb i 18446744073709551615) refl
  where
    go : (b : Bool) → leb i 18446744073709551615 ≡ b → event_row_of w (min i 18446744073709551615) ≡ event_row_of w i
    go true e = let l = leb-true _ _ e in ap (event_row_of w) (omega arith)
    go false e = let l = leb-false _ _ e in sym (zero_row w (min i 18446744073709551615) (omega arith)) ∙ zero_row w i (omega arith)

with_true : (a : Bool) → (a && true) ≡ a
with_true true = refl
with_true false = refl

module _ (w : List ℕ) (p : Pending) where
  -- ---- what it says
  pub record Found (e : Row) : Type 0 where
    pub known : p.function < word_at w 6
    pub has : p.event < function_word w p.function 9
    pub is : e ≡ event_row_of w (function_word w p.function 8 + p.event)

  pub record Unknown : Type 0 where
    pub refused : (clock : ℕ) → false ≡ pending_ok (contract_of w) clock p
    pub nothing : event_of (contract_of w) p ≡ no_event

  abbrev Told : Option Row → Type 0
  Told (Some e) = Found e
  Told None = Unknown

  unknown_function : ltb p.function (word_at w 6) ≡ false → Unknown
  unfolding pending_ok
  unknown_function t =
      record {
        refused = λ clock. simp (functions_count w, t);
        nothing = event_unfounded w p (ltb-false _ _ t);
      }

  told : Told (row_of w p)
  unfolding row_of pending_ok
  told =
      by_cases Told _ _ _
      (λ t. by_cases Told _ _ _
      (λ u. record { known = ltb-true _ _ t; has = ltb-true _ _ u; is = refl })
      (λ u. record {
        refused = λ clock. simp (functions_count w, t, events_count w p.function (ltb-true _ _ t), u);
        nothing = event_past w p (ltb-true _ _ t) (ltb-false _ _ u);
      }))
      unknown_function

  pub found : (r : Option Row) → r ≡ row_of w p → (e : Row) → r ≡ Some e → Found e
  found r q e f = subst Told (sym q ∙ f) told

  pub unknown : (r : Option Row) → r ≡ row_of w p → r ≡ None → Unknown
  unknown r q f = subst Told (sym q ∙ f) told

  -- ---- question 4, and its state
  pub untimely : (clock : ℕ) → (leb clock p.time && leb p.time top) ≡ false → false ≡ pending_ok (contract_of w) clock p
  unfolding pending_ok
  untimely clock e = sym (simp (e, and_false))

  module _ (r : Option Row) (q : r ≡ row_of w p) where
    tests_ok : (clock : ℕ) → ((leb clock p.time && leb p.time top) && is_some r) ≡ pending_ok (contract_of w) clock p
    unfolding pending_ok
    tests_ok clock = go r refl
      where
        both : Bool
        both = leb clock p.time && leb p.time top

        go : (o : Option Row) → r ≡ o → (both && is_some o) ≡ pending_ok (contract_of w) clock p
        go None h = and_false both ∙ (unknown r q h).refused clock
        go (Some e) h =
            let f = found r q e h in
            with_true both
            ∙ sym (simp (functions_count w, lt-ltb p.function (word_at w 6) f.known, events_count w p.function f.known, lt-ltb p.event (function_word w p.function 9) f.has))

    pub timely : (clock : ℕ) → clock ≤ p.time → p.time ≤ top → is_some r ≡ pending_ok (contract_of w) clock p
    timely clock u v =
        let both : (leb clock p.time && leb p.time top) ≡ true = simp (le-leb clock p.time u, le-leb p.time top v) in
        ap (λ (b : Bool). b && is_some r) (sym both) ∙ tests_ok clock

    pub state_found : (e : Row) → r ≡ Some e → e.state ≡ (event_of (contract_of w) p).state
    state_found e f =
        let x = found r q e f in
        ap (λ (y : Row). y.state) x.is ∙ sym (event_state_of w p x.known x.has)

    pub state_unknown : r ≡ None → 0 ≡ (event_of (contract_of w) p).state
    state_unknown f = sym (ap (λ (x : tree.Event). x.state) (unknown r q f).nothing)

-- ---- question 4 by its parts, in their order
pub parts : (w : List ℕ) (s : State) (h : head.TableHead) → h ≡ head_of w →
    state_ok (contract_of w) s ≡ (leb s.clock top
    && (pick s.agreed (ltb s.state h.states) (eqb s.state 0 && eqb s.pending 0)
    && (leb s.pending max_pending
    && (all_below max_fields (field_slot_ok h.strings (pick s.agreed h.fields 0) s)
    && (all_below max_assets (asset_slot_ok (pick s.agreed h.assets 0) s)
    && all_below max_pending (pending_slot_ok (contract_of w) s))))))
unfolding state_ok
parts w s h e = rw (e) (simp (states_count w, strings_count w, fields_count w, assets_count w))

-- six tests that are asked in turn, by what each gave so far
nested : (t n p f a e : Bool) → (((((t && n) && p) && f) && a) && e) ≡ (t && (n && (p && (f && (a && e)))))
nested false n p f a e = refl
nested true false p f a e = refl
nested true true false f a e = refl
nested true true true false a e = refl
nested true true true true a e = refl

pub all_six : (t n p f a e : Bool) {u v x y z : Bool} → u ≡ (t && n) → v ≡ (u && p) → x ≡ (v && f) → y ≡ (x && a) → z ≡ (y && e) → z ≡ (t && (n && (p && (f && (a && e)))))
all_six t n p f a e eu ev ex ey ez =
    ez
    ∙ ap (λ (b : Bool). b && e) (ey ∙ ap (λ (b : Bool). b && a) (ex ∙ ap (λ (b : Bool). b && f) (ev ∙ ap (λ (b : Bool). b && p) eu)))
    ∙ nested t n p f a e

-- a test after those so far: they hold and it is asked, or they do not
pub asked : {u v : Bool} (p : Bool) → u ≡ true → v ≡ p → v ≡ (u && p)
asked p h e = e ∙ sym (ap (λ (b : Bool). b && p) h)

pub passed_over : {u v : Bool} (p : Bool) → u ≡ false → v ≡ u → v ≡ (u && p)
passed_over p h e = e ∙ h ∙ sym (ap (λ (b : Bool). b && p) h)
