-- What the notes say of the function at hand: how many events it has, and how many nodes its body. Assumes nothing.
use mathlib.Core.Path.{◌≡◌, refl, sym, ap, subst, ◌∙◌}
use mathlib.Core.Bool.{false}
use mathlib.Core.List.{List, [], ◌∷◌}
use Prim.Native.Nat.{ℕ, zero, suc, ◌+◌, ◌-◌, ◌≤◌, ◌<◌}
use native.Mathlib.Omega.{arith}
use lib.ListN.{length, set, get_or, length-set}
use lib.Dec.{ltb}
use borrow.Author.Tests.{ltb-false, lt-ltb}
use Rattle.laws.proofs.Choice.{pick_true, by_cases}
use Rattle.contract.specs.Table.{conditional_kind}
use Rattle.entries.specs.Draft.{Draft, note, put, written, body_nodes, events_here}
use Rattle.reading.specs.Syntax.{Block, none, perform, conditional, Event}
use Rattle.reading_laws.specs.Walk.{nodes, noting, one_more_event, begun}
use Rattle.reading_laws.proofs.Run.{run_action, run_test, run_block, grown, run_statements, run_event, run_events, more}
use Rattle.reading_laws.proofs.NotesKept.{events_here_spared, set_keeps, set_same, statements_keep, event_keeps}

-- a word that was set to 0 is 0
set_zero : (n : List ℕ) (i : ℕ) → get_or (set n i 0) i 0 ≡ 0
set_zero [] i = refl
set_zero (x ∷ n) zero = refl
set_zero (x ∷ n) (suc i) = set_zero n i

module _ (s : List ℕ) where
  -- ---- events

  one_more_long : (n : List ℕ) → length (one_more_event s n) ≡ length n
  unfolding one_more_event
  one_more_long n = by_cases (λ (m : List ℕ). length m ≡ length n) _ _ _ (λ _. length-set n events_here _) (λ _. refl)

  more_long : (w : Event) (p : Draft) → length (more s (run_event s w p)).notes ≡ length p.notes
  more_long w p = one_more_long (run_event s w p).notes ∙ (event_keeps events_here events_here_spared refl s w p).long

  one_more : (n : List ℕ) → events_here < length n → note n events_here < 4096 → note (one_more_event s n) events_here ≡ suc (note n events_here)
  unfolding one_more_event
  one_more n l h =
      ap (λ (m : List ℕ). note m events_here) (pick_true _ _ _ (lt-ltb (note n events_here) 4096 h))
      ∙ set_same n events_here (note n events_here + 1) l
      ∙ omega arith

  one_more_some : (n : List ℕ) → events_here < length n → 0 < note (one_more_event s n) events_here
  unfolding one_more_event
  one_more_some n l =
      by_cases (λ (m : List ℕ). 0 < note m events_here) (ltb (note n events_here) 4096) _ _
      (λ _. let e : note (set n events_here (note n events_here + 1)) events_here ≡ note n events_here + 1 = set_same n events_here (note n events_here + 1) l in omega (arith, e))
      (λ f. let g : 4096 ≤ note n events_here = ltb-false _ _ f in omega (arith, g))

  -- after an event there is one
  pub events_some : (w : Event) (ws : List Event) (p : Draft) → events_here < length p.notes → 0 < note (run_events s (w ∷ ws) p).notes events_here
  unfolding run_events
  events_some w ws p l =
      let e : length (run_event s w p).notes ≡ length p.notes = (event_keeps events_here events_here_spared refl s w p).long in
      rest ws (more s (run_event s w p)) (subst (λ (k : ℕ). events_here < k) (sym (more_long w p)) l) (one_more_some (run_event s w p).notes (omega arith))
    where
      rest : (ws : List Event) (p : Draft) → events_here < length p.notes → 0 < note p.notes events_here → 0 < note (run_events s ws p).notes events_here
      rest [] p l h = h
      rest (w ∷ ws) p l h =
          let e : length (run_event s w p).notes ≡ length p.notes = (event_keeps events_here events_here_spared refl s w p).long in
          rest ws (more s (run_event s w p)) (subst (λ (k : ℕ). events_here < k) (sym (more_long w p)) l) (one_more_some (run_event s w p).notes (omega arith))

  -- before the first there is none
  pub events_none : (from : ℕ) (b : Block) (p : Draft) → note (run_statements s from b (begun s p)).notes events_here ≡ 0
  events_none from b p = (statements_keep events_here events_here_spared refl s refl from b (begun s p)).same ∙ set_zero (noting body_nodes 0 (noting 8 0 p)).notes events_here

  -- they are counted one by one
  pub events_here_lem : (ws : List Event) (p : Draft) → events_here < length p.notes → note p.notes events_here + length ws ≤ 4096
      → note (run_events s ws p).notes events_here ≡ note p.notes events_here + length ws
  unfolding run_events
  events_here_lem [] p l h = omega arith
  events_here_lem (w ∷ ws) p l h =
      let k = event_keeps events_here events_here_spared refl s w p in
      let a : note (run_event s w p).notes events_here ≡ note p.notes events_here = k.same in
      let b : length (run_event s w p).notes ≡ length p.notes = k.long in
      let c = one_more_long (run_event s w p).notes in
      let d : note (one_more_event s (run_event s w p).notes) events_here ≡ suc (note (run_event s w p).notes events_here) =
      one_more (run_event s w p).notes (omega arith) (omega arith) in
      events_here_lem ws (more s (run_event s w p)) (omega arith) (omega arith) ∙ omega arith

  -- ---- the nodes of a body are told after each statement

  grown_told : (from : ℕ) (q : Draft) → body_nodes < length (grown s from q).notes → note (grown s from q).notes body_nodes ≡ nodes (grown s from q) - from
  grown_told from q l =
      let e : length (set q.notes body_nodes (nodes q - from)) ≡ length q.notes = length-set q.notes body_nodes (nodes q - from) in
      set_same q.notes body_nodes (nodes q - from) (omega arith) ∙ ap (λ (k : ℕ). k - from) (sym (set_keeps written q.notes body_nodes (nodes q - from) refl).same)

  pub statements_told : (from : ℕ) (b : Block) (p : Draft) → body_nodes < length p.notes → note p.notes body_nodes ≡ nodes p - from
      → note (run_statements s from b p).notes body_nodes ≡ nodes (run_statements s from b p) - from
  unfolding run_statements
  statements_told from b p l h = go b (subst (λ (k : ℕ). body_nodes < k) (sym (statements_keep events_here events_here_spared refl s refl from b p).long) l)
    where
      go : (c : Block) → body_nodes < length (run_statements s from c p).notes → note (run_statements s from c p).notes body_nodes ≡ nodes (run_statements s from c p) - from
      go none m = h
      go (perform c o a) m = grown_told from (run_action s false from o a (run_statements s from c p)) m
      go (conditional c o t i) m =
          let d : Draft = run_test s false o t (run_statements s from c p) in
          grown_told from (put conditional_kind (nodes (run_block s false (nodes d) i d) - nodes d) from (run_block s false (nodes d) i d)) m
