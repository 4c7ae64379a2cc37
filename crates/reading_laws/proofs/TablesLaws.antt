-- What the notes tell after each act and each tree, as the laws on tables use it. Assumes nothing.
use mathlib.Core.List.{List, ◌∷◌}
use Prim.Native.Nat.{ℕ, ◌+◌, ◌<◌, ◌≤◌}
use lib.ListN.{set}
use lib.Dec.{ltb}
use native.Mathlib.Omega.{arith}
use Rattle.laws.proofs.Choice.{by_cases}
use Rattle.entries.specs.Draft.{Draft, note, events_here, counted, mention, put_name, holder_in}
use Rattle.reading.specs.Syntax.{Span, Term, Action, Block, Event, Function}
use Rattle.reading.specs.Items.{Item, mentions, uses, counts, opens, Site, in_function, asset_kinds, term_items, action_items, block_items, event_items, function_items}
use Rattle.reading.specs.Rules.{word}
use Rattle.reading.specs.Resolve.{latest_first}
use Rattle.reading_laws.specs.Walk.{one_more_event}
use Rattle.reading_laws.proofs.Run.{run_term, run_action, run_block, run_statements, run_event, run_function}
use Rattle.reading_laws.proofs.NotedActs.{counted_noted, end_noted, opens_noted}
use Rattle.reading_laws.proofs.NotedNames.{inside, mention_noted, holder_known}
use Rattle.reading_laws.proofs.NotedTrees.{name_noted, term_noted, action_noted, block_noted, statements_noted, event_noted, function_noted}
use Rattle.reading_laws.proofs.TablesTabled.{Tells}

module _ (s : List ℕ) where
  pub tell_counted : (k o : ℕ) (b : List Item) (n : List ℕ) → 7 ≤ k → k < 10 → Tells s b n → Tells s (counts k o ∷ b) (counted k o n)
  tell_counted k o b n h i t = record { finding = _; noted = counted_noted s b t.finding n t.noted k o h i }

  pub tell_term : (c : Site) (t : Term) (b : List Item) (p : Draft) → Tells s b p.notes → Tells s (latest_first b (term_items c t)) (run_term s (inside c) t p).notes
  tell_term c t b p h = record { finding = _; noted = term_noted s c t b h.finding p h.noted }

  pub tell_holder : (c : Site) (x : Span) (b : List Item) (p : Draft) → Tells s b p.notes
      → Tells s (uses (asset_kinds c) x ∷ counts 9 x.start ∷ b) (put_name (holder_in s p.notes (inside c) (word s x)) x.start p).notes
  unfolding latest_first
  tell_holder c x b p h = record { finding = _; noted = name_noted s (asset_kinds c) x (holder_in s p.notes (inside c) (word s x)) b h.finding p (holder_known s b h.finding p.notes h.noted (word s x) c) h.noted }

  pub tell_action : (c : Site) (from o : ℕ) (a : Action) (b : List Item) (p : Draft) → Tells s b p.notes → Tells s (latest_first b (action_items c o a)) (run_action s (inside c) from o a p).notes
  tell_action c from o a b p h = let l = action_noted s c from o a b h.finding p h.noted in record { finding = l.least; noted = l.noted }

  pub tell_block : (c : Site) (from : ℕ) (k : Block) (b : List Item) (p : Draft) → Tells s b p.notes → Tells s (latest_first b (block_items c k)) (run_block s (inside c) from k p).notes
  tell_block c from k b p h = let l = block_noted s c from k b h.finding p h.noted in record { finding = l.least; noted = l.noted }

  pub tell_statements : (from : ℕ) (k : Block) (b : List Item) (p : Draft) → Tells s b p.notes → Tells s (latest_first b (block_items in_function k)) (run_statements s from k p).notes
  tell_statements from k b p h = let l = statements_noted s from k b h.finding p h.noted in record { finding = l.least; noted = l.noted }

  pub tell_event : (w : Event) (b : List Item) (p : Draft) → Tells s b p.notes → Tells s (latest_first b (event_items w)) (run_event s w p).notes
  tell_event w b p h = let l = event_noted s w b h.finding p h.noted in record { finding = l.least; noted = l.noted }

  pub tell_function : (f : Function) (b : List Item) (p : Draft) → Tells s b p.notes → Tells s (latest_first b (function_items f)) (run_function s f p).notes
  tell_function f b p h = let l = function_noted s f b h.finding p h.noted in record { finding = l.least; noted = l.noted }

  pub tell_mentioned : (k : ℕ) (x : Span) (o : ℕ) (b : List Item) (p : Draft) → k < 7 → Tells s b p.notes → Tells s (mentions k x o ∷ b) (mention s k x.start x.end o p).notes
  tell_mentioned k x o b p i h = record { finding = _; noted = mention_noted s b h.finding p h.noted k x o i }

  pub tell_opens : (b : List Item) (n : List ℕ) → Tells s b n → Tells s (opens ∷ b) (set n 8 0)
  tell_opens b n h = record { finding = _; noted = opens_noted s b h.finding n h.noted }

  pub tell_more : (b : List Item) (n : List ℕ) → Tells s b n → Tells s b (one_more_event s n)
  unfolding one_more_event
  tell_more b n h =
      by_cases (Tells s b) (ltb (note n events_here) 4096) _ _
      (λ _. record { finding = h.finding; noted = end_noted s b h.finding n events_here (note n events_here + 1) h.noted (omega arith) })
      (λ _. h)
