-- The clauses of an agreement: the notes and the rows that their pass leaves. Assumes nothing.
use mathlib.Core.Path.{◌≡◌, refl, sym, ap, subst, ◌∙◌}
use mathlib.Core.Bool.{Bool, true, false, ◌&&◌}
use mathlib.Core.List.{List, [], ◌∷◌, ◌++◌}
use Prim.Native.Nat.{ℕ, ◌+◌, ◌<◌, ◌≤◌}
use native.Mathlib.Omega.{arith}
use lib.ListN.{length, set, length-append}
use lib.Dec.{leb, ltb}
use borrow.Author.Tests.{leb-true, le-leb, lt-leb}
use Rattle.laws.specs.Choice.{pick}
use Rattle.laws.proofs.Choice.{by_cases, true_false}
use Rattle.contract.specs.Tree.{Clause}
use Rattle.laws.proofs.Members.{every_first, every_second}
use Rattle.laws.proofs.Truths.{both_left, both_right, both_true}
use Rattle.laws.specs.Lists.{every}
use Rattle.entries.specs.Draft.{Draft, note, with_notes, found, among_in, clause_party, clause_verb, field_at, clause_field, clause_end}
use Rattle.reading.specs.Syntax.{Span}
use Rattle.reading.specs.Syntax as syntax
use Rattle.reading.specs.Items.{Item, uses, of_each, clause_items}
use Rattle.reading.specs.Rules.{Finding, lesser, word, judge, judged}
use Rattle.reading.specs.Resolve.{latest_first}
use Rattle.reading_laws.proofs.Run.{run_fields, run_clause, run_clauses, verb_number}
use Rattle.reading_laws.proofs.NotesSay.{Noted}
use Rattle.accepted.proofs.Judged.{latest_append}
use Rattle.reading_laws.proofs.NotedActs.{middle_noted, alone_noted}
use Rattle.reading_laws.proofs.NotedTrees.{After, judged_append}

-- what a table has room for
abbrev pub room : List Clause → Bool
room ks = leb (length ks) 16 && every (λ k. leb (length k.fields) 32) ks

pub room_first : (ks ls : List Clause) → room ks ≡ false → room (ks ++ ls) ≡ false
room_first ks ls e = go (room (ks ++ ls)) refl
  where
    go : (t : Bool) → room (ks ++ ls) ≡ t → t ≡ false
    go true h =
        let n : length (ks ++ ls) ≡ length ks + length ls = length-append ks ls in
        let l : length (ks ++ ls) ≤ 16 = leb-true _ _ (both_left (leb (length (ks ++ ls)) 16) (every (λ k. leb (length k.fields) 32) (ks ++ ls)) h) in
        true_false
        (sym (both_true (leb (length ks) 16) (every (λ k. leb (length k.fields) 32) ks) (le-leb (length ks) 16 (omega arith))
        (every_first (λ k. leb (length k.fields) 32) ks ls (both_right (leb (length (ks ++ ls)) 16) (every (λ k. leb (length k.fields) 32) (ks ++ ls)) h)))
        ∙ e)
    go false h = refl

pub room_many : (ks : List Clause) → 16 < length ks → room ks ≡ false
room_many ks h = ap (λ (t : Bool). t && every (λ k. leb (length k.fields) 32) ks) (lt-leb (length ks) 16 h)

pub room_long : (ks : List Clause) (k : Clause) → 32 < length k.fields → room (ks ++ (k ∷ [])) ≡ false
unfolding every
room_long ks k h = go (room (ks ++ (k ∷ []))) refl
  where
    go : (t : Bool) → room (ks ++ (k ∷ [])) ≡ t → t ≡ false
    go true e =
        true_false
        (sym (both_left (leb (length k.fields) 32) true
        (every_second (λ k. leb (length k.fields) 32) ks (k ∷ []) (both_right (leb (length (ks ++ (k ∷ []))) 16) (every (λ k. leb (length k.fields) 32) (ks ++ (k ∷ []))) e)))
        ∙ lt-leb (length k.fields) 32 h)
    go false e = refl

module _ (s : List ℕ) where
  -- ---- notes

  pub clause_party_noted : (x : Span) (b : List Item) (f : Finding) (p : Draft) → Noted s b f p.notes
      → Noted s (uses (0 ∷ []) x ∷ b) (lesser f (judge s b (uses (0 ∷ []) x))) (clause_party s x.start x.end p).notes
  unfolding clause_party
  clause_party_noted x b f p h = alone_noted s b f p.notes h 0 (omega arith) x

  pub clause_verb_noted : (v : ℕ) (b : List Item) (f : Finding) (p : Draft) → Noted s b f p.notes → Noted s b f (clause_verb v p).notes
  unfolding clause_verb
  clause_verb_noted v b f p h = by_cases (λ (r : Draft). Noted s b f r.notes) (ltb (note p.notes 11) 16) _ p (λ _. h) (λ _. h)

  field_at_noted : (r j x : ℕ) (b : List Item) (f : Finding) (p : Draft) → Noted s b f p.notes → Noted s b f (field_at r j x p).notes
  unfolding field_at
  field_at_noted r j x b f p h =
      by_cases (λ (q : Draft). Noted s b f q.notes) (ltb j 32) _ (with_notes p (set p.notes 15 1)) (λ _. h)
      (λ _. middle_noted s b f p.notes 15 1 h (omega arith) (omega arith) (λ q. absurd (omega arith)) (λ q. absurd (omega arith)))

  pub clause_field_noted : (x : Span) (b : List Item) (f : Finding) (p : Draft) → Noted s b f p.notes
      → Noted s (uses (2 ∷ []) x ∷ b) (lesser f (judge s b (uses (2 ∷ []) x))) (clause_field s x.start x.end p).notes
  unfolding clause_field
  clause_field_noted x b f p h =
      let m = pick (among_in s p.notes 2 (word s x)) p.notes (found 13 x.start p.notes) in
      let g : Noted s (uses (2 ∷ []) x ∷ b) (lesser f (judge s b (uses (2 ∷ []) x))) m = alone_noted s b f p.notes h 2 (omega arith) x in
      by_cases (λ (r : Draft). Noted s (uses (2 ∷ []) x ∷ b) (lesser f (judge s b (uses (2 ∷ []) x))) r.notes) (ltb (note p.notes 11) 16) _ (with_notes p m)
      (λ _. field_at_noted _ _ _ _ _ (with_notes p m) g) (λ _. g)

  pub clause_end_noted : (b : List Item) (f : Finding) (n : List ℕ) → Noted s b f n → Noted s b f (clause_end n)
  unfolding clause_end
  clause_end_noted b f n h =
      by_cases (Noted s b f) (ltb (note n 11) 16) (set n 11 (note n 11 + 1)) (set n 15 1)
      (λ _. middle_noted s b f n 11 (note n 11 + 1) h (omega arith) (omega arith) (λ q. absurd (omega arith)) (λ q. absurd (omega arith)))
      (λ _. middle_noted s b f n 15 1 h (omega arith) (omega arith) (λ q. absurd (omega arith)) (λ q. absurd (omega arith)))

  abbrev pub field_items : List Span → List Item
  field_items xs = of_each (λ x. uses (2 ∷ []) x ∷ []) xs

  pub fields_noted : (xs : List Span) (b : List Item) (f : Finding) (p : Draft) → Noted s b f p.notes → After s b f (field_items xs) (run_fields s xs p).notes
  unfolding run_fields of_each judged latest_first
  fields_noted [] b f p h = h
  fields_noted (x ∷ xs) b f p h =
      fields_noted xs (uses (2 ∷ []) x ∷ b) (lesser f (judge s b (uses (2 ∷ []) x))) (clause_field s x.start x.end p) (clause_field_noted x b f p h)

  pub clause_noted : (k : syntax.Clause) (b : List Item) (f : Finding) (p : Draft) → Noted s b f p.notes → After s b f (clause_items k) (run_clause s k p).notes
  unfolding run_clause clause_items judged latest_first
  clause_noted k b f p h =
      let b1 = uses (0 ∷ []) k.party ∷ b in
      let f1 = lesser f (judge s b (uses (0 ∷ []) k.party)) in
      let p1 = clause_party s k.party.start k.party.end p in
      let p2 = clause_verb (verb_number s k.verb) p1 in
      clause_end_noted _ _ (run_fields s k.fields p2).notes
      (fields_noted k.fields b1 f1 p2 (clause_verb_noted (verb_number s k.verb) b1 f1 p1 (clause_party_noted k.party b f p h)))

  pub clauses_noted : (ks : List syntax.Clause) (b : List Item) (f : Finding) (p : Draft) → Noted s b f p.notes → After s b f (of_each clause_items ks) (run_clauses s ks p).notes
  unfolding run_clauses of_each judged latest_first
  clauses_noted [] b f p h = h
  clauses_noted (k ∷ ks) b f p h =
      subst (λ (g : Finding). Noted s (latest_first b (clause_items k ++ of_each clause_items ks)) g (run_clauses s ks (run_clause s k p)).notes) (sym (judged_append s b f (clause_items k) (of_each clause_items ks)))
      (subst (λ (c : List Item). Noted s c (judged s (latest_first b (clause_items k)) (judged s b f (clause_items k)) (of_each clause_items ks)) (run_clauses s ks (run_clause s k p)).notes) (sym (latest_append b (clause_items k) (of_each clause_items ks)))
      (clauses_noted ks (latest_first b (clause_items k)) (judged s b f (clause_items k)) (run_clause s k p) (clause_noted k b f p h)))
