-- The rows that the pass over an agreement's clauses leaves, or that there is no room for them. Assumes nothing.
use mathlib.Core.Path.{◌≡◌, refl, sym, ap, subst, ◌∙◌}
use mathlib.Core.Bool.{true, false}
use mathlib.Core.List.{List, [], ◌∷◌, ◌++◌, append_assoc, append-nil}
use Prim.Native.Nat.{ℕ, suc, ◌+◌, ◌*◌, ◌<◌, ◌≤◌}
use native.Mathlib.Omega.{arith}
use lib.ListN.{length, get_or, set, length-append}
use lib.Seq.{get_or-set_same, get_or-set_other}
use lib.Dec.{leb, ltb}
use borrow.Author.Tests.{ltb-true, ltb-false, lt-ltb, le-ltb, le-leb}
use Rattle.laws.specs.Choice.{pick}
use Rattle.laws.proofs.Choice.{by_cases, pick_true, pick_false}
use Rattle.contract.specs.Tree.{Word, Verb, set as set_verb, ok as ok_verb, Clause}
use Rattle.laws.proofs.Members.{every_snoc}
use Rattle.laws.specs.Lists.{every}
use Rattle.contract.specs.Encode.{verb_word, clause_row}
use Rattle.entries.specs.Draft.{Draft, note, with_notes, with_table, found, among_in, number_in, clause_party, clause_verb, field_at, clause_field, clause_end, excess, clause_count}
use Rattle.reading.specs.Syntax.{Span}
use Rattle.reading.specs.Syntax as syntax
use Rattle.reading.specs.Items.{Item, uses, of_each, clause_items}
use Rattle.reading.specs.Rules.{Finding, lesser, word, known, number_of, numbers_in, clauses_in, judge, judged}
use Rattle.reading.specs.Resolve.{latest_first}
use Rattle.reading_laws.proofs.NotesKept.{keeps_then, clause_count_spared, excess_spared, known_keeps, verb_keeps, clause_party_keeps, field_keeps, fields_keep}
use Rattle.reading_laws.proofs.Run.{run_fields, run_clause, run_clauses, verb_number, end_clause}
use Rattle.reading_laws.proofs.NotesSay.{Noted}
use Rattle.reading_laws.proofs.NotesInvariant.{in_order}
use Rattle.reading_laws.proofs.NotedFind.{number_noted}
use Rattle.reading_laws.proofs.NotedClauses.{room, room_first, room_many, room_long, clause_party_noted, clause_verb_noted, clause_field_noted, field_items, fields_noted, clause_noted}
use Rattle.reading_laws.proofs.NotedRows.{row_word, row_past, row_here, row_other, row_by, party_row, verb_row, field_row, field_new, row_party, row_verb, row_many, Words, set_word, set_two}

module _ (s : List ℕ) where
  -- ---- how many clauses, and whether there is one too many

  field_at_excess : (r j x : ℕ) (p : Draft) → 15 < length p.notes → note p.notes 15 ≡ 1 → note (field_at r j x p).notes 15 ≡ 1
  unfolding field_at
  field_at_excess r j x p l e =
      by_cases (λ (q : Draft). note q.notes 15 ≡ 1) (ltb j 32) _ (with_notes p (set p.notes 15 1)) (λ _. e) (λ _. get_or-set_same p.notes 15 1 0 l)

  long_notes : (b : List Item) (f : Finding) (n : List ℕ) → Noted s b f n → 15 < length n
  long_notes b f n h = let e : length n ≡ 606 = h.size in omega arith

  field_excess : (x : Span) (p : Draft) (b : List Item) (f : Finding) → Noted s b f p.notes → note p.notes 15 ≡ 1 → note (clause_field s x.start x.end p).notes 15 ≡ 1
  unfolding clause_field
  field_excess x p b f h e =
      let m = pick (among_in s p.notes 2 (word s x)) p.notes (found 13 x.start p.notes) in
      let k = known_keeps excess excess_spared (among_in s p.notes 2 (word s x)) 13 x.start p.notes in
      let g : note m 15 ≡ 1 = k.same ∙ e in
      let l : 15 < length m = subst (λ (i : ℕ). 15 < i) (sym k.long) (long_notes b f p.notes h) in
      by_cases (λ (r : Draft). note r.notes 15 ≡ 1) (ltb (note p.notes 11) 16) _ (with_notes p m)
      (λ _. field_at_excess _ _ _ (with_notes p m) l g) (λ _. g)

  -- ---- a row with its fields so far

  pub data Fielded (u : List ℕ) (ks : List Clause) (c : Clause) (p : Draft) : Type 0 where
    fit : Words u p.table (row_word (ks ++ (c ∷ []))) → length c.fields ≤ 32 → note p.notes 15 ≡ 0 → Fielded u ks c p
    over : 32 < length c.fields → note p.notes 15 ≡ 1 → Fielded u ks c p

  -- one more field in its row
  module _ (u : List ℕ) (ks : List Clause) (a : ℕ) (v : Verb) (fs : List ℕ) (x : ℕ) (few : length ks < 16) where
    more_words : (t : List ℕ) (r j : ℕ) → Words u t (row_word (ks ++ (row_by a v fs ∷ []))) → r ≡ 5027 + 35 * length ks → j ≡ length fs → j < 32
        → Words u (set (set t (r + 3 + j) x) (r + 2) (j + 1)) (row_word (ks ++ (row_by a v (fs ++ (x ∷ [])) ∷ [])))
    more_words t r j w e d h =
        let n : length (fs ++ (x ∷ [])) ≡ length fs + 1 = length-append fs (x ∷ []) in
        let M = length ks in
        set_two u t (row_word (ks ++ (row_by a v fs ∷ []))) (row_word (ks ++ (row_by a v (fs ++ (x ∷ [])) ∷ []))) M (3 + length fs) 2 (r + 3 + j) (r + 2) x (j + 1)
        w few (omega arith) (omega arith) (λ q. absurd (omega arith)) (omega (arith, e, d)) (omega (arith, e))
        (row_here ks (row_by a v (fs ++ (x ∷ []))) (3 + length fs)
        ∙ (let q : 3 + length fs ≡ suc (suc (suc (length fs))) = omega arith in ap (λ (i : ℕ). get_or (clause_row (row_by a v (fs ++ (x ∷ [])))) i 0) q)
        ∙ field_new a v fs x)
        (row_here ks (row_by a v (fs ++ (x ∷ []))) 2 ∙ row_many a v (fs ++ (x ∷ [])) ∙ (omega (arith, n, d)))
        (λ i l f g. in_order i M
        (λ q. row_other ks (row_by a v (fs ++ (x ∷ []))) i l (λ y. absurd (omega arith)) ∙ sym (row_other ks (row_by a v fs) i l (λ y. absurd (omega arith))))
        (λ q. ap (λ (y : ℕ). row_word (ks ++ (row_by a v (fs ++ (x ∷ [])) ∷ [])) y l) q
        ∙ row_here ks (row_by a v (fs ++ (x ∷ []))) l ∙ field_row a v fs x l (g q) (f q) ∙ sym (row_here ks (row_by a v fs) l)
        ∙ ap (λ (y : ℕ). row_word (ks ++ (row_by a v fs ∷ [])) y l) (sym q))
        (λ q. row_other ks (row_by a v (fs ++ (x ∷ []))) i l (λ y. absurd (omega arith)) ∙ sym (row_other ks (row_by a v fs) i l (λ y. absurd (omega arith)))))

    field_at_fit : (r j : ℕ) (p : Draft) → Words u p.table (row_word (ks ++ (row_by a v fs ∷ []))) → length fs ≤ 32 → note p.notes 15 ≡ 0 → 15 < length p.notes
        → r ≡ 5027 + 35 * length ks → j ≡ length fs → Fielded u ks (row_by a v (fs ++ (x ∷ []))) (field_at r j x p)
    unfolding field_at
    field_at_fit r j p w l z y e d =
        let n : length (fs ++ (x ∷ [])) ≡ length fs + 1 = length-append fs (x ∷ []) in
        by_cases (Fielded u ks (row_by a v (fs ++ (x ∷ [])))) (ltb j 32)
        (with_table p (set (set p.table (r + 3 + j) x) (r + 2) (j + 1))) (with_notes p (set p.notes 15 1))
        (λ q. let h : j < 32 = ltb-true j 32 q in fit (more_words p.table r j w e d h) (omega (arith, n, h, d)) z)
        (λ q. let h : 32 ≤ j = ltb-false j 32 q in over (omega (arith, n, h, d)) (get_or-set_same p.notes 15 1 0 y))

  pub field_fielded : (x : Span) (u : List ℕ) (ks : List Clause) (a : ℕ) (v : Verb) (fs : List ℕ) (b : List Item) (f : Finding) (p : Draft) → length ks < 16
      → note p.notes 11 ≡ length ks → Noted s b f p.notes → Fielded u ks (row_by a v fs) p
      → Fielded u ks (row_by a v (fs ++ (number_of (word s x) (known s 2 b) ∷ []))) (clause_field s x.start x.end p)
  unfolding clause_field
  field_fielded x u ks a v fs b f p few many h (over l e) =
      let n : length (fs ++ (number_of (word s x) (known s 2 b) ∷ [])) ≡ length fs + 1 = length-append fs (number_of (word s x) (known s 2 b) ∷ []) in
      over (omega (arith, n, l)) (field_excess x p b f h e)
  field_fielded x u ks a v fs b f p few many h (fit w l z) =
      let t = among_in s p.notes 2 (word s x) in
      let m = pick t p.notes (found 13 x.start p.notes) in
      let r = 5027 + 35 * note p.notes 11 in
      let j = get_or p.table (5027 + 35 * note p.notes 11 + 2) 0 in
      let N = number_in s p.notes 2 (word s x) in
      let e : ltb (note p.notes 11) 16 ≡ true = lt-ltb (note p.notes 11) 16 (omega arith) in
      let k = known_keeps excess excess_spared t 13 x.start p.notes in
      let y : 15 < length m = subst (λ (i : ℕ). 15 < i) (sym k.long) (long_notes b f p.notes h) in
      let zm : note m 15 ≡ 0 = k.same ∙ z in
      let d : j ≡ length fs =
      ap (λ (i : ℕ). get_or p.table (5027 + 35 * i + 2) 0) many ∙ w.word (length ks) 2 few (omega arith) ∙ row_here ks (row_by a v fs) 2 ∙ row_many a v fs in
      subst (λ (i : ℕ). Fielded u ks (row_by a v (fs ++ (i ∷ []))) (clause_field s x.start x.end p)) (number_noted s b f p.notes h 2 (omega arith) (word s x))
      (subst (Fielded u ks (row_by a v (fs ++ (N ∷ [])))) (sym (pick_true (ltb (note p.notes 11) 16) (field_at r j N (with_notes p m)) (with_notes p m) e))
      (field_at_fit u ks a v fs N few r j (with_notes p m) w l zm y (omega (arith, many)) d))

  pub fields_excess : (xs : List Span) (p : Draft) (b : List Item) (f : Finding) → Noted s b f p.notes → note p.notes 15 ≡ 1 → note (run_fields s xs p).notes 15 ≡ 1
  unfolding run_fields
  fields_excess [] p b f h e = e
  fields_excess (x ∷ xs) p b f h e =
      fields_excess xs (clause_field s x.start x.end p) (uses (2 ∷ []) x ∷ b) (lesser f (judge s b (uses (2 ∷ []) x))) (clause_field_noted s x b f p h) (field_excess x p b f h e)

  pub fields_fielded : (xs : List Span) (u : List ℕ) (ks : List Clause) (a : ℕ) (v : Verb) (fs : List ℕ) (b : List Item) (f : Finding) (p : Draft) → length ks < 16
      → note p.notes 11 ≡ length ks → Noted s b f p.notes → Fielded u ks (row_by a v fs) p
      → Fielded u ks (row_by a v (fs ++ numbers_in s (known s 2 b) xs)) (run_fields s xs p)
  unfolding run_fields numbers_in known
  fields_fielded [] u ks a v fs b f p few many h g = subst (λ (l : List ℕ). Fielded u ks (row_by a v l) p) (sym (append-nil fs)) g
  fields_fielded (x ∷ xs) u ks a v fs b f p few many h g =
      let N = number_of (word s x) (known s 2 b) in
      let p1 = clause_field s x.start x.end p in
      subst (λ (l : List ℕ). Fielded u ks (row_by a v l) (run_fields s xs p1)) (append_assoc fs (N ∷ []) (numbers_in s (known s 2 b) xs))
      (fields_fielded xs u ks a v (fs ++ (N ∷ [])) (uses (2 ∷ []) x ∷ b) (lesser f (judge s b (uses (2 ∷ []) x))) p1 few
      ((field_keeps clause_count clause_count_spared s refl x.start x.end p).same ∙ many) (clause_field_noted s x b f p h) (field_fielded x u ks a v fs b f p few many h g))

  -- ---- a row's party and verb

  verb_word_lem : (v : Verb) → verb_number s v ≡ verb_word v
  verb_word_lem set_verb = refl
  verb_word_lem ok_verb = refl

  party_words : (x : Span) (u : List ℕ) (ks : List Clause) (p : Draft) → length ks < 16 → note p.notes 11 ≡ length ks → Words u p.table (row_word ks)
      → Words u (clause_party s x.start x.end p).table (row_word (ks ++ (row_by (number_in s p.notes 0 (word s x)) set_verb [] ∷ [])))
  unfolding clause_party
  party_words x u ks p few many w =
      let N = number_in s p.notes 0 (word s x) in
      let o = 5027 + 35 * note p.notes 11 in
      subst (λ (t : List ℕ). Words u t (row_word (ks ++ (row_by N set_verb [] ∷ []))))
      (sym (pick_true (ltb (note p.notes 11) 16) (set p.table o N) p.table (lt-ltb (note p.notes 11) 16 (omega arith))))
      (set_word u p.table (row_word ks) (row_word (ks ++ (row_by N set_verb [] ∷ []))) (length ks) 0 o N w few (omega arith) (omega (arith, many))
      (row_here ks (row_by N set_verb []) 0 ∙ row_party N set_verb [])
      (λ i j n. in_order i (length ks)
      (λ q. row_other ks (row_by N set_verb []) i j (λ y. absurd (omega arith)))
      (λ q. ap (λ (y : ℕ). row_word (ks ++ (row_by N set_verb [] ∷ [])) y j) q ∙ row_here ks (row_by N set_verb []) j ∙ party_row N j (n q) ∙ sym (row_past ks i j (omega arith)))
      (λ q. row_other ks (row_by N set_verb []) i j (λ y. absurd (omega arith)))))

  verb_words : (v : Verb) (a : ℕ) (u : List ℕ) (ks : List Clause) (p : Draft) → length ks < 16 → note p.notes 11 ≡ length ks
      → Words u p.table (row_word (ks ++ (row_by a set_verb [] ∷ []))) → Words u (clause_verb (verb_number s v) p).table (row_word (ks ++ (row_by a v [] ∷ [])))
  unfolding clause_verb
  verb_words v a u ks p few many w =
      let o = 5027 + 35 * note p.notes 11 + 1 in
      subst (λ (r : Draft). Words u r.table (row_word (ks ++ (row_by a v [] ∷ []))))
      (sym (pick_true (ltb (note p.notes 11) 16) (with_table p (set p.table o (verb_number s v))) p (lt-ltb (note p.notes 11) 16 (omega arith))))
      (set_word u p.table (row_word (ks ++ (row_by a set_verb [] ∷ []))) (row_word (ks ++ (row_by a v [] ∷ []))) (length ks) 1 o (verb_number s v) w few (omega arith) (omega (arith, many))
      (row_here ks (row_by a v []) 1 ∙ row_verb a v [] ∙ sym (verb_word_lem v))
      (λ i j n. in_order i (length ks)
      (λ q. row_other ks (row_by a v []) i j (λ y. absurd (omega arith)) ∙ sym (row_other ks (row_by a set_verb []) i j (λ y. absurd (omega arith))))
      (λ q. ap (λ (y : ℕ). row_word (ks ++ (row_by a v [] ∷ [])) y j) q ∙ row_here ks (row_by a v []) j ∙ verb_row a v j (n q)
      ∙ sym (row_here ks (row_by a set_verb []) j) ∙ ap (λ (y : ℕ). row_word (ks ++ (row_by a set_verb [] ∷ [])) y j) (sym q))
      (λ q. row_other ks (row_by a v []) i j (λ y. absurd (omega arith)) ∙ sym (row_other ks (row_by a set_verb []) i j (λ y. absurd (omega arith))))))

  -- ---- clauses

  pub record Good (u : List ℕ) (ks : List Clause) (p : Draft) : Type 0 where
    pub words : Words u p.table (row_word ks)
    pub many : note p.notes 11 ≡ length ks
    pub none : note p.notes 15 ≡ 0
    pub few : length ks ≤ 16
    pub short : every (λ k. leb (length k.fields) 32) ks ≡ true

  pub data Rowed (u : List ℕ) (ks : List Clause) (p : Draft) : Type 0 where
    good : Good u ks p → Rowed u ks p
    bad : note p.notes 15 ≡ 1 → room ks ≡ false → Rowed u ks p

  end_excess : (n : List ℕ) → 15 < length n → note n 15 ≡ 1 → note (clause_end n) 15 ≡ 1
  unfolding clause_end
  end_excess n l e =
      by_cases (λ (m : List ℕ). note m 15 ≡ 1) (ltb (note n 11) 16) (set n 11 (note n 11 + 1)) (set n 15 1)
      (λ _. get_or-set_other n 11 15 (note n 11 + 1) 0 (λ q. absurd (omega arith)) ∙ e) (λ _. get_or-set_same n 15 1 0 l)

  end_full : (n : List ℕ) → 15 < length n → 16 ≤ note n 11 → note (clause_end n) 15 ≡ 1
  unfolding clause_end
  end_full n l e = ap (λ (m : List ℕ). note m 15) (pick_false (ltb (note n 11) 16) (set n 11 (note n 11 + 1)) (set n 15 1) (le-ltb _ _ e)) ∙ get_or-set_same n 15 1 0 l

  end_more : (n : List ℕ) → note n 11 < 16 → clause_end n ≡ set n 11 (note n 11 + 1)
  unfolding clause_end
  end_more n e = pick_true (ltb (note n 11) 16) (set n 11 (note n 11 + 1)) (set n 15 1) (lt-ltb _ _ e)

  abbrev clause_by : List Item → syntax.Clause → Clause
  clause_by b k = row_by (number_of (word s k.party) (known s 0 b)) k.verb (numbers_in s (known s 2 b) k.fields)

  fielded_rowed : (u : List ℕ) (ks : List Clause) (c : Clause) (p : Draft) → length ks < 16 → note p.notes 11 ≡ length ks
      → every (λ k. leb (length k.fields) 32) ks ≡ true → 15 < length p.notes → Fielded u ks c p → Rowed u (ks ++ (c ∷ [])) (end_clause s p)
  fielded_rowed u ks c p few many short long (over l e) = bad (end_excess p.notes long e) (room_long ks c l)
  fielded_rowed u ks c p few many short long (fit w l z) =
      let n : length (ks ++ (c ∷ [])) ≡ length ks + 1 = length-append ks (c ∷ []) in
      let e : clause_end p.notes ≡ set p.notes 11 (note p.notes 11 + 1) = end_more p.notes (omega arith) in
      good
      (record {
        words = w;
        many = ap (λ (m : List ℕ). note m 11) e ∙ get_or-set_same p.notes 11 (note p.notes 11 + 1) 0 (omega arith) ∙ ap (λ (i : ℕ). i + 1) many ∙ sym n;
        none = ap (λ (m : List ℕ). note m 15) e ∙ get_or-set_other p.notes 11 15 (note p.notes 11 + 1) 0 (λ q. absurd (omega arith)) ∙ z;
        few = omega arith;
        short = every_snoc (λ k. leb (length k.fields) 32) ks c short (le-leb (length c.fields) 32 l);
      })

  pub clause_rowed : (k : syntax.Clause) (u : List ℕ) (ks : List Clause) (b : List Item) (f : Finding) (p : Draft) → Noted s b f p.notes → Rowed u ks p
      → Rowed u (ks ++ (clause_by b k ∷ [])) (run_clause s k p)
  unfolding run_clause known
  clause_rowed k u ks b f p h (bad e r) =
      let b1 = uses (0 ∷ []) k.party ∷ b in
      let f1 = lesser f (judge s b (uses (0 ∷ []) k.party)) in
      let p1 = clause_party s k.party.start k.party.end p in
      let p2 = clause_verb (verb_number s k.verb) p1 in
      let h2 : Noted s b1 f1 p2.notes = clause_verb_noted s (verb_number s k.verb) b1 f1 p1 (clause_party_noted s k.party b f p h) in
      let e2 : note p2.notes 15 ≡ 1 = (keeps_then (clause_party_keeps excess excess_spared s k.party.start k.party.end p) (verb_keeps excess excess_spared (verb_number s k.verb) p1)).same ∙ e in
      let l3 : 15 < length (run_fields s k.fields p2).notes = long_notes _ _ (run_fields s k.fields p2).notes (fields_noted s k.fields b1 f1 p2 h2) in
      bad (end_excess (run_fields s k.fields p2).notes l3 (fields_excess k.fields p2 b1 f1 h2 e2)) (room_first ks (clause_by b k ∷ []) r)
  clause_rowed k u ks b f p h (good g) =
      let b1 = uses (0 ∷ []) k.party ∷ b in
      let f1 = lesser f (judge s b (uses (0 ∷ []) k.party)) in
      let p1 = clause_party s k.party.start k.party.end p in
      let p2 = clause_verb (verb_number s k.verb) p1 in
      let p3 = run_fields s k.fields p2 in
      let h2 : Noted s b1 f1 p2.notes = clause_verb_noted s (verb_number s k.verb) b1 f1 p1 (clause_party_noted s k.party b f p h) in
      let l3 : 15 < length p3.notes = long_notes _ _ p3.notes (fields_noted s k.fields b1 f1 p2 h2) in
      let m1 : note p1.notes 11 ≡ length ks = (clause_party_keeps clause_count clause_count_spared s k.party.start k.party.end p).same ∙ g.many in
      let m2 : note p2.notes 11 ≡ length ks = (verb_keeps clause_count clause_count_spared (verb_number s k.verb) p1).same ∙ m1 in
      let m3 : note p3.notes 11 ≡ length ks = (fields_keep clause_count clause_count_spared s refl k.fields p2).same ∙ m2 in
      let few : length ks ≤ 16 = g.few in
      let n : length (ks ++ (clause_by b k ∷ [])) ≡ length ks + 1 = length-append ks (clause_by b k ∷ []) in
      let A = number_in s p.notes 0 (word s k.party) in
      let z2 : note p2.notes 15 ≡ 0 = (keeps_then (clause_party_keeps excess excess_spared s k.party.start k.party.end p) (verb_keeps excess excess_spared (verb_number s k.verb) p1)).same ∙ g.none in
      in_order (length ks) 16
      (λ l.
      fielded_rowed u ks (clause_by b k) p3 l m3 g.short l3
      (subst (λ (i : ℕ). Fielded u ks (row_by i k.verb (numbers_in s (known s 2 b) k.fields)) p3) (number_noted s b f p.notes h 0 (omega arith) (word s k.party))
      (fields_fielded k.fields u ks A k.verb [] b1 f1 p2 l m2 h2
      (fit (verb_words k.verb A u ks p1 l m1 (party_words k.party u ks p l g.many g.words)) (omega arith) z2))))
      (λ l. bad (end_full p3.notes l3 (omega (arith, m3, l))) (room_many (ks ++ (clause_by b k ∷ [])) (omega (arith, n, l))))
      (λ l. absurd (omega arith))

  fields_known : (j : ℕ) (xs : List Span) (b : List Item) → known s j (latest_first b (field_items s xs)) ≡ known s j b
  unfolding of_each latest_first known
  fields_known j [] b = refl
  fields_known j (x ∷ xs) b = fields_known j xs (uses (2 ∷ []) x ∷ b)

  pub clause_known : (j : ℕ) (k : syntax.Clause) (b : List Item) → j < 7 → known s j (latest_first b (clause_items k)) ≡ known s j b
  unfolding clause_items latest_first known
  clause_known j k b l = fields_known j k.fields (uses (0 ∷ []) k.party ∷ b)

  pub clauses_rowed : (cs : List syntax.Clause) (u : List ℕ) (ks : List Clause) (b : List Item) (f : Finding) (p : Draft) (ps xs : List Word) → known s 0 b ≡ ps → known s 2 b ≡ xs
      → Noted s b f p.notes → Rowed u ks p → Rowed u (ks ++ clauses_in s ps xs cs) (run_clauses s cs p)
  unfolding run_clauses clauses_in
  clauses_rowed [] u ks b f p ps xs e0 e2 h r = subst (λ (l : List Clause). Rowed u l p) (sym (append-nil ks)) r
  clauses_rowed (k ∷ cs) u ks b f p ps xs e0 e2 h r =
      let c : Clause = row_by (number_of (word s k.party) ps) k.verb (numbers_in s xs k.fields) in
      let step : Rowed u (ks ++ (c ∷ [])) (run_clause s k p) =
      subst (λ (l : List Word). Rowed u (ks ++ (row_by (number_of (word s k.party) l) k.verb (numbers_in s xs k.fields) ∷ [])) (run_clause s k p)) e0
      (subst (λ (l : List Word). Rowed u (ks ++ (row_by (number_of (word s k.party) (known s 0 b)) k.verb (numbers_in s l k.fields) ∷ [])) (run_clause s k p)) e2
      (clause_rowed k u ks b f p h r)) in
      subst (λ (l : List Clause). Rowed u l (run_clauses s cs (run_clause s k p))) (append_assoc ks (c ∷ []) (clauses_in s ps xs cs))
      (clauses_rowed cs u (ks ++ (c ∷ [])) (latest_first b (clause_items k)) (judged s b f (clause_items k)) (run_clause s k p) ps xs
      (clause_known 0 k b (omega arith) ∙ e0) (clause_known 2 k b (omega arith) ∙ e2) (clause_noted s k b f p h) step)
