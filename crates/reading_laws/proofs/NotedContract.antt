-- The pass over a whole text finds what the rules say. Assumes nothing.
use mathlib.Core.Path.{◌≡◌, refl, sym, ap, subst, ◌∙◌}
use mathlib.Core.Bool.{Bool, true, false, not}
use mathlib.Core.List.{List, [], ◌∷◌, ◌++◌, append_assoc}
use Prim.Native.Nat.{ℕ, zero, suc, ◌+◌, ◌*◌, ◌<◌, ◌≤◌}
use native.Mathlib.Omega.{arith}
use lib.ListN.{length, get_or, set, length-set}
use lib.Seq.{sets, get_or-set_other}
use lib.Dec.{eqb, leb, ltb}
use borrow.Author.Tests.{ltb-true, le-leb, eq-eqb, ne_eqb, eqb-true}
use Rattle.laws.specs.Choice.{pick}
use Rattle.laws.proofs.Choice.{by_cases, true_false, pick_true, pick_false}
use Rattle.contract.proofs.Zeros.{length_zeros}
use Rattle.contract.specs.Tree.{Word, Clause}
use Rattle.laws.proofs.Members.{every_head, every_tail}
use Rattle.laws.proofs.Truths.{both_left, both_true}
use Rattle.laws.specs.Lists.{every}
use Rattle.contract.specs.Encode.{zeros}
use Rattle.contract.proofs.Fitting.{name_length}
use Rattle.entries.specs.Draft.{Draft, note, with_notes, with_table, found, limit, section_of, width_of, rowed, entered, declared_in, declare, title, excess, clause_count}
use Rattle.reading.specs.Syntax.{Span, Syntax}
use Rattle.reading.specs.Syntax as syntax
use Rattle.reading.specs.Items.{Item, declares, mentions, uses, counts, opens, heads, closes, of_each, declared, state_item, clause_items, function_items, items}
use Rattle.reading.specs.Rules.{Finding, fine, breaks, lesser, or_breaks, word, known, count, headers, number_of, numbers_in, clauses_in, keeps_rules, is_known, header, is_header_among, most, judge, judged}
use Rattle.reading_laws.specs.Masks.{rows_of, kept_by_masks}
use Rattle.reading.specs.Resolve.{latest_first}
use Rattle.reading_laws.specs.Walk.{closed}
use Rattle.reading_laws.proofs.NotesKept.{Spared, keeps_then, clause_count_spared, excess_spared, names_keep}
use Rattle.reading_laws.proofs.Run.{fresh, finding_of, run_names, run_clauses, run_initial, run_names_of, run_contract}
use Rattle.reading_laws.proofs.NotesSay.{Noted}
use Rattle.accepted.proofs.Known.{known_few}
use Rattle.accepted.proofs.Judged.{latest_append}
use Rattle.reading.proofs.TokenKinds.{Each}
use Rattle.accepted.proofs.Sorted.{is_named, SyntaxSorted}
use Rattle.reading_laws.proofs.Masks.{Small, kept_where_rows_stand}
use Rattle.reading_laws.proofs.NotesInvariant.{noted_holds}
use Rattle.reading_laws.proofs.NotedFind.{number_few}
use Rattle.reading_laws.proofs.NotedActs.{unless_noted}
use Rattle.reading_laws.proofs.NotedTrees.{FunctionPlaced, After, Left, after_append, left_after, names_noted, state_noted, functions_noted}
use Rattle.reading_laws.proofs.NotedRows.{row_word, Words, rows_stand}
use Rattle.reading_laws.proofs.SectionsRows.{zero_word}
use Rattle.reading_laws.proofs.NotedClauses.{room, clauses_noted}
use Rattle.reading_laws.proofs.NotedRowed.{Rowed, good, bad, clauses_rowed, clause_known}

-- ---- findings have the numbers of questions

abbrev pub Low : Finding → Type 0
Low fine = Unit {0}
Low (breaks q p) = q ≤ 15

lesser_low : (f g : Finding) → Low f → Low g → Low (lesser f g)
lesser_low fine g a b = b
lesser_low (breaks q p) fine a b = a
lesser_low (breaks q p) (breaks r o) a b = by_cases Low _ (breaks q p) (breaks r o) (λ _. a) (λ _. b)

unless_low : (t : Bool) (q o : ℕ) → q ≤ 15 → Low (or_breaks t q o)
unless_low t q o h = by_cases Low t fine (breaks q o) (λ _. tt) (λ _. h)

two_low : (t u : Bool) (q r o p : ℕ) → q ≤ 15 → r ≤ 15 → Low (lesser (or_breaks t q o) (or_breaks u r p))
two_low t u q r o p a b = lesser_low (or_breaks t q o) (or_breaks u r p) (unless_low t q o a) (unless_low u r p b)

judge_low : (s : List ℕ) (b : List Item) (i : Item) → Low (judge s b i)
unfolding judge
judge_low s b (declares k x) = two_low (ltb (length (known s k b)) (most k)) (not (is_known s (0 ∷ 1 ∷ 2 ∷ 3 ∷ 4 ∷ []) b (word s x))) 11 12 x.start x.start (omega arith) (omega arith)
judge_low s b (mentions k x p) = unless_low _ 11 p (omega arith)
judge_low s b (uses ks x) = unless_low _ 13 x.start (omega arith)
judge_low s b (counts k p) = unless_low _ 11 p (omega arith)
judge_low s b opens = tt
judge_low s b (heads p q a f) = two_low (ltb (length (headers s b)) 64) (not (is_header_among (header s b q a f) (headers s b))) 11 15 p f.start (omega arith) (omega arith)
judge_low s b (closes p cs) = unless_low _ 14 p (omega arith)

pub judged_low : (s : List ℕ) (b : List Item) (f : Finding) (is : List Item) → Low f → Low (judged s b f is)
unfolding judged
judged_low s b f [] h = h
judged_low s b f (i ∷ is) h = judged_low s (i ∷ b) (lesser f (judge s b i)) is (lesser_low f (judge s b i) h (judge_low s b i))

pub question_low : (n : List ℕ) (f : Finding) → finding_of n ≡ f → Low f → note n 12 ≤ 15
question_low n f e h = go (eqb (note n 12) 0) refl
  where
    go : (t : Bool) → eqb (note n 12) 0 ≡ t → note n 12 ≤ 15
    go true q = let z : note n 12 ≡ 0 = eqb-true _ _ q in omega arith
    go false q = subst Low (sym e ∙ pick_false (eqb (note n 12) 0) fine (breaks (note n 12) (note n 13)) q) h

-- ---- words of a table that are not written yet

pub record Zeroed (t : List ℕ) : Type 0 where
  pub long : length t ≡ 24659
  pub none : (i : ℕ) → 5027 ≤ i → i < 5587 → get_or t i 0 ≡ 0

sets_zeroed : (t : List ℕ) (o : ℕ) (l : List ℕ) → o + length l ≤ 5027 → Zeroed t → Zeroed (sets t o l)
sets_zeroed t o [] h z = z
sets_zeroed t o (x ∷ l) h z =
    sets_zeroed (set t o x) (suc o) l (omega arith)
    (record {
      long = length-set t o x ∙ z.long;
      none = λ i a b. get_or-set_other t o i x 0 (λ q. absurd (omega arith)) ∙ z.none i a b;
    })

zeroed_words : (t : List ℕ) → Zeroed t → Words t t (row_word [])
unfolding row_word
zeroed_words t z =
    record {
      long = z.long;
      word = λ i j a b. z.none (5027 + 35 * i + j) (omega arith) (omega arith);
      early = λ i a. refl;
      late = λ i a. refl;
    }

-- the rows of parties, assets and fields stand before those of clauses
row_low : (k i : ℕ) → k < 3 → i < limit k → section_of k + width_of k * i + 33 ≤ 5027
unfolding pick
row_low zero i h l = omega arith
row_low (suc zero) i h l = omega arith
row_low (suc (suc zero)) i h l = omega arith
row_low (suc (suc (suc k))) i h l = absurd (omega arith)

has_section : (k : ℕ) → k < 3 → eqb (section_of k) 0 ≡ false
has_section zero h = refl
has_section (suc zero) h = refl
has_section (suc (suc zero)) h = refl
has_section (suc (suc (suc k))) h = absurd (omega arith)

keeps_room : (n : ℕ) (ks : List Clause) → room ks ≡ false → keeps_rules n ks ≡ false
unfolding keeps_rules
keeps_room n ks e = go (keeps_rules n ks) refl
  where
    go : (t : Bool) → keeps_rules n ks ≡ t → t ≡ false
    go true h = true_false (sym (both_left (room ks) _ h) ∙ e)
    go false h = refl

module _ (s : List ℕ) where
  -- ---- the start

  pub fresh_noted : Noted s [] fine (zeros 606)
  unfolding known count headers
  fresh_noted =
      record {
        size = length_zeros 606;
        many = λ k l. zero_word 606 k;
        slot = λ k i l h. absurd (omega arith);
        tally = λ k l h. zero_word 606 k ∙ (omega arith);
        functions = zero_word 606 10;
        header = λ i h. absurd (omega arith);
        finding = pick_true (eqb (note (zeros 606) 12) 0) fine (breaks (note (zeros 606) 12) (note (zeros 606) 13)) (eq-eqb _ 0 (zero_word 606 12));
      }

  pub fresh_zeroed : Zeroed (zeros 24659)
  fresh_zeroed = record { long = length_zeros 24659; none = λ i a b. zero_word 24659 i }

  pub title_zeroed : (x : Span) (t : List ℕ) → is_named s x ≡ true → Zeroed t → Zeroed (title s x.start x.end t)
  unfolding title rowed
  title_zeroed x t e z =
      let l : length (word s x) ≤ 32 = name_length (word s x) e in
      sets_zeroed t 10 (length (word s x) ∷ word s x) (omega arith) z

  -- ---- declared names

  entered_zeroed : (k i : ℕ) (x : Span) (p : Draft) → k < 3 → i < limit k → is_named s x ≡ true → Zeroed p.table → Zeroed (entered s k i x.start x.end p).table
  unfolding entered rowed
  entered_zeroed k i x p h b e z =
      let l : length (word s x) ≤ 32 = name_length (word s x) e in
      let r : section_of k + width_of k * i + 33 ≤ 5027 = row_low k i h b in
      subst Zeroed (sym (pick_false _ _ _ (has_section k h)))
      (sets_zeroed p.table (section_of k + width_of k * i) (length (word s x) ∷ word s x) (omega (arith, r, l)) z)

  declare_zeroed : (k : ℕ) (x : Span) (p : Draft) → k < 3 → is_named s x ≡ true → Zeroed p.table → Zeroed (declare s k x.start x.end p).table
  unfolding declare
  declare_zeroed k x p h e z =
      by_cases (λ (r : Draft). Zeroed r.table) (ltb (note p.notes k) (limit k)) _ (with_notes p (declared_in s k x.start x.end p.notes))
      (λ q. entered_zeroed k (note p.notes k) x (with_notes p (declared_in s k x.start x.end p.notes)) h (ltb-true _ _ q) e z) (λ _. z)

  pub names_zeroed : (k : ℕ) (xs : List Span) (p : Draft) → k < 3 → every (is_named s) xs ≡ true → Zeroed p.table → Zeroed (run_names s k xs p).table
  unfolding run_names
  names_zeroed k [] p h e z = z
  names_zeroed k (x ∷ xs) p h e z =
      names_zeroed k xs (declare s k x.start x.end p) h (every_tail (is_named s) x xs e) (declare_zeroed k x p h (every_head (is_named s) x xs e) z)

  -- ---- the agreement's end

  numbers_low : (ws : List Word) (xs : List Span) → length ws ≤ 32 → every (λ f. leb f 32) (numbers_in s ws xs) ≡ true
  unfolding numbers_in every
  numbers_low ws [] h = refl
  numbers_low ws (x ∷ xs) h =
      let n : number_of (word s x) ws ≤ length ws = number_few (word s x) ws in
      both_true _ _ (le-leb (number_of (word s x) ws) 32 (omega arith)) (numbers_low ws xs h)

  parties_low : (ps xs : List Word) (cs : List syntax.Clause) → length ps ≤ 8 → every (λ k. leb k.party 8) (clauses_in s ps xs cs) ≡ true
  unfolding clauses_in every
  parties_low ps xs [] h = refl
  parties_low ps xs (k ∷ cs) h =
      let n : number_of (word s k.party) ps ≤ length ps = number_few (word s k.party) ps in
      both_true _ _ (le-leb (number_of (word s k.party) ps) 8 (omega arith)) (parties_low ps xs cs h)

  fields_low : (ps xs : List Word) (cs : List syntax.Clause) → length xs ≤ 32 → every (λ k. every (λ f. leb f 32) k.fields) (clauses_in s ps xs cs) ≡ true
  unfolding clauses_in every
  fields_low ps xs [] h = refl
  fields_low ps xs (k ∷ cs) h = both_true _ _ (numbers_low xs k.fields h) (fields_low ps xs cs h)

  pub closed_noted : (o : ℕ) (cs : List syntax.Clause) (u : List ℕ) (b : List Item) (f : Finding) (p : Draft) → Noted s b f p.notes
      → Rowed s u (clauses_in s (known s 0 b) (known s 2 b) cs) p → Noted s (closes o cs ∷ b) (lesser f (judge s b (closes o cs))) (closed o p).notes
  unfolding closed judge known count headers
  closed_noted o cs u b f p h (good g) =
      let ks = clauses_in s (known s 0 b) (known s 2 b) cs in
      let K = keeps_rules (length (known s 0 b)) ks in
      let G = lesser f (judge s b (closes o cs)) in
      let held = noted_holds s b f p.notes h in
      let base : Noted s (closes o cs ∷ b) G (pick K p.notes (found 14 o p.notes)) = unless_noted s b f p.notes h (closes o cs) held 13 o K refl in
      let pl : length (known s 0 b) ≤ 8 = known_few s 0 b in
      let xl : length (known s 2 b) ≤ 32 = known_few s 2 b in
      let small : Small ks = record {
        few = g.few;
        parties = parties_low (known s 0 b) (known s 2 b) cs pl;
        fields = fields_low (known s 0 b) (known s 2 b) cs xl;
        short = g.short;
      } in
      let same : kept_by_masks (note p.notes 0) (rows_of p.table (note p.notes 11)) ≡ K =
      (λ t. kept_by_masks (h.many 0 (omega arith) t) (rows_of p.table (g.many t)))
      ∙ kept_where_rows_stand (length (known s 0 b)) ks p.table pl small (rows_stand u p.table ks g.words g.few g.short) in
      let zero15 : eqb (note p.notes 15) 0 ≡ true = eq-eqb _ 0 g.none in
      by_cases (λ (r : Draft). Noted s (closes o cs ∷ b) G r.notes) (eqb (note p.notes 15) 0) _ (with_notes p (found 14 o p.notes))
      (λ _. by_cases (λ (r : Draft). Noted s (closes o cs ∷ b) G r.notes) (kept_by_masks (note p.notes 0) (rows_of p.table (note p.notes 11))) p (with_notes p (found 14 o p.notes))
      (λ e. subst (Noted s (closes o cs ∷ b) G) (pick_true K p.notes (found 14 o p.notes) (sym same ∙ e)) base)
      (λ e. subst (Noted s (closes o cs ∷ b) G) (pick_false K p.notes (found 14 o p.notes) (sym same ∙ e)) base))
      (λ e. true_false (sym zero15 ∙ e))
  closed_noted o cs u b f p h (bad x r) =
      let ks = clauses_in s (known s 0 b) (known s 2 b) cs in
      let K = keeps_rules (length (known s 0 b)) ks in
      let G = lesser f (judge s b (closes o cs)) in
      let base : Noted s (closes o cs ∷ b) G (pick K p.notes (found 14 o p.notes)) = unless_noted s b f p.notes h (closes o cs) (noted_holds s b f p.notes h) 13 o K refl in
      let one : eqb (note p.notes 15) 0 ≡ false = ne_eqb (note p.notes 15) 0 (λ q. absurd (omega (arith, q, x))) in
      by_cases (λ (y : Draft). Noted s (closes o cs ∷ b) G y.notes) (eqb (note p.notes 15) 0) _ (with_notes p (found 14 o p.notes))
      (λ e. true_false (sym e ∙ one))
      (λ e. subst (Noted s (closes o cs ∷ b) G) (pick_false K p.notes (found 14 o p.notes) (keeps_room (length (known s 0 b)) ks r)) base)

  -- ---- the whole text

  pub clauses_known : (j : ℕ) (cs : List syntax.Clause) (b : List Item) → j < 7 → known s j (latest_first b (of_each clause_items cs)) ≡ known s j b
  unfolding of_each latest_first
  clauses_known j [] b h = refl
  clauses_known j (k ∷ cs) b h =
      ap (known s j) (latest_append b (clause_items k) (of_each clause_items cs))
      ∙ clauses_known j cs (latest_first b (clause_items k)) h ∙ clause_known s j k b h

  -- the items up to the names' end
  abbrev pub names_items : Syntax → List Item
  names_items c = declared 1 c.assets ++ (declared 2 c.fields ++ declared 0 c.parties)

  pub names_of_noted : (c : Syntax) → After s [] fine (names_items c) (run_names_of s c fresh).notes
  names_of_noted c =
      let hs = declared 1 c.assets in
      let xs = declared 2 c.fields in
      let ps = declared 0 c.parties in
      let p0 = with_table fresh (title s c.name.start c.name.end fresh.table) in
      let p1 = run_names s 1 c.assets p0 in
      let p2 = run_names s 2 c.fields p1 in
      let b1 = latest_first [] hs in
      let f1 = judged s [] fine hs in
      let b2 = latest_first b1 xs in
      let f2 = judged s b1 f1 xs in
      after_append s [] fine hs (xs ++ ps) _
      (after_append s b1 f1 xs ps _
      (names_noted s 0 c.parties b2 f2 p2 (omega arith)
      (names_noted s 2 c.fields b1 f1 p1 (omega arith)
      (names_noted s 1 c.assets [] fine p0 (omega arith) fresh_noted))))

  pub names_of_zeroed : (c : Syntax) → SyntaxSorted s c → Zeroed (run_names_of s c fresh).table
  names_of_zeroed c h =
      let p0 = with_table fresh (title s c.name.start c.name.end fresh.table) in
      let p1 = run_names s 1 c.assets p0 in
      let p2 = run_names s 2 c.fields p1 in
      names_zeroed 0 c.parties p2 (omega arith) h.parties
      (names_zeroed 2 c.fields p1 (omega arith) h.fields
      (names_zeroed 1 c.assets p0 (omega arith) h.assets (title_zeroed c.name (zeros 24659) h.name fresh_zeroed)))

  names_of_keep : (c : Syntax) (i : ℕ) → Spared i → note (run_names_of s c fresh).notes i ≡ 0
  names_of_keep c i x =
      let p0 = with_table fresh (title s c.name.start c.name.end fresh.table) in
      let p1 = run_names s 1 c.assets p0 in
      (keeps_then (names_keep i x s 1 (omega arith) c.assets p0)
      (keeps_then (names_keep i x s 2 (omega arith) c.fields p1) (names_keep i x s 0 (omega arith) c.parties (run_names s 2 c.fields p1)))).same
      ∙ zero_word 606 i

  -- the clauses as rows, or no room for them
  pub agreement_rowed : (c : Syntax) → SyntaxSorted s c
      → Rowed s (run_names_of s c fresh).table (clauses_in s (known s 0 (latest_first [] (names_items c))) (known s 2 (latest_first [] (names_items c))) c.clauses)
      (run_clauses s c.clauses (run_names_of s c fresh))
  unfolding every
  agreement_rowed c h =
      let p = run_names_of s c fresh in
      let b = latest_first [] (names_items c) in
      clauses_rowed s c.clauses p.table [] b (judged s [] fine (names_items c)) p (known s 0 b) (known s 2 b) refl refl (names_of_noted c)
      (good
      (record {
        words = zeroed_words p.table (names_of_zeroed c h);
        many = names_of_keep c clause_count clause_count_spared;
        none = names_of_keep c excess excess_spared;
        few = omega arith;
        short = refl;
      }))

  -- the items up to the functions
  abbrev pub start_items : Syntax → List Item
  start_items c = names_items c ++ (of_each clause_items c.clauses ++ (closes c.closing c.clauses ∷ state_item c.initial ∷ []))

  -- and the pass up to them
  abbrev pub run_start : Syntax → Draft
  run_start c = run_initial s c.initial (closed c.closing (run_clauses s c.clauses (run_names_of s c fresh)))

  pub agreement_noted : (c : Syntax) → SyntaxSorted s c
      → After s [] fine (names_items c ++ (of_each clause_items c.clauses ++ (closes c.closing c.clauses ∷ []))) (closed c.closing (run_clauses s c.clauses (run_names_of s c fresh))).notes
  unfolding judged latest_first
  agreement_noted c h =
      let ns = names_items c in
      let cs = of_each clause_items c.clauses in
      let i = closes c.closing c.clauses in
      let p3 = run_names_of s c fresh in
      let p4 = run_clauses s c.clauses p3 in
      let b3 = latest_first [] ns in
      let f3 = judged s [] fine ns in
      let b4 = latest_first b3 cs in
      let f4 = judged s b3 f3 cs in
      let h4 : Noted s b4 f4 p4.notes = clauses_noted s c.clauses b3 f3 p3 (names_of_noted c) in
      let rows : Rowed s p3.table (clauses_in s (known s 0 b4) (known s 2 b4) c.clauses) p4 =
      subst (λ (ps : List Word). Rowed s p3.table (clauses_in s ps (known s 2 b4) c.clauses) p4) (sym (clauses_known 0 c.clauses b3 (omega arith)))
      (subst (λ (xs : List Word). Rowed s p3.table (clauses_in s (known s 0 b3) xs c.clauses) p4) (sym (clauses_known 2 c.clauses b3 (omega arith)))
      (agreement_rowed c h)) in
      after_append s [] fine ns (cs ++ (i ∷ [])) _
      (after_append s b3 f3 cs (i ∷ []) _
      (closed_noted c.closing c.clauses p3.table b4 f4 p4 h4 rows))

  pub start_noted : (c : Syntax) → SyntaxSorted s c → After s [] fine (start_items c) (run_start c).notes
  unfolding judged latest_first
  start_noted c h =
      let hs = names_items c in
      let cs = of_each clause_items c.clauses in
      let i = closes c.closing c.clauses in
      let q = state_item c.initial in
      let is = hs ++ (cs ++ (i ∷ [])) in
      let p5 = closed c.closing (run_clauses s c.clauses (run_names_of s c fresh)) in
      let e : is ++ (q ∷ []) ≡ start_items c = append_assoc hs (cs ++ (i ∷ [])) (q ∷ []) ∙ ap (λ (l : List Item). hs ++ l) (append_assoc cs (i ∷ []) (q ∷ [])) in
      subst (λ (l : List Item). After s [] fine l (run_start c).notes) e
      (after_append s [] fine is (q ∷ []) (run_start c).notes
      (state_noted s c.initial (latest_first [] is) (judged s [] fine is) p5 (agreement_noted c h)))

  items_split : (c : Syntax) → start_items c ++ of_each function_items c.functions ≡ items c
  unfolding items
  items_split c =
      let hs = declared 1 c.assets in
      let xs = declared 2 c.fields in
      let ps = declared 0 c.parties in
      let cs = of_each clause_items c.clauses in
      let ts = closes c.closing c.clauses ∷ state_item c.initial ∷ [] in
      let fs = of_each function_items c.functions in
      append_assoc (hs ++ (xs ++ ps)) (cs ++ ts) fs
      ∙ append_assoc hs (xs ++ ps) ((cs ++ ts) ++ fs)
      ∙ ap (λ (l : List Item). hs ++ l) (append_assoc xs ps ((cs ++ ts) ++ fs))
      ∙ ap (λ (l : List Item). hs ++ (xs ++ (ps ++ l))) (append_assoc cs ts fs)

  pub contract_noted : (c : Syntax) → SyntaxSorted s c → Left s [] fine (items c) (Each FunctionPlaced c.functions) (run_contract s c fresh).notes
  unfolding run_contract
  contract_noted c h =
      subst (λ (l : List Item). Left s [] fine l (Each FunctionPlaced c.functions) (run_contract s c fresh).notes) (items_split c)
      (left_after s [] fine (start_items c) (of_each function_items c.functions) (Each FunctionPlaced c.functions) (run_contract s c fresh).notes
      (functions_noted s c.functions (latest_first [] (start_items c)) (judged s [] fine (start_items c)) (run_start c) (start_noted c h)))

  -- where every `h -o t` starts with its name
  pub placed_found : (c : Syntax) → SyntaxSorted s c → Each FunctionPlaced c.functions → finding_of (run_contract s c fresh).notes ≡ judged s [] fine (items c)
  placed_found c h d = let l = contract_noted c h in l.noted.finding ∙ l.right d

  pub placed_question : (c : Syntax) → SyntaxSorted s c → Each FunctionPlaced c.functions → note (run_contract s c fresh).notes 12 ≤ 15
  placed_question c h d = question_low (run_contract s c fresh).notes (judged s [] fine (items c)) (placed_found c h d) (judged_low s [] fine (items c) tt)
