-- The table before the functions: the name, the declared names, the clauses and the initial state. Assumes nothing.
use mathlib.Core.Path.{◌≡◌, refl, sym, ap, subst, ◌∙◌}
use mathlib.Core.Bool.{true}
use mathlib.Core.List.{List, [], ◌∷◌, ◌++◌}
use Prim.Native.Nat.{ℕ, ◌*◌, ◌<◌, ◌≤◌}
use native.Mathlib.Omega.{arith}
use lib.ListN.{length, set}
use lib.Dec.{leb}
use borrow.Author.Tests.{leb-true}
use Rattle.laws.proofs.Choice.{true_false}
use Rattle.contract.specs.Tree.{Word, Clause}
use Rattle.laws.proofs.Truths.{both_left}
use Rattle.laws.specs.Lists.{every}
use Rattle.contract.specs.Limits.{max_parties, max_assets, max_fields, max_states, max_strings, max_clauses, max_nodes}
use Rattle.contract.specs.Table.{head_words, name_words, string_words, clause_words, node_words}
use Rattle.contract.specs.Encode.{zeros, padded, joined, name_row, string_row, clause_row}
use Rattle.contract_laws.proofs.Lengths.{length_joined, length_clause_row, length_padded}
use Rattle.contract.proofs.Fitting.{name_length}
use Rattle.entries.specs.Draft.{Draft, note, written, clause_count, notes_length, with_table, title}
use Rattle.reading.specs.Syntax.{Syntax}
use Rattle.reading.specs.Items.{Item, closes, of_each, declared, state_item, clause_items}
use Rattle.reading.specs.Rules.{word, known, clauses_in, keeps_rules, fine, judge}
use Rattle.reading.specs.Resolve.{latest_first}
use Rattle.reading_laws.specs.Walk.{closed}
use Rattle.accepted.proofs.Judged.{latest_append, test_holds}
use Rattle.accepted.proofs.Known.{right_item, every_latest}
use Rattle.accepted.proofs.FunctionsFit.{clauses_right}
use Rattle.reading_laws.proofs.TableSections.{Sections, clauses, replaced}
use Rattle.reading_laws.proofs.Run.{fresh, run_clauses, run_names, run_names_of, state_in, run_initial}
use Rattle.reading_laws.proofs.NotedClauses.{room, clauses_noted}
use Rattle.reading_laws.proofs.NotedRowed.{Good, Rowed, good, bad}
use Rattle.reading_laws.proofs.NotedSection.{rows_whole}
use Rattle.reading_laws.proofs.NotedContract.{fresh_noted, names_items, clauses_known, agreement_rowed, closed_noted, names_of_zeroed}
use Rattle.reading_laws.proofs.NotesKept.{written_spared, clause_count_spared, state_keeps, clauses_keep, closed_keeps}
use Rattle.reading_laws.proofs.SectionsNodes.{Writing, writing_described}
use Rattle.reading_laws.proofs.SectionsWhole.{fresh_writes, no_rows, title_writes, closed_writes, initial_writes}
use Rattle.accepted.proofs.Sorted.{SyntaxSorted}
use Rattle.reading_laws.proofs.TablesTabled.{Mid, with_clause_rows, sections_at, Tabled}
use Rattle.reading_laws.proofs.TablesEvents.{state_tabled}
use Rattle.reading_laws.proofs.TablesDeclared.{names_tabled}

-- the sections of an empty table
abbrev pub none : Mid
none = record { head = zeros head_words; title = zeros name_words; clauses = zeros (max_clauses * clause_words); functions = zeros 2752; events = zeros 192; parameters = zeros 3840 }

-- with the contract's name
abbrev pub entitled : Word → Mid
entitled w = record { head = zeros head_words; title = name_row w; clauses = zeros (max_clauses * clause_words); functions = zeros 2752; events = zeros 192; parameters = zeros 3840 }

-- and with its clauses
abbrev pub agreed : Word → List Clause → Mid
agreed w ks = with_clause_rows (entitled w) (padded (max_clauses * clause_words) (joined clause_row ks))

-- and with its initial state
abbrev pub begun_with : Word → List Clause → ℕ → Mid
begun_with w ks v =
    record { head = set (zeros head_words) 9 v; title = name_row w; clauses = padded (max_clauses * clause_words) (joined clause_row ks); functions = zeros 2752; events = zeros 192; parameters = zeros 3840 }

rules_room : (n : ℕ) (ks : List Clause) → keeps_rules n ks ≡ true → room ks ≡ true
unfolding keeps_rules
rules_room n ks e = both_left _ _ e

clause_short : (k : Clause) → leb (length k.fields) 32 ≡ true → length (clause_row k) ≡ clause_words
clause_short k e = length_clause_row k (leb-true _ _ e)

module _ (s : List ℕ) where
  fresh_tabled : Tabled s [] none [] fresh
  unfolding known every
  fresh_tabled =
      record {
        tells = record { finding = fine; noted = fresh_noted s };
        right = refl;
        writing = writing_described
            (λ i.
            zeros head_words ∷ zeros name_words ∷ no_rows (max_parties * name_words) name_row i ∷ no_rows (max_assets * name_words) name_row i ∷ no_rows (max_fields * name_words) name_row i
            ∷ no_rows (max_states * name_words) name_row i ∷ no_rows (max_strings * string_words) string_row i ∷ zeros (max_clauses * clause_words) ∷ zeros 2752 ∷ zeros 192 ∷ zeros 3840 ∷ [])
            fresh_writes;
      }

  names_place_lem : (c : Syntax) → latest_first [] (names_items s c) ≡ latest_first (latest_first (latest_first [] (declared 1 c.assets)) (declared 2 c.fields)) (declared 0 c.parties)
  names_place_lem c = latest_append [] (declared 1 c.assets) (declared 2 c.fields ++ declared 0 c.parties) ∙ latest_append (latest_first [] (declared 1 c.assets)) (declared 2 c.fields) (declared 0 c.parties)

  -- the name and the declared names
  pub names_start : (c : Syntax) → SyntaxSorted s c → Tabled s (latest_first [] (names_items s c)) (entitled (word s c.name)) [] (run_names_of s c fresh)
  names_start c h =
      let m = entitled (word s c.name) in
      let p0 = with_table fresh (title s c.name.start c.name.end fresh.table) in
      let t0 : Tabled s [] m [] p0 =
      record { tells = fresh_tabled.tells; right = fresh_tabled.right; writing = title_writes s c.name.start c.name.end fresh_tabled.writing refl (name_length (word s c.name) h.name) } in
      let b1 = latest_first [] (declared 1 c.assets) in
      let b2 = latest_first b1 (declared 2 c.fields) in
      let p1 = run_names s 1 c.assets p0 in
      let p2 = run_names s 2 c.fields p1 in
      let t1 : Tabled s b1 m [] p1 = names_tabled s 1 c.assets [] m [] p0 (omega arith) h.assets t0 in
      let t2 : Tabled s b2 m [] p2 = names_tabled s 2 c.fields b1 m [] p1 (omega arith) h.fields t1 in
      subst (λ (b : List Item). Tabled s b m [] (run_names_of s c fresh)) (sym (names_place_lem c)) (names_tabled s 0 c.parties b2 m [] p2 (omega arith) h.parties t2)

  -- ---- clauses

  -- rows in the clauses' section
  rows_written : (t : Sections) (ks : List Clause) (p q : Draft) → Writing t [] p → length p.table ≡ 24659 → Good s p.table ks q → note q.notes written ≡ note p.notes written → length q.notes ≡ notes_length
      → Writing (set t clauses (padded (max_clauses * clause_words) (joined clause_row ks))) [] q
  rows_written t ks p q w long g n z =
      let h = w.holds in
      let l : length (joined clause_row ks) ≡ length ks * clause_words = length_joined clause_row (λ k. leb (length k.fields) 32) clause_words clause_short ks g.short in
      let f : length ks ≤ 16 = g.few in
      record {
        holds = record {
          table = rows_whole t (padded (max_nodes * node_words) []) p.table q.table ks h.sized h.table long g.words f g.short;
          sized = replaced t clauses (padded (max_clauses * clause_words) (joined clause_row ks)) h.sized (length_padded (max_clauses * clause_words) (joined clause_row ks) (omega arith));
          long = h.long;
        };
        long = w.long ∙ ap (λ (k : ℕ). 3 * k) (sym n);
        size = z;
      }

  -- ---- the agreement, and what comes before the functions

  -- the items up to the names' end, to the clauses' end and to the functions
  unfoldable pub names_place : Syntax → List Item
  names_place c = latest_first [] (names_items s c)

  unfoldable pub clauses_place : Syntax → List Item
  clauses_place c = latest_first (names_place c) (of_each clause_items c.clauses)

  unfoldable pub start_place : Syntax → List Item
  start_place c = state_item c.initial ∷ closes c.closing c.clauses ∷ clauses_place c

  unfoldable pub clauses_of : Syntax → List Clause
  clauses_of c = clauses_in s (known s 0 (clauses_place c)) (known s 2 (clauses_place c)) c.clauses

  -- the pass before the functions, and the number of the initial state
  unfoldable pub start_pass : Syntax → Draft
  start_pass c = run_initial s c.initial (closed c.closing (run_clauses s c.clauses (run_names_of s c fresh)))

  unfoldable pub start_state : Syntax → ℕ
  start_state c = state_in s c.initial (closed c.closing (run_clauses s c.clauses (run_names_of s c fresh)))

  module _ (c : Syntax) (h : SyntaxSorted s c) where
    -- there is room for the clauses, and their rows stand
    rowed : Rowed s (run_names_of s c fresh).table (clauses_of c) (run_clauses s c.clauses (run_names_of s c fresh))
    unfolding names_place clauses_place clauses_of
    rowed =
        let p3 = run_names_of s c fresh in
        let p4 = run_clauses s c.clauses p3 in
        subst (λ (ps : List Word). Rowed s p3.table (clauses_in s ps (known s 2 (clauses_place c)) c.clauses) p4) (sym (clauses_known s 0 c.clauses (names_place c) (omega arith)))
        (subst (λ (xs : List Word). Rowed s p3.table (clauses_in s (known s 0 (names_place c)) xs c.clauses) p4) (sym (clauses_known s 2 c.clauses (names_place c) (omega arith)))
        (agreement_rowed s c h))

    good_rows : judge s (clauses_place c) (closes c.closing c.clauses) ≡ fine → Rowed s (run_names_of s c fresh).table (clauses_of c) (run_clauses s c.clauses (run_names_of s c fresh))
        → Good s (run_names_of s c fresh).table (clauses_of c) (run_clauses s c.clauses (run_names_of s c fresh))
    unfolding judge clauses_of
    good_rows l (good g) = g
    good_rows l (bad e r) = true_false (sym (rules_room (length (known s 0 (clauses_place c))) (clauses_of c) (test_holds _ 14 c.closing l)) ∙ r)

    clauses_tabled : judge s (clauses_place c) (closes c.closing c.clauses) ≡ fine → Tabled s (clauses_place c) (agreed (word s c.name) (clauses_of c)) [] (run_clauses s c.clauses (run_names_of s c fresh))
    unfolding names_place clauses_place
    clauses_tabled l =
        let t = names_start c h in
        let p3 = run_names_of s c fresh in
        let p4 = run_clauses s c.clauses p3 in
        let g = good_rows l rowed in
        let n4 = clauses_noted s c.clauses (names_place c) t.tells.finding p3 t.tells.noted in
        let w = rows_written (sections_at s (names_place c) (entitled (word s c.name))) (clauses_of c) p3 p4 t.writing (names_of_zeroed s c h).long g (clauses_keep written written_spared s refl refl c.clauses p3).same n4.size in
        let e : (j : ℕ) → j < 7 → known s j (names_place c) ≡ known s j (clauses_place c) = λ j i. sym (clauses_known s j c.clauses (names_place c) i) in
        record {
          tells = record { finding = _; noted = n4 };
          right = every_latest (right_item s) (names_place c) (of_each clause_items c.clauses) t.right (clauses_right s c.clauses);
          writing = writing_described
              (λ i.
              zeros head_words ∷ name_row (word s c.name) ∷ padded (max_parties * name_words) (joined name_row (e 0 (omega arith) i))
              ∷ padded (max_assets * name_words) (joined name_row (e 1 (omega arith) i)) ∷ padded (max_fields * name_words) (joined name_row (e 2 (omega arith) i))
              ∷ padded (max_states * name_words) (joined name_row (e 5 (omega arith) i)) ∷ padded (max_strings * string_words) (joined string_row (e 6 (omega arith) i))
              ∷ padded (max_clauses * clause_words) (joined clause_row (clauses_of c)) ∷ zeros 2752 ∷ zeros 192 ∷ zeros 3840 ∷ []) w;
        }

    pub closed_tabled : judge s (clauses_place c) (closes c.closing c.clauses) ≡ fine
        → Tabled s (closes c.closing c.clauses ∷ (clauses_place c)) (agreed (word s c.name) (clauses_of c)) [] (closed c.closing (run_clauses s c.clauses (run_names_of s c fresh)))
    unfolding known every clauses_of
    closed_tabled l =
        let t = clauses_tabled l in
        let p4 = run_clauses s c.clauses (run_names_of s c fresh) in
        record {
          tells = record { finding = _; noted = closed_noted s c.closing c.clauses (run_names_of s c fresh).table (clauses_place c) t.tells.finding p4 t.tells.noted rowed };
          right = t.right;
          writing = closed_writes c.closing t.writing;
        }

    pub start_tabled : judge s (clauses_place c) (closes c.closing c.clauses) ≡ fine → Tabled s (start_place c) (begun_with (word s c.name) (clauses_of c) (start_state c)) [] (start_pass c)
    unfolding start_place start_pass start_state
    start_tabled l =
        let t = state_tabled s c.initial h.initial (closed_tabled l) in
        record { tells = t.tells; right = t.right; writing = initial_writes (start_state c) t.writing }

    -- how many clauses there are
    pub clause_count_lem : judge s (clauses_place c) (closes c.closing c.clauses) ≡ fine → note (start_pass c).notes clause_count ≡ length (clauses_of c)
    unfolding start_pass
    clause_count_lem l =
        let p4 = run_clauses s c.clauses (run_names_of s c fresh) in
        let p5 = closed c.closing p4 in
        (state_keeps clause_count clause_count_spared s c.initial p5).same ∙ (closed_keeps clause_count clause_count_spared c.closing p4).same ∙ (good_rows l rowed).many
