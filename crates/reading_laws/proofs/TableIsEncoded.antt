-- Where no finding is, the pass leaves the encoded contract. Assumes nothing.
use mathlib.Core.Path.{◌≡◌, refl, sym, ap, subst, ◌∙◌}
use mathlib.Core.Bool.{true, false}
use mathlib.Core.List.{List, [], ◌∷◌, ◌++◌, append_assoc}
use Prim.Native.Nat.{ℕ, suc, ◌+◌, ◌*◌, ◌<◌, ◌≤◌, min}
use native.Mathlib.Omega.{arith}
use lib.ListN.{length, get_or}
use lib.Dec.{eqb}
use Rattle.laws.specs.Choice.{pick}
use Rattle.contract.specs.Tree as tree
use Rattle.contract.specs.Fits.{total}
use Rattle.laws.proofs.Members.{every_append}
use Rattle.laws.specs.Lists.{every}
use Rattle.contract.specs.Limits.{max_parties, max_assets, max_fields, max_states, max_strings, max_clauses, max_functions, max_events, max_nodes}
use Rattle.contract.specs.Table.{name_words, string_words, clause_words, function_words, event_words, node_words, parameter_words}
use Rattle.contract.specs.Sizes.{function_size}
use Rattle.contract.specs.Encode.{zeros, padded, joined, name_row, string_row, clause_row, head_row, function_rows, all_event_rows, function_nodes, parameter_rows, encode}
use Rattle.contract_laws.proofs.Lengths.{length_functions}
use Rattle.entries.specs.Draft.{note, limit, written, clause_count, function_count, counts}
use Rattle.reading.specs.Syntax.{Span, Function, Syntax}
use Rattle.reading.specs.Syntax as syntax
use Rattle.reading.specs.Grammar.{done, parse}
use Rattle.reading.specs.Items.{Item, uses, closes, of_each, declared, state_item, clause_items, function_items, items}
use Rattle.reading.specs.Items as kind
use Rattle.reading.specs.Rules.{word, known, count, headers, clauses_in, fine, judge, judged}
use Rattle.reading.specs.Resolve.{Names, each_of, latest_first, function_of, names_in, resolve, state_of}
use Rattle.reading_laws.specs.Walk.{nodes, closed}
use Rattle.accepted.proofs.Judged.{Clean, judged_clean, clean_first, clean_second, latest_append}
use Rattle.accepted.proofs.Counts.{tally, heads_in, tally_append, heads_append, count_latest, count_few, always_on}
use Rattle.accepted.proofs.CodeItems.{plain_heads, declared_tally, declared_heads, functions_nodes, functions_events}
use Rattle.reading.proofs.Mapped.{length_each}
use Rattle.accepted.proofs.FunctionsFit.{clauses_plain}
use Rattle.reading_laws.proofs.TableSections.{table_from, head_load, encode_whole}
use Rattle.reading_laws.proofs.Run.{fresh, run_names_of, run_clauses, run_contract}
use Rattle.reading_laws.proofs.NotedContract.{names_items}
use Rattle.reading_laws.proofs.NotesKept.{clause_count_spared, functions_keep}
use Rattle.reading_laws.proofs.SectionsWhole.{no_words, counts_whole}
use Rattle.reading.proofs.TokenKinds.{Each}
use Rattle.accepted.proofs.Sorted.{FunctionSorted, SyntaxSorted, parse_sorted}
use Rattle.accepted.proofs.Late.{plain_late, functions_late}
use Rattle.reading_laws.proofs.TablesGiven.{prefix_same, settled, late_settled, Differ, differ_items, differ_none}
use Rattle.reading_laws.proofs.TablesTabled.{Mid, nodes_after, Tabled}
use Rattle.reading_laws.proofs.TablesDeclared.{headers_kept}
use Rattle.reading_laws.proofs.TablesFunctions.{functions_mid, Shared, shared_back, headers_after, state_shared, functions_tabled}
use Rattle.reading_laws.proofs.TablesStart.{begun_with, names_place, clauses_place, start_place, clauses_of, start_pass, start_state, closed_tabled, start_tabled, clause_count_lem}

module _ (s : List ℕ) where
  headers_all : (N : Names) (fs : List Function) (b : List Item) → Each (FunctionSorted s) fs → Clean s b (of_each function_items fs)
      → length (headers s (latest_first b (of_each function_items fs))) ≡ length (headers s b) + length fs
  unfolding of_each latest_first
  headers_all N [] b h l = omega arith
  headers_all N (f ∷ fs) b h l =
      let it = function_items f in
      let is = of_each function_items fs in
      let b1 = latest_first b it in
      let e1 : length (headers s (latest_first b1 is)) ≡ length (headers s b1) + length fs = headers_all N fs b1 h.1 (clean_second s b it is l) in
      let e2 : length (headers s b1) ≡ length (headers s b) + 1 = headers_after s f b N h.0 (clean_first s b it is l) in
      ap (λ (k : List Item). length (headers s k)) (latest_append b it is) ∙ (let e : length (headers s (latest_first b1 is)) ≡ length (headers s b) + suc (length fs) = omega arith in e)

  -- ---- before the functions

  declared_settled : (k : ℕ) (xs : List Span) → every settled (declared k xs) ≡ true
  unfolding of_each every
  declared_settled k [] = refl
  declared_settled k (x ∷ xs) = declared_settled k xs

  clause_fields_none : (j : ℕ) (xs : List Span) → tally j (of_each (λ x. uses (kind.field ∷ []) x ∷ []) xs) ≡ 0
  unfolding of_each tally
  clause_fields_none j [] = refl
  clause_fields_none j (x ∷ xs) = clause_fields_none j xs

  clauses_none : (j : ℕ) (ks : List syntax.Clause) → tally j (of_each clause_items ks) ≡ 0
  unfolding of_each tally clause_items
  clauses_none j [] = refl
  clauses_none j (k ∷ ks) =
      let xs = of_each (λ x. uses (kind.field ∷ []) x ∷ []) k.fields in
      let a : tally j (xs ++ of_each clause_items ks) ≡ tally j xs + tally j (of_each clause_items ks) = tally_append j xs (of_each clause_items ks) in
      let b = clause_fields_none j k.fields in
      let c = clauses_none j ks in
      let g : tally j (xs ++ of_each clause_items ks) ≡ 0 = omega arith in
      g

  module _ (c : Syntax) where
    items_split : items c ≡ names_items s c ++ (of_each clause_items c.clauses ++ (closes c.closing c.clauses ∷ state_item c.initial ∷ of_each function_items c.functions))
    unfolding items
    items_split =
        let a = declared 1 c.assets in let f = declared 2 c.fields in let p = declared 0 c.parties in
        let r = of_each clause_items c.clauses ++ (closes c.closing c.clauses ∷ state_item c.initial ∷ of_each function_items c.functions) in
        sym (append_assoc a (f ++ p) r ∙ ap (λ (l : List Item). a ++ l) (append_assoc f p r))

    ends : latest_first [] (items c) ≡ latest_first (start_place s c) (of_each function_items c.functions)
    unfolding start_place clauses_place names_place latest_first
    ends =
        let cs = of_each clause_items c.clauses in
        let t = closes c.closing c.clauses ∷ state_item c.initial ∷ of_each function_items c.functions in
        ap (latest_first []) items_split ∙ latest_append [] (names_items s c) (cs ++ t) ∙ latest_append (names_place s c) cs t

    record Parted : Type 0 where
      names : Clean s [] (names_items s c)
      clauses : Clean s (names_place s c) (of_each clause_items c.clauses)
      closing : judge s (clauses_place s c) (closes c.closing c.clauses) ≡ fine
      initial : judge s (closes c.closing c.clauses ∷ clauses_place s c) (state_item c.initial) ≡ fine
      functions : Clean s (start_place s c) (of_each function_items c.functions)

    parted : Clean s [] (items c) → Parted
    unfolding start_place clauses_place names_place
    parted l =
        let cs = of_each clause_items c.clauses in
        let t = closes c.closing c.clauses ∷ state_item c.initial ∷ of_each function_items c.functions in
        let l0 : Clean s [] (names_items s c ++ (cs ++ t)) = subst (Clean s []) items_split l in
        let l1 = clean_second s [] (names_items s c) (cs ++ t) l0 in
        let l2 = clean_second s (names_place s c) cs t l1 in
        record {
          names = clean_first s [] (names_items s c) (cs ++ t) l0;
          clauses = clean_first s (names_place s c) cs t l1;
          closing = l2.0;
          initial = l2.1.0;
          functions = l2.1.1;
        }

    start_headers : headers s (start_place s c) ≡ []
    unfolding start_place clauses_place names_place headers
    start_headers =
        let a = declared 1 c.assets in let f = declared 2 c.fields in let p = declared 0 c.parties in
        let cs = of_each clause_items c.clauses in
        let ha : heads_in a ≡ 0 = declared_heads 1 c.assets in
        let hf : heads_in f ≡ 0 = declared_heads 2 c.fields in
        let hp : heads_in p ≡ 0 = declared_heads 0 c.parties in
        let e1 : heads_in (f ++ p) ≡ heads_in f + heads_in p = heads_append f p in
        let e2 : heads_in (a ++ (f ++ p)) ≡ heads_in a + heads_in (f ++ p) = heads_append a (f ++ p) in
        headers_kept s cs (names_place s c) (plain_heads cs (clauses_plain s c.clauses)) ∙ headers_kept s (names_items s c) [] (omega arith)

    start_count : count 7 (start_place s c) ≡ 0
    unfolding start_place clauses_place names_place count
    start_count =
        let a = declared 1 c.assets in let f = declared 2 c.fields in let p = declared 0 c.parties in
        let cs = of_each clause_items c.clauses in
        let ha : tally 7 a ≡ 0 = declared_tally 7 1 c.assets in
        let hf : tally 7 f ≡ 0 = declared_tally 7 2 c.fields in
        let hp : tally 7 p ≡ 0 = declared_tally 7 0 c.parties in
        let hc : tally 7 cs ≡ 0 = clauses_none 7 c.clauses in
        let e1 : tally 7 (f ++ p) ≡ tally 7 f + tally 7 p = tally_append 7 f p in
        let e2 : tally 7 (a ++ (f ++ p)) ≡ tally 7 a + tally 7 (f ++ p) = tally_append 7 a (f ++ p) in
        let e3 : count 7 (clauses_place s c) ≡ count 7 (names_place s c) + tally 7 cs = count_latest 7 cs (names_place s c) (always_on 7 refl cs) in
        let e4 : count 7 (names_place s c) ≡ 0 + tally 7 (a ++ (f ++ p)) = count_latest 7 (a ++ (f ++ p)) [] (always_on 7 refl (a ++ (f ++ p))) in
        let g : count 7 (clauses_place s c) ≡ 0 = omega arith in
        g

    start_differ : Parted → Differ s (start_place s c)
    unfolding start_place clauses_place names_place latest_first every
    start_differ l =
        let cs = of_each clause_items c.clauses in
        let t = closes c.closing c.clauses ∷ state_item c.initial ∷ [] in
        differ_items s t (clauses_place s c) refl (l.closing, (l.initial, tt))
        (differ_items s cs (names_place s c) (late_settled cs (plain_late cs (clauses_plain s c.clauses))) l.clauses
        (differ_items s (names_items s c) [] (names_settled c) l.names (differ_none s)))
      where
        names_settled : (c : Syntax) → every settled (names_items s c) ≡ true
        names_settled c =
            every_append settled (declared 1 c.assets) (declared 2 c.fields ++ declared 0 c.parties) (declared_settled 1 c.assets)
            (every_append settled (declared 2 c.fields) (declared 0 c.parties) (declared_settled 2 c.fields) (declared_settled 0 c.parties))

    -- ---- the whole

    module _ (h : SyntaxSorted s c) (l : Clean s [] (items c)) where
      N : Names
      N = names_in s (latest_first [] (items c))

      functions_end : List Item
      functions_end = latest_first (start_place s c) (of_each function_items c.functions)

      Fs : List tree.Function
      Fs = each_of (function_of s N) c.functions

      shared_end : Shared s N functions_end
      unfolding N functions_end
      shared_end =
          subst (Shared s N) ends
          (record {
            parties = refl;
            assets = refl;
            fields = refl;
            states = prefix_same (known s 5 (latest_first [] (items c)));
            strings = prefix_same (known s 6 (latest_first [] (items c)));
          })

      shared_start : Shared s N (start_place s c)
      unfolding functions_end
      shared_start = shared_back s N (start_place s c) (of_each function_items c.functions) (functions_late s N c.functions h.functions) shared_end

      counted : (j : ℕ) → eqb j 8 ≡ false → count j functions_end ≡ count j (start_place s c) + tally j (of_each function_items c.functions)
      unfolding functions_end
      counted j e = count_latest j (of_each function_items c.functions) (start_place s c) (always_on j e (of_each function_items c.functions))

      few_nodes : total function_size Fs ≤ max_nodes
      unfolding functions_end Fs count
      few_nodes =
          let a : count 9 (latest_first [] (items c)) ≤ max_nodes = count_few s 9 (items c) [] l (omega arith) in
          let b : count 9 (latest_first [] (items c)) ≡ count 9 functions_end = ap (count 9) ends in
          let d : count 9 functions_end ≡ count 9 (start_place s c) + tally 9 (of_each function_items c.functions) = counted 9 refl in
          let e : tally 9 (of_each function_items c.functions) ≡ total function_size Fs = functions_nodes s N c.functions h.functions in
          omega arith

      few_events : count 7 functions_end ≤ max_events
      unfolding functions_end count
      few_events =
          let a : count 7 (latest_first [] (items c)) ≤ max_events = count_few s 7 (items c) [] l (omega arith) in
          let b : count 7 (latest_first [] (items c)) ≡ count 7 functions_end = ap (count 7) ends in
          omega arith

      start_nodes : nodes (start_pass s c) ≡ 0
      start_nodes = let w = (start_tabled s c h (parted l).closing).writing.long in omega arith

      end_mid : Mid
      end_mid = functions_mid (begun_with (word s c.name) (clauses_of s c) (start_state s c)) [] [] [] (nodes (start_pass s c)) (count 7 (start_place s c)) Fs

      end_tabled : Tabled s functions_end end_mid ([] ++ joined function_nodes Fs) (run_contract s c fresh)
      unfolding functions_end Fs end_mid run_contract start_pass
      end_tabled =
          let r = parted l in
          let e : length (headers s (start_place s c)) ≡ 0 = ap length start_headers in
          let f : count 7 (start_place s c) ≡ 0 = start_count in
          let n : nodes (start_pass s c) ≡ 0 = start_nodes in
          let b : total function_size Fs ≤ max_nodes = few_nodes in
          functions_tabled s N c.functions (start_place s c) (begun_with (word s c.name) (clauses_of s c) (start_state s c)) [] [] [] [] (start_pass s c)
          (no_words 2752) (omega arith) (no_words 192) (omega arith) (omega arith) (no_words 3840) (omega arith) h.functions r.functions shared_end (start_differ r) (omega arith) (start_tabled s c h r.closing)

      clauses_same : clauses_of s c ≡ clauses_in s N.parties N.fields c.clauses
      unfolding clauses_of start_place known pick
      clauses_same = λ i. clauses_in s (shared_start.parties i) (shared_start.fields i) c.clauses

      start_state_lem : start_state s c ≡ state_of s N c.initial
      unfolding start_state start_place
      start_state_lem = let r = parted l in state_shared s N.states (closes c.closing c.clauses ∷ clauses_place s c) (closed c.closing (run_clauses s c.clauses (run_names_of s c fresh))) c.initial (closed_tabled s c h r.closing).tells r.initial shared_start.states

      -- the head's words
      names_many : (j : ℕ) → j < 7 → note (run_contract s c fresh).notes j ≡ length (known s j (latest_first [] (items c)))
      unfolding functions_end
      names_many j i = end_tabled.tells.noted.many j i ∙ ap (λ (b : List Item). length (known s j b)) (sym ends)

      clauses_many : note (run_contract s c fresh).notes clause_count ≡ length (clauses_in s N.parties N.fields c.clauses)
      unfolding run_contract start_pass
      clauses_many = (functions_keep clause_count clause_count_spared refl s refl refl refl c.functions (start_pass s c)).same ∙ clause_count_lem s c h (parted l).closing ∙ ap length clauses_same

      functions_many : note (run_contract s c fresh).notes function_count ≡ length Fs
      unfolding functions_end Fs
      functions_many =
          let a : length (headers s functions_end) ≡ length (headers s (start_place s c)) + length c.functions = headers_all N c.functions (start_place s c) h.functions (parted l).functions in
          let e : length (headers s (start_place s c)) ≡ 0 = ap length start_headers in
          let b : length Fs ≡ length c.functions = length_each (function_of s N) c.functions in
          end_tabled.tells.noted.functions ∙ (let g : length (headers s functions_end) ≡ length Fs = omega arith in g)

      events_many : note (run_contract s c fresh).notes 7 ≡ total (λ f. length f.events) Fs
      unfolding Fs
      events_many =
          let a : note (run_contract s c fresh).notes 7 ≡ min (count 7 functions_end) (limit 7) = end_tabled.tells.noted.tally 7 (omega arith) (omega arith) in
          let b : count 7 functions_end ≤ max_events = few_events in
          let d : count 7 functions_end ≡ count 7 (start_place s c) + tally 7 (of_each function_items c.functions) = counted 7 refl in
          let e : tally 7 (of_each function_items c.functions) ≡ total (λ f. length f.events) Fs = functions_events s N c.functions h.functions in
          let z : count 7 (start_place s c) ≡ 0 = start_count in
          let g : note (run_contract s c fresh).notes 7 ≡ total (λ f. length f.events) Fs = omega arith in
          g

      nodes_many : note (run_contract s c fresh).notes written ≡ total function_size Fs
      nodes_many =
          let a : nodes (run_contract s c fresh) ≡ nodes (start_pass s c) + total function_size Fs =
          nodes_after (joined function_nodes Fs) (total function_size Fs) (start_tabled s c h (parted l).closing).writing end_tabled.writing (length_functions Fs) in
          let n : nodes (start_pass s c) ≡ 0 = start_nodes in
          let g : nodes (run_contract s c fresh) ≡ total function_size Fs = omega arith in
          g

      initial_is : get_or (run_contract s c fresh).table 9 0 ≡ state_of s N c.initial
      unfolding end_mid zeros
      initial_is = head_load 9 (omega arith) end_tabled.writing.holds ∙ start_state_lem

      sections : counts (get_or (run_contract s c fresh).table 9 0) (run_contract s c fresh).notes (run_contract s c fresh).table ≡ encode (resolve s c)
      unfolding resolve head_row end_mid Fs N functions_end
      sections =
          let n = (run_contract s c fresh).notes in
          let B = latest_first [] (items c) in
          let k0 : (j : ℕ) → known s j functions_end ≡ known s j B = λ j. ap (known s j) (sym ends) in
          let nn : nodes (start_pass s c) ≡ 0 = start_nodes in
          let cc : count 7 (start_place s c) ≡ 0 = start_count in
          counts_whole (get_or (run_contract s c fresh).table 9 0) n end_tabled.writing.holds
          ∙ (λ i. table_from
          ((names_many 0 (omega arith) i ∷ names_many 1 (omega arith) i ∷ names_many 2 (omega arith) i ∷ names_many 5 (omega arith) i ∷ names_many 6 (omega arith) i
          ∷ clauses_many i ∷ functions_many i ∷ events_many i ∷ nodes_many i ∷ initial_is i ∷ [])
          ∷ name_row (word s c.name)
          ∷ padded (max_parties * name_words) (joined name_row (k0 0 i))
          ∷ padded (max_assets * name_words) (joined name_row (k0 1 i))
          ∷ padded (max_fields * name_words) (joined name_row (k0 2 i))
          ∷ padded (max_states * name_words) (joined name_row (k0 5 i))
          ∷ padded (max_strings * string_words) (joined string_row (k0 6 i))
          ∷ padded (max_clauses * clause_words) (joined clause_row (clauses_same i))
          ∷ padded (max_functions * function_words) (function_rows (nn i) (cc i) Fs)
          ∷ padded (max_events * event_words) (all_event_rows (nn i) Fs)
          ∷ padded (max_functions * parameter_words) (joined parameter_rows Fs)
          ∷ []) (padded (max_nodes * node_words) (joined function_nodes Fs)))
          ∙ sym (encode_whole (resolve s c))

  -- where no finding is, the pass leaves the encoded contract
  pub run_table : (c : Syntax) (n : ℕ) → parse s ≡ done c n → judged s [] fine (items c) ≡ fine
      → counts (get_or (run_contract s c fresh).table 9 0) (run_contract s c fresh).notes (run_contract s c fresh).table ≡ encode (resolve s c)
  run_table c n e f = sections c (parse_sorted s c n e) (judged_clean s [] fine (items c) f).1
