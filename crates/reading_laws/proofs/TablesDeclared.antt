-- Declared names and a function's head, as the table holds them. Assumes nothing.
use mathlib.Core.Path.{◌≡◌, refl, ◌∙◌}
use mathlib.Core.Bool.{true}
use mathlib.Core.List.{List, [], ◌∷◌, ◌++◌}
use Prim.Native.Nat.{ℕ, zero, suc, ◌+◌, ◌*◌, ◌<◌, ◌≤◌}
use native.Mathlib.Omega.{arith}
use lib.ListN.{length}
use Rattle.laws.specs.Choice.{pick}
use lib.Dec.{eqb}
use Rattle.laws.proofs.Truths.{both_left, both_right, both_true}
use Rattle.laws.specs.Lists.{every}
use Rattle.contract.specs.Limits.{max_functions, max_values, max_parameters}
use Rattle.contract.specs.Table.{function_words, packed_words, parameter_words}
use Rattle.contract.specs.Encode.{joined, packed_row}
use Rattle.contract.proofs.Fitting.{name_length}
use Rattle.entries.specs.Draft.{Draft, note, limit, function_count, with_notes, declare, party_used, number_in}
use Rattle.reading.specs.Syntax.{Span, Function}
use Rattle.reading.specs.Grammar.{is_one_of}
use Rattle.reading.specs.Items.{Item, declares, mentions, uses, counts, opens, heads, closes, of_each, declared, state_item}
use Rattle.reading.specs.Rules.{word, known, count, headers}
use Rattle.reading.specs.Resolve.{latest_first}
use Rattle.accepted.proofs.Known.{right_item, known_right}
use Rattle.accepted.proofs.Counts.{heads_in}
use Rattle.reading_laws.proofs.Run.{run_names, run_state, state_in, run_head}
use Rattle.reading_laws.proofs.NotedActs.{party_noted}
use Rattle.reading_laws.proofs.NotedNames.{declare_noted}
use Rattle.reading_laws.proofs.NotedTrees.{function_head_noted}
use Rattle.reading_laws.proofs.SectionsRows.{name_long}
use Rattle.reading_laws.proofs.SectionsNodes.{Writing}
use Rattle.reading_laws.proofs.SectionsNames.{party_rows, asset_rows, field_rows, declare_writes, parameter_section, parameter_writes}
use Rattle.reading_laws.proofs.SectionsFunctions.{function_section, begun_row, head_writes}
use Rattle.reading_laws.proofs.SectionsWhole.{party_used_writes}
use Rattle.accepted.proofs.Sorted.{is_named}
use Rattle.reading_laws.proofs.TablesTabled.{Mid, with_function_rows, with_parameter_rows, sections_at, Tabled}
use Rattle.reading_laws.proofs.TablesEvents.{state_tabled}

module _ (s : List ℕ) where
  declare_written : (k : ℕ) (x : Span) (b : List Item) (m : Mid) (ns : List ℕ) (p : Draft) → k < 3 → is_named s x ≡ true → Tabled s b m ns p
      → Writing (sections_at s (declares k x ∷ b) m) ns (declare s k x.start x.end p)
  unfolding known pick
  declare_written zero x b m ns p l h t =
      declare_writes s party_rows (known s 0 b) x.start x.end t.writing refl (t.tells.noted.many 0 (omega arith)) (name_long (known s 0 b) (known_right s 0 b t.right)) (name_length (word s x) h)
  declare_written (suc zero) x b m ns p l h t =
      declare_writes s asset_rows (known s 1 b) x.start x.end t.writing refl (t.tells.noted.many 1 (omega arith)) (name_long (known s 1 b) (known_right s 1 b t.right)) (name_length (word s x) h)
  declare_written (suc (suc zero)) x b m ns p l h t =
      declare_writes s field_rows (known s 2 b) x.start x.end t.writing refl (t.tells.noted.many 2 (omega arith)) (name_long (known s 2 b) (known_right s 2 b t.right)) (name_length (word s x) h)
  declare_written (suc (suc (suc k))) x b m ns p l h t = absurd (omega arith)

  right_declared : (k : ℕ) (x : Span) → k < 5 → is_named s x ≡ true → right_item s (declares k x) ≡ true
  unfolding pick
  right_declared zero x l h = h
  right_declared (suc zero) x l h = h
  right_declared (suc (suc zero)) x l h = h
  right_declared (suc (suc (suc zero))) x l h = h
  right_declared (suc (suc (suc (suc zero)))) x l h = h
  right_declared (suc (suc (suc (suc (suc k))))) x l h = absurd (omega arith)

  pub names_tabled : (k : ℕ) (xs : List Span) (b : List Item) (m : Mid) (ns : List ℕ) (p : Draft) → k < 3 → every (is_named s) xs ≡ true → Tabled s b m ns p
      → Tabled s (latest_first b (declared k xs)) m ns (run_names s k xs p)
  unfolding run_names of_each latest_first every
  names_tabled k [] b m ns p l h t = t
  names_tabled k (x ∷ xs) b m ns p l h t =
      let hx = both_left (is_named s x) (every (is_named s) xs) h in
      names_tabled k xs (declares k x ∷ b) m ns (declare s k x.start x.end p) l (both_right (is_named s x) (every (is_named s) xs) h)
      (record {
        tells = record { finding = _; noted = declare_noted s b t.tells.finding p t.tells.noted k x (omega arith) };
        right = both_true _ _ (right_declared k x (omega arith) hx) t.right;
        writing = declare_written k x b m ns p l hx t;
      })

  -- ---- parameters

  -- where the names of a kind of parameters stand in the rows of function i, behind the rows l
  pub record Room (k i : ℕ) (l : List ℕ) : Type 0 where
    pub before : ℕ
    pub later : 2 < k
    pub named : k < 5
    pub first : pick (eqb k 4) max_values 0 ≡ before
    pub fits : before + limit k ≤ max_values + max_parameters
    pub function : i < max_functions
    pub long : length l ≡ parameter_words * i + packed_words * before

  -- the sections with these names
  abbrev pub with_names : Mid → ℕ → List ℕ → List Item → Mid
  with_names m k l b = with_parameter_rows m (parameter_section (l ++ joined packed_row (known s k b)))

  parameter_written : (k i : ℕ) (l : List ℕ) (x : Span) (b : List Item) (m : Mid) (ns : List ℕ) (p : Draft) → Room k i l → length (headers s b) ≡ i + 1 → Tabled s b (with_names m k l b) ns p
      → Writing (sections_at s (declares k x ∷ b) (with_names m k l (declares k x ∷ b))) ns (declare s k x.start x.end p)
  unfolding known pick
  parameter_written zero i l x b m ns p r c t = absurd (omega (arith, r.later, r.named))
  parameter_written (suc zero) i l x b m ns p r c t = absurd (omega (arith, r.later, r.named))
  parameter_written (suc (suc zero)) i l x b m ns p r c t = absurd (omega (arith, r.later, r.named))
  parameter_written (suc (suc (suc zero))) i l x b m ns p r c t =
      parameter_writes s 3 i r.before l (known s 3 b) x.start x.end t.writing refl (omega arith) r.first r.fits (t.tells.noted.functions ∙ c) r.function r.long
      (known_right s 3 b t.right) refl (t.tells.noted.many 3 (omega arith))
  parameter_written (suc (suc (suc (suc zero)))) i l x b m ns p r c t =
      parameter_writes s 4 i r.before l (known s 4 b) x.start x.end t.writing refl (omega arith) r.first r.fits (t.tells.noted.functions ∙ c) r.function r.long
      (known_right s 4 b t.right) refl (t.tells.noted.many 4 (omega arith))
  parameter_written (suc (suc (suc (suc (suc k))))) i l x b m ns p r c t = absurd (omega (arith, r.later, r.named))

  pub parameters_tabled : (k i : ℕ) (l : List ℕ) (xs : List Span) (b : List Item) (m : Mid) (ns : List ℕ) (p : Draft) → Room k i l → length (headers s b) ≡ i + 1 → every (is_named s) xs ≡ true
      → Tabled s b (with_names m k l b) ns p → Tabled s (latest_first b (declared k xs)) (with_names m k l (latest_first b (declared k xs))) ns (run_names s k xs p)
  unfolding run_names of_each latest_first every headers
  parameters_tabled k i l [] b m ns p r c e t = t
  parameters_tabled k i l (x ∷ xs) b m ns p r c e t =
      let ex = both_left (is_named s x) (every (is_named s) xs) e in
      parameters_tabled k i l xs (declares k x ∷ b) m ns (declare s k x.start x.end p) r c (both_right (is_named s x) (every (is_named s) xs) e)
      (record {
        tells = record { finding = _; noted = declare_noted s b t.tells.finding p t.tells.noted k x r.named };
        right = both_true _ _ (right_declared k x r.named ex) t.right;
        writing = parameter_written k i l x b m ns p r c t;
      })

  -- how many functions and events there were
  pub headers_kept : (is b : List Item) → heads_in is ≡ 0 → headers s (latest_first b is) ≡ headers s b
  unfolding headers heads_in latest_first
  headers_kept [] b e = refl
  headers_kept (declares j x ∷ is) b e = headers_kept is (declares j x ∷ b) e
  headers_kept (mentions j x p ∷ is) b e = headers_kept is (mentions j x p ∷ b) e
  headers_kept (uses ks x ∷ is) b e = headers_kept is (uses ks x ∷ b) e
  headers_kept (counts j p ∷ is) b e = headers_kept is (counts j p ∷ b) e
  headers_kept (opens ∷ is) b e = headers_kept is (opens ∷ b) e
  headers_kept (heads p q a f ∷ is) b e = absurd (omega arith)
  headers_kept (closes p cs ∷ is) b e = headers_kept is (closes p cs ∷ b) e

  pub declared_count : (j k : ℕ) (xs : List Span) (b : List Item) → count j (latest_first b (declared k xs)) ≡ count j b
  unfolding of_each count latest_first
  declared_count j k [] b = refl
  declared_count j k (x ∷ xs) b = declared_count j k xs (declares k x ∷ b)

  -- a function's head
  abbrev pub head_items : Function → List Item
  head_items f = state_item f.state ∷ uses (0 ∷ []) f.party ∷ heads f.place f.state f.party f.name ∷ []

  pub head_tabled : (f : Function) (b : List Item) (m : Mid) (ns rows : List ℕ) (p : Draft) → m.functions ≡ function_section rows → length rows ≡ length (headers s b) * function_words
      → length (headers s b) < max_functions → is_named s f.state ≡ true → is_named s f.name ≡ true → Tabled s b m ns p
      → Tabled s (latest_first b (head_items f)) (with_function_rows m (function_section (rows ++ begun_row (state_in s f.state p) (number_in s (run_state s f.state p).notes 0 (word s f.party)) (word s f.name)))) ns (run_head s f p)
  unfolding latest_first every headers known is_one_of pick
  head_tabled f b m ns rows p er el few hq hf t =
      let p1 = run_state s f.state p in
      let p2 = with_notes p1 (party_used s f.party.start f.party.end p1.notes) in
      let b1 = state_item f.state ∷ b in
      let t1 : Tabled s b1 m ns p1 = state_tabled s f.state hq t in
      let n2 = party_noted s b1 t1.tells.finding p1.notes t1.tells.noted f.party in
      let c2 : note p2.notes function_count ≡ length (headers s b) = n2.functions in
      record {
        tells = record { finding = _; noted = function_head_noted s f b t.tells.finding p t.tells.noted };
        right = t1.right;
        writing = head_writes s rows f.place (state_in s f.state p) (number_in s p1.notes 0 (word s f.party)) f.name.start f.name.end
            (party_used_writes s f.party.start f.party.end t1.writing) er (omega arith) (omega arith) (name_length (word s f.name) hf);
      }
