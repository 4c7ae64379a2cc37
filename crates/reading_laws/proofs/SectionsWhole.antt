-- The table at the start and at the end, its head and the contract's name; acts that write nothing. Assumes nothing.
use mathlib.Core.Path.{◌≡◌, refl, sym, ap, ◌∙◌}
use mathlib.Core.List.{List, [], ◌∷◌, ◌++◌}
use Prim.Native.Nat.{ℕ, suc, ◌+◌, ◌-◌, ◌*◌, ◌≤◌}
use native.Mathlib.Omega.{arith}
use native.Mathlib.Nat.{zero-add}
use lib.ListN.{length, get_or, set, take, drop_of_length-le}
use lib.Seq.{sets, sets-eq}
use Rattle.laws.proofs.Choice.{by_cases}
use Rattle.tokens.specs.Tokens.{between}
use Rattle.contract.proofs.Zeros.{length_zeros, zeros_more}
use Rattle.contract.specs.Limits.{max_functions, max_nodes, max_name}
use Rattle.contract.specs.Table.{name_words, node_words, parameter_words, name_start}
use Rattle.contract.specs.Encode.{zeros, padded, joined, name_row}
use Rattle.contract_laws.proofs.Lengths.{length_padded}
use Rattle.entries.specs.Draft.{Draft, note, with_notes, with_table, rowed, title, counts, party_used, written, clause_count, function_count, notes_length, body_nodes, events_here}
use Rattle.reading_laws.specs.Walk.{closed, one_more_event, begun}
use Rattle.reading_laws.proofs.Run.{fresh}
use Rattle.reading_laws.proofs.TableSections.{Sections, widths, table_from, whole, lengths, start_of, Holds, unmoved, wide, stored}
use Rattle.reading_laws.proofs.TableSections as section
use Rattle.reading_laws.proofs.SectionsRows.{zero_word, sets_zeros, padded_none, name_row_front}
use Rattle.reading_laws.proofs.NotesKept.{Keeps, keeps_all, set_keeps, written_spared, closed_keeps, party_keeps}
use Rattle.reading_laws.proofs.SectionsNodes.{Writing, writing_held, writing_noted, noting_writes}

-- ---- the contract's name

title_is : (s : List ℕ) (a e : ℕ) (t : List ℕ) → title s a e t ≡ sets t name_start (length (between s a e) ∷ between s a e)
unfolding title rowed
title_is s a e t = refl

pub title_writes : {t : Sections} {ns : List ℕ} {p : Draft} (s : List ℕ) (a e : ℕ) → Writing t ns p → get_or t section.title [] ≡ zeros name_words → length (between s a e) ≤ max_name
    → Writing (set t section.title (name_row (between s a e))) ns (with_table p (title s a e p.table))
title_writes {t} {ns} {p} s a e w r f =
    let q = with_table p (title s a e p.table) in
    writing_held q (stored q section.title 0 name_start (length (between s a e) ∷ between s a e) (omega arith) refl (omega arith) (title_is s a e p.table) same w.holds) (keeps_all written p.notes) w
  where
    same : sets (get_or t section.title []) 0 (length (between s a e) ∷ between s a e) ≡ name_row (between s a e)
    same =
        let z : name_words - suc (length (between s a e)) ≡ max_name - length (between s a e) = omega arith in
        (λ x. sets (r x) 0 (length (between s a e) ∷ between s a e))
        ∙ sets_zeros name_words (length (between s a e) ∷ between s a e) (omega arith)
        ∙ ap (λ (k : ℕ). (length (between s a e) ∷ between s a e) ++ zeros k) z
        ∙ sym (name_row_front (between s a e))

-- ---- the head

pub initial_writes : {t : Sections} {ns : List ℕ} {p : Draft} (v : ℕ) → Writing t ns p
    → Writing (set t section.head (set (get_or t section.head []) 9 v)) ns (with_table p (set p.table 9 v))
initial_writes {t} {ns} {p} v w =
    writing_held (with_table p (set p.table 9 v)) (stored (with_table p (set p.table 9 v)) section.head 9 9 (v ∷ []) (omega arith) refl (omega arith) refl refl w.holds) (keeps_all written p.notes) w

head_words : List ℕ → ℕ → List ℕ
head_words n v =
    note n 0 ∷ note n 1 ∷ note n 2 ∷ note n 5 ∷ note n 6 ∷ note n clause_count ∷ note n function_count ∷ note n 7 ∷ note n written ∷ v ∷ []

-- ten words over ten
all_over : (l vs : List ℕ) → length l ≡ length vs → sets l 0 vs ≡ vs ++ []
all_over l vs e =
    let z : 0 + length vs ≡ length vs = omega arith in
    sets-eq vs l 0 (omega arith) ∙ ap (λ (r : List ℕ). vs ++ r) (drop_of_length-le l {i = 0 + length vs} (omega arith))

pub counts_whole : {t : Sections} {ns : List ℕ} {p : Draft} (v : ℕ) (n : List ℕ) → Holds t ns p
    → counts v n p.table
    ≡ table_from (set t section.head (note n 0 ∷ note n 1 ∷ note n 2 ∷ note n 5 ∷ note n 6 ∷ note n clause_count ∷ note n function_count ∷ note n 7 ∷ note n written ∷ v ∷ [])) ns
unfolding counts head_words
counts_whole {t} {ns} {p} v n h =
    (stored (with_table p (counts v n p.table)) section.head 0 0 (head_words n v) (omega arith) refl (omega arith) refl
    (all_over (get_or t section.head []) (head_words n v) (wide t section.head h.sized)) h).table

-- ---- the start

-- zeros are no rows, filled up
pub no_rows : {A : Type 0} (n : ℕ) (row : A → List ℕ) → zeros n ≡ padded n (joined row [])
unfolding joined
no_rows n row = sym (padded_none n)

pub no_words : (n : ℕ) → zeros n ≡ padded n []
no_words n = sym (padded_none n)

-- sections of zeros
abbrev pub zeroed : List ℕ → Sections
zeroed [] = []
zeroed (n ∷ ns) = zeros n ∷ zeroed ns

zeroed_whole : (ns : List ℕ) (m : ℕ) → zeros (start_of ns (length ns) + m) ≡ whole (zeroed ns) (zeros m)
zeroed_whole [] m = ap zeros (zero-add m)
zeroed_whole (n ∷ ns) m =
    let e : n + start_of ns (length ns) + m ≡ n + (start_of ns (length ns) + m) = omega arith in
    ap zeros e ∙ zeros_more n (start_of ns (length ns) + m) ∙ ap (λ (r : List ℕ). zeros n ++ r) (zeroed_whole ns m)

zeroed_lengths : (ns : List ℕ) → lengths (zeroed ns) ≡ ns
zeroed_lengths [] = refl
zeroed_lengths (n ∷ ns) = λ i. length_zeros n i ∷ zeroed_lengths ns i

pub fresh_writes : Writing (zeroed widths) [] fresh
fresh_writes =
    record {
      holds = record {
        table = zeroed_whole (take section.parameters widths) (max_nodes * node_words + max_functions * parameter_words)
            ∙ ap (whole (zeroed (take section.parameters widths)))
            (zeros_more (max_nodes * node_words) (max_functions * parameter_words) ∙ ap (λ (l : List ℕ). l ++ zeros (max_functions * parameter_words)) (no_words (max_nodes * node_words)));
        sized = zeroed_lengths widths;
        long = length_padded (max_nodes * node_words) [] (omega arith);
      };
      long = ap (λ (k : ℕ). 3 * k) (sym (zero_word notes_length written));
      size = length_zeros notes_length;
    }

-- ---- acts that write nothing

closed_table : (o : ℕ) (p : Draft) → (closed o p).table ≡ p.table
unfolding closed
closed_table o p =
    by_cases (λ (q : Draft). q.table ≡ p.table) _ _ _ (λ _. by_cases (λ (q : Draft). q.table ≡ p.table) _ _ _ (λ _. refl) (λ _. refl)) (λ _. refl)

pub closed_writes : {t : Sections} {ns : List ℕ} {p : Draft} (o : ℕ) → Writing t ns p → Writing t ns (closed o p)
closed_writes {t} {ns} {p} o w = writing_held (closed o p) (unmoved (closed o p) (closed_table o p) w.holds) (closed_keeps written written_spared o p) w

pub party_used_writes : {t : Sections} {ns : List ℕ} {p : Draft} (s : List ℕ) (a e : ℕ) → Writing t ns p → Writing t ns (with_notes p (party_used s a e p.notes))
party_used_writes {p = p} s a e w = writing_noted (party_used s a e p.notes) (party_keeps written written_spared s a e p.notes) w

pub one_more_writes : {t : Sections} {ns : List ℕ} {p : Draft} (s : List ℕ) → Writing t ns p → Writing t ns (with_notes p (one_more_event s p.notes))
unfolding one_more_event
one_more_writes {p = p} s w =
    writing_noted (one_more_event s p.notes) (by_cases (Keeps written p.notes) _ _ _ (λ _. set_keeps written p.notes events_here _ refl) (λ _. keeps_all written p.notes)) w

pub begun_writes : {t : Sections} {ns : List ℕ} {p : Draft} (s : List ℕ) → Writing t ns p → Writing t ns (begun s p)
begun_writes s w = noting_writes events_here 0 refl (noting_writes body_nodes 0 refl (noting_writes 8 0 refl w))
