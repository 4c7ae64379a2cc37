-- What a declared or mentioned name does to the rows of its section. Assumes nothing.
use mathlib.Core.Path.{◌≡◌, refl, sym, ap, subst, ◌∙◌}
use mathlib.Core.Bool.{true, false}
use mathlib.Core.List.{List, [], ◌∷◌, ◌++◌, append_assoc}
use Prim.Native.Nat.{ℕ, suc, ◌+◌, ◌-◌, ◌*◌, ◌≤◌, ◌<◌}
use native.Mathlib.Omega.{arith}
use native.Mathlib.Nat.{suc-mul, mul_comm, mul-le-mul_right}
use lib.ListN.{length, get_or, set, length-append}
use lib.Seq.{sets, set-get_or}
use lib.Dec.{eqb, ltb}
use borrow.Author.Tests.{ltb-true, lt-ltb}
use Rattle.laws.specs.Choice.{pick}
use Rattle.laws.proofs.Choice.{pick_true, pick_false, by_cases}
use Rattle.tokens.specs.Tokens.{between}
use Rattle.contract.specs.Tree.{Word}
use Rattle.contract.specs.Fits.{is_name}
use Rattle.laws.specs.Lists.{every}
use Rattle.contract.specs.Limits.{max_parties, max_assets, max_fields, max_states, max_strings, max_functions, max_nodes, max_values, max_parameters, max_name, max_string}
use Rattle.contract.specs.Table.{name_words, node_words, packed_words, parameter_words, parameters_start}
use Rattle.contract.specs.Encode.{zeros, padded, joined, name_row, string_row, packed_row}
use Rattle.contract_laws.proofs.Lengths.{length_packs}
use Rattle.entries.specs.Draft.{Draft, note, limit, section_of, width_of, found, function_count, with_notes, rowed, parameter_put, entered, declared_in, declare, mention, among_in, written}
use Rattle.reading.specs.Rules.{listed}
use Rattle.reading_laws.proofs.TableSections.{Sections, widths, start_of, Holds, noted, described, stored, parameter_stored}
use Rattle.reading_laws.proofs.TableSections as section
use Rattle.reading_laws.proofs.SectionsRows.{padded_more, padded_zeros, padded_written, joined_snoc, packed_long, name_row_front, string_row_front}
use Rattle.reading_laws.proofs.NotesKept.{written_spared, function_count_spared, declared_keeps, declare_keeps, mention_keeps}
use Rattle.reading_laws.proofs.SectionsNodes.{Writing, writing_held}

-- ---- one more row

row_more : (m width z : ℕ) (row : Word → List ℕ) (xs : List Word) (w : Word) → length (joined row xs) ≡ length xs * width
    → row w ≡ (length w ∷ w) ++ zeros z → suc (length w) + z ≡ width → length xs < m
    → sets (padded (m * width) (joined row xs)) (width * length xs) (length w ∷ w) ≡ padded (m * width) (joined row (xs ++ (w ∷ [])))
row_more m width z row xs w l r e h =
    let a = mul_comm width (length xs) in
    let b = suc-mul (length xs) width in
    let c : suc (length xs) * width ≤ m * width = mul-le-mul_right width h in
    ap (λ (k : ℕ). sets (padded (m * width) (joined row xs)) k (length w ∷ w)) (a ∙ sym l)
    ∙ padded_written (m * width) (joined row xs) (length w ∷ w) z (omega arith)
    ∙ ap (λ (v : List ℕ). padded (m * width) (joined row xs ++ v)) (sym r)
    ∙ ap (padded (m * width)) (sym (joined_snoc row xs w))

-- where a row of a width ends
row_ends : (m width i n : ℕ) → n ≤ width → i < m → width * i + n ≤ m * width
row_ends m width i n a h =
    let b = mul_comm width i in
    let c = suc-mul i width in
    let d : suc i * width ≤ m * width = mul-le-mul_right width h in
    omega arith

listed_one : (k : ℕ) (w : Word) (xs : List Word) → ltb (length xs) (limit k) ≡ true → listed k w xs ≡ xs ++ (w ∷ [])
unfolding listed
listed_one k w xs e = pick_true _ _ _ e

listed_none : (k : ℕ) (w : Word) (xs : List Word) → ltb (length xs) (limit k) ≡ false → listed k w xs ≡ xs
unfolding listed
listed_none k w xs e = pick_false _ _ _ e

-- ---- kinds of names that have rows

-- the number of a kind's section, how many rows it has, and how many bytes a row holds
pub record Rows (k : ℕ) : Type 0 where
  pub number : ℕ
  pub most : ℕ
  pub long : ℕ
  pub row : Word → List ℕ
  pub front : (w : Word) → row w ≡ (length w ∷ w) ++ zeros (long - length w)
  pub place : section_of k ≡ start_of widths number
  pub width : width_of k ≡ suc long
  pub rowed : eqb (section_of k) 0 ≡ false
  pub room : get_or widths number 0 ≡ most * suc long
  pub limited : limit k ≡ most
  pub below : number < 10
  pub named : k < 7

-- with rows of names
abbrev name_rows : (k i m : ℕ) → section_of k ≡ start_of widths i → width_of k ≡ name_words → eqb (section_of k) 0 ≡ false → get_or widths i 0 ≡ m * name_words → limit k ≡ m → i < 10 → k < 7 → Rows k
name_rows k i m a b c d e f g =
    record { number = i; most = m; long = max_name; row = name_row; front = name_row_front; place = a; width = b; rowed = c; room = d; limited = e; below = f; named = g }

abbrev pub party_rows : Rows 0
party_rows = name_rows 0 section.parties max_parties refl (pick_false _ _ _ refl) refl refl refl (omega arith) (omega arith)

abbrev pub asset_rows : Rows 1
asset_rows = name_rows 1 section.assets max_assets refl (pick_false _ _ _ refl) refl refl refl (omega arith) (omega arith)

abbrev pub field_rows : Rows 2
field_rows = name_rows 2 section.fields max_fields refl (pick_false _ _ _ refl) refl refl refl (omega arith) (omega arith)

abbrev pub state_rows : Rows 5
state_rows = name_rows 5 section.states max_states refl (pick_false _ _ _ refl) refl refl refl (omega arith) (omega arith)

abbrev pub string_rows : Rows 6
string_rows =
    record { number = section.strings; most = max_strings; long = max_string; row = string_row; front = string_row_front; place = refl; width = pick_true _ _ _ refl; rowed = refl; room = refl; limited = refl; below = omega arith; named = omega arith }

-- the rows of parameters, filled up
abbrev pub parameter_section : List ℕ → List ℕ
parameter_section l = padded (max_functions * parameter_words) l

-- a part of them, filled up
pub section_filled : (n : ℕ) (l k : List ℕ) → length k ≤ n → length l + n ≤ max_functions * parameter_words → parameter_section (l ++ k) ≡ parameter_section (l ++ padded n k)
unfolding padded
section_filled n l k h b =
    let a = length-append l k in
    sym (padded_zeros (max_functions * parameter_words) (l ++ k) (n - length k) (omega arith)) ∙ ap parameter_section (append_assoc l k (zeros (n - length k)))

row_size : (w : Word) → length (packed_row w) ≡ packed_words
unfolding packed_row
row_size w = ap suc (length_packs 4 w)

module _ (s : List ℕ) where
  module _ {k : ℕ} (K : Rows k) where
    -- its section with these names
    abbrev pub rows_of : List Word → List ℕ
    rows_of xs = padded (K.most * suc K.long) (joined K.row xs)

    enters : (i a e : ℕ) (p : Draft) → (entered s k i a e p).table ≡ sets p.table (start_of widths K.number + suc K.long * i) (length (between s a e) ∷ between s a e)
    unfolding entered rowed
    enters i a e p = pick_false _ _ _ K.rowed ∙ (λ x. sets p.table (K.place x + K.width x * i) (length (between s a e) ∷ between s a e))

    -- one more name, if there is room
    one_more : {t : Sections} {n : List ℕ} (p q : Draft) (xs : List Word) (i a e : ℕ) → i ≡ length xs → get_or t K.number [] ≡ rows_of xs
        → length (joined K.row xs) ≡ length xs * suc K.long → length (between s a e) ≤ K.long → Holds t n p → Holds t n q
        → Holds (set t K.number (rows_of (listed k (between s a e) xs))) n (pick (ltb i (limit k)) (entered s k i a e p) q)
    one_more {t} {n} p q xs i a e c r l f g h =
        by_cases (λ (d : Draft). Holds (set t K.number (rows_of (listed k (between s a e) xs))) n d) _ _ _
        (λ y.
        let z : ltb (length xs) (limit k) ≡ true = ap (λ (i : ℕ). ltb i (limit k)) (sym c) ∙ y in
        let m : length xs < K.most = subst (λ (x : ℕ). length xs < x) K.limited (ltb-true (length xs) (limit k) z) in
        let u : suc K.long * i + suc (length w) ≤ K.most * suc K.long = row_ends K.most (suc K.long) i (suc (length w)) (omega arith) (omega arith) in
        stored (entered s k i a e p) K.number (suc K.long * i) (start_of widths K.number + suc K.long * i) (length w ∷ w) K.below refl
        (subst (λ (x : ℕ). suc K.long * i + suc (length w) ≤ x) (sym K.room) u) (enters i a e p)
        ((λ x. sets (r x) (suc K.long * c x) (length w ∷ w)) ∙ row_more K.most (suc K.long) (K.long - length w) K.row xs w l (K.front w) (omega arith) m
        ∙ ap rows_of (sym (listed_one k w xs z))) g)
        (λ y.
        let z : ltb (length xs) (limit k) ≡ false = ap (λ (i : ℕ). ltb i (limit k)) (sym c) ∙ y in
        described (sym (set-get_or t K.number []) ∙ ap (set t K.number) (r ∙ ap rows_of (sym (listed_none k w xs z)))) h)
      where
        w : Word
        w = between s a e

    pub declare_writes : {t : Sections} {ns : List ℕ} {p : Draft} (xs : List Word) (a e : ℕ) → Writing t ns p → get_or t K.number [] ≡ rows_of xs → note p.notes k ≡ length xs
        → length (joined K.row xs) ≡ length xs * suc K.long → length (between s a e) ≤ K.long
        → Writing (set t K.number (rows_of (listed k (between s a e) xs))) ns (declare s k a e p)
    unfolding declare
    declare_writes {t} {ns} {p} xs a e w r c l f =
        let h = noted (declared_in s k a e p.notes) w.holds in
        writing_held (declare s k a e p) (one_more _ _ xs (note p.notes k) a e c r l f h h) (declare_keeps written written_spared s k a e p K.named) w

    pub mention_writes : {t : Sections} {ns : List ℕ} {p : Draft} (xs : List Word) (a e o : ℕ) → Writing t ns p → get_or t K.number [] ≡ rows_of xs → note p.notes k ≡ length xs
        → length (joined K.row xs) ≡ length xs * suc K.long → length (between s a e) ≤ K.long
        → Writing (set t K.number (rows_of (pick (among_in s p.notes k (between s a e)) xs (listed k (between s a e) xs)))) ns (mention s k a e o p)
    unfolding mention
    mention_writes {t} {ns} {p} xs a e o w r c l f =
        writing_held (mention s k a e o p)
        (by_cases (λ (q : Draft). Holds (set t K.number (rows_of (pick (among_in s p.notes k (between s a e)) xs (listed k (between s a e) xs)))) (padded (max_nodes * node_words) ns) q) _ _ _
        (λ x. described (sym (set-get_or t K.number []) ∙ ap (set t K.number) (r ∙ ap rows_of (sym (pick_true _ _ _ x)))) w.holds)
        (λ x.
        described (ap (λ (ys : List Word). set t K.number (rows_of ys)) (sym (pick_false _ _ _ x)))
        (one_more p _ xs (note p.notes k) a e c r l f w.holds (noted (found 11 o p.notes) w.holds))))
        (mention_keeps written written_spared s k a e o p K.named) w

  -- ---- parameters

  -- the table after one more parameter of function i: the rows before its kind's are l, x of them for this function
  parameter_entered : (k i x j a e : ℕ) (l : List ℕ) (xs : List Word) (p : Draft) → eqb (section_of k) 0 ≡ true → pick (eqb k 4) max_values 0 ≡ x → note p.notes function_count ≡ i + 1 → i < max_functions
      → length l ≡ parameter_words * i + packed_words * x → length (joined packed_row xs) ≡ length xs * packed_words → j ≡ length xs
      → (entered s k j a e p).table ≡ sets p.table (parameters_start + length (l ++ joined packed_row xs)) (packed_row (between s a e))
  unfolding entered parameter_put
  parameter_entered k i x j a e l xs p z y c m n o q =
      let b = length-append l (joined packed_row xs) in
      let d : note p.notes function_count - 1 ≡ i = omega (arith, c) in
      let g : parameters_start + packed_words * ((max_values + max_parameters) * (note p.notes function_count - 1) + pick (eqb k 4) max_values 0 + j) ≡ parameters_start + length (l ++ joined packed_row xs) =
      omega (arith, y, n, o, q, b, d) in
      pick_true _ _ _ z ∙ pick_true _ _ _ (lt-ltb (note p.notes function_count - 1) max_functions (omega (arith, d, m))) ∙ ap (λ (r : ℕ). sets p.table r (packed_row (between s a e))) g

  pub parameter_writes : {t : Sections} {ns : List ℕ} {p : Draft} (k i x : ℕ) (l : List ℕ) (xs : List Word) (a e : ℕ) → Writing t ns p → eqb (section_of k) 0 ≡ true → k < 7 → pick (eqb k 4) max_values 0 ≡ x
      → x + limit k ≤ max_values + max_parameters → note p.notes function_count ≡ i + 1 → i < max_functions → length l ≡ parameter_words * i + packed_words * x → every is_name xs ≡ true
      → get_or t section.parameters [] ≡ parameter_section (l ++ joined packed_row xs) → note p.notes k ≡ length xs
      → Writing (set t section.parameters (parameter_section (l ++ joined packed_row (listed k (between s a e) xs)))) ns (declare s k a e p)
  unfolding declare
  parameter_writes {t} {ns} {p} k i x l xs a e w z u y v c m n f r d =
      writing_held (declare s k a e p)
      (by_cases (λ (q : Draft). Holds (set t section.parameters (parameter_section (l ++ joined packed_row (listed k (between s a e) xs)))) (padded (max_nodes * node_words) ns) q) _ _ _
      (λ b.
      let g : ltb (length xs) (limit k) ≡ true = ap (λ (i : ℕ). ltb i (limit k)) (sym d) ∙ b in
      let o : length xs < limit k = ltb-true (length xs) (limit k) g in
      let j = length-append l (joined packed_row xs) in
      let long : length (joined packed_row xs) ≡ length xs * packed_words = packed_long xs f in
      parameter_stored (entered s k (note p.notes k) a e q) (length (l ++ joined packed_row xs)) (packed_row (between s a e))
      (parameter_entered k i x (note p.notes k) a e l xs q z y ((declared_keeps function_count function_count_spared s k a e p.notes).same ∙ c) m n long d)
      (ap (λ (b : List ℕ). sets b (length (l ++ joined packed_row xs)) (packed_row (between s a e))) r
      ∙ padded_more (max_functions * parameter_words) (l ++ joined packed_row xs) (packed_row (between s a e)) (omega (arith, row_size (between s a e), j, long, n, m, o, v))
      ∙ ap parameter_section (append_assoc l (joined packed_row xs) (packed_row (between s a e)) ∙ ap (λ (b : List ℕ). l ++ b) (sym (joined_snoc packed_row xs (between s a e)) ∙ ap (joined packed_row) (sym (listed_one k (between s a e) xs g)))))
      h)
      (λ b.
      let g : ltb (length xs) (limit k) ≡ false = ap (λ (i : ℕ). ltb i (limit k)) (sym d) ∙ b in
      described (sym (set-get_or t section.parameters []) ∙ ap (set t section.parameters) (r ∙ ap (λ (ys : List Word). parameter_section (l ++ joined packed_row ys)) (sym (listed_none k (between s a e) xs g)))) h))
      (declare_keeps written written_spared s k a e p u) w
    where
      q : Draft
      q = with_notes p (declared_in s k a e p.notes)

      h : Holds t (padded (max_nodes * node_words) ns) q
      h = noted (declared_in s k a e p.notes) w.holds
