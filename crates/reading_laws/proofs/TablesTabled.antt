-- A pass whose table holds what the items so far bring, with these nodes. Assumes nothing.
use mathlib.Core.Path.{◌≡◌, refl, ap, ◌∙◌}
use mathlib.Core.Bool.{true}
use mathlib.Core.List.{List, [], ◌∷◌, ◌++◌, append_assoc}
use Prim.Native.Nat.{ℕ, ◌+◌, ◌-◌, ◌*◌, ◌<◌}
use native.Mathlib.Omega.{arith}
use lib.ListN.{length, set, length-append}
use Rattle.laws.specs.Choice.{pick}
use Rattle.contract.specs.Fits.{is_name, is_string}
use Rattle.laws.specs.Lists.{every}
use Rattle.contract.specs.Limits.{max_parties, max_assets, max_fields, max_states, max_strings, max_nodes}
use Rattle.contract.specs.Table.{name_words, string_words}
use Rattle.contract.specs.Encode.{node, padded, joined, name_row, string_row}
use Rattle.contract.proofs.Fitting.{name_length, string_length}
use Rattle.entries.specs.Draft.{Draft, mention, among_in, put}
use Rattle.reading.specs.Syntax.{Span}
use Rattle.reading.specs.Items.{Item, mentions}
use Rattle.reading.specs.Rules.{Finding, word, known, is_among, listed}
use Rattle.reading_laws.specs.Walk.{nodes}
use Rattle.reading_laws.proofs.NotesSay.{Noted}
use Rattle.accepted.proofs.Known.{right_item, known_right}
use Rattle.reading_laws.proofs.TableSections.{Sections}
use Rattle.reading_laws.proofs.TableSections as section
use Rattle.reading_laws.proofs.NotedFind.{number_noted, among_noted}
use Rattle.reading_laws.proofs.SectionsRows.{name_long, string_long}
use Rattle.reading_laws.proofs.SectionsNodes.{Writing, writing_same, writing_described, put_writes}
use Rattle.reading_laws.proofs.SectionsNames.{state_rows, string_rows, rows_of, mention_writes}
use Rattle.reading_laws.proofs.TablesNames.{Looks}

-- the sections that no name of the whole contract brings
pub record Mid : Type 0 where
  pub head : List ℕ
  pub title : List ℕ
  pub clauses : List ℕ
  pub functions : List ℕ
  pub events : List ℕ
  pub parameters : List ℕ

abbrev pub with_clause_rows : Mid → List ℕ → Mid
with_clause_rows m l = record { head = m.head; title = m.title; clauses = l; functions = m.functions; events = m.events; parameters = m.parameters }

abbrev pub with_function_rows : Mid → List ℕ → Mid
with_function_rows m l = record { head = m.head; title = m.title; clauses = m.clauses; functions = l; events = m.events; parameters = m.parameters }

abbrev pub with_event_rows : Mid → List ℕ → Mid
with_event_rows m l = record { head = m.head; title = m.title; clauses = m.clauses; functions = m.functions; events = l; parameters = m.parameters }

abbrev pub with_parameter_rows : Mid → List ℕ → Mid
with_parameter_rows m l = record { head = m.head; title = m.title; clauses = m.clauses; functions = m.functions; events = m.events; parameters = l }

-- ---- nodes

pub nodes_same : {t u : Sections} {ns : List ℕ} {p q : Draft} → Writing t ns p → Writing u ns q → nodes q ≡ nodes p
nodes_same {ns = ns} {p = p} {q = q} a b = let x = a.long in let y = b.long in omega arith

-- so many nodes further
pub nodes_after : {t u : Sections} {ns : List ℕ} {p q : Draft} (xs : List ℕ) (n : ℕ) → Writing t ns p → Writing u (ns ++ xs) q → length xs ≡ n * 3 → nodes q ≡ nodes p + n
nodes_after {ns = ns} {p = p} {q = q} xs n a b l =
    let x = a.long in let y = b.long in
    let z : length (ns ++ xs) ≡ length ns + length xs = length-append ns xs in
    omega arith

-- one more node after n others, in a whole that began d nodes before them
pub node_after :
    {t u : Sections} {ns : List ℕ} {p q : Draft} (xs : List ℕ) (kind argument before n d : ℕ) → Writing t ns p → Writing u (ns ++ xs) q → length xs ≡ n * 3
    → before + d ≡ nodes p → nodes p + n < max_nodes → Writing u (ns ++ (xs ++ node kind argument (d + n + 1))) (put kind argument before q)
node_after {ns = ns} {p = p} {q = q} xs kind argument before n d a b l e h =
    let z : nodes q ≡ nodes p + n = nodes_after xs n a b l in
    let y : nodes q - before + 1 ≡ d + n + 1 = omega arith in
    writing_same
    (append_assoc ns xs (node kind argument (nodes q - before + 1)) ∙ ap (λ (m : ℕ). ns ++ (xs ++ node kind argument m)) y)
    (put_writes kind argument before b (omega arith))

module _ (s : List ℕ) where
  -- notes that tell about these items, whatever they find
  pub record Tells (b : List Item) (n : List ℕ) : Type 0 where
    pub finding : Finding
    pub noted : Noted s b finding n

  pub looks : {b : List Item} {n : List ℕ} → Tells b n → Looks s b n
  looks {b} {n} h = record { number = number_noted s b h.finding n h.noted; among = among_noted s b h.finding n h.noted }

  -- the sections after items; the nodes are told beside them
  abbrev pub sections_at : List Item → Mid → Sections
  sections_at b m =
      m.head
      ∷ m.title
      ∷ padded (max_parties * name_words) (joined name_row (known s 0 b))
      ∷ padded (max_assets * name_words) (joined name_row (known s 1 b))
      ∷ padded (max_fields * name_words) (joined name_row (known s 2 b))
      ∷ padded (max_states * name_words) (joined name_row (known s 5 b))
      ∷ padded (max_strings * string_words) (joined string_row (known s 6 b))
      ∷ m.clauses
      ∷ m.functions
      ∷ m.events
      ∷ m.parameters
      ∷ []

  pub record Tabled (b : List Item) (m : Mid) (ns : List ℕ) (p : Draft) : Type 0 where
    pub tells : Tells b p.notes
    pub right : every (right_item s) b ≡ true
    pub writing : Writing (sections_at b m) ns p

  -- its parameters' rows, said in another way
  pub reparametered : {b : List Item} {m : Mid} {ns : List ℕ} {p : Draft} {l : List ℕ} → m.parameters ≡ l → Tabled b m ns p → Tabled b (with_parameter_rows m l) ns p
  reparametered {b} {m} e t = record { tells = t.tells; right = t.right; writing = writing_described (λ i. sections_at b (with_parameter_rows m (e i))) t.writing }

  -- ---- strings and states

  pub string_written : {b : List Item} {m : Mid} {ns : List ℕ} {p : Draft} (x : Span) (o : ℕ) → Tabled b m ns p → is_string (word s x) ≡ true
      → Writing (sections_at (mentions 6 x o ∷ b) m) ns (mention s 6 x.start x.end o p)
  unfolding known pick
  string_written {b} {m} {ns} {p} x o t h =
      let e : among_in s p.notes 6 (word s x) ≡ is_among (word s x) (known s 6 b) = (looks t.tells).among 6 (omega arith) (word s x) in
      writing_described (λ i. set (sections_at b m) section.strings (rows_of s string_rows (pick (e i) (known s 6 b) (listed 6 (word s x) (known s 6 b)))))
      (mention_writes s string_rows (known s 6 b) x.start x.end o t.writing refl (t.tells.noted.many 6 (omega arith))
      (string_long (known s 6 b) (known_right s 6 b t.right)) (string_length (word s x) h))

  pub state_written : {b : List Item} {m : Mid} {ns : List ℕ} {p : Draft} (x : Span) (o : ℕ) → Tabled b m ns p → is_name (word s x) ≡ true
      → Writing (sections_at (mentions 5 x o ∷ b) m) ns (mention s 5 x.start x.end o p)
  unfolding known pick
  state_written {b} {m} {ns} {p} x o t h =
      let e : among_in s p.notes 5 (word s x) ≡ is_among (word s x) (known s 5 b) = (looks t.tells).among 5 (omega arith) (word s x) in
      writing_described (λ i. set (sections_at b m) section.states (rows_of s state_rows (pick (e i) (known s 5 b) (listed 5 (word s x) (known s 5 b)))))
      (mention_writes s state_rows (known s 5 b) x.start x.end o t.writing refl (t.tells.noted.many 5 (omega arith))
      (name_long (known s 5 b) (known_right s 5 b t.right)) (name_length (word s x) h))
