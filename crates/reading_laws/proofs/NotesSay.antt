-- What the notes of a pass hold after the items b, which stand with the latest first, when f is the least finding of them.
use Prim.Native.Nat.{ℕ, ◌+◌, ◌*◌, ◌≤◌, ◌<◌, min}
use mathlib.Core.Path.{◌≡◌}
use mathlib.Core.List.{List, []}
use lib.ListN.{length, get_or, take, drop}
use Rattle.tokens.specs.Tokens.{between}
use Rattle.contract.specs.Tree.{Word}
use Rattle.contract.specs.Tree as tree
use Rattle.contract.specs.Encode.{joined, clause_row}
use Rattle.contract.specs.Limits.{max_clauses}
use Rattle.contract.specs.Table.{table_length, clauses_start, clause_words}
use Rattle.entries.specs.Draft.{Draft, note, limit, slot_of, function_slot, slots_start, slot_words, function_count, clause_count, notes_length, mark_of, head_mark}
use Rattle.reading.specs.Syntax as syntax
use Rattle.reading.specs.Items.{party, field, Item}
use Rattle.reading.specs.Rules.{Header, known, count, headers, clauses_in, Finding}
use Rattle.reading_laws.proofs.Run.{finding_of}

module _ (s : List ℕ) where
  -- slot j has this mark, and the place of these bytes
  pub record Slot (n : List ℕ) (j m : ℕ) (w : Word) : Type 0 where
    pub mark : note n (slots_start + slot_words * j) ≡ m
    pub bytes : between s (note n (slots_start + slot_words * j + 1)) (note n (slots_start + slot_words * j + 2)) ≡ w

  abbrev pub no_header : Header
  no_header = record { state = 0; party = 0; name = [] }

  pub record Noted (b : List Item) (f : Finding) (n : List ℕ) : Type 0 where
    pub size : length n ≡ notes_length
    -- names of each kind
    pub many : (k : ℕ) → k < 7 → note n k ≡ length (known s k b)
    pub slot : (k i : ℕ) → k < 7 → i < length (known s k b) → Slot n (slot_of k + i) (mark_of (get_or (known s k b) i [])) (get_or (known s k b) i [])
    -- events, statements and nodes
    pub tally : (k : ℕ) → 7 ≤ k → k < 10 → note n k ≡ min (count k b) (limit k)
    -- functions
    pub functions : note n function_count ≡ length (headers s b)
    pub header : (i : ℕ) → i < length (headers s b)
        → Slot n (function_slot + i)
        (head_mark (get_or (headers s b) i no_header).state (get_or (headers s b) i no_header).party (get_or (headers s b) i no_header).name)
        (get_or (headers s b) i no_header).name
    pub finding : finding_of n ≡ f

  -- the clauses so far, as rows of the table: all of them, or one too many of clauses or fields was met
  abbrev pub clauses_by : List Item → List syntax.Clause → List tree.Clause
  clauses_by b cs = clauses_in s (known s party b) (known s field b) cs

  pub record Rows (b : List Item) (cs : List syntax.Clause) (p : Draft) : Type 0 where
    pub long : length p.table ≡ table_length
    pub many : note p.notes clause_count ≡ length cs
    pub few : length cs ≤ max_clauses
    pub rows : take (clause_words * length cs) (drop clauses_start p.table) ≡ joined clause_row (clauses_by b cs)
