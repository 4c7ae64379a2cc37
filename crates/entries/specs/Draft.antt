-- What one pass over a contract's text holds: the words of the table as far as they are written, and notes about what was read. These
-- definitions serve the pass alone; what reading means stands in the specs of crate reader.
use Rattle.std.specs.Prelude.{ℕ, zero, suc, ◌+◌, ◌-◌, ◌*◌, ◌%◌, ◌≤◌, min, ◌≡◌, Bool, true, false, ◌||◌, ◌&&◌, List, [], ◌∷◌, length, get_or, set, eqb, ltb}
use Rattle.std.proofs.lemmas.List.Edits.{sets}
use Rattle.laws.specs.Choice.{pick}
use Rattle.laws.specs.Bytes.{same_bytes}
use Rattle.tokens.specs.Tokens.{between}
use Rattle.contract.specs.Limits.{max_parties, max_assets, max_fields, max_states, max_strings, max_clauses, max_functions, max_events, max_nodes, max_values, max_parameters, max_statements}
use Rattle.contract.specs.Encode.{packed_row}
use Rattle.contract.specs.Table.{name_words, string_words, clause_words, function_words, event_words, node_words, packed_words, name_start, parties_start, assets_start, fields_start, states_start, strings_start, clauses_start, functions_start, events_start, nodes_start, parameters_start, field_kind, asset_kind, value_kind, parameter_kind, party_kind}
use Rattle.entries.specs.declared.Known.{Known}

pub record Draft : Type 0 where
  pub table : List ℕ
  pub notes : List ℕ

-- Words of the notes. The first ten say how many there are of each kind: party, asset, field, value and asset parameter of the function
-- at hand, state, string, event, statement of the body at hand, node.
abbrev pub function_count : ℕ
function_count = 10

abbrev pub clause_count : ℕ
clause_count = 11

-- the least finding's question, 0 for none, and its place
abbrev pub question : ℕ
question = 12

abbrev pub place : ℕ
place = 13

-- how many nodes are written
abbrev pub written : ℕ
written = 14

-- 1 where there are more clauses or fields in a clause than rows hold
abbrev pub excess : ℕ
excess = 15

-- then a mark, a start and an end for each name
abbrev pub slot_words : ℕ
slot_words = 3

abbrev pub slots_start : ℕ
slots_start = 16

-- the most of each kind
abbrev pub limit : ℕ → ℕ
limit k =
    get_or (max_parties ∷ max_assets ∷ max_fields ∷ max_values ∷ max_parameters ∷ max_states ∷ max_strings ∷ max_events ∷ max_statements ∷ max_nodes ∷ []) k 0

-- the first slot of each kind of names; those of functions are the last
abbrev pub slot_of : ℕ → ℕ
slot_of k = get_or (0 ∷ 8 ∷ 24 ∷ 56 ∷ 64 ∷ 68 ∷ 100 ∷ []) k 132

abbrev pub function_slot : ℕ
function_slot = 132

-- after the slots: nodes of the body at hand, and events of the function at hand
abbrev pub body_nodes : ℕ
body_nodes = 604

abbrev pub events_here : ℕ
events_here = 605

abbrev pub notes_length : ℕ
notes_length = 606

abbrev pub note : List ℕ → ℕ → ℕ
note n i = get_or n i 0

abbrev pub with_notes : Draft → List ℕ → Draft
with_notes p n = record { table = p.table; notes = n }

abbrev pub with_table : Draft → List ℕ → Draft
with_table p w = record { table = w; notes = p.notes }

-- ---- findings and counts

-- the least finding after one more: earliest place, then lowest number
unfoldable pub found : ℕ → ℕ → List ℕ → List ℕ
found q o n =
    pick (eqb (note n question) 0 || (ltb o (note n place) || (eqb o (note n place) && ltb q (note n question))))
    (set (set n question q) place o)
    n

-- one more of a kind, within its limit; else question 11
unfoldable pub counted : ℕ → ℕ → List ℕ → List ℕ
counted k o n = pick (ltb (note n k) (limit k)) (set n k (note n k + 1)) (found 11 o n)

-- question 11 at place o where there are as many of a kind as can be
abbrev pub limit_asked : ℕ → ℕ → List ℕ → List ℕ
limit_asked k o n = pick (ltb (note n k) (limit k)) n (found 11 o n)

-- ---- names

-- a number that equal words share
abbrev pub mark_of : List ℕ → ℕ
mark_of w = (length w % 65536) * 256 + get_or w (length w - 1) 0

-- whether slot j has this mark and these bytes
unfoldable pub slot_is : List ℕ → List ℕ → ℕ → ℕ → List ℕ → Bool
slot_is s n j m w =
    pick (eqb (note n (slots_start + slot_words * j)) m)
    (same_bytes (between s (note n (slots_start + slot_words * j + 1)) (note n (slots_start + slot_words * j + 2))) w)
    false

-- the first of so many slots from slot j on that has this mark and these bytes, counted from i
unfoldable pub find_from : List ℕ → List ℕ → ℕ → List ℕ → ℕ → ℕ → ℕ → ℕ
find_from s n m w j i zero = i
find_from s n m w j i (suc l) = pick (slot_is s n (j + i) m w) i (find_from s n m w j (i + 1) l)

-- from slot number `from` up to r there is none with this mark, and r is one or the end
unfoldable pub Skips : List ℕ → ℕ → ℕ → ℕ → ℕ → ℕ → Type 0
Skips n m j from many r =
    (r ≤ many)
    × ((s : List ℕ) (w : List ℕ) → find_from s n m w j from (many - from) ≡ find_from s n m w j r (many - r))

abbrev pub known_count : List ℕ → ℕ → ℕ
known_count n k = min (note n k) (limit k)

-- the number of a word among those of kind k; how many they are where it is not among them
unfoldable pub number_in : List ℕ → List ℕ → ℕ → List ℕ → ℕ
number_in s n k w = find_from s n (mark_of w) w (slot_of k) 0 (known_count n k)

unfoldable pub among_in : List ℕ → List ℕ → ℕ → List ℕ → Bool
among_in s n k w = ltb (number_in s n k w) (known_count n k)

-- a party, an asset, a field or a parameter
unfoldable pub is_declared : List ℕ → List ℕ → List ℕ → Bool
is_declared s n w =
    pick (among_in s n 0 w) true
    (pick (among_in s n 1 w) true
    (pick (among_in s n 2 w) true
    (pick (among_in s n 3 w) true (among_in s n 4 w))))

-- slot j after a name is put there
unfoldable pub slotted : List ℕ → ℕ → ℕ → ℕ → ℕ → List ℕ
slotted n j m a e = sets n (slots_start + slot_words * j) (m ∷ a ∷ e ∷ [])

-- the table after a word's length and bytes are put at o
unfoldable pub rowed : List ℕ → ℕ → List ℕ → List ℕ
rowed t o w = sets t o (length w ∷ w)

-- where the rows of a kind of names start; 0 for parameters
abbrev pub section_of : ℕ → ℕ
section_of k = get_or (parties_start ∷ assets_start ∷ fields_start ∷ 0 ∷ 0 ∷ states_start ∷ strings_start ∷ []) k 0

abbrev pub width_of : ℕ → ℕ
width_of k = pick (eqb k 6) string_words name_words

-- the number of parameter i of a kind among the packed rows, for the last of n functions
abbrev pub packed_number : ℕ → ℕ → ℕ → ℕ
packed_number n k i = (max_values + max_parameters) * (n - 1) + pick (eqb k 4) max_values 0 + i

-- the table after its name is put there
unfoldable pub parameter_put : ℕ → ℕ → ℕ → List ℕ → List ℕ → List ℕ
parameter_put n k i w t =
    pick (ltb (n - 1) max_functions) (sets t (parameters_start + packed_words * packed_number n k i) (packed_row w)) t

-- name i of a kind, from a up to e in the text
unfoldable pub entered : List ℕ → ℕ → ℕ → ℕ → ℕ → Draft → Draft
entered s k i a e p =
    record {
      table =
          pick (eqb (section_of k) 0)
          (parameter_put (note p.notes function_count) k i (between s a e) p.table)
          (rowed p.table (section_of k + width_of k * i) (between s a e));
      notes = set (slotted p.notes (slot_of k + i) (mark_of (between s a e)) a e) k (i + 1);
    }

-- a declared name: within the limit, 11, and new, 12
unfoldable pub declared_in : List ℕ → ℕ → ℕ → ℕ → List ℕ → List ℕ
declared_in s k a e n =
    pick (is_declared s n (between s a e))
    (found 12 a (limit_asked k a n))
    (limit_asked k a n)

unfoldable pub declare : List ℕ → ℕ → ℕ → ℕ → Draft → Draft
declare s k a e p =
    pick (ltb (note p.notes k) (limit k))
    (entered s k (note p.notes k) a e (with_notes p (declared_in s k a e p.notes)))
    (with_notes p (declared_in s k a e p.notes))

-- one more name of a kind within the limit; else question 11 at place o
abbrev pub entered_new : List ℕ → ℕ → ℕ → ℕ → ℕ → Draft → Draft
entered_new s k a e o p =
    pick (ltb (note p.notes k) (limit k))
    (entered s k (note p.notes k) a e p)
    (with_notes p (found 11 o p.notes))

-- a state or a string at place o: known, or one more within the limit, 11
unfoldable pub mention : List ℕ → ℕ → ℕ → ℕ → ℕ → Draft → Draft
mention s k a e o p =
    pick (among_in s p.notes k (between s a e)) p (entered_new s k a e o p)

-- ---- used names: the kind of their node and their number; kind 0 where they are unknown

abbrev pub unknown : Known
unknown = record { kind = 0; number = 0 }

unfoldable pub seek : List ℕ → List ℕ → ℕ → ℕ → List ℕ → Known → Known
seek s n k kind w other = pick (among_in s n k w) (record { kind = kind; number = number_in s n k w }) other

-- an asset, or outside handlers an asset parameter
unfoldable pub holder_in : List ℕ → List ℕ → Bool → List ℕ → Known
holder_in s n handler w =
    seek s n 1 asset_kind w (pick handler unknown (seek s n 4 parameter_kind w unknown))

-- an asset or a field
unfoldable pub stored_in : List ℕ → List ℕ → List ℕ → Known
stored_in s n w = seek s n 1 asset_kind w (seek s n 2 field_kind w unknown)

-- what an expression names
unfoldable pub name_in : List ℕ → List ℕ → Bool → List ℕ → Known
name_in s n handler w =
    pick handler (stored_in s n w) (seek s n 3 value_kind w (seek s n 4 parameter_kind w (stored_in s n w)))

-- what `->` goes to
unfoldable pub value_target : List ℕ → List ℕ → List ℕ → Known
value_target s n w = seek s n 0 party_kind w (seek s n 2 field_kind w unknown)

-- what `-o` goes to
unfoldable pub asset_target : List ℕ → List ℕ → Bool → List ℕ → Known
asset_target s n handler w = seek s n 0 party_kind w (holder_in s n handler w)

-- question 13 where a name is unknown
unfoldable pub wanted : Known → ℕ → List ℕ → List ℕ
wanted x o n = pick (eqb x.kind 0) (found 13 o n) n

-- ---- nodes

-- one more node; its size counts the nodes from `before` on
unfoldable pub put : ℕ → ℕ → ℕ → Draft → Draft
put kind argument before p =
    pick (ltb (note p.notes written) max_nodes)
    (record {
      table = sets p.table (nodes_start + node_words * note p.notes written) (kind ∷ argument ∷ (note p.notes written - before + 1) ∷ []);
      notes = set p.notes written (note p.notes written + 1);
    })
    p

-- a name's node, its place o
unfoldable pub put_name : Known → ℕ → Draft → Draft
put_name x o p = put x.kind x.number (note p.notes written) (with_notes p (wanted x o (counted 9 o p.notes)))

-- a node without parts that is no name
unfoldable pub put_leaf : ℕ → ℕ → ℕ → Draft → Draft
put_leaf kind argument o p = put kind argument (note p.notes written) (with_notes p (counted 9 o p.notes))

-- ---- rows

-- a name of kind k: known, 13
abbrev pub name_used : List ℕ → ℕ → ℕ → ℕ → List ℕ → List ℕ
name_used s k a e n = pick (among_in s n k (between s a e)) n (found 13 a n)

-- a party that a function names
unfoldable pub party_used : List ℕ → ℕ → ℕ → List ℕ → List ℕ
party_used s a e n = name_used s 0 a e n

-- the party of the clause at hand
unfoldable pub clause_party : List ℕ → ℕ → ℕ → Draft → Draft
clause_party s a e p =
    record {
      table =
          pick (ltb (note p.notes clause_count) max_clauses)
          (set p.table (clauses_start + clause_words * note p.notes clause_count) (number_in s p.notes 0 (between s a e)))
          p.table;
      notes = name_used s 0 a e p.notes;
    }

-- its verb
unfoldable pub clause_verb : ℕ → Draft → Draft
clause_verb v p =
    pick (ltb (note p.notes clause_count) max_clauses)
    (with_table p (set p.table (clauses_start + clause_words * note p.notes clause_count + 1) v))
    p

-- field number x in row r, the j-th there
unfoldable pub field_at : ℕ → ℕ → ℕ → Draft → Draft
field_at r j x p =
    pick (ltb j max_fields)
    (with_table p (set (set p.table (r + 3 + j) x) (r + 2) (j + 1)))
    (with_notes p (set p.notes excess 1))

-- one more field of it
unfoldable pub clause_field : List ℕ → ℕ → ℕ → Draft → Draft
clause_field s a e p =
    pick (ltb (note p.notes clause_count) max_clauses)
    (field_at
    (clauses_start + clause_words * note p.notes clause_count)
    (get_or p.table (clauses_start + clause_words * note p.notes clause_count + 2) 0)
    (number_in s p.notes 2 (between s a e))
    (with_notes p (name_used s 2 a e p.notes)))
    (with_notes p (name_used s 2 a e p.notes))

-- its end
unfoldable pub clause_end : List ℕ → List ℕ
clause_end n = pick (ltb (note n clause_count) max_clauses) (set n clause_count (note n clause_count + 1)) (set n excess 1)

-- the mark of a function's head: its state and party, and its name's mark
abbrev pub head_mark : ℕ → ℕ → List ℕ → ℕ
head_mark q a w = mark_of w + 16777216 * (16 * (q % 256) + a % 16)

-- function i with its state, party and name
unfoldable pub headed : List ℕ → ℕ → ℕ → ℕ → ℕ → ℕ → Draft → Draft
headed s i q a f e p =
    record {
      table =
          rowed (sets p.table (functions_start + function_words * i) (q ∷ a ∷ []))
          (functions_start + function_words * i + 10)
          (between s f e);
      notes = set (slotted p.notes (function_slot + i) (head_mark q a (between s f e)) f e) function_count (i + 1);
    }

-- whether a function has a head of before
unfoldable pub is_headed : List ℕ → List ℕ → ℕ → ℕ → List ℕ → Bool
is_headed s n q a w =
    ltb (find_from s n (head_mark q a w) w function_slot 0 (min (note n function_count) max_functions)) (min (note n function_count) max_functions)

-- question 11 at place o where there are as many functions as can be
abbrev pub functions_asked : ℕ → List ℕ → List ℕ
functions_asked o n = pick (ltb (note n function_count) max_functions) n (found 11 o n)

-- a function at place o with state q and party a, its name from f up to e: within the limit, 11, and new, 15
unfoldable pub head_notes : List ℕ → ℕ → ℕ → ℕ → ℕ → ℕ → List ℕ → List ℕ
head_notes s o q a f e n =
    pick (is_headed s n q a (between s f e))
    (found 15 f (functions_asked o n))
    (functions_asked o n)

abbrev pub head_entered : List ℕ → ℕ → ℕ → ℕ → ℕ → ℕ → Draft → Draft
head_entered s o q a f e p =
    pick (ltb (note p.notes function_count) max_functions)
    (headed s (note p.notes function_count) q a f e (with_notes p (head_notes s o q a f e p.notes)))
    (with_notes p (head_notes s o q a f e p.notes))

abbrev pub no_parameters : Draft → Draft
no_parameters p = with_notes p (set (set p.notes 3 0) 4 0)

-- it has no parameter yet
unfoldable pub head : List ℕ → ℕ → ℕ → ℕ → ℕ → ℕ → Draft → Draft
head s o q a f e p = no_parameters (head_entered s o q a f e p)

-- the rest of function i's row: last state, parameters, first node, nodes of precondition and body, first event, events
unfoldable pub function_rest : ℕ → ℕ → ℕ → ℕ → ℕ → ℕ → ℕ → Draft → Draft
function_rest i last first condition body event events p =
    pick (ltb i max_functions)
    (with_table p
    (sets p.table (functions_start + function_words * i + 2)
    (last ∷ note p.notes 3 ∷ note p.notes 4 ∷ first ∷ condition ∷ body ∷ event ∷ events ∷ [])))
    p

-- event i's row
unfoldable pub event_row : ℕ → ℕ → ℕ → ℕ → List ℕ → List ℕ
event_row i state last node t =
    pick (ltb i max_events) (sets t (events_start + event_words * i) (state ∷ last ∷ node ∷ [])) t

-- the contract's name
unfoldable pub title : List ℕ → ℕ → ℕ → List ℕ → List ℕ
title s a e t = rowed t name_start (between s a e)

-- how many there are of each, and the initial state
unfoldable pub counts : ℕ → List ℕ → List ℕ → List ℕ
counts initial n t =
    sets t 0
    (note n 0 ∷ note n 1 ∷ note n 2 ∷ note n 5 ∷ note n 6 ∷ note n clause_count ∷ note n function_count ∷ note n 7 ∷ note n written
    ∷ initial ∷ [])
