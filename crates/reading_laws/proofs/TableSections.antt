-- A table as its sections, ten of them, then the nodes, then the parameters; what a store in a section does to it. Assumes nothing.
use mathlib.Core.Path.{◌≡◌, refl, sym, ap, ◌∙◌, subst}
use mathlib.Core.List.{List, [], ◌∷◌, ◌++◌, append_assoc}
use Prim.Native.Nat.{ℕ, zero, suc, ◌+◌, ◌*◌, ◌≤◌, ◌<◌}
use native.Mathlib.Omega.{arith}
use native.Mathlib.Nat.{zero-add, suc-add, add-suc}
use lib.ListN.{length, get_or, set, take, length-set, length-append, get_or-append}
use lib.Seq.{sets, length-sets, length-take-le, set-append_left, set-get_or, set-set, get_or-set_same, get_or-set_other, get_or-take, take-set-le, get_or-append-add}
use Rattle.contract.specs.Tree.{Contract}
use Rattle.contract.specs.Limits.{max_parties, max_assets, max_fields, max_states, max_strings, max_clauses, max_functions, max_events, max_nodes}
use Rattle.contract.specs.Table.{head_words, name_words, string_words, clause_words, function_words, event_words, node_words, parameter_words, nodes_start, parameters_start}
use Rattle.contract.specs.Encode.{padded, joined, head_row, name_row, string_row, clause_row, function_rows, all_event_rows, function_nodes, parameter_rows, encode}
use Rattle.entries.specs.Draft.{Draft, with_notes}

-- ---- sections by number

abbrev pub Sections : Type 0
Sections = List (List ℕ)

abbrev pub head : ℕ
head = 0

abbrev pub title : ℕ
title = 1

abbrev pub parties : ℕ
parties = 2

abbrev pub assets : ℕ
assets = 3

abbrev pub fields : ℕ
fields = 4

abbrev pub states : ℕ
states = 5

abbrev pub strings : ℕ
strings = 6

abbrev pub clauses : ℕ
clauses = 7

abbrev pub functions : ℕ
functions = 8

abbrev pub events : ℕ
events = 9

-- the section behind the nodes
abbrev pub parameters : ℕ
parameters = 10

abbrev pub widths : List ℕ
widths =
    head_words ∷ name_words ∷ max_parties * name_words ∷ max_assets * name_words ∷ max_fields * name_words ∷ max_states * name_words
    ∷ max_strings * string_words ∷ max_clauses * clause_words ∷ max_functions * function_words ∷ max_events * event_words ∷ max_functions * parameter_words ∷ []

-- the sections of a contract's table beside its nodes
abbrev pub sections_of : Contract → Sections
sections_of c =
    head_row c
    ∷ name_row c.name
    ∷ padded (max_parties * name_words) (joined name_row c.parties)
    ∷ padded (max_assets * name_words) (joined name_row c.assets)
    ∷ padded (max_fields * name_words) (joined name_row c.fields)
    ∷ padded (max_states * name_words) (joined name_row c.states)
    ∷ padded (max_strings * string_words) (joined string_row c.strings)
    ∷ padded (max_clauses * clause_words) (joined clause_row c.clauses)
    ∷ padded (max_functions * function_words) (function_rows 0 0 c.functions)
    ∷ padded (max_events * event_words) (all_event_rows 0 c.functions)
    ∷ padded (max_functions * parameter_words) (joined parameter_rows c.functions)
    ∷ []

abbrev pub whole : Sections → List ℕ → List ℕ
whole [] n = n
whole (l ∷ t) n = l ++ whole t n

-- the table of these sections and these nodes
abbrev pub table_from : Sections → List ℕ → List ℕ
table_from t n = whole (take parameters t) (n ++ get_or t parameters [])

pub encode_whole : (c : Contract) → encode c ≡ table_from (sections_of c) (padded (max_nodes * node_words) (joined function_nodes c.functions))
unfolding encode
encode_whole c = refl

-- ---- lengths and places

abbrev pub lengths : Sections → List ℕ
lengths [] = []
lengths (l ∷ t) = length l ∷ lengths t

-- where section i starts, if sections have these lengths
abbrev pub start_of : List ℕ → ℕ → ℕ
start_of [] i = 0
start_of (n ∷ ns) zero = 0
start_of (n ∷ ns) (suc i) = n + start_of ns i

lengths_many : (t : Sections) → length (lengths t) ≡ length t
lengths_many [] = refl
lengths_many (l ∷ t) = ap suc (lengths_many t)

length_at : (t : Sections) (i : ℕ) → get_or (lengths t) i 0 ≡ length (get_or t i [])
length_at [] i = refl
length_at (l ∷ t) zero = refl
length_at (l ∷ t) (suc i) = length_at t i

lengths_set : (t : Sections) (i : ℕ) (l : List ℕ) → length l ≡ get_or (lengths t) i 0 → lengths (set t i l) ≡ lengths t
lengths_set [] i l e = refl
lengths_set (m ∷ t) zero l e = ap (λ (n : ℕ). n ∷ lengths t) e
lengths_set (m ∷ t) (suc i) l e = ap (λ (ns : List ℕ). length m ∷ ns) (lengths_set t i l e)

-- what stands before and after section i
abbrev pub before : Sections → ℕ → List ℕ
before [] i = []
before (l ∷ t) zero = []
before (l ∷ t) (suc i) = l ++ before t i

abbrev pub after : Sections → ℕ → List ℕ → List ℕ
after [] i n = n
after (l ∷ t) zero n = whole t n
after (l ∷ t) (suc i) n = after t i n

before_long : (t : Sections) (i : ℕ) → length (before t i) ≡ start_of (lengths t) i
before_long [] i = refl
before_long (l ∷ t) zero = refl
before_long (l ∷ t) (suc i) = length-append l (before t i) ∙ ap (λ (n : ℕ). length l + n) (before_long t i)

pub split_set : (t : Sections) (n : List ℕ) (i : ℕ) (l : List ℕ) → i < length t → whole (set t i l) n ≡ before t i ++ (l ++ after t i n)
split_set [] n i l h = absurd (omega arith)
split_set (m ∷ t) n zero l h = refl
split_set (m ∷ t) n (suc i) l h =
    ap (λ (r : List ℕ). m ++ r) (split_set t n i l (omega arith)) ∙ sym (append_assoc m (before t i) (l ++ after t i n))

pub split : (t : Sections) (n : List ℕ) (i : ℕ) → i < length t → whole t n ≡ before t i ++ (get_or t i [] ++ after t i n)
split t n i h = ap (λ (u : Sections). whole u n) (sym (set-get_or t i [])) ∙ split_set t n i (get_or t i []) h

-- ---- the first sections

lengths_take : (m : ℕ) (t : Sections) → lengths (take m t) ≡ take m (lengths t)
lengths_take zero t = refl
lengths_take (suc m) [] = refl
lengths_take (suc m) (l ∷ t) = ap (λ (ns : List ℕ). length l ∷ ns) (lengths_take m t)

pub take_set : (m i : ℕ) (t : Sections) (l : List ℕ) → take m (set t i l) ≡ set (take m t) i l
take_set zero i t l = refl
take_set (suc m) i [] l = refl
take_set (suc m) zero (k ∷ t) l = refl
take_set (suc m) (suc i) (k ∷ t) l = ap (λ (u : Sections). k ∷ u) (take_set m i t l)

before_take : (m i : ℕ) (t : Sections) → i ≤ m → before (take m t) i ≡ before t i
before_take zero zero [] h = refl
before_take zero zero (l ∷ t) h = refl
before_take zero (suc i) t h = absurd (omega arith)
before_take (suc m) i [] h = refl
before_take (suc m) zero (l ∷ t) h = refl
before_take (suc m) (suc i) (l ∷ t) h = ap (λ (r : List ℕ). l ++ r) (before_take m i t (omega arith))

-- ---- stores beside a seam

set_past : (a b : List ℕ) (k v : ℕ) → set (a ++ b) (length a + k) v ≡ a ++ set b k v
set_past [] b k v = ap (λ (i : ℕ). set b i v) (zero-add k)
set_past (x ∷ a) b k v =
    ap (λ (i : ℕ). set (x ∷ (a ++ b)) i v) (suc-add (length a) k) ∙ ap (λ (r : List ℕ). x ∷ r) (set_past a b k v)

pub sets_past : (a b : List ℕ) (k : ℕ) (vs : List ℕ) → sets (a ++ b) (length a + k) vs ≡ a ++ sets b k vs
sets_past a b k [] = refl
sets_past a b k (v ∷ vs) =
    ap (λ (l : List ℕ). sets l (suc (length a + k)) vs) (set_past a b k v)
    ∙ ap (λ (i : ℕ). sets (a ++ set b k v) i vs) (sym (add-suc (length a) k))
    ∙ sets_past a (set b k v) (suc k) vs

pub sets_front : (a b : List ℕ) (i : ℕ) (vs : List ℕ) → i + length vs ≤ length a → sets (a ++ b) i vs ≡ sets a i vs ++ b
sets_front a b i [] h = refl
sets_front a b i (v ∷ vs) h =
    let e : i + suc (length vs) ≡ suc i + length vs = omega arith in
    let l = length-set a i v in
    ap (λ (l : List ℕ). sets l (suc i) vs) (set-append_left a b i v (omega arith))
    ∙ sets_front (set a i v) b (suc i) vs (omega arith)

store_node : (t : Sections) (n : List ℕ) (k : ℕ) (vs : List ℕ) → sets (whole t n) (start_of (lengths t) (length t) + k) vs ≡ whole t (sets n k vs)
store_node [] n k vs = ap (λ (j : ℕ). sets n j vs) (zero-add k)
store_node (l ∷ t) n k vs =
    let e : length l + start_of (lengths t) (length t) + k ≡ length l + (start_of (lengths t) (length t) + k) = omega arith in
    ap (λ (j : ℕ). sets (l ++ whole t n) j vs) e
    ∙ sets_past l (whole t n) (start_of (lengths t) (length t) + k) vs
    ∙ ap (λ (r : List ℕ). l ++ r) (store_node t n k vs)

-- ---- a pass whose table is made of these sections and these nodes

pub record Holds (t : Sections) (n : List ℕ) (p : Draft) : Type 0 where
  pub table : p.table ≡ table_from t n
  pub sized : lengths t ≡ widths
  pub long : length n ≡ max_nodes * node_words

pub unmoved : {t : Sections} {n : List ℕ} {p : Draft} (q : Draft) → q.table ≡ p.table → Holds t n p → Holds t n q
unmoved q e h = record { table = e ∙ h.table; sized = h.sized; long = h.long }

pub noted : {t : Sections} {n : List ℕ} {p : Draft} (m : List ℕ) → Holds t n p → Holds t n (with_notes p m)
noted m h = record { table = h.table; sized = h.sized; long = h.long }

pub described : {t u : Sections} {n : List ℕ} {p : Draft} → t ≡ u → Holds t n p → Holds u n p
described {t} {u} {n} {p} e h = subst (λ (v : Sections). Holds v n p) e h

pub eleven : (t : Sections) → lengths t ≡ widths → length t ≡ 11
eleven t e = sym (lengths_many t) ∙ ap length e

pub ten : (t : Sections) → lengths t ≡ widths → length (take parameters t) ≡ 10
ten t e = let z = eleven t e in length-take-le parameters t (omega arith)

pub wide : (t : Sections) (i : ℕ) → lengths t ≡ widths → length (get_or t i []) ≡ get_or widths i 0
wide t i e = sym (length_at t i) ∙ ap (λ (ns : List ℕ). get_or ns i 0) e

starts : (t : Sections) (i : ℕ) → lengths t ≡ widths → length (before t i) ≡ start_of widths i
starts t i e = before_long t i ∙ ap (λ (ns : List ℕ). start_of ns i) e

-- one of the first ten
pub first_starts : (t : Sections) (i : ℕ) → lengths t ≡ widths → i < 10 → length (before (take parameters t) i) ≡ start_of widths i
first_starts t i e h = ap length (before_take parameters i t (omega arith)) ∙ starts t i e

pub first_is : (t : Sections) (i : ℕ) → i < 10 → get_or (take parameters t) i [] ≡ get_or t i []
first_is t i h = get_or-take parameters t i [] h

pub first_set : (t : Sections) (n : List ℕ) (i : ℕ) (l : List ℕ) → i < 10 → whole (set (take parameters t) i l) (n ++ get_or t parameters []) ≡ table_from (set t i l) n
first_set t n i l h =
    let e : get_or (set t i l) parameters [] ≡ get_or t parameters [] = get_or-set_other t i parameters l [] (λ q. omega arith) in
    λ x. whole (sym (take_set parameters i t l) x) (n ++ sym e x)

pub replaced : (t : Sections) (i : ℕ) (l : List ℕ) → lengths t ≡ widths → length l ≡ get_or widths i 0 → lengths (set t i l) ≡ widths
replaced t i l e h = lengths_set t i l (h ∙ ap (λ (ns : List ℕ). get_or ns i 0) (sym e)) ∙ e

-- words stored at place k of section i, which is then l
pub stored : {t : Sections} {n : List ℕ} {p : Draft} (q : Draft) (i k j : ℕ) (vs : List ℕ) {l : List ℕ} → i < 10 → start_of widths i + k ≡ j → k + length vs ≤ get_or widths i 0
    → q.table ≡ sets p.table j vs → sets (get_or t i []) k vs ≡ l → Holds t n p → Holds (set t i l) n q
stored {t} {n} {p} q i k j vs {l} m e b d g h =
    let u = take parameters t in
    let r = n ++ get_or t parameters [] in
    let f : i < length u = omega (arith, ten t h.sized) in
    let o : get_or u i [] ≡ get_or t i [] = first_is t i m in
    let w = wide t i h.sized in
    let s : start_of widths i + k ≡ length (before u i) + k = ap (λ (x : ℕ). x + k) (sym (first_starts t i h.sized m)) in
    record {
      table =
          d ∙ (λ x. sets ((h.table ∙ split u r i f) x) ((sym e ∙ s) x) vs)
          ∙ sets_past (before u i) (get_or u i [] ++ after u i r) k vs
          ∙ ap (λ (c : List ℕ). before u i ++ c) (sets_front (get_or u i []) (after u i r) k vs (subst (λ (x : ℕ). k + length vs ≤ x) (sym w ∙ ap length (sym o)) b))
          ∙ ap (λ (c : List ℕ). before u i ++ (c ++ after u i r)) (ap (λ (c : List ℕ). sets c k vs) o ∙ g)
          ∙ sym (split_set u r i l f)
          ∙ first_set t n i l m;
      sized = replaced t i l h.sized (ap length (sym g) ∙ length-sets (get_or t i []) k vs ∙ w);
      long = h.long;
    }

-- and others over it
pub stored_again : (t : Sections) {n : List ℕ} {p : Draft} (q : Draft) (i k j : ℕ) (vs l : List ℕ) {m : List ℕ} → i < 10 → start_of widths i + k ≡ j → k + length vs ≤ get_or widths i 0
    → q.table ≡ sets p.table j vs → sets l k vs ≡ m → Holds (set t i l) n p → Holds (set t i m) n q
stored_again t q i k j vs l {m} b e f d g h =
    let z : length t ≡ 11 = sym (length-set t i l) ∙ eleven (set t i l) h.sized in
    described (set-set t i l m) (stored q i k j vs b e f d (ap (λ (u : List ℕ). sets u k vs) (get_or-set_same t i l [] (omega arith)) ∙ g) h)

-- where the nodes start
nodes_start_lem : (t : Sections) → lengths t ≡ widths → nodes_start ≡ start_of (lengths (take parameters t)) (length (take parameters t))
nodes_start_lem t e =
    let a : lengths (take parameters t) ≡ take parameters widths = lengths_take parameters t ∙ ap (take parameters) e in
    λ x. start_of (sym a x) (sym (ten t e) x)

pub node_stored : {t : Sections} {n : List ℕ} {p : Draft} (q : Draft) (k : ℕ) (vs : List ℕ) → k + length vs ≤ max_nodes * node_words → q.table ≡ sets p.table (nodes_start + k) vs
    → Holds t n p → Holds t (sets n k vs) q
node_stored {t} {n} {p} q k vs b d h =
    let e = nodes_start_lem t h.sized in
    let u = take parameters t in
    record {
      table = d ∙ (λ x. sets (h.table x) (e x + k) vs) ∙ store_node u (n ++ get_or t parameters []) k vs
          ∙ ap (whole u) (sets_front n (get_or t parameters []) k vs (omega (arith, h.long)));
      sized = h.sized;
      long = length-sets n k vs ∙ h.long;
    }

-- words stored at place k of the parameters
pub parameter_stored : {t : Sections} {n : List ℕ} {p : Draft} (q : Draft) (k : ℕ) (vs : List ℕ) {l : List ℕ} → q.table ≡ sets p.table (parameters_start + k) vs
    → sets (get_or t parameters []) k vs ≡ l → Holds t n p → Holds (set t parameters l) n q
parameter_stored {t} {n} {p} q k vs {l} d g h =
    let e = nodes_start_lem t h.sized in
    let u = take parameters t in
    let z : length t ≡ 11 = eleven t h.sized in
    let o : parameters_start + k ≡ nodes_start + (length n + k) = omega (arith, h.long) in
    let same : get_or (set t parameters l) parameters [] ≡ l = get_or-set_same t parameters l [] (omega arith) in
    record {
      table =
          d ∙ (λ x. sets (h.table x) (o x) vs) ∙ ap (λ (x : ℕ). sets (table_from t n) (x + (length n + k)) vs) e
          ∙ store_node u (n ++ get_or t parameters []) (length n + k) vs
          ∙ ap (whole u) (sets_past n (get_or t parameters []) k vs ∙ ap (λ (c : List ℕ). n ++ c) g)
          ∙ (λ x. whole (sym (take-set-le parameters t parameters l (omega arith)) x) (n ++ sym same x));
      sized = replaced t parameters l h.sized (ap length (sym g) ∙ length-sets (get_or t parameters []) k vs ∙ wide t parameters h.sized);
      long = h.long;
    }

-- a word of the head
pub head_load : {t : Sections} {n : List ℕ} {p : Draft} (k : ℕ) → k < head_words → Holds t n p → get_or p.table k 0 ≡ get_or (get_or t head []) k 0
head_load {t} {n} {p} k b h =
    let u = take parameters t in
    let r = n ++ get_or t parameters [] in
    let o : get_or u head [] ≡ get_or t head [] = first_is t head (omega arith) in
    let w : length (get_or u head []) ≡ head_words = ap length o ∙ wide t head h.sized in
    let l : length u ≡ 10 = ten t h.sized in
    let s : length (before u head) + k ≡ k = omega (arith, first_starts t head h.sized (omega arith)) in
    (λ x. get_or ((h.table ∙ split u r head (omega arith)) x) (sym s x) 0)
    ∙ get_or-append-add (before u head) (get_or u head [] ++ after u head r) k 0
    ∙ get_or-append (get_or u head []) (after u head r) 0 k (omega arith)
    ∙ ap (λ (c : List ℕ). get_or c k 0) o
