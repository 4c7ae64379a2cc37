-- What the acts on functions and events do to their rows. Assumes nothing.
use mathlib.Core.Path.{◌≡◌, refl, sym, ap, ◌∙◌}
use mathlib.Core.List.{List, [], ◌∷◌, ◌++◌, append_assoc}
use Prim.Native.Nat.{ℕ, ◌+◌, ◌-◌, ◌*◌, ◌≤◌, ◌<◌}
use native.Mathlib.Omega.{arith}
use lib.ListN.{length, get_or, set, length-append}
use lib.Seq.{sets}
use borrow.Author.Tests.{lt-ltb}
use Rattle.laws.proofs.Choice.{pick_true, by_cases}
use Rattle.tokens.specs.Tokens.{between}
use Rattle.contract.proofs.Zeros.{length_zeros}
use Rattle.contract.specs.Tree.{Word, Function}
use Rattle.contract.specs.Limits.{max_functions, max_events, max_nodes, max_name}
use Rattle.contract.specs.Sizes.{block_size, precondition_size}
use Rattle.contract.specs.Table.{function_words, event_words, functions_start, events_start, event_kind}
use Rattle.contract.specs.Encode.{zeros, padded, node, name_row, function_row}
use Rattle.entries.specs.Draft.{Draft, note, with_table, rowed, headed, head, function_rest, event_row, put, function_count, written}
use Rattle.reading_laws.specs.Walk.{nodes, event_written}
use Rattle.reading_laws.proofs.TableSections.{Sections, stored, stored_again}
use Rattle.reading_laws.proofs.TableSections as section
use Rattle.reading_laws.proofs.SectionsRows.{padded_more, padded_past, padded_zeros, padded_replaced, name_row_long}
use Rattle.reading_laws.proofs.NotesKept.{Keeps, keeps_all, written_spared, head_keeps}
use Rattle.reading_laws.proofs.SectionsNodes.{Writing, writing_held, put_writes}

-- rows, filled up
abbrev pub function_section : List ℕ → List ℕ
function_section l = padded (max_functions * function_words) l

abbrev pub event_section : List ℕ → List ℕ
event_section l = padded (max_events * event_words) l

-- a function's row as its head leaves it
abbrev pub begun_row : ℕ → ℕ → Word → List ℕ
begun_row q a w = q ∷ a ∷ 0 ∷ 0 ∷ 0 ∷ 0 ∷ 0 ∷ 0 ∷ 0 ∷ 0 ∷ name_row w

-- ---- the head

head_front : (q a : ℕ) (w : Word) → (q ∷ a ∷ []) ++ (zeros 8 ++ (length w ∷ w)) ++ zeros (max_name - length w) ≡ begun_row q a w
unfolding zeros name_row padded
head_front q a w = refl

head_row : (l : List ℕ) (i q a : ℕ) (w : Word) → length l ≡ i * function_words → i < max_functions → length w ≤ max_name
    → sets (function_section (l ++ (q ∷ a ∷ []))) (function_words * i + 10) (length w ∷ w) ≡ function_section (l ++ begun_row q a w)
head_row l i q a w e m f =
    let b = length-append l (q ∷ a ∷ []) in
    let c = length-append (l ++ (q ∷ a ∷ [])) (zeros 8 ++ (length w ∷ w)) in
    let d = length-append (zeros 8) (length w ∷ w) in
    let z = length_zeros 8 in
    let j : function_words * i + 10 ≡ length (l ++ (q ∷ a ∷ [])) + 8 = omega arith in
    ap (λ (k : ℕ). sets (function_section (l ++ (q ∷ a ∷ []))) k (length w ∷ w)) j
    ∙ padded_past (max_functions * function_words) (l ++ (q ∷ a ∷ [])) (length w ∷ w) 8 (omega arith)
    ∙ sym (padded_zeros (max_functions * function_words) (l ++ (q ∷ a ∷ []) ++ (zeros 8 ++ (length w ∷ w))) (max_name - length w) (omega arith))
    ∙ ap function_section
    (ap (λ (r : List ℕ). r ++ zeros (max_name - length w)) (append_assoc l (q ∷ a ∷ []) (zeros 8 ++ (length w ∷ w)))
    ∙ append_assoc l ((q ∷ a ∷ []) ++ (zeros 8 ++ (length w ∷ w))) (zeros (max_name - length w))
    ∙ ap (λ (r : List ℕ). l ++ r) (head_front q a w))

module _ (s : List ℕ) where
  head_is : (o q a f e : ℕ) (p : Draft) → note p.notes function_count < max_functions
      → (head s o q a f e p).table
      ≡ sets (sets p.table (functions_start + function_words * note p.notes function_count) (q ∷ a ∷ []))
      (functions_start + function_words * note p.notes function_count + 10) (length (between s f e) ∷ between s f e)
  unfolding head headed rowed
  head_is o q a f e p h = ap (λ (r : Draft). r.table) (pick_true _ _ _ (lt-ltb (note p.notes function_count) max_functions h))

  pub head_writes : {t : Sections} {ns : List ℕ} {p : Draft} (l : List ℕ) (o q a f e : ℕ) → Writing t ns p → get_or t section.functions [] ≡ function_section l
      → length l ≡ note p.notes function_count * function_words → note p.notes function_count < max_functions → length (between s f e) ≤ max_name
      → Writing (set t section.functions (function_section (l ++ begun_row q a (between s f e)))) ns (head s o q a f e p)
  head_writes {t} {ns} {p} l o q a f e w r n m k =
      let i = function_words * note p.notes function_count in
      let j : function_words * note p.notes function_count ≡ length l = omega arith in
      writing_held (head s o q a f e p)
      (stored_again t (head s o q a f e p) section.functions (i + 10) (functions_start + i + 10) (length (between s f e) ∷ between s f e) (function_section (l ++ (q ∷ a ∷ [])))
      (omega arith) (omega arith) (omega arith) (head_is o q a f e p m) (head_row l (note p.notes function_count) q a (between s f e) n m k)
      (stored (with_table p (sets p.table (functions_start + i) (q ∷ a ∷ []))) section.functions i (functions_start + i) (q ∷ a ∷ []) (omega arith) refl (omega arith) refl
      ((λ x. sets (r x) (j x) (q ∷ a ∷ [])) ∙ padded_more (max_functions * function_words) l (q ∷ a ∷ []) (omega arith)) w.holds))
      (head_keeps written written_spared s o q a f e p refl) w

-- ---- the rest

rest_is : (i last first condition body event events : ℕ) (p : Draft) → i < max_functions
    → (function_rest i last first condition body event events p).table
    ≡ sets p.table (functions_start + function_words * i + 2)
    (last ∷ note p.notes 3 ∷ note p.notes 4 ∷ first ∷ condition ∷ body ∷ event ∷ events ∷ [])
unfolding function_rest
rest_is i last first condition body event events p h = ap (λ (q : Draft). q.table) (pick_true _ _ _ (lt-ltb i max_functions h))

-- the row of a function
row_is_function : (first event : ℕ) (f : Function) {q a last values parameters condition body events : ℕ} {w : Word}
    → q ≡ f.state → a ≡ f.party → last ≡ f.last → values ≡ length f.values → parameters ≡ length f.parameters → condition ≡ precondition_size f.precondition
    → body ≡ block_size f.body → events ≡ length f.events → w ≡ f.name
    → (q ∷ a ∷ last ∷ values ∷ parameters ∷ first ∷ condition ∷ body ∷ event ∷ events ∷ name_row w) ≡ function_row first event f
unfolding function_row
row_is_function first event f a b c d e g h i j =
    λ x. a x ∷ b x ∷ c x ∷ d x ∷ e x ∷ first ∷ g x ∷ h x ∷ event ∷ i x ∷ name_row (j x)

-- with it, the row of a function stands behind the others
pub rest_writes : {t : Sections} {ns : List ℕ} {p : Draft} (l : List ℕ) (w : Word) (f : Function) (q a i last first condition body event events : ℕ)
    → Writing t ns p
    → get_or t section.functions [] ≡ function_section (l ++ begun_row q a w) → length l ≡ i * function_words → i < max_functions
    → q ≡ f.state → a ≡ f.party → last ≡ f.last → note p.notes 3 ≡ length f.values → note p.notes 4 ≡ length f.parameters
    → condition ≡ precondition_size f.precondition → body ≡ block_size f.body → events ≡ length f.events → w ≡ f.name
    → Writing (set t section.functions (function_section (l ++ function_row first event f))) ns (function_rest i last first condition body event events p)
unfolding function_rest
rest_writes {t} {ns} {p} l w f q a i last first condition body event events h r n m e1 e2 e3 e4 e5 e6 e7 e8 e9 =
    writing_held (function_rest i last first condition body event events p)
    (stored (function_rest i last first condition body event events p) section.functions (function_words * i + 2) (functions_start + function_words * i + 2) words
    (omega arith) (omega arith) (omega arith) (rest_is i last first condition body event events p m) same h.holds)
    (by_cases (λ (d : Draft). Keeps written p.notes d.notes) _ _ _ (λ _. keeps_all written p.notes) (λ _. keeps_all written p.notes)) h
  where
    words : List ℕ
    words = last ∷ note p.notes 3 ∷ note p.notes 4 ∷ first ∷ condition ∷ body ∷ event ∷ events ∷ []

    same : sets (get_or t section.functions []) (function_words * i + 2) words ≡ function_section (l ++ function_row first event f)
    same =
        let j : function_words * i + 2 ≡ length l + 2 = omega arith in
        (λ x. sets (r x) (j x) words)
        ∙ padded_replaced (max_functions * function_words) l (begun_row q a w) (q ∷ a ∷ (words ++ name_row w)) 2 words (omega arith) refl
        ∙ ap (λ (row : List ℕ). function_section (l ++ row)) (row_is_function first event f e1 e2 e3 e4 e5 e6 e7 e8 e9)

pub function_row_is_long : (first event : ℕ) (f : Function) → length f.name ≤ max_name → length (function_row first event f) ≡ function_words
unfolding function_row
function_row_is_long first event f h = omega (arith, name_row_long f.name h)

-- ---- events

event_row_is : (i state last n : ℕ) (t : List ℕ) → i < max_events → event_row i state last n t ≡ sets t (events_start + event_words * i) (state ∷ last ∷ n ∷ [])
unfolding event_row
event_row_is i state last n t h = pick_true _ _ _ (lt-ltb i max_events h)

pub event_written_writes : {t : Sections} {ns : List ℕ} {p : Draft} (s l : List ℕ) (i state last handler before : ℕ) → Writing t ns p → nodes p < max_nodes
    → get_or t section.events [] ≡ event_section l → length l ≡ i * event_words → i < max_events
    → Writing (set t section.events (event_section (l ++ (state ∷ last ∷ nodes p ∷ [])))) (ns ++ node event_kind handler (nodes p - before + 1))
    (event_written s i state last handler before p)
event_written_writes {t} {ns} {p} s l i state last handler before w h r e m =
    let u : Writing t (ns ++ node event_kind handler (nodes p - before + 1)) (put event_kind handler before p) = put_writes event_kind handler before w h in
    let v = event_written s i state last handler before p in
    let j : event_words * i ≡ length l = omega arith in
    writing_held v
    (stored v section.events (event_words * i) (events_start + event_words * i) (state ∷ last ∷ nodes p ∷ []) (omega arith) refl (omega arith)
    (event_row_is i state last (nodes p) (put event_kind handler before p).table m)
    ((λ x. sets (r x) (j x) (state ∷ last ∷ nodes p ∷ [])) ∙ padded_more (max_events * event_words) l (state ∷ last ∷ nodes p ∷ []) (omega arith)) u.holds)
    (keeps_all written _) u
