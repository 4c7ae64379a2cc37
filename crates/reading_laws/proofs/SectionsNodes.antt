-- What the acts on nodes do to the nodes of a table. Assumes nothing.
use mathlib.Core.Path.{◌≡◌, sym, ap, ◌∙◌, subst}
use mathlib.Core.Bool.{false}
use mathlib.Core.List.{List, [], ◌∷◌, ◌++◌}
use Prim.Native.Nat.{ℕ, ◌+◌, ◌-◌, ◌*◌, ◌<◌}
use native.Mathlib.Omega.{arith}
use lib.ListN.{length, set, length-set, length-append}
use lib.Seq.{sets}
use lib.Dec.{eqb}
use borrow.Author.Tests.{lt-ltb}
use Rattle.laws.proofs.Choice.{pick_true}
use Rattle.contract.specs.Limits.{max_nodes}
use Rattle.contract.specs.Table.{nodes_start, node_words}
use Rattle.contract.specs.Encode.{padded, node}
use Rattle.entries.specs.declared.Known.{Known}
use Rattle.entries.specs.Draft.{Draft, with_notes, counted, wanted, put, put_name, put_leaf, written, notes_length}
use Rattle.reading_laws.specs.Walk.{draft, nodes, counting, noting}
use Rattle.reading_laws.proofs.TableSections.{Sections, Holds, noted, node_stored}
use Rattle.reading_laws.proofs.SectionsRows.{padded_more}
use Rattle.reading_laws.proofs.NotesKept.{Keeps, keeps_then, set_keeps, set_same, written_spared, counted_keeps, wanted_keeps}

-- a pass that has written these nodes; the other sections are those of t
pub record Writing (t : Sections) (ns : List ℕ) (p : Draft) : Type 0 where
  pub holds : Holds t (padded (max_nodes * node_words) ns) p
  pub long : length ns ≡ 3 * nodes p
  pub size : length p.notes ≡ notes_length

pub writing_same : {t : Sections} {ns ms : List ℕ} {p : Draft} → ns ≡ ms → Writing t ns p → Writing t ms p
writing_same {t} {ns} {ms} {p} e w = subst (λ (l : List ℕ). Writing t l p) e w

pub writing_described : {t u : Sections} {ns : List ℕ} {p : Draft} → t ≡ u → Writing t ns p → Writing u ns p
writing_described {t} {u} {ns} {p} e w = subst (λ (v : Sections). Writing v ns p) e w

-- another pass with as many nodes whose table has other sections
pub writing_held : {t u : Sections} {ns : List ℕ} {p : Draft} (q : Draft) → Holds u (padded (max_nodes * node_words) ns) q → Keeps written p.notes q.notes → Writing t ns p → Writing u ns q
writing_held q h k w = record { holds = h; long = w.long ∙ ap (λ (k : ℕ). 3 * k) (sym k.same); size = k.long ∙ w.size }

pub writing_noted : {t : Sections} {ns : List ℕ} {p : Draft} (n : List ℕ) → Keeps written p.notes n → Writing t ns p → Writing t ns (with_notes p n)
writing_noted {p = p} n k w = writing_held (with_notes p n) (noted n w.holds) k w

-- ---- acts that write no node

pub counting_writes : {t : Sections} {ns : List ℕ} {p : Draft} (k o : ℕ) → k < 10 → Writing t ns p → Writing t ns (counting k o p)
counting_writes {p = p} k o e w = writing_noted (counted k o p.notes) (counted_keeps written written_spared k o p.notes e) w

pub noting_writes : {t : Sections} {ns : List ℕ} {p : Draft} (i v : ℕ) → eqb written i ≡ false → Writing t ns p → Writing t ns (noting i v p)
noting_writes {p = p} i v e w = writing_noted (set p.notes i v) (set_keeps written p.notes i v e) w

pub wanted_writes : {t : Sections} {ns : List ℕ} {p : Draft} (x : Known) (o : ℕ) → Writing t ns p → Writing t ns (with_notes p (wanted x o p.notes))
wanted_writes {p = p} x o w = writing_noted (wanted x o p.notes) (wanted_keeps written written_spared x o p.notes) w

-- ---- nodes

-- a node that finds room
put_is : (kind argument before : ℕ) (p : Draft) → nodes p < max_nodes
    → put kind argument before p
    ≡ draft (sets p.table (nodes_start + node_words * nodes p) (kind ∷ argument ∷ (nodes p - before + 1) ∷ [])) (set p.notes written (nodes p + 1))
unfolding put
put_is kind argument before p h = pick_true _ _ _ (lt-ltb (nodes p) max_nodes h)

pub put_writes : {t : Sections} {ns : List ℕ} {p : Draft} (kind argument before : ℕ) → Writing t ns p → nodes p < max_nodes
    → Writing t (ns ++ node kind argument (nodes p - before + 1)) (put kind argument before p)
put_writes {t} {ns} {p} kind argument before w h =
    let r = put_is kind argument before p h in
    let n : nodes (put kind argument before p) ≡ nodes p + 1 = ap (λ (q : Draft). nodes q) r ∙ set_same p.notes written (nodes p + 1) (omega (arith, w.size)) in
    let l = length-append ns (node kind argument (nodes p - before + 1)) in
    record {
      holds =
          subst (λ (l : List ℕ). Holds t l (put kind argument before p)) same
          (node_stored (put kind argument before p) (3 * nodes p) (node kind argument (nodes p - before + 1)) (omega arith) (ap (λ (q : Draft). q.table) r) w.holds);
      long = omega (arith, w.long);
      size = ap (λ (q : Draft). length q.notes) r ∙ length-set p.notes written (nodes p + 1) ∙ w.size;
    }
  where
    same : sets (padded (max_nodes * node_words) ns) (3 * nodes p) (node kind argument (nodes p - before + 1))
        ≡ padded (max_nodes * node_words) (ns ++ node kind argument (nodes p - before + 1))
    same =
        ap (λ (k : ℕ). sets (padded (max_nodes * node_words) ns) k (node kind argument (nodes p - before + 1))) (sym w.long)
        ∙ padded_more (max_nodes * node_words) ns (node kind argument (nodes p - before + 1)) (omega (arith, w.long))

-- a node without parts
pub leaf_writes : {t : Sections} {ns : List ℕ} {p : Draft} (kind argument before : ℕ) → before ≡ nodes p → Writing t ns p → nodes p < max_nodes
    → Writing t (ns ++ node kind argument 1) (put kind argument before p)
leaf_writes {t} {ns} {p} kind argument before e w h =
    let z : nodes p - before + 1 ≡ 1 = omega arith in
    writing_same (ap (λ (k : ℕ). ns ++ node kind argument k) z) (put_writes kind argument before w h)

pub put_name_writes : {t : Sections} {ns : List ℕ} {p : Draft} (x : Known) (o : ℕ) → Writing t ns p → nodes p < max_nodes
    → Writing t (ns ++ node x.kind x.number 1) (put_name x o p)
unfolding put_name
put_name_writes {t} {ns} {p} x o w h =
    let e : nodes (with_notes p (wanted x o (counted 9 o p.notes))) ≡ nodes p =
    (keeps_then (counted_keeps written written_spared 9 o p.notes (omega arith)) (wanted_keeps written written_spared x o (counted 9 o p.notes))).same in
    leaf_writes x.kind x.number (nodes p) (sym e) (wanted_writes x o (counting_writes 9 o (omega arith) w)) (omega arith)

pub put_leaf_writes : {t : Sections} {ns : List ℕ} {p : Draft} (kind argument o : ℕ) → Writing t ns p → nodes p < max_nodes
    → Writing t (ns ++ node kind argument 1) (put_leaf kind argument o p)
unfolding put_leaf
put_leaf_writes {t} {ns} {p} kind argument o w h =
    let e : nodes (with_notes p (counted 9 o p.notes)) ≡ nodes p = (counted_keeps written written_spared 9 o p.notes (omega arith)).same in
    leaf_writes kind argument (nodes p) (sym e) (counting_writes 9 o (omega arith) w) (omega arith)
