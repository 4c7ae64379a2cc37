-- What the pass over a table of zeros leaves is what reading means.
use Prim.Native.Nat.{ℕ, ◌%◌, ◌≤◌}
use native.Mathlib.Omega.{arith}
use mathlib.Core.Path.{◌≡◌, refl, sym, ap, ◌∙◌, subst}
use mathlib.Core.Bool.{Bool, true, false}
use mathlib.Core.List.{List, []}
use lib.ListN.{length, get_or}
use lib.Dec.{eqb}
use borrow.Author.Tests.{le-leb}
use Rattle.laws.specs.Choice.{pick}
use Rattle.laws.proofs.Choice.{pick_true, pick_false}
use Rattle.contract.specs.Encode.{encode}
use Rattle.entries.specs.Draft.{note, question, place, counts}
use Rattle.reading.specs.Syntax.{Syntax}
use Rattle.reading.specs.Grammar.{Parsed, done, no, parse}
use Rattle.reading.specs.Items.{items}
use Rattle.reading.specs.Rules.{Finding, fine, breaks, judged}
use Rattle.reading.specs.Resolve.{resolve}
use Rattle.reading.specs.Reading.{Reading, Answered, refusal, ruled, parsed, read_text, answer_of, table_of}
use Rattle.reading_laws.specs.Walk.{Walk, walk, Ends, settled_answer, settled_table}
use Rattle.std.specs.Prelude.{Ok, Err}
use Rattle.reading_laws.proofs.Run.{fresh, finding_of, walked, run_contract}

-- what the answer says of the table
pub record Reads (d : Reading) (r : Answered) (t : List ℕ) : Type 0 where
  pub answer : r ≡ answer_of d
  pub table : r ≡ Ok tt → t ≡ table_of 24659 d

abbrev answer_for : Finding → Answered
answer_for fine = Ok tt
answer_for (breaks q p) = Err (refusal q p)

abbrev fineness : Finding → ℕ
fineness fine = 0
fineness (breaks q p) = 1

abbrev acceptance : Answered → ℕ
acceptance (Ok x) = 0
acceptance (Err e) = 1

-- what is settled is the finding
settled_is : (n : List ℕ) → note n question ≤ 15 → settled_answer n ≡ answer_for (finding_of n)
unfolding settled_answer
settled_is n h = go (eqb (note n question) 0) refl
  where
    go : (b : Bool) → eqb (note n question) 0 ≡ b → pick (eqb (note n question) 0) (Ok tt) (Err (refusal (note n question % 256) (note n place))) ≡ answer_for (finding_of n)
    go true t = pick_true _ _ _ t ∙ sym (ap answer_for (pick_true _ _ _ t))
    go false t =
        pick_false _ _ _ t
        ∙ ap (λ (q : ℕ). Err (refusal q (note n place))) (omega arith)
        ∙ sym (ap answer_for (pick_false _ _ _ t))

settled_table_lem : (n t : List ℕ) → finding_of n ≡ fine → settled_table n t ≡ counts (get_or t 9 0) n t
unfolding settled_table
settled_table_lem n t e = go (eqb (note n question) 0) refl
  where
    go : (b : Bool) → eqb (note n question) 0 ≡ b → pick (eqb (note n question) 0) (counts (get_or t 9 0) n t) t ≡ counts (get_or t 9 0) n t
    go true f = pick_true _ _ _ f
    go false f = let z : ◌≡◌ {A = ℕ} 0 1 = ap fineness (sym e ∙ pick_false _ _ _ f) in absurd (omega (arith, z))

whole_text : (s : List ℕ) → length s ≤ 16384 → read_text s 24659 ≡ parsed s (parse s)
unfolding read_text
whole_text s h = pick_true _ _ _ (le-leb (length s) 16384 h) ∙ pick_true _ _ _ refl

module _
    (s : List ℕ)
    (walk_run : walk s fresh ≡ walked s (run_contract s) (parse s) fresh)
    (run_found : (c : Syntax) (n : ℕ) → parse s ≡ done c n → finding_of (run_contract s c fresh).notes ≡ judged s [] fine (items c))
    (run-least : (c : Syntax) (n : ℕ) → parse s ≡ done c n → note (run_contract s c fresh).notes question ≤ 15)
    (run_table : (c : Syntax) (n : ℕ) → parse s ≡ done c n → judged s [] fine (items c) ≡ fine
    → counts (get_or (run_contract s c fresh).table 9 0) (run_contract s c fresh).notes (run_contract s c fresh).table ≡ encode (resolve s c))
  where
    reads_tree : (c : Syntax) (n : ℕ) → parse s ≡ done c n → (f : Finding) → judged s [] fine (items c) ≡ f → (r : Answered) (t : List ℕ)
        → r ≡ settled_answer (run_contract s c fresh).notes → t ≡ settled_table (run_contract s c fresh).notes (run_contract s c fresh).table
        → Reads (ruled s c f) r t
    reads_tree c n e fine j r t a b =
        record {
          answer = a ∙ settled_is (run_contract s c fresh).notes (run-least c n e) ∙ ap answer_for (run_found c n e ∙ j);
          table = λ x. b ∙ settled_table_lem (run_contract s c fresh).notes (run_contract s c fresh).table (run_found c n e ∙ j) ∙ run_table c n e j;
        }
    reads_tree c n e (breaks q p) j r t a b =
        let k : r ≡ Err (refusal q p) = a ∙ settled_is (run_contract s c fresh).notes (run-least c n e) ∙ ap answer_for (run_found c n e ∙ j) in
        record {
          answer = k;
          table = λ x. let z : ◌≡◌ {A = ℕ} 0 1 = ap acceptance (sym x ∙ k) in absurd (omega (arith, z));
        }

    reads_parse : (d : Parsed Syntax) → parse s ≡ d → (r : Answered) (t : List ℕ) → Ends (walked s (run_contract s) d fresh) r t → Reads (parsed s d) r t
    unfolding Ends walked
    reads_parse (done c n) e r t (a, b) = reads_tree c n e (judged s [] fine (items c)) refl r t a b
    reads_parse (no q o) e r t a =
        record {
          answer = a;
          table = λ x. let z : ◌≡◌ {A = ℕ} 0 1 = ap acceptance (sym x ∙ a) in absurd (omega (arith, z));
        }

    pub reads : length s ≤ 16384 → (r : Answered) (t : List ℕ) → Ends (walk s fresh) r t → Reads (read_text s 24659) r t
    reads h r t e =
        subst (λ (d : Reading). Reads d r t) (sym (whole_text s h))
        (reads_parse (parse s) refl r t (subst (λ (w : Walk). Ends w r t) walk_run e))
