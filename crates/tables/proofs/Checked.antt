-- Nodes, clauses, the head and the names, as the code finds them. Assumes nothing.
use mathlib.Core.Path.{◌≡◌, refl, sym, subst, ◌∙◌}
use mathlib.Core.Bool.{Bool, true, false, ◌&&◌}
use mathlib.Core.List.{List}
use Prim.Native.Nat.{ℕ, suc, ◌+◌, ◌*◌, ◌≤◌}
use native.Mathlib.Omega.{arith}
use native.Mathlib.Numerals.{add-one}
use Rattle.laws.specs.Choice.{pick}
use Rattle.contract.specs.Table.{word_at, kind_at}
use Rattle.contract.specs.Rows.{head_of}
use Rattle.contract.proofs.Passed.{head_passed}
use Rattle.laws.specs.Lists.{all_below}
use Rattle.contract.specs.declared.TableHead.{TableHead}
use Rattle.contract.specs.Check.{is_sort, statement, statements_in, head_ok, name_ok, string_ok, names_ok}

-- one more node
pub statements_more : (w : List ℕ) (from j count : ℕ) → count ≡ statements_in w from j
    → {r : ℕ} → r ≡ pick (is_sort statement (kind_at w (from + j))) (suc count) count → r ≡ statements_in w from (j + 1)
unfolding statements_in
statements_more w from j count e f = rw (add-one j) (f ∙ λ i. pick (is_sort statement (kind_at w (from + j))) (suc (e i)) (e i))

pub counted_most : (b : Bool) (n : ℕ) {r : ℕ} → r ≡ pick b (suc n) n → r ≤ n + 1
unfolding pick
counted_most true n e = omega arith
counted_most false n e = omega arith

-- ---- the head
pub record Limits (h : TableHead) : Type 0 where
  pub parties : h.parties ≤ 8
  pub assets : h.assets ≤ 16
  pub fields : h.fields ≤ 32
  pub states : h.states ≤ 32
  pub strings : h.strings ≤ 32
  pub functions : h.functions ≤ 64
  pub nodes : h.nodes ≤ 4096

pub limits : (w : List ℕ) (h : TableHead) → h ≡ head_of w → head_ok w ≡ true → Limits h
limits w h e f =
    let p = head_passed w f in
    subst Limits (sym e)
    (record {
      parties = p.parties;
      assets = p.assets;
      fields = p.fields;
      states = p.states;
      strings = p.strings;
      functions = p.functions;
      nodes = p.nodes;
    })

pub functions_most : (w : List ℕ) → head_ok w ≡ true → word_at w 6 ≤ 64
functions_most w e = (head_passed w e).functions

pub nodes_most : (w : List ℕ) → head_ok w ≡ true → word_at w 8 ≤ 4096
nodes_most w e = (head_passed w e).nodes

pub and_assoc : (a b c : Bool) → (a && (b && c)) ≡ ((a && b) && c)
and_assoc true b c = refl
and_assoc false b c = refl

pub names_as : (w : List ℕ) (h : TableHead) → h ≡ head_of w
    → (name_ok w 10
    && (all_below h.parties (λ i. name_ok w (43 + i * 33))
    && (all_below h.assets (λ i. name_ok w (307 + i * 33))
    && (all_below h.fields (λ i. name_ok w (835 + i * 33))
    && (all_below h.states (λ i. name_ok w (1891 + i * 33))
    && all_below h.strings (λ i. string_ok w (2947 + i * 65))))))) ≡ names_ok w
unfolding names_ok
names_as w h e = λ t. name_ok w 10
    && (all_below (e t).parties (λ i. name_ok w (43 + i * 33))
    && (all_below (e t).assets (λ i. name_ok w (307 + i * 33))
    && (all_below (e t).fields (λ i. name_ok w (835 + i * 33))
    && (all_below (e t).states (λ i. name_ok w (1891 + i * 33))
    && all_below (e t).strings (λ i. string_ok w (2947 + i * 65))))))
