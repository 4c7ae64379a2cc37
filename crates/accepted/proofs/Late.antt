-- Items after the agreement declare none of the names that all functions share. Assumes nothing.
use mathlib.Core.Path.{◌≡◌, refl, sym, ◌∙◌}
use mathlib.Core.Bool.{Bool, true, false}
use mathlib.Core.List.{List, [], ◌∷◌}
use Prim.Native.Nat.{ℕ, ◌<◌, ◌≤◌}
use native.Mathlib.Omega.{arith}
use lib.Dec.{eqb, ltb}
use borrow.Author.Tests.{ltb-true, eqb-true}
use Rattle.laws.proofs.Choice.{true_false, pick_false}
use Rattle.laws.proofs.Members.{every_append}
use Rattle.laws.proofs.Truths.{both_left, both_right, both_true}
use Rattle.laws.specs.Lists.{every}
use Rattle.reading.specs.Syntax.{Span, Function}
use Rattle.reading.specs.Grammar.{is_one_of}
use Rattle.reading.specs.Items.{Item, declares, mentions, uses, counts, opens, heads, closes, of_each, declared, function_items}
use Rattle.reading.specs.Rules.{known}
use Rattle.reading.specs.Resolve.{Names, latest_first}
use Rattle.accepted.proofs.Known.{plain}
use Rattle.reading.proofs.TokenKinds.{Each}
use Rattle.accepted.proofs.Sorted.{FunctionSorted}
use Rattle.accepted.proofs.CodeItems.{code_items, code_of}

-- items that declare none of the names that all functions share
abbrev pub late : Item → Bool
late (declares j x) = ltb 2 j
late (mentions j x p) = ltb 4 j
late (uses ks x) = true
late (counts j p) = true
late opens = true
late (heads p q a f) = true
late (closes p cs) = true

plain_late_one : (i : Item) → plain i ≡ true → late i ≡ true
plain_late_one (declares j x) e = true_false (sym e)
plain_late_one (mentions j x p) e = both_left (ltb 4 j) (ltb j 7) e
plain_late_one (uses ks x) e = refl
plain_late_one (counts j p) e = refl
plain_late_one opens e = refl
plain_late_one (heads p q a f) e = refl
plain_late_one (closes p cs) e = refl

pub plain_late : (is : List Item) → every plain is ≡ true → every late is ≡ true
unfolding every
plain_late [] e = refl
plain_late (i ∷ is) e = both_true _ _ (plain_late_one i (both_left (plain i) (every plain is) e)) (plain_late is (both_right (plain i) (every plain is) e))

module _ (s : List ℕ) where
  late_item : (k : ℕ) (i : Item) (b : List Item) → k ≤ 2 → late i ≡ true → known s k (i ∷ b) ≡ known s k b
  unfolding known is_one_of
  late_item k (declares j x) b h e = pick_false _ _ _ (differ (eqb j k) refl)
    where
      differ : (t : Bool) → eqb j k ≡ t → t ≡ false
      differ true q = let z : 2 < j = ltb-true _ _ e in let y : j ≡ k = eqb-true _ _ q in absurd (omega arith)
      differ false q = refl
  late_item k (mentions j x p) b h e = pick_false _ _ _ (differ (eqb j k) refl)
    where
      differ : (t : Bool) → eqb j k ≡ t → t ≡ false
      differ true q = let z : 4 < j = ltb-true _ _ e in let y : j ≡ k = eqb-true _ _ q in absurd (omega arith)
      differ false q = refl
  late_item k (uses ks x) b h e = refl
  late_item k (counts j p) b h e = refl
  late_item k opens b h e = refl
  late_item k (heads p q a f) b h e =
      pick_false _ _ _ (pick_false _ _ _ (differ (eqb k 3) 3 refl (omega arith)) ∙ pick_false _ _ _ (differ (eqb k 4) 4 refl (omega arith)))
    where
      differ : (t : Bool) (m : ℕ) → eqb k m ≡ t → 2 < m → t ≡ false
      differ true m q z = let y : k ≡ m = eqb-true _ _ q in absurd (omega arith)
      differ false m q z = refl
  late_item k (closes p cs) b h e = refl

  pub late_known : (k : ℕ) (is b : List Item) → k ≤ 2 → every late is ≡ true → known s k (latest_first b is) ≡ known s k b
  unfolding latest_first every
  late_known k [] b h e = refl
  late_known k (i ∷ is) b h e = late_known k is (i ∷ b) h (both_right (late i) (every late is) e) ∙ late_item k i b h (both_left (late i) (every late is) e)

  declared_late : (k : ℕ) (xs : List Span) → ltb 2 k ≡ true → every late (declared k xs) ≡ true
  unfolding of_each every
  declared_late k [] e = refl
  declared_late k (x ∷ xs) e = both_true _ _ e (declared_late k xs e)

  pub function_late : (N : Names) (f : Function) → FunctionSorted s f → every late (function_items f) ≡ true
  unfolding function_items every
  function_late N f h =
      every_append late (declared 3 f.values) _ (declared_late 3 f.values refl)
      (every_append late (declared 4 f.parameters) (code_items f) (declared_late 4 f.parameters refl) (plain_late (code_items f) (code_of s N f h).plains))

  pub functions_late : (N : Names) (fs : List Function) → Each (FunctionSorted s) fs → every late (of_each function_items fs) ≡ true
  unfolding of_each every
  functions_late N [] h = refl
  functions_late N (f ∷ fs) h = every_append late (function_items f) (of_each function_items fs) (function_late N f h.0) (functions_late N fs h.1)
