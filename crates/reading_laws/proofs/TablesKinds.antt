-- The kinds of nodes of operators and fixed words, and what well sorted terms are. Assumes nothing.
use mathlib.Core.Path.{◌≡◌, refl, sym, subst}
use mathlib.Core.Bool.{true}
use mathlib.Core.List.{[], ◌∷◌}
use Prim.Native.Nat.{ℕ}
use lib.Dec.{eqb}
use borrow.Author.Tests.{eqb-true}
use Rattle.laws.specs.Choice.{pick}
use Rattle.laws.proofs.Choice.{pick_true}
use Rattle.words.specs.Words.{now_word, true_word, false_word, and_mark, or_mark}
use Rattle.contract.specs.Table.{now_kind, and_kind, or_kind}
use Rattle.contract.specs.Encode.{operator_kind, comparison_kind, truth_kind}
use Rattle.reading.specs.Grammar.{is_one_of, comparisons}
use Rattle.reading.specs.Resolve.{operator_of, comparison_of}
use Rattle.reading_laws.specs.Walk.{operator_node}
use Rattle.reading_laws.proofs.Run.{fixed_node}
use Rattle.reading.proofs.TokenKinds.{one_of}
use Rattle.accepted.proofs.Sorted.{arithmetic}

pub operator_node_lem : (k : ℕ) → is_one_of arithmetic k ≡ true → operator_node k ≡ operator_kind (operator_of k)
unfolding operator_node pick
operator_node_lem k o = one_of (λ k. operator_node k ≡ operator_kind (operator_of k)) arithmetic k (refl, (refl, (refl, (refl, tt)))) o

pub comparison_node : (k : ℕ) → is_one_of comparisons k ≡ true → operator_node k ≡ comparison_kind (comparison_of k)
unfolding operator_node pick
comparison_node k o = one_of (λ k. operator_node k ≡ comparison_kind (comparison_of k)) comparisons k (refl, (refl, (refl, (refl, (refl, (refl, tt)))))) o

pub and_node : (k : ℕ) → eqb k and_mark ≡ true → operator_node k ≡ and_kind
unfolding operator_node pick
and_node k e = subst (λ (k : ℕ). operator_node k ≡ and_kind) (sym (eqb-true k and_mark e)) refl

pub or_node : (k : ℕ) → eqb k or_mark ≡ true → operator_node k ≡ or_kind
unfolding operator_node pick
or_node k e = subst (λ (k : ℕ). operator_node k ≡ or_kind) (sym (eqb-true k or_mark e)) refl

pub truth_node : (k : ℕ) → is_one_of (true_word ∷ false_word ∷ []) k ≡ true → fixed_node k ≡ truth_kind (eqb k true_word)
unfolding pick
truth_node k o = one_of (λ k. fixed_node k ≡ truth_kind (eqb k true_word)) (true_word ∷ false_word ∷ []) k (refl, (refl, tt)) o

pub now_node : (k : ℕ) → eqb k now_word ≡ true → fixed_node k ≡ now_kind
now_node k e = pick_true _ _ _ e
