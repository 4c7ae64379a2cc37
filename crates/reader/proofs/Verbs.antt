-- The verb that a clause's word stands for, as it is compared. Assumes nothing.
use mathlib.Core.Path.{◌≡◌, refl, sym, ap, ◌∙◌}
use mathlib.Core.Bool.{Bool, true, false, beq}
use Prim.Native.Nat.{ℕ}
use lib.Dec.{eqb}
use denote.Enum.Bare.{sameb}
use borrow.Author.Tests.{eqb-true, eqb-false}
use Rattle.laws.specs.Choice.{pick}
use Rattle.contract.specs.Tree.{set, ok}
use Rattle.contract.specs.Decode.{verb_of}
use Rattle.contract.specs.Rows.{said, clause_row_of}
use Rattle.contract.specs.Table.{clause_word}
use Rattle.contract.specs.declared.Clause.{Clause as Row}
use mathlib.Core.List.{List}
use Rattle.contract.specs.declared.Verb as rows
use Rattle.contract.specs.contracts.Verb.{the_type}
use Rattle.contract.specs.declared.Verb.TheVariants.{Set, Ok}
use Rattle.reading.specs.Rules.{is_set}

verb_set : (b : Bool) → is_set (pick b set ok) ≡ b
unfolding pick
verb_set true = refl
verb_set false = refl

same : (a b : rows.Verb) → sameb the_type a b ≡ beq (is_set (said a)) (is_set (said b))
same Set Set = refl
same Set Ok = refl
same Ok Set = refl
same Ok Ok = refl

module _ (a : rows.Verb) (n : ℕ) (p : said a ≡ verb_of n) where
  word : is_set (said a) ≡ eqb n 0
  word = ap is_set p ∙ verb_set (eqb n 0)

  pub is_verb : (b : rows.Verb) → sameb the_type a b ≡ beq (eqb n 0) (is_set (said b))
  is_verb b = same a b ∙ ap (λ (x : Bool). beq x (is_set (said b))) word

set_is : (a : rows.Verb) → sameb the_type a Set ≡ true → is_set (said a) ≡ true
set_is Set h = refl
set_is Ok h = h

set_not : (a : rows.Verb) → sameb the_type a Set ≡ false → is_set (said a) ≡ false
set_not Set h = h
set_not Ok h = refl

-- the word, where the verb is one or is not
module _ (a : rows.Verb) (n : ℕ) (p : said a ≡ verb_of n) where
  pub word_set : sameb the_type a Set ≡ true → n ≡ 0
  word_set h = eqb-true n 0 (sym (word a n p) ∙ set_is a h)

  pub word_not_set : sameb the_type a Set ≡ false → n ≡ 0 → ⊥
  word_not_set h = eqb-false n 0 (sym (word a n p) ∙ set_not a h)

-- whether a row's verb is SET
pub row_sets : (w : List ℕ) (i : ℕ) (r : Row) (a : rows.Verb) → said a ≡ verb_of r.verb → r ≡ clause_row_of w i
    → sameb the_type a Set ≡ eqb (clause_word w i 1) 0
row_sets w i r a p q = is_verb a r.verb p Set ∙ beq_set (eqb r.verb 0) ∙ ap (λ (k : Row). eqb k.verb 0) q
  where
    beq_set : (x : Bool) → beq x true ≡ x
    beq_set true = refl
    beq_set false = refl
