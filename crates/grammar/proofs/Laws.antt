-- Laws of appended lists and of tokens' kinds. Assumes nothing.
use mathlib.Core.Path.{◌≡◌, subst}
use mathlib.Core.Bool.{Bool, true, false}
use mathlib.Core.List.{List, [], ◌∷◌, ◌++◌}
use Prim.Native.Nat.{ℕ}
use lib.Dec.{eqb}
use Rattle.laws.specs.Choice.{pick}
use Rattle.laws.proofs.Choice.{true_false}
use Rattle.tokens.specs.declared.Token.{Token}
use Rattle.laws.specs.Lists.{every}
use Rattle.reading.specs.Grammar.{is_one_of}
use Rattle.reading.proofs.TokenKinds.{wider}
use Rattle.grammar.specs.Derivations.{Starts}

abbrev IsSome : {A : Type 0} → List A → Type 0
IsSome [] = ⊥
IsSome (x ∷ xs) = Unit {0}

pub snoc_some : {A X : Type 0} (xs : List A) (x : A) → xs ++ (x ∷ []) ≡ [] → X
snoc_some [] x e = absurd (subst IsSome e tt)
snoc_some (y ∷ xs) x e = absurd (subst IsSome e tt)

pub starts_append : (ks : List ℕ) (ts us : List Token) → Starts ks ts → Starts ks (ts ++ us)
starts_append ks [] us h = absurd h
starts_append ks (o ∷ ts) us h = h

pub drop_first : (j : ℕ) (ks : List ℕ) (k : ℕ) → is_one_of (j ∷ []) k ≡ false → is_one_of (j ∷ ks) k ≡ true → is_one_of ks k ≡ true
unfolding is_one_of pick
drop_first j ks k e f = go (eqb k j) e f
  where
    go : (b : Bool) → pick b true false ≡ false → pick b true (is_one_of ks k) ≡ true → is_one_of ks k ≡ true
    go true p q = true_false p
    go false p q = q

pub starts_wider : (ks js : List ℕ) (ts : List Token) → every (is_one_of ks) js ≡ true → Starts js ts → Starts ks ts
starts_wider ks js [] a k = absurd k
starts_wider ks js (o ∷ ts) a k = wider ks js o.kind a k
