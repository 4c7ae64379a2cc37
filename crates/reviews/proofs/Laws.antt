-- A number in a list, and a field in clauses, by their places. Assumes nothing.
use Rattle.std.proofs.Common.{◌≡◌, ℕ, zero, suc, ◌+◌, Bool, true, false, not, ◌&&◌, ◌||◌, List, [], ◌∷◌, length, refl, sym, ap, ◌∙◌, arith}
use lib.ListN.{get_or}
use lib.Dec.{eqb}
use Rattle.laws.specs.Choice.{pick}
use Rattle.laws.proofs.Choice.{pick_true, pick_false}
use Rattle.laws.proofs.Ranges.{any_below, first_other, any_same}
use Rattle.contract.specs.Table.{word_at}
use Rattle.contract.specs.Tree.{Verb, Clause}
use Rattle.contract.specs.Tree as tree
use Rattle.contract.specs.Decode.{each_from, clause_at, contract_of}
use Rattle.contract.specs.Check.{passes}
use Rattle.reviews.specs.Reviews.{is_in, names, unagreed, never_agreed}
use Rattle.reviews.specs.Private.{says}

pub in_places : (x : ℕ) (l : List ℕ) → is_in x l ≡ any_below (length l) (λ j. eqb x (get_or l j 0))
unfolding is_in
in_places x [] = refl
in_places x (y ∷ ys) =
    ap (λ (t : Bool). eqb x y || t) (in_places x ys) ∙ sym (first_other (λ j. eqb x (get_or (y ∷ ys) j 0)) (length ys))

names_from : (v : Verb) (x : ℕ) (f : ℕ → Clause) (i n : ℕ) → names v x (each_from i n f) ≡ any_below n (λ k. says v x (f (i + k)))
unfolding names each_from
names_from v x f i zero = refl
names_from v x f i (suc n) =
    let here : i ≡ i + 0 = omega arith in
    let later : (k : ℕ) → suc i + k ≡ i + suc k = λ k. omega arith in
    (λ t. says v x (f (here t)) || (names_from v x f (suc i) n ∙ any_same n _ _ (λ k h. ap (λ (j : ℕ). says v x (f j)) (later k))) t)
    ∙ sym (first_other (λ k. says v x (f (i + k))) n)

pub names_places : (w : List ℕ) (v : Verb) (x : ℕ) → any_below (word_at w 5) (λ i. says v x (clause_at w i)) ≡ names v x (contract_of w).clauses
unfolding contract_of
names_places w v x =
    any_same (word_at w 5) _ _ (λ k h. ap (λ (j : ℕ). says v x (clause_at w j)) (omega arith)) ∙ sym (names_from v x (clause_at w) 0 (word_at w 5))

-- what a table that passes, or does not, answers
pub never_told : (w : List ℕ) (x : ℕ) (a : Bool) → passes w ≡ true → names tree.set x (contract_of w).clauses ≡ true → a ≡ names tree.ok x (contract_of w).clauses → not a ≡ never_agreed w x
unfolding never_agreed unagreed pick
never_told w x a e s q = (λ i. sym s i && not (q i)) ∙ sym (pick_true (passes w) _ false e)

pub never_set : (w : List ℕ) (x : ℕ) → passes w ≡ true → names tree.set x (contract_of w).clauses ≡ false → false ≡ never_agreed w x
unfolding never_agreed unagreed pick
never_set w x e s = (λ i. sym s i && not (names tree.ok x (contract_of w).clauses)) ∙ sym (pick_true (passes w) _ false e)

pub never_refused : (w : List ℕ) (x : ℕ) → passes w ≡ false → false ≡ never_agreed w x
unfolding never_agreed
never_refused w x e = sym (pick_false _ _ _ e)
