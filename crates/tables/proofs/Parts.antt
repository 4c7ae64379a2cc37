-- Parts of nodes: where they start, and how a node counts them. Assumes nothing.
use mathlib.Core.Path.{◌≡◌, refl, sym, ap, ◌∙◌}
use mathlib.Core.Bool.{Bool, true, false, ◌&&◌}
use mathlib.Core.List.{List, [], ◌∷◌}
use Prim.Native.Nat.{ℕ, ◌-◌, ◌≤◌}
use native.Mathlib.Omega.{arith}
use native.Mathlib.Nat.{le_refl}
use lib.Dec.{eqb, ltb, leb}
use Rattle.laws.proofs.Choice.{by_cases}
use Rattle.contract.specs.Table.{kind_at, argument_at, size_at}
use Rattle.laws.specs.Choice.{pick}
use Rattle.contract.specs.Check.{Sort, expression, condition, holder, asset_target, value_target, is_sort, Start, at, nowhere, on_start, part_start, parts_start, statement_from, block_ok, conditional_start}
use Rattle.tables.specs.Private.{StartsBy, statement_start, statement_ok}

-- ---- several parts
module _ (w : List ℕ) (from : ℕ) where
  pub parts_one : (s : Sort) (end : ℕ) {x : Start} → x ≡ part_start w from s end → x ≡ parts_start w from (s ∷ []) end
  unfolding parts_start
  parts_one s end e = e ∙ go (part_start w from s end)
    where
      go : (y : Start) → y ≡ on_start y (parts_start w from [])
      go (at p) = refl
      go nowhere = refl

  pub parts_none : (s : Sort) (ss : List Sort) (end : ℕ) {x : Start} → x ≡ part_start w from s end → x ≡ nowhere → x ≡ parts_start w from (s ∷ ss) end
  unfolding parts_start
  parts_none s ss end e f = f ∙ ap (λ (y : Start). on_start y (parts_start w from ss)) (sym f ∙ e)

  pub parts_go : (s : Sort) (ss : List Sort) (end p : ℕ) {x y : Start} → y ≡ part_start w from s end → y ≡ at p → x ≡ parts_start w from ss p → x ≡ parts_start w from (s ∷ ss) end
  unfolding parts_start
  parts_go s ss end p e f g = g ∙ ap (λ (z : Start). on_start z (parts_start w from ss)) (sym f ∙ e)

  -- they start before their end
  part_by : (s : Sort) (end : ℕ) → StartsBy (part_start w from s end) end
  unfolding part_start
  part_by s end = by_cases (λ (x : Start). StartsBy x end) (ltb from end && (is_sort s (kind_at w (end - 1)) && leb (size_at w (end - 1)) (end - from))) _ _ (λ _. omega arith) (λ _. tt)

  later : (x : Start) (p end : ℕ) → p ≤ end → StartsBy x p → StartsBy x end
  later (at q) p end h b = omega arith
  later nowhere p end h b = tt

  pub parts_by : (ss : List Sort) (end : ℕ) → StartsBy (parts_start w from ss end) end
  unfolding parts_start
  parts_by [] end = le_refl end
  parts_by (s ∷ ss) end = go (part_start w from s end) (part_by s end) (λ p. parts_by ss p)
    where
      go : (x : Start) → StartsBy x end → ((p : ℕ) → StartsBy (parts_start w from ss p) p) → StartsBy (on_start x (parts_start w from ss)) end
      go (at p) b f = later (parts_start w from ss p) p end b (f p)
      go nowhere b f = tt

  pub conditional_by : (k : ℕ) → StartsBy (conditional_start w from k) k
  unfolding conditional_start
  conditional_by k =
      by_cases (λ (x : Start). StartsBy x k) (leb (argument_at w k) (k - from) && block_ok w k (argument_at w k)) _ _
      (λ _. later (part_start w from condition (k - argument_at w k)) (k - argument_at w k) k (omega arith) (part_by condition (k - argument_at w k))) (λ _. tt)

-- ---- a statement of any kind
pick_of : {A B : Type 0} (f : A → B) (b : Bool) (x : A) {y : A} {z : B} → f y ≡ z → f (pick b x y) ≡ pick b (f x) z
unfolding pick
pick_of f true x e = refl
pick_of f false x e = e

module _ (w : List ℕ) (from k kind : ℕ) where
  -- its own parts start before it
  pub statement_by : StartsBy (statement_start w from k kind) k
  statement_by =
      let P : Start → Type 0 = λ x. StartsBy x k in
      by_cases P (eqb kind 24) _ _ (λ _. parts_by w from (value_target ∷ expression ∷ []) k)
      (λ _. by_cases P (eqb kind 25) _ _ (λ _. parts_by w from (asset_target ∷ holder ∷ expression ∷ []) k)
      (λ _. by_cases P (eqb kind 26) _ _ (λ _. parts_by w from (asset_target ∷ holder ∷ []) k)
      (λ _. by_cases P (eqb kind 27) _ _ (λ _. conditional_by w from k) (λ _. tt))))

  -- by its kind, and then by where its parts start
  pub statement_is : statement_from w from k (statement_start w from k kind) ≡ statement_ok w from k kind
  statement_is =
      let f : Start → Bool = statement_from w from k in
      pick_of f (eqb kind 24) (parts_start w from (value_target ∷ expression ∷ []) k)
      (pick_of f (eqb kind 25) (parts_start w from (asset_target ∷ holder ∷ expression ∷ []) k)
      (pick_of f (eqb kind 26) (parts_start w from (asset_target ∷ holder ∷ []) k)
      (pick_of f (eqb kind 27) (conditional_start w from k) {y = nowhere} refl)))
