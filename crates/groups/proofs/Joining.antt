-- Chains of moves, and what joining by moves keeps. Assumes nothing.
use mathlib.Core.Path.{◌≡◌, refl, sym, ap, subst, ◌∙◌}
use mathlib.Core.Bool.{Bool, true, false, ◌&&◌, ◌||◌}
use mathlib.Core.List.{List, [], ◌∷◌, ◌++◌}
use mathlib.Core.Logic.{◌≢◌}
use Prim.Native.Nat.{ℕ, ◌<◌, ◌≤◌, min, max}
use native.Mathlib.Omega.{arith}
use lib.ListN.{length, get_or, length-map}
use lib.Dec.{eqb, leb, ltb}
use borrow.Author.Tests.{ltb-true, eqb-true, eqb-false, leb-true, leb-false, eq-eqb}
use Rattle.std.proofs.lemmas.List.{get_or-map, append_assoc, append-nil}
use Rattle.laws.specs.Choice.{pick}
use Rattle.laws.specs.Lists.{every}
use Rattle.laws.proofs.Choice.{by_cases, true_false}
use Rattle.laws.proofs.Truths.{both_left, both_right, both_true, either_true, first_true, second_true, or_last}
use Rattle.laws.proofs.Members.{every_head, every_tail}
use Rattle.contract_laws.proofs.Members.{length_each, get_or_each}
use Rattle.groups.specs.Groups.{Move, max_names, apart, merged, with_move, with_moves}
use Rattle.groups.specs.Chains.{joins, Chain, here, by_move}

-- ---- chains

or_swap : (a b : Bool) → (a || b) ≡ (b || a)
or_swap true true = refl
or_swap true false = refl
or_swap false true = refl
or_swap false false = refl

or_assoc : (a b c : Bool) → (a || (b || c)) ≡ ((a || b) || c)
or_assoc true b c = refl
or_assoc false b c = refl

-- a move from the one to the other
abbrev goes : Move → ℕ → ℕ → Bool
goes m a b = eqb m.source a && eqb m.target b

pub joins_swap : (ms : List Move) (a b : ℕ) → joins ms a b ≡ joins ms b a
unfolding joins
joins_swap [] a b = refl
joins_swap (m ∷ ms) a b = (λ i. or_swap (goes m a b) (goes m b a) i || joins_swap ms a b i)

joins_append : (ms ns : List Move) (a b : ℕ) → joins (ms ++ ns) a b ≡ (joins ms a b || joins ns a b)
unfolding joins
joins_append [] ns a b = refl
joins_append (m ∷ ms) ns a b =
    ap (λ (t : Bool). (goes m a b || goes m b a) || t) (joins_append ms ns a b) ∙ or_assoc (goes m a b || goes m b a) (joins ms a b) (joins ns a b)

module _ {ms : List Move} where
  pub chain_then : {a b d : ℕ} → Chain ms a b → Chain ms b d → Chain ms a d
  chain_then here c = c
  chain_then (by_move j x) c = by_move j (chain_then x c)

  pub chain_back : {a b : ℕ} → Chain ms a b → Chain ms b a
  chain_back here = here
  chain_back (by_move {a = a} {b = b} j x) = chain_then (chain_back x) (by_move (joins_swap ms b a ∙ j) here)

-- more moves leave a chain one
chain_more : (ms ns : List Move) {a b : ℕ} → Chain ms a b → Chain (ms ++ ns) a b
chain_more ms ns here = here
chain_more ms ns (by_move {a = a} {b = b} j x) = by_move (joins_append ms ns a b ∙ first_true (joins ns a b) j) (chain_more ms ns x)

-- what is the same at both ends of every move is the same at both ends of a chain
pub chain_keeps : {ms : List Move} {A : Type 0} (h : ℕ → A) → ((a b : ℕ) → joins ms a b ≡ true → h a ≡ h b) → {k l : ℕ} → Chain ms k l → h k ≡ h l
chain_keeps h f here = refl
chain_keeps h f (by_move {a = a} {b = b} j x) = f a b j ∙ chain_keeps h f x

-- ---- first names after some moves

-- no first name is after its name
pub record Least (firsts : List ℕ) : Type 0 where
  pub many : length firsts ≡ max_names
  pub least : (k : ℕ) → k < max_names → get_or firsts k 0 ≤ k

module _ (firsts : List ℕ) (x y : ℕ) (l : length firsts ≡ max_names) where
  merged_at : (k : ℕ) → k < max_names → get_or (merged firsts x y) k 0 ≡ pick (eqb (get_or firsts k 0) (max x y)) (min x y) (get_or firsts k 0)
  unfolding merged
  merged_at k h = get_or-map (λ z. pick (eqb z (max x y)) (min x y) z) firsts k 0 0 (omega (arith, h, l))

  merged_length : length (merged firsts x y) ≡ max_names
  unfolding merged
  merged_length = length-map firsts (λ z. pick (eqb z (max x y)) (min x y) z) ∙ l

merged_least : (firsts : List ℕ) (x y : ℕ) → Least firsts → Least (merged firsts x y)
merged_least firsts x y o =
    record {
      many = merged_length firsts x y o.many;
      least = λ k h.
          let z = get_or firsts k 0 in
          let b : z ≤ k = o.least k h in
          subst (λ (n : ℕ). n ≤ k) (sym (merged_at firsts x y o.many k h))
          (by_cases (λ (n : ℕ). n ≤ k) (eqb z (max x y)) (min x y) z (λ e. let q : z ≡ max x y = eqb-true _ _ e in omega arith) (λ _. b));
    }

apart_at : (k : ℕ) → k < max_names → get_or apart k 0 ≡ k
apart_at k h = get_or_each 0 max_names (λ j. j) k 0 h ∙ omega arith

apart_least : Least apart
apart_least =
    record {
      many = length_each 0 max_names (λ k. k);
      least = λ k h. let q : get_or apart k 0 ≡ k = apart_at k h in omega arith;
    }

-- first names after these moves: the least name of a chain of them
pub record Joined (seen : List Move) (firsts : List ℕ) : Type 0 where
  pub least : Least firsts
  pub chained : (k : ℕ) → k < max_names → Chain seen k (get_or firsts k 0)
  pub same : (a b : ℕ) → a < max_names → b < max_names → joins seen a b ≡ true → get_or firsts a 0 ≡ get_or firsts b 0

pub apart_joined : Joined [] apart
unfolding joins
apart_joined =
    record {
      least = apart_least;
      chained = λ k h. subst (λ (n : ℕ). Chain [] k n) (sym (apart_at k h)) here;
      same = λ a b h k j. true_false (sym j);
    }

-- of two numbers the greater and the lesser, in one order or the other
by_order : (P : ℕ → ℕ → Type 0) (x y : ℕ) → P x y → P y x → P (max x y) (min x y)
by_order P x y p q = go (leb x y) refl
  where
    go : (b : Bool) → leb x y ≡ b → P (max x y) (min x y)
    go true e =
        let h : x ≤ y = leb-true x y e in
        let m : y ≡ max x y = omega arith in
        let n : x ≡ min x y = omega arith in
        subst (λ (z : ℕ). P z (min x y)) m (subst (P y) n q)
    go false e =
        let h : y < x = leb-false x y e in
        let m : x ≡ max x y = omega arith in
        let n : y ≡ min x y = omega arith in
        subst (λ (z : ℕ). P z (min x y)) m (subst (P x) n p)

-- of two numbers each becomes the lesser
first_lesser : (x y : ℕ) → pick (eqb x (max x y)) (min x y) x ≡ min x y
first_lesser x y = by_cases (λ (z : ℕ). z ≡ min x y) _ _ _ (λ _. refl) (λ e. let ne : x ≢ max x y = eqb-false _ _ e in omega arith)

second_lesser : (x y : ℕ) → pick (eqb y (max x y)) (min x y) y ≡ min x y
second_lesser x y = by_cases (λ (z : ℕ). z ≡ min x y) _ _ _ (λ _. refl) (λ e. let ne : y ≢ max x y = eqb-false _ _ e in omega arith)

module _ (seen : List Move) (firsts : List ℕ) (m : Move) (o : Joined seen firsts) (s : m.source < max_names) (t : m.target < max_names) where
  abbrev x : ℕ
  x = get_or firsts m.source 0

  abbrev y : ℕ
  y = get_or firsts m.target 0

  abbrev after : List Move
  after = seen ++ (m ∷ [])

  moved : joins after m.source m.target ≡ true
  unfolding joins
  moved =
      joins_append seen (m ∷ []) m.source m.target
      ∙ second_true (joins seen m.source m.target)
      (first_true false (first_true (goes m m.target m.source) (both_true _ _ (eq-eqb m.source m.source refl) (eq-eqb m.target m.target refl))))

  between : Chain after x y
  between = chain_then (chain_back (chain_more seen (m ∷ []) (o.chained m.source s))) (by_move moved (chain_more seen (m ∷ []) (o.chained m.target t)))

  ends_joined : Chain after (max x y) (min x y)
  ends_joined = by_order (Chain after) x y between (chain_back between)

  -- the move's ends have the lesser first name
  source_first : get_or (with_move firsts m) m.source 0 ≡ min x y
  source_first = merged_at firsts x y o.least.many m.source s ∙ first_lesser x y

  target_first : get_or (with_move firsts m) m.target 0 ≡ min x y
  target_first = merged_at firsts x y o.least.many m.target t ∙ second_lesser x y

  new_same : (a b : ℕ) → joins (m ∷ []) a b ≡ true → get_or (with_move firsts m) a 0 ≡ get_or (with_move firsts m) b 0
  unfolding joins
  new_same a b j =
      let at : ℕ → ℕ = λ k. get_or (with_move firsts m) k 0 in
      either_true (goes m a b) (goes m b a) (or_last _ j)
      (λ e.
      ap at (sym (eqb-true _ _ (both_left (eqb m.source a) (eqb m.target b) e)))
      ∙ source_first ∙ sym target_first
      ∙ ap at (eqb-true _ _ (both_right (eqb m.source a) (eqb m.target b) e)))
      (λ e.
      ap at (sym (eqb-true _ _ (both_right (eqb m.source b) (eqb m.target a) e)))
      ∙ target_first ∙ sym source_first
      ∙ ap at (eqb-true _ _ (both_left (eqb m.source b) (eqb m.target a) e)))

  joined_more : Joined after (with_move firsts m)
  joined_more =
      record {
        least = merged_least firsts x y o.least;
        chained = λ k h.
            let z = get_or firsts k 0 in
            let c : Chain after k z = chain_more seen (m ∷ []) (o.chained k h) in
            subst (λ (n : ℕ). Chain after k n) (sym (merged_at firsts x y o.least.many k h))
            (by_cases (λ (n : ℕ). Chain after k n) (eqb z (max x y)) (min x y) z
            (λ e. chain_then (subst (λ (n : ℕ). Chain after k n) (eqb-true _ _ e) c) ends_joined) (λ _. c));
        same = λ a b h k j.
            either_true (joins seen a b) (joins (m ∷ []) a b) (sym (joins_append seen (m ∷ []) a b) ∙ j)
            (λ e.
            merged_at firsts x y o.least.many a h
            ∙ ap (λ (z : ℕ). pick (eqb z (max x y)) (min x y) z) (o.same a b h k e)
            ∙ sym (merged_at firsts x y o.least.many b k))
            (new_same a b);
      }

-- both ends are numbers of names
abbrev pub within : Move → Bool
within m = ltb m.source max_names && ltb m.target max_names

pub all_joined : (ms seen : List Move) (firsts : List ℕ) → Joined seen firsts → every within ms ≡ true → Joined (seen ++ ms) (with_moves firsts ms)
unfolding with_moves
all_joined [] seen firsts o e = subst (λ (ns : List Move). Joined ns firsts) (sym (append-nil seen)) o
all_joined (m ∷ ms) seen firsts o e =
    let w = every_head within m ms e in
    let s = ltb-true m.source max_names (both_left (ltb m.source max_names) (ltb m.target max_names) w) in
    let t = ltb-true m.target max_names (both_right (ltb m.source max_names) (ltb m.target max_names) w) in
    subst (λ (ns : List Move). Joined ns (with_moves (with_move firsts m) ms)) (append_assoc seen (m ∷ []) ms)
    (all_joined ms (seen ++ (m ∷ [])) (with_move firsts m) (joined_more seen firsts m o s t) (every_tail within m ms e))
