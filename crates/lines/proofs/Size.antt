-- How many bytes lists take: so many items fit into a line. Assumes nothing.
use mathlib.Core.Path.{◌≡◌, refl, sym, ap, ◌∙◌}
use mathlib.Core.Bool.{Bool, true, false}
use mathlib.Core.List.{List, [], ◌∷◌}
use Prim.Native.Nat.{ℕ, zero, suc, ◌+◌, ◌*◌, ◌≤◌}
use native.Mathlib.Omega.{arith}
use lib.ListN.{length}
use Rattle.laws.specs.Choice.{pick}
use Rattle.laws.proofs.Choice.{pick_true, pick_false}
use lib.IntN.{ℤ}
use Rattle.lines.specs.Lines.{Parsed, done, Parser, and_then, give, is_next, mark, integer, items, list}
use Rattle.lines.proofs.Ahead.{then_done, mark_ahead, mark_size, integer_ahead}

-- the sum of the items' sizes
abbrev pub total : {A : Type 0} → (A → ℕ) → List A → ℕ
total w [] = 0
total w (x ∷ xs) = w x + total w xs

pub total_two : {A : Type 0} (xs : List A) → total (λ x. 2) xs ≡ 2 * length xs
total_two [] = refl
total_two (x ∷ xs) = omega (arith, total_two xs)

pub total_six : {A : Type 0} (xs : List A) → total (λ x. 6) xs ≡ 6 * length xs
total_six [] = refl
total_six (x ∷ xs) = omega (arith, total_six xs)

pub total_eight : {A : Type 0} (xs : List A) → total (λ x. 8) xs ≡ 8 * length xs
total_eight [] = refl
total_eight (x ∷ xs) = omega (arith, total_eight xs)

-- an item of size w x, with d bytes of the mark after it, and c bytes of what closes the list
module _ {A : Type 0} (s : List ℕ) (item : Parser A) (between : List ℕ) (close : Parser Unit) (w : A → ℕ) (d c : ℕ)
    (each : (at n : ℕ) (x : A) → item at ≡ done x n → (at + w x ≤ n + d) × (n ≤ length s))
    (gap : (at n : ℕ) → mark s between at ≡ done tt n → at + d ≤ n)
    (shut : (at n : ℕ) → close at ≡ done tt n → (at + c ≤ n) × (at ≤ length s → n ≤ length s)) where
  -- a list that starts at `at`, and the place after it
  abbrev pub Sized : ℕ → List A → ℕ → Type 0
  Sized at xs n = (at + total w xs + c ≤ n + d) × (n ≤ length s)

  more : (ℕ → Parsed (List A)) → A → ℕ → Parsed (List A)
  more rest x k = and_then (mark s between k) (λ u m. and_then (rest m) (λ ys. give (x ∷ ys)))

  only : A → ℕ → Parsed (List A)
  only x k = and_then (close k) (λ u. give (x ∷ []))

  more_size : (rest : ℕ → Parsed (List A)) → ((m : ℕ) (ys : List A) (j : ℕ) → rest m ≡ done ys j → Sized m ys j) → (at k : ℕ) (x : A) (xs : List A) (n : ℕ) → at + w x ≤ k + d → more rest x k ≡ done xs n → Sized at xs n
  unfolding more
  more_size rest r at k x xs n h e =
      let a = then_done (mark s between k) (λ u m. and_then (rest m) (λ ys. give (x ∷ ys))) e in
      let b = then_done (rest a.place) (λ ys. give (x ∷ ys)) a.rest in
      let p : b.place ≡ n = cc in
      let q : x ∷ b.got ≡ xs = cc in
      let l : w x + total w b.got ≡ total w xs = ap (total w) q in
      let z = r a.place b.got b.place b.first in (
        omega (arith, gap k a.place a.first, z.0),
        omega (arith, z.1),
      )

  only_size : (at k : ℕ) (x : A) (xs : List A) (n : ℕ) → at + w x ≤ k + d → k ≤ length s → only x k ≡ done xs n → Sized at xs n
  unfolding only
  only_size at k x xs n h g e =
      let a = then_done (close k) (λ u. give (x ∷ [])) e in
      let p : a.place ≡ n = cc in
      let q : x ∷ [] ≡ xs = cc in
      let l : w x + 0 ≡ total w xs = ap (total w) q in
      let z = shut k a.place a.first in (
        omega (arith, z.0),
        omega (arith, z.1 g),
      )

  pub items_size : (f at : ℕ) (xs : List A) (n : ℕ) → items s item between close f at ≡ done xs n → Sized at xs n
  unfolding items more only
  items_size zero at xs n e = let z : ◌≡◌ {A = ℕ} 0 1 = cc in absurd (omega arith)
  items_size (suc f) at xs n e =
      let a = then_done (item at) (λ x k. pick (is_next s between k) (more (items s item between close f) x k) (only x k)) e in
      let h = each at a.place a.got a.first in
      go a.got a.place h.0 h.1 (is_next s between a.place) a.rest (items_size f)
    where
      go : (x : A) (k : ℕ) → at + w x ≤ k + d → k ≤ length s → (b : Bool) → pick b (more (items s item between close f) x k) (only x k) ≡ done xs n → ((m : ℕ) (ys : List A) (j : ℕ) → items s item between close f m ≡ done ys j → Sized m ys j) → Sized at xs n
      go x k h g true q r = more_size (items s item between close f) r at k x xs n h (sym (pick_true _ _ _ refl) ∙ q)
      go x k h g false q r = only_size at k x xs n h g (sym (pick_false _ _ _ refl) ∙ q)

-- a list that was read has an item
module _ {A : Type 0} (s : List ℕ) (item : Parser A) (between : List ℕ) (close : Parser Unit) where
  pub items_some : (f at : ℕ) (xs : List A) (n : ℕ) → items s item between close f at ≡ done xs n → 1 ≤ length xs
  unfolding items
  items_some zero at xs n e = let z : ◌≡◌ {A = ℕ} 0 1 = cc in absurd (omega arith)
  items_some (suc f) at xs n e =
      let a = then_done (item at) (λ x k. pick (is_next s between k) (and_then (mark s between k) (λ u m. and_then (items s item between close f m) (λ ys. give (x ∷ ys)))) (and_then (close k) (λ u. give (x ∷ [])))) e in
      go a.got a.place (is_next s between a.place) a.rest
    where
      go : (x : A) (k : ℕ) (b : Bool) → pick b (and_then (mark s between k) (λ u m. and_then (items s item between close f m) (λ ys. give (x ∷ ys)))) (and_then (close k) (λ u. give (x ∷ []))) ≡ done xs n → 1 ≤ length xs
      go x k true q =
          let a = then_done (mark s between k) (λ u m. and_then (items s item between close f m) (λ ys. give (x ∷ ys))) (sym (pick_true _ _ _ refl) ∙ q) in
          let b = then_done (items s item between close f a.place) (λ ys. give (x ∷ ys)) a.rest in
          let p : x ∷ b.got ≡ xs = cc in
          omega (arith, ap length p)
      go x k false q =
          let a = then_done (close k) (λ u. give (x ∷ [])) (sym (pick_false _ _ _ refl) ∙ q) in
          let p : x ∷ [] ≡ xs = cc in
          omega (arith, ap length p)

-- a list in brackets, of items that take one byte less than w
module _ {A : Type 0} (s : List ℕ) (o c : ℕ) (item : Parser A) (w : ℕ) (big : 1 ≤ w)
    (each : (at n : ℕ) (x : A) → item at ≡ done x n → (at + w ≤ n + 1) × (n ≤ length s)) where
  shut : (at n : ℕ) → mark s (c ∷ []) at ≡ done tt n → (at + 1 ≤ n) × (at ≤ length s → n ≤ length s)
  shut at n e = (mark_size s (c ∷ []) at e, λ h. (mark_ahead s c [] at e).inside)

  pub record Took (at : ℕ) (xs : List A) (n : ℕ) : Type 0 where
    pub bytes : at + 1 + total (λ x. w) xs ≤ n
    pub some : at + 2 ≤ n
    pub inside : n ≤ length s

  empty : ℕ → Parsed (List A)
  empty i = and_then (mark s (c ∷ []) i) (λ u. give [])

  whole : ℕ → Parsed (List A)
  whole i = items s item (44 ∷ []) (mark s (c ∷ [])) (length s) i

  empty_size : (at i : ℕ) (xs : List A) (n : ℕ) → at + 1 ≤ i → empty i ≡ done xs n → Took at xs n
  unfolding empty
  empty_size at i xs n h e =
      let a = then_done (mark s (c ∷ []) i) (λ u. give []) e in
      let p : a.place ≡ n = cc in
      let q : [] ≡ xs = cc in
      let l : 0 ≡ total (λ x. w) xs = ap (total (λ x. w)) q in
      let z = shut i a.place a.first in
      record {
        bytes = omega (arith, z.0);
        some = omega (arith, z.0);
        inside = omega (arith, (mark_ahead s c [] i a.first).inside);
      }

  whole_size : (at i : ℕ) (xs : List A) (n : ℕ) → at + 1 ≤ i → whole i ≡ done xs n → Took at xs n
  unfolding whole
  whole_size at i xs n h e =
      let a = items_size s item (44 ∷ []) (mark s (c ∷ [])) (λ x. w) 1 1 each (λ k m. mark_size s (44 ∷ []) k) shut (length s) i xs n e in
      let b = items_size s item (44 ∷ []) (mark s (c ∷ [])) (λ x. 0) 0 1 (λ k m x q. (omega (arith, (each k m x q).0), (each k m x q).1)) (λ k m q. omega (arith, mark_size s (44 ∷ []) k q)) shut (length s) i xs n e in
      record {
        bytes = omega (arith, a.0);
        some = omega (arith, b.0);
        inside = a.1;
      }

  pub list_size : (at : ℕ) (xs : List A) (n : ℕ) → list s (o ∷ []) item (c ∷ []) at ≡ done xs n → Took at xs n
  unfolding list empty whole
  list_size at xs n e =
      let a = then_done (mark s (o ∷ []) at) (λ u i. pick (is_next s (c ∷ []) i) (empty i) (whole i)) e in
      go a.place (mark_size s (o ∷ []) at a.first) (is_next s (c ∷ []) a.place) a.rest
    where
      go : (i : ℕ) → at + 1 ≤ i → (b : Bool) → pick b (empty i) (whole i) ≡ done xs n → Took at xs n
      go i h true q = empty_size at i xs n h (sym (pick_true _ _ _ refl) ∙ q)
      go i h false q = whole_size at i xs n h (sym (pick_false _ _ _ refl) ∙ q)

integer_each : (s : List ℕ) (at n : ℕ) (x : ℤ) → integer s at ≡ done x n → (at + 2 ≤ n + 1) × (n ≤ length s)
integer_each s at n x e = (omega (arith, (integer_ahead s at e).more), (integer_ahead s at e).inside)

-- integers in brackets take two bytes each, and one more
pub integers_size : (s : List ℕ) (o c at : ℕ) (xs : List ℤ) (n : ℕ) → list s (o ∷ []) (integer s) (c ∷ []) at ≡ done xs n → (at + 1 + 2 * length xs ≤ n) × (n ≤ length s)
integers_size s o c at xs n e =
    let a = list_size s o c (integer s) 2 (omega arith) (integer_each s) at xs n e in
    (omega (arith, a.bytes, total_two xs), a.inside)
