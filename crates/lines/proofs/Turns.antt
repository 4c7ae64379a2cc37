-- Lists of items, turn by turn: what was read so far, and what the rest of the line gives. Assumes nothing.
use mathlib.Core.Path.{◌≡◌, refl, sym, ap, ◌∙◌}
use mathlib.Core.Bool.{Bool, true, false}
use mathlib.Core.List.{List, [], ◌∷◌, ◌++◌, append_assoc}
use Prim.Native.Nat.{ℕ, zero, suc, ◌+◌, ◌<◌}
use native.Mathlib.Omega.{arith}
use lib.ListN.{length, length-append}
use Rattle.laws.specs.Choice.{pick}
use Rattle.lines.specs.Lines.{Parsed, done, no, Parser, and_then, give, skipped, is_next, mark, items, list}
use Rattle.lines.proofs.Ahead.{taken}

-- ---- marks told by their parser

pub next_yes : {n : ℕ} (s m : List ℕ) (at : ℕ) → mark s m at ≡ done tt n → is_next s m at ≡ true
unfolding mark
next_yes s m at e = (taken (is_next s m at) (done tt (skipped s at + length m)) e).0

pub next_no : (s m : List ℕ) (at : ℕ) → mark s m at ≡ no → is_next s m at ≡ false
unfolding mark pick
next_no s m at e = go (is_next s m at) e
  where
    go : (b : Bool) → pick {A = Parsed Unit} b (done tt (skipped s at + length m)) no ≡ no → b ≡ false
    go true q = let z : ◌≡◌ {A = ℕ} 0 1 = cc in absurd (omega arith)
    go false q = refl

-- ---- what was read before what follows

abbrev pub prepend : {A : Type 0} → List A → Parsed (List A) → Parsed (List A)
prepend xs (done ys n) = done (xs ++ ys) n
prepend xs no = no

prepend_none : {A : Type 0} (p : Parsed (List A)) → p ≡ prepend [] p
prepend_none (done ys n) = refl
prepend_none no = refl

prepend_one : {A : Type 0} (xs : List A) (x : A) (p : Parsed (List A)) → prepend xs (and_then p (λ ys. give (x ∷ ys))) ≡ prepend (xs ++ (x ∷ [])) p
prepend_one xs x (done ys n) = ap (λ (l : List _). done l n) (sym (append_assoc xs (x ∷ []) ys))
prepend_one xs x no = refl

module _ {A : Type 0} (s : List ℕ) (item : Parser A) (between : List ℕ) (close : Parser Unit) where
  items_missing : (f i : ℕ) → item i ≡ no → items s item between close f i ≡ no
  unfolding items
  items_missing zero i e = refl
  items_missing (suc f) i e = rw e

  module _ (f : ℕ) {i n : ℕ} {x : A} (got : item i ≡ done x n) where
    items_more : {m : ℕ} → is_next s between n ≡ true → mark s between n ≡ done tt m → items s item between close (suc f) i ≡ and_then (items s item between close f m) (λ xs. give (x ∷ xs))
    unfolding items pick
    items_more b e = rw (got, b, e)

    items_last : {m : ℕ} → is_next s between n ≡ false → close n ≡ done tt m → items s item between close (suc f) i ≡ done (x ∷ []) m
    unfolding items pick
    items_last b e = rw (got, b, e)

    items_unclosed : is_next s between n ≡ false → close n ≡ no → items s item between close (suc f) i ≡ no
    unfolding items pick
    items_unclosed b e = rw (got, b, e)

  -- at i, with xs read from `at` on, one each turn
  pub record Reached (at i : ℕ) (xs : List A) : Type 0 where
    pub turns : ℕ
    pub left : length xs + turns ≡ length s
    pub same : items s item between close (length s) at ≡ prepend xs (items s item between close turns i)

  pub begin : (at : ℕ) → Reached at at []
  begin at = record { turns = length s; left = omega arith; same = prepend_none (items s item between close (length s) at) }

  module _ {at i : ℕ} {xs : List A} (r : Reached at i xs) where
    pub missing : item i ≡ no → items s item between close (length s) at ≡ no
    missing e = r.same ∙ ap (prepend xs) (go r.turns)
      where
        go : (f : ℕ) → items s item between close f i ≡ no
        go f = items_missing f i e

    module _ {x : A} {k : ℕ} (got : item i ≡ done x k) (before : length xs < length s) where
      pub turn : {m : ℕ} → mark s between k ≡ done tt m → Reached at m (xs ++ (x ∷ []))
      turn {m} e = go r.turns r.left r.same
        where
          go : (t : ℕ) → length xs + t ≡ length s → items s item between close (length s) at ≡ prepend xs (items s item between close t i) → Reached at m (xs ++ (x ∷ []))
          go zero l q = absurd (omega arith)
          go (suc t) l q =
              record {
                turns = t;
                left = omega (arith, length-append xs (x ∷ []));
                same = q ∙ ap (prepend xs) (items_more t got (next_yes s between k e) e) ∙ prepend_one xs x (items s item between close t m);
              }

      pub last : {m : ℕ} → mark s between k ≡ no → close k ≡ done tt m → items s item between close (length s) at ≡ done (xs ++ (x ∷ [])) m
      last {m} e f = go r.turns r.left r.same
        where
          go : (t : ℕ) → length xs + t ≡ length s → items s item between close (length s) at ≡ prepend xs (items s item between close t i) → items s item between close (length s) at ≡ done (xs ++ (x ∷ [])) m
          go zero l q = absurd (omega arith)
          go (suc t) l q = q ∙ ap (prepend xs) (items_last t got (next_no s between k e) f)

      pub unclosed : mark s between k ≡ no → close k ≡ no → items s item between close (length s) at ≡ no
      unclosed e f = go r.turns r.left r.same
        where
          go : (t : ℕ) → length xs + t ≡ length s → items s item between close (length s) at ≡ prepend xs (items s item between close t i) → items s item between close (length s) at ≡ no
          go zero l q = absurd (omega arith)
          go (suc t) l q = q ∙ ap (prepend xs) (items_unclosed t got (next_no s between k e) f)

-- ---- lists in brackets

module _ {A : Type 0} (s opening : List ℕ) (item : Parser A) (closing : List ℕ) (at : ℕ) where
  pub list_none : mark s opening at ≡ no → list s opening item closing at ≡ no
  unfolding list
  list_none e = rw e

  module _ {i : ℕ} (e : mark s opening at ≡ done tt i) where
    pub list_empty : {j : ℕ} → mark s closing i ≡ done tt j → list s opening item closing at ≡ done [] j
    unfolding list pick
    list_empty f = rw (e, next_yes s closing i f, f)

    pub list_some : mark s closing i ≡ no → list s opening item closing at ≡ items s item (44 ∷ []) (mark s closing) (length s) i
    unfolding list pick
    list_some f = rw (e, next_no s closing i f)
