use mathlib.Core.Path.{◌≡◌, refl, sym, ap, ◌∙◌}
use mathlib.Core.List.{List, [], ◌∷◌}
use mathlib.Core.Bool.{Bool, true, false, cond}
use Prim.Native.Nat.{ℕ, suc, ◌+◌, ◌≤◌, max}
use native.Mathlib.Omega.{arith}
use lib.ListN.{length, take, get_or, drop}
use native.Mathlib.Nat.{add-zero}
use lib.Seq.{get_or-drop}
use borrow.Author.Tests.{eqb-true, eqb-false, leb-true, leb-false}
use lib.Dec.{eqb, leb}
use Rattle.laws.proofs.Lists.{past}
use Rattle.std.proofs.lemmas.List.{drop-drop}
use Rattle.tokens.proofs.Laws.{other_stops}
use Rattle.std.specs.List.{prefix_len}
use Rattle.std.proofs.lemmas.List.Folds.{length-prefix_len}
use Rattle.laws.specs.Choice.{pick}
use Rattle.tokens.specs.Classes.{run, gap, is_text}
use Rattle.tokens.specs.Private.{is_comment_byte}

run_is : (p : ℕ → Bool) (xs : List ℕ) → prefix_len p xs ≡ run p xs
unfolding run pick
run_is p [] = refl
run_is p (x ∷ xs) = go (p x) (run_is p xs)
  where
    go : (b : Bool) → prefix_len p xs ≡ run p xs → cond b (1 + prefix_len p xs) 0 ≡ pick b (suc (run p xs)) 0
    go true e = omega arith
    go false e = refl

-- how many items `take_while` gives
pub taken : (p : ℕ → Bool) (xs : List ℕ) → length (take (prefix_len p xs) xs) ≡ run p xs
taken p xs = length-prefix_len p xs ∙ run_is p xs

-- an LF after the bytes that go on with a comment closes it
closed : (t : List ℕ) → get_or (drop (run is_comment_byte t) t) 0 0 ≡ 10
    → suc (run is_comment_byte t) + gap false (drop (suc (run is_comment_byte t)) t) ≡ gap true t
unfolding gap run pick is_comment_byte
closed [] = λ h. absurd (omega arith)
closed (x ∷ xs) = go (eqb x 10) refl (is_text x) (closed xs)
  where
    go : (a : Bool) → eqb x 10 ≡ a → (b : Bool)
        → (get_or (drop (run is_comment_byte xs) xs) 0 0 ≡ 10 → suc (run is_comment_byte xs) + gap false (drop (suc (run is_comment_byte xs)) xs) ≡ gap true xs)
        → get_or (drop (pick (pick a false b) (suc (run is_comment_byte xs)) 0) (x ∷ xs)) 0 0 ≡ 10
        → suc (pick (pick a false b) (suc (run is_comment_byte xs)) 0) + gap false (drop (suc (pick (pick a false b) (suc (run is_comment_byte xs)) 0)) (x ∷ xs))
        ≡ pick a (suc (gap false xs)) (pick b (suc (gap true xs)) 0)
    go true e b f h = omega arith
    go false e true f h = omega (arith, f h)
    go false e false f h = absurd (eqb-false x 10 e h)

-- any other byte after them ends the gap
ended : (t : List ℕ) → (get_or (drop (run is_comment_byte t) t) 0 0 ≡ 10 → ⊥)
    → run is_comment_byte t + gap false (drop (run is_comment_byte t) t) ≡ gap true t
unfolding gap run pick is_comment_byte
ended [] = λ h. refl
ended (x ∷ xs) = go (eqb x 10) refl (is_text x) refl (ended xs)
  where
    go : (a : Bool) → eqb x 10 ≡ a → (b : Bool) → is_text x ≡ b
        → ((get_or (drop (run is_comment_byte xs) xs) 0 0 ≡ 10 → ⊥) → run is_comment_byte xs + gap false (drop (run is_comment_byte xs) xs) ≡ gap true xs)
        → (get_or (drop (pick (pick a false b) (suc (run is_comment_byte xs)) 0) (x ∷ xs)) 0 0 ≡ 10 → ⊥)
        → pick (pick a false b) (suc (run is_comment_byte xs)) 0 + gap false (drop (pick (pick a false b) (suc (run is_comment_byte xs)) 0) (x ∷ xs))
        ≡ pick a (suc (gap false xs)) (pick b (suc (gap true xs)) 0)
    go true e b q f h = absurd (h (eqb-true x 10 e))
    go false e true q f h = omega (arith, f h)
    go false e false q f h = omega (arith, other_stops (x ∷ xs) 0 (omega arith) q)

-- the same from a place i on: e is the place after the bytes that go on with a comment
module _ (s : List ℕ) (i e : ℕ) (at : e ≡ i + run is_comment_byte (drop i s)) where
  left : drop (run is_comment_byte (drop i s)) (drop i s) ≡ drop e s
  left = drop-drop (run is_comment_byte (drop i s)) i s ∙ ap (λ (k : ℕ). drop k s) (sym at)

  left_after : drop (suc (run is_comment_byte (drop i s))) (drop i s) ≡ drop (e + 1) s
  left_after = drop-drop (suc (run is_comment_byte (drop i s))) i s ∙ ap (λ (k : ℕ). drop k s) (omega arith)

  byte_there : get_or (drop (run is_comment_byte (drop i s)) (drop i s)) 0 0 ≡ get_or s e 0
  byte_there = ap (λ (l : List ℕ). get_or l 0 0) left ∙ get_or-drop e s 0 0 ∙ ap (λ (k : ℕ). get_or s k 0) (add-zero e)

  pub comment_closed : get_or s e 0 ≡ 10 → e + 1 + gap false (drop (e + 1) s) ≡ i + gap true (drop i s)
  comment_closed h = omega (arith, rw left_after at (closed (drop i s) (byte_there ∙ h)))

  pub comment_ended : (get_or s e 0 ≡ 10 → ⊥) → e + gap false (drop e s) ≡ i + gap true (drop i s)
  comment_ended h = omega (arith, rw left at (ended (drop i s) (λ q. h (sym byte_there ∙ q))))

-- where a loop over the places of a text ends, the run from its start ends too
pub run_past : (p : ℕ → Bool) (s : List ℕ) (at i : ℕ) → length s ≤ i → (at ≤ length s → i ≤ length s) → i + run p (drop i s) ≡ at + run p (drop at s) → max at (length s) ≡ at + run p (drop at s)
unfolding run
run_past p s at i h k e = go (leb at (length s)) refl
  where
    go : (b : Bool) → leb at (length s) ≡ b → max at (length s) ≡ at + run p (drop at s)
    go true f = omega (arith, h, k (leb-true at (length s) f), past (run p) s i h, e)
    go false f = let l : length s ≤ at = omega (arith, leb-false at (length s) f) in omega (arith, l, past (run p) s at l)
