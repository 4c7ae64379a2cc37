-- A part of a text. Assumes nothing.
use Rattle.std.proofs.Common.{◌≡◌, ℕ, ◌-◌, ◌<◌, ◌≤◌, ◌⊎◌, take, drop, List, [], Bor, Option, None, Some, ap, refl, ◌∙◌, length, arith}
use Rattle.std.specs.Option.{unwrap_or}
use Rattle.std.specs.Slice.{IsGetRangeResult}
use Rattle.laws.specs.Choice.{pick}
use Rattle.tokens.specs.Tokens.{between}
use lib.Dec.{leb}
use mathlib.Core.Bool.{Bool, true, false}
use borrow.Author.Tests.{leb-true, le-leb}

out : (s : List ℕ) (a e : ℕ) → (e < a) ⊎ (length s < e) → [] ≡ between s a e
unfolding between pick
out s a e h = go (leb a e) refl (leb e (length s)) refl
  where
    go : (x : Bool) → leb a e ≡ x → (y : Bool) → leb e (length s) ≡ y → [] ≡ pick x (pick y (take (e - a) (drop a s)) []) []
    go true p true q =
        let m : a ≤ e = leb-true a e p in
        let n : e ≤ length s = leb-true e (length s) q in
        absurd (omega arith)
    go true p false q = refl
    go false p y q = refl

-- `get(a..e)`, or no bytes
pub cut_or : (s : List ℕ) (a e : ℕ) (r : Option (Bor (List ℕ))) (d : Bor (List ℕ)) {x : Bor (List ℕ)} → x ≡ unwrap_or r d → d.now ≡ [] → IsGetRangeResult s a e r → x.now ≡ between s a e
unfolding between pick
cut_or s a e None d q n h = ap (λ (b : Bor (List ℕ)). b.now) q ∙ n ∙ out s a e h.0
cut_or s a e (Some x) d q n h = ap (λ (b : Bor (List ℕ)). b.now) q ∙ h.0.2 ∙ rw (le-leb a e h.0.0, le-leb e (length s) h.0.1) refl
