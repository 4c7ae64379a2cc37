-- For callers: what a line asks for, told by its request, and what its arrays hold. Assumes nothing.
use mathlib.Core.Path.{◌≡◌, refl, sym, ap, ◌∙◌}
use mathlib.Core.List.{List, ◌++◌, append_assoc}
use Prim.Native.Nat.{ℕ, ◌+◌, ◌-◌, ◌≤◌}
use native.Mathlib.Omega.{arith}
use lib.ListN.{length, take, drop, replicate, length-append, length-take}
use lib.IntN.{ℤ}
use Rattle.std.proofs.lemmas.List.{take-append-drop}
use lib.Seq.{sets-eq, take-append_seam, drop-append_seam}
use Rattle.questions.specs.declared.Question.{Question}
use Rattle.lines.specs.Lines.{Part, Call, Asked, refused, tick, jump, call, agreement, asked}
use Rattle.lines.specs.Answers.{padded, request_of, numbers_of, numbers_after}
use Rattle.std.specs.Prelude.{Ok, Err}
use Rattle.lines.proofs.Forms.{numbers_fit}
use Rattle.lines.specs.declared.Call as declared
use Rattle.lines.specs.declared.Request.TheVariants as request

-- ---- by the request

pub told_refused : {q : Question} (a : Asked) → request_of a ≡ Err q → a ≡ refused q
unfolding request_of
told_refused {q} (refused p) e = let h : p ≡ q = cc in ap refused h
told_refused tick e = let z : ◌≡◌ {A = ℕ} 0 1 = cc in absurd (omega arith)
told_refused (jump y) e = let z : ◌≡◌ {A = ℕ} 0 1 = cc in absurd (omega arith)
told_refused (call c) e = let z : ◌≡◌ {A = ℕ} 0 1 = cc in absurd (omega arith)
told_refused (agreement ps) e = let z : ◌≡◌ {A = ℕ} 0 1 = cc in absurd (omega arith)

pub told_tick : (a : Asked) → request_of a ≡ Ok request.Tick → a ≡ tick
unfolding request_of
told_tick (refused p) e = let z : ◌≡◌ {A = ℕ} 0 1 = cc in absurd (omega arith)
told_tick tick e = refl
told_tick (jump y) e = let z : ◌≡◌ {A = ℕ} 0 1 = cc in absurd (omega arith)
told_tick (call c) e = let z : ◌≡◌ {A = ℕ} 0 1 = cc in absurd (omega arith)
told_tick (agreement ps) e = let z : ◌≡◌ {A = ℕ} 0 1 = cc in absurd (omega arith)

pub told_jump : {z : ℤ} (a : Asked) → request_of a ≡ Ok (request.Jump z) → a ≡ jump z
unfolding request_of
told_jump (refused p) e = let z : ◌≡◌ {A = ℕ} 0 1 = cc in absurd (omega arith)
told_jump tick e = let z : ◌≡◌ {A = ℕ} 0 1 = cc in absurd (omega arith)
told_jump {z} (jump y) e = let h : y ≡ z = cc in ap jump h
told_jump (call c) e = let z : ◌≡◌ {A = ℕ} 0 1 = cc in absurd (omega arith)
told_jump (agreement ps) e = let z : ◌≡◌ {A = ℕ} 0 1 = cc in absurd (omega arith)

pub record IsCall (a : Asked) : Type 0 where
  pub asks : Call
  pub is : a ≡ call asks

pub told_call : {x : declared.Call} (a : Asked) → request_of a ≡ Ok (request.Call x) → IsCall a
unfolding request_of
told_call (refused p) e = let z : ◌≡◌ {A = ℕ} 0 1 = cc in absurd (omega arith)
told_call tick e = let z : ◌≡◌ {A = ℕ} 0 1 = cc in absurd (omega arith)
told_call (jump y) e = let z : ◌≡◌ {A = ℕ} 0 1 = cc in absurd (omega arith)
told_call (call c) e = record { asks = c; is = refl }
told_call (agreement ps) e = let z : ◌≡◌ {A = ℕ} 0 1 = cc in absurd (omega arith)

pub record IsAgreement (a : Asked) : Type 0 where
  pub asks : List Part
  pub is : a ≡ agreement asks

pub told_agreement : (a : Asked) → request_of a ≡ Ok request.Agreement → IsAgreement a
unfolding request_of
told_agreement (refused p) e = let z : ◌≡◌ {A = ℕ} 0 1 = cc in absurd (omega arith)
told_agreement tick e = let z : ◌≡◌ {A = ℕ} 0 1 = cc in absurd (omega arith)
told_agreement (jump y) e = let z : ◌≡◌ {A = ℕ} 0 1 = cc in absurd (omega arith)
told_agreement (call c) e = let z : ◌≡◌ {A = ℕ} 0 1 = cc in absurd (omega arith)
told_agreement (agreement ps) e = record { asks = ps; is = refl }

-- ---- a call's integers

-- They come first in the list that was lent.
pub numbers_first : (s : List ℕ) (old new : List ℤ) → length old ≡ 256 → new ≡ numbers_after (asked s) old → take (length (numbers_of (asked s))) new ≡ numbers_of (asked s)
numbers_first s old new full e = ap (take (length (numbers_of (asked s)))) e ∙ go (asked s) (numbers_fit s)
  where
    go : (a : Asked) → length (numbers_of a) ≤ 255 → take (length (numbers_of a)) (numbers_after a old) ≡ numbers_of a
    go (call c) few =
        let zs = c.lists.values ++ c.lists.assets in
        ap (take (length zs)) (sets-eq zs old 0 (omega (arith, few, full))) ∙ take-append_seam zs _
    go tick few = refl
    go (jump z) few = refl
    go (agreement ps) few = refl
    go (refused q) few = refl

-- ---- the arrays

-- what a padded array holds
pub padded_front : {A : Type 0} (a : A) (n : ℕ) (xs : List A) → take (length xs) (padded a n xs) ≡ xs
padded_front a n xs = take-append_seam xs (replicate (n - length xs) a)

-- two lists, one after the other, in front of a list
module _ {A : Type 0} (l xs ys : List A) (front : take (length (xs ++ ys)) l ≡ xs ++ ys) where
  pub front_room : length xs + length ys ≤ length l
  front_room = omega (arith, ap length front, length-take (length (xs ++ ys)) l, length-append xs ys)

  in_front : l ≡ xs ++ (ys ++ drop (length (xs ++ ys)) l)
  in_front = sym (take-append-drop (length (xs ++ ys)) l) ∙ ap (λ (t : List A). t ++ drop (length (xs ++ ys)) l) front ∙ append_assoc xs ys (drop (length (xs ++ ys)) l)

  pub front_first : take (length xs) l ≡ xs
  front_first = ap (take (length xs)) in_front ∙ take-append_seam xs (ys ++ drop (length (xs ++ ys)) l)

  pub front_second : take (length ys) (drop (length xs) l) ≡ ys
  front_second =
      ap (λ (t : List A). take (length ys) (drop (length xs) t)) in_front
      ∙ ap (take (length ys)) (drop-append_seam xs (ys ++ drop (length (xs ++ ys)) l))
      ∙ take-append_seam ys (drop (length (xs ++ ys)) l)
