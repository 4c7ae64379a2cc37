-- A cursor's parts, and a parser's answer that was tested, as code learns them. Assumes nothing.
use mathlib.Core.Path.{◌≡◌, sym, ap, subst, ◌∙◌}
use mathlib.Core.Bool.{Bool, true, false}
use mathlib.Core.List.{List, []}
use Prim.Native.Nat.{ℕ}
use Rattle.entries.specs.Draft.{counted}
use Rattle.reading.specs.Grammar.{is_one_of, item_starts}
use Rattle.reading_laws.specs.Walk.{Walk, AgreesWith, Step, On, Stop, cursor_at}
use Rattle.cursors.specs.Packed.{kind_in, start_in, end_in, is_stop, cursor_in, step_in}
use Rattle.cursors.proofs.Packs.{step_in_on, step_in_stop}

-- an answer in other words
pub leaves_step_in : (w : Walk) (x r : Step) (t n : List ℕ) → r ≡ x → AgreesWith w x t n → AgreesWith w r t n
leaves_step_in w x r t n e h = subst (λ (y : Step). AgreesWith w y t n) (sym e) h

module _ (s : List ℕ) where
  -- ---- an answer that was tested

  pub halts : (r : ℕ) (b : Bool) → b ≡ is_stop r → b ≡ true → step_in s r ≡ Stop (kind_in r) (start_in r)
  halts r b e t = step_in_stop s r (sym e ∙ t)

  pub keeps : (r : ℕ) (b : Bool) → b ≡ is_stop r → b ≡ false → step_in s r ≡ On (cursor_in s r)
  keeps r b e t = step_in_on s r (sym e ∙ t)

  -- a cursor as an answer
  pub as_on : (w : Walk) (r : ℕ) (t n : List ℕ) → is_stop r ≡ false → AgreesWith w (On (cursor_in s r)) t n → AgreesWith w (step_in s r) t n
  as_on w r t n e h = subst (λ (x : Step). AgreesWith w x t n) (sym (step_in_on s r e)) h

  -- ---- a cursor's parts

  pub kind_is : (c k m : ℕ) → k ≡ kind_in c → k ≡ m → (cursor_in s c).kind ≡ m
  unfolding cursor_in
  kind_is c k m e f = sym e ∙ f

  pub kind_not : (c k m : ℕ) → k ≡ kind_in c → (k ≡ m → ⊥) → (cursor_in s c).kind ≡ m → ⊥
  unfolding cursor_in
  kind_not c k m e f g = f (e ∙ g)

  pub starts_is : (c k : ℕ) (b v : Bool) → k ≡ kind_in c → b ≡ is_one_of item_starts k → b ≡ v → is_one_of item_starts (cursor_in s c).kind ≡ v
  unfolding cursor_in
  starts_is c k b v e f g = sym (f ∙ ap (is_one_of item_starts) e) ∙ g

  -- the cursor after one
  pub next_is : (l e r : ℕ) → e ≡ end_in l → cursor_in s r ≡ cursor_at s e → cursor_in s r ≡ cursor_at s (cursor_in s l).end
  unfolding cursor_in
  next_is l e r h k = k ∙ ap (λ (x : ℕ). cursor_at s x) h

  pub counted_at : (k c a : ℕ) (n m : List ℕ) → a ≡ start_in c → m ≡ counted k a n → m ≡ counted k (cursor_in s c).start n
  unfolding cursor_in
  counted_at k c a n m h g = g ∙ ap (λ (x : ℕ). counted k x n) h

  -- a refusal at a cursor's token
  pub refused_at : (c r q a : ℕ) → a ≡ start_in c → is_stop r ≡ true → step_in [] r ≡ Stop q a → step_in s r ≡ Stop q (cursor_in s c).start
  unfolding cursor_in
  refused_at c r q a h e g = step_in_stop s r e ∙ sym (step_in_stop [] r e) ∙ g ∙ ap (λ (x : ℕ). Stop q x) h
