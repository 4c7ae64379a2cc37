-- Laws of a function's head where a cursor is a number. Assumes nothing.
use mathlib.Core.Path.{◌≡◌, ◌∙◌}
use mathlib.Core.List.{List}
use Prim.Native.Nat.{ℕ}
use Rattle.tokens.specs.Tokens.{between}
use Rattle.entries.specs.Draft.{Draft, number_in, party_used, head}
use Rattle.reading_laws.specs.Walk.{draft}
use Rattle.cursors.specs.Packed.{start_in, end_in, cursor_in}

module _ (s : List ℕ) where
  pub party_number : (p number : ℕ) (n x w : List ℕ) → x ≡ s → w ≡ between s (start_in p) (end_in p) → number ≡ number_in x n 0 w
      → number ≡ number_in s n 0 (between s (cursor_in s p).start (cursor_in s p).end)
  unfolding cursor_in
  party_number p number n x w e f h = h ∙ (λ i. number_in (e i) n 0 (f i))

  pub party_used_lem : (p a b : ℕ) (x n m : List ℕ) → x ≡ s → a ≡ start_in p → b ≡ end_in p → m ≡ party_used x a b n
      → m ≡ party_used s (cursor_in s p).start (cursor_in s p).end n
  unfolding cursor_in
  party_used_lem p a b x n m g e f h = h ∙ (λ i. party_used (g i) (e i) (f i) n)

  module _ (c f a b d state number : ℕ) (x t n : List ℕ) (g : x ≡ s) (e₁ : a ≡ start_in c) (e₂ : b ≡ start_in f) (e₃ : d ≡ end_in f) where
    pub head_at : (p : Draft) → p ≡ head x a state number b d (draft t n)
        → p ≡ head s (cursor_in s c).start state number (cursor_in s f).start (cursor_in s f).end (draft t n)
    unfolding cursor_in
    head_at p h = h ∙ (λ i. head (g i) (e₁ i) state number (e₂ i) (e₃ i) (draft t n))
