-- A name's kind as the first reserved word that its bytes spell. Assumes nothing.
use Rattle.std.proofs.Common.{◌≡◌, refl, ap, ◌∙◌, ℕ, Bool, true, false, cond, List, [], ◌∷◌, Option, None, Some, find}
use Rattle.std.specs.Option.{unwrap_or, option_map}
use Rattle.laws.specs.Choice.{pick}
use Rattle.laws.specs.Bytes.{same_bytes}
use Rattle.words.specs.Words.{spelled}
use Rattle.tokens.specs.Tokens.{name, kind_among}

module _ (w : List ℕ) where
  abbrev pub first : List ℕ → Option ℕ
  first ks = find (λ k. same_bytes w (spelled k)) ks

  first_is : (ks : List ℕ) → unwrap_or (first ks) name ≡ kind_among ks w
  unfolding kind_among pick
  first_is [] = refl
  first_is (k ∷ ks) = go (same_bytes w (spelled k)) (first_is ks)
    where
      go : (b : Bool) → unwrap_or (first ks) name ≡ kind_among ks w → unwrap_or (cond b (Some k) (first ks)) name ≡ pick b k (kind_among ks w)
      go true e = refl
      go false e = e

  pub kind_is : (ks : List ℕ) (o : Option ℕ) → option_map (λ k. k) o ≡ first ks → unwrap_or o name ≡ kind_among ks w
  kind_is ks None e = ap (λ (x : Option ℕ). unwrap_or x name) e ∙ first_is ks
  kind_is ks (Some k) e = ap (λ (x : Option ℕ). unwrap_or x name) e ∙ first_is ks
