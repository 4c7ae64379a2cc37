-- No token has the kind of the text's end; so the pass stops there exactly where the grammar does. Assumes nothing.
use mathlib.Core.Path.{◌≡◌, refl, sym, ap, ◌∙◌}
use mathlib.Core.Bool.{Bool, true, false, not}
use mathlib.Core.List.{List, [], ◌∷◌}
use Prim.Native.Nat.{ℕ, ◌+◌}
use lib.ListN.{length, get_or, drop}
use lib.Dec.{eqb, leb, ltb}
use Rattle.laws.proofs.Choice.{by_cases, pick_true, pick_false}
use Rattle.laws.specs.Bytes.{same_bytes}
use Rattle.words.specs.Words.{spelled, close_brace}
use Rattle.tokens.specs.Classes.{is_letter, is_digit, is_name_byte, is_text, is_string_byte, run, decimal, gap}
use Rattle.tokens.specs.Tokens.{top, reserved, marks, kind_among, goes_on, name_at, number_at, string_at, mark_at, start_at, here, token_at}
use Rattle.tokens.specs.declared.Lexed.{Lexed}
use Rattle.tokens.specs.declared.Lexed.TheVariants.{Found, Refused, End}
use Rattle.laws.proofs.Truths.{both_left, both_right, not_true}
use Rattle.laws.specs.Lists.{every}
use Rattle.entries.specs.Draft.{Draft}
use Rattle.reading_laws.specs.Walk.{On}
use Rattle.reading.specs.Grammar.{and_then, unfit, token_in, ending, ends_on}
use Rattle.reading_laws.specs.Walk.{on, after, text_end, cursor_of, cursor_at, token, ending_at, at_end}
use Rattle.reading_laws.specs.Walk as walk
use Rattle.reading_laws.proofs.Run.{walked}
use Rattle.reading_laws.proofs.WalksTokens.{plain_one, one_kind, one_in_run, out_run}

-- no token of the kind that the text's end has
abbrev Fixed : Lexed → Type 0
Fixed (Found t) = eqb t.kind text_end ≡ false
Fixed (Refused q p) = Unit {0}
Fixed End = Unit {0}

abbrev is_token : ℕ → Bool
is_token k = not (eqb k text_end)

among_fixed : (ks : List ℕ) (w : List ℕ) → every is_token ks ≡ true → eqb (kind_among ks w) text_end ≡ false
unfolding kind_among every
among_fixed [] w h = refl
among_fixed (k ∷ ks) w h =
    by_cases (λ (j : ℕ). eqb j text_end ≡ false) (same_bytes w (spelled k)) _ _
    (λ _. not_true (eqb k text_end) (both_left (is_token k) (every is_token ks) h))
    (λ _. among_fixed ks w (both_right (is_token k) (every is_token ks) h))

mark_fixed : (ks : List ℕ) (s : List ℕ) (i : ℕ) → every is_token ks ≡ true → Fixed (mark_at ks s i)
unfolding mark_at every
mark_fixed [] s i h = tt
mark_fixed (k ∷ ks) s i h =
    by_cases Fixed (goes_on (drop i s) k) _ _
    (λ _. not_true (eqb k text_end) (both_left (is_token k) (every is_token ks) h))
    (λ _. mark_fixed ks s i (both_right (is_token k) (every is_token ks) h))

reserved_others : every is_token reserved ≡ true
unfolding every
reserved_others = refl

marks_others : every is_token marks ≡ true
unfolding every
marks_others = refl

token_fixed : (s : List ℕ) (at : ℕ) → Fixed (token_at s at)
unfolding token_at here start_at name_at number_at string_at
token_fixed s at =
    let i = at + gap false (drop at s) in
    let b = get_or s i 0 in
    by_cases Fixed (ltb i (length s)) _ _
    (λ _. by_cases Fixed (is_text b) _ _
    (λ _. by_cases Fixed (is_letter b) _ _
    (λ _. by_cases Fixed (leb (run is_name_byte (drop i s)) 32) _ _ (λ _. among_fixed reserved _ reserved_others) (λ _. tt))
    (λ _. by_cases Fixed (is_digit b) _ _
    (λ _. by_cases Fixed (leb (decimal 0 (drop i s)) top) _ _ (λ _. refl) (λ _. tt))
    (λ _. by_cases Fixed (eqb b 34) _ _
    (λ _. by_cases Fixed (eqb (get_or s (i + 1 + run is_string_byte (drop (i + 1) s)) 0) 34) _ _
    (λ _. by_cases Fixed (leb (run is_string_byte (drop (i + 1) s)) 64) _ _ (λ _. refl) (λ _. tt)) (λ _. tt))
    (λ _. mark_fixed marks s i marks_others))))
    (λ _. tt))
    (λ _. tt)

module _ (s : List ℕ) {B : Type 0} (run : B → Draft → Draft) (p : Draft) where
  end_run : (b : B) (at : ℕ) (o : Draft) → o ≡ run b p → after (at_end s (On (cursor_at s at))) (λ d. on d o) ≡ walked s run (ending s b at) p
  unfolding cursor_of ending unfit walked
  end_run b at o e = go (token_at s at) (token_fixed s at) refl
    where
      go : (l : Lexed) → Fixed l → token_at s at ≡ l → after (at_end s (On (cursor_of s at l))) (λ d. on d o) ≡ walked s run (ends_on s b at l) p
      go (Found t) f q = ap (λ w. after w (λ d. on d o)) (pick_false _ _ _ f)
      go (Refused k r) f q = ap (λ w. after w (λ d. on d o)) (pick_false _ _ _ refl)
      go End f q =
          ap (λ w. after w (λ d. on d o)) (pick_true _ _ _ refl)
          ∙ ap (on (cursor_of s at End)) e ∙ ap (λ (l : Lexed). on (cursor_of s at l) (run b p)) (sym q)

  -- past the last closing brace to the text's end
  pub ending_run : (b : B) (at : ℕ) (o : Draft) → o ≡ run b p → walk.ending s (cursor_at s at) o ≡ walked s run (and_then (token_in s (close_brace ∷ []) at) (λ t. ending s b)) p
  unfolding ending_at token
  ending_run b at o e =
      by_cases (λ w. after (at_end s w) (λ d. on d o) ≡ walked s run (and_then (token_in s (close_brace ∷ []) at) (λ t. ending s b)) p) (eqb (cursor_at s at).kind close_brace) _ _
      (λ f. one_in_run s run p close_brace at _ _ (plain_one close_brace refl refl) f (end_run b (cursor_at s at).end o e))
      (λ f. out_run s run p (close_brace ∷ []) at _ (one_kind close_brace (cursor_at s at).kind ∙ f))
