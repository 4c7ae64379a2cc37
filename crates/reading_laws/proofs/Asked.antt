-- A text is refused by the number of a question: what an answer says of a refusal is what reading is. Assumes nothing.
use Prim.Native.Nat.{ℕ, ◌<◌, ◌≤◌}
use native.Mathlib.Omega.{arith}
use mathlib.Core.Path.{◌≡◌, refl, sym, ap, ◌∙◌, subst}
use mathlib.Core.Bool.{Bool, true, false, ◌||◌}
use mathlib.Core.List.{List}
use lib.Dec.{eqb}
use borrow.Author.Tests.{leb-true, eqb-true}
use Rattle.std.specs.Prelude.{IfErr}
use Rattle.laws.specs.Choice.{pick}
use Rattle.laws.specs.Lists.{all_below}
use Rattle.laws.proofs.Choice.{pick_true, true_false}
use Rattle.laws.proofs.Truths.{either_true, both_right}
use Rattle.laws.proofs.Members.{all_stop}
use Rattle.questions.specs.Numbers.{number_of}
use Rattle.contract.specs.Check.{ranges}
use Rattle.reading.specs.Reading.{Reading, accepted, refused, Answered, asked, read_text, answer_of}
use Rattle.accepted.proofs.Refusals.{refused_within}

-- the numbers that refuse a text
abbrev refuses : ℕ → Bool
refuses q = eqb q 1 || (eqb q 2 || ranges 5 q 15)

refuses_below : (q : ℕ) → refuses q ≡ true → q < 16
unfolding ranges
refuses_below q h =
    either_true (eqb q 1) (eqb q 2 || ranges 5 q 15) h (λ e. let f : q ≡ 1 = eqb-true q 1 e in omega arith) λ g.
    either_true (eqb q 2) (ranges 5 q 15) g (λ e. let f : q ≡ 2 = eqb-true q 2 e in omega arith) λ r.
    let f : q ≤ 15 = leb-true q 15 (both_right _ _ r) in omega arith

abbrev kept : ℕ → Bool
kept q = pick (refuses q) (eqb (number_of (asked q)) q) true

all_kept : all_below 16 kept ≡ true
unfolding all_below asked ranges pick
all_kept = refl

pub number_asked : (q : ℕ) → refuses q ≡ true → number_of (asked q) ≡ q
number_asked q h = eqb-true (number_of (asked q)) q (sym (pick_true _ _ _ h) ∙ go (kept q) refl)
  where
    go : (b : Bool) → kept q ≡ b → kept q ≡ true
    go true e = e
    go false e = true_false (sym all_kept ∙ all_stop kept 16 q (refuses_below q h) e)

module _ (s : List ℕ) (words : ℕ) where
  said : (d : Reading) → read_text s words ≡ d → IfErr (answer_of d) (λ e. read_text s words ≡ refused (number_of e.question) e.place)
  said (accepted c) e = tt
  said (refused q p) e = e ∙ ap (λ (n : ℕ). refused n p) (sym (number_asked q (refused_within s words q p e).0))

  -- a refusal's question and place are those of the reading
  pub refusal_read : (r : Answered) → r ≡ answer_of (read_text s words) → IfErr r (λ e. read_text s words ≡ refused (number_of e.question) e.place)
  refusal_read r e =
      let P : Answered → Type 0 = λ x. IfErr x (λ e. read_text s words ≡ refused (number_of e.question) e.place) in
      subst P (sym e) (said (read_text s words) refl)
