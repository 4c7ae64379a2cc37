-- The pieces of a diagnosis put together, and how long they are. Assumes nothing.
use mathlib.Core.Path.{◌≡◌, sym, ap, subst, ◌∙◌}
use mathlib.Core.Logic.{◌⊎◌, inl, inr}
use mathlib.Core.Bool.{Bool, true, false, ◌&&◌, ◌||◌}
use mathlib.Core.List.{List, [], ◌∷◌, ◌++◌, append-nil}
use Prim.Native.Nat.{ℕ, ◌+◌, ◌-◌, ◌^◌, ◌<◌, ◌≤◌}
use native.Mathlib.Omega.{arith}
use lib.ListN.{length, drop, length-append}
use lib.Dec.{eqb, ltb, leb}
use borrow.Author.Tests.{lt-ltb, le-ltb, le-leb, lt-leb}
use Rattle.laws.proofs.Truths.{both_true, and_false}
use Rattle.laws.specs.Bytes.{bytes}
use Rattle.laws.proofs.Choice.{pick_true, pick_false}
use Rattle.tokens.specs.Tokens.{between}
use Rattle.printing.specs.Decimal.{decimal}
use Rattle.printing.specs.Pieces.{Put, spaces}
use Rattle.printing.proofs.Puts.{Puts, put_of, piece, same, put_nothing, then, over, line_end_lem}
use Rattle.printing.proofs.Digits.{word_short}
use Rattle.printing.proofs.Names.{spaces_long}
use Rattle.question_words.specs.Words.{words_of}
use Rattle.question_words.proofs.WordLaws.{words_short}
use Rattle.places.specs.Places.{place_of, column_of}
use Rattle.places.specs.declared.Place.{Place}
use Rattle.diagnoses.specs.Diagnoses.{where_text, what_text, shown_line, mark_under, source_text, diagnosis_at, diagnosis, fits, written, buffer_after}

-- ---- lengths

pub where_short : (file : List ℕ) (line column : ℕ) → length file ≤ 1024 → line < 2 ^ 64 → column < 2 ^ 64 → length (where_text file line column) ≤ 1068
unfolding where_text
where_short file line column h l k =
    simp length-append (omega (arith, h, word_short line l, word_short column k))

pub what_short : (n : ℕ) → n < 2 ^ 64 → length (what_text n) ≤ 88
unfolding what_text
what_short n h = simp length-append (omega (arith, words_short n, word_short n h))

-- ---- lines

module _ {old : List ℕ} {at : ℕ} where
  pub where_made : {s1 s2 s3 s4 s5 s6 : Type 0} {m1 m2 m3 m4 m5 new : List ℕ} {a1 a2 a3 a4 a5 end : ℕ} (file : List ℕ) (line column : ℕ)
      → length file ≤ 1024 → line < 2 ^ 64 → column < 2 ^ 64 → at + 1068 ≤ length old
      → Puts old at file a1 m1 s1 → Puts m1 a1 (bytes ":") a2 m2 s2 → Puts m2 a2 (decimal line) a3 m3 s3 → Puts m3 a3 (bytes ":") a4 m4 s4
      → Puts m4 a4 (decimal column) a5 m5 s5 → Puts m5 a5 (bytes ": ") end new s6 → Put old at (where_text file line column) end new
  unfolding where_text
  where_made file line column f l k r a b d e g i =
      let h : at + length (where_text file line column) ≤ length old = omega (arith, where_short file line column f l k, r) in
      piece file h a λ h. piece (bytes ":") h b λ h. piece (decimal line) h d λ h. piece (bytes ":") h e λ h. piece (decimal column) h g λ h. put_of (bytes ": ") i h

  pub what_made : {s1 s2 s3 s4 : Type 0} {m1 m2 m3 new : List ℕ} {a1 a2 a3 end : ℕ} (number : ℕ) → number < 2 ^ 64 → at + 88 ≤ length old
      → Puts old at (words_of number) a1 m1 s1 → Puts m1 a1 (bytes " (") a2 m2 s2 → Puts m2 a2 (decimal number) a3 m3 s3 → Puts m3 a3 (bytes ")\n") end new s4
      → Put old at (what_text number) end new
  unfolding what_text
  what_made number f r a b d e =
      let h : at + length (what_text number) ≤ length old = omega (arith, what_short number f, r) in
      piece (words_of number) h a λ h. piece (bytes " (") h b λ h. piece (decimal number) h d λ h. put_of (bytes ")\n") e h

  pub mark_none : (column : ℕ) → 200 < column → at + 0 ≤ length old → Put old at (mark_under column) at old
  unfolding mark_under
  mark_none column h r =
      same (sym (pick_true (ltb 200 column) [] (spaces (column - 1) ++ bytes "^\n") (lt-ltb 200 column h))) (put_nothing (omega (arith, r)))

  pub mark_made : {s1 s2 : Type 0} {mid new : List ℕ} {m end : ℕ} (column : ℕ) → 1 ≤ column → column ≤ 200 → at + 201 ≤ length old → Puts old at (spaces (column - 1)) m mid s1
      → Puts mid m (bytes "^\n") end new s2 → Put old at (mark_under column) end new
  unfolding mark_under
  mark_made column f k r p q =
      let h : at + length (spaces (column - 1) ++ bytes "^\n") ≤ length old = omega (arith, length-append (spaces (column - 1)) (bytes "^\n"), spaces_long (column - 1)) in
      same (sym (pick_false (ltb 200 column) [] (spaces (column - 1) ++ bytes "^\n") (le-ltb 200 column k))) (piece (spaces (column - 1)) h p λ h. put_of (bytes "^\n") q h)

  pub source_made : {line : List ℕ} {m1 m2 new : List ℕ} {a1 a2 end : ℕ} (text : List ℕ) (p : Place) → line ≡ between text p.start p.end
      → Put old at (shown_line line) a1 m1 → Put m1 a1 (10 ∷ []) a2 m2 → Put m2 a2 (mark_under p.column) end new → Put old at (source_text text p) end new
  unfolding source_text
  source_made {line} text p e a b d =
      same (ap (λ (l : List ℕ). shown_line l ++ (bytes "\n" ++ mark_under p.column)) e) (then a (then b d))

  -- questions 1 and 2
  pub diagnosed_short : {p : Place} {mid new : List ℕ} {m end : ℕ} (file text : List ℕ) (number q : ℕ) → p ≡ place_of text q
      → (eqb number 1 || eqb number 2) ≡ true → Put old at (where_text file p.line p.column) m mid → Put mid m (what_text number) end new
      → Put old at (diagnosis file text number q) end new
  unfolding diagnosis_at
  diagnosed_short {p = p} {new = new} {end = end} file text number q e t a b =
      subst (λ (o : Place). Put old at (diagnosis_at file text number o) end new) e
      (then a (same (sym (ap (λ (l : List ℕ). what_text number ++ l) (pick_true (eqb number 1 || eqb number 2) [] (source_text text p) t) ∙ append-nil (what_text number))) b))

  pub diagnosed : {p : Place} {m1 m2 new : List ℕ} {a1 a2 end : ℕ} (file text : List ℕ) (number q : ℕ) → p ≡ place_of text q
      → (eqb number 1 || eqb number 2) ≡ false → Put old at (where_text file p.line p.column) a1 m1 → Put m1 a1 (what_text number) a2 m2
      → Put m2 a2 (source_text text p) end new → Put old at (diagnosis file text number q) end new
  unfolding diagnosis_at
  diagnosed {p = p} {new = new} {end = end} file text number q e t a b d =
      subst (λ (o : Place). Put old at (diagnosis_at file text number o) end new) e
      (then a (same (sym (ap (λ (l : List ℕ). what_text number ++ l) (pick_false (eqb number 1 || eqb number 2) [] (source_text text p) t))) (then b d)))

pub column_counts : (text : List ℕ) (q : ℕ) {p : Place} → p ≡ place_of text q → 1 ≤ p.column
unfolding column_of
column_counts text q {p} e = omega (arith, ap (λ (o : Place). o.column) e)

-- ---- the whole

module _ (file text : List ℕ) (number q : ℕ) where
  pub all_written : {old new : List ℕ} {n : ℕ} → fits (length file) (length old) ≡ true → Put old 0 (diagnosis file text number q) n new
      → record { value : n ≡ written file text number q (length old); buffer_after : new ≡ buffer_after file text number q old }
  all_written {old} {new} {n} t p = record {
    value = line_end_lem p ∙ sym (pick_true _ _ _ t);
    buffer_after = over p ∙ ap (λ (k : ℕ). diagnosis file text number q ++ drop k old) (line_end_lem p) ∙ sym (pick_true _ _ _ t);
  }

  pub none_written : (old : List ℕ) → fits (length file) (length old) ≡ false
      → record { value : 0 ≡ written file text number q (length old); buffer_after : old ≡ buffer_after file text number q old }
  none_written old t = record { value = sym (pick_false _ _ _ t); buffer_after = sym (pick_false _ _ _ t) }

-- ---- whether it fits

pub fits_both : {name room : ℕ} → name ≤ 1024 → 2048 ≤ room → fits name room ≡ true
unfolding fits
fits_both {name} {room} h k = both_true (leb name 1024) (leb 2048 room) (le-leb name 1024 h) (le-leb 2048 room k)

pub fits_not : {name room : ℕ} → (1024 < name) ⊎ ((name ≤ 1024) × (room < 2048)) → fits name room ≡ false
unfolding fits
fits_not {name} {room} (inl h) = ap (λ (b : Bool). b && leb 2048 room) (lt-leb name 1024 h)
fits_not {name} {room} (inr h) = ap (λ (b : Bool). leb name 1024 && b) (lt-leb 2048 room h.1) ∙ and_false (leb name 1024)
