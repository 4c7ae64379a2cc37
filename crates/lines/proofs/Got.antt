-- From a reader's answer to what its parser gave, and back. Assumes nothing.
use mathlib.Core.Path.{◌≡◌, refl, sym, ap, subst, ◌∙◌}
use mathlib.Core.Bool.{Bool, true, false}
use mathlib.Core.List.{List}
use Prim.Native.Nat.{ℕ}
use Rattle.std.specs.Prelude.{Option, Some, None, is_some}
use lib.ListN.{length}
use lib.IntN.{ℤ}
use lib.Dec.{leb}
use Rattle.laws.specs.Choice.{pick}
use Rattle.laws.specs.Bytes.{same_bytes}
use Rattle.words.specs.Words.{spelled}
use Rattle.tokens.specs.Tokens.{between}
use Rattle.laws.proofs.Choice.{true_false}
use Rattle.lines.specs.Lines as lines
use Rattle.lines.specs.Lines.{Parsed, done, no, Parser, skipped, mark, end, name, integer, is_word, verb, field}
use Rattle.lines.specs.Answers.{span_in}
use Rattle.lines.specs.Private.{Spot, moved, Gave, Gives, Went, Marked, Stored, Added, is_done, given, span_from, verb_in, verb_from, field_in, field_from}
use Rattle.lines.specs.declared.Span.{Span}
use Rattle.contract.specs.declared.Verb.{Verb}
use Rattle.lines.specs.declared.Field.{Field}

pub given_missed : {A B : Type 0} (f : A → B) (p : Parsed A) → None ≡ given f p → p ≡ no
given_missed f (done a m) q = cc
given_missed f no q = refl

-- a parser has read, and a reader of its line stands after it
pub record Got {A : Type 0} (p : Parsed A) (s : List ℕ) (a : A) (new : Spot) : Type 0 where
  pub parsed : p ≡ done a new.at
  pub line : new.line ≡ s

pub stands : {s : List ℕ} {new : Spot} → new.line ≡ s → new ≡ record { line = s; at = new.at }
stands {s} {new} e = λ i. record { line = e i; at = new.at }

-- ---- what a reader answers

module _ {A B : Type 0} (f : A → B) (old : Spot) {p : Parsed A} where
  pub gave : {a : A} {r : Option B} {new : Spot} → Got p old.line a new → r ≡ Some (f a) → Gave f p old r new
  gave {a} {r} {new} g e = subst (λ (q : Parsed A). Gave f q old r new) (sym g.parsed) (e, stands g.line)

  pub gave_none : {r : Option B} (new : Spot) → p ≡ no → r ≡ None → Gave f p old r new
  gave_none {r} new e q = subst (λ (x : Parsed A). Gave f x old r new) (sym e) q

  pub gave_at : {a : A} {n : ℕ} {r : Option B} → p ≡ done a n → r ≡ Some (f a) → Gave f p old r (moved old n)
  gave_at {a} {n} {r} e q = subst (λ (x : Parsed A). Gave f x old r (moved old n)) (sym e) (q, refl)

  pub gave_as : {q : Parsed A} (r : Option B) (new : Spot) → p ≡ q → Gave f q old r new → Gave f p old r new
  gave_as r new e w = subst (λ (x : Parsed A). Gave f x old r new) (sym e) w

module _ {A B : Type 0} (add : A → B) (old : Spot) {p : Parsed A} where
  pub stored : {a : A} {r : Option Unit} {new : Spot} {out : B} → Got p old.line a new → r ≡ Some tt → out ≡ add a → Stored add p old r new out
  stored {a} {r} {new} {out} g e w = subst (λ (q : Parsed A). Stored add q old r new out) (sym g.parsed) (e, stands g.line, w)

  pub stored_as : {q : Parsed A} (r : Option Unit) (new : Spot) (out : B) → p ≡ q → Stored add q old r new out → Stored add p old r new out
  stored_as r new out e w = subst (λ (x : Parsed A). Stored add x old r new out) (sym e) w

  pub stored_none : {r : Option Unit} (new : Spot) (out : B) → p ≡ no → r ≡ None → Stored add p old r new out
  stored_none {r} new out e q = subst (λ (x : Parsed A). Stored add x old r new out) (sym e) q

-- ---- what a reader answered, which reads this line

module _ {A B : Type 0} (f : A → B) (back : B → A) (same : (a : A) → back (f a) ≡ a) (p : List ℕ → Parser A) where
  gave_got : {x : B} (old : Spot) {new : Spot} (q : Parsed A) → Gave f q old (Some x) new → Got q old.line (back x) new
  gave_got {x} old {new} (done a n) w =
      let k : f a ≡ x = let h = w.0 in cc in
      let e = sym (same a) ∙ ap back k in
      let m : n ≡ new.at = sym (ap (λ (y : Spot). y.at) w.1) in
      record { parsed = λ i. done (e i) (m i); line = ap (λ (y : Spot). y.line) w.1 }
  gave_got old no w = cc

  pub got : {x : B} (old : Spot) {new : Spot} {s : List ℕ} → old.line ≡ s → Gives f p old (Some x) new → Got (p s old.at) s (back x) new
  got {x} old {new} l w = subst (λ (t : List ℕ). Got (p t old.at) t (back x) new) l (gave_got old (p old.line old.at) w)

module _ {A B : Type 0} (f : A → B) (p : List ℕ → Parser A) where
  gave_missed : (old new : Spot) (q : Parsed A) → Gave f q old None new → q ≡ no
  gave_missed old new (done a n) w = let h = w.0 in cc
  gave_missed old new no w = refl

  pub missed : (old new : Spot) {s : List ℕ} → old.line ≡ s → Gives f p old None new → p s old.at ≡ no
  missed old new l w = subst (λ (t : List ℕ). p t old.at ≡ no) l (gave_missed old new (p old.line old.at) w)

pub name_got : {x : Span} (old : Spot) {new : Spot} {s : List ℕ} → old.line ≡ s → Gives span_in name old (Some x) new → Got (name s old.at) s (span_from x) new
name_got = got span_in span_from (λ a. refl) name

pub name_missed : (old new : Spot) {s : List ℕ} → old.line ≡ s → Gives span_in name old None new → name s old.at ≡ no
name_missed = missed span_in name

pub integer_got : {x : ℤ} (old : Spot) {new : Spot} {s : List ℕ} → old.line ≡ s → Gives (λ z. z) integer old (Some x) new → Got (integer s old.at) s x new
integer_got = got (λ z. z) (λ z. z) (λ a. refl) integer

pub integer_missed : (old new : Spot) {s : List ℕ} → old.line ≡ s → Gives (λ (z : ℤ). z) integer old None new → integer s old.at ≡ no
integer_missed = missed (λ z. z) integer

pub verb_got : (x : Verb) (old : Spot) {new : Spot} {s : List ℕ} → old.line ≡ s → Gives verb_in verb old (Some x) new → Got (verb s old.at) s (verb_from x) new
verb_got x old l w = got verb_in verb_from same verb {x = x} old l w
  where
    same : (v : lines.Verb) → verb_from (verb_in v) ≡ v
    same lines.set = refl
    same lines.ok = refl

pub verb_missed : (old new : Spot) {s : List ℕ} → old.line ≡ s → Gives verb_in verb old None new → verb s old.at ≡ no
verb_missed = missed verb_in verb

pub field_got : {x : Field} (old : Spot) {new : Spot} {s : List ℕ} → old.line ≡ s → Gives field_in field old (Some x) new → Got (field s old.at) s (field_from x) new
field_got = got field_in field_from (λ a. refl) field

pub field_missed : (old new : Spot) {s : List ℕ} → old.line ≡ s → Gives field_in field old None new → field s old.at ≡ no
field_missed = missed field_in field

-- ---- marks

pub record Kept (p : Parsed Unit) (old new : Spot) : Type 0 where
  pub parsed : p ≡ no
  pub here : new ≡ old

module _ (m : List ℕ) (old : Spot) {new : Spot} where
  went : {u : Unit} (q : Parsed Unit) → Went q old (Some u) new → Got q old.line tt new
  went (done v n) w =
      let k : n ≡ new.at = sym (ap (λ (y : Spot). y.at) w.1) in
      record { parsed = λ i. done tt (k i); line = ap (λ (y : Spot). y.line) w.1 }
  went no w = let h = w.0 in cc

  went_none : (q : Parsed Unit) → Went q old None new → Kept q old new
  went_none (done v n) w = let h = w.0 in cc
  went_none no w = record { parsed = refl; here = w.1 }

  pub mark_got : {u : Unit} {s : List ℕ} → old.line ≡ s → Marked m old (Some u) new → Got (mark s m old.at) s tt new
  mark_got l w = subst (λ (t : List ℕ). Got (mark t m old.at) t tt new) l (went (mark old.line m old.at) w)

  pub mark_missed : {s : List ℕ} → old.line ≡ s → Marked m old None new → Kept (mark s m old.at) old new
  mark_missed l w = subst (λ (t : List ℕ). Kept (mark t m old.at) old new) l (went_none (mark old.line m old.at) w)

  -- by an option that is asked which one it is
  pub mark_past_is : (r : Option Unit) {s : List ℕ} → old.line ≡ s → Marked m old r new → is_some r ≡ true → Got (mark s m old.at) s tt new
  mark_past_is (Some u) l w e = mark_got l w
  mark_past_is None l w e = true_false (sym e)

  pub mark_not_is : (r : Option Unit) {s : List ℕ} → old.line ≡ s → Marked m old r new → is_some r ≡ false → Kept (mark s m old.at) old new
  mark_not_is (Some u) l w e = true_false e
  mark_not_is None l w e = mark_missed l w

module _ (old : Spot) {p : Parsed Unit} where
  pub went_past : {n : ℕ} → p ≡ done tt n → Went p old (Some tt) (moved old n)
  went_past {n} e = subst (λ (x : Parsed Unit). Went x old (Some tt) (moved old n)) (sym e) (refl, refl)

  pub went_not : {r : Option Unit} → p ≡ no → r ≡ None → Went p old r old
  went_not {r} e q = subst (λ (x : Parsed Unit). Went x old r old) (sym e) (q, refl)

-- ---- what was read and stored

pub record Filled {A B : Type 0} (add : A → B) (p : Parsed A) (s : List ℕ) (new : Spot) (out : B) : Type 0 where
  pub read : A
  pub is : Got p s read new
  pub out_is : out ≡ add read

module _ {A B : Type 0} (add : A → B) (p : List ℕ → Parser A) (old new : Spot) (out : B) where
  stored_got : {u : Unit} (q : Parsed A) → Stored add q old (Some u) new out → Filled add q old.line new out
  stored_got (done a n) w =
      let k : n ≡ new.at = sym (ap (λ (y : Spot). y.at) w.1) in
      record { read = a; is = record { parsed = ap (done a) k; line = ap (λ (y : Spot). y.line) w.1 }; out_is = w.2 }
  stored_got no w = cc

  stored_missed : (q : Parsed A) → Stored add q old None new out → q ≡ no
  stored_missed (done a n) w = let h = w.0 in cc
  stored_missed no w = refl

  pub added_got : {u : Unit} {s : List ℕ} → old.line ≡ s → Added add p old (Some u) new out → Filled add (p s old.at) s new out
  added_got l w = subst (λ (t : List ℕ). Filled add (p t old.at) t new out) l (stored_got (p old.line old.at) w)

  pub added_missed : {s : List ℕ} → old.line ≡ s → Added add p old None new out → p s old.at ≡ no
  added_missed l w = subst (λ (t : List ℕ). p t old.at ≡ no) l (stored_missed (p old.line old.at) w)

module _ {A B : Type 0} (add : A → B) (old : Spot) {p : Parsed A} where
  pub filled : {r : Option Unit} {new : Spot} {out : B} → Filled add p old.line new out → r ≡ Some tt → Stored add p old r new out
  filled g e = stored add old g.is e g.out_is

  -- by another reader's answer, from a place in the same line
  pub stored_from : (q : List ℕ → Parser A) (here : Spot) (r : Option Unit) (new : Spot) (out : B) → here.line ≡ old.line → p ≡ q old.line here.at → Added add q here r new out → Stored add p old r new out
  stored_from q here (Some u) new out l e w =
      let g = added_got add q here new out l w in
      stored_as add old _ _ _ e (stored add old g.is refl g.out_is)
  stored_from q here None new out l e w = stored_none add old new out (e ∙ added_missed add q here new out l w) refl

  -- by the mark that closes a list, where another mark was asked for in vain
  pub closed_by : (m : List ℕ) (here still : Spot) (r : Option Unit) (new : Spot) (out : B) → here.line ≡ old.line → still ≡ here → Marked m still r new → (Got (mark old.line m here.at) old.line tt new → Filled add p old.line new out) → (mark old.line m here.at ≡ no → p ≡ no) → Stored add p old r new out
  closed_by m here still r new out l h w f g = go r (subst (λ (x : Spot). Marked m x r new) h w)
    where
      go : (r : Option Unit) → Marked m here r new → Stored add p old r new out
      go (Some u) v = filled (f (mark_got m here l v)) refl
      go None v = stored_none add old new out (g (mark_missed m here l v).parsed) refl

module _ (s : List ℕ) where
  end_yes : (at : ℕ) → is_done (end s at) ≡ true → end s at ≡ done tt at
  unfolding end pick
  end_yes at e = go (leb (length s) (skipped s at)) e
    where
      go : (b : Bool) → is_done (pick {A = Parsed Unit} b (done tt at) no) ≡ true → pick {A = Parsed Unit} b (done tt at) no ≡ done tt at
      go true q = refl
      go false q = true_false (sym q)

  end_no : (at : ℕ) → is_done (end s at) ≡ false → end s at ≡ no
  unfolding end pick
  end_no at e = go (leb (length s) (skipped s at)) e
    where
      go : (b : Bool) → is_done (pick {A = Parsed Unit} b (done tt at) no) ≡ false → pick {A = Parsed Unit} b (done tt at) no ≡ no
      go true q = true_false q
      go false q = refl

-- ---- what is asked of a reader of this line

module _ {s t : List ℕ} (l : t ≡ s) {r : Bool} where
  pub ended : (at : ℕ) → r ≡ is_done (end t at) → r ≡ true → end s at ≡ done tt at
  ended at e q = subst (λ (u : List ℕ). end u at ≡ done tt at) l (end_yes t at (sym e ∙ q))

  pub unended : (at : ℕ) → r ≡ is_done (end t at) → r ≡ false → end s at ≡ no
  unended at e q = subst (λ (u : List ℕ). end u at ≡ no) l (end_no t at (sym e ∙ q))

  pub word_told : (x : Span) (k : ℕ) {b : Bool} → r ≡ same_bytes (between t x.start x.end) (spelled k) → r ≡ b → is_word s (span_from x) k ≡ b
  unfolding is_word
  word_told x k e q = ap (λ (u : List ℕ). same_bytes (between u x.start x.end) (spelled k)) (sym l) ∙ sym e ∙ q
