-- The invariant of the loops over the items of a list: what was read so far is added, and what is left of the line gives the rest. Assumes nothing.
use mathlib.Core.Path.{◌≡◌, sym, ap, ◌∙◌}
use mathlib.Core.List.{List, [], ◌∷◌, ◌++◌}
use Prim.Native.Nat.{ℕ, ◌+◌, ◌≤◌}
use native.Mathlib.Omega.{arith}
use lib.ListN.{length, length-append}
use lib.IntN.{ℤ}
use Rattle.lines.specs.Lines as lines
use Rattle.lines.specs.Lines.{done, no, Parser, mark, items}
use Rattle.lines.specs.Answers.{spans_of, values_of}
use Rattle.lines.specs.Private.{Spot, Integers, with_integers, with_fields}
use Rattle.lines.specs.declared.Agreement.{Agreement}
use Rattle.lines.proofs.Got.{Got, Filled}
use Rattle.lines.proofs.Ahead.{Ahead}
use Rattle.lines.proofs.Flat.{sets_append, spans_more, values_more}
use Rattle.lines.proofs.Turns.{Reached, begin, missing, turn, last, unclosed}

module _ {A B : Type 0} (s : List ℕ) (item : Parser A) (between : List ℕ) (close : Parser Unit) (add : List A → B) where
  pub record SoFar (at : ℕ) (here : Spot) (out : B) : Type 0 where
    pub read : List A
    pub reached : Reached s item between close at here.at read
    pub stored : out ≡ add read
    pub behind : at + length read ≤ here.at
    pub line : here.line ≡ s

  pub started : (here : Spot) {out : B} → here.line ≡ s → out ≡ add [] → SoFar here.at here out
  started here l e = record { read = []; reached = begin s item between close here.at; stored = e; behind = omega arith; line = l }

  module _ {at : ℕ} {here : Spot} {out : B} (v : SoFar at here out) where
    pub item_missing : item here.at ≡ no → items s item between close (length s) at ≡ no
    item_missing e = missing s item between close v.reached e

    module _ {x : A} {after : Spot} (got : Got (item here.at) s x after) (a : Ahead s here.at after.at) {new : B} (w : new ≡ add (v.read ++ (x ∷ []))) where
      pub one_more : {next : Spot} → Got (mark s between after.at) s tt next → after.at ≤ next.at → SoFar at next new
      one_more e h =
          record {
            read = v.read ++ (x ∷ []);
            reached = turn s item between close v.reached got.parsed (omega (arith, v.behind, a.more, a.inside)) e.parsed;
            stored = w;
            behind = omega (arith, v.behind, a.more, length-append v.read (x ∷ []));
            line = e.line;
          }

      pub closing : {last_at : Spot} → mark s between after.at ≡ no → Got (close after.at) s tt last_at → Filled add (items s item between close (length s) at) s last_at new
      closing e f = record { read = v.read ++ (x ∷ []); is = record { parsed = last s item between close v.reached got.parsed (omega (arith, v.behind, a.more, a.inside)) e f.parsed; line = f.line }; out_is = w }

      pub never_closed : mark s between after.at ≡ no → close after.at ≡ no → items s item between close (length s) at ≡ no
      never_closed e f = unclosed s item between close v.reached got.parsed (omega (arith, v.behind, a.more, a.inside)) e f

-- ---- one more

pub no_integers : (old : Integers) → old ≡ with_integers old []
no_integers old = let e : old.count ≡ old.count + 0 = omega arith in λ j. record { count = e j; all = old.all }

pub integer_more : (old : Integers) (zs : List ℤ) (z : ℤ) {out new : Integers} → out ≡ with_integers old zs → new ≡ with_integers out (z ∷ []) → new ≡ with_integers old (zs ++ (z ∷ []))
integer_more old zs z e q =
    q
    ∙ ap (λ (a : Integers). with_integers a (z ∷ [])) e
    ∙ (let n : (old.count + length zs) + 1 ≡ old.count + length (zs ++ (z ∷ [])) = omega (arith, length-append zs (z ∷ [])) in λ j. record { count = n j; all = sym (sets_append old.all old.count zs (z ∷ [])) j })

pub no_fields : (old : Agreement) → old ≡ with_fields old []
unfolding spans_of values_of
no_fields old =
    let e : old.fields ≡ old.fields + 0 = omega arith in
    λ j. record { parts = old.parts; fields = e j; heads = old.heads; spans = old.spans; values = old.values }

pub fields_more : (old : Agreement) (xs ys : List lines.Field) → with_fields (with_fields old xs) ys ≡ with_fields old (xs ++ ys)
fields_more old xs ys =
    let n : (old.fields + length xs) + length ys ≡ old.fields + length (xs ++ ys) = omega (arith, length-append xs ys) in
    λ j. record { parts = old.parts; fields = n j; heads = old.heads; spans = sym (spans_more old.spans old.fields xs ys) j; values = sym (values_more old.values old.fields xs ys) j }

pub field_more : (old : Agreement) (xs : List lines.Field) (x : lines.Field) {out new : Agreement} → out ≡ with_fields old xs → new ≡ with_fields out (x ∷ []) → new ≡ with_fields old (xs ++ (x ∷ []))
field_more old xs x e q = q ∙ ap (λ (a : Agreement). with_fields a (x ∷ [])) e ∙ fields_more old xs (x ∷ [])
