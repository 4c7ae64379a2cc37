-- `lines::Short::call_line` meets its contract. Assumes nothing.
use mathlib.Core.Path.{refl, ap}
use mathlib.Core.List.{List, [], ◌∷◌}
use Prim.Native.Nat.{ℕ}
use native.Mathlib.Omega.{arith}
use lib.IntN.{ℤ}
use Rattle.lines.specs.Lines.{Parser, integer, list}
use Rattle.std.proofs.Common.{rules}
use Rattle.lines.specs.Private.{Integers, integers_in, with_integers}
use Rattle.lines.proofs.Got.{name_got, name_missed, mark_got, mark_missed, added_got, added_missed, ended, unended}
use Rattle.lines.proofs.Size.{integers_size}
use Rattle.lines.proofs.Forms.{no_party, no_colon, no_function, names_read, no_values, no_assets, call_more, call_made, call_as}
use Rattle.words.specs.Words.{spelled}
use Rattle.lines.proofs.Short.call_line.Goals as goal

abbrev values : List ℕ → Parser (List ℤ)
values s = list s (40 ∷ []) (integer s) (41 ∷ [])

abbrev assets : List ℕ → Parser (List ℤ)
assets s = list s (91 ∷ []) (integer s) (93 ∷ [])

pub returns-in_err-party : goal.returns-in_err-party
returns-in_err-party c =
    rw (no_party _ (name_missed _ _ refl c.in_err-party.ensures)) c.from_residual.ensures

pub returns-in_err-mark : goal.returns-in_err-mark
unfolding spelled
returns-in_err-mark c =
    let a = name_got _ refl c.in_ok-party.ensures in
    rw (no_colon _ a.parsed (mark_missed _ _ a.line c.in_err-mark.ensures).parsed) c.from_residual-in_err-mark.ensures

pub returns-in_err-function : goal.returns-in_err-function
unfolding spelled
returns-in_err-function c =
    let a = name_got _ refl c.in_ok-party.ensures in
    let b = mark_got _ _ a.line c.in_ok-mark.ensures in
    rw (no_function _ a.parsed b.parsed (name_missed _ _ b.line c.in_err-function.ensures)) c.from_residual-in_err-function.ensures

pub returns-in_err-integer_list : goal.returns-in_err-integer_list
unfolding spelled
returns-in_err-integer_list c =
    let a = name_got _ refl c.in_ok-party.ensures in
    let b = mark_got _ _ a.line c.in_ok-mark.ensures in
    let d = name_got _ b.line c.in_ok-function.ensures in
    rw (no_values _ (names_read _ a.parsed b.parsed d.parsed) (added_missed (with_integers (record { count = 0; all = c.args.numbers.now })) values _ _ _ d.line c.in_err-integer_list.ensures.value)) c.from_residual-in_err-integer_list.ensures

pub integer_list-requires-2 : goal.integer_list-requires-2
unfolding spelled
integer_list-requires-2 c =
    let a = name_got _ refl c.in_ok-party.ensures in
    let b = mark_got _ _ a.line c.in_ok-mark.ensures in
    let d = name_got _ b.line c.in_ok-function.ensures in
    let v = added_got (with_integers (record { count = 0; all = c.args.numbers.now })) values _ _ _ d.line c.in_ok-integer_list.ensures.value in
    omega (arith, ap (λ (x : Integers). x.count) v.out_is, (integers_size _ 40 41 _ _ _ v.is.parsed).0)

pub returns-in_err-integer_list-2 : goal.returns-in_err-integer_list-2
unfolding spelled
returns-in_err-integer_list-2 c =
    let a = name_got _ refl c.in_ok-party.ensures in
    let b = mark_got _ _ a.line c.in_ok-mark.ensures in
    let d = name_got _ b.line c.in_ok-function.ensures in
    let v = added_got (with_integers (record { count = 0; all = c.args.numbers.now })) values _ _ _ d.line c.in_ok-integer_list.ensures.value in
    rw (no_assets _ (names_read _ a.parsed b.parsed d.parsed) v.is.parsed (added_missed (with_integers (integers_in c.integer_list.new.out)) assets _ _ _ v.is.line c.in_err-integer_list-2.ensures.value)) c.from_residual-in_err-integer_list-2.ensures

pub returns-then-not-ends : goal.returns-then-not-ends
unfolding spelled
returns-then-not-ends c =
    let a = name_got _ refl c.in_ok-party.ensures in
    let b = mark_got _ _ a.line c.in_ok-mark.ensures in
    let d = name_got _ b.line c.in_ok-function.ensures in
    let v = added_got (with_integers (record { count = 0; all = c.args.numbers.now })) values _ _ _ d.line c.in_ok-integer_list.ensures.value in
    let w = added_got (with_integers (integers_in c.integer_list.new.out)) assets _ _ _ v.is.line c.in_ok-integer_list-2.ensures.value in
    rw (call_more _ (names_read _ a.parsed b.parsed d.parsed) v.is.parsed w.is.parsed (unended w.is.line _ c.ends.ensures c.if-not-ends.true)) refl

pub returns : goal.returns
unfolding spelled
returns c =
    let a = name_got _ refl c.in_ok-party.ensures in
    let b = mark_got _ _ a.line c.in_ok-mark.ensures in
    let d = name_got _ b.line c.in_ok-function.ensures in
    let v = added_got (with_integers (record { count = 0; all = c.args.numbers.now })) values _ _ _ d.line c.in_ok-integer_list.ensures.value in
    let w = added_got (with_integers (integers_in c.integer_list.new.out)) assets _ _ _ v.is.line c.in_ok-integer_list-2.ensures.value in
    call_as _ _ _ (call_made _ (names_read _ a.parsed b.parsed d.parsed) v w (ended w.is.line _ c.ends.ensures c.if-not-ends.false)) (search rules)
