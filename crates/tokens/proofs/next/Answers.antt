-- `tokens::next` meets its contract. The invariant: the place and the gap from there on make the same sum all along. Assumes nothing.
use borrow.Author.Tests.{lt-ltb, le-ltb}
use mathlib.Core.Path.{◌≡◌, sym, ◌∙◌}
use mathlib.Core.Bool.{false}
use Prim.Native.Nat.{◌+◌}
use native.Mathlib.Omega.{arith}
use lib.ListN.{drop}
use Rattle.laws.specs.Choice.{pick}
use Rattle.laws.proofs.Lists.{past}
use Rattle.tokens.specs.Classes.{gap}
use Rattle.tokens.specs.Tokens.{token_at, here}
use Rattle.tokens.proofs.Laws.{blank_goes, comment_opens, no_comment}
use Rattle.tokens.proofs.next.Goals as goal

pub loop-i-preserved-then-is_blank : goal.loop-i-preserved-then-is_blank
loop-i-preserved-then-is_blank c =
    let a = c.args in
    let l = c.loop-i in
    omega (arith, l.invariant, blank_goes a.text.now l.i c.loop-i-test.true (sym c.is_blank.ensures ∙ c.if-is_blank.true))

pub loop-i-preserved : goal.loop-i-preserved
loop-i-preserved c =
    let a = c.args in
    let l = c.loop-i in
    omega (arith, l.invariant, c.comment_end-i.ensures.1, comment_opens a.text.now l.i c.loop-i-test.true (sym c.is_blank.ensures ∙ c.if-is_blank.false) (sym c.opens.ensures ∙ c.if-opens.true))

pub returns-in-loop-i : goal.returns-in-loop-i
unfolding token_at here pick
returns-in-loop-i c =
    let a = c.args in
    let l = c.loop-i in
    let e : l.i ≡ a.at + gap false (drop a.at a.text.now) = omega (arith, l.invariant, no_comment a.text.now l.i c.loop-i-test.true (sym c.is_blank.ensures ∙ c.if-is_blank.false) (sym c.opens.ensures ∙ c.if-opens.false)) in
    rw (← e, lt-ltb _ _ c.loop-i-test.true) c.start.ensures

pub returns : goal.returns
unfolding token_at here pick gap
returns c =
    let a = c.args in
    let l = c.loop-i in
    let e : l.i ≡ a.at + gap false (drop a.at a.text.now) = omega (arith, l.invariant, past (gap false) a.text.now l.i c.loop-i-test.false) in
    rw (← e, le-ltb _ _ c.loop-i-test.false)
