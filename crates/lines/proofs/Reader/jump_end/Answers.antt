-- `lines::Reader::jump_end` meets its contract. Assumes nothing.
use borrow.Author.Rules.{rules}
use mathlib.Core.Path.{◌≡◌, refl, ap}
use lib.IntN.{ℤ}
use mir.Syntax.{w64}
use mir.Val.{to_z, of_z}
use Rattle.std.specs.Prelude.{Some, Ok}
use Rattle.lines.specs.Lines.{jump_end, closed}
use Rattle.lines.specs.Answers.{request_of}
use Rattle.lines.specs.Private.{asked_in}
use Rattle.lines.specs.declared.Request.TheVariants.{Jump}
use Rattle.lines.proofs.Got.{integer_got, integer_missed, mark_got, mark_missed, ended, unended}
use Rattle.words.specs.Words.{spelled}
use Rattle.lines.proofs.Reader.jump_end.Goals as goal

pub returns-in_err-clock : goal.returns-in_err-clock
unfolding jump_end
returns-in_err-clock c =
    rw (integer_missed _ _ refl c.in_err-clock.ensures) (ap asked_in c.from_residual.ensures)

pub returns-in_err-mark : goal.returns-in_err-mark
unfolding jump_end closed spelled
returns-in_err-mark c =
    let a = integer_got _ refl c.in_ok-clock.ensures in
    rw (a.parsed, (mark_missed _ _ a.line c.in_err-mark.ensures).parsed) (ap asked_in c.from_residual-in_err-mark.ensures)

pub returns-then-ends : goal.returns-then-ends
unfolding jump_end closed request_of spelled
returns-then-ends c =
    let e : to_z w64 (of_z w64 c.in_ok-clock.clock) ≡ c.in_ok-clock.clock = search rules in
    let a = integer_got _ refl c.in_ok-clock.ensures in
    let b = mark_got _ _ a.line c.in_ok-mark.ensures in
    rw (a.parsed, b.parsed, ended b.line _ c.ends.ensures c.if-ends.true) (ap (λ (z : ℤ). Some (Ok (Jump z))) e)

pub returns : goal.returns
unfolding jump_end closed spelled
returns c =
    let a = integer_got _ refl c.in_ok-clock.ensures in
    let b = mark_got _ _ a.line c.in_ok-mark.ensures in
    rw (a.parsed, b.parsed, unended b.line _ c.ends.ensures c.if-ends.false)
