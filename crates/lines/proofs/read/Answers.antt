-- `lines::read` meets its contract. Assumes nothing.
use mathlib.Core.Path.{◌≡◌, subst, ◌∙◌}
use mathlib.Core.List.{List}
use Prim.Native.Nat.{ℕ}
use lib.IntN.{ℤ}
use Rattle.std.specs.Prelude.{Result}
use Rattle.questions.specs.declared.Question.{Question}
use Rattle.lines.specs.declared.Request.{Request}
use Rattle.lines.specs.Lines.{asked}
use Rattle.lines.specs.Answers.{request_of, numbers_after}
use Rattle.lines.proofs.Got.{given_missed}
use Rattle.lines.proofs.Forms.{long_told, long_left, time_told, time_left, call_told, call_missed, other_left}
use Rattle.lines.proofs.read.Goals as goal

abbrev Told : Result Request Question → List ℤ → List ℤ → List ℕ → Type 0
Told r old new s = (r ≡ request_of (asked s)) × (new ≡ numbers_after (asked s) old)

pub returns-in_default : goal.returns-in_default
returns-in_default c =
    let s = c.args.line.now in
    record { value = long_told s c.in_default.ensures; numbers_after = long_left s c.args.numbers.now c.in_default.ensures }

pub returns-in-Some-time_line : goal.returns-in-Some-time_line
returns-in-Some-time_line c =
    let short = c.in-Some.short.short in
    let w = subst (Told _ _ _) c.in-Some.ensures (time_told _ short c.in-Some-time_line.ensures, time_left _ short _ c.in-Some-time_line.ensures) in
    record { value = w.0; numbers_after = w.1 }

pub returns-in-Some-call : goal.returns-in-Some-call
returns-in-Some-call c =
    let w = subst (Told _ _ _) c.in-Some.ensures (call_told _ c.in-Some.short.short (given_missed request_of _ c.in_default-time_line.ensures) _ _ c.in-Some-call.ensures.call) in
    record { value = w.0; numbers_after = w.1 }

pub returns-clause-numbers_after : goal.returns-clause-numbers_after
returns-clause-numbers_after c =
    let w = subst (Told _ _ _) c.in-Some.ensures (c.other.ensures, c.in_default-call.ensures.untouched ∙ other_left _ c.in-Some.short.short (given_missed request_of _ c.in_default-time_line.ensures) (call_missed _ _ _ c.in_default-call.ensures.call) _) in
    w.1
