-- `lines::Short::time_line` meets its contract. Assumes nothing.
use mathlib.Core.Path.{refl, ap, ◌∙◌}
use mathlib.Core.List.{List}
use Prim.Native.Nat.{ℕ}
use Rattle.laws.specs.Choice.{pick}
use Rattle.lines.specs.Lines.{tick_line, jump_end, word, closed}
use Rattle.lines.specs.Answers.{request_of}
use Rattle.lines.specs.Private.{Spot, spot, given, asked_in}
use Rattle.lines.proofs.Got.{name_got, name_missed, mark_got, mark_missed, mark_past_is, mark_not_is, word_told, ended, unended}
use Rattle.lines.proofs.Turns.{next_yes, next_no}
use Rattle.words.specs.Words.{spelled}
use Rattle.lines.proofs.Short.time_line.Goals as goal

pub returns-in_err-mark : goal.returns-in_err-mark
unfolding tick_line spelled
returns-in_err-mark c =
    rw (mark_missed _ _ refl c.in_err-mark.ensures).parsed (ap asked_in c.from_residual.ensures)

pub returns-in_err-word : goal.returns-in_err-word
unfolding tick_line word spelled
returns-in_err-word c =
    let a = mark_got _ _ refl c.in_ok-mark.ensures in
    rw (a.parsed, name_missed _ _ a.line c.in_err-word.ensures) (ap asked_in c.from_residual-in_err-word.ensures)

pub returns-then-is_none : goal.returns-then-is_none
unfolding tick_line word pick spelled
returns-then-is_none c =
    let a = mark_got _ _ refl c.in_ok-mark.ensures in
    let b = name_got _ a.line c.in_ok-word.ensures in
    let d = mark_not_is _ _ _ b.line c.mark-then-is_word.ensures c.if-is_none.ensures in
    rw (a.parsed, b.parsed, word_told b.line _ _ c.is_word.ensures c.if-is_word.true, next_no _ _ _ d.parsed)
    (c.jump_end.ensures ∙ ap (λ (x : Spot). given request_of (jump_end x.line x.at)) d.here ∙ ap (λ (t : List ℕ). given request_of (jump_end t (spot c.name.new.self).at)) b.line)

pub returns-then-ends : goal.returns-then-ends
unfolding tick_line word pick closed request_of spelled
returns-then-ends c =
    let a = mark_got _ _ refl c.in_ok-mark.ensures in
    let b = name_got _ a.line c.in_ok-word.ensures in
    let d = mark_past_is _ _ _ b.line c.mark-then-is_word.ensures c.if-is_none.ensures in
    rw (a.parsed, b.parsed, word_told b.line _ _ c.is_word.ensures c.if-is_word.true, next_yes _ _ _ d.parsed, d.parsed, ended d.line _ c.ends.ensures c.if-ends.true)

pub returns-else-ends : goal.returns-else-ends
unfolding tick_line word pick closed spelled
returns-else-ends c =
    let a = mark_got _ _ refl c.in_ok-mark.ensures in
    let b = name_got _ a.line c.in_ok-word.ensures in
    let d = mark_past_is _ _ _ b.line c.mark-then-is_word.ensures c.if-is_none.ensures in
    rw (a.parsed, b.parsed, word_told b.line _ _ c.is_word.ensures c.if-is_word.true, next_yes _ _ _ d.parsed, d.parsed, unended d.line _ c.ends.ensures c.if-ends.false)

pub returns-else-is_word : goal.returns-else-is_word
unfolding tick_line word pick spelled
returns-else-is_word c =
    let a = mark_got _ _ refl c.in_ok-mark.ensures in
    let b = name_got _ a.line c.in_ok-word.ensures in
    rw (a.parsed, b.parsed, word_told b.line _ _ c.is_word.ensures c.if-is_word.false)
