-- `lines::Reader::verb` meets its contract. Assumes nothing.
use mathlib.Core.Path.{refl}
use Rattle.laws.specs.Choice.{pick}
use Rattle.lines.specs.Lines.{verb}
use Rattle.lines.proofs.Got.{stands, name_got, name_missed, word_told}
use Rattle.lines.proofs.Reader.verb.Goals as goal

pub returns-in_err-word : goal.returns-in_err-word
unfolding verb
returns-in_err-word c =
    rw (name_missed _ _ refl c.in_err-word.ensures) c.from_residual.ensures

pub returns-then-is_word : goal.returns-then-is_word
unfolding verb pick
returns-then-is_word c =
    let a = name_got _ refl c.in_ok-word.ensures in
    rw (a.parsed, word_told a.line _ _ c.is_word.ensures c.if-is_word.true) (refl, stands a.line)

pub returns-then-is_word-2 : goal.returns-then-is_word-2
unfolding verb pick
returns-then-is_word-2 c =
    let a = name_got _ refl c.in_ok-word.ensures in
    rw (a.parsed, word_told a.line _ _ c.is_word.ensures c.if-is_word.false, word_told a.line _ _ c.is_word-2.ensures c.if-is_word-2.true) (refl, stands a.line)

pub returns : goal.returns
unfolding verb pick
returns c =
    let a = name_got _ refl c.in_ok-word.ensures in
    rw (a.parsed, word_told a.line _ _ c.is_word.ensures c.if-is_word.false, word_told a.line _ _ c.is_word-2.ensures c.if-is_word-2.false) refl
