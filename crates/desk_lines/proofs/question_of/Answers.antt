-- `desk_lines::question_of` meets its contract. Assumes nothing.
use mathlib.Core.Path.{sym, ap, ◌∙◌}
use Rattle.std.specs.Prelude.{option_and_then}
use Rattle.desk_lines.specs.Blocks.{question_of}
use Rattle.desk_lines.proofs.Laws.{question_read, question_past, question_told, question_none}
use Rattle.desk_lines.proofs.question_of.Goals as goal

pub returns-then-numbers-i : goal.returns-then-numbers-i
returns-then-numbers-i c = question_past _ _ c.if-numbers-i.true

pub returns-in_err-question : goal.returns-in_err-question
returns-in_err-question c =
    c.from_residual.ensures
    ∙ sym (ap (option_and_then question_of) c.in_err-question.was)
    ∙ question_read c.args.numbers.now c.args.i c.word.ensures c.word-2.ensures c.word-3.ensures c.word-4.ensures c.from_numbers.ensures

pub returns-in-Refused : goal.returns-in-Refused
returns-in-Refused c =
    c.then_some.ensures
    ∙ question_told c.in_ok-question.was c.in-Refused.question c.in-Refused.is
    ∙ question_read c.args.numbers.now c.args.i c.word.ensures c.word-2.ensures c.word-3.ensures c.word-4.ensures c.from_numbers.ensures

pub returns-in_default : goal.returns-in_default
returns-in_default c =
    question_none c.in_ok-question.was c.in_default.not-Refused c.in_default.not-Failed
    ∙ question_read c.args.numbers.now c.args.i c.word.ensures c.word-2.ensures c.word-3.ensures c.word-4.ensures c.from_numbers.ensures
