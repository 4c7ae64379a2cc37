-- `clauses::lists::Listed::enter` meets its contract. Assumes nothing.
use mathlib.Core.Path.{sym, ap, ◌∙◌}
use Rattle.entries.specs.Lending.{draft_in}
use Rattle.clauses.specs.declared.lists.Listed.{Listed}
use Rattle.clauses.specs.Private.{entered}
use Rattle.clauses.proofs.lists.Listed.enter.Goals as goal

pub returns-in-Declared-clause-value : goal.returns-in-Declared-clause-value
unfolding entered
returns-in-Declared-clause-value c =
    let z = c.args in
    c.declare.ensures.value ∙ ap (λ (l : Listed). entered z.name.now.text.now l z.name.now.start z.name.now.end (draft_in z.lent.now)) (sym c.in-Declared.is)

pub returns-in-Fields-clause-value : goal.returns-in-Fields-clause-value
unfolding entered
returns-in-Fields-clause-value c =
    let z = c.args in
    c.clause_field.ensures.value ∙ ap (λ (l : Listed). entered z.name.now.text.now l z.name.now.start z.name.now.end (draft_in z.lent.now)) (sym c.in-Fields.is)
