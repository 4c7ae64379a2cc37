-- `reader::Pass::declarations` meets its contract. Assumes nothing.
use mathlib.Core.Path.{sym}
use Rattle.reading_laws.specs.Walk as walk
use Rattle.reading_laws.proofs.AgreesWith.{leaves_same, went, handed, follow_on, follow_stop}
use Rattle.cursors.proofs.Tested as packed
use Rattle.cursors.proofs.Clipped.{agrees}
use Rattle.reader.proofs.Pass.declarations.Goals as goal

pub returns-then-stops-clause-value : goal.returns-then-stops-clause-value
unfolding walk.declarations
returns-then-stops-clause-value c =
    let short = c.args.self.now.short in
    handed _ _ _ _ _ _ _ _ _ (agrees _ _ _ _ _ short c.line-after.ensures.value c.line-after.ensures.lists) (packed.halts c.args.self.now.text.now _ _ c.stops.ensures c.if-stops.true) (λ e. follow_stop _ _ _ _ e)

pub returns-clause-value : goal.returns-clause-value
unfolding walk.declarations
returns-clause-value c =
    let short = c.args.self.now.short in
    leaves_same _ _ _ _ _
    (sym (follow_on _ _ _ _ (went _ _ _ _ _ (agrees _ _ _ _ _ short c.line-after.ensures.value c.line-after.ensures.lists) (packed.keeps c.args.self.now.text.now _ _ c.stops.ensures c.if-stops.false))))
    (agrees _ _ _ _ _ short c.line.ensures.value c.line.ensures.lists)
