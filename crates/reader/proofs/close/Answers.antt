-- `reader::close` meets its contract. Assumes nothing.
use mathlib.Core.Path.{ap, ◌∙◌}
use Prim.Native.Nat.{ℕ}
use Rattle.entries.specs.Draft.{found}
use Rattle.reader.proofs.close.Goals.{else-excess-eq0-via-then-excess-eq0+else-rules_kept, else-excess-eq0-via-else-excess-eq0}
use Rattle.reading_laws.proofs.Enclosing.{closed_kept, closed_broken, closed_excess}
use Rattle.reader.proofs.close.Goals as goal

pub returns-then-rules_kept : goal.returns-then-rules_kept
returns-then-rules_kept c =
    closed_kept _ _ _ _ _ _ _ c.word-excess.ensures c.if-excess-eq0.true c.word-many.ensures c.word-parties.ensures c.rules_kept.ensures c.if-rules_kept.true

pub returns : goal.returns
returns c =
    c.find.ensures
    ∙ ap (λ (q : ℕ). found q c.args.place c.args.notes.now) c.number.ensures
    ∙ (elim c.else-excess-eq0.branch [
      | else-excess-eq0-via-then-excess-eq0+else-rules_kept w ↦ closed_broken _ _ _ _ _ _ _ c.word-excess.ensures w.if-excess-eq0.true c.word-many.ensures c.word-parties.ensures w.rules_kept.ensures w.if-rules_kept.false
      | else-excess-eq0-via-else-excess-eq0 w ↦ closed_excess _ _ _ _ c.word-excess.ensures w.if-excess-eq0.false
    ])
