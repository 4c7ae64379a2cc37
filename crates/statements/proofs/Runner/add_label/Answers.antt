-- `statements::Runner::add_label` meets its contract. Assumes nothing.
use native.Mathlib.Omega.{arith}
use mir.Syntax.{w64}
use mir.Facts.{to_z-of_z, to_z_pos}
use Rattle.statements.specs.Lending.{work_of}
use Rattle.statements.proofs.Writes.{label_added, label_full}
use Rattle.statements.proofs.Runner.add_label.Goals as goal

pub returns-then-n-lt-MOST-clause-value : goal.returns-then-n-lt-MOST-clause-value
returns-then-n-lt-MOST-clause-value c =
    let s = c.args in
    let r = s.self.now in
    label_added r.kinds.now r.numbers.now r.texts.now r.holdings.now r.labels.now r.count s.kind s.party s.value s.group _ _ _ _ _ _ _ _ _ (to_z_pos w64 (omega arith))
    (to_z_pos w64 (omega arith)) (to_z-of_z c.ranges.value) (to_z_pos w64 (omega arith)) (omega arith) (omega arith) (omega arith) (omega arith) (omega arith) c.if-n-lt-MOST.true

pub returns-else-n-lt-MOST-clause-value : goal.returns-else-n-lt-MOST-clause-value
returns-else-n-lt-MOST-clause-value c = label_full (work_of c.args.self.now) _ _ _ _ (omega arith)
