-- `step_reports::Teller::tell_labels` meets its contract. Assumes nothing.
use Rattle.std.specs.Prelude.{◌≡◌, ◌+◌, ◌≤◌}
use Rattle.step_reports.specs.Reports.{sent}
use Rattle.step_reports.specs.Private.{SameLists, Told}
use Rattle.step_reports.proofs.Teller.tell_labels.Given as goal

abbrev pub invariant-loop-i : goal.invariant-loop-i
invariant-loop-i l = record {
  within : l.i ≤ l.count;
  told : Told l.initial.self.numbers.now l.initial.self.integers.now l.initial.self.many (sent l.i l.labels) l.self.numbers.now l.self.integers.now;
  many : l.self.many ≡ l.initial.self.many + l.i;
  same_lists : SameLists l.initial.self l.self;
}
