-- `entries::NameAt::find_from` meets its contract. Assumes nothing.
use mathlib.Core.Path.{◌≡◌}
use Prim.Native.Nat.{◌-◌, ◌≤◌}
use Rattle.entries.specs.Draft.{find_from}
use Rattle.entries.proofs.NameAt.find_from.Given as goal

abbrev pub invariant-loop-i : goal.invariant-loop-i
invariant-loop-i l =
    (l.i ≤ l.many) × (find_from l.self.text.now l.notes l.mark l.self.word.now l.slot 0 l.many ≡ find_from l.self.text.now l.notes l.mark l.self.word.now l.slot l.i (l.many - l.i))
