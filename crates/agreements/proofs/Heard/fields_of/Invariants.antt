-- `agreements::Heard::fields_of` meets its contract. Assumes nothing.
use mathlib.Core.Path.{◌≡◌}
use Prim.Native.Nat.{◌-◌, ◌≤◌}
use Rattle.contract.specs.Table.{word_at}
use Rattle.contract.specs.Decode.{each_from, clause_at}
use Rattle.contract.specs.Rows.{said}
use Rattle.agreements.specs.Agreement.{fields_of}
use Rattle.agreements.proofs.Heard.fields_of.Given as goal

abbrev pub invariant-loop-i : goal.invariant-loop-i
invariant-loop-i l =
    (l.i ≤ word_at l.self.terms.table.now 5) × (l.mask ≡ fields_of (said l.verb) (each_from l.i (word_at l.self.terms.table.now 5 - l.i) (clause_at l.self.terms.table.now)))
