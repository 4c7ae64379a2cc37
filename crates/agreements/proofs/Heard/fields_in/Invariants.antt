-- `agreements::Heard::fields_in` meets its contract. Assumes nothing.
use mathlib.Core.Path.{◌≡◌}
use Prim.Native.Nat.{◌≤◌}
use lib.ListN.{drop}
use Rattle.contract.specs.Table.{clause_word}
use Rattle.contract.specs.Decode.{clause_at}
use Rattle.agreements.specs.Agreement.{fields_in}
use Rattle.agreements.proofs.Heard.fields_in.Given as goal

abbrev pub invariant-loop-j : goal.invariant-loop-j
invariant-loop-j l =
    (l.j ≤ clause_word l.self.terms.table.now l.i 2) × (l.mask ≡ fields_in (drop l.j (clause_at l.self.terms.table.now l.i).fields))
