-- `agreements::Heard::agreed_clauses` meets its contract. Assumes nothing.
use mathlib.Core.Path.{◌≡◌}
use Prim.Native.Nat.{◌*◌, ◌-◌, ◌≤◌}
use lib.ListN.{drop}
use Rattle.contract.specs.Table.{word_at}
use Rattle.contract.specs.Decode.{each_from, clause_at, contract_of}
use Rattle.agreements.specs.Private.{agreed_by}
use Rattle.agreements.proofs.Heard.agreed_clauses.Given as goal

abbrev pub invariant-loop-i : goal.invariant-loop-i
invariant-loop-i l =
    (l.count ≡ word_at l.self.terms.table.now 5) × (l.at ≤ l.i * 32) × (agreed_by l.s (contract_of l.self.terms.table.now).clauses l.self.values.now ≡ agreed_by l.s (each_from l.i (word_at l.self.terms.table.now 5 - l.i) (clause_at l.self.terms.table.now)) (drop l.at l.self.values.now))
