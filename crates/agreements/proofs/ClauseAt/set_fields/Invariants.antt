-- `agreements::ClauseAt::set_fields` meets its contract. Assumes nothing.
use mathlib.Core.Path.{◌≡◌}
use lib.ListN.{drop}
use Rattle.contract.specs.Decode.{clause_at}
use Rattle.agreements.specs.Agreement.{set_fields}
use Rattle.agreements.proofs.ClauseAt.set_fields.Given as goal

abbrev pub invariant-loop-j : goal.invariant-loop-j
invariant-loop-j l =
    set_fields l.initial.s (clause_at l.self.heard.terms.table.now l.self.i).fields (drop l.self.at l.self.heard.values.now) ≡ set_fields l.s (drop l.j (clause_at l.self.heard.terms.table.now l.self.i).fields) (drop l.j (drop l.self.at l.self.heard.values.now))
