-- `agreements::Heard::same_clauses` meets its contract. Assumes nothing.
use mathlib.Core.Path.{◌≡◌}
use Prim.Native.Nat.{◌*◌, ◌-◌, ◌/◌, ◌≤◌}
use lib.ListN.{length}
use Rattle.contract.specs.Table.{word_at}
use Rattle.contract.specs.Decode.{each_from, clause_at, contract_of}
use Rattle.agreements.specs.Agreement.{parts_in, same_clauses}
use Rattle.agreements.proofs.Agreements.{parts_from}
use Rattle.agreements.proofs.Heard.same_clauses.Given as goal

abbrev pub invariant-loop-i : goal.invariant-loop-i
invariant-loop-i l =
    let h = l.self in
    let w = h.terms.table.now in
    let c = contract_of w in
    let n = word_at w 5 in
    (l.count ≡ n)
    × (l.at ≤ l.i * 32)
    × (l.at ≤ length h.values.now)
    × (l.i ≤ l.count)
    × (same_clauses c c.clauses (parts_in h.line.now (length h.parts.now / 4) h.parts.now h.spans.now h.values.now)
    ≡ same_clauses c (each_from l.i (n - l.i) (clause_at w)) (parts_from h.line.now h.parts.now h.spans.now h.values.now n l.i l.at))
