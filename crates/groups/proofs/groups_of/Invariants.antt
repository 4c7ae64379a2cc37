-- `groups::groups_of` meets its contract. Assumes nothing.
use Rattle.contract.specs.Decode.{contract_of}
use Rattle.groups.proofs.Counting.{Made}
use Rattle.groups.proofs.groups_of.Given as goal

abbrev pub invariant-loop-k : goal.invariant-loop-k
invariant-loop-k l = Made (contract_of l.terms.table.now) l.numbers l.count l.k
