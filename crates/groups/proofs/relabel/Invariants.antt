-- `groups::relabel` meets its contract. Assumes nothing.
use Rattle.std.proofs.Common.{◌≡◌, ℕ, ◌++◌, map, take, drop}
use lib.Dec.{eqb}
use Rattle.laws.specs.Choice.{pick}
use Rattle.groups.proofs.relabel.Given as goal

-- those before this one are done
abbrev pub invariant-loop-first : goal.invariant-loop-first
invariant-loop-first l = l.firsts ≡ map (λ (x : ℕ). pick (eqb x l.from) l.to x) (take l.first-index l.initial.firsts) ++ drop l.first-index l.initial.firsts
