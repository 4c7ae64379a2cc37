-- `groups::end_of` meets its contract. Assumes nothing.
use mathlib.Core.Path.{sym, ap}
use native.Mathlib.Omega.{arith}
use Rattle.contract.specs.declared.TableHead.{TableHead}
use Rattle.groups.proofs.Naming.{no_parameter}
use Rattle.groups.proofs.end_of.Goals as goal

pub returns-clause-none : goal.returns-clause-none
returns-clause-none c k l h =
    sym (no_parameter c.args.terms.now.table.now k (omega (arith, l))
    (omega (arith, l, h, c.min.ensures, ap (λ (h : TableHead). h.functions) c.head-functions.ensures)))
