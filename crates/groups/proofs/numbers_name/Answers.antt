-- `groups::numbers_name` meets its contract. Assumes nothing.
use mathlib.Core.Path.{ap, ◌∙◌}
use Prim.Native.Nat.{◌-◌, ◌/◌, ◌%◌, ◌≤◌}
use lib.Dec.{ltb}
use native.Mathlib.Omega.{arith}
use borrow.Author.Tests.{le-ltb}
use Rattle.contract.specs.Table.{word_at}
use Rattle.contract.specs.declared.TableHead.{TableHead}
use Rattle.contract.specs.declared.Function.{Function}
use Rattle.groups.proofs.Naming.{name_asset, name_parameter, no_parameter}
use Rattle.groups.proofs.numbers_name.Goals as goal

pub returns-then-k-lt-ASSETS : goal.returns-then-k-lt-ASSETS
returns-then-k-lt-ASSETS c =
    ap (λ (h : TableHead). ltb c.args.k h.assets) c.head-head.ensures ∙ name_asset c.args.terms.now.table.now c.args.k c.if-k-lt-ASSETS.true

pub returns-then-n-head : goal.returns-then-n-head
returns-then-n-head c =
    let w = c.args.terms.now.table.now in
    let k = c.args.k in
    ap (λ (f : Function). ltb ((k - 16) % 4) f.parameters) c.function_at.ensures
    ∙ name_parameter w k c.if-k-lt-ASSETS.false (omega (arith, c.if-n-head.true, ap (λ (h : TableHead). h.functions) c.head-head.ensures))

pub returns-else-n-head : goal.returns-else-n-head
returns-else-n-head c =
    let w = c.args.terms.now.table.now in
    let k = c.args.k in
    let few : word_at w 6 ≤ (k - 16) / 4 = omega (arith, c.if-n-head.false, ap (λ (h : TableHead). h.functions) c.head-head.ensures) in
    ap (λ (h : TableHead). ltb ((k - 16) / 4) h.functions) c.head-head.ensures ∙ le-ltb ((k - 16) / 4) (word_at w 6) few ∙ no_parameter w k c.if-k-lt-ASSETS.false few
