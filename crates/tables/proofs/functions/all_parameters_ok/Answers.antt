use Rattle.std.proofs.Common.{rules, arith, ◌<◌, ◌≡◌, true, ap, ◌∙◌}
use Rattle.laws.specs.Lists.{all_below}
use Rattle.std.proofs.lemmas.Iterator.{serves_from_Range}
use Rattle.laws.proofs.Members.{below_at}
use Rattle.laws.proofs.Ranges.{all_numbers}
use Rattle.contract.specs.Table.{word_at}
use Rattle.contract.specs.declared.TableHead.{TableHead}
use Rattle.contract.specs.Check.{function_ok, parameters_ok}
use Rattle.tables.proofs.functions.all_parameters_ok.Goals as goal

pub all-requires-clause-callable : goal.all-requires-clause-callable
all-requires-clause-callable c =
    let w = c.args.table.now in
    let count : c.head.result.functions ≡ word_at w 6 = ap (λ (h : TableHead). h.functions) c.head.ensures in
    serves_from_Range (λ x q k. search rules)
    (λ x a b.
    let below : x < 64 = omega (arith, b, c.requires.0, count) in
    let passes : function_ok w x ≡ true = below_at (function_ok w) (word_at w 6) c.requires.1 x (omega (arith, b, count)) in
    search (rules, below, passes))

pub returns : goal.returns
returns c = all_numbers c.head.result.functions (parameters_ok c.args.table.now) _ _ c.all.result c.all.ensures.ran (λ x b q k. search rules) ∙ ap (λ (h : TableHead). all_below h.functions (parameters_ok c.args.table.now)) c.head.ensures
