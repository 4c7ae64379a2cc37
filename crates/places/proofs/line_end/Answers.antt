use Rattle.std.proofs.Common.{ℕ, ◌+◌, ◌-◌, length, take, drop, length-drop, take_all, ap, ◌∙◌, rules, tests, arith}
use Rattle.std.proofs.lemmas.Iterator.{YieldsList-from_slice}
use Rattle.std.proofs.lemmas.Iterator.Consumers.{count_from_yields_List}
use Rattle.std.proofs.lemmas.Iterator.Search.{YieldsList-from_take_while}
use Rattle.tokens.proofs.Runs.{taken}
use Rattle.tokens.specs.Classes.{run}
use Rattle.places.specs.Places.{in_line}
use Rattle.places.proofs.line_end.Goals as goal

pub returns : goal.returns
unfolding in_line
returns c =
    let s = drop c.args.at c.args.text.now in
    let n = length c.args.text.now - c.args.at in
    ap (λ (k : ℕ). c.args.at + k)
    (count_from_yields_List c.take_while.result _ c.count.ensures.ran (YieldsList-from_take_while _ in_line (YieldsList-from_slice (take n s) cc) c.take_while.ensures.closure c.take_while.ensures.done (λ x b q k. search (rules, tests)))
    ∙ taken in_line (take n s)
    ∙ ap (run in_line) (take_all n s (omega (arith, length-drop c.args.at c.args.text.now))))
