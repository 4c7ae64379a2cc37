-- `trial_text::first_number` meets its contract. Assumes nothing.
use Rattle.std.proofs.Common.{rules, tests, arith, ◌∙◌}
use Rattle.std.proofs.lemmas.Iterator.{YieldsList-from_slice}
use Rattle.std.proofs.lemmas.Iterator.Consumers.{fold_from_yields_List}
use Rattle.std.proofs.lemmas.Iterator.Search.{YieldsList-from_take_while}
use Rattle.tokens.specs.Classes.{is_digit}
use Rattle.trial_text.proofs.Digits.{followed, followed_all}
use Rattle.trial_text.proofs.first_number.Goals as goal

pub returns : goal.returns
returns c =
    let s = c.args.text.now in
    fold_from_yields_List _ followed 0 c.fold.result c.fold.ensures.ran (YieldsList-from_take_while _ is_digit (YieldsList-from_slice s cc) c.take_while.ensures.closure c.take_while.ensures.done (λ x b q k. search (rules, tests))) (λ a x b q w. search rules)
    ∙ followed_all s 0 (omega arith)
