-- `words::goes_on` meets its contract. Assumes nothing.
use Rattle.std.proofs.Common.{rules, tests, ◌∙◌, ap, ℕ, drop}
use native.Mathlib.Nat.{add-zero}
use Rattle.laws.specs.Bytes.{starts_with}
use Rattle.laws.specs.Choice.{pick}
use Rattle.std.proofs.lemmas.Iterator.{YieldsList-from_slice}
use Rattle.std.proofs.lemmas.Iterator.Consumers.{YieldsList-at, YieldsList-from_enumerate}
use Rattle.std.proofs.lemmas.Iterator.Search.{all_from_yields_List}
use Rattle.words.proofs.Comparing.{stands, stands_all}
use Rattle.words.proofs.goes_on.Goals as goal

pub returns : goal.returns
unfolding pick
returns c =
    all_from_yields_List (stands c.args.text.now c.args.from) _ _ c.all.result c.all.ensures.ran (YieldsList-from_enumerate (YieldsList-at c.enumerate.ensures.source (YieldsList-from_slice c.args.word.now c.iter.ensures.rest)) c.enumerate.ensures.count) (λ x b q k. search (rules, tests))
    ∙ stands_all c.args.word.now c.args.text.now c.args.from 0 ∙ ap (λ (n : ℕ). starts_with (drop n c.args.text.now) c.args.word.now) (add-zero c.args.from)
