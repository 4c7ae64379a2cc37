-- `reader::agreement::holds_all` meets its contract. Assumes nothing.
use Rattle.std.proofs.Common.{rules, ◌∙◌, refl, arith, tests}
use Rattle.std.proofs.lemmas.Iterator.{YieldsList-from_range}
use Rattle.std.proofs.lemmas.Iterator.Search.{all_from_yields_List}
use Rattle.reading_laws.specs.Masks.{holds}
use Rattle.reader.proofs.AllBelow.{below_range}
use Rattle.reader.proofs.agreement.holds_all.Goals as goal

pub returns : goal.returns
returns c =
    all_from_yields_List (holds c.args.mask) _ _ _ c.all.ensures.ran (YieldsList-from_range 0 c.args.n c.args.n refl (omega arith)) (λ x b q k. search (rules, tests))
    ∙ below_range (holds c.args.mask) c.args.n
