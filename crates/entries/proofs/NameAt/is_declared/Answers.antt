-- `entries::NameAt::is_declared` meets its contract. Assumes nothing.
use Rattle.std.proofs.Common.{rules, ◌∙◌, refl, arith, tests}
use Rattle.std.proofs.lemmas.Iterator.{YieldsList-from_range}
use Rattle.std.proofs.lemmas.Iterator.Search.{any_from_yields_List}
use Rattle.entries.specs.Draft.{among_in}
use Rattle.entries.proofs.Finds.{declared_any}
use Rattle.entries.proofs.NameAt.is_declared.Goals as goal

pub returns : goal.returns
returns c =
    let x = c.args.self.now in
    any_from_yields_List (λ k. among_in x.text.now c.args.notes.now k x.word.now) _ _ _ c.any.ensures.ran (YieldsList-from_range 0 5 5 refl (omega arith)) (λ y b q k. search (rules, tests))
    ∙ declared_any x.text.now c.args.notes.now x.word.now
