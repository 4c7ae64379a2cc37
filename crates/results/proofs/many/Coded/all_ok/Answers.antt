-- `results::many::Coded::all_ok` meets its contract. Assumes nothing.
use Rattle.std.proofs.Common.{rules, arith, refl, ◌∙◌, ◌-◌}
use Rattle.std.proofs.lemmas.Iterator.{YieldsList-from_range}
use Rattle.std.proofs.lemmas.Iterator.Search.{all_from_yields_List}
use Rattle.contract.specs.Decode.{contract_of}
use Rattle.results.specs.Coded.{report_at}
use Rattle.results.specs.Lines.{told_ok}
use Rattle.results.proofs.Turns.{not_whole, all_reports}
use Rattle.results.proofs.many.Coded.all_ok.Goals as goal

pub returns-then-max-self : goal.returns-then-max-self
returns-then-max-self c =
    let s = c.args.self.now in
    let asked = c.max.ensures in
    not_whole (contract_of s.terms.table.now) s.numbers.now s.integers.now s.from s.to
    (omega (arith, asked, c.if-max-self.true))
    (omega (arith, asked, c.min-whole.ensures, c.if-max-self.true))

pub returns : goal.returns
returns c =
    let s = c.args.self.now in
    all_from_yields_List (λ i. told_ok (contract_of s.terms.table.now) (report_at s.numbers.now s.integers.now i)) _ _ c.all.result c.all.ensures.ran (YieldsList-from_range s.from s.to (s.to - s.from) refl refl) (λ x b q k. search rules)
    ∙ all_reports (told_ok (contract_of s.terms.table.now)) s.numbers.now s.integers.now (s.to - s.from) s.from
