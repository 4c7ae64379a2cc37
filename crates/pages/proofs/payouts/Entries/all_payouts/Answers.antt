-- `pages::payouts::Entries::all_payouts` meets its contract. Assumes nothing.
use Rattle.std.proofs.Common.{rules, arith, length, refl, ◌∙◌}
use Rattle.std.proofs.lemmas.Iterator.{YieldsList-from_range}
use Rattle.std.proofs.lemmas.Iterator.Search.{all_from_yields_List}
use Rattle.contract.specs.Decode.{contract_of}
use Rattle.pages.specs.Entries.{is_payout, entry_at}
use Rattle.pages.proofs.Asking.{not_whole, all_asked}
use Rattle.pages.proofs.payouts.Entries.all_payouts.Goals as goal

pub returns-then-self-count : goal.returns-then-self-count
returns-then-self-count c =
    let s = c.args.self.now in
    not_whole (contract_of s.terms.table.now) s.numbers.now s.values.now (λ e. c.if-self-count.true (omega (arith, e)))

pub returns-then-self-ne0 : goal.returns-then-self-ne0
returns-then-self-ne0 c =
    let s = c.args.self.now in
    not_whole (contract_of s.terms.table.now) s.numbers.now s.values.now (λ e. c.if-self-ne0.true (omega (arith, e)))

pub returns : goal.returns
returns c =
    let s = c.args.self.now in
    let n = length s.values.now in
    all_from_yields_List (λ i. is_payout (contract_of s.terms.table.now) (entry_at s.numbers.now s.values.now i)) _ _ c.all.result c.all.ensures.ran (YieldsList-from_range 0 n n refl (omega arith)) (λ x b q k. search rules)
    ∙ all_asked (contract_of s.terms.table.now) s.numbers.now s.values.now (omega (arith, c.if-self-count.false, c.if-self-ne0.false))
