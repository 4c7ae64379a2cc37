-- `reviews::holder_name` meets its contract. Assumes nothing.
use borrow.Author.Rules.{rules}
use mathlib.Core.Path.{sym, ap, ◌∙◌}
use mathlib.Core.List.{List}
use Prim.Native.Nat.{ℕ}
use Rattle.contract.specs.Decode.{contract_of}
use Rattle.groups.specs.Groups.{numbers_name}
use Rattle.printing.proofs.Puts.{from_start, same}
use Rattle.results.proofs.Assembled.{same_table, passes_then, not_passed}
use Rattle.reviews.specs.Holders.{holder_text}
use Rattle.reviews.proofs.Texts.{no_table, no_name, named}
use Rattle.reviews.proofs.holder_name.Goals as goal

pub returns-in_default : goal.returns-in_default
returns-in_default c = no_table _ _ _ (not_passed c.args.table.now c.of.ensures c.in_default.is)

pub returns-then-not-numbers_name : goal.returns-then-not-numbers_name
returns-then-not-numbers_name c =
    let w = c.args.table.now in
    no_name _ _ _ (passes_then w c.of.ensures c.in-Some.is)
    (ap (λ (w : List ℕ). numbers_name (contract_of w) c.args.k) (sym (same_table w c.of.ensures c.in-Some.is)) ∙ sym c.numbers_name.ensures ∙ c.if-not-numbers_name.true)

pub returns : goal.returns
returns c =
    let w = c.args.table.now in
    let e = same_table w c.of.ensures c.in-Some.is in
    named _ _ _ (passes_then w c.of.ensures c.in-Some.is)
    (ap (λ (w : List ℕ). numbers_name (contract_of w) c.args.k) (sym e) ∙ sym c.numbers_name.ensures ∙ c.if-not-numbers_name.false)
    (same (ap (λ (w : List ℕ). holder_text (contract_of w) c.args.k) e)
    (from_start c.new-out.ensures.place c.new-out.ensures.bytes c.put_holder.ensures.written (search rules)))
