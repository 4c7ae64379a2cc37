-- `pages::page` meets its contract. Assumes nothing.
use mathlib.Core.Path.{sym, ap, ◌∙◌}
use mathlib.Core.List.{List, ◌++◌}
use Prim.Native.Nat.{ℕ}
use lib.ListN.{drop}
use Rattle.laws.specs.Lists.{every}
use Rattle.contract.specs.Decode.{contract_of}
use Rattle.results.proofs.Assembled.{same_table, passes_then, not_passed}
use Rattle.pages.specs.Entries.{is_payout, entries_of}
use Rattle.pages.specs.Page.{page_of}
use Rattle.pages.specs.Answers.{page_bytes}
use Rattle.pages.proofs.Composed.{short_buffer, no_table, no_payouts, page_written}
use Rattle.pages.proofs.page.Goals as goal

pub returns-then-buffer-lt-BYTES : goal.returns-then-buffer-lt-BYTES
returns-then-buffer-lt-BYTES c = let s = c in short_buffer s.args.table.now (entries_of s.args.numbers.now s.args.values.now) s.args.number s.args.buffer.now c.if-buffer-lt-BYTES.true

pub returns-in_default : goal.returns-in_default
returns-in_default c =
    no_table c.args.table.now (entries_of c.args.numbers.now c.args.values.now) c.args.number c.args.buffer.now c.if-buffer-lt-BYTES.false
    (not_passed c.args.table.now c.of.ensures c.in_default.is)

pub returns-then-not-all_payouts : goal.returns-then-not-all_payouts
returns-then-not-all_payouts c =
    let a = c.args in
    let es = entries_of a.numbers.now a.values.now in
    no_payouts a.table.now es a.number a.buffer.now c.if-buffer-lt-BYTES.false (passes_then a.table.now c.of.ensures c.in-Some.is)
    (ap (λ (w : List ℕ). every (is_payout (contract_of w)) es) (sym (same_table a.table.now c.of.ensures c.in-Some.is)) ∙ sym c.all_payouts.ensures ∙ c.if-not-all_payouts.true)

pub returns : goal.returns
returns c =
    let a = c.args in
    let es = entries_of a.numbers.now a.values.now in
    let same = same_table a.table.now c.of.ensures c.in-Some.is in
    page_written a.table.now es a.number a.buffer.now c.if-buffer-lt-BYTES.false (passes_then a.table.now c.of.ensures c.in-Some.is)
    (ap (λ (w : List ℕ). every (is_payout (contract_of w)) es) (sym same) ∙ sym c.all_payouts.ensures ∙ c.if-not-all_payouts.false)
    (c.write_sheet.ensures ∙ ap (λ (w : List ℕ). page_of (contract_of w) es a.number ++ drop page_bytes a.buffer.now) same)
