-- `pages::payouts::Entries::entry_passes` meets its contract. Assumes nothing.
use native.Mathlib.Omega.{arith}
use Rattle.contract.specs.Decode.{contract_of}
use Rattle.pages.proofs.Asking.{broken_fails}
use Rattle.pages.proofs.payouts.Entries.entry_passes.Goals.{then-self-i-via-then-self-i, then-self-i-via-else-self-i+then-self-i-2}
use Rattle.pages.proofs.payouts.Entries.entry_passes.Goals as goal

pub returns-then-self-i : goal.returns-then-self-i
returns-then-self-i c =
    let s = c.args.self.now in
    elim c.then-self-i.branch [ then-self-i-via-then-self-i w ↦ broken_fails (contract_of s.terms.table.now) s.numbers.now s.values.now c.args.i (λ k l. omega (arith, w.if-self-i.true)) | then-self-i-via-else-self-i+then-self-i-2 w ↦ broken_fails (contract_of s.terms.table.now) s.numbers.now s.values.now c.args.i (λ k l. omega (arith, w.if-self-i-2.true)) ]
