-- `machine::Whole::find_function` meets its contract. Assumes nothing.
use Rattle.std.proofs.Common.{rules, ◌≡◌, ℕ, ap, true, false}
use Rattle.std.proofs.lemmas.Iterator.{first_from_Range}
use Rattle.contract.specs.Decode.{function_at, contract_of}
use Rattle.contract.specs.declared.TableHead.{TableHead}
use Rattle.machine.specs.Steps.{answers_to}
use Rattle.machine.specs.Private.{naming, in_state}
use Rattle.machine.proofs.Functions.{found_first}
use Rattle.machine.proofs.Whole.find_function.Goals as goal

pub returns : goal.returns
returns c =
    let w = c.args.self.now.terms.table.now in
    let m = naming c.args.caller.now c.args.function.now in
    let test = λ (i : ℕ). answers_to (contract_of w) (in_state c.args.state) m (function_at w i) in
    found_first w c.args.state m _ _ (ap (λ (h : TableHead). h.functions) c.head-count.ensures)
    (first_from_Range _ _ _ _ (λ i. test i ≡ true) (λ i. test i ≡ false) c.find.ensures.ran (λ x q k. search rules) (λ x q k. search rules))
