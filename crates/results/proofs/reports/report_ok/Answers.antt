-- `results::reports::report_ok` meets its contract. Assumes nothing.
use borrow.Author.Rules.{rules}
use Rattle.std.proofs.Common.{arith}
use Rattle.std.proofs.lemmas.Bool.Decides.{nat_tests}
use mathlib.Core.Path.{◌≡◌, refl, ◌∙◌}
use mathlib.Core.Bool.{◌&&◌}
use lib.Dec.{leb, ltb}
use Rattle.contract.specs.Table.{word_at}
use Rattle.contract.specs.Limits.{top}
use Rattle.contract.specs.Decode.{contract_of}
use Rattle.results.specs.Lines.{value_ok}
use mir.Syntax.{w64}
use mir.Val.{to_z, of_z}
use Rattle.results.proofs.Ranges.{ruled_ok, sent_ok, held_ok, refused_ok, failed_ok}
use Rattle.results.proofs.reports.report_ok.Goals.{then-rule-le-TICK, else-rule-le-TICK, then-is_kind, else-is_kind}
use Rattle.results.proofs.reports.report_ok.Goals as goal

pub returns-then-state-word : goal.returns-then-state-word
returns-then-state-word c =
    elim c.if-rule-le-TICK.branch [ then-rule-le-TICK w ↦ (let e : leb c.in-Ruled.clock top ≡ (leb c.in-Ruled.rule 3 && (ltb c.in-Ruled.state w.word.result && leb c.in-Ruled.clock top)) = grind (arith, nat_tests) in e ∙ ruled_ok _ c.in-Ruled.is w.word.ensures) | else-rule-le-TICK w ↦ (let e : leb c.in-Ruled.clock top ≡ (leb c.in-Ruled.rule 3 && (ltb c.in-Ruled.state (word_at c.args.table.now 3) && leb c.in-Ruled.clock top)) = grind (arith, nat_tests) in e ∙ ruled_ok _ c.in-Ruled.is refl) ]

pub returns-else-state-word : goal.returns-else-state-word
returns-else-state-word c =
    elim c.if-rule-le-TICK.branch [ then-rule-le-TICK w ↦ (let e : c.if-rule-le-TICK.value ≡ (leb c.in-Ruled.rule 3 && (ltb c.in-Ruled.state w.word.result && leb c.in-Ruled.clock top)) = grind (arith, nat_tests) in e ∙ ruled_ok _ c.in-Ruled.is w.word.ensures) | else-rule-le-TICK w ↦ (let e : c.if-rule-le-TICK.value ≡ (leb c.in-Ruled.rule 3 && (ltb c.in-Ruled.state (word_at c.args.table.now 3) && leb c.in-Ruled.clock top)) = grind (arith, nat_tests) in e ∙ ruled_ok _ c.in-Ruled.is refl) ]

pub returns-then-party-word : goal.returns-then-party-word
returns-then-party-word c =
    elim c.if-is_kind.branch [ then-is_kind w ↦ (let e : c.value_ok.result ≡ (c.is_kind.result && (ltb c.in-Sent.party w.word-then-is_kind.result && value_ok (contract_of c.args.table.now) c.in-Sent.kind (to_z w64 (of_z w64 c.in-Sent.value)))) = grind (arith, nat_tests) in e ∙ sent_ok _ c.in-Sent.is (search rules) c.is_kind.ensures w.word-then-is_kind.ensures refl) | else-is_kind w ↦ (let e : c.value_ok.result ≡ (c.is_kind.result && (ltb c.in-Sent.party (word_at c.args.table.now 0) && value_ok (contract_of c.args.table.now) c.in-Sent.kind (to_z w64 (of_z w64 c.in-Sent.value)))) = grind (arith, nat_tests) in e ∙ sent_ok _ c.in-Sent.is (search rules) c.is_kind.ensures refl refl) ]

pub returns-else-party-word : goal.returns-else-party-word
returns-else-party-word c =
    elim c.if-is_kind.branch [ then-is_kind w ↦ (let e : c.if-is_kind.value ≡ (c.is_kind.result && (ltb c.in-Sent.party w.word-then-is_kind.result && value_ok (contract_of c.args.table.now) c.in-Sent.kind (to_z w64 (of_z w64 c.in-Sent.value)))) = grind (arith, nat_tests) in e ∙ sent_ok _ c.in-Sent.is (search rules) c.is_kind.ensures w.word-then-is_kind.ensures refl) | else-is_kind w ↦ (let e : c.if-is_kind.value ≡ (c.is_kind.result && (ltb c.in-Sent.party (word_at c.args.table.now 0) && value_ok (contract_of c.args.table.now) c.in-Sent.kind (to_z w64 (of_z w64 c.in-Sent.value)))) = grind (arith, nat_tests) in e ∙ sent_ok _ c.in-Sent.is (search rules) c.is_kind.ensures refl refl) ]

pub returns-then-asset-word : goal.returns-then-asset-word
returns-then-asset-word c =
    let e : leb c.in-Held.amount top ≡ (ltb c.in-Held.asset c.word-in-Held.result && leb c.in-Held.amount top) = grind (arith, nat_tests) in
    e ∙ held_ok _ c.in-Held.is c.word-in-Held.ensures

pub returns-else-asset-word : goal.returns-else-asset-word
returns-else-asset-word c =
    let e : ltb c.in-Held.asset c.word-in-Held.result ≡ (ltb c.in-Held.asset c.word-in-Held.result && leb c.in-Held.amount top) = grind (arith, nat_tests) in
    e ∙ held_ok _ c.in-Held.is c.word-in-Held.ensures

pub returns-in-Refused : goal.returns-in-Refused
returns-in-Refused c = refused_ok _ c.in-Refused.is c.is_refusal.ensures

pub returns-in-Failed : goal.returns-in-Failed
returns-in-Failed c = failed_ok _ c.in-Failed.is c.is_failure.ensures
