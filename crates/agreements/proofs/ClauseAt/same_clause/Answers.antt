use Rattle.std.proofs.Common.{rules, tests}
use Rattle.agreements.proofs.Agreements.{row_parts}
use Rattle.agreements.proofs.ClauseAt.same_clause.Goals as goal

pub returns-then-same_party : goal.returns-then-same_party
returns-then-same_party c =
    let a = c.args.self.now in
    let parts = row_parts _ a.heard.line.now a.heard.parts.now a.heard.spans.now a.heard.values.now a.i a.at a.row a.heard.terms.whole a.room.0 a.read c.requires in
    search (rules, tests, parts)

pub returns-else-same_party : goal.returns-else-same_party
returns-else-same_party c =
    let a = c.args.self.now in
    let parts = row_parts _ a.heard.line.now a.heard.parts.now a.heard.spans.now a.heard.values.now a.i a.at a.row a.heard.terms.whole a.room.0 a.read c.requires in
    search (rules, tests, parts)
