-- `expressions::parse` meets its contract. Assumes nothing.
use Rattle.std.proofs.Common.{rules}
use native.Mathlib.Omega.{arith}
use Rattle.entries.specs.Lending.{draft_in}
use Rattle.reading_laws.specs.Walk.{Cursor}
use Rattle.cursors.proofs.Clipped.{leaves, refuses}
use Rattle.expressions.specs.Private.{rank_number, chain_at}
use Rattle.expressions.proofs.parse.Goals as goal

pub returns-then-text-gt-TEXT : goal.returns-then-text-gt-TEXT
returns-then-text-gt-TEXT c =
    let e = c.too_long.ensures in
    let p = refuses c.args.text.now _ _ _ _ (omega (arith, c.if-text-gt-TEXT.true)) e.value e.stops e.lists in
    record { value = p.0; lists = p.1; same_lists = e.same_lists }

pub returns : goal.returns
returns c =
    let z = c.args in
    let s = z.text.now in
    let r = c.chain-r.ensures in
    let e = c.leave.ensures in
    let p = leaves s (λ (x : Cursor). chain_at s z.handler z.levels (rank_number z.rank) x (draft_in z.lent.now)) z.c _ _ _ (draft_in z.lent.now) _ _ (omega (arith, c.if-text-gt-TEXT.false)) c.going.ensures r.value r.same_lists.1.0 r.same_lists.1.1 e.value e.lists in
    record { value = p.0; lists = p.1; same_lists = search rules }
