-- `pages::lines::put_rule` meets its contract. Assumes nothing.
use mathlib.Core.Path.{sym, ap, subst}
use mathlib.Core.List.{List}
use Prim.Native.Nat.{ℕ, ◌+◌, ◌≤◌}
use lib.ListN.{length}
use Rattle.printing.proofs.Puts.{same}
use Rattle.pages.specs.Page.{left}
use Rattle.pages.proofs.Assembled.{call_name, firing_name}
use Rattle.pages.proofs.lines.put_rule.Goals as goal

pub put_column-requires : goal.put_column-requires
put_column-requires c =
    subst (λ (w : List ℕ). c.args.out.now.at + length (left 11 w) ≤ length c.args.out.now.buffer.now) (sym (call_name c.if-rule.true)) c.requires.room

pub put_column-requires-else-rule : goal.put_column-requires-else-rule
put_column-requires-else-rule c =
    subst (λ (w : List ℕ). c.args.out.now.at + length (left 11 w) ≤ length c.args.out.now.buffer.now) (sym (firing_name c.requires.rule c.if-rule.false)) c.requires.room

pub returns-then-rule-clause-written : goal.returns-then-rule-clause-written
returns-then-rule-clause-written c = same (ap (left 11) (call_name c.if-rule.true)) c.put_column.ensures.written

pub returns-else-rule-clause-written : goal.returns-else-rule-clause-written
returns-else-rule-clause-written c = same (ap (left 11) (firing_name c.requires.rule c.if-rule.false)) c.put_column-else-rule.ensures.written
