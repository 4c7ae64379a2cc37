-- `results::write_batch` meets its contract. Assumes nothing.
use mathlib.Core.Path.{subst}
use mathlib.Core.List.{List}
use Prim.Native.Nat.{ℕ, ◌-◌}
use Rattle.contract.specs.Decode.{contract_of}
use Rattle.results.specs.Coded.{reports_from}
use Rattle.results.proofs.Assembled.{same_table, passes_then, not_passed}
use Rattle.results.proofs.Turns.{BatchAnswers, none_space, none_table, some_lines}
use Rattle.results.proofs.write_batch.Goals as goal

pub returns-then-buffer-lt-ROOM : goal.returns-then-buffer-lt-ROOM
returns-then-buffer-lt-ROOM c = none_space _ _ _ c.if-buffer-lt-ROOM.true

pub returns-in_default : goal.returns-in_default
returns-in_default c = none_table _ _ _ c.if-buffer-lt-ROOM.false (not_passed c.args.table.now c.of.ensures c.in_default.is)

pub returns : goal.returns
returns c =
    let a = c.args in
    some_lines _ _ _ c.if-buffer-lt-ROOM.false (passes_then c.args.table.now c.of.ensures c.in-Some.is)
    (subst
    (λ (w : List ℕ). BatchAnswers (contract_of w) (reports_from a.numbers.now a.integers.now a.from (a.to - a.from)) a.buffer.now c.write_lines.result c.write_lines.new.buffer)
    (same_table c.args.table.now c.of.ensures c.in-Some.is)
    c.write_lines.ensures)
