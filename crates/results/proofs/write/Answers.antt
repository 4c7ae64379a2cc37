-- `results::write` meets its contract. Assumes nothing.
use mathlib.Core.Path.{sym, ap, ◌∙◌}
use mathlib.Core.List.{List}
use Prim.Native.Nat.{ℕ, ◌<◌}
use native.Mathlib.Omega.{arith}
use lib.ListN.{length}
use Rattle.contract.specs.Decode.{contract_of}
use Rattle.results.specs.Lines.{report_ok, line_of}
use Rattle.printing.proofs.Puts.{same}
use Rattle.results.proofs.Assembled.{no_space, no_table, no_kind, wrote, same_table, passes_then, not_passed}
use Rattle.results.proofs.write.Goals as goal

pub returns-then-buffer-lt-ROOM : goal.returns-then-buffer-lt-ROOM
returns-then-buffer-lt-ROOM c =
    let h : length c.args.buffer.now < 128 = omega (arith, c.if-buffer-lt-ROOM.true) in
    no_space _ _ _ h

pub returns-in_default : goal.returns-in_default
returns-in_default c = no_table _ _ _ c.if-buffer-lt-ROOM.false (not_passed c.args.table.now c.of.ensures c.in_default.is)

pub returns-then-not-report_ok : goal.returns-then-not-report_ok
returns-then-not-report_ok c =
    no_kind _ _ _ c.if-buffer-lt-ROOM.false (passes_then c.args.table.now c.of.ensures c.in-Some.is) (sym c.report_ok.ensures ∙ c.if-not-report_ok.true)

pub write_line-requires : goal.write_line-requires
write_line-requires c =
    record {
      room = omega (arith, c.if-buffer-lt-ROOM.false);
      range = ap (λ (w : List ℕ). report_ok (contract_of w) c.args.report) (same_table c.args.table.now c.of.ensures c.in-Some.is) ∙ sym c.report_ok.ensures ∙ c.if-not-report_ok.false;
    }

pub returns : goal.returns
returns c =
    wrote _ _ _ c.if-buffer-lt-ROOM.false (passes_then c.args.table.now c.of.ensures c.in-Some.is) (sym c.report_ok.ensures ∙ c.if-not-report_ok.false)
    (same (ap (λ (w : List ℕ). line_of (contract_of w) c.args.report) (same_table c.args.table.now c.of.ensures c.in-Some.is))
    c.write_line.ensures.put)
