-- `results::write_text_refusal` meets its contract. Assumes nothing.
use borrow.Author.Rules.{rules}
use mathlib.Core.Path.{sym, ap, ◌∙◌}
use Prim.Native.Nat.{◌<◌}
use native.Mathlib.Omega.{arith}
use lib.ListN.{length}
use Rattle.printing.proofs.Puts.{from_start}
use Rattle.results.proofs.Assembled.{text_line_lem, text_no_space, text_no_kind, text_wrote}
use Rattle.words.specs.Words.{spelled}
use Rattle.results.proofs.write_text_refusal.Goals as goal

pub returns-then-buffer-lt-ROOM : goal.returns-then-buffer-lt-ROOM
returns-then-buffer-lt-ROOM c =
    let h : length c.args.buffer.now < 128 = omega (arith, c.if-buffer-lt-ROOM.true) in
    text_no_space _ _ _ h

pub put_refused-requires : goal.put_refused-requires
put_refused-requires c = omega (arith, c.new-out.ensures.place, ap length c.new-out.ensures.bytes, c.if-buffer-lt-ROOM.false)

pub returns-then-not-is_text_refusal : goal.returns-then-not-is_text_refusal
returns-then-not-is_text_refusal c =
    text_no_kind _ _ _ c.if-buffer-lt-ROOM.false (sym c.is_text_refusal.ensures ∙ c.if-not-is_text_refusal.true)

pub returns : goal.returns
unfolding spelled
returns c =
    text_wrote _ _ _ c.if-buffer-lt-ROOM.false (sym c.is_text_refusal.ensures ∙ c.if-not-is_text_refusal.false)
    (from_start c.new-out.ensures.place c.new-out.ensures.bytes
    (text_line_lem c.ranges.number.fits c.ranges.place.fits (omega (arith, c.new-out.ensures.place, ap length c.new-out.ensures.bytes, c.if-buffer-lt-ROOM.false)) c.put_refused.ensures.written
    c.put_word.ensures c.put_number.ensures c.put_word-2.ensures) (search rules))
