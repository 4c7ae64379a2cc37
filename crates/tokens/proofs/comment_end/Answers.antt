-- `tokens::comment_end` meets its contract: LF after the bytes that go on with the comment closes it. Assumes nothing.
use Rattle.std.proofs.Common.{◌∙◌, sym, arith}
use Rattle.tokens.proofs.Runs.{comment_closed, comment_ended}
use Rattle.tokens.proofs.comment_end.Goals as goal

pub returns-then-byte_at-eq-COMMENT_END : goal.returns-then-byte_at-eq-COMMENT_END
returns-then-byte_at-eq-COMMENT_END c =
    (omega arith, comment_closed _ _ _ c.run_end-end.ensures (sym c.byte_at.ensures ∙ c.if-byte_at-eq-COMMENT_END.true))

pub returns-else-byte_at-eq-COMMENT_END : goal.returns-else-byte_at-eq-COMMENT_END
returns-else-byte_at-eq-COMMENT_END c =
    (omega arith, comment_ended _ _ _ c.run_end-end.ensures (λ q. c.if-byte_at-eq-COMMENT_END.false (c.byte_at.ensures ∙ q)))
