use Rattle.tokens.specs.Private.{is_comment_byte}
use Rattle.tokens.proofs.comment_end.Given as goal

abbrev pub ghost-run_end : goal.ghost-run_end
ghost-run_end a = is_comment_byte
