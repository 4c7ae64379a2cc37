use Rattle.tokens.specs.Classes.{is_string_byte}
use Rattle.tokens.proofs.Here.string.Given as goal

abbrev pub ghost-run_end : goal.ghost-run_end
ghost-run_end a = is_string_byte
