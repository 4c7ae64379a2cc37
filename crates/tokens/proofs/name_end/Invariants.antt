use Rattle.tokens.specs.Classes.{is_name_byte}
use Rattle.tokens.proofs.name_end.Given as goal

abbrev pub ghost-run_end : goal.ghost-run_end
ghost-run_end a = is_name_byte
