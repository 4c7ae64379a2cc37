-- `results::many::Coded::write_lines` meets its contract. Assumes nothing.
use mathlib.Core.Path.{sym, ◌∙◌}
use Rattle.results.proofs.Turns.{all_written, none_written}
use Rattle.results.proofs.many.Coded.write_lines.Goals as goal

pub returns-then-not-all_ok : goal.returns-then-not-all_ok
returns-then-not-all_ok c = none_written _ _ _ _ _ c.last_of-end.ensures _ (sym c.all_ok.ensures ∙ c.if-not-all_ok.true)

pub returns : goal.returns
returns c =
    all_written _ _ _ _ _ c.last_of-end.ensures _
    (sym c.all_ok.ensures ∙ c.if-not-all_ok.false)
    c.put_lines.ensures
