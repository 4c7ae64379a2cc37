-- `pages::Gathered::gather` meets its contract. Assumes nothing.
use mathlib.Core.Path.{sym, ap, ◌∙◌}
use Rattle.std.specs.Prelude.{Some}
use Rattle.pages.proofs.Noting.{noted_as, ruled_notes, others_note}
use Rattle.pages.proofs.Gathered.gather.Goals as goal

pub returns-in-Ruled : goal.returns-in-Ruled
returns-in-Ruled c = noted_as _ _ _ (sym (c.in-Some.is ∙ ap Some c.in-Ruled.is) ∙ c.report_at.ensures) (ruled_notes c.args.self c.in-Ruled.rule _ c.in-Ruled.clock _ _)

pub returns-in-Held : goal.returns-in-Held
returns-in-Held c = noted_as _ _ _ (sym c.in-Some.is ∙ c.report_at.ensures) (others_note c.args.self _ _ c.in-Held.is)
