-- `lines::Short::other` meets its contract. Assumes nothing.
use mathlib.Core.Path.{◌∙◌}
use Rattle.std.proofs.Common.{rules}
use Rattle.lines.specs.Answers.{request_of}
use Rattle.lines.proofs.Got.{given_missed}
use Rattle.lines.proofs.Forms.{parts_filled}
use Rattle.lines.proofs.Short.other.Goals as goal

pub returns : goal.returns
returns c =
    c.ok_or.ensures.value ∙ parts_filled _ c.args.self.now.short (given_missed request_of _ c.requires.no_time) (given_missed request_of _ c.requires.no_call) c.parts.result _ c.parts.new.read c.parts.ensures (λ y z q. search rules) c.map.ensures.cases
