-- `machine::Whole::take_line` meets its contract. Assumes nothing.
use mathlib.Core.Path.{◌≡◌, sym, ◌∙◌}
use lib.ListN.{length}
use Rattle.std.proofs.Common.{rules}
use Rattle.contract.specs.Decode.{contract_of}
use Rattle.lines.specs.Lines.{asked}
use Rattle.lines.proofs.Told.{numbers_first}
use Rattle.machine.proofs.Replies.{quiet_as}
use Rattle.machine.proofs.Taken.{does_refused}
use Rattle.machine.proofs.Whole.take_line.Goals as goal

pub returns-in-Err : goal.returns-in-Err
returns-in-Err c =
    let l = c.args.line.now in
    quiet_as _ c.silent.ensures c.requires.no_labels (does_refused (contract_of c.args.self.now.terms.table.now) c.args.s.now l (asked l) (sym c.read.ensures.value ∙ c.in-Err.is))

pub take_request-requires : goal.take_request-requires
take_request-requires c =
    let full : length c.args.numbers.now ≡ 256 = search rules in
    record {
      at_rest = c.requires.at_rest;
      no_labels = c.requires.no_labels;
      request = sym c.in-Ok.is ∙ c.read.ensures.value;
      numbers = numbers_first c.args.line.now c.args.numbers.now _ full c.read.ensures.numbers_after;
    }
