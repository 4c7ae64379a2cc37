-- `pages::lines::put_payee` meets its contract. Assumes nothing.
use mathlib.Core.List.{[]}
use lib.ListN.{get_or}
use Rattle.laws.specs.Bytes.{bytes}
use Rattle.words.specs.Words.{spelled, line_end}
use Rattle.contract.specs.Decode.{contract_of}
use Rattle.printing.specs.Decimal.{decimal}
use Rattle.pages.specs.Page.{right, left}
use Rattle.pages.proofs.Assembled.{third_room, four_pieces}
use Rattle.pages.proofs.lines.put_payee.Goals as goal

pub put_right-requires : goal.put_right-requires
unfolding spelled
put_right-requires c =
    third_room (left 32 (get_or (contract_of c.args.terms.now.table.now).parties c.args.party [])) (bytes " ") (right 19 (decimal c.args.amount)) (spelled line_end) c.requires.room c.put_party.ensures.written c.put_word.ensures

pub returns-clause-written : goal.returns-clause-written
unfolding spelled
returns-clause-written c =
    four_pieces (left 32 (get_or (contract_of c.args.terms.now.table.now).parties c.args.party [])) (bytes " ") (right 19 (decimal c.args.amount)) (spelled line_end) c.requires.room c.put_party.ensures.written c.put_word.ensures c.put_right.ensures.written c.put_word-2.ensures
