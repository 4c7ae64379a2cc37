-- `pages::lines::put_party` meets its contract. Assumes nothing.
use mathlib.Core.Path.{sym}
use mathlib.Core.List.{[]}
use native.Mathlib.Omega.{arith}
use lib.ListN.{get_or}
use Rattle.printing.proofs.Puts.{puts_same}
use Rattle.contract.specs.Decode.{contract_of}
use Rattle.results.proofs.Rows.{party_row}
use Rattle.pages.proofs.Assembled.{left_room, left_piece}
use Rattle.pages.proofs.lines.put_party.Goals as goal

pub overflow_mul-party : goal.overflow_mul-party
overflow_mul-party c = let s = c in record { fits = omega (arith, (party_row s.args.terms.now.table.now s.args.terms.now.whole s.args.party s.requires.party).low) }

pub overflow_add-party : goal.overflow_add-party
overflow_add-party c = let s = c in record { fits = omega (arith, (party_row s.args.terms.now.table.now s.args.terms.now.whole s.args.party s.requires.party).low) }

pub overflow_sub-width : goal.overflow_sub-width
overflow_sub-width c =
    let row = party_row c.args.terms.now.table.now c.args.terms.now.whole c.args.party c.requires.party in
    omega (arith, (left_room 32 (get_or (contract_of c.args.terms.now.table.now).parties c.args.party []) c.requires.room (puts_same _ _ (sym row.name) c.put_name.ensures)).place)

pub returns-clause-written : goal.returns-clause-written
returns-clause-written c =
    let row = party_row c.args.terms.now.table.now c.args.terms.now.whole c.args.party c.requires.party in
    left_piece 32 (get_or (contract_of c.args.terms.now.table.now).parties c.args.party []) c.requires.room (puts_same _ _ (sym row.name) c.put_name.ensures) c.saturating_sub.ensures c.put_spaces.ensures
