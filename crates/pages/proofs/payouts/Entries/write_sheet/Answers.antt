-- `pages::payouts::Entries::write_sheet` meets its contract. Assumes nothing.
use borrow.Author.Rules.{rules}
use Rattle.pages.proofs.Composed.{all_payable, blanks_room, foot_room, page_put}
use Rattle.pages.proofs.payouts.Entries.write_sheet.Goals as goal

pub put_blanks-requires : goal.put_blanks-requires
put_blanks-requires c =
    blanks_room (all_payable c.args.self.now.terms c.args.self.now.numbers.now c.args.self.now.values.now c.requires.payouts) c.args.number c.first_of-first.ensures c.end_of-end.ensures c.requires.room c.new-out.ensures.place c.new-out.ensures.bytes c.put_lines.ensures.written

pub put_foot-requires : goal.put_foot-requires
put_foot-requires c =
    foot_room (all_payable c.args.self.now.terms c.args.self.now.numbers.now c.args.self.now.values.now c.requires.payouts) c.args.number c.first_of-first.ensures c.end_of-end.ensures c.requires.room c.new-out.ensures.place c.new-out.ensures.bytes c.put_lines.ensures.written c.put_blanks.ensures.written

pub returns : goal.returns
returns c =
    page_put (all_payable c.args.self.now.terms c.args.self.now.numbers.now c.args.self.now.values.now c.requires.payouts) c.args.number c.first_of-first.ensures c.end_of-end.ensures c.requires.room c.new-out.ensures.place c.new-out.ensures.bytes c.put_lines.ensures.written c.put_blanks.ensures.written c.put_foot.ensures.written
    (search rules)
