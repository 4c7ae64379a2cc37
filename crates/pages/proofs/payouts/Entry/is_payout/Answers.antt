-- `pages::payouts::Entry::is_payout` meets its contract. Assumes nothing.
use mathlib.Core.Path.{refl}
use borrow.Author.Rules.{rules}
use mir.Syntax.{w64}
use mir.Val.{SFits}
use mir.Facts.{to_z-of_z}
use Rattle.pages.proofs.Asking.{payout_asked}
use Rattle.pages.proofs.payouts.Entry.is_payout.Goals as goal

pub returns : goal.returns
returns c =
    let e = c.args.self in
    let f : SFits w64 e.value = search rules in
    payout_asked _ e.kind e.party e.rule e.clock e.group (to_z-of_z f) f refl c.word.ensures
