-- `pages::Gathered::note` meets its contract. Assumes nothing.
use mir.Facts.{to_z-of_z}
use Rattle.pages.proofs.Noting.{not_joined, noted}
use Rattle.pages.proofs.Gathered.note.Goals as goal

pub returns-then-kind-ne-ASSET : goal.returns-then-kind-ne-ASSET
returns-then-kind-ne-ASSET c = not_joined c.args.self c.args.kind c.args.party c.args.value c.args.group _ _ c.then-kind-ne-ASSET.either

pub returns : goal.returns
returns c =
    noted c.args.self c.args.kind c.args.party c.args.value c.args.group _ _ (to_z-of_z c.ranges.value) c.if-kind-ne-ASSET.false c.if-self-ge-LINES.false c.store_all.ensures c.set.ensures
