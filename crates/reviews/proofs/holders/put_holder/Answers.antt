-- `reviews::holders::put_holder` meets its contract. Assumes nothing.
use native.Mathlib.Omega.{arith}
use Prim.Native.Nat.{◌+◌, ◌*◌}
use Rattle.printing.specs.Pieces.{name_bytes}
use Rattle.printing.proofs.Puts.{put_of, same}
use Rattle.reviews.proofs.Texts.{asset_of, asset_text, function_within, parameter_within, parameter_is}
use Rattle.reviews.proofs.holders.put_holder.Goals as goal

pub returns-then-k-lt-ASSETS-clause-written : goal.returns-then-k-lt-ASSETS-clause-written
returns-then-k-lt-ASSETS-clause-written c =
    let t = c.args.terms.now in
    let h = c.if-k-lt-ASSETS.true in
    same (asset_text t.table.now t.whole c.args.k c.requires.name h)
    (put_of (name_bytes t.table.now (307 + c.args.k * 33)) c.put_name.ensures (omega (arith, (asset_of t.table.now t.whole c.args.k c.requires.name h).short, c.requires.room)))

pub put_parameter-requires-clause-function : goal.put_parameter-requires-clause-function
put_parameter-requires-clause-function c = let t = c.args.terms.now in function_within t.table.now t.whole c.args.k c.requires.name c.if-k-lt-ASSETS.false

pub put_parameter-requires-clause-parameter : goal.put_parameter-requires-clause-parameter
put_parameter-requires-clause-parameter c = let t = c.args.terms.now in parameter_within t.table.now t.whole c.args.k c.requires.name c.if-k-lt-ASSETS.false

pub returns-clause-written : goal.returns-clause-written
returns-clause-written c =
    let t = c.args.terms.now in
    same (parameter_is t.table.now t.whole c.args.k c.requires.name c.if-k-lt-ASSETS.false) c.put_parameter.ensures.written
