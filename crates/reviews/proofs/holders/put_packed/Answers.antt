-- `reviews::holders::put_packed` meets its contract. Assumes nothing.
use mathlib.Core.Path.{ap, ◌∙◌}
use mathlib.Core.List.{List}
use Prim.Native.Nat.{ℕ, ◌+◌, ◌*◌}
use native.Mathlib.Omega.{arith}
use lib.ListN.{length, take}
use Rattle.contract.specs.Table.{parameters_start}
use Rattle.printing.proofs.Puts.{put_of, same}
use Rattle.reviews.proofs.Texts.{packed_short, packed_front}
use Rattle.reviews.proofs.holders.put_packed.Goals as goal

pub returns-clause-written : goal.returns-clause-written
returns-clause-written c =
    let w = c.args.table.now in
    let o : ℕ = parameters_start + c.args.i * 5 in
    let front = ap (λ (l : List ℕ). take c.min-length.result l) c.packed_bytes-bytes.ensures ∙ packed_front w o c.min-length.result (omega (arith, c.min-length.ensures, c.packed_length.ensures)) in
    same front (put_of _ c.put_bytes.ensures (omega (arith, ap length front, packed_short w o, c.requires)))
