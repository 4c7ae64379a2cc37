-- `pages::payouts::Entries::entry` meets its contract. Assumes nothing.
use mathlib.Core.Path.{sym, ap, ◌∙◌}
use Prim.Native.Nat.{ℕ, ◌+◌, ◌*◌}
use native.Mathlib.Omega.{arith}
use lib.ListN.{get_or}
use lib.IntN.{ℤ, pos}
use mir.Syntax.{w64}
use mir.Val.{SFits}
use mir.Facts.{to_z-of_z}
use Rattle.pages.specs.Entries.{Entry}
use Rattle.pages.proofs.Given.{entry_whole}
use Rattle.pages.proofs.payouts.Entries.entry.Goals as goal

abbrev as_entry : ℕ → ℕ → ℕ → ℕ → ℕ → ℤ → Entry
as_entry k p r t g z = record { kind = k; party = p; rule = r; clock = t; value = z; group = g }

pub returns : goal.returns
returns c =
    let ns = c.args.self.now.numbers.now in
    let zs = c.args.self.now.values.now in
    let i = c.args.i in
    let f : SFits w64 (get_or zs i (pos 0)) = record { sfits = omega arith } in
    ap (λ (z : ℤ). as_entry (get_or ns (5 * i) 0) (get_or ns (5 * i + 1) 0) (get_or ns (5 * i + 2) 0) (get_or ns (5 * i + 3) 0) (get_or ns (5 * i + 4) 0) z) (to_z-of_z f)
    ∙ sym (entry_whole ns zs i c.requires.0 c.requires.1)
