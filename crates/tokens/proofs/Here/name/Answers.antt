-- `tokens::Here::name` meets its contract: a run ends within the text. Assumes nothing.
use borrow.Author.Tests.{le-leb, lt-leb}
use Rattle.laws.specs.Choice.{pick}
use Rattle.tokens.specs.Classes.{is_name_byte, run}
use Rattle.tokens.specs.Tokens.{name_at}
use Rattle.tokens.proofs.Laws.{run_go, run_within}
use Rattle.tokens.proofs.Facts.{letter_name}
use Prim.Native.Nat.{◌+◌, ◌-◌, ◌<◌, ◌≤◌}
use mathlib.Core.Path.{◌≡◌}
use native.Mathlib.Omega.{arith}
use lib.ListN.{drop, length}
use Rattle.tokens.proofs.Here.name.Goals as goal

pub slice_bounds-name_kind-end : goal.slice_bounds-name_kind-end
slice_bounds-name_kind-end c =
    let a = c.args.self.now in
    let h : a.at + 1 ≤ length a.text.now = omega (arith, a.inside) in
    omega (arith, c.name_end-end.ensures, run_within is_name_byte a.text.now (a.at + 1) h)

pub returns-then-fits : goal.returns-then-fits
unfolding name_at pick
returns-then-fits c =
    let a = c.args.self.now in
    let g = run_go a.text.now a.at a.inside is_name_byte (letter_name _ c.requires) in
    let n : run is_name_byte (drop a.at a.text.now) ≡ c.name_end-end.result - a.at = omega (arith, c.name_end-end.ensures, g) in
    let m : a.at + (c.name_end-end.result - a.at) ≡ c.name_end-end.result = omega (arith, c.name_end-end.ensures) in
    rw (n, m, le-leb _ _ c.if-fits.true, ← c.name_kind.ensures) c.found.ensures

pub returns-else-fits : goal.returns-else-fits
unfolding name_at pick
returns-else-fits c =
    let a = c.args.self.now in
    let g = run_go a.text.now a.at a.inside is_name_byte (letter_name _ c.requires) in
    let h : 32 < run is_name_byte (drop a.at a.text.now) = omega (arith, c.name_end-end.ensures, g, c.if-fits.false) in
    rw (lt-leb _ _ h) c.refused.ensures
