-- `lines::Reader::mark` meets its contract. Assumes nothing.
use mathlib.Core.Path.{refl, sym, ap, ◌∙◌}
use Prim.Native.Nat.{ℕ, ◌+◌}
use lib.ListN.{drop, length-drop}
use Rattle.std.proofs.Common.{rules, arith}
use Rattle.words.specs.Words.{spelled}
use Rattle.lines.specs.Lines.{done}
use Rattle.lines.proofs.Ahead.{starts_short}
use Rattle.lines.proofs.Parse.{mark_then, mark_else}
use Rattle.lines.proofs.Got.{went_past, went_not}
use Rattle.lines.proofs.Reader.mark.Goals as goal

pub returns-then-not-continues : goal.returns-then-not-continues
returns-then-not-continues c =
    went_not _ (mark_else _ _ c.skip-i.ensures _ c.continues.ensures c.if-not-continues.true) refl

pub overflow_add-self : goal.overflow_add-self
overflow_add-self c =
    let i = c.skip-i.result in
    let s = c.args.self.now.line.now in
    let h = starts_short (drop i s) (spelled c.args.which) (sym c.continues.ensures ∙ c.if-not-continues.false) in
    search (rules, arith, h, length-drop i s, c.word_length.ensures)

pub returns : goal.returns
returns c =
    let i = c.skip-i.result in
    went_past _ (mark_then _ _ c.skip-i.ensures _ c.continues.ensures c.if-not-continues.false ∙ ap (λ (n : ℕ). done tt (i + n)) (sym c.word_length.ensures))
