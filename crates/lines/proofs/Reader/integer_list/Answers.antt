-- `lines::Reader::integer_list` meets its contract. Assumes nothing.
use mathlib.Core.Path.{refl, sym, ap, ◌∙◌}
use mathlib.Core.List.{List, [], ◌∷◌}
use Prim.Native.Nat.{ℕ}
use native.Mathlib.Omega.{arith}
use lib.ListN.{length}
use Rattle.lines.specs.Lines.{mark, integer, items}
use Rattle.lines.specs.Private.{Spot}
use Rattle.lines.proofs.Got.{mark_got, mark_missed, mark_past_is, mark_not_is, stored, stored_none, stored_from}
use Rattle.lines.proofs.Ahead.{mark_size}
use Rattle.lines.proofs.Turns.{list_none, list_empty, list_some}
use Rattle.lines.proofs.Loops.{no_integers}
use Rattle.words.specs.Words.{spelled}
use Rattle.lines.proofs.Reader.integer_list.Goals as goal

pub returns-in_err-mark-clause-value : goal.returns-in_err-mark-clause-value
unfolding spelled
returns-in_err-mark-clause-value c =
    stored_none _ _ _ _ (list_none _ _ _ _ _ (mark_missed _ _ refl c.in_err-mark.ensures).parsed) c.from_residual.ensures

pub returns-then-is_some-clause-value : goal.returns-then-is_some-clause-value
unfolding spelled
returns-then-is_some-clause-value c =
    let a = mark_got _ _ refl c.in_ok-mark.ensures in
    let b = mark_past_is _ _ _ a.line c.mark-2.ensures (sym c.if-is_some.ensures) in
    stored _ _ (record { parsed = list_empty _ _ _ _ _ a.parsed b.parsed; line = b.line }) refl (no_integers _)

pub integers-requires : goal.integers-requires
unfolding spelled
integers-requires c =
    let a = mark_got _ _ refl c.in_ok-mark.ensures in
    let b = mark_not_is _ _ _ a.line c.mark-2.ensures (sym c.if-is_some.ensures) in
    omega (arith, c.requires, mark_size _ _ _ a.parsed, ap (λ (x : Spot). x.at) b.here)

pub returns-clause-value : goal.returns-clause-value
unfolding spelled
returns-clause-value c =
    let a = mark_got _ _ refl c.in_ok-mark.ensures in
    let b = mark_not_is _ _ _ a.line c.mark-2.ensures (sym c.if-is_some.ensures) in
    let s = c.args.self.now.line.now in
    stored_from _ _ (λ (t : List ℕ). items t (integer t) (44 ∷ []) (mark t (spelled c.args.close)) (length t)) _ _ _ _ (ap (λ (x : Spot). x.line) b.here ∙ a.line)
    (list_some _ _ _ _ _ a.parsed b.parsed ∙ ap (items s (integer s) (44 ∷ []) (mark s (spelled c.args.close)) (length s)) (sym (ap (λ (x : Spot). x.at) b.here)))
    c.integers.ensures.value
