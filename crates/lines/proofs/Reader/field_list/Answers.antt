-- `lines::Reader::field_list` meets its contract. Assumes nothing.
use mathlib.Core.Path.{refl, sym, ap, ◌∙◌}
use mathlib.Core.List.{List, [], ◌∷◌}
use Prim.Native.Nat.{ℕ}
use native.Mathlib.Omega.{arith}
use lib.ListN.{length}
use Rattle.lines.specs.Lines.{mark, field, items}
use Rattle.lines.specs.Private.{Spot}
use Rattle.lines.proofs.Got.{mark_got, mark_missed, mark_past_is, mark_not_is, stored, stored_none, stored_from}
use Rattle.lines.proofs.Ahead.{mark_size}
use Rattle.lines.proofs.Turns.{list_none, list_empty, list_some}
use Rattle.lines.proofs.Loops.{no_fields}
use Rattle.words.specs.Words.{spelled}
use Rattle.lines.proofs.Reader.field_list.Goals as goal

pub returns-in_err-mark : goal.returns-in_err-mark
unfolding spelled
returns-in_err-mark c =
    stored_none _ _ _ _ (list_none _ _ _ _ _ (mark_missed _ _ refl c.in_err-mark.ensures).parsed) c.from_residual.ensures

pub returns-then-is_some : goal.returns-then-is_some
unfolding spelled
returns-then-is_some c =
    let a = mark_got _ _ refl c.in_ok-mark.ensures in
    let b = mark_past_is _ _ _ a.line c.mark-2.ensures (sym c.if-is_some.ensures) in
    stored _ _ (record { parsed = list_empty _ _ _ _ _ a.parsed b.parsed; line = b.line }) refl (no_fields _)

pub fields-requires : goal.fields-requires
unfolding spelled
fields-requires c =
    let a = mark_got _ _ refl c.in_ok-mark.ensures in
    let b = mark_not_is _ _ _ a.line c.mark-2.ensures (sym c.if-is_some.ensures) in
    omega (arith, c.requires, mark_size _ _ _ a.parsed, ap (λ (x : Spot). x.at) b.here)

pub returns : goal.returns
unfolding spelled
returns c =
    let a = mark_got _ _ refl c.in_ok-mark.ensures in
    let b = mark_not_is _ _ _ a.line c.mark-2.ensures (sym c.if-is_some.ensures) in
    let s = c.args.self.now.line.now in
    stored_from _ _ (λ (t : List ℕ). items t (field t) (44 ∷ []) (mark t (93 ∷ [])) (length t)) _ _ _ _ (ap (λ (x : Spot). x.line) b.here ∙ a.line)
    (list_some _ _ _ _ _ a.parsed b.parsed ∙ ap (items s (field s) (44 ∷ []) (mark s (93 ∷ [])) (length s)) (sym (ap (λ (x : Spot). x.at) b.here)))
    c.fields.ensures
