-- `lines::Reader::fields` meets its contract. Assumes nothing.
use mathlib.Core.Path.{refl, ap}
use mathlib.Core.List.{[]}
use Prim.Native.Nat.{◌-◌, ◌<◌}
use native.Mathlib.Omega.{arith}
use lib.ListN.{length}
use Rattle.lines.specs.declared.Agreement.{Agreement}
use Rattle.lines.proofs.Got.{field_got, field_missed, mark_past_is, mark_not_is, stored_none, closed_by}
use Rattle.lines.proofs.Ahead.{field_ahead, mark_ahead}
use Rattle.lines.proofs.Loops.{started, item_missing, one_more, closing, never_closed, no_fields, field_more}
use Rattle.words.specs.Words.{spelled}
use Rattle.lines.proofs.Reader.fields.Goals as goal

pub loop-self-init : goal.loop-self-init
loop-self-init c =
    started _ _ _ _ _ _ refl (no_fields _)

pub returns-in_err-field : goal.returns-in_err-field
returns-in_err-field c =
    let v = c.loop-self.invariant in
    stored_none _ _ _ _ (item_missing _ _ _ _ _ v (field_missed _ _ v.line c.in_err-field.ensures)) c.from_residual.ensures

pub add_field-requires : goal.add_field-requires
add_field-requires c =
    let v = c.loop-self.invariant in
    let a = field_ahead _ _ (field_got _ v.line c.in_ok-field.ensures).parsed in
    omega (arith, v.behind, a.more, a.inside, ap (λ (x : Agreement). x.fields) v.stored, c.requires)

pub returns-then-is_none : goal.returns-then-is_none
unfolding spelled
returns-then-is_none c =
    let v = c.loop-self.invariant in
    let got = field_got _ v.line c.in_ok-field.ensures in
    let a = field_ahead _ _ got.parsed in
    let w = field_more _ _ _ v.stored c.add_field.ensures in
    let k = mark_not_is _ _ _ got.line c.mark.ensures c.if-is_none.ensures in
    closed_by _ _ _ _ _ _ _ _ got.line k.here c.mark-then-is_none.ensures (λ g. closing _ _ _ _ _ v got a w k.parsed g) (λ g. never_closed _ _ _ _ _ v got a w k.parsed g)

pub loop-self-smaller : goal.loop-self-smaller
unfolding spelled
loop-self-smaller c =
    let v = c.loop-self.invariant in
    let got = field_got _ v.line c.in_ok-field.ensures in
    let a = field_ahead _ _ got.parsed in
    let comma = mark_past_is _ _ _ got.line c.mark.ensures c.if-is_none.ensures in
    let h : length c.args.self.now.line.now - c.mark.new.self.at < length c.args.self.now.line.now - c.loop-self.self.at = omega (arith, a.more, a.inside, (mark_ahead _ 44 [] _ comma.parsed).more) in
    h

pub loop-self-preserved : goal.loop-self-preserved
unfolding spelled
loop-self-preserved c =
    let v = c.loop-self.invariant in
    let got = field_got _ v.line c.in_ok-field.ensures in
    let a = field_ahead _ _ got.parsed in
    let w = field_more _ _ _ v.stored c.add_field.ensures in
    let comma = mark_past_is _ _ _ got.line c.mark.ensures c.if-is_none.ensures in
    one_more _ _ _ _ _ v got a w comma (omega (arith, (mark_ahead _ 44 [] _ comma.parsed).more))
