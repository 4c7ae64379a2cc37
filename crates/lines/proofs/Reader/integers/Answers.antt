-- `lines::Reader::integers` meets its contract. Assumes nothing.
use borrow.Author.Rules.{rules}
use mathlib.Core.Path.{◌≡◌, refl, ap, ◌∙◌}
use mathlib.Core.List.{[], ◌∷◌}
use Prim.Native.Nat.{◌-◌, ◌<◌}
use native.Mathlib.Omega.{arith}
use lib.ListN.{length}
use lib.IntN.{ℤ}
use mir.Syntax.{w64}
use mir.Val.{to_z, of_z}
use Rattle.lines.specs.Private.{Integers, integers_in, with_integers}
use Rattle.lines.proofs.Got.{integer_got, integer_missed, mark_past_is, mark_not_is, stored_none, closed_by}
use Rattle.lines.proofs.Ahead.{integer_ahead, mark_ahead}
use Rattle.lines.proofs.Loops.{started, item_missing, one_more, closing, never_closed, no_integers, integer_more}
use Rattle.words.specs.Words.{spelled}
use Rattle.lines.proofs.Reader.integers.Goals as goal

pub loop-self-init : goal.loop-self-init
loop-self-init c =
    (started _ _ _ _ _ _ refl (no_integers _), refl)

pub returns-in_err-integer-clause-value : goal.returns-in_err-integer-clause-value
returns-in_err-integer-clause-value c =
    let v = c.loop-self.invariant.0 in
    stored_none _ _ _ _ (item_missing _ _ _ _ _ v (integer_missed _ _ v.line c.in_err-integer.ensures)) c.from_residual.ensures

pub add-requires : goal.add-requires
add-requires c =
    let v = c.loop-self.invariant.0 in
    let a = integer_ahead _ _ (integer_got _ v.line c.in_ok-integer.ensures).parsed in
    omega (arith, v.behind, a.more, a.inside, ap (λ (x : Integers). x.count) v.stored, c.requires)

pub returns-then-is_none-clause-value : goal.returns-then-is_none-clause-value
unfolding spelled
returns-then-is_none-clause-value c =
    let e : to_z w64 (of_z w64 c.in_ok-integer.field-0) ≡ c.in_ok-integer.field-0 = search rules in
    let v = c.loop-self.invariant.0 in
    let got = integer_got _ v.line c.in_ok-integer.ensures in
    let a = integer_ahead _ _ got.parsed in
    let w = integer_more _ _ _ v.stored (c.add.ensures.value ∙ ap (λ (z : ℤ). with_integers (integers_in c.loop-self.out) (z ∷ [])) e) in
    let k = mark_not_is _ _ _ got.line c.mark.ensures c.if-is_none.ensures in
    closed_by _ _ _ _ _ _ _ _ got.line k.here c.mark-then-is_none.ensures (λ g. closing _ _ _ _ _ v got a w k.parsed g) (λ g. never_closed _ _ _ _ _ v got a w k.parsed g)

pub loop-self-smaller : goal.loop-self-smaller
unfolding spelled
loop-self-smaller c =
    let v = c.loop-self.invariant.0 in
    let got = integer_got _ v.line c.in_ok-integer.ensures in
    let a = integer_ahead _ _ got.parsed in
    let comma = mark_past_is _ _ _ got.line c.mark.ensures c.if-is_none.ensures in
    let h : length c.args.self.now.line.now - c.mark.new.self.at < length c.args.self.now.line.now - c.loop-self.self.at = omega (arith, a.more, a.inside, (mark_ahead _ 44 [] _ comma.parsed).more) in
    h

pub loop-self-preserved : goal.loop-self-preserved
unfolding spelled
loop-self-preserved c =
    let e : to_z w64 (of_z w64 c.in_ok-integer.field-0) ≡ c.in_ok-integer.field-0 = search rules in
    let v = c.loop-self.invariant.0 in
    let got = integer_got _ v.line c.in_ok-integer.ensures in
    let a = integer_ahead _ _ got.parsed in
    let w = integer_more _ _ _ v.stored (c.add.ensures.value ∙ ap (λ (z : ℤ). with_integers (integers_in c.loop-self.out) (z ∷ [])) e) in
    let comma = mark_past_is _ _ _ got.line c.mark.ensures c.if-is_none.ensures in
    (one_more _ _ _ _ _ v got a w comma (omega (arith, (mark_ahead _ 44 [] _ comma.parsed).more)), c.add.ensures.same_list ∙ c.loop-self.invariant.1)
