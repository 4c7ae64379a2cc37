-- `lines::Short::parts` meets its contract. Assumes nothing.
use mathlib.Core.Path.{◌≡◌, refl, sym, ap, subst, ◌∙◌}
use mathlib.Core.Bool.{Bool, true, false}
use mathlib.Core.List.{List, [], ◌∷◌}
use Prim.Native.Nat.{ℕ, ◌-◌, ◌<◌, ◌≤◌}
use native.Mathlib.Omega.{arith}
use lib.ListN.{length}
use Rattle.std.specs.Prelude.{Option}
use Rattle.std.specs.Bool.{then_some}
use Rattle.words.specs.Words.{spelled}
use Rattle.lines.specs.Lines.{Part, Parsed, done, no, end, part, parts}
use Rattle.lines.specs.declared.Agreement.{Agreement}
use Rattle.lines.specs.Private.{Spot, AgreementIs, with_part}
use Rattle.lines.proofs.Got.{Filled, mark_past_is, mark_not_is, added_got, added_missed, ended, unended}
use Rattle.lines.proofs.Ahead.{mark_ahead}
use Rattle.lines.proofs.Loops.{started, item_missing, one_more, closing, never_closed}
use Rattle.lines.proofs.Agreed.{part_size, part_ahead, placed, placed_none, placed_few, part_more}
use Rattle.lines.proofs.Forms.{parts_made}
use Rattle.lines.proofs.Short.parts.Goals as goal

ended_if : {here : Spot} (s : List ℕ) (short : length s ≤ 512) (b : Bool) (r : Option Unit) (out : Agreement) → r ≡ then_some b tt → (b ≡ true → Filled placed (parts s 0) s here out) → (b ≡ false → parts s 0 ≡ no) → AgreementIs (parts s 0) r out
ended_if s short true r out e f g =
    let h = f refl in
    subst (λ (q : Parsed (List Part)). AgreementIs q r out) (sym h.is.parsed) (e, h.out_is ∙ parts_made s short h.is.parsed)
ended_if s short false r out e f g = subst (λ (q : Parsed (List Part)). AgreementIs q r out) (sym (g refl)) e

pub loop-reader-init : goal.loop-reader-init
loop-reader-init c =
    let e = c.requires ∙ placed_none in
    record { so_far = started _ _ _ _ _ _ refl e; few = omega (arith, ap (λ (a : Agreement). a.fields) e, placed_few) }

pub returns-in_err-part : goal.returns-in_err-part
unfolding parts spelled
returns-in_err-part c =
    let v = c.loop-reader.invariant.so_far in
    rw (item_missing _ _ _ _ _ v (added_missed (with_part c.loop-reader.read) part _ _ _ v.line c.in_err-part.ensures)) c.from_residual.ensures

pub returns-then-is_none : goal.returns-then-is_none
unfolding parts spelled
returns-then-is_none c =
    let s = c.args.self.now.line.now in
    let v = c.loop-reader.invariant.so_far in
    let g = added_got (with_part c.loop-reader.read) part _ _ _ v.line c.in_ok-part.ensures in
    let a = part_ahead s _ g.is.parsed in
    let w = part_more _ _ v.stored g.out_is in
    let k = mark_not_is _ _ _ g.is.line c.mark.ensures c.if-is_none.ensures in
    let l = ap (λ (x : Spot). x.line) k.here ∙ g.is.line in
    let at = ap (λ (x : Spot). x.at) k.here in
    let shut = λ (q : c.ends.result ≡ true). closing _ _ _ _ _ v g.is a w k.parsed (record { parsed = subst (λ (n : ℕ). end s n ≡ done tt n) at (ended l _ c.ends.ensures q); line = g.is.line }) in
    let open_still = λ (q : c.ends.result ≡ false). never_closed _ _ _ _ _ v g.is a w k.parsed (subst (λ (n : ℕ). end s n ≡ no) at (unended l _ c.ends.ensures q)) in
    ended_if s c.args.self.now.short c.ends.result _ _ c.then_some.ensures shut open_still

pub loop-reader-smaller : goal.loop-reader-smaller
unfolding spelled
loop-reader-smaller c =
    let v = c.loop-reader.invariant.so_far in
    let g = added_got (with_part c.loop-reader.read) part _ _ _ v.line c.in_ok-part.ensures in
    let a = part_ahead c.args.self.now.line.now _ g.is.parsed in
    let or = mark_past_is _ _ _ g.is.line c.mark.ensures c.if-is_none.ensures in
    let h : length c.args.self.now.line.now - c.mark.new.self.at < length c.args.self.now.line.now - c.loop-reader.reader.at = omega (arith, a.more, a.inside, (mark_ahead _ 124 (124 ∷ []) _ or.parsed).more) in
    h

pub loop-reader-preserved : goal.loop-reader-preserved
unfolding spelled
loop-reader-preserved c =
    let v = c.loop-reader.invariant.so_far in
    let g = added_got (with_part c.loop-reader.read) part _ _ _ v.line c.in_ok-part.ensures in
    let a = part_ahead c.args.self.now.line.now _ g.is.parsed in
    let or = mark_past_is _ _ _ g.is.line c.mark.ensures c.if-is_none.ensures in
    let m = mark_ahead _ 124 (124 ∷ []) _ or.parsed in
    record {
      so_far = one_more _ _ _ _ _ v g.is a (part_more _ _ v.stored g.out_is) or (omega (arith, m.more));
      few = omega (arith, c.loop-reader.invariant.few, ap (λ (x : Agreement). x.fields) g.out_is, (part_size _ _ g.is.parsed).each, m.more);
    }
