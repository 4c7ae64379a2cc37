-- `step_reports::report` meets its contract. Assumes nothing.
use borrow.Author.Rules.{rules}
use mathlib.Core.Path.{◌≡◌, sym, ap, ◌∙◌}
use mathlib.Core.List.{List, [], ◌∷◌}
use Prim.Native.Nat.{ℕ, ◌+◌, ◌*◌, min}
use native.Mathlib.Omega.{arith}
use lib.IntN.{ℤ}
use lib.Seq.{sets}
use mir.Syntax.{w64}
use mir.Val.{to_z, of_z}
use Rattle.laws.proofs.Choice.{pick_true, pick_false}
use Rattle.step_reports.proofs.Reports.{same_report, step_told}
use Rattle.step_reports.proofs.report.Goals as goal

-- a list that a struct lent ends as what stands behind it
ends_as : {A : Type 0} {x y z : A} → y ≡ z → x ≡ y → x ≡ z
ends_as e f = f ∙ e

pub returns-then-not-fits_from : goal.returns-then-not-fits_from
returns-then-not-fits_from g c =
    let e = sym c.if-not-fits_from.ensures in
    record { value = sym (pick_false _ _ _ e); numbers_after = sym (pick_false _ _ _ e); integers_after = sym (pick_false _ _ _ e) }

pub returns : goal.returns
returns g c =
    let e = sym c.if-not-fits_from.ensures in
    let d = c.args.done in
    let a = c.tell.ensures in
    let b = c.tell_labels.ensures in
    let back : to_z w64 (of_z w64 c.integer.result) ≡ c.integer.result = search rules in
    let told = same_report _ _ c.first-first.ensures
    (a.numbers_after ∙ ap (λ (l : List ℕ). sets c.args.numbers.now (4 * c.args.n) l) c.numbers.ensures)
    (a.integers_after ∙ ap (λ (z : ℤ). sets c.args.integers.now c.args.n (z ∷ [])) (back ∙ c.integer.ensures)) in
    let y = step_told g.Q.Numbered.number d.outcome d.state d.clock d.count d.labels.now c.labels_told-many.ensures a.many told b.told in
    let v : c.tell_labels.new.self.many ≡ c.args.n + 1 + min d.count 64 = omega (arith, a.many, b.many, c.labels_told-many.ensures) in
    record {
      value = v ∙ sym (pick_true _ _ _ e);
      numbers_after = ends_as (y.numbers_after ∙ sym (pick_true _ _ _ e)) (search rules);
      integers_after = ends_as (y.integers_after ∙ sym (pick_true _ _ _ e)) (search rules);
    }
