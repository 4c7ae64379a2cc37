-- `step_reports::Teller::tell_labels` meets its contract. Assumes nothing.
use borrow.Author.Rules.{rules}
use mathlib.Core.Path.{◌≡◌, refl, ap, ◌∙◌}
use mathlib.Core.List.{[], ◌∷◌}
use Prim.Native.Nat.{ℕ, ◌+◌, ◌*◌}
use native.Mathlib.Omega.{arith}
use lib.ListN.{get_or}
use lib.Seq.{sets}
use lib.IntN.{pos}
use mir.Syntax.{w64}
use mir.Val.{to_z, of_z}
use Rattle.step_reports.specs.Reports.{sent}
use Rattle.step_reports.proofs.Reports.{told_none, numbers_kept, integers_kept, label_told}
use Rattle.step_reports.proofs.Teller.tell_labels.Goals as goal

pub loop-i-init : goal.loop-i-init
unfolding sent
loop-i-init c = record { within = omega arith; told = told_none; many = omega arith; same_lists = record { numbers = refl; integers = refl } }

pub tell-requires : goal.tell-requires
tell-requires c =
    let l = c.loop-i.invariant in
    omega (arith, l.many, numbers_kept l.told, integers_kept l.told)

pub loop-i-preserved : goal.loop-i-preserved
loop-i-preserved c =
    let l = c.loop-i in
    let v = l.invariant in
    let w = c.args.labels.now in
    let e : to_z w64 (of_z w64 (get_or w (4 * l.i + 2) (pos 0))) ≡ get_or w (4 * l.i + 2) (pos 0) = search rules in
    let r = c.tell.ensures in record {
      within = omega arith;
      told = label_told w l.i v.told c.word-kind.ensures c.word-party.ensures c.word-group.ensures
          (r.numbers_after ∙ ap (λ (k : ℕ). sets l.self.numbers.now (4 * k) (2 ∷ c.word-kind.result ∷ c.word-party.result ∷ c.word-group.result ∷ [])) v.many) e
          (r.integers_after ∙ ap (λ (k : ℕ). sets l.self.integers.now k (to_z w64 (of_z w64 (get_or w (4 * l.i + 2) (pos 0))) ∷ [])) v.many);
      many = omega (arith, r.many, v.many);
      same_lists = record { numbers = r.same_lists.numbers ∙ v.same_lists.numbers; integers = r.same_lists.integers ∙ v.same_lists.integers };
    }
