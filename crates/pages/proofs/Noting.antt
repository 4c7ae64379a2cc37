-- One result line gathered, as the code goes about it. Assumes nothing.
use mathlib.Core.Logic.{◌⊎◌, inl, inr}
use mathlib.Core.Path.{◌≡◌, refl, sym, ap, subst, ◌∙◌}
use mathlib.Core.Bool.{Bool, true, false, ◌&&◌}
use mathlib.Core.List.{List, [], ◌∷◌}
use Prim.Native.Nat.{ℕ, ◌+◌, ◌*◌, ◌<◌, ◌≤◌}
use lib.ListN.{set}
use lib.Seq.{sets}
use lib.IntN.{ℤ}
use lib.Dec.{eqb, ltb}
use borrow.Author.Tests.{eq-eqb, ne_eqb, lt-ltb, le-ltb}
use Rattle.laws.proofs.Choice.{pick_true, pick_false}
use Rattle.laws.proofs.Truths.{both_true, and_false}
use Rattle.results.specs.declared.Report.{Report}
use Rattle.results.specs.declared.Report.TheVariants.{Ruled, Sent, Held, Refused, Failed}
use Rattle.std.specs.Prelude.{Option, Some, None}
use Rattle.std.specs.Option.{option_map_or}
use Rattle.pages.specs.Gathering.{joins, gathered, numbers_after, values_after}
use Rattle.pages.specs.declared.Gathered.{Gathered}

-- what is gathered after a result line, and the two lists
abbrev pub Noted : Gathered → Report → List ℕ → List ℤ → Gathered → List ℕ → List ℤ → Type 0
Noted g r ns zs h ms ys = record { value : h ≡ gathered g r; entries_after : ms ≡ numbers_after g r ns; values_after : ys ≡ values_after g r zs }

report_noted : (g : Gathered) (ns : List ℕ) (zs : List ℤ) {h : Gathered} {ms : List ℕ} {ys : List ℤ} {r s : Report} → r ≡ s → Noted g r ns zs h ms ys → Noted g s ns zs h ms ys
report_noted g ns zs {h} {ms} {ys} e n = subst (λ (r : Report). Noted g r ns zs h ms ys) e n

-- the same by a line's numbers
abbrev pub NotedAt : Gathered → Option Report → List ℕ → List ℤ → Gathered → List ℕ → List ℤ → Type 0
NotedAt g r ns zs h ms ys =
    record {
      value : h ≡ option_map_or (gathered g) r g;
      entries_after : ms ≡ option_map_or (λ (l : Report). numbers_after g l ns) r ns;
      values_after : ys ≡ option_map_or (λ (l : Report). values_after g l zs) r zs;
    }

pub noted_as : (g : Gathered) (ns : List ℕ) (zs : List ℤ) {h : Gathered} {ms : List ℕ} {ys : List ℤ} {r : Report} {s : Option Report} → Some r ≡ s → Noted g r ns zs h ms ys → NotedAt g s ns zs h ms ys
noted_as g ns zs {h} {ms} {ys} {r} e n =
    subst (λ (s : Option Report). NotedAt g s ns zs h ms ys) e record { value = n.value; entries_after = n.entries_after; values_after = n.values_after }

-- numbers that tell no line
pub none_noted : (g : Gathered) (ns : List ℕ) (zs : List ℤ) {s : Option Report} → None ≡ s → NotedAt g s ns zs g ns zs
none_noted g ns zs e = subst (λ (s : Option Report). NotedAt g s ns zs g ns zs) e record { value = refl; entries_after = refl; values_after = refl }

-- ---- labels

module _ (g : Gathered) (kind party : ℕ) (z : ℤ) (group : ℕ) (ns : List ℕ) (zs : List ℤ) where
  joins_not : joins g (Sent kind party z group) ≡ false → Noted g (Sent kind party z group) ns zs g ns zs
  unfolding gathered numbers_after values_after
  joins_not j = record { value = sym (pick_false _ _ _ j); entries_after = sym (pick_false _ _ _ j); values_after = sym (pick_false _ _ _ j) }

  -- no payout, or the page is full
  pub not_joined : (kind ≡ 3 → ⊥) ⊎ ((kind ≡ 3) × (60 ≤ g.count)) → Noted g (Sent kind party z group) ns zs g ns zs
  unfolding joins
  not_joined (inl h) = joins_not (ap (λ (b : Bool). b && ltb g.count 60) (ne_eqb kind 3 h))
  not_joined (inr h) = joins_not (ap (λ (b : Bool). eqb kind 3 && b) (le-ltb g.count 60 h.1) ∙ and_false (eqb kind 3))

  -- x is the value as its bits give it
  pub noted : {ms : List ℕ} {ys : List ℤ} {x : ℤ} → x ≡ z → kind ≡ 3 → g.count < 60 → ms ≡ sets ns (5 * g.count) (3 ∷ party ∷ g.rule ∷ g.clock ∷ group ∷ [])
      → ys ≡ set zs g.count x → Noted g (Sent kind party z group) ns zs (record { rule = g.rule; clock = g.clock; count = g.count + 1 }) ms ys
  unfolding gathered numbers_after values_after joins
  noted q e l n v =
      let j : eqb kind 3 && ltb g.count 60 ≡ true = both_true (eqb kind 3) (ltb g.count 60) (eq-eqb kind 3 e) (lt-ltb g.count 60 l) in
      record { value = sym (pick_true _ _ _ j); entries_after = n ∙ sym (pick_true _ _ _ j); values_after = v ∙ ap (set zs g.count) q ∙ sym (pick_true _ _ _ j) }

-- ---- other result lines

-- a line that notes nothing: what an asset holds, a refusal, a failed firing
pub others_note : (g : Gathered) (ns : List ℕ) (zs : List ℤ) {r : Report} → ((a : ℕ) × (n : ℕ) × (r ≡ Held a n)) ⊎ (((n : ℕ) × (r ≡ Refused n)) ⊎ ((n : ℕ) × (r ≡ Failed n))) → Noted g r ns zs g ns zs
unfolding gathered numbers_after values_after
others_note g ns zs (inl h) = report_noted g ns zs (sym h.2) record { value = refl; entries_after = refl; values_after = refl }
others_note g ns zs (inr (inl h)) = report_noted g ns zs (sym h.1) record { value = refl; entries_after = refl; values_after = refl }
others_note g ns zs (inr (inr h)) = report_noted g ns zs (sym h.1) record { value = refl; entries_after = refl; values_after = refl }

pub ruled_notes : (g : Gathered) (a b t : ℕ) (ns : List ℕ) (zs : List ℤ) → Noted g (Ruled a b t) ns zs (record { rule = a; clock = t; count = g.count }) ns zs
unfolding gathered numbers_after values_after
ruled_notes g a b t ns zs = record { value = refl; entries_after = refl; values_after = refl }
