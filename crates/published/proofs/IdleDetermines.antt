-- The idle configuration tells the state: two states within their ranges that have the same are the same. Assumes nothing.
use mathlib.Core.Path.{◌≡◌, refl, sym, ap, ◌∙◌}
use mathlib.Core.Bool.{Bool, true, false, ◌&&◌}
use mathlib.Core.List.{List}
use Prim.Native.Nat.{ℕ, ◌<◌}
use native.Mathlib.Omega.{arith}
use lib.ListN.{length, get_or}
use lib.Seq.{take_all, get_or-take, ext_get_or}
use lib.Dec.{eqb, ltb}
use borrow.Author.Tests.{eqb-true, ltb-true}
use Rattle.laws.proofs.Choice.{pick_false}
use Rattle.contract.specs.Limits.{max_assets}
use Rattle.contract.specs.Tree.{Contract}
use Rattle.laws.proofs.Truths.{both_left, both_right}
use Rattle.evaluation.specs.Memory.{Memory}
use Rattle.state.specs.declared.State.{State}
use Rattle.state.specs.declared.Pending.{Pending}
use Rattle.state.specs.States.{max_pending, blank, is_blank}
use Rattle.history.proofs.GoodState.{Good, live_length}
use Rattle.published.specs.Published.{Configuration, runtime, Phase, phase_of, idle}

abbrev phase : Configuration → Phase
phase (runtime Φ m r Ψ) = Φ

abbrev memory : Configuration → Memory
memory (runtime Φ m r Ψ) = m

abbrev events : Configuration → List Pending
events (runtime Φ m r Ψ) = Ψ

blank_is : (p : Pending) → is_blank p ≡ true → p ≡ blank
unfolding is_blank
blank_is p e =
    let a = eqb p.function 0 in
    let b = eqb p.event 0 in
    let d = eqb p.time 0 in
    let f = eqb-true p.function 0 (both_left a (b && d) e) in
    let j = eqb-true p.event 0 (both_left b d (both_right a (b && d) e)) in
    let t = eqb-true p.time 0 (both_right b d (both_right a (b && d) e)) in
    λ i. record { function = f i; event = j i; time = t i }

same_agreed : (a a' : Bool) (q q' : ℕ) → phase_of a q ≡ phase_of a' q' → a ≡ a'
same_agreed true true q q' e = refl
same_agreed true false q q' e = let z : ◌≡◌ {A = ℕ} 0 1 = cc in absurd (omega arith)
same_agreed false true q q' e = let z : ◌≡◌ {A = ℕ} 0 1 = cc in absurd (omega arith)
same_agreed false false q q' e = refl

-- the slots that are not in use are blank
unused_blank : {c : Contract} {s : State} → Good c s → (i : ℕ) → i < max_pending → ltb i s.pending ≡ false → get_or s.events i blank ≡ blank
unused_blank g i h e = blank_is _ (sym (pick_false _ _ _ e) ∙ g.events.slots i h)

module _ {c : Contract} {s s' : State} (g : Good c s) (g' : Good c s') (e : idle s ≡ idle s') where
  same_pending : s.pending ≡ s'.pending
  same_pending = sym (live_length g) ∙ ap (λ (C : Configuration). length (events C)) e ∙ live_length g'

  same_events : s.events ≡ s'.events
  same_events = ext_get_or blank s.events s'.events (g.events.events_length ∙ sym g'.events.events_length) (λ i h. go i h (ltb i s.pending) refl)
    where
      go : (i : ℕ) → i < length s.events → (b : Bool) → ltb i s.pending ≡ b → get_or s.events i blank ≡ get_or s'.events i blank
      go i h true q =
          let k : i < s.pending = ltb-true i s.pending q in
          let k' : i < s'.pending = omega (arith, same_pending) in
          sym (get_or-take s.pending s.events i blank k)
          ∙ ap (λ (C : Configuration). get_or (events C) i blank) e
          ∙ get_or-take s'.pending s'.events i blank k'
      go i h false q =
          let m : i < max_pending = omega (arith, g.events.events_length) in
          unused_blank g i m q ∙ sym (unused_blank g' i m (ap (ltb i) (sym same_pending) ∙ q))

  same_assets : s.assets ≡ s'.assets
  same_assets =
      sym (take_all max_assets s.assets (omega (arith, g.assets.assets_length)))
      ∙ ap (λ (C : Configuration). (memory C).holdings) e
      ∙ take_all max_assets s'.assets (omega (arith, g'.assets.assets_length))

  same_name : (a a' : Bool) → s.agreed ≡ a → s'.agreed ≡ a' → phase_of a s.state ≡ phase_of a' s'.state → s.state ≡ s'.state
  same_name true true q q' p = cc
  same_name true false q q' p = let z : ◌≡◌ {A = ℕ} 0 1 = cc in absurd (omega arith)
  same_name false true q q' p = let z : ◌≡◌ {A = ℕ} 0 1 = cc in absurd (omega arith)
  same_name false false q q' p =
      let z = eqb-true s.state 0 (both_left (eqb s.state 0) (eqb s.pending 0) (sym (pick_false _ _ _ q) ∙ g.name)) in
      let z' = eqb-true s'.state 0 (both_left (eqb s'.state 0) (eqb s'.pending 0) (sym (pick_false _ _ _ q') ∙ g'.name)) in
      z ∙ sym z'

  pub idle_tells : s ≡ s'
  idle_tells =
      let p = ap phase e in
      let a = same_agreed s.agreed s'.agreed s.state s'.state p in
      let n = same_name s.agreed s'.agreed refl refl p in
      let m = ap memory e in
      λ i. record {
        agreed = a i;
        state = n i;
        kinds = (m i).kinds;
        numbers = (m i).numbers;
        texts = (m i).texts;
        assets = same_assets i;
        clock = (m i).clock;
        pending = same_pending i;
        events = same_events i;
      }
