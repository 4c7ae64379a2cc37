-- The work that statements begin with in a good state, and the state that they leave. Assumes nothing.
use mathlib.Core.Path.{◌≡◌, refl, sym, subst, ◌∙◌}
use mathlib.Core.Bool.{true}
use mathlib.Core.List.{List, [], ◌∷◌, ◌++◌}
use Prim.Native.Nat.{ℕ, zero, suc, ◌^◌, ◌<◌, ◌≤◌}
use native.Mathlib.Omega.{arith}
use lib.ListN.{length, get_or, take, length-append, length-take, get_or-append}
use lib.Seq.{get_or-take}
use lib.Dec.{ltb}
use lib.IntN.{ℤ, pos, negsuc, nat_abs}
use lib.Signed.{le_z}
use borrow.Author.Tests.{ltb-true, lt-ltb, le-leb, eq-eqb, ltb-false}
use Rattle.laws.proofs.Choice.{by_cases, pick_true, true_false}
use Rattle.numbers.specs.Numbers.{within}
use Rattle.contract.specs.Limits.{top, max_assets, max_parameters}
use Rattle.contract.specs.Tree.{Contract}
use Rattle.contract.specs.Fits.{scope_of}
use Rattle.laws.proofs.Members.{every_at, every_head, every_tail, repeated_at, repeated_length}
use Rattle.laws.specs.Lists.{every, repeated}
use Rattle.state.specs.declared.State.{State}
use Rattle.state.specs.declared.Pending.{Pending}
use Rattle.state.specs.States.{max_pending, pending_ok, with_pending}
use Rattle.state.proofs.Each.{Each}
use Rattle.statements.specs.Running.{Work}
use Rattle.holdings.specs.Holdings.{amounts}
use Rattle.machine.specs.Steps.{begun, ended}
use Rattle.history.proofs.ContractBounds.{anywhere}
use Rattle.history.proofs.ValuesInRange.{Fields}
use Rattle.history.proofs.Ranges.{Right}
use Rattle.history.proofs.GoodState.{Assets, Good, asset_most, asset_unused, agreed_used, with_events}

-- ---- what holds of each element, and past the end

at_append : {A : Type 0} (P : A → Type 0) (d : A) (a b : List A) → ((i : ℕ) → P (get_or a i d)) → ((i : ℕ) → P (get_or b i d)) → (i : ℕ) → P (get_or (a ++ b) i d)
at_append P d [] b f g i = g i
at_append P d (x ∷ a) b f g zero = f 0
at_append P d (x ∷ a) b f g (suc i) = at_append P d a b (λ k. f (suc k)) g i

at_take : {A : Type 0} (P : A → Type 0) (d : A) (n : ℕ) (l : List A) → P d → ((i : ℕ) → P (get_or l i d)) → (i : ℕ) → P (get_or (take n l) i d)
at_take P d zero l z f i = z
at_take P d (suc n) [] z f i = z
at_take P d (suc n) (x ∷ l) z f zero = f 0
at_take P d (suc n) (x ∷ l) z f (suc i) = at_take P d n l z (λ k. f (suc k)) i

-- 64-bit integers, and amounts
pub values_in : (v : List ℤ) → every within v ≡ true → (i : ℕ) → within (get_or v i (pos 0)) ≡ true
values_in v e = anywhere (λ z. within z ≡ true) (pos 0) v refl (λ i h. every_at within v e i h (pos 0))

amount_most : (z : ℤ) → within z ≡ true → le_z (pos 0) z ≡ true → nat_abs z ≤ top
amount_most (pos n) e h = omega (arith, ltb-true n (2 ^ 63) e)
amount_most (negsuc n) e h = true_false (sym h)

pub amounts_most : (v : List ℤ) → every within v ≡ true → every (le_z (pos 0)) v ≡ true → (i : ℕ) → get_or (amounts v) i 0 ≤ top
unfolding amounts
amounts_most [] e h i = omega arith
amounts_most (z ∷ v) e h zero = amount_most z (every_head within z v e) (every_head (le_z (pos 0)) z v h)
amounts_most (z ∷ v) e h (suc i) = amounts_most v (every_tail within z v e) (every_tail (le_z (pos 0)) z v h) i

-- ---- the work that statements begin with, and the state that it leaves

module _ {c : Contract} {s : State} (g : Good c s) (a : s.agreed ≡ true) (v p : ℕ) where
  pub begun_right : (ps : List ℕ) → ((i : ℕ) → get_or ps i 0 ≤ top) → Right (scope_of c v p) (begun s ps)
  unfolding scope_of
  begun_right ps h =
      let l = take max_assets s.assets in
      let r = take max_parameters (ps ++ repeated max_parameters 0) in
      let n : length l ≡ max_assets = length-take max_assets s.assets ∙ omega (arith, g.assets.assets_length) in
      let few : (i : ℕ) → get_or (repeated max_parameters 0) i 0 ≤ top = λ i. omega (arith, repeated_at {A = ℕ} max_parameters 0 i) in
      record {
        fields = subst (λ (u : ℕ). Fields (length c.strings) u s.kinds s.numbers s.texts) (agreed_used g a (length c.fields)) g.fields;
        amounts =
            record {
              holdings_length =
                  omega (arith, length-append l r, length-take max_parameters (ps ++ repeated max_parameters 0), length-append ps (repeated max_parameters 0), repeated_length {A = ℕ} max_parameters 0);
              most =
                  at_append (λ (x : ℕ). x ≤ top) 0 l r (at_take (λ (x : ℕ). x ≤ top) 0 max_assets s.assets (omega arith) (asset_most g.assets))
                  (at_take (λ (x : ℕ). x ≤ top) 0 max_parameters (ps ++ repeated max_parameters 0) (omega arith) (at_append (λ (x : ℕ). x ≤ top) 0 ps (repeated max_parameters 0) h few));
              unused = λ i k m.
                  get_or-append l r 0 i (omega arith)
                  ∙ get_or-take max_assets s.assets i 0 m
                  ∙ asset_unused g.assets i (omega (arith, agreed_used g a (length c.assets))) m;
            };
      }

  pub ended_good : (w : Work) → Right (scope_of c v p) w → length c.assets ≤ max_assets → (q : ℕ) → q < length c.states → (ps : List Pending) → length ps ≤ max_pending
      → Each (λ x. pending_ok c s.clock x ≡ true) ps → Good c (ended s w q ps)
  unfolding scope_of with_pending
  ended_good w o few q h ps l e =
      let n = length c.assets in
      record {
        clock = g.clock;
        name = pick_true _ _ _ a ∙ lt-ltb q (length c.states) h;
        fields = subst (λ (u : ℕ). Fields (length c.strings) u w.kinds w.numbers w.texts) (sym (agreed_used g a (length c.fields))) o.fields;
        assets =
            subst (λ (u : ℕ). Assets u (take max_assets w.holdings)) (sym (agreed_used g a n))
            (record {
              assets_length = length-take max_assets w.holdings ∙ omega (arith, o.amounts.holdings_length);
              slots = λ i m.
                  let z : get_or (take max_assets w.holdings) i 0 ≡ get_or w.holdings i 0 = get_or-take max_assets w.holdings i 0 m in
                  by_cases (λ b. b ≡ true) (ltb i n) _ _
                  (λ _. le-leb (get_or (take max_assets w.holdings) i 0) top (omega (arith, o.amounts.most i)))
                  (λ k. eq-eqb (get_or (take max_assets w.holdings) i 0) 0 (z ∙ o.amounts.unused i (ltb-false i n k) m));
            });
        events = with_events c s ps l e;
      }
