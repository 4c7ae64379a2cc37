-- Arguments are 64-bit integers because of their types: whatever a caller hands to `steps::call`, `steps::agree` and `steps::jump`, `within64`
-- holds of the request that they make of it. What a caller hands is `on_entry`, which the function's contract asks for: a token for each
-- lifetime, and what the parameters' types own. Assumes nothing: the model and its rules are those that the contracts' theorems are stated
-- over.
use mathlib.Core.Path.{◌≡◌, refl, ap, ◌∙◌}
use mathlib.Core.Bool.{true}
use mathlib.Core.List.{List, [], ◌∷◌}
use Prim.Native.Nat.{ℕ, zero, suc, ◌+◌, ◌/◌, ◌^◌}
use lib.ListN.{length, get_or, take, drop, take-append-drop}
use lib.IntN.{ℤ}
use lib.Signed.{mag}
use borrow.Author.Tests.{lt-ltb}
use seplogic.Ra.Ura.{Ura}
use mir.Syntax.{Lifetime, named, w64}
use mir.Val.{Val}
use base.Logic.{SProp, ent, sep, wand, guard, guard_i}
use base.Fml.{Lft, Share, Fml, ftrue, fsep, flft}
use prog.Model.{Model}
use types.Logic.{Logic, sem}
use contract.Lifetimes.{Lfts, Shares}
use contract.Monad.{fact_use}
use types.Kit.{‵, raw, ◌⊛◌, given, later, ◌$◌, ◌∵◌, !, qed, move, use1, split, apply, assume, frame, learn, await, updating, now as at_last, check, fsplit, fjoin, done}
use denote.RattleType.{owns}
use denote.Shadow.{shadow, shows_shadow}
use denote.Memory.{part_of}
use denote.Copied.{sint_Copied}
use denote.Ref.{Bor, MutBor}
use denote.Slice.{ShrSlice}
use denote.Index.{row, looks_slice, shuts_slice}
use denote.Builtin.{i64}
use denote.Signature.{types_at}
use denote.Triple.Entry.{Vals, on_entry}
use Rattle.laws.specs.Lists.{every}
use Rattle.laws.proofs.Choice.{by_cases}
use Rattle.laws.proofs.Truths.{both_true}
use Rattle.laws.proofs.Members.{every_first, every_second}
use Rattle.numbers.specs.Numbers.{within}
use Rattle.state.specs.declared.State.{State}
use Rattle.statements.specs.declared.Label.{Label}
use Rattle.machine.specs.Steps.{Request, agreement, call, jump, jumped, step}
use Rattle.agreements.specs.Agreement.{Part as PartSaid, parts_in}
use Rattle.steps.specs.contracts.call as code_call
use Rattle.steps.specs.contracts.agree as code_agree
use Rattle.steps.specs.contracts.jump as code-jump
use Rattle.steps.specs.Left.{agree_of, call_of}
use Rattle.history.specs.Histories.{answer_to, within64}

-- ---- the requests that `steps::call`, `steps::agree` and `steps::jump` make of what they are handed

abbrev pub calling : List ℕ → List ℕ → List ℤ → List ℤ → Request
calling caller function values assets = call (record { caller = caller; function = function; values = values; assets = assets })

abbrev pub agreeing : List ℕ → List ℕ → List ℕ → List ℤ → Request
agreeing line parts spans values = agreement (parts_in line (length parts / 4) parts spans values)

-- their contracts speak of the answer to that request
pub call_answers : (w : List ℕ) (s : State) (labels : List Label) (caller function : List ℕ) (values assets : List ℤ)
    → call_of w (length labels) s caller function values assets ≡ answer_to w s (record { request = calling caller function values assets; slice = labels })
unfolding answer_to
call_answers w s labels caller function values assets = refl

pub agree_answers : (w : List ℕ) (s : State) (labels : List Label) (line parts spans : List ℕ) (values : List ℤ)
    → agree_of w (length labels) s line parts spans values ≡ answer_to w s (record { request = agreeing line parts spans values; slice = labels })
unfolding answer_to
agree_answers w s labels line parts spans values = refl

pub jump_answers : (w : List ℕ) (s : State) (labels : List Label) (to : ℤ)
    → step w (length labels) s (λ c. jumped c s to) ≡ answer_to w s (record { request = jump to; slice = labels })
unfolding answer_to
jump_answers w s labels to = refl

-- ---- integers

-- integers that lie side by side
row_within : (q : Share) (zs : List ℤ) (b o : ℕ) → shadow (row i64 q zs b o) → every within zs ≡ true
unfolding part_of every
row_within q [] b o h = refl
row_within q (z ∷ zs) b o h = both_true (within z) (every within zs) (lt-ltb (mag z) (2 ^ 63) h.0.1.1.1) (row_within q zs b (o + 8) h.1)

-- the values of each part are some of the values given
parts_within : (line : List ℕ) (n : ℕ) (parts spans : List ℕ) (values : List ℤ) → every within values ≡ true
    → every (λ p. every within p.values) (parts_in line n parts spans values) ≡ true
unfolding parts_in every
parts_within line zero parts spans values e = by_cases (λ (ps : List PartSaid). every (λ p. every within p.values) ps ≡ true) _ _ _ (λ _. refl) (λ _. refl)
parts_within line (suc n) parts spans values e =
    let k = get_or parts 3 0 in
    let whole = ap (every within) (take-append-drop k values) ∙ e in
    both_true _ _ (every_first within (take k values) (drop k values) whole)
    (parts_within line n (drop 4 parts) _ (drop k values) (every_second within (take k values) (drop k values) whole))

-- ---- what is held shows a fact, and stays

-- a token for each lifetime
abbrev tokens : (n : ℕ) → Lfts n → Shares n → Fml
tokens zero κs qs = ftrue
tokens (suc n) κs qs = fsep (flft κs.0 qs.0) (tokens n κs.1 qs.1)

module _ {M : Type 1} {𝓤 : Ura M} (𝓛 : Logic 𝓤) where
  open 𝓛 use {H}

  abbrev pub Shown : SProp 𝓤 → Type 0 → Type 1
  Shown P φ = ent 𝓤 P (H.⇛ (guard 𝓤 φ P))

  abbrev ⟦◌⟧ : Fml → SProp 𝓤
  ⟦ P ⟧ = sem 𝓛 P

  -- Q is taken out of P, and can be put back
  record Part (P Q : Fml) : Type 1 where
    out : ent 𝓤 ⟦ P ⟧ (sep 𝓤 ⟦ Q ⟧ (wand 𝓤 ⟦ Q ⟧ ⟦ P ⟧))

module _ {M : Type 1} {𝓤 : Ura M} (𝓛 : Logic 𝓤) where
  first : {P Q : Fml} → Part 𝓛 (fsep P Q) P
  first {P} {Q} = record { out = qed 𝓛 (‵ P ∷ ‵ Q ∷ []) ∵ frame ! $ assume ! (‵ P) $ done ! }

  -- a part of the second
  deeper : {P Q R : Fml} → Part 𝓛 Q R → Part 𝓛 (fsep P Q) R
  deeper {P} {Q} {R} q =
      record {
        out = qed 𝓛 (‵ P ∷ ‵ Q ∷ []) ∵ move ! (1 ∷ []) $ use1 𝓛 (‵ R ⊛ raw (wand 𝓤 (sem 𝓛 R) (sem 𝓛 Q))) q.out $ split ! $ frame ! $
            assume ! (‵ R) $ apply ! {i = ‵ R} {B = sem 𝓛 Q} $ move ! (1 ∷ 0 ∷ []) $ done !;
      }

  -- a part of each of two
  pair : {P Q R S : Fml} → Part 𝓛 P R → Part 𝓛 Q S → Part 𝓛 (fsep P Q) (fsep R S)
  pair {P} {Q} {R} {S} p q =
      record {
        out = qed 𝓛 (‵ P ∷ ‵ Q ∷ []) ∵ use1 𝓛 (‵ R ⊛ raw (wand 𝓤 (sem 𝓛 R) (sem 𝓛 P))) p.out $ split ! $ move ! (2 ∷ []) $
            use1 𝓛 (‵ S ⊛ raw (wand 𝓤 (sem 𝓛 S) (sem 𝓛 Q))) q.out $ split ! $ move ! (2 ∷ 0 ∷ []) $ fjoin ! $ frame ! $
            assume ! (‵ (fsep R S)) $ fsplit ! $ move ! (0 ∷ 3 ∷ []) $ apply ! {i = ‵ R} {B = sem 𝓛 P} $ move ! (1 ∷ 2 ∷ []) $
            apply ! {i = ‵ S} {B = sem 𝓛 Q} $ move ! (1 ∷ 0 ∷ []) $ done !;
      }

  -- what follows from what a part shows, and from what two do
  shown_by : (P : Fml) {Q : Fml} (φ χ : Type 0) → (φ → χ) → Part 𝓛 P Q → Shown 𝓛 (sem 𝓛 Q) φ → Shown 𝓛 (sem 𝓛 P) χ
  shown_by P {Q} φ χ f p s =
      qed 𝓛 (‵ P ∷ []) ∵ updating ! $ use1 𝓛 (‵ Q ⊛ raw (wand 𝓤 (sem 𝓛 Q) (sem 𝓛 P))) p.out $ split ! $ use1 𝓛 (later (given φ (‵ Q))) s $ await ! tt $
      learn ! (λ e. apply ! {i = ‵ Q} {B = sem 𝓛 P} $ at_last ! $ check ! (f e) $ done !)

  both_shown : (P : Fml) (φ ψ χ : Type 0) → (φ → ψ → χ) → Shown 𝓛 (sem 𝓛 P) φ → Shown 𝓛 (sem 𝓛 P) ψ → Shown 𝓛 (sem 𝓛 P) χ
  both_shown P φ ψ χ f s t =
      qed 𝓛 (‵ P ∷ []) ∵ updating ! $ use1 𝓛 (later (given φ (‵ P))) s $ await ! tt $
      learn ! (λ e. use1 𝓛 (later (given ψ (‵ P))) t $ await ! tt $ learn ! (λ d. at_last ! $ check ! (f e d) $ done !))

  -- a lent slice of i64, with its lifetime's token, shows that its integers are of 64 bits
  pub lent_within : (ℓ : Lifetime) (κ : Lft) (q : Share) (x : Bor (List ℤ)) (vs : List Val)
      → Shown 𝓛 (sem 𝓛 (fsep (flft κ q) ((ShrSlice ℓ κ i64).own_val x vs))) (every within x.now ≡ true)
  lent_within ℓ κ q x vs =
      let b = x.ref_ptr.0 in
      let o = x.ref_ptr.1 in
      qed 𝓛 (‵ (flft κ q) ∷ ‵ ((ShrSlice ℓ κ i64).own_val x vs) ∷ []) ∵ updating ! $ move ! (1 ∷ []) $ fsplit ! $ move ! (1 ∷ 2 ∷ []) $
      looks_slice ! tt i64 (sint_Copied 𝓛 w64) x.now b o (λ q'.
      use1 𝓛 (given (every within x.now ≡ true) (‵ (row i64 q' x.now b o)))
      (fact_use 𝓤 (shadow (row i64 q' x.now b o)) (shows_shadow 𝓛 (row i64 q' x.now b o)) (λ h. guard_i 𝓤 _ _ (row_within q' x.now b o h))) $
      learn ! (λ e. shuts_slice ! tt i64 q' x.now b o $ move ! (2 ∷ 1 ∷ []) $ fjoin ! $ move ! (1 ∷ 0 ∷ []) $ at_last ! $ check ! e $ done !))

  -- an i64 shows that it is of 64 bits
  pub held_within : (z : ℤ) (vs : List Val) → Shown 𝓛 (sem 𝓛 (i64.own_val z vs)) (within z ≡ true)
  held_within z vs =
      qed 𝓛 (‵ (i64.own_val z vs) ∷ []) ∵ updating ! $ use1 𝓛 (given (within z ≡ true) (‵ (i64.own_val z vs)))
      (fact_use 𝓤 (shadow (i64.own_val z vs)) (shows_shadow 𝓛 (i64.own_val z vs)) (λ h. guard_i 𝓤 _ _ (lt-ltb (mag z) (2 ^ 63) h.1))) $
      learn ! (λ e. at_last ! $ check ! e $ done !)

-- ---- what a caller hands

module _ {M : Type 1} {𝓤 : Ura M} (𝓛 : Logic 𝓤) (𝓜 : Model 𝓤 𝓛.H) (κs : Lfts 6) (qs : Shares 6) (table : Bor (List ℕ)) (s : State) (labels : MutBor (List Label)) where
  third : {P Q R S T : Fml} → Part 𝓛 S T → Part 𝓛 (fsep P (fsep Q (fsep R S))) T
  third p = deeper 𝓛 (deeper 𝓛 (deeper 𝓛 p))

  pub call_within64 : (caller function : Bor (List ℕ)) (values assets : Bor (List ℤ)) (vss : Vals code_call.signature κs)
      → Shown 𝓛 (on_entry 𝓛 code_call.signature κs qs (table, (s, (caller, (function, (values, (assets, (labels, tt))))))) vss)
      (within64 (calling caller.now function.now values.now assets.now) ≡ true)
  unfolding within64
  call_within64 caller function values assets vss =
      let P = fsep (tokens 6 κs qs) (owns (types_at (code_call.signature).params κs) (table, (s, (caller, (function, (values, (assets, (labels, tt))))))) vss) in
      let φ : Type 0 = every within values.now ≡ true in
      let ψ : Type 0 = every within assets.now ≡ true in
      both_shown 𝓛 P φ ψ _ (both_true (every within values.now) (every within assets.now))
      (shown_by 𝓛 P φ φ (λ e. e) (pair 𝓛 (third (first 𝓛)) (third (deeper 𝓛 (first 𝓛))))
      (lent_within 𝓛 (named 3) κs.1.1.1.0 qs.1.1.1.0 values vss.1.1.1.1.0))
      (shown_by 𝓛 P ψ ψ (λ e. e) (pair 𝓛 (third (deeper 𝓛 (first 𝓛))) (third (deeper 𝓛 (deeper 𝓛 (first 𝓛)))))
      (lent_within 𝓛 (named 4) κs.1.1.1.1.0 qs.1.1.1.1.0 assets vss.1.1.1.1.1.0))

  pub agree_within64 : (line parts spans : Bor (List ℕ)) (values : Bor (List ℤ)) (vss : Vals code_agree.signature κs)
      → Shown 𝓛 (on_entry 𝓛 code_agree.signature κs qs (table, (s, (line, (parts, (spans, (values, (labels, tt))))))) vss)
      (within64 (agreeing line.now parts.now spans.now values.now) ≡ true)
  unfolding within64
  agree_within64 line parts spans values vss =
      let P = fsep (tokens 6 κs qs) (owns (types_at (code_agree.signature).params κs) (table, (s, (line, (parts, (spans, (values, (labels, tt))))))) vss) in
      shown_by 𝓛 P (every within values.now ≡ true) _ (parts_within line.now (length parts.now / 4) parts.now spans.now values.now)
      (pair 𝓛 (third (deeper 𝓛 (first 𝓛))) (third (deeper 𝓛 (deeper 𝓛 (first 𝓛)))))
      (lent_within 𝓛 (named 4) κs.1.1.1.1.0 qs.1.1.1.1.0 values vss.1.1.1.1.1.0)

pub jump_within64 : {M : Type 1} {𝓤 : Ura M} (𝓛 : Logic 𝓤) (𝓜 : Model 𝓤 𝓛.H) (κs : Lfts 2) (qs : Shares 2) (table : Bor (List ℕ)) (s : State) (labels : MutBor (List Label)) (to : ℤ) (vss : Vals code-jump.signature κs)
    → Shown 𝓛 (on_entry 𝓛 code-jump.signature κs qs (table, (s, (to, (labels, tt)))) vss) (within64 (jump to) ≡ true)
unfolding within64
jump_within64 𝓛 𝓜 κs qs table s labels to vss =
    let P = fsep (tokens 2 κs qs) (owns (types_at (code-jump.signature).params κs) (table, (s, (to, (labels, tt)))) vss) in
    shown_by 𝓛 P (within to ≡ true) _ (λ e. e) (deeper 𝓛 (deeper 𝓛 (deeper 𝓛 (first 𝓛)))) (held_within 𝓛 to vss.1.1.0)
