-- The answers of the pass's functions as steps of its model. Assumes nothing.
use mathlib.Core.Path.{◌≡◌, refl, sym, ap, subst, ◌∙◌}
use mathlib.Core.List.{List}
use Prim.Native.Nat.{ℕ}
use native.Mathlib.Omega.{arith}
use Rattle.entries.specs.Draft.{Draft}
use Rattle.reading_laws.specs.Walk.{Walk, on, stop, AgreesWith, draft, follow, after}
use Rattle.reading_laws.specs.Walk.{Cursor}
use Rattle.reading_laws.specs.Walk.{Step}
use Rattle.reading_laws.specs.Walk.{On, Stop}

-- a callee went on
pub went : (w : Walk) (r : Step) (t n : List ℕ) (d : Cursor) → AgreesWith w r t n → r ≡ On d → w ≡ on d (draft t n)
unfolding AgreesWith
went (on c p) r t n d h e =
    let h₀ : r ≡ On c = h.0 in
    let f : c ≡ d = cc in
    λ i. on (f i) (record { table = sym h.1.0 i; notes = sym h.1.1 i })
went (stop q o) r t n d h e = let z : ◌≡◌ {A = ℕ} 0 1 = cc in absurd (omega arith)

-- a callee stopped
pub halted : (w : Walk) (r : Step) (t n : List ℕ) (q o : ℕ) → AgreesWith w r t n → r ≡ Stop q o → w ≡ stop q o
unfolding AgreesWith
halted (on c p) r t n q o h e =
    let h₀ : r ≡ On c = h.0 in
    let z : ◌≡◌ {A = ℕ} 0 1 = cc in absurd (omega arith)
halted (stop x y) r t n q o h e = let f : x ≡ q = cc in let g : y ≡ o = cc in λ i. stop (f i) (g i)

pub leaves_same : (w v : Walk) (r : Step) (t n : List ℕ) → w ≡ v → AgreesWith w r t n → AgreesWith v r t n
leaves_same w v r t n e h = subst (λ (x : Walk). AgreesWith x r t n) e h

-- the other way round
pub is_on : (w : Walk) (r : Step) (t n : List ℕ) (d : Cursor) → w ≡ on d (draft t n) → r ≡ On d → AgreesWith w r t n
unfolding AgreesWith
is_on w r t n d e f = subst (λ (x : Walk). AgreesWith x r t n) (sym e) (f, (refl, refl))

pub is_stop_lem : (w : Walk) (r : Step) (t n : List ℕ) (q o : ℕ) → w ≡ stop q o → r ≡ Stop q o → AgreesWith w r t n
unfolding AgreesWith
is_stop_lem w r t n q o e f = subst (λ (x : Walk). AgreesWith x r t n) (sym e) f

-- an answer by its parts
pub goes : (w : Walk) (r : Step) (d e : Cursor) (q : Draft) (t n : List ℕ) → w ≡ on d q → r ≡ On e → e ≡ d → t ≡ q.table → n ≡ q.notes → AgreesWith w r t n
goes w r d e q t n h f g a b = is_on w r t n d (h ∙ (λ i. on d (record { table = sym a i; notes = sym b i }))) (f ∙ ap On g)

-- a callee's refusal handed on
pub handed : (w v : Walk) (r : Step) (t n x y : List ℕ) (q o : ℕ) → AgreesWith w r t n → r ≡ Stop q o → (w ≡ stop q o → v ≡ stop q o) → AgreesWith v r x y
handed w v r t n x y q o h e f = is_stop_lem v r x y q o (f (halted w r t n q o h e)) e

-- an answer that is a step alone
pub steps_on : (s r : Step) (t n : List ℕ) → r ≡ s → AgreesWith (after s (λ d. on d (draft t n))) r t n
unfolding AgreesWith
steps_on (On d) r t n e = (e, (refl, refl))
steps_on (Stop q o) r t n e = e

-- what comes after
pub follow_on : (w : Walk) (d : Cursor) (p : Draft) (f : Cursor → Draft → Walk) → w ≡ on d p → follow w f ≡ f d p
follow_on w d p f e = ap (λ (x : Walk). follow x f) e

pub follow_stop : (w : Walk) (q o : ℕ) (f : Cursor → Draft → Walk) → w ≡ stop q o → follow w f ≡ stop q o
follow_stop w q o f e = ap (λ (x : Walk). follow x f) e

pub after_on : (s : Step) (d : Cursor) (f : Cursor → Walk) → s ≡ On d → after s f ≡ f d
after_on s d f e = ap (λ (x : Step). after x f) e

pub after_stop : (s : Step) (q o : ℕ) (f : Cursor → Walk) → s ≡ Stop q o → after s f ≡ stop q o
after_stop s q o f e = ap (λ (x : Step). after x f) e
