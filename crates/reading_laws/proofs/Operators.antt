-- Laws of strings and of `~` in a row. Assumes nothing.
use mathlib.Core.Path.{◌≡◌, refl, sym, ap, ◌∙◌}
use mathlib.Core.List.{List}
use mathlib.Core.Logic.{◌⊎◌, ⊎_elim}
use Prim.Native.Nat.{ℕ, zero, suc, ◌+◌, ◌-◌, ◌<◌, ◌≤◌}
use native.Mathlib.Omega.{arith}
use lib.ListN.{length}
use borrow.Author.Tests.{eq-eqb, ne_eqb, lt-ltb, le-ltb}
use Rattle.laws.proofs.Choice.{pick_true, pick_false}
use Rattle.tokens.specs.Tokens.{between}
use Rattle.contract.specs.Table.{not_kind, string_kind}
use Rattle.entries.specs.Draft.{Draft, note, counted, mention, number_in, put}
use Rattle.reading_laws.specs.Walk.{Walk, draft, counting, nodes, negations, next_of, inner_start, inner_end, string_leaf, nots}
use Rattle.reading_laws.specs.Walk.{Cursor}

-- ---- strings

inner_taken : (s : List ℕ) (c : Cursor) → c.start < c.end → (inner_start s c ≡ c.start + 1) × (inner_end s c ≡ c.end - 1)
inner_taken s c h = (pick_true _ _ _ (lt-ltb _ _ h), pick_true _ _ _ (lt-ltb _ _ h))

inner_left : (s : List ℕ) (c : Cursor) → c.end ≤ c.start → (inner_start s c ≡ c.start) × (inner_end s c ≡ c.end)
inner_left s c h = (pick_false _ _ _ (le-ltb _ _ h), pick_false _ _ _ (le-ltb _ _ h))

-- inside the quotes, as the code reckons it
pub inner : (s : List ℕ) (c : Cursor) (a e : ℕ)
    → ((c.start < c.end) × (a ≡ c.start + 1) × (e ≡ c.end - 1)) ⊎ ((c.end ≤ c.start) × (a ≡ c.start) × (e ≡ c.end))
    → (a ≡ inner_start s c) × (e ≡ inner_end s c)
inner s c a e h =
    ⊎_elim
    (λ l. let i = inner_taken s c l.0 in (l.1 ∙ sym i.0, l.2 ∙ sym i.1))
    (λ l. let i = inner_left s c l.0 in (l.1 ∙ sym i.0, l.2 ∙ sym i.1))
    h

pub stringed : (s : List ℕ) (c : Cursor) (t n : List ℕ) (a e : ℕ) → (a ≡ inner_start s c) × (e ≡ inner_end s c)
    → (n1 : List ℕ) → n1 ≡ counted 9 c.start n
    → (x : ℕ) (t2 n2 : List ℕ) → x ≡ number_in s n1 6 (between s a e) → draft t2 n2 ≡ mention s 6 a e c.start (draft t n1)
    → (b : ℕ) → b ≡ note n2 14
    → (t3 n3 : List ℕ) → draft t3 n3 ≡ put string_kind x b (draft t2 n2) → draft t3 n3 ≡ string_leaf s c (draft t n)
unfolding string_leaf
stringed s c t n a e ae n1 n1-is x t2 n2 x-is mentioned b b-is t3 n3 is =
    let q : draft t2 n2 ≡ mention s 6 (inner_start s c) (inner_end s c) c.start (counting 9 c.start (draft t n)) =
    mentioned ∙ (λ i. mention s 6 (ae.0 i) (ae.1 i) c.start (draft t (n1-is i))) in
    let y : x ≡ number_in s (counted 9 c.start n) 6 (between s (inner_start s c) (inner_end s c)) = x-is ∙ (λ i. number_in s (n1-is i) 6 (between s (ae.0 i) (ae.1 i))) in
    let m : b ≡ nodes (mention s 6 (inner_start s c) (inner_end s c) c.start (counting 9 c.start (draft t n))) = b-is ∙ (λ i. nodes (q i)) in
    is ∙ (λ i. put string_kind (y i) (m i) (q i))

-- ---- `~` in a row

pub negated : (l before : ℕ) (t n t' n' : List ℕ) → 0 < l → draft t' n' ≡ put not_kind 0 before (draft t n)
    → negations (l - 1) before (draft t' n') ≡ negations l before (draft t n)
unfolding negations
negated zero before t n t' n' h e = absurd (omega arith)
negated (suc m) before t n t' n' h e =
    let g : suc m - 1 ≡ m = omega arith in λ i. negations (g i) before (e i)

pub negated_all : (l before : ℕ) (p : Draft) → l ≤ 0 → negations l before p ≡ p
unfolding negations
negated_all zero before p h = refl
negated_all (suc m) before p h = absurd (omega arith)

-- what is left of them equals all of them
abbrev pub NotsLeft : List ℕ → List ℕ → Cursor → List ℕ → Cursor → ℕ → Type 0
NotsLeft s n₀ c₀ n c m =
    (t : List ℕ) (go : ℕ → Cursor → Draft → Walk) → nots s (length s) 0 c₀ (draft t n₀) go ≡ nots s (length s - m) m c (draft t n) go

pub nots_begin : (s n : List ℕ) (c : Cursor) → NotsLeft s n c n c 0
nots_begin s n c t go = let f : length s ≡ length s - 0 = omega arith in ap (λ (x : ℕ). nots s x 0 c (draft t n) go) f

nots_on : (s : List ℕ) (f m : ℕ) (c : Cursor) (p : Draft) (go : ℕ → Cursor → Draft → Walk) (k : ℕ) → f ≡ suc k → c.kind ≡ 36
    → nots s f m c p go ≡ nots s k (m + 1) (next_of s c) (counting 9 c.start p) go
unfolding nots
nots_on s f m c p go k e h = ap (λ (x : ℕ). nots s x m c p go) e ∙ pick_true _ _ _ (eq-eqb _ _ h)

nots_off : (s : List ℕ) (f m : ℕ) (c : Cursor) (p : Draft) (go : ℕ → Cursor → Draft → Walk) → (c.kind ≡ 36 → ⊥) → nots s f m c p go ≡ go m c p
unfolding nots
nots_off s zero m c p go h = refl
nots_off s (suc f) m c p go h = pick_false _ _ _ (ne_eqb _ _ h)

nots_none : (s : List ℕ) (f m : ℕ) (c : Cursor) (p : Draft) (go : ℕ → Cursor → Draft → Walk) → f ≡ 0 → nots s f m c p go ≡ go m c p
unfolding nots
nots_none s f m c p go e = ap (λ (x : ℕ). nots s x m c p go) e

module _ (s n₀ : List ℕ) (c₀ : Cursor) (n : List ℕ) (c : Cursor) (m : ℕ) (left : NotsLeft s n₀ c₀ n c m) where
  pub nots_turn : m < length s → c.kind ≡ 36 → (n' : List ℕ) → n' ≡ counted 9 c.start n → (d : Cursor) → d ≡ next_of s c → NotsLeft s n₀ c₀ n' d (m + 1)
  nots_turn h k n' n-is d d-is t go =
      let f : length s - m ≡ suc (length s - (m + 1)) = omega arith in
      left t go ∙ nots_on s (length s - m) m c (draft t n) go (length s - (m + 1)) f k
      ∙ sym (λ i. nots s (length s - (m + 1)) (m + 1) (d-is i) (draft t (n-is i)) go)

  pub nots_stop : (c.kind ≡ 36 → ⊥) → (t : List ℕ) (go : ℕ → Cursor → Draft → Walk) → nots s (length s) 0 c₀ (draft t n₀) go ≡ go m c (draft t n)
  nots_stop h t go = left t go ∙ nots_off s (length s - m) m c (draft t n) go h

  pub nots_end : length s ≤ m → (t : List ℕ) (go : ℕ → Cursor → Draft → Walk) → nots s (length s) 0 c₀ (draft t n₀) go ≡ go m c (draft t n)
  nots_end h t go = let f : length s - m ≡ 0 = omega arith in left t go ∙ nots_none s (length s - m) m c (draft t n) go f
