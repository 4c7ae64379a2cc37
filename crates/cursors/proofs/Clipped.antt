-- Clipping changes nothing where the text is short; what a parser leaves, told by its walk. Assumes nothing.
use mathlib.Core.Path.{◌≡◌, refl, sym, ap, subst, ◌∙◌}
use mathlib.Core.Bool.{Bool, true, false}
use mathlib.Core.List.{List, []}
use Prim.Native.Nat.{ℕ, ◌%◌, ◌<◌, ◌≤◌}
use native.Mathlib.Omega.{arith}
use lib.ListN.{length}
use lib.Dec.{eqb}
use borrow.Author.Tests.{le-leb, lt-leb}
use Rattle.laws.specs.Choice.{pick}
use Rattle.laws.proofs.Choice.{pick_true, pick_false}
use Rattle.words.specs.Words.{at_sign, close_paren}
use Rattle.tokens.specs.Tokens.{number, token_at, name as nameKind}
use Rattle.tokens.specs.declared.Token.{Token}
use Rattle.tokens.specs.declared.Lexed.{Lexed}
use Rattle.tokens.specs.declared.Lexed.TheVariants.{Found, Refused, End}
use Rattle.tokens.proofs.Facts.{progress, refused_place}
use Rattle.contract.specs.Encode.{zeros}
use Rattle.entries.specs.Draft.{Draft}
use Rattle.reading_laws.specs.Walk.{Cursor, Step, On, Stop, Walk, on, stop, AgreesWith, cursor_of, cursor_at, next_of, token, name_here, state_at, closed_by}
use Rattle.cursors.specs.Packed.{kind_in, start_in, end_in, at_in, question_in, is_stop, digits_at, cursor_in, step_in}
use Rattle.cursors.specs.Packed.{clipped, clipped_step, cleared, left_after, entered, step_after, draft_after}
use Rattle.cursors.proofs.Values.{value_is}
use Rattle.cursors.proofs.Packs.{step_in_on, step_in_stop, step_in_any, cursor_in_of}

low : (x : ℕ) → x < 32768 → x % 32768 ≡ x
low x h = omega arith

-- ---- the cursor in any number

abbrev bare : ℕ → ℕ
bare c = c % 2305843009213693952

pub going_same : (s : List ℕ) (r c : ℕ) → r ≡ bare c → cursor_in s r ≡ cursor_in s c
unfolding cursor_in
going_same s r c h =
    ap (cursor_in s) h
    ∙ cursor_in_of s (bare c) (kind_in c) (question_in c) (start_in c) (end_in c) (at_in c)
    (record { kind = omega arith; question = omega arith; start = omega arith; end = omega arith; place = omega arith })

-- ---- clipping

-- a token and a refusal lie in the text, which is short
found_small : (s : List ℕ) (at : ℕ) (t : Token) → token_at s at ≡ Found t → length s ≤ 16384 → (t.start < 32768) × (t.end < 32768)
found_small s at t h n = let p = progress s at t h in (omega (arith, p.1, p.2), omega (arith, p.2))

refused_small : (s : List ℕ) (at q o : ℕ) → token_at s at ≡ Refused q o → length s ≤ 16384 → o < 32768
refused_small s at q o h n = omega (arith, (refused_place s at q o h).1)

clipped_same : (s : List ℕ) (at : ℕ) → length s ≤ 16384 → at < 32768 → clipped s (cursor_at s at) ≡ cursor_at s at
unfolding clipped cursor_of pick
clipped_same s at n h = go (token_at s at) refl
  where
    go : (l : Lexed) → token_at s at ≡ l → clipped s (cursor_of s at l) ≡ cursor_of s at l
    go (Found t) e =
        let small = found_small s at t e n in
        let start = low t.start small.0 in
        let end = low t.end small.1 in
        let value : pick (eqb t.kind number) (digits_at s (t.start % 32768)) 0 ≡ t.value =
        ap (λ (x : ℕ). pick (eqb t.kind number) (digits_at s x) 0) start ∙ sym (value_is s at t e) in
        λ i. record { at = low at h i; kind = t.kind; question = 9; start = start i; end = end i; value = value i }
    go (Refused q o) e =
        let place = low o (refused_small s at q o e n) in
        λ i. record { at = low at h i; kind = 203; question = q; start = place i; end = place i; value = 0 }
    go End e =
        let place : length s % 32768 ≡ length s = low (length s) (omega (arith, n)) in
        λ i. record { at = low at h i; kind = 204; question = 9; start = place i; end = place i; value = 0 }

-- the next token's cursor, from where one ends
pub lexed : (s : List ℕ) (r e c : ℕ) → length s ≤ 16384 → e ≡ end_in c → cursor_in s r ≡ clipped s (cursor_at s e) → cursor_in s r ≡ cursor_at s e
lexed s r e c n h k = k ∙ clipped_same s e n (omega (arith, h))

-- the same, past the token at c
pub passed : (s : List ℕ) (r c : ℕ) → length s ≤ 16384 → cursor_in s r ≡ clipped s (next_of s (cursor_in s c)) → cursor_in s r ≡ next_of s (cursor_in s c)
unfolding cursor_in
passed s r c n k = k ∙ clipped_same s (end_in c) n (omega arith)

-- the first token's cursor
pub lexed_first : (s : List ℕ) (r : ℕ) → length s ≤ 16384 → cursor_in s r ≡ clipped s (cursor_at s 0) → cursor_in s r ≡ cursor_at s 0
lexed_first s r n k = k ∙ clipped_same s 0 n (omega arith)

pub pick_clipped : (s : List ℕ) (b : Bool) (x y : Step) → clipped_step s (pick b x y) ≡ pick b (clipped_step s x) (clipped_step s y)
unfolding pick
pick_clipped s true x y = refl
pick_clipped s false x y = refl

pub start_clipped : (c : ℕ) → start_in c ≡ start_in c % 32768
start_clipped c = omega arith

pub name_clipped : (s : List ℕ) (c : Cursor) → name_here s (clipped s c) ≡ clipped_step s (name_here s c)
unfolding name_here clipped clipped_step
name_clipped s c = sym (pick_clipped s (eqb c.kind nameKind) (On c) (Stop c.question c.start))

-- steps from a cursor
token_same : (s : List ℕ) (k c : ℕ) → length s ≤ 16384 → clipped_step s (token s k (cursor_in s c)) ≡ token s k (cursor_in s c)
unfolding token cursor_in clipped_step
token_same s k c n =
    pick_clipped s (eqb (kind_in c) k) (On (cursor_at s (end_in c))) (Stop (question_in c) (start_in c))
    ∙ (λ i. pick (eqb (kind_in c) k) (On (clipped_same s (end_in c) n (omega arith) i)) (Stop (question_in c) (sym (start_clipped c) i)))

pub tokened : (s : List ℕ) (r k c : ℕ) → length s ≤ 16384 → step_in s r ≡ clipped_step s (token s k (cursor_in s c)) → step_in s r ≡ token s k (cursor_in s c)
tokened s r k c n h = h ∙ token_same s k c n

name_same : (s : List ℕ) (at : ℕ) → length s ≤ 16384 → at < 32768 → clipped_step s (name_here s (cursor_at s at)) ≡ name_here s (cursor_at s at)
name_same s at n h = sym (name_clipped s (cursor_at s at)) ∙ ap (name_here s) (clipped_same s at n h)

state_same : (s : List ℕ) (c : ℕ) → length s ≤ 16384 → clipped_step s (state_at s (cursor_in s c)) ≡ state_at s (cursor_in s c)
unfolding state_at cursor_in clipped_step
state_same s c n =
    pick_clipped s (eqb (kind_in c) at_sign) (name_here s (cursor_at s (end_in c))) (Stop (question_in c) (start_in c))
    ∙ (λ i. pick (eqb (kind_in c) at_sign) (name_same s (end_in c) n (omega arith) i) (Stop (question_in c) (sym (start_clipped c) i)))

pub stated : (s : List ℕ) (r c : ℕ) → length s ≤ 16384 → step_in s r ≡ clipped_step s (state_at s (cursor_in s c)) → step_in s r ≡ state_at s (cursor_in s c)
stated s r c n h = h ∙ state_same s c n

close_same : (s : List ℕ) (r : ℕ) (b : Bool) → is_stop r ≡ b → length s ≤ 16384 → clipped_step s (closed_by s (step_in s r)) ≡ closed_by s (step_in s r)
unfolding closed_by clipped_step
close_same s r true e n =
    let f = step_in_stop s r e in
    ap (λ (x : Step). clipped_step s (closed_by s x)) f ∙ (λ i. Stop (kind_in r) (sym (start_clipped r) i)) ∙ sym (ap (closed_by s) f)
close_same s r false e n =
    let f = step_in_on s r e in
    ap (λ (x : Step). clipped_step s (closed_by s x)) f ∙ token_same s close_paren r n ∙ sym (ap (closed_by s) f)

pub closed : (s : List ℕ) (a r : ℕ) → length s ≤ 16384 → step_in s a ≡ clipped_step s (closed_by s (step_in s r)) → step_in s a ≡ closed_by s (step_in s r)
closed s a r n h = h ∙ close_same s r (is_stop r) refl n

-- a refusal at a cursor
pub stopped : (r q p c : ℕ) → p ≡ start_in c → step_in [] r ≡ Stop q (p % 32768) → step_in [] r ≡ Stop q p
stopped r q p c h k = k ∙ ap (Stop q) (low p (omega (arith, h)))

-- ---- what a parser leaves

not_both : {A : Type 0} (s : List ℕ) (r : ℕ) (c : Cursor) → step_in s r ≡ On c → is_stop r ≡ true → A
not_both s r c h e =
    let f = step_in_stop s r e in
    let z : ◌≡◌ {A = ℕ} 0 1 = cc in absurd (omega arith)

not_on : {A : Type 0} (s : List ℕ) (r q o : ℕ) → step_in s r ≡ Stop q o → is_stop r ≡ false → A
not_on s r q o h e =
    let f = step_in_on s r e in
    let z : ◌≡◌ {A = ℕ} 0 1 = cc in absurd (omega arith)

module _ (s : List ℕ) (n : length s ≤ 16384) (w : Walk) where
  entered_same : entered s w ≡ w
  unfolding entered
  entered_same = pick_true _ _ _ (le-leb (length s) 16384 n)

-- what a parser promises of its walk over the lists of d, but for the lists themselves
abbrev pub Left : List ℕ → Walk → ℕ → Draft → Draft → Type 0
Left s w r d e = (step_in s r ≡ step_after w) × (e ≡ draft_after d w)

parts :
    (s : List ℕ) (w : Walk) (r a : ℕ) (d d₁ d₂ : Draft) (b : Bool) → is_stop r ≡ b → AgreesWith w (step_in s r) d₁.table d₁.notes
    → length d₁.table ≡ length d.table → length d₁.notes ≡ length d.notes → a ≡ r → d₂ ≡ left_after r d₁ → Left s w a d d₂
unfolding AgreesWith step_after draft_after left_after
parts s (on c p) r a d d₁ d₂ true f h lt lm e l = not_both s r c h.0 f
parts s (on c p) r a d d₁ d₂ false f h lt lm e l =
    (ap (step_in s) e ∙ h.0, l ∙ pick_false _ _ _ f ∙ (λ i. record { table = h.1.0 i; notes = h.1.1 i }))
parts s (stop q o) r a d d₁ d₂ false f h lt lm e l = not_on s r q o h f
parts s (stop q o) r a d d₁ d₂ true f h lt lm e l =
    (ap (step_in s) e ∙ h, l ∙ pick_true _ _ _ f ∙ (λ i. record { table = zeros (lt i); notes = zeros (lm i) }))

-- a parser that begins at the cursor in a number
pub leaves :
    (s : List ℕ) (f : Cursor → Walk) (c g r a : ℕ) (d d₁ d₂ : Draft) → length s ≤ 16384 → g ≡ bare c
    → AgreesWith (f (cursor_in s g)) (step_in s r) d₁.table d₁.notes → length d₁.table ≡ length d.table → length d₁.notes ≡ length d.notes
    → a ≡ r → d₂ ≡ left_after r d₁ → Left s (entered s (f (cursor_in s c))) a d d₂
leaves s f c g r a d d₁ d₂ n k h lt lm e l =
    let w : Walk = f (cursor_in s c) in
    let h' : AgreesWith w (step_in s r) d₁.table d₁.notes =
    subst (λ (x : Cursor). AgreesWith (f x) (step_in s r) d₁.table d₁.notes) (going_same s g c k) h in
    subst (λ (v : Walk). Left s v a d d₂) (sym (entered_same s n w)) (parts s w r a d d₁ d₂ (is_stop r) refl h' lt lm e l)

-- and where it is too long
pub refuses :
    (s : List ℕ) (w : Walk) (a : ℕ) (d d₂ : Draft) → 16384 < length s → step_in [] a ≡ Stop 1 0 → is_stop a ≡ true
    → d₂ ≡ cleared d → Left s (entered s w) a d d₂
unfolding entered step_after draft_after
refuses s w a d d₂ n h f l =
    let v : entered s w ≡ stop 1 0 = pick_false _ _ _ (lt-leb (length s) 16384 n) in
    (step_in_any s [] a f ∙ h ∙ sym (ap step_after v), l ∙ sym (ap (draft_after d) v))

by_walk : (s : List ℕ) (w : Walk) (r : ℕ) (d e : Draft) → Left s w r d e → AgreesWith w (step_in s r) e.table e.notes
unfolding AgreesWith step_after draft_after
by_walk s (on c p) r d e h = (h.0, (ap (λ (x : Draft). x.table) h.1, ap (λ (x : Draft). x.notes) h.1))
by_walk s (stop q o) r d e h = h.0

-- what a caller knows of a parser: its walk
pub agrees :
    (s : List ℕ) (w : Walk) (r : ℕ) (d e : Draft) → length s ≤ 16384 → step_in s r ≡ step_after (entered s w) → e ≡ draft_after d (entered s w)
    → AgreesWith w (step_in s r) e.table e.notes
agrees s w r d e n h l = by_walk s w r d e (subst (λ (v : Walk). Left s v r d e) (entered_same s n w) (h, l))
