-- Each act of the pass leaves notes of one item more. Assumes nothing.
use mathlib.Core.Path.{◌≡◌, refl, sym, ap, subst, ◌∙◌}
use mathlib.Core.Bool.{Bool, true, false, not}
use mathlib.Core.List.{List, [], ◌∷◌}
use Prim.Native.Nat.{ℕ, suc, ◌+◌, ◌<◌, ◌≤◌, min}
use native.Mathlib.Omega.{arith}
use lib.ListN.{length, set}
use lib.Seq.{get_or-set_other}
use lib.Dec.{eqb, ltb}
use borrow.Author.Tests.{eqb-true, eqb-false, eq-eqb, ne_eqb, ltb-true, ltb-false, lt-ltb, le-ltb}
use Rattle.laws.specs.Choice.{pick}
use Rattle.laws.proofs.Choice.{by_cases, pick_true, pick_false}
use Rattle.contract.specs.Limits.{max_nodes}
use Rattle.entries.specs.declared.Known.{Known}
use Rattle.entries.specs.Draft.{Draft, note, found, counted, limit, among_in, wanted, put, party_used}
use Rattle.reading.specs.Syntax.{Span}
use Rattle.reading.specs.Items.{Item, uses, counts, opens}
use Rattle.reading.specs.Rules.{most, is_among, word, known, count, headers, is_known, Finding, fine, breaks, lesser, or_breaks, judge}
use Rattle.reading_laws.proofs.Masks.{or_false}
use Rattle.reading_laws.proofs.NotesSay.{Noted}
use Rattle.reading_laws.proofs.NotedFound.{lesser_fine, finding_same, found_finding, found_unless, found_where}
use Rattle.reading_laws.proofs.NotesInvariant.{Agree, agree_refl, agree_middle, agree_end, agree_found, agree_either, HoldsOf, holds_agree, holds_same, tally_holds, noted_holds, holds_noted}
use Rattle.reading_laws.proofs.NotedFind.{among_noted}

pub unless_fine : (f : Finding) (b : Bool) (q o : ℕ) → b ≡ true → lesser f (or_breaks b q o) ≡ f
unless_fine f b q o e = ap (lesser f) (pick_true b fine (breaks q o) e) ∙ lesser_fine f

pub unless_breaks : (f : Finding) (b : Bool) (q o : ℕ) → b ≡ false → lesser f (or_breaks b q o) ≡ lesser f (breaks q o)
unless_breaks f b q o e = ap (lesser f) (pick_false b fine (breaks q o) e)

-- a choice between two that are as good
pub each_way : (k j : ℕ) (P : Type 0) → (k ≡ j → P) → ((k ≡ j → ⊥) → P) → P
each_way k j P f g = go (eqb k j) refl
  where
    go : (t : Bool) → eqb k j ≡ t → P
    go true e = f (eqb-true k j e)
    go false e = g (eqb-false k j e)

module _ (s : List ℕ) where
  long_notes : (b : List Item) (f : Finding) (n : List ℕ) → Noted s b f n → 13 < length n
  long_notes b f n h = let e : length n ≡ 606 = h.size in omega arith

  -- ---- words that are not held

  pub agreed_noted : (b : List Item) (f : Finding) (n m : List ℕ) → Noted s b f n → Agree n m → note m 12 ≡ note n 12 → note m 13 ≡ note n 13 → Noted s b f m
  agreed_noted b f n m h a q p = holds_noted s b f m (holds_agree s n m a (noted_holds s b f n h)) (finding_same n m q p ∙ h.finding)

  pub middle_noted : (b : List Item) (f : Finding) (n : List ℕ) (i v : ℕ) → Noted s b f n → 11 ≤ i → i < 16 → (12 ≡ i → ⊥) → (13 ≡ i → ⊥) → Noted s b f (set n i v)
  middle_noted b f n i v h l m d e =
      agreed_noted b f n (set n i v) h (agree_middle n i v l m) (get_or-set_other n i 12 v 0 d) (get_or-set_other n i 13 v 0 e)

  pub end_noted : (b : List Item) (f : Finding) (n : List ℕ) (i v : ℕ) → Noted s b f n → 604 ≤ i → Noted s b f (set n i v)
  end_noted b f n i v h l =
      agreed_noted b f n (set n i v) h (agree_end n i v l)
      (get_or-set_other n i 12 v 0 (λ q. absurd (omega arith))) (get_or-set_other n i 13 v 0 (λ q. absurd (omega arith)))

  pub put_noted : (kind argument before : ℕ) (b : List Item) (f : Finding) (p : Draft) → Noted s b f p.notes → Noted s b f (put kind argument before p).notes
  unfolding put
  put_noted kind argument before b f p h =
      by_cases (λ (r : Draft). Noted s b f r.notes) (ltb (note p.notes 14) max_nodes) _ p
      (λ _. middle_noted b f p.notes 14 (note p.notes 14 + 1) h (omega arith) (omega arith) (λ q. absurd (omega arith)) (λ q. absurd (omega arith)))
      (λ _. h)

  -- ---- findings

  -- notes with one more finding where a test holds, after an item that brings nothing else
  module _ (b : List Item) (f : Finding) (n : List ℕ) (h : Noted s b f n) where
    pub where_noted : (i : Item) → HoldsOf s (i ∷ b) n → (q o : ℕ) (t : Bool) → judge s b i ≡ or_breaks (not t) (suc q) o
        → Noted s (i ∷ b) (lesser f (judge s b i)) (pick t (found (suc q) o n) n)
    where_noted i g q o t e =
        holds_noted s (i ∷ b) (lesser f (judge s b i)) (pick t (found (suc q) o n) n)
        (holds_agree s n (pick t (found (suc q) o n) n) (agree_either t n (found (suc q) o n) n (agree_found (suc q) o n) (agree_refl n)) g)
        (found_where q o n (long_notes b f n h) t ∙ (λ x. lesser (h.finding x) (sym e x)))

    pub unless_noted : (i : Item) → HoldsOf s (i ∷ b) n → (q o : ℕ) (t : Bool) → judge s b i ≡ or_breaks t (suc q) o
        → Noted s (i ∷ b) (lesser f (judge s b i)) (pick t n (found (suc q) o n))
    unless_noted i g q o t e =
        holds_noted s (i ∷ b) (lesser f (judge s b i)) (pick t n (found (suc q) o n))
        (holds_agree s n (pick t n (found (suc q) o n)) (agree_either t n n (found (suc q) o n) (agree_refl n) (agree_found (suc q) o n)) g)
        (found_unless q o n (long_notes b f n h) t ∙ (λ x. lesser (h.finding x) (sym e x)))

    -- ---- used names

    pub wanted_noted : (ks : List ℕ) (x : Span) (r : Known) → not (eqb r.kind 0) ≡ is_known s ks b (word s x)
        → Noted s (uses ks x ∷ b) (lesser f (judge s b (uses ks x))) (wanted r x.start n)
    unfolding wanted judge known count headers
    wanted_noted ks x r e =
        where_noted (uses ks x) (noted_holds s b f n h) 12 x.start (eqb r.kind 0) (ap (λ (t : Bool). or_breaks t 13 x.start) (sym e))

    -- the same, with the finding at another place
    pub wanted_at : (ks : List ℕ) (x : Span) (r : Known) (o : ℕ) → not (eqb r.kind 0) ≡ is_known s ks b (word s x)
        → Noted s (uses ks x ∷ b) (lesser f (or_breaks (is_known s ks b (word s x)) 13 o)) (wanted r o n)
    unfolding wanted known count headers
    wanted_at ks x r o e =
        let t = eqb r.kind 0 in
        holds_noted s (uses ks x ∷ b) (lesser f (or_breaks (is_known s ks b (word s x)) 13 o)) (pick t (found 13 o n) n)
        (holds_agree s n (pick t (found 13 o n) n) (agree_either t n (found 13 o n) n (agree_found 13 o n) (agree_refl n)) (noted_holds s b f n h))
        (found_where 12 o n (long_notes b f n h) t ∙ (λ y. lesser (h.finding y) (or_breaks (e y) 13 o)))

    -- a party or a field by itself
    pub alone_noted : (k : ℕ) → k < 7 → (x : Span)
        → Noted s (uses (k ∷ []) x ∷ b) (lesser f (judge s b (uses (k ∷ []) x))) (pick (among_in s n k (word s x)) n (found 13 x.start n))
    unfolding judge known count headers is_known
    alone_noted k l x =
        unless_noted (uses (k ∷ []) x) (noted_holds s b f n h) 12 x.start (among_in s n k (word s x))
        (ap (λ (t : Bool). or_breaks t 13 x.start) (or_false (is_among (word s x) (known s k b)) ∙ sym (among_noted s b f n h k l (word s x))))

    pub party_noted : (x : Span) → Noted s (uses (0 ∷ []) x ∷ b) (lesser f (judge s b (uses (0 ∷ []) x))) (party_used s x.start x.end n)
    unfolding party_used
    party_noted x = alone_noted 0 (omega arith) x

    -- ---- counts

    pub counted_noted : (k o : ℕ) → 7 ≤ k → k < 10 → Noted s (counts k o ∷ b) (lesser f (judge s b (counts k o))) (counted k o n)
    unfolding counted judge known count headers
    counted_noted k o l m =
        let c : note n k ≡ min (count k b) (limit k) = h.tally k l m in
        let g = noted_holds s b f n h in
        by_cases (Noted s (counts k o ∷ b) (lesser f (judge s b (counts k o)))) (ltb (note n k) (limit k)) (set n k (note n k + 1)) (found 11 o n)
        (λ e.
        let y : note n k < limit k = ltb-true _ _ e in
        let z : count k b < limit k = omega (arith, c, y) in
        holds_noted s (counts k o ∷ b) _ (set n k (note n k + 1))
        (tally_holds s n k (note n k + 1) g l m (λ j. count j (counts k o ∷ b))
        (subst (λ (v : ℕ). note n k + 1 ≡ min v (limit k)) (sym (pick_true (eqb k k) (suc (count k b)) (count k b) (eq-eqb k k refl))) (omega (arith, c, z)))
        (λ j d. pick_false (eqb k j) (suc (count j b)) (count j b) (ne_eqb k j (λ q. d (sym q)))))
        (finding_same n (set n k (note n k + 1)) (get_or-set_other n k 12 _ 0 (λ q. absurd (omega arith))) (get_or-set_other n k 13 _ 0 (λ q. absurd (omega arith)))
        ∙ h.finding ∙ sym (unless_fine f (ltb (count k b) (most k)) 11 o (lt-ltb _ _ z))))
        (λ e.
        let y : limit k ≤ note n k = ltb-false _ _ e in
        let z : limit k ≤ count k b = omega (arith, c, y) in
        holds_noted s (counts k o ∷ b) _ (found 11 o n)
        (holds_agree s n (found 11 o n) (agree_found 11 o n)
        (holds_same s n g (λ j. known s j b) (λ j. count j (counts k o ∷ b)) (headers s b) (λ j t. refl)
        (λ j t u. each_way k j (min (pick (eqb k j) (suc (count j b)) (count j b)) (limit j) ≡ min (count j b) (limit j))
        (λ q. subst (λ (i : ℕ). min (pick (eqb k i) (suc (count i b)) (count i b)) (limit i) ≡ min (count i b) (limit i)) q
        (ap (λ (v : ℕ). min v (limit k)) (pick_true (eqb k k) (suc (count k b)) (count k b) (eq-eqb k k refl)) ∙ omega (arith, z)))
        (λ d. ap (λ (v : ℕ). min v (limit j)) (pick_false (eqb k j) (suc (count j b)) (count j b) (ne_eqb k j d))))
        refl))
        (found_finding 10 o n (long_notes b f n h) ∙ ap (λ (x : Finding). lesser x (breaks 11 o)) h.finding
        ∙ sym (unless_breaks f (ltb (count k b) (most k)) 11 o (le-ltb _ _ z))))

    -- a body or a handler starts
    pub opens_noted : Noted s (opens ∷ b) (lesser f (judge s b opens)) (set n 8 0)
    unfolding judge known count headers
    opens_noted =
        holds_noted s (opens ∷ b) (lesser f fine) (set n 8 0)
        (tally_holds s n 8 0 (noted_holds s b f n h) (omega arith) (omega arith) (λ j. count j (opens ∷ b))
        (ap (λ (v : ℕ). min v 64) (sym (pick_true (eqb 8 8) 0 (count 8 b) refl)))
        (λ j d. pick_false (eqb j 8) 0 (count j b) (ne_eqb j 8 d)))
        (finding_same n (set n 8 0) (get_or-set_other n 8 12 0 0 (λ q. absurd (omega arith))) (get_or-set_other n 8 13 0 0 (λ q. absurd (omega arith)))
        ∙ h.finding ∙ sym (lesser_fine f))
