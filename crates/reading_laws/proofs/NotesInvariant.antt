-- Names, counts and functions as notes hold them, apart from the least finding. Assumes nothing.
use mathlib.Core.Path.{◌≡◌, refl, sym, ap, subst, ◌∙◌}
use mathlib.Core.Bool.{Bool, true, false, ◌&&◌}
use mathlib.Core.List.{List, [], ◌∷◌, ◌++◌}
use Prim.Native.Nat.{ℕ, zero, suc, ◌+◌, ◌*◌, ◌<◌, ◌≤◌, min}
use native.Mathlib.Omega.{arith}
use lib.ListN.{length, get_or, set, length-set, length-append, get_or-append}
use lib.Seq.{get_or-set_same, get_or-set_other, length-sets, get_or-append_seam}
use lib.Dec.{eqb, leb, ltb}
use borrow.Author.Tests.{eqb-true, eqb-false, ltb-true, ltb-false}
use Rattle.laws.specs.Choice.{pick}
use Rattle.laws.proofs.Choice.{by_cases}
use Rattle.tokens.specs.Tokens.{between}
use Rattle.contract.specs.Tree.{Word}
use Rattle.entries.specs.Draft.{note, found, limit, slot_of, mark_of, head_mark, slotted}
use Rattle.contract_laws.proofs.Inversions.{by_test}
use Rattle.reading.specs.Items.{Item, declares, mentions, uses, counts, opens, heads, closes}
use Rattle.reading.specs.Rules.{Header, known, count, headers, Finding}
use Rattle.reading_laws.proofs.Run.{finding_of}
use Rattle.reading_laws.proofs.NotesSay.{Slot, no_header, Noted}
use Rattle.accepted.proofs.Known.{known_few}

-- ---- slots

-- at k and at every other number
each : (k j : ℕ) (P : ℕ → Type 0) → P k → ((j ≡ k → ⊥) → P j) → P j
each k j P y f = by_test (eqb j k) (λ q. subst P (sym (eqb-true j k q)) y) (λ q. f (eqb-false j k q))

slot_next : (k : ℕ) → k < 7 → slot_of k + limit k ≡ slot_of (suc k)
slot_next zero h = refl
slot_next (suc zero) h = refl
slot_next (suc (suc zero)) h = refl
slot_next (suc (suc (suc zero))) h = refl
slot_next (suc (suc (suc (suc zero)))) h = refl
slot_next (suc (suc (suc (suc (suc zero))))) h = refl
slot_next (suc (suc (suc (suc (suc (suc zero)))))) h = refl
slot_next (suc (suc (suc (suc (suc (suc (suc k))))))) h = absurd (omega arith)

-- two numbers, in each order
pub in_order : (k j : ℕ) {X : Type 0} → (k < j → X) → (k ≡ j → X) → (j < k → X) → X
in_order k j {X} f g h = go (ltb k j) refl (eqb k j) refl
  where
    go : (t : Bool) → ltb k j ≡ t → (u : Bool) → eqb k j ≡ u → X
    go true e u q = f (ltb-true k j e)
    go false e true q = g (eqb-true k j q)
    go false e false q = h (last (ltb j k) refl)
      where
        last : (t : Bool) → ltb j k ≡ t → j < k
        last true z = ltb-true j k z
        last false z =
            let a : j ≤ k = ltb-false k j e in
            let b : k ≤ j = ltb-false j k z in
            absurd (eqb-false k j q (omega arith))

-- the slots of one kind end where a later kind's start, or before
pub slots_before : (k j : ℕ) → k < j → j < 8 → slot_of k + limit k ≤ slot_of j
slots_before k zero h b = absurd (omega arith)
slots_before k (suc j) h b =
    let n : slot_of j + limit j ≡ slot_of (suc j) = slot_next j (omega arith) in
    in_order k j
    (λ l. let r : slot_of k + limit k ≤ slot_of j = slots_before k j l (omega arith) in omega (arith, r, n))
    (λ e. subst (λ (i : ℕ). slot_of i + limit i ≤ slot_of (suc j)) (sym e) (omega (arith, n)))
    (λ l. absurd (omega arith))

-- slots of different kinds differ, and stand before those of functions
pub slots_differ : (k j i l : ℕ) → k < 7 → j < 7 → (j ≡ k → ⊥) → i < limit k → l < limit j → slot_of j + l ≡ slot_of k + i → ⊥
slots_differ k j i l a b d g h e =
    in_order k j
    (λ o. let r : slot_of k + limit k ≤ slot_of j = slots_before k j o (omega arith) in absurd (omega (arith, r, e, g)))
    (λ o. d (sym o))
    (λ o. let r : slot_of j + limit j ≤ slot_of k = slots_before j k o (omega arith) in absurd (omega (arith, r, e, h)))

pub slot_early : (k i : ℕ) → k < 7 → i < limit k → slot_of k + i < 132
slot_early k i a g = let r : slot_of k + limit k ≤ 132 = slots_before k 7 a (omega arith) in omega (arith, r, g)

-- ---- notes that agree in what is held

pub record Agree (n m : List ℕ) : Type 0 where
  pub size : length m ≡ length n
  pub low : (i : ℕ) → i < 11 → note m i ≡ note n i
  pub high : (i : ℕ) → 16 ≤ i → i < 604 → note m i ≡ note n i

pub agree_refl : (n : List ℕ) → Agree n n
agree_refl n = record { size = refl; low = λ i h. refl; high = λ i h g. refl }

pub agree_then : (n m l : List ℕ) → Agree n m → Agree m l → Agree n l
agree_then n m l a b =
    record {
      size = b.size ∙ a.size;
      low = λ i h. b.low i h ∙ a.low i h;
      high = λ i h g. b.high i h g ∙ a.high i h g;
    }

pub agree_middle : (n : List ℕ) (i v : ℕ) → 11 ≤ i → i < 16 → Agree n (set n i v)
agree_middle n i v a b =
    record {
      size = length-set n i v;
      low = λ j h. get_or-set_other n i j v 0 (λ e. absurd (omega arith));
      high = λ j h g. get_or-set_other n i j v 0 (λ e. absurd (omega arith));
    }

pub agree_end : (n : List ℕ) (i v : ℕ) → 604 ≤ i → Agree n (set n i v)
agree_end n i v a =
    record {
      size = length-set n i v;
      low = λ j h. get_or-set_other n i j v 0 (λ e. absurd (omega arith));
      high = λ j h g. get_or-set_other n i j v 0 (λ e. absurd (omega arith));
    }

pub agree_found : (q o : ℕ) (n : List ℕ) → Agree n (found q o n)
unfolding found
agree_found q o n =
    by_cases (Agree n) _ (set (set n 12 q) 13 o) n
    (λ _. agree_then n (set n 12 q) (set (set n 12 q) 13 o) (agree_middle n 12 q (omega arith) (omega arith)) (agree_middle (set n 12 q) 13 o (omega arith) (omega arith)))
    (λ _. agree_refl n)

pub agree_either : (b : Bool) (n m l : List ℕ) → Agree n m → Agree n l → Agree n (pick b m l)
agree_either b n m l f g = by_cases (Agree n) b m l (λ _. f) (λ _. g)

-- ---- what is held

abbrev pub low_header : Header → Bool
low_header h = leb h.state 32 && leb h.party 8

module _ (s : List ℕ) where
  pub record Holds (K : ℕ → List Word) (C : ℕ → ℕ) (H : List Header) (n : List ℕ) : Type 0 where
    pub size : length n ≡ 606
    pub few : (k : ℕ) → k < 7 → length (K k) ≤ limit k
    pub many : (k : ℕ) → k < 7 → note n k ≡ length (K k)
    pub slot : (k i : ℕ) → k < 7 → i < length (K k) → Slot s n (slot_of k + i) (mark_of (get_or (K k) i [])) (get_or (K k) i [])
    pub tally : (k : ℕ) → 7 ≤ k → k < 10 → note n k ≡ min (C k) (limit k)
    pub heads : length H ≤ 64
    pub functions : note n 10 ≡ length H
    pub header : (i : ℕ) → i < length H
        → Slot s n (132 + i) (head_mark (get_or H i (no_header s)).state (get_or H i (no_header s)).party (get_or H i (no_header s)).name) (get_or H i (no_header s)).name

  slot_agree : (n m : List ℕ) (j v : ℕ) (w : Word) → Agree n m → j < 196 → Slot s n j v w → Slot s m j v w
  slot_agree n m j v w a h t =
      let e : note m (16 + 3 * j + 1) ≡ note n (16 + 3 * j + 1) = a.high (16 + 3 * j + 1) (omega arith) (omega arith) in
      let f : note m (16 + 3 * j + 2) ≡ note n (16 + 3 * j + 2) = a.high (16 + 3 * j + 2) (omega arith) (omega arith) in
      record {
        mark = a.high (16 + 3 * j) (omega arith) (omega arith) ∙ t.mark;
        bytes = (λ x. between s (e x) (f x)) ∙ t.bytes;
      }

  pub holds_agree : {K : ℕ → List Word} {C : ℕ → ℕ} {H : List Header} (n m : List ℕ) → Agree n m → Holds K C H n → Holds K C H m
  holds_agree {K} {C} {H} n m a h =
      record {
        size = a.size ∙ h.size;
        few = h.few;
        many = λ k b. a.low k (omega arith) ∙ h.many k b;
        slot = λ k i b l.
            let f : length (K k) ≤ limit k = h.few k b in
            let g : slot_of k + i < 132 = slot_early k i b (omega arith) in
            slot_agree n m (slot_of k + i) (mark_of (get_or (K k) i [])) (get_or (K k) i []) a (omega (arith, g)) (h.slot k i b l);
        tally = λ k b l. a.low k (omega arith) ∙ h.tally k b l;
        heads = h.heads;
        functions = a.low 10 (omega arith) ∙ h.functions;
        header = λ i l.
            let f : length H ≤ 64 = h.heads in
            slot_agree n m (132 + i) _ _ a (omega arith) (h.header i l);
      }

  -- ---- one more slot, and how many there are then in word k

  abbrev pub with_slot : List ℕ → ℕ → ℕ → ℕ → ℕ → ℕ → ℕ → List ℕ
  with_slot n j v a e k x = set (slotted n j v a e) k x

  module _ (n : List ℕ) (j v a e k x : ℕ) (low : k < 11) where
    with_other : (i : ℕ) → (i ≡ k → ⊥) → (i ≡ 16 + 3 * j → ⊥) → (i ≡ suc (16 + 3 * j) → ⊥) → (i ≡ suc (suc (16 + 3 * j)) → ⊥)
        → note (with_slot n j v a e k x) i ≡ note n i
    unfolding slotted
    with_other i d f g h =
        get_or-set_other (slotted n j v a e) k i x 0 d
        ∙ get_or-set_other (set (set n (16 + 3 * j) v) (suc (16 + 3 * j)) a) (suc (suc (16 + 3 * j))) i e 0 h
        ∙ get_or-set_other (set n (16 + 3 * j) v) (suc (16 + 3 * j)) i a 0 g
        ∙ get_or-set_other n (16 + 3 * j) i v 0 f

    pub with_low : (i : ℕ) → (i ≡ k → ⊥) → i < 16 → note (with_slot n j v a e k x) i ≡ note n i
    with_low i d h = with_other i d (λ q. absurd (omega arith)) (λ q. absurd (omega arith)) (λ q. absurd (omega arith))

    pub with_size : length (with_slot n j v a e k x) ≡ length n
    unfolding slotted
    with_size = length-set (slotted n j v a e) k x ∙ length-sets n (16 + 3 * j) (v ∷ a ∷ e ∷ [])

    pub with_count : k < length n → note (with_slot n j v a e k x) k ≡ x
    unfolding slotted
    with_count h = get_or-set_same (slotted n j v a e) k x 0 (subst (λ (l : ℕ). k < l) (sym (length-sets n (16 + 3 * j) (v ∷ a ∷ e ∷ []))) h)

    pub with_slot_other : (l u : ℕ) (w : Word) → (l ≡ j → ⊥) → Slot s n l u w → Slot s (with_slot n j v a e k x) l u w
    with_slot_other l u w d t =
        let f : note (with_slot n j v a e k x) (16 + 3 * l + 1) ≡ note n (16 + 3 * l + 1) = with_other (16 + 3 * l + 1) (λ q. absurd (omega arith)) (λ q. absurd (omega arith)) (λ q. d (omega arith)) (λ q. absurd (omega arith)) in
        let g : note (with_slot n j v a e k x) (16 + 3 * l + 2) ≡ note n (16 + 3 * l + 2) = with_other (16 + 3 * l + 2) (λ q. absurd (omega arith)) (λ q. absurd (omega arith)) (λ q. absurd (omega arith)) (λ q. d (omega arith)) in
        record {
          mark = with_other (16 + 3 * l) (λ q. absurd (omega arith)) (λ q. d (omega arith)) (λ q. absurd (omega arith)) (λ q. absurd (omega arith)) ∙ t.mark;
          bytes = (λ y. between s (f y) (g y)) ∙ t.bytes;
        }

    pub with_slot_here : 16 + 3 * j + 2 < length n → Slot s (with_slot n j v a e k x) j v (between s a e)
    unfolding slotted
    with_slot_here h =
        let o = 16 + 3 * j in
        let n1 = set n o v in
        let n2 = set n1 (suc o) a in
        let n3 = set n2 (suc (suc o)) e in
        let l1 : length n1 ≡ length n = length-set n o v in
        let l2 : length n2 ≡ length n = length-set n1 (suc o) a ∙ l1 in
        let p1 : o + 1 ≡ suc o = omega arith in
        let p2 : o + 2 ≡ suc (suc o) = omega arith in
        let f : note (with_slot n j v a e k x) (o + 1) ≡ a =
        ap (note (with_slot n j v a e k x)) p1 ∙ get_or-set_other n3 k (suc o) x 0 (λ q. absurd (omega arith))
        ∙ get_or-set_other n2 (suc (suc o)) (suc o) e 0 (λ q. absurd (omega arith)) ∙ get_or-set_same n1 (suc o) a 0 (omega arith) in
        let g : note (with_slot n j v a e k x) (o + 2) ≡ e =
        ap (note (with_slot n j v a e k x)) p2 ∙ get_or-set_other n3 k (suc (suc o)) x 0 (λ q. absurd (omega arith))
        ∙ get_or-set_same n2 (suc (suc o)) e 0 (omega arith) in
        record {
          mark =
              get_or-set_other n3 k o x 0 (λ q. absurd (omega arith)) ∙ get_or-set_other n2 (suc (suc o)) o e 0 (λ q. absurd (omega arith))
              ∙ get_or-set_other n1 (suc o) o a 0 (λ q. absurd (omega arith)) ∙ get_or-set_same n o v 0 (omega arith);
          bytes = λ y. between s (f y) (g y);
        }

  -- ---- the slots of words with one more

  abbrev Slots : List ℕ → ℕ → List Word → Type 0
  Slots n o ws = (i : ℕ) → i < length ws → Slot s n (o + i) (mark_of (get_or ws i [])) (get_or ws i [])

  slots_more : (m : List ℕ) (o : ℕ) (ws : List Word) (w : Word) → Slots m o ws → Slot s m (o + length ws) (mark_of w) w → Slots m o (ws ++ (w ∷ []))
  slots_more m o ws w f g i h =
      let l : length (ws ++ (w ∷ [])) ≡ length ws + 1 = length-append ws (w ∷ []) in
      in_order i (length ws)
      (λ b. let e : get_or (ws ++ (w ∷ [])) i [] ≡ get_or ws i [] = get_or-append ws (w ∷ []) [] i b in
      subst (λ (v : Word). Slot s m (o + i) (mark_of v) v) (sym e) (f i b))
      (λ b. let e : get_or (ws ++ (w ∷ [])) i [] ≡ w = ap (λ (j : ℕ). get_or (ws ++ (w ∷ [])) j []) b ∙ get_or-append_seam ws w [] [] in
      subst (λ (v : Word). Slot s m (o + i) (mark_of v) v) (sym e) (subst (λ (j : ℕ). Slot s m (o + j) (mark_of w) w) (sym b) g))
      (λ b. absurd (omega arith))

  pub entered_holds : {K : ℕ → List Word} {C : ℕ → ℕ} {H : List Header} (n : List ℕ) (k a e : ℕ) → Holds K C H n → k < 7
      → length (K k) < limit k → (L : ℕ → List Word) → L k ≡ K k ++ (between s a e ∷ []) → ((j : ℕ) → (j ≡ k → ⊥) → L j ≡ K j)
      → Holds L C H (with_slot n (slot_of k + note n k) (mark_of (between s a e)) a e k (note n k + 1))
  entered_holds {K} {C} {H} n k a e h b room L here other =
      let w = between s a e in
      let c : note n k ≡ length (K k) = h.many k b in
      let m = with_slot n (slot_of k + note n k) (mark_of w) a e k (note n k + 1) in
      let low : k < 11 = omega arith in
      let z : length n ≡ 606 = h.size in
      let early : slot_of k + note n k < 132 = slot_early k (note n k) b (omega arith) in
      let long : length (L k) ≡ length (K k) + 1 = ap length here ∙ length-append (K k) (w ∷ []) in
      let mk : note m k ≡ note n k + 1 = with_count n (slot_of k + note n k) (mark_of w) a e k (note n k + 1) low (omega arith) in
      record {
        size = with_size n (slot_of k + note n k) (mark_of w) a e k (note n k + 1) low ∙ h.size;
        few = λ j l. each k j (λ i. length (L i) ≤ limit i) (omega arith) (λ d. subst (λ (x : List Word). length x ≤ limit j) (sym (other j d)) (h.few j l));
        many = λ j l. each k j (λ i. note m i ≡ length (L i)) (mk ∙ ap (λ (x : ℕ). x + 1) c ∙ sym long)
            (λ d. with_low n (slot_of k + note n k) (mark_of w) a e k (note n k + 1) low j d (omega arith) ∙ h.many j l ∙ ap length (sym (other j d)));
        slot = λ j i l g. each k j (λ x. Slots m (slot_of x) (L x))
            (subst (Slots m (slot_of k)) (sym here)
            (slots_more m (slot_of k) (K k) w
            (λ x y. with_slot_other n (slot_of k + note n k) (mark_of w) a e k (note n k + 1) low (slot_of k + x) _ _ (λ q. absurd (omega arith)) (h.slot k x b y))
            (subst (λ (x : ℕ). Slot s m (slot_of k + x) (mark_of w) w) c
            (with_slot_here n (slot_of k + note n k) (mark_of w) a e k (note n k + 1) low (omega (arith, early, z))))))
            (λ d. subst (Slots m (slot_of j)) (sym (other j d))
            (λ x y. with_slot_other n (slot_of k + note n k) (mark_of w) a e k (note n k + 1) low (slot_of j + x) _ _
            (let f : length (K j) ≤ limit j = h.few j l in slots_differ k j (note n k) x b l d (omega arith) (omega arith)) (h.slot j x l y)))
            i g;
        tally = λ j l g. with_low n (slot_of k + note n k) (mark_of w) a e k (note n k + 1) low j (λ q. absurd (omega arith)) (omega arith) ∙ h.tally j l g;
        heads = h.heads;
        functions = with_low n (slot_of k + note n k) (mark_of w) a e k (note n k + 1) low 10 (λ q. absurd (omega arith)) (omega arith) ∙ h.functions;
        header = λ i l. with_slot_other n (slot_of k + note n k) (mark_of w) a e k (note n k + 1) low (132 + i) _ _ (λ q. absurd (omega (arith, early, q))) (h.header i l);
      }

  abbrev HeadSlots : List ℕ → List Header → Type 0
  HeadSlots n gs =
      (i : ℕ) → i < length gs
      → Slot s n (132 + i) (head_mark (get_or gs i (no_header s)).state (get_or gs i (no_header s)).party (get_or gs i (no_header s)).name) (get_or gs i (no_header s)).name

  heads_more : (m : List ℕ) (gs : List Header) (g : Header) → HeadSlots m gs
      → Slot s m (132 + length gs) (head_mark g.state g.party g.name) g.name → HeadSlots m (gs ++ (g ∷ []))
  heads_more m gs g f z i h =
      let l : length (gs ++ (g ∷ [])) ≡ length gs + 1 = length-append gs (g ∷ []) in
      in_order i (length gs)
      (λ b. let e : get_or (gs ++ (g ∷ [])) i (no_header s) ≡ get_or gs i (no_header s) = get_or-append gs (g ∷ []) (no_header s) i b in
      subst (λ (v : Header). Slot s m (132 + i) (head_mark v.state v.party v.name) v.name) (sym e) (f i b))
      (λ b. let e : get_or (gs ++ (g ∷ [])) i (no_header s) ≡ g = ap (λ (j : ℕ). get_or (gs ++ (g ∷ [])) j (no_header s)) b ∙ get_or-append_seam gs g [] (no_header s) in
      subst (λ (v : Header). Slot s m (132 + i) (head_mark v.state v.party v.name) v.name) (sym e)
      (subst (λ (j : ℕ). Slot s m (132 + j) (head_mark g.state g.party g.name) g.name) (sym b) z))
      (λ b. absurd (omega arith))

  -- one more function
  pub headed_holds : {K : ℕ → List Word} {C : ℕ → ℕ} {H : List Header} (n : List ℕ) (q a f e : ℕ) → Holds K C H n → length H < 64
      → Holds K C (H ++ (record { state = q; party = a; name = between s f e } ∷ []))
      (with_slot n (132 + note n 10) (head_mark q a (between s f e)) f e 10 (note n 10 + 1))
  headed_holds {K} {C} {H} n q a f e h room =
      let w = between s f e in
      let g : Header = record { state = q; party = a; name = w } in
      let j = 132 + note n 10 in
      let v = head_mark q a w in
      let x = note n 10 + 1 in
      let m = with_slot n j v f e 10 x in
      let c : note n 10 ≡ length H = h.functions in
      let z : length n ≡ 606 = h.size in
      let low : 10 < 11 = omega arith in
      let long : length (H ++ (g ∷ [])) ≡ length H + 1 = length-append H (g ∷ []) in
      record {
        size = with_size n j v f e 10 x low ∙ h.size;
        few = h.few;
        many = λ k l. with_low n j v f e 10 x low k (λ d. absurd (omega arith)) (omega arith) ∙ h.many k l;
        slot = λ k i l y.
            let t : length (K k) ≤ limit k = h.few k l in
            let u : slot_of k + i < 132 = slot_early k i l (omega arith) in
            with_slot_other n j v f e 10 x low (slot_of k + i) _ _ (λ d. absurd (omega (arith, u, d))) (h.slot k i l y);
        tally = λ k l y. with_low n j v f e 10 x low k (λ d. absurd (omega arith)) (omega arith) ∙ h.tally k l y;
        heads = omega arith;
        functions = with_count n j v f e 10 x low (omega arith) ∙ ap (λ (i : ℕ). i + 1) c ∙ sym long;
        header =
            heads_more m H g
            (λ i l. with_slot_other n j v f e 10 x low (132 + i) _ _ (λ d. absurd (omega arith)) (h.header i l))
            (subst (λ (i : ℕ). Slot s m (132 + i) v w) c (with_slot_here n j v f e 10 x low (omega arith)));
      }

  slot_set : (n : List ℕ) (k v j u : ℕ) (w : Word) → k < 16 → Slot s n j u w → Slot s (set n k v) j u w
  slot_set n k v j u w l t =
      let f : note (set n k v) (16 + 3 * j + 1) ≡ note n (16 + 3 * j + 1) = get_or-set_other n k (16 + 3 * j + 1) v 0 (λ q. absurd (omega arith)) in
      let g : note (set n k v) (16 + 3 * j + 2) ≡ note n (16 + 3 * j + 2) = get_or-set_other n k (16 + 3 * j + 2) v 0 (λ q. absurd (omega arith)) in
      record {
        mark = get_or-set_other n k (16 + 3 * j) v 0 (λ q. absurd (omega arith)) ∙ t.mark;
        bytes = (λ y. between s (f y) (g y)) ∙ t.bytes;
      }

  -- none of a kind
  pub cleared_holds : {K : ℕ → List Word} {C : ℕ → ℕ} {H : List Header} (n : List ℕ) (k : ℕ) → Holds K C H n → k < 7
      → (L : ℕ → List Word) → L k ≡ [] → ((j : ℕ) → (j ≡ k → ⊥) → L j ≡ K j) → Holds L C H (set n k 0)
  cleared_holds {K} {C} {H} n k h b L here other =
      let none : length (L k) ≡ 0 = ap length here in
      let z : length n ≡ 606 = h.size in
      record {
        size = length-set n k 0 ∙ h.size;
        few = λ j l. each k j (λ i. length (L i) ≤ limit i) (omega (arith, none)) (λ d. subst (λ (x : List Word). length x ≤ limit j) (sym (other j d)) (h.few j l));
        many = λ j l. each k j (λ i. note (set n k 0) i ≡ length (L i)) (get_or-set_same n k 0 0 (omega arith) ∙ sym none)
            (λ d. get_or-set_other n k j 0 0 d ∙ h.many j l ∙ ap length (sym (other j d)));
        slot = λ j i l g. each k j (λ x. Slots (set n k 0) (slot_of x) (L x))
            (λ x y. absurd (omega arith))
            (λ d. subst (Slots (set n k 0) (slot_of j)) (sym (other j d)) (λ x y. slot_set n k 0 (slot_of j + x) _ _ (omega arith) (h.slot j x l y)))
            i g;
        tally = λ j l g. get_or-set_other n k j 0 0 (λ q. absurd (omega arith)) ∙ h.tally j l g;
        heads = h.heads;
        functions = get_or-set_other n k 10 0 0 (λ q. absurd (omega arith)) ∙ h.functions;
        header = λ i l. slot_set n k 0 (132 + i) _ _ (omega arith) (h.header i l);
      }

  -- another number of events, statements or nodes
  pub tally_holds : {K : ℕ → List Word} {C : ℕ → ℕ} {H : List Header} (n : List ℕ) (k v : ℕ) → Holds K C H n → 7 ≤ k → k < 10
      → (D : ℕ → ℕ) → v ≡ min (D k) (limit k) → ((j : ℕ) → (j ≡ k → ⊥) → D j ≡ C j) → Holds K D H (set n k v)
  tally_holds {K} {C} {H} n k v h a b D here other =
      let z : length n ≡ 606 = h.size in
      record {
        size = length-set n k v ∙ h.size;
        few = h.few;
        many = λ j l. get_or-set_other n k j v 0 (λ q. absurd (omega arith)) ∙ h.many j l;
        slot = λ j i l g. slot_set n k v (slot_of j + i) _ _ (omega arith) (h.slot j i l g);
        tally = λ j l g. each k j (λ i. note (set n k v) i ≡ min (D i) (limit i)) (get_or-set_same n k v 0 (omega arith) ∙ here)
            (λ d. get_or-set_other n k j v 0 d ∙ h.tally j l g ∙ ap (λ (x : ℕ). min x (limit j)) (sym (other j d)));
        heads = h.heads;
        functions = get_or-set_other n k 10 v 0 (λ q. absurd (omega arith)) ∙ h.functions;
        header = λ i l. slot_set n k v (132 + i) _ _ (omega arith) (h.header i l);
      }

  -- the same words, counts and functions by other names
  pub holds_same : {K : ℕ → List Word} {C : ℕ → ℕ} {H : List Header} (n : List ℕ) → Holds K C H n → (L : ℕ → List Word) (D : ℕ → ℕ) (G : List Header)
      → ((k : ℕ) → k < 7 → L k ≡ K k) → ((k : ℕ) → 7 ≤ k → k < 10 → min (D k) (limit k) ≡ min (C k) (limit k)) → G ≡ H → Holds L D G n
  holds_same {K} {C} {H} n h L D G f g e =
      record {
        size = h.size;
        few = λ k l. subst (λ (x : List Word). length x ≤ limit k) (sym (f k l)) (h.few k l);
        many = λ k l. h.many k l ∙ ap length (sym (f k l));
        slot = λ k i l y. subst (Slots n (slot_of k)) (sym (f k l)) (λ x z. h.slot k x l z) i y;
        tally = λ k l y. h.tally k l y ∙ sym (g k l y);
        heads = subst (λ (x : List Header). length x ≤ 64) (sym e) h.heads;
        functions = h.functions ∙ ap length (sym e);
        header = subst (HeadSlots n) (sym e) h.header;
      }

  -- ---- notes of items

  headers_few : (b : List Item) → length (headers s b) ≤ 64
  unfolding headers
  headers_few [] = omega arith
  headers_few (declares j x ∷ b) = headers_few b
  headers_few (mentions j x p ∷ b) = headers_few b
  headers_few (uses ks x ∷ b) = headers_few b
  headers_few (counts j p ∷ b) = headers_few b
  headers_few (opens ∷ b) = headers_few b
  headers_few (heads p q a f ∷ b) =
      by_cases (λ (l : List Header). length l ≤ 64) (ltb (length (headers s b)) 64) _ _
      (λ e. let g : length (headers s b) < 64 = ltb-true _ _ e in simp length-append (omega arith)) (λ _. headers_few b)
  headers_few (closes p cs ∷ b) = headers_few b

  abbrev pub HoldsOf : List Item → List ℕ → Type 0
  HoldsOf b n = Holds (λ k. known s k b) (λ k. count k b) (headers s b) n

  pub noted_holds : (b : List Item) (f : Finding) (n : List ℕ) → Noted s b f n → HoldsOf b n
  noted_holds b f n h =
      record {
        size = h.size;
        few = λ k l. known_few s k b;
        many = h.many;
        slot = h.slot;
        tally = h.tally;
        heads = headers_few b;
        functions = h.functions;
        header = h.header;
      }

  pub holds_noted : (b : List Item) (f : Finding) (n : List ℕ) → HoldsOf b n → finding_of n ≡ f → Noted s b f n
  holds_noted b f n h e =
      record {
        size = h.size;
        many = h.many;
        slot = h.slot;
        tally = h.tally;
        functions = h.functions;
        header = h.header;
        finding = e;
      }
