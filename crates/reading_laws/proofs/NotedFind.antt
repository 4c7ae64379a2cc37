-- Names and functions found in notes are those that the items brought. Assumes nothing.
use mathlib.Core.Path.{◌≡◌, refl, sym, ap, subst, ◌∙◌}
use mathlib.Core.Bool.{Bool, true, false, ◌&&◌, ◌||◌}
use mathlib.Core.List.{List, [], ◌∷◌, ◌++◌}
use Prim.Native.Nat.{ℕ, suc, ◌+◌, ◌*◌, ◌%◌, ◌<◌, ◌≤◌, min}
use native.Mathlib.Omega.{arith}
use native.Mathlib.Nat.{add-zero}
use lib.ListN.{length, get_or}
use lib.Dec.{eqb, leb, ltb}
use borrow.Author.Tests.{eqb-true, eqb-false, eq-eqb, ne_eqb, lt-ltb, le-ltb, leb-true, le-leb}
use Rattle.laws.specs.Choice.{pick}
use Rattle.laws.specs.Bytes.{same_bytes}
use Rattle.laws.proofs.Choice.{by_cases, true_false, pick_true}
use Rattle.laws.proofs.Bytes.{same_refl, same_equal}
use Rattle.contract.specs.Tree.{Word}
use Rattle.laws.proofs.Members.{every_append}
use Rattle.laws.proofs.Truths.{both_left, both_right, both_true}
use Rattle.laws.specs.Lists.{every}
use Rattle.entries.specs.Draft.{note, limit, slot_of, mark_of, head_mark, slot_is, find_from, known_count, number_in, among_in, is_declared, is_headed}
use Rattle.reading.specs.Syntax.{Span}
use Rattle.reading.specs.Items.{Item, declares, mentions, uses, counts, opens, heads, closes}
use Rattle.reading.specs.Rules.{Header, most, number_of, is_among, listed, same_header, is_header_among, word, known, header, headers, is_known, Finding}
use Rattle.reading_laws.proofs.NotesSay.{Slot, no_header, Noted}
use Rattle.accepted.proofs.Known.{known_few}
use Rattle.reading_laws.proofs.NotesInvariant.{in_order, Holds, noted_holds, low_header}

same_swap : (v w : Word) → same_bytes v w ≡ same_bytes w v
same_swap v w = go (same_bytes v w) refl (same_bytes w v) refl
  where
    go : (t : Bool) → same_bytes v w ≡ t → (u : Bool) → same_bytes w v ≡ u → t ≡ u
    go true e true f = refl
    go true e false f = true_false (sym (same_refl w) ∙ ap (same_bytes w) (sym (same_equal v w e)) ∙ f)
    go false e true f = true_false (sym (same_refl v) ∙ ap (same_bytes v) (sym (same_equal w v f)) ∙ e)
    go false e false f = refl

-- equal words have equal marks
mark_first : (v w : Word) → pick (eqb (mark_of v) (mark_of w)) (same_bytes v w) false ≡ same_bytes v w
mark_first v w = go (same_bytes v w) refl
  where
    go : (t : Bool) → same_bytes v w ≡ t → pick (eqb (mark_of v) (mark_of w)) (same_bytes v w) false ≡ same_bytes v w
    go true e = pick_true _ _ _ (eq-eqb (mark_of v) (mark_of w) (ap mark_of (same_equal v w e)))
    go false e = by_cases (λ (b : Bool). b ≡ same_bytes v w) (eqb (mark_of v) (mark_of w)) (same_bytes v w) false (λ _. refl) (λ _. sym e)

pub number_few : (w : Word) (ws : List Word) → number_of w ws ≤ length ws
unfolding number_of
number_few w [] = omega arith
number_few w (v ∷ ws) =
    let r : number_of w ws ≤ length ws = number_few w ws in
    by_cases (λ (n : ℕ). n ≤ suc (length ws)) (same_bytes w v) 0 (suc (number_of w ws)) (λ _. omega arith) (λ _. omega arith)

-- a word that is not among others has the number that it gets behind them
pub number_new : (w : Word) (ws : List Word) → number_of w (ws ++ (w ∷ [])) ≡ number_of w ws
unfolding number_of
number_new w [] = pick_true _ _ _ (same_refl w)
number_new w (v ∷ ws) = ap (λ (n : ℕ). pick (same_bytes w v) 0 (suc n)) (number_new w ws)

pick_plus : (b : Bool) (i n : ℕ) → pick b i (i + 1 + n) ≡ i + pick b 0 (suc n)
unfolding pick
pick_plus true i n = omega arith
pick_plus false i n = omega arith

five : (a b c d e : Bool) → pick a true (pick b true (pick c true (pick d true e))) ≡ (a || (b || (c || (d || (e || false)))))
unfolding pick
five true b c d e = refl
five false true c d e = refl
five false false true d e = refl
five false false false true e = refl
five false false false false true = refl
five false false false false false = refl

-- ---- heads

low_state : (h : Header) → low_header h ≡ true → h.state ≤ 32
low_state h e = leb-true h.state 32 (both_left (leb h.state 32) (leb h.party 8) e)

low_party : (h : Header) → low_header h ≡ true → h.party ≤ 8
low_party h e = leb-true h.party 8 (both_right (leb h.state 32) (leb h.party 8) e)

same_tens : (q a r c : ℕ) → a ≤ 8 → c ≤ 8 → 16 * q + a ≡ 16 * r + c → q ≡ r
same_tens q a r c k i f = in_order q r (λ l. absurd (omega arith)) (λ e. e) (λ l. absurd (omega arith))

-- marks of heads with the same name tell their states and parties
mark_tells : (m q a r c : ℕ) → q ≤ 32 → a ≤ 8 → r ≤ 32 → c ≤ 8
    → m + 16777216 * (16 * (q % 256) + a % 16) ≡ m + 16777216 * (16 * (r % 256) + c % 16) → (q ≡ r) × (a ≡ c)
mark_tells m q a r c l k j i e =
    let e1 : q % 256 ≡ q = omega arith in
    let e2 : r % 256 ≡ r = omega arith in
    let e3 : a % 16 ≡ a = omega arith in
    let e4 : c % 16 ≡ c = omega arith in
    let f : 16 * q + a ≡ 16 * r + c = omega arith in
    let d : q ≡ r = same_tens q a r c k i f in
    (d, omega (arith, f, d))

pick_bool : (t : Bool) → pick t true false ≡ t
unfolding pick
pick_bool true = refl
pick_bool false = refl

head_first : (g h : Header) → low_header g ≡ true → low_header h ≡ true
    → pick (eqb (head_mark g.state g.party g.name) (head_mark h.state h.party h.name)) (same_bytes g.name h.name) false ≡ same_header h g
head_first g h l k = go (same_bytes g.name h.name) refl
  where
    G : ℕ
    G = head_mark g.state g.party g.name

    M : ℕ
    M = head_mark h.state h.party h.name

    last_false : (a b : Bool) → (a && (b && false)) ≡ false
    last_false true true = refl
    last_false true false = refl
    last_false false b = refl

    go2 : g.name ≡ h.name → (t : Bool) → eqb h.state g.state ≡ t → (u : Bool) → eqb h.party g.party ≡ u → eqb G M ≡ (t && (u && true))
    go2 n true e true f =
        let a : h.state ≡ g.state = eqb-true _ _ e in
        let b : h.party ≡ g.party = eqb-true _ _ f in
        eq-eqb G M (λ x. head_mark (sym a x) (sym b x) (n x))
    go2 n true e false f = ne_eqb G M (λ z. differ z (λ y. eqb-false _ _ f (sym y.1)))
      where
        differ : G ≡ M → ((g.state ≡ h.state) × (g.party ≡ h.party) → ⊥) → ⊥
        differ z y =
            y (mark_tells (mark_of g.name) g.state g.party h.state h.party (low_state g l) (low_party g l) (low_state h k) (low_party h k)
            (z ∙ λ x. head_mark h.state h.party (sym n x)))
    go2 n false e u f = ne_eqb G M (λ z. differ z (λ y. eqb-false _ _ e (sym y.0)))
      where
        differ : G ≡ M → ((g.state ≡ h.state) × (g.party ≡ h.party) → ⊥) → ⊥
        differ z y =
            y (mark_tells (mark_of g.name) g.state g.party h.state h.party (low_state g l) (low_party g l) (low_state h k) (low_party h k)
            (z ∙ λ x. head_mark h.state h.party (sym n x)))

    go : (t : Bool) → same_bytes g.name h.name ≡ t
        → pick (eqb G M) (same_bytes g.name h.name) false ≡ (eqb h.state g.state && (eqb h.party g.party && same_bytes h.name g.name))
    go true e =
        ap (λ (x : Bool). pick (eqb G M) x false) e
        ∙ pick_bool (eqb G M)
        ∙ go2 (same_equal _ _ e) (eqb h.state g.state) refl (eqb h.party g.party) refl
        ∙ ap (λ (x : Bool). eqb h.state g.state && (eqb h.party g.party && x)) (sym (same_swap h.name g.name ∙ e))
    go false e =
        by_cases (λ (x : Bool). x ≡ false) (eqb G M) (same_bytes g.name h.name) false (λ _. e) (λ _. refl)
        ∙ sym (last_false (eqb h.state g.state) (eqb h.party g.party))
        ∙ ap (λ (x : Bool). eqb h.state g.state && (eqb h.party g.party && x)) (sym (same_swap h.name g.name ∙ e))

module _ (s : List ℕ) where
  name_slot : (n : List ℕ) (j : ℕ) (v w : Word) → Slot s n j (mark_of v) v → slot_is s n j (mark_of w) w ≡ same_bytes w v
  unfolding slot_is
  name_slot n j v w t = (λ x. pick (eqb (t.mark x) (mark_of w)) (same_bytes (t.bytes x) w) false) ∙ mark_first v w ∙ same_swap v w

  find_name : (n : List ℕ) (o i : ℕ) (w : Word) (ws : List Word)
      → ((j : ℕ) → j < length ws → Slot s n (o + (i + j)) (mark_of (get_or ws j [])) (get_or ws j []))
      → find_from s n (mark_of w) w o i (length ws) ≡ i + number_of w ws
  unfolding find_from number_of
  find_name n o i w [] f = sym (add-zero i)
  find_name n o i w (v ∷ ws) f =
      let p : o + (i + 0) ≡ o + i = omega arith in
      let a : slot_is s n (o + i) (mark_of w) w ≡ same_bytes w v = name_slot n (o + i) v w (subst (λ (j : ℕ). Slot s n j (mark_of v) v) p (f 0 (omega arith))) in
      let b : find_from s n (mark_of w) w o (i + 1) (length ws) ≡ i + 1 + number_of w ws =
      find_name n o (i + 1) w ws
      (λ j h. subst (λ (l : ℕ). Slot s n l (mark_of (get_or ws j [])) (get_or ws j [])) (omega arith) (f (suc j) (omega arith))) in
      (λ x. pick (a x) i (b x)) ∙ pick_plus (same_bytes w v) i (number_of w ws)

  module _ {K : ℕ → List Word} {C : ℕ → ℕ} {H : List Header} (n : List ℕ) (h : Holds s K C H n) where
    pub count_held : (k : ℕ) → k < 7 → known_count n k ≡ length (K k)
    count_held k l =
        let a : note n k ≡ length (K k) = h.many k l in
        let b : length (K k) ≤ limit k = h.few k l in
        omega (arith, a, b)

    pub number_held : (k : ℕ) → k < 7 → (w : Word) → number_in s n k w ≡ number_of w (K k)
    unfolding number_in
    number_held k l w =
        let z : 0 + number_of w (K k) ≡ number_of w (K k) = omega arith in
        ap (find_from s n (mark_of w) w (slot_of k) 0) (count_held k l)
        ∙ find_name n (slot_of k) 0 w (K k)
        (λ j b. subst (λ (i : ℕ). Slot s n i (mark_of (get_or (K k) j [])) (get_or (K k) j [])) (omega arith) (h.slot k j l b))
        ∙ z

    pub among_held : (k : ℕ) → k < 7 → (w : Word) → among_in s n k w ≡ is_among w (K k)
    unfolding among_in
    among_held k l w = λ x. ltb (number_held k l w x) (count_held k l x)

    head_slot : (j : ℕ) (g k : Header) → low_header g ≡ true → low_header k ≡ true → Slot s n j (head_mark g.state g.party g.name) g.name
        → slot_is s n j (head_mark k.state k.party k.name) k.name ≡ same_header k g
    unfolding slot_is
    head_slot j g k a b t =
        (λ x. pick (eqb (t.mark x) (head_mark k.state k.party k.name)) (same_bytes (t.bytes x) k.name) false) ∙ head_first g k a b

    or_pick : (b c : Bool) (i m l : ℕ) → i < l → ltb m l ≡ c → ltb (pick b i m) l ≡ (b || c)
    unfolding pick
    or_pick true c i m l h e = lt-ltb i l h
    or_pick false c i m l h e = e

    find_head : (i : ℕ) (k : Header) → low_header k ≡ true → (gs : List Header) → every low_header gs ≡ true
        → ((j : ℕ) → j < length gs
        → Slot s n (132 + (i + j)) (head_mark (get_or gs j (no_header s)).state (get_or gs j (no_header s)).party (get_or gs j (no_header s)).name) (get_or gs j (no_header s)).name)
        → ltb (find_from s n (head_mark k.state k.party k.name) k.name 132 i (length gs)) (i + length gs) ≡ is_header_among k gs
    unfolding find_from is_header_among every
    find_head i k b [] e f = le-ltb i (i + 0) (omega arith)
    find_head i k b (g ∷ gs) e f =
        let p : 132 + (i + 0) ≡ 132 + i = omega arith in
        let a : slot_is s n (132 + i) (head_mark k.state k.party k.name) k.name ≡ same_header k g =
        head_slot (132 + i) g k (both_left (low_header g) (every low_header gs) e) b
        (subst (λ (j : ℕ). Slot s n j (head_mark g.state g.party g.name) g.name) p (f 0 (omega arith))) in
        let long : i + suc (length gs) ≡ i + 1 + length gs = omega arith in
        let r : ltb (find_from s n (head_mark k.state k.party k.name) k.name 132 (i + 1) (length gs)) (i + suc (length gs)) ≡ is_header_among k gs =
        ap (λ (l : ℕ). ltb (find_from s n (head_mark k.state k.party k.name) k.name 132 (i + 1) (length gs)) l) long
        ∙ find_head (i + 1) k b gs (both_right (low_header g) (every low_header gs) e)
        (λ j h. subst
        (λ (l : ℕ). Slot s n l (head_mark (get_or gs j (no_header s)).state (get_or gs j (no_header s)).party (get_or gs j (no_header s)).name) (get_or gs j (no_header s)).name)
        (omega arith) (f (suc j) (omega arith))) in
        or_pick (slot_is s n (132 + i) (head_mark k.state k.party k.name) k.name) (is_header_among k gs) i _ (i + suc (length gs)) (omega arith) r
        ∙ ap (λ (x : Bool). x || is_header_among k gs) a

    pub headed_held : (q a : ℕ) (w : Word) → q ≤ 32 → a ≤ 8 → every low_header H ≡ true
        → is_headed s n q a w ≡ is_header_among (record { state = q; party = a; name = w }) H
    unfolding is_headed
    headed_held q a w l m e =
        let c : min (note n 10) 64 ≡ length H = (let x : note n 10 ≡ length H = h.functions in let y : length H ≤ 64 = h.heads in omega arith) in
        let z : 0 + length H ≡ length H = omega arith in
        ap (λ (i : ℕ). ltb (find_from s n (head_mark q a w) w 132 0 i) i) c
        ∙ ap (ltb (find_from s n (head_mark q a w) w 132 0 (length H))) (sym z)
        ∙ find_head 0 (record { state = q; party = a; name = w }) (both_true _ _ (le-leb q 32 l) (le-leb a 8 m)) H e
        (λ j b. subst
        (λ (i : ℕ). Slot s n i (head_mark (get_or H j (no_header s)).state (get_or H j (no_header s)).party (get_or H j (no_header s)).name) (get_or H j (no_header s)).name)
        (omega arith) (h.header j b))

  -- ---- after items

  headers_low : (b : List Item) → every low_header (headers s b) ≡ true
  unfolding headers every
  headers_low [] = refl
  headers_low (declares j x ∷ b) = headers_low b
  headers_low (mentions j x p ∷ b) = headers_low b
  headers_low (uses ks x ∷ b) = headers_low b
  headers_low (counts j p ∷ b) = headers_low b
  headers_low (opens ∷ b) = headers_low b
  headers_low (heads p q a f ∷ b) =
      let u : number_of (word s q) (known s 5 b) ≤ length (known s 5 b) = number_few (word s q) (known s 5 b) in
      let v : number_of (word s a) (known s 0 b) ≤ length (known s 0 b) = number_few (word s a) (known s 0 b) in
      let x : length (known s 5 b) ≤ 32 = known_few s 5 b in
      let y : length (known s 0 b) ≤ 8 = known_few s 0 b in
      by_cases (λ (l : List Header). every low_header l ≡ true) (ltb (length (headers s b)) 64) _ _
      (λ _. every_append low_header (headers s b) (header s b q a f ∷ []) (headers_low b)
      (both_true _ _ (both_true _ _ (le-leb (number_of (word s q) (known s 5 b)) 32 (omega arith)) (le-leb (number_of (word s a) (known s 0 b)) 8 (omega arith))) refl))
      (λ _. headers_low b)
  headers_low (closes p cs ∷ b) = headers_low b

  -- a state or a string has its number from its first mention on
  pub mentioned_number : (k : ℕ) (x : Span) (o : ℕ) (b : List Item) → number_of (word s x) (known s k (mentions k x o ∷ b)) ≡ number_of (word s x) (known s k b)
  unfolding known listed
  mentioned_number k x o b =
      by_cases (λ (l : List Word). number_of (word s x) l ≡ number_of (word s x) (known s k b)) (eqb k k) _ _
      (λ _. by_cases (λ (l : List Word). number_of (word s x) l ≡ number_of (word s x) (known s k b)) (is_among (word s x) (known s k b)) _ _ (λ _. refl)
      (λ _. by_cases (λ (l : List Word). number_of (word s x) l ≡ number_of (word s x) (known s k b)) (ltb (length (known s k b)) (most k)) _ _
      (λ _. number_new (word s x) (known s k b)) (λ _. refl)))
      (λ _. refl)

  module _ (b : List Item) (f : Finding) (n : List ℕ) (h : Noted s b f n) where
    pub number_noted : (k : ℕ) → k < 7 → (w : Word) → number_in s n k w ≡ number_of w (known s k b)
    number_noted = number_held n (noted_holds s b f n h)

    pub among_noted : (k : ℕ) → k < 7 → (w : Word) → among_in s n k w ≡ is_among w (known s k b)
    among_noted = among_held n (noted_holds s b f n h)

    pub declared_noted : (w : Word) → is_declared s n w ≡ is_known s (0 ∷ 1 ∷ 2 ∷ 3 ∷ 4 ∷ []) b w
    unfolding is_declared is_known
    declared_noted w =
        let a0 : among_in s n 0 w ≡ is_among w (known s 0 b) = among_noted 0 (omega arith) w in
        let a1 : among_in s n 1 w ≡ is_among w (known s 1 b) = among_noted 1 (omega arith) w in
        let a2 : among_in s n 2 w ≡ is_among w (known s 2 b) = among_noted 2 (omega arith) w in
        let a3 : among_in s n 3 w ≡ is_among w (known s 3 b) = among_noted 3 (omega arith) w in
        let a4 : among_in s n 4 w ≡ is_among w (known s 4 b) = among_noted 4 (omega arith) w in
        (λ t. pick (a0 t) true (pick (a1 t) true (pick (a2 t) true (pick (a3 t) true (a4 t)))))
        ∙ five (is_among w (known s 0 b)) (is_among w (known s 1 b)) (is_among w (known s 2 b)) (is_among w (known s 3 b)) (is_among w (known s 4 b))

    pub headed_noted : (q a : ℕ) (w : Word) → q ≤ 32 → a ≤ 8 → is_headed s n q a w ≡ is_header_among (record { state = q; party = a; name = w }) (headers s b)
    headed_noted q a w l m = headed_held n (noted_holds s b f n h) q a w l m (headers_low b)
