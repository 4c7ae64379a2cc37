-- Declared and mentioned names, functions' heads and used names leave notes of one item more. Assumes nothing.
use mathlib.Core.Path.{◌≡◌, refl, sym, ap, subst, ◌∙◌}
use mathlib.Core.Bool.{Bool, true, false, ◌||◌, not}
use mathlib.Core.List.{List, [], ◌∷◌, ◌++◌}
use Prim.Native.Nat.{ℕ, ◌+◌, ◌<◌, ◌≤◌, min}
use native.Mathlib.Omega.{arith}
use lib.ListN.{length, set}
use lib.Seq.{get_or-set_other}
use lib.Dec.{eqb, ltb}
use borrow.Author.Tests.{eq-eqb, ne_eqb, ltb-true, ltb-false, lt-ltb, le-ltb}
use Rattle.laws.specs.Choice.{pick}
use Rattle.laws.proofs.Choice.{by_cases, pick_true, pick_false}
use Rattle.contract.specs.Tree.{Word}
use Rattle.entries.specs.declared.Known.{Known}
use Rattle.entries.specs.Draft.{Draft, note, with_notes, found, limit, slot_of, mark_of, head_mark, entered, declared_in, declare, mention, among_in, is_declared, is_headed, unknown, seek, holder_in, stored_in, name_in, value_target, asset_target, headed, head_notes, head, number_in}
use Rattle.reading.specs.Syntax.{Span}
use Rattle.reading.specs.Grammar.{is_one_of}
use Rattle.reading.specs.Items.{Item, declares, mentions, uses, counts, heads, Site, in_function, in_handler, value_kinds, asset_kinds}
use Rattle.reading.specs.Rules.{Header, most, number_of, is_among, listed, word, known, count, header, headers, is_known, is_header_among, Finding, breaks, lesser, or_breaks, judge}
use Rattle.reading_laws.proofs.Run.{finding_of}
use Rattle.reading_laws.proofs.NotesSay.{Noted}
use Rattle.accepted.proofs.Known.{known_few, listed_true}
use Rattle.reading_laws.proofs.NotedFound.{lesser_assoc, finding_same, found_finding, found_unless, found_where}
use Rattle.reading_laws.proofs.NotesInvariant.{Agree, agree_refl, agree_then, agree_found, agree_either, Holds, HoldsOf, holds_agree, holds_same, with_slot, with_low, entered_holds, headed_holds, cleared_holds, noted_holds, holds_noted}
use Rattle.reading_laws.proofs.NotedFind.{number_few, among_noted, declared_noted, headed_noted}
use Rattle.reading_laws.proofs.NotedActs.{unless_fine, unless_breaks, each_way}

-- two findings, each under its test
two_findings : (n m l : List ℕ) (f : Finding) (b c : Bool) (q r o p : ℕ) → finding_of n ≡ f → finding_of m ≡ lesser (finding_of n) (or_breaks b q o)
    → finding_of l ≡ lesser (finding_of m) (or_breaks c r p) → finding_of l ≡ lesser f (lesser (or_breaks b q o) (or_breaks c r p))
two_findings n m l f b c q r o p e g h =
    h ∙ ap (λ (x : Finding). lesser x (or_breaks c r p)) (g ∙ ap (λ (x : Finding). lesser x (or_breaks b q o)) e)
    ∙ lesser_assoc f (or_breaks b q o) (or_breaks c r p)

listed_full : (k : ℕ) (w : Word) (ws : List Word) → ltb (length ws) (most k) ≡ false → listed k w ws ≡ ws
unfolding listed
listed_full k w ws e = pick_false _ _ _ e

clear_four : (ws : List Word) → pick (is_one_of (3 ∷ 4 ∷ []) 4) [] ws ≡ []
unfolding is_one_of pick
clear_four ws = refl

clear_other : (j : ℕ) (ws : List Word) → (j ≡ 4 → ⊥) → pick (is_one_of (3 ∷ 4 ∷ []) j) [] ws ≡ pick (eqb j 3) [] ws
unfolding is_one_of
clear_other j ws d =
    ap (λ (t : Bool). pick (pick (eqb j 3) true (pick t true false)) [] ws) (ne_eqb j 4 d)
    ∙ go (eqb j 3)
  where
    go : (t : Bool) → pick (pick t true (pick false true false)) [] ws ≡ pick t [] ws
    go true = ap (λ (u : Bool). pick u [] ws) (pick_true true true (pick false true false) refl)
    go false = ap (λ (u : Bool). pick u [] ws) (pick_false false true (pick false true false) refl ∙ pick_false false true false refl)

-- no parameters
no_parameters : (s : List ℕ) (b : List Item) (C : ℕ → ℕ) (H : List Header) (m : List ℕ) → Holds s (λ k. known s k b) C H m
    → Holds s (λ k. pick (is_one_of (3 ∷ 4 ∷ []) k) [] (known s k b)) C H (set (set m 3 0) 4 0)
no_parameters s b C H m h =
    cleared_holds s (set m 3 0) 4
    (cleared_holds s m 3 h (omega arith) (λ j. pick (eqb j 3) [] (known s j b)) (pick_true (eqb 3 3) [] (known s 3 b) refl)
    (λ j d. pick_false (eqb j 3) [] (known s j b) (ne_eqb j 3 d)))
    (omega arith) (λ j. pick (is_one_of (3 ∷ 4 ∷ []) j) [] (known s j b)) (clear_four (known s 4 b)) (λ j d. clear_other j (known s j b) d)

clear_finding : (m : List ℕ) → finding_of (set (set m 3 0) 4 0) ≡ finding_of m
clear_finding m =
    finding_same m (set (set m 3 0) 4 0)
    (get_or-set_other (set m 3 0) 4 12 0 0 (λ q. absurd (omega arith)) ∙ get_or-set_other m 3 12 0 0 (λ q. absurd (omega arith)))
    (get_or-set_other (set m 3 0) 4 13 0 0 (λ q. absurd (omega arith)) ∙ get_or-set_other m 3 13 0 0 (λ q. absurd (omega arith)))

module _ (s : List ℕ) (b : List Item) (f : Finding) (p : Draft) (h : Noted s b f p.notes) where
  long : 13 < length p.notes
  long = let e : length p.notes ≡ 606 = h.size in omega arith

  -- one more word of kind k, in notes m that agree with those of before
  more_words : (i : Item) (k : ℕ) (x : Span) (m : List ℕ) → k < 7 → Agree p.notes m → ltb (note p.notes k) (limit k) ≡ true
      → known s k (i ∷ b) ≡ listed k (word s x) (known s k b) → ((j : ℕ) → (j ≡ k → ⊥) → known s j (i ∷ b) ≡ known s j b)
      → ((j : ℕ) → count j (i ∷ b) ≡ count j b) → headers s (i ∷ b) ≡ headers s b
      → HoldsOf s (i ∷ b) (with_slot s m (slot_of k + note p.notes k) (mark_of (word s x)) x.start x.end k (note p.notes k + 1))
  more_words i k x m l a e here other c d =
      let g : HoldsOf s b m = holds_agree s p.notes m a (noted_holds s b f p.notes h) in
      let z : note m k ≡ note p.notes k = a.low k (omega arith) in
      let q : note p.notes k ≡ length (known s k b) = h.many k l in
      let r : note p.notes k < limit k = ltb-true _ _ e in
      let room : length (known s k b) < limit k = omega (arith, q, r) in
      let w = word s x in
      let raw : Holds s (λ j. known s j (i ∷ b)) (λ j. count j b) (headers s b) (with_slot s m (slot_of k + note m k) (mark_of w) x.start x.end k (note m k + 1)) =
      entered_holds s m k x.start x.end g l room (λ j. known s j (i ∷ b)) (here ∙ listed_true k w (known s k b) (lt-ltb _ _ room)) other in
      let moved : Holds s (λ j. known s j (i ∷ b)) (λ j. count j b) (headers s b) (with_slot s m (slot_of k + note p.notes k) (mark_of w) x.start x.end k (note p.notes k + 1)) =
      subst (λ (v : ℕ). Holds s (λ j. known s j (i ∷ b)) (λ j. count j b) (headers s b) (with_slot s m (slot_of k + v) (mark_of w) x.start x.end k (v + 1))) z raw in
      holds_same s _ moved (λ j. known s j (i ∷ b)) (λ j. count j (i ∷ b)) (headers s (i ∷ b)) (λ j t. refl) (λ j t u. ap (λ (v : ℕ). min v (limit j)) (c j)) d

  -- no room for one more
  full_words : (i : Item) (k : ℕ) (x : Span) (m : List ℕ) → k < 7 → Agree p.notes m → ltb (note p.notes k) (limit k) ≡ false
      → known s k (i ∷ b) ≡ listed k (word s x) (known s k b) → ((j : ℕ) → (j ≡ k → ⊥) → known s j (i ∷ b) ≡ known s j b)
      → ((j : ℕ) → count j (i ∷ b) ≡ count j b) → headers s (i ∷ b) ≡ headers s b → HoldsOf s (i ∷ b) m
  full_words i k x m l a e here other c d =
      let g : HoldsOf s b m = holds_agree s p.notes m a (noted_holds s b f p.notes h) in
      let q : note p.notes k ≡ length (known s k b) = h.many k l in
      let r : limit k ≤ note p.notes k = ltb-false _ _ e in
      let none : known s k (i ∷ b) ≡ known s k b = here ∙ listed_full k (word s x) (known s k b) (le-ltb (length (known s k b)) (most k) (omega (arith, q, r))) in
      holds_same s m g (λ j. known s j (i ∷ b)) (λ j. count j (i ∷ b)) (headers s (i ∷ b))
      (λ j t. each_way j k (known s j (i ∷ b) ≡ known s j b) (λ y. subst (λ (v : ℕ). known s v (i ∷ b) ≡ known s v b) (sym y) none) (other j))
      (λ j t u. ap (λ (v : ℕ). min v (limit j)) (c j)) d

  slot_finding : (m : List ℕ) (k j v a e x : ℕ) → k < 7 → finding_of (with_slot s m j v a e k x) ≡ finding_of m
  slot_finding m k j v a e x l =
      finding_same m (with_slot s m j v a e k x)
      (with_low s m j v a e k x (omega arith) 12 (λ q. absurd (omega arith)) (omega arith))
      (with_low s m j v a e k x (omega arith) 13 (λ q. absurd (omega arith)) (omega arith))

  room_same : (k : ℕ) → k < 7 → ltb (note p.notes k) (limit k) ≡ ltb (length (known s k b)) (most k)
  room_same k l = ap (λ (v : ℕ). ltb v (limit k)) (h.many k l)

  -- ---- declared names

  pub declare_noted : (k : ℕ) (x : Span) → k < 5 → Noted s (declares k x ∷ b) (lesser f (judge s b (declares k x))) (declare s k x.start x.end p).notes
  unfolding declare declared_in entered known count headers judge
  declare_noted k x l =
      let a = x.start in
      let w = word s x in
      let room = ltb (note p.notes k) (limit k) in
      let n1 = pick room p.notes (found 11 a p.notes) in
      let a1 : Agree p.notes n1 = agree_either room p.notes p.notes (found 11 a p.notes) (agree_refl p.notes) (agree_found 11 a p.notes) in
      let d = is_declared s p.notes w in
      let m = pick d (found 12 a n1) n1 in
      let am : Agree p.notes m = agree_either d p.notes (found 12 a n1) n1 (agree_then p.notes n1 (found 12 a n1) a1 (agree_found 12 a n1)) a1 in
      let z1 : length n1 ≡ length p.notes = a1.size in
      let fm : finding_of m ≡ lesser f (judge s b (declares k x)) =
      two_findings p.notes n1 m f room (not d) 11 12 a a h.finding (found_unless 10 a p.notes long room) (found_where 11 a n1 (omega (arith, long, z1)) d)
      ∙ (λ t. lesser f (lesser (or_breaks (room_same k (omega arith) t) 11 a) (or_breaks (not (declared_noted s b f p.notes h w t)) 12 a))) in
      let here : known s k (declares k x ∷ b) ≡ listed k w (known s k b) = pick_true (eqb k k) _ _ (eq-eqb k k refl) in
      let other : (j : ℕ) → (j ≡ k → ⊥) → known s j (declares k x ∷ b) ≡ known s j b = λ j y. pick_false (eqb k j) _ _ (ne_eqb k j (λ q. y (sym q))) in
      by_cases (λ (r : Draft). Noted s (declares k x ∷ b) (lesser f (judge s b (declares k x))) r.notes) room
      (entered s k (note p.notes k) a x.end (with_notes p m)) (with_notes p m)
      (λ e. holds_noted s (declares k x ∷ b) (lesser f (judge s b (declares k x))) (with_slot s m (slot_of k + note p.notes k) (mark_of w) a x.end k (note p.notes k + 1))
      (more_words (declares k x) k x m (omega arith) am e here other (λ j. refl) refl)
      (slot_finding m k (slot_of k + note p.notes k) (mark_of w) a x.end (note p.notes k + 1) (omega arith) ∙ fm))
      (λ e. holds_noted s (declares k x ∷ b) (lesser f (judge s b (declares k x))) m
      (full_words (declares k x) k x m (omega arith) am e here other (λ j. refl) refl) fm)

  -- ---- states and strings

  pub mention_noted : (k : ℕ) (x : Span) (o : ℕ) → k < 7 → Noted s (mentions k x o ∷ b) (lesser f (judge s b (mentions k x o))) (mention s k x.start x.end o p).notes
  unfolding mention entered known count headers judge
  mention_noted k x o l =
      let w = word s x in
      let g = lesser f (judge s b (mentions k x o)) in
      let same : among_in s p.notes k w ≡ is_among w (known s k b) = among_noted s b f p.notes h k l w in
      let room : ltb (note p.notes k) (limit k) ≡ ltb (length (known s k b)) (most k) = room_same k l in
      let both = is_among w (known s k b) || ltb (length (known s k b)) (most k) in
      let other : (j : ℕ) → (j ≡ k → ⊥) → known s j (mentions k x o ∷ b) ≡ known s j b = λ j y. pick_false (eqb k j) _ _ (ne_eqb k j (λ q. y (sym q))) in
      let first : known s k (mentions k x o ∷ b) ≡ pick (is_among w (known s k b)) (known s k b) (listed k w (known s k b)) = pick_true (eqb k k) _ _ (eq-eqb k k refl) in
      by_cases (λ (r : Draft). Noted s (mentions k x o ∷ b) g r.notes) (among_in s p.notes k w) p _
      (λ e.
      let old : is_among w (known s k b) ≡ true = sym same ∙ e in
      let none : known s k (mentions k x o ∷ b) ≡ known s k b = first ∙ pick_true (is_among w (known s k b)) _ _ old in
      holds_noted s (mentions k x o ∷ b) g p.notes
      (holds_same s p.notes (noted_holds s b f p.notes h) (λ j. known s j (mentions k x o ∷ b)) (λ j. count j b) (headers s b)
      (λ j t. each_way j k (known s j (mentions k x o ∷ b) ≡ known s j b) (λ y. subst (λ (v : ℕ). known s v (mentions k x o ∷ b) ≡ known s v b) (sym y) none) (other j))
      (λ j t u. refl) refl)
      (h.finding ∙ sym (unless_fine f both 11 o (ap (λ (t : Bool). t || ltb (length (known s k b)) (most k)) old))))
      (λ e.
      let new : is_among w (known s k b) ≡ false = sym same ∙ e in
      let here : known s k (mentions k x o ∷ b) ≡ listed k w (known s k b) = first ∙ pick_false (is_among w (known s k b)) _ _ new in
      let rest : both ≡ ltb (length (known s k b)) (most k) = ap (λ (t : Bool). t || ltb (length (known s k b)) (most k)) new in
      by_cases (λ (r : Draft). Noted s (mentions k x o ∷ b) g r.notes) (ltb (note p.notes k) (limit k)) (entered s k (note p.notes k) x.start x.end p) (with_notes p (found 11 o p.notes))
      (λ r. holds_noted s (mentions k x o ∷ b) g (with_slot s p.notes (slot_of k + note p.notes k) (mark_of w) x.start x.end k (note p.notes k + 1))
      (more_words (mentions k x o) k x p.notes l (agree_refl p.notes) r here other (λ j. refl) refl)
      (slot_finding p.notes k (slot_of k + note p.notes k) (mark_of w) x.start x.end (note p.notes k + 1) l
      ∙ h.finding ∙ sym (unless_fine f both 11 o (rest ∙ sym room ∙ r))))
      (λ r. holds_noted s (mentions k x o ∷ b) g (found 11 o p.notes)
      (full_words (mentions k x o) k x (found 11 o p.notes) l (agree_found 11 o p.notes) r here other (λ j. refl) refl)
      (found_finding 10 o p.notes long ∙ ap (λ (y : Finding). lesser y (breaks 11 o)) h.finding
      ∙ sym (unless_breaks f both 11 o (rest ∙ sym room ∙ r)))))

  -- ---- functions

  pub head_noted : (o : ℕ) (q a g : Span)
      → Noted s (heads o q a g ∷ b) (lesser f (judge s b (heads o q a g)))
      (head s o (number_of (word s q) (known s 5 b)) (number_of (word s a) (known s 0 b)) g.start g.end p).notes
  unfolding head head_notes headed known count headers judge
  head_noted o q a g =
      let w = word s g in
      let Q = number_of (word s q) (known s 5 b) in
      let A = number_of (word s a) (known s 0 b) in
      let ql : Q ≤ length (known s 5 b) = number_few (word s q) (known s 5 b) in
      let al : A ≤ length (known s 0 b) = number_few (word s a) (known s 0 b) in
      let qm : length (known s 5 b) ≤ 32 = known_few s 5 b in
      let am : length (known s 0 b) ≤ 8 = known_few s 0 b in
      let c : note p.notes 10 ≡ length (headers s b) = h.functions in
      let room = ltb (note p.notes 10) 64 in
      let n1 = pick room p.notes (found 11 o p.notes) in
      let a1 : Agree p.notes n1 = agree_either room p.notes p.notes (found 11 o p.notes) (agree_refl p.notes) (agree_found 11 o p.notes) in
      let d = is_headed s p.notes Q A w in
      let m = pick d (found 15 g.start n1) n1 in
      let ag : Agree p.notes m =
      agree_either d p.notes (found 15 g.start n1) n1 (agree_then p.notes n1 (found 15 g.start n1) a1 (agree_found 15 g.start n1)) a1 in
      let z1 : length n1 ≡ length p.notes = a1.size in
      let hd : d ≡ is_header_among (header s b q a g) (headers s b) = headed_noted s b f p.notes h Q A w (omega arith) (omega arith) in
      let fm : finding_of m ≡ lesser f (judge s b (heads o q a g)) =
      two_findings p.notes n1 m f room (not d) 11 15 o g.start h.finding (found_unless 10 o p.notes long room)
      (found_where 14 g.start n1 (omega (arith, long, z1)) d)
      ∙ (λ t. lesser f (lesser (or_breaks (ltb (c t) 64) 11 o) (or_breaks (not (hd t)) 15 g.start))) in
      let hm : HoldsOf s b m = holds_agree s p.notes m ag (noted_holds s b f p.notes h) in
      let same : note m 10 ≡ note p.notes 10 = ag.low 10 (omega arith) in
      by_cases (λ (r : Draft). Noted s (heads o q a g ∷ b) (lesser f (judge s b (heads o q a g))) (set (set r.notes 3 0) 4 0)) room
      (headed s (note p.notes 10) Q A g.start g.end (with_notes p m)) (with_notes p m)
      (λ e.
      let fewer : length (headers s b) < 64 = ltb-true (length (headers s b)) 64 (ap (λ (v : ℕ). ltb v 64) (sym c) ∙ e) in
      let v = head_mark Q A w in
      let m1 = with_slot s m (132 + note p.notes 10) v g.start g.end 10 (note p.notes 10 + 1) in
      let more : Holds s (λ k. known s k b) (λ k. count k b) (headers s b ++ (header s b q a g ∷ [])) m1 =
      subst (λ (y : ℕ). Holds s (λ k. known s k b) (λ k. count k b) (headers s b ++ (header s b q a g ∷ [])) (with_slot s m (132 + y) v g.start g.end 10 (y + 1))) same
      (headed_holds s m Q A g.start g.end hm fewer) in
      let named : headers s (heads o q a g ∷ b) ≡ headers s b ++ (header s b q a g ∷ []) = pick_true _ _ _ (lt-ltb (length (headers s b)) 64 fewer) in
      holds_noted s (heads o q a g ∷ b) (lesser f (judge s b (heads o q a g))) (set (set m1 3 0) 4 0)
      (no_parameters s b (λ k. count k b) (headers s (heads o q a g ∷ b)) m1
      (subst (λ (y : List Header). Holds s (λ k. known s k b) (λ k. count k b) y m1) (sym named) more))
      (clear_finding m1
      ∙ finding_same m m1
      (with_low s m (132 + note p.notes 10) v g.start g.end 10 (note p.notes 10 + 1) (omega arith) 12 (λ y. absurd (omega arith)) (omega arith))
      (with_low s m (132 + note p.notes 10) v g.start g.end 10 (note p.notes 10 + 1) (omega arith) 13 (λ y. absurd (omega arith)) (omega arith))
      ∙ fm))
      (λ e.
      let named : headers s (heads o q a g ∷ b) ≡ headers s b = pick_false _ _ _ (ap (λ (v : ℕ). ltb v 64) (sym c) ∙ e) in
      holds_noted s (heads o q a g ∷ b) (lesser f (judge s b (heads o q a g))) (set (set m 3 0) 4 0)
      (no_parameters s b (λ k. count k b) (headers s (heads o q a g ∷ b)) m
      (subst (λ (y : List Header). Holds s (λ k. known s k b) (λ k. count k b) y m) (sym named) hm))
      (clear_finding m ∙ fm))

-- ---- used names: found exactly if known as one of the kinds wanted

seek_known : (s n : List ℕ) (k kind : ℕ) (w : Word) (other : Known) → eqb kind 0 ≡ false
    → not (eqb (seek s n k kind w other).kind 0) ≡ (among_in s n k w || not (eqb other.kind 0))
unfolding seek
seek_known s n k kind w other e = go (among_in s n k w)
  where
    go : (t : Bool) → not (eqb (pick t (record { kind = kind; number = number_in s n k w }) other).kind 0) ≡ (t || not (eqb other.kind 0))
    go true = ap (λ (x : Known). not (eqb x.kind 0)) (pick_true true (record { kind = kind; number = number_in s n k w }) other refl) ∙ ap not e
    go false = ap (λ (x : Known). not (eqb x.kind 0)) (pick_false false (record { kind = kind; number = number_in s n k w }) other refl)

-- whether code stands in a handler
abbrev pub inside : Site → Bool
inside in_function = false
inside in_handler = true

or_turn : (a b c d : Bool) → (c || (d || (a || (b || false)))) ≡ (a || (b || (c || (d || false))))
or_turn true true true true = refl
or_turn true true true false = refl
or_turn true true false true = refl
or_turn true true false false = refl
or_turn true false true true = refl
or_turn true false true false = refl
or_turn true false false true = refl
or_turn true false false false = refl
or_turn false true true true = refl
or_turn false true true false = refl
or_turn false true false true = refl
or_turn false true false false = refl
or_turn false false true true = refl
or_turn false false true false = refl
or_turn false false false true = refl
or_turn false false false false = refl

module _ (s : List ℕ) (b : List Item) (f : Finding) (n : List ℕ) (h : Noted s b f n) (w : Word) where
  sought : (k kind : ℕ) (other : Known) (t : Bool) → k < 7 → eqb kind 0 ≡ false → not (eqb other.kind 0) ≡ t
      → not (eqb (seek s n k kind w other).kind 0) ≡ (is_among w (known s k b) || t)
  sought k kind other t l e g = seek_known s n k kind w other e ∙ (λ x. among_noted s b f n h k l w x || g x)

  pub holder_known : (c : Site) → not (eqb (holder_in s n (inside c) w).kind 0) ≡ is_known s (asset_kinds c) b w
  unfolding holder_in is_known pick
  holder_known in_function = sought 1 5 _ _ (omega arith) refl (sought 4 7 unknown false (omega arith) refl refl)
  holder_known in_handler = sought 1 5 unknown false (omega arith) refl refl

  stored_known : not (eqb (stored_in s n w).kind 0) ≡ (is_among w (known s 1 b) || (is_among w (known s 2 b) || false))
  unfolding stored_in
  stored_known = sought 1 5 _ _ (omega arith) refl (sought 2 4 unknown false (omega arith) refl refl)

  pub name_known : (c : Site) → not (eqb (name_in s n (inside c) w).kind 0) ≡ is_known s (value_kinds c) b w
  unfolding name_in is_known pick
  name_known in_function =
      sought 3 6 _ _ (omega arith) refl (sought 4 7 (stored_in s n w) _ (omega arith) refl stored_known)
      ∙ or_turn (is_among w (known s 1 b)) (is_among w (known s 2 b)) (is_among w (known s 3 b)) (is_among w (known s 4 b))
  name_known in_handler = stored_known

  pub value_target_known : not (eqb (value_target s n w).kind 0) ≡ is_known s (0 ∷ 2 ∷ []) b w
  unfolding value_target is_known
  value_target_known = sought 0 23 _ _ (omega arith) refl (sought 2 4 unknown false (omega arith) refl refl)

  pub asset_target_known : (c : Site) → not (eqb (asset_target s n (inside c) w).kind 0) ≡ is_known s (0 ∷ asset_kinds c) b w
  unfolding asset_target is_known
  asset_target_known c = sought 0 23 (holder_in s n (inside c) w) _ (omega arith) refl (holder_known c)

-- counts bring no name
pub known_counted : (s : List ℕ) (ks : List ℕ) (k o : ℕ) (b : List Item) (w : Word) → is_known s ks (counts k o ∷ b) w ≡ is_known s ks b w
unfolding is_known known
known_counted s [] k o b w = refl
known_counted s (j ∷ ks) k o b w = ap (λ (t : Bool). is_among w (known s j b) || t) (known_counted s ks k o b w)

pub known_used : (s : List ℕ) (ks js : List ℕ) (x : Span) (b : List Item) (w : Word) → is_known s ks (uses js x ∷ b) w ≡ is_known s ks b w
unfolding is_known known
known_used s [] js x b w = refl
known_used s (j ∷ ks) js x b w = ap (λ (t : Bool). is_among w (known s j b) || t) (known_used s ks js x b w)
