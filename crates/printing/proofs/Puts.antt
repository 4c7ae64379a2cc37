-- Runs of stores, one after the other. Assumes nothing.
use mathlib.Core.Path.{◌≡◌, refl, sym, ap, subst, ◌∙◌}
use mathlib.Core.Bool.{Bool, true, false}
use mathlib.Core.List.{List, [], ◌∷◌, ◌++◌, append_assoc}
use Prim.Native.Nat.{ℕ, suc, ◌+◌, ◌-◌, ◌<◌, ◌≤◌}
use native.Mathlib.Omega.{arith}
use native.Mathlib.Nat.{add-zero, zero-add}
use lib.ListN.{length, set, take, drop, get_or, length-append, take-append-drop, drop_of_length-le}
use lib.Seq.{sets, sets-eq, set_comm, length-sets, drop-append-le, drop-drop}
use Rattle.std.proofs.Common.{take_all}
use Rattle.std.proofs.lemmas.Slice.{put_mid-paste}
use borrow.Rule.Slice.PartMut.{mid_of, put_mid, mid_len}
use lib.Dec.{leb}
use borrow.Author.Tests.{leb-true, leb-false, le-leb, lt-leb}
use Rattle.laws.proofs.Choice.{pick_true, pick_false}
use Rattle.laws.proofs.Lists.{cons_at}
use Rattle.printing.specs.Pieces.{put, place_after, Put}

-- ---- stores

sets_then : (u v old : List ℕ) (at : ℕ) → sets (sets old at u) (at + length u) v ≡ sets old at (u ++ v)
sets_then [] v old at = ap (λ (k : ℕ). sets old k v) (add-zero at)
sets_then (x ∷ u) v old at =
    let e : at + suc (length u) ≡ suc at + length u = omega arith in
    ap (λ (k : ℕ). sets (sets (set old at x) (suc at) u) k v) e ∙ sets_then u v (set old at x) (suc at)

-- a store behind a run comes before it or after it
sets_set : (u old : List ℕ) (at j x : ℕ) → at + length u ≤ j → sets (set old j x) at u ≡ set (sets old at u) j x
sets_set [] old at j x h = refl
sets_set (y ∷ u) old at j x h =
    let d : j ≡ at → ⊥ = λ e. omega arith in
    ap (λ (l : List ℕ). sets l (suc at) u) (set_comm old j at x y d) ∙ sets_set u (set old at y) (suc at) j x (omega arith)

-- the last element of a run stored first
pub sets_last : (u old : List ℕ) (at x : ℕ) → sets (set old (at + length u) x) at u ≡ sets old at (u ++ (x ∷ []))
sets_last u old at x =
    let h : at + length u ≤ at + length u = omega arith in
    sets_set u old at (at + length u) x h ∙ sets_then u (x ∷ []) old at

-- ---- a word stored at once

pub put_part : (old : List ℕ) (at : ℕ) (w : List ℕ) (k : ℕ) (now : List ℕ) → k ≡ length w → at + length w ≤ length old → now ≡ w
    → Put old at w (at + length w) (put_mid at k old now)
put_part old at w k now g h e =
    record {
      place = refl;
      list =
          put_mid-paste at k old now w k e refl g
          ∙ ap (λ (n : ℕ). take at old ++ take n w ++ drop (at + n) old) g
          ∙ ap (λ (x : List ℕ). take at old ++ x ++ drop (at + length w) old) (take_all (length w) w (omega arith))
          ∙ sym (sets-eq w old at h);
      room = h;
    }

-- ---- a word stored one byte a turn

pub store_next : (new w : List ℕ) (at i : ℕ) → i < length w
    → sets (set new (at + i) (get_or w i 0)) (at + (i + 1)) (drop (i + 1) w) ≡ sets new (at + i) (drop i w)
store_next new w at i h =
    let e : at + (i + 1) ≡ suc (at + i) = omega arith in
    rw (e, cons_at w i h)

pub stored : {old new : List ℕ} (w : List ℕ) (at i n : ℕ) → sets new (at + i) (drop i w) ≡ sets old at w → length w ≤ i → n ≡ length w
    → at + length w ≤ length old → Put old at w (at + n) new
stored {old} {new} w at i n e l h r =
    record {
      place = ap (λ (k : ℕ). at + k) h;
      list = sym (ap (λ (v : List ℕ). sets new (at + i) v) (drop_of_length-le w l)) ∙ e;
      room = r;
    }

-- ---- a word that has room, and one that has none

-- what it tells
module _ {r : Bool} (at n size : ℕ) (e : r ≡ leb (at + n) size) where
  pub has_room : r ≡ true → at + n ≤ size
  has_room t = leb-true (at + n) size (sym e ∙ t)

  pub lacks_room : r ≡ false → size < at + n
  lacks_room t = leb-false (at + n) size (sym e ∙ t)

-- what a writer's methods say of a piece: the place after it, the list with it, and that it is the same list that is lent
abbrev pub Puts : List ℕ → ℕ → List ℕ → ℕ → List ℕ → Type 0 → Type 0
Puts old at w n new same = record { place : n ≡ place_after old at w; bytes : new ≡ put old at w; same_buffer : same }

module _ (old : List ℕ) (at : ℕ) (w : List ℕ) where
  -- what a caller knows of a piece that has room
  pub put_room : at + length w ≤ length old → Put old at w (place_after old at w) (put old at w)
  unfolding put place_after
  put_room h =
      let t : leb (at + length w) (length old) ≡ true = le-leb (at + length w) (length old) h in
      record { place = pick_true _ _ _ t; list = pick_true _ _ _ t; room = h }

  pub puts_nothing : {same : Type 0} → length old < at + length w → same → Puts old at w at old same
  unfolding put place_after
  puts_nothing h g =
      let t : leb (at + length w) (length old) ≡ false = lt-leb (at + length w) (length old) h in
      record { place = sym (pick_false _ _ _ t); bytes = sym (pick_false _ _ _ t); same_buffer = g }

module _ {old new : List ℕ} {at n : ℕ} {same : Type 0} where
  pub puts_whole : {w : List ℕ} → Put old at w n new → same → Puts old at w n new same
  puts_whole {w} p g =
      let q = put_room old at w p.room in
      record { place = p.place ∙ sym q.place; bytes = p.list ∙ sym q.list; same_buffer = g }

  -- the same from a piece's equations
  pub put_of : (w : List ℕ) → Puts old at w n new same → at + length w ≤ length old → Put old at w n new
  put_of w e h =
      let p = put_room old at w h in
      record { place = e.place ∙ p.place; list = e.bytes ∙ p.list; room = h }

pub puts_same : (old : List ℕ) (at : ℕ) {u v new : List ℕ} {n : ℕ} {same : Type 0} → u ≡ v → Puts old at u n new same → Puts old at v n new same
puts_same old at e p = record { place = p.place ∙ ap (place_after old at) e; bytes = p.bytes ∙ ap (put old at) e; same_buffer = p.same_buffer }

-- ---- pieces of a line

-- stores keep the length
pub kept : {old w new : List ℕ} {at n : ℕ} → Put old at w n new → length new ≡ length old
kept {old} {w} {new} {at} {n} p = ap length p.list ∙ length-sets old at w

-- nothing, and one after the other
pub put_nothing : {old : List ℕ} {at : ℕ} → at ≤ length old → Put old at [] at old
put_nothing h = record { place = omega arith; list = refl; room = omega (arith, h) }

module _ {old : List ℕ} {at : ℕ} where
  pub then : {u v mid new : List ℕ} {m n : ℕ} → Put old at u m mid → Put mid m v n new → Put old at (u ++ v) n new
  then {u} {v} {mid} {new} {m} {n} p q =
      record {
        place = omega (arith, p.place, q.place, length-append u v);
        list = q.list ∙ (λ i. sets (p.list i) (p.place i) v) ∙ sets_then u v old at;
        room = omega (arith, p.place, q.room, kept p, length-append u v);
      }

  pub same : {u v new : List ℕ} {n : ℕ} → u ≡ v → Put old at u n new → Put old at v n new
  same {u} {v} {new} {n} e p = subst (λ (w : List ℕ). Put old at w n new) e p

-- a line with room for all of it: its first piece, then the rest, which has room too
module _ {old mid new : List ℕ} {at m n : ℕ} {v : List ℕ} where
  pub part : {u : List ℕ} → at + length (u ++ v) ≤ length old → Put old at u m mid → (m + length v ≤ length mid → Put mid m v n new)
      → Put old at (u ++ v) n new
  part {u} h p rest = then p (rest (omega (arith, h, p.place, kept p, length-append u v)))

  -- the same by the piece's equations
  pub piece : {s : Type 0} (u : List ℕ) → at + length (u ++ v) ≤ length old → Puts old at u m mid s → (m + length v ≤ length mid → Put mid m v n new)
      → Put old at (u ++ v) n new
  piece u h e rest = part h (put_of u e (omega (arith, h, length-append u v))) rest

-- by a writer that starts at a buffer's first place
pub from_start : {b old line new last : List ℕ} {at n : ℕ} → at ≡ 0 → old ≡ b → Put old at line n new → last ≡ new → Put b 0 line n last
from_start {line = line} e g p h =
    record {
      place = p.place ∙ ap (λ (k : ℕ). k + length line) e;
      list = h ∙ p.list ∙ λ i. sets (g i) (e i) line;
      room = omega (arith, p.room, e, ap length g);
    }

-- from the first place on
pub over : {old line new : List ℕ} {n : ℕ} → Put old 0 line n new → new ≡ line ++ drop n old
over {old} {line} {new} {n} p =
    let e : length line ≡ n = omega (arith, p.place) in
    p.list ∙ sets-eq line old 0 p.room ∙ ap (λ (k : ℕ). line ++ drop k old) (zero-add (length line) ∙ e)

pub line_end_lem : {old line new : List ℕ} {n : ℕ} → Put old 0 line n new → n ≡ length line
line_end_lem {old} {line} {new} {n} p = omega (arith, p.place)

-- into a part of a list, from its first place on
pub part_put : {new line ys : List ℕ} {a e n : ℕ} → a ≤ e → e ≤ length new → Put (mid_of a (e - a) new) 0 line n ys → Put new a line (a + n) (put_mid a (e - a) new ys)
part_put {new} {line} {ys} {a} {e} {n} h l p =
    let k = e - a in
    let wide : length (mid_of a k new) ≡ k = mid_len a e new l in
    let room : a + length line ≤ length new = omega (arith, p.room, wide, h) in
    let within : n ≤ length (take k (drop a new)) = omega (arith, p.room, line_end_lem p) in
    let rest : drop n (take k (drop a new)) ++ drop k (drop a new) ≡ drop (a + length line) new =
    sym (drop-append-le n (take k (drop a new)) (drop k (drop a new)) within)
    ∙ ap (drop n) (take-append-drop k (drop a new))
    ∙ drop-drop n a new
    ∙ ap (λ (m : ℕ). drop (a + m) new) (line_end_lem p) in
    record {
      place = ap (λ (m : ℕ). a + m) (line_end_lem p);
      list =
          ap (λ (z : List ℕ). take a new ++ (z ++ drop k (drop a new))) (over p)
          ∙ ap (λ (z : List ℕ). take a new ++ z) (append_assoc line (drop n (take k (drop a new))) (drop k (drop a new)) ∙ ap (λ (z : List ℕ). line ++ z) rest)
          ∙ sym (sets-eq line new a room ∙ append_assoc (take a new) line (drop (a + length line) new));
      room = room;
    }
