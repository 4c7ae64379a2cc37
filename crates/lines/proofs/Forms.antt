-- The forms of a line exclude each other; what they hold fits the arrays. Assumes nothing.
use mathlib.Core.Path.{◌≡◌, refl, sym, ap, subst, ◌∙◌}
use mathlib.Core.Bool.{Bool, true, false}
use mathlib.Core.List.{List, [], ◌∷◌, ◌++◌}
use Prim.Native.Nat.{ℕ, zero, suc, ◌+◌, ◌-◌, ◌*◌, ◌<◌, ◌≤◌}
use native.Mathlib.Nat.{add-zero}
use native.Mathlib.Omega.{arith}
use lib.ListN.{length, get_or, take, drop, replicate, length-replicate, length-append}
use lib.Seq.{sets, sets-eq, get_or-drop, take-append_seam}
use lib.Dec.{eqb, leb}
use lib.IntN.{ℤ, pos}
use borrow.Author.Tests.{eqb-true, leb-true, le-leb, lt-leb}
use Rattle.questions.specs.declared.Question.TheVariants as ask
use Rattle.laws.specs.Choice.{pick}
use Rattle.laws.specs.Bytes.{bytes, starts_with}
use Rattle.laws.proofs.Choice.{true_false, pick_true, pick_false, by_cases}
use Rattle.tokens.specs.Classes.{within as in_range, is_letter}
use Rattle.lines.specs.Lines.{Span, Part, Names, Lists, Asked, refused, tick, jump, call, agreement, Parsed, done, no, and_then, give, otherwise, skipped, is_next, mark, end, name_from, name, verb, integer, list, names, lists, part, parts, tick_line, call_line, agreement_line, or_refused, asked}
use Rattle.lines.specs.Answers.{padded, request_of, numbers_of, numbers_after, fields_of, heads_of, spans_of, values_of, agreement_of, agreement_in}
use Rattle.std.specs.Prelude.{Option, Some, None, Ok, Err, ok_or}
use Rattle.std.specs.Option.{MatchOption, IsSomeAnd}
use Rattle.lines.specs.Private.{Spot, given, span_from, CallIs, AgreementIs, Integers, with_integers}
use Rattle.lines.specs.declared.Span as declared
use Rattle.lines.specs.declared.Request.{Request}
use Rattle.lines.specs.declared.Request.TheVariants as request
use Rattle.lines.specs.declared.Call.{Call}
use Rattle.lines.specs.declared.Agreement.{Agreement}
use Rattle.lines.proofs.Got.{Filled}
use Rattle.lines.proofs.Ahead.{then_done, taken, mark_size}
use Rattle.lines.proofs.Flat.{sets_append, spans_length, values_length, heads_length}
use Rattle.lines.proofs.Turns.{begin, missing, next_yes}
use Rattle.lines.proofs.Size.{total, items_size, total_eight, integers_size}
use Rattle.lines.proofs.Times.{Timed, ticks, jumps, timed_agreement, tick_gives}
use Rattle.lines.proofs.Agreed.{part_size, placed}

-- ---- arrays

drop_replicate : {A : Type 0} (a : A) (k n : ℕ) → drop k (replicate n a) ≡ replicate (n - k) a
drop_replicate a zero n = let q : n ≡ n - 0 = omega arith in ap (λ (k : ℕ). replicate k a) q
drop_replicate a (suc k) zero = let q : 0 ≡ 0 - suc k = omega arith in ap (λ (j : ℕ). replicate j a) q
drop_replicate a (suc k) (suc n) =
    let q : n - k ≡ suc n - suc k = omega arith in
    drop_replicate a k n ∙ ap (λ (j : ℕ). replicate j a) q

-- stores into zeros
pub padded_by : {A : Type 0} (a : A) (n : ℕ) (xs : List A) → length xs ≤ n → sets (replicate n a) 0 xs ≡ padded a n xs
padded_by a n xs h =
    sets-eq xs (replicate n a) 0 (omega (arith, length-replicate n a))
    ∙ (let q : 0 + length xs ≡ length xs = omega arith in ap (λ (l : List _). xs ++ l) (ap (λ (k : ℕ). drop k (replicate n a)) q ∙ drop_replicate a (length xs) n))

-- ---- how much a line holds

end_stays : (s : List ℕ) (at n : ℕ) → end s at ≡ done tt n → (at + 0 ≤ n) × (at ≤ length s → n ≤ length s)
unfolding end
end_stays s at n e =
    let t = taken (leb (length s) (skipped s at)) (done tt at) e in
    let q : at ≡ n = cc in
    (omega arith, λ h. omega arith)

total_fields : (ps : List Part) → total (λ x. 6 * length x.fields) ps ≡ 6 * length (fields_of ps)
unfolding fields_of
total_fields [] = refl
total_fields (p ∷ ps) = omega (arith, total_fields ps, length-append p.fields (fields_of ps))

module _ (s : List ℕ) (short : length s ≤ 512) where
  -- at most 64 parts
  pub parts_fit : (ps : List Part) (n : ℕ) → parts s 0 ≡ done ps n → length ps ≤ 64
  unfolding parts
  parts_fit ps n e =
      let a = items_size s (part s) (bytes "||") (end s) (λ x. 8) 2 0
      (λ at m x q. (omega (arith, (part_size s at q).least), (part_size s at q).inside))
      (λ at m. mark_size s (bytes "||") at) (end_stays s) (length s) 0 ps n e in
      omega (arith, a.0, a.1, total_eight ps)

  -- at most 85 fields
  pub fields_fit : (ps : List Part) (n : ℕ) → parts s 0 ≡ done ps n → length (fields_of ps) ≤ 85
  unfolding parts
  fields_fit ps n e =
      let a = items_size s (part s) (bytes "||") (end s) (λ x. 6 * length x.fields) 0 0
      (λ at m x q. (omega (arith, (part_size s at q).each), (part_size s at q).inside))
      (λ at m q. omega (arith, mark_size s (bytes "||") at q)) (end_stays s) (length s) 0 ps n e in
      omega (arith, a.0, a.1, total_fields ps)

  -- at most 255 integers
  pub lists_fit : (at : ℕ) (l : Lists) (n : ℕ) → lists s at ≡ done l n → length (l.values ++ l.assets) ≤ 255
  unfolding lists
  lists_fit at l n e =
      let a = then_done (list s (bytes "(") (integer s) (bytes ")") at) (λ vs i. and_then (list s (bytes "[") (integer s) (bytes "]") i) (λ hs j. and_then (end s j) (λ u. give (record { values = vs; assets = hs })))) e in
      let b = then_done (list s (bytes "[") (integer s) (bytes "]") a.place) (λ hs j. and_then (end s j) (λ u. give (record { values = a.got; assets = hs }))) a.rest in
      let d = then_done (end s b.place) (λ u. give (record { values = a.got; assets = b.got })) b.rest in
      let q : record { values = a.got; assets = b.got } ≡ l = cc in
      let k : length (a.got ++ b.got) ≡ length (l.values ++ l.assets) = ap (λ (y : Lists). length (y.values ++ y.assets)) q in
      omega (
        arith,
        length-append a.got b.got,
        (integers_size s 40 41 at a.got a.place a.first).0,
        integers_size s 91 93 a.place b.got b.place b.first,
      )

-- ---- the first tokens tell the forms apart

starts_byte : (t : List ℕ) (b : ℕ) → starts_with t (b ∷ []) ≡ true → get_or t 0 0 ≡ b
unfolding starts_with pick
starts_byte [] b e = true_false (sym e)
starts_byte (x ∷ t) b e = go (eqb x b) refl e
  where
    go : (y : Bool) → eqb x b ≡ y → pick y true false ≡ true → x ≡ b
    go true q r = eqb-true x b q
    go false q r = true_false (sym r)

module _ (s : List ℕ) where
  mark_byte : {n : ℕ} (b at : ℕ) → mark s (b ∷ []) at ≡ done tt n → get_or s (skipped s at) 0 ≡ b
  unfolding is_next
  mark_byte b at e =
      ap (λ (k : ℕ). get_or s k 0) (sym (add-zero (skipped s at)))
      ∙ sym (get_or-drop (skipped s at) s 0 0)
      ∙ starts_byte (drop (skipped s at) s) b (next_yes s (b ∷ []) at e)

  -- no name starts with such a mark
  no_name : {n : ℕ} (b at : ℕ) → is_letter b ≡ false → mark s (b ∷ []) at ≡ done tt n → name s at ≡ no
  unfolding name name_from
  no_name b at h e = pick_false _ _ _ (ap is_letter (mark_byte b at e) ∙ h)

  no_part : part s 0 ≡ no → agreement_line s 0 ≡ no
  unfolding agreement_line parts
  no_part e = rw (missing s (part s) (bytes "||") (end s) (begin s (part s) (bytes "||") (end s) 0) e)

  bracket : is_letter 91 ≡ false
  unfolding is_letter in_range pick
  bracket = refl

  colon : is_letter 58 ≡ false
  unfolding is_letter in_range pick
  colon = refl

  pub tick_alone : {a : Asked} {n : ℕ} → tick_line s 0 ≡ done a n → Timed a × (agreement_line s 0 ≡ no)
  unfolding part
  tick_alone e = let g = tick_gives s e in (g.timed, no_part (rw (no_name 91 0 bracket g.opened)))

  after_names : Names → ℕ → Parsed Asked
  after_names m i = and_then (lists s i) (λ l. give (call (record { names = m; lists = l })))

  after_party : Span → ℕ → Parsed Names
  after_party p i = and_then (mark s (bytes ":") i) (λ u j. and_then (name s j) (λ f. give (record { party = p; function = f })))

  pub call_alone : {a : Asked} {n : ℕ} → call_line s 0 ≡ done a n → (agreement_in a ≡ None) × (agreement_line s 0 ≡ no)
  unfolding call_line names after_names after_party part verb
  call_alone {a} {n} e =
      let x = then_done (names s 0) after_names e in
      let y = then_done (lists s x.place) (λ l. give (call (record { names = x.got; lists = l }))) x.rest in
      let z = then_done (name s 0) after_party x.first in
      let w = then_done (mark s (bytes ":") z.place) (λ u j. and_then (name s j) (λ f. give (record { party = z.got; function = f }))) z.rest in
      let q : call (record { names = x.got; lists = y.got }) ≡ a = cc in
      (sym (ap agreement_in q), no_part (rw (z.first, no_name 58 z.place colon w.first)))

-- ---- what a line asks for

pub asked_long : (s : List ℕ) → 512 < length s → asked s ≡ refused ask.LineLength
unfolding asked
asked_long s h = pick_false _ _ _ (lt-leb (length s) 512 h)

module _ (s : List ℕ) (short : length s ≤ 512) where
  asked_short : asked s ≡ or_refused (otherwise (tick_line s 0) (otherwise (call_line s 0) (agreement_line s 0)))
  unfolding asked
  asked_short = pick_true _ _ _ (le-leb (length s) 512 short)

  -- by the first form that reads it
  pub asked_timed : {a : Asked} {n : ℕ} → tick_line s 0 ≡ done a n → asked s ≡ a
  asked_timed e = asked_short ∙ rw e

  module _ (t : tick_line s 0 ≡ no) where
    pub asked_called : {a : Asked} {n : ℕ} → call_line s 0 ≡ done a n → asked s ≡ a
    asked_called e = asked_short ∙ rw (t, e)

    module _ (c : call_line s 0 ≡ no) where
      pub asked_agreed : {ps : List Part} {n : ℕ} → parts s 0 ≡ done ps n → asked s ≡ agreement ps
      unfolding agreement_line
      asked_agreed e = asked_short ∙ rw (t, c, e)

      pub asked_none : parts s 0 ≡ no → asked s ≡ refused ask.LineForm
      unfolding agreement_line
      asked_none e = asked_short ∙ rw (t, c, e)

  -- the parts of any line are those of an agreement
  asked_parts : agreement_in (or_refused (agreement_line s 0)) ≡ agreement_in (asked s)
  asked_parts = go (tick_line s 0) (call_line s 0) refl refl ∙ sym (ap agreement_in asked_short)
    where
      go : (p q : Parsed Asked) → tick_line s 0 ≡ p → call_line s 0 ≡ q → agreement_in (or_refused (agreement_line s 0)) ≡ agreement_in (or_refused (otherwise p (otherwise q (agreement_line s 0))))
      go (done a n) q e f = ap (λ (x : Parsed Asked). agreement_in (or_refused x)) (tick_alone s e).1 ∙ sym (timed_agreement (tick_alone s e).0)
      go no (done a n) e f = ap (λ (x : Parsed Asked). agreement_in (or_refused x)) (call_alone s f).1 ∙ sym (call_alone s f).0
      go no no e f = refl

  pub agreement_told : given agreement_of (parts s 0) ≡ agreement_in (asked s)
  unfolding agreement_line
  agreement_told = as_asked (parts s 0) ∙ asked_parts
    where
      as_asked : (p : Parsed (List Part)) → given agreement_of p ≡ agreement_in (or_refused (and_then p (λ ps. give (agreement ps))))
      as_asked (done ps n) = refl
      as_asked no = refl

  pub agreement_read : {u : Unit} {out : Agreement} → AgreementIs (parts s 0) (Some u) out → Some out ≡ agreement_in (asked s)
  agreement_read {u} {out} w = go (parts s 0) w ∙ agreement_told
    where
      go : (p : Parsed (List Part)) → AgreementIs p (Some u) out → Some out ≡ given agreement_of p
      go (done ps n) h = ap Some h.1
      go no h = cc

  pub agreement_missed : (out : Agreement) → AgreementIs (parts s 0) None out → None ≡ agreement_in (asked s)
  agreement_missed out w = go (parts s 0) w ∙ agreement_told
    where
      go : (p : Parsed (List Part)) → AgreementIs p None out → None ≡ given agreement_of p
      go (done ps n) h = let k = h.0 in cc
      go no h = refl

  -- what was stored
  pub parts_made : {n : ℕ} {ps : List Part} → parts s 0 ≡ done ps n → placed ps ≡ agreement_of ps
  unfolding agreement_of
  parts_made {n} {ps} e =
      let a : length (heads_of ps) ≤ 256 = omega (arith, heads_length ps, parts_fit s short ps n e) in
      let b : length (spans_of (fields_of ps)) ≤ 172 = omega (arith, spans_length (fields_of ps), fields_fit s short ps n e) in
      let c : length (values_of (fields_of ps)) ≤ 86 = omega (arith, values_length (fields_of ps), fields_fit s short ps n e) in
      λ j. record { parts = length ps; fields = length (fields_of ps); heads = padded_by 0 256 (heads_of ps) a j; spans = padded_by 0 172 (spans_of (fields_of ps)) b j; values = padded_by (pos 0) 86 (values_of (fields_of ps)) c j }

-- a tick or a jump leaves a list as it was
pub timed_numbers : {a : Asked} (old : List ℤ) → Timed a → numbers_after a old ≡ old
timed_numbers old ticks = refl
timed_numbers old (jumps z) = refl

-- ---- what a line asks for, told by the first form that reads it

-- a list after a line
abbrev Left : List ℤ → List ℤ → Asked → Type 0
Left old new a = new ≡ numbers_after a old

module _ (s : List ℕ) (short : length s ≤ 512) where
  pub time_told : {x : Request} → Some (Ok x) ≡ given request_of (tick_line s 0) → Ok x ≡ request_of (asked s)
  time_told {x} q = go (tick_line s 0) refl q
    where
      go : (p : Parsed Asked) → tick_line s 0 ≡ p → Some (Ok x) ≡ given request_of p → Ok x ≡ request_of (asked s)
      go (done a n) e h =
          let k : Ok x ≡ request_of a = cc in
          k ∙ sym (ap request_of (asked_timed s short e))
      go no e h = cc

  pub time_left : (old : List ℤ) {x : Request} → Some (Ok x) ≡ given request_of (tick_line s 0) → Left old old (asked s)
  time_left old {x} q = go (tick_line s 0) refl q
    where
      go : (p : Parsed Asked) → tick_line s 0 ≡ p → Some (Ok x) ≡ given request_of p → Left old old (asked s)
      go (done a n) e h = subst (Left old old) (sym (asked_timed s short e)) (sym (timed_numbers old (tick_alone s e).0))
      go no e h = cc

  module _ (t : tick_line s 0 ≡ no) where
    pub call_told : {x : Call} (old new : List ℤ) → CallIs (call_line s 0) old (Some x) new → (Ok (request.Call x) ≡ request_of (asked s)) × Left old new (asked s)
    call_told {x} old new q = go (call_line s 0) refl q
      where
        go : (p : Parsed Asked) → call_line s 0 ≡ p → CallIs p old (Some x) new → (Ok (request.Call x) ≡ request_of (asked s)) × Left old new (asked s)
        go (done a n) e h =
            let k : Ok (request.Call x) ≡ request_of a = let w = h.0 in cc in
            (k ∙ sym (ap request_of (asked_called s short t e)), subst (Left old new) (sym (asked_called s short t e)) h.1)
        go no e h = cc

    module _ (c : call_line s 0 ≡ no) where
      pub parts_told : {P : Agreement → Request → Type 0} (r : Option Agreement) (m : Option Request) → r ≡ given agreement_of (parts s 0) → ((y : Agreement) (z : Request) → P y z → z ≡ request.Agreement) → MatchOption r (m ≡ None) (λ y. IsSomeAnd m (P y)) → ok_or m ask.LineForm ≡ request_of (asked s)
      unfolding request_of
      parts_told {P} r m q f w = go (parts s 0) refl r m q w
        where
          go : (p : Parsed (List Part)) → parts s 0 ≡ p → (t : Option Agreement) (n : Option Request) → t ≡ given agreement_of p → MatchOption t (n ≡ None) (λ y. IsSomeAnd n (P y)) → ok_or n ask.LineForm ≡ request_of (asked s)
          go (done ps k) e (Some y) (Some z) h w = ap (λ (x : Request). Ok x) (f y z w) ∙ sym (ap request_of (asked_agreed s short t c e))
          go (done ps k) e (Some y) None h w = absurd w
          go (done ps k) e None n h w = cc
          go no e (Some y) n h w = cc
          go no e None n h w = ap (λ (o : Option Request). ok_or o ask.LineForm) w ∙ sym (ap request_of (asked_none s short t c e))

      -- the same where the agreement is lent
      pub parts_filled : {P : Unit → Request → Type 0} (r : Option Unit) (m : Option Request) (out : Agreement) → AgreementIs (parts s 0) r out → ((y : Unit) (z : Request) → P y z → z ≡ request.Agreement) → MatchOption r (m ≡ None) (λ y. IsSomeAnd m (P y)) → ok_or m ask.LineForm ≡ request_of (asked s)
      unfolding request_of
      parts_filled {P} r m out q f w = go (parts s 0) refl r m q w
        where
          go : (p : Parsed (List Part)) → parts s 0 ≡ p → (t : Option Unit) (n : Option Request) → AgreementIs p t out → MatchOption t (n ≡ None) (λ y. IsSomeAnd n (P y)) → ok_or n ask.LineForm ≡ request_of (asked s)
          go (done ps k) e (Some y) (Some z) h w = ap (λ (x : Request). Ok x) (f y z w) ∙ sym (ap request_of (asked_agreed s short t c e))
          go (done ps k) e (Some y) None h w = absurd w
          go (done ps k) e None n h w = let i = h.0 in cc
          go no e (Some y) n h w = cc
          go no e None n h w = ap (λ (o : Option Request). ok_or o ask.LineForm) w ∙ sym (ap request_of (asked_none s short t c e))

      -- what is no tick, no jump and no call has no numbers
      pub other_left : (old : List ℤ) → Left old old (asked s)
      other_left old = go (parts s 0) refl
        where
          go : (p : Parsed (List Part)) → parts s 0 ≡ p → Left old old (asked s)
          go (done ps n) e = subst (Left old old) (sym (asked_agreed s short t c e)) refl
          go no e = subst (Left old old) (sym (asked_none s short t c e)) refl

-- a line that is too long
pub long_told : (s : List ℕ) → 512 < length s → Err ask.LineLength ≡ request_of (asked s)
unfolding request_of
long_told s h = sym (ap request_of (asked_long s h))

pub long_left : (s : List ℕ) (old : List ℤ) → 512 < length s → Left old old (asked s)
long_left s old h = subst (Left old old) (sym (asked_long s h)) refl

-- ---- how many integers a line has

module _ (s : List ℕ) where
  abbrev Few : Asked → Type 0
  Few a = length (numbers_of a) ≤ 255

  timed_few : {a : Asked} → Timed a → Few a
  timed_few ticks = omega arith
  timed_few (jumps z) = omega arith

  call_few : {a : Asked} {n : ℕ} → length s ≤ 512 → call_line s 0 ≡ done a n → Few a
  unfolding call_line after_names
  call_few {a} {n} short e =
      let x = then_done (names s 0) (after_names s) e in
      let y = then_done (lists s x.place) (λ l. give (call (record { names = x.got; lists = l }))) x.rest in
      let q : call (record { names = x.got; lists = y.got }) ≡ a = cc in
      subst Few q (lists_fit s short x.place y.got y.place y.first)

  short_few : length s ≤ 512 → Few (or_refused (otherwise (tick_line s 0) (otherwise (call_line s 0) (agreement_line s 0))))
  unfolding agreement_line
  short_few short = go (tick_line s 0) (call_line s 0) (parts s 0) refl refl
    where
      go : (p q : Parsed Asked) (r : Parsed (List Part)) → tick_line s 0 ≡ p → call_line s 0 ≡ q → Few (or_refused (otherwise p (otherwise q (and_then r (λ ps. give (agreement ps))))))
      go (done a n) q r e f = timed_few (tick_alone s e).0
      go no (done a n) r e f = call_few short f
      go no no (done ps n) e f = omega arith
      go no no no e f = omega arith

  pub numbers_fit : Few (asked s)
  unfolding asked
  numbers_fit = by_cases Few _ _ _ (λ e. short_few (leb-true (length s) 512 e)) (λ e. omega arith)

-- a call that was read into a list of its own, and stored into another from there
pub call_put : (x : Call) (s : List ℕ) (old own new : List ℤ) → length s ≤ 512 → length own ≡ 256 → CallIs (call_line s 0) own (Some x) new
    → (x.values + x.assets ≤ 255) × CallIs (call_line s 0) old (Some x) (sets old 0 (take (x.values + x.assets) new))
unfolding request_of
call_put x s old own new short full q = go (call_line s 0) refl q
  where
    go : (p : Parsed Asked) → call_line s 0 ≡ p → CallIs p own (Some x) new → (x.values + x.assets ≤ 255) × CallIs p old (Some x) (sets old 0 (take (x.values + x.assets) new))
    go (done (call c) n) e h =
        let zs = c.lists.values ++ c.lists.assets in
        let few : length zs ≤ 255 = call_few s short e in
        let w = h.0 in
        let v : x.values ≡ length c.lists.values = cc in
        let a : x.assets ≡ length c.lists.assets = cc in
        let k : x.values + x.assets ≡ length zs = omega (arith, v, a, length-append c.lists.values c.lists.assets) in
        let front : take (length zs) new ≡ zs = ap (take (length zs)) (h.1 ∙ sets-eq zs own 0 (omega (arith, few, full))) ∙ take-append_seam zs _ in
        (omega (arith, k, few), (w, ap (sets old 0) (ap (λ (j : ℕ). take j new) k ∙ front)))
    go (done tick n) e h = let w = h.0 in cc
    go (done (jump z) n) e h = let w = h.0 in cc
    go (done (agreement ps) n) e h = let w = h.0 in cc
    go (done (refused q) n) e h = let w = h.0 in cc
    go no e h = cc

-- ---- a call

module _ (s : List ℕ) where
  pub no_party : name s 0 ≡ no → call_line s 0 ≡ no
  unfolding call_line names
  no_party e = rw e

  module _ {p : Span} {i : ℕ} (e : name s 0 ≡ done p i) where
    pub no_colon : mark s (58 ∷ []) i ≡ no → call_line s 0 ≡ no
    unfolding call_line names
    no_colon f = rw (e, f)

    module _ {j : ℕ} (m : mark s (58 ∷ []) i ≡ done tt j) where
      pub no_function : name s j ≡ no → call_line s 0 ≡ no
      unfolding call_line names
      no_function f = rw (e, m, f)

      pub names_read : {f : Span} {k : ℕ} → name s j ≡ done f k → names s 0 ≡ done (record { party = p; function = f }) k
      unfolding names
      names_read f = rw (e, m, f)

module _ (s : List ℕ) {m : Names} {d : ℕ} (e : names s 0 ≡ done m d) where
  pub no_values : list s (40 ∷ []) (integer s) (41 ∷ []) d ≡ no → call_line s 0 ≡ no
  unfolding call_line lists
  no_values f = rw (e, f)

  module _ {vs : List ℤ} {i : ℕ} (v : list s (40 ∷ []) (integer s) (41 ∷ []) d ≡ done vs i) where
    pub no_assets : list s (91 ∷ []) (integer s) (93 ∷ []) i ≡ no → call_line s 0 ≡ no
    unfolding call_line lists
    no_assets f = rw (e, v, f)

    module _ {hs : List ℤ} {j : ℕ} (w : list s (91 ∷ []) (integer s) (93 ∷ []) i ≡ done hs j) where
      pub call_more : end s j ≡ no → call_line s 0 ≡ no
      unfolding call_line lists
      call_more f = rw (e, v, w, f)

      call_whole : end s j ≡ done tt j → call_line s 0 ≡ done (call (record { names = m; lists = record { values = vs; assets = hs } })) j
      unfolding call_line lists
      call_whole f = rw (e, v, w, f)

pub call_made : {party function : declared.Span} {d : ℕ} {old : List ℤ} {first second : Integers} {middle last : Spot} (s : List ℕ) → names s 0 ≡ done (record { party = span_from party; function = span_from function }) d
    → Filled (with_integers (record { count = 0; all = old })) (list s (40 ∷ []) (integer s) (41 ∷ []) d) s middle first → Filled (with_integers first) (list s (91 ∷ []) (integer s) (93 ∷ []) middle.at) s last second → end s last.at ≡ done tt last.at
    → CallIs (call_line s 0) old (Some (record { party = party; function = function; values = first.count; assets = second.count - first.count })) second.all
unfolding request_of
call_made {party} {function} {d} {old} {first} {second} {middle} {last} s e v w f =
    let u : first ≡ with_integers (record { count = 0; all = old }) v.read = v.out_is in
    let a : first.count ≡ length v.read = ap (λ (y : Integers). y.count) u ∙ (let n : 0 + length v.read ≡ length v.read = omega arith in n) in
    let b : second.count - first.count ≡ length w.read = omega (arith, ap (λ (y : Integers). y.count) w.out_is) in
    let n : second.all ≡ sets old 0 (v.read ++ w.read) =
    ap (λ (y : Integers). y.all) (w.out_is ∙ ap (λ (y : Integers). with_integers y w.read) u)
    ∙ sym (sets_append old 0 v.read w.read) in
    rw (call_whole s e v.is.parsed w.is.parsed f)
    (λ t. Some (Ok (request.Call (record { party = party; function = function; values = a t; assets = b t }))), n)

-- the same list
pub call_as : (p : Parsed Asked) (old : List ℤ) (r : Option Call) {new now : List ℤ} → CallIs p old r new → now ≡ new → CallIs p old r now
call_as p old r w e = subst (CallIs p old r) (sym e) w

-- a line that is no call
pub call_missed : (old new : List ℤ) (p : Parsed Asked) → CallIs p old None new → p ≡ no
call_missed old new (done a n) w = let h = w.0 in cc
call_missed old new no w = refl
