-- An agreement's parts: their sizes, and what was read and stored. Assumes nothing.
use mathlib.Core.Path.{◌≡◌, refl, sym, ap, subst, ◌∙◌}
use mathlib.Core.Bool.{Bool, true, false}
use mathlib.Core.List.{List, [], ◌∷◌, ◌++◌, append-nil}
use Prim.Native.Nat.{ℕ, suc, ◌+◌, ◌-◌, ◌*◌, ◌<◌, ◌≤◌}
use native.Mathlib.Omega.{arith}
use lib.ListN.{length, get_or, drop, replicate, length-take, length-append}
use lib.Seq.{sets, get_or-drop}
use lib.Dec.{ltb}
use lib.IntN.{pos}
use borrow.Author.Tests.{ltb-true, ltb-false}
use Rattle.laws.specs.Choice.{pick}
use Rattle.laws.specs.Bytes.{bytes, same_bytes}
use Rattle.laws.proofs.Choice.{true_false, by_cases, pick_true, pick_false}
use Rattle.laws.proofs.Bytes.{same_equal}
use Rattle.words.specs.Words.{spelled}
use Rattle.tokens.specs.Classes.{within as in_range, is_letter, is_digit, is_name_byte, run}
use Rattle.tokens.specs.Tokens.{between}
use Rattle.lines.specs.Lines.{Span, Verb, set, ok, Field, Part, Parsed, done, no, and_then, give, skipped, name, is_word, verb, field, list, part}
use Rattle.lines.specs.Answers.{verb_number, fields_of, heads_of, spans_of, values_of, agreement_of}
use Rattle.lines.specs.Private.{Spot, verb_from, verb_word, with_fields, with_head, with_part}
use Rattle.lines.specs.declared.Agreement.{Agreement}
use Rattle.contract.specs.declared.Verb as declared
use Rattle.contract.specs.declared.Verb.TheVariants as word
use Rattle.lines.proofs.Got.{Filled}
use Rattle.lines.proofs.Ahead.{Ahead, Then, then_done, skipped_on, name_span, name_ahead, letter_name, field_size}
use Rattle.lines.proofs.Flat.{spans_more, values_more, heads_more, fields_append}
use Rattle.lines.proofs.Size.{list_size, total_six}

-- ---- sizes

name_zero : is_name_byte 0 ≡ false
unfolding is_name_byte is_letter is_digit in_range pick
name_zero = refl

-- a run ends before a byte of another class
run_stops : (p : ℕ → Bool) → p 0 ≡ false → (t : List ℕ) → p (get_or t (run p t) 0) ≡ false
unfolding run pick
run_stops p z [] = z
run_stops p z (x ∷ t) = go (p x) refl (run_stops p z t)
  where
    go : (b : Bool) → p x ≡ b → p (get_or t (run p t) 0) ≡ false → p (get_or (x ∷ t) (pick b (suc (run p t)) 0) 0) ≡ false
    go true q r = r
    go false q r = q

length_between : (s : List ℕ) (a e : ℕ) → length (between s a e) ≤ e - a
unfolding between
length_between s a e =
    by_cases (λ (t : List ℕ). length t ≤ e - a) _ _ _
    (λ h. by_cases (λ (t : List ℕ). length t ≤ e - a) _ _ _ (λ k. omega (arith, length-take (e - a) (drop a s))) (λ k. omega arith))
    (λ h. omega arith)

module _ (s : List ℕ) where
  -- a space stands between two names
  names_apart : {x y : Span} {n m : ℕ} (at : ℕ) → name s at ≡ done x n → name s n ≡ done y m → n < skipped s n
  names_apart {x} {y} {n} {m} at e f = go (ltb n (skipped s n)) refl
    where
      go : (b : Bool) → ltb n (skipped s n) ≡ b → n < skipped s n
      go true q = ltb-true n (skipped s n) q
      go false q =
          let i = skipped s at in
          let h : skipped s n ≤ n = ltb-false n (skipped s n) q in
          let r : skipped s n ≡ n = omega (arith, skipped_on s n) in
          let a : is_letter (get_or s n 0) ≡ true = subst (λ (k : ℕ). is_letter (get_or s k 0) ≡ true) r (name_span s n f).3 in
          let b : is_name_byte (get_or s n 0) ≡ false = ap (λ (k : ℕ). is_name_byte (get_or s k 0)) (name_span s at e).2 ∙ ap is_name_byte (sym (get_or-drop i s (run is_name_byte (drop i s)) 0)) ∙ run_stops is_name_byte name_zero (drop i s) in
          true_false (sym (letter_name (get_or s n 0) a) ∙ b)

  word_size : (a e k : ℕ) → same_bytes (between s a e) (spelled k) ≡ true → length (spelled k) ≤ e - a
  word_size a e k q = omega (arith, ap length (same_equal (between s a e) (spelled k) q), length_between s a e)

  -- a verb has two bytes or more
  verb_size : {v : Verb} {n : ℕ} (at : ℕ) → verb s at ≡ done v n → (skipped s at + 2 ≤ n) × (n ≤ length s) × Then (name s at) (λ x i. pick (is_word s x 37) (done set i) (pick (is_word s x 38) (done ok i) no)) v n
  unfolding verb is_word spelled
  verb_size {v} {n} at e =
      let a = then_done (name s at) (λ x i. pick (is_word s x 37) (done set i) (pick (is_word s x 38) (done ok i) no)) e in
      let p = name_span s at a.first in
      let w = go a.got a.place (is_word s a.got 37) (is_word s a.got 38) refl refl a.rest in (
        omega (arith, p.0, p.1, w.1),
        omega (arith, (name_ahead s at a.first).inside, w.0),
        a,
      )
    where
      go : (x : Span) (i : ℕ) (b b' : Bool) → is_word s x 37 ≡ b → is_word s x 38 ≡ b' → pick b (done set i) (pick b' (done ok i) no) ≡ done v n → (i ≡ n) × (2 ≤ x.end - x.start)
      go x i true b' q q' r =
          let t : done set i ≡ done v n = sym (pick_true _ _ _ refl) ∙ r in
          (cc, omega (arith, word_size x.start x.end 37 q))
      go x i false true q q' r =
          let t : done ok i ≡ done v n = sym (pick_false _ _ _ refl ∙ pick_true _ _ _ refl) ∙ r in
          (cc, omega (arith, word_size x.start x.end 38 q'))
      go x i false false q q' r =
          let t : no ≡ done v n = sym (pick_false _ _ _ refl ∙ pick_false _ _ _ refl) ∙ r in
          let z : ◌≡◌ {A = ℕ} 0 1 = cc in absurd (omega arith)

  field_each : (at n : ℕ) (x : Field) → field s at ≡ done x n → (at + 6 ≤ n + 1) × (n ≤ length s)
  field_each at n x e = (omega (arith, (field_size s at e).0), (field_size s at e).1)

  part_of : Span → Verb → List Field → Part
  part_of x v fs = record { party = x; verb = v; fields = fs }

  after_verb : Span → Verb → ℕ → Parsed Part
  after_verb x v j = and_then (list s (bytes "[") (field s) (bytes "]") j) (λ fs. give (part_of x v fs))

  after_party : Span → ℕ → Parsed Part
  after_party x i = and_then (verb s i) (after_verb x)

  -- a part has a name, a space, a verb and brackets; a field takes six bytes
  pub record PartSize (at : ℕ) (x : Part) (n : ℕ) : Type 0 where
    pub least : at + 6 ≤ n
    pub each : at + 6 * length x.fields ≤ n
    pub inside : n ≤ length s

  pub part_size : {x : Part} {n : ℕ} (at : ℕ) → part s at ≡ done x n → PartSize at x n
  unfolding part part_of after_verb after_party
  part_size {x} {n} at e =
      let a = then_done (name s at) after_party e in
      let b = then_done (verb s a.place) (after_verb a.got) a.rest in
      let d = then_done (list s (bytes "[") (field s) (bytes "]") b.place) (λ fs. give (part_of a.got b.got fs)) b.rest in
      let p : d.place ≡ n = cc in
      let q : part_of a.got b.got d.got ≡ x = cc in
      let l : length d.got ≡ length x.fields = ap (λ (y : Part). length y.fields) q in
      let v = verb_size a.place b.first in
      let g = names_apart at a.first v.2.first in
      let t = list_size s 91 93 (field s) 6 (omega arith) field_each b.place d.got d.place d.first in
      record {
        least = omega (arith, (name_ahead s at a.first).more, v.0, t.some);
        each = omega (arith, (name_ahead s at a.first).more, v.0, t.bytes, total_six d.got);
        inside = omega (arith, t.inside);
      }

  pub part_ahead : {x : Part} {n : ℕ} (at : ℕ) → part s at ≡ done x n → Ahead s at n
  part_ahead at e = let z = part_size at e in record { more = omega (arith, z.least); inside = z.inside }

-- ---- a verb

pub verb_word_is : (v : declared.Verb) → verb_word v ≡ verb_number (verb_from v)
verb_word_is word.Set = refl
verb_word_is word.Ok = refl

-- ---- a part

module _ (s : List ℕ) (at : ℕ) {x : Span} {e : ℕ} (n : name s at ≡ done x e) where
  pub party_on : at < length s
  party_on = omega (arith, (name_ahead s at n).more, (name_ahead s at n).inside)

  pub verb_on : {y : Verb} {k : ℕ} → verb s e ≡ done y k → at < k
  verb_on v = omega (arith, (name_ahead s at n).more, (verb_size s e v).0, skipped_on s e)

module _ (s : List ℕ) (at : ℕ) where
  pub party_missing : name s at ≡ no → part s at ≡ no
  unfolding part
  party_missing e = rw e

  module _ {x : Span} {e : ℕ} (n : name s at ≡ done x e) where
    pub verb_missing : verb s e ≡ no → part s at ≡ no
    unfolding part
    verb_missing f = rw (n, f)

    module _ (y : declared.Verb) {k : ℕ} (v : verb s e ≡ done (verb_from y) k) where
      pub fields_missing : list s (91 ∷ []) (field s) (93 ∷ []) k ≡ no → part s at ≡ no
      unfolding part
      fields_missing f = rw (n, v, f)

      -- its fields are added, then its head
      pub part_filled : (old : Agreement) {middle new : Agreement} {last : Spot} {count : ℕ} → Filled (with_fields old) (list s (91 ∷ []) (field s) (93 ∷ []) k) s last middle → count ≡ middle.fields - old.fields → new ≡ with_head middle (x.start ∷ x.end ∷ verb_word y ∷ count ∷ []) → Filled (with_part old) (part s at) s last new
      unfolding part
      part_filled old {middle} {new} {last} {count} f q w =
          let c : count ≡ length f.read = omega (arith, ap (λ (a : Agreement). a.fields) f.out_is) in
          let u : verb_word y ≡ verb_number (verb_from y) = verb_word_is y in
          let p : part s at ≡ done (record { party = x; verb = verb_from y; fields = f.read }) last.at = rw (n, v, f.is.parsed) in
          record {
            read = record { party = x; verb = verb_from y; fields = f.read };
            is = record { parsed = p; line = f.is.line };
            out_is = w ∙ (λ t. with_head (f.out_is t) (x.start ∷ x.end ∷ u t ∷ c t ∷ []));
          }

-- ---- the parts stored so far, from nothing on

abbrev pub placed : List Part → Agreement
placed ps =
    record {
      parts = length ps;
      fields = length (fields_of ps);
      heads = sets (replicate 256 0) 0 (heads_of ps);
      spans = sets (replicate 172 0) 0 (spans_of (fields_of ps));
      values = sets (replicate 86 (pos 0)) 0 (values_of (fields_of ps));
    }

pub placed_none : agreement_of [] ≡ placed []
unfolding agreement_of fields_of heads_of spans_of values_of
placed_none = refl

pub placed_few : (placed []).fields ≡ 0
unfolding fields_of
placed_few = refl

one_part : (x : Part) → fields_of (x ∷ []) ≡ x.fields
unfolding fields_of
one_part x = append-nil x.fields

fields_now : (ps : List Part) (x : Part) → fields_of (ps ++ (x ∷ [])) ≡ fields_of ps ++ x.fields
fields_now ps x = fields_append ps (x ∷ []) ∙ ap (λ (l : List Field). fields_of ps ++ l) (one_part x)

pub part_more : (ps : List Part) (x : Part) {out new : Agreement} → out ≡ placed ps → new ≡ with_part out x → new ≡ placed (ps ++ (x ∷ []))
unfolding heads_of
part_more ps x {out} {new} e q =
    let f = fields_now ps x in
    let n : length ps + 1 ≡ length (ps ++ (x ∷ [])) = omega (arith, length-append ps (x ∷ [])) in
    let k : length (fields_of ps) + length x.fields ≡ length (fields_of (ps ++ (x ∷ []))) = omega (arith, ap length f, length-append (fields_of ps) x.fields) in
    let z : 0 + length (fields_of ps) ≡ length (fields_of ps) = omega arith in
    let h : sets (sets (replicate 256 0) 0 (heads_of ps)) (4 * length ps) (heads_of (x ∷ [])) ≡ sets (replicate 256 0) 0 (heads_of (ps ++ (x ∷ []))) = sym (heads_more (replicate 256 0) ps (x ∷ [])) in
    let t : sets (sets (replicate 172 0) 0 (spans_of (fields_of ps))) (2 * length (fields_of ps)) (spans_of x.fields) ≡ sets (replicate 172 0) 0 (spans_of (fields_of (ps ++ (x ∷ [])))) =
    ap (λ (j : ℕ). sets (sets (replicate 172 0) 0 (spans_of (fields_of ps))) (2 * j) (spans_of x.fields)) (sym z)
    ∙ sym (spans_more (replicate 172 0) 0 (fields_of ps) x.fields)
    ∙ ap (λ (l : List Field). sets (replicate 172 0) 0 (spans_of l)) (sym f) in
    let v : sets (sets (replicate 86 (pos 0)) 0 (values_of (fields_of ps))) (length (fields_of ps)) (values_of x.fields) ≡ sets (replicate 86 (pos 0)) 0 (values_of (fields_of (ps ++ (x ∷ [])))) =
    ap (λ (j : ℕ). sets (sets (replicate 86 (pos 0)) 0 (values_of (fields_of ps))) j (values_of x.fields)) (sym z)
    ∙ sym (values_more (replicate 86 (pos 0)) 0 (fields_of ps) x.fields)
    ∙ ap (λ (l : List Field). sets (replicate 86 (pos 0)) 0 (values_of l)) (sym f) in
    q ∙ ap (λ (a : Agreement). with_part a x) e ∙ (λ j. record { parts = n j; fields = k j; heads = h j; spans = t j; values = v j })
