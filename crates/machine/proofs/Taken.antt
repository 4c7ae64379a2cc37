-- What a line that was read does, by what was told of it. Assumes nothing.
use mathlib.Core.Path.{◌≡◌, refl, sym, ap, subst, ◌∙◌}
use mathlib.Core.Bool.{true}
use mathlib.Core.List.{List, [], ◌∷◌, ◌++◌}
use Prim.Native.Nat.{ℕ, ◌+◌, ◌*◌, ◌/◌, ◌≤◌}
use native.Mathlib.Omega.{arith}
use lib.ListN.{length, take, drop}
use lib.Seq.{take-append_seam, drop-append_seam}
use lib.Dec.{eqb}
use lib.IntN.{ℤ, pos}
use Rattle.laws.specs.Choice.{pick}
use Rattle.laws.proofs.Choice.{pick_true}
use Rattle.contract.specs.Tree.{Word, Verb, Contract}
use Rattle.contract.specs.Tree as tree
use Rattle.tokens.specs.Tokens.{between}
use Rattle.state.specs.declared.State.{State}
use Rattle.lines.specs.Lines.{Field, Asked, set, ok}
use Rattle.lines.specs.Lines as lines
use Rattle.lines.specs.Answers.{verb_number, padded, span_in, request_of, numbers_of, agreement_of, agreement_in, heads_of, spans_of, values_of, fields_of}
use Rattle.lines.specs.declared.Call as read
use Rattle.std.specs.Prelude.{Some, None, Ok, Err}
use Rattle.lines.specs.declared.Agreement.{Agreement}
use Rattle.lines.specs.declared.Request.TheVariants as request
use Rattle.lines.proofs.Flat.{spans_append, values_append, spans_length, values_length, heads_length}
use Rattle.lines.proofs.Told.{told_refused, told_tick, told_jump, told_call, told_agreement, padded_front, front_room, front_first, front_second}
use Rattle.outcomes.specs.declared.Stepped.{Stepped}
use Rattle.outcomes.specs.Outcomes.{refused}
use Rattle.machine.specs.Steps.{ticked, jumped}
use Rattle.agreements.specs.Agreement.{Part, words_in, parts_in, agreed_on}
use Rattle.machine.specs.Private.{called_by, taken_by}
use Rattle.machine.specs.Sessions.{name_in, verb_in, names_in, parts_said}
use Rattle.questions.specs.declared.Question.{Question}
use Rattle.questions.specs.declared.Question.TheVariants as ask

-- ---- the numbers of an agreement line mean its parts

module _ (line : List ℕ) where
  words_same : (fs : List Field) (rest : List ℕ) → words_in line (length fs) (spans_of fs ++ rest) ≡ names_in line fs
  unfolding words_in spans_of names_in
  words_same [] rest = refl
  words_same (f ∷ fs) rest = ap (λ (l : List Word). name_in line f.name ∷ l) (words_same fs rest)

  verb_same : (v : lines.Verb) → pick (eqb (verb_number v) 0) tree.set tree.ok ≡ verb_in v
  unfolding pick
  verb_same set = refl
  verb_same ok = refl

  module _ (fs gs : List Field) where
    fields_same : words_in line (length fs) (spans_of (fs ++ gs)) ≡ names_in line fs
    fields_same = ap (words_in line (length fs)) (spans_append fs gs) ∙ words_same fs (spans_of gs)

    values_same : take (length fs) (values_of (fs ++ gs)) ≡ values_of fs
    values_same =
        let q : length fs ≡ length (values_of fs) = sym (values_length fs) in
        ap (take (length fs)) (values_append fs gs) ∙ ap (λ (n : ℕ). take n (values_of fs ++ values_of gs)) q ∙ take-append_seam (values_of fs) (values_of gs)

    values_left : drop (length fs) (values_of (fs ++ gs)) ≡ values_of gs
    values_left =
        let q : length fs ≡ length (values_of fs) = sym (values_length fs) in
        ap (drop (length fs)) (values_append fs gs) ∙ ap (λ (n : ℕ). drop n (values_of fs ++ values_of gs)) q ∙ drop-append_seam (values_of fs) (values_of gs)

    spans_left : drop (length fs * 2) (spans_of (fs ++ gs)) ≡ spans_of gs
    spans_left =
        let q : length fs * 2 ≡ length (spans_of fs) = omega (arith, spans_length fs) in
        ap (drop (length fs * 2)) (spans_append fs gs) ∙ ap (λ (n : ℕ). drop n (spans_of fs ++ spans_of gs)) q ∙ drop-append_seam (spans_of fs) (spans_of gs)

  abbrev part_with : lines.Part → Verb → List Word → List ℤ → Part
  part_with p v ws zs = record { party = name_in line p.party; verb = v; fields = ws; values = zs }

  part_same : (p : lines.Part) (gs : List Field) → part_with p (pick (eqb (verb_number p.verb) 0) tree.set tree.ok) (words_in line (length p.fields) (spans_of (p.fields ++ gs))) (take (length p.fields) (values_of (p.fields ++ gs))) ≡ part_with p (verb_in p.verb) (names_in line p.fields) (values_of p.fields)
  part_same p gs =
      ap (λ (v : Verb). part_with p v (words_in line (length p.fields) (spans_of (p.fields ++ gs))) (take (length p.fields) (values_of (p.fields ++ gs)))) (verb_same p.verb)
      ∙ ap (λ (l : List Word). part_with p (verb_in p.verb) l (take (length p.fields) (values_of (p.fields ++ gs)))) (fields_same p.fields gs)
      ∙ ap (part_with p (verb_in p.verb) (names_in line p.fields)) (values_same p.fields gs)

  parts_same : (ps : List lines.Part) → parts_in line (length ps) (heads_of ps) (spans_of (fields_of ps)) (values_of (fields_of ps)) ≡ parts_said line ps
  unfolding parts_in parts_said heads_of fields_of spans_of values_of
  parts_same [] = pick_true _ _ _ refl
  parts_same (p ∷ ps) =
      ap (λ (x : Part). x ∷ parts_in line (length ps) (heads_of ps) (drop (length p.fields * 2) (spans_of (p.fields ++ fields_of ps))) (drop (length p.fields) (values_of (p.fields ++ fields_of ps)))) (part_same p (fields_of ps))
      ∙ ap (λ (l : List ℕ). part_with p (verb_in p.verb) (names_in line p.fields) (values_of p.fields) ∷ parts_in line (length ps) (heads_of ps) l (drop (length p.fields) (values_of (p.fields ++ fields_of ps)))) (spans_left p.fields (fields_of ps))
      ∙ ap (λ (l : List ℤ). part_with p (verb_in p.verb) (names_in line p.fields) (values_of p.fields) ∷ parts_in line (length ps) (heads_of ps) (spans_of (fields_of ps)) l) (values_left p.fields (fields_of ps))
      ∙ ap (λ (l : List Part). part_with p (verb_in p.verb) (names_in line p.fields) (values_of p.fields) ∷ l) (parts_same ps)

-- ---- what a line does, by its request

module _ (c : Contract) (s : State) (line : List ℕ) where
  pub does_refused : {q : Question} (a : Asked) → request_of a ≡ Err q → refused s q ≡ taken_by c s line a
  unfolding taken_by
  does_refused {q} a e = ap (taken_by c s line) (sym (told_refused a e))

  pub does_tick : (a : Asked) → request_of a ≡ Ok request.Tick → ticked c s ≡ taken_by c s line a
  unfolding taken_by
  does_tick a e = ap (taken_by c s line) (sym (told_tick a e))

  pub does_jump : {T : ℤ} (a : Asked) → request_of a ≡ Ok (request.Jump T) → jumped c s T ≡ taken_by c s line a
  unfolding taken_by
  does_jump a e = ap (taken_by c s line) (sym (told_jump a e))

  pub agreed_before : (a : Asked) → request_of a ≡ Ok request.Agreement → s.agreed ≡ true → refused s ask.NotAgreed ≡ taken_by c s line a
  unfolding taken_by agreed_on
  agreed_before a f e =
      let k = told_agreement a f in
      sym (pick_true s.agreed _ _ e) ∙ ap (taken_by c s line) (sym k.is)

  -- ---- a call

  -- as it is read
  abbrev call_of : lines.Call → read.Call
  call_of k = record { party = span_in k.names.party; function = span_in k.names.function; values = length k.lists.values; assets = length k.lists.assets }

  call_same : (k : lines.Call) (r : read.Call) → Ok (request.Call r) ≡ request_of (lines.call k) → call_of k ≡ r
  unfolding request_of
  call_same k r e = cc

  -- what was read of a call, and its integers, which come first in a list
  pub record CallRead (a : Asked) (r : read.Call) (zs : List ℤ) : Type 0 where
    pub room : r.values + r.assets ≤ length zs
    pub does : called_by c s (between line r.party.start r.party.end) (between line r.function.start r.function.end) (take r.values zs) (take r.assets (drop r.values zs)) ≡ taken_by c s line a

  call_read : (k : lines.Call) (zs : List ℤ) → take (length (k.lists.values ++ k.lists.assets)) zs ≡ k.lists.values ++ k.lists.assets → CallRead (lines.call k) (call_of k) zs
  unfolding taken_by
  call_read k zs f =
      let vs = k.lists.values in
      let hs = k.lists.assets in
      let n = k.names in
      record {
        room = front_room zs vs hs f;
        does =
            ap (λ (x : List ℤ). called_by c s (name_in line n.party) (name_in line n.function) x (take (length hs) (drop (length vs) zs))) (front_first zs vs hs f)
            ∙ ap (λ (x : List ℤ). called_by c s (name_in line n.party) (name_in line n.function) vs x) (front_second zs vs hs f);
      }

  pub does_call : (a : Asked) (r : read.Call) (zs : List ℤ) → Ok (request.Call r) ≡ request_of a → take (length (numbers_of a)) zs ≡ numbers_of a → CallRead a r zs
  does_call a r zs f g =
      let k = told_call a (sym f) in
      let p : call_of k.asks ≡ r = call_same k.asks r (f ∙ ap request_of k.is) in
      let z : take (length (k.asks.lists.values ++ k.asks.lists.assets)) zs ≡ k.asks.lists.values ++ k.asks.lists.assets =
      subst (λ (x : Asked). take (length (numbers_of x)) zs ≡ numbers_of x) k.is g in
      subst (λ (x : Asked). CallRead x r zs) (sym k.is) (subst (λ (x : read.Call). CallRead (lines.call k.asks) x zs) p (call_read k.asks zs z))

  -- ---- an agreement

  abbrev pub agreed_with : List ℕ → List ℕ → List ℤ → Stepped Question
  agreed_with parts spans values = agreed_on c s (parts_in line (length parts / 4) parts spans values)

  AgreementRead : (a : Asked) (g : Agreement) → Type 0
  AgreementRead a g = agreed_with (take (4 * g.parts) g.heads) (take (2 * g.fields) g.spans) (take g.fields g.values) ≡ taken_by c s line a

  agreement_read : (ps : List lines.Part) → AgreementRead (lines.agreement ps) (agreement_of ps)
  unfolding agreement_of taken_by AgreementRead
  agreement_read ps =
      let fs = fields_of ps in
      let a : 4 * length ps ≡ length (heads_of ps) = sym (heads_length ps) in
      let b : 2 * length fs ≡ length (spans_of fs) = sym (spans_length fs) in
      let d : length fs ≡ length (values_of fs) = sym (values_length fs) in
      let n : length (heads_of ps) / 4 ≡ length ps = omega (arith, heads_length ps) in
      let x : take (4 * length ps) (padded 0 256 (heads_of ps)) ≡ heads_of ps = ap (λ (n : ℕ). take n (padded 0 256 (heads_of ps))) a ∙ padded_front 0 256 (heads_of ps) in
      let y : take (2 * length fs) (padded 0 172 (spans_of fs)) ≡ spans_of fs = ap (λ (n : ℕ). take n (padded 0 172 (spans_of fs))) b ∙ padded_front 0 172 (spans_of fs) in
      let z : take (length fs) (padded (pos 0) 86 (values_of fs)) ≡ values_of fs = ap (λ (n : ℕ). take n (padded (pos 0) 86 (values_of fs))) d ∙ padded_front (pos 0) 86 (values_of fs) in
      ap (λ (l : List ℕ). agreed_with l (take (2 * length fs) (padded 0 172 (spans_of fs))) (take (length fs) (padded (pos 0) 86 (values_of fs)))) x
      ∙ ap (λ (l : List ℕ). agreed_with (heads_of ps) l (take (length fs) (padded (pos 0) 86 (values_of fs)))) y
      ∙ ap (λ (l : List ℤ). agreed_with (heads_of ps) (spans_of fs) l) z
      ∙ ap (λ (k : ℕ). agreed_on c s (parts_in line k (heads_of ps) (spans_of fs) (values_of fs))) n
      ∙ ap (agreed_on c s) (parts_same line ps)

  -- the numbers that were read, as the agreement of a line that is one
  pub does_agreement : (a : Asked) (g : Agreement) {heads spans : List ℕ} {values : List ℤ} → Some g ≡ agreement_in a → request_of a ≡ Ok request.Agreement → heads ≡ take (4 * g.parts) g.heads → spans ≡ take (2 * g.fields) g.spans → values ≡ take g.fields g.values
      → agreed_with heads spans values ≡ taken_by c s line a
  unfolding AgreementRead
  does_agreement a g e f x y z =
      let k = told_agreement a f in
      let p : agreement_of k.asks ≡ g = let q = e ∙ ap agreement_in k.is in cc in
      (λ i. agreed_with (x i) (y i) (z i)) ∙ subst (λ (t : Asked). AgreementRead t g) (sym k.is) (subst (AgreementRead (lines.agreement k.asks)) p (agreement_read k.asks))

-- a line that is an agreement has its parts
pub no_agreement : (a : Asked) {X : Type 0} → None ≡ agreement_in a → request_of a ≡ Ok request.Agreement → X
no_agreement a e f =
    let k = told_agreement a f in
    let q = e ∙ ap agreement_in k.is in
    cc
