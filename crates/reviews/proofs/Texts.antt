-- Assets and asset parameters as the report names them. Assumes nothing.
use mathlib.Core.Path.{◌≡◌, refl, sym, ap, ◌∙◌}
use mathlib.Core.Bool.{true, false, ◌&&◌}
use mathlib.Core.List.{List, [], ◌++◌}
use Prim.Native.Nat.{ℕ, zero, suc, ◌+◌, ◌-◌, ◌*◌, ◌/◌, ◌%◌, ◌<◌, ◌≤◌, min}
use native.Mathlib.Omega.{arith}
use native.Mathlib.Nat.{mod-lt}
use lib.ListN.{length, get_or, take, length-append, length-take}
use lib.Dec.{ltb}
use lib.Seq.{sets}
use borrow.Author.Tests.{lt-ltb, le-ltb, ltb-true, ltb-false}
use Rattle.std.proofs.lemmas.Nat.{div-add-mod'}
use Rattle.std.proofs.lemmas.List.{take_min}
use Rattle.laws.proofs.Choice.{pick_true, pick_false}
use Rattle.laws.proofs.Truths.{both_left, both_right}
use Rattle.words.specs.Words.{spelled, at_sign, space, colon, open_bracket, close_bracket}
use Rattle.contract.specs.Tree.{Function, Contract}
use Rattle.contract.specs.Table.{word_at, function_word, parameters_start, parameters_of}
use Rattle.contract.specs.Rows.{function_row_of}
use Rattle.contract.specs.declared.Function as rows
use Rattle.contract.specs.Decode.{each_from, packed_byte, packed_word, function_at, contract_of}
use Rattle.contract.specs.Check.{passes}
use Rattle.contract.proofs.Passed.{FunctionPassed, function_passed}
use Rattle.contract_laws.proofs.Inversions.{by_test}
use Rattle.contract_laws.proofs.Members.{length_each, get_or_each, taken_few}
use Rattle.contract_laws.proofs.Sound.{passed, counts, parameters_count}
use Rattle.printing.specs.Pieces.{Put, name_bytes}
use Rattle.printing.proofs.Puts.{Puts, put_of, part, piece, same, line_end_lem}
use Rattle.results.proofs.Rows.{Row, name_word, state_row, party_row, asset_row}
use Rattle.groups.specs.Groups.{numbers_name}
use Rattle.groups.proofs.Naming.{by_place}
use Rattle.reviews.specs.Holders.{function_text, parameter_text, parameter_among, holder_text, holder_name}

-- ---- a name in a packed row

pub packed_short : (w : List ℕ) (o : ℕ) → length (packed_word w o) ≤ 32
unfolding packed_word
packed_short w o = omega (arith, length-take (word_at w o) (each_from 0 32 (packed_byte w o)), length_each 0 32 (packed_byte w o))

pub packed_front : (w : List ℕ) (o n : ℕ) → n ≡ min (word_at w o) 32 → take n (each_from 0 32 (packed_byte w o)) ≡ packed_word w o
unfolding packed_word
packed_front w o n e =
    let l = each_from 0 32 (packed_byte w o) in
    let q : n ≡ min (word_at w o) (length l) = omega (arith, e, length_each 0 32 (packed_byte w o)) in
    ap (λ (k : ℕ). take k l) q ∙ take_min (word_at w o) l

-- ---- function n

module _ (w : List ℕ) (e : passes w ≡ true) (n : ℕ) (h : n < word_at w 6) where
  function_is : FunctionPassed w n
  function_is = function_passed w n ((passed w e).functions n h)

  state_at : Row w (contract_of w).states (function_word w n 0) (1891 + function_word w n 0 * 33) 32
  state_at = state_row w e (function_word w n 0) (omega (arith, (counts w).states, function_is.state))

  party_at : Row w (contract_of w).parties (function_word w n 1) (43 + function_word w n 1 * 33) 32
  party_at = party_row w e (function_word w n 1) (omega (arith, (counts w).parties, function_is.party))

  name_is : name_bytes w (5587 + n * 43 + 10) ≡ (function_at w n).name
  unfolding function_at
  name_is = (name_word w (5587 + n * 43 + 10) function_is.name).0

  name_short : length (function_at w n).name ≤ 32
  unfolding function_at
  name_short = omega (arith, (name_word w (5587 + n * 43 + 10) function_is.name).1, taken_few (word_at w (5587 + n * 43 + 10)) (5587 + n * 43 + 10 + 1) w)

  pub function_few : n < 64
  function_few = omega (arith, h, (passed w e).head.functions)

  pub row_low : (row : rows.Function) → row ≡ function_row_of w n → (row.state ≤ 32) × (row.party ≤ 8)
  row_low row er = (
    omega (arith, function_is.state, (passed w e).head.states, ap (λ (r : rows.Function). r.state) er),
    omega (arith, function_is.party, (passed w e).head.parties, ap (λ (r : rows.Function). r.party) er),
  )

  abbrev f : Function
  f = function_at w n

  abbrev state_name : List ℕ
  state_name = get_or (contract_of w).states f.state []

  abbrev party_name : List ℕ
  party_name = get_or (contract_of w).parties f.party []

  pub function_short : length (function_text (contract_of w) f) ≤ 101
  unfolding function_text spelled function_at
  function_short =
      omega (
        arith,
        length-append state_name (spelled space ++ (party_name ++ (spelled space ++ (spelled colon ++ (spelled space ++ f.name))))),
        length-append party_name (spelled space ++ (spelled colon ++ (spelled space ++ f.name))),
        ap length state_at.name,
        state_at.short,
        ap length party_at.name,
        party_at.short,
        name_short,
      )

  module _ {old new : List ℕ} {at end : ℕ} (row : rows.Function) (er : row ≡ function_row_of w n) (r : at + 101 ≤ length old) where
    pub function_put : {s1 s2 s3 s4 s5 s6 s7 s8 : Type 0} {l1 l2 l3 l4 l5 l6 l7 : List ℕ} {a1 a2 a3 a4 a5 a6 a7 : ℕ}
        → Puts old at (spelled at_sign) a1 l1 s1 → Puts l1 a1 (name_bytes w (1891 + row.state * 33)) a2 l2 s2 → Puts l2 a2 (spelled space) a3 l3 s3
        → Puts l3 a3 (name_bytes w (43 + row.party * 33)) a4 l4 s4 → Puts l4 a4 (spelled space) a5 l5 s5 → Puts l5 a5 (spelled colon) a6 l6 s6
        → Puts l6 a6 (spelled space) a7 l7 s7 → Puts l7 a7 (name_bytes w (5587 + n * 43 + 10)) end new s8
        → Put old at (function_text (contract_of w) f) end new
    unfolding function_text function_at
    function_put p1 p2 p3 p4 p5 p6 p7 p8 =
        let a : List ℕ = name_bytes w (1891 + row.state * 33) in
        let b : List ℕ = name_bytes w (43 + row.party * 33) in
        let d : List ℕ = name_bytes w (5587 + n * 43 + 10) in
        let line : spelled at_sign ++ (a ++ (spelled space ++ (b ++ (spelled space ++ (spelled colon ++ (spelled space ++ d)))))) ≡ function_text (contract_of w) f =
        (λ i. spelled at_sign ++ (name_bytes w (1891 + (er i).state * 33) ++ (spelled space ++ (name_bytes w (43 + (er i).party * 33) ++ (spelled space ++ (spelled colon ++ (spelled space ++ d)))))))
        ∙ (λ i. spelled at_sign ++ (sym state_at.name i ++ (spelled space ++ (sym party_at.name i ++ (spelled space ++ (spelled colon ++ (spelled space ++ name_is i))))))) in
        same line
        (piece (spelled at_sign) (omega (arith, r, ap length line, function_short)) p1 λ h1.
        piece a h1 p2 λ h2.
        piece (spelled space) h2 p3 λ h3.
        piece b h3 p4 λ h4.
        piece (spelled space) h4 p5 λ h5.
        piece (spelled colon) h5 p6 λ h6.
        piece (spelled space) h6 p7 λ h7.
        put_of d p8 h7)

  -- ---- parameter j of function n

  module _ (j : ℕ) (k : j < function_word w n 4) where
    packed_is : (i : ℕ) → i ≡ n * 12 + 8 + j → packed_word w (parameters_start + i * 5) ≡ get_or f.parameters j []
    unfolding function_at
    packed_is i ei =
        let z : parameters_start + i * 5 ≡ parameters_of n + (0 + j) * 5 = omega (arith, ei) in
        ap (packed_word w) z ∙ sym (get_or_each 0 (function_word w n 4) (λ j. packed_word w (parameters_of n + j * 5)) j [] k)

    pub parameter_short : length (parameter_text (contract_of w) f j) ≤ 136
    unfolding parameter_text spelled
    parameter_short =
        let name = get_or f.parameters j [] in
        omega (
          arith,
          function_short,
          length-append (function_text (contract_of w) f) (spelled space ++ (spelled open_bracket ++ (name ++ spelled close_bracket))),
          length-append name (spelled close_bracket),
          ap length (packed_is (n * 12 + 8 + j) refl),
          packed_short w (parameters_start + (n * 12 + 8 + j) * 5),
        )

    pub parameter_put : {old new : List ℕ} {at end : ℕ} → at + 136 ≤ length old → (i : ℕ) → i ≡ n * 12 + 8 + j
        → {s2 s3 s5 : Type 0} {l1 l2 l3 l4 : List ℕ} {a1 a2 a3 a4 : ℕ}
        → Put old at (function_text (contract_of w) f) a1 l1 → Puts l1 a1 (spelled space) a2 l2 s2 → Puts l2 a2 (spelled open_bracket) a3 l3 s3
        → Put l3 a3 (packed_word w (parameters_start + i * 5)) a4 l4 → Puts l4 a4 (spelled close_bracket) end new s5
        → Put old at (parameter_text (contract_of w) f j) end new
    unfolding parameter_text
    parameter_put r i ei p1 p2 p3 p4 p5 =
        let name : List ℕ = packed_word w (parameters_start + i * 5) in
        let line : function_text (contract_of w) f ++ (spelled space ++ (spelled open_bracket ++ (name ++ spelled close_bracket))) ≡ parameter_text (contract_of w) f j =
        λ t. function_text (contract_of w) f ++ (spelled space ++ (spelled open_bracket ++ (packed_is i ei t ++ spelled close_bracket))) in
        same line
        (part (omega (arith, r, ap length line, parameter_short)) p1 λ h1.
        piece (spelled space) h1 p2 λ h2.
        piece (spelled open_bracket) h2 p3 λ h3.
        part h3 p4 λ h4.
        put_of (spelled close_bracket) p5 h4)

-- ---- name k

-- parameter r of the q-th of m functions, the first of which is g i
among_at : (c : Contract) (g : ℕ → Function) (i m q r k : ℕ) → k ≡ q * 4 + r → r < 4 → q < m → parameter_among c (each_from i m g) k ≡ parameter_text c (g (i + q)) r
unfolding parameter_among each_from
among_at c g i zero q r k e h l = absurd (omega arith)
among_at c g i (suc m) zero r k e h l =
    let a : k ≡ r = omega arith in
    let b : i ≡ i + 0 = omega arith in
    pick_true (ltb k 4) _ _ (lt-ltb k 4 (omega arith)) ∙ (λ t. parameter_text c (g (b t)) (a t))
among_at c g i (suc m) (suc q) r k e h l =
    let a : k - 4 ≡ q * 4 + r = omega arith in
    let b : suc i + q ≡ i + suc q = omega arith in
    pick_false (ltb k 4) _ _ (le-ltb k 4 (omega arith)) ∙ among_at c g (suc i) m q r (k - 4) a h (omega arith) ∙ ap (λ (n : ℕ). parameter_text c (g n) r) b

module _ (w : List ℕ) (e : passes w ≡ true) (k : ℕ) (t : numbers_name (contract_of w) k ≡ true) where
  pub asset_within : k < 16 → k < length (contract_of w).assets
  unfolding numbers_name
  asset_within h = ltb-true k (length (contract_of w).assets) (sym (pick_true _ _ _ (lt-ltb k 16 h)) ∙ t)

  pub asset_of : k < 16 → Row w (contract_of w).assets k (307 + k * 33) 32
  asset_of h = asset_row w e k (asset_within h)

  pub asset_text : k < 16 → name_bytes w (307 + k * 33) ≡ holder_text (contract_of w) k
  unfolding holder_text
  asset_text h = sym (pick_true _ _ _ (lt-ltb k 16 h) ∙ (asset_of h).name)

  module _ (h : 16 ≤ k) where
    place : (ltb ((k - 16) / 4) (word_at w 6) && ltb ((k - 16) % 4) (length (function_at w (0 + (k - 16) / 4)).parameters)) ≡ true
    place = sym (by_place w k h) ∙ t

    pub function_within : (k - 16) / 4 < word_at w 6
    function_within = ltb-true _ _ (both_left (ltb ((k - 16) / 4) (word_at w 6)) _ place)

    pub parameter_within : (k - 16) % 4 < function_word w ((k - 16) / 4) 4
    parameter_within =
        let z : 0 + (k - 16) / 4 ≡ (k - 16) / 4 = omega arith in
        let a : (k - 16) % 4 < length (function_at w (0 + (k - 16) / 4)).parameters = ltb-true _ _ (both_right (ltb ((k - 16) / 4) (word_at w 6)) _ place) in
        omega (arith, ap (λ (m : ℕ). length (function_at w m).parameters) z, parameters_count w ((k - 16) / 4))

    pub parameter_is : parameter_text (contract_of w) (function_at w ((k - 16) / 4)) ((k - 16) % 4) ≡ holder_text (contract_of w) k
    unfolding holder_text contract_of
    parameter_is =
        let z : 0 + (k - 16) / 4 ≡ (k - 16) / 4 = omega arith in
        sym (pick_false _ _ _ (le-ltb k 16 h)
        ∙ among_at (contract_of w) (function_at w) 0 (word_at w 6) ((k - 16) / 4) ((k - 16) % 4) (k - 16) (sym (div-add-mod' (k - 16) 4)) (mod-lt (k - 16) (omega arith)) function_within
        ∙ ap (λ (m : ℕ). parameter_text (contract_of w) (function_at w m) ((k - 16) % 4)) z)

pub holder_short : (w : List ℕ) (e : passes w ≡ true) (k : ℕ) → numbers_name (contract_of w) k ≡ true → length (holder_text (contract_of w) k) ≤ 136
holder_short w e k t =
    by_test (ltb k 16)
    (λ q. let h : k < 16 = ltb-true k 16 q in omega (arith, ap length (asset_text w e k t h), (asset_of w e k t h).short))
    (λ q.
    let h : 16 ≤ k = ltb-false k 16 q in
    omega (arith, ap length (parameter_is w e k t h), parameter_short w e ((k - 16) / 4) (function_within w e k t h) ((k - 16) % 4) (parameter_within w e k t h)))

-- ---- what is answered

module _ (w : List ℕ) (k : ℕ) (old : List ℕ) where
  -- how many bytes a name has, and the buffer with it at the start
  abbrev pub Named : ℕ → List ℕ → Type 0
  Named n new = record { value : n ≡ length (holder_name w k); buffer_after : new ≡ sets old 0 (holder_name w k) }

  nothing : [] ≡ holder_name w k → Named 0 old
  nothing e = record { value = ap length e; buffer_after = ap (sets old 0) e }

  pub no_table : passes w ≡ false → Named 0 old
  unfolding holder_name
  no_table e = nothing (sym (pick_false _ _ _ e))

  pub no_name : passes w ≡ true → numbers_name (contract_of w) k ≡ false → Named 0 old
  unfolding holder_name
  no_name e t = nothing (sym (pick_true _ _ _ e ∙ pick_false _ _ _ t))

  pub named : passes w ≡ true → numbers_name (contract_of w) k ≡ true → {n : ℕ} {new : List ℕ} → Put old 0 (holder_text (contract_of w) k) n new → Named n new
  unfolding holder_name
  named e t p =
      let q : holder_text (contract_of w) k ≡ holder_name w k = sym (pick_true _ _ _ e ∙ pick_true _ _ _ t) in
      record { value = line_end_lem p ∙ ap length q; buffer_after = p.list ∙ ap (sets old 0) q }
