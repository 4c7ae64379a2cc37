-- Lines put together from their pieces. Assumes nothing.
use mathlib.Core.Path.{◌≡◌, refl, sym, ap, subst, ◌∙◌}
use mathlib.Core.Bool.{true, false}
use mathlib.Core.List.{List, [], ◌++◌, append_assoc}
use Prim.Native.Nat.{ℕ, ◌+◌, ◌*◌, ◌^◌, ◌<◌, ◌≤◌}
use native.Mathlib.Omega.{arith}
use lib.ListN.{length, get_or, length-append}
use lib.IntN.{ℤ, nat_abs}
use borrow.Author.Tests.{eqb-true, eq-eqb, ne_eqb, lt-ltb, le-ltb}
use mir.Syntax.{w64}
use mir.Val.{SFits, to_z, of_z}
use mir.Facts.{to_z-of_z}
use Rattle.laws.specs.Bytes.{bytes}
use Rattle.laws.specs.Choice.{pick}
use Rattle.laws.proofs.Choice.{pick_true, pick_false, by_cases, true_false}
use Rattle.words.specs.Words.{spelled, event_match, refused, line_end}
use Rattle.contract.specs.Decode.{contract_of}
use Rattle.contract.specs.Check.{passes}
use Rattle.printing.specs.Decimal.{decimal, signed}
use Rattle.printing.specs.Pieces.{Put, name_bytes}
use Rattle.printing.proofs.Puts.{Puts, put_of, part, piece, same, over, line_end_lem}
use Rattle.printing.proofs.Digits.{word_short, signed_short}
use Rattle.results.specs.Lines.{value_ok, report_ok, rule_name, value_text, arrow, refused_text, line_of, text_refusal, text_line}
use Rattle.results.specs.Results.{written, text_written, after, buffer_after, text_buffer_after}
use Rattle.results.specs.Private.{Ready, ReadyValue, PutLine}
use Rattle.results.specs.declared.Report.{Report}
use Rattle.results.specs.declared.Report.TheVariants.{Ruled, Sent, Held}
use Rattle.results.specs.declared.Report.TheVariants as report
use Rattle.std.specs.Prelude.{Result, Ok, Err, Option, Some, None, is_some, unwrap_or}
use Rattle.tables.specs.declared.Passed.{Passed}
use Rattle.tables.specs.Passing.{passing, held}
use Rattle.contract_laws.proofs.Inversions.{by_test}
use Rattle.questions.specs.declared.Question.{Question}
use Rattle.questions.specs.declared.Question.TheVariants as ask
use Rattle.results.proofs.Rows.{Row, party_row, asset_row, state_row, string_row}
use Rattle.results.proofs.Ranges.{state_below, party_below, asset_below, value_below, string_below}

-- ---- what a report that is ready names

module _ {w : List ℕ} {old : List ℕ} {at : ℕ} (t : passes w ≡ true) where
  pub ready_state : {rule state clock : ℕ} → Ready w (Ruled rule state clock) old at → Row w (contract_of w).states state (1891 + state * 33) 32
  ready_state {rule} {state} {clock} r = state_row w t state (state_below (contract_of w) rule state clock r.range)

  pub ready_party : {kind party : ℕ} {z : ℤ} {group : ℕ} → Ready w (Sent kind party z group) old at → Row w (contract_of w).parties party (43 + party * 33) 32
  ready_party {kind} {party} {z} {group} r = party_row w t party (party_below (contract_of w) kind party z group r.range)

  pub ready_asset : {asset amount : ℕ} → Ready w (Held asset amount) old at → Row w (contract_of w).assets asset (307 + asset * 33) 32
  ready_asset {asset} {amount} r = asset_row w t asset (asset_below (contract_of w) asset amount r.range)

  pub ready_value : {kind party : ℕ} {z : ℤ} {group : ℕ} → SFits w64 z → Ready w (Sent kind party z group) old at → ReadyValue w kind (to_z w64 (of_z w64 z)) old at
  ready_value {kind} {party} {z} {group} f r =
      record {
        room = r.room;
        range = ap (value_ok (contract_of w) kind) (to_z-of_z f) ∙ value_below (contract_of w) kind party z group r.range;
      }

  ready_whole : {kind party : ℕ} {z : ℤ} {group : ℕ} → Ready w (Sent kind party z group) old at → ReadyValue w kind z old at
  ready_whole {kind} {party} {z} {group} r = record { room = r.room; range = value_below (contract_of w) kind party z group r.range }

  pub ready_string : {kind : ℕ} {z : ℤ} → ReadyValue w kind z old at → kind ≡ 2 → (m : ℕ) → m ≡ nat_abs z → Row w (contract_of w).strings m (2947 + m * 65) 64
  ready_string {kind} {z} r k m e =
      string_row w t m (subst (λ (i : ℕ). i < length (contract_of w).strings) (sym e) (string_below (contract_of w) kind z r.range k))

-- the group of a label is not looked at
pub sent_ready : {w : List ℕ} {old : List ℕ} {at kind party group : ℕ} {z : ℤ} {r : Report} → r ≡ Sent kind party z group → SFits w64 z → Ready w r old at
    → Ready w (Sent kind party (to_z w64 (of_z w64 z)) 0) old at
unfolding report_ok
sent_ready {w} {kind = kind} {party = party} {group = group} e f r =
    record {
      room = r.room;
      range = ap (λ (v : ℤ). report_ok (contract_of w) (Sent kind party v group)) (to_z-of_z f) ∙ sym (ap (report_ok (contract_of w)) e) ∙ r.range;
    }

-- ---- lengths

pub rule_short : (rule : ℕ) → length (bytes "[" ++ (rule_name rule ++ bytes "] ")) ≤ 14
unfolding rule_name spelled
rule_short rule =
    let P : List ℕ → Type 0 = λ l. length (bytes "[" ++ (l ++ bytes "] ")) ≤ 14 in
    by_cases P _ _ _ (λ _. omega arith) λ _.
    by_cases P _ _ _ (λ _. omega arith) λ _.
    by_cases P _ _ _ (λ _. omega arith) λ _. omega arith

pub arrow_short : (kind : ℕ) → length (bytes " " ++ (arrow kind ++ bytes " ")) ≤ 4
unfolding arrow spelled
arrow_short kind =
    let P : List ℕ → Type 0 = λ l. length (bytes " " ++ (l ++ bytes " ")) ≤ 4 in
    by_cases P _ _ _ (λ _. omega arith) λ _. omega arith

pub value_short : {w : List ℕ} {kind : ℕ} {old : List ℕ} {at : ℕ} {z : ℤ} → passes w ≡ true → SFits w64 z → ReadyValue w kind z old at → length (value_text (contract_of w) kind z) ≤ 66
unfolding value_text spelled
value_short {w} {kind} {z = z} p f r =
    by_cases (λ (l : List ℕ). length l ≤ 66) _ _ _
    (λ t.
    let row = ready_string p r (eqb-true kind 2 t) (nat_abs z) refl in
    omega (arith, row.short, ap length row.name, length-append (get_or (contract_of w).strings (nat_abs z) []) (bytes "\"")))
    λ _. omega (arith, signed_short z f)

pub refused_short : (n : ℕ) → n < 256 → length (refused_text n) ≤ 28
unfolding refused_text spelled
refused_short n h = omega (arith, word_short n (omega arith))

-- ---- lines

in_three : (a b c rest : List ℕ) → (a ++ (b ++ c)) ++ rest ≡ a ++ (b ++ (c ++ rest))
in_three a b c rest = append_assoc a (b ++ c) rest ∙ ap (λ (l : List ℕ). a ++ l) (append_assoc b c rest)

module _ {old new : List ℕ} {at end : ℕ} where
  -- a line of at most 128 bytes, which have room
  line_put : {u : List ℕ} → length u ≤ 128 → at + 128 ≤ length old → (at + length u ≤ length old → Put old at u end new) → PutLine old at u end new
  line_put l r p = record { put = p (omega (arith, l, r)); short = l }

  line_same : {u v : List ℕ} → u ≡ v → PutLine old at u end new → PutLine old at v end new
  line_same {u} {v} e p = subst (λ (l : List ℕ). PutLine old at l end new) e p

  pub ruled_line : {s1 s2 s3 s4 s5 : Type 0} {w : List ℕ} {rule state clock : ℕ} {l1 l2 l3 l4 l5 : List ℕ} {a1 a2 a3 a4 a5 : ℕ} → passes w ≡ true → Ready w (Ruled rule state clock) old at → clock < 2 ^ 64
      → Put old at (bytes "[" ++ (rule_name rule ++ bytes "] ")) a1 l1 → Puts l1 a1 (name_bytes w (1891 + state * 33)) a2 l2 s1 → Puts l2 a2 (bytes ",") a3 l3 s2 → Puts l3 a3 (bytes " ") a4 l4 s3
      → Puts l4 a4 (decimal clock) a5 l5 s4 → Puts l5 a5 (bytes "\n") end new s5 → PutLine old at (line_of (contract_of w) (Ruled rule state clock)) end new
  unfolding line_of spelled
  ruled_line {w} {rule} {state} {clock} t r k p1 p2 p3 p4 p5 p6 =
      let row = ready_state t r in
      let head : List ℕ = bytes "[" ++ (rule_name rule ++ bytes "] ") in
      let tail : List ℕ = decimal clock ++ bytes "\n" in
      let name : List ℕ = name_bytes w (1891 + state * 33) in
      let rest : List ℕ = name ++ (bytes ", " ++ tail) in
      let h : length (head ++ rest) ≤ 128 =
      omega (
        arith,
        length-append head rest,
        length-append name (bytes ", " ++ tail),
        length-append (decimal clock) (bytes "\n"),
        rule_short rule,
        row.short,
        word_short clock k,
      ) in
      line_same (in_three (bytes "[") (rule_name rule) (bytes "] ") rest ∙ ap (λ (l : List ℕ). bytes "[" ++ (rule_name rule ++ (bytes "] " ++ (l ++ (bytes ", " ++ tail))))) (sym row.name))
      (line_put h r.room λ h. part h p1 λ h. piece name h p2 λ h. piece (bytes ",") h p3 λ h. piece (bytes " ") h p4 λ h. piece (decimal clock) h p5 λ h. put_of (bytes "\n") p6 h)

  -- x is the value as its bits give it
  pub sent_line : {s1 s2 : Type 0} {w : List ℕ} {kind party group : ℕ} {x z : ℤ} {l1 l2 l3 : List ℕ} {a1 a2 a3 : ℕ} → passes w ≡ true → x ≡ z → SFits w64 z → Ready w (Sent kind party z group) old at
      → Put old at (value_text (contract_of w) kind x) a1 l1 → Put l1 a1 (bytes " " ++ (arrow kind ++ bytes " ")) a2 l2
      → Puts l2 a2 (name_bytes w (43 + party * 33)) a3 l3 s1 → Puts l3 a3 (bytes "\n") end new s2 → PutLine old at (line_of (contract_of w) (Sent kind party z group)) end new
  unfolding line_of spelled
  sent_line {w} {kind} {party} {group} {x} {z} t q f r p1 p2 p3 p4 =
      let row = ready_party t r in
      let value : List ℕ = value_text (contract_of w) kind z in
      let mark : List ℕ = bytes " " ++ (arrow kind ++ bytes " ") in
      let name : List ℕ = name_bytes w (43 + party * 33) in
      let h : length (value ++ (mark ++ (name ++ bytes "\n"))) ≤ 128 =
      omega (
        arith,
        length-append value (mark ++ (name ++ bytes "\n")),
        length-append mark (name ++ bytes "\n"),
        length-append name (bytes "\n"),
        value_short t f (ready_whole t r),
        arrow_short kind,
        row.short,
      ) in
      line_same
      (ap (λ (l : List ℕ). value ++ l) (append_assoc (bytes " ") (arrow kind ++ bytes " ") (name ++ bytes "\n") ∙ ap (λ (l : List ℕ). bytes " " ++ l) (append_assoc (arrow kind) (bytes " ") (name ++ bytes "\n")))
      ∙ ap (λ (l : List ℕ). value ++ (bytes " " ++ (arrow kind ++ (bytes " " ++ (l ++ bytes "\n"))))) (sym row.name))
      (line_put h r.room λ h. part h (same (ap (value_text (contract_of w) kind) q) p1) λ h. part h p2 λ h. piece name h p3 λ h. put_of (bytes "\n") p4 h)

  pub held_line : {s1 s2 s3 s4 s5 s6 : Type 0} {w : List ℕ} {asset amount : ℕ} {l1 l2 l3 l4 l5 : List ℕ} {a1 a2 a3 a4 a5 : ℕ} → passes w ≡ true → Ready w (Held asset amount) old at → amount < 2 ^ 64
      → Puts old at (name_bytes w (307 + asset * 33)) a1 l1 s1 → Puts l1 a1 (bytes " ") a2 l2 s2 → Puts l2 a2 (bytes "=") a3 l3 s3 → Puts l3 a3 (bytes " ") a4 l4 s4
      → Puts l4 a4 (decimal amount) a5 l5 s5 → Puts l5 a5 (bytes "\n") end new s6
      → PutLine old at (line_of (contract_of w) (Held asset amount)) end new
  unfolding line_of spelled
  held_line {w} {asset} {amount} t r k p1 p2 p3 p4 p5 p6 =
      let row = ready_asset t r in
      let tail : List ℕ = decimal amount ++ bytes "\n" in
      let name : List ℕ = name_bytes w (307 + asset * 33) in
      let h : length (name ++ (bytes " = " ++ tail)) ≤ 128 =
      omega (arith, length-append name (bytes " = " ++ tail), length-append (decimal amount) (bytes "\n"), row.short, word_short amount k) in
      line_same (ap (λ (l : List ℕ). l ++ (bytes " = " ++ tail)) (sym row.name))
      (line_put h r.room λ h. piece name h p1 λ h. piece (bytes " ") h p2 λ h. piece (bytes "=") h p3 λ h. piece (bytes " ") h p4 λ h. piece (decimal amount) h p5 λ h. put_of (bytes "\n") p6 h)

  pub refused_line : {s1 : Type 0} {k : ℕ} {l1 : List ℕ} {a1 : ℕ} → k < 256 → at + 128 ≤ length old → Put old at (refused_text k) a1 l1 → Puts l1 a1 (bytes "\n") end new s1
      → PutLine old at (refused_text k ++ spelled line_end) end new
  unfolding spelled
  refused_line {k} f r p1 p2 =
      let h : length (refused_text k ++ bytes "\n") ≤ 128 = omega (arith, length-append (refused_text k) (bytes "\n"), refused_short k f) in
      line_put h r λ h. part h p1 λ h. put_of (bytes "\n") p2 h

  pub failed_line : {s1 : Type 0} {k : ℕ} {l1 l2 : List ℕ} {a1 a2 : ℕ} → k < 256 → at + 128 ≤ length old → Put old at (bytes "[" ++ (rule_name 2 ++ bytes "] ")) a1 l1
      → Put l1 a1 (refused_text k) a2 l2 → Puts l2 a2 (bytes "\n") end new s1
      → PutLine old at (bytes "[" ++ (spelled event_match ++ (bytes "] " ++ (refused_text k ++ spelled line_end)))) end new
  unfolding rule_name spelled pick
  failed_line {k} f r p1 p2 p3 =
      let rest : List ℕ = refused_text k ++ bytes "\n" in
      let h : length ((bytes "[" ++ (rule_name 2 ++ bytes "] ")) ++ rest) ≤ 128 = omega (arith, length-append (refused_text k) (bytes "\n"), refused_short k f) in
      line_same (in_three (bytes "[") (rule_name 2) (bytes "] ") rest) (line_put h r λ h. part h p1 λ h. part h p2 λ h. put_of (bytes "\n") p3 h)

  -- a label's line is the same whatever its group
  pub sent_as : (w : List ℕ) {kind party group : ℕ} {z : ℤ} {r : Report} → r ≡ Sent kind party z group → SFits w64 z
      → PutLine old at (line_of (contract_of w) (Sent kind party (to_z w64 (of_z w64 z)) 0)) end new → PutLine old at (line_of (contract_of w) r) end new
  unfolding line_of
  sent_as w {kind} {party} {group} e f p =
      line_same (ap (λ (v : ℤ). line_of (contract_of w) (Sent kind party v group)) (to_z-of_z f) ∙ sym (ap (line_of (contract_of w)) e)) p

  pub refused_as : (w : List ℕ) (k : ℕ) {r : Report} → r ≡ report.Refused k → PutLine old at (refused_text k ++ spelled line_end) end new → PutLine old at (line_of (contract_of w) r) end new
  unfolding line_of
  refused_as w k e p = line_same (sym (ap (line_of (contract_of w)) e)) p

  pub failed_as : (w : List ℕ) (k : ℕ) {r : Report} → r ≡ report.Failed k → PutLine old at (bytes "[" ++ (spelled event_match ++ (bytes "] " ++ (refused_text k ++ spelled line_end)))) end new
      → PutLine old at (line_of (contract_of w) r) end new
  unfolding line_of
  failed_as w k e p = line_same (sym (ap (line_of (contract_of w)) e)) p

  pub text_line_lem : {s1 s2 s3 : Type 0} {k place : ℕ} {l1 l2 l3 : List ℕ} {a1 a2 a3 : ℕ} → k < 256 → place < 2 ^ 64 → at + 128 ≤ length old → Put old at (refused_text k) a1 l1
      → Puts l1 a1 (bytes " ") a2 l2 s1 → Puts l2 a2 (decimal place) a3 l3 s2 → Puts l3 a3 (bytes "\n") end new s3 → Put old at (text_line k place) end new
  unfolding text_line spelled
  text_line_lem {k} {place} f g r p1 p2 p3 p4 =
      let tail : List ℕ = decimal place ++ bytes "\n" in
      let h : at + length (refused_text k ++ (bytes " " ++ tail)) ≤ length old =
      omega (arith, length-append (refused_text k) (bytes " " ++ tail), length-append (decimal place) (bytes "\n"), refused_short k f, word_short place g, r) in
      part h p1 λ h. piece (bytes " ") h p2 λ h. piece (decimal place) h p3 λ h. put_of (bytes "\n") p4 h

  pub string_value : {s1 s2 s3 : Type 0} {w : List ℕ} {kind m : ℕ} {z : ℤ} {l1 l2 : List ℕ} {a1 a2 : ℕ} → passes w ≡ true → kind ≡ 2 → m ≡ nat_abs z → ReadyValue w kind z old at
      → Puts old at (bytes "\"") a1 l1 s1 → Puts l1 a1 (name_bytes w (2947 + m * 65)) a2 l2 s2 → Puts l2 a2 (bytes "\"") end new s3 → Put old at (value_text (contract_of w) kind z) end new
  unfolding value_text spelled
  string_value {w} {kind} {m} {z} t k e r p1 p2 p3 =
      let row = ready_string t r k m e in
      let name : List ℕ = name_bytes w (2947 + m * 65) in
      let h : at + length (bytes "\"" ++ (name ++ bytes "\"")) ≤ length old = omega (arith, length-append name (bytes "\""), row.short, r.room) in
      same
      (ap (λ (l : List ℕ). bytes "\"" ++ (l ++ bytes "\"")) (sym row.name ∙ ap (λ (i : ℕ). get_or (contract_of w).strings i []) e)
      ∙ sym (pick_true _ _ _ (eq-eqb kind 2 k)))
      (piece (bytes "\"") h p1 λ h. piece name h p2 λ h. put_of (bytes "\"") p3 h)

  pub number_value : {s1 : Type 0} (w : List ℕ) (kind : ℕ) {x z : ℤ} → (kind ≡ 2 → ⊥) → x ≡ z → SFits w64 x → at + 128 ≤ length old → Puts old at (signed x) end new s1
      → Put old at (value_text (contract_of w) kind z) end new
  unfolding value_text
  number_value w kind {x} {z} k q f r p =
      same (ap signed q ∙ sym (pick_false _ _ _ (ne_eqb kind 2 k))) (put_of (signed x) p (omega (arith, signed_short x f, r)))

  pub refused_piece : {s1 s2 s3 : Type 0} {k : ℕ} {l1 l2 : List ℕ} {a1 a2 : ℕ} → k < 256 → at + 28 ≤ length old → Puts old at (spelled refused) a1 l1 s1 → Puts l1 a1 (bytes " ") a2 l2 s2
      → Puts l2 a2 (decimal k) end new s3 → Put old at (refused_text k) end new
  unfolding refused_text
  refused_piece {k} f r p1 p2 p3 =
      let h : at + length (refused_text k) ≤ length old = omega (arith, refused_short k f, r) in
      piece (spelled refused) h p1 λ h. piece (bytes " ") h p2 λ h. put_of (decimal k) p3 h

  pub rule_piece : {s1 s2 s3 s4 : Type 0} (rule : ℕ) {l1 l2 l3 : List ℕ} {a1 a2 a3 : ℕ} → at + 14 ≤ length old → Puts old at (bytes "[") a1 l1 s1 → Puts l1 a1 (rule_name rule) a2 l2 s2
      → Puts l2 a2 (bytes "]") a3 l3 s3 → Puts l3 a3 (bytes " ") end new s4 → Put old at (bytes "[" ++ (rule_name rule ++ bytes "] ")) end new
  rule_piece rule r p1 p2 p3 p4 =
      let h : at + length (bytes "[" ++ (rule_name rule ++ bytes "] ")) ≤ length old = omega (arith, rule_short rule, r) in
      piece (bytes "[") h p1 λ h. piece (rule_name rule) h p2 λ h. piece (bytes "]") h p3 λ h. put_of (bytes " ") p4 h

  pub arrow_piece : {s1 s2 s3 : Type 0} (kind : ℕ) {l1 l2 : List ℕ} {a1 a2 : ℕ} → at + 4 ≤ length old → Puts old at (bytes " ") a1 l1 s1 → Puts l1 a1 (arrow kind) a2 l2 s2
      → Puts l2 a2 (bytes " ") end new s3 → Put old at (bytes " " ++ (arrow kind ++ bytes " ")) end new
  arrow_piece kind r p1 p2 p3 =
      let h : at + length (bytes " " ++ (arrow kind ++ bytes " ")) ≤ length old = omega (arith, arrow_short kind, r) in
      piece (bytes " ") h p1 λ h. piece (arrow kind) h p2 λ h. put_of (bytes " ") p3 h

-- ---- the answers

-- an answer and the buffer after it
abbrev pub Answers : List ℕ → Report → List ℕ → Result ℕ Question → List ℕ → Type 0
Answers w report old r new = record { value : r ≡ written w report (length old); buffer_after : new ≡ buffer_after w report old }

refused_after : {old : List ℕ} (line : List ℕ) {r : Result ℕ Question} {q : Question} → Err q ≡ r → old ≡ after r line old
unfolding after
refused_after {old} line e = ap (λ (a : Result ℕ Question). after a line old) e

wrote_after : {old line new : List ℕ} {r : Result ℕ Question} {n : ℕ} → Ok n ≡ r → Put old 0 line n new → new ≡ after r line old
unfolding after
wrote_after {old} {line} e p = over p ∙ ap (λ (a : Result ℕ Question). after a line old) e

module _ (w : List ℕ) (report : Report) (old : List ℕ) where
  pub no_space : length old < 128 → Answers w report old (Err ask.ResultRoom) old
  unfolding written
  no_space h =
      let e : Err ask.ResultRoom ≡ written w report (length old) = sym (pick_true _ _ _ (lt-ltb (length old) 128 h)) in
      record { value = e; buffer_after = refused_after _ e }

  pub no_table : 128 ≤ length old → passes w ≡ false → Answers w report old (Err ask.TableCheck) old
  unfolding written
  no_table h t =
      let e : Err ask.TableCheck ≡ written w report (length old) = sym (pick_false _ _ _ (le-ltb (length old) 128 h) ∙ pick_false _ _ _ t) in
      record { value = e; buffer_after = refused_after _ e }

  pub no_kind : 128 ≤ length old → passes w ≡ true → report_ok (contract_of w) report ≡ false → Answers w report old (Err ask.ResultKinds) old
  unfolding written
  no_kind h t k =
      let e : Err ask.ResultKinds ≡ written w report (length old) = sym (pick_false _ _ _ (le-ltb (length old) 128 h) ∙ pick_true _ _ _ t ∙ pick_false _ _ _ k) in
      record { value = e; buffer_after = refused_after _ e }

  pub wrote : {n : ℕ} {new : List ℕ} → 128 ≤ length old → passes w ≡ true → report_ok (contract_of w) report ≡ true
      → Put old 0 (line_of (contract_of w) report) n new → Answers w report old (Ok n) new
  unfolding written
  wrote {n} h t k p =
      let e : Ok n ≡ written w report (length old) =
      ap Ok (line_end_lem p) ∙ sym (pick_false _ _ _ (le-ltb (length old) 128 h) ∙ pick_true _ _ _ t ∙ pick_true _ _ _ k) in
      record { value = e; buffer_after = wrote_after e p }

abbrev pub TextAnswers : ℕ → ℕ → List ℕ → Result ℕ Question → List ℕ → Type 0
TextAnswers k place old r new = record { value : r ≡ text_written k place (length old); buffer_after : new ≡ text_buffer_after k place old }

module _ (k place : ℕ) (old : List ℕ) where
  pub text_no_space : length old < 128 → TextAnswers k place old (Err ask.ResultRoom) old
  unfolding text_written
  text_no_space h =
      let e : Err ask.ResultRoom ≡ text_written k place (length old) = sym (pick_true _ _ _ (lt-ltb (length old) 128 h)) in
      record { value = e; buffer_after = refused_after _ e }

  pub text_no_kind : 128 ≤ length old → text_refusal k ≡ false → TextAnswers k place old (Err ask.ResultKinds) old
  unfolding text_written
  text_no_kind h t =
      let e : Err ask.ResultKinds ≡ text_written k place (length old) = sym (pick_false _ _ _ (le-ltb (length old) 128 h) ∙ pick_false _ _ _ t) in
      record { value = e; buffer_after = refused_after _ e }

  pub text_wrote : {n : ℕ} {new : List ℕ} → 128 ≤ length old → text_refusal k ≡ true → Put old 0 (text_line k place) n new → TextAnswers k place old (Ok n) new
  unfolding text_written
  text_wrote {n} h t p =
      let e : Ok n ≡ text_written k place (length old) =
      ap Ok (line_end_lem p) ∙ sym (pick_false _ _ _ (le-ltb (length old) 128 h) ∙ pick_true _ _ _ t) in
      record { value = e; buffer_after = wrote_after e p }

-- ---- a table that was asked for question 3

none_some : {A : Type 0} {a : A} → Some a ≡ None → ⊥
none_some e = true_false (ap (λ o. is_some o) e)

module _ (w : List ℕ) {r : Option Passed} (e : held r ≡ passing w) where
  pub same_table : {p : Passed} → r ≡ Some p → p.table.now ≡ w
  same_table {p} s =
      let q : Some p.table.now ≡ passing w = sym (ap held s) ∙ e in
      by_test (passes w) (λ t. ap (λ (o : Option (List ℕ)). unwrap_or o w) (q ∙ pick_true _ _ _ t)) λ t. absurd (none_some (q ∙ pick_false _ _ _ t))

  pub passes_then : {p : Passed} → r ≡ Some p → passes w ≡ true
  passes_then {p} s = ap passes (sym (same_table s)) ∙ p.whole

  pub not_passed : r ≡ None → passes w ≡ false
  not_passed s =
      let q : None ≡ passing w = sym (ap held s) ∙ e in
      by_test (passes w) (λ t. absurd (none_some (sym (q ∙ pick_true _ _ _ t)))) λ t. t
