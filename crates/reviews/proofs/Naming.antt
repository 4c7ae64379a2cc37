-- The names of fields in a table that passes. Assumes nothing.
use mathlib.Core.Path.{◌≡◌, sym, ap, ◌∙◌}
use mathlib.Core.Bool.{true, false}
use mathlib.Core.List.{List, []}
use Prim.Native.Nat.{ℕ, ◌+◌, ◌*◌, ◌<◌, ◌≤◌}
use native.Mathlib.Omega.{arith}
use lib.ListN.{length, get_or-eq_default}
use lib.Seq.{sets}
use Rattle.laws.proofs.Choice.{pick_true, pick_false}
use Rattle.contract.specs.Table.{word_at}
use Rattle.contract.specs.Decode.{contract_of}
use Rattle.contract.specs.Check.{passes}
use Rattle.contract_laws.proofs.Sound.{passed, counts}
use Rattle.printing.specs.Pieces.{name_bytes}
use Rattle.printing.proofs.Puts.{Puts, put_of, from_start, line_end_lem}
use Rattle.results.proofs.Rows.{Row, field_row}
use Rattle.reviews.specs.Reviews.{field_name}

-- how many bytes a name has, and a list with it at the start
abbrev pub Named : List ℕ → List ℕ → ℕ → List ℕ → Type 0
Named old name n new = record { value : n ≡ length name; buffer_after : new ≡ sets old 0 name }

no_name : (old name : List ℕ) → [] ≡ name → Named old name 0 old
no_name old name e = record { value = ap length e; buffer_after = ap (sets old 0) e }

module _ (w : List ℕ) (e : passes w ≡ true) (x : ℕ) where
  pub field_few : x < word_at w 2 → x < 32
  field_few h = omega (arith, (passed w e).head.fields)

  pub named_as : {s : Type 0} {lent old after new : List ℕ} {at n : ℕ} → x < word_at w 2 → length lent ≡ 32 → at ≡ 0 → old ≡ lent
      → Puts old at (name_bytes w (835 + x * 33)) n after s → new ≡ after → Named lent (field_name w x) n new
  unfolding field_name
  named_as {lent = lent} h k a g p b =
      let name : List ℕ = name_bytes w (835 + x * 33) in
      let row : Row w (contract_of w).fields x (835 + x * 33) 32 = field_row w e x (omega (arith, (counts w).fields)) in
      let q = from_start a g (put_of name p (omega (arith, row.short, k, a, ap length g))) b in
      let same : name ≡ field_name w x = sym (pick_true _ _ _ e ∙ row.name) in
      record { value = line_end_lem q ∙ ap length same; buffer_after = q.list ∙ ap (sets lent 0) same }

  pub no_field : (old : List ℕ) → word_at w 2 ≤ x → Named old (field_name w x) 0 old
  unfolding field_name
  no_field old h =
      let beyond : length (contract_of w).fields ≤ x = omega (arith, (counts w).fields) in
      no_name old (field_name w x) (sym (pick_true _ _ _ e ∙ get_or-eq_default (contract_of w).fields [] beyond))

pub no_contract : (w : List ℕ) (x : ℕ) (old : List ℕ) → passes w ≡ false → Named old (field_name w x) 0 old
unfolding field_name
no_contract w x old e = no_name old (field_name w x) (sym (pick_false _ _ _ e))
