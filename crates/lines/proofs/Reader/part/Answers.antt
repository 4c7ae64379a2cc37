-- `lines::Reader::part` meets its contract. Assumes nothing.
use mathlib.Core.Path.{refl, ap}
use mathlib.Core.List.{List, [], ◌∷◌}
use Prim.Native.Nat.{ℕ}
use native.Mathlib.Omega.{arith}
use Rattle.lines.specs.Lines.{Field, Parser, field, list}
use Rattle.lines.specs.Private.{with_fields}
use Rattle.lines.specs.declared.Agreement.{Agreement}
use Rattle.lines.proofs.Got.{name_got, name_missed, verb_got, verb_missed, added_got, added_missed, stored_none, filled}
use Rattle.lines.proofs.Agreed.{party_missing, party_on, verb_missing, verb_on, fields_missing, part_filled}
use Rattle.lines.proofs.Reader.part.Goals as goal

abbrev fields : List ℕ → Parser (List Field)
fields s = list s (91 ∷ []) (field s) (93 ∷ [])

pub returns-in_err-party : goal.returns-in_err-party
returns-in_err-party c =
    stored_none _ _ _ _ (party_missing _ _ (name_missed _ _ refl c.in_err-party.ensures)) c.from_residual.ensures

pub returns-in_err-verb : goal.returns-in_err-verb
returns-in_err-verb c =
    let a = name_got _ refl c.in_ok-party.ensures in
    stored_none _ _ _ _ (verb_missing _ _ a.parsed (verb_missed _ _ a.line c.in_err-verb.ensures)) c.from_residual-in_err-verb.ensures

pub field_list-requires : goal.field_list-requires
field_list-requires c =
    let a = name_got _ refl c.in_ok-party.ensures in
    let b = verb_got _ _ a.line c.in_ok-verb.ensures in
    omega (arith, c.requires.2, verb_on _ _ a.parsed b.parsed)

pub returns-in_err-field_list : goal.returns-in_err-field_list
returns-in_err-field_list c =
    let a = name_got _ refl c.in_ok-party.ensures in
    let b = verb_got _ _ a.line c.in_ok-verb.ensures in
    stored_none _ _ _ _ (fields_missing _ _ a.parsed _ b.parsed (added_missed (with_fields c.args.out.now) fields _ _ _ b.line c.in_err-field_list.ensures)) c.from_residual-in_err-field_list.ensures

pub add_head-requires : goal.add_head-requires
add_head-requires c =
    let a = name_got _ refl c.in_ok-party.ensures in
    let b = verb_got _ _ a.line c.in_ok-verb.ensures in
    let f = added_got (with_fields c.args.out.now) fields _ _ _ b.line c.in_ok-field_list.ensures in
    omega (arith, ap (λ (x : Agreement). x.parts) f.out_is, c.requires.0, c.requires.1, party_on _ _ a.parsed)

pub returns : goal.returns
returns c =
    let a = name_got _ refl c.in_ok-party.ensures in
    let b = verb_got _ _ a.line c.in_ok-verb.ensures in
    let f = added_got (with_fields c.args.out.now) fields _ _ _ b.line c.in_ok-field_list.ensures in
    filled _ _ (part_filled _ _ a.parsed _ b.parsed _ f refl c.add_head.ensures) refl
