-- `lines::Reader::field` meets its contract. Assumes nothing.
use borrow.Author.Rules.{rules}
use mathlib.Core.Path.{◌≡◌, refl, ap}
use mir.Syntax.{w64}
use mir.Val.{to_z, of_z}
use lib.IntN.{ℤ}
use Rattle.std.specs.Prelude.{Option, Some}
use Rattle.words.specs.Words.{spelled}
use Rattle.lines.specs.Lines.{field}
use Rattle.lines.specs.declared.Field.{Field}
use Rattle.lines.specs.declared.Span.{Span}
use Rattle.lines.proofs.Got.{stands, name_got, name_missed, mark_got, mark_missed, integer_got, integer_missed}
use Rattle.lines.proofs.Reader.field.Goals as goal

abbrev some_field : Span → ℤ → Option Field
some_field x z = Some (record { name = x; value = z })

pub returns-in_err-name : goal.returns-in_err-name
unfolding field
returns-in_err-name c =
    rw (name_missed _ _ refl c.in_err-name.ensures) c.from_residual.ensures

pub returns-in_err-mark : goal.returns-in_err-mark
unfolding field spelled
returns-in_err-mark c =
    let a = name_got _ refl c.in_ok-name.ensures in
    rw (a.parsed, (mark_missed _ _ a.line c.in_err-mark.ensures).parsed) c.from_residual-in_err-mark.ensures

pub returns-in_err-value : goal.returns-in_err-value
unfolding field spelled
returns-in_err-value c =
    let a = name_got _ refl c.in_ok-name.ensures in
    let b = mark_got _ _ a.line c.in_ok-mark.ensures in
    rw (a.parsed, b.parsed, integer_missed _ _ b.line c.in_err-value.ensures) c.from_residual-in_err-value.ensures

pub returns : goal.returns
unfolding field spelled
returns c =
    let e : to_z w64 (of_z w64 c.in_ok-value.value) ≡ c.in_ok-value.value = search rules in
    let a = name_got _ refl c.in_ok-name.ensures in
    let b = mark_got _ _ a.line c.in_ok-mark.ensures in
    let d = integer_got _ b.line c.in_ok-value.ensures in
    let x = c.in_ok-name.name in
    rw (a.parsed, b.parsed, d.parsed) (ap (some_field x) e, stands d.line)
