-- `desk_lines::close` meets its contract. Assumes nothing.
use mathlib.Core.Path.{refl, sym, ap, ◌∙◌}
use mathlib.Core.Logic.{inl, inr}
use native.Mathlib.Omega.{arith}
use native.Mathlib.Numerals.{add-one}
use borrow.Author.Tests.{eq-eqb, ne_eqb, lt-ltb, le-ltb}
use lib.Seq.{sets, set_out}
use Rattle.laws.specs.Choice.{pick}
use Rattle.desk_lines.specs.Blocks.{closed_size, closed}
use Rattle.words.specs.Words.{spelled}
use Rattle.desk_lines.proofs.close.Goals as goal

pub returns-then-size-bytes : goal.returns-then-size-bytes
unfolding closed_size closed pick spelled
returns-then-size-bytes c =
    rw (ne_eqb c.args.size 0 (λ e. omega (arith, e, c.if-size-gt0.true)), lt-ltb _ _ c.if-size-bytes.true) (record { value = add-one _; bytes_after = c.store_all.ensures ∙ ap (sets c.args.bytes.now c.args.size) c.spelling.ensures })

pub returns : goal.returns
unfolding closed_size closed pick
returns c = elim c.else-size-gt0.either [
  | inl p ↦ rw (ne_eqb c.args.size 0 (λ e. omega (arith, e, p.0)), le-ltb _ _ p.1) (record { value = refl; bytes_after = sym (set_out _ _ _ p.1) })
  | inr z ↦ rw (eq-eqb c.args.size 0 (omega (arith, z))) (record { value = refl; bytes_after = refl })
]
