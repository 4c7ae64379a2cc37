-- `machine::line_end` meets its contract. Assumes nothing.
use Rattle.std.proofs.Common.{rules, tests, refl, ◌≡◌, ◌∙◌, ◌+◌, sym, ap, ℕ, true, false, nat_eq}
use mathlib.Core.Bool.{not}
use Rattle.std.proofs.lemmas.Iterator.{YieldsList-from_slice, IsFirst-from_position}
use Rattle.tokens.specs.Classes.{run}
use Rattle.laws.proofs.Slices.{rest_or}
use Rattle.lines.proofs.Firsts.{run_first}
use Rattle.machine.specs.Sessions.{end_of_line}
use Rattle.machine.proofs.turns.line_end.Goals as goal

pub returns : goal.returns
unfolding end_of_line
returns c =
    let s = c.args.input.now in
    let l = c.unwrap_or-rest.result.now in
    let first = IsFirst-from_position _ _ _ (λ b. not (nat_eq b 10) ≡ false) (λ b. not (nat_eq b 10) ≡ true) c.position.ensures.ran (YieldsList-from_slice l cc) (λ x q k. search (rules, tests)) (λ x q k. search (rules, tests)) in
    ap (λ (n : ℕ). c.args.at + n) (
    c.unwrap_or-many.ensures
    ∙ sym (run_first (λ b. not (nat_eq b 10)) l _ first)
    ∙ ap (run (λ b. not (nat_eq b 10))) (rest_or s c.args.at _ _ c.unwrap_or-rest.ensures refl c.get.ensures.lookup)
    )
