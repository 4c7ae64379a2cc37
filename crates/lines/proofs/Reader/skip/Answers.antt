-- `lines::Reader::skip` meets its contract. Assumes nothing.
use Rattle.std.proofs.Common.{rules, tests, refl, ◌≡◌, ◌∙◌, ◌+◌, sym, ap, ℕ, true, false}
use Rattle.std.proofs.lemmas.Iterator.{YieldsList-from_slice, IsFirst-from_position}
use Rattle.tokens.specs.Classes.{run}
use Rattle.lines.specs.Lines.{is_space, skipped}
use Rattle.laws.proofs.Slices.{rest_or}
use Rattle.lines.proofs.Firsts.{run_first}
use Rattle.lines.proofs.Reader.skip.Goals as goal

pub returns : goal.returns
unfolding skipped is_space
returns c =
    let s = c.args.self.now.line.now in
    let l = c.unwrap_or-rest.result.now in
    let first = IsFirst-from_position _ _ _ (λ b. is_space b ≡ false) (λ b. is_space b ≡ true) c.position.ensures.ran (YieldsList-from_slice l cc) (λ x q k. search (rules, tests)) (λ x q k. search (rules, tests)) in
    ap (λ (n : ℕ). c.args.self.now.at + n) (
    c.unwrap_or-spaces.ensures
    ∙ sym (run_first is_space l _ first)
    ∙ ap (run is_space) (rest_or s c.args.self.now.at _ _ c.unwrap_or-rest.ensures refl c.get.ensures.lookup)
    )
