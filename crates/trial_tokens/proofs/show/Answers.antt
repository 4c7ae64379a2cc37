-- A token ends after the place asked, so less text is left.
use mathlib.Core.Path.{sym, ◌∙◌}
use native.Mathlib.Omega.{arith}
use Rattle.tokens.proofs.Facts.{progress}
use Rattle.trial_tokens.proofs.show.Goals as goal

pub loop-token-smaller : goal.loop-token-smaller
loop-token-smaller g c =
    let p = progress c.args.text.now c.loop-token.at c.in-Found.token (sym c.next.ensures ∙ c.in-Found.is) in
    omega (arith, p.0, p.1, p.2)
