-- Each number is that of its word. Assumes nothing.
use Rattle.trial_text.proofs.Words.{natural_from}
use Rattle.trial_states.proofs.parts.head_of.Goals as goal

pub returns : goal.returns
returns c =
    let a = natural_from 64 _ _ _ c.number_at.ensures (λ w r h. h.0) in
    let b = natural_from 64 _ _ _ c.number_at-2.ensures (λ w r h. h.0) in
    let d = natural_from 64 _ _ _ c.number_at-3.ensures (λ w r h. h.0) in
    let e = natural_from 64 _ _ _ c.number_at-4.ensures (λ w r h. h.0) in
    cc
