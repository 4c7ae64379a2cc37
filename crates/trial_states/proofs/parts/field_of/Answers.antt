-- Each number is that of its word. Assumes nothing.
use Rattle.std.proofs.Common.{w64}
use Rattle.std.proofs.lemmas.Int.{to_z-of_z}
use Rattle.trial_text.proofs.Words.{natural_from, integer_from}
use Rattle.trial_states.proofs.parts.field_of.Goals as goal

pub returns : goal.returns
returns c =
    let a = natural_from 64 _ _ _ c.number_at.ensures (λ w r h. h.0) in
    let b = natural_from 8 _ _ _ c.number_at-2.ensures (λ w r h. h.0) in
    let d = integer_from _ _ _ c.number_at-3.ensures (λ w r h. h.0) in
    let e = natural_from 8 _ _ _ c.number_at-4.ensures (λ w r h. h.0) in
    let same = to_z-of_z w64 c.number_at-3.result (record { sfits = c.number_at-3.type_inv }) in
    cc
