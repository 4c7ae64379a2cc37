-- Demand 3 holds of every list of steps on the table of every text that reading accepts; the refusal of any other is printed. Assumes nothing.
use mathlib.Core.Path.{◌≡◌, ◌∙◌}
use mathlib.Core.Bool.{true}
use mathlib.Core.List.{List}
use Prim.Native.Nat.{ℕ, ◌≤◌}
use lib.ListN.{length}
use borrow.Author.Tests.{le-ltb}
use Rattle.contract.specs.Tree.{Contract}
use Rattle.laws.specs.Lists.{every}
use Rattle.laws.proofs.Choice.{pick_true, pick_false}
use Rattle.contract.specs.Encode.{encode}
use Rattle.reading.specs.Reading.{read_text, accepted, refused}
use Rattle.accepted.proofs.Accepted.{accepted_passes}
use Rattle.accepted.proofs.Refusals.{refused_within}
use Rattle.results.specs.Lines.{text_refusal, text_line}
use Rattle.results.specs.Results.{text_written}
use Rattle.std.specs.Prelude.{Ok}
use Rattle.history.specs.Histories.{Step, within64}
use Rattle.history.specs.Demand.{Demand}
use Rattle.history.proofs.Demand.{demand}

pub demand_of_text : (s : List ℕ) (words : ℕ) (c : Contract) → read_text s words ≡ accepted c
    → (clock : ℕ) (xs : List Step) → every (λ a. within64 a.request) xs ≡ true → Demand (encode c) clock xs
demand_of_text s words c e = demand (encode c) (accepted_passes s words c e)

-- the line of a refused text is printed by `write_text_refusal`, given 128 bytes or more, and its place is within the text
pub refusal_printed : (s : List ℕ) (words q p : ℕ) → read_text s words ≡ refused q p
    → ((size : ℕ) → 128 ≤ size → text_written q p size ≡ Ok (length (text_line q p))) × (p ≤ length s)
unfolding text_written text_refusal
refusal_printed s words q p e = (λ size h. pick_false _ _ _ (le-ltb size 128 h) ∙ pick_true _ _ _ (refused_within s words q p e).0, (refused_within s words q p e).1)
