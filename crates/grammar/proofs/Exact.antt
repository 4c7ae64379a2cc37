-- A text is accepted with a contract exactly if it means that contract. Assumes nothing.
use mathlib.Core.Path.{◌≡◌, refl, ap, subst, ◌∙◌}
use mathlib.Core.List.{List, []}
use Prim.Native.Nat.{ℕ, ◌≤◌}
use mathlib.Core.Logic.{◌↔◌}
use lib.ListN.{length}
use lib.Dec.{eqb, leb}
use borrow.Author.Tests.{le-leb, leb-true, eqb-true, eq-eqb}
use Rattle.laws.proofs.Choice.{pick_true, by_cases}
use Rattle.contract.specs.Tree.{Contract}
use Rattle.contract.specs.Table.{table_length}
use Rattle.reading.specs.Syntax.{Syntax}
use Rattle.reading.specs.Grammar.{Parsed, done, no, parse}
use Rattle.reading.specs.Items.{items}
use Rattle.reading.specs.Rules.{Finding, fine, breaks, judged}
use Rattle.reading.specs.Reading.{max_text, Reading, accepted, refused, ruled, parsed, read_text}
use Rattle.grammar.specs.Meaning.{Means}
use Rattle.grammar.proofs.Sound.{parse_sound}
use Rattle.grammar.proofs.Complete.{parse_complete}

abbrev IsRefused : Reading → Type 0
IsRefused (accepted c) = ⊥
IsRefused (refused q p) = Unit {0}

refused_not : {X : Type 0} (q p : ℕ) (k : Contract) → refused q p ≡ accepted k → X
refused_not q p k e = absurd (subst IsRefused e tt)

abbrev contract_in : Contract → Reading → Contract
contract_in k (accepted c) = c
contract_in k (refused q p) = k

module _ (s : List ℕ) (k : Contract) where
  -- what an accepted reading tells
  abbrev Tells : ℕ → Reading → Type 0
  Tells words r = r ≡ accepted k → (length s ≤ max_text) × (words ≡ table_length) × Means s k

  ruled_means : (c : Syntax) (n : ℕ) → parse s ≡ done c n → (f : Finding) → judged s [] fine (items c) ≡ f → ruled s c f ≡ accepted k → Means s k
  ruled_means c n e fine j h =
      let y = parse_sound s c n e in
      record { tokens = y.0; tree = c; all = y.1; derives = y.2; rules = j; resolved = ap (contract_in k) h }
  ruled_means c n e (breaks q p) j h = refused_not q p k h

  parsed_means : (r : Parsed Syntax) → parse s ≡ r → parsed s r ≡ accepted k → Means s k
  parsed_means (done c n) e h = ruled_means c n e (judged s [] fine (items c)) refl h
  parsed_means (no q p) e h = refused_not q p k h

  reading_means : (words : ℕ) → Tells words (read_text s words)
  unfolding read_text
  reading_means words =
      by_cases (Tells words) (leb (length s) max_text) _ _
      (λ a. by_cases (Tells words) (eqb words table_length) _ _
      (λ b h. (leb-true _ _ a, eqb-true words table_length b, parsed_means (parse s) refl h))
      (λ _ h. refused_not 2 0 k h))
      (λ _ h. refused_not 1 0 k h)

  means_read : (words : ℕ) → length s ≤ max_text → words ≡ table_length → Means s k → read_text s words ≡ accepted k
  unfolding read_text
  means_read words l w h =
      pick_true _ _ _ (le-leb _ _ l)
      ∙ pick_true _ _ _ (eq-eqb words table_length w)
      ∙ ap (parsed s) (parse_complete s h.tree h.tokens h.all h.derives)
      ∙ ap (ruled s h.tree) h.rules
      ∙ ap accepted h.resolved

-- a text is accepted with the contract k exactly if it is short enough, the table has its length, and the text means k
pub read_exactly : (s : List ℕ) (words : ℕ) (k : Contract) → (read_text s words ≡ accepted k) ↔ ((length s ≤ max_text) × (words ≡ table_length) × Means s k)
read_exactly s words k = (reading_means s k words, λ h. means_read s k words h.0 h.1 h.2)
