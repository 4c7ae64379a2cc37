-- For private functions only: question 14 by masks, over the clause rows of a table. A mask holds the numbers up to 62 whose bits
-- are 1; bit 63 says that a number was put in twice. Larger numbers share bit 63: none of a text is larger than 32.
use Rattle.std.specs.Prelude.{ℕ, ◌+◌, ◌/◌, ◌^◌, min, Bool, true, false, ◌&&◌, not, List, [], ◌∷◌, eqb}
use Rattle.std.specs.Int.Bits.{bit_and, bit_or}
use Rattle.laws.specs.Choice.{pick}
use Rattle.contract.specs.Tree.{set, ok, Clause}
use Rattle.contract.specs.Table.{clause_word}
use Rattle.laws.specs.Lists.{every, all_below}
use Rattle.contract.specs.Decode.{each_from}
use Rattle.reading.specs.Rules.{is_set}

-- the clause that row i holds
unfoldable pub row_of : List ℕ → ℕ → Clause
row_of w i =
    record {
      party = clause_word w i 0;
      verb = pick (eqb (clause_word w i 1) 0) set ok;
      fields = each_from 0 (clause_word w i 2) (λ j. clause_word w i (3 + j));
    }

-- the first n rows
abbrev pub rows_of : List ℕ → ℕ → List Clause
rows_of w n = each_from 0 n (row_of w)

-- the bit that says twice
abbrev pub twice : ℕ
twice = 63

unfoldable pub holds : ℕ → ℕ → Bool
holds m n = eqb (bit_and (m / 2 ^ min n twice) 1) 1

unfoldable pub with : ℕ → ℕ → ℕ
with m n = pick (holds m n) (bit_or m (2 ^ twice)) (bit_or m (2 ^ min n twice))

-- a mask with the numbers of a list, the last one first
unfoldable pub with_all : ℕ → List ℕ → ℕ
with_all m [] = m
with_all m (x ∷ xs) = with (with_all m xs) x

-- the fields that parties other than a set
unfoldable pub field_mask : ℕ → List Clause → ℕ
field_mask a [] = 0
field_mask a (k ∷ ks) =
    pick (is_set k.verb)
    (pick (eqb k.party a) (field_mask a ks) (with_all (field_mask a ks) k.fields))
    (field_mask a ks)

-- the parties of the clauses with SET, or of those with OK
unfoldable pub party_mask : Bool → List Clause → ℕ
party_mask v [] = 0
party_mask true (k ∷ ks) = pick (is_set k.verb) (with (party_mask true ks) k.party) (party_mask true ks)
party_mask false (k ∷ ks) = pick (is_set k.verb) (party_mask false ks) (with (party_mask false ks) k.party)

-- each number in a mask, none of them twice, is in another mask
unfoldable pub part_of : ℕ → ℕ → Bool
part_of m o = not (holds m twice) && eqb (bit_and m o) m

unfoldable pub agrees_by_mask : List Clause → Clause → Bool
agrees_by_mask ks k = pick (is_set k.verb) true (part_of (with_all 0 k.fields) (field_mask k.party ks))

-- the rules of `keeps_rules` in their order; no party has the number 63
unfoldable pub kept_by_masks : ℕ → List Clause → Bool
kept_by_masks n ks =
    not (holds (field_mask 63 ks) twice)
    && (every (agrees_by_mask ks) ks
    && (all_below n (holds (bit_or (party_mask true ks) (party_mask false ks)))
    && (not (holds (party_mask true ks) twice) && not (holds (party_mask false ks) twice))))
