-- Entries of settlement pages (document 02, F-1), the numbers that give them, and question 61.
use Rattle.std.specs.Prelude.{ℕ, ◌+◌, ◌*◌, ◌/◌, max, Bool, ◌&&◌, ◌||◌, List, length, get_or, eqb, leb, ltb, ℤ, pos, nat_abs}
use Rattle.std.specs.Int.Signed.{le_z}
use Rattle.laws.specs.Choice.{pick}
use Rattle.contract.specs.Limits.{top}
use Rattle.contract.specs.Tree.{Contract}
use Rattle.contract.specs.Decode.{each_from}

-- document 02's entry: a label (kind, party, value, its source's group) with the clock and the rule that sent it
pub record Entry : Type 0 where
  pub kind : ℕ
  pub party : ℕ
  -- as result lines number them: 1 FUNCTION, 2 EVENT MATCH (0 AGREE and 3 TICK send nothing)
  pub rule : ℕ
  pub clock : ℕ
  pub value : ℤ
  pub group : ℕ

-- zeros, which are no payout: there is no kind 0
abbrev pub no_entry : Entry
no_entry = record { kind = 0; party = 0; rule = 0; clock = 0; value = pos 0; group = 0 }

-- question 61: an asset payout (kind 3) by FUNCTION or EVENT MATCH to a known party, with clock and amount 0 to top
unfoldable pub is_payout : Contract → Entry → Bool
is_payout c e =
    eqb e.kind 3
    && ((eqb e.rule 1 || eqb e.rule 2)
    && (ltb e.party (length c.parties)
    && (leb e.clock top
    && (le_z (pos 0) e.value && leb (nat_abs e.value) top))))

-- ---- entries as numbers: kind, party, rule and clock, which 61 and the page look at, and group, which is only carried; and a value each

-- entry i; where one of its five numbers, also the last, or its value is missing at the end, it is zeros, hence 61
unfoldable pub entry_at : List ℕ → List ℤ → ℕ → Entry
entry_at numbers values i =
    pick (leb (5 * i + 5) (length numbers) && ltb i (length values))
    (record {
      kind = get_or numbers (5 * i) 0;
      party = get_or numbers (5 * i + 1) 0;
      rule = get_or numbers (5 * i + 2) 0;
      clock = get_or numbers (5 * i + 3) 0;
      value = get_or values i (pos 0);
      group = get_or numbers (5 * i + 4) 0;
    })
    no_entry

-- all that are given; those that are not whole among them
unfoldable pub entries_of : List ℕ → List ℤ → List Entry
entries_of numbers values = each_from 0 (max ((length numbers + 4) / 5) (length values)) (entry_at numbers values)
