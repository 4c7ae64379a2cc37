-- For private functions only: an entry as the code has it, and the two halves of a line.
use Rattle.std.specs.Prelude.{List, [], ◌++◌, ℕ, get_or}
use Rattle.laws.specs.Bytes.{bytes}
use Rattle.words.specs.Words.{spelled, line_end}
use Rattle.contract.specs.Tree.{Contract}
use Rattle.printing.specs.Decimal.{decimal}
use Rattle.results.specs.Lines.{rule_name}
use Rattle.pages.specs.Page.{right, left}
use Rattle.pages.specs.declared.payouts.Entry as declared
use Rattle.pages.specs.Entries.{Entry}

-- document 02's entry, as the code has it
abbrev pub entry_of : declared.Entry → Entry
entry_of e = record { kind = e.kind; party = e.party; rule = e.rule; clock = e.clock; value = e.value; group = e.group }

-- clock and rule, each with a space after it
abbrev pub step_text : ℕ → ℕ → List ℕ
step_text clock rule = right 19 (decimal clock) ++ (bytes " " ++ (left 11 (rule_name rule) ++ bytes " "))

-- party, a space, the amount and LF
abbrev pub payee_text : Contract → ℕ → ℕ → List ℕ
payee_text c party amount = left 32 (get_or c.parties party []) ++ (bytes " " ++ (right 19 (decimal amount) ++ spelled line_end))
