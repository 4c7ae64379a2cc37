-- The payouts among a session's result lines, gathered for pages (`--pages OUT` of the desk).
use Rattle.std.specs.Prelude.{ℕ, ◌+◌, ◌*◌, Bool, false, ◌&&◌, List, [], ◌∷◌, set, eqb, ltb, ℤ}
use Rattle.std.proofs.lemmas.List.Edits.{sets}
use Rattle.laws.specs.Choice.{pick}
use Rattle.results.specs.declared.Report.{Report}
use Rattle.results.specs.declared.Report.TheVariants.{Ruled, Sent, Held, Refused, Failed}
use Rattle.pages.specs.Entries.{Entry}
use Rattle.pages.specs.declared.Gathered.{Gathered}

-- the payouts among result lines, each with the rule and the clock of the last rule's line before it; `rule` and `clock` stand for such a
-- line before the list. A step that is refused, and a firing that fails, sends nothing
unfoldable pub payouts : ℕ → ℕ → List Report → List Entry
payouts rule clock [] = []
payouts rule clock (Ruled r state t ∷ rs) = payouts r t rs
payouts rule clock (Sent kind party value group ∷ rs) =
    pick (eqb kind 3)
    (record { kind = 3; party = party; rule = rule; clock = clock; value = value; group = group } ∷ payouts rule clock rs)
    (payouts rule clock rs)
payouts rule clock (Held asset amount ∷ rs) = payouts rule clock rs
payouts rule clock (Refused n ∷ rs) = payouts rule clock rs
payouts rule clock (Failed n ∷ rs) = payouts rule clock rs

-- whether a result line is a payout that the page has room for; a full page is written before the next one (`turned`, Promises.antt)
unfoldable pub joins : Gathered → Report → Bool
joins g (Ruled rule state clock) = false
joins g (Sent kind party value group) = eqb kind 3 && ltb g.count 60
joins g (Held asset amount) = false
joins g (Refused n) = false
joins g (Failed n) = false

-- what is gathered after a result line: the last rule and its clock, and how many payouts
unfoldable pub gathered : Gathered → Report → Gathered
gathered g (Ruled rule state clock) = record { rule = rule; clock = clock; count = g.count }
gathered g (Sent kind party value group) = pick (joins g (Sent kind party value group)) (record { rule = g.rule; clock = g.clock; count = g.count + 1 }) g
gathered g (Held asset amount) = g
gathered g (Refused n) = g
gathered g (Failed n) = g

-- the five numbers of a payout are stored after those before it, and its value
unfoldable pub numbers_after : Gathered → Report → List ℕ → List ℕ
numbers_after g (Ruled rule state clock) old = old
numbers_after g (Sent kind party value group) old =
    pick (joins g (Sent kind party value group)) (sets old (5 * g.count) (3 ∷ party ∷ g.rule ∷ g.clock ∷ group ∷ [])) old
numbers_after g (Held asset amount) old = old
numbers_after g (Refused n) old = old
numbers_after g (Failed n) old = old

unfoldable pub values_after : Gathered → Report → List ℤ → List ℤ
values_after g (Ruled rule state clock) old = old
values_after g (Sent kind party value group) old = pick (joins g (Sent kind party value group)) (set old g.count value) old
values_after g (Held asset amount) old = old
values_after g (Refused n) old = old
values_after g (Failed n) old = old
