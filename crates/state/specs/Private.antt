-- Which pending event is due, which takes another's place, and which of them time passing drops or meets.
use Rattle.std.specs.Prelude.{Bool, true, ◌&&◌, ◌||◌, ℕ, eqb, leb, ltb, Option, Some, None}
use Rattle.contract.specs.Tree.{Contract}
use Rattle.state.specs.States.{event_of, stands_before}
use Rattle.state.specs.declared.Pending.{Pending}

-- an event of this time is not dropped while the clock rises from one value to another
unfoldable pub not_dropped : ℕ → ℕ → ℕ → Bool
not_dropped from to time = ltb time from || leb to time

-- an event comes due in this state, from one clock value on and before another
unfoldable pub comes_due : Contract → ℕ → ℕ → ℕ → Pending → Bool
comes_due c state from stop p = leb from p.time && (ltb p.time stop && eqb (event_of c p).state state)

-- an event is due at a clock and in a state
unfoldable pub due_at : Contract → ℕ → ℕ → Pending → Bool
due_at c clock state p = eqb p.time clock && eqb (event_of c p).state state

-- event p takes the place of what was found so far: of nothing always, of an event with its place if p stands before that in the text
abbrev pub takes_over : Option (ℕ × Pending) → Pending → Bool
takes_over None p = true
takes_over (Some (k, first)) p = stands_before p first
