-- What stands at the buffer's start is what the stream has given; each turn leaves less to fill.
use Rattle.std.proofs.Common.{◌≡◌, ◌≤◌, ◌-◌, length, take}
use Rattle.std.specs.Io.KnownBytes.{Consumes}
use Rattle.streams.proofs.fill.Given as goal

abbrev pub invariant-loop-size : goal.invariant-loop-size
invariant-loop-size g l = (length l.bytes ≡ length l.initial.bytes) × (l.size ≤ length l.bytes) × Consumes (g.R.Read.remaining l.initial.from) (g.R.Read.remaining l.from) (take l.size l.bytes)

abbrev pub decreases-loop-size : goal.decreases-loop-size
decreases-loop-size g l = length l.bytes - l.size
