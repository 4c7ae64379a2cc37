-- What private functions here and above ask of a writer, and what they say of it.
use mathlib.Core.List.{List}
use Prim.Native.Nat.{ℕ, ◌+◌, ◌≤◌}
use lib.ListN.{length}
use Rattle.printing.specs.Pieces.{Put}
use Rattle.printing.specs.declared.Writer.{Writer}

-- it has room for n bytes
abbrev pub HasRoom : ℕ → Writer → Type 0
HasRoom n w = w.at + n ≤ length w.buffer.now

-- pieces that had room stand in its buffer, and its place is the one after them
abbrev pub Wrote : Writer → List ℕ → Writer → Type 0
Wrote old pieces new = Put old.buffer.now old.at pieces new.at new.buffer.now
