-- What a step leaves: by value, and in the lent slice of labels.
use Rattle.std.specs.Prelude.{cond, List, ◌++◌, ℕ, ◌/◌, min, ltb, ℤ, length, take, drop}
use Rattle.statements.specs.declared.Label.{Label}
use Rattle.state.specs.declared.State.{State}
use Rattle.questions.specs.declared.Question.{Question}
use Rattle.outcomes.specs.declared.Stepped.{Stepped}
use Rattle.machine.specs.Steps.{step, called}
use Rattle.agreements.specs.Agreement.{parts_in, agreed_on}
use Rattle.steps.specs.declared.Left.{Left}

-- how many entries are written into a slice of `slots` entries
abbrev pub count_of : ℕ → ℕ → ℕ
count_of slots n = cond (ltb slots 64) 0 (min 64 n)

-- the first labels, and then the entries that the slice held
unfoldable pub copied_of : List Label → List Label → ℕ → List Label
copied_of old from n = take (count_of (length old) n) from ++ drop (count_of (length old) n) old

-- what a step leaves beside its labels
abbrev pub left_of : Stepped Question → Left
left_of r = record { outcome = r.outcome; state = r.state; count = r.count }

-- the slice after a step, which held `old` before it
abbrev pub slots_of : List Label → Stepped Question → List Label
slots_of old r = copied_of old r.labels r.count

-- an agreement on a table with room for so many labels, of a line's bytes, the parts' numbers, the fields' ends and the values
abbrev pub agree_of : List ℕ → ℕ → State → List ℕ → List ℕ → List ℕ → List ℤ → Stepped Question
agree_of w room s line parts spans values = step w room s (λ c. agreed_on c s (parts_in line (length parts / 4) parts spans values))

-- a call on a table with room for so many labels
abbrev pub call_of : List ℕ → ℕ → State → List ℕ → List ℕ → List ℤ → List ℤ → Stepped Question
call_of w room s caller function values assets =
    step w room s (λ c. called c s (record { caller = caller; function = function; values = values; assets = assets }))
