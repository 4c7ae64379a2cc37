use Rattle.std.specs.Prelude.{◌==◌, ◌%◌, ℕ, nat_lt, not, if◌then◌else◌, List, [], ◌∷◌, length, drop, Option, Some, None, slice_index, slice_set, pos, ◌+ℤ◌}
use Rattle.std.specs.Option.{option_map, unwrap_or}
use Rattle.std.specs.Int.{saturate_signed, w64}
use Rattle.state.specs.declared.State.{State}
use Rattle.trial_text.specs.Numbers.{natural_at, integer_at, leading_natural, behind}
use Rattle.trial_states.specs.declared.parts.Part.{Part}
use Rattle.trial_states.specs.declared.parts.Part.TheVariants.{Head, Field, Asset, Event}

-- ---- by the words of a text

-- a part of each kind by the numbers that a text's words after the first stand for
abbrev pub head_of : List ℕ → Part
head_of text = Head (not (natural_at 64 text 1 == 0)) (natural_at 64 text 2) (natural_at 64 text 3) (natural_at 64 text 4)

abbrev pub field_of : List ℕ → Part
field_of text = Field (natural_at 64 text 1) (natural_at 8 text 2) (integer_at text 3) (natural_at 8 text 4)

abbrev pub asset_of : List ℕ → Part
asset_of text = Asset (natural_at 64 text 1) (natural_at 64 text 2)

abbrev pub event_of : List ℕ → Part
event_of text = Event (natural_at 64 text 1) (record { function = natural_at 8 text 2; event = natural_at 8 text 3; time = natural_at 64 text 4 })

-- the part that a text names, by its first letter: h, v, a or e
abbrev pub part_of : List ℕ → Option Part
part_of text =
    let letter = slice_index text 0 in
    if letter == 104 then Some (head_of text)
    else if letter == 118 then Some (field_of text)
    else if letter == 97 then Some (asset_of text)
    else if letter == 101 then Some (event_of text)
    else None

-- ---- by what any bytes begin with

-- the second, third and fourth number that any bytes begin with, and the first four
abbrev pub second : List ℕ → ℕ
second text = leading_natural (behind text)

abbrev pub third : List ℕ → ℕ
third text = second (behind text)

abbrev pub fourth : List ℕ → ℕ
fourth text = third (behind text)

abbrev pub four_naturals : List ℕ → List ℕ
four_naturals text = leading_natural text ∷ second text ∷ third text ∷ fourth text ∷ []

-- a part of each kind by these numbers; of a byte's number its lowest eight bits
abbrev pub head_in : List ℕ → Part
head_in text = Head (not (leading_natural text == 0)) (second text) (third text) (fourth text)

abbrev pub field_in : List ℕ → Part
field_in text = Field (leading_natural text) (second text % 256) (saturate_signed w64 (pos 0 +ℤ pos (third text))) (fourth text % 256)

abbrev pub asset_in : List ℕ → Part
asset_in text = Asset (leading_natural text) (second text)

abbrev pub event_in : List ℕ → Part
event_in text = Event (leading_natural text) (record { function = second text % 256; event = third text % 256; time = fourth text })

-- the part that any bytes name, by the first letter, h, v, a or e, and the numbers from the third byte on
abbrev pub part_in : List ℕ → Option Part
part_in text =
    let letter = slice_index text 0 in
    let numbers = drop 2 text in
    if nat_lt (length text) 2 then None
    else if letter == 104 then Some (head_in numbers)
    else if letter == 118 then Some (field_in numbers)
    else if letter == 97 then Some (asset_in numbers)
    else if letter == 101 then Some (event_in numbers)
    else None

-- ---- in a state

-- the state with a part; a place past the slots changes nothing
abbrev pub with_part : Part → State → State
with_part (Head agreed state clock pending) s = record s { agreed = agreed; state = state; clock = clock; pending = pending }
with_part (Field at kind number text) s = record s { kinds = slice_set s.kinds at kind; numbers = slice_set s.numbers at number; texts = slice_set s.texts at text }
with_part (Asset at amount) s = record s { assets = slice_set s.assets at amount }
with_part (Event at event) s = record s { events = slice_set s.events at event }

-- the state with the part that a text names; a text that names none changes nothing
abbrev pub with_named : List ℕ → State → State
with_named text s = unwrap_or (option_map (λ part. with_part part s) (part_of text)) s

-- the same of the part that any bytes name
abbrev pub with_read : List ℕ → State → State
with_read text s = unwrap_or (option_map (λ part. with_part part s) (part_in text)) s
