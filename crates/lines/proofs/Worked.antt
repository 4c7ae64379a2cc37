-- The lines of document 01's session, jumps, and some that are refused, read by the definitions. Assumes nothing.
use mathlib.Core.Path.{◌≡◌, refl}
use mathlib.Core.List.{List, [], ◌∷◌, map}
use Prim.Native.Nat.{ℕ}
use Prim.Native.String.{String}
use lib.IntN.{ℤ, pos, negsuc}
use Rattle.questions.specs.declared.Question.TheVariants as ask
use Rattle.laws.specs.Choice.{pick}
use Rattle.laws.specs.Bytes.{bytes, same_bytes, starts_with}
use Rattle.words.specs.Words.{spelled}
use Rattle.tokens.specs.Classes.{within, is_letter, is_digit, is_name_byte, run, decimal}
use Rattle.tokens.specs.Tokens.{between}
use Rattle.lines.specs.Lines.{Span, Verb, set, ok, Field, Part, Asked, refused, tick, jump, call, agreement, is_space, skipped, is_next, mark, end, name_from, name, digits, integer, is_word, word, items, list, closed, jump_end, tick_line, names, lists, call_line, verb, field, part, parts, agreement_line, asked}

abbrev span : ℕ → ℕ → Span
span a e = record { start = a; end = e }

abbrev field_of : ℕ → ℕ → ℤ → Field
field_of a e z = record { name = span a e; value = z }

abbrev part_of : Span → Verb → List Field → Part
part_of p v fs = record { party = p; verb = v; fields = fs }

abbrev call_of : Span → Span → List ℤ → List ℤ → Asked
call_of p f vs hs = call (record { names = record { party = p; function = f }; lists = record { values = vs; assets = hs } })

pub worked :
    map (λ (l : String). asked (bytes l))
    ("Broker SET [part |-> 3] || Ann OK [part |-> 3] || Bob OK []" ∷ "Broker : give()[10]" ∷ "Ann : take()[]" ∷ "[TICK]" ∷ "[TICK 5]" ∷ "[ TICK -5 ]" ∷ "A:f(-0, 007)[-1]" ∷ "[TICK5]" ∷ "[TICK" ∷ "A GET []" ∷ "A:f(+3)[]" ∷ "A:f()" ∷ [])
    ≡
    agreement (part_of (span 0 6) set (field_of 12 16 (pos 3) ∷ []) ∷ part_of (span 27 30) ok (field_of 35 39 (pos 3) ∷ []) ∷ part_of (span 50 53) ok [] ∷ [])
    ∷ call_of (span 0 6) (span 9 13) [] (pos 10 ∷ [])
    ∷ call_of (span 0 3) (span 6 10) [] []
    ∷ tick
    ∷ jump (pos 5)
    ∷ jump (negsuc 4)
    ∷ call_of (span 0 1) (span 2 3) (pos 0 ∷ pos 7 ∷ []) (negsuc 0 ∷ [])
    ∷ refused ask.LineForm ∷ refused ask.LineForm ∷ refused ask.LineForm ∷ refused ask.LineForm ∷ refused ask.LineForm ∷ []
unfolding pick same_bytes starts_with spelled within is_letter is_digit is_name_byte run decimal between is_space skipped is_next mark end name_from name digits integer is_word word items list closed jump_end tick_line names lists call_line verb field part parts agreement_line asked
worked = refl
