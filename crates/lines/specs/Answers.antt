-- What `read` and `agreement_of` answer for what a line asks.
use Rattle.std.specs.Prelude.{ℕ, ◌-◌, List, [], ◌∷◌, ◌++◌, length, replicate, ℤ, pos, Option, Some, None, Result, Ok, Err}
use Rattle.std.proofs.lemmas.List.Edits.{sets}
use Rattle.lines.specs.Lines.{Span, Verb, set, ok, Field, Part, Asked, refused, tick, jump, call, agreement}
use Rattle.questions.specs.declared.Question.{Question}
use Rattle.lines.specs.declared.Span as declared
use Rattle.lines.specs.declared.Request.{Request}
use Rattle.lines.specs.declared.Request.TheVariants as request
use Rattle.lines.specs.declared.Agreement.{Agreement}

-- the numbers given, then zeros until there are n in all; no number is cut off
abbrev pub padded : {A : Type 0} → A → ℕ → List A → List A
padded none n xs = xs ++ replicate (n - length xs) none

-- ---- a line's answer

-- where a name stands
abbrev pub span_in : Span → declared.Span
span_in x = record { start = x.start; end = x.end }

-- what it asks for, or the question that refuses it
unfoldable pub request_of : Asked → Result Request Question
request_of (refused q) = Err q
request_of tick = Ok request.Tick
request_of (jump T) = Ok (request.Jump T)
request_of (agreement ps) = Ok request.Agreement
request_of (call c) =
    Ok (request.Call (record {
      party = span_in c.names.party;
      function = span_in c.names.function;
      values = length c.lists.values;
      assets = length c.lists.assets;
    }))

-- a call's values and then its assets; no other line has any
abbrev pub numbers_of : Asked → List ℤ
numbers_of (refused q) = []
numbers_of tick = []
numbers_of (jump T) = []
numbers_of (agreement ps) = []
numbers_of (call c) = c.lists.values ++ c.lists.assets

-- what the lent list holds after a line: a call's numbers come first, over what was there; any other line writes nothing
abbrev pub numbers_after : Asked → List ℤ → List ℤ
numbers_after a old = sets old 0 (numbers_of a)

-- ---- an agreement's parts

-- the fields of all parts
unfoldable pub fields_of : List Part → List Field
fields_of [] = []
fields_of (p ∷ ps) = p.fields ++ fields_of ps

abbrev pub verb_number : Verb → ℕ
verb_number set = 0
verb_number ok = 1

-- four numbers a part: its party's place, its verb, how many fields it has
unfoldable pub heads_of : List Part → List ℕ
heads_of [] = []
heads_of (p ∷ ps) = p.party.start ∷ p.party.end ∷ verb_number p.verb ∷ length p.fields ∷ heads_of ps

-- two numbers a field: its name's place
unfoldable pub spans_of : List Field → List ℕ
spans_of [] = []
spans_of (f ∷ fs) = f.name.start ∷ f.name.end ∷ spans_of fs

unfoldable pub values_of : List Field → List ℤ
values_of [] = []
values_of (f ∷ fs) = f.value ∷ values_of fs

-- how many parts and fields there are, and their numbers
unfoldable pub agreement_of : List Part → Agreement
agreement_of ps =
    record {
      parts = length ps;
      fields = length (fields_of ps);
      heads = padded 0 256 (heads_of ps);
      spans = padded 0 172 (spans_of (fields_of ps));
      values = padded (pos 0) 86 (values_of (fields_of ps));
    }

-- the agreement that a line asks for; none for any other line
abbrev pub agreement_in : Asked → Option Agreement
agreement_in (agreement ps) = Some (agreement_of ps)
agreement_in (refused q) = None
agreement_in tick = None
agreement_in (jump T) = None
agreement_in (call c) = None
