-- What private functions answer: serves their contracts only.
use Rattle.std.specs.Prelude.{ℕ, ◌+◌, ◌*◌, ◌≡◌, Bool, true, false, List, [], ◌∷◌, length, ℤ, neg_ℤ, Option, Some, None, Result, Ok}
use Rattle.std.proofs.lemmas.List.Edits.{sets}
use Rattle.laws.specs.Choice.{pick}
use Rattle.numbers.specs.Numbers.{within}
use Rattle.lines.specs.Lines as lines
use Rattle.lines.specs.Lines.{Part, Asked, Parsed, done, no, Parser, mark}
use Rattle.questions.specs.declared.Question.{Question}
use Rattle.lines.specs.Answers.{span_in, request_of, numbers_after, agreement_of, verb_number, spans_of, values_of}
use Rattle.lines.specs.declared.Request.{Request}
use Rattle.lines.specs.declared.Request.TheVariants as request
use Rattle.lines.specs.declared.Call.{Call}
use Rattle.lines.specs.declared.Agreement.{Agreement}
use Rattle.lines.specs.declared.Span.{Span}
use Rattle.contract.specs.declared.Verb.{Verb}
use Rattle.contract.specs.declared.Verb.TheVariants as verb
use Rattle.lines.specs.declared.Field.{Field}
use Rattle.lines.specs.declared.Integers as declared
use Rattle.lines.specs.declared.Reader.{Reader}

-- ---- what a parser gave

-- whether it is done
abbrev pub is_done : {A : Type 0} → Parsed A → Bool
is_done (done a n) = true
is_done no = false

-- what it read
abbrev pub given : {A B : Type 0} → (A → B) → Parsed A → Option B
given f (done a n) = Some (f a)
given f no = None

-- a line, and the place up to which it is read
pub record Spot : Type 0 where
  pub line : List ℕ
  pub at : ℕ

abbrev pub spot : Reader → Spot
spot x = record { line = x.line.now; at = x.at }

abbrev pub moved : Spot → ℕ → Spot
moved x n = record { line = x.line; at = n }

-- a reader answers with what a parser read, and stands after it; after a no its place is free
abbrev pub Gave : {A B : Type 0} → (A → B) → Parsed A → Spot → Option B → Spot → Type 0
Gave f (done a n) old r new = (r ≡ Some (f a)) × (new ≡ moved old n)
Gave f no old r new = r ≡ None

abbrev pub Gives : {A B : Type 0} → (A → B) → (List ℕ → Parser A) → Spot → Option B → Spot → Type 0
Gives f p old r new = Gave f (p old.line old.at) old r new

-- a reader goes past a mark; after a no it stands where it was
abbrev pub Went : Parsed Unit → Spot → Option Unit → Spot → Type 0
Went (done u n) old r new = (r ≡ Some tt) × (new ≡ moved old n)
Went no old r new = (r ≡ None) × (new ≡ old)

abbrev pub Marked : List ℕ → Spot → Option Unit → Spot → Type 0
Marked m old r new = Went (mark old.line m old.at) old r new

-- what a reader reads is added to what was lent; after a no that is free too
abbrev pub Stored : {A B : Type 0} → (A → B) → Parsed A → Spot → Option Unit → Spot → B → Type 0
Stored add (done a n) old r new out = (r ≡ Some tt) × (new ≡ moved old n) × (out ≡ add a)
Stored add no old r new out = r ≡ None

abbrev pub Added : {A B : Type 0} → (A → B) → (List ℕ → Parser A) → Spot → Option Unit → Spot → B → Type 0
Added add p old r new out = Stored add (p old.line old.at) old r new out

-- ---- what is read, as code has it

abbrev pub span_from : Span → lines.Span
span_from x = record { start = x.start; end = x.end }

abbrev pub verb_in : lines.Verb → Verb
verb_in lines.set = verb.Set
verb_in lines.ok = verb.Ok

abbrev pub verb_from : Verb → lines.Verb
verb_from verb.Set = lines.set
verb_from verb.Ok = lines.ok

abbrev pub verb_word : Verb → ℕ
verb_word verb.Set = 0
verb_word verb.Ok = 1

abbrev pub field_in : lines.Field → Field
field_in f = record { name = span_in f.name; value = f.value }

abbrev pub field_from : Field → lines.Field
field_from f = record { name = span_from f.name; value = f.value }

-- a request that no question refused
abbrev pub asked_in : Option Request → Option (Result Request Question)
asked_in None = None
asked_in (Some x) = Some (Ok x)

-- an integer, if it is within 64 bits
abbrev pub ranged : ℤ → Option ℤ
ranged z = pick (within z) (Some z) None

-- with a minus sign before it, or none
abbrev pub sign_of : Bool → ℤ → ℤ
sign_of true z = neg_ℤ z
sign_of false z = z

-- a call, and the list with its integers; after a no what was lent is free
abbrev pub called_in : Option Call → Option (Result Request Question)
called_in None = None
called_in (Some x) = Some (Ok (request.Call x))

abbrev pub CallIs : Parsed Asked → List ℤ → Option Call → List ℤ → Type 0
CallIs (done a n) old r new = (called_in r ≡ Some (request_of a)) × (new ≡ numbers_after a old)
CallIs no old r new = r ≡ None

-- an agreement that was lent has the parts that were read; after a no it is free
abbrev pub AgreementIs : Parsed (List Part) → Option Unit → Agreement → Type 0
AgreementIs (done ps n) r out = (r ≡ Some tt) × (out ≡ agreement_of ps)
AgreementIs no r out = r ≡ None

-- ---- what was read so far

-- so many integers, in a list
pub record Integers : Type 0 where
  pub count : ℕ
  pub all : List ℤ

abbrev pub integers_in : declared.Integers → Integers
integers_in x = record { count = x.count; all = x.all.now }

-- it is the same list
abbrev pub SameList : declared.Integers → declared.Integers → Type 0
SameList a b = b.all.ghost_name ≡ a.all.ghost_name

-- integers more
abbrev pub with_integers : Integers → List ℤ → Integers
with_integers a zs = record { count = a.count + length zs; all = sets a.all a.count zs }

-- fields more
abbrev pub with_fields : Agreement → List lines.Field → Agreement
with_fields a fs =
    record {
      parts = a.parts;
      fields = a.fields + length fs;
      heads = a.heads;
      spans = sets a.spans (2 * a.fields) (spans_of fs);
      values = sets a.values a.fields (values_of fs);
    }

-- four numbers of a part more
abbrev pub with_head : Agreement → List ℕ → Agreement
with_head a ns =
    record {
      parts = a.parts + 1;
      fields = a.fields;
      heads = sets a.heads (4 * a.parts) ns;
      spans = a.spans;
      values = a.values;
    }

-- a part more
abbrev pub with_part : Agreement → Part → Agreement
with_part a x =
    with_head (with_fields a x.fields) (x.party.start ∷ x.party.end ∷ verb_number x.verb ∷ length x.fields ∷ [])
