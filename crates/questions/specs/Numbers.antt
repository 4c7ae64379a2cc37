-- The number that the documents give each question.
use Rattle.std.specs.Prelude.{ℕ, List, [], ◌∷◌, Option, eqb}
use Rattle.std.specs.List.{find}
use Rattle.questions.specs.declared.Question.{Question}
use Rattle.questions.specs.declared.Question.TheVariants as ask

abbrev pub number_of : Question → ℕ
number_of ask.TextLength = 1
number_of ask.TableLength = 2
number_of ask.Byte = 5
number_of ask.Token = 6
number_of ask.WordLength = 7
number_of ask.NumberSize = 8
number_of ask.Grammar = 9
number_of ask.Levels = 10
number_of ask.Limits = 11
number_of ask.NameNew = 12
number_of ask.NameKind = 13
number_of ask.AgreementRules = 14
number_of ask.FunctionNew = 15
number_of ask.TableCheck = 3
number_of ask.StateRanges = 4
number_of ask.LabelRoom = 20
number_of ask.NotAgreed = 21
number_of ask.SameClauses = 23
number_of ask.SameValues = 24
number_of ask.Agreed = 22
number_of ask.NothingDue = 25
number_of ask.FunctionKnown = 26
number_of ask.ArgumentCount = 27
number_of ask.AssetArguments = 28
number_of ask.Precondition = 29
number_of ask.FieldValue = 30
number_of ask.OperandKind = 31
number_of ask.ResultRange = 32
number_of ask.Divisor = 33
number_of ask.AmountSign = 34
number_of ask.AmountHeld = 35
number_of ask.SumFits = 36
number_of ask.ParametersEmpty = 37
number_of ask.PendingRoom = 39
number_of ask.ClockBelowTop = 40
number_of ask.SomethingDue = 41
number_of ask.LineLength = 50
number_of ask.LineForm = 51
number_of ask.ResultRoom = 52
number_of ask.ResultKinds = 53
number_of ask.PageRoom = 60
number_of ask.PageEntries = 61
number_of ask.TimeNotPast = 62

-- each question, in the order of the documents
abbrev pub questions : List Question
questions =
    ask.TextLength ∷ ask.TableLength ∷ ask.Byte ∷ ask.Token ∷ ask.WordLength ∷ ask.NumberSize ∷ ask.Grammar ∷ ask.Levels ∷ ask.Limits ∷ ask.NameNew ∷ ask.NameKind ∷ ask.AgreementRules ∷ ask.FunctionNew ∷ ask.TableCheck ∷ ask.StateRanges ∷ ask.LabelRoom ∷ ask.NotAgreed ∷ ask.SameClauses ∷ ask.SameValues ∷ ask.Agreed ∷ ask.NothingDue ∷ ask.FunctionKnown ∷ ask.ArgumentCount ∷ ask.AssetArguments ∷ ask.Precondition ∷ ask.FieldValue ∷ ask.OperandKind ∷ ask.ResultRange ∷ ask.Divisor ∷ ask.AmountSign ∷ ask.AmountHeld ∷ ask.SumFits ∷ ask.ParametersEmpty ∷ ask.PendingRoom ∷ ask.ClockBelowTop ∷ ask.SomethingDue ∷ ask.LineLength ∷ ask.LineForm ∷ ask.ResultRoom ∷ ask.ResultKinds ∷ ask.PageRoom ∷ ask.PageEntries ∷ ask.TimeNotPast ∷ []

-- the question with a number, where there is one
abbrev pub question_of : ℕ → Option Question
question_of n = find (λ q. eqb (number_of q) n) questions
