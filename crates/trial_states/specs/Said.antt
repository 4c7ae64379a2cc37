use Rattle.std.specs.Prelude.{ℕ, List, ◌++◌, codes, decimal}
use Rattle.questions.specs.Numbers.{number_of}
use Rattle.outcomes.specs.declared.Rule.{Rule}
use Rattle.outcomes.specs.declared.Rule.TheVariants.{Agree, Call, EventMatch, Tick}
use Rattle.questions.specs.declared.Question.{Question}
use Rattle.outcomes.specs.declared.Outcome.{Outcome}
use Rattle.outcomes.specs.declared.Outcome.TheVariants.{Accepted, Failed, Refused}

-- the words for a rule
abbrev pub rule_said : Rule → List ℕ
rule_said Agree = codes "agree"
rule_said Call = codes "call"
rule_said EventMatch = codes "event match"
rule_said Tick = codes "tick"

-- the words for what came of a step
abbrev pub said : Outcome Question → List ℕ
said (Accepted rule) = rule_said rule
said (Failed question) = codes "failed " ++ decimal (number_of question)
said (Refused question) = codes "refused " ++ decimal (number_of question)
