-- The worked cases hold of the definitions, jointly. Assumes nothing.
use mathlib.Core.Path.{◌≡◌, refl}
use mathlib.Core.Bool.{true}
use mathlib.Core.List.{map}
use Rattle.laws.specs.Choice.{pick}
use Rattle.laws.specs.Bytes.{bytes}
use Rattle.words.specs.Words.{spelled}
use Rattle.contract.specs.Check.{ranges}
use Rattle.printing.specs.Decimal.{decimal_within, decimal, signed}
use Rattle.results.specs.Lines.{value_ok, refusal, report_ok, rule_name, value_text, arrow, refused_text, line_of, text_line}
use Rattle.results.specs.Cases.{lot, Case, cases}

pub worked : map (λ (c : Case). line_of lot c.report) cases ≡ map (λ (c : Case). bytes c.line) cases
unfolding line_of rule_name value_text arrow refused_text spelled signed decimal decimal_within pick
worked = refl

pub in_range : map (λ (c : Case). report_ok lot c.report) cases ≡ map (λ (c : Case). true) cases
unfolding report_ok value_ok refusal ranges pick
in_range = refl

-- a refused text
pub text_worked : text_line 9 120 ≡ bytes "refused 9 120\n"
unfolding text_line refused_text spelled decimal decimal_within pick
text_worked = refl
