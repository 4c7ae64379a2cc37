-- `tokens::Here::mark` meets its contract: each arm is a law on the first byte. Assumes nothing.
use Rattle.laws.specs.Choice.{pick}
use mathlib.Core.Path.{refl, sym, ◌∙◌}
use Rattle.laws.specs.Bytes.{starts_with}
use Rattle.words.specs.Words.{spelled, open_paren, close_paren, open_brace, close_brace, open_bracket, close_bracket, comma, colon, at_sign, underscore, plus_mark, times_mark, over_mark, not_mark}
use Rattle.tokens.specs.Tokens.{goes_on}
use Rattle.tokens.proofs.Marks.{from, single, greater_than, less_than, exclamation, ampersand, no_mark}
use Rattle.tokens.proofs.Here.mark.Goals as goal

pub returns-in-40 : goal.returns-in-40
unfolding from goes_on starts_with spelled pick
returns-in-40 c =
    let a = c.args.self.now in
    c.word.ensures ∙ sym (single a.text.now a.at a.inside 40 open_paren (λ t. refl) c.in-40.is)

pub returns-in-41 : goal.returns-in-41
unfolding from goes_on starts_with spelled pick
returns-in-41 c =
    let a = c.args.self.now in
    c.word-in-41.ensures ∙ sym (single a.text.now a.at a.inside 41 close_paren (λ t. refl) c.in-41.is)

pub returns-in-123 : goal.returns-in-123
unfolding from goes_on starts_with spelled pick
returns-in-123 c =
    let a = c.args.self.now in
    c.word-in-123.ensures ∙ sym (single a.text.now a.at a.inside 123 open_brace (λ t. refl) c.in-123.is)

pub returns-in-125 : goal.returns-in-125
unfolding from goes_on starts_with spelled pick
returns-in-125 c =
    let a = c.args.self.now in
    c.word-in-125.ensures ∙ sym (single a.text.now a.at a.inside 125 close_brace (λ t. refl) c.in-125.is)

pub returns-in-91 : goal.returns-in-91
unfolding from goes_on starts_with spelled pick
returns-in-91 c =
    let a = c.args.self.now in
    c.word-in-91.ensures ∙ sym (single a.text.now a.at a.inside 91 open_bracket (λ t. refl) c.in-91.is)

pub returns-in-93 : goal.returns-in-93
unfolding from goes_on starts_with spelled pick
returns-in-93 c =
    let a = c.args.self.now in
    c.word-in-93.ensures ∙ sym (single a.text.now a.at a.inside 93 close_bracket (λ t. refl) c.in-93.is)

pub returns-in-44 : goal.returns-in-44
unfolding from goes_on starts_with spelled pick
returns-in-44 c =
    let a = c.args.self.now in
    c.word-in-44.ensures ∙ sym (single a.text.now a.at a.inside 44 comma (λ t. refl) c.in-44.is)

pub returns-in-58 : goal.returns-in-58
unfolding from goes_on starts_with spelled pick
returns-in-58 c =
    let a = c.args.self.now in
    c.word-in-58.ensures ∙ sym (single a.text.now a.at a.inside 58 colon (λ t. refl) c.in-58.is)

pub returns-in-64 : goal.returns-in-64
unfolding from goes_on starts_with spelled pick
returns-in-64 c =
    let a = c.args.self.now in
    c.word-in-64.ensures ∙ sym (single a.text.now a.at a.inside 64 at_sign (λ t. refl) c.in-64.is)

pub returns-in-95 : goal.returns-in-95
unfolding from goes_on starts_with spelled pick
returns-in-95 c =
    let a = c.args.self.now in
    c.word-in-95.ensures ∙ sym (single a.text.now a.at a.inside 95 underscore (λ t. refl) c.in-95.is)

pub returns-in-43 : goal.returns-in-43
unfolding from goes_on starts_with spelled pick
returns-in-43 c =
    let a = c.args.self.now in
    c.word-in-43.ensures ∙ sym (single a.text.now a.at a.inside 43 plus_mark (λ t. refl) c.in-43.is)

pub returns-in-42 : goal.returns-in-42
unfolding from goes_on starts_with spelled pick
returns-in-42 c =
    let a = c.args.self.now in
    c.word-in-42.ensures ∙ sym (single a.text.now a.at a.inside 42 times_mark (λ t. refl) c.in-42.is)

pub returns-in-47 : goal.returns-in-47
unfolding from goes_on starts_with spelled pick
returns-in-47 c =
    let a = c.args.self.now in
    c.word-in-47.ensures ∙ sym (single a.text.now a.at a.inside 47 over_mark (λ t. refl) c.in-47.is)

pub returns-in-126 : goal.returns-in-126
unfolding from goes_on starts_with spelled pick
returns-in-126 c =
    let a = c.args.self.now in
    c.word-in-126.ensures ∙ sym (single a.text.now a.at a.inside 126 not_mark (λ t. refl) c.in-126.is)

pub returns-in-60 : goal.returns-in-60
returns-in-60 c =
    let a = c.args.self.now in
    rw (
      less_than a.text.now a.at a.inside c.in-60.is,
      ← c.word-in-60.ensures,
    ) c.pair.ensures

pub returns-in-62 : goal.returns-in-62
returns-in-62 c =
    let a = c.args.self.now in
    rw (
      greater_than a.text.now a.at a.inside c.in-62.is,
      ← c.word-in-62.ensures,
      ← c.pair-in-62.ensures,
    ) c.pair-in-62-2.ensures

pub returns-in-33 : goal.returns-in-33
returns-in-33 c =
    let a = c.args.self.now in
    rw (exclamation a.text.now a.at a.inside c.in-33.is, ← c.refused-none.ensures) c.pair-in-33.ensures

pub returns-in-38 : goal.returns-in-38
returns-in-38 c =
    let a = c.args.self.now in
    rw (ampersand a.text.now a.at a.inside c.in-38.is, ← c.refused-none.ensures) c.pair-in-38.ensures

pub returns-in_default : goal.returns-in_default
returns-in_default c =
    let a = c.args.self.now in
    c.refused-none.ensures ∙ sym (no_mark a.text.now a.at a.inside c.in_default.in_default-own.rest)
