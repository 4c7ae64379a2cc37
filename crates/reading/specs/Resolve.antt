-- The contract of a text that keeps the rules: names become the numbers of what they name.
use Rattle.std.specs.Prelude.{ℕ, List, [], ◌∷◌, eqb}
use Rattle.laws.specs.Choice.{pick}
use Rattle.words.specs.Words.{now_word, true_word, equal, unequal, at_most, less, greater, and_mark, or_mark, plus_mark, minus_mark, times_mark}
use Rattle.numbers.specs.declared.Operator.{Operator}
use Rattle.numbers.specs.declared.Operator.TheVariants.{Plus, Minus, Times, Over}
use Rattle.numbers.specs.declared.Comparison.{Comparison}
use Rattle.numbers.specs.declared.Comparison.TheVariants.{Equal, Unequal, Less, AtMost, Greater, AtLeast}
use Rattle.contract.specs.Tree.{Word, Holder, asset, asset_parameter, Expression, constant, string, clock, field, value_parameter, held, apply, broken_expression, Condition, truth, compare, negation, both, either, broken_condition, Action, assign, send, move, pay, move_all, pay_all, Block, none, perform, conditional, Precondition, omitted, given, Event, Function, Contract}
use Rattle.reading.specs.Syntax.{Span, Term, named, numeral, quoted, fixed, negated, operated, sends, moves, moves_all, Syntax}
use Rattle.reading.specs.Syntax as syntax
use Rattle.reading.specs.Items as kind
use Rattle.reading.specs.Items.{Item, items}
use Rattle.reading.specs.Rules.{number_of, is_among, word, known, clauses_in}

abbrev pub operator_of : ℕ → Operator
operator_of k = pick (eqb k plus_mark) Plus (pick (eqb k minus_mark) Minus (pick (eqb k times_mark) Times Over))

abbrev pub comparison_of : ℕ → Comparison
comparison_of k =
    pick (eqb k equal) Equal
    (pick (eqb k unequal) Unequal
    (pick (eqb k less) Less
    (pick (eqb k at_most) AtMost
    (pick (eqb k greater) Greater AtLeast))))

-- the words that names stand for
pub record Names : Type 0 where
  pub parties : List Word
  pub assets : List Word
  pub fields : List Word
  pub states : List Word
  pub strings : List Word
  pub values : List Word
  pub parameters : List Word

-- the same, with these parameters
abbrev pub within : Names → List Word → List Word → Names
within n zs ys =
    record {
      parties = n.parties;
      assets = n.assets;
      fields = n.fields;
      states = n.states;
      strings = n.strings;
      values = zs;
      parameters = ys;
    }

-- what each member of a list gives
unfoldable pub each_of : {A B : Type 0} → (A → B) → List A → List B
each_of f [] = []
each_of f (x ∷ xs) = f x ∷ each_of f xs

abbrev pub holder_of : Names → Word → Holder
holder_of n w = pick (is_among w n.assets) (asset (number_of w n.assets)) (asset_parameter (number_of w n.parameters))

abbrev pub name_of : Names → Word → Expression
name_of n w =
    pick (is_among w n.fields) (field (number_of w n.fields))
    (pick (is_among w n.values) (value_parameter (number_of w n.values)) (held (holder_of n w)))

abbrev pub send_of : Names → Expression → Word → Action
send_of n e w = pick (is_among w n.parties) (send e (number_of w n.parties)) (assign e (number_of w n.fields))

abbrev pub move_of : Names → Expression → Holder → Word → Action
move_of n e h w = pick (is_among w n.parties) (pay e h (number_of w n.parties)) (move e h (holder_of n w))

abbrev pub move_all_of : Names → Holder → Word → Action
move_all_of n h w = pick (is_among w n.parties) (pay_all h (number_of w n.parties)) (move_all h (holder_of n w))

-- items with others after them, the latest first
unfoldable pub latest_first : List Item → List Item → List Item
latest_first b [] = b
latest_first b (i ∷ is) = latest_first (i ∷ b) is

module _ (s : List ℕ) where
  -- a term that the grammar reads as an expression
  unfoldable pub expression_of : Names → Term → Expression
  expression_of n (named x) = name_of n (word s x)
  expression_of n (numeral v p) = constant v
  expression_of n (quoted x p) = string (number_of (word s x) n.strings)
  expression_of n (fixed k p) = pick (eqb k now_word) clock broken_expression
  expression_of n (negated p t) = broken_expression
  expression_of n (operated k p t u) = apply (operator_of k) (expression_of n t) (expression_of n u)

  -- a term that the grammar reads as a condition
  unfoldable pub condition_of : Names → Term → Condition
  condition_of n (named x) = broken_condition
  condition_of n (numeral v p) = broken_condition
  condition_of n (quoted x p) = broken_condition
  condition_of n (fixed k p) = truth (eqb k true_word)
  condition_of n (negated p t) = negation (condition_of n t)
  condition_of n (operated k p t u) =
      pick (eqb k or_mark) (either (condition_of n t) (condition_of n u))
      (pick (eqb k and_mark) (both (condition_of n t) (condition_of n u))
      (compare (comparison_of k) (expression_of n t) (expression_of n u)))

  unfoldable pub action_of : Names → syntax.Action → Action
  action_of n (sends e t) = send_of n (expression_of n e) (word s t)
  action_of n (moves e h t) = move_of n (expression_of n e) (holder_of n (word s h)) (word s t)
  action_of n (moves_all h t) = move_all_of n (holder_of n (word s h)) (word s t)

  unfoldable pub block_of : Names → syntax.Block → Block
  block_of n syntax.none = none
  block_of n (syntax.perform b p a) = perform (block_of n b) (action_of n a)
  block_of n (syntax.conditional b p t i) = conditional (block_of n b) (condition_of n t) (block_of n i)

  unfoldable pub precondition_of : Names → syntax.Precondition → Precondition
  precondition_of n syntax.omitted = omitted
  precondition_of n (syntax.given t) = given (condition_of n t)

  abbrev pub state_of : Names → Span → ℕ
  state_of n q = number_of (word s q) n.states

  -- a handler names no parameter
  unfoldable pub event_of : Names → syntax.Event → Event
  event_of n w =
      record {
        guard = expression_of n w.guard;
        state = state_of n w.state;
        handler = block_of (within n [] []) w.handler;
        last = state_of n w.last;
      }

  abbrev pub function_in : Names → syntax.Function → Function
  function_in n f =
      record {
        state = state_of n f.state;
        party = number_of (word s f.party) n.parties;
        name = word s f.name;
        values = n.values;
        parameters = n.parameters;
        precondition = precondition_of n f.precondition;
        body = block_of n f.body.statements;
        events = each_of (event_of n) f.body.events;
        last = state_of n f.last;
      }

  unfoldable pub function_of : Names → syntax.Function → Function
  function_of n f = function_in (within n (each_of (word s) f.values) (each_of (word s) f.parameters)) f

  -- the names of a whole text, its items given with the latest first
  abbrev pub names_in : List Item → Names
  names_in b =
      record {
        parties = known s kind.party b;
        assets = known s kind.asset b;
        fields = known s kind.field b;
        states = known s kind.state b;
        strings = known s kind.string b;
        values = [];
        parameters = [];
      }

  abbrev pub contract_in : Names → Syntax → Contract
  contract_in n c =
      record {
        name = word s c.name;
        parties = n.parties;
        assets = n.assets;
        fields = n.fields;
        states = n.states;
        strings = n.strings;
        clauses = clauses_in s n.parties n.fields c.clauses;
        initial = state_of n c.initial;
        functions = each_of (function_of n) c.functions;
      }

  unfoldable pub resolve : Syntax → Contract
  resolve c = contract_in (names_in (latest_first [] (items c))) c
