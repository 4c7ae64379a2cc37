-- Rows and nodes of a table as they are read, for any words at all.
use Rattle.std.specs.Prelude.{ℕ, List}
use Rattle.contract.specs.Table.{word_at, kind_at, argument_at, size_at, function_word, event_word, clause_word}
use Rattle.contract.specs.declared.TableHead.{TableHead}
use Rattle.contract.specs.declared.Function.{Function}
use Rattle.contract.specs.declared.Event.{Event}
use Rattle.contract.specs.Tree as tree
use Rattle.contract.specs.declared.Verb.{Verb}
use Rattle.contract.specs.declared.Verb.TheVariants.{Set, Ok}
use Rattle.contract.specs.declared.Clause.{Clause}
use Rattle.contract.specs.declared.Node.{Node}

abbrev pub head_of : List ℕ → TableHead
head_of w =
    record {
      parties = word_at w 0;
      assets = word_at w 1;
      fields = word_at w 2;
      states = word_at w 3;
      strings = word_at w 4;
      clauses = word_at w 5;
      functions = word_at w 6;
      events = word_at w 7;
      nodes = word_at w 8;
      initial = word_at w 9;
    }

abbrev pub function_row_of : List ℕ → ℕ → Function
function_row_of w i =
    record {
      state = function_word w i 0;
      party = function_word w i 1;
      last = function_word w i 2;
      values = function_word w i 3;
      parameters = function_word w i 4;
      first = function_word w i 5;
      precondition = function_word w i 6;
      body = function_word w i 7;
      event = function_word w i 8;
      events = function_word w i 9;
    }

abbrev pub event_row_of : List ℕ → ℕ → Event
event_row_of w i = record { state = event_word w i 0; last = event_word w i 1; node = event_word w i 2 }

abbrev pub clause_row_of : List ℕ → ℕ → Clause
clause_row_of w i = record { party = clause_word w i 0; verb = clause_word w i 1; fields = clause_word w i 2 }

abbrev pub node_of : List ℕ → ℕ → Node
node_of w k = record { kind = kind_at w k; argument = argument_at w k; size = size_at w k }

-- what a clause says
abbrev pub said : Verb → tree.Verb
said Set = tree.set
said Ok = tree.ok
