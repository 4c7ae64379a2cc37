-- What it is for a text to mean a contract: its tokens derive a tree that keeps the rules, and the contract is the tree's.
use Rattle.std.specs.Prelude.{ℕ, ◌≡◌, List, []}
use Rattle.tokens.specs.declared.Token.{Token}
use Rattle.contract.specs.Tree.{Contract}
use Rattle.reading.specs.Syntax.{Syntax}
use Rattle.reading.specs.Items.{items}
use Rattle.reading.specs.Rules.{fine, judged}
use Rattle.reading.specs.Resolve.{resolve}
use Rattle.grammar.specs.Derivations.{TokensOf, Derives}

pub record Means (s : List ℕ) (k : Contract) : Type 0 where
  pub tokens : List Token
  pub tree : Syntax
  pub all : TokensOf s tokens
  pub derives : Derives tree tokens
  pub rules : judged s [] fine (items tree) ≡ fine
  pub resolved : resolve s tree ≡ k
