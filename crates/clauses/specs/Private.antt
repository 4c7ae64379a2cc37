-- For private functions only: a list of names, whatever is done with each.
use Rattle.std.specs.Prelude.{ℕ, zero, suc, List, length, eqb}
use Rattle.laws.specs.Choice.{pick}
use Rattle.words.specs.Words.{comma}
use Rattle.tokens.specs.Tokens.{name as nameKind}
use Rattle.entries.specs.Draft.{Draft, declare, clause_field}
use Rattle.reading_laws.specs.Walk.{Cursor, Walk, on, follow, next_of, misfit}
use Rattle.clauses.specs.declared.lists.Listed.{Listed}
use Rattle.clauses.specs.declared.lists.Listed.TheVariants.{Declared, Fields}

module _ (s : List ℕ) where
  unfoldable pub entered : Listed → ℕ → ℕ → Draft → Draft
  entered (Declared k) a e p = declare s k a e p
  entered Fields a e p = clause_field s a e p

  unfoldable pub one_listed : Listed → Cursor → Draft → Walk
  one_listed l c p = pick (eqb c.kind nameKind) (on (next_of s c) (entered l c.start c.end p)) (misfit s c)

  -- a comma and a name, again and again
  unfoldable pub more_listed : Listed → ℕ → Cursor → Draft → Walk
  more_listed l zero c p = on c p
  more_listed l (suc f) c p = pick (eqb c.kind comma) (follow (one_listed l (next_of s c) p) (more_listed l f)) (on c p)

  unfoldable pub list_of : Listed → Cursor → Draft → Walk
  list_of l c p = follow (one_listed l c p) (more_listed l (length s))
