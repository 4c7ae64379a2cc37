-- `clauses::lists::Lists::names` meets its contract. Assumes nothing.
use Rattle.reading_laws.proofs.AgreesWith.{leaves_same}
use Rattle.clauses.proofs.NameLists.{list_is_names}
use Rattle.clauses.proofs.lists.Lists.names.Goals as goal

pub returns-clause-value : goal.returns-clause-value
returns-clause-value c = leaves_same _ _ _ _ _ (list_is_names c.args.self.now.text.now c.args.kind _ _) c.list.ensures.value
