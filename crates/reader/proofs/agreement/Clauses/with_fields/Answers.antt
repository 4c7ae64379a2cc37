-- `reader::agreement::Clauses::with_fields` meets its contract. Assumes nothing.
use Rattle.std.proofs.Common.{rules, arith, refl, ap, ℕ, ◌∙◌, ◌+◌}
use Rattle.std.proofs.lemmas.Iterator.Consumers.{fold_from_yields_List}
use Rattle.contract.specs.declared.Clause.{Clause}
use Rattle.contract.specs.Table.{clause_word}
use Rattle.reading_laws.specs.Masks.{with, with_all, row_of}
use Rattle.reader.proofs.Down.{yields_down, folded}
use Rattle.reader.proofs.agreement.Clauses.with_fields.Goals as goal

pub returns : goal.returns
unfolding with_all row_of
returns c =
    let w = c.args.self.now.table.now in
    let n = clause_word w c.args.i 2 in
    let x = λ (j : ℕ). clause_word w c.args.i (3 + j) in
    fold_from_yields_List _ (λ m j. with m (x j)) c.args.start c.fold.result c.fold.ensures.ran (yields_down 0 n n (c.rev.ensures.source ∙ ap (λ (k : Clause). record { start = 0; end = k.fields }) c.clause_at.ensures) (omega arith)) (λ a j b q k. search rules)
    ∙ folded (with_all c.args.start) x (λ m j. with m (x j)) (λ i xs. refl) n 0
