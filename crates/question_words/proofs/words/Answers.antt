-- `question_words::words` meets its contract: a place of the table holds the words of the question with that number. Assumes nothing.
use Rattle.std.proofs.Common.{ℕ, List, Bor, arith}
use Rattle.std.proofs.Math.ListN.{get_or-map}
use Rattle.laws.specs.Choice.{pick}
use Rattle.question_words.specs.Words.{words_in, words_of}
use Rattle.question_words.proofs.WordLaws.{words_all}
use Rattle.question_words.proofs.words.Goals as goal

pub returns : goal.returns
unfolding words_of words_in pick
returns c = rw (c.get_or.ensures, ← get_or-map (λ (x : Bor (List ℕ)). x.now)) (words_all c.args.number (omega arith))
