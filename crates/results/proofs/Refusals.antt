-- A refused writing leaves the lent buffer as it was. Assumes nothing.
use mathlib.Core.Path.{◌≡◌, refl, sym}
use mathlib.Core.Bool.{true}
use mathlib.Core.List.{List}
use Prim.Native.Nat.{ℕ}
use lib.ListN.{length}
use Rattle.laws.proofs.Choice.{true_false}
use Rattle.contract.specs.Tree.{Contract}
use Rattle.contract.specs.Decode.{contract_of}
use Rattle.results.specs.Results.{written, text_written, after, batch, batch_after, is_refused, RefusedWritesNothing}
use Rattle.results.specs.Results.Writing.{write, write_text_refusal, write_batch}
use Rattle.results.specs.declared.Batch.{Batch}
use Rattle.results.specs.declared.Report.{Report}
use Rattle.std.specs.Prelude.{Result, Ok, Err, Option}
use Rattle.questions.specs.declared.Question.{Question}

refused_after : (a : Result ℕ Question) (line old : List ℕ) → is_refused a ≡ true → after a line old ≡ old
unfolding after
refused_after (Ok n) line old e = true_false (sym e)
refused_after (Err q) line old e = refl

refused_batch : (c : Contract) (rs : List (Option Report)) (b : Result Batch Question) (old : List ℕ) → is_refused b ≡ true → batch_after c rs b old ≡ old
unfolding batch_after
refused_batch c rs (Ok b) old e = true_false (sym e)
refused_batch c rs (Err q) old e = refl

pub refused_writes_nothing : RefusedWritesNothing
refused_writes_nothing (write w report) old e = refused_after (written w report (length old)) _ old e
refused_writes_nothing (write_text_refusal n place) old e = refused_after (text_written n place (length old)) _ old e
refused_writes_nothing (write_batch w rs) old e = refused_batch (contract_of w) rs (batch w rs (length old)) old e
