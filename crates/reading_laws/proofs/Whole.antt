-- The pass over a table of zeros and a text that is not too long is what reading means. Assumes nothing.
use Prim.Native.Nat.{ℕ, ◌≤◌}
use mathlib.Core.List.{List}
use lib.ListN.{length}
use Rattle.reading.specs.Reading.{read_text, Answered}
use Rattle.reading_laws.specs.Walk.{walk, Ends}
use Rattle.reading_laws.proofs.Run.{fresh}
use Rattle.reading_laws.proofs.Walks.{walk_fresh}
use Rattle.reading_laws.proofs.NotedPlaces.{run_found, run_question}
use Rattle.reading_laws.proofs.TableIsEncoded.{run_table}
use Rattle.reading_laws.proofs.ReadIs.{Reads, reads}

pub reads_whole : (s : List ℕ) → length s ≤ 16384 → (r : Answered) (t : List ℕ) → Ends (walk s fresh) r t → Reads (read_text s 24659) r t
reads_whole s h r t e = reads s (walk_fresh s) (run_found s) (run_question s) (run_table s) h r t e
