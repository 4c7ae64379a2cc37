-- Worked cases: the lines that document 01 lists, and others of each kind. Only the names of the contract are printed, so it has no functions here.
use Prim.Native.String.{String}
use Rattle.std.specs.Prelude.{List, [], ◌∷◌, pos, negsuc}
use Rattle.laws.specs.Bytes.{bytes}
use Rattle.contract.specs.Tree.{Contract}
use Rattle.results.specs.declared.Report.{Report}
use Rattle.results.specs.declared.Report.TheVariants.{Ruled, Sent, Held, Refused, Failed}

abbrev pub lot : Contract
lot =
    record {
      name = bytes "Lot";
      parties = bytes "Broker" ∷ bytes "Ann" ∷ bytes "Bob" ∷ [];
      assets = bytes "bales" ∷ [];
      fields = bytes "part" ∷ [];
      states = bytes "Open" ∷ bytes "Held" ∷ bytes "Done" ∷ [];
      strings = bytes "late" ∷ [];
      clauses = [];
      initial = 0;
      functions = [];
    }

pub record Case : Type 0 where
  pub report : Report
  pub line : String

abbrev pub cases : List Case
cases =
    record { report = Ruled 0 0 0; line = "[AGREE] Open, 0\n" }
    ∷ record { report = Ruled 1 1 0; line = "[FUNCTION] Held, 0\n" }
    ∷ record { report = Sent 3 1 (pos 3) 1; line = "3 -o Ann\n" }
    ∷ record { report = Ruled 3 1 1; line = "[TICK] Held, 1\n" }
    ∷ record { report = Ruled 3 1 2; line = "[TICK] Held, 2\n" }
    ∷ record { report = Ruled 2 2 2; line = "[EVENT MATCH] Done, 2\n" }
    ∷ record { report = Sent 3 2 (pos 7) 1; line = "7 -o Bob\n" }
    ∷ record { report = Refused 26; line = "refused 26\n" }
    ∷ record { report = Held 0 0; line = "bales = 0\n" }
    -- a value label, a string in its quotes, a failed firing, a negative value; -(n + 1) is `negsuc n`
    ∷ record { report = Sent 1 1 (pos 3) 0; line = "3 -> Ann\n" }
    ∷ record { report = Sent 2 1 (pos 0) 0; line = "\"late\" -> Ann\n" }
    ∷ record { report = Failed 33; line = "[EVENT MATCH] refused 33\n" }
    ∷ record { report = Sent 1 2 (negsuc 1249) 0; line = "-1250 -> Bob\n" }
    ∷ []
