-- `cursors::lex` meets its contract. Assumes nothing.
use mathlib.Core.Path.{sym, ◌∙◌}
use Rattle.cursors.proofs.Packs.{cursor_in_found, cursor_in_refused, cursor_in_end}
use Rattle.cursors.proofs.lex.Goals as goal

pub returns-in-Found : goal.returns-in-Found
returns-in-Found c =
    let x = c in
    let e = c.pack.ensures in record {
      value = cursor_in_found x.args.text.now c.pack.result x.args.at _ (sym c.next-found.ensures ∙ c.in-Found.is)
          (record { kind = e.kind; question = e.question ∙ c.number.ensures; start = e.start; end = e.end; place = e.at });
      goes = e.goes;
    }

pub returns-in-Refused : goal.returns-in-Refused
returns-in-Refused c =
    let x = c in
    let e = c.pack-in-Refused.ensures in record {
      value = cursor_in_refused x.args.text.now c.pack-in-Refused.result x.args.at _ _ (sym c.next-found.ensures ∙ c.in-Refused.is)
          (record { kind = e.kind; question = e.question; start = e.start; end = e.end; place = e.at });
      goes = e.goes;
    }

pub returns-in-End : goal.returns-in-End
returns-in-End c =
    let x = c in
    let e = c.pack-in-End.ensures in record {
      value = cursor_in_end x.args.text.now c.pack-in-End.result x.args.at (sym c.next-found.ensures ∙ c.in-End.is)
          (record { kind = e.kind; question = e.question ∙ c.number-in-End.ensures; start = e.start; end = e.end; place = e.at });
      goes = e.goes;
    }
