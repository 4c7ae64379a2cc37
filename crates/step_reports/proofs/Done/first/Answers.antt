-- `step_reports::Done::first` meets its contract. Assumes nothing.
use Rattle.step_reports.proofs.Reports.{ruled, failed, turned_down}
use Rattle.step_reports.proofs.Done.first.Goals as goal

pub returns-in-Accepted : goal.returns-in-Accepted
returns-in-Accepted g c = ruled g.Q.Numbered.number c.args.self.outcome c.args.self.state c.args.self.clock _ _ c.in-Accepted.is c.rule_number.ensures

pub returns-in-Failed : goal.returns-in-Failed
returns-in-Failed g c = failed g.Q.Numbered.number c.args.self.outcome c.args.self.state c.args.self.clock _ _ c.in-Failed.is c.number.ensures

pub returns-in-Refused : goal.returns-in-Refused
returns-in-Refused g c = turned_down g.Q.Numbered.number c.args.self.outcome c.args.self.state c.args.self.clock _ _ c.in-Refused.is c.number-in-Refused.ensures
