-- `lines::Reader::ends` meets its contract. Assumes nothing.
use Rattle.lines.proofs.Parse.{end_is}
use Rattle.lines.proofs.Reader.ends.Goals as goal

pub returns : goal.returns
returns c =
    end_is _ _ c.skip.ensures
