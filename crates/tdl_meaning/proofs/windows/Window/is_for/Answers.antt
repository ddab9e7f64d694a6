use Rattle.tdl_meaning.proofs.kinds.Gate.{starts_in_by}
use Rattle.tdl_meaning.proofs.windows.Window.is_for.Goals as goal

pub returns : goal.returns
returns c =
    rw (c.is_between.ensures, c.place.ensures)
    (starts_in_by c.args.self.now.from c.args.self.now.to c.args.self.now.inside c.args.whole)
