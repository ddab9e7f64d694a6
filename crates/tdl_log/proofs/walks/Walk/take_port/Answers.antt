use Rattle.std.proofs.Common.{◌≡◌, List, [], ◌∷◌, ◌++◌, ap, arith}
use Rattle.tdl_log.specs.declared.ends.Ending.{Ending}
use Rattle.tdl_log.specs.declared.walks.Line.TheVariants as told
use Rattle.tdl_log.specs.inside.Walks.{least_port}
use Rattle.tdl_log.specs.Log.{Log}
use Rattle.tdl_log.proofs.NextLines.{least_port-append}
use Rattle.tdl_log.proofs.WalkSteps.{holds_with}
use Rattle.tdl_log.proofs.walks.Walk.take_port.Goals as goal

pub returns-clause-holds : goal.returns-clause-holds
returns-clause-holds g c =
    let sheet = c.args.self.now.sheet in
    let ends : c.add.new.self ≡ sheet.ends ++ c.args.ending ∷ [] = c.add.ensures in
    holds_with g.R.Reader.reads c.args.self.now c.requires.holds _ (told.Port c.args.ending) c.requires.stands
    (ap (λ (es : List Ending). let log : Log = record { tempo = sheet.tempo; history = sheet.history.entries; ends = es } in log) ends)
    c.requires.holds.known (omega (arith, least_port-append sheet.ends c.args.ending, ap least_port ends))
