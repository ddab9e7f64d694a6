use Rattle.std.proofs.Common.{ap}
use Rattle.tdl_control.specs.declared.faults.Faulted.TheVariants.{At}
use Rattle.tdl_log.specs.declared.kinds.LogKind.{LogKind}
use Rattle.tdl_log.specs.Log.{log_of}
use Rattle.tdl_log.specs.inside.Walks.{begun_pieces}
use Rattle.tdl_log.proofs.WalkSteps.{shows_front}
use Rattle.tdl_log.proofs.walks.Walk.fault.Goals as goal

pub returns : goal.returns
returns g c =
    ap (λ (kind : LogKind). At kind c.args.self.now.at)
    (c.line_kind.ensures (begun_pieces (log_of c.args.self.now.sheet))
    (shows_front g.R.Reader.reads c.args.self.now c.requires.holds c.is_empty.result c.is_empty.ensures))
