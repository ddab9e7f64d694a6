use Rattle.std.proofs.Common.{ap, inl, inr}
use Rattle.tdl_score.specs.declared.histories.Deed.{Deed}
use Rattle.tdl_score.specs.History.{plays}
use Rattle.tdl_score.proofs.Knowing.{tells_finished, tells_performed, tells_ticked}
use Rattle.tdl_score.proofs.known.Known.with.Goals as goal

pub returns-in-Swap : goal.returns-in-Swap
returns-in-Swap c entries tells =
    tells_performed c.args.self entries c.args.entry.now tells
    (elim c.in-Swap.is [
      | inl swap ↦ ap (λ (deed : Deed). plays deed) swap.2
      | inr look ↦ ap (λ (deed : Deed). plays deed) look
    ])

pub returns-in-Tick : goal.returns-in-Tick
returns-in-Tick c entries tells = tells_ticked c.args.self entries c.args.entry.now tells c.in-Tick.to c.in-Tick.is

pub returns-in-Finish : goal.returns-in-Finish
returns-in-Finish c entries tells = tells_finished c.args.self entries c.args.entry.now tells c.in-Finish.is
