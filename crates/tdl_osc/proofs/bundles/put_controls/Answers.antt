use Rattle.std.proofs.Common.{◌++◌, take, sym, ap, ◌∙◌}
use Rattle.std.specs.List.{flat_map}
use Rattle.tdl_control.specs.Value.{setting_of}
use Rattle.tdl_osc.specs.Message.{argument_bytes}
use Rattle.tdl_osc.specs.Bundle.{control_arguments}
use Rattle.tdl_osc.proofs.Arguments.{arguments_turn, adds_two}
use Rattle.tdl_osc.proofs.bundles.put_controls.Goals as goal

-- the name and the value of the entry are added
pub loop-i-preserved : goal.loop-i-preserved
loop-i-preserved c =
    let es = c.args.controls.now in
    let before = flat_map argument_bytes (control_arguments (take c.loop-i.i es)) in
    let turn = arguments_turn argument_bytes es c.loop-i.i c.entry-key.result.0 (setting_of c.entry-key.result.1) c.entry-key.ensures.found in
    adds_two _ before _ _ _ _ _ c.loop-i.invariant (rw c.name.ensures at c.in_ok-put_string.ensures) c.in_ok-put_value.ensures
    ∙ ap (λ piece. c.args.out.now.items ++ piece) (sym turn)
