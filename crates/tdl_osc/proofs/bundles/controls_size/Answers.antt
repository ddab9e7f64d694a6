use Rattle.tdl_control.specs.Value.{setting_of}
use Rattle.tdl_osc.proofs.Sizes.{sized_turn}
use Rattle.tdl_osc.proofs.bundles.controls_size.Goals as goal

pub loop-i-preserved : goal.loop-i-preserved
loop-i-preserved c =
    sized_turn c.args.controls.now c.loop-i.i c.loop-i.size c.string_size.result c.value_size.result c.entry-key.result.0
    (setting_of c.entry-key.result.1) c.loop-i.invariant c.entry-key.ensures.valid c.entry-key.ensures.found
    (rw (← c.name.ensures) c.string_size.ensures.value) (rw (← c.name.ensures) c.string_size.ensures.bound) c.value_size.ensures.value
    c.value_size.ensures.bound
