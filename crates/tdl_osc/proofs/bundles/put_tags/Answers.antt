use Rattle.std.proofs.Common.{◌++◌, take, sym, ap, ◌∙◌, arith}
use Rattle.std.specs.List.{flat_map}
use Rattle.std.proofs.lemmas.Option.{slice_get_within}
use Rattle.std.proofs.lemmas.Result.{on_ok_weaker}
use Rattle.tdl_control.specs.Value.{setting_of}
use Rattle.tdl_osc.specs.Message.{tag_of}
use Rattle.tdl_osc.specs.Bundle.{control_arguments}
use Rattle.tdl_osc.proofs.Arguments.{arguments_turn, adds_one}
use Rattle.tdl_control.proofs.ReadLemmas.{map_short}
use Rattle.tdl_osc.proofs.Messages.{tags_made}
use Rattle.tdl_osc.proofs.bundles.put_tags.Goals as goal

-- the two tags of the entry are added
pub loop-i-preserved : goal.loop-i-preserved
loop-i-preserved c =
    let es = c.args.controls.now in
    let here = c.entry-value.ensures.found in
    let before = flat_map tag_of (control_arguments (take c.loop-i.i es)) in
    let turn = arguments_turn tag_of es c.loop-i.i c.entry-value.result.0 (setting_of c.entry-value.result.1) here in (
      adds_one _ before _ _ _ _ c.loop-i.invariant.0 c.in_ok-extend_from_slice-2.ensures.items (turn
          ∙ ap (λ piece. before ++ piece) (sym c.entry_tags.ensures)),
      omega (arith, slice_get_within es c.loop-i.i _ here, map_short es c.entry-value.ensures.valid),
    )

pub returns : goal.returns
returns c =
    on_ok_weaker c.put_string_end.result
    (tags_made c.args.controls.now c.loop-i.i c.len.result c.args.out.now.items c.extend_from_slice.new.self.items c.loop-i.out.items
    c.put_string_end.new.out.items (rw (← c.len-i-end.ensures) c.loop-i-test.false) c.len.ensures c.in_ok-extend_from_slice.ensures.items
    c.loop-i.invariant.0)
    c.put_string_end.ensures
