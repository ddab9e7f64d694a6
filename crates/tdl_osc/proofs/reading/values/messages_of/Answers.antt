use Rattle.std.proofs.Common.{◌≡◌, ◌<◌, ◌∙◌, ap, sym, subst, arith, length, take, drop}
use Rattle.std.proofs.lemmas.Grind.{common_steps}
use Rattle.std.proofs.lemmas.List.{take_rest}
use Rattle.tdl_osc.specs.inside.Said.{said_message, IsFreeMessage, AreFreeElements}
use Rattle.tdl_osc.proofs.ReadValues.{element_sized, element_left, said_message_on}
use Rattle.tdl_osc.proofs.reading.values.messages_of.Goals as goal

pub read_u32-size-requires : goal.read_u32-size-requires
read_u32-size-requires c =
    let rest = c.loop-rest.rest.now in
    let some : 0 < length rest = grind (arith, common_steps) in
    element_sized rest some c.loop-rest.invariant.free

pub message_of-requires : goal.message_of-requires
message_of-requires c =
    let rest = c.loop-rest.rest.now in
    let size = c.read_u32-size.result in
    let some : 0 < length rest = grind (arith, common_steps) in
    let here = element_left rest size some c.read_u32-size.type_inv c.read_u32-size.ensures c.loop-rest.invariant.free in
    let contents : c.split_at.result.0.now ≡ take size (drop 4 rest) = c.split_at.ensures.front ∙ ap (take size) (take_rest rest 4) in
    subst IsFreeMessage (sym contents) here.message

-- one message is made, and one is left out of what is left
pub loop-rest-preserved : goal.loop-rest-preserved
loop-rest-preserved c =
    let rest = c.loop-rest.rest.now in
    let size = c.read_u32-size.result in
    let some : 0 < length rest = grind (arith, common_steps) in
    let here = element_left rest size some c.read_u32-size.type_inv c.read_u32-size.ensures c.loop-rest.invariant.free in
    let contents : c.split_at.result.0.now ≡ take size (drop 4 rest) = c.split_at.ensures.front ∙ ap (take size) (take_rest rest 4) in
    let others : c.split_at.result.1.now ≡ drop size (drop 4 rest) = c.split_at.ensures.back ∙ ap (drop size) (take_rest rest 4) in
    record {
      said = said_message_on c.loop-rest.messages c.push.new.self c.in_ok-message_of.field-0 rest _ size some here.is
          c.in_ok-push.ensures.ok (c.in_ok-message_of.ensures ∙ ap said_message contents) others ∙ c.loop-rest.invariant.said;
      free = subst AreFreeElements (sym others) here.others;
    }
