use Rattle.std.proofs.Common.{arith, ap, subst, sym}
use Rattle.std.specs.Option.{option_copied}
use Rattle.tdl_control.specs.Map.{IsMap}
use Rattle.tdl_control.specs.Reading.{front_text}
use Rattle.tdl_control.specs.Value.{setting_of}
use Rattle.tdl_control.proofs.PutLemmas.{IsMap-put}
use Rattle.tdl_control.proofs.ReadLemmas.{left_parts, read_more, length_before, front_short, offset_small}
use Rattle.tdl_control.proofs.maps.reading.read_items.Goals as goal

-- an item's place is that of a few entries
pub overflow_cast-result : goal.overflow_cast-result
overflow_cast-result c =
    let parts = left_parts c.args.text.now c.loop-rest.map c.in-Some.left.now _ c.loop-rest.invariant.read_to (ap option_copied c.in-Some.is) in
    omega (
      arith,
      length_before c.args.text.now (front_text c.loop-rest.map) c.in-Some.left.now parts,
      front_short c.loop-rest.map c.loop-rest.invariant.is_map,
      offset_small c.loop-rest.map c.cut.result.0.now c.in-Err.fault.kind c.in-Err.fault.offset c.in-Err.ensures.fault,
    )

-- the item is the next entry
pub loop-rest-preserved : goal.loop-rest-preserved
loop-rest-preserved c =
    let parts = left_parts c.args.text.now c.loop-rest.map c.in-Some.left.now _ c.loop-rest.invariant.read_to (ap option_copied c.in-Some.is) in
    record {
      read_to = read_more c.args.text.now c.loop-rest.map c.in-Ok.key (setting_of c.in-Ok.value) c.cut.result.0.now c.in-Some.left.now
          (option_copied c.cut.result.1) c.set.new.self parts c.cut.ensures c.in-Ok.ensures.text c.in-Ok.ensures.above c.in_ok-set-in-Ok.ensures.ok;
      is_map = subst IsMap (sym c.in_ok-set-in-Ok.ensures.ok)
          (IsMap-put c.loop-rest.map c.in-Ok.key (setting_of c.in-Ok.value) c.in-Ok.ensures.fits c.loop-rest.invariant.is_map);
    }
