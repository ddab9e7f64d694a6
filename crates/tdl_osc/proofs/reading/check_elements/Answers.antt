use Rattle.std.proofs.Common.{◌∙◌, ap, arith, length, length-drop}
use Rattle.std.proofs.lemmas.List.{take_rest}
use Rattle.tdl_osc.proofs.ReadBundles.{element_on}
use Rattle.tdl_osc.proofs.reading.check_elements.Goals as goal

pub loop-rest-preserved : goal.loop-rest-preserved
loop-rest-preserved c =
    let rest = c.loop-rest.rest.now in
    let size = c.in_ok-size.size in
    let left = ap length (take_rest rest size) in
    record {
      same = element_on c.loop-rest.offset size rest c.in_ok-size.ensures.value ∙ c.loop-rest.invariant.same;
      fits = omega (arith, left, length-drop size rest, c.in_ok-size.ensures.within, c.loop-rest.invariant.fits);
    }
