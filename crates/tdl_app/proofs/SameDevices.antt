-- What is held stays the same devices.
--     same_at_first      before anything was done
--     same_again         one step after another
--     held_to_the_end    what holds of how two wires ended, where others end the same
use Rattle.std.proofs.Common.{◌≡◌, refl, sym, subst, ◌∙◌}
use Rattle.tdl_app.specs.declared.wires.Wires.{Wires}
use Rattle.tdl_app.specs.inside.Wiring.{SameWires}

pub same_at_first : {W : Type 0} (wires : Wires W) → SameWires wires wires
same_at_first wires = record { osc = refl; midi = refl }

pub same_again : {W : Type 0} {old mid new : Wires W} → SameWires old mid → SameWires mid new → SameWires old new
same_again first then = record { osc = then.osc ∙ first.osc; midi = then.midi ∙ first.midi }

-- what holds of how two wires ended, where others end the same
pub held_to_the_end : {W : Type 0} (P : W → W → Type 0) {osc osc' midi midi' : W} → osc' ≡ osc → midi' ≡ midi → P osc midi → P osc' midi'
held_to_the_end P {osc} {osc'} {midi} {midi'} first second p =
    subst (λ x. P x midi') (sym first) (subst (λ y. P osc y) (sym second) p)
