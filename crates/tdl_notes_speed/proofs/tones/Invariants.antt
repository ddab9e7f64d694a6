use Rattle.std.specs.List.{AllByRecursion}
use Rattle.tdl_midi.specs.Notes.{IsNote}
use Rattle.tdl_notes_speed.proofs.tones.Given as goal

abbrev pub invariant-loop-note : goal.invariant-loop-note
invariant-loop-note l = AllByRecursion (λ tone. IsNote tone.note) l.tones.items
