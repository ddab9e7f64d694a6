-- Where an operand that is whole stands.
--     is_constant, has_constant    after `const`: in what is open, and in the innermost of it
use Rattle.std.specs.Prelude.{Bool, true, false, List, [], ◌∷◌}
use Rattle.tdl_line_machine.specs.Machine.States.{Frame, Hole, constant}

abbrev pub is_constant : Hole → Bool
is_constant (constant spot) = true
is_constant _ = false

abbrev pub has_constant : List Frame → Bool
has_constant [] = false
has_constant (f ∷ frames) = is_constant f.hole
