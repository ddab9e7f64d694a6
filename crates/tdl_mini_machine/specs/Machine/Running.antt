-- A machine that takes the tokens of a text one by one.
--     taken            the state after a further token, or its fault; with no tests it reads what the
--                      grammar has, and with tests what is a text too
--     run              the state after several tokens
use Rattle.std.specs.Prelude.{suc, Bool, true, false, Ok, List, [], ◌∷◌}
use Rattle.tdl_grammar.specs.Machine as generic
use Rattle.tdl_mini_machine.specs.Tokens.{Tok, digits, letters}
use Rattle.tdl_mini_machine.specs.Tokens as token
use Rattle.tdl_mini_machine.specs.Machine.Marks.{taken_mark}
use Rattle.tdl_mini_machine.specs.Machine.Settling.{settled}
use Rattle.tdl_mini_machine.specs.Machine.States.{Frame, State, Taken, final_level, closed_layers, refused, ended, and_then}
use Rattle.tdl_mini_machine.specs.Machine.Values.{with_value, with_number, uncounted, with_counting}

abbrev pub at_end : State → Tok → List Frame → Taken
at_end s t [] =
    Ok (record { frames = []; level = final_level s.level.kind (closed_layers s.level); stage = ended; read = suc s.read })
at_end s t (f ∷ frames) = refused s t

abbrev pub taken : Bool → State → Tok → Taken
taken tested s (digits n text true) = with_counting tested s (digits n text true) n s.stage
taken tested s (digits n text false) = with_number tested s (digits n text false) n s.stage
taken tested s (letters text true) = uncounted tested s (letters text true) s.stage
taken tested s (letters text false) = with_value tested s (letters text false)
taken tested s (token.mark m) = taken_mark tested s (token.mark m) m
taken tested s token.end = and_then (settled tested s token.end) (λ f. at_end f token.end f.frames)

abbrev pub run : Bool → State → List Tok → Taken
run tested s tokens = generic.run (taken tested) s tokens
