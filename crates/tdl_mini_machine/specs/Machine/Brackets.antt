-- The tokens of brackets, and the commas in them.
--     with_open        a bracket opens; with_arguments, that of a Euclid
--     with_close       it closes; euclid_closed, that of a Euclid
--     parted           a comma: a further argument, or a further layer
use Rattle.std.specs.Prelude.{suc, Bool, nat_lt, if◌then◌else◌, Ok, List, [], ◌∷◌, length}
use Rattle.tdl_mini_tree.specs.Limits.{max_depth}
use Rattle.tdl_mini_tree.specs.declared.leaves.Bracket.{Bracket}
use Rattle.tdl_mini_tree.specs.declared.leaves.Bracket.TheVariants.{Square, Angle, Brace}
use Rattle.tdl_mini_tree.specs.declared.leaves.Kind.{Kind}
use Rattle.tdl_mini_tree.specs.declared.leaves.Kind.TheVariants.{Count, Ratio}
use Rattle.tdl_mini_machine.specs.Tokens.{Tok}
use Rattle.tdl_mini_machine.specs.Rules.{euclid_rule, euclid_from_rule, test_at}
use Rattle.tdl_mini_tree.specs.Tree.{Layers, MiniStep, euclid, euclid_from, nested, Braces, no_brace}
use Rattle.tdl_mini_machine.specs.Machine.Settling.{settled, unfit}
use Rattle.tdl_mini_machine.specs.Machine.States.{Role, Stage, Level, Hole, Frame, State, Taken, first_level, final_level, is_same_bracket, begun_at}
use Rattle.tdl_mini_machine.specs.Machine.States.{closed_layers, refused, step_by_role, term, ready, braced, wanting, stepping, operand, hits, steps, from}
use Rattle.tdl_mini_machine.specs.Machine.States.{and_then, checked}

-- opens a bracket at the level, and begins to read in it
abbrev pub opened_at : State → Tok → Level → Hole → Kind → Taken
opened_at s t l hole kind =
    if nat_lt (length s.frames) max_depth
    then Ok (record { frames = record { level = l; hole = hole } ∷ s.frames; level = first_level kind; stage = ready; read = suc s.read })
    else refused s t

abbrev pub with_open : Bool → State → Tok → Bracket → Stage → Taken
with_open tested s t b (wanting role bs) = opened_at s t s.level (operand role bs b) Ratio
with_open tested s t b p = and_then (settled tested s t) (λ f. opened_at f t (begun_at f.level f.read) (operand term no_brace b) f.level.kind)

-- back at the level round the innermost bracket
abbrev pub closed_to : State → Level → List Frame → Stage → State
closed_to s l frames p = record { frames = frames; level = l; stage = p; read = suc s.read }

abbrev pub after_bracket : Role → Braces → Bracket → Layers → Stage
after_bracket role bs Square ls = stepping (step_by_role role (nested bs Square ls))
after_bracket role bs Angle ls = stepping (step_by_role role (nested bs Angle ls))
after_bracket role bs Brace ls = braced role bs ls

abbrev pub closed_hole : State → Tok → Bracket → Level → List Frame → Hole → Taken
closed_hole s t b l frames (operand role bs opened) =
    if is_same_bracket b opened then Ok (closed_to s l frames (after_bracket role bs b (closed_layers s.level))) else refused s t
closed_hole s t b l frames (hits step) = refused s t
closed_hole s t b l frames (steps step k) = refused s t
closed_hole s t b l frames (from step k n) = refused s t

abbrev pub closed : State → Tok → Bracket → List Frame → Taken
closed s t b [] = refused s t
closed s t b (f ∷ frames) = closed_hole s t b f.level frames f.hole

abbrev pub with_close : Bool → State → Tok → Bracket → Taken
with_close tested s t b = and_then (settled tested s t) (λ f. closed f t b f.frames)

-- a comma: a further argument, or a further layer
abbrev pub with_layers : State → Layers → State
with_layers s ls =
    record { frames = s.frames; level = final_level s.level.kind ls; stage = ready; read = suc s.read }

abbrev pub next_argument : State → Level → List Frame → Hole → State
next_argument s l frames hole = record { frames = record { level = l; hole = hole } ∷ frames; level = first_level Count; stage = ready; read = suc s.read }

abbrev pub parted_hole : State → Tok → Level → List Frame → Hole → Taken
parted_hole s t l frames (operand role bs b) = Ok (with_layers s (closed_layers s.level))
parted_hole s t l frames (hits step) = Ok (next_argument s l frames (steps step (closed_layers s.level)))
parted_hole s t l frames (steps step k) = Ok (next_argument s l frames (from step k (closed_layers s.level)))
parted_hole s t l frames (from step k n) = refused s t

abbrev pub parted : State → Tok → List Frame → Taken
parted s t [] = Ok (with_layers s (closed_layers s.level))
parted s t (f ∷ frames) = parted_hole s t f.level frames f.hole

-- the end of a Euclid's arguments
abbrev pub euclid_hole : Bool → State → Tok → Level → List Frame → Hole → Taken
euclid_hole tested s t l frames (operand role bs b) = refused s t
euclid_hole tested s t l frames (hits step) = refused s t
euclid_hole tested s t l frames (steps step k) =
    checked tested (test_at s.read (euclid_rule k (closed_layers s.level)))
    (Ok (closed_to s l frames (stepping (euclid step k (closed_layers s.level)))))
euclid_hole tested s t l frames (from step k n) =
    checked tested (test_at s.read (euclid_from_rule k n (closed_layers s.level)))
    (Ok (closed_to s l frames (stepping (euclid_from step k n (closed_layers s.level)))))

abbrev pub euclid_closed : Bool → State → Tok → List Frame → Taken
euclid_closed tested s t [] = refused s t
euclid_closed tested s t (f ∷ frames) = euclid_hole tested s t f.level frames f.hole

-- the arguments of a Euclid begin where the bracket is not too deep
abbrev pub with_arguments : Bool → State → Tok → MiniStep → Taken
with_arguments tested s t step = if nat_lt (length s.frames) max_depth then opened_at s t s.level (hits step) Count else unfit tested s t
