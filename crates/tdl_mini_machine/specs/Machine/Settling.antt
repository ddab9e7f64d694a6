-- The element that is being read ends before a token.
--     growth_test      its size is within what a pattern may have
--     added            it is put into its group, if that may have it
--     settled          it is put there, if it can end before the token
--     unfit            a token with which no step goes on
use Rattle.std.specs.Prelude.{ℕ, Bool, true, false, Some, None, Ok}
use Rattle.tdl_mini_tree.specs.declared.leaves.Bracket.TheVariants.{Brace}
use Rattle.tdl_mini_machine.specs.Tokens.{Tok}
use Rattle.tdl_mini_machine.specs.Rules.{steps_rule, Test, test_between}
use Rattle.tdl_mini_tree.specs.Tree.{sound, number, element, Element, played, range, hold, repeat, begins, value, nested}
use Rattle.tdl_mini_machine.specs.Machine.States.{Stage, State, Taken, with_group, refused, step_by_role, ready, voiced, sampling, numbered, ranging, braced}
use Rattle.tdl_mini_machine.specs.Machine.States.{wanting, stepping, weighing, weighted, repeating, ended, and_then, checked}

-- adds an element that ends before a stage
abbrev pub grown : State → Element → State
grown s e = record { frames = s.frames; level = with_group s.level (element s.level.group e); stage = ready; read = s.read }

-- a digit directly after it would be its count
abbrev pub waits : Element → Bool
waits (played step weight times) = false
waits (range a b) = false
waits hold = false
waits repeat = true

abbrev pub growth_test : State → Element → ℕ → Test
growth_test s e ends = test_between s.level.start ends (steps_rule (waits e) s.level.groups (element s.level.group e))

abbrev pub added : Bool → State → Element → Taken
added tested s e = checked tested (growth_test s e s.read) (Ok (grown s e))

-- finishes the element that is being read, if it can end before the token
abbrev pub settled_at : Bool → State → Tok → Stage → Taken
settled_at tested s t ready = Ok s
settled_at tested s t (voiced text) = added tested s (played (begins (value (sound text None))) None None)
settled_at tested s t (sampling text) = refused s t
settled_at tested s t (numbered n) = added tested s (played (begins (value (number n))) None None)
settled_at tested s t (ranging a) = refused s t
settled_at tested s t (braced role bs ls) = added tested s (played (step_by_role role (nested bs Brace ls)) None None)
settled_at tested s t (wanting role bs) = refused s t
settled_at tested s t (stepping step) = added tested s (played step None None)
settled_at tested s t (weighing step) = refused s t
settled_at tested s t (weighted step n) = added tested s (played step (Some n) None)
settled_at tested s t (repeating takes_count) = added tested s repeat
settled_at tested s t ended = refused s t

abbrev pub settled : Bool → State → Tok → Taken
settled tested s t = settled_at tested s t s.stage

-- a token that goes on with no step
abbrev pub unfit : Bool → State → Tok → Taken
unfit tested s t = and_then (settled tested s t) (λ f. refused f t)
