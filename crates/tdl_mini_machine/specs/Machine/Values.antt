-- The tokens of numbers and words.
--     with_value       a value
--     with_number      a number, at a stage
--     with_counting    a number directly after `!`; uncounted, a token there that is no count
use Rattle.std.specs.Prelude.{suc, Bool, true, if◌then◌else◌, Option, Some, None, Ok}
use Rattle.tdl_mini_tree.specs.declared.leaves.Number.{Number}
use Rattle.tdl_mini_tree.specs.declared.leaves.Kind.{Kind}
use Rattle.tdl_mini_machine.specs.Tokens.{Tok, value_of}
use Rattle.tdl_mini_machine.specs.NumberForms.{is_end, is_sample}
use Rattle.tdl_mini_machine.specs.Rules.{sample_rule, factor_rule, weight_rule, count_rule, size_rule, test_between, test_at, number_tests, token_tests}
use Rattle.tdl_mini_tree.specs.Tree as tree
use Rattle.tdl_mini_tree.specs.Tree.{Value, sound, number, group, Group, no_element, element, played, range, hold, repeat, begins, value, scaled}
use Rattle.tdl_mini_machine.specs.Machine.Settling.{grown, growth_test, settled, unfit}
use Rattle.tdl_mini_machine.specs.Machine.States.{Stage, State, Taken, past, with_group, begun, refused, step_by_role, ready, voiced, sampling, numbered}
use Rattle.tdl_mini_machine.specs.Machine.States.{ranging, wanting, stepping, weighing, weighted, repeating, and_then, checked, all_checked}

abbrev pub value_stage : Kind → Value → Stage
value_stage kind (sound text None) = voiced text
value_stage kind (sound text (Some n)) = stepping (begins (value (sound text (Some n))))
value_stage kind (tree.name text) = stepping (begins (value (tree.name text)))
value_stage kind (tree.note n) = stepping (begins (value (tree.note n)))
value_stage kind (tree.truth b) = stepping (begins (value (tree.truth b)))
value_stage kind (number n) = if is_end kind n then numbered n else stepping (begins (value (number n)))

abbrev pub valued : Bool → State → Tok → Option Value → Taken
valued tested s t None = refused s t
valued tested s t (Some v) = all_checked tested (token_tests s.level.kind s.read v) (Ok (begun s (value_stage s.level.kind v)))

abbrev pub with_value : Bool → State → Tok → Taken
with_value tested s t = and_then (settled tested s t) (λ f. valued tested f t (value_of f.level.kind t))

-- the group with a count for its last step
abbrev pub with_count : Group → Number → Group
with_count no_element n = no_element
with_count (element g (played step weight times)) n = element g (played step weight (Some n))
with_count (element g (range a b)) n = element g (range a b)
with_count (element g hold) n = element g hold
with_count (element g repeat) n = element g repeat

abbrev pub counted_group : Bool → State → Group → Taken
counted_group tested s g =
    checked tested
    (test_between s.level.start (suc s.read) (size_rule s.level.groups g))
    (Ok (record { frames = s.frames; level = with_group s.level g; stage = ready; read = suc s.read }))

abbrev pub with_number : Bool → State → Tok → Number → Stage → Taken
with_number tested s t n (sampling text) =
    if is_sample n then checked tested (test_at s.read (sample_rule n)) (Ok (past s (stepping (begins (value (sound text (Some n)))))))
    else refused s t
with_number tested s t n (ranging a) =
    if is_end s.level.kind n
    then all_checked tested (number_tests s.level.kind s.read n) (checked tested (growth_test s (range a n) (suc s.read))
    (Ok (past (grown s (range a n)) ready)))
    else refused s t
with_number tested s t n (wanting role bs) = checked tested (test_at s.read (factor_rule n)) (Ok (past s (stepping (step_by_role role (scaled bs n)))))
with_number tested s t n (weighing step) = checked tested (test_at s.read (weight_rule n)) (Ok (past s (weighted step n)))
with_number tested s t n p = with_value tested s t

-- a token that would be a count: the `!` before it is not settled
abbrev pub uncounted : Bool → State → Tok → Stage → Taken
uncounted tested s t (repeating takes_count) = refused s t
uncounted tested s t p = unfit tested s t

abbrev pub with_counting : Bool → State → Tok → Number → Stage → Taken
with_counting tested s t n (repeating true) = checked tested (test_at s.read (count_rule n)) (counted_group tested s (with_count s.level.group n))
with_counting tested s t n p = uncounted tested s t p
