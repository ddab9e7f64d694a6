-- The other marks, and each mark by its name.
--     with_dot, with_hold, with_repeat    `.`, `_` and `!`
--     continued                           a mark that goes on with a step, or with its term alone
--     taken_mark                          the state after a mark
use Rattle.std.specs.Prelude.{suc, Bool, if◌then◌else◌, Option, Some, None, Ok}
use Rattle.tdl_mini_machine.specs.declared.marks.Mark.{Mark}
use Rattle.tdl_mini_machine.specs.declared.marks.Mark.TheVariants as mark
use Rattle.tdl_mini_machine.specs.Tokens.{Tok}
use Rattle.tdl_mini_machine.specs.Rules.{size_rule, dot_rule, test_at}
use Rattle.tdl_mini_tree.specs.Tree.{group, no_element, element, is_empty_group, hold, MiniStep, begins, rest, no_brace, brace}
use Rattle.tdl_mini_machine.specs.Machine.Brackets.{with_open, with_arguments, with_close, parted, euclid_closed}
use Rattle.tdl_mini_machine.specs.Machine.Settling.{settled, unfit}
use Rattle.tdl_mini_machine.specs.Machine.States.{Stage, Level, State, Taken, past, with_group, begun, refused, pending, ends_step, faster, slower, ready}
use Rattle.tdl_mini_machine.specs.Machine.States.{voiced, sampling, numbered, ranging, braced, wanting, stepping, weighing, repeating, and_then, checked}

-- the level with a further group
abbrev pub level_after_dot : Level → Level
level_after_dot l = record { kind = l.kind; layers = l.layers; groups = group l.groups l.group; group = no_element; start = 0 }

-- a dot: a further group
abbrev pub with_dot : Bool → State → Taken
with_dot tested s =
    checked tested (test_at s.read (dot_rule (group s.level.groups s.level.group)))
    (Ok (record { frames = s.frames; level = level_after_dot s.level; stage = ready; read = suc s.read }))

-- a `_`
abbrev pub with_hold : Bool → State → Tok → Taken
with_hold tested s t =
    if is_empty_group s.level.group then refused s t
    else checked tested (test_at s.read (size_rule s.level.groups (element s.level.group hold)))
    (Ok (record { frames = s.frames; level = with_group s.level (element s.level.group hold); stage = ready; read = suc s.read }))

-- a `!`
abbrev pub with_repeat : State → Tok → (takes_count : Bool) → Taken
with_repeat s t takes_count = if is_empty_group s.level.group then refused s t else Ok (begun s (repeating takes_count))

-- a mark that goes on with a step, or with its term alone
abbrev pub continued : Bool → State → Tok → Option MiniStep → (MiniStep → Taken) → Taken
continued tested s t None next = unfit tested s t
continued tested s t (Some step) next = next step

abbrev pub with_colon : Bool → State → Tok → Stage → Taken
with_colon tested s t (voiced text) = Ok (past s (sampling text))
with_colon tested s t p = unfit tested s t

abbrev pub with_range : Bool → State → Tok → Stage → Taken
with_range tested s t (numbered n) = Ok (past s (ranging n))
with_range tested s t p = unfit tested s t

abbrev pub with_percent : Bool → State → Tok → Stage → Taken
with_percent tested s t (braced role bs ls) = Ok (past s (wanting role (brace bs ls)))
with_percent tested s t p = unfit tested s t

abbrev pub taken_mark : Bool → State → Tok → Mark → Taken
taken_mark tested s t mark.Rest = and_then (settled tested s t) (λ f. Ok (begun f (stepping (begins rest))))
taken_mark tested s t (mark.Open b) = with_open tested s t b s.stage
taken_mark tested s t (mark.Close b) = with_close tested s t b
taken_mark tested s t mark.OpenRound = continued tested s t (pending s.stage) (with_arguments tested s t)
taken_mark tested s t mark.CloseRound = and_then (settled tested s t) (λ f. euclid_closed tested f t f.frames)
taken_mark tested s t mark.Comma = and_then (settled tested s t) (λ f. parted f t f.frames)
taken_mark tested s t mark.Repeat = and_then (settled tested s t) (λ f. with_repeat f t (ends_step s.stage))
taken_mark tested s t mark.Star = continued tested s t (pending s.stage) (λ step. Ok (past s (wanting (faster step) no_brace)))
taken_mark tested s t mark.Slash = continued tested s t (pending s.stage) (λ step. Ok (past s (wanting (slower step) no_brace)))
taken_mark tested s t mark.At = continued tested s t (pending s.stage) (λ step. Ok (past s (weighing step)))
taken_mark tested s t mark.Colon = with_colon tested s t s.stage
taken_mark tested s t mark.Percent = with_percent tested s t s.stage
taken_mark tested s t mark.Question = unfit tested s t
taken_mark tested s t mark.Bar = unfit tested s t
taken_mark tested s t mark.Caret = unfit tested s t
taken_mark tested s t mark.Hold = and_then (settled tested s t) (λ f. with_hold tested f t)
taken_mark tested s t mark.Dot = and_then (settled tested s t) (λ f. with_dot tested f)
taken_mark tested s t mark.Range = with_range tested s t s.stage
