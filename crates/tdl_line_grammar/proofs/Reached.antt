-- What a state that is reached keeps: what is open fits what is round it, and the stage fits what is open.
--     Open             functions and expressions are read in what is open
--     Fits             frames, by how many brackets are open in the innermost
--     Reached          a state
--     Keeps            a step leads to one
use Rattle.std.proofs.Common.{◌≡◌, ℕ, suc, Ok, Err, List, [], ◌∷◌, IsTrue}
use Rattle.std.specs.Prelude.{◌||◌}
use Rattle.tdl_line_machine.specs.Machine.States.{Spot, first, at_operand, after_dot, Pending, Bracketed, anything, expr_or_number, fun_or_number, fun_after}
use Rattle.tdl_line_machine.specs.Machine.States.{argument, Hole}
use Rattle.tdl_line_machine.specs.Machine.States.{round, section, measure, bounds, bound, setting, constant, list, timecat, unweighed, weighed, Frame, Stage}
use Rattle.tdl_line_machine.specs.Machine.States.{State, Step}
use Rattle.tdl_line_machine.specs.Machine.Calls.{is_nil}
use Rattle.tdl_line_machine.specs.Machine.Open.{has_exprs, round_has_funs, round_has_numbers}
use Rattle.tdl_line_machine.specs.Machine as machine

-- ---- what is open
-- the brackets that are open in a hole, by those round it
abbrev pub inside : Hole → ℕ → ℕ
inside (constant spot) depth = depth
inside _ depth = suc depth

abbrev pub IsInner : Hole → Type 0
IsInner (round r) = Unit {0}
IsInner (section r operator) = Unit {0}
IsInner (constant spot) = Unit {0}
IsInner (list shape es) = Unit {0}
IsInner (weighed n) = Unit {0}
IsInner _ = ⊥

abbrev pub IsBounds : Hole → Type 0
IsBounds (bounds spot) = Unit {0}
IsBounds _ = ⊥

abbrev pub IsSetting : Hole → Type 0
IsSetting (setting key) = Unit {0}
IsSetting _ = ⊥

abbrev pub IsList : Hole → Type 0
IsList (list shape es) = Unit {0}
IsList _ = ⊥

abbrev pub IsTimecat : Hole → Type 0
IsTimecat (timecat ps) = Unit {0}
IsTimecat _ = ⊥

abbrev pub IsUnweighed : Hole → Type 0
IsUnweighed unweighed = Unit {0}
IsUnweighed _ = ⊥

-- a number alone may be read there
abbrev pub TakesNumber : Hole → Type 0
TakesNumber (round r) = IsTrue (round_has_numbers r)
TakesNumber (measure spot call) = Unit {0}
TakesNumber (bound from) = Unit {0}
TakesNumber _ = ⊥

abbrev pub IsBracket : Hole → Type 0
IsBracket (constant spot) = ⊥
IsBracket _ = Unit {0}

-- the innermost
abbrev pub Top : (Hole → Type 0) → List Frame → Type 0
Top P [] = ⊥
Top P (f ∷ frames) = P f.hole

abbrev pub TopOrNone : (Hole → Type 0) → List Frame → Type 0
TopOrNone P [] = Unit {0}
TopOrNone P (f ∷ frames) = P f.hole

-- what is pending waits for an expression
pub record Open (frames : List Frame) (level : List Pending) : Type 0 where
  pub inner : TopOrNone IsInner frames
  pub alone : IsTrue (is_nil level || has_exprs frames)

abbrev pub SpotFits : Spot → List Frame → Type 0
SpotFits first frames = Unit {0}
SpotFits at_operand frames = IsTrue (has_exprs frames)
SpotFits (after_dot g) frames = Unit {0}

abbrev pub RoundFits : Bracketed → List Frame → Type 0
RoundFits anything frames = IsTrue (has_exprs frames)
RoundFits expr_or_number frames = IsTrue (has_exprs frames)
RoundFits fun_or_number frames = Unit {0}
RoundFits (fun_after g) frames = Unit {0}
RoundFits (argument spot call) frames = SpotFits spot frames

-- a hole, with what is pending and open round it
abbrev pub HoleFits : Hole → List Pending → List Frame → Type 0
HoleFits (round r) level frames = Open frames level × RoundFits r frames
HoleFits (section r operator) level frames = Open frames level × RoundFits r frames × IsTrue (round_has_funs r)
HoleFits (measure spot call) level frames = Open frames level × SpotFits spot frames
HoleFits (bounds spot) level frames = Open frames level × SpotFits spot frames
HoleFits (bound from) level frames = Top IsBounds frames
HoleFits (setting key) level frames = Open frames level × IsTrue (has_exprs frames)
HoleFits (constant spot) level frames = Open frames level × SpotFits spot frames
HoleFits (list shape es) level frames = Open frames level × IsTrue (has_exprs frames)
HoleFits (timecat ps) level frames = Open frames level × IsTrue (has_exprs frames)
HoleFits unweighed level frames = Top IsTimecat frames
HoleFits (weighed n) level frames = Top IsTimecat frames

abbrev pub Fits : List Frame → ℕ → Type 0
Fits [] depth = depth ≡ 0
Fits (f ∷ frames) depth = (depth ≡ inside f.hole f.depth) × HoleFits f.hole f.level frames × Fits frames f.depth

abbrev pub StageFits : Stage → List Frame → List Pending → Type 0
StageFits machine.beginning frames level = Open frames level
StageFits (machine.flagging f) frames level = Unit {0}
StageFits (machine.addressed o) frames level = Open frames level
StageFits machine.jumping frames level = Open frames level
StageFits (machine.jumping_at n) frames level = Open frames level
StageFits (machine.jumped n every) frames level = Open frames level
StageFits (machine.done l) frames level = Unit {0}
StageFits (machine.ended w) frames level = Unit {0}
StageFits (machine.wanting spot) frames level = Open frames level × SpotFits spot frames
StageFits machine.opening frames level = Open frames level
StageFits (machine.opened n at) frames level = Open frames level
StageFits (machine.measured r) frames level = Open frames level
StageFits (machine.shifted r way) frames level = Open frames level
StageFits (machine.expressed e) frames level = Open frames level × IsTrue (has_exprs frames) × TopOrNone IsBracket frames
StageFits (machine.named f) frames level = Open frames level
StageFits (machine.chained f) frames level = Open frames level
StageFits (machine.keyed key) frames level = Open frames level × IsTrue (has_exprs frames)
StageFits machine.set frames level = Top IsSetting frames
StageFits machine.negating frames level = Top IsSetting frames
StageFits (machine.negated n) frames level = Top IsSetting frames
StageFits (machine.listing shape) frames level = Open frames level × IsTrue (has_exprs frames)
StageFits machine.list_open frames level = Top IsList frames
StageFits machine.timing frames level = Open frames level × IsTrue (has_exprs frames)
StageFits machine.parts_open frames level = Top IsTimecat frames
StageFits machine.part_wanted frames level = Top IsTimecat frames
StageFits machine.part_read frames level = Top IsTimecat frames
StageFits machine.weighing frames level = Top IsUnweighed frames
StageFits (machine.weighted n) frames level = Top IsUnweighed frames
StageFits (machine.asking_ratio spot call) frames level = Open frames level × SpotFits spot frames
StageFits (machine.asking_count spot call) frames level = Open frames level × SpotFits spot frames
StageFits (machine.asking_bools spot f) frames level = Open frames level × SpotFits spot frames
StageFits (machine.asking_fun spot call) frames level = Open frames level × SpotFits spot frames
StageFits (machine.asking_bounds spot) frames level = Open frames level × SpotFits spot frames
StageFits (machine.bounding from) frames level = Top IsBounds frames
StageFits (machine.bounded from p) frames level = Top IsBounds frames
StageFits machine.fraction frames level = Top TakesNumber frames
StageFits machine.minus frames level = Top TakesNumber frames
StageFits (machine.above negative n at) frames level = Top TakesNumber frames
StageFits (machine.slash negative n) frames level = Top TakesNumber frames
StageFits (machine.closing p) frames level = Top TakesNumber frames

pub record Reached (s : State) : Type 0 where
  pub frames : Fits s.core.frames s.core.depth
  pub stage : StageFits s.stage s.core.frames s.core.level

-- a step from one such state to another, where so many brackets are open
abbrev pub Keeps : ℕ → Step → Type 0
Keeps d (Ok f) = Reached f × (f.core.depth ≡ d)
Keeps d (Err stop) = Unit {0}
