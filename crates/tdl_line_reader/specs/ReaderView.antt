-- What the parts of the reader stand for.
--     spot_of, hole_of, stage_of    a spot, what is open, a stage; likewise for what is kept in them
--     core_of, state_of             what the reader keeps, and the state at a stage
--     tok_value                     a token as the grammar sees it, by what a quoted text is in each kind
--     Agrees                        a call answers as the machine does, before the token is counted
--     AgreesAt, AgreesEach          likewise at a token, and whatever the token is
--     Closes                        what is open is closed, if anything is
use Rattle.std.specs.Global.{Box}
use Rattle.std.specs.Option.{option_map}
use Rattle.std.specs.Prelude.{◌≡◌, ℕ, suc, Bool, false, Option, Some, None, Result, Ok, Err, List, [], ◌∷◌, IfOk, IfErr}
use Rattle.std.specs.List.{fold}
use Rattle.tdl_grammar.specs.Machine.{stop_kind, stop_at}
use Rattle.tdl_mini_tree.specs.declared.leaves.Kind.{Kind}
use Rattle.tdl_line_machine.specs.declared.faults.LineKind.{LineKind}
use Rattle.tdl_line_machine.specs.declared.faults.LineKind.TheVariants.{Mini}
use Rattle.tdl_line_reader.specs.declared.faults.Fault.{Fault}
use Rattle.tdl_line_reader.specs.declared.faults.Fault.TheVariants.{NoMemory, At}
use Rattle.tdl_line_reader.specs.declared.faults.Place.{Place}
use Rattle.tdl_line_reader.specs.declared.stages.Spot.{Spot}
use Rattle.tdl_line_reader.specs.declared.stages.Spot.TheVariants as spot
use Rattle.tdl_line_reader.specs.declared.stages.CountCall.{CountCall}
use Rattle.tdl_line_reader.specs.declared.stages.CountCall.TheVariants as count_call
use Rattle.tdl_line_reader.specs.declared.stages.FunCall.{FunCall}
use Rattle.tdl_line_reader.specs.declared.stages.FunCall.TheVariants as fun_call
use Rattle.tdl_line_reader.specs.declared.stages.Asked.{Asked}
use Rattle.tdl_line_reader.specs.declared.stages.Asked.TheVariants as asked
use Rattle.tdl_line_reader.specs.declared.stages.Called.{Called}
use Rattle.tdl_line_reader.specs.declared.stages.Called.TheVariants as called
use Rattle.tdl_line_reader.specs.declared.stages.Pending.{Pending}
use Rattle.tdl_line_reader.specs.declared.stages.Pending.TheVariants as pending
use Rattle.tdl_line_reader.specs.declared.stages.Bracketed.{Bracketed}
use Rattle.tdl_line_reader.specs.declared.stages.Bracketed.TheVariants as round
use Rattle.tdl_line_reader.specs.declared.stages.Hole.{Hole}
use Rattle.tdl_line_reader.specs.declared.stages.Hole.TheVariants as hole
use Rattle.tdl_line_reader.specs.declared.stages.Frame.{Frame}
use Rattle.tdl_line_reader.specs.declared.stages.Front.{Front}
use Rattle.tdl_line_reader.specs.declared.stages.Front.TheVariants as front
use Rattle.tdl_line_reader.specs.declared.stages.NumberStage.{NumberStage}
use Rattle.tdl_line_reader.specs.declared.stages.NumberStage.TheVariants as number_stage
use Rattle.tdl_line_reader.specs.declared.stages.Stage.{Stage}
use Rattle.tdl_line_reader.specs.declared.stages.Stage.TheVariants as stage
use Rattle.tdl_line_reader.specs.declared.reader.LineTokenReader.{LineTokenReader}
use Rattle.tdl_line_reader.specs.declared.tokens.Tok.{Tok}
use Rattle.tdl_line_reader.specs.declared.tokens.Tok.TheVariants as tok
use Rattle.tdl_mini_tree.specs.Reading.{Reading, read, unread}
use Rattle.tdl_command.specs.declared.tree.Plain.{Plain}
use Rattle.tdl_line_machine.specs.Tokens as token
use Rattle.tdl_line_machine.specs.Pieces as pieces
use Rattle.tdl_command.specs.View.{ratio_of, count_of, expr_of, fun_of, exprs_of, parts_of, line_of, whole_of}
use Rattle.tdl_line_machine.specs.Machine as machine
use Rattle.tdl_line_machine.specs.Machine.States.{Core, State, Step, read_on, refused}

abbrev pub spot_of : Spot → machine.Spot
spot_of spot.First = machine.first
spot_of spot.Operand = machine.at_operand
spot_of (spot.AfterDot f) = machine.after_dot (fun_of f.value)

abbrev pub count_call_of : CountCall → machine.CountCall
count_call_of (count_call.Of f) = machine.count_of f
count_call_of count_call.Every = machine.every_in
count_call_of (count_call.Cycles g) = machine.cycles_of g
count_call_of (count_call.From g n) = machine.cycles_from g (count_of n)
count_call_of count_call.Hits = machine.hits_of
count_call_of (count_call.Steps k) = machine.steps_of (count_of k)
count_call_of count_call.OffHits = machine.off_hits
count_call_of (count_call.OffSteps k) = machine.off_steps (count_of k)
count_call_of (count_call.OffFrom k n) = machine.off_from (count_of k) (count_of n)

abbrev pub fun_call_of : FunCall → machine.FunCall
fun_call_of (fun_call.Layer g) = machine.layer_of g
fun_call_of (fun_call.Every n) = machine.every_of (count_of n)
fun_call_of (fun_call.Cycle g n from) = machine.cycle_of g (count_of n) (count_of from)
fun_call_of (fun_call.Off r) = machine.off_of (ratio_of r)
fun_call_of (fun_call.Within bounds) = machine.within_of bounds.value.from bounds.value.to

abbrev pub called_of : Called → machine.Called
called_of (called.WantsCount call) = machine.wants_count (count_call_of call)
called_of (called.WantsFun call) = machine.wants_fun (fun_call_of call)
called_of (called.Whole f) = machine.made_of (fun_of f)

abbrev pub pending_of : Pending → machine.Pending
pending_of (pending.Applied f) = machine.applies (fun_of f.value)
pending_of (pending.Joined left operator) = machine.joins (expr_of left.value) operator
pending_of (pending.Called f) = machine.calls (fun_of f.value)
pending_of (pending.Shifted by way) = machine.shifts (ratio_of by) way

-- the last comes first
abbrev pub level_of : List Pending → List machine.Pending
level_of level = fold (λ before p. pending_of p ∷ before) [] level

abbrev pub round_of : Bracketed → machine.Bracketed
round_of round.Anything = machine.anything
round_of round.ExprOrNumber = machine.expr_or_number
round_of round.FunOrNumber = machine.fun_or_number
round_of (round.FunAfter next) = machine.fun_after (fun_of next.value)
round_of (round.Argument s call) = machine.argument (spot_of s) (fun_call_of call)

-- the first number of `within`, once it is read
abbrev pub first_of : Option (Box Plain) → Option Plain
first_of first = option_map (λ p. p.value) first

abbrev pub hole_of : Hole → machine.Hole
hole_of (hole.Bracketed r) = machine.round (round_of r)
hole_of (hole.Section r operator) = machine.section (round_of r) operator
hole_of (hole.Measure s call) = machine.measure (spot_of s) call
hole_of (hole.Bounds s) = machine.bounds (spot_of s)
hole_of (hole.Bound from) = machine.bound (first_of from)
hole_of (hole.Setting key) = machine.setting key
hole_of (hole.Constant s) = machine.constant (spot_of s)
hole_of (hole.List shape exprs) = machine.list shape (exprs_of exprs.items)
hole_of (hole.Timecat parts) = machine.timecat (parts_of parts.items)
hole_of hole.Part = machine.unweighed
hole_of (hole.Weighed weight) = machine.weighed weight

abbrev pub frame_of : Frame → machine.Frame
frame_of f = record { level = level_of f.level.items; depth = f.depth; hole = hole_of f.hole }

-- the innermost comes first
abbrev pub frames_of : List Frame → List machine.Frame
frames_of frames = fold (λ outer f. frame_of f ∷ outer) [] frames

abbrev pub front_of : Front → machine.Front
front_of front.Pattern = machine.alone
front_of (front.Play orbit) = machine.plays (Some orbit)
front_of (front.Jump orbit every) = machine.jumps orbit every

abbrev pub asking_of : machine.Spot → Asked → machine.Stage
asking_of s (asked.Ratio call) = machine.asking_ratio s call
asking_of s (asked.Count call) = machine.asking_count s (count_call_of call)
asking_of s (asked.Bools f) = machine.asking_bools s f
asking_of s (asked.Fun call) = machine.asking_fun s (fun_call_of call)
asking_of s asked.Bounds = machine.asking_bounds s

abbrev pub number_of : NumberStage → machine.Stage
number_of (number_stage.Bounding first) = machine.bounding (first_of first)
number_of (number_stage.Bounded first p) = machine.bounded (first_of first) p
number_of number_stage.Fraction = machine.fraction
number_of number_stage.Minus = machine.minus
number_of (number_stage.Above negative n at) = machine.above negative n at
number_of (number_stage.Slash negative n) = machine.slash negative n
number_of (number_stage.Closing p) = machine.closing p

abbrev pub stage_of : Stage → machine.Stage
stage_of stage.Beginning = machine.beginning
stage_of (stage.Flagging f) = machine.flagging f
stage_of (stage.Addressed orbit) = machine.addressed (Some orbit)
stage_of stage.Jumping = machine.jumping
stage_of (stage.JumpingAt orbit) = machine.jumping_at orbit
stage_of (stage.Jumped orbit every) = machine.jumped orbit every
stage_of (stage.Done c) = machine.done (line_of c)
stage_of (stage.Ended w) = machine.ended (whole_of w)
stage_of (stage.Wanting s) = machine.wanting (spot_of s)
stage_of stage.Opening = machine.opening
stage_of (stage.Opened n at) = machine.opened n at
stage_of (stage.Measured r) = machine.measured (ratio_of r)
stage_of (stage.Shifted r way) = machine.shifted (ratio_of r) way
stage_of (stage.Expressed e) = machine.expressed (expr_of e)
stage_of (stage.Named f) = machine.named (fun_of f.value)
stage_of (stage.Chained f) = machine.chained (fun_of f.value)
stage_of (stage.Keyed key) = machine.keyed key
stage_of stage.Setting = machine.set
stage_of stage.Negating = machine.negating
stage_of (stage.Negated n) = machine.negated n
stage_of (stage.Listing shape) = machine.listing shape
stage_of stage.ListOpen = machine.list_open
stage_of stage.Timing = machine.timing
stage_of stage.PartsOpen = machine.parts_open
stage_of stage.PartWanted = machine.part_wanted
stage_of stage.PartRead = machine.part_read
stage_of stage.Weighing = machine.weighing
stage_of (stage.Weighed n) = machine.weighted n
stage_of (stage.Asking s a) = asking_of (spot_of s) a
stage_of (stage.Number n) = number_of n

abbrev pub core_of : LineTokenReader → Core
core_of r = record { frames = frames_of r.frames.items; level = level_of r.level.items; depth = r.depth; front = front_of r.front; read = r.read }

abbrev pub state_of : LineTokenReader → Stage → State
state_of r p = record { core = core_of r; stage = stage_of p }

-- which quoted texts are read as what in a kind
abbrev pub Reads : Type 0 → Type 1
Reads Q = Kind → Q → Reading → Type 0

-- what a quoted text is in each kind
abbrev pub AreReadings : {Q : Type 0} → Reads Q → (Kind → Reading) → Tok Q → Type 0
AreReadings reads readings (tok.Number n) = Unit {0}
AreReadings reads readings (tok.Name n) = Unit {0}
AreReadings reads readings (tok.Quoted quoted) = (kind : Kind) → reads kind quoted (readings kind)
AreReadings reads readings (tok.Mark m) = Unit {0}
AreReadings reads readings tok.End = Unit {0}

abbrev pub tok_value : {Q : Type 0} → (Kind → Reading) → Tok Q → token.Tok
tok_value readings (tok.Number n) = token.number n
tok_value readings (tok.Name n) = token.name n
tok_value readings (tok.Quoted quoted) = token.quoted readings
tok_value readings (tok.Mark m) = token.mark m
tok_value readings tok.End = token.end

-- the grammar's token, by what a quoted text is in each kind
abbrev pub IsTokOf : {Q : Type 0} → Reads Q → token.Tok → Tok Q → Type 0
IsTokOf reads t tok = (readings : Kind → Reading) × AreReadings reads readings tok × (tok_value readings tok ≡ t)

abbrev pub place_of : Place → pieces.Place
place_of p = record { token = p.token; offset = p.offset }

-- out of memory says nothing
abbrev pub Stops : Step → Fault → Type 0
Stops step NoMemory = Unit {0}
Stops (Ok state) (At kind place) = ⊥
Stops (Err stop) (At kind place) = (kind ≡ stop_kind stop) × (place_of place ≡ stop_at stop)

-- the machine goes on at a stage, or nothing goes on with the token
abbrev pub GoesOn : Step → token.Tok → LineTokenReader → Option Stage → Type 0
GoesOn step t r (Some p) = step ≡ Ok (record { core = read_on (core_of r); stage = stage_of p })
GoesOn step t r None = step ≡ refused (core_of r) t

pub record Agrees (step : Step) (t : token.Tok) (new : LineTokenReader) (result : Result (Option Stage) Fault) : Type 0 where
  pub ok : IfOk result (GoesOn step t new)
  pub err : IfErr result (Stops step)

abbrev pub AgreesAt : {Q : Type 0} → Reads Q → (Core → token.Tok → Step) → LineTokenReader → Tok Q → LineTokenReader → Result (Option Stage) Fault → Type 0
AgreesAt reads step old t new result =
    (readings : Kind → Reading) → AreReadings reads readings t → Agrees (step (core_of old) (tok_value readings t)) (tok_value readings t) new result

-- whatever the token is
abbrev pub AgreesEach : (Core → token.Tok → Step) → LineTokenReader → LineTokenReader → Result (Option Stage) Fault → Type 0
AgreesEach step old new result = (t : token.Tok) → Agrees (step (core_of old) t) t new result

-- the machine stops here, with any stage before
abbrev pub StopsAt : {Q : Type 0} → Reads Q → (Core → token.Tok → Step) → LineTokenReader → Tok Q → Fault → Type 0
StopsAt reads step old t fault = (readings : Kind → Reading) → AreReadings reads readings t → Stops (step (core_of old) (tok_value readings t)) fault

abbrev pub here : LineTokenReader → ℕ → pieces.Place
here r offset = record { token = r.read; offset = offset }

-- a fault at this token, where a rule does not hold
abbrev pub FailsAt : LineKind → pieces.Place → Bool → Fault → Type 0
FailsAt kind place holds NoMemory = ⊥
FailsAt kind place holds (At k p) = (k ≡ kind) × (place_of p ≡ place) × (holds ≡ false)

-- the fault of a text that is not read
abbrev pub IsUnread : pieces.Place → Reading → Fault → Type 0
IsUnread place reading NoMemory = Unit {0}
IsUnread place (read k ls) (At kind p) = ⊥
IsUnread place (unread fault at) (At kind p) = (kind ≡ Mini fault) × (place_of p ≡ record { token = place.token; offset = suc at })

-- what the machine does with what was closed, if anything was open
abbrev pub closed_on : Core → token.Tok → (Core → machine.Hole → Step) → Option Hole → Step
closed_on c t next (Some h) = next c (hole_of h)
closed_on c t next None = refused c t

abbrev pub Closes : LineTokenReader → LineTokenReader → Option Hole → Type 0
Closes old new hole =
    (t : token.Tok) (next : Core → machine.Hole → Step)
    → machine.closed (core_of old).frames (core_of old) t next ≡ closed_on (core_of new) t next hole

-- what is kept besides what is pending stays
pub record KeepsOpen (old new : LineTokenReader) : Type 0 where
  pub frames : new.frames ≡ old.frames
  pub depth : new.depth ≡ old.depth
  pub front : new.front ≡ old.front
  pub read : new.read ≡ old.read
