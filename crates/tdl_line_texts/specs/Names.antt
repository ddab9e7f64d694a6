-- The names of lines.
--     name_of         what the bytes of a name mean
--     orbit_of        the orbit that digits name; none outside 1 to 16
use Rattle.std.specs.Prelude.{ℕ, ◌&&◌, ◌==◌, nat_lt, if◌then◌else◌, Option, Some, None, List, [], ◌∷◌, length, codes}
use Rattle.std.specs.List.{list_all}
use Rattle.std.specs.Char.{is_ascii_digit}
use Rattle.std.specs.Str.Parse.{digits_value}
use Rattle.tdl_control.specs.declared.keys.Key.TheVariants as key
use Rattle.tdl_mini_machine.specs.Tokens.{same_text}
use Rattle.tdl_line_machine.specs.declared.names.Name.{Name}
use Rattle.tdl_line_machine.specs.declared.names.Name.TheVariants.{Order, Flag, JumpMod, Orbit, Silence, Key, List as ListOf, Timecat, Bare, OfRatio, OfCount}
use Rattle.tdl_line_machine.specs.declared.names.Name.TheVariants.{OfBools, Layer, Every, Cycle, Off, Within, Euclid, EuclidOff, Const, Random, Unknown}
use Rattle.tdl_command.specs.declared.names.Order.TheVariants as order
use Rattle.tdl_command.specs.declared.names.Flag.TheVariants as flag
use Rattle.tdl_command.specs.declared.names.Shape.TheVariants as shape
use Rattle.tdl_command.specs.declared.names.BareFun.TheVariants as bare
use Rattle.tdl_command.specs.declared.names.RatioFun.TheVariants as ratio
use Rattle.tdl_command.specs.declared.names.CountFun.TheVariants as count
use Rattle.tdl_command.specs.declared.names.BoolsFun.TheVariants as bools
use Rattle.tdl_command.specs.declared.names.LayerFun.TheVariants as layer
use Rattle.tdl_command.specs.declared.names.CycleFun.TheVariants as cycle
use Rattle.tdl_command.specs.Rules.{is_orbit}

pub record Meaning : Type 0 where
  pub text : List ℕ
  pub means : Name

abbrev pub meaning : List ℕ → Name → Meaning
meaning text means = record { text = text; means = means }

-- every name but those of orbits
abbrev pub meanings : List Meaning
meanings =
    meaning (codes "look") (Order order.Look)
    ∷ meaning (codes "hush") (Order order.Hush)
    ∷ meaning (codes "unmuteAll") (Order order.UnmuteAll)
    ∷ meaning (codes "unsoloAll") (Order order.UnsoloAll)
    ∷ meaning (codes "mute") (Flag flag.Mute)
    ∷ meaning (codes "unmute") (Flag flag.Unmute)
    ∷ meaning (codes "solo") (Flag flag.Solo)
    ∷ meaning (codes "unsolo") (Flag flag.Unsolo)
    ∷ meaning (codes "silence") Silence
    ∷ meaning (codes "jumpMod") JumpMod
    ∷ meaning (codes "stack") (ListOf shape.Stack)
    ∷ meaning (codes "cat") (ListOf shape.Cat)
    ∷ meaning (codes "fastcat") (ListOf shape.Fastcat)
    ∷ meaning (codes "timecat") Timecat
    ∷ meaning (codes "rev") (Bare bare.Rev)
    ∷ meaning (codes "palindrome") (Bare bare.Palindrome)
    ∷ meaning (codes "brak") (Bare bare.Brak)
    ∷ meaning (codes "id") (Bare bare.Same)
    ∷ meaning (codes "fast") (OfRatio ratio.Fast)
    ∷ meaning (codes "slow") (OfRatio ratio.Slow)
    ∷ meaning (codes "rotL") (OfRatio ratio.Earlier)
    ∷ meaning (codes "rotR") (OfRatio ratio.Later)
    ∷ meaning (codes "every") Every
    ∷ meaning (codes "every'") (Cycle cycle.EveryAt)
    ∷ meaning (codes "whenmod") (Cycle cycle.WhenMod)
    ∷ meaning (codes "off") Off
    ∷ meaning (codes "superimpose") (Layer layer.Superimpose)
    ∷ meaning (codes "jux") (Layer layer.Jux)
    ∷ meaning (codes "ply") (OfCount count.Ply)
    ∷ meaning (codes "segment") (OfCount count.Segment)
    ∷ meaning (codes "struct") (OfBools bools.Struct)
    ∷ meaning (codes "mask") (OfBools bools.Mask)
    ∷ meaning (codes "within") Within
    ∷ meaning (codes "iter") (OfCount count.Iter)
    ∷ meaning (codes "euclid") Euclid
    ∷ meaning (codes "euclidOff") EuclidOff
    ∷ meaning (codes "const") Const
    ∷ meaning (codes "accelerate") (Key key.Accelerate)
    ∷ meaning (codes "attack") (Key key.Attack)
    ∷ meaning (codes "bandf") (Key key.Bandf)
    ∷ meaning (codes "begin") (Key key.Begin)
    ∷ meaning (codes "channel") (Key key.Channel)
    ∷ meaning (codes "crush") (Key key.Crush)
    ∷ meaning (codes "cut") (Key key.Cut)
    ∷ meaning (codes "cutoff") (Key key.Cutoff)
    ∷ meaning (codes "delay") (Key key.Delay)
    ∷ meaning (codes "end") (Key key.End)
    ∷ meaning (codes "gain") (Key key.Gain)
    ∷ meaning (codes "hold") (Key key.Hold)
    ∷ meaning (codes "legato") (Key key.Legato)
    ∷ meaning (codes "midichan") (Key key.Midichan)
    ∷ meaning (codes "n") (Key key.N)
    ∷ meaning (codes "note") (Key key.Note)
    ∷ meaning (codes "pan") (Key key.Pan)
    ∷ meaning (codes "release") (Key key.Release)
    ∷ meaning (codes "room") (Key key.Room)
    ∷ meaning (codes "s") (Key key.S)
    ∷ meaning (codes "speed") (Key key.Speed)
    ∷ meaning (codes "unit") (Key key.Unit)
    ∷ meaning (codes "velocity") (Key key.Velocity)
    ∷ meaning (codes "vowel") (Key key.Vowel)
    ∷ meaning (codes "sound") (Key key.S)
    ∷ meaning (codes "rand") Random
    ∷ meaning (codes "irand") Random
    ∷ meaning (codes "choose") Random
    ∷ meaning (codes "wchoose") Random
    ∷ meaning (codes "randcat") Random
    ∷ meaning (codes "wrandcat") Random
    ∷ meaning (codes "degrade") Random
    ∷ meaning (codes "degradeBy") Random
    ∷ meaning (codes "unDegradeBy") Random
    ∷ meaning (codes "sometimes") Random
    ∷ meaning (codes "sometimesBy") Random
    ∷ meaning (codes "often") Random
    ∷ meaning (codes "rarely") Random
    ∷ meaning (codes "almostNever") Random
    ∷ meaning (codes "almostAlways") Random
    ∷ meaning (codes "somecycles") Random
    ∷ meaning (codes "somecyclesBy") Random
    ∷ meaning (codes "shuffle") Random
    ∷ meaning (codes "scramble") Random
    ∷ []

-- the first name with these bytes
abbrev pub named_among : List Meaning → List ℕ → Option Name
named_among [] bytes = None
named_among (e ∷ others) bytes = if same_text e.text bytes then Some e.means else named_among others bytes

abbrev pub orbit_of : List ℕ → Option ℕ
orbit_of digits = if is_orbit (digits_value 10 digits) then Some (digits_value 10 digits) else None

-- `d` and digits, or nothing
abbrev pub other_name : List ℕ → Name
other_name [] = Unknown
other_name (byte ∷ digits) =
    if (byte == 100) && (nat_lt 0 (length digits) && list_all is_ascii_digit digits) then Orbit (orbit_of digits) else Unknown

abbrev pub found : Option Name → Name → Name
found None other = other
found (Some n) other = n

abbrev pub name_of : List ℕ → Name
name_of bytes = found (named_among meanings bytes) (other_name bytes)
