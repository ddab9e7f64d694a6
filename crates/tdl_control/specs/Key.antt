-- The controls: how many there are, their names, their order, and which of them take words.
use Rattle.std.specs.Prelude.{ℕ, Bool, true, false, List, codes}
use Rattle.tdl_control.specs.declared.keys.Key.{Key}
use Rattle.tdl_control.specs.declared.keys.Key.TheVariants.{Accelerate, Attack, Bandf, Begin, Channel, Crush, Cut, Cutoff, Delay}
use Rattle.tdl_control.specs.declared.keys.Key.TheVariants.{End, Gain, Hold, Legato, Midichan, N, Note, Pan, Release, Room, S, Speed}
use Rattle.tdl_control.specs.declared.keys.Key.TheVariants.{Unit as UnitKey, Velocity, Vowel}

-- the variant's name in lower case
abbrev pub name_of : Key → List ℕ
name_of Accelerate = codes "accelerate"
name_of Attack = codes "attack"
name_of Bandf = codes "bandf"
name_of Begin = codes "begin"
name_of Channel = codes "channel"
name_of Crush = codes "crush"
name_of Cut = codes "cut"
name_of Cutoff = codes "cutoff"
name_of Delay = codes "delay"
name_of End = codes "end"
name_of Gain = codes "gain"
name_of Hold = codes "hold"
name_of Legato = codes "legato"
name_of Midichan = codes "midichan"
name_of N = codes "n"
name_of Note = codes "note"
name_of Pan = codes "pan"
name_of Release = codes "release"
name_of Room = codes "room"
name_of S = codes "s"
name_of Speed = codes "speed"
name_of UnitKey = codes "unit"
name_of Velocity = codes "velocity"
name_of Vowel = codes "vowel"

abbrev pub key_count : ℕ
key_count = 24

-- the key's index in the byte order of the names
abbrev pub rank : Key → ℕ
rank Accelerate = 0
rank Attack = 1
rank Bandf = 2
rank Begin = 3
rank Channel = 4
rank Crush = 5
rank Cut = 6
rank Cutoff = 7
rank Delay = 8
rank End = 9
rank Gain = 10
rank Hold = 11
rank Legato = 12
rank Midichan = 13
rank N = 14
rank Note = 15
rank Pan = 16
rank Release = 17
rank Room = 18
rank S = 19
rank Speed = 20
rank UnitKey = 21
rank Velocity = 22
rank Vowel = 23

-- whether the key's values are words
abbrev pub takes_word : Key → Bool
takes_word S = true
takes_word UnitKey = true
takes_word Vowel = true
takes_word _ = false
