-- Control maps, as lists of keys with their settings in the order of the keys.
use Rattle.std.specs.Prelude.{ℕ, ◌<◌, nat_lt, ◌==◌, if◌then◌else◌, List, [], ◌∷◌, ◌++◌, codes, Option, Some, None, All, AllPairs}
use Rattle.std.specs.List.{flat_map}
use Rattle.tdl_control.specs.declared.keys.Key.{Key}
use Rattle.tdl_control.specs.Key.{name_of, rank}
use Rattle.tdl_control.specs.Setting.{Setting, setting_text, IsSettingOf}

abbrev pub KeyValues : Type 0
KeyValues = List (Key × Setting)

-- the setting of the key, if it has one
abbrev pub lookup : KeyValues → Key → Option Setting
lookup [] key = None
lookup (entry ∷ entries) key = if rank entry.0 == rank key then Some entry.1 else lookup entries key

-- the entries with this setting of the key, in the order of the keys
abbrev pub put : KeyValues → Key → Setting → KeyValues
put [] key setting = (key, setting) ∷ []
put (entry ∷ entries) key setting =
    if nat_lt (rank key) (rank entry.0)
    then (key, setting) ∷ entry ∷ entries
    else (if rank key == rank entry.0 then (key, setting) ∷ entries else entry ∷ put entries key setting)

-- the keys rise, so each comes once
abbrev pub IsOrdered : KeyValues → Type 0
IsOrdered entries = AllPairs (λ one other. rank one.0 < rank other.0) entries

-- each key has a setting that it may have
abbrev pub IsTyped : KeyValues → Type 0
IsTyped entries = All (λ entry. IsSettingOf entry.0 entry.1) entries

-- the entries are those of a map
pub record IsMap (entries : KeyValues) : Type 0 where
  pub ordered : IsOrdered entries
  pub typed : IsTyped entries

-- `key=value`
abbrev pub entry_text : Key × Setting → List ℕ
entry_text entry = name_of entry.0 ++ codes "=" ++ setting_text entry.1

-- each entry's text after a space
abbrev pub spaced_text : KeyValues → List ℕ
spaced_text entries = flat_map (λ entry. codes " " ++ entry_text entry) entries

-- the entries' texts with one space between, or `-` where there are none
abbrev pub print_of : KeyValues → List ℕ
print_of [] = codes "-"
print_of (entry ∷ entries) = entry_text entry ++ spaced_text entries
