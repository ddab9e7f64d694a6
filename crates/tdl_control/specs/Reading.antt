-- Which texts are no map's, and where that shows first. A space is byte 32, and `=` byte 61.
--     IsMapFault   after the entries of a map, the text has an item that is no entry after them
--     Refuses      what an error says of the text
use Rattle.std.specs.Prelude.{◌≡◌, ◌≢◌, ℕ, ◌+◌, ◌<◌, List, [], ◌∷◌, ◌++◌, length, codes, Option, Some, None, All}
use Rattle.std.specs.List.{flat_map}
use Rattle.tdl_control.specs.declared.faults.Faulted.{Faulted}
use Rattle.tdl_control.specs.declared.faults.Faulted.TheVariants.{NoMemory, At}
use Rattle.tdl_control.specs.declared.keys.Key.{Key}
use Rattle.tdl_control.specs.declared.maps.reading.MapKind.{MapKind}
use Rattle.tdl_control.specs.declared.maps.reading.MapKind.TheVariants.{Form, UnknownKey, BadValue, Order}
use Rattle.tdl_control.specs.Key.{name_of, rank}
use Rattle.tdl_control.specs.Setting.{Setting, setting_text, IsSettingOf}
use Rattle.tdl_control.specs.Map.{KeyValues, entry_text, IsMap}

-- this byte and a text, where there is one
abbrev pub behind : ℕ → Option (List ℕ) → List ℕ
behind byte None = []
behind byte (Some rest) = byte ∷ rest

-- a text cut at its first such byte: what stands before that, and what behind it, if the byte is there
pub record IsCutAt (byte : ℕ) (text before : List ℕ) (rest : Option (List ℕ)) : Type 0 where
  pub parts : text ≡ before ++ behind byte rest
  pub first : All (λ other. other ≢ byte) before

-- each entry's text with a space behind it
abbrev pub front_text : KeyValues → List ℕ
front_text entries = flat_map (λ entry. entry_text entry ++ codes " ") entries

-- behind the entries of a map and their spaces, the text has this item, up to a space or its end
pub record IsItemAfter (entries : KeyValues) (item text : List ℕ) : Type 0 where
  pub is_map : IsMap entries
  pub left : List ℕ
  pub parts : text ≡ front_text entries ++ left
  pub rest : Option (List ℕ)
  pub cut : IsCutAt 32 left item rest

-- the key is above those of the entries
abbrev pub IsAbove : KeyValues → Key → Type 0
IsAbove entries key = All (λ entry. rank entry.0 < rank key) entries

-- no setting that the key may have has this text
abbrev pub IsNoValue : Key → List ℕ → Type 0
IsNoValue key value = (setting : Setting) → IsSettingOf key setting → setting_text setting ≢ value

-- why an item is no entry after these, and at which of its bytes that shows
pub data IsItemFault (entries : KeyValues) (item : List ℕ) : MapKind → ℕ → Type 0 where
  no_equals : All (λ byte. byte ≢ 61) item → IsItemFault entries item Form 0
  unknown_key : (name value : List ℕ) → IsCutAt 61 item name (Some value) → ((key : Key) → name_of key ≢ name)
      → IsItemFault entries item UnknownKey 0
  not_above : (key : Key) (value : List ℕ) → IsCutAt 61 item (name_of key) (Some value) → ¬ (IsAbove entries key)
      → IsItemFault entries item Order 0
  bad_value : (key : Key) (value : List ℕ) → IsCutAt 61 item (name_of key) (Some value) → IsAbove entries key → IsNoValue key value
      → IsItemFault entries item BadValue (length (name_of key) + 1)

-- after the entries of a map, the text has an item that is no entry after them; `-` alone is the empty map's text
pub record IsMapFault (text : List ℕ) (kind : MapKind) (at : ℕ) : Type 0 where
  pub not_empty_map : text ≢ codes "-"
  pub entries : KeyValues
  pub item : List ℕ
  pub after : IsItemAfter entries item text
  pub offset : ℕ
  pub fault : IsItemFault entries item kind offset
  pub place : at ≡ length (front_text entries) + offset

-- out of memory says nothing of the text
abbrev pub Refuses : List ℕ → Faulted MapKind → Type 0
Refuses text NoMemory = Unit {0}
Refuses text (At kind at) = IsMapFault text kind at
