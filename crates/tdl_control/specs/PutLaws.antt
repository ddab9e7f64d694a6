-- What a put does to a map, said of what its keys have.
use Rattle.std.specs.Prelude.{◌≡◌, ◌≢◌, Some, IfSome}
use Rattle.tdl_control.specs.declared.keys.Key.{Key}
use Rattle.tdl_control.specs.Setting.{Setting, IsSettingOf}
use Rattle.tdl_control.specs.Map.{KeyValues, lookup, put, IsOrdered, IsMap}

pub record PutLaws : Type 0 where
  -- the key has the setting
  pub same_key : (entries : KeyValues) (key : Key) (setting : Setting) → lookup (put entries key setting) key ≡ Some setting
  -- every other key has what it had
  pub other_keys : (entries : KeyValues) (key : Key) (setting : Setting) (other : Key) → key ≢ other
      → lookup (put entries key setting) other ≡ lookup entries other
  -- what a key of a map has is a setting that it may have
  pub may_have : (entries : KeyValues) (key : Key) → IsMap entries → IfSome (lookup entries key) (IsSettingOf key)
  -- a map stays a map
  pub keeps : (entries : KeyValues) (key : Key) (setting : Setting) → IsSettingOf key setting → IsMap entries → IsMap (put entries key setting)
  -- entries in order are told by what the keys have
  pub told_by_lookup : (one other : KeyValues) → IsOrdered one → IsOrdered other → ((key : Key) → lookup one key ≡ lookup other key) → one ≡ other
