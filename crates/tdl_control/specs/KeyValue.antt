-- What an entry of a map holds.
use Rattle.tdl_control.specs.declared.keys.Key.{Key}
use Rattle.tdl_control.specs.declared.maps.KeyValue.{KeyValue}
use Rattle.tdl_control.specs.Setting.{Setting}
use Rattle.tdl_control.specs.Value.{setting_of}

abbrev pub key_value_of : KeyValue → Key × Setting
key_value_of entry = (entry.key, setting_of entry.value)
