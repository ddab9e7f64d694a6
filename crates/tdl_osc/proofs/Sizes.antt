-- How many bytes the entries of a map take, summed up one by one.
use Rattle.std.proofs.Common.{◌≡◌, ℕ, ◌+◌, ◌*◌, ◌≤◌, ◌++◌, length, take, Some, ap, arith, length-append}
use Rattle.std.specs.List.{slice_get, flat_map}
use Rattle.tdl_control.specs.declared.keys.Key.{Key}
use Rattle.tdl_control.specs.Key.{name_of, key_count}
use Rattle.tdl_control.specs.Setting.{Setting}
use Rattle.tdl_control.specs.Map.{KeyValues, IsMap}
use Rattle.tdl_control.proofs.KeyLemmas.{name_short}
use Rattle.tdl_control.proofs.ReadLemmas.{map_short}
use Rattle.tdl_osc.specs.Encoding.{osc_string, string_end}
use Rattle.tdl_osc.specs.Message.{argument_bytes}
use Rattle.tdl_osc.specs.Bundle.{setting_argument, control_arguments}
use Rattle.tdl_osc.proofs.Arguments.{arguments_turn}
use Rattle.tdl_osc.proofs.Strings.{length-osc_string}
use Rattle.std.proofs.lemmas.Option.{slice_get_within}

-- so many bytes for the entries before place i
pub record SizedSoFar (es : KeyValues) (i size : ℕ) : Type 0 where
  pub sized : size ≡ length (flat_map argument_bytes (control_arguments (take i es)))
  pub bound : size ≤ 50 * i
  pub few : i ≤ key_count

pub sized_turn : (es : KeyValues) (i size name_size setting_size : ℕ) (key : Key) (setting : Setting) → SizedSoFar es i size → IsMap es
    → slice_get es i ≡ Some (key, setting)
    → name_size ≡ length (name_of key) + length (string_end (length (name_of key))) → name_size ≤ length (name_of key) + 4
    → setting_size ≡ length (argument_bytes (setting_argument setting)) → setting_size ≤ 36
    → SizedSoFar es (i + 1) (size + (name_size + setting_size))
sized_turn es i size name_size setting_size key setting so_far valid here name_is name_bound setting_is setting_bound =
    let short = name_short key in
    let all_short = map_short es valid in
    let within = slice_get_within es i (key, setting) here in
    let before = flat_map argument_bytes (control_arguments (take i es)) in
    let turn = ap length (arguments_turn argument_bytes es i key setting here) in
    let outer = length-append before (osc_string (name_of key) ++ argument_bytes (setting_argument setting)) in
    let inner = length-append (osc_string (name_of key)) (argument_bytes (setting_argument setting)) in
    let name_length = length-osc_string (name_of key) in
    record {
      sized = omega (arith, so_far.sized, turn, outer, inner, name_length, name_is, setting_is);
      bound = omega (arith, so_far.bound, short, name_bound, setting_bound);
      few = omega (arith, within, all_short);
    }
