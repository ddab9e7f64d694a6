-- The modes' commands, as the parser of command lines sees them: an option is named as its text, and a positional word by an id.
use Rattle.std.specs.Prelude.{true, Some, codes}
use Rattle.clap.specs.Simple.{App, new_app, new_rule, on_top, with_rule}
use Rattle.clap.specs.Walk.{Rule, Text}
use Rattle.clap.specs.declared.builder.action.ArgAction.TheVariants.{Set}
use Rattle.tdl_words.specs.Modes.{cps_option, cycles_option, origin_option, performers_option}

-- a command that asks for nothing, without help and version
abbrev pub bare_app : Text → App
bare_app mode = on_top (λ s. record s { disable_help_flag = true; disable_version_flag = true }) (new_app mode)

abbrev pub wanted_option : Text → Rule
wanted_option name = record (new_rule name) { long = Some name; action = Some Set }

abbrev pub wanted_word : Text → Rule
wanted_word id = record (new_rule id) { action = Some Set }

abbrev pub query_app : App
query_app =
    with_rule (with_rule (with_rule (bare_app (codes "query")) (wanted_word (codes "pattern"))) (wanted_word (codes "from"))) (wanted_word (codes "to"))

abbrev pub play_app : App
play_app = with_rule (with_rule (bare_app (codes "play")) (wanted_option cps_option)) (wanted_option origin_option)

abbrev pub serve_app : App
serve_app =
    with_rule (with_rule (with_rule (with_rule (bare_app (codes "serve")) (wanted_option performers_option)) (wanted_option cycles_option))
    (wanted_option cps_option)) (wanted_option origin_option)

abbrev pub drill_app : App
drill_app = with_rule (with_rule (bare_app (codes "drill")) (wanted_word (codes "start"))) (wanted_word (codes "lines"))
