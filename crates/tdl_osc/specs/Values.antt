-- What the messages of a bundle that was read say.
use Rattle.std.specs.Prelude.{map}
use Rattle.tdl_osc.specs.declared.reading.values.Arg.{Arg}
use Rattle.tdl_osc.specs.declared.reading.values.Arg.TheVariants.{Int, Word}
use Rattle.tdl_osc.specs.declared.reading.values.Message.{Message}
use Rattle.tdl_osc.specs.Message as message
use Rattle.tdl_osc.specs.OscBundle.{OscMessage}

abbrev pub osc_argument : Arg → message.Argument
osc_argument (Int number) = message.Int number
osc_argument (Word text) = message.Word text

abbrev pub osc_message : Message → OscMessage
osc_message m = record { address = m.address; arguments = map osc_argument m.args }
