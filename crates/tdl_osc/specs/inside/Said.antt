-- What is read where there is no fault.
--     checked          a value, where there is no fault
--     said_message     what a message says: its address and its arguments
--     said_messages    what the messages behind so many bytes say
--     AreFreeArguments, IsFreeMessage, AreFreeElements    there is no fault in them, where they stand in a bundle
use Rattle.std.specs.Prelude.{◌≡◌, ℕ, zero, suc, ◌+◌, ◌==◌, if◌then◌else◌, nat_abs, List, [], ◌∷◌, take, drop}
use Rattle.std.specs.Prelude.{Option, Some, None, Result, Ok, Err}
use Rattle.tdl_osc.specs.declared.faults.BundleFault.{BundleFault}
use Rattle.tdl_osc.specs.BundleFault.{text_of, string_size, tags_of, argument_size, number_of, arguments_fault, message_fault, elements_fault}
use Rattle.tdl_osc.specs.Message.{Argument, Int, Word}
use Rattle.tdl_osc.specs.OscBundle.{OscMessage}

abbrev pub checked : {X : Type 0} → Option BundleFault → X → Result X BundleFault
checked None value = Ok value
checked (Some fault) value = Err fault

abbrev pub said_argument : ℕ → List ℕ → Argument
said_argument tag bytes = if tag == 115 then Word (text_of bytes) else Int (number_of bytes)

abbrev pub said_arguments : List ℕ → List ℕ → List Argument
said_arguments [] bytes = []
said_arguments (tag ∷ tags) bytes = said_argument tag bytes ∷ said_arguments tags (drop (argument_size tag bytes) bytes)

-- by the tags in front
abbrev pub said_contents : List ℕ → List Argument
said_contents bytes = said_arguments (tags_of bytes) (drop (string_size bytes) bytes)

abbrev pub said_message : List ℕ → OscMessage
said_message bytes = record { address = text_of bytes; arguments = said_contents (drop (string_size bytes) bytes) }

abbrev pub said_messages : ℕ → List ℕ → List OscMessage
said_messages skip [] = []
said_messages (suc skip) (byte ∷ bytes) = said_messages skip bytes
said_messages zero (byte ∷ bytes) =
    said_message (take (nat_abs (number_of (byte ∷ bytes))) (drop 4 (byte ∷ bytes)))
    ∷ said_messages (3 + nat_abs (number_of (byte ∷ bytes))) bytes

abbrev pub AreFreeArguments : List ℕ → List ℕ → Type 0
AreFreeArguments tags bytes = (first : ℕ) × ((from : ℕ) × (arguments_fault first from tags bytes ≡ None))

abbrev pub IsFreeMessage : List ℕ → Type 0
IsFreeMessage bytes = (from : ℕ) × (message_fault from bytes ≡ None)

abbrev pub AreFreeElements : List ℕ → Type 0
AreFreeElements bytes = (offset : ℕ) × (elements_fault offset 0 bytes ≡ None)
