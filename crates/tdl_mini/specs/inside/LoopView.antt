-- The faults of tokens, and where they stand in their text.
--     IsTokenFault     the text is refused for this at the token of that number
--     IsWithin         a fault's index is below a bound
--     IsAtToken        a fault at the first byte of the token of that number
--     with_kind        a fault of the bytes as one of the text
use Rattle.std.specs.Prelude.{◌≡◌, ℕ, ◌<◌, List, length}
use Rattle.std.specs.List.{HoldsAt}
use Rattle.tdl_control.specs.declared.faults.Faulted.{Faulted}
use Rattle.tdl_control.specs.declared.faults.Faulted.TheVariants.{NoMemory, At}
use Rattle.tdl_lexer.specs.declared.signs.Token.{Token}
use Rattle.tdl_lexer.specs.declared.signs.LexKind.{LexKind}
use Rattle.tdl_mini_tree.specs.declared.faults.MiniKind.{MiniKind}
use Rattle.tdl_mini_tree.specs.declared.leaves.Kind.{Kind}
use Rattle.tdl_mini_grammar.specs.Texts.{Refuses, lexer_kind}

-- out of memory says nothing
abbrev pub IsTokenFault : Kind → List ℕ → List Token → Faulted MiniKind → Type 0
IsTokenFault kind text tokens NoMemory = Unit {0}
IsTokenFault kind text tokens (At fault at) = (at < length tokens) × HoldsAt (λ (t : Token). Refuses kind text (At fault t.at)) tokens at

abbrev pub IsWithin : ℕ → Faulted MiniKind → Type 0
IsWithin bound NoMemory = Unit {0}
IsWithin bound (At fault at) = at < bound

abbrev pub IsAtToken : List Token → Faulted MiniKind → Faulted MiniKind → Type 0
IsAtToken tokens NoMemory result = result ≡ NoMemory
IsAtToken tokens (At fault at) result = HoldsAt (λ (t : Token). result ≡ At fault t.at) tokens at

abbrev pub with_kind : Faulted LexKind → Faulted MiniKind
with_kind NoMemory = NoMemory
with_kind (At fault at) = At (lexer_kind fault) at
