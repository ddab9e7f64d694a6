-- Steps of a machine, each of which goes on with a state or stops.
--     Stop             why a machine stops: a test that does not hold, or a token with which nothing goes on
--     Taken            the state after a token, or why it stops there
--     and_then         one step after another
--     all_checked      goes on where tests hold, or where nothing is tested
--     run              the state after several tokens
use Rattle.std.specs.Prelude.{Bool, not, ◌&&◌, if◌then◌else◌, Result, Ok, Err, List, [], ◌∷◌}
use Rattle.tdl_grammar.specs.Grammar.{Test}

pub data Stop (Kind Place : Type 0) : Type 0 where
  failed : Test Kind Place → Stop Kind Place
  wrong : Kind → (at : Place) → Stop Kind Place

abbrev pub Taken : Type 0 → Type 0 → Type 0 → Type 0
Taken State Kind Place = Result State (Stop Kind Place)

abbrev pub and_then : {State Kind Place : Type 0} → Taken State Kind Place → (State → Taken State Kind Place) → Taken State Kind Place
and_then (Ok state) next = next state
and_then (Err stop) next = Err stop

abbrev pub stop_kind : {Kind Place : Type 0} → Stop Kind Place → Kind
stop_kind (failed test) = test.kind
stop_kind (wrong kind at) = kind

abbrev pub stop_at : {Kind Place : Type 0} → Stop Kind Place → Place
stop_at (failed test) = test.at
stop_at (wrong kind at) = at

abbrev pub checked : {State Kind Place : Type 0} → Bool → Test Kind Place → Taken State Kind Place → Taken State Kind Place
checked tested test next = if tested && not test.holds then Err (failed test) else next

abbrev pub all_checked : {State Kind Place : Type 0} → Bool → List (Test Kind Place) → Taken State Kind Place → Taken State Kind Place
all_checked tested [] next = next
all_checked tested (test ∷ tests) next = checked tested test (all_checked tested tests next)

abbrev pub run : {State Token Kind Place : Type 0} → (State → Token → Taken State Kind Place) → State → List Token → Taken State Kind Place
run take s [] = Ok s
run take s (t ∷ others) = and_then (take s t) (λ next. run take next others)
