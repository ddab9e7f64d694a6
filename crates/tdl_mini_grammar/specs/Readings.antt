-- What a text is read as in a kind.
--     IsReading        the text is this in the kind
use Rattle.std.specs.Prelude.{◌≡◌, ℕ, List}
use Rattle.tdl_control.specs.declared.faults.Faulted.TheVariants.{At}
use Rattle.tdl_mini_tree.specs.declared.leaves.Kind.{Kind}
use Rattle.tdl_mini_tree.specs.Reading.{Reading, read, unread}
use Rattle.tdl_mini_grammar.specs.Texts.{IsMini, Refuses}

abbrev pub IsReading : Kind → List ℕ → Reading → Type 0
IsReading kind bytes (read k ls) = (k ≡ kind) × IsMini kind bytes ls
IsReading kind bytes (unread fault at) = Refuses kind bytes (At fault at)
