-- The names of the kinds of faults, as replies print them. A kind of mini-notation has its own name.
use Rattle.std.specs.Prelude.{ℕ, List, codes}
use Rattle.tdl_mini_tree.specs.KindNames.{kind_name}
use Rattle.tdl_line_machine.specs.declared.faults.LineKind.{LineKind}
use Rattle.tdl_line_machine.specs.declared.faults.LineKind.TheVariants.{Mini, Unclosed, UnknownName, LineTooLong, BadOrbit, BadEvery}

abbrev pub line_kind_name : LineKind → List ℕ
line_kind_name (Mini kind) = kind_name kind
line_kind_name Unclosed = codes "Unclosed"
line_kind_name UnknownName = codes "UnknownName"
line_kind_name LineTooLong = codes "LineTooLong"
line_kind_name BadOrbit = codes "BadOrbit"
line_kind_name BadEvery = codes "BadEvery"
