-- What is answered for a token with which no text goes on.
--     depth_from       how many brackets are open after tokens
--     wrong_token      the fault of a token, inside so many brackets
use Rattle.std.specs.Prelude.{ℕ, suc, nat_le, if◌then◌else◌, List, [], ◌∷◌}
use Rattle.tdl_mini_tree.specs.Limits.{max_depth}
use Rattle.tdl_mini_tree.specs.declared.faults.MiniKind.TheVariants.{Unexpected, Random, TooDeep}
use Rattle.tdl_line_machine.specs.declared.faults.LineKind.{LineKind}
use Rattle.tdl_line_machine.specs.declared.faults.LineKind.TheVariants.{Mini, UnknownName}
use Rattle.tdl_line_machine.specs.declared.names.Name.{Name}
use Rattle.tdl_line_machine.specs.declared.names.Name.TheVariants as names
use Rattle.tdl_line_machine.specs.declared.marks.Mark.{Mark}
use Rattle.tdl_line_machine.specs.declared.marks.Mark.TheVariants as mark
use Rattle.tdl_line_machine.specs.Tokens.{Tok}
use Rattle.tdl_line_machine.specs.Tokens as token

-- how many brackets are open after these tokens
abbrev pub opened : Tok → ℕ → ℕ
opened (token.mark mark.OpenRound) depth = suc depth
opened (token.mark mark.OpenSquare) depth = suc depth
opened (token.mark mark.CloseRound) (suc depth) = depth
opened (token.mark mark.CloseSquare) (suc depth) = depth
opened t depth = depth

abbrev pub depth_from : ℕ → List Tok → ℕ
depth_from depth [] = depth
depth_from depth (t ∷ others) = depth_from (opened t depth) others

abbrev pub deep_or : ℕ → LineKind
deep_or depth = if nat_le max_depth depth then Mini TooDeep else Mini Unexpected

abbrev pub wrong_name : Name → LineKind
wrong_name names.Random = Mini Random
wrong_name names.Unknown = UnknownName
wrong_name _ = Mini Unexpected

abbrev pub wrong_mark : ℕ → Mark → LineKind
wrong_mark depth mark.OpenRound = deep_or depth
wrong_mark depth mark.OpenSquare = deep_or depth
wrong_mark depth m = Mini Unexpected

-- the fault of a token with which no text goes on, inside so many brackets
abbrev pub wrong_token : ℕ → Tok → LineKind
wrong_token depth (token.number n) = Mini Unexpected
wrong_token depth (token.name n) = wrong_name n
wrong_token depth (token.quoted readings) = Mini Unexpected
wrong_token depth (token.mark m) = wrong_mark depth m
wrong_token depth token.end = Mini Unexpected
