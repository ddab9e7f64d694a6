-- Tokens with which no text goes on.
--     depth_from      how many brackets are open after tokens
--     wrong_token     the fault of a token with which no text goes on, inside so many brackets
use Rattle.std.specs.Prelude.{ℕ, suc, nat_le, if◌then◌else◌, List, [], ◌∷◌}
use Rattle.tdl_mini_tree.specs.Limits.{max_depth}
use Rattle.tdl_mini_tree.specs.declared.faults.MiniKind.{MiniKind}
use Rattle.tdl_mini_tree.specs.declared.faults.MiniKind.TheVariants.{Unexpected, Random, Variable, TooDeep}
use Rattle.tdl_mini_machine.specs.declared.marks.Mark.{Mark}
use Rattle.tdl_mini_machine.specs.declared.marks.Mark.TheVariants as mark
use Rattle.tdl_mini_machine.specs.Tokens.{Tok, digits, letters, end}
use Rattle.tdl_mini_machine.specs.Tokens as token

-- how many brackets are open after these tokens
abbrev pub opened : Tok → ℕ → ℕ
opened (token.mark (mark.Open shape)) depth = suc depth
opened (token.mark mark.OpenRound) depth = suc depth
opened (token.mark (mark.Close shape)) (suc depth) = depth
opened (token.mark mark.CloseRound) (suc depth) = depth
opened t depth = depth

abbrev pub depth_from : ℕ → List Tok → ℕ
depth_from depth [] = depth
depth_from depth (t ∷ rest) = depth_from (opened t depth) rest

abbrev pub deep_or : ℕ → MiniKind
deep_or depth = if nat_le max_depth depth then TooDeep else Unexpected

-- the fault of a token with which no text goes on, inside so many brackets
abbrev pub wrong_mark : ℕ → Mark → MiniKind
wrong_mark depth mark.Question = Random
wrong_mark depth mark.Bar = Random
wrong_mark depth mark.Caret = Variable
wrong_mark depth (mark.Open shape) = deep_or depth
wrong_mark depth mark.OpenRound = deep_or depth
wrong_mark depth m = Unexpected

abbrev pub wrong_token : ℕ → Tok → MiniKind
wrong_token depth (digits n text is_count) = Unexpected
wrong_token depth (letters text is_count) = Unexpected
wrong_token depth (token.mark m) = wrong_mark depth m
wrong_token depth end = Unexpected
