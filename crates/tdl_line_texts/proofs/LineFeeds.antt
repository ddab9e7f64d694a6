-- A text that is read has no line feed.
--     whole_line      a line or a pattern that is read has none
use Rattle.std.specs.Prelude.{slice_range}
use Rattle.std.specs.List.{AllZip, AllByRecursion}
use Rattle.std.proofs.Common.{◌≡◌, ℕ, true, List, [], ◌∷◌, subst}
use Rattle.tdl_lexer.specs.declared.signs.Sign.{Sign}
use Rattle.tdl_lexer.specs.declared.signs.Sign.TheVariants as sign
use Rattle.tdl_lexer.specs.declared.signs.Token.{Token}
use Rattle.tdl_lexer.proofs.LineFeeds.{IsQuotedLine, within, mini_line, line_cut}
use Rattle.tdl_mini_tree.specs.declared.leaves.Kind.{Kind}
use Rattle.tdl_command.specs.Tree.{Whole}
use Rattle.tdl_mini_tree.specs.Reading.{Reading, read, unread}
use Rattle.tdl_line_machine.specs.declared.goals.Goal.{Goal}
use Rattle.tdl_line_machine.specs.Tokens.{Tok}
use Rattle.tdl_line_grammar.specs.Spelling.{spell}
use Rattle.tdl_line_texts.specs.Texts.{IsSigned, IsTok, IsWhole, is_one_line}
use Rattle.tdl_mini_grammar.specs.Readings.{IsReading}
use Rattle.tdl_line_texts.proofs.KeptTexts.{kept_whole}
use Rattle.tdl_line_grammar.proofs.ReadPieces.{WasRead, IsReadTok, read_whole, read_toks}

reading_line : (kind : Kind) (bytes : List ℕ) (reading : Reading) → IsReading kind bytes reading → WasRead reading → is_one_line bytes ≡ true
reading_line kind bytes (read k ls) is was = mini_line bytes is.1.tokens is.1.tokenized.cut
reading_line kind bytes (unread fault at) is was = absurd was

signed_line : (s : Sign) (bytes : List ℕ) (t : Tok) → IsSigned s bytes t → IsReadTok t → s ≡ sign.Quoted → is_one_line (within bytes) ≡ true
signed_line sign.Number bytes t is was e = cc
signed_line sign.Word bytes t is was e = cc
signed_line sign.Quoted bytes t is was e =
    let one = subst IsReadTok is.1 was in
    reading_line one.0 (within bytes) (is.0 one.0) (is.2 one.0) one.1
signed_line sign.Mark bytes t is was e = cc
signed_line sign.End bytes t is was e = cc

quoted_lines : (text : List ℕ) (tokens : List Token) (toks : List Tok) → AllZip (IsTok text) tokens toks → AllByRecursion IsReadTok toks
    → AllByRecursion (IsQuotedLine text) tokens
quoted_lines text [] [] are was = tt
quoted_lines text [] (t ∷ toks) are was = absurd are
quoted_lines text (t ∷ tokens) [] are was = absurd are
quoted_lines text (t ∷ tokens) (u ∷ toks) are was =
    (signed_line t.sign (slice_range text t.at t.end) u are.0 was.0, quoted_lines text tokens toks are.1 was.1)

pub whole_line : (goal : Goal) (text : List ℕ) (w : Whole) → IsWhole goal text w → is_one_line text ≡ true
whole_line goal text w h =
    let r = h.written in
    let was = read_toks (spell w) r.toks (read_whole w (kept_whole goal text w h)) r.is.reads.spelled in
    line_cut text r.tokens r.tokenized.cut (quoted_lines text r.tokens r.toks r.tokenized.are was)
