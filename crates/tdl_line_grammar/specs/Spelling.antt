-- The terminals of a syntax tree, a line for each form of the grammar, and between them the rules that the
-- tree has to meet besides, each before the token at which its fault stands.
--     spell           the pieces of a line or a pattern
--     IsTokenOf       a terminal stands at a token
use Rattle.std.specs.Prelude.{◌≡◌, ℕ, Bool, true, false, is_some, Option, List, [], ◌∷◌, ◌++◌}
use Rattle.tdl_mini_tree.specs.declared.faults.MiniKind.TheVariants.{FloatValue, BadFactor, BadEuclid}
use Rattle.tdl_mini_tree.specs.declared.leaves.Kind.{Kind}
use Rattle.tdl_mini_tree.specs.declared.leaves.Kind.TheVariants.{Bool as Truths, Count as Counts, Ratio as Ratios}
use Rattle.tdl_mini_tree.specs.declared.leaves.Number.{Number}
use Rattle.tdl_mini_tree.specs.Numbers.{is_whole, is_ratio, is_weight}
use Rattle.tdl_line_machine.specs.declared.faults.LineKind.{LineKind}
use Rattle.tdl_line_machine.specs.declared.faults.LineKind.TheVariants.{Mini, BadOrbit, BadEvery}
use Rattle.tdl_line_machine.specs.declared.names.Name.{Name}
use Rattle.tdl_line_machine.specs.declared.names.Name.TheVariants as name
use Rattle.tdl_line_machine.specs.declared.marks.Mark.{Mark}
use Rattle.tdl_line_machine.specs.declared.marks.Mark.TheVariants as mark
use Rattle.tdl_command.specs.declared.tree.Plain.{Plain}
use Rattle.tdl_command.specs.declared.tree.Plain.TheVariants.{Bare, Signed, Quotient}
use Rattle.tdl_line_machine.specs.Tokens.{Tok, number, quoted, end}
use Rattle.tdl_command.specs.Rules.{whole_number}
use Rattle.tdl_line_machine.specs.Tokens as token
use Rattle.tdl_command.specs.Rules.{is_below, is_orbit, is_every, kind_of, has_rhythms, has_rhythms_from}
use Rattle.tdl_mini_tree.specs.Reading.{Reading}
use Rattle.tdl_line_machine.specs.Pieces.{Terminal, fixed, text, Piece, spells, obeys, reading_rules}
use Rattle.tdl_command.specs.Tree as tree

abbrev pub IsTokenOf : Terminal → Tok → Type 0
IsTokenOf (fixed other) t = t ≡ other
IsTokenOf (text kind reading) t = (readings : Kind → Reading) × (t ≡ quoted readings) × (readings kind ≡ reading)

abbrev pub sign : Mark → Piece
sign m = spells (fixed (token.mark m))

abbrev pub word : Name → Piece
word n = spells (fixed (token.name n))

abbrev pub numeral : Number → Piece
numeral n = spells (fixed (number n))

-- a rule on the next token
abbrev pub rule : LineKind → Bool → Piece
rule kind holds = obeys (record { kind = kind; offset = 0; more = 0; holds = holds })

abbrev pub minus : Bool → List Piece
minus true = sign mark.Minus ∷ []
minus false = []

abbrev pub text_pieces : Kind → Reading → List Piece
text_pieces kind reading = reading_rules reading ++ spells (text kind reading) ∷ []

abbrev pub number_pieces : Number → List Piece
number_pieces n = rule (Mini BadFactor) (is_ratio n) ∷ numeral n ∷ []

-- the number above a `/` is whole, which shows at the `/`
abbrev pub above_rule : Number → Piece
above_rule n = obeys (record { kind = Mini BadFactor; offset = 0; more = 1; holds = is_whole n })

abbrev pub plain_pieces : Plain → List Piece
plain_pieces (Bare n) = number_pieces n
plain_pieces (Signed negative n) = sign mark.OpenRound ∷ (minus negative ++ (number_pieces n ++ sign mark.CloseRound ∷ []))
plain_pieces (Quotient negative a b) =
    sign mark.OpenRound ∷ (minus negative ++ rule (Mini BadFactor) (is_ratio a) ∷ above_rule a ∷ numeral a ∷ sign mark.Slash
    ∷ rule (Mini BadFactor) (is_below b) ∷ numeral b ∷ sign mark.CloseRound ∷ [])

abbrev pub ratio_pieces : tree.Ratio → List Piece
ratio_pieces (tree.plain p) = plain_pieces p
ratio_pieces (tree.measured reading) = text_pieces Ratios reading

-- a count, with further rules on it
abbrev pub count_with : List Piece → tree.Count → List Piece
count_with rules (tree.whole n) = rule (Mini BadFactor) (is_ratio (whole_number n)) ∷ (rules ++ numeral (whole_number n) ∷ [])
count_with rules (tree.counted reading) = reading_rules reading ++ (rules ++ spells (text Counts reading) ∷ [])

abbrev pub count_pieces : tree.Count → List Piece
count_pieces c = count_with [] c

abbrev pub last_count : Bool → tree.Count → List Piece
last_count rhythms c = count_with (rule (Mini BadEuclid) rhythms ∷ []) c

abbrev pub setting_pieces : Kind → tree.Setting → List Piece
setting_pieces kind (tree.quoted reading) = text_pieces kind reading
setting_pieces kind (tree.numeral n) = rule (Mini FloatValue) (is_whole n) ∷ numeral n ∷ []
setting_pieces kind (tree.negative n) =
    sign mark.OpenRound ∷ sign mark.Minus ∷ rule (Mini FloatValue) (is_whole n) ∷ numeral n ∷ sign mark.CloseRound ∷ []

-- what stands between the expressions, or parts, that there are and the next
abbrev pub comma_after : tree.Exprs → List Piece
comma_after tree.no_expr = []
comma_after (tree.further es e) = sign mark.Comma ∷ []

abbrev pub comma_after_parts : tree.Parts → List Piece
comma_after_parts tree.no_part = []
comma_after_parts (tree.part ps n e) = sign mark.Comma ∷ []

abbrev mutual
  pub expr_pieces : tree.Expr → List Piece
  expr_pieces tree.silence = word name.Silence ∷ []
  expr_pieces (tree.control key setting) = word (name.Key key) ∷ setting_pieces (kind_of key) setting
  expr_pieces (tree.inside e) = sign mark.OpenRound ∷ (expr_pieces e ++ sign mark.CloseRound ∷ [])
  expr_pieces (tree.shifted r way e) = ratio_pieces r ++ sign (mark.Shift way) ∷ expr_pieces e
  expr_pieces (tree.list shape es) = word (name.List shape) ∷ sign mark.OpenSquare ∷ (exprs_pieces es ++ sign mark.CloseSquare ∷ [])
  expr_pieces (tree.timecat ps) = word name.Timecat ∷ sign mark.OpenSquare ∷ (parts_pieces ps ++ sign mark.CloseSquare ∷ [])
  expr_pieces (tree.called f e) = fun_pieces f ++ expr_pieces e
  expr_pieces (tree.joined a operator b) = expr_pieces a ++ sign (mark.Operator operator) ∷ expr_pieces b
  expr_pieces (tree.applied f e) = fun_pieces f ++ sign mark.Dollar ∷ expr_pieces e

  pub exprs_pieces : tree.Exprs → List Piece
  exprs_pieces tree.no_expr = []
  exprs_pieces (tree.further es e) = exprs_pieces es ++ (comma_after es ++ expr_pieces e)

  pub parts_pieces : tree.Parts → List Piece
  parts_pieces tree.no_part = []
  parts_pieces (tree.part ps n e) =
      parts_pieces ps ++ (comma_after_parts ps ++ sign mark.OpenRound ∷ rule (Mini BadFactor) (is_weight n) ∷ numeral n ∷ sign mark.Comma
      ∷ (expr_pieces e ++ sign mark.CloseRound ∷ []))

  pub fun_pieces : tree.Fun → List Piece
  fun_pieces (tree.bare f) = word (name.Bare f) ∷ []
  fun_pieces (tree.of_ratio f r) = word (name.OfRatio f) ∷ ratio_pieces r
  fun_pieces (tree.every n f) = word name.Every ∷ (count_pieces n ++ fun_pieces f)
  fun_pieces (tree.cycle g n o f) = word (name.Cycle g) ∷ (count_pieces n ++ (count_pieces o ++ fun_pieces f))
  fun_pieces (tree.off r f) = word name.Off ∷ (ratio_pieces r ++ fun_pieces f)
  fun_pieces (tree.layer g f) = word (name.Layer g) ∷ fun_pieces f
  fun_pieces (tree.of_count f n) = word (name.OfCount f) ∷ count_pieces n
  fun_pieces (tree.of_bools f reading) = word (name.OfBools f) ∷ text_pieces Truths reading
  fun_pieces (tree.within from to f) =
      word name.Within ∷ sign mark.OpenRound ∷ (plain_pieces from ++ sign mark.Comma ∷ (plain_pieces to ++ sign mark.CloseRound ∷ fun_pieces f))
  fun_pieces (tree.euclid k n) = word name.Euclid ∷ (count_pieces k ++ last_count (has_rhythms k n) n)
  fun_pieces (tree.euclid_off k n r) = word name.EuclidOff ∷ (count_pieces k ++ (count_pieces n ++ last_count (has_rhythms_from k n r) r))
  fun_pieces (tree.const e) = word name.Const ∷ expr_pieces e
  fun_pieces (tree.paren f) = sign mark.OpenRound ∷ (fun_pieces f ++ sign mark.CloseRound ∷ [])
  fun_pieces (tree.section operator e) =
      sign mark.OpenRound ∷ sign (mark.Operator operator) ∷ (expr_pieces e ++ sign mark.CloseRound ∷ [])
  fun_pieces (tree.shift r way) = sign mark.OpenRound ∷ (ratio_pieces r ++ sign (mark.Shift way) ∷ sign mark.CloseRound ∷ [])
  fun_pieces (tree.chain next f) = fun_pieces next ++ sign mark.Dot ∷ fun_pieces f

abbrev pub whole_pieces : (ℕ → Bool) → LineKind → ℕ → List Piece
whole_pieces holds kind n = rule kind (holds n) ∷ numeral (whole_number n) ∷ []

abbrev pub named_orbit : Option ℕ → List Piece
named_orbit o = rule BadOrbit (is_some o) ∷ word (name.Orbit o) ∷ []

abbrev pub line_pieces : tree.Line → List Piece
line_pieces tree.nothing = []
line_pieces (tree.order o) = word (name.Order o) ∷ []
line_pieces (tree.flag f n) = word (name.Flag f) ∷ whole_pieces is_orbit BadOrbit n
line_pieces (tree.play o e) = named_orbit o ++ sign mark.Dollar ∷ expr_pieces e
line_pieces (tree.still o) = named_orbit o ++ word name.Silence ∷ []
line_pieces (tree.jump n every e) =
    word name.JumpMod ∷ (whole_pieces is_orbit BadOrbit n ++ (whole_pieces is_every BadEvery every ++ sign mark.Dollar ∷ expr_pieces e))

abbrev pub pieces : tree.Whole → List Piece
pieces (tree.line l) = line_pieces l
pieces (tree.pattern e) = expr_pieces e

abbrev pub spell : tree.Whole → List Piece
spell w = pieces w ++ spells (fixed end) ∷ []

abbrev pub terminals : List Piece → List Terminal
terminals [] = []
terminals (spells t ∷ others) = t ∷ terminals others
terminals (obeys r ∷ others) = terminals others
