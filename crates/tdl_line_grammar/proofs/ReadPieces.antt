-- Each text in the pieces of a tree was read, where the rules on them hold.
--     WasRead         a text is no fault
--     IsReadTok       a quoted text was read in some kind
--     read_whole      each text in the pieces of a line or a pattern was read
--     read_toks       so each quoted text was at which one of them stands
use Rattle.std.specs.List.{AllZip, AllByRecursion}
use Rattle.std.proofs.Common.{Bool, true, false, List, [], ◌∷◌, ◌++◌, sym, subst}
use Rattle.std.proofs.lemmas.Bool.{false≢true}
use Rattle.tdl_mini_tree.specs.declared.leaves.Kind.{Kind}
use Rattle.tdl_mini_tree.specs.declared.leaves.Kind.TheVariants.{Bool as Truths, Ratio as Ratios}
use Rattle.tdl_mini_tree.specs.declared.faults.MiniKind.TheVariants.{BadEuclid}
use Rattle.tdl_command.specs.declared.tree.Plain.{Plain}
use Rattle.tdl_command.specs.declared.tree.Plain.TheVariants.{Bare, Signed, Quotient}
use Rattle.tdl_command.specs.Rules.{kind_of, has_rhythms, has_rhythms_from}
use Rattle.tdl_command.specs.Tree as tree
use Rattle.tdl_mini_tree.specs.Reading.{Reading, read, unread}
use Rattle.tdl_line_machine.specs.declared.faults.LineKind.TheVariants.{Mini}
use Rattle.tdl_line_machine.specs.declared.marks.Mark.{Mark}
use Rattle.tdl_line_machine.specs.declared.marks.Mark.TheVariants as mark
use Rattle.tdl_line_machine.specs.Pieces.{Terminal, fixed, text, Piece, spells, obeys}
use Rattle.tdl_line_grammar.specs.Spelling.{IsTokenOf, sign, minus, rule, text_pieces, plain_pieces, ratio_pieces}
use Rattle.tdl_line_grammar.specs.Spelling.{count_with, count_pieces, last_count, setting_pieces, comma_after, comma_after_parts, expr_pieces}
use Rattle.tdl_line_grammar.specs.Spelling.{exprs_pieces, parts_pieces, fun_pieces, line_pieces, pieces, spell, terminals}
use Rattle.tdl_line_machine.specs.Tokens.{Tok, end}
use Rattle.tdl_line_machine.specs.Tokens as token
use Rattle.tdl_line_grammar.specs.inside.Kept.{AllKept}
use Rattle.tdl_line_grammar.proofs.ValidTexts.{left, right}

abbrev pub WasRead : Reading → Type 0
WasRead (read k ls) = Unit {0}
WasRead (unread fault at) = ⊥

abbrev pub IsReadTok : Tok → Type 0
IsReadTok (token.quoted readings) = (kind : Kind) × WasRead (readings kind)
IsReadTok _ = Unit {0}

abbrev IsReadHere : Terminal → Type 0
IsReadHere (fixed t) = IsReadTok t
IsReadHere (text kind reading) = WasRead reading

abbrev pub AllRead : List Piece → Type 0
AllRead [] = Unit {0}
AllRead (spells x ∷ ps) = IsReadHere x × AllRead ps
AllRead (obeys r ∷ ps) = AllRead ps

-- the rules on these pieces see to it
abbrev IsGuarded : List Piece → Type 0
IsGuarded ps = AllKept ps → AllRead ps

-- ---- pieces one after another
read-append : (a b : List Piece) → AllRead a → AllRead b → AllRead (a ++ b)
read-append [] b h k = k
read-append (spells x ∷ a) b h k = (h.0, read-append a b h.1 k)
read-append (obeys r ∷ a) b h k = read-append a b h k

joined : (a b : List Piece) → IsGuarded a → AllKept (a ++ b) → IsGuarded b → AllRead (a ++ b)
joined a b f h g = read-append a b (f (left a b h)) (g (right a b h))

closed : (a : List Piece) (m : Mark) → IsGuarded a → IsGuarded (a ++ sign m ∷ [])
closed a m f h = joined a (sign m ∷ []) f h (λ k. (tt, tt))

-- ---- numbers and texts
minus_read : (negative : Bool) → IsGuarded (minus negative)
minus_read true h = (tt, tt)
minus_read false h = tt

text_read : (kind : Kind) (reading : Reading) → IsGuarded (text_pieces kind reading)
text_read kind (read k ls) h = (tt, tt)
text_read kind (unread fault at) h = absurd (false≢true h.0)

plain_read : (p : Plain) → IsGuarded (plain_pieces p)
plain_read (Bare n) h = (tt, tt)
plain_read (Signed negative n) h = (tt, joined (minus negative) _ (minus_read negative) h.1 (λ k. (tt, (tt, tt))))
plain_read (Quotient negative a b) h = (tt, joined (minus negative) _ (minus_read negative) h.1 (λ k. (tt, (tt, (tt, (tt, tt))))))

ratio_read : (r : tree.Ratio) → IsGuarded (ratio_pieces r)
ratio_read (tree.plain p) h = plain_read p h
ratio_read (tree.measured reading) h = text_read Ratios reading h

count_read : (rules : List Piece) (c : tree.Count) → IsGuarded rules → IsGuarded (count_with rules c)
count_read rules (tree.whole n) f h = joined rules _ f h.1 (λ k. (tt, tt))
count_read rules (tree.counted (read k ls)) f h = joined rules _ f h (λ k. (tt, tt))
count_read rules (tree.counted (unread fault at)) f h = absurd (false≢true h.0)

plain_count : (c : tree.Count) → IsGuarded (count_pieces c)
plain_count c h = count_read [] c (λ k. tt) h

last_read : (rhythms : Bool) (c : tree.Count) → IsGuarded (last_count rhythms c)
last_read rhythms c h = count_read (rule (Mini BadEuclid) rhythms ∷ []) c (λ k. tt) h

setting_read : (kind : Kind) (s : tree.Setting) → IsGuarded (setting_pieces kind s)
setting_read kind (tree.quoted reading) h = text_read kind reading h
setting_read kind (tree.numeral n) h = (tt, tt)
setting_read kind (tree.negative n) h = (tt, (tt, (tt, (tt, tt))))

comma_read : (es : tree.Exprs) → IsGuarded (comma_after es)
comma_read tree.no_expr h = tt
comma_read (tree.further es e) h = (tt, tt)

part_comma_read : (ps : tree.Parts) → IsGuarded (comma_after_parts ps)
part_comma_read tree.no_part h = tt
part_comma_read (tree.part ps n e) h = (tt, tt)

-- ---- expressions and functions
mutual
  expr_read : (e : tree.Expr) → IsGuarded (expr_pieces e)
  expr_read tree.silence h = (tt, tt)
  expr_read (tree.control key s) h = (tt, setting_read (kind_of key) s h.1)
  expr_read (tree.inside e) h = (tt, closed (expr_pieces e) mark.CloseRound (expr_read e) h.1)
  expr_read (tree.shifted r way e) h = joined (ratio_pieces r) _ (ratio_read r) h (λ k. (tt, expr_read e k.1))
  expr_read (tree.list shape es) h = (tt, (tt, closed (exprs_pieces es) mark.CloseSquare (exprs_read es) h.1.1))
  expr_read (tree.timecat ps) h = (tt, (tt, closed (parts_pieces ps) mark.CloseSquare (parts_read ps) h.1.1))
  expr_read (tree.called f e) h = joined (fun_pieces f) (expr_pieces e) (fun_read f) h (expr_read e)
  expr_read (tree.joined a operator b) h = joined (expr_pieces a) _ (expr_read a) h (λ k. (tt, expr_read b k.1))
  expr_read (tree.applied f e) h = joined (fun_pieces f) _ (fun_read f) h (λ k. (tt, expr_read e k.1))

  exprs_read : (es : tree.Exprs) → IsGuarded (exprs_pieces es)
  exprs_read tree.no_expr h = tt
  exprs_read (tree.further es e) h =
      joined (exprs_pieces es) _ (exprs_read es) h (λ k. joined (comma_after es) _ (comma_read es) k (expr_read e))

  parts_read : (ps : tree.Parts) → IsGuarded (parts_pieces ps)
  parts_read tree.no_part h = tt
  parts_read (tree.part ps n e) h =
      joined (parts_pieces ps) _ (parts_read ps) h
      (λ k. joined (comma_after_parts ps) _ (part_comma_read ps) k
      (λ l. (tt, (tt, (tt, closed (expr_pieces e) mark.CloseRound (expr_read e) l.1.1.1.1)))))

  fun_read : (f : tree.Fun) → IsGuarded (fun_pieces f)
  fun_read (tree.bare f) h = (tt, tt)
  fun_read (tree.of_ratio f r) h = (tt, ratio_read r h.1)
  fun_read (tree.every n f) h = (tt, joined (count_pieces n) _ (plain_count n) h.1 (fun_read f))
  fun_read (tree.cycle g n o f) h =
      (tt, joined (count_pieces n) _ (plain_count n) h.1 (λ k. joined (count_pieces o) _ (plain_count o) k (fun_read f)))
  fun_read (tree.off r f) h = (tt, joined (ratio_pieces r) _ (ratio_read r) h.1 (fun_read f))
  fun_read (tree.layer g f) h = (tt, fun_read f h.1)
  fun_read (tree.of_count f n) h = (tt, plain_count n h.1)
  fun_read (tree.of_bools f reading) h = (tt, text_read Truths reading h.1)
  fun_read (tree.within from to f) h = (
    tt,
    (
      tt,
      joined (plain_pieces from) _ (plain_read from) h.1.1
          (λ k. (tt, joined (plain_pieces to) _ (plain_read to) k.1 (λ l. (tt, fun_read f l.1)))),
    ),
  )
  fun_read (tree.euclid k n) h = (tt, joined (count_pieces k) _ (plain_count k) h.1 (last_read (has_rhythms k n) n))
  fun_read (tree.euclid_off k n r) h = (
    tt,
    joined (count_pieces k) _ (plain_count k) h.1
        (λ l. joined (count_pieces n) _ (plain_count n) l (last_read (has_rhythms_from k n r) r)),
  )
  fun_read (tree.const e) h = (tt, expr_read e h.1)
  fun_read (tree.paren f) h = (tt, closed (fun_pieces f) mark.CloseRound (fun_read f) h.1)
  fun_read (tree.section operator e) h = (tt, (tt, closed (expr_pieces e) mark.CloseRound (expr_read e) h.1.1))
  fun_read (tree.shift r way) h = (tt, joined (ratio_pieces r) _ (ratio_read r) h.1 (λ k. (tt, (tt, tt))))
  fun_read (tree.chain next f) h = joined (fun_pieces next) _ (fun_read next) h (λ k. (tt, fun_read f k.1))

-- ---- lines
line_read : (l : tree.Line) → IsGuarded (line_pieces l)
line_read tree.nothing h = tt
line_read (tree.order o) h = (tt, tt)
line_read (tree.flag f n) h = (tt, (tt, tt))
line_read (tree.play o e) h = (tt, (tt, expr_read e h.1.1.1))
line_read (tree.still o) h = (tt, (tt, tt))
line_read (tree.jump n every e) h = (tt, (tt, (tt, (tt, expr_read e h.1.1.1.1.1.1))))

pieces_read : (w : tree.Whole) → IsGuarded (pieces w)
pieces_read (tree.line l) h = line_read l h
pieces_read (tree.pattern e) h = expr_read e h

pub read_whole : (w : tree.Whole) → AllKept (spell w) → AllRead (spell w)
read_whole w h = joined (pieces w) (spells (fixed end) ∷ []) (pieces_read w) h (λ k. (tt, tt))

-- ---- tokens
stands_read : (x : Terminal) (t : Tok) → IsReadHere x → IsTokenOf x t → IsReadTok t
stands_read (fixed other) t h is = subst IsReadTok (sym is) h
stands_read (text kind reading) t h is = subst IsReadTok (sym is.1) (kind, subst WasRead (sym is.2) h)

pub read_toks : (ps : List Piece) (toks : List Tok) → AllRead ps → AllZip IsTokenOf (terminals ps) toks → AllByRecursion IsReadTok toks
read_toks [] [] h is = tt
read_toks [] (t ∷ toks) h is = absurd is
read_toks (spells x ∷ ps) [] h is = absurd is
read_toks (spells x ∷ ps) (t ∷ toks) h is = (stands_read x t h.0 is.0, read_toks ps toks h.1 is.1)
read_toks (obeys r ∷ ps) toks h is = read_toks ps toks h is
