-- What the machine spells after expressions, functions and ratios.
--     expr_goes              after an operand, with those before it
--     fun_goes, named_goes   after a function
--     shifted_goes           after a shift
use Rattle.std.specs.Prelude.{IsTrue}
use Rattle.std.proofs.Common.{◌≡◌, ℕ, false, List, [], ◌∷◌, ◌++◌, refl, ap, sym, ◌∙◌, append_assoc}
use Rattle.tdl_mini_tree.specs.declared.leaves.Number.{Number}
use Rattle.tdl_line_machine.specs.declared.names.Name.TheVariants as name
use Rattle.tdl_command.specs.declared.names.Shape.{Shape}
use Rattle.tdl_line_machine.specs.declared.marks.Mark.{Mark}
use Rattle.tdl_line_machine.specs.declared.marks.Mark.TheVariants as mark
use Rattle.tdl_command.specs.declared.marks.Operator.{Operator}
use Rattle.tdl_command.specs.declared.marks.Way.{Way}
use Rattle.tdl_line_machine.specs.Tokens.{Tok, number, quoted, end}
use Rattle.tdl_line_machine.specs.Tokens as token
use Rattle.tdl_command.specs.Tree as tree
use Rattle.tdl_command.specs.Tree.{Ratio, Expr, Exprs, further, Parts, part, Fun}
use Rattle.tdl_line_machine.specs.Pieces.{Terminal, fixed, spells}
use Rattle.tdl_line_grammar.specs.Spelling.{sign, comma_after, comma_after_parts, expr_pieces, exprs_pieces, parts_pieces, fun_pieces}
use Rattle.tdl_line_grammar.specs.Spelling.{ratio_pieces, terminals, spell}
use Rattle.tdl_line_machine.specs.declared.goals.Goal.{Goal}
use Rattle.tdl_line_machine.specs.declared.goals.Goal.TheVariants.{Line as a_line, Pattern as a_pattern}
use Rattle.tdl_line_grammar.specs.Grammar.{is_joined, is_named, Formed, FormedFun, FormedWhole}
use Rattle.tdl_line_machine.specs.Machine.States.{at_operand, Pending, calls, shifts, anything, expr_or_number, Hole, round, section, list, timecat}
use Rattle.tdl_line_machine.specs.Machine.States.{weighed, Frame}
use Rattle.tdl_line_machine.specs.Machine.Expressions.{applied, next_hole, list_hole, part_hole, expr_hole}
use Rattle.tdl_line_machine.specs.Machine.Calls.{may_close_fun}
use Rattle.tdl_line_machine.specs.Machine.Open.{closed, has_exprs}
use Rattle.tdl_line_machine.specs.Machine.States.{Front, alone, plays, jumps}
use Rattle.tdl_line_machine.specs.Machine.Functions.{chained_mark, after_fun, pending_before, named_mark, after_named}
use Rattle.tdl_line_machine.specs.Machine.Expressions.{whole_of, at_end, expressed_mark, after_expr}
use Rattle.tdl_line_machine.specs.Machine.Lines.{at_mark}
use Rattle.tdl_line_machine.specs.Machine.Functions.{shifted_mark, after_shift, measured_mark}
use Rattle.tdl_line_grammar.proofs.Running.{terminals-append}
use Rattle.tdl_line_grammar.proofs.Kept.{Kept, core, pending, outer}
use Rattle.tdl_line_grammar.proofs.SoundKeeps.{keeps_if}
use Rattle.tdl_line_grammar.proofs.SoundText.{marked, worded, numbered, front_terminals, then_hole, before_round, frames_read, around, takes_dollar}
use Rattle.tdl_line_grammar.proofs.SoundText.{has_operators}
use Rattle.tdl_line_grammar.proofs.SoundText.{FitApplied, FitLevel, FitBegin, FitHole, FitFront, FitFrames, Grows, Went, Goes, grows_in, goes_from, bare}
use Rattle.tdl_line_grammar.proofs.SoundText.{at_mark_goes}
use Rattle.tdl_line_grammar.proofs.SoundSteps.{in_round_goes, fun_closes, operand_goes, applied_spelled, applied_formed, applied_joined}
use Rattle.tdl_line_grammar.proofs.SoundBegins.{begin_level, wanted_goes}

-- ---- brackets that close after an expression
-- what stands in a round bracket is spelled before it and behind it
inside_is : (base : List Terminal) (e : Expr) →
    Grows (token.mark mark.CloseRound) ((base ++ marked mark.OpenRound ∷ []) ++ terminals (expr_pieces e)) (base ++ terminals (expr_pieces (tree.inside e)))
inside_is base e = record { next = marked mark.CloseRound; reads = simp (terminals-append, append_assoc); stands = refl }

section_is : (base : List Terminal) (operator : Operator) (e : Expr) →
    Grows (token.mark mark.CloseRound) (((base ++ marked mark.OpenRound ∷ []) ++ marked (mark.Operator operator) ∷ []) ++ terminals (expr_pieces e))
    (base ++ terminals (fun_pieces (tree.section operator e)))
section_is base operator e = record { next = marked mark.CloseRound; reads = simp (terminals-append, append_assoc); stands = refl }

part_is : (base : List Terminal) (ps : Parts) (n : Number) (e : Expr) →
    Grows (token.mark mark.CloseRound)
    (((base ++ worded name.Timecat ∷ marked mark.OpenSquare ∷ (terminals (parts_pieces ps) ++ terminals (comma_after_parts ps)))
    ++ marked mark.OpenRound ∷ numbered n ∷ marked mark.Comma ∷ []) ++ terminals (expr_pieces e))
    (base ++ worded name.Timecat ∷ marked mark.OpenSquare ∷ terminals (parts_pieces (part ps n e)))
part_is base ps n e = record { next = marked mark.CloseRound; reads = simp (terminals-append, append_assoc); stands = refl }

part_hole_goes : (goal : Goal) (k : Kept) (n : ℕ) (hole : Hole) (depth : ℕ) (weight : Number) (e : Expr) → FitFrames goal k.front k.frames
    → FitHole k.frames k.level hole → Formed e
    → Goes goal (token.mark mark.CloseRound)
    ((then_hole (around k) hole ++ marked mark.OpenRound ∷ numbered weight ∷ marked mark.Comma ∷ []) ++ terminals (expr_pieces e))
    (part_hole (token.mark mark.CloseRound) depth weight e (core k n) hole)
part_hole_goes goal k n (timecat ps) depth weight e frames fits formed =
    record { grows = part_is (around k) ps weight e; fit = ((((fits.0, formed), fits.1), frames), (refl, tt)) }
part_hole_goes goal k n hole depth weight e frames fits formed = tt

-- the bracket of a part is closed, in its list
weighed_goes : (goal : Goal) (k : Kept) (n : ℕ) (weight : Number) (e : Expr) → FitFrames goal k.front k.frames → k.level ≡ [] → Formed e
    → Goes goal (token.mark mark.CloseRound) ((around k ++ marked mark.OpenRound ∷ numbered weight ∷ marked mark.Comma ∷ []) ++ terminals (expr_pieces e))
    (closed k.frames (core k n) (token.mark mark.CloseRound) (part_hole (token.mark mark.CloseRound) k.depth weight e))
weighed_goes goal k n weight e frames nil formed =
    goes_from goal (token.mark mark.CloseRound) _
    (ap (λ ts. (ts ++ marked mark.OpenRound ∷ numbered weight ∷ marked mark.Comma ∷ []) ++ terminals (expr_pieces e)) (bare k nil)) (go k.frames frames)
  where
    go : (all : List Frame) → FitFrames goal k.front all
        → Goes goal (token.mark mark.CloseRound)
        ((frames_read k.front all ++ marked mark.OpenRound ∷ numbered weight ∷ marked mark.Comma ∷ []) ++ terminals (expr_pieces e))
        (closed all (core k n) (token.mark mark.CloseRound) (part_hole (token.mark mark.CloseRound) k.depth weight e))
    go [] fits = tt
    go (a ∷ all) fits = part_hole_goes goal (outer k a all) n a.hole k.depth weight e fits.1 fits.0 formed

expr_hole_goes : (goal : Goal) (k : Kept) (n : ℕ) (hole : Hole) (e : Expr) → FitFrames goal k.front k.frames → FitHole k.frames k.level hole → Formed e
    → (takes_dollar hole ≡ false → IsTrue (is_joined e))
    → Goes goal (token.mark mark.CloseRound) (then_hole (around k) hole ++ terminals (expr_pieces e))
    (expr_hole (token.mark mark.CloseRound) e (core k n) hole)
expr_hole_goes goal k n (round anything) e frames fits formed is =
    operand_goes goal (token.mark mark.CloseRound) _ k n (tree.inside e) frames (begin_level k.frames k.level fits) refl formed (inside_is (around k) e)
expr_hole_goes goal k n (round expr_or_number) e frames fits formed is =
    operand_goes goal (token.mark mark.CloseRound) _ k n (tree.inside e) frames fits refl formed (inside_is (around k) e)
expr_hole_goes goal k n (section r operator) e frames fits formed is =
    in_round_goes goal (token.mark mark.CloseRound) _ k n r (tree.section operator e) frames fits refl (is refl, formed)
    (section_is (before_round (around k) r) operator e)
expr_hole_goes goal k n (weighed weight) e frames fits formed is = weighed_goes goal k n weight e frames fits formed
expr_hole_goes goal k n hole e frames fits formed is = tt

-- ---- lists
further_is : (base : List Terminal) (shape : Shape) (es : Exprs) (e : Expr) (x : Terminal) →
    base ++ worded (name.List shape) ∷ marked mark.OpenSquare ∷ (terminals (exprs_pieces (further es e)) ++ x ∷ [])
    ≡ ((base ++ worded (name.List shape) ∷ marked mark.OpenSquare ∷ (terminals (exprs_pieces es) ++ terminals (comma_after es)))
    ++ terminals (expr_pieces e)) ++ x ∷ []
further_is base shape es e x = simp (terminals-append, append_assoc)

next_hole_goes : (goal : Goal) (k : Kept) (n : ℕ) (hole : Hole) (depth : ℕ) (e : Expr) → FitFrames goal k.front k.frames → FitHole k.frames k.level hole
    → Formed e
    → Goes goal (token.mark mark.Comma) (then_hole (around k) hole ++ terminals (expr_pieces e)) (next_hole (token.mark mark.Comma) depth e (core k n) hole)
next_hole_goes goal k n (list shape es) depth e frames fits formed =
    record {
      grows = record { next = marked mark.Comma; reads = further_is (around k) shape es e (marked mark.Comma); stands = refl };
      fit = ((((fits.0, formed), fits.1), frames), (refl, tt));
    }
next_hole_goes goal k n hole depth e frames fits formed = tt

list_is : (base : List Terminal) (shape : Shape) (es : Exprs) (e : Expr) →
    base ++ terminals (expr_pieces (tree.list shape (further es e)))
    ≡ base ++ worded (name.List shape) ∷ marked mark.OpenSquare ∷ (terminals (exprs_pieces (further es e)) ++ marked mark.CloseSquare ∷ [])
list_is base shape es e = simp terminals-append

list_hole_goes : (goal : Goal) (k : Kept) (n : ℕ) (hole : Hole) (e : Expr) → FitFrames goal k.front k.frames → FitHole k.frames k.level hole → Formed e
    → Goes goal (token.mark mark.CloseSquare) (then_hole (around k) hole ++ terminals (expr_pieces e))
    (list_hole (token.mark mark.CloseSquare) e (core k n) hole)
list_hole_goes goal k n (list shape es) e frames fits formed =
    operand_goes goal (token.mark mark.CloseSquare) _ k n (tree.list shape (further es e)) frames fits.1 refl (fits.0, formed)
    (record {
      next = marked mark.CloseSquare;
      reads = list_is (around k) shape es e ∙ further_is (around k) shape es e (marked mark.CloseSquare);
      stands = refl;
    })
list_hole_goes goal k n hole e frames fits formed = tt

-- ---- after an expression
-- an expression with the functions that are pending before it, in what is open
module _ (goal : Goal) (k : Kept) (n : ℕ) (e : Expr) (dollars : FitApplied k.frames k.level) (is : IsTrue (is_joined e)) (formed : Formed e) where
  round_closed_goes : (all : List Frame) → FitFrames goal k.front all → FitApplied all k.level
      → Goes goal (token.mark mark.CloseRound) (frames_read k.front all ++ terminals (expr_pieces (applied k.level e)))
      (closed all (core k n) (token.mark mark.CloseRound) (expr_hole (token.mark mark.CloseRound) (applied k.level e)))
  round_closed_goes [] fits applies_fit = tt
  round_closed_goes (a ∷ all) fits applies_fit =
      expr_hole_goes goal (outer k a all) n a.hole (applied k.level e) fits.1 fits.0 (applied_formed (a ∷ all) k.level e applies_fit formed)
      (λ no. applied_joined (a ∷ all) k.level e no applies_fit is)

  square_closed_goes : (all : List Frame) → FitFrames goal k.front all
      → Goes goal (token.mark mark.CloseSquare) (frames_read k.front all ++ terminals (expr_pieces (applied k.level e)))
      (closed all (core k n) (token.mark mark.CloseSquare) (list_hole (token.mark mark.CloseSquare) (applied k.level e)))
  square_closed_goes [] fits = tt
  square_closed_goes (a ∷ all) fits =
      list_hole_goes goal (outer k a all) n a.hole (applied k.level e) fits.1 fits.0 (applied_formed k.frames k.level e dollars formed)

  comma_goes : (all : List Frame) → FitFrames goal k.front all
      → Goes goal (token.mark mark.Comma) (frames_read k.front all ++ terminals (expr_pieces (applied k.level e)))
      (closed all (core k n) (token.mark mark.Comma) (next_hole (token.mark mark.Comma) k.depth (applied k.level e)))
  comma_goes [] fits = tt
  comma_goes (a ∷ all) fits =
      next_hole_goes goal (outer k a all) n a.hole k.depth (applied k.level e) fits.1 fits.0 (applied_formed k.frames k.level e dollars formed)

expressed_mark_goes : (goal : Goal) (k : Kept) (n : ℕ) (e : Expr) (m : Mark) → FitFrames goal k.front k.frames → IsTrue (has_operators k.frames)
    → IsTrue (is_joined e) → Formed e → FitApplied k.frames k.level
    → Goes goal (token.mark m) (around k ++ terminals (expr_pieces e)) (expressed_mark (core k n) (token.mark m) e m)
expressed_mark_goes goal k n e (mark.Operator operator) frames operators is formed dollars =
    record {
      grows = grows_in (around k) (terminals (expr_pieces e)) (marked (mark.Operator operator)) refl;
      fit = (frames, (operators, is, formed, dollars));
    }
expressed_mark_goes goal k n e mark.CloseRound frames operators is formed dollars =
    goes_from goal (token.mark mark.CloseRound) _ (sym (applied_spelled (frames_read k.front k.frames) k.frames k.level e dollars))
    (round_closed_goes goal k n e dollars is formed k.frames frames dollars)
expressed_mark_goes goal k n e mark.CloseSquare frames operators is formed dollars =
    goes_from goal (token.mark mark.CloseSquare) _ (sym (applied_spelled (frames_read k.front k.frames) k.frames k.level e dollars))
    (square_closed_goes goal k n e dollars is formed k.frames frames)
expressed_mark_goes goal k n e mark.Comma frames operators is formed dollars =
    goes_from goal (token.mark mark.Comma) _ (sym (applied_spelled (frames_read k.front k.frames) k.frames k.level e dollars))
    (comma_goes goal k n e dollars is formed k.frames frames)
expressed_mark_goes goal k n e m frames operators is formed dollars = tt

-- ---- the end
whole_is : (front : Front) (e : Expr) → terminals (spell (whole_of front e)) ≡ (front_terminals front ++ terminals (expr_pieces e)) ++ fixed end ∷ []
whole_is alone e = terminals-append (expr_pieces e) (spells (fixed end) ∷ [])
whole_is (plays o) e = simp (terminals-append, append_assoc)
whole_is (jumps n every) e = simp (terminals-append, append_assoc)

whole_formed : (goal : Goal) (front : Front) (e : Expr) → FitFront goal front → Formed e → FormedWhole goal (whole_of front e)
whole_formed a_line alone e fits formed = absurd fits
whole_formed a_line (plays o) e fits formed = formed
whole_formed a_line (jumps n every) e fits formed = formed
whole_formed a_pattern alone e fits formed = formed
whole_formed a_pattern (plays o) e fits formed = absurd fits
whole_formed a_pattern (jumps n every) e fits formed = absurd fits

end_goes : (goal : Goal) (k : Kept) (n : ℕ) (frames : List Frame) (e : Expr) → FitFrames goal k.front frames → Formed e
    → Goes goal end (frames_read k.front frames ++ terminals (expr_pieces e)) (at_end (core k n) end frames e)
end_goes goal k n [] e fits formed =
    record { grows = record { next = fixed end; reads = whole_is k.front e; stands = refl }; fit = whole_formed goal k.front e fits formed }
end_goes goal k n (f ∷ frames) e fits formed = tt

pub expr_goes : (goal : Goal) (t : Tok) (k : Kept) (n : ℕ) (e : Expr) → FitFrames goal k.front k.frames → IsTrue (has_operators k.frames)
    → IsTrue (is_joined e) → Formed e → FitApplied k.frames k.level
    → Goes goal t (around k ++ terminals (expr_pieces e)) (after_expr (core k n) t e)
expr_goes goal (number m) k n e frames operators is formed dollars = tt
expr_goes goal (token.name m) k n e frames operators is formed dollars = tt
expr_goes goal (quoted readings) k n e frames operators is formed dollars = tt
expr_goes goal (token.mark m) k n e frames operators is formed dollars = expressed_mark_goes goal k n e m frames operators is formed dollars
expr_goes goal end k n e frames operators is formed dollars =
    goes_from goal end _ (sym (applied_spelled (frames_read k.front k.frames) k.frames k.level e dollars))
    (end_goes goal k n k.frames (applied k.level e) frames (applied_formed k.frames k.level e dollars formed))

-- ---- after a function
paren_is : (f : Fun) → terminals (fun_pieces (tree.paren f)) ≡ marked mark.OpenRound ∷ (terminals (fun_pieces f) ++ marked mark.CloseRound ∷ [])
paren_is f = ap (λ ts. marked mark.OpenRound ∷ ts) (terminals-append (fun_pieces f) (sign mark.CloseRound ∷ []))

chained_mark_goes : (goal : Goal) (k : Kept) (n : ℕ) (f : Fun) (m : Mark) → FitFrames goal k.front k.frames → FormedFun f → FitBegin k.frames k.level
    → Goes goal (token.mark m) (around k ++ terminals (fun_pieces f)) (chained_mark (core k n) (token.mark m) f m)
chained_mark_goes goal k n f mark.Dot frames formed fits =
    record { grows = grows_in (around k) (terminals (fun_pieces f)) (marked mark.Dot) refl; fit = (frames, (formed, fits)) }
chained_mark_goes goal k n f mark.Dollar frames formed fits =
    keeps_if (Went goal (token.mark mark.Dollar) (around k ++ terminals (fun_pieces f))) (has_exprs k.frames) _ _
    (λ may. record {
      grows = grows_in (around k) (terminals (fun_pieces f)) (marked mark.Dollar) refl;
      fit = (frames, (fits.0, (fits.0, formed, fits.1)));
    })
    (λ no. tt)
chained_mark_goes goal k n f mark.CloseRound frames formed fits =
    keeps_if (Went goal (token.mark mark.CloseRound) (around k ++ terminals (fun_pieces f))) (may_close_fun (core k n)) _ _
    (λ may. fun_closes goal k n (tree.paren f) (terminals (fun_pieces f)) frames refl formed (paren_is f) may)
    (λ no. tt)
chained_mark_goes goal k n f m frames formed fits = tt

pub fun_goes : (goal : Goal) (t : Tok) (k : Kept) (n : ℕ) (f : Fun) → FitFrames goal k.front k.frames → FormedFun f → FitBegin k.frames k.level
    → Goes goal t (around k ++ terminals (fun_pieces f)) (after_fun (core k n) t f)
fun_goes goal (token.mark m) k n f frames formed fits = chained_mark_goes goal k n f m frames formed fits
fun_goes goal t k n f frames formed fits = tt

-- an operand begins after something that is pending
pending_goes : (goal : Goal) (t : Tok) (k : Kept) (n : ℕ) (p : Pending) → FitFrames goal k.front k.frames → FitLevel k.frames (p ∷ k.level)
    → Goes goal t (around (pending k p)) (pending_before false (core k n) t p)
pending_goes goal t k n p frames fits =
    keeps_if (Went goal t (around (pending k p))) (has_exprs k.frames) _ _
    (λ may. wanted_goes goal t (pending k p) n at_operand frames fits)
    (λ no. tt)

named_mark_goes : (goal : Goal) (k : Kept) (n : ℕ) (f : Fun) (m : Mark) → FitFrames goal k.front k.frames → IsTrue (is_named f) → FormedFun f
    → FitBegin k.frames k.level
    → Goes goal (token.mark m) (around k ++ terminals (fun_pieces f)) (named_mark false (core k n) (token.mark m) f m)
named_mark_goes goal k n f mark.Dot frames is formed fits = chained_mark_goes goal k n f mark.Dot frames formed fits
named_mark_goes goal k n f mark.Dollar frames is formed fits = chained_mark_goes goal k n f mark.Dollar frames formed fits
named_mark_goes goal k n f mark.CloseRound frames is formed fits = chained_mark_goes goal k n f mark.CloseRound frames formed fits
named_mark_goes goal k n f m frames is formed fits =
    pending_goes goal (token.mark m) k n (calls f) frames (is, formed, begin_level k.frames k.level fits)

pub named_goes : (goal : Goal) (t : Tok) (k : Kept) (n : ℕ) (f : Fun) → FitFrames goal k.front k.frames → IsTrue (is_named f) → FormedFun f
    → FitBegin k.frames k.level
    → Goes goal t (around k ++ terminals (fun_pieces f)) (after_named false (core k n) t f)
named_goes goal (token.mark m) k n f frames is formed fits = named_mark_goes goal k n f m frames is formed fits
named_goes goal t k n f frames is formed fits = pending_goes goal t k n (calls f) frames (is, formed, begin_level k.frames k.level fits)

-- ---- after a ratio, and after a shift
shift_is : (r : Ratio) (way : Way) → terminals (fun_pieces (tree.shift r way))
    ≡ marked mark.OpenRound ∷ ((terminals (ratio_pieces r) ++ marked (mark.Shift way) ∷ []) ++ marked mark.CloseRound ∷ [])
shift_is r way = simp (terminals-append, append_assoc)

shifted_mark_goes : (goal : Goal) (k : Kept) (n : ℕ) (r : Ratio) (way : Way) (m : Mark) → FitFrames goal k.front k.frames → FitLevel k.frames k.level
    → Goes goal (token.mark m) (around k ++ (terminals (ratio_pieces r) ++ marked (mark.Shift way) ∷ []))
    (shifted_mark false (core k n) (token.mark m) r way m)
shifted_mark_goes goal k n r way mark.CloseRound frames fits =
    keeps_if (Went goal (token.mark mark.CloseRound) (around k ++ (terminals (ratio_pieces r) ++ marked (mark.Shift way) ∷ []))) (may_close_fun (core k n)) _ _
    (λ may. fun_closes goal k n (tree.shift r way) (terminals (ratio_pieces r) ++ marked (mark.Shift way) ∷ []) frames refl tt (shift_is r way) may)
    (λ no. pending_goes goal (token.mark mark.CloseRound) k n (shifts r way) frames fits)
shifted_mark_goes goal k n r way m frames fits = pending_goes goal (token.mark m) k n (shifts r way) frames fits

pub shifted_goes : (goal : Goal) (t : Tok) (k : Kept) (n : ℕ) (r : Ratio) (way : Way) → FitFrames goal k.front k.frames → FitLevel k.frames k.level
    → Goes goal t (around k ++ (terminals (ratio_pieces r) ++ marked (mark.Shift way) ∷ [])) (after_shift false (core k n) t r way)
shifted_goes goal (token.mark m) k n r way frames fits = shifted_mark_goes goal k n r way m frames fits
shifted_goes goal t k n r way frames fits = pending_goes goal t k n (shifts r way) frames fits

measured_mark_goes : (goal : Goal) (k : Kept) (n : ℕ) (r : Ratio) (m : Mark) → FitFrames goal k.front k.frames → FitLevel k.frames k.level
    → Goes goal (token.mark m) (around k ++ terminals (ratio_pieces r)) (measured_mark (core k n) (token.mark m) r m)
measured_mark_goes goal k n r (mark.Shift way) frames fits =
    record { grows = grows_in (around k) (terminals (ratio_pieces r)) (marked (mark.Shift way)) refl; fit = (frames, fits) }
measured_mark_goes goal k n r m frames fits = tt

pub measured_goes : (goal : Goal) (t : Tok) (k : Kept) (n : ℕ) (r : Ratio) → FitFrames goal k.front k.frames → FitLevel k.frames k.level
    → Goes goal t (around k ++ terminals (ratio_pieces r)) (at_mark (core k n) t (measured_mark (core k n) t r))
measured_goes goal t k n r frames fits =
    at_mark_goes goal (around k ++ terminals (ratio_pieces r)) (core k n) t (λ u. measured_mark (core k n) u r)
    (λ m. measured_mark_goes goal k n r m frames fits)
