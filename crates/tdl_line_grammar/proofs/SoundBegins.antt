-- What the machine spells where something begins, and in round brackets with a number.
--     wanted_goes            something begins at a spot
--     opening_goes           directly after a `(`
--     number_closed_goes     a bracket with a number is closed
use Rattle.std.specs.Prelude.{if◌then◌else◌, IsTrue}
use Rattle.std.proofs.Common.{◌≡◌, ℕ, Bool, true, false, List, [], ◌∷◌, ◌++◌, refl, ap}
use Rattle.tdl_mini_tree.specs.declared.leaves.Kind.{Kind}
use Rattle.tdl_mini_tree.specs.declared.leaves.Kind.TheVariants.{Ratio as Ratios}
use Rattle.tdl_mini_tree.specs.declared.leaves.Number.{Number}
use Rattle.tdl_line_machine.specs.declared.names.Name.{Name}
use Rattle.tdl_line_machine.specs.declared.names.Name.TheVariants as name
use Rattle.tdl_line_machine.specs.declared.marks.Mark.{Mark}
use Rattle.tdl_line_machine.specs.declared.marks.Mark.TheVariants as mark
use Rattle.tdl_command.specs.declared.marks.Operator.{Operator}
use Rattle.tdl_command.specs.declared.tree.Plain.{Plain}
use Rattle.tdl_command.specs.declared.tree.Plain.TheVariants.{Bare, Signed, Quotient}
use Rattle.tdl_line_machine.specs.Tokens.{Tok, number, quoted}
use Rattle.tdl_line_machine.specs.Tokens as token
use Rattle.tdl_command.specs.Tree as tree
use Rattle.tdl_mini_tree.specs.Reading.{Reading, read, unread}
use Rattle.tdl_line_machine.specs.Pieces.{Terminal, text, reading_rules}
use Rattle.tdl_line_grammar.specs.Spelling.{text_pieces, plain_pieces, terminals, minus}
use Rattle.tdl_line_machine.specs.declared.goals.Goal.{Goal}
use Rattle.tdl_line_machine.specs.Pieces.{tests_from}
use Rattle.tdl_line_machine.specs.Machine.States.{Spot, first, at_operand, after_dot, anything, expr_or_number, fun_or_number, Hole, round, measure, bound}
use Rattle.tdl_line_machine.specs.Machine.States.{Frame}
use Rattle.tdl_line_machine.specs.Machine.Lines.{at_mark}
use Rattle.tdl_line_machine.specs.Machine.Expressions.{round_at}
use Rattle.tdl_line_machine.specs.Machine.Calls.{with_ratio}
use Rattle.tdl_line_machine.specs.Machine.Open.{closed, has_exprs, has_numbers, has_funs}
use Rattle.tdl_line_machine.specs.Machine.States.{Pending, applies, Step, refused}
use Rattle.tdl_line_machine.specs.Machine.Arguments.{number_hole}
use Rattle.tdl_line_machine.specs.Machine.Expressions.{may_begin_operand, taken_name, wanted_mark, wanted, section_hole, opening_mark, at_opening}
use Rattle.tdl_line_machine.specs.Machine.Lines.{closing_mark}
use Rattle.tdl_line_machine.specs.Machine.Arguments.{number_closed, above_mark, opened_mark, fraction_mark, at_fraction, at_minus, at_slash}
use Rattle.tdl_line_grammar.proofs.Kept.{Kept, core, outer}
use Rattle.tdl_line_grammar.proofs.SoundKeeps.{keeps_if, untested}
use Rattle.tdl_line_grammar.proofs.SoundText.{marked, worded, numbered, number_terminals, bound_terminals, ratio_call_terminal, then_spot, then_hole}
use Rattle.tdl_line_grammar.proofs.SoundText.{frames_read}
use Rattle.tdl_line_grammar.proofs.SoundText.{around, has_dollars, FitLevel, FitBegin, FitSpot, FitRound, FitHole, FitFrames, IsBracketed, Grows, Went, Goes}
use Rattle.tdl_line_grammar.proofs.SoundText.{grows_by, grows_in, grows_behind, grows_to, closes_in, goes_from, bare, before_round, at_mark_goes}
use Rattle.tdl_line_grammar.proofs.SoundSteps.{made_goes, called_goes, operand_goes, with_ratio_spelled, with_ratio_fits}

-- ---- texts
pub text_is : (kind : Kind) (r : Reading) → terminals (text_pieces kind r) ≡ text kind r ∷ []
text_is kind (read k ls) = refl
text_is kind (unread fault at) = refl

pub text_grows : {readings : Kind → Reading} (base : List Terminal) (kind : Kind)
    → Grows (quoted readings) base (base ++ terminals (text_pieces kind (readings kind)))
text_grows {readings} base kind =
    grows_to (ap (λ ts. base ++ ts) (text_is kind (readings kind))) (grows_by (text kind (readings kind)) (readings, refl, refl))

-- ---- something begins
pub begin_level : (frames : List Frame) (level : List Pending) → FitBegin frames level → FitLevel frames level
begin_level frames [] h = tt
begin_level frames (applies f ∷ level) h = h.1
begin_level frames (p ∷ level) h = absurd h.1

pub nil_level_fits : (frames : List Frame) (level : List Pending) → level ≡ [] → FitLevel frames level
nil_level_fits frames level e = rw e tt

pub nil_begins : (frames : List Frame) (level : List Pending) → level ≡ [] → IsTrue (has_dollars frames) → FitBegin frames level
nil_begins frames level e h = rw e (h, tt)

-- an operand, where it may begin
operand_if : (goal : Goal) (t : Tok) (k : Kept) (n : ℕ) (spot : Spot) (r : Step) → FitSpot k.frames k.level spot
    → (FitLevel k.frames k.level → Goes goal t (around k) r)
    → Goes goal t (then_spot (around k) spot) (if may_begin_operand (core k n) spot then r else refused (core k n) t)
operand_if goal t k n first r fits h =
    keeps_if (Went goal t (around k)) (has_exprs k.frames) _ _ (λ may. h (begin_level k.frames k.level fits)) (λ no. tt)
operand_if goal t k n at_operand r fits h = keeps_if (Went goal t (around k)) (has_exprs k.frames) _ _ (λ may. h fits) (λ no. tt)
operand_if goal t k n (after_dot g) r fits h = tt

name_goes : (goal : Goal) (k : Kept) (n : ℕ) (spot : Spot) (m : Name) → FitFrames goal k.front k.frames → FitSpot k.frames k.level spot
    → Goes goal (token.name m) (then_spot (around k) spot) (taken_name (core k n) (token.name m) spot m)
name_goes goal k n spot name.Silence frames fits =
    operand_if goal (token.name name.Silence) k n spot _ fits
    (λ level. operand_goes goal (token.name name.Silence) _ k n tree.silence frames level refl tt (grows_by (worded name.Silence) refl))
name_goes goal k n spot (name.Key key) frames fits =
    operand_if goal (token.name (name.Key key)) k n spot _ fits (λ level. record { grows = grows_by (worded (name.Key key)) refl; fit = (frames, level) })
name_goes goal k n spot (name.List shape) frames fits =
    operand_if goal (token.name (name.List shape)) k n spot _ fits
    (λ level. record { grows = grows_by (worded (name.List shape)) refl; fit = (frames, level) })
name_goes goal k n spot name.Timecat frames fits =
    operand_if goal (token.name name.Timecat) k n spot _ fits (λ level. record { grows = grows_by (worded name.Timecat) refl; fit = (frames, level) })
name_goes goal k n spot (name.Bare f) frames fits =
    made_goes goal (token.name (name.Bare f)) _ k n spot (tree.bare f) frames fits refl tt (grows_by (worded (name.Bare f)) refl)
name_goes goal k n spot (name.OfRatio f) frames fits = record { grows = grows_by (worded (name.OfRatio f)) refl; fit = (frames, fits) }
name_goes goal k n spot name.Off frames fits = record { grows = grows_by (worded name.Off) refl; fit = (frames, fits) }
name_goes goal k n spot (name.OfCount f) frames fits = record { grows = grows_by (worded (name.OfCount f)) refl; fit = (frames, fits) }
name_goes goal k n spot name.Every frames fits = record { grows = grows_by (worded name.Every) refl; fit = (frames, fits) }
name_goes goal k n spot (name.Cycle g) frames fits = record { grows = grows_by (worded (name.Cycle g)) refl; fit = (frames, fits) }
name_goes goal k n spot name.Euclid frames fits = record { grows = grows_by (worded name.Euclid) refl; fit = (frames, fits) }
name_goes goal k n spot name.EuclidOff frames fits = record { grows = grows_by (worded name.EuclidOff) refl; fit = (frames, fits) }
name_goes goal k n spot (name.OfBools f) frames fits = record { grows = grows_by (worded (name.OfBools f)) refl; fit = (frames, fits) }
name_goes goal k n spot (name.Layer g) frames fits = record { grows = grows_by (worded (name.Layer g)) refl; fit = (frames, fits) }
name_goes goal k n spot name.Within frames fits = record { grows = grows_by (worded name.Within) refl; fit = (frames, fits) }
name_goes goal k n spot name.Const frames fits = record { grows = grows_by (worded name.Const) refl; fit = ((fits, frames), tt) }
name_goes goal k n spot m frames fits = tt

-- a round bracket that opens at a spot
round_spelled : (base : List Terminal) (k : Kept) (n : ℕ) (spot : Spot) → before_round base (round_at (core k n) spot) ≡ then_spot base spot
round_spelled base k n first = go (has_exprs k.frames)
  where
    go : (b : Bool) → before_round base (if b then anything else fun_or_number) ≡ base
    go true = refl
    go false = refl
round_spelled base k n at_operand = refl
round_spelled base k n (after_dot g) = refl

round_fits : (k : Kept) (n : ℕ) (spot : Spot) → FitSpot k.frames k.level spot → FitRound k.frames k.level (round_at (core k n) spot)
round_fits k n first fits = go (has_exprs k.frames)
  where
    go : (b : Bool) → FitRound k.frames k.level (if b then anything else fun_or_number)
    go true = fits
    go false = fits
round_fits k n at_operand fits = fits
round_fits k n (after_dot g) fits = fits

wanted_mark_goes : (goal : Goal) (k : Kept) (n : ℕ) (spot : Spot) (m : Mark) → FitFrames goal k.front k.frames → FitSpot k.frames k.level spot
    → Goes goal (token.mark m) (then_spot (around k) spot) (wanted_mark false (core k n) (token.mark m) spot m)
wanted_mark_goes goal k n spot mark.OpenRound frames fits =
    record {
      grows = grows_to (ap (λ ts. ts ++ marked mark.OpenRound ∷ []) (round_spelled (around k) k n spot)) (grows_by (marked mark.OpenRound) refl);
      fit = ((round_fits k n spot fits, frames), (refl, refl));
    }
wanted_mark_goes goal k n spot m frames fits = tt

pub wanted_goes : (goal : Goal) (t : Tok) (k : Kept) (n : ℕ) (spot : Spot) → FitFrames goal k.front k.frames → FitSpot k.frames k.level spot
    → Goes goal t (then_spot (around k) spot) (wanted false (core k n) t spot)
wanted_goes goal (number m) k n first frames fits = record { grows = grows_by (numbered m) refl; fit = (frames, begin_level k.frames k.level fits) }
wanted_goes goal (number m) k n at_operand frames fits = record { grows = grows_by (numbered m) refl; fit = (frames, fits) }
wanted_goes goal (number m) k n (after_dot g) frames fits = tt
wanted_goes goal (token.name m) k n spot frames fits = name_goes goal k n spot m frames fits
wanted_goes goal (quoted readings) k n first frames fits =
    untested (Went goal (quoted readings) (around k)) (tests_from n (reading_rules (readings Ratios))) _
    (record { grows = text_grows (around k) Ratios; fit = (frames, begin_level k.frames k.level fits) })
wanted_goes goal (quoted readings) k n at_operand frames fits =
    untested (Went goal (quoted readings) (around k)) (tests_from n (reading_rules (readings Ratios))) _
    (record { grows = text_grows (around k) Ratios; fit = (frames, fits) })
wanted_goes goal (quoted readings) k n (after_dot g) frames fits = tt
wanted_goes goal (token.mark m) k n spot frames fits = wanted_mark_goes goal k n spot m frames fits
wanted_goes goal token.end k n spot frames fits = tt

-- ---- directly after a `(`
section_goes : (goal : Goal) (k : Kept) (n : ℕ) (hole : Hole) (depth : ℕ) (operator : Operator) → FitFrames goal k.front k.frames
    → FitHole k.frames k.level hole
    → Goes goal (token.mark (mark.Operator operator)) (then_hole (around k) hole)
    (section_hole (token.mark (mark.Operator operator)) depth operator (core k n) hole)
section_goes goal k n (round r) depth operator frames fits =
    record { grows = grows_by (marked (mark.Operator operator)) refl; fit = ((fits, frames), tt) }
section_goes goal k n hole depth operator frames fits = tt

opening_mark_goes : (goal : Goal) (k : Kept) (n : ℕ) (m : Mark) → FitFrames goal k.front k.frames → k.level ≡ [] → IsTrue (has_dollars k.frames)
    → Goes goal (token.mark m) (around k) (opening_mark false (core k n) (token.mark m) m)
opening_mark_goes goal k n mark.Minus frames e dollars =
    keeps_if (Went goal (token.mark mark.Minus) (around k)) (has_numbers k.frames) _ _
    (λ may. record { grows = grows_by (marked mark.Minus) refl; fit = (frames, e) })
    (λ no. tt)
opening_mark_goes goal k n (mark.Operator operator) frames e dollars =
    keeps_if (Went goal (token.mark (mark.Operator operator)) (around k)) (has_funs k.frames) _ _
    (λ may. goes_from goal (token.mark (mark.Operator operator)) _ (bare k e) (go k.frames frames))
    (λ no. tt)
  where
    go : (all : List Frame) → FitFrames goal k.front all → Goes goal (token.mark (mark.Operator operator)) (frames_read k.front all)
        (closed all (core k n) (token.mark (mark.Operator operator)) (section_hole (token.mark (mark.Operator operator)) k.depth operator))
    go [] fits = tt
    go (a ∷ all) fits = section_goes goal (outer k a all) n a.hole k.depth operator fits.1 fits.0
opening_mark_goes goal k n m frames e dollars = wanted_goes goal (token.mark m) k n first frames (nil_begins k.frames k.level e dollars)

pub opening_goes : (goal : Goal) (t : Tok) (k : Kept) (n : ℕ) → FitFrames goal k.front k.frames → k.level ≡ [] → IsTrue (has_dollars k.frames)
    → Goes goal t (around k) (at_opening false (core k n) t)
opening_goes goal (number m) k n frames e dollars = record { grows = grows_by (numbered m) refl; fit = (frames, e) }
opening_goes goal (token.name m) k n frames e dollars = wanted_goes goal (token.name m) k n first frames (nil_begins k.frames k.level e dollars)
opening_goes goal (quoted readings) k n frames e dollars = wanted_goes goal (quoted readings) k n first frames (nil_begins k.frames k.level e dollars)
opening_goes goal (token.mark m) k n frames e dollars = opening_mark_goes goal k n m frames e dollars
opening_goes goal token.end k n frames e dollars = tt

-- ---- numbers in round brackets
plain_is : (p : Plain) → IsBracketed p → terminals (plain_pieces p) ≡ marked mark.OpenRound ∷ (number_terminals p ++ marked mark.CloseRound ∷ [])
plain_is (Bare n) h = absurd h
plain_is (Signed true n) h = refl
plain_is (Signed false n) h = refl
plain_is (Quotient true a b) h = refl
plain_is (Quotient false a b) h = refl

number_hole_goes : (goal : Goal) (k : Kept) (n : ℕ) (hole : Hole) (p : Plain) → FitFrames goal k.front k.frames → FitHole k.frames k.level hole → IsBracketed p
    → Goes goal (token.mark mark.CloseRound) (then_hole (around k) hole ++ number_terminals p) (number_hole (token.mark mark.CloseRound) p (core k n) hole)
number_hole_goes goal k n (round anything) p frames fits is =
    record {
      grows = closes_in (around k) [] (number_terminals p) (terminals (plain_pieces p)) (plain_is p is);
      fit = (frames, begin_level k.frames k.level fits);
    }
number_hole_goes goal k n (round expr_or_number) p frames fits is =
    record { grows = closes_in (around k) [] (number_terminals p) (terminals (plain_pieces p)) (plain_is p is); fit = (frames, fits) }
number_hole_goes goal k n (round fun_or_number) p frames fits is =
    record {
      grows = closes_in (around k) [] (number_terminals p) (terminals (plain_pieces p)) (plain_is p is);
      fit = (frames, begin_level k.frames k.level fits);
    }
number_hole_goes goal k n (measure spot call) p frames fits is =
    called_goes goal (token.mark mark.CloseRound) _ k n spot (with_ratio call (tree.plain p)) frames fits (with_ratio_fits call (tree.plain p))
    (grows_to (ap (λ ts. then_spot (around k) spot ++ ts) (with_ratio_spelled call (tree.plain p)))
    (closes_in (then_spot (around k) spot) (ratio_call_terminal call ∷ []) (number_terminals p) (terminals (plain_pieces p)) (plain_is p is)))
number_hole_goes goal k n (bound from) p frames fits is =
    record { grows = closes_in (around k) (bound_terminals from) (number_terminals p) (terminals (plain_pieces p)) (plain_is p is); fit = (frames, fits) }
number_hole_goes goal k n hole p frames fits is = tt

pub number_closed_goes : (goal : Goal) (k : Kept) (n : ℕ) (p : Plain) → FitFrames goal k.front k.frames → k.level ≡ [] → IsBracketed p
    → Goes goal (token.mark mark.CloseRound) (around k ++ number_terminals p) (number_closed (core k n) (token.mark mark.CloseRound) p)
number_closed_goes goal k n p frames e is = goes_from goal (token.mark mark.CloseRound) _ (ap (λ ts. ts ++ number_terminals p) (bare k e)) (go k.frames frames)
  where
    go : (all : List Frame) → FitFrames goal k.front all → Goes goal (token.mark mark.CloseRound) (frames_read k.front all ++ number_terminals p)
        (closed all (core k n) (token.mark mark.CloseRound) (number_hole (token.mark mark.CloseRound) p))
    go [] fits = tt
    go (a ∷ all) fits = number_hole_goes goal (outer k a all) n a.hole p fits.1 fits.0 is

above_goes : (goal : Goal) (k : Kept) (n : ℕ) (negative : Bool) (m : Number) (at : ℕ) (x : Mark) → FitFrames goal k.front k.frames → k.level ≡ []
    → Goes goal (token.mark x) (around k ++ (terminals (minus negative) ++ numbered m ∷ [])) (above_mark false (core k n) (token.mark x) negative m at x)
above_goes goal k n negative m at mark.CloseRound frames e = number_closed_goes goal k n (Signed negative m) frames e tt
above_goes goal k n negative m at mark.Slash frames e =
    record { grows = grows_behind (around k) (terminals (minus negative)) (numbered m ∷ []) (marked mark.Slash) refl; fit = (frames, e) }
above_goes goal k n negative m at x frames e = tt

opened_mark_goes : (goal : Goal) (k : Kept) (n : ℕ) (m : Number) (at : ℕ) (x : Mark) → FitFrames goal k.front k.frames → k.level ≡ []
    → Goes goal (token.mark x) (around k ++ numbered m ∷ []) (opened_mark false (core k n) (token.mark x) m at x)
opened_mark_goes goal k n m at (mark.Shift way) frames e =
    record {
      grows = grows_in (around k) (numbered m ∷ []) (marked (mark.Shift way)) refl;
      fit = (frames, nil_level_fits k.frames k.level e);
    }
opened_mark_goes goal k n m at x frames e =
    keeps_if (Went goal (token.mark x) (around k ++ numbered m ∷ [])) (has_numbers k.frames) _ _
    (λ may. above_goes goal k n false m at x frames e)
    (λ no. tt)

pub opened_goes : (goal : Goal) (t : Tok) (k : Kept) (n : ℕ) (m : Number) (at : ℕ) → FitFrames goal k.front k.frames → k.level ≡ []
    → Goes goal t (around k ++ numbered m ∷ []) (at_mark (core k n) t (opened_mark false (core k n) t m at))
opened_goes goal t k n m at frames e =
    at_mark_goes goal (around k ++ numbered m ∷ []) (core k n) t (λ u. opened_mark false (core k n) u m at) (λ x. opened_mark_goes goal k n m at x frames e)

pub above_number_goes : (goal : Goal) (t : Tok) (k : Kept) (n : ℕ) (negative : Bool) (m : Number) (at : ℕ) → FitFrames goal k.front k.frames → k.level ≡ []
    → Goes goal t (around k ++ (terminals (minus negative) ++ numbered m ∷ [])) (at_mark (core k n) t (above_mark false (core k n) t negative m at))
above_number_goes goal t k n negative m at frames e =
    at_mark_goes goal (around k ++ (terminals (minus negative) ++ numbered m ∷ [])) (core k n) t (λ u. above_mark false (core k n) u negative m at)
    (λ x. above_goes goal k n negative m at x frames e)

fraction_mark_goes : (goal : Goal) (k : Kept) (n : ℕ) (x : Mark) → FitFrames goal k.front k.frames → k.level ≡ []
    → Goes goal (token.mark x) (around k) (fraction_mark (core k n) (token.mark x) x)
fraction_mark_goes goal k n mark.Minus frames e = record { grows = grows_by (marked mark.Minus) refl; fit = (frames, e) }
fraction_mark_goes goal k n x frames e = tt

pub fraction_goes : (goal : Goal) (t : Tok) (k : Kept) (n : ℕ) → FitFrames goal k.front k.frames → k.level ≡ []
    → Goes goal t (around k) (at_fraction false (core k n) t)
fraction_goes goal (number m) k n frames e = record { grows = grows_by (numbered m) refl; fit = (frames, e) }
fraction_goes goal (token.mark x) k n frames e = fraction_mark_goes goal k n x frames e
fraction_goes goal t k n frames e = tt

pub minus_goes : (goal : Goal) (t : Tok) (k : Kept) (n : ℕ) → FitFrames goal k.front k.frames → k.level ≡ []
    → Goes goal t (around k ++ marked mark.Minus ∷ []) (at_minus false (core k n) t)
minus_goes goal (number m) k n frames e = record { grows = grows_in (around k) (marked mark.Minus ∷ []) (numbered m) refl; fit = (frames, e) }
minus_goes goal t k n frames e = tt

pub slash_goes : (goal : Goal) (t : Tok) (k : Kept) (n : ℕ) (negative : Bool) (a : Number) → FitFrames goal k.front k.frames → k.level ≡ []
    → Goes goal t (around k ++ (terminals (minus negative) ++ numbered a ∷ marked mark.Slash ∷ [])) (at_slash false (core k n) t negative a)
slash_goes goal (number b) k n negative a frames e =
    record { grows = grows_behind (around k) (terminals (minus negative)) (numbered a ∷ marked mark.Slash ∷ []) (numbered b) refl; fit = (frames, (e, tt)) }
slash_goes goal t k n negative a frames e = tt

closing_mark_goes : (goal : Goal) (k : Kept) (n : ℕ) (p : Plain) (x : Mark) → FitFrames goal k.front k.frames → k.level ≡ [] → IsBracketed p
    → Goes goal (token.mark x) (around k ++ number_terminals p) (closing_mark (core k n) (token.mark x) p x)
closing_mark_goes goal k n p mark.CloseRound frames e is = number_closed_goes goal k n p frames e is
closing_mark_goes goal k n p x frames e is = tt

pub closing_goes : (goal : Goal) (t : Tok) (k : Kept) (n : ℕ) (p : Plain) → FitFrames goal k.front k.frames → k.level ≡ [] → IsBracketed p
    → Goes goal t (around k ++ number_terminals p) (at_mark (core k n) t (closing_mark (core k n) t p))
closing_goes goal t k n p frames e is =
    at_mark_goes goal (around k ++ number_terminals p) (core k n) t (λ u. closing_mark (core k n) u p) (λ x. closing_mark_goes goal k n p x frames e is)
