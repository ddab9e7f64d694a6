-- What the machine spells of arguments, and of what keys are set to.
--     ratio_goes, count_goes, bools_goes, argument_goes      an argument of a function
--     bounds_goes, bound_goes, bounded_goes                  the numbers of `within`
--     key_goes, setting_goes, negating_goes, negated_goes    after a key
use Rattle.std.specs.Prelude.{◌&&◌, not}
use Rattle.std.proofs.Common.{◌≡◌, true≢false, ℕ, Bool, true, false, Option, Some, None, List, [], ◌∷◌, ◌++◌, refl, ap, sym, ◌∙◌, append_assoc, append-nil}
use Rattle.tdl_control.specs.declared.keys.Key.{Key}
use Rattle.tdl_control.specs.Key.{takes_word}
use Rattle.tdl_mini_tree.specs.declared.leaves.Kind.TheVariants.{Bool as Truths, Count as Counts, Ratio as Ratios}
use Rattle.tdl_mini_tree.specs.declared.leaves.Number.{Number}
use Rattle.tdl_mini_tree.specs.declared.leaves.Tail.{Tail}
use Rattle.tdl_mini_tree.specs.declared.leaves.Tail.TheVariants as tail
use Rattle.tdl_mini_tree.specs.Numbers.{is_whole, is_whole_tail}
use Rattle.tdl_line_machine.specs.declared.names.Name.{Name}
use Rattle.tdl_line_machine.specs.declared.names.Name.TheVariants as name
use Rattle.tdl_command.specs.declared.names.BoolsFun.{BoolsFun}
use Rattle.tdl_line_machine.specs.declared.marks.Mark.{Mark}
use Rattle.tdl_line_machine.specs.declared.marks.Mark.TheVariants as mark
use Rattle.tdl_command.specs.declared.tree.Plain.{Plain}
use Rattle.tdl_command.specs.declared.tree.Plain.TheVariants.{Bare}
use Rattle.tdl_line_machine.specs.Tokens.{Tok, number, quoted}
use Rattle.tdl_command.specs.Rules.{whole_number}
use Rattle.tdl_line_machine.specs.Tokens as token
use Rattle.tdl_command.specs.Tree as tree
use Rattle.tdl_command.specs.Tree.{Count, whole, counted}
use Rattle.tdl_line_machine.specs.Pieces.{text, reading_rules}
use Rattle.tdl_line_grammar.specs.Spelling.{IsTokenOf, plain_pieces, terminals}
use Rattle.tdl_line_machine.specs.declared.goals.Goal.{Goal}
use Rattle.tdl_line_machine.specs.Pieces.{tests_from}
use Rattle.tdl_command.specs.Rules.{kind_of}
use Rattle.tdl_line_machine.specs.Machine.Calls.{with_ratio, with_count, called}
use Rattle.tdl_line_machine.specs.Machine.Open.{closed}
use Rattle.tdl_line_machine.specs.Machine.States.{Spot, CountCall, FunCall, Hole, bounds, setting, Frame}
use Rattle.tdl_line_machine.specs.Machine.Arguments.{ratio_mark, at_ratio, is_unsigned, at_count, at_bools, argument_name, argument_mark, at_argument}
use Rattle.tdl_line_machine.specs.Machine.Arguments.{bounds_mark}
use Rattle.tdl_line_machine.specs.Machine.Lines.{minus_mark}
use Rattle.tdl_line_machine.specs.Machine.Settings.{setting_mark, at_key, at_negating, setting_hole}
use Rattle.tdl_line_machine.specs.Machine.Arguments.{bounding_mark, at_bound, bounds_hole, bounded_mark}
use Rattle.tdl_line_machine.specs.Machine.Lines.{negated_mark, at_mark}
use Rattle.tdl_line_grammar.proofs.Kept.{Kept, core, outer}
use Rattle.tdl_line_grammar.proofs.SoundKeeps.{keeps_if, untested}
use Rattle.tdl_line_grammar.proofs.SoundText.{marked, worded, numbered, count_terminal, ratio_call_terminal, count_call_terminals, fun_call_terminals}
use Rattle.tdl_line_grammar.proofs.SoundText.{bound_terminals, then_spot, then_hole, frames_read, around, FitLevel, FitSpot, FitHole, FitFrames, Went, Goes}
use Rattle.tdl_line_grammar.proofs.SoundText.{grows_by, grows_in, grows_to, goes_from, bare, at_mark_goes}
use Rattle.tdl_line_grammar.proofs.SoundSteps.{and_left, and_right, made_goes, called_goes, with_count_spelled, with_count_fits, with_ratio_spelled}
use Rattle.tdl_line_grammar.proofs.SoundSteps.{with_ratio_fits, with_fun_goes, operand_goes}
use Rattle.tdl_line_grammar.proofs.SoundBegins.{text_is}
use Rattle.tdl_line_machine.specs.declared.calls.RatioCall.{RatioCall}

-- ---- ratios
ratio_mark_goes : (goal : Goal) (k : Kept) (n : ℕ) (spot : Spot) (call : RatioCall) (m : Mark) → FitFrames goal k.front k.frames
    → FitSpot k.frames k.level spot
    → Goes goal (token.mark m) (then_spot (around k) spot ++ ratio_call_terminal call ∷ []) (ratio_mark false (core k n) (token.mark m) spot call m)
ratio_mark_goes goal k n spot call mark.OpenRound frames fits =
    record {
      grows = grows_in (then_spot (around k) spot) (ratio_call_terminal call ∷ []) (marked mark.OpenRound) refl;
      fit = ((fits, frames), refl);
    }
ratio_mark_goes goal k n spot call m frames fits = tt

pub ratio_goes : (goal : Goal) (t : Tok) (k : Kept) (n : ℕ) (spot : Spot) (call : RatioCall) → FitFrames goal k.front k.frames
    → FitSpot k.frames k.level spot
    → Goes goal t (then_spot (around k) spot ++ ratio_call_terminal call ∷ []) (at_ratio false (core k n) t spot call)
ratio_goes goal (number m) k n spot call frames fits =
    called_goes goal (number m) _ k n spot (with_ratio call (tree.plain (Bare m))) frames fits (with_ratio_fits call (tree.plain (Bare m)))
    (grows_to (ap (λ ts. then_spot (around k) spot ++ ts) (with_ratio_spelled call (tree.plain (Bare m))))
    (grows_in (then_spot (around k) spot) (ratio_call_terminal call ∷ []) (numbered m) refl))
ratio_goes goal (token.name m) k n spot call frames fits = tt
ratio_goes goal (quoted readings) k n spot call frames fits =
    untested (Went goal (quoted readings) (then_spot (around k) spot ++ ratio_call_terminal call ∷ [])) (tests_from n (reading_rules (readings Ratios))) _
    (called_goes goal (quoted readings) _ k n spot (with_ratio call (tree.measured (readings Ratios))) frames fits
    (with_ratio_fits call (tree.measured (readings Ratios)))
    (grows_to (ap (λ ts. then_spot (around k) spot ++ ts)
    (with_ratio_spelled call (tree.measured (readings Ratios)) ∙ ap (λ ts. ratio_call_terminal call ∷ ts) (text_is Ratios (readings Ratios))))
    (grows_in (then_spot (around k) spot) (ratio_call_terminal call ∷ []) (text Ratios (readings Ratios)) (readings, refl, refl))))
ratio_goes goal (token.mark m) k n spot call frames fits = ratio_mark_goes goal k n spot call m frames fits
ratio_goes goal token.end k n spot call frames fits = tt

-- ---- counts
pub unsigned_is : (n : Number) → is_unsigned n ≡ true → number n ≡ number (whole_number n.whole)
unsigned_is n h = go n.is_negative n.tail (and_left (not n.is_negative) (is_whole n) h) (and_right (not n.is_negative) (is_whole n) h)
  where
    go : (negative : Bool) (t : Tail) → not negative ≡ true → is_whole_tail t ≡ true
        → number (record { is_negative = negative; whole = n.whole; tail = t }) ≡ number (whole_number n.whole)
    go false tail.Whole e w = refl
    go false (tail.Decimals parts) e w = absurd (true≢false (sym w))
    go false (tail.Over denominator) e w = absurd (true≢false (sym w))
    go true t e w = absurd (true≢false (sym e))

counted_goes : (goal : Goal) (t : Tok) (k : Kept) (n : ℕ) (spot : Spot) (call : CountCall) (c : Count) → FitFrames goal k.front k.frames
    → FitSpot k.frames k.level spot → IsTokenOf (count_terminal c) t
    → Goes goal t (then_spot (around k) spot ++ count_call_terminals call) (called (core k n) spot (with_count call c))
counted_goes goal t k n spot call c frames fits stands =
    called_goes goal t _ k n spot (with_count call c) frames fits (with_count_fits call c)
    (grows_to (ap (λ ts. then_spot (around k) spot ++ ts) (with_count_spelled call c))
    (grows_in (then_spot (around k) spot) (count_call_terminals call) (count_terminal c) stands))

pub count_goes : (goal : Goal) (t : Tok) (k : Kept) (n : ℕ) (spot : Spot) (call : CountCall) → FitFrames goal k.front k.frames
    → FitSpot k.frames k.level spot
    → Goes goal t (then_spot (around k) spot ++ count_call_terminals call) (at_count false (core k n) t spot call)
count_goes goal (number m) k n spot call frames fits =
    keeps_if (Went goal (number m) (then_spot (around k) spot ++ count_call_terminals call)) (is_unsigned m) _ _
    (λ is. counted_goes goal (number m) k n spot call (whole m.whole) frames fits (unsigned_is m is))
    (λ no. tt)
count_goes goal (quoted readings) k n spot call frames fits =
    untested (Went goal (quoted readings) (then_spot (around k) spot ++ count_call_terminals call)) (tests_from n (reading_rules (readings Counts))) _
    (counted_goes goal (quoted readings) k n spot call (counted (readings Counts)) frames fits (readings, refl, refl))
count_goes goal t k n spot call frames fits = tt

-- ---- truth values, and functions
pub bools_goes : (goal : Goal) (t : Tok) (k : Kept) (n : ℕ) (spot : Spot) (f : BoolsFun) → FitFrames goal k.front k.frames
    → FitSpot k.frames k.level spot
    → Goes goal t (then_spot (around k) spot ++ worded (name.OfBools f) ∷ []) (at_bools false (core k n) t spot f)
bools_goes goal (quoted readings) k n spot f frames fits =
    untested (Went goal (quoted readings) (then_spot (around k) spot ++ worded (name.OfBools f) ∷ [])) (tests_from n (reading_rules (readings Truths))) _
    (made_goes goal (quoted readings) _ k n spot (tree.of_bools f (readings Truths)) frames fits refl tt
    (grows_to (ap (λ ts. then_spot (around k) spot ++ worded (name.OfBools f) ∷ ts) (text_is Truths (readings Truths)))
    (grows_in (then_spot (around k) spot) (worded (name.OfBools f) ∷ []) (text Truths (readings Truths)) (readings, refl, refl))))
bools_goes goal t k n spot f frames fits = tt

argument_name_goes : (goal : Goal) (k : Kept) (n : ℕ) (spot : Spot) (call : FunCall) (m : Name) → FitFrames goal k.front k.frames
    → FitSpot k.frames k.level spot
    → Goes goal (token.name m) (then_spot (around k) spot ++ fun_call_terminals call) (argument_name (core k n) (token.name m) spot call m)
argument_name_goes goal k n spot call (name.Bare f) frames fits =
    with_fun_goes goal (token.name (name.Bare f)) _ k n spot call (tree.bare f) frames fits refl tt (grows_by (worded (name.Bare f)) refl)
argument_name_goes goal k n spot call m frames fits = tt

argument_mark_goes : (goal : Goal) (k : Kept) (n : ℕ) (spot : Spot) (call : FunCall) (m : Mark) → FitFrames goal k.front k.frames
    → FitSpot k.frames k.level spot
    → Goes goal (token.mark m) (then_spot (around k) spot ++ fun_call_terminals call) (argument_mark false (core k n) (token.mark m) spot call m)
argument_mark_goes goal k n spot call mark.OpenRound frames fits =
    record { grows = grows_by (marked mark.OpenRound) refl; fit = ((fits, frames), (refl, refl)) }
argument_mark_goes goal k n spot call m frames fits = tt

pub argument_goes : (goal : Goal) (t : Tok) (k : Kept) (n : ℕ) (spot : Spot) (call : FunCall) → FitFrames goal k.front k.frames
    → FitSpot k.frames k.level spot
    → Goes goal t (then_spot (around k) spot ++ fun_call_terminals call) (at_argument false (core k n) t spot call)
argument_goes goal (token.name m) k n spot call frames fits = argument_name_goes goal k n spot call m frames fits
argument_goes goal (token.mark m) k n spot call frames fits = argument_mark_goes goal k n spot call m frames fits
argument_goes goal t k n spot call frames fits = tt

-- ---- the numbers of `within`
bounds_mark_goes : (goal : Goal) (k : Kept) (n : ℕ) (spot : Spot) (m : Mark) → FitFrames goal k.front k.frames → FitSpot k.frames k.level spot
    → Goes goal (token.mark m) (then_spot (around k) spot ++ worded name.Within ∷ []) (bounds_mark false (core k n) (token.mark m) spot m)
bounds_mark_goes goal k n spot mark.OpenRound frames fits =
    record {
      grows = grows_to (append-nil _) (grows_in (then_spot (around k) spot) (worded name.Within ∷ []) (marked mark.OpenRound) refl);
      fit = ((fits, frames), refl);
    }
bounds_mark_goes goal k n spot m frames fits = tt

pub bounds_goes : (goal : Goal) (t : Tok) (k : Kept) (n : ℕ) (spot : Spot) → FitFrames goal k.front k.frames → FitSpot k.frames k.level spot
    → Goes goal t (then_spot (around k) spot ++ worded name.Within ∷ []) (at_mark (core k n) t (bounds_mark false (core k n) t spot))
bounds_goes goal t k n spot frames fits =
    at_mark_goes goal (then_spot (around k) spot ++ worded name.Within ∷ []) (core k n) t (λ u. bounds_mark false (core k n) u spot)
    (λ m. bounds_mark_goes goal k n spot m frames fits)

bounding_mark_goes : (goal : Goal) (k : Kept) (n : ℕ) (from : Option Plain) (m : Mark) → FitFrames goal k.front k.frames → k.level ≡ []
    → Goes goal (token.mark m) (around k ++ bound_terminals from) (bounding_mark false (core k n) (token.mark m) from m)
bounding_mark_goes goal k n from mark.OpenRound frames e =
    record { grows = grows_in (around k) (bound_terminals from) (marked mark.OpenRound) refl; fit = ((e, frames), refl) }
bounding_mark_goes goal k n from m frames e = tt

pub bound_goes : (goal : Goal) (t : Tok) (k : Kept) (n : ℕ) (from : Option Plain) → FitFrames goal k.front k.frames → k.level ≡ []
    → Goes goal t (around k ++ bound_terminals from) (at_bound false (core k n) t from)
bound_goes goal (number m) k n from frames e =
    record { grows = grows_in (around k) (bound_terminals from) (numbered m) refl; fit = (frames, e) }
bound_goes goal (token.mark m) k n from frames e = bounding_mark_goes goal k n from m frames e
bound_goes goal t k n from frames e = tt

bounds_hole_goes : (goal : Goal) (k : Kept) (n : ℕ) (hole : Hole) (a b : Plain) → FitFrames goal k.front k.frames → FitHole k.frames k.level hole
    → Goes goal (token.mark mark.CloseRound)
    (then_hole (around k) hole ++ ((terminals (plain_pieces a) ++ marked mark.Comma ∷ []) ++ terminals (plain_pieces b)))
    (bounds_hole (token.mark mark.CloseRound) a b (core k n) hole)
bounds_hole_goes goal k n (bounds spot) a b frames fits =
    record { grows = record { next = marked mark.CloseRound; reads = simp append_assoc; stands = refl }; fit = (frames, fits) }
bounds_hole_goes goal k n hole a b frames fits = tt

bounded_mark_goes : (goal : Goal) (k : Kept) (n : ℕ) (from : Option Plain) (p : Plain) (m : Mark) → FitFrames goal k.front k.frames → k.level ≡ []
    → Goes goal (token.mark m) (around k ++ (bound_terminals from ++ terminals (plain_pieces p))) (bounded_mark (core k n) (token.mark m) from p m)
bounded_mark_goes goal k n None a mark.Comma frames e =
    record { grows = grows_in (around k) (terminals (plain_pieces a)) (marked mark.Comma) refl; fit = (frames, e) }
bounded_mark_goes goal k n (Some a) b mark.CloseRound frames e =
    goes_from goal (token.mark mark.CloseRound) _
    (ap (λ ts. ts ++ ((terminals (plain_pieces a) ++ marked mark.Comma ∷ []) ++ terminals (plain_pieces b))) (bare k e)) (go k.frames frames)
  where
    go : (all : List Frame) → FitFrames goal k.front all → Goes goal (token.mark mark.CloseRound)
        (frames_read k.front all ++ ((terminals (plain_pieces a) ++ marked mark.Comma ∷ []) ++ terminals (plain_pieces b)))
        (closed all (core k n) (token.mark mark.CloseRound) (bounds_hole (token.mark mark.CloseRound) a b))
    go [] fits = tt
    go (f ∷ all) fits = bounds_hole_goes goal (outer k f all) n f.hole a b fits.1 fits.0
bounded_mark_goes goal k n from p m frames e = tt

pub bounded_goes : (goal : Goal) (t : Tok) (k : Kept) (n : ℕ) (from : Option Plain) (p : Plain) → FitFrames goal k.front k.frames → k.level ≡ []
    → Goes goal t (around k ++ (bound_terminals from ++ terminals (plain_pieces p))) (at_mark (core k n) t (bounded_mark (core k n) t from p))
bounded_goes goal t k n from p frames e =
    at_mark_goes goal (around k ++ (bound_terminals from ++ terminals (plain_pieces p))) (core k n) t (λ u. bounded_mark (core k n) u from p)
    (λ m. bounded_mark_goes goal k n from p m frames e)

-- ---- keys
setting_mark_goes : (goal : Goal) (k : Kept) (n : ℕ) (key : Key) (m : Mark) → FitFrames goal k.front k.frames → FitLevel k.frames k.level
    → Goes goal (token.mark m) (around k ++ worded (name.Key key) ∷ []) (setting_mark false (core k n) (token.mark m) key m)
setting_mark_goes goal k n key mark.OpenRound frames fits =
    keeps_if (Went goal (token.mark mark.OpenRound) (around k ++ worded (name.Key key) ∷ [])) (takes_word key) _ _
    (λ is. tt)
    (λ no. record {
      grows = grows_in (around k) (worded (name.Key key) ∷ []) (marked mark.OpenRound) refl;
      fit = (((ap not no, fits), frames), refl);
    })
setting_mark_goes goal k n key m frames fits = tt

pub key_goes : (goal : Goal) (t : Tok) (k : Kept) (n : ℕ) (key : Key) → FitFrames goal k.front k.frames → FitLevel k.frames k.level
    → Goes goal t (around k ++ worded (name.Key key) ∷ []) (at_key false (core k n) t key)
key_goes goal (number m) k n key frames fits =
    keeps_if (Went goal (number m) (around k ++ worded (name.Key key) ∷ [])) (takes_word key && is_whole m) _ _
    (λ is. tt)
    (λ no. operand_goes goal (number m) _ k n (tree.control key (tree.numeral m)) frames fits refl (ap not no)
    (grows_in (around k) (worded (name.Key key) ∷ []) (numbered m) refl))
key_goes goal (token.name m) k n key frames fits = tt
key_goes goal (quoted readings) k n key frames fits =
    untested (Went goal (quoted readings) (around k ++ worded (name.Key key) ∷ [])) (tests_from n (reading_rules (readings (kind_of key)))) _
    (operand_goes goal (quoted readings) _ k n (tree.control key (tree.quoted (readings (kind_of key)))) frames fits refl tt
    (grows_to (ap (λ ts. around k ++ worded (name.Key key) ∷ ts) (text_is (kind_of key) (readings (kind_of key))))
    (grows_in (around k) (worded (name.Key key) ∷ []) (text (kind_of key) (readings (kind_of key))) (readings, refl, refl))))
key_goes goal (token.mark m) k n key frames fits = setting_mark_goes goal k n key m frames fits
key_goes goal token.end k n key frames fits = tt

minus_mark_goes : (goal : Goal) (k : Kept) (n : ℕ) (m : Mark) → FitFrames goal k.front k.frames → k.level ≡ []
    → Goes goal (token.mark m) (around k) (minus_mark (core k n) (token.mark m) m)
minus_mark_goes goal k n mark.Minus frames e = record { grows = grows_by (marked mark.Minus) refl; fit = (frames, e) }
minus_mark_goes goal k n m frames e = tt

pub setting_goes : (goal : Goal) (t : Tok) (k : Kept) (n : ℕ) → FitFrames goal k.front k.frames → k.level ≡ []
    → Goes goal t (around k) (at_mark (core k n) t (minus_mark (core k n) t))
setting_goes goal t k n frames e = at_mark_goes goal (around k) (core k n) t (λ u. minus_mark (core k n) u) (λ m. minus_mark_goes goal k n m frames e)

pub negating_goes : (goal : Goal) (t : Tok) (k : Kept) (n : ℕ) → FitFrames goal k.front k.frames → k.level ≡ []
    → Goes goal t (around k ++ marked mark.Minus ∷ []) (at_negating false (core k n) t)
negating_goes goal (number m) k n frames e = record { grows = grows_in (around k) (marked mark.Minus ∷ []) (numbered m) refl; fit = (frames, e) }
negating_goes goal t k n frames e = tt

setting_hole_goes : (goal : Goal) (k : Kept) (n : ℕ) (hole : Hole) (m : Number) → FitFrames goal k.front k.frames → FitHole k.frames k.level hole
    → Goes goal (token.mark mark.CloseRound) (then_hole (around k) hole ++ marked mark.Minus ∷ numbered m ∷ [])
    (setting_hole (token.mark mark.CloseRound) m (core k n) hole)
setting_hole_goes goal k n (setting key) m frames fits =
    operand_goes goal (token.mark mark.CloseRound) _ k n (tree.control key (tree.negative m)) frames fits.1 refl fits.0
    (record { next = marked mark.CloseRound; reads = simp append_assoc; stands = refl })
setting_hole_goes goal k n hole m frames fits = tt

negated_mark_goes : (goal : Goal) (k : Kept) (n : ℕ) (m : Number) (x : Mark) → FitFrames goal k.front k.frames → k.level ≡ []
    → Goes goal (token.mark x) (around k ++ marked mark.Minus ∷ numbered m ∷ []) (negated_mark (core k n) (token.mark x) m x)
negated_mark_goes goal k n m mark.CloseRound frames e =
    goes_from goal (token.mark mark.CloseRound) _ (ap (λ ts. ts ++ marked mark.Minus ∷ numbered m ∷ []) (bare k e)) (go k.frames frames)
  where
    go : (all : List Frame) → FitFrames goal k.front all → Goes goal (token.mark mark.CloseRound)
        (frames_read k.front all ++ marked mark.Minus ∷ numbered m ∷ [])
        (closed all (core k n) (token.mark mark.CloseRound) (setting_hole (token.mark mark.CloseRound) m))
    go [] fits = tt
    go (f ∷ all) fits = setting_hole_goes goal (outer k f all) n f.hole m fits.1 fits.0
negated_mark_goes goal k n m x frames e = tt

pub negated_goes : (goal : Goal) (t : Tok) (k : Kept) (n : ℕ) (m : Number) → FitFrames goal k.front k.frames → k.level ≡ []
    → Goes goal t (around k ++ marked mark.Minus ∷ numbered m ∷ []) (at_mark (core k n) t (negated_mark (core k n) t m))
negated_goes goal t k n m frames e =
    at_mark_goes goal (around k ++ marked mark.Minus ∷ numbered m ∷ []) (core k n) t (λ u. negated_mark (core k n) u m)
    (λ x. negated_mark_goes goal k n m x frames e)
