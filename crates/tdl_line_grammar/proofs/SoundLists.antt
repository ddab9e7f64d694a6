-- What the machine spells of lists.
--     listing_goes, list_goes                       the `[` of a list, and what is directly behind it
--     timing_goes, parts_open_goes                  likewise of `timecat`
--     part_wanted_goes, part_read_goes              between its parts
--     weighing_goes, weighted_goes                  the weight of a part
use Rattle.std.specs.Prelude.{IsTrue}
use Rattle.std.proofs.Common.{◌≡◌, ℕ, false, List, [], ◌∷◌, ◌++◌, refl, ap, ◌∙◌, append_assoc}
use Rattle.tdl_mini_tree.specs.declared.leaves.Number.{Number}
use Rattle.tdl_line_machine.specs.declared.names.Name.TheVariants as name
use Rattle.tdl_command.specs.declared.names.Shape.{Shape}
use Rattle.tdl_line_machine.specs.declared.marks.Mark.{Mark}
use Rattle.tdl_line_machine.specs.declared.marks.Mark.TheVariants as mark
use Rattle.tdl_line_machine.specs.Tokens.{Tok, number, quoted}
use Rattle.tdl_line_machine.specs.Tokens as token
use Rattle.tdl_command.specs.Tree as tree
use Rattle.tdl_command.specs.Tree.{no_expr, no_part, part}
use Rattle.tdl_line_machine.specs.declared.goals.Goal.{Goal}
use Rattle.tdl_line_machine.specs.Machine.Lines.{square_mark}
use Rattle.tdl_line_machine.specs.Machine.Lists.{empty_hole}
use Rattle.tdl_line_machine.specs.Machine.Open.{closed}
use Rattle.tdl_line_machine.specs.Machine.States.{first, Hole, list, timecat, unweighed, Frame, Front, list_open, parts_open}
use Rattle.tdl_line_machine.specs.Machine.Lists.{list_mark, at_list, parts_hole, part_mark, parts_mark, part_read_mark, at_weight, weighed_hole, weighed_mark}
use Rattle.tdl_line_machine.specs.Machine.Lines.{at_mark}
use Rattle.tdl_line_grammar.proofs.Running.{terminals-append}
use Rattle.tdl_line_grammar.proofs.Kept.{Kept, core, outer}
use Rattle.tdl_line_grammar.proofs.SoundText.{marked, worded, numbered, then_level, then_hole, then_parts, frames_read, parts_read, around, has_dollars}
use Rattle.tdl_line_grammar.proofs.SoundText.{FitLevel}
use Rattle.tdl_line_grammar.proofs.SoundText.{FitHole, FitFrames, IsParted, IsEmptyList, IsEmptyParts, IsUnweighed, InHole, Goes, grows_by, grows_in}
use Rattle.tdl_line_grammar.proofs.SoundText.{goes_from}
use Rattle.tdl_line_grammar.proofs.SoundText.{bare, at_mark_goes}
use Rattle.tdl_line_grammar.proofs.SoundSteps.{operand_goes}
use Rattle.tdl_line_grammar.proofs.SoundBegins.{nil_begins, wanted_goes}

-- ---- `stack`, `cat`, `fastcat`
list_square_goes : (goal : Goal) (k : Kept) (n : ℕ) (shape : Shape) (m : Mark) → FitFrames goal k.front k.frames → FitLevel k.frames k.level
    → Goes goal (token.mark m) (around k ++ worded (name.List shape) ∷ []) (square_mark false (core k n) (token.mark m) (list shape no_expr) list_open m)
list_square_goes goal k n shape mark.OpenSquare frames fits =
    record {
      grows = grows_in (around k) (worded (name.List shape) ∷ []) (marked mark.OpenSquare) refl;
      fit = (((tt, fits), frames), (refl, refl, tt));
    }
list_square_goes goal k n shape m frames fits = tt

pub listing_goes : (goal : Goal) (t : Tok) (k : Kept) (n : ℕ) (shape : Shape) → FitFrames goal k.front k.frames → FitLevel k.frames k.level
    → Goes goal t (around k ++ worded (name.List shape) ∷ []) (at_mark (core k n) t (square_mark false (core k n) t (list shape no_expr) list_open))
listing_goes goal t k n shape frames fits =
    at_mark_goes goal (around k ++ worded (name.List shape) ∷ []) (core k n) t (λ u. square_mark false (core k n) u (list shape no_expr) list_open)
    (λ m. list_square_goes goal k n shape m frames fits)

empty_hole_goes : (goal : Goal) (k : Kept) (n : ℕ) (hole : Hole) → FitFrames goal k.front k.frames → FitHole k.frames k.level hole → IsEmptyList hole
    → Goes goal (token.mark mark.CloseSquare) (then_hole (around k) hole) (empty_hole (token.mark mark.CloseSquare) (core k n) hole)
empty_hole_goes goal k n (list shape no_expr) frames fits is =
    operand_goes goal (token.mark mark.CloseSquare) _ k n (tree.list shape no_expr) frames fits.1 refl tt
    (grows_in (around k) (worded (name.List shape) ∷ marked mark.OpenSquare ∷ []) (marked mark.CloseSquare) refl)
empty_hole_goes goal k n hole frames fits is = absurd is

list_mark_goes : (goal : Goal) (k : Kept) (n : ℕ) (m : Mark) → FitFrames goal k.front k.frames → k.level ≡ [] → IsTrue (has_dollars k.frames)
    → InHole IsEmptyList k.frames
    → Goes goal (token.mark m) (around k) (list_mark false (core k n) (token.mark m) m)
list_mark_goes goal k n mark.CloseSquare frames e dollars is = goes_from goal (token.mark mark.CloseSquare) _ (bare k e) (go k.frames frames is)
  where
    go : (all : List Frame) → FitFrames goal k.front all → InHole IsEmptyList all → Goes goal (token.mark mark.CloseSquare) (frames_read k.front all)
        (closed all (core k n) (token.mark mark.CloseSquare) (empty_hole (token.mark mark.CloseSquare)))
    go [] fits empty = tt
    go (a ∷ all) fits empty = empty_hole_goes goal (outer k a all) n a.hole fits.1 fits.0 empty
list_mark_goes goal k n m frames e dollars is = wanted_goes goal (token.mark m) k n first frames (nil_begins k.frames k.level e dollars)

pub list_goes : (goal : Goal) (t : Tok) (k : Kept) (n : ℕ) → FitFrames goal k.front k.frames → k.level ≡ [] → IsTrue (has_dollars k.frames)
    → InHole IsEmptyList k.frames → Goes goal t (around k) (at_list false (core k n) t)
list_goes goal (token.mark m) k n frames e dollars is = list_mark_goes goal k n m frames e dollars is
list_goes goal t k n frames e dollars is = wanted_goes goal t k n first frames (nil_begins k.frames k.level e dollars)

-- ---- `timecat`
parts_square_goes : (goal : Goal) (k : Kept) (n : ℕ) (m : Mark) → FitFrames goal k.front k.frames → FitLevel k.frames k.level
    → Goes goal (token.mark m) (around k ++ worded name.Timecat ∷ []) (square_mark false (core k n) (token.mark m) (timecat no_part) parts_open m)
parts_square_goes goal k n mark.OpenSquare frames fits =
    record {
      grows = grows_in (around k) (worded name.Timecat ∷ []) (marked mark.OpenSquare) refl;
      fit = (((tt, fits), frames), (refl, tt));
    }
parts_square_goes goal k n m frames fits = tt

pub timing_goes : (goal : Goal) (t : Tok) (k : Kept) (n : ℕ) → FitFrames goal k.front k.frames → FitLevel k.frames k.level
    → Goes goal t (around k ++ worded name.Timecat ∷ []) (at_mark (core k n) t (square_mark false (core k n) t (timecat no_part) parts_open))
timing_goes goal t k n frames fits =
    at_mark_goes goal (around k ++ worded name.Timecat ∷ []) (core k n) t (λ u. square_mark false (core k n) u (timecat no_part) parts_open)
    (λ m. parts_square_goes goal k n m frames fits)

part_mark_goes : (goal : Goal) (k : Kept) (n : ℕ) (m : Mark) → FitFrames goal k.front k.frames → k.level ≡ []
    → Goes goal (token.mark m) (around k) (part_mark false (core k n) (token.mark m) m)
part_mark_goes goal k n mark.OpenRound frames e = record { grows = grows_by (marked mark.OpenRound) refl; fit = ((e, frames), (refl, tt)) }
part_mark_goes goal k n m frames e = tt

pub part_wanted_goes : (goal : Goal) (t : Tok) (k : Kept) (n : ℕ) → FitFrames goal k.front k.frames → k.level ≡ []
    → Goes goal t (around k) (at_mark (core k n) t (part_mark false (core k n) t))
part_wanted_goes goal t k n frames e =
    at_mark_goes goal (around k) (core k n) t (λ u. part_mark false (core k n) u) (λ m. part_mark_goes goal k n m frames e)

-- `timecat` is closed
parts_hole_goes : (goal : Goal) (k : Kept) (n : ℕ) (hole : Hole) → FitFrames goal k.front k.frames → FitHole k.frames k.level hole
    → Goes goal (token.mark mark.CloseSquare) (then_parts (around k) hole) (parts_hole (token.mark mark.CloseSquare) (core k n) hole)
parts_hole_goes goal k n (timecat ps) frames fits =
    operand_goes goal (token.mark mark.CloseSquare) _ k n (tree.timecat ps) frames fits.1 refl fits.0
    (record { next = marked mark.CloseSquare; reads = simp (terminals-append, append_assoc); stands = refl })
parts_hole_goes goal k n hole frames fits = tt

parts_closed_goes : (goal : Goal) (k : Kept) (n : ℕ) (all : List Frame) → FitFrames goal k.front all
    → Goes goal (token.mark mark.CloseSquare) (parts_read k.front all)
    (closed all (core k n) (token.mark mark.CloseSquare) (parts_hole (token.mark mark.CloseSquare)))
parts_closed_goes goal k n [] fits = tt
parts_closed_goes goal k n (a ∷ all) fits = parts_hole_goes goal (outer k a all) n a.hole fits.1 fits.0

-- before the first part no `,` is missing
empty_parts_read : (front : Front) (frames : List Frame) → InHole IsEmptyParts frames → frames_read front frames ≡ parts_read front frames
empty_parts_read front [] is = absurd is
empty_parts_read front (f ∷ frames) is = go f.hole is
  where
    go : (hole : Hole) → IsEmptyParts hole
        → then_hole (then_level (frames_read front frames) f.level) hole ≡ then_parts (then_level (frames_read front frames) f.level) hole
    go (timecat no_part) empty = refl
    go hole empty = absurd empty

parts_mark_goes : (goal : Goal) (k : Kept) (n : ℕ) (m : Mark) → FitFrames goal k.front k.frames → k.level ≡ [] → InHole IsEmptyParts k.frames
    → Goes goal (token.mark m) (around k) (parts_mark false (core k n) (token.mark m) m)
parts_mark_goes goal k n mark.CloseSquare frames e is =
    goes_from goal (token.mark mark.CloseSquare) _ (bare k e ∙ empty_parts_read k.front k.frames is) (parts_closed_goes goal k n k.frames frames)
parts_mark_goes goal k n m frames e is = part_mark_goes goal k n m frames e

pub parts_open_goes : (goal : Goal) (t : Tok) (k : Kept) (n : ℕ) → FitFrames goal k.front k.frames → k.level ≡ [] → InHole IsEmptyParts k.frames
    → Goes goal t (around k) (at_mark (core k n) t (parts_mark false (core k n) t))
parts_open_goes goal t k n frames e is =
    at_mark_goes goal (around k) (core k n) t (λ u. parts_mark false (core k n) u) (λ m. parts_mark_goes goal k n m frames e is)

-- a `,` after a part
comma_read : (front : Front) (frames : List Frame) → InHole IsParted frames → frames_read front frames ≡ parts_read front frames ++ marked mark.Comma ∷ []
comma_read front [] is = absurd is
comma_read front (f ∷ frames) is = go f.hole is
  where
    go : (hole : Hole) → IsParted hole
        → then_hole (then_level (frames_read front frames) f.level) hole
        ≡ then_parts (then_level (frames_read front frames) f.level) hole ++ marked mark.Comma ∷ []
    go (timecat (part ps n e)) parted = simp append_assoc
    go hole parted = absurd parted

part_read_mark_goes : (goal : Goal) (k : Kept) (n : ℕ) (m : Mark) → FitFrames goal k.front k.frames → k.level ≡ [] → InHole IsParted k.frames
    → Goes goal (token.mark m) (parts_read k.front k.frames) (part_read_mark (core k n) (token.mark m) m)
part_read_mark_goes goal k n mark.Comma frames e is =
    record {
      grows = record { next = marked mark.Comma; reads = bare k e ∙ comma_read k.front k.frames is; stands = refl };
      fit = (frames, e);
    }
part_read_mark_goes goal k n mark.CloseSquare frames e is = parts_closed_goes goal k n k.frames frames
part_read_mark_goes goal k n m frames e is = tt

pub part_read_goes : (goal : Goal) (t : Tok) (k : Kept) (n : ℕ) → FitFrames goal k.front k.frames → k.level ≡ [] → InHole IsParted k.frames
    → Goes goal t (parts_read k.front k.frames) (at_mark (core k n) t (part_read_mark (core k n) t))
part_read_goes goal t k n frames e is =
    at_mark_goes goal (parts_read k.front k.frames) (core k n) t (λ u. part_read_mark (core k n) u) (λ m. part_read_mark_goes goal k n m frames e is)

-- ---- weights
pub weighing_goes : (goal : Goal) (t : Tok) (k : Kept) (n : ℕ) → FitFrames goal k.front k.frames → k.level ≡ [] → InHole IsUnweighed k.frames
    → Goes goal t (around k) (at_weight false (core k n) t)
weighing_goes goal (number m) k n frames e is = record { grows = grows_by (numbered m) refl; fit = (frames, (e, is)) }
weighing_goes goal t k n frames e is = tt

weighed_hole_goes : (goal : Goal) (k : Kept) (n : ℕ) (hole : Hole) (depth : ℕ) (m : Number) → FitFrames goal k.front k.frames → FitHole k.frames k.level hole
    → IsUnweighed hole
    → Goes goal (token.mark mark.Comma) (then_hole (around k) hole ++ numbered m ∷ []) (weighed_hole depth m (core k n) hole)
weighed_hole_goes goal k n unweighed depth m frames fits is =
    record {
      grows = record { next = marked mark.Comma; reads = simp append_assoc; stands = refl };
      fit = ((fits, frames), (refl, tt));
    }
weighed_hole_goes goal k n hole depth m frames fits is = absurd is

weighed_mark_goes : (goal : Goal) (k : Kept) (n : ℕ) (m : Number) (x : Mark) → FitFrames goal k.front k.frames → k.level ≡ [] → InHole IsUnweighed k.frames
    → Goes goal (token.mark x) (around k ++ numbered m ∷ []) (weighed_mark (core k n) (token.mark x) m x)
weighed_mark_goes goal k n m mark.Comma frames e is =
    goes_from goal (token.mark mark.Comma) _ (ap (λ ts. ts ++ numbered m ∷ []) (bare k e)) (go k.frames frames is)
  where
    go : (all : List Frame) → FitFrames goal k.front all → InHole IsUnweighed all
        → Goes goal (token.mark mark.Comma) (frames_read k.front all ++ numbered m ∷ [])
        (closed all (core k n) (token.mark mark.Comma) (weighed_hole k.depth m))
    go [] fits in_part = tt
    go (a ∷ all) fits in_part = weighed_hole_goes goal (outer k a all) n a.hole k.depth m fits.1 fits.0 in_part
weighed_mark_goes goal k n m x frames e is = tt

pub weighted_goes : (goal : Goal) (t : Tok) (k : Kept) (n : ℕ) (m : Number) → FitFrames goal k.front k.frames → k.level ≡ [] → InHole IsUnweighed k.frames
    → Goes goal t (around k ++ numbered m ∷ []) (at_mark (core k n) t (weighed_mark (core k n) t m))
weighted_goes goal t k n m frames e is =
    at_mark_goes goal (around k ++ numbered m ∷ []) (core k n) t (λ u. weighed_mark (core k n) u m) (λ x. weighed_mark_goes goal k n m x frames e is)
