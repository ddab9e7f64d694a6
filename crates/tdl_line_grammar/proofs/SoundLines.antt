-- What the machine spells of a line before its expression, and where it has none.
use Rattle.std.proofs.Common.{ℕ, Bool, false, Option, List, [], ◌∷◌, refl, sym, subst}
use Rattle.tdl_line_machine.specs.declared.faults.LineKind.{LineKind}
use Rattle.tdl_line_machine.specs.declared.faults.LineKind.TheVariants.{BadOrbit, BadEvery}
use Rattle.tdl_line_machine.specs.declared.names.Name.{Name}
use Rattle.tdl_line_machine.specs.declared.names.Name.TheVariants as name
use Rattle.tdl_command.specs.declared.names.Flag.{Flag}
use Rattle.tdl_line_machine.specs.declared.marks.Mark.{Mark}
use Rattle.tdl_line_machine.specs.declared.marks.Mark.TheVariants as mark
use Rattle.tdl_line_machine.specs.Tokens.{Tok, number, quoted, end}
use Rattle.tdl_command.specs.Rules.{whole_number}
use Rattle.tdl_line_machine.specs.Tokens as token
use Rattle.tdl_command.specs.Tree as tree
use Rattle.tdl_command.specs.Tree.{Line}
use Rattle.tdl_line_machine.specs.Pieces.{Terminal, fixed, spells}
use Rattle.tdl_line_grammar.specs.Spelling.{IsTokenOf, line_pieces, terminals}
use Rattle.tdl_line_machine.specs.declared.goals.Goal.{Goal}
use Rattle.tdl_line_machine.specs.declared.goals.Goal.TheVariants.{Line as a_line}
use Rattle.tdl_line_grammar.specs.Grammar.{FormedLine}
use Rattle.tdl_command.specs.Rules.{is_orbit, is_every}
use Rattle.tdl_line_machine.specs.Machine.Lines.{beginning_name, at_beginning, at_whole}
use Rattle.tdl_line_machine.specs.Machine.Arguments.{is_unsigned}
use Rattle.tdl_line_machine.specs.Machine.States.{alone, plays, jumps, Stage, jumping_at, jumped, done, going}
use Rattle.tdl_line_machine.specs.Machine.Lines.{dollar_mark, addressed_name, at_addressed, at_done, at_mark}
use Rattle.tdl_line_grammar.proofs.Running.{terminals-append}
use Rattle.tdl_line_grammar.proofs.Kept.{Kept, core}
use Rattle.tdl_line_grammar.proofs.SoundKeeps.{keeps_if}
use Rattle.tdl_line_grammar.proofs.SoundText.{marked, worded, numbered, top, IsStart, Went, Goes, grows_by, at_mark_goes}
use Rattle.tdl_line_grammar.proofs.SoundArguments.{unsigned_is}

-- what holds at the start of a line holds in every state there
pub at_start : (goal : Goal) (k : Kept) (P : Goal → Kept → Type 0) → IsStart goal k → P a_line (top alone) → P goal k
at_start goal k P is h = subst (λ (g : Goal). P g k) (sym is.0) (subst (P a_line) (sym is.1) h)

beginning_name_goes : (n : ℕ) (m : Name) → Goes a_line (token.name m) [] (beginning_name false (core (top alone) n) (token.name m) m)
beginning_name_goes n (name.Order o) = record { grows = grows_by (worded (name.Order o)) refl; fit = ((refl, refl), tt) }
beginning_name_goes n (name.Flag f) = record { grows = grows_by (worded (name.Flag f)) refl; fit = (refl, refl) }
beginning_name_goes n name.JumpMod = record { grows = grows_by (worded name.JumpMod) refl; fit = (refl, refl) }
beginning_name_goes n (name.Orbit o) = record { grows = grows_by (worded (name.Orbit o)) refl; fit = (refl, refl) }
beginning_name_goes n m = tt

pub beginning_goes : (t : Tok) (n : ℕ) → Goes a_line t [] (at_beginning false (core (top alone) n) t)
beginning_goes (token.name m) n = beginning_name_goes n m
beginning_goes end n = record { grows = grows_by (fixed end) refl; fit = tt }
beginning_goes t n = tt

-- a whole number
whole_goes : (t : Tok) (n : ℕ) (before : List Terminal) (kind : LineKind) (holds : ℕ → Bool) (next : ℕ → Stage)
    → ((m : ℕ) (u : Tok) → IsTokenOf (numbered (whole_number m)) u → Goes a_line u before (going (core (top alone) n) (next m)))
    → Goes a_line t before (at_whole false (core (top alone) n) t kind holds next)
whole_goes (number m) n before kind holds next h =
    keeps_if (Went a_line (number m) before) (is_unsigned m) _ _ (λ is. h m.whole (number m) (unsigned_is m is)) (λ no. tt)
whole_goes t n before kind holds next h = tt

pub flagging_goes : (t : Tok) (n : ℕ) (f : Flag)
    → Goes a_line t (worded (name.Flag f) ∷ []) (at_whole false (core (top alone) n) t BadOrbit is_orbit (λ m. done (tree.flag f m)))
flagging_goes t n f =
    whole_goes t n (worded (name.Flag f) ∷ []) BadOrbit is_orbit (λ m. done (tree.flag f m))
    (λ m u stands. record { grows = grows_by (numbered (whole_number m)) stands; fit = ((refl, refl), tt) })

pub jumping_goes : (t : Tok) (n : ℕ) → Goes a_line t (worded name.JumpMod ∷ []) (at_whole false (core (top alone) n) t BadOrbit is_orbit jumping_at)
jumping_goes t n =
    whole_goes t n (worded name.JumpMod ∷ []) BadOrbit is_orbit jumping_at
    (λ m u stands. record { grows = grows_by (numbered (whole_number m)) stands; fit = (refl, refl) })

pub jumping_at_goes : (t : Tok) (n : ℕ) (orbit : ℕ)
    → Goes a_line t (worded name.JumpMod ∷ numbered (whole_number orbit) ∷ []) (at_whole false (core (top alone) n) t BadEvery is_every (jumped orbit))
jumping_at_goes t n orbit =
    whole_goes t n (worded name.JumpMod ∷ numbered (whole_number orbit) ∷ []) BadEvery is_every (jumped orbit)
    (λ m u stands. record { grows = grows_by (numbered (whole_number m)) stands; fit = (refl, refl) })

jumped_mark_goes : (n orbit every : ℕ) (m : Mark)
    → Goes a_line (token.mark m) (worded name.JumpMod ∷ numbered (whole_number orbit) ∷ numbered (whole_number every) ∷ [])
    (dollar_mark (core (top alone) n) (token.mark m) (jumps orbit every) m)
jumped_mark_goes n orbit every mark.Dollar = record { grows = grows_by (marked mark.Dollar) refl; fit = (tt, (refl, tt)) }
jumped_mark_goes n orbit every m = tt

pub jumped_goes : (t : Tok) (n orbit every : ℕ)
    → Goes a_line t (worded name.JumpMod ∷ numbered (whole_number orbit) ∷ numbered (whole_number every) ∷ [])
    (at_mark (core (top alone) n) t (dollar_mark (core (top alone) n) t (jumps orbit every)))
jumped_goes t n orbit every =
    at_mark_goes a_line (worded name.JumpMod ∷ numbered (whole_number orbit) ∷ numbered (whole_number every) ∷ []) (core (top alone) n) t
    (λ u. dollar_mark (core (top alone) n) u (jumps orbit every)) (λ m. jumped_mark_goes n orbit every m)

-- after the name of an orbit
addressed_mark_goes : (n : ℕ) (o : Option ℕ) (m : Mark)
    → Goes a_line (token.mark m) (worded (name.Orbit o) ∷ []) (dollar_mark (core (top alone) n) (token.mark m) (plays o) m)
addressed_mark_goes n o mark.Dollar = record { grows = grows_by (marked mark.Dollar) refl; fit = (tt, (refl, tt)) }
addressed_mark_goes n o m = tt

addressed_name_goes : (n : ℕ) (o : Option ℕ) (m : Name)
    → Goes a_line (token.name m) (worded (name.Orbit o) ∷ []) (addressed_name (core (top alone) n) (token.name m) o m)
addressed_name_goes n o name.Silence = record { grows = grows_by (worded name.Silence) refl; fit = ((refl, refl), tt) }
addressed_name_goes n o m = tt

pub addressed_goes : (t : Tok) (n : ℕ) (o : Option ℕ) → Goes a_line t (worded (name.Orbit o) ∷ []) (at_addressed (core (top alone) n) t o)
addressed_goes (token.name m) n o = addressed_name_goes n o m
addressed_goes (token.mark m) n o = addressed_mark_goes n o m
addressed_goes t n o = tt

pub done_goes : (t : Tok) (n : ℕ) (l : Line) → FormedLine l → Goes a_line t (terminals (line_pieces l)) (at_done (core (top alone) n) t l)
done_goes end n l formed =
    record { grows = record { next = fixed end; reads = terminals-append (line_pieces l) (spells (fixed end) ∷ []); stands = refl }; fit = formed }
done_goes t n l formed = tt
