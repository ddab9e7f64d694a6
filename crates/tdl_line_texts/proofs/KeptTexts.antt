-- What a text that is read keeps: its numbers are in range, its orbits are orbits, and each text is of the kind of its place.
--     held_rules      where the tests hold, so do the rules
--     kept_whole      a line or a pattern that is read keeps all this
--     valid_command   so a line that is read is valid
--     valid_alone     and so is a pattern
use Rattle.std.specs.Prelude.{IsTrue, if◌then◌else◌, ◌==◌, nat_lt, slice_range}
use Rattle.std.specs.List.{AllZip, AllByRecursion, list_all}
use Rattle.std.specs.Char.{is_ascii_digit}
use Rattle.std.specs.Str.Parse.{digits_value}
use Rattle.std.proofs.Common.{◌≡◌, ℕ, suc, ◌<◌, Bool, true, false, ◌&&◌, Some, None, List, [], ◌∷◌, ◌++◌, length, get_or, refl, sym, subst, arith}
use Rattle.std.proofs.lemmas.Bool.{and_parts, false≢true}
use Rattle.tdl_grammar.specs.Grammar.{Test}
use Rattle.tdl_lexer.specs.declared.signs.Sign.{Sign}
use Rattle.tdl_lexer.specs.declared.signs.Sign.TheVariants as sign
use Rattle.tdl_lexer.specs.declared.signs.Token.{Token}
use Rattle.tdl_mini_tree.specs.declared.leaves.Kind.{Kind}
use Rattle.tdl_mini_grammar.specs.NumberTexts.{fits_number}
use Rattle.tdl_mini_machine.specs.Tokens.{same_text}
use Rattle.tdl_mini_grammar.proofs.SmallTokens.{small_number}
use Rattle.tdl_mini_grammar.proofs.Validity.{valid_of_mini}
use Rattle.tdl_command.specs.declared.tree.Command.{Command}
use Rattle.tdl_command.specs.declared.tree.Command.TheVariants as command
use Rattle.tdl_command.specs.declared.tree.Expr.{Expr}
use Rattle.tdl_command.specs.Rules.{is_orbit}
use Rattle.tdl_command.specs.Tree.{Whole, line, pattern}
use Rattle.tdl_mini_tree.specs.Reading.{Reading, read, unread}
use Rattle.tdl_command.specs.Valid.{IsValidCommand, IsValidExpr}
use Rattle.tdl_command.specs.View.{line_of, expr_of}
use Rattle.tdl_line_machine.specs.declared.faults.LineKind.{LineKind}
use Rattle.tdl_line_machine.specs.declared.names.Name.{Name}
use Rattle.tdl_line_machine.specs.declared.names.Name.TheVariants.{Orbit, Unknown}
use Rattle.tdl_line_machine.specs.Pieces.{Place, tests_from}
use Rattle.tdl_line_grammar.specs.Faults.{nesting_of, opened_by, nested}
use Rattle.tdl_line_machine.specs.declared.goals.Goal.{Goal}
use Rattle.tdl_line_machine.specs.declared.goals.Goal.TheVariants.{Line as a_line, Pattern as a_pattern}
use Rattle.tdl_line_texts.specs.Names.{Meaning, meanings, named_among, found, other_name, orbit_of, name_of}
use Rattle.tdl_line_machine.specs.Pieces.{Terminal, fixed, Piece, spells, obeys}
use Rattle.tdl_line_grammar.specs.Spelling.{IsTokenOf, pieces, spell, terminals}
use Rattle.tdl_line_machine.specs.Pieces as spelled
use Rattle.tdl_line_texts.specs.Texts.{IsSigned, IsTok, IsWhole}
use Rattle.tdl_mini_grammar.specs.Readings.{IsReading}
use Rattle.tdl_line_machine.specs.Tokens.{Tok, end}
use Rattle.tdl_line_machine.specs.Tokens as token
use Rattle.tdl_line_grammar.specs.inside.Kept.{Fits, AllKept}
use Rattle.tdl_line_texts.proofs.LinePieces.{IsPiece}
use Rattle.tdl_line_texts.proofs.LinePieces as line_pieces
use Rattle.tdl_line_grammar.proofs.ValidTexts.{left, valid_expr}

-- ---- rules
abbrev pub Holds : Piece → Type 0
Holds (spells x) = Unit {0}
Holds (obeys r) = IsTrue r.holds

pub held_rules : (from : ℕ) (ps : List Piece) → IsTrue (list_all (λ (t : Test LineKind Place). t.holds) (tests_from from ps)) → AllByRecursion Holds ps
held_rules from [] h = tt
held_rules from (spells x ∷ ps) h = (tt, held_rules (suc from) ps h)
held_rules from (obeys r ∷ ps) h = let parts = and_parts r.holds _ h in (parts.0, held_rules from ps parts.1)

hold_after : (a b : List Piece) → AllByRecursion Holds (a ++ b) → AllByRecursion Holds b
hold_after [] b h = h
hold_after (p ∷ a) b h = hold_after a b h.1

-- the rule on brackets is one more
nested_rules : (depth : ℕ) (ps : List Piece) → AllByRecursion Holds (nested depth ps) → AllByRecursion Holds ps
nested_rules depth [] h = tt
nested_rules depth (spells x ∷ ps) h = (tt, nested_rules (opened_by x depth) ps (hold_after (nesting_of depth x) _ h).1)
nested_rules depth (obeys r ∷ ps) h = (h.0, nested_rules depth ps h.1)

-- ---- tokens
-- what a token may be: a quoted text is, in each kind, of that kind
abbrev FitsTok : Tok → Type 0
FitsTok (token.quoted readings) = (kind : Kind) → Fits (spelled.text kind (readings kind))
FitsTok t = Fits (fixed t)

fits_fixed : (t : Tok) → FitsTok t → Fits (fixed t)
fits_fixed (token.quoted readings) h = tt
fits_fixed (token.number n) h = h
fits_fixed (token.name n) h = h
fits_fixed (token.mark m) h = h
fits_fixed token.end h = h

stands_fits : (x : Terminal) (t : Tok) → FitsTok t → IsTokenOf x t → Fits x
stands_fits (fixed other) t h is = fits_fixed other (subst FitsTok is h)
stands_fits (spelled.text kind reading) t h is = subst (λ (r : Reading). Fits (spelled.text kind r)) is.2 (subst FitsTok is.1 h kind)

all_kept : (ps : List Piece) (toks : List Tok) → AllByRecursion Holds ps → AllByRecursion FitsTok toks → AllZip IsTokenOf (terminals ps) toks → AllKept ps
all_kept [] toks held h is = tt
all_kept (spells x ∷ ps) [] held h is = absurd is
all_kept (spells x ∷ ps) (t ∷ toks) held h is = (stands_fits x t h.0 is.0, all_kept ps toks held.1 h.1 is.1)
all_kept (obeys r ∷ ps) toks held h is = (held.0, all_kept ps toks held.1 h is)

-- ---- names
abbrev is_no_orbit : Name → Bool
is_no_orbit (Orbit o) = false
is_no_orbit _ = true

other_fits : (n : Name) → is_no_orbit n ≡ true → Fits (fixed (token.name n))
other_fits (Orbit o) h = absurd (false≢true h)
other_fits _ h = tt

orbit_fits : (digits : List ℕ) → Fits (fixed (token.name (Orbit (orbit_of digits))))
orbit_fits digits = here (is_orbit (digits_value 10 digits)) refl
  where
    here : (b : Bool) → is_orbit (digits_value 10 digits) ≡ b
        → Fits (fixed (token.name (Orbit (if b then Some (digits_value 10 digits) else None))))
    here true e = e
    here false e = tt

other_name_fits : (bytes : List ℕ) → Fits (fixed (token.name (other_name bytes)))
other_name_fits [] = tt
other_name_fits (byte ∷ digits) = here ((byte == 100) && (nat_lt 0 (length digits) && list_all is_ascii_digit digits))
  where
    here : (b : Bool) → Fits (fixed (token.name (if b then Orbit (orbit_of digits) else Unknown)))
    here true = orbit_fits digits
    here false = tt

found_fits : (es : List Meaning) (bytes : List ℕ) (other : Name) → list_all (λ e. is_no_orbit e.means) es ≡ true → Fits (fixed (token.name other))
    → Fits (fixed (token.name (found (named_among es bytes) other)))
found_fits [] bytes other all h = h
found_fits (e ∷ es) bytes other all h = here (same_text e.text bytes) (found_fits es bytes other parts.1 h)
  where
    parts : (is_no_orbit e.means ≡ true) × (list_all (λ e. is_no_orbit e.means) es ≡ true)
    parts = and_parts (is_no_orbit e.means) _ all

    here : (b : Bool) → Fits (fixed (token.name (found (named_among es bytes) other)))
        → Fits (fixed (token.name (found (if b then Some e.means else named_among es bytes) other)))
    here true more = other_fits e.means parts.0
    here false more = more

name_fits : (bytes : List ℕ) → Fits (fixed (token.name (name_of bytes)))
name_fits bytes = found_fits meanings bytes (other_name bytes) refl (other_name_fits bytes)

-- ---- the tokens of a text
reading_fits : (kind : Kind) (bytes : List ℕ) (reading : Reading) → IsReading kind bytes reading → Fits (spelled.text kind reading)
reading_fits kind bytes (read k ls) is = (is.0, λ key. valid_of_mini kind bytes ls key is.1)
reading_fits kind bytes (unread fault at) is = tt

signed_fits : (s : Sign) (bytes : List ℕ) (t : Tok) → (s ≡ sign.Number → IsTrue (fits_number bytes)) → IsSigned s bytes t → FitsTok t
signed_fits sign.Number bytes t number is = subst FitsTok (sym is) (small_number bytes (number refl))
signed_fits sign.Word bytes t number is = subst FitsTok (sym is) (name_fits bytes)
signed_fits sign.Quoted bytes t number is = subst FitsTok (sym is.1) (λ kind. reading_fits kind _ (is.0 kind) (is.2 kind))
signed_fits sign.Mark bytes t number is = subst FitsTok (sym is) tt
signed_fits sign.End bytes t number is = subst FitsTok (sym is) tt

all_fit : (text : List ℕ) (tokens : List Token) (toks : List Tok)
    → ((i : ℕ) (there : Token) → i < length tokens → there ≡ get_or tokens i there → IsPiece text there)
    → AllZip (IsTok text) tokens toks → AllByRecursion FitsTok toks
all_fit text [] [] piece are = tt
all_fit text [] (t ∷ toks) piece are = absurd are
all_fit text (t ∷ tokens) [] piece are = absurd are
all_fit text (t ∷ tokens) (u ∷ toks) piece are =
    let inside : 0 < length (t ∷ tokens) = omega arith in (
      signed_fits t.sign (slice_range text t.at t.end) u (piece 0 t inside refl).number are.0,
      all_fit text tokens toks (λ i there l e. piece (suc i) there (omega arith) e) are.1,
    )

pub kept_whole : (goal : Goal) (text : List ℕ) (w : Whole) → IsWhole goal text w → AllKept (spell w)
kept_whole goal text w h =
    let r = h.written in
    let fit = all_fit text r.tokens r.toks (λ i there l e. line_pieces.pieces text r.tokens i there r.tokenized.cut l e) r.tokenized.are in
    all_kept (spell w) r.toks (nested_rules 0 (spell w) (held_rules 0 (nested 0 (spell w)) r.is.held)) fit r.is.reads.spelled

-- ---- what is valid
kept_pieces : (goal : Goal) (text : List ℕ) (w : Whole) → IsWhole goal text w → AllKept (pieces w)
kept_pieces goal text w h = left (pieces w) (spells (fixed end) ∷ []) (kept_whole goal text w h)

pub valid_command : (text : List ℕ) (c : Command) → IsWhole a_line text (line (line_of c)) → IsValidCommand c
valid_command text command.Nothing h = tt
valid_command text (command.Order o) h = tt
valid_command text (command.Flag f orbit) h = (kept_pieces a_line text _ h).1.0
valid_command text (command.Play orbit e) h =
    let kept = kept_pieces a_line text (line (line_of (command.Play orbit e))) h in
    (kept.1.0, valid_expr e h.written.is.reads.formed kept.1.1.1)
valid_command text (command.Silence orbit) h = (kept_pieces a_line text (line (line_of (command.Silence orbit))) h).1.0
valid_command text (command.Jump orbit every e) h =
    let kept = kept_pieces a_line text (line (line_of (command.Jump orbit every e))) h in
    (kept.1.0, (kept.1.1.1.0, valid_expr e h.written.is.reads.formed kept.1.1.1.1.1.1))

pub valid_alone : (text : List ℕ) (e : Expr) → IsWhole a_pattern text (pattern (expr_of e)) → IsValidExpr e
valid_alone text e h = valid_expr e h.written.is.reads.formed (kept_pieces a_pattern text (pattern (expr_of e)) h)
