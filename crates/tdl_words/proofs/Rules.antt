-- One use of an argument that takes one value, once.
--     set_rule    what a built command has of such an argument
--     put         the rows after a use of it, if it is the first
--     uses        the rows after these pieces, where `seats` are the arguments that take the next positional words
use Rattle.std.proofs.Common.{◌≡◌, ◌++◌, ℕ, Bool, true, false, refl, List, [], ◌∷◌, Option, Some, None, true≢false, sym, ◌∙◌}
use Rattle.std.proofs.lemmas.List.{append-nil}
use Rattle.std.specs.Prelude.{if◌then◌else◌}
use Rattle.std.specs.Option.{option_and_then}
use Rattle.std.specs.Str.{bytes_eq}
use Rattle.clap.specs.Walk.{Row, Rule, Text, at_row, has_row, more_values, used}
use Rattle.clap.specs.Values.{reading_of}
use Rattle.clap.specs.Faults.{use_fault}
use Rattle.clap.specs.declared.builder.action.ArgAction.TheVariants.{Set}
use Rattle.clap.specs.declared.builder.value_parser.ValueParser.TheVariants as vp
use Rattle.clap.specs.declared.parser.matches.ValueSource.TheVariants.{CommandLine}
use Rattle.tdl_words.specs.Words.{Piece, Word, Given, before}
use Rattle.tdl_words.proofs.Past.{past, then-none}

abbrev pub set_rule : Text → Option Text → Option ℕ → Rule
set_rule id long index = record {
  id = id;
  long = long;
  aliases = [];
  short = None;
  short_aliases = [];
  index = index;
  action = Some Set;
  range = Some (record { start_inclusive = 1; end_inclusive = 1 });
  value_names = 0;
  defaults = [];
  missing = [];
  trailing_var_arg = false;
  parser = Some vp.String;
  ignore_case = false;
  required = false;
  is_simple = true;
  is_free = true;
}

abbrev pub row : Text → Text → Row
row id text = record { id = id; values = text ∷ []; count = None; source = Some CommandLine; reading = reading_of vp.String }

abbrev pub put : Text → Text → List Row → Option (List Row)
put id text rows = if has_row id rows then None else Some (rows ++ row id text ∷ [])

abbrev pub uses : List Text → List Row → List Piece → Option (List Row)
uses seats rows [] = Some rows
uses seats rows (Given name text ∷ rest) = option_and_then (λ now. uses seats now rest) (put name text rows)
uses [] rows (Word text ∷ rest) = None
uses (id ∷ seats) rows (Word text ∷ rest) = option_and_then (λ now. uses seats now rest) (put id text rows)

pub at_row-fresh : (id : Text) (change : Row → List Row) (missing rows : List Row) → has_row id rows ≡ false → at_row id change missing rows ≡ rows ++ missing
at_row-fresh id change missing [] fresh = refl
at_row-fresh id change missing (r ∷ rs) fresh = go (bytes_eq r.id id) refl (at_row-fresh id change missing rs)
  where
    go : (t : Bool) → bytes_eq r.id id ≡ t → (has_row id rs ≡ false → at_row id change missing rs ≡ rs ++ missing)
        → at_row id change missing (r ∷ rs) ≡ (r ∷ rs) ++ missing
    go true e next = absurd (true≢false (rw e at fresh))
    go false e next = rw (e, next (rw e at fresh)) refl

-- a use of such an argument, past its faults
pub use_is : (id : Text) (long : Option Text) (index : Option ℕ) (text : Text) (rows : List Row)
    → past (use_fault false (set_rule id long index) (text ∷ []) rows) (Some (used (set_rule id long index) (text ∷ []) rows)) ≡ put id text rows
use_is id long index text rows = go (has_row id rows) refl
  where
    go : (t : Bool) → has_row id rows ≡ t
        → past (use_fault false (set_rule id long index) (text ∷ []) rows) (Some (used (set_rule id long index) (text ∷ []) rows)) ≡ put id text rows
    go true e = rw e refl
    go false e =
        let without_it : at_row id (λ _. []) [] rows ≡ rows = at_row-fresh id (λ _. []) [] rows e ∙ append-nil rows in
        rw (e, without_it, at_row-fresh id (more_values CommandLine (text ∷ [])) (row id text ∷ []) rows e) refl

-- a piece, and then the rest
pub uses-given : (seats : List Text) (name text : Text) (rest : Option (List Piece)) (rows : List Row)
    → option_and_then (uses seats rows) (before (Given name text) rest) ≡ option_and_then (λ now. option_and_then (uses seats now) rest) (put name text rows)
uses-given seats name text None rows = sym (then-none (put name text rows))
uses-given seats name text (Some found) rows = refl

pub uses-word : (id : Text) (seats : List Text) (text : Text) (rest : Option (List Piece)) (rows : List Row)
    → option_and_then (uses (id ∷ seats) rows) (before (Word text) rest) ≡ option_and_then (λ now. option_and_then (uses seats now) rest) (put id text rows)
uses-word id seats text None rows = sym (then-none (put id text rows))
uses-word id seats text (Some found) rows = refl

pub uses-no_seat : (text : Text) (rest : Option (List Piece)) (rows : List Row) → option_and_then (uses [] rows) (before (Word text) rest) ≡ None
uses-no_seat text None rows = refl
uses-no_seat text (Some found) rows = refl
