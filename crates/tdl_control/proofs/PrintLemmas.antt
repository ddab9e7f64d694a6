-- What the parts of a print leave in a text.
use Rattle.std.proofs.Common.{◌≡◌, ℕ, suc, ◌+◌, ◌-◌, ◌<◌, map, subst, codes, List, [], ◌∷◌, ◌++◌, length, get_or, take, drop, Result, Ok, Err, OnErr}
use Rattle.std.proofs.Common.{append_assoc, append-nil, add-one, refl, sym, ap, ◌∙◌, arith}
use Rattle.std.specs.List.{flat_map}
use Rattle.std.proofs.lemmas.Grind.{common_steps, flat_map-append}
use Rattle.std.proofs.lemmas.List.{take-append-drop}
use Rattle.std.proofs.Math.ListN.{get_or-map}
use Rattle.std.proofs.Math.Seq.{drop-cons, take-suc}
use Rattle.tdl_control.specs.declared.keys.Key.{Key}
use Rattle.tdl_control.specs.Setting.{Setting}
use Rattle.tdl_control.specs.Map.{KeyValues, entry_text, spaced_text, print_of}
use Rattle.tdl_control.specs.declared.maps.KeyValue.{KeyValue}
use Rattle.tdl_control.specs.KeyValue.{key_value_of}
use Rattle.tdl_control.specs.Text.{AddsPrefix}

-- a text that is as it was has nothing of it added
pub adds_nothing : (whole old new : List ℕ) → new ≡ old → AddsPrefix whole old new
adds_nothing whole old new same = record { added = []; rest = whole; parts = refl; after = same ∙ sym (append-nil old) }

-- a part of the second piece, after the whole first
pub adds_after : (first second old mid new : List ℕ) → mid ≡ old ++ first → AddsPrefix second mid new → AddsPrefix (first ++ second) old new
adds_after first second old mid new before part = record {
  added = first ++ part.added;
  rest = part.rest;
  parts = ap (λ piece. first ++ piece) part.parts ∙ sym (append_assoc first part.added part.rest);
  after = part.after ∙ ap (λ text. text ++ part.added) before ∙ append_assoc old first part.added;
}

-- a part of the first piece is a part of both
pub adds_within : (first second old new : List ℕ) → AddsPrefix first old new → AddsPrefix (first ++ second) old new
adds_within first second old new part = record {
  added = part.added;
  rest = part.rest ++ second;
  parts = ap (λ piece. piece ++ second) part.parts ∙ append_assoc part.added part.rest second;
  after = part.after;
}

-- a fact after an error, whatever came
pub on_err_always : {T E P : Type 0} (r : Result T E) → P → OnErr r P
on_err_always (Ok x) fact = tt
on_err_always (Err e) fact = fact

-- a list of pieces in one row: those before place i, the piece there, and those after
pub flat_map_at : {X : Type 0} (f : X → List ℕ) (xs : List X) (i : ℕ) (d : X) → i < length xs
    → flat_map f xs ≡ flat_map f (take i xs) ++ (f (get_or xs i d) ++ flat_map f (drop (suc i) xs))
flat_map_at f xs i d within =
    ap (flat_map f) (sym (take-append-drop i xs)) ∙ flat_map-append f (take i xs) (drop i xs)
    ∙ ap (λ rest. flat_map f (take i xs) ++ flat_map f rest) (drop-cons xs i d within)

-- the pieces up to place i and that at it
pub flat_map_more : {X : Type 0} (f : X → List ℕ) (xs : List X) (i : ℕ) (d : X) → i < length xs
    → flat_map f (take (i + 1) xs) ≡ flat_map f (take i xs) ++ f (get_or xs i d)
flat_map_more f xs i d within =
    ap (flat_map f) (rw add-one (take-suc xs i d within)) ∙ flat_map-append f (take i xs) (get_or xs i d ∷ [])
    ∙ ap (λ piece. flat_map f (take i xs) ++ piece) (append-nil (f (get_or xs i d)))

module _ (es : KeyValues) (i : ℕ) (e : Key × Setting) (within : i < length es) (here : get_or es i e ≡ e) (start out mid : List ℕ)
    (so_far : out ≡ start ++ spaced_text (take i es)) where
  -- the entries before the one at place i, that one, and those after
  spaced_text_at : spaced_text es ≡ spaced_text (take i es) ++ ((codes " " ++ entry_text e) ++ spaced_text (drop (suc i) es))
  spaced_text_at =
      flat_map_at (λ e. codes " " ++ entry_text e) es i e within
      ∙ ap (λ (d : Key × Setting). spaced_text (take i es) ++ ((codes " " ++ entry_text d) ++ spaced_text (drop (suc i) es))) here

  -- a print that stops before the space of an entry
  pub stops_before : (new : List ℕ) → new ≡ out → AddsPrefix (spaced_text es) start new
  stops_before new same =
      subst (λ whole. AddsPrefix whole start new) (sym spaced_text_at) (adds_after _ _ start out new so_far (adds_nothing _ out new same))

  -- one that stops within an entry
  pub stops_within : (new : List ℕ) → mid ≡ out ++ codes " " → AddsPrefix (entry_text e) mid new → AddsPrefix (spaced_text es) start new
  stops_within new space part =
      subst (λ whole. AddsPrefix whole start new) (sym spaced_text_at)
      (adds_after _ _ start out new so_far (adds_within _ _ out new (adds_after _ _ out mid new space part)))

  -- one that goes on
  pub goes_on : (new : List ℕ) → mid ≡ out ++ codes " " → new ≡ mid ++ entry_text e → new ≡ start ++ spaced_text (take (i + 1) es)
  goes_on new space whole =
      whole ∙ ap (λ text. text ++ entry_text e) (space ∙ ap (λ text. text ++ codes " ") so_far)
      ∙ append_assoc (start ++ spaced_text (take i es)) (codes " ") (entry_text e)
      ∙ append_assoc start (spaced_text (take i es)) (codes " " ++ entry_text e)
      ∙ ap (λ text. start ++ text)
      (sym (flat_map_more (λ e. codes " " ++ entry_text e) es i e within
      ∙ ap (λ (d : Key × Setting). spaced_text (take i es) ++ (codes " " ++ entry_text d)) here))

-- an entry read from a list is what the map has there
pub entry_at : (items : List KeyValue) (i : ℕ) (read : KeyValue) → read ≡ get_or items i read
    → get_or (map key_value_of items) i (key_value_of read) ≡ key_value_of read
entry_at items i read same = get_or-map key_value_of items i read ∙ ap key_value_of (sym same)

-- the print of a map that is not empty: its first entry, and the others after spaces
pub print_of-parts : (items : List KeyValue) (first : KeyValue) → 0 < length items → first ≡ get_or items 0 first
    → print_of (map key_value_of items) ≡ entry_text (key_value_of first) ++ spaced_text (map key_value_of (take (length items - 1) (drop 1 items)))
print_of-parts [] first some same = absurd (omega arith)
print_of-parts (x ∷ xs) first some same =
    let others : take (length (x ∷ xs) - 1) (drop 1 (x ∷ xs)) ≡ xs = grind (arith, common_steps) in
    ap (λ (e : KeyValue). entry_text (key_value_of e) ++ spaced_text (map key_value_of xs)) (sym same)
    ∙ ap (λ (es : List KeyValue). entry_text (key_value_of first) ++ spaced_text (map key_value_of es)) (sym others)
