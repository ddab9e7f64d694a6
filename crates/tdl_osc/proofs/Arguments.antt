-- The arguments of a map's entries, one entry at a time.
use Rattle.std.proofs.Common.{◌≡◌, ℕ, ◌+◌, ◌*◌, List, [], ◌∷◌, ◌++◌, length, get_or, take, Some, refl, sym, ap, ◌∙◌, append_assoc, append-nil}
use Rattle.std.proofs.Common.{length-append, arith}
use Rattle.std.specs.List.{slice_get, flat_map}
use Rattle.std.proofs.lemmas.Grind.{flat_map-append}
use Rattle.std.proofs.lemmas.List.{take_more}
use Rattle.std.proofs.lemmas.Option.{get_or_from_slice_get, slice_get_within}
use Rattle.tdl_control.specs.declared.keys.Key.{Key}
use Rattle.tdl_control.specs.Key.{name_of}
use Rattle.tdl_control.specs.Setting.{Setting, Number, Spelling}
use Rattle.tdl_control.specs.Map.{KeyValues}
use Rattle.tdl_osc.specs.Message.{Argument, Word, tag_of}
use Rattle.tdl_osc.specs.Bundle.{setting_argument, entry_arguments, control_arguments}

-- the pieces up to place i and that at it
flat_map_turn : {X A : Type 0} (f : X → List A) (xs : List X) (i : ℕ) (x : X) → slice_get xs i ≡ Some x
    → flat_map f (take (i + 1) xs) ≡ flat_map f (take i xs) ++ f x
flat_map_turn {X} f xs i x here =
    ap (flat_map f) (take_more xs i x (slice_get_within xs i x here))
    ∙ flat_map-append f (take i xs) (get_or xs i x ∷ [])
    ∙ ap (λ piece. flat_map f (take i xs) ++ piece) (append-nil (f (get_or xs i x)))
    ∙ ap (λ (y : X). flat_map f (take i xs) ++ f y) (get_or_from_slice_get xs i x x here)

-- what is made of the arguments up to place i, of the key there and of its setting
pub arguments_turn : (f : Argument → List ℕ) (es : KeyValues) (i : ℕ) (key : Key) (setting : Setting) → slice_get es i ≡ Some (key, setting)
    → flat_map f (control_arguments (take (i + 1) es)) ≡ flat_map f (control_arguments (take i es)) ++ (f (Word (name_of key)) ++ f (setting_argument setting))
arguments_turn f es i key setting here =
    ap (flat_map f) (flat_map_turn entry_arguments es i (key, setting) here)
    ∙ flat_map-append f (control_arguments (take i es)) (entry_arguments (key, setting))
    ∙ ap (λ piece. flat_map f (control_arguments (take i es)) ++ (f (Word (name_of key)) ++ piece)) (append-nil (f (setting_argument setting)))

-- a piece added to a text that has others already
pub adds_one : (start before piece total out new : List ℕ) → out ≡ start ++ before → new ≡ out ++ piece → total ≡ before ++ piece → new ≡ start ++ total
adds_one start before piece total out new so_far one whole =
    one ∙ ap (λ text. text ++ piece) so_far ∙ append_assoc start before piece ∙ ap (λ text. start ++ text) (sym whole)

-- two pieces added to a text that has others already
pub adds_two : (start before first second out mid new : List ℕ) → out ≡ start ++ before → mid ≡ out ++ first → new ≡ mid ++ second
    → new ≡ start ++ (before ++ (first ++ second))
adds_two start before first second out mid new so_far one two =
    two ∙ ap (λ text. text ++ second) (one ∙ ap (λ text. text ++ first) so_far)
    ∙ append_assoc (start ++ before) first second ∙ append_assoc start before (first ++ second)

-- an entry has two tags
tags_of_entry : (setting : Setting) → length (tag_of (setting_argument setting)) ≡ 1
tags_of_entry (Number number) = refl
tags_of_entry (Spelling bytes) = refl

pub length-tags : (es : KeyValues) → length (flat_map tag_of (control_arguments es)) ≡ 2 * length es
length-tags [] = refl
length-tags (e ∷ es) =
    let one = tags_of_entry e.1 in
    let rest = length-tags es in
    let parts = length-append (tag_of (setting_argument e.1)) (flat_map tag_of (control_arguments es)) in
    omega (arith, one, rest, parts)
