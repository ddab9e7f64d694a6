-- What a parse of a mode's words gives: rows, or nothing where it has a fault.
use Rattle.std.proofs.Common.{◌≡◌, ◌&&◌, Bool, true, false, not, refl, List, [], ◌∷◌, drop, fold, Option, Some, None, sym, ap, ap₂, ◌∙◌}
use Rattle.std.proofs.Math.Bool.{or-true}
use Rattle.std.specs.Prelude.{if◌then◌else◌}
use Rattle.std.specs.List.{list_any}
use Rattle.std.specs.Option.{option_and_then}
use Rattle.clap.specs.Kinds.{Kinds, or_else}
use Rattle.clap.specs.Takes.{is_given}
use Rattle.clap.specs.Simple.{App, built, matches_of, names_of}
use Rattle.clap.specs.Faults.{built_fault, default_fault, defaults_fault, fault_of, settle_fault, walk_fault}
use Rattle.clap.specs.Walk.{Row, Rule, Text, has_row, nothing_held, rows_after, settled, walk, walk_from, with_default}
use Rattle.clap.proofs.FaultLemmas.{leaf_fault}
use Rattle.tdl_words.proofs.Past.{past, past-or}
use Rattle.tdl_words.proofs.Rules.{uses}
use Rattle.tdl_words.proofs.Walks.{All_utf8, HasOptions, HasSeats, ends, mode_shape, taken, walks}

-- no argument has a default, and none is required
abbrev pub AllOptional : List Rule → Type 0
AllOptional [] = Unit {0}
AllOptional (a ∷ rest) = (a.defaults ≡ []) × (a.required ≡ false) × AllOptional rest

same_both : {X : Type 0} (b : Bool) (x : X) → (if b then x else x) ≡ x
same_both true x = refl
same_both false x = refl

no_default_fault : (rows : List Row) (rules : List Rule) → AllOptional rules → defaults_fault rows rules ≡ []
unfolding defaults_fault
no_default_fault rows [] all = refl
no_default_fault rows (a ∷ rest) all =
    let same : with_default rows a ≡ rows = rw all.0 (same_both (has_row a.id rows) rows) in
    let none : default_fault rows a ≡ [] = rw (all.0, or-true) refl in
    rw (none, same) (no_default_fault rows rest all.2)

no_default : (rows : List Row) (rules : List Rule) → AllOptional rules → fold with_default rows rules ≡ rows
no_default rows [] all = refl
no_default rows (a ∷ rest) all =
    let same : with_default rows a ≡ rows = rw all.0 (same_both (has_row a.id rows) rows) in
    ap (λ rs. fold with_default rs rest) same ∙ no_default rows rest all.2

none_missing : (rows : List Row) (rules : List Rule) → AllOptional rules → list_any (λ (a : Rule). a.required && not (is_given a.id rows)) rules ≡ false
none_missing rows [] all = refl
none_missing rows (a ∷ rest) all = rw (all.1, none_missing rows rest all.2) refl

-- a built command without subcommands
abbrev pub leaf : Text → List Rule → App
leaf mode rules = record { top = mode_shape mode rules; subs = [] }

abbrev pub outcome : App → List Text → Option (List Row)
outcome app words = past (fault_of app words) (Some (matches_of app words))

abbrev at_leaf : App → List Text → Option (List Row)
at_leaf a words = past (built_fault a nothing_held words) (Some (rows_after a.top.rules (names_of a) words))

leaf_ends : (mode : Text) (rules : List Rule) → AllOptional rules → (words : List Text)
    → at_leaf (leaf mode rules) words ≡ ends mode rules (walk_from nothing_held) words
leaf_ends mode rules all words =
    let end = (walk rules [] nothing_held words).held in
    let rows = (settled rules end).rows in
    let finish = no_default rows rules all in
    let walk_faults = walk_fault (mode_shape mode rules) [] (walk_from nothing_held) words in
    let settle_faults = settle_fault rules false end in
    ap (λ faults. past faults (Some (rows_after rules [] words))) (leaf_fault (leaf mode rules) nothing_held words refl)
    ∙ rw (no_default_fault rows rules all, finish, none_missing rows rules all)
    (past-or walk_faults (or_else settle_faults []) (Some rows) ∙ ap (past walk_faults) (past-or settle_faults [] (Some rows))
    ∙ sym (past-or walk_faults settle_faults (Some rows)))

-- what the parse makes of the words after the mode
pub outcome_is : (app : App) (mode : Text) (rules : List Rule) (names seats : List Text) → built app ≡ leaf mode rules → app.top.no_binary_name ≡ false
    → AllOptional rules
    → HasOptions rules names → HasSeats rules 1 seats → (words : List Text) → All_utf8 (drop 1 words)
    → outcome app words ≡ option_and_then (uses seats []) (taken names None (drop 1 words))
outcome_is app mode rules names seats is after_name all options has words utf8 =
    ap₂ at_leaf is (rw after_name refl)
    ∙ leaf_ends mode rules all (drop 1 words)
    ∙ (walks mode rules names options (drop 1 words) utf8).0 seats [] None 1 has

pub outcome_ok : (app : App) (words : List Text) (rows : List Row) → fault_of app words ≡ [] → rows ≡ matches_of app words → outcome app words ≡ Some rows
outcome_ok app words rows none same = rw (none, same) refl

pub outcome_bad : (app : App) (words : List Text) → (fault_of app words ≡ [] → ⊥) → outcome app words ≡ None
outcome_bad app words some = go (fault_of app words) some
  where
    go : (faults : Kinds) → (faults ≡ [] → ⊥) → past faults (Some (matches_of app words)) ≡ None
    go [] none = absurd (none refl)
    go (k ∷ ks) none = refl
