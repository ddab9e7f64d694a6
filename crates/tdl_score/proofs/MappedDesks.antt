-- Desks of changes whose patterns are mapped.
--     IsSeen             one desk is the other, with each pattern mapped
--     desk_mapped        the desk of mapped changes
--     audible_mapped     what is heard of it
--     heard_due          the rows of an orbit that are due, by the program that is heard there
use Rattle.std.proofs.Common.{◌≡◌, ℕ, Bool, true, false, not, ◌==◌, ◌||◌, nat_le, if◌then◌else◌, Option, Some, None, option_map, List, [], ◌∷◌, ◌++◌, map}
use Rattle.std.proofs.Common.{refl, sym, ap, ap₂, ◌∙◌}
use Rattle.std.specs.List.{list_any}
use Rattle.tdl_desk.specs.declared.changes.Change.{Change}
use Rattle.tdl_desk.specs.declared.changes.Change.TheVariants.{Set, Hush, Mute, Unmute, Solo, Unsolo, UnmuteAll, UnsoloAll}
use Rattle.tdl_desk.specs.declared.changes.Dated.{Dated}
use Rattle.tdl_desk.specs.Changes.{map_change}
use Rattle.tdl_desk.specs.Desk.{Desk, with_change, empty_desk, desk_after, desk, is_audible, orbits}
use Rattle.tdl_compile.specs.Compiled.{Compiled}
use Rattle.tdl_event.specs.declared.rows.Row.{Row}
use Rattle.tdl_score.specs.Programs.{dated_tree, due, program_tree}
use Rattle.tdl_score.specs.Score.{orbit_rows, pattern_rows}

pub record IsSeen {P Q : Type 0} (f : P → Q) (one : Desk P) (other : Desk Q) : Type 0 where
  pub pattern : (orbit : ℕ) → other.pattern orbit ≡ option_map f (one.pattern orbit)
  pub muted : (orbit : ℕ) → other.muted orbit ≡ one.muted orbit
  pub soloed : (orbit : ℕ) → other.soloed orbit ≡ one.soloed orbit

at_same : {A : Type 0} (b : Bool) (value x y : A) → x ≡ y → (if b then value else x) ≡ (if b then value else y)
at_same true value x y e = refl
at_same false value x y e = e

at_mapped : {P Q : Type 0} (f : P → Q) (b : Bool) (p : P) (x : Option Q) (y : Option P) → x ≡ option_map f y
    → (if b then Some (f p) else x) ≡ option_map f (if b then Some p else y)
at_mapped f true p x y e = refl
at_mapped f false p x y e = e

module _ {P Q : Type 0} (f : P → Q) where
  abbrev mapped : Dated P → Dated Q
  mapped dated = record { boundary = dated.boundary; change = map_change f dated.change }

  with_change_seen : (one : Desk P) (other : Desk Q) → IsSeen f one other → (change : Change P)
      → IsSeen f (with_change change one) (with_change (map_change f change) other)
  with_change_seen one other seen (Set orbit pattern) = record {
    pattern = λ o. at_mapped f (orbit == o) pattern (other.pattern o) (one.pattern o) (seen.pattern o);
    muted = seen.muted;
    soloed = seen.soloed;
  }
  with_change_seen one other seen Hush = record { pattern = λ o. refl; muted = seen.muted; soloed = seen.soloed }
  with_change_seen one other seen (Mute orbit) = record {
    pattern = seen.pattern;
    muted = λ o. at_same (orbit == o) true (other.muted o) (one.muted o) (seen.muted o);
    soloed = seen.soloed;
  }
  with_change_seen one other seen (Unmute orbit) = record {
    pattern = seen.pattern;
    muted = λ o. at_same (orbit == o) false (other.muted o) (one.muted o) (seen.muted o);
    soloed = seen.soloed;
  }
  with_change_seen one other seen (Solo orbit) = record {
    pattern = seen.pattern;
    muted = seen.muted;
    soloed = λ o. at_same (orbit == o) true (other.soloed o) (one.soloed o) (seen.soloed o);
  }
  with_change_seen one other seen (Unsolo orbit) = record {
    pattern = seen.pattern;
    muted = seen.muted;
    soloed = λ o. at_same (orbit == o) false (other.soloed o) (one.soloed o) (seen.soloed o);
  }
  with_change_seen one other seen UnmuteAll = record { pattern = seen.pattern; muted = λ o. refl; soloed = seen.soloed }
  with_change_seen one other seen UnsoloAll = record { pattern = seen.pattern; muted = seen.muted; soloed = λ o. refl }

  desk_after_mapped : (one : Desk P) (other : Desk Q) → IsSeen f one other → (changes : List (Dated P)) (cycle : ℕ)
      → IsSeen f (desk_after one changes cycle) (desk_after other (map mapped changes) cycle)
  desk_after_mapped one other seen [] cycle = seen
  desk_after_mapped one other seen (dated ∷ changes) cycle =
      desk_after_mapped (if nat_le dated.boundary cycle then with_change dated.change one else one)
      (if nat_le dated.boundary cycle then with_change (map_change f dated.change) other else other)
      (changed (nat_le dated.boundary cycle)) changes cycle
    where
      changed : (b : Bool) → IsSeen f (if b then with_change dated.change one else one)
          (if b then with_change (map_change f dated.change) other else other)
      changed true = with_change_seen one other seen dated.change
      changed false = seen

  pub desk_mapped : (changes : List (Dated P)) (cycle : ℕ) → IsSeen f (desk changes cycle) (desk (map mapped changes) cycle)
  desk_mapped changes cycle =
      desk_after_mapped empty_desk empty_desk (record { pattern = λ o. refl; muted = λ o. refl; soloed = λ o. refl }) changes cycle

list_any_same : {A : Type 0} (p q : A → Bool) → ((x : A) → p x ≡ q x) → (xs : List A) → list_any p xs ≡ list_any q xs
list_any_same p q same [] = refl
list_any_same p q same (x ∷ xs) = ap₂ (λ a b. a || b) (same x) (list_any_same p q same xs)

pub audible_mapped : {P Q : Type 0} (f : P → Q) (one : Desk P) (other : Desk Q) → IsSeen f one other → (orbit : ℕ)
    → is_audible other orbit ≡ is_audible one orbit
audible_mapped f one other seen orbit =
    ap (λ b. if b then other.soloed orbit else not (other.muted orbit)) (list_any_same other.soloed one.soloed seen.soloed orbits)
    ∙ ap₂ (λ s m. if list_any one.soloed orbits then s else not m) (seen.soloed orbit) (seen.muted orbit)

heard_rows : (kept : List (Dated Compiled)) (cycle orbit : ℕ) (program : Option Compiled)
    → program ≡ (if is_audible (desk kept cycle) orbit then (desk kept cycle).pattern orbit else None)
    → pattern_rows cycle orbit (option_map program_tree program) ≡ orbit_rows cycle (desk (map dated_tree kept) cycle) orbit
heard_rows kept cycle orbit program e =
    ap (λ (p : Option Compiled). pattern_rows cycle orbit (option_map program_tree p)) e
    ∙ by (is_audible (desk kept cycle) orbit) (seen.pattern orbit)
    ∙ sym (ap (λ b. if b then pattern_rows cycle orbit ((desk (map dated_tree kept) cycle).pattern orbit) else [])
    (audible_mapped program_tree (desk kept cycle) (desk (map dated_tree kept) cycle) seen orbit))
  where
    seen : IsSeen program_tree (desk kept cycle) (desk (map dated_tree kept) cycle)
    seen = desk_mapped program_tree kept cycle

    by : (b : Bool) → (desk (map dated_tree kept) cycle).pattern orbit ≡ option_map program_tree ((desk kept cycle).pattern orbit)
        → pattern_rows cycle orbit (option_map program_tree (if b then (desk kept cycle).pattern orbit else None))
        ≡ (if b then pattern_rows cycle orbit ((desk (map dated_tree kept) cycle).pattern orbit) else [])
    by true same = ap (pattern_rows cycle orbit) (sym same)
    by false same = refl

pub heard_due : (from to : ℕ) (kept : List (Dated Compiled)) (cycle orbit : ℕ) (program found : Option Compiled) (old made new : List Row)
    → found ≡ (if is_audible (desk kept cycle) orbit then (desk kept cycle).pattern orbit else None) → found ≡ program
    → new ≡ made → made ≡ old ++ due from to (pattern_rows cycle orbit (option_map program_tree program))
    → new ≡ old ++ due from to (orbit_rows cycle (desk (map dated_tree kept) cycle) orbit)
heard_due from to kept cycle orbit program found old made new e f now was =
    now ∙ was ∙ ap (λ rows. old ++ due from to rows) (heard_rows kept cycle orbit program (sym f ∙ e))
