-- Worked desks.
use Rattle.std.proofs.Common.{◌≡◌, ℕ, true, false, Some, None, List, [], ◌∷◌, map, refl}
use Rattle.tdl_desk.specs.declared.changes.Change.TheVariants.{Set, Hush, Mute, Solo, UnmuteAll}
use Rattle.tdl_desk.specs.declared.changes.Dated.{Dated}
use Rattle.tdl_desk.specs.Desk.{desk, is_audible}

-- a jump to cycle 8, and after it a pattern from cycle 1 on: the later call counts
abbrev jump : List (Dated ℕ)
jump = record { boundary = 8; change = Set 1 50 } ∷ record { boundary = 1; change = Set 1 60 } ∷ []

the_later_call_counts : map (λ cycle. (desk jump cycle).pattern 1) (0 ∷ 1 ∷ 7 ∷ 8 ∷ 9 ∷ []) ≡ None ∷ Some 60 ∷ Some 60 ∷ Some 60 ∷ Some 60 ∷ []
the_later_call_counts = refl

-- two orbits, the second muted and soloed: it alone is heard
abbrev soloed : List (Dated ℕ)
soloed = record { boundary = 0; change = Set 1 50 } ∷ record { boundary = 0; change = Set 2 60 } ∷ record { boundary = 0; change = Mute 2 }
    ∷ record { boundary = 0; change = Solo 2 } ∷ []

the_soloed_is_heard : map (is_audible (desk soloed 0)) (1 ∷ 2 ∷ 3 ∷ []) ≡ false ∷ true ∷ false ∷ []
the_soloed_is_heard = refl

-- hush takes the patterns, and leaves what is muted
abbrev hushed : List (Dated ℕ)
hushed = record { boundary = 0; change = Set 3 50 } ∷ record { boundary = 0; change = Mute 3 } ∷ record { boundary = 2; change = Hush }
    ∷ record { boundary = 3; change = UnmuteAll } ∷ []

hush_leaves_flags : map (λ cycle. (desk hushed cycle).pattern 3) (1 ∷ 2 ∷ []) ≡ Some 50 ∷ None ∷ []
hush_leaves_flags = refl

muted_until_all_are_unmuted : map (λ cycle. (desk hushed cycle).muted 3) (0 ∷ 2 ∷ 3 ∷ []) ≡ true ∷ true ∷ false ∷ []
muted_until_all_are_unmuted = refl
