-- Desks after changes, and what a desk in use stands for.
--     same_then                  the same as the same
--     made_same                  a change keeps desks the same
--     if_due, due_same           a change that is due, or not
--     after_more                 one change more
--     Stand                      from a cycle on, what is kept is the desk of these changes
--     stands_made                a change more, which what is kept makes
--     stands_same                what is kept is kept otherwise, from a later cycle on
use Rattle.std.proofs.Common.{◌≡◌, ◌≤◌, ◌==◌, ℕ, Bool, true, false, nat_le, if◌then◌else◌, Some, List, [], ◌∷◌, ◌++◌, refl, sym, ap}
use Rattle.std.proofs.Common.{◌∙◌, subst, arith}
use Rattle.tdl_desk.specs.declared.changes.Change.{Change}
use Rattle.tdl_desk.specs.declared.changes.Change.TheVariants.{Set, Hush, Mute, Unmute, Solo, Unsolo, UnmuteAll, UnsoloAll}
use Rattle.tdl_desk.specs.declared.changes.Dated.{Dated}
use Rattle.tdl_desk.specs.Desk.{Desk, AreSame, at_orbit, desk, desk_after, empty_desk, with_change}

-- ---- desks that are the same
pub same_then : {P : Type 0} (a b c : Desk P) → AreSame a b → AreSame b c → AreSame a c
same_then a b c one other = record {
  pattern = λ o h. one.pattern o h ∙ other.pattern o h;
  muted = λ o h. one.muted o h ∙ other.muted o h;
  soloed = λ o h. one.soloed o h ∙ other.soloed o h;
}

placed : {A : Type 0} (orbit o : ℕ) (value : A) (f g : ℕ → A) → f o ≡ g o → at_orbit orbit value f o ≡ at_orbit orbit value g o
placed orbit o value f g e = ap (λ x. if orbit == o then value else x) e

pub made_same : {P : Type 0} (ch : Change P) (a b : Desk P) → AreSame a b → AreSame (with_change ch a) (with_change ch b)
made_same (Set orbit pattern) a b s = record {
  pattern = λ o h. placed orbit o (Some pattern) a.pattern b.pattern (s.pattern o h);
  muted = s.muted;
  soloed = s.soloed;
}
made_same Hush a b s = record { pattern = λ o h. refl; muted = s.muted; soloed = s.soloed }
made_same (Mute orbit) a b s = record { pattern = s.pattern; muted = λ o h. placed orbit o true a.muted b.muted (s.muted o h); soloed = s.soloed }
made_same (Unmute orbit) a b s = record { pattern = s.pattern; muted = λ o h. placed orbit o false a.muted b.muted (s.muted o h); soloed = s.soloed }
made_same (Solo orbit) a b s = record { pattern = s.pattern; muted = s.muted; soloed = λ o h. placed orbit o true a.soloed b.soloed (s.soloed o h) }
made_same (Unsolo orbit) a b s = record { pattern = s.pattern; muted = s.muted; soloed = λ o h. placed orbit o false a.soloed b.soloed (s.soloed o h) }
made_same UnmuteAll a b s = record { pattern = s.pattern; muted = λ o h. refl; soloed = s.soloed }
made_same UnsoloAll a b s = record { pattern = s.pattern; muted = s.muted; soloed = λ o h. refl }

-- ---- a change that is due, or not
abbrev pub if_due : {P : Type 0} → Bool → Change P → Desk P → Desk P
if_due due ch d = if due then with_change ch d else d

pub due_same : {P : Type 0} (due : Bool) (ch : Change P) (a b : Desk P) → AreSame a b → AreSame (if_due due ch a) (if_due due ch b)
due_same true ch a b s = made_same ch a b s
due_same false ch a b s = s

pub after_more : {P : Type 0} (changes : List (Dated P)) (d : Dated P) (cycle : ℕ) (a : Desk P)
    → desk_after a (changes ++ d ∷ []) cycle ≡ if_due (nat_le d.boundary cycle) d.change (desk_after a changes cycle)
after_more [] d cycle a = refl
after_more (x ∷ changes) d cycle a = after_more changes d cycle _

-- ---- what is kept, by cycle, stands for changes
abbrev pub Stand : {P : Type 0} → (ℕ → Desk P) → ℕ → List (Dated P) → Type 0
Stand at from changes = (cycle : ℕ) → from ≤ cycle → AreSame (desk changes cycle) (at cycle)

pub stands_made : {P : Type 0} (before after : ℕ → Desk P) (from : ℕ) (changes : List (Dated P)) (d : Dated P)
    → ((cycle : ℕ) → from ≤ cycle → AreSame (if_due (nat_le d.boundary cycle) d.change (before cycle)) (after cycle))
    → Stand before from changes → Stand after from (changes ++ d ∷ [])
stands_made before after from changes d makes stands = λ cycle later.
    subst (λ a. AreSame a (after cycle)) (sym (after_more changes d cycle empty_desk))
    (same_then _ _ _ (due_same (nat_le d.boundary cycle) d.change (desk changes cycle) (before cycle) (stands cycle later)) (makes cycle later))

pub stands_same : {P : Type 0} (before after : ℕ → Desk P) (from to : ℕ) (changes : List (Dated P)) → from ≤ to
    → ((cycle : ℕ) → to ≤ cycle → AreSame (before cycle) (after cycle)) → Stand before from changes → Stand after to changes
stands_same before after from to changes low same stands = λ cycle later.
    same_then _ _ _ (stands cycle (omega (arith, low, later))) (same cycle later)
