-- The rule holds at the start, and what it says at the end.
use Rattle.std.proofs.Common.{◌≡◌, ℕ, ◌+◌, ◌-◌, ◌≢◌, List, [], ◌∷◌, length, Bool, true}
use Rattle.std.proofs.Common.{false, Option, Some, sym, refl, ap, ◌∙◌, subst, inr, ⊎_elim, arith, true≢false}
use mathlib.Core.Logic.{dite}
use mathlib.Core.Option.{some, some-injective}
use native.Mathlib.Decide.{ℕ_discrete}
use lib.ListN.{get_elem?}
use Rattle.atomic_table.specs.Table.{State, opening, Seen, Final}
use Rattle.tdl_turn.specs.declared.view.View.{View}
use Rattle.tdl_turn.specs.declared.view.Stage.TheVariants.{Idle}
use Rattle.tdl_turn.specs.inside.Views.{tickets_at, tickets, width, first_view}
use Rattle.tdl_turn.specs.inside.Rule.{total, Course, Fits, Home, Ruled}
use Rattle.tdl_turn.proofs.Lists.{reads_self, reads_empty}
use Rattle.tdl_turn.proofs.Sums.{at_one, term_le, terms_le, total_one}

module _ {X E F : Type 0} (history : X → List E) (fixed : X → F) (by : E → ℕ) (key : F) where
  abbrev V : Type 0
  V = View E F

  abbrev Rule : State (Option X) V → Type 0
  Rule = Ruled history fixed by key

  pub starts : (x : X) → history x ≡ [] → fixed x ≡ key → Rule (opening (0 ∷ 0 ∷ 0 ∷ []) (Some x ∷ []) (first_view key))
  starts x none same =
      let c : Course E = record { drawn = 0; served = 0; out = false; holder = λ _. 0; log = []; latest = 0; next = 1; who = λ _. 0; keeper = 0 } in
      let first : Fits by key c 0 (first_view key) = record {
        at = tt;
        room = omega arith;
        made = λ n h. ⊎_elim (λ (e : n ≡ 0). (omega arith, refl)) (λ (e : ⊥). absurd e) h;
        unmade = inr (refl, refl);
        reads = reads_self by [] (0 ∷ []);
        left = (reads_empty by [], λ n h. absurd h);
        right = (reads_empty by [], λ n h. absurd h);
        same = refl;
      } in
      record {
        course = c;
        words = refl;
        home = (x, refl, none, same);
        busy = λ e. absurd (true≢false (sym e));
        short = omega arith;
        few = omega arith;
        tickets_out = refl;
        numbers = refl;
        numbered = tt;
        whole = (first_view key, refl, refl, omega arith);
        each = λ k v e. let t = at_one (first_view key) v k e in subst (λ (y : ℕ). Fits by key c y v) (sym t.0) (subst (Fits by key c 0) t.1 first);
      }

  at_home : (log : List E) (is-out : Bool) (homes : List (mathlib.Core.Option.Option (Option X))) → ¬ (is-out ≡ true) → Home history fixed key log is-out homes
      → (x : X) × (homes ≡ some (Some x) ∷ []) × (history x ≡ log) × (fixed x ≡ key)
  at_home log true homes kept home = absurd (kept refl)
  at_home log false homes kept home = home

  -- the seat that stands for all numbers is the only one that stands for any
  pub closes : (id : ℕ) (v : V) (ws : List ℕ) (xs : List (Option X)) → v.stage ≡ Idle → length v.made + (9 - v.next) ≡ 9 → Final (Seen Rule id v) ws xs
      → (x : X) × (get_elem? xs 0 ≡ some (Some x)) × (history x ≡ v.seen) × (fixed x ≡ key)
  closes id v ws xs idle alone end =
      let s : State (Option X) V = end.0 in let r : Rule s = end.1.0 in let me : get_elem? s.views id ≡ some v = end.1.1 in let c : Course E = r.course in
      let f = r.each id v me in
      let all : width v ≡ total width s.views = let few = terms_le width s.views id in let part = term_le width s.views id v me in
      ⊎_elim (λ (e : v.next ≡ 9). omega (arith, r.numbers, r.few)) (λ (e : (v.next ≡ c.next) × (id ≡ c.keeper)). let n = e.0 in
      omega (arith, r.numbers, r.few)) f.unmade in
      let none : (k : ℕ) (u : V) → k ≢ id → get_elem? s.views k ≡ some u → width u ≡ 0 = λ k u ne e. omega (arith, terms_le width s.views id k v u ne me e) in
      let untaken : total tickets s.views ≡ tickets v = total_one tickets s.views id v me (λ k u ne e. omega (arith, none k u ne e, (r.each k u e).room)) in
      let idle' : tickets_at v.stage ≡ 0 = ap tickets_at idle in
      let home = at_home c.log c.out s.homes (λ o. absurd (omega (arith, r.busy o, r.tickets_out))) r.home in
      let seen : v.seen ≡ c.log = dite (ℕ_discrete c.latest id)
      (λ e. let is : r.whole.0 ≡ v = some-injective r.whole.0 v (sym r.whole.1 ∙ (ap (λ (x : ℕ). get_elem? s.views x) e ∙ me)) in
      sym (ap (λ (x : V). x.seen) is) ∙ r.whole.2)
      (λ ne. absurd (omega (arith, none c.latest r.whole.0 ne r.whole.1, r.whole.3))) in
      (home.0, end.4 0 (Some home.0) (ap (λ (hs : List (mathlib.Core.Option.Option (Option X))). get_elem? hs 0) home.1), home.2 ∙ sym seen, home.3)
