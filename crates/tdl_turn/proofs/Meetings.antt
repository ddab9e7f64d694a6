-- A split and a join keep the rule.
use Rattle.std.proofs.Common.{◌≡◌, ℕ, ◌+◌, ◌<◌, ◌≤◌, ◌≢◌, ◌⊎◌, eqb, cond, min, List, [], ◌∷◌, ◌++◌}
use Rattle.std.proofs.Common.{length, set, sym, refl, ap, ◌∙◌, subst, inl, inr, ⊎_elim, arith, length-append, length-set, eq-eqb, ne_eqb}
use mathlib.Core.Logic.{dite}
use mathlib.Core.Option.{some, some-injective}
use native.Mathlib.Decide.{ℕ_discrete}
use lib.ListN.{get_elem?}
use Rattle.atomic_table.specs.Table.{State, Splits, Joins}
use Rattle.atomic_table.proofs.Lists.{at_set, set_else, at_longer}
use Rattle.std.specs.Prelude.{Option}
use Rattle.tdl_turn.specs.declared.view.View.{View}
use Rattle.tdl_turn.specs.declared.view.Stage.TheVariants.{Idle}
use Rattle.tdl_turn.specs.Numbers.{Among, longer}
use Rattle.tdl_turn.specs.inside.Views.{tickets_at, tickets, width, splitter, newcomer, joined, spent_view}
use Rattle.tdl_turn.specs.inside.Rule.{Course, At, Fits, Ruled}
use Rattle.tdl_turn.proofs.Lists.{among_left, among_right, among_either, all_seen, below_higher, reads_empty, reads_short, reads_new, met}
use Rattle.tdl_turn.proofs.Sums.{set_there, at_end, total-append, total-set}

module _ {X E F : Type 0} (history : X → List E) (fixed : X → F) (by : E → ℕ) (key : F) where
  abbrev V : Type 0
  V = View E F

  abbrev Rule : State (Option X) V → Type 0
  Rule = Ruled history fixed by key

  spent_fits : (c : Course E) (seat : ℕ) → Fits by key c seat spent_view
  spent_fits c seat = record {
    at = tt;
    room = omega arith;
    made = λ n h. absurd h;
    unmade = inl refl;
    reads = reads_empty by c.log;
    left = (reads_empty by [], λ n h. absurd h);
    right = (reads_empty by [], λ n h. absurd h);
    same = tt;
  }

  pub splits : (id : ℕ) (v : V) → v.next < 9 → Splits Rule id v (splitter v) (newcomer v)
  splits id v few s r me =
      let c : Course E = r.course in let f = r.each id v me in let w : V = splitter v in let u : V = newcomer v in
      let vs : List V = set s.views id w in let many : ℕ = length s.views in
      let long : length vs ≡ many = length-set s.views id w in
      let mine : (v.next ≡ c.next) × (id ≡ c.keeper) = ⊎_elim (λ (e : v.next ≡ 9). absurd (omega arith))
      (λ (e : (v.next ≡ c.next) × (id ≡ c.keeper)). e) f.unmade in
      let next : v.next ≡ c.next = mine.0 in
      let who : ℕ → ℕ = λ n. cond (eqb n c.next) many (c.who n) in
      let older : (n : ℕ) → n < c.next → who n ≡ c.who n = λ n h. ap (λ b. cond b many (c.who n)) (ne_eqb n c.next (λ e. omega arith)) in
      let d : Course E = record c { next = c.next + 1; who = who } in
      let made : (k : ℕ) (ns : List ℕ) → ((n : ℕ) → Among n ns → (n < c.next) × (c.who n ≡ k)) → (n : ℕ) → Among n ns → (n < c.next + 1) × (who n ≡ k) =
      λ k ns old n h.
      let low = (old n h).0 in (omega arith, older n low ∙ (old n h).1) in
      let split : Fits by key d id w = record {
        at = f.at;
        room = f.room;
        made = made id v.made f.made;
        unmade = inr (omega arith, mine.1);
        reads = f.reads;
        left = f.left;
        right = f.right;
        same = f.same;
      } in
      let new : Fits by key d many u = record {
        at = tt;
        room = omega arith;
        made = λ n h. ⊎_elim (λ (e : n ≡ v.next). (omega arith, ap (λ b. cond b many (c.who n)) (eq-eqb n c.next (e ∙ next)))) (λ (e : ⊥). absurd e) h;
        unmade = inl refl;
        reads = reads_new by c.log v.seen v.made v.next c.next next r.numbered f.reads;
        left = (reads_empty by v.seen, λ n h. absurd h);
        right = (reads_empty by v.seen, λ n h. absurd h);
        same = f.same;
      } in
      record {
        course = d;
        words = r.words;
        home = r.home;
        busy = r.busy;
        short = r.short;
        few = omega arith;
        tickets_out = omega (arith, total-append tickets vs (u ∷ []), total-set tickets s.views id v w me, r.tickets_out);
        numbers = omega (arith, total-append width vs (u ∷ []), total-set width s.views id v w me, r.numbers);
        numbered = below_higher by c.next (c.next + 1) c.log (omega arith) r.numbered;
        whole = dite (ℕ_discrete c.latest id)
            (λ e. let is : r.whole.0 ≡ v = some-injective r.whole.0 v (sym r.whole.1 ∙ (ap (λ (x : ℕ). get_elem? s.views x) e ∙ me)) in (
              w,
              ap (λ (x : ℕ). get_elem? (vs ++ u ∷ []) x) e ∙ at_longer vs (u ∷ []) id w (set_there s.views id v w me),
              sym (ap (λ (x : V). x.seen) is)
                  ∙ r.whole.2,
              subst (λ (x : V). 0 < width x) is r.whole.3,
            ))
            (λ ne. (r.whole.0, at_longer vs (u ∷ []) c.latest r.whole.0 (set_else s.views id c.latest w ne ∙ r.whole.1), r.whole.2, r.whole.3));
        each = λ k x e. ⊎_elim
            (λ (t : get_elem? vs k ≡ some x). ⊎_elim (λ (q : (k ≡ id) × (w ≡ x)). subst
            (λ (y : ℕ). Fits by key d y x) (sym q.0) (subst (Fits by key d id) q.1 split))
            (λ (q : (k ≢ id) × (get_elem? s.views k ≡ some x)). let g = r.each k x q.1 in let other = q.0 in record {
              at = g.at;
              room = g.room;
              made = made k x.made g.made;
              unmade = inl (⊎_elim (λ (p : x.next ≡ 9). p) (λ (p : (x.next ≡ c.next) × (k ≡ c.keeper)). absurd (other (p.1 ∙ sym mine.1))) g.unmade);
              reads = g.reads;
              left = g.left;
              right = g.right;
              same = g.same;
            }) (at_set s.views id k w x t))
            (λ (t : (k ≡ length vs) × (u ≡ x)). subst (λ (y : ℕ). Fits by key d y x) (sym (t.0 ∙ long)) (subst (Fits by key d many) t.1 new))
            (at_end vs u x k e);
      }

  pub joins : (id : ℕ) (v : V) (other : ℕ) (w : V) → v.stage ≡ Idle → w.stage ≡ Idle → Joins Rule id v other w (joined v w) spent_view
  joins id v other w idle rests s r me apart them =
      let c : Course E = r.course in let b : V = joined v w in let vs : List V = set s.views id b in
      let there : get_elem? s.views other ≡ some w = sym (set_else s.views id other b apart) ∙ them in
      let f = r.each id v me in let g = r.each other w there in
      let to : ℕ → ℕ = λ k. cond (eqb k other) id k in
      let stays : (k : ℕ) → k ≢ other → to k ≡ k = λ k ne. ap (λ x. cond x id k) (ne_eqb k other ne) in
      let goes : (k : ℕ) → k ≡ other → to k ≡ id = λ k e. ap (λ x. cond x id k) (eq-eqb k other e) in
      let here : to id ≡ id = stays id (λ e. apart (sym e)) in
      let d : Course E = record c { latest = to c.latest; who = λ n. to (c.who n); keeper = to c.keeper } in
      let m = met by c.log v.seen w.seen v.made w.made f.reads g.reads in
      let room : tickets_at v.stage ≡ 0 = ap tickets_at idle in let room' : tickets_at w.stage ≡ 0 = ap tickets_at rests in
      let long : length (v.made ++ w.made) ≡ length v.made + length w.made = length-append v.made w.made in
      let unmade : (min v.next w.next ≡ 9) ⊎ ((min v.next w.next ≡ c.next) × (id ≡ to c.keeper)) =
      ⊎_elim (λ (p : v.next ≡ 9). ⊎_elim (λ (q : w.next ≡ 9). inl (omega arith))
      (λ (q : (w.next ≡ c.next) × (other ≡ c.keeper)). let y = q.0 in inr (omega (arith, r.few), sym (goes c.keeper (sym q.1)))) g.unmade)
      (λ (p : (v.next ≡ c.next) × (id ≡ c.keeper)). let x = p.0 in inr (
        ⊎_elim (λ (q : w.next ≡ 9). omega (arith, r.few))
            (λ (q : (w.next ≡ c.next) × (other ≡ c.keeper)). let y = q.0 in omega arith) g.unmade,
        sym (ap to (sym p.1) ∙ here),
      )) f.unmade in
      let both : Fits by key d id b = record {
        at = subst (At d id (longer v.seen w.seen)) (sym idle) tt;
        room = omega arith;
        made = λ n h. ⊎_elim (λ (x : Among n v.made). let o = f.made n x in (o.0, ap to o.1 ∙ here)) (λ (x : Among n w.made). let o = g.made n x in
            (o.0, goes (c.who n) o.1)) (among_either n v.made w.made h);
        unmade = unmade;
        reads = m.0;
        left = (m.1, λ n h. among_left n v.made w.made h);
        right = (m.2, λ n h. among_right n v.made w.made h);
        same = f.same;
      } in
      let at_both : get_elem? (set vs other spent_view) id ≡ some b = set_else vs other id spent_view (λ e. apart (sym e)) ∙ set_there s.views id v b me in
      let full : (z : List E) → z ≡ c.log → length z ≤ length (longer v.seen w.seen) → longer v.seen w.seen ≡ c.log = λ z e h.
      let l = ap (λ (q : List E). length q) e in all_seen c.log (longer v.seen w.seen) m.0.0 m.0.1 (omega arith) in
      record {
        course = d;
        words = r.words;
        home = r.home;
        busy = r.busy;
        short = r.short;
        few = r.few;
        tickets_out = omega (arith, total-set tickets s.views id v b me, total-set tickets vs other w spent_view them, r.tickets_out);
        numbers = omega (arith, total-set width s.views id v b me, total-set width vs other w spent_view them, r.numbers);
        numbered = r.numbered;
        whole = dite (ℕ_discrete c.latest other)
            (λ e. let is : r.whole.0 ≡ w = some-injective r.whole.0 w (sym r.whole.1 ∙ (ap (λ (x : ℕ). get_elem? s.views x) e ∙ there)) in
            let n : 0 < width w = subst (λ (x : V). 0 < width x) is r.whole.3 in (
              b,
              ap (λ (x : ℕ). get_elem? (set vs other spent_view) x) (goes c.latest e) ∙ at_both,
              full w.seen (sym (ap (λ (x : V). x.seen) is)
                  ∙ r.whole.2) (reads_short by (longer v.seen w.seen) w.seen w.made m.2),
              omega arith,
            ))
            (λ ne. dite (ℕ_discrete c.latest id)
            (λ e. let is : r.whole.0 ≡ v = some-injective r.whole.0 v (sym r.whole.1 ∙ (ap (λ (x : ℕ). get_elem? s.views x) e ∙ me)) in
            let n : 0 < width v = subst (λ (x : V). 0 < width x) is r.whole.3 in (
              b,
              ap (λ (x : ℕ). get_elem? (set vs other spent_view) x) (stays c.latest ne ∙ e) ∙ at_both,
              full v.seen (sym (ap (λ (x : V). x.seen) is)
                  ∙ r.whole.2) (reads_short by (longer v.seen w.seen) v.seen v.made m.1),
              omega arith,
            ))
            (λ off. (
              r.whole.0,
              ap (λ (x : ℕ). get_elem? (set vs other spent_view) x) (stays c.latest ne) ∙ (set_else vs other c.latest spent_view ne
                  ∙ (set_else s.views id c.latest b off ∙ r.whole.1)),
              r.whole.2,
              r.whole.3,
            )));
        each = λ k u e. ⊎_elim (λ (t : (k ≡ other) × (spent_view ≡ u)). subst (Fits by key d k) t.1 (spent_fits d k))
            (λ (t : (k ≢ other) × (get_elem? vs k ≡ some u)). ⊎_elim (λ (q : (k ≡ id) × (b ≡ u)). subst
            (λ (y : ℕ). Fits by key d y u) (sym q.0) (subst (Fits by key d id) q.1 both))
            (λ (q : (k ≢ id) × (get_elem? s.views k ≡ some u)). let h = r.each k u q.1 in record {
              at = h.at;
              room = h.room;
              made = λ n a. let o = h.made n a in (o.0, ap to o.1 ∙ stays k t.0);
              unmade = ⊎_elim (λ (p : u.next ≡ 9). inl p) (λ (p : (u.next ≡ c.next) × (k ≡ c.keeper)). inr (p.0, sym (ap to (sym p.1) ∙ stays k t.0))) h.unmade;
              reads = h.reads;
              left = h.left;
              right = h.right;
              same = h.same;
            }) (at_set s.views id k b u t.1)) (at_set vs other k spent_view u e);
      }
