-- Each step of a seat keeps the rule.
use Rattle.std.proofs.Common.{◌≡◌, ℕ, ◌+◌, ◌%◌, ◌^◌, ◌<◌, ◌≤◌, ◌≢◌, ◌⊎◌, eqb, cond, List, [], ◌∷◌, ◌++◌, length, get_or, set, Bool}
use Rattle.std.proofs.Common.{true, false, Option, Some, None, IfSome, unwrap_or, sym}
use Rattle.std.proofs.Common.{refl, ap, ◌∙◌, subst, inl, inr, ⊎_elim, arith, length-append, eq-eqb, ne_eqb, true≢false}
use mathlib.Core.Logic.{dite}
use mathlib.Core.Option.{none, some, some-injective}
use native.Mathlib.Decide.{ℕ_discrete}
use lib.ListN.{get_elem?}
use Rattle.atomic_table.specs.Table.{State, Step, step, keeps, takes, gives, Allows, put_back, rest}
use Rattle.atomic_table.proofs.Lists.{at_set, set_else, one_turn}
use Rattle.tdl_turn.specs.declared.view.View.{View}
use Rattle.tdl_turn.specs.declared.view.Mark.{Mark}
use Rattle.tdl_turn.specs.declared.view.Stage.{Stage}
use Rattle.tdl_turn.specs.declared.view.Stage.TheVariants.{Idle, Waiting, Holding, Learned, Out}
use Rattle.tdl_turn.specs.Numbers.{Among, AllBelow, Reads}
use Rattle.tdl_turn.specs.Tokens.{is_out, Sat, Settled}
use Rattle.tdl_turn.specs.inside.Views.{tickets_at, ticket_of, tickets, width, staged, at_stage, with_entries}
use Rattle.tdl_turn.specs.inside.Rule.{total, Course, words_of, At, Past, Fits, Home, Ruled}
use Rattle.tdl_turn.specs.inside.Plays.{drew, looked, learned, took, counted, entered, passed, read}
use Rattle.tdl_turn.proofs.Lists.{among_some, reads_self, reads_empty, reads_on, reads_more, reads_short, below_append, below_before}
use Rattle.tdl_turn.proofs.Sums.{set_there, total-set, total_le}

is_false : (b : Bool) → ¬ (b ≡ true) → b ≡ false
is_false true h = absurd (h refl)
is_false false h = refl

-- a seat that holds the turn has the empty slot
pub has_slot : {X E F : Type 0} (m : Sat X E F) → Settled m → is_out m.0.stage ≡ true → (t : ℕ) × (m.0.stage ≡ Out t) × (m.1 ≡ (0, None) ∷ [])
has_slot m settled holds = ⊎_elim (λ (e : (m.0.stage ≡ Idle) × (m.1 ≡ [])). absurd (true≢false (sym holds ∙ ap is_out e.0)))
    (λ (e : (t : ℕ) × (m.0.stage ≡ Out t) × (m.1 ≡ (0, None) ∷ [])). e) settled

module _ {E : Type 0} where
  abbrev course_with : Course E → ℕ → ℕ → Bool → (ℕ → ℕ) → Course E
  course_with c drawn served is-out holder = record c { drawn = drawn; served = served; out = is-out; holder = holder }

  -- beside the seat that is served, the others wait for later tickets
  others_wait : (c d : Course E) (j : ℕ) → c.holder c.served ≡ j → d.drawn ≡ c.drawn → ((t : ℕ) → d.holder t ≡ c.holder t)
      → (d.served ≡ c.served) ⊎ ((d.served ≡ c.served + 1) × (d.out ≡ false)) → (k : ℕ) (seen : List E) (stage : Stage) → k ≢ j → At c k seen stage
      → At d k seen stage
  others_wait c d j mine drawn held next k seen Idle other a = tt
  others_wait c d j mine drawn held next k seen (Waiting t) other a =
      let low = a.0 in let high = a.1 in
      let later : ¬ (t ≡ c.served) = λ e. other (sym a.2 ∙ (ap c.holder e ∙ mine)) in
      ⊎_elim (λ (e : d.served ≡ c.served). (omega arith, omega arith, held t ∙ a.2, λ f. absurd (later (f ∙ e))))
      (λ (e : (d.served ≡ c.served + 1) × (d.out ≡ false)). (
        let q = e.0 in let n : t ≢ c.served = later in omega arith,
        omega arith,
        held t ∙ a.2,
        λ f. e.1,
      )) next
  others_wait c d j mine drawn held next k seen (Holding t) other a = absurd (other (sym a.2 ∙ (ap c.holder a.0 ∙ mine)))
  others_wait c d j mine drawn held next k seen (Learned t) other a = absurd (other (sym a.0.2 ∙ (ap c.holder a.0.0 ∙ mine)))
  others_wait c d j mine drawn held next k seen (Out t) other a = absurd (other (sym a.0.2 ∙ (ap c.holder a.0.0 ∙ mine)))

  abbrev drawn_by : Course E → ℕ → ℕ → ℕ
  drawn_by c j t = cond (eqb t c.drawn) j (c.holder t)

  drawn_before : (c : Course E) (j t : ℕ) → t < c.drawn → drawn_by c j t ≡ c.holder t
  drawn_before c j t h = ap (λ b. cond b j (c.holder t)) (ne_eqb t c.drawn (λ e. omega arith))

  others_draw : (c : Course E) (j k : ℕ) (seen : List E) (stage : Stage) → At c k seen stage
      → At (course_with c (c.drawn + 1) c.served c.out (drawn_by c j)) k seen stage
  others_draw c j k seen Idle a = tt
  others_draw c j k seen (Waiting t) a = let h = a.1 in (a.0, omega arith, drawn_before c j t h ∙ a.2, a.3)
  others_draw c j k seen (Holding t) a = let h = a.1 in (a.0, omega arith, drawn_before c j t h ∙ a.2, a.3)
  others_draw c j k seen (Learned t) a = let h = a.0.1 in ((a.0.0, omega arith, drawn_before c j t h ∙ a.0.2, a.0.3), a.1)
  others_draw c j k seen (Out t) a = let h = a.0.1 in ((a.0.0, omega arith, drawn_before c j t h ∙ a.0.2, a.0.3), a.1)

module _ {X E F : Type 0} (history : X → List E) (fixed : X → F) (by : E → ℕ) (key : F) where
  abbrev St : Type 0
  St = State (Option X) (View E F)

  abbrev Rule : St → Type 0
  Rule = Ruled history fixed by key

  same_fixed : (x : X) → fixed x ≡ key → (o : Option F) → IfSome o (λ f. f ≡ key) → IfSome o (λ f. fixed x ≡ f)
  same_fixed x e None h = tt
  same_fixed x e (Some f) h = e ∙ sym h

  -- a seat goes to another stage, and may see all
  moved : (s : St) (r : Rule s) (j : ℕ) (v : View E F) → get_elem? s.views j ≡ some v
      → (ws : List ℕ) (hs : List (mathlib.Core.Option.Option (Option X))) (drawn served : ℕ) (is-out : Bool) (holder : ℕ → ℕ) (stage : Stage) (seen : List E)
      → ws ≡ words_of (course_with r.course drawn served is-out holder) → Home history fixed key r.course.log is-out hs → (is-out ≡ true → served < drawn)
      → tickets_at stage + served + r.course.drawn ≡ tickets_at v.stage + r.course.served + drawn → tickets_at stage ≤ width v
      → (seen ≡ v.seen) ⊎ (seen ≡ r.course.log)
      → At (course_with r.course drawn served is-out holder) j seen stage
      → ((k : ℕ) (u : View E F) → k ≢ j → At r.course k u.seen u.stage → At (course_with r.course drawn served is-out holder) k u.seen u.stage)
      → Rule (record { words = ws; homes = hs; views = set s.views j (staged v stage seen) })
  moved s r j v me ws hs drawn served is-out holder stage seen words home busy fair room grown at others =
      let c : Course E = r.course in
      let d : Course E = course_with c drawn served is-out holder in
      let w : View E F = staged v stage seen in
      let f = r.each j v me in
      let reads : Reads by c.log seen v.made = ⊎_elim (λ (e : seen ≡ v.seen). subst (λ (x : List E). Reads by c.log x v.made) (sym e) f.reads)
      (λ (e : seen ≡ c.log). subst (λ (x : List E). Reads by c.log x v.made) (sym e) (reads_self by c.log v.made)) grown in
      let past : (m : Mark E) → Past by v m → Past by w m = λ m p. (
        ⊎_elim (λ (e : seen ≡ v.seen). subst (λ (x : List E). Reads by x m.list m.numbers) (sym e) p.0)
            (λ (e : seen ≡ c.log). subst (λ (x : List E). Reads by x m.list m.numbers) (sym e)
            (reads_on by c.log v.seen m.list m.numbers v.made p.1 f.reads p.0)) grown,
        p.1,
      ) in
      let fits : Fits by key d j w = record {
        at = at;
        room = room;
        made = f.made;
        unmade = f.unmade;
        reads = reads;
        left = past v.left f.left;
        right = past v.right f.right;
        same = f.same;
      } in
      record {
        course = d;
        words = words;
        home = home;
        busy = busy;
        short = r.short;
        few = r.few;
        tickets_out = omega (arith, total-set tickets s.views j v w me, r.tickets_out, fair);
        numbers = omega (arith, total-set width s.views j v w me, r.numbers);
        numbered = r.numbered;
        whole = dite (ℕ_discrete c.latest j)
            (λ e. let is : r.whole.0 ≡ v = some-injective r.whole.0 v (sym r.whole.1 ∙ (ap (λ (x : ℕ). get_elem? s.views x) e ∙ me)) in (
              w,
              ap (λ (x : ℕ). get_elem? (set s.views j w) x) e ∙ set_there s.views j v w me,
              ⊎_elim (λ (g : seen ≡ v.seen). g ∙ (sym (ap (λ (x : View E F). x.seen) is) ∙ r.whole.2)) (λ (g : seen ≡ c.log). g) grown,
              subst (λ (x : View E F). 0 < width x) is r.whole.3,
            ))
            (λ ne. (r.whole.0, set_else s.views j c.latest w ne ∙ r.whole.1, r.whole.2, r.whole.3));
        each = λ k u e. ⊎_elim (λ (t : (k ≡ j) × (w ≡ u)). subst (λ (x : ℕ). Fits by key d x u) (sym t.0) (subst (Fits by key d j) t.1 fits))
            (λ (t : (k ≢ j) × (get_elem? s.views k ≡ some u)). let g = r.each k u t.1 in
            record {
              at = others k u t.0 g.at;
              room = g.room;
              made = g.made;
              unmade = g.unmade;
              reads = g.reads;
              left = g.left;
              right = g.right;
              same = g.same;
            }) (at_set s.views j k w u e);
      }

  -- what a step tells does not depend on it
  abbrev any : Step (Option X)
  any = step 1 0 0 0 none

  module _ (n id : ℕ) (m : Sat X E F) where
    pub draws : m.0.stage ≡ Idle → 0 < width m.0 → Allows Rule n id m 0 (λ y. (y + 1) % 2 ^ 64) (drew any m)
    draws idle stands s r wide me _ = let c : Course E = r.course in let none-out : tickets_at m.0.stage ≡ 0 = ap tickets_at idle in (
      at_stage m.0 (Waiting c.drawn),
      keeps,
      tt,
      moved s r id m.0 me _ s.homes (c.drawn + 1) c.served c.out (drawn_by c id) (Waiting c.drawn) m.0.seen
          (ap (λ (ws : List ℕ). set ws 0 ((get_or ws 0 0 + 1) % 2 ^ 64)) r.words ∙ ap (λ (x : ℕ). x ∷ (c.served % 2 ^ 64) ∷ length c.log ∷ [])
          (omega arith)) r.home (λ e. omega (arith, r.busy e))
          (omega arith) (omega arith) (inl refl) (
            omega (arith, r.tickets_out),
            omega arith,
            ap (λ b. cond b id (c.holder c.drawn)) (eq-eqb c.drawn c.drawn refl),
            λ e. is_false c.out
                (λ o. absurd (omega (arith, r.busy o))),
          )
          (λ k u ne a. others_draw c id k u.seen u.stage a),
      (c.drawn, ap (λ (ws : List ℕ). get_or ws 0 0) r.words, refl),
    )

    pub looks : (t : ℕ) → m.0.stage ≡ Waiting t → Allows Rule n id m 1 (λ y. y) (looked any m)
    looks t is s r wide me _ =
        let c : Course E = r.course in let τ : ℕ = ticket_of m.0.stage in
        let is' : m.0.stage ≡ Waiting τ = is ∙ ap Waiting (sym (ap ticket_of is)) in let one : tickets_at m.0.stage ≡ 1 = ap tickets_at is in
        let f = r.each id m.0 me in let a : At c id m.0.seen (Waiting τ) = subst (At c id m.0.seen) is' f.at in
        let found : get_or s.words 1 0 ≡ c.served % 2 ^ 64 = ap (λ (ws : List ℕ). get_or ws 1 0) r.words in
        let words : set s.words 1 (get_or s.words 1 0) ≡ words_of c = ap (λ (ws : List ℕ). set ws 1 (get_or ws 1 0)) r.words in
        let few : total tickets s.views ≤ total width s.views = total_le tickets width s.views (λ j v e. (r.each j v e).room) in
        let low = a.0 in let high = a.1 in
        dite (ℕ_discrete (get_or s.words 1 0) (τ % 2 ^ 64))
        (λ e. let now : c.served ≡ τ = one_turn c.served τ (2 ^ 64) a.0 (omega (arith, r.tickets_out, r.numbers, r.few)) (sym found ∙ e) in (
          at_stage m.0 (Holding τ),
          keeps,
          tt,
          moved s r id m.0 me _ s.homes c.drawn c.served c.out c.holder (Holding τ) m.0.seen words r.home r.busy (omega arith) (omega (arith, f.room))
              (inl refl) (sym now, a.1, a.2, a.3 (sym now)) (λ k u ne b. b),
          ((λ _. refl), λ ne. absurd (ne e)),
        ))
        (λ ne. (
          m.0,
          keeps,
          tt,
          moved s r id m.0 me _ s.homes c.drawn c.served c.out c.holder m.0.stage m.0.seen words r.home r.busy refl f.room
              (inl refl) f.at (λ k u _ b. b),
          ((λ e. absurd (ne e)), λ _. refl),
        ))

    pub learns : (t : ℕ) → m.0.stage ≡ Holding t → Allows Rule n id m 2 (λ y. y) (learned by any m)
    learns t is s r wide me _ =
        let c : Course E = r.course in let τ : ℕ = ticket_of m.0.stage in
        let is' : m.0.stage ≡ Holding τ = is ∙ ap Holding (sym (ap ticket_of is)) in let one : tickets_at m.0.stage ≡ 1 = ap tickets_at is in
        let f = r.each id m.0 me in let a : At c id m.0.seen (Holding τ) = subst (At c id m.0.seen) is' f.at in
        let words : set s.words 2 (get_or s.words 2 0) ≡ words_of c = ap (λ (ws : List ℕ). set ws 2 (get_or ws 2 0)) r.words in
        let more : List E = f.reads.0 in (
          staged m.0 (Learned τ) (m.0.seen ++ more),
          keeps,
          tt,
          moved s r id m.0 me _ s.homes c.drawn c.served c.out c.holder (Learned τ) (m.0.seen ++ more) words r.home r.busy (omega arith) (omega (
            arith,
            f.room,
          )) (inr (sym f.reads.1)) (a, sym f.reads.1) (λ k u ne b. b),
          (more, f.reads.2, refl),
        )

    pub fetches : (t : ℕ) → m.0.stage ≡ Learned t → Allows Rule n id m 1 (λ y. y) (took history fixed any m)
    fetches t is s r wide me _ =
        let c : Course E = r.course in let τ : ℕ = ticket_of m.0.stage in
        let is' : m.0.stage ≡ Learned τ = is ∙ ap Learned (sym (ap ticket_of is)) in let one : tickets_at m.0.stage ≡ 1 = ap tickets_at is in
        let f = r.each id m.0 me in let a : At c id m.0.seen (Learned τ) = subst (At c id m.0.seen) is' f.at in
        let words : set s.words 1 (get_or s.words 1 0) ≡ words_of c = ap (λ (ws : List ℕ). set ws 1 (get_or ws 1 0)) r.words in
        let home : Home history fixed key c.log false s.homes = subst (λ (b : Bool). Home history fixed key c.log b s.homes) a.0.3 r.home in
        let mine : c.holder c.served ≡ id = ap c.holder (sym a.0.0) ∙ a.0.2 in let is-served = a.0.0 in let is-drawn = a.0.1 in (
          at_stage m.0 (Out τ),
          takes 0 (Some home.0),
          ap (λ (hs : List (mathlib.Core.Option.Option (Option X))). get_elem? hs 0) home.1,
          moved s r id m.0 me _ _ c.drawn c.served true c.holder (Out τ) m.0.seen words (ap
              (λ (hs : List (mathlib.Core.Option.Option (Option X))). set hs 0 none) home.1) (λ _. omega arith)
              (omega arith) (omega (arith, f.room)) (inl refl) ((a.0.0, a.0.1, a.0.2, refl), a.1)
              (λ k u ne b. others_wait c (course_with c c.drawn c.served true c.holder) id mine refl (λ _. refl) (inl refl) k u.seen u.stage ne b),
          (home.0, home.2 ∙ sym a.1, same_fixed home.0 home.3 m.0.fixed f.same, refl),
        )

    pub counts : (t : ℕ) → m.0.stage ≡ Out t → Allows Rule n id m 2 (λ y. y) (counted any m)
    counts t is s r wide me _ =
        let c : Course E = r.course in let f = r.each id m.0 me in let a : At c id m.0.seen (Out t) = subst (At c id m.0.seen) is f.at in
        let words : set s.words 2 (get_or s.words 2 0) ≡ words_of c = ap (λ (ws : List ℕ). set ws 2 (get_or ws 2 0)) r.words in (
          m.0,
          keeps,
          tt,
          moved s r id m.0 me _ s.homes c.drawn c.served c.out c.holder m.0.stage m.0.seen words r.home r.busy refl f.room (inl refl) f.at (λ k u _ b. b),
          (refl, ap (λ (ws : List ℕ). get_or ws 2 0) r.words ∙ ap (λ (l : List E). length l) (sym a.1)),
        )

    pub reads : Allows Rule n id m 2 (λ y. y) (read by any m)
    reads s r wide me _ =
        let c : Course E = r.course in let f = r.each id m.0 me in
        let words : set s.words 2 (get_or s.words 2 0) ≡ words_of c = ap (λ (ws : List ℕ). set ws 2 (get_or ws 2 0)) r.words in
        let found : get_or s.words 2 0 ≡ length c.log = ap (λ (ws : List ℕ). get_or ws 2 0) r.words in (
          m.0,
          keeps,
          tt,
          moved s r id m.0 me _ s.homes c.drawn c.served c.out c.holder m.0.stage m.0.seen words r.home r.busy refl f.room (inl refl) f.at (λ k u _ b. b),
          (
            refl,
            omega (arith, reads_short by c.log m.0.seen m.0.made f.reads),
            f.left.0,
            f.right.0,
            ⊎_elim (λ e. inl e) (λ e. inr (subst (λ n. AllBelow by n m.0.seen) (sym e.0)
                (below_before by c.next m.0.seen f.reads.0 (subst (AllBelow by c.next) f.reads.1 r.numbered)))) f.unmade,
          ),
        )

    pub passes : (t : ℕ) (x : X) → m.0.stage ≡ Out t → m.1 ≡ (0, Some x) ∷ [] → history x ≡ m.0.seen → m.0.fixed ≡ Some (fixed x)
        → Allows Rule n id m 1 (λ y. (y + 1) % 2 ^ 64) (passed any m)
    passes t x is holds has fits s r wide me _ =
        let c : Course E = r.course in let f = r.each id m.0 me in let a : At c id m.0.seen (Out t) = subst (At c id m.0.seen) is f.at in
        let one : tickets_at m.0.stage ≡ 1 = ap tickets_at is in
        let home : s.homes ≡ none ∷ [] = subst (λ (b : Bool). Home history fixed key c.log b s.homes) a.0.3 r.home in
        let back : put_back s.homes m.1 ≡ some (Some x) ∷ [] = ap (put_back s.homes) holds ∙ ap
        (λ (hs : List (mathlib.Core.Option.Option (Option X))). set hs 0 (some (Some x))) home in
        let same : fixed x ≡ key = subst (λ (o : Option F). IfSome o (λ f. f ≡ key)) fits f.same in let mine : c.holder c.served ≡ id =
        ap c.holder (sym a.0.0) ∙ a.0.2 in
        let is-served = a.0.0 in let is-drawn = a.0.1 in (
          at_stage m.0 Idle,
          gives,
          tt,
          moved s r id m.0 me _ _ c.drawn (c.served + 1) false c.holder Idle m.0.seen
              (ap (λ (ws : List ℕ). set ws 1 ((get_or ws 1 0 + 1) % 2 ^ 64)) r.words ∙ ap (λ (y : ℕ). (c.drawn % 2 ^ 64) ∷ y ∷ length c.log ∷ []) (omega arith))
              (x, back, has ∙ a.1, same) (λ e. absurd (true≢false (sym e))) (omega arith) (omega arith) (inl refl) tt
              (λ k u ne b. others_wait c (course_with c c.drawn (c.served + 1) false c.holder) id mine refl
              (λ _. refl) (inr (refl, refl)) k u.seen u.stage ne b),
          ap (λ (l : List (ℕ × Option X)). (at_stage m.0 Idle, rest l)) holds,
        )

    pub enters : (t : ℕ) (x : X) (e : E) → m.0.stage ≡ Out t → m.1 ≡ (0, Some x) ∷ [] → history x ≡ m.0.seen ++ e ∷ [] → by e ≡ m.0.number
        → Among m.0.number m.0.made → length (history x) < 2 ^ 64
        → Allows Rule n id m 2 (λ y. (y + 1) % 2 ^ 64) (entered history any m)
    enters t x e is holds has whose own short s r wide me _ =
        let c : Course E = r.course in let f = r.each id m.0 me in let a : At c id m.0.seen (Out t) = subst (At c id m.0.seen) is f.at in
        let mine : c.holder c.served ≡ id = ap c.holder (sym a.0.0) ∙ a.0.2 in
        let grown : history x ≡ c.log ++ e ∷ [] = has ∙ ap (λ (l : List E). l ++ e ∷ []) a.1 in
        let long : length (history x) ≡ length c.log + 1 = ap (λ (l : List E). length l) grown ∙ length-append c.log (e ∷ []) in
        let ours : (by e < c.next) × (c.who (by e) ≡ id) = f.made (by e) (subst (λ (y : ℕ). Among y m.0.made) (sym whose) own) in
        let d : Course E = record c { log = history x; latest = id } in
        let w : View E F = with_entries m.0 (history x) in
        let home : s.homes ≡ none ∷ [] = subst (λ (b : Bool). Home history fixed key c.log b s.homes) a.0.3 r.home in
        let fits : Fits by key d id w = record {
          at = subst (At d id (history x)) (sym is) (a.0, refl);
          room = f.room;
          made = f.made;
          unmade = f.unmade;
          reads = reads_self by (history x) m.0.made;
          left = (reads_empty by (history x), λ y h. absurd h);
          right = (reads_empty by (history x), λ y h. absurd h);
          same = f.same;
        } in (
          w,
          keeps,
          tt,
          record {
            course = d;
            words = ap (λ (ws : List ℕ). set ws 2 ((get_or ws 2 0 + 1) % 2 ^ 64)) r.words ∙ ap (λ (y : ℕ). (c.drawn % 2 ^ 64) ∷ (c.served % 2 ^ 64) ∷ y ∷ [])
                (omega arith);
            home = subst (λ (b : Bool). Home history fixed key (history x) b s.homes) (sym a.0.3) home;
            busy = r.busy;
            short = short;
            few = r.few;
            tickets_out = omega (arith, total-set tickets s.views id m.0 w me, r.tickets_out);
            numbers = omega (arith, total-set width s.views id m.0 w me, r.numbers);
            numbered = subst (Rattle.tdl_turn.specs.Numbers.AllBelow by c.next) (sym grown) (below_append by c.next c.log (e ∷ []) r.numbered (ours.0, tt));
            whole = (w, set_there s.views id m.0 w me, refl, among_some m.0.number m.0.made own);
            each = λ k u at. ⊎_elim (λ (q : (k ≡ id) × (w ≡ u)). subst (λ (y : ℕ). Fits by key d y u) (sym q.0) (subst (Fits by key d id) q.1 fits))
                (λ (q : (k ≢ id) × (get_elem? s.views k ≡ some u)). let g = r.each k u q.1 in let apart = q.0 in record {
                  at = others_wait c d id mine refl (λ _. refl) (inl refl) k u.seen u.stage q.0 g.at;
                  room = g.room;
                  made = g.made;
                  unmade = g.unmade;
                  reads = subst (λ (l : List E). Reads by l u.seen u.made) (sym grown) (reads_more by c.log u.seen u.made e
                      (λ h. apart (sym (g.made (by e) h).1 ∙ ours.1)) g.reads);
                  left = g.left;
                  right = g.right;
                  same = g.same;
                }) (at_set s.views id k w u at);
          },
          λ y other. ap (λ (h : List E). (with_entries m.0 h, m.1)) (ap (λ (l : List (ℕ × Option X)). history (unwrap_or (get_or l 0 (0, Some x)).1 x))
              (sym holds ∙ other)),
        )
