-- Passes of callers side by side: made one after another, and met at the end.
use Rattle.std.proofs.Common.{◌≡◌, ℕ, ◌+◌, ◌≤◌, List, [], ◌∷◌, ◌++◌, length, take, drop, suc, min, Option, option_to_list}
use Rattle.std.proofs.Common.{refl, sym, ap, ◌∙◌, subst, inl, arith, append-nil, append_assoc, length-append}
use Rattle.std.proofs.Math.Nat.{min-eq_left}
use Rattle.std.proofs.Math.Seq.{take-length}
use Rattle.std.proofs.Math.ListN.{drop_of_length-le}
use Rattle.std.specs.Iterator.{Yields}
use Rattle.std.specs.Vec.Iter.{into_iter_items, into_iter_steps}
use Rattle.std.specs.declared.vec.IntoIter.{IntoIter}
use Rattle.atomic_table.specs.Seated.{TableId}
use Rattle.tdl_turn.specs.Numbers.{Among, Reads}
use Rattle.tdl_turn.proofs.Lists.{among_left, among_right, reads_on, reads_self}
use Rattle.tdl_session.specs.Passes.{PassView, IsPassOf}
use Rattle.tdl_session.specs.Gatherings.{SitsAt, StaysDone, EachEnded}
use Rattle.tdl_session.specs.inside.Beside.{AllMay, EachDid}
use Rattle.tdl_session.specs.inside.Spots.{SpotView, IsSingle, AreNew, AreSingle, after_splits, HaveMet, CalledAt, ends_of}

-- a list that was lent whole as a slice
pub written_back : {X : Type 0} (n : ℕ) (news items : List X) → length news ≡ length items → n ≡ length items
    → take n (news ++ drop (length news) items) ≡ news
written_back n news items same is = let none : drop (length news) items ≡ [] = drop_of_length-le items (omega (arith, same)) in
    ap (λ l. take n (news ++ l)) none ∙ (ap (λ l. take n l) (append-nil news) ∙ (ap (λ k. take k news) (is ∙ sym same) ∙ take-length news))

module _ {E F : Type 0} where
  abbrev split_of : PassView E F → PassView E F
  split_of p = record { table = p.table; fixed = p.fixed; number = p.next; made = p.next ∷ []; next = 9; seen = p.seen }

module _ {E F T : Type 0} (shared : TableId × F) where
  pub new_append : (number : ℕ) (seen : List E) (spots : List (SpotView E F T)) (s : SpotView E F T) → AreNew shared number seen spots
      → IsSingle shared s.pass → s.pass.number ≡ number + length spots → s.pass.seen ≡ seen → AreNew shared number seen (spots ++ s ∷ [])
  new_append number seen [] s h single is same = let first : s.pass.number ≡ number = omega (arith, is) in ((single, first, same), tt)
  new_append number seen (t ∷ spots) s h single is same = (h.0, new_append (number + 1) seen spots s h.1 single (omega arith) same)

  -- one pass more, where so many were made
  pub new_more : (p q new : PassView E F) (k : ℕ) (spots : List (SpotView E F T)) (s : SpotView E F T) → IsPassOf shared p → q ≡ after_splits p k
      → length spots ≡ k → new ≡ split_of q
      → s.pass ≡ new → AreNew shared p.next p.seen spots → AreNew shared p.next p.seen (spots ++ s ∷ [])
  new_more p q new k spots s of splits count made at h =
      let e : s.pass ≡ split_of (after_splits p k) = at ∙ (made ∙ ap split_of splits) in
      new_append p.next p.seen spots s h (subst (IsSingle shared) (sym e) (of, refl, refl))
      (ap (λ (x : PassView E F). x.number) e ∙ ap (λ n. p.next + n) (sym count)) (ap (λ (x : PassView E F). x.seen) e)

  pub new_sit : {D : Type 0} (number : ℕ) (callers : List D) (spots : List (SpotView E F T)) → length callers ≡ length spots → 1 ≤ number
      → number + length spots ≤ 9 → AreNew shared number [] spots
      → AllMay (λ (caller : D) (spot : SpotView E F T). SitsAt shared spot.pass) callers spots
  new_sit number [] [] same low high h = tt
  new_sit number [] (s ∷ spots) same low high h = absurd (omega arith)
  new_sit number (x ∷ callers) [] same low high h = absurd (omega arith)
  new_sit number (x ∷ callers) (s ∷ spots) same low high h = let one = h.0 in let is = one.1 in
      ((one.0.0, omega arith, omega arith, one.2), new_sit (number + 1) callers spots (omega arith) (omega arith) (omega arith) h.1)

  module _ {D : Type 0} (did : F → ℕ → List E → D → D → T → Type 0) (fixed : F) where
    pub single_after : (number : ℕ) (seen : List E) (xs ys : List D) (ps qs : List (SpotView E F T)) → AreNew shared number seen ps
        → EachDid (CalledAt did fixed) xs ys ps qs → AreSingle shared qs
    single_after number seen [] [] [] [] h k = tt
    single_after number seen [] [] [] (q ∷ qs) h k = elim k [ ]
    single_after number seen [] [] (p ∷ ps) qs h k = elim k [ ]
    single_after number seen [] (y ∷ ys) ps qs h k = elim k [ ]
    single_after number seen (x ∷ xs) [] ps qs h k = elim k [ ]
    single_after number seen (x ∷ xs) (y ∷ ys) [] qs h k = elim k [ ]
    single_after number seen (x ∷ xs) (y ∷ ys) (p ∷ ps) [] h k = elim k [ ]
    single_after number seen (x ∷ xs) (y ∷ ys) (p ∷ ps) (q ∷ qs) h k = let one = h.0.0 in let same = k.0.0 in (
      (
        (same.0 ∙ one.0.0, same.1 ∙ one.0.1),
        same.3 ∙ (one.1 ∙ ap (λ n. n ∷ []) (sym same.2)),
        same.4 ∙ one.2,
      ),
      single_after (number + 1) seen xs ys ps qs h.1 k.1,
    )

    pub count_after : (xs ys : List D) (ps qs : List (SpotView E F T)) → EachDid (CalledAt did fixed) xs ys ps qs → length qs ≡ length ps
    count_after [] [] [] [] k = refl
    count_after [] [] [] (q ∷ qs) k = elim k [ ]
    count_after [] [] (p ∷ ps) qs k = elim k [ ]
    count_after [] (y ∷ ys) ps qs k = elim k [ ]
    count_after (x ∷ xs) [] ps qs k = elim k [ ]
    count_after (x ∷ xs) (y ∷ ys) [] qs k = elim k [ ]
    count_after (x ∷ xs) (y ∷ ys) (p ∷ ps) [] k = elim k [ ]
    count_after (x ∷ xs) (y ∷ ys) (p ∷ ps) (q ∷ qs) k = ap suc (count_after xs ys ps qs k.1)

    pub each_ended : (by : E → ℕ) → StaysDone by did → (number : ℕ) (seen history : List E) (made : List ℕ) (xs ys : List D) (ps qs : List (SpotView E F T))
        → AreNew shared number seen ps → EachDid (CalledAt did fixed) xs ys ps qs → HaveMet by history made qs
        → EachEnded did fixed number history xs ys (ends_of qs)
    each_ended by stays number seen history made [] [] [] [] h k met = tt
    each_ended by stays number seen history made [] [] [] (q ∷ qs) h k met = elim k [ ]
    each_ended by stays number seen history made [] [] (p ∷ ps) qs h k met = elim k [ ]
    each_ended by stays number seen history made [] (y ∷ ys) ps qs h k met = elim k [ ]
    each_ended by stays number seen history made (x ∷ xs) [] ps qs h k met = elim k [ ]
    each_ended by stays number seen history made (x ∷ xs) (y ∷ ys) [] qs h k met = elim k [ ]
    each_ended by stays number seen history made (x ∷ xs) (y ∷ ys) (p ∷ ps) [] h k met = elim k [ ]
    each_ended by stays number seen history made (x ∷ xs) (y ∷ ys) (p ∷ ps) (q ∷ qs) h k met =
        let new = h.0 in let same = k.0.0 in let called = k.0.1 in let end = called.0 in
        let own : Among number q.pass.made = subst (Among number) (sym (same.3 ∙ (new.0.1 ∙ ap (λ n. n ∷ []) new.1))) (inl refl) in
        let did-it : did fixed number q.pass.seen x y end = subst (λ n. did fixed n q.pass.seen x y end) new.1 called.2 in
        subst (λ (e : Option T). EachEnded did fixed number history (x ∷ xs) (y ∷ ys) (option_to_list e ++ ends_of qs)) (sym called.1) (
          stays fixed number q.pass.made history q.pass.seen x y end own met.0.0 did-it,
          each_ended by stays (number + 1) seen history made xs ys ps qs h.1 k.1 met.1,
        )

module _ {E F : Type 0} where
  abbrev with_next : PassView E F → ℕ → PassView E F
  with_next p n = record { table = p.table; fixed = p.fixed; number = p.number; made = p.made; next = n; seen = p.seen }

  pub splits_more : (p q r : PassView E F) (k m : ℕ) → q ≡ after_splits p k → r ≡ after_splits q 1 → m ≡ k + 1 → r ≡ after_splits p m
  splits_more p q r k m e f more = let n : p.next + k + 1 ≡ p.next + m = omega (arith, more) in
      f ∙ (ap (λ (x : PassView E F). after_splits x 1) e ∙ ap (with_next p) n)

module _ {E F T : Type 0} (by : E → ℕ) where
  met_on : (now later : List E) (ns ms : List ℕ) (spots : List (SpotView E F T)) → Reads by later now ns → ((n : ℕ) → Among n ns → Among n ms)
      → HaveMet by now ns spots → HaveMet by later ms spots
  met_on now later ns ms [] r into h = tt
  met_on now later ns ms (s ∷ spots) r into h = let one = h.0 in
      ((reads_on by later now s.pass.seen s.pass.made ns one.1 r one.0, λ n a. into n (one.1 n a)), met_on now later ns ms spots r into h.1)

  met_append : (history : List E) (made : List ℕ) (spots : List (SpotView E F T)) (s : SpotView E F T) → HaveMet by history made spots
      → Reads by history s.pass.seen s.pass.made → ((n : ℕ) → Among n s.pass.made → Among n made) → HaveMet by history made (spots ++ s ∷ [])
  met_append history made [] s h reads into = ((reads, into), tt)
  met_append history made (t ∷ spots) s h reads into = (h.0, met_append history made spots s h.1 reads into)

  -- the passes of these spots have met with the first
  pub record Meeting (first pass : PassView E F) (spots : List (SpotView E F T)) : Type 0 where
    pub same : (pass.table ≡ first.table) × (pass.fixed ≡ first.fixed) × (pass.number ≡ first.number)
    pub made : length pass.made ≡ length first.made + length spots
    pub next : first.next ≤ 9 → pass.next ≡ first.next
    pub reads : Reads by pass.seen first.seen first.made
    pub among : (n : ℕ) → Among n first.made → Among n pass.made
    pub met : HaveMet by pass.seen pass.made spots

  pub meeting_none : (first : PassView E F) → Meeting first first []
  meeting_none first = record {
    same = (refl, refl, refl);
    made = omega arith;
    next = λ low. refl;
    reads = reads_self by first.seen first.made;
    among = λ n a. a;
    met = tt;
  }

  pub meeting_more : (shared : TableId × F) (first pass later : PassView E F) (spots : List (SpotView E F T)) (s : SpotView E F T) (o : PassView E F)
      → Meeting first pass spots → IsSingle shared s.pass → o ≡ s.pass
      → (later.table ≡ pass.table) × (later.fixed ≡ pass.fixed) × (later.number ≡ pass.number)
      → (later.made ≡ pass.made ++ o.made) × (later.next ≡ min pass.next o.next)
      → Reads by later.seen pass.seen pass.made → Reads by later.seen o.seen o.made
      → Meeting first later (spots ++ s ∷ [])
  meeting_more shared first pass later spots s o m single at same two this other =
      let numbers = subst (λ (x : PassView E F). (later.made ≡ pass.made ++ x.made) × (later.next ≡ min pass.next x.next)) at two in
      let that = subst (λ (x : PassView E F). Reads by later.seen x.seen x.made) at other in
      let into : (n : ℕ) → Among n pass.made → Among n later.made = λ n a. subst (Among n) (sym numbers.0) (among_left n pass.made s.pass.made a) in
      let more-made : length later.made ≡ length pass.made + 1 =
      ap (λ (l : List ℕ). length l) numbers.0 ∙ (length-append pass.made s.pass.made ∙ ap (λ (l : List ℕ). length pass.made + length l) single.1) in
      let more : length (spots ++ s ∷ []) ≡ length spots + 1 = length-append spots (s ∷ []) in record {
        same = (same.0 ∙ m.same.0, same.1 ∙ m.same.1, same.2 ∙ m.same.2);
        made = omega (arith, more-made, more, m.made);
        next = λ low. numbers.1 ∙ (ap (λ n. min pass.next n) single.2 ∙ (ap (λ n. min n 9) (m.next low) ∙ min-eq_left low));
        reads = reads_on by later.seen pass.seen first.seen first.made pass.made m.among this m.reads;
        among = λ n a. into n (m.among n a);
        met = met_append later.seen later.made spots s (met_on pass.seen later.seen pass.made later.made spots this into m.met) that
            (λ n a. subst (Among n) (sym numbers.0) (among_right n pass.made s.pass.made a));
      }

-- what the iterator of a vector has given is a front of its items
pub taken_front : {X A : Type 0} (s : IntoIter X A) (xs : List X) (t : IntoIter X A) → Yields into_iter_steps s xs t
    → into_iter_items s ≡ xs ++ into_iter_items t
taken_front s [] t y = ap into_iter_items y
taken_front s (x ∷ xs) t y = y.1.0 ∙ ap (λ ys. x ∷ ys) (taken_front y.0 xs t y.2)

-- it has given these, and gives this one next
pub taken_next : {X A : Type 0} (items xs : List X) (x : X) (s t u : IntoIter X A) → into_iter_items s ≡ items → Yields into_iter_steps s xs t
    → into_iter_items t ≡ x ∷ into_iter_items u → items ≡ xs ++ x ∷ into_iter_items u
taken_next items xs x s t u whole given next = sym whole ∙ (taken_front s xs t given ∙ ap (λ l. xs ++ l) next)

module _ {E F T : Type 0} where
  pub single_at : (shared : TableId × F) (front rest : List (SpotView E F T)) (s : SpotView E F T) → AreSingle shared (front ++ s ∷ rest)
      → IsSingle shared s.pass
  single_at shared [] rest s h = h.0
  single_at shared (t ∷ front) rest s h = single_at shared front rest s h.1

  pub ends_append : (spots : List (SpotView E F T)) (s : SpotView E F T) → ends_of (spots ++ s ∷ []) ≡ ends_of spots ++ option_to_list s.end
  ends_append [] s = append-nil (option_to_list s.end)
  ends_append (t ∷ spots) s = ap (λ ends. option_to_list t.end ++ ends) (ends_append spots s)
      ∙ sym (append_assoc (option_to_list t.end) (ends_of spots) (option_to_list s.end))
