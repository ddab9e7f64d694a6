-- The deeds of the number 0 in a history.
--     none_own        where it did nothing, there are none of its entries
--     deeds_stay      entries of others add none
--     deeds_called    a call adds its own
--     finished        with the finish among them the history is finished
--     sits_on         after ticks further calls may be made
--     same_on         a pass stays the same over calls one after another
use Rattle.std.proofs.Common.{◌≡◌, ◌≢◌, ◌⊎◌, inl, inr, ℕ, Bool, true, false, ◌||◌, eqb, cond, List, [], ◌∷◌, ◌++◌, map, filter}
use Rattle.std.proofs.Common.{refl, sym, ap, ap₂, ◌∙◌, subst}
use Rattle.std.specs.Prelude.{◌==◌}
use Rattle.std.specs.List.{list_any}
use Rattle.std.proofs.lemmas.Bool.{or_right}
use Rattle.std.proofs.lemmas.Bool.Decides.{eqb_tells}
use Rattle.std.proofs.lemmas.List.{map-append}
use Rattle.std.proofs.lemmas.List.Folds.{list_any-append}
use Rattle.atomic_table.specs.Seated.{TableId}
use Rattle.tdl_tempo.specs.Tempo.{Pace}
use Rattle.tdl_turn.specs.Numbers.{Among, NoneOf, Reads}
use Rattle.tdl_session.specs.Passes.{PassView, mine, mine_of, SamePass}
use Rattle.tdl_session.proofs.Passes.{mine_read}
use Rattle.tdl_score.specs.declared.histories.Entry.{Entry}
use Rattle.tdl_score.specs.declared.histories.Deed.{Deed}
use Rattle.tdl_score.specs.declared.histories.Deed.TheVariants.{Tick, Finish}
use Rattle.tdl_score.specs.History.{entries_of, is_finish_deed, is_finished}
use Rattle.tdl_beats.specs.Beaten.{deeds_of}
use Rattle.tdl_beats.specs.inside.Playing.{Sits}

abbrev pub caller : Entry → ℕ
caller e = e.who

abbrev pub deed_in : Entry → Deed
deed_in e = e.deed

cons_is_some : {A : Type 0} (x : A) (xs : List A) → x ∷ xs ≡ [] → ⊥
cons_is_some x xs e = cc

none_first : (e : Entry) (entries : List Entry) → cond (eqb e.who 0) (e ∷ entries_of 0 entries) (entries_of 0 entries) ≡ []
    → (e.who ≢ 0) × (entries_of 0 entries ≡ [])
none_first e entries none = by_number (eqb_tells e.who 0)
  where
    by_number : ((eqb e.who 0 ≡ true) × (e.who ≡ 0)) ⊎ ((eqb e.who 0 ≡ false) × (e.who ≢ 0)) → (e.who ≢ 0) × (entries_of 0 entries ≡ [])
    by_number (inl is) =
        absurd (cons_is_some e (entries_of 0 entries) (sym (ap (λ (b : Bool). cond b (e ∷ entries_of 0 entries) (entries_of 0 entries)) is.0) ∙ none))
    by_number (inr not) =
        (not.1, sym (ap (λ (b : Bool). cond b (e ∷ entries_of 0 entries) (entries_of 0 entries)) not.0) ∙ none)

pub none_own : (entries : List Entry) → entries_of 0 entries ≡ [] → NoneOf caller (0 ∷ []) entries
none_own [] none = tt
none_own (e ∷ entries) none =
    let parts = none_first e entries none in
    ((λ among. elim among [ inl is ↦ parts.0 is | inr none ↦ none ]), none_own entries parts.1)

pub deeds_stay : (numbers : List ℕ) → Among 0 numbers → (history seen : List Entry) → Reads caller history seen numbers → deeds_of 0 history ≡ deeds_of 0 seen
deeds_stay numbers own history seen reads = ap (map deed_in) (mine_read caller 0 numbers own history seen reads)

pub deeds_called : (p q : PassView Entry Pace) (e : Entry) (deed : Deed) → p.number ≡ 0 → q.number ≡ p.number → mine caller q ≡ mine caller p ++ e ∷ []
    → e.deed ≡ deed → deeds_of 0 q.seen ≡ deeds_of 0 p.seen ++ deed ∷ []
deeds_called p q e deed ticker same more is =
    subst (λ (n : ℕ). map deed_in (mine_of caller n q.seen) ≡ deeds_of 0 p.seen ++ deed ∷ []) (same ∙ ticker)
    (ap (map deed_in) more
    ∙ map-append deed_in (mine caller p) (e ∷ [])
    ∙ ap (λ (n : ℕ). map deed_in (mine_of caller n p.seen) ++ e.deed ∷ []) ticker
    ∙ ap (λ (d : Deed). deeds_of 0 p.seen ++ d ∷ []) is)

-- ---- the finish
any-map : {A B : Type 0} (test : B → Bool) (f : A → B) (xs : List A) → list_any test (map f xs) ≡ list_any (λ x. test (f x)) xs
any-map test f [] = refl
any-map test f (x ∷ xs) = ap (λ (b : Bool). test (f x) || b) (any-map test f xs)

either_more : (a b c : Bool) → (b ≡ true → c ≡ true) → (a || b) ≡ true → (a || c) ≡ true
either_more true b c more some = refl
either_more false b c more some = more some

any_of_some : {A : Type 0} (test keep : A → Bool) (xs : List A) → list_any test (filter keep xs) ≡ true → list_any test xs ≡ true
any_of_some test keep [] some = some
any_of_some {A} test keep (x ∷ xs) some = by_choice (keep x) (any_of_some test keep xs) some
  where
    by_choice : (b : Bool) → (list_any test (filter keep xs) ≡ true → list_any test xs ≡ true)
        → list_any test (cond b (x ∷ filter keep xs) (filter keep xs)) ≡ true → (test x || list_any test xs) ≡ true
    by_choice true rest some = either_more (test x) (list_any test (filter keep xs)) (list_any test xs) rest some
    by_choice false rest some = or_right (test x) (list_any test xs) (rest some)

any_own : (entries : List Entry) → list_any is_finish_deed (deeds_of 0 entries) ≡ is_finished (entries_of 0 entries)
any_own entries = any-map is_finish_deed deed_in (entries_of 0 entries)

pub finished : (entries : List Entry) (before : List Deed) → deeds_of 0 entries ≡ before ++ Finish ∷ [] → is_finished entries ≡ true
finished entries before is =
    any_of_some (λ (e : Entry). is_finish_deed e.deed) (λ (e : Entry). e.who == 0) entries
    (sym (any_own entries)
    ∙ ap (list_any is_finish_deed) is
    ∙ list_any-append is_finish_deed before (Finish ∷ [])
    ∙ or_right (list_any is_finish_deed before) true refl)

ticks_go_on : (places : List ℕ) → list_any is_finish_deed (map Tick places) ≡ false
ticks_go_on [] = refl
ticks_go_on (place ∷ places) = ticks_go_on places

going_on : (old new : List Entry) (places : List ℕ) → deeds_of 0 new ≡ deeds_of 0 old ++ map Tick places → is_finished (entries_of 0 old) ≡ false
    → is_finished (entries_of 0 new) ≡ false
going_on old new places own going =
    sym (any_own new)
    ∙ ap (list_any is_finish_deed) own
    ∙ list_any-append is_finish_deed (deeds_of 0 old) (map Tick places)
    ∙ ap₂ (λ (a b : Bool). a || b) (any_own old ∙ going) (ticks_go_on places)

pub sits_on : (shared : TableId × Pace) (p q : PassView Entry Pace) (places : List ℕ) → Sits shared p → SamePass p q
    → deeds_of 0 q.seen ≡ deeds_of 0 p.seen ++ map Tick places → Sits shared q
sits_on shared p q places sits same own =
    let ticker : p.number ≡ 0 = sits.may.ticker in
    let still : q.number ≡ 0 = same.2 ∙ ticker in
    let going : is_finished (entries_of 0 p.seen) ≡ false = subst (λ (n : ℕ). is_finished (entries_of n p.seen) ≡ false) ticker sits.may.going in record {
      of = (same.0 ∙ sits.of.0, same.1 ∙ sits.of.1);
      may = record {
        ticker = still;
        going = subst (λ (n : ℕ). is_finished (entries_of n q.seen) ≡ false) (sym still) (going_on p.seen q.seen places own going);
      };
    }

pub same_on : (p q r : PassView Entry Pace) → SamePass p q → SamePass q r → SamePass p r
same_on p q r first second =
    (second.0 ∙ first.0, second.1 ∙ first.1, second.2 ∙ first.2, second.3 ∙ first.3, second.4 ∙ first.4)
