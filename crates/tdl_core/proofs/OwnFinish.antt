-- The finish is the entry of the caller with the number 0.
--     own_finish    a legal history has the finish where the entries of that caller have it
use Rattle.std.proofs.Common.{◌≡◌, ℕ, Bool, true, false, cond, ◌||◌, ◌==◌, List, [], ◌∷◌, ◌++◌, refl, sym, ap, ◌∙◌, append_assoc}
use Rattle.std.specs.List.{list_any}
use Rattle.std.proofs.lemmas.Bool.{false≢true}
use Rattle.tdl_score.specs.declared.histories.Entry.{Entry}
use Rattle.tdl_score.specs.declared.histories.Deed.{Deed}
use Rattle.tdl_score.specs.declared.histories.Deed.TheVariants.{Swap, Look, Tick, Finish}
use Rattle.tdl_score.specs.History.{MayBeDone, entries_of, is_finish_deed, is_finished}
use Rattle.tdl_core.specs.Said.{IsLegal, MayFollow, Says}

by_ticker : (before : List Entry) (who : ℕ) (deed : Deed) → MayBeDone Says before who deed → is_finish_deed deed ≡ true → (who == 0) ≡ true
by_ticker before who (Swap boundary text) may e = absurd (false≢true e)
by_ticker before who Look may e = absurd (false≢true e)
by_ticker before who (Tick to) may e = absurd (false≢true e)
by_ticker before who Finish may e = ap (λ (n : ℕ). n == 0) may.ticker

-- one element more, which is chosen if it passes
chosen : {X : Type 0} (test : X → Bool) (b : Bool) (x : X) (xs ys : List X) → (test x ≡ true → b ≡ true) → list_any test xs ≡ list_any test ys
    → list_any test (cond b (x ∷ xs) xs) ≡ (test x || list_any test ys)
chosen test true x xs ys h same = ap (λ (c : Bool). test x || c) same
chosen test false x xs ys h same = same ∙ by (test x) h
  where
    by : (c : Bool) → (c ≡ true → false ≡ true) → list_any test ys ≡ (c || list_any test ys)
    by true h = absurd (false≢true (h refl))
    by false h = refl

own_after : (done rest : List Entry) → ((before : List Entry) (e : Entry) (after : List Entry) → done ++ rest ≡ before ++ e ∷ after → MayFollow before e)
    → is_finished (entries_of 0 rest) ≡ is_finished rest
own_after done [] each = refl
own_after done (e ∷ rest) each =
    chosen (λ (x : Entry). is_finish_deed x.deed) (e.who == 0) e (entries_of 0 rest) rest (by_ticker done e.who e.deed (each done e rest refl).deed)
    (own_after (done ++ e ∷ []) rest (λ before x after same. each before x after (sym (append_assoc done (e ∷ []) rest) ∙ same)))

pub own_finish : (entries : List Entry) → IsLegal entries → is_finished (entries_of 0 entries) ≡ is_finished entries
own_finish entries legal = own_after [] entries legal.each
