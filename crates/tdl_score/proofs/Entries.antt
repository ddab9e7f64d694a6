-- Histories that grow by an entry.
--     frontier-append                         where it then played up to
--     is_finished-append                      whether the finish is then among them
--     stays, still_finished                   an entry that plays nothing moves neither
--     performed_count-append, tick_count-append    how many swaps and looks, and how many ticks there then are
--     IsLegal-nil, IsLegal-append             no entries are legal, and what may follow keeps them so
--     IsLegal-front                           the entries before others that are legal together
use Rattle.std.proofs.Common.{◌≡◌, ℕ, ◌+◌, List, [], ◌∷◌, ◌++◌, ◌⊎◌, inl, inr, Bool, not, cond, refl, sym, ap, ◌∙◌, subst, arith, append_assoc}
use Rattle.std.proofs.Common.{true, false, ◌||◌}
use Rattle.std.specs.List.{count_by}
use Rattle.std.proofs.lemmas.Bool.{false≢true}
use Rattle.std.proofs.lemmas.List.Folds.{list_any-append}
use Rattle.std.proofs.lemmas.List.Sums.{sum_by-append}
use Rattle.tdl_score.specs.declared.histories.Entry.{Entry}
use Rattle.tdl_score.specs.declared.histories.Deed.{Deed}
use Rattle.tdl_score.specs.declared.histories.Deed.TheVariants.{Swap, Look, Tick, Finish}
use Rattle.tdl_score.specs.Readings.{Reading}
use Rattle.tdl_score.specs.History.{frontier_after, frontier_from, frontier, is_tick_deed, is_finish_deed, is_finished, plays, performed_count, tick_count}
use Rattle.tdl_score.specs.History.{MayFollow, IsLegal}

frontier_from-append : (units : ℕ) (entries : List Entry) (e : Entry)
    → frontier_from units (entries ++ e ∷ []) ≡ frontier_after (frontier_from units entries) e.deed
frontier_from-append units [] e = refl
frontier_from-append units (x ∷ entries) e = frontier_from-append (frontier_after units x.deed) entries e

pub frontier-append : (entries : List Entry) (e : Entry) → frontier (entries ++ e ∷ []) ≡ frontier_after (frontier entries) e.deed
frontier-append entries e = frontier_from-append 0 entries e

or_none : (a b : Bool) → (a || (b || false)) ≡ (a || b)
or_none true b = refl
or_none false true = refl
or_none false false = refl

pub is_finished-append : (entries : List Entry) (e : Entry) → is_finished (entries ++ e ∷ []) ≡ (is_finished entries || is_finish_deed e.deed)
is_finished-append entries e =
    list_any-append (λ (x : Entry). is_finish_deed x.deed) entries (e ∷ []) ∙ or_none (is_finished entries) (is_finish_deed e.deed)

-- an entry that plays nothing
pub stays : (units : ℕ) (deed : Deed) → plays deed ≡ false → frontier_after units deed ≡ units
stays units (Swap boundary text) e = refl
stays units Look e = refl
stays units (Tick to) e = absurd (false≢true (sym e))
stays units Finish e = refl

pub still_finished : (entries : List Entry) (e : Entry) → plays e.deed ≡ false → is_finished (entries ++ e ∷ []) ≡ is_finished entries
still_finished entries e none =
    is_finished-append entries e ∙ same (is_finished entries) (is_tick_deed e.deed) (is_finish_deed e.deed) none
  where
    same : (a t b : Bool) → (t || b) ≡ false → (a || b) ≡ a
    same true t b e = refl
    same false false false e = refl
    same false false true e = absurd (false≢true (sym e))
    same false true b e = absurd (false≢true (sym e))

count_one : {X : Type 0} (p : X → Bool) (xs : List X) (x : X) → count_by p (xs ++ x ∷ []) ≡ count_by p xs + cond (p x) 1 0
count_one p xs x = sum_by-append (λ y. cond (p y) 1 0) xs (x ∷ []) ∙ ap (λ n. count_by p xs + n) (zero_before (cond (p x) 1 0))
  where
    zero_before : (n : ℕ) → 0 + n ≡ n
    zero_before n = omega arith

pub performed_count-append : (entries : List Entry) (e : Entry)
    → performed_count (entries ++ e ∷ []) ≡ performed_count entries + cond (not (plays e.deed)) 1 0
performed_count-append entries e = count_one (λ (x : Entry). not (plays x.deed)) entries e

pub tick_count-append : (entries : List Entry) (e : Entry) → tick_count (entries ++ e ∷ []) ≡ tick_count entries + cond (is_tick_deed e.deed) 1 0
tick_count-append entries e = count_one (λ (x : Entry). is_tick_deed x.deed) entries e

-- where a list that ends with e is cut at an element, that is e, or stands before it
abbrev CutOf : {X : Type 0} → List X → X → List X → X → Type 0
CutOf {X} xs e before x = ((before ≡ xs) × (x ≡ e)) ⊎ ((rest : List X) × (xs ≡ before ++ x ∷ rest))

cut_more : {X : Type 0} (y b : X) (ys bs : List X) (e x : X) → y ≡ b → CutOf ys e bs x → CutOf (y ∷ ys) e (b ∷ bs) x
cut_more {X} y b ys bs e x same cut =
    elim cut [
      | inl h ↦ inl (ap (λ (z : X). z ∷ bs) (sym same) ∙ ap (λ zs. y ∷ zs) h.0, h.1)
      | inr h ↦ inr (h.0, ap (λ (z : X). z ∷ ys) same ∙ ap (λ zs. b ∷ zs) h.1)
    ]

cut_of : {X : Type 0} (xs : List X) (e : X) (before : List X) (x : X) (after : List X) → xs ++ e ∷ [] ≡ before ++ x ∷ after → CutOf xs e before x
cut_of [] e [] x after same = inl (refl, cc)
cut_of [] e (b ∷ []) x after same = cc
cut_of [] e (b ∷ c ∷ before) x after same = cc
cut_of (y ∷ ys) e [] x after same = let head : y ≡ x = cc in inr (ys, ap (λ z. z ∷ ys) head)
cut_of (y ∷ ys) e (b ∷ before) x after same =
    let head : y ≡ b = cc in
    let tails : ys ++ e ∷ [] ≡ before ++ x ∷ after = cc in
    cut_more y b ys before e x head (cut_of ys e before x after tails)

module _ (Reads : Reading) where
  pub IsLegal-append : (entries : List Entry) (e : Entry) → IsLegal Reads entries → MayFollow Reads entries e → IsLegal Reads (entries ++ e ∷ [])
  IsLegal-append entries e legal next = record {
    each = λ before x after same.
        elim (cut_of entries e before x after same) [
          | inl h ↦ subst (λ (b : List Entry). MayFollow Reads b x) (sym h.0) (subst (λ (y : Entry). MayFollow Reads entries y) (sym h.1) next)
          | inr h ↦ legal.each before x h.0 h.1
        ];
  }

  pub IsLegal-nil : IsLegal Reads []
  IsLegal-nil = record {
    each = λ before x after same. absurd (none before x after same);
  }
    where
      none : (before : List Entry) (x : Entry) (after : List Entry) → [] ≡ before ++ x ∷ after → ⊥
      none [] x after same = cc
      none (b ∷ before) x after same = cc

  pub IsLegal-front : (entries more : List Entry) → IsLegal Reads (entries ++ more) → IsLegal Reads entries
  IsLegal-front entries more legal = record {
    each = λ before x after same.
        legal.each before x (after ++ more) (ap (λ es. es ++ more) same ∙ append_assoc before (x ∷ after) more);
  }
