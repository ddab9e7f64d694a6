-- What callers of a core are told, and what is sent.
--     is_fresh              a look shows what was seen before it, and more
--     on_after_tick         who ticked may go on
--     on_after_refusal      and who was refused
--     others_send           entries of others send nothing
--     reply_sends           one reply more, and what came between
--     replies_send          all replies that a caller was told
use Rattle.std.proofs.Common.{◌≡◌, ◌≢◌, ◌⊎◌, ℕ, ◌<◌, List, [], ◌∷◌, ◌++◌, length, true, false, eqb, refl, sym, ap, ◌∙◌, subst, inl, inr, arith}
use Rattle.std.proofs.Common.{append_assoc, append-nil, length-append}
use Rattle.std.proofs.lemmas.Bool.Decides.{eqb_tells}
use Rattle.tdl_tempo.specs.Tempo.{Pace}
use Rattle.tdl_turn.specs.Numbers.{Among, NoneOf, Reads}
use Rattle.tdl_session.specs.Passes.{PassView, mine, SamePass, Called, Refused}
use Rattle.tdl_session.specs.Told.{Told}
use Rattle.tdl_score.specs.declared.histories.Entry.{Entry}
use Rattle.tdl_score.specs.declared.histories.Deed.{Deed}
use Rattle.tdl_score.specs.declared.histories.Deed.TheVariants as deed
use Rattle.tdl_score.specs.Growth.{GrowthLaws}
use Rattle.tdl_score.specs.History.{MayBeDone, is_finish_deed, is_finished, plays}
use Rattle.tdl_score.specs.Wires.{Protocol}
use Rattle.tdl_core.specs.declared.calls.Call.{Call}
use Rattle.tdl_core.specs.declared.calls.Call.TheVariants.{Look, Tick}
use Rattle.tdl_core.specs.declared.replies.Reply.{Reply}
use Rattle.tdl_core.specs.Replies.{MayPlay}
use Rattle.tdl_core.specs.Said.{HasSent, IsLegal, MayFollow, Says}
use Rattle.tdl_core.specs.Sessions.{Adds, IsFresh, sent_with}
use Rattle.tdl_core.proofs.Kept.{no_more}

abbrev by : Entry → ℕ
by e = e.who

-- a place in a list is below the length of any that it begins
below_whole : {X : Type 0} (before after more : List X) (x : X) → length before < length ((before ++ x ∷ after) ++ more)
below_whole before after more x =
    omega (arith, length-append (before ++ x ∷ after) more, length-append before (x ∷ after))

pub is_fresh : (tempo : Pace) (p q : PassView Entry Pace) (reply : Reply) → Called by (λ h e. Adds tempo h p.number Look e reply) p q → IsFresh p.seen reply
is_fresh tempo p q reply called = record {
  more = called.0;
  place = λ before after e is. subst (λ (seen : List Entry). length before < length (seen ++ called.0)) (sym is) (below_whole before after called.0 e);
  shown = λ changes has. called.5.accepted.answer changes has;
}

-- ---- who may go on
pub on_after_refusal : (refuses : List Entry → Type 0) (p q : PassView Entry Pace) → SamePass p q → Refused by refuses p q
    → MayPlay (mine by p) p.number → MayPlay (mine by q) q.number
on_after_refusal refuses p q same refused may = record {
  ticker = same.2 ∙ may.ticker;
  going = ap is_finished refused.4 ∙ may.going;
}

pub on_after_tick : GrowthLaws Says → (tempo : Pace) (p q : PassView Entry Pace) (to : ℕ) (reply : Reply) → SamePass p q
    → Called by (λ h e. Adds tempo h p.number (Tick to) e reply) p q → MayPlay (mine by p) p.number → MayPlay (mine by q) q.number
on_after_tick laws tempo p q to reply same called may = record {
  ticker = same.2 ∙ may.ticker;
  going =
      ap is_finished called.6
      ∙ ((laws.adds (mine by p) called.1).finished
      ∙ (no_more (is_finished (mine by p)) (is_finish_deed called.1.deed) (ap (λ (e : Entry). is_finish_deed e.deed) called.5.entry) ∙ may.going));
}

-- ---- what is sent
quiet_deed : (before : List Entry) (who : ℕ) (done : Deed) → MayBeDone Says before who done → who ≢ 0 → plays done ≡ false
quiet_deed before who (deed.Swap boundary text) may not = refl
quiet_deed before who deed.Look may not = refl
quiet_deed before who (deed.Tick to) may not = absurd (not may.ticker)
quiet_deed before who deed.Finish may not = absurd (not may.ticker)

-- what begins a legal history is one
front_legal : (before : List Entry) (e : Entry) → IsLegal (before ++ e ∷ []) → IsLegal before
front_legal before e legal = record {
  each = λ xs x ys is. legal.each xs x (ys ++ e ∷ []) (ap (λ (l : List Entry). l ++ e ∷ []) is ∙ append_assoc xs (x ∷ ys) (e ∷ []));
}

module _ (laws : GrowthLaws Says) (wire : Protocol) where
  other_sends : (before : List Entry) (e : Entry) → MayFollow before e → e.who ≢ 0 → (p : List (List ℕ)) → HasSent wire before p
      → HasSent wire (before ++ e ∷ []) p
  other_sends before e may not p h = laws.quiet wire before e may (quiet_deed before e.who e.deed may.deed not) p h

  pub others_send : (ns : List ℕ) → Among 0 ns → (before es : List Entry) → IsLegal (before ++ es) → NoneOf by ns es → (p : List (List ℕ))
      → HasSent wire before p → HasSent wire (before ++ es) p
  others_send ns own before [] legal none p h = subst (λ (l : List Entry). HasSent wire l p) (sym (append-nil before)) h
  others_send ns own before (e ∷ es) legal none p h =
      let no = none.0 in let each = append_assoc before (e ∷ []) es in
      subst (λ (l : List Entry). HasSent wire l p) each
      (others_send ns own (before ++ e ∷ []) es (subst IsLegal (sym each) legal) none.1 p
      (other_sends before e (legal.each before e es refl) (λ is. no (subst (λ m. Among m ns) (sym is) own)) p h))

  pub others_read : (history seen : List Entry) (ns : List ℕ) → IsLegal history → Among 0 ns → Reads by history seen ns → (p : List (List ℕ))
      → HasSent wire seen p → HasSent wire history p
  others_read history seen ns legal own reads p h =
      subst (λ (l : List Entry). HasSent wire l p) (sym reads.1) (others_send ns own seen reads.0 (subst IsLegal reads.1 legal) reads.2 p h)

  module _ (tempo : Pace) (goes : Reply → List (List ℕ)) (step : (before : List Entry) (who : ℕ) (call : Call) (e : Entry) (reply : Reply)
      → Adds tempo before who call e reply → (p : List (List ℕ)) → HasSent wire before p → HasSent wire (before ++ e ∷ []) (p ++ goes reply)) where
    pub reply_sends : (p q : PassView Entry Pace) (call : Call) (reply : Reply) → IsLegal q.seen → Among 0 p.made
        → Called by (λ h e. Adds tempo h p.number call e reply) p q → (sent : List (List ℕ)) → HasSent wire p.seen sent
        → HasSent wire q.seen (sent ++ goes reply)
    reply_sends p q call reply legal own called sent h =
        let between = called.0 in let e = called.1 in
        let front : IsLegal (p.seen ++ between) = front_legal (p.seen ++ between) e (subst IsLegal called.2 legal) in
        subst (λ (l : List Entry). HasSent wire l (sent ++ goes reply)) (sym called.2)
        (step (p.seen ++ between) p.number call e reply called.5 sent (others_send p.made own p.seen between front called.4 sent h))

    -- the replies of what comes after the first entry go on from it
    abbrev pub GoesOn : List Entry → List Entry → Type 0
    GoesOn before es = (told : List (Call × Reply)) → Told by (λ h c e r. Adds tempo h 0 c e r) 0 before es told → (p : List (List ℕ))
        → HasSent wire before p → HasSent wire (before ++ es) (p ++ sent_with goes told)

    step_sends : (before : List Entry) (e : Entry) (es : List Entry) → MayFollow before e → GoesOn (before ++ e ∷ []) es → (told : List (Call × Reply))
        → Told by (λ h c e r. Adds tempo h 0 c e r) 0 before (e ∷ es) told → (p : List (List ℕ)) → HasSent wire before p
        → HasSent wire (before ++ e ∷ es) (p ++ sent_with goes told)
    step_sends before e es may on told says p h =
        subst (λ (l : List Entry). HasSent wire l (p ++ sent_with goes told)) (append_assoc before (e ∷ []) es) (by-number (eqb_tells e.who 0))
      where
        by-number : ((eqb e.who 0 ≡ true) × (e.who ≡ 0)) ⊎ ((eqb e.who 0 ≡ false) × (e.who ≢ 0))
            → HasSent wire ((before ++ e ∷ []) ++ es) (p ++ sent_with goes told)
        by-number (inl is) =
            let own = says.0 in let t = own is.1 in
            subst (λ (l : List (Call × Reply)). HasSent wire ((before ++ e ∷ []) ++ es) (p ++ sent_with goes l)) (sym t.3)
            (subst (HasSent wire ((before ++ e ∷ []) ++ es)) (append_assoc p (goes t.1) (sent_with goes t.2))
            (on t.2 t.5 (p ++ goes t.1) (step before 0 t.0 e t.1 t.4 p h)))
        by-number (inr not) = let other = says.1 in on told (other not.1) p (other_sends before e may not.1 p h)

    pub replies_send : (before es : List Entry) (told : List (Call × Reply)) → IsLegal (before ++ es)
        → Told by (λ h c e r. Adds tempo h 0 c e r) 0 before es told → (p : List (List ℕ)) → HasSent wire before p
        → HasSent wire (before ++ es) (p ++ sent_with goes told)
    replies_send before [] told legal none p h =
        subst (λ (t : List (Call × Reply)). HasSent wire (before ++ []) (p ++ sent_with goes t)) (sym none)
        (subst (λ (l : List Entry). HasSent wire l (p ++ [])) (sym (append-nil before)) (subst (HasSent wire before) (sym (append-nil p)) h))
    replies_send before (e ∷ es) told legal says p h =
        step_sends before e es (legal.each before e es refl)
        (λ rest more. replies_send (before ++ e ∷ []) es rest (subst IsLegal (sym (append_assoc before (e ∷ []) es)) legal) more) told says p h
