-- Runs of `serve`.
--     end_whole, end_part, end_none    the end line was put, or a part of it, or there was no memory for it
--     end_done                         a run that has its finish sent all, so it has an end line
--     stopped_next, stopped_length     ports of which none began
--     served_through                   performers played beside the clock
--     served_logged                    and the log was put
use Rattle.std.proofs.Common.{◌≡◌, ℕ, zero, suc, ◌+◌, ◌≤◌, ◌⊎◌, inl, inr, false, List, [], ◌∷◌, ◌++◌, length, refl, ap, sym, subst, ◌∙◌, arith}
use Rattle.std.proofs.lemmas.Bool.{false≢true}
use Rattle.tdl_io.specs.Told.{GainedExactly, GainedPrefix}
use Rattle.tdl_io.specs.Faults.{CountRose}
use Rattle.tdl_tempo.specs.Tempo.{Pace}
use Rattle.tdl_score.specs.declared.histories.Entry.{Entry}
use Rattle.tdl_core.specs.Replies.{CoreState}
use Rattle.tdl_core.specs.Said.{IsLegal}
use Rattle.tdl_log.specs.declared.ends.Ending.{Ending}
use Rattle.tdl_log.specs.declared.ends.PortEnd.TheVariants.{Stopped}
use Rattle.tdl_log.specs.LogText.{log_text}
use Rattle.tdl_answer.specs.Account.{Account, WireAccounts}
use Rattle.tdl_answer.specs.EndLine.{IsEndLine}
use Rattle.tdl_answer.specs.Ends.{Logs, PortsEnd}
use Rattle.tdl_answer.specs.Sent.{Sends}
use Rattle.tdl_perform.specs.Port.{ServesPort}
use Rattle.tdl_beats.specs.Beaten.{Beaten, is_broken}
use Rattle.tdl_beats.specs.declared.runs.BeatEnd.{BeatEnd}
use Rattle.tdl_beats.specs.declared.runs.BeatEnd.TheVariants as beat
use Rattle.tdl_serve.specs.PortAccounts.{PortAccount}
use Rattle.tdl_app.specs.declared.devices.Outside.{Outside}
use Rattle.tdl_app.specs.declared.outcomes.Outcome.{Outcome}
use Rattle.tdl_app.specs.Accounts.{Accounts, Telling, accounts}
use Rattle.tdl_app.specs.Served.{EndsServed, Served, ServedThrough, Unstarted, all_stopped}
use Rattle.tdl_app.proofs.EndLines.{is_end_line, line_of}

-- ---- the end line
module _ {tempo : Pace} {history : List Entry} {out : Account ℕ} (text : List ℕ) (one : (line : List ℕ) → IsEndLine tempo history line → text ≡ line) where
  pub end_whole : GainedExactly out.told_before out.told_after text → (line : List ℕ) → IsEndLine tempo history line
      → EndsServed tempo history beat.Done 0 out
  end_whole put line is = EndsServed.done refl refl line is (subst (λ (t : List ℕ). GainedExactly out.told_before out.told_after t) (one line is) put)

  pub end_part : CountRose out.faults_before out.faults_after → GainedPrefix out.told_before out.told_after text
      → (line : List ℕ) → IsEndLine tempo history line → EndsServed tempo history beat.Done 4 out
  end_part rose put line is =
      let whole : IsEndLine tempo history (put.front ++ put.back) =
      subst (λ (t : List ℕ). IsEndLine tempo history t) (sym (one line is) ∙ put.parts) is in
      EndsServed.out_failed refl refl rose put.front (put.back, whole) put.gained

pub end_done : {tempo : Pace} {history : List Entry} {status : ℕ} {out : Account ℕ} (wires : WireAccounts)
    → ((line : List ℕ) → IsEndLine tempo history line → EndsServed tempo history beat.Done status out)
    → Sends false tempo history wires → EndsServed tempo history beat.Done status out
end_done wires ended (inl sends) = ended (line_of sends) (is_end_line sends)
end_done wires ended (inr broke) = absurd (false≢true broke.0)

-- ---- ports of which none began
abbrev stopped : ℕ → Ending
stopped number = record { port = number; end = Stopped }

next_number : (number count : ℕ) → (number + 1) + count ≡ number + suc count
next_number number count = omega arith

stopped_more : (number count : ℕ) → all_stopped number (suc count) ≡ all_stopped number count ++ stopped (number + count) ∷ []
stopped_more number zero =
    let same : number ≡ number + 0 = omega arith in
    ap (λ (n : ℕ). stopped n ∷ []) same
stopped_more number (suc count) =
    ap (λ (rest : List Ending). stopped number ∷ rest)
    (stopped_more (number + 1) count ∙ ap (λ (n : ℕ). all_stopped (number + 1) count ++ stopped n ∷ []) (next_number number count))

pub stopped_next : (count : ℕ) (ends more : List Ending) → ends ≡ all_stopped 1 count → more ≡ ends ++ stopped (count + 1) ∷ []
    → more ≡ all_stopped 1 (count + 1)
stopped_next count ends more before is =
    let number : count + 1 ≡ 1 + count = omega arith in
    let length : suc count ≡ count + 1 = omega arith in
    is ∙ ap (λ (es : List Ending). es ++ stopped (count + 1) ∷ []) before ∙ ap (λ (n : ℕ). all_stopped 1 count ++ stopped n ∷ []) number
    ∙ sym (stopped_more 1 count) ∙ ap (all_stopped 1) length

pub stopped_length : (number count : ℕ) → length (all_stopped number count) ≡ count
stopped_length number zero = refl
stopped_length number (suc count) = ap suc (stopped_length (number + 1) count)

-- ---- the run
module _ {tempo : Pace} {cycles playing : ℕ} {history : List Entry} {ends : List Ending} where
  -- a core came of it, and gave up its history
  pub served_through : (core : CoreState) (end : BeatEnd) (told : Accounts) → core.tempo ≡ tempo → history ≡ core.history → IsLegal core.history
      → PortsEnd (λ number (port : PortAccount) end. ServesPort tempo number core.history port.source port.sink end) 1 told.ports ends
      → Beaten tempo cycles core.history told.beats told.wires end
      → ((wires : WireAccounts) → Sends (is_broken end) core.tempo core.history wires → EndsServed core.tempo core.history end playing told.out)
      → told.out.faults_before ≤ told.out.faults_after → ServedThrough tempo cycles playing history ends told
  served_through core end told at gives legal ports beaten ended kept =
      let printed : EndsServed tempo core.history end playing told.out =
      subst (λ (t : Pace). (wires : WireAccounts) → Sends (is_broken end) t core.history wires → EndsServed t core.history end playing told.out) at ended
      told.wires beaten.sends in
      let through : ServedThrough tempo cycles playing core.history ends told =
      record { legal = legal; ports = ports; end = end; beaten = beaten; printed = printed; out_count = kept } in
      subst (λ (h : List Entry). ServedThrough tempo cycles playing h ends told) (sym gives) through

  pub served_logged : {S K W C : Type 0} (tells : Telling S K W C) (before after : Outside S K W C) (outcome : Outcome)
      → outcome.history.entries ≡ history → outcome.ends ≡ ends
      → ServedThrough tempo cycles playing history ends (accounts tells before after) ⊎ Unstarted playing history ends before after
      → (let log : Account ℕ = (accounts tells before after).log in
      Logs (log_text (record { tempo = tempo; history = history; ends = ends })) playing outcome.status log × (log.faults_before ≤ log.faults_after))
      → length after.ports.items ≡ length before.ports.items → after.input ≡ before.input
      → Served tempo cycles outcome.status outcome.history.entries outcome.ends (accounts tells before after) before after
  served_logged {S} {K} {W} {C} tells before after outcome same_history same_ends performed logs as_many input =
      let told : Accounts = accounts tells before after in
      let run : Served tempo cycles outcome.status history ends told before after = record {
        playing = playing;
        performed = performed;
        logged = logs.0;
        log_count = logs.1;
        as_many = as_many;
        input = input;
      } in
      subst (λ (h : List Entry). Served tempo cycles outcome.status h outcome.ends told before after) (sym same_history)
      (subst (λ (es : List Ending). Served tempo cycles outcome.status history es told before after) (sym same_ends) run)
