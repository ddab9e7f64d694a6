-- A text that is put, or not: what the output keeps then, and how the calls go on.
--     unput_keeps    what the input tells stays
--     unput_talks    the calls end so
--     end_keeps, end_talks    the line that tells the end was put, or not
--     progress_on, finishes_out_on, finishes_input_on, ends_out_on, ends_input_on
--                    what was done stays so along a call that changes nothing that the side tells
use Rattle.std.proofs.Common.{ℕ, List, Option, Result, Ok, Err, inl, inr, OnOk, refl, ap}
use Rattle.std.specs.Prelude.{OnErr}
use Rattle.tdl_io.specs.Talk.{Keeps, TalkLaws}
use Rattle.tdl_lines.specs.Prompt.{GoesPromptly, TalksPromptly}
use Rattle.tdl_lines.specs.Reading.{Reading}
use Rattle.tdl_lines.proofs.PromptLemmas.{goes_broke, goes_put, goes_to}
use Rattle.tdl_tempo.specs.Tempo.{Pace}
use Rattle.tdl_core.specs.Replies.{CoreState}
use Rattle.tdl_log.specs.declared.ends.PortEnd.{PortEnd}
use Rattle.tdl_answer.specs.Account.{Account, WireAccounts, account}
use Rattle.tdl_answer.proofs.DeviceCalls.{account_on}
use Rattle.tdl_app.specs.declared.play.End.{End}
use Rattle.tdl_app.specs.inside.Progress.{Ends, Finishes, Progress}
use Rattle.tdl_app.specs.inside.OneLine.{IsUnput}

pub unput_keeps : {T : Type 0} {gave : T → List ℕ → T → Type 0} {lost : T → T → Type 0} {left : T → Option (List ℕ)} {pull_faults : T → ℕ}
    {took broke : T → List ℕ → T → Type 0} {held : T → Option (List ℕ)} {put_faults : T → ℕ}
    → TalkLaws gave lost left pull_faults took broke held put_faults → (a b : T) → IsUnput broke a b → Keeps left pull_faults a b
unput_keeps {T} {gave} {lost} {left} {pull_faults} laws a b unput = elim unput [
  | inl same ↦ record { told_is = ap left same; faults_are = ap pull_faults same }
  | inr broken ↦ laws.broke_keeps a broken.0 b broken.1
]

pub unput_talks : {T : Type 0} {gave : T → List ℕ → T → Type 0} {lost : T → T → Type 0} {took broke : T → List ℕ → T → Type 0} {old a b : T}
    → GoesPromptly gave took old a → IsUnput broke a b → TalksPromptly gave lost took broke old b
unput_talks so_far unput = elim unput [
  | inl same ↦ goes_to so_far same
  | inr broken ↦ goes_broke broken.0 so_far broken.1
]

pub end_keeps : {T E S : Type 0} {gave : T → List ℕ → T → Type 0} {lost : T → T → Type 0} {left : T → Option (List ℕ)} {pull_faults : T → ℕ}
    {took broke : T → List ℕ → T → Type 0} {held : T → Option (List ℕ)} {put_faults : T → ℕ}
    → TalkLaws gave lost left pull_faults took broke held put_faults → (a b : T) (result : Result E S) → OnOk result ((text : List ℕ) × took a text b)
    → OnErr result (IsUnput broke a b) → Keeps left pull_faults a b
end_keeps laws a b (Ok end) put unput = laws.took_keeps a put.0 b put.1
end_keeps laws a b (Err stop) put unput = unput_keeps laws a b unput

pub end_talks : {T E S : Type 0} {gave : T → List ℕ → T → Type 0} {lost : T → T → Type 0} {took broke : T → List ℕ → T → Type 0} {old a b : T}
    (result : Result E S) → GoesPromptly gave took old a → OnOk result ((text : List ℕ) × took a text b) → OnErr result (IsUnput broke a b)
    → TalksPromptly gave lost took broke old b
end_talks (Ok end) so_far put unput = goes_to (goes_put put.0 so_far put.1) refl
end_talks (Err stop) so_far put unput = unput_talks so_far unput

-- ---- what was done
module _ {D : Type 0} (told : D → Option (List ℕ)) (faults : D → ℕ) (x a b : D) (keeps : Keeps told faults a b) {tempo : Pace} {wires : WireAccounts}
    (core : CoreState) where
  pub progress_on : {reading : Reading} {out : Account ℕ} → Progress tempo reading core (account told faults x a) out wires
      → Progress tempo reading core (account told faults x b) out wires
  progress_on {reading} {out} progress =
      account_on (λ input. Progress tempo reading core input out wires) told faults x a b keeps.told_is keeps.faults_are progress

  pub finishes_input_on : {end : End} {out : Account ℕ} → Finishes tempo end core (account told faults x a) out wires
      → Finishes tempo end core (account told faults x b) out wires
  finishes_input_on {end} {out} finishes =
      account_on (λ input. Finishes tempo end core input out wires) told faults x a b keeps.told_is keeps.faults_are finishes

  pub finishes_out_on : {end : End} {input : Account ℕ} → Finishes tempo end core input (account told faults x a) wires
      → Finishes tempo end core input (account told faults x b) wires
  finishes_out_on {end} {input} finishes =
      account_on (λ out. Finishes tempo end core input out wires) told faults x a b keeps.told_is keeps.faults_are finishes

  pub ends_input_on : {status : ℕ} {end : PortEnd} {out : Account ℕ} → Ends tempo status end core (account told faults x a) out wires
      → Ends tempo status end core (account told faults x b) out wires
  ends_input_on {status} {end} {out} ends =
      account_on (λ input. Ends tempo status end core input out wires) told faults x a b keeps.told_is keeps.faults_are ends

  pub ends_out_on : {status : ℕ} {end : PortEnd} {input : Account ℕ} → Ends tempo status end core input (account told faults x a) wires
      → Ends tempo status end core input (account told faults x b) wires
  ends_out_on {status} {end} {input} ends =
      account_on (λ out. Ends tempo status end core input out wires) told faults x a b keeps.told_is keeps.faults_are ends
