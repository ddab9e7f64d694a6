-- The put of a reply that did not go through, and the calls of a port then.
--     puts_keep       it keeps what the source tells
--     talked_halted   the calls of a port whose loop halts
--     serving_on, port_source_on, port_sink_on
--                     what was done stays so along a call that changes nothing that the side tells
use Rattle.std.proofs.Common.{ℕ, List, Option, ap}
use Rattle.tdl_io.specs.Talk.{Keeps, TalkLaws}
use Rattle.tdl_lines.specs.Prompt.{TalksPromptly}
use Rattle.tdl_lines.specs.Reading.{Reading}
use Rattle.tdl_lines.proofs.PromptLemmas.{Asked, asked_goes, goes_broke, goes_to}
use Rattle.tdl_tempo.specs.Tempo.{Pace}
use Rattle.tdl_score.specs.declared.histories.Entry.{Entry}
use Rattle.tdl_log.specs.declared.ends.PortEnd.{PortEnd}
use Rattle.tdl_answer.specs.Account.{Account, account}
use Rattle.tdl_answer.proofs.DeviceCalls.{account_on}
use Rattle.tdl_perform.specs.declared.lines.Halt.{Halt}
use Rattle.tdl_perform.specs.declared.lines.Halt.TheVariants.{Memory, Put}
use Rattle.tdl_perform.specs.Port.{ServesPort}
use Rattle.tdl_perform.specs.inside.OneLine.{ReplyHalted}
use Rattle.tdl_perform.specs.inside.Serving.{Serving}

module _ {T : Type 0} {gave : T → List ℕ → T → Type 0} {lost : T → T → Type 0} {left : T → Option (List ℕ)} {pull_faults : T → ℕ}
    {took broke : T → List ℕ → T → Type 0} {held : T → Option (List ℕ)} {put_faults : T → ℕ}
    (laws : TalkLaws gave lost left pull_faults took broke held put_faults) where
  pub puts_keep : (halt : Halt) (a b : T) → ReplyHalted broke halt a b → Keeps left pull_faults a b
  puts_keep Memory a b same = record { told_is = ap left same; faults_are = ap pull_faults same }
  puts_keep Put a b broken = laws.broke_keeps a broken.0 b broken.1

pub talked_halted : {T : Type 0} {gave : T → List ℕ → T → Type 0} {lost : T → T → Type 0} {took broke : T → List ℕ → T → Type 0} {reading : Reading}
    {old a b : T} (halt : Halt) → Asked gave took reading old a → ReplyHalted broke halt a b → TalksPromptly gave lost took broke old b
talked_halted Memory asked same = goes_to (asked_goes asked) same
talked_halted Put asked broken = goes_broke broken.0 (asked_goes asked) broken.1

-- ---- what was done
module _ {D : Type 0} (told : D → Option (List ℕ)) (faults : D → ℕ) (x a b : D) (keeps : Keeps told faults a b) {tempo : Pace} {who : ℕ} where
  pub serving_on : {reading : Reading} {seen : List Entry} {sink : Account ℕ} → Serving tempo who reading seen (account told faults x a) sink
      → Serving tempo who reading seen (account told faults x b) sink
  serving_on {reading} {seen} {sink} serving =
      account_on (λ source. Serving tempo who reading seen source sink) told faults x a b keeps.told_is keeps.faults_are serving

  pub port_source_on : {history : List Entry} {sink : Account ℕ} {end : PortEnd} → ServesPort tempo who history (account told faults x a) sink end
      → ServesPort tempo who history (account told faults x b) sink end
  port_source_on {history} {sink} {end} serves =
      account_on (λ source. ServesPort tempo who history source sink end) told faults x a b keeps.told_is keeps.faults_are serves

  pub port_sink_on : {history : List Entry} {source : Account ℕ} {end : PortEnd} → ServesPort tempo who history source (account told faults x a) end
      → ServesPort tempo who history source (account told faults x b) end
  port_sink_on {history} {source} {end} serves =
      account_on (λ sink. ServesPort tempo who history source sink end) told faults x a b keeps.told_is keeps.faults_are serves
