-- Runs of one history sent the same.
--     sent_the_same    to both wires
use Rattle.std.proofs.Common.{◌≡◌, ℕ, List, refl, subst, sym}
use Rattle.tdl_score.specs.declared.histories.Entry.{Entry}
use Rattle.tdl_score.specs.History.{EndTogether, performed}
use Rattle.tdl_score.specs.Wires.{Protocol, osc, midi}
use Rattle.tdl_core.specs.Said.{HasSent}
use Rattle.tdl_io.specs.Told.{GainedExactly}
use Rattle.tdl_log.specs.Log.{Log}
use Rattle.tdl_answer.specs.Account.{Account, WireAccounts}
use Rattle.tdl_answer.specs.Sent.{SendsAll, SendsBoth}
use Rattle.tdl_app.specs.OneLog.{GainedTheSame, SentTheSame}

abbrev TicksTell : Type 0
TicksTell = (wire : Protocol) (one other : List Entry) → performed one ≡ performed other → EndTogether one other
    → (p q : List (List ℕ)) → HasSent wire one p → HasSent wire other q → p ≡ q

module _ (tell : TicksTell) where
  gained_the_same : (wire : Protocol) (history : List Entry) (one other : Account (List ℕ)) → SendsAll wire history one → SendsAll wire history other
      → GainedTheSame one other
  gained_the_same wire history one other sends also =
      let same : sends.packets ≡ also.packets =
      tell wire history history refl (record { frontier = refl; finished = refl }) sends.packets also.packets sends.sends also.sends in
      record {
        gained = also.packets;
        first = subst (λ (p : List (List ℕ)). GainedExactly one.told_before one.told_after p) same sends.gained;
        second = also.gained;
      }

  pub sent_the_same : (one other : Log) → one ≡ other → (wires others : WireAccounts) → SendsBoth one.tempo one.history wires
      → SendsBoth other.tempo other.history others → SentTheSame wires others
  sent_the_same one other is wires others sends also =
      let here : SendsBoth one.tempo one.history others = subst (λ (l : Log). SendsBoth l.tempo l.history others) (sym is) also in
      record {
        packets = gained_the_same (osc one.tempo) one.history wires.osc others.osc sends.packets here.packets;
        messages = gained_the_same midi one.history wires.midi others.midi sends.messages here.messages;
      }
