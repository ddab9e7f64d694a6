-- From what was put to what a run of a query leaves.
use Rattle.std.proofs.Common.{ℕ, ◌<◌, inr, List, [], refl, sym, ap, subst, ◌∙◌, append-nil, arith}
use Rattle.tdl_io.specs.Told.{GainedExactly}
use Rattle.tdl_fraction.specs.Arc.{Arc}
use Rattle.tdl_event.specs.Event.{print_of}
use Rattle.tdl_expr.specs.Tree.{Tree}
use Rattle.tdl_compile.specs.Compiled.{Compiled}
use Rattle.tdl_meaning.specs.Pattern.{over}
use Rattle.tdl_meaning.specs.Meaning.{cyc}
use Rattle.tdl_app.specs.declared.stops.Stop.{Stop}
use Rattle.tdl_app.specs.declared.stops.Stop.TheVariants.{Memory, Fault, Input}
use Rattle.tdl_answer.specs.Account.{Account}
use Rattle.tdl_app.specs.Answer.{QueryAnswer}
use Rattle.tdl_app.specs.QueryRun.{Puts, Queried}
use Rattle.tdl_words.specs.Modes.{Query}
use Rattle.tdl_app.specs.inside.EventLines.{Streams, BreaksOff, lines_in}
use Rattle.tdl_app.specs.inside.QueryFaults.{IsPlan}
use Rattle.tdl_app.specs.inside.Stops.{status_of_stop}

-- the text that the query calls for was put
pub queried_from_put : (query : Query) (called : ℕ) (text : List ℕ) (status : ℕ) (out : Account ℕ) → called < 3 → QueryAnswer query called text
    → Puts text called status out → Queried query status [] [] out
queried_from_put query called text status out small answer puts = record {
  done = λ memory fault.
      let ok = puts.done fault in
      let P : ℕ → Type 0 = λ s. QueryAnswer query s text in
      (text, subst P (sym ok.0) answer, ok.1);
  memory = λ e. absurd (omega (arith, (puts.done (λ four. omega arith)).0));
  fault = λ e. ((puts.fault e).0, called, text, answer, (puts.fault e).1);
  kept = puts.kept;
  nothing = (refl, refl);
}

-- ---- events
-- what a query's program has in its arc is what the query calls for
pub answers_plan : (query : Query) (program : Compiled) (arc : Arc) → IsPlan query program arc → QueryAnswer query 0 (lines_in program arc)
answers_plan query program arc plan =
    QueryAnswer.events plan.pattern arc plan.asks plan.fits refl (ap (λ (e : Tree). print_of (over (cyc e) arc)) plan.tree)

-- all lines were put
pub queried_from_all : (query : Query) (text : List ℕ) (out : Account ℕ) → QueryAnswer query 0 text → Streams text [] [] out → Queried query 0 [] [] out
queried_from_all query text out answer streams = record {
  done = λ memory fault.
      let G : List ℕ → Type 0 = GainedExactly out.told_before out.told_after in
      (text, answer, subst G (sym (streams.parts ∙ append-nil streams.put)) streams.gained);
  memory = λ e. absurd (omega arith);
  fault = λ e. absurd (omega arith);
  kept = streams.kept;
  nothing = (refl, refl);
}

-- a front of the lines was put
pub queried_from_front : (query : Query) (text : List ℕ) (stop : Stop) (out : Account ℕ) → QueryAnswer query 0 text → BreaksOff text [] stop out
    → Queried query (status_of_stop stop) [] [] out
queried_from_front query text Memory out answer breaks = record {
  done = λ memory fault. absurd (memory refl);
  memory = λ e. inr (text, answer, breaks.gained);
  fault = λ e. absurd (omega arith);
  kept = breaks.counts;
  nothing = (refl, refl);
}
queried_from_front query text Fault out answer breaks = record {
  done = λ memory fault. absurd (fault refl);
  memory = λ e. absurd (omega arith);
  fault = λ e. (breaks.counts, 0, text, answer, breaks.gained);
  kept = breaks.counts.kept;
  nothing = (refl, refl);
}
queried_from_front query text Input out answer breaks = absurd breaks.counts
