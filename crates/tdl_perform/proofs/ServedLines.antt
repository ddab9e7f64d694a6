-- Lines that are served one after another.
--     none_own        entries of others are none of a number's own
--     none_both       nor of two such histories, one after another
--     serves_none     none yet, whatever others did
--     serves_line     one line more
--     serves_on       the history goes on without the number
use Rattle.std.proofs.Common.{◌≡◌, ℕ, ◌==◌, List, [], ◌∷◌, ◌++◌, refl, ap, sym, subst, ◌∙◌, append_assoc, append-nil}
use Rattle.std.proofs.lemmas.List.Elements.{filter-append}
use Rattle.tdl_tempo.specs.Tempo.{Pace}
use Rattle.tdl_turn.specs.Numbers.{Among, NoneOf, Reads}
use Rattle.tdl_session.proofs.Passes.{mine_more}
use Rattle.tdl_score.specs.declared.histories.Entry.{Entry}
use Rattle.tdl_score.specs.History.{entries_of}
use Rattle.tdl_answer.specs.Answers.{AnswersText}
use Rattle.tdl_answer.proofs.GoneLines.{goes_more}
use Rattle.tdl_perform.specs.Serves.{Serves, ServesLine}

pub none_own : (who : ℕ) (numbers : List ℕ) (entries : List Entry) → Among who numbers → NoneOf (λ (e : Entry). e.who) numbers entries
    → entries_of who entries ≡ []
none_own who numbers entries own none = mine_more (λ (e : Entry). e.who) who numbers own [] entries none

none_both : (who : ℕ) (first second : List Entry) → entries_of who first ≡ [] → entries_of who second ≡ [] → entries_of who (first ++ second) ≡ []
none_both who first second none also =
    filter-append (λ (e : Entry). e.who == who) first second ∙ (ap (λ (es : List Entry). es ++ entries_of who second) none ∙ also)

pub serves_none : (tempo : Pace) (who : ℕ) (seen : List Entry) → entries_of who seen ≡ [] → Serves tempo who [] [] seen
serves_none tempo who seen none = record { reached = []; goes = refl; later = seen; whole = refl; none_own = none }

pub serves_line : (tempo : Pace) (who : ℕ) (lines replies : List (List ℕ)) (line reply : List ℕ) (old new : List Entry)
    → Serves tempo who lines replies old → ServesLine tempo who old line new reply → Serves tempo who (lines ++ line ∷ []) (replies ++ reply ∷ []) new
serves_line tempo who lines replies line reply old new before one =
    let step : ServesLine tempo who before.reached line new reply = record {
      others = before.later ++ one.others;
      none_own = none_both who before.later one.others before.none_own one.none_own;
      answered = subst (λ (h : List Entry). AnswersText tempo h who line new reply)
          (ap (λ (h : List Entry). h ++ one.others) before.whole ∙ append_assoc before.reached before.later one.others) one.answered;
    } in record {
      reached = new;
      goes = goes_more (ServesLine tempo who) [] before.reached new lines replies line reply before.goes step;
      later = [];
      whole = sym (append-nil new);
      none_own = refl;
    }

pub serves_on : (tempo : Pace) (who : ℕ) (numbers : List ℕ) (history seen : List Entry) (lines replies : List (List ℕ)) → Among who numbers
    → Reads (λ (e : Entry). e.who) history seen numbers → Serves tempo who lines replies seen → Serves tempo who lines replies history
serves_on tempo who numbers history seen lines replies own reads serves = record {
  reached = serves.reached;
  goes = serves.goes;
  later = serves.later ++ reads.0;
  whole = reads.1 ∙ (ap (λ (h : List Entry). h ++ reads.0) serves.whole ∙ append_assoc serves.reached serves.later reads.0);
  none_own = none_both who serves.later reads.0 serves.none_own (none_own who numbers reads.0 own reads.2);
}
