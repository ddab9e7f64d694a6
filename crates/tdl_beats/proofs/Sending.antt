-- What goes to the wires while a history goes on.
--     sends_quietly      nothing, where it sends no more
--     sends_both         what goes first, and then more
--     sends_then_from    and then more than was sent
use Rattle.std.proofs.Common.{ℕ, ◌≤◌, inl, inr, List, [], ◌++◌, Option, sym, ap, ◌∙◌, subst, append_assoc, append-nil}
use Rattle.tdl_io.specs.Told.{GainedExactly}
use Rattle.tdl_io.proofs.Told.{gained_nothing}
use Rattle.tdl_score.specs.declared.histories.Entry.{Entry}
use Rattle.tdl_score.specs.History.{before_last_play}
use Rattle.tdl_score.specs.Wires.{Protocol}
use Rattle.tdl_core.specs.Said.{HasSent}
use Rattle.tdl_answer.specs.Account.{Account}
use Rattle.tdl_answer.proofs.DeviceCalls.{Meets, over, still, gained_on, rose_on}
use Rattle.tdl_beats.specs.inside.Playing.{SendsOn, SendsOnFrom}

pub sends_quietly : {wire : Protocol} {old new : List Entry} (told : Option (List (List ℕ))) (faults : ℕ)
    → ((all : List (List ℕ)) → HasSent wire old all → HasSent wire new all) → SendsOn wire old new (still told faults)
sends_quietly {wire} {old} {new} told faults quiet = record {
  more = [];
  goes = λ all sent. subst (λ (packets : List (List ℕ)). HasSent wire new packets) (sym (append-nil all)) (quiet all sent);
  gained = gained_nothing told;
}

pub sends_both : {wire : Protocol} {old mid new : List Entry} {account account' : Account (List ℕ)} → Meets account account'
    → SendsOn wire old mid account → SendsOn wire mid new account' → SendsOn wire old new (over account account')
sends_both {wire} {old} {mid} {new} {account} {account'} meets first second = record {
  more = first.more ++ second.more;
  goes = λ all sent. subst (λ (packets : List (List ℕ)). HasSent wire new packets) (append_assoc all first.more second.more)
      (second.goes (all ++ first.more) (first.goes all sent));
  gained = gained_on meets first.gained second.gained;
}

pub sends_then_from : {wire : Protocol} {old mid new : List Entry} {account account' : Account (List ℕ)} → Meets account account'
    → account.faults_before ≤ account.faults_after → SendsOn wire old mid account → SendsOnFrom wire mid new account'
    → SendsOnFrom wire old new (over account account')
sends_then_from {wire} {old} {mid} {new} {account} {account'} meets kept before from = record {
  first = before.more ++ from.first;
  more = from.more;
  missing = from.missing;
  goes_first = λ all sent. subst (λ (packets : List (List ℕ)). HasSent wire (before_last_play new) packets) (append_assoc all before.more from.first)
      (from.goes_first (all ++ before.more) (before.goes all sent));
  goes = λ all sent. subst (λ (packets : List (List ℕ)). HasSent wire new packets)
      (append_assoc all before.more (from.first ++ (from.more ++ from.missing))
      ∙ ap (λ (packets : List (List ℕ)). all ++ packets) (sym (append_assoc before.more from.first (from.more ++ from.missing))))
      (from.goes (all ++ before.more) (before.goes all sent));
  gained = elim from.gained [
    | inl gained ↦ inl (subst (λ (packets : List (List ℕ)). GainedExactly account.told_before account'.told_after packets)
        (sym (append_assoc before.more from.first from.more)) (gained_on meets before.gained gained))
    | inr lost ↦ inr (lost.0, rose_on meets kept lost.1)
  ];
}
