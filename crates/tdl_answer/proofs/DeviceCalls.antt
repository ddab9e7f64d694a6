-- What a device tells before a call and after it, where calls follow one another.
--     still                                   no call was made on the device
--     over                                    the device before a call, and after a later one
--     Meets                                   the later call begins where the first one ended
--     still_both, over_both, MeetBoth         the same of the two wires
--     gained_on, gave_on, rose_on             what holds of both calls holds of the two together
--     account_on                              what holds of the device up to some call holds up to a later one that changes nothing it tells
use Rattle.std.proofs.Common.{◌≡◌, ℕ, ◌≤◌, List, ◌++◌, Option, sym, subst}
use Rattle.tdl_io.specs.Told.{GainedExactly, GaveExactly}
use Rattle.tdl_io.specs.Faults.{CountRose}
use Rattle.tdl_io.proofs.Told.{gained_both, gave_both}
use Rattle.tdl_io.proofs.Counts.{rose_after}
use Rattle.tdl_answer.specs.Account.{Account, WireAccounts, account}

abbrev pub still : {A : Type 0} → Option (List A) → ℕ → Account A
still told faults = record { told_before = told; told_after = told; faults_before = faults; faults_after = faults }

abbrev pub over : {A : Type 0} → Account A → Account A → Account A
over first second =
    record { told_before = first.told_before; told_after = second.told_after; faults_before = first.faults_before; faults_after = second.faults_after }

pub record Meets {A : Type 0} (first second : Account A) : Type 0 where
  pub told : second.told_before ≡ first.told_after
  pub faults : second.faults_before ≡ first.faults_after

pub gained_on : {A : Type 0} {first second : Account A} {p q : List A} → Meets first second → GainedExactly first.told_before first.told_after p
    → GainedExactly second.told_before second.told_after q → GainedExactly first.told_before second.told_after (p ++ q)
gained_on {A} {first} {second} {p} {q} meets before after =
    gained_both (subst (λ (told : Option (List A)). GainedExactly first.told_before told p) (sym meets.told) before) after

-- also where a call that failed has told less at its end
pub gave_to : {first second : Account ℕ} {told : Option (List ℕ)} {p q : List ℕ} → Meets first second → GaveExactly first.told_before first.told_after p
    → GaveExactly second.told_before told q → GaveExactly first.told_before told (p ++ q)
gave_to {first} {second} {told} {p} {q} meets before after =
    gave_both (subst (λ (t : Option (List ℕ)). GaveExactly first.told_before t p) (sym meets.told) before) after

pub gave_on : {first second : Account ℕ} {p q : List ℕ} → Meets first second → GaveExactly first.told_before first.told_after p
    → GaveExactly second.told_before second.told_after q → GaveExactly first.told_before second.told_after (p ++ q)
gave_on meets before after = gave_to meets before after

pub rose_on : {A : Type 0} {first second : Account A} → Meets first second → first.faults_before ≤ first.faults_after
    → CountRose second.faults_before second.faults_after → CountRose first.faults_before second.faults_after
rose_on {A} {first} {second} meets kept rose = rose_after kept (subst (λ (count : ℕ). CountRose count second.faults_after) meets.faults rose)

pub account_on : {D A : Type 0} (P : Account A → Type 0) (told : D → Option (List A)) (faults : D → ℕ) (x a b : D) → told b ≡ told a
    → faults b ≡ faults a → P (account told faults x a) → P (account told faults x b)
account_on {D} {A} P told faults x a b same_told same_faults p =
    let at : Option (List A) → ℕ → Account A = λ t n. record {
      told_before = told x;
      told_after = t;
      faults_before = faults x;
      faults_after = n;
    } in
    subst (λ (n : ℕ). P (at (told b) n)) (sym same_faults) (subst (λ (t : Option (List A)). P (at t (faults a))) (sym same_told) p)

-- ---- the two wires
abbrev pub still_both : Option (List (List ℕ)) → ℕ → Option (List (List ℕ)) → ℕ → WireAccounts
still_both osc osc_faults midi midi_faults = record { osc = still osc osc_faults; midi = still midi midi_faults }

abbrev pub over_both : WireAccounts → WireAccounts → WireAccounts
over_both first second = record { osc = over first.osc second.osc; midi = over first.midi second.midi }

pub record MeetBoth (first second : WireAccounts) : Type 0 where
  pub osc : Meets first.osc second.osc
  pub midi : Meets first.midi second.midi
