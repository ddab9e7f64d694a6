-- What a core keeps beside its history, and what a history sends.
--     OneList, PastIsFixed     a history makes one list of changes; an entry more changes nothing of what was played
--     one_sent                 a history sends one list of packets to a wire at most
--     no_more                  an entry that is no finish leaves it open whether there is one
--     IsCount                  so many are sent to a wire
--     put_behind               one entry more, after room was made for it
--     sends_none, kept_none    before the first call
--     settled_now              up to where the desk is settled
--     trees, sent, sends       the changes that are kept, and what they send
--     goes_on, more_counted    what is sent of an entry more comes last, and is counted to what was
--     orbit_of                 the orbit of a change is one
use Rattle.std.proofs.Common.{◌≡◌, ℕ, ◌+◌, ◌/◌, ◌≤◌, List, [], ◌∷◌, ◌++◌, length, map, Bool, true, false, ◌||◌, refl, sym, ap, ◌∙◌, subst, arith}
use Rattle.std.proofs.Common.{length-append}
use Rattle.tdl_fraction.specs.Rational.{Rational}
use Rattle.tdl_fraction.specs.Units.{tick_units, time_of}
use Rattle.tdl_tempo.specs.Tempo.{Pace}
use Rattle.tdl_compile.specs.Compiled.{Compiled}
use Rattle.tdl_desk.specs.declared.changes.Change.{Change}
use Rattle.tdl_desk.specs.declared.changes.Change.TheVariants as changes
use Rattle.tdl_desk.specs.declared.changes.Dated.{Dated}
use Rattle.tdl_desk.specs.Changes.{map_change}
use Rattle.tdl_desk.specs.Desk.{HasOrbit}
use Rattle.tdl_desk.specs.Kept.{Kept, StandsFor}
use Rattle.tdl_expr.specs.Tree.{Tree}
use Rattle.tdl_notes.specs.Notes.{marks, midi as midi_before, tones}
use Rattle.tdl_notes.specs.Waiting.{Queue, Waits}
use Rattle.tdl_score.specs.declared.histories.Entry.{Entry}
use Rattle.tdl_score.specs.Growth.{GrowthLaws}
use Rattle.tdl_score.specs.History.{frontier, is_finished}
use Rattle.tdl_score.specs.Programs.{dated_tree}
use Rattle.tdl_score.specs.Score.{score}
use Rattle.tdl_score.specs.Wires.{Protocol, midi, osc, sent_of}
use Rattle.tdl_core.specs.Said.{Says, HasChanges, HasSent, MayFollow}
use Rattle.tdl_core.specs.Core.{Counts, KeepsHistory}

abbrev pub OneList : Type 0
OneList = (entries : List Entry) (xs ys : List (Dated Tree)) → HasChanges entries xs → HasChanges entries ys → xs ≡ ys

abbrev pub PastIsFixed : Type 0
PastIsFixed =
    (entries : List Entry) (e : Entry) → MayFollow entries e → (xs ys : List (Dated Tree)) → HasChanges entries xs → HasChanges (entries ++ e ∷ []) ys
    → score ys (frontier entries) ≡ score xs (frontier entries)

pub one_sent : OneList → (wire : Protocol) (entries : List Entry) (p q : List (List ℕ)) → HasSent wire entries p → HasSent wire entries q → p ≡ q
one_sent one wire entries p q h k =
    h.sent
    ∙ ap (λ (made : List (Dated Tree)). sent_of wire (is_finished entries) (frontier entries) (score made (frontier entries)))
    (one entries h.changes k.changes h.has k.has)
    ∙ sym k.sent

-- an entry that was put behind those for which room was made
pub put_behind : {new old entries : List Entry} (e : Entry) → new ≡ old ++ e ∷ [] → old ≡ entries → new ≡ entries ++ e ∷ []
put_behind e is same = is ∙ ap (λ (l : List Entry). l ++ e ∷ []) same

pub one_more : {X : Type 0} (xs : List X) (x : X) → length (xs ++ x ∷ []) ≡ length xs + 1
one_more xs x = length-append xs (x ∷ [])

pub no_more : (a b : Bool) → b ≡ false → (a || b) ≡ a
no_more true b e = refl
no_more false b e = e

abbrev pub IsCount : Protocol → List Entry → ℕ → Type 0
IsCount wire entries n = (p : List (List ℕ)) → HasSent wire entries p → n ≡ length p

-- ---- nothing was accepted
score_none : (made : List (Dated Tree)) → score made 0 ≡ []
unfolding score
score_none made = refl

nothing_sent : (wire : Protocol) → sent_of wire false 0 [] ≡ []
unfolding midi_before marks
nothing_sent (osc tempo) = refl
nothing_sent midi = refl

none_counted : (wire : Protocol) → IsCount wire [] 0
none_counted wire p h =
    sym (ap (λ (l : List (List ℕ)). length l) (h.sent ∙ ap (sent_of wire false 0) (score_none h.changes) ∙ nothing_sent wire))

pub sends_none : (wire : Protocol) → HasSent wire [] []
sends_none wire = record {
  changes = [];
  has = refl;
  sent = sym (ap (sent_of wire false 0) (score_none []) ∙ nothing_sent wire);
}

pub kept_none : GrowthLaws Says → (tempo : Pace) (state : Kept Compiled) (queue : Queue) → StandsFor state [] → state.settled ≡ 0
    → ((frontier : Rational) → Waits frontier [] queue)
    → KeepsHistory tempo [] state queue (record { units = 0; performed = 0; ticks = 0; packets = 0; messages = 0; finished = false })
kept_none laws tempo state queue stands settled waits = record {
  legal = laws.nothing;
  changes = [];
  desk = record { has = refl; stands = stands; settled = settled };
  counted = record {
    played = refl;
    performed_are = refl;
    ticks_are = refl;
    finished_is = refl;
    counted = refl;
    few_performed = omega arith;
    few_ticks = omega arith;
    to_last = omega arith;
  };
  packets = none_counted (osc tempo);
  messages = none_counted midi;
  notes = λ going. subst (λ rows. Waits (time_of 0) (tones rows) queue) (sym (score_none [])) (waits (time_of 0));
}

-- the desk is settled up to the cycle of the frontier
pub settled_now : {tempo : Pace} {entries : List Entry} {state : Kept Compiled} {queue : Queue} {counts : Counts}
    → KeepsHistory tempo entries state queue counts
    → state.settled ≡ counts.units / tick_units
settled_now kept = kept.desk.settled ∙ ap (λ u. u / tick_units) (sym kept.counted.played)

pub ≤_from_same : {m n : ℕ} → m ≡ n → m ≤ n
≤_from_same {m} {n} e = omega (arith, e)

-- ---- what a history of these changes sends, and with an entry more
module _ (one : OneList) {tempo : Pace} {entries : List Entry} {state : Kept Compiled} {queue : Queue} {counts : Counts}
    (kept : KeepsHistory tempo entries state queue counts) where
  abbrev pub trees : List (Dated Tree)
  trees = map dated_tree kept.changes

  abbrev pub sent : Protocol → List (List ℕ)
  sent wire = sent_of wire (is_finished entries) (frontier entries) (score trees (frontier entries))

  pub sends : (wire : Protocol) → HasSent wire entries (sent wire)
  sends wire = record { changes = trees; has = kept.desk.has; sent = refl }

  pub goes_on : (wire : Protocol) (e : Entry) (new p : List (List ℕ)) → HasSent wire (entries ++ e ∷ []) (sent wire ++ new) → HasSent wire entries p
      → HasSent wire (entries ++ e ∷ []) (p ++ new)
  goes_on wire e new p after h =
      subst (λ (q : List (List ℕ)). HasSent wire (entries ++ e ∷ []) (q ++ new)) (one_sent one wire entries (sent wire) p (sends wire) h) after

  pub more_counted : (wire : Protocol) (e : Entry) (new : List (List ℕ)) (n : ℕ) → HasSent wire (entries ++ e ∷ []) (sent wire ++ new)
      → IsCount wire entries n → IsCount wire (entries ++ e ∷ []) (n + length new)
  more_counted wire e new n after count p h =
      ap (λ k. k + length new) (count (sent wire) (sends wire)) ∙ sym (length-append (sent wire) new)
      ∙ ap (λ (l : List (List ℕ)). length l) (one_sent one wire (entries ++ e ∷ []) (sent wire ++ new) p after h)

-- a change has an orbit whatever its pattern is
pub orbit_of : {P Q : Type 0} (f : P → Q) (change : Change P) → HasOrbit (map_change f change) → HasOrbit change
orbit_of f (changes.Set orbit pattern) h = h
orbit_of f changes.Hush h = h
orbit_of f (changes.Mute orbit) h = h
orbit_of f (changes.Unmute orbit) h = h
orbit_of f (changes.Solo orbit) h = h
orbit_of f (changes.Unsolo orbit) h = h
orbit_of f changes.UnmuteAll h = h
orbit_of f changes.UnsoloAll h = h
