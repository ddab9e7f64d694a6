-- How a call of the reader goes from chunk to chunk.
use Rattle.std.proofs.Common.{◌≡◌, ℕ, ◌+◌, ◌-◌, ◌<◌, ◌≤◌, Bool, true, false, IsTrue, List, [], ◌∷◌, ◌++◌, length, take, Option, None, Some, IfSome}
use Rattle.std.proofs.Common.{Result, Ok, Err, refl, sym, ap, subst, ◌∙◌, arith, append-nil, append_assoc, length-append, inl, inr, ◌⊎◌}
use Rattle.std.proofs.Math.Seq.{take-append-add}
use Rattle.std.proofs.lemmas.Grind.{common_steps}
use Rattle.std.proofs.lemmas.List.{take_all}
use Rattle.std.proofs.lemmas.List.Elements.{All-append, All-nil}
use Rattle.std.specs.Prelude.{◌≢◌}
use Rattle.std.specs.Result.{IsErrAnd}
use Rattle.tdl_io.specs.Told.{GaveExactly, AsBeforeOrUntold}
use Rattle.tdl_io.proofs.Told.{gave_both, gave_nothing}
use Rattle.tdl_lines.specs.declared.faults.ReadFault.TheVariants.{NoMemory, Failed}
use Rattle.tdl_lines.specs.declared.reader.Given.{Given}
use Rattle.tdl_lines.specs.declared.reader.Given.TheVariants.{Whole, Joined}
use Rattle.tdl_lines.specs.declared.reader.Next.{Next}
use Rattle.tdl_lines.specs.declared.reader.Next.TheVariants.{Line, Ended, Spent}
use Rattle.tdl_lines.specs.Lines.{HasNoFeed, trimmed, line_feed}
use Rattle.tdl_lines.specs.Reading.{Reading, HasGivenAll, HasGivenSome, HasRead, ReadsOn}
use Rattle.tdl_lines.specs.inside.Chunk.{Fills}
use Rattle.tdl_lines.specs.inside.ChunkState.{ChunkState}
use Rattle.tdl_lines.specs.Fields.{IsEmptyWhere, line_where, rest_where}
use Rattle.tdl_lines.specs.inside.InChunk.{JoinsAll, ReadsPiece}
use Rattle.tdl_lines.proofs.ReadingLemmas.{TakesMore, more_read, line_given, last_given, all_given_at_end, all_given_so_far, some_given}

-- a call gave no line yet, and these bytes wait
pub record Going (Known : List ℕ → Type 0) (old : Reading) (told_before told_after : Option (List ℕ)) (waiting : List ℕ) (left : ℕ) (ended : Bool)
    : Type 0 where
  pub more : List ℕ
  pub gave : GaveExactly told_before told_after more
  pub known : Known more
  pub takes : TakesMore old more waiting left ended
  pub none_left : IsTrue ended → IsTrue old.ended ⊎ IfSome told_after (λ rest. rest ≡ [])

take_nothing : (n : ℕ) → take {A = ℕ} n [] ≡ []
take_nothing n = take_all n [] (omega arith)

pub nothing : (bytes : List ℕ) → length bytes ≡ 0 → bytes ≡ []
nothing [] none = refl
nothing (byte ∷ bytes) none = absurd (omega arith)

pub not_yet : {ended : Bool} {A : Type 0} → ended ≡ false → IsTrue ended → A
not_yet {ended} goes ends = absurd (cc)

-- a source that gave nothing leaves nothing to read
pub none_unread : {Known : List ℕ → Type 0} {left count : ℕ} {told_before told_after : Option (List ℕ)} {chunk : ChunkState}
    → Fills Known left count told_before told_after chunk → count ≡ 0 → chunk.unread ≡ []
none_unread {Known} {left} fills none =
    fills.unread ∙ ap (take (left - 1)) (nothing fills.bytes (fills.count_is ∙ none)) ∙ take_nothing (left - 1)

-- ---- the steps
pub going_from : {Known : List ℕ → Type 0} (old : Reading) (told : Option (List ℕ)) (waiting : List ℕ) → Known [] → waiting ≡ old.pending
    → Going Known old told told waiting old.left old.ended
going_from {Known} old told waiting known same = record {
  more = [];
  gave = gave_nothing told;
  known = known;
  takes = record {
    waiting_is = same ∙ sym (ap (λ (xs : List ℕ). old.pending ++ xs) (take_nothing (old.left - 1)) ∙ append-nil old.pending);
    size = omega arith;
    none_more = λ ended. (refl, ended);
    fits = λ ended. inl ended;
  };
  none_left = λ ended. inl ended;
}

-- a call begins: what the piece holds of no line that was given waits, and then what is unread
pub going_begins : {Known : List ℕ → Type 0} {old : Reading} {line : List ℕ} (told : Option (List ℕ)) (rest piece unread : List ℕ) (left : ℕ) (ended : Bool)
    → Known [] → record { pending = rest ++ unread; left = left; ended = ended; line = line } ≡ old → piece ≡ rest
    → Going Known old told told (piece ++ unread) left ended
going_begins {Known} {old} {line} told rest piece unread left ended known view_is same =
    subst (λ (r : Reading). Going Known r told told (piece ++ unread) left ended) view_is
    (going_from (record { pending = rest ++ unread; left = left; ended = ended; line = line }) told (piece ++ unread) known
    (ap (λ (xs : List ℕ). xs ++ unread) same))

more_waits : (old left : ℕ) (more bytes : List ℕ) → length more + left ≡ old → 0 < left
    → take (old - 1) (more ++ bytes) ≡ take (old - 1) more ++ take (left - 1) bytes
more_waits old left more bytes size some =
    let sum : old - 1 ≡ length more + (left - 1) = omega arith in
    ap (λ (n : ℕ). take n (more ++ bytes)) sum ∙ take-append-add more bytes (left - 1)
    ∙ ap (λ (xs : List ℕ). xs ++ take (left - 1) bytes) (sym (take_all (old - 1) more (omega arith)))

-- where more bytes may be taken, all that were taken wait
all_waits : {Known : List ℕ → Type 0} {old : Reading} {told_before told_after : Option (List ℕ)} {waiting : List ℕ} {left : ℕ} {ended : Bool}
    (going : Going Known old told_before told_after waiting left ended) → 0 < left → waiting ≡ old.pending ++ going.more
all_waits {Known} {old} {told_before} {told_after} {waiting} {left} going some =
    going.takes.waiting_is ∙ ap (λ (xs : List ℕ). old.pending ++ xs) (take_all (old.left - 1) going.more (omega (arith, going.takes.size)))

pub going_on : {Known Known' Filled : List ℕ → Type 0} {old : Reading} {told_before told_between told_after : Option (List ℕ)} {waiting : List ℕ}
    {left count : ℕ} {ended : Bool} {chunk : ChunkState} (ended' : Bool) → Going Known old told_before told_between waiting left ended → ended ≡ false
    → 0 < left → Fills Filled left count told_between told_after chunk
    → ((more bytes : List ℕ) → waiting ≡ old.pending ++ more → (IsTrue old.ended → ⊥) → Known more → Filled bytes → Known' (more ++ bytes))
    → (IsTrue ended' → count ≡ 0) → Going Known' old told_before told_after (waiting ++ chunk.unread) (left - count) ended'
going_on {Known} {Known'} {Filled} {old} {told_before} {told_between} {told_after} {waiting} {left} {count} {ended} {chunk}
    ended' going goes some fills step end = record {
      more = going.more ++ fills.bytes;
      gave = gave_both going.gave fills.gave;
      known = step going.more fills.bytes (all_waits going some) (λ before. not_yet goes (going.takes.none_more before).1) going.known fills.known;
      takes = record {
        waiting_is = ap (λ (xs : List ℕ). xs ++ chunk.unread) going.takes.waiting_is ∙ append_assoc old.pending (take (old.left - 1) going.more) chunk.unread
            ∙ ap (λ (xs : List ℕ). old.pending ++ (take (old.left - 1) going.more ++ xs)) fills.unread
            ∙ ap (λ (xs : List ℕ). old.pending ++ xs) (sym (more_waits old.left left going.more fills.bytes going.takes.size some));
        size = omega (arith, length-append going.more fills.bytes, fills.count_is, fills.most, going.takes.size);
        none_more = λ before. not_yet goes (going.takes.none_more before).1;
        fits = λ e. inr (omega (arith, end e));
      };
      none_left = λ e. inr (fills.none_left (end e));
    }

-- the waiting bytes are the same in another form
pub going_same : {Known : List ℕ → Type 0} {old : Reading} {told_before told_after : Option (List ℕ)} {waiting : List ℕ} {left : ℕ} {ended : Bool}
    (waiting' : List ℕ) → waiting' ≡ waiting → Going Known old told_before told_after waiting left ended
    → Going Known old told_before told_after waiting' left ended
going_same {Known} {old} {told_before} {told_after} {waiting} {left} {ended} waiting' same going =
    subst (λ (w : List ℕ). Going Known old told_before told_after w left ended) (sym same) going

taken_at_most : (n : ℕ) (xs : List ℕ) → length (take n xs) ≤ length xs
taken_at_most n xs = grind (arith, common_steps)

-- where fewer bytes are pending than waited, fewer are pending or may still be taken than before the call
pub shrinks_by : {Known : List ℕ → Type 0} {old : Reading} {told_before told_after : Option (List ℕ)} {waiting : List ℕ} {left : ℕ} {ended : Bool}
    (pending : List ℕ) → Going Known old told_before told_after waiting left ended → length pending < length waiting
    → left + length pending < old.left + length old.pending
shrinks_by {Known} {old} {told_before} {told_after} {waiting} {left} {ended} pending going fewer =
    let taken : length waiting ≡ length old.pending + length (take (old.left - 1) going.more) =
    ap length going.takes.waiting_is ∙ length-append old.pending (take (old.left - 1) going.more) in
    omega (arith, taken, fewer, going.takes.size, taken_at_most (old.left - 1) going.more)

-- ---- what stands in the chunk and the piece once a line feed is found
pub record FindsLine (given : Given) (waiting : List ℕ) (chunk : ChunkState) (piece : List ℕ) : Type 0 where
  pub line : List ℕ
  pub plain : HasNoFeed line
  pub parts : waiting ≡ line ++ line_feed ∷ chunk.unread
  pub shown : line_where (Some given) chunk.front piece ≡ trimmed line
  pub rest : rest_where (Some given) piece ++ chunk.unread ≡ chunk.unread
  pub piece_plain : HasNoFeed piece
  pub empty : IsEmptyWhere (Some given) piece

abbrev Plain : ℕ → Type 0
Plain byte = byte ≢ line_feed

finds_line_at : (given : Given) (bytes : List ℕ) (chunk : ChunkState) (piece piece' : List ℕ) → HasNoFeed piece
    → ReadsPiece (Some given) bytes chunk piece piece' → FindsLine given (piece ++ bytes) chunk piece'
finds_line_at Whole bytes chunk piece piece' plain is = record {
  line = chunk.front;
  plain = is.no_feed;
  parts = ap (λ (xs : List ℕ). xs ++ bytes) is.was_empty ∙ is.parts;
  shown = refl;
  rest = refl;
  piece_plain = subst HasNoFeed (sym is.is_empty) (All-nil Plain);
  empty = is.is_empty;
}
finds_line_at Joined bytes chunk piece piece' plain is =
    let both : HasNoFeed (piece ++ chunk.front) = All-append Plain piece chunk.front plain is.no_feed in record {
      line = piece ++ chunk.front;
      plain = both;
      parts = ap (λ (xs : List ℕ). piece ++ xs) is.parts ∙ sym (append_assoc piece chunk.front (line_feed ∷ chunk.unread));
      shown = ap trimmed is.piece_is;
      rest = refl;
      piece_plain = subst HasNoFeed (sym is.piece_is) both;
      empty = tt;
    }

pub finds_line : {answer : Option Given} {given : Given} {before before' chunk : ChunkState} (piece : List ℕ) {piece' : List ℕ}
    → answer ≡ Some given → before' ≡ before → HasNoFeed piece → ReadsPiece answer before'.unread chunk piece piece'
    → FindsLine given (piece ++ before.unread) chunk piece'
finds_line {answer} {given} {before} {before'} {chunk} piece {piece'} some same plain is =
    finds_line_at given before.unread chunk piece piece' plain
    (subst (λ (b : ChunkState). ReadsPiece (Some given) b.unread chunk piece piece') same
    (subst (λ (a : Option Given). ReadsPiece a before'.unread chunk piece piece') some is))

-- no line feed was found: all bytes are in the piece
pub record AllJoined (waiting : List ℕ) (chunk : ChunkState) (piece : List ℕ) : Type 0 where
  pub piece_is : piece ≡ waiting
  pub plain : HasNoFeed piece
  pub none_left : chunk.unread ≡ []

pub all_joined : {answer : Option Given} {before before' chunk : ChunkState} (piece : List ℕ) {piece' : List ℕ} → answer ≡ None → before' ≡ before
    → HasNoFeed piece → ReadsPiece answer before'.unread chunk piece piece' → AllJoined (piece ++ before.unread) chunk piece'
all_joined {answer} {before} {before'} {chunk} piece {piece'} none same plain is =
    let all : JoinsAll before.unread chunk piece piece' =
    subst (λ (b : ChunkState). ReadsPiece None b.unread chunk piece piece') same
    (subst (λ (a : Option Given). ReadsPiece a before'.unread chunk piece piece') none is) in record {
      piece_is = all.piece_is;
      plain = subst HasNoFeed (sym all.piece_is) (All-append Plain piece before.unread plain all.no_feed);
      none_left = all.none_left;
    }

-- where nothing is unread, all that waits is in the piece
pub all_in_piece : (piece : List ℕ) {unread : List ℕ} → unread ≡ [] → piece ≡ piece ++ unread
all_in_piece piece {unread} none = sym (ap (λ (xs : List ℕ). piece ++ xs) none ∙ append-nil piece)

-- where no line was given, the piece is pending
pub pending_none : (given : Option Given) (piece unread : List ℕ) → given ≡ None → unread ≡ [] → rest_where given piece ++ unread ≡ piece
pending_none given piece unread none nothing =
    ap (λ (g : Option Given). rest_where g piece ++ unread) none ∙ ap (λ (xs : List ℕ). piece ++ xs) nothing ∙ append-nil piece

pub empty_none : (given : Option Given) (piece : List ℕ) → given ≡ None → IsEmptyWhere given piece
empty_none given piece none = subst (λ (g : Option Given). IsEmptyWhere g piece) (sym none) tt

-- ---- what is answered
abbrev pub at : ℕ → List ℕ → Bool → List ℕ → Reading
at left pending ended line = record { pending = pending; left = left; ended = ended; line = line }

module _ {Known : List ℕ → Type 0} {old : Reading} {told_before told_after : Option (List ℕ)} {waiting : List ℕ} {left : ℕ} {ended : Bool} where
  -- the reader once it has taken the bytes of the call
  more_taken : (line taken : List ℕ) (given : List (List ℕ)) (going : Going Known old told_before told_after waiting left ended) → HasRead old taken given
      → HasRead (at left waiting ended line) (taken ++ going.more) given
  more_taken line taken given going read = more_read old going.more waiting left ended line taken given going.takes read

  pub answers_line : (raw rest pending line taken : List ℕ) (given : List (List ℕ)) → Going Known old told_before told_after waiting left ended
      → waiting ≡ raw ++ line_feed ∷ rest → HasNoFeed raw → pending ≡ rest → line ≡ trimmed raw → HasRead old taken given
      → ReadsOn Known (Ok Line) old (at left pending ended line) told_before told_after taken given
  answers_line raw rest pending line taken given going parts plain pending_is line_is read =
      rw (pending_is, line_is) (record {
        more = going.more;
        gave = going.gave;
        known = going.known;
        none_left = going.none_left;
        says = line_given (at left waiting ended []) raw rest (taken ++ going.more) given (more_taken [] taken given going read) parts plain;
      })

  pub answers_last : (pending line taken : List ℕ) (given : List (List ℕ)) → Going Known old told_before told_after waiting left ended
      → HasNoFeed waiting → 0 < length waiting → ended ≡ true → pending ≡ [] → line ≡ trimmed waiting → HasRead old taken given
      → ReadsOn Known (Ok Line) old (at left pending ended line) told_before told_after taken given
  answers_last pending line taken given going plain some ends pending_is line_is read =
      rw (pending_is, line_is) (record {
        more = going.more;
        gave = going.gave;
        known = going.known;
        none_left = going.none_left;
        says = last_given (at left waiting ended []) (taken ++ going.more) given (more_taken [] taken given going read) plain some ends;
      })

  pub answers_end : (pending line taken : List ℕ) (given : List (List ℕ)) → Going Known old told_before told_after waiting left ended → waiting ≡ []
      → ended ≡ true → pending ≡ waiting → HasRead old taken given
      → ReadsOn Known (Ok Ended) old (at left pending ended line) told_before told_after taken given
  answers_end pending line taken given going none ends pending_is read =
      rw pending_is (record {
        more = going.more;
        gave = going.gave;
        known = going.known;
        none_left = going.none_left;
        says = all_given_at_end (at left waiting ended line) (taken ++ going.more) given (more_taken line taken given going read) none ends;
      })

  all_so_far : (line taken : List ℕ) (given : List (List ℕ)) (going : Going Known old told_before told_after waiting left ended) → HasNoFeed waiting
      → ended ≡ false → HasRead old taken given → HasGivenAll false (at left waiting ended line) (taken ++ going.more) given
  all_so_far line taken given going plain goes read =
      all_given_so_far (at left waiting ended line) (taken ++ going.more) given (more_taken line taken given going read) plain goes

  pub answers_spent : (pending line taken : List ℕ) (given : List (List ℕ)) → Going Known old told_before told_after waiting left ended
      → HasNoFeed waiting → ended ≡ false → left ≡ 0 → pending ≡ waiting → HasRead old taken given
      → ReadsOn Known (Ok Spent) old (at left pending ended line) told_before told_after taken given
  answers_spent pending line taken given going plain goes none pending_is read =
      let all = all_so_far line taken given going plain goes read in
      rw pending_is (record {
        more = going.more;
        gave = going.gave;
        known = going.known;
        none_left = going.none_left;
        says = (all, omega (arith, all.read.counted));
      })

  pub answers_failed : {Known' : List ℕ → Type 0} {told_last : Option (List ℕ)} (pending line taken : List ℕ) (given : List (List ℕ))
      → Going Known old told_before told_after waiting left ended → HasNoFeed waiting → ended ≡ false → 0 < left → pending ≡ waiting
      → AsBeforeOrUntold told_after told_last
      → ((more : List ℕ) → waiting ≡ old.pending ++ more → (IsTrue old.ended → ⊥) → Known more → Known' more) → HasRead old taken given
      → ReadsOn Known' (Err Failed) old (at left pending ended line) told_before told_last taken given
  answers_failed {Known'} {told_last} pending line taken given going plain goes some pending_is failed step read =
      let all = all_so_far line taken given going plain goes read in
      rw pending_is (record {
        more = going.more;
        gave = record { between = told_after; gave = going.gave; failed = failed };
        known = step going.more (all_waits going some) (λ before. not_yet goes (going.takes.none_more before).1) going.known;
        none_left = not_yet goes;
        says = (all, omega (arith, all.read.counted));
      })

  pub answers_no_memory : (pending line taken : List ℕ) (given : List (List ℕ)) → Going Known old told_before told_after waiting left ended
      → ended ≡ false → HasRead old taken given → ReadsOn Known (Err NoMemory) old (at left pending ended line) told_before told_after taken given
  answers_no_memory pending line taken given going goes read = record {
    more = going.more;
    gave = going.gave;
    known = going.known;
    none_left = not_yet goes;
    says = (
      goes,
      subst (λ (e : Bool). HasGivenSome e (taken ++ going.more) given) goes
          (some_given (at left waiting ended line) (taken ++ going.more) given (more_taken line taken given going read)),
    );
  }

-- what a failed call answers
pub answers_err : {E : Type 0} {answer : Result Next E} {fault : E} → IsErrAnd answer (λ e. e ≡ fault) → answer ≡ Err fault
answers_err {E} {answer} {fault} is = of answer is
  where
    of : (r : Result Next E) → IsErrAnd r (λ e. e ≡ fault) → r ≡ Err fault
    of (Ok next) never = absurd never
    of (Err e) same = ap Err same
