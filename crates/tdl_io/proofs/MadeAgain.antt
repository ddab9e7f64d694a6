-- Calls that are made again.
use Rattle.std.proofs.Common.{◌≡◌, ◌<◌, ◌-◌, ℕ, zero, suc, List, ◌++◌, inl, inr, ap, sym, ◌∙◌, subst, arith}
use Rattle.std.specs.Prelude.{Option, None, Some, Result, Ok, Err}
use Rattle.std.specs.Io.KnownBytes.{Appends, Consumes, Keeps}
use Rattle.std.specs.declared.io.Error.{Error}
use Rattle.tdl_io.specs.declared.patient.StdReader.{StdReader}
use Rattle.tdl_io.specs.declared.patient.StdWriter.{StdWriter}
use Rattle.tdl_io.specs.inside.Again.{IsInterrupted, MadeAgain, ReadsOnce, ReadsOnceOf, WritesOnce, WritesOnceOf}

-- the call that is not made again
pub made_last : {D : Type 0} (Once : D → Result ℕ Error → D → Type 0) (tries : ℕ) (old : D) (answer : Result ℕ Error) (new : D)
    → Once old answer new → (0 < tries → ¬ (IsInterrupted answer)) → MadeAgain Once tries old answer new
unfolding MadeAgain
made_last Once zero old answer new once last = once
made_last Once (suc tries) old answer new once last = inl (once, last (omega arith))

-- a call that is made again
pub made_more : {D : Type 0} (Once : D → Result ℕ Error → D → Type 0) (tries : ℕ) (old : D) (failed : Result ℕ Error) (mid : D)
    (answer : Result ℕ Error) (new : D)
    → 0 < tries → IsInterrupted failed → Once old failed mid → MadeAgain Once (tries - 1) mid answer new → MadeAgain Once tries old answer new
unfolding MadeAgain
made_more Once zero old failed mid answer new some interrupted once rest = absurd (omega (arith, some))
made_more Once (suc tries) old failed mid answer new some interrupted once rest =
    let same : suc tries - 1 ≡ tries = omega arith in
    inr (failed, mid, interrupted, once, subst (λ (n : ℕ). MadeAgain Once n mid answer new) same rest)

-- what one call does, where a call that failed and one after it do it together
pub made_as_one : {D : Type 0} (Once Does : D → Result ℕ Error → D → Type 0)
    → ((old : D) (answer : Result ℕ Error) (new : D) → Once old answer new → Does old answer new)
    → ((old : D) (error : Error) (mid : D) (answer : Result ℕ Error) (new : D) → Does old (Err error) mid → Does mid answer new → Does old answer new)
    → (tries : ℕ) (old : D) (answer : Result ℕ Error) (new : D) → MadeAgain Once tries old answer new → Does old answer new
unfolding MadeAgain
made_as_one Once Does one both zero old answer new made = one old answer new made
made_as_one Once Does one both (suc tries) old answer new (inl made) = one old answer new made.0
made_as_one Once Does one both (suc tries) old answer new (inr (Ok count, mid, interrupted, once, rest)) = absurd interrupted
made_as_one Once Does one both (suc tries) old answer new (inr (Err error, mid, interrupted, once, rest)) =
    both old error mid answer new (one old (Err error) mid once) (made_as_one Once Does one both tries mid answer new rest)

Keeps_both : (a b c : Option (List ℕ)) → Keeps a b → Keeps b c → Keeps a c
Keeps_both None b c first second = tt
Keeps_both (Some xs) None c first second = absurd first
Keeps_both (Some xs) (Some ys) None first second = absurd second
Keeps_both (Some xs) (Some ys) (Some zs) first second = second ∙ first

Consumes_kept : (a b c : Option (List ℕ)) (p : List ℕ) → Keeps a b → Consumes b c p → Consumes a c p
Consumes_kept None b c p first second = tt
Consumes_kept (Some xs) None c p first second = absurd first
Consumes_kept (Some xs) (Some ys) None p first second = absurd second
Consumes_kept (Some xs) (Some ys) (Some zs) p first second = sym first ∙ second

Appends_kept : (a b c : Option (List ℕ)) (p : List ℕ) → Keeps a b → Appends b c p → Appends a c p
Appends_kept None b c p first second = tt
Appends_kept (Some xs) None c p first second = absurd first
Appends_kept (Some xs) (Some ys) None p first second = absurd second
Appends_kept (Some xs) (Some ys) (Some zs) p first second = second ∙ ap (λ (bytes : List ℕ). bytes ++ p) first

-- a read that failed, and then another
pub reads_both : (a : Option (List ℕ)) (x : List ℕ) (error : Error) (b : Option (List ℕ)) (y : List ℕ)
    (answer : Result ℕ Error) (c : Option (List ℕ)) (z : List ℕ)
    → ReadsOnce a x (Err error) b y → ReadsOnce b y answer c z → ReadsOnce a x answer c z
reads_both a x error b y (Ok count) c z first second =
    (second.0 ∙ first.0, second.1, (Consumes_kept a b c _ first.2 second.2.0, second.2.1))
reads_both a x error b y (Err last) c z first second = (second.0 ∙ first.0, tt, Keeps_both a b c first.2 second.2)

-- a write that failed, and then another
pub writes_both : (piece : List ℕ) (a : Option (List ℕ)) (error : Error) (b : Option (List ℕ)) (answer : Result ℕ Error) (c : Option (List ℕ))
    → WritesOnce piece a (Err error) b → WritesOnce piece b answer c → WritesOnce piece a answer c
writes_both piece a error b (Ok count) c first second = (second.0, Appends_kept a b c _ first.1 second.1)
writes_both piece a error b (Err last) c first second = (tt, Keeps_both a b c first.1 second.1)

-- reads that are made again do what one does
pub reads_as_one : {R : Type 0} (left : R → Option (List ℕ)) (tries : ℕ) (old : StdReader R × List ℕ) (answer : Result ℕ Error) (new : StdReader R × List ℕ)
    → MadeAgain (ReadsOnceOf left) tries old answer new → ReadsOnceOf left old answer new
reads_as_one {R} left = made_as_one (ReadsOnceOf left) (ReadsOnceOf left)
    (λ old answer new one. one)
    (λ old error mid answer new first second.
    reads_both (left old.0.reader) old.1 error (left mid.0.reader) mid.1 answer (left new.0.reader) new.1 first second)

-- and writes too
pub writes_as_one : {W : Type 0} (held : W → Option (List ℕ)) (piece : List ℕ) (tries : ℕ) (old : StdWriter W) (answer : Result ℕ Error) (new : StdWriter W)
    → MadeAgain (WritesOnceOf held piece) tries old answer new → WritesOnceOf held piece old answer new
writes_as_one {W} held piece = made_as_one (WritesOnceOf held piece) (WritesOnceOf held piece)
    (λ old answer new one. one)
    (λ old error mid answer new first second. writes_both piece (held old.writer) error (held mid.writer) answer (held new.writer) first second)
