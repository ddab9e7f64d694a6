-- Which faults go on from a call.
use Rattle.std.proofs.Common.{◌≡◌, Option, Some, None, Result, Ok, Err, IsErrAnd, IfErr, true≢false, sym, ◌∙◌}
use Rattle.std.specs.Prelude.{IfNone, IsSome}
use Rattle.tdl_words.specs.declared.faults.WordsFault.{WordsFault}
use Rattle.tdl_words.specs.declared.faults.WordsFault.TheVariants.{BadWords, NoMemory}

-- out of memory says nothing of the words
pub memory_only : {T : Type 0} (Q : Type 0) (r : Result T WordsFault) → IsErrAnd r (λ e. e ≡ NoMemory) → IfErr r (λ fault. fault ≡ BadWords → Q)
memory_only Q (Ok x) h = tt
memory_only Q (Err e) h = λ bad. absurd (cc)

-- the fault of a call goes on as it is
pub same_fault : {T Q : Type 0} (r : Result T WordsFault) (fault : WordsFault) → IsErrAnd r (λ e. e ≡ fault) → (fault ≡ BadWords → Q)
    → IfErr r (λ f. f ≡ BadWords → Q)
same_fault (Ok x) fault h says = tt
same_fault (Err e) fault h says = λ bad. says (sym h ∙ bad)

pub not_none : {X : Type 0} (Q : Type 0) (o : Option X) → IsSome o → IfNone o Q
not_none Q (Some x) h = tt
not_none Q None h = absurd (true≢false (sym h))
