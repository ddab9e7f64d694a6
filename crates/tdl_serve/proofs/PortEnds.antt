-- How ports ended, by their numbers.
--     numbered_next, numbered_length    ends that are numbered one after another
--     few_ended                         there are no more ends than ports
--     all_ended                         what each port did, its end being that of its number
use Rattle.std.proofs.Common.{◌≡◌, ℕ, suc, ◌+◌, ◌<◌, ◌≤◌, List, [], ◌∷◌, ◌++◌, length, take, drop, get_or, Option}
use Rattle.std.proofs.Common.{refl, ap, sym, ◌∙◌, subst, append-nil, arith, length-take-le}
use Rattle.std.proofs.Math.Seq.{take-suc, take-length, drop-length}
use Rattle.std.specs.List.{refill}
use Rattle.tdl_tempo.specs.Tempo.{Pace}
use Rattle.tdl_score.specs.declared.histories.Entry.{Entry}
use Rattle.tdl_log.specs.declared.ends.Ending.{Ending}
use Rattle.tdl_log.specs.declared.ends.PortEnd.{PortEnd}
use Rattle.tdl_session.specs.Gatherings.{EachEnded}
use Rattle.tdl_answer.specs.Account.{account}
use Rattle.tdl_answer.specs.Ends.{PortsEnd}
use Rattle.tdl_perform.specs.Port.{ServesPort}
use Rattle.tdl_perform.specs.declared.ports.Port.{Port}
use Rattle.tdl_serve.specs.PortAccounts.{PortAccount, port_account, port_accounts}
use Rattle.tdl_serve.specs.inside.Numbered.{numbered}

abbrev ending : ℕ → PortEnd → Ending
ending number end = record { port = number; end = end }

numbered_more : (number : ℕ) (ends : List PortEnd) (end : PortEnd)
    → numbered number (ends ++ end ∷ []) ≡ numbered number ends ++ ending (number + length ends) end ∷ []
numbered_more number [] end = ap (λ (n : ℕ). ending n end ∷ []) (sym (omega arith))
numbered_more number (first ∷ ends) end =
    let n : number + 1 + length ends ≡ number + suc (length ends) = omega arith in
    ap (λ (xs : List Ending). ending number first ∷ xs)
    (numbered_more (number + 1) ends end ∙ ap (λ (m : ℕ). numbered (number + 1) ends ++ ending m end ∷ []) n)

pub numbered_next : (ends : List PortEnd) (i : ℕ) (end : PortEnd) (so_far next : List Ending) → i < length ends → so_far ≡ numbered 1 (take i ends)
    → next ≡ so_far ++ ending (i + 1) (get_or ends i end) ∷ [] → next ≡ numbered 1 (take (i + 1) ends)
numbered_next ends i end so_far next inside before is =
    let one : PortEnd = get_or ends i end in
    let number : i + 1 ≡ 1 + length (take i ends) = omega (arith, length-take-le i ends (omega arith)) in
    let longer : suc i ≡ i + 1 = omega arith in
    is ∙ ap (λ (xs : List Ending). xs ++ ending (i + 1) one ∷ []) before
    ∙ ap (λ (n : ℕ). numbered 1 (take i ends) ++ ending n one ∷ []) number
    ∙ sym (numbered_more 1 (take i ends) one)
    ∙ ap (numbered 1) (sym (take-suc ends i end inside))
    ∙ ap (λ (n : ℕ). numbered 1 (take n ends)) longer

pub numbered_length : (number : ℕ) (ends : List PortEnd) → length (numbered number ends) ≡ length ends
numbered_length number [] = refl
numbered_length number (end ∷ ends) = ap suc (numbered_length (number + 1) ends)

-- a list that is filled up from one as long is itself
refill_same : {A : Type 0} (items news : List A) → length news ≡ length items → refill (length items) items news ≡ news
refill_same items news same =
    ap (λ (n : ℕ). take (length items) (news ++ drop n items)) same
    ∙ ap (λ xs. take (length items) (news ++ xs)) (drop-length items)
    ∙ ap (take (length items)) (append-nil news)
    ∙ ap (λ (n : ℕ). take n news) (sym same)
    ∙ take-length news

-- there are as many ports as before, and as many ends
as_many : {E F D T : Type 0} (did : F → ℕ → List E → D → D → T → Type 0) (fixed : F) (number : ℕ) (history : List E) (olds news : List D) (ends : List T)
    → EachEnded did fixed number history olds news ends → (length news ≡ length olds) × (length ends ≡ length olds)
as_many did fixed number history [] [] [] each = (refl, refl)
as_many did fixed number history (old ∷ olds) (new ∷ news) (end ∷ ends) each =
    let more = as_many did fixed (number + 1) history olds news ends each.1 in
    (ap suc more.0, ap suc more.1)
as_many did fixed number history [] [] (end ∷ ends) each = elim each [ ]
as_many did fixed number history [] (new ∷ news) ends each = elim each [ ]
as_many did fixed number history (old ∷ olds) [] ends each = elim each [ ]
as_many did fixed number history (old ∷ olds) (new ∷ news) [] each = elim each [ ]

module _ {S K : Type 0} (left : S → Option (List ℕ)) (source_faults : S → ℕ) (held : K → Option (List ℕ)) (sink_faults : K → ℕ) where
  -- what was done at a port, as its caller tells it
  abbrev pub DidPort : Pace → ℕ → List Entry → Port S K → Port S K → PortEnd → Type 0
  DidPort tempo number history old new end =
      ServesPort tempo number history (account left source_faults old.source new.source) (account held sink_faults old.sink new.sink) end

  ports_ended : (tempo : Pace) (number : ℕ) (history : List Entry) (olds news : List (Port S K)) (ends : List PortEnd)
      → EachEnded DidPort tempo number history olds news ends
      → PortsEnd (λ n (port : PortAccount) end. ServesPort tempo n history port.source port.sink end) number
      (port_accounts left source_faults held sink_faults olds news) (numbered number ends)
  ports_ended tempo number history [] [] [] did = tt
  ports_ended tempo number history (old ∷ olds) (new ∷ news) (end ∷ ends) did =
      (refl, did.0, ports_ended tempo (number + 1) history olds news ends did.1)
  ports_ended tempo number history [] [] (end ∷ ends) did = elim did [ ]
  ports_ended tempo number history [] (new ∷ news) ends did = elim did [ ]
  ports_ended tempo number history (old ∷ olds) [] ends did = elim did [ ]
  ports_ended tempo number history (old ∷ olds) (new ∷ news) [] did = elim did [ ]

  abbrev HaveEnded : Pace → List Entry → List (Port S K) → List (Port S K) → List Ending → Type 0
  HaveEnded tempo history olds news endings = PortsEnd (λ n (port : PortAccount) end. ServesPort tempo n history port.source port.sink end) 1
      (port_accounts left source_faults held sink_faults olds news) endings

  pub all_ended : {tempo wanted : Pace} {olds items : List (Port S K)} {ends told : List PortEnd} {endings : List Ending} (history : List Entry)
      (news : List (Port S K)) → EachEnded DidPort tempo 1 history olds news ends → tempo ≡ wanted → olds ≡ items → told ≡ ends → endings ≡ numbered 1 told
      → HaveEnded wanted history items (refill (length items) items news) endings
  all_ended {tempo} {wanted} {olds} {items} {ends} {told} {endings} history news each tempo_is old_is told_is endings_are =
      let same : length news ≡ length items = (as_many DidPort tempo 1 history olds news ends each).0 ∙ ap length old_is in
      subst (λ (t : Pace). HaveEnded t history items (refill (length items) items news) endings) tempo_is
      (subst (λ (xs : List (Port S K)). HaveEnded tempo history xs (refill (length items) items news) endings) old_is
      (subst (λ (xs : List (Port S K)). HaveEnded tempo history olds xs endings) (sym (refill_same items news same))
      (subst (λ (es : List Ending). HaveEnded tempo history olds news es) (ap (numbered 1) (sym told_is) ∙ sym endings_are)
      (ports_ended tempo 1 history olds news ends each))))

  -- there are no more ends than ports
  pub few_ended : {olds items : List (Port S K)} {ends told : List PortEnd} (tempo : Pace) (history : List Entry) (news : List (Port S K))
      → EachEnded DidPort tempo 1 history olds news ends → olds ≡ items → told ≡ ends → length items ≤ 8 → length told ≤ 8
  few_ended {olds} {items} {ends} {told} tempo history news each old_is told_is few =
      let sizes : (length news ≡ length olds) × (length ends ≡ length olds) = as_many DidPort tempo 1 history olds news ends each in
      let of_ports : length olds ≡ length items = ap length old_is in
      let of_ends : length told ≡ length ends = ap length told_is in
      omega (arith, sizes.1, of_ports, of_ends, few)
