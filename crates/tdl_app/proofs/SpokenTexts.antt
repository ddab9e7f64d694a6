-- The texts of the swaps that a script makes are told by its performers' lines alone.
--     Comes            what a performer's line comes to after so many swaps and looks: the texts of its swap, and how many there are then
--     comes_once       it comes to one thing
--     SpokenCome       what lines come to, one after another
--     spoken_once      they come to one list of texts
--     plays_spoken     a script that is played makes what its performers' lines come to
--     same_texts       so the swaps of two scripts have the same texts
use Rattle.std.proofs.Common.{◌≡◌, ◌≢◌, ℕ, ◌+◌, Bool, true, false, if◌then◌else◌, cond, List, [], ◌∷◌, ◌++◌, map}
use Rattle.std.proofs.Common.{Some, None, refl, sym, ap, ap₂, ◌∙◌, subst, append-nil, append_assoc, get_or, drop, add-zero}
use Rattle.std.specs.List.{AllByRecursion, flat_map}
use Rattle.std.proofs.lemmas.Bool.{false≢true}
use Rattle.std.proofs.lemmas.Grind.{flat_map-append}
use Rattle.std.proofs.lemmas.Option.{none-some}
use Rattle.tdl_tempo.specs.Tempo.{Pace}
use Rattle.tdl_compile.specs.Compiled.{Compiled}
use Rattle.tdl_desk.specs.declared.changes.Change.{Change}
use Rattle.tdl_line_texts.specs.Texts.{IsTrimmed}
use Rattle.tdl_score.specs.declared.histories.Entry.{Entry}
use Rattle.tdl_score.specs.declared.histories.Deed.{Deed}
use Rattle.tdl_score.specs.declared.histories.Deed.TheVariants as deed
use Rattle.tdl_score.specs.History.{DatedText, dated_texts, texts_of, plays as is_play, performed_count}
use Rattle.tdl_core.specs.declared.calls.Call.{Call}
use Rattle.tdl_core.specs.declared.calls.Call.TheVariants.{Swap, Look, Tick, Finish}
use Rattle.tdl_core.specs.declared.replies.Refusal.{Refusal}
use Rattle.tdl_core.specs.Replies.{deed_of, entry_of, performer_refusal}
use Rattle.tdl_app.specs.Script.{LineClass, class_of, performers, tick, finish, other, too_long}
use Rattle.tdl_answer.specs.Texts.{AsksFor, IsSwapOf, IsLook, IsUnplayedAs}
use Rattle.tdl_answer.specs.Goes.{Goes}
use Rattle.tdl_app.specs.Plays.{AnswersClass, AnswersLine, AnswersTick, PlaysLine}
use Rattle.tdl_answer.specs.Answers.{AnswersCall, AnswersText, no_memory_reply}
use Rattle.tdl_app.specs.Cuts.{IsPlayed, boundaries, is_spoken, spoken}

abbrev NotDeclined : Type 0
NotDeclined = (text kept : List ℕ) (every : ℕ) (change : Change Compiled) → IsSwapOf text kept every change → (reply : List ℕ) → IsUnplayedAs text reply → ⊥

abbrev NoLookDeclined : Type 0
NoLookDeclined = (text : List ℕ) → IsLook text → (reply : List ℕ) → IsUnplayedAs text reply → ⊥

abbrev NoSwapIsLook : Type 0
NoSwapIsLook = (text kept : List ℕ) (every : ℕ) (change : Change Compiled) → IsSwapOf text kept every change → IsLook text → ⊥

abbrev OneText : Type 0
OneText = (text a b : List ℕ) → IsTrimmed text a → IsTrimmed text b → a ≡ b

abbrev CountsPerformed : Type 0
CountsPerformed = (entries : List Entry) (e : Entry) → performed_count (entries ++ e ∷ []) ≡ performed_count entries + (if is_play e.deed then 0 else 1)

-- ---- what one line comes to
data Comes (n who : ℕ) (text : List ℕ) (texts : List (List ℕ)) (m : ℕ) : Type 0 where
  unread : (reply : List ℕ) → IsUnplayedAs text reply → texts ≡ [] → m ≡ n → Comes n who text texts m
  refused : (refusal : Refusal) → performer_refusal n ≡ Some refusal → texts ≡ [] → m ≡ n → Comes n who text texts m
  swapped : (kept : List ℕ) (every : ℕ) (change : Change Compiled) → IsSwapOf text kept every change → performer_refusal n ≡ None
      → texts ≡ kept ∷ [] → m ≡ n + 1 → Comes n who text texts m
  looked : IsLook text → performer_refusal n ≡ None → texts ≡ [] → m ≡ n + 1 → Comes n who text texts m

module _ (not_declined : NotDeclined) (no_look_declined : NoLookDeclined) (no_swap_is_look : NoSwapIsLook) (one_text : OneText) where
  abbrev Same : List (List ℕ) → List (List ℕ) → ℕ → ℕ → Type 0
  Same xs ys m k = (xs ≡ ys) × (m ≡ k)

  alike : {xs ys zs : List (List ℕ)} {m k j : ℕ} → xs ≡ zs → m ≡ j → ys ≡ zs → k ≡ j → Same xs ys m k
  alike e f g h = (e ∙ sym g, f ∙ sym h)

  comes_once : (n who : ℕ) (text : List ℕ) (xs ys : List (List ℕ)) (m k : ℕ) → Comes n who text xs m → Comes n who text ys k → Same xs ys m k
  comes_once n who text xs ys m k (Comes.unread r h e f) (Comes.unread s i g j) = alike e f g j
  comes_once n who text xs ys m k (Comes.unread r h e f) (Comes.refused s i g j) = alike e f g j
  comes_once n who text xs ys m k (Comes.unread r h e f) (Comes.swapped kept every change is i g j) =
      absurd (not_declined text kept every change is r h)
  comes_once n who text xs ys m k (Comes.unread r h e f) (Comes.looked is i g j) = absurd (no_look_declined text is r h)
  comes_once n who text xs ys m k (Comes.refused r h e f) (Comes.unread s i g j) = alike e f g j
  comes_once n who text xs ys m k (Comes.refused r h e f) (Comes.refused s i g j) = alike e f g j
  comes_once n who text xs ys m k (Comes.refused r h e f) (Comes.swapped kept every change is i g j) = absurd (none-some r (sym i ∙ h))
  comes_once n who text xs ys m k (Comes.refused r h e f) (Comes.looked is i g j) = absurd (none-some r (sym i ∙ h))
  comes_once n who text xs ys m k (Comes.swapped kept every change is h e f) (Comes.unread s i g j) =
      absurd (not_declined text kept every change is s i)
  comes_once n who text xs ys m k (Comes.swapped kept every change is h e f) (Comes.refused s i g j) = absurd (none-some s (sym h ∙ i))
  comes_once n who text xs ys m k (Comes.swapped kept every change is h e f) (Comes.swapped kept_too n_too change_too is_too i g j) =
      (e ∙ ap (λ (t : List ℕ). t ∷ []) (one_text text kept kept_too is.trimmed is_too.trimmed) ∙ sym g, f ∙ sym j)
  comes_once n who text xs ys m k (Comes.swapped kept every change is h e f) (Comes.looked is_too i g j) =
      absurd (no_swap_is_look text kept every change is is_too)
  comes_once n who text xs ys m k (Comes.looked is h e f) (Comes.unread s i g j) = absurd (no_look_declined text is s i)
  comes_once n who text xs ys m k (Comes.looked is h e f) (Comes.refused s i g j) = absurd (none-some s (sym h ∙ i))
  comes_once n who text xs ys m k (Comes.looked is h e f) (Comes.swapped kept every change is_too i g j) =
      absurd (no_swap_is_look text kept every change is_too is)
  comes_once n who text xs ys m k (Comes.looked is h e f) (Comes.looked is_too i g j) = alike e f g j

-- ---- what lines come to
abbrev SpokenCome : ℕ → List (List ℕ) → List (List ℕ) → Type 0
SpokenCome n [] texts = texts ≡ []
SpokenCome n (l ∷ lines) texts =
    (who : ℕ) × (text : List ℕ) × (class_of l ≡ performers who text) × (first : List (List ℕ)) × (m : ℕ) × Comes n who text first m
    × (rest : List (List ℕ)) × SpokenCome m lines rest × (texts ≡ first ++ rest)

abbrev who_in : LineClass → ℕ
who_in (performers who text) = who
who_in _ = 0

abbrev text_in : LineClass → List ℕ
text_in (performers who text) = text
text_in _ = []

module _ (not_declined : NotDeclined) (no_look_declined : NoLookDeclined) (no_swap_is_look : NoSwapIsLook) (one_text : OneText) where
  spoken_once : (lines : List (List ℕ)) (n : ℕ) (xs ys : List (List ℕ)) → SpokenCome n lines xs → SpokenCome n lines ys → xs ≡ ys
  spoken_once [] n xs ys h i = h ∙ sym i
  spoken_once (l ∷ lines) n xs ys (who, text, is, first, m, comes, rest, more, e) (who_too, text_too, is_too, first_too, k, comes_too, rest_too, more_too, f) =
      let one_class = sym is ∙ is_too in
      let same_who : who_too ≡ who = sym (ap who_in one_class) in
      let same_text : text_too ≡ text = sym (ap text_in one_class) in
      let there : Comes n who text first_too k = subst (λ (w : ℕ). Comes n w text first_too k) same_who
      (subst (λ (t : List ℕ). Comes n who_too t first_too k) same_text comes_too) in
      let both = comes_once not_declined no_look_declined no_swap_is_look one_text n who text first first_too m k comes there in
      e ∙ ap₂ (λ (us vs : List (List ℕ)). us ++ vs) both.0
      (spoken_once lines m rest rest_too more (subst (λ (j : ℕ). SpokenCome j lines rest_too) (sym both.1) more_too)) ∙ sym f

-- ---- the texts of a history
abbrev text_list : Deed → List (List ℕ)
text_list (deed.Swap boundary text) = text ∷ []
text_list deed.Look = []
text_list (deed.Tick to) = []
text_list deed.Finish = []

abbrev texts : List Entry → List (List ℕ)
texts entries = flat_map (λ e. text_list e.deed) entries

map_texts : (entries : List Entry) → map (λ (d : DatedText). d.text) (dated_texts entries) ≡ texts entries
map_texts [] = refl
map_texts (e ∷ entries) = with_deed e.deed (map_texts entries)
  where
    with_deed : (d : Deed) → map (λ (d : DatedText). d.text) (dated_texts entries) ≡ texts entries
        → map (λ (d : DatedText). d.text) (texts_of d ++ dated_texts entries) ≡ text_list d ++ texts entries
    with_deed (deed.Swap boundary text) more = ap (λ (rest : List (List ℕ)). text ∷ rest) more
    with_deed deed.Look more = more
    with_deed (deed.Tick to) more = more
    with_deed deed.Finish more = more

texts-more : (entries : List Entry) (e : Entry) → texts (entries ++ e ∷ []) ≡ texts entries ++ text_list e.deed
texts-more entries e =
    flat_map-append (λ (x : Entry). text_list x.deed) entries (e ∷ []) ∙ ap (λ (l : List (List ℕ)). texts entries ++ l) (append-nil (text_list e.deed))

-- ---- what is played
abbrev NotLacking : List (List ℕ) → Type 0
NotLacking replies = AllByRecursion (λ reply. reply ≢ no_memory_reply) replies

abbrev Made : ℕ → List (List ℕ) → List Entry → List Entry → Type 0
Made n lines old new = (said : List (List ℕ)) × SpokenCome n lines said × (texts new ≡ texts old ++ said)

module _ (counts : CountsPerformed) (tempo : Pace) (l reply : List ℕ) (old next : List Entry) (lasts : reply ≢ no_memory_reply) where
  abbrev LineMade : ℕ → List ℕ → Type 0
  LineMade who text = (first : List (List ℕ)) × Comes (performed_count old) who text first (performed_count next) × (texts next ≡ texts old ++ first)

  unchanged : next ≡ old → texts next ≡ texts old ++ []
  unchanged same = ap texts same ∙ sym (append-nil (texts old))

  call_comes : (who caller : ℕ) (text : List ℕ) (call : Call) → AsksFor text call
      → AnswersCall tempo old caller call next reply → LineMade who text
  call_comes who caller text (Swap kept every change) makes (AnswersCall.refused refusal why same is) =
      ([], Comes.refused refusal why refl (ap performed_count same), unchanged same)
  call_comes who caller text (Swap kept every change) makes (AnswersCall.accepted answer accepts is) =
      let e = entry_of old caller (Swap kept every change) in (
        kept ∷ [],
        Comes.swapped kept every change makes accepts.allowed refl (ap performed_count accepts.gained ∙ counts old e),
        ap texts accepts.gained ∙ texts-more old e,
      )
  call_comes who caller text Look makes (AnswersCall.refused refusal why same is) =
      ([], Comes.refused refusal why refl (ap performed_count same), unchanged same)
  call_comes who caller text Look makes (AnswersCall.accepted answer accepts is) =
      let e = entry_of old caller Look in (
        [],
        Comes.looked makes accepts.allowed refl (ap performed_count accepts.gained ∙ counts old e),
        ap texts accepts.gained ∙ texts-more old e,
      )
  call_comes who caller text (Tick to) makes answers = absurd makes
  call_comes who caller text Finish makes answers = absurd makes

  text_comes : (who : ℕ) (text : List ℕ) → AnswersText tempo old who text next reply → LineMade who text
  text_comes who text (AnswersText.unread declined same) = ([], Comes.unread reply declined refl (ap performed_count same), unchanged same)
  text_comes who text (AnswersText.called call makes answers) = call_comes who who text call makes answers
  text_comes who text (AnswersText.no_memory same lacks) = absurd (lasts lacks)

  line_comes : (who : ℕ) (text : List ℕ) → class_of l ≡ performers who text → AnswersLine tempo old l next reply → LineMade who text
  line_comes who text is answers = text_comes who text (subst (λ (c : LineClass). AnswersClass tempo old c next reply) is answers)

  -- any other line makes no text
  abbrev Quiet : Type 0
  Quiet = (performed_count next ≡ performed_count old) × (texts next ≡ texts old)

  -- a call that plays has none
  call_quiet : (caller : ℕ) (call : Call) → is_play (deed_of old call) ≡ true → text_list (deed_of old call) ≡ []
      → AnswersCall tempo old caller call next reply → Quiet
  call_quiet caller call played silent (AnswersCall.refused refusal why same is) = (ap performed_count same, ap texts same)
  call_quiet caller call played silent (AnswersCall.accepted answer accepts is) =
      let e = entry_of old caller call in (
        ap performed_count accepts.gained ∙ counts old e ∙ ap (λ (b : Bool). performed_count old + (if b then 0 else 1)) played
            ∙ add-zero (performed_count old),
        ap texts accepts.gained ∙ texts-more old e ∙ ap (λ (l : List (List ℕ)). texts old ++ l) silent ∙ append-nil (texts old),
      )

  class_quiet : (c : LineClass) → is_spoken c ≡ false → AnswersClass tempo old c next reply → Quiet
  class_quiet (performers who text) other_line answers = absurd (false≢true (sym other_line))
  class_quiet (tick text) other_line (AnswersTick.unread declined same) = (ap performed_count same, ap texts same)
  class_quiet (tick text) other_line (AnswersTick.called to reads answers) = call_quiet 0 (Tick to) refl refl answers
  class_quiet finish other_line answers = call_quiet 0 Finish refl refl answers
  class_quiet other other_line answers = (ap performed_count answers.0, ap texts answers.0)
  class_quiet too_long other_line answers = (ap performed_count answers.0, ap texts answers.0)

  line_quiet : is_spoken (class_of l) ≡ false → AnswersLine tempo old l next reply → Quiet
  line_quiet other_line answers = class_quiet (class_of l) other_line answers

  -- the line and those after it
  one_more : (new : List Entry) (lines : List (List ℕ)) → AnswersLine tempo old l next reply → Made (performed_count next) lines next new
      → Made (performed_count old) (cond (is_spoken (class_of l)) (l ∷ lines) lines) old new
  one_more new lines answers more = by (class_of l) refl
    where
      MadeIf : Bool → Type 0
      MadeIf b = Made (performed_count old) (cond b (l ∷ lines) lines) old new

      spoken_more : (who : ℕ) (text : List ℕ) → class_of l ≡ performers who text → MadeIf true
      spoken_more who text is =
          let here = line_comes who text is answers in (
            here.0 ++ more.0,
            (who, text, is, here.0, performed_count next, here.1, more.0, more.1, refl),
            more.2 ∙ ap (λ (us : List (List ℕ)). us ++ more.0) here.2 ∙ append_assoc (texts old) here.0 more.0,
          )

      quiet_more : is_spoken (class_of l) ≡ false → MadeIf false
      quiet_more other_line =
          let quiet = line_quiet other_line answers in (
            more.0,
            subst (λ (n : ℕ). SpokenCome n lines more.0) quiet.0 more.1,
            more.2 ∙ ap (λ (us : List (List ℕ)). us ++ more.0) quiet.1,
          )

      by : (c : LineClass) → class_of l ≡ c → MadeIf (is_spoken (class_of l))
      by (performers who text) is = subst MadeIf (sym (ap is_spoken is)) (spoken_more who text is)
      by (tick text) is = subst MadeIf (sym (ap is_spoken is)) (quiet_more (ap is_spoken is))
      by finish is = subst MadeIf (sym (ap is_spoken is)) (quiet_more (ap is_spoken is))
      by other is = subst MadeIf (sym (ap is_spoken is)) (quiet_more (ap is_spoken is))
      by too_long is = subst MadeIf (sym (ap is_spoken is)) (quiet_more (ap is_spoken is))

module _ (counts : CountsPerformed) (tempo : Pace) where
  plays_spoken : (lines : List (List ℕ)) (old new : List Entry) (replies : List (List ℕ)) → Goes (PlaysLine tempo) old lines new replies → NotLacking replies
      → Made (performed_count old) (spoken lines) old new
  plays_spoken [] old new [] plays lasts = ([], refl, ap texts plays ∙ sym (append-nil (texts old)))
  plays_spoken [] old new (reply ∷ replies) plays lasts = absurd plays
  plays_spoken (l ∷ lines) old new [] plays lasts = absurd plays
  plays_spoken (l ∷ lines) old new (reply ∷ replies) plays lasts =
      one_more counts tempo l reply old plays.0 lasts.0 new (spoken lines) plays.1.1 (plays_spoken lines plays.0 new replies plays.2 lasts.1)

-- ---- two scripts
abbrev is_empty : List ℕ → Bool
is_empty [] = true
is_empty (x ∷ xs) = false

same_fields : (xs ys : List DatedText) → map (λ (d : DatedText). d.boundary) xs ≡ map (λ (d : DatedText). d.boundary) ys
    → map (λ (d : DatedText). d.text) xs ≡ map (λ (d : DatedText). d.text) ys → xs ≡ ys
same_fields [] [] e f = refl
same_fields [] (y ∷ ys) e f = absurd (false≢true (sym (ap is_empty e)))
same_fields (x ∷ xs) [] e f = absurd (false≢true (ap is_empty e))
same_fields (x ∷ xs) (y ∷ ys) e f =
    ap₂ (λ (d : DatedText) (ds : List DatedText). d ∷ ds)
    (ap₂ (λ (b : ℕ) (t : List ℕ). record { boundary = b; text = t }) (ap (λ (l : List ℕ). get_or l 0 0) e) (ap (λ (l : List (List ℕ)). get_or l 0 []) f))
    (same_fields xs ys (ap (λ (l : List ℕ). drop 1 l) e) (ap (λ (l : List (List ℕ)). drop 1 l) f))

pub same_texts : NotDeclined → NoLookDeclined → NoSwapIsLook → OneText → CountsPerformed → (tempo : Pace) (one other_lines : List (List ℕ))
    → spoken one ≡ spoken other_lines
    → (h k : List Entry) → IsPlayed tempo one h → IsPlayed tempo other_lines k → boundaries h ≡ boundaries k → dated_texts h ≡ dated_texts k
same_texts not_declined no_look_declined no_swap_is_look one_text counts tempo one other_lines same h k first second dated =
    let a = plays_spoken counts tempo one [] h first.replies first.plays first.memory in
    let b = plays_spoken counts tempo other_lines [] k second.replies second.plays second.memory in
    let one_list = spoken_once not_declined no_look_declined no_swap_is_look one_text (spoken one) (performed_count []) a.0 b.0 a.1
    (subst (λ (lines : List (List ℕ)). SpokenCome (performed_count []) lines b.0) (sym same) b.1) in
    same_fields (dated_texts h) (dated_texts k) dated (map_texts h ∙ a.2 ∙ one_list ∙ sym b.2 ∙ sym (map_texts k))
