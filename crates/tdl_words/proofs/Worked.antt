-- The word grammar at words that are written out.
use Rattle.std.proofs.Common.{◌≡◌, refl, [], ◌∷◌, Some, None, lit≤, codes}
use Rattle.tdl_words.specs.Words.{Given, Word, pieces}
use Rattle.tdl_words.specs.Modes.{AskDrill, AskPlay, AskQuery, AskServe, Asks, IsWholeText}
use Rattle.tdl_words.specs.Modes.{cps_option, cycles_option, origin_option, performers_option, play_options, usual_pace}

attached_and_apart : pieces play_options None (codes "--cps" ∷ codes "1/2" ∷ codes "--origin=5" ∷ [])
    ≡ Some (Given cps_option (codes "1/2") ∷ Given origin_option (codes "5") ∷ [])
unfolding pieces
attached_and_apart = refl

-- the value after the first `=`
two_equals : pieces play_options None (codes "--cps==" ∷ []) ≡ Some (Given cps_option (codes "=") ∷ [])
unfolding pieces
two_equals = refl

minus_is_a_word : pieces [] None (codes "-" ∷ [] ∷ []) ≡ Some (Word (codes "-") ∷ Word [] ∷ [])
unfolding pieces
minus_is_a_word = refl

after_the_end : pieces [] None (codes "--" ∷ codes "-x" ∷ codes "--" ∷ []) ≡ Some (Word (codes "-x") ∷ Word (codes "--") ∷ [])
unfolding pieces
after_the_end = refl

minus_is_no_value : pieces play_options None (codes "--cps" ∷ codes "-" ∷ []) ≡ None
unfolding pieces
minus_is_no_value = refl

no_value : pieces play_options None (codes "--cps" ∷ []) ≡ None
unfolding pieces
no_value = refl

unknown_option : pieces play_options None (codes "--cp=1" ∷ []) ≡ None
unfolding pieces
unknown_option = refl

short_option : pieces play_options None (codes "-1" ∷ []) ≡ None
unfolding pieces
short_option = refl

a_query : Asks (codes "query" ∷ codes "-" ∷ codes "--" ∷ [] ∷ codes "-1" ∷ []) (AskQuery (record { pattern = codes "-"; from = []; to = codes "-1" }))
unfolding pieces
a_query = (refl, record { found = Word (codes "-") ∷ Word [] ∷ Word (codes "-1") ∷ []; come_to = refl; are_three = refl })

usual_play : Asks (codes "play" ∷ []) (AskPlay usual_pace)
unfolding pieces
usual_play = (refl, record { found = []; come_to = refl; none_alone = refl; say = record { cps = refl; origin = refl } })

two : IsWholeText 1 8 (codes "2") 2
two = record { digits = record { numeral = (lit≤ tt, (lit≤ tt, tt)); short = lit≤ tt }; value = refl; from = lit≤ tt; to = lit≤ tt }

four : IsWholeText 1 65536 (codes "04") 4
four = record { digits = record { numeral = (lit≤ tt, (lit≤ tt, (lit≤ tt, tt))); short = lit≤ tt }; value = refl; from = lit≤ tt; to = lit≤ tt }

a_serve : Asks (codes "serve" ∷ codes "--cycles=04" ∷ codes "--performers" ∷ codes "2" ∷ []) (AskServe usual_pace 2 4)
unfolding pieces
a_serve = (
  refl,
  record {
    found = Given cycles_option (codes "04") ∷ Given performers_option (codes "2") ∷ [];
    come_to = refl;
    none_alone = refl;
    say = record {
      performers_are = record { text = codes "2"; once = refl; says = two };
      cycles_are = record { text = codes "04"; once = refl; says = four };
      tempo_is = record { cps = refl; origin = refl };
    };
  },
)

zero_start : IsWholeText 0 2147483647 (codes "0") 0
zero_start = record { digits = record { numeral = (lit≤ tt, (lit≤ tt, tt)); short = lit≤ tt }; value = refl; from = lit≤ tt; to = lit≤ tt }

four_lines : IsWholeText 1 16384 (codes "04") 4
four_lines = record { digits = record { numeral = (lit≤ tt, (lit≤ tt, (lit≤ tt, tt))); short = lit≤ tt }; value = refl; from = lit≤ tt; to = lit≤ tt }

a_drill : Asks (codes "drill" ∷ codes "0" ∷ codes "04" ∷ []) (AskDrill 0 4)
unfolding pieces
a_drill = (
  refl,
  record {
    found = Word (codes "0") ∷ Word (codes "04") ∷ [];
    come_to = refl;
    start_text = codes "0";
    lines_text = codes "04";
    are_two = refl;
    start_is = zero_start;
    lines_are = four_lines;
  },
)
