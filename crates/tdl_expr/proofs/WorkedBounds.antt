-- The load of worked trees, their fineness where they are asked for ticks, and their reach up to the last cycle, each by computing alone.
-- Each row has the text of the mini-notation that stands for the tree.
use Rattle.std.proofs.Common.{◌≡◌, ℕ, List, [], ◌∷◌, pos, refl}
use Rattle.tdl_control.specs.declared.leaves.Leaf.TheVariants.{Index}
use Rattle.tdl_fraction.specs.Divisor.{gcd, lcm}
use Rattle.tdl_fraction.specs.Rational.{Rational, frac}
use Rattle.tdl_fraction.specs.Units.{tick_units, last_cycle}
use Rattle.tdl_expr.specs.Tree.{Tree, Silence, Pure, Fast, TimeCat, Cat, Stack, Rev, Pick, empty, child, none, step}
use Rattle.tdl_expr.specs.Bounds.{bounds, fine, reach}

abbrev pub numbers : Tree → List ℕ
numbers e = (bounds e).load ∷ fine e tick_units ∷ reach e last_cycle ∷ []

-- a sound, whichever it is
abbrev pub bd : Tree
bd = Pure (Index 0)

abbrev pub rate : ℕ → ℕ → Rational
rate p s = frac (pos p) s

-- `~`
silence : numbers Silence ≡ 1 ∷ 46080 ∷ 1048576 ∷ []
unfolding frac gcd lcm
silence = refl

-- `bd`
one : numbers bd ≡ 1 ∷ 46080 ∷ 1048576 ∷ []
unfolding frac gcd lcm
one = refl

-- `bd*2`
twice : numbers (Fast (rate 2 1) bd) ≡ 3 ∷ 46080 ∷ 2097152 ∷ []
unfolding frac gcd lcm
twice = refl

-- `bd/2`
half : numbers (Fast (rate 1 2) bd) ≡ 2 ∷ 92160 ∷ 1048578 ∷ []
unfolding frac gcd lcm
half = refl

-- `bd*3%2`
three_halves : numbers (Fast (rate 3 2) bd) ≡ 4 ∷ 46080 ∷ 1572864 ∷ []
unfolding frac gcd lcm
three_halves = refl

-- `bd*2%3`
two_thirds : numbers (Fast (rate 2 3) bd) ≡ 3 ∷ 69120 ∷ 1048578 ∷ []
unfolding frac gcd lcm
two_thirds = refl

-- `bd*5%3`
five_thirds : numbers (Fast (rate 5 3) bd) ≡ 4 ∷ 46080 ∷ 1747627 ∷ []
unfolding frac gcd lcm
five_thirds = refl

-- `bd/3*2`
slower_and_faster : numbers (Fast (rate 2 1) (Fast (rate 1 3) bd)) ≡ 5 ∷ 69120 ∷ 2097155 ∷ []
unfolding frac gcd lcm
slower_and_faster = refl

-- `bd*2/3`
faster_and_slower : numbers (Fast (rate 1 3) (Fast (rate 2 1) bd)) ≡ 4 ∷ 138240 ∷ 1048579 ∷ []
unfolding frac gcd lcm
faster_and_slower = refl

-- `bd*65535`
fast_at_the_most : numbers (Fast (rate 65535 1) bd) ≡ 65536 ∷ 201323520 ∷ 68718428160 ∷ []
unfolding frac gcd lcm
fast_at_the_most = refl

-- `bd/65535`
slow_at_the_most : numbers (Fast (rate 1 65535) bd) ≡ 2 ∷ 3019852800 ∷ 1114111 ∷ []
unfolding frac gcd lcm
slow_at_the_most = refl

-- `bd*-1`
rev : numbers (Rev bd) ≡ 2 ∷ 46080 ∷ 1048576 ∷ []
unfolding frac gcd lcm
rev = refl

-- `bd*-1%2`
rev_of_a_half : numbers (Rev (Fast (rate 1 2) bd)) ≡ 3 ∷ 92160 ∷ 1048578 ∷ []
unfolding frac gcd lcm
rev_of_a_half = refl

-- `<bd sn>`
turns : numbers (Cat (child bd (child bd empty))) ≡ 3 ∷ 46080 ∷ 1048576 ∷ []
unfolding frac gcd lcm
turns = refl

-- `<bd*2 sn*3 cp/2>`
turns_of_rates : numbers (Cat (child (Fast (rate 2 1) bd) (child (Fast (rate 3 1) bd) (child (Fast (rate 1 2) bd) empty)))) ≡ 10 ∷ 92160 ∷ 3145728 ∷
    []
unfolding frac gcd lcm
turns_of_rates = refl

-- `<bd@2 sn>`
turns_of_weights : numbers (Fast (rate 1 3) (TimeCat (step 2 bd (step 1 bd none)))) ≡ 4 ∷ 276480 ∷ 1048579 ∷ []
unfolding frac gcd lcm
turns_of_weights = refl

-- `<bd sn cp>*3%2`
turns_at_a_rate : numbers (Fast (rate 3 2) (Cat (child bd (child bd (child bd empty))))) ≡ 13 ∷ 46080 ∷ 1572864 ∷ []
unfolding frac gcd lcm
turns_at_a_rate = refl

-- `bd sn`
sequence : numbers (TimeCat (step 1 bd (step 1 bd none))) ≡ 3 ∷ 46080 ∷ 1048576 ∷ []
unfolding frac gcd lcm
sequence = refl

-- `bd sn@3`
weights : numbers (TimeCat (step 1 bd (step 3 bd none))) ≡ 3 ∷ 138240 ∷ 1048576 ∷ []
unfolding frac gcd lcm
weights = refl

-- `bd@1.5 sn`
parts_of_weights : numbers (TimeCat (step 3 bd (step 2 bd none))) ≡ 3 ∷ 138240 ∷ 1048576 ∷ []
unfolding frac gcd lcm
parts_of_weights = refl

-- `bd ~ sn ~`
rests : numbers (TimeCat (step 1 bd (step 1 Silence (step 1 bd (step 1 Silence none))))) ≡ 5 ∷ 46080 ∷ 1048576 ∷ []
unfolding frac gcd lcm
rests = refl

-- `bd!3 sn`
repeated : numbers (TimeCat (step 1 bd (step 1 bd (step 1 bd (step 1 bd none))))) ≡ 5 ∷ 46080 ∷ 1048576 ∷ []
unfolding frac gcd lcm
repeated = refl

-- `[bd sn] [cp hh oh]`
nested : numbers (TimeCat (step 1 (TimeCat (step 1 bd (step 1 bd none))) (step 1 (TimeCat (step 1 bd (step 1 bd (step 1 bd none)))) none))) ≡ 8 ∷
    46080 ∷ 1048576 ∷ []
unfolding frac gcd lcm
nested = refl

-- `[[bd [sn cp]] hh]@3 oh`
nested_deeper : numbers (TimeCat (step 3 (TimeCat (step 1 (TimeCat (step 1 bd (step 1 (TimeCat (step 1 bd (step 1 bd none))) none))) (step 1 bd
    none))) (step 1 bd none))) ≡ 9 ∷ 138240 ∷ 1048576 ∷ []
unfolding frac gcd lcm
nested_deeper = refl

-- `[bd sn cp]*4%3`
sequence_at_a_rate : numbers (Fast (rate 4 3) (TimeCat (step 1 bd (step 1 bd (step 1 bd none))))) ≡ 13 ∷ 46080 ∷ 1398102 ∷ []
unfolding frac gcd lcm
sequence_at_a_rate = refl

-- `[bd/7]@5 sn@2`
slow_in_a_sequence : numbers (TimeCat (step 5 (Fast (rate 1 7) bd) (step 2 bd none))) ≡ 4 ∷ 1612800 ∷ 1048583 ∷ []
unfolding frac gcd lcm
slow_in_a_sequence = refl

-- `[bd,sn*2]`
stack : numbers (Stack (child bd (child (Fast (rate 2 1) bd) empty))) ≡ 5 ∷ 46080 ∷ 2097152 ∷ []
unfolding frac gcd lcm
stack = refl

-- `bd sn, cp hh oh`
stack_of_sequences : numbers (Stack (child (TimeCat (step 1 bd (step 1 bd none))) (child (TimeCat (step 1 bd (step 1 bd (step 1 bd none)))) empty))) ≡
    8 ∷ 46080 ∷ 1048576 ∷ []
unfolding frac gcd lcm
stack_of_sequences = refl

-- `[bd*3,sn/4,cp*7%6]`
stack_of_rates : numbers (Stack (child (Fast (rate 3 1) bd) (child (Fast (rate 1 4) bd) (child (Fast (rate 7 6) bd) empty)))) ≡ 11 ∷ 322560 ∷ 3145728
    ∷ []
unfolding frac gcd lcm
stack_of_rates = refl

-- `{bd sn, cp hh oh}`
polymeter : numbers (Stack (child (TimeCat (step 1 bd (step 1 bd none))) (child (Fast (rate 2 3) (TimeCat (step 1 bd (step 1 bd (step 1 bd none)))))
    empty))) ≡ 13 ∷ 69120 ∷ 1048578 ∷ []
unfolding frac gcd lcm
polymeter = refl

-- `{bd sn cp}%4`
polymeter_of_four : numbers (Fast (rate 4 3) (TimeCat (step 1 bd (step 1 bd (step 1 bd none))))) ≡ 13 ∷ 46080 ∷ 1398102 ∷ []
unfolding frac gcd lcm
polymeter_of_four = refl

-- `bd(3,8)`
rhythm : numbers (TimeCat (step 1 bd (step 1 Silence (step 1 Silence (step 1 bd (step 1 Silence (step 1 Silence (step 1 bd (step 1 Silence
    none))))))))) ≡ 9 ∷ 46080 ∷ 1048576 ∷ []
unfolding frac gcd lcm
rhythm = refl

-- `bd(5,8,2)`
rhythm_turned : numbers (TimeCat (step 1 bd (step 1 bd (step 1 Silence (step 1 bd (step 1 bd (step 1 Silence (step 1 bd (step 1 Silence none)))))))))
    ≡ 9 ∷ 46080 ∷ 1048576 ∷ []
unfolding frac gcd lcm
rhythm_turned = refl

-- `bd(<3 5>,8)`
rhythms : numbers (Pick (Cat (child bd (child bd empty))) (child (TimeCat (step 1 bd (step 1 Silence (step 1 Silence (step 1 bd (step 1 Silence (step
    1 Silence (step 1 bd (step 1 Silence none))))))))) (child (TimeCat (step 1 bd (step 1 Silence (step 1 bd (step 1 bd (step 1 Silence (step 1 bd
    (step 1 bd (step 1 Silence none))))))))) empty))) ≡ 22 ∷ 46080 ∷ 1048576 ∷ []
unfolding frac gcd lcm
rhythms = refl

-- `bd*<2 3>`
chosen_rates : numbers (Pick (Cat (child bd (child bd empty))) (child (Fast (rate 2 1) bd) (child (Fast (rate 3 1) bd) empty))) ≡ 11 ∷ 46080 ∷ 3145728
    ∷ []
unfolding frac gcd lcm
chosen_rates = refl

-- `bd*[2 3]`
chosen_rates_at_once : numbers (Pick (TimeCat (step 1 bd (step 1 bd none))) (child (Fast (rate 2 1) bd) (child (Fast (rate 3 1) bd) empty))) ≡ 18 ∷
    46080 ∷ 3145728 ∷ []
unfolding frac gcd lcm
chosen_rates_at_once = refl

-- `[bd sn]/<2 3>`
chosen_slower : numbers (Pick (Cat (child bd (child bd empty))) (child (Fast (rate 1 2) (TimeCat (step 1 bd (step 1 bd none)))) (child (Fast (rate 1
    3) (TimeCat (step 1 bd (step 1 bd none)))) empty))) ≡ 12 ∷ 138240 ∷ 1048579 ∷ []
unfolding frac gcd lcm
chosen_slower = refl

-- `bd/[2 3 4 5 6 7 11]`
chosen_slower_at_once : numbers (Pick (TimeCat (step 1 bd (step 1 bd (step 1 bd (step 1 bd (step 1 bd (step 1 bd (step 1 bd none)))))))) (child (Fast
    (rate 1 2) bd) (child (Fast (rate 1 3) bd) (child (Fast (rate 1 4) bd) (child (Fast (rate 1 5) bd) (child (Fast (rate 1 6) bd) (child (Fast (rate
    1 7) bd) (child (Fast (rate 1 11) bd) empty)))))))) ≡ 107 ∷ 3548160 ∷ 1048587 ∷ []
unfolding frac gcd lcm
chosen_slower_at_once = refl

-- `bd*<-1 2>`
chosen_turned : numbers (Pick (Cat (child bd (child bd empty))) (child (Rev bd) (child (Fast (rate 2 1) bd) empty))) ≡ 9 ∷ 46080 ∷ 2097152 ∷ []
unfolding frac gcd lcm
chosen_turned = refl

-- `bd*<2 [3 4]>*<1 5>`
chosen_in_a_chosen : numbers (Pick (Cat (child bd (child bd empty))) (child (Pick (Cat (child bd (child (TimeCat (step 1 bd (step 1 bd none)))
    empty))) (child (Fast (rate 2 1) bd) (child (Fast (rate 3 1) bd) (child (Fast (rate 4 1) bd) empty)))) (child (Fast (rate 5 1) (Pick (Cat (child
    bd (child (TimeCat (step 1 bd (step 1 bd none))) empty))) (child (Fast (rate 2 1) bd) (child (Fast (rate 3 1) bd) (child (Fast (rate 4 1) bd)
    empty))))) empty))) ≡ 185 ∷ 46080 ∷ 20971520 ∷ []
unfolding frac gcd lcm
chosen_in_a_chosen = refl

-- `[bd*65535,bd*65534]`
load_at_the_limit : numbers (Stack (child (Fast (rate 65535 1) bd) (child (Fast (rate 65534 1) bd) empty))) ≡ 131072 ∷ 6596767779840 ∷ 68718428160 ∷
    []
unfolding frac gcd lcm
load_at_the_limit = refl

-- `[bd*65535,bd*65535]`
load_past_the_limit : numbers (Stack (child (Fast (rate 65535 1) bd) (child (Fast (rate 65535 1) bd) empty))) ≡ 131073 ∷ 201323520 ∷ 68718428160 ∷ []
unfolding frac gcd lcm
load_past_the_limit = refl

-- `bd*512*256`
load_of_rates : numbers (Fast (rate 256 1) (Fast (rate 512 1) bd)) ≡ 131329 ∷ 5898240 ∷ 137438953472 ∷ []
unfolding frac gcd lcm
load_of_rates = refl

-- `bd/16/32768*45%32768`
fine_at_the_limit : numbers (Fast (rate 45 32768) (Fast (rate 1 32768) (Fast (rate 1 16) bd))) ≡ 7 ∷ 17592186044416 ∷ 406685105 ∷ []
unfolding frac gcd lcm
fine_at_the_limit = refl

-- `bd/17/32768*45%32768`
fine_past_the_limit : numbers (Fast (rate 45 32768) (Fast (rate 1 32768) (Fast (rate 1 17) bd))) ≡ 7 ∷ 18691697672192 ∷ 430546034 ∷ []
unfolding frac gcd lcm
fine_past_the_limit = refl

-- `bd*26219%26220*14561%14560`
fine_just_within : numbers (Fast (rate 14561 14560) (Fast (rate 26219 26220) bd)) ≡ 10 ∷ 17592185502720 ∷ 1048651 ∷ []
unfolding frac gcd lcm
fine_just_within = refl

-- `bd*17041%17042*22403%22402`
fine_just_past : numbers (Fast (rate 22403 22402) (Fast (rate 17041 17042) bd)) ≡ 10 ∷ 17592186654720 ∷ 1048625 ∷ []
unfolding frac gcd lcm
fine_just_past = refl

-- `bd*16385%16384*16385%16384*16385%16384`
fine_of_rates : numbers (Fast (rate 16385 16384) (Fast (rate 16385 16384) (Fast (rate 16385 16384) bd))) ≡ 40 ∷ 40539818802816000 ∷ 1048770 ∷ []
unfolding frac gcd lcm
fine_of_rates = refl

-- `bd*256*256`
reach_at_the_limit : numbers (Fast (rate 256 1) (Fast (rate 256 1) bd)) ≡ 65793 ∷ 2949120 ∷ 68719476736 ∷ []
unfolding frac gcd lcm
reach_at_the_limit = refl

-- `bd*255*65279%254`
reach_past_the_limit : numbers (Fast (rate 65279 254) (Fast (rate 255 1) bd)) ≡ 66305 ∷ 51136957440 ∷ 68719481055 ∷ []
unfolding frac gcd lcm
reach_past_the_limit = refl

-- `bd*256*300`
reach_of_rates : numbers (Fast (rate 300 1) (Fast (rate 256 1) bd)) ≡ 77101 ∷ 230400 ∷ 80530636800 ∷ []
unfolding frac gcd lcm
reach_of_rates = refl

-- `[bd*-1]*65535`
turned_round_often : numbers (Fast (rate 65535 1) (Rev bd)) ≡ 131071 ∷ 201323520 ∷ 68718428160 ∷ []
unfolding frac gcd lcm
turned_round_often = refl

-- `[[bd/559]@16383 sn@0.0001]*240`
slow_in_a_great_weight : numbers (Fast (rate 240 1) (TimeCat (step 163830000 (Fast (rate 1 559) bd) (step 1 bd none)))) ≡ 961 ∷ 17583546240000 ∷
    251658799 ∷ []
unfolding frac gcd lcm
slow_in_a_great_weight = refl

-- `bd*65535*65535*65535*65535*65535`
load_past_64_bits : numbers (Fast (rate 65535 1) (Fast (rate 65535 1) (Fast (rate 65535 1) (Fast (rate 65535 1) (Fast (rate 65535 1) bd))))) ≡
    1208852034608633403867136 ∷ 1237845594837982663382400000 ∷ 1267553889114094247303577600000 ∷ []
unfolding frac gcd lcm
load_past_64_bits = refl

-- `bd*65521%65522*65519%65520*65497%65498*65479%65480*65449%65450/65521/65519/65497/65479/65449`
grid_past_64_bits : numbers (Fast (rate 1 65449) (Fast (rate 1 65479) (Fast (rate 1 65497) (Fast (rate 1 65519) (Fast (rate 1 65521) (Fast (rate 65449
    65450) (Fast (rate 65479 65480) (Fast (rate 65497 65498) (Fast (rate 65519 65520) (Fast (rate 65521 65522) bd)))))))))) ≡ 68 ∷
    55529001608712118360473600000 ∷ 13254627493098188857707979 ∷ []
unfolding frac gcd lcm
grid_past_64_bits = refl

-- `bd/65535/65535/65535/65535/65535*32768*16384*8192`
hang_past_64_bits : numbers (Fast (rate 8192 1) (Fast (rate 16384 1) (Fast (rate 32768 1) (Fast (rate 1 65535) (Fast (rate 1 65535) (Fast (rate 1
    65535) (Fast (rate 1 65535) (Fast (rate 1 65535) bd)))))))) ≡ 26388413292545 ∷ 54397511491903535011921875 ∷ 1208856646294651831255039 ∷ []
unfolding frac gcd lcm
hang_past_64_bits = refl

-- `bd*<65521%65522 65519%65520>*<65497%65498 65479%65480>*<65449%65450 65447%65448>*65437%65438*65423%65424*65419%65420`
chosen_past_64_bits : numbers (Fast (rate 65419 65420) (Fast (rate 65423 65424) (Fast (rate 65437 65438) (Pick (Cat (child bd (child bd empty)))
    (child (Fast (rate 65449 65450) (Pick (Cat (child bd (child bd empty))) (child (Fast (rate 65497 65498) (Pick (Cat (child bd (child bd empty)))
    (child (Fast (rate 65521 65522) bd) (child (Fast (rate 65519 65520) bd) empty)))) (child (Fast (rate 65479 65480) (Pick (Cat (child bd (child bd
    empty))) (child (Fast (rate 65521 65522) bd) (child (Fast (rate 65519 65520) bd) empty)))) empty)))) (child (Fast (rate 65447 65448) (Pick (Cat
    (child bd (child bd empty))) (child (Fast (rate 65497 65498) (Pick (Cat (child bd (child bd empty))) (child (Fast (rate 65521 65522) bd) (child
    (Fast (rate 65519 65520) bd) empty)))) (child (Fast (rate 65479 65480) (Pick (Cat (child bd (child bd empty))) (child (Fast (rate 65521 65522) bd)
    (child (Fast (rate 65519 65520) bd) empty)))) empty)))) empty)))))) ≡ 1527 ∷ 1017780448447432110799909302700935107232527155200 ∷ 1048588 ∷ []
unfolding frac gcd lcm
chosen_past_64_bits = refl

-- ---- how many events a cycle has at most, worked by hand: a cycle at the rate 3/2 touches three of its child's
counts_at_a_rate : (bounds (Fast (rate 3 2) bd)).count ∷ (bounds (Fast (rate 1 2) bd)).count ∷ (bounds (Fast (rate 2 3) bd)).count ∷ [] ≡ 3 ∷ 1 ∷ 2 ∷ []
unfolding frac gcd lcm
counts_at_a_rate = refl

abbrev pub three : Tree
three = TimeCat (step 1 bd (step 1 bd (step 2 bd none)))

-- of turns the most that one has, of a stack the sum, of choices the most at each event of the selector
counts_of_several : (bounds (Cat (child three (child bd empty)))).count ∷ (bounds (Stack (child three (child bd empty)))).count
    ∷ (bounds (Pick three (child three (child bd empty)))).count ∷ [] ≡ 3 ∷ 4 ∷ 9 ∷ []
unfolding frac gcd lcm
counts_of_several = refl

-- a selector without events still asks once
load_of_no_choice : numbers (Pick Silence (child bd empty)) ≡ 3 ∷ 46080 ∷ 1048576 ∷ []
unfolding frac gcd lcm
load_of_no_choice = refl
