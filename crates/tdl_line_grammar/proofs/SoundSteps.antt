-- What the machine spells once a function or an operand is whole.
--     made_goes, called_goes      functions with a name, and calls of them
--     in_round_goes, fun_closes   functions in round brackets
--     operand_goes                operands
use Rattle.std.specs.Prelude.{◌&&◌, not, IsTrue}
use Rattle.std.proofs.Common.{◌≡◌, true≢false, ℕ, Bool, true, false, List, [], ◌∷◌, ◌++◌, refl, ap, sym, ◌∙◌, append_assoc}
use Rattle.tdl_line_machine.specs.declared.names.Name.TheVariants as name
use Rattle.tdl_line_machine.specs.declared.marks.Mark.TheVariants as mark
use Rattle.tdl_line_machine.specs.Tokens.{Tok}
use Rattle.tdl_line_machine.specs.Tokens as token
use Rattle.tdl_command.specs.Tree as tree
use Rattle.tdl_command.specs.Tree.{Count, whole, counted, Ratio, Expr, Fun}
use Rattle.tdl_mini_tree.specs.Reading.{read, unread}
use Rattle.tdl_line_machine.specs.Pieces.{Terminal, Piece}
use Rattle.tdl_line_grammar.specs.Spelling.{expr_pieces, fun_pieces, ratio_pieces, count_pieces, last_count, terminals}
use Rattle.tdl_line_machine.specs.declared.goals.Goal.{Goal}
use Rattle.tdl_line_grammar.specs.Grammar.{is_operand, is_joined, is_paren, is_single, is_named, is_argument, Formed, FormedFun}
use Rattle.tdl_command.specs.Rules.{has_rhythms, has_rhythms_from}
use Rattle.tdl_line_machine.specs.Machine.States.{Spot, first, at_operand, after_dot, CountCall, count_of, every_in, cycles_of}
use Rattle.tdl_line_machine.specs.Machine.States.{cycles_from, hits_of, steps_of, off_hits, off_steps, off_from, FunCall, layer_of, every_of, cycle_of, off_of}
use Rattle.tdl_line_machine.specs.Machine.States.{within_of, Called, wants_count, wants_fun, made_of, Pending, applies, joins, calls, shifts, Bracketed}
use Rattle.tdl_line_machine.specs.Machine.States.{anything}
use Rattle.tdl_line_machine.specs.Machine.Calls.{with_ratio}
use Rattle.tdl_line_machine.specs.Machine.Open.{closed}
use Rattle.tdl_line_machine.specs.Machine.States.{expr_or_number, fun_or_number, fun_after, argument, Hole, round, constant, Frame, Front}
use Rattle.tdl_line_machine.specs.Machine.Expressions.{with_pending, applied}
use Rattle.tdl_line_machine.specs.Machine.Calls.{with_count, with_fun, made, called, in_round, in_hole, is_nil, may_close_fun}
use Rattle.tdl_line_machine.specs.Machine.Open.{has_funs}
use Rattle.tdl_line_machine.specs.Machine.Expressions.{operand_hole, operand_in, operand}
use Rattle.tdl_line_grammar.proofs.Running.{terminals-append}
use Rattle.tdl_line_grammar.proofs.Kept.{Kept, core, leveled, inner, outer}
use Rattle.tdl_line_grammar.proofs.SoundText.{marked, worded, count_terminal, ratio_call_terminal, count_call_terminals, fun_call_terminals, then_spot}
use Rattle.tdl_line_grammar.proofs.SoundText.{then_level}
use Rattle.tdl_line_grammar.proofs.SoundText.{before_round, then_hole, frames_read, around, has_dollars, has_operators, FitApplied, FitLevel, FitSpot}
use Rattle.tdl_line_grammar.proofs.SoundText.{FitRound}
use Rattle.tdl_line_grammar.proofs.SoundText.{FitHole, FitFrames, Grows, Goes, goes_from, bare, grows_to, closes_in}
use Rattle.tdl_line_machine.specs.declared.calls.RatioCall.{RatioCall}
use Rattle.tdl_line_machine.specs.declared.calls.RatioCall.TheVariants as ratio_call

-- ---- tests
pub and_left : (a b : Bool) → (a && b) ≡ true → a ≡ true
and_left true b h = refl
and_left false b h = h

pub and_right : (a b : Bool) → (a && b) ≡ true → b ≡ true
and_right true b h = h
and_right false b h = cc

-- ---- functions with a name
chain_spelled : (base : List Terminal) (g f : Fun) →
    base ++ terminals (fun_pieces (tree.chain g f)) ≡ (base ++ (terminals (fun_pieces g) ++ marked mark.Dot ∷ [])) ++ terminals (fun_pieces f)
chain_spelled base g f = simp (terminals-append, append_assoc)

pub made_goes : (goal : Goal) (t : Tok) (before : List Terminal) (k : Kept) (n : ℕ) (spot : Spot) (f : Fun) → FitFrames goal k.front k.frames
    → FitSpot k.frames k.level spot → IsTrue (is_named f) → FormedFun f → Grows t before (then_spot (around k) spot ++ terminals (fun_pieces f))
    → Goes goal t before (made (core k n) spot f)
made_goes goal t before k n first f frames spot is formed g = record { grows = g; fit = (frames, (is, formed, spot)) }
made_goes goal t before k n at_operand f frames spot is formed g = record { grows = g; fit = (frames, (is, formed, spot)) }
made_goes goal t before k n (after_dot a) f frames spot is formed g =
    record {
      grows = grows_to (chain_spelled (around k) a f) g;
      fit = (frames, ((spot.0, and_left (is_single f) (not (is_paren f)) is, formed), spot.1));
    }

-- what a call spells so far
abbrev pub called_terminals : Called → List Terminal
called_terminals (wants_count call) = count_call_terminals call
called_terminals (wants_fun call) = fun_call_terminals call
called_terminals (made_of f) = terminals (fun_pieces f)

abbrev pub FitCalled : Called → Type 0
FitCalled (wants_count call) = Unit {0}
FitCalled (wants_fun call) = Unit {0}
FitCalled (made_of f) = IsTrue (is_named f) × FormedFun f

pub called_goes : (goal : Goal) (t : Tok) (before : List Terminal) (k : Kept) (n : ℕ) (spot : Spot) (c : Called) → FitFrames goal k.front k.frames
    → FitSpot k.frames k.level spot → FitCalled c → Grows t before (then_spot (around k) spot ++ called_terminals c)
    → Goes goal t before (called (core k n) spot c)
called_goes goal t before k n spot (wants_count call) frames fits h g = record { grows = g; fit = (frames, fits) }
called_goes goal t before k n spot (wants_fun call) frames fits h g = record { grows = g; fit = (frames, fits) }
called_goes goal t before k n spot (made_of f) frames fits h g = made_goes goal t before k n spot f frames fits h.0 h.1 g

-- ---- arguments
count_then : (c : Count) (rest : List Piece) → terminals (count_pieces c ++ rest) ≡ count_terminal c ∷ terminals rest
count_then (whole n) rest = refl
count_then (counted (read k ls)) rest = refl
count_then (counted (unread kind at)) rest = refl

last_is : (rhythms : Bool) (c : Count) → terminals (last_count rhythms c) ≡ count_terminal c ∷ []
last_is rhythms (whole n) = refl
last_is rhythms (counted (read k ls)) = refl
last_is rhythms (counted (unread kind at)) = refl

count_is : (c : Count) → terminals (count_pieces c) ≡ count_terminal c ∷ []
count_is (whole n) = refl
count_is (counted (read k ls)) = refl
count_is (counted (unread kind at)) = refl

pub with_count_spelled : (call : CountCall) (c : Count) → called_terminals (with_count call c) ≡ count_call_terminals call ++ count_terminal c ∷ []
with_count_spelled (count_of f) c = ap (λ ts. worded (name.OfCount f) ∷ ts) (count_is c)
with_count_spelled every_in c = refl
with_count_spelled (cycles_of g) c = refl
with_count_spelled (cycles_from g n) c = refl
with_count_spelled hits_of c = refl
with_count_spelled (steps_of k) c =
    ap (λ ts. worded name.Euclid ∷ ts) (count_then k (last_count (has_rhythms k c) c) ∙ ap (λ ts. count_terminal k ∷ ts) (last_is (has_rhythms k c) c))
with_count_spelled off_hits c = refl
with_count_spelled (off_steps k) c = refl
with_count_spelled (off_from k n) c =
    ap (λ ts. worded name.EuclidOff ∷ ts) (count_then k (count_pieces n ++ last_count (has_rhythms_from k n c) c)
    ∙ ap (λ ts. count_terminal k ∷ ts) (count_then n (last_count (has_rhythms_from k n c) c)
    ∙ ap (λ ts. count_terminal n ∷ ts) (last_is (has_rhythms_from k n c) c)))

pub with_count_fits : (call : CountCall) (c : Count) → FitCalled (with_count call c)
with_count_fits (count_of f) c = (refl, tt)
with_count_fits every_in c = tt
with_count_fits (cycles_of g) c = tt
with_count_fits (cycles_from g n) c = tt
with_count_fits hits_of c = tt
with_count_fits (steps_of k) c = (refl, tt)
with_count_fits off_hits c = tt
with_count_fits (off_steps k) c = tt
with_count_fits (off_from k n) c = (refl, tt)

pub with_ratio_spelled : (call : RatioCall) (r : Ratio) → called_terminals (with_ratio call r) ≡ ratio_call_terminal call ∷ terminals (ratio_pieces r)
with_ratio_spelled (ratio_call.Of f) r = refl
with_ratio_spelled ratio_call.Off r = refl

pub with_ratio_fits : (call : RatioCall) (r : Ratio) → FitCalled (with_ratio call r)
with_ratio_fits (ratio_call.Of f) r = (refl, tt)
with_ratio_fits ratio_call.Off r = tt

with_fun_spelled : (call : FunCall) (f : Fun) → terminals (fun_pieces (with_fun call f)) ≡ fun_call_terminals call ++ terminals (fun_pieces f)
with_fun_spelled (layer_of g) f = refl
with_fun_spelled (every_of n) f = ap (λ ts. worded name.Every ∷ ts) (count_then n (fun_pieces f))
with_fun_spelled (cycle_of g n o) f =
    ap (λ ts. worded (name.Cycle g) ∷ ts) (count_then n (count_pieces o ++ fun_pieces f) ∙ ap (λ ts. count_terminal n ∷ ts) (count_then o (fun_pieces f)))
with_fun_spelled (off_of r) f = ap (λ ts. worded name.Off ∷ ts) (terminals-append (ratio_pieces r) (fun_pieces f))
with_fun_spelled (within_of a b) f = simp (terminals-append, append_assoc)

with_fun_named : (call : FunCall) (f : Fun) → IsTrue (is_named (with_fun call f))
with_fun_named (layer_of g) f = refl
with_fun_named (every_of n) f = refl
with_fun_named (cycle_of g n o) f = refl
with_fun_named (off_of r) f = refl
with_fun_named (within_of a b) f = refl

with_fun_formed : (call : FunCall) (f : Fun) → IsTrue (is_argument f) → FormedFun f → FormedFun (with_fun call f)
with_fun_formed (layer_of g) f is formed = (is, formed)
with_fun_formed (every_of n) f is formed = (is, formed)
with_fun_formed (cycle_of g n o) f is formed = (is, formed)
with_fun_formed (off_of r) f is formed = (is, formed)
with_fun_formed (within_of a b) f is formed = (is, formed)

-- a function that is an argument
pub with_fun_goes : (goal : Goal) (t : Tok) (before : List Terminal) (k : Kept) (n : ℕ) (spot : Spot) (call : FunCall) (f : Fun)
    → FitFrames goal k.front k.frames → FitSpot k.frames k.level spot → IsTrue (is_argument f) → FormedFun f
    → Grows t before ((then_spot (around k) spot ++ fun_call_terminals call) ++ terminals (fun_pieces f))
    → Goes goal t before (made (core k n) spot (with_fun call f))
with_fun_goes goal t before k n spot call f frames fits is formed g =
    made_goes goal t before k n spot (with_fun call f) frames fits (with_fun_named call f) (with_fun_formed call f is formed)
    (grows_to (ap (λ ts. then_spot (around k) spot ++ ts) (with_fun_spelled call f)
    ∙ sym (append_assoc (then_spot (around k) spot) (fun_call_terminals call) (terminals (fun_pieces f)))) g)

-- ---- functions in round brackets
paren_argument : (f : Fun) → is_paren f ≡ true → is_argument f ≡ true
paren_argument (tree.paren f) h = refl
paren_argument (tree.section operator e) h = refl
paren_argument (tree.shift r way) h = refl
paren_argument f h = absurd (true≢false (sym h))

paren_single : (f : Fun) → is_paren f ≡ true → is_single f ≡ true
paren_single (tree.chain g f) h = absurd (true≢false (sym h))
paren_single f h = refl

pub in_round_goes : (goal : Goal) (t : Tok) (before : List Terminal) (k : Kept) (n : ℕ) (r : Bracketed) (f : Fun) → FitFrames goal k.front k.frames
    → FitRound k.frames k.level r → IsTrue (is_paren f) → FormedFun f → Grows t before (before_round (around k) r ++ terminals (fun_pieces f))
    → Goes goal t before (in_round (core k n) t r f)
in_round_goes goal t before k n anything f frames fits is formed g = record { grows = g; fit = (frames, (formed, fits)) }
in_round_goes goal t before k n expr_or_number f frames fits is formed g = tt
in_round_goes goal t before k n fun_or_number f frames fits is formed g = record { grows = g; fit = (frames, (formed, fits)) }
in_round_goes goal t before k n (fun_after a) f frames fits is formed g =
    record { grows = grows_to (chain_spelled (around k) a f) g; fit = (frames, ((fits.0, paren_single f is, formed), fits.1)) }
in_round_goes goal t before k n (argument spot call) f frames fits is formed g =
    with_fun_goes goal t before k n spot call f frames fits (paren_argument f is) formed g

in_hole_goes : (goal : Goal) (k : Kept) (n : ℕ) (hole : Hole) (f : Fun) (inside : List Terminal) → FitFrames goal k.front k.frames
    → FitHole k.frames k.level hole → IsTrue (is_paren f) → FormedFun f
    → terminals (fun_pieces f) ≡ marked mark.OpenRound ∷ (inside ++ marked mark.CloseRound ∷ [])
    → Goes goal (token.mark mark.CloseRound) (then_hole (around k) hole ++ inside) (in_hole (token.mark mark.CloseRound) f (core k n) hole)
in_hole_goes goal k n (round r) f inside frames fits is formed e =
    in_round_goes goal (token.mark mark.CloseRound) _ k n r f frames fits is formed
    (closes_in (before_round (around k) r) [] inside (terminals (fun_pieces f)) e)
in_hole_goes goal k n hole f inside frames fits is formed e = tt

nil_level : (level : List Pending) → is_nil level ≡ true → level ≡ []
nil_level [] h = refl
nil_level (p ∷ level) h = absurd (true≢false (sym h))

pub fun_closes : (goal : Goal) (k : Kept) (n : ℕ) (f : Fun) (inside : List Terminal) → FitFrames goal k.front k.frames → IsTrue (is_paren f) → FormedFun f
    → terminals (fun_pieces f) ≡ marked mark.OpenRound ∷ (inside ++ marked mark.CloseRound ∷ []) → may_close_fun (core k n) ≡ true
    → Goes goal (token.mark mark.CloseRound) (around k ++ inside)
    (closed k.frames (core k n) (token.mark mark.CloseRound) (in_hole (token.mark mark.CloseRound) f))
fun_closes goal k n f inside frames is formed e may =
    goes_from goal (token.mark mark.CloseRound) _
    (ap (λ ts. ts ++ inside) (bare k (nil_level k.level (and_right (has_funs k.frames) (is_nil k.level) may)))) (go k.frames frames)
  where
    go : (all : List Frame) → FitFrames goal k.front all → Goes goal (token.mark mark.CloseRound) (frames_read k.front all ++ inside)
        (closed all (core k n) (token.mark mark.CloseRound) (in_hole (token.mark mark.CloseRound) f))
    go [] fits = tt
    go (a ∷ all) fits = in_hole_goes goal (outer k a all) n a.hole f inside fits.1 fits.0 is formed e

-- ---- operands
operand_joined : (e : Expr) → is_operand e ≡ true → is_joined e ≡ true
operand_joined (tree.applied f e) h = h
operand_joined e h = refl

-- an expression that is pending up to a `$`
pub record JoinedFits (frames : List Frame) (level : List Pending) (e : Expr) : Type 0 where
  pub level_fits : FitApplied frames level
  pub is : IsTrue (is_joined e)
  pub formed : Formed e
  pub is_alone : has_operators frames ≡ false → IsTrue (is_operand e)

joined_fits : (frames : List Frame) (level : List Pending) (e : Expr) → FitLevel frames level → IsTrue (is_operand e) → Formed e
    → JoinedFits frames (with_pending level e).level (with_pending level e).expr
joined_fits frames [] e h is formed = record { level_fits = tt; is = operand_joined e is; formed = formed; is_alone = λ no. is }
joined_fits frames (applies f ∷ level) e h is formed = record { level_fits = h; is = operand_joined e is; formed = formed; is_alone = λ no. is }
joined_fits frames (joins a operator ∷ level) e h is formed =
    record { level_fits = h.3; is = refl; formed = (h.1, h.2, is, formed); is_alone = λ no. absurd (true≢false (sym h.0 ∙ no)) }
joined_fits frames (calls f ∷ level) e h is formed = joined_fits frames level (tree.called f e) h.2 refl (h.0, h.1, is, formed)
joined_fits frames (shifts r way ∷ level) e h is formed = joined_fits frames level (tree.shifted r way e) h refl (is, formed)

joined_spelled : (base : List Terminal) (level : List Pending) (e : Expr) →
    then_level base (with_pending level e).level ++ terminals (expr_pieces (with_pending level e).expr) ≡ then_level base level ++ terminals (expr_pieces e)
joined_spelled base [] e = refl
joined_spelled base (applies f ∷ level) e = refl
joined_spelled base (joins a operator ∷ level) e = simp (terminals-append, append_assoc)
joined_spelled base (calls f ∷ level) e =
    joined_spelled base level (tree.called f e)
    ∙ ap (λ ts. then_level base level ++ ts) (terminals-append (fun_pieces f) (expr_pieces e))
    ∙ sym (append_assoc (then_level base level) (terminals (fun_pieces f)) (terminals (expr_pieces e)))
joined_spelled base (shifts r way ∷ level) e = joined_spelled base level (tree.shifted r way e) ∙ simp (terminals-append, append_assoc)

no_dollars : (frames : List Frame) (level : List Pending) → has_dollars frames ≡ false → FitApplied frames level → level ≡ []
no_dollars frames [] e h = refl
no_dollars frames (applies f ∷ level) e h = absurd (true≢false (sym h.0 ∙ e))
no_dollars frames (p ∷ level) e h = absurd h

-- what is open, and then what is pending in it
abbrev in_hole_of : Kept → Hole → ℕ → List Pending → Kept
in_hole_of k hole depth level = leveled (inner k hole depth) level

const_spelled : (base : List Terminal) (level : List Pending) (e : Expr) → level ≡ [] →
    base ++ worded name.Const ∷ terminals (expr_pieces e) ≡ then_level (base ++ worded name.Const ∷ []) level ++ terminals (expr_pieces e)
const_spelled base level e h = rw h (sym (append_assoc base (worded name.Const ∷ []) (terminals (expr_pieces e))))

operand_hole_goes : (goal : Goal) (t : Tok) (before : List Terminal) (k : Kept) (hole : Hole) (depth : ℕ) (level : List Pending) (n : ℕ) (e : Expr)
    → FitFrames goal k.front (in_hole_of k hole depth level).frames → JoinedFits (in_hole_of k hole depth level).frames level e
    → Grows t before (around (in_hole_of k hole depth level) ++ terminals (expr_pieces e))
    → Goes goal t before (operand_hole (core (in_hole_of k hole depth level) n) (record { level = k.level; depth = k.depth; hole = hole }) k.frames e hole)
operand_hole_goes goal t before k (constant spot) depth level n e frames h g =
    made_goes goal t before k n spot (tree.const e) frames.1 frames.0 refl (h.is_alone refl, h.formed)
    (grows_to (const_spelled (then_spot (around k) spot) level e (no_dollars (in_hole_of k (constant spot) depth level).frames level refl h.level_fits)) g)
operand_hole_goes goal t before k hole depth level n e frames h g = record { grows = g; fit = (frames, (refl, h.is, h.formed, h.level_fits)) }

operand_in_goes : (goal : Goal) (t : Tok) (before : List Terminal) (frames : List Frame) (level : List Pending) (depth : ℕ) (front : Front) (n : ℕ) (e : Expr)
    → FitFrames goal front frames → JoinedFits frames level e → Grows t before (then_level (frames_read front frames) level ++ terminals (expr_pieces e))
    → Goes goal t before (operand_in (core (record { frames = frames; level = level; depth = depth; front = front }) n) frames e)
operand_in_goes goal t before [] level depth front n e frames h g = record { grows = g; fit = (frames, (refl, h.is, h.formed, h.level_fits)) }
operand_in_goes goal t before (f ∷ all) level depth front n e frames h g =
    operand_hole_goes goal t before (record { frames = all; level = f.level; depth = f.depth; front = front }) f.hole depth level n e frames h g

pub operand_goes : (goal : Goal) (t : Tok) (before : List Terminal) (k : Kept) (n : ℕ) (e : Expr) → FitFrames goal k.front k.frames
    → FitLevel k.frames k.level → IsTrue (is_operand e) → Formed e → Grows t before (around k ++ terminals (expr_pieces e))
    → Goes goal t before (operand (core k n) e)
operand_goes goal t before k n e frames fits is formed g =
    operand_in_goes goal t before k.frames (with_pending k.level e).level k.depth k.front n (with_pending k.level e).expr frames
    (joined_fits k.frames k.level e fits is formed)
    (grows_to (joined_spelled (frames_read k.front k.frames) k.level e) g)

-- ---- expressions with what is pending before them
pub applied_spelled : (base : List Terminal) (frames : List Frame) (level : List Pending) (e : Expr) → FitApplied frames level →
    base ++ terminals (expr_pieces (applied level e)) ≡ then_level base level ++ terminals (expr_pieces e)
applied_spelled base frames [] e h = refl
applied_spelled base frames (applies f ∷ level) e h =
    applied_spelled base frames level (tree.applied f e) h.2
    ∙ simp (terminals-append, append_assoc)
applied_spelled base frames (p ∷ level) e h = absurd h

pub applied_formed : (frames : List Frame) (level : List Pending) (e : Expr) → FitApplied frames level → Formed e → Formed (applied level e)
applied_formed frames [] e h formed = formed
applied_formed frames (applies f ∷ level) e h formed = applied_formed frames level (tree.applied f e) h.2 (h.1, formed)
applied_formed frames (p ∷ level) e h formed = absurd h

pub applied_joined : (frames : List Frame) (level : List Pending) (e : Expr) → has_dollars frames ≡ false → FitApplied frames level → IsTrue (is_joined e)
    → IsTrue (is_joined (applied level e))
applied_joined frames level e none h is = rw (no_dollars frames level none h) is
