-- Where a text is no log, and what of it is one.
--     text_is, pieces_are        a text is cut as a log exactly where it is the log's text
--     text_has, text_of          so it is a text of the grammar with that log
--     not_both, unrefused        no log's text has a fault
--     lines_go, lines_end        the lines that others begin with
--     line_fault                 a line with which no log goes on behind lines that a log begins with
--     early_fault                a text that ends before the last line
--     behind_fault               bytes behind a whole log
--     none_read, read_more       how far a text was read
--     whole                      a text that was read as a log to its end
use Rattle.std.proofs.Common.{◌≡◌, ℕ, ◌+◌, ◌^◌, ◌<◌, ◌≤◌, Bool, true, false, not, ◌&&◌, ◌||◌, ◌==◌, List, [], ◌∷◌, ◌++◌, length, map, drop, refl}
use Rattle.std.proofs.Common.{sym, ap, ◌∙◌, subst, append_assoc, append-nil, arith, length-drop}
use Rattle.std.proofs.lemmas.Bool.{true≢false}
use Rattle.std.proofs.lemmas.List.{map-append}
use Rattle.std.proofs.lemmas.List.Folds.{list_any-append}
use Rattle.std.proofs.Math.ListN.{drop_of_length-le}
use Rattle.std.proofs.lemmas.Bool.Decides.{nat_tests}
use Rattle.std.specs.Prelude.{if◌then◌else◌, nat_lt}
use Rattle.std.specs.List.{flat_map, list_any}
use Rattle.tdl_control.specs.declared.faults.Faulted.{Faulted}
use Rattle.tdl_control.specs.declared.faults.Faulted.TheVariants.{NoMemory, At}
use Rattle.tdl_grammar.specs.Faults.{GoesOn, IsFault, IsText, wrong}
use Rattle.tdl_grammar.proofs.OneFront.{text_no_fault}
use Rattle.tdl_score.specs.Readings.{IsReading, Reading}
use Rattle.tdl_log.specs.declared.kinds.LogKind.{LogKind}
use Rattle.tdl_log.specs.declared.kinds.LogKind.TheVariants.{Count, Form, Head, Order}
use Rattle.tdl_log.specs.Log.{Log}
use Rattle.tdl_log.specs.LogGrammar.{IsSheet, RefusesLog, log_grammar, pieces_of, wrong_at, wrong_kind}
use Rattle.tdl_log.specs.LogText.{cps_line, end_line, entry_lines, head_line, log_lines, origin_line, log_text, port_line, with_feed}
use Rattle.tdl_log.specs.LineKinds.{is_entry, is_last, is_line_of, is_port, line_kind}
use Rattle.tdl_log.specs.Pieces.{Piece, line, rest, bytes_of, cut, onto, size}
use Rattle.tdl_log.specs.inside.Walks.{IsReadTo, begun_lines}
use Rattle.tdl_log.proofs.CutLines.{AreLines}
use Rattle.tdl_log.proofs.CutTexts.{cut_by, cut_lines, joined, lines_bytes, size_more}
use Rattle.tdl_log.proofs.LineLooks.{begins, end_looks, no_last_line, none_begins}
use Rattle.tdl_log.proofs.OneLine.{heads, tails}
use Rattle.tdl_log.proofs.OneLog.{log_is_lines, printable}
use Rattle.tdl_log.proofs.Printable.{legal_is_plain}

-- ---- texts of logs
pub text_is : (text : List ℕ) (log : Log) → cut text ≡ pieces_of log → text ≡ log_text log
unfolding log_text
text_is text log same =
    sym (joined text) ∙ ap (flat_map bytes_of) same ∙ lines_bytes (log_lines log) (rest [] ∷ []) ∙ append-nil (flat_map with_feed (log_lines log))

pub pieces_are : (log : Log) → AreLines (log_lines log) → cut (log_text log) ≡ pieces_of log
unfolding log_text
pieces_are log are =
    ap cut (sym (append-nil (flat_map with_feed (log_lines log)))) ∙ cut_lines (log_lines log) [] are

-- ---- lines before others
abbrev pub Goes : List (List ℕ) → List (List ℕ) → List ℕ → Type 0
Goes xs ys l = (more : List (List ℕ)) × (xs ≡ ys ++ l ∷ more)

same_line : (l m : List ℕ) (xs ys : List Piece) → line l ∷ xs ≡ line m ∷ ys → l ≡ m
same_line l m xs ys e = cc

same_rest : (l m : List ℕ) (xs ys : List Piece) → rest l ∷ xs ≡ rest m ∷ ys → l ≡ m
same_rest l m xs ys e = cc

no_line : (l m : List ℕ) (xs ys : List Piece) → rest l ∷ xs ≡ line m ∷ ys → ⊥
no_line l m xs ys e = cc

same_tails : (p q : Piece) (xs ys : List Piece) → p ∷ xs ≡ q ∷ ys → xs ≡ ys
same_tails p q xs ys e = cc

one_more : (x y l : List ℕ) (xs ys : List (List ℕ)) → x ≡ y → Goes xs ys l → Goes (x ∷ xs) (y ∷ ys) l
one_more x y l xs ys here go = (go.0, ap (λ (z : List ℕ). z ∷ xs) here ∙ ap (λ (zs : List (List ℕ)). y ∷ zs) go.1)

pub lines_go : (xs ys : List (List ℕ)) (l : List ℕ) (more : List Piece) → map line xs ++ rest [] ∷ [] ≡ map line ys ++ line l ∷ more → Goes xs ys l
lines_go [] [] l more e = absurd (no_line [] l [] more e)
lines_go (x ∷ xs) [] l more e = (xs, ap (λ (z : List ℕ). z ∷ xs) (same_line x l (map line xs ++ rest [] ∷ []) more e))
lines_go [] (y ∷ ys) l more e = absurd (no_line [] y [] (map line ys ++ line l ∷ more) e)
lines_go (x ∷ xs) (y ∷ ys) l more e =
    let left = map line xs ++ rest [] ∷ [] in
    let right = map line ys ++ line l ∷ more in
    one_more x y l xs ys (same_line x y left right e) (lines_go xs ys l more (same_tails (line x) (line y) left right e))

pub lines_end : (xs ys : List (List ℕ)) (r : List ℕ) (more : List Piece) → map line xs ++ rest [] ∷ [] ≡ map line ys ++ rest r ∷ more → (xs ≡ ys) × ([] ≡ r)
lines_end [] [] r more e = (refl, same_rest [] r [] more e)
lines_end (x ∷ xs) [] r more e = absurd (no_line r x more (map line xs ++ rest [] ∷ []) (sym e))
lines_end [] (y ∷ ys) r more e = absurd (no_line [] y [] (map line ys ++ rest r ∷ more) e)
lines_end (x ∷ xs) (y ∷ ys) r more e =
    let left = map line xs ++ rest [] ∷ [] in
    let right = map line ys ++ rest r ∷ more in
    let later = lines_end xs ys r more (same_tails (line x) (line y) left right e) in
    (ap (λ (z : List ℕ). z ∷ xs) (same_line x y left right e) ∙ ap (λ (zs : List (List ℕ)). y ∷ zs) later.0, later.1)

-- ---- the last line is the one that begins as it does
pub all_but_last : (log : Log) → log_lines log ≡ begun_lines log ++ end_line (length log.history) ∷ []
all_but_last log =
    ap (λ (lines : List (List ℕ)). head_line ∷ cps_line log.tempo ∷ origin_line log.tempo ∷ lines)
    (sym (append_assoc (entry_lines 0 log.history) (map port_line log.ends) (end_line (length log.history) ∷ [])))

some_begins : (xs : List (List ℕ)) (l : List ℕ) (ys : List (List ℕ)) → begins 101 l ≡ true → list_any (begins 101) (xs ++ l ∷ ys) ≡ true
some_begins xs l ys here = list_any-append (begins 101) xs (l ∷ ys) ∙ by (list_any (begins 101) xs) (begins 101 l) (list_any (begins 101) ys) here
  where
    by : (a b c : Bool) → b ≡ true → (a || (b || c)) ≡ true
    by true b c e = refl
    by false b c e = ap (λ (d : Bool). d || c) e

none_front : (xs ys : List (List ℕ)) → list_any (begins 101) (xs ++ ys) ≡ false → list_any (begins 101) xs ≡ false
none_front xs ys none = by (list_any (begins 101) xs) (list_any (begins 101) ys) (sym (list_any-append (begins 101) xs ys) ∙ none)
  where
    by : (a b : Bool) → (a || b) ≡ false → a ≡ false
    by true b e = absurd (true≢false e)
    by false b e = refl

-- an element that another list has within, where one more stands behind both
within : (xs : List (List ℕ)) (x : List ℕ) (ys : List (List ℕ)) (y l : List ℕ) (more : List (List ℕ)) → xs ++ x ∷ [] ≡ (ys ++ y ∷ []) ++ l ∷ more
    → Goes xs ys y
within [] x [] y l more e = absurd (cc)
within [] x (z ∷ []) y l more e = absurd (cc)
within [] x (z ∷ w ∷ ys) y l more e = absurd (cc)
within (z ∷ xs) x [] y l more e = (xs, ap (λ (w : List ℕ). w ∷ xs) (heads z y (xs ++ x ∷ []) (l ∷ more) e))
within (z ∷ xs) x (w ∷ ys) y l more e =
    one_more z w y xs ys (heads z w (xs ++ x ∷ []) ((ys ++ y ∷ []) ++ l ∷ more) e)
    (within xs x ys y l more (tails z w (xs ++ x ∷ []) ((ys ++ y ∷ []) ++ l ∷ more) e))

all_begin : (log : Log) → list_any (begins 101) (log_lines log) ≡ true
all_begin log =
    ap (list_any (begins 101)) (all_but_last log) ∙ some_begins (begun_lines log) (end_line (length log.history)) [] refl

-- ---- how far a text was read
pub read_more : (lines : List (List ℕ)) (text l : List ℕ) (at : ℕ) → IsReadTo lines text at
    → cut (drop at text) ≡ line l ∷ cut (drop (at + length l + 1) text) → at + length l + 1 ≤ length text
    → IsReadTo (lines ++ l ∷ []) text (at + length l + 1)
read_more lines text l at read same within = record {
  pieces = read.pieces ∙ ap (λ (pieces : List Piece). map line lines ++ pieces) same
      ∙ sym (append_assoc (map line lines) (line l ∷ []) (cut (drop (at + length l + 1) text)))
      ∙ ap (λ (pieces : List Piece). pieces ++ cut (drop (at + length l + 1) text)) (sym (map-append line lines (l ∷ [])));
  offset = ap (λ n. n + length l + 1) read.offset ∙ sym (size_more (map line lines) l) ∙ ap size (sym (map-append line lines (l ∷ [])));
  within = within;
}

pub none_read : (text : List ℕ) → IsReadTo [] text 0
none_read text = record { pieces = refl; offset = refl; within = omega arith }

-- ---- what stands first
data FirstPiece (pieces : List Piece) : Type 0 where
  a_line : (l : List ℕ) (others : List Piece) → pieces ≡ line l ∷ others → FirstPiece pieces
  some_rest : (byte : ℕ) (bytes : List ℕ) (others : List Piece) → pieces ≡ rest (byte ∷ bytes) ∷ others → FirstPiece pieces

first_onto : (byte : ℕ) (pieces : List Piece) → FirstPiece (onto byte pieces)
first_onto byte [] = some_rest byte [] [] refl
first_onto byte (line bytes ∷ pieces) = a_line (byte ∷ bytes) pieces refl
first_onto byte (rest bytes ∷ pieces) = some_rest byte bytes pieces refl

first_by : (byte : ℕ) (bytes : List ℕ) (t : Bool) → FirstPiece (cut_by byte bytes t)
first_by byte bytes true = a_line [] (cut bytes) refl
first_by byte bytes false = first_onto byte (cut bytes)

first_piece : (text : List ℕ) → 0 < length text → FirstPiece (cut text)
first_piece [] some = absurd (omega arith)
first_piece (byte ∷ bytes) some = first_by byte bytes (byte == 10)

module _ (Reads : Reading) (reading : IsReading Reads) where
  abbrev Shows : List (List ℕ) → Log → Type 0
  Shows lines log = GoesOn (log_grammar Reads) (map line lines) log

  shown : (log : Log) (lines later : List (List ℕ)) → IsSheet Reads log → log_lines log ≡ lines ++ later → Shows lines log
  shown log lines later sheet same = (
    map line later ++ rest [] ∷ [],
    record {
      sheet = sheet;
      spelled = sym (append_assoc (map line lines) (map line later) (rest [] ∷ []))
          ∙ ap (λ (pieces : List Piece). pieces ++ rest [] ∷ []) (sym (map-append line lines later) ∙ ap (map line) (sym same));
    },
  )

  fault_behind : (log : Log) (front : List Piece) (next : Piece) (others : List Piece) (text : List ℕ) → GoesOn (log_grammar Reads) front log
      → cut text ≡ front ++ next ∷ others → ((other : Log) → GoesOn (log_grammar Reads) (front ++ next ∷ []) other → ⊥)
      → IsFault (log_grammar Reads) (cut text) (wrong_kind front next) (wrong_at front next)
  fault_behind log front next others text shows same none = record {
    front = front;
    next = next;
    others = others;
    joined = same;
    reason = wrong (record { text = log; shown = shows; held = λ tree on. tt; none = none });
  }

  -- the lines of a log that begins with these pieces
  goes_of : (lines : List (List ℕ)) (l : List ℕ) (other : Log) → GoesOn (log_grammar Reads) (map line lines ++ line l ∷ []) other
      → Goes (log_lines other) lines l
  goes_of lines l other on =
      lines_go (log_lines other) lines l on.0 (sym on.1.spelled ∙ append_assoc (map line lines) (line l ∷ []) on.0)

  ends_of : (lines : List (List ℕ)) (r : List ℕ) (other : Log) → GoesOn (log_grammar Reads) (map line lines ++ rest r ∷ []) other
      → (log_lines other ≡ lines) × ([] ≡ r)
  ends_of lines r other on =
      lines_end (log_lines other) lines r on.0 (sym on.1.spelled ∙ append_assoc (map line lines) (rest r ∷ []) on.0)

  few_entries : (log : Log) → IsSheet Reads log → length log.history < 2 ^ 32
  few_entries log sheet = (legal_is_plain Reads reading log.history sheet.run.legal).1

  -- ---- a line that may not stand there
  pub line_fault : (log : Log) (lines later : List (List ℕ)) (l text : List ℕ) (at : ℕ) (others : List Piece) → IsSheet Reads log
      → log_lines log ≡ lines ++ later → IsReadTo lines text at → cut (drop at text) ≡ line l ∷ others
      → ((other : Log) → IsSheet Reads other → Goes (log_lines other) lines l → ⊥)
      → IsFault (log_grammar Reads) (cut text) (line_kind (map line lines) l) at
  line_fault log lines later l text at others sheet same read next none =
      subst (λ n. IsFault (log_grammar Reads) (cut text) (line_kind (map line lines) l) n) (sym read.offset)
      (fault_behind log (map line lines) (line l) others text (shown log lines later sheet same)
      (read.pieces ∙ ap (λ (pieces : List Piece). map line lines ++ pieces) next)
      (λ other on. none other on.1.sheet (goes_of lines l other on)))

  -- ---- a text that ends too early
  size_left : (lines : List (List ℕ)) (text : List ℕ) (at : ℕ) → IsReadTo lines text at → size (map line lines) + length (drop at text) ≡ length text
  size_left lines text at read = omega (arith, read.offset, read.within, length-drop at text)

  pub early_fault : (log : Log) (lines later : List (List ℕ)) (text : List ℕ) (at : ℕ) → IsSheet Reads log → begun_lines log ≡ lines ++ later
      → IsReadTo lines text at → cut (drop at text) ≡ rest (drop at text) ∷ [] → IsFault (log_grammar Reads) (cut text) Form (length text)
  early_fault log lines later text at sheet same read last =
      let unended : list_any (begins 101) lines ≡ false =
      none_front lines later (ap (list_any (begins 101)) (sym same) ∙ none_begins log (few_entries log sheet)) in
      subst (λ n. IsFault (log_grammar Reads) (cut text) Form n)
      (ap (λ (ended : Bool). if ended then size (map line lines) else size (map line lines) + length (drop at text)) (no_last_line lines unended)
      ∙ size_left lines text at read)
      (fault_behind log (map line lines) (rest (drop at text)) [] text
      (shown log lines (later ++ end_line (length log.history) ∷ []) sheet
      (all_but_last log ∙ ap (λ (ls : List (List ℕ)). ls ++ end_line (length log.history) ∷ []) same
      ∙ append_assoc lines later (end_line (length log.history) ∷ [])))
      (read.pieces ∙ ap (λ (pieces : List Piece). map line lines ++ pieces) last)
      (λ other on. true≢false (sym (all_begin other) ∙ ap (list_any (begins 101)) (ends_of lines (drop at text) other on).0 ∙ unended)))

  -- ---- bytes behind a whole log
  ended : (log : Log) → IsSheet Reads log → list_any (is_line_of is_last) (map line (log_lines log)) ≡ true
  ended log sheet =
      ap (λ (ls : List (List ℕ)). list_any (is_line_of is_last) (map line ls)) (all_but_last log)
      ∙ ap (list_any (is_line_of is_last)) (map-append line (begun_lines log) (end_line (length log.history) ∷ []))
      ∙ list_any-append (is_line_of is_last) (map line (begun_lines log)) (line (end_line (length log.history)) ∷ [])
      ∙ by (list_any (is_line_of is_last) (map line (begun_lines log))) (is_last (end_line (length log.history)))
      (end_looks (length log.history) (omega (arith, few_entries log sheet)))
    where
      by : (a b : Bool) → b ≡ true → (a || (b || false)) ≡ true
      by true b e = refl
      by false b e = ap (λ (c : Bool). c || false) e

  nothing_behind : (log other : Log) (l : List ℕ) → IsSheet Reads other → Goes (log_lines other) (log_lines log) l → ⊥
  nothing_behind log other l sheet go =
      let last = end_line (length log.history) in
      let here = within (begun_lines other) (end_line (length other.history)) (begun_lines log) last l go.0
      (sym (all_but_last other) ∙ go.1 ∙ ap (λ (ls : List (List ℕ)). ls ++ l ∷ go.0) (all_but_last log)) in
      true≢false
      (sym (some_begins (begun_lines log) last here.0 refl) ∙ ap (list_any (begins 101)) (sym here.1) ∙ none_begins other (few_entries other sheet))

  form_behind : (log : Log) (l : List ℕ) → IsSheet Reads log → line_kind (map line (log_lines log)) l ≡ Form
  form_behind log l sheet =
      let front = map line (log_lines log) in
      third (nat_lt (length front) 3) (list_any (is_line_of is_last) front)
      (if is_last l then Count else (if is_port l || (is_entry l && not (list_any (is_line_of is_port) front)) then Order else Form))
      (long (length front) (omega arith)) (ended log sheet)
    where
      long : (n : ℕ) → 3 ≤ n → nat_lt n 3 ≡ false
      long n above = grind (arith, nat_tests)

      third : (a t : Bool) (k : LogKind) → a ≡ false → t ≡ true → (if a then Head else (if t then Form else k)) ≡ Form
      third a t k p q = ap (λ (b : Bool). if b then Head else (if t then Form else k)) p ∙ ap (λ (b : Bool). if b then Form else k) q

  behind_by : (log : Log) (text : List ℕ) (at : ℕ) → IsSheet Reads log → IsReadTo (log_lines log) text at → FirstPiece (cut (drop at text))
      → IsFault (log_grammar Reads) (cut text) Form at
  behind_by log text at sheet read (a_line l others same) =
      subst (λ (k : LogKind). IsFault (log_grammar Reads) (cut text) k at) (form_behind log l sheet)
      (line_fault log (log_lines log) [] l text at others sheet (sym (append-nil (log_lines log))) read same
      (λ other on go. nothing_behind log other l on go))
  behind_by log text at sheet read (some_rest byte bytes others same) =
      let front = map line (log_lines log) in
      subst (λ n. IsFault (log_grammar Reads) (cut text) Form n)
      (ap (λ (t : Bool). if t then size front else size front + length (byte ∷ bytes)) (ended log sheet) ∙ sym read.offset)
      (fault_behind log front (rest (byte ∷ bytes)) others text (shown log (log_lines log) [] sheet (sym (append-nil (log_lines log))))
      (read.pieces ∙ ap (λ (pieces : List Piece). front ++ pieces) same)
      (λ other on. some_none byte bytes (ends_of (log_lines log) (byte ∷ bytes) other on).1))
    where
      some_none : (b : ℕ) (bs : List ℕ) → [] ≡ b ∷ bs → ⊥
      some_none b bs e = cc

  pub behind_fault : (log : Log) (text : List ℕ) (at : ℕ) → IsSheet Reads log → IsReadTo (log_lines log) text at → at < length text
      → IsFault (log_grammar Reads) (cut text) Form at
  behind_fault log text at sheet read before =
      behind_by log text at sheet read (first_piece (drop at text) (omega (arith, length-drop at text)))

  -- ---- texts of the grammar
  pub text_has : (text : List ℕ) (log : Log) → IsText (log_grammar Reads) (cut text) log → IsSheet Reads log × (text ≡ log_text log)
  text_has text log is = (is.reads.sheet, text_is text log is.reads.spelled)

  pub text_of : (text : List ℕ) (log : Log) → IsSheet Reads log → text ≡ log_text log → IsText (log_grammar Reads) (cut text) log
  text_of text log sheet same = record {
    reads = record { sheet = sheet; spelled = ap cut same ∙ pieces_are log (log_is_lines log (printable Reads reading log sheet.run)) };
    held = refl;
  }

  pub not_both : (text : List ℕ) (log : Log) (kind : LogKind) (at : ℕ) → IsSheet Reads log → text ≡ log_text log
      → IsFault (log_grammar Reads) (cut text) kind at → ⊥
  not_both text log kind at sheet same = text_no_fault (log_grammar Reads) (cut text) log kind at (text_of text log sheet same)

  pub unrefused : (log : Log) (fault : Faulted LogKind) → IsSheet Reads log → RefusesLog Reads (log_text log) fault → fault ≡ NoMemory
  unrefused log NoMemory sheet refused = refl
  unrefused log (At kind at) sheet refused = absurd (not_both (log_text log) log kind at sheet refl refused)

-- ---- the end of a log
pub whole : (log : Log) (text : List ℕ) (at : ℕ) → IsReadTo (log_lines log) text at → length text ≤ at → text ≡ log_text log
whole log text at read past =
    text_is text log (read.pieces ∙ ap (λ (bytes : List ℕ). map line (log_lines log) ++ cut bytes) (drop_of_length-le text past))
