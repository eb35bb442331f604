-- The lines of block scalars.
use Rattle.std.proofs.Common.{◌≡◌, ℕ, zero, suc, ◌+◌, ◌-◌, ◌<◌, ◌≤◌, ◌==◌, ◌&&◌, ◌||◌, ◌⊎◌, nat_lt, not, Bool, true, false, List, [], ◌∷◌, ◌++◌, length, slice_range, Result, Ok, Err, refl, sym, ◌∙◌, inl, inr, append_assoc, append-nil, arith}
use Rattle.yaml_scan_text.proofs.Words.{nat_tests, cases_lt, byte, break_width, break_value, feed_some, feed_at, column_at, splits_break, past_break, split_next, end_next, is_blank, text_parts, within, no_break, bytes_more, slice_bytes, past-le, Piece, Kept, Blank, Break, White, no_white, white_blank, white_break, feeds, Wrong, Refuses}
use Rattle.yaml_scan_model.specs.Runs.{is_text, line_end}
use Rattle.yaml_scan_model.proofs.RunsLemmas.{past-inside}
use Rattle.yaml_scan_model.specs.declared.problem.Problem.TheVariants as problems
use Rattle.yaml_scan_history.specs.declared.header.Chomp.{Chomp}
use Rattle.yaml_scan_history.specs.Value.{BlockLine, Empty, Words, at_end, between, block_value, starts_blank, texts_of}
use Rattle.yaml_scan_history.specs.Value.{stacked_with}
use Rattle.yaml_scan_history.specs.Lines.{Line, LineSpot, Lines, Stops, Tab, in_block, line_spot, lines_from, spaces, spot_behind, with_line}
use Rattle.yaml_scan_history.specs.Header.{HeaderText, header_at}
use Rattle.yaml_scan_history.specs.Block.{BlockText, block_at, block_with, column_of}
use Rattle.yaml_scan_history.proofs.BlockLemmas as blocks
use Rattle.yaml_scan_history.proofs.ScalarLemmas as scalars
use Rattle.yaml_scan_history.proofs.StackingLemmas as stacking
use Rattle.yaml_scan_text.specs.Lines.{AtLine, line_start}
use Rattle.yaml_scan_text.specs.BlockRead.{AreSpaces, FindsColumn, ReadsBlock, ReadsHeader, after_empty, after_text, lines_at}
use Rattle.yaml_scan_text.specs.declared.block.Header.{Header}
use Rattle.yaml_scan_text.specs.declared.block.Stack.{Stack}
use Rattle.yaml_scan_text.specs.declared.refusal.Refusal.{Refusal}
use Rattle.yaml_scan_text.proofs.LinesLemmas.{IsUnbroken, line_next, line_on, past_each, past_stops, unbroken, unbroken_line}
use Rattle.yaml_scan_text.proofs.WhiteLemmas.{breaks_of, white_join}
use Rattle.yaml_scan_text.proofs.JoinLemmas.{feeds_white}
use Rattle.yaml_scan_text.proofs.BlockLemmas.{break_some, seat_behind, spaces_column, spaces_inside, spaces_whole}

-- ---- white of spaces and breaks

breaks_join : (ps qs : List Piece) → breaks_of (ps ++ qs) ≡ breaks_of ps ++ breaks_of qs
breaks_join [] qs = refl
breaks_join (Kept b ∷ ps) qs = breaks_join ps qs
breaks_join (Blank b ∷ ps) qs = breaks_join ps qs
breaks_join (Break b ∷ ps) qs = rw (breaks_join ps qs) (sym (append_assoc b (breaks_of ps) (breaks_of qs)))

record IsWhite (text : List ℕ) (p q : ℕ) : Type 0 where
  pieces : List Piece
  white : White 0 text p q pieces
  none : breaks_of pieces ≡ []

no_tab : (b : ℕ) (x : Bool) → b ≡ 32 → (b == 9 && x) ≡ false
no_tab b x e = rw e refl

spaces_over : (d : ℕ) (text : List ℕ) (p : ℕ) → ((k : ℕ) → p ≤ k → k < p + d → byte text k ≡ 32)
    → IsWhite text p (p + d)
spaces_over zero text p each =
    let z : p + 0 ≡ p = omega arith in
    rw z (record { pieces = []; white = no_white p; none = refl })
spaces_over (suc d) text p each =
    let e : p + suc d ≡ p + 1 + d = omega arith in
    let here = each p (omega arith) (omega arith) in
    let more = spaces_over d text (p + 1) (λ k a b. each k (omega arith) (omega arith)) in
    rw e (record {
      pieces = Blank (byte text p) ∷ more.pieces;
      white = white_blank p (p + 1 + d) more.pieces (rw here refl) (no_tab (byte text p) _ here) more.white;
      none = more.none;
    })

spaces_white : (text : List ℕ) (p q : ℕ) → AreSpaces text p q → IsWhite text p q
spaces_white text p q s =
    let forward = s.forward in
    let at : p + (q - p) ≡ q = omega arith in
    rw at at (spaces_over (q - p) text p (λ k a b. s.each k a (rw at at b)))

-- ---- what lines come to

block_same : (f g : List BlockLine → List ℕ) → ((ls : List BlockLine) → f ls ≡ g ls)
    → (r : Result Lines Wrong) → block_with f r ≡ block_with g r
block_same f g same (Ok ls) = rw (same ls.lines) refl
block_same f g same (Err w) = refl

line_out : (f : List BlockLine → List ℕ) (l : BlockLine) (r : Result Lines Wrong)
    → block_with f (with_line l r) ≡ block_with (λ ls. f (l ∷ ls)) r
line_out f l (Ok ls) = refl
line_out f l (Err w) = refl

line_here : (f : List BlockLine → List ℕ) (m c : ℕ) (text : List ℕ) (p q : ℕ) (l : BlockLine)
    → line_spot c text p ≡ Line l q
    → block_with f (lines_from (suc m) c text p p) ≡ block_with (λ ls. f (l ∷ ls)) (lines_from m c text q q)
unfolding lines_from
line_here f m c text p q l h = rw h (line_out f l (lines_from m c text q q))

line_stop : (f : List BlockLine → List ℕ) (m c : ℕ) (text : List ℕ) (p q : ℕ)
    → line_spot c text p ≡ Stops q
    → block_with f (lines_from (suc m) c text p p) ≡ Ok (record { value = f []; end = p; place = q })
unfolding lines_from
line_stop f m c text p q h = rw h refl

line_tab : (f : List BlockLine → List ℕ) (m c : ℕ) (text : List ℕ) (p q : ℕ)
    → line_spot c text p ≡ Tab q
    → block_with f (lines_from (suc m) c text p p) ≡ Err (in_block problems.TabForSpace q)
unfolding lines_from
line_tab f m c text p q h = rw h refl

-- where the column before is 0, or the text ends, as many spaces count as the column has
indent_same : (c : ℕ) (text : List ℕ) (p : ℕ) → (0 < byte text p → column_at text p ≡ 0)
    → spaces (c - column_at text p) text p ≡ spaces c text p
indent_same c text p first = elim (cases_lt 0 (byte text p)) [
  | inl l ↦ let z : c - column_at text p ≡ c = omega (arith, first l) in rw z refl
  | inr l ↦ blocks.spaces_other (c - column_at text p) text p (λ e. absurd (omega arith)) ∙ sym (blocks.spaces_other c text p (λ e. absurd (omega arith)))
]

spot_there : (c : ℕ) (text : List ℕ) (p first : ℕ) → (0 < byte text p → column_at text p ≡ 0)
    → first ≡ p + spaces c text p
    → (s : LineSpot) → spot_behind c text first ≡ s → line_spot c text p ≡ s
spot_there c text p first zero_is at s h = rw (indent_same c text p zero_is, ← at) h

-- a place after spaces is in their line
pub spaces_seat : (text : List ℕ) (line p q : ℕ) → AtLine text line p
    → (0 < byte text p → column_at text p ≡ 0) → AreSpaces text p q → AtLine text line q
spaces_seat text line p q seat first sp =
    let forward = sp.forward in
    let order = seat.order in
    let (column, own) = spaces_column text p q sp in
    record {
      inside = spaces_inside text p q sp seat.inside;
      whole = spaces_whole text p q sp seat.whole;
      order = omega arith;
      own = seat.own ∙ sym own;
      column = λ some. elim (cases_lt p q) [
        | inl l ↦ let e = sp.each p (omega arith) l in let here = seat.column (omega arith) in omega arith
        | inr l ↦ let e : q ≡ p = omega arith in rw e (seat.column (rw e at some))
      ];
    }

-- ---- lines that are stacked

-- what the lines from there come to, where so much of the value is done
abbrev pub coming : Bool → Chomp → List ℕ → Bool → List ℕ → List ℕ → ℕ → ℕ → List ℕ → ℕ
    → Result BlockText Wrong
coming folded chomp done blank feed empties m c text p =
    block_with (λ ls. stacked_with folded done true blank feed empties chomp (texts_of ls)) (lines_from m c text p p)

-- Lines up to a place are stacked after what was there.
pub record Stacks (folded : Bool) (chomp : Chomp) (c : ℕ) (text : List ℕ) (from : ℕ) (old new : List ℕ) (s : Stack) : Type 0 where
  pub done : List ℕ
  pub is : new ≡ old ++ done
  pub pieces : List Piece
  pub white : White 0 text s.empties s.at pieces
  pub seat : AtLine text s.line s.at
  pub first : 0 < byte text s.at → column_at text s.at ≡ 0
  pub steps : ℕ
  pub room : length text ≤ s.at + steps
  pub rest : lines_at folded chomp c text from ≡ coming folded chomp done s.blank (feed_at text s.end) (breaks_of pieces) (suc steps) c text s.at

stack_none : (folded : Bool) (chomp : Chomp) (ls : List BlockLine)
    → block_value folded chomp ls ≡ stacked_with folded [] true false [] [] chomp (texts_of ls)
unfolding stacked_with
stack_none folded chomp ls = sym (stacking.stack_start folded chomp (texts_of ls).lead (texts_of ls).lines)

pub stacks_first : (folded : Bool) (chomp : Chomp) (c : ℕ) (text : List ℕ) (start : ℕ)
    (old : List ℕ) (line at : ℕ)
    → break_width text start ≡ 0 → AtLine text line at → (0 < byte text at → column_at text at ≡ 0)
    → Stacks folded chomp c text at old old (record { at = at; line = line; end = start; blank = false; empties = at })
stacks_first folded chomp c text start old line at none seat first = record {
  done = [];
  is = sym (append-nil old);
  pieces = [];
  white = no_white at;
  seat = seat;
  first = first;
  steps = length text;
  room = omega arith;
  rest = rw none (block_same (block_value folded chomp) _ (stack_none folded chomp) (lines_from (suc (length text)) c text at at));
}

-- an empty line
pub stacks_empty : (folded : Bool) (chomp : Chomp) (c : ℕ) (text : List ℕ) (from : ℕ)
    (old new : List ℕ) (s : Stack) (q : ℕ)
    → Stacks folded chomp c text from old new s → AreSpaces text s.at q → q ≡ s.at + spaces c text s.at → 0 < break_width text q
    → spot_behind c text q ≡ Line (Empty (break_value text q)) (q + break_width text q)
    → Stacks folded chomp c text from old new (after_empty text s q)
stacks_empty folded chomp c text from old new s q stacks sp at some spot =
    let forward = sp.forward in
    let past = past_break text q some in
    let inside = within text q (break_some text q some) in
    let steps = stacks.steps in
    let room = stacks.room in
    let less : steps ≡ suc (steps - 1) = omega arith in
    let gap = spaces_white text s.at q sp in
    let last : White 0 text q (q + break_width text q) (Break (feed_at text q) ∷ []) = white_break q (q + break_width text q) [] some (no_white (q + break_width text q)) in
    let line = white_join 0 text s.at q (q + break_width text q) gap.pieces (Break (feed_at text q) ∷ []) gap.white last in
    let all = stacks.pieces ++ (gap.pieces ++ Break (feed_at text q) ∷ []) in
    let value : breaks_of all ≡ breaks_of stacks.pieces ++ break_value text q = breaks_join stacks.pieces (gap.pieces ++ Break (feed_at text q) ∷ []) ∙ rw (breaks_join gap.pieces (Break (feed_at text q) ∷ []), gap.none, feed_some text q some) (rw append-nil refl) in
    let (seat, first) = seat_behind text q (omega arith) (spaces_whole text s.at q sp stacks.seat.whole) (is_no_text (byte text q) (break_width text q) some) (line_start text (q + break_width text q)) (q + break_width text q) refl refl in
    let own : line_start text (q + break_width text q) ≡ q + break_width text q = break_line text q some in
    let step = line_here (λ ls. stacked_with folded stacks.done true s.blank (feed_at text s.end) (breaks_of stacks.pieces) chomp (texts_of ls)) steps c text s.at (q + break_width text q) (Empty (break_value text q)) (spot_there c text s.at q stacks.first at _ spot) in
    let stacked = block_same (λ ls. stacked_with folded stacks.done true s.blank (feed_at text s.end) (breaks_of stacks.pieces) chomp (texts_of (Empty (break_value text q) ∷ ls))) (λ ls. stacked_with folded stacks.done true s.blank (feed_at text s.end) (breaks_of all) chomp (texts_of ls)) (λ ls. rw value (sym (stacking.stack_empty folded stacks.done true s.blank (feed_at text s.end) (breaks_of stacks.pieces) (break_value text q) chomp ls))) (lines_from steps c text (q + break_width text q) (q + break_width text q)) in
    record {
      done = stacks.done;
      is = stacks.is;
      pieces = all;
      white = white_join 0 text s.empties s.at (q + break_width text q) stacks.pieces (gap.pieces ++ Break (feed_at text q) ∷ []) stacks.white line;
      seat = rw own at seat;
      first = first;
      steps = steps - 1;
      room = omega arith;
      rest = rw (← less) (stacks.rest ∙ step ∙ stacked);
    }
  where
    is_no_text : (b w : ℕ) → 0 < w → not (b == 0 || nat_lt 0 w) ≡ false
    is_no_text b w h = grind (arith, nat_tests)

    break_line : (text : List ℕ) (q : ℕ) → 0 < break_width text q → line_start text (q + break_width text q) ≡ q + break_width text q
    break_line text q h = sym (line_next text q (break_width text q) refl h)

blank_there : (text : List ℕ) (p q : ℕ) → p < q → q ≤ length text
    → starts_blank (slice_range text p q) ≡ is_blank (byte text p)
blank_there text p q l inside =
    let d : q - p ≡ suc (q - p - 1) = omega arith in
    rw (slice_bytes text p (q - p) (omega arith), d, bytes_more text p (q - p - 1)) refl

text_some : (text : List ℕ) (q : ℕ) → is_text text q ≡ true → 0 < byte text q
text_some text q h = (text_parts text q h).0

-- the text of a line, up to its break or the text's end
record IsText (text : List ℕ) (p q : ℕ) : Type 0 where
  after : p < q
  inside : q ≤ length text
  stop : is_text text q ≡ false
  unbroken : IsUnbroken text p q
  line : line_start text q ≡ line_start text p

text_of : (text : List ℕ) (p : ℕ) → 0 < byte text p → break_width text p ≡ 0
    → splits_break text p ≡ false → IsText text p (line_end text p)
text_of text p some none whole =
    let here = within text p some in
    let long = blocks.text_long text p (λ e. absurd (omega arith)) none in
    let gone = unbroken text p (line_end text p) (omega arith) whole (λ k a b. (text_parts text k (past_each is_text (length text) text p k a b)).1) in
    record {
      after = long;
      inside = past-inside is_text (length text) text p (text_some text) (omega arith);
      stop = past_stops is_text (length text) text p (text_some text) (omega arith);
      unbroken = gone;
      line = unbroken_line text p (line_end text p) (omega arith) gone;
    }

pub text_line : (text : List ℕ) (line p q : ℕ) → AtLine text line p → AreSpaces text p q
    → 0 < byte text q → break_width text q ≡ 0
    → line ≡ line_start text (line_end text q)
text_line text line p q seat sp some none =
    let t = text_of text q some none (spaces_whole text p q sp seat.whole) in
    seat.own ∙ sym (spaces_column text p q sp).1 ∙ sym t.line

-- a line with text
pub stacks_text : (folded : Bool) (chomp : Chomp) (c : ℕ) (text : List ℕ) (from : ℕ)
    (old mid new : List ℕ) (s : Stack) (q : ℕ)
    → Stacks folded chomp c text from old mid s → AreSpaces text s.at q → q ≡ s.at + spaces c text s.at
    → 0 < byte text q → break_width text q ≡ 0
    → spot_behind c text q ≡ Line (Words (slice_range text q (line_end text q)) (feed_at text (line_end text q))) (line_end text q + break_width text (line_end text q))
    → new ≡ (mid ++ between folded (not s.blank && not (is_blank (byte text q))) (feed_at text s.end) (feeds text s.empties s.at)) ++ slice_range text q (line_end text q)
    → Stacks folded chomp c text from old new (after_text text s q (line_end text q))
stacks_text folded chomp c text from old mid new s q stacks sp at some none spot e =
    let forward = sp.forward in
    let end = line_end text q in
    let next = end + break_width text end in
    let t = text_of text q some none (spaces_whole text s.at q sp stacks.seat.whole) in
    let long = t.after in
    let inside = within text q some in
    let steps = stacks.steps in
    let room = stacks.room in
    let less : steps ≡ suc (steps - 1) = omega arith in
    let words = slice_range text q end in
    let blank = blank_there text q end t.after t.inside in
    let feeds_are = feeds_white 0 text s.empties s.at stacks.pieces stacks.white in
    let glue = between folded (not s.blank && not (is_blank (byte text q))) (feed_at text s.end) (breaks_of stacks.pieces) in
    let (seat, first) = seat_behind text end t.inside t.unbroken.whole t.stop (line_start text next) next refl refl in
    let step = line_here (λ ls. stacked_with folded stacks.done true s.blank (feed_at text s.end) (breaks_of stacks.pieces) chomp (texts_of ls)) steps c text s.at next (Words words (feed_at text end)) (spot_there c text s.at q stacks.first at _ spot) in
    let stacked = block_same (λ ls. stacked_with folded stacks.done true s.blank (feed_at text s.end) (breaks_of stacks.pieces) chomp (texts_of (Words words (feed_at text end) ∷ ls))) (λ ls. stacked_with folded ((stacks.done ++ glue) ++ words) true (is_blank (byte text q)) (feed_at text end) [] chomp (texts_of ls)) (λ ls. sym (rw blank at (stacking.stack_line folded stacks.done s.blank (feed_at text s.end) (breaks_of stacks.pieces) words (feed_at text end) chomp ls))) (lines_from steps c text next next) in
    record {
      done = (stacks.done ++ glue) ++ words;
      is = e ∙ rw (feeds_are, stacks.is) (rw append_assoc (rw append_assoc (rw append_assoc refl)));
      pieces = [];
      white = no_white next;
      seat = seat;
      first = first;
      steps = steps - 1;
      room = omega arith;
      rest = rw (← less) (stacks.rest ∙ step ∙ stacked);
    }

-- ---- answers

pub stacks_stop : (folded : Bool) (chomp : Chomp) (c : ℕ) (text : List ℕ) (from : ℕ)
    (old mid new : List ℕ) (s : Stack) (q : ℕ)
    → Stacks folded chomp c text from old mid s → AreSpaces text s.at q → q ≡ s.at + spaces c text s.at → spot_behind c text q ≡ Stops q
    → new ≡ mid ++ at_end chomp (feed_at text s.end) (feeds text s.empties s.at)
    → ReadsBlock text old new (Ok (record { end = s.at; place = q; line = s.line })) (lines_at folded chomp c text from)
stacks_stop folded chomp c text from old mid new s q stacks sp at spot e =
    let stop = line_stop (λ ls. stacked_with folded stacks.done true s.blank (feed_at text s.end) (breaks_of stacks.pieces) chomp (texts_of ls)) stacks.steps c text s.at q (spot_there c text s.at q stacks.first at _ spot) in
    let feeds_are = feeds_white 0 text s.empties s.at stacks.pieces stacks.white in
    let done = stacking.stack_done folded s.blank stacks.done (feed_at text s.end) (breaks_of stacks.pieces) chomp in
    rw (stacks.rest ∙ stop) (record {
      value = e ∙ rw (feeds_are, stacks.is, ← done) (append_assoc old stacks.done (at_end chomp (feed_at text s.end) (breaks_of stacks.pieces)));
      end = refl;
      place = refl;
      seat = spaces_seat text s.line s.at q stacks.seat stacks.first sp;
    })

pub stacks_tab : (folded : Bool) (chomp : Chomp) (c : ℕ) (text : List ℕ) (from : ℕ)
    (old new : List ℕ) (s : Stack) (q : ℕ) (e : Refusal)
    → Stacks folded chomp c text from old new s → q ≡ s.at + spaces c text s.at → spot_behind c text q ≡ Tab q
    → Refuses e (in_block problems.TabForSpace q) → ReadsBlock text old new (Err e) (lines_at folded chomp c text from)
stacks_tab folded chomp c text from old new s q e stacks at spot h =
    let stop = line_tab (λ ls. stacked_with folded stacks.done true s.blank (feed_at text s.end) (breaks_of stacks.pieces) chomp (texts_of ls)) stacks.steps c text s.at q (spot_there c text s.at q stacks.first at _ spot) in
    rw (stacks.rest ∙ stop) h

-- the next line starts further on
pub empty_further : (text : List ℕ) (s t : Stack) (q : ℕ) → t ≡ after_empty text s q
    → AreSpaces text s.at q → 0 < break_width text q
    → (s.at < t.at) × (t.at ≤ length text)
empty_further text s t q e sp some =
    let forward = sp.forward in
    let inside = (past_break text q some).inside in
    rw e (omega arith, inside)

pub text_further : (text : List ℕ) (s t : Stack) (q : ℕ)
    → t ≡ after_text text s q (line_end text q) → AreSpaces text s.at q → 0 < byte text q
    → break_width text q ≡ 0
    → (s.at < t.at) × (t.at ≤ length text)
text_further text s t q e sp some none =
    let forward = sp.forward in
    let here = within text q some in
    let long = blocks.text_long text q (λ z. absurd (omega arith)) none in
    let inside = past-inside is_text (length text) text q (text_some text) (omega arith) in
    rw e (
      omega arith,
      elim (cases_lt 0 (break_width text (line_end text q))) [
        | inl w ↦ (past_break text (line_end text q) w).inside
        | inr z ↦ omega arith
      ],
    )

pub text_end : (text : List ℕ) (q end : ℕ) → end ≡ line_end text q → 0 < byte text q
    → (q ≤ end) × (end ≤ length text)
text_end text q end e some = let here = within text q some in rw e (past-le is_text (length text) text q, past-inside is_text (length text) text q (text_some text) (omega arith))

-- ---- the scalar

-- where the text ends no line is measured
end_stops : (c : ℕ) (text : List ℕ) (p : ℕ) → byte text p ≡ 0 → line_spot c text p ≡ Stops p
end_stops c text p z =
    let none : break_width text p ≡ 0 = no_break (byte text p) (byte text (p + 1)) (byte text (p + 2)) (omega arith) (omega arith) (omega arith) (omega arith) in
    let nothing = blocks.spaces_other (c - column_at text p) text p (λ e. absurd (omega arith)) in
    let at : p + 0 ≡ p = omega arith in
    rw (nothing, at) (blocks.end_spot c text p (no_tab_end (byte text p) _ z) none (blocks.stop_end (byte text p) (column_at text p) c z))
  where
    no_tab_end : (b : ℕ) (x : Bool) → b ≡ 0 → (b == 9 && x) ≡ false
    no_tab_end b x e = rw e refl

lines_end : (folded : Bool) (chomp : Chomp) (c d : ℕ) (text : List ℕ) (p : ℕ) → byte text p ≡ 0
    → lines_at folded chomp c text p ≡ lines_at folded chomp d text p
lines_end folded chomp c d text p z =
    line_stop (block_value folded chomp) (length text) c text p p (end_stops c text p z) ∙ sym (line_stop (block_value folded chomp) (length text) d text p p (end_stops d text p z))

lines_same : (folded : Bool) (chomp : Chomp) (c d : ℕ) (text : List ℕ) (p : ℕ)
    → (0 < byte text p → c ≡ d) → lines_at folded chomp c text p ≡ lines_at folded chomp d text p
lines_same folded chomp c d text p same = elim (cases_lt 0 (byte text p)) [
  | inl l ↦ rw (same l) refl
  | inr l ↦ lines_end folded chomp c d text p (omega arith)
]

whole_by : (level : ℕ) (text : List ℕ) (p c : ℕ) (h : Header) (x : HeaderText) (r : Result ℕ Wrong)
    → header_at text (p + 1) ≡ Ok x
    → ReadsHeader text (Ok h) (Ok x) → column_of level text h.digit h.at ≡ r → FindsColumn text h.at (Ok c) r
    → lines_at (byte text p == 62) h.chomp c text h.at ≡ block_at level text p
whole_by level text p c h x (Ok d) e is col same =
    let found = scalars.block_found level text p d x e (rw (is.digit, is.place) at col) in
    lines_same (byte text p == 62) h.chomp c d text h.at same ∙ rw (is.chomp, is.place) (sym found)
whole_by level text p c h x (Err w) e is col same = absurd same

pub block_whole : (level : ℕ) (text : List ℕ) (p c : ℕ) (h : Header) (x : Result HeaderText Wrong)
    → header_at text (p + 1) ≡ x
    → ReadsHeader text (Ok h) x → FindsColumn text h.at (Ok c) (column_of level text h.digit h.at)
    → lines_at (byte text p == 62) h.chomp c text h.at ≡ block_at level text p
block_whole level text p c h (Ok x) e is col = whole_by level text p c h x (column_of level text h.digit h.at) e is refl col
block_whole level text p c h (Err w) e is col = absurd is

indicator_some : (b : ℕ) → (b ≡ 124) ⊎ (b ≡ 62) → (0 < b)
indicator_some b (inl e) = omega arith
indicator_some b (inr e) = omega arith

-- after the indicator
pub indicator_parts : (text : List ℕ) (p line : ℕ) → (byte text p ≡ 124) ⊎ (byte text p ≡ 62)
    → splits_break text p ≡ false → line ≡ line_start text p
    → (break_width text p ≡ 0) × (p + 1 ≤ length text) × (splits_break text (p + 1) ≡ false) × (line ≡ line_start text (p + 1))
indicator_parts text p line is whole own =
    let none = scalars.indicator_no_break (byte text p) (byte text (p + 1)) (byte text (p + 2)) is in
    let inside = within text p (indicator_some (byte text p) is) in
    (none, omega arith, split_next text p whole none, own ∙ sym (line_on text p (end_next text p whole none)))
