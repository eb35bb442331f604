-- Plain scalars of more than one line.
use Rattle.std.proofs.Common.{◌≡◌, ℕ, ◌+◌, ◌-◌, ◌<◌, ◌≤◌, max, Bool, true, false, List, [], ◌∷◌, ◌++◌, length, slice_range, Result, Ok, Err, refl, sym, ap, ◌∙◌, inl, inr, append_assoc, append-nil, arith}
use Rattle.yaml_scan_text.proofs.Words.{cases_Bool, cases_lt, byte, break_width, starts, spot_at, ends_at, spot_kept, spot_ends, Faulty, Wrong, PlainText, plain_at, Piece, Kept, Break, value, value-kept, blanks_of, bytes_at, feed_at, past_blanks, IsWord, InHead, IsHead, IsBadTab, IsPlainLine, ReadsPlain, coming, is_bad_colon, bad_colon, White, no_white, white_blank, white_break, feeds, fold_of, Refuses, IsMemory, Line, lines, rest_of, folded, blank_parts, not_ended, true≢false, false≢true, Keeps, within}
use Rattle.yaml_scan_text.specs.PlainRead.{LineGoesOn, EndsLine}
use Rattle.yaml_scan_text.specs.declared.plain.PlainLine.{PlainLine}
use Rattle.yaml_scan_text.specs.declared.plain.PlainScalar.{PlainScalar}
use Rattle.yaml_scan_text.specs.declared.fold.Head.{Head}
use Rattle.yaml_scan_text.specs.declared.refusal.Refusal.{Refusal}
use Rattle.yaml_scan_text.specs.declared.refusal.Refusal.TheVariants as refusals
use Rattle.yaml_scan_text.proofs.LinesLemmas.{row_of, blank_starts}
use Rattle.yaml_scan_text.proofs.WhiteLemmas.{white_join, white_le, has_break, breaks_of, fold_white}
use Rattle.yaml_scan_text.proofs.FoldsLemmas.{feeds_done, feeds_here}
use Rattle.yaml_scan_text.proofs.PlainLemmas.{AreBlanks, blanks_there, coming_white, coming_end, coming_wrong, plain_coming}
use Rattle.yaml_scan_text.proofs.PlainStops.{line_last}

-- ---- what the white between two lines reads as

feed_none : (text : List ℕ) (p : ℕ) → break_width text p ≡ 0 → feed_at text p ≡ []
feed_none text p z = rw z refl

-- the bytes that breaks append are those of the pieces
pub feeds_white : (level : ℕ) (text : List ℕ) (p q : ℕ) (ps : List Piece) → White level text p q ps
    → feeds text p q ≡ breaks_of ps
feeds_white level text p q ps (no_white s) = feeds_done text s s (omega arith)
feeds_white level text p q ps (white_blank s t rest b tab v) =
    let le = white_le level text (s + 1) q rest v in
    let z : break_width text s ≡ 0 = (blank_parts (byte text s) (byte text (s + 1)) (byte text (s + 2)) b).1 in
    let e : s + max (break_width text s) 1 ≡ s + 1 = omega arith in
    feeds_here text s q (omega arith) ∙ rw (feed_none text s z) (ap (λ k. feeds text k q) e ∙ feeds_white level text (s + 1) q rest v)
feeds_white level text p q ps (white_break s t rest b v) =
    let le = white_le level text (s + break_width text s) q rest v in
    let e : s + max (break_width text s) 1 ≡ s + break_width text s = omega arith in
    feeds_here text s q (omega arith) ∙ ap (λ x. feed_at text s ++ x) (ap (λ k. feeds text k q) e ∙ feeds_white level text (s + break_width text s) q rest v)

pub kept_rest : (c : List ℕ) (l : Line) (ls : List (List ℕ × Line))
    → ((rest_of (Kept c ∷ l) ls).breaks ≡ []) × ((rest_of (Kept c ∷ l) ls).value ≡ folded (Kept c ∷ l) ls)
kept_rest c l [] = (refl, refl)
kept_rest c l (next ∷ ls) = (refl, refl)

-- the white after a part: blanks, a break, and white
pub record IsGap (level : ℕ) (text : List ℕ) (p q : ℕ) : Type 0 where
  pub blanks : List ℕ
  pub pieces : List Piece
  pub white : White level text p q (blanks_of blanks ++ Break (feed_at text (past_blanks text p)) ∷ pieces)
  pub after : White level text (past_blanks text p + break_width text (past_blanks text p)) q pieces

pub gap_of : (flow : Bool) (level : ℕ) (text : List ℕ) (p : ℕ) (l : PlainLine) (h : Head)
    → IsPlainLine flow text p l
    → 0 < break_width text l.next → IsHead level text l.next h → IsGap level text l.end h.at
gap_of flow level text p l h is broke head =
    let bs : AreBlanks text l.end (past_blanks text l.end) = blanks_there text l.end (row_of text l.end is.seat) in
    let some : 0 < break_width text (past_blanks text l.end) = rw is.next at broke in
    let after : White level text (past_blanks text l.end + break_width text (past_blanks text l.end)) h.at head.pieces = rw is.next at head.white in
    let first = past_blanks text l.end in
    let bytes = bytes_at text l.end (first - l.end) in
    record {
      blanks = bytes;
      pieces = head.pieces;
      white = white_join level text l.end first h.at (blanks_of bytes) (Break (feed_at text first) ∷ head.pieces) (bs.white level) (white_break first h.at head.pieces some after);
      after = after;
    }

gap_value : (level : ℕ) (text : List ℕ) (p q : ℕ) (g : IsGap level text p q) (c : List ℕ)
    (ks : List Piece)
    → value ((blanks_of g.blanks ++ Break (feed_at text (past_blanks text p)) ∷ g.pieces) ++ Kept c ∷ ks)
    ≡ fold_of text p q ++ (c ++ value ks)
gap_value level text p q g c ks =
    let first = past_blanks text p in
    let (none, same) = kept_rest c (lines ks).first (lines ks).others in
    let fold = fold_white level text (first + break_width text first) q g.blanks (feed_at text first) g.pieces g.after (Kept c ∷ ks) none same in
    let feeds_are = feeds_white level text (first + break_width text first) q g.pieces g.after in
    rw append_assoc (fold ∙ rw (← feeds_are, value-kept [] c ks) refl)

-- ---- from one line to the next

pub join_step : (flow : Bool) (level : ℕ) (text : List ℕ) (p : ℕ) (l : PlainLine) (h : Head)
    → IsPlainLine flow text p l
    → 0 < break_width text l.next → IsHead level text l.next h → ends_at flow level text h.at ≡ false
    → is_bad_colon flow text h.at ≡ false → (done : List ℕ)
    → coming flow level text done l.end
    ≡ coming flow level text ((done ++ fold_of text l.end h.at) ++ byte text h.at ∷ []) (h.at + 1)
join_step flow level text p l h is broke head more fine done =
    let g = gap_of flow level text p l h is broke head in
    let spot = spot_kept flow level text h.at head.none head.blank more fine in
    coming_white flow level text l.end h.at (h.at + 1) (blanks_of g.blanks ++ Break (feed_at text (past_blanks text l.end)) ∷ g.pieces) g.white done (fold_of text l.end h.at) (byte text h.at ∷ []) (λ ks. gap_value level text l.end h.at g (byte text h.at ∷ []) ks) spot

breaks_there : (bs : List ℕ) (b : List ℕ) (ps : List Piece)
    → has_break (blanks_of bs ++ Break b ∷ ps) ≡ true
breaks_there [] b ps = refl
breaks_there (x ∷ bs) b ps = breaks_there bs b ps

pub join_end : (flow : Bool) (level : ℕ) (text : List ℕ) (p : ℕ) (l : PlainLine) (h : Head)
    → IsPlainLine flow text p l
    → 0 < break_width text l.next → IsHead level text l.next h → ends_at flow level text h.at ≡ true → (done : List ℕ)
    → coming flow level text done l.end ≡ Ok (record { value = done; end = l.end; place = h.at; broke = true })
join_end flow level text p l h is broke head ends done =
    let g = gap_of flow level text p l h is broke head in
    let spot = spot_ends flow level text h.at head.none head.blank ends in
    let b = feed_at text (past_blanks text l.end) in
    coming_end flow level text l.end h.at (blanks_of g.blanks ++ Break b ∷ g.pieces) g.white done spot ∙ rw (breaks_there g.blanks b g.pieces) refl

pub join_colon : (flow : Bool) (level : ℕ) (text : List ℕ) (p : ℕ) (l : PlainLine) (h : Head)
    → IsPlainLine flow text p l
    → 0 < break_width text l.next → IsHead level text l.next h → ends_at flow level text h.at ≡ false
    → is_bad_colon flow text h.at ≡ true → (done : List ℕ)
    → coming flow level text done l.end ≡ Err (bad_colon h.at)
join_colon flow level text p l h is broke head more bad done =
    let g = gap_of flow level text p l h is broke head in
    let spot : spot_at flow level text h.at ≡ Faulty (bad_colon h.at) = unfold spot_at in rw (head.none, head.blank, more, bad) refl in
    coming_wrong flow level text l.end h.at (blanks_of g.blanks ++ Break (feed_at text (past_blanks text l.end)) ∷ g.pieces) (bad_colon h.at) g.white done spot

pub join_tab : (flow : Bool) (level : ℕ) (text : List ℕ) (p : ℕ) (l : PlainLine) (w : Wrong)
    → IsPlainLine flow text p l
    → 0 < break_width text l.next → IsBadTab level text l.next w → (done : List ℕ)
    → coming flow level text done l.end ≡ Err w
join_tab flow level text p l w is broke bad done =
    let bs : AreBlanks text l.end l.next = rw is.next (blanks_there text l.end (row_of text l.end is.seat)) in
    let bytes = bytes_at text l.end (l.next - l.end) in
    let white = white_join level text l.end l.next w.place (blanks_of bytes) (Break (feed_at text l.next) ∷ bad.pieces) (bs.white level) (white_break l.next w.place bad.pieces broke bad.white) in
    coming_wrong flow level text l.end w.place (blanks_of bytes ++ Break (feed_at text l.next) ∷ bad.pieces) w white done (bad.spot flow)

-- ---- the loop over lines

-- Lines of the scalar are joined after what was there, up to a part that isn't, with a break and such white after it.
pub record Joins (flow : Bool) (level : ℕ) (text : List ℕ) (start : ℕ) (old new : List ℕ) (from : ℕ) (part : PlainLine) (h : Head) : Type 0 where
  pub done : List ℕ
  pub is : new ≡ old ++ done
  pub on : LineGoesOn flow level text from part h
  pub rest : plain_at flow level text start ≡ coming flow level text (done ++ slice_range text from part.end) part.end

pub line_first : (flow : Bool) (level : ℕ) (text : List ℕ) (p : ℕ) (l : PlainLine)
    → p < length text → IsPlainLine flow text p l
    → plain_at flow level text p ≡ coming flow level text (slice_range text p l.end) l.end
line_first flow level text p l inside is = plain_coming flow level text p inside ∙ is.goes level []

pub joins_first : (flow : Bool) (level : ℕ) (text : List ℕ) (start : ℕ) (old : List ℕ)
    (part : PlainLine) (h : Head)
    → start < length text → LineGoesOn flow level text start part h
    → Joins flow level text start old old start part h
joins_first flow level text start old part h inside on = record {
  done = [];
  is = sym (append-nil old);
  on = on;
  rest = line_first flow level text start part inside on.line;
}

-- what is after the white begins a line
pub head_word : (flow : Bool) (level : ℕ) (text : List ℕ) (p : ℕ) (h : Head) → IsHead level text p h
    → ends_at flow level text h.at ≡ false → IsWord text h.at
head_word flow level text p h head more =
    let some = not_ended flow level text h.at more in
    record { inside = within text h.at some; blank = head.blank; none = head.none; whole = head.head.whole; starts = head.head.starts }

-- what was there is kept
pub joins_keep : (flow : Bool) (level : ℕ) (text : List ℕ) (start : ℕ) (old new : List ℕ)
    (from : ℕ) (part : PlainLine) (h : Head)
    → Joins flow level text start old new from part h → Keeps old new
joins_keep flow level text start old new from part h joins = record { rest = joins.done; is = joins.is }

-- the next line's part, which isn't joined yet
pub record Reached (flow : Bool) (level : ℕ) (text : List ℕ) (start : ℕ) (old new : List ℕ) (from : ℕ) (part : PlainLine) (line : ℕ) : Type 0 where
  pub done : List ℕ
  pub is : new ≡ old ++ done
  pub own : IsPlainLine flow text from part
  pub head : InHead text line from
  pub rest : plain_at flow level text start ≡ coming flow level text (done ++ slice_range text from part.end) part.end

pub joins_reach : (flow : Bool) (level : ℕ) (text : List ℕ) (start : ℕ) (old mid new : List ℕ)
    (from : ℕ) (part next : PlainLine) (h : Head)
    → Joins flow level text start old mid from part h → is_bad_colon flow text h.at ≡ false
    → new ≡ mid ++ (slice_range text from part.end ++ fold_of text part.end h.at)
    → IsPlainLine flow text h.at next → Reached flow level text start old new h.at next h.line
joins_reach flow level text start old mid new from part next h joins fine e is =
    let on = joins.on in
    let front = joins.done ++ slice_range text from part.end in
    let step = join_step flow level text from part h on.line on.broke on.head on.more fine front in
    let goes = is.goes level (front ++ fold_of text part.end h.at) in
    record {
      done = front ++ fold_of text part.end h.at;
      is = e ∙ rw joins.is (rw append_assoc (rw append_assoc refl));
      own = is;
      head = on.head.head;
      rest = joins.rest ∙ step ∙ goes;
    }

pub reach_joins : (flow : Bool) (level : ℕ) (text : List ℕ) (start : ℕ) (old new : List ℕ)
    (from : ℕ) (part : PlainLine) (line : ℕ) (h : Head)
    → Reached flow level text start old new from part line → 0 < break_width text part.next → IsHead level text part.next h
    → ends_at flow level text h.at ≡ false → Joins flow level text start old new from part h
reach_joins flow level text start old new from part line h r broke head more = record {
  done = r.done;
  is = r.is;
  on = record { line = r.own; broke = broke; head = head; more = more };
  rest = r.rest;
}

-- ---- answers

head_starts : (text : List ℕ) (line p k : ℕ) → InHead text line p → line ≤ k → k < p
    → starts (byte text k) ≡ true
head_starts text line p k head a b = blank_starts (byte text k) (head.blanks k a b)

-- it ends after a break
pub answer_ended : (flow : Bool) (level : ℕ) (text : List ℕ) (start : ℕ) (old new last : List ℕ)
    (from : ℕ) (part : PlainLine) (line : ℕ) (h : Head)
    → Reached flow level text start old new from part line → 0 < break_width text part.next → IsHead level text part.next h
    → ends_at flow level text h.at ≡ true → last ≡ new ++ slice_range text from part.end → (s : PlainScalar)
    → s ≡ record { end = part.end; place = h.at; line = h.line; broke = true; wide = false; joined = true }
    → ReadsPlain text start old last (Ok s) (plain_at flow level text start)
answer_ended flow level text start old new last from part line h r broke head ends e s is =
    let front = r.done ++ slice_range text from part.end in
    let end = r.rest ∙ join_end flow level text from part h r.own broke head ends front in
    rw (end, is) (record {
      joined = λ j. e ∙ rw r.is (append_assoc old r.done (slice_range text from part.end));
      stands = λ j. absurd (true≢false j);
      end = refl;
      place = refl;
      broke = refl;
      inside = head.head.inside;
      whole = head.head.whole;
      line = head.head.own;
      wide = λ w k a b. head_starts text h.line h.at k head.head a b;
    })

-- it ends on its first line, after which there is a break
pub answer_first : (flow : Bool) (level : ℕ) (text : List ℕ) (start : ℕ) (old : List ℕ)
    (part : PlainLine) (h : Head)
    → start < length text → IsPlainLine flow text start part → 0 < break_width text part.next → IsHead level text part.next h
    → ends_at flow level text h.at ≡ true → (s : PlainScalar)
    → s ≡ record { end = part.end; place = h.at; line = h.line; broke = true; wide = false; joined = false }
    → ReadsPlain text start old old (Ok s) (plain_at flow level text start)
answer_first flow level text start old part h inside is broke head ends s e =
    let end = line_first flow level text start part inside is ∙ join_end flow level text start part h is broke head ends (slice_range text start part.end) in
    rw (end, e) (record {
      joined = λ j. absurd (false≢true j);
      stands = λ j. (refl, refl);
      end = refl;
      place = refl;
      broke = refl;
      inside = head.head.inside;
      whole = head.head.whole;
      line = head.head.own;
      wide = λ w k a b. head_starts text h.line h.at k head.head a b;
    })

-- a tab in the indentation is refused
pub answer_tab : (flow : Bool) (level : ℕ) (text : List ℕ) (start : ℕ) (old new : List ℕ)
    (from : ℕ) (part : PlainLine) (line : ℕ) (w : Wrong) (e : Refusal)
    → Reached flow level text start old new from part line → 0 < break_width text part.next → IsBadTab level text part.next w
    → Refuses e w → ReadsPlain text start old new (Err e) (plain_at flow level text start)
answer_tab flow level text start old new from part line w e r broke bad h =
    rw (r.rest ∙ join_tab flow level text from part w r.own broke bad (r.done ++ slice_range text from part.end)) h

pub answer_tab_first : (flow : Bool) (level : ℕ) (text : List ℕ) (start : ℕ) (old : List ℕ)
    (part : PlainLine) (w : Wrong) (e : Refusal)
    → start < length text → IsPlainLine flow text start part → 0 < break_width text part.next → IsBadTab level text part.next w
    → Refuses e w → ReadsPlain text start old old (Err e) (plain_at flow level text start)
answer_tab_first flow level text start old part w e inside is broke bad h =
    rw (line_first flow level text start part inside is ∙ join_tab flow level text start part w is broke bad (slice_range text start part.end)) h

-- so is a `:` before a bracket
pub answer_colon : (flow : Bool) (level : ℕ) (text : List ℕ) (start : ℕ) (old new : List ℕ)
    (from : ℕ) (part : PlainLine) (h : Head) (e : Refusal)
    → Joins flow level text start old new from part h → is_bad_colon flow text h.at ≡ true → Refuses e (bad_colon h.at)
    → ReadsPlain text start old new (Err e) (plain_at flow level text start)
answer_colon flow level text start old new from part h e joins bad r =
    let on = joins.on in
    rw (joins.rest ∙ join_colon flow level text from part h on.line on.broke on.head on.more bad (joins.done ++ slice_range text from part.end)) r

pub answer_memory : (text : List ℕ) (start : ℕ) (old new : List ℕ) (e : Refusal)
    (x : Result PlainText Wrong) → IsMemory e
    → ReadsPlain text start old new (Err e) x
answer_memory text start old new e (Ok x) h = h
answer_memory text start old new refusals.Memory (Err w) h = tt
answer_memory text start old new (refusals.Wrong told) (Err w) h = absurd h

-- it ends on a line after which there is no break
pub answer_last : (flow : Bool) (level : ℕ) (text : List ℕ) (start : ℕ) (old new last : List ℕ)
    (from : ℕ) (part : PlainLine) (line : ℕ)
    → Reached flow level text start old new from part line → break_width text part.next ≡ 0 → (r : Result PlainScalar Refusal)
    → EndsLine flow text from part line new last r → ReadsPlain text start old last r (plain_at flow level text start)
answer_last flow level text start old new last from part line r none (Ok s) (fine, e, is) =
    let front = r.done ++ slice_range text from part.end in
    let end : plain_at flow level text start ≡ Ok (record { value = front; end = part.end; place = part.next; broke = false }) = r.rest ∙ line_last flow level text front from part r.own none ∙ rw fine refl in
    rw (end, is) (record {
      joined = λ j. e ∙ rw r.is (append_assoc old r.done (slice_range text from part.end));
      stands = λ j. absurd (true≢false j);
      end = refl;
      place = refl;
      broke = refl;
      inside = r.own.inside;
      whole = r.own.whole;
      line = r.head.own ∙ sym r.own.line;
      wide = λ w k a b. elim (cases_lt k from) [ inl l ↦ head_starts text line from k r.head a l | inr l ↦ r.own.wide w k l b ];
    })
answer_last flow level text start old new last from part line r none (Err e) (bad, fine) = elim (cases_Bool (is_bad_colon flow text part.next)) [
  | inl b ↦
      let front = r.done ++ slice_range text from part.end in
      let end : plain_at flow level text start ≡ Err (bad_colon part.next) = r.rest ∙ line_last flow level text front from part r.own none ∙ rw b refl in
      rw end (bad b)
  | inr f ↦ answer_memory text start old last e (plain_at flow level text start) (fine f)
]

-- the next line starts further on
pub on_further : (flow : Bool) (level : ℕ) (text : List ℕ) (from : ℕ) (part : PlainLine) (h : Head)
    → LineGoesOn flow level text from part h
    → from < h.at
on_further flow level text from part h on =
    let le = white_le level text (part.next + break_width text part.next) h.at on.head.pieces on.head.white in
    let broke = on.broke in
    let after = on.line.after in
    let order = on.line.order in
    omega arith
