-- Lexemes that carry a text.
use Rattle.std.proofs.Common.{◌≡◌, ℕ, ◌≤◌, Bool, false, ltb, List, [], ◌∷◌, ◌++◌, length, append-nil, Option, Some, None, Result, Ok, Err, refl, sym, ap, subst, ◌∙◌, arith}
use Rattle.yaml_scan_core.proofs.Words.{yaml_mark_t, mark_at, Wrong, indent, Kind, Lexeme, Entry, flow_depth, open_levels, finished_tokens, entry_of, is_value, is_start, is_end, key_allowed, left_by, WordText, lexeme_at, Fails, next, SpelledText, inner, stack_of}
use Rattle.yaml_scan_model.specs.Wrong.{scan_fault}
use Rattle.yaml_scan_history.specs.declared.kind.Kind.TheVariants as reads
use Rattle.yaml_scan_laws.proofs.WordForward.{LandsWord, IsWordFrom, kind_fits, word_lands, FitsAny, Fits}
use Rattle.yaml_scan_core.specs.declared.fault.Fault.{Fault}
use Rattle.yaml_scan_core.specs.declared.row.Row.{Row}
use Rattle.yaml_scan_core.specs.declared.keys.Keys.{Keys}
use Rattle.yaml_scan_core.specs.declared.lexeme.Lexeme.{Lexeme as Held}
use Rattle.yaml_scan_core.specs.declared.lexeme.Note.{Note}
use Rattle.yaml_scan_core.specs.declared.scanner.Scanner.{Scanner}
use Rattle.yaml_scan_core.specs.declared.word.Word.{Word}
use Rattle.yaml_scan_core.specs.Rows.{HasRoom, RowView, row_of, noted}
use Rattle.yaml_scan_core.specs.Shown.{Carries, ShowsRow, ShowsWhole, end_at, place_mark, store_of}
use Rattle.yaml_scan_core.specs.Scanning.{Falls, Holds, IsPlace, IsTold, StandsAs, fixed_of, left_behind, read_by, stream_of}
use Rattle.yaml_scan_core.specs.Texts.{HasWord, StoresMore, TellsWrong, lexeme_of, notes_of, put, word_in}
use Rattle.yaml_scan_core.proofs.CandidatesLemmas.{inner_is}
use Rattle.yaml_scan_core.proofs.ComesLemmas.{comes_wrong, is_wrong, lost_at, word_here}
use Rattle.yaml_scan_core.proofs.MarginsLemmas.{margin_is}
use Rattle.yaml_scan_core.proofs.ReadLemmas.{begun_at, gap_of}
use Rattle.yaml_scan_core.proofs.ShownLemmas.{shown_pushed, shown_stored, stored}
use Rattle.yaml_scan_core.proofs.PlacesLemmas.{mark_of_place}
use Rattle.yaml_scan_core.proofs.TakesLemmas.{falls_kept, keeps_put}
use Rattle.yaml_scan_core.proofs.KindsLemmas.{Goes, body_put, inside_put, levels_plain, put_at, stands_at, stands_here, entries_more}

-- ---- the text that is read

pub word_same : (k : Kind) (s : Scanner) (h : List Lexeme) (n : ℕ) → StandsAs k s h n
    → is_end k ≡ false → word_here k s.text.now h ≡ word_in k s
word_same k s h n a flat =
    let text = s.text.now in
    let deep : flow_depth h ≡ inner (stack_of s.keys) = sym (inner_is (flow_depth h) (stack_of s.keys) a.behind.holds.keys.long) in
    let one : (begun_at text h k).level ≡ indent (left_behind k s h) = rw flat (ap (λ (m : yaml_mark_t). indent (left_by k (flow_depth h) m.column (open_levels h))) (stands_here k s h n a)) in
    let level : (begun_at text h k).level ≡ s.levels.margin = one ∙ sym (margin_is s.levels (left_behind k s h) a.margins) in
    ap (λ v. lexeme_at k (ltb 0 (flow_depth h)) v text (gap_of text h).place) level
    ∙ ap (λ p. lexeme_at k (ltb 0 (flow_depth h)) s.levels.margin text p) (sym a.behind.gap)
    ∙ ap (λ d. lexeme_at k (ltb 0 d) s.levels.margin text s.at) deep

start_same : (k : Kind) (s : Scanner) (h : List Lexeme) (n : ℕ) → StandsAs k s h n
    → is_end k ≡ false → (begun_at s.text.now h k).start ≡ mark_at s.text.now s.at
start_same k s h n a flat = rw flat (stands_here k s h n a)

-- what is wrong with it comes
pub word_told : (k : Kind) (s : Scanner) (h : List Lexeme) (n : ℕ) (f : Option Fault)
    (r : Result WordText Wrong) → StandsAs k s h n → is_end k ≡ false
    → is_wrong k s.text.now h ≡ false → lost_at k s.text.now h ≡ None → word_in k s ≡ r
    → TellsWrong s.text.now s.at f r → IsTold s.text.now f (next s.text.now h)
word_told k s h n None r a flat good lost is t = tt
word_told k s h n (Some f) (Ok x) a flat good lost is t = absurd t
word_told k s h n (Some f) (Err w) a flat good lost is t =
    comes_wrong k s.text.now (read_by s) h w (stands_at k s h n a) good lost (word_same k s h n a flat ∙ is)
    ∙ ap (λ m. Fails (scan_fault s.text.now m w)) (start_same k s h n a flat) ∙ ap (λ p. Fails p) (sym t)

-- ---- the row

-- what is put after the arena changes nothing that is shown
pub arena_shown : (t : SpelledText) (r q : RowView) (es : List Entry) (bytes : List ℕ)
    → ShowsRow t r es → q ≡ record r { arena = r.arena ++ bytes } → ShowsRow t q es
arena_shown t r q es bytes h is =
    let same : q ≡ stored r [] bytes = is ∙ ap (λ ns. record r { notes = ns; arena = r.arena ++ bytes }) (sym (append-nil r.notes)) in
    subst (λ x. ShowsRow t x es) (sym same) (shown_stored t r es [] bytes h)

notes_shown : (t : SpelledText) (r : RowView) (es : List Entry) (ns : List Note)
    → ShowsRow t r es → ShowsRow t (record r { notes = r.notes ++ ns }) es
notes_shown t r es ns h =
    let same : stored r ns [] ≡ record r { notes = r.notes ++ ns } = ap (λ a. record r { notes = r.notes ++ ns; arena = a }) (append-nil r.arena) in
    subst (λ x. ShowsRow t x es) same (shown_stored t r es ns [] h)

-- a lexeme with a text more
pub word_row : (t : SpelledText) (r : RowView) (w : Word) (l : Lexeme) (h : List Lexeme)
    → ShowsRow t r (finished_tokens h) → is_value l.kind ≡ false
    → ShowsWhole (store_of t.text (put w r)) t (lexeme_of w (length r.notes)) (entry_of l h)
    → ShowsRow t (put w r) (finished_tokens (l ∷ h))
word_row t r w l h shows other new =
    subst (λ es. ShowsRow t (put w r) es) (sym (entries_more l h other))
    (shown_pushed t (record r { notes = r.notes ++ notes_of w }) (finished_tokens h) (lexeme_of w (length r.notes)) (entry_of l h) (notes_shown t r (finished_tokens h) (notes_of w) shows) new)

held_start : (o : Option Note) (n : ℕ) (x : Held)
    → (elim o as (λ _. Held) [ Some y ↦ noted n x | None ↦ x ]).start ≡ x.start
held_start None n x = refl
held_start (Some y) n x = refl

held_ends : (o : Option Note) (n : ℕ) (x : Held)
    → (elim o as (λ _. Held) [ Some y ↦ noted n x | None ↦ x ]).ends ≡ x.ends
held_ends None n x = refl
held_ends (Some y) n x = refl

-- what was read of the text that is there
pub record ReadThere (k : Kind) (old mid : Scanner) (h : List Lexeme) (n : ℕ) (w : Word) (x : WordText) : Type 0 where
  pub stands : StandsAs k old h n
  pub flat : is_end k ≡ false
  pub other : k ≡ reads.StreamStart → ⊥
  pub colon : is_value k ≡ false
  pub starts : is_start k ≡ false
  pub lost : lost_at k old.text.now h ≡ None
  pub stores : StoresMore old mid
  pub word : word_in k old ≡ Ok x
  pub has : HasWord n mid w x

pub there_text : (old mid : Scanner) → StoresMore old mid → mid.text.now ≡ old.text.now
there_text old mid s = ap (λ (x : Scanner). x.text.now) s.rest

pub there_stream : (old mid : Scanner) → StoresMore old mid → stream_of mid ≡ stream_of old
there_stream old mid s = ap (λ (x : Scanner). stream_of x) s.rest

-- the row shows it, once it is put
pub word_shows : (k : Kind) (old mid : Scanner) (h : List Lexeme) (n : ℕ) (w : Word) (x : WordText)
    → ReadThere k old mid h n w x
    → ShowsRow (stream_of old) (put w (row_of mid.row))
    (finished_tokens (put_at k x old.text.now h ∷ h))
word_shows k old mid h n w x r =
    let a = r.stands in
    let text = old.text.now in
    let l = put_at k x text h in
    let q = row_of mid.row in
    let y = lexeme_of w (length q.notes) in
    let same = there_text old mid r.stores in
    let stream = there_stream old mid r.stores in
    let before = arena_shown (stream_of old) (row_of old.row) q (finished_tokens h) r.stores.bytes a.behind.holds.row r.stores.row in
    let o = store_of text (put w q) in
    let start : place_mark text y.start ≡ l.start = ap (λ p. place_mark text p) (held_start w.note (length q.notes) w.lexeme ∙ r.has.start ∙ ap (λ (s : Scanner). s.at) r.stores.rest) ∙ mark_of_place text old.at a.behind.place.inside ∙ sym (stands_here k old h n a) in
    let fits : x.end ≤ length text = subst (λ (t : List ℕ). x.end ≤ length t) same r.has.inside in
    let shown : ShowsWhole o (stream_of old) y (entry_of l h) = record {
      shows = record {
        start = start;
        end = subst (λ (t : List ℕ). place_mark text (end_at (store_of t (put w q)) y) ≡ mark_at text x.end) same (ap (λ p. place_mark text p) r.has.end ∙ mark_of_place text x.end fits);
        opens = r.has.plain ∙ (rw r.starts refl);
        key = r.has.none;
        body = subst (λ b. Carries o (stream_of old) y y.kind b) (sym (body_put k x (stream_of old) h r.other (word_same k old h n a r.flat ∙ r.word) r.flat))
            (subst (λ (t : SpelledText). Carries (store_of t.text (put w q)) t y y.kind x.body) stream r.has.carries);
      };
      ends = held_ends w.note (length q.notes) w.lexeme ∙ r.has.ends ∙ omega (arith, a.ends, ap (λ (ls : List ℕ). length ls) (inside_put k x old h n a));
      front = r.has.front;
    } in
    word_row (stream_of old) q w l h before r.colon shown

-- the levels that end before it
word_ends : (k : Kind) (old mid : Scanner) (h : List Lexeme) (n : ℕ) (w : Word) (x : WordText)
    → ReadThere k old mid h n w x
    → (lexeme_of w (length mid.row.notes.items)).ends ≡ (entry_of (put_at k x old.text.now h) h).ends
word_ends k old mid h n w x r =
    held_ends w.note (length mid.row.notes.items) w.lexeme ∙ r.has.ends ∙ omega (arith, r.stands.ends, ap (λ (ls : List ℕ). length ls) (inside_put k x old h n r.stands))

-- it leads on
pub word_further : (k : Kind) (old mid : Scanner) (h : List Lexeme) (n : ℕ) (w : Word)
    (x : WordText)
    → ReadThere k old mid h n w x → old.at ≤ w.at
word_further k old mid h n w x r =
    let flow = ltb 0 (inner (stack_of old.keys)) in
    let deep : flow_depth h ≡ inner (stack_of old.keys) = sym (inner_is (flow_depth h) (stack_of old.keys) r.stands.behind.holds.keys.long) in
    let fits : Fits k old.text.now old.at = subst (λ (o : Option Kind). FitsAny o old.text.now old.at) r.stands.kind (kind_fits (ltb 0 (flow_depth h)) old.text.now old.at) in
    let lands : IsWordFrom old.text.now old.at x = subst (λ (y : Result WordText Wrong). LandsWord old.text.now old.at y) r.word (word_lands k flow old.levels.margin old.text.now old.at r.flat fits) in
    omega (arith, lands.end, lands.place, r.has.at)

-- the state after it
abbrev pub behind_word : Scanner → Word → Row → Keys → Bool → Scanner
behind_word mid w row keys allowed = record mid {
  row = row;
  keys = keys;
  key_allowed = allowed;
  at = w.at;
  line = w.line;
  wide = w.wide;
}

pub word_goes : (k : Kind) (old mid : Scanner) (h : List Lexeme) (n : ℕ) (w : Word) (x : WordText)
    (row : Row) (keys : Keys) (allowed : Bool) → ReadThere k old mid h n w x
    → mid.fault ≡ old.fault → row_of row ≡ put w (row_of mid.row) → HasRoom row
    → allowed ≡ key_allowed (put_at k x old.text.now h ∷ h)
    → Goes k x old (behind_word mid w row keys allowed) h
word_goes k old mid h n w x row keys allowed r calm is room allows =
    let a = r.stands in
    let l = put_at k x old.text.now h in
    let rest = r.stores.rest in
    let levels_same : mid.levels ≡ old.levels = ap (λ (s : Scanner). s.levels) rest in
    let same : open_levels (l ∷ h) ≡ left_behind k old h = levels_plain l h r.starts ∙ inside_put k x old h n a in
    let rows : row_of row ≡ put w (row_of mid.row) = is in
    record {
      text = there_text old mid r.stores;
      coding = ap (λ (s : Scanner). s.encoding) rest;
      row = subst (λ q. ShowsRow (stream_of old) q (finished_tokens (l ∷ h))) (sym is) (word_shows k old mid h n w x r);
      room = room;
      dropped = ap (λ (q : RowView). q.dropped) is ∙ ap (λ (q : RowView). q.dropped) r.stores.row;
      settled = ap (λ (q : RowView). q.settled) is ∙ ap (λ (q : RowView). q.settled) r.stores.row;
      fault = calm;
      over = ap (λ (s : Scanner). s.ended) rest;
      place = subst (λ t. IsPlace t w.at w.line w.wide) (there_text old mid r.stores) r.has.place;
      at = r.has.at;
      further = word_further k old mid h n w x r;
      allowed = allows;
      few = rw levels_same a.behind.holds.few;
      margins = rw (levels_same, same) a.margins;
      kept = keeps_put old (behind_word mid w row keys allowed) (stream_of old) l h old.row.lexemes.items (lexeme_of w (length mid.row.notes.items))
          a.behind.holds.row refl (λ lt. refl) (λ lt. refl)
          (ap (λ (q : RowView). q.lexemes) is ∙ ap (λ (q : RowView). q.lexemes ++ lexeme_of w (length mid.row.notes.items) ∷ []) r.stores.row)
          (ap (λ (q : RowView). q.next) is ∙ ap (λ (q : RowView). q.next) r.stores.row)
          (ap (λ (q : RowView). q.dropped) is ∙ ap (λ (q : RowView). q.dropped) r.stores.row)
          (ap (λ (q : RowView). q.settled) is ∙ ap (λ (q : RowView). q.settled) r.stores.row)
          (word_ends k old mid h n w x r) (ap (λ (s : Scanner). fixed_of s) rest);
    }

-- ---- exits

-- what falls where a text was stored
pub stored_falls : (old mid new : Scanner) (h : List Lexeme) → Holds old h → StoresMore old mid
    → new.text.now ≡ mid.text.now → new.encoding ≡ mid.encoding → stack_of new.keys ≡ stack_of mid.keys
    → row_of new.row ≡ row_of mid.row → HasRoom new.row
    → IsTold old.text.now new.fault (next old.text.now h) → fixed_of new ≡ fixed_of mid → Falls old new h
stored_falls old mid new h o s text coding keys row room told fixed =
    falls_kept old new h o (text ∙ there_text old mid s) (coding ∙ ap (λ (x : Scanner). x.encoding) s.rest)
    (arena_shown (stream_of old) (row_of old.row) (row_of new.row) (finished_tokens h) s.bytes o.row (row ∙ s.row)) room
    (ap (λ (q : RowView). q.dropped) row ∙ ap (λ (q : RowView). q.dropped) s.row) (ap (λ (q : RowView). q.settled) row ∙ ap (λ (q : RowView). q.settled) s.row)
    (keys ∙ ap (λ (x : Scanner). stack_of x.keys) s.rest) told
    (ap (λ (q : RowView). q.lexemes) row ∙ ap (λ (q : RowView). q.lexemes) s.row)
    (ap (λ (q : RowView). q.next) row ∙ ap (λ (q : RowView). q.next) s.row) (fixed ∙ ap (λ (x : Scanner). fixed_of x) s.rest)
