-- Lexemes that carry nothing, by kind.
use Rattle.std.proofs.Common.{◌≡◌, ℕ, ◌+◌, ◌<◌, ◌≤◌, ◌⊎◌, ◌^◌, Bool, true, false, cond, ltb, ◌&&◌, ◌||◌, not, inl, inr, List, [], ◌∷◌, ◌++◌, length, Option, Some, None, Ok, Err, refl, sym, ap, subst, ◌∙◌, arith}
use Rattle.yaml_scan_core.proofs.Words.{cases_Bool, cases_lt, yaml_mark_t, mark_at, Kind, Lexeme, candidate, reached, flow_depth, open_levels, key_allowed, finished_tokens, entry_of, is_value, is_start, is_end, found_by, inside, left_by, opened, opens_at, cancels, may_be_key, WordText, lexeme_at, kind_at, Upto, Fails, missed, next, allowed_behind, SpelledText, body_in, required_in, AreKeys, AreKeysTo, KeyStack, depth_after, inner, key_at, stack_of, given_up}
use Rattle.yaml_scan_core.specs.Candidates.{cancelled_at, index_in}
use Rattle.yaml_scan_history.specs.Next.{begun, colon_missing}
use Rattle.yaml_scan_model.specs.scan_types.Tokens.{TokenBody}
use Rattle.yaml_scan_history.specs.History.{marked, opens_of}
use Rattle.yaml_scan_history.specs.Stepwise.{tested}
use Rattle.yaml_scan_history.specs.Remaining.{body_by, body_of_word}
use Rattle.yaml_scan_history.specs.declared.kind.Kind.TheVariants as reads
use Rattle.yaml_scan_history.specs.declared.lexeme.Opens.TheVariants as opening
use Rattle.yaml_scan_core.specs.declared.fault.Fault.{Fault}
use Rattle.yaml_scan_core.specs.declared.fault.Refused.{Refused}
use Rattle.yaml_scan_core.specs.declared.scanner.Scanner.{Scanner}
use Rattle.yaml_scan_laws.proofs.WordForward.{Tells, kind_told}
use Rattle.yaml_scan_model.specs.scan_types.Tokens as tokens
use Rattle.yaml_scan_core.specs.declared.row.Row.{Row}
use Rattle.yaml_scan_core.specs.declared.keys.Keys.{Keys}
use Rattle.yaml_scan_core.specs.declared.levels.Levels.{Levels}
use Rattle.yaml_scan_model.specs.declared.kind.Kind.{Kind as Token}
use Rattle.yaml_scan_core.specs.declared.lexeme.Lexeme.{Lexeme as Held}
use Rattle.yaml_scan_core.specs.Margins.{AreLevels}
use Rattle.yaml_scan_core.specs.Rows.{HasRoom, RowView, row_of, pushed, bare, is_set}
use Rattle.yaml_scan_core.specs.Shown.{Carries, ShowsRow, ShowsWhole, Store, store_of, opens_in, place_mark}
use Rattle.yaml_scan_core.specs.Scanning.{IsPlace, IsTold, Keeps, StandsAs, StandsAt, Takes, Tests, fixed_of, left_behind, read_by, stream_of}
use Rattle.yaml_scan_core.proofs.ReadLemmas.{gap_of, begun_at}
use Rattle.yaml_scan_core.proofs.ComesLemmas.{IsAt, here, read_at, is_wrong, lost_at, word_here, comes_word, comes_lost}
use Rattle.yaml_scan_core.proofs.StandLemmas.{cancelled_is, colon_told, fails_test, lost_in, lost_is, passes_test, takes_place}
use Rattle.yaml_scan_core.proofs.PlacesLemmas.{mark_of_place}
use Rattle.yaml_scan_core.proofs.ShownLemmas.{shown_pushed}
use Rattle.yaml_scan_core.proofs.CandidatesLemmas.{cancelled_turns, cond_zero, inner_is, lower, set_changes, upto_on}
use Rattle.yaml_scan_core.proofs.NextLemmas.{upto_later}
use Rattle.yaml_scan_core.proofs.TakesLemmas.{Leaves, keeps_pushed, takes}

-- ---- where a lexeme is, by the history

-- the place is the one after the gap
pub stands_here : (k : Kind) (s : Scanner) (h : List Lexeme) (n : ℕ) → StandsAs k s h n
    → here s.text.now h ≡ mark_at s.text.now s.at
stands_here k s h n a = ap (λ p. mark_at s.text.now p) (sym a.behind.gap)

pub stands_at : (k : Kind) (s : Scanner) (h : List Lexeme) (n : ℕ) → StandsAs k s h n
    → IsAt k s.text.now (read_by s) h
stands_at k s h n a = record {
  on = record { is = a.behind.is; some = a.behind.some; more = a.behind.more };
  early = ap (λ m. missed (candidate 0 h) m) (stands_here k s h n a) ∙ a.early;
  kind = ap (λ p. kind_at (ltb 0 (flow_depth h)) s.text.now p) (sym a.behind.gap) ∙ a.kind;
}

-- the lexeme of a kind that is read there, where it carries that
abbrev pub taken : Kind → WordText → Scanner → List Lexeme → Lexeme
taken k w s h = read_at k w s.text.now h

-- ---- what is lost

pub lost_there : (k : Kind) (b : Bool) (s : Scanner) (h : List Lexeme) (n : ℕ) → StandsAs k s h n
    → takes_place (begun_at s.text.now h k) ≡ b → lost_at k s.text.now h ≡ lost_in b h
lost_there k b s h n a e =
    lost_is s.text.now (read_by s) h (begun_at s.text.now h k) (here s.text.now h) b a.behind.is (stands_at k s h n a).early e

-- a test of what is lost passes
pub keeps_all : (k : Kind) (s : Scanner) (h : List Lexeme) (n : ℕ) (f : Option Fault)
    (u : Unit {0}) → StandsAs k s h n → takes_place (begun_at s.text.now h k) ≡ true
    → Tests (index_in (cancelled_at s.text.now (stack_of s.keys))) s.at f (Ok u)
    → lost_at k s.text.now h ≡ None
keeps_all k s h n f u a e t = lost_there k true s h n a e ∙ sym (cancelled_is s.text.now (stack_of s.keys) h (reached h) a.behind.holds.keys) ∙ passes_test (cancelled_at s.text.now (stack_of s.keys)) s.at f u t

required_lost : (h : List Lexeme) (start : yaml_mark_t) → lost_in true h ≡ Some start
    → required_in (candidate 0 h) ≡ Some start
required_lost h start e = elim (cases_Bool (ltb 0 (flow_depth h))) [ inl deep ↦ let bad = rw deep at e in cc | inr flat ↦ rw flat at e ]

-- or fails, and that is what comes
pub loses : (k : Kind) (s : Scanner) (h : List Lexeme) (n : ℕ) (f : Option Fault)
    (e : Refused) → StandsAs k s h n → takes_place (begun_at s.text.now h k) ≡ true
    → is_end k ≡ false → is_wrong k s.text.now h ≡ false
    → Tests (index_in (cancelled_at s.text.now (stack_of s.keys))) s.at f (Err e)
    → IsTold s.text.now f (next s.text.now h)
loses k s h n f e a place flat good t =
    let text = s.text.now in
    let keys = a.behind.holds.keys in
    let (start, some, is) = fails_test (cancelled_at text (stack_of s.keys)) s.at f e t in
    let lost : lost_at k text h ≡ Some start = lost_there k true s h n a place ∙ sym (cancelled_is text (stack_of s.keys) h (reached h) keys) ∙ some in
    let comes = comes_lost k text (read_by s) h start (stands_at k s h n a) good lost in
    let must : required_in (candidate 0 h) ≡ Some start = required_lost h start (sym (lost_there k true s h n a place) ∙ lost) in
    let told = colon_told text (read_by s) s.at start (subst (λ x. required_in (candidate 0 x) ≡ Some start) a.behind.is must) in
    let spot : (begun_at text h k).start ≡ place_mark text s.at = rw flat (stands_here k s h n a ∙ sym (mark_of_place text s.at a.behind.place.inside)) in
    rw is (comes ∙ ap (λ m. Fails (colon_missing start m)) spot ∙ ap (λ p. Fails p) (sym told))

-- ---- the row

pub entries_more : (l : Lexeme) (h : List Lexeme) → is_value l.kind ≡ false
    → finished_tokens (l ∷ h) ≡ finished_tokens h ++ entry_of l h ∷ []
unfolding finished_tokens
entries_more l h other = ap (λ b. cond b (marked (found_by l h) (inside l h) (finished_tokens h)) (finished_tokens h) ++ entry_of l h ∷ []) other

-- a lexeme more, which is no `:`
pub row_more : (t : SpelledText) (r : RowView) (x : Held) (l : Lexeme) (h : List Lexeme)
    → ShowsRow t r (finished_tokens h) → is_value l.kind ≡ false
    → ShowsWhole (store_of t.text r) t x (entry_of l h)
    → ShowsRow t (pushed x r) (finished_tokens (l ∷ h))
row_more t r x l h shows other new = subst (λ es. ShowsRow t (pushed x r) es) (sym (entries_more l h other)) (shown_pushed t r (finished_tokens h) x (entry_of l h) shows new)

-- what a lexeme that carries nothing shows
pub bare_shows : (t : SpelledText) (s : Store) (k : Token) (n p q f : ℕ) (l : Lexeme)
    (h : List Lexeme)
    → place_mark s.text p ≡ l.start → place_mark s.text q ≡ l.end
    → is_set 8 (bare k n p q f) ≡ false → is_set 4 (bare k n p q f) ≡ false
    → opens_in (bare k n p q f) ≡ opens_of (found_by l h) l (inside l h)
    → n + length (inside l h) ≡ length (open_levels h)
    → Carries s t (bare k n p q f) k (body_in t l)
    → ShowsWhole s t (bare k n p q f) (entry_of l h)
bare_shows t s k n p q f l h start end plain none opens ends body = record {
  shows = record {
    start = start;
    end = rw plain end;
    opens = opens;
    key = none;
    body = body;
  };
  ends = omega (arith, ends);
  front = refl;
}

-- ---- a lexeme that cancels its level's candidate

-- the lexeme of a kind that is read there and isn't the stream's end
abbrev pub put_at : Kind → WordText → List ℕ → List Lexeme → Lexeme
put_at k w text h = record (begun k (here text h) (allowed_behind h (gap_of text h)) h) {
  end = mark_at text w.end;
  reached = mark_at text w.reached;
  broke = w.broke;
}

pub taken_is : (k : Kind) (w : WordText) (text : List ℕ) (h : List Lexeme) → is_end k ≡ false
    → read_at k w text h ≡ put_at k w text h
taken_is k w text h flat = rw flat refl

-- what a lexeme of a kind does, that no other test is asked for than whether it takes the place of a required one
pub record IsKind (k : Kind) (start value cancel key : Bool) : Type 0 where
  pub flat : is_end k ≡ false
  pub starts : is_start k ≡ start
  pub colon : is_value k ≡ value
  pub ends : cancels k ≡ cancel
  pub keys : may_be_key k ≡ key

-- what a lexeme that cancels leaves of the keys
pub given_up_outer : (n : ℕ) (text : List ℕ) (s : KeyStack) (l : Lexeme) (h : List Lexeme)
    (p : yaml_mark_t) → AreKeysTo n text s h p → l.depth ≡ n → (given_up s).required ≡ true
    → (key_at (given_up s) 0 ≡ key_at s 0) × (candidate 0 (l ∷ h) ≡ candidate 0 h)
given_up_outer n text s l h p a at must =
    let same = inner_is n s a.long in
    elim (cases_lt 0 n) [
      | inr flat ↦ let bad = sym (cond_zero (inner s) false s.required (omega (arith, same, flat))) ∙ must in cc
      | inl some ↦
          let (c, there) = set_changes n (inner s) s (given_up s) (record (key_at s (inner s)) { possible = false }) same refl (omega (arith, a.long)) in
          (c.outer 0 some, lower 0 l h (omega (arith, at, some)))
    ]

-- the state before a lexeme that was read, except for the row and the keys
pub record Goes (k : Kind) (w : WordText) (old new : Scanner) (h : List Lexeme) : Type 0 where
  pub text : new.text.now ≡ old.text.now
  pub coding : new.encoding ≡ old.encoding
  pub row : ShowsRow (stream_of old) (row_of new.row)
      (finished_tokens (put_at k w old.text.now h ∷ h))
  pub room : HasRoom new.row
  pub dropped : new.row.dropped ≡ old.row.dropped
  pub settled : new.row.settled ≡ old.row.settled
  pub fault : new.fault ≡ old.fault
  pub over : new.ended ≡ old.ended
  pub place : IsPlace old.text.now new.at new.line new.wide
  pub at : new.at ≡ w.reached
  pub further : old.at ≤ new.at
  pub allowed : new.key_allowed ≡ key_allowed (put_at k w old.text.now h ∷ h)
  pub few : length new.levels.outer.items < 2 ^ 32
  pub margins : AreLevels new.levels (open_levels (put_at k w old.text.now h ∷ h))
  pub kept : Keeps old new (finished_tokens (put_at k w old.text.now h ∷ h))

pub goes_upto : (k : Kind) (w : WordText) (old new : Scanner) (h : List Lexeme) (n : ℕ)
    → StandsAs k old h n → Goes k w old new h → let l = put_at k w old.text.now h in
    (Upto (reached h) l.start) × (Upto l.start l.reached)
goes_upto k w old new h n a g =
    let text = old.text.now in (
      subst (λ m. Upto (reached h) m) (sym (stands_here k old h n a)) a.behind.further,
      subst (λ m. Upto m (mark_at text w.reached)) (sym (stands_here k old h n a)) (upto_later text old.at w.reached (omega (arith, g.further, g.at))),
    )

-- the keys aside, what it leaves
pub goes_leaves : (k : Kind) (w : WordText) (old new : Scanner) (h : List Lexeme) (n : ℕ)
    → StandsAs k old h n → Goes k w old new h → is_end k ≡ false
    → let l = put_at k w old.text.now h in
    AreKeys old.text.now (stack_of new.keys) (l ∷ h) l.reached
    → (new.keys.required ≡ true → ((key_at (stack_of new.keys) 0 ≡ key_at (stack_of old.keys) 0)
    × (candidate 0 (l ∷ h) ≡ candidate 0 h)) ⊎ (missed (candidate 0 (l ∷ h)) l.reached ≡ None))
    → new.keys.passed ≤ old.keys.passed → Leaves old new l h
goes_leaves k w old new h n a g flat keys outer passed =
    let (further, forward) = goes_upto k w old new h n a g in record {
      text = g.text;
      coding = g.coding;
      row = g.row;
      room = g.room;
      dropped = g.dropped;
      settled = g.settled;
      keys = keys;
      few = g.few;
      fault = g.fault;
      over = g.over ∙ a.behind.going ∙ sym flat;
      place = g.place;
      idle = λ e. (let bad = sym flat ∙ e in cc);
      mark = λ e. ap (λ p. mark_at old.text.now p) (sym g.at);
      allowed = λ e. g.allowed;
      margins = g.margins;
      outer = outer;
      passed = passed;
      further = further;
      forward = forward;
      kept = g.kept;
    }

-- a lexeme that is read, where no test refuses it
pub goes_takes : (k : Kind) (w : WordText) (old new : Scanner) (h : List Lexeme) (n : ℕ)
    → StandsAs k old h n → is_end k ≡ false → is_wrong k old.text.now h ≡ false
    → lost_at k old.text.now h ≡ None → word_here k old.text.now h ≡ Ok w
    → Leaves old new (put_at k w old.text.now h) h → Takes old new h
goes_takes k w old new h n a flat good lost word v =
    takes old new (put_at k w old.text.now h) h a.behind.holds v
    (comes_word k old.text.now (read_by old) h w (stands_at k old h n a) good lost word ∙ ap (λ l. tested l h) (taken_is k w old.text.now h flat))

-- a lexeme that cancels, and stays at its depth
pub cancelling_takes : (k : Kind) (w : WordText) (old new : Scanner) (h : List Lexeme) (n : ℕ)
    → StandsAs k old h n → cancels k ≡ true → may_be_key k ≡ false → is_end k ≡ false
    → depth_after k (flow_depth h) ≡ flow_depth h → is_wrong k old.text.now h ≡ false
    → lost_at k old.text.now h ≡ None → word_here k old.text.now h ≡ Ok w
    → Goes k w old new h → stack_of new.keys ≡ given_up (stack_of old.keys) → Takes old new h
cancelling_takes k w old new h n a stops idle flat deep good lost word g keys =
    let text = old.text.now in
    let l = put_at k w text h in
    let s = stack_of old.keys in
    let (further, forward) = goes_upto k w old new h n a g in
    let on : Upto (reached h) l.reached = upto_on (reached h) l.start l.reached further forward in
    let free : l.saved ≡ false = rw idle (grind arith) in
    let turned : AreKeysTo (flow_depth h) text (given_up s) (l ∷ h) l.reached = cancelled_turns (flow_depth h) text s l h (reached h) a.behind.holds.keys on refl free stops in
    let all : AreKeys text (given_up s) (l ∷ h) l.reached = subst (λ d. AreKeysTo d text (given_up s) (l ∷ h) l.reached) (sym deep) turned in
    goes_takes k w old new h n a flat good lost word (goes_leaves k w old new h n a g flat
    (subst (λ t. AreKeys text t (l ∷ h) l.reached) (sym keys) all)
    (λ must. inl (
    let now : (given_up s).required ≡ true = ap (λ (t : KeyStack). t.required) (sym keys) ∙ must in
    let (key, same) = given_up_outer (flow_depth h) text s l h (reached h) a.behind.holds.keys refl now in
    (ap (λ t. key_at t 0) keys ∙ key, same)))
    (omega (arith, ap (λ (t : KeyStack). t.passed) keys)))

-- ---- lexemes that carry nothing

-- a lexeme that opens no level may be there
pub not_wrong : (k : Kind) (text : List ℕ) (h : List Lexeme) → is_start k ≡ false
    → is_wrong k text h ≡ false
not_wrong k text h e = rw e (grind arith)

body_other : (k : Kind) (s : SpelledText) (l : Lexeme) → (k ≡ reads.StreamStart → ⊥)
    → body_by k s l ≡ body_of_word (lexeme_at k (ltb 0 l.depth) l.level s.text l.start.index)
body_other reads.StreamStart s l other = absurd (other refl)
body_other _ s l other = refl

-- what is read is what it carries
pub body_put : (k : Kind) (w : WordText) (s : SpelledText) (h : List Lexeme)
    → (k ≡ reads.StreamStart → ⊥) → word_here k s.text h ≡ Ok w → is_end k ≡ false
    → body_in s (put_at k w s.text h) ≡ w.body
body_put k w s h other e flat =
    let level : (begun_at s.text h k).level ≡ (put_at k w s.text h).level = rw flat refl in
    body_other k s (put_at k w s.text h) other ∙ ap (λ v. body_of_word (lexeme_at k (ltb 0 (flow_depth h)) v s.text (gap_of s.text h).place)) (sym level) ∙ ap body_of_word e

pub levels_plain : (l : Lexeme) (h : List Lexeme) → is_start l.kind ≡ false
    → open_levels (l ∷ h) ≡ inside l h
unfolding open_levels
levels_plain l h e = ap (λ b. opened (b && not (ltb 0 l.depth)) (opens_at (found_by l h) l.kind l.start.column) (inside l h)) e

-- the levels that it is after are those that were left open
pub inside_put : (k : Kind) (w : WordText) (s : Scanner) (h : List Lexeme) (n : ℕ)
    → StandsAs k s h n → inside (put_at k w s.text.now h) h ≡ left_behind k s h
inside_put k w s h n a = ap (λ (m : yaml_mark_t). left_by k (flow_depth h) m.column (open_levels h)) (stands_here k s h n a)

-- what stays of a scanner where a lexeme was put that carries nothing
pub record Puts (t : Token) (n width flags : ℕ) (old new : Scanner) : Type 0 where
  pub text : new.text.now ≡ old.text.now
  pub coding : new.encoding ≡ old.encoding
  pub row : row_of new.row ≡ pushed (bare t n old.at (old.at + width) flags) (row_of old.row)
  pub room : HasRoom new.row
  pub fault : new.fault ≡ old.fault
  pub over : new.ended ≡ old.ended
  pub at : new.at ≡ old.at + width
  pub line : new.line ≡ old.line
  pub wide : new.wide ≡ old.wide
  pub fixed : fixed_of new ≡ fixed_of old

-- the word of that many bytes that carries that
abbrev pub bare_word : TokenBody → ℕ → List ℕ → List Lexeme → WordText
bare_word b width text h = record {
  body = b;
  end = (gap_of text h).place + width;
  reached = (gap_of text h).place + width;
  broke = false;
}

-- what it shows
pub bare_entry : (k : Kind) (t : Token) (b : TokenBody) (width flags : ℕ) (s : Scanner) (o : Store)
    (h : List Lexeme) (n : ℕ) → StandsAs k s h n → is_end k ≡ false → (k ≡ reads.StreamStart → ⊥)
    → let w = bare_word b width s.text.now h in let l = put_at k w s.text.now h in
    let x = bare t n s.at (s.at + width) flags in
    word_here k s.text.now h ≡ Ok w → o.text ≡ s.text.now → s.at + width ≤ length s.text.now
    → is_set 8 x ≡ false → is_set 4 x ≡ false → opens_in x ≡ opens_of (found_by l h) l (inside l h)
    → Carries o (stream_of s) x t b → ShowsWhole o (stream_of s) x (entry_of l h)
bare_entry k t b width flags s o h n a flat other word text fits plain none opens carries =
    let w = bare_word b width s.text.now h in
    let l = put_at k w s.text.now h in
    let there = stands_here k s h n a in
    let end : mark_at s.text.now (s.at + width) ≡ mark_at s.text.now w.end = ap (λ p. mark_at s.text.now (p + width)) a.behind.gap in
    bare_shows (stream_of s) o t n s.at (s.at + width) flags l h
    (ap (λ x. place_mark x s.at) text ∙ mark_of_place s.text.now s.at a.behind.place.inside ∙ sym there)
    (ap (λ x. place_mark x (s.at + width)) text ∙ mark_of_place s.text.now (s.at + width) fits ∙ end)
    plain none opens
    (ap (λ (ls : List ℕ). n + length ls) (inside_put k w s h n a) ∙ a.ends)
    (subst (λ y. Carries o (stream_of s) (bare t n s.at (s.at + width) flags) t y) (sym (body_put k w (stream_of s) h other word flat)) carries)

-- a lexeme that opens no level
pub bare_goes : (k : Kind) (t : Token) (b : TokenBody) (width : ℕ) (old new : Scanner)
    (h : List Lexeme) (n : ℕ) → StandsAs k old h n → is_end k ≡ false
    → (k ≡ reads.StreamStart → ⊥) → is_value k ≡ false → is_start k ≡ false
    → let w = bare_word b width old.text.now h in
    word_here k old.text.now h ≡ Ok w
    → ((o : Store) → Carries o (stream_of old) (bare t n old.at (old.at + width) 0) t b)
    → Puts t n width 0 old new → new.levels ≡ old.levels
    → IsPlace old.text.now (old.at + width) old.line old.wide
    → new.key_allowed ≡ key_allowed (put_at k w old.text.now h ∷ h)
    → Goes k w old new h
bare_goes k t b width old new h n a flat other colon starts word carries p kept place allowed =
    let text = old.text.now in
    let w = bare_word b width text h in
    let l = put_at k w text h in
    let r = row_of old.row in
    let x = bare t n old.at (old.at + width) 0 in
    let o = store_of text r in
    let opens : opening.Nothing ≡ opens_of (found_by l h) l (inside l h) = rw starts refl in
    let shown = bare_entry k t b width 0 old o h n a flat other word refl place.inside refl refl opens (carries o) in
    let row = row_more (stream_of old) r x l h a.behind.holds.row colon shown in
    let same : open_levels (l ∷ h) ≡ left_behind k old h = levels_plain l h starts ∙ inside_put k w old h n a in
    record {
      text = p.text;
      coding = p.coding;
      row = subst (λ q. ShowsRow (stream_of old) q (finished_tokens (l ∷ h))) (sym p.row) row;
      room = p.room;
      dropped = ap (λ (q : RowView). q.dropped) p.row;
      settled = ap (λ (q : RowView). q.settled) p.row;
      fault = p.fault;
      over = p.over;
      place = rw (p.at, p.line, p.wide) place;
      at = p.at ∙ ap (λ q. q + width) a.behind.gap;
      further = omega (arith, p.at);
      allowed = allowed;
      few = rw kept a.behind.holds.few;
      margins = rw (kept, same) a.margins;
      kept = keeps_pushed old new (stream_of old) l h x a.behind.holds.row p.row shown.ends p.fixed;
    }

-- what is put by the code
pub puts_by : (t : Token) (n width flags : ℕ) (old mid : Scanner) (row : Row) (keys : Keys)
    (marg : Levels) (allowed : Bool) (x : Held) → mid ≡ old
    → x ≡ bare t n mid.at (mid.at + width) flags → row_of row ≡ pushed x (row_of mid.row)
    → HasRoom row
    → Puts t n width flags old (record mid {
      at = mid.at + width;
      key_allowed = allowed;
      keys = keys;
      levels = marg;
      row = row;
    })
puts_by t n width flags old mid row keys marg allowed x same is put room =
    let at : mid.at ≡ old.at = ap (λ (s : Scanner). s.at) same in
    record {
      text = ap (λ (s : Scanner). s.text.now) same;
      coding = ap (λ (s : Scanner). s.encoding) same;
      row = put ∙ ap (λ y. pushed y (row_of mid.row)) is ∙ ap (λ (s : Scanner). pushed (bare t n s.at (s.at + width) flags) (row_of s.row)) same;
      room = room;
      fault = ap (λ (s : Scanner). s.fault) same;
      over = ap (λ (s : Scanner). s.ended) same;
      at = ap (λ q. q + width) at;
      line = ap (λ (s : Scanner). s.line) same;
      wide = ap (λ (s : Scanner). s.wide) same;
      fixed = ap (λ (s : Scanner). fixed_of s) same;
    }

pub stands_told : (k : Kind) (s : Scanner) (h : List Lexeme) (n : ℕ) → StandsAs k s h n
    → Tells s.text.now s.at k
stands_told k s h n a = kind_told (ltb 0 (flow_depth h)) s.text.now s.at k a.kind

pub stands_at_told : (k : Kind) (s : Scanner) (h : List Lexeme) → StandsAt k s h
    → Tells s.text.now s.at k
stands_at_told k s h a = kind_told (ltb 0 (flow_depth h)) s.text.now s.at k a.kind

or_true : (b : Bool) → (b || true) ≡ true
or_true true = refl
or_true false = refl

-- a lexeme that cancels takes a required one's place
pub place_cancels : (k : Kind) (text : List ℕ) (h : List Lexeme) → cancels k ≡ true
    → is_value k ≡ false → takes_place (begun_at text h k) ≡ true
place_cancels k text h stops other = rw (stops, other) (or_true _)

-- ---- words

pub entry_word : (text : List ℕ) (h : List Lexeme)
    → word_here reads.FlowEntry text h ≡ Ok (bare_word tokens.flow_entry 1 text h)
unfolding lexeme_at
entry_word text h = refl
