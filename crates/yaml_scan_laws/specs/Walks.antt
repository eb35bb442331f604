-- What a walk over a text carries from lexeme to lexeme, with the tokens so far as a function of
-- those that follow.
use Rattle.std.specs.Prelude.{◌≡◌, ◌⊎◌, ◌<◌, ◌≤◌, ◌+◌, ◌==◌, ℕ, Bool, true, false, not, ◌&&◌, ◌||◌, nat_lt, List, [], ◌∷◌, ◌++◌, length, map, None}
use Rattle.yaml_scan_history.specs.scan_model.declared.record.yaml_mark_t.{yaml_mark_t}
use Rattle.yaml_scan_history.specs.scan_model.declared.name.yaml_encoding_t.{yaml_encoding_t}
use Rattle.yaml_scan_history.specs.scan_types.Marks.{line_at, column_at, mark_at}
use Rattle.yaml_scan_history.specs.scan_types.Tokens.{Token, TokenBody, stream_start, stream_end, block_end, key}
use Rattle.yaml_scan_history.specs.Written.{HasAt, are_gap, has_break}
use Rattle.yaml_scan_history.specs.declared.kind.Kind.{Kind}
use Rattle.yaml_scan_history.specs.declared.kind.Kind.TheVariants as kinds
use Rattle.yaml_scan_history.specs.declared.lexeme.Lexeme.{Lexeme}
use Rattle.yaml_scan_history.specs.declared.lexeme.Entry.{Entry}
use Rattle.yaml_scan_history.specs.declared.lexeme.Opens.{Opens}
use Rattle.yaml_scan_history.specs.declared.lexeme.Opens.TheVariants as opening
use Rattle.yaml_scan_history.specs.Kinds.{depth_after, may_be_key, allows_key, is_value, is_start, is_outside, is_end}
use Rattle.yaml_scan_history.specs.History.{candidate, is_fresh, margin_at, indent, opened, start_of, level_of}
use Rattle.yaml_scan_history.specs.Words.{WordText}
use Rattle.yaml_scan_history.specs.Remaining.{offline}
use Rattle.yaml_scan_laws.specs.TextFronts.{Rises, Idle, Holds, entry}
use Rattle.yaml_scan_laws.specs.Pushes.{IsRight, stays_level}
use Rattle.yaml_scan_laws.specs.Keys.{IsInKey}
use Rattle.yaml_scan_laws.specs.Tokens.{told, start_bodies}
use Rattle.yaml_scan_laws.specs.Steps.{Stands, Comes, WordLeaves, may_begin}

-- Where a walk is: its place, a line up to which candidates start, how many brackets are open, and
-- whether a key may begin now, or after a break.
pub record WalkState : Type 0 where
  pub at : ℕ
  pub line : ℕ
  pub depth : ℕ
  pub now : Bool
  pub broken : Bool

-- no candidate is at these depths
unfoldable pub Clear : List Lexeme → List ℕ → Type 0
Clear h [] = Unit {0}
Clear h (e ∷ es) = (candidate e h ≡ None) × Clear h es

-- what is at that depth leaves it so
unfoldable pub LeaveClear : Kind → ℕ → Bool → List ℕ → Type 0
LeaveClear k f a [] = Unit {0}
LeaveClear k f a (e ∷ es) = IsInKey k e f a × LeaveClear k f a es

-- these depths are outside of that one
unfoldable pub Outside : ℕ → List ℕ → Type 0
Outside f [] = Unit {0}
Outside f (e ∷ es) = (e < f) × Outside f es

-- What is deeper leaves them clear.
abbrev pub DeeperLeaves : Type 0
DeeperLeaves = (k : Kind) (f : ℕ) (a : Bool) (cs : List ℕ) → Outside f cs → LeaveClear k f a cs

-- A walk within the levels ls, beside which `more` are open, where no `:` is owed: what the lexemes
-- give, BLOCK-END for `more`, and then others, is what T makes of these. At the depths cs, those of
-- a `?` in brackets, there is no candidate.
pub record WalkReads (x : yaml_encoding_t) (text : List ℕ) (o : WalkState) (cs ls more : List ℕ)
    (T : List TokenBody → List TokenBody) : Type 0 where
  pub lexemes : List Lexeme
  pub entries : List Entry
  pub stands : Stands text o.at o.line lexemes o.depth (ls ++ more) entries o.now o.broken
  pub idle : Idle lexemes
  pub clear : Clear lexemes cs
  pub tells : (bs : List TokenBody)
      → told (record { encoding = x; text = text }) entries (length more) bs ≡ T bs

-- A walk within a key of that depth that starts there: T was given before it, its words give K.
pub record ReadsKey (x : yaml_encoding_t) (text : List ℕ) (o : WalkState) (d : ℕ)
    (start : yaml_mark_t) (cs ls : List ℕ)
    (T K : List TokenBody → List TokenBody) : Type 0 where
  pub lexemes : List Lexeme
  pub done : List Entry
  pub first : Lexeme
  pub closed : ℕ
  pub rest : List Entry
  pub stands : Stands text o.at o.line lexemes o.depth ls (done ++ entry first closed
      opening.Nothing ∷ rest) o.now
      o.broken
  pub holds : Holds lexemes d record { number = length done; lexeme = first }
  pub clear : Clear lexemes cs
  pub starts : first.start ≡ start
  pub deep : first.depth ≡ d
  pub before : (bs : List TokenBody)
      → told (record { encoding = x; text = text }) done closed bs ≡ T bs
  pub words : (bs : List TokenBody)
      → told (record { encoding = x; text = text }) (done ++ entry first closed opening.Nothing
      ∷ rest) 0 bs
      ≡ told (record { encoding = x; text = text }) done closed (K bs)

-- ---- levels

-- What is at a column leaves ls and closes `more`; in brackets there are no more.
abbrev pub ClosesAt : ℕ → ℕ → List ℕ → List ℕ → Type 0
ClosesAt d c ls more = ((nat_lt 0 d ≡ true) × (more ≡ []))
    ⊎ ((d ≡ 0) × (indent ls ≤ margin_at c) × Rises (margin_at c) more)

-- Levels beside others rise from these on, so that what is at the innermost one's column closes
-- them.
abbrev pub LevelsPart : Type 0
LevelsPart = (ls more : List ℕ) → Rises 0 (ls ++ more) → Rises 0 ls × Rises (indent ls) more

-- The innermost level is left to whoever opened the others: it owes a BLOCK-END.
abbrev pub WalkEnds : Type 0
WalkEnds = (x : yaml_encoding_t) (text : List ℕ) (o : WalkState) (m : ℕ) (cs ls more : List ℕ)
    (T : List TokenBody → List TokenBody) → WalkReads x text o cs (ls ++ m ∷ []) more T
    → WalkReads x text o cs ls (m ∷ more) (λ bs. T (block_end ∷ bs))

-- ---- steps

abbrev pub behind : List ℕ → ℕ → ℕ → ℕ → Bool → Bool → WalkState
behind text q e d then wide = record {
  at = e;
  line = line_at text q;
  depth = d;
  now = then;
  broken = wide;
}

abbrev pub WalkStarts : Type 0
WalkStarts = (x : yaml_encoding_t) (text : List ℕ)
    → WalkReads x text (record { at = 0; line = 0; depth = 0; now = true; broken = true }) [] [] []
    (λ bs. stream_start x ∷ bs)

abbrev pub WalkWhite : Type 0
WalkWhite = (x : yaml_encoding_t) (text : List ℕ) (o : WalkState) (cs ls more : List ℕ)
    (T : List TokenBody → List TokenBody)
    (white : List ℕ) → WalkReads x text o cs ls more T → HasAt text o.at white
    → are_gap white ≡ true
    → WalkReads x text (record {
      at = o.at + length white;
      line = o.line;
      depth = o.depth;
      now = o.now || (has_break white && o.broken);
      broken = o.broken;
    }) cs ls more T

-- A word in a line, a bracket, a comma or a `?` in brackets; a `:` on a later line than all
-- candidates.
abbrev pub WalkWord : Type 0
WalkWord = (x : yaml_encoding_t) (text : List ℕ) (o : WalkState) (cs ls : List ℕ)
    (T : List TokenBody → List TokenBody)
    (k : Kind) (gap : List ℕ) (w : WordText) (e : ℕ) (then wide : Bool)
    → WalkReads x text o cs ls [] T
    → LeaveClear k o.depth (may_begin o.now o.broken gap) cs
    → Comes text o.at o.depth (indent ls) k gap w e → stays_level k o.depth ≡ true
    → let q = o.at + length gap in
    IsRight o.depth ls (column_at text q) → (is_value k ≡ true → o.line < line_at text q)
    → WordLeaves text (depth_after k o.depth) (allows_key k (o.depth == 0) false) w e then wide
    → WalkReads x text (behind text q e (depth_after k o.depth) then wide) cs ls [] (λ bs. T (w.body
    ∷ bs))

-- A `-` or a `?` in a block, or a `:` there on a later line than all candidates. Which level opens,
-- if any, is said beside.
abbrev pub WalkMark : Type 0
WalkMark = (x : yaml_encoding_t) (text : List ℕ) (o : WalkState) (ls more new : List ℕ)
    (what : Opens)
    (T : List TokenBody → List TokenBody) (k : Kind) (gap : List ℕ) (w : WordText) (e : ℕ)
    (then wide : Bool)
    → WalkReads x text o [] ls more T → o.depth ≡ 0
    → Comes text o.at 0 (indent ls) k gap w e → is_start k ≡ true → let q = o.at + length gap in
    may_begin o.now o.broken gap ≡ true → ClosesAt 0 (column_at text q) ls more
    → (is_value k ≡ true → o.line < line_at text q) → let m = margin_at (column_at text q) in
    opened true m ls ≡ new → start_of 0 m ls (level_of k) ≡ what
    → WordLeaves text 0 (allows_key k true false) w e then wide
    → WalkReads x text (behind text q e 0 then wide) [] new [] (λ bs. T (start_bodies what (w.body
    ∷ bs)))

-- A document's mark or a directive.
abbrev pub WalkOuter : Type 0
WalkOuter = (x : yaml_encoding_t) (text : List ℕ) (o : WalkState) (more : List ℕ)
    (T : List TokenBody → List TokenBody)
    (k : Kind) (gap : List ℕ) (w : WordText) (e : ℕ) (then wide : Bool)
    → WalkReads x text o [] [] more T → o.depth ≡ 0
    → Comes text o.at 0 0 k gap w e → (is_outside k && not (is_end k)) ≡ true
    → let q = o.at + length gap in
    WordLeaves text 0 (allows_key k true false) w e then wide
    → WalkReads x text (behind text q e 0 then wide) [] [] [] (λ bs. T (w.body ∷ bs))

-- The tokens of a text, without fault.
pub record Done (x : yaml_encoding_t) (text : List ℕ) (bs : List TokenBody) : Type 0 where
  pub tokens : List Token
  pub read : offline (record { encoding = x; text = text }) ≡ record {
    tokens = tokens;
    fault =
        None;
  }
  pub same : map (λ (t : Token). t.body) tokens ≡ bs

abbrev pub WalkStops : Type 0
WalkStops = (x : yaml_encoding_t) (text : List ℕ) (o : WalkState) (more : List ℕ)
    (T : List TokenBody → List TokenBody)
    (gap : List ℕ) (w : WordText) (e : ℕ) → WalkReads x text o [] [] more T → o.depth ≡ 0
    → Comes text o.at 0 0 kinds.StreamEnd gap w e → Done x text (T (stream_end ∷ []))

-- ---- keys

-- The first word of a key.
abbrev pub WalkKeyStarts : Type 0
WalkKeyStarts = (x : yaml_encoding_t) (text : List ℕ) (o : WalkState) (cs ls more : List ℕ)
    (T : List TokenBody → List TokenBody)
    (k : Kind) (gap : List ℕ) (w : WordText) (e : ℕ) (then wide : Bool)
    → WalkReads x text o cs ls more T
    → LeaveClear k o.depth true cs
    → Comes text o.at o.depth (indent ls) k gap w e → may_be_key k ≡ true
    → let q = o.at + length gap in
    may_begin o.now o.broken gap ≡ true → ClosesAt o.depth (column_at text q) ls more
    → is_fresh (mark_at text q) (mark_at text w.reached) ≡ true
    → WordLeaves text (depth_after k o.depth) (allows_key k (o.depth == 0) false) w e then wide
    → ReadsKey x text (behind text q e (depth_after k o.depth) then wide) o.depth (mark_at text q)
    cs ls T
    (λ bs. w.body ∷ bs)

-- A further word of a key, which is near its start.
abbrev pub WalkKeyGoes : Type 0
WalkKeyGoes = (x : yaml_encoding_t) (text : List ℕ) (o : WalkState) (d : ℕ) (start : yaml_mark_t)
    (cs ls : List ℕ)
    (T K : List TokenBody → List TokenBody) (k : Kind) (gap : List ℕ) (w : WordText) (e : ℕ)
    (then wide : Bool)
    → ReadsKey x text o d start cs ls T K → LeaveClear k o.depth (may_begin o.now o.broken gap) cs
    → Comes text o.at o.depth (indent ls) k gap w e
    → (stays_level k o.depth && not (is_value k)) ≡ true
    → let q = o.at + length gap in
    IsRight o.depth ls (column_at text q) → IsInKey k d o.depth (may_begin o.now o.broken gap)
    → is_fresh start (mark_at text q) ≡ true → is_fresh start (mark_at text w.reached) ≡ true
    → WordLeaves text (depth_after k o.depth) (allows_key k (o.depth == 0) false) w e then wide
    → ReadsKey x text (behind text q e (depth_after k o.depth) then wide) d start cs ls T (λ bs. K
    (w.body ∷ bs))

-- The `:` of a key, which is near its start. Which level opens, if any, is said beside.
abbrev pub WalkKeyStops : Type 0
WalkKeyStops = (x : yaml_encoding_t) (text : List ℕ) (o : WalkState) (start : yaml_mark_t)
    (cs ls new : List ℕ) (what : Opens)
    (T K : List TokenBody → List TokenBody) (gap : List ℕ) (w : WordText) (e : ℕ) (then wide : Bool)
    → ReadsKey x text o o.depth start cs ls T K
    → LeaveClear kinds.ValueMark o.depth (may_begin o.now o.broken gap) cs
    → Comes text o.at o.depth (indent ls) kinds.ValueMark gap w e → let q = o.at + length gap in
    IsRight o.depth ls (column_at text q) → is_fresh start (mark_at text q) ≡ true
    → let m = margin_at start.column in
    opened (not (nat_lt 0 o.depth)) m ls ≡ new → start_of o.depth m ls opening.Mapping ≡ what
    → WordLeaves text o.depth false w e then wide
    → WalkReads x text (behind text q e o.depth then wide) cs new []
    (λ bs. T (start_bodies what (key ∷ K (w.body ∷ bs))))

-- ---- `?` in brackets

-- The `?` itself: after it no candidate is at its depth.
abbrev pub WalkAsks : Type 0
WalkAsks = (x : yaml_encoding_t) (text : List ℕ) (o : WalkState) (cs ls : List ℕ)
    (T : List TokenBody → List TokenBody)
    (gap : List ℕ) (w : WordText) (e : ℕ) (then wide : Bool) → WalkReads x text o cs ls [] T
    → LeaveClear kinds.KeyMark o.depth (may_begin o.now o.broken gap) cs → nat_lt 0 o.depth ≡ true
    → Comes text o.at o.depth (indent ls) kinds.KeyMark gap w e → let q = o.at + length gap in
    WordLeaves text o.depth false w e then wide
    → WalkReads x text (behind text q e o.depth then wide) (o.depth ∷ cs) ls [] (λ bs. T (w.body ∷
    bs))

-- Its `:`, on the same line or a later one.
abbrev pub WalkAnswers : Type 0
WalkAnswers = (x : yaml_encoding_t) (text : List ℕ) (o : WalkState) (cs ls : List ℕ)
    (T : List TokenBody → List TokenBody)
    (gap : List ℕ) (w : WordText) (e : ℕ) (then wide : Bool)
    → WalkReads x text o (o.depth ∷ cs) ls [] T
    → LeaveClear kinds.ValueMark o.depth (may_begin o.now o.broken gap) cs → nat_lt 0 o.depth ≡ true
    → Comes text o.at o.depth (indent ls) kinds.ValueMark gap w e → let q = o.at + length gap in
    WordLeaves text o.depth false w e then wide
    → WalkReads x text (behind text q e o.depth then wide) cs ls [] (λ bs. T (w.body ∷ bs))

-- ---- words of content and of keys

-- what a node's words are: content, or a key at that depth that started there
pub data RoleInWalk : Type 0 where
  Content : RoleInWalk
  Key : ℕ → yaml_mark_t → RoleInWalk

-- T was given before the node's words, K by them
abbrev pub Goes : RoleInWalk → yaml_encoding_t → List ℕ → WalkState → List ℕ → List ℕ
    → (List TokenBody → List TokenBody) → (List TokenBody → List TokenBody) → Type 0
Goes Content x text o cs ls T K = WalkReads x text o cs ls [] (λ bs. T (K bs))
Goes (Key d start) x text o cs ls T K = ReadsKey x text o d start cs ls T K

-- a further word may be there, with nothing that may be a key of its own, on the key's line and
-- near
abbrev pub MayGo : RoleInWalk → List ℕ → Kind → ℕ → Bool → ℕ → WordText → Type 0
MayGo Content text k f a q w = Unit {0}
MayGo (Key d start) text k f a q w = IsInKey k d f a
    × (is_fresh start (mark_at text q) ≡ true) × (is_fresh start (mark_at text w.reached) ≡ true)

-- A further word of a node, whichever it is.
abbrev pub WalkGoes : Type 0
WalkGoes = (r : RoleInWalk) (x : yaml_encoding_t) (text : List ℕ) (o : WalkState) (cs ls : List ℕ)
    (T K : List TokenBody → List TokenBody) (k : Kind) (gap : List ℕ) (w : WordText) (e : ℕ)
    (then wide : Bool) → Goes r x text o cs ls T K
    → LeaveClear k o.depth (may_begin o.now o.broken gap) cs
    → Comes text o.at o.depth (indent ls) k gap w e
    → (stays_level k o.depth && not (is_value k)) ≡ true
    → let q = o.at + length gap in
    IsRight o.depth ls (column_at text q)
    → MayGo r text k o.depth (may_begin o.now o.broken gap) q w
    → WordLeaves text (depth_after k o.depth) (allows_key k (o.depth == 0) false) w e then wide
    → Goes r x text (behind text q e (depth_after k o.depth) then wide) cs ls T (λ bs. K (w.body
    ∷ bs))

-- ---- the same walk in other words

-- Another spelling of the same tokens is a walk too, and depths may be forgotten.
pub record WalkSays : Type 0 where
  pub other : (x : yaml_encoding_t) (text : List ℕ) (o : WalkState) (cs ls more : List ℕ)
      (T U : List TokenBody → List TokenBody) → WalkReads x text o cs ls more T
      → ((bs : List TokenBody) → T bs ≡ U bs) → WalkReads x text o cs ls more U
  pub fewer : (x : yaml_encoding_t) (text : List ℕ) (o : WalkState) (c : ℕ) (cs ls more : List ℕ)
      (T : List TokenBody → List TokenBody) → WalkReads x text o (c ∷ cs) ls more T
      → WalkReads x text o cs ls more T
  pub key : (x : yaml_encoding_t) (text : List ℕ) (o : WalkState) (d : ℕ) (start : yaml_mark_t)
      (cs ls : List ℕ) (T K L : List TokenBody → List TokenBody)
      → ReadsKey x text o d start cs ls T K → ((bs : List TokenBody) → K bs ≡ L bs)
      → ReadsKey x text o d start cs ls T L
  pub white : (x : yaml_encoding_t) (text : List ℕ) (o : WalkState) (d : ℕ) (start : yaml_mark_t)
      (cs ls : List ℕ) (T K : List TokenBody → List TokenBody) (white : List ℕ)
      → ReadsKey x text o d start cs ls T K → HasAt text o.at white → are_gap white ≡ true
      → ReadsKey x text (record {
        at = o.at + length white;
        line = o.line;
        depth = o.depth;
        now = o.now || (has_break white && o.broken);
        broken = o.broken;
      }) d start cs ls T K
