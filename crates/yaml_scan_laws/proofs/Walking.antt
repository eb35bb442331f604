-- A walk goes on, lexeme by lexeme.
use Rattle.std.proofs.Common.{◌≡◌, ℕ, ◌+◌, ◌==◌, ◌&&◌, ◌||◌, not, nat_lt, Bool, true, false, List, [], ◌∷◌, ◌++◌, length, flat_map, None, refl, sym, ap, subst, ◌∙◌, inl, inr, arith, append_assoc}
use Rattle.yaml_scan_laws.proofs.LevelWords.{nat_tests, append-nil, and_parts, and-false, yaml_mark_t, line_at, column_at, mark_at, TokenBody, stream_end, key, Kind, Lexeme, Entry, Opens, depth_after, allows_key, is_value, flow_depth, Candidate, candidate, is_fresh, margin_at, indent, opened, start_of, level_of, WordText, first_lexeme, SpelledText, spell, Rises, LeavesLevels, Meets, Says, entry, read_at, IsRight, IsLone, stays_level, told, start_bodies, Stands, Comes, WordLeaves, may_begin, end_at, WalkSays, Content, Key, WalkGoes, WalkState, Clear, LeaveClear, Outside, DeeperLeaves, WalkReads, ClosesAt, LevelsPart, WalkEnds, WalkStarts, WalkWhite, WalkWord, WalkMark, WalkOuter, WalkStops, WalkKeyStarts, WalkKeyGoes, WalkKeyStops, WalkAsks, WalkAnswers}
use Rattle.yaml_scan_history.specs.scan_model.declared.name.yaml_encoding_t.{yaml_encoding_t}
use Rattle.yaml_scan_history.specs.declared.kind.Kind.TheVariants as kinds
use Rattle.yaml_scan_history.specs.declared.lexeme.Opens.TheVariants as opening
use Rattle.yaml_scan_laws.specs.Walks.{behind}
use Rattle.yaml_scan_laws.proofs.Pushing.{rises_front, left_closes, inside_leaves}
use Rattle.yaml_scan_laws.proofs.Ending.{word_tells, level_tells, key_tells, start_stands, end_is_read}
use Rattle.yaml_scan_laws.proofs.Slotting.{later_is_lone, none_is_lone, slots_go_on}
use Rattle.yaml_scan_laws.proofs.Stepping.{start_steps, white_steps, word_steps, mark_steps, outer_steps, key_starts, key_steps, key_stops}

-- ---- depths without candidates

pub deeper_leaves : DeeperLeaves
unfolding LeaveClear Outside
deeper_leaves k f a [] o = tt
deeper_leaves k f a (e ∷ es) (less, o) = (inr less, deeper_leaves k f a es o)

still_clear : (text : List ℕ) (h : List Lexeme) (f : ℕ) (k : Kind) (q : ℕ) (a : Bool) (w : WordText)
    (cs : List ℕ) → flow_depth h ≡ f → Clear h cs → LeaveClear k f a cs
    → Clear (read_at text h k q a w ∷ h) cs
unfolding Clear LeaveClear
still_clear text h f k q a w [] deep c l = tt
still_clear text h f k q a w (e ∷ es) deep (none, c) (is, l) = (slots_go_on.stays text h e f k q a w deep is ∙ none, still_clear text h f k q a w es deep c l)

none_clear : (h : List Lexeme) → Clear h []
unfolding Clear
none_clear h = tt

clear_more : (h : List Lexeme) (e : ℕ) (es : List ℕ) → candidate e h ≡ None → Clear h es
    → Clear h (e ∷ es)
unfolding Clear
clear_more h e es none c = (none, c)

clear_first : (h : List Lexeme) (e : ℕ) (es : List ℕ) → Clear h (e ∷ es)
    → (candidate e h ≡ None) × Clear h es
unfolding Clear
clear_first h e es (none, c) = (none, c)

-- ---- levels

rises_last : (b c : ℕ) (ls more : List ℕ) → Rises b (c ∷ (ls ++ more))
    → Rises (indent (c ∷ ls)) more
unfolding Rises indent
rises_last b c [] more (e, r) = r
rises_last b c (d ∷ ls) more (e, r) = rises_last c d ls more r

pub levels_part : LevelsPart
unfolding indent
levels_part [] more r = (rises_front 0 [] more r, r)
levels_part (c ∷ ls) more r = (rises_front 0 (c ∷ ls) more r, rises_last 0 c ls more r)

leaves_of : (d c : ℕ) (ls more : List ℕ) → Rises 0 (ls ++ more) → ClosesAt d c ls more
    → LeavesLevels d c (ls ++ more) ls (length more)
leaves_of d c ls more r h5 = grind (arith, nat_tests, append-nil, inside_leaves, rises_front, left_closes)

-- ---- what is equal may replace it

abbrev text_in : yaml_encoding_t → List ℕ → SpelledText
text_in x text = record { encoding = x; text = text }

levels_same : (text : List ℕ) (p i : ℕ) (h : List Lexeme) (d : ℕ) (ms ns : List ℕ) (es : List Entry)
    (now broken : Bool) → Stands text p i h d ms es now broken → ms ≡ ns
    → Stands text p i h d ns es now broken
levels_same text p i h d ms ns es now broken s e = let P : List ℕ → Type 0 = λ xs. Stands text p i h d xs es now broken in subst P e s

depth_same : (text : List ℕ) (p i : ℕ) (h : List Lexeme) (d f : ℕ) (ms : List ℕ) (es : List Entry)
    (now broken : Bool) → Stands text p i h d ms es now broken → d ≡ f
    → Stands text p i h f ms es now broken
depth_same text p i h d f ms es now broken s e = let P : ℕ → Type 0 = λ n. Stands text p i h n ms es now broken in subst P e s

entries_same : (text : List ℕ) (p i : ℕ) (h : List Lexeme) (d : ℕ) (ms : List ℕ)
    (es fs : List Entry) (now broken : Bool) → Stands text p i h d ms es now broken → es ≡ fs
    → Stands text p i h d ms fs now broken
entries_same text p i h d ms es fs now broken s e = let P : List Entry → Type 0 = λ xs. Stands text p i h d ms xs now broken in subst P e s

-- no more levels
exact : (text : List ℕ) (p i : ℕ) (h : List Lexeme) (d : ℕ) (ls : List ℕ) (es : List Entry)
    (now broken : Bool) → Stands text p i h d (ls ++ []) es now broken
    → Stands text p i h d ls es now broken
exact text p i h d ls es now broken s = levels_same text p i h d (ls ++ []) ls es now broken s (append-nil ls)

loose : (text : List ℕ) (p i : ℕ) (h : List Lexeme) (d : ℕ) (ls : List ℕ) (es : List Entry)
    (now broken : Bool) → Stands text p i h d ls es now broken
    → Stands text p i h d (ls ++ []) es now broken
loose text p i h d ls es now broken s = levels_same text p i h d ls (ls ++ []) es now broken s (sym (append-nil ls))

-- one lexeme more is given
more_told : (x : yaml_encoding_t) (text : List ℕ) (es : List Entry) (l : Lexeme) (w : WordText)
    (n : ℕ) (what : Opens) (T : List TokenBody → List TokenBody) → Says text l w
    → ((bs : List TokenBody) → told (text_in x text) es n bs ≡ T bs)
    → (bs : List TokenBody)
    → told (text_in x text) (es ++ entry l n what ∷ []) 0 bs ≡ T (start_bodies what (w.body ∷ bs))
more_told x text es l w n what T says tells bs = grind (arith, nat_tests, word_tells)

pub walk_ends : WalkEnds
walk_ends x text o m cs ls more T r = grind (arith, nat_tests, levels_same, append_assoc, level_tells)

-- ---- steps

pub walk_starts : WalkStarts
walk_starts x text =
    let (stands, idle) = start_steps text in
    record { lexemes = first_lexeme ∷ []; entries = entry first_lexeme 0 opening.Nothing ∷ []; stands = stands; idle = idle; clear = none_clear (first_lexeme ∷ []); tells = λ bs. (start_stands text).told x bs }

pub walk_white : WalkWhite
walk_white x text o cs ls more T white r at blank = record {
  lexemes = r.lexemes;
  entries = r.entries;
  stands = white_steps text o.at o.line r.lexemes o.depth (ls ++ more) r.entries o.now o.broken white r.stands at blank;
  idle = r.idle;
  clear = r.clear;
  tells = r.tells;
}

word_on : (x : yaml_encoding_t) (text : List ℕ) (o : WalkState) (cs ds ls : List ℕ)
    (T : List TokenBody → List TokenBody) (k : Kind) (gap : List ℕ) (w : WordText) (e : ℕ)
    (then wide : Bool) (r : WalkReads x text o cs ls [] T) → let q = o.at + length gap in
    Clear (read_at text r.lexemes k q (may_begin o.now o.broken gap) w ∷ r.lexemes) ds
    → Comes text o.at o.depth (indent ls) k gap w e → stays_level k o.depth ≡ true → let q = o.at + length gap in
    IsRight o.depth ls (column_at text q) → IsLone text r.lexemes o.depth k q
    → WordLeaves text (depth_after k o.depth) (allows_key k (o.depth == 0) false) w e then wide
    → WalkReads x text (behind text q e (depth_after k o.depth) then wide) ds ls [] (λ bs. T (w.body ∷ bs))
word_on x text o cs ds ls T k gap w e then wide r clear c stays right lone leaves =
    let q = o.at + length gap in
    let l = read_at text r.lexemes k q (may_begin o.now o.broken gap) w in
    let es = r.entries ++ entry l 0 opening.Nothing ∷ [] in
    let (s, idle) = word_steps text o.at o.line r.lexemes o.depth ls r.entries o.now o.broken k gap w e then wide (exact text o.at o.line r.lexemes o.depth ls r.entries o.now o.broken r.stands) r.idle c stays right lone leaves in
    record {
      lexemes = l ∷ r.lexemes;
      entries = es;
      stands = loose text e (line_at text q) (l ∷ r.lexemes) (depth_after k o.depth) ls es then wide s.stands;
      idle = idle;
      clear = clear;
      tells = more_told x text r.entries l w 0 opening.Nothing T s.body r.tells;
    }

pub walk_word : WalkWord
walk_word x text o cs ls T k gap w e then wide r leave c stays right later leaves =
    let q = o.at + length gap in
    word_on x text o cs cs ls T k gap w e then wide r (still_clear text r.lexemes o.depth k q (may_begin o.now o.broken gap) w cs r.stands.front.depth r.clear leave) c stays right
    (λ v. later_is_lone text r.lexemes o.depth q o.line r.stands.started (later v)) leaves

pub walk_mark : WalkMark
walk_mark x text o ls more new what T k gap w e then wide r flat c start may closes later new_is what_is leaves =
    let q = o.at + length gap in
    let l = read_at text r.lexemes k q true w in
    let m = margin_at (column_at text q) in
    let n = length more in
    let opens = start_of 0 m ls (level_of k) in
    let es = r.entries ++ entry l n opens ∷ [] in
    let s = depth_same text o.at o.line r.lexemes o.depth 0 (ls ++ more) r.entries o.now o.broken r.stands flat in
    let (t, idle) = mark_steps text o.at o.line r.lexemes (ls ++ more) ls n r.entries o.now o.broken k gap w e then wide s r.idle c start may (leaves_of 0 (column_at text q) ls more s.front.rises closes)
    (λ v. later_is_lone text r.lexemes 0 q o.line r.stands.started (later v)) leaves in
    record {
      lexemes = l ∷ r.lexemes;
      entries = es;
      stands = levels_same text e (line_at text q) (l ∷ r.lexemes) 0 (opened true m ls) (new ++ []) es then wide t.stands (new_is ∙ sym (append-nil new));
      idle = idle;
      clear = none_clear (l ∷ r.lexemes);
      tells = λ bs. more_told x text r.entries l w n opens T t.body r.tells bs ∙ ap (λ (y : Opens). T (start_bodies y (w.body ∷ bs))) what_is;
    }

pub walk_outer : WalkOuter
walk_outer x text o more T k gap w e then wide r flat c outer leaves =
    let l = read_at text r.lexemes k (o.at + length gap) (may_begin o.now o.broken gap) w in
    let n = length more in
    let s = depth_same text o.at o.line r.lexemes o.depth 0 more r.entries o.now o.broken r.stands flat in
    let (t, idle) = outer_steps text o.at o.line r.lexemes more r.entries o.now o.broken k gap w e then wide s r.idle c outer leaves in
    record {
      lexemes = l ∷ r.lexemes;
      entries = r.entries ++ entry l n opening.Nothing ∷ [];
      stands = t.stands;
      idle = idle;
      clear = none_clear (l ∷ r.lexemes);
      tells = more_told x text r.entries l w n opening.Nothing T t.body r.tells;
    }

pub walk_stops : WalkStops
walk_stops x text o more T gap w e r flat c =
    let q = o.at + length gap in
    let a = may_begin o.now o.broken gap in
    let h = r.lexemes in
    let es = r.entries ++ entry (end_at text h q a) (length more) opening.Nothing ∷ [] in
    let s = depth_same text o.at o.line h o.depth 0 more r.entries o.now o.broken r.stands flat in
    let meets : Meets text h 0 0 kinds.StreamEnd q a w = record { place = s.white.place gap c.behind; allowed = s.white.allowed gap c.behind; kind = c.kind; word = c.word } in
    let (tells, last) = end_is_read x text h more r.entries q a w s.front r.idle meets in
    record { tokens = flat_map (spell (text_in x text)) es; read = tells.read; same = tells.bodies ∙ last ∙ r.tells (stream_end ∷ []) }

-- ---- keys

pub walk_key_starts : WalkKeyStarts
walk_key_starts x text o cs ls more T k gap w e then wide r leave c may allowed closes near leaves =
    let q = o.at + length gap in
    let l = read_at text r.lexemes k q true w in
    let n = length more in
    let (s, holds) = key_starts text o.at o.line r.lexemes o.depth (ls ++ more) ls n r.entries o.now o.broken k gap w e then wide r.stands r.idle c may allowed
    (leaves_of o.depth (column_at text q) ls more r.stands.front.rises closes) near leaves in
    let I : List TokenBody → List TokenBody = λ bs. told (text_in x text) r.entries n bs in
    record {
      lexemes = l ∷ r.lexemes;
      done = r.entries;
      first = l;
      closed = n;
      rest = [];
      stands = s.stands;
      holds = holds;
      clear = still_clear text r.lexemes o.depth k q true w cs r.stands.front.depth r.clear leave;
      starts = refl;
      deep = r.stands.front.depth;
      before = r.tells;
      words = more_told x text r.entries l w n opening.Nothing I s.body (λ bs. refl);
    }

fresh_from : (a b m : yaml_mark_t) → a ≡ b → is_fresh b m ≡ true → is_fresh a m ≡ true
fresh_from a b m e f = ap (λ (y : yaml_mark_t). is_fresh y m) e ∙ f

not_value : (a v : Bool) → (a && not v) ≡ true → v ≡ true → ⊥
not_value a v e f = grind (arith, nat_tests)

pub walk_key_goes : WalkKeyGoes
walk_key_goes x text o d start cs ls T K k gap w e then wide r leave c stays right is_in near far leaves =
    let q = o.at + length gap in
    let l = read_at text r.lexemes k q (may_begin o.now o.broken gap) w in
    let held : Candidate = record { number = length r.done; lexeme = r.first } in
    let es = r.done ++ entry r.first r.closed opening.Nothing ∷ r.rest in
    let (s, holds) = key_steps text o.at o.line r.lexemes d o.depth held ls es o.now o.broken k gap w e then wide r.stands r.holds c (and_parts (stays_level k o.depth) (not (is_value k)) stays).0 right
    (λ v. absurd (not_value (stays_level k o.depth) (is_value k) stays v)) is_in (fresh_from r.first.start start (mark_at text q) r.starts near) (fresh_from r.first.start start (mark_at text w.reached) r.starts far) leaves in
    let same : es ++ entry l 0 opening.Nothing ∷ [] ≡ r.done ++ entry r.first r.closed opening.Nothing ∷ (r.rest ++ entry l 0 opening.Nothing ∷ []) = append_assoc r.done (entry r.first r.closed opening.Nothing ∷ r.rest) (entry l 0 opening.Nothing ∷ []) in
    let J : List TokenBody → List TokenBody = λ bs. told (text_in x text) r.done r.closed (K bs) in
    record {
      lexemes = l ∷ r.lexemes;
      done = r.done;
      first = r.first;
      closed = r.closed;
      rest = r.rest ++ entry l 0 opening.Nothing ∷ [];
      stands = entries_same text e (line_at text q) (l ∷ r.lexemes) (depth_after k o.depth) ls (es ++ entry l 0 opening.Nothing ∷ []) (r.done ++ entry r.first r.closed opening.Nothing ∷ (r.rest ++ entry l 0 opening.Nothing ∷ [])) then wide s.stands same;
      holds = holds;
      clear = still_clear text r.lexemes o.depth k q (may_begin o.now o.broken gap) w cs r.stands.front.depth r.clear leave;
      starts = r.starts;
      deep = r.deep;
      before = r.before;
      words = λ bs. sym (ap (λ (zs : List Entry). told (text_in x text) zs 0 bs) same) ∙ more_told x text es l w 0 opening.Nothing J s.body r.words bs;
    }

pub walk_key_stops : WalkKeyStops
walk_key_stops x text o start cs ls new what T K gap w e then wide r leave c right near new_is what_is leaves =
    let q = o.at + length gap in
    let l = read_at text r.lexemes kinds.ValueMark q (may_begin o.now o.broken gap) w in
    let first = entry r.first r.closed opening.Nothing in
    let m = margin_at r.first.start.column in
    let column : m ≡ margin_at start.column = ap (λ (y : yaml_mark_t). margin_at y.column) r.starts in
    let (s, idle) = key_stops text o.at o.line r.lexemes o.depth ls r.done first r.rest o.now o.broken gap w e then wide r.stands r.holds c right (fresh_from r.first.start start (mark_at text q) r.starts near) leaves in
    let flag = not (nat_lt 0 o.depth) in
    let opens : start_of r.first.depth m ls opening.Mapping ≡ what = ap (λ (n : ℕ). start_of n m ls opening.Mapping) r.deep ∙ ap (λ (n : ℕ). start_of o.depth n ls opening.Mapping) column ∙ what_is in
    record {
      lexemes = l ∷ r.lexemes;
      entries = _;
      stands = levels_same text e (line_at text q) (l ∷ r.lexemes) o.depth (opened flag m ls) (new ++ []) _ then wide s.stands (ap (λ (n : ℕ). opened flag n ls) column ∙ new_is ∙ sym (append-nil new));
      idle = idle;
      clear = still_clear text r.lexemes o.depth kinds.ValueMark q (may_begin o.now o.broken gap) w cs r.stands.front.depth r.clear leave;
      tells = λ bs. key_tells (text_in x text) ls r.done r.first r.closed r.rest l K r.words bs
          ∙ ap (λ (b : TokenBody). told (text_in x text) r.done r.closed (start_bodies (start_of r.first.depth m ls opening.Mapping) (key ∷ K (b ∷ bs)))) (s.body x)
          ∙ ap (λ (y : Opens). told (text_in x text) r.done r.closed (start_bodies y (key ∷ K (w.body ∷ bs)))) opens
          ∙ r.before (start_bodies what (key ∷ K (w.body ∷ bs)));
    }

-- ---- `?` in brackets

deep_stays : (deep start : Bool) → deep ≡ true → (true && (deep || not start)) ≡ true
deep_stays deep start e = grind (arith, nat_tests)

deep_block : (d : ℕ) → nat_lt 0 d ≡ true → (d == 0) ≡ false
deep_block d e = grind (arith, nat_tests)

leaves_off : (text : List ℕ) (d : ℕ) (b : Bool) (w : WordText) (e : ℕ) (then wide : Bool)
    → b ≡ false → WordLeaves text d false w e then wide → WordLeaves text d b w e then wide
leaves_off text d b w e then wide off leaves = let P : Bool → Type 0 = λ y. WordLeaves text d y w e then wide in subst P (sym off) leaves

block_off : (b : Bool) → b ≡ false → (b && not false) ≡ false
block_off b e = grind (arith, nat_tests)

pub walk_asks : WalkAsks
walk_asks x text o cs ls T gap w e then wide r leave deep c leaves =
    let q = o.at + length gap in
    let k = kinds.KeyMark in
    let a = may_begin o.now o.broken gap in
    let off = deep_block o.depth deep in
    let l = read_at text r.lexemes k q a w in
    let none = slots_go_on.goes text r.lexemes o.depth k q a w r.stands.front.depth (and-false a) refl in
    let clear = clear_more (l ∷ r.lexemes) o.depth cs none (still_clear text r.lexemes o.depth k q a w cs r.stands.front.depth r.clear leave) in
    word_on x text o cs (o.depth ∷ cs) ls T k gap w e then wide r clear c (deep_stays (nat_lt 0 o.depth) true deep) (inl deep) (λ v. absurd (cc)) (leaves_off text o.depth (o.depth == 0) w e then wide off leaves)

pub walk_answers : WalkAnswers
walk_answers x text o cs ls T gap w e then wide r leave deep c leaves =
    let q = o.at + length gap in
    let k = kinds.ValueMark in
    let a = may_begin o.now o.broken gap in
    let off = block_off (o.depth == 0) (deep_block o.depth deep) in
    let (none, rest) = clear_first r.lexemes o.depth cs r.clear in
    let clear = still_clear text r.lexemes o.depth k q a w cs r.stands.front.depth rest leave in
    word_on x text o (o.depth ∷ cs) cs ls T k gap w e then wide r clear c (deep_stays (nat_lt 0 o.depth) true deep) (inl deep) (λ v. none_is_lone text r.lexemes o.depth q none) (leaves_off text o.depth ((o.depth == 0) && not false) w e then wide off leaves)

-- ---- words of content and of keys

pub walk_goes : WalkGoes
walk_goes Content x text o cs ls T K k gap w e then wide r leave c stays right may leaves =
    walk_word x text o cs ls (λ bs. T (K bs)) k gap w e then wide r leave c (and_parts (stays_level k o.depth) (not (is_value k)) stays).0 right
    (λ v. absurd (not_value (stays_level k o.depth) (is_value k) stays v)) leaves
walk_goes (Key d start) x text o cs ls T K k gap w e then wide r leave c stays right (is_in, near, far) leaves =
    walk_key_goes x text o d start cs ls T K k gap w e then wide r leave c stays right is_in near far leaves

-- ---- the same walk in other words

pub walk_says : WalkSays
walk_says = record {
  other = λ x text o cs ls more T U r e. record { lexemes = r.lexemes; entries = r.entries; stands = r.stands; idle = r.idle; clear = r.clear; tells = λ bs. r.tells bs ∙ e bs };
  fewer = λ x text o c cs ls more T r. let (none, rest) = clear_first r.lexemes c cs r.clear in record { lexemes = r.lexemes; entries = r.entries; stands = r.stands; idle = r.idle; clear = rest; tells = r.tells };
  key = λ x text o d start cs ls T K L r e. record {
    lexemes = r.lexemes;
    done = r.done;
    first = r.first;
    closed = r.closed;
    rest = r.rest;
    stands = r.stands;
    holds = r.holds;
    clear = r.clear;
    starts = r.starts;
    deep = r.deep;
    before = r.before;
    words = λ bs. r.words bs ∙ ap (λ (y : List TokenBody). told (text_in x text) r.done r.closed y) (e bs);
  };
  white = λ x text o d start cs ls T K white r at blank. record {
    lexemes = r.lexemes;
    done = r.done;
    first = r.first;
    closed = r.closed;
    rest = r.rest;
    stands = white_steps text o.at o.line r.lexemes o.depth ls (r.done ++ entry r.first r.closed opening.Nothing ∷ r.rest) o.now o.broken white r.stands at blank;
    holds = r.holds;
    clear = r.clear;
    starts = r.starts;
    deep = r.deep;
    before = r.before;
    words = r.words;
  };
}
