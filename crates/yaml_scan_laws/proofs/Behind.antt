-- The law of windows after a line `...`.
use Rattle.std.proofs.Common.{◌≡◌, ℕ, suc, ◌+◌, ◌-◌, true, false, List, [], ◌∷◌, ◌++◌, map, length, Option, Some, None, option_map, refl, sym, ap, subst, ◌∙◌, inl, inr, arith, ◌≤◌, nat_lt, take, drop, ◌⊎◌, add_assoc}
use Rattle.yaml_scan_laws.proofs.Shared.{nat_tests, cases_lt, append_assoc, append-nil, length-append, same_from_push, flat_map, none-some, same_Some, yaml_encoding_t, yaml_mark_t, ScanFault, Fault, byte, line_at, mark_at, is_bom, Token, gap_within, gap_at, Kind, Lexeme, depth_after, is_end, is_outside, is_start, reached, flow_depth, in_flow, ended, key_allowed, candidate, open_levels, finished_tokens, open_at, first_open, entry_of, kind_at, lexeme_at, Next, Read, Fails, Ends, first_lexeme, gap_behind, kind_behind, next, extended, history, place_behind, missed, stale_before, coming, first_fault_or, no_start, SpelledText, token_in, spell, all, fault_in, Remaining, handed, remaining, body_by, front_ends, gap_place, all_ends, last_is_all, stream_starts, stream_ends, fault_next, IsCut, is_white, IsEndLine, IsEndCut, moved_mark, moved_token, moved_fault, moved_next, scan_of, EndedWindowsAreScanned, flat_map-append, scanner_fault, length-entries, take-length, drop-length}
use Rattle.yaml_scan_history.specs.scan_types.Tokens as tokens
use Rattle.yaml_scan_history.specs.declared.kind.Kind.TheVariants as kinds
use Rattle.yaml_scan_laws.proofs.CutsWords.{end_kind}
use Rattle.yaml_scan_laws.proofs.Cutting.{byte_right, byte_past, rest_lines}
use Rattle.yaml_scan_laws.proofs.Fronts.{has_read, read_kind, next_open, next_over, history_more}
use Rattle.yaml_scan_laws.proofs.BehindBreak.{front_line, front_mark}
use Rattle.yaml_scan_laws.proofs.Turning.{end_mark, mark_lexeme, none_left, mark_there, starts}
use Rattle.yaml_scan_laws.proofs.Depths.{read_deep}
use Rattle.yaml_scan_laws.proofs.Rests.{whole}
use Rattle.yaml_scan_laws.proofs.CutsJoining.{told, offline_told, parted}
use Rattle.yaml_scan_laws.proofs.Windows.{windows_are_scanned, made, uncons, first_told, fault_moved}
use Rattle.yaml_scan_laws.proofs.Failing.{some_none, end_late, colon_index, fails_same, fails_not}
use Rattle.yaml_scan_laws.proofs.Refused.{refused_fronts_are_scanned, ends_not, ends_reads}
use Rattle.yaml_scan_laws.proofs.CutsEnding.{white_kind, line_long, whole_end, line_base, line_ground, start_history, line_cut, line_history}
use Rattle.yaml_scan_laws.proofs.Opening.{Begun, begun_over, closings, outer_spelled, outer_entries, none_open, coming_goes}
use Rattle.yaml_scan_laws.proofs.StreamForward.{fault_none}

-- ---- a text without fault goes on to its end

goes_on : (t : List ℕ) → next t (all t) ≡ Ends → (n : ℕ) (x : Lexeme) (h : List Lexeme)
    → history t n ≡ x ∷ h → is_end x.kind ≡ false → (l : Lexeme) × (next t (x ∷ h) ≡ Read l)
goes_on t over n x h is more = by (next t (x ∷ h)) refl
  where
    by : (y : Next) → next t (x ∷ h) ≡ y → (l : Lexeme) × (next t (x ∷ h) ≡ Read l)
    by (Read l) e = (l, e)
    by (Fails f) e =
        let same = last_is_all t n (λ l r. fails_not (sym (ap (next t) is ∙ e) ∙ r)) in
        absurd (ends_not (sym over ∙ ap (next t) (same ∙ is) ∙ e))
    by Ends e = absurd (coming_goes (kind_behind t (x ∷ h)) t (x ∷ h) (sym (next_open t x h more) ∙ e))

pub one_more : (t : List ℕ) (n : ℕ) (h : List Lexeme) (l : Lexeme) → history t n ≡ h
    → next t h ≡ Read l
    → history t (suc n) ≡ l ∷ h
one_more t n h l is e = history_more t n ∙ ap (λ z. extended (next t z) z) is ∙ ap (λ y. extended y h) e

pub last_two : (t : List ℕ) (n : ℕ) (l : Lexeme) (h : List Lexeme) → history t n ≡ l ∷ h
    → is_end l.kind ≡ true → all t ≡ l ∷ h
last_two t n l h is end = last_is_all t n (λ y r. ends_reads (sym (next_over t l h end) ∙ ap (next t) (sym is) ∙ r)) ∙ is

-- after the dots of a text that ends in such a line comes its end
pub line_over : (a line : List ℕ) → IsEndLine line → (l : Lexeme) (h : List Lexeme)
    → l.reached.index ≡ length a + 3 → (y : Lexeme) → is_end l.kind ≡ false
    → next (a ++ line) (l ∷ h) ≡ Read y
    → (y.kind ≡ kinds.StreamEnd) × ((gap_behind (a ++ line) (l ∷ h)).place ≡ length (a ++ line))
line_over a line e l h at y more reads =
    let t = a ++ line in
    let H = l ∷ h in
    let size = length-append a line in
    let long = line_long line e in
    let r = has_read t H y (sym (next_open t l h more) ∙ reads) in
    let place = gap_place (in_flow H) (key_allowed H) t (reached H).index (omega (arith, at, size, long)) in
    let q = (gap_behind t H).place in
    elim (cases_lt q (length t)) [
      | inr past ↦
          let there : q ≡ length t = omega (arith, past, place.inside) in
          let none : byte t q ≡ 0 = ap (λ z. byte t z) there ∙ byte_past t (length t) (omega arith) in
          (read_kind t H y r ∙ same_Some _ _ (sym r.stands ∙ end_kind (in_flow H) t q none), there)
      | inl on ↦
          let p = q - length a in
          let back : q ≡ length a + p = omega (arith, place.forward, at) in
          let same : byte t q ≡ byte line p = ap (λ z. byte t z) back ∙ byte_right a line p in
          let white = e.white p (omega (arith, place.forward, at)) (omega (arith, on, size, place.forward, at)) in
          absurd (none-some _ (sym (white_kind (in_flow H) t q (ap is_white same ∙ white)) ∙ r.stands))
    ]

-- the line alone is passed to its end
line_reaches : (x : yaml_encoding_t) (line : List ℕ) → IsEndLine line
    → (scan_of x line).fault ≡ None
    → (gap_at false false line 3).place ≡ length line
unfolding candidate
line_reaches x line e none =
    let s : SpelledText = record { encoding = x; text = line } in
    let over = fault_none (next line (all line)) (sym (fault_next s) ∙ none) (all_ends line) in
    let (y, reads) = goes_on line over 2 _ (first_lexeme ∷ []) (line_history line e.mark) end_mark.end in
    (line_over [] line e (mark_lexeme kinds.DocumentEnd line 0) (first_lexeme ∷ []) refl y end_mark.end reads).1

-- where the front leaves no bracket open, none is open before its line
line_outer : (x : yaml_encoding_t) (a line : List ℕ) → IsEndLine line → (front : List Token)
    (last : Token) → (g : Begun x a line kinds.DocumentEnd tokens.document_end front last)
    → next (a ++ line) (all (a ++ line)) ≡ Ends → flow_depth (all (a ++ line)) ≡ 0
    → flow_depth (all a) ≡ 0
line_outer x a line e front last g over outer =
    let t = a ++ line in
    let H = g.newest ∷ g.older in
    let goes : is_end g.newest.kind ≡ false = ap is_end g.lies.kind in
    let (y, finish) = goes_on t over g.steps g.newest g.older g.history_is goes in
    let (ended, _) = line_over a line e g.newest g.older (ap (λ (m : yaml_mark_t). m.index) g.lies.reached) y goes finish in
    let all_is = last_two t (suc g.steps) y H (one_more t g.steps H y g.history_is finish) (ap is_end ended) in
    let deep : flow_depth (all t) ≡ flow_depth g.older =
    ap flow_depth all_is ∙ ap (λ k. depth_after k y.depth) ended ∙ read_deep t H y finish
    ∙ ap (λ k. depth_after k g.newest.depth) g.lies.kind ∙ g.lies.deep in
    g.deep ∙ sym deep ∙ outer

-- ---- the line's tokens, and those of what is after it

abbrev stream_token : yaml_encoding_t → List ℕ → Token
stream_token x t = token_in (record { encoding = x; text = t }) first_lexeme

abbrev dots_token : yaml_encoding_t → List ℕ → Token
dots_token x t = token_in (record { encoding = x; text = t }) (mark_lexeme kinds.DocumentEnd t 0)

-- what is said of a line and of what is after it
record Lined (x : yaml_encoding_t) (line b : List ℕ) (behind : List Token) : Type 0 where
  pub are : (scan_of x (line ++ b)).tokens
      ≡ stream_token x (line ++ b) ∷ dots_token x (line ++ b) ∷ map (moved_token (length line) (line_at (line ++ b) (length line))) behind
  pub fault : (scan_of x (line ++ b)).fault ≡ option_map (moved_fault (length line) (line_at (line ++ b) (length line))) (scan_of x b).fault

start_told : (s : SpelledText)
    → flat_map (spell s) (finished_tokens (first_lexeme ∷ [])) ≡ token_in s first_lexeme ∷ []
unfolding finished_tokens open_levels candidate
start_told s = refl

lined : (x : yaml_encoding_t) (line b : List ℕ) → IsEndLine line → is_bom b 0 ≡ false
    → (gap_at false false line 3).place ≡ length line
    → (first : Token) (behind : List Token) → (scan_of x b).tokens ≡ first ∷ behind
    → Lined x line b behind
lined x line b e plain there first behind come =
    let r : SpelledText = record { encoding = x; text = b } in
    let U = line ++ b in
    let v : SpelledText = record { encoding = x; text = U } in
    let d = length line in
    let n = line_at U d in
    let ground = line_ground line b e plain there in
    let w = whole x line b 1 (first_lexeme ∷ []) (line_base U) ground 1 (start_history b) 2 (line_history U (whole_end line b e)) in
    let y = next b (all b) in
    let p = parted x b U d n 1 w.lexemes (first_lexeme ∷ []) (line_base U) ground.bases w.carry y (all_ends b) in
    let begins : (scan_of x b).tokens ≡ token_in r first_lexeme ∷ p.behind =
    offline_told r ∙ ap (λ h. told r y h) w.mine ∙ p.mine ∙ ap (λ z. z ++ p.behind) (start_told r) in
    let rest : behind ≡ p.behind = uncons first (token_in r first_lexeme) behind p.behind (sym come ∙ begins) in
    record {
      are = offline_told v ∙ ap (λ z. told v z (all U)) w.comes ∙ ap (λ h. told v (moved_next d n y) h) w.others ∙ p.others
          ∙ ap (λ z. z ++ map (moved_token d n) p.behind) (first_told v kinds.DocumentEnd tokens.document_end end_mark U)
          ∙ ap (λ z. stream_token x U ∷ dots_token x U ∷ map (moved_token d n) z) (sym rest);
      fault = fault_next v ∙ ap fault_in w.comes ∙ fault_moved d n y ∙ ap (option_map (moved_fault d n)) (sym (fault_next r));
    }

-- ---- moved twice

mark_twice : (d e n o : ℕ) (m : yaml_mark_t)
    → moved_mark d n (moved_mark e o m) ≡ moved_mark (d + e) (n + o) m
mark_twice d e n o m = rw (← add_assoc d e m.index, ← add_assoc n o m.line) refl

tokens_twice : (d e n o : ℕ) (ts : List Token)
    → map (moved_token d n) (map (moved_token e o) ts) ≡ map (moved_token (d + e) (n + o)) ts
tokens_twice d e n o [] = refl
tokens_twice d e n o (t ∷ ts) = rw (mark_twice d e n o t.start_mark, mark_twice d e n o t.end_mark, tokens_twice d e n o ts) refl

fault_twice : (d e n o : ℕ) (f : Option Fault)
    → option_map (moved_fault d n) (option_map (moved_fault e o) f) ≡ option_map (moved_fault (d + e) (n + o)) f
fault_twice d e n o f = grind (arith, nat_tests, mark_twice)

-- ---- the law

-- the empty text's tokens
empty_told : (x : yaml_encoding_t)
    → (first : Token) × (last : Token) × ((scan_of x []).tokens ≡ first ∷ last ∷ [])
unfolding remaining handed all history next finished_tokens open_levels candidate kind_at lexeme_at gap_within
empty_told x = (_, _, refl)

dots_same : (x : yaml_encoding_t) (line b : List ℕ) → IsEndLine line
    → dots_token x (line ++ b) ≡ dots_token x line
unfolding lexeme_at
dots_same x line b e =
    let start = front_mark line b e.feed 0 (omega arith) in
    let end = front_mark line b e.feed 3 (omega (arith, line_long line e)) in
    ap (λ (m : yaml_mark_t). record { body = tokens.document_end; start_mark = m; end_mark = mark_at (line ++ b) 3 }) start
    ∙ ap (λ (m : yaml_mark_t). record { body = tokens.document_end; start_mark = mark_at line 0; end_mark = m }) end

no_bom : is_bom [] 0 ≡ false
no_bom = refl

lined_alone : (x : yaml_encoding_t) (line : List ℕ) → IsEndLine line
    → (gap_at false false line 3).place ≡ length line
    → (last : Token) × ((scan_of x line).tokens ≡ stream_token x line ∷ dots_token x line ∷ last ∷ [])
lined_alone x line e there =
    let (first, last, come) = empty_told x in
    let l = lined x line [] e no_bom there first (last ∷ []) come in
    let same = append-nil line in
    let d = length line in
    let n = line_at (line ++ []) d in (
      moved_token d n last,
      ap (λ t. (scan_of x t).tokens) (sym same) ∙ l.are ∙ ap (λ z. stream_token x (line ++ []) ∷ z ∷ moved_token d n last ∷ []) (dots_same x line [] e),
    )

-- what is said of a front that ends in such a line
record AtLine (x : yaml_encoding_t) (a line : List ℕ) : Type 0 where
  pub clear : (scan_of x a).fault ≡ None
  pub inner : flow_depth (all a) ≡ 0
  pub front : List Token
  pub end : Token
  pub told : (scan_of x a).tokens ≡ front ++ end ∷ []
  pub tail : Token
  pub whole : (scan_of x (a ++ line)).tokens
      ≡ (front ++ moved_token (length a) (line_at a (length a)) (dots_token x line) ∷ []) ++ tail ∷ []
  pub reaches : (gap_at false false line 3).place ≡ length line

at_line : (x : yaml_encoding_t) (a line : List ℕ) → IsCut a line → IsEndLine line
    → (scan_of x (a ++ line)).fault ≡ None → flow_depth (all (a ++ line)) ≡ 0 → AtLine x a line
at_line x a line cut e none outer =
    let s : SpelledText = record { encoding = x; text = a } in
    let t = a ++ line in
    let d = length a in
    let n = line_at a d in
    let clear : (scan_of x a).fault ≡ None = unfaulted (scan_of x a).fault refl in
    let whole_ends = fault_none (next t (all t)) (sym (fault_next (record { encoding = x; text = t })) ∙ none) (all_ends t) in
    let (front, end, told_front, _, _) = stream_ends s clear in
    let inner = line_outer x a line e front end (begun_over x a line cut e.mark clear front end told_front) whole_ends outer in
    let (rest, starts) = stream_starts (record { encoding = x; text = line }) in
    let mine = windows_are_scanned x a line cut clear inner front end told_front _ rest starts in
    let quiet : (scan_of x line).fault ≡ None = unmoved d n (scan_of x line).fault (ap (λ (r : Remaining). r.fault) (sym mine) ∙ none) in
    let there = line_reaches x line e quiet in
    let (tail, alone) = lined_alone x line e there in
    let rest_is : rest ≡ dots_token x line ∷ tail ∷ [] = uncons _ (stream_token x line) rest (dots_token x line ∷ tail ∷ []) (sym starts ∙ alone) in
    record {
      clear = clear;
      inner = inner;
      front = front;
      end = end;
      told = told_front;
      tail = moved_token d n tail;
      whole = ap (λ (r : Remaining). r.tokens) mine ∙ ap (λ ts. front ++ map (moved_token d n) ts) rest_is
          ∙ sym (append_assoc front (moved_token d n (dots_token x line) ∷ []) (moved_token d n tail ∷ []));
      reaches = there;
    }
  where
    unfaulted : (f : Option Fault) → (scan_of x a).fault ≡ f → (scan_of x a).fault ≡ None
    unfaulted None h = h
    unfaulted (Some f) h =
        let (g, is, _) = refused_fronts_are_scanned x a line cut f h in
        absurd (none-some _ (sym none ∙ ap (λ (r : Remaining). r.fault) is))

    unmoved : (d n : ℕ) (f : Option Fault) → option_map (moved_fault d n) f ≡ None → f ≡ None
    unmoved d n None h = refl
    unmoved d n (Some f) h = absurd (some_none h)

ended_at : (x : yaml_encoding_t) (a line b : List ℕ) → IsCut a line → IsCut a (line ++ b)
    → IsEndLine line
    → is_bom b 0 ≡ false → (scan_of x (a ++ line)).fault ≡ None → flow_depth (all (a ++ line)) ≡ 0
    → (before : List Token) (last : Token) → (scan_of x (a ++ line)).tokens ≡ before ++ last ∷ []
    → (first : Token) (behind : List Token) → (scan_of x b).tokens ≡ first ∷ behind
    → let d = length a + length line in let n = line_at a (length a) + line_at line (length line) in
    ((scan_of x (a ++ (line ++ b))).tokens ≡ before ++ map (moved_token d n) behind)
    × ((scan_of x (a ++ (line ++ b))).fault ≡ option_map (moved_fault d n) (scan_of x b).fault)
ended_at x a line b cut over e plain none outer before last are first behind come =
    let U = line ++ b in
    let d = length a in
    let n = line_at a d in
    let k = length line in
    let o = line_at line k in
    let m = at_line x a line cut e none outer in
    let D = moved_token d n (dots_token x line) in
    let (same, _) = same_from_push before (m.front ++ D ∷ []) last m.tail (sym are ∙ m.whole) in
    let l = lined x line b e plain m.reaches first behind come in
    let lines : line_at U k ≡ o = front_line line b e.feed k (omega arith) in
    let others = windows_are_scanned x a U over m.clear m.inner m.front m.end m.told (stream_token x U) (dots_token x U ∷ map (moved_token k (line_at U k)) behind) l.are in (
      ap (λ (r : Remaining). r.tokens) others
          ∙ ap (λ z. m.front ++ moved_token d n z ∷ map (moved_token d n) (map (moved_token k (line_at U k)) behind)) (dots_same x line b e)
          ∙ ap (λ z. m.front ++ D ∷ map (moved_token d n) (map (moved_token k z) behind)) lines
          ∙ ap (λ z. m.front ++ D ∷ z) (tokens_twice d k n o behind)
          ∙ sym (append_assoc m.front (D ∷ []) (map (moved_token (d + k) (n + o)) behind))
          ∙ ap (λ z. z ++ map (moved_token (d + k) (n + o)) behind) (sym same),
      ap (λ (r : Remaining). r.fault) others ∙ ap (option_map (moved_fault d n)) (l.fault ∙ ap (λ z. option_map (moved_fault k z) (scan_of x b).fault) lines)
          ∙ fault_twice d k n o (scan_of x b).fault,
    )

-- A front that ends in such a line has DOCUMENT-END before STREAM-END.
pub ended_front : (x : yaml_encoding_t) (front rest : List ℕ) → IsEndCut front rest
    → (scan_of x front).fault ≡ None → flow_depth (all front) ≡ 0
    → (before : List Token) × (over last : Token)
    × ((scan_of x front).tokens ≡ (before ++ over ∷ []) ++ last ∷ []) × (over.body ≡ tokens.document_end)
unfolding lexeme_at
ended_front x front rest cut none outer =
    let m = at_line x cut.before cut.line (line_cut cut.before cut.line cut.lines cut.some cut.ends.mark) cut.ends (subst (λ t. (scan_of x t).fault ≡ None) cut.parts none) (subst (λ t. flow_depth (all t) ≡ 0) cut.parts outer) in
    (m.front, moved_token (length cut.before) (line_at cut.before (length cut.before)) (dots_token x cut.line), m.tail, ap (λ t. (scan_of x t).tokens) cut.parts ∙ m.whole, refl)

pub ended_windows_are_scanned : EndedWindowsAreScanned
ended_windows_are_scanned x front rest cut none outer before last are first behind come =
    let a = cut.before in
    let line = cut.line in
    let (told, fault) = ended_at x a line rest (line_cut a line cut.lines cut.some cut.ends.mark) (line_cut a (line ++ rest) cut.lines cut.some (whole_end line rest cut.ends)) cut.ends cut.mark
    (subst (λ t. (scan_of x t).fault ≡ None) cut.parts none) (subst (λ t. flow_depth (all t) ≡ 0) cut.parts outer)
    before last (subst (λ t. (scan_of x t).tokens ≡ before ++ last ∷ []) cut.parts are) first behind come in
    let whole : a ++ (line ++ rest) ≡ front ++ rest = sym (append_assoc a line rest) ∙ ap (λ t. t ++ rest) (sym cut.parts) in
    let size : length a + length line ≡ length front = sym (length-append a line) ∙ ap length (sym cut.parts) in
    let cut_line = line_cut a line cut.lines cut.some cut.ends.mark in
    let lines : line_at a (length a) + line_at line (length line) ≡ line_at front (length front) =
    ap (λ z. z + line_at line (length line)) (ap (λ (m : yaml_mark_t). m.line) (mark_there a line cut_line))
    ∙ sym (rest_lines a line cut_line (length line)) ∙ ap (line_at (a ++ line)) (sym (length-append a line)) ∙ ap (λ t. line_at t (length t)) (sym cut.parts) in
    made (scan_of x (front ++ rest)) _ _
    (ap (λ t. (scan_of x t).tokens) (sym whole) ∙ told
    ∙ ap (λ d. before ++ map (moved_token d (line_at a (length a) + line_at line (length line))) behind) size
    ∙ ap (λ n. before ++ map (moved_token (length front) n) behind) lines)
    (ap (λ t. (scan_of x t).fault) (sym whole) ∙ fault
    ∙ ap (λ d. option_map (moved_fault d (line_at a (length a) + line_at line (length line))) (scan_of x rest).fault) size
    ∙ ap (λ n. option_map (moved_fault (length front) n) (scan_of x rest).fault) lines)

-- ---- a line `...` with nothing after it

outer_levels : (l : Lexeme) (H : List Lexeme) (K : Kind) → l.kind ≡ K → is_outside K ≡ true
    → is_start K ≡ false → nat_lt 0 l.depth ≡ false → open_levels (l ∷ H) ≡ []
unfolding open_levels
outer_levels l H K k out start deep = rw (k, start, deep, out) (none_left H)

no_closings : (l : Lexeme) (H : List Lexeme) (K : Kind) → l.kind ≡ K → is_outside K ≡ true
    → is_start K ≡ false → (m : yaml_mark_t) → closings l.depth (l ∷ H) m ≡ []
no_closings l H K k out start m = grind (arith, outer_levels)

-- what is after the dots: the end, or a fault
abbrev pub TailSo : List ℕ → List Token → Option Fault → Type 0
TailSo a tail own =
    ((last : Token) × (tail ≡ last ∷ []) × (last.body ≡ tokens.stream_end) × (own ≡ None))
    ⊎ ((g : Fault) × (tail ≡ []) × (own ≡ Some g) × (length a ≤ g.problem_mark.index))

line_fails : (a line : List ℕ) → IsEndLine line → (l : Lexeme) (h : List Lexeme)
    → l.reached.index ≡ length a + 3 → is_end l.kind ≡ false → (g : ScanFault)
    → next (a ++ line) (l ∷ h) ≡ Fails g → length a ≤ g.problem_mark.index
line_fails a line e l h at more g fails =
    let t = a ++ line in
    let H = l ∷ h in
    let size = length-append a line in
    let long = line_long line e in
    let here = sym (next_open t l h more) ∙ fails in
    let place = gap_place (in_flow H) (key_allowed H) t (reached H).index (omega (arith, at, size, long)) in
    let q = (gap_behind t H).place in
    elim (cases_lt q (length t)) [
      | inr past ↦
          let there : q ≡ length t = omega (arith, past, place.inside) in
          let none : byte t q ≡ 0 = ap (λ z. byte t z) there ∙ byte_past t (length t) (omega arith) in
          let late = end_late t H g (ap (λ o. coming o t H) (sym (end_kind (in_flow H) t q none)) ∙ here) in
          omega (arith, late, there, size)
      | inl on ↦
          let p = q - length a in
          let back : q ≡ length a + p = omega (arith, place.forward, at) in
          let same : byte t q ≡ byte line p = ap (λ z. byte t z) back ∙ byte_right a line p in
          let white = e.white p (omega (arith, place.forward, at)) (omega (arith, on, size, place.forward, at)) in
          let none = white_kind (in_flow H) t q (ap is_white same ∙ white) in
          let late = none_late t H g (ap (λ o. coming o t H) (sym none) ∙ here) in
          omega (arith, late, place.forward, at)
    ]
  where
    none_late : (t : List ℕ) (H : List Lexeme) (g : ScanFault) → coming None t H ≡ Fails g
        → g.problem_mark.index ≡ (gap_behind t H).place
    none_late t H g r = go (stale_before t H) refl r
      where
        go : (o : Option ScanFault) → stale_before t H ≡ o → first_fault_or (o ∷ []) (Fails (no_start (place_behind t H))) ≡ Fails g
            → g.problem_mark.index ≡ (gap_behind t H).place
        go None k r = ap (λ (z : ScanFault). z.problem_mark.index) (fails_same (sym r))
        go (Some f) k r = ap (λ (z : ScanFault). z.problem_mark.index) (fails_same (sym r)) ∙ ap (λ (z : yaml_mark_t). z.index) (colon_index (missed _ (place_behind t H)) (place_behind t H) f k)

all_taken : (s : SpelledText) (g : ScanFault) (H : List Lexeme) → ((e : ℕ) → open_at e H ≡ None)
    → told s (Fails g) H ≡ flat_map (spell s) (finished_tokens H)
all_taken s g H shut =
    let n : first_open H H ≡ length (finished_tokens H) = none_open H H shut ∙ sym (length-entries H) in
    ap (λ k. flat_map (spell s) (take k (finished_tokens H)) ++ front_ends (drop k (finished_tokens H))) n
    ∙ ap (λ z. flat_map (spell s) z ++ front_ends (drop (length (finished_tokens H)) (finished_tokens H))) (take-length (finished_tokens H))
    ∙ ap (λ z. flat_map (spell s) (finished_tokens H) ++ front_ends z) (drop-length (finished_tokens H))
    ∙ append-nil (flat_map (spell s) (finished_tokens H))

-- A front's tokens, where it ends in such a line.
pub line_tail : (x : yaml_encoding_t) (a line : List ℕ) → IsEndLine line → (front : List Token)
    (last : Token) → (r : Begun x a line kinds.DocumentEnd tokens.document_end front last)
    → (tail : List Token) × ((scan_of x (a ++ line)).tokens ≡ front ++ r.mark ∷ tail)
    × TailSo a tail (scan_of x (a ++ line)).fault
unfolding lexeme_at
line_tail x a line e front last r = by (next (a ++ line) (r.newest ∷ r.older)) refl
  where
    by : (y : Next) → next (a ++ line) (r.newest ∷ r.older) ≡ y
        → (tail : List Token) × ((scan_of x (a ++ line)).tokens ≡ front ++ r.mark ∷ tail) × TailSo a tail (scan_of x (a ++ line)).fault
    by (Read y) k =
        let t = a ++ line in
        let s : SpelledText = record { encoding = x; text = t } in
        let H = r.newest ∷ r.older in
        let goes : is_end r.newest.kind ≡ false = ap is_end r.lies.kind in
        let far : r.newest.reached.index ≡ length a + 3 = ap (λ (m : yaml_mark_t). m.index) r.lies.reached in
        let (ended, _) = line_over a line e r.newest r.older far y goes k in
        let end : is_end y.kind ≡ true = ap is_end ended in
        let is_all = last_two t (suc r.steps) y H (one_more t r.steps H y r.history_is k) end in
        let over : next t (all t) ≡ Ends = ap (next t) is_all ∙ next_over t y H end in
        let deep : y.depth ≡ r.newest.depth = read_deep t H y k ∙ ap (λ z. depth_after z r.newest.depth) r.lies.kind in
        let closed : closings y.depth H y.start ≡ [] = ap (λ d. closings d H y.start) deep ∙ no_closings r.newest r.older kinds.DocumentEnd r.lies.kind refl refl y.start in
        let list : (scan_of x t).tokens ≡ front ++ r.mark ∷ token_in s y ∷ [] =
        offline_told s ∙ ap (λ z. told s z (all t)) over ∙ append-nil (flat_map (spell s) (finished_tokens (all t)))
        ∙ ap (λ z. flat_map (spell s) (finished_tokens z)) is_all
        ∙ ap (flat_map (spell s)) (outer_entries y H kinds.StreamEnd ended refl)
        ∙ flat_map-append (spell s) (finished_tokens H) (entry_of y H ∷ [])
        ∙ ap (λ z. z ++ (spell s (entry_of y H) ++ [])) r.base
        ∙ ap (λ z. (front ++ r.mark ∷ []) ++ z) (append-nil (spell s (entry_of y H)) ∙ outer_spelled s y H kinds.StreamEnd ended refl refl ∙ ap (λ z. z ++ token_in s y ∷ []) closed)
        ∙ append_assoc front (r.mark ∷ []) (token_in s y ∷ []) in
        (token_in s y ∷ [], list, inl (token_in s y, refl, ap (λ z. body_by z s y) ended, fault_next s ∙ ap fault_in over))
    by (Fails g) k =
        let t = a ++ line in
        let s : SpelledText = record { encoding = x; text = t } in
        let H = r.newest ∷ r.older in
        let goes : is_end r.newest.kind ≡ false = ap is_end r.lies.kind in
        let far : r.newest.reached.index ≡ length a + 3 = ap (λ (m : yaml_mark_t). m.index) r.lies.reached in
        let is_all : all t ≡ H = last_is_all t r.steps (λ l q. fails_not (sym (ap (next t) r.history_is ∙ k) ∙ q)) ∙ r.history_is in
        let fails : next t (all t) ≡ Fails g = ap (next t) is_all ∙ k in
        let list : (scan_of x t).tokens ≡ front ++ r.mark ∷ [] =
        offline_told s ∙ ap (λ z. told s z (all t)) fails ∙ ap (told s (Fails g)) is_all ∙ all_taken s g H r.shut ∙ r.base in
        ([], list, inr (scanner_fault g, refl, fault_next s ∙ ap fault_in fails, line_fails a line e r.newest r.older far goes g k))
    by Ends k =
        absurd (coming_goes (kind_behind (a ++ line) (r.newest ∷ r.older)) (a ++ line) (r.newest ∷ r.older) (sym (next_open (a ++ line) r.newest r.older (ap is_end r.lies.kind)) ∙ k))
