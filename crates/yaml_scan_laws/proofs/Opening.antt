-- A front without fault, whatever brackets it leaves open: the whole begins with its tokens, and a mark in its end's place.
use Rattle.std.proofs.Common.{◌≡◌, ℕ, zero, suc, ◌+◌, ◌-◌, ◌<◌, ◌≤◌, ◌==◌, ◌&&◌, nat_lt, nat_le, if◌then◌else◌, true, false, List, [], ◌∷◌, ◌++◌, take, drop, filter, replicate, length, Option, Some, None, refl, sym, ap, subst, ◌∙◌, inl, inr, arith, map}
use Rattle.yaml_scan_laws.proofs.Shared.{cases_Bool, true≢false, nat_tests, flat_map-append, append-nil, append_assoc, same_from_push, take-append-drop, flat_map, none-some, same_Some, yaml_encoding_t, yaml_mark_t, ScanFault, byte, ends_break, line_at, mark_at, Token, TokenBody, block_end, is_document_start, is_document_end, Kind, Lexeme, is_outside, is_start, is_value, is_end, cancels, depth_after, flow_depth, in_flow, ended, Candidate, candidate, fresh, open_at, first_open, open_levels, entry_of, finished_tokens, placed, lexeme_at, Read, Fails, Ends, gap_behind, place_behind, begun_behind, word_behind, lexeme_behind, missed, lost_by, colon_missing_of, stale_before, indicator_misplaced, candidate_lost, text_wrong, stale_after, coming, next, extended, history, first_fault_or, first_lexeme, SpelledText, body_by, token_in, spell, all, handed, kept_of, remaining, body_in, length-entries, Stands, history_stands, first_is, not_ended, all_ends, settled_stays, line_at-grows, IsCut, scan_of, fault_next, moved_token, moved_lexeme, take-length, le-ltb, offline}
use Rattle.yaml_scan_history.specs.scan_types.Tokens as tokens
use Rattle.yaml_scan_history.specs.declared.kind.Kind.TheVariants as kinds
use Rattle.yaml_scan_laws.proofs.Cutting.{byte_past, last_byte, line_ended}
use Rattle.yaml_scan_laws.proofs.Coming.{moved_fault, place_there, stale_there}
use Rattle.yaml_scan_laws.proofs.Fronts.{has_read, read_kind, read_within, front_said, kept, mark_zero, front_pair, next_open, history_more, EndsAt, reads_before, front_history, end_step, lexeme_zero}
use Rattle.yaml_scan_laws.proofs.Turning.{mark_lexeme, mark_behind, MarkLies, mark_lies, mark_comes, MarkStands, free_of, colon_none, end_begun, end_mark_placed, end_byte, end_is, end_place, mark_there, start_stands, end_stands, stands_there}
use Rattle.yaml_scan_laws.proofs.Rests.{AllCarry, carries}
use Rattle.yaml_scan_laws.proofs.CutsJoining.{offline_told, told, spells_moved, moved_entry, entered}
use Rattle.yaml_scan_laws.proofs.Failing.{after_none, some_none, outer_same}
use Rattle.yaml_scan_laws.proofs.Histories.{Bases, moved_lexemes}
use Rattle.yaml_scan_laws.proofs.StreamForward.{fault_none}
use Rattle.yaml_scan_laws.specs.TextFronts.{IsFree}

-- ---- without a fault the stream's end is read

never_ends : (a b c e f : Option ScanFault) (l : Lexeme)
    → first_fault_or (a ∷ b ∷ c ∷ e ∷ f ∷ []) (Read l) ≡ Ends → ⊥
never_ends a b c e f l is = grind (arith, nat_tests)

never_over : (a : Option ScanFault) (f : ScanFault) → first_fault_or (a ∷ []) (Fails f) ≡ Ends → ⊥
never_over a f is = grind (arith, nat_tests)

pub coming_goes : (o : Option Kind) (t : List ℕ) (h : List Lexeme) → coming o t h ≡ Ends → ⊥
coming_goes o t h e = grind (arith, nat_tests, never_over, never_ends)

pub first_goes : (t : List ℕ) → next t [] ≡ Ends → ⊥
unfolding next
first_goes t e = let reads : Read first_lexeme ≡ Ends = e in cc

pub ends_ended : (t : List ℕ) (h : List Lexeme) → next t h ≡ Ends → ended h ≡ true
ends_ended t h e = grind (arith, nat_tests, first_goes, coming_goes, next_open)

pub all_is : (t : List ℕ) → all t ≡ history t (suc (suc (length t)))
unfolding all
all_is t = let e : length t + 2 ≡ suc (suc (length t)) = omega arith in ap (history t) e

-- ---- what the front's lexemes carry

-- what a lexeme of the front carries is the same in the whole
pub front_carried : (x : yaml_encoding_t) (a b : List ℕ) → IsCut a b → (H : List Lexeme)
    → Stands a H
    → (l : Lexeme)
    → next a H ≡ Read l → is_end l.kind ≡ false
    → body_in (record { encoding = x; text = a ++ b }) (moved_lexeme 0 0 l) ≡ body_in (record { encoding = x; text = a }) l
front_carried x a b cut [] s l e go = subst (λ (y : Lexeme). body_in (record { encoding = x; text = a ++ b }) (moved_lexeme 0 0 y) ≡ body_in (record { encoding = x; text = a }) y) (first_is a l e) refl
front_carried x a b cut (y ∷ h) s l e go =
    let H = y ∷ h in
    let pair = front_pair a b cut H s.inside in
    let r = has_read a H l (sym (next_open a y h (not_ended a y h l e)) ∙ e) in
    carries x a (a ++ b) 0 (length a) 0 0 H H pair l r (front_said a (a ++ b) 0 (length a) 0 0 H H pair l r go)

pub front_carry : (x : yaml_encoding_t) (a b : List ℕ) → IsCut a b → (n : ℕ) (E : Lexeme)
    → EndsAt a n E
    → (j : ℕ) → j ≤ n → AllCarry x a (a ++ b) 0 0 (history a j)
unfolding history
front_carry x a b cut n E at zero le = tt
front_carry x a b cut n E at (suc j) le =
    let (l, reads, more) = reads_before a n j E at (omega (arith, le)) in
    let rest = front_carry x a b cut n E at j (omega (arith, le)) in
    subst (λ y. AllCarry x a (a ++ b) 0 0 (extended y (history a j))) (sym reads) (front_carried x a b cut (history a j) (history_stands a j) l reads more, rest)

map_same : {A : Type 0} (f : A → A) → ((x : A) → f x ≡ x) → (xs : List A) → map f xs ≡ xs
map_same f h [] = refl
map_same f h (x ∷ xs) = rw (h x, map_same f h xs) refl

pub lexemes_zero : (h : List Lexeme) → moved_lexemes 0 0 h ≡ h
lexemes_zero h = map_same (moved_lexeme 0 0) lexeme_zero h

pub tokens_zero : (ts : List Token) → map (moved_token 0 0) ts ≡ ts
tokens_zero ts = map_same (moved_token 0 0) (λ t. rw (mark_zero t.start_mark, mark_zero t.end_mark) refl) ts

pub no_bases : Bases 0 0 0 [] []
unfolding candidate open_levels
no_bases = grind (arith, nat_tests)

pub no_entries : finished_tokens [] ≡ []
unfolding finished_tokens
no_entries = refl

-- the front's tokens before its end
pub front_told : (x : yaml_encoding_t) (a b : List ℕ) (h : List Lexeme)
    → AllCarry x a (a ++ b) 0 0 h
    → flat_map (spell (record { encoding = x; text = a ++ b })) (finished_tokens h)
    ≡ flat_map (spell (record { encoding = x; text = a })) (finished_tokens h)
front_told x a b h carry =
    let s : SpelledText = record { encoding = x; text = a } in
    let v : SpelledText = record { encoding = x; text = a ++ b } in
    let es = entered 0 0 0 h [] [] no_bases in
    let is : finished_tokens h ≡ es.more = ap finished_tokens (sym (append-nil h)) ∙ es.mine ∙ ap (λ z. z ++ es.more) no_entries in
    ap (flat_map (spell v)) (is ∙ sym (map_same (moved_entry 0 0) (λ e. rw (lexeme_zero e.lexeme) refl) es.more)) ∙ spells_moved 0 0 x a (a ++ b) es.more (es.say x a (a ++ b) carry)
    ∙ tokens_zero (flat_map (spell s) es.more) ∙ ap (flat_map (spell s)) (sym is)

-- ---- what may be a key is before the front's last line

-- each lexeme that may be a key starts before that line
abbrev AllEarly : ℕ → List Lexeme → Type 0
AllEarly line [] = Unit {0}
AllEarly line (l ∷ h) = (l.saved ≡ true → l.start.line < line) × AllEarly line h

line_more : (t : List ℕ) (p : ℕ) → ends_break t p ≡ true → line_at t (suc p) ≡ line_at t p + 1
unfolding line_at
line_more t p h = rw h refl

last_line : (a b : List ℕ) → IsCut a b → (q : ℕ) → q < length a → line_at a q < line_at a (length a)
last_line a b cut q l =
    let p = length a - 1 in
    let back : suc p ≡ length a = omega (arith, l) in
    let push : p + 1 ≡ length a = omega (arith, l) in
    let last = last_byte a p cut.line push in
    let none : byte a (p + 1) ≡ 0 = byte_past a (p + 1) (omega (arith, push)) in
    let ended : ends_break a p ≡ true =
    line_ended (byte a (p - 2)) (byte a (p - 1)) (byte a p) (byte a (p + 1)) last (ap (λ c. c == 10) none) in
    let more : line_at a (suc p) ≡ line_at a p + 1 = line_more a p ended in
    let same : line_at a (length a) ≡ line_at a (suc p) = ap (line_at a) (sym back) in
    omega (arith, line_at-grows a q p (omega (arith, l)), more, same)

read_early : (a b : List ℕ) → IsCut a b → (H : List Lexeme) → Stands a H → (l : Lexeme)
    → next a H ≡ Read l → is_end l.kind ≡ false → l.saved ≡ true → l.start.line < line_at a (length a)
read_early a b cut [] stands l e more saved =
    absurd (true≢false (sym saved ∙ ap (λ (y : Lexeme). y.saved) (sym (first_is a l e))))
read_early a b cut (x ∷ h) stands l e more saved =
    let H = x ∷ h in
    let r = has_read a H l (sym (next_open a x h (not_ended a x h l e)) ∙ e) in
    let within = read_within a (a ++ b) 0 (length a) 0 0 H H (front_pair a b cut H stands.inside) l r more in
    let goes : is_end r.kind ≡ false = ap is_end (sym (read_kind a H l r)) ∙ more in
    let start : l.start ≡ placed r.kind (place_behind a H) = ap (λ (y : Lexeme). y.start) (sym r.clean.is) ∙ (kept a (begun_behind r.kind a H) (word_behind r.kind a H)).start in
    let at : placed r.kind (place_behind a H) ≡ place_behind a H = rw goes refl in
    let line = ap (λ (m : yaml_mark_t). m.line) (start ∙ at) in
    omega (arith, last_line a b cut (gap_behind a H).place within, line)

all_early : (a b : List ℕ) → IsCut a b → (n : ℕ) (E : Lexeme) → EndsAt a n E → (j : ℕ) → j ≤ n
    → AllEarly (line_at a (length a)) (history a j)
unfolding history
all_early a b cut n E at zero le = tt
all_early a b cut n E at (suc j) le =
    let (l, reads, more) = reads_before a n j E at (omega (arith, le)) in
    let rest = all_early a b cut n E at j (omega (arith, le)) in
    subst (λ y. AllEarly (line_at a (length a)) (extended y (history a j))) (sym reads) (read_early a b cut (history a j) (history_stands a j) l reads more, rest)

candidate_early : (line : ℕ) (h : List Lexeme) → AllEarly line h → (e : ℕ) (c : Candidate)
    → candidate e h ≡ Some c → c.lexeme.start.line < line
unfolding candidate
candidate_early line [] a e c is = absurd (none-some _ is)
candidate_early line (l ∷ h) a e c is =
    elim (cases_Bool (l.depth == e)) [
      | inl i ↦ elim (cases_Bool l.saved) [
        | inl s ↦
            let same = same_Some _ _ (rw (i, s) at is) in
            omega (arith, a.0 s, ap (λ (y : Candidate). y.lexeme.start.line) same)
        | inr s ↦ elim (cases_Bool (cancels l.kind)) [
          | inl x ↦ absurd (none-some _ (rw (i, s, x) at is))
          | inr x ↦ candidate_early line h a.1 e c (rw (i, s, x) at is)
        ]
      ]
      | inr i ↦ elim (cases_Bool (nat_lt l.depth e)) [
        | inl j ↦ absurd (none-some _ (rw (i, j) at is))
        | inr j ↦ candidate_early line h a.1 e c (rw (i, j) at is)
      ]
    ]

late_line : (x y p q : ℕ) → y < x → (nat_le x y && nat_le p q) ≡ false
late_line x y p q l = grind (arith, nat_tests)

-- none of them is open in that line
none_fresh : (line : ℕ) (o : Option Candidate) (m : yaml_mark_t) → line ≤ m.line
    → ((c : Candidate) → o ≡ Some c → c.lexeme.start.line < line) → fresh o m ≡ None
none_fresh line o m l h = grind (arith, nat_tests, late_line)

-- and what isn't missed there isn't required
none_missed : (line : ℕ) (o : Option Candidate) (m n : yaml_mark_t) → line ≤ m.line
    → ((c : Candidate) → o ≡ Some c → c.lexeme.start.line < line) → missed o m ≡ None → missed o n ≡ None
none_missed line o m n l h e = grind (arith, nat_tests, late_line, some_none)

pub none_open : (H h : List Lexeme) → ((e : ℕ) → open_at e H ≡ None) → first_open H h ≡ length h
unfolding first_open
none_open H [] shut = refl
none_open H (l ∷ h) shut = grind (arith, nat_tests, le-ltb, none_open H h shut)

-- ---- the mark there

-- where the front's end is read, the whole reads a mark, at any depth
record MarkReads (a b : List ℕ) (K : Kind) (H : List Lexeme) (E M : Lexeme) : Type 0 where
  pub reads : next (a ++ b) H ≡ Read M
  pub lies : MarkLies K (a ++ b) H (length a) M
  pub deep : E.depth ≡ flow_depth H
  pub below : line_at (a ++ b) (length a) ≤ M.reached.line
  pub end : E.kind ≡ kinds.StreamEnd
  pub place : E.start ≡ mark_at (a ++ b) (length a)
  pub flat : flow_depth H ≡ 0 → M ≡ mark_lexeme K (a ++ b) (length a)

-- the candidate of depth 0 after what cancels and isn't saved
outer_none : (l : Lexeme) (H : List Lexeme) → (l.depth == 0) ≡ true → l.saved ≡ false
    → cancels l.kind ≡ true → candidate 0 (l ∷ H) ≡ None
unfolding candidate
outer_none l H deep saved over = rw (deep, saved, over) refl

mark_reads_there : (a b : List ℕ) → IsCut a b → (x : Lexeme) (h : List Lexeme) → Stands a (x ∷ h)
    → AllEarly (line_at a (length a)) (x ∷ h) → (E : Lexeme) → next a (x ∷ h) ≡ Read E
    → is_end E.kind ≡ true → (m : MarkStands b 0)
    → MarkReads a b m.kind (x ∷ h) E (lexeme_behind m.kind (a ++ b) (x ∷ h))
mark_reads_there a b cut x h stands early E e end m =
    let H = x ∷ h in
    let W = a ++ b in
    let more = not_ended a x h E e in
    let here = sym (next_open a x h more) ∙ e in
    let r = has_read a H E here in
    let over : is_end r.kind ≡ true = ap is_end (sym (read_kind a H E r)) ∙ end in
    let is = end_is r.kind over in
    let none = end_byte (in_flow H) a (gap_behind a H).place r.kind r.stands over in
    let at = end_place a b cut H stands.inside none in
    let pair = front_pair a b cut H stands.inside in
    let there : (gap_behind W H).place ≡ length a = omega (arith, pair.place, at) in
    let place : place_behind W H ≡ place_behind a H = place_there a W 0 (length a) 0 0 H H pair ∙ mark_zero (place_behind a H) in
    let stale : stale_before W H ≡ None = stale_there a W 0 (length a) 0 0 H H pair ∙ ap (moved_fault 0 0) r.clean.stale in
    let begun = begun_behind kinds.StreamEnd a H in
    let lost : candidate_lost kinds.StreamEnd a H ≡ None = ap (λ k. candidate_lost k a H) (sym is) ∙ r.clean.lost in
    let mine = free_of begun (fresh (candidate (flow_depth H) H) (place_behind a H)) refl refl
    (colon_none (lost_by begun (fresh (candidate (flow_depth H) H) (place_behind a H))) begun.start lost) in
    let free : IsFree (fresh (candidate (flow_depth H) H) (place_behind W H)) = subst (λ q. IsFree (fresh (candidate (flow_depth H) H) q)) (sym place) mine in
    let mark = stands_there a b cut H m.kind (m.stands (in_flow H)) there in
    let same : begun ≡ E = sym (end_begun a H) ∙ ap (λ k. lexeme_behind k a H) (sym is) ∙ r.clean.is in
    let begins : begun.start ≡ mark_at W (length a) =
    ap (λ q. placed kinds.StreamEnd (mark_at a q)) at ∙ ap (placed kinds.StreamEnd) (mark_there a b cut) ∙ end_mark_placed a b cut in
    let M = lexeme_behind m.kind W H in
    let lies = mark_lies m.kind m.body m.is W H (length a) there in
    let lines : line_at W (length a) ≤ line_at W (length a + 3) = line_at-grows W (length a) (length a + 3) (omega arith) in
    let far_line = ap (λ (y : yaml_mark_t). y.line) lies.reached in
    let line_same : line_at a (length a) ≡ line_at W (length a) = ap (λ (y : yaml_mark_t). y.line) (mark_there a b cut) in
    let reads_end : coming (Some kinds.StreamEnd) a H ≡ Read E = ap (λ o. coming o a H) (ap Some (sym is) ∙ sym r.stands) ∙ here in
    let ended = after_none (stale_before a H) (indicator_misplaced kinds.StreamEnd a H) (candidate_lost kinds.StreamEnd a H) (text_wrong kinds.StreamEnd a H) (stale_after (lexeme_behind kinds.StreamEnd a H) H) (lexeme_behind kinds.StreamEnd a H) E reads_end in
    let ended_so : stale_after begun H ≡ None = ap (λ y. stale_after y H) (sym (end_begun a H)) ∙ ended in
    let after : stale_after M H ≡ None = elim (cases_Bool (flow_depth H == 0)) [
      | inl z ↦
          let gone = outer_none M H (ap (λ n. n == 0) lies.deep ∙ z) lies.saved (ap cancels lies.kind ∙ m.is.cancels) in
          rw gone refl
      | inr z ↦
          let there_is = outer_same M H (ap (λ n. n == 0) lies.deep ∙ z) in
          let here_is = outer_same begun H z in
          let kept : missed (candidate 0 H) begun.reached ≡ None =
          ap (λ o. missed o begun.reached) (sym here_is) ∙ colon_none (missed (candidate 0 (begun ∷ H)) begun.reached) begun.reached ended_so in
          let line_is : line_at a (length a) ≤ begun.reached.line = let l = ap (λ (y : yaml_mark_t). y.line) begins in omega (arith, l, line_same) in
          let free_there = none_missed (line_at a (length a)) (candidate 0 H) begun.reached M.reached line_is (λ c s. candidate_early (line_at a (length a)) H early 0 c s) kept in
          ap (λ o. colon_missing_of (missed o M.reached) M.reached) there_is ∙ ap (λ o. colon_missing_of o M.reached) free_there
    ] in
    record {
      reads = next_open W x h more ∙ ap (λ o. coming o W H) mark ∙ mark_comes m.kind m.body m.is W H (length a) there stale free after;
      lies = lies;
      deep = ap (λ (l : Lexeme). l.depth) (sym same);
      below = omega (arith, lines, far_line);
      end = ap (λ (l : Lexeme). l.kind) (sym same);
      place = ap (λ (l : Lexeme). l.start) (sym same) ∙ begins;
      flat = λ z. mark_behind m.kind m.body m.is W H (length a) there z;
    }

-- ---- the tokens up to there

abbrev pub closing : yaml_mark_t → Token
closing m = record { body = block_end; start_mark = m; end_mark = m }

-- what a lexeme that is outside of levels closes
abbrev pub closings : ℕ → List Lexeme → yaml_mark_t → List Token
closings d H m = replicate (length (open_levels H) - length (if nat_lt 0 d then open_levels H else filter (λ x. nat_le x 0) (open_levels H))) (closing m)

pub outer_spelled : (s : SpelledText) (l : Lexeme) (H : List Lexeme) (K : Kind) → l.kind ≡ K
    → is_outside K ≡ true → is_start K ≡ false
    → spell s (entry_of l H) ≡ closings l.depth H l.start ++ token_in s l ∷ []
outer_spelled s l H K k out start = grind (arith, nat_tests, append-nil)

pub outer_entries : (l : Lexeme) (H : List Lexeme) (K : Kind) → l.kind ≡ K → is_value K ≡ false
    → finished_tokens (l ∷ H) ≡ finished_tokens H ++ entry_of l H ∷ []
unfolding finished_tokens
outer_entries l H K k none = rw (k, none) refl

-- what is handed out begins with the entries of lexemes none of which may become a key any more
handed_first : (t : List ℕ) (n : ℕ) (H : List Lexeme) → history t n ≡ H
    → ((e : ℕ) → open_at e H ≡ None) → handed t ≡ finished_tokens H ++ drop (length H) (handed t)
handed_first t n H is shut =
    let high : length H ≤ first_open (history t n) (history t n) = rw is (omega (arith, none_open H H shut)) in
    let settled = settled_stays t n (length H) high in
    let took : take (length H) (handed t) ≡ finished_tokens H =
    settled ∙ ap (λ h. take (length H) (finished_tokens h)) is ∙ ap (λ k. take k (finished_tokens H)) (sym (length-entries H)) ∙ take-length (finished_tokens H) in
    sym (take-append-drop (length H) (handed t)) ∙ ap (λ z. z ++ drop (length H) (handed t)) took

-- ---- the law

-- what the whole has up to a mark: its tokens, and its lexemes
pub record Begun (x : yaml_encoding_t) (a b : List ℕ) (K : Kind) (body : TokenBody) (front : List Token)
    (last : Token) : Type 0 where
  pub newest : Lexeme
  pub older : List Lexeme
  pub steps : ℕ
  pub history_is : history (a ++ b) steps ≡ newest ∷ older
  pub lies : MarkLies K (a ++ b) older (length a) newest
  pub flat : flow_depth older ≡ 0 → newest ≡ mark_lexeme K (a ++ b) (length a)
  pub deep : flow_depth (all a) ≡ flow_depth older
  pub some : 0 < length older
  pub shut : (e : ℕ) → open_at e (newest ∷ older) ≡ None
  pub mark : Token
  pub is : mark ≡ token_in (record { encoding = x; text = a ++ b }) newest
  pub base : flat_map (spell (record { encoding = x; text = a ++ b })) (finished_tokens (newest ∷ older)) ≡ front ++ mark ∷ []
  pub behind : List Token
  pub are : (scan_of x (a ++ b)).tokens ≡ front ++ mark ∷ behind
  pub begins : mark.body ≡ body
  pub there : mark.start_mark ≡ last.start_mark
  pub place : last.start_mark.index ≡ length a
  pub end : mark.end_mark ≡ mark_at (a ++ b) (length a + 3)
  pub over : last.body ≡ tokens.stream_end

all_tokens : (s : SpelledText)
    → (offline s).tokens ≡ flat_map (spell s) (handed s.text) ++ kept_of (next s.text (all s.text)) (all s.text)
unfolding remaining
all_tokens s = refl

begun_at : (x : yaml_encoding_t) (a b : List ℕ) → IsCut a b → (m : MarkStands b 0)
    → (j : ℕ) (E : Lexeme) → EndsAt a j E → all a ≡ E ∷ history a j → next a (all a) ≡ Ends
    → (y : Lexeme) (h : List Lexeme) → history a j ≡ y ∷ h
    → (front : List Token) (last : Token) → (scan_of x a).tokens ≡ front ++ last ∷ []
    → Begun x a b m.kind m.body front last
unfolding lexeme_at
begun_at x a b cut m j E at is over y h same front last are =
    let s : SpelledText = record { encoding = x; text = a } in
    let W = a ++ b in
    let v : SpelledText = record { encoding = x; text = W } in
    let K = m.kind in
    let H = y ∷ h in
    let stands : Stands a H = subst (Stands a) same (history_stands a j) in
    let early : AllEarly (line_at a (length a)) H = subst (AllEarly (line_at a (length a))) same (all_early a b cut j E at j (omega arith)) in
    let reads : next a H ≡ Read E = ap (next a) (sym same) ∙ at.reads in
    let M = lexeme_behind K W H in
    let r = mark_reads_there a b cut y h stands early E reads at.ends m in
    let steps : history W (suc j) ≡ M ∷ H =
    history_more W j ∙ ap (λ z. extended (next W z) z) (front_history a b cut j E at j (omega arith) ∙ same) ∙ ap (λ z. extended z H) r.reads in
    let line_same : line_at a (length a) ≡ line_at W (length a) = ap (λ (k : yaml_mark_t). k.line) (mark_there a b cut) in
    let low : line_at a (length a) ≤ M.reached.line = omega (arith, r.below, line_same) in
    let all_low : AllEarly (line_at a (length a)) (M ∷ H) = (λ saved. absurd (true≢false (sym saved ∙ r.lies.saved)), early) in
    let shut : (e : ℕ) → open_at e (M ∷ H) ≡ None = λ e. none_fresh (line_at a (length a)) (candidate e (M ∷ H)) M.reached low (λ c k. candidate_early (line_at a (length a)) (M ∷ H) all_low e c k) in
    let rest = drop (length (M ∷ H)) (handed W) in
    let kept = kept_of (next W (all W)) (all W) in
    let old = flat_map (spell s) (finished_tokens H) in
    let carry : AllCarry x a W 0 0 H = subst (AllCarry x a W 0 0) same (front_carry x a b cut j E at j (omega arith)) in
    let closed = closings E.depth H E.start in
    let mark_told : spell v (entry_of M H) ≡ closed ++ token_in v M ∷ [] =
    outer_spelled v M H K r.lies.kind m.is.outside m.is.start
    ∙ ap (λ d. closings d H M.start ++ token_in v M ∷ []) (r.lies.deep ∙ sym r.deep) ∙ ap (λ k. closings E.depth H k ++ token_in v M ∷ []) (r.lies.start ∙ sym r.place) in
    let base : flat_map (spell v) (finished_tokens (M ∷ H)) ≡ (old ++ closed) ++ token_in v M ∷ [] =
    ap (flat_map (spell v)) (outer_entries M H K r.lies.kind m.is.value)
    ∙ flat_map-append (spell v) (finished_tokens H) (entry_of M H ∷ [])
    ∙ ap (λ z. z ++ (spell v (entry_of M H) ++ [])) (front_told x a b H carry)
    ∙ ap (λ z. old ++ z) (append-nil (spell v (entry_of M H)) ∙ mark_told)
    ∙ sym (append_assoc old closed (token_in v M ∷ [])) in
    let ends : (scan_of x a).tokens ≡ (old ++ closed) ++ token_in s E ∷ [] =
    offline_told s ∙ ap (λ z. told s z (all a)) over ∙ append-nil (flat_map (spell s) (finished_tokens (all a)))
    ∙ ap (λ z. flat_map (spell s) (finished_tokens z)) (is ∙ ap (λ z. E ∷ z) same)
    ∙ ap (flat_map (spell s)) (outer_entries E H kinds.StreamEnd r.end refl)
    ∙ flat_map-append (spell s) (finished_tokens H) (entry_of E H ∷ [])
    ∙ ap (λ z. old ++ z) (append-nil (spell s (entry_of E H)) ∙ outer_spelled s E H kinds.StreamEnd r.end refl refl)
    ∙ sym (append_assoc old closed (token_in s E ∷ [])) in
    let (fronts, lasts) = same_from_push front (old ++ closed) last (token_in s E) (sym are ∙ ends) in
    let more = flat_map (spell v) rest ++ kept in
    record {
      newest = M;
      older = H;
      steps = suc j;
      history_is = steps;
      lies = r.lies;
      flat = r.flat;
      deep = ap flow_depth (is ∙ ap (λ z. E ∷ z) same) ∙ ap (λ k. depth_after k E.depth) r.end ∙ r.deep;
      some = omega arith;
      shut = shut;
      mark = token_in v M;
      is = refl;
      base = base ∙ ap (λ z. z ++ token_in v M ∷ []) (sym fronts);
      behind = more;
      are = all_tokens v ∙ ap (λ z. flat_map (spell v) z ++ kept) (handed_first W (suc j) (M ∷ H) steps shut)
          ∙ ap (λ z. z ++ kept) (flat_map-append (spell v) (finished_tokens (M ∷ H)) rest)
          ∙ append_assoc (flat_map (spell v) (finished_tokens (M ∷ H))) (flat_map (spell v) rest) kept
          ∙ ap (λ z. z ++ more) base ∙ append_assoc (old ++ closed) (token_in v M ∷ []) more
          ∙ ap (λ z. z ++ token_in v M ∷ more) (sym fronts);
      begins = ap (λ k. body_by k v M) r.lies.kind ∙ m.is.told v M;
      there = r.lies.start ∙ sym r.place ∙ ap (λ (t : Token). t.start_mark) (sym lasts);
      place = ap (λ (t : Token). t.start_mark.index) lasts ∙ ap (λ (k : yaml_mark_t). k.index) r.place;
      end = r.lies.end;
      over = ap (λ (t : Token). t.body) lasts ∙ ap (λ k. body_by k s E) r.end;
    }

-- A front without fault, whatever it leaves open, before a mark.
pub begun_by : (x : yaml_encoding_t) (a b : List ℕ) → IsCut a b → (m : MarkStands b 0)
    → (scan_of x a).fault ≡ None
    → (front : List Token) (last : Token) → (scan_of x a).tokens ≡ front ++ last ∷ []
    → Begun x a b m.kind m.body front last
begun_by x a b cut m none front last are =
    let s : SpelledText = record { encoding = x; text = a } in
    let over = fault_none (next a (all a)) (sym (fault_next s) ∙ none) (all_ends a) in
    let n = suc (suc (length a)) in
    let end : ended (history a n) ≡ true = ap ended (sym (all_is a)) ∙ ends_ended a (all a) over in
    let (j, E, at, is) = end_step a n end in
    by over j E at (all_is a ∙ is) (history a j) refl
  where
    by : next a (all a) ≡ Ends → (j : ℕ) (E : Lexeme) → EndsAt a j E → all a ≡ E ∷ history a j
        → (H : List Lexeme) → history a j ≡ H → Begun x a b m.kind m.body front last
    by over j E at is [] same =
        absurd (true≢false (sym at.ends ∙ ap (λ (l : Lexeme). is_end l.kind) (sym (first_is a E (ap (next a) (sym same) ∙ at.reads)))))
    by over j E at is (y ∷ h) same = begun_at x a b cut m j E at is over y h same front last are

-- Before `---` the whole has its tokens, and DOCUMENT-START in place of its end.
pub begun : (x : yaml_encoding_t) (a b : List ℕ) → IsCut a b → is_document_start b 0 ≡ true
    → (scan_of x a).fault ≡ None
    → (front : List Token) (last : Token) → (scan_of x a).tokens ≡ front ++ last ∷ []
    → Begun x a b kinds.DocumentStart tokens.document_start front last
begun x a b cut begins none front last are = begun_by x a b cut (start_stands b 0 begins) none front last are

-- Before `...` it has DOCUMENT-END there.
pub begun_over : (x : yaml_encoding_t) (a b : List ℕ) → IsCut a b → is_document_end b 0 ≡ true
    → (scan_of x a).fault ≡ None
    → (front : List Token) (last : Token) → (scan_of x a).tokens ≡ front ++ last ∷ []
    → Begun x a b kinds.DocumentEnd tokens.document_end front last
begun_over x a b cut begins none front last are = begun_by x a b cut (end_stands b 0 begins) none front last are
