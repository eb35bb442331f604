-- How the tokens of a text begin and end.
use Rattle.std.proofs.Common.{◌≡◌, ◌≢◌, ℕ, zero, suc, ◌+◌, ◌<◌, Bool, true, false, if◌then◌else◌, List, [], ◌∷◌, ◌++◌, length, take, drop, get_or, Some, None, Result, refl, sym, ap, subst, ◌∙◌, inl, inr, append_assoc, append-nil, arith}
use Rattle.yaml_scan_laws.proofs.Words.{nat_tests, cases_Bool, true≢false, flat_map, ScanFault, Token, TokenBody, stream_start, stream_end, block_end, zero_mark, no_token, Fault, Wrong, yaml_scalar_style_t, TagText, Said, DirectiveText, PlainText, BlockText, Kind, Lexeme, Entry, is_end, ended, finished_tokens, open_levels, candidate, first_open, mark_key, keyed, entry_of, lexeme_at, valued, tagged, body_said, directed, blocked, plainly, Next, Read, Fails, Ends, first_lexeme, next, history, SpelledText, body_of_word, body_by, token_in, before, start_tokens, end_tokens, own_tokens, spell, all, handed, front_ends, fault_in, remaining, offline}
use Rattle.std.proofs.lemmas.Grind.{flat_map-append}
use Rattle.std.proofs.lemmas.List.Elements.{All-nil, All-cons, All-append, All-replicate}
use Rattle.std.specs.Prelude.{All}
use Rattle.yaml_scan_history.specs.scan_types.Tokens as tokens
use Rattle.yaml_scan_history.specs.declared.lexeme.Opens.{Opens}
use Rattle.yaml_scan_laws.proofs.NextForward.{ReadsBehind, next_reads}
use Rattle.yaml_scan_laws.proofs.HistoryForward.{Stands, history_stands, all_ends}
use Rattle.yaml_scan_laws.proofs.HeldForward.{Chain, history_chain}
use Rattle.yaml_scan_laws.proofs.RemainingForward.{settled_comes}

-- not the stream's end
abbrev IsOther : TokenBody → Type 0
IsOther tokens.stream_end = ⊥
IsOther _ = Unit {0}

abbrev IsOtherToken : Token → Type 0
IsOtherToken t = IsOther t.body

differs : (b : TokenBody) → IsOther b → b ≢ stream_end
differs b h e = subst IsOther e h

all_differ : (ts : List Token) → All IsOtherToken ts → All (λ t. t.body ≢ stream_end) ts
all_differ ts h k d l = differs (get_or ts k d).body (h k d l)

valued_other : (f : List ℕ → TokenBody) (r : Result (List ℕ × ℕ) Wrong)
    → ((v : List ℕ) → IsOther (f v)) → IsOther (body_of_word (valued f r))
valued_other f r h = grind (arith, nat_tests)

tagged_other : (r : Result TagText Wrong) → IsOther (body_of_word (tagged r))
tagged_other r = grind (arith, nat_tests)

said_other : (said : Said) → IsOther (body_said said)
said_other said = grind (arith, nat_tests)

directed_other : (r : Result DirectiveText Wrong) → IsOther (body_of_word (directed r))
directed_other r = grind (arith, nat_tests, said_other)

blocked_other : (style : yaml_scalar_style_t) (r : Result BlockText Wrong)
    → IsOther (body_of_word (blocked style r))
blocked_other style r = grind (arith, nat_tests)

plainly_other : (r : Result PlainText Wrong) → IsOther (body_of_word (plainly r))
plainly_other r = grind (arith, nat_tests)

-- only the stream's end carries it
body_other : (k : Kind) (s : SpelledText) (l : Lexeme) → is_end k ≡ false → IsOther (body_by k s l)
unfolding lexeme_at
body_other k s l e = grind (arith, directed_other, valued_other, tagged_other, blocked_other, plainly_other)

end_body : (k : Kind) (s : SpelledText) (l : Lexeme) → is_end k ≡ true → body_by k s l ≡ stream_end
unfolding lexeme_at
end_body k s l e = grind (arith, nat_tests, true≢false)

starts_other : (o : Opens) (l : Lexeme) → All IsOtherToken (start_tokens o l)
starts_other o l = grind (arith, nat_tests, All-nil, All-cons)

ends_other : (e : Entry) → All IsOtherToken (end_tokens e)
ends_other e = All-replicate IsOtherToken e.ends (before block_end e.lexeme) tt

front_other : (s : SpelledText) (e : Entry)
    → All IsOtherToken (end_tokens e ++ start_tokens e.opens e.lexeme)
front_other s e = All-append IsOtherToken (end_tokens e) (start_tokens e.opens e.lexeme) (ends_other e) (starts_other e.opens e.lexeme)

own_other : (key : Bool) (t u : Token) → IsOtherToken t → IsOtherToken u
    → All IsOtherToken (if key then t ∷ u ∷ [] else u ∷ [])
own_other key t u h k = grind (arith, nat_tests, All-cons, All-nil)

spell_other : (s : SpelledText) (e : Entry) → is_end e.lexeme.kind ≡ false
    → All IsOtherToken (spell s e)
spell_other s e h =
    All-append IsOtherToken (end_tokens e ++ start_tokens e.opens e.lexeme) (own_tokens s e) (front_other s e)
    (own_other e.key (before tokens.key e.lexeme) (token_in s e.lexeme) tt (body_other e.lexeme.kind s e.lexeme h))

-- no entry is the stream's end
abbrev NoEnd : List Entry → Type 0
NoEnd [] = Unit {0}
NoEnd (e ∷ es) = (is_end e.lexeme.kind ≡ false) × NoEnd es

pool_other : (s : SpelledText) (es : List Entry) → NoEnd es
    → All IsOtherToken (flat_map (spell s) es)
pool_other s [] h = All-nil IsOtherToken
pool_other s (e ∷ es) (h, more) = All-append IsOtherToken (spell s e) (flat_map (spell s) es) (spell_other s e h) (pool_other s es more)

mark_no_end : (ls : List ℕ) (es : List Entry) (n : ℕ) → NoEnd es → NoEnd (mark_key ls es n)
unfolding mark_key
mark_no_end ls [] n h = tt
mark_no_end ls (e ∷ es) zero (h, more) = (h, more)
mark_no_end ls (e ∷ es) (suc n) (h, more) = (h, mark_no_end ls es n more)

keyed_no_end : (l : Lexeme) (h : List Lexeme) (es : List Entry) → NoEnd es → NoEnd (keyed l h es)
keyed_no_end l h es n = grind (arith, mark_no_end)

push_no_end : (es : List Entry) (e : Entry) → NoEnd es → is_end e.lexeme.kind ≡ false
    → NoEnd (es ++ e ∷ [])
push_no_end [] e h k = (k, tt)
push_no_end (x ∷ es) e (h, more) k = (h, push_no_end es e more k)

take_no_end : (n : ℕ) (es : List Entry) → NoEnd es → NoEnd (take n es)
take_no_end zero es h = tt
take_no_end (suc n) [] h = tt
take_no_end (suc n) (e ∷ es) (h, more) = (h, take_no_end n es more)

entries_no_end : (text : List ℕ) (h : List Lexeme) → Chain text h → ended h ≡ false
    → NoEnd (finished_tokens h)
unfolding finished_tokens
entries_no_end text [] c e = tt
entries_no_end text (l ∷ h) (b, c) e = push_no_end (keyed l h (finished_tokens h)) (entry_of l h) (keyed_no_end l h (finished_tokens h) (entries_no_end text h c b.open_end)) e

chain_all : (text : List ℕ) → Chain text (all text)
unfolding all
chain_all text = history_chain text (length text + 2)

stands_all : (text : List ℕ) → Stands text (all text)
unfolding all
stands_all text = history_stands text (length text + 2)

-- nothing more comes only after the end
ends_ended : (text : List ℕ) (h : List Lexeme) → Stands text h → next text h ≡ Ends → ended h ≡ true
unfolding next
ends_ended text [] s e = let bad : Read first_lexeme ≡ Ends = e in absurd cc
ends_ended text (x ∷ h) s e =
    elim (cases_Bool (is_end x.kind)) [
      | inl over ↦ over
      | inr more ↦ absurd (subst (ReadsBehind text x.reached.index) e (next_reads text x h more s.inside))
    ]

fails_open : (text : List ℕ) (h : List Lexeme) (p : ScanFault) → next text h ≡ Fails p
    → ended h ≡ false
unfolding next
fails_open text h p e = grind arith

-- tokens that end in STREAM-END, and have none before
record IsWhole (ts : List Token) : Type 0 where
  pub front : List Token
  pub last : Token
  pub are : ts ≡ front ++ last ∷ []
  pub end : last.body ≡ stream_end
  pub others : All IsOtherToken front

whole_pool : (s : SpelledText) (h : List Lexeme) → Chain s.text h → ended h ≡ true
    → IsWhole (flat_map (spell s) (finished_tokens h) ++ [])
unfolding finished_tokens
whole_pool s [] c e = absurd (true≢false (sym e))
whole_pool s (l ∷ h) (b, c) e =
    let es = keyed l h (finished_tokens h) in
    let x = entry_of l h in
    let a = end_tokens x ++ start_tokens x.opens x.lexeme in
    let before_last = flat_map (spell s) es in
    record {
      front = before_last ++ a;
      last = token_in s l;
      are = append-nil (flat_map (spell s) (es ++ x ∷ [])) ∙ flat_map-append (spell s) es (x ∷ []) ∙ ap (λ ts. before_last ++ ts) (append-nil (spell s x)) ∙ sym (append_assoc before_last a (token_in s l ∷ []));
      end = end_body l.kind s l e;
      others = All-append IsOtherToken before_last a (pool_other s es (keyed_no_end l h (finished_tokens h) (entries_no_end s.text h c b.open_end))) (front_other s x);
    }

kept_other : (h : List Lexeme) (es : List Entry) → All IsOtherToken (front_ends es)
kept_other h es = grind (arith, nat_tests, All-nil, ends_other)

failed_pool : (s : SpelledText) (h : List Lexeme) → Chain s.text h → ended h ≡ false
    → All IsOtherToken (flat_map (spell s) (take (first_open h h) (finished_tokens h))
    ++ front_ends (drop (first_open h h) (finished_tokens h)))
failed_pool s h c e =
    All-append IsOtherToken (flat_map (spell s) (take (first_open h h) (finished_tokens h))) (front_ends (drop (first_open h h) (finished_tokens h)))
    (pool_other s (take (first_open h h) (finished_tokens h)) (take_no_end (first_open h h) (finished_tokens h) (entries_no_end s.text h c e))) (kept_other h (drop (first_open h h) (finished_tokens h)))

-- no fault
pub fault_none : (x : Next) → fault_in x ≡ None → ((l : Lexeme) → x ≢ Read l) → x ≡ Ends
fault_none x e never = grind (arith, nat_tests)

fault_some : (x : Next) (f : Fault) → fault_in x ≡ Some f → (p : ScanFault) × (x ≡ Fails p)
fault_some x f e = grind (arith, nat_tests)

-- the fault of a text's tokens is what its lexemes end in
pub fault_next : (s : SpelledText) → (offline s).fault ≡ fault_in (next s.text (all s.text))
unfolding remaining
fault_next s = refl

ended_tokens : (s : SpelledText) → next s.text (all s.text) ≡ Ends
    → (offline s).tokens ≡ flat_map (spell s) (finished_tokens (all s.text)) ++ []
unfolding remaining handed
ended_tokens s e = rw e refl

-- a text without fault ends in STREAM-END, and has none before
pub stream_ends : (s : SpelledText) → (offline s).fault ≡ None
    → (front : List Token) × (last : Token)
    × ((offline s).tokens ≡ front ++ last ∷ []) × (last.body ≡ stream_end)
    × All (λ t. t.body ≢ stream_end) front
stream_ends s e =
    let over = fault_none (next s.text (all s.text)) (sym (fault_next s) ∙ e) (all_ends s.text) in
    let w = whole_pool s (all s.text) (chain_all s.text) (ends_ended s.text (all s.text) (stands_all s.text) over) in
    (w.front, w.last, ended_tokens s over ∙ w.are, w.end, all_differ w.front w.others)

failed_tokens : (s : SpelledText) (p : ScanFault) → next s.text (all s.text) ≡ Fails p
    → let h = all s.text in
    (offline s).tokens ≡ flat_map (spell s) (take (first_open h h) (finished_tokens h))
    ++ front_ends (drop (first_open h h) (finished_tokens h))
unfolding remaining handed
failed_tokens s p e = rw e refl

-- one with a fault has none
pub fault_ends_none : (s : SpelledText) (f : Fault) → (offline s).fault ≡ Some f
    → All (λ t. t.body ≢ stream_end) (offline s).tokens
fault_ends_none s f e =
    let (p, fails) = fault_some (next s.text (all s.text)) f (sym (fault_next s) ∙ e) in
    let others = failed_pool s (all s.text) (chain_all s.text) (fails_open s.text (all s.text) p fails) in
    all_differ (offline s).tokens (subst (λ ts. All IsOtherToken ts) (sym (failed_tokens s p fails)) others)

abbrev any_entry : Entry
any_entry = entry_of first_lexeme []

first_spelled : (s : SpelledText)
    → spell s (get_or (finished_tokens (history s.text 1)) 0 any_entry)
    ≡ record { body = stream_start s.encoding; start_mark = zero_mark; end_mark = zero_mark } ∷ []
unfolding history next finished_tokens open_levels candidate
first_spelled s = refl

first_known : (text : List ℕ) → 0 < first_open (history text 1) (history text 1)
unfolding history next first_open candidate
first_known text = omega arith

-- the first token is STREAM-START
pub stream_starts : (s : SpelledText)
    → (rest : List Token) × ((offline s).tokens
    ≡ record { body = stream_start s.encoding; start_mark = zero_mark; end_mark = zero_mark }
    ∷ rest)
stream_starts s =
    let (gives, done) = settled_comes s 1 0 0 any_entry no_token (first_known s.text) in
    let (front, fault) = gives (omega (arith, ap length (first_spelled s))) in
    ((remaining s 0 (0 + 1)).tokens, front ∙ ap (λ (ts : List Token). get_or ts 0 no_token ∷ (remaining s 0 (0 + 1)).tokens) (first_spelled s))
