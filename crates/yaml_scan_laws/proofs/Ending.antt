-- What entries say; a text begins with the stream's start, and ends with its end.
use Rattle.std.proofs.Common.{◌≡◌, ℕ, zero, suc, Bool, true, false, List, [], ◌∷◌, ◌++◌, map, replicate, flat_map, refl, sym, ap, ◌∙◌, append_assoc, ◌+◌, ◌-◌, ◌==◌, ◌&&◌, nat_lt, length, Some, None, Ok, arith}
use Rattle.yaml_scan_laws.proofs.LevelWords.{nat_tests, append_cancel_left, flat_map-append, Token, TokenBody, block_end, key, Lexeme, Entry, Opens, SpelledText, body_in, before, spell, start_tokens, own_tokens, entry, bodies_of, told, start_bodies, WordTells, LevelTells, KeyTells, append-nil, mark_at, stream_end, Gap, flow_depth, reached, candidate, fresh, indent, open_levels, finished_tokens, WordText, kind_at, lexeme_at, Next, Read, Ends, first_lexeme, gap_behind, allowed_behind, missed, lost_by, level_in, next, history, behind, all, handed_out, handed, kept_of, fault_in, Remaining, remaining, offline, Came, Rises, Front, Idle, InTime, StartStands, end_at, EndIsRead}
use Rattle.yaml_scan_history.specs.declared.lexeme.Opens.TheVariants as opening
use Rattle.yaml_scan_history.specs.declared.kind.Kind.TheVariants as kinds
use Rattle.yaml_scan_laws.proofs.HistoryForward.{last_is_all}
use Rattle.yaml_scan_laws.proofs.StepLemmas.{remaining_of}
use Rattle.yaml_scan_laws.proofs.Pushing.{left_outside, unless_so, came_some, tested_read, fresh_in_time, lost_none, free_push, free_in_time, came_push}
use Rattle.yaml_scan_laws.proofs.RemainingForward.{never_read}

abbrev said : List Token → List TokenBody
said ts = map (λ (t : Token). t.body) ts

said_more : (ts us : List Token) → said (ts ++ us) ≡ said ts ++ said us
said_more [] us = refl
said_more (t ∷ ts) us = ap (λ (bs : List TokenBody). t.body ∷ bs) (said_more ts us)

pub bodies_more : (s : SpelledText) (es fs : List Entry)
    → bodies_of s (es ++ fs) ≡ bodies_of s es ++ bodies_of s fs
bodies_more s es fs = ap (λ (ts : List Token). said ts) (flat_map-append (spell s) es fs) ∙ said_more (flat_map (spell s) es) (flat_map (spell s) fs)

ends_say : (n : ℕ) (l : Lexeme) → said (replicate n (before block_end l)) ≡ replicate n block_end
ends_say zero l = refl
ends_say (suc n) l = ap (λ (bs : List TokenBody). block_end ∷ bs) (ends_say n l)

abbrev key_said : Bool → List TokenBody → List TokenBody
key_said true bs = key ∷ bs
key_said false bs = bs

start_say : (s : SpelledText) (l : Lexeme) (n : ℕ) (what : Opens) (k : Bool) (bs : List TokenBody)
    → let e : Entry = record { lexeme = l; ends = n; opens = what; key = k } in
    said (start_tokens what l) ++ (said (own_tokens s e) ++ bs) ≡ start_bodies what (key_said k (body_in s l ∷ bs))
start_say s l n what k bs = grind arith

spell_says : (s : SpelledText) (l : Lexeme) (n : ℕ) (what : Opens) (k : Bool) (bs : List TokenBody)
    → let e : Entry = record { lexeme = l; ends = n; opens = what; key = k } in
    said (spell s e) ++ bs ≡ replicate n block_end ++ start_bodies what (key_said k (body_in s l ∷ bs))
spell_says s l n what k bs = grind (arith, said_more, append_assoc, ends_say, start_say)

-- one entry before others
entry_says : (s : SpelledText) (l : Lexeme) (n : ℕ) (what : Opens) (k : Bool) (rest : List Entry)
    (bs : List TokenBody)
    → let e : Entry = record { lexeme = l; ends = n; opens = what; key = k } in
    bodies_of s (e ∷ rest) ++ bs ≡ replicate n block_end ++ start_bodies what (key_said k (body_in s l ∷ (bodies_of s rest ++ bs)))
entry_says s l n what k rest bs = grind (arith, said_more, flat_map, append_assoc, spell_says)

-- what is after entries
behind_says : (s : SpelledText) (done : List Entry) (l : Lexeme) (n : ℕ) (what : Opens) (k : Bool)
    (rest : List Entry) (bs : List TokenBody)
    → let e : Entry = record { lexeme = l; ends = n; opens = what; key = k } in
    told s (done ++ e ∷ rest) 0 bs ≡ told s done n (start_bodies what (key_said k (body_in s l ∷ (bodies_of s rest ++ bs))))
behind_says s done l n what k rest bs = grind (arith, bodies_more, append_assoc, entry_says)

pub word_tells : WordTells
word_tells s es l n what bs = behind_says s es l n what false [] bs

one_more : (n : ℕ) (bs : List TokenBody)
    → replicate (suc n) block_end ++ bs ≡ replicate n block_end ++ block_end ∷ bs
one_more zero bs = refl
one_more (suc n) bs = ap (λ (xs : List TokenBody). block_end ∷ xs) (one_more n bs)

pub level_tells : LevelTells
level_tells s es n bs = ap (λ (xs : List TokenBody). bodies_of s es ++ xs) (one_more n bs)

-- what a key's words say
key_says : (s : SpelledText) (done : List Entry) (l : Lexeme) (n : ℕ) (rest : List Entry)
    (K : List TokenBody → List TokenBody) (bs : List TokenBody)
    → told s (done ++ entry l n opening.Nothing ∷ rest) 0 bs ≡ told s done n (K bs)
    → body_in s l ∷ (bodies_of s rest ++ bs) ≡ K bs
key_says s done l n rest K bs e = grind (arith, nat_tests, append_cancel_left, behind_says)

pub key_tells : KeyTells
key_tells s ms done l n rest v K says bs = grind (arith, word_tells, behind_says, key_says)

-- ---- the start

start_front : (text : List ℕ)
    → Front text (first_lexeme ∷ []) 0 [] (entry first_lexeme 0 opening.Nothing ∷ [])
unfolding Came Rises open_levels finished_tokens candidate
start_front text = record { came = refl; going = refl; depth = refl; levels = refl; rises = tt; entries = refl }

pub start_stands : StartStands
start_stands text = record {
  front = start_front text;
  idle = λ e. free_push first_lexeme [] e (unfold candidate in tt) refl;
  told = λ x bs. refl;
}

-- ---- the end

end_read : (text : List ℕ) (gap : Gap) (h : List Lexeme) (q : ℕ) (a : Bool) (w : WordText)
    → gap.place ≡ q → allowed_behind h gap ≡ a
    → let m = mark_at text q in let l = end_at text h q a in
    kind_at (nat_lt 0 (flow_depth h)) text q ≡ Some kinds.StreamEnd
    → lexeme_at kinds.StreamEnd (nat_lt 0 (flow_depth h)) l.level text q ≡ Ok w
    → missed (fresh (candidate 0 h) (reached h)) m ≡ None
    → lost_by l (fresh (candidate (flow_depth h) h) m) ≡ None
    → InTime (candidate 0 (l ∷ h)) l.reached
    → behind text gap h ≡ Read l
end_read text gap h q a w place allowed kind said none lost time = grind (arith, unless_so, tested_read)

nothing_more : (text : List ℕ) (l : Lexeme) (h : List Lexeme) → l.kind ≡ kinds.StreamEnd
    → next text (l ∷ h) ≡ Ends
unfolding next
nothing_more text l h e = rw e refl

came_history : (text : List ℕ) (h : List Lexeme) → Came text h → history text (length h) ≡ h
unfolding Came history next
came_history text [] came = absurd came
came_history text (l ∷ []) came = ap (λ (x : Lexeme). x ∷ []) (sym came)
came_history text (l ∷ x ∷ h) (read, came) = grind (arith, nat_tests, came_history text (x ∷ h) came)

came_all : (text : List ℕ) (h : List Lexeme) → Came text h → next text h ≡ Ends → all text ≡ h
came_all text h came ends =
    let so = came_history text h came in
    let last : next text (history text (length h)) ≡ Ends = ap (λ (x : List Lexeme). next text x) so ∙ ends in
    last_is_all text (length h) (λ l. never_read _ l last) ∙ so

offline_ends : (s : SpelledText) (h : List Lexeme) → all s.text ≡ h → next s.text h ≡ Ends
    → offline s ≡ record { tokens = flat_map (spell s) (finished_tokens h); fault = None }
unfolding remaining handed
offline_ends s h whole ends =
    let last : next s.text (all s.text) ≡ Ends = ap (λ (x : List Lexeme). next s.text x) whole ∙ ends in
    remaining_of _ (flat_map (spell s) (finished_tokens h)) (fault_in (next s.text (all s.text)))
    (ap (λ (x : Next). flat_map (spell s) (handed_out x (all s.text)) ++ kept_of x (all s.text)) last ∙ ap (λ (x : List Lexeme). flat_map (spell s) (finished_tokens x) ++ []) whole ∙ append-nil (flat_map (spell s) (finished_tokens h)))
    (ap (λ (x : Next). fault_in x) last)

all_less : (n : ℕ) → n - 0 ≡ n
all_less n = omega arith

end_entries : (text : List ℕ) (h : List Lexeme) (ms : List ℕ) (es : List Entry) (q : ℕ) (a : Bool)
    → Front text h 0 ms es → let l = end_at text h q a in
    finished_tokens (l ∷ h) ≡ es ++ entry l (length ms) opening.Nothing ∷ []
unfolding finished_tokens
end_entries text h ms es q a f = grind (arith, left_outside, all_less)

no_key : (a more : Bool) → ((a && false) && more) ≡ false
no_key a more = grind (arith, nat_tests)

end_body : (s : SpelledText) (h : List Lexeme) (q : ℕ) (a : Bool)
    → body_in s (end_at s.text h q a) ≡ stream_end
unfolding lexeme_at
end_body s h q a = refl

pub end_is_read : EndIsRead
unfolding lexeme_at indent
end_is_read x text h ms es q a w f idle meets =
    let s : SpelledText = record { encoding = x; text = text } in
    let k = kinds.StreamEnd in
    let m = mark_at text q in
    let l = end_at text h q a in
    let fs = es ++ entry l (length ms) opening.Nothing ∷ [] in
    let kind : kind_at (nat_lt 0 (flow_depth h)) text q ≡ Some k = ap (λ (n : ℕ). kind_at (nat_lt 0 n) text q) f.depth ∙ meets.kind in
    let unrequired : l.required ≡ false = no_key a (flow_depth h == 0 && level_in k l.start.column h == l.start.column + 1) in
    let still : Idle (l ∷ h) = λ e. free_push l h e (idle e) unrequired in
    let read : next text h ≡ Read l = came_some text h f.came f.going
    ∙ end_read text (gap_behind text h) h q a w meets.place meets.allowed kind meets.word (fresh_in_time (candidate 0 h) (reached h) m (free_in_time (candidate 0 h) m (idle 0)))
    (lost_none l (candidate (flow_depth h) h) m (λ e. idle (flow_depth h))) (free_in_time (candidate 0 (l ∷ h)) l.reached (still 0)) in
    let ends = nothing_more text l h refl in
    let whole = came_all text (l ∷ h) (came_push text l h f.came read) ends in
    let offline_is = offline_ends s (l ∷ h) whole ends ∙ ap (λ (zs : List Entry). let r : Remaining = record { tokens = flat_map (spell s) zs; fault = None } in r) (end_entries text h ms es q a f) in (
      record { read = offline_is; bodies = sym (append-nil (bodies_of s fs)) },
      word_tells s es l (length ms) opening.Nothing [] ∙ ap (λ (b : TokenBody). told s es (length ms) (b ∷ [])) (end_body s h q a),
    )
