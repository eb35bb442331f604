-- Texts of key-free words.
use Rattle.std.proofs.Common.{◌≡◌, ℕ, suc, ◌&&◌, not, nat_lt, Bool, true, false, List, [], ◌∷◌, ◌++◌, length, map, reverse, Option, Some, None, Ok, refl, sym, ap, subst, ◌∙◌, arith}
use Rattle.yaml_scan_laws.proofs.TextWords.{nat_tests, and_parts, not-true, reverse-append, list_all, Token, TokenBody, mark_at, Kind, Lexeme, is_end, flow_depth, ended, placed, WordText, kind_at, lexeme_at, Next, Read, Ends, next, extended, history, SpelledText, body_by, token_in, all, Remaining, offline, asked_after, asked, fits, is_key_free, is_level_free, kinds_of, gap_in, end_in, lexeme_of, placed_index}
use Rattle.yaml_scan_laws.proofs.HistoryForward.{last_is_all}
use Rattle.yaml_scan_laws.proofs.WordForward.{FitsAny, kind_fits}
use Rattle.yaml_scan_laws.specs.KeysTexts.{Word, lexemes, StandsBehind, WordsStand, word_kinds, token_of, first_token, ReachEnd}
use Rattle.yaml_scan_laws.proofs.FreeLemmas.{AllMade, history_made, level_free, level_rest}
use Rattle.yaml_scan_laws.proofs.StepLemmas.{remaining_bare, step_reads}
use Rattle.yaml_scan_laws.proofs.RemainingForward.{never_read}

-- the stream's start changes nothing

asked_first : (text : List ℕ) (ws : List Word)
    → asked (kinds_of (lexemes text ws)) ≡ asked (word_kinds ws)
unfolding asked lexemes
asked_first text [] = refl
asked_first text (w ∷ ws) = ap (λ (qs : List Bool). asked_after w.kind qs) (asked_first text ws)

free_first : (text : List ℕ) (ws : List Word)
    → is_key_free (kinds_of (lexemes text ws)) ≡ is_key_free (word_kinds ws)
unfolding is_key_free lexemes
free_first text [] = refl
free_first text (w ∷ ws) = ap (λ (qs : List Bool). fits w.kind qs && is_key_free (kinds_of (lexemes text ws))) (asked_first text ws) ∙ ap (λ (b : Bool). fits w.kind (asked (word_kinds ws)) && b) (free_first text ws)

level_first : (text : List ℕ) (ws : List Word)
    → is_level_free (kinds_of (lexemes text ws)) ≡ is_level_free (word_kinds ws)
unfolding is_level_free lexemes
level_first text [] = refl
level_first text (w ∷ ws) = grind (arith, nat_tests, asked_first, level_first text ws)

-- none of the words ends the stream
abbrev GoOn : List Word → Type 0
GoOn ws = list_all (λ (x : Word). not (is_end x.kind)) ws ≡ true

goes_on : (text : List ℕ) (ws : List Word) → GoOn ws → ended (lexemes text ws) ≡ false
unfolding lexemes
goes_on text [] g = refl
goes_on text (w ∷ ws) g = not-true (is_end w.kind) (and_parts (not (is_end w.kind)) (list_all (λ (x : Word). not (is_end x.kind)) ws) g).0

-- as many steps as there are words, and the first, read them
words_history : (text : List ℕ) (w : Word) (ws : List Word) → WordsStand text (w ∷ ws)
    → is_level_free (w.kind ∷ word_kinds ws) ≡ true → GoOn ws
    → history text (suc (length ws)) ≡ lexemes text ws
    → history text (suc (suc (length ws))) ≡ lexemes text (w ∷ ws)
unfolding history lexemes WordsStand
words_history text w ws (stands, more) free on before =
    let h = lexemes text ws in
    let P : List Lexeme → Type 0 = λ x. AllMade x in
    let Q : List Lexeme → Type 0 = λ x. (k : Kind) (t : WordText) → AllMade x → is_level_free (k ∷ kinds_of x) ≡ true → ended x ≡ false
    → kind_at (nat_lt 0 (flow_depth x)) text (gap_in text x).place ≡ Some k
    → lexeme_at k (nat_lt 0 (flow_depth x)) 0 text (gap_in text x).place ≡ Ok t
    → next text x ≡ Read (lexeme_of text x (gap_in text x) k t) in
    let made = subst P before (history_made text (suc (length ws))) in
    let reads = subst Q before (step_reads text (length ws)) in
    let kind = ap (λ p. kind_at (nat_lt 0 (flow_depth h)) text p) stands.place ∙ stands.kind in
    let said = ap (λ p. lexeme_at w.kind (nat_lt 0 (flow_depth h)) 0 text p) stands.place ∙ stands.said in
    ap (λ (x : List Lexeme). extended (next text x) x) before
    ∙ ap (λ (x : Next). extended x h) (reads w.kind w.said made (unfold lexemes in level_first text (w ∷ ws) ∙ free) (goes_on text ws on) kind said)

read_so_far : (text : List ℕ) (ws : List Word) → WordsStand text ws
    → is_level_free (word_kinds ws) ≡ true → GoOn ws
    → history text (suc (length ws)) ≡ lexemes text ws
unfolding history next lexemes WordsStand
read_so_far text [] stand free on = refl
read_so_far text (w ∷ ws) (stands, more) free on =
    let rest : GoOn ws = (and_parts (not (is_end w.kind)) (list_all (λ (x : Word). not (is_end x.kind)) ws) on).1 in
    words_history text w ws (stands, more) free rest (read_so_far text ws more (level_rest w.kind (word_kinds ws) free) rest)

-- nothing comes after the end
ends_behind : (text : List ℕ) (h : List Lexeme) → ended h ≡ true → next text h ≡ Ends
unfolding next
ends_behind text h e = grind (arith, nat_tests)

-- tokens

not_start : (o : Option Kind) (text : List ℕ) (p : ℕ) (k : Kind) → FitsAny o text p → o ≡ Some k
    → FitsAny (Some k) text p
not_start o text p k f e = let P : Option Kind → Type 0 = λ x. FitsAny x text p in subst P e f

body_is : (k : Kind) (s : SpelledText) (l : Lexeme) (p : ℕ) (w : WordText)
    → FitsAny (Some k) s.text p → l.level ≡ 0 → l.start.index ≡ p
    → lexeme_at k (nat_lt 0 l.depth) 0 s.text p ≡ Ok w
    → body_by k s l ≡ w.body
body_is k s l p w f level at said = grind (arith, nat_tests)

pub token_is : (s : SpelledText) (w : Word) (h : List Lexeme) → StandsBehind s.text h w
    → token_in s (lexeme_of s.text h (gap_in s.text h) w.kind w.said) ≡ token_of s.text w
token_is s w h stands =
    let gap = gap_in s.text h in
    let l = lexeme_of s.text h gap w.kind w.said in
    let fit = not_start (kind_at (nat_lt 0 (flow_depth h)) s.text w.place) s.text w.place w.kind (kind_fits (nat_lt 0 (flow_depth h)) s.text w.place) stands.kind in
    let body = body_is w.kind s l w.place w.said fit refl (placed_index w.kind (mark_at s.text gap.place) ∙ stands.place) stands.said in
    ap (λ (b : TokenBody). record { body = b; start_mark = l.start; end_mark = l.end }) body
    ∙ ap (λ (p : ℕ). record { body = w.said.body; start_mark = placed w.kind (mark_at s.text p); end_mark = end_in s.text w.kind p w.said.end }) stands.place

own_more : (s : SpelledText) (xs ys : List Lexeme)
    → map (token_in s) (xs ++ ys) ≡ map (token_in s) xs ++ map (token_in s) ys
own_more s [] ys = refl
own_more s (x ∷ xs) ys = rw (own_more s xs ys) refl

of_more : (text : List ℕ) (xs ys : List Word)
    → map (token_of text) (xs ++ ys) ≡ map (token_of text) xs ++ map (token_of text) ys
of_more text [] ys = refl
of_more text (x ∷ xs) ys = rw (of_more text xs ys) refl

tokens_are : (s : SpelledText) (ws : List Word) → WordsStand s.text ws
    → map (token_in s) (reverse (lexemes s.text ws)) ≡ first_token s
    ∷ map (token_of s.text) (reverse ws)
unfolding lexemes WordsStand
tokens_are s [] stand = refl
tokens_are s (w ∷ ws) (stands, more) =
    let h = lexemes s.text ws in
    let l = lexeme_of s.text h (gap_in s.text h) w.kind w.said in
    ap (λ (xs : List Lexeme). map (token_in s) xs) (reverse-append (l ∷ []) h) ∙ own_more s (reverse h) (l ∷ [])
    ∙ ap (λ (ts : List Token). ts ++ token_in s l ∷ []) (tokens_are s ws more)
    ∙ ap (λ (t : Token). (first_token s ∷ map (token_of s.text) (reverse ws)) ++ t ∷ []) (token_is s w h stands)
    ∙ ap (λ (ts : List Token). first_token s ∷ ts) (sym (ap (λ (xs : List Word). map (token_of s.text) xs) (reverse-append (w ∷ []) ws) ∙ of_more s.text (reverse ws) (w ∷ [])))

pub words_lexemes : (text : List ℕ) (ws : List Word) → WordsStand text ws
    → is_level_free (word_kinds ws) ≡ true → ReachEnd ws
    → (all text ≡ lexemes text ws) × (next text (all text) ≡ Ends)
unfolding lexemes WordsStand
words_lexemes text [] stand free end = absurd end
words_lexemes text (w ∷ ws) (stands, more) free (end, on) =
    let rest = level_rest w.kind (word_kinds ws) free in
    let read = words_history text w ws (stands, more) free on (read_so_far text ws more rest on) in
    let h = lexemes text (w ∷ ws) in
    let ends : next text (history text (suc (suc (length ws)))) ≡ Ends = ap (λ (x : List Lexeme). next text x) read ∙ ends_behind text h end in
    let whole : all text ≡ h = last_is_all text (suc (suc (length ws))) (λ l. never_read _ l ends) ∙ read in
    (whole, ap (λ (x : List Lexeme). next text x) whole ∙ ends_behind text h end)

-- Words that are in a text, free of keys, are read as their tokens.
pub words_read : (s : SpelledText) (ws : List Word) → WordsStand s.text ws
    → is_key_free (word_kinds ws) ≡ true → ReachEnd ws
    → offline s ≡ record {
      tokens = first_token s
          ∷ map (token_of s.text) (reverse ws);
      fault = None;
    }
words_read s ws stand free end =
    let (whole, ends) = words_lexemes s.text ws stand (level_free (word_kinds ws) free) end in
    let free_all : is_key_free (kinds_of (all s.text)) ≡ true = ap (λ (x : List Lexeme). is_key_free (kinds_of x)) whole ∙ free_first s.text ws ∙ free in
    let same = ap (λ (x : List Lexeme). map (token_in s) (reverse x)) whole ∙ tokens_are s ws stand in
    remaining_bare s free_all ends 0 0 ∙ ap (λ (ts : List Token). let one : Remaining = record { tokens = ts; fault = None } in one) same
