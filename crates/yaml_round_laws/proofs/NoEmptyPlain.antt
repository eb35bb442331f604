-- No plain scalar of an input is empty.
use Rattle.std.proofs.lemmas.Bool.Decides.{nat_tests}
use Rattle.std.proofs.Common.{◌≡◌, ℕ, zero, suc, if◌then◌else◌, true, false, true≢false, List, [], ◌∷◌, ◌++◌, drop, replicate, Option, Result, Ok, Err, refl, flat_map, arith}
use Rattle.std.proofs.lemmas.Bool.{cases_Bool}
use Rattle.yaml_round_content.specs.scan_model.declared.name.yaml_encoding_t.{yaml_encoding_t}
use Rattle.yaml_round_content.specs.scan_model.declared.name.yaml_scalar_style_t.{yaml_scalar_style_t}
use Rattle.yaml_round_content.specs.scan_model.declared.name.yaml_scalar_style_t.TheVariants as styles
use Rattle.yaml_round_content.specs.scan_types.Tokens as token
use Rattle.yaml_round_content.specs.scan_types.Tokens.{Token, TokenBody, block_end}
use Rattle.yaml_emit_laws.specs.scan_types.Faults.{Fault}
use Rattle.yaml_round_content.specs.scan_model.Wrong.{Wrong}
use Rattle.yaml_scan_history.specs.Pieces.{Line, Kept, folded}
use Rattle.yaml_scan_history.specs.Plain.{Words, words_from, plain_with, plain_text}
use Rattle.yaml_scan_history.specs.Block.{BlockText}
use Rattle.yaml_scan_history.specs.Directives.{Said, DirectiveText}
use Rattle.yaml_scan_history.specs.Tags.{TagText}
use Rattle.yaml_scan_history.specs.declared.Kind.{Kind}
use Rattle.yaml_scan_history.specs.declared.Lexeme.{Lexeme}
use Rattle.yaml_scan_history.specs.declared.Entry.{Entry}
use Rattle.yaml_scan_history.specs.declared.Opens.{Opens}
use Rattle.yaml_scan_history.specs.Words.{WordText, valued, tagged, directed, blocked, plainly, body_said, lexeme_at}
use Rattle.yaml_scan_history.specs.Next.{Next}
use Rattle.yaml_scan_history.specs.Remaining.{SpelledText, body_of_word, body_by, before, start_tokens, end_tokens, own_tokens, spell, front_ends, kept_of, remaining}
use Rattle.yaml_scan_history.specs.Scanned.{scanned_in, scanned}
use Rattle.yaml_scan_decode.specs.Encodings.{encoding_of}
use Rattle.yaml_scan_decode.specs.Decoding.{decoded_text}
use Rattle.yaml_round_content.specs.Adapted.{cut}
use Rattle.yaml_round_content.specs.Input.{tokens_of}
use Rattle.yaml_emit_laws.specs.NodeBodies.{is_empty}
use Rattle.yaml_round_content.specs.Flags.{is_asked_plain}

-- ---- what a lexeme carries

-- a scalar that may be plain has a character
abbrev pub IsFull : TokenBody → Type 0
IsFull (token.scalar value style) = is_asked_plain style ≡ true → is_empty value ≡ false
IsFull _ = Unit {0}

abbrev HasFull : Result WordText Wrong → Type 0
HasFull (Ok w) = IsFull w.body
HasFull (Err w) = Unit {0}

folded_full : (b : ℕ) (l : Line) (others : List (List ℕ × Line))
    → is_empty (folded (Kept (b ∷ []) ∷ l) others) ≡ false
folded_full b l others = grind (arith, nat_tests)

plain_full : (b q : ℕ) (r : Result Words Wrong)
    → HasFull (plainly (plain_with plain_text (words_from (Kept (b ∷ [])) q r)))
plain_full b q r = grind (arith, nat_tests, folded_full)

block_full : (style : yaml_scalar_style_t) (r : Result BlockText Wrong)
    → is_asked_plain style ≡ false → HasFull (blocked style r)
block_full style r h = grind (arith, nat_tests, true≢false)

block_style : (test : _)
    → is_asked_plain (if test then styles.YAML_FOLDED_SCALAR_STYLE else
    styles.YAML_LITERAL_SCALAR_STYLE) ≡ false
block_style true = refl
block_style false = refl

single_full : (r : Result (List ℕ × ℕ) Wrong)
    → HasFull (valued (λ v. token.scalar v styles.YAML_SINGLE_QUOTED_SCALAR_STYLE) r)
single_full r = grind (arith, nat_tests, true≢false)

double_full : (r : Result (List ℕ × ℕ) Wrong)
    → HasFull (valued (λ v. token.scalar v styles.YAML_DOUBLE_QUOTED_SCALAR_STYLE) r)
double_full r = grind (arith, nat_tests, true≢false)

alias_full : (r : Result (List ℕ × ℕ) Wrong) → HasFull (valued token.alias r)
alias_full r = grind (arith, nat_tests)

anchor_full : (r : Result (List ℕ × ℕ) Wrong) → HasFull (valued token.anchor r)
anchor_full r = grind (arith, nat_tests)

tag_full : (r : Result TagText Wrong) → HasFull (tagged r)
tag_full r = grind (arith, nat_tests)

said_full : (s : Said) → IsFull (body_said s)
said_full s = grind (arith, nat_tests)

directive_full : (r : Result DirectiveText Wrong) → HasFull (directed r)
directive_full r = grind (arith, nat_tests, said_full)

word_full : (k : Kind) (flow : _) (level : ℕ) (text : List ℕ) (p : ℕ)
    → HasFull (lexeme_at k flow level text p)
unfolding lexeme_at
word_full k flow level text p = grind (arith, nat_tests, directive_full, alias_full, anchor_full, tag_full, block_full, block_style, single_full, double_full, plain_full)

word_body : (r : Result WordText Wrong) → HasFull r → IsFull (body_of_word r)
word_body r h = grind (arith, nat_tests)

body_full : (k : Kind) (s : SpelledText) (l : Lexeme) → IsFull (body_by k s l)
body_full k s l = grind (arith, nat_tests, word_body, word_full)

-- ---- lists of tokens

abbrev pub AreFull : List Token → Type 0
AreFull [] = Unit {0}
AreFull (t ∷ ts) = IsFull t.body × AreFull ts

full_append : (xs ys : List Token) → AreFull xs → AreFull ys → AreFull (xs ++ ys)
full_append [] ys a b = b
full_append (x ∷ xs) ys (own, a) b = (own, full_append xs ys a b)

full_drop : (n : ℕ) (ts : List Token) → AreFull ts → AreFull (drop n ts)
full_drop zero ts h = h
full_drop (suc n) [] h = tt
full_drop (suc n) (t ∷ ts) (own, h) = full_drop n ts h

full_replicate : (n : ℕ) (t : Token) → IsFull t.body → AreFull (replicate n t)
full_replicate zero t h = tt
full_replicate (suc n) t h = (h, full_replicate n t h)

ends_full : (e : Entry) → AreFull (end_tokens e)
ends_full e = full_replicate e.ends (before block_end e.lexeme) tt

starts_full : (o : Opens) (l : Lexeme) → AreFull (start_tokens o l)
starts_full o l = grind (arith, nat_tests)

own_full : (s : SpelledText) (e : Entry) → AreFull (own_tokens s e)
own_full s e = grind (arith, nat_tests, body_full, cases_Bool)

entry_full : (s : SpelledText) (e : Entry) → AreFull (spell s e)
entry_full s e = grind (arith, nat_tests, full_append, ends_full, starts_full, own_full)

entries_full : (s : SpelledText) (es : List Entry) → AreFull (flat_map (spell s) es)
entries_full s [] = tt
entries_full s (e ∷ es) = full_append (spell s e) (flat_map (spell s) es) (entry_full s e) (entries_full s es)

front_full : (es : List Entry) → AreFull (front_ends es)
front_full es = grind (arith, nat_tests, ends_full)

kept_full : (x : Next) (h : List Lexeme) → AreFull (kept_of x h)
kept_full x h = grind (arith, nat_tests, front_full)

remaining_full : (s : SpelledText) (dropped given : ℕ) → AreFull (remaining s dropped given).tokens
unfolding remaining
remaining_full s dropped given = grind (arith, nat_tests, full_drop, full_append, entries_full, kept_full)

scanned_full : (encoding : yaml_encoding_t) (r : Result (List ℕ) _)
    → AreFull (scanned_in encoding r).tokens
scanned_full encoding r = grind (arith, nat_tests, remaining_full)

cut_full : (fault : Option Fault) (ts : List Token) → AreFull ts → AreFull (cut fault ts).tokens
cut_full fault [] h = tt
cut_full fault (t ∷ ts) h = grind (arith, nat_tests, cases_Bool, cut_full fault ts h.1)

-- of an input
pub tokens_full : (from : yaml_encoding_t) (input : List ℕ) → AreFull (tokens_of from input).tokens
tokens_full from input = cut_full (scanned from input).fault (scanned from input).tokens (scanned_full (encoding_of from input) (decoded_text from input))
