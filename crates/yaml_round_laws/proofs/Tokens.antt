-- The tokens that come of levels weigh no more than the lexemes of a text are worth.
use Rattle.std.proofs.Common.{◌≡◌, ℕ, ◌+◌, ◌≤◌, Bool, List, [], ◌∷◌, ◌++◌, length, Option, Result, refl, arith}
use Rattle.yaml_round_laws.proofs.SizesWords.{nat_tests, cases_Bool, Fault, Token, TokenBody, Wrong, TagText, Said, DirectiveText, PlainText, BlockText, Kind, Lexeme, start_of, lexeme_at, body_said, valued, tagged, directed, blocked, plainly, SpelledText, body_of_word, body_by, all, offline, cut}
use Rattle.yaml_scan_history.specs.scan_types.Tokens as token
use Rattle.yaml_scan_history.specs.scan_model.declared.name.yaml_scalar_style_t.{yaml_scalar_style_t}
use Rattle.yaml_scan_history.specs.declared.lexeme.Opens.TheVariants as opening
use Rattle.yaml_round_laws.proofs.Leads.{leads}
use Rattle.yaml_round_laws.proofs.Lexemes.{own, outside, apart, worth, worths}
use Rattle.yaml_round_laws.proofs.Paying.{all_paid}
use Rattle.yaml_round_laws.proofs.Weights.{weigh, weigh_append, start_weight, opened, mapping_most, taken, opens_by, ArePaid, prices, tokens_weigh, cut_weighs}

-- two for each level but a single pair's in brackets, which has one
abbrev pub weight : TokenBody → ℕ
weight token.block_entry = 2
weight token.block_mapping_start = 1
weight token.key = 1
weight token.flow_sequence_start = 1
weight token.flow_sequence_end = 1
weight token.flow_mapping_start = 1
weight token.flow_mapping_end = 1
weight _ = 0

abbrev pub count : List Token → ℕ
count ts = weigh weight ts

pub count_append : (xs ys : List Token) → count (xs ++ ys) ≡ count xs + count ys
count_append xs ys = weigh_append weight xs ys

-- ---- the token of a lexeme's own

valued_none : (f : List ℕ → TokenBody) (r : Result (List ℕ × ℕ) Wrong)
    → ((v : List ℕ) → weight (f v) ≡ 0) → weight (body_of_word (valued f r)) ≡ 0
valued_none f r n = grind (arith, nat_tests)

tagged_none : (r : Result TagText Wrong) → weight (body_of_word (tagged r)) ≡ 0
tagged_none r = grind (arith, nat_tests)

said_none : (x : Said) → weight (body_said x) ≡ 0
said_none x = grind (arith, nat_tests)

directed_none : (r : Result DirectiveText Wrong) → weight (body_of_word (directed r)) ≡ 0
directed_none r = grind (arith, nat_tests, said_none)

blocked_none : (style : yaml_scalar_style_t) (r : Result BlockText Wrong)
    → weight (body_of_word (blocked style r)) ≡ 0
blocked_none style r = grind (arith, nat_tests)

plain_none : (r : Result PlainText Wrong) → weight (body_of_word (plainly r)) ≡ 0
plain_none r = grind (arith, nat_tests)

sequence_none : (d margin : ℕ) (levels : List ℕ)
    → start_weight weight (start_of d margin levels opening.Sequence) ≡ 0
sequence_none d margin levels = grind (arith, nat_tests, cases_Bool)

opened_is : (d : ℕ) → opened weight d ≡ outside d
opened_is d = grind (arith, nat_tests)

pays : (k : Kind) (s : SpelledText) (l : Lexeme) (d margin : ℕ) (found : Bool) (levels : List ℕ)
    → start_weight weight (opens_by k d margin found levels) + weight (body_by k s l) + taken weight
    k found d ≤ own k + apart k d
unfolding lexeme_at
pays k s l d margin found levels = grind (arith, nat_tests, sequence_none, mapping_most, opened_is, directed_none, valued_none, tagged_none, blocked_none, plain_none)

all_pay : (s : SpelledText) (h : List Lexeme) → ArePaid weight s worth h
all_pay s [] = tt
all_pay s (l ∷ h) = (λ margin found levels. pays l.kind s l l.depth margin found levels, all_pay s h)

prices_are : (h : List Lexeme) → prices worth h ≡ worths h
prices_are [] = refl
prices_are (l ∷ h) = omega (arith, prices_are h)

-- ---- the text

pub tokens_few : (s : SpelledText) → count (offline s).tokens ≤ leads s.text (length s.text) + 1
tokens_few s = omega (arith, tokens_weigh weight refl s worth (all_pay s (all s.text)), prices_are (all s.text), all_paid s.text)

pub cut_most : (f : Option Fault) (ts : List Token) → count (cut f ts).tokens ≤ count ts
cut_most f ts = cut_weighs weight f ts
