-- What each lexeme carries is UTF-8, except for what escapes spell, and the text may be cut after it.
use Rattle.std.proofs.Common.{◌≡◌, ℕ, ◌+◌, ◌<◌, ◌==◌, ◌&&◌, Bool, true, List, length, Option, Result, Ok, Err, inl, inr, arith, IsUtf8}
use Rattle.yaml_scan_laws.proofs.TextWords.{cases_Bool, ltb-true, eqb-true, or_cases, not-false, nat_tests, yaml_scalar_style_t, TokenBody, byte, column_at, is_blank_or_end, Wrong, within, is_document_start, is_document_end, is_name_end, may_end_name, name_between, anchor_at, TagText, bracketed, name_end, with_handle, bare, parts_at, may_end_tag, ValueText, then_at, directive_name_between, handle_between, handle_at, prefix_at, with_prefix, named_value_at, value_at, break_end, with_line, single_quoted_at, double_quoted_at, PlainText, plain_at, BlockText, block_at, style_at, Kind, kind_at, WordText, carrying, valued, tagged, body_said, directed, blocked, plainly, lexeme_at, HasTexts}
use Rattle.yaml_scan_history.specs.scan_model.declared.problem.Context.{Context}
use Rattle.yaml_scan_history.specs.scan_model.declared.problem.Context.TheVariants as contexts
use Rattle.yaml_scan_history.specs.scan_model.declared.name.yaml_scalar_style_t.TheVariants as styles
use Rattle.yaml_scan_history.specs.scan_types.Tokens as tokens
use Rattle.yaml_scan_history.specs.Tags.{ended}
use Rattle.yaml_scan_history.specs.Directives.{finished}
use Rattle.yaml_scan_history.specs.declared.kind.Kind.TheVariants as kinds
use Rattle.yaml_scan_laws.proofs.Whole.{IsWhole, whole_ascii, whole_after, whole_before, whole_behind, blank_small, ascii_utf8, slice_utf8}
use Rattle.yaml_scan_laws.proofs.Quoted.{HasQuoted, quoted_utf8}
use Rattle.yaml_scan_laws.proofs.Plain.{HasPlain, plain_utf8}
use Rattle.yaml_scan_laws.proofs.Block.{HasBlock, block_utf8}
use Rattle.yaml_scan_laws.proofs.NamesWords.{HasSaid, value_said}
use Rattle.yaml_scan_laws.proofs.WordForward.{Tells, OfAny, kind_is}

-- a blank, a break or the end
pub end_whole : (text : List ℕ) (p : ℕ) → IsUtf8 text → is_blank_or_end text p ≡ true
    → IsWhole text p
end_whole text p t h = grind (arith, nat_tests, whole_ascii, blank_small, eqb-true, whole_before, ltb-true)

name_whole : (text : List ℕ) (p : ℕ) → IsUtf8 text → may_end_name text p ≡ true → IsWhole text p
unfolding may_end_name
name_whole text p t h =
    elim (or_cases (is_blank_or_end text p) (is_name_end (byte text p)) h) [
      | inl a ↦ end_whole text p t a
      | inr b ↦ whole_ascii text p t (grind (arith, nat_tests))
    ]

tag_end_whole : (flow : Bool) (text : List ℕ) (p : ℕ) → IsUtf8 text → may_end_tag flow text p ≡ true
    → IsWhole text p
tag_end_whole flow text p t h = grind (arith, nat_tests, end_whole, whole_ascii)

-- what a lexeme carries, and the place after it
pub record IsWord (text : List ℕ) (w : WordText) : Type 0 where
  pub texts : HasTexts w.body
  pub place : IsWhole text w.reached

abbrev pub HasWord : List ℕ → Result WordText Wrong → Type 0
HasWord text (Ok w) = IsWord text w
HasWord text (Err e) = Unit {0}

-- a value in UTF-8, and a place where the text may be cut
abbrev HasName : List ℕ → Result (List ℕ × ℕ) Wrong → Type 0
HasName text (Ok x) = IsUtf8 x.0 × IsWhole text x.1
HasName text (Err w) = Unit {0}

between_good : (context : Context) (text : List ℕ) (p q : ℕ) → IsUtf8 text → IsWhole text p
    → HasName text (name_between context text p q)
between_good context text p q t w = grind (arith, nat_tests, cases_Bool, name_whole, not-false, slice_utf8)

alias_word : (text : List ℕ) (r : Result (List ℕ × ℕ) Wrong) → HasName text r
    → HasWord text (valued tokens.alias r)
alias_word text r h = grind (arith, nat_tests)

anchor_word : (text : List ℕ) (r : Result (List ℕ × ℕ) Wrong) → HasName text r
    → HasWord text (valued tokens.anchor r)
anchor_word text r h = grind (arith, nat_tests)

quoted_word : (style : yaml_scalar_style_t) (text : List ℕ) (r : Result (List ℕ × ℕ) Wrong)
    → HasQuoted text r → HasWord text (valued (λ v. tokens.scalar v style) r)
quoted_word style text r h = grind (arith, nat_tests)

plain_word : (text : List ℕ) (r : Result PlainText Wrong) → HasPlain text r
    → HasWord text (plainly r)
plain_word text r h = grind (arith, nat_tests)

block_word : (style : yaml_scalar_style_t) (text : List ℕ) (r : Result BlockText Wrong)
    → HasBlock text r → HasWord text (blocked style r)
block_word style text r h = grind (arith, nat_tests)

indicator_word : (text : List ℕ) (body : TokenBody) (q : ℕ) → HasTexts body → IsWhole text q
    → HasWord text (carrying body q)
indicator_word text body q a b = record { texts = a; place = b }

-- Tags.

abbrev HasHandle : Result TagText Wrong → Type 0
HasHandle (Ok t) = IsUtf8 t.handle
HasHandle (Err w) = Unit {0}

bracketed_handle : (text : List ℕ) (r : Result (List ℕ × ℕ) Wrong) → HasHandle (bracketed text r)
bracketed_handle text r = grind (arith, nat_tests)

with_handle_good : (handle : List ℕ) (r : Result (List ℕ × ℕ) Wrong) → IsUtf8 handle
    → HasHandle (with_handle handle r)
with_handle_good handle r h = grind (arith, nat_tests)

bare_good : (r : Result (List ℕ × ℕ) Wrong) → HasHandle (bare r)
bare_good r = grind (arith, nat_tests, ascii_utf8)

parts_good : (text : List ℕ) (p : ℕ) → IsUtf8 text → IsWhole text p → HasHandle (parts_at text p)
unfolding parts_at
parts_good text p t w = grind (arith, nat_tests, cases_Bool, bracketed_handle, eqb-true, with_handle_good, slice_utf8, whole_after, bare_good)

tag_word : (flow : Bool) (text : List ℕ) (r : Result TagText Wrong) → IsUtf8 text → HasHandle r
    → HasWord text (tagged (ended flow text r))
tag_word flow text r t h = grind (arith, nat_tests, cases_Bool, tag_end_whole)

-- Directives.

abbrev HasText : Result (List ℕ × ℕ) Wrong → Type 0
HasText (Ok x) = IsUtf8 x.0
HasText (Err w) = Unit {0}

handle_between_good : (text : List ℕ) (p q : ℕ) → IsUtf8 text → byte text p < 128
    → HasText (handle_between text p q)
handle_between_good text p q t s = grind (arith, nat_tests, cases_Bool, eqb-true, slice_utf8, whole_ascii, whole_after)

handle_good : (text : List ℕ) (p : ℕ) → IsUtf8 text → HasText (handle_at text p)
handle_good text p t = grind (arith, nat_tests, cases_Bool, eqb-true, handle_between_good)

prefix_good : (handle : List ℕ) (r : Result (List ℕ × ℕ) Wrong) → IsUtf8 handle
    → HasSaid HasTexts (with_prefix handle r)
prefix_good handle r h = grind (arith, nat_tests)

then_handle : (text : List ℕ) (r : Result (List ℕ × ℕ) Wrong) → HasText r
    → HasSaid HasTexts (then_at (λ handle q. with_prefix handle (prefix_at text q)) r)
then_handle text r h = grind (arith, nat_tests, prefix_good)

handle_said : (text : List ℕ) (p : ℕ) → IsUtf8 text
    → HasSaid HasTexts (then_at (λ handle q. with_prefix handle (prefix_at text q)) (handle_at text p))
handle_said text p t = then_handle text (handle_at text p) (handle_good text p t)

value_good : (text : List ℕ) (p q : ℕ) → IsUtf8 text
    → HasSaid HasTexts (then_at (named_value_at text) (directive_name_between text p q))
value_good text p q t = value_said HasTexts (λ a b. tt) text p q (λ x. handle_said text x t)

abbrev HasPlace : List ℕ → Result ℕ Wrong → Type 0
HasPlace text (Ok q) = IsWhole text q
HasPlace text (Err w) = Unit {0}

break_end_good : (text : List ℕ) (p : ℕ) → IsUtf8 text → HasPlace text (break_end text p)
break_end_good text p t = grind (arith, nat_tests, cases_Bool, whole_behind, ltb-true, eqb-true, whole_ascii)

line_word : (text : List ℕ) (v : ValueText) (r : Result ℕ Wrong) → HasTexts (body_said v.said)
    → HasPlace text r → HasWord text (directed (with_line v r))
line_word text v r a b = grind (arith, nat_tests)

directive_word : (text : List ℕ) (r : Result ValueText Wrong) → IsUtf8 text → HasSaid HasTexts r
    → HasWord text (directed (finished text r))
directive_word text r t h = grind (arith, nat_tests, line_word, break_end_good)

-- Kinds.

-- what a kind says of the text at its place
abbrev pub Fits : Kind → List ℕ → ℕ → Type 0
Fits kinds.StreamStart text p = Unit {0}
Fits kinds.StreamEnd text p = Unit {0}
Fits kinds.Directive text p = Unit {0}
Fits kinds.DocumentStart text p = byte text (p + 2) < 128
Fits kinds.DocumentEnd text p = byte text (p + 2) < 128
Fits kinds.Plain text p = p < length text
Fits _ text p = byte text p < 128

third_small : (a b c d x : ℕ) (last : Bool)
    → ((a == 0 && (b == x && (c == x && d == x))) && last) ≡ true → x < 128 → d < 128
third_small a b c d x last h l = grind (arith, nat_tests)

start_fits : (text : List ℕ) (p : ℕ) → is_document_start text p ≡ true → byte text (p + 2) < 128
unfolding is_document_start
start_fits text p h = third_small (column_at text p) (byte text p) (byte text (p + 1)) (byte text (p + 2)) 45 (is_blank_or_end text (p + 3)) h (omega arith)

end_fits : (text : List ℕ) (p : ℕ) → is_document_end text p ≡ true → byte text (p + 2) < 128
unfolding is_document_end
end_fits text p h = third_small (column_at text p) (byte text p) (byte text (p + 1)) (byte text (p + 2)) 46 (is_blank_or_end text (p + 3)) h (omega arith)

abbrev pub FitsAny : Option Kind → List ℕ → ℕ → Type 0
FitsAny o text p = OfAny (λ k. Fits k text p) o

-- the kind of what is there fits
pub kind_fits : (flow : Bool) (text : List ℕ) (p : ℕ) → FitsAny (kind_at flow text p) text p
kind_fits flow text p = kind_is (λ k. Fits k text p) flow text p (fits text p)
  where
    fits : (text : List ℕ) (p : ℕ) (k : Kind) → Tells text p k → Fits k text p
    fits text p kinds.StreamStart h = tt
    fits text p kinds.StreamEnd h = tt
    fits text p kinds.Directive h = tt
    fits text p kinds.DocumentStart h = start_fits text p h
    fits text p kinds.DocumentEnd h = end_fits text p h
    fits text p kinds.Plain h = within text p h
    fits text p _ h = omega (arith, h)

third_whole : (text : List ℕ) (p : ℕ) → IsUtf8 text → byte text (p + 2) < 128 → IsWhole text (p + 3)
third_whole text p t s = let e : p + 2 + 1 ≡ p + 3 = omega arith in rw e at (whole_after text (p + 2) t s)

-- what is where its kind does, and the text may be cut
pub word_utf8 : (k : Kind) (flow : Bool) (level : ℕ) (text : List ℕ) (p : ℕ) → IsUtf8 text
    → IsWhole text p → Fits k text p → HasWord text (lexeme_at k flow level text p)
unfolding lexeme_at
word_utf8 kinds.StreamStart flow level text p t w f = indicator_word text tokens.stream_end p tt w
word_utf8 kinds.StreamEnd flow level text p t w f = indicator_word text tokens.stream_end p tt w
word_utf8 kinds.Directive flow level text p t w f = directive_word text (value_at text p) t (value_good text (p + 1) (name_end text p) t)
word_utf8 kinds.DocumentStart flow level text p t w f = indicator_word text tokens.document_start (p + 3) tt (third_whole text p t f)
word_utf8 kinds.DocumentEnd flow level text p t w f = indicator_word text tokens.document_end (p + 3) tt (third_whole text p t f)
word_utf8 kinds.FlowSequenceStart flow level text p t w f = indicator_word text tokens.flow_sequence_start (p + 1) tt (whole_after text p t f)
word_utf8 kinds.FlowMappingStart flow level text p t w f = indicator_word text tokens.flow_mapping_start (p + 1) tt (whole_after text p t f)
word_utf8 kinds.FlowSequenceEnd flow level text p t w f = indicator_word text tokens.flow_sequence_end (p + 1) tt (whole_after text p t f)
word_utf8 kinds.FlowMappingEnd flow level text p t w f = indicator_word text tokens.flow_mapping_end (p + 1) tt (whole_after text p t f)
word_utf8 kinds.FlowEntry flow level text p t w f = indicator_word text tokens.flow_entry (p + 1) tt (whole_after text p t f)
word_utf8 kinds.BlockEntry flow level text p t w f = indicator_word text tokens.block_entry (p + 1) tt (whole_after text p t f)
word_utf8 kinds.KeyMark flow level text p t w f = indicator_word text tokens.key (p + 1) tt (whole_after text p t f)
word_utf8 kinds.ValueMark flow level text p t w f = indicator_word text tokens.value (p + 1) tt (whole_after text p t f)
word_utf8 kinds.Alias flow level text p t w f = alias_word text (anchor_at contexts.Alias text p) (between_good contexts.Alias text (p + 1) (name_end text p) t (whole_after text p t f))
word_utf8 kinds.Anchor flow level text p t w f = anchor_word text (anchor_at contexts.Anchor text p) (between_good contexts.Anchor text (p + 1) (name_end text p) t (whole_after text p t f))
word_utf8 kinds.Tag flow level text p t w f = tag_word flow text (parts_at text p) t (parts_good text p t w)
word_utf8 kinds.Literal flow level text p t w f = block_word (style_at text p) text (block_at level text p) (block_utf8 level text p t)
word_utf8 kinds.Folded flow level text p t w f = block_word (style_at text p) text (block_at level text p) (block_utf8 level text p t)
word_utf8 kinds.SingleQuoted flow level text p t w f = quoted_word styles.YAML_SINGLE_QUOTED_SCALAR_STYLE text (single_quoted_at text p) (quoted_utf8 39 text p (omega arith) t f)
word_utf8 kinds.DoubleQuoted flow level text p t w f = quoted_word styles.YAML_DOUBLE_QUOTED_SCALAR_STYLE text (double_quoted_at text p) (quoted_utf8 34 text p (omega arith) t f)
word_utf8 kinds.Plain flow level text p t w f = plain_word text (plain_at flow level text p) (plain_utf8 flow level text p t w f)
