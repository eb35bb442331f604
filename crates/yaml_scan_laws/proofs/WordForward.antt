-- Lexemes of every kind end after their start, inside the text.
use Rattle.std.proofs.Common.{◌≡◌, ℕ, ◌+◌, ◌<◌, ◌≤◌, ◌==◌, ◌&&◌, Bool, true, false, if◌then◌else◌, List, length, Option, Some, None, Result, Ok, Err, subst, arith}
use Rattle.yaml_scan_laws.proofs.Words.{and_parts, eqb-true, true≢false, nat_tests, yaml_scalar_style_t, TokenBody, byte, column_at, is_blank_or_end, Wrong, within, behind_bytes, anchor_at, TagText, tag_end, tag_at, ValueText, value_end, value_at, line_place, with_line, Lands, line_end_place, anchor_place, tag_place, value_place, double_quoted_at, single_quoted_at, PlainText, plain_at, BlockText, block_at, style_at, Kind, is_end, indicator_of, or_plain, kind_at, WordText, carrying, valued, tagged, directed, blocked, plainly, lexeme_at}
use Rattle.yaml_scan_history.specs.scan_model.declared.name.yaml_scalar_style_t.TheVariants as styles
use Rattle.yaml_scan_history.specs.scan_model.declared.problem.Context.TheVariants as contexts
use Rattle.yaml_scan_history.specs.scan_types.Tokens as tokens
use Rattle.yaml_scan_history.specs.Indicators.{is_document_start, is_document_end}
use Rattle.yaml_scan_history.specs.Directives.{finished}
use Rattle.yaml_scan_history.specs.declared.kind.Kind.TheVariants as kinds
use Rattle.yaml_scan_laws.proofs.QuotedForward.{quoted_place, some_of}
use Rattle.yaml_scan_laws.proofs.PlainForward.{LandsPlain, plain_place}
use Rattle.yaml_scan_laws.proofs.BlockForward.{LandsBlock, block_place}

-- what a kind says of the text at its place
abbrev pub Fits : Kind → List ℕ → ℕ → Type 0
Fits kinds.StreamStart text p = ⊥
Fits kinds.StreamEnd text p = Unit {0}
Fits kinds.DocumentStart text p = p + 3 ≤ length text
Fits kinds.DocumentEnd text p = p + 3 ≤ length text
Fits _ text p = p < length text

-- ---- what is there, by its kind

-- what the text has where there is a lexeme of a kind
abbrev pub Tells : List ℕ → ℕ → Kind → Type 0
Tells text p kinds.StreamStart = ⊥
Tells text p kinds.StreamEnd = byte text p ≡ 0
Tells text p kinds.Directive = byte text p ≡ 37
Tells text p kinds.DocumentStart = is_document_start text p ≡ true
Tells text p kinds.DocumentEnd = is_document_end text p ≡ true
Tells text p kinds.FlowSequenceStart = byte text p ≡ 91
Tells text p kinds.FlowMappingStart = byte text p ≡ 123
Tells text p kinds.FlowSequenceEnd = byte text p ≡ 93
Tells text p kinds.FlowMappingEnd = byte text p ≡ 125
Tells text p kinds.FlowEntry = byte text p ≡ 44
Tells text p kinds.BlockEntry = byte text p ≡ 45
Tells text p kinds.KeyMark = byte text p ≡ 63
Tells text p kinds.ValueMark = byte text p ≡ 58
Tells text p kinds.Alias = byte text p ≡ 42
Tells text p kinds.Anchor = byte text p ≡ 38
Tells text p kinds.Tag = byte text p ≡ 33
Tells text p kinds.Literal = byte text p ≡ 124
Tells text p kinds.Folded = byte text p ≡ 62
Tells text p kinds.SingleQuoted = byte text p ≡ 39
Tells text p kinds.DoubleQuoted = byte text p ≡ 34
Tells text p kinds.Plain = 0 < byte text p

-- it holds of the kind, if there is one
abbrev pub OfAny : (Kind → Type 0) → Option Kind → Type 0
OfAny P None = Unit {0}
OfAny P (Some k) = P k

pick : (P : Kind → Type 0) (test : Bool) (k : Kind) (rest : Option Kind) → (test ≡ true → P k)
    → OfAny P rest → OfAny P (if test then Some k else rest)
pick P test k rest f g = grind (arith, nat_tests)

both_is : (b n : ℕ) (other : Bool) → (b == n && other) ≡ true → b ≡ n
both_is b n other h = eqb-true b n (and_parts (b == n) other h).0

indicator_tells : (flow alone : Bool) (text : List ℕ) (p : ℕ)
    → OfAny (Tells text p) (indicator_of flow alone (byte text p))
unfolding indicator_of
indicator_tells flow alone text p = grind (arith, nat_tests, pick, both_is)

plain_tells : (o : Option Kind) (starts : Bool) (text : List ℕ) (p : ℕ) → 0 < byte text p
    → OfAny (Tells text p) o → OfAny (Tells text p) (or_plain o starts)
plain_tells o starts text p l f = grind (arith, nat_tests)

kind_tells : (flow : Bool) (text : List ℕ) (p : ℕ) → OfAny (Tells text p) (kind_at flow text p)
unfolding kind_at
kind_tells flow text p = grind (arith, nat_tests, pick, both_is, plain_tells, some_of, indicator_tells)

tells_any : (P : Kind → Type 0) (text : List ℕ) (p : ℕ) (o : Option Kind)
    → ((k : Kind) → Tells text p k → P k)
    → OfAny (Tells text p) o → OfAny P o
tells_any P text p o f t = grind (arith, nat_tests)

-- what the text says of a kind holds of the one that is there
pub kind_is : (P : Kind → Type 0) (flow : Bool) (text : List ℕ) (p : ℕ)
    → ((k : Kind) → Tells text p k → P k) → OfAny P (kind_at flow text p)
kind_is P flow text p f = tells_any P text p (kind_at flow text p) f (kind_tells flow text p)

-- what is there says of its kind
pub kind_told : (flow : Bool) (text : List ℕ) (p : ℕ) (k : Kind) → kind_at flow text p ≡ Some k
    → Tells text p k
kind_told flow text p k e = subst (λ (o : Option Kind). OfAny (Tells text p) o) e (kind_tells flow text p)

third : (a b c d e x : ℕ) (last : Bool)
    → ((a == 0 && (b == x && (c == x && d == x))) && last) ≡ true → 0 < x → 0 < d
third a b c d e x last h some = grind (arith, nat_tests)

start_inside : (text : List ℕ) (p : ℕ) → is_document_start text p ≡ true → p + 3 ≤ length text
unfolding is_document_start
start_inside text p h =
    let here = within text (p + 2) (third (column_at text p) (byte text p) (byte text (p + 1)) (byte text (p + 2)) 0 45 (is_blank_or_end text (p + 3)) h (omega arith)) in
    omega (arith, here)

end_inside : (text : List ℕ) (p : ℕ) → is_document_end text p ≡ true → p + 3 ≤ length text
unfolding is_document_end
end_inside text p h =
    let here = within text (p + 2) (third (column_at text p) (byte text p) (byte text (p + 1)) (byte text (p + 2)) 0 46 (is_blank_or_end text (p + 3)) h (omega arith)) in
    omega (arith, here)

abbrev pub FitsAny : Option Kind → List ℕ → ℕ → Type 0
FitsAny o text p = OfAny (λ k. Fits k text p) o

-- the kind of what is there fits
pub kind_fits : (flow : Bool) (text : List ℕ) (p : ℕ) → FitsAny (kind_at flow text p) text p
kind_fits flow text p = kind_is (λ k. Fits k text p) flow text p (fits text p)
  where
    fits : (text : List ℕ) (p : ℕ) (k : Kind) → Tells text p k → Fits k text p
    fits text p kinds.StreamStart h = h
    fits text p kinds.StreamEnd h = tt
    fits text p kinds.DocumentStart h = start_inside text p h
    fits text p kinds.DocumentEnd h = end_inside text p h
    fits text p _ h = within text p (omega (arith, h))

-- a lexeme ends after its start, and reaches its end or a place after it, inside the text
pub record IsWordFrom (text : List ℕ) (p : ℕ) (w : WordText) : Type 0 where
  pub end : p < w.end
  pub place : w.end ≤ w.reached
  pub inside : w.reached ≤ length text

abbrev pub LandsWord : List ℕ → ℕ → Result WordText Wrong → Type 0
LandsWord text p (Ok w) = IsWordFrom text p w
LandsWord text p (Err w) = Unit {0}

indicator_lands : (text : List ℕ) (p q : ℕ) (body : TokenBody) → p < q → q ≤ length text
    → LandsWord text p (carrying body q)
indicator_lands text p q body f l = record { end = f; place = omega arith; inside = l }

valued_lands : (text : List ℕ) (p : ℕ) (f : List ℕ → TokenBody) (r : Result (List ℕ × ℕ) Wrong)
    → Lands behind_bytes text (p + 1) r → LandsWord text p (valued f r)
valued_lands text p f r h = grind (arith, nat_tests)

tagged_lands : (text : List ℕ) (p : ℕ) (r : Result TagText Wrong) → Lands tag_end text (p + 1) r
    → LandsWord text p (tagged r)
tagged_lands text p r h = grind (arith, nat_tests)

plainly_lands : (text : List ℕ) (p : ℕ) (r : Result PlainText Wrong) → LandsPlain text (p + 1) r
    → LandsWord text p (plainly r)
plainly_lands text p r h = grind (arith, nat_tests)

blocked_lands : (text : List ℕ) (p : ℕ) (style : yaml_scalar_style_t) (r : Result BlockText Wrong)
    → LandsBlock text (p + 1) r → LandsWord text p (blocked style r)
blocked_lands text p style r h = grind (arith, nat_tests)

line_lands : (text : List ℕ) (p : ℕ) (v : ValueText) (r : Result ℕ Wrong) → p < v.end
    → Lands line_place text v.end r → LandsWord text p (directed (with_line v r))
line_lands text p v r f h = grind (arith, nat_tests)

finished_lands : (text : List ℕ) (p : ℕ) (r : Result ValueText Wrong)
    → Lands value_end text (p + 1) r → LandsWord text p (directed (finished text r))
finished_lands text p r h = grind (arith, nat_tests, line_lands, line_end_place)

-- what is read where its kind is ends after its start, the stream's end aside
pub word_lands : (k : Kind) (flow : Bool) (level : ℕ) (text : List ℕ) (p : ℕ) → is_end k ≡ false
    → Fits k text p → LandsWord text p (lexeme_at k flow level text p)
unfolding lexeme_at
word_lands kinds.StreamStart flow level text p e f = absurd f
word_lands kinds.StreamEnd flow level text p e f = absurd (true≢false e)
word_lands kinds.Directive flow level text p e f = finished_lands text p (value_at text p) (value_place text p f)
word_lands kinds.DocumentStart flow level text p e f = indicator_lands text p (p + 3) tokens.document_start (omega arith) f
word_lands kinds.DocumentEnd flow level text p e f = indicator_lands text p (p + 3) tokens.document_end (omega arith) f
word_lands kinds.FlowSequenceStart flow level text p e f = indicator_lands text p (p + 1) tokens.flow_sequence_start (omega arith) (omega (arith, f))
word_lands kinds.FlowMappingStart flow level text p e f = indicator_lands text p (p + 1) tokens.flow_mapping_start (omega arith) (omega (arith, f))
word_lands kinds.FlowSequenceEnd flow level text p e f = indicator_lands text p (p + 1) tokens.flow_sequence_end (omega arith) (omega (arith, f))
word_lands kinds.FlowMappingEnd flow level text p e f = indicator_lands text p (p + 1) tokens.flow_mapping_end (omega arith) (omega (arith, f))
word_lands kinds.FlowEntry flow level text p e f = indicator_lands text p (p + 1) tokens.flow_entry (omega arith) (omega (arith, f))
word_lands kinds.BlockEntry flow level text p e f = indicator_lands text p (p + 1) tokens.block_entry (omega arith) (omega (arith, f))
word_lands kinds.KeyMark flow level text p e f = indicator_lands text p (p + 1) tokens.key (omega arith) (omega (arith, f))
word_lands kinds.ValueMark flow level text p e f = indicator_lands text p (p + 1) tokens.value (omega arith) (omega (arith, f))
word_lands kinds.Alias flow level text p e f = valued_lands text p tokens.alias (anchor_at contexts.Alias text p) (anchor_place contexts.Alias text p f)
word_lands kinds.Anchor flow level text p e f = valued_lands text p tokens.anchor (anchor_at contexts.Anchor text p) (anchor_place contexts.Anchor text p f)
word_lands kinds.Tag flow level text p e f = tagged_lands text p (tag_at flow text p) (tag_place flow text p f)
word_lands kinds.Literal flow level text p e f = blocked_lands text p (style_at text p) (block_at level text p) (block_place level text p f)
word_lands kinds.Folded flow level text p e f = blocked_lands text p (style_at text p) (block_at level text p) (block_place level text p f)
word_lands kinds.SingleQuoted flow level text p e f =
    valued_lands text p (λ v. tokens.scalar v styles.YAML_SINGLE_QUOTED_SCALAR_STYLE) (single_quoted_at text p) (quoted_place 39 text p)
word_lands kinds.DoubleQuoted flow level text p e f =
    valued_lands text p (λ v. tokens.scalar v styles.YAML_DOUBLE_QUOTED_SCALAR_STYLE) (double_quoted_at text p) (quoted_place 34 text p)
word_lands kinds.Plain flow level text p e f = plainly_lands text p (plain_at flow level text p) (plain_place flow level text p f)
