-- What a lexeme carries is no longer than what it takes of the text: names and tags as long at most, values one and a half times.
use Rattle.std.proofs.Common.{◌&&◌, ◌||◌, not, ℕ, zero, suc, ◌+◌, ◌-◌, ◌*◌, ◌≤◌, Bool, true, false, ◌==◌, nat_lt, if◌then◌else◌, List, [], ◌∷◌, length, Option, Some, None, Result, Ok, Err, arith, inl, inr, le_refl}
use Rattle.yaml_round_laws.proofs.SizesWords.{is_yaml, is_tag, may_end_tag, is_blank_or_end, may_end_name, cases_Bool, slice_range, TokenBody, byte, break_width, Wrong, name_between, anchor_at, TagText, bracketed, name_end, with_handle, bare, parts_at, ended, tag_at, Said, ValueText, then_at, directive_name_between, number_at, with_major, minor_at, handle_between, handle_at, prefix_ended, prefix_at, with_prefix, tag_directive_at, named_value_at, value_at, comment_end, break_end, line_end_at, with_line_end, finished, double_quoted_at, single_quoted_at, PlainText, plain_at, BlockText, block_at, style_at, Kind, WordText, valued, tagged, body_said, directed, blocked, plainly, lexeme_at}
use Rattle.yaml_scan_history.specs.scan_model.declared.name.yaml_scalar_style_t.{yaml_scalar_style_t}
use Rattle.yaml_scan_history.specs.scan_model.declared.name.yaml_scalar_style_t.TheVariants as styles
use Rattle.yaml_scan_history.specs.scan_model.declared.problem.Context.{Context}
use Rattle.yaml_scan_history.specs.scan_model.declared.problem.Context.TheVariants as contexts
use Rattle.yaml_scan_history.specs.scan_model.declared.problem.Problem.{Problem}
use Rattle.yaml_scan_history.specs.scan_types.Tokens as token
use Rattle.yaml_scan_history.specs.Uris.{is_uri, octet_at, due_behind, UriSpot, Spells, Ends, Faulty, escape_spot, octet_spot, spot_at, with_bytes, uri_from, uri_within, uri_at, filled, some_uri_at}
use Rattle.yaml_scan_history.proofs.RunsLemmas.{past-le}
use Rattle.yaml_scan_history.proofs.WordsRunsLemmas.{run_within-ge}
use Rattle.yaml_scan_history.specs.scan_model.Runs.{is_text}
use Rattle.yaml_scan_history.specs.Directives as directives
use Rattle.yaml_scan_history.specs.declared.kind.Kind.TheVariants as kinds
use Rattle.yaml_round_laws.proofs.Pieces.{slice_size}
use Rattle.yaml_round_laws.proofs.Values.{ValueSpent, quoted_spent, PlainSpent, plain_spent, BlockSpent, block_spent}

-- ---- what is carried

-- how long it may be, where the lexeme takes the text from one place to another
abbrev pub Spans : ℕ → ℕ → TokenBody → Type 0
Spans p q (token.alias name) = length name + 1 + p ≤ q
Spans p q (token.anchor name) = length name + 1 + p ≤ q
Spans p q (token.tag handle suffix) = length handle + length suffix + p ≤ q
Spans p q (token.tag_directive handle prefix) = length handle + length prefix + p ≤ q
Spans p q (token.scalar v style) = 2 * length v + 3 * p ≤ 3 * q
Spans p q token.document_start = 3 + p ≤ q
Spans p q _ = Unit {0}

-- ---- names, tags

abbrev NameSpent : ℕ → Result (List ℕ × ℕ) Wrong → Type 0
NameSpent p (Ok x) = length x.0 + p ≤ x.1
NameSpent p (Err w) = Unit {0}

name_if : (b : Bool) (p : ℕ) (r : Result (List ℕ × ℕ) Wrong) (w : Wrong) → NameSpent p r
    → NameSpent p (if b then r else Err w)
name_if true p r w f = f
name_if false p r w f = tt

name_spent : (context : Context) (text : List ℕ) (p q : ℕ) → p ≤ q
    → NameSpent p (name_between context text p q)
name_spent context text p q w =
    elim (cases_Bool (p == q || not (may_end_name text q))) [
      | inl e ↦ rw e tt
      | inr e ↦ rw e (omega (arith, w, slice_size text p q))
    ]

anchor_spent : (context : Context) (text : List ℕ) (p : ℕ)
    → NameSpent (p + 1) (anchor_at context text p)
anchor_spent context text p = name_spent context text (p + 1) _ (run_within-ge (length text) _ text (p + 1))

abbrev UriSpent : ℕ → UriSpot → Type 0
UriSpent p (Spells b due q) = 1 + p ≤ q
UriSpent p (Ends q) = p ≤ q
UriSpent p (Faulty problem q) = Unit {0}

escape_uri : (b p : ℕ) (r : Result ℕ Problem) → UriSpent p (escape_spot b p r)
escape_uri b p (Ok due) = omega arith
escape_uri b p (Err problem) = tt

octet_uri : (due p : ℕ) (o : Option ℕ) → UriSpent p (octet_spot due p o)
octet_uri due p (Some b) = escape_uri b p (due_behind b due)
octet_uri due p None = tt

spot_uri : (wide : Bool) (due : ℕ) (text : List ℕ) (p : ℕ) → UriSpent p (spot_at wide due text p)
unfolding spot_at
spot_uri wide due text p =
    elim (cases_Bool (byte text p == 37)) [
      | inl h ↦ rw h (octet_uri due p (octet_at text p))
      | inr h ↦ elim (cases_Bool (nat_lt 0 due)) [
        | inl i ↦ rw (h, i) tt
        | inr i ↦ elim (cases_Bool (is_uri wide text p)) [
          | inl j ↦ rw (h, i, j) (omega arith)
          | inr j ↦ rw (h, i, j) (le_refl _)
        ]
      ]
    ]

byte_uri : (b p q : ℕ) (r : Result (List ℕ × ℕ) Wrong) → 1 + p ≤ q → NameSpent q r
    → NameSpent p (with_bytes (b ∷ []) r)
byte_uri b p q (Ok u) w f = omega (arith, w, f)
byte_uri b p q (Err e) w f = tt

from_uri : (more : ℕ → ℕ → Result (List ℕ × ℕ) Wrong) (context : Context) (p : ℕ) (s : UriSpot)
    → ((due q : ℕ) → NameSpent q (more due q)) → UriSpent p s
    → NameSpent p (uri_from more context s)
from_uri more context p (Spells b due q) rest f = byte_uri b p q (more due q) f (rest due q)
from_uri more context p (Ends q) rest f = omega (arith, f)
from_uri more context p (Faulty problem q) rest f = tt

within_uri : (n : ℕ) (context : Context) (wide : Bool) (due : ℕ) (text : List ℕ) (p : ℕ)
    → NameSpent p (uri_within n context wide due text p)
unfolding uri_within
within_uri zero context wide due text p = omega arith
within_uri (suc n) context wide due text p =
    from_uri (λ next q. uri_within n context wide next text q) context p (spot_at wide due text p) (λ next q. within_uri n context wide next text q) (spot_uri wide due text p)

filled_uri : (context : Context) (p : ℕ) (r : Result (List ℕ × ℕ) Wrong) → NameSpent p r
    → NameSpent p (filled context r)
filled_uri context p (Ok u) f =
    elim (cases_Bool (length u.0 == 0)) [ inl e ↦ rw e tt | inr e ↦ rw e f ]
filled_uri context p (Err w) f = tt

uri_spent : (context : Context) (wide : Bool) (text : List ℕ) (p : ℕ)
    → NameSpent p (uri_at context wide text p)
uri_spent context wide text p = within_uri (suc (length text)) context wide 0 text p

some_uri_spent : (context : Context) (wide : Bool) (text : List ℕ) (p : ℕ)
    → NameSpent p (some_uri_at context wide text p)
some_uri_spent context wide text p = filled_uri context p (uri_at context wide text p) (uri_spent context wide text p)

abbrev TagSpent : ℕ → Result TagText Wrong → Type 0
TagSpent p (Ok t) = length t.handle + length t.suffix + p ≤ t.end
TagSpent p (Err w) = Unit {0}

bracketed_spent : (text : List ℕ) (p q : ℕ) (r : Result (List ℕ × ℕ) Wrong) → p ≤ q → NameSpent q r
    → TagSpent p (bracketed text r)
bracketed_spent text p q (Ok u) w f =
    elim (cases_Bool (byte text u.1 == 62)) [ inl e ↦ rw e (omega (arith, w, f)) | inr e ↦ rw e tt ]
bracketed_spent text p q (Err e) w f = tt

handle_spent : (p q : ℕ) (handle : List ℕ) (r : Result (List ℕ × ℕ) Wrong) → length handle + p ≤ q
    → NameSpent q r → TagSpent p (with_handle handle r)
handle_spent p q handle (Ok u) w f = omega (arith, w, f)
handle_spent p q handle (Err e) w f = tt

bare_spent : (p : ℕ) (r : Result (List ℕ × ℕ) Wrong) → NameSpent (p + 1) r → TagSpent p (bare r)
bare_spent p (Ok u) f =
    elim (cases_Bool (length u.0 == 0)) [
      | inl e ↦ rw e (omega (arith, f))
      | inr e ↦ rw e (omega (arith, f))
    ]
bare_spent p (Err w) f = tt

parts_spent : (text : List ℕ) (p : ℕ) → TagSpent p (parts_at text p)
unfolding parts_at
parts_spent text p =
    let name : p + 1 ≤ name_end text p = run_within-ge (length text) _ text (p + 1) in
    elim (cases_Bool (byte text (p + 1) == 60)) [
      | inl h ↦ rw h (bracketed_spent text p (p + 2) (some_uri_at contexts.TagUri true text (p + 2)) (omega arith) (some_uri_spent contexts.TagUri true text (p + 2)))
      | inr h ↦ elim (cases_Bool (byte text (name_end text p) == 33)) [
        | inl i ↦
            let q = name_end text p + 1 in
            rw (h, i) (handle_spent p q (slice_range text p q) (some_uri_at contexts.TagUri false text q) (omega (arith, name, slice_size text p q)) (some_uri_spent contexts.TagUri false text q))
        | inr i ↦ rw (h, i) (bare_spent p (uri_at contexts.TagUri false text (p + 1)) (uri_spent contexts.TagUri false text (p + 1)))
      ]
    ]

ended_spent : (flow : Bool) (text : List ℕ) (p : ℕ) (r : Result TagText Wrong) → TagSpent p r
    → TagSpent p (ended flow text r)
ended_spent flow text p (Ok t) f =
    elim (cases_Bool (may_end_tag flow text t.end)) [ inl e ↦ rw e f | inr e ↦ rw e tt ]
ended_spent flow text p (Err w) f = tt

-- ---- directives

abbrev SaidFits : ℕ → ℕ → Said → Type 0
SaidFits p q (directives.version a b) = Unit {0}
SaidFits p q (directives.tag handle prefix) = length handle + length prefix + p ≤ q

abbrev SaidSpent : ℕ → Result ValueText Wrong → Type 0
SaidSpent p (Ok v) = SaidFits p v.end v.said
SaidSpent p (Err w) = Unit {0}

handle_named : (text : List ℕ) (p q : ℕ) → p + 1 ≤ q → NameSpent p (handle_between text p q)
handle_named text p q w =
    elim (cases_Bool (byte text q == 33)) [
      | inl e ↦ rw e (omega (arith, w, slice_size text p (q + 1)))
      | inr e ↦ elim (cases_Bool (q == p + 1)) [
        | inl f ↦ rw (e, f) (omega (arith, w, slice_size text p q))
        | inr f ↦ rw (e, f) tt
      ]
    ]

handle_spent_at : (text : List ℕ) (p : ℕ) → NameSpent p (handle_at text p)
handle_spent_at text p =
    elim (cases_Bool (byte text p == 33)) [
      | inl e ↦ rw e (handle_named text p _ (run_within-ge (length text) _ text (p + 1)))
      | inr e ↦ rw e tt
    ]

ended_prefix : (text : List ℕ) (p : ℕ) (r : Result (List ℕ × ℕ) Wrong) → NameSpent p r
    → NameSpent p (prefix_ended text r)
ended_prefix text p (Ok x) f =
    elim (cases_Bool (is_blank_or_end text x.1)) [ inl e ↦ rw e f | inr e ↦ rw e tt ]
ended_prefix text p (Err w) f = tt

named_further : (p q : ℕ) (r : Result (List ℕ × ℕ) Wrong) → p ≤ q → NameSpent q r → NameSpent p r
named_further p q (Ok x) w f = omega (arith, w, f)
named_further p q (Err e) w f = tt

prefix_spent : (text : List ℕ) (p : ℕ) → NameSpent p (prefix_at text p)
prefix_spent text p =
    name_if _ p _ _ (ended_prefix text p _ (named_further p _ _ (run_within-ge (length text) _ text p) (some_uri_spent contexts.TagDirectiveUri true text _)))

tag_said : (p q : ℕ) (handle : List ℕ) (r : Result (List ℕ × ℕ) Wrong) → length handle + p ≤ q
    → NameSpent q r → SaidSpent p (with_prefix handle r)
tag_said p q handle (Ok x) w f = omega (arith, w, f)
tag_said p q handle (Err e) w f = tt

handled_said : (text : List ℕ) (p : ℕ) (r : Result (List ℕ × ℕ) Wrong) → NameSpent p r
    → SaidSpent p (then_at (λ handle q. with_prefix handle (prefix_at text q)) r)
handled_said text p (Ok x) f = tag_said p x.1 x.0 (prefix_at text x.1) f (prefix_spent text x.1)
handled_said text p (Err w) f = tt

major_said : (p major : ℕ) (r : Result (ℕ × ℕ) Wrong) → SaidSpent p (with_major major r)
major_said p major (Ok x) = tt
major_said p major (Err w) = tt

minor_said : (text : List ℕ) (p : ℕ) (r : Result (ℕ × ℕ) Wrong)
    → SaidSpent p (then_at (minor_at text) r)
minor_said text p (Ok x) =
    elim (cases_Bool (byte text x.1 == 46)) [
      | inl e ↦ rw e (major_said p x.0 (number_at text (x.1 + 1)))
      | inr e ↦ rw e tt
    ]
minor_said text p (Err w) = tt

said_further : (p q : ℕ) (r : Result ValueText Wrong) → p ≤ q → SaidSpent q r → SaidSpent p r
said_further p q (Ok v) w f = further v.said v.end f
  where
    further : (s : Said) (end : ℕ) → SaidFits q end s → SaidFits p end s
    further (directives.version a b) end f = tt
    further (directives.tag handle prefix) end f = omega (arith, w, f)
said_further p q (Err e) w f = tt

tag_directive_said : (text : List ℕ) (p : ℕ) → SaidSpent p (tag_directive_at text p)
tag_directive_said text p =
    said_further p _ _ (run_within-ge (length text) _ text p) (handled_said text _ _ (handle_spent_at text _))

between_said : (text : List ℕ) (p q : ℕ) → p ≤ q
    → SaidSpent p (then_at (named_value_at text) (directive_name_between text p q))
between_said text p q w =
    elim (cases_Bool (p == q)) [
      | inl e ↦ rw e tt
      | inr e ↦ elim (cases_Bool (not (is_blank_or_end text q))) [
        | inl f ↦ rw (e, f) tt
        | inr f ↦ elim (cases_Bool (is_yaml text p && q - p == 4)) [
          | inl g ↦ rw (e, f, g) (minor_said text p (number_at text _))
          | inr g ↦ elim (cases_Bool (is_tag text p && q - p == 3)) [
            | inl i ↦ rw (e, f, g, i) (said_further p q (tag_directive_at text q) w (tag_directive_said text q))
            | inr i ↦ rw (e, f, g, i) tt
          ]
        ]
      ]
    ]

value_said : (text : List ℕ) (p : ℕ) → SaidSpent p (value_at text p)
value_said text p = said_further p (p + 1) (value_at text p) (omega arith) (between_said text (p + 1) _ (run_within-ge (length text) _ text (p + 1)))

abbrev LineFrom : ℕ → Result ℕ Wrong → Type 0
LineFrom p (Ok q) = p ≤ q
LineFrom p (Err w) = Unit {0}

break_from : (text : List ℕ) (o p : ℕ) → o ≤ p → LineFrom o (break_end text p)
break_from text o p w =
    elim (cases_Bool (nat_lt 0 (break_width text p))) [
      | inl e ↦ rw e (omega (arith, w))
      | inr e ↦ elim (cases_Bool (byte text p == 0)) [ inl f ↦ rw (e, f) w | inr f ↦ rw (e, f) tt ]
    ]

comment_from : (text : List ℕ) (p : ℕ) → p ≤ comment_end text p
comment_from text p =
    elim (cases_Bool (byte text p == 35)) [
      | inl e ↦ rw e (past-le is_text (length text) text p)
      | inr e ↦ rw e (le_refl _)
    ]

line_from : (text : List ℕ) (p q : ℕ) → p ≤ q → LineFrom p (break_end text (comment_end text q))
line_from text p q w = break_from text p (comment_end text q) (omega (arith, w, comment_from text q))

-- ---- words

-- what is read at its place
abbrev pub WordSpans : ℕ → Result WordText Wrong → Type 0
WordSpans p (Ok w) = Spans p w.reached w.body
WordSpans p (Err e) = Unit {0}

said_spans : (p end q : ℕ) (x : Said) → SaidFits p end x → end ≤ q → Spans p q (body_said x)
said_spans p end q (directives.version a b) f w = tt
said_spans p end q (directives.tag handle prefix) f w = omega (arith, f, w)

line_spans : (p : ℕ) (v : ValueText) (r : Result ℕ Wrong) → SaidFits p v.end v.said
    → LineFrom v.end r → WordSpans p (directed (with_line_end v r))
line_spans p v (Ok q) f w = said_spans p v.end q v.said f w
line_spans p v (Err e) f w = tt

finished_spans : (text : List ℕ) (p : ℕ) (r : Result ValueText Wrong) → SaidSpent p r
    → WordSpans p (directed (finished text r))
finished_spans text p (Ok v) f = line_spans p v (line_end_at text v.end) f (line_from text v.end _ (run_within-ge (length text) _ text v.end))
finished_spans text p (Err w) f = tt

alias_spans : (p : ℕ) (r : Result (List ℕ × ℕ) Wrong) → NameSpent (p + 1) r
    → WordSpans p (valued token.alias r)
alias_spans p (Ok x) f = omega (arith, f)
alias_spans p (Err w) f = tt

anchor_spans : (p : ℕ) (r : Result (List ℕ × ℕ) Wrong) → NameSpent (p + 1) r
    → WordSpans p (valued token.anchor r)
anchor_spans p (Ok x) f = omega (arith, f)
anchor_spans p (Err w) f = tt

tagged_spans : (p : ℕ) (r : Result TagText Wrong) → TagSpent p r → WordSpans p (tagged r)
tagged_spans p (Ok t) f = f
tagged_spans p (Err w) f = tt

quoted_spans : (style : yaml_scalar_style_t) (p : ℕ) (r : Result (List ℕ × ℕ) Wrong)
    → ValueSpent p r → WordSpans p (valued (λ v. token.scalar v style) r)
quoted_spans style p (Ok x) f = f
quoted_spans style p (Err w) f = tt

blocked_spans : (style : yaml_scalar_style_t) (p : ℕ) (r : Result BlockText Wrong) → BlockSpent p r
    → WordSpans p (blocked style r)
blocked_spans style p (Ok x) f = omega (arith, f)
blocked_spans style p (Err w) f = tt

plainly_spans : (p : ℕ) (r : Result PlainText Wrong) → PlainSpent p r → WordSpans p (plainly r)
plainly_spans p (Ok x) f = omega (arith, f)
plainly_spans p (Err w) f = tt

pub word_spans : (k : Kind) (flow : Bool) (level : ℕ) (text : List ℕ) (p : ℕ)
    → WordSpans p (lexeme_at k flow level text p)
unfolding lexeme_at
word_spans kinds.Directive flow level text p = finished_spans text p (value_at text p) (value_said text p)
word_spans kinds.Alias flow level text p = alias_spans p (anchor_at contexts.Alias text p) (anchor_spent contexts.Alias text p)
word_spans kinds.Anchor flow level text p = anchor_spans p (anchor_at contexts.Anchor text p) (anchor_spent contexts.Anchor text p)
word_spans kinds.Tag flow level text p = tagged_spans p (tag_at flow text p) (ended_spent flow text p (parts_at text p) (parts_spent text p))
word_spans kinds.Literal flow level text p = blocked_spans (style_at text p) p (block_at level text p) (block_spent level text p)
word_spans kinds.Folded flow level text p = blocked_spans (style_at text p) p (block_at level text p) (block_spent level text p)
word_spans kinds.SingleQuoted flow level text p = quoted_spans styles.YAML_SINGLE_QUOTED_SCALAR_STYLE p (single_quoted_at text p) (quoted_spent 39 text p)
word_spans kinds.DoubleQuoted flow level text p = quoted_spans styles.YAML_DOUBLE_QUOTED_SCALAR_STYLE p (double_quoted_at text p) (quoted_spent 34 text p)
word_spans kinds.Plain flow level text p = plainly_spans p (plain_at flow level text p) (plain_spent flow level text p)
word_spans kinds.DocumentStart flow level text p = omega arith
word_spans _ flow level text p = tt
