-- A text's tokens leave as many brackets open as its lexemes do.
use Rattle.std.proofs.Common.{◌≡◌, ℕ, zero, suc, nat_lt, List, [], ◌∷◌, ◌++◌, replicate, Option, Some, None, Result, Ok, Err, refl, sym, ap, ◌∙◌, inl, inr}
use Rattle.yaml_round_laws.proofs.WindowsWords.{cases_Bool, yaml_encoding_t, Token, TokenBody, block_end, flow_depth, Candidate, found_by, inside, entry_of, mark_key, marked, keyed, finished_tokens, SpelledText, body_of_word, body_by, before, start_tokens, end_tokens, own_tokens, spell, all, scan_of, ended_told, depth_after, depth_behind}
use Rattle.std.specs.List.{flat_map}
use Rattle.yaml_round_content.specs.scan_model.declared.name.yaml_scalar_style_t.{yaml_scalar_style_t}
use Rattle.yaml_round_content.specs.scan_model.declared.name.yaml_scalar_style_t.TheVariants as styles
use Rattle.yaml_round_content.specs.scan_model.declared.problem.Context.TheVariants as contexts
use Rattle.yaml_round_content.specs.scan_types.Tokens as tokens
use Rattle.yaml_round_content.specs.scan_model.Wrong.{Wrong}
use Rattle.yaml_scan_history.specs.Anchors.{anchor_at}
use Rattle.yaml_scan_history.specs.Tags.{TagText, tag_at}
use Rattle.yaml_scan_history.specs.Directives as directives
use Rattle.yaml_scan_history.specs.Directives.{Said, DirectiveText, directive_at}
use Rattle.yaml_scan_history.specs.Quoted.{double_quoted_at, single_quoted_at}
use Rattle.yaml_scan_history.specs.Plain.{PlainText, plain_at}
use Rattle.yaml_scan_history.specs.Block.{BlockText, block_at, style_at}
use Rattle.yaml_scan_history.specs.declared.Kind.{Kind}
use Rattle.yaml_scan_history.specs.declared.Kind.TheVariants as kinds
use Rattle.yaml_scan_history.specs.declared.Lexeme.{Lexeme}
use Rattle.yaml_scan_history.specs.declared.Entry.{Entry}
use Rattle.yaml_scan_history.specs.declared.Opens.{Opens}
use Rattle.yaml_scan_history.specs.declared.Opens.TheVariants as opening
use Rattle.yaml_scan_history.specs.Kinds.{is_value}
use Rattle.yaml_scan_history.specs.Kinds as by_kind
use Rattle.yaml_scan_history.specs.Words.{lexeme_at, valued, tagged, body_said, directed, blocked, plainly}
use Rattle.yaml_scan_laws.proofs.Depths.{AllDeep, all_deep}

-- Tokens after others go on from their depth.
pub behind_both : (ts us : List Token) (n : ℕ)
    → depth_behind (ts ++ us) n ≡ depth_behind us (depth_behind ts n)
behind_both [] us n = refl
behind_both (t ∷ ts) us n = behind_both ts us (depth_after t.body n)

-- ---- the tokens of a lexeme

-- it opens and closes no bracket
abbrev IsFlat : TokenBody → Type 0
IsFlat b = (n : ℕ) → depth_after b n ≡ n

valued_flat : (f : List ℕ → TokenBody) (r : Result (List ℕ × ℕ) Wrong)
    → ((v : List ℕ) → IsFlat (f v)) → IsFlat (body_of_word (valued f r))
valued_flat f (Ok x) h = h x.0
valued_flat f (Err w) h = λ n. refl

tagged_flat : (r : Result TagText Wrong) → IsFlat (body_of_word (tagged r))
tagged_flat (Ok t) n = refl
tagged_flat (Err w) n = refl

said_flat : (said : Said) → IsFlat (body_said said)
said_flat (directives.version a b) n = refl
said_flat (directives.tag h p) n = refl

directed_flat : (r : Result DirectiveText Wrong) → IsFlat (body_of_word (directed r))
directed_flat (Ok d) n = said_flat d.said n
directed_flat (Err w) n = refl

blocked_flat : (style : yaml_scalar_style_t) (r : Result BlockText Wrong)
    → IsFlat (body_of_word (blocked style r))
blocked_flat style (Ok b) n = refl
blocked_flat style (Err w) n = refl

plainly_flat : (r : Result PlainText Wrong) → IsFlat (body_of_word (plainly r))
plainly_flat (Ok p) n = refl
plainly_flat (Err w) n = refl

-- what a lexeme carries opens and closes what its kind does
body_deep : (k : Kind) (s : SpelledText) (l : Lexeme) (n : ℕ)
    → depth_after (body_by k s l) n ≡ by_kind.depth_after k n
unfolding lexeme_at
body_deep kinds.Directive s l n = directed_flat (directive_at s.text l.start.index) n
body_deep kinds.Alias s l n = valued_flat tokens.alias (anchor_at contexts.Alias s.text l.start.index) (λ v m. refl) n
body_deep kinds.Anchor s l n = valued_flat tokens.anchor (anchor_at contexts.Anchor s.text l.start.index) (λ v m. refl) n
body_deep kinds.Tag s l n = tagged_flat (tag_at (nat_lt 0 l.depth) s.text l.start.index) n
body_deep kinds.Literal s l n = blocked_flat (style_at s.text l.start.index) (block_at l.level s.text l.start.index) n
body_deep kinds.Folded s l n = blocked_flat (style_at s.text l.start.index) (block_at l.level s.text l.start.index) n
body_deep kinds.SingleQuoted s l n =
    valued_flat (λ v. tokens.scalar v styles.YAML_SINGLE_QUOTED_SCALAR_STYLE) (single_quoted_at s.text l.start.index) (λ v m. refl) n
body_deep kinds.DoubleQuoted s l n =
    valued_flat (λ v. tokens.scalar v styles.YAML_DOUBLE_QUOTED_SCALAR_STYLE) (double_quoted_at s.text l.start.index) (λ v m. refl) n
body_deep kinds.Plain s l n = plainly_flat (plain_at (nat_lt 0 l.depth) l.level s.text l.start.index) n
body_deep _ s l n = refl

ends_flat : (k : ℕ) (l : Lexeme) (n : ℕ) → depth_behind (replicate k (before block_end l)) n ≡ n
ends_flat zero l n = refl
ends_flat (suc k) l n = ends_flat k l n

starts_flat : (o : Opens) (l : Lexeme) (n : ℕ) → depth_behind (start_tokens o l) n ≡ n
starts_flat opening.Nothing l n = refl
starts_flat _ l n = refl

own_deep : (s : SpelledText) (e : Entry) (n : ℕ)
    → depth_behind (own_tokens s e) n ≡ by_kind.depth_after e.lexeme.kind n
own_deep s e n =
    let is = body_deep e.lexeme.kind s e.lexeme n in
    elim (cases_Bool e.key) [ inl k ↦ rw k is | inr k ↦ rw k is ]

spell_deep : (s : SpelledText) (e : Entry) (n : ℕ)
    → depth_behind (spell s e) n ≡ by_kind.depth_after e.lexeme.kind n
spell_deep s e n =
    let l = e.lexeme in
    let starts = start_tokens e.opens l in
    behind_both (end_tokens e ++ starts) (own_tokens s e) n
    ∙ ap (depth_behind (own_tokens s e)) (behind_both (end_tokens e) starts n ∙ ap (depth_behind starts) (ends_flat e.ends l n) ∙ starts_flat e.opens l n)
    ∙ own_deep s e n

-- ---- the tokens of lexemes

-- how many brackets are open after entries
abbrev entries_behind : List Entry → ℕ → ℕ
entries_behind [] n = n
entries_behind (e ∷ es) n = entries_behind es (by_kind.depth_after e.lexeme.kind n)

spells_deep : (s : SpelledText) (es : List Entry) (n : ℕ)
    → depth_behind (flat_map (spell s) es) n ≡ entries_behind es n
spells_deep s [] n = refl
spells_deep s (e ∷ es) n =
    behind_both (spell s e) (flat_map (spell s) es) n
    ∙ ap (depth_behind (flat_map (spell s) es)) (spell_deep s e n)
    ∙ spells_deep s es (by_kind.depth_after e.lexeme.kind n)

key_deep : (levels : List ℕ) (es : List Entry) (i n : ℕ)
    → entries_behind (mark_key levels es i) n ≡ entries_behind es n
unfolding mark_key
key_deep levels [] i n = refl
key_deep levels (e ∷ es) zero n = refl
key_deep levels (e ∷ es) (suc i) n = key_deep levels es i (by_kind.depth_after e.lexeme.kind n)

marked_deep : (o : Option Candidate) (levels : List ℕ) (es : List Entry) (n : ℕ)
    → entries_behind (marked o levels es) n ≡ entries_behind es n
marked_deep None levels es n = refl
marked_deep (Some c) levels es n = key_deep levels es c.number n

keyed_deep : (l : Lexeme) (h : List Lexeme) (es : List Entry) (n : ℕ)
    → entries_behind (keyed l h es) n ≡ entries_behind es n
keyed_deep l h es n =
    elim (cases_Bool (is_value l.kind)) [
      | inl e ↦ rw e (marked_deep (found_by l h) (inside l h) es n)
      | inr e ↦ rw e refl
    ]

push_deep : (es : List Entry) (e : Entry) (n : ℕ)
    → entries_behind (es ++ e ∷ []) n ≡ by_kind.depth_after e.lexeme.kind (entries_behind es n)
push_deep [] e n = refl
push_deep (x ∷ es) e n = push_deep es e (by_kind.depth_after x.lexeme.kind n)

entries_deep : (h : List Lexeme) → AllDeep h → entries_behind (finished_tokens h) 0 ≡ flow_depth h
unfolding finished_tokens
entries_deep [] a = refl
entries_deep (l ∷ h) a =
    push_deep (keyed l h (finished_tokens h)) (entry_of l h) 0
    ∙ ap (by_kind.depth_after l.kind) (keyed_deep l h (finished_tokens h) 0 ∙ entries_deep h a.1 ∙ sym a.0)

-- A text without fault.
pub told_deep : (x : yaml_encoding_t) (text : List ℕ) → (scan_of x text).fault ≡ None
    → depth_behind (scan_of x text).tokens 0 ≡ flow_depth (all text)
told_deep x text none =
    let s : SpelledText = record { encoding = x; text = text } in
    ap (λ ts. depth_behind ts 0) (ended_told s none) ∙ spells_deep s (finished_tokens (all text)) 0 ∙ entries_deep (all text) (all_deep text)
