-- So is what is written for an event.
use Rattle.std.proofs.Common.{ℕ, ◌-◌, Bool, true, false, not, ◌&&◌, if◌then◌else◌, List, [], ◌∷◌, Option, Some, None}
use Rattle.yaml_round_laws.proofs.Words.{codes, Cursor, Settings, Layout, ◌▹◌, stay, choose, when, char, word, indicator, opener, keep, scalar_text, TagDirective, Level, Phase, Items, Keys, Value, Scalar, Start, Opening, Event, no_event, stream_start, stream_end, document_start, document_end, alias, scalar, sequence_start, sequence_end, mapping_start, mapping_end, scalar_tag, start_tag, Context, is_simple_part, deeper, checked, line_at, wrap_at, anchor_text, tag_text, properties_text, style_of, mark_text, page_at, scalar_layout, alias_layout, is_flow, indent_of, indented, comma, turned, before_item, question, before_key, before_value, closer, dots, version_word, version_text, directive_text, directives_text, is_directed, dashes, is_marked, start_layout, end_layout, is_kept, stop_layout, is_simple_event, position_of, before_at, before_node, stop_at, start_at, is_fresh, closer_at, start_text, depth_text, text_at, depth_at, piece_at}
use Rattle.std.specs.Str.{chars}
use Rattle.yaml_emit_layout.specs.scan_model.declared.record.yaml_version_directive_t.{yaml_version_directive_t}
use Rattle.yaml_emit_layout.specs.Tags.{tag_spelling, uri_text}
use Rattle.yaml_emit_layout.specs.declared.NodePosition.{NodePosition}
use Rattle.yaml_emit_layout.specs.declared.Expected.{Expected}
use Rattle.yaml_emit_layout.specs.declared.Expected.TheVariants as at
use Rattle.yaml_round_laws.proofs.Regular.{Written, Regular, both, stay_regular, when_regular, if_regular, choose_regular, char_regular, keep_regular, mark_regular, word_regular, indicator_regular, opener_regular, line_regular, wrap_regular, checked_regular, scalar_text_regular}

-- ---- nodes

anchor_regular : (a : Option (List ℕ)) → Regular (anchor_text a)
anchor_regular None = stay_regular
anchor_regular (Some name) = word_regular (38 ∷ name)

tag_regular : (p : Context) (t : Option (List ℕ)) → Regular (tag_text p t)
tag_regular p None = stay_regular
tag_regular p (Some t) = word_regular (tag_spelling p.directives t)

properties_regular : (p : Context) (a t : Option (List ℕ)) → Regular (properties_text p a t)
properties_regular p a t = both (anchor_text a) (tag_text p t) (anchor_regular a) (tag_regular p t)

scalar_regular : (p : Context) (at : NodePosition) (x : Scalar) → Regular (scalar_layout p at x)
unfolding scalar_layout
scalar_regular p at x =
    let mark : Layout = mark_text p x (style_of p at x) in
    let deep : Layout = checked (deeper p.settings at.around) in
    let text : Layout = scalar_text (page_at p.settings at) p.settings.indent at.flow (style_of p at x) (chars x.value) in
    both (properties_text p x.anchor (scalar_tag p.settings.canonical x)) (mark ▹ deep ▹ text) (properties_regular p x.anchor (scalar_tag p.settings.canonical x))
    (both mark (deep ▹ text) (when_regular _ (word (33 ∷ [])) (word_regular (33 ∷ [])))
    (both deep text (checked_regular (deeper p.settings at.around)) (scalar_text_regular (page_at p.settings at) p.settings.indent at.flow (style_of p at x) (chars x.value))))

alias_regular : (at : NodePosition) (name : List ℕ) → Regular (alias_layout at name)
unfolding alias_layout
alias_regular at name = both (word (42 ∷ name)) (when (is_simple_part at.part) (char 32)) (word_regular (42 ∷ name)) (when_regular (is_simple_part at.part) (char 32) (char_regular 32))

-- ---- what comes before a node

comma_regular : (fresh : Bool) → Regular (comma fresh)
comma_regular fresh = when_regular (not fresh) (char 44) (char_regular 44)

at_line : (s : Settings) (n : ℕ) → Regular (line_at s n)
at_line s n = line_regular s.line_break n

turned_regular : (s : Settings) (n : ℕ) → Regular (turned s n)
unfolding turned
turned_regular s n = if_regular s.canonical (line_at s n) (wrap_at s n) (at_line s n) (wrap_regular s.width s.line_break n)

item_regular : (s : Settings) (flow : Bool) (n : ℕ) (fresh : Bool)
    → Regular (before_item s flow n fresh)
unfolding before_item
item_regular s true n fresh = both (comma fresh) (turned s n) (comma_regular fresh) (turned_regular s n)
item_regular s false n fresh = both (line_at s n) (indicator 45) (at_line s n) (indicator_regular 45)

question_regular : (flow : Bool) → Regular (question flow)
question_regular true = word_regular (63 ∷ [])
question_regular false = indicator_regular 63

key_regular : (s : Settings) (flow : Bool) (n : ℕ) (fresh simple : Bool)
    → Regular (before_key s flow n fresh simple)
unfolding before_key
key_regular s flow n fresh simple =
    both (if flow then comma fresh ▹ turned s n else line_at s n) (when (not simple) (question flow))
    (if_regular flow (comma fresh ▹ turned s n) (line_at s n) (both (comma fresh) (turned s n) (comma_regular fresh) (turned_regular s n)) (at_line s n))
    (when_regular (not simple) (question flow) (question_regular flow))

value_regular : (s : Settings) (flow : Bool) (n : ℕ) (simple : Bool)
    → Regular (before_value s flow n simple)
unfolding before_value
value_regular s flow n true = char_regular 58
value_regular s true n false = both (turned s n) (word (58 ∷ [])) (turned_regular s n) (word_regular (58 ∷ []))
value_regular s false n false = both (line_at s n) (indicator 58) (at_line s n) (indicator_regular 58)

before_regular : (s : Settings) (top : Option Level) (simple : Bool)
    → Regular (before_node s top simple)
before_regular s None simple = stay_regular
before_regular s (Some l) simple = at_phase s l.phase l.flow l.indent simple
  where
    at_phase : (s : Settings) (p : Phase) (flow : Bool) (n : ℕ) (simple : Bool)
        → Regular (before_at s p flow n simple)
    at_phase s (Items fresh) flow n simple = item_regular s flow n fresh
    at_phase s (Keys fresh) flow n simple = key_regular s flow n fresh simple
    at_phase s (Value was) flow n simple = value_regular s flow n was

-- ---- collections

closer_by : (s : Settings) (flow : Bool) (n : ℕ) (fresh : Bool) (x : ℕ)
    → Regular (closer s flow n fresh x)
unfolding closer
closer_by s true n fresh x =
    both (when (s.canonical && not fresh) (char 44 ▹ line_at s (n - s.indent))) (char x)
    (when_regular (s.canonical && not fresh) (char 44 ▹ line_at s (n - s.indent)) (both (char 44) (line_at s (n - s.indent)) (char_regular 44) (at_line s (n - s.indent)))) (char_regular x)
closer_by s false n fresh x = stay_regular

closer_regular : (s : Settings) (top : Option Level) (x : ℕ) → Regular (closer_at s top x)
closer_regular s None x = stay_regular
closer_regular s (Some l) x = closer_by s l.flow l.indent (is_fresh l.phase) x

start_regular : (p : Context) (at : NodePosition) (x : ℕ) (q : Start) (empty : Bool)
    → Regular (start_text p at x q empty)
start_regular p at x q empty =
    both (properties_text p q.anchor (start_tag p.settings.canonical q)) (when (is_flow p.settings at q empty) (opener x)) (properties_regular p q.anchor (start_tag p.settings.canonical q))
    (when_regular (is_flow p.settings at q empty) (opener x) (opener_regular x))

indented_regular : (n : Cursor → ℕ) (f : ℕ → Layout) → ((m : ℕ) → Regular (f m))
    → Regular (indented n f)
indented_regular n f h c =
    let p : Written (f (n c)) c = h (n c) c in
    record { text = p.text; behind = p.behind; is = p.is }

depth_regular : (p : Context) (at : NodePosition) (sequence : Bool) (q : Start) (empty : Bool)
    → Regular (depth_text p at sequence q empty)
depth_regular p at sequence q empty = indented_regular (indent_of p.settings at sequence (is_flow p.settings at q empty)) checked checked_regular

-- ---- documents

dots_regular : (s : Settings) → Regular (dots s)
dots_regular s = both (word (46 ∷ 46 ∷ 46 ∷ [])) (line_at s 0) (word_regular (46 ∷ 46 ∷ 46 ∷ [])) (at_line s 0)

version_regular : (s : Settings) (v : Option yaml_version_directive_t) → Regular (version_text s v)
version_regular s None = stay_regular
version_regular s (Some v) =
    both (word (codes "%YAML")) (word (version_word v) ▹ line_at s 0) (word_regular (codes "%YAML")) (both (word (version_word v)) (line_at s 0) (word_regular (version_word v)) (at_line s 0))

directive_regular : (s : Settings) (d : TagDirective) → Regular (directive_text s d)
directive_regular s d =
    both (word (codes "%TAG")) (word d.handle ▹ word (uri_text true d.prefix) ▹ line_at s 0) (word_regular (codes "%TAG"))
    (both (word d.handle) (word (uri_text true d.prefix) ▹ line_at s 0) (word_regular d.handle)
    (both (word (uri_text true d.prefix)) (line_at s 0) (word_regular (uri_text true d.prefix)) (at_line s 0)))

directives_regular : (s : Settings) (ds : List TagDirective) → Regular (directives_text s ds)
unfolding directives_text
directives_regular s [] = stay_regular
directives_regular s (d ∷ ds) = both (directive_text s d) (directives_text s ds) (directive_regular s d) (directives_regular s ds)

dashes_regular : (s : Settings) → Regular (dashes s)
dashes_regular s =
    both (line_at s 0) (word (45 ∷ 45 ∷ 45 ∷ []) ▹ when s.canonical (line_at s 0)) (at_line s 0)
    (both (word (45 ∷ 45 ∷ 45 ∷ [])) (when s.canonical (line_at s 0)) (word_regular (45 ∷ 45 ∷ 45 ∷ [])) (when_regular s.canonical (line_at s 0) (at_line s 0)))

opening_regular : (s : Settings) (first unended : Bool) (o : Opening)
    → Regular (start_layout s first unended o)
unfolding start_layout
opening_regular s first unended o =
    let version : Layout = version_text s o.version in
    let directives : Layout = directives_text s o.directives in
    let marked : Layout = when (is_marked s first o) (dashes s) in
    both (when (unended && is_directed o) (dots s)) (keep false ▹ version ▹ directives ▹ marked) (when_regular (unended && is_directed o) (dots s) (dots_regular s))
    (both (keep false) (version ▹ directives ▹ marked) (keep_regular false)
    (both version (directives ▹ marked) (version_regular s o.version)
    (both directives marked (directives_regular s o.directives) (when_regular (is_marked s first o) (dashes s) (dashes_regular s)))))

ending_regular : (s : Settings) (implicit : Bool) → Regular (end_layout s implicit)
unfolding end_layout
ending_regular s implicit = both (line_at s 0) (when (not implicit) (dots s)) (at_line s 0) (when_regular (not implicit) (dots s) (dots_regular s))

stop_regular : (s : Settings) (place : Expected) → Regular (stop_at s place)
unfolding stop_layout
stop_regular s (at.Documents first unended) = when_regular unended (choose is_kept (dots s) stay) (choose_regular is_kept (dots s) stay (dots_regular s) stay_regular)
stop_regular s _ = stay_regular

begin_regular : (s : Settings) (place : Expected) (o : Opening) → Regular (start_at s place o)
begin_regular s (at.Documents first unended) o = opening_regular s first unended o
begin_regular s _ o = stay_regular

-- ---- events

text_regular : (p : Context) (place : Expected) (top : Option Level) (e : Event) (empty : Bool)
    → Regular (text_at p place top e empty)
unfolding text_at
text_regular p place top no_event empty = stay_regular
text_regular p place top (stream_start x) empty = mark_regular p.settings.encoding
text_regular p place top stream_end empty = stop_regular p.settings place
text_regular p place top (document_start o) empty = begin_regular p.settings place o
text_regular p place top (document_end implicit) empty = ending_regular p.settings implicit
text_regular p place top (alias name) empty =
    let simple : Bool = is_simple_event p (alias name) empty in
    both (before_node p.settings top simple) (alias_layout (position_of top simple) name) (before_regular p.settings top simple) (alias_regular (position_of top simple) name)
text_regular p place top (scalar v) empty =
    let simple : Bool = is_simple_event p (scalar v) empty in
    both (before_node p.settings top simple) (scalar_layout p (position_of top simple) v) (before_regular p.settings top simple) (scalar_regular p (position_of top simple) v)
text_regular p place top (sequence_start q) empty =
    let simple : Bool = is_simple_event p (sequence_start q) empty in
    both (before_node p.settings top simple) (start_text p (position_of top simple) 91 q empty) (before_regular p.settings top simple) (start_regular p (position_of top simple) 91 q empty)
text_regular p place top (mapping_start q) empty =
    let simple : Bool = is_simple_event p (mapping_start q) empty in
    both (before_node p.settings top simple) (start_text p (position_of top simple) 123 q empty) (before_regular p.settings top simple) (start_regular p (position_of top simple) 123 q empty)
text_regular p place top sequence_end empty = closer_regular p.settings top 93
text_regular p place top mapping_end empty = closer_regular p.settings top 125

deep_regular : (p : Context) (top : Option Level) (e : Event) (empty : Bool)
    → Regular (depth_at p top e empty)
unfolding depth_at
deep_regular p top (sequence_start q) empty = depth_regular p (position_of top (is_simple_event p (sequence_start q) empty)) true q empty
deep_regular p top (mapping_start q) empty = depth_regular p (position_of top (is_simple_event p (mapping_start q) empty)) false q empty
deep_regular p top _ empty = stay_regular

pub piece_regular : (p : Context) (place : Expected) (top : Option Level) (e : Event) (empty : Bool)
    → Regular (piece_at p place top e empty)
piece_regular p place top e empty = both (text_at p place top e empty) (depth_at p top e empty) (text_regular p place top e empty) (deep_regular p top e empty)
