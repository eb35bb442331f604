-- The laws: tokens of an input, and the tree that they are.
use Rattle.std.proofs.Common.{◌≡◌, ℕ, ◌+◌, ◌*◌, ◌/◌, ◌<◌, ◌≤◌, Bool, true, false, ◌&&◌, nat_le, List, [], ◌++◌, length, Result, Ok, Err, pos, refl, ap, subst, ◌∙◌, arith, inl, inr, IsUtf8, le_refl, mul-le-mul_left, mul-le-mul_right, mul_assoc}
use Rattle.yaml_round_laws.proofs.SizesWords.{cases_Bool, leb-true, length-le-encodes, encode_utf8_all, ℤ, negsuc, yaml_encoding_t, YAML_ANY_ENCODING, Token, Offence, in_utf8, decoded_characters, encoding_of, SpelledText, offline, Settings, encode, is_deep, MOST, stream_layout, Stream, spell, Document, tree_content, written_documents, canon_items, adapted, RootStandsAt, unit, ascii, most_of_documents, most_bytes, by_content, text_times, most_of_read, DepthsTakeBytes, DeepInputsAreLong, ShortInputsKeepColumns, CanonicalTextsAreBounded, ContentsAreBounded, CanonicalTextsAreShort, LayoutsAreShort}
use Rattle.yaml_scan_history.specs.Scanned.{scanned_in}
use Rattle.yaml_emit_layout.specs.Settings.{settled, settled_indent}
use Rattle.yaml_emit_layout.specs.Layout.{written}
use Rattle.yaml_round_content.specs.Input.{events_of}
use Rattle.yaml_round_content.proofs.Joining.{read_said}
use Rattle.yaml_round_content.specs.Reading.{HaveContent}
use Rattle.yaml_scan_laws.proofs.TokensUtf8.{remaining_sound}
use Rattle.yaml_emit_laws.proofs.ColumnsDepths.{by_depth}
use Rattle.yaml_round_laws.proofs.Leads.{Few, few_decoded, leads_few}
use Rattle.yaml_round_laws.proofs.Tokens.{count, count_append, tokens_few, cut_most}
use Rattle.yaml_round_laws.proofs.Trees.{tree_deep}
use Rattle.yaml_round_laws.proofs.Weights.{Weight, weigh, weigh_append}
use Rattle.yaml_round_laws.proofs.Flat.{flat_documents, flat_documents_most}
use Rattle.yaml_round_laws.proofs.Costs.{broad, cost, lends, tree_cost}
use Rattle.yaml_round_laws.proofs.Prices.{by_length, tokens_cost, tokens_mark}
use Rattle.yaml_round_laws.proofs.Lengths.{tags, lengths, cut_costs, cut_lends, all_marked}
use Rattle.yaml_round_laws.proofs.Bounds.{squares, all_in_all, most_columns, columns_fit}
use Rattle.yaml_round_laws.proofs.Tally.{tallies_agree}
use Rattle.yaml_round_laws.proofs.Decoded.{IsTextAny, input_text}

nothing_said : {A : Type 0} (t : Stream) (rest : List Token) → [] ≡ spell t [] ++ rest → A
nothing_said t rest e = cc

-- of what was decoded
decoded_take : (x : yaml_encoding_t) (r : Result (List ℕ) Offence) (n : ℕ) (c : List Document)
    → Few n r → HaveContent (adapted (scanned_in x (in_utf8 r))).tokens c
    → (d : ℕ) → RootStandsAt d (written_documents c) → 3 * d ≤ 2 * n + 2
decoded_take x (Err o) n c few k d h = nothing_said k.sentence.tree k.sentence.rest k.sentence.same
decoded_take x (Ok cs) n c few k d h =
    let s : SpelledText = record { encoding = x; text = encode_utf8_all cs } in
    let t = k.sentence.tree in
    let here : RootStandsAt d (written_documents (tree_content t)) = subst (λ z. RootStandsAt d (written_documents z)) k.content h in
    let a : 3 * d + 2 * count [] ≤ 2 * count (spell t []) = tree_deep t d [] here in
    let b = count_append (spell t []) k.sentence.rest in
    let e : count (adapted (offline s)).tokens ≡ count (spell t []) + count k.sentence.rest = ap count k.sentence.same ∙ b in
    let f : count (adapted (offline s)).tokens ≤ count (offline s).tokens = cut_most (offline s).fault (offline s).tokens in
    let l = leads_few cs in
    omega (arith, a, e, f, few, l, tokens_few s)

pub depths_take : DepthsTakeBytes
depths_take from input c k = decoded_take (encoding_of from input) (decoded_characters from input) (length input) c (few_decoded from input) k.of_tokens

pub deep_long : DeepInputsAreLong
deep_long from input c k indent h =
    let few : 3 * h.depth ≤ 2 * length input + 2 = depths_take from input c k h.depth h.stands in
    let past : MOST < (h.depth + 1) * indent = h.past in
    let more : 3 * (h.depth + 1) ≤ 2 * length input + 5 = omega arith in
    let grown : (3 * (h.depth + 1)) * indent ≤ (2 * length input + 5) * indent = mul-le-mul_right indent more in
    let same : (3 * (h.depth + 1)) * indent ≡ 3 * ((h.depth + 1) * indent) = mul_assoc 3 (h.depth + 1) indent in
    omega (arith, past, grown, same)

too_short : (n : ℕ) → n ≤ 1610612732 → 3 * MOST < (2 * n + 5) * 2 → ⊥
too_short n a b = omega arith

pub short_keeps : ShortInputsKeepColumns
short_keeps from input c k short w canonical two =
    let s = settled w YAML_ANY_ENCODING in
    elim (cases_Bool (is_deep (canon_items w c))) [
      | inl h ↦
          let past : 3 * MOST < (2 * length input + 5) * settled_indent w.indent = deep_long from input c k s.indent ((by_depth s canonical (written_documents c)).0 h) in
          absurd (too_short (length input) short (subst (λ i. 3 * MOST < (2 * length input + 5) * i) two past))
      | inr h ↦ h
    ]

pub bounded : CanonicalTextsAreBounded
bounded w canonical c = by_content (settled w YAML_ANY_ENCODING) (written_documents c)

-- ---- by the input's length

front_weighs : (w : Weight) (ts xs ys : List Token) → ts ≡ xs ++ ys → weigh w xs ≤ weigh w ts
front_weighs w ts xs ys e = rw e (omega (arith, weigh_append w xs ys))

-- of a text in UTF-8
text_bounded : (s : Settings) (x : yaml_encoding_t) (cs : List ℕ) (c : List Document) → 2 ≤ s.indent
    → IsUtf8 (encode_utf8_all cs) → HaveContent (adapted (scanned_in x (in_utf8 (Ok cs)))).tokens c
    → most_bytes s (written_documents c) ≤ most_of_read s.encoding s.indent
    (length (encode_utf8_all cs))
text_bounded s x cs c two utf8 k =
    let t : SpelledText = record { encoding = x; text = encode_utf8_all cs } in
    let m = length t.text in
    let ts = (offline t).tokens in
    let u = unit s.encoding in
    let i = (2 * m + 5) / 3 * s.indent in
    let d = k.sentence.tree in
    let g = weigh tags ts in
    let b = weigh lengths ts in
    let room = 27 * u + 4 * u * b in
    let sound = remaining_sound t utf8 0 0 in
    -- the deepest one
    let deep = λ (n : ℕ) (h : RootStandsAt n (written_documents c)). columns_fit m s.indent n (decoded_take x (Ok cs) m c (length-le-encodes cs) k n h) in
    let a : most_of_documents s (written_documents c) ≤ flat_documents s i (written_documents c) = flat_documents_most s i (written_documents c) deep in
    -- tokens of the tree are some of the text's
    let whole = λ (w : Weight). front_weighs w (adapted (offline t)).tokens (spell d []) k.sentence.rest k.sentence.same in
    let lent : ascii s 27 + weigh (lends s.encoding) (spell d []) ≤ room = omega (arith, whole (lends s.encoding), cut_lends s.encoding (offline t).fault ts sound) in
    let e : flat_documents s i (written_documents (tree_content d)) ≤ ascii s 34 + weigh (cost s i room) (spell d []) = tree_cost s i room d lent in
    let same : flat_documents s i (written_documents c) ≡ flat_documents s i (written_documents (tree_content d)) = ap (λ (z : List Document). flat_documents s i (written_documents z)) k.content in
    let f : weigh (cost s i room) (adapted (offline t)).tokens ≤ weigh (by_length u (broad s i)) ts + room * g = cut_costs s i room (offline t).fault ts sound in
    let wide : 10 * u ≤ broad s i = omega arith in
    let p : weigh (by_length u (broad s i)) ts ≤ (broad s i + broad s i) * (m + 1) = tokens_cost u (broad s i) wide t in
    let few : g + b ≤ m + 1 = omega (arith, tokens_mark t, all_marked ts) in
    let n = all_in_all u m s.indent i g b two (most_columns m s.indent) few in
    omega (arith, a, same, e, whole (cost s i room), f, p, n)

read_grows : (s : Settings) (n m : ℕ) → n ≤ m
    → most_of_read s.encoding s.indent n ≤ most_of_read s.encoding s.indent m
read_grows s n m w =
    let a : (n + 8) * (n + 8) ≤ (m + 8) * (m + 8) = squares (n + 8) (m + 8) (omega (arith, w)) in
    let b : s.indent * ((n + 8) * (n + 8)) ≤ s.indent * ((m + 8) * (m + 8)) = mul-le-mul_left s.indent a in
    mul-le-mul_left (unit s.encoding) (omega (arith, b))

decoded_bounded : (s : Settings) (x : yaml_encoding_t) (r : Result (List ℕ) Offence) (k n : ℕ)
    (c : List Document) → 2 ≤ s.indent → IsTextAny k n r
    → HaveContent (adapted (scanned_in x (in_utf8 r))).tokens c
    → most_bytes s (written_documents c) ≤ most_of_read s.encoding s.indent (k * n)
decoded_bounded s x (Err o) k n c two t h = nothing_said h.sentence.tree h.sentence.rest h.sentence.same
decoded_bounded s x (Ok cs) k n c two t h =
    let a = text_bounded s x cs c two t.utf8 h in
    let b = read_grows s (length (encode_utf8_all cs)) (k * n) t.short in
    omega (arith, a, b)

indent_two : (z : ℤ) → 2 ≤ settled_indent z
indent_two (pos n) =
    elim (cases_Bool (nat_le 2 n && nat_le n 9)) [
      | inl e ↦ rw e (leb-true 2 n (first_of (nat_le 2 n) (nat_le n 9) e))
      | inr e ↦ rw e (le_refl _)
    ]
  where
    first_of : (a b : Bool) → (a && b) ≡ true → a ≡ true
    first_of true b e = refl
    first_of false b e = cc
indent_two (negsuc n) = le_refl _

pub contents_bounded : ContentsAreBounded
contents_bounded from input c k w =
    decoded_bounded (settled w YAML_ANY_ENCODING) (encoding_of from input) (decoded_characters from input) (text_times (encoding_of from input)) (length input) c (indent_two w.indent) (input_text from input) k.of_tokens

pub texts_short : CanonicalTextsAreShort
texts_short from input c k w canonical = omega (arith, bounded w canonical c, contents_bounded from input c k w)

pub layouts_short : LayoutsAreShort
layouts_short from input c k w ends x whole h =
    let s = settled w h.encoding in
    let a : length (encode s.encoding (written (stream_layout s h.documents))) ≤ most_bytes s h.documents = by_content s h.documents in
    let b = tallies_agree s ends h.encoding h.documents (events_of from input) c h.same (read_said from input c k).says in
    let d = decoded_bounded s (encoding_of from input) (decoded_characters from input) (text_times (encoding_of from input)) (length input) c (indent_two w.indent) (input_text from input) k.of_tokens in
    let e : length (encode s.encoding (written (stream_layout s h.documents))) ≤ most_of_read s.encoding s.indent (text_times (encoding_of from input) * length input) = omega (arith, a, b, d) in
    rw h.coded (rw h.is e)
