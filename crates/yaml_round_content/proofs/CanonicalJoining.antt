-- Bytes of canonical text are decoded to it.
use Rattle.std.proofs.Common.{◌≡◌, ℕ, true, false, List, ◌∷◌, drop, Ok, sym, ap, subst, ◌∙◌}
use Rattle.yaml_round_content.proofs.ReadBackWords.{yaml_encoding_t, YAML_ANY_ENCODING, YAML_UTF8_ENCODING, YAML_UTF16LE_ENCODING, YAML_UTF16BE_ENCODING, encoding_of, mark_length, decoded_text, Spells, spellings, Utf8, Utf16Le, Utf16Be, Settings, Item, letter, encode, shown, Rest, order_mark, start, nothing_more, Document, documents_layout, stream_layout, DocumentsAreSpellable, encoding_named, canonical_bytes, canonical_text, CanonicalBytesDecode}
use Rattle.yaml_scan_laws.proofs.CompleteLemmas.{spells_decoded}
use Rattle.yaml_emit_laws.specs.emit_layout.declared.Encoding.{Encoding}
use Rattle.yaml_round_content.proofs.Encoding.{bytes_8, bytes_le, bytes_be, bytes_utf8}
use Rattle.yaml_round_content.proofs.Characters.{all_pass}
use Rattle.yaml_round_content.proofs.ReadBackLayouts.{Allowed, nothing_allowed}
use Rattle.yaml_round_content.proofs.PrettyLayouts.{documents_tame}
use Rattle.yaml_round_content.proofs.Marks.{Told, no_mark, text_begins, low_told, low_behind, high_told, high_behind}
use Rattle.yaml_round_content.proofs.Bare.{canonical_settings}
use Rattle.yaml_round_content.proofs.Layouts.{canonical_is}

-- the bytes decode to the text, in that encoding
abbrev pub Decodes : List ℕ → List ℕ → yaml_encoding_t → Type 0
Decodes bytes text e = (decoded_text YAML_ANY_ENCODING bytes ≡ Ok text) × (encoding_of YAML_ANY_ENCODING bytes ≡ e)

-- What an encoding spells for a text decodes to it.
pub decoded : (bytes : List ℕ) (t : List Item) (e : yaml_encoding_t) → Allowed t
    → encoding_of YAML_ANY_ENCODING bytes ≡ e
    → drop (mark_length YAML_ANY_ENCODING bytes) bytes ≡ spellings e (shown t)
    → Decodes bytes (encode Utf8 t) e
decoded bytes t e allowed told spelled =
    let same : drop (mark_length YAML_ANY_ENCODING bytes) bytes ≡ spellings (encoding_of YAML_ANY_ENCODING bytes) (shown t) =
    spelled ∙ ap (λ (x : yaml_encoding_t). spellings x (shown t)) (sym told) in
    let spells : Spells YAML_ANY_ENCODING bytes (encode Utf8 t) = record { characters = shown t; allowed = all_pass (shown t) allowed; spelled = same; is = bytes_8 t } in
    (spells_decoded YAML_ANY_ENCODING bytes (encode Utf8 t) spells, told)

-- a text before which no mark is taken from it
pub decodes : (x : Encoding) (rest : Rest) → Allowed (rest start) → Told (encode Utf8 (rest start))
    → Decodes (encode x (order_mark x start rest)) (encode Utf8 (rest start)) (encoding_named x)
decodes Utf8 rest allowed (told, none) =
    let t = rest start in
    let behind : drop (mark_length YAML_ANY_ENCODING (encode Utf8 t)) (encode Utf8 t) ≡ encode Utf8 t = ap (λ (n : ℕ). drop n (encode Utf8 t)) none in
    decoded (encode Utf8 t) t YAML_UTF8_ENCODING allowed told (behind ∙ bytes_8 t ∙ sym (bytes_utf8 (shown t)))
decodes Utf16Le rest allowed said =
    let t = rest start in
    decoded (encode Utf16Le (letter 0xFEFF ∷ t)) t YAML_UTF16LE_ENCODING allowed (low_told t) (low_behind t ∙ bytes_le t)
decodes Utf16Be rest allowed said =
    let t = rest start in
    decoded (encode Utf16Be (letter 0xFEFF ∷ t)) t YAML_UTF16BE_ENCODING allowed (high_told t) (high_behind t ∙ bytes_be t)

abbrev Decode : List Document → Settings → Type 0
Decode ds s = Decodes (canonical_bytes s ds) (canonical_text s ds) (encoding_named s.encoding)

canonical_decode : (s : Settings) (ds : List Document) → DocumentsAreSpellable ds
    → Decode ds (canonical_settings s)
unfolding stream_layout
canonical_decode s ds h =
    let z = canonical_settings s in
    decodes s.encoding (λ c. documents_layout z true false ds c nothing_more) (documents_tame z true false ds h start nothing_more (λ _. nothing_allowed)) (no_mark _ (text_begins s ds))

pub bytes_decode : CanonicalBytesDecode
bytes_decode s e ds h = subst (Decode ds) (canonical_is s e) (canonical_decode s ds h)
