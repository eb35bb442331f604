-- What the bytes of canonical text decode to.
use Rattle.std.specs.Prelude.{◌≡◌, ℕ, true, false, List, [], ◌∷◌, Option, Some, None, Ok}
use Rattle.std.specs.List.{list_all}
use Rattle.std.specs.Str.{IsUtf8}
use Rattle.yaml_emit_laws.specs.scan_types.Classes.{is_alpha_byte}
use Rattle.yaml_emit_laws.specs.scan_decode.Encodings.{encoding_of}
use Rattle.yaml_emit_laws.specs.scan_decode.Decoding.{decoded_text}
use Rattle.yaml_emit_laws.specs.scan_model.declared.name.yaml_encoding_t.{yaml_encoding_t}
use Rattle.yaml_emit_laws.specs.scan_model.declared.name.yaml_encoding_t.TheVariants.{YAML_ANY_ENCODING, YAML_UTF8_ENCODING, YAML_UTF16LE_ENCODING, YAML_UTF16BE_ENCODING}
use Rattle.yaml_parse_model.specs.Events.{TagDirective}
use Rattle.yaml_emit_laws.specs.emit_layout.declared.Encoding.{Encoding}
use Rattle.yaml_emit_laws.specs.emit_layout.declared.Encoding.TheVariants.{Utf8, Utf16Le, Utf16Be}
use Rattle.yaml_emit_laws.specs.emit_layout.declared.Settings.{Settings}
use Rattle.yaml_emit_laws.specs.emit_layout.Text.{encode}
use Rattle.yaml_emit_laws.specs.emit_layout.Layout.{written}
use Rattle.yaml_emit_laws.specs.emit_layout.Content.{Document, Node, alias_node, scalar_node, sequence_node, mapping_node, Nodes, no_nodes, node, Pairs, no_pairs, pair}
use Rattle.yaml_emit_laws.specs.emit_layout.Grammar.{opening_problem}
use Rattle.yaml_emit_laws.specs.emit_layout.Nodes.{documents_layout, stream_layout}

-- the bytes are 0-9 A-Z a-z _ -
abbrev pub IsName : List ℕ → Type 0
IsName name = list_all is_alpha_byte name ≡ true

abbrev pub IsNameOption : Option (List ℕ) → Type 0
IsNameOption None = Unit {0}
IsNameOption (Some name) = IsName name

abbrev pub IsTextOption : Option (List ℕ) → Type 0
IsTextOption None = Unit {0}
IsTextOption (Some t) = IsUtf8 t

-- Names are such bytes; tags and values are UTF-8.
abbrev mutual
  pub IsSpellable : Node → Type 0
  IsSpellable (alias_node name) = IsName name
  IsSpellable (scalar_node x) = IsNameOption x.anchor × IsTextOption x.tag × IsUtf8 x.value
  IsSpellable (sequence_node q items) = IsNameOption q.anchor × IsTextOption q.tag
      × AreSpellable items
  IsSpellable (mapping_node q pairs) = IsNameOption q.anchor × IsTextOption q.tag
      × PairsAreSpellable pairs

  pub AreSpellable : Nodes → Type 0
  AreSpellable no_nodes = Unit {0}
  AreSpellable (node x xs) = IsSpellable x × AreSpellable xs

  pub PairsAreSpellable : Pairs → Type 0
  PairsAreSpellable no_pairs = Unit {0}
  PairsAreSpellable (pair k v ps) = IsSpellable k × IsSpellable v × PairsAreSpellable ps

-- each prefix is UTF-8
abbrev pub HavePrefixes : List TagDirective → Type 0
HavePrefixes [] = Unit {0}
HavePrefixes (d ∷ ds) = IsUtf8 d.prefix × HavePrefixes ds

-- The directives may be written, with prefixes in UTF-8, and the root is spellable.
abbrev pub DocumentsAreSpellable : List Document → Type 0
DocumentsAreSpellable [] = Unit {0}
DocumentsAreSpellable (d ∷ ds) = (opening_problem d.opening ≡ None)
    × HavePrefixes d.opening.directives × IsSpellable d.root × DocumentsAreSpellable ds

-- an encoding by its public name
abbrev pub encoding_named : Encoding → yaml_encoding_t
encoding_named Utf8 = YAML_UTF8_ENCODING
encoding_named Utf16Le = YAML_UTF16LE_ENCODING
encoding_named Utf16Be = YAML_UTF16BE_ENCODING

abbrev pub canonical_bytes : Settings → List Document → List ℕ
canonical_bytes s ds = encode s.encoding (written (stream_layout s ds))

-- the text that is laid out, without the mark
abbrev pub canonical_text : Settings → List Document → List ℕ
canonical_text s ds = encode Utf8 (written (documents_layout s true false ds))

-- With the encoding detected, the bytes decode to the text, in the encoding that was set.
abbrev pub CanonicalBytesDecode : Type 0
CanonicalBytesDecode = (s : Settings) → s.canonical ≡ true → (ds : List Document)
    → DocumentsAreSpellable ds
    → (decoded_text YAML_ANY_ENCODING (canonical_bytes s ds) ≡ Ok (canonical_text s ds))
    × (encoding_of YAML_ANY_ENCODING (canonical_bytes s ds) ≡ encoding_named s.encoding)
