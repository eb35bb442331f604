-- The numbers of tokens are those of the rows.
use Rattle.std.proofs.Common.{◌≡◌, refl, ℕ, Some}
use Rattle.yaml_scan.specs.declared.yaml_encoding_t.{yaml_encoding_t}
use Rattle.yaml_scan.specs.declared.yaml_encoding_t.TheVariants as encoding
use Rattle.yaml_scan.specs.declared.yaml_scalar_style_t.{yaml_scalar_style_t}
use Rattle.yaml_scan.specs.declared.yaml_scalar_style_t.TheVariants as style
use Rattle.yaml_scan.specs.scan_types.Tokens.{Token, TokenBody, type_of}
use Rattle.yaml_scan.specs.scan_types.Tokens as token
use Rattle.yaml_round_answers.specs.declared.record.yaml_c_mark.{yaml_c_mark}
use Rattle.yaml_round_answers.specs.Numbers.{encoding_number, scalar_style_number, numbered, encodings, scalar_styles}
use Rattle.yaml_round_answers.specs.TokensListed.{body_record, record_at}
use Rattle.yaml_round_answers.specs.TokensRows.{token_kinds}

pub encoding_is : (e : yaml_encoding_t) → numbered encodings (encoding_number e) ≡ Some e
encoding_is encoding.YAML_ANY_ENCODING = refl
encoding_is encoding.YAML_UTF8_ENCODING = refl
encoding_is encoding.YAML_UTF16LE_ENCODING = refl
encoding_is encoding.YAML_UTF16BE_ENCODING = refl

pub style_is : (s : yaml_scalar_style_t) → numbered scalar_styles (scalar_style_number s) ≡ Some s
style_is style.YAML_ANY_SCALAR_STYLE = refl
style_is style.YAML_PLAIN_SCALAR_STYLE = refl
style_is style.YAML_SINGLE_QUOTED_SCALAR_STYLE = refl
style_is style.YAML_DOUBLE_QUOTED_SCALAR_STYLE = refl
style_is style.YAML_LITERAL_SCALAR_STYLE = refl
style_is style.YAML_FOLDED_SCALAR_STYLE = refl

body_is : (n : ℕ) (b : TokenBody) (s e : yaml_c_mark)
    → numbered token_kinds (body_record n b s e).kind ≡ Some (type_of b)
body_is n token.no s e = refl
body_is n (token.stream_start enc) s e = refl
body_is n token.stream_end s e = refl
body_is n (token.version_directive a b) s e = refl
body_is n (token.tag_directive handle prefix) s e = refl
body_is n token.document_start s e = refl
body_is n token.document_end s e = refl
body_is n token.block_sequence_start s e = refl
body_is n token.block_mapping_start s e = refl
body_is n token.block_end s e = refl
body_is n token.flow_sequence_start s e = refl
body_is n token.flow_sequence_end s e = refl
body_is n token.flow_mapping_start s e = refl
body_is n token.flow_mapping_end s e = refl
body_is n token.block_entry s e = refl
body_is n token.flow_entry s e = refl
body_is n token.key s e = refl
body_is n token.value s e = refl
body_is n (token.alias name) s e = refl
body_is n (token.anchor name) s e = refl
body_is n (token.tag handle suffix) s e = refl
body_is n (token.scalar text how) s e = refl

-- a record's number is that of its token's kind
pub kind_is : (n : ℕ) (t : Token)
    → numbered token_kinds (record_at n t).kind ≡ Some (type_of t.body)
kind_is n t = body_is n t.body _ _
