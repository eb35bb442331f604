-- Words of one byte, and the marks of documents and of the stream's end: what is there comes.
use Rattle.std.specs.Prelude.{◌≡◌, ◌<◌, ◌+◌, ℕ, Bool, true, false, List, length}
use Rattle.yaml_scan_history.specs.scan_types.Ascii as ascii
use Rattle.yaml_scan_history.specs.scan_types.Marks.{byte, is_blank_or_end}
use Rattle.yaml_scan_history.specs.scan_types.Tokens as tokens
use Rattle.yaml_scan_history.specs.scan_types.Tokens.{TokenBody}
use Rattle.yaml_scan_history.specs.Indicators.{is_document_start, is_document_end}
use Rattle.yaml_scan_history.specs.Written.{begins_lexeme}
use Rattle.yaml_scan_history.specs.declared.kind.Kind.{Kind}
use Rattle.yaml_scan_history.specs.declared.kind.Kind.TheVariants as kinds
use Rattle.yaml_scan_history.specs.Words.{WordText, lexeme_at}
use Rattle.yaml_scan_laws.specs.White.{IsGap}
use Rattle.yaml_scan_laws.specs.Steps.{Comes}

abbrev pub sign : TokenBody → ℕ → WordText
sign body e = record { body = body; end = e; reached = e; broke = false }

-- a byte that is a word by itself
abbrev pub SignComes : ℕ → Kind → TokenBody → Type 0
SignComes b k body = (text : List ℕ) (p d level : ℕ) (gap : List ℕ) → IsGap text p gap
    → byte text (p + length gap) ≡ b
    → Comes text p d level k gap (sign body (p + length gap + 1)) (p + length gap + 1)

-- one that is a word before a blank, a break or the end
abbrev pub MarkComes : ℕ → Kind → TokenBody → Type 0
MarkComes b k body = (text : List ℕ) (p d level : ℕ) (gap : List ℕ) → IsGap text p gap
    → byte text (p + length gap) ≡ b → is_blank_or_end text (p + length gap + 1) ≡ true
    → Comes text p d level k gap (sign body (p + length gap + 1)) (p + length gap + 1)

pub record SignsCome : Type 0 where
  pub sequence : SignComes ascii.open_bracket kinds.FlowSequenceStart tokens.flow_sequence_start
  pub mapping : SignComes ascii.open_brace kinds.FlowMappingStart tokens.flow_mapping_start
  pub sequence_end : SignComes ascii.close_bracket kinds.FlowSequenceEnd tokens.flow_sequence_end
  pub mapping_end : SignComes ascii.close_brace kinds.FlowMappingEnd tokens.flow_mapping_end
  pub comma : SignComes ascii.comma kinds.FlowEntry tokens.flow_entry
  pub entry : MarkComes ascii.hyphen kinds.BlockEntry tokens.block_entry
  pub question : MarkComes ascii.question kinds.KeyMark tokens.key
  pub colon : MarkComes ascii.colon kinds.ValueMark tokens.value

-- `---`, `...` and the end
pub record MarksCome : Type 0 where
  pub starts : (text : List ℕ) (p level : ℕ) (gap : List ℕ) → IsGap text p gap
      → byte text (p + length gap) ≡ ascii.hyphen → is_document_start text (p + length gap) ≡ true
      → Comes text p 0 level kinds.DocumentStart gap
      (sign tokens.document_start (p + length gap + 3)) (p + length gap + 3)
  pub ends : (text : List ℕ) (p level : ℕ) (gap : List ℕ) → IsGap text p gap
      → byte text (p + length gap) ≡ ascii.dot → is_document_end text (p + length gap) ≡ true
      → Comes text p 0 level kinds.DocumentEnd gap (sign tokens.document_end (p + length gap + 3))
      (p + length gap + 3)
  pub stops : (text : List ℕ) (p level : ℕ) (gap : List ℕ) → IsGap text p gap
      → byte text (p + length gap) ≡ 0
      → Comes text p 0 level kinds.StreamEnd gap (sign tokens.stream_end (p + length gap))
      (p + length gap)

-- With a printed ASCII character that isn't `#` a lexeme begins.
abbrev pub PrintedBegins : Type 0
PrintedBegins =
    (text : List ℕ) (p b : ℕ) → byte text p ≡ b → ascii.space < b → b < ascii.delete
    → (b ≡ ascii.hash → ⊥)
    → begins_lexeme text p ≡ true

-- what reads the level that it is in
abbrev pub reads_level : Kind → Bool
reads_level kinds.Plain = true
reads_level kinds.Literal = true
reads_level kinds.Folded = true
reads_level _ = false

-- All other words are the same in every level.
abbrev pub LevelIsOut : Type 0
LevelIsOut = (k : Kind) (flow : Bool) (n m : ℕ) (text : List ℕ) (p : ℕ) → reads_level k ≡ false
    → lexeme_at k flow n text p ≡ lexeme_at k flow m text p
