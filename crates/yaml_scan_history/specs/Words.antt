-- Which lexeme is at a place, and what it carries.
use Rattle.std.specs.Prelude.{ℕ, pos, ◌+◌, Bool, false, not, ◌&&◌, ◌||◌, ◌==◌, if◌then◌else◌, List, Option, Some, None, Result, Ok, Err}
use Rattle.yaml_scan_model.specs.scan_types.Ascii as ascii
use Rattle.yaml_scan_model.specs.declared.name.yaml_scalar_style_t.{yaml_scalar_style_t}
use Rattle.yaml_scan_model.specs.declared.name.yaml_scalar_style_t.TheVariants as styles
use Rattle.yaml_scan_model.specs.declared.problem.Context.TheVariants as contexts
use Rattle.yaml_scan_model.specs.scan_types.Tokens as tokens
use Rattle.yaml_scan_model.specs.scan_types.Tokens.{TokenBody}
use Rattle.yaml_scan_model.specs.scan_types.Marks.{byte, column_at, is_blank_or_end}
use Rattle.yaml_scan_model.specs.Wrong.{Wrong}
use Rattle.yaml_scan_history.specs.Indicators.{is_document_start, is_document_end}
use Rattle.yaml_scan_history.specs.Anchors.{anchor_at}
use Rattle.yaml_scan_history.specs.Tags.{TagText, tag_at}
use Rattle.yaml_scan_history.specs.Directives as directives
use Rattle.yaml_scan_history.specs.Directives.{Said, DirectiveText, directive_at}
use Rattle.yaml_scan_history.specs.Quoted.{double_quoted_at, single_quoted_at}
use Rattle.yaml_scan_history.specs.Plain.{PlainText, plain_at, starts_plain}
use Rattle.yaml_scan_history.specs.Block.{BlockText, block_at, style_at}
use Rattle.yaml_scan_history.specs.declared.kind.Kind.{Kind}
use Rattle.yaml_scan_history.specs.declared.kind.Kind.TheVariants as kinds

-- The kind that the first byte shows, in flow context or not; `alone` says that a blank, a break or the end
-- follows it.
unfoldable pub indicator_of : Bool → Bool → ℕ → Option Kind
indicator_of flow alone b =
    if b == ascii.open_bracket then Some kinds.FlowSequenceStart
    else if b == ascii.open_brace then Some kinds.FlowMappingStart
    else if b == ascii.close_bracket then Some kinds.FlowSequenceEnd
    else if b == ascii.close_brace then Some kinds.FlowMappingEnd
    else if b == ascii.comma then Some kinds.FlowEntry
    else if b == ascii.hyphen && alone then Some kinds.BlockEntry
    else if b == ascii.question && (flow || alone) then Some kinds.KeyMark
    else if b == ascii.colon && (flow || alone) then Some kinds.ValueMark
    else if b == ascii.asterisk then Some kinds.Alias
    else if b == ascii.ampersand then Some kinds.Anchor
    else if b == ascii.exclamation then Some kinds.Tag
    else if b == ascii.bar && not flow then Some kinds.Literal
    else if b == ascii.greater && not flow then Some kinds.Folded
    else if b == ascii.apostrophe then Some kinds.SingleQuoted
    else if b == ascii.quote then Some kinds.DoubleQuoted
    else None

abbrev pub or_plain : Option Kind → Bool → Option Kind
or_plain (Some k) starts = Some k
or_plain None starts = if starts then Some kinds.Plain else None

-- the kind of the lexeme that is there, in flow context or not
unfoldable pub kind_at : Bool → List ℕ → ℕ → Option Kind
kind_at flow text p =
    if byte text p == 0 then Some kinds.StreamEnd
    else if byte text p == ascii.percent && column_at text p == 0 then Some kinds.Directive
    else if is_document_start text p then Some kinds.DocumentStart
    else if is_document_end text p then Some kinds.DocumentEnd
    else or_plain (indicator_of flow (is_blank_or_end text (p + 1)) (byte text p))
    (starts_plain flow text p)

-- What a lexeme carries, where its token ends, the place that is reached after it, and whether the blanks after a
-- plain scalar hold a break.
pub record WordText : Type 0 where
  pub body : TokenBody
  pub end : ℕ
  pub reached : ℕ
  pub broke : Bool

abbrev pub carrying : TokenBody → ℕ → Result WordText Wrong
carrying body q = Ok record { body = body; end = q; reached = q; broke = false }

-- a value and the place after it
abbrev pub valued : (List ℕ → TokenBody) → Result (List ℕ × ℕ) Wrong → Result WordText Wrong
valued f (Ok x) = Ok record { body = f x.0; end = x.1; reached = x.1; broke = false }
valued f (Err w) = Err w

abbrev pub tagged : Result TagText Wrong → Result WordText Wrong
tagged (Ok t) = Ok record {
  body = tokens.tag t.handle t.suffix;
  end = t.end;
  reached = t.end;
  broke = false;
}
tagged (Err w) = Err w

abbrev pub body_said : Said → TokenBody
body_said (directives.version a b) = tokens.version_directive (pos a) (pos b)
body_said (directives.tag h p) = tokens.tag_directive h p

abbrev pub directed : Result DirectiveText Wrong → Result WordText Wrong
directed (Ok d) = Ok record {
  body = body_said d.said;
  end = d.end;
  reached = d.place;
  broke = false;
}
directed (Err w) = Err w

abbrev pub blocked : yaml_scalar_style_t → Result BlockText Wrong → Result WordText Wrong
blocked style (Ok b) = Ok record {
  body = tokens.scalar b.value style;
  end = b.end;
  reached = b.place;
  broke = false;
}
blocked style (Err w) = Err w

abbrev pub plainly : Result PlainText Wrong → Result WordText Wrong
plainly (Ok p) = Ok record {
  body = tokens.scalar p.value styles.YAML_PLAIN_SCALAR_STYLE;
  end = p.end;
  reached = p.place;
  broke = p.broke;
}
plainly (Err w) = Err w

-- the lexeme of that kind that is there, in flow context or not, in that level; or what is wrong with it
unfoldable pub lexeme_at : Kind → Bool → ℕ → List ℕ → ℕ → Result WordText Wrong
lexeme_at kinds.StreamStart flow level text p = carrying tokens.stream_end p
lexeme_at kinds.StreamEnd flow level text p = carrying tokens.stream_end p
lexeme_at kinds.Directive flow level text p = directed (directive_at text p)
lexeme_at kinds.DocumentStart flow level text p = carrying tokens.document_start (p + 3)
lexeme_at kinds.DocumentEnd flow level text p = carrying tokens.document_end (p + 3)
lexeme_at kinds.FlowSequenceStart flow level text p = carrying tokens.flow_sequence_start (p + 1)
lexeme_at kinds.FlowMappingStart flow level text p = carrying tokens.flow_mapping_start (p + 1)
lexeme_at kinds.FlowSequenceEnd flow level text p = carrying tokens.flow_sequence_end (p + 1)
lexeme_at kinds.FlowMappingEnd flow level text p = carrying tokens.flow_mapping_end (p + 1)
lexeme_at kinds.FlowEntry flow level text p = carrying tokens.flow_entry (p + 1)
lexeme_at kinds.BlockEntry flow level text p = carrying tokens.block_entry (p + 1)
lexeme_at kinds.KeyMark flow level text p = carrying tokens.key (p + 1)
lexeme_at kinds.ValueMark flow level text p = carrying tokens.value (p + 1)
lexeme_at kinds.Alias flow level text p = valued tokens.alias (anchor_at contexts.Alias text p)
lexeme_at kinds.Anchor flow level text p = valued tokens.anchor (anchor_at contexts.Anchor text p)
lexeme_at kinds.Tag flow level text p = tagged (tag_at flow text p)
lexeme_at kinds.Literal flow level text p = blocked (style_at text p) (block_at level text p)
lexeme_at kinds.Folded flow level text p = blocked (style_at text p) (block_at level text p)
lexeme_at kinds.SingleQuoted flow level text p = valued
    (λ v. tokens.scalar v styles.YAML_SINGLE_QUOTED_SCALAR_STYLE) (single_quoted_at text p)
lexeme_at kinds.DoubleQuoted flow level text p = valued
    (λ v. tokens.scalar v styles.YAML_DOUBLE_QUOTED_SCALAR_STYLE) (double_quoted_at text p)
lexeme_at kinds.Plain flow level text p = plainly (plain_at flow level text p)
