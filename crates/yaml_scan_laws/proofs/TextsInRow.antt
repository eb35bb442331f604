-- Two small texts, lexeme by lexeme: a key of two words, sequences and brackets; and marks, a `?` and keys in brackets.
use Rattle.std.proofs.Common.{◌≡◌, ◌≤◌, ℕ, ◌+◌, true, false, nat_lt, List, [], ◌∷◌, length, Some, Ok, refl, inl, inr, arith}
use Rattle.yaml_scan_laws.proofs.LevelWords.{false≢true, byte, line_at, column_at, break_of, ends_of, is_digit_byte, is_alpha_byte, is_document_indicator, break_value, TokenBody, is_document_start, is_document_end, are_gap, begins_lexeme, Kind, may_end_name, run_within, belongs, is_bracket, is_indicator_byte, starts_plain, leads, ends_at, spot_at, words, indent, WordText, indicator_of, kind_at, lexeme_at, Rises, IsGap, Comes, row_of_blocks, plain, BlocksAreRead, LeaveClear, row_of_keys, KeysAreRead}
use Rattle.yaml_scan_history.specs.scan_types.Tokens as tokens
use Rattle.yaml_scan_history.specs.declared.kind.Kind.TheVariants as kinds
use Rattle.yaml_scan_history.specs.declared.lexeme.Opens.TheVariants as opening
use Rattle.yaml_scan_laws.proofs.Stepping.{words_leave}
use Rattle.yaml_scan_laws.proofs.Walking.{walk_starts, walk_mark, walk_word, walk_ends, walk_stops, walk_key_starts, walk_key_goes, walk_key_stops, walk_outer, walk_asks, walk_answers}
use Rattle.yaml_scan_history.specs.scan_model.declared.name.yaml_scalar_style_t.TheVariants as styles
use Rattle.yaml_scan_history.specs.scan_model.Runs.{past}
use Rattle.yaml_scan_history.specs.Header.{is_chomping, chomp_of, digit_of, indicators, past_comment, header_at}
use Rattle.yaml_scan_history.specs.Lines.{spaces, spot_behind, lines_from}
use Rattle.yaml_scan_history.specs.Block.{larger, deepest, column_of}
use Rattle.yaml_scan_history.specs.Value.{between}

abbrev pub short : TokenBody → ℕ → WordText
short body e = record { body = body; end = e; reached = e; broke = false }

abbrev long : List ℕ → ℕ → ℕ → WordText
long v e r = record { body = plain v; end = e; reached = r; broke = true }

-- no white
pub at_once : (text : List ℕ) (p : ℕ) → begins_lexeme text (p + 0) ≡ true → IsGap text p []
at_once text p f = record { has = λ k few. absurd (omega (arith, few)); blank = refl; ends = f }

-- one byte of it
pub behind_one : (text : List ℕ) (p b : ℕ) → byte text p ≡ b → are_gap (b ∷ []) ≡ true
    → begins_lexeme text (p + 1) ≡ true → IsGap text p (b ∷ [])
behind_one text p b e blank f = grind arith

-- a word is after it
pub there : {text : List ℕ} {p d level e : ℕ} {k : Kind} {gap : List ℕ} {w : WordText}
    → IsGap text p gap → kind_at (nat_lt 0 d) text (p + length gap) ≡ Some k
    → lexeme_at k (nat_lt 0 d) level text (p + length gap) ≡ Ok w → p + length gap ≤ e
    → Comes text p d level k gap w e
there g k w u = record { behind = g; kind = k; word = w; up = u }

pub blocks_are_read : BlocksAreRead
unfolding kind_at lexeme_at indicator_of break_of is_document_start is_document_end column_at line_at ends_of starts_plain words spot_at ends_at leads is_bracket is_indicator_byte is_document_indicator break_value is_alpha_byte is_digit_byte run_within belongs may_end_name indent Rises LeaveClear
blocks_are_read x =
    let r0 = walk_starts x row_of_blocks in
    let r1 = walk_key_starts x row_of_blocks _ [] [] [] _ kinds.Anchor [] _ 2 false true r0 tt (there (at_once row_of_blocks 0 refl) refl refl (omega arith)) refl refl (inr (refl, omega arith, tt)) refl (words_leave.all row_of_blocks 0 false (short (tokens.anchor (120 ∷ [])) 2) refl) in
    let r2 = walk_key_goes x row_of_blocks _ 0 _ [] [] _ _ kinds.Plain (32 ∷ []) _ 4 false true r1 tt (there (behind_one row_of_blocks 2 32 refl refl refl) refl refl (omega arith)) refl (inr (omega arith)) (inl (refl, refl, refl)) refl refl (words_leave.all row_of_blocks 0 false (short (plain (107 ∷ [])) 4) refl) in
    let r3 = walk_key_stops x row_of_blocks _ _ [] [] (1 ∷ []) opening.Mapping _ _ [] _ 5 false true r2 tt (there (at_once row_of_blocks 4 refl) refl refl (omega arith)) (inr (omega arith)) refl refl refl (words_leave.all row_of_blocks 0 false (short tokens.value 5) refl) in
    let r4 = walk_mark x row_of_blocks _ (1 ∷ []) [] (1 ∷ []) opening.Nothing _ kinds.BlockEntry (10 ∷ []) _ 7 true true r3 refl (there (behind_one row_of_blocks 5 10 refl refl refl) refl refl (omega arith)) refl refl (inr (refl, omega arith, tt)) (λ v. absurd (false≢true v)) refl refl (words_leave.all row_of_blocks 0 true (short tokens.block_entry 7) refl) in
    let r5 = walk_word x row_of_blocks _ [] (1 ∷ []) _ kinds.Plain (32 ∷ []) _ 9 false true r4 tt (there (behind_one row_of_blocks 7 32 refl refl refl) refl refl (omega arith)) refl (inr (omega arith)) (λ v. absurd (false≢true v)) (words_leave.none row_of_blocks 0 (long (97 ∷ []) 9 10) 9 (10 ∷ []) (behind_one row_of_blocks 9 10 refl refl refl) refl refl) in
    let r6 = walk_mark x row_of_blocks _ (1 ∷ []) [] (1 ∷ []) opening.Nothing _ kinds.BlockEntry (10 ∷ []) _ 11 true true r5 refl (there (behind_one row_of_blocks 9 10 refl refl refl) refl refl (omega arith)) refl refl (inr (refl, omega arith, tt)) (λ v. absurd (false≢true v)) refl refl (words_leave.all row_of_blocks 0 true (short tokens.block_entry 11) refl) in
    let r7 = walk_mark x row_of_blocks _ (1 ∷ []) [] (1 ∷ 3 ∷ []) opening.Sequence _ kinds.BlockEntry (32 ∷ []) _ 13 true true r6 refl (there (behind_one row_of_blocks 11 32 refl refl refl) refl refl (omega arith)) refl refl (inr (refl, omega arith, tt)) (λ v. absurd (false≢true v)) refl refl (words_leave.all row_of_blocks 0 true (short tokens.block_entry 13) refl) in
    let r8 = walk_word x row_of_blocks _ [] (1 ∷ 3 ∷ []) _ kinds.Plain (32 ∷ []) _ 15 false true r7 tt (there (behind_one row_of_blocks 13 32 refl refl refl) refl refl (omega arith)) refl (inr (omega arith)) (λ v. absurd (false≢true v)) (words_leave.none row_of_blocks 0 (long (98 ∷ []) 15 16) 15 (10 ∷ []) (behind_one row_of_blocks 15 10 refl refl refl) refl refl) in
    let r9 = walk_ends x row_of_blocks _ 3 [] (1 ∷ []) [] _ r8 in
    let s0 = walk_key_starts x row_of_blocks _ [] (1 ∷ []) (3 ∷ []) _ kinds.Plain (10 ∷ []) _ 17 false true r9 tt (there (behind_one row_of_blocks 15 10 refl refl refl) refl refl (omega arith)) refl refl (inr (refl, omega arith, (omega arith, tt))) refl (words_leave.all row_of_blocks 0 false (short (plain (113 ∷ [])) 17) refl) in
    let s1 = walk_key_stops x row_of_blocks _ _ [] (1 ∷ []) (1 ∷ []) opening.Nothing _ _ [] _ 18 false true s0 tt (there (at_once row_of_blocks 17 refl) refl refl (omega arith)) (inr (omega arith)) refl refl refl (words_leave.all row_of_blocks 0 false (short tokens.value 18) refl) in
    let s2 = walk_word x row_of_blocks _ [] (1 ∷ []) _ kinds.FlowSequenceStart (32 ∷ []) _ 20 true false s1 tt (there (behind_one row_of_blocks 18 32 refl refl refl) refl refl (omega arith)) refl (inr (omega arith)) (λ v. absurd (false≢true v)) (words_leave.all row_of_blocks 1 true (short tokens.flow_sequence_start 20) refl) in
    let s3 = walk_word x row_of_blocks _ [] (1 ∷ []) _ kinds.Plain [] _ 21 false false s2 tt (there (at_once row_of_blocks 20 refl) refl refl (omega arith)) refl (inl refl) (λ v. absurd (false≢true v)) (words_leave.all row_of_blocks 1 false (short (plain (99 ∷ [])) 21) refl) in
    let s4 = walk_word x row_of_blocks _ [] (1 ∷ []) _ kinds.FlowSequenceEnd [] _ 22 false true s3 tt (there (at_once row_of_blocks 21 refl) refl refl (omega arith)) refl (inl refl) (λ v. absurd (false≢true v)) (words_leave.all row_of_blocks 0 false (short tokens.flow_sequence_end 22) refl) in
    let s5 = walk_ends x row_of_blocks _ 1 [] [] [] _ s4 in
    walk_stops x row_of_blocks _ (1 ∷ []) _ (10 ∷ []) _ 23 s5 refl (there (behind_one row_of_blocks 22 10 refl refl refl) refl refl (omega arith))

pub keys_are_read : KeysAreRead
unfolding kind_at lexeme_at indicator_of break_of is_document_start is_document_end column_at line_at ends_of starts_plain words spot_at ends_at leads is_bracket is_indicator_byte is_document_indicator break_value is_alpha_byte is_digit_byte run_within belongs may_end_name indent Rises LeaveClear past is_chomping chomp_of digit_of indicators past_comment header_at spaces spot_behind lines_from larger deepest column_of between
keys_are_read x =
    let r0 = walk_starts x row_of_keys in
    let r1 = walk_outer x row_of_keys _ [] _ kinds.DocumentStart [] _ 3 false true r0 refl (there (at_once row_of_keys 0 refl) refl refl (omega arith)) refl (words_leave.all row_of_keys 0 false (short tokens.document_start 3) refl) in
    let r2 = walk_mark x row_of_keys _ [] [] (1 ∷ []) opening.Mapping _ kinds.KeyMark (10 ∷ []) _ 5 true true r1 refl (there (behind_one row_of_keys 3 10 refl refl refl) refl refl (omega arith)) refl refl (inr (refl, omega arith, tt)) (λ v. absurd (false≢true v)) refl refl (words_leave.all row_of_keys 0 true (short tokens.key 5) refl) in
    let r3 = walk_word x row_of_keys _ [] (1 ∷ []) _ kinds.Literal (32 ∷ []) _ 12 true true r2 tt (there (behind_one row_of_keys 5 32 refl refl refl) refl refl (omega arith)) refl (inr (omega arith)) (λ v. absurd (false≢true v)) (words_leave.some row_of_keys 0 (short (tokens.scalar (97 ∷ 10 ∷ []) styles.YAML_LITERAL_SCALAR_STYLE) 12) 12 [] true (at_once row_of_keys 12 refl).has refl refl) in
    let r4 = walk_mark x row_of_keys _ (1 ∷ []) [] (1 ∷ []) opening.Nothing _ kinds.ValueMark [] _ 13 true true r3 refl (there (at_once row_of_keys 12 refl) refl refl (omega arith)) refl refl (inr (refl, omega arith, tt)) (λ v. omega arith) refl refl (words_leave.all row_of_keys 0 true (short tokens.value 13) refl) in
    let r5 = walk_word x row_of_keys _ [] (1 ∷ []) _ kinds.FlowMappingStart (32 ∷ []) _ 15 true false r4 tt (there (behind_one row_of_keys 13 32 refl refl refl) refl refl (omega arith)) refl (inr (omega arith)) (λ v. absurd (false≢true v)) (words_leave.all row_of_keys 1 true (short tokens.flow_mapping_start 15) refl) in
    let r6 = walk_key_starts x row_of_keys _ [] (1 ∷ []) [] _ kinds.Plain [] _ 16 false false r5 tt (there (at_once row_of_keys 15 refl) refl refl (omega arith)) refl refl (inl (refl, refl)) refl (words_leave.all row_of_keys 1 false (short (plain (98 ∷ [])) 16) refl) in
    let r7 = walk_key_stops x row_of_keys _ _ [] (1 ∷ []) (1 ∷ []) opening.Nothing _ _ [] _ 17 false false r6 tt (there (at_once row_of_keys 16 refl) refl refl (omega arith)) (inl refl) refl refl refl (words_leave.all row_of_keys 1 false (short tokens.value 17) refl) in
    let r8 = walk_word x row_of_keys _ [] (1 ∷ []) _ kinds.Plain (32 ∷ []) _ 19 false false r7 tt (there (behind_one row_of_keys 17 32 refl refl refl) refl refl (omega arith)) refl (inl refl) (λ v. absurd (false≢true v)) (words_leave.all row_of_keys 1 false (short (plain (99 ∷ [])) 19) refl) in
    let r9 = walk_word x row_of_keys _ [] (1 ∷ []) _ kinds.FlowEntry [] _ 20 true false r8 tt (there (at_once row_of_keys 19 refl) refl refl (omega arith)) refl (inl refl) (λ v. absurd (false≢true v)) (words_leave.all row_of_keys 1 true (short tokens.flow_entry 20) refl) in
    let s0 = walk_asks x row_of_keys _ [] (1 ∷ []) _ (32 ∷ []) _ 22 false false r9 tt refl (there (behind_one row_of_keys 20 32 refl refl refl) refl refl (omega arith)) (words_leave.all row_of_keys 1 false (short tokens.key 22) refl) in
    let s1 = walk_word x row_of_keys _ (1 ∷ []) (1 ∷ []) _ kinds.Plain (32 ∷ []) _ 24 false true s0 (inl (refl, refl, refl), tt) (there (behind_one row_of_keys 22 32 refl refl refl) refl refl (omega arith)) refl (inl refl) (λ v. absurd (false≢true v)) (words_leave.none row_of_keys 1 (record { body = plain (100 ∷ []); end = 24; reached = 25; broke = false }) 24 (32 ∷ []) (behind_one row_of_keys 24 32 refl refl refl) refl refl) in
    let s2 = walk_answers x row_of_keys _ [] (1 ∷ []) _ (32 ∷ []) _ 26 false false s1 tt refl (there (behind_one row_of_keys 24 32 refl refl refl) refl refl (omega arith)) (words_leave.all row_of_keys 1 false (short tokens.value 26) refl) in
    let s3 = walk_word x row_of_keys _ [] (1 ∷ []) _ kinds.Plain (32 ∷ []) _ 28 false false s2 tt (there (behind_one row_of_keys 26 32 refl refl refl) refl refl (omega arith)) refl (inl refl) (λ v. absurd (false≢true v)) (words_leave.all row_of_keys 1 false (short (plain (101 ∷ [])) 28) refl) in
    let s4 = walk_word x row_of_keys _ [] (1 ∷ []) _ kinds.FlowMappingEnd [] _ 29 false true s3 tt (there (at_once row_of_keys 28 refl) refl refl (omega arith)) refl (inl refl) (λ v. absurd (false≢true v)) (words_leave.all row_of_keys 0 false (short tokens.flow_mapping_end 29) refl) in
    let s5 = walk_ends x row_of_keys _ 1 [] [] [] _ s4 in
    let s6 = walk_outer x row_of_keys _ (1 ∷ []) _ kinds.DocumentEnd (10 ∷ []) _ 33 false true s5 refl (there (behind_one row_of_keys 29 10 refl refl refl) refl refl (omega arith)) refl (words_leave.all row_of_keys 0 false (short tokens.document_end 33) refl) in
    walk_stops x row_of_keys _ [] _ (10 ∷ []) _ 34 s6 refl (there (behind_one row_of_keys 33 10 refl refl refl) refl refl (omega arith))
