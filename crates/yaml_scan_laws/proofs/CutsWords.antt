-- Lexemes of every kind are the same in both texts.
use Rattle.std.proofs.Common.{◌≡◌, ℕ, ◌+◌, ◌<◌, ◌==◌, ◌&&◌, nat_lt, Bool, true, false, List, Some, None, Result, refl, sym, ap, ◌∙◌, inl, inr, ◌⊎◌, arith}
use Rattle.yaml_scan_laws.proofs.Shared.{nat_tests, cases_Bool, none-some, TokenBody, byte, break_of, column_at, is_blank, is_blank_or_end, Wrong, is_document_start, is_document_end, anchor_at, TagText, tag_at, DirectiveText, directive_at, double_quoted_at, single_quoted_at, PlainText, starts_plain, plain_at, BlockText, block_at, style_at, Kind, is_end, indicator_of, kind_at, WordText, carrying, valued, tagged, directed, blocked, plainly, lexeme_at, Alike, is_onward, blank_cases}
use Rattle.yaml_scan_history.specs.scan_model.declared.name.yaml_scalar_style_t.{yaml_scalar_style_t}
use Rattle.yaml_scan_history.specs.scan_model.declared.name.yaml_scalar_style_t.TheVariants as styles
use Rattle.yaml_scan_history.specs.scan_model.declared.problem.Context.TheVariants as contexts
use Rattle.yaml_scan_history.specs.scan_types.Tokens as tokens
use Rattle.yaml_scan_history.specs.declared.kind.Kind.TheVariants as kinds
use Rattle.yaml_scan_laws.proofs.Bytes.{column_alike, start_alike, finish_alike, next_end, off_cases, off_break, onward_some}
use Rattle.yaml_scan_laws.proofs.Gaps.{moved_by}
use Rattle.yaml_scan_laws.proofs.Plains.{moved_plain, plain_alike, starts_alike}
use Rattle.yaml_scan_laws.proofs.Quotes.{Carried, torn_by, moved_pair, quoted_alike}
use Rattle.yaml_scan_laws.proofs.Names.{moved_tag, anchor_alike, tag_alike}
use Rattle.yaml_scan_laws.proofs.CutsDirectives.{moved_directive, directive_alike}
use Rattle.yaml_scan_laws.proofs.Blocks.{moved_block, block_alike}

-- ---- kinds

no_indicator : (flow alone : Bool) (b : ℕ) → is_onward b ≡ false → indicator_of flow alone b ≡ None
unfolding indicator_of
no_indicator flow alone b h = grind (arith, off_cases)

indicators_alike : (flow alone other : Bool) (b : ℕ) → (is_onward b ≡ true → other ≡ alone)
    → indicator_of flow other b ≡ indicator_of flow alone b
indicators_alike flow alone other b h =
    elim (cases_Bool (is_onward b)) [
      | inl on ↦ ap (λ x. indicator_of flow x b) (h on)
      | inr off ↦ no_indicator flow other b off ∙ sym (no_indicator flow alone b off)
    ]

-- the same kind is there
pub kind_alike : (t u : List ℕ) (d m p : ℕ) (flow : Bool) → Alike t u d m → p < m
    → kind_at flow u (d + p) ≡ kind_at flow t p
unfolding kind_at
kind_alike t u d m p flow a l =
    let b = a.bytes p l in
    let column = column_alike t u d m p a (omega (arith, l)) in
    let zero : (byte u (d + p) == 0) ≡ (byte t p == 0) = ap (λ b. b == 0) b in
    let percent : (byte u (d + p) == 37 && column_at u (d + p) == 0) ≡ (byte t p == 37 && column_at t p == 0) = rw (column, b) refl in
    let plain = starts_alike t u d m p flow a l in
    let indicator : indicator_of flow (is_blank_or_end u (d + p + 1)) (byte u (d + p)) ≡ indicator_of flow (is_blank_or_end t (p + 1)) (byte t p) =
    ap (λ x. indicator_of flow (is_blank_or_end u (d + p + 1)) x) b ∙ indicators_alike flow (is_blank_or_end t (p + 1)) (is_blank_or_end u (d + p + 1)) (byte t p) (λ on. next_end t u d m p a l on) in
    rw (zero, percent, start_alike t u d m p a l, finish_alike t u d m p a l, indicator, plain) refl

-- a line feed or a carriage return is a break
pub break_byte : (b c e : ℕ) → (b ≡ 10) ⊎ (b ≡ 13) → nat_lt 0 (break_of b c e) ≡ true
unfolding break_of
break_byte b c e h3 = grind (arith, nat_tests, cases_Bool)

no_plain : (flow : Bool) (t : List ℕ) (p : ℕ) → (byte t p ≡ 10) ⊎ (byte t p ≡ 13)
    → starts_plain flow t p ≡ false
unfolding starts_plain
no_plain flow t p h = grind (arith, break_byte)

no_thrice : (c z : Bool) (b x y n : ℕ) → (b == n) ≡ false
    → ((c && (b == n && (x == n && y == n))) && z) ≡ false
no_thrice c z b x y n h = grind (arith, nat_tests)

not_start : (t : List ℕ) (p : ℕ) → (byte t p == 45) ≡ false → is_document_start t p ≡ false
unfolding is_document_start
not_start t p h = no_thrice (column_at t p == 0) (is_blank_or_end t (p + 3)) (byte t p) (byte t (p + 1)) (byte t (p + 2)) 45 h

not_finish : (t : List ℕ) (p : ℕ) → (byte t p == 46) ≡ false → is_document_end t p ≡ false
unfolding is_document_end
not_finish t p h = no_thrice (column_at t p == 0) (is_blank_or_end t (p + 3)) (byte t p) (byte t (p + 1)) (byte t (p + 2)) 46 h

pub break_kind : (flow : Bool) (t : List ℕ) (p : ℕ) → (byte t p ≡ 10) ⊎ (byte t p ≡ 13)
    → kind_at flow t p ≡ None
unfolding kind_at
break_kind flow t p h = grind (arith, off_break, not_start, not_finish, no_indicator, no_plain)

pub end_kind : (flow : Bool) (t : List ℕ) (p : ℕ) → byte t p ≡ 0
    → kind_at flow t p ≡ Some kinds.StreamEnd
unfolding kind_at
end_kind flow t p h = rw h refl

blank_indicator : (flow alone : Bool) (b : ℕ) → is_blank b ≡ true → indicator_of flow alone b ≡ None
unfolding indicator_of
blank_indicator flow alone b h = grind (arith, blank_cases)

-- no lexeme starts at a blank
pub blank_kind : (flow : Bool) (t : List ℕ) (p : ℕ) → is_blank (byte t p) ≡ true
    → kind_at flow t p ≡ None
unfolding kind_at
blank_kind flow t p h =
    let zero : (byte t p == 0) ≡ false = other (byte t p) 0 h refl refl in
    let percent : (byte t p == 37) ≡ false = other (byte t p) 37 h refl refl in
    let dash : (byte t p == 45) ≡ false = other (byte t p) 45 h refl refl in
    let dot : (byte t p == 46) ≡ false = other (byte t p) 46 h refl refl in
    let plain : starts_plain flow t p ≡ false = unfold starts_plain in rw h refl in
    rw (zero, percent, not_start t p dash, not_finish t p dot, blank_indicator flow (is_blank_or_end t (p + 1)) (byte t p) h, plain) refl
  where
    other : (b n : ℕ) → is_blank b ≡ true → (32 == n) ≡ false → (9 == n) ≡ false → (b == n) ≡ false
    other b n h x y = elim (blank_cases b h) [
      | inl z ↦ rw z x
      | inr z ↦ rw z y
    ]

-- at a lexeme other than the stream's end, the byte goes on
pub kind_onward : (flow : Bool) (t : List ℕ) (p : ℕ) (k : Kind) → kind_at flow t p ≡ Some k
    → is_end k ≡ false → is_onward (byte t p) ≡ true
kind_onward flow t p k e go = grind (arith, off_cases, end_kind, break_kind)

-- and is no blank
pub kind_text : (flow : Bool) (t : List ℕ) (p : ℕ) (k : Kind) → kind_at flow t p ≡ Some k
    → is_blank (byte t p) ≡ false
kind_text flow t p k e = grind (arith, nat_tests, cases_Bool, none-some, blank_kind)

-- ---- words

abbrev pub moved_word : ℕ → WordText → WordText
moved_word d w = record { body = w.body; end = d + w.end; reached = d + w.reached; broke = w.broke }

abbrev pub WordCarried : List ℕ → ℕ → ℕ → Result WordText Wrong → Result WordText Wrong → Type 0
WordCarried u d m r s = Carried u d m (moved_word d) r s

carry_valued : (u : List ℕ) (d m : ℕ) (f : List ℕ → TokenBody) (r s : Result (List ℕ × ℕ) Wrong)
    → Carried u d m (moved_pair d) r s → WordCarried u d m (valued f r) (valued f s)
carry_valued u d m f r s v6 = grind (arith, torn_by)

tagged_moves : (d : ℕ) (r : Result TagText Wrong)
    → tagged (moved_by (moved_tag d) d r) ≡ moved_by (moved_word d) d (tagged r)
tagged_moves d r = grind (arith, nat_tests)

directed_moves : (d : ℕ) (r : Result DirectiveText Wrong)
    → directed (moved_by (moved_directive d) d r) ≡ moved_by (moved_word d) d (directed r)
directed_moves d r = grind (arith, nat_tests)

blocked_moves : (d : ℕ) (style : yaml_scalar_style_t) (r : Result BlockText Wrong)
    → blocked style (moved_by (moved_block d) d r) ≡ moved_by (moved_word d) d (blocked style r)
blocked_moves d style r = grind (arith, nat_tests)

plainly_moves : (d : ℕ) (r : Result PlainText Wrong)
    → plainly (moved_by (moved_plain d) d r) ≡ moved_by (moved_word d) d (plainly r)
plainly_moves d r = grind (arith, nat_tests)

carrying_moves : (d p n : ℕ) (body : TokenBody)
    → carrying body (d + p + n) ≡ moved_by (moved_word d) d (carrying body (p + n))
carrying_moves d p n body = let e : d + p + n ≡ d + (p + n) = omega arith in rw e refl

block_word : (t u : List ℕ) (d m p level : ℕ) → Alike t u d m → p < m → is_onward (byte t p) ≡ true
    → blocked (style_at u (d + p)) (block_at level u (d + p))
    ≡ moved_by (moved_word d) d (blocked (style_at t p) (block_at level t p))
block_word t u d m p level a l on =
    let style : style_at u (d + p) ≡ style_at t p = rw (a.bytes p l) refl in
    let block = block_alike level t u d m p a l on in
    ap (λ x. blocked x (block_at level u (d + p))) style ∙ ap (blocked (style_at t p)) block.same ∙ blocked_moves d (style_at t p) (block_at level t p)

-- what is there is the same, moved, unless it is open where the first text ends
pub word_alike : (k : Kind) (flow : Bool) (level : ℕ) (t u : List ℕ) (d m p : ℕ) → Alike t u d m
    → p < m → (is_end k ≡ false → is_onward (byte t p) ≡ true) → is_blank (byte t p) ≡ false
    → WordCarried u d m (lexeme_at k flow level t p) (lexeme_at k flow level u (d + p))
unfolding lexeme_at
word_alike kinds.StreamStart flow level t u d m p a l on text = inl refl
word_alike kinds.StreamEnd flow level t u d m p a l on text = inl refl
word_alike kinds.Directive flow level t u d m p a l on text =
    let x = directive_alike t u d m p a l (on refl) in inl (ap directed x.same ∙ directed_moves d (directive_at t p))
word_alike kinds.DocumentStart flow level t u d m p a l on text = inl (carrying_moves d p 3 tokens.document_start)
word_alike kinds.DocumentEnd flow level t u d m p a l on text = inl (carrying_moves d p 3 tokens.document_end)
word_alike kinds.FlowSequenceStart flow level t u d m p a l on text = inl (carrying_moves d p 1 tokens.flow_sequence_start)
word_alike kinds.FlowMappingStart flow level t u d m p a l on text = inl (carrying_moves d p 1 tokens.flow_mapping_start)
word_alike kinds.FlowSequenceEnd flow level t u d m p a l on text = inl (carrying_moves d p 1 tokens.flow_sequence_end)
word_alike kinds.FlowMappingEnd flow level t u d m p a l on text = inl (carrying_moves d p 1 tokens.flow_mapping_end)
word_alike kinds.FlowEntry flow level t u d m p a l on text = inl (carrying_moves d p 1 tokens.flow_entry)
word_alike kinds.BlockEntry flow level t u d m p a l on text = inl (carrying_moves d p 1 tokens.block_entry)
word_alike kinds.KeyMark flow level t u d m p a l on text = inl (carrying_moves d p 1 tokens.key)
word_alike kinds.ValueMark flow level t u d m p a l on text = inl (carrying_moves d p 1 tokens.value)
word_alike kinds.Alias flow level t u d m p a l on text =
    let x = anchor_alike contexts.Alias t u d m p a l (on refl) in
    carry_valued u d m tokens.alias (anchor_at contexts.Alias t p) (anchor_at contexts.Alias u (d + p)) (inl x.same)
word_alike kinds.Anchor flow level t u d m p a l on text =
    let x = anchor_alike contexts.Anchor t u d m p a l (on refl) in
    carry_valued u d m tokens.anchor (anchor_at contexts.Anchor t p) (anchor_at contexts.Anchor u (d + p)) (inl x.same)
word_alike kinds.Tag flow level t u d m p a l on text =
    let x = tag_alike t u d m p flow a l (on refl) in inl (ap tagged x.same ∙ tagged_moves d (tag_at flow t p))
word_alike kinds.Literal flow level t u d m p a l on text = inl (block_word t u d m p level a l (on refl))
word_alike kinds.Folded flow level t u d m p a l on text = inl (block_word t u d m p level a l (on refl))
word_alike kinds.SingleQuoted flow level t u d m p a l on text =
    let x = quoted_alike t u d m 39 p a l (inr refl) (onward_some _ (on refl)) in
    carry_valued u d m (λ v. tokens.scalar v styles.YAML_SINGLE_QUOTED_SCALAR_STYLE) (single_quoted_at t p) (single_quoted_at u (d + p)) x.carried
word_alike kinds.DoubleQuoted flow level t u d m p a l on text =
    let x = quoted_alike t u d m 34 p a l (inl refl) (onward_some _ (on refl)) in
    carry_valued u d m (λ v. tokens.scalar v styles.YAML_DOUBLE_QUOTED_SCALAR_STYLE) (double_quoted_at t p) (double_quoted_at u (d + p)) x.carried
word_alike kinds.Plain flow level t u d m p a l on text =
    let x = plain_alike t u d m flow level p a l (onward_some _ (on refl)) text in
    inl (ap plainly x.0 ∙ plainly_moves d (plain_at flow level t p))
