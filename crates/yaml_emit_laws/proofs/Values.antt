-- What a spelling is read as, piece by piece, has the value that it means.
use Rattle.std.proofs.Common.{◌≡◌, ℕ, zero, suc, true, false, List, [], ◌∷◌, ◌++◌, map, refl, sym, ap, subst, ◌∙◌, inl, inr, arith, append_assoc, encode_utf8, replicate, if◌then◌else◌}
use Rattle.yaml_emit_laws.proofs.Shared.{cases_Bool, encode_ascii, nat_tests, is_blank, Piece, Kept, Blank, Break, Line, lines, rest_of, folded, value, end_means, LineTurn, turn_means, QuotedPart, raw, doubled, named, numbered, joint, meant, meaning, IsSpelling, may_follow, may_be_next, is_raw_blank, is_fold, is_turn}
use Rattle.yaml_scan_history.specs.Pieces.{is_empty, gap, Rest}
use Rattle.yaml_scan_history.proofs.FoldingLemmas.{value-kept, rest_of-blank}
use Rattle.yaml_emit_laws.specs.Spelling.{fold}
use Rattle.yaml_emit_laws.proofs.Chars.{encode_1, encode_2, encode_3, encode_4}
use Rattle.yaml_emit_layout.proofs.Sinks.{cond_true, cond_false}

-- ---- what parts are read as

abbrev pub keeps : List ℕ → List Piece
keeps bs = map (λ b. Kept (b ∷ [])) bs

abbrev pub blanks_of : ℕ → List Piece
blanks_of n = replicate n (Blank 32)

-- ends of lines after others
unfoldable pub turns_read : List LineTurn → List Piece
turns_read [] = []
turns_read (t ∷ ts) = Break (end_means t.end) ∷ (blanks_of t.spaces ++ turns_read ts)

-- a first one that is read as these bytes, and others
abbrev pub turn_read : List ℕ → LineTurn → List LineTurn → List Piece
turn_read bytes t ts = Break bytes ∷ (blanks_of t.spaces ++ turns_read ts)

abbrev pub read_as : QuotedPart → List Piece
read_as (raw c) = if is_blank c then Blank c ∷ [] else keeps (encode_utf8 c)
read_as doubled = Kept (39 ∷ []) ∷ []
read_as (named b bytes) = Kept bytes ∷ []
read_as (numbered b digits c) = Kept (encode_utf8 c) ∷ []
read_as (fold t ts) = turn_read (end_means t.end) t ts
read_as (joint t ts) = Kept [] ∷ turn_read [] t ts

unfoldable pub all_read_as : List QuotedPart → List Piece
all_read_as [] = []
all_read_as (p ∷ ps) = read_as p ++ all_read_as ps

-- ---- pieces that stay

-- blanks at its end are not before a break
abbrev pub IsFirm : List Piece → Type 0
IsFirm ps = is_empty (lines ps).first ≡ true → (lines ps).others ≡ []

value_keeps : (bs : List ℕ) (ps : List Piece) → value (keeps bs ++ ps) ≡ bs ++ value ps
value_keeps [] ps = refl
value_keeps (b ∷ bs) ps = value-kept [] (b ∷ []) (keeps bs ++ ps) ∙ ap (λ t. b ∷ t) (value_keeps bs ps)

folded_blank : (b : ℕ) (l : Line) (ls : List (List ℕ × Line)) → (is_empty l ≡ true → ls ≡ [])
    → folded (Blank b ∷ l) ls ≡ b ∷ folded l ls
folded_blank b l ls h = grind (arith, nat_tests)

-- the pieces begin with one that stays
record Front (ps : List Piece) : Type 0 where
  bytes : List ℕ
  rest : List Piece
  is : ps ≡ Kept bytes ∷ rest

pub record SomeBytes (bs : List ℕ) : Type 0 where
  pub byte : ℕ
  pub rest : List ℕ
  pub is : bs ≡ byte ∷ rest

some_bytes : (bs : List ℕ) (b : ℕ) (rest : List ℕ) → bs ≡ b ∷ rest → SomeBytes bs
some_bytes bs b rest e = record { byte = b; rest = rest; is = e }

-- a character has a first byte
pub encoded_front : (c : ℕ) → SomeBytes (encode_utf8 c)
encoded_front c = grind (arith, nat_tests, some_bytes, encode_1, encode_2, encode_3, encode_4)

-- A blank that is written as it is reads as a blank.
pub read_blank : (c : ℕ) → is_blank c ≡ true → read_as (raw c) ≡ Blank c ∷ []
read_blank c e = cond_true (is_blank c) (Blank c ∷ []) (keeps (encode_utf8 c)) e

-- A character that is written as it is, and is no blank, reads as its bytes.
pub read_kept : (c : ℕ) → is_blank c ≡ false → read_as (raw c) ≡ keeps (encode_utf8 c)
read_kept c e = cond_false (is_blank c) (Blank c ∷ []) (keeps (encode_utf8 c)) e

front_same : (ps qs : List Piece) → ps ≡ qs → Front qs → Front ps
front_same ps qs e f = record { bytes = f.bytes; rest = f.rest; is = e ∙ f.is }

part_front : (p : QuotedPart) → is_fold p ≡ false → is_raw_blank p ≡ false → Front (read_as p)
part_front (raw c) f b = front_same _ _ (read_kept c b) (record { bytes = (encoded_front c).byte ∷ []; rest = keeps (encoded_front c).rest; is = ap (λ (t : List ℕ). keeps t) (encoded_front c).is })
part_front doubled f b = record { bytes = 39 ∷ []; rest = []; is = refl }
part_front (named k bytes) f b = record { bytes = bytes; rest = []; is = refl }
part_front (numbered k digits c) f b = record { bytes = encode_utf8 c; rest = []; is = refl }
part_front (fold t ts) f b = absurd (cc)
part_front (joint t ts) f b = record { bytes = []; rest = turn_read [] t ts; is = refl }

firm_front : (ps qs : List Piece) → Front ps → IsFirm (ps ++ qs)
firm_front ps qs f = subst (λ (t : List Piece). IsFirm (t ++ qs)) (sym f.is) (λ e. absurd (cc))

follow_blank : (p q : QuotedPart) → is_raw_blank p ≡ true → may_follow p q ≡ true
    → is_fold q ≡ false
follow_blank p (fold t ts) b f = let g = rw b at f in absurd (cc)
follow_blank p _ b f = refl

-- what follows a raw blank
firm : (quote : ℕ) (p : QuotedPart) (ps : List QuotedPart) → is_raw_blank p ≡ true
    → may_be_next p ps ≡ true → IsSpelling quote ps → IsFirm (all_read_as ps)
unfolding IsSpelling all_read_as
firm quote p [] b next h = λ e. refl
firm quote p (q ∷ ps) b next (stand, later, more) =
    elim (cases_Bool (is_raw_blank q)) [
      | inr e ↦ firm_front (read_as q) (all_read_as ps) (part_front q (follow_blank p q b next) e)
      | inl e ↦ firm_raw q e (firm quote q ps e later more)
    ]
  where
    firm_raw : (q : QuotedPart) → is_raw_blank q ≡ true → IsFirm (all_read_as ps)
        → IsFirm (read_as q ++ all_read_as ps)
    firm_raw (raw c) e h = subst (λ (t : List Piece). IsFirm (t ++ all_read_as ps)) (sym (read_blank c e)) (h)
    firm_raw doubled e h = absurd (cc)
    firm_raw (named k bytes) e h = absurd (cc)
    firm_raw (numbered k digits c) e h = absurd (cc)
    firm_raw (fold t ts) e h = absurd (cc)
    firm_raw (joint t ts) e h = absurd (cc)

-- ---- ends of lines

abbrev rest_after : List Piece → Rest
rest_after ps = rest_of (lines ps).first (lines ps).others

abbrev settled : List ℕ → List Piece → Rest
settled breaks ps = record { breaks = breaks; value = value ps }

rest_blanks : (n : ℕ) (ps : List Piece) → rest_after (blanks_of n ++ ps) ≡ rest_after ps
rest_blanks zero ps = refl
rest_blanks (suc n) ps = rest_of-blank 32 (lines (blanks_of n ++ ps)).first (lines (blanks_of n ++ ps)).others ∙ rest_blanks n ps

rest_kept : (k : List ℕ) (l : Line) (ls : List (List ℕ × Line))
    → rest_of (Kept k ∷ l) ls ≡ record { breaks = []; value = folded (Kept k ∷ l) ls }
rest_kept k l [] = refl
rest_kept k l (next ∷ ls) = refl

rest_front : (ps qs : List Piece) → Front ps → rest_after (ps ++ qs) ≡ settled [] (ps ++ qs)
rest_front ps qs f =
    let P : List Piece → Type 0 = λ t. rest_after (t ++ qs) ≡ settled [] (t ++ qs) in
    subst P (sym f.is) (rest_kept f.bytes (lines (f.rest ++ qs)).first (lines (f.rest ++ qs)).others)

rest_turns : (ts : List LineTurn) (ps : List Piece) → rest_after ps ≡ settled [] ps
    → rest_after (turns_read ts ++ ps) ≡ settled (turn_means ts) ps
unfolding turns_read turn_means
rest_turns [] ps h = h
rest_turns (t ∷ ts) ps h =
    let again = ap (λ (x : List Piece). rest_after x) (append_assoc (blanks_of t.spaces) (turns_read ts) ps) ∙ rest_blanks t.spaces (turns_read ts ++ ps) ∙ rest_turns ts ps h in
    ap (λ (r : Rest). record { breaks = end_means t.end ++ r.breaks; value = r.value }) again

value_turns : (first : List ℕ) (t : LineTurn) (ts : List LineTurn) (ps : List Piece)
    → rest_after ps ≡ settled [] ps
    → value (turn_read first t ts ++ ps) ≡ gap first (turn_means ts) ++ value ps
value_turns first t ts ps h =
    let again = ap (λ (x : List Piece). rest_after x) (append_assoc (blanks_of t.spaces) (turns_read ts) ps) ∙ rest_blanks t.spaces (turns_read ts ++ ps) ∙ rest_turns ts ps h in
    ap (λ (r : Rest). gap first r.breaks ++ r.value) again

follow_turn : (p q : QuotedPart) → is_turn p ≡ true → may_follow p q ≡ true
    → (is_fold q ≡ false) × (is_raw_blank q ≡ false)
follow_turn p q t f = grind (arith, nat_tests)

-- what follows the ends of lines
rest_parts : (quote : ℕ) (p : QuotedPart) (ps : List QuotedPart) → is_turn p ≡ true
    → may_be_next p ps ≡ true → rest_after (all_read_as ps) ≡ settled [] (all_read_as ps)
unfolding all_read_as
rest_parts quote p [] t next = refl
rest_parts quote p (q ∷ ps) t next =
    let f = follow_turn p q t next in
    rest_front (read_as q) (all_read_as ps) (part_front q f.0 f.1)

gap_joint : (others : List ℕ) → gap [] others ≡ others
gap_joint [] = refl
gap_joint (b ∷ bs) = refl

-- ---- all parts

blank_value : (c : ℕ) (ps : List Piece) → is_blank c ≡ true → IsFirm ps
    → value (read_as (raw c) ++ ps) ≡ encode_utf8 c ++ value ps
blank_value c ps e f =
    ap (λ (t : List Piece). value (t ++ ps)) (read_blank c e) ∙ (folded_blank c (lines ps).first (lines ps).others f) ∙ ap (λ (t : List ℕ). t ++ value ps) (sym (encode_ascii c (grind (arith, nat_tests))))

part_value : (quote : ℕ) (p : QuotedPart) (ps : List QuotedPart) → may_be_next p ps ≡ true
    → IsSpelling quote ps → value (read_as p ++ all_read_as ps) ≡ meant p ++ value (all_read_as ps)
part_value quote (raw c) ps next h =
    elim (cases_Bool (is_blank c)) [
      | inl e ↦ blank_value c (all_read_as ps) e (firm quote (raw c) ps e next h)
      | inr e ↦ (ap (λ (t : List Piece). value (t ++ (all_read_as ps))) (read_kept c e) ∙ value_keeps (encode_utf8 c) (all_read_as ps))
    ]
part_value quote doubled ps next h = value-kept [] (39 ∷ []) (all_read_as ps)
part_value quote (named b bytes) ps next h = value-kept [] bytes (all_read_as ps)
part_value quote (numbered b digits c) ps next h = value-kept [] (encode_utf8 c) (all_read_as ps)
part_value quote (fold t ts) ps next h = value_turns (end_means t.end) t ts (all_read_as ps) (rest_parts quote (fold t ts) ps refl next)
part_value quote (joint t ts) ps next h =
    value-kept [] [] (turn_read [] t ts ++ all_read_as ps) ∙ value_turns [] t ts (all_read_as ps) (rest_parts quote (joint t ts) ps refl next)
    ∙ ap (λ (x : List ℕ). x ++ value (all_read_as ps)) (gap_joint (turn_means ts))

-- the value of a spelling's pieces
pub spelling_value : (quote : ℕ) (ps : List QuotedPart) → IsSpelling quote ps
    → value (all_read_as ps) ≡ meaning ps
unfolding IsSpelling all_read_as meaning
spelling_value quote [] h = refl
spelling_value quote (p ∷ ps) (stand, next, more) = part_value quote p ps next more ∙ ap (λ t. meant p ++ t) (spelling_value quote ps more)
