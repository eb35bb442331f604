-- What a simple key writes: words, then what is between them and its `:`. Such a key is walked, at any depth.
use Rattle.std.proofs.Common.{◌≡◌, ◌⊎◌, ℕ, suc, ◌+◌, ◌-◌, ◌<◌, ◌≤◌, ◌&&◌, not, nat_lt, nat_le, Bool, true, false, List, [], ◌∷◌, ◌++◌, length, refl, sym, ap, subst, ◌∙◌, inl, inr, arith, append_assoc, length-append, encode_utf8_all, if◌then◌else◌, append-nil}
use Rattle.yaml_emit_laws.proofs.NodeWords.{nat_tests, yaml_encoding_t, TokenBody, byte, column_at, line_at, mark_at, starts, indent, is_fresh, margin_at, opened, start_of, Opens, Cursor, Layout, Rest, ◌▹◌, char, encode, Has, Left, bytes, first, has_at, has_front, left_first, left_more, left_rest, letter_low, IsRight, start_bodies, WalkState, WalkReads, ClosesAt, Outside, walk_says, letter_columns, near_before, begins_white, white_of, Spoken, spoken_bytes, all_bytes, all_bodies, AllFit, SaysTokens, Fits, has, AreCalm, low_starts}
use Rattle.yaml_emit_layout.specs.scan_types.Tokens as tokens
use Rattle.yaml_scan_history.specs.declared.kind.Kind.TheVariants as kinds
use Rattle.yaml_scan_history.specs.declared.lexeme.Opens.TheVariants as opening
use Rattle.yaml_emit_laws.specs.KeysLaws.{StaysNear}
use Rattle.yaml_emit_laws.proofs.OneLine.{near_fresh}
use Rattle.yaml_emit_laws.proofs.KeySteps.{columns_grow, Frame, KeyFit, KeyRuns, front, spot_at, key_words, key_front, key_begun, key_space, key_colon, square, curly, brackets_first, brackets_more}
use Rattle.yaml_emit_laws.proofs.LeafProps.{Dress, Moved, Leads, NonePlain}

-- what is between a key's words and its `:`: nothing, the space after an alias, or a pair of
-- brackets, by the space before it
pub data KeyEnd : Type 0 where
  at_once : KeyEnd
  spaced : KeyEnd
  squares : Bool → KeyEnd
  curlies : Bool → KeyEnd

abbrev pub end_bytes : KeyEnd → List ℕ
end_bytes at_once = []
end_bytes spaced = 32 ∷ []
end_bytes (squares b) = if b then 32 ∷ (91 ∷ 93 ∷ []) else 91 ∷ 93 ∷ []
end_bytes (curlies b) = if b then 32 ∷ (123 ∷ 125 ∷ []) else 123 ∷ 125 ∷ []

abbrev pub end_bodies : KeyEnd → List TokenBody → List TokenBody
end_bodies (squares b) bs = tokens.flow_sequence_start ∷ tokens.flow_sequence_end ∷ bs
end_bodies (curlies b) bs = tokens.flow_mapping_start ∷ tokens.flow_mapping_end ∷ bs
end_bodies _ bs = bs

-- brackets alone are at a key's start
abbrev pub StartsEnd : KeyEnd → Bool → Type 0
StartsEnd at_once b = ⊥
StartsEnd spaced b = ⊥
StartsEnd (squares s) b = s ≡ b
StartsEnd (curlies s) b = s ≡ b

-- the first word has the space that is due, and begins with a character's first byte
abbrev pub LeadsKey : {flow : Bool} {level : ℕ} → List (Spoken flow level) → KeyEnd → Bool → Type 0
LeadsKey {flow} {level} [] k b = StartsEnd k b
LeadsKey {flow} {level} (w ∷ ws) k b = (w.spaced ≡ b) × (0 < length w.own) × ((text : List ℕ) (p : ℕ) → Has text p w.own → starts (byte text p) ≡ true)

-- What a simple key writes from a cursor on, whatever follows, and its tokens.
pub record KeyForm (flow : Bool) (level : ℕ) (a : Layout) (c : Cursor) (B : List TokenBody → List TokenBody) : Type 0 where
  pub words : List (Spoken flow level)
  pub end : KeyEnd
  pub behind : Cursor
  pub written : (rest : Rest)
      → bytes (a c rest) ≡ all_bytes words ++ (end_bytes end ++ bytes (rest behind))
  pub bodies : (bs : List TokenBody) → all_bodies words (end_bodies end bs) ≡ B bs
  pub fits : (tail : List ℕ) → begins_white tail ≡ true
      → AllFit words (end_bytes end ++ (58 ∷ tail))
  pub plains : (tail : List ℕ) → KeyFit words (end_bytes end ++ (58 ∷ tail))
  pub leads : LeadsKey words end (not c.white)
  pub kept : behind.kept ≡ c.kept

-- ---- the end of a key

-- after words
ends_more : (k : KeyEnd) (d : ℕ) (ls tail : List ℕ) (x : yaml_encoding_t) (text : List ℕ)
    (p q end : ℕ) (cs : List ℕ) (T K : List TokenBody → List TokenBody) → Frame text d p end cs ls
    → p < q → q + length (end_bytes k) ≤ end
    → KeyRuns x text q d p cs ls T K → Left text q (end_bytes k ++ tail)
    → KeyRuns x text (q + length (end_bytes k)) d p cs ls T (λ bs. K (end_bodies k bs))
ends_more at_once d ls tail x text p q end cs T K f more few r l = let z : q ≡ q + 0 = omega arith in subst (λ i. KeyRuns x text i d p cs ls T K) z r
ends_more spaced d ls tail x text p q end cs T K f more few r l = record { line = r.line; wide = r.wide; reads = key_space x text p q r.line d false r.wide cs ls tail T K r.reads l }
ends_more (squares b) d ls tail x text p q end cs T K f more few r l =
    let g = key_front x text q d p cs ls T K b (91 ∷ 93 ∷ []) tail r l in
    let up = g.up in
    let far = g.far in
    let s = brackets_more 91 93 kinds.FlowSequenceStart kinds.FlowSequenceEnd tokens.flow_sequence_start tokens.flow_sequence_end square d ls tail x text p g.at end cs T K g.runs f (omega (arith, more, up)) (omega (arith, few, far)) g.left in
    subst (λ i. KeyRuns x text i d p cs ls T (λ bs. K (tokens.flow_sequence_start ∷ tokens.flow_sequence_end ∷ bs))) far s
ends_more (curlies b) d ls tail x text p q end cs T K f more few r l =
    let g = key_front x text q d p cs ls T K b (123 ∷ 125 ∷ []) tail r l in
    let up = g.up in
    let far = g.far in
    let s = brackets_more 123 125 kinds.FlowMappingStart kinds.FlowMappingEnd tokens.flow_mapping_start tokens.flow_mapping_end curly d ls tail x text p g.at end cs T K g.runs f (omega (arith, more, up)) (omega (arith, few, far)) g.left in
    subst (λ i. KeyRuns x text i d p cs ls T (λ bs. K (tokens.flow_mapping_start ∷ tokens.flow_mapping_end ∷ bs))) far s

two_behind : (b : Bool) (o first last : ℕ)
    → o + front b + 2 ≡ o + length (if b then 32 ∷ (first ∷ last ∷ []) else first ∷ last ∷ [])
two_behind true o first last = omega arith
two_behind false o first last = omega arith

-- at the key's start
ends_first : (k : KeyEnd) (b : Bool) → StartsEnd k b
    → (d : ℕ) (ls tail : List ℕ) (x : yaml_encoding_t) (text : List ℕ) (o line end : ℕ)
    (broken : Bool) (cs more : List ℕ) (T : List TokenBody → List TokenBody)
    → WalkReads x text (spot_at o line d true broken) cs ls more T
    → ClosesAt d (column_at text (o + front b)) ls more → Frame text d (o + front b) end cs ls
    → o + length (end_bytes k) ≤ end → Left text o (end_bytes k ++ tail)
    → KeyRuns x text (o + length (end_bytes k)) d (o + front b) cs ls T (λ bs. end_bodies k bs)
ends_first (squares s) b same d ls tail x text o line end broken cs more T reads closes f few l = by s (sym same) few l
  where
    by : (s : Bool) → b ≡ s → o + length (end_bytes (squares s)) ≤ end
        → Left text o (end_bytes (squares s) ++ tail)
        → KeyRuns x text (o + length (end_bytes (squares s))) d (o + front b) cs ls T
        (λ bs. tokens.flow_sequence_start ∷ tokens.flow_sequence_end ∷ bs)
    by s e few l =
        let g = key_begun x text o line d broken cs ls more T s (91 ∷ 93 ∷ []) tail reads l in
        let two = two_behind s o 91 93 in
        let same : o + front b ≡ o + front s = ap (λ t. o + front t) e in
        let r = brackets_first 91 93 kinds.FlowSequenceStart kinds.FlowSequenceEnd tokens.flow_sequence_start tokens.flow_sequence_end square d ls tail x text (o + front s) line end g.broken cs more T g.reads
        (subst (λ i. ClosesAt d (column_at text i) ls more) same closes) (subst (λ i. Frame text d i end cs ls) same f) (omega (arith, few, two)) g.left in
        subst (λ i. KeyRuns x text (o + length (end_bytes (squares s))) d i cs ls T (λ bs. tokens.flow_sequence_start ∷ tokens.flow_sequence_end ∷ bs)) (sym same)
        (subst (λ i. KeyRuns x text i d (o + front s) cs ls T (λ bs. tokens.flow_sequence_start ∷ tokens.flow_sequence_end ∷ bs)) two r)
ends_first (curlies s) b same d ls tail x text o line end broken cs more T reads closes f few l = by s (sym same) few l
  where
    by : (s : Bool) → b ≡ s → o + length (end_bytes (curlies s)) ≤ end
        → Left text o (end_bytes (curlies s) ++ tail)
        → KeyRuns x text (o + length (end_bytes (curlies s))) d (o + front b) cs ls T
        (λ bs. tokens.flow_mapping_start ∷ tokens.flow_mapping_end ∷ bs)
    by s e few l =
        let g = key_begun x text o line d broken cs ls more T s (123 ∷ 125 ∷ []) tail reads l in
        let two = two_behind s o 123 125 in
        let same : o + front b ≡ o + front s = ap (λ t. o + front t) e in
        let r = brackets_first 123 125 kinds.FlowMappingStart kinds.FlowMappingEnd tokens.flow_mapping_start tokens.flow_mapping_end curly d ls tail x text (o + front s) line end g.broken cs more T g.reads
        (subst (λ i. ClosesAt d (column_at text i) ls more) same closes) (subst (λ i. Frame text d i end cs ls) same f) (omega (arith, few, two)) g.left in
        subst (λ i. KeyRuns x text (o + length (end_bytes (curlies s))) d i cs ls T (λ bs. tokens.flow_mapping_start ∷ tokens.flow_mapping_end ∷ bs)) (sym same)
        (subst (λ i. KeyRuns x text i d (o + front s) cs ls T (λ bs. tokens.flow_mapping_start ∷ tokens.flow_mapping_end ∷ bs)) two r)
ends_first _ b none d ls tail x text o line end broken cs more T reads closes f few l = absurd none

-- ---- all words of a key

-- a key's words up to its `:`
key_runs : (d : ℕ) (ls : List ℕ) (words : List (Spoken (nat_lt 0 d) (indent ls))) (k : KeyEnd)
    (b : Bool) → LeadsKey words k b
    → (tail : List ℕ) (x : yaml_encoding_t) (text : List ℕ) (o line end : ℕ) (broken : Bool)
    (cs more : List ℕ) (T : List TokenBody → List TokenBody)
    → WalkReads x text (spot_at o line d true broken) cs ls more T
    → ClosesAt d (column_at text (o + front b)) ls more → Frame text d (o + front b) end cs ls
    → o + length (all_bytes words ++ end_bytes k) ≤ end
    → Left text o (all_bytes words ++ (end_bytes k ++ tail)) → AllFit words (end_bytes k ++ tail)
    → KeyFit words (end_bytes k ++ tail)
    → KeyRuns x text (o + length (all_bytes words ++ end_bytes k)) d (o + front b) cs ls T
    (λ bs. all_bodies words (end_bodies k bs))
key_runs d ls [] k b leads tail x text o line end broken cs more T reads closes f few l fits plains = ends_first k b leads d ls tail x text o line end broken cs more T reads closes f few l
key_runs d ls (w ∷ ws) k b (same, some, starts) tail x text o line end broken cs more T reads closes f few l fits plains =
    let all = length-append (all_bytes (w ∷ ws)) (end_bytes k) in
    let e = o + length (all_bytes (w ∷ ws)) in
    let lead = leads_by w.spaced w.own (all_bytes ws) some in
    let r = key_words d ls w ws (end_bytes k ++ tail) x text o line end broken cs more T reads (subst (λ t. ClosesAt d (column_at text (o + front t)) ls more) (sym same) closes) (subst (λ t. Frame text d (o + front t) end cs ls) (sym same) f) some
    (omega (arith, few, all)) l fits plains in
    let s = ends_more k d ls tail x text (o + front w.spaced) e end cs T (λ bs. w.body ∷ all_bodies ws bs) (subst (λ t. Frame text d (o + front t) end cs ls) (sym same) f) (omega (arith, lead)) (omega (arith, few, all)) r
    (left_rest text o (all_bytes (w ∷ ws)) (end_bytes k ++ tail) l) in
    let far : e + length (end_bytes k) ≡ o + length (all_bytes (w ∷ ws) ++ end_bytes k) = omega (arith, all) in
    subst (λ t. KeyRuns x text (o + length (all_bytes (w ∷ ws) ++ end_bytes k)) d (o + front t) cs ls T (λ bs. w.body ∷ all_bodies ws (end_bodies k bs))) same
    (subst (λ i. KeyRuns x text i d (o + front w.spaced) cs ls T (λ bs. w.body ∷ all_bodies ws (end_bodies k bs))) far s)
  where
    leads_by : (b : Bool) (own more : List ℕ) → 0 < length own
        → front b < length ((if b then 32 ∷ own else own) ++ more)
    leads_by true own more some = let e = length-append own more in omega (arith, e, some)
    leads_by false own more some = let e = length-append own more in omega (arith, e, some)

-- the first byte of a key begins a character, and the key isn't nothing
pub record KeyBegins (text : List ℕ) (o : ℕ) (b : Bool) (own : List ℕ) : Type 0 where
  pub starts : starts (byte text (o + front b)) ≡ true
  pub some : front b < length own

key_starts : {flow : Bool} {level : ℕ} (words : List (Spoken flow level)) (k : KeyEnd) (b : Bool)
    → LeadsKey words k b → (tail text : List ℕ) (o : ℕ)
    → Left text o (all_bytes words ++ (end_bytes k ++ tail))
    → KeyBegins text o b (all_bytes words ++ end_bytes k)
key_starts words k b none tail text o l = grind (arith, nat_tests, left_first, left_more, append_assoc, length-append, has_front)

-- ---- the key and its `:`

no_bytes : bytes [] ≡ []
unfolding encode
no_bytes = refl

same_line : (a b c d : ℕ) → (nat_le a b && nat_le c d) ≡ true → a ≤ b
same_line a b c d e = grind (arith, nat_tests)

abbrev pub behind_colon : Cursor → Cursor
behind_colon b = record { column = b.column + 1; white = false; bare = false; kept = b.kept }

reads_as : (x : yaml_encoding_t) (text : List ℕ) (o : WalkState) (cs ls : List ℕ)
    (T U : List TokenBody → List TokenBody) → WalkReads x text o cs ls [] T
    → ((bs : List TokenBody) → T bs ≡ U bs) → WalkReads x text o cs ls [] U
reads_as x text o cs ls T U r e = walk_says.other x text o cs ls [] T U r e

-- After a key's `:`, at that depth.
pub record KeyDone (x : yaml_encoding_t) (text : List ℕ) (rest : Rest) (c : Cursor) (o d : ℕ) (cs ls : List ℕ) (T : List TokenBody → List TokenBody) : Type 0 where
  pub behind : Cursor
  pub at : ℕ
  pub reads : WalkReads x text (spot_at (at + 1) (line_at text at) d false (not (nat_lt 0 d))) cs ls []
      T
  pub left : Left text (at + 1) (bytes (rest (behind_colon behind)))
  pub kept : behind.kept ≡ c.kept
  pub grown : column_at text (o + front (not c.white)) + 2 ≤ column_at text (at + 1)

pub key_done : (d : ℕ) (ls : List ℕ) (a : Layout) (c : Cursor) (B : List TokenBody → List TokenBody)
    → KeyForm (nat_lt 0 d) (indent ls) a c B → StaysNear a c 530
    → (x : yaml_encoding_t) (text : List ℕ) (o line : ℕ) (broken : Bool) (cs more new : List ℕ)
    (what : Opens) (T : List TokenBody → List TokenBody) (rest : Rest)
    → WalkReads x text (spot_at o line d true broken) cs ls more T → Outside d cs
    → (let at = column_at text (o + front (not c.white)) in ClosesAt d at ls more
    × ((nat_lt 0 d ≡ true) ⊎ (indent ls ≤ at + 1))
    × (opened (not (nat_lt 0 d)) (margin_at at) ls ≡ new)
    × (start_of d (margin_at at) ls opening.Mapping ≡ what))
    → ((e : Cursor) → e.bare ≡ false → e.white ≡ false → begins_white (bytes (rest e)) ≡ true)
    → Left text o (bytes ((a ▹ char 58) c rest))
    → KeyDone x text rest c o d cs new
    (λ bs. T (start_bodies what (tokens.key ∷ B (tokens.value ∷ bs))))
key_done d ls a c B form near x text o line broken cs more new what T rest reads out (closes, deep, opens, begins) parted l =
    let none : Rest = λ e. [] in
    let own = all_bytes form.words ++ end_bytes form.end in
    let shown = encode_utf8_all near.shown in
    let laid : (R : Rest) → bytes (a c R) ≡ own ++ bytes (R form.behind) = λ R. form.written R ∙ sym (append_assoc (all_bytes form.words) (end_bytes form.end) (bytes (R form.behind))) in
    let same : shown ≡ own = sym (append-nil shown) ∙ ap (λ bs. shown ++ bs) (sym no_bytes) ∙ sym (near.written none) ∙ laid none ∙ ap (λ bs. own ++ bs) no_bytes ∙ append-nil own in
    let R : Rest = λ e. char 58 e rest in
    let f = behind_colon form.behind in
    let tail = bytes (rest f) in
    let colon : bytes (R form.behind) ≡ 58 ∷ tail = letter_low 58 (rest f) refl in
    let here : Left text o (own ++ (58 ∷ tail)) = subst (λ bs. Left text o bs) (laid R ∙ ap (λ bs. own ++ bs) colon) l in
    let there : Left text o (all_bytes form.words ++ (end_bytes form.end ++ (58 ∷ tail))) = subst (λ bs. Left text o bs) (append_assoc (all_bytes form.words) (end_bytes form.end) (58 ∷ tail)) here in
    let b = not c.white in
    let p = o + front b in
    let e = o + length own in
    let k = key_starts form.words form.end b form.leads (58 ∷ tail) text o there in
    let some = k.some in
    let has = subst (λ (bs : List ℕ). Has text o bs) (sym same) (has_front text o own (58 ∷ tail) here.has) in
    let fresh : is_fresh (mark_at text p) (mark_at text e) ≡ true = subst (λ (bs : List ℕ). is_fresh (mark_at text p) (mark_at text (o + length bs)) ≡ true) same (near_fresh a c 530 (omega arith) near text o (has_at text o shown has) (front b)) in
    let nears : (q : ℕ) → q ≤ e → is_fresh (mark_at text p) (mark_at text q) ≡ true = λ q low. near_before text (mark_at text p) q e low fresh in
    let grow : (q : ℕ) → p < q → q ≤ e → column_at text p + 1 ≤ column_at text q = λ q up low.
    let far : p + suc (q - p - 1) ≡ q = omega (arith, up) in
    let line = same_line (line_at text q) (line_at text p) q (p + 1024) (nears q low) in
    subst (λ i. column_at text p + 1 ≤ column_at text i) far (columns_grow text p (q - p - 1) (subst (λ i. line_at text i ≤ line_at text p) (sym far) line) k.starts) in
    let rights : (q : ℕ) → p < q → q ≤ e → IsRight d ls (column_at text q) = λ q up low. elim deep [ inl h ↦ inl h | inr h ↦ let g = grow q up low in inr (omega (arith, h, g)) ] in
    let frame : Frame text d p e cs ls = record { near = nears; right = rights; out = out } in
    let begun = parted f refl refl in
    let r = key_runs d ls form.words form.end b form.leads (58 ∷ tail) x text o line e broken cs more T reads closes frame (omega arith) there (form.fits tail begun) (form.plains tail) in
    let last = left_rest text o own (58 ∷ tail) here in
    let s = key_colon d ls new what tail x text p e e cs T (λ bs. all_bodies form.words (end_bodies form.end bs)) frame (omega (arith, some)) (omega arith) r last begun opens begins in
    let (next, line2) = letter_columns text e 58 (left_first text e 58 tail last) (omega arith) (omega arith) in
    let up = grow e (omega (arith, some)) (omega arith) in
    record {
      behind = form.behind;
      at = e;
      reads = reads_as x text (spot_at (e + 1) (line_at text e) d false (not (nat_lt 0 d))) cs new (λ bs. T (start_bodies what (tokens.key ∷ all_bodies form.words (end_bodies form.end (tokens.value ∷ bs))))) (λ bs. T (start_bodies what (tokens.key ∷ B (tokens.value ∷ bs)))) s
          (λ bs. ap (λ ds. T (start_bodies what (tokens.key ∷ ds))) (form.bodies (tokens.value ∷ bs)));
      left = left_more text e 58 tail last;
      kept = form.kept;
      grown = omega (arith, next, up);
    }

-- ==== Lists of words, and the last word of a key after its properties.

-- ---- lists of words

pub all_append : {flow : Bool} {level : ℕ} (xs ys : List (Spoken flow level))
    → all_bytes (xs ++ ys) ≡ all_bytes xs ++ all_bytes ys
all_append [] ys = refl
all_append (x ∷ xs) ys = ap (λ (bs : List ℕ). spoken_bytes x ++ bs) (all_append xs ys) ∙ sym (append_assoc (spoken_bytes x) (all_bytes xs) (all_bytes ys))

pub bodies_append : {flow : Bool} {level : ℕ} (xs ys : List (Spoken flow level))
    (bs : List TokenBody)
    → all_bodies (xs ++ ys) bs ≡ all_bodies xs (all_bodies ys bs)
bodies_append [] ys bs = refl
bodies_append (x ∷ xs) ys bs = ap (λ (ds : List TokenBody). x.body ∷ ds) (bodies_append xs ys bs)

pub behind_append : {flow : Bool} {level : ℕ} (xs ys : List (Spoken flow level)) (bs : List ℕ)
    → all_bytes (xs ++ ys) ++ bs ≡ all_bytes xs ++ (all_bytes ys ++ bs)
behind_append xs ys bs = ap (λ (zs : List ℕ). zs ++ bs) (all_append xs ys) ∙ append_assoc (all_bytes xs) (all_bytes ys) bs

pub fit_append : (flow : Bool) (level : ℕ) (xs ys : List (Spoken flow level)) (bs : List ℕ)
    → AllFit xs (all_bytes ys ++ bs) → AllFit ys bs → AllFit (xs ++ ys) bs
fit_append flow level [] ys bs f g = g
fit_append flow level (x ∷ xs) ys bs (f, fs) g = (subst (λ (zs : List ℕ). Fits x.wants flow level zs) (sym (behind_append xs ys bs)) f, fit_append flow level xs ys bs fs g)

pub plains_append : (flow : Bool) (level : ℕ) (xs ys : List (Spoken flow level)) (bs : List ℕ)
    → NonePlain xs → KeyFit ys bs → KeyFit (xs ++ ys) bs
plains_append flow level [] ys bs f g = g
plains_append flow level (x ∷ xs) ys bs (f, fs) g = (λ e. absurd (f e), plains_append flow level xs ys bs fs g)

pub plains_none : (flow : Bool) (level : ℕ) (xs : List (Spoken flow level)) (bs : List ℕ)
    → NonePlain xs
    → KeyFit xs bs
plains_none flow level [] bs f = tt
plains_none flow level (x ∷ xs) bs (f, fs) = (λ e. absurd (f e), plains_none flow level xs bs fs)

-- ---- a last word after properties

pub calm_starts : (own : List ℕ) → 0 < length own → AreCalm own → (text : List ℕ) (p : ℕ)
    → Has text p own → starts (byte text p) ≡ true
calm_starts [] some a text p h = absurd (omega (arith, some))
calm_starts (x ∷ xs) some (a, all) text p (e, h) = ap (λ n. starts n) e ∙ low_starts x a.low

-- the last word of a key, before the `:`
pub record LastWord (flow : Bool) (level : ℕ) (a : Layout) (c : Cursor) (w : Spoken flow level) : Type 0 where
  pub says : SaysTokens flow level a c (w ∷ [])
  pub spaced : w.spaced ≡ not c.white
  pub some : 0 < length w.own
  pub starts : (text : List ℕ) (p : ℕ) → Has text p w.own → starts (byte text p) ≡ true
  pub fits : (tail : List ℕ) → begins_white tail ≡ true → Fits w.wants flow level (58 ∷ tail)

pub fits_moved : (flow : Bool) (level : ℕ) (ws : List (Spoken flow level)) (c e : Cursor)
    (bs : List ℕ)
    → Moved ws c e → (e.white ≡ false → AllFit ws bs) → AllFit ws bs
fits_moved flow level [] c e bs m f = tt
fits_moved flow level (w ∷ ws) c e bs m f = f m.1

pub leads_last : (flow : Bool) (level : ℕ) (ws : List (Spoken flow level)) (w : Spoken flow level)
    (c e : Cursor) → Leads ws c → Moved ws c e → w.spaced ≡ not e.white → 0 < length w.own
    → ((text : List ℕ) (p : ℕ) → Has text p w.own → starts (byte text p) ≡ true)
    → LeadsKey (ws ++ (w ∷ [])) at_once (not c.white)
leads_last flow level [] w c e leads m same some begins = (same ∙ ap (λ (x : Cursor). not x.white) m, some, begins)
leads_last flow level (v ∷ ws) w c e (gap, own, calm) m same some begins = (gap, own, calm_starts v.own own calm)

pub form_words : (flow : Bool) (level : ℕ) (a b : Layout) (c : Cursor) (has marked : Bool)
    (B : List TokenBody → List TokenBody) (r : Dress flow level a c has marked B)
    (w : Spoken flow level) → LastWord flow level b r.behind w
    → KeyForm flow level (a ▹ b) c (λ bs. B (w.body ∷ bs))
unfolding white_of
form_words flow level a b c has marked B r w last =
    let one = w ∷ [] in
    record {
      words = r.words ++ one;
      end = at_once;
      behind = last.says.behind;
      written = λ rest. r.written (λ d. b d rest) ∙ ap (λ (bs : List ℕ). all_bytes r.words ++ bs) (last.says.written rest) ∙ sym (behind_append r.words one (bytes (rest last.says.behind)));
      bodies = λ bs. bodies_append r.words one bs ∙ r.bodies (w.body ∷ bs);
      fits = λ tail h. fit_append flow level r.words one (58 ∷ tail)
          (fits_moved flow level r.words c r.behind (all_bytes one ++ (58 ∷ tail)) r.moved (λ e. r.fits (all_bytes one ++ (58 ∷ tail)) (ap (λ (t : Bool). begins_white (((if t then 32 ∷ w.own else w.own) ++ []) ++ (58 ∷ tail))) (last.spaced ∙ ap not e)) (λ k. (ap (λ (t : Bool). first (((if t then 32 ∷ w.own else w.own) ++ []) ++ (58 ∷ tail))) (last.spaced ∙ ap not e)))))
          (last.fits tail h, tt);
      plains = λ tail. plains_append flow level r.words one (58 ∷ tail) r.named (λ e. refl, tt);
      leads = leads_last flow level r.words w c r.behind r.leads r.moved last.spaced last.some last.starts;
      kept = last.says.kept ∙ r.kept;
    }

pub form_as : (flow : Bool) (level : ℕ) (a b : Layout) (c : Cursor)
    (B C : List TokenBody → List TokenBody) → a ≡ b → ((bs : List TokenBody) → B bs ≡ C bs)
    → KeyForm flow level b c B → KeyForm flow level a c C
form_as flow level a b c B C same e f = grind (arith, nat_tests)
