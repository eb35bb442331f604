-- Words as content, one after the other: at any depth.
use Rattle.std.proofs.Common.{◌≡◌, ℕ, ◌+◌, ◌≤◌, ◌&&◌, ◌||◌, nat_lt, Bool, true, false, List, [], ◌∷◌, ◌++◌, length, suc, refl, sym, subst, ◌∙◌, arith, append_assoc, length-append, if◌then◌else◌, ◌<◌, not, Option, Some, None, ap, inl, inr, append-nil}
use Rattle.yaml_emit_laws.proofs.NodeWords.{false≢true, cases_Bool, yaml_encoding_t, TokenBody, column_at, line_at, indent, WordText, Kind, Left, bytes, first, has_at, left_first, left_more, left_rest, has_front, line_at-grows, IsRight, WalkReads, LeaveClear, Outside, WalkState, walk_white, walk_word, deeper_leaves, walk_says, is_text, Fits, Spoken, spoken_bytes, all_bytes, all_bodies, AllFit, SaysTokens, nat_tests, Cursor, Settings, Layout, Rest, ◌▹◌, stay, when, letters, word, blank, uri_byte, uri_text, Split, shorthand, verbatim, spelled, split_tag, Opening, context_of, anchor_text, tag_text, anchor_bodies, tag_bodies, mark_bodies, IsReadable, IsWritableAnchor, IsWritableTag, IsWritableOpening, spelled_ascii, AreCalm, calm_from, written_readable, letter_low, split_read, lettered_on, lone_mark_is_read, anchor_is_read, begins_white, kept_above, calm_all, Above, above_append, alphas_calm, digit_above, handle_above, marked_ascii, has, letter_columns, NodeStage, Walks, IsPretty, PropertiesAreWalked}
use Rattle.yaml_emit_laws.proofs.KeySteps.{texty, stands_comes, stands_leaves, spot_at, front, calm_columns}
use Rattle.yaml_emit_laws.proofs.FlowSteps.{off_or}
use Rattle.yaml_scan_history.specs.declared.kind.Kind.TheVariants as kinds
use Rattle.yaml_emit_laws.proofs.SpokenWords.{anchor_word, tag_word, mark_word, bare_off}
use Rattle.yaml_emit_layout.proofs.Sinks.{cond_true, cond_false}

-- words of text leave the depths without candidates so, where a key may begin as it may now
abbrev pub ClearFor : Bool → ℕ → List ℕ → Type 0
ClearFor now d cs = (a : Bool) → (now ≡ false → a ≡ false) → (k : Kind) → is_text k ≡ true → LeaveClear k d a cs

-- After words of text, at that depth.
pub record WordsRun (x : yaml_encoding_t) (text : List ℕ) (e d : ℕ) (cs ls : List ℕ) (T : List TokenBody → List TokenBody) : Type 0 where
  pub line : ℕ
  pub wide : Bool
  pub block : nat_lt 0 d ≡ false → wide ≡ true
  pub reads : WalkReads x text (spot_at e line d false wide) cs ls [] T
  pub before : line ≤ line_at text e

-- a word at its place
word_here : (d : ℕ) (ls : List ℕ) (w : Spoken (nat_lt 0 d) (indent ls)) (bs : List ℕ)
    (x : yaml_encoding_t) (text : List ℕ) (q line : ℕ) (now broken : Bool) (cs : List ℕ)
    (T : List TokenBody → List TokenBody)
    → WalkReads x text (spot_at q line d now broken) cs ls [] T → ClearFor now d cs
    → IsRight d ls (column_at text q) → Left text q (w.own ++ bs)
    → Fits w.wants (nat_lt 0 d) (indent ls) bs
    → WordsRun x text (q + length w.own) d cs ls (λ bs. T (w.body ∷ bs))
word_here d ls w bs x text q line now broken cs T reads clear right l fits =
    let e = q + length w.own in
    let s = w.stands text q bs l fits in
    let t = texty w.kind w.plain in
    let z : q + 0 ≡ q = omega arith in
    let said : WordText = record { body = w.body; end = s.end; reached = s.reached; broke = s.broke } in
    let r = walk_word x text (spot_at q line d now broken) cs ls T w.kind [] said e false s.wide reads (clear (now || (false && broken)) (λ h. off_or now broken h) w.kind w.plain)
    (stands_comes d (indent ls) w.kind w.body text q e bs (omega arith) s) (t.stays d) (subst (λ i. IsRight d ls (column_at text i)) (sym z) right)
    (λ v. absurd (false≢true (sym t.lone ∙ v))) (stands_leaves d (indent ls) w.kind w.body text q e bs t s) in
    record {
      line = line_at text (q + 0);
      wide = s.wide;
      block = s.block;
      reads = subst (λ i. WalkReads x text (spot_at e (line_at text (q + 0)) i false s.wide) cs ls [] (λ bs. T (w.body ∷ bs))) (t.same d) r;
      before = line_at-grows text (q + 0) e (omega arith);
    }

-- a word with the space before it, if any
pub content_word : (d : ℕ) (ls : List ℕ) (w : Spoken (nat_lt 0 d) (indent ls)) (bs : List ℕ)
    (x : yaml_encoding_t) (text : List ℕ) (o line : ℕ) (now broken : Bool) (cs : List ℕ)
    (T : List TokenBody → List TokenBody)
    → WalkReads x text (spot_at o line d now broken) cs ls [] T → ClearFor now d cs
    → IsRight d ls (column_at text (o + front w.spaced)) → Left text o (spoken_bytes w ++ bs)
    → Fits w.wants (nat_lt 0 d) (indent ls) bs
    → WordsRun x text (o + length (spoken_bytes w)) d cs ls (λ bs. T (w.body ∷ bs))
content_word d ls w bs x text o line now broken cs T reads clear right l fits = by w.spaced right l
  where
    by : (b : Bool) → IsRight d ls (column_at text (o + front b))
        → Left text o ((if b then 32 ∷ w.own else w.own) ++ bs)
        → WordsRun x text (o + length (if b then 32 ∷ w.own else w.own)) d cs ls
        (λ bs. T (w.body ∷ bs))
    by false right l = let z : o + 0 ≡ o = omega arith in word_here d ls w bs x text o line now broken cs T reads clear (subst (λ i. IsRight d ls (column_at text i)) z right) l fits
    by true right l =
        let r = walk_white x text (spot_at o line d now broken) cs ls [] T (32 ∷ []) reads (has_at text o (32 ∷ []) (left_first text o 32 (w.own ++ bs) l, tt)) refl in
        let s = word_here d ls w bs x text (o + 1) line (now || (false && broken)) broken cs T r (λ a h k is. clear a (λ e. h (off_or now broken e)) k is) right (left_more text o 32 (w.own ++ bs) l) fits in
        let far : o + 1 + length w.own ≡ o + suc (length w.own) = omega arith in
        subst (λ i. WordsRun x text i d cs ls (λ bs. T (w.body ∷ bs))) far s

pub content_list : (d : ℕ) (ls : List ℕ) (ws : List (Spoken (nat_lt 0 d) (indent ls))) (bs : List ℕ)
    (x : yaml_encoding_t) (text : List ℕ) (o : ℕ) (cs : List ℕ)
    (T : List TokenBody → List TokenBody)
    → WordsRun x text o d cs ls T → ClearFor false d cs
    → ((q : ℕ) → o ≤ q → q ≤ o + length (all_bytes ws) → IsRight d ls (column_at text q))
    → Left text o (all_bytes ws ++ bs) → AllFit ws bs
    → WordsRun x text (o + length (all_bytes ws)) d cs ls (λ bs. T (all_bodies ws bs))
content_list d ls [] bs x text o cs T r clear right l fits = let z : o ≡ o + 0 = omega arith in subst (λ i. WordsRun x text i d cs ls T) z r
content_list d ls (w ∷ ws) bs x text o cs T r clear right l (fit, fits) =
    let rest = all_bytes ws in
    let all = length-append (spoken_bytes w) rest in
    let far = fronted w.spaced w.own in
    let m = subst (λ ys. Left text o ys) (append_assoc (spoken_bytes w) rest bs) l in
    let one = content_word d ls w (rest ++ bs) x text o r.line false r.wide cs T r.reads clear (right (o + front w.spaced) (omega arith) (omega (arith, all, far))) m fit in
    let e = o + length (spoken_bytes w) in
    let tail = content_list d ls ws bs x text e cs (λ bs. T (w.body ∷ bs)) one clear (λ q up low. right q (omega (arith, up)) (omega (arith, low, all))) (left_rest text o (spoken_bytes w) (rest ++ bs) m) fits in
    let same : e + length rest ≡ o + length (spoken_bytes w ++ rest) = omega (arith, all) in
    subst (λ i. WordsRun x text i d cs ls (λ bs. T (w.body ∷ all_bodies ws bs))) same tail
  where
    fronted : (b : Bool) (own : List ℕ) → front b ≤ length (if b then 32 ∷ own else own)
    fronted true own = omega arith
    fronted false own = omega arith

-- one word at least
pub content_words : (d : ℕ) (ls : List ℕ) (w : Spoken (nat_lt 0 d) (indent ls))
    (ws : List (Spoken (nat_lt 0 d) (indent ls))) (bs : List ℕ) (x : yaml_encoding_t)
    (text : List ℕ) (o line : ℕ) (now broken : Bool) (cs : List ℕ)
    (T : List TokenBody → List TokenBody)
    → WalkReads x text (spot_at o line d now broken) cs ls [] T → ClearFor now d cs
    → ((q : ℕ) → o ≤ q → q ≤ o + length (all_bytes (w ∷ ws)) → IsRight d ls (column_at text q))
    → Left text o (all_bytes (w ∷ ws) ++ bs) → AllFit (w ∷ ws) bs
    → WordsRun x text (o + length (all_bytes (w ∷ ws))) d cs ls
    (λ bs. T (w.body ∷ all_bodies ws bs))
content_words d ls w ws bs x text o line now broken cs T reads clear right l (fit, fits) =
    let rest = all_bytes ws in
    let all = length-append (spoken_bytes w) rest in
    let far = fronted w.spaced w.own in
    let m = subst (λ ys. Left text o ys) (append_assoc (spoken_bytes w) rest bs) l in
    let one = content_word d ls w (rest ++ bs) x text o line now broken cs T reads clear (right (o + front w.spaced) (omega arith) (omega (arith, all, far))) m fit in
    let e = o + length (spoken_bytes w) in
    let tail = content_list d ls ws bs x text e cs (λ bs. T (w.body ∷ bs)) one (λ a h k is. clear a (λ e. h refl) k is) (λ q up low. right q (omega (arith, up)) (omega (arith, low, all))) (left_rest text o (spoken_bytes w) (rest ++ bs) m) fits in
    let same : e + length rest ≡ o + length (spoken_bytes w ++ rest) = omega (arith, all) in
    subst (λ i. WordsRun x text i d cs ls (λ bs. T (w.body ∷ all_bodies ws bs))) same tail
  where
    fronted : (b : Bool) (own : List ℕ) → front b ≤ length (if b then 32 ∷ own else own)
    fronted true own = omega arith
    fronted false own = omega arith

-- ==== Properties as words: an anchor, a tag, and the `!` of an untagged scalar.

-- ---- bytes above the controls

low : (x : ℕ) → x < 128 → nat_lt x 128 ≡ true
low x h = grind (arith, nat_tests)

byte_above : (flow : Bool) (b : ℕ) → Above (uri_byte flow b)
byte_above flow b = grind (arith, nat_tests, cond_true, kept_above, cond_false, digit_above)

uri_above : (flow : Bool) (bs : List ℕ) → Above (uri_text flow bs)
unfolding uri_text
uri_above flow [] = tt
uri_above flow (b ∷ bs) = above_append (uri_byte flow b) (uri_text flow bs) (byte_above flow b) (uri_above flow bs)

split_above : (split : Split) → IsReadable split → Above (spelled split)
unfolding spelled
split_above (shorthand handle suffix) (shaped, u, some) = above_append handle (uri_text false suffix) (handle_above handle shaped) (uri_above false suffix)
split_above (verbatim tag) u = (omega arith, (omega arith, above_append (uri_text true tag) (62 ∷ []) (uri_above true tag) (omega arith, tt)))

tag_calm : (o : Opening) → IsWritableOpening o → (t : List ℕ) → IsWritableTag (Some t)
    → AreCalm (spelled (split_tag o.directives t))
tag_calm o (fine, u) t (some, utf8) = grind (arith, nat_tests, written_readable, calm_all, split_above, marked_ascii, spelled_ascii)

tag_some : (o : Opening) → IsWritableOpening o → (t : List ℕ) → IsWritableTag (Some t)
    → 0 < length (spelled (split_tag o.directives t))
tag_some o (fine, u) t (some, utf8) =
    let split = split_tag o.directives t in
    let m = spelled_ascii split (written_readable o fine u t utf8 some) in
    let e = ap (λ (bs : List ℕ). length bs) m.begins in
    omega (arith, e)

-- ---- words of calm letters

-- letters, and the cursor after them
record Lettered (xs : List ℕ) (c : Cursor) : Type 0 where
  behind : Cursor
  written : (rest : Rest) → bytes (letters xs c rest) ≡ xs ++ bytes (rest behind)
  bare : (0 < length xs) → behind.bare ≡ false
  white : (0 < length xs) → behind.white ≡ false
  stays : (c.bare ≡ false) × (c.white ≡ false) → (behind.bare ≡ false) × (behind.white ≡ false)
  kept : behind.kept ≡ c.kept

letters_are : (xs : List ℕ) → AreCalm xs → (c : Cursor) → Lettered xs c
unfolding letters
letters_are [] are c = record { behind = c; written = λ rest. refl; bare = λ h. absurd (omega (arith, h)); white = λ h. absurd (omega (arith, h)); stays = λ h. h; kept = refl }
letters_are (x ∷ xs) (a, are) c = grind (arith, nat_tests, letter_low, low, letters_are xs are (lettered_on c))

-- a word, with the space that is due
pub record Wrote (xs : List ℕ) (c : Cursor) : Type 0 where
  pub behind : Cursor
  pub written : (rest : Rest)
      → bytes (word xs c rest) ≡ (if not c.white then 32 ∷ xs else xs) ++ bytes (rest behind)
  pub bare : behind.bare ≡ false
  pub white : behind.white ≡ false
  pub kept : behind.kept ≡ c.kept

pub word_wrote : (xs : List ℕ) → AreCalm xs → 0 < length xs → (c : Cursor) → Wrote xs c
word_wrote xs are some c =
    elim (cases_Bool c.white) [
      | inl e ↦
          let r = letters_are xs are c in
          record {
            behind = r.behind;
            written = λ rest. let k : Rest = λ d. letters xs d rest in
                ap (λ (b : Bool). bytes (if b then k c else blank c k)) e ∙ r.written rest ∙ sym (ap (λ (b : Bool). (if not b then 32 ∷ xs else xs) ++ bytes (rest r.behind)) e);
            bare = r.bare some;
            white = r.white some;
            kept = r.kept;
          }
      | inr e ↦
          let d : Cursor = record { column = c.column + 1; white = true; bare = c.bare; kept = c.kept } in
          let r = letters_are xs are d in
          record {
            behind = r.behind;
            written = λ rest. let k : Rest = λ d. letters xs d rest in
                ap (λ (b : Bool). bytes (if b then k c else blank c k)) e ∙ letter_low 32 (k d) refl ∙ ap (λ (t : List ℕ). 32 ∷ t) (r.written rest) ∙ sym (ap (λ (b : Bool). (if not b then 32 ∷ xs else xs) ++ bytes (rest r.behind)) e);
            bare = r.bare some;
            white = r.white some;
            kept = r.kept;
          }
    ]

-- ---- lists of such words

-- where none is written the cursor is as before, else it is after text
abbrev pub Moved : {flow : Bool} {level : ℕ} → List (Spoken flow level) → Cursor → Cursor → Type 0
Moved {flow} {level} [] c e = e ≡ c
Moved {flow} {level} (w ∷ ws) c e = (e.bare ≡ false) × (e.white ≡ false)

-- the first word has the space that is due, and calm bytes
abbrev pub Leads : {flow : Bool} {level : ℕ} → List (Spoken flow level) → Cursor → Type 0
Leads {flow} {level} [] c = Unit {0}
Leads {flow} {level} (w ∷ ws) c = (w.spaced ≡ not c.white) × (0 < length w.own) × AreCalm w.own

abbrev pub has_words : {flow : Bool} {level : ℕ} → List (Spoken flow level) → Bool
has_words {flow} {level} [] = false
has_words {flow} {level} (w ∷ ws) = true

-- none of them is a plain scalar
abbrev pub NonePlain : {flow : Bool} {level : ℕ} → List (Spoken flow level) → Type 0
NonePlain {flow} {level} [] = Unit {0}
NonePlain {flow} {level} (w ∷ ws) = (w.kind ≡ kinds.Plain → ⊥) × NonePlain ws

-- What a layout of properties writes is words; by whether there are any, and whether the last one needs a space.
pub record Dress (flow : Bool) (level : ℕ) (a : Layout) (c : Cursor) (some marked : Bool) (B : List TokenBody → List TokenBody) : Type 0 where
  pub words : List (Spoken flow level)
  pub behind : Cursor
  pub written : (rest : Rest) → bytes (a c rest) ≡ all_bytes words ++ bytes (rest behind)
  pub kept : behind.kept ≡ c.kept
  pub calm : AreCalm (all_bytes words)
  pub begins : c.white ≡ false → (bs : List ℕ) → begins_white bs ≡ true
      → begins_white (all_bytes words ++ bs) ≡ true
  pub fits : (bs : List ℕ) → begins_white bs ≡ true → (marked ≡ true → first bs ≡ 32)
      → AllFit words bs
  pub spaced : c.white ≡ false → (bs : List ℕ) → first bs ≡ 32 → first (all_bytes words ++ bs) ≡ 32
  pub bodies : (bs : List TokenBody) → all_bodies words bs ≡ B bs
  pub moved : Moved words c behind
  pub leads : Leads words c
  pub named : NonePlain words
  pub has : has_words words ≡ some

dress_none : (flow : Bool) (level : ℕ) (c : Cursor) (marked : Bool)
    → Dress flow level stay c false marked (λ bs. bs)
dress_none flow level c marked = record {
  words = [];
  behind = c;
  written = λ rest. refl;
  kept = refl;
  calm = tt;
  begins = λ e bs h. h;
  fits = λ bs h k. tt;
  spaced = λ e bs h. h;
  bodies = λ bs. refl;
  moved = refl;
  leads = tt;
  named = tt;
  has = refl;
}

calm_append : (xs ys : List ℕ) → AreCalm xs → AreCalm ys → AreCalm (xs ++ ys)
calm_append [] ys h k = k
calm_append (x ∷ xs) ys (a, h) k = (a, calm_append xs ys h k)

calm_spaced : (b : Bool) (xs : List ℕ) → AreCalm xs → AreCalm (if b then 32 ∷ xs else xs)
calm_spaced true xs h = (calm_from 32 (omega arith) (omega arith), h)
calm_spaced false xs h = h

moved_on : {flow : Bool} {level : ℕ} (ws : List (Spoken flow level)) (c e : Cursor) → c.bare ≡ false
    → c.white ≡ false → Moved ws c e → (e.bare ≡ false) × (e.white ≡ false)
moved_on [] c e bare white m = (ap (λ (x : Cursor). x.bare) m ∙ bare, ap (λ (x : Cursor). x.white) m ∙ white)
moved_on (w ∷ ws) c e bare white m = m

-- one word before others
dress_word : (flow : Bool) (level : ℕ) (w : Spoken flow level) (xs : List ℕ) (c : Cursor)
    → AreCalm xs → (some : 0 < length xs) → w.spaced ≡ not c.white → w.own ≡ xs → (r : Wrote xs c)
    → (b : Layout) (more marked : Bool) (B : List TokenBody → List TokenBody)
    → (s : Dress flow level b r.behind more marked B)
    → ((bs : List ℕ) → begins_white bs ≡ true → (marked ≡ true → first bs ≡ 32)
    → begins_white (all_bytes s.words ++ bs) ≡ true
    → Fits w.wants flow level (all_bytes s.words ++ bs)) → (w.kind ≡ kinds.Plain → ⊥)
    → Dress flow level (word xs ▹ b) c true marked (λ bs. w.body ∷ B bs)
dress_word flow level w xs c calm some spaced own r b more marked B s fit name =
    let own_bytes : spoken_bytes w ≡ (if not c.white then 32 ∷ xs else xs) = ap (λ (t : Bool). if t then 32 ∷ w.own else w.own) spaced ∙ ap (λ (ys : List ℕ). if not c.white then 32 ∷ ys else ys) own in
    record {
      words = w ∷ s.words;
      behind = s.behind;
      written = λ rest. r.written (λ d. b d rest) ∙ ap (λ (ys : List ℕ). (if not c.white then 32 ∷ xs else xs) ++ ys) (s.written rest)
          ∙ ap (λ (ys : List ℕ). ys ++ (all_bytes s.words ++ bytes (rest s.behind))) (sym own_bytes) ∙ sym (append_assoc (spoken_bytes w) (all_bytes s.words) (bytes (rest s.behind)));
      kept = s.kept ∙ r.kept;
      calm = calm_append (spoken_bytes w) (all_bytes s.words) (subst (λ (ys : List ℕ). AreCalm ys) (sym own_bytes) (calm_spaced (not c.white) xs calm)) s.calm;
      begins = λ e bs h. ap (λ (ys : List ℕ). begins_white ((ys ++ all_bytes s.words) ++ bs)) (own_bytes ∙ ap (λ (t : Bool). if not t then 32 ∷ xs else xs) e);
      fits = λ bs h k. (fit bs h k (s.begins r.white bs h), s.fits bs h k);
      spaced = λ e bs h. ap (λ (ys : List ℕ). first ((ys ++ all_bytes s.words) ++ bs)) (own_bytes ∙ ap (λ (t : Bool). if not t then 32 ∷ xs else xs) e);
      bodies = λ bs. ap (λ (ds : List TokenBody). w.body ∷ ds) (s.bodies bs);
      moved = moved_on s.words r.behind s.behind r.bare r.white s.moved;
      leads = (spaced, subst (λ (ys : List ℕ). 0 < length ys) (sym own) some, subst (λ (ys : List ℕ). AreCalm ys) (sym own) calm);
      named = (name, s.named);
      has = refl;
    }

no_tag : kinds.Tag ≡ kinds.Plain → ⊥
no_tag e = cc

dress_mark : (flow : Bool) (level : ℕ) (m : Bool) (c : Cursor)
    → Dress flow level (when m (word (33 ∷ []))) c m m (λ bs. mark_bodies m bs)
unfolding dress_none
dress_mark flow level false c = dress_none flow level c false
dress_mark flow level true c =
    let calm : AreCalm (33 ∷ []) = (calm_from 33 (omega arith) (omega arith), tt) in
    let r = word_wrote (33 ∷ []) calm (omega arith) c in
    dress_word flow level (mark_word lone_mark_is_read flow level (not c.white)) (33 ∷ []) c calm (omega arith) refl refl r stay false true (λ bs. bs) (dress_none flow level r.behind true) (λ bs h k f. k refl) no_tag

abbrev pub has_some : Option (List ℕ) → Bool → Bool
has_some None b = b
has_some (Some t) b = true

dress_tag : (flow : Bool) (level : ℕ) (o : Opening) → IsWritableOpening o
    → (s : Settings) (tag : Option (List ℕ)) → IsWritableTag tag → (m : Bool) (c : Cursor)
    → Dress flow level (tag_text (context_of s o.directives) tag ▹ when m (word (33 ∷ []))) c
    (has_some tag m) m (λ bs. tag_bodies o.directives tag (mark_bodies m bs))
dress_tag flow level o good s None w m c = dress_mark flow level m c
dress_tag flow level o good s (Some t) w m c =
    let xs = spelled (split_tag o.directives t) in
    let calm = tag_calm o good t w in
    let some = tag_some o good t w in
    let r = word_wrote xs calm some c in
    dress_word flow level (tag_word split_read spelled_ascii written_readable flow level (not c.white) o good t w) xs c calm some refl refl r (when m (word (33 ∷ []))) m m (λ bs. mark_bodies m bs) (dress_mark flow level m r.behind) (λ bs h k f. f) no_tag

-- an anchor, a tag and the `!`
pub dress_all : (flow : Bool) (level : ℕ) (o : Opening) → IsWritableOpening o
    → (s : Settings) (anchor tag : Option (List ℕ)) → IsWritableAnchor anchor → IsWritableTag tag
    → (m : Bool) (c : Cursor)
    → Dress flow level (anchor_text anchor ▹
    (tag_text (context_of s o.directives) tag ▹ when m (word (33 ∷ [])))) c
    (has_some anchor (has_some tag m)) m
    (λ bs. anchor_bodies anchor (tag_bodies o.directives tag (mark_bodies m bs)))
dress_all flow level o good s None tag a t m c = dress_tag flow level o good s tag t m c
dress_all flow level o good s (Some name) tag (some, are) t m c =
    let calm : AreCalm (38 ∷ name) = (calm_from 38 (omega arith) (omega arith), alphas_calm name are) in
    let r = word_wrote (38 ∷ name) calm (omega arith) c in
    dress_word flow level (anchor_word anchor_is_read flow level (not c.white) name (some, are)) (38 ∷ name) c calm (omega arith) refl refl r (tag_text (context_of s o.directives) tag ▹ when m (word (33 ∷ []))) (has_some tag m) m
    (λ bs. tag_bodies o.directives tag (mark_bodies m bs)) (dress_tag flow level o good s tag t m r.behind) (λ bs h k f. f) (λ e. cc)

-- ==== Words as content of a block: properties with the `!`, and single words.

-- ---- stages

stage_reads : (x : yaml_encoding_t) (text : List ℕ) (c : Cursor) (o : WalkState) (ls : List ℕ)
    (T : List TokenBody → List TokenBody) → NodeStage x text c o ls [] T
    → WalkReads x text (spot_at o.at o.line 0 o.now o.broken) [] ls [] T
stage_reads x text c o ls T s = subst (λ i. WalkReads x text (spot_at o.at o.line i o.now o.broken) [] ls [] T) s.flat s.reads

run_stage : (x : yaml_encoding_t) (text : List ℕ) (e : ℕ) (ls : List ℕ)
    (T : List TokenBody → List TokenBody) (r : WordsRun x text e 0 [] ls T) (c : Cursor)
    → c.bare ≡ false → NodeStage x text c (spot_at e r.line 0 false r.wide) ls [] T
run_stage x text e ls T r c bare = record { reads = r.reads; flat = refl; broken = r.block refl; bare = λ b. absurd (bare_off c.bare bare b); line = r.before }

all_clear : (now : Bool) → ClearFor now 0 []
unfolding Outside
all_clear now = λ a h k is. deeper_leaves k 0 a ([]) tt

-- ---- one word

spaced_right : (text : List ℕ) (p n : ℕ) (b : Bool) (own bs : List ℕ) → n ≤ column_at text p
    → Left text p ((if b then 32 ∷ own else own) ++ bs) → n ≤ column_at text (p + front b)
spaced_right text p n false own bs right l = let z : p + 0 ≡ p = omega arith in subst (λ i. n ≤ column_at text i) (sym z) right
spaced_right text p n true own bs right l = let (next, line) = letter_columns text p 32 (left_first text p 32 (own ++ bs) l) (omega arith) (omega arith) in omega (arith, next, right)

pub word_walks : (a : Layout) (c : Cursor) (ls : List ℕ) (w : Spoken false (indent ls))
    (says : SaysTokens false (indent ls) a c (w ∷ [])) (rest : Rest)
    → Fits w.wants false (indent ls) (bytes (rest says.behind))
    → Walks a (λ bs. w.body ∷ bs) ls c rest
word_walks a c ls w says rest fits x text o T s right l =
    let own = spoken_bytes w in
    let bs = bytes (rest says.behind) in
    let m : Left text o.at (own ++ bs) = subst (λ ys. Left text o.at ys) (says.written rest ∙ ap (λ (ys : List ℕ). ys ++ bs) (append-nil own)) l in
    let r = content_word 0 ls w bs x text o.at o.line o.now o.broken [] T (stage_reads x text c o ls T s) (all_clear o.now) (inr (spaced_right text o.at (indent ls) w.spaced w.own bs right m)) m fits in
    record {
      behind = says.behind;
      place = spot_at (o.at + length own) r.line 0 false r.wide;
      more = [];
      stage = run_stage x text (o.at + length own) ls (λ bs. T (w.body ∷ bs)) r says.behind says.bare;
      left = left_rest text o.at own bs m;
      bare = says.bare;
      same = says.kept;
    }

-- ---- properties and the `!`

-- after a node's properties and its `!`, if it has any
pub record Dressing (x : yaml_encoding_t) (text : List ℕ) (rest : Rest) (c : Cursor) (some : Bool) (ls : List ℕ) (T : List TokenBody → List TokenBody) : Type 0 where
  pub cursor : Cursor
  pub place : WalkState
  pub stage : NodeStage x text cursor place ls [] T
  pub left : Left text place.at (bytes (rest cursor))
  pub right : indent ls ≤ column_at text place.at
  pub same : cursor.kept ≡ c.kept
  pub none : some ≡ false → cursor ≡ c
  pub text_before : some ≡ true → (cursor.bare ≡ false) × (cursor.white ≡ false)

dress_run : (ls : List ℕ) (ws : List (Spoken false (indent ls))) (c e : Cursor) (some : Bool)
    → Moved ws c e → has_words ws ≡ some → AreCalm (all_bytes ws) → e.kept ≡ c.kept → (rest : Rest)
    → (e.bare ≡ false → e.white ≡ false → AllFit ws (bytes (rest e)))
    → (x : yaml_encoding_t) (text : List ℕ) (o : WalkState) (T : List TokenBody → List TokenBody)
    → NodeStage x text c o ls [] T → indent ls ≤ column_at text o.at
    → Left text o.at (all_bytes ws ++ bytes (rest e))
    → Dressing x text rest c some ls (λ bs. T (all_bodies ws bs))
dress_run ls [] c e some moved is calm kept rest fits x text o T s right l = record {
  cursor = c;
  place = o;
  stage = s;
  left = subst (λ (d : Cursor). Left text o.at (bytes (rest d))) moved l;
  right = right;
  same = refl;
  none = λ h. refl;
  text_before = λ h. absurd (false≢true (is ∙ h));
}
dress_run ls (w ∷ ws) c e some (bare, white) is calm kept rest fits x text o T s right l =
    let own = all_bytes (w ∷ ws) in
    let bs = bytes (rest e) in
    let columns = calm_columns text o.at own calm (has_front text o.at own bs l.has) in
    let r = content_words 0 ls w ws bs x text o.at o.line o.now o.broken [] T (stage_reads x text c o ls T s) (all_clear o.now) (λ q up low. let k = columns q up low in inr (omega (arith, k, right))) l (fits bare white) in
    let last = columns (o.at + length own) (omega arith) (omega arith) in
    record {
      cursor = e;
      place = spot_at (o.at + length own) r.line 0 false r.wide;
      stage = run_stage x text (o.at + length own) ls (λ bs. T (w.body ∷ all_bodies ws bs)) r e bare;
      left = left_rest text o.at own bs l;
      right = omega (arith, last, right);
      same = kept;
      none = λ h. absurd (false≢true (sym h ∙ sym is));
      text_before = λ h. (bare, white);
    }

dressing_says : (x : yaml_encoding_t) (text : List ℕ) (rest : Rest) (c : Cursor) (some : Bool)
    (ls : List ℕ) (T U : List TokenBody → List TokenBody) → Dressing x text rest c some ls T
    → ((bs : List TokenBody) → T bs ≡ U bs) → Dressing x text rest c some ls U
dressing_says x text rest c some ls T U d e = grind (arith, nat_tests, walk_says)

pub dressed : (s : Settings) (o : Opening) → IsPretty s o → (a t : Option (List ℕ)) (m : Bool)
    → IsWritableAnchor a → IsWritableTag t → (ls : List ℕ) (c : Cursor) (rest : Rest)
    → ((e : Cursor) → e.bare ≡ false → e.white ≡ false → begins_white (bytes (rest e)) ≡ true)
    → (m ≡ true → (e : Cursor) → e.bare ≡ false → e.white ≡ false → first (bytes (rest e)) ≡ 32)
    → (x : yaml_encoding_t) (text : List ℕ) (w : WalkState) (T : List TokenBody → List TokenBody)
    → NodeStage x text c w ls [] T → indent ls ≤ column_at text w.at
    → Left text w.at (bytes ((anchor_text a ▹
    (tag_text (context_of s o.directives) t ▹ when m (word (33 ∷ [])))) c rest))
    → Dressing x text rest c (has_some a (has_some t m)) ls
    (λ bs. T (anchor_bodies a (tag_bodies o.directives t (mark_bodies m bs))))
dressed s o pretty a t m good fine ls c rest white space x text w T st right l =
    let r = dress_all false (indent ls) o pretty.fine s a t good fine m c in
    dressing_says x text rest c (has_some a (has_some t m)) ls (λ bs. T (all_bodies r.words bs)) (λ bs. T (anchor_bodies a (tag_bodies o.directives t (mark_bodies m bs))))
    (dress_run ls r.words c r.behind (has_some a (has_some t m)) r.moved r.has r.calm r.kept rest (λ b v. r.fits (bytes (rest r.behind)) (white r.behind b v) (λ h. space h r.behind b v)) x text w T st right (subst (λ ys. Left text w.at ys) (r.written rest) l))
    (λ bs. ap (λ ds. T ds) (r.bodies bs))

some_words : (a t : Option (List ℕ)) → (has a || has t) ≡ true
    → has_some a (has_some t false) ≡ true
some_words (Some a) t e = refl
some_words None (Some t) e = refl
some_words None None e = absurd (false≢true e)

pub properties_on : PropertiesAreWalked
properties_on s o pretty a t good fine some ls c rest parted x text w T st right l =
    let r = dressed s o pretty a t false good fine ls c rest parted (λ h. absurd (false≢true h)) x text w T st right l in
    let (bare, white) = r.text_before (some_words a t some) in
    record { cursor = r.cursor; place = r.place; stage = r.stage; left = r.left; bare = bare; white = white; right = r.right; same = r.same }
