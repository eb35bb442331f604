-- White and words in brackets.
use Rattle.std.proofs.Common.{◌≡◌, ℕ, ◌+◌, ◌≤◌, ◌==◌, ◌&&◌, ◌||◌, nat_lt, Bool, true, false, List, [], ◌∷◌, ◌++◌, length, Some, Ok, refl, sym, ap, subst, ◌∙◌, inl, inr, arith, append_assoc, if◌then◌else◌}
use Rattle.yaml_emit_laws.proofs.NodeWords.{false≢true, yaml_encoding_t, TokenBody, column_at, indent, depth_after, allows_key, cancels, is_value, may_be_key, WordText, kind_at, lexeme_at, Kind, Cursor, Layout, Rest, ◌▹◌, Left, bytes, has_at, left_first, left_more, left_rest, stays_level, Comes, WordLeaves, WalkState, WalkReads, LeaveClear, Outside, behind, letter_columns, walk_white, walk_word, deeper_leaves, is_text, Fits, Spoken, SaysTokens, IsClear, WalksIn}
use Rattle.yaml_scan_history.specs.declared.kind.Kind.TheVariants as kinds
use Rattle.yaml_emit_laws.proofs.Lining.{no_gap}
use Rattle.yaml_scan_laws.proofs.Whites.{or_none}

-- ---- kinds

text_flat : (k : Kind) (d : ℕ) → is_text k ≡ true → depth_after k d ≡ d
text_flat k d e = grind arith

text_bars : (k : Kind) (block : Bool) → is_text k ≡ true → allows_key k block false ≡ false
text_bars k block e = grind arith

text_keeps : (k : Kind) → is_text k ≡ true → cancels k ≡ false
text_keeps k e = grind arith

text_stays : (k : Kind) (d : ℕ) → is_text k ≡ true → stays_level k d ≡ true
text_stays k d e = grind arith

text_no_value : (k : Kind) → is_text k ≡ true → is_value k ≡ true → ⊥
text_no_value kinds.ValueMark e v = false≢true e
text_no_value k e v = cc

-- ---- depths of a `?`

pub leave_clear : (k : Kind) (o : WalkState) (a : Bool) (cs : List ℕ) → cancels k ≡ false
    → (o.now ≡ false → a ≡ false) → IsClear o cs → LeaveClear k o.depth a cs
unfolding LeaveClear
leave_clear k o a cs keeps bars (inl out) = deeper_leaves k o.depth a cs out
leave_clear k o a cs keeps bars (inr (ds, same, out, off)) =
    subst (λ (es : List ℕ). LeaveClear k o.depth a es) (sym same) (inl (refl, ap (λ (b : Bool). b && may_be_key k) (bars off), keeps), deeper_leaves k o.depth a ds out)

pub off_or : (a b : Bool) → a ≡ false → (a || (false && b)) ≡ false
off_or a b e = rw e refl

-- ---- a space

pub record Space (x : yaml_encoding_t) (text bs : List ℕ) (o : WalkState) (cs ls more : List ℕ) (T : List TokenBody → List TokenBody) : Type 0 where
  pub place : WalkState
  pub reads : WalkReads x text place cs ls more T
  pub deep : place.depth ≡ o.depth
  pub same : place.now ≡ o.now
  pub broken : place.broken ≡ o.broken
  pub right : column_at text o.at ≤ column_at text place.at
  pub left : Left text place.at bs

pub space_on : (b : Bool) (x : yaml_encoding_t) (text bs : List ℕ) (o : WalkState)
    (cs ls more : List ℕ)
    (T : List TokenBody → List TokenBody) → WalkReads x text o cs ls more T
    → Left text o.at (if b then 32 ∷ bs else bs) → Space x text bs o cs ls more T
space_on true x text bs o cs ls more T r l =
    let here = left_first text o.at 32 bs l in
    record {
      place = record { at = o.at + 1; line = o.line; depth = o.depth; now = o.now || (false && o.broken); broken = o.broken };
      reads = walk_white x text o cs ls more T (32 ∷ []) r (has_at text o.at (32 ∷ []) (here, tt)) refl;
      deep = refl;
      same = or_none o.now o.broken;
      broken = refl;
      right = let (next, same) = letter_columns text o.at 32 here (omega arith) (omega arith) in omega (arith, next);
      left = left_more text o.at 32 bs l;
    }
space_on false x text bs o cs ls more T r l = record { place = o; reads = r; deep = refl; same = refl; broken = refl; right = omega arith; left = l }

pub clear_same : (o u : WalkState) (cs : List ℕ) → u.depth ≡ o.depth → u.now ≡ o.now → IsClear o cs
    → IsClear u cs
clear_same o u cs deep now (inl out) = inl (subst (λ (d : ℕ). Outside d cs) (sym deep) out)
clear_same o u cs deep now (inr (ds, same, out, off)) = inr (ds, same ∙ ap (λ (d : ℕ). d ∷ ds) (sym deep), subst (λ (d : ℕ). Outside d ds) (sym deep) out, now ∙ off)

-- ---- a word

pub record Worded (x : yaml_encoding_t) (text bs : List ℕ) (o : WalkState) (cs ls : List ℕ) (T : List TokenBody → List TokenBody) : Type 0 where
  pub place : WalkState
  pub reads : WalkReads x text place cs ls [] T
  pub deep : place.depth ≡ o.depth
  pub now : place.now ≡ false
  pub left : Left text place.at bs

here_on : (x : yaml_encoding_t) (text bs : List ℕ) (o : WalkState) (cs ls : List ℕ)
    (T : List TokenBody → List TokenBody) (w : Spoken true (indent ls)) → WalkReads x text o cs ls [] T
    → nat_lt 0 o.depth ≡ true → IsClear o cs → Left text o.at (w.own ++ bs)
    → Fits w.wants true (indent ls) bs → Worded x text bs o cs ls (λ ds. T (w.body ∷ ds))
here_on x text bs o cs ls T w r deep clear l fits =
    let p = o.at in
    let level = indent ls in
    let k = w.kind in
    let s = w.stands text p bs l fits in
    let e = p + length w.own in
    let z : p + 0 ≡ p = omega arith in
    let said : WordText = record { body = w.body; end = s.end; reached = s.reached; broke = s.broke } in
    let comes : Comes text p o.depth level k [] said e = record {
      behind = no_gap text p s.begins;
      kind = subst (λ (f : Bool). kind_at f text (p + 0) ≡ Some k) (sym deep) (ap (λ n. kind_at true text n) z ∙ s.kind);
      word = subst (λ (f : Bool). lexeme_at k f level text (p + 0) ≡ Ok said) (sym deep) (ap (λ n. lexeme_at k true level text n) z ∙ s.word);
      up = omega arith;
    } in
    let leaves : WordLeaves text (depth_after k o.depth) (allows_key k (o.depth == 0) false) said e false s.wide =
    subst (λ (n : ℕ). WordLeaves text n (allows_key k (o.depth == 0) false) said e false s.wide) (sym (text_flat k o.depth w.plain))
    (subst (λ (b : Bool). WordLeaves text o.depth b said e false s.wide) (sym (text_bars k (o.depth == 0) w.plain)) (s.leaves o.depth deep)) in
    record {
      place = behind text (p + 0) e (depth_after k o.depth) false s.wide;
      reads = walk_word x text o cs ls T k [] said e false s.wide r (leave_clear k o (o.now || (false && o.broken)) cs (text_keeps k w.plain) (off_or o.now o.broken) clear) comes (text_stays k o.depth w.plain) (inl deep)
          (λ v. absurd (text_no_value k w.plain v)) leaves;
      deep = text_flat k o.depth w.plain;
      now = refl;
      left = left_rest text p w.own bs l;
    }

spoken_left : (text : List ℕ) (p : ℕ) (b : Bool) (own bs : List ℕ)
    → Left text p ((if b then 32 ∷ own else own) ++ bs)
    → Left text p (if b then 32 ∷ (own ++ bs) else own ++ bs)
spoken_left text p true own bs l = l
spoken_left text p false own bs l = l

-- a layout that says one word is walked as content
pub word_walks : (ls : List ℕ) (a : Layout) (c : Cursor) (w : Spoken true (indent ls))
    (says : SaysTokens true (indent ls) a c (w ∷ [])) (rest : Rest)
    → Fits w.wants true (indent ls) (bytes (rest says.behind))
    → WalksIn a (λ bs. w.body ∷ bs) ls c rest
word_walks ls a c w says rest fits x text o cs T r deep clear l =
    let tail = bytes (rest says.behind) in
    let m = spoken_left text o.at w.spaced w.own tail (subst (λ (bs : List ℕ). Left text o.at bs) (says.written rest ∙ (append_assoc (if w.spaced then 32 ∷ w.own else w.own) [] tail)) l) in
    let s = space_on w.spaced x text (w.own ++ tail) o cs ls [] T r m in
    let g = here_on x text tail s.place cs ls T w s.reads (ap (λ (d : ℕ). nat_lt 0 d) s.deep ∙ deep) (clear_same o s.place cs s.deep s.same clear) s.left fits in
    record {
      behind = says.behind;
      place = g.place;
      reads = g.reads;
      deep = g.deep ∙ s.deep;
      now = g.now;
      left = g.left;
      bare = says.bare;
      white = says.white;
      same = says.kept;
    }

-- one after the other
pub both : (ls : List ℕ) (a b : Layout) (B C : List TokenBody → List TokenBody) (c : Cursor)
    (rest : Rest) → WalksIn a B ls c (λ k. b k rest)
    → ((k : Cursor) → k.bare ≡ false → k.white ≡ false → WalksIn b C ls k rest)
    → WalksIn (a ▹ b) (λ bs. B (C bs)) ls c rest
both ls a b B C c rest w v x text o cs T r deep clear l =
    let g = w x text o cs T r deep clear l in
    let h = v g.behind g.bare g.white x text g.place cs (λ bs. T (B bs)) g.reads (ap (λ (d : ℕ). nat_lt 0 d) g.deep ∙ deep) (clear_behind g.place clear g.deep g.now) g.left in
    record {
      behind = h.behind;
      place = h.place;
      reads = h.reads;
      deep = h.deep ∙ g.deep;
      now = h.now;
      left = h.left;
      bare = h.bare;
      white = h.white;
      same = h.same ∙ g.same;
    }
  where
    clear_behind : (u : WalkState) → IsClear o cs → u.depth ≡ o.depth → u.now ≡ false → IsClear u cs
    clear_behind u (inl out) deep off = inl (subst (λ (d : ℕ). Outside d cs) (sym deep) out)
    clear_behind u (inr (ds, same, out, was)) deep off = inr (ds, same ∙ ap (λ (d : ℕ). d ∷ ds) (sym deep), subst (λ (d : ℕ). Outside d ds) (sym deep) out, off)
