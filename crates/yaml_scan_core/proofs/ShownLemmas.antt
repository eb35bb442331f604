-- What a row shows, where its texts move, after one more lexeme, and where one becomes a key.
use Rattle.std.proofs.Common.{◌≡◌, ◌≢◌, ◌∙◌, ℕ, ◌+◌, ◌-◌, ◌<◌, ◌≤◌, ◌⊎◌, Bool, true, false, cond, eqb, not, inl, inr, List, [], ◌∷◌, ◌++◌, length, take, drop, length-drop, refl, sym, ap, subst, arith, length-append}
use Rattle.yaml_scan_history.specs.History.{as_key, mark_key, start_of}
use Rattle.yaml_scan_core.proofs.NextLemmas.{as_key_set}
use Rattle.yaml_scan_core.proofs.Words.{cases_Bool, cases_lt, cases_order, set, get_or_append_left, get_or_at, get_or_default}
use Rattle.std.proofs.lemmas.List.{length-set, get_or-set_same, get_or-set_other, take-append-le, drop-append-le}
use Rattle.std.proofs.lemmas.Nat.{and_or_apart, and_or_self}
use Rattle.std.specs.Prelude.{bit_and, bit_or, slice_range}
use Rattle.yaml_scan_model.specs.scan_types.Tokens.{TokenBody}
use Rattle.yaml_scan_history.specs.Remaining.{SpelledText, body_in}
use Rattle.yaml_scan_history.specs.declared.lexeme.Entry.{Entry}
use Rattle.yaml_scan_history.specs.declared.lexeme.Opens.TheVariants as opening
use Rattle.yaml_scan_model.specs.declared.kind.Kind.{Kind}
use Rattle.yaml_scan_model.specs.declared.kind.Kind.TheVariants as kinds
use Rattle.yaml_scan_core.specs.declared.lexeme.Lexeme.{Lexeme}
use Rattle.yaml_scan_core.specs.declared.lexeme.Note.{Note}
use Rattle.yaml_scan_core.specs.declared.lexeme.Span.{Span}
use Rattle.yaml_scan_core.specs.Rows.{RowView, first_kind, is_set, keyed, key_flags, key_marked, row_lexeme, no_lexeme}
use Rattle.yaml_scan_core.specs.Shown.{Store, store_of, note_at, SpanHolds, NoteHolds, ValueStands, HoldsValue, IsBare, Carries, end_at, opens_in, ShowsEntry, ShowsWhole, ShowsFront, entry_at, no_entry, ShowsRow}

-- ---- texts that move

-- what lies in one store lies in the other, for a lexeme whose place is known
pub record Moved (s u : Store) (x y : Lexeme) : Type 0 where
  pub text : u.text ≡ s.text
  pub kind : y.kind ≡ x.kind
  pub start : y.start ≡ x.start
  pub style : y.style ≡ x.style
  pub noted : is_set 8 y ≡ is_set 8 x
  pub end : (is_set 8 x ≡ false) ⊎ (x.end < length s.notes) → end_at u y ≡ end_at s x
  pub note : (a b : List ℕ) → NoteHolds s x a b → NoteHolds u y a b
  pub value : (v : List ℕ) → ValueStands s x v → ValueStands u y v

value_moved : (s u : Store) (x y : Lexeme) (v : List ℕ) → Moved s u x y → HoldsValue s x v
    → HoldsValue u y v
value_moved s u x y v m (inl (a, h)) = inl (a, m.note a v h)
value_moved s u x y v m (inr h) = inr (m.value v h)

bare_moved : (s u : Store) (x y : Lexeme) → Moved s u x y → IsBare x → IsBare y
bare_moved s u x y m b = record { plain = m.noted ∙ b.plain }

pub carries_moved : (s u : Store) (t : SpelledText) (x y : Lexeme) (k : Kind) (b : TokenBody)
    → Moved s u x y → (k ≡ kinds.Key → is_set 4 y ≡ is_set 4 x)
    → Carries s t x k b → Carries u t y k b
carries_moved s u t x y kinds.VersionDirective b m f (d, e, h, is, small) = (d, e, m.note d e h, is, small)
carries_moved s u t x y kinds.TagDirective b m f (d, e, h, is, good) = (d, e, m.note d e h, is, good)
carries_moved s u t x y kinds.BadPrefix b m f (d, e, h, is, good) = (d, e, m.note d e h, is, good)
carries_moved s u t x y kinds.Tag b m f (d, e, h, is, good) = (d, e, m.note d e h, is, good)
carries_moved s u t x y kinds.BadTag b m f (d, e, h, is, good) = (d, e, m.note d e h, is, good)
carries_moved s u t x y kinds.Alias b m f (v, h, is) = (v, value_moved s u x y v m h, is)
carries_moved s u t x y kinds.Anchor b m f (v, h, is) = (v, value_moved s u x y v m h, is)
carries_moved s u t x y kinds.Scalar b m f (v, h, is) = (v, value_moved s u x y v m h, rw m.style is)
carries_moved s u t x y kinds.Key b m f (bare, is, free) = (bare_moved s u x y m bare, is, f refl ∙ free)
carries_moved s u t x y kinds.Failed b m f c = absurd c
carries_moved s u t x y kinds.Nothing b m f c = absurd c
carries_moved s u t x y kinds.BlockSequenceStart b m f c = absurd c
carries_moved s u t x y kinds.BlockMappingStart b m f c = absurd c
carries_moved s u t x y kinds.BlockEnd b m f c = absurd c
carries_moved s u t x y _ b m f c = (bare_moved s u x y m c.0, c.1)

-- what a lexeme carries is in no note, or in one that there is
pub carries_known : (s : Store) (t : SpelledText) (x : Lexeme) (k : Kind) (b : TokenBody)
    → Carries s t x k b → (is_set 8 x ≡ false) ⊎ (x.end < length s.notes)
carries_known s t x kinds.VersionDirective b (d, e, h, is, small) = inr h.known
carries_known s t x kinds.TagDirective b (d, e, h, is, good) = inr h.known
carries_known s t x kinds.BadPrefix b (d, e, h, is, good) = inr h.known
carries_known s t x kinds.Tag b (d, e, h, is, good) = inr h.known
carries_known s t x kinds.BadTag b (d, e, h, is, good) = inr h.known
carries_known s t x kinds.Alias b (v, h, is) = elim h [ inl (a, n) ↦ inr n.known | inr p ↦ inl p.plain ]
carries_known s t x kinds.Anchor b (v, h, is) = elim h [ inl (a, n) ↦ inr n.known | inr p ↦ inl p.plain ]
carries_known s t x kinds.Scalar b (v, h, is) = elim h [ inl (a, n) ↦ inr n.known | inr p ↦ inl p.plain ]
carries_known s t x kinds.Key b (bare, is, free) = inl bare.plain
carries_known s t x kinds.Failed b c = absurd c
carries_known s t x kinds.Nothing b c = absurd c
carries_known s t x kinds.BlockSequenceStart b c = absurd c
carries_known s t x kinds.BlockMappingStart b c = absurd c
carries_known s t x kinds.BlockEnd b c = absurd c
carries_known s t x _ b c = inl c.0.plain

flags_opens : (x y : Lexeme) → y.flags ≡ x.flags → opens_in y ≡ opens_in x
flags_opens x y e = rw e refl

pub shows_moved : (s u : Store) (t : SpelledText) (x y : Lexeme) (e : Entry) → Moved s u x y
    → y.flags ≡ x.flags → ShowsEntry s t x e → ShowsEntry u t y e
shows_moved s u t x y e m flags h =
    let key : is_set 4 y ≡ is_set 4 x = ap (λ f. not (eqb (bit_and f 4) 0)) flags in record {
      start = rw (m.text, m.start) h.start;
      end = rw (m.text, m.end (carries_known s t x x.kind _ h.body)) h.end;
      opens = flags_opens x y flags ∙ h.opens;
      key = key ∙ h.key;
      body = subst (λ k. Carries u t y k (body_in t e.lexeme)) (sym m.kind) (carries_moved s u t x y x.kind (body_in t e.lexeme) m (λ z. key) h.body);
    }

-- ---- notes and joined texts more

abbrev pub grown : Store → List Note → List ℕ → Store
grown s ns bs = record { text = s.text; notes = s.notes ++ ns; arena = s.arena ++ bs }

range_append : (a b : List ℕ) (i j : ℕ) → i ≤ j → j ≤ length a
    → slice_range (a ++ b) i j ≡ slice_range a i j
range_append a b i j le within =
    let d = drop-append-le i a b (omega arith) in
    let t = take-append-le (j - i) (drop i a) b (omega (arith, length-drop i a)) in
    ap (λ (xs : List ℕ). take (j - i) xs) d ∙ t

span_grown : (s : Store) (ns : List Note) (bs : List ℕ) (sp : Span) (v : List ℕ) → SpanHolds s sp v
    → SpanHolds (grown s ns bs) sp v
span_grown s ns bs sp v h = elim (cases_Bool sp.joined) [
  | inl y ↦
      let inside : sp.to ≤ length s.arena = rw y at h.inside in
      let are : slice_range s.arena sp.from sp.to ≡ v = rw y at h.are in
      record { order = h.order; inside = rw y (omega (arith, inside, length-append s.arena bs)); are = rw y (range_append s.arena bs sp.from sp.to h.order inside ∙ are) }
  | inr n ↦
      let inside : sp.to ≤ length s.text = rw n at h.inside in
      let are : slice_range s.text sp.from sp.to ≡ v = rw n at h.are in
      record { order = h.order; inside = rw n inside; are = rw n are }
]

note_grown : (s : Store) (ns : List Note) (bs : List ℕ) (n : ℕ) → n < length s.notes
    → note_at (grown s ns bs) n ≡ note_at s n
note_grown s ns bs n lt = get_or_append_left s.notes ns _ n lt

pub moved_grown : (s : Store) (ns : List Note) (bs : List ℕ) (x : Lexeme)
    → Moved s (grown s ns bs) x x
moved_grown s ns bs x = record {
  text = refl;
  kind = refl;
  start = refl;
  style = refl;
  noted = refl;
  end = λ known. elim known [ inl plain ↦ (rw plain refl) | inr lt ↦ rw (note_grown s ns bs x.end lt) refl ];
  note = λ a b h. record {
    noted = h.noted;
    known = omega (arith, h.known, length-append s.notes ns);
    first = rw (note_grown s ns bs x.end h.known) (span_grown s ns bs (note_at s x.end).first a h.first);
    second = rw (note_grown s ns bs x.end h.known) (span_grown s ns bs (note_at s x.end).second b h.second);
  };
  value = λ v h. record { plain = h.plain; order = h.order; inside = h.inside; are = h.are };
}

-- ---- a row

pub whole_moved : (s u : Store) (t : SpelledText) (x : Lexeme) (e : Entry) → Moved s u x x
    → ShowsWhole s t x e → ShowsWhole u t x e
whole_moved s u t x e m h = record { shows = shows_moved s u t x x e m refl h.shows; ends = h.ends; front = h.front }

pub front_moved : (b : Bool) (s u : Store) (t : SpelledText) (x : Lexeme) (e : Entry)
    → Moved s u x x
    → ShowsFront b s t x e → ShowsFront b u t x e
front_moved b s u t x e m h = record { shows = shows_moved s u t x x e m refl h.shows; ends = h.ends; front = h.front }

-- a lexeme that is whole is one of which some may be taken
pub whole_front : (b : Bool) (s : Store) (t : SpelledText) (x : Lexeme) (e : Entry)
    → ShowsWhole s t x e → ShowsFront b s t x e
whole_front b s t x e h = record { shows = h.shows; ends = omega (arith, h.ends); front = inl h.front }

-- a row with more notes and joined texts
abbrev pub stored : RowView → List Note → List ℕ → RowView
stored r ns bs = record r { notes = r.notes ++ ns; arena = r.arena ++ bs }

pub shown_stored : (t : SpelledText) (r : RowView) (es : List Entry) (ns : List Note) (bs : List ℕ)
    → ShowsRow t r es → ShowsRow t (stored r ns bs) es
shown_stored t r es ns bs h = record {
  count = h.count;
  taken = h.taken;
  few = h.few;
  front = λ lt. front_moved _ (store_of t.text r) (store_of t.text (stored r ns bs)) t (row_lexeme r r.next) _ (moved_grown (store_of t.text r) ns bs (row_lexeme r r.next)) (h.front lt);
  others = λ i lt low. whole_moved (store_of t.text r) (store_of t.text (stored r ns bs)) t (row_lexeme r i) _ (moved_grown (store_of t.text r) ns bs (row_lexeme r i)) (h.others i lt low);
}

-- one lexeme more
pub shown_pushed : (t : SpelledText) (r : RowView) (es : List Entry) (x : Lexeme) (e : Entry)
    → ShowsRow t r es → ShowsWhole (store_of t.text r) t x e
    → ShowsRow t (record r { lexemes = r.lexemes ++ x ∷ [] }) (es ++ e ∷ [])
shown_pushed t r es x e h new =
    let s = store_of t.text r in
    let q : RowView = record r { lexemes = r.lexemes ++ x ∷ [] } in
    let more : length q.lexemes ≡ length r.lexemes + 1 = length-append r.lexemes (x ∷ []) in
    let old : (i : ℕ) → i < length r.lexemes → row_lexeme q i ≡ row_lexeme r i = λ i lt. get_or_append_left r.lexemes (x ∷ []) no_lexeme i lt in
    let entry : (i : ℕ) → i < length r.lexemes → entry_at (es ++ e ∷ []) (r.dropped + i) ≡ entry_at es (r.dropped + i) = λ i lt. get_or_append_left es (e ∷ []) no_entry (r.dropped + i) (omega (arith, lt, h.count)) in
    let last : (i : ℕ) → i ≡ length r.lexemes → ShowsWhole s t (row_lexeme q i) (entry_at (es ++ e ∷ []) (r.dropped + i)) = λ i is.
    rw (get_or_at r.lexemes x [] no_lexeme i (sym is), get_or_at es e [] no_entry (r.dropped + i) (omega (arith, is, h.count))) new in record {
      count = omega (arith, more, h.count, length-append es (e ∷ []));
      taken = h.taken;
      few = omega (arith, h.few, more);
      front = λ lt. elim (cases_lt r.next (length r.lexemes)) [
        | inl low ↦ rw (old r.next low, entry r.next low) (h.front low)
        | inr high ↦ whole_front _ s t (row_lexeme q r.next) _ (last r.next (omega (arith, lt, high, more)))
      ];
      others = λ i gt lt. elim (cases_lt i (length r.lexemes)) [
        | inl low ↦ rw (old i low, entry i low) (h.others i gt low)
        | inr high ↦ last i (omega (arith, lt, high, more))
      ];
    }

-- ---- a key

-- what the flags of a key say
record KeyBits (f : ℕ) (m : Bool) : Type 0 where
  sequence : bit_and (key_flags m f) 1 ≡ bit_and f 1
  mapping : bit_and (key_flags m f) 2 ≡ cond m 2 (bit_and f 2)
  key : bit_and (key_flags m f) 4 ≡ 4
  note : bit_and (key_flags m f) 8 ≡ bit_and f 8

key_bits : (f : ℕ) (m : Bool) → KeyBits f m
key_bits f true = record {
  sequence = and_or_apart 1 (bit_or f 4) 2 refl ∙ and_or_apart 1 f 4 refl;
  mapping = and_or_self 2 (bit_or f 4);
  key = and_or_apart 4 (bit_or f 4) 2 refl ∙ and_or_self 4 f;
  note = and_or_apart 8 (bit_or f 4) 2 refl ∙ and_or_apart 8 f 4 refl;
}
key_bits f false = record {
  sequence = and_or_apart 1 f 4 refl;
  mapping = and_or_apart 2 f 4 refl;
  key = and_or_self 4 f;
  note = and_or_apart 8 f 4 refl;
}

key_set : (x : Lexeme) (m : Bool) → is_set 4 (keyed m x) ≡ true
key_set x m = rw ((key_bits x.flags m).key) refl

key_noted : (x : Lexeme) (m : Bool) → is_set 8 (keyed m x) ≡ is_set 8 x
key_noted x m = rw ((key_bits x.flags m).note) refl

-- a mapping opens before it, or nothing
key_opens : (x : Lexeme) (m : Bool) → opens_in x ≡ opening.Nothing
    → opens_in (keyed m x) ≡ cond m opening.Mapping opening.Nothing
key_opens x true none = let b = key_bits x.flags true in rw (b.sequence, b.mapping) (elim (cases_Bool (is_set 1 x)) [ inl y ↦ let bad = rw y at none in cc | inr n ↦ rw n refl ])
key_opens x false none = let b = key_bits x.flags false in rw (b.sequence, b.mapping) none

key_moved : (s : Store) (x : Lexeme) (m : Bool) → Moved s s x (keyed m x)
key_moved s x m = record {
  text = refl;
  kind = refl;
  start = refl;
  style = refl;
  noted = key_noted x m;
  end = λ known. rw (key_noted x m) refl;
  note = λ a b h. record { noted = key_noted x m ∙ h.noted; known = h.known; first = h.first; second = h.second };
  value = λ v h. record { plain = key_noted x m ∙ h.plain; order = h.order; inside = h.inside; are = h.are };
}

-- a lexeme that becomes a key shows its entry as one
key_shows : (s : Store) (t : SpelledText) (x : Lexeme) (e : Entry) (ls : List ℕ) (m : Bool)
    → ShowsEntry s t x e → e.opens ≡ opening.Nothing → x.kind ≢ kinds.Key
    → cond m opening.Mapping opening.Nothing
    ≡ start_of e.lexeme.depth (e.lexeme.start.column + 1) ls opening.Mapping
    → ShowsEntry s t (keyed m x) (as_key ls e)
key_shows s t x e ls m h none other is = record {
  start = h.start;
  end = rw (key_noted x m) h.end;
  opens = key_opens x m (h.opens ∙ none) ∙ is;
  key = key_set x m;
  body = carries_moved s s t x (keyed m x) x.kind (body_in t e.lexeme) (key_moved s x m) (λ same. absurd (other same)) h.body;
}

-- the lexeme of that number becomes a key, one that isn't settled
pub shown_marked : (t : SpelledText) (r : RowView) (es : List Entry) (ls : List ℕ) (n : ℕ)
    (m : Bool)
    → ShowsRow t r es → r.dropped + r.settled ≤ n → n < length es
    → let x = row_lexeme r (n - r.dropped) in let e = entry_at es n in
    e.opens ≡ opening.Nothing → x.kind ≢ kinds.Key
    → cond m opening.Mapping opening.Nothing
    ≡ start_of e.lexeme.depth (e.lexeme.start.column + 1) ls opening.Mapping
    → ShowsRow t (key_marked n m r) (mark_key ls es n)
shown_marked t r es ls n m h free low none other is =
    let s = store_of t.text r in
    let k : ℕ = n - r.dropped in
    let at : r.dropped + k ≡ n = omega (arith, free) in
    let inside : k < length r.lexemes = omega (arith, low, h.count, at) in
    let x = row_lexeme r k in
    let e = entry_at es n in
    let q = key_marked n m r in
    let fs = set es n (as_key ls e) in
    let marked : mark_key ls es n ≡ fs = as_key_set ls es n e low (get_or_default es n no_entry e low) in
    let same : row_lexeme q k ≡ keyed m x = get_or-set_same r.lexemes k (keyed m x) no_lexeme inside in
    let entry : entry_at fs n ≡ as_key ls e = get_or-set_same es n (as_key ls e) no_entry low in
    let others : (i : ℕ) → i ≢ k → (row_lexeme q i ≡ row_lexeme r i) × (entry_at fs (r.dropped + i) ≡ entry_at es (r.dropped + i)) = λ i ne.
    (get_or-set_other r.lexemes k i (keyed m x) no_lexeme ne, get_or-set_other es n (r.dropped + i) (as_key ls e) no_entry (λ eq. ne (omega (arith, eq, at)))) in
    let long : length q.lexemes ≡ length r.lexemes = length-set r.lexemes k (keyed m x) in
    let becomes : (i : ℕ) → i ≡ k → ShowsEntry s t (row_lexeme r i) (entry_at es (r.dropped + i)) → ShowsEntry s t (row_lexeme q i) (entry_at fs (r.dropped + i)) = λ i here f.
    let was : ShowsEntry s t x e = subst (λ j. ShowsEntry s t x (entry_at es j)) at (subst (λ j. ShowsEntry s t (row_lexeme r j) (entry_at es (r.dropped + j))) here f) in
    rw (here, at, same, entry) (key_shows s t x e ls m was none other is) in
    let ends : (i : ℕ) → i ≡ k → ((row_lexeme q i).ends ≡ (row_lexeme r i).ends) × ((entry_at fs (r.dropped + i)).ends ≡ (entry_at es (r.dropped + i)).ends) × ((row_lexeme q i).front ≡ first_kind (row_lexeme q i)) = λ i here.
    (rw (here, same) refl, rw (here, at, entry) refl, rw (here, same) refl) in
    rw marked record {
      count = length-set es n (as_key ls e) ∙ h.count ∙ ap (λ j. r.dropped + j) (sym long);
      taken = h.taken;
      few = omega (arith, h.few, long);
      front = λ lt. elim (cases_order r.next k) [
        | inl here ↦
            let f = h.front (omega (arith, here, inside)) in
            let (le, ee, whole) = ends r.next here in
            record { shows = becomes r.next here f.shows; ends = omega (arith, f.ends, le, ee); front = inl whole }
        | inr (inl before) ↦ let (le, ee) = others r.next (λ eq. omega (arith, eq, before)) in rw (le, ee) (h.front (omega (arith, lt, long)))
        | inr (inr past) ↦ absurd (omega (arith, past, at, free, h.taken))
      ];
      others = λ i gt lt. elim (cases_order i k) [
        | inl here ↦
            let f = h.others i gt (omega (arith, lt, long)) in
            let (le, ee, whole) = ends i here in
            record { shows = becomes i here f.shows; ends = le ∙ f.ends ∙ sym ee; front = whole }
        | inr (inl before) ↦ let (le, ee) = others i (λ eq. omega (arith, eq, before)) in rw (le, ee) (h.others i gt (omega (arith, lt, long)))
        | inr (inr past) ↦ let (le, ee) = others i (λ eq. omega (arith, eq, past)) in rw (le, ee) (h.others i gt (omega (arith, lt, long)))
      ];
    }
