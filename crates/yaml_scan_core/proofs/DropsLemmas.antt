-- Lexemes, notes and joined texts that are dropped.
use Rattle.std.proofs.Common.{◌≡◌, ◌≢◌, ◌∙◌, ℕ, ◌+◌, ◌-◌, ◌<◌, ◌≤◌, Bool, true, false, ltb, inl, inr, List, length, take, get_or, Global, refl, sym, ap, subst, arith}
use Rattle.std.specs.Prelude.{Vec, vec_capacity}
use Rattle.std.proofs.lemmas.List.{get_or-set_other, get_or-set_same, get_or-take, length-set, length-take-le}
use Rattle.yaml_scan_core.proofs.Words.{cases_lt, nat_tests, Entry, SpelledText}
use Rattle.yaml_scan_model.specs.declared.kind.Kind.{Kind}
use Rattle.yaml_scan_model.specs.declared.kind.Kind.TheVariants as kinds
use Rattle.yaml_scan_core.specs.declared.lexeme.Lexeme.{Lexeme}
use Rattle.yaml_scan_core.specs.declared.row.Row.{Row}
use Rattle.yaml_scan_core.specs.Rows.{RowView, behind_lead, behind_start, first_kind, led, is_set, row_lexeme, no_lexeme, row_of}
use Rattle.yaml_scan_core.specs.Handed.{Drops}
use Rattle.yaml_scan_core.proofs.HandedLemmas.{given_moved}
use Rattle.yaml_scan_core.specs.Shown.{IsFront, ShowsEntry, Store, ShowsRow, ShowsWhole, ShowsFront, entry_at, store_of}
use Rattle.yaml_scan_core.proofs.ShownLemmas.{Moved, shows_moved, whole_front}

-- a lexeme without note needs none
moved_plain : (s u : Store) (x : Lexeme) → u.text ≡ s.text → is_set 8 x ≡ false → Moved s u x x
moved_plain s u x same plain = record {
  text = same;
  kind = refl;
  start = refl;
  style = refl;
  noted = refl;
  end = λ known. rw plain refl;
  note = λ a b h. let bad = sym plain ∙ h.noted in cc;
  value = λ v h. record { plain = h.plain; order = h.order; inside = rw same h.inside; are = rw same h.are };
}

pub drops_on : (a b c : Row) → Drops a b → Drops b c → Drops a c
drops_on a b c d e = record {
  shows = λ t es h. e.shows t es (d.shows t es h);
  count = e.count ∙ d.count;
  taken = e.taken ∙ d.taken;
  settled = e.settled ∙ d.settled;
  room = λ r. e.room (d.room r);
  given = λ text. e.given text ∙ d.given text;
}

-- the row without the lexemes that are taken
pub shown_front : (t : SpelledText) (r : RowView) (es : List Entry) (ls : List Lexeme)
    → let q : RowView = record r { lexemes = ls; next = 0; settled = r.settled - r.next; dropped = r.dropped + r.next } in
    length ls + r.next ≡ length r.lexemes
    → ((i : ℕ) → i < length ls → row_lexeme q i ≡ row_lexeme r (r.next + i))
    → ShowsRow t r es → ShowsRow t q es
shown_front t r es ls long are h =
    let s = store_of t.text r in
    let place : (i : ℕ) → r.dropped + (r.next + i) ≡ (r.dropped + r.next) + i = λ i. omega arith in
    let none : r.next + 0 ≡ r.next = omega arith in
    let flag : ltb r.next r.settled ≡ ltb 0 (r.settled - r.next) = grind (arith, nat_tests, h.taken) in
    record {
      count = omega (arith, h.count, long);
      taken = omega arith;
      few = omega (arith, h.few, long);
      front = λ lt.
          let f : ShowsFront (ltb r.next r.settled) s t (row_lexeme r (r.next + 0)) (entry_at es (r.dropped + (r.next + 0))) = subst (λ j. ShowsFront (ltb r.next r.settled) s t (row_lexeme r j) (entry_at es (r.dropped + j))) (sym none) (h.front (omega (arith, lt, long))) in
          rw (are 0 lt) (subst (λ j. ShowsFront (ltb 0 (r.settled - r.next)) s t (row_lexeme r (r.next + 0)) (entry_at es j)) (place 0) (subst (λ b. ShowsFront b s t (row_lexeme r (r.next + 0)) (entry_at es (r.dropped + (r.next + 0)))) flag f));
      others = λ i gt lt. rw (are i lt) (subst (λ j. ShowsWhole s t (row_lexeme r (r.next + i)) (entry_at es j)) (place i) (h.others (r.next + i) (omega (arith, gt)) (omega (arith, lt, long))));
    }

no_more : (n : ℕ) → n + 0 ≡ n
no_more n = omega arith

-- the lexemes that are taken are dropped
pub drops_front : (old now : Row) (ls : Vec Lexeme Global) (left at : ℕ)
    → old.next ≤ old.settled → left + old.next ≡ length old.lexemes.items
    → now ≡ record old { lexemes = now.lexemes }
    → length now.lexemes.items ≡ length old.lexemes.items
    → vec_capacity now.lexemes ≡ vec_capacity old.lexemes
    → ((i : ℕ) → i < at → row_lexeme (row_of now) i ≡ row_lexeme (row_of old) (old.next + i))
    → left ≤ at → ls.items ≡ take left now.lexemes.items
    → vec_capacity ls ≡ vec_capacity now.lexemes
    → Drops old (record now { lexemes = ls; next = 0; settled = now.settled - now.next; dropped = now.dropped + now.next })
drops_front old now ls left at taken count same long capacity moved all items room =
    let few : left ≤ length now.lexemes.items = omega (arith, long, count) in
    let short : length ls.items ≡ left = ap (λ (xs : List Lexeme). length xs) items ∙ length-take-le left now.lexemes.items few in
    let are : (i : ℕ) → i < length ls.items → get_or ls.items i no_lexeme ≡ row_lexeme (row_of old) (old.next + i) = λ i lt. ap (λ (xs : List Lexeme). get_or xs i no_lexeme) items ∙ get_or-take left now.lexemes.items i no_lexeme (omega (arith, lt, short)) ∙ moved i (omega (arith, lt, short, all)) in
    let it : Drops old (record old { lexemes = ls; next = 0; settled = old.settled - old.next; dropped = old.dropped + old.next }) = record {
      shows = λ t es h. shown_front t (row_of old) es ls.items (omega (arith, short, count)) are h;
      count = omega (arith, short, count);
      taken = omega arith;
      settled = omega (arith, taken);
      room = λ r. omega (arith, r, short, count, room, capacity);
      given = λ text. given_moved text (row_of old) (row_of (record old { lexemes = ls; next = 0; settled = old.settled - old.next; dropped = old.dropped + old.next }))
          (omega arith) (omega (arith, short, count)) (λ some. are 0 some ∙ ap (λ i. row_lexeme (row_of old) i) (no_more old.next));
    } in
    subst (λ (x : Row). Drops old (record x { lexemes = ls; next = 0; settled = x.settled - x.next; dropped = x.dropped + x.next })) (sym same) it

-- ---- a token that is taken

moved_led : (s : Store) (x : Lexeme) (n : ℕ) (g : Kind)
    → Moved s s x (record x { ends = n; front = g })
moved_led s x n g = record {
  text = refl;
  kind = refl;
  start = refl;
  style = refl;
  noted = refl;
  end = λ known. refl;
  note = λ a b h. record { noted = h.noted; known = h.known; first = h.first; second = h.second };
  value = λ v h. record { plain = h.plain; order = h.order; inside = h.inside; are = h.are };
}

led_shows : (s : Store) (t : SpelledText) (x : Lexeme) (e : Entry) (n : ℕ) (g : Kind)
    → ShowsEntry s t x e → ShowsEntry s t (record x { ends = n; front = g }) e
led_shows s t x e n g h = shows_moved s s t x (record x { ends = n; front = g }) e (moved_led s x n g) refl h

-- after the BLOCK-ENDs none is left
pub lead_zero : (b : Bool) (x : Lexeme) → IsFront b x → x.front ≢ kinds.BlockEnd → x.ends ≡ 0
lead_zero b x (inl is) other = elim (cases_lt 0 x.ends) [
  | inl some ↦ let lead : ltb 0 x.ends ≡ true = grind (arith, nat_tests) in absurd (other (is ∙ (rw lead refl)))
  | inr none ↦ omega (arith, none)
]
lead_zero b x (inr (was, ends, rest)) other = ends

front_led : (b : Bool) (s : Store) (t : SpelledText) (x : Lexeme) (e : Entry) (k : Kind)
    → x.front ≡ k → (k ≢ kinds.BlockEnd → b ≡ true) → ShowsFront b s t x e
    → ShowsFront b s t (behind_lead k x) e
front_led b s t x e kinds.BlockEnd is on f = record {
  shows = led_shows s t x e (x.ends - 1) (first_kind (record x { ends = x.ends - 1 })) f.shows;
  ends = omega (arith, f.ends);
  front = inl refl;
}
front_led b s t x e kinds.Key is on f =
    let other : x.front ≢ kinds.BlockEnd = λ same. (let bad = sym is ∙ same in cc) in record {
      shows = led_shows s t x e x.ends x.kind f.shows;
      ends = f.ends;
      front = inr (on (λ same. cc), lead_zero b x f.front other, inr refl);
    }
front_led b s t x e _ is on f =
    let other : x.front ≢ kinds.BlockEnd = λ same. (let bad = sym is ∙ same in cc) in record {
      shows = led_shows s t x e x.ends (behind_start x) f.shows;
      ends = f.ends;
      front = inr (on (λ same. cc), lead_zero b x f.front other, inl refl);
    }

-- A row of whose first lexeme a token is taken shows the same: a BLOCK-END, or one of a lexeme that is settled.
pub shown_led : (t : SpelledText) (r : RowView) (es : List Entry) → r.next < length r.lexemes
    → ((row_lexeme r r.next).front ≢ kinds.BlockEnd → r.next < r.settled)
    → ShowsRow t r es → ShowsRow t (led r) es
shown_led t r es lt ready h =
    let s = store_of t.text r in
    let x = row_lexeme r r.next in
    let y = behind_lead x.front x in
    let q = led r in
    let same : row_lexeme q r.next ≡ y = get_or-set_same r.lexemes r.next y no_lexeme lt in
    let long : length q.lexemes ≡ length r.lexemes = length-set r.lexemes r.next y in
    record {
      count = omega (arith, h.count, long);
      taken = h.taken;
      few = omega (arith, h.few, long);
      front = λ low. rw same (front_led (ltb r.next r.settled) s t x (entry_at es (r.dropped + r.next)) x.front refl (λ other. (let late = ready other in grind (arith, nat_tests, late))) (h.front lt));
      others = λ i gt low. subst (λ z. ShowsWhole s t z (entry_at es (r.dropped + i))) (sym (get_or-set_other r.lexemes r.next i y no_lexeme (λ e. absurd (omega (arith, e, gt))))) (h.others i gt (omega (arith, low, long)));
    }

-- and one of which the first settled lexeme is taken
pub shown_own : (t : SpelledText) (r : RowView) (es : List Entry) → r.next < r.settled
    → ShowsRow t r es → ShowsRow t (record r { next = r.next + 1 }) es
shown_own t r es lt h = record {
  count = h.count;
  taken = omega (arith, lt);
  few = h.few;
  front = λ low. whole_front _ (store_of t.text r) t (row_lexeme r (r.next + 1)) _ (h.others (r.next + 1) (omega arith) low);
  others = λ i gt low. h.others i (omega (arith, gt)) low;
}
