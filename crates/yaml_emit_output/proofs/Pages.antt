-- What a draft writes, by the bytes that were placed.
use Rattle.std.proofs.Common.{◌≡◌, ◌≢◌, ℕ, ◌+◌, ◌-◌, ◌^◌, ◌<◌, ◌≤◌, List, ◌++◌, length, take, IsUtf8, Bool, refl, sym, subst, ◌∙◌, ap, arith, length-take-le}
use Rattle.std.proofs.lemmas.List.{with_items_is, take-take}
use Rattle.std.specs.Vec.{with_items}
use Rattle.std.proofs.lemmas.Str.{IsUtf8-append}
use Rattle.yaml_emit_layout.specs.declared.cursor.Cursor.{Cursor}
use Rattle.yaml_emit_layout.specs.declared.cursor.Status.{Status}
use Rattle.yaml_emit_layout.specs.declared.cursor.Status.TheVariants.{Going, Deep}
use Rattle.yaml_emit_layout.specs.Layout.{Layout, ◌▹◌, stay, when, char, line, new_line, too_deep}
use Rattle.yaml_emit_layout.specs.declared.settings.LineBreak.{LineBreak}
use Rattle.yaml_emit_layout.specs.declared.settings.Encoding.TheVariants.{Utf8}
use Rattle.yaml_emit_layout.proofs.Sinks.{puts_moved, puts_deep, puts_stopped, owes_then, owes_as, status_cases}
use Rattle.yaml_emit_layout.specs.Sink.{Puts}
use Rattle.yaml_emit_output.specs.declared.draft.Draft.TheInside.{Inside}
use Rattle.yaml_scan_runs.specs.Placed.{Placed}
use Rattle.yaml_emit_output.specs.Draft.{Page, page_of, page_at, IsDraft, Lays, line_mark, unlimited}
use Rattle.yaml_emit_output.proofs.Goes.{Goes, puts_goes}

going : (s : Status) (room : ℕ) → (s ≢ Going → room ≡ 0) → 0 < room → s ≡ Going
going s room h p = status_cases s (λ e. e) (λ n. absurd (let e = h n in omega (arith, e, p)))

-- the cursor of a draft
abbrev pub cursor_at : Inside → ℕ → ℕ → ℕ → Bool → Bool → Cursor
cursor_at s len origin before white bare = record { column = before + (len - origin); white = white; bare = bare; kept = s.kept }

-- what was placed at the end of a draft's text was written, if a layout goes so
pub writes_placed : (s : Inside) (old buf : List ℕ) (len origin before : ℕ) (white bare : Bool)
    (y : Layout) (xs : List ℕ) (n : ℕ) → IsDraft s
    → n < length s.text.items - s.len → old ≡ s.text.items → Placed old buf s.len xs len → length s.text.items < 2 ^ 63 → length xs ≤ n
    → Goes y (cursor_at s s.len s.origin s.before s.white s.bare) (cursor_at s len origin before white bare) xs
    → Lays (page_of s) (page_at s (with_items s.text buf).items len origin before white bare) y stay
writes_placed s old buf len origin before white bare y xs n d p o h w few g =
    let whole = with_items_is s.text buf (h.len ∙ ap length o ∙ sym s.text.ok.0) in
    rw whole (let front = length-take-le s.len s.text.items d.within in
    record {
      owes = puts_goes (page_of s).output (page_at s buf len origin before white bare).output y xs
          (going s.status (length s.text.items - s.len) (λ e. let q = d.stopped e in omega (arith, q)) (omega (arith, p))) refl refl refl refl (h.bytes ∙ ap (λ (t : List ℕ). take s.len t ++ xs) o)
          (omega (arith, front, few, w, p)) g;
      line_break = refl;
      width = refl;
    })

-- room was asked for, and it was written
pub lays_asked : (a b c : Page) (x : Layout) (s : Inside) → page_of s ≡ b
    → Puts a.output b.output stay → (b.line_break ≡ a.line_break) × (b.width ≡ a.width)
    → Lays (page_of s) c x stay → Lays a c x stay
lays_asked a b c x s e p set w =
    let written : Lays b c x stay = subst (λ z. Lays z c x stay) e w in
    record {
      owes = owes_then a.output b.output c.output x x stay (owes_as a.output b.output x stay x (λ rest. refl) p) written.owes;
      line_break = written.line_break ∙ set.0;
      width = written.width ∙ set.1;
    }

-- by the break that is set
pub lays_break : (k l : LineBreak) (a b : Page) → k ≡ l → Lays a b (new_line k) stay
    → Lays a b (new_line l) stay
lays_break k l a b e p = let P : LineBreak → Type 0 = λ z. Lays a b (new_line z) stay in subst P e p

pub lays_lined : (k l : LineBreak) (comma block : Bool) (n m : ℕ) (a b : Page) → k ≡ l
    → Lays a b (when comma (char 44) ▹ (line k n ▹ line_mark m block)) stay
    → Lays a b (when comma (char 44) ▹ (line l n ▹ line_mark m block)) stay
lays_lined k l comma block n m a b e p =
    let P : LineBreak → Type 0 = λ z. Lays a b (when comma (char 44) ▹ (line z n ▹ line_mark m block)) stay in
    subst P e p

-- the break that was set before is set
pub break_still : (s : Inside) (a b : Page) → page_of s ≡ b
    → (b.line_break ≡ a.line_break) × (b.width ≡ a.width) → s.line_break ≡ a.line_break
break_still s a b e set = ap (λ (z : Page). z.line_break) e ∙ set.0

-- there was none
pub lays_refused : (a b : Page) (x : Layout) → Puts a.output b.output stay
    → (b.line_break ≡ a.line_break) × (b.width ≡ a.width)
    → b.output.status ≢ Going → Lays a b x stay
lays_refused a b x p set n = record {
  owes = owes_then a.output b.output b.output x x stay (owes_as a.output b.output x stay x (λ rest. refl) p) (puts_stopped b.output x n);
  line_break = set.0;
  width = set.1;
}

-- an indentation is too deep
pub deep_puts : (s : Inside) (text : List ℕ) → s.status ≡ Going → text ≡ take s.len s.text.items
    → Puts (page_of s).output (record { bytes = take s.len text; limit = unlimited; encoding = Utf8; status = Deep; cursor = cursor_at s s.len s.origin s.before s.white s.bare }) too_deep
deep_puts s text g e =
    puts_deep (page_of s).output (record { bytes = take s.len text; limit = unlimited; encoding = Utf8; status = Deep; cursor = cursor_at s s.len s.origin s.before s.white s.bare })
    (ap (take s.len) e ∙ take-take s.len s.len s.text.items (omega arith)) refl g refl refl

-- and it is a draft
pub draft_placed : (s : Inside) (old buf : List ℕ) (len origin before : ℕ) (white bare : Bool)
    (xs : List ℕ) (n : ℕ) → IsDraft s
    → n < length s.text.items - s.len → old ≡ s.text.items → Placed old buf s.len xs len → length xs ≤ n
    → IsUtf8 xs → origin ≤ len → before < 2 ^ 62
    → IsDraft (record { text = with_items s.text buf; len = len; origin = origin; before = before; white = white; bare = bare; kept = s.kept; status = s.status; line_break = s.line_break; width = s.width })
draft_placed s old buf len origin before white bare xs n d p o h f u g b =
    let whole = with_items_is s.text buf (h.len ∙ ap length o ∙ sym s.text.ok.0) in
    let size : length buf ≡ length s.text.items = h.len ∙ ap length o in
    record {
      within = rw whole (omega (arith, h.moved, size, p, f));
      origin = g;
      before = b;
      utf8 = rw whole (rw h.bytes (IsUtf8-append (take s.len old) xs (rw o d.utf8) u));
      unlimited = d.unlimited;
      stopped = λ e. let q = d.stopped e in absurd (omega (arith, q, p));
    }

-- the cursor alone is moved
pub writes_moved : (s : Inside) (white bare : Bool) (f : Cursor → Cursor)
    → cursor_at s s.len s.origin s.before white bare ≡ f (cursor_at s s.len s.origin s.before s.white s.bare)
    → Lays (page_of s) (page_at s s.text.items s.len s.origin s.before white bare) (λ c rest. rest (f c)) stay
writes_moved s white bare f e = record {
  owes = puts_moved (page_of s).output (page_at s s.text.items s.len s.origin s.before white bare).output f refl refl refl refl e;
  line_break = refl;
  width = refl;
}
