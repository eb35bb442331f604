-- What a draft with no limit and in UTF-8 ends with, an output of a limit and an encoding ends with.
use Rattle.std.specs.Prelude.{if◌then◌else◌, ◌≢◌}
use Rattle.std.proofs.Common.{◌≡◌, ℕ, ◌<◌, ◌≤◌, List, [], ◌∷◌, ◌++◌, length, take, drop, Bool, true, false, IsUtf8, refl, sym, subst, ◌∙◌, ap, arith, append_assoc, append-nil, length-append, inl, inr, ◌⊎◌}
use Rattle.std.specs.Str.{chars}
use Rattle.std.proofs.lemmas.List.{take-append-le, take_all, take-append-drop, take-take, length-take}
use Rattle.std.proofs.lemmas.Str.{encodes_same, encodes-chars, encodes-append, cons_from_encodes, chars-append}
use Rattle.std.proofs.lemmas.Bool.{false≢true}
use Rattle.std.proofs.Math.Nat.{min-le_right}
use Rattle.std.proofs.Math.Seq.{take-append_seam}
use lib.Utf8.{encodes, encode as encoded}
use Rattle.yaml_emit_layout.specs.declared.cursor.Status.{Status}
use Rattle.yaml_emit_layout.specs.declared.cursor.Status.TheVariants.{Going, Full, Deep, Starved}
use Rattle.yaml_emit_layout.specs.declared.settings.Encoding.{Encoding}
use Rattle.yaml_emit_layout.specs.declared.settings.Encoding.TheVariants.{Utf8, Utf16Le, Utf16Be}
use Rattle.yaml_emit_layout.specs.Text.{Item, letter, deep, encode, char_bytes, utf8_bytes, shown, shallow}
use Rattle.yaml_emit_layout.specs.Sink.{Output, Ends, EndsBy, Grows}
use Rattle.yaml_emit_layout.proofs.Sinks.{deep_written, grows_none, grows_by}
use Rattle.yaml_emit_output.specs.Sheet.{Sheet, Holds, Settles, output_of, bytes_at, spelled}

-- a text's bytes are those of its characters
spelled_is : (x : Encoding) (t : List Item) → encode x t ≡ spelled x (shown t)
unfolding encode shown spelled
spelled_is x [] = refl
spelled_is x (letter c ∷ t) = ap (λ z. char_bytes x c ++ z) (spelled_is x t)
spelled_is x (deep ∷ t) = spelled_is x t

utf8_is : (t : List Item) → encode Utf8 t ≡ encodes (shown t)
unfolding encode shown char_bytes encoded
utf8_is [] = refl
utf8_is (letter c ∷ t) = ap (λ z. utf8_bytes c ++ z) (utf8_is t)
utf8_is (deep ∷ t) = utf8_is t

spelled_append : (x : Encoding) (cs ds : List ℕ)
    → spelled x (cs ++ ds) ≡ spelled x cs ++ spelled x ds
unfolding spelled
spelled_append x [] ds = refl
spelled_append x (c ∷ cs) ds = ap (λ z. char_bytes x c ++ z) (spelled_append x cs ds) ∙ sym (append_assoc (char_bytes x c) (spelled x cs) (spelled x ds))

-- the characters that begin a text are those of the bytes that begin it
front_of : (cs ds rest : List ℕ) → encodes ds ≡ encodes cs ++ rest → (es : List ℕ) × (ds ≡ cs ++ es)
front_of [] ds rest e = (ds, refl)
front_of (c ∷ cs) ds rest e =
    let k = cons_from_encodes ds (encodes cs ++ rest) c (e ∙ append_assoc (encoded c) (encodes cs) rest) in
    let m = front_of cs k.0 rest k.2 in
    (m.0, k.1 ∙ ap (λ z. c ∷ z) m.1)

shown_front : (bytes rest : List ℕ) (whole : List Item) → IsUtf8 bytes
    → encode Utf8 whole ≡ bytes ++ rest → (es : List ℕ) × (shown whole ≡ chars bytes ++ es)
shown_front bytes rest whole u e = front_of (chars bytes) (shown whole) rest (sym (utf8_is whole) ∙ e ∙ ap (λ z. z ++ rest) (sym (encodes-chars bytes u)))

shown_rest : (bytes : List ℕ) (t whole : List Item) → IsUtf8 bytes
    → encode Utf8 whole ≡ bytes ++ encode Utf8 t → shown whole ≡ chars bytes ++ shown t
shown_rest bytes t whole u e =
    encodes_same (shown whole) (chars bytes ++ shown t)
    (sym (utf8_is whole) ∙ e ∙ ap (λ z. z ++ encode Utf8 t) (sym (encodes-chars bytes u)) ∙ ap (λ z. encodes (chars bytes) ++ z) (utf8_is t) ∙ sym (encodes-append (chars bytes) (shown t)))

-- so are their bytes in any encoding
respelled : (x : Encoding) (bytes : List ℕ) (t whole : List Item) → IsUtf8 bytes
    → encode Utf8 whole ≡ bytes ++ encode Utf8 t
    → encode x whole ≡ spelled x (chars bytes) ++ encode x t
respelled x bytes t whole u e =
    spelled_is x whole ∙ ap (spelled x) (shown_rest bytes t whole u e) ∙ spelled_append x (chars bytes) (shown t) ∙ ap (λ z. spelled x (chars bytes) ++ z) (sym (spelled_is x t))

respelled_front : (x : Encoding) (bytes rest : List ℕ) (whole : List Item) → IsUtf8 bytes
    → encode Utf8 whole ≡ bytes ++ rest
    → (more : List ℕ) × (encode x whole ≡ spelled x (chars bytes) ++ more)
respelled_front x bytes rest whole u e =
    let k = shown_front bytes rest whole u e in
    (spelled x k.0, spelled_is x whole ∙ ap (spelled x) k.1 ∙ spelled_append x (chars bytes) k.0)

-- what is written of a draft is the front of the whole
draft_front : (s : Status) (big : ℕ) (bytes : List ℕ) (t whole : List Item) → s ≢ Full
    → EndsBy s big Utf8 bytes t whole
    → (rest : List ℕ) × (encode Utf8 whole ≡ bytes ++ rest)
draft_front Going big bytes t whole n e = (encode Utf8 t, e.0)
draft_front Full big bytes t whole n e = absurd (n refl)
draft_front Deep big bytes t whole n e = deep_written Utf8 bytes whole e.1
draft_front Starved big bytes t whole n e = e

deep_respelled : (x : Encoding) (bytes : List ℕ) (t : List Item) → IsUtf8 bytes
    → bytes ≡ encode Utf8 t → encode x t ≡ spelled x (chars bytes)
unfolding encode
deep_respelled x bytes t u e = respelled x bytes [] t u (sym e ∙ sym (append-nil bytes)) ∙ append-nil (spelled x (chars bytes))

-- all of it is encoded, up to the limit
ends_respelled : (s : Status) (big limit : ℕ) (x : Encoding) (bytes units : List ℕ)
    (t whole : List Item) → s ≢ Full → IsUtf8 bytes
    → units ≡ spelled x (chars bytes) → length units ≤ limit → EndsBy s big Utf8 bytes t whole → EndsBy s limit x units t whole
ends_respelled Going big limit x bytes units t whole n u e l h =
    rw e (respelled x bytes t whole u h.0, (rw e at l, (h.1.1.0, respelled x bytes (shallow t) (shallow whole) u h.1.1.1)))
ends_respelled Full big limit x bytes units t whole n u e l h = absurd (n refl)
ends_respelled Deep big limit x bytes units t whole n u e l h = (h.0, e ∙ sym (deep_respelled x bytes (shallow whole) u h.1))
ends_respelled Starved big limit x bytes units t whole n u e l h = rw e (respelled_front x bytes h.0 whole u h.1)

-- more than the limit is
full_by : (limit : ℕ) (x : Encoding) (units rest : List ℕ) (t whole : List Item)
    → limit < length units
    → encode x whole ≡ units ++ rest → EndsBy Full limit x (take limit units) t whole
full_by limit x units rest t whole h e =
    (sym (ap (take limit) e ∙ take-append-le limit units rest (omega (arith, h))), omega (arith, h, ap length e, length-append units rest))

-- the text in two parts
spelled_parts : (x : Encoding) (n : ℕ) (bytes : List ℕ) → IsUtf8 (take n bytes)
    → spelled x (chars (take n bytes)) ++ spelled x (chars (drop n bytes)) ≡ spelled x (chars bytes)
spelled_parts x n bytes u =
    sym (spelled_append x (chars (take n bytes)) (chars (drop n bytes))) ∙ ap (spelled x) (sym (chars-append (take n bytes) (drop n bytes) u) ∙ ap chars (take-append-drop n bytes))

-- in UTF-8 nothing is encoded
within : (s : Status) (big limit : ℕ) (bytes : List ℕ) (t whole : List Item) → s ≢ Full
    → length bytes ≤ limit
    → EndsBy s big Utf8 bytes t whole → EndsBy s limit Utf8 (take limit bytes) t whole
within Going big limit bytes t whole n l e = rw (take_all limit bytes l) (e.0, (l, e.1.1))
within Full big limit bytes t whole n l e = absurd (n refl)
within Deep big limit bytes t whole n l e = rw (take_all limit bytes l) e
within Starved big limit bytes t whole n l e = rw (take_all limit bytes l) e

-- the draft, by what is known of it
draft_ends : (d : Output) (t whole : List Item) → d.encoding ≡ Utf8 → Ends d t whole
    → EndsBy d.status d.limit Utf8 d.bytes t whole
unfolding Ends
draft_ends d t whole u w = let R : Encoding → Type 0 = λ z. EndsBy d.status d.limit z d.bytes t whole in subst R u w

in_bytes : (s : Sheet) (text : List ℕ) (x : Encoding) → x ≡ Utf8
    → bytes_at x s text ≡ take s.limit text
in_bytes s text x e = ap (λ z. bytes_at z s text) e

in_units : (s : Sheet) (text : List ℕ) (x : Encoding) → x ≢ Utf8 → bytes_at x s text ≡ s.encoded
in_units s text Utf8 n = absurd (n refl)
in_units s text Utf16Le n = refl
in_units s text Utf16Be n = refl

-- what the output ends with, by its bytes and its status
ends_by : (s : Sheet) (d : Output) (status : Status) (bytes : List ℕ) (t whole : List Item)
    → (if s.full then Full else d.status) ≡ status
    → bytes_at s.encoding s d.bytes ≡ bytes → EndsBy status s.limit s.encoding bytes t whole → Ends (output_of s d) t whole
unfolding Ends
ends_by s d status bytes t whole e f h =
    let P : Status → List ℕ → Type 0 = λ z b. EndsBy z s.limit s.encoding b t whole in
    let Q : List ℕ → Type 0 = λ b. P (if s.full then Full else d.status) b in
    let R : Status → Type 0 = λ z. P z bytes in
    subst Q (sym f) (subst R (sym e) h)

status_of : (full : Bool) (s : Status) → full ≡ false → (if full then Full else s) ≡ s
status_of full s e = ap (λ (z : Bool). if z then Full else s) e

-- in UTF-8 the limit wasn't passed
pub sheet_within : (old : Sheet) (d : Output) → old.full ≡ false → old.encoding ≡ Utf8
    → d.encoding ≡ Utf8 → d.status ≢ Full → Holds old d.bytes
    → length d.bytes ≤ old.limit → Settles old old d d
sheet_within old d f x u n h l = record {
  ends = λ _ t whole w.
      let P : Encoding → Type 0 = λ z. EndsBy d.status old.limit z (take old.limit d.bytes) t whole in
      ends_by old d d.status (take old.limit d.bytes) t whole (status_of old.full d.status f) (in_bytes old d.bytes old.encoding x)
      (subst P (sym x) (within d.status d.limit old.limit d.bytes t whole n l (draft_ends d t whole u w)));
  stays = λ e. (refl, refl);
  holds = λ _. h;
  limit = refl;
  encoding = refl;
  text = refl;
  grows = grows_none old.encoded;
}

abbrev filled : Sheet → List ℕ → Sheet
filled s units = record { encoding = s.encoding; limit = s.limit; encoded = units; done = s.done; full = true }

-- it was
pub sheet_full : (old : Sheet) (d e : Output) → old.full ≡ false → old.encoding ≡ Utf8
    → d.encoding ≡ Utf8 → d.status ≢ Full
    → old.limit < length d.bytes → e.bytes ≡ d.bytes → Settles old (filled old old.encoded) d e
sheet_full old d e f x u n l b = record {
  ends = λ _ t whole w.
      let k = draft_front d.status d.limit d.bytes t whole n (draft_ends d t whole u w) in
      let P : Encoding → Type 0 = λ z. EndsBy Full old.limit z (take old.limit d.bytes) t whole in
      ends_by (filled old old.encoded) e Full (take old.limit d.bytes) t whole refl (in_bytes (filled old old.encoded) e.bytes old.encoding x ∙ ap (take old.limit) b)
      (subst P (sym x) (full_by old.limit Utf8 d.bytes k.0 t whole l k.1));
  stays = λ g. absurd (false≢true (sym f ∙ g));
  holds = λ g. absurd (false≢true (sym g));
  limit = refl;
  encoding = refl;
  text = b;
  grows = grows_none old.encoded;
}

abbrev told : Sheet → List ℕ → ℕ → Sheet
told s units n = record { encoding = s.encoding; limit = s.limit; encoded = units; done = n; full = s.full }

-- in UTF-16 all was encoded
pub sheet_told : (old : Sheet) (d : Output) (units : List ℕ) (n : ℕ) → old.full ≡ false
    → old.encoding ≢ Utf8 → d.encoding ≡ Utf8 → d.status ≢ Full
    → IsUtf8 d.bytes → Holds old d.bytes → units ≡ old.encoded ++ spelled old.encoding (chars (drop old.done d.bytes)) → n ≡ length d.bytes
    → length units ≤ old.limit → Settles old (told old units n) d d
sheet_told old d units n f x u s v h e k l =
    let whole_units : units ≡ spelled old.encoding (chars d.bytes) =
    e ∙ ap (λ z. z ++ spelled old.encoding (chars (drop old.done d.bytes))) h.encoded ∙ spelled_parts old.encoding old.done d.bytes h.front in
    let all : take n d.bytes ≡ d.bytes = take_all n d.bytes (omega (arith, k)) in
    record {
      ends = λ _ t whole w.
          ends_by (told old units n) d d.status units t whole (status_of old.full d.status f) (in_units (told old units n) d.bytes old.encoding x)
          (ends_respelled d.status d.limit old.limit old.encoding d.bytes units t whole s v whole_units l (draft_ends d t whole u w));
      stays = λ g. absurd (false≢true (sym f ∙ g));
      holds = λ _. record { inside = omega (arith, k); front = rw all v; encoded = rw all whole_units; within = l };
      limit = refl;
      encoding = refl;
      text = refl;
      grows = grows_by old.encoded units (spelled old.encoding (chars (drop old.done d.bytes))) e;
    }

-- what was encoded is the front of what is cut at the limit
grows_cut : (limit : ℕ) (old units more rest : List ℕ) → length old ≤ limit → limit < length units
    → units ++ more ≡ old ++ rest → Grows old (take limit units)
grows_cut limit old units more rest w l e =
    take-take (length old) limit units w
    ∙ (sym (take-append-le (length old) units more (omega (arith, w, l))) ∙ (ap (take (length old)) e ∙ take-append_seam old rest))

-- the limit was passed
pub sheet_passed : (old : Sheet) (d e : Output) (units more : List ℕ) → old.full ≡ false
    → old.encoding ≢ Utf8 → d.encoding ≡ Utf8 → d.status ≢ Full
    → IsUtf8 d.bytes → Holds old d.bytes → units ++ more ≡ old.encoded ++ spelled old.encoding (chars (drop old.done d.bytes))
    → old.limit < length units → e.bytes ≡ d.bytes → Settles old (filled old (take old.limit units)) d e
sheet_passed old d e units more f x u s v h c l b =
    let whole_units : units ++ more ≡ spelled old.encoding (chars d.bytes) =
    c ∙ ap (λ z. z ++ spelled old.encoding (chars (drop old.done d.bytes))) h.encoded ∙ spelled_parts old.encoding old.done d.bytes h.front in
    record {
      ends = λ _ t whole w.
          let k = draft_front d.status d.limit d.bytes t whole s (draft_ends d t whole u w) in
          let r = respelled_front old.encoding d.bytes k.0 whole v k.1 in
          ends_by (filled old (take old.limit units)) e Full (take old.limit units) t whole refl (in_units (filled old (take old.limit units)) e.bytes old.encoding x)
          (full_by old.limit old.encoding units (more ++ r.0) t whole l (r.1 ∙ ap (λ z. z ++ r.0) (sym whole_units) ∙ append_assoc units more r.0));
      stays = λ g. absurd (false≢true (sym f ∙ g));
      holds = λ g. absurd (false≢true (sym g));
      limit = refl;
      encoding = refl;
      text = b;
      grows = grows_cut old.limit old.encoded units more (spelled old.encoding (chars (drop old.done d.bytes))) h.within l c;
    }

-- memory was refused
pub sheet_refused : (old : Sheet) (d e : Output) → old.full ≡ false → old.encoding ≢ Utf8
    → d.encoding ≡ Utf8 → d.status ≢ Full
    → Holds old d.bytes → e.bytes ≡ d.bytes → e.status ≡ Starved → Settles old old d e
sheet_refused old d e f x u s h b g = record {
  ends = λ _ t whole w.
      let k = draft_front d.status d.limit d.bytes t whole s (draft_ends d t whole u w) in
      let front : encode Utf8 whole ≡ take old.done d.bytes ++ (drop old.done d.bytes ++ k.0) =
      k.1 ∙ ap (λ z. z ++ k.0) (sym (take-append-drop old.done d.bytes)) ∙ append_assoc (take old.done d.bytes) (drop old.done d.bytes) k.0 in
      let r = respelled_front old.encoding (take old.done d.bytes) (drop old.done d.bytes ++ k.0) whole h.front front in
      ends_by old e Starved old.encoded t whole (status_of old.full e.status f ∙ g) (in_units old e.bytes old.encoding x) (r.0, r.1 ∙ ap (λ z. z ++ r.0) (sym h.encoded));
  stays = λ g. absurd (false≢true (sym f ∙ g));
  holds = λ _. let P : List ℕ → Type 0 = λ z. Holds old z in subst P (sym b) h;
  limit = refl;
  encoding = refl;
  text = b;
  grows = grows_none old.encoded;
}

pub sheet_stays : (s : Sheet) (d : Output) → s.full ≡ true → Settles s s d d
sheet_stays s d e = record { ends = λ g. absurd (false≢true (sym g ∙ e)); stays = λ _. (refl, refl); holds = λ g. absurd (false≢true (sym g ∙ e)); limit = refl; encoding = refl; text = refl; grows = grows_none s.encoded }

-- characters that were appended: some, and all where the limit isn't passed
pub spelled_some : (limit : ℕ) (units whole : List ℕ)
    → (units ≡ whole) ⊎ ((limit < length units) × ((more : List ℕ) × (units ++ more ≡ whole)))
    → (more : List ℕ) × (units ++ more ≡ whole)
spelled_some limit units whole (inl e) = ([], append-nil units ∙ e)
spelled_some limit units whole (inr r) = r.1

pub spelled_all : (limit : ℕ) (units whole : List ℕ)
    → (units ≡ whole) ⊎ ((limit < length units) × ((more : List ℕ) × (units ++ more ≡ whole)))
    → length units ≤ limit → units ≡ whole
spelled_all limit units whole (inl e) l = e
spelled_all limit units whole (inr r) l = absurd (let h = r.0 in omega (arith, h, l))

-- a character more
pub spelled_more : (x : Encoding) (c : ℕ) (bytes units new whole cs rest : List ℕ)
    → new ≡ bytes ++ units → units ≡ char_bytes x c → cs ≡ c ∷ rest
    → bytes ++ spelled x cs ≡ whole → new ++ spelled x rest ≡ whole
unfolding spelled
spelled_more x c bytes units new whole cs rest n u e h =
    rw (n, u) (append_assoc bytes (char_bytes x c) (spelled x rest) ∙ ap (λ z. bytes ++ spelled x z) (sym e) ∙ h)

pub spelled_end : (x : Encoding) (bytes whole cs : List ℕ) → cs ≡ []
    → bytes ++ spelled x cs ≡ whole → bytes ≡ whole
unfolding spelled
spelled_end x bytes whole cs e h = sym (append-nil bytes) ∙ ap (λ z. bytes ++ spelled x z) (sym e) ∙ h

-- what holds of a text holds of one that goes on
pub holds_on : (s : Sheet) (old new : List ℕ) → take (length old) new ≡ old → Holds s old
    → Holds s new
holds_on s old new g h =
    let inside = h.inside in
    let long : length old ≤ length new = omega (arith, ap length g, length-take (length old) new, min-le_right (length old) (length new)) in
    let same : take s.done new ≡ take s.done old = sym (take-take s.done (length old) new inside) ∙ ap (take s.done) g in
    record { inside = omega (arith, inside, long); front = rw same h.front; encoded = rw same h.encoded; within = h.within }
