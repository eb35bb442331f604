-- What was laid out on a draft was put into its output, once that is settled.
use Rattle.std.specs.Prelude.{if◌then◌else◌, ◌≢◌}
use Rattle.std.proofs.Common.{◌≡◌, ℕ, ◌<◌, ◌≤◌, List, [], ◌∷◌, ◌++◌, length, take, Bool, true, false, IsUtf8, refl, sym, subst, ◌∙◌, ap, arith, append_assoc, append-nil}
use Rattle.std.specs.Str.{chars}
use Rattle.std.proofs.lemmas.List.{take-take, take_all}
use Rattle.std.proofs.lemmas.Str.{encodes-chars}
use lib.Utf8.{encodes, encode as encoded}
use Rattle.yaml_emit_layout.specs.declared.cursor.Cursor.{Cursor}
use Rattle.yaml_emit_layout.specs.declared.cursor.Status.{Status}
use Rattle.yaml_emit_layout.specs.declared.cursor.Status.TheVariants.{Going, Full, Deep, Starved}
use Rattle.yaml_emit_layout.specs.declared.settings.Encoding.{Encoding}
use Rattle.yaml_emit_layout.specs.declared.settings.Encoding.TheVariants.{Utf8, Utf16Le, Utf16Be}
use Rattle.yaml_emit_layout.specs.Text.{Item, letter, deep, encode, char_bytes, utf8_bytes, is_deep, shallow}
use Rattle.yaml_emit_layout.specs.Layout.{Layout, Rest, stay}
use Rattle.yaml_emit_layout.specs.Sink.{Output, Ends, EndsBy, Grows, Owes, Puts}
use Rattle.yaml_emit_layout.proofs.Sinks.{ends_other, status_cases}
use Rattle.yaml_emit_output.specs.Sheet.{Sheet, Settles, IsText, IsWritten, output_of, bytes_at, spelled}

-- a text as the letters that spell it
drawn : List ℕ → List Item
drawn [] = []
drawn (c ∷ cs) = letter c ∷ drawn cs

drawn_bytes : (x : Encoding) (cs : List ℕ) (t : List Item)
    → encode x (drawn cs ++ t) ≡ spelled x cs ++ encode x t
unfolding encode spelled drawn
drawn_bytes x [] t = refl
drawn_bytes x (c ∷ cs) t = ap (λ (z : List ℕ). char_bytes x c ++ z) (drawn_bytes x cs t) ∙ sym (append_assoc (char_bytes x c) (spelled x cs) (encode x t))

drawn_deep : (cs : List ℕ) (t : List Item) → is_deep (drawn cs ++ t) ≡ is_deep t
unfolding is_deep drawn
drawn_deep [] t = refl
drawn_deep (c ∷ cs) t = drawn_deep cs t

drawn_front : (cs : List ℕ) (t : List Item) → shallow (drawn cs ++ t) ≡ drawn cs ++ shallow t
unfolding shallow drawn
drawn_front [] t = refl
drawn_front (c ∷ cs) t = ap (λ (z : List Item). letter c ∷ z) (drawn_front cs t)

spelled_utf8 : (cs : List ℕ) → spelled Utf8 cs ≡ encodes cs
unfolding spelled char_bytes encoded
spelled_utf8 [] = refl
spelled_utf8 (c ∷ cs) = ap (λ (z : List ℕ). utf8_bytes c ++ z) (spelled_utf8 cs)

drawn_utf8 : (bytes : List ℕ) (t : List Item) → IsUtf8 bytes
    → encode Utf8 (drawn (chars bytes) ++ t) ≡ bytes ++ encode Utf8 t
drawn_utf8 bytes t u = drawn_bytes Utf8 (chars bytes) t ∙ ap (λ (z : List ℕ). z ++ encode Utf8 t) (spelled_utf8 (chars bytes) ∙ encodes-chars bytes u)

-- with a text to come the whole of a draft is its own text and that one
draft_whole : (d : Output) (t : List Item) → IsText d → d.status ≡ Going → length d.bytes ≤ d.limit
    → Ends d t (drawn (chars d.bytes) ++ t)
unfolding Ends
draft_whole d t h g l =
    let whole = drawn (chars d.bytes) ++ t in
    let front = ap (encode Utf8) (drawn_front (chars d.bytes) t) ∙ drawn_utf8 d.bytes (shallow t) h.1 in
    let P : Status → Type 0 = λ z. EndsBy z d.limit d.encoding d.bytes t whole in
    let Q : Encoding → Type 0 = λ z. EndsBy Going d.limit z d.bytes t whole in
    subst P (sym g) (subst Q (sym h.0) (drawn_utf8 d.bytes t h.1, (l, (drawn_deep (chars d.bytes) t, front))))

-- of a whole its bytes count, and whether it is too deep
ends_alike : (s : Status) (limit : ℕ) (x : Encoding) (output : List ℕ) (t a b : List Item)
    → encode x a ≡ encode x b → is_deep a ≡ is_deep b
    → encode x (shallow a) ≡ encode x (shallow b) → EndsBy s limit x output t b → EndsBy s limit x output t a
ends_alike Going limit x output t a b e d f h = (e ∙ h.0, (h.1.0, (d ∙ h.1.1.0, f ∙ h.1.1.1)))
ends_alike Full limit x output t a b e d f h = (h.0 ∙ sym (ap (take limit) e), let k = h.1 in omega (arith, k, ap length e))
ends_alike Deep limit x output t a b e d f h = (d ∙ h.0, h.1 ∙ sym f)
ends_alike Starved limit x output t a b e d f h = (h.0, e ∙ h.1)

going_status : (s : Sheet) (d : Output) → s.full ≡ false → d.status ≡ Going
    → (output_of s d).status ≡ Going
going_status s d f g = ap (λ (z : Bool). if z then Full else d.status) f ∙ g

going_by : (full : Bool) (s : Status) → (if full then Full else s) ≡ Going
    → (full ≡ false) × (s ≡ Going)
going_by true s g = absurd (cc g)
going_by false s g = (refl, g)

-- where an output goes on, its draft does
pub going_both : (s : Sheet) (d : Output) → (output_of s d).status ≡ Going
    → (s.full ≡ false) × (d.status ≡ Going)
going_both s d g = going_by s.full d.status g

-- what an output ends with, a whole of the same bytes ends with
same_whole : (s s' : Sheet) (a b : Output) (t u : List Item) (whole : List Item)
    → s'.encoding ≡ s.encoding → (output_of s a).status ≡ Going → IsWritten s a
    → Ends (output_of s a) t whole → Ends (output_of s' b) u (drawn (chars a.bytes) ++ t) → Ends (output_of s' b) u whole
unfolding Ends
same_whole s s' a b t u whole x g w h k =
    let cs = chars a.bytes in
    let P : Status → Type 0 = λ z. EndsBy z s.limit s.encoding (bytes_at s.encoding s a.bytes) t whole in
    let e : EndsBy Going s.limit s.encoding (bytes_at s.encoding s a.bytes) t whole = subst P g h in
    let Q : Encoding → Type 0 = λ z. EndsBy (output_of s' b).status s'.limit z (bytes_at s'.encoding s' b.bytes) u (drawn cs ++ t) in
    let R : Encoding → Type 0 = λ z. EndsBy (output_of s' b).status s'.limit z (bytes_at s'.encoding s' b.bytes) u whole in
    subst R (sym x) (ends_alike (output_of s' b).status s'.limit s.encoding (bytes_at s'.encoding s' b.bytes) u whole (drawn cs ++ t)
    (e.0 ∙ (ap (λ (z : List ℕ). z ++ encode s.encoding t) w.all ∙ sym (drawn_bytes s.encoding cs t)))
    (e.1.1.0 ∙ sym (drawn_deep cs t))
    (e.1.1.1 ∙ (ap (λ (z : List ℕ). z ++ encode s.encoding (shallow t)) w.all ∙ (sym (drawn_bytes s.encoding cs (shallow t)) ∙ sym (ap (encode s.encoding) (drawn_front cs t)))))
    (subst Q x k))

grows_in : (x : Encoding) (s s' : Sheet) (old new : List ℕ) → s'.limit ≡ s.limit → IsUtf8 old
    → bytes_at x s old ≡ spelled x (chars old)
    → length (bytes_at x s old) ≤ s.limit → Grows old new → Grows s.encoded s'.encoded → Grows (bytes_at x s old) (bytes_at x s' new)
grows_in Utf8 s s' old new l u e w g h =
    let same : take s.limit old ≡ old = e ∙ (spelled_utf8 (chars old) ∙ encodes-chars old u) in
    take-take (length (take s.limit old)) s'.limit new (omega (arith, l, w)) ∙ (ap (λ (z : List ℕ). take (length z) new) same ∙ (g ∙ sym same))
grows_in Utf16Le s s' old new l u e w g h = h
grows_in Utf16Be s s' old new l u e w g h = h

grows_settled : (s s' : Sheet) (a mid b : Output) → IsWritten s a → Settles s s' mid b
    → Grows a.bytes mid.bytes
    → Grows (bytes_at s.encoding s a.bytes) (bytes_at s'.encoding s' b.bytes)
grows_settled s s' a mid b w k g =
    let P : Encoding → Type 0 = λ z. Grows (bytes_at s.encoding s a.bytes) (bytes_at z s' b.bytes) in
    let Q : List ℕ → Type 0 = λ z. Grows a.bytes z in
    subst P (sym k.encoding) (grows_in s.encoding s s' a.bytes b.bytes k.limit w.text.1 w.all w.within (subst Q (sym k.text) g) k.grows)

-- what was laid out on the draft
pub puts_settled : (s s' : Sheet) (a mid b : Output) (x : Layout) → (output_of s a).status ≡ Going
    → IsWritten s a → Owes a mid x stay
    → Settles s s' mid b → b.cursor ≡ mid.cursor → Puts (output_of s a) (output_of s' b) x
puts_settled s s' a mid b x g w p k c =
    let both = going_both s a g in
    record {
      ends = λ rest whole h.
          let t = x a.cursor rest in
          let drawn_whole : List Item = drawn (chars a.bytes) ++ t in
          let P : Cursor → Type 0 = λ z. Ends (output_of s' b) (rest z) drawn_whole in
          same_whole s s' a b t (rest b.cursor) whole k.encoding g w h
          (subst P (sym c) (k.ends both.0 (rest mid.cursor) drawn_whole (p.ends rest drawn_whole (draft_whole a t w.text both.1 w.few))));
      encoding = k.encoding;
      limit = k.limit;
      going = λ _. g;
      stays = λ n. absurd (n g);
      grows = grows_settled s s' a mid b w k p.grows;
    }

few_by : (d : Output) (t whole : List Item) → d.status ≡ Going → Ends d t whole
    → length d.bytes ≤ d.limit
unfolding Ends
few_by d t whole g h = let P : Status → Type 0 = λ z. EndsBy z d.limit d.encoding d.bytes t whole in (subst P g h).1.0

units_by : (s : Sheet) (d : Output) (cs : List ℕ) → (output_of s d).status ≡ Going
    → Ends (output_of s d) [] (drawn cs ++ [])
    → (bytes_at s.encoding s d.bytes ≡ spelled s.encoding cs) × (length (bytes_at s.encoding s d.bytes) ≤ s.limit)
unfolding Ends encode
units_by s d cs g h =
    let P : Status → Type 0 = λ z. EndsBy z s.limit s.encoding (bytes_at s.encoding s d.bytes) [] (drawn cs ++ []) in
    let e = subst P g h in
    (sym (append-nil (bytes_at s.encoding s d.bytes)) ∙ (sym e.0 ∙ (drawn_bytes s.encoding cs [] ∙ append-nil (spelled s.encoding cs))), e.1.0)

-- and all of it is there, unless the output has stopped
pub written_settled : (s s' : Sheet) (a mid b : Output) (x : Layout)
    → (output_of s a).status ≡ Going → IsWritten s a → IsText mid → Owes a mid x stay
    → Settles s s' mid b → (b.status ≡ Going → b ≡ mid) → (output_of s' b).status ≡ Going → IsWritten s' b
written_settled s s' a mid b x g w u p k same now =
    let both = going_both s a g in
    let same : b ≡ mid = same (going_both s' b now).1 in
    let going : mid.status ≡ Going = ap (λ (z : Output). z.status) (sym same) ∙ (going_both s' b now).1 in
    let nothing : Rest = λ _. [] in
    let t = x a.cursor nothing in
    let few = few_by mid [] (drawn (chars a.bytes) ++ t) going (p.ends nothing (drawn (chars a.bytes) ++ t) (draft_whole a t w.text both.1 w.few)) in
    let units = units_by s' b (chars mid.bytes) now (k.ends both.0 [] (drawn (chars mid.bytes) ++ []) (draft_whole mid [] u going few)) in
    let P : Output → Type 0 = λ z. IsText z in
    let Q : Output → Type 0 = λ z. length z.bytes ≤ z.limit in
    record {
      text = subst P (sym same) u;
      few = subst Q (sym same) few;
      all = units.0 ∙ ap (λ (z : Output). spelled s'.encoding (chars z.bytes)) (sym same);
      within = units.1;
    }
