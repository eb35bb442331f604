-- What says nothing against a style, and what a value allows.
use Rattle.std.proofs.Common.{◌≡◌, ◌≢◌, ℕ, zero, suc, ◌+◌, ◌-◌, ◌<◌, ◌≤◌, List, [], ◌∷◌, ◌++◌, length, take, drop, get_or, bit_and, Bool, true, false, IsUtf8, refl, sym, ◌∙◌, ap, arith, inl, inr, ◌⊎◌}
use Rattle.std.specs.Prelude.{not, nat_le, ◌==◌, ◌||◌, ◌&&◌}
use Rattle.std.specs.Str.{chars, IsAscii}
use Rattle.std.specs.List.{list_all}
use Rattle.std.proofs.lemmas.Bool.Decides.{nat_tests}
use Rattle.std.proofs.lemmas.Bool.{and_parts, and_from, ne_eqb, leb-true}
use Rattle.std.proofs.Math.Bool.{and-false}
use Rattle.std.proofs.Math.Seq.{take-length}
use Rattle.std.proofs.lemmas.List.{append-nil, drop_more, drop_all}
use Rattle.std.proofs.lemmas.List.Elements.{All-weaker}
use Rattle.std.proofs.lemmas.List.Sums.{AllPass-from_list_all}
use Rattle.std.proofs.lemmas.Str.{chars-IsAscii, chars_past_char, chars-nil, encode_ascii}
use Rattle.std.proofs.lemmas.Str.Ascii.{IsAscii-from_all}
use Rattle.yaml_emit_layout.specs.Text.{is_break}
use Rattle.yaml_emit_layout.specs.declared.page.Allowed.{Allowed}
use Rattle.yaml_emit_layout.specs.declared.page.Seen.{Seen}
use Rattle.yaml_emit_layout.specs.Quoted.{first}
use Rattle.yaml_emit_layout.specs.Runs.{is_calm}
use Rattle.yaml_emit_layout.specs.Tame.{IsTame}
use Rattle.yaml_emit_layout.specs.Style.{somewhere, is_special, is_break_space, is_not_plain, is_not_flow, is_badly_begun, last_or, ends_in_space, behind, starts_badly, seen, looked, joined, allowed}
use Rattle.yaml_emit_layout.proofs.Bools.{bool_cases}
use Rattle.yaml_emit_scalars.specs.Classes.{class_of, is_of, Covers, leads_badly}
use Rattle.yaml_emit_scalars.proofs.ClassLemmas.{by_class, covers_none}
use Rattle.yaml_emit_scalars.proofs.Looks.{looked_at}

-- a byte that rules nothing out is calm
uncalm : ℕ → Bool
uncalm b = not (is_calm b)

pub telling_calm : (b : ℕ) → is_of 0x0D6 b ≡ false → is_calm b ≡ true
unfolding class_of is_calm uncalm
telling_calm b n = let u = by_class 0x0D6 uncalm refl refl b n in bool_cases (is_calm b) (λ t. t) (λ f. absurd (cc (sym u ∙ ap not f)))

calm_more : (n m : ℕ) (xs : List ℕ) → n < length xs → m ≡ suc n
    → list_all is_calm (take n xs) ≡ true → is_calm (get_or xs n 0) ≡ true
    → list_all is_calm (take m xs) ≡ true
calm_more n m [] l e h t = absurd (omega (arith, l))
calm_more zero m (x ∷ xs) l e h t = rw e (and_from (is_calm x) true t refl)
calm_more (suc n) m (x ∷ xs) l e h t =
    let p = and_parts (is_calm x) _ h in
    rw e (and_from (is_calm x) _ p.0 (calm_more n (suc n) xs (omega (arith, l)) refl p.1 t))

calm_all : (n : ℕ) (xs : List ℕ) → n ≤ length xs
    → ((i : ℕ) → i < n → is_calm (get_or xs i 0) ≡ true) → list_all is_calm (take n xs) ≡ true
calm_all zero xs l h = refl
calm_all (suc n) xs l h = calm_more n (suc n) xs (omega (arith, l)) refl (calm_all n xs (omega (arith, l)) (λ i u. h i (omega (arith, u)))) (h n (omega arith))

pub covered_calm : (bytes : List ℕ) (classes : ℕ) → Covers classes bytes 0 (length bytes)
    → bit_and classes 0x0D6 ≡ 0 → list_all is_calm bytes ≡ true
covered_calm bytes classes h n = ap (list_all is_calm) (sym (take-length bytes)) ∙ calm_all (length bytes) bytes (omega arith) (λ i u. telling_calm (get_or bytes i 0) (covers_none classes 0x0D6 bytes 0 (length bytes) h n i (omega arith) u))

-- what a byte is that is shown as it is
pub record Shown (b : ℕ) : Type 0 where
  pub low : 32 ≤ b
  pub high : b ≤ 126

shown_unbroken : (b : ℕ) → Shown b → is_break b ≡ false
shown_unbroken b s = let low = s.low in let high = s.high in grind (arith, nat_tests, low, high)

-- the last byte of a text
last_at : (before x : ℕ) (xs : List ℕ) → get_or (x ∷ xs) (length xs) 0 ≡ last_or before (x ∷ xs)
unfolding last_or
last_at before x [] = refl
last_at before x (y ∷ ys) = last_at x y ys

last_is : (before : ℕ) (xs : List ℕ) → (length xs == 0) ≡ false
    → get_or xs (length xs - 1) 0 ≡ last_or before xs
last_is before [] h = absurd (cc)
last_is before (x ∷ xs) h = let e : length (x ∷ xs) - 1 ≡ length xs = omega arith in ap (λ i. get_or (x ∷ xs) i 0) e ∙ last_at before x xs

shown_by : (b : ℕ) (more : Bool) → (nat_le 32 b && (nat_le b 126 && more)) ≡ true → Shown b
shown_by b more h =
    let (low, rest) = and_parts (nat_le 32 b) _ h in
    record { low = leb-true 32 b low; high = leb-true b 126 (and_parts (nat_le b 126) more rest).0 }

pub calm_shown : (b : ℕ) → is_calm b ≡ true → Shown b
unfolding is_calm
calm_shown b h = shown_by b _ h

-- a text of such bytes is in ASCII
pub shown_ascii : (test : ℕ → Bool) → ((b : ℕ) → test b ≡ true → Shown b) → (bs : List ℕ)
    → list_all test bs ≡ true → IsAscii bs
shown_ascii test shown bs h =
    let low : (b : ℕ) → test b ≡ true → b < 128 = λ b t. let s = (shown b t).high in omega (arith, s) in
    IsAscii-from_all bs (All-weaker (λ b. test b ≡ true) (λ b. b < 128) low bs (AllPass-from_list_all test bs h))

last_append : (before : ℕ) (xs ys : List ℕ)
    → last_or before (xs ++ ys) ≡ last_or (last_or before xs) ys
unfolding last_or
last_append before [] ys = refl
last_append before (x ∷ xs) ys = last_append x xs ys

-- a space after them is the first character of the rest
space_first : (m : ℕ) (bs rest : List ℕ) → rest ≡ drop m bs → IsUtf8 rest → m < length bs
    → get_or bs m 0 ≡ 32 → first (chars rest) ≡ 32
space_first m bs rest e u inside space =
    let is : rest ≡ 32 ∷ drop (m + 1) bs = e ∙ drop_more bs m 0 inside ∙ ap (λ b. b ∷ drop (m + 1) bs) space in
    ap first (chars_past_char rest (drop (m + 1) bs) 32 u (is ∙ ap (λ t. t ++ drop (m + 1) bs) (sym (encode_ascii 32 (omega arith)))))

-- What is after what is passed: a space, nothing, or anything where the last is no space.
pub calm_behind : (m : ℕ) (bs run rest : List ℕ) → run ≡ take m bs → rest ≡ drop m bs
    → IsUtf8 rest → ((m < length bs) × (get_or bs m 0 ≡ 32)) ⊎ ((length bs ≤ m) ⊎ ((last_or 0 (chars (take m bs)) == 32) ≡ false))
    → (last_or 0 (chars run) == 32 && is_break (first (chars rest))) ≡ false
calm_behind m bs run rest r e u (inl space) =
    rw (space_first m bs rest e u space.0 space.1) (and-false (last_or 0 (chars run) == 32))
calm_behind m bs run rest r e u (inr (inl n)) = rw (e, drop_all m bs n, chars-nil) (and-false (last_or 0 (chars run) == 32))
calm_behind m bs run rest r e u (inr (inr o)) = rw (r, o) refl

-- what says nothing against a style

calm_special : (unicode : Bool) (before b next : ℕ) → is_calm b ≡ true
    → (b == 32 && is_break next) ≡ false → is_special unicode before b next ≡ false
unfolding is_calm
calm_special true before b next h n = grind (arith, nat_tests, h, n)
calm_special false before b next h n = grind (arith, nat_tests, h, n)

calm_seen : (unicode : Bool) (before b next : ℕ) → is_calm b ≡ true
    → (b == 32 && is_break next) ≡ false → seen unicode before b next ≡ record
    { special = false; broken = false; not_plain = false; not_flow = false }
unfolding is_calm
calm_seen unicode before b next h n =
    let broken : is_break_space before b next ≡ false = grind (arith, nat_tests, h) in
    let plain : is_not_plain before b next ≡ false = grind (arith, nat_tests, h) in
    let flow : is_not_flow before b next ≡ false = grind (arith, nat_tests, h) in
    rw (calm_special unicode before b next h n, broken, plain, flow) refl

-- a character that says nothing, except a space before a break
pub record IsSilent (unicode : Bool) (c : ℕ) : Type 0 where
  pub nothing : (before next : ℕ) → (c == 32 && is_break next) ≡ false → seen unicode before c next ≡ record
      { special = false; broken = false; not_plain = false; not_flow = false }
  pub whole : is_break c ≡ false

calm_silent : (unicode : Bool) (b : ℕ) → is_calm b ≡ true → IsSilent unicode b
calm_silent unicode b h = record { nothing = λ before next n. calm_seen unicode before b next h n; whole = shown_unbroken b (calm_shown b h) }

-- characters of which each is silent
module _ (unicode : Bool) (test : ℕ → Bool) (silent : (c : ℕ) → test c ≡ true → IsSilent unicode c) where
  next_calm : (b : ℕ) (bs xs : List ℕ) → list_all test bs ≡ true
      → (last_or b bs == 32 && is_break (first xs)) ≡ false
      → (b == 32 && is_break (first (bs ++ xs))) ≡ false
  unfolding last_or
  next_calm b [] xs h n = n
  next_calm b (y ∷ ys) xs h n =
      rw (silent y (and_parts (test y) _ h).0).whole (and-false (b == 32))

  calm_looked : (before : ℕ) (bs xs : List ℕ) → list_all test bs ≡ true
      → (last_or 0 bs == 32 && is_break (first xs)) ≡ false
      → looked unicode before (bs ++ xs) ≡ looked unicode (last_or before bs) xs
  unfolding last_or
  calm_looked before [] xs h n = refl
  calm_looked before (b ∷ []) xs h n =
      looked_at unicode before b xs ∙ ap (λ z. joined z (looked unicode b xs)) ((silent b (and_parts (test b) true h).0).nothing before (first xs) n)
  calm_looked before (b ∷ y ∷ ys) xs h n =
      let (c, d) = and_parts (test b) (list_all test (y ∷ ys)) h in
      let e = (silent b c).nothing before (first (y ∷ ys ++ xs)) (next_calm b (y ∷ ys) xs d n) in
      looked_at unicode before b (y ∷ ys ++ xs) ∙ ap (λ z. joined z (looked unicode b (y ∷ ys ++ xs))) e ∙ calm_looked b (y ∷ ys) xs d n

  pub look_calm : (before last : ℕ) (bs xs text : List ℕ)
      → list_all test bs ≡ true → (last_or 0 bs == 32 && is_break (first xs)) ≡ false → text ≡ bs ++ xs
      → last ≡ last_or before bs → looked unicode before text ≡ looked unicode last xs
  look_calm before last bs xs text h n t l = ap (looked unicode before) t ∙ calm_looked before bs xs h n ∙ ap (λ z. looked unicode z xs) (sym l)

pub last_calm : (before last : ℕ) (bs xs text : List ℕ) → text ≡ bs ++ xs → last ≡ last_or before bs
    → last_or before text ≡ last_or last xs
last_calm before last bs xs text t l = ap (last_or before) t ∙ last_append before bs xs ∙ ap (λ z. last_or z xs) (sym l)

-- its characters are its bytes
pub tame_letters : (v : List ℕ) → IsTame v → chars v ≡ v
tame_letters v t = chars-IsAscii v (shown_ascii is_calm calm_shown v t.calm)

-- by what is seen: what is special, breaks with spaces, a space at the end, a bad beginning, what isn't plain, and what isn't in flow
abbrev by : Bool → Bool → Bool → Bool → Bool → Bool → Allowed
by a b c d e f = record {
  plain = not (a || b || c || d || e);
  flow_plain = not (a || b || c || d || e) && not f;
  single = not (a || b);
  block = not (a || c);
}

abbrev pub all_allowed : Allowed
all_allowed = record { plain = true; flow_plain = true; single = true; block = true }

by_none : (a b c d e f : Bool) → a ≡ false → b ≡ false → c ≡ false → d ≡ false → e ≡ false
    → f ≡ false → all_allowed ≡ by a b c d e f
by_none a b c d e f p q r s t u = rw (p, q, r, s, t, u) refl

-- by its first and its last byte
pub starts : (v : List ℕ) → (length v == 0) ≡ false
    → ((b d : ℕ) → is_badly_begun (get_or v 0 0) b d ≡ false) → starts_badly v ≡ false
starts [] l h = absurd (cc)
starts (x ∷ xs) l h = h (first (behind (x ∷ xs))) (first (behind (behind (x ∷ xs))))

pub ends : (v : List ℕ) → (length v == 0) ≡ false → get_or v (length v - 1) 0 ≢ 32
    → ends_in_space v ≡ false
ends v l h = ap (λ k. k == 32) (sym (last_is 32 v l)) ∙ ne_eqb (get_or v (length v - 1) 0) 32 h

all_of : (u : Bool) (v : List ℕ) → IsTame v → all_allowed ≡ allowed u v
unfolding allowed last_or is_calm somewhere
all_of u [] t = let e = t.ends in absurd (cc)
all_of u (x ∷ xs) t =
    let v : List ℕ = x ∷ xs in
    let e : looked u 32 v ≡ looked u (last_or 32 v) [] = look_calm u is_calm (calm_silent u) 32 (last_or 32 v) v [] v t.calm (and-false (last_or 0 v == 32)) (sym (append-nil v)) refl in
    by_none (somewhere (is_special u) 32 v) (somewhere is_break_space 32 v) (ends_in_space v) (starts_badly v) (somewhere is_not_plain 32 v) (somewhere is_not_flow 32 v)
    (ap (λ (t : Seen). t.special) e) (ap (λ (t : Seen). t.broken) e) t.ends t.starts (ap (λ (t : Seen). t.not_plain) e) (ap (λ (t : Seen). t.not_flow) e)

-- a tame text allows all styles
pub tame_allows : (u : Bool) (v : List ℕ) → IsTame v → all_allowed ≡ allowed u (chars v)
tame_allows u v t = all_of u v t ∙ ap (allowed u) (sym (tame_letters v t))

-- a byte with which a text may begin begins it well
pub begins_well : (a b d : ℕ) → is_of 0x100 a ≡ false → is_badly_begun a b d ≡ false
unfolding class_of
begins_well a b d n = let h = by_class 0x100 leads_badly refl refl a n in grind (arith, nat_tests, h)
