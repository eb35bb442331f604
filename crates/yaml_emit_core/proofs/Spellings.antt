-- How names and tags are spelled.
use Rattle.std.proofs.Common.{◌≡◌, ℕ, ◌+◌, ◌<◌, ◌≤◌, List, [], ◌∷◌, ◌++◌, length, drop, get_or, Bool, true, false, refl, sym, subst, ◌∙◌, ap, arith, append-nil}
use Rattle.std.proofs.lemmas.Bool.Decides.{nat_tests}
use Rattle.std.proofs.lemmas.List.{drop_more, drop_all}
use Rattle.yaml_emit_layout.specs.declared.cursor.Cursor.{Cursor}
use Rattle.yaml_emit_layout.specs.Layout.{Layout, Rest, ◌▹◌, stay, char, letters, gap, word, after_text}
use Rattle.yaml_emit_layout.proofs.Sinks.{letters_append}
use Rattle.yaml_emit_layout.specs.Tags.{suffix_keeps, keeps_byte, uri_byte, uri_text, spelled}
use Rattle.yaml_emit_output.specs.Draft.{Page as Paper, Lays}
use Rattle.yaml_emit_scalars.proofs.LaysLemmas.{lays_is, lays_as, lays_more, lays_both}
use Rattle.yaml_emit_scalars.proofs.Words.{behind_gap}
use Rattle.yaml_emit_core.proofs.Aliases.{ended}

pub low : (flow : Bool) (b : ℕ) → keeps_byte flow b ≡ true → b < 128
unfolding suffix_keeps
low true b h = grind (arith, nat_tests, h)
low false b h = grind (arith, nat_tests, h)

-- a word that begins so
front_letters : (x : ℕ) (xs : List ℕ) (c : Cursor) (rest : Rest)
    → letters (x ∷ xs) c rest ≡ (letters ((([] ++ []) ++ x ∷ xs) ++ []) ▹ after_text) c rest
front_letters x xs c rest = sym (ap (λ (z : List ℕ). letters (x ∷ z) c (λ e. after_text e rest)) (append-nil xs) ∙ ended x xs c rest)

pub front_lays : (xs : List ℕ) (a b : Paper) → 0 < length xs
    → Lays a b (gap ▹ (letters ((([] ++ []) ++ xs) ++ []) ▹ after_text)) stay
    → Lays a b (word xs) stay
front_lays [] a b h p = absurd (omega (arith, h))
front_lays (x ∷ xs) a b h p =
    lays_is a b (gap ▹ (letters ((([] ++ []) ++ x ∷ xs) ++ []) ▹ after_text)) (word (x ∷ xs))
    (λ rest. behind_gap (letters (x ∷ xs)) (letters ((([] ++ []) ++ x ∷ xs) ++ []) ▹ after_text) rest a.output.cursor (λ d l. front_letters x xs d rest)) p

-- an anchor
named : (name : List ℕ) (c : Cursor) (rest : Rest)
    → letters (38 ∷ name) c rest ≡ (letters ((([] ++ 38 ∷ []) ++ name) ++ []) ▹ after_text) c rest
named name c rest = sym (ap (λ (z : List ℕ). letters (38 ∷ z) c (λ e. after_text e rest)) (append-nil name) ∙ ended 38 name c rest)

pub anchor_lays : (name : List ℕ) (a b : Paper)
    → Lays a b (gap ▹ (letters ((([] ++ 38 ∷ []) ++ name) ++ []) ▹ after_text)) stay
    → Lays a b (word (38 ∷ name)) stay
anchor_lays name a b p =
    lays_is a b (gap ▹ (letters ((([] ++ 38 ∷ []) ++ name) ++ []) ▹ after_text)) (word (38 ∷ name))
    (λ rest. behind_gap (letters (38 ∷ name)) (letters ((([] ++ 38 ∷ []) ++ name) ++ []) ▹ after_text) rest a.output.cursor (λ d l. named name d rest)) p

-- a text after another, and after a word
pub letters_more : (a b c : Paper) (xs ys : List ℕ) → Lays a b (letters xs) stay
    → Lays b c (letters ys) stay → Lays a c (letters (xs ++ ys)) stay
letters_more a b c xs ys p q = let P : Layout → Type 0 = λ t. Lays a c t stay in subst P (sym (letters_append xs ys)) (lays_both a b c (letters xs) (letters ys) p q)

pub word_more : (a b c : Paper) (xs ys : List ℕ) → Lays a b (word xs) stay
    → Lays b c (letters ys) stay → Lays a c (word (xs ++ ys)) stay
word_more a b c xs ys p q = let P : Layout → Type 0 = λ t. Lays a c (gap ▹ t) stay in subst P (sym (letters_append xs ys)) (lays_both a b c (gap ▹ letters xs) (letters ys) p q)

-- a byte more of an escaped text
pub uri_more : (flow : Bool) (a b c : Paper) (xs : List ℕ) (i : ℕ) → i < length xs
    → Lays a b (letters (uri_text flow xs)) (letters (uri_text flow (drop i xs)))
    → Lays b c (letters (uri_byte flow (get_or xs i 0))) stay
    → Lays a c (letters (uri_text flow xs)) (letters (uri_text flow (drop (i + 1) xs)))
unfolding uri_text
uri_more flow a b c xs i h p q =
    let P : Layout → Type 0 = λ t. Lays a b (letters (uri_text flow xs)) t in
    let e = ap (λ t. letters (uri_text flow t)) (drop_more xs i 0 h) ∙ letters_append (uri_byte flow (get_or xs i 0)) (uri_text flow (drop (i + 1) xs)) in
    lays_more a b c (letters (uri_text flow xs)) (letters (uri_byte flow (get_or xs i 0))) (letters (uri_text flow (drop (i + 1) xs))) (subst P e p) q

pub uri_all : (flow : Bool) (a b : Paper) (xs : List ℕ) (i : ℕ) → length xs ≤ i
    → Lays a b (letters (uri_text flow xs)) (letters (uri_text flow (drop i xs)))
    → Lays a b (letters (uri_text flow xs)) stay
unfolding uri_text letters
uri_all flow a b xs i h p = let P : List ℕ → Type 0 = λ t. Lays a b (letters (uri_text flow xs)) (letters (uri_text flow t)) in subst P (drop_all _ _ h) p

-- a byte more as it is
pub letters_next : (a b c : Paper) (x : Layout) (xs : List ℕ) (i : ℕ) → i < length xs
    → Lays a b x (letters (drop i xs))
    → Lays b c (char (get_or xs i 0)) stay → Lays a c x (letters (drop (i + 1) xs))
unfolding letters
letters_next a b c x xs i h p q =
    let P : Layout → Type 0 = λ t. Lays a b x t in
    let e = ap letters (drop_more xs i 0 h) ∙ letters_append (get_or xs i 0 ∷ []) (drop (i + 1) xs) in
    lays_more a b c x (letters (get_or xs i 0 ∷ [])) (letters (drop (i + 1) xs)) (subst P e p) q

pub letters_all : (a b : Paper) (x : Layout) (xs : List ℕ) (i : ℕ) → length xs ≤ i
    → Lays a b x (letters (drop i xs)) → Lays a b x stay
unfolding letters
letters_all a b x xs i h p = let P : List ℕ → Type 0 = λ t. Lays a b x (letters t) in subst P (drop_all _ _ h) p

-- a word whose letters are still to come
pub begun : (a b : Paper) (xs : List ℕ) → Lays a b gap stay → Lays a b (word xs) (letters xs)
begun a b xs p = lays_as a b (word xs) gap (letters xs) (λ rest. refl) p
