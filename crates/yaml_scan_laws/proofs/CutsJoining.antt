-- Entries of lexemes after others that decide the same, and the tokens of a text that is cut in two.
use Rattle.std.proofs.Common.{◌≡◌, ℕ, zero, suc, ◌+◌, ◌-◌, ◌≤◌, if◌then◌else◌, Bool, true, false, List, [], ◌∷◌, ◌++◌, map, length, Option, Some, None, refl, sym, ap, ◌∙◌, inl, inr, arith, ◌≢◌, take, drop, replicate}
use Rattle.yaml_scan_laws.proofs.Shared.{cases_Bool, nat_tests, length-append, append-nil, append_assoc, map-append, none-some, same_Some, yaml_encoding_t, Lexeme, Entry, is_value, reached, Candidate, candidate, fresh, open_at, has_number, first_or, first_open, found_by, left_by, inside, entry_of, mark_key, marked, keyed, finished_tokens, body_in, candidate-more, fresh_is, length-entries, first_open-le, moved_lexeme, flat_map-append, take-map, drop-map, flat_map, ScanFault, Token, Next, Read, Fails, Ends, next, SpelledText, start_tokens, own_tokens, spell, all, handed_out, handed, front_ends, kept_of, remaining, offline, moved_token, moved_next, take-append-add, drop-append-add, le-ltb, ne_eqb}
use Rattle.yaml_scan_laws.proofs.Rests.{AllCarry}
use Rattle.yaml_scan_laws.proofs.Histories.{Bases, moved_lexemes, moved_candidate, moved_found, length_on, candidate_on, fresh_moved, found_on, has_moved, levels_on}
use Rattle.yaml_scan_history.specs.declared.lexeme.Opens.{Opens}

abbrev pub moved_entry : ℕ → ℕ → Entry → Entry
moved_entry d n e = record { lexeme = moved_lexeme d n e.lexeme; ends = e.ends; opens = e.opens; key = e.key }

-- ---- candidates are above the base

above : (h b : List Lexeme) (e : ℕ) (c : Candidate) → ((e : ℕ) → candidate e b ≡ None)
    → candidate e (h ++ b) ≡ Some c → length b ≤ c.number
above [] b e c none is = absurd (none-some _ (sym (none e) ∙ is))
above (l ∷ h) b e c none is =
    elim (candidate-more e l (h ++ b) c is) [
      | inl top ↦ omega (arith, top, length-append h b)
      | inr more ↦ above h b e c none more
    ]

-- ---- one entry

inside_on : (d n k : ℕ) (l : Lexeme) (h b c : List Lexeme) → Bases d n k b c
    → inside (moved_lexeme d n l) (moved_lexemes d n h ++ c) ≡ inside l (h ++ b)
inside_on d n k l h b c s = ap (left_by l.kind l.depth l.start.column) (levels_on d n k h b c s)

entry_on : (d n k : ℕ) (l : Lexeme) (h b c : List Lexeme) → Bases d n k b c
    → entry_of (moved_lexeme d n l) (moved_lexemes d n h ++ c) ≡ moved_entry d n (entry_of l (h ++ b))
entry_on d n k l h b c s =
    rw (found_on d n k l h b c s, levels_on d n k h b c s, has_moved d n k (found_by l (h ++ b))) refl

-- ---- keys

mark_right : (lv : List ℕ) (xs ys : List Entry) (i : ℕ) → length xs ≤ i
    → mark_key lv (xs ++ ys) i ≡ xs ++ mark_key lv ys (i - length xs)
unfolding mark_key
mark_right lv [] ys i h = let e : i - 0 ≡ i = omega arith in rw e refl
mark_right lv (x ∷ xs) ys zero h = absurd (omega (arith, h))
mark_right lv (x ∷ xs) ys (suc i) h =
    let e : suc i - suc (length xs) ≡ i - length xs = omega arith in
    rw e (ap (λ z. x ∷ z) (mark_right lv xs ys i (omega (arith, h))))

mark_moved : (d n : ℕ) (lv : List ℕ) (es : List Entry) (i : ℕ)
    → mark_key lv (map (moved_entry d n) es) i ≡ map (moved_entry d n) (mark_key lv es i)
unfolding mark_key
mark_moved d n lv [] i = refl
mark_moved d n lv (e ∷ es) zero = refl
mark_moved d n lv (e ∷ es) (suc i) = ap (λ z. moved_entry d n e ∷ z) (mark_moved d n lv es i)

-- what each of the entries carries is the same
abbrev pub AllSay : yaml_encoding_t → List ℕ → List ℕ → ℕ → ℕ → List Entry → Type 0
AllSay x t u d n [] = Unit {0}
AllSay x t u d n (e ∷ es) =
    (body_in (record { encoding = x; text = u }) (moved_lexeme d n e.lexeme) ≡ body_in (record { encoding = x; text = t }) e.lexeme)
    × AllSay x t u d n es

pub say_mark : (x : yaml_encoding_t) (t u : List ℕ) (d n : ℕ) (lv : List ℕ) (es : List Entry)
    (i : ℕ)
    → AllSay x t u d n es → AllSay x t u d n (mark_key lv es i)
unfolding mark_key
say_mark x t u d n lv [] i s = tt
say_mark x t u d n lv (e ∷ es) zero s = s
say_mark x t u d n lv (e ∷ es) (suc i) s = (s.0, say_mark x t u d n lv es i s.1)

pub say_push : (x : yaml_encoding_t) (t u : List ℕ) (d n : ℕ) (es : List Entry) (e : Entry)
    → AllSay x t u d n es
    → body_in (record { encoding = x; text = u }) (moved_lexeme d n e.lexeme) ≡ body_in (record { encoding = x; text = t }) e.lexeme
    → AllSay x t u d n (es ++ e ∷ [])
say_push x t u d n [] e s h = (h, tt)
say_push x t u d n (y ∷ es) e s h = (s.0, say_push x t u d n es e s.1 h)

-- The entries of lexemes on a base: those of the base, and others, which in the other text are moved.
pub record Entered (d n : ℕ) (h b c : List Lexeme) : Type 0 where
  pub more : List Entry
  pub mine : finished_tokens (h ++ b) ≡ finished_tokens b ++ more
  pub others : finished_tokens (moved_lexemes d n h ++ c)
      ≡ finished_tokens c ++ map (moved_entry d n) more
  pub say : (x : yaml_encoding_t) (t u : List ℕ) → AllCarry x t u d n h → AllSay x t u d n more

keyed_on : (d n k : ℕ) (l : Lexeme) (h b c : List Lexeme) → Bases d n k b c → (es : List Entry)
    → (o : Option Candidate) → found_by l (h ++ b) ≡ o
    → (more : List Entry)
    × (marked o (inside l (h ++ b)) (finished_tokens b ++ es) ≡ finished_tokens b ++ more)
    × (marked (moved_found d n k o) (inside l (h ++ b)) (finished_tokens c ++ map (moved_entry d n) es) ≡ finished_tokens c ++ map (moved_entry d n) more)
    × ((x : yaml_encoding_t) (t u : List ℕ) → AllSay x t u d n es → AllSay x t u d n more)
keyed_on d n k l h b c s es None e = (es, refl, refl, λ x t u y. y)
keyed_on d n k l h b c s es (Some f) e =
    let lv = inside l (h ++ b) in
    let high = above h b l.depth f s.mine (fresh_is (candidate l.depth (h ++ b)) l.start f e) in
    let long : length (finished_tokens b) ≡ length b = length-entries b in
    let wide : length (finished_tokens c) ≡ length c = length-entries c in
    let i = f.number - length (finished_tokens b) in
    let same : k + f.number - length (finished_tokens c) ≡ i = omega (arith, s.count, long, wide) in (
      mark_key lv es i,
      mark_right lv (finished_tokens b) es f.number (omega (arith, high, long)),
      mark_right lv (finished_tokens c) (map (moved_entry d n) es) (k + f.number) (omega (arith, high, long, wide, s.count))
          ∙ ap (λ z. finished_tokens c ++ mark_key lv (map (moved_entry d n) es) z) same
          ∙ ap (λ z. finished_tokens c ++ z) (mark_moved d n lv es i),
      λ x t u y. say_mark x t u d n lv es i y,
    )

keyed_same : (d n k : ℕ) (l : Lexeme) (h b c : List Lexeme) → Bases d n k b c → (es : List Entry)
    → (more : List Entry)
    × (keyed l (h ++ b) (finished_tokens b ++ es) ≡ finished_tokens b ++ more)
    × (keyed (moved_lexeme d n l) (moved_lexemes d n h ++ c) (finished_tokens c ++ map (moved_entry d n) es) ≡ finished_tokens c ++ map (moved_entry d n) more)
    × ((x : yaml_encoding_t) (t u : List ℕ) → AllSay x t u d n es → AllSay x t u d n more)
keyed_same d n k l h b c s es =
    elim (cases_Bool (is_value l.kind)) [
      | inr v ↦ (es, off v (marked (found_by l (h ++ b)) (inside l (h ++ b)) (finished_tokens b ++ es)) (finished_tokens b ++ es), off v (marked (found_by (moved_lexeme d n l) (moved_lexemes d n h ++ c)) (inside (moved_lexeme d n l) (moved_lexemes d n h ++ c)) (finished_tokens c ++ map (moved_entry d n) es)) (finished_tokens c ++ map (moved_entry d n) es), λ x t u y. y)
      | inl v ↦
          let (more, mine, others, say) = keyed_on d n k l h b c s es (found_by l (h ++ b)) refl in
          let ys = finished_tokens c ++ map (moved_entry d n) es in (
            more,
            on v _ (finished_tokens b ++ es) ∙ mine,
            on v _ ys ∙ ap (λ o. marked o (inside (moved_lexeme d n l) (moved_lexemes d n h ++ c)) ys) (found_on d n k l h b c s)
                ∙ ap (λ z. marked (moved_found d n k (found_by l (h ++ b))) z ys) (inside_on d n k l h b c s) ∙ others,
            say,
          )
    ]
  where
    on : is_value l.kind ≡ true → (xs ys : List Entry) → (if is_value l.kind then xs else ys) ≡ xs
    on v xs ys = rw v refl

    off : is_value l.kind ≡ false → (xs ys : List Entry) → (if is_value l.kind then xs else ys) ≡ ys
    off v xs ys = rw v refl

pub entered : (d n k : ℕ) (h b c : List Lexeme) → Bases d n k b c → Entered d n h b c
unfolding finished_tokens
entered d n k [] b c s = record {
  more = [];
  mine = sym (append-nil (finished_tokens b));
  others = sym (append-nil (finished_tokens c));
  say = λ x t u y. tt;
}
entered d n k (l ∷ h) b c s =
    let before = entered d n k h b c s in
    let (more, mine, others, say) = keyed_same d n k l h b c s before.more in
    let e = entry_of l (h ++ b) in
    record {
      more = more ++ e ∷ [];
      mine = ap (λ z. keyed l (h ++ b) z ++ e ∷ []) before.mine ∙ ap (λ z. z ++ e ∷ []) mine ∙ append_assoc (finished_tokens b) more (e ∷ []);
      others = ap (λ z. keyed (moved_lexeme d n l) (moved_lexemes d n h ++ c) z ++ entry_of (moved_lexeme d n l) (moved_lexemes d n h ++ c) ∷ []) before.others
          ∙ ap (λ z. z ++ entry_of (moved_lexeme d n l) (moved_lexemes d n h ++ c) ∷ []) others
          ∙ ap (λ z. (finished_tokens c ++ map (moved_entry d n) more) ++ z ∷ []) (entry_on d n k l h b c s)
          ∙ append_assoc (finished_tokens c) (map (moved_entry d n) more) (moved_entry d n e ∷ [])
          ∙ ap (λ z. finished_tokens c ++ z) (sym (map-append (moved_entry d n) more (e ∷ [])));
      say = λ x t u y. say_push x t u d n more e (say x t u (before.say x t u y.1)) y.0;
    }

-- ---- the earliest open candidate

none_open : (all h : List Lexeme)
    → ((e : ℕ) (c : Candidate) → candidate e all ≡ Some c → length h ≤ c.number)
    → first_open all h ≡ length h
unfolding first_open
none_open all [] high = refl
none_open all (l ∷ h) high =
    let before = none_open all h (λ e c is. let up = high e c is in omega (arith, up)) in
    let shut : has_number (open_at l.depth all) (length h) ≡ false = none_there (open_at l.depth all) refl in
    rw (before, shut, le-ltb (length h) (length h) (omega arith)) refl
  where
    none_there : (o : Option Candidate) → open_at l.depth all ≡ o → has_number o (length h) ≡ false
    none_there None is = refl
    none_there (Some c) is = ne_eqb c.number (length h) (omega (arith, high l.depth c (fresh_is (candidate l.depth all) (reached all) c is)))

number_moved : (d n k : ℕ) (o : Option Candidate) (m : ℕ)
    → has_number (moved_found d n k o) (k + m) ≡ has_number o m
number_moved d n k o m = grind (arith, nat_tests)

first_moved : (k first n : ℕ) (is_open : Bool)
    → first_or (k + first) is_open (k + n) ≡ k + first_or first is_open n
first_moved k first n is_open = grind (arith, nat_tests)

open_on : (d n k e : ℕ) (h b c : List Lexeme) → Bases d n k b c
    → open_at e (moved_lexemes d n h ++ c) ≡ moved_found d n k (open_at e (h ++ b))
open_on d n k e [] b c s = rw (s.mine e, s.others e) refl
open_on d n k e (l ∷ h) b c s =
    ap (λ o. fresh o (reached (moved_lexemes d n (l ∷ h) ++ c))) (candidate_on d n k e (l ∷ h) b c s)
    ∙ fresh_moved d n k (candidate e (l ∷ h ++ b)) (reached (l ∷ h ++ b))

-- of the lexemes g, seen from all of them, h
first_on : (d n k : ℕ) (g h b c : List Lexeme) → Bases d n k b c
    → first_open (moved_lexemes d n h ++ c) (moved_lexemes d n g ++ c)
    ≡ k + first_open (h ++ b) (g ++ b)
unfolding first_open
first_on d n k [] h b c s =
    none_open (moved_lexemes d n h ++ c) c (λ e f is. let up = others e f is in omega (arith, up, s.count)) ∙ s.count
    ∙ ap (λ z. k + z) (sym (none_open (h ++ b) b (λ e f is. above h b e f s.mine is)))
  where
    lower : (e : ℕ) (f : Candidate) (o : Option Candidate) → candidate e (h ++ b) ≡ o
        → moved_found d n k o ≡ Some f → k + length b ≤ f.number
    lower e f None is same = absurd (none-some _ same)
    lower e f (Some g) is same =
        let it : moved_candidate d n k g ≡ f = same_Some _ _ same in
        omega (arith, above h b e g s.mine is, ap (λ (x : Candidate). x.number) it)

    others : (e : ℕ) (f : Candidate) → candidate e (moved_lexemes d n h ++ c) ≡ Some f → k + length b ≤ f.number
    others e f is = lower e f (candidate e (h ++ b)) refl (sym (candidate_on d n k e h b c s) ∙ is)
first_on d n k (l ∷ g) h b c s =
    let before = first_on d n k g h b c s in
    let long = length_on d n k g b c s in
    let shut = ap (λ o. has_number o (length (moved_lexemes d n g ++ c))) (open_on d n k l.depth h b c s)
    ∙ ap (has_number (moved_found d n k (open_at l.depth (h ++ b)))) long
    ∙ number_moved d n k (open_at l.depth (h ++ b)) (length (g ++ b)) in
    ap (λ z. first_or z (has_number (open_at l.depth (moved_lexemes d n h ++ c)) (length (moved_lexemes d n g ++ c))) (length (moved_lexemes d n g ++ c))) before
    ∙ ap (λ z. first_or (k + first_open (h ++ b) (g ++ b)) z (length (moved_lexemes d n g ++ c))) shut
    ∙ ap (first_or (k + first_open (h ++ b) (g ++ b)) (has_number (open_at l.depth (h ++ b)) (length (g ++ b)))) long
    ∙ first_moved k (first_open (h ++ b) (g ++ b)) (length (g ++ b)) (has_number (open_at l.depth (h ++ b)) (length (g ++ b)))

pub first_open_on : (d n k : ℕ) (h b c : List Lexeme) → Bases d n k b c
    → first_open (moved_lexemes d n h ++ c) (moved_lexemes d n h ++ c) ≡ k + first_open (h ++ b) (h ++ b)
first_open_on d n k h b c s = first_on d n k h h b c s

first_high : (d n k : ℕ) (g h b c : List Lexeme) → Bases d n k b c
    → length b ≤ first_open (h ++ b) (g ++ b)
unfolding first_open
first_high d n k [] h b c s = grind (arith, nat_tests, none_open, above)
first_high d n k (l ∷ g) h b c s = grind (arith, nat_tests, first_open-le, first_high d n k g h b c s)

pub first_above : (d n k : ℕ) (h b c : List Lexeme) → Bases d n k b c
    → length b ≤ first_open (h ++ b) (h ++ b)
first_above d n k h b c s = first_high d n k h h b c s

-- ---- the tokens of an entry

map_replicate : {A B : Type 0} (f : A → B) (n : ℕ) (y : A)
    → map f (replicate n y) ≡ replicate n (f y)
map_replicate f zero y = refl
map_replicate f (suc n) y = ap (λ z. f y ∷ z) (map_replicate f n y)

starts_moved : (d n : ℕ) (o : Opens) (l : Lexeme)
    → start_tokens o (moved_lexeme d n l) ≡ map (moved_token d n) (start_tokens o l)
starts_moved d n o l = grind (arith, nat_tests)

own_moved : (d n : ℕ) (s v : SpelledText) (e : Entry)
    → body_in v (moved_lexeme d n e.lexeme) ≡ body_in s e.lexeme
    → own_tokens v (moved_entry d n e) ≡ map (moved_token d n) (own_tokens s e)
own_moved d n s v e h = grind (arith, nat_tests)

spell_moved : (d n : ℕ) (s v : SpelledText) (e : Entry)
    → body_in v (moved_lexeme d n e.lexeme) ≡ body_in s e.lexeme
    → spell v (moved_entry d n e) ≡ map (moved_token d n) (spell s e)
spell_moved d n s v e h = grind (arith, nat_tests, map_replicate, starts_moved, own_moved, map-append)

pub spells_moved : (d n : ℕ) (x : yaml_encoding_t) (t u : List ℕ) (es : List Entry)
    → AllSay x t u d n es
    → flat_map (spell (record { encoding = x; text = u })) (map (moved_entry d n) es)
    ≡ map (moved_token d n) (flat_map (spell (record { encoding = x; text = t })) es)
spells_moved d n x t u [] h = refl
spells_moved d n x t u (e ∷ es) h = grind (arith, nat_tests, spell_moved, map-append, spells_moved d n x t u es h.1)

-- ---- the front of a list of entries

say_take : (x : yaml_encoding_t) (t u : List ℕ) (d n i : ℕ) (es : List Entry) → AllSay x t u d n es
    → AllSay x t u d n (take i es)
say_take x t u d n zero es h = tt
say_take x t u d n (suc i) [] h = tt
say_take x t u d n (suc i) (e ∷ es) h = (h.0, say_take x t u d n i es h.1)

fronts_moved : (d n : ℕ) (es : List Entry)
    → front_ends (map (moved_entry d n) es) ≡ map (moved_token d n) (front_ends es)
fronts_moved d n es = grind (arith, nat_tests, map_replicate)

-- ---- tokens by what comes next

abbrev pub told : SpelledText → Next → List Lexeme → List Token
told s y h = flat_map (spell s) (handed_out y h) ++ kept_of y h

pub offline_told : (s : SpelledText)
    → (offline s).tokens ≡ told s (next s.text (all s.text)) (all s.text)
unfolding remaining handed
offline_told s = refl

-- what is said of the lexemes on a base
pub record Parted (s v : SpelledText) (d n : ℕ) (y : Next) (h b c : List Lexeme) : Type 0 where
  pub behind : List Token
  pub mine : told s y (h ++ b) ≡ flat_map (spell s) (finished_tokens b) ++ behind
  pub others : told v (moved_next d n y) (moved_lexemes d n h ++ c)
      ≡ flat_map (spell v) (finished_tokens c) ++ map (moved_token d n) behind

whole_parts : (x : yaml_encoding_t) (t u : List ℕ) (d n k : ℕ) (h b c : List Lexeme)
    → Bases d n k b c
    → AllCarry x t u d n h
    → let s : SpelledText = record { encoding = x; text = t } in
    let v : SpelledText = record { encoding = x; text = u } in
    Parted s v d n Ends h b c
whole_parts x t u d n k h b c base carry =
    let s : SpelledText = record { encoding = x; text = t } in
    let v : SpelledText = record { encoding = x; text = u } in
    let es = entered d n k h b c base in
    let said = spells_moved d n x t u es.more (es.say x t u carry) in
    record {
      behind = flat_map (spell s) es.more;
      mine = append-nil (flat_map (spell s) (finished_tokens (h ++ b))) ∙ ap (flat_map (spell s)) es.mine ∙ flat_map-append (spell s) (finished_tokens b) es.more;
      others = append-nil (flat_map (spell v) (finished_tokens (moved_lexemes d n h ++ c))) ∙ ap (flat_map (spell v)) es.others ∙ flat_map-append (spell v) (finished_tokens c) (map (moved_entry d n) es.more)
          ∙ ap (λ z. flat_map (spell v) (finished_tokens c) ++ z) said;
    }

failed_parts : (x : yaml_encoding_t) (t u : List ℕ) (d n k : ℕ) (p : ScanFault)
    (h b c : List Lexeme)
    → Bases d n k b c → AllCarry x t u d n h
    → let s : SpelledText = record { encoding = x; text = t } in
    let v : SpelledText = record { encoding = x; text = u } in
    Parted s v d n (Fails p) h b c
failed_parts x t u d n k p h b c base carry =
    let s : SpelledText = record { encoding = x; text = t } in
    let v : SpelledText = record { encoding = x; text = u } in
    let es = entered d n k h b c base in
    let high = first_above d n k h b c base in
    let moved = first_open_on d n k h b c base in
    let i = first_open (h ++ b) (h ++ b) - length b in
    let short : first_open (h ++ b) (h ++ b) ≡ length (finished_tokens b) + i = omega (arith, high, length-entries b) in
    let long : first_open (moved_lexemes d n h ++ c) (moved_lexemes d n h ++ c) ≡ length (finished_tokens c) + i = omega (arith, high, moved, base.count, length-entries c) in
    let f = moved_token d n in
    let took : take (first_open (h ++ b) (h ++ b)) (finished_tokens (h ++ b)) ≡ finished_tokens b ++ take i es.more =
    ap (λ z. take z (finished_tokens (h ++ b))) short ∙ ap (take (length (finished_tokens b) + i)) es.mine ∙ take-append-add (finished_tokens b) es.more i in
    let left : drop (first_open (h ++ b) (h ++ b)) (finished_tokens (h ++ b)) ≡ drop i es.more =
    ap (λ z. drop z (finished_tokens (h ++ b))) short ∙ ap (drop (length (finished_tokens b) + i)) es.mine ∙ drop-append-add (finished_tokens b) es.more i in
    let took_there : take (first_open (moved_lexemes d n h ++ c) (moved_lexemes d n h ++ c)) (finished_tokens (moved_lexemes d n h ++ c)) ≡ finished_tokens c ++ map (moved_entry d n) (take i es.more) =
    ap (λ z. take z (finished_tokens (moved_lexemes d n h ++ c))) long ∙ ap (take (length (finished_tokens c) + i)) es.others ∙ take-append-add (finished_tokens c) (map (moved_entry d n) es.more) i
    ∙ ap (λ z. finished_tokens c ++ z) (take-map (moved_entry d n) i es.more) in
    let left_there : drop (first_open (moved_lexemes d n h ++ c) (moved_lexemes d n h ++ c)) (finished_tokens (moved_lexemes d n h ++ c)) ≡ map (moved_entry d n) (drop i es.more) =
    ap (λ z. drop z (finished_tokens (moved_lexemes d n h ++ c))) long ∙ ap (drop (length (finished_tokens c) + i)) es.others ∙ drop-append-add (finished_tokens c) (map (moved_entry d n) es.more) i
    ∙ drop-map (moved_entry d n) i es.more in
    let said = spells_moved d n x t u (take i es.more) (say_take x t u d n i es.more (es.say x t u carry)) in
    let kept = front_ends (drop i es.more) in
    record {
      behind = flat_map (spell s) (take i es.more) ++ kept;
      mine = ap (λ z. flat_map (spell s) z ++ front_ends (drop (first_open (h ++ b) (h ++ b)) (finished_tokens (h ++ b)))) took
          ∙ ap (λ z. flat_map (spell s) (finished_tokens b ++ take i es.more) ++ front_ends z) left
          ∙ ap (λ z. z ++ kept) (flat_map-append (spell s) (finished_tokens b) (take i es.more))
          ∙ append_assoc (flat_map (spell s) (finished_tokens b)) (flat_map (spell s) (take i es.more)) kept;
      others = ap (λ z. flat_map (spell v) z ++ front_ends (drop (first_open (moved_lexemes d n h ++ c) (moved_lexemes d n h ++ c)) (finished_tokens (moved_lexemes d n h ++ c)))) took_there
          ∙ ap (λ z. flat_map (spell v) (finished_tokens c ++ map (moved_entry d n) (take i es.more)) ++ front_ends z) left_there
          ∙ ap (λ z. z ++ front_ends (map (moved_entry d n) (drop i es.more))) (flat_map-append (spell v) (finished_tokens c) (map (moved_entry d n) (take i es.more)))
          ∙ append_assoc (flat_map (spell v) (finished_tokens c)) (flat_map (spell v) (map (moved_entry d n) (take i es.more))) (front_ends (map (moved_entry d n) (drop i es.more)))
          ∙ ap (λ z. flat_map (spell v) (finished_tokens c) ++ (z ++ front_ends (map (moved_entry d n) (drop i es.more)))) said
          ∙ ap (λ z. flat_map (spell v) (finished_tokens c) ++ (map f (flat_map (spell s) (take i es.more)) ++ z)) (fronts_moved d n (drop i es.more))
          ∙ ap (λ z. flat_map (spell v) (finished_tokens c) ++ z) (sym (map-append f (flat_map (spell s) (take i es.more)) kept));
    }

pub parted : (x : yaml_encoding_t) (t u : List ℕ) (d n k : ℕ) (h b c : List Lexeme)
    → Bases d n k b c
    → AllCarry x t u d n h → (y : Next) → ((l : Lexeme) → y ≢ Read l)
    → let s : SpelledText = record { encoding = x; text = t } in
    let v : SpelledText = record { encoding = x; text = u } in
    Parted s v d n y h b c
parted x t u d n k h b c base carry (Read l) never = absurd (never l refl)
parted x t u d n k h b c base carry (Fails p) never = failed_parts x t u d n k p h b c base carry
parted x t u d n k h b c base carry Ends never = whole_parts x t u d n k h b c base carry
