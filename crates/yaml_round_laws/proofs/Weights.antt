-- What tokens weigh, by any weight of which no end has one, is paid by the lexemes of a text, where each pays for its own.
use Rattle.std.proofs.Common.{◌≡◌, ℕ, zero, suc, ◌+◌, ◌<◌, ◌≤◌, ◌⊎◌, Bool, true, false, not, ◌&&◌, if◌then◌else◌, List, [], ◌∷◌, ◌++◌, length, take, drop, Option, Some, refl, sym, ap, ◌∙◌, arith, inl, inr, le_refl}
use Rattle.yaml_round_laws.proofs.SizesWords.{nat_tests, cases_Bool, lt-ltb, eqb-true, replicate, flat_map, Fault, Token, TokenBody, Kind, Lexeme, Opens, is_value, is_start, Candidate, candidate, finished_tokens, mark_key, marked, keyed, found_by, inside, entry_of, as_key, margin_at, start_of, level_of, opens_of, has, Next, SpelledText, body_in, start_tokens, own_tokens, all, handed_out, handed, front_ends, kept_of, remaining, offline, cut}
use Rattle.yaml_scan_history.specs.scan_types.Tokens as token
use Rattle.yaml_scan_history.specs.declared.kind.Kind.TheVariants as kinds
use Rattle.yaml_scan_history.specs.declared.lexeme.Entry.{Entry}
use Rattle.yaml_scan_history.specs.declared.lexeme.Opens.TheVariants as opening
use Rattle.yaml_scan_history.specs.Remaining.{before, spell}
use Rattle.yaml_scan_history.proofs.HistoryLemmas.{candidate-more, candidate_below, length-keyed, length-entries, fresh_is}

abbrev pub Weight : Type 0
Weight = TokenBody → ℕ

abbrev pub weigh : Weight → List Token → ℕ
weigh w [] = 0
weigh w (t ∷ ts) = w t.body + weigh w ts

pub weigh_append : (w : Weight) (xs ys : List Token) → weigh w (xs ++ ys) ≡ weigh w xs + weigh w ys
weigh_append w [] ys = omega arith
weigh_append w (x ∷ xs) ys = omega (arith, weigh_append w xs ys)

-- an end weighs nothing
abbrev pub EndsAreFree : Weight → Type 0
EndsAreFree w = w token.block_end ≡ 0

-- ---- one lexeme

abbrev pub start_weight : Weight → Opens → ℕ
start_weight w opening.Nothing = 0
start_weight w opening.Sequence = w token.block_sequence_start
start_weight w opening.Mapping = w token.block_mapping_start

abbrev pub key_weight : Weight → Bool → ℕ
key_weight w true = w token.key
key_weight w false = 0

ends_weigh : (w : Weight) → EndsAreFree w → (n : ℕ) (l : Lexeme)
    → weigh w (replicate n (before token.block_end l)) ≡ 0
ends_weigh w free zero l = refl
ends_weigh w free (suc n) l = omega (arith, free, ends_weigh w free n l)

starts_weigh : (w : Weight) (o : Opens) (l : Lexeme) → weigh w (start_tokens o l) ≡ start_weight w o
starts_weigh w o l = grind (arith, nat_tests)

own_weigh : (w : Weight) (s : SpelledText) (e : Entry)
    → weigh w (own_tokens s e) ≡ key_weight w e.key + w (body_in s e.lexeme)
own_weigh w s e = grind (arith, nat_tests, cases_Bool)

spell_weigh : (w : Weight) → EndsAreFree w → (s : SpelledText) (e : Entry)
    → weigh w (spell s e) ≡ start_weight w e.opens + key_weight w e.key + w (body_in s e.lexeme)
spell_weigh w free s e = grind (arith, nat_tests, weigh_append, ends_weigh, starts_weigh, own_weigh)

-- ---- lexemes

abbrev total : Weight → SpelledText → List Entry → ℕ
total w s es = weigh w (flat_map (spell s) es)

total_of : (w : Weight) (s : SpelledText) (e : Entry) (es : List Entry)
    → total w s (e ∷ es) ≡ weigh w (spell s e) + total w s es
total_of w s e es = weigh_append w (spell s e) (flat_map (spell s) es)

total_append : (w : Weight) (s : SpelledText) (xs ys : List Entry)
    → total w s (xs ++ ys) ≡ total w s xs + total w s ys
total_append w s [] ys = omega arith
total_append w s (x ∷ xs) ys = omega (arith, total_of w s x xs, total_of w s x (xs ++ ys), total_append w s xs ys)

-- a mapping opens outside of brackets alone
abbrev pub outer : ℕ → ℕ → ℕ
outer zero n = n
outer (suc d) n = 0

abbrev pub opened : Weight → ℕ → ℕ
opened w d = outer d (w token.block_mapping_start)

pub mapping_most : (w : Weight) (d margin : ℕ) (levels : List ℕ)
    → start_weight w (start_of d margin levels opening.Mapping) ≤ opened w d
mapping_most w d margin levels = grind (arith, nat_tests, cases_Bool, le_refl, lt-ltb)

-- the depth of an entry's lexeme
abbrev depth_at : List Entry → ℕ → ℕ
depth_at [] n = 0
depth_at (e ∷ es) zero = e.lexeme.depth
depth_at (e ∷ es) (suc n) = depth_at es n

mark_depth : (levels : List ℕ) (es : List Entry) (k n : ℕ)
    → depth_at (mark_key levels es k) n ≡ depth_at es n
unfolding mark_key
mark_depth levels [] k n = refl
mark_depth levels (e ∷ es) zero zero = refl
mark_depth levels (e ∷ es) zero (suc n) = refl
mark_depth levels (e ∷ es) (suc k) zero = refl
mark_depth levels (e ∷ es) (suc k) (suc n) = mark_depth levels es k n

marked_depth : (c : Option Candidate) (levels : List ℕ) (es : List Entry) (n : ℕ)
    → depth_at (marked c levels es) n ≡ depth_at es n
marked_depth c levels es n = grind (arith, nat_tests, mark_depth)

keyed_depth : (l : Lexeme) (h : List Lexeme) (es : List Entry) (n : ℕ)
    → depth_at (keyed l h es) n ≡ depth_at es n
keyed_depth l h es n = grind (arith, nat_tests, cases_Bool, marked_depth)

last_depth : (es : List Entry) (e : Entry) → depth_at (es ++ e ∷ []) (length es) ≡ e.lexeme.depth
last_depth [] e = refl
last_depth (x ∷ es) e = last_depth es e

front_depth : (es fs : List Entry) (n : ℕ) → n < length es → depth_at (es ++ fs) n ≡ depth_at es n
front_depth [] fs n w = absurd (omega arith)
front_depth (x ∷ es) fs zero w = refl
front_depth (x ∷ es) fs (suc n) w = front_depth es fs n (omega arith)

-- the newest lexeme is a depth's candidate only where it is there
newest_depth : (d : ℕ) (l : Lexeme) (h : List Lexeme) (c : Candidate) → candidate d (l ∷ h) ≡ Some c
    → (l.depth ≡ d) ⊎ (candidate d h ≡ Some c)
unfolding candidate
newest_depth d l h c e = grind (arith, nat_tests, cases_Bool, eqb-true)

front_of : (l : Lexeme) (h : List Lexeme) (n : ℕ) → n < length h
    → depth_at (finished_tokens (l ∷ h)) n ≡ depth_at (finished_tokens h) n
unfolding finished_tokens
front_of l h n w =
    let long = length-keyed l h (finished_tokens h) in
    let all_of = length-entries h in
    front_depth (keyed l h (finished_tokens h)) (entry_of l h ∷ []) n (omega (arith, long, all_of)) ∙ keyed_depth l h (finished_tokens h) n

last_of : (l : Lexeme) (h : List Lexeme) → depth_at (finished_tokens (l ∷ h)) (length h) ≡ l.depth
unfolding finished_tokens
last_of l h =
    let e : length (keyed l h (finished_tokens h)) ≡ length h = length-keyed l h (finished_tokens h) ∙ length-entries h in
    ap (depth_at (keyed l h (finished_tokens h) ++ entry_of l h ∷ [])) (sym e) ∙ last_depth (keyed l h (finished_tokens h)) (entry_of l h)

candidate_depth : (d : ℕ) (h : List Lexeme) (c : Candidate) → candidate d h ≡ Some c
    → depth_at (finished_tokens h) c.number ≡ d
unfolding candidate
candidate_depth d [] c e = cc
candidate_depth d (l ∷ h) c e =
    elim (newest_depth d l h c e) [
      | inr old ↦ front_of l h c.number (candidate_below d h c old) ∙ candidate_depth d h c old
      | inl here ↦ elim (candidate-more d l h c e) [
        | inl number ↦ ap (depth_at (finished_tokens (l ∷ h))) number ∙ (last_of l h ∙ here)
        | inr old ↦ front_of l h c.number (candidate_below d h c old) ∙ candidate_depth d h c old
      ]
    ]

-- a key is one token more, and may open a level
mark_most : (w : Weight) → EndsAreFree w
    → (s : SpelledText) (levels : List ℕ) (es : List Entry) (n : ℕ)
    → total w s (mark_key levels es n) ≤ total w s es + (w token.key + opened w (depth_at es n))
unfolding mark_key
mark_most w free s levels [] n = omega arith
mark_most w free s levels (e ∷ es) zero =
    let a : weigh w (spell s (as_key levels e)) ≡ start_weight w (start_of e.lexeme.depth (margin_at e.lexeme.start.column) levels opening.Mapping) + w token.key + w (body_in s e.lexeme) = spell_weigh w free s (as_key levels e) in
    let o = mapping_most w e.lexeme.depth (margin_at e.lexeme.start.column) levels in
    omega (arith, total_of w s (as_key levels e) es, total_of w s e es, a, o, spell_weigh w free s e)
mark_most w free s levels (e ∷ es) (suc n) = omega (arith, total_of w s e (mark_key levels es n), total_of w s e es, mark_most w free s levels es n)

-- what a `:` adds at the candidate that it takes
abbrev pub taken : Weight → Kind → Bool → ℕ → ℕ
taken w k found d = if is_value k && found then w token.key + opened w d else 0

marked_most : (w : Weight) → EndsAreFree w
    → (s : SpelledText) (o : Option Candidate) (levels : List ℕ) (es : List Entry) (d : ℕ)
    → ((c : Candidate) → o ≡ Some c → depth_at es c.number ≡ d)
    → total w s (marked o levels es) ≤ total w s es + taken w kinds.ValueMark (has o) d
marked_most w free s o levels es d at = grind (arith, nat_tests, mark_most)

-- what a lexeme opens, by its kind and depth, and whether it finds a candidate
abbrev pub opens_by : Kind → ℕ → ℕ → Bool → List ℕ → Opens
opens_by k d margin found levels =
    if not (is_start k) then opening.Nothing
    else if is_value k && found then opening.Nothing
    else start_of d margin levels (level_of k)

-- all that comes of a lexeme: the level that it opens, its own token, and the key that a `:` makes
abbrev pub comes_of : Weight → SpelledText → Lexeme → ℕ → Bool → List ℕ → ℕ
comes_of w s l margin found levels = start_weight w (opens_by l.kind l.depth margin found levels) + w (body_in s l) + taken w l.kind found l.depth

-- each lexeme pays so much for it
abbrev pub ArePaid : Weight → SpelledText → (Lexeme → ℕ) → List Lexeme → Type 0
ArePaid w s price [] = Unit {0}
ArePaid w s price (l ∷ h) = ((margin : ℕ) (found : Bool) (levels : List ℕ) → comes_of w s l margin found levels ≤ price l) × ArePaid w s price h

abbrev pub prices : (Lexeme → ℕ) → List Lexeme → ℕ
prices price [] = 0
prices price (l ∷ h) = price l + prices price h

entry_most : (w : Weight) → EndsAreFree w
    → (s : SpelledText) (price : Lexeme → ℕ) (l : Lexeme) (h : List Lexeme)
    → ArePaid w s price (l ∷ h)
    → total w s (entry_of l h ∷ []) + taken w l.kind (has (found_by l h)) l.depth ≤ price l
entry_most w free s price l h paid =
    let a : weigh w (spell s (entry_of l h)) ≡ start_weight w (opens_of (found_by l h) l (inside l h)) + 0 + w (body_in s l) = spell_weigh w free s (entry_of l h) in
    let p : start_weight w (opens_of (found_by l h) l (inside l h)) + w (body_in s l) + taken w l.kind (has (found_by l h)) l.depth ≤ price l = paid.0 (margin_at l.start.column) (has (found_by l h)) (inside l h) in
    omega (arith, total_of w s (entry_of l h) [], a, p)

value_is : (w : Weight) (k : Kind) (b : Bool) (d : ℕ) → is_value k ≡ true
    → taken w k b d ≡ taken w kinds.ValueMark b d
value_is w k b d e = rw e refl

entries_few : (w : Weight) → EndsAreFree w
    → (s : SpelledText) (price : Lexeme → ℕ) (h : List Lexeme) → ArePaid w s price h
    → total w s (finished_tokens h) ≤ prices price h
unfolding finished_tokens
entries_few w free s price [] paid = omega arith
entries_few w free s price (l ∷ h) paid = grind (arith, nat_tests, entry_most, total_append, cases_Bool, value_is, marked_most, candidate_depth, fresh_is, le_refl, entries_few w free s price h paid.1)

take_most : (w : Weight) (s : SpelledText) (n : ℕ) (es : List Entry)
    → total w s (take n es) ≤ total w s es
take_most w s zero es = omega arith
take_most w s (suc n) [] = omega arith
take_most w s (suc n) (e ∷ es) = omega (arith, total_of w s e (take n es), total_of w s e es, take_most w s n es)

drops_most : (w : Weight) (s : SpelledText) (n : ℕ) (es : List Entry)
    → total w s (drop n es) ≤ total w s es
drops_most w s zero es = le_refl _
drops_most w s (suc n) [] = le_refl _
drops_most w s (suc n) (e ∷ es) = omega (arith, total_of w s e es, drops_most w s n es)

drop_most : (w : Weight) (n : ℕ) (ts : List Token) → weigh w (drop n ts) ≤ weigh w ts
drop_most w zero ts = le_refl _
drop_most w (suc n) [] = le_refl _
drop_most w (suc n) (t ∷ ts) = omega (arith, drop_most w n ts)

handed_most : (w : Weight) (s : SpelledText) (x : Next) (h : List Lexeme)
    → total w s (handed_out x h) ≤ total w s (finished_tokens h)
handed_most w s x h = grind (arith, nat_tests, take_most, le_refl)

front_weigh : (w : Weight) → EndsAreFree w → (es : List Entry) → weigh w (front_ends es) ≡ 0
front_weigh w free es = grind (arith, nat_tests, ends_weigh)

kept_weigh : (w : Weight) → EndsAreFree w → (x : Next) (h : List Lexeme) → weigh w (kept_of x h) ≡ 0
kept_weigh w free x h = grind (arith, nat_tests, front_weigh)

-- ---- the text

pub tokens_weigh : (w : Weight) → EndsAreFree w → (s : SpelledText) (price : Lexeme → ℕ)
    → ArePaid w s price (all s.text) → weigh w (offline s).tokens ≤ prices price (all s.text)
unfolding remaining handed
tokens_weigh w free s price paid = grind (arith, nat_tests, drop_most, weigh_append, drops_most, handed_most, entries_few, kept_weigh)

pub cut_weighs : (w : Weight) (f : Option Fault) (ts : List Token)
    → weigh w (cut f ts).tokens ≤ weigh w ts
cut_weighs w f [] = omega arith
cut_weighs w f (t ∷ ts) = grind (arith, nat_tests, cases_Bool, cut_weighs w f ts)
