-- The lexemes of the rest are the last ones of the whole, moved.
use Rattle.std.proofs.Common.{◌≡◌, ℕ, zero, suc, ◌+◌, ◌-◌, ◌<◌, ◌≤◌, nat_lt, true, false, List, [], ◌∷◌, ◌++◌, length, Some, None, Result, refl, sym, ap, subst, ◌∙◌, inl, inr, ◌⊎◌, ◌≢◌, arith}
use Rattle.yaml_scan_laws.proofs.Shared.{nat_tests, cases_Bool, yaml_encoding_t, TokenBody, byte, line_at, mark_at, Wrong, Kind, Lexeme, is_end, cancels, reached, in_flow, candidate, has, found_by, open_levels, key_allowed, WordText, kind_at, lexeme_at, Next, Read, Fails, Ends, first_lexeme, gap_behind, kind_behind, begun_behind, word_behind, lexeme_behind, coming, next, extended, step, history, SpelledText, body_of_word, body_by, body_in, all, gap_place, Stands, history_stands, not_ended, all_ends, stays_all, last_is_all, Alike, IsCut, moved_mark, moved_lexeme, moved_next, ne_eqb, lt-ltb, stale_before}
use Rattle.yaml_scan_laws.proofs.Bytes.{IsQuiet}
use Rattle.yaml_scan_laws.proofs.Gaps.{quiet_gap, moved_by}
use Rattle.yaml_scan_laws.proofs.Quotes.{end_no_mark}
use Rattle.yaml_scan_laws.proofs.CutsWords.{moved_word}
use Rattle.yaml_scan_laws.proofs.Cutting.{first_mark, rest_columns, rest_lines, rest_alike, rest_end}
use Rattle.yaml_scan_laws.proofs.Histories.{Bases, moved_lexemes}
use Rattle.yaml_scan_laws.proofs.Coming.{Pair, abreast, pair_on, Said, lexeme_there}
use Rattle.yaml_scan_laws.proofs.Fronts.{rest_said, rest_comes, HasRead, has_read, read_kind, kept, next_open, next_over, history_more}
use Rattle.yaml_scan_laws.proofs.Turning.{IsMark, mark_lexeme, mark_reads, none_left, MarkStands}

-- ---- what lexemes carry

pub body_same : (k : Kind) (s v : SpelledText) (l y : Lexeme) → s.encoding ≡ v.encoding
    → body_of_word (lexeme_at k (nat_lt 0 l.depth) l.level s.text l.start.index)
    ≡ body_of_word (lexeme_at k (nat_lt 0 y.depth) y.level v.text y.start.index)
    → body_by k s l ≡ body_by k v y
body_same k s v l y e h = grind (arith, nat_tests)

start_index : (x : Kind) (t : List ℕ) (H : List Lexeme)
    → (begun_behind x t H).start.index ≡ (gap_behind t H).place
start_index x t H = grind arith

-- the word of a lexeme that is there
pub word_of : (x : Kind) (t : List ℕ) (H : List Lexeme) (l : Lexeme) → lexeme_behind x t H ≡ l
    → lexeme_at x (nat_lt 0 l.depth) l.level t l.start.index ≡ word_behind x t H
word_of x t H l e = grind (arith, kept, start_index)

same_word : (d : ℕ) (r : Result WordText Wrong)
    → body_of_word (moved_by (moved_word d) d r) ≡ body_of_word r
same_word d r = grind (arith, nat_tests)

-- what is read carries the same in both texts
pub carries : (x : yaml_encoding_t) (t u : List ℕ) (d m n k : ℕ) (H G : List Lexeme)
    → Pair t u d m n k H G
    → (l : Lexeme) → (r : HasRead t H l)
    → Said t u d m n r.kind (word_behind r.kind t H) (word_behind r.kind u G)
    → body_in (record { encoding = x; text = u }) (moved_lexeme d n l)
    ≡ body_in (record { encoding = x; text = t }) l
carries x t u d m n k H G p l r said =
    let is = read_kind t H l r in
    let there : lexeme_behind r.kind u G ≡ moved_lexeme d n l = lexeme_there t u d m n k H G p r.kind said ∙ ap (moved_lexeme d n) r.clean.is in
    let mine = word_of r.kind t H l r.clean.is in
    let others = word_of r.kind u G (moved_lexeme d n l) there in
    let s : SpelledText = record { encoding = x; text = t } in
    let v : SpelledText = record { encoding = x; text = u } in
    ap (λ (y : Kind). body_by y v (moved_lexeme d n l)) is
    ∙ body_same r.kind v s (moved_lexeme d n l) l refl (ap body_of_word (others ∙ said.same) ∙ same_word d (word_behind r.kind t H) ∙ ap body_of_word (sym mine))
    ∙ ap (λ (y : Kind). body_by y s l) (sym is)

-- ---- the rest's beginning

quiet_mark : (b : ℕ) → (b ≡ 45) ⊎ (b ≡ 46) → IsQuiet b
quiet_mark b h1 = grind (arith, nat_tests)

first_gap : (a b : List ℕ) → IsCut a b → (gap_behind b (first_lexeme ∷ [])).place ≡ 0
unfolding candidate
first_gap a b cut = ap (λ (g : _). g.place) (quiet_gap (length b) false true b 0 (quiet_mark (byte b 0) (first_mark b cut.mark)))

abbrev pub rest_base : Kind → List ℕ → List Lexeme
rest_base K b = mark_lexeme K b 0 ∷ first_lexeme ∷ []

stale_first : (b : List ℕ) → stale_before b (first_lexeme ∷ []) ≡ None
unfolding candidate
stale_first b = refl

first_reads : (a b : List ℕ) → IsCut a b → (m : MarkStands b 0)
    → next b (first_lexeme ∷ []) ≡ Read (mark_lexeme m.kind b 0)
unfolding candidate
first_reads a b cut m =
    let at = first_gap a b cut in
    let stands : kind_behind b (first_lexeme ∷ []) ≡ Some m.kind = ap (kind_at false b) at ∙ m.stands false in
    next_open b first_lexeme [] refl ∙ ap (λ o. coming o b (first_lexeme ∷ [])) stands
    ∙ mark_reads m.kind m.body m.is b (first_lexeme ∷ []) 0 at refl (stale_first b) tt

pub rest_begins : (a b : List ℕ) → IsCut a b → (m : MarkStands b 0)
    → history b 2 ≡ rest_base m.kind b
unfolding history next
rest_begins a b cut m = ap (λ x. extended x (first_lexeme ∷ [])) (first_reads a b cut m)

-- ---- the rest's lexemes

pub rest_marks : (a b : List ℕ) → IsCut a b → (q : ℕ)
    → mark_at (a ++ b) (length a + q) ≡ moved_mark (length a) (line_at (a ++ b) (length a)) (mark_at b q)
rest_marks a b cut q = rw (rest_lines a b cut q, rest_columns a b cut q) refl

abbrev pub whole_base : Kind → List ℕ → List ℕ → List Lexeme → List Lexeme
whole_base K a b H = mark_lexeme K (a ++ b) (length a) ∷ H

-- a lexeme outside of brackets that cancels, and can be no key, leaves no candidate
pub no_candidates : (l : Lexeme) (H : List Lexeme) → l.depth ≡ 0 → l.saved ≡ false
    → cancels l.kind ≡ true → (e : ℕ) → candidate e (l ∷ H) ≡ None
unfolding candidate
no_candidates l H z s c e = grind (arith, nat_tests, ne_eqb, lt-ltb)

pub mark_candidate : (K : Kind) (body : TokenBody) → IsMark K body → (t : List ℕ) (p : ℕ)
    (H : List Lexeme) (e : ℕ) → candidate e (mark_lexeme K t p ∷ H) ≡ None
mark_candidate K body m t p H e = no_candidates (mark_lexeme K t p) H refl refl m.cancels e

pub mark_levels : (K : Kind) (body : TokenBody) → IsMark K body
    → (t : List ℕ) (p : ℕ) (H : List Lexeme)
    → open_levels (mark_lexeme K t p ∷ H) ≡ []
unfolding open_levels
mark_levels K body m t p H = rw (m.start, m.outside) (none_left H)

pub rest_bases : (a b : List ℕ) → IsCut a b → (m : MarkStands b 0) → (H : List Lexeme)
    → 0 < length H
    → Bases (length a) (line_at (a ++ b) (length a)) (length H - 1) (rest_base m.kind b) (whole_base m.kind a b H)
rest_bases a b cut m H some = record {
  depth = refl;
  mine = λ e. mark_candidate m.kind m.body m.is b 0 (first_lexeme ∷ []) e;
  others = λ e. mark_candidate m.kind m.body m.is (a ++ b) (length a) H e;
  levels = mark_levels m.kind m.body m.is (a ++ b) (length a) H ∙ sym (mark_levels m.kind m.body m.is b 0 (first_lexeme ∷ []));
  count = omega (arith, some);
}

-- The rest's lexemes B, and the whole's C, before alike ones.
pub record Ground (a b : List ℕ) (k : ℕ) (B C : List Lexeme) : Type 0 where
  pub alike : Alike b (a ++ b) (length a) (suc (length b))
  pub marks : (q : ℕ) → mark_at (a ++ b) (length a + q) ≡ moved_mark (length a) (line_at (a ++ b) (length a)) (mark_at b q)
  pub bases : Bases (length a) (line_at (a ++ b) (length a)) k B C
  pub pair : Pair b (a ++ b) (length a) (suc (length b)) (line_at (a ++ b) (length a)) k B C
  pub mine : next b B ≡ coming (kind_behind b B) b B
  pub others : next (a ++ b) C ≡ coming (kind_behind (a ++ b) C) (a ++ b) C

reached_in : (t : List ℕ) (H : List Lexeme) → Stands t H → (reached H).index ≤ length t
reached_in t H s = grind (arith, nat_tests)

-- after a mark
pub rest_ground : (a b : List ℕ) → IsCut a b → (m : MarkStands b 0) → (H : List Lexeme)
    → 0 < length H → Ground a b (length H - 1) (rest_base m.kind b) (whole_base m.kind a b H)
rest_ground a b cut m H some =
    let bases = rest_bases a b cut m H some in
    let inside = reached_in b (rest_base m.kind b) (subst (Stands b) (rest_begins a b cut m) (history_stands b 2)) in
    record {
      alike = rest_alike a b cut;
      marks = rest_marks a b cut;
      bases = bases;
      pair = abreast b (a ++ b) (length a) (suc (length b)) (line_at (a ++ b) (length a)) (length H - 1) (rest_base m.kind b) (whole_base m.kind a b H) record {
        alike = rest_alike a b cut;
        line = refl;
        same_depth = refl;
        same_place = rest_marks a b cut 3;
        same_allowed = rw (m.is.allows true (has (found_by (mark_lexeme m.kind (a ++ b) (length a)) H)), m.is.allows true (has (found_by (mark_lexeme m.kind b 0) (first_lexeme ∷ [])))) refl;
        same_levels = bases.levels;
        candidates = λ e. rw (bases.mine e, bases.others e) refl;
        count = bases.count;
        within = omega (arith, inside);
      };
      mine = next_open b (mark_lexeme m.kind b 0) (first_lexeme ∷ []) m.is.end;
      others = next_open (a ++ b) (mark_lexeme m.kind (a ++ b) (length a)) H m.is.end;
    }

rest_pair : (a b : List ℕ) (k : ℕ) (B C : List Lexeme) → Ground a b k B C → (h : List Lexeme)
    → Stands b (h ++ B)
    → Pair b (a ++ b) (length a) (suc (length b)) (line_at (a ++ b) (length a)) k (h ++ B)
    (moved_lexemes (length a) (line_at (a ++ b) (length a)) h ++ C)
rest_pair a b k B C g h s =
    let inside = reached_in b (h ++ B) s in
    pair_on b (a ++ b) (length a) (suc (length b)) (line_at (a ++ b) (length a)) k h B C g.bases g.pair (omega (arith, inside))

gap_in : (t : List ℕ) (H : List Lexeme) → Stands t H → (gap_behind t H).place < suc (length t)
gap_in t H s =
    let place = gap_place (in_flow H) (key_allowed H) t (reached H).index (reached_in t H s) in
    omega (arith, place.inside)

rest_coming : (a b : List ℕ) (k : ℕ) (B C : List Lexeme) → Ground a b k B C → (h : List Lexeme)
    → Stands b (h ++ B)
    → let G = moved_lexemes (length a) (line_at (a ++ b) (length a)) h ++ C in
    coming (kind_behind (a ++ b) G) (a ++ b) G
    ≡ moved_next (length a) (line_at (a ++ b) (length a)) (coming (kind_behind b (h ++ B)) b (h ++ B))
rest_coming a b k B C g h s =
    rest_comes b (a ++ b) (length a) (suc (length b)) (line_at (a ++ b) (length a)) k (h ++ B) (moved_lexemes (length a) (line_at (a ++ b) (length a)) h ++ C)
    (rest_pair a b k B C g h s) (end_no_mark (a ++ b) (length a + suc (length b)) (rest_end a b)) g.marks (gap_in b (h ++ B) s)

pub rest_next : (a b : List ℕ) (k : ℕ) (B C : List Lexeme) → Ground a b k B C → (h : List Lexeme)
    → Stands b (h ++ B)
    → next (a ++ b) (moved_lexemes (length a) (line_at (a ++ b) (length a)) h ++ C)
    ≡ moved_next (length a) (line_at (a ++ b) (length a)) (next b (h ++ B))
rest_next a b k B C g [] s = g.others ∙ rest_coming a b k B C g [] s ∙ ap (moved_next (length a) (line_at (a ++ b) (length a))) (sym g.mine)
rest_next a b k B C g (l ∷ h) s =
    elim (cases_Bool (is_end l.kind)) [
      | inl e ↦
          next_over (a ++ b) (moved_lexeme (length a) (line_at (a ++ b) (length a)) l) (moved_lexemes (length a) (line_at (a ++ b) (length a)) h ++ C) e
          ∙ ap (moved_next (length a) (line_at (a ++ b) (length a))) (sym (next_over b l (h ++ B) e))
      | inr e ↦
          next_open (a ++ b) (moved_lexeme (length a) (line_at (a ++ b) (length a)) l) (moved_lexemes (length a) (line_at (a ++ b) (length a)) h ++ C) e
          ∙ rest_coming a b k B C g (l ∷ h) s
          ∙ ap (moved_next (length a) (line_at (a ++ b) (length a))) (sym (next_open b l (h ++ B) e))
    ]

-- what each of the lexemes carries is the same
abbrev pub AllCarry : yaml_encoding_t → List ℕ → List ℕ → ℕ → ℕ → List Lexeme → Type 0
AllCarry x t u d n [] = Unit {0}
AllCarry x t u d n (l ∷ h) =
    (body_in (record { encoding = x; text = u }) (moved_lexeme d n l) ≡ body_in (record { encoding = x; text = t }) l)
    × AllCarry x t u d n h

rest_open : (a b : List ℕ) (k : ℕ) (B C : List Lexeme) → Ground a b k B C → (h : List Lexeme)
    (l : Lexeme)
    → next b (h ++ B) ≡ Read l → coming (kind_behind b (h ++ B)) b (h ++ B) ≡ Read l
rest_open a b k B C g [] l e = sym g.mine ∙ e
rest_open a b k B C g (y ∷ h) l e = sym (next_open b y (h ++ B) (not_ended b y (h ++ B) l e)) ∙ e

rest_carries : (x : yaml_encoding_t) (a b : List ℕ) (k : ℕ) (B C : List Lexeme) → Ground a b k B C
    → (h : List Lexeme) → Stands b (h ++ B) → (l : Lexeme) → next b (h ++ B) ≡ Read l
    → body_in (record { encoding = x; text = a ++ b }) (moved_lexeme (length a) (line_at (a ++ b) (length a)) l)
    ≡ body_in (record { encoding = x; text = b }) l
rest_carries x a b k B C g h s l e =
    let G = moved_lexemes (length a) (line_at (a ++ b) (length a)) h ++ C in
    let pair = rest_pair a b k B C g h s in
    let r = has_read b (h ++ B) l (rest_open a b k B C g h l e) in
    carries x b (a ++ b) (length a) (suc (length b)) (line_at (a ++ b) (length a)) k (h ++ B) G pair l r
    (rest_said b (a ++ b) (length a) (suc (length b)) (line_at (a ++ b) (length a)) k (h ++ B) G pair (end_no_mark (a ++ b) (length a + suc (length b)) (rest_end a b)) g.marks (gap_in b (h ++ B) s) r.kind r.stands)

-- that many steps more
abbrev pub further : ℕ → ℕ → ℕ
further zero i = i
further (suc j) i = suc (further j i)

pub further_is : (j i : ℕ) → further j i ≡ j + i
further_is zero i = omega arith
further_is (suc j) i = let e = further_is j i in omega (arith, e)

-- The lexemes of i steps and j more in the rest, and those of some in the whole.
pub record Grown (x : yaml_encoding_t) (a b : List ℕ) (B C : List Lexeme) (i j : ℕ) : Type 0 where
  pub lexemes : List Lexeme
  pub mine : history b (further j i) ≡ lexemes ++ B
  pub steps : ℕ
  pub others : history (a ++ b) steps
      ≡ moved_lexemes (length a) (line_at (a ++ b) (length a)) lexemes ++ C
  pub carry : AllCarry x b (a ++ b) (length a) (line_at (a ++ b) (length a)) lexemes

grow : (x : yaml_encoding_t) (a b : List ℕ) (k : ℕ) (B C : List Lexeme) → Ground a b k B C
    → (i j : ℕ) → Grown x a b B C i j → (y : Next)
    → next b (history b (further j i)) ≡ y → Grown x a b B C i (suc j)
grow x a b k B C base i j g (Read l) e =
    let h = g.lexemes in
    let stands : Stands b (h ++ B) = subst (Stands b) g.mine (history_stands b (further j i)) in
    let here : next b (h ++ B) ≡ Read l = ap (next b) (sym g.mine) ∙ e in
    let there = rest_next a b k B C base h stands ∙ ap (moved_next (length a) (line_at (a ++ b) (length a))) here in
    record {
      lexemes = l ∷ h;
      mine = history_more b (further j i) ∙ ap (λ z. extended z (history b (further j i))) e ∙ ap (λ z. l ∷ z) g.mine;
      steps = suc g.steps;
      others = history_more (a ++ b) g.steps ∙ ap (step (a ++ b)) g.others ∙ ap (λ z. extended z (moved_lexemes (length a) (line_at (a ++ b) (length a)) h ++ C)) there;
      carry = (rest_carries x a b k B C base h stands l here, g.carry);
    }
grow x a b k B C base i j g (Fails f) e = record {
  lexemes = g.lexemes;
  mine = history_more b (further j i) ∙ ap (λ z. extended z (history b (further j i))) e ∙ g.mine;
  steps = g.steps;
  others = g.others;
  carry = g.carry;
}
grow x a b k B C base i j g Ends e = record {
  lexemes = g.lexemes;
  mine = history_more b (further j i) ∙ ap (λ z. extended z (history b (further j i))) e ∙ g.mine;
  steps = g.steps;
  others = g.others;
  carry = g.carry;
}

pub grown : (x : yaml_encoding_t) (a b : List ℕ) (k : ℕ) (B C : List Lexeme) → Ground a b k B C
    → (i : ℕ) → history b i ≡ B → (n : ℕ) → history (a ++ b) n ≡ C → (j : ℕ) → Grown x a b B C i j
grown x a b k B C g i begins n e zero = record {
  lexemes = [];
  mine = begins;
  steps = n;
  others = e;
  carry = tt;
}
grown x a b k B C g i begins n e (suc j) = grow x a b k B C g i j (grown x a b k B C g i begins n e j) (next b (history b (further j i))) refl

moved_never : (d n : ℕ) (y : Next) → ((l : Lexeme) → y ≢ Read l) → (l : Lexeme)
    → moved_next d n y ≢ Read l
moved_never d n y never l e = grind (arith, nat_tests)

-- all of the whole's lexemes, and what comes after them
pub record Whole (x : yaml_encoding_t) (a b : List ℕ) (B C : List Lexeme) : Type 0 where
  pub lexemes : List Lexeme
  pub mine : all b ≡ lexemes ++ B
  pub others : all (a ++ b) ≡ moved_lexemes (length a) (line_at (a ++ b) (length a)) lexemes ++ C
  pub comes : next (a ++ b) (all (a ++ b)) ≡ moved_next (length a) (line_at (a ++ b) (length a)) (next b (all b))
  pub carry : AllCarry x b (a ++ b) (length a) (line_at (a ++ b) (length a)) lexemes

pub whole : (x : yaml_encoding_t) (a b : List ℕ) (k : ℕ) (B C : List Lexeme) → Ground a b k B C
    → (i : ℕ) → history b i ≡ B → (n : ℕ) → history (a ++ b) n ≡ C → Whole x a b B C
whole x a b k B C base i begins n e =
    let j = length b + 2 in
    let g = grown x a b k B C base i begins n e j in
    let mine = sym (stays_all b (further j i) (omega (arith, further_is j i))) ∙ g.mine in
    let stands : Stands b (g.lexemes ++ B) = subst (Stands b) g.mine (history_stands b (further j i)) in
    let comes = rest_next a b k B C base g.lexemes stands ∙ ap (λ h. moved_next (length a) (line_at (a ++ b) (length a)) (next b h)) (sym mine) in
    let never = moved_never (length a) (line_at (a ++ b) (length a)) (next b (all b)) (all_ends b) in
    let others = last_is_all (a ++ b) g.steps (λ l f. never l (sym (ap (next (a ++ b)) g.others ∙ comes) ∙ f)) ∙ g.others in
    record {
      lexemes = g.lexemes;
      mine = mine;
      others = others;
      comes = ap (next (a ++ b)) others ∙ comes;
      carry = g.carry;
    }
