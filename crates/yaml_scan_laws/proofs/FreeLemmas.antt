-- What steps make of a lexeme, and key-free lexemes.
use Rattle.std.proofs.Common.{◌≡◌, ℕ, zero, suc, ◌+◌, ◌==◌, ◌&&◌, ◌||◌, not, nat_lt, Bool, true, false, List, [], ◌∷◌, Option, None, Result, Ok, Err, refl, sym, subst, inl, inr, arith, ◌-◌, ◌<◌, ◌++◌, length, map, reverse, flat_map, ap, ◌∙◌}
use Rattle.yaml_scan_laws.proofs.TextWords.{cases_Bool, and_parts, nat_tests, yaml_mark_t, yaml_scalar_style_t, TokenBody, mark_at, Wrong, Gap, BlockText, Kind, Lexeme, may_be_key, is_end, flow_depth, key_allowed, candidate, fresh, indent, left_by, open_levels, WordText, valued, tagged, directed, blocked, lexeme_at, Next, Read, Fails, Ends, begun, finished, allowed_behind, missed, next, extended, history, tested, unless_wrong, unless_lost, of_kind, unless_missed, stepwise, reverse-append, Token, Entry, depth_after, cancels, is_value, is_start, allows_key, Candidate, found_by, has, opened, opens_at, inside, entry_of, level_of, finished_tokens, SpelledText, token_in, spell, innermost, around, marked_so, is_inside, asked_after, asked, fits, is_key_free, keeps_level, is_level_free, kinds_of}
use Rattle.yaml_scan_history.specs.Between.{gap_at}
use Rattle.yaml_scan_history.specs.Tags.{TagText}
use Rattle.yaml_scan_history.specs.Directives.{DirectiveText}
use Rattle.yaml_scan_history.specs.declared.kind.Kind.TheVariants as kinds
use Rattle.yaml_scan_history.specs.declared.lexeme.Opens.TheVariants as opening
use Rattle.yaml_scan_laws.proofs.Pushing.{calm_opens, lone_marks}

abbrev pub is_plain : Kind → Bool
is_plain kinds.Plain = true
is_plain _ = false

-- a lexeme by those before it
pub record MadeBehind (h : List Lexeme) (l : Lexeme) : Type 0 where
  pub at : l.depth ≡ flow_depth h
  pub kind : l.saved ≡ true → may_be_key l.kind ≡ true
  pub allowed : nat_lt 0 l.depth ≡ true → l.saved ≡ true → key_allowed h ≡ true
  pub level : open_levels h ≡ [] → l.level ≡ 0
  pub required : open_levels h ≡ [] → l.required ≡ false
  pub broke : is_plain l.kind ≡ false → l.broke ≡ false

unfoldable pub AllMade : List Lexeme → Type 0
AllMade [] = Unit {0}
AllMade (l ∷ h) = MadeBehind h l × AllMade h

abbrev MadeAny : List Lexeme → Next → Type 0
MadeAny h (Read l) = MadeBehind h l
MadeAny h (Fails f) = Unit {0}
MadeAny h Ends = Unit {0}

-- a word that breaks nothing
abbrev pub Whole : Result WordText Wrong → Type 0
Whole (Ok w) = w.broke ≡ false
Whole (Err w) = Unit {0}

whole_valued : (f : List ℕ → TokenBody) (r : Result (List ℕ × ℕ) Wrong) → Whole (valued f r)
whole_valued f r = grind (arith, nat_tests)

whole_tagged : (r : Result TagText Wrong) → Whole (tagged r)
whole_tagged r = grind (arith, nat_tests)

whole_directed : (r : Result DirectiveText Wrong) → Whole (directed r)
whole_directed r = grind (arith, nat_tests)

whole_blocked : (style : yaml_scalar_style_t) (r : Result BlockText Wrong) → Whole (blocked style r)
whole_blocked style r = grind (arith, nat_tests)

pub whole_word : (k : Kind) (flow : Bool) (level : ℕ) (text : List ℕ) (p : ℕ) → is_plain k ≡ false
    → Whole (lexeme_at k flow level text p)
unfolding lexeme_at
whole_word k flow level text p e = grind (arith, nat_tests, whole_valued, whole_tagged, whole_directed, whole_blocked)

-- what is allowed is a key that may be one, in brackets one after which a key is allowed
saved_allowed : (allowed broke may flow : Bool) → flow ≡ true
    → ((allowed || (broke && not flow)) && may) ≡ true → allowed ≡ true
saved_allowed allowed broke may flow f e = grind (arith, nat_tests)

no_level : (k : Kind) (d column : ℕ) (ls : List ℕ) → ls ≡ [] → indent (left_by k d column ls) ≡ 0
unfolding indent
no_level k d column ls e = grind (arith, nat_tests)

not_level : (saved outside : Bool) (n column : ℕ) → n ≡ 0
    → (saved && (outside && n == column + 1)) ≡ false
not_level saved outside n column e = grind (arith, nat_tests)

pub begun_made : (k : Kind) (start : yaml_mark_t) (gap : Gap) (h : List Lexeme)
    → MadeBehind h (begun k start (allowed_behind h gap) h)
begun_made k start gap h = grind (arith, nat_tests, saved_allowed, no_level, not_level)

pub finished_made : (text : List ℕ) (l : Lexeme) (h : List Lexeme) (w : WordText)
    → (is_plain l.kind ≡ false → w.broke ≡ false) → MadeBehind h l
    → MadeBehind h (finished text l w)
finished_made text l h w b m = grind (arith, nat_tests)

tested_made : (l : Lexeme) (h : List Lexeme) → MadeBehind h l → MadeAny h (tested l h)
tested_made l h m = grind (arith, nat_tests)

wrong_made : (text : List ℕ) (r : Result WordText Wrong) (l : Lexeme) (h : List Lexeme)
    → (is_plain l.kind ≡ false → Whole r) → MadeBehind h l → MadeAny h (unless_wrong r text l h)
wrong_made text r l h b m = grind (arith, nat_tests, tested_made, finished_made)

lost_made : (o : Option yaml_mark_t) (text : List ℕ) (p : ℕ) (l : Lexeme) (h : List Lexeme)
    → MadeBehind h l → MadeAny h (unless_lost o text p l h)
lost_made o text p l h m = grind (arith, nat_tests, wrong_made, whole_word)

kind_made : (o : Option Kind) (text : List ℕ) (gap : Gap) (h : List Lexeme)
    → MadeAny h (of_kind o text gap h)
kind_made o text gap h = grind (arith, nat_tests, lost_made, begun_made)

missed_made : (o : Option yaml_mark_t) (text : List ℕ) (gap : Gap) (h : List Lexeme)
    → MadeAny h (unless_missed o text gap h)
missed_made o text gap h = grind (arith, nat_tests, kind_made)

next_made : (text : List ℕ) (h : List Lexeme) → MadeAny h (next text h)
unfolding next
next_made text [] = record {
  at = refl;
  kind = λ e. absurd (cc);
  allowed = λ f e. absurd (cc);
  level = λ e. refl;
  required = λ e. refl;
  broke = λ e. refl;
}
next_made text (l ∷ h) =
    let gap = gap_at (nat_lt 0 (flow_depth (l ∷ h))) (key_allowed (l ∷ h)) text l.reached.index in
    elim (cases_Bool (is_end l.kind)) [
      | inl e ↦ rw e tt
      | inr e ↦ rw e (subst (MadeAny (l ∷ h)) (sym (stepwise text (l ∷ h))) (missed_made (missed (fresh (candidate 0 (l ∷ h)) l.reached) (mark_at text gap.place)) text gap (l ∷ h)))
    ]

extended_made : (x : Next) (h : List Lexeme) → MadeAny h x → AllMade h → AllMade (extended x h)
unfolding AllMade
extended_made x h m all = grind (arith, nat_tests)

-- the lexemes of each step
pub history_made : (text : List ℕ) (n : ℕ) → AllMade (history text n)
unfolding history AllMade
history_made text zero = tt
history_made text (suc n) = extended_made (next text (history text n)) (history text n) (next_made text (history text n)) (history_made text n)

unsaved : (s : Bool) → (s ≡ true → ⊥) → s ≡ false
unsaved s n = grind (arith, nat_tests)

pub free_head : (l : Lexeme) (h : List Lexeme) → is_key_free (kinds_of (l ∷ h)) ≡ true
    → fits l.kind (asked (kinds_of h)) ≡ true
unfolding is_key_free
free_head l h e = (and_parts (fits l.kind (asked (kinds_of h))) (is_key_free (kinds_of h)) e).0

pub free_rest : (l : Lexeme) (h : List Lexeme) → is_key_free (kinds_of (l ∷ h)) ≡ true
    → is_key_free (kinds_of h) ≡ true
unfolding is_key_free
free_rest l h e = (and_parts (fits l.kind (asked (kinds_of h))) (is_key_free (kinds_of h)) e).1

-- Depths.

marked_length : (mark : Bool) (qs : List Bool) → length (marked_so mark qs) ≡ length qs
marked_length mark qs = grind (arith, nat_tests)

around_length : (qs : List Bool) → length qs - 1 ≡ length (around qs)
around_length qs = grind (arith, nat_tests)

more_length : (qs : List Bool) → length qs + 1 ≡ length (false ∷ qs)
more_length qs = omega arith

pub depth_after_is : (k : Kind) (qs : List Bool)
    → depth_after k (length qs) ≡ length (asked_after k qs)
depth_after_is k qs = grind (arith, nat_tests, more_length, around_length, marked_length)

-- the depth after lexemes is how many brackets their kinds leave open
pub depth_is : (h : List Lexeme) → AllMade h → flow_depth h ≡ length (asked (kinds_of h))
unfolding AllMade asked
depth_is [] made = refl
depth_is (l ∷ h) (m, made) = ap (λ n. depth_after l.kind n) (m.at ∙ depth_is h made) ∙ depth_after_is l.kind (asked (kinds_of h))

-- Candidates.

-- wherever a `?` is open, there is no candidate
abbrev Clear : List Bool → List Lexeme → Type 0
Clear [] h = Unit {0}
Clear (q ∷ qs) h = (q ≡ true → candidate (suc (length qs)) h ≡ None) × Clear qs h

-- none is allowed after it either
abbrev Quiet : List Bool → List Lexeme → Type 0
Quiet qs h = innermost qs ≡ true → key_allowed h ≡ false

pub candidate_lower : (d : ℕ) (l : Lexeme) (h : List Lexeme) → d < l.depth
    → candidate d (l ∷ h) ≡ candidate d h
unfolding candidate
candidate_lower d l h e = grind (arith, nat_tests)

pub candidate_own : (d : ℕ) (l : Lexeme) (h : List Lexeme) → l.depth ≡ d → l.saved ≡ false
    → (cancels l.kind ≡ false → candidate d h ≡ None) → candidate d (l ∷ h) ≡ None
unfolding candidate
candidate_own d l h e s none = grind (arith, nat_tests)

clear_outer : (qs : List Bool) (l : Lexeme) (h : List Lexeme) → length qs < l.depth → Clear qs h
    → Clear qs (l ∷ h)
clear_outer [] l h e c = tt
clear_outer (q ∷ qs) l h e (own, c) = (λ t. candidate_lower (suc (length qs)) l h e ∙ own t, clear_outer qs l h (omega (arith, e)) c)

clear_around : (qs : List Bool) (l : Lexeme) (h : List Lexeme) → l.depth ≡ length qs → Clear qs h
    → Clear (around qs) (l ∷ h)
clear_around qs l h e c = grind (arith, nat_tests, clear_outer)

clear_off : (qs : List Bool) (l : Lexeme) (h : List Lexeme) → l.depth ≡ length qs → Clear qs h
    → Clear (marked_so false qs) (l ∷ h)
clear_off qs l h e c = grind (arith, nat_tests, clear_outer)

clear_on : (qs : List Bool) (l : Lexeme) (h : List Lexeme) → l.depth ≡ length qs → l.saved ≡ false
    → cancels l.kind ≡ true → Clear qs h → Clear (marked_so true qs) (l ∷ h)
clear_on qs l h e s x c = grind (arith, nat_tests, candidate_own, clear_outer)

positive : (n m : ℕ) → n ≡ suc m → nat_lt 0 n ≡ true
positive n m e = grind (arith, nat_tests)

clear_same : (qs : List Bool) (l : Lexeme) (h : List Lexeme) → l.depth ≡ length qs → MadeBehind h l
    → Quiet qs h → Clear qs h → Clear qs (l ∷ h)
clear_same [] l h e m quiet c = tt
clear_same (q ∷ qs) l h e m quiet (own, c) = grind (arith, nat_tests, candidate_own, unsaved, positive, clear_outer)

unsaved_kind : (l : Lexeme) (h : List Lexeme) → MadeBehind h l → may_be_key l.kind ≡ false
    → l.saved ≡ false
unsaved_kind l h m e = unsaved l.saved (λ s. let k = m.kind s in cc)

clear_opened : (qs : List Bool) (l : Lexeme) (h : List Lexeme) → l.depth ≡ length qs
    → MadeBehind h l → Quiet qs h → Clear qs h → Clear (false ∷ qs) (l ∷ h)
clear_opened qs l h e m quiet c = (λ t. absurd (cc), clear_same qs l h e m quiet c)

clear_after : (k : Kind) (qs : List Bool) (l : Lexeme) (h : List Lexeme) → l.kind ≡ k
    → l.depth ≡ length qs → MadeBehind h l → Quiet qs h → Clear qs h
    → Clear (asked_after k qs) (l ∷ h)
clear_after kinds.FlowSequenceStart qs l h is e m quiet c = clear_opened qs l h e m quiet c
clear_after kinds.FlowMappingStart qs l h is e m quiet c = clear_opened qs l h e m quiet c
clear_after kinds.FlowSequenceEnd qs l h is e m quiet c = clear_around qs l h e c
clear_after kinds.FlowMappingEnd qs l h is e m quiet c = clear_around qs l h e c
clear_after kinds.KeyMark qs l h is e m quiet c = grind (arith, nat_tests, clear_on, unsaved_kind)
clear_after kinds.Alias qs l h is e m quiet c = clear_same qs l h e m quiet c
clear_after kinds.Anchor qs l h is e m quiet c = clear_same qs l h e m quiet c
clear_after kinds.Tag qs l h is e m quiet c = clear_same qs l h e m quiet c
clear_after kinds.SingleQuoted qs l h is e m quiet c = clear_same qs l h e m quiet c
clear_after kinds.DoubleQuoted qs l h is e m quiet c = clear_same qs l h e m quiet c
clear_after k qs l h is e m quiet c = clear_off qs l h e c

off_never : (qs : List Bool) → innermost (marked_so false qs) ≡ true → ⊥
off_never qs e = grind (arith, nat_tests)

deep_zero : (qs : List Bool) (n : ℕ) → is_inside qs ≡ true → n ≡ length qs → (n == 0) ≡ false
deep_zero qs n i e = grind (arith, nat_tests)

quiet_after : (k : Kind) (qs : List Bool) (n : ℕ) (found : Bool) → fits k qs ≡ true → n ≡ length qs
    → innermost (asked_after k qs) ≡ true → allows_key k (n == 0) found ≡ false
quiet_after k qs n found f e t = grind (arith, nat_tests, deep_zero, off_never)

not_plain : (k : Kind) (qs : List Bool) → fits k qs ≡ true → is_plain k ≡ false
not_plain k qs f = grind (arith, nat_tests)

unbroken : (l : Lexeme) (h : List Lexeme) → MadeBehind h l → is_key_free (kinds_of (l ∷ h)) ≡ true
    → l.broke ≡ false
unbroken l h m free = m.broke (not_plain l.kind (asked (kinds_of h)) (free_head l h free))

quiet_more : (l : Lexeme) (h : List Lexeme) → AllMade (l ∷ h)
    → is_key_free (kinds_of (l ∷ h)) ≡ true → Quiet (asked (kinds_of (l ∷ h))) (l ∷ h)
unfolding asked AllMade
quiet_more l h (m, made) free t =
    let none = quiet_after l.kind (asked (kinds_of h)) l.depth (has (found_by l h)) (free_head l h free) (m.at ∙ depth_is h made) t in
    rw (none, unbroken l h m free) refl

quiet : (h : List Lexeme) → AllMade h → is_key_free (kinds_of h) ≡ true
    → Quiet (asked (kinds_of h)) h
unfolding asked
quiet h made free t = grind (arith, nat_tests, quiet_more)

clear : (h : List Lexeme) → AllMade h → is_key_free (kinds_of h) ≡ true
    → Clear (asked (kinds_of h)) h
unfolding asked AllMade
clear [] made free = tt
clear (l ∷ h) (m, made) free =
    let rest = free_rest l h free in
    clear_after l.kind (asked (kinds_of h)) l h refl (m.at ∙ depth_is h made) m (quiet h made rest) (clear h made rest)

clear_none : (qs : List Bool) (h : List Lexeme) → Clear qs h → innermost qs ≡ true
    → candidate (length qs) h ≡ None
clear_none qs h c t = grind (arith, nat_tests)

pub no_candidate : (h : List Lexeme) → AllMade h → is_key_free (kinds_of h) ≡ true
    → innermost (asked (kinds_of h)) ≡ true → candidate (flow_depth h) h ≡ None
no_candidate h made free t = grind (arith, nat_tests, depth_is, clear_none, clear)

-- Levels.

inside_of_top : (qs : List Bool) → innermost qs ≡ true → is_inside qs ≡ true
inside_of_top qs t = grind (arith, nat_tests)

deep_inside : (qs : List Bool) (n : ℕ) → is_inside qs ≡ true → n ≡ length qs
    → not (nat_lt 0 n) ≡ false
deep_inside qs n i e = grind (arith, nat_tests, positive)

-- what fits keeps the level
fits_keeps : (k : Kind) (qs : List Bool) → fits k qs ≡ true → keeps_level k qs ≡ true
fits_keeps k qs f = grind (arith, nat_tests, inside_of_top)

pub level_free : (ks : List Kind) → is_key_free ks ≡ true → is_level_free ks ≡ true
unfolding is_key_free is_level_free
level_free [] free = refl
level_free (k ∷ ks) free = grind (arith, nat_tests, fits_keeps, and_parts, level_free ks (and_parts (fits k (asked ks)) (is_key_free ks) free).1)

pub level_head : (k : Kind) (ks : List Kind) → is_level_free (k ∷ ks) ≡ true
    → keeps_level k (asked ks) ≡ true
unfolding is_level_free
level_head k ks e = (and_parts (keeps_level k (asked ks)) (is_level_free ks) e).0

pub level_rest : (k : Kind) (ks : List Kind) → is_level_free (k ∷ ks) ≡ true
    → is_level_free ks ≡ true
unfolding is_level_free
level_rest k ks e = (and_parts (keeps_level k (asked ks)) (is_level_free ks) e).1

pub starts_none : (k : Kind) (qs : List Bool) (n : ℕ) → keeps_level k qs ≡ true → n ≡ length qs
    → (is_start k && not (nat_lt 0 n)) ≡ false
starts_none k qs n f e = grind (arith, nat_tests, deep_inside)

left_none : (k : Kind) (d column : ℕ) → left_by k d column [] ≡ []
left_none k d column = grind (arith, nat_tests)

opened_none : (may : Bool) (column : ℕ) (ls : List ℕ) → may ≡ false → ls ≡ []
    → opened may column ls ≡ []
opened_none may column ls e f = rw (e, f) refl

pub no_levels : (h : List Lexeme) → AllMade h → is_level_free (kinds_of h) ≡ true
    → open_levels h ≡ []
unfolding open_levels AllMade
no_levels [] made free = refl
no_levels (l ∷ h) (m, made) free =
    let rest = no_levels h made (level_rest l.kind (kinds_of h) free) in
    let start = starts_none l.kind (asked (kinds_of h)) l.depth (level_head l.kind (kinds_of h) free) (m.at ∙ depth_is h made) in
    opened_none (is_start l.kind && not (nat_lt 0 l.depth)) (opens_at (found_by l h) l.kind l.start.column) (left_by l.kind l.depth l.start.column (open_levels h)) start
    (ap (λ (ls : List ℕ). left_by l.kind l.depth l.start.column ls) rest ∙ left_none l.kind l.depth l.start.column)

-- Entries.

-- a lexeme with no more than its own token
abbrev pub bare : Lexeme → Entry
bare l = record { lexeme = l; ends = 0; opens = opening.Nothing; key = false }

entry_bare : (l : Lexeme) (h : List Lexeme) → AllMade (l ∷ h)
    → is_key_free (kinds_of (l ∷ h)) ≡ true → entry_of l h ≡ bare l
unfolding AllMade
entry_bare l h (m, made) free =
    let none = no_levels h made (level_free (kinds_of h) (free_rest l h free)) in
    let start = starts_none l.kind (asked (kinds_of h)) l.depth (level_head l.kind (kinds_of h) (level_free (kinds_of (l ∷ h)) free)) (m.at ∙ depth_is h made) in
    let opens = calm_opens (is_start l.kind) (is_value l.kind) (has (found_by l h)) l.depth (l.start.column + 1) (inside l h) (level_of l.kind) start in
    let ends : length (open_levels h) - length (inside l h) ≡ 0 = rw none (omega arith) in
    rw (ends, opens) refl

value_asked : (k : Kind) (qs : List Bool) → fits k qs ≡ true → is_value k ≡ true
    → innermost qs ≡ true
value_asked k qs f v = grind (arith, nat_tests)

-- a `:` finds no candidate
found_none : (l : Lexeme) (h : List Lexeme) → AllMade (l ∷ h)
    → is_key_free (kinds_of (l ∷ h)) ≡ true → is_value l.kind ≡ true → found_by l h ≡ None
unfolding AllMade
found_none l h (m, made) free v =
    let none = no_candidate h made (free_rest l h free) (value_asked l.kind (asked (kinds_of h)) (free_head l h free) v) in
    ap (λ d. fresh (candidate d h) l.start) m.at ∙ ap (λ (o : Option Candidate). fresh o l.start) none

map_more : (xs ys : List Lexeme) → map bare (xs ++ ys) ≡ map bare xs ++ map bare ys
map_more [] ys = refl
map_more (x ∷ xs) ys = rw (map_more xs ys) refl

entries_more : (l : Lexeme) (h : List Lexeme) → AllMade (l ∷ h)
    → is_key_free (kinds_of (l ∷ h)) ≡ true
    → finished_tokens (l ∷ h) ≡ finished_tokens h ++ bare l ∷ []
unfolding finished_tokens
entries_more l h made free = grind (arith, nat_tests, lone_marks, found_none, entry_bare)

tail_made : (l : Lexeme) (h : List Lexeme) → AllMade (l ∷ h) → AllMade h
unfolding AllMade
tail_made l h (m, made) = made

pub entries_bare : (h : List Lexeme) → AllMade h → is_key_free (kinds_of h) ≡ true
    → finished_tokens h ≡ map bare (reverse h)
unfolding finished_tokens
entries_bare [] made free = refl
entries_bare (l ∷ h) made free =
    entries_more l h made free ∙ ap (λ (es : List Entry). es ++ bare l ∷ []) (entries_bare h (tail_made l h made) (free_rest l h free))
    ∙ sym (ap (λ (xs : List Lexeme). map bare xs) (reverse-append (l ∷ []) h) ∙ map_more (reverse h) (l ∷ []))

pub bare_tokens : (s : SpelledText) (ls : List Lexeme)
    → flat_map (spell s) (map bare ls) ≡ map (token_in s) ls
bare_tokens s [] = refl
bare_tokens s (l ∷ ls) = ap (λ (ts : List Token). token_in s l ∷ ts) (bare_tokens s ls)

pub own_tokens_are : (s : SpelledText) (h : List Lexeme) → AllMade h
    → is_key_free (kinds_of h) ≡ true
    → flat_map (spell s) (finished_tokens h) ≡ map (token_in s) (reverse h)
own_tokens_are s h made free = ap (λ (es : List Entry). flat_map (spell s) es) (entries_bare h made free) ∙ bare_tokens s (reverse h)
