-- A tag in place of another, and a document's start in place of a directive: what a stack gives there.
use Rattle.std.proofs.Common.{◌≡◌, ℕ, ℤ, Bool, true, if◌then◌else◌, List, [], ◌∷◌, ◌++◌, Option, Some, None, refl, ap, sym, arith}
use Rattle.yaml_parse_laws_trees.proofs.Words.{yaml_mark_t, yaml_version_directive_t, TokenBody, type_of, Event, Site, Root, Choice, Refuse, Take, Leave, Open, RawEvent, State, item_at, choice_at, taken_at, left_at, Fed, stop, go, with_item, given_by, turn, feed, Directives, Settled, refused, noted, settle, TagDirective, with_tag, with_version, is_directive, BeginsWithEvents, was_take, false≢true}
use Rattle.yaml_parse_model.specs.scan_types.Tokens as token
use Rattle.yaml_parse_laws_trees.specs.parse_grammar.parse_model.declared.yaml_token_type_t.TheVariants as kind
use Rattle.yaml_parse_laws_trees.specs.parse_grammar.Items as item
use Rattle.yaml_parse_laws_trees.specs.parse_grammar.States as state
use Rattle.yaml_parse_laws_trees.proofs.Properties.{tok}
use Rattle.yaml_parse_laws_trees.proofs.Meant.{meant, meant_on}

-- ---- a tag

-- a tag without a handle
abbrev pub bare_tag : TokenBody
bare_tag = token.tag [] []

abbrev pub SameItems : Fed → Fed → Type 0
SameItems (stop is e) fed = Unit {0}
SameItems (go is s) (stop js e) = ⊥
SameItems (go is s) (go js s') = is ≡ js

same_with : (i : RawEvent) (a b : Fed) → SameItems a b → SameItems (with_item i a) (with_item i b)
same_with i a b h = grind arith

same_given : (i j : Option RawEvent) (xs ys s : List State) → i ≡ j
    → SameItems (given_by (record { item = i; above = xs }) s)
    (given_by (record { item = j; above = ys }) s)
same_given i j xs ys s p = grind arith

tag_taken : (x : State) (handle suffix : List ℕ) (start end : yaml_mark_t)
    → (taken_at x (tok (token.tag handle suffix) start end)).item
    ≡ (taken_at x (tok bare_tag start end)).item
tag_taken x handle suffix start end = grind arith

tag_turn : (c : Choice) (x : State) (handle suffix : List ℕ) (start end : yaml_mark_t)
    (s : List State) (a b : Fed) → SameItems a b
    → SameItems (turn c x (tok (token.tag handle suffix) start end) s a)
    (turn c x (tok bare_tag start end) s b)
tag_turn c x handle suffix start end s a b h = grind (arith, same_given, bare_tag, tag_taken, same_with)

pub tag_fed : (s : List State) (handle suffix : List ℕ) (start end : yaml_mark_t)
    → SameItems (feed s (tok (token.tag handle suffix) start end)) (feed s (tok bare_tag start end))
unfolding feed
tag_fed [] handle suffix start end = refl
tag_fed (x ∷ s) handle suffix start end = tag_turn (choice_at x kind.YAML_TAG_TOKEN) x handle suffix start end s _ _ (tag_fed s handle suffix start end)

-- ---- a directive

abbrev pub FirstMeant : Fed → Fed → Type 0
FirstMeant (stop is e) fed = Unit {0}
FirstMeant (go is s) (stop js e) = ⊥
FirstMeant (go is s) (go js s') = (ds : Directives) → BeginsWithEvents (meant is ds) (meant js ds)

one_first : (c : Settled) (i : RawEvent) (is js : List RawEvent)
    → ((ds : Directives) → BeginsWithEvents (meant is ds) (meant js ds))
    → BeginsWithEvents (meant_on c i (λ d. meant is d)) (meant_on c i (λ d. meant js d))
one_first c i is js h = grind arith

first_with : (i : RawEvent) (a b : Fed) → FirstMeant a b
    → FirstMeant (with_item i a) (with_item i b)
first_with i (stop is e) b h = tt
first_with i (go is s) (stop js e) h = h
first_with i (go is s) (go js s') h = λ ds. one_first (settle i ds) i is js h

-- a directive means no event
abbrev MeansNone : Fed → Type 0
MeansNone (stop is e) = Unit {0}
MeansNone (go is s) = (ds : Directives) → meant is ds ≡ []

none_first : (is js : List RawEvent) (s s' : List State) → MeansNone (go is s)
    → FirstMeant (go is s) (go js s')
none_first is js s s' h = λ ds. record { others = meant js ds; same = ap (λ (z : List Event). z ++ meant js ds) (sym (h ds)) }

known_none : (b : Bool) (v : Directives) (f : _) (i : RawEvent)
    → meant_on (if b then noted v else refused f) i (λ d. []) ≡ []
known_none b v f i = grind arith

version_none : (v : Option yaml_version_directive_t) (tags : List TagDirective) (major minor : ℤ)
    (at : yaml_mark_t) (i : RawEvent)
    → meant_on (with_version v tags major minor at) i (λ d. []) ≡ []
version_none v tags major minor at i = grind (arith, known_none)

handle_none : (o : Option (List ℕ)) (ds : Directives) (handle prefix : List ℕ) (at : yaml_mark_t)
    (i : RawEvent) → meant_on (with_tag o ds handle prefix at) i (λ d. []) ≡ []
handle_none o ds handle prefix at i = grind arith

directive_none : (b : TokenBody) (from start end : yaml_mark_t) (s : List State)
    → is_directive b ≡ true
    → MeansNone (given_by (taken_at (state.directives from) (tok b start end)) s)
directive_none b from start end s h = grind (arith, version_none, handle_none, false≢true)

-- where a state goes on with both
abbrev pub DirectiveGoes : State → TokenBody → Type 0
DirectiveGoes x b = choice_at x (type_of b) ≡ choice_at x kind.YAML_DOCUMENT_START_TOKEN

follows_both : (place : Site) (before : yaml_mark_t) (b : TokenBody) → is_directive b ≡ true
    → DirectiveGoes (state.optional place before) b
follows_both place before b h = grind (arith, false≢true)

goes_both : (x : State) (b : TokenBody) → is_directive b ≡ true → DirectiveGoes x b
goes_both x b h = grind (arith, follows_both, false≢true)

first_taken : (i : Option RawEvent) (above : List State) (j : Option RawEvent)
    (other s : List State)
    → MeansNone (given_by (record { item = i; above = above }) s)
    → FirstMeant (given_by (record { item = i; above = above }) s)
    (given_by (record { item = j; above = other }) s)
first_taken None above None other s h = none_first [] [] (above ++ s) (other ++ s) h
first_taken None above (Some j) other s h = none_first [] (j ∷ []) (above ++ s) (other ++ s) h
first_taken (Some i) above None other s h = none_first (i ∷ []) [] (above ++ s) (other ++ s) h
first_taken (Some i) above (Some j) other s h = none_first (i ∷ []) (j ∷ []) (above ++ s) (other ++ s) h

take_none : (x : State) (b : TokenBody) (start end : yaml_mark_t) (s : List State)
    → is_directive b ≡ true → choice_at x kind.YAML_DOCUMENT_START_TOKEN ≡ Take
    → MeansNone (given_by (taken_at x (tok b start end)) s)
take_none x b start end s h c = grind (arith, directive_none, was_take)

open_first : (b : TokenBody) (start end : yaml_mark_t) (s : List State) → is_directive b ≡ true
    → FirstMeant (given_by (taken_at (state.optional Root start) (tok b start end)) s)
    (given_by (taken_at (state.optional Root start) (tok token.document_start start end)) s)
open_first b start end s h = grind (arith, false≢true)

first_turn : (c : Choice) (x : State) (b : TokenBody) (start end : yaml_mark_t) (s : List State)
    (below other : Fed) → is_directive b ≡ true
    → choice_at x kind.YAML_DOCUMENT_START_TOKEN ≡ c → FirstMeant below other
    → FirstMeant (turn c x (tok b start end) s below)
    (turn c x (tok token.document_start start end) s other)
first_turn (Refuse p o) x b start end s below other h c k = tt
first_turn Take x b start end s below other h c k = first_taken _ (taken_at x (tok b start end)).above _ (taken_at x (tok token.document_start start end)).above s (take_none x b start end s h c)
first_turn Leave x b start end s below other h c k = first_with (left_at x start) below other k
first_turn Open x b start end s below other h c k = first_with (item_at (item.document true) start start) (given_by (taken_at (state.optional Root start) (tok b start end)) (state.document_end ∷ state.documents ∷ s)) (given_by (taken_at (state.optional Root start) (tok token.document_start start end)) (state.document_end ∷ state.documents ∷ s)) (open_first b start end (state.document_end ∷ state.documents ∷ s) h)

pub directive_fed : (s : List State) (b : TokenBody) (start end : yaml_mark_t)
    → is_directive b ≡ true
    → FirstMeant (feed s (tok b start end)) (feed s (tok token.document_start start end))
unfolding feed
directive_fed [] b start end h = λ ds. record { others = []; same = refl }
directive_fed (x ∷ s) b start end h = grind (arith, goes_both, first_turn, directive_fed s b start end h)
