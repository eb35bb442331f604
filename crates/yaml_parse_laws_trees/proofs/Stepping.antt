-- One token: what the stack gives is read, and the directives agree with the tokens from then on.
use Rattle.std.proofs.Common.{◌≡◌, Bool, true, false, if◌then◌else◌, List, [], ◌∷◌, ◌++◌, Option, Some, None, refl, ap, sym, subst, arith}
use Rattle.yaml_parse_laws_trees.proofs.Words.{yaml_mark_t, Token, TokenBody, type_of, Choice, Take, RawEvent, item_at, State, IsInner, IsInside, choice_at, taken_at, Fed, stop, go, with_item, given_by, turn, feed, Directives, no_directives, directives_before, document_directives, is_directive, directive_fault, InsideAt}
use Rattle.yaml_parse_model.specs.scan_types.Tokens as token
use Rattle.yaml_parse_laws_trees.specs.parse_grammar.parse_model.Events as event
use Rattle.yaml_parse_laws_trees.specs.parse_grammar.Items as item
use Rattle.yaml_parse_laws_trees.specs.parse_grammar.States as state
use Rattle.yaml_parse_laws_trees.proofs.FaultsStanding.{Sign, open_in, directive, other, last_of, last_in, told, Plain, Nested}
use Rattle.yaml_parse_laws_trees.proofs.Refusing.{Tells, tells}
use Rattle.yaml_parse_laws_trees.proofs.Keeping.{KeptInside, inside_kept}
use Rattle.yaml_parse_laws_trees.proofs.Settling.{Done, bad, fine, read_all, Quiet, IsMute, taken_quiet, left_quiet, Agree, none_agree, Behind, version_read, handle_read}
use Rattle.yaml_parse_laws_trees.proofs.Properties.{tok}

-- ---- the directives, by the state on top

abbrev pub DirsAt : State → List Token → Directives → Type 0
DirsAt state.stream past ds = Agree (directives_before past) ds × Agree (document_directives past) ds
DirsAt state.first past ds = Agree (directives_before past) ds × Agree (document_directives past) ds
DirsAt state.documents past ds = Agree (directives_before past) ds
DirsAt (state.directives from) past ds = Agree (directives_before past) ds
DirsAt _ past ds = Agree (document_directives past) ds

abbrev pub Dirs : List State → List Token → Directives → Type 0
Dirs [] past ds = Unit {0}
Dirs (x ∷ s) past ds = DirsAt x past ds

inside_dirs : (s : List State) (past : List Token) (ds : Directives) → IsInside s
    → Agree (document_directives past) ds → Dirs s past ds
inside_dirs s past ds i a = grind arith

-- ---- what a step gives

-- a directive's fault, or none, and the directives agree
abbrev pub StepRead : List Token → Token → Done → List State → Type 0
StepRead past t (bad e) s = directive_fault past t.body t.start_mark ≡ Some e
StepRead past t (fine ds) s = (directive_fault past t.body t.start_mark ≡ None) × Dirs s (t ∷ past) ds

abbrev pub IsFine : Done → Type 0
IsFine (bad e) = ⊥
IsFine (fine ds) = Unit {0}

abbrev pub Stepped : List Token → Directives → Token → Fed → Type 0
Stepped past ds t (stop is e) = IsFine (read_all is ds)
Stepped past ds t (go is s) = StepRead past t (read_all is ds) s

stepped_with : (past : List Token) (ds : Directives) (t : Token) (i : RawEvent) (fed : Fed)
    → Quiet (Some i) → Stepped past ds t fed → Stepped past ds t (with_item i fed)
stepped_with past ds t i fed q h = grind arith

stepped_given : (past : List Token) (ds : Directives) (t : Token) (i : Option RawEvent)
    (above s : List State) → Quiet i → StepRead past t (fine ds) (above ++ s)
    → Stepped past ds t (given_by (record { item = i; above = above }) s)
stepped_given past ds t i above s q h = grind arith

no_directive : (past : List Token) (b : TokenBody) (at : yaml_mark_t) → is_directive b ≡ false
    → directive_fault past b at ≡ None
no_directive past b at h = grind arith

-- the token was taken inside a document
pub inside_read : (past : List Token) (ds : Directives) (t : Token) (gs : List Sign)
    (s : List State) → KeptInside t.body t.start_mark gs s → Agree (document_directives past) ds
    → StepRead past t (fine ds) s
inside_read past ds t gs s k a = (
  no_directive past t.body t.start_mark k.still,
  inside_dirs s (t ∷ past) ds k.inside (subst (λ (z : List Token). Agree z ds) (sym (ap (λ (b : Bool). if b then directives_before past else document_directives past) k.within)) a),
)

-- ---- between documents

behind_read : (past : List Token) (t : Token) (from : yaml_mark_t) (d : Done)
    → Behind (directive_fault past t.body t.start_mark) (directives_before (t ∷ past)) d
    → StepRead past t d (state.directives from ∷ [])
behind_read past t from d h = grind arith

pub stream_stepped : (past : List Token) (ds : Directives) (b : TokenBody) (start end : yaml_mark_t)
    → Agree [] ds → Agree (document_directives past) ds
    → Stepped past ds (tok b start end) (feed (state.stream ∷ []) (tok b start end))
unfolding feed
stream_stepped past ds b start end n a = grind arith

pub first_stepped : (past : List Token) (ds : Directives) (b : TokenBody) (start end : yaml_mark_t)
    → Agree (directives_before past) ds → Agree (document_directives past) ds
    → Stepped past ds (tok b start end) (feed (state.first ∷ []) (tok b start end))
unfolding feed
first_stepped past ds b start end a d = grind (arith, behind_read, version_read, handle_read)

pub documents_stepped : (past : List Token) (ds : Directives) (b : TokenBody)
    (start end : yaml_mark_t) → Agree (directives_before past) ds → Agree [] ds
    → Stepped past ds (tok b start end) (feed (state.documents ∷ []) (tok b start end))
unfolding feed
documents_stepped past ds (token.version_directive major minor) start end a n = behind_read past (tok (token.version_directive major minor) start end) start _ (version_read ds major minor start end past a)
documents_stepped past ds (token.tag_directive handle prefix) start end a n = behind_read past (tok (token.tag_directive handle prefix) start end) start _ (handle_read ds handle prefix start end past a)
documents_stepped past ds token.document_start start end a n = (refl, a)
documents_stepped past ds token.document_end start end a n = (refl, n)
documents_stepped past ds token.stream_end start end a n = (refl, tt)
documents_stepped past ds _ start end a n = tt

pub directives_stepped : (past : List Token) (ds : Directives) (b : TokenBody)
    (from start end : yaml_mark_t) → Agree (directives_before past) ds
    → Stepped past ds (tok b start end) (feed (state.directives from ∷ []) (tok b start end))
unfolding feed
directives_stepped past ds (token.version_directive major minor) from start end a = behind_read past (tok (token.version_directive major minor) start end) from _ (version_read ds major minor start end past a)
directives_stepped past ds (token.tag_directive handle prefix) from start end a = behind_read past (tok (token.tag_directive handle prefix) start end) from _ (handle_read ds handle prefix start end past a)
directives_stepped past ds token.document_start from start end a = (refl, a)
directives_stepped past ds _ from start end a = tt

-- after the end of a document no directives are left
ended_before : (past : List Token) (ds : Directives) (t : Token) (implicit : Bool)
    (from to : yaml_mark_t) (fed : Fed) → Stepped past no_directives t fed
    → Stepped past ds t (with_item (item_at (item.event (event.document_end implicit)) from to) fed)
ended_before past ds t implicit from to fed h = grind arith

end_stepped : (past : List Token) (ds : Directives) (b : TokenBody) (start end : yaml_mark_t)
    → Agree (directives_before past) no_directives
    → Stepped past ds (tok b start end)
    (feed (state.document_end ∷ state.documents ∷ []) (tok b start end))
unfolding feed
end_stepped past ds token.document_end start end a = (refl, none_agree)
end_stepped past ds b start end a = ended_before past ds (tok b start end) true start start (feed (state.documents ∷ []) (tok b start end)) (documents_stepped past no_directives b start end a none_agree)

-- ---- inside a document

pub no_directives_before : (past : List Token) → (last_in past ≡ directive → ⊥)
    → directives_before past ≡ []
no_directives_before past h = grind (arith, last_of)

pub none_before : (past : List Token) → (last_in past ≡ directive → ⊥)
    → Agree (directives_before past) no_directives
none_before past h = subst (λ (z : List Token). Agree z no_directives) (sym (no_directives_before past h)) none_agree

-- the end of a document is above the documents after it
pub data Within (x : State) (s : List State) : Type 0 where
  at_end : x ≡ state.document_end → s ≡ state.documents ∷ [] → Within x s
  deeper : IsInner x → IsInside s → Within x s

pub within : (x : State) (s : List State) → InsideAt x s (IsInside s) → Within x s
within x s h = grind arith

pub not_first : (x : State) → x ≡ state.first → IsInner x → ⊥
not_first x e h = subst IsInner e h

mute_turn : (c : Choice) (x : State) (t : Token) (s : List State) (fed : Fed) (past : List Token)
    (ds : Directives) → choice_at x (type_of t.body) ≡ c → Tells c x (open_in s) t.start_mark
    → IsInner x → IsMute x
    → (choice_at x (type_of t.body) ≡ Take
    → KeptInside t.body t.start_mark (open_in (x ∷ s)) ((taken_at x t).above ++ s))
    → Agree (document_directives past) ds → Stepped past ds t fed
    → Stepped past ds t (turn c x t s fed)
mute_turn c x t s fed past ds e h i m k a r = grind (arith, stepped_given, taken_quiet, inside_read, stepped_with, left_quiet, not_first)

pub plain_mute : (x : State) → told x ≡ other → IsInner x → IsMute x
plain_mute x e h = grind arith

at_end_stepped : (x : State) (s : List State) (t : Token) (past : List Token) (ds : Directives)
    → x ≡ state.document_end → s ≡ state.documents ∷ []
    → Agree (directives_before past) no_directives → Stepped past ds t (feed (x ∷ s) t)
at_end_stepped x s t past ds p q a =
    subst (λ (y : State). Stepped past ds t (feed (y ∷ s) t)) (sym p)
    (subst (λ (z : List State). Stepped past ds t (feed (state.document_end ∷ z) t)) (sym q) (end_stepped past ds t.body t.start_mark t.end_mark a))

-- above a stack inside a document, of which the state on top isn't after properties
pub mute_stepped : (x : State) (s : List State) (t : Token) (past : List Token) (ds : Directives)
    → Within x s → (IsInner x → IsMute x) → Plain s → Nested (x ∷ s)
    → Agree (document_directives past) ds
    → Agree (directives_before past) no_directives → Stepped past ds t (feed (x ∷ s) t)
unfolding feed
mute_stepped x [] t past ds (deeper i j) m pl n a b = absurd j
mute_stepped x (y ∷ s) t past ds (deeper i j) m pl n a b =
    mute_turn (choice_at x (type_of t.body)) x t (y ∷ s) (feed (y ∷ s) t) past ds refl (tells x (type_of t.body) (open_in (y ∷ s)) t.start_mark n.0) i (m i)
    (λ e. inside_kept x t (y ∷ s) e i pl n j) a
    (mute_stepped y s t past ds (within y s j) (λ k. plain_mute y pl.0 k) pl.1 n.1 a b)
mute_stepped x e t past ds (at_end p q) m pl n a b = at_end_stepped x e t past ds p q b
