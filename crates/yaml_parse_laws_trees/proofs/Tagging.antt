-- One token, after properties too: the fault of a handle comes first.
use Rattle.std.proofs.Common.{◌≡◌, Bool, true, false, if◌then◌else◌, ◌||◌, List, [], ◌∷◌, ◌++◌, Option, Some, None, ap, sym, subst, ◌∙◌, arith, refl}
use Rattle.yaml_parse_laws_trees.proofs.Words.{yaml_mark_t, Token, TokenBody, type_of, Fault, Wants, Take, Leave, RawEvent, Properties, State, IsInner, IsInside, IsStack, joins, starts_content, choice_at, with_properties_taken, Fed, stop, go, with_item, given_by, turn, feed, Directives, no_directives, settle, NodeTag, directives_before, document_directives, ended_tag, handle_fault, tag_fault, properties_alone, false≢true}
use Rattle.yaml_parse_model.specs.scan_types.Tokens as token
use Rattle.yaml_parse_laws_trees.specs.parse_grammar.Items as item
use Rattle.yaml_parse_laws_trees.specs.parse_grammar.States as state
use Rattle.yaml_parse_laws_trees.proofs.FaultsStanding.{nothing, property, directive, other, last_of, last_in, told, Plain, Nested, open_in}
use Rattle.yaml_parse_laws_trees.proofs.Keeping.{inside_kept}
use Rattle.yaml_parse_laws_trees.proofs.Settling.{Done, bad, fine, then_read, read_all, IsMute, Agree, tag_in, by_fault}
use Rattle.yaml_parse_laws_trees.proofs.Properties.{PropsOf, PropsTop, ended, props_read, HasFault, content_read, joined}
use Rattle.yaml_parse_laws_trees.proofs.Stepping.{Dirs, StepRead, Stepped, Within, within, mute_stepped, no_directives_before, none_before, inside_read, stream_stepped, first_stepped, documents_stepped, directives_stepped, plain_mute}

-- the step, by the fault of a handle that the token meets
abbrev pub Step : List Token → Directives → Token → Option Fault → Fed → Type 0
Step past ds t (Some f) (stop is e) = read_all is ds ≡ bad f
Step past ds t (Some f) (go is s) = read_all is ds ≡ bad f
Step past ds t None fed = Stepped past ds t fed

-- ---- no properties before the token

pub no_ended : (past : List Token) (b : TokenBody) → (last_in past ≡ property → ⊥)
    → ended_tag past b ≡ None
no_ended past b h = grind (arith, last_of)

pub no_handle : (past : List Token) (b : TokenBody) → ended_tag past b ≡ None
    → handle_fault past b ≡ None
no_handle past b h = ap (λ (o : Option NodeTag). tag_fault o (document_directives past)) h

quiet_step : (past : List Token) (ds : Directives) (t : Token) (fed : Fed)
    → handle_fault past t.body ≡ None → Stepped past ds t fed
    → Step past ds t (handle_fault past t.body) fed
quiet_step past ds t fed h k = subst (λ (f : Option Fault). Step past ds t f fed) (sym h) k

-- ---- properties before it

faulty : (past : List Token) (ds : Directives) (t : Token) (f : Option Fault) (i : RawEvent)
    (fed : Fed) → ((k : Directives → Done) → then_read (settle i ds) k ≡ by_fault f ds k)
    → Stepped past ds t fed → Step past ds t f (with_item i fed)
faulty past ds t (Some f) i (stop is e) q h = q (λ d. read_all is d)
faulty past ds t (Some f) i (go is s) q h = q (λ d. read_all is d)
faulty past ds t None i (stop is e) q h = subst (λ (z : Done). StillFine z) (sym (q (λ d. read_all is d))) h
  where
    StillFine : Done → Type 0
    StillFine (bad e) = ⊥
    StillFine (fine ds) = Unit {0}
faulty past ds t None i (go is s) q h = subst (λ (z : Done). StepRead past t z s) (sym (q (λ d. read_all is d))) h

faulty_given : (past : List Token) (ds : Directives) (t : Token) (f : Option Fault)
    (i : Option RawEvent) (above s : List State) → HasFault i f ds
    → StepRead past t (fine ds) (above ++ s)
    → Step past ds t f (given_by (record { item = i; above = above }) s)
faulty_given past ds t f i above s q h = grind (arith, faulty)

quiet_given : (past : List Token) (ds : Directives) (t : Token) (i : Option RawEvent)
    (above s : List State) → i ≡ None → StepRead past t (fine ds) (above ++ s)
    → Stepped past ds t (given_by (record { item = i; above = above }) s)
quiet_given past ds t i above s q h = grind arith

joining : (w : Wants) (p : Properties) (start end : yaml_mark_t) (b : TokenBody)
    → joins p (type_of b) ≡ true → (with_properties_taken w p start end b).item ≡ None
joining w p start end b j = grind (arith, false≢true)

not_joining : (w : Wants) (p : Properties) (start end : yaml_mark_t) (b : TokenBody)
    (ts : List Token) (ds : Directives) → starts_content w (type_of b) ≡ true → Agree ts ds
    → HasFault (with_properties_taken w p start end b).item (tag_fault (tag_in p) ts) ds
not_joining w p start end (token.anchor name) ts ds c a = absurd (false≢true c)
not_joining w p start end (token.tag handle suffix) ts ds c a = absurd (false≢true c)
not_joining w p start end b ts ds c a = content_read w p start end b ts ds c a

by_ended : (past : List Token) (ds : Directives) (t : Token) (o : Option NodeTag) (fed : Fed)
    → ended_tag past t.body ≡ o → Step past ds t (tag_fault o (document_directives past)) fed
    → Step past ds t (handle_fault past t.body) fed
by_ended past ds t o fed e h = subst (λ (z : Option NodeTag). Step past ds t (tag_fault z (document_directives past)) fed) (sym e) h

properties_turn : (j c : Bool) (w : Wants) (p : Properties) (t : Token) (s : List State) (fed : Fed)
    (past : List Token) (ds : Directives)
    → joins p (type_of t.body) ≡ j → starts_content w (type_of t.body) ≡ c
    → PropsOf p.anchor p.tag p.from past → Agree (document_directives past) ds
    → (choice_at (state.with_properties w p) (type_of t.body) ≡ Take
    → StepRead past t (fine ds) ((with_properties_taken w p t.start_mark t.end_mark t.body).above
    ++ s)) → Stepped past ds t fed
    → Step past ds t (handle_fault past t.body)
    (turn (if j || c then Take else Leave) (state.with_properties w p) t s fed)
properties_turn true c w p t s fed past ds e f h a k r =
    let o : ended_tag past t.body ≡ None = joined p.anchor p.tag p.from p.to past t.body h e in
    quiet_step past ds t (given_by (with_properties_taken w p t.start_mark t.end_mark t.body) s) (no_handle past t.body o)
    (quiet_given past ds t (with_properties_taken w p t.start_mark t.end_mark t.body).item (with_properties_taken w p t.start_mark t.end_mark t.body).above s (joining w p t.start_mark t.end_mark t.body e)
    (k (ap (λ (b : Bool). if b || starts_content w (type_of t.body) then Take else Leave) e)))
properties_turn false true w p t s fed past ds e f h a k r =
    let o : ended_tag past t.body ≡ tag_in p = ended p.anchor p.tag p.from p.to past t.body h e in
    by_ended past ds t (tag_in p) (given_by (with_properties_taken w p t.start_mark t.end_mark t.body) s) o
    (faulty_given past ds t (tag_fault (tag_in p) (document_directives past)) (with_properties_taken w p t.start_mark t.end_mark t.body).item (with_properties_taken w p t.start_mark t.end_mark t.body).above s
    (not_joining w p t.start_mark t.end_mark t.body (document_directives past) ds f a)
    (k (ap (λ (b : Bool). if b || starts_content w (type_of t.body) then Take else Leave) e ∙ ap (λ (b : Bool). if b then Take else Leave) f)))
properties_turn false false w p t s fed past ds e f h a k r =
    let o : ended_tag past t.body ≡ tag_in p = ended p.anchor p.tag p.from p.to past t.body h e in
    by_ended past ds t (tag_in p) (with_item (properties_alone p) fed) o
    (faulty past ds t (tag_fault (tag_in p) (document_directives past)) (properties_alone p) fed (λ q. props_read p.anchor p.tag p.from p.to item.empty p.to (document_directives past) ds q a) r)

properties_step : (w : Wants) (p : Properties) (s : List State) (t : Token) (past : List Token)
    (ds : Directives) → IsInside s → Plain s → Nested (state.with_properties w p ∷ s)
    → Agree (document_directives past) ds
    → Agree (directives_before past) no_directives → PropsOf p.anchor p.tag p.from past
    → Step past ds t (handle_fault past t.body) (feed (state.with_properties w p ∷ s) t)
unfolding feed
properties_step w p [] t past ds i pl n a b h = absurd i
properties_step w p (y ∷ s) t past ds i pl n a b h =
    properties_turn (joins p (type_of t.body)) (starts_content w (type_of t.body)) w p t (y ∷ s) (feed (y ∷ s) t) past ds refl refl h a
    (λ e. inside_read past ds t (open_in (state.with_properties w p ∷ y ∷ s)) ((with_properties_taken w p t.start_mark t.end_mark t.body).above ++ (y ∷ s))
    (inside_kept (state.with_properties w p) t (y ∷ s) e tt pl n i) a)
    (mute_stepped y s t past ds (within y s i) (λ k. plain_mute y pl.0 k) pl.1 n.1 a b)

-- ---- each state on top

alone_step : (x : State) (s : List State) (t : Token) (past : List Token) (ds : Directives) → s ≡ []
    → told x ≡ last_in past → (told x ≡ property → ⊥) → Stepped past ds t (feed (x ∷ []) t)
    → Step past ds t (handle_fault past t.body) (feed (x ∷ s) t)
alone_step x s t past ds e l n h = grind (arith, quiet_step, no_handle, no_ended)

inside_step : (x : State) (s : List State) (t : Token) (past : List Token) (ds : Directives)
    → Within x s → (IsInner x → IsMute x) → Plain s → Nested (x ∷ s)
    → Agree (document_directives past) ds → told x ≡ last_in past
    → (told x ≡ property → ⊥) → (told x ≡ directive → ⊥)
    → Step past ds t (handle_fault past t.body) (feed (x ∷ s) t)
inside_step x s t past ds i m pl n a l p d = grind (arith, quiet_step, no_handle, no_ended, mute_stepped, none_before)

none_agreeing : (past : List Token) (ds : Directives) → (last_in past ≡ directive → ⊥)
    → Agree (directives_before past) ds → Agree [] ds
none_agreeing past ds n a = subst (λ (z : List Token). Agree z ds) (no_directives_before past n) a

pub step_read : (x : State) (s : List State) (t : Token) (past : List Token) (ds : Directives)
    → IsStack (x ∷ s) → Plain s → Nested (x ∷ s) → Dirs (x ∷ s) past ds → told x ≡ last_in past
    → PropsTop (x ∷ s) past
    → Step past ds t (handle_fault past t.body) (feed (x ∷ s) t)
step_read state.stream s t past ds i pl n d l p =
    alone_step state.stream s t past ds i l (λ e. cc) (stream_stepped past ds t.body t.start_mark t.end_mark (none_agreeing past ds (λ e. apart (l ∙ e)) d.0) d.1)
  where
    apart : nothing ≡ directive → ⊥
    apart e = cc
step_read state.first s t past ds i pl n d l p = alone_step state.first s t past ds i l (λ e. cc) (first_stepped past ds t.body t.start_mark t.end_mark d.0 d.1)
step_read state.documents s t past ds i pl n d l p =
    alone_step state.documents s t past ds i l (λ e. cc) (documents_stepped past ds t.body t.start_mark t.end_mark d (none_agreeing past ds (λ e. apart (l ∙ e)) d))
  where
    apart : other ≡ directive → ⊥
    apart e = cc
step_read (state.directives from) s t past ds i pl n d l p = alone_step (state.directives from) s t past ds i l (λ e. cc) (directives_stepped past ds t.body from t.start_mark t.end_mark d)
step_read (state.with_properties w q) s t past ds i pl n d l p = properties_step w q s t past ds i.1 pl n d (none_before past (λ e. apart (l ∙ e))) p
  where
    apart : property ≡ directive → ⊥
    apart e = cc
step_read state.document_end s t past ds i pl n d l p = inside_step state.document_end s t past ds (within state.document_end s i) (λ k. absurd k) pl n d l (λ e. cc) (λ e. cc)
step_read x s t past ds i pl n d l p = inside_step x s t past ds (within x s i) (λ k. tt) pl n d l (λ e. cc) (λ e. cc)
