-- What the items of a step do to the directives, and which faults they have.
use Rattle.std.proofs.Common.{◌≡◌, ℕ, ℤ, Bool, true, false, if◌then◌else◌, ◌||◌, List, [], ◌∷◌, ◌++◌, Option, Some, None, is_some, option_map, codes, refl, arith}
use Rattle.yaml_parse_laws_trees.proofs.Words.{bytes_eq, yaml_mark_t, yaml_version_directive_t, Token, TokenBody, Fault, TagDirective, Wants, problem_text_of, context_text_of, context_place, RawEvent, Properties, Tag, Shape, item_at, State, content_taken, node_taken, taken_at, left_at, Directives, no_directives, Settled, refused, gave, noted, settle, directive_for, with_resolved, with_tag, with_version, is_known_version, directives_before, has_handle, NodeTag, directive_fault, or_default, default_prefix, has_version, version_fault, handle_twice, undefined_handle, is_version_1}
use Rattle.yaml_parse_model.specs.scan_types.Tokens as token
use Rattle.yaml_parse_laws_trees.specs.parse_grammar.Items as item
use Rattle.yaml_parse_laws_trees.specs.parse_grammar.States as state

-- ---- items one after another

-- a fault, or the directives from then on
pub data Done : Type 0 where
  bad : Fault → Done
  fine : Directives → Done

abbrev pub then_read : Settled → (Directives → Done) → Done
then_read (refused f) k = bad f
then_read (gave body ds) k = k ds
then_read (noted ds) k = k ds

abbrev pub read_all : List RawEvent → Directives → Done
read_all [] ds = fine ds
read_all (i ∷ is) ds = then_read (settle i ds) (λ d. read_all is d)

-- no fault, and the directives as they were
abbrev pub Quiet : Option RawEvent → Type 0
Quiet None = Unit {0}
Quiet (Some i) = (ds : Directives) (k : Directives → Done) → then_read (settle i ds) k ≡ k ds

content_quiet : (w : Wants) (start end : yaml_mark_t) (b : TokenBody)
    → Quiet (content_taken w None start end b).item
content_quiet w start end b = grind arith

pub node_quiet : (w : Wants) (start end : yaml_mark_t) (b : TokenBody)
    → Quiet (node_taken w start end b).item
node_quiet w start end b = grind (arith, content_quiet)

-- a state inside a document that isn't after properties
abbrev pub IsMute : State → Type 0
IsMute state.stream = ⊥
IsMute state.first = ⊥
IsMute state.documents = ⊥
IsMute (state.directives from) = ⊥
IsMute state.document_end = ⊥
IsMute (state.with_properties w p) = ⊥
IsMute _ = Unit {0}

taken_quiet_by : (x : State) (start end : yaml_mark_t) (b : TokenBody) → IsMute x
    → Quiet (taken_at x (record { body = b; start_mark = start; end_mark = end })).item
taken_quiet_by x start end b h = grind (arith, node_quiet)

pub taken_quiet : (x : State) (t : Token) → IsMute x → Quiet (taken_at x t).item
taken_quiet x t h = taken_quiet_by x t.start_mark t.end_mark t.body h

pub left_quiet : (x : State) (start : yaml_mark_t) → IsMute x → Quiet (Some (left_at x start))
left_quiet x start h = grind arith

-- ---- directives

-- the directives are those of the tokens
pub record Agree (ts : List Token) (ds : Directives) : Type 0 where
  pub version : is_some ds.version ≡ has_version ts
  pub handles : (h : List ℕ) → is_some (directive_for h ds.tags) ≡ has_handle h ts

pub none_agree : Agree [] no_directives
unfolding directive_for
none_agree = record { version = refl; handles = λ h. refl }

-- a directive gives the fault, or the directives agree after it
abbrev pub Behind : Option Fault → List Token → Done → Type 0
Behind fault ts (bad e) = fault ≡ Some e
Behind fault ts (fine ds) = (fault ≡ None) × Agree ts ds

version_done : (v : Option yaml_version_directive_t) (tags : List TagDirective) (known : Bool)
    (major minor : ℤ) (start end : yaml_mark_t) (ts : List Token)
    → is_known_version major minor ≡ known → Agree ts (record { version = v; tags = tags })
    → Behind (version_fault (has_version ts) known start)
    (record { body = token.version_directive major minor; start_mark = start; end_mark = end } ∷ ts)
    (then_read (with_version v tags major minor start) (λ d. fine d))
unfolding problem_text_of context_text_of context_place
version_done v tags known major minor start end ts k a = grind arith

pub version_read : (ds : Directives) (major minor : ℤ) (start end : yaml_mark_t) (past : List Token)
    → Agree (directives_before past) ds
    → Behind (directive_fault past (token.version_directive major minor) start)
    (directives_before (record {
      body = token.version_directive major minor;
      start_mark = start;
      end_mark = end;
    } ∷ past))
    (read_all (item_at (item.version_directive major minor) start end ∷ []) ds)
version_read ds major minor start end past a = version_done ds.version ds.tags (is_version_1 major minor) major minor start end (directives_before past) refl a

appended : (h : List ℕ) (tags : List TagDirective) (d : TagDirective)
    → is_some (directive_for h (tags ++ d ∷ []))
    ≡ (bytes_eq d.handle h || is_some (directive_for h tags))
unfolding directive_for
appended h [] d = one (bytes_eq d.handle h)
  where
    one : (b : Bool) → is_some (if b then Some d.prefix else None) ≡ (b || false)
    one true = refl
    one false = refl
appended h (c ∷ tags) d = two (bytes_eq c.handle h) (bytes_eq d.handle h) (directive_for h (tags ++ d ∷ [])) (directive_for h tags) (appended h tags d)
  where
    two : (a b : Bool) (x y : Option (List ℕ)) → is_some x ≡ (b || is_some y)
        → is_some (if a then Some c.prefix else x) ≡ (b || is_some (if a then Some c.prefix else y))
    two true true x y e = refl
    two true false x y e = refl
    two false b x y e = e

handle_done : (o : Option (List ℕ)) (ds : Directives) (handle prefix : List ℕ)
    (start end : yaml_mark_t) (ts : List Token) → is_some o ≡ has_handle handle ts → Agree ts ds
    → Behind (handle_twice (has_handle handle ts) start)
    (record { body = token.tag_directive handle prefix; start_mark = start; end_mark = end } ∷ ts)
    (then_read (with_tag o ds handle prefix start) (λ d. fine d))
unfolding problem_text_of context_text_of context_place
handle_done o ds handle prefix start end ts e a = grind (arith, appended)

pub handle_read : (ds : Directives) (handle prefix : List ℕ) (start end : yaml_mark_t)
    (past : List Token) → Agree (directives_before past) ds
    → Behind (directive_fault past (token.tag_directive handle prefix) start)
    (directives_before (record {
      body = token.tag_directive handle prefix;
      start_mark = start;
      end_mark = end;
    } ∷ past))
    (read_all (item_at (item.tag_directive handle prefix) start end ∷ []) ds)
handle_read ds handle prefix start end past a = handle_done (directive_for handle ds.tags) ds handle prefix start end (directives_before past) (a.handles handle) a

-- ---- tag handles

-- the tag of some properties
abbrev pub tag_in : Properties → Option NodeTag
tag_in p = of_tag p.tag
  where
    of_tag : Option Tag → Option NodeTag
    of_tag None = None
    of_tag (Some t) = Some (record { handle = t.handle; tag = t.mark; node = p.from })

-- what reading a node after properties gives, by the fault of its handle
abbrev pub by_fault : Option Fault → Directives → (Directives → Done) → Done
by_fault None ds k = k ds
by_fault (Some e) ds k = bad e

pub prefix_known : (handle : List ℕ)
    → is_some (default_prefix handle)
    ≡ (bytes_eq handle (codes "!") || bytes_eq handle (codes "!!"))
prefix_known handle = grind arith

pub resolved_done : (o : Option (List ℕ)) (a b : Bool) (handle suffix : List ℕ)
    (anchor : Option (List ℕ)) (shape : Shape) (from at : yaml_mark_t) (ds : Directives)
    (k : Directives → Done)
    → is_some o ≡ a → is_some (default_prefix handle) ≡ b
    → then_read (with_resolved (option_map (λ (prefix : List ℕ). prefix ++ suffix)
    (or_default o handle)) anchor shape from at ds) k
    ≡ by_fault (undefined_handle (a || b) (record { handle = handle; tag = at; node = from })) ds k
unfolding problem_text_of context_text_of context_place
resolved_done o a b handle suffix anchor shape from at ds k p q = grind (arith, by_fault)
