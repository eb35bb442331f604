-- Which directives are noted with a stack.
use Rattle.std.proofs.Common.{◌≡◌, ◌≢◌, Bool, true, if◌then◌else◌, List, [], ◌∷◌, Option, Some, None, refl, sym, ap, subst, ◌∙◌, arith}
use Rattle.std.proofs.lemmas.Option.{same_Some}
use Rattle.yaml_parse_laws_trees.proofs.WindowsWords.{yaml_mark_t, Token, TokenBody, type_of, Event, Refuse, Take, Leave, Open, Choice, Root, Block, RawEvent, item_at, Directives, no_directives, Settled, refused, gave, noted, settle, placed, State, starts_node, choice_at, taken_at, Fed, stop, go, with_item, turn, feed}
use Rattle.yaml_parse_grammar.specs.scan_types.Tokens as token
use Rattle.yaml_parse_grammar.specs.declared.ParseProblem.TheVariants as problem
use Rattle.yaml_parse_grammar.specs.Items as item
use Rattle.yaml_parse_grammar.specs.States as state
use Rattle.yaml_parse_grammar.specs.Machine.{parts_documents, documents_taken, given_by}
use Rattle.yaml_parse_laws_trees.proofs.Grounding.{Within, Stands, inner, inner_on, taken_inner, not_open}
use Rattle.yaml_parse_grammar.proofs.Rules.{leave_rule, open_rule}

-- ---- what items come to, where none is refused

abbrev pub with_event : Event → Option (List Event × Directives) → Option (List Event × Directives)
with_event e None = None
with_event e (Some x) = Some (e ∷ x.0, x.1)

abbrev pub then_through : Settled → RawEvent → (Directives → Option (List Event × Directives))
    → Option (List Event × Directives)
then_through (refused f) i k = None
then_through (gave body ds) i k = with_event (placed body i) (k ds)
then_through (noted ds) i k = k ds

-- their events, and the directives after them
abbrev pub through : List RawEvent → Directives → Option (List Event × Directives)
through [] ds = Some ([], ds)
through (i ∷ is) ds = then_through (settle i ds) i (λ x. through is x)

-- Nothing is not something.
pub none_some : {A : Type 0} {x : A} → None ≡ Some x → ⊥
none_some e = cc

pub pair_last : {x y : List Event × Directives} → Some x ≡ Some y → x.1 ≡ y.1
pair_last e = let same = same_Some _ _ e in ap (λ (z : List Event × Directives). z.1) same

-- ---- a stack after a token

abbrev pub Fine : Fed → Directives → Type 0
Fine (stop is f) ds = Unit {0}
Fine (go is s) ds = (es : List Event) (behind : Directives) → through is ds ≡ Some (es, behind) → Stands s behind

abbrev pub Follows : Settled → Directives → Type 0
Follows (refused f) ds = ⊥
Follows (gave body x) ds = x ≡ ds
Follows (noted x) ds = x ≡ ds

leave_fine : (i : RawEvent) (x : Fed) (ds : Directives) (y : Settled) → settle i ds ≡ y
    → ((z : Directives) → Follows y z → Fine x z) → Fine (with_item i x) ds
leave_fine i (stop is f) ds y e h = tt
leave_fine i (go is s) ds (refused f) e h = λ es behind t. absurd (none_some (ap (λ w. then_through w i (λ x. through is x)) (sym e) ∙ t))
leave_fine i (go is s) ds (noted z) e h = λ es behind t. h z refl es behind (ap (λ w. then_through w i (λ x. through is x)) (sym e) ∙ t)
leave_fine i (go is s) ds (gave body z) e h = λ es behind t.
    go_on (through is z) refl es behind (ap (λ w. then_through w i (λ x. through is x)) (sym e) ∙ t)
  where
    go_on : (o : Option (List Event × Directives)) → through is z ≡ o → (es : List Event) (behind : Directives)
        → with_event (placed body i) (through is z) ≡ Some (es, behind) → Stands s behind
    go_on None f es behind t = absurd (none_some (ap (with_event (placed body i)) (sym f) ∙ t))
    go_on (Some x) f es behind t =
        let last : x.1 ≡ behind = pair_last (ap (with_event (placed body i)) (sym f) ∙ t) in
        subst (Stands s) last (h z refl x.0 x.1 f)

pub within_stands : (s : List State) (ds : Directives) → Within s → Stands s ds
within_stands s ds w = grind arith

plain_fine : (c : Choice) (x : State) (t : Token) (s : List State) (ds : Directives)
    → inner (taken_at x t).above ≡ true → Within s → ((z : Directives) → Fine (feed s t) z) → c ≢ Open
    → Fine (turn c x t s (feed s t)) ds
plain_fine c x t s ds h w below shut = grind (arith, within_stands, inner_on, leave_fine)

stream_fine : (start end : yaml_mark_t) (b : TokenBody) (ds : Directives) → ds ≡ no_directives
    → Fine (turn (choice_at state.stream (type_of b)) state.stream (record { body = b; start_mark = start; end_mark = end }) [] (feed [] (record { body = b; start_mark = start; end_mark = end }))) ds
stream_fine start end b ds none = grind (arith, pair_last)

documents_fine : (from start end : yaml_mark_t) (b : TokenBody) (ds : Directives)
    → b ≢ token.stream_end
    → ds ≡ no_directives → Fine (given_by (documents_taken from start end b) []) ds
documents_fine from start end b ds h none = grind (arith, pair_last)

opened_fine : (t : Token) (ds : Directives)
    → Fine (with_item (item_at (item.document true) t.start_mark t.start_mark) (given_by (taken_at (state.optional Root t.start_mark) t) (state.document_end ∷ state.documents ∷ []))) ds
opened_fine t ds = grind (arith, within_stands, inner_on, taken_inner)

first_fine : (a b : Bool) (t : Token) (ds : Directives) → t.body ≢ token.stream_end → ds
    ≡ no_directives
    → Fine (turn (if a then Take else if b then Open else Refuse problem.NoBlockNode None) state.first t [] (feed [] t)) ds
first_fine a b t ds h none = grind (arith, documents_fine, opened_fine)

between_fine : (c : Choice) (t : Token) (ds : Directives) → t.body ≢ token.stream_end → ds
    ≡ no_directives
    → c ≢ Leave → c ≢ Open → Fine (turn c state.documents t [] (feed [] t)) ds
between_fine c t ds h none k l = grind (arith, documents_fine)

directives_fine : (from start end : yaml_mark_t) (b : TokenBody) (ds : Directives)
    → Fine (turn (choice_at (state.directives from) (type_of b)) (state.directives from) (record { body = b; start_mark = start; end_mark = end }) [] (feed [] (record { body = b; start_mark = start; end_mark = end }))) ds
directives_fine from start end b ds = grind arith

last_fine : (c : Choice) (t : Token) (s : List State) (ds : Directives) → s ≡ state.documents ∷ []
    → Fine (feed s t) no_directives → c ≢ Open → Fine (turn c state.document_end t s (feed s t)) ds
last_fine c t s ds is below shut = grind (arith, pair_last, leave_fine)

-- A stack is after each token but the stream's end, with the directives that are noted then.
pub stands_feed : (s : List State) (ds : Directives) → Stands s ds → (t : Token)
    → t.body ≢ token.stream_end → Fine (feed s t) ds
unfolding feed
stands_feed [] ds g t h = absurd g
stands_feed (state.stream ∷ s) ds g t h = rw (g.0) (stream_fine t.start_mark t.end_mark t.body ds g.1)
stands_feed (state.first ∷ s) ds g t h = rw (g.0) (first_fine (parts_documents (type_of t.body)) (starts_node (Block None) (type_of t.body)) t ds h g.1)
stands_feed (state.documents ∷ s) ds g t h = grind (arith, between_fine, leave_rule, open_rule)
stands_feed (state.directives from ∷ s) ds g t h = rw g (directives_fine from t.start_mark t.end_mark t.body ds)
stands_feed (state.document_end ∷ s) ds g t h = grind (arith, last_fine, not_open)
stands_feed (x ∷ s) ds g t h = plain_fine (choice_at x (type_of t.body)) x t s ds (taken_inner x t refl) g (λ z. stands_feed s z (within_stands s z g) t h) (not_open x (type_of t.body) refl)
