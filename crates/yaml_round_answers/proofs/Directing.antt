-- Directives that are put one after another.
use Rattle.std.proofs.Common.{◌≡◌, ◌∙◌, ◌+◌, ◌<◌, ◌≤◌, ap, sym, subst, refl, suc, ℕ, List, [], ◌∷◌, ◌++◌, length, map, take, get_or, Option, Some, None, append_assoc}
use Rattle.yaml_parse.specs.declared.yaml_tag_directive_t.{yaml_tag_directive_t}
use Rattle.yaml_parse.specs.Events.{TagDirective, directive_of}
use Rattle.yaml_round_answers.specs.declared.record.yaml_c_span.{yaml_c_span}
use Rattle.yaml_round_answers.specs.declared.record.yaml_c_directive.{yaml_c_directive}
use Rattle.yaml_round_answers.specs.declared.listing.Listing.{Listing}
use Rattle.yaml_round_answers.specs.Records.{part_at, directive_at, in_front, all_directives}
use Rattle.yaml_round_answers.specs.Blocks.{directive_texts}
use Rattle.yaml_round_answers.specs.Listing.{Grows, PutsDirective, AppendsDirectives, AddsDirectives, PutsDirectives, HoldDirectives}
use Rattle.std.proofs.lemmas.List.{append-nil, map_more, take_all, length-map}
use Rattle.yaml_round_answers.proofs.Placing.{put_on, grows_on, grows_itself, part_stands}

-- the parts of a list that something is before
record Parted (o : Option TagDirective) (p : Option (List TagDirective)) (ts : List TagDirective) : Type 0 where
  first : TagDirective
  others : List TagDirective
  first_is : o ≡ Some first
  others_are : p ≡ Some others
  all : ts ≡ first ∷ others

some_list : (us ts : List TagDirective) → Some us ≡ Some ts → ts ≡ us
some_list us ts e = cc

parted : (o : Option TagDirective) (p : Option (List TagDirective)) (ts : List TagDirective)
    → in_front o p ≡ Some ts → Parted o p ts
parted None p ts e = absurd (cc)
parted (Some y) None ts e = absurd (cc)
parted (Some y) (Some ys) ts e = record { first = y; others = ys; first_is = refl; others_are = refl; all = some_list (y ∷ ys) ts e }

ap2_front : (o : Option TagDirective) (p : Option (List TagDirective)) (y : TagDirective)
    (ys : List TagDirective) → o ≡ Some y → p ≡ Some ys
    → in_front o p ≡ Some (y ∷ ys)
ap2_front o p y ys e f = rw (e, f) refl

-- one more directive
snoc : (bytes : List ℕ) (ds : List yaml_c_directive) (d : yaml_c_directive) (ts : List TagDirective)
    (t : TagDirective)
    → all_directives bytes ds ≡ Some ts → directive_at bytes d ≡ Some t
    → all_directives bytes (ds ++ d ∷ []) ≡ Some (ts ++ t ∷ [])
unfolding all_directives
snoc bytes [] d ts t e f = rw (f, some_list [] ts e) refl
snoc bytes (x ∷ ds) d ts t e f =
    let h = parted (directive_at bytes x) (all_directives bytes ds) ts e in
    ap2_front (directive_at bytes x) (all_directives bytes (ds ++ d ∷ [])) h.first (h.others ++ t ∷ []) h.first_is (snoc bytes ds d h.others t h.others_are f)
    ∙ ap (λ z. Some (z ++ t ∷ [])) (sym h.all)

-- directives after others
appended : (bytes : List ℕ) (ds fs : List yaml_c_directive) (ts us : List TagDirective)
    → all_directives bytes ds ≡ Some ts
    → all_directives bytes fs ≡ Some us → all_directives bytes (ds ++ fs) ≡ Some (ts ++ us)
unfolding all_directives
appended bytes [] fs ts us e f = rw (f, some_list [] ts e) refl
appended bytes (x ∷ ds) fs ts us e f =
    let h = parted (directive_at bytes x) (all_directives bytes ds) ts e in
    ap2_front (directive_at bytes x) (all_directives bytes (ds ++ fs)) h.first (h.others ++ us) h.first_is (appended bytes ds fs h.others us h.others_are f)
    ∙ ap (λ z. Some (z ++ us)) (sym h.all)

texts_snoc : (ts : List TagDirective) (t : TagDirective)
    → directive_texts (ts ++ t ∷ []) ≡ directive_texts ts ++ (t.handle ++ t.prefix)
unfolding directive_texts
texts_snoc [] t = append-nil (t.handle ++ t.prefix)
texts_snoc (x ∷ ts) t =
    ap (λ z. (x.handle ++ x.prefix) ++ z) (texts_snoc ts t) ∙ sym (append_assoc (x.handle ++ x.prefix) (directive_texts ts) (t.handle ++ t.prefix))

same_length : (bytes : List ℕ) (ds : List yaml_c_directive) (ts : List TagDirective)
    → all_directives bytes ds ≡ Some ts → length ds ≡ length ts
unfolding all_directives
same_length bytes [] ts e = rw (some_list [] ts e) refl
same_length bytes (x ∷ ds) ts e =
    let h = parted (directive_at bytes x) (all_directives bytes ds) ts e in
    ap suc (same_length bytes ds h.others h.others_are) ∙ sym (ap length h.all)

still : (old new : List ℕ) (ds : List yaml_c_directive) (ts : List TagDirective) → Grows old new
    → HoldDirectives old ds ts → HoldDirectives new ds ts
still old new ds ts g h more =
    subst (λ z. all_directives z ds ≡ Some ts) (sym (ap (λ z. z ++ more) g.is ∙ append_assoc old g.more more)) (h (g.more ++ more))

-- what the list meant before, and what was put after it
pub append_on : (old new : List ℕ) (ds fs : List yaml_c_directive) (ts us : List TagDirective)
    → Grows old new → HoldDirectives old ds ts
    → AppendsDirectives new ds us fs → HoldDirectives new fs (ts ++ us)
append_on old new ds fs ts us g h a more =
    subst (λ z. all_directives (new ++ more) z ≡ Some (ts ++ us)) (sym a.is)
    (appended (new ++ more) ds a.added ts us (still old new ds ts g h more) (a.hold more))

-- no directive
pub none_appended : (bytes : List ℕ) (ds : List yaml_c_directive) → AppendsDirectives bytes ds [] ds
unfolding all_directives
none_appended bytes ds = record { added = []; is = sym (append-nil ds); hold = λ more. refl }

put_at : (bytes : List ℕ) (d : yaml_c_directive) (t : TagDirective)
    → part_at bytes d.handle ≡ Some t.handle
    → part_at bytes d.prefix ≡ Some t.prefix → directive_at bytes d ≡ Some t
put_at bytes d t h p = rw (h, p) refl

one_more : (old l m : Listing) (ts : List TagDirective) (t : TagDirective) (d : yaml_c_directive)
    → AddsDirectives old ts l
    → PutsDirective l.bytes.items t m.bytes.items d
    → m.directives.items ≡ l.directives.items ++ d ∷ [] → m.events.items ≡ l.events.items
    → AddsDirectives old (ts ++ t ∷ []) m
one_more old l m ts t d a p e f = record {
  bytes = grows_on _ _ _ a.bytes p.grows;
  put = put_on _ _ _ (directive_texts ts) (t.handle ++ t.prefix) a.put p.put ∙ ap (λ z. old.bytes.items ++ z) (sym (texts_snoc ts t));
  added = a.added ++ d ∷ [];
  directives = e ∙ ap (λ z. z ++ d ∷ []) a.directives ∙ append_assoc old.directives.items a.added (d ∷ []);
  hold = λ more. snoc (m.bytes.items ++ more) a.added d ts t (still _ _ a.added ts p.grows a.hold more)
      (put_at (m.bytes.items ++ more) d t (p.handle more) (p.prefix more));
  events = f ∙ a.events;
}

all_put : (old l : Listing) (ts : List TagDirective) (s : yaml_c_span) → AddsDirectives old ts l
    → s.at ≡ length old.directives.items
    → s.len ≡ length ts → PutsDirectives old ts l s
all_put old l ts s a at len = record {
  bytes = a.bytes;
  put = a.put;
  list = record { added = a.added; is = a.directives; hold = a.hold };
  directives = record { more = a.added; is = a.directives };
  events = a.events;
  holds = λ more others.
      let n : length a.added ≡ length ts = same_length (l.bytes.items ++ more) a.added ts (a.hold more) in
      let e : part_at (l.directives.items ++ others) s ≡ Some a.added =
      rw a.directives (part_stands old.directives.items a.added others s at (len ∙ sym n)) in
      rw e (a.hold more);
}

pub none_put : (l : Listing) → AddsDirectives l [] l
unfolding all_directives directive_texts
none_put l = record {
  bytes = grows_itself l.bytes.items;
  put = sym (append-nil l.bytes.items);
  added = [];
  directives = sym (append-nil l.directives.items);
  hold = λ more. refl;
  events = refl;
}

-- the directive at the loop's place is added
pub next_put : (old l m : Listing) (xs : List yaml_tag_directive_t) (i : ℕ)
    (x : yaml_tag_directive_t) (d : yaml_c_directive)
    → i < length xs → x ≡ get_or xs i x → AddsDirectives old (map directive_of (take i xs)) l
    → PutsDirective l.bytes.items (directive_of x) m.bytes.items d
    → m.directives.items ≡ l.directives.items ++ d ∷ []
    → m.events.items ≡ l.events.items → AddsDirectives old (map directive_of (take (i + 1) xs)) m
next_put old l m xs i x d h is a p e f =
    let more : map directive_of (take (i + 1) xs) ≡ map directive_of (take i xs) ++ directive_of x ∷ [] =
    map_more directive_of xs i x h ∙ ap (λ z. map directive_of (take i xs) ++ directive_of z ∷ []) (sym is) in
    subst (λ z. AddsDirectives old z m) (sym more) (one_more old l m (map directive_of (take i xs)) (directive_of x) d a p e f)

-- after the last one
pub last_put : (old l : Listing) (xs : List yaml_tag_directive_t) (i : ℕ) (s : yaml_c_span)
    → length xs ≤ i
    → AddsDirectives old (map directive_of (take i xs)) l → s.at ≡ length old.directives.items
    → s.len ≡ length xs
    → PutsDirectives old (map directive_of xs) l s
last_put old l xs i s h a at len =
    all_put old l (map directive_of xs) s (subst (λ z. AddsDirectives old (map directive_of z) l) (take_all i xs h) a) at (len ∙ sym (length-map xs directive_of))
