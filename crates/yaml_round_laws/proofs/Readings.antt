-- Tokens have the same events where they are moved, moved, and end in the same fault, or in none.
use Rattle.std.proofs.Common.{◌≡◌, ℕ, List, [], ◌∷◌, ◌++◌, map, Option, Some, None, refl, sym, ap, subst, ◌∙◌, inl, inr}
use Rattle.yaml_round_laws.proofs.WindowsWords.{cases_Bool, yaml_mark_t, Fault, Token, Event, RawEvent, RawEventBody, Shape, Directives, Settled, refused, gave, noted, settle, settle_body, resolved, with_resolved, is_known_version, with_version, with_tag, directive_for, placed, State, Fed, stop, go, feed, run, moved_mark, moved_token, moved_fault, GoOn, end_at, parts, items_of, Plain, told_by, plain, read_of, went, halted, moved_event, IsMovedFault, IsMovedEnd}
use Rattle.yaml_parse_grammar.specs.declared.ParseProblem.TheVariants as problem
use Rattle.yaml_parse_grammar.specs.Items as item
use Rattle.yaml_parse_laws_trees.proofs.Grounding.{Stands}
use Rattle.yaml_parse_laws_trees.proofs.Noting.{with_event, then_through, through, Fine, stands_feed}
use Rattle.yaml_round_laws.proofs.Machine.{moved_state, moved_item, moved_body, IsMovedFed, fault_moved, feed_moved}

abbrev pub moved_tokens : ℕ → ℕ → List Token → List Token
moved_tokens d n ts = map (moved_token d n) ts

-- the events are moved, and so is what ends them
abbrev pub IsMovedPlain : ℕ → ℕ → Plain → Plain → Type 0
IsMovedPlain d n p q = (q.events ≡ map (moved_event d n) p.events) × IsMovedEnd d n p.ending q.ending

-- What equals readings that are moved is moved.
pub moved_as : (d n : ℕ) (p q x y : Plain) → x ≡ p → y ≡ q → IsMovedPlain d n p q
    → IsMovedPlain d n x y
moved_as d n p q x y e f h =
    subst (λ (z : Plain). IsMovedPlain d n z y) (sym e) (subst (λ (z : Plain). IsMovedPlain d n p z) (sym f) h)

-- A scanner's fault, where it is moved, is a moved one.
pub own_moved : (d n : ℕ) (f : Fault) → IsMovedFault d n f (moved_fault d n f)
own_moved d n f = record {
  kind = refl;
  problem = refl;
  offset = refl;
  number = refl;
  place = inl refl;
  context = refl;
  beside = inl refl;
  origin = refl;
}

-- ---- items

abbrev IsRefusedSo : ℕ → ℕ → Fault → Settled → Type 0
IsRefusedSo d n f (refused g) = IsMovedFault d n f g
IsRefusedSo d n f (gave body ds) = ⊥
IsRefusedSo d n f (noted ds) = ⊥

-- it settles as the other does, or both are refused
abbrev IsSettledSo : ℕ → ℕ → Settled → Settled → Type 0
IsSettledSo d n (refused f) y = IsRefusedSo d n f y
IsSettledSo d n x y = y ≡ x

resolved_so : (d n : ℕ) (o : Option (List ℕ)) (anchor : Option (List ℕ)) (shape : Shape)
    (a b : yaml_mark_t) (ds : Directives)
    → IsSettledSo d n (with_resolved o anchor shape a b ds) (with_resolved o anchor shape (moved_mark d n a) (moved_mark d n b) ds)
resolved_so d n None anchor shape a b ds = fault_moved d n problem.UndefinedHandle b a
resolved_so d n (Some tag) anchor shape a b ds = refl

version_so : (d n : ℕ) (v : _) (tags : List _) (major minor : _) (a : yaml_mark_t)
    → IsSettledSo d n (with_version v tags major minor a) (with_version v tags major minor (moved_mark d n a))
version_so d n (Some w) tags major minor a = fault_moved d n problem.DuplicateVersion a a
version_so d n None tags major minor a =
    elim (cases_Bool (is_known_version major minor)) [
      | inl e ↦ rw e refl
      | inr e ↦ rw e (fault_moved d n problem.IncompatibleVersion a a)
    ]

handle_so : (d n : ℕ) (o : Option (List ℕ)) (ds : Directives) (handle prefix : List ℕ)
    (a : yaml_mark_t)
    → IsSettledSo d n (with_tag o ds handle prefix a) (with_tag o ds handle prefix (moved_mark d n a))
handle_so d n (Some x) ds handle prefix a = fault_moved d n problem.DuplicateHandle a a
handle_so d n None ds handle prefix a = refl

settled_so : (d n : ℕ) (b : RawEventBody) (from : yaml_mark_t) (ds : Directives)
    → IsSettledSo d n (settle_body b from ds) (settle_body (moved_body d n b) (moved_mark d n from) ds)
settled_so d n (item.version_directive major minor) from ds = version_so d n ds.version ds.tags major minor from
settled_so d n (item.tag_directive handle prefix) from ds = handle_so d n (directive_for handle ds.tags) ds handle prefix from
settled_so d n (item.node anchor (Some tag) shape) from ds =
    resolved_so d n (resolved ds.tags tag.handle tag.suffix) anchor shape from tag.mark ds
settled_so d n _ from ds = refl

-- Items that come first, the same where they are moved: only where all of them settle the others
-- count.
front_moved : (d n : ℕ) (is : List RawEvent) (ds : Directives) (js ks : List RawEvent)
    (f g : Option Fault)
    → ((es : List Event) (behind : Directives) → through is ds ≡ Some (es, behind) → IsMovedPlain d n (plain js f behind) (plain ks g behind))
    → IsMovedPlain d n (plain (is ++ js) f ds) (plain (map (moved_item d n) is ++ ks) g ds)
front_moved d n [] ds js ks f g h = h [] ds refl
front_moved d n (i ∷ is) ds js ks f g h =
    by (settle i ds) (settle (moved_item d n i) ds) refl (settled_so d n i.body i.from ds) (λ z k. front_moved d n is z js ks f g k)
  where
    by : (y w : Settled) → settle i ds ≡ y → IsSettledSo d n y w
        → ((z : Directives) → ((es : List Event) (behind : Directives) → through is z ≡ Some (es, behind) → IsMovedPlain d n (plain js f behind) (plain ks g behind))
        → IsMovedPlain d n (plain (is ++ js) f z) (plain (map (moved_item d n) is ++ ks) g z))
        → IsMovedPlain d n (told_by y i (λ z. plain (is ++ js) f z)) (told_by w (moved_item d n i) (λ z. plain (map (moved_item d n) is ++ ks) g z))
    by (refused x) (refused v) e so rec = (refl, so)
    by (refused x) (gave body z) e so rec = absurd so
    by (refused x) (noted z) e so rec = absurd so
    by (gave body z) w e so rec =
        let r = rec z (λ es behind t. h (placed body i ∷ es) behind (ap (λ v. then_through v i (λ x. through is x)) e ∙ ap (with_event (placed body i)) t)) in
        subst (λ (v : Settled). IsMovedPlain d n (told_by (gave body z) i (λ x. plain (is ++ js) f x)) (told_by v (moved_item d n i) (λ x. plain (map (moved_item d n) is ++ ks) g x))) (sym so)
        (ap (λ (l : List Event). placed body (moved_item d n i) ∷ l) r.0, r.1)
    by (noted z) w e so rec =
        subst (λ (v : Settled). IsMovedPlain d n (plain (is ++ js) f z) (told_by v (moved_item d n i) (λ x. plain (map (moved_item d n) is ++ ks) g x))) (sym so)
        (rec z (λ es behind t. h es behind (ap (λ v. then_through v i (λ x. through is x)) e ∙ t)))

-- ---- tokens

-- A token: the others count where it is taken, and its items settle.
step_moved : (d n : ℕ) (t : Token) (ts : List Token) (s : List State) (ds : Directives)
    (f g : Option Fault)
    → ((is : List RawEvent) (z : List State) (es : List Event) (behind : Directives) → feed s t ≡ go is z → through is ds ≡ Some (es, behind)
    → IsMovedPlain d n (read_of (run ts z f) behind) (read_of (run (moved_tokens d n ts) (map (moved_state d n) z) g) behind))
    → IsMovedPlain d n (read_of (run (t ∷ ts) s f) ds) (read_of (run (moved_tokens d n (t ∷ ts)) (map (moved_state d n) s) g) ds)
step_moved d n t ts s ds f g h =
    by (feed s t) (feed (map (moved_state d n) s) (moved_token d n t)) refl refl (feed_moved d n s t)
  where
    by : (x y : Fed) → feed s t ≡ x → feed (map (moved_state d n) s) (moved_token d n t) ≡ y
        → IsMovedFed d n x y
        → IsMovedPlain d n (read_of (run (t ∷ ts) s f) ds) (read_of (run (moved_tokens d n (t ∷ ts)) (map (moved_state d n) s) g) ds)
    by (stop is p) (stop js q) e k (same, fault) =
        moved_as d n (plain (is ++ []) (Some p) ds) (plain (map (moved_item d n) is ++ []) (Some q) ds) _ _
        (halted t ts s f is p ds e)
        (halted (moved_token d n t) (moved_tokens d n ts) (map (moved_state d n) s) g js q ds k ∙ ap (λ y. plain (y ++ []) (Some q) ds) same)
        (front_moved d n is ds [] [] (Some p) (Some q) (λ es behind told. (refl, fault)))
    by (go is z) (go js w) e k (same, stack) =
        let more = moved_tokens d n ts in
        let over = map (moved_state d n) z in
        moved_as d n (plain (is ++ items_of (run ts z f).items) (run ts z f).ending ds) (plain (map (moved_item d n) is ++ items_of (run more over g).items) (run more over g).ending ds) _ _
        (went t ts s z f is ds e)
        (went (moved_token d n t) more (map (moved_state d n) s) over g (map (moved_item d n) is) ds (k ∙ ap (λ y. go y w) same ∙ ap (λ y. go (map (moved_item d n) is) y) stack))
        (front_moved d n is ds (items_of (run ts z f).items) (items_of (run more over g).items) (run ts z f).ending (run more over g).ending (λ es behind told. h is z es behind e told))
    by (stop is p) (go js w) e k m = absurd m
    by (go is z) (stop js q) e k m = absurd m

cut_off : (d n : ℕ) (s : List State) (ds : Directives) (f : Fault)
    → IsMovedPlain d n (read_of (run [] s (Some f)) ds) (read_of (run [] (map (moved_state d n) s) (Some (moved_fault d n f))) ds)
unfolding run
cut_off d n [] ds f = (refl, tt)
cut_off d n (x ∷ s) ds f = (refl, own_moved d n f)

-- Tokens that a scanner's fault ends.
pub refused_moved : (d n : ℕ) (ts : List Token) (s : List State) (ds : Directives) (f : Fault)
    → IsMovedPlain d n (read_of (run ts s (Some f)) ds) (read_of (run (moved_tokens d n ts) (map (moved_state d n) s) (Some (moved_fault d n f))) ds)
refused_moved d n [] s ds f = cut_off d n s ds f
refused_moved d n (t ∷ ts) s ds f =
    step_moved d n t ts s ds (Some f) (Some (moved_fault d n f)) (λ is z es behind took told. refused_moved d n ts z behind f)

nothing_moved : (d n : ℕ) (ds : Directives)
    → IsMovedPlain d n (read_of (run [] [] None) ds) (read_of (run [] [] None) ds)
unfolding run feed
nothing_moved d n ds = (refl, tt)

-- nothing is after the stream's end
emptied : (s : List State) (ds : Directives) → Stands s ds → (m e : yaml_mark_t)
    → (is : List RawEvent)
    (z : List State) → feed s (end_at m e) ≡ go is z → z ≡ []
emptied s ds g m e is z took =
    elim (parts s ds g m e e) [
      | inl r ↦ same (sym took ∙ r.ends)
      | inr (js, p, stops) ↦ absurd (apart (sym took ∙ stops))
    ]
  where
    same : {is js : List RawEvent} {z w : List State} → go is z ≡ go js w → z ≡ w
    same e = cc

    apart : {is js : List RawEvent} {z : List State} {p : Fault} → go is z ≡ stop js p → ⊥
    apart e = cc

-- Tokens that end in STREAM-END.
pub ended_moved : (d n : ℕ) (front : List Token) (s : List State) (ds : Directives) → Stands s ds
    → GoOn front
    → (m e : yaml_mark_t)
    → IsMovedPlain d n (read_of (run (front ++ end_at m e ∷ []) s None) ds) (read_of (run (moved_tokens d n (front ++ end_at m e ∷ [])) (map (moved_state d n) s) None) ds)
ended_moved d n [] s ds g goes m e =
    step_moved d n (end_at m e) [] s ds None None
    (λ is z es behind took told. subst (λ (w : List State). IsMovedPlain d n (read_of (run [] w None) behind) (read_of (run [] (map (moved_state d n) w) None) behind)) (sym (emptied s ds g m e is z took)) (nothing_moved d n behind))
ended_moved d n (t ∷ front) s ds g goes m e =
    step_moved d n t (front ++ end_at m e ∷ []) s ds None None
    (λ is z es behind took told. ended_moved d n front z behind (subst (λ x. Fine x ds) took (stands_feed s ds g t goes.0) es behind told) goes.1 m e)
