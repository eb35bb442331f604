-- A table of handles by their bytes.
use Rattle.std.proofs.Common.{◌≡◌, ℕ, Bool, true, false, if◌then◌else◌, List, [], ◌∷◌, ◌++◌, map, Option, Some, None, option_map, cond, is_some, refl, ap, sym, ◌∙◌, Vec}
use Rattle.std.proofs.Math.Bool.{true≢false}
use Rattle.std.specs.Global.{Global}
use Rattle.std.specs.Str.{bytes_eq}
use Rattle.std.specs.declared.cmp.Ordering.TheVariants.{Less, Equal, Greater}
use Rattle.std.specs.Ordering.{nat_cmp, match_ordering, eq_by_cmp}
use Rattle.std.specs.Cmp.Lexicographic.{slice_cmp, nat_list_cmp_total, nat_list_eq_equiv, texts_ties}
use Rattle.std.proofs.lemmas.Slice.Eq.{bytes_eq-Decides}
use Rattle.std.proofs.lemmas.List.{map-append}
use Rattle.std.specs.Map.{lookup}
use Rattle.std.specs.BTreeMap.{is_at, insert_entry}
use Rattle.std.specs.FinMap.{find, put}
use Rattle.std.specs.FinMap.Entries.{by_order, find-put}
use Rattle.yaml_parse_model.specs.declared.yaml_tag_directive_t.{yaml_tag_directive_t}
use Rattle.yaml_parse_model.specs.Events.{TagDirective, directive_of}
use Rattle.yaml_parse_grammar.specs.Resolve.{directive_for}
use Rattle.yaml_parse_states.specs.TagView.{entry_of, TellsAll}

abbrev Text : Type 0
Text = Vec ℕ Global

text_of : Text → List ℕ
text_of t = t.items

pub looked : (name : List ℕ) (es : List (Text × Text))
    → option_map (λ (v : Text). v.items)
    (lookup (is_at (λ (k : Text). slice_cmp nat_cmp name k.items)) es)
    ≡ find (slice_cmp nat_cmp) name (map entry_of es)
looked name [] = refl
looked name (e ∷ es) =
    elim (eq_by_cmp (slice_cmp nat_cmp) name e.0.items) as (λ b. option_map (λ (v : Text). v.items) (cond b (Some e.1) (lookup (is_at (λ (k : Text). slice_cmp nat_cmp name k.items)) es)) ≡ cond b (Some e.1.items) (find (slice_cmp nat_cmp) name (map entry_of es))) [
      | true ↦ refl
      | false ↦ looked name es
    ]

put_pair : (es : List (Text × Text)) (k v : Text)
    → map entry_of (insert_entry (λ (a b : Text). slice_cmp nat_cmp a.items b.items) es k v)
    ≡ put (slice_cmp nat_cmp) k.items v.items (map entry_of es)
put_pair [] k v = refl
put_pair (e ∷ es) k v =
    elim (slice_cmp nat_cmp k.items e.0.items) as (λ r. map entry_of (match_ordering r ((k, v) ∷ e ∷ es) ((e.0, v) ∷ es) (e ∷ insert_entry (λ (a b : Text). slice_cmp nat_cmp a.items b.items) es k v))
    ≡ by_order r ((k.items, v.items) ∷ entry_of e ∷ map entry_of es) ((e.0.items, v.items) ∷ map entry_of es) (entry_of e ∷ put (slice_cmp nat_cmp) k.items v.items (map entry_of es))) [
      | Less ↦ refl
      | Equal ↦ refl
      | Greater ↦ ap (λ es. entry_of e ∷ es) (put_pair es k v)
    ]

joined : (h q k : List ℕ) → bytes_eq h k ≡ false → bytes_eq q k ≡ true → bytes_eq h q ≡ true → ⊥
joined h q k n a b = true≢false (sym ((bytes_eq-Decides h k).1 ((bytes_eq-Decides h q).0 b ∙ (bytes_eq-Decides q k).0 a)) ∙ n)

-- ---- a new handle

not_found : {A : Type 0} (m : Bool) (v : A) (o : Option A) → (if m then Some v else o) ≡ None
    → (m ≡ false) × (o ≡ None)
not_found true v o e = absurd (true≢false (ap is_some e))
not_found false v o e = (refl, e)

passes : {A : Type 0} (a b : Bool) (u v r more : A) → (a ≡ true → b ≡ true → ⊥) → cond a u r ≡ more
    → cond a u (if b then v else r) ≡ (if b then v else more)
passes true true u v r more n e = absurd (n refl refl)
passes false true u v r more n e = refl
passes a false u v r more n e = e

-- it is found after the others, and nothing else changes
for_new : (k p : List ℕ) (ts : List TagDirective) → directive_for k ts ≡ None → (q : List ℕ)
    → cond (bytes_eq q k) (Some p) (directive_for q ts)
    ≡ directive_for q (ts ++ record { handle = k; prefix = p } ∷ [])
unfolding directive_for
for_new k p [] e q = ap (λ (b : Bool). if b then Some p else None) (nat_list_eq_equiv.symm q k)
for_new k p (t ∷ ts) e q = passes (bytes_eq q k) (bytes_eq t.handle q) (Some p) (Some t.prefix) (directive_for q ts) (directive_for q (ts ++ record { handle = k; prefix = p } ∷ []))
    (joined t.handle q k (not_found (bytes_eq t.handle k) t.prefix (directive_for k ts) e).0)
    (for_new k p ts (not_found (bytes_eq t.handle k) t.prefix (directive_for k ts) e).1 q)

pub added : (tags : List TagDirective) (es : List (Text × Text)) (k p : Text)
    → directive_for k.items tags ≡ None → TellsAll tags es
    → TellsAll (tags ++ record { handle = k.items; prefix = p.items } ∷ [])
    (insert_entry (λ (a b : Text). slice_cmp nat_cmp a.items b.items) es k p)
added tags es k p n tells q =
    ap (find (slice_cmp nat_cmp) q) (put_pair es k p)
    ∙ find-put (slice_cmp nat_cmp) nat_list_cmp_total q k.items p.items (map entry_of es)
    ∙ ap (λ (b : Bool). cond b (Some p.items) (find (slice_cmp nat_cmp) q (map entry_of es))) (sym (texts_ties q k.items))
    ∙ ap (cond (bytes_eq q k.items) (Some p.items)) (tells q)
    ∙ for_new k.items p.items tags n q

pub indexed : (tags more : List yaml_tag_directive_t) (es after : List (Text × Text))
    (handle prefix k p : Text)
    → more ≡ tags ++ record { handle = handle; prefix = prefix } ∷ []
    → after ≡ insert_entry (λ (a b : Text). slice_cmp nat_cmp a.items b.items) es k p
    → k.items ≡ handle.items → p.items ≡ prefix.items
    → directive_for handle.items (map directive_of tags) ≡ None
    → TellsAll (map directive_of tags) es → TellsAll (map directive_of more) after
indexed tags more es after handle prefix k p is_more is_after is_name is_text n tells q =
    rw (is_after, is_more, map-append directive_of tags (record { handle = handle; prefix = prefix } ∷ []), sym is_name, sym is_text)
    (added (map directive_of tags) es k p (rw is_name n) tells q)

pub none_told : (es : List (Text × Text)) (tags : List yaml_tag_directive_t) → es ≡ [] → tags ≡ []
    → TellsAll (map directive_of tags) es
unfolding directive_for
none_told es tags e t h = ap (λ (es : List (Text × Text)). find (slice_cmp nat_cmp) h (map entry_of es)) e ∙ sym (ap (λ (ts : List yaml_tag_directive_t). directive_for h (map directive_of ts)) t)
