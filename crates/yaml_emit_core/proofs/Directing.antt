-- A document's directives, one by one or by their index.
use Rattle.std.proofs.Common.{◌≡◌, ℕ, ◌+◌, ◌<◌, ◌≤◌, List, [], length, drop, get_or, map, true, false, sym, ◌∙◌, ap, arith, subst, Option, None, Some}
use Rattle.std.specs.Prelude.{Vec}
use Rattle.std.specs.Global.{Global}
use Rattle.std.proofs.lemmas.List.{get_or-map, length-map}
use Rattle.yaml_scan_model.specs.declared.record.yaml_tag_directive_t.{yaml_tag_directive_t}
use Rattle.yaml_parse_model.specs.Events.{TagDirective, directive_of}
use Rattle.yaml_emit_layout.specs.Tags.{has_shorter_prefix, directive_for, defines}
use Rattle.yaml_emit_core.specs.Prefixes.{entry_of, directive_at, IsFirstShorter, IsNumber}
use Rattle.yaml_emit_core.specs.TableView.{IsIndexed}
use Rattle.yaml_emit_core.proofs.TableLemmas.{next_of, none_of, chosen}
use Rattle.yaml_emit_core.proofs.Sorting.{begins}
use Rattle.yaml_emit_core.proofs.Numbering.{number_by}

pub none_defined : (ds : List yaml_tag_directive_t) (handle : List ℕ) → ds ≡ []
    → false ≡ defines (map directive_of ds) handle
unfolding defines
none_defined ds handle e = sym (ap (λ t. defines (map directive_of t) handle) e)

pub mapped_at : (ds : List yaml_tag_directive_t) (i : ℕ) (d : yaml_tag_directive_t) → i < length ds
    → d ≡ get_or ds i d → directive_at (map directive_of ds) i ≡ directive_of d
mapped_at ds i d h is = get_or-map directive_of ds i d _ h ∙ ap directive_of (sym is)

-- ---- one by one

pub walk_found : (ds : List yaml_tag_directive_t) (i : ℕ) (d : yaml_tag_directive_t)
    (tag t : List ℕ) → i < length ds → d ≡ get_or ds i d → t ≡ (get_or ds i d).prefix.items
    → directive_for (map directive_of ds) tag ≡ directive_for (map directive_of (drop i ds)) tag
    → has_shorter_prefix t tag ≡ true → IsNumber (map directive_of ds) tag (Some i)
walk_found ds i d tag t h is te e f =
    let same : (directive_of d).prefix ≡ t = ap (λ (x : yaml_tag_directive_t). x.prefix.items) is ∙ sym te in
    let has : has_shorter_prefix (directive_of d).prefix tag ≡ true = ap (λ p. has_shorter_prefix p tag) same ∙ f in
    let there : directive_at (map directive_of ds) i ≡ directive_of d = mapped_at ds i d h is in
    let P : TagDirective → Type 0 = λ z. length z.prefix < length tag in (
      omega (arith, length-map ds directive_of),
      subst P (sym there) (begins (directive_of d).prefix tag has).shorter,
      e ∙ ap (λ z. directive_for z tag) (next_of ds i d h is) ∙ chosen (directive_of d) (map directive_of (drop (i + 1) ds)) tag true has ∙ ap Some (sym there),
    )

pub walk_more : (ds : List yaml_tag_directive_t) (i : ℕ) (d : yaml_tag_directive_t) (tag t : List ℕ)
    → i < length ds → d ≡ get_or ds i d → t ≡ (get_or ds i d).prefix.items
    → directive_for (map directive_of ds) tag ≡ directive_for (map directive_of (drop i ds)) tag
    → has_shorter_prefix t tag ≡ false
    → directive_for (map directive_of ds) tag
    ≡ directive_for (map directive_of (drop (i + 1) ds)) tag
walk_more ds i d tag t h is te e f =
    let same : (directive_of d).prefix ≡ t = ap (λ (x : yaml_tag_directive_t). x.prefix.items) is ∙ sym te in
    let has : has_shorter_prefix (directive_of d).prefix tag ≡ false = ap (λ p. has_shorter_prefix p tag) same ∙ f in
    e ∙ ap (λ z. directive_for z tag) (next_of ds i d h is) ∙ chosen (directive_of d) (map directive_of (drop (i + 1) ds)) tag false has

pub walk_none : (ds : List yaml_tag_directive_t) (i : ℕ) (tag : List ℕ) → length ds ≤ i
    → directive_for (map directive_of ds) tag ≡ directive_for (map directive_of (drop i ds)) tag
    → directive_for (map directive_of ds) tag ≡ None
unfolding directive_for
walk_none ds i tag h e = e ∙ ap (λ z. directive_for z tag) (none_of ds i h)

-- ---- by the index

pub number_indexed : (ds : List TagDirective) (s : Option (Vec (Vec ℕ Global × ℕ) Global))
    (es : Vec (Vec ℕ Global × ℕ) Global) (items : List (Vec ℕ Global × ℕ)) (tag : List ℕ)
    (best : Option ℕ) → s ≡ Some es → items ≡ es.items → IsIndexed ds s
    → IsFirstShorter (map entry_of items) tag (length tag) best → IsNumber ds tag best
number_indexed ds s es items tag best is same x f =
    let P : Option (Vec (Vec ℕ Global × ℕ) Global) → Type 0 = λ o. IsIndexed ds o in
    let Q : List (Vec ℕ Global × ℕ) → Type 0 = λ z. IsFirstShorter (map entry_of z) tag (length tag) best in
    number_by ds (map entry_of es.items) tag best (subst P is x) (subst Q same f)
