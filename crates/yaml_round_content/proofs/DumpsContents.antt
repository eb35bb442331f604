-- Events of the same content load the same documents, styles and marks aside.
use Rattle.std.proofs.Common.{◌≡◌, ◌↔◌, ℕ, Bool, true, false, ◌==◌, ◌&&◌, cond, List, [], ◌∷◌, length, Option, Some, None, refl, sym, ap, ◌∙◌, arith}
use Rattle.yaml_round_content.proofs.Words.{slice_index, nat_tests, and_parts, yaml_scalar_style_t, Fault, EventBody, str_tag, Told, is_bang, loaded_tag, nothing_loaded, is_lone_mark, normalize_scalar, normalize_body, content_of, contents, Loads, load_all, LoadsOfContent, LoadAlike}
use Rattle.yaml_parse_model.specs.Events as event
use Rattle.yaml_round_content.proofs.Core.{CoreLoading, CoreFed, core_goes_on, CoreLoads, core_leaf, core_scalar, core_loaded, core_refused, core_in_front, core_step, core_on, core_loads, core_nothing, is_fault, cores, bodies, load_cores}

-- ---- the lone tag `!` loads as no tag

bang_of : (t : List ℕ) → (length t == 1) ≡ true → (slice_index t 0 == 33) ≡ true → is_bang t ≡ true
bang_of [] e f = absurd (cc)
bang_of (c ∷ []) e f = f
bang_of (c ∷ d ∷ more) e f = absurd (grind (arith, nat_tests))

lone_tag : (tag : Option (List ℕ)) (value default : List ℕ) → is_lone_mark tag value ≡ true
    → loaded_tag tag default ≡ default
lone_tag None value default e = absurd (cc)
lone_tag (Some t) value default e =
    let (front, last) = and_parts (length value == 0 && length t == 1) (slice_index t 0 == 33) e in
    let (none, one) = and_parts (length value == 0) (length t == 1) front in
    ap (λ (b : Bool). cond b default t) (bang_of t one last)

-- ---- an event and what it says

scalar_said : (lone : Bool) (anchor tag : Option (List ℕ)) (value : List ℕ) (plain quoted : Bool)
    (style : yaml_scalar_style_t) (l : CoreLoading) → is_lone_mark tag value ≡ lone
    → core_step (event.scalar anchor tag value plain quoted style) l
    ≡ core_step (content_of (normalize_scalar lone anchor tag value plain quoted style)) l
scalar_said true anchor tag value plain quoted style l e =
    ap (λ (t : List ℕ). core_goes_on (core_leaf (length l.document.nodes) anchor (record { tag = t; body = (core_scalar tag value).body }) l)) (lone_tag tag value str_tag e)
scalar_said false anchor tag value plain quoted style l e = refl

pub said_step : (b : EventBody) (l : CoreLoading)
    → core_step b l ≡ core_step (content_of (normalize_body true b)) l
said_step (event.scalar anchor tag value plain quoted style) l = scalar_said (is_lone_mark tag value) anchor tag value plain quoted style l refl
said_step _ l = refl

-- Steps that go on alike load alike.
pub on_same : (x : CoreFed) (f g : CoreLoading → CoreLoads) → ((l : CoreLoading) → f l ≡ g l)
    → core_on x f ≡ core_on x g
on_same (core_goes_on l) f g h = h l
on_same (core_loaded d) f g h = ap (λ (a : CoreLoads). core_in_front d.nodes d a) (h core_nothing)
on_same core_refused f g h = refl

said_loads : (es : List Told) (f : Bool) (l : CoreLoading)
    → core_loads (bodies es) f l ≡ core_loads (contents es) f l
unfolding core_loads
said_loads [] f l = refl
said_loads (t ∷ es) f l =
    ap (λ (x : CoreFed). core_on x (core_loads (bodies es) f)) (said_step t.0.body l)
    ∙ on_same (core_step (content_of (normalize_body true t.0.body)) l) (core_loads (bodies es) f) (core_loads (contents es) f) (λ m. said_loads es f m)

-- what is loaded, without styles and marks, is a function of what the events say
pub loads_said : (es : List Told) (f : Option Fault)
    → cores (load_all es f nothing_loaded) ≡ core_loads (contents es) (is_fault f) core_nothing
loads_said es f = load_cores es f nothing_loaded ∙ said_loads es (is_fault f) core_nothing

-- ---- loads that agree

no_fault : (f : Option Fault) → is_fault f ≡ false → f ≡ None
no_fault None e = refl
no_fault (Some f) e = absurd (cc)

some_is_none : (f : Fault) → Some f ≡ None → ⊥
some_is_none f e = cc

pub faults_alike : (f g : Option Fault) → (f ≡ None) ↔ (g ≡ None) → is_fault f ≡ is_fault g
faults_alike None None e = refl
faults_alike None (Some g) e = absurd (some_is_none g (e.0 refl))
faults_alike (Some f) None e = absurd (some_is_none f (e.1 refl))
faults_alike (Some f) (Some g) e = refl

pub alike : (a b : Loads) → cores a ≡ cores b → LoadAlike a b
alike a b e = record {
  agree = ap (λ (x : CoreLoads). x.documents) e;
  both =
      (λ h. no_fault b.fault (sym (ap (λ (x : CoreLoads). x.refused) e) ∙ ap is_fault h), λ h. no_fault a.fault ((ap (λ (x : CoreLoads). x.refused) e) ∙ ap is_fault h));
}

pub loads_of_contents : LoadsOfContent
loads_of_contents es fs f g h e =
    alike (load_all es f nothing_loaded) (load_all fs g nothing_loaded)
    (loads_said es f ∙ ap (λ (b : Bool). core_loads (contents es) b core_nothing) (faults_alike f g h)
    ∙ ap (λ (bs : List EventBody). core_loads bs (is_fault g) core_nothing) e ∙ sym (loads_said fs g))
