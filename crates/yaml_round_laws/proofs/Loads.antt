-- What is answered is said of what is loaded.
use Rattle.std.proofs.lemmas.Bool.Decides.{nat_tests}
use Rattle.std.proofs.Common.{◌≡◌, inl, inr, ℕ, List, Option, Some, None, Result, Ok, Err, sym, subst, true, map, ap, ◌∙◌, arith}
use Rattle.yaml_round.specs.declared.yaml_encoding_t.{yaml_encoding_t}
use Rattle.yaml_round.specs.declared.yaml_encoding_t.TheVariants.{YAML_ANY_ENCODING}
use Rattle.yaml_emit_laws.specs.scan_types.Faults.{Fault}
use Rattle.yaml_round.specs.parse_model.Documents.{Document}
use Rattle.yaml_round_content.specs.Loads.{loads_of}
use Rattle.yaml_round_content.specs.PlainLoading.{PlainLoading, unless_faulty}
use Rattle.yaml_round_content.specs.Agree.{Agrees, core_of}
use Rattle.yaml_round_content.proofs.ReadBackWhole.{loads_are, documents_alike, inputs_load_alike, names_do_not_matter}
use Rattle.yaml_round_content.proofs.Loaded.{faultless_load, faulty_load, loading_loads}
use Rattle.yaml_round.specs.declared.yaml_settings_t.{yaml_settings_t}
use Rattle.yaml_round_engine.specs.Reload.{IsDumped, IsNormalOfDocuments, LaysOutLoading, IsReloaded}
use Rattle.yaml_round_laws.specs.Loads.{LaysOutLoads, AreLoadsReloaded, IsNormalOfLoads, ReloadsAreOfLoads, ReloadsAreNormalOfLoads}
use Rattle.yaml_round_content.specs.Said as content
use Rattle.yaml_round_content.specs.Renamed.{renamed}
use Rattle.yaml_round_content.specs.DumpsEvents.{trees_of_dumps}
use Rattle.yaml_round_content.proofs.Walks.{agreeing_said}
use Rattle.yaml_round_content.proofs.Joining.{read_said}
use Rattle.yaml_round.specs.declared.yaml_form_t.{yaml_form_t}
use Rattle.yaml_round.specs.declared.yaml_form_t.TheVariants.{Canonical, Pretty}
use Rattle.yaml_round_engine.specs.Writing.{requested_under}
use Rattle.yaml_round_engine.specs.Answers.{IsReformatted, ReadsBack, canonical_text}
use Rattle.yaml_round_laws.specs.Reloads.{ReloadsTellDocuments, AnswersAndReloadsAgree, NamesLeaveReloads}

pub no_fault : (ds es : List Document) (o : Option Fault) → unless_faulty ds o ≡ Ok es → o ≡ None
no_fault ds es o h = grind (arith, nat_tests)

same_fault : (ds : List Document) (o : Option Fault) (e : Fault) → unless_faulty ds o ≡ Err e
    → o ≡ Some e
same_fault ds o e h = grind (arith, nat_tests)

dumped : (from : yaml_encoding_t) (settings : yaml_settings_t) (input : List ℕ)
    (r : Result (List ℕ) Fault) → LaysOutLoading from settings input r
    → LaysOutLoads from settings input r
dumped from settings input r h =
    let e = loading_loads from input (Ok h.documents) h.loading in (
      no_fault (loads_of from input).documents h.documents (loads_of from input).fault e,
      subst (λ (ds : List Document). IsDumped settings ds r) (sym (documents_alike (loads_of from input).documents h.documents (loads_of from input).fault e)) h.dumped,
    )

-- the documents of the plain loading are those that are loaded
pub loads_alike : (from : yaml_encoding_t) (input : List ℕ) (ds : List Document)
    → PlainLoading from input (Ok ds) → (loads_of from input).documents ≡ ds
loads_alike from input ds h = documents_alike (loads_of from input).documents ds (loads_of from input).fault (loading_loads from input (Ok ds) h)

pub right_loads : (from : yaml_encoding_t) (input : List ℕ) (ds : List Document)
    → PlainLoading from input (Ok ds) → (loads_of from input).fault ≡ None
right_loads from input ds h = no_fault (loads_of from input).documents ds (loads_of from input).fault (loading_loads from input (Ok ds) h)

to_loads : (from : yaml_encoding_t) (settings : yaml_settings_t) (input : List ℕ)
    (r : Result (List ℕ) Fault) → IsReloaded from settings input r
    → AreLoadsReloaded from settings input r
unfolding IsReloaded
to_loads from settings input (Ok text) h = (dumped from settings input (Ok text) h.0, (subst (λ (ds : List Document). IsNormalOfDocuments settings ds text) (sym (loads_alike from input h.0.documents h.0.loading)) h.1))
to_loads from settings input (Err e) (inl h) = inl (same_fault (loads_of from input).documents (loads_of from input).fault e (loading_loads from input (Err e) h))
to_loads from settings input (Err e) (inr h) = inr (dumped from settings input (Err e) h)

from_loads : (from : yaml_encoding_t) (settings : yaml_settings_t) (input : List ℕ)
    (r : Result (List ℕ) Fault) → AreLoadsReloaded from settings input r
    → IsReloaded from settings input r
unfolding IsReloaded
from_loads from settings input (Ok text) h = (record { documents = (loads_of from input).documents; loading = faultless_load from input h.0.0; dumped = h.0.1 }, h.1)
from_loads from settings input (Err e) (inl h) = inl (faulty_load from input e h)
from_loads from settings input (Err e) (inr h) = inr (record { documents = (loads_of from input).documents; loading = faultless_load from input h.0; dumped = h.1 })

pub of_loads : ReloadsAreOfLoads
of_loads from settings input r = (λ h. to_loads from settings input r h, λ h. from_loads from settings input r h)

-- ---- the normal form, said of loads

of_documents : (from : yaml_encoding_t) (settings : yaml_settings_t) (input text : List ℕ)
    → IsNormalOfDocuments settings (loads_of from input).documents text
    → IsNormalOfLoads from settings input text
of_documents from settings input text n =
    let e = loads_alike YAML_ANY_ENCODING text n.back n.right in
    record {
      is = n.is;
      right = right_loads YAML_ANY_ENCODING text n.back n.right;
      agree = subst (λ (ds : List Document). Agrees (loads_of from input).documents ds) (sym e) n.agree;
      only = λ other source k. n.any (loads_of other source).documents (loads_are other source) k;
      again = subst (λ (ds : List Document). IsDumped settings ds (Ok text)) (sym e) n.again;
    }

pub normal_of_loads : ReloadsAreNormalOfLoads
normal_of_loads from settings input text h = of_documents from settings input text (to_loads from settings input (Ok text) h).1

-- ==== The laws of reloads, from the clauses of the calls.

normal_of : (from : yaml_encoding_t) (s : yaml_settings_t) (input text : List ℕ)
    (ds : List Document) → IsReloaded from s input (Ok text) → PlainLoading from input (Ok ds)
    → IsNormalOfDocuments s ds text
unfolding IsReloaded
normal_of from s input text ds h p =
    subst (λ (es : List Document). IsNormalOfDocuments s es text) (sym (loads_alike from input h.0.documents h.0.loading) ∙ loads_alike from input ds p) h.1

-- what a text loads is one alone
back_alike : (t u : List ℕ) (ds es : List Document) → PlainLoading YAML_ANY_ENCODING t (Ok ds)
    → PlainLoading YAML_ANY_ENCODING u (Ok es) → t ≡ u → ds ≡ es
back_alike t u ds es h k e = sym (loads_alike YAML_ANY_ENCODING t ds h) ∙ ap (λ (x : List ℕ). (loads_of YAML_ANY_ENCODING x).documents) e ∙ loads_alike YAML_ANY_ENCODING u es k

pub tell : ReloadsTellDocuments
tell s a_from b_from a b t u h k ds es x y =
    let p = normal_of a_from s a t ds h x in
    let q = normal_of b_from s b u es k y in (
      λ e. p.agree ∙ ap (λ (z : List Document). map core_of z) (back_alike t u p.back q.back p.right q.right e) ∙ sym q.agree,
      λ e. p.is ∙ ap (λ (z : List content.Document). canonical_text s z) (agreeing_said ds es e) ∙ sym q.is,
    )

-- ---- rewriting and reloading

read_back : (from : yaml_encoding_t) (s : yaml_settings_t) (input text : List ℕ)
    (form : yaml_form_t) → IsReformatted from s input (Ok (text, form)) → ReadsBack from input text
unfolding IsReformatted
read_back from s input text Canonical h = record { content = h.1.1.content; first = h.1.1.of_input; second = h.1.1.of_text }
read_back from s input text Pretty h = h.1.1

-- the documents of a reload's input
laid_of : (from : yaml_encoding_t) (s : yaml_settings_t) (input text : List ℕ)
    → IsReloaded from s input (Ok text) → LaysOutLoading from s input (Ok text)
unfolding IsReloaded
laid_of from s input text h = h.0

pub agree : AnswersAndReloadsAgree
agree from s z input t u form h k =
    let back = read_back from s input t form h in
    let laid = laid_of from z input u k in
    let n = normal_of from z input u laid.documents k laid.loading in
    let alike = inputs_load_alike back.content from input (read_said from input back.content back.first) YAML_ANY_ENCODING t (read_said YAML_ANY_ENCODING t back.content back.second) in
    record {
      documents = (loads_of YAML_ANY_ENCODING t).documents;
      others = n.back;
      first = faultless_load YAML_ANY_ENCODING t (alike.both.0 (right_loads from input laid.documents laid.loading));
      second = n.right;
      agree = sym alike.agree ∙ ap (λ (x : List Document). map core_of x) (loads_alike from input laid.documents laid.loading) ∙ n.agree;
    }

-- ---- names

pub names : NamesLeaveReloads
names s r c one a_from b_from a b t u h g x y =
    let k = laid_of a_from s a t x in
    let l = laid_of b_from s b u y in
    let p = normal_of a_from s a t k.documents x k.loading in
    let q = normal_of b_from s b u l.documents y l.loading in
    let said = λ (z : List Document). canonical_text s (trees_of_dumps z) in
    p.is ∙ ap said (sym (loads_alike a_from a k.documents k.loading)) ∙ names_do_not_matter (requested_under s true) r c one a_from a (read_said a_from a c h) b_from b (read_said b_from b (renamed r c) g)
    ∙ ap said (loads_alike b_from b l.documents l.loading) ∙ sym q.is
