-- The laws of loaded documents and of their texts, joined from the laws beneath.
use Rattle.std.proofs.Common.{◌≡◌, ℕ, List, map, Option, Some, None, Ok, sym, ap, subst, ◌∙◌}
use Rattle.yaml_round_content.proofs.ReadBackWords.{YAML_ANY_ENCODING, Fault, nothing_loaded, HasContent, events_of, ending_of, Loads, load_all, loads_of, canonical_layout, core_of, Agrees, loads_of_contents, trees_of_dumps, ContentIsLoaded, DumpsLoadBack, dumps_loaded, AllLoadDocuments, LoadedAreSound, LoadedAreWritable}
use Rattle.yaml_parse_model.specs.Documents.{Document}
use Rattle.yaml_parse_loader.proofs.Loads.{loads_document}
use Rattle.yaml_parse_loader.proofs.Visited.{numbered_in_order}
use Rattle.yaml_emit_laws.proofs.Apart.{apart_all, again_all}
use Rattle.yaml_emit_laws.proofs.Again.{again_turns}
use Rattle.yaml_emit_laws.proofs.DumpsBack.{numbered_back}
use Rattle.yaml_emit_laws.proofs.Loaded.{loaded}
use Rattle.yaml_emit_laws.proofs.DumpsWhole.{numbers_found, number_back}
use Rattle.yaml_round_content.specs.Said as content
use Rattle.yaml_round_content.proofs.ContentInputs.{say_fronts}
use Rattle.yaml_round_content.proofs.Utf8.{input_utf8}
use Rattle.yaml_round_content.proofs.ReadBack.{reads_back}
use Rattle.yaml_round_content.proofs.Names.{loads_of_renamings}
use Rattle.yaml_round_content.proofs.Walks.{agreeing_said}
use Rattle.yaml_round_content.proofs.DumpsSaying.{content_said}
use Rattle.yaml_round_content.proofs.Loading.{content_loaded, documents_loaded}
use Rattle.yaml_round_content.proofs.DumpsTrees as trees
use Rattle.yaml_round_content.specs.PlainLoading.{unless_faulty}
use Rattle.yaml_round_content.proofs.Loaded.{loading_loads}
use Rattle.yaml_round_content.specs.Normal.{
  AreWritableDocuments,
  DocumentTextsLoadAgain,
  DocumentTextsTell,
  LoadsAreDocuments,
  PlainDocuments,
  DumpTextsLoadAgain,
  DumpTextsTellDocuments,
  InputsLoadAlike,
  NamesDoNotMatter,
}
use Rattle.yaml_round_content.proofs.Fronts.{all_loaded}
use Rattle.yaml_round_content.proofs.Sound.{loaded_sound}
use Rattle.yaml_round_content.proofs.Written.{loaded_writable}

-- ---- what is loaded

content_is_loaded : ContentIsLoaded
content_is_loaded = content_loaded loads_document

pub all_load : AllLoadDocuments
all_load = all_loaded say_fronts content_is_loaded (documents_loaded (loaded numbered_in_order))

pub all_sound : LoadedAreSound
all_sound = loaded_sound all_load input_utf8

pub all_writable : LoadedAreWritable
all_writable = loaded_writable all_load input_utf8

-- ---- what a dump says

dumps_load : DumpsLoadBack
dumps_load = dumps_loaded content_said content_is_loaded (trees.numbered_back (number_back again_all again_turns (numbers_found apart_all) numbered_back)) loads_of_contents

-- ---- texts

pub texts_load_again : DocumentTextsLoadAgain
texts_load_again w k ds d =
    let c : List content.Document = trees_of_dumps ds in
    let h : HasContent YAML_ANY_ENCODING (canonical_layout w c) c = reads_back w k c d.writable in
    let es = events_of YAML_ANY_ENCODING (canonical_layout w c) in
    let b = dumps_load ds d.loaded d.writable es h.says in
    let same = ap (λ (f : Option Fault). load_all es f nothing_loaded) (sym h.right) in
    let agree : Agrees ds (loads_of YAML_ANY_ENCODING (canonical_layout w c)).documents = b.agree ∙ ap (λ (l : Loads). map core_of l.documents) same in
    let says = agreeing_said ds (loads_of YAML_ANY_ENCODING (canonical_layout w c)).documents agree in
    record {
      right = ap (λ (l : Loads). l.fault) (sym same) ∙ b.right;
      agree = agree;
      says = says;
      again = ap (λ (t : List content.Document). canonical_layout w t) says;
    }

pub texts_tell : DocumentTextsTell
texts_tell w k ds es d e =
    let x = texts_load_again w k ds d in
    let y = texts_load_again w k es e in (
      λ q. x.agree ∙ ap (λ (t : List ℕ). map core_of (loads_of YAML_ANY_ENCODING t).documents) q ∙ sym y.agree,
      λ q. ap (λ (t : List content.Document). canonical_layout w t) (agreeing_said ds es q),
    )

-- ---- of inputs

pub loads_are : LoadsAreDocuments
loads_are from input = record { loaded = all_load from input; writable = all_writable from input }

-- documents that no fault ends are those that are answered
pub documents_alike : (ds es : List Document) (o : Option Fault) → unless_faulty ds o ≡ Ok es
    → ds ≡ es
documents_alike ds es None h = cc
documents_alike ds es (Some f) h = cc

pub plain_documents : PlainDocuments
plain_documents from input ds h =
    let e = documents_alike (loads_of from input).documents ds (loads_of from input).fault (loading_loads from input (Ok ds) h) in
    subst AreWritableDocuments e (loads_are from input)

pub load_again : DumpTextsLoadAgain
load_again w k from input = texts_load_again w k (loads_of from input).documents (loads_are from input)

pub tell_documents : DumpTextsTellDocuments
tell_documents w k a_from a b_from b =
    texts_tell w k (loads_of a_from a).documents (loads_of b_from b).documents (loads_are a_from a) (loads_are b_from b)

pub inputs_load_alike : InputsLoadAlike
inputs_load_alike c a_from a h b_from b g =
    loads_of_contents (events_of a_from a) (events_of b_from b) (ending_of a_from a) (ending_of b_from b) ((λ x. g.right), (λ x. h.right)) (h.says ∙ sym g.says)

pub names_do_not_matter : NamesDoNotMatter
names_do_not_matter w r c one a_from a h b_from b g =
    let l = loads_of_renamings r c one (events_of a_from a) (events_of b_from b) (ending_of a_from a) (ending_of b_from b) ((λ x. g.right), (λ x. h.right)) h.says g.says in
    ap (λ (t : List content.Document). canonical_layout w t) (agreeing_said (loads_of a_from a).documents (loads_of b_from b).documents l.agree)
