-- What is written of an input's documents is a normal form of them.
use Rattle.std.proofs.Common.{◌≡◌, ℕ, true, List, Ok, refl, sym, ap, subst, ◌∙◌}
use Rattle.yaml_parse.specs.declared.yaml_encoding_t.{yaml_encoding_t}
use Rattle.yaml_parse.specs.declared.yaml_encoding_t.TheVariants.{YAML_ANY_ENCODING}
use Rattle.yaml_emit.specs.Text.{encode}
use Rattle.yaml_emit.specs.Within.{Fits}
use Rattle.yaml_round_content.specs.Said as content
use Rattle.yaml_round_content.specs.Loads.{loads_of}
use Rattle.yaml_round_content.specs.Canon.{canon_items, canon_encoding}
use Rattle.yaml_round_content.specs.DumpsEvents.{trees_of_dumps}
use Rattle.yaml_round_content.specs.Normal.{ended, LoadsAgain}
use Rattle.yaml_round_content.proofs.Laid.{laid_out}
use Rattle.yaml_round_content.proofs.ReadBackWhole.{loads_are, plain_documents, texts_load_again, texts_tell}
use Rattle.yaml_round_content.proofs.Loaded.{faultless_load}
use Rattle.yaml_parse.specs.Documents.{Document}
use Rattle.yaml_round_device.specs.declared.yaml_settings_t.{yaml_settings_t}
use Rattle.yaml_round_engine.specs.Writing.{requested_under}
use Rattle.yaml_round_engine.specs.Answers.{canonical_text}
use Rattle.yaml_round_engine.specs.Reload.{IsEachDump, IsDumped, IsNormalOfDocuments}
use Rattle.yaml_round_engine.proofs.Normal.{canonical_under}

-- what the canonical text of documents loads is laid out as that text
dumped_again : (s : yaml_settings_t) (c : List content.Document) (text : List ℕ)
    → text ≡ canonical_text s c
    → Fits s.limit (canon_encoding (requested_under s true))
    (canon_items (requested_under s true) c)
    → c ≡ trees_of_dumps (loads_of YAML_ANY_ENCODING text).documents
    → IsDumped s (loads_of YAML_ANY_ENCODING text).documents (Ok text)
dumped_again s c text is fits says =
    let w = requested_under s true in record {
      encoding = canon_encoding w;
      whole = canon_items w (trees_of_dumps (loads_of YAML_ANY_ENCODING text).documents);
      stream = laid_out w (canonical_under s) YAML_ANY_ENCODING text;
      is = is ∙ ap (λ (e : List content.Document). encode (canon_encoding w) (canon_items w e)) says;
      fits = subst (λ (e : List content.Document). Fits s.limit (canon_encoding w) (canon_items w e)) says fits;
    }

pub in_normal_documents : (from : yaml_encoding_t) (s : yaml_settings_t) (input text : List ℕ)
    → IsEachDump s (ended (loads_of from input).documents) (Ok text)
    → IsNormalOfDocuments s (loads_of from input).documents text
in_normal_documents from s input text each =
    let w = requested_under s true in
    let ds : List Document = (loads_of from input).documents in
    let c : List content.Document = trees_of_dumps ds in
    let t = each (canon_encoding w) (canon_items w c) (laid_out w (canonical_under s) from input) in
    let own = loads_are from input in
    let l : LoadsAgain w ds text = subst (LoadsAgain w ds) (sym t.is) (texts_load_again w refl ds own) in
    record {
      is = t.is;
      back = (loads_of YAML_ANY_ENCODING text).documents;
      right = faultless_load YAML_ANY_ENCODING text l.right;
      agree = l.agree;
      only = λ other source others p e. (texts_tell w refl ds others own (plain_documents other source others p)).0 (sym t.is ∙ sym e);
      any = λ others d e. (texts_tell w refl ds others own d).0 (sym t.is ∙ sym e);
      again = dumped_again s c text t.is t.fits l.says;
    }
