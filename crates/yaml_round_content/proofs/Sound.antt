-- Every document that an input loads is sound.
use Rattle.std.proofs.Common.{ℕ, List, [], ◌∷◌, Option, All}
use Rattle.yaml_round_content.proofs.ReadBackWords.{All-nil, All-cons, yaml_encoding_t, Fault, IsDocument, Told, Loading, LoadStep, goes_on, loaded, refused, nothing_loaded, step, RightDocument, AreRight, AreRightTold, RightFed, events_of, ending_of, read, Loads, in_front, load_on, load_all, loads_of, HaveUtf8Texts, InputsHaveUtf8, AreLoadedDocuments, AllLoadDocuments, LoadedAreSound}
use Rattle.yaml_parse_model.specs.Nodes as model
use Rattle.yaml_parse_model.specs.Documents.{Document}
use Rattle.yaml_parse_loader.specs.Order.{IsInPreorder}
use Rattle.yaml_parse_loader.specs.Sound.{IsLoading}
use Rattle.yaml_parse_loader.proofs.Keeps.{FedSound, nothing_sound, step_sound}
use Rattle.yaml_emit_laws.proofs.Loading.{steps, empty_right}
use Rattle.yaml_round_content.proofs.StreamsInputs.{inputs_load_right}

abbrev pub AreDocuments : List Document → Type 0
AreDocuments [] = Unit {0}
AreDocuments (d ∷ ds) = IsDocument d × AreDocuments ds

front_sound : (ns : List model.Node) (d : Document) (rest : Loads) → IsDocument d
    → AreDocuments rest.documents → AreDocuments (in_front ns d rest).documents
front_sound [] d rest h k = tt
front_sound (n ∷ ns) d rest h k = (h, k)

on_sound : (x : LoadStep) (go : Loading → Loads) → FedSound x
    → ((l : Loading) → IsLoading l → AreDocuments (go l).documents)
    → AreDocuments (load_on x go).documents
on_sound (goes_on l) go h k = k l h
on_sound (loaded d) go h k = front_sound d.nodes d (go nothing_loaded) h (k nothing_loaded nothing_sound)
on_sound (refused f) go h k = tt

all_sound : (gs : List Told) (f : Option Fault) (l : Loading) → HaveUtf8Texts gs → IsLoading l
    → AreDocuments (load_all gs f l).documents
unfolding load_all
all_sound [] f l u s = tt
all_sound (g ∷ gs) f l u s = on_sound (step g.0 l) (load_all gs f) (step_sound g.0.body g.0.start_mark g.0.end_mark l s u.0) (λ m t. all_sound gs f m u.1 t)

pub documents_sound : InputsHaveUtf8 → (from : yaml_encoding_t) (input : List ℕ)
    → AreDocuments (loads_of from input).documents
documents_sound utf8 from input = all_sound (events_of from input) (ending_of from input) nothing_loaded (utf8 from input) nothing_sound

abbrev IsSound : Document → Type 0
IsSound d = IsDocument d × IsInPreorder d.nodes

both_sound : (ds : List Document) → AreDocuments ds → AreLoadedDocuments ds → All IsSound ds
both_sound [] h k = All-nil IsSound
both_sound (d ∷ ds) h k = All-cons IsSound d ds (h.0, k.0.order) (both_sound ds h.1 k.1)

pub loaded_sound : AllLoadDocuments → InputsHaveUtf8 → LoadedAreSound
loaded_sound load utf8 from input = both_sound (loads_of from input).documents (documents_sound utf8 from input) (load from input)

-- ---- tags and directives

front_right : (ns : List model.Node) (d : Document) (rest : Loads) → RightDocument d
    → AreRight rest.documents → AreRight (in_front ns d rest).documents
front_right [] d rest r k = tt
front_right (n ∷ ns) d rest r k = (r, k)

on_right : (x : LoadStep) (go : Loading → Loads) → RightFed x
    → ((l : Loading) → RightDocument l.document → AreRight (go l).documents)
    → AreRight (load_on x go).documents
on_right (goes_on l) go h k = k l h
on_right (loaded d) go h k = front_right d.nodes d (go nothing_loaded) h (k nothing_loaded empty_right)
on_right (refused f) go h k = tt

-- the documents of right events are right
pub all_right : (gs : List Told) (f : Option Fault) (l : Loading) → AreRightTold gs
    → RightDocument l.document → AreRight (load_all gs f l).documents
unfolding load_all
all_right [] f l h r = tt
all_right (g ∷ gs) f l h r = on_right (step g.0 l) (load_all gs f) (steps g.0 l h.0 r) (λ m s. all_right gs f m h.1 s)

pub documents_right : (from : yaml_encoding_t) (input : List ℕ)
    → AreRight (loads_of from input).documents
unfolding read
documents_right from input = all_right (events_of from input) (ending_of from input) nothing_loaded (inputs_load_right from input) empty_right
