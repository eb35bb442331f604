-- What the blocks of a parse hold: the texts and the directives of its events, one after another, and nothing beside.
use Rattle.std.specs.Prelude.{ℕ, List, [], ◌∷◌, ◌++◌, Option, None, Some}
use Rattle.yaml_parse.specs.Events.{Event, EventBody, TagDirective}
use Rattle.yaml_parse.specs.Events as event

-- a text that is left out takes no byte
abbrev pub optional_text : Option (List ℕ) → List ℕ
optional_text None = []
optional_text (Some t) = t

unfoldable pub directive_texts : List TagDirective → List ℕ
directive_texts [] = []
directive_texts (d ∷ ds) = (d.handle ++ d.prefix) ++ directive_texts ds

-- the texts that an alias or a node names, in their order
abbrev pub node_texts : EventBody → List ℕ
node_texts (event.alias a) = a
node_texts (event.scalar a t v p q s) = (optional_text a ++ optional_text t) ++ v
node_texts (event.sequence_start a t i s) = optional_text a ++ optional_text t
node_texts (event.mapping_start a t i s) = optional_text a ++ optional_text t
node_texts _ = []

-- those that an event names
abbrev pub body_texts : EventBody → List ℕ
body_texts (event.document_start v ds i) = directive_texts ds
body_texts b = node_texts b

abbrev pub body_directives : EventBody → List TagDirective
body_directives (event.document_start v ds i) = ds
body_directives _ = []

unfoldable pub all_texts : List Event → List ℕ
all_texts [] = []
all_texts (e ∷ es) = body_texts e.body ++ all_texts es

unfoldable pub listed_directives : List Event → List TagDirective
listed_directives [] = []
listed_directives (e ∷ es) = body_directives e.body ++ listed_directives es
