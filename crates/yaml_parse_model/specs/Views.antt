-- What a clause sees of a document.
use Rattle.yaml_parse_model.specs.declared.document.yaml_document_t.TheInside.{Inside}
use Rattle.yaml_parse_model.specs.Documents.{Document, IsDocument}
use Rattle.yaml_parse_model.specs.Parts.{parts_view}
use Rattle.yaml_parse_model.specs.Sizes.{IsSized}

abbrev pub document_view : Inside → Document
document_view d = parts_view d.parts

abbrev pub IsDocumentInside : Inside → Type 0
IsDocumentInside d = IsDocument (document_view d) × IsSized (document_view d)
