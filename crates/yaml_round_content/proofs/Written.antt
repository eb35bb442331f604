-- What a document says that an input loads may be written.
use Rattle.std.proofs.Common.{◌≡◌, ◌<◌, ℕ, zero, suc, ℤ, Bool, false, ◌==◌, if◌then◌else◌, List, [], ◌∷◌, length, Some, None, IsUtf8, refl, ap, codes, arith, sym, ◌∙◌, slice_get, true≢false}
use Rattle.yaml_round_content.proofs.ReadBackWords.{nat_tests, list_all, IsUtf8-nil, root_holds, is_alpha_byte, IsSoundBody, AreSound, str_tag, is_bang, body_at, tag_at, body_of_id, tag_of_id, name_of, graph_root, graph_content, RightDocument, AreRight, tree_of, trees_of, pair_trees_of, document_tree, InputsHaveUtf8, IsName, IsAnchor, IsWritable, AreItemsWritable, ArePairsWritable, IsWritableDocument, AreWritable, IsLoadedDocument, trees_of_dumps, AreLoadedDocuments, AllLoadDocuments, LoadedAreWritable}
use Rattle.yaml_parse_model.specs.Nodes as model
use Rattle.yaml_parse_model.specs.Documents as documents
use Rattle.yaml_emit_laws.specs.emit_layout.declared.Problem.TheVariants as problem
use Rattle.yaml_emit_laws.specs.StreamsLaws.{AreTagged}
use Rattle.yaml_parse_model.proofs.Sound.{str_utf8}
use Rattle.yaml_emit_laws.proofs.Naming.{name_right}
use Rattle.yaml_round_content.proofs.Sound.{AreDocuments, documents_sound, documents_right}
use Rattle.yaml_round_content.proofs.Events.{tests_of, prefixes_writable, some_byte}

-- ---- names

name_writable : (n : ℕ) → IsName (name_of n)
name_writable n =
    let both = tests_of (length (name_of n) == 0) (list_all is_alpha_byte (name_of n)) problem.AnchorEmpty problem.AnchorCharacters (name_right problem.AnchorEmpty problem.AnchorCharacters n) in
    (some_byte (length (name_of n)) both.0, both.1)

anchor_if : (b : Bool) (n : ℕ) → IsAnchor (if b then None else Some (name_of n))
anchor_if b n = grind (arith, nat_tests, name_writable)

-- ---- the nodes of a document

abbrev IsText : model.NodeBody → Type 0
IsText model.no = Unit {0}
IsText (model.scalar value style) = IsUtf8 value
IsText (model.sequence items style) = Unit {0}
IsText (model.mapping pairs style) = Unit {0}

-- what may be written of a node: its tag, and its value
record IsFine (tag : List ℕ) (body : model.NodeBody) : Type 0 where
  some : 0 < length tag
  utf8 : IsUtf8 tag
  other : tag ≡ codes "!" → ⊥
  text : IsText body

text_of : (count : ℕ) (b : model.NodeBody) → IsSoundBody count b → IsText b
text_of count (model.scalar value style) h = h
text_of count _ h = tt

no_bang : (t : List ℕ) → is_bang t ≡ false → t ≡ codes "!" → ⊥
no_bang t h e = true≢false (sym (ap is_bang e) ∙ h)

str_fine : IsFine str_tag model.no
str_fine = record { some = omega arith; utf8 = str_utf8; other = no_bang str_tag refl; text = tt }

abbrev FineNodes : List model.Node → Type 0
FineNodes nodes = (k : ℕ) → IsFine (tag_at (slice_get nodes k)) (body_at (slice_get nodes k))

fine_at : (count : ℕ) (nodes : List model.Node) (k : ℕ) → AreSound count nodes → AreTagged nodes
    → ((n : model.Node) → slice_get nodes k ≡ Some n → is_bang n.tag ≡ false)
    → IsFine (tag_at (slice_get nodes k)) (body_at (slice_get nodes k))
fine_at count [] k s t b = str_fine
fine_at count (n ∷ ns) zero s t b = record { some = t.0; utf8 = s.0.0; other = no_bang n.tag (b n refl); text = text_of count n.body s.0.1 }
fine_at count (n ∷ ns) (suc k) s t b = fine_at count ns k s.1 t.1 b

fine_id : (nodes : List model.Node) → FineNodes nodes → (id : ℤ)
    → IsFine (tag_of_id nodes id) (body_of_id nodes id)
fine_id nodes h id = grind (arith, nat_tests, str_fine)

-- ---- the walk

root_written : (nodes : List model.Node) → FineNodes nodes → IsWritable (tree_of (graph_root nodes))
root_written nodes h = root_holds (λ v. IsWritable (tree_of v)) (λ vs. AreItemsWritable (trees_of vs)) (λ ps. ArePairsWritable (pair_trees_of ps)) (λ anchor tag body. IsAnchor anchor × IsFine tag body)
    (record {
      alias = λ n. name_writable n;
      none = tt;
      more = λ v vs a b. (a, b);
      empty = tt;
      another = λ k v ps a b c. (a, b, c);
      bare = λ anchor tag f. (f.0, ((f.1.some, f.1.utf8), f.1.other), IsUtf8-nil);
      scalar = λ anchor tag value style f. (f.0, ((f.1.some, f.1.utf8), f.1.other), f.1.text);
      sequence = λ anchor tag items style f vs b. (f.0, (f.1.some, f.1.utf8), b);
      mapping = λ anchor tag pairs style f ps b. (f.0, (f.1.some, f.1.utf8), b);
    }) nodes (λ k id. ((anchor_if (k == 0) k), fine_id nodes h id))

-- ---- documents

document_written : (d : documents.Document) → documents.IsDocument d → RightDocument d
    → IsLoadedDocument d → IsWritableDocument (document_tree (graph_content d))
document_written d s r l = grind (arith, nat_tests, prefixes_writable, root_written, fine_at)

documents_written : (ds : List documents.Document) → AreDocuments ds → AreRight ds
    → AreLoadedDocuments ds → AreWritable (trees_of_dumps ds)
documents_written [] s r l = tt
documents_written (d ∷ ds) s r l = (document_written d s.0 r.0 l.0, documents_written ds s.1 r.1 l.1)

pub loaded_writable : AllLoadDocuments → InputsHaveUtf8 → LoadedAreWritable
loaded_writable load utf8 from input = grind (arith, nat_tests, documents_written, documents_sound, documents_right)
