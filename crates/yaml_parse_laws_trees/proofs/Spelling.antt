-- The tokens of a tree are before what follows them.
use Rattle.std.proofs.Common.{◌≡◌, List, [], ◌∷◌, ◌++◌, refl, ap, sym, ◌∙◌, arith}
use Rattle.yaml_parse_laws_trees.proofs.Words.{Token, Wants, Brackets, Span, token_at, opening, PropertyTokens, Node, Content, Maybe, Colon, Items, More, Entries, Others, Pairs, Directive, Documents, First, Stream, spell_properties, spell_node, spell_content, spell_maybe, spell_colon, spell_items, spell_more, spell_entries, spell_others, spell_pairs, spell_directives, spell_ends, spell_documents, spell_first, spell}
use Rattle.yaml_parse_model.specs.scan_types.Tokens as token
use Rattle.yaml_parse_laws_trees.specs.parse_grammar.Trees as tree

behind : (t : Token) {x y : List Token} → x ≡ y → t ∷ x ≡ t ∷ y
behind t p = ap (λ (z : List Token). t ∷ z) p

properties_on : (d : PropertyTokens) (xs ys : List Token)
    → spell_properties d (xs ++ ys) ≡ spell_properties d xs ++ ys
properties_on d xs ys = grind arith

mutual
  node_on : {w : Wants} (n : Node w) (xs ys : List Token)
      → spell_node n (xs ++ ys) ≡ spell_node n xs ++ ys
  node_on (tree.alias s name) xs ys = refl
  node_on (tree.only_properties d) xs ys = properties_on d xs ys
  node_on (tree.with_properties d c) xs ys = ap (spell_properties d) (content_on c xs ys) ∙ properties_on d (spell_content c xs) ys
  node_on (tree.bare c) xs ys = content_on c xs ys

  content_on : {w : Wants} (c : Content w) (xs ys : List Token)
      → spell_content c (xs ++ ys) ≡ spell_content c xs ++ ys
  content_on (tree.scalar s value style) xs ys = refl
  content_on (tree.flow b s items) xs ys = behind (token_at (opening b) s) (items_on b items xs ys)
  content_on (tree.block_sequence s entries) xs ys = behind (token_at token.block_sequence_start s) (entries_on entries xs ys)
  content_on (tree.block_mapping s pairs) xs ys = behind (token_at token.block_mapping_start s) (pairs_on pairs xs ys)
  content_on (tree.indentless s n others) xs ys = behind (token_at token.block_entry s) (ap (spell_maybe n) (others_on others xs ys) ∙ maybe_on n (spell_others others xs) ys)

  maybe_on : {w : Wants} (m : Maybe w) (xs ys : List Token)
      → spell_maybe m (xs ++ ys) ≡ spell_maybe m xs ++ ys
  maybe_on tree.left_out xs ys = refl
  maybe_on (tree.there n) xs ys = node_on n xs ys

  colon_on : {w : Wants} (c : Colon w) (xs ys : List Token)
      → spell_colon c (xs ++ ys) ≡ spell_colon c xs ++ ys
  colon_on tree.no_colon xs ys = refl
  colon_on (tree.colon s n) xs ys = behind (token_at token.value s) (maybe_on n xs ys)

  items_on : (b : Brackets) (i : Items) (xs ys : List Token)
      → spell_items b i (xs ++ ys) ≡ spell_items b i xs ++ ys
  items_on b (tree.end_items s) xs ys = refl
  items_on b (tree.single n more) xs ys = ap (spell_node n) (more_on b more xs ys) ∙ node_on n (spell_more b more xs) ys
  items_on b (tree.pair s key value more) xs ys =
      behind (token_at token.key s)
      (ap (spell_maybe key) (ap (spell_colon value) (more_on b more xs ys) ∙ colon_on value (spell_more b more xs) ys) ∙ maybe_on key (spell_colon value (spell_more b more xs)) ys)

  more_on : (b : Brackets) (m : More) (xs ys : List Token)
      → spell_more b m (xs ++ ys) ≡ spell_more b m xs ++ ys
  more_on b (tree.end_more s) xs ys = refl
  more_on b (tree.comma s items) xs ys = behind (token_at token.flow_entry s) (items_on b items xs ys)

  entries_on : (e : Entries) (xs ys : List Token)
      → spell_entries e (xs ++ ys) ≡ spell_entries e xs ++ ys
  entries_on (tree.end_entries s) xs ys = refl
  entries_on (tree.entry s n entries) xs ys = behind (token_at token.block_entry s) (ap (spell_maybe n) (entries_on entries xs ys) ∙ maybe_on n (spell_entries entries xs) ys)

  others_on : (o : Others) (xs ys : List Token)
      → spell_others o (xs ++ ys) ≡ spell_others o xs ++ ys
  others_on tree.no_others xs ys = refl
  others_on (tree.other s n others) xs ys = behind (token_at token.block_entry s) (ap (spell_maybe n) (others_on others xs ys) ∙ maybe_on n (spell_others others xs) ys)

  pairs_on : (p : Pairs) (xs ys : List Token) → spell_pairs p (xs ++ ys) ≡ spell_pairs p xs ++ ys
  pairs_on (tree.end_pairs s) xs ys = refl
  pairs_on (tree.block_pair s key value pairs) xs ys =
      behind (token_at token.key s)
      (ap (spell_maybe key) (ap (spell_colon value) (pairs_on pairs xs ys) ∙ colon_on value (spell_pairs pairs xs) ys) ∙ maybe_on key (spell_colon value (spell_pairs pairs xs)) ys)

directives_on : (ds : List Directive) (xs ys : List Token)
    → spell_directives ds (xs ++ ys) ≡ spell_directives ds xs ++ ys
directives_on [] xs ys = refl
directives_on (tree.version s major minor ∷ ds) xs ys = behind (token_at (token.version_directive major minor) s) (directives_on ds xs ys)
directives_on (tree.handle s name prefix ∷ ds) xs ys = behind (token_at (token.tag_directive name prefix) s) (directives_on ds xs ys)

ends_on : (ends : List Span) (xs ys : List Token)
    → spell_ends ends (xs ++ ys) ≡ spell_ends ends xs ++ ys
ends_on [] xs ys = refl
ends_on (s ∷ ends) xs ys = behind (token_at token.document_end s) (ends_on ends xs ys)

documents_on : (d : Documents) (xs ys : List Token)
    → spell_documents d (xs ++ ys) ≡ spell_documents d xs ++ ys
documents_on (tree.end_stream s) xs ys = refl
documents_on (tree.document ds s root ends more) xs ys =
    ap (λ (z : List Token). spell_directives ds (token_at token.document_start s ∷ z))
    (ap (spell_maybe root) (ap (spell_ends ends) (documents_on more xs ys) ∙ ends_on ends (spell_documents more xs) ys) ∙ maybe_on root (spell_ends ends (spell_documents more xs)) ys)
    ∙ directives_on ds (token_at token.document_start s ∷ spell_maybe root (spell_ends ends (spell_documents more xs))) ys

first_on : (f : First) (xs ys : List Token) → spell_first f (xs ++ ys) ≡ spell_first f xs ++ ys
first_on tree.no_first xs ys = refl
first_on (tree.first n ends) xs ys = ap (spell_node n) (ends_on ends xs ys) ∙ node_on n (spell_ends ends xs) ys

pub spelled_before : (t : Stream) (rest : List Token) → spell t [] ++ rest ≡ spell t rest
spelled_before t rest =
    sym (behind (token_at (token.stream_start t.encoding) t.start) (ap (spell_first t.first) (documents_on t.documents [] rest) ∙ first_on t.first (spell_documents t.documents []) rest))
