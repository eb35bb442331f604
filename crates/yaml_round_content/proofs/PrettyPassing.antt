-- The bodies of pretty text spell texts.
use Rattle.std.proofs.Common.{ℕ, Bool, true, false, not, ◌&&◌, List, [], ◌∷◌, Option, refl, sym, subst}
use Rattle.yaml_round_content.proofs.PrettyWords.{TokenBody, TagDirective, Settings, Style, Part, Scalar, Start, Document, Node, alias_node, scalar_node, sequence_node, mapping_node, Nodes, no_nodes, node, Pairs, no_pairs, pair, has, kept_tag, scalar_tag, start_tag, Context, is_simple, key_part, are_none, are_no_pairs, is_directed, is_marked, mark_bodies, directives_bodies, end_bodies, comma_bodies, start_bodies, IsReadableTag, IsTagged, AreTagged, PairsAreTagged, HaveTexts, style_at, is_flow_at, takes_mark, keeps, is_nothing, value_bodies, scalar_bodies, sequence_opens, sequence_closes, mapping_opens, mapping_closes, item_bodies, pair_bodies, node_bodies, items_bodies, pairs_bodies, context_in, root_bodies, is_root_kept, opening_bodies, documents_bodies, PrettyTokensPass}
use Rattle.yaml_parse_model.specs.scan_types.Tokens as token
use Rattle.yaml_emit_laws.specs.emit_layout.declared.level.Part.TheVariants as part
use Rattle.yaml_round_content.proofs.Passing.{Spell, passes, directives_spell, mark_spells, version_spells, end_spells, properties_spell}

-- ---- properties

-- a document's start before bodies that are spelled
pub start_spells : (b : Bool) (bs : List TokenBody) → Spell bs → Spell (start_bodies b bs)
start_spells true bs s = s
start_spells false bs s = (refl, s)

-- a tag that is written is one that can be read
kept_readable : (ds : List TagDirective) (left_out : Bool) (t : Option (List ℕ))
    → IsReadableTag ds t → IsReadableTag ds (kept_tag false left_out t)
kept_readable ds true t r = tt
kept_readable ds false t r = r

-- ---- nodes

value_spells : (b : Bool) (s : Style) (value : List ℕ) (bs : List TokenBody) → Spell bs
    → Spell (value_bodies b s value bs)
value_spells true s value bs h = h
value_spells false s value bs h = (refl, h)

sequence_opened : (f k : Bool) (bs : List TokenBody) → Spell bs → Spell (sequence_opens f k bs)
sequence_opened true k bs s = (refl, s)
sequence_opened false true bs s = s
sequence_opened false false bs s = (refl, s)

sequence_closed : (f k : Bool) (bs : List TokenBody) → Spell bs → Spell (sequence_closes f k bs)
sequence_closed true k bs s = (refl, s)
sequence_closed false true bs s = s
sequence_closed false false bs s = (refl, s)

mapping_opened : (f : Bool) (bs : List TokenBody) → Spell bs → Spell (mapping_opens f bs)
mapping_opened true bs s = (refl, s)
mapping_opened false bs s = (refl, s)

mapping_closed : (f : Bool) (bs : List TokenBody) → Spell bs → Spell (mapping_closes f bs)
mapping_closed true bs s = (refl, s)
mapping_closed false bs s = (refl, s)

-- a comma, if there is one, before bodies that are spelled
pub comma_spells : (fresh : Bool) (bs : List TokenBody) → Spell bs → Spell (comma_bodies fresh bs)
comma_spells true bs s = s
comma_spells false bs s = (refl, s)

item_spells : (flow fresh : Bool) (bs : List TokenBody) → Spell bs
    → Spell (item_bodies flow fresh bs)
item_spells true fresh bs s = comma_spells fresh bs s
item_spells false fresh bs s = (refl, s)

pair_spells : (flow fresh : Bool) (bs : List TokenBody) → Spell bs
    → Spell (pair_bodies flow fresh bs)
pair_spells true fresh bs s = comma_spells fresh (token.key ∷ bs) (refl, s)
pair_spells false fresh bs s = (refl, s)

scalar_spells : (p : Context) (flow : Bool) (q : Part) (bare : Bool) (x : Scalar)
    → IsReadableTag p.directives x.tag → (bs : List TokenBody) → Spell bs
    → Spell (node_bodies p flow q bare (scalar_node x) bs)
unfolding node_bodies
scalar_spells p flow q bare x r bs s =
    let style = style_at p flow q x in
    let marked = not (has (scalar_tag false x)) && takes_mark x.quoted style in
    properties_spell p.directives x.anchor (scalar_tag false x) (kept_readable p.directives _ x.tag r) (mark_bodies marked (scalar_bodies flow style x.value bs))
    (mark_spells marked (scalar_bodies flow style x.value bs) (value_spells (is_nothing flow style x.value) style x.value bs s))

abbrev SpellsOn : (List TokenBody → List TokenBody) → Type 0
SpellsOn f = (bs : List TokenBody) → Spell bs → Spell (f bs)

sequence_spells : (p : Context) (flow : Bool) (q : Part) (bare : Bool) (o : Start) (ns : Nodes)
    → IsReadableTag p.directives o.tag
    → SpellsOn (items_bodies p (is_flow_at p flow o (are_none ns)) true ns)
    → SpellsOn (node_bodies p flow q bare (sequence_node o ns))
unfolding node_bodies
sequence_spells p flow q bare o ns r inner bs s =
    let f = is_flow_at p flow o (are_none ns) in
    let k = keeps q bare o in
    let behind = sequence_closes f k bs in
    properties_spell p.directives o.anchor (start_tag false o) (kept_readable p.directives o.implicit o.tag r) (sequence_opens f k (items_bodies p f true ns behind))
    (sequence_opened f k (items_bodies p f true ns behind) (inner behind (sequence_closed f k bs s)))

mapping_spells : (p : Context) (flow : Bool) (q : Part) (bare : Bool) (o : Start) (ps : Pairs)
    → IsReadableTag p.directives o.tag
    → SpellsOn (pairs_bodies p (is_flow_at p flow o (are_no_pairs ps)) true ps)
    → SpellsOn (node_bodies p flow q bare (mapping_node o ps))
unfolding node_bodies
mapping_spells p flow q bare o ps r inner bs s =
    let f = is_flow_at p flow o (are_no_pairs ps) in
    let behind = mapping_closes f bs in
    properties_spell p.directives o.anchor (start_tag false o) (kept_readable p.directives o.implicit o.tag r) (mapping_opens f (pairs_bodies p f true ps behind))
    (mapping_opened f (pairs_bodies p f true ps behind) (inner behind (mapping_closed f bs s)))

mutual
  unfolding node_bodies items_bodies pairs_bodies

  node_spells : (p : Context) (n : Node) → IsTagged p.directives n
      → (flow : Bool) (q : Part) (bare : Bool) → SpellsOn (node_bodies p flow q bare n)
  node_spells p (alias_node name) r flow q bare bs s = (refl, s)
  node_spells p (scalar_node x) r flow q bare bs s = scalar_spells p flow q bare x r bs s
  node_spells p (sequence_node o ns) (r, rs) flow q bare bs s = sequence_spells p flow q bare o ns r (items_spell p ns rs (is_flow_at p flow o (are_none ns)) true) bs s
  node_spells p (mapping_node o ps) (r, rs) flow q bare bs s = mapping_spells p flow q bare o ps r (pairs_spell p ps rs (is_flow_at p flow o (are_no_pairs ps)) true) bs s

  items_spell : (p : Context) (ns : Nodes) → AreTagged p.directives ns → (flow fresh : Bool)
      → SpellsOn (items_bodies p flow fresh ns)
  items_spell p no_nodes r flow fresh bs s = s
  items_spell p (node x xs) (r, rs) flow fresh bs s =
      let behind = items_bodies p flow false xs bs in
      item_spells flow fresh (node_bodies p flow part.Item true x behind) (node_spells p x r flow part.Item true behind (items_spell p xs rs flow false bs s))

  pairs_spell : (p : Context) (ps : Pairs) → PairsAreTagged p.directives ps → (flow fresh : Bool)
      → SpellsOn (pairs_bodies p flow fresh ps)
  pairs_spell p no_pairs r flow fresh bs s = s
  pairs_spell p (pair k v ps) (rk, rv, rs) flow fresh bs s =
      let e = is_simple p k in
      let behind = pairs_bodies p flow false ps bs in
      let value = node_bodies p flow part.Value (not e) v behind in
      pair_spells flow fresh (node_bodies p flow (key_part e) (not e) k (token.value ∷ value))
      (node_spells p k rk flow (key_part e) (not e) (token.value ∷ value) (refl, node_spells p v rv flow part.Value (not e) behind (pairs_spell p ps rs flow false bs s)))

-- ---- documents

documents_spell : (s : Settings) (first unended kept : Bool) (ds : List Document) → HaveTexts ds
    → Spell (documents_bodies s first unended kept ds)
unfolding documents_bodies
documents_spell s first unended kept [] r = end_spells (unended && kept) (token.stream_end ∷ []) (refl, tt)
documents_spell s first unended kept (d ∷ ds) (us, r, rs) =
    let o = d.opening in
    let more = documents_bodies s false d.implicit_end (is_root_kept s d) ds in
    let after = end_bodies (not d.implicit_end) more in
    let root = root_bodies s d after in
    let started = start_bodies (not (is_marked s first o)) root in
    let said = start_spells (not (is_marked s first o)) root
    (node_spells (context_in s d) d.root r false part.Item true after (end_spells (not d.implicit_end) more (documents_spell s false d.implicit_end (is_root_kept s d) ds rs))) in
    end_spells (unended && is_directed o) (opening_bodies s first o root)
    (version_spells o.version (directives_bodies o.directives started) (directives_spell o.directives us started said))

pub tokens_pass : PrettyTokensPass
tokens_pass s x ds r ts e = passes ts (subst Spell (sym e) (refl, documents_spell s true false false ds r))
