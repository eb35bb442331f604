-- Names and tags as they are written.
use Rattle.std.specs.Prelude.{◌≡◌, ℕ, ◌+◌, Bool, true, false, List, Option, Some, None, option_map, ⊤}
use Rattle.std.specs.Str.{IsAscii}
use Rattle.yaml_emit_layout.specs.Layout.{Layout, ◌▹◌, stay, word}
use Rattle.yaml_emit_layout.specs.Tags.{Split, spelled, split_of, split_tag, split_size}
use Rattle.yaml_parse_model.specs.Events.{TagDirective}
use Rattle.yaml_emit_layout.specs.Nodes.{anchor_text, text_size}
use Rattle.yaml_emit_core.specs.declared.names.Properties.{Properties}

abbrev pub split_text : Option Split → Layout
split_text None = stay
split_text (Some s) = word (spelled s)

abbrev pub cut_size : Option Split → ℕ
cut_size None = 0
cut_size (Some s) = split_size s

abbrev pub name_in : Properties → Option (List ℕ)
name_in p = option_map (λ n. n.now) p.anchor

abbrev pub tag_in : Properties → Option Split
tag_in p = option_map split_of p.tag

abbrev pub is_cut : Option Split → Bool
is_cut None = false
is_cut (Some s) = true

abbrev pub has_tag : Properties → Bool
has_tag p = is_cut (tag_in p)

-- an anchor and a tag
abbrev pub names_text : Properties → Layout
names_text p = anchor_text (name_in p) ▹ split_text (tag_in p)

-- bytes of the anchor, and of the tag's handle and suffix before they are escaped
abbrev pub names_size : Properties → ℕ
names_size p = text_size (name_in p) + cut_size (tag_in p)

-- a name is in ASCII, as one is that was judged
abbrev pub IsName : Option (List ℕ) → Type 0
IsName None = ⊤
IsName (Some name) = IsAscii name

-- they are that anchor and that tag
pub record AreOf (directives : List TagDirective) (p : Properties) (anchor tag : Option
    (List ℕ)) : Type 0 where
  pub name : name_in p ≡ anchor
  pub spelling : tag_in p ≡ option_map (split_tag directives) tag
