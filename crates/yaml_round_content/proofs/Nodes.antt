-- What all layouts of documents are made of.
use Rattle.std.proofs.Common.{ℕ, Bool, true, false, not, nat_lt, List, [], ◌∷◌, Option, arith}
use Rattle.yaml_round_content.proofs.ReadBackWords.{Settings, char, word, Context, MOST, checked, deep_if, line_at, anchor_text, tag_text, properties_text, dots, Item, IsNameOption, IsTextOption}
use Rattle.yaml_emit_laws.specs.emit_layout.Nodes.{comma}
use Rattle.yaml_round_content.proofs.Characters.{Fits, graphic}
use Rattle.yaml_round_content.proofs.ReadBackLayouts.{Allowed, Tame, deep_allowed, both, when_tame, char_tame, word_tame, line_tame}
use Rattle.yaml_round_content.proofs.Leaves.{TagsFit, anchor_tame, tag_tame}

deep_tame : (b : Bool) (t : List Item) → Allowed t → Allowed (deep_if b t)
deep_tame true t h = deep_allowed t h
deep_tame false t h = h

-- An indentation that is checked is tame.
pub checked_tame : (n : ℕ) → Tame (checked n)
checked_tame n c rest h = deep_tame (nat_lt MOST n) (rest c) (h c)

-- Properties that fit are tame.
pub properties_tame : (p : Context) → TagsFit p.directives → (anchor tag : Option (List ℕ))
    → IsNameOption anchor → IsTextOption tag → Tame (properties_text p anchor tag)
properties_tame p fit anchor tag ha ht = both (anchor_text anchor) (tag_text p tag) (anchor_tame anchor ha) (tag_tame p fit tag ht)

-- A comma is tame.
pub comma_tame : (fresh : Bool) → Tame (comma fresh)
comma_tame fresh = when_tame (not fresh) (char 44) (char_tame 44 (graphic 44 (omega arith) (omega arith)))

-- A `...` is tame.
pub dots_tame : (s : Settings) → Tame (dots s)
dots_tame s =
    let dot : Fits 46 = graphic 46 (omega arith) (omega arith) in
    both (word (46 ∷ 46 ∷ 46 ∷ [])) (line_at s 0) (word_tame (46 ∷ 46 ∷ 46 ∷ []) (dot, (dot, (dot, tt)))) (line_tame s.line_break 0)
