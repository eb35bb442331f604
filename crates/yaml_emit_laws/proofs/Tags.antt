-- Tags as words.
use Rattle.std.proofs.Common.{◌≡◌, ℕ, ◌+◌, Bool, false, List, [], ◌∷◌, length, Some, Result, Ok, refl, sym, ap, subst, ◌∙◌}
use Rattle.yaml_emit_laws.proofs.Shared.{byte, Wrong, TagText, tag_at, GapReads, indicator_of, lexeme_at, tagged, ◌▹◌, word, Split, shorthand, verbatim, spelled, split_tag, Opening, LoneMarkReads, SplitTagsAreRead, WrittenTagsAreReadable, ReadableTagsAreAscii, tag_body, IsWritableOpening, Has, Walks}
use Rattle.yaml_scan_history.specs.declared.kind.Kind.TheVariants as kinds
use Rattle.yaml_emit_layout.specs.scan_types.Tokens as tokens
use Rattle.yaml_emit_laws.specs.TagsLaws.{tag_text}
use Rattle.yaml_emit_laws.proofs.Forms.{TagWalks, MarkWalks}
use Rattle.yaml_emit_laws.proofs.Places.{has_at}
use Rattle.yaml_emit_laws.proofs.Steps.{Sign}
use Rattle.yaml_emit_laws.proofs.Words.{sign, word_walks}
pub use Rattle.yaml_emit_laws.proofs.Words.{letters_are}

mark_sign : Sign 33
mark_sign = sign 33 refl refl refl refl refl refl refl refl refl refl

-- A `!` begins a tag.
pub mark_kind : (flow alone : Bool) → indicator_of flow alone 33 ≡ Some kinds.Tag
unfolding indicator_of
mark_kind flow alone = refl

tag_word : (flow : Bool) (text : List ℕ) (p : ℕ)
    → lexeme_at kinds.Tag flow 0 text p ≡ tagged (tag_at flow text p)
unfolding lexeme_at
tag_word flow text p = refl

-- What is read of a tag is its word.
pub said_tag : (r : Result TagText Wrong) (t : TagText) → r ≡ Ok t
    → tagged r ≡ Ok (record {
      body = tokens.tag t.handle t.suffix;
      end = t.end;
      reached = t.end;
      broke = false;
    })
said_tag r t e = rw e refl

-- a tag's text as the scanner carries it
pub text_is : (s : Split) (e : ℕ)
    → tagged (Ok (tag_text s e)) ≡ Ok
    (record { body = tag_body s; end = e; reached = e; broke = false })
text_is (shorthand handle suffix) e = refl
text_is (verbatim t) e = refl

pub mark_walks : GapReads → LoneMarkReads → MarkWalks
mark_walks law lone b K B d e rest spaced w c =
    word_walks law 33 mark_sign kinds.Tag refl (λ d. refl) mark_kind [] refl (tokens.tag [] (33 ∷ []))
    (λ flow text p has space. let (h, more) = has in tag_word flow text p ∙ said_tag (tag_at flow text p) (record { handle = []; suffix = 33 ∷ []; end = p + 1 }) (lone flow text p h space)) b K B d e rest spaced w c

pub tag_walks : GapReads → SplitTagsAreRead → WrittenTagsAreReadable → ReadableTagsAreAscii
    → (o : Opening) → IsWritableOpening o → TagWalks o.directives
tag_walks law split readable ascii o (right, utf8) t (some, text_utf8) b K B d e rest spaced w c =
    let s = split_tag o.directives t in
    let may = readable o right utf8 t text_utf8 some in
    let x = ascii s may in
    let P : List ℕ → Type 0 = λ (y : List ℕ). Walks (word y ▹ b) (λ ks. K (kinds.Tag ∷ ks)) (λ bs. tag_body s ∷ B bs) d e c rest in
    subst P (sym x.begins)
    (word_walks law 33 mark_sign kinds.Tag refl (λ d. refl) mark_kind x.more x.ascii (tag_body s)
    (λ flow text p has space.
    let y = 33 ∷ x.more in
    let Q : List ℕ → Type 0 = λ (z : List ℕ). Has text p z → byte text (p + length z) ≡ 32 → lexeme_at kinds.Tag flow 0 text p ≡ Ok (record { body = tag_body s; end = p + length z; reached = p + length z; broke = false }) in
    let read : Q (spelled s) =
    λ has2 space2. tag_word flow text p
    ∙ ap (λ (r : Result TagText Wrong). tagged r) (split s may flow text p (has_at text p (spelled s) has2) (rw space2 refl)) ∙ text_is s (p + length (spelled s)) in
    let turned : Q y = subst Q x.begins read in
    turned has space) b K B d e rest spaced w c)
