-- What is written is read back, wherever a text has it and whatever follows.
use Rattle.std.specs.Prelude.{ℕ, ◌+◌, ◌<◌, ◌==◌, ◌||◌, Bool, true, false, List, [], ◌∷◌, ◌++◌, ◌≡◌, length, Ok}
use Rattle.yaml_scan_model.specs.scan_types.Ascii as ascii
use Rattle.yaml_scan_model.specs.declared.problem.Context.{Context}
use Rattle.yaml_scan_model.specs.scan_types.Marks.{byte}
use Rattle.yaml_scan_history.specs.Between.{gap_at}
use Rattle.yaml_scan_history.specs.Anchors.{anchor_at, may_end_name}
use Rattle.yaml_scan_history.specs.Uris.{uri_at, is_uri}
use Rattle.yaml_scan_history.specs.Tags.{tag_at, may_end_tag}
use Rattle.yaml_scan_history.specs.Written.{HasAt, are_alphas, are_gap, has_break, begins_lexeme, UriPiece, uri_text, uri_bytes, IsUri, has_no_mark}

abbrev pub GapReads : Type 0
GapReads = (flow allowed : Bool) (text : List ℕ) (p : ℕ) (gap : List ℕ) → HasAt text p gap
    → are_gap gap ≡ true → begins_lexeme text (p + length gap) ≡ true
    → gap_at flow allowed text p ≡ record { place = p + length gap; broke = has_break gap }

abbrev pub AnchorReads : Type 0
AnchorReads = (context : Context) (text : List ℕ) (p : ℕ) (name : List ℕ) → HasAt text (p + 1) name
    → 0 < length name → are_alphas name ≡ true
    → may_end_name text (p + 1 + length name) ≡ true
    → anchor_at context text p ≡ Ok (name, p + 1 + length name)

abbrev pub UriReads : Type 0
UriReads = (context : Context) (wide : Bool) (text : List ℕ) (p : ℕ) (pieces : List UriPiece)
    → HasAt text p (uri_text pieces) → IsUri wide 0 pieces
    → (byte text (p + length (uri_text pieces)) == ascii.percent || is_uri wide text
    (p + length (uri_text pieces))) ≡ false
    → uri_at context wide text p ≡ Ok (uri_bytes pieces, p + length (uri_text pieces))

-- `!` before a URI that has no `!` of its own
abbrev pub BareTagReads : Type 0
BareTagReads = (flow : Bool) (text : List ℕ) (p : ℕ) (pieces : List UriPiece)
    → HasAt text p (ascii.exclamation ∷ uri_text pieces) → 0 < length pieces → IsUri false 0 pieces
    → has_no_mark pieces ≡ true
    → may_end_tag flow text (p + 1 + length (uri_text pieces)) ≡ true
    → tag_at flow text p ≡ Ok record {
      handle = ascii.exclamation ∷ [];
      suffix = uri_bytes pieces;
      end = p + 1
          + length (uri_text pieces);
    }

-- `!alphas!` before a URI
abbrev pub NamedTagReads : Type 0
NamedTagReads = (flow : Bool) (text : List ℕ) (p : ℕ) (name : List ℕ) (pieces : List UriPiece)
    → HasAt text p (ascii.exclamation ∷ (name ++ (ascii.exclamation ∷ uri_text pieces)))
    → are_alphas name ≡ true
    → 0 < length pieces → IsUri false 0 pieces
    → may_end_tag flow text (p + 2 + length name + length (uri_text pieces)) ≡ true
    → tag_at flow text p ≡ Ok record {
      handle = ascii.exclamation ∷ (name ++ (ascii.exclamation ∷ []));
      suffix = uri_bytes pieces;
      end = p + 2 + length name + length (uri_text pieces);
    }

-- `!<uri>`
abbrev pub VerbatimTagReads : Type 0
VerbatimTagReads = (flow : Bool) (text : List ℕ) (p : ℕ) (pieces : List UriPiece)
    → HasAt text p (ascii.exclamation ∷ (ascii.less ∷ (uri_text pieces ++ (ascii.greater ∷ []))))
    → 0 < length pieces
    → IsUri true 0 pieces
    → may_end_tag flow text (p + 3 + length (uri_text pieces)) ≡ true
    → tag_at flow text p ≡ Ok record {
      handle = [];
      suffix = uri_bytes pieces;
      end = p + 3 + length
          (uri_text pieces);
    }
