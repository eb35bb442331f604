-- What an emitter writes between single quotes is read back, in lines or in one.
use Rattle.std.proofs.Common.{◌≡◌, ℕ, ◌+◌, ◌<◌, true, List, [], ◌∷◌, ◌++◌, length, Ok, refl, sym, ap, subst, ◌∙◌, encode_utf8_all, IsUtf8, false, true≢false, chars}
use Rattle.yaml_emit_laws.proofs.ScalarWords.{encodes-chars, scalars-chars, byte, HasAt, Cursor, Page, letter, char, in_front, allowed, doubled, spelling, meaning, quoted, between_single, is_one_line, SingleSpellingReads, front_append, front_one, front_more, moved_by, not_start}
use Rattle.yaml_scan_history.specs.Quoted.{single_quoted_at}
use Rattle.yaml_emit_laws.specs.SingleLaws.{SingleIsBack}
use Rattle.yaml_emit_laws.proofs.Letters.{Behind}
use Rattle.yaml_emit_laws.proofs.Writing.{left}
use Rattle.yaml_emit_laws.proofs.Shown.{single_show}
use Rattle.yaml_emit_laws.proofs.Single.{between}

-- before the first character
pub start_behind : (c : Cursor) (value : List ℕ) → Behind 32 c doubled value
start_behind c value = record { blank = λ t. absurd (true≢false (sym t)); turn = λ t. absurd (true≢false (sym t)); bare = λ f g. absurd (true≢false f) }

-- A single quoted value reads back from any cursor, where single quotes may write it.
pub single_back : SingleSpellingReads → (page : Page) (c : Cursor) (value : List ℕ) → IsUtf8 value
    → (page.cuts ≡ true → 0 < page.indentation)
    → (is_one_line (chars value) ≡ false → 0 < page.indentation)
    → (allowed page.unicode (chars value)).single ≡ true
    → SingleIsBack (between_single page (chars value)) c value
single_back law page c value u cuts lines a =
    let good = single_show page.unicode (chars value) a (scalars-chars value u) in
    let r = left page true 32 (moved_by c) doubled (chars value) (record { cuts = cuts; lines = lines }) good (start_behind (moved_by c) (chars value)) (λ e. (refl, refl)) refl in
    let whole = 39 ∷ (r.letters ++ 39 ∷ []) in
    let bytes : encode_utf8_all (39 ∷ (r.letters ++ 39 ∷ [])) ≡ quoted 39 r.parts = between r.letters (spelling r.parts) r.bytes in
    let means : meaning r.parts ≡ value = r.means ∙ encodes-chars value u in
    record {
      letters = whole;
      inside = r.letters ++ 39 ∷ [];
      begins = refl;
      behind = moved_by r.behind;
      written = λ rest.
          ap (λ t. letter 39 ∷ t) (r.text (λ d. char 39 d rest) ∙ ap (in_front r.letters) (sym (front_one 39 (rest (moved_by r.behind)))) ∙ sym (front_append r.letters (39 ∷ []) (rest (moved_by r.behind))))
          ∙ sym (front_more 39 (r.letters ++ 39 ∷ []) (rest (moved_by r.behind)));
      read = λ text p h n.
          let P : List ℕ → Type 0 = λ bs. HasAt text p bs → (byte text (p + length bs) ≡ 39 → ⊥) → single_quoted_at text p ≡ Ok (value, p + length bs) in
          subst P (sym bytes) (λ k m. law r.parts text p r.right k m ∙ ap (λ v. Ok (v, p + length (quoted 39 r.parts))) means) h n;
      bare = refl;
      white = refl;
      column = not_start r.behind.column;
      kept = r.kept;
    }
