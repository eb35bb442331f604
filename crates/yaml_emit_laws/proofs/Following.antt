-- What follows a node: a line, and something that is neither white nor a comment.
use Rattle.std.proofs.Common.{◌≡◌, ℕ, ◌+◌, ◌≤◌, ◌==◌, ◌&&◌, ◌||◌, not, nat_lt, true, false, List, ◌++◌, zero, suc, refl, ap, ◌∙◌, arith, replicate, append_assoc, None}
use Rattle.yaml_emit_laws.proofs.NodeWords.{nat_tests, Cursor, LineBreak, Lf, Rest, line, break_text, bytes, first, front_encodes, stops_plain_at, begins_white, begins_solid, behind_lines, what_stops, break_low, blanks_bare, blanks_white, break_of, begins_blank, Follows, NoFeed, no_comment, ShowsNode, Ending, ShownEnds, blanks_column, line_is, after_blanks, line_start}
use Rattle.yaml_emit_laws.proofs.Escapes.{low_encodes}
use Rattle.yaml_emit_laws.proofs.DocStarts.{break_white}

spaces_calm : (n : ℕ) (bs : List ℕ) → no_comment (replicate n 32 ++ bs) ≡ no_comment bs
unfolding no_comment
spaces_calm zero bs = refl
spaces_calm (suc n) bs = spaces_calm n bs

pub line_calm : (b : LineBreak) (n : ℕ) (bs : List ℕ)
    → no_comment (break_text b ++ (replicate n 32 ++ bs)) ≡ no_comment bs
unfolding no_comment
line_calm Lf n bs = spaces_calm n bs
line_calm _ n bs = spaces_calm n bs

start_column : (n : ℕ) (e : Cursor) → (after_blanks n (line_start e)).column ≡ n
start_column n e = let z = blanks_column n (line_start e) in omega (arith, z)

pub line_bytes : (b : LineBreak) (n : ℕ) (c : Cursor) (rest : Rest) → c.bare ≡ false
    → bytes (line b n c rest) ≡ break_text b
    ++ (replicate n 32 ++ bytes (rest (after_blanks n (line_start c))))
line_bytes b n c rest bare = grind (arith, nat_tests, line_is, front_encodes, low_encodes, break_low, append_assoc)

pub follows_line : (b : LineBreak) (n : ℕ) (rest : Rest) → ShowsNode n rest
    → Follows (n + 1) (λ e. line b n e rest)
follows_line b n rest shows = record {
  stops = λ level low e bare. let d = after_blanks n (line_start e) in
      ap (λ bs. stops_plain_at false level None bs) (line_bytes b n e rest bare) ∙ (behind_lines false level n (bytes (rest d))).0 b None
      ∙ (what_stops false level None).4 n (bytes (rest d)) (omega (arith, low)) (shows.solid d (blanks_bare n (line_start e) refl) (blanks_white n (line_start e) refl) (start_column n e));
  calm = λ e bare. let d = after_blanks n (line_start e) in
      ap (λ bs. no_comment bs) (line_bytes b n e rest bare) ∙ line_calm b n (bytes (rest d)) ∙ shows.calm d (blanks_bare n (line_start e) refl) (blanks_white n (line_start e) refl) (start_column n e);
  white = λ e bare. let d = after_blanks n (line_start e) in
      ap (λ bs. begins_white bs) (line_bytes b n e rest bare) ∙ break_white b (replicate n 32 ++ bytes (rest d));
}

solid_no_feed : (bs : List ℕ) → begins_solid bs ≡ true → first bs ≡ 10 → ⊥
solid_no_feed bs h e = grind (arith, nat_tests)

pub shows_no_feed : (n : ℕ) (rest : Rest) → ShowsNode n rest → NoFeed n rest
shows_no_feed n rest shows e bare white column f = solid_no_feed (bytes (rest e)) (shows.solid e bare white column) f

pub follows_up : (m n : ℕ) (rest : Rest) → m ≤ n → Follows m rest → Follows n rest
follows_up m n rest up f = record { stops = λ level low e bare. f.stops level (omega (arith, up, low)) e bare; calm = f.calm; white = f.white }

-- ---- the end of a node

no_blank : (b c d : ℕ)
    → (not (b == 32 || (b == 10 || b == 13)) && (not (b == 9) && break_of b c d == 0)) ≡ true
    → ((b == 32 || b == 9) || nat_lt 0 (break_of b c d)) ≡ false
unfolding break_of
no_blank b c d h = grind (arith, nat_tests)

solid_blank : (bs : List ℕ) → begins_solid bs ≡ true → begins_blank bs ≡ false
solid_blank bs h = grind (arith, nat_tests, no_blank)

pub shown_ends : ShownEnds
shown_ends b n after shows = grind (arith, nat_tests, follows_line, shows_no_feed, solid_blank)

-- in deeper levels too
pub ending_up : (b : LineBreak) (m level deeper : ℕ) (after : Rest) → level ≤ deeper
    → Ending b m level after → Ending b m deeper after
ending_up b m level deeper after up e = record { follows = follows_up level deeper (λ k. line b m k after) up e.follows; feed = e.feed; solid = e.solid }
