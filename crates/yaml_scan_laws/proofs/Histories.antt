-- What lexemes decide, after others that decide the same.
use Rattle.std.proofs.Common.{◌≡◌, ℕ, ◌+◌, ◌==◌, ◌&&◌, ◌||◌, nat_lt, not, List, [], ◌∷◌, ◌++◌, map, length, Option, Some, None, refl, ap, ◌∙◌, arith}
use Rattle.yaml_scan_laws.proofs.Shared.{nat_tests, length-append, length-map, yaml_mark_t, Kind, Lexeme, is_start, allows_key, flow_depth, Candidate, candidate, is_fresh, fresh, found_by, has, opens_at, opened, left_by, open_levels, key_allowed, moved_mark, moved_lexeme}

-- Two lists of lexemes that decide the same of what comes after them and another one: no candidate is open in either, and the
-- second one has k more.
pub record Bases (d n k : ℕ) (b c : List Lexeme) : Type 0 where
  pub depth : flow_depth c ≡ flow_depth b
  pub mine : (e : ℕ) → candidate e b ≡ None
  pub others : (e : ℕ) → candidate e c ≡ None
  pub levels : open_levels c ≡ open_levels b
  pub count : length c ≡ k + length b

abbrev pub moved_lexemes : ℕ → ℕ → List Lexeme → List Lexeme
moved_lexemes d n h = map (moved_lexeme d n) h

abbrev pub moved_candidate : ℕ → ℕ → ℕ → Candidate → Candidate
moved_candidate d n k c = record { number = k + c.number; lexeme = moved_lexeme d n c.lexeme }

abbrev pub moved_found : ℕ → ℕ → ℕ → Option Candidate → Option Candidate
moved_found d n k None = None
moved_found d n k (Some c) = Some (moved_candidate d n k c)

pub depth_on : (d n k : ℕ) (h b c : List Lexeme) → Bases d n k b c
    → flow_depth (moved_lexemes d n h ++ c) ≡ flow_depth (h ++ b)
depth_on d n k [] b c s = s.depth
depth_on d n k (l ∷ h) b c s = refl

pub length_on : (d n k : ℕ) (h b c : List Lexeme) → Bases d n k b c
    → length (moved_lexemes d n h ++ c) ≡ k + length (h ++ b)
length_on d n k h b c s =
    omega (arith, s.count, length-append h b, length-append (moved_lexemes d n h) c, length-map h (moved_lexeme d n))

-- one lexeme more
pub candidate_moved : (d n k e : ℕ) (l : Lexeme) (H G : List Lexeme) → length G ≡ k + length H
    → candidate e G ≡ moved_found d n k (candidate e H)
    → candidate e (moved_lexeme d n l ∷ G) ≡ moved_found d n k (candidate e (l ∷ H))
unfolding candidate
candidate_moved d n k e l H G count same = grind (arith, nat_tests)

pub candidate_on : (d n k e : ℕ) (h b c : List Lexeme) → Bases d n k b c
    → candidate e (moved_lexemes d n h ++ c) ≡ moved_found d n k (candidate e (h ++ b))
candidate_on d n k e [] b c s = rw (s.mine e, s.others e) refl
candidate_on d n k e (l ∷ h) b c s = candidate_moved d n k e l (h ++ b) (moved_lexemes d n h ++ c) (length_on d n k h b c s) (candidate_on d n k e h b c s)

pub near_moved : (d n : ℕ) (start place : yaml_mark_t)
    → is_fresh (moved_mark d n start) (moved_mark d n place) ≡ is_fresh start place
near_moved d n start place = grind (arith, nat_tests)

pub fresh_moved : (d n k : ℕ) (o : Option Candidate) (place : yaml_mark_t)
    → fresh (moved_found d n k o) (moved_mark d n place) ≡ moved_found d n k (fresh o place)
fresh_moved d n k o place = grind (arith, nat_tests, near_moved)

pub found_on : (d n k : ℕ) (l : Lexeme) (h b c : List Lexeme) → Bases d n k b c
    → found_by (moved_lexeme d n l) (moved_lexemes d n h ++ c) ≡ moved_found d n k (found_by l (h ++ b))
found_on d n k l h b c s = grind (arith, nat_tests, candidate_on, fresh_moved)

pub has_moved : (d n k : ℕ) (o : Option Candidate) → has (moved_found d n k o) ≡ has o
has_moved d n k o = grind (arith, nat_tests)

opens_moved : (d n k : ℕ) (o : Option Candidate) (x : Kind) (column : ℕ)
    → opens_at (moved_found d n k o) x column ≡ opens_at o x column
opens_moved d n k o x column = grind (arith, nat_tests)

pub levels_on : (d n k : ℕ) (h b c : List Lexeme) → Bases d n k b c
    → open_levels (moved_lexemes d n h ++ c) ≡ open_levels (h ++ b)
unfolding open_levels
levels_on d n k [] b c s = s.levels
levels_on d n k (l ∷ h) b c s =
    let opens = ap (λ o. opens_at o l.kind l.start.column) (found_on d n k l h b c s) ∙ opens_moved d n k (found_by l (h ++ b)) l.kind l.start.column in
    let before = levels_on d n k h b c s in
    let may = is_start l.kind && not (nat_lt 0 l.depth) in
    ap (λ x. opened may x (left_by l.kind l.depth l.start.column (open_levels (moved_lexemes d n h ++ c)))) opens
    ∙ ap (λ x. opened may (opens_at (found_by l (h ++ b)) l.kind l.start.column) (left_by l.kind l.depth l.start.column x)) before

pub allowed_on : (d n k : ℕ) (l : Lexeme) (h b c : List Lexeme) → Bases d n k b c
    → key_allowed (moved_lexemes d n (l ∷ h) ++ c) ≡ key_allowed (l ∷ h ++ b)
allowed_on d n k l h b c s =
    ap (λ x. allows_key l.kind (l.depth == 0) x || l.broke) (ap has (found_on d n k l h b c s) ∙ has_moved d n k (found_by l (h ++ b)))
