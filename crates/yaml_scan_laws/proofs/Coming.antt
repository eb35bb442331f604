-- What comes next is the same in both texts.
use Rattle.std.proofs.Common.{◌≡◌, ℕ, ◌+◌, ◌<◌, ◌≤◌, ◌&&◌, ◌||◌, nat_lt, if◌then◌else◌, Bool, true, false, not, List, [], ◌∷◌, ◌++◌, length, Option, Some, None, Result, Ok, Err, refl, sym, ap, ◌∙◌, inl, inr, arith}
use Rattle.yaml_scan_laws.proofs.Shared.{nat_tests, cases_Bool, yaml_mark_t, ScanFault, line_at, mark_at, Wrong, Gap, Kind, Lexeme, is_end, reached, flow_depth, in_flow, Candidate, candidate, fresh, open_at, open_levels, key_allowed, placed, WordText, kind_at, Read, Fails, gap_behind, place_behind, kind_behind, allowed_behind, begun, finished, begun_behind, word_behind, with_end, lexeme_behind, missed, lost_by, misplaced, colon_missing_of, no_start, not_allowed_there, stale_before, indicator_misplaced, candidate_lost, wrong_in, text_wrong, stale_after, first_fault_or, coming, Alike, moved_mark, moved_lexeme, moved_scan_fault, moved_next}
use Rattle.yaml_scan_laws.proofs.Bytes.{column_alike, line_alike}
use Rattle.yaml_scan_laws.proofs.Gaps.{GapsAlike, gap_alike, moved_by}
use Rattle.yaml_scan_laws.proofs.CutsWords.{kind_alike, moved_word}
use Rattle.yaml_scan_laws.proofs.Histories.{Bases, moved_lexemes, moved_found, depth_on, length_on, candidate_on, near_moved, fresh_moved, has_moved, levels_on, allowed_on, candidate_moved}

-- ---- parts of the definitions, moved

-- the mark of an opener that is moved
abbrev pub moved_option : ℕ → ℕ → Option yaml_mark_t → Option yaml_mark_t
moved_option d n None = None
moved_option d n (Some m) = Some (moved_mark d n m)

abbrev pub moved_fault : ℕ → ℕ → Option ScanFault → Option ScanFault
moved_fault d n None = None
moved_fault d n (Some f) = Some (moved_scan_fault d n f)

missed_moved : (d n k : ℕ) (o : Option Candidate) (place : yaml_mark_t)
    → missed (moved_found d n k o) (moved_mark d n place) ≡ moved_option d n (missed o place)
missed_moved d n k o place = grind (arith, near_moved)

lost_moved : (d n k : ℕ) (l : Lexeme) (o : Option Candidate)
    → lost_by (moved_lexeme d n l) (moved_found d n k o) ≡ moved_option d n (lost_by l o)
lost_moved d n k l o = grind arith

colon_moved : (d n : ℕ) (o : Option yaml_mark_t) (place : yaml_mark_t)
    → colon_missing_of (moved_option d n o) (moved_mark d n place)
    ≡ moved_fault d n (colon_missing_of o place)
colon_moved d n o place = grind (arith, nat_tests)

first_moved : (d n : ℕ) (a b c e f : Option ScanFault) (l : Lexeme) (v w x y z : Option ScanFault)
    (k : Lexeme) → v ≡ moved_fault d n a → w ≡ moved_fault d n b → x ≡ moved_fault d n c
    → y ≡ moved_fault d n e → z ≡ moved_fault d n f → k ≡ moved_lexeme d n l
    → first_fault_or (v ∷ w ∷ x ∷ y ∷ z ∷ []) (Read k)
    ≡ moved_next d n (first_fault_or (a ∷ b ∷ c ∷ e ∷ f ∷ []) (Read l))
first_moved d n a b c e f l v w x y z k h i j o p q = grind arith

only_moved : (d n : ℕ) (a : Option ScanFault) (m : yaml_mark_t)
    → first_fault_or (moved_fault d n a ∷ []) (Fails (no_start (moved_mark d n m)))
    ≡ moved_next d n (first_fault_or (a ∷ []) (Fails (no_start m)))
only_moved d n a m = grind (arith, nat_tests)

placed_moved : (d n : ℕ) (k : Kind) (m : yaml_mark_t)
    → placed k (moved_mark d n m) ≡ moved_mark d n (placed k m)
placed_moved d n k m = grind arith

-- ---- where the next lexeme is

-- The marks of a place within are the same, moved.
pub mark_alike : (t u : List ℕ) (d m n p : ℕ) → Alike t u d m → line_at u d ≡ n → p ≤ m
    → mark_at u (d + p) ≡ moved_mark d n (mark_at t p)
mark_alike t u d m n p a line l = rw (line_alike t u d m p a l, column_alike t u d m p a l, line) refl

-- both histories, each over its text, before alike lexemes
pub record Pair (t u : List ℕ) (d m n k : ℕ) (H G : List Lexeme) : Type 0 where
  pub alike : Alike t u d m
  pub line : line_at u d ≡ n
  pub same_depth : flow_depth G ≡ flow_depth H
  pub same_levels : open_levels G ≡ open_levels H
  pub candidates : (e : ℕ) → candidate e G ≡ moved_found d n k (candidate e H)
  pub count : length G ≡ k + length H
  pub place : (gap_behind u G).place ≡ d + (gap_behind t H).place
  pub inside : (gap_behind t H).place ≤ m
  pub allowed : allowed_behind G (gap_behind u G) ≡ allowed_behind H (gap_behind t H)
  pub held : open_at 0 G ≡ moved_found d n k (open_at 0 H)

-- both histories, each over its text, after alike lexemes
pub record Abreast (t u : List ℕ) (d m n k : ℕ) (H G : List Lexeme) : Type 0 where
  pub alike : Alike t u d m
  pub line : line_at u d ≡ n
  pub same_depth : flow_depth G ≡ flow_depth H
  pub same_place : reached G ≡ moved_mark d n (reached H)
  pub same_allowed : key_allowed G ≡ key_allowed H
  pub same_levels : open_levels G ≡ open_levels H
  pub candidates : (e : ℕ) → candidate e G ≡ moved_found d n k (candidate e H)
  pub count : length G ≡ k + length H
  pub within : (reached H).index ≤ m

gap_there : (t u : List ℕ) (d m n k : ℕ) (H G : List Lexeme) → Abreast t u d m n k H G
    → GapsAlike d m (gap_behind t H) (gap_behind u G)
gap_there t u d m n k H G x = rw (x.same_depth, x.same_allowed, x.same_place) (gap_alike t u d m (in_flow H) (key_allowed H) (reached H).index x.alike x.within)

pub abreast : (t u : List ℕ) (d m n k : ℕ) (H G : List Lexeme) → Abreast t u d m n k H G
    → Pair t u d m n k H G
abreast t u d m n k H G x =
    let gap = gap_there t u d m n k H G x in
    record {
      alike = x.alike;
      line = x.line;
      same_depth = x.same_depth;
      same_levels = x.same_levels;
      candidates = x.candidates;
      count = x.count;
      place = ap (λ (g : Gap). g.place) gap.same;
      inside = gap.inside;
      allowed = ap (λ (g : Gap). allowed_behind G g) gap.same
          ∙ ap (λ (e : Bool). e || ((gap_behind t H).broke && not (in_flow G))) x.same_allowed
          ∙ ap (λ (e : ℕ). key_allowed H || ((gap_behind t H).broke && not (nat_lt 0 e))) x.same_depth;
      held = ap (λ o. fresh o (reached G)) (x.candidates 0) ∙ ap (λ (m : yaml_mark_t). fresh (moved_found d n k (candidate 0 H)) m) x.same_place ∙ fresh_moved d n k (candidate 0 H) (reached H);
    }

-- So are lexemes on bases that are.
pub pair_on : (t u : List ℕ) (d m n k : ℕ) (h b c : List Lexeme) → Bases d n k b c
    → Pair t u d m n k b c → (reached (h ++ b)).index ≤ m
    → Pair t u d m n k (h ++ b) (moved_lexemes d n h ++ c)
pair_on t u d m n k [] b c s p within = p
pair_on t u d m n k (l ∷ h) b c s p within = abreast t u d m n k (l ∷ h ++ b) (moved_lexemes d n (l ∷ h) ++ c) record {
  alike = p.alike;
  line = p.line;
  same_depth = depth_on d n k (l ∷ h) b c s;
  same_place = refl;
  same_allowed = allowed_on d n k l h b c s;
  same_levels = levels_on d n k (l ∷ h) b c s;
  candidates = λ e. candidate_on d n k e (l ∷ h) b c s;
  count = length_on d n k (l ∷ h) b c s;
  within = within;
}

pub place_there : (t u : List ℕ) (d m n k : ℕ) (H G : List Lexeme) → Pair t u d m n k H G
    → place_behind u G ≡ moved_mark d n (place_behind t H)
place_there t u d m n k H G x =
    ap (mark_at u) x.place ∙ mark_alike t u d m n (gap_behind t H).place x.alike x.line x.inside

pub kind_there : (t u : List ℕ) (d m n k : ℕ) (H G : List Lexeme) → Pair t u d m n k H G
    → (gap_behind t H).place < m → kind_behind u G ≡ kind_behind t H
kind_there t u d m n k H G x l =
    ap (kind_at (in_flow G) u) x.place
    ∙ ap (λ (e : ℕ). kind_at (nat_lt 0 e) u (d + (gap_behind t H).place)) x.same_depth
    ∙ kind_alike t u d m (gap_behind t H).place (in_flow H) x.alike l

pub begun_there : (t u : List ℕ) (d m n k : ℕ) (H G : List Lexeme) → Pair t u d m n k H G
    → (x : Kind)
    → begun_behind x u G ≡ moved_lexeme d n (begun_behind x t H)
begun_there t u d m n k H G p x =
    let start = ap (placed x) (place_there t u d m n k H G p) ∙ placed_moved d n x (place_behind t H) in
    ap (λ (a : yaml_mark_t). begun x a (allowed_behind G (gap_behind u G)) G) start
    ∙ ap (λ (a : Bool). begun x (moved_mark d n (placed x (place_behind t H))) a G) p.allowed
    ∙ (rw (p.same_depth, p.same_levels) refl)

-- ---- the word there

-- What is said of it is the same, moved, and so is where it is wrong; what is read ends within.
pub record Said (t u : List ℕ) (d m n : ℕ) (x : Kind) (r s : Result WordText Wrong) : Type 0 where
  pub same : s ≡ moved_by (moved_word d) d r
  pub wrong : (w : Wrong) → r ≡ Err w → mark_at u (d + w.place) ≡ moved_mark d n (mark_at t w.place)
  pub ends : (w : WordText) → r ≡ Ok w → is_end x ≡ false → (w.end ≤ m) × (w.reached ≤ m)

finished_there : (t u : List ℕ) (d m n : ℕ) (l : Lexeme) (w : WordText) → Alike t u d m
    → line_at u d ≡ n → (is_end l.kind ≡ false → (w.end ≤ m) × (w.reached ≤ m))
    → finished u (moved_lexeme d n l) (moved_word d w) ≡ moved_lexeme d n (finished t l w)
finished_there t u d m n l w a line h =
    elim (cases_Bool (is_end l.kind)) [
      | inl e ↦ rw e refl
      | inr e ↦
          let (end, place) = h e in
          rw (e, mark_alike t u d m n w.end a line end, mark_alike t u d m n w.reached a line place) refl
    ]

with_end_there : (t u : List ℕ) (d m n : ℕ) (l : Lexeme) (r s : Result WordText Wrong)
    → Alike t u d m → line_at u d ≡ n → Said t u d m n l.kind r s
    → with_end u (moved_lexeme d n l) s ≡ moved_lexeme d n (with_end t l r)
with_end_there t u d m n l r s a line h = grind (arith, nat_tests, finished_there)

wrong_there : (t u : List ℕ) (d m n : ℕ) (x : Kind) (start : yaml_mark_t)
    (r s : Result WordText Wrong)
    → Said t u d m n x r s
    → wrong_in u (moved_mark d n start) s ≡ moved_fault d n (wrong_in t start r)
wrong_there t u d m n x start r s h = grind (arith, nat_tests)

pub lexeme_there : (t u : List ℕ) (d m n k : ℕ) (H G : List Lexeme) → Pair t u d m n k H G
    → (x : Kind)
    → Said t u d m n x (word_behind x t H) (word_behind x u G)
    → lexeme_behind x u G ≡ moved_lexeme d n (lexeme_behind x t H)
lexeme_there t u d m n k H G p x said = grind (arith, nat_tests, begun_there, with_end_there)

-- ---- faults

pub stale_there : (t u : List ℕ) (d m n k : ℕ) (H G : List Lexeme) → Pair t u d m n k H G
    → stale_before u G ≡ moved_fault d n (stale_before t H)
stale_there t u d m n k H G p =
    let place = place_there t u d m n k H G p in
    ap (λ o. colon_missing_of (missed o (place_behind u G)) (place_behind u G)) p.held
    ∙ ap (λ (m : yaml_mark_t). colon_missing_of (missed (moved_found d n k (open_at 0 H)) m) m) place
    ∙ ap (λ o. colon_missing_of o (moved_mark d n (place_behind t H))) (missed_moved d n k (open_at 0 H) (place_behind t H))
    ∙ colon_moved d n (missed (open_at 0 H) (place_behind t H)) (place_behind t H)

misplaced_moved : (d n k : ℕ) (x : Kind) (m : yaml_mark_t) (a : Bool) (H G : List Lexeme)
    → flow_depth G ≡ flow_depth H → ((e : ℕ) → candidate e G ≡ moved_found d n k (candidate e H))
    → misplaced x (moved_mark d n m) a G ≡ misplaced x m a H
misplaced_moved d n k x m a H G e f = grind (arith, fresh_moved, has_moved)

pub misplaced_there : (t u : List ℕ) (d m n k : ℕ) (H G : List Lexeme) → Pair t u d m n k H G
    → (x : Kind) → indicator_misplaced x u G ≡ moved_fault d n (indicator_misplaced x t H)
misplaced_there t u d m n k H G p x =
    let place = place_there t u d m n k H G p in
    let test = ap (λ (m : yaml_mark_t). misplaced x m (allowed_behind G (gap_behind u G)) G) place
    ∙ ap (λ (a : Bool). misplaced x (moved_mark d n (place_behind t H)) a G) p.allowed
    ∙ misplaced_moved d n k x (place_behind t H) (allowed_behind H (gap_behind t H)) H G p.same_depth p.candidates in
    told (misplaced x (place_behind t H) (allowed_behind H (gap_behind t H)) H) (misplaced x (place_behind u G) (allowed_behind G (gap_behind u G)) G) (place_behind t H) (place_behind u G) test place
  where
    told : (a b : Bool) (y z : yaml_mark_t) → b ≡ a → z ≡ moved_mark d n y
        → (if b then Some (not_allowed_there x z) else None) ≡ moved_fault d n (if a then Some (not_allowed_there x y) else None)
    told true b y z e f = rw (e, f) refl
    told false b y z e f = rw e refl

pub lost_there : (t u : List ℕ) (d m n k : ℕ) (H G : List Lexeme) → Pair t u d m n k H G
    → (x : Kind) → candidate_lost x u G ≡ moved_fault d n (candidate_lost x t H)
lost_there t u d m n k H G p x =
    let place = place_there t u d m n k H G p in
    let begins = begun_there t u d m n k H G p x in
    let found = ap (λ (e : ℕ). fresh (candidate e G) (place_behind u G)) p.same_depth
    ∙ ap (λ o. fresh o (place_behind u G)) (p.candidates (flow_depth H))
    ∙ ap (λ (m : yaml_mark_t). fresh (moved_found d n k (candidate (flow_depth H) H)) m) place
    ∙ fresh_moved d n k (candidate (flow_depth H) H) (place_behind t H) in
    ap (λ (l : Lexeme). colon_missing_of (lost_by l (fresh (candidate (flow_depth G) G) (place_behind u G))) l.start) begins
    ∙ ap (λ o. colon_missing_of (lost_by (moved_lexeme d n (begun_behind x t H)) o) (moved_mark d n (begun_behind x t H).start)) found
    ∙ ap (λ o. colon_missing_of o (moved_mark d n (begun_behind x t H).start)) (lost_moved d n k (begun_behind x t H) (fresh (candidate (flow_depth H) H) (place_behind t H)))
    ∙ colon_moved d n (lost_by (begun_behind x t H) (fresh (candidate (flow_depth H) H) (place_behind t H))) (begun_behind x t H).start

text_there : (t u : List ℕ) (d m n k : ℕ) (H G : List Lexeme) → Pair t u d m n k H G → (x : Kind)
    → Said t u d m n x (word_behind x t H) (word_behind x u G)
    → text_wrong x u G ≡ moved_fault d n (text_wrong x t H)
text_there t u d m n k H G p x said = grind (arith, nat_tests, begun_there, wrong_there)

after_there : (d n k : ℕ) (l : Lexeme) (H G : List Lexeme) → length G ≡ k + length H
    → ((e : ℕ) → candidate e G ≡ moved_found d n k (candidate e H))
    → stale_after (moved_lexeme d n l) G ≡ moved_fault d n (stale_after l H)
after_there d n k l H G count f =
    ap (λ o. colon_missing_of (missed o (moved_mark d n l.reached)) (moved_mark d n l.reached)) (candidate_moved d n k 0 l H G count (f 0))
    ∙ ap (λ o. colon_missing_of o (moved_mark d n l.reached)) (missed_moved d n k (candidate 0 (l ∷ H)) l.reached)
    ∙ colon_moved d n (missed (candidate 0 (l ∷ H)) l.reached) l.reached

-- ---- what comes

coming_some : (t u : List ℕ) (d m n k : ℕ) (H G : List Lexeme) → Pair t u d m n k H G → (x : Kind)
    → Said t u d m n x (word_behind x t H) (word_behind x u G)
    → coming (Some x) u G ≡ moved_next d n (coming (Some x) t H)
coming_some t u d m n k H G p x said =
    let l = lexeme_there t u d m n k H G p x said in
    first_moved d n (stale_before t H) (indicator_misplaced x t H) (candidate_lost x t H) (text_wrong x t H) (stale_after (lexeme_behind x t H) H) (lexeme_behind x t H) _ _ _ _ _ _
    (stale_there t u d m n k H G p) (misplaced_there t u d m n k H G p x) (lost_there t u d m n k H G p x) (text_there t u d m n k H G p x said)
    (ap (λ (z : Lexeme). stale_after z G) l ∙ after_there d n k (lexeme_behind x t H) H G p.count p.candidates) l

coming_none : (t u : List ℕ) (d m n k : ℕ) (H G : List Lexeme) → Pair t u d m n k H G
    → coming None u G ≡ moved_next d n (coming None t H)
coming_none t u d m n k H G p =
    ap (λ z. first_fault_or (z ∷ []) (Fails (no_start (place_behind u G)))) (stale_there t u d m n k H G p)
    ∙ ap (λ (z : yaml_mark_t). first_fault_or (moved_fault d n (stale_before t H) ∷ []) (Fails (no_start z))) (place_there t u d m n k H G p)
    ∙ only_moved d n (stale_before t H) (place_behind t H)

-- What comes is the same, moved, where what is said of the word is.
pub coming_there : (t u : List ℕ) (d m n k : ℕ) (H G : List Lexeme) → Pair t u d m n k H G
    → (gap_behind t H).place < m → (o : Option Kind) → kind_behind t H ≡ o
    → ((x : Kind) → o ≡ Some x → Said t u d m n x (word_behind x t H) (word_behind x u G))
    → coming (kind_behind u G) u G ≡ moved_next d n (coming (kind_behind t H) t H)
coming_there t u d m n k H G p l None e said =
    ap (λ o. coming o u G) (kind_there t u d m n k H G p l ∙ e) ∙ coming_none t u d m n k H G p ∙ ap (λ o. moved_next d n (coming o t H)) (sym e)
coming_there t u d m n k H G p l (Some x) e said =
    ap (λ o. coming o u G) (kind_there t u d m n k H G p l ∙ e) ∙ coming_some t u d m n k H G p x (said x refl) ∙ ap (λ o. moved_next d n (coming o t H)) (sym e)
