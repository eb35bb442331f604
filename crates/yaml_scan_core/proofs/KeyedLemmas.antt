-- The state after the `:` of a key.
use Rattle.std.proofs.Common.{◌≡◌, ◌≢◌, ℕ, ◌+◌, ◌-◌, ◌<◌, ◌≤◌, ◌⊎◌, ◌^◌, Bool, true, false, cond, ltb, eqb, ◌&&◌, ◌||◌, not, inl, inr, List, [], ◌∷◌, ◌++◌, length, get_or, Option, Some, refl, sym, ap, subst, ◌∙◌, arith}
use Rattle.std.proofs.lemmas.List.{get_or-set_other, get_or-set_same, length-set, set-append_left}
use Rattle.yaml_scan_core.proofs.Words.{set, cases_lt, get_or_append_left, yaml_mark_t, mark_at, indent, Lexeme, Entry, Candidate, candidate, fresh, fresh_is, found_by, inside, has, finished_tokens, entry_of, mark_key, open_levels, opened, opens_at, flow_depth, allowed_behind, history, SpelledText, body_in, SimpleKey, inner, stack_of, given_up}
use Rattle.yaml_scan_model.specs.scan_types.Tokens as tokens
use Rattle.yaml_scan_history.specs.History.{marked, opens_of, start_of}
use Rattle.yaml_scan_history.specs.declared.kind.Kind.TheVariants as reads
use Rattle.yaml_scan_history.specs.declared.lexeme.Opens.TheVariants as opening
use Rattle.yaml_scan_core.specs.declared.row.Row.{Row}
use Rattle.yaml_scan_core.specs.declared.keys.Keys.{Keys}
use Rattle.yaml_scan_core.specs.declared.scanner.Scanner.{Scanner}
use Rattle.yaml_scan_model.specs.declared.kind.Kind.TheVariants as kinds
use Rattle.yaml_scan_core.specs.declared.lexeme.Lexeme.{Lexeme as Held}
use Rattle.yaml_scan_core.specs.Margins.{AreLevels}
use Rattle.yaml_scan_core.specs.Rows.{HasRoom, RowView, row_of, pushed, bare, key_marked, keyed as held_keyed, row_lexeme, no_lexeme}
use Rattle.yaml_scan_core.specs.Shown.{Carries, ShowsEntry, ShowsRow, entry_at, no_entry, store_of}
use Rattle.yaml_scan_core.specs.Scanning.{FindsKey, IsPlace, StandsAs, Takes, fixed_of, left_behind, read_by, stream_of}
use Rattle.yaml_scan_core.proofs.CandidatesLemmas.{inner_is}
use Rattle.yaml_scan_core.proofs.ComesLemmas.{is_wrong}
use Rattle.yaml_scan_core.proofs.ReadLemmas.{gap_of}
use Rattle.yaml_scan_core.proofs.StepLemmas.{start_is}
use Rattle.yaml_scan_core.proofs.NextLemmas.{candidate_depth}
use Rattle.yaml_scan_core.proofs.PlacesLemmas.{byte_place}
use Rattle.yaml_scan_core.proofs.ShownLemmas.{shown_marked, shown_pushed}
use Rattle.yaml_scan_core.proofs.KindsLemmas.{Goes, bare_entry, bare_word, cancelling_takes, inside_put, lost_there, put_at, stands_here, stands_told}
use Rattle.yaml_scan_core.proofs.TakesLemmas.{keeps_put}
use Rattle.yaml_scan_core.proofs.StartsLemmas.{value_word}
use Rattle.yaml_scan_core.proofs.ValuesLemmas.{found_one, key_held}
use Rattle.yaml_scan_core.proofs.FoundLemmas.{candidate_may, candidate_plain, no_mark}

-- a key is marked, and a lexeme put, in either order
marked_pushed : (r : RowView) (x : Held) (n : ℕ) (m : Bool) → n - r.dropped < length r.lexemes
    → key_marked n m (pushed x r) ≡ pushed x (key_marked n m r)
marked_pushed r x n m lt =
    let i : ℕ = n - r.dropped in
    let same : get_or (r.lexemes ++ x ∷ []) i no_lexeme ≡ get_or r.lexemes i no_lexeme = get_or_append_left r.lexemes (x ∷ []) no_lexeme i lt in
    ap (λ y. record r { lexemes = set (r.lexemes ++ x ∷ []) i (held_keyed m y) }) same
    ∙ ap (λ (ls : List Held). record r { lexemes = ls }) (set-append_left r.lexemes (x ∷ []) i (held_keyed m (get_or r.lexemes i no_lexeme)) lt)

-- the lexeme of an entry that is held
held_shows : (t : SpelledText) (r : RowView) (es : List Entry) (i : ℕ) → ShowsRow t r es
    → r.next ≤ i → i < length r.lexemes
    → ShowsEntry (store_of t.text r) t (row_lexeme r i) (entry_at es (r.dropped + i))
held_shows t r es i s le lt = elim (cases_lt r.next i) [
  | inl far ↦ (s.others i far lt).shows
  | inr near ↦
      let same : r.next ≡ i = omega (arith, near, le) in
      subst (λ j. ShowsEntry (store_of t.text r) t (row_lexeme r j) (entry_at es (r.dropped + j))) same (s.front (omega (arith, near, le, lt))).shows
]

-- a key has the BLOCK-ENDs of before
marked_ends : (ls : List Held) (i n : ℕ) (m : Bool) → i < length ls → n < length ls
    → (get_or (set ls i (held_keyed m (get_or ls i no_lexeme))) n no_lexeme).ends ≡ (get_or ls n no_lexeme).ends
marked_ends ls i n m inside lt = elim (eq_or i n) [
  | inl e ↦ subst (λ j. (get_or (set ls i (held_keyed m (get_or ls i no_lexeme))) j no_lexeme).ends ≡ (get_or ls j no_lexeme).ends) e
      (ap (λ (y : Held). y.ends) (get_or-set_same ls i (held_keyed m (get_or ls i no_lexeme)) no_lexeme inside))
  | inr ne ↦ ap (λ (y : Held). y.ends) (get_or-set_other ls i n (held_keyed m (get_or ls i no_lexeme)) no_lexeme (λ e. ne (omega (arith, e))))
]
  where
    eq_or : (a b : ℕ) → (a ≡ b) ⊎ (a ≢ b)
    eq_or a b = grind arith

no_right : (a b : Bool) → ((a && b) && false) ≡ false
no_right true true = refl
no_right true false = refl
no_right false b = refl

no_place : (b : Bool) → ((b && false) || false) ≡ false
no_place true = refl
no_place false = refl

no_key_behind : (b : Bool) → ((b && false) || false) ≡ false
no_key_behind b = no_place b

pub key_takes : (old mid : Scanner) (row marked_row : Row) (keys : Keys) (x : Held)
    (h : List Lexeme)
    (n : ℕ) (key : SimpleKey) (m : Bool) → StandsAs reads.ValueMark old h n → FindsKey key old h
    → mid ≡ record old { levels = mid.levels } → x ≡ bare kinds.Value n mid.at (mid.at + 1) 0
    → row_of row ≡ pushed x (row_of mid.row) → row_of marked_row ≡ key_marked key.number m (row_of row)
    → HasRoom marked_row
    → AreLevels mid.levels (opened (not (ltb 0 (inner (stack_of old.keys)))) (key.column + 1) (left_behind reads.ValueMark old h))
    → m ≡ (not (ltb 0 (inner (stack_of old.keys))) && ltb (indent (left_behind reads.ValueMark old h)) (key.column + 1))
    → length mid.levels.outer.items < 2 ^ 32
    → stack_of keys ≡ given_up (stack_of mid.keys)
    → Takes old (record mid { at = mid.at + 1; key_allowed = false; keys = keys; row = marked_row }) h
unfolding finished_tokens open_levels
key_takes old mid row marked_row keys x h n key m a f same is put mark room margins opens few given =
    let k = reads.ValueMark in
    let text = old.text.now in
    let t = stream_of old in
    let w = bare_word tokens.value 1 text h in
    let l = put_at k w text h in
    let r = row_of old.row in
    let o = a.behind.holds in
    let new : Scanner = record mid { at = mid.at + 1; key_allowed = false; keys = keys; row = marked_row } in
    let fo = found_one k old h n key a f in
    let c = fo.one in
    let there = stands_here k old h n a in
    let found : found_by l h ≡ Some c = ap (λ q. fresh (candidate (flow_depth h) h) q) there ∙ fo.here in
    let at : candidate (flow_depth h) h ≡ Some c = fresh_is (candidate (flow_depth h) h) (mark_at text old.at) c fo.here in
    let at_n : candidate (flow_depth h) (history text (read_by old)) ≡ Some c = subst (λ (y : List Lexeme). candidate (flow_depth h) y ≡ Some c) a.behind.is at in
    let (low, high) = key_held k old h n key a f in
    let ins : inside l h ≡ left_behind k old h = inside_put k w old h n a in
    let deep : inner (stack_of old.keys) ≡ flow_depth h = inner_is (flow_depth h) (stack_of old.keys) o.keys.long in
    let lexeme_is : (entry_at (finished_tokens h) key.number).lexeme ≡ c.lexeme = ap (λ j. (entry_at (finished_tokens h) j).lexeme) (sym fo.number) ∙ start_is (flow_depth h) h c no_entry at in
    let plain : (entry_at (finished_tokens h) key.number).opens ≡ opening.Nothing = ap (λ j. (entry_at (finished_tokens h) j).opens) (sym fo.number)
    ∙ subst (λ (y : List Lexeme). (entry_at (finished_tokens y) c.number).opens ≡ opening.Nothing) (sym a.behind.is) (candidate_plain text (read_by old) (flow_depth h) c no_entry at_n) in
    let i : ℕ = key.number - r.dropped in
    let at_i : r.dropped + i ≡ key.number = omega (arith, low) in
    let held = held_shows t r (finished_tokens h) i o.row (omega (arith, low, o.row.taken, at_i)) (omega (arith, high, at_i)) in
    let other : (row_lexeme r i).kind ≢ kinds.Key = λ bad.
    let body : Carries (store_of text r) t (row_lexeme r i) kinds.Key (body_in t (entry_at (finished_tokens h) (r.dropped + i)).lexeme) = subst (λ q. Carries (store_of text r) t (row_lexeme r i) q (body_in t (entry_at (finished_tokens h) (r.dropped + i)).lexeme)) bad held.body in
    let lex : (entry_at (finished_tokens h) (r.dropped + i)).lexeme ≡ c.lexeme = ap (λ j. (entry_at (finished_tokens h) j).lexeme) at_i ∙ lexeme_is in
    no_mark c.lexeme.kind t c.lexeme (candidate_may text (read_by old) (flow_depth h) c at_n) (ap (λ (y : Lexeme). body_in t y) (sym lex) ∙ body.1) in
    let level : cond m opening.Mapping opening.Nothing ≡ start_of (entry_at (finished_tokens h) key.number).lexeme.depth ((entry_at (finished_tokens h) key.number).lexeme.start.column + 1) (inside l h) opening.Mapping =
    ap (λ b. cond b opening.Mapping opening.Nothing) opens
    ∙ ap (λ d. cond (not (ltb 0 d) && ltb (indent (left_behind k old h)) (key.column + 1)) opening.Mapping opening.Nothing) (deep ∙ sym (candidate_depth (flow_depth h) h c at))
    ∙ ap (λ (q : yaml_mark_t). cond (not (ltb 0 c.lexeme.depth) && ltb (indent (left_behind k old h)) (q.column + 1)) opening.Mapping opening.Nothing) (sym fo.start)
    ∙ ap (λ ls. start_of c.lexeme.depth (c.lexeme.start.column + 1) ls opening.Mapping) (sym ins)
    ∙ ap (λ (y : Lexeme). start_of y.depth (y.start.column + 1) (inside l h) opening.Mapping) (sym lexeme_is) in
    let shown = shown_marked t r (finished_tokens h) (inside l h) key.number m o.row low (omega (arith, high, o.row.count)) plain other level in
    let opens_none : opening.Nothing ≡ opens_of (found_by l h) l (inside l h) = ap (λ (q : Option Candidate). opens_of q l (inside l h)) (sym found) in
    let place = byte_place text old.at old.line old.wide 58 a.behind.place (stands_told k old h n a) (omega arith) (omega arith) in
    let y = bare kinds.Value n old.at (old.at + 1) 0 in
    let whole = bare_entry k kinds.Value tokens.value 1 0 old (store_of text r) h n a refl (λ e. cc) (value_word text h) refl place.inside refl refl opens_none (record { plain = refl }, refl) in
    let all = shown_pushed t (key_marked key.number m r) (mark_key (inside l h) (finished_tokens h) key.number) y (entry_of l h) shown whole in
    let z = held_keyed m (row_lexeme r i) in
    let is_y : x ≡ y = is ∙ ap (λ (s : Scanner). bare kinds.Value n s.at (s.at + 1) 0) same in
    let rows : row_of marked_row ≡ pushed y (key_marked key.number m r) = mark ∙ ap (λ (q : RowView). key_marked key.number m q) (put ∙ ap (λ v. pushed v (row_of mid.row)) is_y ∙ ap (λ (s : Scanner). pushed y (row_of s.row)) same)
    ∙ marked_pushed r y key.number m (omega (arith, high, at_i)) in
    let entries_are : mark_key (inside l h) (finished_tokens h) key.number ++ entry_of l h ∷ [] ≡ finished_tokens (l ∷ h) = ap (λ j. mark_key (inside l h) (finished_tokens h) j ++ entry_of l h ∷ []) (sym fo.number) ∙ ap (λ q. marked q (inside l h) (finished_tokens h) ++ entry_of l h ∷ []) (sym found) in
    let levels_are : opened (not (ltb 0 (inner (stack_of old.keys)))) (key.column + 1) (left_behind k old h) ≡ open_levels (l ∷ h) =
    ap (λ d. opened (not (ltb 0 d)) (key.column + 1) (left_behind k old h)) deep
    ∙ ap (λ ls. opened (not (ltb 0 (flow_depth h))) (key.column + 1) ls) (sym ins)
    ∙ ap (λ (q : yaml_mark_t). opened (not (ltb 0 (flow_depth h))) (q.column + 1) (inside l h)) (sym fo.start)
    ∙ ap (λ q. opened (not (ltb 0 (flow_depth h))) (opens_at q k l.start.column) (inside l h)) (sym found) in
    let goes : Goes k w old new h = record {
      text = ap (λ (s : Scanner). s.text.now) same;
      coding = ap (λ (s : Scanner). s.encoding) same;
      row = subst (λ es. ShowsRow t (row_of marked_row) es) entries_are (subst (λ q. ShowsRow t q (mark_key (inside l h) (finished_tokens h) key.number ++ entry_of l h ∷ [])) (sym rows) all);
      room = room;
      dropped = ap (λ (q : RowView). q.dropped) rows;
      settled = ap (λ (q : RowView). q.settled) rows;
      fault = ap (λ (s : Scanner). s.fault) same;
      over = ap (λ (s : Scanner). s.ended) same;
      place = subst (λ (s : Scanner). IsPlace text (s.at + 1) s.line s.wide) (sym same) place;
      at = ap (λ (s : Scanner). s.at + 1) same ∙ ap (λ q. q + 1) a.behind.gap;
      further = omega (arith, ap (λ (s : Scanner). s.at) same);
      allowed = sym (ap (λ (q : Option Candidate). (eqb (flow_depth h) 0 && not (has q)) || false) found ∙ no_key_behind (eqb (flow_depth h) 0));
      few = few;
      margins = subst (λ ls. AreLevels mid.levels ls) levels_are margins;
      kept = keeps_put old new t l h (set r.lexemes i z) y o.row (length-set r.lexemes i z)
          (λ lt. get_or-set_other r.lexemes i r.next z no_lexeme (λ e. absurd (omega (arith, e, lt, low, at_i))))
          (marked_ends r.lexemes i r.next m (omega (arith, high, at_i))) (ap (λ (q : RowView). q.lexemes) rows)
          (ap (λ (q : RowView). q.next) rows) (ap (λ (q : RowView). q.dropped) rows) (ap (λ (q : RowView). q.settled) rows) whole.ends (ap (λ (s : Scanner). fixed_of s) same);
    } in
    let good : is_wrong k text h ≡ false = ap (λ (q : Option Candidate). (not (ltb 0 (flow_depth h)) && not (allowed_behind h (gap_of text h))) && (true && not (true && has q))) found ∙ no_right (not (ltb 0 (flow_depth h))) (not (allowed_behind h (gap_of text h))) in
    cancelling_takes k w old new h n a refl refl refl refl good (lost_there k false old h n a (no_place (allowed_behind h (gap_of text h)))) (value_word text h) goes
    (given ∙ ap (λ (s : Scanner). given_up (stack_of s.keys)) same)
