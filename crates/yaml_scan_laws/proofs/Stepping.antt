-- One lexeme more after lexemes at a place.
use Rattle.std.proofs.Common.{◌≡◌, ℕ, ◌+◌, ◌≤◌, ◌==◌, ◌&&◌, ◌||◌, not, nat_lt, Bool, true, false, List, [], ◌∷◌, length, Option, refl, sym, ap, subst, ◌∙◌, arith}
use Rattle.yaml_scan_laws.proofs.LevelWords.{nat_tests, or-false, line_at, mark_at, Kind, Lexeme, Entry, depth_after, may_be_key, allows_key, is_value, is_outside, is_end, flow_depth, Candidate, candidate, fresh, has, indent, WordText, first_lexeme, line_at-grows, Front, Meets, read_at, IsLone, White, Started, Stands, Comes, WordLeaves, WordsLeave, may_begin, StartSteps, WhiteSteps, WordSteps, MarkSteps, OuterSteps, KeyStarts, KeySteps, KeyStops}
use Rattle.yaml_scan_history.specs.declared.kind.Kind.TheVariants as kinds
use Rattle.yaml_scan_laws.proofs.Pushing.{word_is_read, mark_is_read, outer_is_read}
use Rattle.yaml_scan_laws.proofs.Keying.{key_begins, key_goes_on, key_ends, still_fresh}
use Rattle.yaml_scan_laws.proofs.Whites.{white_begins, white_goes_on, white_is_taken, white_is_over, white_is_passed, key_is_allowed}
use Rattle.yaml_scan_laws.proofs.Slotting.{started_goes_on}
use Rattle.yaml_scan_laws.proofs.Ending.{start_stands}

pub words_leave : WordsLeave
words_leave = record {
  all = λ text d allows w plain h place key deep.
      let P : Bool → Type 0 = λ b. White text h w.reached allows b in
      subst P (ap (λ (n : ℕ). not (nat_lt 0 n)) deep) (white_begins text h w.reached allows place (key ∙ ap (λ (b : Bool). allows || b) plain ∙ or-false allows));
  none = λ text d w e white g end broke h place key deep. white_is_taken text h e white g (place ∙ end) (key ∙ broke);
  some = λ text d w e white broken at blank end h place key deep. white_is_passed text h e white broken at blank (place ∙ end) key;
  over = λ text d allows w e white g end plain h place key deep. white_is_over text h e allows white g (place ∙ end) (key ∙ ap (λ (b : Bool). allows || b) plain ∙ or-false allows);
}

meets_of : (text : List ℕ) (p : ℕ) (h : List Lexeme) (d level : ℕ) (now broken : Bool) (k : Kind)
    (gap : List ℕ) (w : WordText) (e : ℕ) → White text h p now broken
    → Comes text p d level k gap w e
    → Meets text h d level k (p + length gap) (may_begin now broken gap) w
meets_of text p h d level now broken k gap w e white c = record { place = white.place gap c.behind; allowed = white.allowed gap c.behind; kind = c.kind; word = c.word }

meets_so : (text : List ℕ) (h : List Lexeme) (d level : ℕ) (k : Kind) (q : ℕ) (a b : Bool)
    (w : WordText) → Meets text h d level k q a w → a ≡ b → Meets text h d level k q b w
meets_so text h d level k q a b w m e = let P : Bool → Type 0 = λ x. Meets text h d level k q x w in subst P e m

-- what is known at the place after it
stands_of : (text : List ℕ) (p : ℕ) (h : List Lexeme) (d f : ℕ) (k : Kind) (gap : List ℕ)
    (a found : Bool) (w : WordText) (e : ℕ) (ms : List ℕ) (es : List Entry) (then wide : Bool)
    (i : ℕ) → flow_depth h ≡ d → Started h i → i ≤ line_at text p → p + length gap ≤ e
    → let q = p + length gap in let l = read_at text h k q a w in
    Front text (l ∷ h) f ms es → (is_value k ≡ true → has (fresh (candidate d h) (mark_at text q)) ≡ found)
    → WordLeaves text f (allows_key k (d == 0) found) w e then wide → Stands text e (line_at text q) (l ∷ h) f ms es then wide
stands_of text p h d f k gap a found w e ms es then wide i deep started line up front is leaves = grind (arith, key_is_allowed, line_at-grows, started_goes_on)

lone_has : (text : List ℕ) (h : List Lexeme) (d : ℕ) (k : Kind) (q : ℕ) → IsLone text h d k q
    → is_value k ≡ true → has (fresh (candidate d h) (mark_at text q)) ≡ false
lone_has text h d k q lone v = ap (λ (o : Option Candidate). has o) (lone v)

pub start_steps : StartSteps
start_steps text =
    let s = start_stands text in (
      record {
        front = s.front;
        white = white_begins text (first_lexeme ∷ []) 0 true refl refl;
        started = started_goes_on.more first_lexeme [] 0 0 (started_goes_on.nothing 0) (omega arith) (omega arith);
        line = omega arith;
      },
      s.idle,
    )

pub white_steps : WhiteSteps
white_steps text p i h d ms es now broken white s at blank = record {
  front = s.front;
  white = white_goes_on text h p now broken white s.white at blank;
  started = s.started;
  line = let grows = line_at-grows text p (p + length white) (omega arith) in let low = s.line in omega (arith, grows, low);
}

pub word_steps : WordSteps
word_steps text p i h d ms es now broken k gap w e then wide s idle c stays right lone leaves =
    let q = p + length gap in
    let a = may_begin now broken gap in
    let r = word_is_read text h d ms es k q a w s.front idle stays (meets_of text p h d (indent ms) now broken k gap w e s.white c) right lone in
    (record { stands = stands_of text p h d (depth_after k d) k gap a false w e ms _ then wide i s.front.depth s.started s.line c.up r.front (lone_has text h d k q lone) leaves; body = r.body }, r.idle)

pub mark_steps : MarkSteps
mark_steps text p i h ms ls n es now broken k gap w e then wide s idle c start may closes lone leaves =
    let q = p + length gap in
    let a = may_begin now broken gap in
    let r = mark_is_read text h ms ls n es k q w s.front idle start (meets_so text h 0 (indent ls) k q a true w (meets_of text p h 0 (indent ls) now broken k gap w e s.white c) may) closes lone in
    (record { stands = stands_of text p h 0 0 k gap true false w e _ _ then wide i s.front.depth s.started s.line c.up r.front (lone_has text h 0 k q lone) leaves; body = r.body }, r.idle)

outer_value : (k : Kind) → (is_outside k && not (is_end k)) ≡ true → is_value k ≡ true → ⊥
outer_value k e v = grind (arith, nat_tests)

pub outer_steps : OuterSteps
outer_steps text p i h ms es now broken k gap w e then wide s idle c outer leaves =
    let q = p + length gap in
    let a = may_begin now broken gap in
    let r = outer_is_read text h ms es k q a w s.front idle outer (meets_of text p h 0 0 now broken k gap w e s.white c) in
    (record { stands = stands_of text p h 0 0 k gap a false w e [] _ then wide i s.front.depth s.started s.line c.up r.front (λ v. absurd (outer_value k outer v)) leaves; body = r.body }, r.idle)

key_value : (k : Kind) → may_be_key k ≡ true → is_value k ≡ true → ⊥
key_value k e v = grind (arith, nat_tests)

pub key_starts : KeyStarts
key_starts text p i h d ms ls n es now broken k gap w e then wide s idle c may allowed closes near leaves =
    let q = p + length gap in
    let a = may_begin now broken gap in
    let r = key_begins text h d ms ls n es k q w s.front idle may (meets_so text h d (indent ls) k q a true w (meets_of text p h d (indent ls) now broken k gap w e s.white c) allowed) closes near in
    (record { stands = stands_of text p h d (depth_after k d) k gap true false w e ls _ then wide i s.front.depth s.started s.line c.up r.front (λ v. absurd (key_value k may v)) leaves; body = r.body }, r.holds)

pub key_steps : KeySteps
key_steps text p i h d f c ms es now broken k gap w e then wide s holds comes stays right lone is_in near far leaves =
    let q = p + length gap in
    let a = may_begin now broken gap in
    let r = key_goes_on text h d f c ms es k q a w s.front holds stays (meets_of text p h f (indent ms) now broken k gap w e s.white comes) right lone is_in near far in
    (record { stands = stands_of text p h f (depth_after k f) k gap a false w e ms _ then wide i s.front.depth s.started s.line comes.up r.front (lone_has text h f k q lone) leaves; body = r.body }, r.holds)

key_off : (x : Bool) → (x && not true) ≡ false
key_off x = grind (arith, nat_tests)

pub key_stops : KeyStops
key_stops text p i h d ms done first rest now broken gap w e then wide s holds comes right near leaves =
    let q = p + length gap in
    let a = may_begin now broken gap in
    let c : Candidate = record { number = length done; lexeme = first.lexeme } in
    let r = key_ends text h d ms done first rest q a w s.front holds (meets_of text p h d (indent ms) now broken kinds.ValueMark gap w e s.white comes) right near in
    let taken : has (fresh (candidate d h) (mark_at text q)) ≡ true = ap (λ (o : Option Candidate). has o) (still_fresh (candidate d h) c (mark_at text q) holds.slot near) in
    let P : Bool → Type 0 = λ b. WordLeaves text d b w e then wide in
    (record { stands = stands_of text p h d d kinds.ValueMark gap a true w e _ _ then wide i s.front.depth s.started s.line comes.up r.front (λ v. taken) (subst P (sym (key_off (d == 0))) leaves); body = r.body }, r.idle)
