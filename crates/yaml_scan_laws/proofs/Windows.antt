-- The law of windows, for a scanner.
use Rattle.std.proofs.Common.{◌≡◌, ℕ, ◌-◌, true, List, [], ◌∷◌, ◌++◌, map, length, Option, None, option_map, refl, sym, ap, ◌∙◌, add-zero, arith}
use Rattle.yaml_scan_laws.proofs.Shared.{nat_tests, append-nil, append_assoc, flat_map, yaml_encoding_t, yaml_mark_t, stream_start, document_start, stream_end, Token, TokenBody, Fault, line_at, mark_at, is_document_start, Kind, flow_depth, candidate, open_levels, finished_tokens, lexeme_at, Next, first_lexeme, next, SpelledText, body_by, token_in, spell, all, fault_in, Remaining, offline, all_ends, IsCut, moved_mark, moved_token, moved_fault, moved_next, scan_of, WindowsAreScanned, joined, fault_next}
use Rattle.yaml_scan_history.specs.declared.kind.Kind.TheVariants as kinds
use Rattle.yaml_scan_laws.proofs.Turning.{IsMark, mark_lexeme, MarkStands, mark_stands, mark_there, start_stands}
use Rattle.yaml_scan_laws.proofs.Rests.{rest_base, whole_base, rest_begins, rest_bases, rest_ground, rest_marks, whole}
use Rattle.yaml_scan_laws.proofs.CutsJoining.{told, offline_told, parted}
use Rattle.yaml_scan_laws.proofs.Opening.{Begun, begun_by}
use Rattle.yaml_scan_laws.proofs.StreamForward.{fault_none}

-- ---- the tokens where the rest begins

-- STREAM-START and the mark
pub first_told : (s : SpelledText) (K : Kind) (body : TokenBody) → IsMark K body → (b : List ℕ)
    → flat_map (spell s) (finished_tokens (rest_base K b))
    ≡ token_in s first_lexeme ∷ token_in s (mark_lexeme K b 0) ∷ []
unfolding finished_tokens open_levels candidate
first_told s K body m b = rw (m.value, m.start) refl

-- the token of the rest's mark is the same, moved
mark_token : (x : yaml_encoding_t) (a b : List ℕ) → IsCut a b → (m : MarkStands b 0)
    → let d = length a in
    let n = line_at (a ++ b) (length a) in
    token_in (record { encoding = x; text = a ++ b }) (mark_lexeme m.kind (a ++ b) (length a))
    ≡ moved_token d n (token_in (record { encoding = x; text = b }) (mark_lexeme m.kind b 0))
mark_token x a b cut m =
    let L = mark_lexeme m.kind (a ++ b) (length a) in
    let B = mark_lexeme m.kind b 0 in
    let said = m.is.told (record { encoding = x; text = a ++ b }) L ∙ sym (m.is.told (record { encoding = x; text = b }) B) in
    let start = ap (mark_at (a ++ b)) (sym (add-zero (length a))) ∙ rest_marks a b cut 0 in
    ap (λ (z : TokenBody). record { body = z; start_mark = L.start; end_mark = L.end }) said
    ∙ ap (λ (z : yaml_mark_t). record { body = body_by m.kind (record { encoding = x; text = b }) B; start_mark = z; end_mark = L.end }) start
    ∙ ap (λ (z : yaml_mark_t). record { body = body_by m.kind (record { encoding = x; text = b }) B; start_mark = moved_mark (length a) (line_at (a ++ b) (length a)) B.start; end_mark = z }) (rest_marks a b cut 3)

-- ---- the law

pub fault_moved : (d n : ℕ) (y : Next)
    → fault_in (moved_next d n y) ≡ option_map (moved_fault d n) (fault_in y)
fault_moved d n y = grind (arith, nat_tests)

pub made : (r : Remaining) (ts : List Token) (f : Option Fault) → r.tokens ≡ ts → r.fault ≡ f
    → r ≡ record { tokens = ts; fault = f }
made r ts f e g = ap (λ (z : List Token). record { tokens = z; fault = r.fault }) e ∙ ap (λ (z : Option Fault). record { tokens = ts; fault = z }) g

pub uncons : {A : Type 0} (x y : A) (xs ys : List A) → x ∷ xs ≡ y ∷ ys → xs ≡ ys
uncons x y xs ys e = cc

first_same : {A : Type 0} (x y : A) (xs ys : List A) → x ∷ xs ≡ y ∷ ys → x ≡ y
first_same x y xs ys e = cc

-- what is said of both parts, and of the whole
record Parts (x : yaml_encoding_t) (a b : List ℕ) (m : MarkStands b 0) (front : List Token) (last first : Token)
    (behind : List Token) : Type 0 where
  pub begun : Begun x a b m.kind m.body front last
  pub start : first ≡ token_in (record { encoding = x; text = b }) first_lexeme
  pub rest : List Token
  pub are : behind ≡ token_in (record { encoding = x; text = b }) (mark_lexeme m.kind b 0) ∷ rest
  pub moved : begun.mark ≡ moved_token (length a) (line_at a (length a)) (token_in (record { encoding = x; text = b }) (mark_lexeme m.kind b 0))
  pub told : scan_of x (a ++ b) ≡ joined a front behind (scan_of x b)

parts : (x : yaml_encoding_t) (a b : List ℕ) → IsCut a b → (m : MarkStands b 0)
    → (scan_of x a).fault ≡ None → flow_depth (all a) ≡ 0
    → (front : List Token) (last : Token) → (scan_of x a).tokens ≡ front ++ last ∷ []
    → (first : Token) (behind : List Token) → (scan_of x b).tokens ≡ first ∷ behind
    → Parts x a b m front last first behind
parts x a b cut m none outer front last are first behind come =
    let r : SpelledText = record { encoding = x; text = b } in
    let v : SpelledText = record { encoding = x; text = a ++ b } in
    let d = length a in
    let n = line_at (a ++ b) d in
    let g = begun_by x a b cut m none front last are in
    let H = g.older in
    let flat = g.flat (sym g.deep ∙ outer) in
    let c = whole_base m.kind a b H in
    let is : g.newest ∷ H ≡ c = ap (λ l. l ∷ H) flat in
    let w = whole x a b (length H - 1) (rest_base m.kind b) c (rest_ground a b cut m H g.some) 2 (rest_begins a b cut m) g.steps (g.history_is ∙ is) in
    let y = next b (all b) in
    let p = parted x b (a ++ b) d n (length H - 1) w.lexemes (rest_base m.kind b) c (rest_bases a b cut m H g.some) w.carry y (all_ends b) in
    let B = token_in r (mark_lexeme m.kind b 0) in
    let begins : (scan_of x b).tokens ≡ token_in r first_lexeme ∷ B ∷ p.behind =
    offline_told r ∙ ap (λ h. told r y h) w.mine ∙ p.mine ∙ ap (λ z. z ++ p.behind) (first_told r m.kind m.body m.is b) in
    let rest = uncons first (token_in r first_lexeme) behind (B ∷ p.behind) (sym come ∙ begins) in
    let moved : g.mark ≡ moved_token d n B = g.is ∙ ap (token_in v) flat ∙ mark_token x a b cut m in
    let lines : n ≡ line_at a d = ap (λ (k : yaml_mark_t). k.line) (sym (mark_there a b cut)) in
    record {
      begun = g;
      start = first_same first (token_in r first_lexeme) behind (B ∷ p.behind) (sym come ∙ begins);
      rest = p.behind;
      are = rest;
      moved = moved ∙ ap (λ k. moved_token d k B) lines;
      told = made (scan_of x (a ++ b)) _ _
          (offline_told v ∙ ap (λ z. told v z (all (a ++ b))) w.comes ∙ ap (λ h. told v (moved_next d n y) h) w.others ∙ p.others
          ∙ ap (λ z. z ++ map (moved_token d n) p.behind) (ap (λ h. flat_map (spell v) (finished_tokens h)) (sym is) ∙ g.base)
          ∙ append_assoc front (g.mark ∷ []) (map (moved_token d n) p.behind)
          ∙ ap (λ z. front ++ z ∷ map (moved_token d n) p.behind) moved
          ∙ ap (λ z. front ++ map (moved_token d n) z) (sym rest) ∙ ap (λ k. front ++ map (moved_token d k) behind) lines)
          (fault_next v ∙ ap fault_in w.comes ∙ fault_moved d n y ∙ ap (option_map (moved_fault d n)) (sym (fault_next r))
          ∙ ap (λ k. option_map (moved_fault d k) (scan_of x b).fault) lines);
    }

pub windows_are_scanned : WindowsAreScanned
windows_are_scanned x a b cut none outer front last are first behind come =
    (parts x a b cut (mark_stands b 0 cut.mark) none outer front last are first behind come).told

-- The tokens of a text without fault are those of its lexemes.
pub ended_told : (s : SpelledText) → (offline s).fault ≡ None
    → (offline s).tokens ≡ flat_map (spell s) (finished_tokens (all s.text))
ended_told s none = grind (arith, nat_tests, fault_none, fault_next, all_ends, offline_told, append-nil)

-- ---- the tokens at the cut

-- where the rest begins with `---`
pub record AtCut (x : yaml_encoding_t) (a : List ℕ) (last first : Token) (behind : List Token) : Type 0 where
  pub end : last.body ≡ stream_end
  pub start : first.body ≡ stream_start x
  pub mark : Token
  pub rest : List Token
  pub are : behind ≡ mark ∷ rest
  pub begins : mark.body ≡ document_start
  pub there : moved_mark (length a) (line_at a (length a)) mark.start_mark ≡ last.start_mark

-- After a cut before `---` comes DOCUMENT-START, at the place of the front's STREAM-END.
pub at_cut : (x : yaml_encoding_t) (a b : List ℕ) → IsCut a b → is_document_start b 0 ≡ true
    → (scan_of x a).fault ≡ None → flow_depth (all a) ≡ 0
    → (front : List Token) (last : Token) → (scan_of x a).tokens ≡ front ++ last ∷ []
    → (first : Token) (behind : List Token) → (scan_of x b).tokens ≡ first ∷ behind
    → AtCut x a last first behind
unfolding lexeme_at
at_cut x a b cut begins none outer front last are first behind come =
    let p = parts x a b cut (start_stands b 0 begins) none outer front last are first behind come in
    record {
      end = p.begun.over;
      start = ap (λ (z : Token). z.body) p.start;
      mark = token_in (record { encoding = x; text = b }) (mark_lexeme kinds.DocumentStart b 0);
      rest = p.rest;
      are = p.are;
      begins = refl;
      there = ap (λ (z : Token). z.start_mark) (sym p.moved) ∙ p.begun.there;
    }
