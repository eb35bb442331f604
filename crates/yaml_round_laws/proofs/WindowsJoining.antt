-- The law of windows.
use Rattle.std.proofs.Common.{◌≡◌, ◌≢◌, ℕ, true, List, [], ◌∷◌, ◌++◌, map, length, Option, Some, None, option_map, refl, sym, ap, subst, ◌∙◌, inl, inr, ◌⊎◌}
use Rattle.yaml_round_laws.proofs.WindowsWords.{cases_Bool, append_assoc, same_from_push, yaml_encoding_t, yaml_mark_t, Fault, line_at, Token, TokenBody, stream_start, stream_end, document_start, zero_mark, Remaining, all, flow_depth, is_document_start, feed, run, initial, Reading, no_directives, placed, IsCut, IsEndCut, LeadsToDirective, Event, spells_text, with_token, cut, scan_of, moved_mark, moved_token, moved_fault, windows_are_scanned, at_cut, ended_front, ended_windows_are_scanned, stream_starts, stream_ends, parse_of, GoOn, depth_after, depth_behind, items_of, Plain, plain, seen, parse_plain, step_items, Front, front_of, front_events, windows_are_parsed, brackets_are_closed, body_at, end_at, refused_fronts_stay, moved_event, IsMovedEnd, tokens_in, reading_in, IsAccepted, WindowsAreRead, WindowsAreAccepted, ReadingsAreFramed, AwaitsDocument, RefusedFrontsAreRead}
use Rattle.std.proofs.lemmas.List.Elements.{All-head, All-tail}
use Rattle.std.specs.Prelude.{All}
use Rattle.yaml_round_content.specs.scan_types.Tokens as token
use Rattle.yaml_parse_grammar.specs.Trees.{event_at}
use Rattle.yaml_parse_grammar.specs.States as state
use Rattle.yaml_round_content.specs.parse_model.Events as event
use Rattle.yaml_scan_laws.proofs.Leading.{IsDirective, LeadsSo, leads_so}
use Rattle.yaml_parse_laws_trees.specs.WindowsLaws as parse
use Rattle.yaml_parse_laws_trees.proofs.Beginning.{directives_are_parsed}
use Rattle.yaml_round_laws.proofs.Depths.{behind_both, told_deep}
use Rattle.yaml_round_laws.proofs.Readings.{moved_tokens, IsMovedPlain, moved_as, refused_moved, ended_moved}

-- ---- tokens that pass the adapter

abbrev pub AllSpell : List Token → Type 0
AllSpell [] = Unit {0}
AllSpell (t ∷ ts) = (spells_text t.body ≡ true) × AllSpell ts

cut_whole : (f : Option Fault) (ts : List Token) → (cut f ts).fault ≡ None → AllSpell ts
    × (f ≡ None)
cut_whole f [] h = (tt, h)
cut_whole f (t ∷ ts) h =
    elim (cases_Bool (spells_text t.body)) [
      | inl e ↦ let (rest, none) = cut_whole f ts (rw e at h) in ((e, rest), none)
      | inr e ↦ absurd (some_none (rw e at h))
    ]
  where
    some_none : {A : Type 0} {x : A} → Some x ≡ None → ⊥
    some_none e = cc

pub cut_same : (f : Option Fault) (ts : List Token) → AllSpell ts → cut f ts
    ≡ record { tokens = ts; fault = f }
cut_same f [] h = refl
cut_same f (t ∷ ts) h = rw (h.0) (ap (with_token t) (cut_same f ts h.1))

spell_left : (xs ys : List Token) → AllSpell (xs ++ ys) → AllSpell xs
spell_left [] ys h = tt
spell_left (x ∷ xs) ys h = (h.0, spell_left xs ys h.1)

abbrev pub behind_tokens : List Token → Remaining → Remaining
behind_tokens ts r = record { tokens = ts ++ r.tokens; fault = r.fault }

pub cut_behind : (f : Option Fault) (xs ts : List Token) → AllSpell xs
    → cut f (xs ++ ts) ≡ behind_tokens xs (cut f ts)
cut_behind f [] ts h = refl
cut_behind f (x ∷ xs) ts h = rw (h.0) (ap (with_token x) (cut_behind f xs ts h.1))

abbrev moved_remaining : ℕ → ℕ → Remaining → Remaining
moved_remaining d n r = record { tokens = moved_tokens d n r.tokens; fault = option_map (moved_fault d n) r.fault }

-- the adapter does to moved tokens what it does to the tokens, moved
cut_moved : (d n : ℕ) (f : Option Fault) (ts : List Token)
    → cut (option_map (moved_fault d n) f) (moved_tokens d n ts) ≡ moved_remaining d n (cut f ts)
cut_moved d n f [] = refl
cut_moved d n f (t ∷ ts) =
    elim (cases_Bool (spells_text t.body)) [
      | inl e ↦ rw e (ap (with_token (moved_token d n t)) (cut_moved d n f ts))
      | inr e ↦ rw e refl
    ]

-- a text that is accepted has its own tokens, and no fault
pub record Passed (x : yaml_encoding_t) (text : List ℕ) : Type 0 where
  pub none : (scan_of x text).fault ≡ None
  pub spell : AllSpell (scan_of x text).tokens
  pub reads : reading_in x text ≡ parse_of (scan_of x text).tokens None

pub passed : (x : yaml_encoding_t) (text : List ℕ) → (tokens_in x text).fault ≡ None → Passed x text
passed x text h =
    let c = scan_of x text in
    let (all, none) = cut_whole c.fault c.tokens h in
    record {
      none = none;
      spell = all;
      reads = ap (λ (y : Remaining). parse_of y.tokens y.fault) (cut_same c.fault c.tokens all) ∙ ap (λ y. parse_of c.tokens y) none;
    }

abbrev IsInner : Token → Type 0
IsInner t = t.body ≢ stream_end

pub go_on : (ts : List Token) → All IsInner ts → GoOn ts
go_on [] h = tt
go_on (t ∷ ts) h = (All-head IsInner t ts h, go_on ts (All-tail IsInner t ts h))

-- ---- the law

-- a front that is accepted leaves no bracket open
no_bracket : (x : yaml_encoding_t) (text : List ℕ) → IsAccepted x text → flow_depth (all text) ≡ 0
no_bracket x text g =
    let p = passed x text g.scanned in
    let (front, last, are, ends, others) = stream_ends (record { encoding = x; text = text }) p.none in
    let closed = brackets_are_closed front last (go_on front others) ends
    (ap (λ ts. (parse_of ts None).ending) (sym are) ∙ ap (λ (r : Reading). r.ending) (sym p.reads) ∙ g.parsed) in
    sym (told_deep x text p.none) ∙ ap (λ ts. depth_behind ts 0) are ∙ behind_both front (last ∷ []) 0
    ∙ ap (λ b. depth_after b (depth_behind front 0)) ends ∙ closed

abbrev pub read_to : Remaining → Reading
read_to r = parse_of r.tokens r.fault

-- what is read of a text's tokens, where they are moved
reading_moved : (d n : ℕ) (x : yaml_encoding_t) (text : List ℕ)
    → IsMovedPlain d n (seen (read_to (tokens_in x text))) (seen (read_to (moved_remaining d n (tokens_in x text))))
reading_moved d n x text = by (tokens_in x text).fault refl
  where
    by : (o : Option Fault) → (tokens_in x text).fault ≡ o
        → let ts = (tokens_in x text).tokens in
        IsMovedPlain d n (seen (parse_of ts o)) (seen (parse_of (moved_tokens d n ts) (option_map (moved_fault d n) o)))
    by (Some f) e =
        let ts = (tokens_in x text).tokens in
        moved_as d n _ _ _ _ (parse_plain ts (Some f)) (parse_plain (moved_tokens d n ts) (Some (moved_fault d n f))) (refused_moved d n ts initial no_directives f)
    by None e =
        let c = scan_of x text in
        let (spell, none) = cut_whole c.fault c.tokens e in
        let (front, last, are, end, others) = stream_ends (record { encoding = x; text = text }) none in
        let list : (tokens_in x text).tokens ≡ front ++ end_at last.start_mark last.end_mark ∷ [] =
        ap (λ (r : Remaining). r.tokens) (cut_same c.fault c.tokens spell) ∙ are ∙ ap (λ t. front ++ t ∷ []) (body_at last stream_end last.start_mark end refl) in
        let ts = front ++ end_at last.start_mark last.end_mark ∷ [] in
        subst (λ (z : List Token). IsMovedPlain d n (seen (parse_of z None)) (seen (parse_of (moved_tokens d n z) None))) (sym list)
        (moved_as d n _ _ _ _ (parse_plain ts None) (parse_plain (moved_tokens d n ts) None)
        (ended_moved d n front initial no_directives (refl, refl) (go_on front others) last.start_mark last.end_mark))

pub cut_marked : (f : Option Fault) (t : Token) (ts : List Token) → t.body ≡ document_start
    → cut f (t ∷ ts) ≡ with_token t (cut f ts)
cut_marked f t ts e = rw e refl

-- what the adapter passes on of the whole and of the rest
record Handed (x : yaml_encoding_t) (a b : List ℕ) (front : List Token) (last : Token) : Type 0 where
  pub mark : Token
  pub begins : mark.body ≡ document_start
  pub there : moved_mark (length a) (line_at a (length a)) mark.start_mark ≡ last.start_mark
  pub first : Token
  pub starts : first.body ≡ stream_start x
  pub behind : Remaining
  pub rest : tokens_in x b ≡ with_token first (with_token mark behind)
  pub whole : tokens_in x (a ++ b)
      ≡ behind_tokens front (moved_remaining (length a) (line_at a (length a)) (with_token mark behind))

handed : (x : yaml_encoding_t) (a b : List ℕ) → IsCut a b → is_document_start b 0 ≡ true
    → flow_depth (all a) ≡ 0
    → (scan_of x a).fault ≡ None → AllSpell (scan_of x a).tokens
    → (front : List Token) (last : Token) → (scan_of x a).tokens ≡ front ++ last ∷ []
    → Handed x a b front last
handed x a b at begins outer none spell front last are =
    let d = length a in
    let n = line_at a (length a) in
    let c = scan_of x b in
    let own = option_map (moved_fault d n) c.fault in
    let first : Token = record { body = stream_start x; start_mark = zero_mark; end_mark = zero_mark } in
    let (behind, starts) = stream_starts (record { encoding = x; text = b }) in
    let m = at_cut x a b at begins none outer front last are first behind starts in
    let kept : cut c.fault behind ≡ with_token m.mark (cut c.fault m.rest) = ap (cut c.fault) m.are ∙ cut_marked c.fault m.mark m.rest m.begins in
    let whole = windows_are_scanned x a b at none outer front last are first behind starts in
    record {
      mark = m.mark;
      begins = m.begins;
      there = m.there;
      first = first;
      starts = refl;
      behind = cut c.fault m.rest;
      rest = ap (cut c.fault) starts ∙ ap (with_token first) kept;
      whole = ap (λ (y : Remaining). cut y.fault y.tokens) whole
          ∙ cut_behind own front (moved_tokens d n behind) (spell_left front (last ∷ []) (subst AllSpell are spell))
          ∙ ap (behind_tokens front) (cut_moved d n c.fault behind ∙ ap (moved_remaining d n) kept);
    }

-- what is read in parts
abbrev ReadInParts : yaml_encoding_t → List ℕ → List ℕ → List Event → List Event → Type 0
ReadInParts x a b before later =
    let d = length a in let n = line_at a (length a) in
    ((tokens_in x (a ++ b)).fault ≡ option_map (moved_fault d n) (tokens_in x b).fault)
    × (parse.events_in (reading_in x (a ++ b)) ≡ before ++ map (moved_event d n) later)
    × IsMovedEnd d n (reading_in x b).ending (reading_in x (a ++ b)).ending

marks_are_read : (x : yaml_encoding_t) (a b : List ℕ) → IsCut a b → is_document_start b 0 ≡ true
    → IsAccepted x a
    → (before : List Event) (end : Event) → parse.events_in (reading_in x a) ≡ before ++ end ∷ []
    → (start : Event) (later : List Event) → parse.events_in (reading_in x b) ≡ start ∷ later
    → ReadInParts x a b before later
marks_are_read x a b at begins ga before end came start later come =
    let d = length a in
    let n = line_at a (length a) in
    let pa = passed x a ga.scanned in
    let (front, last, are, ends, others) = stream_ends (record { encoding = x; text = a }) pa.none in
    let h = handed x a b at begins (no_bracket x a ga) pa.none pa.spell front last are in
    let mark = moved_token d n h.mark in
    let first = moved_token d n h.first in
    let behind = moved_remaining d n h.behind in
    let (events, ending) = subst (λ (r : Remaining). IsMovedPlain d n (seen (read_to r)) (seen (read_to (moved_remaining d n r)))) h.rest (reading_moved d n x b) in
    let rest : reading_in x b ≡ read_to (with_token h.first (with_token h.mark h.behind)) = ap read_to h.rest in
    let whole : reading_in x (a ++ b) ≡ parse_of (front ++ mark ∷ behind.tokens) behind.fault = ap read_to h.whole in
    let (read, over) = windows_are_parsed front last (go_on front others) ends
    (ap (λ ts. (parse_of ts None).ending) (sym are) ∙ ap (λ (r : Reading). r.ending) (sym pa.reads) ∙ ga.parsed)
    mark h.begins h.there first x h.starts behind.tokens behind.fault before end
    (ap (λ ts. parse.events_in (parse_of ts None)) (sym are) ∙ ap parse.events_in (sym pa.reads) ∙ came)
    (moved_event d n start) (map (moved_event d n) later)
    (events ∙ ap (map (moved_event d n)) (ap parse.events_in (sym rest) ∙ come)) in (
      ap (λ (r : Remaining). r.fault) h.whole ∙ ap (option_map (moved_fault d n)) (sym (ap (λ (r : Remaining). r.fault) h.rest)),
      ap parse.events_in whole ∙ read,
      subst (λ (r : Reading). IsMovedEnd d n r.ending (reading_in x (a ++ b)).ending) (sym rest)
          (subst (λ (o : Option Fault). IsMovedEnd d n (read_to (with_token h.first (with_token h.mark h.behind))).ending o) (sym (ap (λ (r : Reading). r.ending) whole ∙ over)) ending),
    )

-- ---- after a line `...`

directive_begins : (b : TokenBody) → IsDirective b → parse.BeginsDocument b
directive_begins (token.version_directive major minor) h = tt
directive_begins (token.tag_directive handle prefix) h = tt
directive_begins _ h = absurd h

-- what the adapter passes on of tokens that begin with a directive's does so too, or is a fault
cut_leads : (d n : ℕ) (f : Option Fault) (ts : List Token) → LeadsSo ts f
    → let r = moved_remaining d n (cut f ts) in parse.DocumentGoesOn r.tokens r.fault
cut_leads d n None [] h = absurd (h refl)
cut_leads d n (Some f) [] h = λ e. some_none e
  where
    some_none : {A : Type 0} {x : A} → Some x ≡ None → ⊥
    some_none e = cc
cut_leads d n f (t ∷ ts) h =
    elim (cases_Bool (spells_text t.body)) [
      | inl e ↦ rw e (directive_begins t.body h)
      | inr e ↦ rw e (λ k. some_none k)
    ]
  where
    some_none : {A : Type 0} {x : A} → Some x ≡ None → ⊥
    some_none e = cc

go_front : (xs : List Token) (t : Token) → GoOn (xs ++ t ∷ []) → GoOn xs
go_front [] t h = tt
go_front (x ∷ xs) t h = (h.0, go_front xs t h.1)

directives_are_read : (x : yaml_encoding_t) (a b : List ℕ) → IsEndCut a b → LeadsToDirective b
    → IsAccepted x a
    → (before : List Event) (end : Event) → parse.events_in (reading_in x a) ≡ before ++ end ∷ []
    → (start : Event) (later : List Event) → parse.events_in (reading_in x b) ≡ start ∷ later
    → ReadInParts x a b before later
directives_are_read x a b at lead ga before end came start later come =
    let d = length a in
    let n = line_at a (length a) in
    let c = scan_of x b in
    let pa = passed x a ga.scanned in
    let outer = no_bracket x a ga in
    let (front, over, last, are, ended) = ended_front x a b at pa.none outer in
    let (mine, final, told, ends, others) = stream_ends (record { encoding = x; text = a }) pa.none in
    let (same, is_last) = same_from_push mine (front ++ over ∷ []) final last (sym told ∙ are) in
    let last_is : last.body ≡ stream_end = ap (λ (t : Token). t.body) (sym is_last) ∙ ends in
    let goes : GoOn front = go_front front over (subst GoOn same (go_on mine others)) in
    let first : Token = record { body = stream_start x; start_mark = zero_mark; end_mark = zero_mark } in
    let (behind, starts) = stream_starts (record { encoding = x; text = b }) in
    let own = option_map (moved_fault d n) c.fault in
    let rest : tokens_in x b ≡ with_token first (cut c.fault behind) = ap (cut c.fault) starts in
    let R = moved_remaining d n (cut c.fault behind) in
    let joined = ended_windows_are_scanned x a b at pa.none outer (front ++ over ∷ []) last are first behind starts in
    let list = spell_left (front ++ over ∷ []) (last ∷ []) (subst AllSpell are pa.spell) in
    let whole : tokens_in x (a ++ b) ≡ behind_tokens (front ++ over ∷ []) R =
    ap (λ (y : Remaining). cut y.fault y.tokens) joined ∙ cut_behind own (front ++ over ∷ []) (moved_tokens d n behind) list
    ∙ ap (behind_tokens (front ++ over ∷ [])) (cut_moved d n c.fault behind) in
    let begins = cut_leads d n c.fault behind (leads_so x b lead first behind starts) in
    let (events, ending) = subst (λ (r : Remaining). IsMovedPlain d n (seen (read_to r)) (seen (read_to (moved_remaining d n r)))) rest (reading_moved d n x b) in
    let rest_read : reading_in x b ≡ read_to (with_token first (cut c.fault behind)) = ap read_to rest in
    let whole_read : reading_in x (a ++ b) ≡ parse_of (front ++ over ∷ R.tokens) R.fault =
    ap read_to whole ∙ ap (λ ts. parse_of ts R.fault) (append_assoc front (over ∷ []) R.tokens) in
    let list_read : (scan_of x a).tokens ≡ front ++ over ∷ last ∷ [] = are ∙ append_assoc front (over ∷ []) (last ∷ []) in
    let (read, finish) = directives_are_parsed front over last goes ended last_is
    (ap (λ ts. (parse_of ts None).ending) (sym list_read) ∙ ap (λ (r : Reading). r.ending) (sym pa.reads) ∙ ga.parsed)
    R.tokens R.fault begins (moved_token d n first) x refl before end
    (ap (λ ts. parse.events_in (parse_of ts None)) (sym list_read) ∙ ap parse.events_in (sym pa.reads) ∙ came)
    (moved_event d n start) (map (moved_event d n) later)
    (events ∙ ap (map (moved_event d n)) (ap parse.events_in (sym rest_read) ∙ come)) in (
      ap (λ (r : Remaining). r.fault) whole ∙ ap (option_map (moved_fault d n)) (sym (ap (λ (r : Remaining). r.fault) rest)),
      ap parse.events_in whole_read ∙ read,
      subst (λ (r : Reading). IsMovedEnd d n r.ending (reading_in x (a ++ b)).ending) (sym rest_read)
          (subst (λ (o : Option Fault). IsMovedEnd d n (read_to (with_token first (cut c.fault behind))).ending o) (sym (ap (λ (r : Reading). r.ending) whole_read ∙ finish)) ending),
    )

pub windows_are_read : WindowsAreRead
windows_are_read x a b (inl at) ga before end came start later come = marks_are_read x a b at.0 at.1 ga before end came start later come
windows_are_read x a b (inr at) ga before end came start later come = directives_are_read x a b at.0 at.1 ga before end came start later come

-- ---- how readings begin and end

-- tokens that begin with STREAM-START have its event first
started : (x : yaml_encoding_t) (m e : yaml_mark_t) (ts : List Token) (own : Option Fault)
    → (start : Event) × (later : List Event)
    × (parse.events_in (parse_of (record { body = stream_start x; start_mark = m; end_mark = e } ∷ ts) own) ≡ start ∷ later)
    × (start.body ≡ event.stream_start x)
unfolding feed
started x m e ts own =
    let first : Token = record { body = stream_start x; start_mark = m; end_mark = e } in
    let i = event_at (event.stream_start x) m e in
    let ending = (run (first ∷ ts) initial own).ending in (
      placed (event.stream_start x) i,
      (plain (items_of (run ts (state.first ∷ []) own).items) ending no_directives).events,
      ap (λ (p : Plain). p.events) (parse_plain (first ∷ ts) own ∙ ap (λ y. plain y ending no_directives) (step_items first ts initial (state.first ∷ []) own (i ∷ []) refl)),
      refl,
    )

begins_so : (x : yaml_encoding_t) (text : List ℕ)
    → (start : Event) × (later : List Event)
    × (parse.events_in (reading_in x text) ≡ start ∷ later) × (start.body ≡ event.stream_start x)
begins_so x text =
    let c = scan_of x text in
    let (behind, starts) = stream_starts (record { encoding = x; text = text }) in
    let (start, later, come, is) = started x zero_mark zero_mark (cut c.fault behind).tokens (cut c.fault behind).fault in
    (start, later, ap (λ ts. parse.events_in (read_to (cut c.fault ts))) starts ∙ come, is)

-- tokens that a stream's end closes have its event last
closed : (front : List Token) (m e : yaml_mark_t) → Front front m e e → (r : Reading)
    → r ≡ parse_of (front ++ end_at m e ∷ []) None
    → (before : List Event) × (end : Event)
    × (parse.events_in r ≡ before ++ end ∷ []) × (end.body ≡ event.stream_end)
closed front m e f r is =
    (f.taken.events ++ f.events, placed event.stream_end (event_at event.stream_end m e), ap parse.events_in is ∙ front_events front m e e f, refl)

ends_so : (x : yaml_encoding_t) (text : List ℕ) → IsAccepted x text
    → (before : List Event) × (end : Event)
    × (parse.events_in (reading_in x text) ≡ before ++ end ∷ []) × (end.body ≡ event.stream_end)
ends_so x text g =
    let p = passed x text g.scanned in
    let (front, last, are, ends, others) = stream_ends (record { encoding = x; text = text }) p.none in
    let m = last.start_mark in
    let e = last.end_mark in
    let list : (scan_of x text).tokens ≡ front ++ end_at m e ∷ [] = are ∙ ap (λ t. front ++ t ∷ []) (body_at last stream_end m ends refl) in
    let is : reading_in x text ≡ parse_of (front ++ end_at m e ∷ []) None = p.reads ∙ ap (λ ts. parse_of ts None) list in
    closed front m e (front_of front (go_on front others) m e e (ap (λ (r : Reading). r.ending) (sym is) ∙ g.parsed)) (reading_in x text) is

pub readings_are_framed : ReadingsAreFramed
readings_are_framed x text = (begins_so x text, ends_so x text)

-- ---- both parts accepted

none_moved : (d n : ℕ) (p q : Option Fault) → IsMovedEnd d n p q → p ≡ None → q ≡ None
none_moved d n None None h e = refl
none_moved d n None (Some g) h e = absurd h
none_moved d n (Some f) q h e = absurd (some_none e)
  where
    some_none : {A : Type 0} {x : A} → Some x ≡ None → ⊥
    some_none e = cc

pub windows_are_accepted : WindowsAreAccepted
windows_are_accepted x a b at ga gb =
    let (start, later, come, starts) = begins_so x b in
    let (before, end, came, ends) = ends_so x a ga in
    let (fault, events, ending) = windows_are_read x a b at ga before end came start later come in
    record {
      scanned = fault ∙ ap (option_map (moved_fault (length a) (line_at a (length a)))) gb.scanned;
      parsed = none_moved (length a) (line_at a (length a)) _ _ ending gb.parsed;
    }

-- ---- a front that is refused

pub spell_push : (xs : List Token) (t : Token) → AllSpell xs → spells_text t.body ≡ true
    → AllSpell (xs ++ t ∷ [])
spell_push [] t h k = (k, tt)
spell_push (x ∷ xs) t h k = (h.0, spell_push xs t h.1 k)

-- tokens pass the adapter, or it stops within them
pub spell_or : (front : List Token) → AllSpell front
    ⊎ ((f g : Option Fault) (ts us : List Token) → cut f (front ++ ts) ≡ cut g (front ++ us))
spell_or [] = inl tt
spell_or (t ∷ front) =
    elim (cases_Bool (spells_text t.body)) [
      | inr e ↦ inr (λ f g ts us. rw e refl)
      | inl e ↦ elim (spell_or front) [
        | inl h ↦ inl (e, h)
        | inr h ↦ inr (λ f g ts us. rw e (ap (with_token t) (h f g ts us)))
      ]
    ]

parser_refuses : (x : yaml_encoding_t) (a b : List ℕ) → IsCut a b → is_document_start b 0 ≡ true
    → (tokens_in x a).fault ≡ None → flow_depth (all a) ≡ 0
    → (f : Fault) → (reading_in x a).ending ≡ Some f → (AwaitsDocument x a f → ⊥)
    → (parse.events_in (reading_in x (a ++ b)) ≡ parse.events_in (reading_in x a))
    × ((reading_in x (a ++ b)).ending ≡ Some f)
parser_refuses x a b at begins clean outer f refused other =
    let d = length a in
    let n = line_at a (length a) in
    let pa = passed x a clean in
    let (front, last, are, ends, others) = stream_ends (record { encoding = x; text = a }) pa.none in
    let h = handed x a b at begins outer pa.none pa.spell front last are in
    let mark = moved_token d n h.mark in
    let behind = moved_remaining d n h.behind in
    let mine : reading_in x a ≡ parse_of (front ++ last ∷ []) None = pa.reads ∙ ap (λ ts. parse_of ts None) are in
    let whole : reading_in x (a ++ b) ≡ parse_of (front ++ mark ∷ behind.tokens) behind.fault = ap read_to h.whole in
    let (events, ending) = refused_fronts_stay front last (go_on front others) ends f (ap (λ (r : Reading). r.ending) (sym mine) ∙ refused)
    (λ e. other (front, last, are, e)) mark h.begins h.there behind.tokens behind.fault in
    (ap parse.events_in whole ∙ events ∙ ap parse.events_in (sym mine), ap (λ (r : Reading). r.ending) whole ∙ ending)

pub refused_fronts_are_read : RefusedFrontsAreRead
refused_fronts_are_read x a b at begins clean outer f refused other =
    let c = scan_of x a in
    let (front, last, are, ends, others) = stream_ends (record { encoding = x; text = a }) clean in
    elim (spell_or front) [
      | inl h ↦
          let spell : AllSpell c.tokens = subst AllSpell (sym are) (spell_push front last h (ap spells_text ends)) in
          let none : (tokens_in x a).fault ≡ None = ap (λ (r : Remaining). r.fault) (cut_same c.fault c.tokens spell) ∙ clean in
          parser_refuses x a b at begins none outer f refused other
      | inr stops ↦
          let (behind, starts) = stream_starts (record { encoding = x; text = b }) in
          let first : Token = record { body = stream_start x; start_mark = zero_mark; end_mark = zero_mark } in
          let whole = windows_are_scanned x a b at clean outer front last are first behind starts in
          let d = length a in
          let n = line_at a (length a) in
          let same : tokens_in x (a ++ b) ≡ tokens_in x a =
          ap (λ (y : Remaining). cut y.fault y.tokens) whole
          ∙ stops (option_map (moved_fault d n) (scan_of x b).fault) c.fault (moved_tokens d n behind) (last ∷ [])
          ∙ ap (cut c.fault) (sym are) in
          (ap (λ r. parse.events_in (read_to r)) same, ap (λ r. (read_to r).ending) same ∙ refused)
    ]
