-- Words: what the readers answer, as lexemes.
use Rattle.std.proofs.Common.{◌≡◌, ◌↔◌, IsTrue, ℕ, zero, suc, pos, ◌+◌, ◌-◌, ◌<◌, ◌≤◌, ◌⊎◌, Bool, true, false, cond, inl, inr, List, [], ◌∷◌, ◌++◌, length, slice_range, Some, None, Result, Ok, Err, refl, sym, ap, subst, ◌∙◌, length-append, arith}
use Rattle.std.proofs.Math.Seq.{drop-append_seam, take-length}
use Rattle.yaml_scan_core.proofs.Words.{get_or_at, byte, starts, splits_break, Wrong, WordText, SpelledText}
use Rattle.yaml_scan_model.specs.declared.name.yaml_scalar_style_t.{yaml_scalar_style_t}
use Rattle.yaml_scan_model.specs.declared.name.yaml_scalar_style_t.TheVariants as styles
use Rattle.yaml_scan_model.specs.declared.problem.Context.{Context}
use Rattle.yaml_scan_model.specs.scan_types.Tokens as tokens
use Rattle.yaml_scan_history.specs.Pieces.{bytes_at}
use Rattle.yaml_scan_history.proofs.RunLemmas.{slice_bytes}
use Rattle.yaml_scan_history.specs.Plain.{PlainText}
use Rattle.yaml_scan_history.specs.Block.{BlockText}
use Rattle.yaml_scan_history.specs.Tags.{TagText}
use Rattle.yaml_scan_history.specs.Directives as directives
use Rattle.yaml_scan_history.specs.Directives.{DirectiveText, Said, decimal}
use Rattle.yaml_scan_history.specs.Words.{blocked, body_said, directed, plainly, tagged, valued}
use Rattle.yaml_scan_laws.proofs.WordForward.{LandsWord}
use Rattle.yaml_scan_text.specs.Lines.{AtLine, line_start}
use Rattle.yaml_scan_text.specs.BlockRead.{ReadsBlock}
use Rattle.yaml_scan_text.specs.DirectivesRead.{AreParts, IsSaid, ReadsDirective}
use Rattle.yaml_scan_text.specs.NamesRead.{ReadsName}
use Rattle.yaml_scan_text.specs.PlainRead.{IsPlainLine, ReadsPlain, one_line, is_bad_colon, bad_colon}
use Rattle.yaml_scan_text.specs.QuotedRead.{ReadsQuoted}
use Rattle.yaml_scan_text.specs.TagsRead.{ReadsTag}
use Rattle.yaml_scan_text.specs.Refused.{wrong_of}
use Rattle.yaml_scan_text.specs.declared.block.BlockScalar.{BlockScalar}
use Rattle.yaml_scan_text.specs.declared.directive.Directive.{Directive}
use Rattle.yaml_scan_text.specs.declared.directive.Value.{Value}
use Rattle.yaml_scan_text.specs.declared.plain.PlainLine.{PlainLine}
use Rattle.yaml_scan_text.specs.declared.plain.PlainScalar.{PlainScalar}
use Rattle.yaml_scan_text.specs.declared.quoted.QuotedScalar.{QuotedScalar}
use Rattle.yaml_scan_text.specs.declared.tag.Tag.{Tag}
use Rattle.yaml_scan_text.specs.declared.refusal.Refusal.{Refusal}
use Rattle.yaml_scan_text.specs.declared.refusal.Refusal.TheVariants as refusals
use Rattle.yaml_scan_text.specs.declared.refusal.Wrong.{Wrong as Told}
use Rattle.yaml_scan_model.specs.declared.kind.Kind.{Kind}
use Rattle.yaml_scan_model.specs.declared.kind.Kind.TheVariants as kinds
use Rattle.yaml_scan_core.specs.declared.lexeme.Lexeme.{Lexeme}
use Rattle.yaml_scan_core.specs.declared.lexeme.Note.{Note}
use Rattle.yaml_scan_core.specs.declared.lexeme.Span.{Span}
use Rattle.yaml_scan_core.specs.declared.word.Spot.{Spot}
use Rattle.yaml_scan_core.specs.Rows.{bare, noted}
use Rattle.yaml_scan_core.specs.Shown.{Carries, NoteHolds, SpanHolds, Store, ValueStands, no_span, number_of, quotes}
use Rattle.yaml_scan_core.specs.Scanning.{IsPlace}
use Rattle.yaml_scan_core.specs.WordsRead.{GivesWord, IsNamed, IsQuotedBy, IsWordAt, joined_note, name_body, scalar_body, store_behind, value_span}
use Rattle.std.specs.Bool.{MatchBool}
use Rattle.std.specs.Str.{IsAscii, IsNotAscii, IsUtf8, is_utf8}
use Rattle.std.proofs.lemmas.Bool.{false≢true}
use Rattle.std.proofs.lemmas.Str.{IsUtf8-from_ascii, IsUtf8-from_is_utf8, is_utf8-from_IsUtf8}
use Rattle.yaml_scan_core.specs.Told.{SpanFits, span_in}
use Rattle.yaml_scan_core.proofs.NumbersLemmas.{IsSmallSaid, SaysSmall}
use Rattle.yaml_scan_core.proofs.SeatLemmas.{plain_place}

-- ---- spans

-- a text without notes
abbrev pub bare_store : List ℕ → List ℕ → Store
bare_store text arena = record { text = text; notes = []; arena = arena }

abbrev pub of_text : ℕ → ℕ → Span
of_text p q = record { from = p; to = q; joined = false }

pub span_text : (text arena : List ℕ) (p q : ℕ) (v : List ℕ) → p ≤ q → q ≤ length text
    → slice_range text p q ≡ v
    → SpanHolds (bare_store text arena) (of_text p q) v
span_text text arena p q v order inside are = record { order = order; inside = inside; are = are }

range_end : (old v : List ℕ) → slice_range (old ++ v) (length old) (length (old ++ v)) ≡ v
range_end old v =
    let e : length (old ++ v) - length old ≡ length v = omega (arith, length-append old v) in
    rw (e, drop-append_seam old v) (take-length v)

pub span_arena : (text old new v : List ℕ) → new ≡ old ++ v
    → SpanHolds (bare_store text new) (record { from = length old; to = length new; joined = true }) v
span_arena text old new v e = record {
  order = omega (arith, ap (λ (xs : List ℕ). length xs) e, length-append old v);
  inside = omega arith;
  are = rw e (range_end old v);
}

pub span_value : (j : Bool) (text old new : List ℕ) (p q : ℕ) (v : List ℕ) → p ≤ q → q ≤ length text
    → (j ≡ true → new ≡ old ++ v) → (j ≡ false → slice_range text p q ≡ v)
    → SpanHolds (bare_store text new) (value_span j p q (length old) (length new)) v
span_value true text old new p q v order inside joined stands = span_arena text old new v (joined refl)
span_value false text old new p q v order inside joined stands = span_text text new p q v order inside (stands refl)

fits_held : (o : Store) (sp : Span) (v : List ℕ) → SpanHolds o sp v → SpanFits o sp
fits_held o sp v h = record { order = h.order; inside = h.inside }

span_noted : (text arena : List ℕ) (notes : List Note) (sp : Span) (v : List ℕ)
    → SpanHolds (bare_store text arena) sp v
    → SpanHolds (record { text = text; notes = notes; arena = arena }) sp v
span_noted text arena notes sp v h = record { order = h.order; inside = h.inside; are = h.are }

-- ---- lexemes with a note, and without

abbrev pub own : Kind → yaml_scalar_style_t → Spot → ℕ → Lexeme
own k style spot end = record (bare k spot.ends spot.at end 0) { style = style }

pub noted_holds : (text arena : List ℕ) (notes : List Note) (n : Note) (x : Lexeme) (a b : List ℕ)
    → x.flags ≡ 0
    → SpanHolds (bare_store text arena) n.first a → SpanHolds (bare_store text arena) n.second b
    → NoteHolds (record { text = text; notes = notes ++ n ∷ []; arena = arena }) (noted (length notes) x) a b
noted_holds text arena notes n x a b none first second =
    let is = get_or_at notes n [] (record { end = 0; first = no_span; second = no_span }) (length notes) refl in
    record {
      noted = rw none refl;
      known = omega (arith, length-append notes (n ∷ []));
      first = rw is (span_noted text arena (notes ++ n ∷ []) n.first a first);
      second = rw is (span_noted text arena (notes ++ n ∷ []) n.second b second);
    }

-- a word with a note
pub noted_word : (k : Kind) (style : yaml_scalar_style_t) (text arena : List ℕ) (spot : Spot)
    (n : Note)
    (at line wide : ℕ) (broke : Bool) (x : WordText) (a b : List ℕ)
    → SpanHolds (bare_store text arena) n.first a → SpanHolds (bare_store text arena) n.second b
    → ((o : Store) (t : SpelledText) (y : Lexeme) → y.style ≡ style → NoteHolds o y a b → Carries o t y k x.body)
    → n.end ≡ x.end → x.end ≤ length text → at ≡ x.reached → broke ≡ x.broke → IsPlace text at line wide
    → (end : ℕ) → IsWordAt text arena spot (record {
      lexeme = own k style spot end;
      note = Some n;
      at = at;
      line = line;
      wide = wide;
      broke = broke;
    }) x
noted_word k style text arena spot n at line wide broke x a b first second carries ends inside reached broken place end = record {
  start = refl;
  ends = refl;
  shows = λ notes t.
      let o : Store = record { text = text; notes = notes ++ n ∷ []; arena = arena } in
      let y : Lexeme = noted (length notes) (own k style spot end) in
      let is = get_or_at notes n [] (record { end = 0; first = no_span; second = no_span }) (length notes) refl in
      record {
        end = (rw is refl) ∙ ends;
        plain = refl;
        none = refl;
        front = refl;
        carries = carries o t y refl (noted_holds text arena notes n (own k style spot end) a b refl first second);
      };
  inside = inside;
  at = reached;
  broke = broken;
  place = place;
}

-- a word without note
pub standing_word : (k : Kind) (style : yaml_scalar_style_t) (text arena : List ℕ) (spot : Spot)
    (end : ℕ)
    (at line wide : ℕ) (broke : Bool) (x : WordText)
    → ((o : Store) (t : SpelledText) → o.text ≡ text → Carries o t (own k style spot end) k x.body)
    → end ≡ x.end → x.end ≤ length text → at ≡ x.reached → broke ≡ x.broke → IsPlace text at line wide
    → IsWordAt text arena spot (record {
      lexeme = own k style spot end;
      note = None;
      at = at;
      line = line;
      wide = wide;
      broke = broke;
    }) x
standing_word k style text arena spot end at line wide broke x carries ends inside reached broken place = record {
  start = refl;
  ends = refl;
  shows = λ notes t. record {
    end = ends;
    plain = refl;
    none = refl;
    front = refl;
    carries = carries (store_behind text arena notes (record { lexeme = own k style spot end; note = None; at = at; line = line; wide = wide; broke = broke })) t refl;
  };
  inside = inside;
  at = reached;
  broke = broken;
  place = place;
}

-- ---- names

pub names_given : (text arena : List ℕ) (spot : Spot) (k : Kind) (c : Context) (q : ℕ)
    (r : Result (List ℕ × ℕ) Wrong)
    → IsNamed k c → IsPlace text spot.at spot.line spot.wide → IsPlace text (spot.at + 1) spot.line spot.wide
    → ReadsName text spot.at (Ok q) r
    → GivesWord text arena spot (Ok (record { lexeme = bare k spot.ends spot.at q 0; note = None; at = q; line = spot.line; wide = spot.wide; broke = false }))
    (valued (name_body k) r)
names_given text arena spot k c q (Err w) named place next is = absurd is
names_given text arena spot k c q (Ok x) named place next is =
    let behind = plain_place text (spot.at + 1) q spot.line spot.wide next is.inside is.plain in
    let fits : x.1 ≤ length text = omega (arith, is.end, is.inside) in
    let none : q - 0 ≡ q = omega arith in
    let stands : (o : Store) → o.text ≡ text → ValueStands o (bare k spot.ends spot.at q 0) x.0 = λ o same. record {
      plain = refl;
      order = omega (arith, is.some);
      inside = rw same is.inside;
      are = rw (same, none) is.name;
    } in
    elim named [
      | inl (alias, of) ↦ rw alias (standing_word kinds.Alias styles.YAML_ANY_SCALAR_STYLE text arena spot q q spot.line spot.wide false (record { body = tokens.alias x.0; end = x.1; reached = x.1; broke = false })
          (λ o t same. (x.0, inr (rw alias at (stands o same)), refl)) is.end fits is.end refl behind)
      | inr (anchor, of) ↦ rw anchor (standing_word kinds.Anchor styles.YAML_ANY_SCALAR_STYLE text arena spot q q spot.line spot.wide false (record { body = tokens.anchor x.0; end = x.1; reached = x.1; broke = false })
          (λ o t same. (x.0, inr (rw anchor at (stands o same)), refl)) is.end fits is.end refl behind)
    ]

-- ---- tags

unreadable : (b : Bool) (t : List ℕ) → b ≡ is_utf8 t → (IsUtf8 t → ⊥) → false ≡ b
unreadable true t is h = absurd (h (IsUtf8-from_is_utf8 t (sym is)))
unreadable false t is h = refl

-- a test for UTF-8
pub readable : (b : Bool) (t : List ℕ) → (IsTrue b ↔ IsUtf8 t) → b ≡ is_utf8 t
readable true t h = sym (is_utf8-from_IsUtf8 t (h.0 refl))
readable false t h = unreadable (is_utf8 t) t refl (λ u. false≢true (h.1 u))

-- a test for ASCII
pub ascii_read : (b : Bool) (t : List ℕ) → MatchBool b (IsAscii t) (IsNotAscii t) → b ≡ true
    → b ≡ is_utf8 t
ascii_read true t h is = sym (is_utf8-from_IsUtf8 t (IsUtf8-from_ascii t h))
ascii_read false t h is = absurd (false≢true is)

-- the kind of a tag with that suffix
abbrev pub IsTagKind : Kind → List ℕ → Type 0
IsTagKind k v = ((k ≡ kinds.Tag) × (is_utf8 v ≡ true)) ⊎ ((k ≡ kinds.BadTag) × (is_utf8 v ≡ false))

pub tag_kind_is : (good : Bool) (k : Kind) (v : List ℕ) → k ≡ cond good kinds.Tag kinds.BadTag
    → good ≡ is_utf8 v → IsTagKind k v
tag_kind_is true k v e g = inl (e, sym g)
tag_kind_is false k v e g = inr (e, sym g)

-- the suffix of a tag is where it is said to be
pub tag_fits : (text old new : List ℕ) (p : ℕ) (g : Tag) (r : Result TagText Wrong)
    → ReadsTag text p old new (Ok g) r
    → SpanFits (bare_store text new) (value_span g.joined g.from g.to (length old) (length new))
tag_fits text old new p g (Err w) is = absurd is
tag_fits text old new p g (Ok x) is = fits_held _ _ _ (span_value g.joined text old new g.from g.to x.suffix is.order (omega (arith, is.last, is.inside)) is.joined (λ j. (is.stands j).1))

pub tag_given : (text old new : List ℕ) (spot : Spot) (k : Kind) (g : Tag)
    (r : Result TagText Wrong)
    → IsTagKind k (span_in (bare_store text new) (value_span g.joined g.from g.to (length old) (length new)))
    → IsPlace text spot.at spot.line spot.wide → ReadsTag text spot.at old new (Ok g) r
    → GivesWord text new spot (Ok (record {
      lexeme = bare k spot.ends spot.at g.end 0;
      note = Some (record {
        end = g.end;
        first = of_text spot.at g.handle;
        second = value_span g.joined g.from g.to (length old) (length new);
      });
      at = g.end;
      line = spot.line;
      wide = spot.wide;
      broke = false;
    })) (tagged r)
tag_given text old new spot k g (Err w) kind place is = absurd is
tag_given text old new spot k g (Ok x) kind place is =
    let behind = plain_place text spot.at g.end spot.line spot.wide place is.inside is.plain in
    let first = span_text text new spot.at g.handle x.handle is.front (omega (arith, is.within, is.inside)) is.handle in
    let second = span_value g.joined text old new g.from g.to x.suffix is.order (omega (arith, is.last, is.inside)) is.joined (λ j. (is.stands j).1) in
    let fits : x.end ≤ length text = omega (arith, is.end, is.inside) in
    let n : Note = record {
      end = g.end;
      first = of_text spot.at g.handle;
      second = value_span g.joined g.from g.to (length old) (length new);
    } in
    let y : WordText = record { body = tokens.tag x.handle x.suffix; end = x.end; reached = x.end; broke = false } in
    let of_suffix : IsTagKind k x.suffix = subst (λ v. IsTagKind k v) second.are kind in
    elim of_suffix [
      | inl (e, good) ↦ rw e (noted_word kinds.Tag styles.YAML_ANY_SCALAR_STYLE text new spot n g.end spot.line spot.wide false y x.handle x.suffix first second
          (λ o t z style holds. (x.handle, x.suffix, holds, refl, good)) is.end fits is.end refl behind g.end)
      | inr (e, good) ↦ rw e (noted_word kinds.BadTag styles.YAML_ANY_SCALAR_STYLE text new spot n g.end spot.line spot.wide false y x.handle x.suffix first second
          (λ o t z style holds. (x.handle, x.suffix, holds, refl, good)) is.end fits is.end refl behind g.end)
    ]

pub tag_refused : (text old new : List ℕ) (spot : Spot) (e : Refusal) (r : Result TagText Wrong)
    → ReadsTag text spot.at old new (Err e) r → GivesWord text new spot (Err e) (tagged r)
tag_refused text old new spot e (Ok x) is = is
tag_refused text old new spot e (Err w) is = is

-- ---- scalars

-- what a scalar's value is where it has no note
abbrev pub StandsIn : yaml_scalar_style_t → List ℕ → Spot → ℕ → List ℕ → Type 0
StandsIn style text spot end v = (spot.at + (quotes style).0 ≤ end - (quotes style).1)
    × (slice_range text (spot.at + (quotes style).0) (end - (quotes style).1) ≡ v)

pub scalar_word : (j : Bool) (style : yaml_scalar_style_t) (text old new : List ℕ) (spot : Spot)
    (end : ℕ)
    (at line wide : ℕ) (broke : Bool) (v : List ℕ) (e : ℕ)
    → (j ≡ true → new ≡ old ++ v) → (j ≡ false → StandsIn style text spot end v)
    → end ≡ e → e ≤ length text → IsPlace text at line wide
    → IsWordAt text new spot (record {
      lexeme = own kinds.Scalar style spot end;
      note = cond j (Some (joined_note end (length old) (length new))) None;
      at = at;
      line = line;
      wide = wide;
      broke = broke;
    }) (record { body = tokens.scalar v style; end = e; reached = at; broke = broke })
scalar_word true style text old new spot end at line wide broke v e joined stands ends inside place =
    noted_word kinds.Scalar style text new spot (joined_note end (length old) (length new)) at line wide broke
    (record { body = tokens.scalar v style; end = e; reached = at; broke = broke }) [] v
    (record { order = omega arith; inside = omega arith; are = refl }) (span_arena text old new v (joined refl))
    (λ o t y same holds. (v, inl ([], holds), ap (λ s. tokens.scalar v s) (sym same))) ends inside refl refl place end
scalar_word false style text old new spot end at line wide broke v e joined stands ends inside place =
    standing_word kinds.Scalar style text new spot end at line wide broke
    (record { body = tokens.scalar v style; end = e; reached = at; broke = broke })
    (λ o t same. (
      v,
      inr (record {
        plain = refl;
        order = (stands refl).0;
        inside = rw same (omega (arith, ends, inside));
        are = rw same (stands refl).1;
      }),
      refl,
    )) ends inside refl refl place

pub quoted_given : (style : yaml_scalar_style_t) (text old new : List ℕ) (spot : Spot)
    (s : QuotedScalar) (wide : ℕ)
    (r : Result (List ℕ × ℕ) Wrong) → IsQuotedBy style (byte text spot.at) → ReadsQuoted text spot.at old new (Ok s) r
    → IsPlace text s.end s.line wide
    → GivesWord text new spot (Ok (record {
      lexeme = own kinds.Scalar style spot s.end;
      note = cond s.joined (Some (joined_note s.end (length old) (length new))) None;
      at = s.end;
      line = s.line;
      wide = wide;
      broke = false;
    })) (valued (scalar_body style) r)
quoted_given style text old new spot s wide (Err w) quote is place = absurd is
quoted_given style text old new spot s wide (Ok x) quote is place =
    let one : quotes style ≡ (1, 1) = elim quote [ inl (e, b) ↦ rw e refl | inr (e, b) ↦ rw e refl ] in
    rw (← is.end) (scalar_word s.joined style text old new spot s.end s.end s.line wide false x.0 s.end is.joined
    (λ j. rw one (omega (arith, is.some), (is.stands j).1)) refl is.inside place)

pub block_given : (style : yaml_scalar_style_t) (text old new : List ℕ) (spot : Spot)
    (b : BlockScalar) (wide : ℕ)
    (r : Result BlockText Wrong) → LandsWord text spot.at (blocked style r) → ReadsBlock text old new (Ok b) r
    → IsPlace text b.place b.line wide
    → GivesWord text new spot (Ok (record {
      lexeme = own kinds.Scalar style spot b.end;
      note = Some (joined_note b.end (length old) (length new));
      at = b.place;
      line = b.line;
      wide = wide;
      broke = false;
    })) (blocked style r)
block_given style text old new spot b wide (Err w) lands is place = absurd is
block_given style text old new spot b wide (Ok x) lands is place =
    rw (← is.place) (scalar_word true style text old new spot b.end b.place b.line wide false x.value x.end (λ j. is.value)
    (λ j. cc) is.end (omega (arith, lands.place, lands.inside)) place)

pub block_on : (style : yaml_scalar_style_t) (text old new : List ℕ) (p : ℕ) (b : BlockScalar)
    (r : Result BlockText Wrong)
    → LandsWord text p (blocked style r) → ReadsBlock text old new (Ok b) r → (p ≤ b.place) × AtLine text b.line b.place
block_on style text old new p b (Err w) lands is = absurd is
block_on style text old new p b (Ok x) lands is = (omega (arith, lands.end, lands.place, is.place), is.seat)

pub plain_given : (text old new : List ℕ) (spot : Spot) (s : PlainScalar) (wide : ℕ)
    (r : Result PlainText Wrong)
    → LandsWord text spot.at (plainly r) → ReadsPlain text spot.at old new (Ok s) r → IsPlace text s.place s.line wide
    → GivesWord text new spot (Ok (record {
      lexeme = own kinds.Scalar styles.YAML_PLAIN_SCALAR_STYLE spot s.end;
      note = cond s.joined (Some (joined_note s.end (length old) (length new))) None;
      at = s.place;
      line = s.line;
      wide = wide;
      broke = s.broke;
    })) (plainly r)
plain_given text old new spot s wide (Err w) lands is place = absurd is
plain_given text old new spot s wide (Ok x) lands is place =
    let none : s.end - 0 ≡ s.end = omega arith in
    let zero_more : spot.at + 0 ≡ spot.at = omega arith in
    rw (← is.place, ← is.broke) (scalar_word s.joined styles.YAML_PLAIN_SCALAR_STYLE text old new spot s.end s.place s.line wide s.broke x.value x.end is.joined
    (λ j. rw (none, zero_more) (omega (arith, lands.end, is.end), (is.stands j).1)) is.end (omega (arith, lands.place, lands.inside)) place)

-- the place after a plain scalar
pub record PlainSeat (text : List ℕ) (p : ℕ) (s : PlainScalar) : Type 0 where
  pub on : p ≤ s.place
  pub inside : s.place ≤ length text
  pub whole : splits_break text s.place ≡ false
  pub line : s.line ≡ line_start text s.place
  pub wide : s.wide ≡ false → (k : ℕ) → s.line ≤ k → k < s.place → starts (byte text k) ≡ true

pub plain_on : (text old new : List ℕ) (p : ℕ) (s : PlainScalar) (r : Result PlainText Wrong)
    → LandsWord text p (plainly r) → ReadsPlain text p old new (Ok s) r → PlainSeat text p s
plain_on text old new p s (Err w) lands is = absurd is
plain_on text old new p s (Ok x) lands is = record {
  on = omega (arith, lands.end, lands.place, is.place);
  inside = is.inside;
  whole = is.whole;
  line = is.line;
  wide = is.wide;
}

-- one that is on one line
pub one_given : (flow : Bool) (text old : List ℕ) (spot : Spot) (l : PlainLine) (wide : ℕ)
    (r : Result PlainText Wrong)
    → IsPlainLine flow text spot.at l → is_bad_colon flow text l.next ≡ false → r ≡ one_line flow text spot.at l
    → IsPlace text l.next spot.line wide
    → GivesWord text old spot (Ok (record {
      lexeme = own kinds.Scalar styles.YAML_PLAIN_SCALAR_STYLE spot l.end;
      note = None;
      at = l.next;
      line = spot.line;
      wide = wide;
      broke = false;
    })) (plainly r)
one_given flow text old spot l wide r is good e place =
    let none : l.end - 0 ≡ l.end = omega arith in
    let zero_more : spot.at + 0 ≡ spot.at = omega arith in
    rw (e, good) (scalar_word false styles.YAML_PLAIN_SCALAR_STYLE text old old spot l.end l.next spot.line wide false (slice_range text spot.at l.end) l.end (λ j. cc)
    (λ j. rw (none, zero_more) (omega (arith, is.after), refl)) refl (omega (arith, is.order, is.inside)) place)

pub one_refused : (flow : Bool) (text old : List ℕ) (spot : Spot) (l : PlainLine) (told : Told)
    (r : Result PlainText Wrong)
    → is_bad_colon flow text l.next ≡ true → r ≡ one_line flow text spot.at l → wrong_of told ≡ bad_colon l.next
    → GivesWord text old spot (Err (refusals.Wrong told)) (plainly r)
one_refused flow text old spot l told r bad e is = rw (e, bad) is

-- ---- directives

number_over : (d : ℕ) (text : List ℕ) (p a : ℕ)
    → number_of (decimal text p a) (bytes_at text (p + a) d) ≡ decimal text p (a + d)
unfolding number_of decimal bytes_at
number_over zero text p a = let z : a + 0 ≡ a = omega arith in rw z refl
number_over (suc d) text p a =
    let e : a + suc d ≡ suc a + d = omega arith in
    let next : p + a + 1 ≡ p + suc a = omega arith in
    rw (e, next) (number_over d text p (suc a))

pub number_is : (text : List ℕ) (p q : ℕ) → p ≤ q → q ≤ length text
    → number_of 0 (slice_range text p q) ≡ decimal text p (q - p)
unfolding decimal
number_is text p q le inside =
    let z : p + 0 ≡ p = omega arith in
    let n : 0 + (q - p) ≡ q - p = omega arith in
    let all = number_over (q - p) text p 0 in
    rw (slice_bytes text p (q - p) (omega arith)) (rw (z, n) at all)

-- what a directive is
abbrev pub is_directive : Bool → Bool → Kind
is_directive tag good = cond tag (cond good kinds.TagDirective kinds.BadPrefix) kinds.VersionDirective

abbrev pub directive_note : Value → ℕ → ℕ → Note
directive_note v base end = record {
  end = v.second_end;
  first = of_text v.first v.first_end;
  second = value_span v.joined v.second v.second_end base end;
}

prefixed : (good : Bool) (text old new : List ℕ) (spot : Spot) (n : Note) (at line wide end e : ℕ)
    (h p : List ℕ)
    → good ≡ is_utf8 p → SpanHolds (bare_store text new) n.first h
    → SpanHolds (bare_store text new) n.second p → n.end ≡ e → e ≤ length text
    → IsPlace text at line wide
    → IsWordAt text new spot (record {
      lexeme = bare (cond good kinds.TagDirective kinds.BadPrefix) spot.ends spot.at end 0;
      note = Some n;
      at = at;
      line = line;
      wide = wide;
      broke = false;
    }) (record { body = tokens.tag_directive h p; end = e; reached = at; broke = false })
prefixed true text old new spot n at line wide end e h p good first second ends inside place =
    noted_word kinds.TagDirective styles.YAML_ANY_SCALAR_STYLE text new spot n at line wide false (record { body = tokens.tag_directive h p; end = e; reached = at; broke = false })
    h p first second (λ o t y style holds. (h, p, holds, refl, sym good)) ends inside refl refl place end
prefixed false text old new spot n at line wide end e h p good first second ends inside place =
    noted_word kinds.BadPrefix styles.YAML_ANY_SCALAR_STYLE text new spot n at line wide false (record { body = tokens.tag_directive h p; end = e; reached = at; broke = false })
    h p first second (λ o t y style holds. (h, p, holds, refl, sym good)) ends inside refl refl place end

said_word : (good : Bool) (text old new : List ℕ) (spot : Spot) (v : Value) (at line wide e : ℕ)
    (x : Said) → IsSmallSaid x
    → good ≡ is_utf8 (span_in (bare_store text new) (directive_note v (length old) (length new)).second)
    → IsSaid text old new v x → AreParts v → v.second_end ≡ e → v.second_end ≤ length text
    → IsPlace text at line wide
    → IsWordAt text new spot (record {
      lexeme = bare (is_directive v.is_tag good) spot.ends spot.at v.second_end 0;
      note = Some (directive_note v (length old) (length new));
      at = at;
      line = line;
      wide = wide;
      broke = false;
    }) (record { body = body_said x; end = e; reached = at; broke = false })
said_word good text old new spot v at line wide e (directives.version a b) small told (kind, plain, same, major, minor, few, short) parts ends inside place =
    let fits : e ≤ length text = omega (arith, ends, inside) in
    let m = slice_range text v.first v.first_end in
    let n = slice_range text v.second v.second_end in
    let first = span_text text new v.first v.first_end m parts.first (omega (arith, parts.between, parts.second, inside)) refl in
    let second = span_text text new v.second v.second_end n parts.second inside refl in
    let one : number_of 0 m ≡ a = number_is text v.first v.first_end parts.first (omega (arith, parts.between, parts.second, inside)) ∙ major in
    let two : number_of 0 n ≡ b = number_is text v.second v.second_end parts.second inside ∙ minor in
    rw (kind, plain) (noted_word kinds.VersionDirective styles.YAML_ANY_SCALAR_STYLE text new spot
    (record { end = v.second_end; first = of_text v.first v.first_end; second = of_text v.second v.second_end }) at line wide false
    (record { body = tokens.version_directive (pos a) (pos b); end = e; reached = at; broke = false }) m n first second
    (λ o t y style holds. (m, n, holds, rw (one, two) refl, record { major = rw one small.0; minor = rw two small.1 })) ends fits refl refl place v.second_end)
said_word good text old new spot v at line wide e (directives.tag h p) small told (kind, handle, joined, stands) parts ends inside place =
    let fits : e ≤ length text = omega (arith, ends, inside) in
    let second = span_value v.joined text old new v.second v.second_end p parts.second inside joined (λ j. (stands j).1) in
    rw kind (prefixed good text old new spot (directive_note v (length old) (length new)) at line wide v.second_end e h p
    (told ∙ ap is_utf8 second.are) (span_text text new v.first v.first_end h parts.first (omega (arith, parts.between, parts.second, inside)) handle)
    second ends fits place)

-- the second part of a directive is where it is said to be
pub directive_fits : (text old new : List ℕ) (d : Directive) (r : Result DirectiveText Wrong)
    → ReadsDirective text old new (Ok d) r
    → SpanFits (bare_store text new) (directive_note d.value (length old) (length new)).second
directive_fits text old new d (Err w) is = absurd is
directive_fits text old new d (Ok x) is = part_fits text old new d.value x.said is.said is.parts is.inside
  where
    part_fits : (text old new : List ℕ) (v : Value) (x : Said) → IsSaid text old new v x → AreParts v
        → v.second_end ≤ length text → SpanFits (bare_store text new) (directive_note v (length old) (length new)).second
    part_fits text old new v (directives.version a b) (kind, plain, same, major, minor, few, short) parts inside =
        rw plain (record { order = parts.second; inside = inside })
    part_fits text old new v (directives.tag h p) (kind, handle, joined, stands) parts inside =
        fits_held _ _ _ (span_value v.joined text old new v.second v.second_end p parts.second inside joined (λ j. (stands j).1))

pub directive_given : (good : Bool) (text old new : List ℕ) (spot : Spot) (d : Directive) (wide : ℕ)
    (r : Result DirectiveText Wrong)
    → SaysSmall r
    → good ≡ is_utf8 (span_in (bare_store text new) (directive_note d.value (length old) (length new)).second)
    → ReadsDirective text old new (Ok d) r → IsPlace text d.place d.line wide
    → GivesWord text new spot (Ok (record {
      lexeme = bare (is_directive d.value.is_tag good) spot.ends spot.at d.value.second_end 0;
      note = Some (directive_note d.value (length old) (length new));
      at = d.place;
      line = d.line;
      wide = wide;
      broke = false;
    })) (directed r)
directive_given good text old new spot d wide (Err w) small told is place = absurd is
directive_given good text old new spot d wide (Ok x) small told is place =
    rw (← is.place) (said_word good text old new spot d.value d.place d.line wide x.end x.said small told is.said is.parts is.end is.inside place)

pub directive_refused : (text old new : List ℕ) (spot : Spot) (e : Refusal)
    (r : Result DirectiveText Wrong)
    → ReadsDirective text old new (Err e) r → GivesWord text new spot (Err e) (directed r)
directive_refused text old new spot e (Ok x) is = is
directive_refused text old new spot e (Err w) is = is

pub directive_on : (text old new : List ℕ) (p : ℕ) (d : Directive) (r : Result DirectiveText Wrong)
    → LandsWord text p (directed r) → ReadsDirective text old new (Ok d) r → (p ≤ d.place) × AtLine text d.line d.place
directive_on text old new p d (Err w) lands is = absurd is
directive_on text old new p d (Ok x) lands is = (omega (arith, lands.end, lands.place, is.place), is.seat)

pub quoted_narrow : (text old new : List ℕ) (p : ℕ) (s : QuotedScalar)
    (r : Result (List ℕ × ℕ) Wrong)
    → ReadsQuoted text p old new (Ok s) r
    → s.wide ≡ false → (k : ℕ) → p ≤ k → s.line ≤ k → k < s.end → starts (byte text k) ≡ true
quoted_narrow text old new p s (Err w) is = absurd is
quoted_narrow text old new p s (Ok x) is = is.wide

pub none_there : (b w : ℕ) → b ≡ w → b ≤ 0 → w ≡ 0
none_there b w e none = omega (arith, e, none)
