-- What is known where there is a lexeme with a text.
use Rattle.std.proofs.Common.{◌≡◌, ◌≢◌, ℕ, ◌+◌, ◌<◌, ◌≤◌, Bool, true, false, cond, ltb, leb, eqb, ◌&&◌, ◌||◌, not, inl, inr, List, [], ◌∷◌, length, Option, Some, None, Result, Ok, Err, refl, sym, ap, subst, ◌∙◌, arith}
use Rattle.std.proofs.lemmas.Bool.{eqb-true, false≢true}
use types.Run.{OneOf}
use Rattle.yaml_scan_core.proofs.Words.{is_some, cases_Bool, nat_tests, byte, mark_at, starts, splits_break, column_at, is_blank_or_end, indent, Kind, Lexeme, flow_depth, open_levels, kind_at, indicator_of, inner, stack_of, Wrong, WordText, lexeme_at}
use Rattle.yaml_scan_model.specs.scan_types.Marks.{break_of, break_width, is_blank}
use Rattle.yaml_scan_model.proofs.MarksLemmas.{within}
use Rattle.yaml_scan_model.specs.Wrong.{scan_fault}
use Rattle.yaml_scan_history.specs.Plain.{is_bracket, is_indicator_byte, plain_at, starts_plain}
use Rattle.yaml_scan_history.specs.Indicators.{is_document_start, is_document_end}
use Rattle.yaml_scan_history.specs.History.{keeps}
use Rattle.yaml_scan_history.specs.Next.{gap_behind}
use Rattle.yaml_scan_history.specs.Words.{blocked, directed, or_plain, plainly, tagged, valued}
use Rattle.yaml_scan_history.specs.declared.kind.Kind.TheVariants as reads
use Rattle.yaml_scan_laws.proofs.WordForward.{LandsWord, OfAny, Tells, kind_told, word_lands}
use Rattle.yaml_scan_model.specs.declared.name.yaml_scalar_style_t.{yaml_scalar_style_t}
use Rattle.yaml_scan_model.specs.declared.name.yaml_scalar_style_t.TheVariants as styles
use Rattle.yaml_scan_model.specs.declared.problem.Context.TheVariants as contexts
use Rattle.yaml_scan_model.specs.scan_types.Tokens as tokens
use Rattle.yaml_scan_history.specs.Block.{BlockText, block_at, style_at}
use Rattle.yaml_scan_history.specs.Quoted.{quoted_at}
use Rattle.yaml_scan_history.specs.Anchors.{anchor_at}
use Rattle.yaml_scan_history.specs.Directives.{directive_at}
use Rattle.yaml_scan_history.specs.Tags.{tag_at}
use Rattle.yaml_scan_text.specs.PlainRead.{IsWord}
use Rattle.yaml_scan_text.specs.Refused.{Keeps}
use Rattle.yaml_scan_text.specs.declared.refusal.Refusal.{Refusal}
use Rattle.yaml_scan_text.specs.declared.refusal.Refusal.TheVariants as refusals
use Rattle.yaml_scan_core.specs.declared.fault.Fault.{Fault}
use Rattle.yaml_scan_core.specs.declared.row.Row.{Row}
use Rattle.yaml_scan_core.specs.Shown.{place_mark}
use Rattle.yaml_scan_core.proofs.PlacesLemmas.{mark_of_place}
use Rattle.yaml_scan_core.specs.declared.scanner.Scanner.{Scanner}
use Rattle.yaml_scan_core.specs.declared.word.Spot.{Spot}
use Rattle.yaml_scan_core.specs.declared.word.Word.{Word}
use Rattle.yaml_scan_core.specs.Margins.{left_of}
use Rattle.yaml_scan_core.specs.Rows.{HasRoom, row_of}
use Rattle.yaml_scan_core.specs.Scanning.{SpelledOut, Spells, StandsAs, fault_in, left_behind, read_by, stream_of}
use Rattle.yaml_scan_core.specs.Texts.{HasWord, StoresMore, TellsWrong, is_scalar, word_in}
use Rattle.yaml_scan_core.specs.WordsRead.{GivesWord, IsMarkedBy, StandsThere, scalar_body, told_by}
use Rattle.yaml_scan_core.proofs.CandidatesLemmas.{inner_is}
use Rattle.yaml_scan_core.proofs.MarginsLemmas.{margin_is}

-- ---- kinds

-- what a kind says besides its first byte
abbrev pub Says : Bool → List ℕ → ℕ → Kind → Type 0
Says flow text p reads.Plain = starts_plain flow text p ≡ true
Says flow text p reads.Literal = flow ≡ false
Says flow text p reads.Folded = flow ≡ false
Says flow text p _ = Unit {0}

pick : (P : Kind → Type 0) (test : Bool) (k : Kind) (rest : Option Kind) → (test ≡ true → P k)
    → OfAny P rest → OfAny P (cond test (Some k) rest)
pick P true k rest f g = f refl
pick P false k rest f g = g

not_flow : (a flow : Bool) → (a && not flow) ≡ true → flow ≡ false
not_flow a true h = absurd (no a h)
  where
    no : (a : Bool) → (a && not true) ≡ true → ⊥
    no true h = cc
    no false h = cc
not_flow a false h = refl

indicator_says : (flow alone : Bool) (text : List ℕ) (p : ℕ)
    → OfAny (Says flow text p) (indicator_of flow alone (byte text p))
unfolding indicator_of
indicator_says flow alone text p =
    let b = byte text p in
    let at = pick (Says flow text p) in
    at (eqb b 91) reads.FlowSequenceStart _ (λ e. tt) (at (eqb b 123) reads.FlowMappingStart _ (λ e. tt)
    (at (eqb b 93) reads.FlowSequenceEnd _ (λ e. tt) (at (eqb b 125) reads.FlowMappingEnd _ (λ e. tt)
    (at (eqb b 44) reads.FlowEntry _ (λ e. tt) (at (eqb b 45 && alone) reads.BlockEntry _ (λ e. tt)
    (at (eqb b 63 && (flow || alone)) reads.KeyMark _ (λ e. tt) (at (eqb b 58 && (flow || alone)) reads.ValueMark _ (λ e. tt)
    (at (eqb b 42) reads.Alias _ (λ e. tt) (at (eqb b 38) reads.Anchor _ (λ e. tt) (at (eqb b 33) reads.Tag _ (λ e. tt)
    (at (eqb b 124 && not flow) reads.Literal _ (not_flow (eqb b 124) flow) (at (eqb b 62 && not flow) reads.Folded _ (not_flow (eqb b 62) flow)
    (at (eqb b 39) reads.SingleQuoted _ (λ e. tt) (at (eqb b 34) reads.DoubleQuoted None (λ e. tt) tt))))))))))))))

plain_says : (o : Option Kind) (flow b : Bool) (text : List ℕ) (p : ℕ)
    → (b ≡ true → Says flow text p reads.Plain)
    → OfAny (Says flow text p) o → OfAny (Says flow text p) (or_plain o b)
plain_says (Some k) flow b text p f g = g
plain_says None flow true text p f g = f refl
plain_says None flow false text p f g = tt

kind_says : (flow : Bool) (text : List ℕ) (p : ℕ) → OfAny (Says flow text p) (kind_at flow text p)
unfolding kind_at
kind_says flow text p =
    let at = pick (Says flow text p) in
    at (eqb (byte text p) 0) reads.StreamEnd _ (λ e. tt) (at (eqb (byte text p) 37 && eqb (column_at text p) 0) reads.Directive _ (λ e. tt)
    (at (is_document_start text p) reads.DocumentStart _ (λ e. tt) (at (is_document_end text p) reads.DocumentEnd _ (λ e. tt)
    (plain_says (indicator_of flow (is_blank_or_end text (p + 1)) (byte text p)) flow (starts_plain flow text p) text p (λ e. e)
    (indicator_says flow (is_blank_or_end text (p + 1)) text p)))))

pub kind_said : (flow : Bool) (text : List ℕ) (p : ℕ) (k : Kind) → kind_at flow text p ≡ Some k
    → Says flow text p k
kind_said flow text p k e = subst (λ (o : Option Kind). OfAny (Says flow text p) o) e (kind_says flow text p)

-- the bytes that a plain scalar begins with, whatever comes
abbrev pub Other : ℕ → Type 0
Other b = ((((((((((((((((((((Unit {0} × (b ≢ 0)) × (b ≢ 91)) × (b ≢ 123)) × (b ≢ 93)) × (b ≢ 125))
    × (b ≢ 44)) × (b ≢ 42)) × (b ≢ 38)) × (b ≢ 33)) × (b ≢ 39)) × (b ≢ 34)) × (b ≢ 45)) × (b ≢ 63)) × (b ≢ 58))
    × (b ≢ 124)) × (b ≢ 62)) × (b ≢ 37)) × (b ≢ 46)) × (OneOf (9 ∷ 32 ∷ 35 ∷ 64 ∷ 96 ∷ []) b → ⊥)) × (OneOf (10 ∷ 13 ∷ 194 ∷ 226 ∷ []) b → ⊥))

other_none : (flow alone : Bool) (b : ℕ) → Other b → indicator_of flow alone b ≡ None
unfolding indicator_of
other_none flow alone b h = grind (arith, nat_tests, h)

other_starts : (flow : Bool) (text : List ℕ) (p : ℕ) → Other (byte text p)
    → starts_plain flow text p ≡ true
unfolding starts_plain is_indicator_byte is_bracket break_of
other_starts flow text p h = grind (arith, nat_tests, h)

other_at : (flow : Bool) (text : List ℕ) (p : ℕ) → Other (byte text p)
    → kind_at flow text p ≡ Some reads.Plain
unfolding kind_at is_document_start is_document_end
other_at flow text p h =
    let none = other_none flow (is_blank_or_end text (p + 1)) (byte text p) h in
    let starts = other_starts flow text p h in
    rw (none, starts) (grind (arith, nat_tests, h))

pub other_kind : (flow : Bool) (text : List ℕ) (p b : ℕ) → b ≡ byte text p → Other b
    → Some reads.Plain ≡ kind_at flow text p
other_kind flow text p b e h = sym (other_at flow text p (subst (λ x. Other x) e h))

-- what shows a kind is no end, no directive and no mark of a document
shows_none : (flow alone : Bool) → (indicator_of flow alone 0 ≡ None)
    × (indicator_of flow alone 37 ≡ None) × (indicator_of flow alone 46 ≡ None)
unfolding indicator_of
shows_none flow alone = (refl, refl, refl)

shows_alone : (flow : Bool) → indicator_of flow false 45 ≡ None
unfolding indicator_of
shows_alone flow = refl

shown_not : (flow alone : Bool) (b c : ℕ) → is_some (indicator_of flow alone b) ≡ true
    → indicator_of flow alone c ≡ None → eqb b c ≡ false
shown_not flow alone b c some none = elim (cases_Bool (eqb b c)) [
  | inr n ↦ n
  | inl y ↦
      let same : indicator_of flow alone b ≡ None = ap (λ x. indicator_of flow alone x) (eqb-true b c y) ∙ none in
      absurd (false≢true (sym (ap (λ (o : Option Kind). is_some o) same) ∙ some))
]

alone_not : (b c d : ℕ) → ((is_blank b || eqb b 0) || ltb 0 (break_of b c d)) ≡ true
    → eqb b 45 ≡ false
unfolding break_of
alone_not b c d h = grind (arith, nat_tests, h)

hyphen_once : (flow : Bool) (text : List ℕ) (p : ℕ)
    → is_some (indicator_of flow (is_blank_or_end text (p + 1)) (byte text p)) ≡ true
    → (eqb (byte text p) 45 && eqb (byte text (p + 1)) 45) ≡ false
hyphen_once flow text p some = elim (cases_Bool (is_blank_or_end text (p + 1))) [
  | inl y ↦ rw (alone_not (byte text (p + 1)) (byte text (p + 1 + 1)) (byte text (p + 1 + 2)) y) (no_and (eqb (byte text p) 45))
  | inr n ↦
      let bare = subst (λ a. is_some (indicator_of flow a (byte text p)) ≡ true) n some in
      rw (shown_not flow false (byte text p) 45 bare (shows_alone flow)) refl
]
  where
    no_and : (b : Bool) → (b && false) ≡ false
    no_and true = refl
    no_and false = refl

pub shown_kind : (flow : Bool) (text : List ℕ) (p : ℕ)
    → is_some (indicator_of flow (is_blank_or_end text (p + 1)) (byte text p)) ≡ true
    → indicator_of flow (is_blank_or_end text (p + 1)) (byte text p) ≡ kind_at flow text p
unfolding kind_at is_document_start is_document_end
shown_kind flow text p some =
    let alone = is_blank_or_end text (p + 1) in
    let (end, percent, dot) = shows_none flow alone in
    let a = shown_not flow alone (byte text p) 0 some end in
    let b = shown_not flow alone (byte text p) 37 some percent in
    let c = shown_not flow alone (byte text p) 46 some dot in
    let d = hyphen_once flow text p some in
    let e = or_some (indicator_of flow alone (byte text p)) (starts_plain flow text p) some in
    let same : kind_at flow text p ≡ or_plain (indicator_of flow alone (byte text p)) (starts_plain flow text p) = grind (arith, nat_tests, a, b, c, d) in
    e ∙ sym same
  where
    or_some : (o : Option Kind) (s : Bool) → is_some o ≡ true → o ≡ or_plain o s
    or_some (Some k) s h = refl
    or_some None s h = cc

-- where there is a plain scalar there is a character
not_ended : (blank : Bool) (b w : ℕ) (rest : Bool)
    → (not ((blank || eqb b 0) || ltb 0 w) && rest) ≡ true
    → (blank ≡ false) × (0 < b) × (w ≡ 0)
not_ended blank b w rest h = (grind (arith, nat_tests, h), grind (arith, nat_tests, h), grind (arith, nat_tests, h))

pub plain_word : (flow : Bool) (text : List ℕ) (p : ℕ) → kind_at flow text p ≡ Some reads.Plain
    → splits_break text p ≡ false
    → starts (byte text p) ≡ true → IsWord text p
unfolding starts_plain
plain_word flow text p e whole first =
    let h = kind_said flow text p reads.Plain e in
    let (blank, some, none) = not_ended (is_blank (byte text p)) (byte text p) (break_width text p) _ h in
    record { inside = within text p some; blank = blank; none = none; whole = whole; starts = first }

pub or_true : (a : Bool) → (a || true) ≡ true
or_true true = refl
or_true false = refl

-- ---- levels

indent_on : (c x : ℕ) (ls : List ℕ) → x ≤ c → indent (x ∷ left_of c ls) ≤ c
unfolding indent
indent_on c x [] le = le
indent_on c x (y ∷ ys) le = elim (cases_Bool (leb y c)) [
  | inl h ↦ let low : y ≤ c = grind (arith, nat_tests) in rw h (indent_on c y ys low)
  | inr h ↦ rw h (indent_on c x ys le)
]

pub indent_left : (c : ℕ) (ls : List ℕ) → indent (left_of c ls) ≤ c
unfolding indent
indent_left c [] = omega arith
indent_left c (y ∷ ys) = elim (cases_Bool (leb y c)) [
  | inl h ↦ let low : y ≤ c = grind (arith, nat_tests) in rw h (indent_on c y ys low)
  | inr h ↦ rw h (indent_left c ys)
]

scalar_keeps : (k : Kind) (column : ℕ) → is_scalar k ≡ true → keeps k column ≡ column + 1
scalar_keeps reads.Literal column e = refl
scalar_keeps reads.Folded column e = refl
scalar_keeps _ column e = cc

scalar_block : (k : Kind) (flow : Bool) (text : List ℕ) (p : ℕ) → is_scalar k ≡ true
    → Says flow text p k → flow ≡ false
scalar_block reads.Literal flow text p e says = says
scalar_block reads.Folded flow text p e says = says
scalar_block _ flow text p e says = cc

-- ---- what is there

spelled : (text : List ℕ) → Spells text → SpelledOut text
unfolding Spells
spelled text s = s

pub stands_there : (k : Kind) (s : Scanner) (h : List Lexeme) (n : ℕ) → StandsAs k s h n
    → StandsThere k (ltb 0 (inner (stack_of s.keys))) s.levels.margin s.text.now (record { at = s.at; line = s.line; wide = s.wide; ends = n })
stands_there k s h n a =
    let text = s.text.now in
    let deep : flow_depth h ≡ inner (stack_of s.keys) = sym (inner_is (flow_depth h) (stack_of s.keys) a.behind.holds.keys.long) in
    let clear = (spelled s.text.now a.behind.holds.bytes.spells).clear (read_by s) in
    let margin : s.levels.margin ≡ indent (left_behind k s h) = margin_is s.levels (left_behind k s h) a.margins in
    record {
      here = record { place = a.behind.place; long = a.behind.holds.long; spelled = (spelled s.text.now a.behind.holds.bytes.spells).spelled };
      kind = ap (λ d. kind_at (ltb 0 d) text s.at) (sym deep) ∙ a.kind;
      first = ap (λ p. starts (byte text p)) (a.behind.gap ∙ ap (λ (x : List Lexeme). (gap_behind text x).place) a.behind.is) ∙ clear;
      low = λ e.
          let flat : ltb 0 (flow_depth h) ≡ false = scalar_block k (ltb 0 (flow_depth h)) text s.at e (kind_said (ltb 0 (flow_depth h)) text s.at k a.kind) in
          let low = indent_left (keeps k (column_at text s.at)) (open_levels h) in
          let up = rw flat at margin in
          omega (arith, up, low, scalar_keeps k (column_at text s.at) e, a.behind.place.column, a.behind.place.inside);
    }

-- ---- the state after it

pub stores_more : (old new : Scanner) (row : Row) (arena : List ℕ) → Keeps old.row.arena.items arena
    → row_of new.row ≡ record (row_of old.row) { arena = arena }
    → (HasRoom old.row → HasRoom new.row) → new ≡ record old { row = new.row; fault = new.fault } → StoresMore old new
stores_more old new row arena keeps shown room rest = record {
  bytes = keeps.rest;
  row = shown ∙ ap (λ a. record (row_of old.row) { arena = a }) keeps.is;
  room = room;
  rest = rest;
}

pub has_word : (k : Kind) (n : ℕ) (old new : Scanner) (w : Word) (r : Result WordText Wrong)
    → GivesWord new.text.now new.row.arena.items (record { at = old.at; line = old.line; wide = old.wide; ends = n }) (Ok w) r
    → new.at ≡ old.at → word_in k old ≡ r
    → (x : WordText) × (word_in k old ≡ Ok x) × HasWord n new w x
has_word k n old new w (Err e) is at same = absurd is
has_word k n old new w (Ok x) is at same =
    let shows = is.shows new.row.notes.items (stream_of new) in (
      x,
      same,
      record {
        start = is.start ∙ sym at;
        ends = is.ends;
        end = shows.end;
        inside = is.inside;
        plain = shows.plain;
        none = shows.none;
        front = shows.front;
        carries = shows.carries;
        at = is.at;
        broke = is.broke;
        place = is.place;
      },
    )

told_if : (b : Bool) (text : List ℕ) (f : Fault) (w : Wrong) (start : ℕ)
    → (b ≡ true → fault_in text f ≡ scan_fault text (mark_at text start) w)
    → TellsWrong text start (cond b (Some f) None) (Err w)
told_if true text f w start h = h refl
told_if false text f w start h = tt

told_none : (b : Bool) (text : List ℕ) (f : Fault) (start : ℕ) (r : Result WordText Wrong)
    → TellsWrong text start None r
told_none b text f start r = tt

pub tells_wrong : (text arena : List ℕ) (spot : Spot) (start : ℕ) (e : Refusal)
    (r : Result WordText Wrong)
    → start ≤ length text → GivesWord text arena spot (Err e) r → TellsWrong text start (told_by e start (length text)) r
tells_wrong text arena spot start refusals.Memory r inside is = tt
tells_wrong text arena spot start (refusals.Wrong told) (Ok x) inside is = absurd is
tells_wrong text arena spot start (refusals.Wrong told) (Err w) inside is =
    let f : Fault = record { problem = told.problem; context = told.context; start = start; at = told.place } in
    told_if (leb told.place (length text)) text f w start (λ b.
    let low : told.place ≤ length text = grind (arith, nat_tests) in
    ap (λ m. record { problem = told.problem; context = told.context; context_mark = m; problem_mark = place_mark text told.place }) (mark_of_place text start inside)
    ∙ ap (λ m. record { problem = told.problem; context = told.context; context_mark = mark_at text start; problem_mark = m }) (mark_of_place text told.place low)
    ∙ ap (λ (x : Wrong). scan_fault text (mark_at text start) x) is)

-- ---- where words end

directive_there : (text : List ℕ) (p : ℕ) → p < length text
    → LandsWord text p (directed (directive_at text p))
unfolding lexeme_at
directive_there text p f = word_lands reads.Directive false 0 text p refl f

pub directive_lands : (text : List ℕ) (p : ℕ) → byte text p ≡ 37
    → LandsWord text p (directed (directive_at text p))
directive_lands text p e = directive_there text p (within text p (omega (arith, e)))

pub plain_lands : (flow : Bool) (level : ℕ) (text : List ℕ) (p : ℕ) → p < length text
    → LandsWord text p (plainly (plain_at flow level text p))
unfolding lexeme_at
plain_lands flow level text p f = word_lands reads.Plain flow level text p refl f

restyled : (text : List ℕ) (p : ℕ) (s t : yaml_scalar_style_t) (r : Result BlockText Wrong)
    → LandsWord text p (blocked s r) → LandsWord text p (blocked t r)
restyled text p s t (Ok x) h = record { end = h.end; place = h.place; inside = h.inside }
restyled text p s t (Err w) h = tt

block_there : (level : ℕ) (text : List ℕ) (p : ℕ) → p < length text
    → LandsWord text p (blocked (style_at text p) (block_at level text p))
unfolding lexeme_at
block_there level text p f = word_lands reads.Literal false level text p refl f

pub block_lands : (style : yaml_scalar_style_t) (level : ℕ) (text : List ℕ) (p : ℕ)
    → IsMarkedBy style (byte text p)
    → LandsWord text p (blocked style (block_at level text p))
block_lands style level text p mark =
    let some : 0 < byte text p = elim mark [ inl (e, b) ↦ omega (arith, b) | inr (e, b) ↦ omega (arith, b) ] in
    restyled text p (style_at text p) style (block_at level text p) (block_there level text p (within text p some))

-- ---- what its first byte is

pub told : (k : Kind) (flow : Bool) (level : ℕ) (text : List ℕ) (spot : Spot)
    → StandsThere k flow level text spot → Tells text spot.at k
told k flow level text spot s = kind_told flow text spot.at k s.kind

-- likewise for a kind that it was found to be
pub at_kind : (k m : Kind) (flow : Bool) (level : ℕ) (text : List ℕ) (spot : Spot) → m ≡ k
    → StandsThere m flow level text spot → Tells text spot.at k
at_kind k m flow level text spot e s = told k flow level text spot (subst (λ x. StandsThere x flow level text spot) e s)

pub at_plain : (m : Kind) (flow : Bool) (level : ℕ) (text : List ℕ) (spot : Spot) → m ≡ reads.Plain
    → StandsThere m flow level text spot → IsWord text spot.at
at_plain m flow level text spot e s =
    plain_word flow text spot.at (s.kind ∙ ap (λ x. Some x) e) s.here.place.whole s.first

pub style_bar : (text : List ℕ) (p : ℕ) → byte text p ≡ 124
    → style_at text p ≡ styles.YAML_LITERAL_SCALAR_STYLE
style_bar text p e = rw e refl

pub style_greater : (text : List ℕ) (p : ℕ) → byte text p ≡ 62
    → style_at text p ≡ styles.YAML_FOLDED_SCALAR_STYLE
style_greater text p e = rw e refl

-- ---- which word it is

pub alias_word : (flow : Bool) (level : ℕ) (text : List ℕ) (p : ℕ)
    → lexeme_at reads.Alias flow level text p
    ≡ valued tokens.alias (anchor_at contexts.Alias text p)
unfolding lexeme_at
alias_word flow level text p = refl

pub anchor_word : (flow : Bool) (level : ℕ) (text : List ℕ) (p : ℕ)
    → lexeme_at reads.Anchor flow level text p
    ≡ valued tokens.anchor (anchor_at contexts.Anchor text p)
unfolding lexeme_at
anchor_word flow level text p = refl

pub tag_word : (flow : Bool) (level : ℕ) (text : List ℕ) (p : ℕ)
    → lexeme_at reads.Tag flow level text p ≡ tagged (tag_at flow text p)
unfolding lexeme_at
tag_word flow level text p = refl

pub directive_word : (flow : Bool) (level : ℕ) (text : List ℕ) (p : ℕ)
    → lexeme_at reads.Directive flow level text p ≡ directed (directive_at text p)
unfolding lexeme_at
directive_word flow level text p = refl

pub plain_read : (flow : Bool) (level : ℕ) (text : List ℕ) (p : ℕ)
    → lexeme_at reads.Plain flow level text p ≡ plainly (plain_at flow level text p)
unfolding lexeme_at
plain_read flow level text p = refl

pub single_word : (flow : Bool) (level : ℕ) (text : List ℕ) (p : ℕ) → byte text p ≡ 39
    → lexeme_at reads.SingleQuoted flow level text p
    ≡ valued (scalar_body styles.YAML_SINGLE_QUOTED_SCALAR_STYLE)
    (quoted_at (byte text p) text p)
unfolding lexeme_at
single_word flow level text p e = ap (λ q. valued (scalar_body styles.YAML_SINGLE_QUOTED_SCALAR_STYLE) (quoted_at q text p)) (sym e)

pub double_word : (flow : Bool) (level : ℕ) (text : List ℕ) (p : ℕ) → byte text p ≡ 34
    → lexeme_at reads.DoubleQuoted flow level text p
    ≡ valued (scalar_body styles.YAML_DOUBLE_QUOTED_SCALAR_STYLE)
    (quoted_at (byte text p) text p)
unfolding lexeme_at
double_word flow level text p e = ap (λ q. valued (scalar_body styles.YAML_DOUBLE_QUOTED_SCALAR_STYLE) (quoted_at q text p)) (sym e)

pub literal_word : (flow : Bool) (level : ℕ) (text : List ℕ) (p : ℕ) → byte text p ≡ 124
    → lexeme_at reads.Literal flow level text p
    ≡ blocked styles.YAML_LITERAL_SCALAR_STYLE (block_at level text p)
unfolding lexeme_at
literal_word flow level text p e = ap (λ s. blocked s (block_at level text p)) (style_bar text p e)

pub folded_word : (flow : Bool) (level : ℕ) (text : List ℕ) (p : ℕ) → byte text p ≡ 62
    → lexeme_at reads.Folded flow level text p
    ≡ blocked styles.YAML_FOLDED_SCALAR_STYLE (block_at level text p)
unfolding lexeme_at
folded_word flow level text p e = ap (λ s. blocked s (block_at level text p)) (style_greater text p e)
