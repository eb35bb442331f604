-- Scalars that are one word.
use Rattle.std.proofs.Common.{◌≡◌, ◌≢◌, ℕ, zero, suc, ◌+◌, ◌-◌, ◌<◌, ◌≤◌, List, [], ◌∷◌, ◌++◌, length, get_or, bit_and, Bool, true, false, refl, sym, subst, ◌∙◌, ap, arith, append-nil, inl, inr}
use Rattle.std.specs.Prelude.{not, ◌==◌, ◌||◌, ◌&&◌, nat_le}
use Rattle.std.specs.Str.{chars, IsAscii}
use Rattle.std.proofs.Math.Seq.{take-length}
use Rattle.std.proofs.lemmas.Bool.{and_parts, false≢true, eqb-true, eq-eqb, ne_eqb, cases_lt}
use Rattle.std.proofs.lemmas.List.{get_or_past}
use Rattle.std.proofs.lemmas.Str.{chars-IsAscii}
use Rattle.yaml_emit_layout.specs.declared.cursor.Cursor.{Cursor}
use Rattle.yaml_emit_layout.specs.Text.{Item, letter, is_break}
use Rattle.yaml_emit_layout.specs.Layout.{Layout, Rest, ◌▹◌, stay, when, char, letters, gap, word, after_text, line}
use Rattle.yaml_emit_layout.specs.declared.page.Page.{Page}
use Rattle.yaml_emit_layout.specs.Quoted.{is_empty, quoted_body, quoted_text}
use Rattle.yaml_emit_layout.specs.Runs.{all_pass}
use Rattle.yaml_emit_layout.specs.Scalars.{flow_body, plain, single_quoted, scalar_text}
use Rattle.yaml_emit_layout.specs.declared.page.Style.{Style}
use Rattle.yaml_emit_layout.specs.declared.page.Style.TheVariants as style
use Rattle.yaml_emit_layout.proofs.Bools.{bool_cases}
use Rattle.yaml_emit_layout.specs.Style.{last_or}
use Rattle.yaml_emit_output.specs.Draft.{Page as Paper, Lays}
use Rattle.yaml_emit_output.specs.Placed.{sign_bytes, mark_bytes}
use Rattle.yaml_emit_scalars.specs.Classes.{Covers}
use Rattle.yaml_emit_scalars.specs.Runs.{IsRun, is_word, stands, stops, goes_on, quoted_in, flow_in, quote_of}
use Rattle.yaml_emit_scalars.specs.declared.run.Body.{Body}
use Rattle.yaml_emit_scalars.specs.declared.run.Body.TheVariants.{Open}
use Rattle.yaml_emit_scalars.proofs.ClassLemmas.{covers_none}
use Rattle.yaml_emit_scalars.proofs.LaysLemmas.{lays_is}
use Rattle.yaml_emit_scalars.proofs.Leads.{stands_unbroken}
use Rattle.yaml_emit_scalars.proofs.RunLemmas.{pass_all, goes_free, class_low, class_stands, class_spaceless}
use Rattle.yaml_emit_scalars.proofs.RunWalks.{quoted_runs, flow_runs}

passes : (test : ℕ → ℕ → Bool) (k : ℕ) (xs : List ℕ)
    → ((i : ℕ) → i < length xs → test (k + i) (get_or xs i 0) ≡ true) → all_pass test k xs ≡ true
passes test k xs h = ap (all_pass test k) (sym (take-length xs)) ∙ pass_all test k (length xs) xs (omega arith) h

ascii_all : (xs : List ℕ) → ((i : ℕ) → i < length xs → get_or xs i 0 < 128) → IsAscii xs
ascii_all xs h i = elim (cases_lt i (length xs)) [ inl less ↦ h i less | inr more ↦ let e = get_or_past xs i 0 more in omega (arith, e) ]

-- bytes of no class that ends a run, at columns that are free where one is a space
class_run : (body : Body) (cuts : Bool) (width column classes : ℕ) (text : List ℕ)
    → Covers classes text 0 (length text) → bit_and classes (stops body) ≡ 0
    → ((i k : ℕ) → i < length text → k ≤ column + 8 → (get_or text i 0 == 32) ≡ true → cuts ≡ true → k + i ≤ width) → IsRun body cuts width column text
class_run body cuts width column classes text h n free =
    let none = covers_none classes (stops body) text 0 (length text) h n in
    record {
      ascii = ascii_all text (λ i u. class_low body (get_or text i 0) (none i (omega arith) u));
      pass = λ k l. passes (goes_on body cuts width) k text (λ i u. goes_free body cuts width (k + i) (get_or text i 0) (class_stands body (get_or text i 0) (none i (omega arith) u)) (free i k u l));
    }

-- where no line is broken
pub run_uncut : (body : Body) (cuts : Bool) (width column classes : ℕ) (text : List ℕ)
    → Covers classes text 0 (length text) → bit_and classes (stops body) ≡ 0
    → cuts ≡ false → IsRun body cuts width column text
run_uncut body cuts width column classes text h n e = class_run body cuts width column classes text h n (λ i k u l t c. absurd (false≢true (sym e ∙ c)))

-- without a space
pub run_unspaced : (body : Body) (cuts : Bool) (width column classes : ℕ) (text : List ℕ)
    → Covers classes text 0 (length text) → bit_and classes (stops body) ≡ 0
    → bit_and classes 1 ≡ 0 → IsRun body cuts width column text
run_unspaced body cuts width column classes text h n s =
    class_run body cuts width column classes text h n
    (λ i k u l t c. absurd (false≢true (sym (class_spaceless (get_or text i 0) (covers_none classes 1 text 0 (length text) h s i (omega arith) u)) ∙ t)))

-- up to the width
pub run_fits : (body : Body) (cuts : Bool) (width column classes : ℕ) (text : List ℕ)
    → Covers classes text 0 (length text) → bit_and classes (stops body) ≡ 0
    → length text + 8 ≤ width - column → IsRun body cuts width column text
run_fits body cuts width column classes text h n f = class_run body cuts width column classes text h n (λ i k u l t c. omega (arith, f, l, u))

-- what is put as one word
pub word_ended : (body : Body) (cuts : Bool) (classes count left : ℕ)
    → bit_and classes (stops body) ≢ 0 → false ≡ is_word body cuts classes count left
word_ended body cuts classes count left h = sym (ap (λ z. z && (not cuts || (bit_and classes 1 == 0 || nat_le (count + 8) left))) (ne_eqb (bit_and classes (stops body)) 0 h))

word_unended : (body : Body) (cuts : Bool) (classes count left : ℕ)
    → bit_and classes (stops body) ≡ 0 → is_word body cuts classes count left
    ≡ (not cuts || (bit_and classes 1 == 0 || nat_le (count + 8) left))
word_unended body cuts classes count left h = ap (λ z. z && (not cuts || (bit_and classes 1 == 0 || nat_le (count + 8) left))) (eq-eqb (bit_and classes (stops body)) 0 h)

pub word_uncut : (body : Body) (cuts : Bool) (classes count left : ℕ)
    → bit_and classes (stops body) ≡ 0
    → cuts ≡ false → true ≡ is_word body cuts classes count left
word_uncut body cuts classes count left h e = sym (word_unended body cuts classes count left h ∙ ap (λ z. not z || (bit_and classes 1 == 0 || nat_le (count + 8) left)) e)

pub word_unspaced : (body : Body) (cuts : Bool) (classes count left : ℕ)
    → bit_and classes (stops body) ≡ 0
    → cuts ≡ true → bit_and classes 1 ≡ 0 → true ≡ is_word body cuts classes count left
word_unspaced body cuts classes count left h e s = sym (word_unended body cuts classes count left h ∙ (ap (λ z. not z || (bit_and classes 1 == 0 || nat_le (count + 8) left)) e
    ∙ ap (λ z. z || nat_le (count + 8) left) (eq-eqb (bit_and classes 1) 0 s)))

pub word_spaced : (body : Body) (cuts : Bool) (classes count left : ℕ)
    → bit_and classes (stops body) ≡ 0
    → cuts ≡ true → bit_and classes 1 ≢ 0 → nat_le (count + 8) left ≡ is_word body cuts classes count left
word_spaced body cuts classes count left h e s = sym (word_unended body cuts classes count left h ∙ (ap (λ z. not z || (bit_and classes 1 == 0 || nat_le (count + 8) left)) e
    ∙ ap (λ z. z || nat_le (count + 8) left) (ne_eqb (bit_and classes 1) 0 s)))

run_ends : (body : Body) (cuts : Bool) (width k before : ℕ) (bs : List ℕ) → is_break before ≡ false
    → all_pass (goes_on body cuts width) k bs ≡ true
    → is_break (last_or before bs) ≡ false
unfolding last_or all_pass
run_ends body cuts width k before [] g h = g
run_ends body cuts width k before (b ∷ bs) g h =
    let (t, u) = and_parts (goes_on body cuts width k b) _ h in
    run_ends body cuts width (k + 1) b bs (stands_unbroken body b (and_parts (stands body b) _ t).0) u

ends_there : (page : Page) (quote : Bool) (before : ℕ) → is_break before ≡ false
    → flow_body page quote before [] ≡ stay
unfolding flow_body
ends_there page quote before h = ap (λ v. when v (line page.line_break page.indentation)) h

quoted_there : (page : Page) (before : ℕ) → quoted_body page before [] ≡ stay
unfolding quoted_body
quoted_there page before = refl

-- a run is put as it is
pub flow_whole : (page : Page) (quote : Bool) (v : List ℕ) (c : Cursor) (rest : Rest) → IsAscii v
    → all_pass (goes_on (flow_in quote) page.cuts page.width) c.column v ≡ true → letters v c rest ≡ flow_body page quote 32 (chars v) c rest
flow_whole page quote v c rest a h =
    let same = chars-IsAscii v a in
    sym (ap (λ (z : List ℕ). flow_body page quote 32 z c rest) (same ∙ sym (append-nil v))
    ∙ flow_runs page quote (flow_in quote) 32 page.width refl refl refl v [] c rest h
    ∙ ap (λ (z : Layout). letters v c (λ d. z d rest)) (ends_there page quote (last_or 32 v) (run_ends (flow_in quote) page.cuts page.width c.column 32 v refl h)))

pub quoted_whole : (page : Page) (v : List ℕ) (c : Cursor) (rest : Rest) → IsAscii v
    → all_pass (goes_on (quoted_in page.unicode) page.cuts page.width) c.column v ≡ true → letters v c rest ≡ quoted_body page 32 (chars v) c rest
quoted_whole page v c rest a h =
    let same = chars-IsAscii v a in
    sym (ap (λ (z : List ℕ). quoted_body page 32 z c rest) (same ∙ sym (append-nil v))
    ∙ quoted_runs page (quoted_in page.unicode) 32 page.width refl refl v [] c rest h
    ∙ ap (λ (z : Layout). letters v c (λ d. z d rest)) (quoted_there page (last_or 32 v)))

-- after a space that is due
gap_at : (k : ℕ) (white bare kept : Bool) (x y : Layout) (rest : Rest)
    → ((d : Cursor) → d.column ≤ k + 1 → x d rest ≡ y d rest)
    → (gap ▹ x) (record { column = k; white = white; bare = bare; kept = kept }) rest ≡ (gap ▹ y) (record { column = k; white = white; bare = bare; kept = kept }) rest
gap_at k true bare kept x y rest f = f (record { column = k; white = true; bare = bare; kept = kept }) (omega arith)
gap_at k false bare kept x y rest f = ap (λ (t : List Item). letter 32 ∷ t) (f (record { column = k + 1; white = true; bare = bare; kept = kept }) (omega arith))

pub behind_gap : (x y : Layout) (rest : Rest) (c : Cursor)
    → ((d : Cursor) → d.column ≤ c.column + 1 → x d rest ≡ y d rest)
    → (gap ▹ x) c rest ≡ (gap ▹ y) c rest
behind_gap x y rest c f = gap_at c.column c.white c.bare c.kept x y rest f

pub behind_mark : (marked : Bool) (x y : Layout) (rest : Rest) (c : Cursor)
    → ((d : Cursor) → d.column ≤ c.column + 2 → x d rest ≡ y d rest)
    → (when marked (word (33 ∷ [])) ▹ x) c rest ≡ (when marked (word (33 ∷ [])) ▹ y) c rest
unfolding letters
behind_mark true x y rest c f = behind_gap (char 33 ▹ x) (char 33 ▹ y) rest c (λ d l. ap (λ (t : List Item). letter 33 ∷ t) (f (record { column = d.column + 1; white = false; bare = false; kept = d.kept }) (omega (arith, l))))
behind_mark false x y rest c f = f c (omega arith)

-- a plain word
pub plain_lays : (page : Page) (flow : Bool) (a b : Paper) (v : List ℕ)
    → (flow || not (is_empty (chars v))) ≡ true
    → IsRun Open page.cuts page.width a.output.cursor.column v
    → Lays a b (gap ▹ (letters ((([] ++ []) ++ v) ++ []) ▹ after_text)) stay → Lays a b (plain page flow (chars v)) stay
plain_lays page flow a b v due run p =
    let c = a.output.cursor in
    let P : Bool → Type 0 = λ t. Lays a b (when t gap ▹ (flow_body page false 32 (chars v) ▹ after_text)) stay in
    let whole : ([] ++ v) ++ [] ≡ v = append-nil v in
    subst P (sym due) (lays_is a b (gap ▹ (letters ((([] ++ []) ++ v) ++ []) ▹ after_text)) (gap ▹ (flow_body page false 32 (chars v) ▹ after_text))
    (λ rest. behind_gap (flow_body page false 32 (chars v) ▹ after_text) (letters ((([] ++ []) ++ v) ++ []) ▹ after_text) rest c
    (λ d l. sym (ap (λ (z : List ℕ). letters z d (λ e. after_text e rest)) whole ∙ flow_whole page false v d (λ e. after_text e rest) run.ascii (run.pass d.column (omega (arith, l)))))) p)

-- an empty one
pub empty_lays : (page : Page) (flow : Bool) (a b : Paper) (v : List ℕ) → length v ≡ 0
    → flow ≡ false
    → Lays a b after_text stay → Lays a b (plain page flow (chars v)) stay
unfolding flow_body chars
empty_lays page flow a b [] l f p =
    let P : Bool → Type 0 = λ z. Lays a b (plain page z (chars [])) stay in
    subst P (sym f) p
empty_lays page flow a b (x ∷ xs) l f p = absurd (omega (arith, l))

-- what is between quotes
letters_quoted : (q : ℕ) (v : List ℕ) (c : Cursor) (rest : Rest)
    → letters (v ++ q ∷ []) c (λ e. after_text e rest) ≡ letters v c (λ e. char q e rest)
unfolding letters
letters_quoted q [] c rest = refl
letters_quoted q (x ∷ xs) c rest = ap (λ (t : List Item). letter x ∷ t) (letters_quoted q xs (record { column = c.column + 1; white = false; bare = false; kept = c.kept }) rest)

quotes : (marked : Bool) (q : ℕ) (v : List ℕ) (c : Cursor) (rest : Rest)
    → (when marked (word (33 ∷ [])) ▹ (gap ▹ (char (suc q) ▹ (letters v ▹ char (suc q))))) c rest
    ≡ (gap ▹ (letters (((sign_bytes marked ++ mark_bytes (suc q)) ++ v) ++ mark_bytes (suc q)) ▹ after_text)) c rest
unfolding letters
quotes true q v c rest =
    behind_gap (char 33 ▹ (gap ▹ (char (suc q) ▹ (letters v ▹ char (suc q))))) (letters (33 ∷ 32 ∷ suc q ∷ (v ++ suc q ∷ [])) ▹ after_text) rest c
    (λ d l. ap (λ (t : List Item). letter 33 ∷ letter 32 ∷ letter (suc q) ∷ t) (sym (letters_quoted (suc q) v (record { column = d.column + 1 + 1 + 1; white = false; bare = false; kept = d.kept }) rest)))
quotes false q v c rest =
    behind_gap (char (suc q) ▹ (letters v ▹ char (suc q))) (letters (suc q ∷ (v ++ suc q ∷ [])) ▹ after_text) rest c
    (λ d l. ap (λ (t : List Item). letter (suc q) ∷ t) (sym (letters_quoted (suc q) v (record { column = d.column + 1; white = false; bare = false; kept = d.kept }) rest)))

pub quotes_lay : (marked : Bool) (q : ℕ) (a b : Paper) (v : List ℕ) → 0 < q
    → Lays a b (gap ▹ (letters (((sign_bytes marked ++ mark_bytes q) ++ v) ++ mark_bytes q) ▹ after_text)) stay
    → Lays a b (when marked (word (33 ∷ [])) ▹ (gap ▹ (char q ▹ (letters v ▹ char q)))) stay
quotes_lay marked zero a b v l p = absurd (omega (arith, l))
quotes_lay marked (suc q) a b v l p = lays_is a b _ (when marked (word (33 ∷ [])) ▹ (gap ▹ (char (suc q) ▹ (letters v ▹ char (suc q))))) (λ rest. quotes marked q v a.output.cursor rest) p

within : (marked : Bool) (q : ℕ) (x y : Layout) (c : Cursor) (rest : Rest)
    → ((d : Cursor) (r : Rest) → d.column ≤ c.column + 8 → x d r ≡ y d r)
    → (when marked (word (33 ∷ [])) ▹ (gap ▹ (char q ▹ (x ▹ char q)))) c rest ≡ (when marked (word (33 ∷ [])) ▹ (gap ▹ (char q ▹ (y ▹ char q)))) c rest
within marked q x y c rest f =
    behind_mark marked (gap ▹ (char q ▹ (x ▹ char q))) (gap ▹ (char q ▹ (y ▹ char q))) rest c
    (λ d l. behind_gap (char q ▹ (x ▹ char q)) (char q ▹ (y ▹ char q)) rest d
    (λ e m. ap (λ (t : List Item). letter q ∷ t) (f (record { column = e.column + 1; white = false; bare = false; kept = e.kept }) (λ g. char q g rest) (omega (arith, l, m)))))

pub single_lays : (page : Page) (marked : Bool) (a b : Paper) (v : List ℕ)
    → IsRun (flow_in true) page.cuts page.width a.output.cursor.column v
    → Lays a b (when marked (word (33 ∷ [])) ▹ (gap ▹ (char 39 ▹ (letters v ▹ char 39)))) stay
    → Lays a b (when marked (word (33 ∷ [])) ▹ single_quoted page (chars v)) stay
single_lays page marked a b v run p =
    lays_is a b (when marked (word (33 ∷ [])) ▹ (gap ▹ (char 39 ▹ (letters v ▹ char 39)))) (when marked (word (33 ∷ [])) ▹ single_quoted page (chars v))
    (λ rest. sym (within marked 39 (letters v) (flow_body page true 32 (chars v)) a.output.cursor rest (λ d r l. flow_whole page true v d r run.ascii (run.pass d.column l)))) p

pub double_lays : (page : Page) (marked : Bool) (a b : Paper) (v : List ℕ)
    → IsRun (quoted_in page.unicode) page.cuts page.width a.output.cursor.column v
    → Lays a b (when marked (word (33 ∷ [])) ▹ (gap ▹ (char 34 ▹ (letters v ▹ char 34)))) stay
    → Lays a b (when marked (word (33 ∷ [])) ▹ quoted_text page (chars v)) stay
double_lays page marked a b v run p =
    lays_is a b (when marked (word (33 ∷ [])) ▹ (gap ▹ (char 34 ▹ (letters v ▹ char 34)))) (when marked (word (33 ∷ [])) ▹ quoted_text page (chars v))
    (λ rest. sym (within marked 34 (letters v) (quoted_body page 32 (chars v)) a.output.cursor rest (λ d r l. quoted_whole page v d r run.ascii (run.pass d.column l)))) p

pub run_width : (body other : Body) (cuts : Bool) (w p column : ℕ) (v : List ℕ) → body ≡ other
    → w ≡ p → IsRun body cuts w column v → IsRun other cuts p column v
run_width body other cuts w p column v q e h = subst (λ z. IsRun other cuts z column v) e (subst (λ z. IsRun z cuts w column v) q h)

some_letters : (flow : Bool) (v : List ℕ) → (flow || not (length v == 0)) ≡ true
    → (flow || not (is_empty v)) ≡ true
some_letters true v h = refl
some_letters false [] h = h
some_letters false (x ∷ xs) h = refl

pub due_letters : (flow : Bool) (v : List ℕ) → IsAscii v
    → (flow || not (length v == 0)) ≡ true → (flow || not (is_empty (chars v))) ≡ true
due_letters flow v a d =
    ap (λ (z : List ℕ). flow || not (is_empty z)) (chars-IsAscii v a) ∙ some_letters flow v d

none_left : (flow : Bool) (n : ℕ) → (flow || not (n == 0)) ≡ false → (n ≡ 0) × (flow ≡ false)
none_left true n h = absurd (cc)
none_left false n h = bool_cases (n == 0) (λ t. (eqb-true n 0 t, refl)) (λ f. absurd (cc (ap not f)))

pub nothing_lays : (page : Page) (flow : Bool) (a b : Paper) (v : List ℕ)
    → (flow || not (length v == 0)) ≡ false
    → Lays a b after_text stay → Lays a b (plain page flow (chars v)) stay
nothing_lays page flow a b v h p = let n = none_left flow (length v) h in empty_lays page flow a b v n.0 n.1 p

-- by the style

pub as_plain : (page : Page) (digit : ℕ) (flow : Bool) (s : Style) (marked : Bool) (a b : Paper)
    (cs : List ℕ) → s ≡ style.Plain → (marked ≡ true → s ≢ style.Plain)
    → Lays a b (plain page flow cs) stay → Lays a b (when marked (word (33 ∷ [])) ▹ scalar_text page digit flow s cs) stay
unfolding scalar_text
as_plain page digit flow s true a b cs e n p = absurd (n refl e)
as_plain page digit flow s false a b cs e n p = let P : Style → Type 0 = λ z. Lays a b (scalar_text page digit flow z cs) stay in subst P (sym e) p

pub as_single : (page : Page) (digit : ℕ) (flow : Bool) (s : Style) (marked : Bool) (a b : Paper)
    (v : List ℕ) → s ≡ style.Single
    → a.width ≡ page.width → IsRun (flow_in true) page.cuts a.width a.output.cursor.column v
    → Lays a b (when marked (word (33 ∷ [])) ▹ (gap ▹ (char 39 ▹ (letters v ▹ char 39)))) stay
    → Lays a b (when marked (word (33 ∷ [])) ▹ scalar_text page digit flow s (chars v)) stay
unfolding scalar_text
as_single page digit flow s marked a b v e w run p =
    let P : Style → Type 0 = λ z. Lays a b (when marked (word (33 ∷ [])) ▹ scalar_text page digit flow z (chars v)) stay in
    subst P (sym e) (single_lays page marked a b v (run_width (flow_in true) (flow_in true) page.cuts a.width page.width a.output.cursor.column v refl w run) p)

double_quote : (unicode : Bool) → quote_of (quoted_in unicode) ≡ 34
double_quote true = refl
double_quote false = refl

pub as_double : (page : Page) (digit : ℕ) (flow : Bool) (s : Style) (marked : Bool) (a b : Paper)
    (body : Body) (v : List ℕ) → s ≡ style.Double
    → body ≡ quoted_in page.unicode → a.width ≡ page.width → IsRun body page.cuts a.width a.output.cursor.column v
    → Lays a b (when marked (word (33 ∷ [])) ▹ (gap ▹ (char (quote_of body) ▹ (letters v ▹ char (quote_of body))))) stay
    → Lays a b (when marked (word (33 ∷ [])) ▹ scalar_text page digit flow s (chars v)) stay
unfolding scalar_text
as_double page digit flow s marked a b body v e q w run p =
    let P : Style → Type 0 = λ z. Lays a b (when marked (word (33 ∷ [])) ▹ scalar_text page digit flow z (chars v)) stay in
    let Q : ℕ → Type 0 = λ z. Lays a b (when marked (word (33 ∷ [])) ▹ (gap ▹ (char z ▹ (letters v ▹ char z)))) stay in
    subst P (sym e) (double_lays page marked a b v (run_width body (quoted_in page.unicode) page.cuts a.width page.width a.output.cursor.column v q w run) (subst Q (ap quote_of q ∙ double_quote page.unicode) p))
