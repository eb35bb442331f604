-- Runs of a value, which are written as they are.
use Rattle.std.proofs.Common.{◌≡◌, ℕ, ◌+◌, List, [], ◌∷◌, ◌++◌, Bool, true, false, cond, refl, ◌∙◌, ap}
use Rattle.std.specs.Prelude.{not, nat_lt, nat_le, ◌==◌, ◌||◌, ◌&&◌}
use Rattle.std.proofs.lemmas.Bool.{and_parts, not-true, le-ltb, leb-true}
use Rattle.yaml_emit_layout.specs.declared.cursor.Cursor.{Cursor}
use Rattle.yaml_emit_layout.specs.Text.{letter, is_break}
use Rattle.yaml_emit_layout.specs.Layout.{Layout, Rest, ◌▹◌, stay, when, char, letters, new_line, line}
use Rattle.yaml_emit_layout.specs.declared.page.Page.{Page}
use Rattle.yaml_emit_layout.specs.Quoted.{needs_escape, may_fold, quoted_body}
use Rattle.yaml_emit_layout.specs.Scalars.{value_break, cuts_at, text_char, flow_char, flow_body, adds_break, cuts_block, line_blank, block_text, block_char, block_body}
use Rattle.yaml_emit_layout.specs.Style.{last_or}
use Rattle.yaml_emit_layout.specs.Runs.{all_pass}
use Rattle.yaml_emit_layout.proofs.Bools.{bool_cases}
use Rattle.yaml_emit_layout.proofs.Escapes.{char_is}
use Rattle.yaml_emit_output.specs.Draft.{Page as Paper, Lays}
use Rattle.yaml_emit_scalars.specs.Runs.{stands, goes_on, quoted_in, flow_in, KeepsRuns}
use Rattle.yaml_emit_scalars.specs.declared.run.Body.{Body}
use Rattle.yaml_emit_scalars.specs.declared.run.Body.TheVariants.{Open}
use Rattle.yaml_emit_scalars.proofs.LaysLemmas.{lays_as}
use Rattle.yaml_emit_scalars.proofs.Leads.{stands_unbroken}

-- Any walk: where each byte that goes on is written as it is, all of them are.
run_walk : (test : ℕ → ℕ → Bool) (body : ℕ → List ℕ → Layout) (behind : ℕ → Type 0)
    → ((before b : ℕ) (ys : List ℕ) (c : Cursor) (rest : Rest) → behind before
    → test c.column b ≡ true → body before (b ∷ ys) c rest ≡ char b c (λ d. body b ys d rest))
    → ((k b : ℕ) → test k b ≡ true → behind b)
    → (before : ℕ) → behind before → KeepsRuns test body before
unfolding letters last_or all_pass
run_walk test body behind step more before g [] xs c rest h = refl
run_walk test body behind step more before g (b ∷ bs) xs c rest h =
    let (t, u) = and_parts (test c.column b) (all_pass test (c.column + 1) bs) h in
    step before b (bs ++ xs) c rest g t
    ∙ ap (λ t. letter b ∷ t) (run_walk test body behind step more b (more c.column b t) bs xs (record { column = c.column + 1; white = false; bare = false; kept = c.kept }) rest u)

-- a run is written, by a walk
pub run_put : (test : ℕ → ℕ → Bool) (body : ℕ → List ℕ → Layout) (a b : Paper)
    (before last : ℕ) (bs xs text : List ℕ) → KeepsRuns test body before
    → all_pass test a.output.cursor.column bs ≡ true → text ≡ bs ++ xs → last ≡ last_or before bs
    → Lays a b (letters bs) stay → Lays a b (body before text) (body last xs)
run_put test body a b before last bs xs text k h t l w =
    rw (t, l) (lays_as a b (body before (bs ++ xs)) (letters bs) (body (last_or before bs) xs) (λ rest. k bs xs a.output.cursor rest h) w)

-- a space that may be cut is not past the width
space_stays : (s cuts : Bool) (width k : ℕ) → (not s || (not cuts || nat_le k width)) ≡ true
    → s ≡ true → cuts ≡ true → nat_lt width k ≡ false
space_stays true true width k h p q = le-ltb width k (leb-true k width h)
space_stays true false width k h p q = absurd (cc)
space_stays false cuts width k h p q = absurd (cc)

stands_quoted : (unicode : Bool) (b : ℕ) → stands (quoted_in unicode) b ≡ true
    → needs_escape unicode b ≡ false
stands_quoted true b h = not-true _ h
stands_quoted false b h = not-true _ h

quoted_step : (page : Page) (before b : ℕ) (ys : List ℕ) (c : Cursor) (rest : Rest)
    → goes_on (quoted_in page.unicode) page.cuts page.width c.column b ≡ true
    → quoted_body page before (b ∷ ys) c rest ≡ char b c (λ d. quoted_body page b ys d rest)
unfolding quoted_body
quoted_step page before b ys c rest h =
    let (s, space) = and_parts (stands (quoted_in page.unicode) b) _ h in
    let next : Rest = λ d. quoted_body page b ys d rest in
    let folds : may_fold page before b ys ≡ true → nat_lt page.width c.column ≡ false = λ m. space_stays (b == 32) page.cuts page.width c.column space (and_parts (b == 32) _ (and_parts page.cuts _ m).1).0 (and_parts page.cuts _ m).0 in
    bool_cases (may_fold page before b ys)
    (λ m. char_is page before b ys c next true false _ m (folds m) refl)
    (λ m. char_is page before b ys c next false _ false m refl (stands_quoted page.unicode b s))

pub quoted_runs : (page : Page) (body : Body) (before width : ℕ) → body ≡ quoted_in page.unicode
    → width ≡ page.width → KeepsRuns (goes_on body page.cuts width) (quoted_body page) before
quoted_runs page body before width q e =
    rw (q, e) (run_walk (goes_on (quoted_in page.unicode) page.cuts page.width) (quoted_body page) (λ _. true ≡ true) (λ before b ys c rest _ h. quoted_step page before b ys c rest h) (λ k b h. refl) before refl)

run_unbroken : (body : Body) (cuts : Bool) (width k b : ℕ) → goes_on body cuts width k b ≡ true
    → is_break b ≡ false
run_unbroken body cuts width k b h = stands_unbroken body b (and_parts (stands body b) _ h).0

unquoted : (quote : Bool) (b : ℕ) → stands (flow_in quote) b ≡ true → (quote && b == 39) ≡ false
unquoted true b h = not-true _ (and_parts (not (is_break b)) _ h).1
unquoted false b h = refl

flow_step : (page : Page) (quote : Bool) (before b : ℕ) (ys : List ℕ) (c : Cursor) (rest : Rest)
    → is_break before ≡ false → goes_on (flow_in quote) page.cuts page.width c.column b ≡ true
    → flow_body page quote before (b ∷ ys) c rest ≡ char b c (λ d. flow_body page quote b ys d rest)
unfolding flow_body flow_char
flow_step page quote before b ys c rest g h =
    let (s, space) = and_parts (stands (flow_in quote) b) _ h in
    let next : Rest = λ d. flow_body page quote b ys d rest in
    let text = text_char page quote (cuts_at page before b ys) b in
    let broken = when (b == 10 && not (is_break before)) (new_line page.line_break) ▹ value_break page.line_break b in
    let lined = line page.line_break page.indentation in
    let cuts : cuts_at page before b ys ≡ true → nat_lt page.width c.column ≡ false = λ m. space_stays (b == 32) page.cuts page.width c.column space (and_parts (b == 32) _ (and_parts page.cuts _ m).1).0 (and_parts page.cuts _ m).0 in
    ap (λ v. (cond v broken (when (is_break before) lined ▹ text)) c next) (stands_unbroken (flow_in quote) b s) ∙ ap (λ v. (when v lined ▹ text) c next) g
    ∙ bool_cases (cuts_at page before b ys)
    (λ m. ap (λ v. text_char page quote v b c next) m ∙ ap (λ v. cond v (lined c next) (char b c next)) (cuts m))
    (λ m. ap (λ v. text_char page quote v b c next) m ∙ ap (λ v. (when v (char 39) ▹ char b) c next) (unquoted quote b s))

pub flow_runs : (page : Page) (quote : Bool) (body : Body) (before width : ℕ)
    → body ≡ flow_in quote → width ≡ page.width → is_break before ≡ false
    → KeepsRuns (goes_on body page.cuts width) (flow_body page quote) before
flow_runs page quote body before width e w g =
    rw (e, w) (run_walk (goes_on (flow_in quote) page.cuts page.width) (flow_body page quote) (λ b. is_break b ≡ false) (flow_step page quote) (λ k b h. run_unbroken (flow_in quote) page.cuts page.width k b h) before g)

block_step : (page : Page) (folded blank : Bool) (before b : ℕ) (ys : List ℕ) (c : Cursor)
    (rest : Rest) → is_break before ≡ false → goes_on Open folded page.width c.column b ≡ true
    → block_body page folded blank before (b ∷ ys) c rest
    ≡ char b c (λ d. block_body page folded blank b ys d rest)
unfolding block_body block_char
block_step page folded blank before b ys c rest g h =
    let (s, space) = and_parts (stands Open b) _ h in
    let unbroken = stands_unbroken Open b s in
    let next : Bool → Rest = λ v d. block_body page folded v b ys d rest in
    let after = next (line_blank blank before b) in
    let text = block_text page (cuts_block folded blank before b ys) b in
    let broken = when (adds_break folded blank before b ys) (new_line page.line_break) ▹ value_break page.line_break b in
    let lined = line page.line_break page.indentation in
    let cuts : cuts_block folded blank before b ys ≡ true → nat_lt page.width c.column ≡ false = λ m. space_stays (b == 32) folded page.width c.column space (and_parts (b == 32) _ (and_parts folded _ m).1).0 (and_parts folded _ m).0 in
    let stays : line_blank blank before b ≡ blank = rw (g, unbroken) refl in
    ap (λ v. (cond v broken (when (is_break before) lined ▹ text)) c after) unbroken ∙ ap (λ v. (when v lined ▹ text) c after) g
    ∙ bool_cases (cuts_block folded blank before b ys)
    (λ m. ap (λ v. block_text page v b c after) m ∙ ap (λ v. cond v (lined c after) (char b c after)) (cuts m))
    (λ m. ap (λ v. block_text page v b c after) m)
    ∙ ap (λ v. char b c (next v)) stays

pub block_runs : (page : Page) (folded blank : Bool) (before width : ℕ) → width ≡ page.width
    → is_break before ≡ false
    → KeepsRuns (goes_on Open folded width) (block_body page folded blank) before
block_runs page folded blank before width e g =
    rw e (run_walk (goes_on Open folded page.width) (block_body page folded blank) (λ b. is_break b ≡ false) (block_step page folded blank) (λ k b h. run_unbroken Open folded page.width k b h) before g)
