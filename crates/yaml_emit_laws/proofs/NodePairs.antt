-- Block sequences, item by item, each up to the line after it.
use Rattle.std.proofs.Common.{◌≡◌, ℕ, ◌+◌, ◌<◌, ◌≤◌, Bool, true, false, List, [], ◌∷◌, ◌++◌, refl, sym, ap, subst, ◌∙◌, arith, Some, not, inl, inr}
use Rattle.yaml_emit_laws.proofs.NodeWords.{Layout, yaml_encoding_t, TokenBody, indent, opened, start_of, Opens, Cursor, Rest, line, indicator, ◌▹◌, when, char, Node, Nodes, no_nodes, node, Pairs, no_pairs, pair, Context, position, node_layout, items_layout, before_item, closer, is_simple, key_part, question, pairs_layout, before_key, before_value, Left, bytes, Rises, start_bodies, WalkState, level_opens, levels_part, begins_white, node_bodies, items_bodies, node_kept, items_kept, pairs_bodies, pairs_kept, NodeStage, Lined, LinedUp, Entry, Question, Answer, Ending, NodeWalks, ShowsNode, KeyWalks, cases_Bool, column_at}
use Rattle.yaml_emit_layout.specs.scan_types.Tokens as tokens
use Rattle.yaml_scan_history.specs.declared.lexeme.Opens.TheVariants as opening
use Rattle.yaml_emit_layout.specs.declared.level.Part.TheVariants as part
use Rattle.yaml_emit_laws.proofs.Lining.{line_on, mark_on, mark_shows, up_ends}
use Rattle.yaml_emit_laws.proofs.Following.{shown_ends, shows_no_feed, ending_up}

-- ---- a block, line by line

-- From the line at which `shown` begins to the one after the block: where the line leaves a level or opens one, `said` comes, and the
-- last block scalar in it is known by `keeps`.
abbrev pub LinesOn : Context → ℕ → Opens → (ℕ → Rest → Rest) → (Bool → Bool)
    → (List TokenBody → List TokenBody) → Type 0
LinesOn p n begun shown keeps said = (x : yaml_encoding_t) (text : List ℕ) (kept : Bool) (now more new : List ℕ) (what : Opens) (m : ℕ) (after : Rest) (T : List TokenBody → List TokenBody)
    → Lined x text (shown m after) n kept now more T → indent now ≤ n + 1 → Rises (n + 1) more
    → opened true (n + 1) now ≡ new → start_of 0 (n + 1) now begun ≡ what → indent new ≡ n + 1
    → m ≤ n → Ending p.settings.line_break m (n + 1) after
    → LinedUp x text after m (keeps kept) new (λ bs. T (start_bodies what (said bs)))

-- From where a block begins, in levels that satisfy `Round`, to the line after it.
abbrev pub BlockWalks : Context → (List ℕ → Type 0) → ℕ → Layout → (Bool → Bool)
    → (List TokenBody → List TokenBody) → Type 0
BlockWalks p Round most held keeps said = (x : yaml_encoding_t) (text : List ℕ) (c : Cursor) (o : WalkState) (ls : List ℕ) (m : ℕ) (after : Rest) (T : List TokenBody → List TokenBody)
    → NodeStage x text c o ls [] T → Round ls → m ≤ most
    → Ending p.settings.line_break m (indent ls) after
    → Left text o.at (bytes (held c (λ e. line p.settings.line_break m e after)))
    → LinedUp x text after m (keeps c.kept) ls (λ bs. T (said bs))

-- ---- what follows an item: a line at the sequence's column, or the one after the sequence

abbrev pub items_column : ℕ → ℕ → Nodes → ℕ
items_column n m no_nodes = m
items_column n m (node y ys) = n

abbrev pub items_after : Context → ℕ → ℕ → Rest → Nodes → Rest
items_after p n m after no_nodes = after
items_after p n m after (node y ys) = λ d. indicator 45 d (λ h. node_layout p (position false n part.Item) y h (λ k. items_layout p false n false ys k (λ e. line p.settings.line_break m e after)))

items_line : (p : Context) (n m : ℕ) (after : Rest) (xs : Nodes)
    → ◌≡◌ {A = Rest} (λ k. items_layout p false n false xs k
    (λ e. line p.settings.line_break m e after))
    (λ k. line p.settings.line_break (items_column n m xs) k (items_after p n m after xs))
unfolding items_layout before_item closer
items_line p n m after no_nodes = refl
items_line p n m after (node y ys) = refl

items_up : (n m : ℕ) (xs : Nodes) → m ≤ n → items_column n m xs ≤ n
items_up n m no_nodes up = up
items_up n m (node y ys) up = omega arith

items_ending : (p : Context) (n m : ℕ) (after : Rest) (xs : Nodes)
    → Ending p.settings.line_break m (n + 1) after
    → Ending p.settings.line_break (items_column n m xs) (n + 1) (items_after p n m after xs)
items_ending p n m after no_nodes e = e
items_ending p n m after (node y ys) e =
    let R : Rest = λ h. node_layout p (position false n part.Item) y h (λ k. items_layout p false n false ys k (λ e. line p.settings.line_break m e after)) in
    shown_ends p.settings.line_break n (λ d. indicator 45 d R) (mark_shows Entry n R)

-- ---- items

-- the items after others, up to the line after the sequence
abbrev pub MoreItems : Context → ℕ → Nodes → Type 0
MoreItems p n xs = (x : yaml_encoding_t) (text : List ℕ) (kept : Bool) (now : List ℕ) (m : ℕ) (after : Rest) (T : List TokenBody → List TokenBody) → indent now ≡ n + 1 → m ≤ n → Ending p.settings.line_break m (n + 1) after
    → LinedUp x text (items_after p n m after xs) (items_column n m xs) kept now T → LinedUp x text after m (items_kept p false xs kept) now (λ bs. T (items_bodies p false false xs bs))

pub item_on : (p : Context) (n : ℕ) (y : Node) (xs : Nodes) → NodeWalks p (Some n) part.Item true y
    → MoreItems p n xs
    → LinesOn p n opening.Sequence (λ m after. items_after p n m after (node y xs))
    (items_kept p false (node y xs)) (items_bodies p false false (node y xs))
unfolding items_kept items_bodies
item_on p n y xs walk others x text kept now more new what m after T here low rises opens starts last up ending =
    let b = p.settings.line_break in
    let at = position false n part.Item in
    let next = items_column n m xs in
    let then = items_after p n m after xs in
    let R : Rest = λ h. node_layout p at y h (λ k. items_layout p false n false xs k (λ e. line b m e after)) in
    let split = items_line p n m after xs in
    let dash = mark_on Entry x text n kept now more new what T R here tt low rises opens starts
    (λ e bare white column. ap (λ (r : Rest). begins_white (bytes (node_layout p at y e r))) split ∙ walk.white e next then white) in
    let U : List TokenBody → List TokenBody = λ bs. T (start_bodies what (tokens.block_entry ∷ bs)) in
    let right = dash.right in
    let one = walk.walks new dash.cursor next then dash.bare last (items_up n m xs up) (subst (λ i. Ending b next i then) (sym last) (items_ending p n m after xs ending)) x text dash.place U dash.stage (omega (arith, last, right))
    (subst (λ (r : Rest). Left text dash.place.at (bytes (node_layout p at y dash.cursor r))) split dash.left) in
    let same : LinedUp x text then next (node_kept p false part.Item y kept) new (λ bs. U (node_bodies p false part.Item true y bs)) = subst (λ k. LinedUp x text then next (node_kept p false part.Item y k) new (λ bs. U (node_bodies p false part.Item true y bs))) dash.same one in
    others x text (node_kept p false part.Item y kept) new m after (λ bs. U (node_bodies p false part.Item true y bs)) last up ending same

pub more_none : (p : Context) (n : ℕ) → MoreItems p n no_nodes
unfolding items_kept items_bodies
more_none p n x text kept now m after T last up ending line = line

pub more_item : (p : Context) (n : ℕ) (y : Node) (xs : Nodes)
    → NodeWalks p (Some n) part.Item true y → MoreItems p n xs → MoreItems p n (node y xs)
more_item p n y xs walk others x text kept now m after T last up ending line =
    let (below, above) = levels_part now line.more line.lined.stage.reads.stands.front.rises in
    let (opens, starts) = level_opens.stays (n + 1) now opening.Sequence (omega (arith, last)) in
    item_on p n y xs walk others x text kept now line.more now opening.Nothing m after T line.lined (omega (arith, last)) (subst (λ i. Rises i line.more) last above) opens starts last up ending

-- ---- sequences

-- from the line of the first item on
sequence_line : (p : Context) (n : ℕ) (y : Node) (xs : Nodes) (x : yaml_encoding_t) (text : List ℕ)
    (c : Cursor) (o : WalkState) (ls : List ℕ) (m : ℕ) (after : Rest)
    (T : List TokenBody → List TokenBody) → NodeStage x text c o ls [] T
    → Left text o.at (bytes (items_layout p false n true (node y xs) c
    (λ e. line p.settings.line_break m e after)))
    → Lined x text (items_after p n m after (node y xs)) n c.kept ls [] T
unfolding items_layout before_item
sequence_line p n y xs x text c o ls m after T s l =
    let R : Rest = λ h. node_layout p (position false n part.Item) y h (λ k. items_layout p false n false xs k (λ e. line p.settings.line_break m e after)) in
    line_on p.settings.line_break n x text c o ls [] T (λ d. indicator 45 d R) s (shows_no_feed n (λ d. indicator 45 d R) (mark_shows Entry n R)) l

pub none_rise : (b : ℕ) → Rises b []
unfolding Rises
none_rise b = tt

-- one with a level of its own
pub sequence_walks : (p : Context) (n : ℕ) (y : Node) (xs : Nodes)
    → NodeWalks p (Some n) part.Item true y → MoreItems p n xs
    → BlockWalks p (λ ls. indent ls < n + 1) n (items_layout p false n true (node y xs))
    (items_kept p false (node y xs)) (λ bs. tokens.block_sequence_start
    ∷ items_bodies p false true (node y xs) (tokens.block_end ∷ bs))
unfolding items_bodies
sequence_walks p n y xs walk others x text c o ls m after T s low up ending l =
    let (opens, starts) = level_opens.opens (n + 1) ls opening.Sequence low in
    let here = sequence_line p n y xs x text c o ls m after T s l in
    let last = level_opens.last (n + 1) ls in
    up_ends x text after m _ (n + 1) ls _
    (item_on p n y xs walk others x text c.kept ls [] (ls ++ (n + 1) ∷ []) opening.Sequence m after T here (omega (arith, low)) (none_rise (n + 1)) opens starts last up (ending_up p.settings.line_break m (indent ls) (n + 1) after (omega (arith, low)) ending))

-- one that keeps the indentation round it
pub loose_walks : (p : Context) (n : ℕ) (y : Node) (xs : Nodes)
    → NodeWalks p (Some n) part.Item true y → MoreItems p n xs
    → BlockWalks p (λ ls. indent ls ≡ n + 1) n (items_layout p false n true (node y xs))
    (items_kept p false (node y xs)) (items_bodies p false true (node y xs))
unfolding items_bodies
loose_walks p n y xs walk others x text c o ls m after T s last up ending l =
    let (opens, starts) = level_opens.stays (n + 1) ls opening.Sequence (omega (arith, last)) in
    let here = sequence_line p n y xs x text c o ls m after T s l in
    item_on p n y xs walk others x text c.kept ls [] ls opening.Nothing m after T here (omega (arith, last)) (none_rise (n + 1)) opens starts last up (subst (λ i. Ending p.settings.line_break m i after) last ending)

-- ==== Block mappings, pair by pair, each up to the line after it.

-- ---- what a pair writes after its line, and what follows a pair

-- a pair from its key on, up to the line after the mapping
abbrev pair_rest : Context → ℕ → ℕ → Rest → Node → Node → Pairs → Bool → Rest
pair_rest p n m after k v ps simple = λ d. (when (not simple) (question false) ▹ (node_layout p (position false n (key_part simple)) k ▹ (before_value p.settings false n simple
    ▹ (node_layout p (position false n part.Value) v ▹ pairs_layout p false n false ps)))) d (λ e. line p.settings.line_break m e after)

abbrev pub pairs_column : ℕ → ℕ → Pairs → ℕ
pairs_column n m no_pairs = m
pairs_column n m (pair k v ps) = n

abbrev pub pairs_after : Context → ℕ → ℕ → Rest → Pairs → Rest
pairs_after p n m after no_pairs = after
pairs_after p n m after (pair k v ps) = pair_rest p n m after k v ps (is_simple p k)

pairs_line : (p : Context) (n m : ℕ) (after : Rest) (ps : Pairs)
    → ◌≡◌ {A = Rest} (λ k. pairs_layout p false n false ps k
    (λ e. line p.settings.line_break m e after))
    (λ k. line p.settings.line_break (pairs_column n m ps) k (pairs_after p n m after ps))
unfolding pairs_layout before_key closer
pairs_line p n m after no_pairs = refl
pairs_line p n m after (pair k v ps) = refl

pairs_up : (n m : ℕ) (ps : Pairs) → m ≤ n → pairs_column n m ps ≤ n
pairs_up n m no_pairs up = up
pairs_up n m (pair k v ps) up = omega arith

-- what is after a pair's value
abbrev value_rest : Context → ℕ → ℕ → Rest → Node → Pairs → Rest
value_rest p n m after v ps = λ h. node_layout p (position false n part.Value) v h (λ e. pairs_layout p false n false ps e (λ i. line p.settings.line_break m i after))

-- with a simple key
abbrev simple_rest : Context → ℕ → ℕ → Rest → Node → Node → Pairs → Rest
simple_rest p n m after k v ps = λ d. (node_layout p (position false n part.SimpleKey) k ▹ char 58) d (value_rest p n m after v ps)

-- with another one
abbrev answer_rest : Context → ℕ → ℕ → Rest → Node → Pairs → Rest
answer_rest p n m after v ps = λ d. indicator 58 d (value_rest p n m after v ps)

abbrev asked_rest : Context → ℕ → ℕ → Rest → Node → Node → Pairs → Rest
asked_rest p n m after k v ps = λ h. node_layout p (position false n part.Key) k h (λ e. line p.settings.line_break n e (answer_rest p n m after v ps))

pair_simple : (p : Context) (n m : ℕ) (after : Rest) (k v : Node) (ps : Pairs) (b : Bool) → b ≡ true
    → ◌≡◌ {A = Rest} (pair_rest p n m after k v ps b) (simple_rest p n m after k v ps)
unfolding before_value
pair_simple p n m after k v ps true e = refl
pair_simple p n m after k v ps false e = absurd (cc)

pair_asks : (p : Context) (n m : ℕ) (after : Rest) (k v : Node) (ps : Pairs) (b : Bool) → b ≡ false
    → ◌≡◌ {A = Rest} (pair_rest p n m after k v ps b)
    (λ d. indicator 63 d (asked_rest p n m after k v ps))
unfolding before_value
pair_asks p n m after k v ps true e = absurd (cc)
pair_asks p n m after k v ps false e = refl

-- ---- what is known of a pair

-- its key, simple or not, and its value are walked
pub record PairWalks (p : Context) (n : ℕ) (k v : Node) : Type 0 where
  pub simple : is_simple p k ≡ true → KeyWalks p k
  pub asked : NodeWalks p (Some n) part.Key true k
  pub value : (bare : Bool) → NodeWalks p (Some n) part.Value bare v

value_parted : (p : Context) (n m : ℕ) (after : Rest) (k v : Node) (ps : Pairs) → PairWalks p n k v
    → (e : Cursor) → e.white ≡ false → begins_white (bytes (value_rest p n m after v ps e)) ≡ true
value_parted p n m after k v ps walk e white =
    ap (λ (r : Rest). begins_white (bytes (node_layout p (position false n part.Value) v e r))) (pairs_line p n m after ps) ∙ (walk.value false).white e (pairs_column n m ps) (pairs_after p n m after ps) white

pair_shows : (p : Context) (n m : ℕ) (after : Rest) (k v : Node) (ps : Pairs) → PairWalks p n k v
    → ShowsNode n (pair_rest p n m after k v ps (is_simple p k))
pair_shows p n m after k v ps walk = elim (cases_Bool (is_simple p k)) [
  | inl e ↦ subst (λ (r : Rest). ShowsNode n r) (sym (pair_simple p n m after k v ps (is_simple p k) e)) ((walk.simple e).shows n (value_rest p n m after v ps) (λ d bare white. value_parted p n m after k v ps walk d white))
  | inr e ↦ subst (λ (r : Rest). ShowsNode n r) (sym (pair_asks p n m after k v ps (is_simple p k) e)) (mark_shows Question n (asked_rest p n m after k v ps))
]

-- all pairs
abbrev pub PairsWalk : Context → ℕ → Pairs → Type 0
PairsWalk p n no_pairs = Unit {0}
PairsWalk p n (pair k v ps) = PairWalks p n k v × PairsWalk p n ps

pairs_ending : (p : Context) (n m : ℕ) (after : Rest) (ps : Pairs) → PairsWalk p n ps
    → Ending p.settings.line_break m (n + 1) after
    → Ending p.settings.line_break (pairs_column n m ps) (n + 1) (pairs_after p n m after ps)
pairs_ending p n m after no_pairs all e = e
pairs_ending p n m after (pair k v ps) (one, all) e = shown_ends p.settings.line_break n (pair_rest p n m after k v ps (is_simple p k)) (pair_shows p n m after k v ps one)

-- ---- values

-- a value up to the line after it
value_on : (p : Context) (n : ℕ) (k v : Node) (ps : Pairs) (bare : Bool) → PairWalks p n k v
    → PairsWalk p n ps
    → (x : yaml_encoding_t) (text : List ℕ) (c : Cursor) (o : WalkState) (kept : Bool)
    (new : List ℕ)
    (m : ℕ) (after : Rest) (U : List TokenBody → List TokenBody)
    → NodeStage x text c o new [] U → c.bare ≡ bare → c.kept ≡ kept → indent new ≤ column_at text o.at
    → indent new ≡ n + 1 → m ≤ n → Ending p.settings.line_break m (n + 1) after
    → Left text o.at (bytes (value_rest p n m after v ps c))
    → LinedUp x text (pairs_after p n m after ps) (pairs_column n m ps)
    (node_kept p false part.Value v kept) new (λ bs. U (node_bodies p false part.Value bare v bs))
value_on p n k v ps bare walk all x text c o kept new m after U s is same right last up ending l =
    let b = p.settings.line_break in
    let next = pairs_column n m ps in
    let then = pairs_after p n m after ps in
    subst (λ t. LinedUp x text then next (node_kept p false part.Value v t) new (λ bs. U (node_bodies p false part.Value bare v bs))) same
    ((walk.value bare).walks new c next then is last (pairs_up n m ps up) (subst (λ i. Ending b next i then) (sym last) (pairs_ending p n m after ps all ending)) x text o U s right
    (subst (λ (r : Rest). Left text o.at (bytes (node_layout p (position false n part.Value) v c r))) (pairs_line p n m after ps) l))

-- ---- pairs

-- the pairs after others, up to the line after the mapping
abbrev pub MorePairs : Context → ℕ → Pairs → Type 0
MorePairs p n ps = (x : yaml_encoding_t) (text : List ℕ) (kept : Bool) (now : List ℕ) (m : ℕ) (after : Rest) (T : List TokenBody → List TokenBody) → indent now ≡ n + 1 → m ≤ n → Ending p.settings.line_break m (n + 1) after
    → LinedUp x text (pairs_after p n m after ps) (pairs_column n m ps) kept now T → LinedUp x text after m (pairs_kept p false ps kept) now (λ bs. T (pairs_bodies p false false ps bs))

-- the tokens and the last block scalar of a pair, by whether its key is simple
abbrev pair_said : Context → Node → Node → Pairs → Bool → List TokenBody → List TokenBody
pair_said p k v ps simple bs = tokens.key ∷ node_bodies p false (key_part simple) (not simple) k (tokens.value ∷ node_bodies p false part.Value (not simple) v (pairs_bodies p false false ps bs))

abbrev pair_kept : Context → Node → Node → Pairs → Bool → Bool → Bool
pair_kept p k v ps simple kept = pairs_kept p false ps (node_kept p false part.Value v (node_kept p false (key_part simple) k kept))

simple_on : (p : Context) (n : ℕ) (k v : Node) (ps : Pairs) → is_simple p k ≡ true
    → PairWalks p n k v → PairsWalk p n ps → MorePairs p n ps
    → LinesOn p n opening.Mapping (λ m after. simple_rest p n m after k v ps)
    (pair_kept p k v ps true) (pair_said p k v ps true)
simple_on p n k v ps is walk all others x text kept now more new what m after T here low rises opens starts last up ending =
    let V = value_rest p n m after v ps in
    let key = walk.simple is in
    let h = key.walks x text n kept now more new what T V here low rises opens starts (λ d bare white. value_parted p n m after k v ps walk d white) in
    let U : List TokenBody → List TokenBody = λ bs. T (start_bodies what (tokens.key ∷ node_bodies p false part.SimpleKey false k (tokens.value ∷ bs))) in
    let right = h.right in
    let one = value_on p n k v ps false walk all x text h.cursor h.place kept new m after U h.stage h.bare h.same (omega (arith, last, right)) last up ending h.left in
    let same : node_kept p false part.Value v kept ≡ node_kept p false part.Value v (node_kept p false part.SimpleKey k kept) = ap (λ t. node_kept p false part.Value v t) (sym (key.same kept)) in
    others x text (node_kept p false part.Value v (node_kept p false part.SimpleKey k kept)) new m after (λ bs. U (node_bodies p false part.Value false v bs)) last up ending
    (subst (λ t. LinedUp x text (pairs_after p n m after ps) (pairs_column n m ps) t new (λ bs. U (node_bodies p false part.Value false v bs))) same one)

asked_on : (p : Context) (n : ℕ) (k v : Node) (ps : Pairs) → PairWalks p n k v → PairsWalk p n ps
    → MorePairs p n ps
    → LinesOn p n opening.Mapping (λ m after d. indicator 63 d (asked_rest p n m after k v ps))
    (pair_kept p k v ps false) (pair_said p k v ps false)
asked_on p n k v ps walk all others x text kept now more new what m after T here low rises opens starts last up ending =
    let b = p.settings.line_break in
    let V = value_rest p n m after v ps in
    let A = answer_rest p n m after v ps in
    let ask = mark_on Question x text n kept now more new what T (asked_rest p n m after k v ps) here tt low rises opens starts (λ e bare white column. walk.asked.white e n A white) in
    let U : List TokenBody → List TokenBody = λ bs. T (start_bodies what (tokens.key ∷ bs)) in
    let right = ask.right in
    let key = walk.asked.walks new ask.cursor n A ask.bare last (omega arith) (subst (λ i. Ending b n i A) (sym last) (shown_ends b n A (mark_shows Answer n V))) x text ask.place U ask.stage (omega (arith, last, right)) ask.left in
    let kept1 = node_kept p false part.Key k ask.cursor.kept in
    let (below, above) = levels_part new key.more key.lined.stage.reads.stands.front.rises in
    let (stays, begins) = level_opens.stays (n + 1) new opening.Mapping (omega (arith, last)) in
    let W : List TokenBody → List TokenBody = λ bs. U (node_bodies p false part.Key true k bs) in
    let answer = mark_on Answer x text n kept1 new key.more new opening.Nothing W V key.lined key.later (omega (arith, last)) (subst (λ i. Rises i key.more) last above) stays begins (λ e bare white column. value_parted p n m after k v ps walk e white) in
    let X : List TokenBody → List TokenBody = λ bs. W (tokens.value ∷ bs) in
    let right2 = answer.right in
    let same : answer.cursor.kept ≡ node_kept p false part.Key k kept = ◌∙◌ {a = answer.cursor.kept} answer.same (ap (λ t. node_kept p false part.Key k t) ask.same) in
    let one = value_on p n k v ps true walk all x text answer.cursor answer.place (node_kept p false part.Key k kept) new m after X answer.stage answer.bare same (omega (arith, last, right2)) last up ending answer.left in
    others x text (node_kept p false part.Value v (node_kept p false part.Key k kept)) new m after (λ bs. X (node_bodies p false part.Value true v bs)) last up ending one

pub pair_on : (p : Context) (n : ℕ) (k v : Node) (ps : Pairs) → PairWalks p n k v → PairsWalk p n ps
    → MorePairs p n ps
    → LinesOn p n opening.Mapping (λ m after. pairs_after p n m after (pair k v ps))
    (pairs_kept p false (pair k v ps)) (pairs_bodies p false false (pair k v ps))
unfolding pairs_kept pairs_bodies
pair_on p n k v ps walk all others x text kept now more new what m after T here low rises opens starts last up ending = elim (cases_Bool (is_simple p k)) [
  | inl e ↦ subst (λ b. LinedUp x text after m (pair_kept p k v ps b kept) new (λ bs. T (start_bodies what (pair_said p k v ps b bs)))) (sym e)
      (simple_on p n k v ps e walk all others x text kept now more new what m after T (subst (λ (r : Rest). Lined x text r n kept now more T) (pair_simple p n m after k v ps (is_simple p k) e) here) low rises opens starts last up ending)
  | inr e ↦ subst (λ b. LinedUp x text after m (pair_kept p k v ps b kept) new (λ bs. T (start_bodies what (pair_said p k v ps b bs)))) (sym e)
      (asked_on p n k v ps walk all others x text kept now more new what m after T (subst (λ (r : Rest). Lined x text r n kept now more T) (pair_asks p n m after k v ps (is_simple p k) e) here) low rises opens starts last up ending)
]

pub pairs_none : (p : Context) (n : ℕ) → MorePairs p n no_pairs
unfolding pairs_kept pairs_bodies
pairs_none p n x text kept now m after T last up ending line = line

pub pairs_more : (p : Context) (n : ℕ) (k v : Node) (ps : Pairs) → PairWalks p n k v
    → PairsWalk p n ps → MorePairs p n ps → MorePairs p n (pair k v ps)
pairs_more p n k v ps walk all others x text kept now m after T last up ending line =
    let (below, above) = levels_part now line.more line.lined.stage.reads.stands.front.rises in
    let (opens, starts) = level_opens.stays (n + 1) now opening.Mapping (omega (arith, last)) in
    pair_on p n k v ps walk all others x text kept now line.more now opening.Nothing m after T line.lined (omega (arith, last)) (subst (λ i. Rises i line.more) last above) opens starts last up ending

pub all_pairs : (p : Context) (n : ℕ) (ps : Pairs) → PairsWalk p n ps → MorePairs p n ps
all_pairs p n no_pairs all = pairs_none p n
all_pairs p n (pair k v ps) (one, all) = pairs_more p n k v ps one all (all_pairs p n ps all)

-- ---- mappings

mapping_line : (p : Context) (n : ℕ) (k v : Node) (ps : Pairs) → PairWalks p n k v
    → (x : yaml_encoding_t) (text : List ℕ) (c : Cursor) (o : WalkState) (ls : List ℕ) (m : ℕ)
    (after : Rest) (T : List TokenBody → List TokenBody) → NodeStage x text c o ls [] T
    → Left text o.at (bytes (pairs_layout p false n true (pair k v ps) c
    (λ e. line p.settings.line_break m e after)))
    → Lined x text (pairs_after p n m after (pair k v ps)) n c.kept ls [] T
unfolding pairs_layout before_key
mapping_line p n k v ps walk x text c o ls m after T s l =
    let R = pair_rest p n m after k v ps (is_simple p k) in
    line_on p.settings.line_break n x text c o ls [] T R s (shows_no_feed n R (pair_shows p n m after k v ps walk)) l

pub mapping_walks : (p : Context) (n : ℕ) (k v : Node) (ps : Pairs) → PairWalks p n k v
    → PairsWalk p n ps
    → BlockWalks p (λ ls. indent ls < n + 1) n (pairs_layout p false n true (pair k v ps))
    (pairs_kept p false (pair k v ps)) (λ bs. tokens.block_mapping_start
    ∷ pairs_bodies p false true (pair k v ps) (tokens.block_end ∷ bs))
unfolding pairs_bodies
mapping_walks p n k v ps walk all x text c o ls m after T s low up ending l =
    let (opens, starts) = level_opens.opens (n + 1) ls opening.Mapping low in
    let here = mapping_line p n k v ps walk x text c o ls m after T s l in
    let last = level_opens.last (n + 1) ls in
    up_ends x text after m _ (n + 1) ls _
    (pair_on p n k v ps walk all (all_pairs p n ps all) x text c.kept ls [] (ls ++ (n + 1) ∷ []) opening.Mapping m after T here (omega (arith, low)) (none_rise (n + 1)) opens starts last up (ending_up p.settings.line_break m (indent ls) (n + 1) after (omega (arith, low)) ending))
