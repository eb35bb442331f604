-- Collections in brackets: items, pairs, and what opens and closes them.
use Rattle.std.proofs.Common.{◌≡◌, ℕ, ◌+◌, ◌≤◌, not, nat_lt, Bool, true, false, List, [], ◌∷◌, refl, sym, ap, subst, ◌∙◌, inl, inr, arith, ◌<◌, ◌&&◌, ◌||◌, length, None, Some, IsUtf8, Option, true≢false}
use Rattle.yaml_emit_laws.proofs.NodeWords.{chars, cases_Bool, nat_tests, yaml_encoding_t, TokenBody, TagDirective, column_at, indent, Cursor, Settings, letter, Layout, Rest, ◌▹◌, when, char, letters, word, opener, wrap, Part, Node, Nodes, no_nodes, node, Pairs, no_pairs, pair, Scalar, Opening, alias_node, scalar_node, position, is_simple_part, is_simple, key_part, turned, before_item, before_key, before_value, closer, node_layout, items_layout, pairs_layout, Context, checked, MOST, is_plain, style_of, tag_text, anchor_text, properties_text, page_at, alias_layout, scalar_layout, Left, bytes, first, left_letter, deep_bytes, IsRight, WalkState, WalkReads, Outside, node_bodies, items_bodies, pairs_bodies, style_named, IsClear, GoesIn, WalksIn, FollowsIn, KeyWalksIn, lettered_on, AnchorReads, Style, quoted_text, plain, single_quoted, scalar_text, allowed, tag_spelling, split_tag, has, scalar_tag, anchor_bodies, tag_bodies, tag_body, mark_bodies, QuotedIsReadBack, SplitTagsAreRead, WrittenTagsAreReadable, ReadableTagsAreAscii, LoneMarkReads, IsWritableAnchor, IsWritableTag, IsWritableName, IsWritableOpening, PlainIsReadBack, may_be_plain, SingleLinesAreReadBack, PlainHasGap, ScalarsAreWords, StylesAreAllowed, ends_name}
use Rattle.yaml_emit_layout.specs.scan_types.Tokens as tokens
use Rattle.yaml_emit_layout.specs.declared.level.Part.TheVariants as part
use Rattle.yaml_emit_laws.proofs.FlowSteps.{Space, space_on, clear_same, word_walks, both}
use Rattle.yaml_emit_laws.proofs.FlowSigns.{wrap_in, behind_gap, gap_left, gap_kept, comma_on, opener_on, closer_on, question_on, answer_on, opening_of, opens, prettily, Spaced, space_parts, items_follow_in, pairs_follow_in, answer_follows, gap_spaced, text_spaced, checked_spaced, mark_spaced}
use Rattle.yaml_emit_laws.proofs.KeySteps.{deeper_out}
use Rattle.yaml_emit_layout.specs.declared.Style.TheVariants as style
use Rattle.yaml_emit_laws.proofs.SpokenWords.{anchor_word, alias_word, tag_word, mark_word, double_word, single_word, plain_word}
use Rattle.yaml_emit_laws.proofs.SpokenLayouts.{anchor_says, alias_says, tag_says, mark_says, double_says, single_says, plain_says}
use Rattle.yaml_emit_laws.proofs.NearKeys.{kept_writable}

-- After a closing bracket, where d are open.
pub record Closed (x : yaml_encoding_t) (text : List ℕ) (rest : Rest) (kept : Bool) (d : ℕ) (cs ls : List ℕ) (T : List TokenBody → List TokenBody) : Type 0 where
  pub behind : Cursor
  pub place : WalkState
  pub reads : WalkReads x text place cs ls [] T
  pub deep : place.depth ≡ d
  pub now : place.now ≡ false
  pub broken : place.broken ≡ not (nat_lt 0 d)
  pub left : Left text place.at (bytes (rest behind))
  pub bare : behind.bare ≡ false
  pub white : behind.white ≡ false
  pub same : behind.kept ≡ kept

-- a node at each position in brackets
abbrev pub NodeIn : Settings → List TagDirective → Node → Type 0
NodeIn s ds y = (n : ℕ) (q : Part) → is_simple_part q ≡ false → (bare : Bool) (ls : List ℕ) → indent ls ≤ n → (rest : Rest) → FollowsIn rest → (c : Cursor) → WalksIn (node_layout (prettily s ds) (position true n q) y) (node_bodies (prettily s ds) true q bare y) ls c rest

-- what is after an opening bracket, with what closes it
abbrev pub BodyIn : Layout → (List TokenBody → List TokenBody) → List ℕ → Rest → Type 0
BodyIn a B ls rest = (c : Cursor) → c.bare ≡ false → (x : yaml_encoding_t) (text : List ℕ) (o : WalkState) (d : ℕ) (cs : List ℕ) (T : List TokenBody → List TokenBody) → WalkReads x text o cs ls [] T → o.depth ≡ d + 1 → o.now ≡ true → Outside (d + 1) cs
    → Left text o.at (bytes (a c rest)) → Closed x text rest c.kept d cs ls (λ bs. T (B bs))

-- likewise after an item or a pair
abbrev pub MoreIn : Layout → (List TokenBody → List TokenBody) → List ℕ → Rest → Type 0
MoreIn a B ls rest = (c : Cursor) → c.bare ≡ false → (x : yaml_encoding_t) (text : List ℕ) (o : WalkState) (d : ℕ) (cs : List ℕ) (T : List TokenBody → List TokenBody) → WalkReads x text o cs ls [] T → o.depth ≡ d + 1 → Outside (d + 1) cs
    → Left text o.at (bytes (a c rest)) → Closed x text rest c.kept d cs ls (λ bs. T (B bs))

-- likewise where white may be last on a bare line
abbrev pub PairIn : Layout → (List TokenBody → List TokenBody) → List ℕ → Rest → Type 0
PairIn a B ls rest = (c : Cursor) (x : yaml_encoding_t) (text : List ℕ) (o : WalkState) (d : ℕ) (cs : List ℕ) (T : List TokenBody → List TokenBody) → WalkReads x text o cs ls [] T → o.depth ≡ d + 1 → o.now ≡ true → Outside (d + 1) cs
    → Left text o.at (bytes (a c rest)) → Closed x text rest c.kept d cs ls (λ bs. T (B bs))

inside_so : (n d : ℕ) → n ≡ d + 1 → nat_lt 0 n ≡ true
inside_so n d e = grind (arith, nat_tests)

out_at : (n d : ℕ) (cs : List ℕ) → n ≡ d + 1 → Outside (d + 1) cs → Outside n cs
out_at n d cs e out = subst (λ (m : ℕ). Outside m cs) (sym e) out

kept_as : (x : yaml_encoding_t) (text : List ℕ) (rest : Rest) (a b : Bool) (d : ℕ) (cs ls : List ℕ)
    (T : List TokenBody → List TokenBody) → a ≡ b → Closed x text rest a d cs ls T
    → Closed x text rest b d cs ls T
kept_as x text rest a b d cs ls T e g = subst (λ (k : Bool). Closed x text rest k d cs ls T) e g

-- ---- the closing bracket

sequence_shut : (ls : List ℕ) (rest : Rest)
    → MoreIn (char 93) (λ bs. tokens.flow_sequence_end ∷ bs) ls rest
sequence_shut ls rest c bare x text o d cs T r deep out l =
    let e = lettered_on c in
    let g = closer_on false x text (bytes (rest e)) o d cs ls T r deep out (left_letter text o.at 93 (rest e) refl l) in
    record { behind = e; place = g.place; reads = g.reads; deep = g.deep; now = g.begin; broken = g.broken; left = g.left; bare = refl; white = refl; same = refl }

mapping_shut : (ls : List ℕ) (rest : Rest)
    → MoreIn (char 125) (λ bs. tokens.flow_mapping_end ∷ bs) ls rest
mapping_shut ls rest c bare x text o d cs T r deep out l =
    let e = lettered_on c in
    let g = closer_on true x text (bytes (rest e)) o d cs ls T r deep out (left_letter text o.at 125 (rest e) refl l) in
    record { behind = e; place = g.place; reads = g.reads; deep = g.deep; now = g.begin; broken = g.broken; left = g.left; bare = refl; white = refl; same = refl }

-- after a comma a key may begin
comma_then : (a : Layout) (B : List TokenBody → List TokenBody) (ls : List ℕ) (rest : Rest)
    → BodyIn a B ls rest → MoreIn (char 44 ▹ a) (λ bs. tokens.flow_entry ∷ B bs) ls rest
comma_then a B ls rest body c bare x text o d cs T r deep out l =
    let e = lettered_on c in
    let g = comma_on x text (bytes (a e rest)) o cs ls T r (inside_so o.depth d deep) (out_at o.depth d cs deep out) (left_letter text o.at 44 (a e rest) refl l) in
    body e refl x text g.place d cs (λ bs. T (tokens.flow_entry ∷ bs)) g.reads (g.deep ∙ deep) g.begin out g.left

-- ---- items

abbrev pub FirstItems : Settings → List TagDirective → Nodes → Type 0
FirstItems s ds xs = (n : ℕ) (ls : List ℕ) → indent ls ≤ n → (rest : Rest) → BodyIn (items_layout (prettily s ds) true n true xs) (λ bs. items_bodies (prettily s ds) true true xs (tokens.flow_sequence_end ∷ bs)) ls rest

abbrev pub MoreItems : Settings → List TagDirective → Nodes → Type 0
MoreItems s ds xs = (n : ℕ) (ls : List ℕ) → indent ls ≤ n → (rest : Rest) → MoreIn (items_layout (prettily s ds) true n false xs) (λ bs. items_bodies (prettily s ds) true false xs (tokens.flow_sequence_end ∷ bs)) ls rest

pub items_none : (s : Settings) (ds : List TagDirective) → FirstItems s ds no_nodes
unfolding items_layout closer items_bodies
items_none s ds n ls low rest c bare x text o d cs T r deep now out l = sequence_shut ls rest c bare x text o d cs T r deep out l

pub items_closed : (s : Settings) (ds : List TagDirective) → MoreItems s ds no_nodes
unfolding items_layout closer items_bodies
items_closed s ds n ls low rest c bare x text o d cs T r deep out l = sequence_shut ls rest c bare x text o d cs T r deep out l

pub items_first : (s : Settings) (ds : List TagDirective) (y : Node) (xs : Nodes) → NodeIn s ds y
    → MoreItems s ds xs → FirstItems s ds (node y xs)
unfolding items_layout before_item turned items_bodies
items_first s ds y xs one more n ls low rest c bare x text o d cs T r deep now out l =
    let p = prettily s ds in
    let after : Rest = λ k. items_layout p true n false xs k rest in
    let a = node_layout p (position true n part.Item) y in
    let t = wrap_in s.width s.line_break n x text c (λ e. a e after) o cs ls T bare r l in
    let deep1 = t.deep ∙ deep in
    let g = one n part.Item refl true ls low after (items_follow_in s ds n xs rest) t.cursor x text t.place cs T t.reads (inside_so t.place.depth d deep1) (inl (out_at t.place.depth d cs deep1 out)) t.left in
    let h = more n ls low rest g.behind g.bare x text g.place d cs (λ bs. T (node_bodies p true part.Item true y bs)) g.reads (g.deep ∙ deep1) out g.left in
    kept_as x text rest g.behind.kept c.kept d cs ls (λ bs. T (node_bodies p true part.Item true y (items_bodies p true false xs (tokens.flow_sequence_end ∷ bs)))) (g.same ∙ t.same) h

pub items_more : (s : Settings) (ds : List TagDirective) (y : Node) (xs : Nodes)
    → FirstItems s ds (node y xs) → MoreItems s ds (node y xs)
unfolding items_layout before_item items_bodies
items_more s ds y xs whole n ls low rest =
    let p = prettily s ds in
    comma_then (items_layout p true n true (node y xs)) (λ bs. items_bodies p true true (node y xs) (tokens.flow_sequence_end ∷ bs)) ls rest (whole n ls low rest)

-- ---- pairs

abbrev pub FirstPairs : Settings → List TagDirective → Pairs → Type 0
FirstPairs s ds ps = (n : ℕ) (ls : List ℕ) → indent ls ≤ n → (rest : Rest) → BodyIn (pairs_layout (prettily s ds) true n true ps) (λ bs. pairs_bodies (prettily s ds) true true ps (tokens.flow_mapping_end ∷ bs)) ls rest

abbrev pub MorePairs : Settings → List TagDirective → Pairs → Type 0
MorePairs s ds ps = (n : ℕ) (ls : List ℕ) → indent ls ≤ n → (rest : Rest) → MoreIn (pairs_layout (prettily s ds) true n false ps) (λ bs. pairs_bodies (prettily s ds) true false ps (tokens.flow_mapping_end ∷ bs)) ls rest

pub pairs_none : (s : Settings) (ds : List TagDirective) → FirstPairs s ds no_pairs
unfolding pairs_layout closer pairs_bodies
pairs_none s ds n ls low rest c bare x text o d cs T r deep now out l = mapping_shut ls rest c bare x text o d cs T r deep out l

pub pairs_closed : (s : Settings) (ds : List TagDirective) → MorePairs s ds no_pairs
unfolding pairs_layout closer pairs_bodies
pairs_closed s ds n ls low rest c bare x text o d cs T r deep out l = mapping_shut ls rest c bare x text o d cs T r deep out l

-- a value, and the pairs after it
value_in : (s : Settings) (ds : List TagDirective) (v : Node) (ps : Pairs) → NodeIn s ds v
    → MorePairs s ds ps → (bare : Bool) (n : ℕ) (ls : List ℕ) → indent ls ≤ n → (rest : Rest)
    → MoreIn (node_layout (prettily s ds) (position true n part.Value) v
    ▹ pairs_layout (prettily s ds)
    true n false ps) (λ bs. node_bodies (prettily s ds) true part.Value bare v
    (pairs_bodies (prettily s ds) true false ps (tokens.flow_mapping_end ∷ bs))) ls rest
value_in s ds v ps value more b n ls low rest c bare x text o d cs T r deep out l =
    let p = prettily s ds in
    let after : Rest = λ k. pairs_layout p true n false ps k rest in
    let g = value n part.Value refl b ls low after (pairs_follow_in s ds n ps rest) c x text o cs T r (inside_so o.depth d deep) (inl (out_at o.depth d cs deep out)) l in
    let h = more n ls low rest g.behind g.bare x text g.place d cs (λ bs. T (node_bodies p true part.Value b v bs)) g.reads (g.deep ∙ deep) out g.left in
    kept_as x text rest g.behind.kept c.kept d cs ls (λ bs. T (node_bodies p true part.Value b v (pairs_bodies p true false ps (tokens.flow_mapping_end ∷ bs)))) g.same h

-- ---- a `?`, its key and its `:`

-- a byte that is a word, after the space that is due
sign_left : (b : ℕ) → nat_lt b 128 ≡ true
    → (x : yaml_encoding_t) (text : List ℕ) (c : Cursor) (rest : Rest) (o : WalkState)
    (cs ls : List ℕ)
    (T : List TokenBody → List TokenBody) → WalkReads x text o cs ls [] T
    → Left text o.at (bytes (word (b ∷ []) c rest))
    → Space x text (b ∷ bytes (rest (lettered_on (behind_gap c.white c)))) o cs ls [] T
unfolding letters
sign_left b low x text c rest o cs ls T r l =
    let K : Rest = λ e. char b e rest in
    let e = behind_gap c.white c in
    let sp = space_on (not c.white) x text (bytes (K e)) o cs ls [] T r (gap_left text o.at c.white c K l) in
    record { place = sp.place; reads = sp.reads; deep = sp.deep; same = sp.same; broken = sp.broken; right = sp.right; left = left_letter text sp.place.at b (rest (lettered_on e)) low sp.left }

-- After a `?` or its `:`, where d + 1 brackets are open.
record Asked (x : yaml_encoding_t) (text : List ℕ) (rest : Rest) (kept : Bool) (d : ℕ) (cs ls : List ℕ) (T : List TokenBody → List TokenBody) : Type 0 where
  cursor : Cursor
  place : WalkState
  reads : WalkReads x text place cs ls [] T
  deep : place.depth ≡ d + 1
  now : place.now ≡ false
  left : Left text place.at (bytes (rest cursor))
  bare : cursor.bare ≡ false
  same : cursor.kept ≡ kept

ask_then : (x : yaml_encoding_t) (text : List ℕ) (c : Cursor) (rest : Rest) (o : WalkState) (d : ℕ)
    (cs ls : List ℕ) (T : List TokenBody → List TokenBody) → Spaced rest → WalkReads x text o cs ls [] T
    → o.depth ≡ d + 1 → Outside (d + 1) cs → Left text o.at (bytes (word (63 ∷ []) c rest))
    → Asked x text rest c.kept d ((d + 1) ∷ cs) ls (λ bs. T (tokens.key ∷ bs))
ask_then x text c rest o d cs ls T spaced r deep out l =
    let e = lettered_on (behind_gap c.white c) in
    let sp = sign_left 63 refl x text c rest o cs ls T r l in
    let deep1 = sp.deep ∙ deep in
    let q = question_on x text (bytes (rest e)) sp.place cs ls T sp.reads (inside_so sp.place.depth d deep1) (out_at sp.place.depth d cs deep1 out) (space_parts (bytes (rest e)) (spaced e refl)) sp.left in
    record {
      cursor = e;
      place = q.place;
      reads = subst (λ (i : ℕ). WalkReads x text q.place (i ∷ cs) ls [] (λ bs. T (tokens.key ∷ bs))) deep1 q.reads;
      deep = q.deep ∙ deep1;
      now = q.begin;
      left = q.left;
      bare = refl;
      same = gap_kept c.white c;
    }

answer_then : (x : yaml_encoding_t) (text : List ℕ) (c : Cursor) (rest : Rest) (o : WalkState)
    (d : ℕ)
    (cs ls : List ℕ) (T : List TokenBody → List TokenBody) → Spaced rest
    → WalkReads x text o ((d + 1) ∷ cs) ls [] T → o.depth ≡ d + 1 → Outside (d + 1) cs
    → Left text o.at (bytes (word (58 ∷ []) c rest))
    → Asked x text rest c.kept d cs ls (λ bs. T (tokens.value ∷ bs))
answer_then x text c rest o d cs ls T spaced r deep out l =
    let e = lettered_on (behind_gap c.white c) in
    let sp = sign_left 58 refl x text c rest o ((d + 1) ∷ cs) ls T r l in
    let deep1 = sp.deep ∙ deep in
    let reads1 = subst (λ (i : ℕ). WalkReads x text sp.place (i ∷ cs) ls [] T) (sym deep1) sp.reads in
    let v = answer_on x text (bytes (rest e)) sp.place cs ls T reads1 (inside_so sp.place.depth d deep1) (out_at sp.place.depth d cs deep1 out) (space_parts (bytes (rest e)) (spaced e refl)) sp.left in
    record {
      cursor = e;
      place = v.place;
      reads = v.reads;
      deep = v.deep ∙ deep1;
      now = v.begin;
      left = v.left;
      bare = refl;
      same = gap_kept c.white c;
    }

-- the key of a `?`
asked_key : (s : Settings) (ds : List TagDirective) (k : Node) → NodeIn s ds k
    → (n : ℕ) (ls : List ℕ) → indent ls ≤ n → (after : Rest) → Spaced after
    → (x : yaml_encoding_t) (text : List ℕ) (c : Cursor) (o : WalkState) (d : ℕ) (cs : List ℕ)
    (T : List TokenBody → List TokenBody)
    → WalkReads x text o ((d + 1) ∷ cs) ls [] T → o.depth ≡ d + 1 → o.now ≡ false → Outside (d + 1) cs
    → Left text o.at (bytes (node_layout (prettily s ds) (position true n part.Key) k c
    (λ e. wrap s.width s.line_break n e (λ f. word (58 ∷ []) f after))))
    → GoesIn x text (λ e. wrap s.width s.line_break n e (λ f. word (58 ∷ []) f after)) c.kept
    o.depth ((d + 1) ∷ cs) ls (λ bs. T (node_bodies (prettily s ds) true part.Key true k bs))
asked_key s ds k key n ls low after parted x text c o d cs T r deep now out l =
    key n part.Key refl true ls low (λ e. wrap s.width s.line_break n e (λ f. word (58 ∷ []) f after)) (answer_follows s.width s.line_break n after (λ e f w. space_parts (bytes (after e)) (parted e w))) c x text o ((d + 1) ∷ cs) T r (inside_so o.depth d deep)
    (inr (cs, ap (λ (i : ℕ). i ∷ cs) (sym deep), out_at o.depth d cs deep out, now)) l

-- its `:`, on the same line or a later one
asked_answer : (s : Settings) (n : ℕ) (after : Rest) → Spaced after
    → (x : yaml_encoding_t) (text : List ℕ) (c : Cursor) (o : WalkState) (d : ℕ) (cs ls : List ℕ)
    (T : List TokenBody → List TokenBody) → c.bare ≡ false → WalkReads x text o ((d + 1) ∷ cs) ls [] T
    → o.depth ≡ d + 1 → Outside (d + 1) cs
    → Left text o.at (bytes (wrap s.width s.line_break n c (λ f. word (58 ∷ []) f after)))
    → Asked x text after c.kept d cs ls (λ bs. T (tokens.value ∷ bs))
asked_answer s n after parted x text c o d cs ls T bare r deep out l =
    let t = wrap_in s.width s.line_break n x text c (λ f. word (58 ∷ []) f after) o ((d + 1) ∷ cs) ls T bare r l in
    let v = answer_then x text t.cursor after t.place d cs ls T parted t.reads (t.deep ∙ deep) out t.left in
    record { cursor = v.cursor; place = v.place; reads = v.reads; deep = v.deep; now = v.now; left = v.left; bare = v.bare; same = v.same ∙ t.same }

asked_in : (s : Settings) (ds : List TagDirective) (k : Node) → NodeIn s ds k
    → (n : ℕ) (ls : List ℕ) → indent ls ≤ n
    → (a : Layout) (B : List TokenBody → List TokenBody) (rest : Rest) → Spaced (λ e. a e rest)
    → ((r : Rest) → Spaced (λ e. node_layout (prettily s ds) (position true n part.Key) k e r))
    → MoreIn a B ls rest
    → PairIn (word (63 ∷ []) ▹ (node_layout (prettily s ds) (position true n part.Key) k ▹
    ((wrap s.width s.line_break n ▹ word (58 ∷ [])) ▹ a)))
    (λ bs. tokens.key ∷ node_bodies (prettily s ds) true part.Key true k (tokens.value ∷ B bs)) ls
    rest
asked_in s ds k key n ls low a B rest parted starts value c x text o d cs T r deep now out l =
    let p = prettily s ds in
    let after : Rest = λ e. a e rest in
    let answer : Rest = λ e. wrap s.width s.line_break n e (λ f. word (58 ∷ []) f after) in
    let q = ask_then x text c (λ e. node_layout p (position true n part.Key) k e answer) o d cs ls T (starts answer) r deep out l in
    let g = asked_key s ds k key n ls low after parted x text q.cursor q.place d cs (λ bs. T (tokens.key ∷ bs)) q.reads q.deep q.now out q.left in
    let v = asked_answer s n after parted x text g.behind g.place d cs ls (λ bs. T (tokens.key ∷ node_bodies p true part.Key true k bs)) g.bare g.reads (g.deep ∙ q.deep) out g.left in
    let h = value v.cursor v.bare x text v.place d cs (λ bs. T (tokens.key ∷ node_bodies p true part.Key true k (tokens.value ∷ bs))) v.reads v.deep out v.left in
    kept_as x text rest v.cursor.kept c.kept d cs ls (λ bs. T (tokens.key ∷ node_bodies p true part.Key true k (tokens.value ∷ B bs))) (v.same ∙ (g.same ∙ q.same)) h

-- a simple key and its `:`
keyed_in : (s : Settings) (ds : List TagDirective) (k : Node) → KeyWalksIn (prettily s ds) k
    → (n : ℕ) (ls : List ℕ) → indent ls ≤ n
    → (a : Layout) (B : List TokenBody → List TokenBody) (rest : Rest) → Spaced (λ e. a e rest)
    → MoreIn a B ls rest
    → PairIn (node_layout (prettily s ds) (position true n part.SimpleKey) k ▹ (char 58 ▹ a))
    (λ bs. tokens.key ∷ node_bodies (prettily s ds) true part.SimpleKey false k
    (tokens.value ∷ B bs)) ls rest
keyed_in s ds k key n ls low a B rest parted value c x text o d cs T r deep now out l =
    let p = prettily s ds in
    let after : Rest = λ e. a e rest in
    let g = key n ls c after low (λ e f w. space_parts (bytes (after e)) (parted e w)) x text o cs T r (inside_so o.depth d deep) now (out_at o.depth d cs deep out) l in
    let h = value g.behind g.bare x text g.place d cs (λ bs. T (tokens.key ∷ node_bodies p true part.SimpleKey false k (tokens.value ∷ bs))) g.reads (g.deep ∙ deep) out g.left in
    kept_as x text rest g.behind.kept c.kept d cs ls (λ bs. T (tokens.key ∷ node_bodies p true part.SimpleKey false k (tokens.value ∷ B bs))) g.same h

-- a key in both forms
pub record KeyIn (s : Settings) (ds : List TagDirective) (k : Node) : Type 0 where
  pub simple : is_simple (prettily s ds) k ≡ true → KeyWalksIn (prettily s ds) k
  pub node : NodeIn s ds k
  pub starts : (n : ℕ) (rest : Rest)
      → Spaced (λ e. node_layout (prettily s ds) (position true n part.Key) k e rest)

pub pairs_first : (s : Settings) (ds : List TagDirective) (k v : Node) (ps : Pairs) → KeyIn s ds k
    → ((n : ℕ) (rest : Rest) → Spaced
    (λ e. node_layout (prettily s ds) (position true n part.Value) v e rest)) → NodeIn s ds v
    → MorePairs s ds ps → FirstPairs s ds (pair k v ps)
unfolding pairs_layout before_key before_value turned pairs_bodies
pairs_first s ds k v ps key starts value more n ls low rest c bare x text o d cs T r deep now out l =
    let p = prettily s ds in
    let b = pairs_layout p true n false ps in
    let a = node_layout p (position true n part.Value) v ▹ b in
    let C : List TokenBody → List TokenBody = λ bs. pairs_bodies p true false ps (tokens.flow_mapping_end ∷ bs) in
    let L : Bool → Layout = λ t. when (not t) (word (63 ∷ [])) ▹ (node_layout p (position true n (key_part t)) k ▹ (before_value p.settings true n t ▹ a)) in
    let W : Bool → List TokenBody → List TokenBody = λ t bs. tokens.key ∷ node_bodies p true (key_part t) (not t) k (tokens.value ∷ node_bodies p true part.Value (not t) v (C bs)) in
    let parted : Spaced (λ e. a e rest) = starts n (λ e. b e rest) in
    let walk : (t : Bool) → is_simple p k ≡ t → PairIn (L t) (W t) ls rest = λ t same. elim (cases_Bool t) [
      | inl y ↦ subst (λ (u : Bool). PairIn (L u) (W u) ls rest) (sym y) (keyed_in s ds k (key.simple (same ∙ y)) n ls low a (λ bs. node_bodies p true part.Value false v (C bs)) rest parted (value_in s ds v ps value more false n ls low rest))
      | inr y ↦ subst (λ (u : Bool). PairIn (L u) (W u) ls rest) (sym y) (asked_in s ds k key.node n ls low a (λ bs. node_bodies p true part.Value true v (C bs)) rest parted (key.starts n) (value_in s ds v ps value more true n ls low rest))
    ] in
    let t = wrap_in s.width s.line_break n x text c (λ e. L (is_simple p k) e rest) o cs ls T bare r l in
    let h = walk (is_simple p k) refl t.cursor x text t.place d cs T t.reads (t.deep ∙ deep) (t.now now) out t.left in
    kept_as x text rest t.cursor.kept c.kept d cs ls (λ bs. T (W (is_simple p k) bs)) t.same h

pub pairs_more : (s : Settings) (ds : List TagDirective) (k v : Node) (ps : Pairs)
    → FirstPairs s ds (pair k v ps) → MorePairs s ds (pair k v ps)
unfolding pairs_layout before_key pairs_bodies
pairs_more s ds k v ps whole n ls low rest =
    let p = prettily s ds in
    comma_then (pairs_layout p true n true (pair k v ps)) (λ bs. pairs_bodies p true true (pair k v ps) (tokens.flow_mapping_end ∷ bs)) ls rest (whole n ls low rest)

-- ---- the opening bracket

opening_low : (mapping : Bool) → nat_lt (opening_of mapping) 128 ≡ true
opening_low true = refl
opening_low false = refl

right_space : (d c e : ℕ) (ls : List ℕ) → c ≤ e → IsRight d ls c → IsRight d ls e
right_space d c e ls up (inl h) = inl h
right_space d c e ls up (inr h) = inr (omega (arith, up, h))

clear_out : (o : WalkState) (cs : List ℕ) → IsClear o cs → Outside (o.depth + 1) cs
unfolding Outside
clear_out o cs (inl out) = deeper_out o.depth cs out
clear_out o cs (inr (ds, same, out, off)) = subst (λ (es : List ℕ). Outside (o.depth + 1) es) (sym same) ((omega arith, deeper_out o.depth ds out))

-- a collection's brackets, at any depth
pub opened_in : (mapping : Bool) (a : Layout) (B : List TokenBody → List TokenBody) (ls : List ℕ)
    (rest : Rest) → BodyIn a B ls rest
    → (c : Cursor) (x : yaml_encoding_t) (text : List ℕ) (o : WalkState) (cs : List ℕ)
    (T : List TokenBody → List TokenBody) → WalkReads x text o cs ls [] T
    → IsRight o.depth ls (column_at text o.at) → IsClear o cs
    → Left text o.at (bytes ((opener (opening_of mapping) ▹ a) c rest))
    → Closed x text rest c.kept o.depth cs ls (λ bs. T (opens mapping ∷ B bs))
opened_in mapping a B ls rest body c x text o cs T r right clear l =
    let K : Rest = λ e. letter (opening_of mapping) ∷ a (record { column = e.column + 1; white = true; bare = false; kept = e.kept }) rest in
    let e = behind_gap c.white c in
    let f : Cursor = record { column = e.column + 1; white = true; bare = false; kept = e.kept } in
    let sp = space_on (not c.white) x text (bytes (K e)) o cs ls [] T r (gap_left text o.at c.white c K l) in
    let m = left_letter text sp.place.at (opening_of mapping) (a f rest) (opening_low mapping) sp.left in
    let clear1 = clear_same o sp.place cs sp.deep sp.same clear in
    let right1 = subst (λ (d : ℕ). IsRight d ls (column_at text sp.place.at)) (sym sp.deep) (right_space o.depth (column_at text o.at) (column_at text sp.place.at) ls sp.right right) in
    let g = opener_on mapping x text (bytes (a f rest)) sp.place cs ls T sp.reads right1 clear1 m in
    let out = subst (λ (d : ℕ). Outside (d + 1) cs) sp.deep (clear_out sp.place cs clear1) in
    let h = body f refl x text g.place o.depth cs (λ bs. T (opens mapping ∷ bs)) g.reads (g.deep ∙ ap (λ (d : ℕ). d + 1) sp.deep) g.begin out g.left in
    kept_as x text rest e.kept c.kept o.depth cs ls (λ bs. T (opens mapping ∷ B bs)) (gap_kept c.white c) h

-- as content in brackets
pub bracket_in : (mapping : Bool) (a : Layout) (B : List TokenBody → List TokenBody) (ls : List ℕ)
    (rest : Rest) → BodyIn a B ls rest → (c : Cursor)
    → WalksIn (opener (opening_of mapping) ▹ a) (λ bs. opens mapping ∷ B bs) ls c rest
bracket_in mapping a B ls rest body c x text o cs T r deep clear l =
    let g = opened_in mapping a B ls rest body c x text o cs T r (inl deep) clear l in
    record { behind = g.behind; place = g.place; reads = g.reads; deep = g.deep; now = g.now; left = g.left; bare = g.bare; white = g.white; same = g.same }

-- ==== Properties, scalars and aliases as content in brackets.

-- the laws of lower crates that words in brackets need
pub record WordLaws : Type 0 where
  pub names : AnchorReads
  pub lone : LoneMarkReads
  pub split : SplitTagsAreRead
  pub ascii : ReadableTagsAreAscii
  pub readable : WrittenTagsAreReadable
  pub quoted : QuotedIsReadBack
  pub singles : SingleLinesAreReadBack
  pub plains : PlainIsReadBack
  pub gaps : PlainHasGap
  pub words : ScalarsAreWords
  pub styles : StylesAreAllowed

pub walks_checked : (ls : List ℕ) (n : ℕ) (a : Layout) (B : List TokenBody → List TokenBody)
    (c : Cursor) (rest : Rest) → WalksIn a B ls c rest → WalksIn (checked n ▹ a) B ls c rest
walks_checked ls n a B c rest w x text o cs T r deep clear l = w x text o cs T r deep clear (subst (λ (bs : List ℕ). Left text o.at bs) (deep_bytes (nat_lt MOST n) (a c rest)) l)

-- ---- properties

pub anchor_in : WordLaws → (ls : List ℕ) (anchor : Option (List ℕ)) → IsWritableAnchor anchor
    → (b : Layout) (B : List TokenBody → List TokenBody) (rest : Rest) → Spaced (λ e. b e rest)
    → ((e : Cursor) → WalksIn b B ls e rest) → (c : Cursor)
    → WalksIn (anchor_text anchor ▹ b) (λ bs. anchor_bodies anchor (B bs)) ls c rest
anchor_in laws ls None good b B rest spaced w c = w c
anchor_in laws ls (Some name) good b B rest spaced w c =
    let says = anchor_says laws.names true (indent ls) name good c in
    let k : Rest = λ e. b e rest in
    both ls (word (38 ∷ name)) b (λ bs. tokens.anchor name ∷ bs) B c rest
    (word_walks ls (word (38 ∷ name)) c (anchor_word laws.names true (indent ls) (not c.white) name good) says k (space_parts (bytes (k says.behind)) (spaced says.behind says.white))) (λ e bare white. w e)

pub tag_in : WordLaws → (o : Opening) → IsWritableOpening o
    → (s : Settings) (ls : List ℕ) (tag : Option (List ℕ)) → IsWritableTag tag
    → (b : Layout) (B : List TokenBody → List TokenBody) (rest : Rest) → Spaced (λ e. b e rest)
    → ((e : Cursor) → WalksIn b B ls e rest) → (c : Cursor)
    → WalksIn (tag_text (prettily s o.directives) tag ▹ b)
    (λ bs. tag_bodies o.directives tag (B bs)) ls c rest
tag_in laws o fine s ls None good b B rest spaced w c = w c
tag_in laws o fine s ls (Some t) good b B rest spaced w c =
    let says = tag_says laws.split laws.ascii laws.readable true (indent ls) o fine t good c in
    let k : Rest = λ e. b e rest in
    both ls (word (tag_spelling o.directives t)) b (λ bs. tag_body (split_tag o.directives t) ∷ bs) B c rest
    (word_walks ls (word (tag_spelling o.directives t)) c (tag_word laws.split laws.ascii laws.readable true (indent ls) (not c.white) o fine t good) says k (space_parts (bytes (k says.behind)) (spaced says.behind says.white))) (λ e bare white. w e)

pub mark_in : WordLaws
    → (ls : List ℕ) (m : Bool) (b : Layout) (B : List TokenBody → List TokenBody) (rest : Rest)
    → Spaced (λ e. b e rest) → ((e : Cursor) → WalksIn b B ls e rest) → (c : Cursor)
    → WalksIn (when m (word (33 ∷ [])) ▹ b) (λ bs. mark_bodies m (B bs)) ls c rest
mark_in laws ls false b B rest spaced w c = w c
mark_in laws ls true b B rest spaced w c =
    let says = mark_says laws.lone true (indent ls) c in
    let k : Rest = λ e. b e rest in
    both ls (word (33 ∷ [])) b (λ bs. tokens.tag [] (33 ∷ []) ∷ bs) B c rest
    (word_walks ls (word (33 ∷ [])) c (mark_word laws.lone true (indent ls) (not c.white)) says k (spaced says.behind says.white)) (λ e bare white. w e)

tag_spaced : (p : Context) (tag : Option (List ℕ)) (a : Layout) (rest : Rest)
    → Spaced (λ e. a e rest) → Spaced (λ e. (tag_text p tag ▹ a) e rest)
tag_spaced p None a rest h = h
tag_spaced p (Some t) a rest h = gap_spaced (letters (tag_spelling p.directives t) ▹ a) rest

pub properties_in : WordLaws → (o : Opening) → IsWritableOpening o
    → (s : Settings) (ls : List ℕ) (anchor tag : Option (List ℕ)) → IsWritableAnchor anchor
    → IsWritableTag tag → (b : Layout) (B : List TokenBody → List TokenBody) (rest : Rest)
    → Spaced (λ e. b e rest)
    → ((e : Cursor) → WalksIn b B ls e rest) → (c : Cursor)
    → WalksIn (properties_text (prettily s o.directives) anchor tag ▹ b)
    (λ bs. anchor_bodies anchor (tag_bodies o.directives tag (B bs))) ls c rest
properties_in laws o fine s ls anchor tag good right b B rest spaced w c =
    let p = prettily s o.directives in
    anchor_in laws ls anchor good (tag_text p tag ▹ b) (λ bs. tag_bodies o.directives tag (B bs)) rest (tag_spaced p tag b rest spaced) (λ e. tag_in laws o fine s ls tag right b B rest spaced w e) c

-- ---- scalars

filled : (unicode : Bool) (value : List ℕ) → may_be_plain unicode true (chars value) ≡ true
    → 0 < length value
unfolding allowed chars
filled unicode [] e = absurd (cc)
filled unicode (b ∷ bs) e = omega arith

quote_unlike : (bs : List ℕ) → ends_name bs ≡ true → first bs ≡ 39 → ⊥
quote_unlike bs h e = grind (arith, nat_tests)

-- the text of a scalar, by its style
text_in : WordLaws → (p : Context) (n : ℕ) (q : Part) (x : Scalar) → IsUtf8 x.value
    → 0 < p.settings.indent → (ls : List ℕ) → indent ls ≤ n → (rest : Rest) → FollowsIn rest
    → (s : Style) → style_of p (position true n q) x ≡ s → (c : Cursor)
    → WalksIn (scalar_text (page_at p.settings (position true n q)) p.settings.indent true s
    (chars x.value)) (λ bs. tokens.scalar x.value (style_named s) ∷ bs) ls c rest
unfolding scalar_text
text_in laws p n q x u deep ls low rest follows style.Plain same c =
    let page = page_at p.settings (position true n q) in
    let may = (laws.styles p (position true n q) x).0 same in
    let some = filled p.settings.unicode x.value may in
    let far : indent ls ≤ page.indentation = omega (arith, low) in
    let deeper : 0 < page.indentation = omega (arith, deep) in
    let says = plain_says laws.gaps laws.plains laws.words true (indent ls) page x.value u some may deeper far c in
    word_walks ls (plain page true (chars x.value)) c (plain_word laws.words true (indent ls) (not c.white) page (behind_gap c.white c) x.value (laws.plains page true (indent ls) (behind_gap c.white c) x.value u some may deeper far)) says rest
    (follows.stops (indent ls) says.behind says.bare says.white, follows.calm says.behind says.bare says.white)
text_in laws p n q x u deep ls low rest follows style.Single same c =
    let page = page_at p.settings (position true n q) in
    let may = (laws.styles p (position true n q) x).1 same in
    let deeper : 0 < page.indentation = omega (arith, deep) in
    let says = single_says laws.singles laws.words true (indent ls) page x.value u deeper may c in
    word_walks ls (single_quoted page (chars x.value)) c (single_word laws.words true (indent ls) (not c.white) page (behind_gap c.white c) x.value (laws.singles page (behind_gap c.white c) x.value u (λ cuts. deeper) (λ lines. deeper) may)) says rest
    (quote_unlike (bytes (rest says.behind)) (follows.name says.behind says.bare says.white))
text_in laws p n q x u deep ls low rest follows style.Double same c =
    let page = page_at p.settings (position true n q) in
    let deeper : 0 < page.indentation = omega (arith, deep) in
    let says = double_says laws.quoted true (indent ls) page x.value u deeper c in
    word_walks ls (quoted_text page (chars x.value)) c (double_word true (indent ls) (not c.white) page (behind_gap c.white c) x.value (laws.quoted page (behind_gap c.white c) x.value u (λ cuts. deeper))) says rest tt
text_in laws p n q x u deep ls low rest follows style.Literal same c = let no_flow = ((laws.styles p (position true n q) x).2 same).1 in absurd (true≢false no_flow)
text_in laws p n q x u deep ls low rest follows style.Folded same c = let no_flow = ((laws.styles p (position true n q) x).3 same).1 in absurd (true≢false no_flow)

pub scalar_in : WordLaws → (o : Opening) → IsWritableOpening o → (s : Settings) → 0 < s.indent
    → (x : Scalar) → IsWritableAnchor x.anchor → IsWritableTag x.tag → IsUtf8 x.value
    → (n : ℕ) (q : Part) (bare : Bool) (ls : List ℕ) → indent ls ≤ n → (rest : Rest)
    → FollowsIn rest → (c : Cursor)
    → WalksIn (node_layout (prettily s o.directives) (position true n q) (scalar_node x))
    (node_bodies (prettily s o.directives) true q bare (scalar_node x)) ls c rest
unfolding node_layout scalar_layout node_bodies style_of
scalar_in laws o fine s deep x anchor tag u n q bare ls low rest follows c =
    let p = prettily s o.directives in
    let at = position true n q in
    let st = style_of p at x in
    let text = scalar_text (page_at p.settings at) p.settings.indent true st (chars x.value) in
    let m = not (has (scalar_tag false x)) && (not x.quoted && not (is_plain st)) in
    let B : List TokenBody → List TokenBody = λ bs. tokens.scalar x.value (style_named st) ∷ bs in
    let k = n + s.indent in
    let content : (e : Cursor) → WalksIn (checked k ▹ text) B ls e rest = λ e. walks_checked ls k text B e rest (text_in laws p n q x u deep ls low rest follows st refl e) in
    let spaced = checked_spaced k text rest (text_spaced (page_at p.settings at) p.settings.indent st (chars x.value) rest) in
    let D : Style → List TokenBody → List TokenBody = λ y bs. anchor_bodies x.anchor (tag_bodies o.directives (scalar_tag false x) (mark_bodies (not (has (scalar_tag false x)) && (not x.quoted && not (is_plain y))) (tokens.scalar x.value (style_named y) ∷ bs))) in
    subst (λ (y : Style). WalksIn (properties_text p x.anchor (scalar_tag false x) ▹ (when m (word (33 ∷ [])) ▹ (checked k ▹ text))) (D y) ls c rest) refl
    (properties_in laws o fine s ls x.anchor (scalar_tag false x) anchor (kept_writable (not (x.plain || x.quoted)) x.tag tag) (when m (word (33 ∷ [])) ▹ (checked k ▹ text)) (λ bs. mark_bodies m (B bs)) rest (mark_spaced m (checked k ▹ text) rest spaced)
    (λ e. mark_in laws ls m (checked k ▹ text) B rest spaced content e) c)

pub alias_in : WordLaws → (s : Settings) (ds : List TagDirective) (name : List ℕ)
    → IsWritableName name → (n : ℕ) (q : Part) → is_simple_part q ≡ false
    → (bare : Bool) (ls : List ℕ) (rest : Rest) → FollowsIn rest → (c : Cursor)
    → WalksIn (node_layout (prettily s ds) (position true n q) (alias_node name))
    (node_bodies (prettily s ds) true q bare (alias_node name)) ls c rest
unfolding node_layout alias_layout node_bodies
alias_in laws s ds name good n q part bare ls rest follows c =
    let says = alias_says laws.names true (indent ls) name good c in
    subst (λ (b : Bool). WalksIn (word (42 ∷ name) ▹ when b (char 32)) (λ bs. tokens.alias name ∷ bs) ls c rest) (sym part)
    (word_walks ls (word (42 ∷ name)) c (alias_word laws.names true (indent ls) (not c.white) name good) says rest (follows.name says.behind says.bare says.white))
