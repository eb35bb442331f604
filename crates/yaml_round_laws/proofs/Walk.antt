-- A JSON text is walked: its tokens are those of its value.
use Rattle.std.proofs.Common.{◌≡◌, ℕ, ◌+◌, ◌==◌, ◌||◌, not, nat_lt, Bool, true, false, List, [], ◌∷◌, ◌++◌, length, refl, sym, ap, subst, ◌∙◌, inl, inr, arith, append-nil}
use Rattle.yaml_round_laws.proofs.JsonWords.{true≢false, or_parts, and_parts, nat_tests, byte, TokenBody, are_gap, has, WalkState, Done, marks_come, walk_starts, walk_white, walk_stops, walk_says, Left, json_bodies, json_items, json_pairs, document_bodies, left_rest, end_begins, is_white, are_white, Value, literal, number, string, empty_array, array, empty_object, object, Elements, last_element, element, Members, last_member, member, literal_bytes, number_bytes, value_bytes, elements_bytes, members_bytes, IsValue, AreElements, AreMembers, Text, IsJsonText, json_value, json_node, json_nodes, json_document, is_bare, has_tab, has_tab_below, IsUsual, AreUsual, MembersAreUsual, IsUsualText}
use Rattle.yaml_scan_history.specs.scan_model.declared.name.yaml_encoding_t.{yaml_encoding_t}
use Rattle.yaml_round_content.specs.scan_types.Tokens as tokens
use Rattle.yaml_emit_laws.proofs.Places as places
use Rattle.yaml_round_laws.specs.Values as values
use Rattle.yaml_round_laws.proofs.Whites.{tabs_fit}
use Rattle.yaml_round_laws.proofs.Strings.{literal_plain, number_plain, value_begins, elements_begin, members_begin}
use Rattle.yaml_round_laws.proofs.Steps.{Tell, Behind, At, Ready, nothing_left, opener_step, closer_step, comma_step, plain_step, string_step, key_step}
use Rattle.yaml_emit_laws.proofs.Lining.{no_gap}

flow_fits : (d : ℕ) (ws : List ℕ) → nat_lt 0 d ≡ true → tabs_fit (nat_lt 0 d) false ws ≡ true
flow_fits d ws e = by (nat_lt 0 d) e
  where
    by : (flow : Bool) → flow ≡ true → tabs_fit flow false ws ≡ true
    by true e = refl
    by false e = absurd (true≢false (sym e))

deeper : (d : ℕ) → nat_lt 0 (d + 1) ≡ true
deeper d = grind (arith, nat_tests)

-- another spelling of the same tokens
says_as : (x : yaml_encoding_t) (text bs : List ℕ) (d : ℕ) (T U : Tell)
    → ((es : List TokenBody) → T es ≡ U es) → At x text bs d T → At x text bs d U
says_as x text bs d T U e a = record { place = a.place; reads = walk_says.other x text a.place [] [] [] T U a.reads e; deep = a.deep; left = a.left }

-- after a comma come elements, or members
more_elements : (elements : Elements) (es : List TokenBody)
    → json_items false (json_nodes (values.json_elements elements)) es ≡ tokens.flow_entry
    ∷ json_items true (json_nodes (values.json_elements elements)) es
unfolding json_items
more_elements (last_element v a) es = refl
more_elements (element v a b elements) es = refl

more_members : (members : Members) (es : List TokenBody)
    → json_pairs false (values.json_pairs (values.json_members members)) es ≡ tokens.flow_entry
    ∷ json_pairs true (values.json_pairs (values.json_members members)) es
unfolding json_pairs
more_members (last_member k a b v c) es = refl
more_members (member k a b v c d members) es = refl

-- ---- by cases

abbrev pub ValueWalks : Value → Type 0
ValueWalks v = IsValue v → IsUsual v → (x : yaml_encoding_t) (text ws bs : List ℕ) (d : ℕ) (T : Tell) → are_white ws ≡ true → (is_bare v ≡ false → tabs_fit (nat_lt 0 d) false ws ≡ true) → Behind d bs
    → At x text (value_bytes v (ws ++ bs)) d T → At x text bs d (λ es. T (json_bodies (json_node (json_value v)) es))

abbrev pub ElementsWalk : Elements → Type 0
ElementsWalk elements = AreElements elements → AreUsual elements → (x : yaml_encoding_t) (text bs : List ℕ) (d : ℕ) (T : Tell) → nat_lt 0 d ≡ true
    → At x text (elements_bytes elements (93 ∷ bs)) d T → At x text (93 ∷ bs) d (λ es. T (json_items true (json_nodes (values.json_elements elements)) es))

abbrev pub MembersWalk : Members → Type 0
MembersWalk members = AreMembers members → MembersAreUsual members → (x : yaml_encoding_t) (text bs : List ℕ) (d : ℕ) (T : Tell) → nat_lt 0 d ≡ true
    → Ready x text (members_bytes members (125 ∷ bs)) d T → At x text (125 ∷ bs) d (λ es. T (json_pairs true (values.json_pairs (values.json_members members)) es))

literal_walks : (l : _) → ValueWalks (literal l)
unfolding value_bytes json_bodies
literal_walks l h u x text ws bs d T white fits next a = plain_step x text (literal_bytes l) ws bs d T (literal_plain l) a white next

number_walks : (n : _) → ValueWalks (number n)
unfolding value_bytes json_bodies
number_walks n h u x text ws bs d T white fits next a = plain_step x text (number_bytes n) ws bs d T (number_plain n h) a white next

string_walks : (ls : _) → ValueWalks (string ls)
unfolding value_bytes json_bodies
string_walks ls h u x text ws bs d T white fits next a = string_step x text ls ws bs d T h u a white (fits refl) next

empty_array_walks : (w : List ℕ) → ValueWalks (empty_array w)
unfolding value_bytes json_bodies json_items
empty_array_walks w h u x text ws bs d T white fits next a =
    closer_step false x text ws bs d (λ es. T (tokens.flow_sequence_start ∷ es)) (opener_step false x text w (93 ∷ (ws ++ bs)) d T a h refl).at white (fits refl) next

empty_object_walks : (w : List ℕ) → ValueWalks (empty_object w)
unfolding value_bytes json_bodies json_pairs
empty_object_walks w h u x text ws bs d T white fits next a =
    closer_step true x text ws bs d (λ es. T (tokens.flow_mapping_start ∷ es)) (opener_step true x text w (125 ∷ (ws ++ bs)) d T a h refl).at white (fits refl) next

array_walks : (w : List ℕ) (elements : Elements) → ElementsWalk elements
    → ValueWalks (array w elements)
unfolding value_bytes json_bodies
array_walks w elements inner (hw, h) u x text ws bs d T white fits next a =
    let open_at = opener_step false x text w (elements_bytes elements (93 ∷ (ws ++ bs))) d T a hw (elements_begin elements h (93 ∷ (ws ++ bs))) in
    let end_at = inner h u x text (ws ++ bs) (d + 1) (λ es. T (tokens.flow_sequence_start ∷ es)) (deeper d) open_at.at in
    closer_step false x text ws bs d (λ es. T (tokens.flow_sequence_start ∷ json_items true (json_nodes (values.json_elements elements)) es)) end_at white (fits refl) next

object_walks : (w : List ℕ) (members : Members) → MembersWalk members
    → ValueWalks (object w members)
unfolding value_bytes json_bodies
object_walks w members inner (hw, h) u x text ws bs d T white fits next a =
    let open_at = opener_step true x text w (members_bytes members (125 ∷ (ws ++ bs))) d T a hw (members_begin members (125 ∷ (ws ++ bs))) in
    let end_at = inner h u x text (ws ++ bs) (d + 1) (λ es. T (tokens.flow_mapping_start ∷ es)) (deeper d) open_at in
    closer_step true x text ws bs d (λ es. T (tokens.flow_mapping_start ∷ json_pairs true (values.json_pairs (values.json_members members)) es)) end_at white (fits refl) next

last_element_walks : (v : Value) (a : List ℕ) → ValueWalks v → ElementsWalk (last_element v a)
unfolding elements_bytes json_items
last_element_walks v a own (h, ha) u x text bs d T deep at =
    own h u x text a (93 ∷ bs) d T ha (λ bare. flow_fits d a deep) (deep, inr (inl refl)) at

element_walks : (v : Value) (a b : List ℕ) (elements : Elements) → ValueWalks v
    → ElementsWalk elements → ElementsWalk (element v a b elements)
unfolding elements_bytes json_items
element_walks v a b elements own inner (h, ha, hb, hs) (u, us) x text bs d T deep at =
    let rest = elements_bytes elements (93 ∷ bs) in
    let B : Tell = json_bodies (json_node (json_value v)) in
    let one = own h u x text a (44 ∷ (b ++ rest)) d T ha (λ bare. flow_fits d a deep) (deep, inl refl) at in
    let two = comma_step x text b rest d (λ es. T (B es)) one deep hb (elements_begin elements hs (93 ∷ bs)) in
    let all = inner hs us x text bs d (λ es. T (B (tokens.flow_entry ∷ es))) deep two.at in
    says_as x text (93 ∷ bs) d _ _ (λ es. ap (λ (ts : List TokenBody). T (B ts)) (sym (more_elements elements es))) all

last_member_walks : (k : _) (a b : List ℕ) (v : Value) (c : List ℕ) → ValueWalks v
    → MembersWalk (last_member k a b v c)
unfolding members_bytes json_pairs json_bodies
last_member_walks k a b v c own (hk, ha, hb, h, hc) (kept, near, u) x text bs d T deep at =
    let rest = value_bytes v (c ++ 125 ∷ bs) in
    let one = key_step x text k a b rest d T hk kept near deep at ha hb (value_begins v h (c ++ 125 ∷ bs)) in
    own h u x text c (125 ∷ bs) d _ hc (λ bare. flow_fits d c deep) (deep, inr (inr refl)) one

member_walks : (k : _) (a b : List ℕ) (v : Value) (c e : List ℕ) (members : Members) → ValueWalks v
    → MembersWalk members → MembersWalk (member k a b v c e members)
unfolding members_bytes json_pairs json_bodies
member_walks k a b v c e members own inner (hk, ha, hb, h, hc, he, hs) (kept, near, u, us) x text bs d T deep at =
    let rest = members_bytes members (125 ∷ bs) in
    let more = c ++ 44 ∷ (e ++ rest) in
    let B : Tell = json_bodies (json_node (json_value v)) in
    let one = key_step x text k a b (value_bytes v more) d T hk kept near deep at ha hb (value_begins v h more) in
    let two = own h u x text c (44 ∷ (e ++ rest)) d _ hc (λ bare. flow_fits d c deep) (deep, inl refl) one in
    let three = comma_step x text e rest d _ two deep he (members_begin members (125 ∷ bs)) in
    let all = inner hs us x text bs d _ deep three in
    let K : Tell = λ es. T (json_pairs true (values.json_pairs (values.pair (values.letters_mean k) (json_value v) values.no_pairs)) es) in
    says_as x text (125 ∷ bs) d _ _ (λ es. ap (λ (ts : List TokenBody). K ts) (sym (more_members members es))) all

-- ---- whole

mutual
  pub value_walks : (v : Value) → ValueWalks v
  value_walks (literal l) = literal_walks l
  value_walks (number n) = number_walks n
  value_walks (string ls) = string_walks ls
  value_walks (empty_array w) = empty_array_walks w
  value_walks (array w elements) = array_walks w elements (elements_walk elements)
  value_walks (empty_object w) = empty_object_walks w
  value_walks (object w members) = object_walks w members (members_walk members)

  elements_walk : (elements : Elements) → ElementsWalk elements
  elements_walk (last_element v a) = last_element_walks v a (value_walks v)
  elements_walk (element v a b elements) = element_walks v a b elements (value_walks v) (elements_walk elements)

  members_walk : (members : Members) → MembersWalk members
  members_walk (last_member k a b v c) = last_member_walks k a b v c (value_walks v)
  members_walk (member k a b v c d members) = member_walks k a b v c d members (value_walks v) (members_walk members)

-- ---- texts

white_gap : (b : ℕ) → is_white b ≡ true → (b == 9) ≡ false
    → (b == 32 || (b == 10 || b == 13)) ≡ true
white_gap b h k = grind (arith, nat_tests)

front_gap : (ws : List ℕ) → are_white ws ≡ true → has_tab ws ≡ false → are_gap ws ≡ true
front_gap [] h k = refl
front_gap (w ∷ ws) h k =
    let (here, rest) = and_parts (is_white w) (are_white ws) h in
    let (none, more) = or_parts (w == 9) (has_tab ws) k in
    rw (white_gap w here none) (front_gap ws rest more)

-- the first word of the text
first_word : (x : yaml_encoding_t) (text front bs : List ℕ) → text ≡ front ++ bs
    → are_white front ≡ true → has_tab front ≡ false
    → At x text bs 0 (λ es. tokens.stream_start x ∷ es)
first_word x text front bs same white calm =
    let z : 0 + length text ≡ length text = omega arith in
    let whole : Left text 0 text = record { has = has text 0 text (λ k few. let y : 0 + k ≡ k = omega arith in ap (λ (i : ℕ). byte text i) y); ends = z } in
    let all = subst (λ (ys : List ℕ). Left text 0 ys) same whole in
    let o : WalkState = record { at = 0; line = 0; depth = 0; now = true; broken = true } in
    record {
      place = _;
      reads = walk_white x text o [] [] [] (λ es. tokens.stream_start x ∷ es) front (walk_starts x text) (places.has_at text 0 front (places.has_front text 0 front bs all.has)) (front_gap front white calm);
      deep = refl;
      left = left_rest text 0 front bs all;
    }

back_fits : (v : Value) (back : List ℕ) → (is_bare v || not (has_tab_below back)) ≡ true
    → is_bare v ≡ false → tabs_fit (nat_lt 0 0) false back ≡ true
back_fits v back h k = by (is_bare v) h k
  where
    by : (b : Bool) → (b || not (has_tab_below back)) ≡ true → b ≡ false
        → not (has_tab_below back) ≡ true
    by true h k = absurd (true≢false k)
    by false h k = h

-- nothing is left
stopped : (x : yaml_encoding_t) (text : List ℕ) (T : Tell) → At x text [] 0 T
    → Done x text (T (tokens.stream_end ∷ []))
stopped x text T a =
    let p = a.place.at in
    let z : p + 0 ≡ p = omega arith in
    let zero_byte = nothing_left text p a.left in
    let comes = marks_come.stops text p 0 [] (no_gap text p (end_begins text p zero_byte)) (ap (λ n. byte text n) z ∙ zero_byte) in
    walk_stops x text a.place [] T [] _ _ a.reads a.deep comes

-- A JSON text without exceptions has the tokens of its value, without fault.
pub text_done : (x : yaml_encoding_t) (text : List ℕ) (t : Text) → IsJsonText text t → IsUsualText t
    → Done x text (tokens.stream_start x ∷ document_bodies (json_document (json_value t.value)))
text_done x text t is usual =
    let back : value_bytes t.value t.back ≡ value_bytes t.value (t.back ++ []) = ap (λ (bs : List ℕ). value_bytes t.value bs) (sym (append-nil t.back)) in
    let first = first_word x text t.front (value_bytes t.value (t.back ++ [])) (is.spelled ∙ ap (λ (bs : List ℕ). t.front ++ bs) back) is.front usual.front in
    let last = value_walks t.value is.value usual.value x text t.back [] 0 (λ es. tokens.stream_start x ∷ es) is.back (back_fits t.value t.back usual.back) refl first in
    stopped x text (λ es. tokens.stream_start x ∷ json_bodies (json_node (json_value t.value)) es) last
